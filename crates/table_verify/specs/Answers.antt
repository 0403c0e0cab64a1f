-- What is said of tables that a program has.
use Rattle.std.specs.Prelude.{◌≡◌, Result, Ok, Err}
use Rattle.sial_syntax.specs.declared.program.Program.{Program}
use Rattle.sial_syntax.specs.Tree.{Tree, tree}
use Rattle.table_verify.specs.declared.fault.VerifyFault.{VerifyFault}
use Rattle.table_verify.specs.declared.fault.VerifyFault.TheVariants.{OutOfMemory}

-- this program is the answer, unless memory ran out
abbrev pub Answers : Tree → Result Program VerifyFault → Type 0
Answers p (Ok program) = tree program ≡ p
Answers p (Err OutOfMemory) = Unit {0}
Answers p (Err _) = ⊥
