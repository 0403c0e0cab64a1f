-- What tables that were written are of.
use Rattle.std.proofs.Common.{◌≡◌, ℕ, List, Ok, subst}
use Rattle.sial_syntax.specs.Tree.{tree}
use Rattle.sip_files.specs.Loading.{LoadOf}
use Rattle.sip_grant.specs.Names.{program_file}
use Rattle.sip_grant.specs.Ruled.{IsRuled}
use Rattle.sip_grant.specs.declared.ruled.Ruled.{Ruled}
use Rattle.sip_tables.specs.Flatten.{flatten}
use Rattle.sip_tables.specs.Lists.{Lists}
use Rattle.table_file.specs.Bytes.{bytes}
use Rattle.sip_compile.specs.Compiling.{ForTable}

-- A property of the file of a program's tables.
pub for_table :
    {F : Type 0}
    (load : LoadOf F)
    (old mid : F)
    (program text : List ℕ)
    (r : Ruled)
    (tables : Lists)
    (fact : List ℕ → Type 0)
    → load old (program_file program) (Ok tt) text mid
    → IsRuled text r
    → tables ≡ flatten (tree r.program)
    → fact (bytes tables)
    → ForTable load old mid program fact
for_table load old mid program text r tables fact loaded is same holds = (
  text,
  loaded,
  (tree r.program, record { source_is = is.source_is; rules = is.kept.rules }, subst (λ (t : Lists). fact (bytes t)) same holds),
)
