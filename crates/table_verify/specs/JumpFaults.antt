-- Where a jump of tables is not that of a program.
use Rattle.std.specs.Prelude.{ℕ, ◌+◌, ◌<◌, ◌≤◌, length, Option, Some, None}
use Rattle.sial_syntax.specs.Tree.{Tree}
use Rattle.sip_tables.specs.Flatten.{flatten}
use Rattle.sip_tables.specs.Lists.{Lists}
use Rattle.table_verify.specs.Faults.{Agrees, Begins}
use Rattle.table_verify.specs.Jumps.{jumps, IsIn}

-- as many instructions as, by lines and roles, begin the code of some program
pub record IsFront (count : ℕ) (t : Lists) : Type 0 where
  pub begins : Begins count t
  pub within : count ≤ length t.code
  pub last : count < length t.code → Begins (count + 1) t → ⊥

-- one of these instructions has a jump that they tell: there is a program that begins with their lines and roles and has it, with no more than
-- these to tell it, and the tables have another
pub record JumpIsOther (at : ℕ) (t : Lists) : Type 0 where
  pub count : ℕ
  pub front : IsFront count t
  pub before : at < count
  pub program : Tree
  pub agrees : Agrees count t program
  pub reach : ℕ
  pub told : reach ≤ count
  pub theirs : IsIn (record { at = at; reach = reach }) (jumps 0 (flatten program).code)
  pub other : IsIn (record { at = at; reach = reach }) (jumps 0 t.code) → ⊥

-- a number is the first of which something holds, or there is none
abbrev pub IsFirst : (ℕ → Type 0) → Option ℕ → Type 0
IsFirst P (Some at) = P at × ((before : ℕ) → before < at → P before → ⊥)
IsFirst P None = (at : ℕ) → P at → ⊥
