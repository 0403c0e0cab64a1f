-- Answers of calls, as the definitions give them.
use Rattle.std.specs.Prelude.{◌≡◌, ℕ, Result, Ok, Err}
use Rattle.sial_meaning.specs.declared.trap.TrapKind.{TrapKind}
use Rattle.sial_meaning.specs.LocalStep.{Answer, scalar_value}
use Rattle.sial_meaning.specs.Right as sides
use Rattle.sial_meaning.specs.Setting.{Setting}

-- what a call answered, its value seen as one of the definitions; or its trap
abbrev pub answer_of : {X Y : Type 0} → (X → Y) → Result X TrapKind → Answer Y
answer_of seen (Ok x) = Ok (seen x)
answer_of seen (Err kind) = Err kind

-- this is the number of a right side that was read, or the trap of reading it
abbrev pub IsValue : Setting → Answer sides.Side → Result ℕ TrapKind → Type 0
IsValue g (Ok side) (Ok n) = scalar_value g side ≡ n
IsValue g (Ok side) (Err kind) = ⊥
IsValue g (Err trap) (Ok n) = ⊥
IsValue g (Err trap) (Err kind) = kind ≡ trap
