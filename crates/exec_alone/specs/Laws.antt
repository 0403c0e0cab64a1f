-- How far pardos in progress have come.
use Rattle.std.specs.Prelude.{◌≡◌, ℕ, ◌+◌, ◌≤◌}
use Rattle.sial_meaning.specs.Rest.{Rest}
use Rattle.sial_meaning.specs.Setting.{Setting}
use Rattle.sial_meaning.specs.Statement.{Reading}
use Rattle.sial_meaning.specs.Step.{Work, Moved, start_work, steps}
use Rattle.exec_alone.specs.Turns.{TurnsBelow}

-- no pardo has come to more tuples than a program took steps
abbrev pub TurnsAreFew : Type 0
TurnsAreFew = (reading : Reading) (g : Setting) (count : ℕ) (w : Work) → steps reading g count (start_work g) ≡ Moved w → TurnsBelow (count + 1) w.rest

-- what is below a number is below a greater one
abbrev pub TurnsStayBelow : Type 0
TurnsStayBelow = (n m : ℕ) (rest : Rest) → n ≤ m → TurnsBelow n rest → TurnsBelow m rest
