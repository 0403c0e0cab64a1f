-- The tuples of temps, as the code keeps them.
use Rattle.std.specs.Prelude.{ℕ, List, map}
use Rattle.std.specs.Global.{Vec}
use Rattle.exec_names.specs.declared.member.Member.{Member}
use Rattle.exec_names.specs.Naming.{pair_of}

-- the members of each
abbrev pub tuples_of : List (Vec Member) → List (List (ℕ × ℕ))
tuples_of tuples = map (λ (t : Vec Member). map pair_of t.items) tuples
