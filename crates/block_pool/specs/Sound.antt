-- What holds of a pool's parts.
use Rattle.std.specs.Prelude.{◌≡◌, ℕ, List, length, Option, IfSome}
use Rattle.std.specs.Global.{Vec}
use Rattle.block_pool.specs.Occupied.{Occupied}

-- as many classes and states as rows, and a buffer as wide as a lifted slot
pub record IsSound (slots : Occupied) (words : List (List ℕ)) (buffer : Option (Vec ℕ)) (most : ℕ) : Type 0 where
  pub classes : length slots.classes ≡ length words
  pub states : length slots.states ≡ length words
  pub buffer_len : IfSome buffer (λ v. length v.items ≡ most)
