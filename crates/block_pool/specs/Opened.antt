-- What an opening makes.
use Rattle.std.specs.Prelude.{◌≡◌, ◌≢◌, ℕ, ◌+◌, ◌<◌, ◌==◌, false, if◌then◌else◌, List, [], ◌∷◌, ◌++◌, length, map, replicate, slice_index}
use Rattle.block_pool.specs.declared.state.State.TheVariants.{Free}
use Rattle.block_pool.specs.Memory.{Memory, class_count, last_class}

-- class after class from one on, each as often as it has slots
abbrev pub classes_from : ℕ → List ℕ → List ℕ
classes_from class [] = []
classes_from class (n ∷ ns) = replicate n class ++ classes_from (class + 1) ns

-- zeros for each slot, as many as its class is wide
abbrev pub zeros_of : List ℕ → List ℕ → List (List ℕ)
zeros_of widths classes = map (λ class. replicate (slice_index widths class) 0) classes

-- the last class that is wider than 0, from a class on, where one before it is known
abbrev pub widest_from : ℕ → ℕ → List ℕ → ℕ
widest_from known class [] = known
widest_from known class (w ∷ ws) = widest_from (if w == 0 then known else class) (class + 1) ws

-- the highest class that is wider than 0; one that no slot has where there is none
abbrev pub widest_of : List ℕ → ℕ
widest_of widths = widest_from class_count 0 widths

-- the same in other words
pub record IsWidest (widths : List ℕ) (widest : ℕ) : Type 0 where
  pub wide : widest ≢ class_count → slice_index widths widest ≢ 0
  pub above : (class : ℕ) → widest < class → slice_index widths class ≡ 0
  pub none : widest ≡ class_count → (class : ℕ) → slice_index widths class ≡ 0

-- each class names its own slots
abbrev pub each_class : List ℕ
each_class = 0 ∷ 1 ∷ 2 ∷ 3 ∷ 4 ∷ 5 ∷ 6 ∷ 7 ∷ 8 ∷ 9 ∷ 10 ∷ 11 ∷ 12 ∷ 13 ∷ 14 ∷ 15 ∷ 16 ∷ []

-- so many slots of the last class, which every class names
abbrev pub opened : ℕ → ℕ → Memory
opened slots width = record {
  classes = replicate slots last_class;
  states = replicate slots Free;
  words = replicate slots (replicate width 0);
  groups = replicate class_count last_class;
  is_lifted = false;
  widest = last_class;
  most = width;
}

-- slots of each class, all free and zeros
abbrev pub started : List ℕ → List ℕ → List ℕ → ℕ → Memory
started counts widths groups widest = record {
  classes = classes_from 0 counts;
  states = replicate (length (classes_from 0 counts)) Free;
  words = zeros_of widths (classes_from 0 counts);
  groups = groups;
  is_lifted = false;
  widest = widest;
  most = slice_index widths widest;
}

-- for each class so many slots, so wide
abbrev pub opened_classes : List ℕ → List ℕ → Memory
opened_classes slots widths = started slots widths each_class (widest_of widths)
