-- Deeds: what an iteration of a pardo does to the world outside, and what deeds make of a state.
use Rattle.std.specs.Prelude.{ℕ, List, [], ◌∷◌, ◌++◌, slice_index_or, slice_set}
use Rattle.sial_meaning.specs.declared.trap.Trap.{Trap}
use Rattle.sial_meaning.specs.Access.{Touch}
use Rattle.sial_meaning.specs.Number.{plus}
use Rattle.sial_meaning.specs.State.{Shared, State, shared_block, with_block, accessed_words}

-- what an iteration does to the world outside
pub data Deed : Type 0 where
  -- a shared block read
  Reads : Touch → Deed
  -- a shared block replaced by these elements, added to by them, or made the greater of them
  Writes : Touch → (words : List ℕ) → Deed
  -- a number added to a partial scalar
  Adds : (scalar number : ℕ) → Deed
  -- the trap that ends the iteration
  Traps : Trap → Deed

-- the accesses among deeds
abbrev pub touches : List Deed → List Touch
touches [] = []
touches (Reads touch ∷ more) = touch ∷ touches more
touches (Writes touch words ∷ more) = touch ∷ touches more
touches (Adds scalar number ∷ more) = touches more
touches (Traps trap ∷ more) = touches more

-- the traps among deeds
abbrev pub traps : List Deed → List Trap
traps [] = []
traps (Reads touch ∷ more) = traps more
traps (Writes touch words ∷ more) = traps more
traps (Adds scalar number ∷ more) = traps more
traps (Traps trap ∷ more) = trap ∷ traps more

-- a shared block after a write
abbrev pub write_to : Touch → (words : List ℕ) → Shared → Shared
write_to touch words shared = with_block shared touch.class touch.block (accessed_words touch.kind (shared_block shared touch.class touch.block) words)

-- the shared blocks after deeds
abbrev pub written : List Deed → Shared → Shared
written [] shared = shared
written (Reads touch ∷ more) shared = written more shared
written (Writes touch words ∷ more) shared = written more (write_to touch words shared)
written (Adds scalar number ∷ more) shared = written more shared
written (Traps trap ∷ more) shared = written more shared

-- a partial scalar after an addition
abbrev pub add_to : (scalar number : ℕ) → (partials : List ℕ) → List ℕ
add_to scalar number partials = slice_set partials scalar (plus (slice_index_or partials scalar 0) number)

-- the partial scalars after deeds
abbrev pub added : List Deed → (partials : List ℕ) → List ℕ
added [] partials = partials
added (Reads touch ∷ more) partials = added more partials
added (Writes touch words ∷ more) partials = added more partials
added (Adds scalar number ∷ more) partials = added more (add_to scalar number partials)
added (Traps trap ∷ more) partials = added more partials

-- a state after deeds: its log with the accesses, its blocks with the writes, its partial scalars with the additions
abbrev pub applied : List Deed → State → State
applied deeds s = record s { log = s.log ++ touches deeds; shared = written deeds s.shared; partials = added deeds s.partials }
