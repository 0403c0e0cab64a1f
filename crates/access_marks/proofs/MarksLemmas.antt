-- The marks of a list of slots.
use Rattle.std.proofs.Common.{◌≡◌, ℕ, zero, suc, ◌<◌, List, [], ◌∷◌, Option, length, get_or, map, replicate, arith, refl}
use Rattle.sial_meaning.specs.Access.{Mark}
use Rattle.access_marks.specs.Marks.{mark_at, mark_of}
use Rattle.access_marks.specs.declared.marks.Slot.{Slot}

-- a block's mark is that of its slot
pub mark_at-slot : (slots : List Slot) (block : ℕ) (d : Slot) → block < length slots → mark_at (map mark_of slots) block ≡ mark_of (get_or slots block d)
mark_at-slot [] block d low = absurd (omega arith)
mark_at-slot (s ∷ ss) zero d low = refl
mark_at-slot (s ∷ ss) (suc block) d low = mark_at-slot ss block d (omega arith)

-- slots without a mark have none
pub marks-replicate : (n : ℕ) (slot : Slot) (mark : Option Mark) → mark_of slot ≡ mark → map mark_of (replicate n slot) ≡ replicate n mark
marks-replicate zero slot mark e = refl
marks-replicate (suc n) slot mark e = let more = marks-replicate n slot mark e in rw (e, more) refl
