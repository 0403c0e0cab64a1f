-- No two blocks of a worker have one place.
use Rattle.std.proofs.Common.{◌≡◌, ◌≢◌, ℕ, ◌+◌, ◌<◌, length, inl, inr, refl, sym, ap, arith, false}
use Rattle.std.proofs.lemmas.Bool.{cases_eq}
use Rattle.sial_syntax.specs.declared.array.ArrayKind.{ArrayKind}
use Rattle.sial_syntax.specs.declared.array.ArrayKind.TheVariants.{Static, Temp, Local}
use Rattle.sial_syntax.specs.Spaces.{same_kind}
use Rattle.sial_meaning.specs.Setting.{Setting, array_kind, block_count, first_of_class}
use Rattle.sial_meaning.proofs.Granted.Runs.{within-class, apart-in-class}
use Rattle.exec_blocks.specs.Kept.{Kept, place_by}
use Rattle.exec_blocks.specs.Standing.{IsLaidOut}

-- blocks of arrays of one kind
pub places-differ : (g : Setting) (kind : ArrayKind) (a n c m : ℕ) → same_kind kind Temp ≡ false → array_kind g a ≡ kind → array_kind g c ≡ kind → n < block_count g a → m < block_count g c
    → (c ≡ a → m ≢ n) → first_of_class g c + m ≢ first_of_class g a + n
places-differ g kind a n c m other is-a is-c below-a below-c differ same = elim (cases_eq c a) as (λ _. ⊥) [
  | inl e ↦ (
      let first : first_of_class g c ≡ first_of_class g a = ap (first_of_class g) e in
      let equal : m ≡ n = omega (arith, first, same) in
      differ e equal
      )
  | inr ne ↦ elim (apart-in-class g a c n kind is-a is-c other below-a (λ e. ne (sym e))) as (λ _. ⊥) [
    | inl low ↦ omega (arith, low, same)
    | inr high ↦ omega (arith, high, same, below-c)
  ]
]

-- a static block stands before all local ones and all temps
pub static-below : (g : Setting) (b : Kept) (a n : ℕ) → IsLaidOut g b → array_kind g a ≡ Static → n < block_count g a → place_by g b a n Static < b.locals_at
static-below g b a n laid is below = let inside = within-class g a Static is refl in omega (arith, inside, below, laid.locals_at)

-- a local one before all temps
pub local-below : (g : Setting) (b : Kept) (a n : ℕ) → IsLaidOut g b → array_kind g a ≡ Local → n < block_count g a → place_by g b a n Local < b.temps_at
local-below g b a n laid is below = let inside = within-class g a Local is refl in omega (arith, inside, below, laid.temps_at)

-- each has a place
pub static-placed : (g : Setting) (b : Kept) (a n : ℕ) → IsLaidOut g b → array_kind g a ≡ Static → n < block_count g a → place_by g b a n Static < length b.seats.slots
static-placed g b a n laid is below = let low = static-below g b a n laid is below in omega (arith, low, laid.temps_at, laid.places)

pub local-placed : (g : Setting) (b : Kept) (a n : ℕ) → IsLaidOut g b → array_kind g a ≡ Local → n < block_count g a → place_by g b a n Local < length b.seats.slots
local-placed g b a n laid is below = let low = local-below g b a n laid is below in omega (arith, low, laid.places)

pub temp-placed : (g : Setting) (b : Kept) (a : ℕ) → IsLaidOut g b → a < length g.program.arrays → place_by g b a 0 Temp < length b.seats.slots
temp-placed g b a laid below = omega (arith, below, laid.places)
