-- A space for the elements of a block.
use Rattle.std.proofs.Common.{◌≡◌, ℕ, ◌^◌, ◌-◌, ◌%◌, ◌<◌, ◌≤◌, List, map, take, length, min, sym, ap, ◌∙◌, subst, arith}
use Rattle.std.proofs.lemmas.List.{length-map, length-take-le}
use Rattle.block_pool.specs.Memory.{Memory}
use Rattle.block_seats.specs.Seated.{IsWide}
use Rattle.sial_syntax.specs.Boxes.{tuples, volume}
use Rattle.sial_syntax.proofs.BoxLemmas.{tuples-counted}
use Rattle.sial_syntax.specs.Spaces.{Spaces, Extent, extent}
use Rattle.sial_meaning.specs.LocalStep.{integral, integrals, whole_positions}
use Rattle.sial_meaning.specs.Sight.{lengths}
use Rattle.exec_names.specs.declared.extent.Extent as lying
use Rattle.exec_names.specs.Naming.{extent_of}
use Rattle.exec_sides.specs.Seen.{extents_of}
use Rattle.exec_sides.specs.Short.{volume_now}

-- as many positions as indices have that lie so
pub volume_here : (spaces : Spaces) (values at : List ℕ) (extents : List Extent) → extents ≡ map (extent spaces values) at → volume (lengths extents) ≡ volume_now spaces values at
volume_here spaces values at extents lies = ap (λ (es : List Extent). volume (lengths es)) lies

-- a number that fits is the least of it and the greatest that does
least_is : (n len : ℕ) → n ≤ len → len < 2 ^ 64 → min n (2 ^ 64 - 1) ≡ n
least_is n len within short = omega (arith, within, short)

-- the front of a space that is long enough
pub front_long : (spaces : Spaces) (values at : List ℕ) (extents : List Extent) (space : List ℕ) → extents ≡ map (extent spaces values) at → volume_now spaces values at ≤ length space → length space < 2 ^ 64
    → length (take (min (volume (lengths extents)) (2 ^ 64 - 1)) space) ≡ volume_now spaces values at
front_long spaces values at extents space lies within short =
    let many = volume_here spaces values at extents lies in
    let least = least_is (volume_now spaces values at) (length space) within short in
    ap (λ n. length (take (min n (2 ^ 64 - 1)) space)) many ∙ (ap (λ n. length (take n space)) least ∙ length-take-le (volume_now spaces values at) space within)

-- slots that are wide enough for it are so for its elements
pub wide_for : (p : Memory) (n m : ℕ) → n ≡ m → IsWide p m → IsWide p n
wide_for p n m same wide = subst (IsWide p) (sym same) wide

-- as few extents as indices
pub few_extents : (spaces : Spaces) (values at : List ℕ) (extents : List lying.Extent) → extents_of extents ≡ map (extent spaces values) at → length at ≤ 6 → length extents < 2 ^ 16
few_extents spaces values at extents lies few =
    let same : length extents ≡ length at = sym (length-map extents extent_of) ∙ (ap length lies ∙ length-map at (extent spaces values)) in
    omega (arith, same, few)

-- as many integrals as positions
pub integrals_long : (spaces : Spaces) (values named at : List ℕ) (extents : List Extent) (words new : List ℕ) → extents ≡ map (extent spaces values) named
    → new ≡ integrals (record { at = at; extents = extents; words = words }) → length new ≡ volume_now spaces values named
integrals_long spaces values named at extents words new lies is =
    ap length is
    ∙ (length-map (tuples (lengths extents)) (λ t. integral 1 (whole_positions extents t) % 2 ^ 64)
    ∙ (tuples-counted (lengths extents) ∙ volume_here spaces values named extents lies))
