-- What the code keeps, seen from the state.
use Rattle.std.proofs.Common.{◌≡◌, ℕ, ◌<◌, List, [], map, length, slice_index_or, slice_set, get_or, false, sym, ap, ◌∙◌, arith, refl}
use Rattle.std.proofs.lemmas.List.{get_or-map, length-map, map-set}
use Rattle.std.specs.Global.{Vec}
use Rattle.sial_syntax.specs.declared.operand.BlockRef.{BlockRef}
use Rattle.sial_meaning.specs.LocalStep.{is_shared_kind}
use Rattle.sial_meaning.specs.Setting.{Setting, array_kind}
use Rattle.block_pool.specs.Memory.{Memory}
use Rattle.block_seats.specs.Seated.{Seated, block_at}
use Rattle.exec_names.specs.declared.member.Member.{Member}
use Rattle.exec_names.specs.Naming.{pair_of}
use Rattle.exec_blocks.specs.Kept.{Kept, place_of}
use Rattle.exec_blocks.specs.Standing.{IsLaidOut, IsNamed}
use Rattle.exec_blocks.specs.Tuples.{tuples_of}
use Rattle.exec_blocks.proofs.ReadingLemmas.{place-there}

-- the block at the place that was found
pub seen-at : (g : Setting) (p : Memory) (b : Kept) (block : BlockRef) (values now : List ℕ) (seats : Seated) (place : ℕ) → seats ≡ b.seats → place ≡ place_of g b now block → values ≡ now
    → block_at p b.seats (place_of g b values block) ≡ block_at p seats place
seen-at g p b block values now seats place same is vs =
    ap (λ (v : List ℕ). block_at p b.seats (place_of g b v block)) vs ∙ (ap (block_at p b.seats) (sym is) ∙ ap (λ (s : Seated). block_at p s place) (sym same))

-- it is one of the places
pub seat-there : (g : Setting) (b : Kept) (values : List ℕ) (block : BlockRef) (seats : Seated) (place : ℕ) → seats ≡ b.seats → place ≡ place_of g b values block → IsLaidOut g b → IsNamed g values block
    → is_shared_kind (array_kind g block.array) ≡ false → place < length seats.slots
seat-there g b values block seats place same is laid named own =
    let there = place-there g b values block (array_kind g block.array) laid named refl own in
    let many : length seats.slots ≡ length b.seats.slots = ap (λ (s : Seated). length s.slots) same in
    omega (arith, there, is, many)

-- the tuples that are kept
pub tuple-within : (g : Setting) (b : Kept) (kept : List (Vec Member)) (array : ℕ) → tuples_of kept ≡ b.tuples → IsLaidOut g b → array < length g.program.arrays → array < length kept
tuple-within g b kept array seen laid declared =
    let many : length (tuples_of kept) ≡ length kept = length-map kept (λ (t : Vec Member). map pair_of t.items) in
    let listed : length (tuples_of kept) ≡ length b.tuples = ap length seen in
    omega (arith, many, listed, laid.tuples, declared)

-- one of them, read
pub tuple-read : (b : Kept) (kept : List (Vec Member)) (array : ℕ) (v : Vec Member) → tuples_of kept ≡ b.tuples → array < length kept → v ≡ get_or kept array v → map pair_of v.items ≡ slice_index_or b.tuples array []
tuple-read b kept array v seen within read =
    ap (λ (t : Vec Member). map pair_of t.items) read
    ∙ (sym (get_or-map (λ (t : Vec Member). map pair_of t.items) kept array v [] within)
    ∙ ap (λ (ts : List (List (ℕ × ℕ))). slice_index_or ts array []) seen)

-- one of them, written
pub tuple-written : (b : Kept) (kept : List (Vec Member)) (array : ℕ) (v : Vec Member) → tuples_of kept ≡ b.tuples → tuples_of (slice_set kept array v) ≡ slice_set b.tuples array (map pair_of v.items)
tuple-written b kept array v seen =
    map-set (λ (t : Vec Member). map pair_of t.items) kept array v ∙ ap (λ (ts : List (List (ℕ × ℕ))). slice_set ts array (map pair_of v.items)) seen

-- parts that are the same
pub kept-same : (s : Seated) (t t1 : List (List (ℕ × ℕ))) (l l1 m m1 : ℕ) → t ≡ t1 → l ≡ l1 → m ≡ m1
    → ◌≡◌ {A = Kept} (record { seats = s; tuples = t; locals_at = l; temps_at = m }) (record { seats = s; tuples = t1; locals_at = l1; temps_at = m1 })
kept-same s t t1 l l1 m m1 a b c = rw (a, b, c) refl
