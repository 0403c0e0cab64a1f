-- A pool that has the slots which a worker's own blocks take at most has room for each of them, and keeps it.
use Rattle.std.proofs.Common.{◌≡◌, ℕ, zero, suc, ◌+◌, ◌-◌, ◌<◌, ◌≤◌, List, [], ◌∷◌, filter, length, slice_index_or, Bool, true, false, cond, Option, Some, None, refl, sym, ap, ◌∙◌, subst, arith}
use Rattle.std.specs.Prelude.{is_none, is_some}
use Rattle.sial_syntax.specs.declared.array.ArrayDecl.{ArrayDecl}
use Rattle.sial_syntax.specs.declared.array.ArrayKind.{ArrayKind}
use Rattle.sial_syntax.specs.declared.array.ArrayKind.TheVariants.{Static, Temp, Local, Distributed, Served}
use Rattle.sial_syntax.specs.declared.operand.BlockRef.{BlockRef}
use Rattle.sial_syntax.specs.Spaces.{blocks_together, rank_of, same_kind}
use Rattle.sial_meaning.specs.LocalStep.{is_shared_kind}
use Rattle.sial_meaning.specs.Own.{Own}
use Rattle.sial_meaning.specs.Setting.{Setting, array_kind, block_count, dims_of, no_array}
use Rattle.sial_meaning.proofs.Granted.Runs.{within-class}
use Rattle.block_pool.specs.Memory.{Memory, free_in, last_class, one_if}
use Rattle.block_pool.specs.Standing.{lease_at, named_count}
use Rattle.block_seats.specs.Counted.{empty_count, held_count}
use Rattle.block_seats.specs.Leaving.{Leaves}
use Rattle.block_seats.specs.Seated.{Seated, block_at}
use Rattle.block_seats.proofs.CountLemmas.{block-held, empty-some, empty-split, free-held, held-empty, named-all}
use Rattle.exec_names.specs.Naming.{numbers_of}
use Rattle.exec_blocks.specs.Allocating.{HasLocalRoom}
use Rattle.exec_blocks.specs.Beginning.{static_blocks}
use Rattle.exec_blocks.specs.Kept.{Kept, place_by, place_of}
use Rattle.exec_blocks.specs.Needing.{MeetsNeed, need_of, temp_count}
use Rattle.exec_blocks.specs.Standing.{AreIn, BlocksStand, HasRoom, IsNamed}
use Rattle.exec_blocks.proofs.PlaceLemmas.{static-below, local-below}
use Rattle.exec_blocks.proofs.SettingLemmas.{rank-below}

-- the places of arrays that aren't temp have no block
abbrev NoneBut : List (Option ℕ) → (arrays : List ArrayDecl) → (from : ℕ) → Type 0
NoneBut xs arrays from = (c : ℕ) → c < length arrays → same_kind (slice_index_or arrays c no_array).kind Temp ≡ false → lease_at xs (from + c) ≡ None

-- the places behind the first
none-rest : (xs : List (Option ℕ)) (a : ArrayDecl) (arrays : List ArrayDecl) (from : ℕ) → NoneBut xs (a ∷ arrays) from → NoneBut xs arrays (from + 1)
none-rest xs a arrays from none = λ c low other.
    let place : from + 1 + c ≡ from + suc c = omega arith in
    ap (lease_at xs) place ∙ none (suc c) (omega (arith, low)) other

none-first : (xs : List (Option ℕ)) (from : ℕ) → lease_at xs (from + 0) ≡ None → one_if (is_none (lease_at xs from)) ≡ 1
none-first xs from none =
    let place : from ≡ from + 0 = omega arith in
    ap (λ k. one_if (is_none (lease_at xs k))) place ∙ ap (λ (o : Option ℕ). one_if (is_none o)) none

-- so no more of them have a block than there are temps
temps-counted : (xs : List (Option ℕ)) (arrays : List ArrayDecl) (from : ℕ) → NoneBut xs arrays from → length arrays ≤ empty_count xs from (length arrays) + length (filter (λ (a : ArrayDecl). same_kind a.kind Temp) arrays)
temps-counted xs [] from none = omega arith
temps-counted xs (a ∷ arrays) from none =
    let rest = temps-counted xs arrays (from + 1) (none-rest xs a arrays from none) in
    elim (same_kind a.kind Temp) as (λ t. same_kind a.kind Temp ≡ t
    → suc (length arrays) ≤ (one_if (is_none (lease_at xs from)) + empty_count xs (from + 1) (length arrays)) + length (cond t (a ∷ filter (λ (a : ArrayDecl). same_kind a.kind Temp) arrays) (filter (λ (a : ArrayDecl). same_kind a.kind Temp) arrays))) [
      | true ↦ λ e. omega (arith, rest)
      | false ↦ λ e. let first = none-first xs from (none 0 (omega arith) e) in omega (arith, rest, first)
    ] refl

-- and fewer where a temp has none
temps-fewer : (xs : List (Option ℕ)) (arrays : List ArrayDecl) (from c : ℕ) → NoneBut xs arrays from → c < length arrays → same_kind (slice_index_or arrays c no_array).kind Temp ≡ true → lease_at xs (from + c) ≡ None
    → length arrays < empty_count xs from (length arrays) + length (filter (λ (a : ArrayDecl). same_kind a.kind Temp) arrays)
temps-fewer xs [] from c none there temp here = absurd (omega (arith, there))
temps-fewer xs (a ∷ arrays) from zero none there temp here =
    let rest = temps-counted xs arrays (from + 1) (none-rest xs a arrays from none) in
    let first = none-first xs from here in
    let one : length (filter (λ (a : ArrayDecl). same_kind a.kind Temp) (a ∷ arrays)) ≡ suc (length (filter (λ (a : ArrayDecl). same_kind a.kind Temp) arrays)) =
    ap (λ t. length (cond t (a ∷ filter (λ (a : ArrayDecl). same_kind a.kind Temp) arrays) (filter (λ (a : ArrayDecl). same_kind a.kind Temp) arrays))) temp in
    omega (arith, rest, first, one)
temps-fewer xs (a ∷ arrays) from (suc c) none there temp here =
    let place : from + 1 + c ≡ from + suc c = omega arith in
    let rest = temps-fewer xs arrays (from + 1) c (none-rest xs a arrays from none) (omega (arith, there)) temp (ap (lease_at xs) place ∙ here) in
    elim (same_kind a.kind Temp) as (λ t. same_kind a.kind Temp ≡ t
    → suc (length arrays) < (one_if (is_none (lease_at xs from)) + empty_count xs (from + 1) (length arrays)) + length (cond t (a ∷ filter (λ (a : ArrayDecl). same_kind a.kind Temp) arrays) (filter (λ (a : ArrayDecl). same_kind a.kind Temp) arrays))) [
      | true ↦ λ e. omega (arith, rest)
      | false ↦ λ e. let first = none-first xs from (none 0 (omega arith) e) in omega (arith, rest, first)
    ] refl

-- a part of a run has no more places without a block than the run
empty-part : (xs : List (Option ℕ)) (from n all : ℕ) → from + n ≤ all → empty_count xs from n ≤ empty_count xs 0 all
empty-part xs from n all within =
    let whole : all ≡ from + (n + (all - (from + n))) = omega (arith, within) in
    let one = empty-split xs 0 from (n + (all - (from + n))) in
    let two = empty-split xs from n (all - (from + n)) in
    let start : 0 + from ≡ from = omega arith in
    let first : empty_count xs (0 + from) (n + (all - (from + n))) ≡ empty_count xs from (n + (all - (from + n))) = ap (λ k. empty_count xs k (n + (all - (from + n)))) start in
    let same : empty_count xs 0 all ≡ empty_count xs 0 (from + (n + (all - (from + n)))) = ap (empty_count xs 0) whole in
    omega (arith, one, two, first, same)

-- no slot is where no block is
no-slot : (p : Memory) (s : Seated) (place : ℕ) → block_at p s place ≡ None → lease_at s.slots place ≡ None
no-slot p s place none = by (lease_at s.slots place) (sym (block-held p s place) ∙ ap is_some none)
  where
    by : (o : Option ℕ) → is_some o ≡ false → o ≡ None
    by None is = refl
    by (Some t) is = absurd cc

module _ (g : Setting) (p : Memory) (b : Kept) (own : Own) (seated : AreIn g p b) (stands : BlocksStand g p b own) where
  -- how many slots the blocks have, by the places that have none
  none-but : NoneBut b.seats.slots g.program.arrays b.temps_at
  none-but = λ c low other. no-slot p b.seats (b.temps_at + c) ((stands.others c low).2 other).1

  counted : held_count b.seats.slots + (empty_count b.seats.slots 0 b.temps_at + empty_count b.seats.slots b.temps_at (length g.program.arrays)) ≡ b.temps_at + length g.program.arrays
  counted =
      let all = held-empty b.seats.slots in
      let split = empty-split b.seats.slots 0 b.temps_at (length g.program.arrays) in
      let long : empty_count b.seats.slots 0 (length b.seats.slots) ≡ empty_count b.seats.slots 0 (b.temps_at + length g.program.arrays) = ap (empty_count b.seats.slots 0) seated.laid.places in
      let start : 0 + b.temps_at ≡ b.temps_at = omega arith in
      let temps : empty_count b.seats.slots (0 + b.temps_at) (length g.program.arrays) ≡ empty_count b.seats.slots b.temps_at (length g.program.arrays) = ap (λ k. empty_count b.seats.slots k (length g.program.arrays)) start in
      omega (arith, all, split, long, temps, seated.laid.places)

  -- blocks never have more slots than the need
  pub takes-no-more : held_count b.seats.slots ≤ need_of g
  takes-no-more =
      let temps = temps-counted b.seats.slots g.program.arrays b.temps_at none-but in
      omega (arith, counted, temps, seated.laid.temps_at, seated.laid.locals_at)

  module _ (meets : MeetsNeed g p b) where
    -- so a slot is free for each static or local block that isn't there
    placed-room : empty_count b.seats.slots 0 b.temps_at ≤ free_in p last_class
    placed-room =
        let temps = temps-counted b.seats.slots g.program.arrays b.temps_at none-but in
        omega (arith, counted, temps, meets, seated.laid.temps_at, seated.laid.locals_at)

    some-room : (place : ℕ) → place < b.temps_at → lease_at b.seats.slots place ≡ None → 0 < free_in p last_class
    some-room place low none = let some = empty-some b.seats.slots 0 b.temps_at place (omega arith) (omega (arith, low)) none in let all = placed-room in omega (arith, some, all)

    -- and one for each temp without a block
    temp-room : (array : ℕ) → array < length g.program.arrays → array_kind g array ≡ Temp → lease_at b.seats.slots (b.temps_at + array) ≡ None → 0 < free_in p last_class
    temp-room array declared is none =
        let fewer = temps-fewer b.seats.slots g.program.arrays b.temps_at array none-but declared (ap (λ (k : ArrayKind). same_kind k Temp) is) none in
        omega (arith, counted, fewer, meets, seated.laid.temps_at, seated.laid.locals_at)

    -- there is room for each block that is put down
    pub room-of-named : (values : List ℕ) (block : BlockRef) → IsNamed g values block → HasRoom g p b values block
    room-of-named values block named = by (array_kind g block.array) refl
      where
        number : ℕ
        number = rank_of g.spaces (dims_of g block.array) (numbers_of values block.at)

        at-kind : (kind : ArrayKind) → array_kind g block.array ≡ kind → lease_at b.seats.slots (place_of g b values block) ≡ None → lease_at b.seats.slots (place_by g b block.array number kind) ≡ None
        at-kind kind is none = ap (λ (k : ArrayKind). lease_at b.seats.slots (place_by g b block.array number k)) (sym is) ∙ none

        below : (kind : ArrayKind) → array_kind g block.array ≡ kind → same_kind kind Temp ≡ false → number < block_count g block.array
        below kind is other = rank-below g values block (named.among (ap (λ (k : ArrayKind). same_kind k Temp) is ∙ other))

        by : (kind : ArrayKind) → array_kind g block.array ≡ kind → is_shared_kind (array_kind g block.array) ≡ false → lease_at b.seats.slots (place_of g b values block) ≡ None → 0 < free_in p last_class
        by Static is mine none =
            let low = static-below g b block.array number seated.laid is (below Static is refl) in
            some-room (place_by g b block.array number Static) (omega (arith, low, seated.laid.temps_at)) (at-kind Static is none)
        by Local is mine none = some-room (place_by g b block.array number Local) (local-below g b block.array number seated.laid is (below Local is refl)) (at-kind Local is none)
        by Temp is mine none = temp-room block.array named.declared is (at-kind Temp is none)
        by Distributed is mine none = absurd (cc (ap is_shared_kind is, mine))
        by Served is mine none = absurd (cc (ap is_shared_kind is, mine))

    -- and for each allocation
    pub room-of-local : (array : ℕ) → array_kind g array ≡ Local → HasLocalRoom g p b array
    room-of-local array is =
        let inside = within-class g array Local is refl in
        let part = empty-part b.seats.slots (place_by g b array 0 Local) (block_count g array) b.temps_at (omega (arith, inside, seated.laid.temps_at)) in
        let all = placed-room in
        omega (arith, part, all)

-- a change of the blocks keeps the need met
pub need-kept : {p p1 : Memory} (g : Setting) (b b1 : Kept) → AreIn g p b → AreIn g p1 b1 → Leaves p p1 b.seats.slots b1.seats.slots → MeetsNeed g p b → MeetsNeed g p1 b1
need-kept g b b1 seated seated1 leaves meets = let same = free-held b.seats b1.seats seated.seats seated1.seats leaves in omega (arith, same, meets)

-- an opening meets it where so many slots were free
pub need-met : {p p1 : Memory} (g : Setting) (b : Kept) → AreIn g p1 b → Leaves p p1 [] b.seats.slots → need_of g ≤ free_in p last_class → MeetsNeed g p1 b
need-met {p} {p1} g b seated leaves free =
    let held : named_count p1 last_class b.seats.slots ≡ held_count b.seats.slots = named-all p1 last_class b.seats.slots seated.seats.named in
    let counts = leaves.free last_class in
    omega (arith, held, counts, free)
