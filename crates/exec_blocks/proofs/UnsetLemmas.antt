-- What is left of a state where a pardo begins, and of the blocks that stand for it.
use Rattle.std.proofs.Common.{◌≡◌, ℕ, zero, suc, ◌<◌, List, [], ◌∷◌, map, length, slice_index_or, true, nat_lt, refl, sym, ap, ◌∙◌, arith, Option, None}
use Rattle.std.specs.Option.{option_map}
use Rattle.std.proofs.lemmas.Bool.Decides.{nat_tests}
use Rattle.sial_syntax.specs.declared.array.ArrayKind.TheVariants.{Static, Local}
use Rattle.sial_syntax.specs.declared.classes.Side.{Side}
use Rattle.sial_syntax.specs.declared.classes.Side.TheVariants.{Outer, Inner, Unused}
use Rattle.sial_meaning.specs.Own.{Own, Held, local_block, temp_of, unset, unset_if_inner}
use Rattle.sial_meaning.specs.Setting.{Setting, array_kind, side_of}
use Rattle.sial_meaning.proofs.Granted.Runs.{declared-array}
use Rattle.sial_meaning.proofs.PardosKeepTheControl.Changes.{each-long}
use Rattle.sial_meaning.proofs.StatesAreWhole.Created.{each-read}
use Rattle.block_pool.specs.Memory.{Memory}
use Rattle.block_seats.specs.Seated.{Seated, block_at}
use Rattle.exec_blocks.specs.Clearing.{Clears, Forgets, left_of, left_if}
use Rattle.exec_blocks.specs.Kept.{Kept, place_by}
use Rattle.exec_blocks.specs.Standing.{IsLaidOut, BlocksStand}
use Rattle.exec_blocks.proofs.PlaceLemmas.{static-below, local-below}

-- nothing is left in a row
none-at : {X Y : Type 0} (row : List X) (n : ℕ) → slice_index_or (map {B = Option Y} (λ (x : X). None) row) n None ≡ None
none-at [] n = refl
none-at (x ∷ xs) zero = refl
none-at (x ∷ xs) (suc n) = none-at xs n

none-long : {X : Type 0} (Y : Type 0) (row : List X) → length (map {B = Option Y} (λ (x : X). None) row) ≡ length row
none-long Y [] = refl
none-long {X} Y (x ∷ xs) = let rest : length (map {B = Option Y} (λ (x : X). None) xs) ≡ length xs = none-long Y xs in omega (arith, rest)

-- a local block that is left
inner-read : (side : Side) (row : List (Option (List ℕ))) (n : ℕ) → slice_index_or (unset_if_inner side row) n None ≡ left_of side (slice_index_or row n None)
inner-read Outer row n = refl
inner-read Inner row n = none-at row n
inner-read Unused row n = refl

inner-long : (side : Side) (row : List (Option (List ℕ))) → length (unset_if_inner side row) ≡ length row
inner-long Outer row = refl
inner-long Inner row = none-long (List ℕ) row
inner-long Unused row = refl

-- a row of local blocks, and one of them
row-left : (g : Setting) (own : Own) (c : ℕ) → c < length own.locals → slice_index_or (unset g own).locals c [] ≡ unset_if_inner (side_of g c) (slice_index_or own.locals c [])
row-left g own c there = each-read (length own.locals) (λ a. unset_if_inner (side_of g a) (slice_index_or own.locals a [])) c [] there

local-left : (g : Setting) (own : Own) (c n : ℕ) → c < length own.locals → local_block (unset g own) c n ≡ left_of (side_of g c) (local_block own c n)
local-left g own c n there = ap (λ (row : List (Option (List ℕ))). slice_index_or row n None) (row-left g own c there) ∙ inner-read (side_of g c) (slice_index_or own.locals c []) n

-- nothing is left of no row
none-left : (side : Side) → unset_if_inner side [] ≡ []
none-left Outer = refl
none-left Inner = refl
none-left Unused = refl

-- no temp has a block
temp-left : (g : Setting) (own : Own) (c : ℕ) → temp_of (unset g own) c ≡ None
temp-left g own c = none-at own.temps c

-- the blocks that are left stand for what is left of the state
pub unset-stands : {p p1 p2 : Memory} (g : Setting) (b : Kept) (mid after : Seated) (own : Own) → IsLaidOut g b → Forgets g b p p1 b.seats mid (length g.program.arrays)
    → Clears p1 p2 mid after b.temps_at (length g.program.arrays) → BlocksStand g p b own → BlocksStand g p2 (record b { seats = after }) (unset g own)
unset-stands {p} {p1} {p2} g b mid after own laid forgets clears stands =
    let there : (c : ℕ) → array_kind g c ≡ Local → c < length own.locals = λ c is. let declared = declared-array g c Local is refl in omega (arith, declared, stands.rows.locals) in
    record {
      rows = record {
        statics = stands.rows.statics;
        temps = none-long Held own.temps ∙ stands.rows.temps;
        locals = each-long (length own.locals) (λ a. unset_if_inner (side_of g a) (slice_index_or own.locals a [])) ∙ stands.rows.locals;
        static_rows = stands.rows.static_rows;
        local_rows = λ c is. ap length (row-left g own c (there c is)) ∙ (inner-long (side_of g c) (slice_index_or own.locals c []) ∙ stands.rows.local_rows c is);
      };
      statics = λ c n is under.
          let low = static-below g b c n laid is under in
          clears.front (place_by g b c n Static) (omega (arith, low, laid.temps_at)) ∙ (forgets.statics (place_by g b c n Static) low ∙ stands.statics c n is under);
      locals = λ c n is under.
          let declared = declared-array g c Local is refl in
          let looked : nat_lt c (length g.program.arrays) ≡ true = grind (arith, nat_tests, declared) in
          clears.front (place_by g b c n Local) (local-below g b c n laid is under)
          ∙ (forgets.locals c n is under
          ∙ (ap (λ t. left_if t (side_of g c) (block_at p b.seats (place_by g b c n Local))) looked
          ∙ (ap (left_of (side_of g c)) (stands.locals c n is under) ∙ sym (local-left g own c n (there c is)))));
      temps = λ c declared is. clears.gone c declared ∙ sym (ap (option_map (λ (held : Held). held.words)) (temp-left g own c));
      tuples = λ c held declared is has. absurd (cc (temp-left g own c, has));
      others = λ c declared. let none = stands.others c declared in (
        none.0,
        λ kind. row-left g own c (omega (arith, declared, stands.rows.locals)) ∙ (ap (unset_if_inner (side_of g c)) (none.1 kind) ∙ none-left (side_of g c)),
        λ kind. (temp-left g own c, clears.gone c declared),
      );
    }
