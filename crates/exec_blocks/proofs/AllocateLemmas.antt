-- Local blocks allocated or taken away one after another.
use Rattle.std.proofs.Common.{◌≡◌, ℕ, zero, suc, ◌+◌, ◌<◌, ◌≤◌, List, [], ◌∷◌, drop, map, length, Bool, true, false, ◌||◌, Result, Ok, Err, Option, Some, refl, sym, ap, ◌∙◌, subst, arith}
use Rattle.std.specs.Prelude.{slice_get, if◌then◌else◌, is_some}
use Rattle.std.specs.List.{list_any}
use Rattle.index_spaces.specs.Placed.{Placed, array_among, bare}
use Rattle.sial_syntax.specs.declared.array.ArrayKind.TheVariants.{Local}
use Rattle.sial_syntax.specs.declared.operand.Slot.{Slot}
use Rattle.sial_syntax.specs.Spaces.{blocks_of}
use Rattle.sial_meaning.specs.declared.trap.TrapKind.{TrapKind}
use Rattle.sial_meaning.specs.LocalStep.{quiet, is_allocated}
use Rattle.sial_meaning.specs.Own.{Own, with_local}
use Rattle.sial_meaning.specs.Setting.{Setting, array_kind, block_count}
use Rattle.sial_meaning.proofs.Granted.Runs.{declared-array}
use Rattle.block_pool.specs.Memory.{Memory}
use Rattle.block_pool.specs.Standing.{lease_at}
use Rattle.block_seats.specs.Putting.{Puts}
use Rattle.block_seats.specs.Seated.{Seated}
use Rattle.block_seats.proofs.CountLemmas.{block-held}
use Rattle.exec_names.specs.Matching.{AreOf, MatchBlocks}
use Rattle.exec_blocks.specs.Allocating.{Answers}
use Rattle.exec_blocks.specs.Kept.{Kept, place_by}
use Rattle.exec_blocks.specs.Standing.{BlocksStand, IsLaidOut}
use Rattle.exec_blocks.proofs.PutLemmas.{put-local}
use Rattle.exec_blocks.proofs.SettingLemmas.{count-is, placed-is}

-- what is left of a list, with its first
pub drop-at : {X : Type 0} (xs : List X) (i : ℕ) (x : X) → slice_get xs i ≡ Some x → drop i xs ≡ x ∷ drop (i + 1) xs
drop-at [] i x there = absurd cc
drop-at (y ∷ ys) zero x there = let same : y ≡ x = cc there in ap (λ z. z ∷ ys) same
drop-at (y ∷ ys) (suc i) x there =
    let next : suc i + 1 ≡ suc (i + 1) = omega arith in
    rw next (drop-at ys i x there)

-- nothing is left at the end
pub drop-end : {X : Type 0} (xs : List X) (i : ℕ) → length xs ≤ i → drop i xs ≡ []
drop-end [] zero all = refl
drop-end [] (suc i) all = refl
drop-end (x ∷ xs) zero all = absurd (omega (arith, all))
drop-end (x ∷ xs) (suc i) all = drop-end xs i (omega (arith, all))

-- a local block is allocated where a slot is
pub slot-allocated : (g : Setting) (p : Memory) (b : Kept) (own : Own) (array n place : ℕ) → array_kind g array ≡ Local → n < block_count g array → BlocksStand g p b own
    → place ≡ place_by g b array n Local → is_some (lease_at b.seats.slots place) ≡ is_allocated own array n
slot-allocated g p b own array n place is below stands at =
    ap (λ x. is_some (lease_at b.seats.slots x)) at ∙ (sym (block-held p b.seats (place_by g b array n Local)) ∙ ap is_some (stands.locals array n is below))

-- one block more that isn't as wanted
pub any-none : (f : ℕ → Bool) (ns : List ℕ) (turn n : ℕ) (all : Bool) → slice_get ns turn ≡ Some n → f n ≡ false → list_any f (drop turn ns) ≡ all → list_any f (drop (turn + 1) ns) ≡ all
any-none f ns turn n all there other was =
    let split : list_any f (drop turn ns) ≡ (f n || list_any f (drop (turn + 1) ns)) = ap (list_any f) (drop-at ns turn n there) in
    let rest : (f n || list_any f (drop (turn + 1) ns)) ≡ list_any f (drop (turn + 1) ns) = ap (λ t. t || list_any f (drop (turn + 1) ns)) other in
    sym rest ∙ (sym split ∙ was)

-- and one that is
pub any-one : (f : ℕ → Bool) (ns : List ℕ) (turn n : ℕ) (all : Bool) → slice_get ns turn ≡ Some n → f n ≡ true → list_any f (drop turn ns) ≡ all → true ≡ all
any-one f ns turn n all there found was =
    let split : list_any f (drop turn ns) ≡ (f n || list_any f (drop (turn + 1) ns)) = ap (list_any f) (drop-at ns turn n there) in
    sym (ap (λ t. t || list_any f (drop (turn + 1) ns)) found) ∙ (sym split ∙ was)

-- at the end no other is
pub any-end : (f : ℕ → Bool) (ns : List ℕ) (turn : ℕ) (all : Bool) → length ns ≤ turn → list_any f (drop turn ns) ≡ all → false ≡ all
any-end f ns turn all done was = ap (list_any f) (sym (drop-end ns turn done)) ∙ was

-- blocks of a local array are being changed one after another: what the rest makes of the state now is what is wanted
pub record Changing (g : Setting) (p : Memory) (b : Kept) (change : List ℕ → Own → Own) (left : List ℕ) (wanted : Own) : Type 0 where
  pub now : Own
  pub stands : BlocksStand g p b now
  pub comes : change left now ≡ wanted

-- nothing was done
pub changing-none : (g : Setting) (p : Memory) (b : Kept) (change : List ℕ → Own → Own) (left : List ℕ) (own : Own) → BlocksStand g p b own → Changing g p b change left (change left own)
changing-none g p b change left own stands = record { now = own; stands = stands; comes = refl }

-- one block more
pub changing-one : {p p1 : Memory} (g : Setting) (b : Kept) (mid after : Seated) (change : List ℕ → Own → Own) (words : ℕ → Option (List ℕ)) (ns : List ℕ) (array turn n place : ℕ) (wanted : Own)
    → ((k : ℕ) (ks : List ℕ) (own : Own) → change (k ∷ ks) own ≡ change ks (with_local array k (words k) own)) → IsLaidOut g (record b { seats = mid }) → array_kind g array ≡ Local → n < block_count g array
    → slice_get ns turn ≡ Some n → place ≡ place_by g b array n Local → Puts p p1 mid after place (words n) → Changing g p (record b { seats = mid }) change (drop turn ns) wanted
    → Changing g p1 (record b { seats = after }) change (drop (turn + 1) ns) wanted
changing-one {p} {p1} g b mid after change words ns array turn n place wanted step laid is below there at puts was =
    record {
      now = with_local array n (words n) was.now;
      stands = put-local g (record b { seats = mid }) after was.now laid was.stands array n (words n) is below (declared-array g array Local is refl) (subst (λ (x : ℕ). Puts p p1 mid after x (words n)) at puts);
      comes = sym (step n (drop (turn + 1) ns) was.now) ∙ (ap (λ ks. change ks was.now) (sym (drop-at ns turn n there)) ∙ was.comes);
    }

-- all of them
pub changing-all : (g : Setting) (p : Memory) (b : Kept) (change : List ℕ → Own → Own) (ns : List ℕ) (turn : ℕ) (wanted : Own) → ((own : Own) → change [] own ≡ own) → length ns ≤ turn
    → Changing g p b change (drop turn ns) wanted → BlocksStand g p b wanted
changing-all g p b change ns turn wanted last all was =
    subst (λ (o : Own). BlocksStand g p b o) (sym (last was.now) ∙ (ap (λ ks. change ks was.now) (sym (drop-end ns turn all)) ∙ was.comes)) was.stands

-- a trap, or what the statement does
pub answers-trap : (kind : TrapKind) (trapped : Bool) (own : Own) (partials : List ℕ) (stand : Own → Type 0) → true ≡ trapped → Answers (if trapped then Err kind else quiet own partials) stand (Err kind)
answers-trap kind true own partials stand is = refl
answers-trap kind false own partials stand is = absurd cc

pub answers-done : (kind : TrapKind) (trapped : Bool) (own : Own) (partials : List ℕ) (stand : Own → Type 0) → false ≡ trapped → stand own → Answers (if trapped then Err kind else quiet own partials) stand (Ok tt)
answers-done kind true own partials stand is stands = absurd cc
answers-done kind false own partials stand is stands = stands

-- spaces and numbers that are those of a setting and a state
pub are-of : (g : Setting) (own : Own) (s : Placed) (values : List ℕ) → s.spaces ≡ g.spaces → s.arrays ≡ map bare g.program.arrays → own.values ≡ values → AreOf g own s values
are-of g own s values same arrays now = record { spaces = same; arrays = arrays; values = now }

-- slots match the same in spaces that are those of a setting
pub match-here : (g : Setting) (s : Placed) (values : List ℕ) (array : ℕ) (slots : List Slot) → s.spaces ≡ g.spaces → s.arrays ≡ map bare g.program.arrays
    → MatchBlocks (record { spaces = g.spaces; arrays = map bare g.program.arrays }) values array slots → MatchBlocks s values array slots
match-here g s values array slots same arrays match = subst (λ (x : Placed). MatchBlocks x values array slots) (sym (placed-is g s same arrays)) match

-- the number of a matched block is one of the array's
pub matched-below : (g : Setting) (s : Placed) (array n : ℕ) → s.spaces ≡ g.spaces → s.arrays ≡ map bare g.program.arrays → n < blocks_of s.spaces (array_among s.arrays array) → n < block_count g array
matched-below g s array n same arrays within = let count = count-is g s array same arrays in omega (arith, within, count)

-- the place of a local block
pub local-place : (g : Setting) (b : Kept) (array n first : ℕ) → first ≡ place_by g b array 0 Local → first + n ≡ place_by g b array n Local
local-place g b array n first is = omega (arith, is)

-- a layout with other blocks at as many places
pub laid-still : (g : Setting) (b : Kept) (after : Seated) → length after.slots ≡ length b.seats.slots → IsLaidOut g b → IsLaidOut g (record b { seats = after })
laid-still g b after many laid = record {
  locals_at = laid.locals_at;
  temps_at = laid.temps_at;
  places = many ∙ laid.places;
  tuples = laid.tuples;
  ranks = laid.ranks;
}

-- the same blocks under another name
pub stands-as : (g : Setting) (p : Memory) (b : Kept) (seats : Seated) (own : Own) → b.seats ≡ seats → BlocksStand g p b own → BlocksStand g p (record b { seats = seats }) own
stands-as g p b seats own same stands = subst (λ (s : Seated). BlocksStand g p (record b { seats = s }) own) same stands
