-- The slots of a statement match blocks of its array, where the statement stands.
use Rattle.std.proofs.Common.{◌≡◌, ℕ, List, [], ◌∷◌, map, length, Bool, true, false, ◌==◌, ◌&&◌, ◌||◌, eqb-true, refl, sym, ap, ◌∙◌, subst, arith}
use Rattle.std.specs.Prelude.{flat_map}
use Rattle.std.specs.List.{list_all, list_any}
use Rattle.std.proofs.lemmas.List.{length-map}
use Rattle.sial_syntax.specs.declared.array.ArrayDecl.{ArrayDecl}
use Rattle.sial_syntax.specs.declared.array.ArrayKind.TheVariants.{Temp, Local}
use Rattle.sial_syntax.specs.declared.operand.Slot.{Slot}
use Rattle.sial_syntax.specs.declared.operand.Slot.TheVariants.{At, All}
use Rattle.sial_syntax.specs.Agreeing.{all_in, array_in, contains, has_kind, may_stand_for, slots_fit}
use Rattle.sial_syntax.specs.Parts.{blocks_named, condition_indices, conditions, indices_used, slot_index, slots_named, slotted_array}
use Rattle.sial_syntax.specs.Resolved.{range_within, slots_within}
use Rattle.sial_syntax.specs.Shapes.{disagrees, wrong_array, wrong_dims, wrong_form, wrong_loop, wrong_rank, wrong_slot_rank, wrong_slots, wrong_where}
use Rattle.sial_syntax.specs.Spaces.{same_kind}
use Rattle.sial_syntax.specs.Tree.{Allocate, Deallocate}
use Rattle.index_spaces.specs.Placed.{bare}
use Rattle.sial_meaning.specs.Setting.{Setting, array_kind, dims_of}
use Rattle.sial_meaning.specs.Sound.{IsSound}
use Rattle.sial_meaning.proofs.AcceptedInOtherWords.Pairs.{first-holds, second-holds, holds-so}
use Rattle.sial_meaning.proofs.Granted.Ranges.{AllWhole, InRange, array-whole, segments-named}
use Rattle.sial_meaning.proofs.Granted.Runs.{declared-array}
use Rattle.sial_meaning.proofs.Granted.Sameness.{kind-one}
use Rattle.sial_meaning.proofs.Granted.Visits.{Good}
use Rattle.sial_meaning.proofs.StepsReachTheFold.Rules.{neither}
use Rattle.sial_meaning.proofs.WritesFitTheirBlocks.Blocks.{front-in}
use Rattle.exec_names.specs.Matching.{AreSlots, MatchBlocks}
use Rattle.exec_names.proofs.NamedLemmas.{among-is}

-- both of two tests
both-true : {a b : Bool} → a ≡ true → b ≡ true → (a && b) ≡ true
both-true {b = b} first second = ap (λ q. q && b) first ∙ second

-- slots whose indices are bound within their ranges
slots-bound : (g : Setting) → IsSound g → (bound values : List ℕ) → InRange g bound values → (slots : List Slot) (dims : List ℕ) → all_in (flat_map slot_index slots) bound ≡ true → length slots ≡ length dims
    → slots_fit g.program slots dims ≡ true → slots_within g.spaces slots dims ≡ true → AllWhole g dims → AreSlots g.spaces values dims slots
slots-bound g sound bound values in-range [] [] used long fit within whole = tt
slots-bound g sound bound values in-range [] (d ∷ ds) used long fit within whole = absurd (omega (arith, long))
slots-bound g sound bound values in-range (x ∷ xs) [] used long fit within whole = absurd (omega (arith, long))
slots-bound g sound bound values in-range (At index ∷ xs) (d ∷ ds) used long fit within whole =
    let here = segments-named g sound bound values (index ∷ []) (d ∷ []) in-range
    (both-true (first-holds (contains bound index) (all_in (flat_map slot_index xs) bound) used) refl) refl
    (both-true (first-holds (may_stand_for g.program index d) (slots_fit g.program xs ds) fit) refl)
    (both-true (first-holds (range_within g.spaces index d) (slots_within g.spaces xs ds) within) refl) (whole.0, tt) in
    let rest = slots-bound g sound bound values in-range xs ds (second-holds (contains bound index) (all_in (flat_map slot_index xs) bound) used) (omega (arith, long))
    (second-holds (may_stand_for g.program index d) (slots_fit g.program xs ds) fit) (second-holds (range_within g.spaces index d) (slots_within g.spaces xs ds) within) whole.1 in
    ((here.0.0, here.0.1), rest)
slots-bound g sound bound values in-range (All ∷ xs) (d ∷ ds) used long fit within whole =
    slots-bound g sound bound values in-range xs ds used (omega (arith, long)) fit within whole.1

-- what the rules give of slots
record SlotsStand (g : Setting) (bound : List ℕ) (array : ℕ) (slots : List Slot) : Type 0 where
  used : all_in (flat_map slot_index slots) bound ≡ true
  kind : has_kind g.program Local array ≡ true
  long : length slots ≡ length (dims_of g array)
  fits : slots_fit g.program slots (dims_of g array) ≡ true
  within : slots_within g.spaces slots (dims_of g array) ≡ true

slots-match : (g : Setting) (bound values : List ℕ) (array : ℕ) (slots : List Slot) → IsSound g → InRange g bound values → SlotsStand g bound array slots
    → MatchBlocks (record { spaces = g.spaces; arrays = map bare g.program.arrays }) values array slots
slots-match g bound values array slots sound in-range stand =
    let local : array_kind g array ≡ Local = kind-one (array_kind g array) Local stand.kind in
    let other : same_kind (array_kind g array) Temp ≡ false = ap (λ k. same_kind k Temp) local in
    let is = among-is g array in
    let there = declared-array g array (array_kind g array) refl other in
    let long : length (map bare g.program.arrays) ≡ length g.program.arrays = length-map g.program.arrays bare in
    record {
      declared = omega (arith, there, long);
      counted = ap (λ (a : ArrayDecl). same_kind a.kind Temp) is ∙ other;
      within =
          subst (λ (a : ArrayDecl). AreSlots g.spaces values a.dims slots) (sym is)
          (slots-bound g sound bound values in-range slots (dims_of g array) stand.used stand.long stand.fits stand.within (array-whole g sound array other));
    }

-- the rules of such a statement
module _ (g : Setting) (line : ℕ) (bound : List ℕ) (inside : Bool) where
  allocate-stands : (array : ℕ) (at : List Slot) → Good g (record { line = line; form = Allocate array at; bound = bound; within = inside }) → SlotsStand g bound array at
  allocate-stands array at good =
      let p = g.program in
      let f = Allocate array at in
      let kinds = (neither (wrong_loop p f || wrong_where f) ((list_any (wrong_dims p) (blocks_named f) || wrong_slots p f) || (wrong_array p f || wrong_form f)) good.kind).1 in
      let parts = neither (list_any (wrong_dims p) (blocks_named f) || wrong_slots p f) (wrong_array p f || wrong_form f) kinds in
      let slots = (neither (list_any (wrong_dims p) (blocks_named f)) (wrong_slots p f) parts.0).1 in
      let ranks = (neither (list_any (wrong_rank p) (blocks_named f)) (wrong_slot_rank p f || disagrees p f) good.indices).1 in
      let used = holds-so (all_in (indices_used f) bound) good.unbound in
      record {
        used = (front-in (flat_map slot_index at) (flat_map condition_indices (conditions f)) bound used).0;
        kind = holds-so (has_kind p Local array) (neither (wrong_array p f) (wrong_form f) parts.1).0;
        long = eqb-true (length at) (length (dims_of g array)) (holds-so (length at == length (dims_of g array)) (neither (wrong_slot_rank p f) (disagrees p f) ranks).0);
        fits = holds-so (slots_fit p at (dims_of g array)) slots;
        within = first-holds (slots_within g.spaces at (dims_of g array)) true (second-holds true (list_all (λ a. slots_within g.spaces (slots_named f) (array_in p a).dims) (slotted_array f)) good.within);
      }

  deallocate-stands : (array : ℕ) (at : List Slot) → Good g (record { line = line; form = Deallocate array at; bound = bound; within = inside }) → SlotsStand g bound array at
  deallocate-stands array at good =
      let p = g.program in
      let f = Deallocate array at in
      let kinds = (neither (wrong_loop p f || wrong_where f) ((list_any (wrong_dims p) (blocks_named f) || wrong_slots p f) || (wrong_array p f || wrong_form f)) good.kind).1 in
      let parts = neither (list_any (wrong_dims p) (blocks_named f) || wrong_slots p f) (wrong_array p f || wrong_form f) kinds in
      let slots = (neither (list_any (wrong_dims p) (blocks_named f)) (wrong_slots p f) parts.0).1 in
      let ranks = (neither (list_any (wrong_rank p) (blocks_named f)) (wrong_slot_rank p f || disagrees p f) good.indices).1 in
      let used = holds-so (all_in (indices_used f) bound) good.unbound in
      record {
        used = (front-in (flat_map slot_index at) (flat_map condition_indices (conditions f)) bound used).0;
        kind = holds-so (has_kind p Local array) (neither (wrong_array p f) (wrong_form f) parts.1).0;
        long = eqb-true (length at) (length (dims_of g array)) (holds-so (length at == length (dims_of g array)) (neither (wrong_slot_rank p f) (disagrees p f) ranks).0);
        fits = holds-so (slots_fit p at (dims_of g array)) slots;
        within = first-holds (slots_within g.spaces at (dims_of g array)) true (second-holds true (list_all (λ a. slots_within g.spaces (slots_named f) (array_in p a).dims) (slotted_array f)) good.within);
      }

-- slots of `allocate` match blocks of the array
pub allocate-fits : (g : Setting) (values bound : List ℕ) (line : ℕ) (within : Bool) (array : ℕ) (slots : List Slot) → IsSound g → InRange g bound values
    → Good g (record { line = line; form = Allocate array slots; bound = bound; within = within }) → MatchBlocks (record { spaces = g.spaces; arrays = map bare g.program.arrays }) values array slots
allocate-fits g values bound line within array slots sound in-range good = slots-match g bound values array slots sound in-range (allocate-stands g line bound within array slots good)

-- and so do those of `deallocate`
pub deallocate-fits : (g : Setting) (values bound : List ℕ) (line : ℕ) (within : Bool) (array : ℕ) (slots : List Slot) → IsSound g → InRange g bound values
    → Good g (record { line = line; form = Deallocate array slots; bound = bound; within = within }) → MatchBlocks (record { spaces = g.spaces; arrays = map bare g.program.arrays }) values array slots
deallocate-fits g values bound line within array slots sound in-range good = slots-match g bound values array slots sound in-range (deallocate-stands g line bound within array slots good)
