-- The place of a matched block in its turn, one dimension after the other.
use Rattle.std.proofs.Common.{◌≡◌, ℕ, ◌+◌, ◌*◌, ◌/◌, ◌%◌, ◌<◌, ◌≤◌, List, ◌∷◌, sym, ap, ◌∙◌, subst, arith}
use Rattle.std.proofs.Math.Nat.{mul-div_cancel_left, mul-le-mul_right}
use Rattle.sial_syntax.specs.declared.operand.Slot.{Slot}
use Rattle.sial_syntax.specs.Boxes.{place_of, volume}
use Rattle.sial_syntax.specs.Spaces.{Spaces, box_of, count_of}
use Rattle.sial_syntax.proofs.BoxLemmas.{place-within}
use Rattle.exec_names.specs.Matching.{AreSlots, matches, slot_count, slot_first, tuple_in_turn}
use Rattle.exec_names.proofs.MatchLemmas.{first-in-turn, tuple-is}

-- what is known of a place whose first dimension has so many segments, of which so many are matched from the first on
pub record Turned (spaces : Spaces) (values dims : List ℕ) (slots : List Slot) (ds : List ℕ) (xs : List Slot) (turn first count wide all places : ℕ) : Type 0 where
  pub counted : 0 < count
  pub wide_some : 0 < wide
  pub behind : 0 < all / count
  pub places_some : 0 < places / wide
  pub are : AreSlots spaces values ds xs
  pub rest : turn % (all / count) < all / count
  pub matches_behind : all / count ≡ matches spaces ds xs
  pub places_behind : places / wide ≡ volume (box_of spaces ds)
  pub member : (first + turn / (all / count)) < wide
  pub below : (inner : ℕ) → inner < places / wide → ((first + turn / (all / count)) * (places / wide) + inner) < places
  pub place : (inner : ℕ) → inner ≡ place_of (box_of spaces ds) (tuple_in_turn spaces values ds xs (turn % (all / count)))
      → (first + turn / (all / count)) * (places / wide) + inner ≡ place_of (box_of spaces dims) (tuple_in_turn spaces values dims slots turn)

-- a number of rows before the end, and then a place in a row
within-rows : (k n v p : ℕ) → k < n → p < v → (k * v + p) < n * v
within-rows k n v p below inside =
    let rows : (k + 1) * v ≤ n * v = mul-le-mul_right v (omega (arith, below)) in
    let next : (k + 1) * v ≡ k * v + v = omega arith in
    let least : (k * v + v) ≤ n * v = subst (λ x. x ≤ n * v) next rows in
    omega (arith, least, inside)

pub turned : (spaces : Spaces) (values dims : List ℕ) (slots : List Slot) (d : ℕ) (ds : List ℕ) (x : Slot) (xs : List Slot) (turn first count wide all places : ℕ) → dims ≡ d ∷ ds → slots ≡ x ∷ xs
    → AreSlots spaces values dims slots → turn < all → places ≡ volume (box_of spaces dims) → all ≡ matches spaces dims slots
    → first ≡ slot_first spaces values d x → count ≡ slot_count spaces d x → wide ≡ count_of spaces d
    → Turned spaces values dims slots ds xs turn first count wide all places
turned spaces values dims slots d ds x xs turn first count wide all places dims-are slots-are are below places-are all-are first-is count-is wide-is =
    let m = matches spaces ds xs in
    let v = volume (box_of spaces ds) in
    let firsts : AreSlots spaces values (d ∷ ds) (x ∷ xs) = subst (λ (ss : List Slot). AreSlots spaces values (d ∷ ds) ss) slots-are (subst (λ (is : List ℕ). AreSlots spaces values is slots) dims-are are) in
    let all-is : all ≡ slot_count spaces d x * m = all-are ∙ (ap (λ (is : List ℕ). matches spaces is slots) dims-are ∙ ap (matches spaces (d ∷ ds)) slots-are) in
    let under : turn < slot_count spaces d x * m = subst (λ n. turn < n) all-is below in
    let f = first-in-turn spaces values d ds x xs turn firsts under in
    let behind-is : all / count ≡ m = ap (λ n. n / count) all-is ∙ (ap (λ n. slot_count spaces d x * m / n) count-is ∙ mul-div_cancel_left m f.counted) in
    let inside = f.member in
    let some : 0 < count_of spaces d = omega (arith, inside) in
    let places-is : places ≡ count_of spaces d * v = places-are ∙ ap (λ (is : List ℕ). volume (box_of spaces is)) dims-are in
    let stride-is : places / wide ≡ v = ap (λ n. n / wide) places-is ∙ (ap (λ n. count_of spaces d * v / n) wide-is ∙ mul-div_cancel_left v some) in
    let member-is : first + turn / (all / count) ≡ slot_first spaces values d x + turn / m = ap (λ n. n + turn / (all / count)) first-is ∙ ap (λ n. slot_first spaces values d x + turn / n) behind-is in
    let inner-below : place_of (box_of spaces ds) (tuple_in_turn spaces values ds xs (turn % m)) < v = place-within (box_of spaces ds) (tuple_in_turn spaces values ds xs (turn % m)) (tuple-is spaces values ds xs (turn % m) f.slots f.rest) in
    let some-stride : 0 < v = omega (arith, inner-below) in
    record {
      counted = subst (λ n. 0 < n) (sym count-is) f.counted;
      wide_some = subst (λ n. 0 < n) (sym wide-is) some;
      behind = subst (λ n. 0 < n) (sym behind-is) f.behind;
      places_some = subst (λ n. 0 < n) (sym stride-is) some-stride;
      are = f.slots;
      rest = subst (λ n. turn % n < n) (sym behind-is) f.rest;
      matches_behind = behind-is;
      places_behind = stride-is;
      member = subst (λ n. n < wide) (sym member-is) (subst (λ n. (slot_first spaces values d x + turn / m) < n) (sym wide-is) inside);
      below = λ inner in-row.
          subst (λ n. (n * (places / wide) + inner) < places) (sym member-is)
          (subst (λ n. ((slot_first spaces values d x + turn / m) * n + inner) < places) (sym stride-is)
          (subst (λ n. ((slot_first spaces values d x + turn / m) * v + inner) < n) (sym places-is)
          (within-rows (slot_first spaces values d x + turn / m) (count_of spaces d) v inner inside (subst (λ n. inner < n) stride-is in-row))));
      place = λ inner inner-is.
          ap (λ n. n * (places / wide) + inner) member-is
          ∙ (ap (λ n. (slot_first spaces values d x + turn / m) * n + inner) stride-is
          ∙ (ap (λ n. (slot_first spaces values d x + turn / m) * v + n) inner-is
          ∙ (ap (λ n. (slot_first spaces values d x + turn / m) * v + place_of (box_of spaces ds) (tuple_in_turn spaces values ds xs (turn % n))) behind-is
          ∙ (ap (λ (ss : List Slot). place_of (box_of spaces (d ∷ ds)) (tuple_in_turn spaces values (d ∷ ds) ss turn)) (sym slots-are)
          ∙ ap (λ (is : List ℕ). place_of (box_of spaces is) (tuple_in_turn spaces values is slots turn)) (sym dims-are)))));
    }
