-- Sides that are handed on, one after another.
use Rattle.std.proofs.Common.{◌≡◌, ℕ, zero, suc, ◌+◌, ◌-◌, ◌<◌, ◌≤◌, List, [], ◌∷◌, ◌++◌, map, drop, length, slice_index_or, set, refl, sym, ap, ◌∙◌, subst, arith}
use Rattle.std.specs.Global.{Vec}
use Rattle.std.proofs.lemmas.List.{drop_more, get_or-map}
use Rattle.sial_syntax.specs.Sides.{Sides, no_side, either_side}
use Rattle.scalar_discipline.specs.declared.call.Call.{Call}
use Rattle.scalar_discipline.specs.declared.standing.Standing.{Standing}
use Rattle.scalar_discipline.specs.Calls.{lists}
use Rattle.scalar_discipline.specs.Flat.{sides_of}
use Rattle.scalar_discipline.specs.Handing.{given_more, hand_on, handed, handed_by, next_sides, sides_after}

-- first some, then others
pub hand_append : (xs ys : List (ℕ × Sides)) (given : List Sides) → hand_on (xs ++ ys) given ≡ hand_on ys (hand_on xs given)
hand_append [] ys given = refl
hand_append (h ∷ hs) ys given = hand_append hs ys (given_more h.0 h.1 given)

-- the sides of one procedure are replaced
pub given_set : (given : List Standing) (i : ℕ) (s : Standing) → map sides_of (set given i s) ≡ set (map sides_of given) i (sides_of s)
given_set [] i s = refl
given_set (g ∷ gs) zero s = refl
given_set (g ∷ gs) (suc i) s = ap (λ ss. sides_of g ∷ ss) (given_set gs i s)

-- one procedure is given more
pub given_one : (given : List Standing) (i : ℕ) (own result sides : Standing) → i < length given → own ≡ slice_index_or given i own → sides_of result ≡ either_side (sides_of own) (sides_of sides)
    → map sides_of (set given i result) ≡ given_more i (sides_of sides) (map sides_of given)
given_one given i own result sides within at is =
    given_set given i result
    ∙ ap (set (map sides_of given) i)
    (is ∙ ap (λ (s : Sides). either_side s (sides_of sides)) (ap sides_of at ∙ sym (get_or-map sides_of given i own no_side within)))

-- one more procedure hands on
pub all_turn : (sides : List Sides) (calls : List (Vec Call)) (i : ℕ) (own : Vec Call) (s : Sides) (cs : List Call) (given new all : List Sides) → i < length calls → own ≡ slice_index_or calls i own → s ≡ slice_index_or sides i no_side → cs ≡ own.items
    → new ≡ hand_on (handed s cs) given → hand_on (handed_by sides i (lists (drop i calls))) given ≡ all → hand_on (handed_by sides (i + 1) (lists (drop (i + 1) calls))) new ≡ all
all_turn sides calls i own s cs given new all within at is items step so =
    let rest = handed_by sides (i + 1) (lists (drop (i + 1) calls)) in
    let first = drop_more calls i own within ∙ ap (λ (o : Vec Call). o ∷ drop (i + 1) calls) (sym at) in
    ap (hand_on rest) (step ∙ (ap (λ (t : Sides). hand_on (handed t cs) given) is ∙ ap (λ (ds : List Call). hand_on (handed (slice_index_or sides i no_side) ds) given) items))
    ∙ (sym (hand_append (handed (slice_index_or sides i no_side) own.items) rest given)
    ∙ (ap (λ (os : List (Vec Call)). hand_on (handed_by sides i (lists os)) given) (sym first) ∙ so))

-- what a round leaves as it is stays so
stays : (body : List Call) (calls : List (List Call)) (k j : ℕ) → next_sides body calls (sides_after body calls k) ≡ sides_after body calls k → sides_after body calls (k + j) ≡ sides_after body calls k
stays body calls k zero fixed = let none : k + 0 ≡ k = omega arith in ap (sides_after body calls) none
stays body calls k (suc j) fixed =
    let more : k + suc j ≡ suc (k + j) = omega arith in
    ap (sides_after body calls) more ∙ (ap (next_sides body calls) (stays body calls k j fixed) ∙ fixed)

pub settled-sides : (body : List Call) (calls : List (List Call)) (turn n : ℕ) (sides : List Sides) → sides ≡ sides_after body calls turn → next_sides body calls sides ≡ sides → turn ≤ n → sides ≡ sides_after body calls n
settled-sides body calls turn n sides is fixed few =
    let fixed-after : next_sides body calls (sides_after body calls turn) ≡ sides_after body calls turn = subst (λ (ss : List Sides). next_sides body calls ss ≡ ss) is fixed in
    let sum : turn + (n - turn) ≡ n = omega (arith, few) in
    is ∙ (sym (stays body calls turn (n - turn) fixed-after) ∙ ap (sides_after body calls) sum)
