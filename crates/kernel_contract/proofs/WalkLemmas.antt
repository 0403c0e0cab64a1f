-- One step of a walk.
use Rattle.std.proofs.Common.{◌≡◌, ℕ, ◌+◌, ◌*◌, ◌%◌, ◌^◌, ◌<◌, ◌≤◌, zero, suc, refl, ap, sym, ◌∙◌, arith, List, [], ◌∷◌, length, get_or, set, drop, lit<, replicate, Bool, true, false, cond, nat_lt, ◌&&◌, get_or-set_other, ◌≢◌}
use Rattle.std.proofs.lemmas.Bool.Decides.{nat_tests}
use Rattle.std.proofs.Math.Nat.{mod-add-mod, mod-eq_of_lt}
use Rattle.kernel_contract.specs.declared.axis.Axis.{Axis}
use Rattle.kernel_contract.specs.Positions.{IsPosition, offset, offset_a, offset_b, offset_to}
use Rattle.std.specs.List.{list_all}
use Rattle.kernel_contract.specs.Walks.{count, number, position_at, is_long, AreOffsets, IsRun}
use Rattle.kernel_contract.specs.declared.run.Run.{Run}
use Rattle.kernel_contract.proofs.Steps.{front_step}
use Rattle.kernel_contract.specs.declared.walk.Offsets.{Offsets}
use Rattle.kernel_contract.proofs.Numbers.{mod_cancel}
use Rattle.kernel_contract.proofs.PositionLemmas.{axis_at, offset-set, number-set, count-drop, IsPosition-at, number_below}

-- the offset of the next number along an axis
pub offset_forth : (stride : Axis → ℕ) (axes : List Axis) (position : List ℕ) (j old new : ℕ) → j < length axes → IsPosition axes position
    → old ≡ offset stride axes position % 2 ^ 64 → new ≡ (old + 1 * stride (axis_at axes j)) % 2 ^ 64
    → new ≡ offset stride axes (set position j (get_or position j 0 + 1)) % 2 ^ 64
offset_forth stride axes position j old new low h o n =
    let moved = offset-set stride axes position j (get_or position j 0 + 1) low h in
    let shape : offset stride axes position + 1 * stride (axis_at axes j) ≡ offset stride axes (set position j (get_or position j 0 + 1)) = omega (arith, moved) in
    n ∙ rw o (mod-add-mod (offset stride axes position) (2 ^ 64) (1 * stride (axis_at axes j)) ∙ ap (λ t. t % 2 ^ 64) shape)

-- the offset of the first number along an axis
pub offset_back : (stride : Axis → ℕ) (axes : List Axis) (position : List ℕ) (j old new : ℕ) → j < length axes → IsPosition axes position
    → old ≡ offset stride axes position % 2 ^ 64 → (new + get_or position j 0 * stride (axis_at axes j)) % 2 ^ 64 ≡ old → new < 2 ^ 64
    → new ≡ offset stride axes (set position j 0) % 2 ^ 64
offset_back stride axes position j old new low h o n small =
    let moved = offset-set stride axes position j 0 low h in
    let digit : ℕ = get_or position j 0 * stride (axis_at axes j) in
    let shape : offset stride axes position ≡ offset stride axes (set position j 0) + digit = omega (arith, moved) in
    sym (mod-eq_of_lt small)
    ∙ mod_cancel new (offset stride axes (set position j 0)) digit (2 ^ 64) (lit< tt) (n ∙ o ∙ ap (λ t. t % 2 ^ 64) shape)

-- the offsets of the next position along an axis
pub AreOffsets-forth : (axes : List Axis) (position : List ℕ) (j : ℕ) (old new : Offsets) → j < length axes → IsPosition axes position → AreOffsets axes position old
    → new.a ≡ (old.a + 1 * (axis_at axes j).a) % 2 ^ 64
    → new.b ≡ (old.b + 1 * (axis_at axes j).b) % 2 ^ 64
    → new.to ≡ (old.to + 1 * (axis_at axes j).to) % 2 ^ 64
    → AreOffsets axes (set position j (get_or position j 0 + 1)) new
AreOffsets-forth axes position j old new low h o a b to = record {
  a = offset_forth (λ x. x.a) axes position j old.a new.a low h o.a a;
  b = offset_forth (λ x. x.b) axes position j old.b new.b low h o.b b;
  to = offset_forth (λ x. x.to) axes position j old.to new.to low h o.to to;
}

-- the offsets of the first position along an axis
pub AreOffsets-back : (axes : List Axis) (position : List ℕ) (j : ℕ) (old new : Offsets) → j < length axes → IsPosition axes position → AreOffsets axes position old
    → (new.a + get_or position j 0 * (axis_at axes j).a) % 2 ^ 64 ≡ old.a → new.a < 2 ^ 64
    → (new.b + get_or position j 0 * (axis_at axes j).b) % 2 ^ 64 ≡ old.b → new.b < 2 ^ 64
    → (new.to + get_or position j 0 * (axis_at axes j).to) % 2 ^ 64 ≡ old.to → new.to < 2 ^ 64
    → AreOffsets axes (set position j 0) new
AreOffsets-back axes position j old new low h o a small_a b small_b to small_to = record {
  a = offset_back (λ x. x.a) axes position j old.a new.a low h o.a a small_a;
  b = offset_back (λ x. x.b) axes position j old.b new.b low h o.b b small_b;
  to = offset_back (λ x. x.to) axes position j old.to new.to low h o.to to small_to;
}

-- with one more along the axis the number is the next
pub number_forth : (axes : List Axis) (position : List ℕ) (i j first : ℕ) → i ≡ suc j → j < length axes → IsPosition axes position
    → number axes position + count (drop i axes) ≡ first + 1 → number axes (set position j (get_or position j 0 + 1)) ≡ first + 1
number_forth axes position i j first e low h owed =
    let weight : number axes position + count (drop (suc j) axes) ≡ first + 1 = rw e at owed in
    omega (arith, number-set axes position j (get_or position j 0 + 1) low h)

-- from the last along the axis to the first, the weight of the axis before is owed
pub number_back : (axes : List Axis) (position : List ℕ) (i j first : ℕ) → i ≡ suc j → j < length axes → IsPosition axes position
    → (axis_at axes j).len ≤ get_or position j 0 + 1
    → number axes position + count (drop i axes) ≡ first + 1 → number axes (set position j 0) + count (drop j axes) ≡ first + 1
number_back axes position i j first e low h last owed =
    let weight : number axes position + count (drop (suc j) axes) ≡ first + 1 = rw e at owed in
    let digit : get_or position j 0 < (axis_at axes j).len = IsPosition-at axes position j low h in
    let len : (axis_at axes j).len ≡ get_or position j 0 + 1 = omega arith in
    rw (count-drop axes j low, len) (omega (arith, number-set axes position j 0 low h))

count-drop-zero : (axes : List Axis) → count (drop 0 axes) ≡ count axes
count-drop-zero [] = refl
count-drop-zero (x ∷ xs) = refl

-- past the last position all are gone
pub number_end : (axes : List Axis) (position start : List ℕ) (i : ℕ) → i ≤ 0 → IsPosition axes start
    → number axes position + count (drop i axes) ≡ number axes start + 1 → count axes ≡ number axes start + 1
number_end axes position start i low h owed =
    let none : i ≡ 0 = omega arith in
    let all : number axes position + count (drop 0 axes) ≡ number axes start + 1 = rw none at owed in
    omega (arith, number_below axes start h, count-drop-zero axes)

-- what a conjunction that holds says
pub both_true : (a b : Bool) → (a && b) ≡ true → (a ≡ true) × (b ≡ true)
both_true true b e = (refl, e)
both_true false b e = absurd cc

long : (n : ℕ) → nat_lt 0 n ≡ true → 0 < n
long n e = grind (arith, nat_tests)

not_long : (n : ℕ) → nat_lt 0 n ≡ false → n ≡ 0
not_long n e = grind (arith, nat_tests)

-- where each axis has a number, zeros are a position
pub IsPosition-zeros : (axes : List Axis) (n : ℕ) → n ≡ length axes → list_all is_long axes ≡ true → IsPosition axes (replicate n 0)
IsPosition-zeros [] zero e all = tt
IsPosition-zeros [] (suc n) e all = absurd (omega arith)
IsPosition-zeros (x ∷ xs) zero e all = absurd (omega arith)
IsPosition-zeros (x ∷ xs) (suc n) e all =
    let both = both_true (is_long x) (list_all is_long xs) all in
    (long x.len both.0, IsPosition-zeros xs n (omega arith) both.1)

-- and their offset and their number are 0
pub offset-zeros : (stride : Axis → ℕ) (axes : List Axis) (n : ℕ) → offset stride axes (replicate n 0) ≡ 0
offset-zeros stride [] n = refl
offset-zeros stride (x ∷ xs) zero = refl
offset-zeros stride (x ∷ xs) (suc n) = omega (arith, offset-zeros stride xs n)

number-zeros : (axes : List Axis) (n : ℕ) → number axes (replicate n 0) ≡ 0
number-zeros [] n = refl
number-zeros (x ∷ xs) zero = refl
number-zeros (x ∷ xs) (suc n) = rw (number-zeros xs n) (omega arith)

-- with an axis of length 0 there are none
count-none : (axes : List Axis) → list_all is_long axes ≡ false → count axes ≡ 0
count-none [] e = absurd cc
count-none (x ∷ xs) e =
    elim (is_long x) as (λ b. is_long x ≡ b → (b && list_all is_long xs) ≡ false → x.len * count xs ≡ 0) [
      | true ↦ λ _ rest. rw (count-none xs rest) (omega arith)
      | false ↦ λ short _. rw (not_long x.len short) (omega arith)
    ] refl e

-- a walk begins with none gone
pub gone_none : (axes : List Axis) (n : ℕ) (left : Bool) → left ≡ list_all is_long axes → cond left (number axes (replicate n 0)) (count axes) ≡ 0
gone_none axes n true e = number-zeros axes n
gone_none axes n false e = count-none axes (sym e)

-- not more are gone than there are
pub gone-le : (axes : List Axis) (left : Bool) (position : List ℕ) → (left ≡ true → IsPosition axes position)
    → cond left (number axes position) (count axes) ≤ count axes
gone-le axes true position h = omega (arith, number_below axes position (h refl))
gone-le axes false position h = omega arith

-- an array that a number fills has it everywhere
get_or-filled : (n v i : ℕ) → i < n → get_or (replicate n v) i 0 ≡ v
get_or-filled zero v i low = absurd (omega arith)
get_or-filled (suc n) v zero low = refl
get_or-filled (suc n) v (suc i) low = get_or-filled n v i (omega arith)

-- a run of one position
pub IsRun-of : {N : ℕ} (axes : List Axis) (first : ℕ) (new : Run N) (at : Offsets) → 0 < N → AreOffsets axes (position_at axes first) at
    → new.len ≡ 1 → new.a ≡ replicate N at.a → new.b ≡ replicate N at.b → new.to ≡ replicate N at.to → IsRun axes first new
IsRun-of {N} axes first new at some here len a b to = record {
  some = omega arith;
  len = omega arith;
  a = λ i low. let none : first + i ≡ first = omega arith in rw (a, none) (get_or-filled N at.a i (omega arith) ∙ here.a);
  b = λ i low. let none : first + i ≡ first = omega arith in rw (b, none) (get_or-filled N at.b i (omega arith) ∙ here.b);
  to = λ i low. let none : first + i ≡ first = omega arith in rw (to, none) (get_or-filled N at.to i (omega arith) ∙ here.to);
  filled = record {
    a = λ i _ low. rw a (get_or-filled N at.a i low ∙ sym (get_or-filled N at.a 0 some));
    b = λ i _ low. rw b (get_or-filled N at.b i low ∙ sym (get_or-filled N at.b 0 some));
  };
}

-- a write behind the first keeps the rest as it was filled
filled-set : (N : ℕ) (xs : List ℕ) (n v : ℕ) → 0 < n → ((i : ℕ) → n ≤ i → i < N → get_or xs i 0 ≡ get_or xs 0 0)
    → (i : ℕ) → n + 1 ≤ i → i < N → get_or (set xs n v) i 0 ≡ get_or (set xs n v) 0 0
filled-set N xs n v some rest i high low =
    let behind : i ≢ n = omega arith in
    let front : 0 ≢ n = omega arith in
    get_or-set_other xs n i v 0 behind ∙ rest i (omega arith) low ∙ sym (get_or-set_other xs n 0 v 0 front)

-- a run with one more position
pub IsRun-push : {N : ℕ} (axes : List Axis) (first : ℕ) (run new : Run N) (at : Offsets) → run.len < N
    → length run.a ≡ N → length run.b ≡ N → length run.to ≡ N → IsRun axes first run → AreOffsets axes (position_at axes (first + run.len)) at
    → new.len ≡ run.len + 1 → new.a ≡ set run.a run.len at.a → new.b ≡ set run.b run.len at.b → new.to ≡ set run.to run.len at.to
    → IsRun axes first new
IsRun-push {N} axes first run new at low len_a len_b len_to r here len a b to = record {
  some = omega arith;
  len = omega arith;
  a = rw (len, a) (front_step (λ i v. v ≡ offset_a axes (position_at axes (first + i)) % 2 ^ 64) run.a 0 at.a run.len (omega arith) r.a here.a);
  b = rw (len, b) (front_step (λ i v. v ≡ offset_b axes (position_at axes (first + i)) % 2 ^ 64) run.b 0 at.b run.len (omega arith) r.b here.b);
  to = rw (len, to) (front_step (λ i v. v ≡ offset_to axes (position_at axes (first + i)) % 2 ^ 64) run.to 0 at.to run.len (omega arith) r.to here.to);
  filled = record {
    a = rw (len, a) (filled-set N run.a run.len at.a r.some r.filled.a);
    b = rw (len, b) (filled-set N run.b run.len at.b r.some r.filled.b);
  };
}

-- where there are positions and none is gone, a walk stands at one
pub left_some : (axes : List Axis) (left : Bool) (position : List ℕ) → cond left (number axes position) (count axes) ≡ 0 → 0 < count axes → left ≡ true
left_some axes true position none some = refl
left_some axes false position none some = absurd (omega (arith, none))
