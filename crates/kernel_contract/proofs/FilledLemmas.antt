-- Lists of axes with axes of one number in front.
use Rattle.std.proofs.Common.{◌≡◌, ℕ, ◌-◌, ◌%◌, ◌^◌, ◌≤◌, zero, suc, List, [], ◌∷◌, ◌++◌, length, drop, take, ap, sym, ◌∙◌, arith, refl, replicate, lit<}
use Rattle.std.proofs.lemmas.List.{append-nil, drop_all, length-replicate, take-append-drop, take-replicate}
use Rattle.std.proofs.lemmas.Slice.{drop-put_mid, take-put_mid}
use borrow.Rule.Slice.PartMut.{put_mid}
use Rattle.kernel_permute.specs.declared.how.How.{How}
use Rattle.kernel_contract.specs.Contraction.{Contracted, Fits, target, value}
use Rattle.kernel_contract.specs.Positions.{IsPosition, offset, one, filled_up, sum_over}
use Rattle.kernel_contract.specs.declared.axis.Axis.{Axis}
use Rattle.kernel_contract.proofs.SourceLemmas.{sum_over-cong}

-- a position with a 0 for each axis in front
abbrev pub behind : ℕ → List ℕ → List ℕ
behind n position = replicate n 0 ++ position

-- is a position, at the same offset
pub IsPosition-behind : (n : ℕ) (axes : List Axis) (position : List ℕ) → IsPosition axes position → IsPosition (filled_up n axes) (behind n position)
IsPosition-behind zero axes position h = h
IsPosition-behind (suc n) axes position h = (lit< tt, IsPosition-behind n axes position h)

pub offset-behind : (stride : Axis → ℕ) (n : ℕ) (axes : List Axis) (position : List ℕ) → stride one ≡ 0 → offset stride (filled_up n axes) (behind n position) ≡ offset stride axes position
offset-behind stride zero axes position none = refl
offset-behind stride (suc n) axes position none = omega (arith, offset-behind stride n axes position none)

-- the sum over all positions is the same
pub sum_over-behind : (n : ℕ) (axes : List Axis) (term : List ℕ → ℕ) → sum_over (filled_up n axes) term ≡ sum_over axes (λ position. term (behind n position))
sum_over-behind zero axes term = refl
sum_over-behind (suc n) axes term = omega (arith, sum_over-behind n axes (λ position. term (0 ∷ position)))

-- and every position is such a one
pub position-front : (n : ℕ) (axes : List Axis) (position : List ℕ) → IsPosition (filled_up n axes) position → (rest : List ℕ) × IsPosition axes rest × (position ≡ behind n rest)
position-front zero axes position h = (position, h, refl)
position-front (suc n) axes [] h = absurd h
position-front (suc n) axes (k ∷ ks) h =
    let first : k ≡ 0 = omega (arith, h.0) in
    let more = position-front n axes ks h.1 in
    (more.0, more.1, ap (λ x. x ∷ ks) first ∙ ap (λ xs. 0 ∷ xs) more.2)

-- the lists of axes of a contraction, filled up by so many each
module _ (n m l : ℕ) (free_a free_b shared : List Axis) where
  target-behind : (f g : List ℕ) → target (filled_up n free_a) (filled_up m free_b) (behind n f) (behind m g) ≡ target free_a free_b f g
  target-behind f g = let x = offset-behind (λ x. x.to) n free_a f refl in let y = offset-behind (λ x. x.to) m free_b g refl in rw (x, y)

  value-behind : (a b : List ℕ) (f g : List ℕ)
      → value a b (filled_up n free_a) (filled_up m free_b) (filled_up l shared) (behind n f) (behind m g) ≡ value a b free_a free_b shared f g
  value-behind a b f g =
      ap (λ t. t % 2 ^ 64)
      (sum_over-behind l shared _
      ∙ sum_over-cong shared _ _ (λ s _.
      let in_a = offset-behind (λ x. x.a) n free_a f refl in
      let shared_a = offset-behind (λ x. x.a) l shared s refl in
      let in_b = offset-behind (λ x. x.b) m free_b g refl in
      let shared_b = offset-behind (λ x. x.b) l shared s refl in
      rw (in_a, shared_a, in_b, shared_b)))

  -- fit where the lists do
  pub Fits-filled : (a b to : ℕ) → Fits a b to free_a free_b shared → Fits a b to (filled_up n free_a) (filled_up m free_b) (filled_up l shared)
  Fits-filled a b to fits = record {
    in_a = λ f g s pf pg ps.
        let f' = position-front n free_a f pf in
        let g' = position-front m free_b g pg in
        let s' = position-front l shared s ps in
        let at_f = offset-behind (λ x. x.a) n free_a f'.0 refl in
        let at_s = offset-behind (λ x. x.a) l shared s'.0 refl in
        rw (f'.2, s'.2, at_f, at_s) (fits.in_a f'.0 g'.0 s'.0 f'.1 g'.1 s'.1);
    in_b = λ f g s pf pg ps.
        let f' = position-front n free_a f pf in
        let g' = position-front m free_b g pg in
        let s' = position-front l shared s ps in
        let at_g = offset-behind (λ x. x.b) m free_b g'.0 refl in
        let at_s = offset-behind (λ x. x.b) l shared s'.0 refl in
        rw (g'.2, s'.2, at_g, at_s) (fits.in_b f'.0 g'.0 s'.0 f'.1 g'.1 s'.1);
    in_to = λ f g pf pg.
        let f' = position-front n free_a f pf in
        let g' = position-front m free_b g pg in
        let at = target-behind f'.0 g'.0 in
        rw (f'.2, g'.2, at) (fits.in_to f'.0 g'.0 f'.1 g'.1);
    differ = λ f g h k pf pg ph pk e.
        let f' = position-front n free_a f pf in
        let g' = position-front m free_b g pg in
        let h' = position-front n free_a h ph in
        let k' = position-front m free_b k pk in
        let first = target-behind f'.0 g'.0 in
        let second = target-behind h'.0 k'.0 in
        let same = rw (f'.2, g'.2, h'.2, k'.2, first, second) at e in
        let d = fits.differ f'.0 g'.0 h'.0 k'.0 f'.1 g'.1 h'.1 k'.1 same in
        (f'.2 ∙ ap (behind n) d.0 ∙ sym h'.2, g'.2 ∙ ap (behind m) d.1 ∙ sym k'.2);
  }

  -- and what they contract to is the same
  pub Contracted-filled : (a b old new : List ℕ) (how : How) → Contracted a b old new (filled_up n free_a) (filled_up m free_b) (filled_up l shared) how
      → Contracted a b old new free_a free_b shared how
  Contracted-filled a b old new how done = record {
    named = λ f g pf pg.
        let at = target-behind f g in
        let v = value-behind a b f g in
        rw (at, v) at (done.named (behind n f) (behind m g) (IsPosition-behind n free_a f pf) (IsPosition-behind m free_b g pg));
    others = λ k h. done.others k (λ f g pf pg e.
        let f' = position-front n free_a f pf in
        let g' = position-front m free_b g pg in
        let at = target-behind f'.0 g'.0 in
        h f'.0 g'.0 f'.1 g'.1 (sym at ∙ (rw (f'.2, g'.2) at e)));
    len = done.len;
  }

-- a list of axes copied behind axes of one number
pub filled_is : (n : ℕ) (axes new : List Axis) → length axes ≤ n → new ≡ axes
    → put_mid (n - length axes) (length (replicate n one) - (n - length axes)) (replicate n one) new ≡ filled_up (n - length axes) axes
filled_is n axes new few e =
    let a : ℕ = n - length axes in
    let xs : List Axis = replicate n one in
    let k : ℕ = length xs - a in
    let all : length xs ≡ n = length-replicate n one in
    let len : length new ≡ length axes = ap length e in
    let front : take n (put_mid a k xs new) ≡ take a xs ++ new = take-put_mid a k xs new n (omega (arith, len)) (omega (arith, all)) in
    let back : drop n (put_mid a k xs new) ≡ drop n xs = drop-put_mid a k xs new n (omega (arith, all)) (omega (arith, all)) (omega (arith, all, len)) in
    let none : drop n xs ≡ [] = drop_all n xs (omega (arith, all)) in
    let before : take a xs ≡ replicate a one = take-replicate a n one (omega arith) in
    let whole : take n (put_mid a k xs new) ++ drop n (put_mid a k xs new) ≡ put_mid a k xs new = take-append-drop n (put_mid a k xs new) in
    let parts : take n (put_mid a k xs new) ++ drop n (put_mid a k xs new) ≡ take a xs ++ new = rw (front, back, none) (append-nil (take a xs ++ new)) in
    let filled : take a xs ++ new ≡ replicate a one ++ axes = rw (before, e) refl in
    sym whole ∙ parts ∙ filled
