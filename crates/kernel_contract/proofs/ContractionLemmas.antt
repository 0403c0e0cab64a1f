-- The contraction by the numbers of its free positions.
use Rattle.std.proofs.Common.{◌≡◌, ℕ, ◌+◌, ◌*◌, ◌%◌, ◌^◌, ◌<◌, ◌≤◌, List, length, get_or, ap, sym, subst, ◌∙◌, arith}
use Rattle.std.proofs.Math.Nat.{mod-le, mod-eq_of_lt}
use Rattle.kernel_permute.specs.How.{combined}
use Rattle.kernel_permute.specs.declared.how.How.{How}
use Rattle.kernel_contract.specs.Contraction.{Contracted, Fits, target, value}
use Rattle.kernel_contract.specs.Parts.{AreTargets, Reaches, Replaced, sum_from}
use Rattle.kernel_contract.specs.Positions.{offset_a, offset_b, offset_to}
use Rattle.kernel_contract.specs.Walks.{count, number, position_at}
use Rattle.kernel_contract.specs.declared.axis.Axis.{Axis}
use Rattle.kernel_contract.proofs.PartLemmas.{AreTargets-rows, AreTargets-same, Replaced-rows, Replaced-same}
use Rattle.kernel_contract.proofs.PositionLemmas.{IsPosition-position_at, number-position_at, number_below, position_at-number}
use Rattle.kernel_contract.proofs.SourceLemmas.{known-add, sum_over-cong}

-- where the numbers of two free positions say the target is
abbrev pub target_at : List Axis → List Axis → ℕ → ℕ → ℕ
target_at free_a free_b i j = target free_a free_b (position_at free_a i) (position_at free_b j)

-- the value there
abbrev pub value_at : List ℕ → List ℕ → List Axis → List Axis → List Axis → ℕ → ℕ → ℕ
value_at a b free_a free_b shared i j = value a b free_a free_b shared (position_at free_a i) (position_at free_b j)

-- positions with one position have one number
same_number : (axes : List Axis) (i k : ℕ) → i < count axes → k < count axes → position_at axes i ≡ position_at axes k → i ≡ k
same_number axes i k hi hk e = sym (number-position_at axes i hi) ∙ ap (number axes) e ∙ number-position_at axes k hk

-- where the lists fit, the targets do
pub AreTargets-Fits : (a b to : ℕ) (free_a free_b shared : List Axis) → Fits a b to free_a free_b shared
    → AreTargets (target_at free_a free_b) (count free_a) (count free_b) to
AreTargets-Fits a b to free_a free_b shared fits = record {
  within = λ i j hi hj. fits.in_to (position_at free_a i) (position_at free_b j) (IsPosition-position_at free_a i hi) (IsPosition-position_at free_b j hj);
  differ = λ i j k l hi hj hk hl e.
      let d = fits.differ (position_at free_a i) (position_at free_b j) (position_at free_a k) (position_at free_b l)
      (IsPosition-position_at free_a i hi) (IsPosition-position_at free_b j hj) (IsPosition-position_at free_a k hk) (IsPosition-position_at free_b l hl) e in
      (same_number free_a i k hi hk d.0, same_number free_b j l hj hl d.1);
}

-- with each target replaced, the lists are contracted
pub Contracted-Replaced : (a b old new : List ℕ) (free_a free_b shared : List Axis) (how : How)
    → Replaced how (target_at free_a free_b) (value_at a b free_a free_b shared) (count free_a) (count free_b) old new
    → Contracted a b old new free_a free_b shared how
Contracted-Replaced a b old new free_a free_b shared how r = record {
  named = λ f g pf pg.
      subst
      (λ x. get_or new (target free_a free_b x g) 0 ≡ combined how (get_or old (target free_a free_b x g) 0) (value a b free_a free_b shared x g))
      (position_at-number free_a f pf)
      (subst
      (λ y. get_or new (target free_a free_b (position_at free_a (number free_a f)) y) 0
      ≡ combined how (get_or old (target free_a free_b (position_at free_a (number free_a f)) y) 0)
      (value a b free_a free_b shared (position_at free_a (number free_a f)) y))
      (position_at-number free_b g pg)
      (r.named (number free_a f) (number free_b g) (number_below free_a f pf) (number_below free_b g pg)));
  others = λ k h. r.others k (λ i j hi hj.
      h (position_at free_a i) (position_at free_b j) (IsPosition-position_at free_a i hi) (IsPosition-position_at free_b j hj));
  len = r.len;
}

-- where the lists fit, all positions of the first are reached
pub Reaches-a : (a b to : ℕ) (free_a free_b shared : List Axis) (i j x : ℕ) → Fits a b to free_a free_b shared → i < count free_a → j < count free_b
    → x ≡ offset_a free_a (position_at free_a i) % 2 ^ 64 → Reaches offset_a shared x a
Reaches-a a b to free_a free_b shared i j x fits hi hj e s p =
    let within = fits.in_a (position_at free_a i) (position_at free_b j) s (IsPosition-position_at free_a i hi) (IsPosition-position_at free_b j hj) p in
    let less = mod-le (offset_a free_a (position_at free_a i) + offset_a shared s) (2 ^ 64) in
    rw (known-add x (offset_a free_a (position_at free_a i)) (offset_a shared s) e) (omega (arith, within, less))

-- and of the second
pub Reaches-b : (a b to : ℕ) (free_a free_b shared : List Axis) (i j : ℕ) → Fits a b to free_a free_b shared → i < count free_a → j < count free_b
    → Reaches offset_b shared (offset_b free_b (position_at free_b j)) b
Reaches-b a b to free_a free_b shared i j fits hi hj s p =
    let within = fits.in_b (position_at free_a i) (position_at free_b j) s (IsPosition-position_at free_a i hi) (IsPosition-position_at free_b j hj) p in
    let less = mod-le (offset_b free_b (position_at free_b j) + offset_b shared s) (2 ^ 64) in
    omega (arith, within, less)

-- within a list the target is known exactly
pub target-known : (free_a free_b : List Axis) (i j x len : ℕ) → len < 2 ^ 64 → target_at free_a free_b i j < len
    → x ≡ offset_to free_a (position_at free_a i) % 2 ^ 64 → (x + offset_to free_b (position_at free_b j)) % 2 ^ 64 ≡ target_at free_a free_b i j
target-known free_a free_b i j x len small within e =
    known-add x (offset_to free_a (position_at free_a i)) (offset_to free_b (position_at free_b j)) e
    ∙ mod-eq_of_lt (omega (arith, within))

-- and so is the value
pub value-known : (a b : List ℕ) (to : ℕ) (free_a free_b shared : List Axis) (i j x : ℕ) → Fits (length a) (length b) to free_a free_b shared
    → length a < 2 ^ 64 → length b < 2 ^ 64 → i < count free_a → j < count free_b → x ≡ offset_a free_a (position_at free_a i) % 2 ^ 64
    → value_at a b free_a free_b shared i j ≡ sum_from a b shared x (offset_b free_b (position_at free_b j))
value-known a b to free_a free_b shared i j x fits small_a small_b hi hj e =
    ap (λ t. t % 2 ^ 64)
    (sum_over-cong shared
    (λ s. get_or a (offset_a free_a (position_at free_a i) + offset_a shared s) 0 * get_or b (offset_b free_b (position_at free_b j) + offset_b shared s) 0)
    (λ s. get_or a ((x + offset_a shared s) % 2 ^ 64) 0 * get_or b ((offset_b free_b (position_at free_b j) + offset_b shared s) % 2 ^ 64) 0)
    (λ s p.
    let pf = IsPosition-position_at free_a i hi in
    let pg = IsPosition-position_at free_b j hj in
    let in_a = fits.in_a (position_at free_a i) (position_at free_b j) s pf pg p in
    let in_b = fits.in_b (position_at free_a i) (position_at free_b j) s pf pg p in
    let at_a : (x + offset_a shared s) % 2 ^ 64 ≡ offset_a free_a (position_at free_a i) + offset_a shared s =
    known-add x (offset_a free_a (position_at free_a i)) (offset_a shared s) e ∙ mod-eq_of_lt (omega (arith, in_a)) in
    let at_b : (offset_b free_b (position_at free_b j) + offset_b shared s) % 2 ^ 64 ≡ offset_b free_b (position_at free_b j) + offset_b shared s =
    mod-eq_of_lt (omega (arith, in_b)) in
    rw (at_a, at_b)))

-- further rows of the target, where their offsets are known modulo 2^64
module _ (a b old mid : List ℕ) (free_a free_b shared : List Axis) (first rows : ℕ) (in_a in_to : ℕ → ℕ)
    (fits : Fits (length a) (length b) (length old) free_a free_b shared) (few : first + rows ≤ count free_a) (same : length mid ≡ length old)
    (small_a : length a < 2 ^ 64) (small_b : length b < 2 ^ 64) (small : length old < 2 ^ 64)
    (are_a : (i : ℕ) → i < rows → in_a i ≡ offset_a free_a (position_at free_a (first + i)) % 2 ^ 64)
    (are_to : (i : ℕ) → i < rows → in_to i ≡ offset_to free_a (position_at free_a (first + i)) % 2 ^ 64)
  where
    rows-are : (i j : ℕ) → i < rows → j < count free_b
        → (in_to i + offset_to free_b (position_at free_b j)) % 2 ^ 64 ≡ target_at free_a free_b (first + i) j
    rows-are i j row column =
        let all = AreTargets-Fits (length a) (length b) (length old) free_a free_b shared fits in
        target-known free_a free_b (first + i) j (in_to i) (length old) small (all.within (first + i) j (omega arith) column) (are_to i row)

    -- they are targets
    pub AreTargets-further : AreTargets (λ i j. (in_to i + offset_to free_b (position_at free_b j)) % 2 ^ 64) rows (count free_b) (length mid)
    AreTargets-further =
        let T = target_at free_a free_b in
        let all = AreTargets-Fits (length a) (length b) (length old) free_a free_b shared fits in
        subst (AreTargets (λ i j. (in_to i + offset_to free_b (position_at free_b j)) % 2 ^ 64) rows (count free_b)) (sym same)
        (AreTargets-same (λ i j. T (first + i) j) (λ i j. (in_to i + offset_to free_b (position_at free_b j)) % 2 ^ 64) rows (count free_b) (length old) rows-are
        (AreTargets-rows T first rows (count free_a) (count free_b) (length old) few all))

    -- their sources are reached
    pub Reaches-further : (i j : ℕ) → i < rows → j < count free_b → Reaches offset_a shared (in_a i) (length a)
    Reaches-further i j row column =
        Reaches-a (length a) (length b) (length old) free_a free_b shared (first + i) j (in_a i) fits (omega arith) column (are_a i row)

    -- and with them replaced, so many more rows are
    pub Replaced-further : (how : How) (new : List ℕ)
        → Replaced how (target_at free_a free_b) (value_at a b free_a free_b shared) first (count free_b) old mid
        → Replaced how (λ i j. (in_to i + offset_to free_b (position_at free_b j)) % 2 ^ 64)
        (λ i j. sum_from a b shared (in_a i) (offset_b free_b (position_at free_b j))) rows (count free_b) mid new
        → Replaced how (target_at free_a free_b) (value_at a b free_a free_b shared) (first + rows) (count free_b) old new
    Replaced-further how new front further =
        let T = target_at free_a free_b in
        let V = value_at a b free_a free_b shared in
        Replaced-rows how T V first rows (count free_b) (count free_a) (length old) old mid new few
        (AreTargets-Fits (length a) (length b) (length old) free_a free_b shared fits) front
        (Replaced-same how (λ i j. (in_to i + offset_to free_b (position_at free_b j)) % 2 ^ 64)
        (λ i j. sum_from a b shared (in_a i) (offset_b free_b (position_at free_b j))) (λ i j. T (first + i) j) (λ i j. V (first + i) j)
        rows (count free_b) mid new (λ i j row column. sym (rows-are i j row column))
        (λ i j row column. value-known a b (length old) free_a free_b shared (first + i) j (in_a i) fits small_a small_b (omega arith) column (are_a i row))
        further)
