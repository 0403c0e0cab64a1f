-- Further columns of the target, where their offsets are known modulo 2^64.
use Rattle.std.proofs.Common.{◌≡◌, ℕ, ◌+◌, ◌*◌, ◌%◌, ◌^◌, ◌<◌, ◌≤◌, List, length, get_or, ap, sym, subst, ◌∙◌, arith}
use Rattle.std.proofs.Math.Nat.{mod-le, mod-eq_of_lt}
use Rattle.kernel_permute.specs.declared.how.How.{How}
use Rattle.kernel_contract.specs.Contraction.{Fits}
use Rattle.kernel_contract.specs.Parts.{AreTargets, Reaches, Replaced, sum_from}
use Rattle.kernel_contract.specs.Positions.{offset_a, offset_b, offset_to}
use Rattle.kernel_contract.specs.Walks.{IsRun, count, position_at}
use Rattle.kernel_contract.specs.declared.axis.Axis.{Axis}
use Rattle.kernel_contract.specs.declared.run.Run.{Run}
use Rattle.kernel_contract.proofs.ContractionLemmas.{AreTargets-Fits, Reaches-b, target_at, value_at}
use Rattle.kernel_contract.proofs.PartLemmas.{AreTargets-columns, AreTargets-same, Replaced-columns, Replaced-same}
use Rattle.kernel_contract.proofs.PositionLemmas.{IsPosition-position_at}
use Rattle.kernel_contract.proofs.SourceLemmas.{add-known, known-add, sum_from-known, sum_over-cong}

-- where the lists fit, all positions of the first are reached from a row's offset
pub Reaches-row : (a b to : ℕ) (free_a free_b shared : List Axis) (i j : ℕ) → Fits a b to free_a free_b shared → i < count free_a → j < count free_b
    → Reaches offset_a shared (offset_a free_a (position_at free_a i)) a
Reaches-row a b to free_a free_b shared i j fits hi hj s p =
    let within = fits.in_a (position_at free_a i) (position_at free_b j) s (IsPosition-position_at free_a i hi) (IsPosition-position_at free_b j hj) p in
    let less = mod-le (offset_a free_a (position_at free_a i) + offset_a shared s) (2 ^ 64) in
    omega (arith, within, less)

-- and the value is the sum from both offsets
pub value-whole : (a b : List ℕ) (to : ℕ) (free_a free_b shared : List Axis) (i j : ℕ) → Fits (length a) (length b) to free_a free_b shared
    → length a < 2 ^ 64 → length b < 2 ^ 64 → i < count free_a → j < count free_b
    → value_at a b free_a free_b shared i j ≡ sum_from a b shared (offset_a free_a (position_at free_a i)) (offset_b free_b (position_at free_b j))
value-whole a b to free_a free_b shared i j fits small_a small_b hi hj =
    ap (λ t. t % 2 ^ 64)
    (sum_over-cong shared
    (λ s. get_or a (offset_a free_a (position_at free_a i) + offset_a shared s) 0 * get_or b (offset_b free_b (position_at free_b j) + offset_b shared s) 0)
    (λ s. get_or a ((offset_a free_a (position_at free_a i) + offset_a shared s) % 2 ^ 64) 0
    * get_or b ((offset_b free_b (position_at free_b j) + offset_b shared s) % 2 ^ 64) 0)
    (λ s p.
    let pf = IsPosition-position_at free_a i hi in
    let pg = IsPosition-position_at free_b j hj in
    let in_a = fits.in_a (position_at free_a i) (position_at free_b j) s pf pg p in
    let in_b = fits.in_b (position_at free_a i) (position_at free_b j) s pf pg p in
    let at_a : (offset_a free_a (position_at free_a i) + offset_a shared s) % 2 ^ 64 ≡ offset_a free_a (position_at free_a i) + offset_a shared s =
    mod-eq_of_lt (omega (arith, in_a)) in
    let at_b : (offset_b free_b (position_at free_b j) + offset_b shared s) % 2 ^ 64 ≡ offset_b free_b (position_at free_b j) + offset_b shared s =
    mod-eq_of_lt (omega (arith, in_b)) in
    rw (at_a, at_b)))

-- columns from the one with a number on, by their offsets
module _ {N : ℕ} (a b old mid : List ℕ) (free_a free_b shared : List Axis) (first : ℕ) (run : Run N)
    (fits : Fits (length a) (length b) (length old) free_a free_b shared) (few : first + run.len ≤ count free_b) (same : length mid ≡ length old)
    (small_a : length a < 2 ^ 64) (small_b : length b < 2 ^ 64) (small : length old < 2 ^ 64) (some : 0 < count free_a) (is : IsRun free_b first run)
  where
    columns-are : (i j : ℕ) → i < count free_a → j < run.len
        → (offset_to free_a (position_at free_a i) + get_or run.to j 0) % 2 ^ 64 ≡ target_at free_a free_b i (first + j)
    columns-are i j row column =
        let all = AreTargets-Fits (length a) (length b) (length old) free_a free_b shared fits in
        let within = all.within i (first + j) row (omega arith) in
        add-known (offset_to free_a (position_at free_a i)) (get_or run.to j 0) (offset_to free_b (position_at free_b (first + j))) (is.to j column)
        ∙ mod-eq_of_lt (omega (arith, within))

    -- they are targets
    pub AreTargets-run : AreTargets (λ i j. (offset_to free_a (position_at free_a i) + get_or run.to j 0) % 2 ^ 64) (count free_a) run.len (length mid)
    AreTargets-run =
        let T = target_at free_a free_b in
        let all = AreTargets-Fits (length a) (length b) (length old) free_a free_b shared fits in
        subst (AreTargets (λ i j. (offset_to free_a (position_at free_a i) + get_or run.to j 0) % 2 ^ 64) (count free_a) run.len) (sym same)
        (AreTargets-same (λ i j. T i (first + j)) (λ i j. (offset_to free_a (position_at free_a i) + get_or run.to j 0) % 2 ^ 64) (count free_a) run.len (length old) columns-are
        (AreTargets-columns T (count free_a) first run.len (count free_b) (length old) few all))

    -- their sources are reached
    pub Reaches-run : (j : ℕ) → j < run.len → Reaches offset_b shared (get_or run.b j 0) (length b)
    Reaches-run j column s p =
        rw (known-add (get_or run.b j 0) (offset_b free_b (position_at free_b (first + j))) (offset_b shared s) (is.b j column))
        (Reaches-b (length a) (length b) (length old) free_a free_b shared 0 (first + j) fits some (omega arith) s p)

    -- and with them replaced, so many more columns are
    pub Replaced-run : (how : How) (new : List ℕ)
        → Replaced how (target_at free_a free_b) (value_at a b free_a free_b shared) (count free_a) first old mid
        → Replaced how (λ i j. (offset_to free_a (position_at free_a i) + get_or run.to j 0) % 2 ^ 64)
        (λ i j. sum_from a b shared (offset_a free_a (position_at free_a i)) (get_or run.b j 0)) (count free_a) run.len mid new
        → Replaced how (target_at free_a free_b) (value_at a b free_a free_b shared) (count free_a) (first + run.len) old new
    Replaced-run how new front further =
        let T = target_at free_a free_b in
        let V = value_at a b free_a free_b shared in
        Replaced-columns how T V (count free_a) first run.len (count free_b) (length old) old mid new few
        (AreTargets-Fits (length a) (length b) (length old) free_a free_b shared fits) front
        (Replaced-same how (λ i j. (offset_to free_a (position_at free_a i) + get_or run.to j 0) % 2 ^ 64)
        (λ i j. sum_from a b shared (offset_a free_a (position_at free_a i)) (get_or run.b j 0)) (λ i j. T i (first + j)) (λ i j. V i (first + j))
        (count free_a) run.len mid new (λ i j row column. sym (columns-are i j row column))
        (λ i j row column.
        value-whole a b (length old) free_a free_b shared i (first + j) fits small_a small_b row (omega arith)
        ∙ sym (sum_from-known a b shared (offset_a free_a (position_at free_a i)) (get_or run.b j 0) (offset_b free_b (position_at free_b (first + j))) (is.b j column)))
        further)
