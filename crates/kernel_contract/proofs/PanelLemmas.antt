-- Panels: four more columns, sums over a part, and parts of a sum that meet the target one after the other.
use Rattle.std.proofs.Common.{◌≡◌, ℕ, ◌+◌, ◌-◌, ◌*◌, ◌/◌, ◌%◌, ◌^◌, ◌<◌, ◌≤◌, List, [], ◌∷◌, zero, suc, refl, length, get_or, ap, sym, subst, ◌∙◌, arith, min, take}
use Rattle.std.proofs.lemmas.List.{get_or-take, length-take-le}
use Rattle.kernel_permute.specs.declared.how.How.{How}
use Rattle.kernel_contract.specs.Parts.{AreTargets, Replaced}
use Rattle.kernel_contract.specs.Product.{entry}
use Rattle.kernel_contract.specs.Panels.{IsPanel, column_entry}
use Rattle.kernel_contract.specs.Sum.{sum_to}
use Rattle.kernel_contract.proofs.PartLemmas.{Replaced-columns, Replaced-same, AreTargets-columns, AreTargets-same}
use Rattle.kernel_contract.proofs.SourceLemmas.{add-known}
use Rattle.kernel_contract.proofs.Sums.{sum_to-cong}

pub four-left : (q N : ℕ) → 4 * q < N → 4 * q + min 4 (N - 4 * q) ≤ N
four-left q N low = omega arith

pub four-more : (q N : ℕ) → 4 * q < N → 4 * q + min 4 (N - 4 * q) ≡ min (4 * (q + 1)) N
four-more q N low = omega arith

pub four-before : (q N : ℕ) → 4 * q < N → min (4 * q) N ≡ 4 * q
four-before q N low = omega arith

-- four more columns of a target, or as many as there are
pub Replaced-four : (how : How) (T V U W : ℕ → ℕ → ℕ) (m q n N len : ℕ) (old mid new : List ℕ) → 4 * q < N → n ≡ min 4 (N - 4 * q) → AreTargets T m N len
    → ((i j : ℕ) → i < m → j < n → T i (4 * q + j) ≡ U i j) → ((i j : ℕ) → i < m → j < n → V i (4 * q + j) ≡ W i j)
    → Replaced how T V m (min (4 * q) N) old mid → Replaced how U W m n mid new
    → Replaced how T V m (min (4 * (q + 1)) N) old new
Replaced-four how T V U W m q n N len old mid new low few t target value first second =
    let front : Replaced how T V m (4 * q) old mid = subst (λ c. Replaced how T V m c old mid) (four-before q N low) first in
    let fits : 4 * q + n ≤ N = rw few (four-left q N low) in
    let more : 4 * q + n ≡ min (4 * (q + 1)) N = rw few (four-more q N low) in
    subst (λ c. Replaced how T V m c old new) more
    (Replaced-columns how T V m (4 * q) n N len old mid new fits t front
    (Replaced-same how U W (λ i j. T i (4 * q + j)) (λ i j. V i (4 * q + j)) m n mid new target value second))

-- and their targets
pub AreTargets-four : (T U : ℕ → ℕ → ℕ) (m q n N len : ℕ) → 4 * q < N → n ≡ min 4 (N - 4 * q) → AreTargets T m N len
    → ((i j : ℕ) → i < m → j < n → U i j ≡ T i (4 * q + j)) → AreTargets U m n len
AreTargets-four T U m q n N len low few t same =
    let fits : 4 * q + n ≤ N = rw few (four-left q N low) in
    AreTargets-same (λ i j. T i (4 * q + j)) U m n len same (AreTargets-columns T m (4 * q) n N len fits t)

-- the columns of one panel
pub column_entry-four : (panels : List (List (List ℕ))) (q k j : ℕ) → j < 4 → column_entry panels k (4 * q + j) ≡ entry (get_or panels q []) k j
column_entry-four panels q k j low =
    let at : (4 * q + j) / 4 ≡ q = omega arith in
    let lane : (4 * q + j) % 4 ≡ j = omega arith in
    rw (at, lane)

-- the front of a panel
pub entry-take : (n : ℕ) (panel : List (List ℕ)) (k i : ℕ) → k < n → entry (take n panel) k i ≡ entry panel k i
entry-take n panel k i low = ap (λ (row : List ℕ). get_or row i 0) (get_or-take n panel k [] low)

-- the sums of a panel of rows with one of columns
pub panel_sum : (n : ℕ) (packed : List (List ℕ)) (panels : List (List (List ℕ))) (q i j sum : ℕ) → j < 4 → n ≤ length packed
    → sum ≡ sum_to (length (take n packed)) (λ k. entry (take n packed) k i * entry (take n (get_or panels q [])) k j) % 2 ^ 64
    → sum_to n (λ k. entry packed k i * column_entry panels k (4 * q + j)) % 2 ^ 64 ≡ sum
panel_sum n packed panels q i j sum low long e =
    let len : length (take n packed) ≡ n = length-take-le n packed long in
    ap (λ t. t % 2 ^ 64)
    (sum_to-cong n (λ k. entry packed k i * column_entry panels k (4 * q + j)) (λ k. entry (take n packed) k i * entry (take n (get_or panels q [])) k j)
    (λ k inside.
    let row = entry-take n packed k i inside in
    let column = entry-take n (get_or panels q []) k j inside in
    let four = column_entry-four panels q k j low in
    rw (row, column, four)))
    ∙ sym (rw len at e)

-- a panel's row has the numbers that the sum asks for, where a row's offset is known modulo 2^64
pub panel_term : (from lanes at : List ℕ) (panel : List (List ℕ)) (positions k i o : ℕ) → IsPanel from lanes at positions panel → k < positions → i < 4
    → get_or lanes i 0 ≡ o % 2 ^ 64 → entry panel k i ≡ get_or from ((get_or at k 0 + o) % 2 ^ 64) 0
panel_term from lanes at panel positions k i o is low lane e =
    is k i low lane ∙ ap (λ t. get_or from t 0) (add-known (get_or at k 0) (get_or lanes i 0) o e)

-- so the sums of a panel with columns are those
pub panel_terms : (from lanes at : List ℕ) (panel : List (List ℕ)) (panels : List (List (List ℕ))) (positions i j o : ℕ) → IsPanel from lanes at positions panel → i < 4
    → get_or lanes i 0 ≡ o % 2 ^ 64
    → sum_to positions (λ k. get_or from ((get_or at k 0 + o) % 2 ^ 64) 0 * column_entry panels k j) % 2 ^ 64
    ≡ sum_to positions (λ k. entry panel k i * column_entry panels k j) % 2 ^ 64
panel_terms from lanes at panel panels positions i j o is lane e =
    ap (λ t. t % 2 ^ 64)
    (sum_to-cong positions (λ k. get_or from ((get_or at k 0 + o) % 2 ^ 64) 0 * column_entry panels k j) (λ k. entry panel k i * column_entry panels k j)
    (λ k low. let row = panel_term from lanes at panel positions k i o is low lane e in rw row))

-- what stands in the first column of a tile that has no other
pub first-column : (sums : List ℕ) (i : ℕ) → i < 4
    → entry ((get_or sums 0 0 ∷ 0 ∷ 0 ∷ 0 ∷ []) ∷ (get_or sums 1 0 ∷ 0 ∷ 0 ∷ 0 ∷ []) ∷ (get_or sums 2 0 ∷ 0 ∷ 0 ∷ 0 ∷ []) ∷ (get_or sums 3 0 ∷ 0 ∷ 0 ∷ 0 ∷ []) ∷ []) i 0 ≡ get_or sums i 0
first-column sums zero h = refl
first-column sums (suc zero) h = refl
first-column sums (suc (suc zero)) h = refl
first-column sums (suc (suc (suc zero))) h = refl
first-column sums (suc (suc (suc (suc i)))) h = absurd (omega (arith, h))
