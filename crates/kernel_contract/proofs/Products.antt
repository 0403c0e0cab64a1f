-- A product that is added row by row.
use Rattle.std.proofs.Common.{◌≡◌, ℕ, ◌+◌, ◌*◌, ◌%◌, ◌^◌, ◌<◌, List, [], length, get_or, set, subst}
use Rattle.kernel_contract.specs.Product.{Multiplied, entry, row_of, row_by}
use Rattle.kernel_contract.proofs.Sums.{sum_to-cong}
use Rattle.kernel_contract.proofs.Steps.{front_step}

-- one more row
pub Multiplied-row : (n s : ℕ) (a b old mid : List (List ℕ)) (row : List ℕ) (i : ℕ) → i < length mid
    → Multiplied i n s a b old mid → row_of mid i ≡ row_of old i
    → ((j : ℕ) → j < n → get_or row j 0 ≡ (get_or (row_of mid i) j 0 + row_by (row_of a i) b s j) % 2 ^ 64)
    → Multiplied (i + 1) n s a b old (set mid i row)
Multiplied-row n s a b old mid row i inside done same here k j below column =
    front_step
    (λ r found. (c : ℕ) → c < n → get_or found c 0 ≡ (get_or (row_of old r) c 0 + row_by (row_of a r) b s c) % 2 ^ 64)
    mid [] row i inside (λ r h c w. done r c h w)
    (λ c w. subst (λ (t : List ℕ). get_or row c 0 ≡ (get_or t c 0 + row_by (row_of a i) b s c) % 2 ^ 64) same (here c w))
    k below j column

-- equal front parts have equal products
pub row_by-front : (s : ℕ) (row part : List ℕ) (b front : List (List ℕ)) (j : ℕ)
    → ((k : ℕ) → k < s → get_or part k 0 ≡ get_or row k 0) → ((k : ℕ) → k < s → entry front k j ≡ entry b k j)
    → row_by part front s j ≡ row_by row b s j
row_by-front s row part b front j rows columns =
    sum_to-cong s (λ k. get_or part k 0 * entry front k j) (λ k. get_or row k 0 * entry b k j)
    (λ k h. let r = rows k h in let c = columns k h in rw (r, c))
