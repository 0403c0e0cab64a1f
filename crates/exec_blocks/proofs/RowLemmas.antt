-- One entry of one row is replaced: what all entries are then.
use Rattle.std.proofs.Common.{◌≡◌, ◌≢◌, ℕ, ◌<◌, List, [], length, slice_index_or, slice_set, inl, inr, sym, ap, ◌∙◌, length-set}
use Rattle.std.proofs.lemmas.Bool.{cases_eq}
use Rattle.std.proofs.lemmas.List.{get_or-set_same, get_or-set_other}

-- one entry of one row replaced
abbrev pub with_entry : {X : Type 0} → List (List X) → (row place : ℕ) → X → List (List X)
with_entry xss row place x = slice_set xss row (slice_set (slice_index_or xss row []) place x)

module _ {X : Type 0} (xss : List (List X)) (row place : ℕ) (x : X) (d : X) (inside : row < length xss) where
  -- the row
  pub row-same : slice_index_or (with_entry xss row place x) row [] ≡ slice_set (slice_index_or xss row []) place x
  row-same = get_or-set_same xss row (slice_set (slice_index_or xss row []) place x) [] inside

  -- any other row
  pub row-other : (r : ℕ) → r ≢ row → slice_index_or (with_entry xss row place x) r [] ≡ slice_index_or xss r []
  row-other r ne = get_or-set_other xss row r (slice_set (slice_index_or xss row []) place x) [] ne

  -- the entry
  pub entry-same : place < length (slice_index_or xss row []) → slice_index_or (slice_index_or (with_entry xss row place x) row []) place d ≡ x
  entry-same within = ap (λ (r : List X). slice_index_or r place d) row-same ∙ get_or-set_same (slice_index_or xss row []) place x d within

  -- any other
  pub entry-other : (r p : ℕ) → (r ≡ row → p ≢ place) → slice_index_or (slice_index_or (with_entry xss row place x) r []) p d ≡ slice_index_or (slice_index_or xss r []) p d
  entry-other r p other = elim (cases_eq r row) as (λ _. slice_index_or (slice_index_or (with_entry xss row place x) r []) p d ≡ slice_index_or (slice_index_or xss r []) p d) [
    | inl e ↦ ap (λ (n : ℕ). slice_index_or (slice_index_or (with_entry xss row place x) n []) p d) e
        ∙ (ap (λ (r : List X). slice_index_or r p d) row-same
        ∙ (get_or-set_other (slice_index_or xss row []) place p x d (other e)
        ∙ ap (λ (n : ℕ). slice_index_or (slice_index_or xss n []) p d) (sym e)))
    | inr ne ↦ ap (λ (r : List X). slice_index_or r p d) (get_or-set_other xss row r (slice_set (slice_index_or xss row []) place x) [] ne)
  ]

  -- all rows are as long as before
  pub rows-long : (r : ℕ) → length (slice_index_or (with_entry xss row place x) r []) ≡ length (slice_index_or xss r [])
  rows-long r = elim (cases_eq r row) as (λ _. length (slice_index_or (with_entry xss row place x) r []) ≡ length (slice_index_or xss r [])) [
    | inl e ↦ ap (λ (n : ℕ). length (slice_index_or (with_entry xss row place x) n [])) e
        ∙ (ap (λ (r : List X). length r) row-same
        ∙ (length-set (slice_index_or xss row []) place x
        ∙ ap (λ (n : ℕ). length (slice_index_or xss n [])) (sym e)))
    | inr ne ↦ ap (λ (r : List X). length r) (get_or-set_other xss row r (slice_set (slice_index_or xss row []) place x) [] ne)
  ]
