-- Lemmas on rows of neighbours.
use Rattle.std.proofs.Common.{◌≡◌, ℕ, zero, suc, ◌+◌, ◌-◌, ◌*◌, ◌<◌, ◌≤◌, List, [], ◌∷◌, ◌++◌, length, get_or, take, drop, set, sym, ◌∙◌, ap, refl, subst, length-set, arith}
use Rattle.std.proofs.lemmas.List.{drop_all, drop_more}
use Rattle.kernel_permute.specs.declared.how.How.{How}
use Rattle.kernel_permute.specs.declared.how.How.TheVariants.{Set}
use Rattle.kernel_permute.specs.How.{combined}
use Rattle.kernel_permute.specs.Positions.{each_number}
use Rattle.kernel_permute.specs.Strided.{met, met_from}
use Rattle.kernel_permute.proofs.PositionsLemmas.{rows}
use Rattle.kernel_permute.proofs.StridedLemmas.{row_turn}

-- one turn of the loop over a row of neighbours
pub neighbour_turn : (how : How) (from : List ℕ) (len i v : ℕ) (old all : List ℕ) → i < len → length old ≡ len → v ≡ combined how (get_or old i 0) (get_or from i 0) → take i old ++ rows (met how from 0 (1 ∷ [])) [] i (len - i) (drop i old) ≡ all → take (i + 1) (set old i v) ++ rows (met how from 0 (1 ∷ [])) [] (i + 1) (len - (i + 1)) (drop (i + 1) (set old i v)) ≡ all
neighbour_turn how from len i v old all below long is before =
    let place : i ≡ 0 + i * 1 = omega arith in
    row_turn how from 0 1 len i v old all below long (is ∙ ap (λ p. combined how (get_or old i 0) (get_or from p 0)) place) before

-- several turns of the loop over a row of neighbours
pub rows_met : (how : How) (from : List ℕ) (len n i : ℕ) (old all : List ℕ) → i + n ≤ len → length old ≡ len → take i old ++ rows (met how from 0 (1 ∷ [])) [] i (len - i) (drop i old) ≡ all → take (i + n) (met_from how from n i old) ++ rows (met how from 0 (1 ∷ [])) [] (i + n) (len - (i + n)) (drop (i + n) (met_from how from n i old)) ≡ all
rows_met how from len zero i old all within long before = let here : i + zero ≡ i = omega arith in rw here before
rows_met how from len (suc n) i old all within long before =
    let v = combined how (get_or old i 0) (get_or from i 0) in
    let ends : i + 1 + n ≡ i + suc n = omega arith in
    subst (λ (e : ℕ). take e (met_from how from n (i + 1) (set old i v)) ++ rows (met how from 0 (1 ∷ [])) [] e (len - e) (drop e (met_from how from n (i + 1) (set old i v))) ≡ all) ends
    (rows_met how from len n (i + 1) (set old i v) all (omega arith) (length-set old i v ∙ long) (neighbour_turn how from len i v old all (omega arith) long refl before))

-- one turn of the loop over fours
pub fours_turn : (how : How) (from : List ℕ) (len k : ℕ) (old new all : List ℕ) → 4 * k + 4 ≤ len → length old ≡ len → new ≡ met_from how from 4 (4 * k) old → take (4 * k) old ++ rows (met how from 0 (1 ∷ [])) [] (4 * k) (len - 4 * k) (drop (4 * k) old) ≡ all → take (4 * (k + 1)) new ++ rows (met how from 0 (1 ∷ [])) [] (4 * (k + 1)) (len - 4 * (k + 1)) (drop (4 * (k + 1)) new) ≡ all
fours_turn how from len k old new all within long is before =
    let next : 4 * k + 4 ≡ 4 * (k + 1) = omega arith in
    subst (λ (e : ℕ). take e new ++ rows (met how from 0 (1 ∷ [])) [] e (len - e) (drop e new) ≡ all) next
    (subst (λ (xs : List ℕ). take (4 * k + 4) xs ++ rows (met how from 0 (1 ∷ [])) [] (4 * k + 4) (len - (4 * k + 4)) (drop (4 * k + 4) xs) ≡ all) (sym is)
    (rows_met how from len 4 (4 * k) old all within long before))

-- neighbours that replace what is there
rows_copied : (from : List ℕ) (start n : ℕ) (old : List ℕ) → length old ≡ n → start + n ≡ length from → rows (met Set from 0 (1 ∷ [])) [] start n old ≡ drop start from
rows_copied from start zero old long ends = sym (drop_all start from (omega arith))
rows_copied from start (suc n) [] long ends = absurd (omega arith)
rows_copied from start (suc n) (x ∷ xs) long ends =
    let inside : start < length from = omega arith in
    let at : 0 + (start * 1 + 0) ≡ start = omega arith in
    ap (λ p. get_or from p 0 ∷ rows (met Set from 0 (1 ∷ [])) [] (start + 1) n xs) at
    ∙ ap (λ r. get_or from start 0 ∷ r) (rows_copied from (start + 1) n xs (omega arith) (omega arith))
    ∙ sym (drop_more from start 0 inside)

pub neighbours_copied : (from old : List ℕ) → length old ≡ length from → from ≡ each_number (met Set from 0 (1 ∷ [])) (length old ∷ []) old
neighbours_copied from old long = sym (rows_copied from 0 (length old) old refl (omega arith))
