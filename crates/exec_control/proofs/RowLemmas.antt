-- Rows of index numbers: one is replaced, a call begins or ends.
use Rattle.std.proofs.Common.{◌≡◌, ℕ, suc, ◌+◌, ◌<◌, List, [], ◌∷◌, ◌++◌, take, length, get_or, set, replicate, refl, sym, ap, ◌∙◌, subst, arith}
use Rattle.std.specs.Prelude.{All}
use Rattle.std.proofs.lemmas.List.{length-set, length-take-le, get_or-set_same, take-set}
use Rattle.std.proofs.lemmas.List.Elements.{All-get_or, All-set}
use Rattle.std.proofs.Math.Seq.{take-suc}
use Rattle.exec_control.specs.Bindings.{Bindings, AreRows, bindings_at}

-- each row is as long as the first
pub row_long : (rows : List (List ℕ)) (depth at : ℕ) → AreRows rows depth → at < 17 → length (get_or rows at []) ≡ length (get_or rows 0 [])
row_long rows depth at are below = All-get_or (λ (row : List ℕ). length row ≡ length (get_or rows 0 [])) rows at [] (omega (arith, are.count, below)) are.long

-- a row is replaced by one as long
pub rows_set : (rows : List (List ℕ)) (depth to at : ℕ) (row : List ℕ) → AreRows rows depth → at < 17 → to < 17 → length row ≡ length (get_or rows at []) → AreRows (set rows at row) to
rows_set rows depth to at row are below within long =
    let width : length row ≡ length (get_or rows 0 []) = long ∙ row_long rows depth at are below in
    let count : length (set rows at row) ≡ 17 = length-set rows at row ∙ are.count in
    let all : All (λ (r : List ℕ). length r ≡ length (get_or rows 0 [])) (set rows at row) = All-set (λ (r : List ℕ). length r ≡ length (get_or rows 0 [])) rows at row width are.long in
    let first : length (get_or (set rows at row) 0 []) ≡ length (get_or rows 0 []) = All-get_or (λ (r : List ℕ). length r ≡ length (get_or rows 0 [])) (set rows at row) 0 [] (omega (arith, count)) all in
    record {
      count = count;
      within = within;
      long = subst (λ (w : ℕ). All (λ (r : List ℕ). length r ≡ w) (set rows at row)) (sym first) all;
    }

-- one number of the last row is replaced
pub bound_row : (rows : List (List ℕ)) (depth index number : ℕ) (row : List ℕ) → AreRows rows depth → row ≡ get_or rows depth []
    → bindings_at (set rows depth (set row index number)) depth ≡ record { values = set (get_or rows depth []) index number; saved = take depth rows }
bound_row rows depth index number row are row_is =
    let here : get_or (set rows depth (set row index number)) depth [] ≡ set (get_or rows depth []) index number =
    get_or-set_same rows depth (set row index number) [] (omega (arith, are.count, are.within)) ∙ ap (λ r. set r index number) row_is in
    let before : take depth (set rows depth (set row index number)) ≡ take depth rows = take-set rows depth (set row index number) in
    both_parts here before
  where
    both_parts : {values others : List ℕ} {saved kept : List (List ℕ)} → values ≡ others → saved ≡ kept → ◌≡◌ {A = Bindings} (record { values = values; saved = saved }) (record { values = others; saved = kept })
    both_parts {values} {others} {saved} {kept} a b = rw (a, b) refl

-- a call begins: a row of zeros is behind the others
pub called_row : (rows : List (List ℕ)) (depth : ℕ) (row : List ℕ) → AreRows rows depth → depth + 1 < 17 → row ≡ replicate (length (get_or rows (depth + 1) [])) 0
    → bindings_at (set rows (depth + 1) row) (depth + 1) ≡ record { values = replicate (length (get_or rows depth [])) 0; saved = take depth rows ++ get_or rows depth [] ∷ [] }
called_row rows depth row are below row_is =
    let long : length (get_or rows (depth + 1) []) ≡ length (get_or rows depth []) = row_long rows depth (depth + 1) are below ∙ sym (row_long rows depth depth are are.within) in
    let here : get_or (set rows (depth + 1) row) (depth + 1) [] ≡ replicate (length (get_or rows depth [])) 0 =
    get_or-set_same rows (depth + 1) row [] (omega (arith, are.count, below)) ∙ (row_is ∙ ap (λ n. replicate n 0) long) in
    let before : take (depth + 1) (set rows (depth + 1) row) ≡ take depth rows ++ get_or rows depth [] ∷ [] =
    take-set rows (depth + 1) row ∙ (ap (λ n. take n rows) (plus_one depth) ∙ take-suc rows depth [] (omega (arith, are.count, are.within))) in
    both_parts here before
  where
    plus_one : (n : ℕ) → n + 1 ≡ suc n
    plus_one n = omega arith

    both_parts : {values others : List ℕ} {saved kept : List (List ℕ)} → values ≡ others → saved ≡ kept → ◌≡◌ {A = Bindings} (record { values = values; saved = saved }) (record { values = others; saved = kept })
    both_parts {values} {others} {saved} {kept} a b = rw (a, b) refl

-- as many rows of callers as calls are in progress
pub saved_are : (rows : List (List ℕ)) (depth : ℕ) → AreRows rows depth → length (take depth rows) ≡ depth
saved_are rows depth are = length-take-le depth rows (omega (arith, are.count, are.within))
