-- Words of one list that meet others of it, and what this means for its rows.
use Rattle.std.proofs.Common.{◌≡◌, ℕ, ◌+◌, ◌-◌, ◌<◌, ◌≤◌, List, [], ◌++◌, length, get_or, set, take, drop, slice_range, ap, sym, ◌∙◌, arith, length-drop, append_assoc, append-nil}
use Rattle.std.proofs.lemmas.List.{take-take, drop-take, take-append-drop, drop-append-le, length-take-le, take_rest, drop_all}
use Rattle.std.proofs.lemmas.Slice.{between_is}
use Rattle.block_pool.specs.declared.how.How.{How}
use Rattle.block_pool.specs.Mixed.{mixed}
use Rattle.block_pool.specs.Cut.{total, cut}
use Rattle.block_pool.proofs.CutLemmas.{row-cut, total_within, cut_written}
use Rattle.block_pool.proofs.MixedLemmas.{length-mixed, mixed_front, mixed-append}

module _ (how : How) where
  -- the words that are met stand behind the others
  pub meets_behind : (words src : List ℕ) (from to len : ℕ) → src ≡ slice_range (take to words) from (from + len) → from + len ≤ to → from + len ≤ length words
      → take to words ++ mixed how (length src) (drop to words) src ≡ take to words ++ mixed how len (drop to words) (drop from words)
  meets_behind words src from to len is before within =
      let there : src ≡ take len (drop from words) =
      is ∙ (between_is (take to words) from (from + len) ∙ (ap (drop from) (take-take (from + len) to words before) ∙ drop-take from len words)) in
      let many : length src ≡ len = ap length there ∙ length-take-le len (drop from words) (omega (arith, length-drop from words)) in
      ap (λ n. take to words ++ mixed how n (drop to words) src) many
      ∙ ap (λ r. take to words ++ mixed how len (drop to words) r) there
      ∙ ap (λ r. take to words ++ r) (mixed_front how len len (drop to words) (drop from words) (omega arith))

  -- the words that are met stand before the others
  pub meets_before : (words front back new : List ℕ) (from to len : ℕ) → front ≡ take from words → back ≡ drop from words
      → new ≡ mixed how (length (take len back)) (take (length front - to) (drop to front)) (take len back) → to + len ≤ from → from + len ≤ length words
      → (take to front ++ (new ++ drop (length front - to) (drop to front))) ++ back ≡ take to words ++ mixed how len (drop to words) (drop from words)
  meets_before words front back new from to len is_front is_back met behind within =
      let many : length (take len back) ≡ len = length-take-le len back (omega (arith, ap length is_back, length-drop from words)) in
      let low : length front ≡ from = ap length is_front ∙ length-take-le from words (omega arith) in
      let room : len ≤ length (drop to front) = omega (arith, length-drop to front) in
      let parts : drop to front ++ back ≡ drop to words =
      sym (drop-append-le to front back (omega arith)) ∙ ap (drop to) (rw (is_front, is_back) (take-append-drop from words)) in
      let first : take to front ≡ take to words = ap (take to) is_front ∙ take-take to from words (omega arith) in
      let none : drop (length front - to) (drop to front) ≡ [] = drop_all (length front - to) (drop to front) (omega (arith, length-drop to front)) in
      let new_is : new ≡ mixed how len (drop to front) (take len back) =
      met ∙ ap (λ n. mixed how n (take (length front - to) (drop to front)) (take len back)) many ∙ ap (λ r. mixed how len r (take len back)) (take_rest front to) in
      let whole : new ++ drop (length front - to) (drop to front) ≡ mixed how len (drop to front) (take len back) = ap (λ r. new ++ r) none ∙ (append-nil new ∙ new_is) in
      append_assoc (take to front) (new ++ drop (length front - to) (drop to front)) back
      ∙ ap (λ r. r ++ ((new ++ drop (length front - to) (drop to front)) ++ back)) first
      ∙ ap (λ r. take to words ++ (r ++ back)) whole
      ∙ ap (λ r. take to words ++ r) (
      sym (mixed-append how len (drop to front) back (take len back) room)
      ∙ ap (λ r. mixed how len r (take len back)) parts
      ∙ mixed_front how len len (drop to words) back (omega arith)
      ∙ ap (mixed how len (drop to words)) is_back
      )

  -- so the first words of one row meet another row
  pub mixed-cut : (widths words : List ℕ) (from to len : ℕ) → length words ≡ total widths → from < length widths → to < length widths → len ≤ get_or widths from 0 → len ≤ get_or widths to 0
      → cut widths (take (total (take to widths)) words ++ mixed how len (drop (total (take to widths)) words) (drop (total (take from widths)) words))
      ≡ set (cut widths words) to (mixed how len (get_or (cut widths words) to []) (get_or (cut widths words) from []))
  mixed-cut widths words from to len whole from_in to_in from_len to_len =
      let behind : List ℕ = drop (total (take to widths)) words in
      let src : List ℕ = drop (total (take from widths)) words in
      let row : List ℕ = take (get_or widths to 0) behind in
      let new : List ℕ = mixed how len row (take (get_or widths from 0) src) in
      let wide : length row ≡ get_or widths to 0 = length-take-le (get_or widths to 0) behind (omega (arith, whole, total_within widths to to_in, length-drop (total (take to widths)) words)) in
      let same : length new ≡ get_or widths to 0 = length-mixed how len row (take (get_or widths from 0) src) ∙ wide in
      let parts : mixed how len behind src ≡ new ++ drop (length new) behind =
      ap (λ r. mixed how len r src) (sym (take-append-drop (get_or widths to 0) behind))
      ∙ mixed-append how len row (drop (get_or widths to 0) behind) src (omega arith)
      ∙ ap (λ r. r ++ drop (get_or widths to 0) behind) (sym (mixed_front how len (get_or widths from 0) row src from_len))
      ∙ ap (λ n. new ++ drop n behind) (sym same) in
      ap (λ r. cut widths (take (total (take to widths)) words ++ r)) parts
      ∙ cut_written widths words to new whole to_in same
      ∙ ap (λ r. set (cut widths words) to (mixed how len r (take (get_or widths from 0) src))) (sym (row-cut widths words to to_in))
      ∙ ap (λ r. set (cut widths words) to (mixed how len (get_or (cut widths words) to []) r)) (sym (row-cut widths words from from_in))
