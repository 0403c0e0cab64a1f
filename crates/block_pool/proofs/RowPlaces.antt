-- Where a row stands, and what becomes of the rows where words are written.
use Rattle.std.proofs.Common.{◌≡◌, ◌≢◌, ℕ, ◌+◌, ◌-◌, ◌<◌, ◌≤◌, inl, inr, List, [], ◌++◌, length, get_or, set, take, drop, slice_range, refl, ap, sym, ◌∙◌, arith, length-append, length-drop}
use Rattle.std.proofs.lemmas.Bool.{cases_lt}
use Rattle.std.proofs.lemmas.List.{length-take-le, with_items_is}
use Rattle.std.specs.List.{refill}
use Rattle.std.specs.Global.{Vec}
use Rattle.std.specs.Vec.{with_items, with_items_from}
use Rattle.block_pool.specs.declared.how.How.{How}
use Rattle.block_pool.specs.Mixed.{mixed}
use Rattle.block_pool.specs.Cut.{total, cut, overlaid, written_back}
use Rattle.block_pool.proofs.CutLemmas.{length-cut, row-cut, width-cut, total_apart, total_within, cut-overlaid}
use Rattle.block_pool.proofs.MixedLemmas.{length-mixed}
use Rattle.block_pool.proofs.MixedRows.{mixed-cut}

-- a row stands in the list from here to there
pub record RowAt (widths words : List ℕ) (now : List (List ℕ)) (slot start end : ℕ) : Type 0 where
  pub known : slot < length widths
  pub begins : start ≡ total (take slot widths)
  pub first : start ≤ end
  pub within : end ≤ length words
  pub wide : length (get_or now slot []) ≡ get_or widths slot 0
  pub width : length (get_or now slot []) ≡ end - start
  pub row : slice_range words start end ≡ get_or now slot []

-- each row does
pub row_at : (widths words : List ℕ) (now : List (List ℕ)) (slot start end : ℕ) → cut widths words ≡ now → length words ≡ total widths → slot < length now
    → start ≡ total (take slot widths) → end ≡ total (take slot widths) + get_or widths slot 0 → RowAt widths words now slot start end
row_at widths words now slot start end view whole within from to =
    let known : slot < length widths = omega (arith, ap length view, length-cut widths words) in
    let wide : end - start ≡ get_or widths slot 0 = omega arith in
    let many : length (get_or now slot []) ≡ get_or widths slot 0 = ap (λ rows. length (get_or rows slot [])) (sym view) ∙ width-cut widths words slot whole known in
    record {
      known = known;
      begins = from;
      first = omega arith;
      within = omega (arith, total_within widths slot known);
      wide = many;
      width = many ∙ sym wide;
      row = ap (λ n. take n (drop start words)) wide ∙ ap (λ n. take (get_or widths slot 0) (drop n words)) from ∙ sym (row-cut widths words slot known) ∙ ap (λ rows. get_or rows slot []) view;
    }

-- the words of a row were lent
pub row_lent : (widths : List ℕ) (words : Vec ℕ) (now : List (List ℕ)) (slot start : ℕ) (ws : List ℕ) → cut widths words.items ≡ now → length words.items ≡ total widths
    → start ≡ total (take slot widths) → cut widths (with_items_from words start ws).items ≡ written_back now slot ws
row_lent widths words now slot start ws view whole from =
    ap (λ n. cut widths (refill n words.items (take start words.items ++ (ws ++ drop (length ws) (drop start words.items))))) words.ok.0
    ∙ ap (λ n. cut widths (overlaid words.items n ws)) from
    ∙ cut-overlaid widths words.items slot ws whole
    ∙ ap (λ rows. written_back rows slot ws) view

-- so many words from one place on don't meet those from another
pub record AreApart (from to len : ℕ) : Type 0 where
  pub before : from < to → from + len ≤ to
  pub behind : to ≤ from → to + len ≤ from

-- the places of two rows, by the widths
places_apart : (widths : List ℕ) (i j len : ℕ) → i ≢ j → i < length widths → j < length widths → len ≤ get_or widths i 0 → len ≤ get_or widths j 0 → AreApart (total (take i widths)) (total (take j widths)) len
places_apart widths i j len apart i_in j_in i_len j_len = elim (cases_lt i j) as (λ _. AreApart (total (take i widths)) (total (take j widths)) len) [
  | inl low ↦ (let between = total_apart widths i j low j_in in record { before = λ h. omega arith; behind = λ h. omega arith })
  | inr high ↦ (
      let low : j < i = omega (arith, apart) in
      let between = total_apart widths j i low i_in in
      record { before = λ h. omega arith; behind = λ h. omega arith }
      )
]

-- by where they stand
pub rows_apart : (widths words : List ℕ) (now : List (List ℕ)) (i j len i_start i_end j_start j_end : ℕ) → RowAt widths words now i i_start i_end → RowAt widths words now j j_start j_end → i ≢ j
    → len ≤ length (get_or now i []) → len ≤ length (get_or now j []) → AreApart i_start j_start len
rows_apart widths words now i j len i_start i_end j_start j_end a b apart i_len j_len =
    rw (a.begins, b.begins) (places_apart widths i j len apart a.known b.known (rw a.wide at i_len) (rw b.wide at j_len))

-- the first words of one row met another row
pub row_mixed : (how : How) (widths : List ℕ) (words : Vec ℕ) (held new : List ℕ) (now : List (List ℕ)) (from to len start end : ℕ) → cut widths words.items ≡ now → length words.items ≡ total widths
    → from < length widths → to < length widths → len ≤ length (get_or now from []) → len ≤ length (get_or now to []) → start ≡ total (take from widths) → end ≡ total (take to widths) → held ≡ words.items
    → new ≡ take end held ++ mixed how len (drop end held) (drop start held) → cut widths (with_items words new).items ≡ set now to (mixed how len (get_or now to []) (get_or now from []))
row_mixed how widths words held new now from to len start end view whole from_in to_in from_len to_len starts ends is mixes =
    let items : List ℕ = words.items in
    let all : List ℕ = take (total (take to widths)) items ++ mixed how len (drop (total (take to widths)) items) (drop (total (take from widths)) items) in
    let now_all : new ≡ all = rw (mixes, is, starts, ends) refl in
    let low : total (take to widths) ≤ length items = omega (arith, total_within widths to to_in) in
    let many : length all ≡ words.len =
    length-append (take (total (take to widths)) items) (mixed how len (drop (total (take to widths)) items) (drop (total (take from widths)) items))
    ∙ omega (arith, length-take-le (total (take to widths)) items low, length-mixed how len (drop (total (take to widths)) items) (drop (total (take from widths)) items), length-drop (total (take to widths)) items, words.ok.0) in
    let from_wide : len ≤ get_or widths from 0 = rw (← width-cut widths items from whole from_in, view) from_len in
    let to_wide : len ≤ get_or widths to 0 = rw (← width-cut widths items to whole to_in, view) to_len in
    ap (λ r. cut widths (with_items words r).items) now_all
    ∙ ap (cut widths) (with_items_is words all many)
    ∙ mixed-cut how widths items from to len whole from_in to_in from_wide to_wide
    ∙ ap (λ rows. set rows to (mixed how len (get_or rows to []) (get_or rows from []))) view
