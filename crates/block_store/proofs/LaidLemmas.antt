-- Blocks that stand one after another in one list of numbers.
use Rattle.std.proofs.Common.{◌≡◌, ℕ, zero, suc, ◌+◌, ◌-◌, ◌<◌, ◌≤◌, List, [], ◌∷◌, ◌++◌, length, get_or, set, take, drop, replicate, slice_range, Vec, refl, ap, sym, ◌∙◌, arith, append-nil, length-append, length-drop}
use Rattle.std.proofs.lemmas.List.{get_or-map, length-map, drop-drop, drop_all, take-replicate, drop-replicate, length-take-le, with_items_is}
use Rattle.std.specs.declared.alloc.Global.{Global}
use Rattle.std.specs.Vec.{with_items}
use Rattle.std.proofs.lemmas.List.Edits.{length-between}
use Rattle.std.proofs.lemmas.Slice.{between_is, between-put_mid, take-put_mid_below, drop-put_mid}
use borrow.Rule.Slice.PartMut.{put_mid}
use Rattle.block_store.specs.Memory.{blocks_from, InOrder, begin_of, ends_from, end_from, sizes_of, zeros}

-- as many blocks as ends
pub length-blocks_from : (start : ℕ) (ends words : List ℕ) → length (blocks_from start ends words) ≡ length ends
length-blocks_from start [] words = refl
length-blocks_from start (end ∷ ends) words = ap suc (length-blocks_from end ends words)

-- a block is what stands from where it begins to where it ends
pub block_at : (start : ℕ) (ends words : List ℕ) (k : ℕ) → k < length ends → get_or (blocks_from start ends words) k [] ≡ slice_range words (get_or (start ∷ ends) k 0) (get_or ends k 0)
block_at start [] words k within = absurd (omega arith)
block_at start (end ∷ ends) words zero within = refl
block_at start (end ∷ ends) words (suc k) within = block_at end ends words k (omega arith)

-- the first block begins within the list
pub start_within : (start : ℕ) (ends : List ℕ) (count : ℕ) → InOrder start ends count → start ≤ count
start_within start [] count order = omega (arith, order)
start_within start (end ∷ ends) count order = omega (arith, order.0, start_within end ends count order.1)

-- no block begins before the first
start_first : (start : ℕ) (ends : List ℕ) (count k : ℕ) → InOrder start ends count → k < length ends → start ≤ get_or (start ∷ ends) k 0
start_first start [] count k order within = absurd (omega arith)
start_first start (end ∷ ends) count zero order within = omega arith
start_first start (end ∷ ends) count (suc k) order within = omega (arith, order.0, start_first end ends count k order.1 (omega arith))

-- a block ends where it begins or later
pub begins_first : (start : ℕ) (ends : List ℕ) (count k : ℕ) → InOrder start ends count → k < length ends → get_or (start ∷ ends) k 0 ≤ get_or ends k 0
begins_first start [] count k order within = absurd (omega arith)
begins_first start (end ∷ ends) count zero order within = order.0
begins_first start (end ∷ ends) count (suc k) order within = begins_first end ends count k order.1 (omega arith)

-- and within the list
pub ends_within : (start : ℕ) (ends : List ℕ) (count k : ℕ) → InOrder start ends count → k < length ends → get_or ends k 0 ≤ count
ends_within start [] count k order within = absurd (omega arith)
ends_within start (end ∷ ends) count zero order within = start_within end ends count order.1
ends_within start (end ∷ ends) count (suc k) order within = ends_within end ends count k order.1 (omega arith)

-- how many numbers a block has
pub size_at : (start : ℕ) (ends words : List ℕ) (k : ℕ) → InOrder start ends (length words) → k < length ends
    → get_or (sizes_of (blocks_from start ends words)) k 0 ≡ get_or ends k 0 - get_or (start ∷ ends) k 0
size_at start ends words k order within =
    get_or-map length (blocks_from start ends words) k [] 0 (omega (arith, length-blocks_from start ends words))
    ∙ ap length (block_at start ends words k within)
    ∙ length-between words (get_or (start ∷ ends) k 0) (get_or ends k 0) (ends_within start ends (length words) k order within)

-- where a block of a store stands
pub record InPlace (ends words : List ℕ) (now : List (List ℕ)) (block start end : ℕ) : Type 0 where
  pub known : block < length ends
  pub begins : start ≡ begin_of ends block
  pub ends_at : end ≡ get_or ends block 0
  pub first : start ≤ end
  pub within : end ≤ length words
  pub size : get_or (sizes_of now) block 0 ≡ end - start
  pub row : get_or now block [] ≡ slice_range words start end

-- there is each block
pub in_place : (ends words : List ℕ) (now : List (List ℕ)) (block start end : ℕ) → blocks_from 0 ends words ≡ now → InOrder 0 ends (length words) → block < length (sizes_of now)
    → start ≡ begin_of ends block → end ≡ get_or ends block 0 → InPlace ends words now block start end
in_place ends words now block start end view order within from to =
    let many : length (sizes_of now) ≡ length ends = length-map now length ∙ (ap length (sym view) ∙ length-blocks_from 0 ends words) in
    let low : block < length ends = omega arith in
    rw (from, to) (record {
      known = low;
      begins = refl;
      ends_at = refl;
      first = begins_first 0 ends (length words) block order low;
      within = ends_within 0 ends (length words) block order low;
      size = ap (λ blocks. get_or (sizes_of blocks) block 0) (sym view) ∙ size_at 0 ends words block order low;
      row = ap (λ blocks. get_or blocks block []) (sym view) ∙ block_at 0 ends words block low;
    })

-- blocks are told by the numbers from where the first begins
same_behind : (start : ℕ) (ends : List ℕ) (count : ℕ) (xs ys : List ℕ) → InOrder start ends count → drop start xs ≡ drop start ys → blocks_from start ends xs ≡ blocks_from start ends ys
same_behind start [] count xs ys order same = refl
same_behind start (end ∷ ends) count xs ys order same =
    let there : start + (end - start) ≡ end = omega (arith, order.0) in
    let behind : drop end xs ≡ drop end ys = ap (λ n. drop n xs) (sym there) ∙ sym (drop-drop (end - start) start xs) ∙ ap (drop (end - start)) same
    ∙ drop-drop (end - start) start ys ∙ ap (λ n. drop n ys) there in
    ap (λ r. take (end - start) r ∷ blocks_from end ends xs) same ∙ ap (λ r. slice_range ys start end ∷ r) (same_behind end ends count xs ys order.1 behind)

-- other numbers at the place of one block
pub block_written : (start : ℕ) (ends words new : List ℕ) (k : ℕ) → InOrder start ends (length words) → k < length ends → length new ≡ get_or ends k 0 - get_or (start ∷ ends) k 0
    → blocks_from start ends (put_mid (get_or (start ∷ ends) k 0) (length new) words new) ≡ set (blocks_from start ends words) k new
block_written start [] words new k order within len = absurd (omega arith)
block_written start (end ∷ ends) words new zero order within len =
    let low : start ≤ length words = start_within start (end ∷ ends) (length words) order in
    let behind : drop end (put_mid start (length new) words new) ≡ drop end words = drop-put_mid start (length new) words new end (omega (arith, order.0)) low refl in
    ap (λ r. r ∷ blocks_from end ends (put_mid start (length new) words new)) (between-put_mid start (length new) words new end low len)
    ∙ ap (λ r. new ∷ r) (same_behind end ends (length words) (put_mid start (length new) words new) words order.1 behind)
block_written start (end ∷ ends) words new (suc k) order within len =
    let few : k < length ends = omega arith in
    let begin : ℕ = get_or (end ∷ ends) k 0 in
    let after : end ≤ begin = start_first end ends (length words) k order.1 few in
    let low : begin ≤ length words = omega (arith, begins_first end ends (length words) k order.1 few, ends_within end ends (length words) k order.1 few) in
    let front : slice_range (put_mid begin (length new) words new) start end ≡ slice_range words start end =
    between_is (put_mid begin (length new) words new) start end ∙ ap (drop start) (take-put_mid_below begin (length new) words new end after low) ∙ sym (between_is words start end) in
    ap (λ r. r ∷ blocks_from end ends (put_mid begin (length new) words new)) front
    ∙ ap (λ r. slice_range words start end ∷ r) (block_written end ends words new k order.1 few len)

-- as many numbers as before
pub length_written : (a k : ℕ) (xs ys : List ℕ) → a + k ≤ length xs → length ys ≡ k → length (put_mid a k xs ys) ≡ length xs
length_written a k xs ys fits same =
    length-append (take a xs) (ys ++ drop k (drop a xs))
    ∙ omega (arith, length-append ys (drop k (drop a xs)), length-take-le a xs (omega arith), length-drop k (drop a xs), length-drop a xs)

-- a store after a block was written
pub stored : (ends : List ℕ) (words : Vec ℕ Global) (held : List ℕ) (now : List (List ℕ)) (new from : List ℕ) (block start end : ℕ) → blocks_from 0 ends words.items ≡ now
    → InOrder 0 ends (length words.items) → InPlace ends words.items now block start end → held ≡ words.items → new ≡ from → length from ≡ get_or (sizes_of now) block 0
    → blocks_from 0 ends (with_items words (put_mid start (end - start) held new)).items ≡ set now block from
stored ends words held now new from block start end view order at is written same =
    let many : length from ≡ end - start = same ∙ at.size in
    let wide : length (put_mid start (end - start) words.items from) ≡ words.len =
    length_written start (end - start) words.items from (omega (arith, at.first, at.within)) many ∙ sym words.ok.0 in
    let fits : length from ≡ get_or ends block 0 - get_or (0 ∷ ends) block 0 = rw (← at.begins, ← at.ends_at) many in
    let items : (with_items words (put_mid start (end - start) held new)).items ≡ put_mid (begin_of ends block) (length from) words.items from =
    rw (is, written) (with_items_is words (put_mid start (end - start) words.items from) wide)
    ∙ ap (λ n. put_mid start n words.items from) (sym many) ∙ ap (λ n. put_mid n (length from) words.items from) at.begins in
    ap (blocks_from 0 ends) items ∙ block_written 0 ends words.items from block order at.known fits ∙ ap (λ rows. set rows block from) view

-- no block ends before the first begins
end_last : (start : ℕ) (sizes : List ℕ) → start ≤ end_from start sizes
end_last start [] = omega arith
end_last start (size ∷ sizes) = omega (arith, end_last (start + size) sizes)

-- each block ends as the sizes say
pub record Ended (sizes known : List ℕ) (end : ℕ) : Type 0 where
  pub ends : known ≡ ends_from 0 sizes
  pub last : end ≡ end_from 0 sizes

-- they end as their sizes say
pub all_ended : (sizes ends : List ℕ) (end met : ℕ) → ends ++ ends_from end (drop met sizes) ≡ ends_from 0 sizes → end_from end (drop met sizes) ≡ end_from 0 sizes → length sizes ≤ met → Ended sizes ends end
all_ended sizes ends end met ended last all =
    let none : drop met sizes ≡ [] = drop_all met sizes all in
    record {
      ends = sym (append-nil ends) ∙ (ap (λ r. ends ++ ends_from end r) (sym none) ∙ ended);
      last = ap (end_from end) (sym none) ∙ last;
    }

-- blocks of these sizes are in order
pub in_order : (start : ℕ) (sizes : List ℕ) (count : ℕ) → end_from start sizes ≡ count → InOrder start (ends_from start sizes) count
in_order start [] count fits = fits
in_order start (size ∷ sizes) count fits = (omega arith, in_order (start + size) sizes count fits)

-- and zeros at first
pub zeros_at_first : (start : ℕ) (sizes : List ℕ) (count : ℕ) → end_from start sizes ≤ count → blocks_from start (ends_from start sizes) (replicate count 0) ≡ zeros sizes
zeros_at_first start [] count fits = refl
zeros_at_first start (size ∷ sizes) count fits =
    let last : start + size ≤ count = omega (arith, fits, end_last (start + size) sizes) in
    let many : start + size - start ≡ size = omega arith in
    let first : slice_range (replicate count 0) start (start + size) ≡ replicate size 0 =
    ap (take (start + size - start)) (drop-replicate start count 0) ∙ ap (λ n. take n (replicate (count - start) 0)) many ∙ take-replicate size (count - start) 0 (omega (arith, last)) in
    ap (λ r. r ∷ blocks_from (start + size) (ends_from (start + size) sizes) (replicate count 0)) first
    ∙ ap (λ r. replicate size 0 ∷ r) (zeros_at_first (start + size) sizes count fits)
