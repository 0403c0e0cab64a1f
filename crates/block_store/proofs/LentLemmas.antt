-- The words of one block that were lent.
use Rattle.std.proofs.Common.{◌≡◌, ℕ, ◌+◌, ◌-◌, ◌<◌, ◌≤◌, List, [], ◌∷◌, ◌++◌, length, get_or, set, take, drop, slice_range, refl, ap, sym, ◌∙◌, arith}
use Rattle.std.proofs.lemmas.List.{drop-drop, drop_all, length-map, take_at, take-append-drop}
use Rattle.std.proofs.lemmas.List.Edits.{length-between}
use Rattle.std.specs.List.{concat, refill}
use Rattle.std.specs.declared.alloc.Global.{Global}
use Rattle.std.specs.Vec.{with_items_from}
use Rattle.std.proofs.Common.{Vec}
use borrow.Rule.Slice.PartMut.{put_mid}
use Rattle.block_store.specs.Lent.{overlaid, overwritten, written_back}
use Rattle.block_store.specs.Memory.{blocks_from, InOrder, begin_of, ends_from, sizes_of}
use Rattle.block_store.proofs.LaidLemmas.{InPlace, block_written, in_place, length_written, start_within}

-- blocks end as their sizes say
ends_again : (start : ℕ) (ends words : List ℕ) → InOrder start ends (length words) → ends_from start (sizes_of (blocks_from start ends words)) ≡ ends
ends_again start [] words order = refl
ends_again start (end ∷ ends) words order =
    let last : end ≤ length words = start_within end ends (length words) order.1 in
    let there : start + length (slice_range words start end) ≡ end = omega (arith, order.0, length-between words start end last) in
    ap (λ n. n ∷ ends_from n (sizes_of (blocks_from end ends words))) there ∙ ap (λ r. end ∷ r) (ends_again end ends words order.1)

-- all blocks together are all words from where the first begins
all_words : (start : ℕ) (ends words : List ℕ) → InOrder start ends (length words) → concat (blocks_from start ends words) ≡ drop start words
all_words start [] words order = sym (drop_all start words (omega (arith, order)))
all_words start (end ∷ ends) words order =
    let there : start + (end - start) ≡ end = omega (arith, order.0) in
    let behind : drop (end - start) (drop start words) ≡ drop end words = drop-drop (end - start) start words ∙ ap (λ n. drop n words) there in
    ap (λ r. slice_range words start end ++ r) (all_words end ends words order.1 ∙ sym behind) ∙ take-append-drop (end - start) (drop start words)

-- words that were lent are written over all words
lent_over : (ends words : List ℕ) (now : List (List ℕ)) (block : ℕ) (ws : List ℕ) → blocks_from 0 ends words ≡ now → InOrder 0 ends (length words)
    → blocks_from 0 ends (overlaid words (begin_of ends block) ws) ≡ written_back now block ws
lent_over ends words now block ws view order =
    ap (λ r. blocks_from 0 ends (overlaid r (begin_of ends block) ws)) (sym (all_words 0 ends words order))
    ∙ ap (λ es. overwritten es (blocks_from 0 ends words) block ws) (sym (ends_again 0 ends words order))
    ∙ ap (λ rows. written_back rows block ws) view

-- so they are where the list that has them was lent
pub lent : (ends : List ℕ) (words : Vec ℕ Global) (now : List (List ℕ)) (block start : ℕ) (ws : List ℕ) → blocks_from 0 ends words.items ≡ now → InOrder 0 ends (length words.items) → start ≡ begin_of ends block
    → blocks_from 0 ends (with_items_from words start ws).items ≡ written_back now block ws
lent ends words now block start ws view order from =
    ap (λ n. blocks_from 0 ends (refill n words.items (take start words.items ++ (ws ++ drop (length ws) (drop start words.items))))) words.ok.0
    ∙ ap (λ n. blocks_from 0 ends (overlaid words.items n ws)) from
    ∙ lent_over ends words.items now block ws view order

-- there are as many sizes as blocks
pub size_for_each : (now : List (List ℕ)) (block : ℕ) → block < length now → block < length (sizes_of now)
size_for_each now block within = omega (arith, length-map now length)

-- as many words as the block has are its new ones
pub lent_same : (ends words : List ℕ) (now : List (List ℕ)) (block : ℕ) (held ws : List ℕ) → blocks_from 0 ends words ≡ now → InOrder 0 ends (length words) → block < length now → held ≡ get_or now block []
    → length ws ≡ length held → written_back now block ws ≡ set now block ws
lent_same ends words now block held ws view order within is same =
    let at : InPlace ends words now block (begin_of ends block) (get_or ends block 0) = in_place ends words now block (begin_of ends block) (get_or ends block 0) view order (size_for_each now block within) refl refl in
    let size : length (get_or now block []) ≡ get_or ends block 0 - begin_of ends block = ap length at.row ∙ length-between words (begin_of ends block) (get_or ends block 0) at.within in
    let many : length ws ≡ get_or ends block 0 - begin_of ends block = same ∙ ap length is ∙ size in
    let put : List ℕ = put_mid (begin_of ends block) (length ws) words ws in
    let long : length put ≡ length words = length_written (begin_of ends block) (length ws) words ws (omega (arith, many, at.first, at.within)) refl in
    let over : overlaid words (begin_of ends block) ws ≡ put = take_at put (drop (length put) words) (length words) long in
    sym (lent_over ends words now block ws view order)
    ∙ ap (blocks_from 0 ends) over
    ∙ block_written 0 ends words ws block order at.known many
    ∙ ap (λ rows. set rows block ws) view
