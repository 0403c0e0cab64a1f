-- Blocks within lists of blocks, seen as plain lists.
use Rattle.std.proofs.Common.{◌≡◌, ℕ, ◌<◌, List, [], map, length, slice_set, slice_index_or, ap, ◌∙◌, sym}
use Rattle.std.proofs.lemmas.List.{map-set, get_or-map}

-- a block replaced in one of several lists, and then all seen, is the seen block replaced in what was seen
pub nested_set : {A B C : Type 0} (items : A → List B) (view : B → C) (outer : List A) (i j : ℕ) (old new : A) (block : B) → i < length outer → old ≡ slice_index_or outer i old → items new ≡ slice_set (items old) j block → map (λ a. map view (items a)) (slice_set outer i new) ≡ slice_set (map (λ a. map view (items a)) outer) i (slice_set (slice_index_or (map (λ a. map view (items a)) outer) i []) j (view block))
nested_set items view outer i j old new block within is changed =
    map-set (λ a. map view (items a)) outer i new
    ∙ ap
    (λ seen. slice_set (map (λ a. map view (items a)) outer) i seen)
    (ap (map view) changed
    ∙ (map-set view (items old) j block
    ∙ ap (λ seen. slice_set seen j (view block)) (ap (λ a. map view (items a)) is ∙ sym (get_or-map (λ a. map view (items a)) outer i old [] within))))
