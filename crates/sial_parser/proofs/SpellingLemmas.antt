-- A table of spellings, looked up from some entry on.
use Rattle.std.proofs.Common.{◌≡◌, ℕ, ◌+◌, ◌<◌, List, ◌∷◌, cond, map, length, drop, slice_index_or, Some, ap, sym, ◌∙◌}
use Rattle.std.specs.Str.{bytes_eq}
use Rattle.std.proofs.lemmas.List.{drop_more}
use Rattle.sial_parser.specs.Words.{entry_of}

-- the entry at hand, or what the others say
pub entry_turn : {X Y : Type 0} (f : Y → List ℕ × X) (bytes : List ℕ) (table : List Y) (i : ℕ) (item : Y) → i < length table → item ≡ slice_index_or table i item
    → entry_of (map f (drop i table)) bytes ≡ cond (bytes_eq bytes (f item).0) (Some (f item).1) (entry_of (map f (drop (i + 1) table)) bytes)
entry_turn f bytes table i item within is = ap (λ t. entry_of (map f t) bytes) (drop_more table i item within ∙ ap (λ y. y ∷ drop (i + 1) table) (sym is))
