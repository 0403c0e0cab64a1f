-- The entries of what a program declares. Where an entry names a text, it has the number of the first text that isn't used before it.
use Rattle.std.specs.Prelude.{ℕ, ◌+◌, List, [], ◌∷◌, map, length}
use Rattle.std.specs.List.{enumerate_from}
use Rattle.sial_syntax.specs.declared.array.ArrayDecl.{ArrayDecl}
use Rattle.sial_syntax.specs.declared.index.Bound.{Bound}
use Rattle.sial_syntax.specs.declared.index.Bound.TheVariants as bound
use Rattle.sial_syntax.specs.declared.index.IndexDecl.{IndexDecl}
use Rattle.sial_syntax.specs.declared.index.Range.{Range}
use Rattle.sial_syntax.specs.declared.index.Range.TheVariants as range
use Rattle.sip_tables.specs.declared.array.ArrayEntry.{ArrayEntry}
use Rattle.sip_tables.specs.declared.index.BoundEntry.{BoundEntry}
use Rattle.sip_tables.specs.declared.index.BoundEntry.TheVariants.{Number, Named}
use Rattle.sip_tables.specs.declared.index.IndexEntry.{IndexEntry}
use Rattle.sip_tables.specs.declared.index.RangeEntry.{RangeEntry}
use Rattle.sip_tables.specs.declared.index.RangeEntry.TheVariants.{Segments, Sub}
use Rattle.sip_tables.specs.declared.procedure.ProcedureEntry.{ProcedureEntry}
use Rattle.sip_tables.specs.Texts.{bound_texts, index_texts}

-- a bound; a constant's name is this text
abbrev pub bound_entry : (text : ℕ) → Bound → BoundEntry
bound_entry text (bound.Number n) = Number n
bound_entry text (bound.Named name) = Named text

-- a range; its constants' names are the texts from this one on
abbrev pub range_entry : (text : ℕ) → Range → RangeEntry
range_entry text (range.Segments kind lo hi) = Segments kind (bound_entry text lo) (bound_entry (text + length (bound_texts lo)) hi)
range_entry text (range.Sub super) = Sub super

-- an index; its texts are those from this one on
abbrev pub index_entry : (text : ℕ) → IndexDecl → IndexEntry
index_entry text index = record { text = text; line = index.line; range = range_entry (text + 1) index.range }

-- indices in order; their texts are those from this one on
abbrev pub index_entries : (text : ℕ) → List IndexDecl → List IndexEntry
index_entries text [] = []
index_entries text (index ∷ rest) = index_entry text index ∷ index_entries (text + length (index_texts index)) rest

-- an array with the number of its name
abbrev pub array_entry : ℕ × ArrayDecl → ArrayEntry
array_entry x = record { text = x.0; line = x.1.line; kind = x.1.kind; dims = x.1.dims }

-- arrays in order; their names are the texts from this one on
abbrev pub array_entries : (text : ℕ) → List ArrayDecl → List ArrayEntry
array_entries text arrays = map array_entry (enumerate_from text arrays)

-- scalars in order; their names are the texts from this one on
abbrev pub scalar_entries : (text : ℕ) → List (List ℕ) → List ℕ
scalar_entries text scalars = map (λ (x : ℕ × List ℕ). x.0) (enumerate_from text scalars)

-- procedures in order, by their first instructions; their names are the texts from this one on
abbrev pub procedure_entries : (text : ℕ) → (entries : List ℕ) → List ProcedureEntry
procedure_entries text entries = map (λ (x : ℕ × ℕ). record { text = x.0; entry = x.1 }) (enumerate_from text entries)
