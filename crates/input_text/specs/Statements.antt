-- What the lines of an input may say, and with which words.
use Rattle.std.specs.Prelude.{ℕ, ◌-◌, ◌^◌, List, [], ◌∷◌, ◌++◌, Bool, true, false, ◌&&◌, nat_le, map, if◌then◌else◌, Some, codes, IsTrue}
use Rattle.std.specs.List.{list_all}
use Rattle.sial_syntax.specs.declared.index.Kind.{Kind}
use Rattle.sial_syntax.specs.declared.index.Kind.TheVariants as kind
use Rattle.sip_input.specs.Given.{is_length}
use Rattle.input_text.specs.declared.said.Said.{Said}
use Rattle.input_text.specs.declared.said.Said.TheVariants.{Nothing, Constant, Segments, Subsegment, Scalar, Block}
use Rattle.input_text.specs.declared.values.Value.{Value}
use Rattle.input_text.specs.declared.word.Word.{Word}
use Rattle.input_text.specs.declared.word.Word.TheVariants.{Name, Number, Equals, Minus}
use Rattle.input_text.specs.Words.{HasWords}

-- how the kinds of indices are spelled
abbrev pub kind_name : Kind → List ℕ
kind_name kind.Ao = codes "ao"
kind_name kind.Mo = codes "mo"
kind_name kind.Moa = codes "moa"
kind_name kind.Mob = codes "mob"
kind_name kind.Index = codes "index"

-- a number as a word
abbrev pub number : ℕ → Word
number n = Number (Some n)

-- the words of a start value
abbrev pub value_words : Value → List Word
value_words v = if v.negative then Minus ∷ Number v.number ∷ [] else Number v.number ∷ []

-- the words of start values, one behind the other
abbrev pub values_words : List Value → List Word
values_words [] = []
values_words (v ∷ vs) = value_words v ++ values_words vs

-- the words with which a line says something
abbrev pub words_of : Said → List Word
words_of Nothing = []
words_of (Constant name value) = Name (codes "const") ∷ Name name ∷ Equals ∷ Number value ∷ []
words_of (Segments kind lengths) = Name (codes "segments") ∷ Name (kind_name kind) ∷ map number lengths
words_of (Subsegment kind size) = Name (codes "subsegment") ∷ Name (kind_name kind) ∷ number size ∷ []
words_of (Scalar name value) = Name (codes "scalar") ∷ Name name ∷ Equals ∷ value_words value
words_of (Block name segments elements) = Name (codes "block") ∷ Name name ∷ (map number segments ++ Equals ∷ values_words elements)

-- whether an input says how the indices of a kind are cut: not of `index`, whose segments are fixed
abbrev pub is_cut_by_inputs : Kind → Bool
is_cut_by_inputs kind.Ao = true
is_cut_by_inputs kind.Mo = true
is_cut_by_inputs kind.Moa = true
is_cut_by_inputs kind.Mob = true
is_cut_by_inputs kind.Index = false

-- whether a number may be that of a segment
abbrev pub is_segment_number : ℕ → Bool
is_segment_number n = nat_le n (2 ^ 32 - 1)

-- whether a list has an entry
abbrev pub has_some : {A : Type 0} → List A → Bool
has_some [] = false
has_some (x ∷ xs) = true

-- whether lengths and segment numbers are within their ranges, and there are some
abbrev pub is_in_order : Said → Bool
is_in_order Nothing = true
is_in_order (Constant name value) = true
is_in_order (Segments kind lengths) = is_cut_by_inputs kind && (has_some lengths && list_all is_length lengths)
is_in_order (Subsegment kind size) = is_cut_by_inputs kind && is_length size
is_in_order (Scalar name value) = true
is_in_order (Block name segments elements) = has_some segments && (has_some elements && list_all is_segment_number segments)

-- a line says something: its words are those of it, and it is in order
pub record Says (line : List ℕ) (said : Said) : Type 0 where
  pub words : HasWords line (words_of said)
  pub in_order : IsTrue (is_in_order said)
