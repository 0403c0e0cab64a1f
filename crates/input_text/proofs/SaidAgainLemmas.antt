-- What words say is read.
use Rattle.std.proofs.Common.{◌≡◌, ℕ, ◌-◌, ◌^◌, List, [], ◌∷◌, ◌++◌, Bool, true, false, nat_le, map, take, drop, length, Option, Some, refl, ap, ◌∙◌, arith}
use Rattle.std.specs.List.{list_all, prefix_len}
use Rattle.std.specs.Option.{option_and_then}
use Rattle.std.proofs.lemmas.Bool.{le-leb}
use Rattle.std.proofs.Math.Seq.{take-append_seam, drop-append_seam}
use Rattle.sial_syntax.specs.declared.index.Kind.{Kind}
use Rattle.sip_input.specs.Given.{is_length}
use Rattle.input_text.specs.Reading.{is_number, number_in, numbers_from, values_from, behind_equals, some_words, constant_in, segments_in, subsegment_in, scalar_in, filled, block_in, said_in}
use Rattle.input_text.specs.Statements.{kind_name, number, value_words, values_words, words_of, is_cut_by_inputs, is_segment_number, is_in_order}
use Rattle.input_text.specs.declared.said.Said.{Said}
use Rattle.input_text.specs.declared.said.Said.TheVariants as said
use Rattle.input_text.specs.declared.values.Value.{Value}
use Rattle.input_text.specs.declared.word.Word.{Word}
use Rattle.input_text.specs.declared.word.Word.TheVariants.{Name, Number, Equals}
use Rattle.input_text.proofs.KeyLemmas.{kind_again, both, and_true}
use Rattle.input_text.proofs.AmountLemmas.{is_within, one_again, numbers_again, values_again, value_again}
use Rattle.input_text.proofs.SaidLemmas.{filled_by}

-- numbers of segments
range_in : (ns : List ℕ) → list_all is_segment_number ns ≡ true → list_all (is_within 0 (2 ^ 32 - 1)) ns ≡ true
range_in [] h = refl
range_in (n ∷ ns) h =
    let parts = both (is_segment_number n) (list_all is_segment_number ns) h in
    and_true (is_within 0 (2 ^ 32 - 1) n) (list_all (is_within 0 (2 ^ 32 - 1)) ns) (and_true (nat_le 0 n) (nat_le n (2 ^ 32 - 1)) (le-leb 0 n (omega arith)) parts.0) (range_in ns parts.1)

constant_again : (name : List ℕ) (value : Option ℕ) → constant_in (Name name ∷ Equals ∷ Number value ∷ []) ≡ Some (said.Constant name value)
unfolding constant_in
constant_again name value = refl

segments_again : (k : Kind) (lengths : List ℕ) → is_in_order (said.Segments k lengths) ≡ true → segments_in (Name (kind_name k) ∷ map number lengths) ≡ Some (said.Segments k lengths)
unfolding segments_in
segments_again k [] h = absurd (cc (both (is_cut_by_inputs k) false h).1)
segments_again k (n ∷ ns) h =
    let parts = both (is_cut_by_inputs k) (list_all is_length (n ∷ ns)) h in
    ap (option_and_then (λ kind. option_and_then (λ lengths. Some (said.Segments kind lengths)) (numbers_from 1 1024 [] (map number (n ∷ ns))))) (kind_again k parts.0)
    ∙ ap (option_and_then (λ lengths. Some (said.Segments k lengths))) (numbers_again 1 1024 [] (n ∷ ns) parts.1)

subsegment_again : (k : Kind) (size : ℕ) → is_in_order (said.Subsegment k size) ≡ true → subsegment_in (Name (kind_name k) ∷ number size ∷ []) ≡ Some (said.Subsegment k size)
unfolding subsegment_in
subsegment_again k size h =
    let parts = both (is_cut_by_inputs k) (is_length size) h in
    ap (option_and_then (λ kind. option_and_then (λ size. Some (said.Subsegment kind size)) (number_in 1 1024 (number size)))) (kind_again k parts.0)
    ∙ ap (option_and_then (λ size. Some (said.Subsegment k size))) (one_again 1 1024 size parts.1)

scalar_again : (name : List ℕ) (v : Value) → scalar_in (Name name ∷ Equals ∷ value_words v) ≡ Some (said.Scalar name v)
unfolding scalar_in
scalar_again name v = ap (option_and_then (λ value. Some (said.Scalar name value))) (value_again v.negative v.number)

numbers_end : (ns : List ℕ) (rest : List Word) → prefix_len is_number (map number ns ++ Equals ∷ rest) ≡ length (map number ns)
numbers_end [] rest = refl
numbers_end (n ∷ ns) rest = let h = numbers_end ns rest in omega arith

-- the first value has a word
some_again : (go : List Word → Option Said) (negative : Bool) (n : Option ℕ) (ws : List Word) → some_words go (value_words (record { negative = negative; number = n }) ++ ws) ≡ go (value_words (record { negative = negative; number = n }) ++ ws)
some_again go true n ws = refl
some_again go false n ws = refl

filled_again : (name ns : List ℕ) (es : List Value) → is_in_order (said.Block name ns es) ≡ true → filled name (map number ns) (values_words es) ≡ Some (said.Block name ns es)
unfolding filled
filled_again name [] es h = absurd cc
filled_again name (n ∷ ns) [] h = absurd cc
filled_again name (n ∷ ns) (e ∷ es) h =
    let all : list_all is_segment_number (n ∷ ns) ≡ true = h in
    some_again (filled_by name (map number (n ∷ ns))) e.negative e.number (values_words es)
    ∙ ap (option_and_then (λ numbers. option_and_then (λ elements. Some (said.Block name numbers elements)) (values_from [] false (values_words (e ∷ es))))) (numbers_again 0 (2 ^ 32 - 1) [] (n ∷ ns) (range_in (n ∷ ns) all))
    ∙ ap (option_and_then (λ elements. Some (said.Block name (n ∷ ns) elements))) (values_again [] (e ∷ es))

block_again : (name ns : List ℕ) (es : List Value) → is_in_order (said.Block name ns es) ≡ true → block_in (Name name ∷ (map number ns ++ Equals ∷ values_words es)) ≡ Some (said.Block name ns es)
unfolding block_in
block_again name ns es h =
    let rest = map number ns ++ Equals ∷ values_words es in
    ap (λ n. behind_equals (filled name (take n rest)) (drop n rest)) (numbers_end ns (values_words es))
    ∙ ap (λ xs. behind_equals (filled name xs) (drop (length (map number ns)) rest)) (take-append_seam (map number ns) (Equals ∷ values_words es))
    ∙ ap (behind_equals (filled name (map number ns))) (drop-append_seam (map number ns) (Equals ∷ values_words es))
    ∙ filled_again name ns es h

pub said_read : (s : Said) → is_in_order s ≡ true → said_in (words_of s) ≡ Some s
said_read said.Nothing h = refl
said_read (said.Constant name value) h = constant_again name value
said_read (said.Segments k lengths) h = segments_again k lengths h
said_read (said.Subsegment k size) h = subsegment_again k size h
said_read (said.Scalar name v) h = scalar_again name v
said_read (said.Block name ns es) h = block_again name ns es h
