-- What is read of words is what they say.
use Rattle.std.proofs.Common.{◌≡◌, ℕ, ◌-◌, ◌^◌, List, [], ◌∷◌, ◌++◌, true, false, ◌&&◌, nat_le, map, take, drop, codes, Option, Some, None, refl, sym, ap, ◌∙◌, subst}
use Rattle.std.specs.List.{list_all, prefix_len}
use Rattle.std.specs.Option.{option_and_then}
use Rattle.std.proofs.lemmas.List.{take-append-drop}
use Rattle.sial_syntax.specs.declared.index.Kind.{Kind}
use Rattle.sip_input.specs.Given.{is_length}
use Rattle.input_text.specs.Reading.{keyword_of, kind_of, is_number, number_in, numbers_from, values_from, named, behind_equals, last_word, some_words, any_number, value_in, constant_in, segments_in, subsegment_in, scalar_in, filled, block_in, said_by, said_in}
use Rattle.input_text.specs.Statements.{kind_name, number, values_words, words_of, is_cut_by_inputs, is_segment_number, has_some, is_in_order}
use Rattle.input_text.specs.declared.keyword.Keyword.{Keyword}
use Rattle.input_text.specs.declared.keyword.Keyword.TheVariants as key
use Rattle.input_text.specs.declared.said.Said.{Said}
use Rattle.input_text.specs.declared.said.Said.TheVariants as said
use Rattle.input_text.specs.declared.values.Value.{Value}
use Rattle.input_text.specs.declared.word.Word.{Word}
use Rattle.input_text.specs.declared.word.Word.TheVariants.{Name, Number, Equals, Minus}
use Rattle.input_text.proofs.KeyLemmas.{spelling, IsKey, key_sound, IsKindOf, kind_sound, both, and_true}
use Rattle.input_text.proofs.AmountLemmas.{is_within, IsOne, one_sound, AreNumbers, numbers_sound, AreValues, values_sound, IsValue, value_sound, has_words}

-- cases of words
module _ {X : Type 0} where
  named_case : (Q : Option X → List Word → Type 0) (go : List ℕ → List Word → Option X) → ((ws : List Word) → Q None ws) → ((name : List ℕ) (ws : List Word) → Q (go name ws) (Name name ∷ ws)) → (ws : List Word) → Q (named go ws) ws
  named_case Q go none some [] = none []
  named_case Q go none some (Name name ∷ ws) = some name ws
  named_case Q go none some (Number n ∷ ws) = none (Number n ∷ ws)
  named_case Q go none some (Equals ∷ ws) = none (Equals ∷ ws)
  named_case Q go none some (Minus ∷ ws) = none (Minus ∷ ws)

  equals_case : (Q : Option X → List Word → Type 0) (go : List Word → Option X) → ((ws : List Word) → Q None ws) → ((ws : List Word) → Q (go ws) (Equals ∷ ws)) → (ws : List Word) → Q (behind_equals go ws) ws
  equals_case Q go none some [] = none []
  equals_case Q go none some (Name name ∷ ws) = none (Name name ∷ ws)
  equals_case Q go none some (Number n ∷ ws) = none (Number n ∷ ws)
  equals_case Q go none some (Equals ∷ ws) = some ws
  equals_case Q go none some (Minus ∷ ws) = none (Minus ∷ ws)

  last_case : (Q : Option X → List Word → Type 0) (go : Word → Option X) → ((ws : List Word) → Q None ws) → ((w : Word) → Q (go w) (w ∷ [])) → (ws : List Word) → Q (last_word go ws) ws
  last_case Q go none some [] = none []
  last_case Q go none some (w ∷ []) = some w
  last_case Q go none some (w ∷ v ∷ ws) = none (w ∷ v ∷ ws)

  some_case : (Q : Option X → List Word → Type 0) (go : List Word → Option X) → ((ws : List Word) → Q None ws) → ((w : Word) (ws : List Word) → Q (go (w ∷ ws)) (w ∷ ws)) → (ws : List Word) → Q (some_words go ws) ws
  some_case Q go none some [] = none []
  some_case Q go none some (w ∷ ws) = some w ws

  number_case : (Q : Option X → Word → Type 0) (go : Option ℕ → Option X) → ((w : Word) → Q None w) → ((n : Option ℕ) → Q (go n) (Number n)) → (w : Word) → Q (any_number go w) w
  number_case Q go none some (Name name) = none (Name name)
  number_case Q go none some (Number n) = some n
  number_case Q go none some Equals = none Equals
  number_case Q go none some Minus = none Minus

-- what is read of words is right of them
abbrev IsSaid : Option Said → List Word → Type 0
IsSaid (Some s) words = (words ≡ words_of s) × (is_in_order s ≡ true)
IsSaid None words = Unit {0}

-- the same of the words behind a keyword
abbrev IsBehind : Keyword → Option Said → List Word → Type 0
IsBehind k (Some s) words = (Name (spelling k) ∷ words ≡ words_of s) × (is_in_order s ≡ true)
IsBehind k None words = Unit {0}

-- a constant
constant_sound : (words : List Word) → IsBehind key.Const (constant_in words) words
unfolding constant_in
constant_sound words =
    named_case (IsBehind key.Const) _ (λ ws. tt)
    (λ name rest. equals_case (λ r ws. IsBehind key.Const r (Name name ∷ ws)) _ (λ ws. tt)
    (λ last. last_case (λ r ws. IsBehind key.Const r (Name name ∷ Equals ∷ ws)) _ (λ ws. tt)
    (λ w. number_case (λ r v. IsBehind key.Const r (Name name ∷ Equals ∷ v ∷ [])) _ (λ v. tt) (λ n. (refl, refl)) w) last) rest) words

-- segments
segments_by : (name : List ℕ) (w : Word) (ws : List Word) (k : Option Kind) (ns : Option (List ℕ)) → IsKindOf k name → AreNumbers 1 1024 [] ns (w ∷ ws)
    → IsBehind key.Segments (option_and_then (λ kind. option_and_then (λ lengths. Some (said.Segments kind lengths)) ns) k) (Name name ∷ w ∷ ws)
segments_by name w ws None ns is are = tt
segments_by name w ws (Some k) None is are = tt
segments_by name w ws (Some k) (Some ns) is are = (
  ap (λ x. Name (codes "segments") ∷ Name x ∷ w ∷ ws) is.0 ∙ ap (λ xs. Name (codes "segments") ∷ Name (kind_name k) ∷ xs) (are.2 ∙ ap (map number) (sym are.1)),
  and_true (is_cut_by_inputs k) (has_some ns && list_all is_length ns) is.1
      (and_true (has_some ns) (list_all is_length ns) (ap has_some are.1 ∙ has_words number w ws are.0 are.2) (ap (list_all is_length) are.1 ∙ are.3)),
)

segments_sound : (words : List Word) → IsBehind key.Segments (segments_in words) words
unfolding segments_in
segments_sound words =
    named_case (IsBehind key.Segments) _ (λ ws. tt)
    (λ name rest. some_case (λ r ws. IsBehind key.Segments r (Name name ∷ ws)) (λ us. option_and_then (λ kind. option_and_then (λ lengths. Some (said.Segments kind lengths)) (numbers_from 1 1024 [] us)) (kind_of name)) (λ ws. tt)
    (λ w ws. segments_by name w ws (kind_of name) (numbers_from 1 1024 [] (w ∷ ws)) (kind_sound name) (numbers_sound 1 1024 [] (w ∷ ws))) rest) words

-- pieces
subsegment_by : (name : List ℕ) (w : Word) (k : Option Kind) (n : Option ℕ) → IsKindOf k name → IsOne 1 1024 n w
    → IsBehind key.Subsegment (option_and_then (λ kind. option_and_then (λ size. Some (said.Subsegment kind size)) n) k) (Name name ∷ w ∷ [])
subsegment_by name w None n is one = tt
subsegment_by name w (Some k) None is one = tt
subsegment_by name w (Some k) (Some n) is one =
    (ap (λ x. Name (codes "subsegment") ∷ Name x ∷ w ∷ []) is.0 ∙ ap (λ x. Name (codes "subsegment") ∷ Name (kind_name k) ∷ x ∷ []) one.0, and_true (is_cut_by_inputs k) (is_length n) is.1 one.1)

subsegment_sound : (words : List Word) → IsBehind key.Subsegment (subsegment_in words) words
unfolding subsegment_in
subsegment_sound words =
    named_case (IsBehind key.Subsegment) _ (λ ws. tt)
    (λ name rest. last_case (λ r ws. IsBehind key.Subsegment r (Name name ∷ ws)) _ (λ ws. tt)
    (λ w. subsegment_by name w (kind_of name) (number_in 1 1024 w) (kind_sound name) (one_sound 1 1024 w)) rest) words

-- a scalar
scalar_by : (name : List ℕ) (ws : List Word) (v : Option Value) → IsValue v ws → IsBehind key.Scalar (option_and_then (λ value. Some (said.Scalar name value)) v) (Name name ∷ Equals ∷ ws)
scalar_by name ws None is = tt
scalar_by name ws (Some v) is = (ap (λ xs. Name (codes "scalar") ∷ Name name ∷ Equals ∷ xs) is, refl)

scalar_sound : (words : List Word) → IsBehind key.Scalar (scalar_in words) words
unfolding scalar_in
scalar_sound words =
    named_case (IsBehind key.Scalar) _ (λ ws. tt)
    (λ name rest. equals_case (λ r ws. IsBehind key.Scalar r (Name name ∷ ws)) _ (λ ws. tt) (λ ws. scalar_by name ws (value_in ws) (value_sound ws)) rest) words

-- a block
has_values : (w : Word) (ws : List Word) (vs : List Value) → w ∷ ws ≡ values_words vs → has_some vs ≡ true
has_values w ws [] e = absurd cc
has_values w ws (v ∷ vs) e = refl

in_range : (ns : List ℕ) → list_all (is_within 0 (2 ^ 32 - 1)) ns ≡ true → list_all is_segment_number ns ≡ true
in_range [] h = refl
in_range (n ∷ ns) h =
    let parts = both (is_within 0 (2 ^ 32 - 1) n) (list_all (is_within 0 (2 ^ 32 - 1)) ns) h in
    and_true (is_segment_number n) (list_all is_segment_number ns) (both (nat_le 0 n) (nat_le n (2 ^ 32 - 1)) parts.0).1 (in_range ns parts.1)

module _ (name : List ℕ) where
  block_by : (w : Word) (ws : List Word) (v : Word) (vs : List Word) (ns : Option (List ℕ)) (es : Option (List Value)) → AreNumbers 0 (2 ^ 32 - 1) [] ns (w ∷ ws) → AreValues [] false es (v ∷ vs)
      → IsBehind key.Block (option_and_then (λ numbers. option_and_then (λ elements. Some (said.Block name numbers elements)) es) ns) (Name name ∷ ((w ∷ ws) ++ Equals ∷ v ∷ vs))
  block_by w ws v vs None es are have = tt
  block_by w ws v vs (Some ns) None are have = tt
  block_by w ws v vs (Some ns) (Some es) are have = (
    ap (λ xs. Name (codes "block") ∷ Name name ∷ (xs ++ Equals ∷ v ∷ vs)) (are.2 ∙ ap (map number) (sym are.1)) ∙ ap (λ xs. Name (codes "block") ∷ Name name ∷ (map number ns ++ Equals ∷ xs)) (have.2 ∙ ap values_words (sym have.1)),
    and_true (has_some ns) (has_some es && list_all is_segment_number ns) (ap has_some are.1 ∙ has_words number w ws are.0 are.2)
        (and_true (has_some es) (list_all is_segment_number ns) (ap has_some have.1 ∙ has_values v vs have.0 have.2) (ap (list_all is_segment_number) are.1 ∙ in_range are.0 are.3)),
  )

  abbrev pub filled_by : (firsts seconds : List Word) → Option Said
  filled_by firsts seconds = option_and_then (λ numbers. option_and_then (λ elements. Some (said.Block name numbers elements)) (values_from [] false seconds)) (numbers_from 0 (2 ^ 32 - 1) [] firsts)

  filled_sound : (firsts seconds : List Word) → IsBehind key.Block (filled name firsts seconds) (Name name ∷ (firsts ++ Equals ∷ seconds))
  unfolding filled
  filled_sound firsts seconds =
      some_case (λ r ws. IsBehind key.Block r (Name name ∷ (ws ++ Equals ∷ seconds))) (λ xs. some_words (filled_by xs) seconds) (λ ws. tt)
      (λ w ws. some_case (λ r vs. IsBehind key.Block r (Name name ∷ ((w ∷ ws) ++ Equals ∷ vs))) (filled_by (w ∷ ws)) (λ vs. tt)
      (λ v vs. block_by w ws v vs (numbers_from 0 (2 ^ 32 - 1) [] (w ∷ ws)) (values_from [] false (v ∷ vs)) (numbers_sound 0 (2 ^ 32 - 1) [] (w ∷ ws)) (values_sound [] false (v ∷ vs))) seconds) firsts

block_sound : (words : List Word) → IsBehind key.Block (block_in words) words
unfolding block_in
block_sound words =
    named_case (IsBehind key.Block) _ (λ ws. tt)
    (λ name rest. subst (λ all. IsBehind key.Block (behind_equals (filled name (take (prefix_len is_number rest) rest)) (drop (prefix_len is_number rest) rest)) (Name name ∷ all)) (take-append-drop (prefix_len is_number rest) rest)
    (equals_case (λ r ws. IsBehind key.Block r (Name name ∷ (take (prefix_len is_number rest) rest ++ ws))) _ (λ ws. tt)
    (λ ws. filled_sound name (take (prefix_len is_number rest) rest) ws) (drop (prefix_len is_number rest) rest))) words

-- what is read behind a keyword
by_key : (k : Keyword) (words : List Word) → IsBehind k (said_by (Some k) words) words
by_key key.Const words = constant_sound words
by_key key.Segments words = segments_sound words
by_key key.Subsegment words = subsegment_sound words
by_key key.Scalar words = scalar_sound words
by_key key.Block words = block_sound words

spelled : (k : Keyword) (name : List ℕ) (words : List Word) (read : Option Said) → name ≡ spelling k → IsBehind k read words → IsSaid read (Name name ∷ words)
spelled k name words (Some s) is h = (ap (λ x. Name x ∷ words) is ∙ h.0, h.1)
spelled k name words None is h = tt

by_keyword : (name : List ℕ) (words : List Word) (k : Option Keyword) → IsKey k name → IsSaid (said_by k words) (Name name ∷ words)
by_keyword name words None is = tt
by_keyword name words (Some k) is = spelled k name words (said_by (Some k) words) is (by_key k words)

-- what is read is said
pub said_sound : (words : List Word) → IsSaid (said_in words) words
said_sound [] = (refl, refl)
said_sound (Name name ∷ ws) = by_keyword name ws (keyword_of name) (key_sound name)
said_sound (Number n ∷ ws) = tt
said_sound (Equals ∷ ws) = tt
said_sound (Minus ∷ ws) = tt

pub said_found : (words : List Word) (s : Said) → said_in words ≡ Some s → (words ≡ words_of s) × (is_in_order s ≡ true)
said_found words s e = subst (λ r. IsSaid r words) e (said_sound words)
