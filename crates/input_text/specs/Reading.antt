-- What the words of a line say, read from the front.
use Rattle.std.specs.Prelude.{ℕ, ◌-◌, ◌^◌, List, [], ◌∷◌, ◌++◌, Bool, true, false, if◌then◌else◌, nat_lt, take, drop, Option, Some, None, codes}
use Rattle.std.specs.List.{prefix_len}
use Rattle.std.specs.Option.{option_and_then}
use Rattle.std.specs.Str.{bytes_eq}
use Rattle.sial_syntax.specs.declared.index.Kind.{Kind}
use Rattle.sial_syntax.specs.declared.index.Kind.TheVariants as kind
use Rattle.input_text.specs.declared.keyword.Keyword.{Keyword}
use Rattle.input_text.specs.declared.keyword.Keyword.TheVariants as key
use Rattle.input_text.specs.declared.said.Said.{Said}
use Rattle.input_text.specs.declared.said.Said.TheVariants as said
use Rattle.input_text.specs.declared.values.Value.{Value}
use Rattle.input_text.specs.declared.word.Word.{Word}
use Rattle.input_text.specs.declared.word.Word.TheVariants.{Name, Number, Equals, Minus}

-- the keyword that is spelled so
abbrev pub keyword_of : List ℕ → Option Keyword
keyword_of word =
    if bytes_eq word (codes "const") then Some key.Const
    else (if bytes_eq word (codes "segments") then Some key.Segments
    else (if bytes_eq word (codes "subsegment") then Some key.Subsegment
    else (if bytes_eq word (codes "scalar") then Some key.Scalar
    else (if bytes_eq word (codes "block") then Some key.Block
    else None))))

-- the kind that is spelled so
abbrev pub kind_of : List ℕ → Option Kind
kind_of word =
    if bytes_eq word (codes "ao") then Some kind.Ao
    else (if bytes_eq word (codes "mo") then Some kind.Mo
    else (if bytes_eq word (codes "moa") then Some kind.Moa
    else (if bytes_eq word (codes "mob") then Some kind.Mob
    else None)))

-- the keyword that a word is
abbrev pub keyword_in : Word → Option Keyword
keyword_in (Name name) = keyword_of name
keyword_in (Number n) = None
keyword_in Equals = None
keyword_in Minus = None

-- whether a word is a number
abbrev pub is_number : Word → Bool
is_number (Name name) = false
is_number (Number n) = true
is_number Equals = false
is_number Minus = false

-- a number within a range
abbrev pub within : (least most number : ℕ) → Option ℕ
within least most number = if nat_lt number least then None else (if nat_lt most number then None else Some number)

-- the number within a range that a word is
abbrev pub number_in : (least most : ℕ) → Word → Option ℕ
number_in least most (Name name) = None
number_in least most (Number None) = None
number_in least most (Number (Some n)) = within least most n
number_in least most Equals = None
number_in least most Minus = None

-- a number behind others, and what follows
abbrev pub with_number : (List ℕ → Option (List ℕ)) → (so_far : List ℕ) → Option ℕ → Option (List ℕ)
with_number go so_far None = None
with_number go so_far (Some n) = go (so_far ++ n ∷ [])

-- further numbers
abbrev pub numbers_from : (least most : ℕ) → (so_far : List ℕ) → List Word → Option (List ℕ)
numbers_from least most so_far [] = Some so_far
numbers_from least most so_far (w ∷ ws) = with_number (λ more. numbers_from least most more ws) so_far (number_in least most w)

-- further values, the first behind a `-` or not
abbrev pub values_from : (so_far : List Value) → (negative : Bool) → List Word → Option (List Value)
values_from so_far negative [] = if negative then None else Some so_far
values_from so_far negative (Name name ∷ ws) = None
values_from so_far negative (Number n ∷ ws) = values_from (so_far ++ (record { negative = negative; number = n }) ∷ []) false ws
values_from so_far negative (Equals ∷ ws) = None
values_from so_far negative (Minus ∷ ws) = if negative then None else values_from so_far true ws

-- the name at the front, and the words behind it
abbrev pub named : {X : Type 0} → (List ℕ → List Word → Option X) → List Word → Option X
named go [] = None
named go (Name name ∷ ws) = go name ws
named go (Number n ∷ ws) = None
named go (Equals ∷ ws) = None
named go (Minus ∷ ws) = None

-- the words behind `=`
abbrev pub behind_equals : {X : Type 0} → (List Word → Option X) → List Word → Option X
behind_equals go [] = None
behind_equals go (Name name ∷ ws) = None
behind_equals go (Number n ∷ ws) = None
behind_equals go (Equals ∷ ws) = go ws
behind_equals go (Minus ∷ ws) = None

-- the last word
abbrev pub last_word : {X : Type 0} → (Word → Option X) → List Word → Option X
last_word go [] = None
last_word go (w ∷ []) = go w
last_word go (w ∷ v ∷ ws) = None

-- the words, where there are some
abbrev pub some_words : {X : Type 0} → (List Word → Option X) → List Word → Option X
some_words go [] = None
some_words go (w ∷ ws) = go (w ∷ ws)

-- the number that a word is, of any size
abbrev pub any_number : {X : Type 0} → (Option ℕ → Option X) → Word → Option X
any_number go (Name name) = None
any_number go (Number n) = go n
any_number go Equals = None
any_number go Minus = None

-- the one value that words are
abbrev pub value_in : List Word → Option Value
value_in [] = None
value_in (Name name ∷ ws) = None
value_in (Number n ∷ ws) = last_word (any_number (λ m. Some (record { negative = false; number = m }))) (Number n ∷ ws)
value_in (Equals ∷ ws) = None
value_in (Minus ∷ ws) = last_word (any_number (λ m. Some (record { negative = true; number = m }))) ws

-- a constant, behind its keyword
unfoldable pub constant_in : List Word → Option Said
constant_in words = named (λ name. behind_equals (last_word (any_number (λ value. Some (said.Constant name value))))) words

-- the lengths of a kind's segments
unfoldable pub segments_in : List Word → Option Said
segments_in words =
    named (λ name. some_words (λ rest.
    option_and_then (λ kind. option_and_then (λ lengths. Some (said.Segments kind lengths)) (numbers_from 1 1024 [] rest))
    (kind_of name))) words

-- the length of a kind's pieces
unfoldable pub subsegment_in : List Word → Option Said
subsegment_in words =
    named (λ name. last_word (λ word.
    option_and_then (λ kind. option_and_then (λ size. Some (said.Subsegment kind size)) (number_in 1 1024 word))
    (kind_of name))) words

-- a scalar
unfoldable pub scalar_in : List Word → Option Said
scalar_in words = named (λ name. behind_equals (λ rest. option_and_then (λ value. Some (said.Scalar name value)) (value_in rest))) words

-- a block of a name, with the words of its segments and elements
unfoldable pub filled : List ℕ → (segments values : List Word) → Option Said
filled name segments values =
    some_words (λ firsts. some_words (λ seconds.
    option_and_then (λ numbers. option_and_then (λ elements. Some (said.Block name numbers elements)) (values_from [] false seconds))
    (numbers_from 0 (2 ^ 32 - 1) [] firsts)) values) segments

-- a block
unfoldable pub block_in : List Word → Option Said
block_in words =
    named (λ name rest. behind_equals (filled name (take (prefix_len is_number rest) rest)) (drop (prefix_len is_number rest) rest)) words

-- what words say behind a keyword
abbrev pub said_by : Option Keyword → List Word → Option Said
said_by None words = None
said_by (Some key.Const) words = constant_in words
said_by (Some key.Segments) words = segments_in words
said_by (Some key.Subsegment) words = subsegment_in words
said_by (Some key.Scalar) words = scalar_in words
said_by (Some key.Block) words = block_in words

-- what words say
abbrev pub said_in : List Word → Option Said
said_in [] = Some said.Nothing
said_in (w ∷ ws) = said_by (keyword_in w) ws
