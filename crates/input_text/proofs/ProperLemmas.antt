-- The input of a text is within its limits.
use Rattle.std.proofs.Common.{◌≡◌, ℕ, ◌+◌, ◌^◌, ◌≤◌, List, [], ◌∷◌, ◌++◌, Bool, true, false, ◌&&◌, ◌||◌, cond, ◌==◌, not, nat_lt, nat_le, map, take, drop, length, codes, Option, Some, None, Result, Ok, Err, refl, sym, ap, ◌∙◌, subst, arith}
use Rattle.std.specs.List.{list_all}
use Rattle.std.specs.Prelude.{IfOk}
use Rattle.std.specs.Str.{bytes_eq}
use Rattle.std.proofs.lemmas.Bool.{le-leb, leb-true, leb-false, ltb-false}
use Rattle.std.proofs.lemmas.List.{length-append, length-map}
use Rattle.sial_lexer.specs.Characters as bytes
use Rattle.sial_lexer.specs.Characters.{is_word_byte, small, folded}
use Rattle.sial_lexer.specs.Pieces.{Begins, value_of}
use Rattle.sial_lexer.specs.declared.beginning.Beginning.TheVariants as first
use Rattle.sial_lexer.proofs.FrontLemmas.{begun}
use Rattle.sial_syntax.specs.Agreeing.{same_list}
use Rattle.sial_syntax.specs.Limits.{most_constants, most_segments}
use Rattle.sial_syntax.specs.Names.{is_letter, is_digit, is_name_byte, has_name_form}
use Rattle.sial_syntax.specs.Proper.{is_number}
use Rattle.sial_syntax.specs.Resolved.{is_given_again, are_given_once}
use Rattle.sip_input.specs.Given.{IsInput, named_numbers, is_length, is_piece_length}
use Rattle.sip_input.specs.declared.constant.Constant.{Constant}
use Rattle.sip_input.specs.declared.input.Input.{Input}
use Rattle.input_text.specs.Adding.{Given, Lengths, nothing, lengths_of, given_by, has_constant, is_given, is_past_limit, wrong, added}
use Rattle.input_text.specs.Statements.{Says, words_of}
use Rattle.input_text.specs.Lines.{LeadTo, lines_of}
use Rattle.input_text.specs.Texts.{IsInputOf}
use Rattle.input_text.specs.Words.{IsWord, IsPart, IsCutInto, word_of, words_of_parts}
use Rattle.input_text.specs.declared.fault.InputFault.{InputFault}
use Rattle.input_text.specs.declared.fault.Wrong.TheVariants.{TooWide, Twice, TooMany}
use Rattle.input_text.specs.declared.said.Said.{Said}
use Rattle.input_text.specs.declared.said.Said.TheVariants as said
use Rattle.input_text.specs.declared.word.Part.{Part}
use Rattle.input_text.specs.declared.word.Word.{Word}
use Rattle.input_text.specs.declared.word.Word.TheVariants.{Name, Number, Equals, Minus}
use Rattle.input_text.proofs.KeyLemmas.{both, and_true}

or_true : (a b : Bool) → a ≡ true → a || b ≡ true
or_true a b h = ap (λ x. x || b) h

or_right : (a : Bool) → a || true ≡ true
or_right true = refl
or_right false = refl

or_false : (a b : Bool) → a || b ≡ false → (a ≡ false) × (b ≡ false)
or_false true b h = absurd cc
or_false false b h = (refl, h)

-- a name has the form of a name in small letters
letter_by : (b : ℕ) (s c : Bool) → bytes.is_small b ≡ s → bytes.is_capital b ≡ c → s || c ≡ true → is_letter (cond c (b + 32) b) ≡ true
letter_by b s true e f h =
    let parts = both (nat_le 65 b) (nat_le b 90) f in
    and_true (nat_le 97 (b + 32)) (nat_le (b + 32) 122) (le-leb 97 (b + 32) (omega (arith, leb-true 65 b parts.0))) (le-leb (b + 32) 122 (omega (arith, leb-true b 90 parts.1)))
letter_by b true false e f h = e
letter_by b false false e f h = absurd cc

small_letter : (b : ℕ) → bytes.is_letter b ≡ true → is_letter (small b) ≡ true
small_letter b h = letter_by b (bytes.is_small b) (bytes.is_capital b) refl refl h

byte_by : (b : ℕ) (l rest : Bool) → bytes.is_letter b ≡ l → bytes.is_digit b || b == 95 ≡ rest → l || rest ≡ true → is_name_byte (small b) ≡ true
byte_by b true rest e f h = or_true (is_letter (small b)) (is_digit (small b) || small b == 95) (small_letter b e)
byte_by b false true e f h =
    let same : small b ≡ b = ap (λ c. cond c (b + 32) b) (or_false (bytes.is_small b) (bytes.is_capital b) e).1 in
    subst (λ x. is_name_byte x ≡ true) (sym same) (ap (λ x. is_letter b || x) f ∙ or_right (is_letter b))
byte_by b false false e f h = absurd cc

small_byte : (b : ℕ) → is_word_byte b ≡ true → is_name_byte (small b) ≡ true
small_byte b h = byte_by b (bytes.is_letter b) (bytes.is_digit b || b == 95) refl refl h

name_bytes : (xs : List ℕ) → list_all is_word_byte xs ≡ true → list_all is_name_byte (folded xs) ≡ true
name_bytes [] h = refl
name_bytes (x ∷ xs) h =
    let parts = both (is_word_byte x) (list_all is_word_byte xs) h in
    and_true (is_name_byte (small x)) (list_all is_name_byte (folded xs)) (small_byte x parts.0) (name_bytes xs parts.1)

name_form : (xs : List ℕ) → Begins first.Letter xs → list_all is_word_byte xs ≡ true → length xs ≤ 64 → has_name_form (folded xs) ≡ true
name_form [] begins all few = absurd begins
name_form (b ∷ bs) begins all few =
    and_true (is_letter (small b)) (list_all is_name_byte (folded (b ∷ bs)) && nat_le (length (folded (b ∷ bs))) 64) (small_letter b (begun first.Letter b begins))
    (and_true (list_all is_name_byte (folded (b ∷ bs))) (nat_le (length (folded (b ∷ bs))) 64) (name_bytes (b ∷ bs) all)
    (le-leb (length (folded (b ∷ bs))) 64 (omega (arith, few, length-map (b ∷ bs) small))))

-- what words are: a name has its form, a number fits 64 bits
abbrev is_proper : Word → Bool
is_proper (Name name) = has_name_form name
is_proper (Number None) = true
is_proper (Number (Some n)) = is_number n
is_proper Equals = true
is_proper Minus = true

fits : (v : ℕ) (b : Bool) → nat_lt v (2 ^ 64) ≡ b → is_proper (Number (cond b (Some v) None)) ≡ true
fits v true e = e
fits v false e = refl

word_proper : (word : Word) (xs after : List ℕ) → IsWord word xs after → is_proper word ≡ true
word_proper (Name name) xs after is = subst (λ n. has_name_form n ≡ true) (sym is.1) (name_form xs is.0.0 is.0.1.0 is.0.2)
word_proper (Number number) xs after is = subst (λ n. is_proper (Number n) ≡ true) (sym is.1) (fits (value_of xs) (nat_lt (value_of xs) (2 ^ 64)) refl)
word_proper Equals xs after is = refl
word_proper Minus xs after is = refl

part_proper : (word : Option Word) (xs after : List ℕ) (words : List Word) → IsPart word xs after → list_all is_proper words ≡ true → list_all is_proper (word_of word ++ words) ≡ true
part_proper None xs after words is all = all
part_proper (Some word) xs after words is all = and_true (is_proper word) (list_all is_proper words) (word_proper word xs after is) all

words_proper : (parts : List Part) (line : List ℕ) → IsCutInto parts line → list_all is_proper (words_of_parts parts) ≡ true
words_proper [] line cut = refl
words_proper (p ∷ ps) line cut = part_proper p.word (take p.len line) (drop p.len line) (words_of_parts ps) cut.1 (words_proper ps (drop p.len line) cut.2)

line_proper : (line : List ℕ) (s : Said) → Says line s → list_all is_proper (words_of s) ≡ true
line_proper line s h = ap (list_all is_proper) h.words.of_parts ∙ words_proper h.words.parts line h.words.cut

-- names of constants
same : (xs ys : List ℕ) → bytes_eq xs ys ≡ same_list xs ys
same [] [] = refl
same [] (y ∷ ys) = refl
same (x ∷ xs) [] = refl
same (x ∷ xs) (y ∷ ys) = ap (λ b. (x == y) && b) (same xs ys)

again_push : (cs : List Constant) (name : List ℕ) (c : Constant) → is_given_again name (named_numbers cs) ≡ false → same_list c.name name ≡ false → is_given_again name (named_numbers (cs ++ c ∷ [])) ≡ false
again_push [] name c none differs = ap (λ b. b || false) differs
again_push (d ∷ ds) name c none differs =
    let parts = or_false (same_list d.name name) (is_given_again name (named_numbers ds)) none in
    ap (λ b. b || is_given_again name (named_numbers (ds ++ c ∷ []))) parts.0 ∙ again_push ds name c parts.1 differs

not_true : (b : Bool) → not b ≡ true → b ≡ false
not_true true e = absurd cc
not_true false e = refl

once_push : (cs : List Constant) (c : Constant) → has_constant cs c.name ≡ false → are_given_once (named_numbers cs) ≡ true → are_given_once (named_numbers (cs ++ c ∷ [])) ≡ true
once_push [] c none once = refl
once_push (d ∷ ds) c none once =
    let parts = or_false (bytes_eq c.name d.name) (has_constant ds c.name) none in
    let given = both (not (is_given_again d.name (named_numbers ds))) (are_given_once (named_numbers ds)) once in
    and_true (not (is_given_again d.name (named_numbers (ds ++ c ∷ [])))) (are_given_once (named_numbers (ds ++ c ∷ [])))
    (ap not (again_push ds d.name c (not_true (is_given_again d.name (named_numbers ds)) given.0) (sym (same c.name d.name) ∙ parts.0)))
    (once_push ds c parts.1 given.1)

all_push : {A : Type 0} (p : A → Bool) (xs : List A) (x : A) → list_all p xs ≡ true → p x ≡ true → list_all p (xs ++ x ∷ []) ≡ true
all_push p [] x all is = and_true (p x) true is refl
all_push p (y ∷ ys) x all is = let parts = both (p y) (list_all p ys) all in and_true (p y) (list_all p (ys ++ x ∷ [])) parts.0 (all_push p ys x parts.1 is)

all_map : {A B : Type 0} (f : A → B) (p : B → Bool) (xs : List A) → list_all p (map f xs) ≡ list_all (λ x. p (f x)) xs
all_map f p [] = refl
all_map f p (x ∷ xs) = ap (λ b. p (f x) && b) (all_map f p xs)

-- what is given so far is within its limits
abbrev is_fine_constant : Constant → Bool
is_fine_constant c = has_name_form c.name && is_number c.value

abbrev are_fine_lengths : Lengths → Bool
are_fine_lengths s = nat_le (length s.lengths) most_segments && list_all is_length s.lengths

record IsFine (g : Given) : Type 0 where
  few : length g.constants ≤ 256
  once : are_given_once (named_numbers g.constants) ≡ true
  names : list_all is_fine_constant g.constants ≡ true
  segments : list_all are_fine_lengths g.segments ≡ true
  pieces : list_all is_piece_length g.pieces ≡ true

not_wrong : (a b c : Bool) → cond a (Some TooWide) (cond b (Some Twice) (cond c (Some TooMany) None)) ≡ None → (a ≡ false) × (b ≡ false) × (c ≡ false)
not_wrong true b c e = absurd cc
not_wrong false true c e = absurd cc
not_wrong false false true e = absurd cc
not_wrong false false false e = (refl, refl, refl)

constant_stays : (g : Given) (n : ℕ) (name : List ℕ) (value : Option ℕ) → IsFine g → list_all is_proper (words_of (said.Constant name value)) ≡ true → wrong g (said.Constant name value) ≡ None → IsFine (added g n (said.Constant name value))
constant_stays g n name None fine proper e = absurd (cc (not_wrong true (is_given g (said.Constant name None)) (is_past_limit g (said.Constant name None)) e).0)
constant_stays g n name (Some value) fine proper e =
    let nots = not_wrong false (has_constant g.constants name) (nat_le most_constants (length g.constants)) e in
    let named = both (has_name_form name) (is_number value && true) (both (has_name_form (codes "const")) (has_name_form name && (is_number value && true)) proper).1 in
    record {
      few = omega (arith, leb-false most_constants (length g.constants) nots.2, length-append g.constants ((record { name = name; value = value }) ∷ []));
      once = once_push g.constants (record { name = name; value = value }) nots.1 fine.once;
      names = all_push is_fine_constant g.constants (record { name = name; value = value }) fine.names (and_true (has_name_form name) (is_number value) named.0 (both (is_number value) true named.1).0);
      segments = fine.segments;
      pieces = fine.pieces;
    }

stays : (g : Given) (n : ℕ) (line : List ℕ) (s : Said) → IsFine g → Says line s → wrong g s ≡ None → IsFine (added g n s)
stays g n line said.Nothing fine h e = fine
stays g n line (said.Constant name value) fine h e = constant_stays g n name value fine (line_proper line (said.Constant name value) h) e
stays g n line (said.Segments kind lengths) fine h e =
    let nots = not_wrong false (is_given g (said.Segments kind lengths)) (nat_lt most_segments (length lengths)) e in
    let ordered = both _ (list_all is_length lengths) (both _ _ h.in_order).1 in
    record {
      few = fine.few;
      once = fine.once;
      names = fine.names;
      segments = all_push are_fine_lengths g.segments (record { kind = kind; lengths = lengths }) fine.segments (and_true (nat_le (length lengths) most_segments) (list_all is_length lengths) (le-leb (length lengths) most_segments (ltb-false most_segments (length lengths) nots.2)) ordered.1);
      pieces = fine.pieces;
    }
stays g n line (said.Subsegment kind size) fine h e = record {
  few = fine.few;
  once = fine.once;
  names = fine.names;
  segments = fine.segments;
  pieces = all_push is_piece_length g.pieces (record { kind = kind; length = size }) fine.pieces (both _ (is_length size) h.in_order).1;
}
stays g n line (said.Scalar name value) fine h e = record { few = fine.few; once = fine.once; names = fine.names; segments = fine.segments; pieces = fine.pieces }
stays g n line (said.Block name segments elements) fine h e = record { few = fine.few; once = fine.once; names = fine.names; segments = fine.segments; pieces = fine.pieces }

lead_fine : (n : ℕ) (g end : Given) (lines : List (List ℕ)) → IsFine g → LeadTo Says wrong added n g lines end → IsFine end
lead_fine n g end [] fine h = subst IsFine (sym h) fine
lead_fine n g end (line ∷ lines) fine h = lead_fine (n + 1) (added g n h.0) end lines (stays g n line h.0 fine h.1 h.2) h.3

fine_input : (input : Input) → IsFine (given_by input) → IsInput input
fine_input input fine = record {
  constants = and_true (nat_le (length (named_numbers input.constants.items)) most_constants) (are_given_once (named_numbers input.constants.items) && list_all (λ (c : List ℕ × ℕ). has_name_form c.0 && is_number c.1) (named_numbers input.constants.items))
      (le-leb (length (named_numbers input.constants.items)) most_constants (omega (arith, fine.few, length-map {B = List ℕ × ℕ} input.constants.items (λ (c : Constant). (c.name, c.value)))))
      (and_true (are_given_once (named_numbers input.constants.items)) (list_all (λ (c : List ℕ × ℕ). has_name_form c.0 && is_number c.1) (named_numbers input.constants.items)) fine.once
      (all_map (λ (c : Constant). (c.name, c.value)) (λ (c : List ℕ × ℕ). has_name_form c.0 && is_number c.1) input.constants.items ∙ fine.names));
  segments = sym (all_map lengths_of are_fine_lengths input.segments.items) ∙ fine.segments;
  pieces = fine.pieces;
}

-- an answer that gives a text's input gives one within its limits
pub answer_proper : (text : List ℕ) (result : Result Input InputFault) → IfOk result (IsInputOf text) → IfOk result IsInput
answer_proper text (Ok input) h = fine_input input (lead_fine 1 nothing (given_by input) (lines_of text) (record { few = omega arith; once = refl; names = refl; segments = refl; pieces = refl }) h)
answer_proper text (Err fault) h = tt
