-- Each symbol is read back from its spelling.
use Rattle.std.proofs.Common.{◌≡◌, ℕ, ◌+◌, ◌-◌, ◌*◌, ◌^◌, ◌<◌, ◌≤◌, List, [], ◌∷◌, ◌++◌, Bool, true, false, ◌||◌, ◌==◌, not, cond, nat_le, take, drop, length, decimal, refl, sym, ap, ◌∙◌, subst, append-nil, arith}
use Rattle.std.specs.Prelude.{IsTrue}
use Rattle.std.specs.List.{list_all, prefix_len, fold}
use Rattle.std.specs.Char.{digit_value}
use Rattle.std.specs.Str.Parse.{AllDigits, digits_value_after}
use Rattle.std.proofs.lemmas.Bool.{le-leb, leb-true}
use Rattle.std.proofs.lemmas.Fmt.{decimal_is_IsNumeral}
use Rattle.std.proofs.lemmas.Str.{digit_value_digit}
use Rattle.std.proofs.lemmas.Str.Parse.{digit_from_value}
use Rattle.std.proofs.lemmas.List.{length-append}
use Rattle.std.proofs.Math.Seq.{take-append_seam, drop-append_seam}
use Rattle.sial_lexer.specs.Characters.{is_small, is_capital, is_letter, is_digit, is_text_byte, is_blank, begins_sign, beginning_of}
use Rattle.sial_lexer.specs.Pieces.{Begins, IsToken, is_sign, is_longer_sign, digits_of, past_digits, value_of, IsFraction}
use Rattle.sial_lexer.specs.declared.beginning.Beginning.TheVariants as first
use Rattle.sial_lexer.specs.declared.token.TokenKind.TheVariants as token
use Rattle.sial_lexer.proofs.NumberLemmas.{digits_are, past_are}
use Rattle.sial_lexer.proofs.RunLemmas.{run_is}
use Rattle.sial_syntax.specs.Limits.{most_text}
use Rattle.sial_syntax.specs.Names as names
use Rattle.sial_syntax.specs.Names.{is_name, is_name_byte, is_text, has_name_form, begins_with_letter, is_reserved}
use Rattle.sial_parser.specs.Grammar.{at, opens}
use Rattle.sial_parser.specs.Words.{symbol_of}
use Rattle.sial_parser.specs.declared.sign.Sign.{Sign}
use Rattle.sial_parser.specs.declared.sign.Sign.TheVariants as sign
use Rattle.sial_parser.specs.declared.word.Symbol.{Symbol}
use Rattle.sial_parser.specs.declared.word.Symbol.TheVariants.{Key, Name, Number, Quoted, LineEnd, End}
use Rattle.sial_parser.specs.declared.word.Symbol.TheVariants as symbol
use Rattle.sial_parser.specs.declared.word.Word.{Word}
use Rattle.sial_printer.specs.Spelling.{key_spelling, sign_spelling, spelling}
use Rattle.sial_printer.specs.Placed.{IsSaid}
use Rattle.sial_printer.proofs.Places.{Reads, reads_token}
use Rattle.sial_printer.proofs.NamesSpelled.{IsGap, no_digit, front, back, both_true, form_token, name_says, key_form, key_says}

-- the signs
sign_begins : (s : Sign) → Begins first.Sign (sign_spelling s)
sign_begins sign.Equals = refl
sign_begins sign.PlusEquals = refl
sign_begins sign.MinusEquals = refl
sign_begins sign.TimesEquals = refl
sign_begins sign.Less = refl
sign_begins sign.LessEqual = refl
sign_begins sign.Greater = refl
sign_begins sign.GreaterEqual = refl
sign_begins sign.EqualEqual = refl
sign_begins sign.NotEqual = refl
sign_begins sign.Plus = refl
sign_begins sign.Minus = refl
sign_begins sign.Times = refl
sign_begins sign.Caret = refl
sign_begins sign.Open = refl
sign_begins sign.Close = refl
sign_begins sign.Comma = refl

sign_is : (s : Sign) → is_sign (sign_spelling s) ≡ true
sign_is sign.Equals = refl
sign_is sign.PlusEquals = refl
sign_is sign.MinusEquals = refl
sign_is sign.TimesEquals = refl
sign_is sign.Less = refl
sign_is sign.LessEqual = refl
sign_is sign.Greater = refl
sign_is sign.GreaterEqual = refl
sign_is sign.EqualEqual = refl
sign_is sign.NotEqual = refl
sign_is sign.Plus = refl
sign_is sign.Minus = refl
sign_is sign.Times = refl
sign_is sign.Caret = refl
sign_is sign.Open = refl
sign_is sign.Close = refl
sign_is sign.Comma = refl

sign_says : (s : Sign) → symbol_of token.Sign (sign_spelling s) ≡ symbol.Sign s
sign_says sign.Equals = refl
sign_says sign.PlusEquals = refl
sign_says sign.MinusEquals = refl
sign_says sign.TimesEquals = refl
sign_says sign.Less = refl
sign_says sign.LessEqual = refl
sign_says sign.Greater = refl
sign_says sign.GreaterEqual = refl
sign_says sign.EqualEqual = refl
sign_says sign.NotEqual = refl
sign_says sign.Plus = refl
sign_says sign.Minus = refl
sign_says sign.Times = refl
sign_says sign.Caret = refl
sign_says sign.Open = refl
sign_says sign.Close = refl
sign_says sign.Comma = refl

sign_ends : (s : Sign) (after : List ℕ) → (opens (symbol.Sign s) ≡ false → IsGap after) → is_longer_sign (sign_spelling s) after ≡ false
sign_ends s [] gap = refl
sign_ends sign.Equals (b ∷ bs) gap = (gap refl).2
sign_ends sign.PlusEquals (b ∷ bs) gap = refl
sign_ends sign.MinusEquals (b ∷ bs) gap = refl
sign_ends sign.TimesEquals (b ∷ bs) gap = refl
sign_ends sign.Less (b ∷ bs) gap = (gap refl).2
sign_ends sign.LessEqual (b ∷ bs) gap = refl
sign_ends sign.Greater (b ∷ bs) gap = (gap refl).2
sign_ends sign.GreaterEqual (b ∷ bs) gap = refl
sign_ends sign.EqualEqual (b ∷ bs) gap = refl
sign_ends sign.NotEqual (b ∷ bs) gap = refl
sign_ends sign.Plus (b ∷ bs) gap = (gap refl).2
sign_ends sign.Minus (b ∷ bs) gap = (gap refl).2
sign_ends sign.Times (b ∷ bs) gap = (gap refl).2
sign_ends sign.Caret (b ∷ bs) gap = refl
sign_ends sign.Open (b ∷ bs) gap = refl
sign_ends sign.Close (b ∷ bs) gap = refl
sign_ends sign.Comma (b ∷ bs) gap = refl

-- numbers
all_digits : (ds : List ℕ) → AllDigits 10 ds → list_all is_digit ds ≡ true
all_digits [] h = refl
all_digits (d ∷ ds) h =
    let range = digit_from_value d h.0 in
    both_true (is_digit d) (list_all is_digit ds) (both_true (nat_le 48 d) (nat_le d 57) (le-leb 48 d (omega (arith, range))) (le-leb d 57 (omega (arith, range)))) (all_digits ds h.1)

same_value : (ds : List ℕ) (v : ℕ) → AllDigits 10 ds → fold (λ value digit. value * 10 + (digit - 48)) v ds ≡ digits_value_after 10 v ds
same_value [] v h = refl
same_value (d ∷ ds) v h =
    let one : v * 10 + (d - 48) ≡ v * 10 + digit_value d = omega (arith, digit_value_digit d (digit_from_value d h.0)) in
    ap (λ w. fold (λ value digit. value * 10 + (digit - 48)) w ds) one ∙ same_value ds (v * 10 + digit_value d) h.1

digit_begins_by : (l d : Bool) (b : ℕ) → is_letter b ≡ l → is_digit b ≡ d → d ≡ true → l ≡ false → beginning_of b ≡ first.Digit
digit_begins_by l d b e f g h =
    ap (λ x. cond x first.Letter (cond (is_digit b) first.Digit (cond (b == 34) first.Quote (cond (b == 35) first.Hash (cond (is_blank b) first.Blank (cond (b == 10) first.LineFeed (cond (b == 13) first.Return (cond (begins_sign b) first.Sign first.Nothing)))))))) (e ∙ h)
    ∙ ap (λ x. cond x first.Digit (cond (b == 34) first.Quote (cond (b == 35) first.Hash (cond (is_blank b) first.Blank (cond (b == 10) first.LineFeed (cond (b == 13) first.Return (cond (begins_sign b) first.Sign first.Nothing))))))) (f ∙ g)

no_letter_by : (s c : Bool) (b : ℕ) → is_small b ≡ s → is_capital b ≡ c → b ≤ 57 → s || c ≡ false
no_letter_by true c b e f few = absurd (omega (arith, few, leb-true 97 b (front (nat_le 97 b) (nat_le b 122) e)))
no_letter_by false true b e f few = absurd (omega (arith, few, leb-true 65 b (front (nat_le 65 b) (nat_le b 90) f)))
no_letter_by false false b e f few = refl

digits_begin : (ds : List ℕ) → 0 < length ds → list_all is_digit ds ≡ true → Begins first.Digit ds
digits_begin [] some h = absurd (omega (arith, some))
digits_begin (d ∷ ds) some h =
    let digit = front (is_digit d) (list_all is_digit ds) h in
    digit_begins_by (is_letter d) (is_digit d) d refl refl digit (no_letter_by (is_small d) (is_capital d) d refl refl (leb-true d 57 (back (nat_le 48 d) (nat_le d 57) digit)))

number_token : (n : ℕ) (after : List ℕ) → n < 2 ^ 64 → IsGap after → IsToken (token.Number n) (decimal n) after
number_token n after fits gap =
    let is = decimal_is_IsNumeral n fits in
    let all = all_digits (decimal n) is.0.1 in
    let whole : decimal n ++ [] ≡ decimal n = append-nil (decimal n) in (
      digits_begin (decimal n) is.0.0 all,
      (
        ap value_of (ap digits_of (sym whole) ∙ digits_are (decimal n) [] all refl) ∙ same_value (decimal n) 0 is.0.1 ∙ is.1,
        fits,
        subst (λ (rest : List ℕ). IsFraction rest after) (sym (ap past_digits (sym whole) ∙ past_are (decimal n) [] all refl)) (no_digit after gap),
      ),
    )

-- printed texts
quoted_token : (t after : List ℕ) → IsTrue (is_text t) → IsToken token.Quoted (34 ∷ t ++ 34 ∷ []) after
quoted_token t after h =
    let count : prefix_len is_text_byte (t ++ 34 ∷ []) ≡ length t = run_is is_text_byte t (34 ∷ []) (front (list_all names.is_text_byte t) (nat_le (length t) most_text) h) refl in (
      refl,
      (
        omega (arith, count, leb-true (length t) most_text (back (list_all names.is_text_byte t) (nat_le (length t) most_text) h)),
        ap (λ n. drop n (t ++ 34 ∷ [])) count ∙ drop-append_seam t (34 ∷ []),
      ),
    )

quoted_says : (t : List ℕ) → symbol_of token.Quoted (34 ∷ t ++ 34 ∷ []) ≡ Quoted t
quoted_says t =
    let count : length (34 ∷ t ++ 34 ∷ []) - 1 - 1 ≡ length t = omega (arith, length-append t (34 ∷ [])) in
    ap (λ n. Quoted (take n (t ++ 34 ∷ []))) count ∙ ap Quoted (take-append_seam t (34 ∷ []))

-- a symbol, before bytes that end it
pub reads_symbol : (line : ℕ) (owed : Bool) (s : Symbol) (after : List ℕ) (ws : List Word) → IsSaid s → (opens s ≡ false → IsGap after) → Reads line true after ws → Reads line owed (spelling s ++ after) (at line s ∷ ws)
reads_symbol line owed (Key k) after ws said gap r = reads_token line owed token.Name (key_spelling k) after (Key k) ws (form_token (key_spelling k) after (key_form k) (gap refl)) (key_says k) r
reads_symbol line owed (symbol.Sign s) after ws said gap r = reads_token line owed token.Sign (sign_spelling s) after (symbol.Sign s) ws (sign_begins s, sign_is s, sign_ends s after gap) (sign_says s) r
reads_symbol line owed (Name x) after ws said gap r = reads_token line owed token.Name x after (Name x) ws (form_token x after (front (has_name_form x) (not (is_reserved x)) said) (gap refl)) (name_says x said) r
reads_symbol line owed (Number n) after ws said gap r = reads_token line owed (token.Number n) (decimal n) after (Number n) ws (number_token n after said (gap refl)) refl r
reads_symbol line owed (Quoted t) after ws said gap r = reads_token line owed token.Quoted (34 ∷ t ++ 34 ∷ []) after (Quoted t) ws (quoted_token t after said) (quoted_says t) r
reads_symbol line owed LineEnd after ws said gap r = absurd said
reads_symbol line owed End after ws said gap r = absurd said
