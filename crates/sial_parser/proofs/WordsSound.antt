-- The words of a text are as tokens give them.
use Rattle.std.proofs.Common.{◌≡◌, ℕ, suc, ◌+◌, ◌-◌, ◌≤◌, List, [], ◌∷◌, ◌++◌, Bool, true, false, ◌&&◌, ◌||◌, ◌==◌, not, cond, nat_le, map, take, drop, length, Option, Some, None, refl, sym, ap, subst, arith}
use Rattle.std.specs.Prelude.{IsTrue}
use Rattle.std.specs.List.{AllByRecursion, list_all, list_any, slice_range, prefix_len, count_by}
use Rattle.std.specs.Str.{bytes_eq}
use Rattle.std.proofs.lemmas.Bool.{le-leb, leb-true}
use Rattle.std.proofs.lemmas.List.{length-drop, take-append-drop, length-append}
use Rattle.std.proofs.lemmas.List.Folds.{length-prefix_len}
use Rattle.std.proofs.lemmas.List.Sums.{count_by-le-length}
use Rattle.sial_lexer.specs.Characters.{is_small, is_capital, is_letter, is_digit, is_word_byte, is_text_byte, small, folded}
use Rattle.sial_lexer.specs.Cut.{IsCut, Place, beginning, past, token_at, token_of, tokens_from, HasTokens, StandsIn}
use Rattle.sial_lexer.specs.Pieces.{Begins, IsToken}
use Rattle.sial_lexer.specs.declared.beginning.Beginning.TheVariants as first
use Rattle.sial_lexer.specs.declared.piece.Piece.{Piece}
use Rattle.sial_lexer.specs.declared.piece.PieceKind.{PieceKind}
use Rattle.sial_lexer.specs.declared.piece.PieceKind.TheVariants as piece
use Rattle.sial_lexer.specs.declared.token.Token.{Token}
use Rattle.sial_lexer.specs.declared.token.TokenKind.{TokenKind}
use Rattle.sial_lexer.specs.declared.token.TokenKind.TheVariants as token
use Rattle.sial_lexer.proofs.FrontLemmas.{begun}
use Rattle.sial_lexer.proofs.RunLemmas.{run_passes}
use Rattle.sial_lexer.proofs.SpanLemmas.{tokens_stand}
use Rattle.sial_lexer.proofs.WholeLemmas.{has_bytes}
use Rattle.sial_syntax.specs.Limits.{most_text}
use Rattle.sial_syntax.specs.Names as names
use Rattle.sial_syntax.specs.Names.{reserved, is_reserved, begins_with_letter, is_name, is_name_byte, is_text}
use Rattle.sial_parser.specs.Sound.{IsSoundSymbol, AreSound}
use Rattle.sial_parser.specs.Words.{keywords, signs, entry_of, name_or_key, sign_or_end, symbol_of, word_of, words_of}
use Rattle.sial_parser.specs.declared.keyword.Keyword.{Keyword}
use Rattle.sial_parser.specs.declared.sign.Sign.{Sign}
use Rattle.sial_parser.specs.declared.word.Word.{Word}
use Rattle.sial_parser.proofs.ProperOperands.{both}

front_of_two : (x y : Bool) → x && y ≡ true → x ≡ true
front_of_two true y e = refl
front_of_two false y e = absurd cc

back_of_two : (x y : Bool) → x && y ≡ true → y ≡ true
back_of_two true y e = e
back_of_two false y e = absurd cc

or_first : (x y : Bool) → x ≡ true → x || y ≡ true
or_first true y e = refl
or_first false y e = absurd cc

or_second : (x y : Bool) → y ≡ true → x || y ≡ true
or_second true y e = refl
or_second false y e = e

-- a capital letter made small is a small letter
made_small : (b : ℕ) → is_capital b ≡ true → names.is_letter (b + 32) ≡ true
made_small b e =
    let low : 65 ≤ b = leb-true 65 b (front_of_two (nat_le 65 b) (nat_le b 90) e) in
    let high : b ≤ 90 = leb-true b 90 (back_of_two (nat_le 65 b) (nat_le b 90) e) in
    both (nat_le 97 (b + 32)) (nat_le (b + 32) 122) (le-leb 97 (b + 32) (omega arith)) (le-leb (b + 32) 122 (omega arith))

-- a letter made small is a small letter
letter_by : (s c : Bool) (b : ℕ) → is_small b ≡ s → is_capital b ≡ c → s || c ≡ true → names.is_letter (cond c (b + 32) b) ≡ true
letter_by s true b e f h = made_small b f
letter_by true false b e f h = e
letter_by false false b e f h = absurd cc

letter_small : (b : ℕ) → is_letter b ≡ true → names.is_letter (small b) ≡ true
letter_small b h = letter_by (is_small b) (is_capital b) b refl refl h

-- a byte of a name made small is a byte of a name
word_by : (s c d : Bool) (b : ℕ) → is_small b ≡ s → is_capital b ≡ c → is_digit b || b == 95 ≡ d → (s || c) || d ≡ true → is_name_byte (cond c (b + 32) b) ≡ true
word_by s true d b e f g h = or_first (names.is_letter (b + 32)) (names.is_digit (b + 32) || b + 32 == 95) (made_small b f)
word_by true false d b e f g h = or_first (names.is_letter b) (names.is_digit b || b == 95) e
word_by false false true b e f g h = or_second (names.is_letter b) (names.is_digit b || b == 95) g
word_by false false false b e f g h = absurd cc

all_small : (xs : List ℕ) → list_all is_word_byte xs ≡ true → list_all is_name_byte (folded xs) ≡ true
all_small [] h = refl
all_small (b ∷ bs) h =
    both (is_name_byte (small b)) (list_all is_name_byte (folded bs))
    (word_by (is_small b) (is_capital b) (is_digit b || b == 95) b refl refl refl (front_of_two (is_word_byte b) (list_all is_word_byte bs) h)) (all_small bs (back_of_two (is_word_byte b) (list_all is_word_byte bs) h))

folded_long : (xs : List ℕ) → length (folded xs) ≡ length xs
folded_long [] = refl
folded_long (b ∷ bs) = ap suc (folded_long bs)

-- what no entry has is none of the spellings
unlisted_by : (b : Bool) (k : Keyword) (r : Option Keyword) (rest : Bool) → cond b (Some k) r ≡ None → (r ≡ None → rest ≡ false) → b || rest ≡ false
unlisted_by true k r rest e go = absurd cc
unlisted_by false k r rest e go = go e

unlisted : (x : List ℕ) (table : List (List ℕ × Keyword)) → entry_of table x ≡ None → list_any (bytes_eq x) (map (λ (e : List ℕ × Keyword). e.0) table) ≡ false
unlisted x [] e = refl
unlisted x (k ∷ table) e = unlisted_by (bytes_eq x k.0) k.1 (entry_of table x) (list_any (bytes_eq x) (map (λ (e : List ℕ × Keyword). e.0) table)) e (unlisted x table)

not_false : (b : Bool) → b ≡ false → not b ≡ true
not_false true e = absurd cc
not_false false e = refl

begins_small : (xs after : List ℕ) → Begins first.Letter xs → begins_with_letter (folded xs) ≡ true
begins_small [] after h = absurd h
begins_small (b ∷ bs) after h = letter_small b (begun first.Letter b h)

-- what makes a name
is_name_made : (x : List ℕ) → begins_with_letter x ≡ true → list_all is_name_byte x ≡ true → length x ≤ 64 → is_reserved x ≡ false → IsTrue (is_name x)
is_name_made x begins all few free =
    both (begins_with_letter x && (list_all is_name_byte x && nat_le (length x) 64)) (not (is_reserved x))
    (both (begins_with_letter x) (list_all is_name_byte x && nat_le (length x) 64) begins (both (list_all is_name_byte x) (nat_le (length x) 64) all (le-leb (length x) 64 few)))
    (not_false (is_reserved x) free)

-- a name in small letters that is no reserved word
name_sound : (xs after : List ℕ) (r : Option Keyword) → entry_of keywords (folded xs) ≡ r → IsToken token.Name xs after → IsSoundSymbol (name_or_key (folded xs) r)
name_sound xs after (Some k) e h = tt
name_sound xs after None e h =
    is_name_made (folded xs) (begins_small xs after h.0) (all_small xs h.1.0) (omega (arith, folded_long xs, h.2)) (unlisted (folded xs) keywords e)

sign_sound : (r : Option Sign) → IsSoundSymbol (sign_or_end r)
sign_sound (Some s) = tt
sign_sound None = tt

-- what stands between the marks of a text
inside_is : (b : ℕ) (inside : List ℕ) → drop (prefix_len is_text_byte inside) inside ≡ 34 ∷ [] → slice_range (b ∷ inside) 1 (length (b ∷ inside) - 1) ≡ take (prefix_len is_text_byte inside) inside
inside_is b inside e =
    let long : length inside ≡ prefix_len is_text_byte inside + 1 = omega (arith, length-drop (prefix_len is_text_byte inside) inside, ap length e, length-prefix_len is_text_byte inside, ap length (take-append-drop (prefix_len is_text_byte inside) inside), length-append (take (prefix_len is_text_byte inside) inside) (drop (prefix_len is_text_byte inside) inside)) in
    let count : length (b ∷ inside) - 1 - 1 ≡ prefix_len is_text_byte inside = omega (arith, long) in
    ap (λ n. take n inside) count

quoted_sound : (xs after : List ℕ) → IsToken token.Quoted xs after → IsTrue (is_text (slice_range xs 1 (length xs - 1)))
quoted_sound [] after h = absurd h
quoted_sound (b ∷ inside) after h =
    let front : List ℕ = take (prefix_len is_text_byte inside) inside in
    subst (λ (t : List ℕ). IsTrue (is_text t)) (sym (inside_is b inside h.1.1))
    (both (list_all names.is_text_byte front) (nat_le (length front) most_text) (run_passes is_text_byte inside) (le-leb (length front) most_text (omega (arith, length-prefix_len is_text_byte inside, h.1.0))))

symbol_sound : (kind : TokenKind) (text xs after : List ℕ) → Rattle.sial_lexer.specs.Cut.IsSpelled kind xs after → IsSoundSymbol (symbol_of kind xs)
symbol_sound token.Name text xs after h = name_sound xs after (entry_of keywords (folded xs)) refl h
symbol_sound (token.Number value) text xs after h = h.1.1
symbol_sound token.Quoted text xs after h = quoted_sound xs after h
symbol_sound token.Sign text xs after h = sign_sound (entry_of signs xs)
symbol_sound token.LineEnd text xs after h = tt

-- lines are few
line_owed : (owed : Bool) (place : Place) (len most : ℕ) (ts : List Token) → place.line ≤ most → AllByRecursion (λ (t : Token). t.line ≤ most) ts → AllByRecursion (λ (t : Token). t.line ≤ most) (cond owed (token_at place token.LineEnd len ∷ []) [] ++ ts)
line_owed true place len most ts h all = (h, all)
line_owed false place len most ts h all = all

line_before : (kind : PieceKind) (len most : ℕ) (place : Place) (ts : List Token) → place.line ≤ most → AllByRecursion (λ (t : Token). t.line ≤ most) ts → AllByRecursion (λ (t : Token). t.line ≤ most) (token_of place kind len ++ ts)
line_before piece.Blank len most place ts h all = all
line_before piece.Comment len most place ts h all = all
line_before piece.LineBreak len most place ts h all = line_owed place.owed place len most ts h all
line_before (piece.Token kind) len most place ts h all = (h, all)

line_after : (place : Place) (kind : PieceKind) (len : ℕ) → (past place kind len).line ≤ place.line + 1
line_after place piece.Blank len = omega arith
line_after place piece.Comment len = omega arith
line_after place piece.LineBreak len = omega arith
line_after place (piece.Token kind) len = omega arith

line_last : (owed : Bool) (place : Place) (most : ℕ) → place.line ≤ most → AllByRecursion (λ (t : Token). t.line ≤ most) (cond owed (token_at place token.LineEnd 0 ∷ []) [])
line_last true place most h = (h, tt)
line_last false place most h = tt

lines_few : (pieces : List Piece) (place : Place) (bytes : List ℕ) (most : ℕ) → place.line + length bytes ≤ most → IsCut pieces bytes [] → AllByRecursion (λ (t : Token). t.line ≤ most) (tokens_from place pieces)
lines_few [] place bytes most few cut = line_last place.owed place most (omega (arith, few))
lines_few (p ∷ ps) place bytes most few cut =
    line_before p.kind p.len most place (tokens_from (past place p.kind p.len) ps) (omega (arith, few))
    (lines_few ps (past place p.kind p.len) (drop p.len bytes) most (omega (arith, few, line_after place p.kind p.len, length-drop p.len bytes, has_bytes p.kind p.len bytes cut.1, cut.0)) cut.2)

count_few : (text : List ℕ) → count_by (λ b. b == 10) text ≤ length text
count_few text = count_by-le-length (λ b. b == 10) text

each_sound : (text : List ℕ) (ts : List Token) → AllByRecursion (StandsIn text) ts → AllByRecursion (λ (t : Token). t.line ≤ 1048577) ts → (tail : List Word) → AreSound tail → AreSound (map (word_of text) ts ++ tail)
each_sound text [] h g tail r = r
each_sound text (t ∷ ts) h g tail r = ((omega (arith, g.0), symbol_sound t.kind text (slice_range text t.start t.end) (drop t.end text) h.0), each_sound text ts h.1 g.1 tail r)

-- the words of a text are sound
pub words_sound : (text : List ℕ) (tokens : List Token) → HasTokens text tokens → AreSound (words_of text tokens)
words_sound text tokens h =
    let lines = subst (AllByRecursion (λ (t : Token). t.line ≤ 1048577)) (sym h.of_pieces) (lines_few h.pieces beginning text 1048577 (omega (arith, h.within)) h.cut) in
    each_sound text tokens (tokens_stand text tokens h) lines _ ((omega (arith, count_few text, h.within), tt), tt)
