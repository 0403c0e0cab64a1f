-- What stands at the front is found there: each piece, and each fault.
use Rattle.std.proofs.Common.{◌≡◌, ℕ, suc, ◌+◌, ◌^◌, ◌<◌, ◌≤◌, List, [], ◌∷◌, ◌++◌, Bool, true, false, ◌&&◌, ◌||◌, cond, ◌==◌, nat_lt, take, drop, length, Some, None, Result, Ok, Err, refl, sym, ap, ◌∙◌, subst, arith, inl, inr, append_assoc}
use Rattle.std.specs.List.{list_all, prefix_len}
use Rattle.std.proofs.lemmas.Bool.{lt-ltb, le-ltb, eqb-true}
use Rattle.std.proofs.lemmas.List.{length-append, take-append-drop}
use Rattle.std.proofs.lemmas.List.Folds.{length-prefix_len}
use Rattle.std.proofs.Math.Seq.{take-append_seam, drop-append_seam}
use Rattle.sial_lexer.specs.Characters.{is_digit, is_zero, is_word_byte, is_text_byte, is_within_line, is_sign_byte, begins}
use Rattle.sial_lexer.specs.Faults.{IsFaulty, EndsLine, IsForeign, HasDecimals}
use Rattle.sial_lexer.specs.Pieces.{most_name, most_printed, IsFraction, IsNumber, IsPiece, value_of, digits_of, past_digits, is_sign, is_longer_sign}
use Rattle.sial_lexer.specs.Scanning.{front_of, piece_at, token, line_break, name_at, number_at, with_fraction, fraction_len, quoted_at, closed_at, return_at, sign_at}
use Rattle.sial_lexer.specs.declared.fault.LexKind.{LexKind}
use Rattle.sial_lexer.specs.declared.fault.LexKind.TheVariants.{BadByte, Fraction, TooWide, OpenText, TooLong, OutOfMemory}
use Rattle.sial_lexer.specs.declared.piece.Piece.{Piece}
use Rattle.sial_lexer.specs.declared.piece.PieceKind.{PieceKind}
use Rattle.sial_lexer.specs.declared.piece.PieceKind.TheVariants as piece
use Rattle.sial_lexer.specs.declared.token.TokenKind.TheVariants.{Name, Number, Quoted, Sign, LineEnd}
use Rattle.sial_lexer.proofs.NumberLemmas.{fitting, number_is}
use Rattle.sial_lexer.proofs.RunLemmas.{run_passes, run_stops, run_is}

-- the answer of a piece
abbrev found : PieceKind → ℕ → Result Piece LexKind
found kind len = Ok (record { kind = kind; len = len })

-- a test of numbers that differ
apart : (a b : ℕ) (t : Bool) → a == b ≡ t → (a ≡ b → ⊥) → a == b ≡ false
apart a b true e not_same = absurd (not_same (eqb-true a b e))
apart a b false e not_same = e

or_false : (x y : Bool) → x || y ≡ false → (x ≡ false) × (y ≡ false)
or_false true y e = absurd cc
or_false false y e = (refl, e)

-- a name of just these bytes
name_again : (xs after : List ℕ) → list_all is_word_byte xs ≡ true → begins is_word_byte after ≡ false → length xs ≤ most_name → name_at (xs ++ after) ≡ found (piece.Token Name) (length xs)
unfolding name_at
name_again xs after all stop few =
    ap (λ n. cond (nat_lt most_name n) (Err TooLong) (Ok (token Name n))) (run_is is_word_byte xs after all stop)
    ∙ ap (λ b. cond b (Err TooLong) (Ok (token Name (length xs)))) (le-ltb most_name (length xs) few)

name_long : (xs : List ℕ) → most_name < prefix_len is_word_byte xs → name_at xs ≡ Err TooLong
unfolding name_at
name_long xs many = ap (λ b. cond b (Err TooLong) (Ok (token Name (prefix_len is_word_byte xs)))) (lt-ltb most_name (prefix_len is_word_byte xs) many)

one_zero : (b : Bool) (z : ℕ) (rest digits : Bool) → is_zero z ≡ b → b && rest ≡ true → (rest ≡ true → digits ≡ true) → is_digit z && digits ≡ true
one_zero true z rest digits e all others = ap (λ x. is_digit x && digits) (eqb-true z 48 e) ∙ others all
one_zero false z rest digits e all others = absurd cc

zeros_are_digits : (zs : List ℕ) → list_all is_zero zs ≡ true → list_all is_digit zs ≡ true
zeros_are_digits [] all = refl
zeros_are_digits (z ∷ zs) all = one_zero (is_zero z) z (list_all is_zero zs) (list_all is_digit zs) refl all (zeros_are_digits zs)

-- a fraction before what follows it
stops_digits : (frac after : List ℕ) → IsFraction frac after → begins is_digit (frac ++ after) ≡ false
stops_digits [] [] is = refl
stops_digits [] (c ∷ cs) is = (or_false (is_digit c) (c == 46) is).0
stops_digits (c ∷ zeros) after is = ap is_digit is.0

fraction_again : (frac after : List ℕ) → IsFraction frac after → fraction_len (frac ++ after) ≡ Ok (length frac)
unfolding fraction_len
fraction_again [] [] is = refl
fraction_again [] (c ∷ cs) is = ap (λ b. cond b (cond (list_all is_zero (take (prefix_len is_digit cs) cs)) (Ok (1 + prefix_len is_digit cs)) (Err Fraction)) (Ok 0)) (or_false (is_digit c) (c == 46) is).1
fraction_again (c ∷ zeros) after is =
    let rest = zeros ++ after in
    let m : prefix_len is_digit rest ≡ length zeros = run_is is_digit zeros after (zeros_are_digits zeros is.1) is.2 in
    let point : c == 46 ≡ true = ap (λ x. x == 46) is.0 in
    let all : list_all is_zero (take (prefix_len is_digit rest) rest) ≡ true = ap (λ n. list_all is_zero (take n rest)) m ∙ ap (list_all is_zero) (take-append_seam zeros after) ∙ is.1 in
    let one : 1 + length zeros ≡ suc (length zeros) = omega arith in
    ap (λ b. cond b (cond (list_all is_zero (take (prefix_len is_digit rest) rest)) (Ok (1 + prefix_len is_digit rest)) (Err Fraction)) (Ok 0)) point
    ∙ ap (λ b. cond b (Ok (1 + prefix_len is_digit rest)) (Err Fraction)) all
    ∙ ap (λ n. Ok (1 + n)) m ∙ ap Ok one

-- a number of just these bytes
number_again : (value : ℕ) (xs after : List ℕ) → IsNumber value xs after → number_at (xs ++ after) ≡ found (piece.Token (Number value)) (length xs)
number_again value xs after is =
    let digits : List ℕ = digits_of xs in
    let frac : List ℕ = past_digits xs in
    let split : digits ++ frac ≡ xs = take-append-drop (prefix_len is_digit xs) xs in
    let long : length digits + length frac ≡ length xs = sym (length-append digits frac) ∙ ap length split in
    ap (λ t. number_at (t ++ after)) (sym split) ∙ ap number_at (append_assoc digits frac after)
    ∙ number_is digits (frac ++ after) (run_passes is_digit xs) (stops_digits frac after is.2)
    ∙ ap (λ v. with_fraction (fitting v) (length digits) (fraction_len (frac ++ after))) is.0
    ∙ ap (λ b. with_fraction (cond b (Some value) None) (length digits) (fraction_len (frac ++ after))) (lt-ltb value (2 ^ 64) is.1)
    ∙ ap (with_fraction (Some value) (length digits)) (fraction_again frac after is.2)
    ∙ ap (found (piece.Token (Number value))) long

closed_mark : (len : ℕ) (after : List ℕ) → closed_at len (34 ∷ after) ≡ found (piece.Token Quoted) (len + 2)
closed_mark len [] = refl
closed_mark len (c ∷ cs) = refl

-- a text of just these bytes
quoted_again : (front after : List ℕ) → list_all is_text_byte front ≡ true → length front ≤ most_printed → quoted_at (front ++ (34 ∷ after)) ≡ found (piece.Token Quoted) (length front + 2)
unfolding quoted_at
quoted_again front after all few =
    let bs = front ++ (34 ∷ after) in
    let n : prefix_len is_text_byte bs ≡ length front = run_is is_text_byte front (34 ∷ after) all refl in
    ap (λ k. cond (nat_lt most_printed k) (Err TooLong) (closed_at k (drop k bs))) n
    ∙ ap (λ b. cond b (Err TooLong) (closed_at (length front) (drop (length front) bs))) (le-ltb most_printed (length front) few)
    ∙ ap (closed_at (length front)) (drop-append_seam front (34 ∷ after))
    ∙ closed_mark (length front) after

-- the longest sign again
sign_again : (xs after : List ℕ) (a : ℕ) → is_sign (a ∷ xs) ≡ true → is_longer_sign (a ∷ xs) after ≡ false → sign_at ((a ∷ xs) ++ after) ≡ found (piece.Token Sign) (length (a ∷ xs))
sign_again [] [] a is long = ap (λ b. cond (cond b 1 0 == 0) (Err BadByte) (Ok (token Sign (cond b 1 0)))) is
sign_again [] (b ∷ bs) a is long =
    ap (λ p. cond (cond p 2 (cond (is_sign_byte a) 1 0) == 0) (Err BadByte) (Ok (token Sign (cond p 2 (cond (is_sign_byte a) 1 0))))) long
    ∙ ap (λ b. cond (cond b 1 0 == 0) (Err BadByte) (Ok (token Sign (cond b 1 0)))) is
sign_again (b ∷ []) after a is long = ap (λ p. cond (cond p 2 (cond (is_sign_byte a) 1 0) == 0) (Err BadByte) (Ok (token Sign (cond p 2 (cond (is_sign_byte a) 1 0))))) is
sign_again (b ∷ c ∷ cs) after a is long = absurd cc

-- a piece is found at the front
pub piece_again : (kind : PieceKind) (xs after : List ℕ) → IsPiece kind xs after → front_of (xs ++ after) ≡ found kind (length xs)
piece_again piece.Blank [] after is = absurd is.0
piece_again piece.Blank (b ∷ []) after is = ap (λ w. piece_at w b after) is.0
piece_again piece.Blank (b ∷ c ∷ cs) after is = absurd (omega (arith, is.1))
piece_again piece.Comment [] after is = absurd is.0
piece_again piece.Comment (b ∷ bs) after is =
    ap (λ w. piece_at w b (bs ++ after)) is.0 ∙ ap (found piece.Comment) (run_is is_within_line (b ∷ bs) after is.1.0 is.1.1)
piece_again piece.LineBreak xs after (inl is) = subst (λ ys. front_of (ys ++ after) ≡ found piece.LineBreak (length ys)) (sym is) refl
piece_again piece.LineBreak xs after (inr is) = subst (λ ys. front_of (ys ++ after) ≡ found piece.LineBreak (length ys)) (sym is) refl
piece_again (piece.Token Name) [] after is = absurd is.0
piece_again (piece.Token Name) (b ∷ bs) after is = ap (λ w. piece_at w b (bs ++ after)) is.0 ∙ name_again (b ∷ bs) after is.1.0 is.1.1 is.2
piece_again (piece.Token (Number value)) [] after is = absurd is.0
piece_again (piece.Token (Number value)) (b ∷ bs) after is = ap (λ w. piece_at w b (bs ++ after)) is.0 ∙ number_again value (b ∷ bs) after is.1
piece_again (piece.Token Quoted) [] after is = absurd is
piece_again (piece.Token Quoted) (b ∷ inside) after is =
    let n = prefix_len is_text_byte inside in
    let front : List ℕ = take n inside in
    let long : length front ≡ n = length-prefix_len is_text_byte inside in
    let split : front ++ (34 ∷ []) ≡ inside = ap (λ r. front ++ r) (sym is.1.1) ∙ take-append-drop n inside in
    let len : length front + 2 ≡ length (b ∷ inside) = omega (arith, length-append front (34 ∷ []), ap length split) in
    ap (λ x. front_of ((x ∷ inside) ++ after)) is.0
    ∙ ap (λ t. quoted_at (t ++ after)) (sym split)
    ∙ ap quoted_at (append_assoc front (34 ∷ []) after)
    ∙ quoted_again front after (run_passes is_text_byte inside) (omega (arith, long, is.1.0))
    ∙ ap (found (piece.Token Quoted)) len
piece_again (piece.Token Sign) [] after is = absurd is.0
piece_again (piece.Token Sign) (a ∷ xs) after is = ap (λ w. piece_at w a (xs ++ after)) is.0 ∙ sign_again xs after a is.1 is.2
piece_again (piece.Token LineEnd) xs after is = absurd is

-- a text whose bytes so far are not too many
quoted_on : (bs : List ℕ) → prefix_len is_text_byte bs ≤ most_printed → quoted_at bs ≡ closed_at (prefix_len is_text_byte bs) (drop (prefix_len is_text_byte bs) bs)
unfolding quoted_at
quoted_on bs few = ap (λ b. cond b (Err TooLong) (closed_at (prefix_len is_text_byte bs) (drop (prefix_len is_text_byte bs) bs))) (le-ltb most_printed (prefix_len is_text_byte bs) few)

quoted_long : (bs : List ℕ) → most_printed < prefix_len is_text_byte bs → quoted_at bs ≡ Err TooLong
unfolding quoted_at
quoted_long bs many = ap (λ b. cond b (Err TooLong) (closed_at (prefix_len is_text_byte bs) (drop (prefix_len is_text_byte bs) bs))) (lt-ltb most_printed (prefix_len is_text_byte bs) many)

no_mark : (c : ℕ) → c ≡ 10 → c == 34 ≡ false
no_mark c e = ap (λ x. x == 34) e

-- an end of line leaves a text open
open_at : (len : ℕ) (rest : List ℕ) → EndsLine rest → closed_at len rest ≡ Err OpenText
open_at len [] ends = refl
open_at len (c ∷ []) ends = ap (λ x. closed_at len (x ∷ [])) ends
open_at len (c ∷ d ∷ ds) (inl ends) = ap (λ x. closed_at len (x ∷ d ∷ ds)) ends
open_at len (c ∷ d ∷ ds) (inr ends) = ap (λ x. closed_at len (x ∷ d ∷ ds)) ends.0 ∙ ap (λ x. closed_at len (13 ∷ x ∷ ds)) ends.1

ends_it : (c d : ℕ) (ds : List ℕ) (x y : Bool) → c == 13 ≡ x → d == 10 ≡ y → (EndsLine (c ∷ d ∷ ds) → ⊥) → x && y ≡ false
ends_it c d ds true true e f no_end = absurd (no_end (inr (eqb-true c 13 e, eqb-true d 10 f)))
ends_it c d ds true false e f no_end = refl
ends_it c d ds false y e f no_end = refl

-- a foreign byte is bad
foreign_at : (len : ℕ) (rest : List ℕ) → IsForeign rest → closed_at len rest ≡ Err BadByte
foreign_at len [] is = absurd is
foreign_at len (c ∷ []) is =
    ap (λ b. cond b (Ok (token Quoted (len + 2))) (cond (c == 10) (Err OpenText) (Err BadByte))) (apart c 34 (c == 34) refl is.1)
    ∙ ap (λ b. cond b (Err OpenText) (Err BadByte)) (apart c 10 (c == 10) refl is.2)
foreign_at len (c ∷ d ∷ ds) is =
    ap (λ b. cond b (Ok (token Quoted (len + 2))) (cond (c == 10) (Err OpenText) (cond (c == 13 && d == 10) (Err OpenText) (Err BadByte)))) (apart c 34 (c == 34) refl is.1)
    ∙ ap (λ b. cond b (Err OpenText) (cond (c == 13 && d == 10) (Err OpenText) (Err BadByte))) (apart c 10 (c == 10) refl (λ e. is.2 (inl e)))
    ∙ ap (λ b. cond b (Err OpenText) (Err BadByte)) (ends_it c d ds (c == 13) (d == 10) refl refl is.2)

-- a lone return
lone_again : (bs : List ℕ) → (take 1 bs ≡ 10 ∷ [] → ⊥) → return_at bs ≡ Err BadByte
lone_again [] alone = refl
lone_again (c ∷ cs) alone = ap (λ b. cond b (Ok (line_break 2)) (Err BadByte)) (apart c 10 (c == 10) refl (λ e. alone (ap (λ x. x ∷ []) e)))

-- no sign
no_sign_again : (a : ℕ) (bs : List ℕ) → is_sign (take 1 (a ∷ bs)) ≡ false → is_sign (take 2 (a ∷ bs)) ≡ false → sign_at (a ∷ bs) ≡ Err BadByte
no_sign_again a [] one two = ap (λ b. cond (cond b 1 0 == 0) (Err BadByte) (Ok (token Sign (cond b 1 0)))) one
no_sign_again a (b ∷ bs) one two =
    ap (λ p. cond (cond p 2 (cond (is_sign_byte a) 1 0) == 0) (Err BadByte) (Ok (token Sign (cond p 2 (cond (is_sign_byte a) 1 0))))) two
    ∙ ap (λ b. cond (cond b 1 0 == 0) (Err BadByte) (Ok (token Sign (cond b 1 0)))) one

-- digits behind a point that are not all 0
decimals_again : (rest : List ℕ) → HasDecimals rest → fraction_len rest ≡ Err Fraction
unfolding fraction_len
decimals_again [] more = absurd more
decimals_again (c ∷ cs) more =
    let point : c == 46 ≡ true = ap (λ x. x == 46) more.0 in
    ap (λ b. cond b (cond (list_all is_zero (take (prefix_len is_digit cs) cs)) (Ok (1 + prefix_len is_digit cs)) (Err Fraction)) (Ok 0)) point
    ∙ ap (λ b. cond b (Ok (1 + prefix_len is_digit cs)) (Err Fraction)) more.1

no_decimals_by : (c : ℕ) (cs : List ℕ) (point zeros : Bool) → c == 46 ≡ point → list_all is_zero (take (prefix_len is_digit cs) cs) ≡ zeros → (HasDecimals (c ∷ cs) → ⊥)
    → (m : ℕ) × (cond point (cond zeros (Ok (1 + prefix_len is_digit cs)) (Err Fraction)) (Ok 0) ≡ Ok m)
no_decimals_by c cs true true e f none = (1 + prefix_len is_digit cs, refl)
no_decimals_by c cs true false e f none = absurd (none (eqb-true c 46 e, f))
no_decimals_by c cs false zeros e f none = (0, refl)

no_decimals : (rest : List ℕ) → (HasDecimals rest → ⊥) → (m : ℕ) × (fraction_len rest ≡ Ok m)
unfolding fraction_len
no_decimals [] none = (0, refl)
no_decimals (c ∷ cs) none = no_decimals_by c cs (c == 46) (list_all is_zero (take (prefix_len is_digit cs) cs)) refl refl none

number_split : (xs : List ℕ) → number_at xs ≡ with_fraction (fitting (value_of (digits_of xs))) (length (digits_of xs)) (fraction_len (past_digits xs))
number_split xs =
    ap number_at (sym (take-append-drop (prefix_len is_digit xs) xs)) ∙ number_is (digits_of xs) (past_digits xs) (run_passes is_digit xs) (run_stops is_digit xs)

-- a fault is found at the front
pub faulty_again : (kind : LexKind) (b : ℕ) (bs : List ℕ) → IsFaulty kind (b ∷ bs) → front_of (b ∷ bs) ≡ Err kind
faulty_again BadByte b bs (inl h) = ap (λ w. piece_at w b bs) h
faulty_again BadByte b bs (inr (inl h)) = ap (λ w. piece_at w b bs) h.0 ∙ lone_again bs h.1
faulty_again BadByte b bs (inr (inr (inl h))) = ap (λ w. piece_at w b bs) h.0 ∙ no_sign_again b bs h.1 h.2
faulty_again BadByte b bs (inr (inr (inr h))) = ap (λ w. piece_at w b bs) h.0.0 ∙ quoted_on bs h.0.1 ∙ foreign_at (prefix_len is_text_byte bs) (drop (prefix_len is_text_byte bs) bs) h.1
faulty_again Fraction b bs h =
    ap (λ w. piece_at w b bs) h.0 ∙ number_split (b ∷ bs)
    ∙ ap (with_fraction (fitting (value_of (digits_of (b ∷ bs)))) (length (digits_of (b ∷ bs)))) (decimals_again (past_digits (b ∷ bs)) h.1)
faulty_again TooWide b bs h =
    let none = no_decimals (past_digits (b ∷ bs)) h.1 in
    ap (λ w. piece_at w b bs) h.0 ∙ number_split (b ∷ bs)
    ∙ ap (λ c. with_fraction (cond c (Some (value_of (digits_of (b ∷ bs)))) None) (length (digits_of (b ∷ bs))) (fraction_len (past_digits (b ∷ bs)))) (le-ltb (value_of (digits_of (b ∷ bs))) (2 ^ 64) h.2)
    ∙ ap (with_fraction None (length (digits_of (b ∷ bs)))) none.1
faulty_again OpenText b bs h = ap (λ w. piece_at w b bs) h.0.0 ∙ quoted_on bs h.0.1 ∙ open_at (prefix_len is_text_byte bs) (drop (prefix_len is_text_byte bs) bs) h.1
faulty_again TooLong b bs (inl h) = ap (λ w. piece_at w b bs) h.0 ∙ name_long (b ∷ bs) h.1
faulty_again TooLong b bs (inr h) = ap (λ w. piece_at w b bs) h.0 ∙ quoted_long bs h.1
faulty_again OutOfMemory b bs h = absurd h
