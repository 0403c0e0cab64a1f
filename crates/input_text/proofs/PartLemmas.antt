-- What the first byte finds is the part at the front, and each part at the front is found.
use Rattle.std.proofs.Common.{◌≡◌, ℕ, zero, suc, ◌+◌, ◌<◌, ◌≤◌, List, [], ◌∷◌, ◌++◌, Bool, true, false, ◌&&◌, ◌||◌, cond, ◌==◌, nat_lt, take, drop, length, Option, Some, None, Ok, Err, refl, sym, ap, ◌∙◌, subst, arith, inl, inr}
use Rattle.std.specs.List.{list_all, prefix_len}
use Rattle.std.proofs.lemmas.Bool.{le-ltb, eqb-true}
use Rattle.std.proofs.lemmas.List.{length-append, take-append-drop, length-take-le}
use Rattle.std.proofs.lemmas.List.Folds.{length-prefix_len}
use Rattle.std.proofs.Math.Seq.{take-append_seam, drop-append_seam}
use Rattle.sial_lexer.specs.Characters.{is_digit, is_digit_or_point, is_word_byte, is_within_line, goes_before_equals, beginning_of, begins, folded}
use Rattle.sial_lexer.specs.Pieces.{most_name, Begins, value_of, is_longer_sign}
use Rattle.sial_lexer.specs.Scanning as lexer
use Rattle.sial_lexer.specs.Scanning.{name_at}
use Rattle.sial_lexer.specs.declared.beginning.Beginning.{Beginning}
use Rattle.sial_lexer.specs.declared.beginning.Beginning.TheVariants as first
use Rattle.sial_lexer.specs.declared.fault.LexKind.TheVariants.{TooLong}
use Rattle.sial_lexer.specs.declared.token.TokenKind.TheVariants as token
use Rattle.sial_lexer.proofs.FrontLemmas.{IsRight, front_right, begun}
use Rattle.sial_lexer.proofs.NumberLemmas.{value_read}
use Rattle.sial_lexer.proofs.RunLemmas.{run_passes, run_stops, run_is}
use Rattle.input_text.specs.Parts.{gap, sign, name_part, number_part, return_part, part_by, part_at, is_point, is_equals}
use Rattle.input_text.specs.Words.{IsPart, IsWord, IsGap, fitting}
use Rattle.input_text.specs.declared.word.Part.{Part}
use Rattle.input_text.specs.declared.word.Word.{Word}
use Rattle.input_text.specs.declared.word.Word.TheVariants.{Name, Number, Equals, Minus}

and_false : (x : Bool) → x && false ≡ false
and_false true = refl
and_false false = refl

or_false : (x y : Bool) → x || y ≡ false → (x ≡ false) × (y ≡ false)
or_false true y e = absurd cc
or_false false y e = (refl, e)

-- a part at the front of a text, and what follows it
pub record Fronts (p : Part) (bytes : List ℕ) : Type 0 where
  pub bytes_of : List ℕ
  pub after : List ℕ
  pub text : bytes ≡ bytes_of ++ after
  pub len : length bytes_of ≡ p.len
  pub is : IsPart p.word bytes_of after

-- an answer that is right of these bytes, where it gives a part
abbrev pub IsSound : Option Part → List ℕ → Type 0
IsSound (Some p) bytes = Fronts p bytes
IsSound None bytes = Unit {0}

-- a name: its bytes are those that the lexer takes
name_by : (b : ℕ) (bs : List ℕ) (long : Bool) → nat_lt most_name (prefix_len is_word_byte (b ∷ bs)) ≡ long
    → IsRight (cond long (Err TooLong) (Ok (lexer.token token.Name (prefix_len is_word_byte (b ∷ bs))))) (b ∷ bs)
    → IsSound (cond long None (Some (record { word = Some (Name (folded (take (prefix_len is_word_byte (b ∷ bs)) (b ∷ bs)))); len = prefix_len is_word_byte (b ∷ bs) }))) (b ∷ bs)
name_by b bs true e h = tt
name_by b bs false e h =
    let n = prefix_len is_word_byte (b ∷ bs) in
    let same : take n (b ∷ bs) ≡ h.bytes_of = ap (λ t. take n t) h.text ∙ ap (λ m. take m (h.bytes_of ++ h.after)) (sym h.len) ∙ take-append_seam h.bytes_of h.after in
    record { bytes_of = h.bytes_of; after = h.after; text = h.text; len = h.len; is = (h.is, ap folded same) }

name_sound : (b : ℕ) (bs : List ℕ) → IsRight (name_at (b ∷ bs)) (b ∷ bs) → IsSound (name_part (b ∷ bs)) (b ∷ bs)
unfolding name_at name_part
name_sound b bs h = name_by b bs (nat_lt most_name (prefix_len is_word_byte (b ∷ bs))) refl h

-- a number: digits with no point behind them
neither : (after : List ℕ) → begins is_digit after ≡ false → begins is_point after ≡ false → begins is_digit_or_point after ≡ false
neither [] e f = refl
neither (c ∷ cs) e f = ap (λ d. d || c == 46) e ∙ f

module _ (b : ℕ) (bs : List ℕ) where
  taken_first : is_digit b ≡ true → beginning_of b ≡ first.Digit → Begins first.Digit (take (prefix_len is_digit (b ∷ bs)) (b ∷ bs))
  taken_first e h =
      let k : prefix_len is_digit (b ∷ bs) ≡ suc (prefix_len is_digit bs) = ap (λ c. cond c (1 + prefix_len is_digit bs) 0) e ∙ omega arith in
      subst (λ n. Begins first.Digit (take n (b ∷ bs))) (sym k) h

  number_by : (point : Bool) → begins is_point (drop (prefix_len is_digit (b ∷ bs)) (b ∷ bs)) ≡ point → beginning_of b ≡ first.Digit
      → IsSound (cond point None (Some (record { word = Some (Number (lexer.value_in 0 (take (prefix_len is_digit (b ∷ bs)) (b ∷ bs)))); len = prefix_len is_digit (b ∷ bs) }))) (b ∷ bs)
  number_by true e h = tt
  number_by false e h =
      let n = prefix_len is_digit (b ∷ bs) in
      record {
        bytes_of = take n (b ∷ bs);
        after = drop n (b ∷ bs);
        text = sym (take-append-drop n (b ∷ bs));
        len = length-prefix_len is_digit (b ∷ bs);
        is = ((taken_first (begun first.Digit b h) h, run_passes is_digit (b ∷ bs), neither (drop n (b ∷ bs)) (run_stops is_digit (b ∷ bs)) e), value_read (take n (b ∷ bs)) 0 (omega arith));
      }

  number_sound : beginning_of b ≡ first.Digit → IsSound (number_part (b ∷ bs)) (b ∷ bs)
  unfolding number_part
  number_sound h = number_by (begins is_point (drop (prefix_len is_digit (b ∷ bs)) (b ∷ bs))) refl h

-- a carriage return
return_by : (b c : ℕ) (cs : List ℕ) (feed : Bool) → c == 10 ≡ feed → b ≡ 13 → IsSound (cond feed (gap 2) None) (b ∷ c ∷ cs)
return_by b c cs true e is = record {
  bytes_of = b ∷ c ∷ [];
  after = cs;
  text = refl;
  len = refl;
  is = inr (inr (inr (ap (λ x. x ∷ c ∷ []) is ∙ ap (λ x. 13 ∷ x ∷ []) (eqb-true c 10 e))));
}
return_by b c cs false e is = tt

return_sound : (b : ℕ) (bs : List ℕ) → beginning_of b ≡ first.Return → IsSound (return_part bs) (b ∷ bs)
return_sound b [] h = tt
return_sound b (c ∷ cs) h = return_by b c cs (c == 10) refl (eqb-true b 13 (begun first.Return b h))

-- a sign that doesn't go on
not_longer : (after : List ℕ) (b : ℕ) → begins is_equals after ≡ false → is_longer_sign (b ∷ []) after ≡ false
not_longer [] b e = refl
not_longer (c ∷ cs) b e = ap (λ x. goes_before_equals b && x) e ∙ and_false (goes_before_equals b)

sign_is : (word : Word) (code b : ℕ) (bs : List ℕ) → b ≡ code → IsWord word (code ∷ []) bs → IsSound (sign word) (b ∷ bs)
sign_is word code b bs same is = record { bytes_of = code ∷ []; after = bs; text = ap (λ x. x ∷ bs) same; len = refl; is = is }

sign_by : (b : ℕ) (bs : List ℕ) (longer equals minus : Bool) → begins is_equals bs ≡ longer → b == 61 ≡ equals → b == 45 ≡ minus
    → IsSound (cond longer None (cond equals (sign Equals) (cond minus (sign Minus) None))) (b ∷ bs)
sign_by b bs true equals minus e f g = tt
sign_by b bs false true minus e f g = sign_is Equals 61 b bs (eqb-true b 61 f) ((refl, refl, not_longer bs 61 e), refl)
sign_by b bs false false true e f g = sign_is Minus 45 b bs (eqb-true b 45 g) ((refl, refl, not_longer bs 45 e), refl)
sign_by b bs false false false e f g = tt

-- by what the first byte begins
by_beginning : (what : Beginning) (b : ℕ) (bs : List ℕ) → beginning_of b ≡ what → IsRight (lexer.piece_at what b bs) (b ∷ bs) → IsSound (part_by what b bs) (b ∷ bs)
by_beginning first.Letter b bs h right = name_sound b bs right
by_beginning first.Digit b bs h right = number_sound b bs h
by_beginning first.Quote b bs h right = tt
by_beginning first.Hash b bs h right = record { bytes_of = right.bytes_of; after = right.after; text = right.text; len = right.len; is = inr (inl right.is) }
by_beginning first.Blank b bs h right = record { bytes_of = right.bytes_of; after = right.after; text = right.text; len = right.len; is = inl right.is }
by_beginning first.LineFeed b bs h right = record { bytes_of = right.bytes_of; after = right.after; text = right.text; len = right.len; is = inr (inr right.is) }
by_beginning first.Return b bs h right = return_sound b bs h
by_beginning first.Sign b bs h right = sign_by b bs (begins is_equals bs) (b == 61) (b == 45) refl refl refl
by_beginning first.Nothing b bs h right = tt

-- the part at the front is one
pub front_sound : (b : ℕ) (bs : List ℕ) → IsSound (part_at (b ∷ bs)) (b ∷ bs)
front_sound b bs = by_beginning (beginning_of b) b bs refl (front_right b bs)

-- the same, cut off by its length
pub cut_off : (p : Part) (bytes : List ℕ) → Fronts p bytes → (p.len ≤ length bytes) × IsPart p.word (take p.len bytes) (drop p.len bytes)
cut_off p bytes f =
    let front : take p.len bytes ≡ f.bytes_of = ap (λ t. take p.len t) f.text ∙ ap (λ n. take n (f.bytes_of ++ f.after)) (sym f.len) ∙ take-append_seam f.bytes_of f.after in
    let back : drop p.len bytes ≡ f.after = ap (λ t. drop p.len t) f.text ∙ ap (λ n. drop n (f.bytes_of ++ f.after)) (sym f.len) ∙ drop-append_seam f.bytes_of f.after in (
      omega (arith, f.len, ap length f.text, length-append f.bytes_of f.after),
      subst (λ (xs : List ℕ). IsPart p.word xs (drop p.len bytes)) (sym front) (subst (λ (xs : List ℕ). IsPart p.word f.bytes_of xs) (sym back) f.is),
    )

-- the part of so many bytes
abbrev found : Option Word → ℕ → Option Part
found word len = Some (record { word = word; len = len })

-- a name of just these bytes
name_again : (xs after : List ℕ) → list_all is_word_byte xs ≡ true → begins is_word_byte after ≡ false → length xs ≤ most_name → name_part (xs ++ after) ≡ found (Some (Name (folded xs))) (length xs)
unfolding name_part
name_again xs after all stop few =
    ap (λ n. cond (nat_lt most_name n) None (found (Some (Name (folded (take n (xs ++ after))))) n)) (run_is is_word_byte xs after all stop)
    ∙ ap (λ b. cond b None (found (Some (Name (folded (take (length xs) (xs ++ after))))) (length xs))) (le-ltb most_name (length xs) few)
    ∙ ap (λ ys. found (Some (Name (folded ys))) (length xs)) (take-append_seam xs after)

-- a number of just these digits
no_digit : (after : List ℕ) → begins is_digit_or_point after ≡ false → begins is_digit after ≡ false
no_digit [] e = refl
no_digit (c ∷ cs) e = (or_false (is_digit c) (c == 46) e).0

no_point : (after : List ℕ) → begins is_digit_or_point after ≡ false → begins is_point after ≡ false
no_point [] e = refl
no_point (c ∷ cs) e = (or_false (is_digit c) (c == 46) e).1

number_again : (xs after : List ℕ) → list_all is_digit xs ≡ true → begins is_digit_or_point after ≡ false → number_part (xs ++ after) ≡ found (Some (Number (fitting (value_of xs)))) (length xs)
unfolding number_part
number_again xs after all stop =
    ap (λ n. cond (begins is_point (drop n (xs ++ after))) None (found (Some (Number (lexer.value_in 0 (take n (xs ++ after))))) n)) (run_is is_digit xs after all (no_digit after stop))
    ∙ ap (λ ys. cond (begins is_point ys) None (found (Some (Number (lexer.value_in 0 (take (length xs) (xs ++ after))))) (length xs))) (drop-append_seam xs after)
    ∙ ap (λ b. cond b None (found (Some (Number (lexer.value_in 0 (take (length xs) (xs ++ after))))) (length xs))) (no_point after stop)
    ∙ ap (λ ys. found (Some (Number (lexer.value_in 0 ys))) (length xs)) (take-append_seam xs after)
    ∙ ap (λ v. found (Some (Number v)) (length xs)) (value_read xs 0 (omega arith))

-- a sign again
stops : (after : List ℕ) (b : ℕ) → goes_before_equals b ≡ true → is_longer_sign (b ∷ []) after ≡ false → begins is_equals after ≡ false
stops [] b g e = refl
stops (c ∷ cs) b g e = sym (ap (λ x. x && c == 61) g) ∙ e

equals_again : (after : List ℕ) → is_longer_sign (61 ∷ []) after ≡ false → part_at (61 ∷ after) ≡ sign Equals
equals_again after e = ap (λ b. cond b None (sign Equals)) (stops after 61 refl e)

minus_again : (after : List ℕ) → is_longer_sign (45 ∷ []) after ≡ false → part_at (45 ∷ after) ≡ sign Minus
minus_again after e = ap (λ b. cond b None (sign Minus)) (stops after 45 refl e)

-- a part is found at the front
word_again : (word : Word) (xs after : List ℕ) → IsWord word xs after → part_at (xs ++ after) ≡ found (Some word) (length xs)
word_again (Name name) [] after is = absurd is.0.0
word_again (Name name) (b ∷ bs) after is =
    ap (λ w. part_by w b (bs ++ after)) is.0.0 ∙ name_again (b ∷ bs) after is.0.1.0 is.0.1.1 is.0.2
    ∙ ap (λ n. found (Some (Name n)) (length (b ∷ bs))) (sym is.1)
word_again (Number number) [] after is = absurd is.0.0
word_again (Number number) (b ∷ bs) after is =
    ap (λ w. part_by w b (bs ++ after)) is.0.0 ∙ number_again (b ∷ bs) after is.0.1 is.0.2
    ∙ ap (λ n. found (Some (Number n)) (length (b ∷ bs))) (sym is.1)
word_again Equals xs after is = subst (λ ys. is_longer_sign ys after ≡ false → part_at (ys ++ after) ≡ found (Some Equals) (length ys)) (sym is.1) (equals_again after) is.0.2
word_again Minus xs after is = subst (λ ys. is_longer_sign ys after ≡ false → part_at (ys ++ after) ≡ found (Some Minus) (length ys)) (sym is.1) (minus_again after) is.0.2

gap_again : (xs after : List ℕ) → IsGap xs after → part_at (xs ++ after) ≡ found None (length xs)
gap_again [] after (inl is) = absurd is.0
gap_again (b ∷ []) after (inl is) = ap (λ w. part_by w b after) is.0
gap_again (b ∷ c ∷ cs) after (inl is) = absurd (omega (arith, is.1))
gap_again [] after (inr (inl is)) = absurd is.0
gap_again (b ∷ bs) after (inr (inl is)) = ap (λ w. part_by w b (bs ++ after)) is.0 ∙ ap (found None) (run_is is_within_line (b ∷ bs) after is.1.0 is.1.1)
gap_again xs after (inr (inr (inl is))) = subst (λ ys. part_at (ys ++ after) ≡ found None (length ys)) (sym is) refl
gap_again xs after (inr (inr (inr is))) = subst (λ ys. part_at (ys ++ after) ≡ found None (length ys)) (sym is) refl

part_again : (word : Option Word) (xs after : List ℕ) → IsPart word xs after → part_at (xs ++ after) ≡ found word (length xs)
part_again (Some word) xs after is = word_again word xs after is
part_again None xs after is = gap_again xs after is

-- a part that is cut off is found
pub found_again : (p : Part) (bytes : List ℕ) → p.len ≤ length bytes → IsPart p.word (take p.len bytes) (drop p.len bytes) → part_at bytes ≡ Some p
found_again p bytes few is =
    ap part_at (sym (take-append-drop p.len bytes)) ∙ part_again p.word (take p.len bytes) (drop p.len bytes) is ∙ ap (λ n. found p.word n) (length-take-le p.len bytes few)

-- no part is empty
empty_word : (word : Word) (after : List ℕ) → IsWord word [] after → ⊥
empty_word (Name name) after is = is.0.0
empty_word (Number number) after is = is.0.0
empty_word Equals after is = is.0.0
empty_word Minus after is = is.0.0

empty_part : (word : Option Word) (after : List ℕ) → IsPart word [] after → ⊥
empty_part (Some word) after is = empty_word word after is
empty_part None after (inl is) = is.0
empty_part None after (inr (inl is)) = is.0
empty_part None after (inr (inr (inl is))) = absurd cc
empty_part None after (inr (inr (inr is))) = absurd cc

pub has_bytes : (word : Option Word) (len : ℕ) (bytes : List ℕ) → IsPart word (take len bytes) (drop len bytes) → 0 < len
has_bytes word zero bytes is = absurd (empty_part word bytes is)
has_bytes word (suc n) bytes is = omega arith
