-- What the first byte finds is the piece at the front, or what is wrong there.
use Rattle.std.proofs.Common.{◌≡◌, ℕ, suc, ◌+◌, ◌^◌, ◌≤◌, ◌⊎◌, List, [], ◌∷◌, ◌++◌, Bool, true, false, ◌&&◌, ◌||◌, cond, ◌==◌, nat_lt, take, drop, length, Some, None, Result, Ok, Err, refl, sym, ap, ◌∙◌, subst, arith, inl, inr, append_assoc}
use Rattle.std.specs.List.{list_all, prefix_len}
use Rattle.std.proofs.lemmas.Bool.{ltb-true, ltb-false, eqb-true, eqb-false}
use Rattle.std.proofs.lemmas.List.{length-append, take-append-drop}
use Rattle.std.proofs.lemmas.List.Folds.{length-prefix_len}
use Rattle.std.proofs.Math.Seq.{drop-append_seam}
use Rattle.sial_lexer.specs.Characters.{is_letter, is_digit, is_zero, is_word_byte, is_text_byte, is_within_line, is_blank, is_sign_byte, goes_before_equals, begins_sign, beginning_of, begins}
use Rattle.sial_lexer.specs.Faults.{IsFaulty, EndsLine, IsForeign, HasDecimals}
use Rattle.sial_lexer.specs.Pieces.{most_name, most_printed, Begins, IsRun, IsFraction, IsClosed, IsPiece, value_of, is_longer_sign}
use Rattle.sial_lexer.specs.Scanning.{front_of, piece_at, token, name_at, number_at, number_of, with_fraction, fraction_len, quoted_at, closed_at}
use Rattle.sial_lexer.specs.declared.beginning.Beginning.{Beginning}
use Rattle.sial_lexer.specs.declared.beginning.Beginning.TheVariants as first
use Rattle.sial_lexer.specs.declared.fault.LexKind.{LexKind}
use Rattle.sial_lexer.specs.declared.fault.LexKind.TheVariants.{BadByte, Fraction, OpenText, TooLong}
use Rattle.sial_lexer.specs.declared.piece.Piece.{Piece}
use Rattle.sial_lexer.specs.declared.piece.PieceKind.TheVariants as piece
use Rattle.sial_lexer.specs.declared.token.TokenKind.TheVariants.{Name, Quoted, Sign}
use Rattle.sial_lexer.proofs.NumberLemmas.{fitting, digits_are, past_are, number_is}
use Rattle.sial_lexer.proofs.RunLemmas.{run_passes, run_stops, run_is}

-- a piece at the front of a text, and what follows it
pub record Fronts (p : Piece) (bytes : List ℕ) : Type 0 where
  pub bytes_of : List ℕ
  pub after : List ℕ
  pub text : bytes ≡ bytes_of ++ after
  pub len : length bytes_of ≡ p.len
  pub is : IsPiece p.kind bytes_of after

-- an answer that is right of these bytes
abbrev pub IsRight : Result Piece LexKind → List ℕ → Type 0
IsRight (Ok p) bytes = Fronts p bytes
IsRight (Err kind) bytes = IsFaulty kind bytes

-- the test of the first byte that says what it begins
abbrev passed : Beginning → (l d q h s f r g : Bool) → Bool
passed first.Letter l d q h s f r g = l
passed first.Digit l d q h s f r g = d
passed first.Quote l d q h s f r g = q
passed first.Hash l d q h s f r g = h
passed first.Blank l d q h s f r g = s
passed first.LineFeed l d q h s f r g = f
passed first.Return l d q h s f r g = r
passed first.Sign l d q h s f r g = g
passed first.Nothing l d q h s f r g = true

first_passed : (l d q h s f r g : Bool) → passed (cond l first.Letter (cond d first.Digit (cond q first.Quote (cond h first.Hash (cond s first.Blank (cond f first.LineFeed (cond r first.Return (cond g first.Sign first.Nothing)))))))) l d q h s f r g ≡ true
first_passed true d q h s f r g = refl
first_passed false true q h s f r g = refl
first_passed false false true h s f r g = refl
first_passed false false false true s f r g = refl
first_passed false false false false true f r g = refl
first_passed false false false false false true r g = refl
first_passed false false false false false false true g = refl
first_passed false false false false false false false true = refl
first_passed false false false false false false false false = refl

-- what begins so has passed that test
pub begun : (what : Beginning) (b : ℕ) → beginning_of b ≡ what → passed what (is_letter b) (is_digit b) (b == 34) (b == 35) (is_blank b) (b == 10) (b == 13) (begins_sign b) ≡ true
begun what b h =
    subst (λ w. passed w (is_letter b) (is_digit b) (b == 34) (b == 35) (is_blank b) (b == 10) (b == 13) (begins_sign b) ≡ true) h
    (first_passed (is_letter b) (is_digit b) (b == 34) (b == 35) (is_blank b) (b == 10) (b == 13) (begins_sign b))

module _ (b : ℕ) (bs : List ℕ) where
  -- what begins with a byte of a class begins with it as far as the class goes on
  first_taken : (class : ℕ → Bool) (what : Beginning) → class b ≡ true → Begins what (b ∷ bs) → Begins what (take (prefix_len class (b ∷ bs)) (b ∷ bs))
  first_taken class what e h =
      let k : prefix_len class (b ∷ bs) ≡ suc (prefix_len class bs) = ap (λ c. cond c (1 + prefix_len class bs) 0) e ∙ omega arith in
      subst (λ n. Begins what (take n (b ∷ bs))) (sym k) h

  -- the run of a class at the front
  run_fronts : (class : ℕ → Bool) (p : Piece) → prefix_len class (b ∷ bs) ≡ p.len → (IsRun class (take (prefix_len class (b ∷ bs)) (b ∷ bs)) (drop (prefix_len class (b ∷ bs)) (b ∷ bs)) → IsPiece p.kind (take (prefix_len class (b ∷ bs)) (b ∷ bs)) (drop (prefix_len class (b ∷ bs)) (b ∷ bs))) → Fronts p (b ∷ bs)
  run_fronts class p len is = record {
    bytes_of = take (prefix_len class (b ∷ bs)) (b ∷ bs);
    after = drop (prefix_len class (b ∷ bs)) (b ∷ bs);
    text = sym (take-append-drop (prefix_len class (b ∷ bs)) (b ∷ bs));
    len = length-prefix_len class (b ∷ bs) ∙ len;
    is = is (run_passes class (b ∷ bs), run_stops class (b ∷ bs));
  }

  or_true : (x y : Bool) → x ≡ true → x || y ≡ true
  or_true true y e = refl
  or_true false y e = absurd cc

  name_right : (long : Bool) → nat_lt most_name (prefix_len is_word_byte (b ∷ bs)) ≡ long → beginning_of b ≡ first.Letter
      → IsRight (cond long (Err TooLong) (Ok (token Name (prefix_len is_word_byte (b ∷ bs))))) (b ∷ bs)
  name_right true e h = inl (h, ltb-true most_name (prefix_len is_word_byte (b ∷ bs)) e)
  name_right false e h =
      let letter : is_letter b ≡ true = begun first.Letter b h in
      run_fronts is_word_byte (token Name (prefix_len is_word_byte (b ∷ bs))) refl (λ run. (
        first_taken is_word_byte first.Letter (or_true (is_letter b) (is_digit b || b == 95) letter) h,
        run,
        omega (arith, ltb-false most_name (prefix_len is_word_byte (b ∷ bs)) e, length-prefix_len is_word_byte (b ∷ bs)),
      ))

  -- a name
  name_sound : beginning_of b ≡ first.Letter → IsRight (name_at (b ∷ bs)) (b ∷ bs)
  unfolding name_at
  name_sound h = name_right (nat_lt most_name (prefix_len is_word_byte (b ∷ bs))) refl h

  -- a comment
  comment_sound : beginning_of b ≡ first.Hash → IsRight (piece_at first.Hash b bs) (b ∷ bs)
  comment_sound h =
      let hash : b ≡ 35 = eqb-true b 35 (begun first.Hash b h) in
      run_fronts is_within_line (record { kind = piece.Comment; len = prefix_len is_within_line (b ∷ bs) }) refl (λ run. (first_taken is_within_line first.Hash (ap is_within_line hash) h, run))

  -- a blank
  blank_sound : beginning_of b ≡ first.Blank → IsRight (piece_at first.Blank b bs) (b ∷ bs)
  blank_sound h = record { bytes_of = b ∷ []; after = bs; text = refl; len = refl; is = (h, refl) }

  -- a line feed
  feed_sound : beginning_of b ≡ first.LineFeed → IsRight (piece_at first.LineFeed b bs) (b ∷ bs)
  feed_sound h =
      let feed : b ≡ 10 = eqb-true b 10 (begun first.LineFeed b h) in
      record { bytes_of = b ∷ []; after = bs; text = refl; len = refl; is = inl (ap (λ c. c ∷ []) feed) }

-- a carriage return before a byte
return_before : (b c : ℕ) (cs : List ℕ) (feed : Bool) → c == 10 ≡ feed → b ≡ 13 → beginning_of b ≡ first.Return → IsRight (cond feed (Ok (record { kind = piece.LineBreak; len = 2 })) (Err BadByte)) (b ∷ c ∷ cs)
return_before b c cs true e is h = record { bytes_of = b ∷ c ∷ []; after = cs; text = refl; len = refl; is = inr (ap (λ x. x ∷ c ∷ []) is ∙ ap (λ x. 13 ∷ x ∷ []) (eqb-true c 10 e)) }
return_before b c cs false e is h = inr (inl (h, λ same. let q : c ≡ 10 = cc in eqb-false c 10 e q))

return_sound : (b : ℕ) (bs : List ℕ) → beginning_of b ≡ first.Return → IsRight (piece_at first.Return b bs) (b ∷ bs)
return_sound b [] h = inr (inl (h, λ same. absurd cc))
return_sound b (c ∷ cs) h = return_before b c cs (c == 10) refl (eqb-true b 13 (begun first.Return b h)) h

-- the longest sign
sign_one : (a : ℕ) (single : Bool) → is_sign_byte a ≡ single → beginning_of a ≡ first.Sign → IsRight (cond (cond single 1 0 == 0) (Err BadByte) (Ok (token Sign (cond single 1 0)))) (a ∷ [])
sign_one a true e h = record { bytes_of = a ∷ []; after = []; text = refl; len = refl; is = (h, e, refl) }
sign_one a false e h = inr (inr (inl (h, e, e)))

no_longer : (a b : ℕ) (bs : List ℕ) → is_longer_sign (a ∷ b ∷ []) bs ≡ false
no_longer a b [] = refl
no_longer a b (c ∷ cs) = refl

sign_two : (a b : ℕ) (bs : List ℕ) (pair single : Bool) → goes_before_equals a && b == 61 ≡ pair → is_sign_byte a ≡ single → beginning_of a ≡ first.Sign
    → IsRight (cond (cond pair 2 (cond single 1 0) == 0) (Err BadByte) (Ok (token Sign (cond pair 2 (cond single 1 0))))) (a ∷ b ∷ bs)
sign_two a b bs true single e f h = record { bytes_of = a ∷ b ∷ []; after = bs; text = refl; len = refl; is = (h, e, no_longer a b bs) }
sign_two a b bs false true e f h = record { bytes_of = a ∷ []; after = b ∷ bs; text = refl; len = refl; is = (h, f, e) }
sign_two a b bs false false e f h = inr (inr (inl (h, f, e)))

sign_sound : (a : ℕ) (bs : List ℕ) → beginning_of a ≡ first.Sign → IsRight (piece_at first.Sign a bs) (a ∷ bs)
sign_sound a [] h = sign_one a (is_sign_byte a) refl h
sign_sound a (b ∷ bs) h = sign_two a b bs (goes_before_equals a && b == 61) (is_sign_byte a) refl refl h

-- text bytes and the closing mark
closed : (front : List ℕ) → list_all is_text_byte front ≡ true → length front ≤ most_printed → IsClosed (front ++ 34 ∷ [])
closed front all few =
    let k : prefix_len is_text_byte (front ++ 34 ∷ []) ≡ length front = run_is is_text_byte front (34 ∷ []) all refl in
    (subst (λ n. n ≤ most_printed) (sym k) few, ap (λ n. drop n (front ++ 34 ∷ [])) k ∙ drop-append_seam front (34 ∷ []))

-- a text behind its opening mark
module _ (b : ℕ) (bs : List ℕ) (h : beginning_of b ≡ first.Quote) where
  mark : b ≡ 34
  mark = eqb-true b 34 (begun first.Quote b h)

  -- it is closed
  mark_right : (c : ℕ) (cs : List ℕ) → drop (prefix_len is_text_byte bs) bs ≡ c ∷ cs → prefix_len is_text_byte bs ≤ most_printed → c == 34 ≡ true → IsRight (Ok (token Quoted (prefix_len is_text_byte bs + 2))) (b ∷ bs)
  mark_right c cs rest few e =
      let n = prefix_len is_text_byte bs in
      let front : List ℕ = take n bs in
      let long : length front ≡ n = length-prefix_len is_text_byte bs in
      let split : front ++ (c ∷ cs) ≡ bs = ap (λ r. front ++ r) (sym rest) ∙ take-append-drop n bs in
      let marked : front ++ (34 ∷ cs) ≡ bs = ap (λ x. front ++ (x ∷ cs)) (sym (eqb-true c 34 e)) ∙ split in
      record {
        bytes_of = b ∷ (front ++ 34 ∷ []);
        after = cs;
        text = ap (λ r. b ∷ r) (sym marked ∙ sym (append_assoc front (34 ∷ []) cs));
        len = omega (arith, length-append front (34 ∷ []), long);
        is = (mark, closed front (run_passes is_text_byte bs) (omega (arith, long)));
      }

  -- it isn't closed on its line
  open_right : (c : ℕ) (cs : List ℕ) → drop (prefix_len is_text_byte bs) bs ≡ c ∷ cs → prefix_len is_text_byte bs ≤ most_printed → EndsLine (c ∷ cs) → IsRight (Err OpenText) (b ∷ bs)
  open_right c cs rest few ends = ((h, few), subst EndsLine (sym rest) ends)

  -- it has a byte that no text has
  foreign_right : (c : ℕ) (cs : List ℕ) → drop (prefix_len is_text_byte bs) bs ≡ c ∷ cs → prefix_len is_text_byte bs ≤ most_printed → (is_text_byte c ≡ false → IsForeign (c ∷ cs)) → IsRight (Err BadByte) (b ∷ bs)
  foreign_right c cs rest few foreign =
      let stop : is_text_byte c ≡ false = subst (λ r. begins is_text_byte r ≡ false) rest (run_stops is_text_byte bs) in
      inr (inr (inr ((h, few), subst IsForeign (sym rest) (foreign stop))))

  last_right : (c : ℕ) (is_mark is_feed : Bool) → c == 34 ≡ is_mark → c == 10 ≡ is_feed → drop (prefix_len is_text_byte bs) bs ≡ c ∷ [] → prefix_len is_text_byte bs ≤ most_printed
      → IsRight (cond is_mark (Ok (token Quoted (prefix_len is_text_byte bs + 2))) (cond is_feed (Err OpenText) (Err BadByte))) (b ∷ bs)
  last_right c true feed e f rest few = mark_right c [] rest few e
  last_right c false true e f rest few = open_right c [] rest few (eqb-true c 10 f)
  last_right c false false e f rest few = foreign_right c [] rest few (λ stop. (stop, eqb-false c 34 e, eqb-false c 10 f))

  both_true : (x y : Bool) → x && y ≡ true → (x ≡ true) × (y ≡ true)
  both_true true y e = (refl, e)
  both_true false y e = absurd cc

  neither : (c d : ℕ) → c == 10 ≡ false → c == 13 && d == 10 ≡ false → (c ≡ 10) ⊎ ((c ≡ 13) × (d ≡ 10)) → ⊥
  neither c d f g (inl is) = eqb-false c 10 f is
  neither c d f g (inr is) =
      let one : c == 13 ≡ true = ap (λ x. x == 13) is.0 in
      let two : d == 10 ≡ true = ap (λ x. x == 10) is.1 in
      absurd (cc (ap (λ x. x && d == 10) one, two))

  more_right : (c d : ℕ) (ds : List ℕ) (is_mark is_feed is_return : Bool) → c == 34 ≡ is_mark → c == 10 ≡ is_feed → c == 13 && d == 10 ≡ is_return → drop (prefix_len is_text_byte bs) bs ≡ c ∷ d ∷ ds → prefix_len is_text_byte bs ≤ most_printed
      → IsRight (cond is_mark (Ok (token Quoted (prefix_len is_text_byte bs + 2))) (cond is_feed (Err OpenText) (cond is_return (Err OpenText) (Err BadByte)))) (b ∷ bs)
  more_right c d ds true feed return e f g rest few = mark_right c (d ∷ ds) rest few e
  more_right c d ds false true return e f g rest few = open_right c (d ∷ ds) rest few (inl (eqb-true c 10 f))
  more_right c d ds false false true e f g rest few =
      let both = both_true (c == 13) (d == 10) g in
      open_right c (d ∷ ds) rest few (inr (eqb-true c 13 both.0, eqb-true d 10 both.1))
  more_right c d ds false false false e f g rest few = foreign_right c (d ∷ ds) rest few (λ stop. (stop, eqb-false c 34 e, neither c d f g))

  closed_right : (rest : List ℕ) → drop (prefix_len is_text_byte bs) bs ≡ rest → prefix_len is_text_byte bs ≤ most_printed → IsRight (closed_at (prefix_len is_text_byte bs) rest) (b ∷ bs)
  closed_right [] rest few = ((h, few), subst EndsLine (sym rest) tt)
  closed_right (c ∷ []) rest few = last_right c (c == 34) (c == 10) refl refl rest few
  closed_right (c ∷ d ∷ ds) rest few = more_right c d ds (c == 34) (c == 10) (c == 13 && d == 10) refl refl refl rest few

  quoted_right : (long : Bool) → nat_lt most_printed (prefix_len is_text_byte bs) ≡ long → IsRight (cond long (Err TooLong) (closed_at (prefix_len is_text_byte bs) (drop (prefix_len is_text_byte bs) bs))) (b ∷ bs)
  quoted_right true e = inr (h, ltb-true most_printed (prefix_len is_text_byte bs) e)
  quoted_right false e = closed_right (drop (prefix_len is_text_byte bs) bs) refl (ltb-false most_printed (prefix_len is_text_byte bs) e)

  quoted_sound : IsRight (quoted_at bs) (b ∷ bs)
  unfolding quoted_at
  quoted_sound = quoted_right (nat_lt most_printed (prefix_len is_text_byte bs)) refl

begins_more : (what : Beginning) (xs ys : List ℕ) → Begins what xs → Begins what (xs ++ ys)
begins_more what [] ys h = absurd h
begins_more what (x ∷ xs) ys h = h

-- digits, a fraction and what follows
module _ (digits frac after : List ℕ) (all : list_all is_digit digits ≡ true) (starts : Begins first.Digit digits) (stop : begins is_digit frac ≡ false) (stops : begins is_digit (frac ++ after) ≡ false) where
  fit : (fits : Bool) (len : ℕ) → nat_lt (value_of digits) (2 ^ 64) ≡ fits → IsFraction frac after → (HasDecimals (frac ++ after) → ⊥) → length digits + length frac ≡ len
      → IsRight (number_of (cond fits (Some (value_of digits)) None) len) (digits ++ (frac ++ after))
  fit true len e is none long = record {
    bytes_of = digits ++ frac;
    after = after;
    text = sym (append_assoc digits frac after);
    len = length-append digits frac ∙ long;
    is = (begins_more first.Digit digits frac starts, (ap value_of (digits_are digits frac all stop), ltb-true (value_of digits) (2 ^ 64) e, subst (λ f. IsFraction f after) (sym (past_are digits frac all stop)) is));
  }
  fit false len e is none long =
      (begins_more first.Digit digits (frac ++ after) starts, λ more. none (subst HasDecimals (past_are digits (frac ++ after) all stops) more), omega (arith, ltb-false (value_of digits) (2 ^ 64) e, ap value_of (digits_are digits (frac ++ after) all stops)))

both_false : (x y : Bool) → x ≡ false → y ≡ false → x || y ≡ false
both_false false y e f = f
both_false true y e f = absurd cc

module _ (digits : List ℕ) (all : list_all is_digit digits ≡ true) (starts : Begins first.Digit digits) where
  point_right : (c : ℕ) (cs : List ℕ) (point zeros : Bool) → c == 46 ≡ point → list_all is_zero (take (prefix_len is_digit cs) cs) ≡ zeros → is_digit c ≡ false
      → IsRight (with_fraction (fitting (value_of digits)) (length digits) (cond point (cond zeros (Ok (1 + prefix_len is_digit cs)) (Err Fraction)) (Ok 0))) (digits ++ (c ∷ cs))
  point_right c cs true true e f stop =
      let m = prefix_len is_digit cs in
      let split : take m cs ++ drop m cs ≡ cs = take-append-drop m cs in
      subst (λ r. IsRight (number_of (fitting (value_of digits)) (length digits + (1 + m))) (digits ++ (c ∷ r))) split
      (fit digits (c ∷ take m cs) (drop m cs) all starts stop stop (nat_lt (value_of digits) (2 ^ 64)) (length digits + (1 + m)) refl
      (eqb-true c 46 e, f, run_stops is_digit cs)
      (λ more. absurd (cc (more.1, f)))
      (omega (arith, length-prefix_len is_digit cs)))
  point_right c cs true false e f stop = (begins_more first.Digit digits (c ∷ cs) starts, subst HasDecimals (sym (past_are digits (c ∷ cs) all stop)) (eqb-true c 46 e, f))
  point_right c cs false zeros e f stop =
      fit digits [] (c ∷ cs) all starts refl stop (nat_lt (value_of digits) (2 ^ 64)) (length digits + 0) refl (both_false (is_digit c) (c == 46) stop e) (λ more. eqb-false c 46 e more.0) refl

  rest_right : (rest : List ℕ) → begins is_digit rest ≡ false → IsRight (with_fraction (fitting (value_of digits)) (length digits) (fraction_len rest)) (digits ++ rest)
  unfolding fraction_len
  rest_right [] stop = fit digits [] [] all starts refl refl (nat_lt (value_of digits) (2 ^ 64)) (length digits + 0) refl refl (λ more. more) refl
  rest_right (c ∷ cs) stop = point_right c cs (c == 46) (list_all is_zero (take (prefix_len is_digit cs) cs)) refl refl stop

  number_right : (rest : List ℕ) → begins is_digit rest ≡ false → IsRight (number_at (digits ++ rest)) (digits ++ rest)
  number_right rest stop = subst (λ r. IsRight r (digits ++ rest)) (sym (number_is digits rest all stop)) (rest_right rest stop)

number_sound : (b : ℕ) (bs : List ℕ) → beginning_of b ≡ first.Digit → IsRight (number_at (b ∷ bs)) (b ∷ bs)
number_sound b bs h =
    let n = prefix_len is_digit (b ∷ bs) in
    subst (λ t. IsRight (number_at t) t) (take-append-drop n (b ∷ bs))
    (number_right (take n (b ∷ bs)) (run_passes is_digit (b ∷ bs)) (first_taken b bs is_digit first.Digit (begun first.Digit b h) h) (drop n (b ∷ bs)) (run_stops is_digit (b ∷ bs)))

by_beginning : (what : Beginning) (b : ℕ) (bs : List ℕ) → beginning_of b ≡ what → IsRight (piece_at what b bs) (b ∷ bs)
by_beginning first.Letter b bs h = name_sound b bs h
by_beginning first.Digit b bs h = number_sound b bs h
by_beginning first.Quote b bs h = quoted_sound b bs h
by_beginning first.Hash b bs h = comment_sound b bs h
by_beginning first.Blank b bs h = blank_sound b bs h
by_beginning first.LineFeed b bs h = feed_sound b bs h
by_beginning first.Return b bs h = return_sound b bs h
by_beginning first.Sign b bs h = sign_sound b bs h
by_beginning first.Nothing b bs h = inl h

-- the front of a text that isn't empty is right
pub front_right : (b : ℕ) (bs : List ℕ) → IsRight (front_of (b ∷ bs)) (b ∷ bs)
front_right b bs = by_beginning (beginning_of b) b bs refl
