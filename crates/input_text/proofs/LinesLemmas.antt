-- The first line of a text, and one turn of the loop over lines.
use Rattle.std.proofs.Common.{◌≡◌, ℕ, suc, ◌+◌, ◌<◌, List, [], ◌∷◌, Bool, true, false, cond, ◌==◌, nat_lt, not, take, drop, length, Result, Ok, Err, refl, sym, ap, ◌∙◌, subst, arith}
use Rattle.std.specs.List.{prefix_len}
use Rattle.sial_lexer.specs.Characters.{is_within_line}
use Rattle.input_text.specs.LineReading.{line_len, after_line, add_lines, Fails}
use Rattle.input_text.specs.Lines.{lines_of, before}
use Rattle.input_text.specs.declared.fault.InputFault.{InputFault}
use Rattle.input_text.specs.declared.fault.InputFault.TheVariants as fault
use Rattle.std.proofs.lemmas.Bool.{lt-ltb, le-ltb, ltb-true, ltb-false}

-- the length of a line with one more byte before it
longer : (p n : ℕ) (less : Bool) → nat_lt p n ≡ less → cond (nat_lt (1 + p) (suc n)) (1 + p + 1) (1 + p) ≡ suc (cond less (p + 1) p)
longer p n true e =
    let one : 1 + p + 1 ≡ suc (p + 1) = omega arith in
    ap (λ b. cond b (1 + p + 1) (1 + p)) (lt-ltb (1 + p) (suc n) (omega (arith, ltb-true p n e))) ∙ one
longer p n false e =
    let one : 1 + p ≡ suc p = omega arith in
    ap (λ b. cond b (1 + p + 1) (1 + p)) (le-ltb (1 + p) (suc n) (omega (arith, ltb-false p n e))) ∙ one

module _ (b : ℕ) (bs : List ℕ) where
  -- a line that ends at once
  short_line : b == 10 ≡ true → line_len (b ∷ bs) ≡ 1
  short_line e =
      let none : prefix_len is_within_line (b ∷ bs) ≡ 0 = ap (λ x. cond (not x) (1 + prefix_len is_within_line bs) 0) e in
      ap (λ p. cond (nat_lt p (length (b ∷ bs))) (p + 1) p) none ∙ ap (λ x. cond x 1 0) (lt-ltb 0 (length (b ∷ bs)) (omega arith))

  -- a line that goes on
  long_line : b == 10 ≡ false → line_len (b ∷ bs) ≡ suc (line_len bs)
  long_line e =
      let more : prefix_len is_within_line (b ∷ bs) ≡ 1 + prefix_len is_within_line bs = ap (λ x. cond (not x) (1 + prefix_len is_within_line bs) 0) e in
      ap (λ p. cond (nat_lt p (length (b ∷ bs))) (p + 1) p) more
      ∙ longer (prefix_len is_within_line bs) (length bs) (nat_lt (prefix_len is_within_line bs) (length bs)) refl

-- the first line and the others
abbrev FirstIs : List ℕ → Type 0
FirstIs text = lines_of text ≡ take (line_len text) text ∷ lines_of (drop (line_len text) text)

first_by : (b : ℕ) (bs : List ℕ) (feed : Bool) → b == 10 ≡ feed → ((c : ℕ) (cs : List ℕ) → bs ≡ c ∷ cs → FirstIs bs) → cond feed ((b ∷ []) ∷ lines_of bs) (before b (lines_of bs)) ≡ take (line_len (b ∷ bs)) (b ∷ bs) ∷ lines_of (drop (line_len (b ∷ bs)) (b ∷ bs))
first_by b bs true e go = sym (ap (λ n. take n (b ∷ bs) ∷ lines_of (drop n (b ∷ bs))) (short_line b bs e))
first_by b [] false e go = sym (ap (λ n. take n (b ∷ []) ∷ lines_of (drop n (b ∷ []))) (long_line b [] e))
first_by b (c ∷ cs) false e go = ap (before b) (go c cs refl) ∙ sym (ap (λ n. take n (b ∷ c ∷ cs) ∷ lines_of (drop n (b ∷ c ∷ cs))) (long_line b (c ∷ cs) e))

first_line : (b : ℕ) (bs : List ℕ) → FirstIs (b ∷ bs)
first_line b [] = first_by b [] (b == 10) refl (λ c cs e. absurd cc)
first_line b (c ∷ cs) = first_by b (c ∷ cs) (b == 10) refl (λ d ds e. first_line c cs)

-- a line has a byte
has_by : (b : ℕ) (bs : List ℕ) (feed : Bool) → b == 10 ≡ feed → 0 < line_len (b ∷ bs)
has_by b bs true e = subst (λ n. 0 < n) (sym (short_line b bs e)) (omega arith)
has_by b bs false e = subst (λ n. 0 < n) (sym (long_line b bs e)) (omega arith)

pub has_bytes : (text : List ℕ) → 0 < length text → 0 < line_len text
has_bytes [] some = absurd (omega arith)
has_bytes (b ∷ bs) some = has_by b bs (b == 10) refl

-- what fails with one reading fails with another that has the same fault
fails_too : {A B : Type 0} (f : InputFault) (x : Result A InputFault) (y : Result B InputFault) → (x ≡ Err f → y ≡ Err f) → Fails f x → Fails f y
fails_too fault.OutOfMemory x y so h = tt
fails_too (fault.BadLine n) x y so h = so h
fails_too (fault.TooWide n) x y so h = so h
fails_too (fault.Twice n) x y so h = so h
fails_too (fault.TooMany n) x y so h = so h

module _ {G : Type 0} (add_line : G → ℕ → List ℕ → Result G InputFault) where
  -- what the lines behind the first of a text add
  abbrev others : ℕ → List ℕ → G → Result G InputFault
  others n rest h = add_lines add_line (n + 1) h (lines_of (drop (line_len rest) rest))

  -- lines that are left are read by the first, and what follows
  one_line : (n : ℕ) (g : G) (rest : List ℕ) → 0 < length rest → add_lines add_line n g (lines_of rest) ≡ after_line (others n rest) (add_line g n (take (line_len rest) rest))
  one_line n g [] some = absurd (omega arith)
  one_line n g (b ∷ bs) some = ap (add_lines add_line n g) (first_line b bs)

  -- a line that adds leaves the others to read
  pub moved : (n : ℕ) (g h : G) (rest : List ℕ) (total : Result G InputFault) → 0 < length rest → add_line g n (take (line_len rest) rest) ≡ Ok h → add_lines add_line n g (lines_of rest) ≡ total
      → others n rest h ≡ total
  moved n g h rest total some is whole = sym (ap (after_line (others n rest)) is) ∙ sym (one_line n g rest some) ∙ whole

  -- a wrong line ends the reading
  stopped : (n : ℕ) (g : G) (rest : List ℕ) (f : InputFault) (total : Result G InputFault) → 0 < length rest → Fails f (add_line g n (take (line_len rest) rest)) → add_lines add_line n g (lines_of rest) ≡ total → Fails f total
  stopped n g rest f total some is whole =
      fails_too f (add_line g n (take (line_len rest) rest)) total (λ e. sym whole ∙ one_line n g rest some ∙ ap (after_line (others n rest)) e) is

  -- the same of a line that is cut off
  pub stopped_at : (n : ℕ) (g : G) (rest line : List ℕ) (f : InputFault) (total : Result G InputFault) → line ≡ take (line_len rest) rest → 0 < length rest → Fails f (add_line g n line) → add_lines add_line n g (lines_of rest) ≡ total
      → Fails f total
  stopped_at n g rest line f total front some is whole = stopped n g rest f total some (subst (λ (t : List ℕ). Fails f (add_line g n t)) front is) whole
