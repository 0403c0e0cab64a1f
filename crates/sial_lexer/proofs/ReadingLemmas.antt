-- One turn of the lexer's loop, and its ends.
use Rattle.std.proofs.Common.{◌≡◌, ℕ, zero, suc, ◌+◌, ◌-◌, ◌<◌, ◌≤◌, List, [], ◌∷◌, length, cond, Result, Ok, Err, refl, sym, ap, ◌∙◌, arith}
use Rattle.std.proofs.lemmas.Bool.{le-ltb}
use Rattle.sial_lexer.specs.Pieces.{most_source}
use Rattle.sial_lexer.specs.Reading.{Scanned, nothing, ended, after_step, step, lex_from, lex_of, Fails, Gives}
use Rattle.sial_lexer.specs.declared.fault.LexFault.{LexFault}
use Rattle.sial_lexer.specs.declared.fault.LexKind.{LexKind}
use Rattle.sial_lexer.specs.declared.fault.LexKind.TheVariants.{BadByte, Fraction, TooWide, OpenText, TooLong, OutOfMemory}
use Rattle.sial_lexer.specs.declared.token.Token.{Token}

-- a text within the limit is read from its beginning
pub read_whole : (text : List ℕ) → length text ≤ most_source → lex_of text ≡ lex_from (length text) nothing text
read_whole text h = ap (λ b. cond b (Err (record { line = 0; kind = TooLong })) (lex_from (length text) nothing text)) (le-ltb most_source (length text) h)

-- a rest that isn't empty is read by a step, and what follows
pub one_turn : (n i : ℕ) (s : Scanned) (rest : List ℕ) → i < n → 0 < length rest → lex_from (n - i) s rest ≡ after_step (lex_from (n - (i + 1))) (step s rest)
one_turn n i s [] below some = absurd (omega arith)
one_turn n i s (b ∷ bs) below some = let k : n - i ≡ suc (n - (i + 1)) = omega arith in ap (λ m. lex_from m s (b ∷ bs)) k

-- a step that gives a piece leaves the rest to read
pub moved : (n i : ℕ) (s t : Scanned) (rest left : List ℕ) (total : Result (List Token) LexFault) → i < n → 0 < length rest → step s rest ≡ Ok (t, left) → lex_from (n - i) s rest ≡ total → lex_from (n - (i + 1)) t left ≡ total
moved n i s t rest left total below some is whole = sym (ap (after_step (lex_from (n - (i + 1)))) is) ∙ sym (one_turn n i s rest below some) ∙ whole

-- what fails with one reading fails with another that has the same fault
pub fails_too : {A B : Type 0} (kind : LexKind) (fault : LexFault) (x : Result A LexFault) (y : Result B LexFault) → (x ≡ Err fault → y ≡ Err fault) → Fails kind fault x → Fails kind fault y
fails_too OutOfMemory fault x y so h = tt
fails_too BadByte fault x y so h = so h
fails_too Fraction fault x y so h = so h
fails_too TooWide fault x y so h = so h
fails_too OpenText fault x y so h = so h
fails_too TooLong fault x y so h = so h

-- a step that gives a fault ends the reading with it
pub stopped : (n i : ℕ) (s : Scanned) (rest : List ℕ) (fault : LexFault) (total : Result (List Token) LexFault) → i < n → 0 < length rest → lex_from (n - i) s rest ≡ total → Fails fault.kind fault (step s rest) → Fails fault.kind fault total
stopped n i s rest fault total below some whole h =
    fails_too fault.kind fault (step s rest) total (λ is. sym whole ∙ one_turn n i s rest below some ∙ ap (after_step (lex_from (n - (i + 1)))) is) h

-- where nothing is left, the reading has ended
pub at_end : (n : ℕ) (s : Scanned) (rest : List ℕ) → length rest ≡ 0 → lex_from n s rest ≡ Ok (ended s)
at_end zero s rest none = refl
at_end (suc n) s [] none = refl
at_end (suc n) s (b ∷ bs) none = absurd (omega arith)

-- after as many turns as there were bytes, nothing is read any more
pub no_turns : (n i : ℕ) (s : Scanned) (rest : List ℕ) → n ≤ i → lex_from (n - i) s rest ≡ Ok (ended s)
no_turns n i s rest past = let k : n - i ≡ 0 = omega arith in ap (λ m. lex_from m s rest) k

-- an answer that gives one reading gives another that is the same
pub ends_as : {X : Type 0} (result : Result X LexFault) (view : X → List Token) (x y : Result (List Token) LexFault) → y ≡ x → Gives view result x → Gives view result y
ends_as (Ok v) view x y same h = same ∙ h
ends_as (Err fault) view x y same h = fails_too fault.kind fault x y (λ is. same ∙ is) h
