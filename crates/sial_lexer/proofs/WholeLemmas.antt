-- Reading from the front gives the tokens of the text, or its fault, and no others.
use Rattle.std.proofs.Common.{◌≡◌, ℕ, zero, suc, ◌<◌, ◌≤◌, List, [], ◌∷◌, ◌++◌, Bool, true, false, cond, nat_lt, take, drop, length, Result, Ok, Err, refl, sym, ap, ◌∙◌, subst, arith, inl, inr, append_assoc}
use Rattle.std.specs.Prelude.{IfOk, IfErr}
use Rattle.std.specs.List.{AllByRecursion}
use Rattle.std.proofs.lemmas.Bool.{lt-ltb, ltb-true, ltb-false}
use Rattle.std.proofs.lemmas.List.{length-append, length-drop, length-take-le, take-append-drop}
use Rattle.std.proofs.Math.Seq.{take-append_seam, drop-append_seam}
use Rattle.sial_lexer.specs.Cut.{IsCut, past, token_of, tokens_from, place_after, HasTokens, StandsIn, AreInOrder}
use Rattle.sial_lexer.specs.Faults.{IsFaulty, IsFaultOf, IsCause}
use Rattle.sial_lexer.specs.Pieces.{IsPiece, most_source}
use Rattle.sial_lexer.specs.Reading.{Scanned, nothing, accepted, taken, after_step, lex_from, lex_of, Fails, Gives}
use Rattle.sial_lexer.specs.Scanning.{front_of}
use Rattle.sial_lexer.specs.declared.fault.LexFault.{LexFault}
use Rattle.sial_lexer.specs.declared.fault.LexKind.{LexKind}
use Rattle.sial_lexer.specs.declared.fault.LexKind.TheVariants.{BadByte, Fraction, TooWide, OpenText, TooLong, OutOfMemory}
use Rattle.sial_lexer.specs.declared.piece.Piece.{Piece}
use Rattle.sial_lexer.specs.declared.piece.PieceKind.{PieceKind}
use Rattle.sial_lexer.specs.declared.piece.PieceKind.TheVariants as piece
use Rattle.sial_lexer.specs.declared.token.Token.{Token}
use Rattle.sial_lexer.specs.declared.token.TokenKind.TheVariants.{Name, Number, Quoted, Sign, LineEnd}
use Rattle.sial_lexer.proofs.AgainLemmas.{piece_again, faulty_again}
use Rattle.sial_lexer.proofs.FrontLemmas.{Fronts, IsRight, front_right}
use Rattle.sial_lexer.proofs.ReadingLemmas.{read_whole, at_end}
use Rattle.sial_lexer.proofs.SpanLemmas.{tokens_stand, tokens_in_order}

-- no piece is empty
not_empty : (kind : PieceKind) (after : List ℕ) → IsPiece kind [] after → ⊥
not_empty piece.Blank after is = is.0
not_empty piece.Comment after is = is.0
not_empty piece.LineBreak after (inl is) = absurd cc
not_empty piece.LineBreak after (inr is) = absurd cc
not_empty (piece.Token Name) after is = is.0
not_empty (piece.Token (Number value)) after is = is.0
not_empty (piece.Token Quoted) after is = is
not_empty (piece.Token Sign) after is = is.0
not_empty (piece.Token LineEnd) after is = is

pub has_bytes : (kind : PieceKind) (len : ℕ) (bytes : List ℕ) → IsPiece kind (take len bytes) (drop len bytes) → 0 < len
has_bytes kind zero bytes is = absurd (not_empty kind bytes is)
has_bytes kind (suc n) bytes is = omega arith

-- a piece at the front, cut off by its length
cut_off : (p : Piece) (bytes : List ℕ) → Fronts p bytes → (p.len ≤ length bytes) × IsPiece p.kind (take p.len bytes) (drop p.len bytes)
cut_off p bytes f =
    let front : take p.len bytes ≡ f.bytes_of = ap (λ t. take p.len t) f.text ∙ ap (λ n. take n (f.bytes_of ++ f.after)) (sym f.len) ∙ take-append_seam f.bytes_of f.after in
    let back : drop p.len bytes ≡ f.after = ap (λ t. drop p.len t) f.text ∙ ap (λ n. drop n (f.bytes_of ++ f.after)) (sym f.len) ∙ drop-append_seam f.bytes_of f.after in (
      omega (arith, f.len, ap length f.text, length-append f.bytes_of f.after),
      subst (λ (xs : List ℕ). IsPiece p.kind xs (drop p.len bytes)) (sym front) (subst (λ (xs : List ℕ). IsPiece p.kind f.bytes_of xs) (sym back) f.is),
    )

-- what a reading says of the bytes that it read
abbrev Explains : Result (List Token) LexFault → Scanned → List ℕ → Type 0
Explains (Ok ts) s bytes = (pieces : List Piece) × IsCut pieces bytes [] × (ts ≡ s.tokens ++ tokens_from s.place pieces)
Explains (Err fault) s bytes = (pieces : List Piece) × (rest : List ℕ) × IsCut pieces bytes rest × IsFaulty fault.kind rest × (fault.line ≡ (place_after s.place pieces).line)

-- with one more piece before them
one_more : (p : Piece) (bytes : List ℕ) (s : Scanned) (read : Result (List Token) LexFault) → (p.len ≤ length bytes) × IsPiece p.kind (take p.len bytes) (drop p.len bytes)
    → Explains read (accepted s p) (drop p.len bytes) → Explains read s bytes
one_more p bytes s (Ok ts) cut e = (p ∷ e.0, (cut.0, cut.1, e.1), e.2 ∙ append_assoc s.tokens (token_of s.place p.kind p.len) (tokens_from (past s.place p.kind p.len) e.0))
one_more p bytes s (Err fault) cut e = (p ∷ e.0, e.1, (cut.0, cut.1, e.2), e.3, e.4)

-- by the front
by_front : (n : ℕ) (s : Scanned) (b : ℕ) (bs : List ℕ) (read : Result Piece LexKind) → IsRight read (b ∷ bs)
    → ((t : Scanned) (rest : List ℕ) → length rest ≤ n → Explains (lex_from n t rest) t rest) → length (b ∷ bs) ≤ suc n → Explains (after_step (lex_from n) (taken s (b ∷ bs) read)) s (b ∷ bs)
by_front n s b bs (Ok p) right go few =
    let cut = cut_off p (b ∷ bs) right in
    one_more p (b ∷ bs) s (lex_from n (accepted s p) (drop p.len (b ∷ bs))) cut
    (go (accepted s p) (drop p.len (b ∷ bs)) (omega (arith, length-drop p.len (b ∷ bs), has_bytes p.kind p.len (b ∷ bs) cut.1)))
by_front n s b bs (Err kind) right go few = ([], b ∷ bs, refl, right, refl)

explained : (n : ℕ) (s : Scanned) (bytes : List ℕ) → length bytes ≤ n → Explains (lex_from n s bytes) s bytes
explained zero s [] few = ([], refl, refl)
explained zero s (b ∷ bs) few = absurd (omega arith)
explained (suc n) s [] few = ([], refl, refl)
explained (suc n) s (b ∷ bs) few = by_front n s b bs (front_of (b ∷ bs)) (front_right b bs) (λ t rest h. explained n t rest h) few

-- a piece that is cut off is found
found_again : (p : Piece) (bytes : List ℕ) → p.len ≤ length bytes → IsPiece p.kind (take p.len bytes) (drop p.len bytes) → front_of bytes ≡ Ok p
found_again p bytes few is =
    ap front_of (sym (take-append-drop p.len bytes)) ∙ piece_again p.kind (take p.len bytes) (drop p.len bytes) is ∙ ap (λ n. Ok (record { kind = p.kind; len = n })) (length-take-le p.len bytes few)

-- a step over a piece that is cut off
step_again : (n : ℕ) (s : Scanned) (p : Piece) (bytes : List ℕ) → length bytes ≤ n → p.len ≤ length bytes → IsPiece p.kind (take p.len bytes) (drop p.len bytes)
    → (m : ℕ) × (length (drop p.len bytes) ≤ m) × (lex_from n s bytes ≡ lex_from m (accepted s p) (drop p.len bytes))
step_again zero s p bytes few within is = absurd (omega (arith, has_bytes p.kind p.len bytes is))
step_again (suc n) s p [] few within is = absurd (omega (arith, has_bytes p.kind p.len [] is))
step_again (suc n) s p (b ∷ bs) few within is =
    (n, omega (arith, length-drop p.len (b ∷ bs), has_bytes p.kind p.len (b ∷ bs) is), ap (λ r. after_step (lex_from n) (taken s (b ∷ bs) r)) (found_again p (b ∷ bs) within is))

-- a text that is cut into pieces is read so
read_again : (pieces : List Piece) (n : ℕ) (s : Scanned) (bytes : List ℕ) → length bytes ≤ n → IsCut pieces bytes [] → lex_from n s bytes ≡ Ok (s.tokens ++ tokens_from s.place pieces)
read_again [] n s bytes few cut = at_end n s bytes (ap length cut)
read_again (p ∷ ps) n s bytes few cut =
    let next = step_again n s p bytes few cut.0 cut.1 in
    next.2 ∙ read_again ps next.0 (accepted s p) (drop p.len bytes) next.1 cut.2 ∙ ap Ok (append_assoc s.tokens (token_of s.place p.kind p.len) (tokens_from (past s.place p.kind p.len) ps))

never : (kind : LexKind) → IsFaulty kind [] → ⊥
never BadByte (inl h) = h
never BadByte (inr (inl h)) = h.0
never BadByte (inr (inr (inl h))) = h.0
never BadByte (inr (inr (inr h))) = h.0.0
never Fraction h = h.0
never TooWide h = h.0
never OpenText h = h.0.0
never TooLong (inl h) = h.0
never TooLong (inr h) = h.0
never OutOfMemory h = h

faulty_front : (kind : LexKind) (rest : List ℕ) (n : ℕ) (s : Scanned) → length rest ≤ n → IsFaulty kind rest → lex_from n s rest ≡ Err (record { line = s.place.line; kind = kind })
faulty_front kind [] n s few is = absurd (never kind is)
faulty_front kind (b ∷ bs) zero s few is = absurd (omega arith)
faulty_front kind (b ∷ bs) (suc n) s few is = ap (λ r. after_step (lex_from n) (taken s (b ∷ bs) r)) (faulty_again kind b bs is)

-- a text that is cut up to a fault is read up to it
fault_again : (pieces : List Piece) (n : ℕ) (s : Scanned) (bytes rest : List ℕ) (kind : LexKind) → length bytes ≤ n → IsCut pieces bytes rest → IsFaulty kind rest
    → lex_from n s bytes ≡ Err (record { line = (place_after s.place pieces).line; kind = kind })
fault_again [] n s bytes rest kind few cut is = ap (lex_from n s) cut ∙ faulty_front kind rest n s (omega (arith, ap length cut)) is
fault_again (p ∷ ps) n s bytes rest kind few cut is =
    let next = step_again n s p bytes few cut.0 cut.1 in
    next.2 ∙ fault_again ps next.0 (accepted s p) (drop p.len bytes) rest kind next.1 cut.2 is

-- what a reading of the whole says
Whole : Result (List Token) LexFault → List ℕ → Type 0
Whole (Ok ts) text = HasTokens text ts
Whole (Err fault) text = IsFaultOf text fault

within_limit : (text : List ℕ) (read : Result (List Token) LexFault) → length text ≤ most_source → Explains read nothing text → Whole read text
unfolding Whole
within_limit text (Ok ts) within e = record { within = within; pieces = e.0; cut = e.1; of_pieces = e.2 }
within_limit text (Err fault) within e = inr (record { within = within; pieces = e.0; rest = e.1; cut = e.2; faulty = e.3; line = e.4 })

whole_by : (text : List ℕ) (long : Bool) → nat_lt most_source (length text) ≡ long → Whole (cond long (Err (record { line = 0; kind = TooLong })) (lex_from (length text) nothing text)) text
unfolding Whole
whole_by text true e = inl (ltb-true most_source (length text) e, refl)
whole_by text false e = within_limit text (lex_from (length text) nothing text) (ltb-false most_source (length text) e) (explained (length text) nothing text (omega arith))

whole : (text : List ℕ) → Whole (lex_of text) text
whole text = whole_by text (nat_lt most_source (length text)) refl

-- what is read are the text's tokens
pub tokens_found : (text : List ℕ) (ts : List Token) → lex_of text ≡ Ok ts → HasTokens text ts
unfolding Whole
tokens_found text ts e = subst (λ r. Whole r text) e (whole text)

-- the text's tokens are read
pub tokens_read : (text : List ℕ) (ts : List Token) → HasTokens text ts → lex_of text ≡ Ok ts
tokens_read text ts h = read_whole text h.within ∙ read_again h.pieces (length text) nothing text (omega arith) h.cut ∙ ap Ok (sym h.of_pieces)

-- what is read as a fault is the text's
pub fault_found : (text : List ℕ) (fault : LexFault) → lex_of text ≡ Err fault → IsFaultOf text fault
unfolding Whole
fault_found text fault e = subst (λ r. Whole r text) e (whole text)

-- the text's fault is read
pub fault_read : (text : List ℕ) (fault : LexFault) → IsFaultOf text fault → lex_of text ≡ Err fault
fault_read text fault (inl h) = ap (λ b. cond b (Err (record { line = 0; kind = TooLong })) (lex_from (length text) nothing text)) (lt-ltb most_source (length text) h.0) ∙ ap Err (sym h.1)
fault_read text fault (inr h) =
    read_whole text h.within ∙ fault_again h.pieces (length text) nothing text h.rest fault.kind (omega arith) h.cut h.faulty
    ∙ ap (λ n. Err (record { line = n; kind = fault.kind })) (sym h.line)

-- a cause, where memory was found
cause : (kind : LexKind) (text : List ℕ) (fault : LexFault) → Fails kind fault (lex_of text) → IsCause text kind fault
cause OutOfMemory text fault h = tt
cause BadByte text fault h = fault_found text fault h
cause Fraction text fault h = fault_found text fault h
cause TooWide text fault h = fault_found text fault h
cause OpenText text fault h = fault_found text fault h
cause TooLong text fault h = fault_found text fault h

-- an answer that gives the reading of a text gives its tokens, in order, each with its slice
pub answer_found : (text : List ℕ) (result : Result (List Token) LexFault) → Gives (λ t. t) result (lex_of text) → IfOk result (λ tokens. HasTokens text tokens)
answer_found text (Ok ts) h = tokens_found text ts h
answer_found text (Err fault) h = tt

-- or its fault
pub answer_fault : (text : List ℕ) (result : Result (List Token) LexFault) → Gives (λ t. t) result (lex_of text) → IfErr result (λ fault. IsCause text fault.kind fault)
answer_fault text (Ok ts) h = tt
answer_fault text (Err fault) h = cause fault.kind text fault h

-- and what a text has is what such an answer gives
pub answer_only : (text : List ℕ) (result read : Result (List Token) LexFault) → lex_of text ≡ read → Gives (λ t. t) result (lex_of text) → Gives (λ t. t) result read
answer_only text result read e h = subst (λ (r : Result (List Token) LexFault). Gives (λ t. t) result r) e h

pub answer_order : (text : List ℕ) (result : Result (List Token) LexFault) → Gives (λ t. t) result (lex_of text) → IfOk result (λ tokens. AreInOrder 0 (length text) tokens)
answer_order text (Ok ts) h = tokens_in_order text ts (tokens_found text ts h)
answer_order text (Err fault) h = tt

pub answer_spelled : (text : List ℕ) (result : Result (List Token) LexFault) → Gives (λ t. t) result (lex_of text) → IfOk result (λ tokens. AllByRecursion (StandsIn text) tokens)
answer_spelled text (Ok ts) h = tokens_stand text ts (tokens_found text ts h)
answer_spelled text (Err fault) h = tt
