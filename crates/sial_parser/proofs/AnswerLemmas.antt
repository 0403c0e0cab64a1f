-- What an answer of the parser says of its text.
use Rattle.std.proofs.Common.{◌≡◌, ℕ, ◌+◌, ◌≤◌, ◌++◌, map, take, List, [], ◌∷◌, Some, Result, Ok, Err, IfOk, IfErr, zero, suc, sym, ap, ◌∙◌, subst, arith}
use Rattle.std.specs.List.{slice_get}
use Rattle.sial_lexer.proofs.WholeLemmas.{fault_read}
use Rattle.sial_lexer.specs.Cut.{AreInOrder}
use Rattle.sial_lexer.specs.Faults.{IsFaultOf}
use Rattle.sial_lexer.specs.Reading as lexer
use Rattle.sial_lexer.specs.declared.fault.LexFault.{LexFault}
use Rattle.sial_lexer.specs.declared.fault.LexKind.{LexKind}
use Rattle.sial_lexer.specs.declared.fault.LexKind.TheVariants.{BadByte, Fraction, TooWide, OpenText, TooLong, OutOfMemory}
use Rattle.sial_lexer.specs.declared.token.Token.{Token}
use Rattle.sial_syntax.specs.Proper.{IsProper}
use Rattle.sial_syntax.specs.Tree.{Tree, tree}
use Rattle.sial_syntax.specs.declared.program.Program.{Program}
use Rattle.sial_parser.specs.Answers.{Fails, Gives}
use Rattle.sial_parser.specs.Parsing.{program_of}
use Rattle.sial_parser.specs.Whole.{parse_of, parse_tokens, refused, IsRefused}
use Rattle.sial_parser.specs.Words.{words_of, IsTextOf}
use Rattle.sial_parser.specs.declared.fault.ParseFault.{ParseFault}
use Rattle.sial_parser.specs.declared.fault.ParseFault.TheVariants as parse
use Rattle.sial_parser.proofs.TextLemmas.{text_found, text_read, proper_tree}

pub answer_found : (text : List ℕ) (result : Result Program ParseFault) → Gives tree result (parse_of text) → IfOk result (λ p. IsTextOf text (tree p))
answer_found text (Ok p) h = text_found text (tree p) h
answer_found text (Err fault) h = tt

pub answer_proper : (text : List ℕ) (result : Result Program ParseFault) → Gives tree result (parse_of text) → IfOk result (λ p. IsProper (tree p))
answer_proper text (Ok p) h = proper_tree text (tree p) (text_found text (tree p) h)
answer_proper text (Err fault) h = tt

pub answer_as : (text : List ℕ) (result : Result Program ParseFault) (read : Result Tree ParseFault) → parse_of text ≡ read → Gives tree result (parse_of text) → Gives tree result read
answer_as text result read e h = subst (Gives tree result) e h

pub lexer_first : (text : List ℕ) (fault : LexFault) → IsFaultOf text fault → parse_of text ≡ Err (parse.Lex fault)
lexer_first text fault h = ap (parse_tokens text) (fault_read text fault h)

no_tree : (text : List ℕ) (fault : ParseFault) → parse_of text ≡ Err fault → (p : Tree) → IsTextOf text p → ⊥
no_tree text fault e p h = let k : ◌≡◌ {A = Result Tree ParseFault} (Ok p) (Err fault) = sym (text_read text p h) ∙ e in absurd cc

refused_by : (text : List ℕ) (fault : ParseFault) → Fails fault (parse_of text) → IsRefused text fault
refused_by text parse.OutOfMemory h = tt
refused_by text (parse.Lex fault) h = no_tree text _ h
refused_by text (parse.Expected line) h = no_tree text _ h
refused_by text (parse.Undeclared line) h = no_tree text _ h
refused_by text (parse.Twice line) h = no_tree text _ h
refused_by text (parse.EndName line) h = no_tree text _ h
refused_by text (parse.TooMany line which) h = no_tree text _ h
refused_by text (parse.TooDeep line) h = no_tree text _ h

pub answer_refused : (text : List ℕ) (result : Result Program ParseFault) → Gives tree result (parse_of text) → IfErr result (λ fault. IsRefused text fault)
answer_refused text (Ok p) h = tt
answer_refused text (Err fault) h = refused_by text fault h

-- a fault of the lexer is that of the text
pub refused_right : (text : List ℕ) (kind : LexKind) (fault : LexFault) → lexer.Fails kind fault (lexer.lex_of text) → Fails (refused kind fault) (parse_of text)
refused_right text OutOfMemory fault h = tt
refused_right text BadByte fault h = ap (parse_tokens text) h
refused_right text Fraction fault h = ap (parse_tokens text) h
refused_right text TooWide fault h = ap (parse_tokens text) h
refused_right text OpenText fault h = ap (parse_tokens text) h
refused_right text TooLong fault h = ap (parse_tokens text) h

-- the tokens at hand are the text's
pub of_these : (text : List ℕ) (tokens : List Token) (result : Result Program ParseFault) → lexer.lex_of text ≡ Ok tokens → Gives tree result (program_of (words_of text tokens)) → Gives tree result (parse_of text)
of_these text tokens result e h = subst (Gives tree result) (sym (ap (parse_tokens text) e)) h

end_within : (from to : ℕ) (ts : List Token) → AreInOrder from to ts → from ≤ to
end_within from to [] h = h
end_within from to (t ∷ ts) h = omega (arith, h.0, h.1, end_within t.end to ts h.2)

-- tokens in order lie within the text
pub token_within : (from to : ℕ) (ts : List Token) (i : ℕ) (t : Token) → AreInOrder from to ts → slice_get ts i ≡ Some t → (t.start ≤ t.end) × (t.end ≤ to)
token_within from to [] i t h e = absurd cc
token_within from to (x ∷ xs) zero t h e = let same : x ≡ t = cc in subst (λ (y : Token). (y.start ≤ y.end) × (y.end ≤ to)) same (h.1, end_within x.end to xs h.2)
token_within from to (x ∷ xs) (suc i) t h e = token_within x.end to xs i t h.2 e

-- one item more of a list
pub taken_more : {X Y : Type 0} (f : X → Y) (xs : List X) (i : ℕ) (x : X) → slice_get xs i ≡ Some x → map f (take (i + 1) xs) ≡ map f (take i xs) ++ f x ∷ []
taken_more f [] i x e = absurd cc
taken_more f (y ∷ ys) zero x e = ap (λ z. f z ∷ []) (let h : y ≡ x = cc in h)
taken_more f (y ∷ ys) (suc i) x e = let k : suc i + 1 ≡ suc (i + 1) = omega arith in ap (λ n. map f (take n (y ∷ ys))) k ∙ ap (λ zs. f y ∷ zs) (taken_more f ys i x e)
