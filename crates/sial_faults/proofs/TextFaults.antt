-- The first fault of a text.
use Rattle.std.proofs.Common.{◌≡◌, ℕ, List, [], ◌∷◌, ◌++◌, Bool, true, false, map, Option, Some, None, Result, Ok, Err, refl, sym, ap, ◌∙◌}
use Rattle.std.specs.List.{slice_range}
use Rattle.sial_lexer.specs.Characters.{folded}
use Rattle.sial_lexer.specs.declared.token.Token.{Token}
use Rattle.sial_lexer.specs.declared.token.TokenKind.{TokenKind}
use Rattle.sial_lexer.specs.declared.token.TokenKind.TheVariants as token
use Rattle.sial_syntax.specs.Tree.{Tree}
use Rattle.sial_parser.specs.Parsing.{is_end, read_program, after_strict, last_fault, program_of}
use Rattle.sial_parser.specs.Words.{words_of, word_of, symbol_of, name_or_key, sign_or_end, entry_of, keywords, signs, last_line}
use Rattle.sial_parser.specs.declared.fault.ParseFault.{ParseFault}
use Rattle.sial_parser.specs.declared.keyword.Keyword.{Keyword}
use Rattle.sial_parser.specs.declared.sign.Sign.{Sign}
use Rattle.sial_parser.specs.declared.word.Symbol.TheVariants.{End}
use Rattle.sial_parser.specs.declared.word.Word.{Word}
use Rattle.sial_parser.proofs.ProgramAgain.{program_again}
use Rattle.sial_faults.specs.Faults.{Past, at_start, at_text_end, checked, fault_at, past_after, first_fault, fault_in, any_name}
use Rattle.sial_faults.specs.Laws.{FirstStands, NoneStands, ProgramsHaveForm}
use Rattle.sial_faults.specs.Forms.{after, AreParts, program}
use Rattle.sial_faults.specs.Parts.{Part}
use Rattle.sial_faults.specs.Places.{EndsWell}
use Rattle.sial_faults.proofs.AgreeProcedures.{meets_first}
use Rattle.sial_faults.proofs.FaultPlaces.{end_some}
use Rattle.sial_faults.proofs.Standing.{going}
use Rattle.sial_faults.proofs.First.{none_stands, stands_at}
use Rattle.sial_faults.proofs.Strict.{Faultless, read_none}

-- no token is the end of the text
key_no_end : (name : List ℕ) (k : Option Keyword) → is_end (name_or_key name k) ≡ false
key_no_end name None = refl
key_no_end name (Some k) = refl

sign_no_end : (s : Option Sign) → is_end (sign_or_end s) ≡ false
sign_no_end None = refl
sign_no_end (Some s) = refl

symbol_no_end : (kind : TokenKind) (bytes : List ℕ) → is_end (symbol_of kind bytes) ≡ false
symbol_no_end token.Name bytes = key_no_end (folded bytes) (entry_of keywords (folded bytes))
symbol_no_end (token.Number value) bytes = refl
symbol_no_end token.Quoted bytes = refl
symbol_no_end token.Sign bytes = sign_no_end (entry_of signs bytes)
symbol_no_end token.LineEnd bytes = refl

pushed : (w : Word) (ws : List Word) → is_end w.symbol ≡ false → EndsWell ws → EndsWell (w ∷ ws)
pushed w [] e h = absurd h
pushed w (v ∷ ws) e h = (e, h)

end_well : (text : List ℕ) (tokens : List Token) (end : Word) → is_end end.symbol ≡ true → EndsWell (map (word_of text) tokens ++ end ∷ [])
end_well text [] end e = e
end_well text (t ∷ ts) end e = pushed (word_of text t) (map (word_of text) ts ++ end ∷ []) (symbol_no_end t.kind (slice_range text t.start t.end)) (end_well text ts end e)

pub words_end : (text : List ℕ) (tokens : List Token) → EndsWell (words_of text tokens)
words_end text tokens = end_well text tokens (record { line = last_line text; symbol = End }) refl

-- a fault that comes first is told
pub the_fault : (r : Result Past ParseFault) (g : ParseFault) → fault_in r ≡ Some g → r ≡ Err g
the_fault (Ok end) g e = absurd cc
the_fault (Err f) g e = ap Err (let h : f ≡ g = cc in h)

last_told : (fault g : ParseFault) (r : Result Tree ParseFault) → fault_in r ≡ Some g → last_fault fault r ≡ Err g
last_told fault g (Ok p) e = absurd cc
last_told fault g (Err other) e = ap Err (let h : other ≡ g = cc in h)

strict_told : (ws : List Word) (g : ParseFault) (r : Result Tree ParseFault) → first_fault any_name ws ≡ Some g → read_program true ws ≡ r → after_strict ws r ≡ Err g
strict_told ws g (Ok p) e f =
    let n = read_none ws p f in
    absurd (let h : ◌≡◌ {A = Option ParseFault} None (Some g) = sym (ap fault_in n.is) ∙ e in cc)
strict_told ws g (Err fault) e f = last_told fault g (read_program false ws) (sym (meets_first ws) ∙ e)

pub words_told : (ws : List Word) (g : ParseFault) → first_fault any_name ws ≡ Some g → program_of ws ≡ Err g
words_told ws g e = strict_told ws g (read_program true ws) e refl

pub first_stands : FirstStands
first_stands text tokens fault has e = stands_at (words_of text tokens) fault (words_end text tokens) (the_fault (checked any_name at_start program (words_of text tokens)) fault e)

the_end : (r : Result Past ParseFault) → fault_in r ≡ None → Faultless r
the_end (Ok end) e = record { end = end; is = refl }
the_end (Err fault) e = absurd cc

pub none_stand : NoneStands
none_stand text tokens has e fault before w behind =
    let n = the_end (checked any_name at_start program (words_of text tokens)) e in none_stands n.end (words_of text tokens) at_start program n.is fault before w behind

-- words without a fault have the form of what is due
pub have_form : (callable : (name : List ℕ) → Bool) (end : Past) (ws : List Word) (past : Past) (parts : List Part) → checked callable past parts ws ≡ Ok end → AreParts parts ws
have_form callable end [] past [] e = AreParts.none
have_form callable end [] past (p ∷ ps) e = absurd cc
have_form callable end (w ∷ ws) past [] e = absurd cc
have_form callable end (w ∷ ws) past (p ∷ ps) e =
    let g = going end w.line (at_text_end p ws (after p w.symbol)) (fault_at callable past p w.line w.symbol ws) (λ more. checked callable (past_after p w.symbol past) (more ++ ps) ws) e in
    AreParts.next (end_some p ws (after p w.symbol) g.more g.is) (have_form callable end ws (past_after p w.symbol past) (g.more ++ ps) g.goes)

pub programs_have_form : ProgramsHaveForm
programs_have_form p ws h = let n = read_none ws p (program_again p ws h) in have_form any_name n.end ws at_start program n.is
