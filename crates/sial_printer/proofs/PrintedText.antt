-- What is printed is a text of the tree, but for lines.
use Rattle.std.proofs.Common.{◌≡◌, ℕ, ◌+◌, ◌≤◌, List, [], ◌∷◌, map, length, refl, sym, ap, ◌∙◌, subst}
use Rattle.sial_lexer.specs.Cut.{beginning, tokens_from}
use Rattle.sial_lexer.specs.Pieces.{most_source}
use Rattle.sial_syntax.specs.Tree.{Tree, Procedure, Block, End as Ended, Then, Plain, Do, DoIn, Pardo, If, IfElse}
use Rattle.sial_syntax.specs.declared.array.ArrayDecl.{ArrayDecl}
use Rattle.sial_syntax.specs.declared.index.IndexDecl.{IndexDecl}
use Rattle.sial_parser.specs.Grammar.{IsProgram}
use Rattle.sial_parser.specs.Words.{words_of, last_line, IsTextOf}
use Rattle.sial_parser.proofs.ProperPrograms.{program_proper}
use Rattle.sial_parser.proofs.WordsSound.{words_sound}
use Rattle.sial_printer.specs.Lines.{statement, statements, procedure_lines, program_lines, printed}
use Rattle.sial_printer.specs.Printed.{HasText, IsLongTextOf}
use Rattle.sial_printer.specs.Relined.{relined_form, relined, relined_indices, relined_arrays, relined_procedures, arrays_from, procedures_from, body_from, relined_tree}
use Rattle.sial_printer.specs.Unlined.{unlined_form, unlined, unlined_index, unlined_array, unlined_procedure, unlined_tree}
use Rattle.sial_printer.proofs.LinesRead.{lines_read}
use Rattle.sial_printer.proofs.ProgramStands.{program_stands}

-- the tokens of the printed text have the tree's words
pub printed_text : (p : Tree) → HasText p → IsLongTextOf (printed p) (relined_tree p)
printed_text p (text, h) =
    let sound = words_sound text h.tokens h.are_tokens in
    let stands = program_stands p (words_of text h.tokens) sound (program_proper p (words_of text h.tokens) sound h.program) h.program in
    let read = lines_read (program_lines p) stands.said in
    record {
      pieces = read.pieces;
      cut = read.cut;
      program = subst (IsProgram (relined_tree p)) (sym (ap (words_of (printed p)) (sym read.of_pieces) ∙ read.words)) (stands.is (last_line (printed p)));
    }

-- one that isn't too long is a text
pub short_text : (text : List ℕ) (p : Tree) → IsLongTextOf text p → length text ≤ most_source → IsTextOf text p
short_text text p h few = record { tokens = tokens_from beginning h.pieces; are_tokens = record { within = few; pieces = h.pieces; cut = h.cut; of_pieces = refl }; program = h.program }

-- the tree of the printed text differs in its lines alone
mutual
  same_form : (p : Tree) (line : ℕ) (form : Plain) → unlined_form (relined_form p line form) ≡ unlined_form form
  same_form p line (Do i b) = ap (Do i) (same_body p _ b)
  same_form p line (DoIn ii i b) = ap (DoIn ii i) (same_body p _ b)
  same_form p line (Pardo is cs b) = ap (Pardo is cs) (same_body p _ b)
  same_form p line (If c b) = ap (If c) (same_body p _ b)
  same_form p line (IfElse c b d) = ap (λ x. IfElse c x (unlined (relined p (line + 1 + length (statements p b) + 1) d))) (same_body p (line + 1) b) ∙ ap (IfElse c (unlined b)) (same_body p _ d)
  same_form p line _ = refl

  same_body : (p : Tree) (line : ℕ) (b : Block) → unlined (relined p line b) ≡ unlined b
  same_body p line Ended = refl
  same_body p line (Then was form rest) =
      ap (λ f. Then 0 f (unlined (relined p (line + length (statement p form)) rest))) (same_form p line form) ∙ ap (Then 0 (unlined_form form)) (same_body p (line + length (statement p form)) rest)

same_indices : (line : ℕ) (xs : List IndexDecl) → map unlined_index (relined_indices line xs) ≡ map unlined_index xs
same_indices line [] = refl
same_indices line (x ∷ xs) = ap (λ ys. unlined_index x ∷ ys) (same_indices (line + 1) xs)

same_arrays : (line : ℕ) (xs : List ArrayDecl) → map unlined_array (relined_arrays line xs) ≡ map unlined_array xs
same_arrays line [] = refl
same_arrays line (x ∷ xs) = ap (λ ys. unlined_array x ∷ ys) (same_arrays (line + 1) xs)

same_procedures : (p : Tree) (line : ℕ) (qs : List Procedure) → map unlined_procedure (relined_procedures p line qs) ≡ map unlined_procedure qs
same_procedures p line [] = refl
same_procedures p line (q ∷ qs) =
    ap (λ b. record { name = q.name; body = b } ∷ map unlined_procedure (relined_procedures p (line + length (procedure_lines p q)) qs)) (same_body p (line + 1) q.body)
    ∙ ap (λ rs. unlined_procedure q ∷ rs) (same_procedures p (line + length (procedure_lines p q)) qs)

pub same_but_lines : (p : Tree) → unlined_tree (relined_tree p) ≡ unlined_tree p
same_but_lines p =
    ap (λ is. record { name = p.name; indices = is; arrays = map unlined_array (relined_arrays (arrays_from p) p.arrays); scalars = p.scalars; procedures = map unlined_procedure (relined_procedures p (procedures_from p) p.procedures); body = unlined (relined p (body_from p) p.body) }) (same_indices 2 p.indices)
    ∙ ap (λ xs. record { name = p.name; indices = map unlined_index p.indices; arrays = xs; scalars = p.scalars; procedures = map unlined_procedure (relined_procedures p (procedures_from p) p.procedures); body = unlined (relined p (body_from p) p.body) }) (same_arrays (arrays_from p) p.arrays)
    ∙ ap (λ qs. record { name = p.name; indices = map unlined_index p.indices; arrays = map unlined_array p.arrays; scalars = p.scalars; procedures = qs; body = unlined (relined p (body_from p) p.body) }) (same_procedures p (procedures_from p) p.procedures)
    ∙ ap (λ b. record { name = p.name; indices = map unlined_index p.indices; arrays = map unlined_array p.arrays; scalars = p.scalars; procedures = map unlined_procedure p.procedures; body = b }) (same_body p (body_from p) p.body)
