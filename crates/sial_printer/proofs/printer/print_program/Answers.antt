use Rattle.std.proofs.Common.{◌≡◌, List, ◌∷◌, ◌++◌, [], map, refl, ap, sym, ◌∙◌}
use Rattle.std.specs.List.{flat_map}
use Rattle.sial_syntax.specs.Tree as syntax
use Rattle.sial_syntax.specs.Tree.{Tree, tree, procedure}
use Rattle.sial_syntax.specs.declared.program.Proc.{Proc}
use Rattle.sip_files.proofs.SinkLemmas.{then_wrote, stopped}
use Rattle.sial_parser.specs.declared.keyword.Keyword.TheVariants as key
use Rattle.sial_parser.specs.declared.word.Symbol.{Symbol}
use Rattle.sial_parser.specs.declared.word.Symbol.TheVariants.{Key, Name}
use Rattle.sial_printer.proofs.Writes.{first_failed, both_wrote}
use Rattle.sial_printer.proofs.SpacedLemmas.{text-append, headed, several_then}
use Rattle.sial_printer.specs.Lines.{procedure_lines, statements, declarations, printed}
use Rattle.sial_printer.specs.Relined.{relined_tree}
use Rattle.sial_printer.specs.Spelling.{text_of}
use Rattle.sial_printer.proofs.PrintedText.{printed_text, short_text, same_but_lines}
use Rattle.sial_printer.proofs.printer.print_program.Goals as goal

-- what stands behind a program's name, behind its declarations, and behind its procedures
abbrev behind_name : Tree → List (List Symbol)
behind_name p = declarations p ++ (flat_map (procedure_lines p) p.procedures ++ (statements p p.body ++ (Key key.EndSial ∷ Name p.name ∷ []) ∷ []))

abbrev behind_declarations : Tree → List (List Symbol)
behind_declarations p = flat_map (procedure_lines p) p.procedures ++ (statements p p.body ++ (Key key.EndSial ∷ Name p.name ∷ []) ∷ [])

abbrev behind_procedures : Tree → List (List Symbol)
behind_procedures p = statements p p.body ++ (Key key.EndSial ∷ Name p.name ∷ []) ∷ []

abbrev head_line : Tree → List Symbol
head_line p = Key key.Sial ∷ Name p.name ∷ []

-- the text in two parts, three and four
two_parts : (p : Tree) → text_of (head_line p ∷ []) ++ text_of (behind_name p) ≡ printed p
two_parts p = headed (head_line p) (behind_name p)

three_parts : (p : Tree) → text_of (head_line p ∷ []) ++ (text_of (declarations p) ++ text_of (behind_declarations p)) ≡ printed p
three_parts p = ap (λ t. text_of (head_line p ∷ []) ++ t) (sym (text-append (declarations p) (behind_declarations p))) ∙ two_parts p

four_parts : (p : Tree) (procs qs : List Proc) → procs ≡ qs → map procedure qs ≡ p.procedures
    → text_of (head_line p ∷ []) ++ (text_of (declarations p) ++ (flat_map (λ (q : Proc). text_of (procedure_lines p (procedure q))) procs ++ text_of (behind_procedures p))) ≡ printed p
four_parts p procs qs same are =
    ap (λ t. text_of (head_line p ∷ []) ++ (text_of (declarations p) ++ t)) (several_then procedure (procedure_lines p) procs qs (behind_procedures p) same ∙ ap (λ rs. text_of (flat_map (procedure_lines p) rs ++ behind_procedures p)) are)
    ∙ three_parts p

pub returns-in_err-line : goal.returns-in_err-line
returns-in_err-line g c =
    let p = tree c.args.program.now in
    record {
      wrote = first_failed _ (text_of (behind_name p)) c.from_residual.result c.in_err-line.ensures c.from_residual.ensures.0 (two_parts p);
      text = printed_text p c.requires.parsed;
      short = short_text (printed p) (relined_tree p) (printed_text p c.requires.parsed);
      same = same_but_lines p;
    }

pub returns-in_err-declarations : goal.returns-in_err-declarations
returns-in_err-declarations g c =
    let p = tree c.args.program.now in
    let r = c.from_residual-in_err-declarations in
    record {
      wrote = both_wrote _ r.result c.in_ok-line.ensures (stopped (text_of (behind_declarations p)) r.result c.in_err-declarations.ensures r.ensures.0) (three_parts p);
      text = printed_text p c.requires.parsed;
      short = short_text (printed p) (relined_tree p) (printed_text p c.requires.parsed);
      same = same_but_lines p;
    }

pub returns-in_err-all : goal.returns-in_err-all
returns-in_err-all g c =
    let p = tree c.args.program.now in
    let r = c.from_residual-in_err-all in
    record {
      wrote = both_wrote _ r.result c.in_ok-line.ensures (then_wrote r.result c.in_ok-declarations.ensures (stopped (text_of (behind_procedures p)) r.result c.in_err-all.ensures r.ensures.0))
          (four_parts p c.deref.result.now c.args.program.now.procs.items c.deref.ensures.value refl);
      text = printed_text p c.requires.parsed;
      short = short_text (printed p) (relined_tree p) (printed_text p c.requires.parsed);
      same = same_but_lines p;
    }

pub returns : goal.returns
returns g c =
    let p = tree c.args.program.now in
    let last = (Key key.EndSial ∷ Name p.name ∷ []) ∷ [] in
    record {
      wrote = both_wrote _ c.closed.result c.in_ok-line.ensures (then_wrote c.closed.result c.in_ok-declarations.ensures (then_wrote c.closed.result c.in_ok-all.ensures c.closed.ensures))
          (ap (λ b. text_of (head_line p ∷ []) ++ (text_of (declarations p) ++ (flat_map (λ (q : Proc). text_of (procedure_lines p (procedure q))) c.deref.result.now ++ text_of (statements p (syntax.block b) ++ last)))) c.deref-2.ensures.value
          ∙ four_parts p c.deref.result.now c.args.program.now.procs.items c.deref.ensures.value refl);
      text = printed_text p c.requires.parsed;
      short = short_text (printed p) (relined_tree p) (printed_text p c.requires.parsed);
      same = same_but_lines p;
    }
