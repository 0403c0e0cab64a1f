use Rattle.std.proofs.Common.{◌+◌, List, ◌∷◌, ◌++◌, [], drop, map, option_map, Ok, Err, ap, sym, ◌∙◌}
use Rattle.std.specs.Global.{Vec}
use Rattle.std.specs.List.{flat_map}
use Rattle.std.proofs.lemmas.List.{take_all}
use Rattle.sial_syntax.specs.Tree as syntax
use Rattle.sial_syntax.specs.Tree.{tree, plain_form, branches}
use Rattle.sial_syntax.specs.declared.statement.Stmt.{Stmt}
use Rattle.sip_files.proofs.SinkLemmas.{then_wrote, stopped}
use Rattle.sial_parser.specs.declared.keyword.Keyword.TheVariants as key
use Rattle.sial_parser.specs.declared.word.Symbol.{Symbol}
use Rattle.sial_parser.specs.declared.word.Symbol.TheVariants.{Key, Name}
use Rattle.sial_printer.proofs.Writes.{first_failed, both_wrote, same_text, entries_split, entries_more, up_to_item, from_item}
use Rattle.sial_printer.proofs.SpacedLemmas.{text-append, mapped_text, headed, headed_two}
use Rattle.sial_printer.proofs.SeenLemmas.{seen_do_loop, seen_do_in, seen_pardo, seen_branches, branches_text, statements_text}
use Rattle.sial_printer.specs.Parts.{all_symbols}
use Rattle.sial_printer.specs.Symbols.{index_name, names, cond_symbols}
use Rattle.sial_printer.specs.Lines.{where_line, statement, statements, last_branch}
use Rattle.sial_printer.specs.Spelling.{text_of}
use Rattle.sial_printer.proofs.statements.+printing.Goals as goal

pub statements-returns-in_err-statement : goal.statements-returns-in_err-statement
statements-returns-in_err-statement g t c =
    let p = tree c.args.program.now in
    let text = λ (s : Stmt). text_of (statement p (plain_form s.form)) in
    let xs = c.args.stmts.now in
    let i = c.loop-stmt.stmt-index in
    let x = c.stmt-item.result in
    first_failed _ (flat_map text (drop (i + 1) xs)) c.from_residual.result (then_wrote (Err c.in_err-statement.field-0.0) c.loop-stmt.invariant c.in_err-statement.ensures) c.from_residual.ensures.0
    (entries_split text xs i x (from_item xs i x c.loop-stmt-test.true c.stmt-item.is) ∙ statements_text p xs)

pub statements-loop-stmt-preserved : goal.statements-loop-stmt-preserved
statements-loop-stmt-preserved g t c =
    let p = tree c.args.program.now in
    let xs = c.args.stmts.now in
    let i = c.loop-stmt.stmt-index in
    let x = c.stmt-item.result in
    both_wrote _ (Ok tt) c.loop-stmt.invariant c.in_ok-statement.ensures (entries_more (λ (s : Stmt). text_of (statement p (plain_form s.form))) xs i x (up_to_item xs i x c.loop-stmt-test.true c.stmt-item.is))

pub statements-returns : goal.statements-returns
statements-returns g t c =
    let p = tree c.args.program.now in
    let xs = c.args.stmts.now in
    same_text (Ok tt) (ap (flat_map (λ (s : Stmt). text_of (statement p (plain_form s.form)))) (take_all c.loop-stmt.stmt-index xs c.loop-stmt-test.false) ∙ statements_text p xs) c.loop-stmt.invariant

pub closed-returns-in_err-statements : goal.closed-returns-in_err-statements
closed-returns-in_err-statements g t c =
    let p = tree c.args.program.now in
    let last = (Key c.args.key ∷ all_symbols p c.args.parts.now) ∷ [] in
    first_failed _ (text_of last) c.from_residual.result c.in_err-statements.ensures c.from_residual.ensures.0 (sym (text-append (statements p (syntax.block c.args.body.now)) last))

pub closed-returns : goal.closed-returns
closed-returns g t c =
    let p = tree c.args.program.now in
    both_wrote _ c.line.result c.in_ok-statements.ensures c.line.ensures (sym (text-append (statements p (syntax.block c.args.body.now)) ((Key c.args.key ∷ all_symbols p c.args.parts.now) ∷ [])))

pub do_loop-returns-in_err-line : goal.do_loop-returns-in_err-line
do_loop-returns-in_err-line g t c =
    let p = tree c.args.program.now in
    let name : List Symbol = Name (index_name p c.args.index) ∷ [] in
    let rest = statements p (syntax.block c.args.body.now) ++ (Key key.EndDo ∷ name) ∷ [] in
    first_failed _ (text_of rest) c.from_residual.result c.in_err-line.ensures c.from_residual.ensures.0 (headed (Key key.Do ∷ name) rest)

pub do_loop-returns : goal.do_loop-returns
do_loop-returns g t c =
    let p = tree c.args.program.now in
    let name : List Symbol = Name (index_name p c.args.index) ∷ [] in
    both_wrote _ c.closed.result c.in_ok-line.ensures c.closed.ensures (headed (Key key.Do ∷ name) (statements p (syntax.block c.args.body.now) ++ (Key key.EndDo ∷ name) ∷ []))

pub do_in-returns-in_err-line : goal.do_in-returns-in_err-line
do_in-returns-in_err-line g t c =
    let p = tree c.args.program.now in
    let name : Symbol = Name (index_name p c.args.sub) in
    let rest = statements p (syntax.block c.args.body.now) ++ (Key key.EndDo ∷ name ∷ []) ∷ [] in
    first_failed _ (text_of rest) c.from_residual.result c.in_err-line.ensures c.from_residual.ensures.0 (headed (Key key.Do ∷ name ∷ Key key.In ∷ Name (index_name p c.args.index) ∷ []) rest)

pub do_in-returns : goal.do_in-returns
do_in-returns g t c =
    let p = tree c.args.program.now in
    let name : Symbol = Name (index_name p c.args.sub) in
    both_wrote _ c.closed.result c.in_ok-line.ensures c.closed.ensures (headed (Key key.Do ∷ name ∷ Key key.In ∷ Name (index_name p c.args.index) ∷ []) (statements p (syntax.block c.args.body.now) ++ (Key key.EndDo ∷ name ∷ []) ∷ []))

pub pardo-returns-in_err-line : goal.pardo-returns-in_err-line
pardo-returns-in_err-line g t c =
    let p = tree c.args.program.now in
    let list = names p c.args.indices.now [] in
    let rest = map (where_line p) c.args.wheres.now ++ (statements p (syntax.block c.args.body.now) ++ (Key key.EndPardo ∷ list) ∷ []) in
    first_failed _ (text_of rest) c.from_residual.result c.in_err-line.ensures c.from_residual.ensures.0 (headed (Key key.Pardo ∷ list) rest)

pub pardo-returns-in_err-all : goal.pardo-returns-in_err-all
pardo-returns-in_err-all g t c =
    let p = tree c.args.program.now in
    let list = names p c.args.indices.now [] in
    let first = Key key.Pardo ∷ list in
    let behind = statements p (syntax.block c.args.body.now) ++ (Key key.EndPardo ∷ list) ∷ [] in
    both_wrote _ c.from_residual-in_err-all.result c.in_ok-line.ensures (stopped (text_of behind) c.from_residual-in_err-all.result c.in_err-all.ensures c.from_residual-in_err-all.ensures.0)
    (ap (λ b. text_of (first ∷ []) ++ (b ++ text_of behind)) (mapped_text (where_line p) c.args.wheres.now) ∙ headed_two first (map (where_line p) c.args.wheres.now) behind)

pub pardo-returns : goal.pardo-returns
pardo-returns g t c =
    let p = tree c.args.program.now in
    let list = names p c.args.indices.now [] in
    let first = Key key.Pardo ∷ list in
    let behind = statements p (syntax.block c.args.body.now) ++ (Key key.EndPardo ∷ list) ∷ [] in
    both_wrote _ c.closed.result c.in_ok-line.ensures (then_wrote c.closed.result c.in_ok-all.ensures c.closed.ensures)
    (ap (λ b. text_of (first ∷ []) ++ (b ++ text_of behind)) (mapped_text (where_line p) c.args.wheres.now) ∙ headed_two first (map (where_line p) c.args.wheres.now) behind)

pub statement-returns-in-Do : goal.statement-returns-in-Do
statement-returns-in-Do g t c =
    let p = tree c.args.program.now in
    let i = c.in-Do.index in
    same_text c.do_loop.result
    (ap (λ b. text_of (statement p (syntax.Do i (syntax.block b)))) c.as_slice.ensures.value ∙ sym (ap (λ x. text_of (statement p x)) (ap plain_form c.in-Do.is ∙ seen_do_loop i c.in-Do.body)))
    c.do_loop.ensures

pub statement-returns-in-DoIn : goal.statement-returns-in-DoIn
statement-returns-in-DoIn g t c =
    let p = tree c.args.program.now in
    let ii = c.in-DoIn.sub in
    let i = c.in-DoIn.index in
    same_text c.do_in.result
    (ap (λ b. text_of (statement p (syntax.DoIn ii i (syntax.block b)))) c.as_slice-in-DoIn.ensures.value ∙ sym (ap (λ x. text_of (statement p x)) (ap plain_form c.in-DoIn.is ∙ seen_do_in ii i c.in-DoIn.body)))
    c.do_in.ensures

pub statement-returns-in-Pardo : goal.statement-returns-in-Pardo
statement-returns-in-Pardo g t c =
    let p = tree c.args.program.now in
    let is = c.in-Pardo.indices in
    let cs = c.in-Pardo.wheres in
    let b = c.in-Pardo.body in
    same_text c.pardo.result
    (ap (λ js. text_of (statement p (syntax.Pardo js c.as_slice-in-Pardo-2.result.now (syntax.block c.as_slice-in-Pardo-3.result.now)))) c.as_slice-in-Pardo.ensures.value
    ∙ ap (λ ds. text_of (statement p (syntax.Pardo is.items ds (syntax.block c.as_slice-in-Pardo-3.result.now)))) c.as_slice-in-Pardo-2.ensures.value
    ∙ ap (λ d. text_of (statement p (syntax.Pardo is.items cs.items (syntax.block d)))) c.as_slice-in-Pardo-3.ensures.value
    ∙ sym (ap (λ x. text_of (statement p x)) (ap plain_form c.in-Pardo.is ∙ seen_pardo is cs b)))
    c.pardo.ensures

pub first_branch-returns-in_err-line : goal.first_branch-returns-in_err-line
first_branch-returns-in_err-line g t c =
    let p = tree c.args.program.now in
    let rest = statements p (syntax.block c.args.body.now) in
    first_failed _ (text_of rest) c.from_residual.result c.in_err-line.ensures c.from_residual.ensures.0
    (ap (λ xs. text_of ((Key key.If ∷ all_symbols p xs) ∷ []) ++ text_of rest) c.cond_parts.ensures ∙ headed (Key key.If ∷ cond_symbols p c.args.cond.now) rest)

pub first_branch-returns : goal.first_branch-returns
first_branch-returns g t c =
    let p = tree c.args.program.now in
    let rest = statements p (syntax.block c.args.body.now) in
    both_wrote _ c.statements.result c.in_ok-line.ensures c.statements.ensures
    (ap (λ xs. text_of ((Key key.If ∷ all_symbols p xs) ∷ []) ++ text_of rest) c.cond_parts.ensures ∙ headed (Key key.If ∷ cond_symbols p c.args.cond.now) rest)

pub other_branch-returns-in_err-line : goal.other_branch-returns-in_err-line
other_branch-returns-in_err-line g t c =
    let rest = statements (tree c.args.program.now) (syntax.block c.args.body.now) ++ (Key key.EndIf ∷ []) ∷ [] in
    first_failed _ (text_of rest) c.from_residual.result c.in_err-line.ensures c.from_residual.ensures.0 (headed (Key key.Else ∷ []) rest)

pub other_branch-returns : goal.other_branch-returns
other_branch-returns g t c =
    both_wrote _ c.closed.result c.in_ok-line.ensures c.closed.ensures (headed (Key key.Else ∷ []) (statements (tree c.args.program.now) (syntax.block c.args.body.now) ++ (Key key.EndIf ∷ []) ∷ []))

pub statement-returns-in_err-first_branch-in-If : goal.statement-returns-in_err-first_branch-in-If
statement-returns-in_err-first_branch-in-If g t c =
    let p = tree c.args.program.now in
    let d = c.in-If.cond in
    let first = c.in-If.then_body in
    let other = option_map (λ (b : Vec Stmt). syntax.block b.items) c.in-If.else_body in
    let seen = ap plain_form c.in-If.is ∙ seen_branches d first c.in-If.else_body in
    first_failed _ (text_of (last_branch p (branches d (syntax.block first.items) other))) c.from_residual.result c.in_err-first_branch-in-If.ensures c.from_residual.ensures.0
    (ap (λ b. text_of ((Key key.If ∷ cond_symbols p d) ∷ statements p (syntax.block b)) ++ text_of (last_branch p (branches d (syntax.block first.items) other))) c.as_slice-in-If.ensures.value
    ∙ branches_text p d (syntax.block first.items) other
    ∙ sym (ap (λ x. text_of (statement p x)) seen))

pub statement-returns-in_ok-first_branch-in-If : goal.statement-returns-in_ok-first_branch-in-If
statement-returns-in_ok-first_branch-in-If g t c =
    let p = tree c.args.program.now in
    let d = c.in-If.cond in
    let first = c.in-If.then_body in
    let other = option_map (λ (b : Vec Stmt). syntax.block b.items) c.in-If.else_body in
    let seen = ap plain_form c.in-If.is ∙ seen_branches d first c.in-If.else_body in
    both_wrote _ c.last_branch.result c.in_ok-first_branch-in-If.ensures c.last_branch.ensures
    (ap (λ b. text_of ((Key key.If ∷ cond_symbols p d) ∷ statements p (syntax.block b)) ++ text_of (last_branch p (plain_form c.args.form.now))) c.as_slice-in-If.ensures.value
    ∙ ap (λ x. text_of ((Key key.If ∷ cond_symbols p d) ∷ statements p (syntax.block first.items)) ++ text_of (last_branch p x)) seen
    ∙ branches_text p d (syntax.block first.items) other
    ∙ sym (ap (λ x. text_of (statement p x)) seen))
