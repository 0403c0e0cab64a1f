-- Statements of the code's tree, as they are seen.
use Rattle.std.proofs.Common.{◌≡◌, ℕ, List, [], ◌∷◌, ◌++◌, Option, Some, None, option_map, refl, sym, ap, ◌∙◌}
use Rattle.std.specs.Global.{Vec}
use Rattle.std.specs.List.{flat_map}
use Rattle.sial_syntax.specs.Tree.{Tree, Plain, Do, DoIn, Pardo, Get, Request, Put, Prepare, Allocate, Deallocate, block, plain_form, plain_layer, with_line, branches, Block}
use Rattle.sial_syntax.specs.declared.access.Access.{Access}
use Rattle.sial_syntax.specs.declared.condition.Cond.{Cond}
use Rattle.sial_syntax.specs.declared.operand.BlockRef.{BlockRef}
use Rattle.sial_syntax.specs.declared.operand.Slot.{Slot}
use Rattle.sial_syntax.specs.declared.statement.Form as form
use Rattle.sial_syntax.specs.declared.statement.Form.{fold_out-Form}
use Rattle.sial_syntax.specs.declared.statement.Form.TheFolds.{fold-roll-Form}
use Rattle.sial_syntax.specs.declared.statement.Form.TheOpen as layer
use Rattle.sial_syntax.specs.declared.statement.Form.TheVariants.{rolls-Do, rolls-DoIn, rolls-Pardo, rolls-If}
use Rattle.sial_syntax.specs.declared.statement.Stmt.{Stmt}
use Rattle.sial_syntax.proofs.TreeLemmas.{seen_block}
use Rattle.sial_parser.specs.declared.keyword.Keyword.TheVariants as key
use Rattle.sial_parser.specs.declared.word.Symbol.TheVariants.{Key}
use Rattle.sial_printer.specs.Lines.{statement, statements, last_branch}
use Rattle.sial_printer.specs.Symbols.{cond_symbols}
use Rattle.sial_printer.specs.Spelling.{text_of}
use Rattle.sial_printer.proofs.SpacedLemmas.{text-append}

pub seen_do_loop : (index : ℕ) (body : Vec Stmt) → plain_form (form.Do index body) ≡ Do index (block body.items)
seen_do_loop index body = ap plain_form (sym (rolls-Do index body)) ∙ fold-roll-Form Plain (ℕ × Plain) plain_layer with_line (layer.Do index body)

pub seen_do_in : (sub index : ℕ) (body : Vec Stmt) → plain_form (form.DoIn sub index body) ≡ DoIn sub index (block body.items)
seen_do_in sub index body = ap plain_form (sym (rolls-DoIn sub index body)) ∙ fold-roll-Form Plain (ℕ × Plain) plain_layer with_line (layer.DoIn sub index body)

pub seen_pardo : (indices : Vec ℕ) (wheres : Vec Cond) (body : Vec Stmt) → plain_form (form.Pardo indices wheres body) ≡ Pardo indices.items wheres.items (block body.items)
seen_pardo indices wheres body = ap plain_form (sym (rolls-Pardo indices wheres body)) ∙ fold-roll-Form Plain (ℕ × Plain) plain_layer with_line (layer.Pardo indices wheres body)

pub seen_branches : (c : Cond) (first : Vec Stmt) (other : Option (Vec Stmt)) → plain_form (form.If c first other) ≡ branches c (block first.items) (option_map (λ (b : Vec Stmt). block b.items) other)
seen_branches c first None = ap plain_form (sym (rolls-If c first None)) ∙ fold-roll-Form Plain (ℕ × Plain) plain_layer with_line (layer.If c first None)
seen_branches c first (Some other) = ap plain_form (sym (rolls-If c first (Some other))) ∙ fold-roll-Form Plain (ℕ × Plain) plain_layer with_line (layer.If c first (Some other))

pub seen_get : (b : BlockRef) → plain_form (form.Get b) ≡ Get b
unfolding form.out-Form denote.Hole.Carrier.out
seen_get b = fold_out-Form Plain (ℕ × Plain) plain_layer with_line (form.Get b)

pub seen_request : (b : BlockRef) → plain_form (form.Request b) ≡ Request b
unfolding form.out-Form denote.Hole.Carrier.out
seen_request b = fold_out-Form Plain (ℕ × Plain) plain_layer with_line (form.Request b)

pub seen_put : (b : BlockRef) (how : Access) (from : BlockRef) → plain_form (form.Put b how from) ≡ Put b how from
unfolding form.out-Form denote.Hole.Carrier.out
seen_put b how from = fold_out-Form Plain (ℕ × Plain) plain_layer with_line (form.Put b how from)

pub seen_prepare : (b : BlockRef) (how : Access) (from : BlockRef) → plain_form (form.Prepare b how from) ≡ Prepare b how from
unfolding form.out-Form denote.Hole.Carrier.out
seen_prepare b how from = fold_out-Form Plain (ℕ × Plain) plain_layer with_line (form.Prepare b how from)

pub seen_allocate : (a : ℕ) (at : Vec Slot) → plain_form (form.Allocate a at) ≡ Allocate a at.items
unfolding form.out-Form denote.Hole.Carrier.out
seen_allocate a at = fold_out-Form Plain (ℕ × Plain) plain_layer with_line (form.Allocate a at)

pub seen_deallocate : (a : ℕ) (at : Vec Slot) → plain_form (form.Deallocate a at) ≡ Deallocate a at.items
unfolding form.out-Form denote.Hole.Carrier.out
seen_deallocate a at = fold_out-Form Plain (ℕ × Plain) plain_layer with_line (form.Deallocate a at)

-- the text of statements, one after another
pub statements_text : (p : Tree) (stmts : List Stmt) → flat_map (λ (s : Stmt). text_of (statement p (plain_form s.form))) stmts ≡ text_of (statements p (block stmts))
statements_text p [] = refl
statements_text p (s ∷ ss) =
    ap (λ t. text_of (statement p (plain_form s.form)) ++ t) (statements_text p ss)
    ∙ sym (text-append (statement p (plain_form s.form)) (statements p (block ss)))
    ∙ sym (ap (λ b. text_of (statements p b)) (seen_block s ss))

-- the text of an `if`
pub branches_text : (p : Tree) (c : Cond) (first : Block) (other : Option Block) → text_of ((Key key.If ∷ cond_symbols p c) ∷ statements p first) ++ text_of (last_branch p (branches c first other)) ≡ text_of (statement p (branches c first other))
branches_text p c first None = sym (text-append ((Key key.If ∷ cond_symbols p c) ∷ statements p first) (last_branch p (branches c first None)))
branches_text p c first (Some other) = sym (text-append ((Key key.If ∷ cond_symbols p c) ∷ statements p first) (last_branch p (branches c first (Some other))))
