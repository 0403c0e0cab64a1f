-- How the plain tree of a body begins.
use Rattle.std.proofs.Common.{◌≡◌, ℕ, ◌+◌, ◌<◌, List, ◌∷◌, length, drop, slice_index_or, ap, sym, ◌∙◌}
use Rattle.std.proofs.lemmas.List.{drop_more}
use Rattle.sial_syntax.specs.Tree.{Then, Plain, PrintScalar, block, plain_stmt, plain_form, plain_layer, with_line}
use Rattle.sial_syntax.specs.declared.statement.Form as form
use Rattle.sial_syntax.specs.declared.statement.Form.{fold_out-Form}
use Rattle.sial_syntax.specs.declared.statement.Stmt.{Stmt, fold_out-Stmt}

-- a statement as it is seen: its line and what it says
pub seen_stmt : (x : Stmt) → plain_stmt x ≡ (x.line, plain_form x.form)
seen_stmt x = fold_out-Stmt Plain (ℕ × Plain) plain_layer with_line x

-- a body as it is seen: its first statement, and the others
pub seen_block : (x : Stmt) (xs : List Stmt) → block (x ∷ xs) ≡ Then x.line (plain_form x.form) (block xs)
seen_block x xs = ap (λ (p : ℕ × Plain). Then p.0 p.1 (block xs)) (seen_stmt x)

-- what is left of a body begins with the statement at hand
pub seen_rest : (xs : List Stmt) (i : ℕ) (x : Stmt) → i < length xs → x ≡ slice_index_or xs i x → block (drop i xs) ≡ Then x.line (plain_form x.form) (block (drop (i + 1) xs))
seen_rest xs i x within is =
    ap block (drop_more xs i x within ∙ ap (λ y. y ∷ drop (i + 1) xs) (sym is)) ∙ seen_block x (drop (i + 1) xs)

-- a printed scalar as it is seen
pub seen_print : (scalar : ℕ) → plain_form (form.PrintScalar scalar) ≡ PrintScalar scalar
unfolding form.out-Form denote.Hole.Carrier.out
seen_print scalar = fold_out-Form Plain (ℕ × Plain) plain_layer with_line (form.PrintScalar scalar)
