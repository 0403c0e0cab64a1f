use Rattle.std.proofs.Common.{ℕ, List, not, ap, ◌∙◌}
use Rattle.std.specs.Str.{bytes_eq}
use Rattle.input_text.specs.Adding.{has_scalar}
use Rattle.input_text.specs.Seen.{bytes_of, scalar_name}
use Rattle.input_text.proofs.SetLemmas.{asked}
use Rattle.input_text.proofs.scalar_lines.ScalarLines.add.Goals as goal

pub returns-in_ok-push-clause-new : goal.returns-in_ok-push-clause-new
returns-in_ok-push-clause-new c =
    c.in_ok-new.ensures.added ∙ ap not (asked bytes_of scalar_name (λ (n : List ℕ). bytes_eq c.in_ok-name.name.items n) c.args.self.now.names.keys c.args.self.now.lines.items c.requires)
    ∙ ap (λ n. not (has_scalar c.args.self.now.lines.items n)) (c.in_ok-name.ensures.items ∙ c.as_slice.ensures)

pub returns-else-new-clause-new : goal.returns-else-new-clause-new
returns-else-new-clause-new c =
    c.in_ok-new.ensures.added ∙ ap not (asked bytes_of scalar_name (λ (n : List ℕ). bytes_eq c.in_ok-name.name.items n) c.args.self.now.names.keys c.args.self.now.lines.items c.requires)
    ∙ ap (λ n. not (has_scalar c.args.self.now.lines.items n)) (c.in_ok-name.ensures.items ∙ c.as_slice.ensures)
