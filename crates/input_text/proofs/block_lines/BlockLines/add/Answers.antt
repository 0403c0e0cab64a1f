use Rattle.std.proofs.Common.{ℕ, List, not, ◌&&◌, ap, ◌∙◌}
use Rattle.std.specs.Str.{bytes_eq}
use Rattle.input_text.specs.Adding.{has_block}
use Rattle.input_text.specs.Seen.{key_of, block_key, starts}
use Rattle.input_text.proofs.SetLemmas.{asked}
use Rattle.input_text.proofs.block_lines.BlockLines.add.Goals as goal

pub returns-in_ok-push-clause-new : goal.returns-in_ok-push-clause-new
returns-in_ok-push-clause-new c =
    c.in_ok-new.ensures.added
    ∙ ap not (asked key_of block_key (λ (k : List ℕ × List ℕ). bytes_eq c.in_ok-name.name.name.items k.0 && bytes_eq c.in_ok-name.name.segments.items k.1) c.args.self.now.names.keys (starts c.args.self.now) c.requires)
    ∙ ap (λ (k : List ℕ × List ℕ). not (has_block (starts c.args.self.now) k.0 k.1)) c.in_ok-name.ensures

pub returns-else-new-clause-new : goal.returns-else-new-clause-new
returns-else-new-clause-new c =
    c.in_ok-new.ensures.added
    ∙ ap not (asked key_of block_key (λ (k : List ℕ × List ℕ). bytes_eq c.in_ok-name.name.name.items k.0 && bytes_eq c.in_ok-name.name.segments.items k.1) c.args.self.now.names.keys (starts c.args.self.now) c.requires)
    ∙ ap (λ (k : List ℕ × List ℕ). not (has_block (starts c.args.self.now) k.0 k.1)) c.in_ok-name.ensures
