use Rattle.std.proofs.Common.{List, sym, subst}
use Rattle.sial_syntax.specs.BoxLaws.{AreSegments}
use Rattle.index_spaces.specs.declared.span.Span.{Span}
use Rattle.index_spaces.specs.Laid.{over}
use Rattle.index_spaces.specs.Placed.{Placed, spans_of}
use Rattle.index_spaces.proofs.spaces.Spaces.rank_of.Goals as goal

pub rank_in-requires-clause-within : goal.rank_in-requires-clause-within
rank_in-requires-clause-within c =
    subst (λ (spans : List Span). AreSegments (over (spans_of spans)) c.args.indices.now c.args.tuple.now) (sym c.as_slice.ensures.value)
    (subst (λ (p : Placed). AreSegments p.spaces c.args.indices.now c.args.tuple.now) (sym c.self.view_is) c.requires.within)
