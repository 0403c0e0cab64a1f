use Rattle.std.proofs.Common.{◌≡◌, suc, ◌-◌, ◌<◌, length, ap, sym, ◌∙◌, arith}
use Rattle.std.proofs.lemmas.List.{length-map}
use Rattle.sial_syntax.specs.Spaces.{Cut, among}
use Rattle.index_spaces.specs.declared.extent.Extent.{Extent}
use Rattle.index_spaces.proofs.SegmentLemmas.{is_segment}
use Rattle.index_spaces.proofs.cuts.Cuts.segment.Goals as goal

pub returns-clause-value : goal.returns-clause-value
returns-clause-value c =
    let k : c.args.number ≡ suc (c.args.number - 1) = omega arith in
    let long : length c.args.self.now.segments ≡ length c.self.inside.segments.items =
    ap (λ (cut : Cut). length cut.segments) (sym c.self.view_is) ∙ length-map c.self.inside.segments.items (λ (e : Extent). e.len) in
    let within : c.args.number - 1 < length c.self.inside.segments.items = omega arith in
    is_segment c.self.inside.segments.items c.args.number (c.args.number - 1) c.index.result.now c.self.invariant.0 k within c.index.ensures
    ∙ ap (λ (cut : Cut). among cut.segments c.args.number) c.self.view_is
