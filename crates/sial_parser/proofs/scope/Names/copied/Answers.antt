use Rattle.std.proofs.Common.{◌++◌, ◌∷◌, [], map, refl, ap, sym, ◌∙◌, append_assoc, append-nil}
use Rattle.sial_parser.specs.Names as spec
use Rattle.sial_parser.proofs.DistinctLemmas.{free_before}
use Rattle.sial_parser.proofs.scope.Names.copied.Goals as goal

pub loop-name-init : goal.loop-name-init
loop-name-init c = rw (c.new-names.ensures, c.into_iter-name-iterator.ensures.into_iter_gives, c.iter-name-items.ensures.rest) refl

-- the next name is new
pub declare-requires : goal.declare-requires
declare-requires c =
    rw c.as_slice.ensures.value
    (free_before (spec.seen c.loop-name.names) (c.in-Some.name.now, c.in-Some.thing.now) c.next.new.self c.args.self.now.things.entries c.iter-name-items.ensures.unique
    (ap (λ t. spec.seen c.loop-name.names ++ map spec.entry t) (sym c.in-Some.ensures.steps) ∙ c.loop-name.invariant))

-- one more name
pub loop-name-preserved : goal.loop-name-preserved
loop-name-preserved c =
    let declared = c.in_ok-declare.ensures ∙ ap (λ x. spec.seen c.loop-name.names ++ record { name = x; thing = c.in-Some.thing.now } ∷ []) c.as_slice.ensures.value in
    ap (λ s. s ++ map spec.entry c.next.new.self) declared ∙ append_assoc (spec.seen c.loop-name.names) (spec.entry (c.in-Some.name.now, c.in-Some.thing.now) ∷ []) (map spec.entry c.next.new.self)
    ∙ ap (λ t. spec.seen c.loop-name.names ++ map spec.entry t) (sym c.in-Some.ensures.steps) ∙ c.loop-name.invariant

-- all of them
pub returns : goal.returns
returns c = sym (append-nil (spec.seen c.loop-name.names)) ∙ ap (λ t. spec.seen c.loop-name.names ++ map spec.entry t) (sym c.in-None.ensures.steps.0) ∙ c.loop-name.invariant
