use Rattle.std.proofs.Common.{◌≡◌, ◌∙◌, ◌++◌, ◌∷◌, [], None, ap, sym, subst, map, List, ℕ}
use Rattle.sial_parser.specs.Names.{entry, seen}
use Rattle.sial_parser.specs.Scope.{thing_of}
use Rattle.sial_parser.proofs.NamesLemmas.{inserted}
use Rattle.sial_parser.proofs.scope.Names.declare.Goals as goal

pub returns : goal.returns
returns c =
    let name = c.in_ok-key.ensures.items in
    let free = subst (λ (x : List ℕ). thing_of (seen c.args.self.now) x ≡ None) (sym name) c.requires in
    ap (map entry) c.in_ok-insert.ensures.entries ∙ inserted c.in_ok-key.key c.args.thing c.args.self.now.things.entries free
    ∙ ap (λ (x : List ℕ). seen c.args.self.now ++ record { name = x; thing = c.args.thing } ∷ []) name
