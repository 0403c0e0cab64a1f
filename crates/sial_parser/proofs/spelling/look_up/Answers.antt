use Rattle.std.proofs.Common.{ℕ, ◌+◌, List, Bor, cond, map, drop, Some, sym, ap, ◌∙◌}
use Rattle.sial_parser.specs.Words.{entry_of}
use Rattle.sial_parser.proofs.SpellingLemmas.{entry_turn}
use Rattle.sial_parser.proofs.spelling.look_up.Goals as goal

-- the entry is found
pub returns-then-eq : goal.returns-then-eq
returns-then-eq g c =
    sym (sym c.loop-known.invariant ∙ entry_turn (λ (e : Bor (List ℕ) × g.row.X.Denot). (e.0.now, e.1)) _ _ _ _ c.loop-known-test.true c.loop-known-item.is
    ∙ ap (λ b. cond b (Some c.loop-known-item.result.1) (entry_of (map (λ (e : Bor (List ℕ) × g.row.X.Denot). (e.0.now, e.1)) (drop (c.loop-known.known-index + 1) c.args.table.now)) c.args.spelling.now)) (sym c.eq.ensures ∙ c.if-eq.true))

-- another entry
pub loop-known-preserved : goal.loop-known-preserved
loop-known-preserved g c =
    sym (entry_turn (λ (e : Bor (List ℕ) × g.row.X.Denot). (e.0.now, e.1)) _ _ _ _ c.loop-known-test.true c.loop-known-item.is
    ∙ ap (λ b. cond b (Some c.loop-known-item.result.1) (entry_of (map (λ (e : Bor (List ℕ) × g.row.X.Denot). (e.0.now, e.1)) (drop (c.loop-known.known-index + 1) c.args.table.now)) c.args.spelling.now)) (sym c.eq.ensures ∙ c.if-eq.false))
    ∙ c.loop-known.invariant
