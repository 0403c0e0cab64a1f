use Rattle.std.proofs.Common.{◌≡◌, map, drop, ℕ, List, Bor}
use Rattle.sial_parser.specs.Words.{entry_of}
use Rattle.sial_parser.proofs.spelling.look_up.Given as goal

-- what the entries that are left say
abbrev pub invariant-loop-known : goal.invariant-loop-known
invariant-loop-known g l = entry_of (map (λ (e : Bor (List ℕ) × g.row.X.Denot). (e.0.now, e.1)) (drop l.known-index l.table)) l.spelling ≡ entry_of (map (λ (e : Bor (List ℕ) × g.row.X.Denot). (e.0.now, e.1)) l.table) l.spelling
