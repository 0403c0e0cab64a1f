use Rattle.std.proofs.Common.{◌≡◌, ◌+◌, ◌-◌, drop}
use Rattle.sial_syntax.specs.Boxes.{numbers_from}
use Rattle.sial_syntax.specs.Tree.{block}
use Rattle.sip_setting.specs.Seen.{setting_of}
use Rattle.first_profile.specs.Fits.{Fits}
use Rattle.first_profile.specs.Ran.{RanSoFar}
use Rattle.first_profile.proofs.StatementsLemmas.{Left}
use Rattle.first_profile.specs.Running.{with_value}
use Rattle.first_profile.proofs.Worked.{ran, body_lines, through, lines_through}
use Rattle.first_profile.proofs.statements.+running.Given as goal

-- the numbers fit, the statements that are left give what all give, and their lines are left
abbrev pub invariant-run_body-loop-stmt : goal.invariant-run_body-loop-stmt
invariant-run_body-loop-stmt types l =
    Left (setting_of l.granted) l.within (block (drop l.stmt-index l.stmts)) (ran (setting_of l.granted) (block l.stmts) l.fn.machine) l.machine
    × RanSoFar (types.K.Sink.written l.fn.out) (types.K.Sink.written l.out) (types.K.Sink.faults l.fn.out) (types.K.Sink.faults l.out) (types.K.Sink.kept l.fn.out) (types.K.Sink.kept l.out) (body_lines (setting_of l.granted) (block l.stmts) l.fn.machine) (body_lines (setting_of l.granted) (block (drop l.stmt-index l.stmts)) l.machine)

-- the numbers fit, the turns that are left give what all give, and their lines are left
abbrev pub invariant-run_loop-loop-turn : goal.invariant-run_loop-loop-turn
invariant-run_loop-loop-turn types l =
    Fits (setting_of l.granted) l.machine
    × (through (numbers_from (l.first + l.turn) (l.count - l.turn)) (λ k n. ran (setting_of l.granted) (block l.stmts) (with_value l.index k n)) l.machine
    ≡ through (numbers_from l.first l.count) (λ k n. ran (setting_of l.granted) (block l.stmts) (with_value l.index k n)) l.fn.machine)
    × RanSoFar (types.K.Sink.written l.fn.out) (types.K.Sink.written l.out) (types.K.Sink.faults l.fn.out) (types.K.Sink.faults l.out) (types.K.Sink.kept l.fn.out) (types.K.Sink.kept l.out)
    (lines_through (numbers_from l.first l.count) (λ k n. ran (setting_of l.granted) (block l.stmts) (with_value l.index k n)) (λ k n. body_lines (setting_of l.granted) (block l.stmts) (with_value l.index k n)) l.fn.machine)
    (lines_through (numbers_from (l.first + l.turn) (l.count - l.turn)) (λ k n. ran (setting_of l.granted) (block l.stmts) (with_value l.index k n)) (λ k n. body_lines (setting_of l.granted) (block l.stmts) (with_value l.index k n)) l.machine)
