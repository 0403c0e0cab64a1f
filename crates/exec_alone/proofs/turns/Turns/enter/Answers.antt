use Rattle.std.proofs.Common.{◌≡◌, ℕ, List, [], ◌∷◌, ◌++◌, Result, sym, ap, ◌∙◌, subst}
use Rattle.sip_setting.specs.Seen.{setting_of}
use Rattle.sial_meaning.specs.Control.{Led, control}
use Rattle.sial_meaning.specs.Next.{Task}
use Rattle.exec_control.specs.Stands.{IsControl}
use Rattle.exec_alone.specs.Alone.{GoesAlone}
use Rattle.exec_alone.specs.declared.halt.Halt.{Halt}
use Rattle.exec_alone.specs.Turns.{turns_of}
use Rattle.exec_alone.proofs.TurnLemmas.{TaskTurns, TurnsAre, control-turns}
use Rattle.exec_alone.proofs.AloneLemmas.{goes-alone, none-entering}
use Rattle.exec_alone.proofs.turns.Turns.enter.Goals as goal

pub returns-clause-does : goal.returns-clause-does
returns-clause-does c = λ rest own partials st is.
    let g = setting_of c.args.job.now in
    let old = c.args.pool.now in
    let before = c.args.local.now in
    let was = c.args.self.now in
    let now = c.begin.new.self in
    let to : Led = control g rest own in
    let led = c.go.ensures.does rest own partials st.local (subst IsControl (sym is) tt) in
    let first : TurnsAre (turns_of rest ++ 0 ∷ []) to = subst (λ (t : Task). TaskTurns t (turns_of rest) to) is (control-turns g rest own) in
    let are : TurnsAre now to = subst (λ (ts : List ℕ). TurnsAre ts to) (sym (c.in_ok-begin.ensures.ok ∙ ap (λ (ts : List ℕ). ts ++ 0 ∷ []) st.turns_are)) first in
    subst (λ (r : Result (Unit {0}) Halt). GoesAlone g old c.go.new.pool before c.go.new.self was now partials to r) (sym c.halting.ensures)
    (goes-alone g old c.go.new.pool before c.go.new.self was now partials to c.go.result are (λ trap halts. none-entering g rest own trap now was is halts) led)
