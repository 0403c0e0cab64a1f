use Rattle.std.proofs.Common.{subst}
use Rattle.sip_tables.specs.declared.instruction.Operation.{Operation}
use Rattle.sip_setting.specs.Seen.{setting_of}
use Rattle.code_places.specs.ItemLaws.{IsHeadOf}
use Rattle.exec_control.proofs.LoopArms.{turn_arm}
use Rattle.exec_control.proofs.LoopLemmas.{head_says, turn_declared, no_other_head}
use Rattle.exec_control.proofs.control.Control.end_turn.Goals as goal

pub turn-requires : goal.turn-requires
turn-requires c =
    let g = setting_of c.args.job.now in
    let s = c.requires.stands in
    let says = head_says g s.0 c.args.head c.instruction.result.now s.3 c.instruction.ensures in
    let head = subst (λ (o : Operation). IsHeadOf s.3.loop o) c.in-Do.is says in
    record { declared = turn_declared g c.args.self.now s.0 s.1 c.args.head c.in-Do.index s.2 s.3 head.0 }

pub turn-requires-in-DoIn : goal.turn-requires-in-DoIn
turn-requires-in-DoIn c =
    let g = setting_of c.args.job.now in
    let s = c.requires.stands in
    let says = head_says g s.0 c.args.head c.instruction.result.now s.3 c.instruction.ensures in
    let head = subst (λ (o : Operation). IsHeadOf s.3.loop o) c.in-DoIn.is says in
    record { declared = turn_declared g c.args.self.now s.0 s.1 c.args.head c.in-DoIn.sub s.2 s.3 head.0 }

pub returns-in-Do : goal.returns-in-Do
returns-in-Do c = record {
  does = λ rest own st turn.
      let g = setting_of c.args.job.now in
      let head = subst (λ (o : Operation). IsHeadOf turn.loop o) c.in-Do.is (head_says g rest c.args.head c.instruction.result.now turn c.instruction.ensures) in
      turn_arm g c.args.self.now c.turn.new.self rest own c.args.head c.in-Do.index c.in-Do.past st turn head.0 head.1 c.turn.ensures.on c.turn.ensures.over;
}

pub returns-in-DoIn : goal.returns-in-DoIn
returns-in-DoIn c = record {
  does = λ rest own st turn.
      let g = setting_of c.args.job.now in
      let head = subst (λ (o : Operation). IsHeadOf turn.loop o) c.in-DoIn.is (head_says g rest c.args.head c.instruction.result.now turn c.instruction.ensures) in
      turn_arm g c.args.self.now c.turn-in-DoIn.new.self rest own c.args.head c.in-DoIn.sub c.in-DoIn.past st turn head.0 head.1 c.turn-in-DoIn.ensures.on c.turn-in-DoIn.ensures.over;
}

pub returns-in_default : goal.returns-in_default
returns-in_default c = record {
  does = λ rest own st turn.
      let g = setting_of c.args.job.now in
      let n = c.in_default.not-Do in let m = c.in_default.not-DoIn in
      absurd (no_other_head turn.loop c.instruction.result.now.operation (head_says g rest c.args.head c.instruction.result.now turn c.instruction.ensures) (λ index past is. c.in_default.not-Do index past is) (λ sub index past is. c.in_default.not-DoIn sub index past is));
}
