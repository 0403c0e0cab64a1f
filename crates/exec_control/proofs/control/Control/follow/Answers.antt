use Rattle.std.proofs.Common.{◌≡◌, ℕ, ◌+◌, ◌<◌, ◌≤◌, List, length, get_or, sym, ap, ◌∙◌, subst, arith}
use Rattle.sial_syntax.specs.Spaces.{Spaces, first_of, count_of, pieces_of, segments_of, kind_of, cut_of}
use Rattle.sial_syntax.specs.Tree as tree
use Rattle.sial_syntax.specs.Tree.{Block}
use Rattle.sial_meaning.specs.Rest.{place}
use Rattle.sip_tables.specs.Code.{instruction}
use Rattle.sip_tables.specs.declared.instruction.Operation.{Operation}
use Rattle.sip_setting.specs.Seen.{setting_of}
use Rattle.code_places.specs.Items.{ItemOf}
use Rattle.code_places.specs.Standing.{HasAt}
use Rattle.exec_control.specs.Moves.{moved}
use Rattle.exec_control.specs.Position.{Position}
use Rattle.exec_control.proofs.BranchArms.{join_arm, pardo_arm}
use Rattle.exec_control.proofs.CallArms.{call_arm, back_arm}
use Rattle.exec_control.proofs.LoopArms.{do_arm, do_in_arm}
use Rattle.exec_control.proofs.LoopLemmas.{do_declared, do_in_declared, head_room}
use Rattle.exec_control.proofs.StandLemmas.{item_is, stacks_agree, next_short, some_return}
use Rattle.exec_control.proofs.WaitLemmas.{no_other}
use Rattle.exec_control.proofs.control.Control.follow.Goals as goal

pub enter-requires-clause-declared : goal.enter-requires-clause-declared
enter-requires-clause-declared c =
    let g = setting_of c.args.job.now in
    let m = c.requires.may_go in
    let i = c.args.instruction.now in
    let item = subst (λ (o : Operation). ItemOf g.program m.rest i.line o) c.in-Do.is (item_is g c.args.self.now m.rest m.own i m.stands c.requires.at) in
    do_declared g c.args.self.now m.rest m.own i.line c.in-Do.index c.in-Do.past m.stands item

pub enter-requires-clause-room : goal.enter-requires-clause-room
enter-requires-clause-room c =
    let g = setting_of c.args.job.now in
    let m = c.requires.may_go in
    let i = c.args.instruction.now in
    let item = subst (λ (o : Operation). ItemOf g.program m.rest i.line o) c.in-Do.is (item_is g c.args.self.now m.rest m.own i m.stands c.requires.at) in
    head_room g c.args.self.now m.rest m.own i.line (tree.Do c.in-Do.index) c.in-Do.past m.stands item (λ body. omega arith)

pub bounds-values-index : goal.bounds-values-index
bounds-values-index c =
    let g = setting_of c.args.job.now in
    let m = c.requires.may_go in
    let i = c.args.instruction.now in
    let item = subst (λ (o : Operation). ItemOf g.program m.rest i.line o) c.in-DoIn.is (item_is g c.args.self.now m.rest m.own i m.stands c.requires.at) in
    let below = (do_in_declared g c.args.self.now m.rest m.own i.line c.in-DoIn.sub c.in-DoIn.index c.in-DoIn.past m.stands item).1 in
    omega (arith, below, ap length c.values.ensures)

pub pieces-count-requires-clause-some : goal.pieces-count-requires-clause-some
pieces-count-requires-clause-some c =
    let g = setting_of c.args.job.now in
    let has = subst (λ (o : Operation). HasAt g.program c.args.self.now.at (instruction c.args.instruction.now.line o)) c.in-DoIn.is c.requires.at in
    let there = c.requires.may_go.pieces c.args.instruction.now.line c.in-DoIn.sub c.in-DoIn.index c.in-DoIn.past has in
    subst (λ (v : List ℕ). 0 < get_or v c.in-DoIn.index 0) (sym c.values.ensures) there.some

pub pieces-count-requires-clause-within : goal.pieces-count-requires-clause-within
pieces-count-requires-clause-within c =
    let g = setting_of c.args.job.now in
    let has = subst (λ (o : Operation). HasAt g.program c.args.self.now.at (instruction c.args.instruction.now.line o)) c.in-DoIn.is c.requires.at in
    let there = c.requires.may_go.pieces c.args.instruction.now.line c.in-DoIn.sub c.in-DoIn.index c.in-DoIn.past has in
    subst (λ (s : Spaces). get_or c.values.result.now c.in-DoIn.index 0 ≤ segments_of s (kind_of s c.in-DoIn.sub)) (sym c.spaces-in-DoIn.ensures.spaces)
    (subst (λ (v : List ℕ). get_or v c.in-DoIn.index 0 ≤ segments_of g.spaces (kind_of g.spaces c.in-DoIn.sub)) (sym c.values.ensures) there.within)

pub pieces-count-requires-clause-cut : goal.pieces-count-requires-clause-cut
pieces-count-requires-clause-cut c =
    let g = setting_of c.args.job.now in
    let has = subst (λ (o : Operation). HasAt g.program c.args.self.now.at (instruction c.args.instruction.now.line o)) c.in-DoIn.is c.requires.at in
    let there = c.requires.may_go.pieces c.args.instruction.now.line c.in-DoIn.sub c.in-DoIn.index c.in-DoIn.past has in
    subst (λ (s : Spaces). 0 < (cut_of s (kind_of s c.in-DoIn.sub)).piece) (sym c.spaces-in-DoIn.ensures.spaces) there.cut

pub enter-requires-in-DoIn-clause-declared : goal.enter-requires-in-DoIn-clause-declared
enter-requires-in-DoIn-clause-declared c =
    let g = setting_of c.args.job.now in
    let m = c.requires.may_go in
    let i = c.args.instruction.now in
    let item = subst (λ (o : Operation). ItemOf g.program m.rest i.line o) c.in-DoIn.is (item_is g c.args.self.now m.rest m.own i m.stands c.requires.at) in
    (do_in_declared g c.args.self.now m.rest m.own i.line c.in-DoIn.sub c.in-DoIn.index c.in-DoIn.past m.stands item).0

pub enter-requires-in-DoIn-clause-room : goal.enter-requires-in-DoIn-clause-room
enter-requires-in-DoIn-clause-room c =
    let g = setting_of c.args.job.now in
    let m = c.requires.may_go in
    let i = c.args.instruction.now in
    let item = subst (λ (o : Operation). ItemOf g.program m.rest i.line o) c.in-DoIn.is (item_is g c.args.self.now m.rest m.own i m.stands c.requires.at) in
    head_room g c.args.self.now m.rest m.own i.line (tree.DoIn c.in-DoIn.sub c.in-DoIn.index) c.in-DoIn.past m.stands item (λ body. omega arith)

pub end_turn-requires : goal.end_turn-requires
end_turn-requires c =
    let g = setting_of c.args.job.now in
    let m = c.requires.may_go in
    let i = c.args.instruction.now in
    let item = subst (λ (o : Operation). ItemOf g.program m.rest i.line o) c.in-EndDo.is (item_is g c.args.self.now m.rest m.own i m.stands c.requires.at) in
    record { stands = (m.rest, m.own, m.stands, item) }

pub call-requires : goal.call-requires
call-requires c =
    let m = c.requires.may_go in
    record { same = stacks_agree (setting_of c.args.job.now) c.args.self.now m.rest m.own m.stands }

pub back-requires-clause-same : goal.back-requires-clause-same
back-requires-clause-same c =
    let m = c.requires.may_go in
    stacks_agree (setting_of c.args.job.now) c.args.self.now m.rest m.own m.stands

pub back-requires-clause-some : goal.back-requires-clause-some
back-requires-clause-some c =
    let g = setting_of c.args.job.now in
    let m = c.requires.may_go in
    let i = c.args.instruction.now in
    let item = subst (λ (o : Operation). ItemOf g.program m.rest i.line o) c.in-Return.is (item_is g c.args.self.now m.rest m.own i m.stands c.requires.at) in
    some_return g c.args.self.now m.rest m.own m.stands item

pub returns-in-Do : goal.returns-in-Do
returns-in-Do c = record {
  does = λ rest own st is_control followed.
      let g = setting_of c.args.job.now in
      let i = c.args.instruction.now in
      let item = subst (λ (o : Operation). ItemOf g.program rest i.line o) c.in-Do.is (item_is g c.args.self.now rest own i st c.requires.at) in
      do_arm g c.args.self.now c.enter.new.self rest own i.line c.in-Do.index c.range-first.result.0 c.range-first.result.1 c.in-Do.past st item
      (c.range-first.ensures.first ∙ ap (λ (s : Spaces). first_of s c.in-Do.index) c.spaces.ensures.spaces)
      (c.range-first.ensures.count ∙ ap (λ (s : Spaces). count_of s c.in-Do.index) c.spaces.ensures.spaces)
      c.enter.ensures.none c.enter.ensures.some;
}

pub returns-in-DoIn : goal.returns-in-DoIn
returns-in-DoIn c = record {
  does = λ rest own st is_control followed.
      let g = setting_of c.args.job.now in
      let i = c.args.instruction.now in
      let item = subst (λ (o : Operation). ItemOf g.program rest i.line o) c.in-DoIn.is (item_is g c.args.self.now rest own i st c.requires.at) in
      do_in_arm g c.args.self.now c.enter-in-DoIn.new.self rest own i.line c.in-DoIn.sub c.in-DoIn.index c.pieces-count.result c.in-DoIn.past st item
      (c.pieces-count.ensures
      ∙ (ap (λ (s : Spaces). pieces_of s c.in-DoIn.sub (get_or c.values.result.now c.in-DoIn.index 0)) c.spaces-in-DoIn.ensures.spaces
      ∙ ap (λ (v : List ℕ). pieces_of g.spaces c.in-DoIn.sub (get_or v c.in-DoIn.index 0)) c.values.ensures))
      c.enter-in-DoIn.ensures.none c.enter-in-DoIn.ensures.some;
}

pub returns-in-EndDo : goal.returns-in-EndDo
returns-in-EndDo c = record {
  does = λ rest own st is_control followed.
      let g = setting_of c.args.job.now in
      let i = c.args.instruction.now in
      let item = subst (λ (o : Operation). ItemOf g.program rest i.line o) c.in-EndDo.is (item_is g c.args.self.now rest own i st c.requires.at) in
      c.end_turn.ensures.does rest own st item;
}

pub returns-in-Else : goal.returns-in-Else
returns-in-Else c = record {
  does = λ rest own st is_control followed.
      let g = setting_of c.args.job.now in
      let i = c.args.instruction.now in
      let item = subst (λ (o : Operation). ItemOf g.program rest i.line o) c.in-Else.is (item_is g c.args.self.now rest own i st c.requires.at) in
      join_arm g c.args.self.now _ rest own c.in-Else.past st item (λ below. ap (λ (q : Position). moved c.in-Else.past q) c.self.view_is);
}

pub returns-in-EndIf : goal.returns-in-EndIf
returns-in-EndIf c = record {
  does = λ rest own st is_control followed.
      let g = setting_of c.args.job.now in
      let i = c.args.instruction.now in
      let item = subst (λ (o : Operation). ItemOf g.program rest i.line o) c.in-EndIf.is (item_is g c.args.self.now rest own i st c.requires.at) in
      let at_is : c.self-in-EndIf.inside.at ≡ place rest = ap (λ (q : Position). q.at) c.self-in-EndIf.view_is ∙ st.at in
      join_arm g c.args.self.now _ rest own (place rest + 1) st item
      (λ below.
      let next : c.behind-self-inside.result ≡ place rest + 1 = c.behind-self-inside.ensures (omega (arith, below, at_is)) ∙ ap (λ (n : ℕ). n + 1) at_is in
      ap (λ (n : ℕ). record { at = n; values = c.self-in-EndIf.inside.numbers.values; returns = c.self-in-EndIf.inside.returns.items; saved = c.self-in-EndIf.inside.numbers.saved; lasts = c.self-in-EndIf.inside.lasts.items }) next
      ∙ ap (λ (q : Position). moved (place rest + 1) q) c.self-in-EndIf.view_is);
}

pub returns-in-Pardo : goal.returns-in-Pardo
returns-in-Pardo c = record {
  does = λ rest own st is_control followed.
      let g = setting_of c.args.job.now in
      let i = c.args.instruction.now in
      let item = subst (λ (o : Operation). ItemOf g.program rest i.line o) c.in-Pardo.is (item_is g c.args.self.now rest own i st c.requires.at) in
      pardo_arm g c.args.self.now _ rest own i.line c.in-Pardo.end c.in-Pardo.indices st item (ap (λ (q : Position). moved c.in-Pardo.end q) c.self-in-Pardo.view_is);
}

pub returns-in-Call : goal.returns-in-Call
returns-in-Call c = record {
  does = λ rest own st is_control followed.
      let g = setting_of c.args.job.now in
      let i = c.args.instruction.now in
      let item = subst (λ (o : Operation). ItemOf g.program rest i.line o) c.in-Call.is (item_is g c.args.self.now rest own i st c.requires.at) in
      call_arm g c.args.self.now c.call.new.self rest own i.line c.in-Call.procedure c.in-Call.entry st item (next_short g c.args.self.now rest item.more own st item.next.follows item.next.behind) c.call.ensures.deep c.call.ensures.called;
}

pub returns-in-Return : goal.returns-in-Return
returns-in-Return c = record {
  does = λ rest own st is_control followed.
      let g = setting_of c.args.job.now in
      let i = c.args.instruction.now in
      let item = subst (λ (o : Operation). ItemOf g.program rest i.line o) c.in-Return.is (item_is g c.args.self.now rest own i st c.requires.at) in
      back_arm g c.args.self.now c.back.new.self rest own st item c.back.ensures.place c.back.ensures.values c.back.ensures.long c.back.ensures.lasts;
}

pub returns-in_default : goal.returns-in_default
returns-in_default c = record {
  does = λ rest own st is_control followed.
      let g = setting_of c.args.job.now in
      let i = c.args.instruction.now in
      let d = c.in_default in
      absurd (no_other g.program rest i.line i.operation (item_is g c.args.self.now rest own i st c.requires.at) is_control followed d.not-Return d.not-Do d.not-DoIn d.not-EndDo d.not-Else d.not-EndIf d.not-Pardo d.not-Call);
}
