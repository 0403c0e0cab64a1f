use Rattle.std.proofs.Common.{◌≡◌, ℕ, ◌+◌, ◌^◌, ◌<◌, ◌≤◌, List, length, sym, ap, ◌∙◌, subst, arith}
use Rattle.std.specs.List.{All}
use Rattle.sial_syntax.specs.Boxes.{volume, tuple_at}
use Rattle.sial_syntax.specs.Spaces.{Spaces, box_of}
use Rattle.sial_meaning.specs.Meaning.{taken_up}
use Rattle.sial_meaning.specs.Own.{Own}
use Rattle.sial_meaning.specs.Rest.{Within}
use Rattle.sip_setting.specs.Seen.{setting_of}
use Rattle.exec_control.specs.Position.{Position}
use Rattle.exec_control.proofs.PardoLemmas.{bound_is, few_indices, head_short, held_values, indices_declared, met_arm, taken_is, unmet_arm, with_numbers}
use Rattle.exec_control.proofs.StandLemmas.{at_in_code}
use Rattle.exec_control.proofs.control.Control.take_up.Goals as goal

pub bind_tuple-requires-clause-few : goal.bind_tuple-requires-clause-few
bind_tuple-requires-clause-few c =
    let s = c.requires.may_take_up.within in
    let at_is = ap (λ (q : Position). q.at) c.self.view_is ∙ s.stands.at in
    let head = c.head_of-head.ensures s.pardo s.stands.follows.0 at_is in
    subst (λ (xs : List ℕ). length xs ≤ 12) (sym head.1) (few_indices (setting_of c.args.job.now).program s.pardo s.stands.follows.0)

pub bind_tuple-requires-clause-within : goal.bind_tuple-requires-clause-within
bind_tuple-requires-clause-within c =
    let s = c.requires.may_take_up.within in
    let at_is = ap (λ (q : Position). q.at) c.self.view_is ∙ s.stands.at in
    let head = c.head_of-head.ensures s.pardo s.stands.follows.0 at_is in
    subst (λ (s : Spaces). c.args.number < volume (box_of s c.head_of-head.result.1.now)) (sym c.spaces.ensures.spaces)
    (subst (λ (xs : List ℕ). c.args.number < volume (box_of (setting_of c.args.job.now).spaces xs)) (sym head.1) c.requires.may_take_up.below)

pub bind_tuple-requires-clause-declared : goal.bind_tuple-requires-clause-declared
bind_tuple-requires-clause-declared c =
    let s = c.requires.may_take_up.within in
    let at_is = ap (λ (q : Position). q.at) c.self.view_is ∙ s.stands.at in
    let head = c.head_of-head.ensures s.pardo s.stands.follows.0 at_is in
    subst (λ (xs : List ℕ). All (λ (i : ℕ). i < length c.args.self.now.values) xs) (sym head.1) (indices_declared (setting_of c.args.job.now).program s.pardo c.args.self.now.values s.stands.follows.0 s.stands.long)

pub body_if_met-requires : goal.body_if_met-requires
body_if_met-requires c =
    let s = c.requires.may_take_up.within in
    let below = at_in_code (setting_of c.args.job.now) c.args.self.now (Within s.pardo s.number s.more) s.own s.stands in
    let at_is : c.self-2.inside.at ≡ c.args.self.now.at = ap (λ (q : Position). q.at) (c.self-2.view_is ∙ c.bind_tuple.ensures) in
    record { within = omega (arith, below, at_is) }

pub returns-in-Some : goal.returns-in-Some
returns-in-Some c = record {
  does = λ pardo last more own st scalars.
      let g = setting_of c.args.job.now in
      let old = c.args.self.now in
      let s = c.requires.may_take_up.within in
      let old_at = ap (λ (q : Position). q.at) c.self.view_is in
      let head = c.head_of-head.ensures pardo st.follows.0 (old_at ∙ st.at) in
      let same : s.pardo.indices ≡ pardo.indices = sym (c.head_of-head.ensures s.pardo s.stands.follows.0 (old_at ∙ s.stands.at)).1 ∙ head.1 in
      let below = subst (λ (xs : List ℕ). c.args.number < volume (box_of g.spaces xs)) same c.requires.may_take_up.below in
      let is = bound_is g old c.bind_tuple.new.self pardo c.args.number c.spaces.result.now.spaces c.head_of-head.result.1.now c.spaces.ensures.spaces head.1 c.bind_tuple.ensures in
      let first_is : c.behind.result ≡ pardo.head + 1 = c.behind.ensures (subst (λ (n : ℕ). n + 1 < 2 ^ 32) (sym head.0) (head_short g old pardo last more own st)) ∙ ap (λ (n : ℕ). n + 1) head.0 in
      let end_is : c.self-2.inside.at ≡ pardo.at = ap (λ (q : Position). q.at) (c.self-2.view_is ∙ c.bind_tuple.ensures) ∙ st.at in
      let held = taken_up g pardo.indices (tuple_at (box_of g.spaces pardo.indices) c.args.number) own in
      let begun = c.in-Some.ensures pardo last more held st.proper st.follows first_is end_is (ap (λ (o : Own). o.scalars) (taken_is g pardo c.args.number own) ∙ scalars) (held_values g old c.bind_tuple.new.self pardo last c.args.number more own st is ∙ sym c.values.ensures) in
      met_arm g old pardo last c.args.number more own st _ c.in-Some.first below begun (ap (λ (q : Position). with_numbers c.in-Some.first q.values q) (c.self-2.view_is ∙ is));
}

pub returns-in-None : goal.returns-in-None
returns-in-None c = record {
  does = λ pardo last more own st scalars.
      let g = setting_of c.args.job.now in
      let old = c.args.self.now in
      let s = c.requires.may_take_up.within in
      let old_at = ap (λ (q : Position). q.at) c.self.view_is in
      let head = c.head_of-head.ensures pardo st.follows.0 (old_at ∙ st.at) in
      let same : s.pardo.indices ≡ pardo.indices = sym (c.head_of-head.ensures s.pardo s.stands.follows.0 (old_at ∙ s.stands.at)).1 ∙ head.1 in
      let below = subst (λ (xs : List ℕ). c.args.number < volume (box_of g.spaces xs)) same c.requires.may_take_up.below in
      let is = bound_is g old c.bind_tuple.new.self pardo c.args.number c.spaces.result.now.spaces c.head_of-head.result.1.now c.spaces.ensures.spaces head.1 c.bind_tuple.ensures in
      let first_is : c.behind.result ≡ pardo.head + 1 = c.behind.ensures (subst (λ (n : ℕ). n + 1 < 2 ^ 32) (sym head.0) (head_short g old pardo last more own st)) ∙ ap (λ (n : ℕ). n + 1) head.0 in
      let end_is : c.self-2.inside.at ≡ pardo.at = ap (λ (q : Position). q.at) (c.self-2.view_is ∙ c.bind_tuple.ensures) ∙ st.at in
      let held = taken_up g pardo.indices (tuple_at (box_of g.spaces pardo.indices) c.args.number) own in
      let begun = c.in-None.ensures pardo last more held st.proper st.follows first_is end_is (ap (λ (o : Own). o.scalars) (taken_is g pardo c.args.number own) ∙ scalars) (held_values g old c.bind_tuple.new.self pardo last c.args.number more own st is ∙ sym c.values.ensures) in
      unmet_arm g old pardo last c.args.number more own st _ below begun is;
}
