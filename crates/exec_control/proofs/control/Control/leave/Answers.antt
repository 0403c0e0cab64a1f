use Rattle.std.proofs.Common.{◌≡◌, ℕ, ◌+◌, ◌^◌, ◌<◌, List, map, length, sym, ap, ◌∙◌, subst}
use Rattle.std.specs.List.{All}
use Rattle.sip_setting.specs.Seen.{setting_of}
use Rattle.exec_control.specs.Bindings.{Bindings}
use Rattle.exec_control.specs.Moves.{all_set}
use Rattle.exec_control.specs.Position.{Position}
use Rattle.exec_control.proofs.PardoLemmas.{indices_declared, left_arm, with_numbers}
use Rattle.exec_control.proofs.control.Control.leave.Goals as goal

pub unbind_all-requires : goal.unbind_all-requires
unbind_all-requires c =
    let s = c.requires.at_end in
    let p = (setting_of c.args.job.now).program in
    let at_is = ap (λ (q : Position). q.at) c.self.view_is ∙ s.stands.at in
    let values_are = ap (λ (q : Position). q.values) c.self.view_is in
    let head = c.head_of.ensures s.pardo s.stands.follows.0 at_is in
    let long : length c.self.inside.numbers.values ≡ length p.indices = ap length values_are ∙ s.stands.long in
    subst (λ (xs : List ℕ). All (λ (i : ℕ). i < length c.self.inside.numbers.values) xs) (sym head.1) (indices_declared p s.pardo c.self.inside.numbers.values s.stands.follows.0 long)

pub returns : goal.returns
returns c = record {
  does = λ pardo last more own st.
      let g = setting_of c.args.job.now in
      let at_is = ap (λ (q : Position). q.at) c.self.view_is in
      let head = c.head_of.ensures pardo st.follows.0 (at_is ∙ st.at) in
      let bindings = c.unbind_all.ensures ∙ ap (λ (xs : List ℕ). record { values = all_set xs (map (λ i. 0) xs) c.self.inside.numbers.values; saved = c.self.inside.numbers.saved }) head.1 in
      left_arm g c.args.self.now _ pardo last more own st
      (λ below.
      let next : c.behind-self-inside.result ≡ c.args.self.now.at + 1 = c.behind-self-inside.ensures (subst (λ (n : ℕ). n + 1 < 2 ^ 32) (sym at_is) below) ∙ ap (λ (n : ℕ). n + 1) at_is in
      ap (λ (n : ℕ). record { at = n; values = c.unbind_all.new.self.values; returns = c.self.inside.returns.items; saved = c.unbind_all.new.self.saved; lasts = c.self.inside.lasts.items }) next
      ∙ (ap (λ (b : Bindings). record { at = c.args.self.now.at + 1; values = b.values; returns = c.self.inside.returns.items; saved = b.saved; lasts = c.self.inside.lasts.items }) bindings
      ∙ ap (λ (q : Position). with_numbers (c.args.self.now.at + 1) (all_set pardo.indices (map (λ i. 0) pardo.indices) q.values) q) c.self.view_is));
}
