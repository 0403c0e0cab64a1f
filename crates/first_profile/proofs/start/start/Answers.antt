use Rattle.std.proofs.Common.{List, map, ap, sym, subst, ◌∙◌}
use Rattle.std.specs.List.{All}
use Rattle.index_spaces.specs.declared.start.StartBlock.{StartBlock}
use Rattle.index_spaces.specs.Starting.{given_of}
use Rattle.sip_setting.specs.Given.{given}
use Rattle.sip_setting.specs.Seen.{setting_of}
use Rattle.first_profile.specs.Fits.{HasBlock}
use Rattle.first_profile.specs.Running.{Numbers, with_all_given, zero_numbers}
use Rattle.first_profile.proofs.StartLaws.{start-are}
use Rattle.first_profile.proofs.StartLemmas.{has-given}
use Rattle.first_profile.proofs.start.start.Goals as goal

pub set_given-requires : goal.set_given-requires
set_given-requires c =
    let g = setting_of c.args.granted.now in
    let held : All (HasBlock (zero_numbers g)) (map given (map given_of c.as_slice.result.now)) =
    subst (λ (bs : List StartBlock). All (HasBlock (zero_numbers g)) (map given (map given_of bs))) (sym c.as_slice.ensures.value) (has-given g c.requires) in
    subst (λ (m : Numbers). All (HasBlock m) (map given (map given_of c.as_slice.result.now))) (sym c.in_ok-machine.ensures) held

pub returns : goal.returns
returns c =
    let g = setting_of c.args.granted.now in
    c.in_ok-set_given.ensures
    ∙ (ap (λ (bs : List StartBlock). with_all_given (map given (map given_of bs)) c.in_ok-machine.machine) c.as_slice.ensures.value
    ∙ (ap (with_all_given g.blocks) c.in_ok-machine.ensures ∙ start-are g c.requires))
