use Rattle.std.proofs.Common.{ap, subst, sym}
use Rattle.sial_syntax.specs.Tree.{block}
use Rattle.sip_setting.specs.Seen.{setting_of}
use Rattle.first_profile.specs.Fits.{Fits}
use Rattle.first_profile.specs.Ready.{IsFirstSetting}
use Rattle.first_profile.specs.Running.{Numbers}
use Rattle.first_profile.proofs.Printed.{printed_ran}
use Rattle.first_profile.proofs.StartLemmas.{fits_start}
use Rattle.first_profile.proofs.evaluator.run.Goals as goal

pub run_body-requires-clause-fits : goal.run_body-requires-clause-fits
run_body-requires-clause-fits types c =
    let is : IsFirstSetting (setting_of c.args.granted.now) = record { tree = c.requires.first; ready = c.requires.ready } in
    subst (λ (m : Numbers). Fits (setting_of c.args.granted.now) m) (sym c.in_ok-machine.ensures) (fits_start (setting_of c.args.granted.now) is)

pub returns-clause-ok : goal.returns-clause-ok
returns-clause-ok types c =
    let is : IsFirstSetting (setting_of c.args.granted.now) = record { tree = c.requires.first; ready = c.requires.ready } in
    (printed_ran (setting_of c.args.granted.now) _ _ is c.in_ok-machine.ensures (ap block c.as_slice-body.ensures.value) c.run_body.ensures.ran).ok

pub returns-clause-err : goal.returns-clause-err
returns-clause-err types c =
    let is : IsFirstSetting (setting_of c.args.granted.now) = record { tree = c.requires.first; ready = c.requires.ready } in
    (printed_ran (setting_of c.args.granted.now) _ _ is c.in_ok-machine.ensures (ap block c.as_slice-body.ensures.value) c.run_body.ensures.ran).err
