use Rattle.first_profile.proofs.ReadyLemmas.{is-ready}
use Rattle.sip_driver.proofs.perform.perform.Goals as goal

pub run_granted-requires : goal.run_granted-requires
run_granted-requires g c =
    let granted = c.in-Ok.ensures.granted in
    is-ready granted.3.given c.in-Ok.granted granted.3.granted
