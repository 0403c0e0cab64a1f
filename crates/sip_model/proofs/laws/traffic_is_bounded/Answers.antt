use Rattle.sip_model.proofs.BoundedTraffic.{bounded-traffic}
use Rattle.sip_model.proofs.laws.traffic_is_bounded.Goals as goal

pub returns : goal.returns
returns c = bounded-traffic
