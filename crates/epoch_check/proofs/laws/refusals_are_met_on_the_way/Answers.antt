use Rattle.epoch_check.proofs.WayLemmas.{clash-on-the-way, trap-on-the-way, end-on-the-way}
use Rattle.epoch_check.proofs.laws.refusals_are_met_on_the_way.Goals as goal

pub returns : goal.returns
returns c = record { clash = clash-on-the-way; trap = trap-on-the-way; end = end-on-the-way }
