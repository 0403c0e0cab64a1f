-- The recorded runs are those of the definitions.
use Rattle.std.proofs.Common.{refl}
use Rattle.std.specs.Fmt.{digits}
use Rattle.sial_meaning.specs.Closed as closed
use Rattle.sip_model.specs.Acting.{action}
use Rattle.sip_model.specs.Enabled.{enabled}
use Rattle.sip_model.specs.Performing.{perform}
use Rattle.machine_worked.specs.BarrierRuns.{BarrierRecorded}
use Rattle.machine_worked.specs.FirstRuns.{FirstRecorded}
use Rattle.machine_worked.specs.ChunksRuns.{ChunksRecorded}
use Rattle.machine_worked.specs.SmallRuns.{SmallRecorded}
use Rattle.machine_worked.specs.TightRuns.{TightRecorded}
use Rattle.machine_worked.specs.GoneRuns.{GoneRecorded}
use Rattle.machine_worked.specs.AgainRuns.{AgainRecorded}
use Rattle.machine_worked.specs.DiskRuns.{DiskRecorded}
use Rattle.machine_worked.specs.TopRuns.{TopRecorded}
use Rattle.machine_worked.specs.ClashRuns.{ClashRecorded}
use Rattle.machine_worked.specs.MixRuns.{MixRecorded}
use Rattle.machine_worked.specs.TwiceRuns.{TwiceRecorded}

pub barrier-recorded : BarrierRecorded
unfolding action enabled perform closed.local_step
barrier-recorded = record {
  zeros = record { entries_are = refl; stands = refl; lines_are = refl };
  late = record { entries_are = refl; stands = refl; lines_are = refl };
  mixed = record { entries_are = refl; stands = refl; lines_are = refl };
}

pub first-recorded : FirstRecorded
unfolding action enabled perform closed.local_step digits
first-recorded = record {
  zeros = record { entries_are = refl; stands = refl; lines_are = refl };
  late = record { entries_are = refl; stands = refl; lines_are = refl };
  mixed = record { entries_are = refl; stands = refl; lines_are = refl };
}

pub chunks-recorded : ChunksRecorded
unfolding action enabled perform closed.local_step
chunks-recorded = record {
  zeros = record { entries_are = refl; stands = refl; lines_are = refl };
  late = record { entries_are = refl; stands = refl; lines_are = refl };
  mixed = record { entries_are = refl; stands = refl; lines_are = refl };
}

pub tight-recorded : TightRecorded
unfolding action enabled perform closed.local_step digits
tight-recorded = record {
  zeros = record { entries_are = refl; stands = refl; lines_are = refl };
  late = record { entries_are = refl; stands = refl; lines_are = refl };
  mixed = record { entries_are = refl; stands = refl; lines_are = refl };
}

pub gone-recorded : GoneRecorded
unfolding action enabled perform closed.local_step
gone-recorded = record {
  zeros = record { entries_are = refl; stands = refl; lines_are = refl };
  late = record { entries_are = refl; stands = refl; lines_are = refl };
  mixed = record { entries_are = refl; stands = refl; lines_are = refl };
}

pub again-recorded : AgainRecorded
unfolding action enabled perform closed.local_step
again-recorded = record {
  zeros = record { entries_are = refl; stands = refl; lines_are = refl };
  late = record { entries_are = refl; stands = refl; lines_are = refl };
  mixed = record { entries_are = refl; stands = refl; lines_are = refl };
}

pub disk-recorded : DiskRecorded
unfolding action enabled perform closed.local_step digits
disk-recorded = record {
  zeros = record { entries_are = refl; stands = refl; lines_are = refl };
  late = record { entries_are = refl; stands = refl; lines_are = refl };
  mixed = record { entries_are = refl; stands = refl; lines_are = refl };
}

pub top-recorded : TopRecorded
unfolding action enabled perform closed.local_step digits
top-recorded = record {
  zeros = record { entries_are = refl; stands = refl; lines_are = refl };
  late = record { entries_are = refl; stands = refl; lines_are = refl };
  mixed = record { entries_are = refl; stands = refl; lines_are = refl };
}

pub clash-recorded : ClashRecorded
unfolding action enabled perform closed.local_step
clash-recorded = record {
  zeros = record { entries_are = refl; stands = refl; lines_are = refl };
  late = record { entries_are = refl; stands = refl; lines_are = refl };
  mixed = record { entries_are = refl; stands = refl; lines_are = refl };
}

pub mix-recorded : MixRecorded
unfolding action enabled perform closed.local_step
mix-recorded = record {
  zeros = record { entries_are = refl; stands = refl; lines_are = refl };
  late = record { entries_are = refl; stands = refl; lines_are = refl };
  mixed = record { entries_are = refl; stands = refl; lines_are = refl };
}

pub twice-recorded : TwiceRecorded
unfolding action enabled perform closed.local_step
twice-recorded = record {
  zeros = record { entries_are = refl; stands = refl; lines_are = refl };
  late = record { entries_are = refl; stands = refl; lines_are = refl };
  mixed = record { entries_are = refl; stands = refl; lines_are = refl };
}

pub small-recorded : SmallRecorded
unfolding action enabled perform closed.local_step digits
small-recorded = record {
  zeros = record { entries_are = refl; stands = refl; lines_are = refl };
  late = record { entries_are = refl; stands = refl; lines_are = refl };
  mixed = record { entries_are = refl; stands = refl; lines_are = refl };
}
