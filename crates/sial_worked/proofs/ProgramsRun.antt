-- The worked programs run as they should.
use Rattle.std.proofs.Common.{refl}
use Rattle.std.specs.Prelude.{[], None}
use Rattle.std.specs.Fmt.{digits}
use Rattle.sial_worked.specs.Plain.{plain, plain_final, PlainRuns}
use Rattle.sial_worked.specs.Barrier.{barrier, barrier_final, BarrierRuns}
use Rattle.sial_worked.specs.First.{first, first_final, FirstRuns}
use Rattle.sial_worked.specs.Wrap.{wrap, wrap_final, WrapRuns}
use Rattle.sial_worked.specs.Small.{small, small_final, SmallRuns}
use Rattle.sial_worked.specs.Clash.{clash, clash_final, ClashRuns, clash_add, clash_add_final}
use Rattle.sial_worked.specs.Clash.{ClashAddRuns, clash_max, clash_max_final, ClashMaxRuns}
use Rattle.sial_worked.specs.Mix.{mix, mix_final, MixRuns}
use Rattle.sial_worked.specs.Apart.{apart, apart_final, ApartRuns}
use Rattle.sial_worked.specs.Order.{order, order_final, OrderRuns, order_open, order_open_final}
use Rattle.sial_worked.specs.Order.{OrderOpenRuns, order_served, order_served_final, OrderServedRuns}
use Rattle.sial_worked.specs.Gone.{gone, gone_final, GoneRuns}
use Rattle.sial_worked.specs.Again.{again, again_final, AgainRuns}
use Rattle.sial_worked.specs.Twice.{twice, twice_final, TwiceRuns}
use Rattle.sial_worked.specs.Turns.{turns, turns_final, TurnsRuns}
use Rattle.sial_worked.specs.Chunks.{chunks, chunks_final, ChunksRuns, chunks_three, ChunksThreeRuns}
use Rattle.sial_worked.specs.Chunks.{chunks_none, ChunksNoneRuns}
use Rattle.sial_worked.specs.Tight.{tight, tight_final, TightRuns}
use Rattle.sial_worked.specs.Shape.{shape, shape_final, ShapeRuns}
use Rattle.sial_worked.specs.Disk.{disk, disk_final, DiskRuns}
use Rattle.sial_worked.specs.Top.{top, top_final, TopRuns}
use Rattle.sial_worked.proofs.SoundLemmas.{run-by}

pub plain-runs : PlainRuns
plain-runs = run-by plain plain_final None [] refl refl refl refl refl refl refl refl refl refl

pub barrier-runs : BarrierRuns
barrier-runs = run-by barrier barrier_final None [] refl refl refl refl refl refl refl refl refl refl

pub first-runs : FirstRuns
unfolding digits
first-runs = run-by first first_final None [] refl refl refl refl refl refl refl refl refl refl

pub wrap-runs : WrapRuns
unfolding digits
wrap-runs = run-by wrap wrap_final None [] refl refl refl refl refl refl refl refl refl refl

pub small-runs : SmallRuns
unfolding digits
small-runs = run-by small small_final None [] refl refl refl refl refl refl refl refl refl refl

pub clash-runs : ClashRuns
clash-runs = run-by clash clash_final _ [] refl refl refl refl refl refl refl refl refl refl

pub clash-add-runs : ClashAddRuns
clash-add-runs = run-by clash_add clash_add_final None [] refl refl refl refl refl refl refl refl refl refl

pub clash-max-runs : ClashMaxRuns
clash-max-runs = run-by clash_max clash_max_final None [] refl refl refl refl refl refl refl refl refl refl

pub mix-runs : MixRuns
mix-runs = run-by mix mix_final _ [] refl refl refl refl refl refl refl refl refl refl

pub apart-runs : ApartRuns
apart-runs = run-by apart apart_final None [] refl refl refl refl refl refl refl refl refl refl

pub order-runs : OrderRuns
order-runs = run-by order order_final None [] refl refl refl refl refl refl refl refl refl refl

pub order-open-runs : OrderOpenRuns
order-open-runs = run-by order_open order_open_final _ [] refl refl refl refl refl refl refl refl refl refl

pub order-served-runs : OrderServedRuns
order-served-runs = run-by order_served order_served_final _ [] refl refl refl refl refl refl refl refl refl refl

pub gone-runs : GoneRuns
gone-runs = run-by gone gone_final None [] refl refl refl refl refl refl refl refl refl refl

pub again-runs : AgainRuns
again-runs = run-by again again_final None [] refl refl refl refl refl refl refl refl refl refl

pub twice-runs : TwiceRuns
twice-runs = run-by twice twice_final _ [] refl refl refl refl refl refl refl refl refl refl

pub turns-runs : TurnsRuns
turns-runs = run-by turns turns_final None [] refl refl refl refl refl refl refl refl refl refl

pub chunks-runs : ChunksRuns
chunks-runs = run-by chunks chunks_final None [] refl refl refl refl refl refl refl refl refl refl

pub chunks-three-runs : ChunksThreeRuns
chunks-three-runs = run-by chunks_three chunks_final None [] refl refl refl refl refl refl refl refl refl refl

pub chunks-none-runs : ChunksNoneRuns
chunks-none-runs = run-by chunks_none chunks_final None [] refl refl refl refl refl refl refl refl refl refl

pub tight-runs : TightRuns
unfolding digits
tight-runs = run-by tight tight_final None [] refl refl refl refl refl refl refl refl refl refl

pub shape-runs : ShapeRuns
shape-runs = run-by shape shape_final None [] refl refl refl refl refl refl refl refl refl refl

pub disk-runs : DiskRuns
unfolding digits
disk-runs = run-by disk disk_final None [] refl refl refl refl refl refl refl refl refl refl

pub top-runs : TopRuns
unfolding digits
top-runs = run-by top top_final None [] refl refl refl refl refl refl refl refl refl refl
