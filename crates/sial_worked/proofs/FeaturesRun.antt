-- Programs that show one feature of the language each run as they should.
use Rattle.std.proofs.Common.{refl}
use Rattle.std.specs.Prelude.{[], None}
use Rattle.std.specs.Fmt.{digits}
use Rattle.sial_worked.specs.Parts.{parts, parts_final, PartsRuns}
use Rattle.sial_worked.specs.Forms.{forms, forms_final, FormsRuns}
use Rattle.sial_worked.specs.Nested.{nested, nested_final, NestedRuns}
use Rattle.sial_worked.specs.Wheres.{wheres, wheres_final, WheresRuns}
use Rattle.sial_worked.specs.Rooms.{rooms, rooms_final, RoomsRuns}
use Rattle.sial_worked.specs.Given.{given, given_final, GivenRuns}
use Rattle.sial_worked.specs.Kept.{kept, kept_final, KeptRuns}
use Rattle.sial_worked.specs.OtherBlock.{other_block, other_block_final, OtherBlockRuns}
use Rattle.sial_worked.specs.Private.{private, private_final, PrivateRuns}
use Rattle.sial_worked.specs.UnsetAfter.{unset_after, unset_after_final, UnsetAfterRuns}
use Rattle.sial_worked.specs.Inserted.{inserted, inserted_final, InsertedRuns}
use Rattle.sial_worked.specs.Missing.{missing, missing_final, MissingRuns}
use Rattle.sial_worked.specs.DeletedPut.{deleted_put, deleted_put_final, DeletedPutRuns}
use Rattle.sial_worked.specs.DeletedTwice.{deleted_twice, deleted_twice_final, DeletedTwiceRuns}
use Rattle.sial_worked.specs.AllocatedTwice.{allocated_twice, allocated_twice_final, AllocatedTwiceRuns}
use Rattle.sial_worked.specs.NotAllocated.{not_allocated, not_allocated_final, NotAllocatedRuns}
use Rattle.sial_worked.specs.SecondArray.{second_array, second_array_final, SecondArrayRuns}
use Rattle.sial_worked.specs.ServedClash.{served_clash, served_clash_final, ServedClashRuns}
use Rattle.sial_worked.specs.Named.{named, named_final, NamedRuns, named_constants}
use Rattle.sial_worked.specs.Reset.{reset, reset_final, ResetRuns}
use Rattle.sial_worked.specs.Rounds.{rounds, rounds_final, RoundsRuns}
use Rattle.sial_worked.specs.Beats.{beats, beats_final, BeatsRuns}
use Rattle.sial_worked.specs.Stale.{stale, stale_final, StaleRuns}
use Rattle.sial_worked.specs.GoesOn.{goes_on, goes_on_final, GoesOnRuns}
use Rattle.sial_worked.proofs.SoundLemmas.{run-by}

pub parts-runs : PartsRuns
unfolding digits
parts-runs = run-by parts parts_final None [] refl refl refl refl refl refl refl refl refl refl

pub forms-runs : FormsRuns
unfolding digits
forms-runs = run-by forms forms_final None [] refl refl refl refl refl refl refl refl refl refl

pub nested-runs : NestedRuns
unfolding digits
nested-runs = run-by nested nested_final None [] refl refl refl refl refl refl refl refl refl refl

pub wheres-runs : WheresRuns
wheres-runs = run-by wheres wheres_final None [] refl refl refl refl refl refl refl refl refl refl

pub rooms-runs : RoomsRuns
rooms-runs = run-by rooms rooms_final None [] refl refl refl refl refl refl refl refl refl refl

pub given-runs : GivenRuns
unfolding digits
given-runs = run-by given given_final None [] refl refl refl refl refl refl refl refl refl refl

pub kept-runs : KeptRuns
kept-runs = run-by kept kept_final _ [] refl refl refl refl refl refl refl refl refl refl

pub other-block-runs : OtherBlockRuns
other-block-runs = run-by other_block other_block_final _ [] refl refl refl refl refl refl refl refl refl refl

pub private-runs : PrivateRuns
private-runs = run-by private private_final _ [] refl refl refl refl refl refl refl refl refl refl

pub unset-after-runs : UnsetAfterRuns
unset-after-runs = run-by unset_after unset_after_final _ [] refl refl refl refl refl refl refl refl refl refl

pub inserted-runs : InsertedRuns
inserted-runs = run-by inserted inserted_final _ [] refl refl refl refl refl refl refl refl refl refl

pub missing-runs : MissingRuns
missing-runs = run-by missing missing_final _ [] refl refl refl refl refl refl refl refl refl refl

pub deleted-put-runs : DeletedPutRuns
deleted-put-runs = run-by deleted_put deleted_put_final _ [] refl refl refl refl refl refl refl refl refl refl

pub deleted-twice-runs : DeletedTwiceRuns
deleted-twice-runs = run-by deleted_twice deleted_twice_final _ [] refl refl refl refl refl refl refl refl refl refl

pub allocated-twice-runs : AllocatedTwiceRuns
allocated-twice-runs = run-by allocated_twice allocated_twice_final _ [] refl refl refl refl refl refl refl refl refl refl

pub not-allocated-runs : NotAllocatedRuns
not-allocated-runs = run-by not_allocated not_allocated_final _ [] refl refl refl refl refl refl refl refl refl refl

pub second-array-runs : SecondArrayRuns
second-array-runs = run-by second_array second_array_final _ [] refl refl refl refl refl refl refl refl refl refl

pub served-clash-runs : ServedClashRuns
served-clash-runs = run-by served_clash served_clash_final _ [] refl refl refl refl refl refl refl refl refl refl

pub named-runs : NamedRuns
unfolding digits
named-runs = run-by named named_final None named_constants refl refl refl refl refl refl refl refl refl refl

pub reset-runs : ResetRuns
unfolding digits
reset-runs = run-by reset reset_final None [] refl refl refl refl refl refl refl refl refl refl

pub rounds-runs : RoundsRuns
rounds-runs = run-by rounds rounds_final None [] refl refl refl refl refl refl refl refl refl refl

pub beats-runs : BeatsRuns
beats-runs = run-by beats beats_final None [] refl refl refl refl refl refl refl refl refl refl

pub stale-runs : StaleRuns
stale-runs = run-by stale stale_final _ [] refl refl refl refl refl refl refl refl refl refl

pub goes-on-runs : GoesOnRuns
goes-on-runs = run-by goes_on goes_on_final _ [] refl refl refl refl refl refl refl refl refl refl
