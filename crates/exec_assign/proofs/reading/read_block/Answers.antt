use Rattle.std.proofs.Common.{ℕ, List, length, map, take, Ok, Err, ap, ◌∙◌}
use Rattle.std.specs.Borrow.{Bor}
use Rattle.sip_setting.specs.Seen.{setting_of}
use Rattle.exec_names.specs.Naming.{extent_of}
use Rattle.exec_sides.specs.Seen.{extents_of}
use Rattle.exec_assign.specs.Answers.{answer_of}
use Rattle.exec_assign.specs.Lent.{slot_of}
use Rattle.exec_assign.proofs.ExtentLemmas.{few_at}
use Rattle.exec_assign.proofs.ReadLemmas.{block_read}
use Rattle.exec_assign.proofs.reading.read_block.Goals as goal

pub shared_ref_as_front-extents : goal.shared_ref_as_front-extents
shared_ref_as_front-extents c = few_at (setting_of c.args.job.now) c.args.values.now c.args.block.now c.as_slice-at.result.now c.spaces-spaces.ensures.sound c.requires.named c.as_slice-at.ensures

pub returns-in-Ok : goal.returns-in-Ok
returns-in-Ok c = λ more own partials stands.
    block_read (setting_of c.args.job.now) c.args.pool.now c.args.values.now (slot_of c.args.lease) own c.args.block.now c.as_slice-at.result.now (extents_of (take (length c.as_slice-at.result.now) c.args.extents.now)) more (Ok c.in-Ok.words.now)
    stands.indices c.as_slice-at.ensures (ap (λ (a : List ℕ). map extent_of (take (length a) c.args.extents.now)) c.as_slice-at.ensures ∙ c.requires.lie)
    (λ all first. c.elements.ensures own all stands.indices stands.blocks first ∙ ap (answer_of (λ (w : Bor (List ℕ)). w.now)) c.in-Ok.is)

pub returns-in-Err : goal.returns-in-Err
returns-in-Err c = λ more own partials stands.
    block_read (setting_of c.args.job.now) c.args.pool.now c.args.values.now (slot_of c.args.lease) own c.args.block.now c.as_slice-at.result.now (extents_of (take (length c.as_slice-at.result.now) c.args.extents.now)) more (Err c.in-Err.kind)
    stands.indices c.as_slice-at.ensures (ap (λ (a : List ℕ). map extent_of (take (length a) c.args.extents.now)) c.as_slice-at.ensures ∙ c.requires.lie)
    (λ all first. c.elements.ensures own all stands.indices stands.blocks first ∙ ap (answer_of (λ (w : Bor (List ℕ)). w.now)) c.in-Err.is)
