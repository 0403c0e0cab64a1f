use Rattle.block_pool.proofs.Leases.{keep_refl}
use Rattle.block_pool.proofs.Frames.{frames_then}
use Rattle.memory_tests.proofs.worker.work.Goals as goal

pub send-requires-clause-wide : goal.send-requires-clause-wide
send-requires-clause-wide c = c.write.ensures.wide 16 2 (c.take.ensures.wide 16 2 c.requires.wide)

pub returns-clause-home : goal.returns-clause-home
returns-clause-home c =
    let all = frames_then c.take.ensures.frame (frames_then c.write.ensures.frame (frames_then c.send.ensures.frame c.ask.ensures.frame)) in
    (all.others_stay c.args.home.now _ c.requires.apart (keep_refl c.args.home.now c.requires.home)).0.holds

pub returns-clause-apart : goal.returns-clause-apart
returns-clause-apart c =
    let all = frames_then c.take.ensures.frame (frames_then c.write.ensures.frame (frames_then c.send.ensures.frame c.ask.ensures.frame)) in
    (all.others_stay c.args.home.now _ c.requires.apart (keep_refl c.args.home.now c.requires.home)).1
