use Rattle.std.proofs.Common.{◌-◌, length, map, drop, arith}
use Rattle.index_spaces.specs.Starting.{given_of}
use Rattle.sip_setting.specs.Given.{given}
use Rattle.first_profile.proofs.GivenLemmas.{turn-has}
use Rattle.first_profile.proofs.start.set_given.Goals as goal

pub set_block-requires-clause-array : goal.set_block-requires-clause-array
set_block-requires-clause-array c =
    (turn-has c.args.machine.now c.loop-turn.machine c.args.blocks.now (map given (map given_of (drop (length c.args.blocks.now - c.loop-turn.turn) c.args.blocks.now))) ((length c.args.blocks.now - 1) - c.loop-turn.turn) c.index-blocks-blocks.result c.requires (omega (arith, c.loop-turn-test.true)) c.index-blocks-blocks.is c.loop-turn.invariant).0

pub set_block-requires-clause-number : goal.set_block-requires-clause-number
set_block-requires-clause-number c =
    (turn-has c.args.machine.now c.loop-turn.machine c.args.blocks.now (map given (map given_of (drop (length c.args.blocks.now - c.loop-turn.turn) c.args.blocks.now))) ((length c.args.blocks.now - 1) - c.loop-turn.turn) c.index-blocks-blocks.result c.requires (omega (arith, c.loop-turn-test.true)) c.index-blocks-blocks.is c.loop-turn.invariant).1
