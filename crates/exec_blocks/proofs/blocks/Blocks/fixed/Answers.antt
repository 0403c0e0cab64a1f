use Rattle.std.proofs.Common.{◌≡◌, ℕ, ◌+◌, length, ap, ◌∙◌, arith}
use Rattle.sip_setting.specs.Seen.{setting_of}
use Rattle.sial_meaning.specs.Setting.{first_of_class}
use Rattle.exec_blocks.specs.Kept.{Kept}
use Rattle.exec_blocks.proofs.PlaceLemmas.{static-placed}
use Rattle.exec_blocks.proofs.ReadingLemmas.{fixed-read}
use Rattle.exec_blocks.proofs.SettingLemmas.{first-is}
use Rattle.exec_blocks.proofs.blocks.Blocks.fixed.Goals as goal

pub words-requires-clause-at : goal.words-requires-clause-at
words-requires-clause-at c =
    let g = setting_of c.args.job.now in
    let s = c.spaces-spaces.result.now in
    let first : c.first_block-first.result ≡ first_of_class g c.args.array = c.first_block-first.ensures ∙ first-is g s c.args.array c.spaces-spaces.ensures.spaces c.spaces-spaces.ensures.arrays in
    let placed = static-placed g c.args.self.now c.args.array c.args.number c.requires.stands.laid c.requires.fixed c.requires.below in
    let many : length c.self.inside.seats.slots ≡ length c.args.self.now.seats.slots = ap (λ (k : Kept). length k.seats.slots) c.self.view_is in
    omega (arith, placed, first, many)

pub returns : goal.returns
returns c = λ own stands.
    let g = setting_of c.args.job.now in
    let s = c.spaces-spaces.result.now in
    let first : c.first_block-first.result ≡ first_of_class g c.args.array = c.first_block-first.ensures ∙ first-is g s c.args.array c.spaces-spaces.ensures.spaces c.spaces-spaces.ensures.arrays in
    fixed-read g c.args.pool.now c.args.self.now own c.args.array c.args.number (c.first_block-first.result + c.args.number) c.self.inside.seats c.words.result.now c.requires.fixed c.requires.below stands
    (ap (λ (k : Kept). k.seats) c.self.view_is) (ap (λ n. n + c.args.number) first) c.words.ensures
