use Rattle.std.proofs.Common.{◌≡◌, length, refl, ap, ◌∙◌, arith}
use Rattle.sip_setting.specs.Seen.{setting_of}
use Rattle.sial_syntax.specs.declared.array.ArrayKind.TheVariants.{Local}
use Rattle.sial_meaning.specs.Setting.{first_of_class, block_count}
use Rattle.sial_meaning.proofs.Granted.Runs.{within-class}
use Rattle.exec_blocks.specs.Kept.{Kept}
use Rattle.exec_blocks.proofs.ClearLemmas.{clears-at}
use Rattle.exec_blocks.proofs.SettingLemmas.{first-is, count-is}
use Rattle.exec_blocks.proofs.blocks.Blocks.clear_local.Goals as goal

pub clear_run-requires-clause-within : goal.clear_run-requires-clause-within
clear_run-requires-clause-within c =
    let g = setting_of c.args.job.now in
    let s = c.spaces-spaces.result.now in
    let inside = within-class g c.args.array Local c.requires.local refl in
    let first : c.first_block-first.result ≡ first_of_class g c.args.array = c.first_block-first.ensures ∙ first-is g s c.args.array c.spaces-spaces.ensures.spaces c.spaces-spaces.ensures.arrays in
    let count : c.blocks_of-count.result ≡ block_count g c.args.array = c.blocks_of-count.ensures ∙ count-is g s c.args.array c.spaces-spaces.ensures.spaces c.spaces-spaces.ensures.arrays in
    let begins : c.self.inside.locals_at ≡ c.args.self.now.locals_at = ap (λ (k : Kept). k.locals_at) c.self.view_is in
    let many : length c.self.inside.seats.slots ≡ length c.args.self.now.seats.slots = ap (λ (k : Kept). length k.seats.slots) c.self.view_is in
    omega (arith, inside, first, count, begins, many, c.requires.stands.laid.locals_at, c.requires.stands.laid.temps_at, c.requires.stands.laid.places)

pub returns-clause-clears : goal.returns-clause-clears
returns-clause-clears c =
    let g = setting_of c.args.job.now in
    let s = c.spaces-spaces.result.now in
    let first : c.first_block-first.result ≡ first_of_class g c.args.array = c.first_block-first.ensures ∙ first-is g s c.args.array c.spaces-spaces.ensures.spaces c.spaces-spaces.ensures.arrays in
    let count : c.blocks_of-count.result ≡ block_count g c.args.array = c.blocks_of-count.ensures ∙ count-is g s c.args.array c.spaces-spaces.ensures.spaces c.spaces-spaces.ensures.arrays in
    let begins : c.self.inside.locals_at ≡ c.args.self.now.locals_at = ap (λ (k : Kept). k.locals_at) c.self.view_is in
    clears-at (ap (λ (k : Kept). k.seats) c.self.view_is) (omega (arith, first, begins)) count c.clear_run.ensures
