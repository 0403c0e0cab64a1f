use Rattle.std.proofs.Common.{◌≡◌, ◌+◌, length, refl, ap, ◌∙◌, arith}
use Rattle.sip_setting.specs.Seen.{setting_of}
use Rattle.sial_syntax.specs.declared.array.ArrayKind.TheVariants.{Local}
use Rattle.sial_meaning.specs.Setting.{first_of_class}
use Rattle.sial_meaning.proofs.Granted.Runs.{within-class}
use Rattle.exec_blocks.specs.Kept.{Kept}
use Rattle.exec_blocks.proofs.SettingLemmas.{first-is}
use Rattle.exec_blocks.proofs.blocks.Blocks.first_local.Goals as goal

pub returns-clause-first : goal.returns-clause-first
returns-clause-first c =
    let g = setting_of c.args.job.now in
    let first : c.first_block.result ≡ first_of_class g c.args.array =
    c.first_block.ensures ∙ first-is g c.spaces-spaces.result.now c.args.array c.spaces-spaces.ensures.spaces c.spaces-spaces.ensures.arrays in
    let begin : c.self.inside.locals_at ≡ c.args.self.now.locals_at = ap (λ (k : Kept). k.locals_at) c.self.view_is in
    omega (arith, first, begin)

pub returns-clause-within : goal.returns-clause-within
returns-clause-within c =
    let g = setting_of c.args.job.now in
    let first : c.first_block.result ≡ first_of_class g c.args.array =
    c.first_block.ensures ∙ first-is g c.spaces-spaces.result.now c.args.array c.spaces-spaces.ensures.spaces c.spaces-spaces.ensures.arrays in
    let begin : c.self.inside.locals_at ≡ c.args.self.now.locals_at = ap (λ (k : Kept). k.locals_at) c.self.view_is in
    let inside = within-class g c.args.array Local c.requires.local refl in
    omega (arith, first, begin, inside, c.requires.laid.temps_at, c.requires.laid.places)
