use Rattle.std.proofs.Common.{◌≡◌, ◌∙◌}
use Rattle.sip_setting.specs.Seen.{setting_of}
use Rattle.sial_meaning.specs.Setting.{first_of_class}
use Rattle.exec_blocks.proofs.SettingLemmas.{first-is}
use Rattle.shared_blocks.proofs.NumberLemmas.{numbers-small}
use Rattle.shared_blocks.proofs.numbers.first_block.Goals as goal

pub returns-clause-value : goal.returns-clause-value
returns-clause-value c = c.first_block.ensures ∙ first-is (setting_of c.args.job.now) c.spaces.result.now c.args.array c.spaces.ensures.spaces c.spaces.ensures.arrays

pub returns-clause-few : goal.returns-clause-few
returns-clause-few c =
    let value : c.first_block.result ≡ first_of_class (setting_of c.args.job.now) c.args.array =
    c.first_block.ensures ∙ first-is (setting_of c.args.job.now) c.spaces.result.now c.args.array c.spaces.ensures.spaces c.spaces.ensures.arrays in
    numbers-small (setting_of c.args.job.now) c.args.array c.first_block.result c.spaces.ensures.sound c.requires value
