use Rattle.std.proofs.Common.{◌≡◌, ◌+◌, ap, ◌∙◌}
use Rattle.sip_setting.specs.Seen.{setting_of}
use Rattle.sial_syntax.specs.Spaces.{rank_of}
use Rattle.sial_meaning.specs.Setting.{first_of_class}
use Rattle.index_spaces.specs.Placed.{array_among}
use Rattle.exec_names.specs.Naming.{numbers_of}
use Rattle.exec_blocks.proofs.SettingLemmas.{first-is, rank-is, rank-below}
use Rattle.exec_blocks.proofs.finding.place_among.Goals as goal

pub returns-clause-value : goal.returns-clause-value
returns-clause-value c =
    let g = setting_of c.args.job.now in
    let s = c.spaces-spaces.result.now in
    let array = c.args.block.now.array in
    let numbers = numbers_of c.args.values.now c.args.block.now.at in
    let first = first-is g s array c.spaces-spaces.ensures.spaces c.spaces-spaces.ensures.arrays in
    let rank = rank-is g s array numbers c.spaces-spaces.ensures.spaces c.spaces-spaces.ensures.arrays in
    let number : c.block_number-number.result ≡ rank_of s.spaces (array_among s.arrays array).dims numbers = cc in
    ap (λ n. n + c.block_number-number.result) (c.first_block.ensures ∙ first) ∙ ap (λ n. first_of_class g array + n) (number ∙ rank)

pub returns-clause-within : goal.returns-clause-within
returns-clause-within c = rank-below (setting_of c.args.job.now) c.args.values.now c.args.block.now (c.requires.named.among c.requires.counted)
