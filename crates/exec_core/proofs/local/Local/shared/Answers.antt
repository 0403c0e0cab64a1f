use Rattle.std.proofs.Common.{◌≡◌, ◌+◌, ◌^◌, ◌<◌, ℕ, List, sym, ap, ◌∙◌, subst, arith}
use Rattle.sip_setting.specs.Seen.{setting_of}
use Rattle.sial_syntax.specs.declared.array.ArrayKind.{ArrayKind}
use Rattle.sial_syntax.specs.Spaces.{rank_of}
use Rattle.sial_meaning.specs.Setting.{array_kind, block_count, class_of_kind, dims_of, first_of_class}
use Rattle.sial_meaning.specs.Statement.{class_or}
use Rattle.index_spaces.specs.Placed.{array_among}
use Rattle.exec_names.specs.Naming.{numbers_of}
use Rattle.exec_blocks.proofs.SettingLemmas.{first-is, rank-is, rank-below}
use Rattle.exec_core.specs.Parts.{Parts}
use Rattle.exec_core.proofs.SharedLemmas.{named_same, not_temp, number_short}
use Rattle.exec_core.proofs.local.Local.shared.Goals as goal

pub overflow_add-result : goal.overflow_add-result
overflow_add-result c =
    let g = setting_of c.args.job.now in
    let s = c.spaces-spaces.result.now in
    let b = c.args.block.now in
    let values = c.args.self.now.control.values in
    let first = c.first_block-first.ensures ∙ first-is g s b.array c.spaces-spaces.ensures.spaces c.spaces-spaces.ensures.arrays in
    let seen = c.values.ensures ∙ ap (λ (l : Parts). l.control.values) c.self.view_is in
    let number : c.block_number-number.result ≡ rank_of s.spaces (array_among s.arrays b.array).dims (numbers_of c.values.result.now b.at) = cc in
    let rank = number ∙ (rank-is g s b.array (numbers_of c.values.result.now b.at) c.spaces-spaces.ensures.spaces c.spaces-spaces.ensures.arrays ∙ ap (λ (vs : List ℕ). rank_of g.spaces (dims_of g b.array) (numbers_of vs b.at)) seen) in
    let below = rank-below g values b (c.requires.named.among (not_temp (array_kind g b.array) c.requires.shared)) in
    let short : c.first_block-first.result + c.block_number-number.result < 2 ^ 32 =
    number_short g c.spaces-spaces.ensures.sound b.array c.first_block-first.result c.block_number-number.result c.requires.shared first (subst (λ (n : ℕ). n < block_count g b.array) (sym rank) below) in
    omega (arith, short)

pub returns : goal.returns
returns c = λ own same.
    let g = setting_of c.args.job.now in
    let s = c.spaces-spaces.result.now in
    let b = c.args.block.now in
    let first = c.first_block-first.ensures ∙ first-is g s b.array c.spaces-spaces.ensures.spaces c.spaces-spaces.ensures.arrays in
    let seen = c.values.ensures ∙ (ap (λ (l : Parts). l.control.values) c.self.view_is ∙ sym same) in
    let number : c.block_number-number.result ≡ rank_of s.spaces (array_among s.arrays b.array).dims (numbers_of c.values.result.now b.at) = cc in
    let rank = number ∙ (rank-is g s b.array (numbers_of c.values.result.now b.at) c.spaces-spaces.ensures.spaces c.spaces-spaces.ensures.arrays ∙ ap (λ (vs : List ℕ). rank_of g.spaces (dims_of g b.array) (numbers_of vs b.at)) seen) in
    named_same _ _ _ _ (c.class_of.ensures ∙ ap (λ (k : ArrayKind). class_or (class_of_kind k)) c.array_kind.ensures)
    (ap (λ (n : ℕ). n + c.block_number-number.result) first ∙ ap (λ (n : ℕ). first_of_class g b.array + n) rank)
