use Rattle.std.proofs.Common.{◌≡◌, ◌+◌, ℕ, List, Some, ap, ◌∙◌, subst}
use Rattle.sip_setting.specs.Given.{given}
use Rattle.sip_setting.specs.Seen.{setting_of}
use Rattle.index_spaces.specs.Starting.{given_of}
use Rattle.sial_meaning.specs.Setting.{first_of_class}
use Rattle.block_seats.specs.Putting.{Puts}
use Rattle.exec_blocks.proofs.BeginLemmas.{place-in, place-room}
use Rattle.exec_blocks.proofs.SettingLemmas.{first-is}
use Rattle.exec_blocks.proofs.StartLemmas.{given-below}
use Rattle.exec_blocks.proofs.beginning.put_static.Goals as goal

pub put-requires-clause-at : goal.put-requires-clause-at
put-requires-clause-at c =
    let g = setting_of c.args.job.now in
    let b = c.args.block.now in
    let first : c.first_block-first.result ≡ first_of_class g b.array = c.first_block-first.ensures ∙ first-is g c.spaces-spaces.result.now b.array c.spaces-spaces.ensures.spaces c.spaces-spaces.ensures.arrays in
    place-in g c.args.pool.now c.args.seats.now b.array b.number (c.first_block-first.result + b.number) c.requires.fixed (given-below g (given (given_of b)) c.requires.fits).0 (ap (λ n. n + b.number) first) c.requires.room

pub put-requires-clause-room : goal.put-requires-clause-room
put-requires-clause-room c =
    let g = setting_of c.args.job.now in
    let b = c.args.block.now in
    let first : c.first_block-first.result ≡ first_of_class g b.array = c.first_block-first.ensures ∙ first-is g c.spaces-spaces.result.now b.array c.spaces-spaces.ensures.spaces c.spaces-spaces.ensures.arrays in
    place-room g c.args.pool.now c.args.seats.now b.array b.number (c.first_block-first.result + b.number) c.requires.fixed (given-below g (given (given_of b)) c.requires.fits).0 (ap (λ n. n + b.number) first) c.requires.room

pub returns : goal.returns
returns c =
    let g = setting_of c.args.job.now in
    let b = c.args.block.now in
    let first : c.first_block-first.result ≡ first_of_class g b.array = c.first_block-first.ensures ∙ first-is g c.spaces-spaces.result.now b.array c.spaces-spaces.ensures.spaces c.spaces-spaces.ensures.arrays in
    subst (λ (x : ℕ). Puts c.args.pool.now c.put.new.pool c.args.seats.now c.put.new.self x (Some b.words.items)) (ap (λ n. n + b.number) first)
    (subst (λ (ws : List ℕ). Puts c.args.pool.now c.put.new.pool c.args.seats.now c.put.new.self (c.first_block-first.result + b.number) (Some ws)) c.as_slice.ensures.value c.put.ensures)
