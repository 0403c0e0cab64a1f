use Rattle.std.proofs.Common.{List, ℕ, Some, sym, ◌∙◌, subst}
use Rattle.sip_setting.specs.Seen.{setting_of}
use Rattle.sial_meaning.specs.LocalStep.{with_words}
use Rattle.sial_meaning.specs.Setting.{array_kind}
use Rattle.block_seats.specs.Putting.{Puts}
use Rattle.exec_blocks.specs.Kept.{Kept, place_of}
use Rattle.exec_blocks.specs.Standing.{BlocksStand, IsNamed}
use Rattle.exec_blocks.proofs.PutDownLemmas.{done-static, done-local, done-temp}
use Rattle.exec_blocks.proofs.blocks.Blocks.put_down.Goals as goal

pub returns-in-Static-clause-does : goal.returns-in-Static-clause-does
returns-in-Static-clause-does c = λ own same stands.
    let g = setting_of c.args.job.now in
    let b = c.args.self.now in
    let block = c.args.block.now in
    let w = c.args.words.now in
    let after = c.put_placed.new.self.seats in
    let named : IsNamed g own.values block = subst (λ (vs : List ℕ). IsNamed g vs block) (sym same) c.requires.named in
    let puts : Puts c.args.pool.now c.put_placed.new.pool b.seats after (place_of g b own.values block) (Some w) =
    subst (λ (vs : List ℕ). Puts c.args.pool.now c.put_placed.new.pool b.seats after (place_of g b vs block) (Some w)) (sym same) c.put_placed.ensures.puts in
    subst (λ (k : Kept). BlocksStand g c.put_placed.new.pool k (with_words g block w own (array_kind g block.array))) (sym c.put_placed.ensures.same)
    (done-static g b after own block w named c.requires.stands.laid stands puts (sym c.array_kind.ensures ∙ c.in-Static.is))

pub returns-in-Local-clause-does : goal.returns-in-Local-clause-does
returns-in-Local-clause-does c = λ own same stands.
    let g = setting_of c.args.job.now in
    let b = c.args.self.now in
    let block = c.args.block.now in
    let w = c.args.words.now in
    let after = c.put_placed-in-Local.new.self.seats in
    let named : IsNamed g own.values block = subst (λ (vs : List ℕ). IsNamed g vs block) (sym same) c.requires.named in
    let puts : Puts c.args.pool.now c.put_placed-in-Local.new.pool b.seats after (place_of g b own.values block) (Some w) =
    subst (λ (vs : List ℕ). Puts c.args.pool.now c.put_placed-in-Local.new.pool b.seats after (place_of g b vs block) (Some w)) (sym same) c.put_placed-in-Local.ensures.puts in
    subst (λ (k : Kept). BlocksStand g c.put_placed-in-Local.new.pool k (with_words g block w own (array_kind g block.array))) (sym c.put_placed-in-Local.ensures.same)
    (done-local g b after own block w named c.requires.stands.laid stands puts (sym c.array_kind.ensures ∙ c.in-Local.is))

pub returns-in-Temp-clause-does : goal.returns-in-Temp-clause-does
returns-in-Temp-clause-does c = λ own same stands.
    let g = setting_of c.args.job.now in
    let b = c.args.self.now in
    let block = c.args.block.now in
    let w = c.args.words.now in
    let after = c.put_temp.new.self.seats in
    let named : IsNamed g own.values block = subst (λ (vs : List ℕ). IsNamed g vs block) (sym same) c.requires.named in
    let puts : Puts c.args.pool.now c.put_temp.new.pool b.seats after (place_of g b own.values block) (Some w) =
    subst (λ (vs : List ℕ). Puts c.args.pool.now c.put_temp.new.pool b.seats after (place_of g b vs block) (Some w)) (sym same) c.put_temp.ensures.puts in
    subst (λ (k : Kept). BlocksStand g c.put_temp.new.pool k (with_words g block w own (array_kind g block.array))) (sym (c.put_temp.ensures.same own same))
    (done-temp g b after own block w named c.requires.stands.laid stands puts (sym c.array_kind.ensures ∙ c.in-Temp.is))
