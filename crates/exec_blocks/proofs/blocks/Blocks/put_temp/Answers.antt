use Rattle.std.proofs.Common.{◌≡◌, ℕ, ◌<◌, List, length, map, slice_set, sym, ap, ◌∙◌, subst, arith}
use Rattle.std.proofs.lemmas.List.{length-map}
use Rattle.sial_syntax.specs.declared.index.IndexDecl.{IndexDecl}
use Rattle.sial_meaning.specs.Own.{members_of}
use Rattle.sip_setting.specs.Seen.{setting_of}
use Rattle.exec_names.specs.Cutting.{IsCutAs}
use Rattle.exec_names.specs.Naming.{pair_of, tuple_of}
use Rattle.exec_names.proofs.CutLemmas.{cut-as}
use Rattle.exec_blocks.specs.Kept.{Kept}
use Rattle.exec_blocks.specs.Standing.{IsLaidOut}
use Rattle.exec_blocks.specs.Tuples.{tuples_of}
use Rattle.exec_blocks.proofs.PutDownLemmas.{laid-tuple}
use Rattle.exec_blocks.proofs.SeenLemmas.{tuple-within, tuple-read, tuple-written, kept-same}
use Rattle.exec_blocks.proofs.blocks.Blocks.put_temp.Goals as goal

pub write_tuple-requires : goal.write_tuple-requires
write_tuple-requires c =
    let g = setting_of c.args.job.now in
    let b = c.args.self.now in
    let array = c.args.block.now.array in
    let kept = c.self.inside.tuples.items in
    let seen : tuples_of kept ≡ b.tuples = ap (λ (k : Kept). k.tuples) c.self.view_is in
    let within : array < length kept = tuple-within g b kept array seen c.requires.stands.laid c.requires.named.declared in
    let read = tuple-read b kept array c.index_mut-tuple.result.now seen within c.index_mut-tuple.ensures.value in
    let many : length (map pair_of c.index_mut-tuple.result.now.items) ≡ length c.index_mut-tuple.result.now.items = length-map c.index_mut-tuple.result.now.items pair_of in
    let now : length c.as_slice.result.now ≡ length c.args.block.now.at = ap length c.as_slice.ensures in
    omega (arith, many, ap length read, c.requires.stands.laid.ranks array c.requires.named.declared, c.requires.named.rank, now)

pub returns-clause-same : goal.returns-clause-same
returns-clause-same c = λ own same.
    let g = setting_of c.args.job.now in
    let b = c.args.self.now in
    let array = c.args.block.now.array in
    let kept = c.self.inside.tuples.items in
    let cut : IsCutAs g.spaces c.indices-indices.result.now = subst (λ (ds : List IndexDecl). IsCutAs g.spaces ds) (sym c.indices-indices.ensures.value) (cut-as g c.indices-indices.ensures.sound) in
    let seen : tuples_of kept ≡ b.tuples = ap (λ (k : Kept). k.tuples) c.self.view_is in
    let named : map pair_of c.write_tuple.new.tuple.items ≡ members_of g own c.args.block.now.at =
    c.write_tuple.ensures.members g.spaces own cut same ∙ ap (tuple_of g.spaces own) c.as_slice.ensures in
    kept-same c.put.new.self _ _ _ _ _ _
    (tuple-written b kept array c.write_tuple.new.tuple seen ∙ ap (λ (ms : List (ℕ × ℕ)). slice_set b.tuples array ms) named)
    (ap (λ (k : Kept). k.locals_at) c.self.view_is) (ap (λ (k : Kept). k.temps_at) c.self.view_is)

pub returns-clause-laid : goal.returns-clause-laid
returns-clause-laid c =
    let g = setting_of c.args.job.now in
    let b = c.args.self.now in
    let array = c.args.block.now.array in
    let kept = c.self.inside.tuples.items in
    let seen : tuples_of kept ≡ b.tuples = ap (λ (k : Kept). k.tuples) c.self.view_is in
    let within : array < length kept = tuple-within g b kept array seen c.requires.stands.laid c.requires.named.declared in
    let read = tuple-read b kept array c.index_mut-tuple.result.now seen within c.index_mut-tuple.ensures.value in
    let many : length (map pair_of c.index_mut-tuple.result.now.items) ≡ length c.index_mut-tuple.result.now.items = length-map c.index_mut-tuple.result.now.items pair_of in
    let now : length (map pair_of c.write_tuple.new.tuple.items) ≡ length c.write_tuple.new.tuple.items = length-map c.write_tuple.new.tuple.items pair_of in
    let long : length (map pair_of c.write_tuple.new.tuple.items) ≡ length (map pair_of c.index_mut-tuple.result.now.items) = omega (arith, many, now, c.write_tuple.ensures.len) in
    subst (λ (k : Kept). IsLaidOut g k)
    (sym (kept-same c.put.new.self _ _ _ _ _ _ (tuple-written b kept array c.write_tuple.new.tuple seen) (ap (λ (k : Kept). k.locals_at) c.self.view_is) (ap (λ (k : Kept). k.temps_at) c.self.view_is)))
    (laid-tuple g b c.put.new.self array (map pair_of c.write_tuple.new.tuple.items) (c.put.ensures.places ∙ ap (λ (k : Kept). length k.seats.slots) c.self.view_is) c.requires.stands.laid (long ∙ ap length read))
