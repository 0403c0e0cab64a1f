use Rattle.std.proofs.Common.{◌≡◌, ℕ, ◌<◌, List, [], length, map, slice_index_or, sym, ap, ◌∙◌, subst, arith}
use Rattle.std.proofs.lemmas.List.{get_or-map, length-map}
use Rattle.std.specs.Global.{Vec}
use Rattle.sial_syntax.specs.declared.index.IndexDecl.{IndexDecl}
use Rattle.sial_meaning.specs.Own.{same_members}
use Rattle.sip_setting.specs.Seen.{setting_of}
use Rattle.exec_names.specs.declared.member.Member.{Member}
use Rattle.exec_names.specs.Cutting.{IsCutAs}
use Rattle.exec_names.specs.Naming.{pair_of, tuple_of}
use Rattle.exec_names.proofs.CutLemmas.{cut-as}
use Rattle.exec_blocks.specs.Kept.{Kept}
use Rattle.exec_blocks.specs.Tuples.{tuples_of}
use Rattle.exec_blocks.proofs.blocks.Blocks.is_tuple.Goals as goal

pub returns : goal.returns
returns c = λ own same.
    let g = setting_of c.args.job.now in
    let array = c.args.block.now.array in
    let kept = c.self.inside.tuples.items in
    let cut : IsCutAs g.spaces c.indices.result.now = subst (λ (ds : List IndexDecl). IsCutAs g.spaces ds) (sym c.indices.ensures.value) (cut-as g c.indices.ensures.sound) in
    let seen : tuples_of kept ≡ c.args.self.now.tuples = ap (λ (b : Kept). b.tuples) c.self.view_is in
    let many : length (tuples_of kept) ≡ length kept = length-map kept (λ (t : Vec Member). map pair_of t.items) in
    let listed : length (tuples_of kept) ≡ length g.program.arrays = ap length seen ∙ c.requires.stands.tuples in
    let within : array < length kept = omega (arith, many, listed, c.requires.named.declared) in
    let there : slice_index_or (tuples_of kept) array [] ≡ map pair_of c.index.result.now.items =
    get_or-map (λ (t : Vec Member). map pair_of t.items) kept array c.index.result.now [] within ∙ ap (λ (t : Vec Member). map pair_of t.items) (sym c.index.ensures) in
    let read : map pair_of c.as_slice-tuple.result.now ≡ slice_index_or c.args.self.now.tuples array [] =
    ap (map pair_of) c.as_slice-tuple.ensures.value ∙ (sym there ∙ ap (λ (ts : List (List (ℕ × ℕ))). slice_index_or ts array []) seen) in
    c.are_members.ensures g.spaces own cut same
    ∙ (ap (λ (ms : List (ℕ × ℕ)). same_members ms (tuple_of g.spaces own c.as_slice.result.now)) read
    ∙ ap (λ (at : List ℕ). same_members (slice_index_or c.args.self.now.tuples array []) (tuple_of g.spaces own at)) c.as_slice.ensures)
