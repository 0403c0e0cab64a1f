use Rattle.std.proofs.Common.{◌≡◌, [], false, ◌<◌, take, length, ap, sym, ◌∙◌, arith}
use Rattle.std.proofs.lemmas.List.{length-map}
use Rattle.sial_syntax.specs.declared.array.ArrayDecl.{ArrayDecl}
use Rattle.sial_syntax.specs.Spaces as sp
use Rattle.index_spaces.specs.Laid.{decl_of, decls_of, over}
use Rattle.index_spaces.specs.Placed.{Placed, array_among, is_temp, spans_of}
use Rattle.index_spaces.proofs.LaidLemmas.{kept_at, laid_at, laid_counts}
use Rattle.index_spaces.proofs.spaces.Spaces.first_block.Goals as goal

pub returns : goal.returns
returns c =
    let bs = c.self.inside.blocks.items in
    let b = c.index.result.now in
    let spans = spans_of c.self.inside.spans.items in
    let long : length c.args.self.now.arrays ≡ length bs = ap (λ (p : Placed). length p.arrays) (sym c.self.view_is) ∙ length-map bs decl_of in
    let within : c.args.array < length bs = omega arith in
    let kept : array_among (decls_of bs) c.args.array ≡ decl_of b = kept_at bs c.args.array b within c.index.ensures in
    let counted : is_temp (decl_of b) ≡ false = ap is_temp (sym kept) ∙ (ap (λ (p : Placed). is_temp (array_among p.arrays c.args.array)) c.self.view_is ∙ c.requires.counted) in
    let counts = laid_counts spans _ b (laid_at spans [] bs c.args.array b c.self.invariant.1 within c.index.ensures) counted in
    counts.1
    ∙ (ap (λ (a : ArrayDecl). sp.blocks_together (over spans) a.kind (take c.args.array (decls_of bs))) (sym kept)
    ∙ ap (λ (p : Placed). sp.first_block p.spaces p.arrays c.args.array (array_among p.arrays c.args.array).kind) c.self.view_is)
