use Rattle.std.proofs.Common.{◌≡◌, ℕ, ◌-◌, ◌^◌, List, [], ◌∷◌, ◌++◌, min, IsTrue, ap, sym, ◌∙◌, subst, rules}
use Rattle.sial_syntax.specs.Spaces as sp
use Rattle.index_spaces.specs.declared.blocks.Blocks.{Blocks}
use Rattle.index_spaces.specs.Laid.{are_laid, decls_of, over, kept_together}
use Rattle.index_spaces.specs.Placed.{spans_of}
use Rattle.index_spaces.proofs.LaidLemmas.{decls_push, laid_push}
use Rattle.index_spaces.proofs.laying.laid_out.Goals as goal

pub loop-array-preserved : goal.loop-array-preserved
loop-array-preserved c =
    let spans = spans_of c.args.spans.now in
    let a = c.array-item.result in
    let i = c.loop-array.array-index in
    let bs = c.loop-array.blocks.items in
    let count = c.count_of-count.result in
    let first = c.kept-first.result in
    let b : Blocks = record { kind = a.kind; dims = a.dims; count = count; first = first } in
    let dims : c.in_ok-dims.dims ≡ a.dims = search rules in
    let new : c.push.new.self.items ≡ bs ++ b ∷ [] =
    c.in_ok-push.ensures.items ∙ ap (λ (at : List ℕ). bs ++ record { kind = a.kind; dims = at; count = count; first = first } ∷ []) dims in
    let counts : count ≡ min (sp.blocks_of (over spans) a) (2 ^ 32 - 1) = search rules in
    let firsts : first ≡ min (kept_together a.kind bs) (2 ^ 32 - 1) = search rules in
    record {
      decls = ap decls_of new ∙ decls_push c.args.arrays.now i a bs count first c.loop-array-test.true c.array-item.is c.loop-array.invariant.decls;
      laid = subst (λ (xs : List Blocks). IsTrue (are_laid spans [] xs)) (sym new)
          (laid_push spans c.args.arrays.now i a bs count first c.loop-array-test.true c.array-item.is c.loop-array.invariant.decls c.loop-array.invariant.laid c.requires.few c.requires.together counts firsts);
    }
