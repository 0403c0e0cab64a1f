-- Named blocks have at most six indices.
use Rattle.std.proofs.Common.{◌≡◌, ℕ, ◌≤◌, List, [], ◌∷◌, ◌++◌, length, map, take, refl, subst, sym, ap, ◌∙◌, arith}
use Rattle.std.proofs.lemmas.List.{length-map, length-take-le}
use Rattle.sial_syntax.specs.declared.index.IndexDecl.{IndexDecl}
use Rattle.sial_syntax.specs.declared.operand.BlockRef.{BlockRef}
use Rattle.sial_syntax.specs.Spaces.{Spaces, extent}
use Rattle.sial_meaning.specs.Setting.{Setting}
use Rattle.sial_meaning.specs.Sound.{IsSound}
use Rattle.exec_names.specs.declared.extent.Extent.{Extent}
use Rattle.exec_names.specs.Cutting.{IsCutAs}
use Rattle.exec_names.specs.Naming.{extent_of}
use Rattle.exec_names.proofs.CutLemmas.{cut-as}
use Rattle.exec_names.proofs.NamedLemmas.{few-dims}
use Rattle.exec_blocks.specs.Standing.{IsNamed}
use Rattle.exec_assign.specs.Naming.{BlockLies}

-- as many as its array has dimensions
pub few_named : (g : Setting) (values : List ℕ) (block : BlockRef) → IsSound g → IsNamed g values block → length block.at ≤ 6
few_named g values block sound named = let few = few-dims g sound block.array in omega (arith, few, named.rank)

-- the same of the slice in which they stand
pub few_at : (g : Setting) (values : List ℕ) (block : BlockRef) (at : List ℕ) → IsSound g → IsNamed g values block → at ≡ block.at → length at ≤ 6
few_at g values block at sound named same = let few = few_named g values block sound named in let long : length at ≡ length block.at = ap length same in omega (arith, few, long)

-- the front of a list that is long enough
pub front_len : {X : Type 0} (xs : List X) (n : ℕ) → n ≤ length xs → n ≡ length (take n xs)
front_len xs n within = sym (length-take-le n xs within)

-- the declarations of a program's indices say which cut which
pub cut_here : (g : Setting) (spaces : Spaces) (indices : List IndexDecl) → IsSound g → spaces ≡ g.spaces → indices ≡ g.program.indices → IsCutAs spaces indices
cut_here g spaces indices sound same declared =
    subst (λ (s : Spaces). IsCutAs s indices) (sym same) (subst (λ (ds : List IndexDecl). IsCutAs g.spaces ds) (sym declared) (cut-as g sound))

-- a list at the front of another
take_front : {X : Type 0} (xs ys : List X) → take (length xs) (xs ++ ys) ≡ xs
take_front [] ys = refl
take_front (x ∷ xs) ys = ap (λ zs. x ∷ zs) (take_front xs ys)

-- extents that were written, whatever lies behind them
pub lies_front : (spaces seen : Spaces) (values : List ℕ) (block : BlockRef) (at : List ℕ) (into rest : List Extent) → seen ≡ spaces → at ≡ block.at → map extent_of into ≡ map (extent seen values) at
    → BlockLies spaces values (into ++ rest) block
lies_front spaces seen values block at into rest here same lie =
    let long : length block.at ≡ length into = sym (sym (length-map into extent_of) ∙ (ap length lie ∙ (length-map at (extent seen values) ∙ ap length same))) in
    ap (λ n. map extent_of (take n (into ++ rest))) long
    ∙ (ap (map extent_of) (take_front into rest)
    ∙ (lie
    ∙ (ap (λ (s : Spaces). map (extent s values) at) here
    ∙ ap (map (extent spaces values)) same)))
