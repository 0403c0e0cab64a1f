-- What the spaces of a job say of its arrays is what its setting says.
use Rattle.std.proofs.Common.{◌≡◌, ℕ, ◌<◌, List, [], ◌∷◌, map, take, refl, ap, ◌∙◌, subst, arith}
use Rattle.std.proofs.lemmas.List.{take-map}
use Rattle.sial_syntax.specs.declared.array.ArrayDecl.{ArrayDecl}
use Rattle.sial_syntax.specs.declared.array.ArrayKind.{ArrayKind}
use Rattle.sial_syntax.specs.declared.operand.BlockRef.{BlockRef}
use Rattle.sial_syntax.specs.BoxLaws.{AreSegments}
use Rattle.sial_syntax.specs.Spaces.{Spaces, blocks_of, blocks_together, first_block, rank_of}
use Rattle.sial_syntax.proofs.RankLemmas.{rank-within}
use Rattle.index_spaces.specs.Placed.{Placed, array_among, bare}
use Rattle.sial_meaning.specs.Setting.{Setting, array_kind, block_count, dims_of, first_of_class}
use Rattle.sial_meaning.proofs.Granted.Runs.{one-more}
use Rattle.exec_names.specs.Naming.{numbers_of, IsAmong}
use Rattle.exec_names.proofs.NamedLemmas.{among-is}

-- counts don't depend on names and lines
together-bare : (spaces : Spaces) (kind : ArrayKind) (xs : List ArrayDecl) → blocks_together spaces kind (map bare xs) ≡ blocks_together spaces kind xs
together-bare spaces kind [] = refl
together-bare spaces kind (x ∷ xs) =
    let first = one-more spaces kind (bare x) (map bare xs) in
    let second = one-more spaces kind x xs in
    let rest = together-bare spaces kind xs in
    omega (arith, first, second, rest)

-- where the blocks of an array begin
pub first-is : (g : Setting) (s : Placed) (array : ℕ) → s.spaces ≡ g.spaces → s.arrays ≡ map bare g.program.arrays → first_block s.spaces s.arrays array (array_among s.arrays array).kind ≡ first_of_class g array
first-is g s array same arrays =
    ap (λ (spaces : Spaces). first_block spaces s.arrays array (array_among s.arrays array).kind) same
    ∙ (ap (λ (xs : List ArrayDecl). first_block g.spaces xs array (array_among xs array).kind) arrays
    ∙ (ap (λ (a : ArrayDecl). first_block g.spaces (map bare g.program.arrays) array a.kind) (among-is g array)
    ∙ (ap (blocks_together g.spaces (array_kind g array)) (take-map bare array g.program.arrays)
    ∙ together-bare g.spaces (array_kind g array) (take array g.program.arrays))))

-- the number of a block
pub rank-is : (g : Setting) (s : Placed) (array : ℕ) (numbers : List ℕ) → s.spaces ≡ g.spaces → s.arrays ≡ map bare g.program.arrays → rank_of s.spaces (array_among s.arrays array).dims numbers ≡ rank_of g.spaces (dims_of g array) numbers
rank-is g s array numbers same arrays =
    ap (λ (spaces : Spaces). rank_of spaces (array_among s.arrays array).dims numbers) same
    ∙ (ap (λ (xs : List ArrayDecl). rank_of g.spaces (array_among xs array).dims numbers) arrays
    ∙ ap (λ (a : ArrayDecl). rank_of g.spaces a.dims numbers) (among-is g array))

-- it is one of the array's
pub rank-below : (g : Setting) (values : List ℕ) (block : BlockRef) → IsAmong g.spaces (map bare g.program.arrays) values block.array block.at → rank_of g.spaces (dims_of g block.array) (numbers_of values block.at) < block_count g block.array
rank-below g values block among =
    rank-within g.spaces (dims_of g block.array) (numbers_of values block.at) (subst (λ (a : ArrayDecl). AreSegments g.spaces a.dims (numbers_of values block.at)) (among-is g block.array) among.within)

-- how many blocks an array has
pub count-is : (g : Setting) (s : Placed) (array : ℕ) → s.spaces ≡ g.spaces → s.arrays ≡ map bare g.program.arrays → blocks_of s.spaces (array_among s.arrays array) ≡ block_count g array
count-is g s array same arrays =
    ap (λ (spaces : Spaces). blocks_of spaces (array_among s.arrays array)) same
    ∙ (ap (λ (xs : List ArrayDecl). blocks_of g.spaces (array_among xs array)) arrays ∙ ap (blocks_of g.spaces) (among-is g array))

-- the indices of an array
pub dims-are : (g : Setting) (s : Placed) (array : ℕ) → s.arrays ≡ map bare g.program.arrays → (array_among s.arrays array).dims ≡ dims_of g array
dims-are g s array arrays = ap (λ (xs : List ArrayDecl). (array_among xs array).dims) arrays ∙ ap (λ (a : ArrayDecl). a.dims) (among-is g array)

-- spaces and arrays that are those of a setting
pub placed-is : (g : Setting) (s : Placed) → s.spaces ≡ g.spaces → s.arrays ≡ map bare g.program.arrays → ◌≡◌ {A = Placed} s (record { spaces = g.spaces; arrays = map bare g.program.arrays })
placed-is g s same arrays = both s.spaces g.spaces s.arrays (map bare g.program.arrays) same arrays
  where
    both : (x y : Spaces) (xs ys : List ArrayDecl) → x ≡ y → xs ≡ ys → ◌≡◌ {A = Placed} (record { spaces = x; arrays = xs }) (record { spaces = y; arrays = ys })
    both x y xs ys one two = rw (one, two) refl
