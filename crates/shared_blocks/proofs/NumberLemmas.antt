-- What the spaces of a job say of an array's blocks.
use Rattle.std.proofs.Common.{◌≡◌, ℕ, ◌+◌, ◌<◌, ◌≤◌, ◌^◌, List, [], ◌∷◌, map, length, true, false, refl, ap, ◌∙◌, arith}
use Rattle.std.proofs.lemmas.Bool.{leb-true}
use Rattle.std.proofs.lemmas.List.{length-map}
use Rattle.std.specs.List.{list_all}
use Rattle.sial_syntax.specs.declared.array.ArrayDecl.{ArrayDecl}
use Rattle.sial_syntax.specs.declared.array.ArrayKind.{ArrayKind}
use Rattle.sial_syntax.specs.declared.array.ArrayKind.TheVariants.{Static, Temp, Local, Distributed, Served}
use Rattle.sial_syntax.specs.Limits.{most_together}
use Rattle.sial_syntax.specs.Resolved.{have_few_blocks}
use Rattle.sial_syntax.specs.Spaces.{blocks_together, same_kind}
use Rattle.index_spaces.specs.Placed.{Placed, array_among, bare, is_temp}
use Rattle.sial_meaning.specs.Setting.{Setting, array_kind, block_count, first_of_class}
use Rattle.sial_meaning.specs.Sound.{IsSound}
use Rattle.sial_meaning.proofs.AcceptedInOtherWords.Pairs.{first-holds, second-holds}
use Rattle.sial_meaning.proofs.Granted.Runs.{declared-array, within-class}
use Rattle.exec_names.proofs.NamedLemmas.{among-is}

-- an array that isn't temp is declared
pub is-declared : (g : Setting) (s : Placed) (a : ℕ) → s.arrays ≡ map bare g.program.arrays → same_kind (array_kind g a) Temp ≡ false → a < length s.arrays
is-declared g s a arrays other =
    let inside = declared-array g a (array_kind g a) refl other in
    let long : length s.arrays ≡ length g.program.arrays = ap length arrays ∙ length-map g.program.arrays bare in
    omega (arith, inside, long)

-- and isn't temp for the spaces
pub is-counted : (g : Setting) (s : Placed) (a : ℕ) → s.arrays ≡ map bare g.program.arrays → same_kind (array_kind g a) Temp ≡ false → is_temp (array_among s.arrays a) ≡ false
is-counted g s a arrays other = ap (λ (xs : List ArrayDecl). is_temp (array_among xs a)) arrays ∙ (ap is_temp (among-is g a) ∙ other)

-- the arrays of a kind haven't too many blocks together
few-together : (g : Setting) (kind : ArrayKind) → IsSound g → same_kind kind Temp ≡ false → blocks_together g.spaces kind g.program.arrays ≤ most_together
few-together g kind sound other = by kind other
  where
    few : ArrayKind → List ArrayKind → Type 0
    few k ks = list_all (have_few_blocks g.program g.spaces) (k ∷ ks) ≡ true

    first : (k : ArrayKind) (ks : List ArrayKind) → few k ks → blocks_together g.spaces k g.program.arrays ≤ most_together
    first k ks are = leb-true (blocks_together g.spaces k g.program.arrays) most_together (first-holds (have_few_blocks g.program g.spaces k) (list_all (have_few_blocks g.program g.spaces) ks) are)

    rest : (k l : ArrayKind) (ks : List ArrayKind) → few k (l ∷ ks) → few l ks
    rest k l ks are = second-holds (have_few_blocks g.program g.spaces k) (list_all (have_few_blocks g.program g.spaces) (l ∷ ks)) are

    local : few Local (Distributed ∷ Served ∷ [])
    local = rest Static Local (Distributed ∷ Served ∷ []) sound.spaces.1.together

    distributed : few Distributed (Served ∷ [])
    distributed = rest Local Distributed (Served ∷ []) local

    by : (k : ArrayKind) → same_kind k Temp ≡ false → blocks_together g.spaces k g.program.arrays ≤ most_together
    by Static other = first Static (Local ∷ Distributed ∷ Served ∷ []) sound.spaces.1.together
    by Temp other = absurd cc
    by Local other = first Local (Distributed ∷ Served ∷ []) local
    by Distributed other = first Distributed (Served ∷ []) distributed
    by Served other = first Served [] (rest Distributed Served [] distributed)

-- so the numbers of an array's blocks are small
pub numbers-small : (g : Setting) (a first : ℕ) → IsSound g → same_kind (array_kind g a) Temp ≡ false → first ≡ first_of_class g a → first + block_count g a ≤ 2 ^ 24
numbers-small g a first sound other is =
    let inside = within-class g a (array_kind g a) refl other in
    let few = few-together g (array_kind g a) sound other in
    omega (arith, inside, few, is)
