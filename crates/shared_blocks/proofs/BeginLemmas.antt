-- The blocks as a program begins.
use Rattle.std.proofs.Common.{◌≡◌, ℕ, zero, suc, ◌+◌, ◌<◌, List, [], length, slice_index_or, replicate, true, false, cond, refl, sym, ap, ◌∙◌, arith}
use Rattle.std.proofs.lemmas.List.{get_or-map, length-map, length-replicate}
use Rattle.std.specs.Prelude.{find, if◌then◌else◌}
use Rattle.sial_syntax.specs.declared.access.Class.{Class}
use Rattle.sial_syntax.specs.declared.access.Class.TheVariants as class
use Rattle.sial_syntax.specs.declared.array.ArrayKind.{ArrayKind}
use Rattle.sial_syntax.specs.declared.array.ArrayKind.TheVariants.{Static, Temp, Local, Distributed, Served}
use Rattle.sial_syntax.specs.Spaces.{blocks_of, blocks_together, same_kind}
use Rattle.sial_meaning.specs.Own.{for_each, given_or, start_block, start_own}
use Rattle.sial_meaning.specs.Setting.{Setting, array_kind, array_of, block_count, block_words, first_of_class, zeros}
use Rattle.sial_meaning.specs.Sound.{IsSound}
use Rattle.sial_meaning.specs.State.{Shared, blocks_of_class, start_blocks, start_shared, start_state}
use Rattle.sial_meaning.proofs.Granted.Runs.{counted, kind-self, within-class}
use Rattle.sial_meaning.proofs.PardosKeepTheControl.Changes.{each-long}
use Rattle.sial_meaning.proofs.StatesAreWhole.Created.{each-read}
use Rattle.sial_meaning.proofs.StatesAreWhole.Start.{start-whole}
use Rattle.block_store.specs.Memory as memory
use Rattle.exec_blocks.specs.Starting.{is_at}
use Rattle.shared_blocks.specs.Lengths.{lengths_if, lengths_of}
use Rattle.shared_blocks.specs.Standing.{AreWhole, SharedStand, kind_of_class}
use Rattle.shared_blocks.specs.Starting.{AreStartBut}
use Rattle.shared_blocks.proofs.FlatLemmas.{flat-long, flat-read}
use Rattle.shared_blocks.proofs.StandLemmas.{AreSame, not-there}

-- an array has as many lengths as blocks, where it is of the kind
lengths-long : (g : Setting) (kind : ArrayKind) (a : ℕ) → length (lengths_if g kind a) ≡ counted g.spaces kind (array_of g a)
lengths-long g kind a =
    elim (same_kind (array_kind g a) kind) as (λ b. length (if b then for_each (block_count g a) (block_words g a) else []) ≡ cond b (block_count g a) 0) [
      | true ↦ each-long (block_count g a) (block_words g a)
      | false ↦ refl
    ]

-- there are as many lengths as blocks
lengths-count : (g : Setting) (kind : ArrayKind) → length (lengths_of g kind) ≡ blocks_together g.spaces kind g.program.arrays
lengths-count g kind = flat-long g kind (lengths_if g kind) (lengths-long g kind)

-- the length of a block
lengths-read : (g : Setting) (kind : ArrayKind) (a n : ℕ) → same_kind kind Temp ≡ false → array_kind g a ≡ kind → n < block_count g a → slice_index_or (lengths_of g kind) (first_of_class g a + n) 0 ≡ block_words g a n
lengths-read g kind a n other is below =
    let row : lengths_if g kind a ≡ for_each (block_count g a) (block_words g a) = ap (λ b. if b then for_each (block_count g a) (block_words g a) else []) (ap (λ k. same_kind k kind) is ∙ kind-self kind) in
    flat-read g kind (lengths_if g kind) (lengths-long g kind) a n 0 other is below
    ∙ (ap (λ (ls : List ℕ). slice_index_or ls n 0) row ∙ each-read (block_count g a) (block_words g a) n 0 below)

-- zeros of these lengths are the zeros of each block
pub zeros-read : (g : Setting) (kind : ArrayKind) (a n : ℕ) → same_kind kind Temp ≡ false → array_kind g a ≡ kind → n < block_count g a → slice_index_or (memory.zeros (lengths_of g kind)) (first_of_class g a + n) [] ≡ zeros g a n
zeros-read g kind a n other is below =
    let inside = within-class g a kind is other in
    let count = lengths-count g kind in
    get_or-map (λ size. replicate size 0) (lengths_of g kind) (first_of_class g a + n) 0 [] (omega (arith, inside, below, count))
    ∙ ap (λ size. replicate size 0) (lengths-read g kind a n other is below)

-- so they are whole
pub zeros-whole : (g : Setting) (kind : ArrayKind) → same_kind kind Temp ≡ false → AreWhole g kind (memory.zeros (lengths_of g kind))
zeros-whole g kind other = record {
  count = length-map (lengths_of g kind) (λ size. replicate size 0) ∙ lengths-count g kind;
  words = λ a n is below. ap length (zeros-read g kind a n other is below) ∙ length-replicate (block_words g a n) 0;
}

-- and the start but for all given blocks
pub zeros-start : (g : Setting) → AreStartBut g (memory.zeros (lengths_of g Served)) g.blocks
zeros-start g a n is below = ap (given_or (find (is_at a n) g.blocks)) (zeros-read g Served a n refl is below)

-- a row of flags that are all false
all-false : (n k : ℕ) → slice_index_or (replicate n false) k false ≡ false
all-false zero k = refl
all-false (suc n) zero = refl
all-false (suc n) (suc k) = all-false n k

-- how many served blocks the start has for an array
served-count : (g : Setting) (a : ℕ) (k : ArrayKind) → array_kind g a ≡ k → length (start_shared g class.Served a k) ≡ counted g.spaces Served (array_of g a)
served-count g a Static is = ap (λ x. cond (same_kind x Served) (blocks_of g.spaces (array_of g a)) 0) (sym is)
served-count g a Temp is = ap (λ x. cond (same_kind x Served) (blocks_of g.spaces (array_of g a)) 0) (sym is)
served-count g a Local is = ap (λ x. cond (same_kind x Served) (blocks_of g.spaces (array_of g a)) 0) (sym is)
served-count g a Distributed is = ap (λ x. cond (same_kind x Served) (blocks_of g.spaces (array_of g a)) 0) (sym is)
served-count g a Served is = each-long (block_count g a) (start_block g a) ∙ ap (λ x. cond (same_kind x Served) (blocks_of g.spaces (array_of g a)) 0) (sym is)

-- the blocks of served arrays as the program begins
served-read : (g : Setting) (a n : ℕ) → array_kind g a ≡ Served → n < block_count g a → slice_index_or (start_blocks g class.Served) (first_of_class g a + n) [] ≡ start_block g a n
served-read g a n is below =
    flat-read g Served (λ x. start_shared g class.Served x (array_kind g x)) (λ x. served-count g x (array_kind g x) refl) a n [] refl is below
    ∙ (ap (λ (k : ArrayKind). slice_index_or (start_shared g class.Served a k) n []) is ∙ each-read (block_count g a) (start_block g a) n [] below)

-- blocks that stand for those of the state as the program begins
pub begins : (g : Setting) (served : List (List ℕ)) → IsSound g → AreWhole g Served served → AreStartBut g served [] → SharedStand g (record { distributed = memory.zeros (lengths_of g Distributed); served = served }) (start_own g) (start_state g).shared
begins g served sound whole start = record { whole = wholes; counts = counts; words = words }
  where
    held : Shared
    held = record { distributed = memory.zeros (lengths_of g Distributed); served = served }

    wholes : (c : Class) → AreWhole g (kind_of_class c) (blocks_of_class held c)
    wholes class.Distributed = zeros-whole g Distributed refl
    wholes class.Served = whole

    counts : (c : Class) → length (blocks_of_class (start_state g).shared c) ≡ length (blocks_of_class held c)
    counts class.Distributed = (start-whole g sound).distributed.count ∙ sym (zeros-whole g Distributed refl).count
    counts class.Served = (start-whole g sound).served.count ∙ sym whole.count

    words : (c : Class) → AreSame g (start_own g) c (blocks_of_class held c) (blocks_of_class (start_state g).shared c)
    words class.Distributed = λ a n there. absurd (not-there g (start_own g) a n (all-false (length g.program.arrays) a) there)
    words class.Served = λ a n there. start a n there.kind there.below ∙ sym (served-read g a n there.kind there.below)
