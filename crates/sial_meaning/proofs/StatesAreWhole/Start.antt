-- The state as a program begins is whole.
use Rattle.std.proofs.Common.{◌≡◌, ℕ, zero, suc, ◌+◌, ◌<◌, ◌≤◌, List, [], ◌∷◌, ◌++◌, map, take, length, slice_index_or, replicate, true, false, cond, ◌==◌, ◌&&◌, nat_lt, Option, Some, None, refl, sym, ap, ◌∙◌, subst, eqb-true, arith}
use Rattle.std.proofs.lemmas.List.{get_or-replicate, length-replicate, length-append}
use Rattle.std.specs.Prelude.{find}
use Rattle.std.specs.List.{list_all, flat_map}
use Rattle.sial_syntax.specs.declared.access.Class.TheVariants as class
use Rattle.sial_syntax.specs.declared.array.ArrayDecl.{ArrayDecl}
use Rattle.sial_syntax.specs.declared.array.ArrayKind.{ArrayKind}
use Rattle.sial_syntax.specs.declared.array.ArrayKind.TheVariants.{Static, Temp, Local, Distributed, Served}
use Rattle.sial_syntax.specs.Boxes.{numbers_from}
use Rattle.sial_syntax.specs.Proper.{is_number}
use Rattle.sial_syntax.specs.Spaces.{same_kind, blocks_of, blocks_together}
use Rattle.sial_meaning.specs.Own.{for_each, given_or, start_block, start_statics, start_locals, start_own}
use Rattle.sial_meaning.specs.Setting.{Setting, Given, array_of, array_kind, block_count, block_words, first_of_class, no_array, zeros}
use Rattle.sial_meaning.specs.Sound.{IsSound, may_be_given, is_start}
use Rattle.sial_meaning.specs.State.{start_shared, start_blocks, start_state}
use Rattle.sial_meaning.specs.WholeStates.{OwnIsWhole, DistributedIsWhole, ServedIsWhole, IsWhole, words_if}
use Rattle.sial_meaning.proofs.StatesAreWhole.OwnLengths.{row-long}
use Rattle.sial_meaning.proofs.AcceptedInOtherWords.Pairs.{first-holds, second-holds}
use Rattle.sial_meaning.proofs.Granted.Runs.{counted, one-more, take-whole, declared-array}
use Rattle.sial_meaning.proofs.StatesAreWhole.Created.{each-read}
use Rattle.sial_meaning.proofs.PardosKeepTheControl.Changes.{each-long}

-- a given block, or zeros
given-long : (g : Setting) (array number : ℕ) (blocks : List Given) → list_all (is_start g) blocks ≡ true
    → length (given_or (find (λ b. (b.array == array) && (b.number == number)) blocks) (zeros g array number)) ≡ block_words g array number
given-long g array number [] all = row-long (block_words g array number)
given-long g array number (b ∷ bs) all =
    let is = first-holds (is_start g b) (list_all (is_start g) bs) all in
    let one = second-holds (may_be_given (array_kind g b.array)) (nat_lt b.number (block_count g b.array) && ((length b.words == block_words g b.array b.number) && list_all is_number b.words)) is in
    let two = second-holds (nat_lt b.number (block_count g b.array)) ((length b.words == block_words g b.array b.number) && list_all is_number b.words) one in
    let long : length b.words ≡ block_words g b.array b.number = eqb-true (length b.words) (block_words g b.array b.number) (first-holds (length b.words == block_words g b.array b.number) (list_all is_number b.words) two) in
    elim ((b.array == array) && (b.number == number)) as (λ t. ((b.array == array) && (b.number == number)) ≡ t
    → length (given_or (cond t (Some b) (find (λ b. (b.array == array) && (b.number == number)) bs)) (zeros g array number)) ≡ block_words g array number) [
      | true ↦ λ e.
          let a : b.array ≡ array = eqb-true b.array array (first-holds (b.array == array) (b.number == number) e) in
          let n : b.number ≡ number = eqb-true b.number number (second-holds (b.array == array) (b.number == number) e) in
          long ∙ (ap (λ x. block_words g x b.number) a ∙ ap (block_words g array) n)
      | false ↦ λ e. given-long g array number bs (second-holds (is_start g b) (list_all (is_start g) bs) all)
    ] refl

-- each block of the start is as long as it should be
start-long : (g : Setting) → IsSound g → (array number : ℕ) → length (start_block g array number) ≡ block_words g array number
start-long g sound array number = given-long g array number g.blocks sound.blocks

-- a row of one thing, which is also read past its end
alike : {X : Type 0} (n k : ℕ) (d : X) → slice_index_or (replicate n d) k d ≡ d
alike zero k d = refl
alike (suc n) zero d = refl
alike (suc n) (suc k) d = alike n k d

-- what holds of each thing of a row, and past its end
each-holds : {X : Type 0} (P : X → Type 0) (f : ℕ → X) (first n k : ℕ) (d : X) → ((j : ℕ) → P (f j)) → P d → P (slice_index_or (map f (numbers_from first n)) k d)
each-holds P f first zero k d all past = past
each-holds P f first (suc n) zero d all past = all first
each-holds P f first (suc n) (suc k) d all past = each-holds P f (first + 1) n k d all past

-- no local block is allocated
none-local : (g : Setting) (array number : ℕ) (kind : ArrayKind) → slice_index_or (start_locals g array kind) number None ≡ None
none-local g array number Static = refl
none-local g array number Temp = refl
none-local g array number Local = alike (block_count g array) number None
none-local g array number Distributed = refl
none-local g array number Served = refl

own-begins : (g : Setting) → IsSound g → OwnIsWhole g (start_own g)
own-begins g sound = record {
  values = length-replicate (length g.program.indices) 0;
  created = length-replicate (length g.program.arrays) false;
  static_rows = each-long (length g.program.arrays) (λ a. start_statics g a (array_kind g a));
  temp_rows = length-replicate (length g.program.arrays) None;
  local_rows = each-long (length g.program.arrays) (λ a. start_locals g a (array_kind g a));
  count = λ array is. ap length (statics-at array is) ∙ each-long (block_count g array) (start_block g array);
  statics = λ array number is below.
      ap (λ r. length (slice_index_or r number [])) (statics-at array is) ∙ (ap length (each-read (block_count g array) (start_block g array) number [] below) ∙ start-long g sound array number);
  temps = λ array held is. absurd (nothing held (sym (alike (length g.program.arrays) array None) ∙ is));
  locals = λ array number words is.
      absurd (nothing words
      (sym (each-holds (λ (r : List (Option (List ℕ))). slice_index_or r number None ≡ None) (λ a. start_locals g a (array_kind g a)) 0 (length g.program.arrays) array [] (λ a. none-local g a number (array_kind g a)) refl) ∙ is));
}
  where
    nothing : {X : Type 0} (x : X) → ◌≡◌ {A = Option X} None (Some x) → ⊥
    nothing x e = absurd cc

    statics-at : (array : ℕ) → array_kind g array ≡ Static → slice_index_or (start_own g).statics array [] ≡ for_each (block_count g array) (start_block g array)
    statics-at array is =
        each-read (length g.program.arrays) (λ a. start_statics g a (array_kind g a)) array [] (declared-array g array Static is refl) ∙ ap (start_statics g array) is

-- how many entries the lists before one have together
abbrev before : {Y : Type 0} → (ℕ → List Y) → (first n : ℕ) → ℕ
before f first zero = 0
before f first (suc n) = length (f first) + before f (first + 1) n

-- a list behind another, read
read-front : {Y : Type 0} (xs ys : List Y) (j : ℕ) (d : Y) → j < length xs → slice_index_or (xs ++ ys) j d ≡ slice_index_or xs j d
read-front [] ys j d below = absurd (omega (arith, below))
read-front (x ∷ xs) ys zero d below = refl
read-front (x ∷ xs) ys (suc j) d below = read-front xs ys j d (omega (arith, below))

read-behind : {Y : Type 0} (xs ys : List Y) (j : ℕ) (d : Y) → slice_index_or (xs ++ ys) (length xs + j) d ≡ slice_index_or ys j d
read-behind [] ys j d = let none : 0 + j ≡ j = omega arith in ap (λ k. slice_index_or ys k d) none
read-behind (x ∷ xs) ys j d =
    let on : length (x ∷ xs) + j ≡ suc (length xs + j) = omega arith in
    ap (λ k. slice_index_or (x ∷ (xs ++ ys)) k d) on ∙ read-behind xs ys j d

-- the lists one after another
flat-long : {Y : Type 0} (f : ℕ → List Y) (first n : ℕ) → length (flat_map f (map (λ a. a) (numbers_from first n))) ≡ before f first n
flat-long f first zero = refl
flat-long f first (suc n) = length-append (f first) (flat_map f (map (λ a. a) (numbers_from (first + 1) n))) ∙ ap (λ m. length (f first) + m) (flat-long f (first + 1) n)

flat-read : {Y : Type 0} (f : ℕ → List Y) (first n k j : ℕ) (d : Y) → k < n → j < length (f (first + k)) → slice_index_or (flat_map f (map (λ a. a) (numbers_from first n))) (before f first k + j) d ≡ slice_index_or (f (first + k)) j d
flat-read f first zero k j d below inside = absurd (omega (arith, below))
flat-read f first (suc n) zero j d below inside =
    let none : first + 0 ≡ first = omega arith in
    let start : 0 + j ≡ j = omega arith in
    let here : j < length (f first) = subst (λ a. j < length (f a)) none inside in
    ap (λ k. slice_index_or (f first ++ flat_map f (map (λ a. a) (numbers_from (first + 1) n))) k d) start
    ∙ (read-front (f first) (flat_map f (map (λ a. a) (numbers_from (first + 1) n))) j d here ∙ ap (λ a. slice_index_or (f a) j d) (sym none))
flat-read f first (suc n) (suc k) j d below inside =
    let on : first + suc k ≡ (first + 1) + k = omega arith in
    let sums : (length (f first) + before f (first + 1) k) + j ≡ length (f first) + (before f (first + 1) k + j) = omega arith in
    let there : j < length (f ((first + 1) + k)) = subst (λ a. j < length (f a)) on inside in
    ap (λ m. slice_index_or (f first ++ flat_map f (map (λ a. a) (numbers_from (first + 1) n))) m d) sums
    ∙ (read-behind (f first) (flat_map f (map (λ a. a) (numbers_from (first + 1) n))) (before f (first + 1) k + j) d
    ∙ (flat-read f (first + 1) n k j d (omega (arith, below)) there ∙ ap (λ a. slice_index_or (f a) j d) (sym on)))

-- lists that have an entry for each block of the arrays of a kind
before-together : (g : Setting) (kind : ArrayKind) (f : ℕ → List (List ℕ)) → ((a : ℕ) → length (f a) ≡ counted g.spaces kind (array_of g a)) → (first k : ℕ) (xs : List ArrayDecl)
    → ((i : ℕ) → i < length xs → array_of g (first + i) ≡ slice_index_or xs i no_array) → k ≤ length xs → before f first k ≡ blocks_together g.spaces kind (take k xs)
before-together g kind f long first zero xs are below = refl
before-together g kind f long first (suc k) [] are below = absurd (omega (arith, below))
before-together g kind f long first (suc k) (x ∷ xs) are below =
    let none : first + 0 ≡ first = omega arith in
    let here : array_of g first ≡ x = ap (array_of g) (sym none) ∙ are 0 (omega arith) in
    let rest = before-together g kind f long (first + 1) k xs (λ i inside. let on : (first + 1) + i ≡ first + suc i = omega arith in ap (array_of g) on ∙ are (suc i) (omega (arith, inside))) (omega (arith, below)) in
    ap (λ m. m + before f (first + 1) k) (long first ∙ ap (counted g.spaces kind) here)
    ∙ (ap (λ m. counted g.spaces kind x + m) rest ∙ sym (one-more g.spaces kind x (take k xs)))

-- where an array's blocks begin
before-is : (g : Setting) (kind : ArrayKind) (f : ℕ → List (List ℕ)) → ((a : ℕ) → length (f a) ≡ counted g.spaces kind (array_of g a)) → (k : ℕ) → k ≤ length g.program.arrays → before f 0 k ≡ blocks_together g.spaces kind (take k g.program.arrays)
before-is g kind f long k below =
    before-together g kind f long 0 k g.program.arrays (λ i inside. let none : 0 + i ≡ i = omega arith in ap (array_of g) none) below

-- how many blocks of a class the start has for an array
distributed-count : (g : Setting) (a : ℕ) (k : ArrayKind) → array_kind g a ≡ k → length (start_shared g class.Distributed a k) ≡ counted g.spaces Distributed (array_of g a)
distributed-count g a Static is = ap (λ x. cond (same_kind x Distributed) (blocks_of g.spaces (array_of g a)) 0) (sym is)
distributed-count g a Temp is = ap (λ x. cond (same_kind x Distributed) (blocks_of g.spaces (array_of g a)) 0) (sym is)
distributed-count g a Local is = ap (λ x. cond (same_kind x Distributed) (blocks_of g.spaces (array_of g a)) 0) (sym is)
distributed-count g a Distributed is = length-replicate (block_count g a) [] ∙ ap (λ x. cond (same_kind x Distributed) (blocks_of g.spaces (array_of g a)) 0) (sym is)
distributed-count g a Served is = ap (λ x. cond (same_kind x Distributed) (blocks_of g.spaces (array_of g a)) 0) (sym is)

served-count : (g : Setting) (a : ℕ) (k : ArrayKind) → array_kind g a ≡ k → length (start_shared g class.Served a k) ≡ counted g.spaces Served (array_of g a)
served-count g a Static is = ap (λ x. cond (same_kind x Served) (blocks_of g.spaces (array_of g a)) 0) (sym is)
served-count g a Temp is = ap (λ x. cond (same_kind x Served) (blocks_of g.spaces (array_of g a)) 0) (sym is)
served-count g a Local is = ap (λ x. cond (same_kind x Served) (blocks_of g.spaces (array_of g a)) 0) (sym is)
served-count g a Distributed is = ap (λ x. cond (same_kind x Served) (blocks_of g.spaces (array_of g a)) 0) (sym is)
served-count g a Served is = each-long (block_count g a) (start_block g a) ∙ ap (λ x. cond (same_kind x Served) (blocks_of g.spaces (array_of g a)) 0) (sym is)

distributed-begins : (g : Setting) → DistributedIsWhole g (start_own g).created (start_blocks g class.Distributed)
distributed-begins g = record {
  count =
      flat-long f 0 (length g.program.arrays)
      ∙ (before-is g Distributed f (λ a. distributed-count g a (array_kind g a) refl) (length g.program.arrays) (omega arith) ∙ ap (blocks_together g.spaces Distributed) (take-whole g.program.arrays));
  words = λ a n is below.
      let declared = declared-array g a Distributed is refl in
      let none : 0 + a ≡ a = omega arith in
      let first : first_of_class g a ≡ before f 0 a =
      ap (λ k. blocks_together g.spaces k (take a g.program.arrays)) is ∙ sym (before-is g Distributed f (λ a. distributed-count g a (array_kind g a) refl) a (omega (arith, declared))) in
      let list : f (0 + a) ≡ replicate (block_count g a) [] = ap f none ∙ ap (start_shared g class.Distributed a) is in
      let inside : n < length (f (0 + a)) = subst (λ (l : List (List ℕ)). n < length l) (sym list) (let long = length-replicate {A = List ℕ} (block_count g a) [] in omega (arith, below, long)) in
      ap (λ m. length (slice_index_or (start_blocks g class.Distributed) (m + n) [])) first
      ∙ (ap length (flat-read f 0 (length g.program.arrays) a n [] declared inside)
      ∙ (ap (λ l. length (slice_index_or l n [])) list
      ∙ (ap length (get_or-replicate (block_count g a) n [] [] below)
      ∙ ap (λ b. words_if b (block_words g a n)) (sym (alike (length g.program.arrays) a false)))));
}
  where
    f : ℕ → List (List ℕ)
    f a = start_shared g class.Distributed a (array_kind g a)

served-begins : (g : Setting) → IsSound g → ServedIsWhole g (start_blocks g class.Served)
served-begins g sound = record {
  count =
      flat-long f 0 (length g.program.arrays)
      ∙ (before-is g Served f (λ a. served-count g a (array_kind g a) refl) (length g.program.arrays) (omega arith) ∙ ap (blocks_together g.spaces Served) (take-whole g.program.arrays));
  words = λ a n is below.
      let declared = declared-array g a Served is refl in
      let none : 0 + a ≡ a = omega arith in
      let first : first_of_class g a ≡ before f 0 a =
      ap (λ k. blocks_together g.spaces k (take a g.program.arrays)) is ∙ sym (before-is g Served f (λ a. served-count g a (array_kind g a) refl) a (omega (arith, declared))) in
      let list : f (0 + a) ≡ for_each (block_count g a) (start_block g a) = ap f none ∙ ap (start_shared g class.Served a) is in
      let inside : n < length (f (0 + a)) = subst (λ (l : List (List ℕ)). n < length l) (sym list) (let long = each-long (block_count g a) (start_block g a) in omega (arith, below, long)) in
      ap (λ m. length (slice_index_or (start_blocks g class.Served) (m + n) [])) first
      ∙ (ap length (flat-read f 0 (length g.program.arrays) a n [] declared inside)
      ∙ (ap (λ l. length (slice_index_or l n [])) list
      ∙ (ap length (each-read (block_count g a) (start_block g a) n [] below) ∙ start-long g sound a n)));
}
  where
    f : ℕ → List (List ℕ)
    f a = start_shared g class.Served a (array_kind g a)

-- a program begins in a whole state
pub start-whole : (g : Setting) → IsSound g → IsWhole g (start_state g)
start-whole g sound = record {
  own = own-begins g sound;
  distributed = distributed-begins g;
  served = served-begins g sound;
  distributed_copies = distributed-begins g;
  served_copies = served-begins g sound;
}
