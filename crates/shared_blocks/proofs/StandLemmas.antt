-- What shared blocks stand for after a change.
use Rattle.std.proofs.Common.{◌≡◌, ℕ, zero, suc, ◌+◌, ◌<◌, ◌≤◌, ◌⊎◌, inl, inr, List, [], ◌∷◌, length, slice_index_or, slice_set, replicate, Bool, true, false, ◌&&◌, not, refl, sym, ap, ◌∙◌, subst, arith}
use Rattle.std.proofs.lemmas.Bool.{cases_eq}
use Rattle.std.proofs.lemmas.List.{get_or-set_other, get_or-set_same, length-replicate, length-set}
use Rattle.sial_syntax.specs.declared.access.Access.{Access}
use Rattle.sial_syntax.specs.declared.access.Class.{Class}
use Rattle.sial_syntax.specs.declared.access.Class.TheVariants as class
use Rattle.sial_syntax.specs.declared.array.ArrayKind.TheVariants.{Distributed}
use Rattle.sial_syntax.specs.Spaces.{same_class}
use Rattle.sial_meaning.specs.Own.{Own, for_each, is_created, with_created}
use Rattle.sial_meaning.specs.Setting.{Setting, array_kind, block_count, block_words, first_of_class, zeros}
use Rattle.sial_meaning.specs.State.{Shared, accessed_words, blocks_of_class, shared_block, with_block, with_class, with_run, with_zeros, without}
use Rattle.sial_meaning.specs.Statement.{is_distributed, is_missing}
use Rattle.sial_meaning.proofs.Granted.Runs.{apart-in-class, run-long, run-other, run-same}
use Rattle.sial_meaning.proofs.StatesAreWhole.Created.{each-read}
use Rattle.sial_meaning.proofs.PardosKeepTheControl.Changes.{each-long}
use Rattle.shared_blocks.specs.Laws.{DeletesKeepWords, WhatIsThereIsHeld}
use Rattle.shared_blocks.specs.Standing.{AreWhole, IsThere, SharedStand, kind_of_class}
use Rattle.shared_blocks.proofs.MeetLemmas.{met-long}
use Rattle.shared_blocks.proofs.SetLemmas.{counted, whole-set, within}

-- blocks of an array that is there have the same words
abbrev pub AreSame : Setting → Own → Class → (held blocks : List (List ℕ)) → Type 0
AreSame g own c held blocks = (a n : ℕ) → IsThere g own c a n → slice_index_or held (first_of_class g a + n) [] ≡ slice_index_or blocks (first_of_class g a + n) []

-- the blocks of one class changed, and the arrays of the other are there as they were
pub class-stands : (g : Setting) (held shared : Shared) (own now : Own) (c : Class) (xs ys : List (List ℕ)) → SharedStand g held own shared → AreWhole g (kind_of_class c) xs → length ys ≡ length xs → AreSame g now c xs ys
    → ((d : Class) (a n : ℕ) → same_class d c ≡ false → IsThere g now d a n → IsThere g own d a n) → SharedStand g (with_class held c xs) now (with_class shared c ys)
class-stands g held shared own now class.Distributed xs ys was whole count same keep = record { whole = wholes; counts = counts; words = words }
  where
    wholes : (d : Class) → AreWhole g (kind_of_class d) (blocks_of_class (with_class held class.Distributed xs) d)
    wholes class.Distributed = whole
    wholes class.Served = was.whole class.Served

    counts : (d : Class) → length (blocks_of_class (with_class shared class.Distributed ys) d) ≡ length (blocks_of_class (with_class held class.Distributed xs) d)
    counts class.Distributed = count
    counts class.Served = was.counts class.Served

    words : (d : Class) → AreSame g now d (blocks_of_class (with_class held class.Distributed xs) d) (blocks_of_class (with_class shared class.Distributed ys) d)
    words class.Distributed = same
    words class.Served = λ a n there. was.words class.Served a n (keep class.Served a n refl there)
class-stands g held shared own now class.Served xs ys was whole count same keep = record { whole = wholes; counts = counts; words = words }
  where
    wholes : (d : Class) → AreWhole g (kind_of_class d) (blocks_of_class (with_class held class.Served xs) d)
    wholes class.Distributed = was.whole class.Distributed
    wholes class.Served = whole

    counts : (d : Class) → length (blocks_of_class (with_class shared class.Served ys) d) ≡ length (blocks_of_class (with_class held class.Served xs) d)
    counts class.Distributed = was.counts class.Distributed
    counts class.Served = count

    words : (d : Class) → AreSame g now d (blocks_of_class (with_class held class.Served xs) d) (blocks_of_class (with_class shared class.Served ys) d)
    words class.Distributed = λ a n there. was.words class.Distributed a n (keep class.Distributed a n refl there)
    words class.Served = same

-- an access to a block that is held, and to that of the state
pub put-stands : (g : Setting) (held shared : Shared) (own : Own) (c : Class) (block : ℕ) (how : Access) (from : List ℕ) → block < length (blocks_of_class held c) → length from ≡ length (shared_block held c block) → SharedStand g held own shared
    → SharedStand g (with_block held c block (accessed_words how (shared_block held c block) from)) own (with_block shared c block (accessed_words how (shared_block shared c block) from))
put-stands g held shared own c block how from inside long was =
    let hs = blocks_of_class held c in
    let ss = blocks_of_class shared c in
    let new = accessed_words how (shared_block held c block) from in
    let now = accessed_words how (shared_block shared c block) from in
    let count = was.counts c in
    class-stands g held shared own own c (slice_set hs block new) (slice_set ss block now) was (whole-set g (kind_of_class c) hs block new inside (met-long how (shared_block held c block) from long) (was.whole c))
    (length-set ss block now ∙ (count ∙ sym (length-set hs block new)))
    (λ a n there. elim (cases_eq (first_of_class g a + n) block) as (λ _. slice_index_or (slice_set hs block new) (first_of_class g a + n) [] ≡ slice_index_or (slice_set ss block now) (first_of_class g a + n) []) [
      | inl e ↦ (
          let words : shared_block held c block ≡ shared_block shared c block = ap (λ k. shared_block held c k) (sym e) ∙ (was.words c a n there ∙ ap (λ k. shared_block shared c k) e) in
          ap (λ k. slice_index_or (slice_set hs block new) k []) e
          ∙ (get_or-set_same hs block new [] inside
          ∙ (ap (λ old. accessed_words how old from) words
          ∙ (sym (get_or-set_same ss block now [] (omega (arith, inside, count))) ∙ ap (λ k. slice_index_or (slice_set ss block now) k []) (sym e))))
          )
      | inr ne ↦ get_or-set_other hs block (first_of_class g a + n) new [] ne ∙ (was.words c a n there ∙ sym (get_or-set_other ss block (first_of_class g a + n) now [] ne))
    ])
    (λ d a n other there. there)

-- served arrays are always there
pub served-there : (g : Setting) (own now : Own) (a n : ℕ) → IsThere g now class.Served a n → IsThere g own class.Served a n
served-there g own now a n there = record { kind = there.kind; below = there.below; created = ap (λ k. is_distributed k && not (is_created own a)) there.kind }

-- an array is there as it was where another's flag changed
pub other-there : (g : Setting) (own : Own) (array : ℕ) (flag : Bool) (a n : ℕ) → (a ≡ array → ⊥) → IsThere g (with_created array flag own) class.Distributed a n → IsThere g own class.Distributed a n
other-there g own array flag a n differ there = record {
  kind = there.kind;
  below = there.below;
  created = ap (λ b. is_distributed (array_kind g a) && not b) (sym (get_or-set_other own.created array a flag false differ)) ∙ there.created;
}

-- served ones too
pub others-there : (g : Setting) (own now : Own) (d : Class) (a n : ℕ) → same_class d class.Distributed ≡ false → IsThere g now d a n → IsThere g own d a n
others-there g own now class.Distributed a n other there = absurd cc
others-there g own now class.Served a n other there = served-there g own now a n there

-- an array isn't created where its flag is taken away
unset-flag : (flags : List Bool) (a : ℕ) → slice_index_or (slice_set flags a false) a false ≡ false
unset-flag [] a = refl
unset-flag (b ∷ bs) zero = refl
unset-flag (b ∷ bs) (suc a) = unset-flag bs a

-- so a distributed one isn't there
pub not-there : (g : Setting) (own : Own) (a n : ℕ) → is_created own a ≡ false → IsThere g own class.Distributed a n → ⊥
not-there g own a n gone there =
    let kind : is_missing g own a ≡ not (is_created own a) = ap (λ k. is_distributed k && not (is_created own a)) there.kind in
    let missing : is_missing g own a ≡ true = kind ∙ ap not gone in
    absurd (cc (missing, there.created))

-- each of the zeros of an array
each-zeros : (g : Setting) (array n : ℕ) → n < block_count g array → slice_index_or (for_each (block_count g array) (zeros g array)) n [] ≡ zeros g array n
each-zeros g array n below = each-read (block_count g array) (zeros g array) n [] below

-- a block of another array stands outside of those of an array
outside : (g : Setting) (array a n : ℕ) (ys : List (List ℕ)) → array_kind g array ≡ Distributed → array_kind g a ≡ Distributed → n < block_count g a → (a ≡ array → ⊥) → length ys ≡ block_count g array
    → (first_of_class g a + n < first_of_class g array) ⊎ (first_of_class g array + length ys ≤ first_of_class g a + n)
outside g array a n ys is is-a below differ many =
    subst (λ m. (first_of_class g a + n < first_of_class g array) ⊎ (first_of_class g array + m ≤ first_of_class g a + n)) (sym many) (apart-in-class g a array n Distributed is-a is refl below differ)

-- zeros in all blocks of a distributed array
pub zeros-whole : (g : Setting) (blocks : List (List ℕ)) (array : ℕ) → array_kind g array ≡ Distributed → AreWhole g Distributed blocks
    → AreWhole g Distributed (with_run (first_of_class g array) (for_each (block_count g array) (zeros g array)) blocks)
zeros-whole g blocks array is whole = record {
  count = run-long (first_of_class g array) zs blocks ∙ whole.count;
  words = λ a n is-a below. elim (cases_eq a array) as (λ _. length (slice_index_or (with_run (first_of_class g array) zs blocks) (first_of_class g a + n) []) ≡ block_words g a n) [
    | inl e ↦ (
        let here : n < block_count g array = subst (λ x. n < block_count g x) e below in
        ap (λ x. length (slice_index_or (with_run (first_of_class g array) zs blocks) (first_of_class g x + n) [])) e
        ∙ (ap length (run-same (first_of_class g array) zs blocks n [] (omega (arith, here, many)) (within g Distributed blocks array n refl is here whole))
        ∙ (ap length (each-zeros g array n here) ∙ (length-replicate (block_words g array n) 0 ∙ ap (λ x. block_words g x n) (sym e))))
        )
    | inr ne ↦ ap length (run-other (first_of_class g array) zs blocks (first_of_class g a + n) [] (outside g array a n zs is is-a below ne many)) ∙ whole.words a n is-a below
  ];
}
  where
    zs : List (List ℕ)
    zs = for_each (block_count g array) (zeros g array)

    many : length zs ≡ block_count g array
    many = each-long (block_count g array) (zeros g array)

-- an array is created
pub create-stands : (g : Setting) (held shared : Shared) (own : Own) (array : ℕ) → array_kind g array ≡ Distributed → SharedStand g held own shared
    → SharedStand g (with_zeros g array class.Distributed held) (with_created array true own) (with_zeros g array class.Distributed shared)
create-stands g held shared own array is was =
    class-stands g held shared own (with_created array true own) class.Distributed (with_run first zs held.distributed) (with_run first zs shared.distributed) was (zeros-whole g held.distributed array is (was.whole class.Distributed))
    (run-long first zs shared.distributed ∙ (count ∙ sym (run-long first zs held.distributed)))
    same (others-there g own (with_created array true own))
  where
    first : ℕ
    first = first_of_class g array

    zs : List (List ℕ)
    zs = for_each (block_count g array) (zeros g array)

    many : length zs ≡ block_count g array
    many = each-long (block_count g array) (zeros g array)

    count : length shared.distributed ≡ length held.distributed
    count = was.counts class.Distributed

    same : AreSame g (with_created array true own) class.Distributed (with_run first zs held.distributed) (with_run first zs shared.distributed)
    same = λ a n there. elim (cases_eq a array) as (λ _. slice_index_or (with_run first zs held.distributed) (first_of_class g a + n) [] ≡ slice_index_or (with_run first zs shared.distributed) (first_of_class g a + n) []) [
      | inl e ↦ (
          let here : n < block_count g array = subst (λ x. n < block_count g x) e there.below in
          let inside : first + n < length held.distributed = within g Distributed held.distributed array n refl is here (was.whole class.Distributed) in
          ap (λ x. slice_index_or (with_run first zs held.distributed) (first_of_class g x + n) []) e
          ∙ (run-same first zs held.distributed n [] (omega (arith, here, many)) inside
          ∙ (sym (run-same first zs shared.distributed n [] (omega (arith, here, many)) (omega (arith, inside, count)))
          ∙ ap (λ x. slice_index_or (with_run first zs shared.distributed) (first_of_class g x + n) []) (sym e)))
          )
      | inr ne ↦ (
          let out = outside g array a n zs is there.kind there.below ne many in
          run-other first zs held.distributed (first_of_class g a + n) [] out
          ∙ (was.words class.Distributed a n (other-there g own array true a n ne there) ∙ sym (run-other first zs shared.distributed (first_of_class g a + n) [] out))
          )
    ]

-- an array is deleted
pub deletes_keep_words : DeletesKeepWords
deletes_keep_words g held own shared array was is = record { whole = was.whole; counts = counts; words = words }
  where
    first : ℕ
    first = first_of_class g array

    none : List (List ℕ)
    none = replicate (block_count g array) []

    many : length none ≡ block_count g array
    many = length-replicate (block_count g array) []

    counts : (d : Class) → length (blocks_of_class (without g array class.Distributed shared) d) ≡ length (blocks_of_class held d)
    counts class.Distributed = run-long first none shared.distributed ∙ was.counts class.Distributed
    counts class.Served = was.counts class.Served

    words : (d : Class) → AreSame g (with_created array false own) d (blocks_of_class held d) (blocks_of_class (without g array class.Distributed shared) d)
    words class.Served = λ a n there. was.words class.Served a n (served-there g own (with_created array false own) a n there)
    words class.Distributed = λ a n there. elim (cases_eq a array) as (λ _. slice_index_or held.distributed (first_of_class g a + n) [] ≡ slice_index_or (with_run first none shared.distributed) (first_of_class g a + n) []) [
      | inl e ↦ absurd (not-there g (with_created array false own) a n (ap (λ x. is_created (with_created array false own) x) e ∙ unset-flag own.created array) there)
      | inr ne ↦ (
          let out = outside g array a n none is there.kind there.below ne many in
          was.words class.Distributed a n (other-there g own array false a n ne there) ∙ sym (run-other first none shared.distributed (first_of_class g a + n) [] out)
          )
    ]

-- what is there is held
pub what_is_there_is_held : WhatIsThereIsHeld
what_is_there_is_held g held own shared c a n was there = (
  within g (kind_of_class c) (blocks_of_class held c) a n (counted c) there.kind there.below (was.whole c),
  (was.whole c).words a n there.kind there.below,
)
