-- Blocks and whole arrays: what a look-up finds among the entries of all blocks.
use Rattle.std.proofs.Common.{◌≡◌, ℕ, zero, suc, ◌+◌, ◌<◌, ◌≤◌, inl, inr, List, [], ◌∷◌, ◌++◌, map, zip, length, slice_index_or, Some, None, refl, sym, ap, ◌∙◌, subst, arith, append-nil}
use Rattle.std.proofs.lemmas.Cmp.{nat_list_cmp_total}
use Rattle.std.specs.FinMap as finite
use Rattle.std.specs.FinMap.{get-from_entries}
use Rattle.std.specs.List.{Contains, flat_map, enumerate_from}
use Rattle.sial_syntax.specs.Boxes.{numbers_from, volume, place_of, tuple_at, IsTupleOf}
use Rattle.sial_syntax.specs.Spaces.{Extent, rank_of, numbers_at}
use Rattle.sial_syntax.proofs.BoxLemmas.{tuple-within, place-of-tuple}
use Rattle.sial_syntax.proofs.RankLemmas.{rank-of-numbers, numbers-within}
use Rattle.sial_meaning.specs.LocalStep.{whole_positions}
use Rattle.sial_meaning.specs.Setting.{Setting, dims_of, block_count}
use Rattle.sial_meaning.specs.Sight.{lengths}
use Rattle.sial_meaning.specs.Sound.{IsSound}
use Rattle.sial_meaning.specs.Whole.{entries_on, block_extents, block_positions, whole_array, held_extents}
use Rattle.sial_meaning.specs.WholeLaws.{BlocksAreApart, BlocksAreTheMap, AbsentBlocksAreNotThere, NothingElseIsThere, HeldBlocksAreTheMap}
use Rattle.sial_meaning.proofs.Granted.Rules.{same-first, same-rest}
use Rattle.sial_meaning.proofs.Granted.Segments.{from-one, positions-same, words-are}
use Rattle.sial_meaning.proofs.AssignmentsReadBack.Rows.{look, look-past-row, look-in-row, found-in-row, place_on, positions-are, entries-are, positions-have, contains-place, looked-up, zip-none, all-none}

-- two places of blocks of an array with one position are one place of one block
places-same : (g : Setting) (array n m k l : ℕ) → IsSound g → n < block_count g array → m < block_count g array
    → k < volume (lengths (block_extents g array n)) → l < volume (lengths (block_extents g array m))
    → place_on (block_extents g array n) k ≡ place_on (block_extents g array m) l → (n ≡ m) × (k ≡ l)
places-same g array n m k l sound inside within below under same =
    let dims = dims_of g array in
    let both = positions-same g.spaces dims (numbers_at g.spaces dims n) (numbers_at g.spaces dims m) (tuple_at (lengths (block_extents g array n)) k) (tuple_at (lengths (block_extents g array m)) l) (from-one g sound)
    (numbers-within g.spaces dims n inside) (numbers-within g.spaces dims m within)
    (tuple-within (lengths (block_extents g array n)) k below) (tuple-within (lengths (block_extents g array m)) l under) same in
    let number : n ≡ m = sym (rank-of-numbers g.spaces dims n inside) ∙ (ap (rank_of g.spaces dims) both.0 ∙ rank-of-numbers g.spaces dims m within) in
    let place : k ≡ l =
    sym (place-of-tuple (lengths (block_extents g array n)) k below)
    ∙ (ap (place_of (lengths (block_extents g array n))) both.1
    ∙ (ap (λ x. place_of (lengths (block_extents g array x)) (tuple_at (lengths (block_extents g array m)) l)) number
    ∙ place-of-tuple (lengths (block_extents g array m)) l under)) in
    (number, place)

-- all entries of the blocks from a number on
abbrev entries_from : Setting → (array first : ℕ) → List (List ℕ) → List (List ℕ × ℕ)
entries_from g array first blocks = flat_map (λ (b : ℕ × List ℕ). entries_on (block_extents g array b.0) b.1) (enumerate_from first blocks)

-- one block's entries and the others'
entries-split : (g : Setting) (array first : ℕ) (b : List ℕ) (bs : List (List ℕ))
    → entries_from g array first (b ∷ bs)
    ≡ zip (map (place_on (block_extents g array first)) (numbers_from 0 (volume (lengths (block_extents g array first))))) b ++ entries_from g array (first + 1) bs
entries-split g array first b bs = ap (λ es. es ++ entries_from g array (first + 1) bs) (entries-are (block_extents g array first) b)

-- a position of another block is found in none of these
look-past-all : (g : Setting) (array first : ℕ) (blocks : List (List ℕ)) (q : List ℕ)
    → ((m l : ℕ) → first ≤ m → m < (first + length blocks) → l < volume (lengths (block_extents g array m)) → q ≡ place_on (block_extents g array m) l → ⊥)
    → look q (entries_from g array first blocks) ≡ None
look-past-all g array first [] q differ = refl
look-past-all g array first (b ∷ bs) q differ =
    ap (look q) (entries-split g array first b bs)
    ∙ (look-past-row (place_on (block_extents g array first)) 0 (volume (lengths (block_extents g array first))) b (entries_from g array (first + 1) bs) q
    (λ k from below. differ first k (omega arith) (omega arith) (omega (arith, below)))
    ∙ look-past-all g array (first + 1) bs q (λ m l from below. differ m l (omega (arith, from)) (omega (arith, below))))

-- a position of a block is found with the block's number there
look-at-place : (g : Setting) (array first n k : ℕ) (blocks : List (List ℕ)) → IsSound g → (first + length blocks) ≤ block_count g array → n < length blocks
    → k < volume (lengths (block_extents g array (first + n))) → volume (lengths (block_extents g array (first + n))) ≤ length (slice_index_or blocks n [])
    → look (place_on (block_extents g array (first + n)) k) (entries_from g array first blocks) ≡ Some (slice_index_or (slice_index_or blocks n []) k 0)
look-at-place g array first n k [] sound fit inside below long = absurd (omega (arith, inside))
look-at-place g array first zero k (b ∷ bs) sound fit inside below long =
    let none : first + 0 ≡ first = omega arith in
    let here : k < volume (lengths (block_extents g array first)) = subst (λ x. k < volume (lengths (block_extents g array x))) none below in
    let whole : volume (lengths (block_extents g array first)) ≤ length b = subst (λ x. volume (lengths (block_extents g array x)) ≤ length b) none long in
    let start : 0 + k ≡ k = omega arith in
    let extents = block_extents g array first in
    ap (λ x. look (place_on (block_extents g array x) k) (entries_from g array first (b ∷ bs))) none
    ∙ (ap (look (place_on extents k)) (entries-split g array first b bs)
    ∙ subst (λ x. look (place_on extents x) (zip (map (place_on extents) (numbers_from 0 (volume (lengths extents)))) b ++ entries_from g array (first + 1) bs) ≡ Some (slice_index_or b k 0)) start
    (look-in-row (place_on extents) 0 (volume (lengths extents)) k b (entries_from g array (first + 1) bs) here whole
    (λ j from under same.
    let inside-count : first < block_count g array = omega (arith, fit) in
    let less : j < volume (lengths extents) = omega (arith, under, here) in
    let one : k ≡ j = (places-same g array first first k j sound inside-count inside-count here less (ap (place_on extents) (sym start) ∙ same)).1 in
    omega (arith, under, one))))
look-at-place g array first (suc n) k (b ∷ bs) sound fit inside below long =
    let on : first + suc n ≡ (first + 1) + n = omega arith in
    let there : k < volume (lengths (block_extents g array ((first + 1) + n))) = subst (λ x. k < volume (lengths (block_extents g array x))) on below in
    let whole : volume (lengths (block_extents g array ((first + 1) + n))) ≤ length (slice_index_or bs n []) = subst (λ x. volume (lengths (block_extents g array x)) ≤ length (slice_index_or bs n [])) on long in
    let extents = block_extents g array first in
    ap (λ x. look (place_on (block_extents g array x) k) (entries_from g array first (b ∷ bs))) on
    ∙ (ap (look (place_on (block_extents g array ((first + 1) + n)) k)) (entries-split g array first b bs)
    ∙ (look-past-row (place_on extents) 0 (volume (lengths extents)) b (entries_from g array (first + 1) bs) (place_on (block_extents g array ((first + 1) + n)) k)
    (λ l from under same.
    let inside-count : ((first + 1) + n) < block_count g array = omega (arith, fit, inside) in
    let first-count : first < block_count g array = omega (arith, fit) in
    let one : ((first + 1) + n) ≡ first = (places-same g array ((first + 1) + n) first k l sound inside-count first-count there (omega (arith, under)) same).0 in
    omega (arith, one))
    ∙ look-at-place g array (first + 1) n k bs sound (omega (arith, fit)) (omega (arith, inside)) there whole))

-- no position lies in two blocks
pub blocks-are-apart : BlocksAreApart
blocks-are-apart g array one other position sound inside within has holds =
    let a = positions-have (block_extents g array one) position has in
    let b = positions-have (block_extents g array other) position holds in
    let below = a.2 in
    let under = b.2 in
    (places-same g array one other a.0 b.0 sound inside within (omega (arith, below)) (omega (arith, under)) (sym a.3 ∙ b.3)).0

-- each block's list is the array's map at its positions
pub blocks-are-the-map : BlocksAreTheMap
blocks-are-the-map g array number blocks sound many inside long =
    let dims = dims_of g array in
    let words = slice_index_or blocks number [] in
    let extents = block_extents g array number in
    let wide : length words ≡ volume (lengths extents) = long ∙ words-are g.spaces dims (numbers_at g.spaces dims number) in
    let start : 0 + number ≡ number = omega arith in
    looked-up extents (finite.get (whole_array g array blocks)) words wide
    (λ k below.
    get-from_entries nat_list_cmp_total (entries_from g array 0 blocks) (place_on extents k)
    ∙ subst (λ x. look (place_on (block_extents g array x) k) (entries_from g array 0 blocks) ≡ Some (slice_index_or words k 0)) start
    (look-at-place g array 0 number k blocks sound (omega (arith, many)) inside
    (subst (λ x. k < volume (lengths (block_extents g array x))) (sym start) below)
    (subst (λ x. volume (lengths (block_extents g array x)) ≤ length words) (sym start) (omega (arith, wide)))))

-- a position of a block that isn't there is found nowhere
look-absent : (g : Setting) (array first n k : ℕ) (blocks : List (List ℕ)) → IsSound g → (first + length blocks) ≤ block_count g array → n < length blocks
    → k < volume (lengths (block_extents g array (first + n))) → slice_index_or blocks n [] ≡ []
    → look (place_on (block_extents g array (first + n)) k) (entries_from g array first blocks) ≡ None
look-absent g array first n k [] sound fit inside below absent = absurd (omega (arith, inside))
look-absent g array first zero k (b ∷ bs) sound fit inside below absent =
    let none : first + 0 ≡ first = omega arith in
    let extents = block_extents g array first in
    let here : k < volume (lengths extents) = subst (λ x. k < volume (lengths (block_extents g array x))) none below in
    let first-count : first < block_count g array = omega (arith, fit) in
    ap (λ x. look (place_on (block_extents g array x) k) (entries_from g array first (b ∷ bs))) none
    ∙ (ap (look (place_on extents k)) (entries-split g array first b bs)
    ∙ (ap (λ x. look (place_on extents k) (zip (map (place_on extents) (numbers_from 0 (volume (lengths extents)))) x ++ entries_from g array (first + 1) bs)) absent
    ∙ (ap (look (place_on extents k)) (zip-none (map (place_on extents) (numbers_from 0 (volume (lengths extents)))) (entries_from g array (first + 1) bs))
    ∙ look-past-all g array (first + 1) bs (place_on extents k)
    (λ m l from under less same.
    let inside-count : m < block_count g array = omega (arith, fit, under) in
    let one : first ≡ m = (places-same g array first m k l sound first-count inside-count here less same).0 in
    omega (arith, one, from)))))
look-absent g array first (suc n) k (b ∷ bs) sound fit inside below absent =
    let on : first + suc n ≡ (first + 1) + n = omega arith in
    let there : k < volume (lengths (block_extents g array ((first + 1) + n))) = subst (λ x. k < volume (lengths (block_extents g array x))) on below in
    let extents = block_extents g array first in
    ap (λ x. look (place_on (block_extents g array x) k) (entries_from g array first (b ∷ bs))) on
    ∙ (ap (look (place_on (block_extents g array ((first + 1) + n)) k)) (entries-split g array first b bs)
    ∙ (look-past-row (place_on extents) 0 (volume (lengths extents)) b (entries_from g array (first + 1) bs) (place_on (block_extents g array ((first + 1) + n)) k)
    (λ l from under same.
    let inside-count : ((first + 1) + n) < block_count g array = omega (arith, fit, inside) in
    let first-count : first < block_count g array = omega (arith, fit) in
    let one : ((first + 1) + n) ≡ first = (places-same g array ((first + 1) + n) first k l sound inside-count first-count there (omega (arith, under)) same).0 in
    omega (arith, one))
    ∙ look-absent g array (first + 1) n k bs sound (omega (arith, fit)) (omega (arith, inside)) there absent))

-- the map has nothing at the positions of a block that isn't there
pub absent-blocks-are-not-there : AbsentBlocksAreNotThere
absent-blocks-are-not-there g array number blocks sound many inside absent =
    let extents = block_extents g array number in
    let start : 0 + number ≡ number = omega arith in
    ap (map (finite.get (whole_array g array blocks))) (positions-are extents)
    ∙ (all-none (finite.get (whole_array g array blocks)) (place_on extents) 0 (volume (lengths extents))
    (λ k from below.
    get-from_entries nat_list_cmp_total (entries_from g array 0 blocks) (place_on extents k)
    ∙ subst (λ x. look (place_on (block_extents g array x) k) (entries_from g array 0 blocks) ≡ None) start
    (look-absent g array 0 number k blocks sound (omega (arith, many)) inside
    (subst (λ x. k < volume (lengths (block_extents g array x))) (sym start) (omega (arith, below)))
    absent))
    ∙ ap (map (λ position. None)) (sym (positions-are extents)))

-- what is found is a position of one of the blocks
found-in-all : (g : Setting) (array first : ℕ) (blocks : List (List ℕ)) (q : List ℕ) (v : ℕ) → look q (entries_from g array first blocks) ≡ Some v
    → (number : ℕ) × (number < length blocks) × Contains (block_positions g array (first + number)) q
found-in-all g array first [] q v is = absurd cc
found-in-all g array first (b ∷ bs) q v is =
    let extents = block_extents g array first in
    let none : first + 0 ≡ first = omega arith in
    elim (found-in-row (place_on extents) 0 (volume (lengths extents)) b (entries_from g array (first + 1) bs) q v (sym (ap (look q) (entries-split g array first b bs)) ∙ is))
    as (λ x. (number : ℕ) × (number < length (b ∷ bs)) × Contains (block_positions g array (first + number)) q) [
      | inl x ↦
          let below = x.2 in
          (0, omega arith, subst (λ n. Contains (block_positions g array n) q) (sym none) (contains-place extents q x.0 (omega (arith, below)) x.3))
      | inr x ↦
          let rest = found-in-all g array (first + 1) bs q v x in
          let on : (first + 1) + rest.0 ≡ first + suc rest.0 = omega arith in
          let below = rest.1 in
          (suc rest.0, omega (arith, below), subst (λ n. Contains (block_positions g array n) q) on rest.2)
    ]

-- the map has nothing at other positions
pub nothing-else-is-there : NothingElseIsThere
nothing-else-is-there g array n blocks position is =
    let x = found-in-all g array 0 blocks position n (sym (get-from_entries nat_list_cmp_total (entries_from g array 0 blocks) position) ∙ is) in
    let start : 0 + x.0 ≡ x.0 = omega arith in
    (x.0, x.1, subst (λ m. Contains (block_positions g array m) position) start x.2)

-- whole positions tell tuples of offsets apart
offsets-same : (extents : List Extent) (t u : List ℕ) → IsTupleOf (lengths extents) t → IsTupleOf (lengths extents) u → whole_positions extents t ≡ whole_positions extents u → t ≡ u
offsets-same [] [] [] is other same = refl
offsets-same [] [] (l ∷ ls) is other same = absurd other
offsets-same [] (k ∷ ks) u is other same = absurd is
offsets-same (e ∷ es) [] u is other same = absurd is
offsets-same (e ∷ es) (k ∷ ks) [] is other same = absurd other
offsets-same (e ∷ es) (k ∷ ks) (l ∷ ls) is other same =
    let here : e.start + k ≡ e.start + l = same-first (e.start + k) (e.start + l) (whole_positions es ks) (whole_positions es ls) same in
    let one : k ≡ l = omega (arith, here) in
    ap (λ x. x ∷ ks) one ∙ ap (λ x. l ∷ x) (offsets-same es ks ls is.1 other.1 (same-rest (e.start + k) (e.start + l) (whole_positions es ks) (whole_positions es ls) same))

-- the same of the blocks that a worker holds
pub held-blocks-are-the-map : HeldBlocksAreTheMap
held-blocks-are-the-map g array held wide =
    let extents = held_extents g.spaces (dims_of g array) held.members in
    looked-up extents (finite.get (finite.from_entries (entries_on extents held.words))) held.words wide
    (λ k below.
    let start : 0 + k ≡ k = omega arith in
    get-from_entries nat_list_cmp_total (entries_on extents held.words) (place_on extents k)
    ∙ (ap (look (place_on extents k)) (entries-are extents held.words ∙ sym (append-nil (zip (map (place_on extents) (numbers_from 0 (volume (lengths extents)))) held.words)))
    ∙ subst (λ x. look (place_on extents x) (zip (map (place_on extents) (numbers_from 0 (volume (lengths extents)))) held.words ++ []) ≡ Some (slice_index_or held.words k 0)) start
    (look-in-row (place_on extents) 0 (volume (lengths extents)) k held.words [] below (omega (arith, wide))
    (λ j from under same.
    let less : j < volume (lengths extents) = omega (arith, under, below) in
    let tuples-one = offsets-same extents (tuple_at (lengths extents) k) (tuple_at (lengths extents) j) (tuple-within (lengths extents) k below) (tuple-within (lengths extents) j less) (ap (place_on extents) (sym start) ∙ same) in
    let one : k ≡ j = sym (place-of-tuple (lengths extents) k below) ∙ (ap (place_of (lengths extents)) tuples-one ∙ place-of-tuple (lengths extents) j less) in
    omega (arith, under, one)))))
