-- Statements of the first profile keep the shape of the numbers.
use Rattle.std.proofs.Common.{◌≡◌, ℕ, zero, suc, ◌+◌, ◌-◌, ◌<◌, ◌≤◌, List, [], ◌∷◌, Option, Some, None, length, replicate, slice_index_or, slice_set, refl, sym, ap, ◌∙◌, subst, arith}
use Rattle.std.proofs.lemmas.List.{length-set, length-replicate, get_or-set_same}
use Rattle.block_math.specs.Elements.{paired, sums}
use Rattle.sial_syntax.specs.Boxes.{numbers_from}
use Rattle.sial_syntax.specs.Spaces.{first_of, count_of}
use Rattle.sial_syntax.specs.Tree.{Block, End, Then, Plain, Do, Assign}
use Rattle.sial_syntax.specs.declared.operand.Bin.TheVariants.{Times}
use Rattle.sial_syntax.specs.declared.operand.BlockRef.{BlockRef}
use Rattle.sial_syntax.specs.declared.operand.Op.TheVariants.{Set, Add}
use Rattle.sial_syntax.specs.declared.operand.Operand.TheVariants as operand
use Rattle.sial_syntax.specs.declared.operand.Right.TheVariants.{One, Two}
use Rattle.sial_syntax.specs.declared.operand.Target.TheVariants as target
use Rattle.first_profile.specs.Running.{Numbers, words_of, with_words, with_scalar, with_value, segments_in, only_index, number_in, segment_len}
use Rattle.first_profile.proofs.Worked.{through, ran, ran_form}
use Rattle.first_profile.specs.FirstTree.{IsBlock, IsBody, IsForm}
use Rattle.first_profile.specs.Fits.{Fits, IsAt, IsWithin, index_of}
use Rattle.sial_meaning.specs.Setting.{Setting}

-- a list replaced by one of its length leaves each list's length
pub length_at : {X : Type 0} (lists : List (List X)) (i j : ℕ) (new : List X) → length new ≡ length (slice_index_or lists i []) → length (slice_index_or (slice_set lists i new) j []) ≡ length (slice_index_or lists j [])
length_at [] i j new same = refl
length_at (y ∷ ys) zero zero new same = same
length_at (y ∷ ys) zero (suc j) new same = refl
length_at (y ∷ ys) (suc i) zero new same = refl
length_at (y ∷ ys) (suc i) (suc j) new same = length_at ys i j new same

-- a block replaced by one of its length leaves each block's length
pub words_at : (statics : List (List (List ℕ))) (a b k j : ℕ) (new : List ℕ) → length new ≡ length (slice_index_or (slice_index_or statics a []) k []) → length (slice_index_or (slice_index_or (slice_set statics a (slice_set (slice_index_or statics a []) k new)) b []) j []) ≡ length (slice_index_or (slice_index_or statics b []) j [])
words_at [] a b k j new same = refl
words_at (y ∷ ys) zero zero k j new same = length_at y k j new same
words_at (y ∷ ys) zero (suc b) k j new same = refl
words_at (y ∷ ys) (suc a) zero k j new same = refl
words_at (y ∷ ys) (suc a) (suc b) k j new same = words_at ys a b k j new same

-- two lists of one length, paired, are as long
pub length-paired : (f : ℕ → ℕ → ℕ) (xs ys : List ℕ) → length xs ≡ length ys → length (paired f xs ys) ≡ length xs
length-paired f [] ys same = refl
length-paired f (x ∷ xs) [] same = absurd (omega (arith, same))
length-paired f (x ∷ xs) (y ∷ ys) same = let rest : length xs ≡ length ys = omega (arith, same) in ap suc (length-paired f xs ys rest)

-- a block of the same length keeps the shape
pub fits_words : (g : Setting) (m : Numbers) (block : BlockRef) (words : List ℕ) → length words ≡ length (words_of g m block) → Fits g m → Fits g (with_words g block words m)
fits_words g m block words same fits = record {
  values = fits.values;
  scalars = fits.scalars;
  arrays = length-set m.statics block.array (slice_set (slice_index_or m.statics block.array []) (number_in g m block) words) ∙ fits.arrays;
  blocks = λ array within.
      length_at m.statics block.array array (slice_set (slice_index_or m.statics block.array []) (number_in g m block) words) (length-set (slice_index_or m.statics block.array []) (number_in g m block) words)
      ∙ fits.blocks array within;
  words = λ array number within below. words_at m.statics block.array array (number_in g m block) number words same ∙ fits.words array number within below;
}

-- a scalar's number keeps the shape
pub fits_scalar : (g : Setting) (m : Numbers) (scalar number : ℕ) → Fits g m → Fits g (with_scalar scalar number m)
fits_scalar g m scalar number fits = record {
  values = fits.values;
  scalars = length-set m.scalars scalar number ∙ fits.scalars;
  arrays = fits.arrays;
  blocks = fits.blocks;
  words = fits.words;
}

-- an index's number keeps the shape
pub fits_value : (g : Setting) (m : Numbers) (index number : ℕ) → Fits g m → Fits g (with_value index number m)
fits_value g m index number fits = record {
  values = length-set m.values index number ∙ fits.values;
  scalars = fits.scalars;
  arrays = fits.arrays;
  blocks = fits.blocks;
  words = fits.words;
}

-- an index that has the number of one of its segments
pub at_segment : (g : Setting) (m : Numbers) (index number : ℕ) → index < length g.program.indices → Fits g m → first_of g.spaces index ≤ number → number < (first_of g.spaces index + count_of g.spaces index) → IsAt g (with_value index number m) index
at_segment g m index number within fits from below =
    let is : slice_index_or (slice_set m.values index number) index 0 ≡ number = get_or-set_same m.values index number 0 (subst (λ n. index < n) (sym fits.values) within) in
    record {
      from = subst (λ n. first_of g.spaces index ≤ n) (sym is) from;
      below = subst (λ n. n < (first_of g.spaces index + count_of g.spaces index)) (sym is) below;
    }

-- the index of a block in a loop is the loop's
pub only-is : (g : Setting) (loop : Option ℕ) (block : BlockRef) (is : IsBlock g.program loop block) → only_index block.at ≡ is.looped.0
only-is g loop block is = ap only_index is.looped.2

-- and that of its array
pub index_of-is : (g : Setting) (loop : Option ℕ) (block : BlockRef) (is : IsBlock g.program loop block) → index_of g block.array ≡ is.looped.0
index_of-is g loop block is = ap only_index (is.declared ∙ is.looped.2)

-- in a loop over an index, that index has the number of one of its segments
pub within_at : (g : Setting) (m : Numbers) (loop : Option ℕ) (index : ℕ) → loop ≡ Some index → IsWithin g m loop → IsAt g m index
within_at g m loop index is within = subst (λ (l : Option ℕ). IsWithin g m l) is within

-- the number of a block in the loop over its index is one of the array's
pub number_below : (g : Setting) (m : Numbers) (loop : Option ℕ) (block : BlockRef) → IsBlock g.program loop block → IsWithin g m loop → number_in g m block < count_of g.spaces (index_of g block.array)
number_below g m loop block is within =
    let i = is.looped.0 in
    let here = within_at g m loop i is.looped.1 within in
    let core : (slice_index_or m.values i 0 - first_of g.spaces i) < count_of g.spaces i = omega (arith, here.from, here.below) in
    subst
    (λ x. (slice_index_or m.values x 0 - first_of g.spaces x) < count_of g.spaces (index_of g block.array))
    (sym (only-is g loop block is))
    (subst (λ y. (slice_index_or m.values i 0 - first_of g.spaces i) < count_of g.spaces y) (sym (index_of-is g loop block is)) core)

-- how many elements a block has in the loop over its index
pub length-words : (g : Setting) (m : Numbers) (loop : Option ℕ) (block : BlockRef) (index : ℕ) → loop ≡ Some index → Fits g m → IsWithin g m loop → IsBlock g.program loop block → length (words_of g m block) ≡ segment_len g index (first_of g.spaces index + (slice_index_or m.values index 0 - first_of g.spaces index))
length-words g m loop block index looped fits within is =
    let same : is.looped.0 ≡ index = some_is _ _ (sym is.looped.1 ∙ looped) in
    fits.words block.array (number_in g m block) is.array (number_below g m loop block is within)
    ∙ (ap (λ x. segment_len g x (first_of g.spaces x + number_in g m block)) (index_of-is g loop block is ∙ same)
    ∙ ap (λ x. segment_len g index (first_of g.spaces index + (slice_index_or m.values x 0 - first_of g.spaces x))) (only-is g loop block is ∙ same))
  where
    some_is : (a b : ℕ) → Some a ≡ Some b → a ≡ b
    some_is a b e = cc

-- two blocks in the loop over their index have one length
pub same_length : (g : Setting) (m : Numbers) (loop : Option ℕ) (a b : BlockRef) → Fits g m → IsWithin g m loop → IsBlock g.program loop a → IsBlock g.program loop b → length (words_of g m a) ≡ length (words_of g m b)
same_length g m loop a b fits within is_a is_b =
    length-words g m loop a is_a.looped.0 is_a.looped.1 fits within is_a ∙ sym (length-words g m loop b is_a.looped.0 is_a.looped.1 fits within is_b)

-- one thing after another keeps the shape where each does
pub fits_through : (g : Setting) (index first count : ℕ) (turn : ℕ → Numbers → Numbers) → ((k : ℕ) (m : Numbers) → first ≤ k → k < (first + count) → Fits g m → Fits g (turn k m)) → (m : Numbers) → Fits g m → Fits g (through (numbers_from first count) turn m)
fits_through g index first zero turn keeps m fits = fits
fits_through g index first (suc n) turn keeps m fits =
    fits_through
    g
    index
    (first + 1)
    n
    turn
    (λ k o from below. keeps k o (omega (arith, from)) (omega (arith, below)))
    (turn first m)
    (keeps first m (omega arith) (omega arith) fits)

mutual
  -- a statement keeps the shape
  pub fits_form : (g : Setting) (loop : Option ℕ) (form : Plain) (m : Numbers) → IsForm g.program loop form → Fits g m → IsWithin g m loop → Fits g (ran_form g form m)
  fits_form g None (Do index body) m is fits within =
      fits_value
      g
      (through (segments_in g index) (λ k n. ran g body (with_value index k n)) m)
      index
      0
      (fits_through
      g
      index
      (first_of g.spaces index)
      (count_of g.spaces index)
      (λ k n. ran g body (with_value index k n))
      (λ k n from below kept. fits_body g (Some index) body (with_value index k n) is.1 (fits_value g n index k kept) (at_segment g n index k is.0 kept from below))
      m
      fits)
  fits_form g (Some outer) (Do index body) m is fits within = absurd is
  fits_form g loop (Assign (target.Block t) Set (One (operand.Number n))) m is fits within =
      fits_words g m t (replicate (length (words_of g m t)) n) (length-replicate (length (words_of g m t)) n) fits
  fits_form g loop (Assign (target.Block t) Add (One (operand.Block b))) m is fits within =
      fits_words g m t (sums (words_of g m t) (words_of g m b)) (length-paired _ (words_of g m t) (words_of g m b) (same_length g m loop t b fits within is.0 is.1)) fits
  fits_form g loop (Assign (target.Scalar s) Set (One (operand.Number n))) m is fits within = fits_scalar g m s _ fits
  fits_form g loop (Assign (target.Scalar s) Add (One (operand.Number n))) m is fits within = fits_scalar g m s _ fits
  fits_form g loop (Assign (target.Scalar s) Set (Two (operand.Block a) Times (operand.Block b))) m is fits within = fits_scalar g m s _ fits
  fits_form g loop form m is fits within = fits

  -- statements keep the shape
  pub fits_body : (g : Setting) (loop : Option ℕ) (body : Block) (m : Numbers) → IsBody g.program loop body → Fits g m → IsWithin g m loop → Fits g (ran g body m)
  fits_body g loop End m is fits within = fits
  fits_body g loop (Then line form rest) m is fits within =
      fits_body g loop rest (ran_form g form m) is.1 (fits_form g loop form m is.0 fits within) (within_form g loop form m is.0 within)

  -- a statement in a loop leaves the number of the loop's index
  pub within_form : (g : Setting) (loop : Option ℕ) (form : Plain) (m : Numbers) → IsForm g.program loop form → IsWithin g m loop → IsWithin g (ran_form g form m) loop
  within_form g None form m is within = tt
  within_form g (Some outer) (Do index body) m is within = absurd is
  within_form g (Some outer) (Assign (target.Block t) Set (One (operand.Number n))) m is within = record { from = within.from; below = within.below }
  within_form g (Some outer) (Assign (target.Block t) Add (One (operand.Block b))) m is within = record { from = within.from; below = within.below }
  within_form g (Some outer) (Assign (target.Scalar s) Set (One (operand.Number n))) m is within = record { from = within.from; below = within.below }
  within_form g (Some outer) (Assign (target.Scalar s) Add (One (operand.Number n))) m is within = record { from = within.from; below = within.below }
  within_form g (Some outer) (Assign (target.Scalar s) Set (Two (operand.Block a) Times (operand.Block b))) m is within = record { from = within.from; below = within.below }
  within_form g (Some outer) form m is within = within
