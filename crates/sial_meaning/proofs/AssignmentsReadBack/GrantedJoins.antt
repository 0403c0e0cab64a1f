-- What sums, differences, products and scalings of a granted program read back.
use Rattle.std.proofs.Common.{◌≡◌, ℕ, List, [], ◌∷◌, ◌++◌, filter, Bool, true, false, ◌||◌, not, if◌then◌else◌, ⊎_elim, inl, inr, refl, sym, ap, ◌∙◌, ◌&&◌}
use Rattle.std.specs.List.{list_any}
use Rattle.sial_syntax.proofs.AmongLemmas.{Among, among_left, among_right, among_either, among_filter, among_filter_from, among_from, contains_at, all_from, all_at}
use Rattle.sial_syntax.specs.declared.operand.Bin.{Bin}
use Rattle.sial_syntax.specs.declared.operand.Bin.TheVariants.{Plus, Minus, Times, Outer}
use Rattle.sial_syntax.specs.declared.operand.BlockRef.{BlockRef}
use Rattle.sial_syntax.specs.declared.operand.Op.{Op}
use Rattle.sial_syntax.specs.declared.operand.Operand.{Operand}
use Rattle.sial_syntax.specs.declared.operand.Operand.TheVariants as operand
use Rattle.sial_syntax.specs.declared.operand.Right.{Right}
use Rattle.sial_syntax.specs.declared.operand.Right.TheVariants.{Two}
use Rattle.sial_syntax.specs.declared.operand.Target.TheVariants as target
use Rattle.sial_syntax.specs.Agreeing.{contains, all_in, same_set, has_twice, in_one, share_any, is_block, pair_agrees, block_agrees}
use Rattle.sial_syntax.specs.Parts.{blocks_named}
use Rattle.sial_syntax.specs.Shapes.{breaks_repeated, breaks_indices, wrong_rank, wrong_slot_rank, disagrees}
use Rattle.sial_syntax.specs.Tree.{Tree, Assign}
use Rattle.sial_syntax.specs.Visits.{all_visits}
use Rattle.sial_meaning.specs.JoinLaws.{shared_indices, Assigns, JoinsByName, JoinsReadBack, SumsReadBack, DifferencesReadBack, OuterProductsReadBack, ContractionsReadBack, ScalingsReadBack}
use Rattle.sial_meaning.specs.Number.{plus, minus, times}
use Rattle.sial_meaning.proofs.Granted.Rules.{fails-in, repeats}
use Rattle.sial_meaning.proofs.AssignmentsReadBack.Joins.{sums-by-name, differences-by-name, outer-products-by-name, scalings-by-name, contractions-by-name}
use Rattle.sial_meaning.proofs.AcceptedInOtherWords.Pairs.{never, first-holds, second-holds, holds-so, not-so}
use Rattle.sial_meaning.proofs.StepsReachTheFold.Rules.{neither}
use Rattle.sial_meaning.proofs.Granted.Shapes.{ShapesHold, shapes-hold}

-- no block of an assignment names an index twice
blocks-once : (p : Tree) (to : BlockRef) (op : Op) (right : Right) → ShapesHold p → Assigns p to op right → list_any (λ (b : BlockRef). has_twice b.at) (blocks_named (Assign (target.Block to) op right)) ≡ false
blocks-once p to op right hold (v, has, is) =
    let none : repeats (Assign (target.Block to) op right) ≡ false = ap repeats (sym is) ∙ fails-in (breaks_repeated p) (all_visits p) v hold.repeated has in
    (neither (list_any (λ (b : BlockRef). has_twice b.at) (blocks_named (Assign (target.Block to) op right))) _ none).0

-- the indices of an assignment agree
right-agrees : (p : Tree) (to : BlockRef) (op : Op) (right : Right) → ShapesHold p → Assigns p to op right → block_agrees p to.at right ≡ true
right-agrees p to op right hold (v, has, is) =
    let none = fails-in (breaks_indices p) (all_visits p) v hold.indices has in
    let rest = (neither (list_any (wrong_rank p) (blocks_named v.form)) (wrong_slot_rank p v.form || disagrees p v.form) none).1 in
    let agrees = (neither (wrong_slot_rank p v.form) (disagrees p v.form) rest).1 in
    holds-so (block_agrees p to.at right) (ap (disagrees p) (sym is) ∙ agrees)

-- the target names no index twice
target-once : (p : Tree) (to : BlockRef) (op : Op) (right : Right) → ShapesHold p → Assigns p to op right → has_twice to.at ≡ false
target-once p to op right hold says = (neither (has_twice to.at) _ (blocks-once p to op right hold says)).0

-- of the same sets the second's indices stand in the first
second-in : (xs ys : List ℕ) → same_set xs ys ≡ true → all_in ys xs ≡ true
second-in xs ys same = second-holds (all_in xs ys) (all_in ys xs) same

-- of indices that all stand somewhere the first ones do, and the others
all-left : (xs ys zs : List ℕ) → all_in (xs ++ ys) zs ≡ true → all_in xs zs ≡ true
all-left xs ys zs all = all_from (contains zs) xs (λ i a. all_at (contains zs) i (xs ++ ys) all (among_left i xs ys a))

all-right : (xs ys zs : List ℕ) → all_in (xs ++ ys) zs ≡ true → all_in ys zs ≡ true
all-right xs ys zs all = all_from (contains zs) ys (λ i a. all_at (contains zs) i (xs ++ ys) all (among_right i xs ys a))

-- two blocks joined element by element, where the rule on indices says that theirs stand in the target
joins-read-back : (bin : Bin) (f : ℕ → ℕ → ℕ) → JoinsByName bin f → ((to a b : List ℕ) → pair_agrees to bin a b ≡ true → (all_in a to ≡ true) × (all_in b to ≡ true)) → JoinsReadBack bin f
joins-read-back bin f by-name stand g to a b op values old left right tuple sound says are =
    let hold = shapes-hold g.program sound.setting.granted in
    let right-side : Right = Two (operand.Block a) bin (operand.Block b) in
    let in-target = stand to.at a.at b.at (right-agrees g.program to op right-side hold says) in
    by-name g.spaces op values to.at a.at b.at old left right tuple (target-once g.program to op right-side hold says) in-target.0 in-target.1 are

-- the indices of two blocks that are both the target's
both-targets : (to a b : List ℕ) → (same_set to a && same_set to b) ≡ true → (all_in a to ≡ true) × (all_in b to ≡ true)
both-targets to a b agrees = (second-in to a (first-holds (same_set to a) (same_set to b) agrees), second-in to b (second-holds (same_set to a) (same_set to b) agrees))

-- the indices of two blocks that are together the target's
parts-of-target : (to a b : List ℕ) → (not (share_any a b) && same_set to (a ++ b)) ≡ true → (all_in a to ≡ true) × (all_in b to ≡ true)
parts-of-target to a b agrees = let all = second-in to (a ++ b) (second-holds (not (share_any a b)) (same_set to (a ++ b)) agrees) in (all-left a b to all, all-right a b to all)

-- sums, differences and outer products
pub sums-read-back : SumsReadBack
sums-read-back = joins-read-back Plus plus sums-by-name both-targets

-- differences in a granted program
pub differences-read-back : DifferencesReadBack
differences-read-back = joins-read-back Minus minus differences-by-name both-targets

-- outer products in a granted program
pub outer-products-read-back : OuterProductsReadBack
outer-products-read-back = joins-read-back Outer times outer-products-by-name parts-of-target

-- what is no block names none
scaled-right : (p : Tree) (to from : BlockRef) (by : Operand) → is_block by ≡ false → block_agrees p to.at (Two by Times (operand.Block from)) ≡ true → same_set to.at from.at ≡ true
scaled-right p to from (operand.Number n) number agrees = agrees
scaled-right p to from (operand.Scalar s) number agrees = agrees
scaled-right p to from (operand.Block b) number agrees = absurd cc

scaled-left : (p : Tree) (to from : BlockRef) (by : Operand) → is_block by ≡ false → block_agrees p to.at (Two (operand.Block from) Times by) ≡ true → same_set to.at from.at ≡ true
scaled-left p to from (operand.Number n) number agrees = agrees
scaled-left p to from (operand.Scalar s) number agrees = agrees
scaled-left p to from (operand.Block b) number agrees = absurd cc

-- scalings
pub scalings-read-back : ScalingsReadBack
scalings-read-back g to from by op n values old words tuple sound number are =
    let hold = shapes-hold g.program sound.setting.granted in (
      λ says.
          (scalings-by-name
          g.spaces
          op
          n
          values
          to.at
          from.at
          old
          words
          tuple
          (target-once g.program to op (Two by Times (operand.Block from)) hold says)
          (second-in to.at from.at (scaled-right g.program to from by number (right-agrees g.program to op (Two by Times (operand.Block from)) hold says)))
          are).0,
      λ says.
          (scalings-by-name
          g.spaces
          op
          n
          values
          to.at
          from.at
          old
          words
          tuple
          (target-once g.program to op (Two (operand.Block from) Times by) hold says)
          (second-in to.at from.at (scaled-left g.program to from by number (right-agrees g.program to op (Two (operand.Block from) Times by) hold says)))
          are).1,
    )

-- an index doesn't stand in a list
absent : (xs : List ℕ) (i : ℕ) → (Among i xs → ⊥) → contains xs i ≡ false
absent xs i none = by_test (contains xs i) refl
  where
    by_test : (b : Bool) → contains xs i ≡ b → b ≡ false
    by_test true e = absurd (none (among_from i xs e))
    by_test false e = refl

-- something that is true and false
not-both : (b : Bool) → b ≡ true → b ≡ false → ⊥
not-both b t f = never (sym f ∙ t)

-- two lists without repeats that share nothing, one behind the other
twice-append : (xs ys : List ℕ) → has_twice xs ≡ false → has_twice ys ≡ false → ((i : ℕ) → Among i xs → Among i ys → ⊥) → has_twice (xs ++ ys) ≡ false
twice-append [] ys once others apart = others
twice-append (x ∷ xs) ys once others apart =
    let parts = neither (contains xs x) (has_twice xs) once in
    let here : contains (xs ++ ys) x ≡ false =
    absent (xs ++ ys) x (λ a. ⊎_elim (λ (l : Among x xs). not-both (contains xs x) (contains_at x xs l) parts.0) (λ (r : Among x ys). apart x (inl refl) r) (among_either x xs ys a)) in
    ap (λ b. b || has_twice (xs ++ ys)) here ∙ twice-append xs ys parts.1 others (λ i a b. apart i (inr a) b)

-- what is left of a list without repeats has none
twice-filter : (p : ℕ → Bool) (xs : List ℕ) → has_twice xs ≡ false → has_twice (filter p xs) ≡ false
twice-filter p [] once = refl
twice-filter p (x ∷ xs) once =
    let parts = neither (contains xs x) (has_twice xs) once in
    let rest = twice-filter p xs parts.1 in
    let here : contains (filter p xs) x ≡ false = absent (filter p xs) x (λ a. not-both (contains xs x) (contains_at x xs (among_filter_from p x xs a).0) parts.0) in
    by_test (p x) refl here rest
  where
    by_test : (b : Bool) → p x ≡ b → contains (filter p xs) x ≡ false → has_twice (filter p xs) ≡ false → has_twice (filter p (x ∷ xs)) ≡ false
    by_test true e here rest = ap (λ b. has_twice (if b then x ∷ filter p xs else filter p xs)) e ∙ (ap (λ b. b || has_twice (filter p xs)) here ∙ rest)
    by_test false e here rest = ap (λ b. has_twice (if b then x ∷ filter p xs else filter p xs)) e ∙ rest

module _ (to a b : List ℕ) (once-to : has_twice to ≡ false) (once-a : has_twice a ≡ false) (same : same_set to (in_one a b) ≡ true) where
  -- an index of the target stands in one of both alone
  in-one-alone : (i : ℕ) → Among i to → contains a i ≡ true → contains b i ≡ true → ⊥
  in-one-alone i at in-a in-b =
      let one : Among i (in_one a b) = among_from i (in_one a b) (all_at (contains (in_one a b)) i to (first-holds (all_in to (in_one a b)) (all_in (in_one a b) to) same) at) in
      ⊎_elim
      (λ (l : Among i (filter (λ x. not (contains b x)) a)). not-both (contains b i) in-b (not-so (contains b i) (among_filter_from (λ x. not (contains b x)) i a l).1))
      (λ (r : Among i (filter (λ y. not (contains a y)) b)). not-both (contains a i) in-a (not-so (contains a i) (among_filter_from (λ y. not (contains a y)) i b r).1))
      (among_either i (filter (λ x. not (contains b x)) a) (filter (λ y. not (contains a y)) b) one)

  -- no index stands twice in the target and among those that are summed over
  joined-once : has_twice (to ++ shared_indices a b) ≡ false
  joined-once =
      twice-append
      to
      (shared_indices a b)
      once-to
      (twice-filter (contains b) a once-a)
      (λ i at shared. let parts = among_filter_from (contains b) i a shared in in-one-alone i at (contains_at i a parts.0) parts.1)

  -- an index that stands in one of both alone stands in the target
  alone-in : (i : ℕ) → Among i (in_one a b) → Among i (to ++ shared_indices a b)
  alone-in i one = among_left i to (shared_indices a b) (among_from i to (all_at (contains to) i (in_one a b) (second-in to (in_one a b) same) one))

  -- each of the first block's indices
  first-in : all_in a (to ++ shared_indices a b) ≡ true
  first-in = all_from (contains (to ++ shared_indices a b)) a (λ i at. contains_at i (to ++ shared_indices a b) (by_test i at (contains b i) refl))
    where
      by_test : (i : ℕ) → Among i a → (x : Bool) → contains b i ≡ x → Among i (to ++ shared_indices a b)
      by_test i at true e = among_right i to (shared_indices a b) (among_filter (contains b) i a at e)
      by_test i at false e = alone-in i (among_left i (filter (λ x. not (contains b x)) a) (filter (λ y. not (contains a y)) b) (among_filter (λ x. not (contains b x)) i a at (ap not e)))

  -- each of the second's
  second-so : all_in b (to ++ shared_indices a b) ≡ true
  second-so = all_from (contains (to ++ shared_indices a b)) b (λ i at. contains_at i (to ++ shared_indices a b) (by_test i at (contains a i) refl))
    where
      by_test : (i : ℕ) → Among i b → (x : Bool) → contains a i ≡ x → Among i (to ++ shared_indices a b)
      by_test i at true e = among_right i to (shared_indices a b) (among_filter (contains b) i a (among_from i a e) (contains_at i b at))
      by_test i at false e = alone-in i (among_right i (filter (λ x. not (contains b x)) a) (filter (λ y. not (contains a y)) b) (among_filter (λ y. not (contains a y)) i b at (ap not e)))

-- contractions
pub contractions-read-back : ContractionsReadBack
contractions-read-back g to a b op values old left right tuple sound says are =
    let hold = shapes-hold g.program sound.setting.granted in
    let form : Right = Two (operand.Block a) Times (operand.Block b) in
    let same : same_set to.at (in_one a.at b.at) ≡ true = right-agrees g.program to op form hold says in
    let all = neither (has_twice to.at) (has_twice a.at || (has_twice b.at || false)) (blocks-once g.program to op form hold says) in
    let once-a = (neither (has_twice a.at) (has_twice b.at || false) all.1).0 in
    contractions-by-name
    g.spaces
    op
    values
    to.at
    a.at
    b.at
    old
    left
    right
    tuple
    (joined-once to.at a.at b.at all.0 once-a same)
    (first-in to.at a.at b.at all.0 once-a same)
    (second-so to.at a.at b.at all.0 once-a same)
    are
