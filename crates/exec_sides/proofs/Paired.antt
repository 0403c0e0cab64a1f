-- What two operands come to in an assignment that fits.
use Rattle.std.proofs.Common.{◌≡◌, ℕ, ◌*◌, ◌%◌, ◌^◌, Bool, true, false, not, List, [], ◌∷◌, ◌++◌, map, refl, sym, ap, ◌∙◌, subst, arith}
use Rattle.kernel_permute.specs.declared.how.How.{How}
use Rattle.sial_syntax.specs.declared.operand.Bin.{Bin}
use Rattle.sial_syntax.specs.declared.operand.Bin.TheVariants.{Plus, Minus, Times, Outer}
use Rattle.sial_syntax.specs.Agreeing.{all_in, contains, has_twice, same_set, share_any}
use Rattle.sial_syntax.specs.Boxes.{IsTupleOf}
use Rattle.sial_syntax.specs.Spaces.{Spaces, extent}
use Rattle.sial_meaning.specs.JoinLaws.{contracted, word_under}
use Rattle.sial_meaning.specs.Number.{combined, minus, times}
use Rattle.sial_meaning.specs.ReadBackLaws.{after_assignment, named_block}
use Rattle.sial_meaning.specs.Right.{Side, Term, Joined, Plain, Shown, assigned}
use Rattle.sial_meaning.specs.Sight.{Sight, lengths, word_at}
use Rattle.sial_meaning.proofs.AcceptedInOtherWords.Pairs.{never, first-holds, second-holds, both-hold, not-so}
use Rattle.sial_meaning.proofs.AssignmentsReadBack.Joins.{contractions-by-name, differences-by-name, outer-products-by-name, scalings-by-name, sums-by-name}
use Rattle.exec_sides.specs.Contracting.{IsContraction, summed}
use Rattle.exec_sides.specs.Fits.{Fits, IsNamed, pair_fits}
use Rattle.exec_sides.specs.Joined.{joined}
use Rattle.exec_sides.specs.Met.{Met}
use Rattle.exec_sides.specs.Named.{IsCopy}
use Rattle.exec_sides.specs.Seen.{op_of}
use Rattle.exec_sides.proofs.Allowed.{by-name, named-tuple, pair-allowed}
use Rattle.exec_sides.proofs.Contractions.{all-named, joined-apart}
use Rattle.exec_sides.proofs.Joining.{met-same}
use Rattle.exec_sides.proofs.Linking.{assigned-by, named-copy}
use Rattle.exec_sides.proofs.Pairs.{alone-of-apart, named-contraction, none-common, one-product, summed-named}

-- the operator of a sum, and of a difference
abbrev pub bin_of : Bool → Bin
bin_of false = Plus
bin_of true = Minus

-- what two blocks need for a sum or a difference
sum-agrees : (minus : Bool) (to : List ℕ) (a b : Sight) → pair_fits to (Shown a) (bin_of minus) (Shown b) ≡ true → (same_set to a.at ≡ true) × (same_set to b.at ≡ true)
sum-agrees false to a b is = (first-holds (same_set to a.at) (same_set to b.at) is, second-holds (same_set to a.at) (same_set to b.at) is)
sum-agrees true to a b is = (first-holds (same_set to a.at) (same_set to b.at) is, second-holds (same_set to a.at) (same_set to b.at) is)

-- something of three blocks that are named
by-names : (spaces : Spaces) (values : List ℕ) (to a b : Sight) → IsNamed spaces values to → IsNamed spaces values a → IsNamed spaces values b → (P : Sight → Sight → Sight → Type 0)
    → P (named_block spaces values to.at to.words) (named_block spaces values a.at a.words) (named_block spaces values b.at b.words) → P to a b
by-names spaces values to a b target first second P is =
    by-name spaces values to target (λ x. P x a b)
    (by-name spaces values a first (λ y. P (named_block spaces values to.at to.words) y b)
    (by-name spaces values b second (λ z. P (named_block spaces values to.at to.words) (named_block spaces values a.at a.words) z) is))

module _ (spaces : Spaces) (values : List ℕ) (how : How) (to a b : Sight) where
  -- an assignment of two blocks that fits
  abbrev pub FitsPair : Bin → Type 0
  FitsPair bin = Fits spaces values (op_of how) to (Joined (Shown a) bin (Shown b))

  -- the rule that it keeps
  agrees : (bin : Bin) → FitsPair bin → pair_fits to.at (Shown a) bin (Shown b) ≡ true
  agrees bin fits = pair-allowed spaces how to.at (Shown a) (Shown b) bin fits.agrees

  -- another name for the operator
  renamed : (bin other : Bin) → bin ≡ other → FitsPair bin → FitsPair other
  renamed bin other is fits = subst FitsPair is fits

  -- and for what it makes
  renamed-back : (bin other : Bin) (new : List ℕ) → bin ≡ other → new ≡ assigned spaces (op_of how) to (Joined (Shown a) other (Shown b)) → new ≡ assigned spaces (op_of how) to (Joined (Shown a) bin (Shown b))
  renamed-back bin other new is made = subst (λ x. new ≡ assigned spaces (op_of how) to (Joined (Shown a) x (Shown b))) (sym is) made

  -- both blocks can be copied for a sum or a difference
  pub sum-copies : (minus : Bool) (bin : Bin) → bin ≡ bin_of minus → FitsPair bin → IsCopy to a × IsCopy to b
  sum-copies minus bin is given =
      let fits = renamed bin (bin_of minus) is given in
      let same = sum-agrees minus to.at a b (agrees (bin_of minus) fits) in
      (named-copy spaces values to a fits.target fits.side.0 same.0, named-copy spaces values to b fits.target fits.side.1 same.1)

  -- what a sum or a difference comes to
  pub sum-assigned : (minus : Bool) (bin : Bin) (new : List ℕ) → bin ≡ bin_of minus → FitsPair bin → Met how (lengths to.extents) (λ t. joined minus (word_under to.at t a) (word_under to.at t b)) to.words new
      → new ≡ assigned spaces (op_of how) to (Joined (Shown a) bin (Shown b))
  sum-assigned sign bin new is given met =
      let fits = renamed bin (bin_of sign) is given in
      let same = sum-agrees sign to.at a b (agrees (bin_of sign) fits) in
      renamed-back bin (bin_of sign) new is
      (assigned-by spaces how to (Joined (Shown a) (bin_of sign) (Shown b)) (λ t. joined sign (word_under to.at t a) (word_under to.at t b)) new fits.target.words met
      (λ tuple are.
      by-names spaces values to a b fits.target fits.side.0 fits.side.1
      (λ x y z. word_at (after_assignment spaces (op_of how) x (Joined (Shown y) (bin_of sign) (Shown z))) tuple ≡ combined (op_of how) (word_at x tuple) (joined sign (word_under x.at tuple y) (word_under x.at tuple z)))
      (by-sign sign tuple fits.target.once (second-holds (all_in to.at a.at) (all_in a.at to.at) same.0) (second-holds (all_in to.at b.at) (all_in b.at to.at) same.1) (named-tuple spaces values to tuple fits.target are))))
    where
      by-sign : (sign : Bool) (tuple : List ℕ) → has_twice to.at ≡ false → all_in a.at to.at ≡ true → all_in b.at to.at ≡ true → IsTupleOf (lengths (map (extent spaces values) to.at)) tuple
          → word_at (after_assignment spaces (op_of how) (named_block spaces values to.at to.words) (Joined (Shown (named_block spaces values a.at a.words)) (bin_of sign) (Shown (named_block spaces values b.at b.words)))) tuple
          ≡ combined (op_of how) (word_at (named_block spaces values to.at to.words) tuple) (joined sign (word_under to.at tuple (named_block spaces values a.at a.words)) (word_under to.at tuple (named_block spaces values b.at b.words)))
      by-sign false tuple once in-a in-b are = sums-by-name spaces (op_of how) values to.at a.at b.at to.words a.words b.words tuple once in-a in-b are
      by-sign true tuple once in-a in-b are = differences-by-name spaces (op_of how) values to.at a.at b.at to.words a.words b.words tuple once in-a in-b are

  -- a contraction fits
  pub times-fits : (bin : Bin) → bin ≡ Times → FitsPair bin → IsContraction to a b
  times-fits bin is given =
      let fits = renamed bin Times is given in
      named-contraction spaces values to a b fits.target fits.side.0 fits.side.1 (agrees Times fits)

  -- and what it comes to
  pub times-assigned : (bin : Bin) (new : List ℕ) → bin ≡ Times → FitsPair bin → Met how (lengths to.extents) (λ t. summed to.at t a b) to.words new → new ≡ assigned spaces (op_of how) to (Joined (Shown a) bin (Shown b))
  times-assigned bin new is given met =
      let fits = renamed bin Times is given in
      let contraction = times-fits bin is given in
      renamed-back bin Times new is
      (assigned-by spaces how to (Joined (Shown a) Times (Shown b)) (λ t. contracted spaces values to.at t a b) new fits.target.words
      (met-same how (lengths to.extents) _ _ to.words new (λ t. summed-named spaces values to.at t a b fits.side.0) met)
      (λ tuple are.
      by-names spaces values to a b fits.target fits.side.0 fits.side.1
      (λ x y z. word_at (after_assignment spaces (op_of how) x (Joined (Shown y) Times (Shown z))) tuple ≡ combined (op_of how) (word_at x tuple) (contracted spaces values x.at tuple y z))
      (contractions-by-name spaces (op_of how) values to.at a.at b.at to.words a.words b.words tuple (joined-apart to a b contraction) (all-named to a b contraction).0 (all-named to a b contraction).1 (named-tuple spaces values to tuple fits.target are))))

  -- an outer product is a contraction over no index
  outer-apart : FitsPair Outer → share_any a.at b.at ≡ false
  outer-apart fits = not-so (share_any a.at b.at) (first-holds (not (share_any a.at b.at)) (same_set to.at (a.at ++ b.at)) (agrees Outer fits))

  outer-same : FitsPair Outer → same_set to.at (a.at ++ b.at) ≡ true
  outer-same fits = second-holds (not (share_any a.at b.at)) (same_set to.at (a.at ++ b.at)) (agrees Outer fits)

  pub outer-fits : (bin : Bin) → bin ≡ Outer → FitsPair bin → IsContraction to a b
  outer-fits bin is given =
      let fits = renamed bin Outer is given in
      named-contraction spaces values to a b fits.target fits.side.0 fits.side.1
      (subst (λ (xs : List ℕ). same_set to.at xs ≡ true) (sym (alone-of-apart a.at b.at (outer-apart fits))) (outer-same fits))

  pub outer-assigned : (bin : Bin) (new : List ℕ) → bin ≡ Outer → FitsPair bin → Met how (lengths to.extents) (λ t. summed to.at t a b) to.words new → new ≡ assigned spaces (op_of how) to (Joined (Shown a) bin (Shown b))
  outer-assigned bin new is given met =
      let fits = renamed bin Outer is given in
      let same = outer-same fits in
      let all : all_in (a.at ++ b.at) to.at ≡ true = second-holds (all_in to.at (a.at ++ b.at)) (all_in (a.at ++ b.at) to.at) same in
      renamed-back bin Outer new is
      (assigned-by spaces how to (Joined (Shown a) Outer (Shown b)) (λ t. times (word_under to.at t a) (word_under to.at t b)) new fits.target.words
      (met-same how (lengths to.extents) _ _ to.words new (λ t. one-product to.at t a b (none-common a.at b.at (outer-apart fits))) met)
      (λ tuple are.
      by-names spaces values to a b fits.target fits.side.0 fits.side.1
      (λ x y z. word_at (after_assignment spaces (op_of how) x (Joined (Shown y) Outer (Shown z))) tuple ≡ combined (op_of how) (word_at x tuple) (times (word_under x.at tuple y) (word_under x.at tuple z)))
      (outer-products-by-name spaces (op_of how) values to.at a.at b.at to.words a.words b.words tuple fits.target.once (all-left a.at b.at to.at all) (all-right a.at b.at to.at all) (named-tuple spaces values to tuple fits.target are))))
    where
      all-left : (xs ys zs : List ℕ) → all_in (xs ++ ys) zs ≡ true → all_in xs zs ≡ true
      all-left [] ys zs all = refl
      all-left (x ∷ xs) ys zs all = both-hold (contains zs x) (all_in xs zs) (first-holds (contains zs x) (all_in (xs ++ ys) zs) all) (all-left xs ys zs (second-holds (contains zs x) (all_in (xs ++ ys) zs) all))

      all-right : (xs ys zs : List ℕ) → all_in (xs ++ ys) zs ≡ true → all_in ys zs ≡ true
      all-right [] ys zs all = all
      all-right (x ∷ xs) ys zs all = all-right xs ys zs (second-holds (contains zs x) (all_in (xs ++ ys) zs) all)

-- a block and a number are multiplied, if anything
times-left : (to : List ℕ) (block : Sight) (n : ℕ) (bin : Bin) → pair_fits to (Shown block) bin (Plain n) ≡ true → (bin ≡ Times) × (same_set to block.at ≡ true)
times-left to block n Plus is = absurd (never is)
times-left to block n Minus is = absurd (never is)
times-left to block n Times is = (refl, is)
times-left to block n Outer is = absurd (never is)

times-right : (to : List ℕ) (block : Sight) (n : ℕ) (bin : Bin) → pair_fits to (Plain n) bin (Shown block) ≡ true → (bin ≡ Times) × (same_set to block.at ≡ true)
times-right to block n Plus is = absurd (never is)
times-right to block n Minus is = absurd (never is)
times-right to block n Times is = (refl, is)
times-right to block n Outer is = absurd (never is)

module _ (spaces : Spaces) (values : List ℕ) (how : How) (to block : Sight) (n : ℕ) (bin : Bin) (x y : Term) where
  -- a block times a number, the block before it
  fits-left : x ≡ Shown block → y ≡ Plain n → Fits spaces values (op_of how) to (Joined x bin y) → Fits spaces values (op_of how) to (Joined (Shown block) bin (Plain n))
  fits-left first second fits = subst (λ q. Fits spaces values (op_of how) to (Joined (Shown block) bin q)) second (subst (λ q. Fits spaces values (op_of how) to (Joined q bin y)) first fits)

  pub left-copy : x ≡ Shown block → y ≡ Plain n → Fits spaces values (op_of how) to (Joined x bin y) → IsCopy to block
  left-copy first second given =
      let fits = fits-left first second given in
      named-copy spaces values to block fits.target fits.side.0 (times-left to.at block n bin (pair-allowed spaces how to.at (Shown block) (Plain n) bin fits.agrees)).1

  pub left-assigned : (new : List ℕ) → x ≡ Shown block → y ≡ Plain n → Fits spaces values (op_of how) to (Joined x bin y) → Met how (lengths to.extents) (λ t. times (word_under to.at t block) n) to.words new
      → new ≡ assigned spaces (op_of how) to (Joined x bin y)
  left-assigned new first second given met =
      let fits = fits-left first second given in
      let rule = times-left to.at block n bin (pair-allowed spaces how to.at (Shown block) (Plain n) bin fits.agrees) in
      let is : ◌≡◌ {A = Side} (Joined x bin y) (Joined (Shown block) Times (Plain n)) =
      ap (λ q. Joined q bin y) first ∙ (ap (λ q. Joined (Shown block) bin q) second ∙ ap (λ q. Joined (Shown block) q (Plain n)) rule.0) in
      subst (λ (s : Side). new ≡ assigned spaces (op_of how) to s) (sym is)
      (assigned-by spaces how to (Joined (Shown block) Times (Plain n)) (λ t. times (word_under to.at t block) n) new fits.target.words met
      (λ tuple are.
      by-name spaces values to fits.target (λ v. word_at (after_assignment spaces (op_of how) v (Joined (Shown block) Times (Plain n))) tuple ≡ combined (op_of how) (word_at v tuple) (times (word_under v.at tuple block) n))
      (by-name spaces values block fits.side.0 (λ v. word_at (after_assignment spaces (op_of how) (named_block spaces values to.at to.words) (Joined (Shown v) Times (Plain n))) tuple ≡ combined (op_of how) (word_at (named_block spaces values to.at to.words) tuple) (times (word_under to.at tuple v) n))
      (scalings-by-name spaces (op_of how) n values to.at block.at to.words block.words tuple fits.target.once (second-holds (all_in to.at block.at) (all_in block.at to.at) rule.1) (named-tuple spaces values to tuple fits.target are)).1)))

  -- and behind it
  fits-right : x ≡ Plain n → y ≡ Shown block → Fits spaces values (op_of how) to (Joined x bin y) → Fits spaces values (op_of how) to (Joined (Plain n) bin (Shown block))
  fits-right first second fits = subst (λ q. Fits spaces values (op_of how) to (Joined (Plain n) bin q)) second (subst (λ q. Fits spaces values (op_of how) to (Joined q bin y)) first fits)

  pub right-copy : x ≡ Plain n → y ≡ Shown block → Fits spaces values (op_of how) to (Joined x bin y) → IsCopy to block
  right-copy first second given =
      let fits = fits-right first second given in
      named-copy spaces values to block fits.target fits.side.1 (times-right to.at block n bin (pair-allowed spaces how to.at (Plain n) (Shown block) bin fits.agrees)).1

  pub right-assigned : (new : List ℕ) → x ≡ Plain n → y ≡ Shown block → Fits spaces values (op_of how) to (Joined x bin y) → Met how (lengths to.extents) (λ t. times (word_under to.at t block) n) to.words new
      → new ≡ assigned spaces (op_of how) to (Joined x bin y)
  right-assigned new first second given met =
      let fits = fits-right first second given in
      let rule = times-right to.at block n bin (pair-allowed spaces how to.at (Plain n) (Shown block) bin fits.agrees) in
      let is : ◌≡◌ {A = Side} (Joined x bin y) (Joined (Plain n) Times (Shown block)) =
      ap (λ q. Joined q bin y) first ∙ (ap (λ q. Joined (Plain n) bin q) second ∙ ap (λ q. Joined (Plain n) q (Shown block)) rule.0) in
      subst (λ (s : Side). new ≡ assigned spaces (op_of how) to s) (sym is)
      (assigned-by spaces how to (Joined (Plain n) Times (Shown block)) (λ t. times n (word_under to.at t block)) new fits.target.words
      (met-same how (lengths to.extents) _ _ to.words new (λ t. turned (word_under to.at t block)) met)
      (λ tuple are.
      by-name spaces values to fits.target (λ v. word_at (after_assignment spaces (op_of how) v (Joined (Plain n) Times (Shown block))) tuple ≡ combined (op_of how) (word_at v tuple) (times n (word_under v.at tuple block)))
      (by-name spaces values block fits.side.1 (λ v. word_at (after_assignment spaces (op_of how) (named_block spaces values to.at to.words) (Joined (Plain n) Times (Shown v))) tuple ≡ combined (op_of how) (word_at (named_block spaces values to.at to.words) tuple) (times n (word_under to.at tuple v)))
      (scalings-by-name spaces (op_of how) n values to.at block.at to.words block.words tuple fits.target.once (second-holds (all_in to.at block.at) (all_in block.at to.at) rule.1) (named-tuple spaces values to tuple fits.target are)).0)))
    where
      turned : (w : ℕ) → times w n ≡ times n w
      turned w = ap (λ m. m % 2 ^ 64) (swap w)
        where
          swap : (w : ℕ) → w * n ≡ n * w
          swap w = omega arith
