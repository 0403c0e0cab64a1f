-- Right sides for scalars.
use Rattle.std.proofs.Common.{◌≡◌, ℕ, true, not, List, [], ◌++◌, filter, refl, sym, ap, ◌∙◌, subst, arith}
use Rattle.std.specs.Prelude.{unwrap_or}
use Rattle.sial_syntax.specs.declared.operand.Bin.{Bin}
use Rattle.sial_syntax.specs.declared.operand.Bin.TheVariants.{Plus, Minus, Times, Outer}
use Rattle.sial_syntax.specs.Agreeing.{all_in, contains, in_one, same_set}
use Rattle.sial_syntax.specs.Spaces.{Spaces}
use Rattle.sial_meaning.specs.ReadBackLaws.{named_block}
use Rattle.sial_meaning.specs.Right.{Side, Term, Alone, Joined, Plain, Shown, side_at}
use Rattle.sial_meaning.specs.Sight.{Sight}
use Rattle.sial_meaning.specs.JoinLaws.{contracted}
use Rattle.sial_meaning.proofs.AcceptedInOtherWords.Pairs.{never, first-holds, second-holds}
use Rattle.sial_meaning.proofs.AssignmentsReadBack.Joins.{contractions-to-numbers}
use Rattle.exec_sides.specs.Contracting.{IsContraction, summed}
use Rattle.exec_sides.specs.Fits.{FitsNumber, number_fits}
use Rattle.exec_sides.specs.Joined.{of_numbers}
use Rattle.exec_sides.proofs.Allowed.{by-name}
use Rattle.exec_sides.proofs.Contractions.{all-named, joined-apart}
use Rattle.exec_sides.proofs.Linking.{named-alike, named-laid}
use Rattle.exec_sides.proofs.Names.{all-at}
use Rattle.exec_sides.proofs.Pairs.{none-kept, number_block, summed-named}

-- a number alone
pub alone-number : (spaces : Spaces) (n : ℕ) (side : Side) → side ≡ Alone (Plain n) → n ≡ unwrap_or (side_at spaces [] side) 0
alone-number spaces n side is = sym (ap (λ s. unwrap_or (side_at spaces [] s) 0) is)

-- two numbers
of-numbers : (spaces : Spaces) (bin : Bin) (n m : ℕ) → of_numbers bin n m ≡ unwrap_or (side_at spaces [] (Joined (Plain n) bin (Plain m))) 0
of-numbers spaces Plus n m = refl
of-numbers spaces Minus n m = refl
of-numbers spaces Times n m = refl
of-numbers spaces Outer n m = refl

pub pair-number : (spaces : Spaces) (bin : Bin) (n m result : ℕ) (x y : Term) → x ≡ Plain n → y ≡ Plain m → result ≡ of_numbers bin n m → result ≡ unwrap_or (side_at spaces [] (Joined x bin y)) 0
pair-number spaces bin n m result x y first second is =
    is
    ∙ (of-numbers spaces bin n m
    ∙ sym (ap (λ q. unwrap_or (side_at spaces [] (Joined q bin y)) 0) first ∙ ap (λ q. unwrap_or (side_at spaces [] (Joined (Plain n) bin q)) 0) second))

-- two blocks are contracted, if anything
blocks-rule : (a b : Sight) (bin : Bin) → number_fits (Joined (Shown a) bin (Shown b)) ≡ true → (bin ≡ Times) × (same_set a.at b.at ≡ true)
blocks-rule a b Plus is = absurd (never is)
blocks-rule a b Minus is = absurd (never is)
blocks-rule a b Times is = (refl, is)
blocks-rule a b Outer is = absurd (never is)

-- no index stands in one of two blocks alone that have the same
none-alone : (xs ys : List ℕ) → same_set xs ys ≡ true → in_one xs ys ≡ []
none-alone xs ys same =
    ap (λ zs. zs ++ filter (λ y. not (contains xs y)) ys)
    (none-kept (λ x. not (contains ys x)) xs (λ i in-xs. ap not (all-at xs ys (first-holds (all_in xs ys) (all_in ys xs) same) i in-xs)))
    ∙ none-kept (λ y. not (contains xs y)) ys (λ i in-ys. ap not (all-at ys xs (second-holds (all_in xs ys) (all_in ys xs) same) i in-ys))

module _ (spaces : Spaces) (values : List ℕ) (a b : Sight) (bin : Bin) (x y : Term) where
  given : x ≡ Shown a → y ≡ Shown b → FitsNumber spaces values (Joined x bin y) → FitsNumber spaces values (Joined (Shown a) bin (Shown b))
  given first second fits = subst (λ q. FitsNumber spaces values (Joined (Shown a) bin q)) second (subst (λ q. FitsNumber spaces values (Joined q bin y)) first fits)

  -- the contraction into a block without indices
  pub number-contraction : (n : ℕ) → x ≡ Shown a → y ≡ Shown b → FitsNumber spaces values (Joined x bin y) → IsContraction (number_block n) a b
  number-contraction n first second fits =
      let own = given first second fits in
      record {
        target = record { once = refl; most = omega arith; extents = refl; words = refl; few = omega arith };
        first = named-laid spaces values a own.side.0;
        second = named-laid spaces values b own.side.1;
        alone = subst (λ (xs : List ℕ). same_set [] xs ≡ true) (sym (none-alone a.at b.at (blocks-rule a b bin own.agrees).1)) refl;
        alike = named-alike spaces values a b own.side.0 own.side.1;
        left_free = λ i in-none in-a. absurd (never in-none);
        right_free = λ i in-none in-b. absurd (never in-none);
      }

  -- and its number
  pub contraction-number : (result : ℕ) → x ≡ Shown a → y ≡ Shown b → FitsNumber spaces values (Joined x bin y) → result ≡ summed [] [] a b → result ≡ unwrap_or (side_at spaces [] (Joined x bin y)) 0
  contraction-number result first second fits is =
      let own = given first second fits in
      let rule = blocks-rule a b bin own.agrees in
      let contraction = number-contraction 0 first second fits in
      let side : ◌≡◌ {A = Side} (Joined x bin y) (Joined (Shown a) Times (Shown b)) =
      ap (λ q. Joined q bin y) first ∙ (ap (λ q. Joined (Shown a) bin q) second ∙ ap (λ q. Joined (Shown a) q (Shown b)) rule.0) in
      let law : unwrap_or (side_at spaces [] (Joined (Shown a) Times (Shown b))) 0 ≡ contracted spaces values [] [] a b =
      by-name spaces values a own.side.0 (λ v. unwrap_or (side_at spaces [] (Joined (Shown v) Times (Shown b))) 0 ≡ contracted spaces values [] [] v b)
      (by-name spaces values b own.side.1 (λ v. unwrap_or (side_at spaces [] (Joined (Shown (named_block spaces values a.at a.words)) Times (Shown v))) 0 ≡ contracted spaces values [] [] (named_block spaces values a.at a.words) v)
      (contractions-to-numbers spaces values a.at b.at a.words b.words (joined-apart (number_block 0) a b contraction) (all-named (number_block 0) a b contraction).0 (all-named (number_block 0) a b contraction).1)) in
      is ∙ (summed-named spaces values [] [] a b own.side.0 ∙ (sym law ∙ sym (ap (λ s. unwrap_or (side_at spaces [] s) 0) side)))
