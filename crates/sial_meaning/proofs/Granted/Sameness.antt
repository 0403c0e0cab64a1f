-- What passes a test of sameness is the same.
use Rattle.std.proofs.Common.{◌≡◌, ℕ, Bool, true, false, List, [], ◌∷◌, ◌==◌, ◌&&◌, Ok, refl, ap, ◌∙◌, eqb-true}
use Rattle.sial_syntax.specs.declared.array.ArrayKind.{ArrayKind}
use Rattle.sial_syntax.specs.declared.array.ArrayKind.TheVariants.{Static, Temp, Local, Distributed, Served}
use Rattle.sial_syntax.specs.declared.index.Kind.{Kind}
use Rattle.sial_syntax.specs.declared.index.Kind.TheVariants.{Ao, Mo, Moa, Mob, Index}
use Rattle.sial_syntax.specs.Agreeing.{is_kind, same_flag, same_list}
use Rattle.sial_syntax.specs.Spaces.{same_kind}
use Rattle.sial_meaning.specs.LocalStep.{Answer}
use Rattle.sial_meaning.specs.Own.{same_members}
use Rattle.sial_meaning.proofs.AcceptedInOtherWords.Pairs.{never, first-holds, second-holds}

-- two flags that pass the test are one
pub flags-one : (a b : Bool) → same_flag a b ≡ true → a ≡ b
flags-one true true same = refl
flags-one true false same = absurd (never same)
flags-one false true same = absurd (never same)
flags-one false false same = refl

-- two kinds of index that pass the test are one
pub kinds-one : (a b : Kind) → is_kind a b ≡ true → a ≡ b
kinds-one Ao Ao same = refl
kinds-one Ao Mo same = absurd (never same)
kinds-one Ao Moa same = absurd (never same)
kinds-one Ao Mob same = absurd (never same)
kinds-one Ao Index same = absurd (never same)
kinds-one Mo Ao same = absurd (never same)
kinds-one Mo Mo same = refl
kinds-one Mo Moa same = absurd (never same)
kinds-one Mo Mob same = absurd (never same)
kinds-one Mo Index same = absurd (never same)
kinds-one Moa Ao same = absurd (never same)
kinds-one Moa Mo same = absurd (never same)
kinds-one Moa Moa same = refl
kinds-one Moa Mob same = absurd (never same)
kinds-one Moa Index same = absurd (never same)
kinds-one Mob Ao same = absurd (never same)
kinds-one Mob Mo same = absurd (never same)
kinds-one Mob Moa same = absurd (never same)
kinds-one Mob Mob same = refl
kinds-one Mob Index same = absurd (never same)
kinds-one Index Ao same = absurd (never same)
kinds-one Index Mo same = absurd (never same)
kinds-one Index Moa same = absurd (never same)
kinds-one Index Mob same = absurd (never same)
kinds-one Index Index same = refl

-- two kinds of array that pass the test are one
pub kind-one : (a b : ArrayKind) → same_kind a b ≡ true → a ≡ b
kind-one Static Static same = refl
kind-one Static Temp same = absurd (never same)
kind-one Static Local same = absurd (never same)
kind-one Static Distributed same = absurd (never same)
kind-one Static Served same = absurd (never same)
kind-one Temp Static same = absurd (never same)
kind-one Temp Temp same = refl
kind-one Temp Local same = absurd (never same)
kind-one Temp Distributed same = absurd (never same)
kind-one Temp Served same = absurd (never same)
kind-one Local Static same = absurd (never same)
kind-one Local Temp same = absurd (never same)
kind-one Local Local same = refl
kind-one Local Distributed same = absurd (never same)
kind-one Local Served same = absurd (never same)
kind-one Distributed Static same = absurd (never same)
kind-one Distributed Temp same = absurd (never same)
kind-one Distributed Local same = absurd (never same)
kind-one Distributed Distributed same = refl
kind-one Distributed Served same = absurd (never same)
kind-one Served Static same = absurd (never same)
kind-one Served Temp same = absurd (never same)
kind-one Served Local same = absurd (never same)
kind-one Served Distributed same = absurd (never same)
kind-one Served Served same = refl

-- two lists that pass the test are one
pub lists-one : (xs ys : List ℕ) → same_list xs ys ≡ true → xs ≡ ys
lists-one [] [] same = refl
lists-one [] (y ∷ ys) same = absurd (never same)
lists-one (x ∷ xs) [] same = absurd (never same)
lists-one (x ∷ xs) (y ∷ ys) same =
    ap (λ z. z ∷ xs) (eqb-true x y (first-holds (x == y) (same_list xs ys) same)) ∙ ap (λ zs. y ∷ zs) (lists-one xs ys (second-holds (x == y) (same_list xs ys) same))

-- so are two tuples of members
pub members-one : (xs ys : List (ℕ × ℕ)) → same_members xs ys ≡ true → xs ≡ ys
members-one [] [] same = refl
members-one [] (y ∷ ys) same = absurd (never same)
members-one (x ∷ xs) [] same = absurd (never same)
members-one (x ∷ xs) (y ∷ ys) same =
    let rest = second-holds (x.0 == y.0) (x.1 == y.1 && same_members xs ys) same in
    let a : x.0 ≡ y.0 = eqb-true x.0 y.0 (first-holds (x.0 == y.0) (x.1 == y.1 && same_members xs ys) same) in
    let b : x.1 ≡ y.1 = eqb-true x.1 y.1 (first-holds (x.1 == y.1) (same_members xs ys) rest) in
    let pair : ◌≡◌ {A = ℕ × ℕ} x y = λ i. (a i, b i) in
    ap (λ z. z ∷ xs) pair ∙ ap (λ zs. y ∷ zs) (members-one xs ys (second-holds (x.1 == y.1) (same_members xs ys) rest))

-- two answers that are one
pub answer-one : {X : Type 0} (x y : X) → ◌≡◌ {A = Answer X} (Ok x) (Ok y) → x ≡ y
answer-one x y same = cc
