-- Accesses at a place, and counts over a list.
use Rattle.std.proofs.Common.{◌≡◌, ℕ, zero, suc, ◌+◌, ◌<◌, ◌≤◌, cond, Bool, true, false, ◌&&◌, not, T, List, [], ◌∷◌, length, slice_index_or, refl, sym, ap, ◌∙◌, subst, arith}
use Rattle.std.proofs.lemmas.Bool.{eqb-true, eq-eqb}
use Rattle.std.proofs.lemmas.List.Elements.{All-head, All-tail}
use Rattle.std.proofs.lemmas.List.Sums.{sum_by-cons}
use Rattle.std.specs.Prelude.{All, AllPairs, count_by, ◌==◌}
use Rattle.sial_syntax.specs.declared.access.Access.{Access}
use Rattle.sial_syntax.specs.declared.access.Class.{Class}
use Rattle.sial_syntax.specs.declared.access.Class.TheVariants.{Distributed, Served}
use Rattle.sial_meaning.specs.Access.{Touch, same_place}
use Rattle.sial_meaning.specs.Accepted.{is_at}
use Rattle.sial_syntax.specs.Spaces.{same_class}

-- false is not true
pub never : false ≡ true → ⊥
never e = absurd cc

-- the first of two that both hold
pub first-holds : (a b : Bool) → (a && b) ≡ true → a ≡ true
first-holds true b both = refl
first-holds false b both = absurd (never both)

-- the second of two that both hold
pub second-holds : (a b : Bool) → (a && b) ≡ true → b ≡ true
second-holds true b both = both
second-holds false b both = absurd (never both)

-- two that hold
pub both-hold : (a b : Bool) → a ≡ true → b ≡ true → (a && b) ≡ true
both-hold true b first second = second
both-hold false b first second = absurd (never first)

-- what fails where its opposite holds
pub not-so : (b : Bool) → not b ≡ true → b ≡ false
not-so true is = absurd (never is)
not-so false is = refl

-- what holds where its opposite fails
pub holds-so : (b : Bool) → not b ≡ false → b ≡ true
holds-so true is = refl
holds-so false is = absurd (never (sym is))

-- a test that passes
pub true-of : (b : Bool) → T b → b ≡ true
true-of true t = refl
true-of false t = absurd t

-- the second of two tests fails where the first passes
pub second-fails : (a b : Bool) → a ≡ true → (a && b) ≡ false → b ≡ false
second-fails true b e f = f
second-fails false b e f = absurd cc

-- two classes that are one
pub class-is : (a b : Class) → same_class a b ≡ true → a ≡ b
class-is Distributed Distributed same = refl
class-is Distributed Served same = absurd (never same)
class-is Served Distributed same = absurd (never same)
class-is Served Served same = refl

-- a class is one with itself
pub class-self : (a b : Class) → a ≡ b → same_class a b ≡ true
class-self a Distributed same = ap (λ c. same_class c Distributed) same
class-self a Served same = ap (λ c. same_class c Served) same

-- the class, epoch and block of an access, and its kind's test
pub record At (class : Class) (epoch block : ℕ) (t : Touch) : Type 0 where
  pub class_is : t.class ≡ class
  pub epoch_is : t.epoch ≡ epoch
  pub block_is : t.block ≡ block

-- an access that passes the test is at this place
pub at-is : (class : Class) (epoch block : ℕ) (kind : Access → Bool) (t : Touch) → is_at class epoch block kind t ≡ true → At class epoch block t × (kind t.kind ≡ true)
at-is class epoch block kind t is =
    let a = first-holds (same_class t.class class) ((t.epoch == epoch) && ((t.block == block) && kind t.kind)) is in
    let rest = second-holds (same_class t.class class) ((t.epoch == epoch) && ((t.block == block) && kind t.kind)) is in
    let b = first-holds (t.epoch == epoch) ((t.block == block) && kind t.kind) rest in
    let last = second-holds (t.epoch == epoch) ((t.block == block) && kind t.kind) rest in (
      record { class_is = class-is t.class class a; epoch_is = eqb-true t.epoch epoch b; block_is = eqb-true t.block block (first-holds (t.block == block) (kind t.kind) last) },
      second-holds (t.block == block) (kind t.kind) last,
    )

-- one at this place passes the test
pub is-at : (class : Class) (epoch block : ℕ) (kind : Access → Bool) (t : Touch) → At class epoch block t → kind t.kind ≡ true → is_at class epoch block kind t ≡ true
is-at class epoch block kind t at is =
    both-hold (same_class t.class class) ((t.epoch == epoch) && ((t.block == block) && kind t.kind)) (class-self t.class class at.class_is)
    (both-hold (t.epoch == epoch) ((t.block == block) && kind t.kind) (eq-eqb t.epoch epoch at.epoch_is)
    (both-hold (t.block == block) (kind t.kind) (eq-eqb t.block block at.block_is) is))

-- two accesses at one place
pub place-from : (class : Class) (epoch block : ℕ) (t u : Touch) → At class epoch block t → At class epoch block u → same_place u t ≡ true
place-from class epoch block t u at-t at-u =
    both-hold (same_class u.class t.class) ((u.epoch == t.epoch) && (u.block == t.block)) (class-self u.class t.class (at-u.class_is ∙ sym at-t.class_is))
    (both-hold (u.epoch == t.epoch) (u.block == t.block) (eq-eqb u.epoch t.epoch (at-u.epoch_is ∙ sym at-t.epoch_is)) (eq-eqb u.block t.block (at-u.block_is ∙ sym at-t.block_is)))

-- an access at the place of another
pub place-at : (t u : Touch) → same_place u t ≡ true → At t.class t.epoch t.block u
place-at t u same =
    let rest = second-holds (same_class u.class t.class) ((u.epoch == t.epoch) && (u.block == t.block)) same in
    record {
      class_is = class-is u.class t.class (first-holds (same_class u.class t.class) ((u.epoch == t.epoch) && (u.block == t.block)) same);
      epoch_is = eqb-true u.epoch t.epoch (first-holds (u.epoch == t.epoch) (u.block == t.block) rest);
      block_is = eqb-true u.block t.block (second-holds (u.epoch == t.epoch) (u.block == t.block) rest);
    }

-- a count over one more
pub count-next : {X : Type 0} (p : X → Bool) (x : X) (xs : List X) → count_by p (x ∷ xs) ≡ cond (p x) 1 0 + count_by p xs
count-next p x xs = sum_by-cons (λ y. cond (p y) 1 0) x xs

-- a count over one more, which isn't counted
pub count-no : {X : Type 0} (p : X → Bool) (x : X) (xs : List X) → p x ≡ false → count_by p (x ∷ xs) ≡ count_by p xs
count-no p x xs fails = count-next p x xs ∙ (ap (λ b. cond b 1 0 + count_by p xs) fails ∙ omega arith)

-- a count over one more, which is counted
pub count-yes : {X : Type 0} (p : X → Bool) (x : X) (xs : List X) → p x ≡ true → count_by p (x ∷ xs) ≡ 1 + count_by p xs
count-yes p x xs holds = count-next p x xs ∙ ap (λ b. cond b 1 0 + count_by p xs) holds

at-least : (b : Bool) (n : ℕ) → n ≤ (cond b 1 0 + n)
at-least true n = omega arith
at-least false n = omega arith

-- a count doesn't fall by one more
pub count-more : {X : Type 0} (p : X → Bool) (x : X) (xs : List X) → count_by p xs ≤ count_by p (x ∷ xs)
count-more p x xs = subst (λ n. count_by p xs ≤ n) (sym (count-next p x xs)) (at-least (p x) (count_by p xs))

-- none is counted
pub count-none : {X : Type 0} (p : X → Bool) (xs : List X) → All (λ x. p x ≡ false) xs → count_by p xs ≡ 0
count-none p [] none = refl
count-none p (x ∷ xs) none = count-no p x xs (All-head (λ x. p x ≡ false) x xs none) ∙ count-none p xs (All-tail (λ x. p x ≡ false) x xs none)

-- the pairs of the first, and those of the others
pub pairs-head : {X : Type 0} (R : X → X → Type 0) (x : X) (xs : List X) → AllPairs R (x ∷ xs) → All (R x) xs
pairs-head R x xs pairs = λ k d below. pairs 0 (suc k) d (omega arith) (omega (arith, below))

-- pairs of the rest
pub pairs-tail : {X : Type 0} (R : X → X → Type 0) (x : X) (xs : List X) → AllPairs R (x ∷ xs) → AllPairs R xs
pairs-tail R x xs pairs = λ i j d before below. pairs (suc i) (suc j) d (omega (arith, before)) (omega (arith, below))

-- what is counted is there
pub count-some : {X : Type 0} (p : X → Bool) (xs : List X) (k : ℕ) (d : X) → k < length xs → p (slice_index_or xs k d) ≡ true → 1 ≤ count_by p xs
count-some p [] k d below holds = absurd (omega (arith, below))
count-some p (x ∷ xs) zero d below holds = let e = count-yes p x xs holds in omega (arith, e)
count-some p (x ∷ xs) (suc k) d below holds =
    let rest : k < length xs = omega (arith, below) in
    let some = count-some p xs k d rest holds in
    let more = count-more p x xs in
    omega (arith, some, more)
