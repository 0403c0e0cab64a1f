-- The first fault of tables, out of the first one of each kind.
use Rattle.std.proofs.Common.{◌≡◌, ◌⊎◌, inl, inr, ℕ, zero, suc, ◌+◌, ◌≤◌, ◌<◌, List, take, Bool, true, false, nat_lt, cond, Option, Some, None, refl, sym, ap, subst, ◌∙◌, arith}
use Rattle.std.proofs.lemmas.Bool.{ltb-true, lt-ltb}
use Rattle.sial_syntax.specs.Tree.{Tree}
use Rattle.sip_tables.specs.Lists.{Lists}
use Rattle.table_verify.specs.declared.fault.VerifyFault.{VerifyFault}
use Rattle.table_verify.specs.declared.fault.VerifyFault.TheVariants.{Nest, Target, Id, OutOfMemory}
use Rattle.table_verify.specs.Faults.{Begins, NestAt, Nests}
use Rattle.table_verify.specs.FirstFaults.{Has, instruction, kind, Precedes, IsFirstOf, Finds, Tells, OfNest, OfTarget, OfId, earlier}
use Rattle.table_verify.specs.JumpFaults.{IsFirst}
use Rattle.table_verify.specs.NumberFaults.{NumberAt}
use Rattle.table_verify.specs.Outline.{Mark}
use Rattle.table_verify.specs.Passing.{verified}
use Rattle.table_verify.specs.TargetFaults.{TargetAt}
use Rattle.table_verify.proofs.InLemmas.{case}
use Rattle.table_verify.proofs.JumpFaults.{begins_less}
use Rattle.table_verify.proofs.SoundTables.{sound_tables, sound_verified}

-- ---- the earlier of two

not_before : (a b : ℕ) → nat_lt b a ≡ false → a ≤ b
not_before a b e = by_order (less_or a b)
  where
    less_or : (a b : ℕ) → (a ≤ b) ⊎ (b < a)
    less_or zero b = inl (omega arith)
    less_or (suc a) zero = inr (omega arith)
    less_or (suc a) (suc b) = case ((suc a ≤ suc b) ⊎ (suc b < suc a)) (less_or a b) (λ l. inl (omega (arith, l))) (λ l. inr (omega (arith, l)))

    by_order : (a ≤ b) ⊎ (b < a) → a ≤ b
    by_order (inl l) = l
    by_order (inr l) = let same : true ≡ false = sym (lt-ltb b a l) ∙ e in absurd cc

module _ (P Q : VerifyFault → Type 0) (ranked : (a b : VerifyFault) → P a → Q b → kind a < kind b) where
  -- what comes before the second of two comes before the first, where that stands no earlier
  before_first : (a b other : VerifyFault) → instruction a ≤ instruction b → P a → Q b → ((x : VerifyFault) → Precedes x b → Q x → ⊥) → Precedes other a → Q other → ⊥
  before_first a b other near p q none (inl l) has = none other (inl (omega (arith, near, l))) has
  before_first a b other near p q none (inr x) has = let r = ranked a other p has in let k = x.1 in absurd (omega (arith, r, k))

  before_second : (a b other : VerifyFault) → instruction b < instruction a → ((x : VerifyFault) → Precedes x a → P x → ⊥) → Precedes other b → P other → ⊥
  before_second a b other near none (inl l) has = none other (inl (omega (arith, near, l))) has
  before_second a b other near none (inr x) has = let same = x.0 in none other (inl (omega (arith, near, same))) has

  both_of : (a b : VerifyFault) → IsFirstOf P (Some a) → IsFirstOf Q (Some b) → (before : Bool) → nat_lt (instruction b) (instruction a) ≡ before → IsFirstOf (λ x. P x ⊎ Q x) (cond before (Some b) (Some a))
  both_of a b f g true is = (inr g.0, λ other l x. case ⊥ x (λ p. before_second a b other (ltb-true (instruction b) (instruction a) is) f.1 l p) (λ q. g.1 other l q))
  both_of a b f g false is = (inl f.0, λ other l x. case ⊥ x (λ p. f.1 other l p) (λ q. before_first a b other (not_before (instruction a) (instruction b) is) f.0 g.0 g.1 l q))

  pub first_of_both : (a b : Option VerifyFault) → IsFirstOf P a → IsFirstOf Q b → IsFirstOf (λ x. P x ⊎ Q x) (earlier a b)
  first_of_both None None f g = λ other x. case ⊥ x (λ p. f other p) (λ q. g other q)
  first_of_both None (Some b) f g = (inr g.0, λ other l x. case ⊥ x (λ p. f other p) (λ q. g.1 other l q))
  first_of_both (Some a) None f g = (inl f.0, λ other l x. case ⊥ x (λ p. f.1 other l p) (λ q. g other q))
  first_of_both (Some a) (Some b) f g = both_of a b f g (nat_lt (instruction b) (instruction a)) refl

-- ---- the first of each kind

begins_all : (t : Lists) (p : Tree) → Nests t p → (count : ℕ) → Begins count t
begins_all t p n count = (p, record { procedures = n.procedures; nested = n.nested; front = ap (λ (ms : List Mark). take count ms) n.all })

nest_first : (t : Lists) (place : ℕ) → NestAt place t → IsFirst (λ (n : ℕ). NestAt n t) (Some place)
nest_first t place b = (b, λ before l c. c.1 (begins_less t (before + 1) place (omega (arith, l)) b.0))

-- the faults of one kind, by their instructions
nest_of : (t : Lists) (x : VerifyFault) → OfNest t x → (n : ℕ) × ((x ≡ Nest n) × NestAt n t)
nest_of t (Nest n) x = (n, (refl, x.1))
nest_of t (Target n) x = let k = x.0 in absurd (omega (arith, k))
nest_of t (Id n) x = let k = x.0 in absurd (omega (arith, k))
nest_of t OutOfMemory x = absurd x.1

target_of : (t : Lists) (x : VerifyFault) → OfTarget t x → (n : ℕ) × ((x ≡ Target n) × TargetAt n t)
target_of t (Target n) x = (n, (refl, x.1))
target_of t (Nest n) x = let k = x.0 in absurd (omega (arith, k))
target_of t (Id n) x = let k = x.0 in absurd (omega (arith, k))
target_of t OutOfMemory x = absurd x.1

id_of : (t : Lists) (x : VerifyFault) → OfId t x → (n : ℕ) × ((x ≡ Id n) × NumberAt n t)
id_of t (Id n) x = (n, (refl, x.1))
id_of t (Nest n) x = let k = x.0 in absurd (omega (arith, k))
id_of t (Target n) x = let k = x.0 in absurd (omega (arith, k))
id_of t OutOfMemory x = absurd x.1

module _ (t : Lists) where
  -- what a kind's first place says of its first fault
  pub nest_nowhere : (p : Tree) × Nests t p → IsFirstOf (OfNest t) None
  nest_nowhere n = λ x h. let y = nest_of t x h in y.1.1.1 (begins_all t n.0 n.1 (y.0 + 1))

  pub nest_at : (n m : ℕ) → m ≡ n → NestAt n t → IsFirstOf (OfNest t) (Some (Nest m))
  nest_at n m e b = ((refl, subst (λ (k : ℕ). NestAt k t) (sym e) b), λ x l h. before x l h)
    where
      before : (x : VerifyFault) → Precedes x (Nest m) → OfNest t x → ⊥
      before x (inl l) h = let y = nest_of t x h in let is = ap instruction y.1.0 in (nest_first t n b).1 y.0 (omega (arith, l, is, e)) y.1.1
      before x (inr l) h = let k = l.1 in absurd (omega (arith, k))

  pub target_none : IsFirst (λ (n : ℕ). TargetAt n t) None → IsFirstOf (OfTarget t) None
  target_none f = λ x h. let y = target_of t x h in f y.0 y.1.1

  pub target_some : (n m : ℕ) → m ≡ n → IsFirst (λ (k : ℕ). TargetAt k t) (Some n) → IsFirstOf (OfTarget t) (Some (Target m))
  target_some n m e f = ((refl, subst (λ (k : ℕ). TargetAt k t) (sym e) f.0), λ x l h. before x l h)
    where
      before : (x : VerifyFault) → Precedes x (Target m) → OfTarget t x → ⊥
      before x (inl l) h = let y = target_of t x h in let is = ap instruction y.1.0 in f.1 y.0 (omega (arith, l, is, e)) y.1.1
      before x (inr l) h = let k = l.1 in let one = h.0 in absurd (omega (arith, k, one))

  pub id_none : IsFirst (λ (n : ℕ). NumberAt n t) None → IsFirstOf (OfId t) None
  id_none f = λ x h. let y = id_of t x h in f y.0 y.1.1

  pub id_some : (n m : ℕ) → m ≡ n → IsFirst (λ (k : ℕ). NumberAt k t) (Some n) → IsFirstOf (OfId t) (Some (Id m))
  id_some n m e f = ((refl, subst (λ (k : ℕ). NumberAt k t) (sym e) f.0), λ x l h. before x l h)
    where
      before : (x : VerifyFault) → Precedes x (Id m) → OfId t x → ⊥
      before x (inl l) h = let y = id_of t x h in let is = ap instruction y.1.0 in f.1 y.0 (omega (arith, l, is, e)) y.1.1
      before x (inr l) h = let k = l.1 in let two = h.0 in absurd (omega (arith, k, two))

-- ---- the first of all

same_first : (P Q : VerifyFault → Type 0) → ((x : VerifyFault) → P x → Q x) → ((x : VerifyFault) → Q x → P x) → (o : Option VerifyFault) → IsFirstOf P o → IsFirstOf Q o
same_first P Q to back None f = λ x q. f x (back x q)
same_first P Q to back (Some a) f = (to a f.0, λ x l q. f.1 x l (back x q))

pub finds : (t : Lists) (a b c : Option VerifyFault) → IsFirstOf (OfNest t) a → IsFirstOf (OfTarget t) b → IsFirstOf (OfId t) c → Finds t (earlier (earlier a b) c)
finds t a b c f g h =
    same_first (λ x. (OfNest t x ⊎ OfTarget t x) ⊎ OfId t x) (Has t) to back (earlier (earlier a b) c)
    (first_of_both (λ x. OfNest t x ⊎ OfTarget t x) (OfId t) early (earlier a b) c
    (first_of_both (OfNest t) (OfTarget t) (λ x y p q. let k = p.0 in let l = q.0 in omega (arith, k, l)) a b f g) h)
  where
    early : (x y : VerifyFault) → OfNest t x ⊎ OfTarget t x → OfId t y → kind x < kind y
    early x y (inl p) q = let k = p.0 in let l = q.0 in omega (arith, k, l)
    early x y (inr p) q = let k = p.0 in let l = q.0 in omega (arith, k, l)

    to : (x : VerifyFault) → (OfNest t x ⊎ OfTarget t x) ⊎ OfId t x → Has t x
    to x (inl (inl p)) = p.1
    to x (inl (inr p)) = p.1
    to x (inr p) = p.1

    back : (x : VerifyFault) → Has t x → (OfNest t x ⊎ OfTarget t x) ⊎ OfId t x
    back (Nest n) p = inl (inl (refl, p))
    back (Target n) p = inl (inr (refl, p))
    back (Id n) p = inr (refl, p)
    back OutOfMemory p = absurd p

pub tells : (t : Lists) (x : VerifyFault) → Finds t (Some x) → Tells t x
tells t (Nest n) f = f
tells t (Target n) f = f
tells t (Id n) f = f
tells t OutOfMemory f = tt

-- ---- the law

-- of tables without a fault a program is read
pub sound_is_read : (t : Lists) → Finds t None → (p : Tree) × (verified t ≡ Some p)
sound_is_read t f = sound_verified t (sound_tables t (λ n b. f (Nest n) b) (λ n b. f (Target n) b) (λ n b. f (Id n) b))

pub unread_has_fault : (t : Lists) → verified t ≡ None → Finds t None → ⊥
unread_has_fault t e f =
    let x = sound_is_read t f in
    let no : ◌≡◌ {A = Option Tree} None (Some x.0) = sym e ∙ x.1 in
    absurd cc
