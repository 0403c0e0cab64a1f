-- What writes of one kind make of an element of a block.
use Rattle.std.proofs.Common.{◌≡◌, ℕ, zero, suc, List, [], ◌∷◌, length, get_or, set, Bool, true, false, eqb, ◌==◌, ◌&&◌, if◌then◌else◌, refl, sym, ap, ◌∙◌, subst, arith, eqb-true}
use Rattle.std.specs.List.{list_all}
use Rattle.std.proofs.lemmas.Bool.{and_parts, eqb-false}
use Rattle.std.proofs.lemmas.List.{get_or-set_other}
use Rattle.sial_syntax.specs.declared.access.Access.{Access}
use Rattle.sial_syntax.specs.declared.access.Access.TheVariants as access
use Rattle.sial_syntax.specs.declared.access.Class.{Class}
use Rattle.sial_syntax.specs.declared.access.Class.TheVariants.{Distributed, Served}
use Rattle.sial_syntax.specs.Spaces.{same_class}
use Rattle.sial_meaning.specs.Accepted.{is_add, is_max, is_store}
use Rattle.sial_meaning.specs.Access.{Touch}
use Rattle.sial_meaning.specs.DeedSums.{element_at, is_to, writes_to, brings, is_only, AreOnly, element_in}
use Rattle.sial_meaning.specs.Deeds.{Deed, Reads, Writes, Adds, Traps, write_to, written}
use Rattle.sial_meaning.specs.Number.{accessed}
use Rattle.sial_meaning.specs.State.{Shared, shared_block, with_block, accessed_words}

-- a block set to what is made of it, which is nothing of nothing
set_here : (xs : List (List ℕ)) (i : ℕ) (f : List ℕ → List ℕ) → f [] ≡ [] → get_or (set xs i (f (get_or xs i []))) i [] ≡ f (get_or xs i [])
set_here [] i f e = sym e
set_here (x ∷ xs) zero f e = refl
set_here (x ∷ xs) (suc i) f e = set_here xs i f e

-- a write makes of the block that it names what the access does, and leaves the others
pub write_is : (t : Touch) (words : List ℕ) (shared : Shared) (class : Class) (block : ℕ) → shared_block (write_to t words shared) class block ≡ (if is_to class block t then accessed_words t.kind (shared_block shared class block) words else shared_block shared class block)
write_is t words shared class block = by_classes t.class class
  where
    by_number : (xs : List (List ℕ)) (b : Bool) → eqb t.block block ≡ b → get_or (set xs t.block (accessed_words t.kind (get_or xs t.block []) words)) block [] ≡ (if b then accessed_words t.kind (get_or xs block []) words else get_or xs block [])
    by_number xs true e =
        subst
        (λ (n : ℕ). get_or (set xs t.block (accessed_words t.kind (get_or xs t.block []) words)) n [] ≡ accessed_words t.kind (get_or xs n []) words)
        (eqb-true t.block block e)
        (set_here xs t.block (λ old. accessed_words t.kind old words) refl)
    by_number xs false e = get_or-set_other xs t.block block (accessed_words t.kind (get_or xs t.block []) words) [] (λ same. eqb-false t.block block e (sym same))

    by_classes : (c d : Class) → shared_block (with_block shared c t.block (accessed_words t.kind (shared_block shared c t.block) words)) d block ≡ (if same_class c d && eqb t.block block then accessed_words t.kind (shared_block shared d block) words else shared_block shared d block)
    by_classes Distributed Distributed = by_number shared.distributed (eqb t.block block) refl
    by_classes Distributed Served = refl
    by_classes Served Distributed = refl
    by_classes Served Served = by_number shared.served (eqb t.block block) refl

-- an element after an access with as many elements
accessed_at : (how : Access) (f : ℕ → ℕ → ℕ) → ((a b : ℕ) → accessed how a b ≡ f a b) → ◌≡◌ {A = ℕ} (f 0 0) 0 → (old words : List ℕ) → length words ≡ length old → (place : ℕ) → element_at (accessed_words how old words) place ≡ f (element_at old place) (element_at words place)
accessed_at how f is none [] [] e place = sym none
accessed_at how f is none [] (x ∷ xs) e place = absurd (omega (arith, e))
accessed_at how f is none (o ∷ os) [] e place = absurd (omega (arith, e))
accessed_at how f is none (o ∷ os) (x ∷ xs) e zero = is o x
accessed_at how f is none (o ∷ os) (x ∷ xs) e (suc place) = accessed_at how f is none os xs (omega (arith, e)) place

-- such an access leaves as many elements
accessed_long : (how : Access) (old words : List ℕ) → length words ≡ length old → length (accessed_words how old words) ≡ length old
accessed_long how [] words e = refl
accessed_long how (o ∷ os) [] e = absurd (omega (arith, e))
accessed_long how (o ∷ os) (x ∷ xs) e = ap suc (accessed_long how os xs (omega (arith, e)))

-- kinds
pub kind_add : (how : Access) → is_add how ≡ true → how ≡ access.Add
kind_add access.Read e = absurd cc
kind_add access.Add e = refl
kind_add access.Max e = absurd cc
kind_add access.Store e = absurd cc

-- an access that passes the test is a max
pub kind_max : (how : Access) → is_max how ≡ true → how ≡ access.Max
kind_max access.Read e = absurd cc
kind_max access.Add e = absurd cc
kind_max access.Max e = refl
kind_max access.Store e = absurd cc

-- an access that passes the test is a store
pub kind_store : (how : Access) → is_store how ≡ true → how ≡ access.Store
kind_store access.Read e = absurd cc
kind_store access.Add e = absurd cc
kind_store access.Max e = absurd cc
kind_store access.Store e = refl

module _ (class : Class) (block place : ℕ) where
  -- an element of the block
  abbrev pub at : Shared → ℕ
  at shared = element_in shared class block place

  -- as many elements as the block has
  abbrev pub long : Shared → ℕ
  long shared = length (shared_block shared class block)

  module _ (kind : Access → Bool) (how : Access) (only : (a : Access) → kind a ≡ true → a ≡ how) (f : ℕ → ℕ → ℕ) (is : (a b : ℕ) → accessed how a b ≡ f a b) (none : ◌≡◌ {A = ℕ} (f 0 0) 0) where
    -- what a write of such a kind makes of an element, and of the length
    one_write : (t : Touch) (words : List ℕ) (shared : Shared) (b : Bool) → is_to class block t ≡ b → (if b then kind t.kind && (length words == long shared) else true) ≡ true
        → (at (write_to t words shared) ≡ (if b then f (at shared) (element_at words place) else at shared)) × (long (write_to t words shared) ≡ long shared)
    one_write t words shared true e fits =
        let parts = and_parts (kind t.kind) (length words == long shared) fits in
        let same : length words ≡ long shared = eqb-true (length words) (long shared) parts.1 in
        let made : shared_block (write_to t words shared) class block ≡ accessed_words how (shared_block shared class block) words =
        write_is t words shared class block ∙ (ap (λ b. if b then accessed_words t.kind (shared_block shared class block) words else shared_block shared class block) e ∙ ap (λ k. accessed_words k (shared_block shared class block) words) (only t.kind parts.0)) in
        (ap (λ ws. element_at ws place) made ∙ accessed_at how f is none (shared_block shared class block) words same place, ap length made ∙ accessed_long how (shared_block shared class block) words same)
    one_write t words shared false e fits =
        let made : shared_block (write_to t words shared) class block ≡ shared_block shared class block =
        write_is t words shared class block ∙ ap (λ b. if b then accessed_words t.kind (shared_block shared class block) words else shared_block shared class block) e in
        (ap (λ ws. element_at ws place) made, ap length made)

    -- deeds of such a kind, where what a write makes of an element is said in another way, too
    pub all_writes : (R : ℕ → List Deed → ℕ → Type 0) → ((a : ℕ) → R a [] a)
        → ((d : Deed) (ds : List Deed) (a c : ℕ) → writes_to class block d ≡ true → R (f a (brings class block place d)) ds c → R a (d ∷ ds) c)
        → ((d : Deed) (ds : List Deed) (a c : ℕ) → writes_to class block d ≡ false → ◌≡◌ {A = ℕ} (brings class block place d) 0 → R a ds c → R a (d ∷ ds) c)
        → (ds : List Deed) (shared : Shared) → AreOnly shared class block kind ds → R (at shared) ds (at (written ds shared))
    all_writes R here more less [] shared fits = here (at shared)
    all_writes R here more less (Reads t ∷ ds) shared fits =
        less (Reads t) ds (at shared) (at (written ds shared)) refl refl (all_writes R here more less ds shared (and_parts true (list_all (is_only class block kind (long shared)) ds) fits).1)
    all_writes R here more less (Adds s n ∷ ds) shared fits =
        less (Adds s n) ds (at shared) (at (written ds shared)) refl refl (all_writes R here more less ds shared (and_parts true (list_all (is_only class block kind (long shared)) ds) fits).1)
    all_writes R here more less (Traps t ∷ ds) shared fits =
        less (Traps t) ds (at shared) (at (written ds shared)) refl refl (all_writes R here more less ds shared (and_parts true (list_all (is_only class block kind (long shared)) ds) fits).1)
    all_writes R here more less (Writes t words ∷ ds) shared fits =
        let parts = and_parts (is_only class block kind (long shared) (Writes t words)) (list_all (is_only class block kind (long shared)) ds) fits in
        by_test (λ s rest. all_writes R here more less ds s rest) (is_to class block t) refl parts.0 parts.1
      where
        by_bool : (b : Bool) → is_to class block t ≡ b → at (write_to t words shared) ≡ (if b then f (at shared) (element_at words place) else at shared) → R (at (write_to t words shared)) ds (at (written ds (write_to t words shared))) → R (at shared) (Writes t words ∷ ds) (at (written ds (write_to t words shared)))
        by_bool true e one others =
            more
            (Writes t words)
            ds
            (at shared)
            (at (written ds (write_to t words shared)))
            e
            (subst (λ (a : ℕ). R a ds (at (written ds (write_to t words shared)))) (one ∙ ap (f (at shared)) (sym (ap (λ c. if c then element_at words place else 0) e))) others)
        by_bool false e one others =
            less
            (Writes t words)
            ds
            (at shared)
            (at (written ds (write_to t words shared)))
            e
            (ap (λ c. if c then element_at words place else 0) e)
            (subst (λ (a : ℕ). R a ds (at (written ds (write_to t words shared)))) one others)

        by_test : ((s : Shared) → AreOnly s class block kind ds → R (at s) ds (at (written ds s))) → (b : Bool) → is_to class block t ≡ b → (if is_to class block t then kind t.kind && (length words == long shared) else true) ≡ true → list_all (is_only class block kind (long shared)) ds ≡ true → R (at shared) (Writes t words ∷ ds) (at (written ds (write_to t words shared)))
        by_test again b e first rest =
            let one = one_write t words shared b e (ap (λ c. if c then kind t.kind && (length words == long shared) else true) (sym e) ∙ first) in
            let others = again (write_to t words shared) (ap (λ n. list_all (is_only class block kind n) ds) one.1 ∙ rest) in
            by_bool b e one.0 others
