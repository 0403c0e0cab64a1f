-- What is declared, with the declarations in another order.
use Rattle.std.proofs.Common.{◌≡◌, ℕ, suc, ◌+◌, List, [], ◌∷◌, ◌++◌, Bool, true, false, cond, length, Option, Some, None, slice_get, refl, sym, ap, ◌∙◌, subst, append_assoc, arith}
use Rattle.std.specs.List.{AllByRecursion}
use Rattle.std.specs.Str.{bytes_eq}
use Rattle.std.proofs.lemmas.List.{length-append}
use Rattle.std.proofs.lemmas.Slice.Eq.{bytes_eq-Decides}
use Rattle.sial_syntax.specs.declared.array.ArrayDecl.{ArrayDecl}
use Rattle.sial_syntax.specs.declared.index.IndexDecl.{IndexDecl}
use Rattle.sial_parser.specs.Grammar.{Declares, AreDeclarations}
use Rattle.sial_parser.specs.Scope.{Scope, Entry, IsFree, thing_of, Declared, nothing, with_index, with_array, with_scalar}
use Rattle.sial_parser.specs.declared.thing.Thing.{Thing}
use Rattle.sial_parser.specs.declared.thing.Thing.TheVariants as thing
use Rattle.sial_parser.specs.declared.word.Word.{Word}

-- what is found in front is found
found_by : (b : Bool) (u v : Thing) (r q : Option Thing) → cond b (Some v) r ≡ Some u → (r ≡ Some u → q ≡ Some u) → cond b (Some v) q ≡ Some u
found_by true u v r q e go = e
found_by false u v r q e go = go e

pub front_found : (s t : Scope) (x : List ℕ) (u : Thing) → thing_of s x ≡ Some u → thing_of (s ++ t) x ≡ Some u
front_found [] t x u e = absurd cc
front_found (n ∷ s) t x u e = found_by (bytes_eq x n.name) u n.thing (thing_of s x) (thing_of (s ++ t) x) e (front_found s t x u)

-- what isn't is found behind, or not
missed_by : (b : Bool) (v : Thing) (r q w : Option Thing) → cond b (Some v) r ≡ None → (r ≡ None → q ≡ w) → cond b (Some v) q ≡ w
missed_by true v r q w e go = absurd cc
missed_by false v r q w e go = go e

pub back_found : (s t : Scope) (x : List ℕ) → thing_of s x ≡ None → thing_of (s ++ t) x ≡ thing_of t x
back_found [] t x e = refl
back_found (n ∷ s) t x e = missed_by (bytes_eq x n.name) n.thing (thing_of s x) (thing_of (s ++ t) x) (thing_of t x) e (back_found s t x)

-- two scopes in which each name means the same
abbrev pub Same : Scope → Scope → Type 0
Same s t = (x : List ℕ) → thing_of s x ≡ thing_of t x

same_by : (r : Option Thing) (s t u : Scope) (x : List ℕ) → thing_of s x ≡ r → thing_of t x ≡ r → thing_of (s ++ u) x ≡ thing_of (t ++ u) x
same_by (Some v) s t u x e f = front_found s u x v e ∙ sym (front_found t u x v f)
same_by None s t u x e f = back_found s u x e ∙ sym (back_found t u x f)

pub same_append : (s t u : Scope) → Same s t → Same (s ++ u) (t ++ u)
same_append s t u same x = same_by (thing_of t x) s t u x (same x) refl

-- a new entry may stand before others
moved_back : (r : Option Thing) (b : Bool) (back : Scope) (n : Entry) (y : List ℕ) → thing_of back y ≡ r → bytes_eq y n.name ≡ b → thing_of back n.name ≡ None → thing_of (n ∷ back) y ≡ thing_of (back ++ n ∷ []) y
moved_back (Some u) true back n y e f free =
    let same : y ≡ n.name = (bytes_eq-Decides y n.name).0 f in
    absurd (let k : ◌≡◌ {A = Option Thing} (Some u) None = sym e ∙ ap (thing_of back) same ∙ free in cc)
moved_back (Some u) false back n y e f free = ap (λ c. cond c (Some n.thing) (thing_of back y)) f ∙ e ∙ sym (front_found back (n ∷ []) y u e)
moved_back None true back n y e f free = ap (λ c. cond c (Some n.thing) (thing_of back y)) f ∙ sym (back_found back (n ∷ []) y e ∙ ap (λ c. cond c (Some n.thing) None) f)
moved_back None false back n y e f free = ap (λ c. cond c (Some n.thing) (thing_of back y)) f ∙ e ∙ sym (back_found back (n ∷ []) y e ∙ ap (λ c. cond c (Some n.thing) None) f)

free_back : (r : Option Thing) (front back : Scope) (x : List ℕ) → thing_of front x ≡ r → thing_of (front ++ back) x ≡ None → thing_of back x ≡ None
free_back (Some u) front back x e free = absurd (let k : ◌≡◌ {A = Option Thing} (Some u) None = sym (front_found front back x u e) ∙ free in cc)
free_back None front back x e free = sym (back_found front back x e) ∙ free

moved_by : (r : Option Thing) (front back : Scope) (n : Entry) (y : List ℕ) → thing_of front y ≡ r → thing_of (front ++ back) n.name ≡ None → thing_of (front ++ n ∷ back) y ≡ thing_of (front ++ (back ++ n ∷ [])) y
moved_by (Some u) front back n y e free = front_found front (n ∷ back) y u e ∙ sym (front_found front (back ++ n ∷ []) y u e)
moved_by None front back n y e free =
    back_found front (n ∷ back) y e
    ∙ moved_back (thing_of back y) (bytes_eq y n.name) back n y refl refl (free_back (thing_of front n.name) front back n.name refl free)
    ∙ sym (back_found front (back ++ n ∷ []) y e)

-- with one more entry in the middle, or at the end
pub moved : (front back s : Scope) (n : Entry) → Same (front ++ back) s → thing_of s n.name ≡ None → Same ((front ++ n ∷ []) ++ back) (s ++ n ∷ [])
moved front back s n same free y =
    ap (λ t. thing_of t y) (append_assoc front (n ∷ []) back)
    ∙ moved_by (thing_of front y) front back n y refl (same n.name ∙ free)
    ∙ ap (λ t. thing_of t y) (sym (append_assoc front back (n ∷ [])))
    ∙ same_append (front ++ back) s (n ∷ []) same y

-- entries of one kind, numbered from a number on
abbrev pub entries : {X : Type 0} → (make : ℕ → Thing) → (name : X → List ℕ) → (number : ℕ) → List X → Scope
entries make name n [] = []
entries make name n (x ∷ xs) = record { name = name x; thing = make n } ∷ entries make name (n + 1) xs

entries_last : {X : Type 0} (make : ℕ → Thing) (name : X → List ℕ) (n : ℕ) (xs : List X) (x : X) → entries make name n (xs ++ x ∷ []) ≡ entries make name n xs ++ record { name = name x; thing = make (n + length xs) } ∷ []
entries_last make name n [] x = let k : n ≡ n + 0 = omega arith in ap (λ m. record { name = name x; thing = make m } ∷ []) k
entries_last make name n (y ∷ ys) x =
    let k : n + 1 + length ys ≡ n + suc (length ys) = omega arith in
    ap (λ r. record { name = name y; thing = make n } ∷ r) (entries_last make name (n + 1) ys x ∙ ap (λ m. entries make name (n + 1) ys ++ record { name = name x; thing = make m } ∷ []) k)

abbrev pub index_named : IndexDecl → List ℕ
index_named x = x.name

abbrev pub array_named : ArrayDecl → List ℕ
array_named x = x.name

abbrev pub itself : List ℕ → List ℕ
itself x = x

-- what is declared, the indices first, then the arrays, then the scalars
abbrev pub ordered : Declared → Scope
ordered d = entries thing.Index index_named 0 d.indices ++ (entries thing.Array array_named 0 d.arrays ++ entries thing.Scalar itself 0 d.scalars)

index_moved : (d : Declared) (x : IndexDecl) → IsFree d.scope x.name → Same (ordered d) d.scope → Same (ordered (with_index d x)) (with_index d x).scope
index_moved d x free same y =
    let k : 0 + length d.indices ≡ length d.indices = omega arith in
    let back = entries thing.Array array_named 0 d.arrays ++ entries thing.Scalar itself 0 d.scalars in
    let front = entries thing.Index index_named 0 d.indices in
    ap (λ t. thing_of (t ++ back) y) (entries_last thing.Index index_named 0 d.indices x ∙ ap (λ m. front ++ record { name = x.name; thing = thing.Index m } ∷ []) k)
    ∙ moved front back d.scope (record { name = x.name; thing = thing.Index (length d.indices) }) same free y

array_moved : (d : Declared) (x : ArrayDecl) → IsFree d.scope x.name → Same (ordered d) d.scope → Same (ordered (with_array d x)) (with_array d x).scope
array_moved d x free same y =
    let k : 0 + length d.arrays ≡ length d.arrays = omega arith in
    let first = entries thing.Index index_named 0 d.indices in
    let front = entries thing.Array array_named 0 d.arrays in
    let back = entries thing.Scalar itself 0 d.scalars in
    let n : Entry = record { name = x.name; thing = thing.Array (length d.arrays) } in
    ap (λ t. thing_of (first ++ (t ++ back)) y) (entries_last thing.Array array_named 0 d.arrays x ∙ ap (λ m. front ++ record { name = x.name; thing = thing.Array m } ∷ []) k)
    ∙ ap (λ t. thing_of t y) (sym (append_assoc first (front ++ n ∷ []) back) ∙ ap (λ t. t ++ back) (sym (append_assoc first front (n ∷ []))))
    ∙ moved (first ++ front) back d.scope n (λ z. ap (λ t. thing_of t z) (append_assoc first front back) ∙ same z) free y

scalar_moved : (d : Declared) (x : List ℕ) → IsFree d.scope x → Same (ordered d) d.scope → Same (ordered (with_scalar d x)) (with_scalar d x).scope
scalar_moved d x free same y =
    let k : 0 + length d.scalars ≡ length d.scalars = omega arith in
    let first = entries thing.Index index_named 0 d.indices in
    let second = entries thing.Array array_named 0 d.arrays in
    let front = entries thing.Scalar itself 0 d.scalars in
    let n : Entry = record { name = x; thing = thing.Scalar (length d.scalars) } in
    ap (λ t. thing_of (first ++ (second ++ t)) y) (entries_last thing.Scalar itself 0 d.scalars x ∙ ap (λ m. front ++ record { name = x; thing = thing.Scalar m } ∷ []) k)
    ∙ ap (λ t. thing_of t y) (ap (λ t. first ++ t) (sym (append_assoc second front (n ∷ []))) ∙ sym (append_assoc first (second ++ front) (n ∷ [])))
    ∙ same_append (first ++ (second ++ front)) d.scope (n ∷ []) same y

one_moved : (d e : Declared) (ws rest : List Word) → Declares d e ws rest → Same (ordered d) d.scope → Same (ordered e) e.scope
one_moved d _ _ _ (Declares.segments kind free is_lo is_hi) same = index_moved d _ free same
one_moved d _ _ _ (Declares.subindex free f) same = index_moved d _ free same
one_moved d _ _ _ (Declares.scalar free) same = scalar_moved d _ free same
one_moved d _ _ _ (Declares.array kind free are) same = array_moved d _ free same

-- declarations in another order declare the same
pub all_moved : (d f : Declared) (ws rest : List Word) → AreDeclarations d f ws rest → Same (ordered d) d.scope → Same (ordered f) f.scope
all_moved _ _ _ _ (AreDeclarations.none e) same = same
all_moved _ _ _ _ (AreDeclarations.more {d = d} {e = e} {f = f} {ws = ws} {between = between} {rest = rest} one others) same = all_moved e f between rest others (one_moved d e ws between one same)

-- each of a list is found under its name and number
abbrev pub AreFound : {X : Type 0} → Scope → (make : ℕ → Thing) → (name : X → List ℕ) → (number : ℕ) → List X → Type 0
AreFound s make name n [] = Unit {0}
AreFound s make name n (x ∷ xs) = (thing_of s (name x) ≡ Some (make n)) × AreFound s make name (n + 1) xs

found_later : {X : Type 0} (s t : Scope) (make : ℕ → Thing) (name : X → List ℕ) (n : ℕ) (xs : List X) → AreFound s make name n xs → AreFound (s ++ t) make name n xs
found_later s t make name n [] h = tt
found_later s t make name n (x ∷ xs) h = (front_found s t (name x) (make n) h.0, found_later s t make name (n + 1) xs h.1)

pub found_same : {X : Type 0} (s t : Scope) (make : ℕ → Thing) (name : X → List ℕ) (n : ℕ) (xs : List X) → Same t s → AreFound s make name n xs → AreFound t make name n xs
found_same s t make name n [] same h = tt
found_same s t make name n (x ∷ xs) same h = (same (name x) ∙ h.0, found_same s t make name (n + 1) xs same h.1)

found_last : {X : Type 0} (s : Scope) (make : ℕ → Thing) (name : X → List ℕ) (n : ℕ) (xs : List X) (x : X) → AreFound s make name n xs → thing_of s (name x) ≡ Some (make (n + length xs)) → AreFound s make name n (xs ++ x ∷ [])
found_last s make name n [] x h e = let k : n + 0 ≡ n = omega arith in (e ∙ ap (λ m. Some (make m)) k, tt)
found_last s make name n (y ∷ ys) x h e =
    let k : n + suc (length ys) ≡ n + 1 + length ys = omega arith in
    (h.0, found_last s make name (n + 1) ys x h.1 (e ∙ ap (λ m. Some (make m)) k))

-- an entry at the end is found where its name was free
pub last_found : (s : Scope) (n : Entry) → thing_of s n.name ≡ None → thing_of (s ++ n ∷ []) n.name ≡ Some n.thing
last_found s n free = back_found s (n ∷ []) n.name free ∙ ap (λ c. cond c (Some n.thing) None) ((bytes_eq-Decides n.name n.name).1 refl)

-- everything declared is found
pub record Found (d : Declared) : Type 0 where
  pub indices : AreFound d.scope thing.Index index_named 0 d.indices
  pub arrays : AreFound d.scope thing.Array array_named 0 d.arrays
  pub scalars : AreFound d.scope thing.Scalar itself 0 d.scalars

pub nothing_found : Found nothing
nothing_found = record { indices = tt; arrays = tt; scalars = tt }

index_found : (d : Declared) (x : IndexDecl) → IsFree d.scope x.name → Found d → Found (with_index d x)
index_found d x free f =
    let n : Entry = record { name = x.name; thing = thing.Index (length d.indices) } in
    let k : length d.indices ≡ 0 + length d.indices = omega arith in
    record {
      indices = found_last (d.scope ++ n ∷ []) thing.Index index_named 0 d.indices x (found_later d.scope (n ∷ []) thing.Index index_named 0 d.indices f.indices) (last_found d.scope n free ∙ ap (λ m. Some (thing.Index m)) k);
      arrays = found_later d.scope (n ∷ []) thing.Array array_named 0 d.arrays f.arrays;
      scalars = found_later d.scope (n ∷ []) thing.Scalar itself 0 d.scalars f.scalars;
    }

array_found : (d : Declared) (x : ArrayDecl) → IsFree d.scope x.name → Found d → Found (with_array d x)
array_found d x free f =
    let n : Entry = record { name = x.name; thing = thing.Array (length d.arrays) } in
    let k : length d.arrays ≡ 0 + length d.arrays = omega arith in
    record {
      indices = found_later d.scope (n ∷ []) thing.Index index_named 0 d.indices f.indices;
      arrays = found_last (d.scope ++ n ∷ []) thing.Array array_named 0 d.arrays x (found_later d.scope (n ∷ []) thing.Array array_named 0 d.arrays f.arrays) (last_found d.scope n free ∙ ap (λ m. Some (thing.Array m)) k);
      scalars = found_later d.scope (n ∷ []) thing.Scalar itself 0 d.scalars f.scalars;
    }

scalar_found : (d : Declared) (x : List ℕ) → IsFree d.scope x → Found d → Found (with_scalar d x)
scalar_found d x free f =
    let n : Entry = record { name = x; thing = thing.Scalar (length d.scalars) } in
    let k : length d.scalars ≡ 0 + length d.scalars = omega arith in
    record {
      indices = found_later d.scope (n ∷ []) thing.Index index_named 0 d.indices f.indices;
      arrays = found_later d.scope (n ∷ []) thing.Array array_named 0 d.arrays f.arrays;
      scalars = found_last (d.scope ++ n ∷ []) thing.Scalar itself 0 d.scalars x (found_later d.scope (n ∷ []) thing.Scalar itself 0 d.scalars f.scalars) (last_found d.scope n free ∙ ap (λ m. Some (thing.Scalar m)) k);
    }

one_found : (d e : Declared) (ws rest : List Word) → Declares d e ws rest → Found d → Found e
one_found d _ _ _ (Declares.segments kind free is_lo is_hi) f = index_found d _ free f
one_found d _ _ _ (Declares.subindex free g) f = index_found d _ free f
one_found d _ _ _ (Declares.scalar free) f = scalar_found d _ free f
one_found d _ _ _ (Declares.array kind free are) f = array_found d _ free f

pub all_found : (d f : Declared) (ws rest : List Word) → AreDeclarations d f ws rest → Found d → Found f
all_found _ _ _ _ (AreDeclarations.none e) h = h
all_found _ _ _ _ (AreDeclarations.more {d = d} {e = e} {f = f} {ws = ws} {between = between} {rest = rest} one others) h = all_found e f between rest others (one_found d e ws between one h)

-- what all entries satisfy, what is looked up does
looked_by : (Q : List ℕ → Thing → Type 0) (b : Bool) (x : List ℕ) (n : Entry) (u : Thing) (r : Option Thing) → bytes_eq x n.name ≡ b → Q n.name n.thing → (r ≡ Some u → Q x u) → cond b (Some n.thing) r ≡ Some u → Q x u
looked_by Q true x n u r f h go e =
    let same : x ≡ n.name = (bytes_eq-Decides x n.name).0 f in
    let k : n.thing ≡ u = cc in
    subst (λ (y : List ℕ). Q y u) (sym same) (subst (Q n.name) k h)
looked_by Q false x n u r f h go e = go e

pub looked : (Q : List ℕ → Thing → Type 0) (s : Scope) (x : List ℕ) (u : Thing) → AllByRecursion (λ (n : Entry). Q n.name n.thing) s → thing_of s x ≡ Some u → Q x u
looked Q [] x u h e = absurd cc
looked Q (n ∷ s) x u h e = looked_by Q (bytes_eq x n.name) x n u (thing_of s x) refl h.0 (looked Q s x u h.1) e

-- a name that means one thing in the whole is free in a front without that thing
free_by : (r : Option Thing) (s rest whole : Scope) (x : List ℕ) (u : Thing) → thing_of s x ≡ r → whole ≡ s ++ rest → thing_of whole x ≡ Some u → AllByRecursion (λ (n : Entry). n.thing ≡ u → ⊥) s → thing_of s x ≡ None
free_by None s rest whole x u e is found apart = e
free_by (Some v) s rest whole x u e is found apart =
    let k : ◌≡◌ {A = Option Thing} (Some v) (Some u) = sym (front_found s rest x v e) ∙ ap (λ t. thing_of t x) (sym is) ∙ found in
    let same : v ≡ u = cc in
    absurd (looked (λ y w. w ≡ u → ⊥) s x v apart e same)

pub free_here : (s rest whole : Scope) (x : List ℕ) (u : Thing) → whole ≡ s ++ rest → thing_of whole x ≡ Some u → AllByRecursion (λ (n : Entry). n.thing ≡ u → ⊥) s → thing_of s x ≡ None
free_here s rest whole x u is found apart = free_by (thing_of s x) s rest whole x u refl is found apart

-- the entry behind others
pub get_at : {X : Type 0} (front : List X) (x : X) (xs : List X) → slice_get (front ++ x ∷ xs) (length front) ≡ Some x
get_at [] x xs = refl
get_at (y ∷ front) x xs = get_at front x xs

-- entries of one kind have the names of their things
pub entries_named : {X : Type 0} (Q : List ℕ → Thing → Type 0) (make : ℕ → Thing) (name : X → List ℕ) (all front xs : List X) → ((i : ℕ) (x : X) → slice_get all i ≡ Some x → Q (name x) (make i)) → all ≡ front ++ xs → AllByRecursion (λ (n : Entry). Q n.name n.thing) (entries make name (length front) xs)
entries_named Q make name all front [] go is = tt
entries_named Q make name all front (x ∷ xs) go is =
    let long : length (front ++ x ∷ []) ≡ length front + 1 = length-append front (x ∷ []) in (
      go (length front) x (ap (λ l. slice_get l (length front)) is ∙ get_at front x xs),
      subst (λ m. AllByRecursion (λ (n : Entry). Q n.name n.thing) (entries make name m xs)) long
          (entries_named Q make name all (front ++ x ∷ []) xs go (is ∙ sym (append_assoc front (x ∷ []) xs))),
    )
