-- Marks and pairs find the same first clash.
use Rattle.std.proofs.Common.{◌≡◌, ℕ, ◌<◌, ◌≤◌, Bool, true, false, ◌==◌, ◌&&◌, ◌||◌, not, cond, List, [], ◌∷◌, ◌++◌, slice_index_or, Option, Some, None, refl, sym, ap, ◌∙◌, subst, arith}
use Rattle.std.proofs.lemmas.Bool.{eqb-true, eq-eqb, ne_eqb, false_from_ne_true}
use Rattle.std.proofs.lemmas.List.{append_assoc}
use Rattle.std.proofs.lemmas.List.Elements.{All-cons, All-nil, All-head, All-tail}
use Rattle.std.proofs.lemmas.List.Folds.{list_any_at, list_any_none}
use Rattle.std.proofs.lemmas.List.Quantifiers.{all_pairs_push}
use Rattle.std.specs.List.{list_any}
use Rattle.std.specs.Prelude.{All, AllPairs, find, if◌then◌else◌}
use Rattle.sial_syntax.specs.declared.access.Access.{Access}
use Rattle.sial_syntax.specs.declared.access.Class.{Class}
use Rattle.sial_meaning.specs.Access.{Touch, Mark, same_place, may_stand, clashes, clash_with, found, first_clash, clash_of, mark_after}
use Rattle.sial_meaning.specs.Accepted.{StandsWith}
use Rattle.sial_meaning.specs.MarkLaws.{Marks, no_marks, marked, found_or, marks_find, NeverFalls, MarksFindFirstClash}
use Rattle.sial_meaning.proofs.AcceptedInOtherWords.Pairs.{never, first-holds, second-holds, both-hold, class-is, class-self, At, place-at, place-from, pairs-head, pairs-tail}
use Rattle.sial_meaning.proofs.AcceptedInOtherWords.Counts.{at-self, only}
use Rattle.sial_meaning.proofs.AcceptedInOtherWords.Refusals.{stands-by, all-middle}
use Rattle.sial_syntax.specs.Spaces.{same_class}

-- an access at a place
abbrev here : Class → (block epoch : ℕ) → Touch → Bool
here class block epoch u = same_class class u.class && (epoch == u.epoch && block == u.block)

-- what a block's mark says where the first access at a place is this one, or there is none
abbrev NotAt : Option Mark → ℕ → Type 0
NotAt None e = Unit {0}
NotAt (Some m) e = (m.epoch == e) ≡ false

abbrev AtMark : Option Touch → Option Mark → ℕ → Type 0
AtMark (Some first) mark e = mark ≡ Some (record { epoch = e; kind = first.kind; line = first.line })
AtMark None mark e = NotAt mark e

-- accesses of a class up to an epoch
abbrev UpTo : List Touch → Class → ℕ → Type 0
UpTo before c e = All (λ (u : Touch). same_class u.class c ≡ true → u.epoch ≤ e) before

-- the marks say, for each place that is not passed, which access was the first there
abbrev Holds : Marks → List Touch → Type 0
Holds marks before = (c : Class) (b e : ℕ) → UpTo before c e → AtMark (find (here c b e) before) (marks c b) e

-- the first of two that is there
abbrev or_else : Option Touch → Option Touch → Option Touch
or_else None other = other
or_else (Some first) other = Some first

find-push : (f : Touch → Bool) (xs : List Touch) (y : Touch) → find f (xs ++ y ∷ []) ≡ or_else (find f xs) (cond (f y) (Some y) None)
find-push f [] y = refl
find-push f (x ∷ xs) y =
    elim (f x) as (λ b. cond b (Some x) (find f (xs ++ y ∷ [])) ≡ or_else (cond b (Some x) (find f xs)) (cond (f y) (Some y) None)) [
      | true ↦ refl
      | false ↦ find-push f xs y
    ]

or-none : (x : Option Touch) → or_else x None ≡ x
or-none None = refl
or-none (Some first) = refl

find-fails : (f : Touch → Bool) (xs : List Touch) → All (λ u. f u ≡ false) xs → find f xs ≡ None
find-fails f [] fails = refl
find-fails f (x ∷ xs) fails =
    ap (λ b. cond b (Some x) (find f xs)) (All-head (λ u. f u ≡ false) x xs fails) ∙ find-fails f xs (All-tail (λ u. f u ≡ false) x xs fails)

all-front : {X : Type 0} (P : X → Type 0) (xs ys : List X) → All P (xs ++ ys) → All P xs
all-front P [] ys all = All-nil P
all-front P (x ∷ xs) ys all = All-cons P x xs (All-head P x (xs ++ ys) all) (all-front P xs ys (All-tail P x (xs ++ ys) all))

-- the mark after an access is in its epoch
mark-epoch : (mark : Option Mark) (e : ℕ) (k : Access) (l : ℕ) → (mark_after mark e k l).epoch ≡ e
mark-epoch None e k l = refl
mark-epoch (Some m) e k l =
    elim (m.epoch == e) as (λ b. (m.epoch == e) ≡ b → (if b then m else record { epoch = e; kind = k; line = l }).epoch ≡ e) [
      | true ↦ λ same. eqb-true m.epoch e same
      | false ↦ λ apart. refl
    ] refl

-- the mark after an access, in its own epoch
at-now : (t : Touch) (first : Option Touch) (mark : Option Mark) → AtMark first mark t.epoch → AtMark (or_else first (Some t)) (Some (mark_after mark t.epoch t.kind t.line)) t.epoch
at-now t (Some first) mark is =
    ap (λ m. Some (mark_after m t.epoch t.kind t.line)) is
    ∙ ap (λ (b : Bool). Some (if b then record { epoch = t.epoch; kind = first.kind; line = first.line } else record { epoch = t.epoch; kind = t.kind; line = t.line })) (eq-eqb t.epoch t.epoch refl)
at-now t None None is = refl
at-now t None (Some m) is = ap (λ (b : Bool). Some (if b then m else record { epoch = t.epoch; kind = t.kind; line = t.line })) is

-- an access is at its own place
here-self : (t : Touch) → here t.class t.block t.epoch t ≡ true
here-self t = both-hold (same_class t.class t.class) (t.epoch == t.epoch && t.block == t.block) (class-self t.class t.class refl) (both-hold (t.epoch == t.epoch) (t.block == t.block) (eq-eqb t.epoch t.epoch refl) (eq-eqb t.block t.block refl))

-- no access so far is at a place of a later epoch
none-later : (before : List Touch) (c : Class) (b e now : ℕ) → UpTo before c now → now < e → find (here c b e) before ≡ None
none-later before c b e now up later =
    find-fails (here c b e) before (λ k d below. false_from_ne_true (here c b e (slice_index_or before k d)) (λ holds.
    let u = slice_index_or before k d in
    let class : c ≡ u.class = class-is c u.class (first-holds (same_class c u.class) (e == u.epoch && b == u.block) holds) in
    let epoch : e ≡ u.epoch = eqb-true e u.epoch (first-holds (e == u.epoch) (b == u.block) (second-holds (same_class c u.class) (e == u.epoch && b == u.block) holds)) in
    let low : u.epoch ≤ now = up k d below (class-self u.class c (sym class)) in
    absurd (omega (arith, low, epoch, later))))

strictly : (a b : ℕ) → a ≤ b → (a ≡ b → ⊥) → a < b
strictly a b low differ = grind arith

-- the marks of the access's own block
after-here : (marks : Marks) (before : List Touch) (t : Touch) → Holds marks before → UpTo before t.class t.epoch → (e : ℕ) → UpTo (before ++ t ∷ []) t.class e
    → AtMark (find (here t.class t.block e) (before ++ t ∷ [])) (marked marks t t.class t.block) e
after-here marks before t so-far now e up =
    subst (λ (b : Bool). AtMark (find (here t.class t.block e) (before ++ t ∷ [])) (if b then Some (mark_after (marks t.class t.block) t.epoch t.kind t.line) else marks t.class t.block) e)
    (sym (both-hold (same_class t.class t.class) (t.block == t.block) (class-self t.class t.class refl) (eq-eqb t.block t.block refl)))
    (elim (t.epoch == e) as (λ b. (t.epoch == e) ≡ b → AtMark (find (here t.class t.block e) (before ++ t ∷ [])) (Some (mark_after (marks t.class t.block) t.epoch t.kind t.line)) e) [
      | true ↦ λ same.
          subst (λ x. AtMark (find (here t.class t.block x) (before ++ t ∷ [])) (Some (mark_after (marks t.class t.block) t.epoch t.kind t.line)) x) (eqb-true t.epoch e same)
          (subst (λ x. AtMark x (Some (mark_after (marks t.class t.block) t.epoch t.kind t.line)) t.epoch)
          (sym (find-push (here t.class t.block t.epoch) before t ∙ ap (λ b. or_else (find (here t.class t.block t.epoch) before) (cond b (Some t) None)) (here-self t)))
          (at-now t (find (here t.class t.block t.epoch) before) (marks t.class t.block) (so-far t.class t.block t.epoch now)))
      | false ↦ λ apart.
          let low : t.epoch ≤ e = all-middle (λ (u : Touch). same_class u.class t.class ≡ true → u.epoch ≤ e) before t [] up (class-self t.class t.class refl) in
          let differ : (t.epoch ≡ e → ⊥) = λ same. never (sym apart ∙ eq-eqb t.epoch e same) in
          let later : t.epoch < e = strictly t.epoch e low differ in
          let fails : here t.class t.block e t ≡ false = false_from_ne_true (here t.class t.block e t) (λ holds.
          differ (sym (eqb-true e t.epoch (first-holds (e == t.epoch) (t.block == t.block) (second-holds (same_class t.class t.class) (e == t.epoch && t.block == t.block) holds))))) in
          subst (λ x. AtMark x (Some (mark_after (marks t.class t.block) t.epoch t.kind t.line)) e)
          (sym (find-push (here t.class t.block e) before t
          ∙ (ap (λ b. or_else (find (here t.class t.block e) before) (cond b (Some t) None)) fails
          ∙ (or-none (find (here t.class t.block e) before) ∙ none-later before t.class t.block e t.epoch now later))))
          (ne_eqb (mark_after (marks t.class t.block) t.epoch t.kind t.line).epoch e (λ same. differ (sym (mark-epoch (marks t.class t.block) t.epoch t.kind t.line) ∙ same)))
    ] refl)

-- the marks after an access
after-one : (marks : Marks) (before : List Touch) (t : Touch) → Holds marks before → UpTo before t.class t.epoch → Holds (marked marks t) (before ++ t ∷ [])
after-one marks before t so-far now c b e up =
    elim (same_class t.class c && (t.block == b)) as (λ x. (same_class t.class c && (t.block == b)) ≡ x
    → AtMark (find (here c b e) (before ++ t ∷ [])) (if x then Some (mark_after (marks c b) t.epoch t.kind t.line) else marks c b) e) [
      | true ↦ λ same.
          let class : t.class ≡ c = class-is t.class c (first-holds (same_class t.class c) (t.block == b) same) in
          let block : t.block ≡ b = eqb-true t.block b (second-holds (same_class t.class c) (t.block == b) same) in
          let at-class : (e : ℕ) → UpTo (before ++ t ∷ []) c e → AtMark (find (here c t.block e) (before ++ t ∷ [])) (marked marks t c t.block) e =
          subst (λ x. (e : ℕ) → UpTo (before ++ t ∷ []) x e → AtMark (find (here x t.block e) (before ++ t ∷ [])) (marked marks t x t.block) e) class (after-here marks before t so-far now) in
          let there : AtMark (find (here c b e) (before ++ t ∷ [])) (marked marks t c b) e =
          subst (λ x. AtMark (find (here c x e) (before ++ t ∷ [])) (marked marks t c x) e) block (at-class e up) in
          subst (λ (x : Bool). AtMark (find (here c b e) (before ++ t ∷ [])) (if x then Some (mark_after (marks c b) t.epoch t.kind t.line) else marks c b) e) same there
      | false ↦ λ apart.
          let fails : here c b e t ≡ false = false_from_ne_true (here c b e t) (λ holds.
          let class = class-is c t.class (first-holds (same_class c t.class) (e == t.epoch && b == t.block) holds) in
          let block = eqb-true b t.block (second-holds (e == t.epoch) (b == t.block) (second-holds (same_class c t.class) (e == t.epoch && b == t.block) holds)) in
          never (sym apart ∙ both-hold (same_class t.class c) (t.block == b) (class-self t.class c (sym class)) (eq-eqb t.block b (sym block)))) in
          subst (λ x. AtMark x (marks c b) e)
          (sym (find-push (here c b e) before t ∙ (ap (λ x. or_else (find (here c b e) before) (cond x (Some t) None)) fails ∙ or-none (find (here c b e) before))))
          (so-far c b e (all-front (λ (u : Touch). same_class u.class c ≡ true → u.epoch ≤ e) before (t ∷ []) up))
    ] refl

-- whether an access clashes with the first one at its place
abbrev clash_test : Option Touch → Touch → Bool
clash_test None t = false
clash_test (Some first) t = not (may_stand first.kind t.kind)

-- all accesses at a place where all pairs stand are of one kind
like-first : (t u v : Touch) → same_place t u ≡ true → same_place t v ≡ true → StandsWith u v → may_stand u.kind t.kind ≡ true → may_stand v.kind t.kind ≡ true
like-first t u v first second stands may =
    let a = place-at u t first in
    let b = place-at v t second in
    let at-v : At u.class u.epoch u.block v = record { class_is = sym b.class_is ∙ a.class_is; epoch_is = sym b.epoch_is ∙ a.epoch_is; block_is = sym b.block_is ∙ a.block_is } in
    let kind : v.kind ≡ u.kind = only u.kind v.kind (stands (place-from u.class u.epoch u.block u v (at-self u) at-v)) in
    ap (λ k. may_stand k t.kind) kind ∙ may

any-clash : (t : Touch) (before : List Touch) → AllPairs StandsWith before → list_any (clashes t) before ≡ clash_test (find (same_place t) before) t
any-clash t [] pairs = refl
any-clash t (u ∷ us) pairs =
    elim (same_place t u) as (λ b. same_place t u ≡ b → ((b && not (may_stand u.kind t.kind)) || list_any (clashes t) us) ≡ clash_test (cond b (Some u) (find (same_place t) us)) t) [
      | false ↦ λ apart. any-clash t us (pairs-tail StandsWith u us pairs)
      | true ↦ λ same.
          elim (may_stand u.kind t.kind) as (λ b. may_stand u.kind t.kind ≡ b → (not b || list_any (clashes t) us) ≡ not b) [
            | false ↦ λ e. refl
            | true ↦ λ e.
                list_any_none (clashes t) us (λ k d below. false_from_ne_true (clashes t (slice_index_or us k d)) (λ holds.
                let v = slice_index_or us k d in
                let place = first-holds (same_place t v) (not (may_stand v.kind t.kind)) holds in
                let fails = second-holds (same_place t v) (not (may_stand v.kind t.kind)) holds in
                never (sym (ap not (like-first t u v same place (pairs-head StandsWith u us pairs k d below) e)) ∙ fails)))
          ] refl
    ] refl

-- the clash that a mark finds
mark-clash : (t : Touch) (first : Option Touch) (mark : Option Mark) → AtMark first mark t.epoch → clash_of mark t.epoch t.kind t.line ≡ (if clash_test first t then Some (clash_with t first) else None)
mark-clash t (Some first) mark is =
    ap (λ m. clash_of m t.epoch t.kind t.line) is
    ∙ ap (λ (b : Bool). if b && not (may_stand first.kind t.kind) then Some (record { later = t.kind; later_line = t.line; earlier = first.kind; earlier_line = first.line }) else None) (eq-eqb t.epoch t.epoch refl)
mark-clash t None None is = refl
mark-clash t None (Some m) is =
    ap (λ (b : Bool). if b && not (may_stand m.kind t.kind) then Some (record { later = t.kind; later_line = t.line; earlier = m.kind; earlier_line = m.line }) else None) is

up-from : (before : List Touch) (t : Touch) (ts : List Touch) → AllPairs NeverFalls (before ++ t ∷ ts) → UpTo before t.class t.epoch
up-from [] t ts pairs = All-nil (λ (u : Touch). same_class u.class t.class ≡ true → u.epoch ≤ t.epoch)
up-from (u ∷ us) t ts pairs =
    All-cons (λ (u : Touch). same_class u.class t.class ≡ true → u.epoch ≤ t.epoch) u us
    (all-middle (NeverFalls u) us t ts (pairs-head NeverFalls u (us ++ t ∷ ts) pairs))
    (up-from us t ts (pairs-tail NeverFalls u (us ++ t ∷ ts) pairs))

-- from any state that the marks tell
marks-are : (marks : Marks) (before ts : List Touch) → Holds marks before → AllPairs NeverFalls (before ++ ts) → AllPairs StandsWith before → marks_find marks ts ≡ first_clash before ts
marks-are marks before [] so-far falls pairs = refl
marks-are marks before (t ∷ ts) so-far falls pairs =
    let now = up-from before t ts falls in
    let place = so-far t.class t.block t.epoch now in
    let clash : clash_of (marks t.class t.block) t.epoch t.kind t.line ≡ (if list_any (clashes t) before then Some (clash_with t (find (same_place t) before)) else None) =
    mark-clash t (find (same_place t) before) (marks t.class t.block) place
    ∙ ap (λ (b : Bool). if b then Some (clash_with t (find (same_place t) before)) else None) (sym (any-clash t before pairs)) in
    ap (λ x. found_or t x (marks_find (marked marks t) ts)) clash
    ∙ elim (list_any (clashes t) before) as (λ b. list_any (clashes t) before ≡ b
    → found_or t (if b then Some (clash_with t (find (same_place t) before)) else None) (marks_find (marked marks t) ts) ≡ (if b then Some (found before t) else first_clash (before ++ t ∷ []) ts)) [
      | true ↦ λ e. refl
      | false ↦ λ e.
          marks-are (marked marks t) (before ++ t ∷ []) ts (after-one marks before t so-far now)
          (subst (AllPairs NeverFalls) (sym (append_assoc before (t ∷ []) ts)) falls)
          (all_pairs_push StandsWith before t pairs (λ k d below same.
          stands-by (same_place t (slice_index_or before k d)) (may_stand (slice_index_or before k d).kind t.kind)
          (false_from_ne_true (clashes t (slice_index_or before k d)) (λ holds. never (sym e ∙ list_any_at (clashes t) before k d below holds)))
          same))
    ] refl

-- marks find the first clash of a log whose epochs never fall
pub marks-find-first-clash : MarksFindFirstClash
marks-find-first-clash log falls = marks-are no_marks [] log (λ c b e up. tt) falls (λ i j d before below. absurd (omega (arith, below)))
