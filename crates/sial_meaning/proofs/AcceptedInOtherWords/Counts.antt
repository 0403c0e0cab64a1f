-- Pairs of a log, and the counts of a block in an epoch.
use Rattle.std.proofs.Common.{◌≡◌, ℕ, zero, suc, ◌+◌, ◌≤◌, ◌⊎◌, inl, inr, Bool, true, false, List, [], ◌∷◌, slice_index_or, refl, sym, ap, ◌∙◌, arith}
use Rattle.std.proofs.lemmas.Bool.{false_from_ne_true}
use Rattle.std.proofs.lemmas.List.Kept.{AllPairs-cons}
use Rattle.std.specs.Prelude.{All, AllPairs}
use Rattle.sial_syntax.specs.declared.access.Access.{Access}
use Rattle.sial_syntax.specs.declared.access.Access.TheVariants.{Read, Add, Max, Store}
use Rattle.sial_syntax.specs.declared.access.Class.{Class}
use Rattle.sial_meaning.specs.Access.{Touch, may_stand}
use Rattle.sial_meaning.specs.Accepted.{StandsWith, IsUniform, AllUniform, Counted, counted, count_at, is_at, is_read, is_add, is_max, is_store}
use Rattle.sial_meaning.specs.AcceptedLaws.{PairsSayCounts}
use Rattle.sial_meaning.proofs.AcceptedInOtherWords.Pairs.{never, at-is, is-at, place-from, place-at, count-no, count-yes, count-more, count-none, pairs-head, pairs-tail, count-some, At}

-- kinds that may stand together are one
pub only : (k x : Access) → may_stand k x ≡ true → x ≡ k
only Read Read stands = refl
only Add Add stands = refl
only Max Max stands = refl
only Read Add stands = absurd (never stands)
only Read Max stands = absurd (never stands)
only Read Store stands = absurd (never stands)
only Add Read stands = absurd (never stands)
only Add Max stands = absurd (never stands)
only Add Store stands = absurd (never stands)
only Max Read stands = absurd (never stands)
only Max Add stands = absurd (never stands)
only Max Store stands = absurd (never stands)
only Store Read stands = absurd (never stands)
only Store Add stands = absurd (never stands)
only Store Max stands = absurd (never stands)
only Store Store stands = absurd (never stands)

-- nothing stands with a store
alone : (x : Access) → may_stand Store x ≡ true → ⊥
alone Read stands = never stands
alone Add stands = never stands
alone Max stands = never stands
alone Store stands = never stands

-- fewer accesses are as uniform
none-or-one : (n : ℕ) → n ≤ 1 → (n ≡ 0) ⊎ (n ≡ 1)
none-or-one zero few = inl refl
none-or-one (suc n) few = inr (omega (arith, few))

fewer-stores : (c d : Counted) → d.reads ≤ c.reads → d.adds ≤ c.adds → d.maxes ≤ c.maxes → c.reads + (c.adds + c.maxes) ≡ 0 → (d.stores ≡ 0) ⊎ (d.stores ≡ 1) → IsUniform d
fewer-stores c d r a m zero-others (inl none) = inl (omega (arith, a, m, zero-others, none))
fewer-stores c d r a m zero-others (inr one) = inr (inr (inr (omega (arith, r, a, m, zero-others), one)))

uniform-fewer : (c d : Counted) → d.reads ≤ c.reads → d.adds ≤ c.adds → d.maxes ≤ c.maxes → d.stores ≤ c.stores → IsUniform c → IsUniform d
uniform-fewer c d r a m s (inl none) = inl (omega (arith, r, a, m, s, none))
uniform-fewer c d r a m s (inr (inl none)) = inr (inl (omega (arith, r, a, m, s, none)))
uniform-fewer c d r a m s (inr (inr (inl none))) = inr (inr (inl (omega (arith, r, a, m, s, none))))
uniform-fewer c d r a m s (inr (inr (inr one))) =
    let z = one.0 in
    let o = one.1 in
    fewer-stores c d r a m z (none-or-one d.stores (omega (arith, s, o)))

-- an access is at a place, or isn't counted there
here-or-not : (class : Class) (epoch block : ℕ) (t : Touch) → At class epoch block t ⊎ ((kind : Access → Bool) → is_at class epoch block kind t ≡ false)
here-or-not class epoch block t =
    elim (is_at class epoch block (λ k. true) t) as (λ b. is_at class epoch block (λ k. true) t ≡ b → At class epoch block t ⊎ ((kind : Access → Bool) → is_at class epoch block kind t ≡ false)) [
      | true ↦ λ holds. inl (at-is class epoch block (λ k. true) t holds).0
      | false ↦ λ fails. inr (λ kind. false_from_ne_true (is_at class epoch block kind t) (λ holds. never (sym fails ∙ is-at class epoch block (λ k. true) t (at-is class epoch block kind t holds).0 refl)))
    ] refl

-- none of the later accesses at a place passes a test that no kind beside the first's passes
none-later : (class : Class) (epoch block : ℕ) (t : Touch) (ts : List Touch) → At class epoch block t → All (StandsWith t) ts → (kind : Access → Bool) → ((x : Access) → may_stand t.kind x ≡ true → kind x ≡ false) → count_at class epoch block kind ts ≡ 0
none-later class epoch block t ts at stands kind other =
    count-none (is_at class epoch block kind) ts (λ k d below. false_from_ne_true (is_at class epoch block kind (slice_index_or ts k d)) (λ holds.
    never (sym (other (slice_index_or ts k d).kind (stands k d below (place-from class epoch block t (slice_index_or ts k d) at (at-is class epoch block kind (slice_index_or ts k d) holds).0)))
    ∙ (at-is class epoch block kind (slice_index_or ts k d) holds).1)))

-- an access that fails the test isn't counted
not-counted : (class : Class) (epoch block : ℕ) (t : Touch) (ts : List Touch) (kind : Access → Bool) → kind t.kind ≡ false → count_at class epoch block kind (t ∷ ts) ≡ count_at class epoch block kind ts
not-counted class epoch block t ts kind fails =
    count-no (is_at class epoch block kind) t ts (false_from_ne_true (is_at class epoch block kind t) (λ holds. never (sym fails ∙ (at-is class epoch block kind t holds).1)))

-- the counts where the first access is at the place
none-of : (class : Class) (epoch block : ℕ) (t : Touch) (ts : List Touch) → At class epoch block t → All (StandsWith t) ts → (k : Access) → t.kind ≡ k → (kind : Access → Bool) → kind k ≡ false → count_at class epoch block kind (t ∷ ts) ≡ 0
none-of class epoch block t ts at stands k is kind fails =
    not-counted class epoch block t ts kind (ap kind is ∙ fails)
    ∙ none-later class epoch block t ts at stands kind (λ x may. ap kind (only k x (ap (λ y. may_stand y x) (sym is) ∙ may)) ∙ fails)

uniform-here : (class : Class) (epoch block : ℕ) (t : Touch) (ts : List Touch) → At class epoch block t → All (StandsWith t) ts → (k : Access) → t.kind ≡ k → IsUniform (counted class epoch block (t ∷ ts))
uniform-here class epoch block t ts at stands Read is =
    let a = none-of class epoch block t ts at stands Read is is_add refl in
    let m = none-of class epoch block t ts at stands Read is is_max refl in
    let s = none-of class epoch block t ts at stands Read is is_store refl in
    inl (omega (arith, a, m, s))
uniform-here class epoch block t ts at stands Add is =
    let r = none-of class epoch block t ts at stands Add is is_read refl in
    let m = none-of class epoch block t ts at stands Add is is_max refl in
    let s = none-of class epoch block t ts at stands Add is is_store refl in
    inr (inl (omega (arith, r, m, s)))
uniform-here class epoch block t ts at stands Max is =
    let r = none-of class epoch block t ts at stands Max is is_read refl in
    let a = none-of class epoch block t ts at stands Max is is_add refl in
    let s = none-of class epoch block t ts at stands Max is is_store refl in
    inr (inr (inl (omega (arith, r, a, s))))
uniform-here class epoch block t ts at stands Store is =
    let r = none-of class epoch block t ts at stands Store is is_read refl in
    let a = none-of class epoch block t ts at stands Store is is_add refl in
    let m = none-of class epoch block t ts at stands Store is is_max refl in
    let none = none-later class epoch block t ts at stands is_store (λ x may. absurd (alone x (ap (λ y. may_stand y x) (sym is) ∙ may))) in
    let one = count-yes (is_at class epoch block is_store) t ts (is-at class epoch block is_store t at (ap is_store is)) in
    inr (inr (inr (omega (arith, r, a, m), omega (arith, none, one))))

-- pairs that stand have uniform counts
uniform-from : (log : List Touch) → AllPairs StandsWith log → AllUniform log
uniform-from [] pairs class epoch block = inl refl
uniform-from (t ∷ ts) pairs class epoch block =
    elim (here-or-not class epoch block t) as (λ x. IsUniform (counted class epoch block (t ∷ ts))) [
      | inl at ↦ uniform-here class epoch block t ts at (pairs-head StandsWith t ts pairs) t.kind refl
      | inr fails ↦
          let r = count-no (is_at class epoch block is_read) t ts (fails is_read) in
          let a = count-no (is_at class epoch block is_add) t ts (fails is_add) in
          let m = count-no (is_at class epoch block is_max) t ts (fails is_max) in
          let s = count-no (is_at class epoch block is_store) t ts (fails is_store) in
          uniform-fewer (counted class epoch block ts) (counted class epoch block (t ∷ ts)) (omega (arith, r)) (omega (arith, a)) (omega (arith, m)) (omega (arith, s))
          (uniform-from ts (pairs-tail StandsWith t ts pairs) class epoch block)
    ]

-- the count of a kind
count_of : Counted → Access → ℕ
count_of c Read = c.reads
count_of c Add = c.adds
count_of c Max = c.maxes
count_of c Store = c.stores

-- the kind that uniform counts allow
reads-alone : (c : Counted) → (c.adds + (c.maxes + c.stores)) ≡ 0 → (k : Access) → 1 ≤ count_of c k → k ≡ Read
unfolding count_of
reads-alone c none Read some = refl
reads-alone c none Add some = absurd (omega (arith, none, some))
reads-alone c none Max some = absurd (omega (arith, none, some))
reads-alone c none Store some = absurd (omega (arith, none, some))

adds-alone : (c : Counted) → (c.reads + (c.maxes + c.stores)) ≡ 0 → (k : Access) → 1 ≤ count_of c k → k ≡ Add
unfolding count_of
adds-alone c none Add some = refl
adds-alone c none Read some = absurd (omega (arith, none, some))
adds-alone c none Max some = absurd (omega (arith, none, some))
adds-alone c none Store some = absurd (omega (arith, none, some))

maxes-alone : (c : Counted) → (c.reads + (c.adds + c.stores)) ≡ 0 → (k : Access) → 1 ≤ count_of c k → k ≡ Max
unfolding count_of
maxes-alone c none Max some = refl
maxes-alone c none Read some = absurd (omega (arith, none, some))
maxes-alone c none Add some = absurd (omega (arith, none, some))
maxes-alone c none Store some = absurd (omega (arith, none, some))

stores-alone : (c : Counted) → (c.reads + (c.adds + c.maxes)) ≡ 0 → (k : Access) → 1 ≤ count_of c k → k ≡ Store
unfolding count_of
stores-alone c none Store some = refl
stores-alone c none Read some = absurd (omega (arith, none, some))
stores-alone c none Add some = absurd (omega (arith, none, some))
stores-alone c none Max some = absurd (omega (arith, none, some))

stand-as : (k a b : Access) → a ≡ k → b ≡ k → may_stand k k ≡ true → may_stand a b ≡ true
stand-as k a b first second stands = ap (λ x. may_stand x b) first ∙ (ap (may_stand k) second ∙ stands)

-- two kinds that uniform counts have may stand together
uniform-stands : (c : Counted) → IsUniform c → (a b : Access) → 1 ≤ count_of c a → 1 ≤ count_of c b → (a ≡ Store → b ≡ Store → 2 ≤ c.stores) → may_stand a b ≡ true
uniform-stands c (inl none) a b first second two = stand-as Read a b (reads-alone c none a first) (reads-alone c none b second) refl
uniform-stands c (inr (inl none)) a b first second two = stand-as Add a b (adds-alone c none a first) (adds-alone c none b second) refl
uniform-stands c (inr (inr (inl none))) a b first second two = stand-as Max a b (maxes-alone c none a first) (maxes-alone c none b second) refl
uniform-stands c (inr (inr (inr one))) a b first second two =
    let more = two (stores-alone c one.0 a first) (stores-alone c one.0 b second) in
    let o = one.1 in
    absurd (omega (arith, more, o))

-- the test of a kind
test_of : Access → Access → Bool
test_of Read = is_read
test_of Add = is_add
test_of Max = is_max
test_of Store = is_store

test-self : (k : Access) → test_of k k ≡ true
unfolding test_of
test-self Read = refl
test-self Add = refl
test-self Max = refl
test-self Store = refl

count-is : (class : Class) (epoch block : ℕ) (log : List Touch) (k : Access) → count_of (counted class epoch block log) k ≡ count_at class epoch block (test_of k) log
unfolding count_of test_of
count-is class epoch block log Read = refl
count-is class epoch block log Add = refl
count-is class epoch block log Max = refl
count-is class epoch block log Store = refl

-- an access at its own place
pub at-self : (t : Touch) → At t.class t.epoch t.block t
at-self t = record { class_is = refl; epoch_is = refl; block_is = refl }

-- where counts are uniform the first access stands with each later one
stands-later : (t : Touch) (ts : List Touch) → AllUniform (t ∷ ts) → All (StandsWith t) ts
stands-later t ts uniform = λ k d below same.
    let u = slice_index_or ts k d in
    let at-u = place-at t u same in
    let own : count_at t.class t.epoch t.block (test_of t.kind) (t ∷ ts) ≡ 1 + count_at t.class t.epoch t.block (test_of t.kind) ts =
    count-yes (is_at t.class t.epoch t.block (test_of t.kind)) t ts (is-at t.class t.epoch t.block (test_of t.kind) t (at-self t) (test-self t.kind)) in
    let later : 1 ≤ count_at t.class t.epoch t.block (test_of u.kind) ts =
    count-some (is_at t.class t.epoch t.block (test_of u.kind)) ts k d below (is-at t.class t.epoch t.block (test_of u.kind) u at-u (test-self u.kind)) in
    let more = count-more (is_at t.class t.epoch t.block (test_of u.kind)) t ts in
    let is-t = count-is t.class t.epoch t.block (t ∷ ts) t.kind in
    let is-u = count-is t.class t.epoch t.block (t ∷ ts) u.kind in
    uniform-stands (counted t.class t.epoch t.block (t ∷ ts)) (uniform t.class t.epoch t.block) t.kind u.kind (omega (arith, own, is-t)) (omega (arith, later, more, is-u))
    (λ t-stores u-stores.
    let one = count-yes (is_at t.class t.epoch t.block is_store) t ts (is-at t.class t.epoch t.block is_store t (at-self t) (ap is_store t-stores)) in
    let some = count-some (is_at t.class t.epoch t.block is_store) ts k d below (is-at t.class t.epoch t.block is_store u at-u (ap is_store u-stores)) in
    omega (arith, one, some))

-- uniform counts have pairs that stand
pairs-from : (log : List Touch) → AllUniform log → AllPairs StandsWith log
pairs-from [] uniform = λ i j d before below. absurd (omega (arith, below))
pairs-from (t ∷ ts) uniform =
    AllPairs-cons StandsWith t ts (stands-later t ts uniform)
    (pairs-from ts (λ class epoch block. uniform-fewer (counted class epoch block (t ∷ ts)) (counted class epoch block ts)
    (count-more (is_at class epoch block is_read) t ts) (count-more (is_at class epoch block is_add) t ts)
    (count-more (is_at class epoch block is_max) t ts) (count-more (is_at class epoch block is_store) t ts) (uniform class epoch block)))

-- pairs and counts say the same
pub pairs-say-counts : PairsSayCounts
pairs-say-counts log = (uniform-from log, pairs-from log)
