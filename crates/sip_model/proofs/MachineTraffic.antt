-- What each kind of entry does to the traffic of the machine.
use Rattle.std.proofs.Common.{◌≡◌, ℕ, zero, suc, ◌+◌, ◌<◌, ◌≤◌, ⊎_elim, Bool, true, false, List, [], ◌∷◌, ◌++◌, Option, Some, None, refl, sym, ap, ◌∙◌, subst, arith}
use Rattle.std.specs.Prelude.{map, length, replicate, slice_set, slice_index_or, ◌==◌, ◌&&◌, ◌||◌}
use Rattle.std.proofs.lemmas.Bool.{eq-eqb, ne_eqb, cases_eq}
use Rattle.std.proofs.lemmas.List.{length-set, length-replicate, get_or-set_other}
use Rattle.sial_syntax.specs.declared.access.Class.{Class}
use Rattle.sial_syntax.specs.Boxes.{numbers_from}
use Rattle.sial_meaning.specs.Setting.{Setting}
use Rattle.sip_model.specs.declared.message.Body.{Body}
use Rattle.sip_model.specs.declared.message.Body.TheVariants as body
use Rattle.sip_model.specs.declared.options.Options.{Options}
use Rattle.sip_model.specs.Delivering.{to_all}
use Rattle.sip_model.specs.Doing.{Acted}
use Rattle.sip_model.specs.Flight.{Flying, bare}
use Rattle.sip_model.specs.Machines.{Machine, start_machine, worker_at, posting}
use Rattle.sip_model.specs.Masters.{Master, Arrival, arrival_at, with_arrival, is_there, is_met, after_meeting}
use Rattle.sip_model.specs.Owners.{Accessing}
use Rattle.sip_model.specs.Performing.{acted_in}
use Rattle.sip_model.specs.Steps.{flying, Accesses, reads, writes, Meets, arriving, contributing}
use Rattle.sip_model.specs.Traffic.{is_control, is_control_of}
use Rattle.sip_model.specs.Workers.{Worker, start_worker}
use Rattle.sip_model.proofs.CountLemmas.{one_if, counted, counted-append, counted-mid, one-if-most, each-set, replicated, all-pass}
use Rattle.sip_model.proofs.WorkerTraffic.{busy, Bounded, ActFacts, HearFacts}

-- 1 where a worker has arrived and isn't answered
abbrev pub held : Option Arrival → ℕ
held None = 0
held (Some arrival) = 1

-- the messages of control of a worker
abbrev pub control : ℕ → List Flying → ℕ
control w flight = counted (is_control_of w) flight

-- what is kept: the bounds on each worker, and that its messages of control and its arrival together are one, and only while it waits
pub record Traffic (g : Setting) (o : Options) (s : Machine) : Type 0 where
  pub many : length s.workers ≡ o.workers
  pub seats : length s.master.arrived ≡ o.workers
  pub bounds : (w : ℕ) → w < o.workers → Bounded o (worker_at g s w)
  pub waiting : (w : ℕ) → w < o.workers → control w s.flight + held (arrival_at s.master w) ≤ busy (worker_at g s w).waits

-- the beginning
pub traffic-begins : (g : Setting) (o : Options) → Traffic g o (start_machine g o)
traffic-begins g o = record {
  many = length-replicate o.workers (start_worker g);
  seats = length-replicate o.workers None;
  bounds = λ w l. subst (Bounded o) (sym (replicated o.workers w (start_worker g))) (record { cache = omega arith; puts = omega arith });
  waiting =
      λ w l. let k : held (slice_index_or (replicate o.workers None) w None) ≡ 0 = ap held (replicated o.workers w None) in omega arith;
}

-- of messages to workers in a row, none is to one before them
none-before : (b : Body) (v : ℕ) → v < 255 → (first n : ℕ) → v < first → control v (map (λ w. bare 255 w b) (numbers_from first n)) ≡ 0
none-before b v l first zero k = refl
none-before b v l first (suc n) k =
    let r = none-before b v l (first + 1) n (omega arith) in
    rw (ne_eqb 255 v (λ q. absurd (omega arith)), ne_eqb first v (λ q. absurd (omega arith))) (go (is_control b) r)
  where
    go : (c : Bool) → control v (map (λ w. bare 255 w b) (numbers_from (first + 1) n)) ≡ 0
        → one_if (c && false) + control v (map (λ w. bare 255 w b) (numbers_from (first + 1) n)) ≡ 0
    go true r = omega arith
    go false r = omega arith

-- and at most one is to each
all-once : (b : Body) (v : ℕ) → v < 255 → (first n : ℕ) → control v (map (λ w. bare 255 w b) (numbers_from first n)) ≤ 1
all-once b v l first zero = omega arith
all-once b v l first (suc n) =
    ⊎_elim
    (λ q. let r = none-before b v l (first + 1) n (omega arith) in let k = one-if-most (is_control_of v (bare 255 first b)) in omega arith)
    (λ ne.
    let r = all-once b v l (first + 1) n in
    let z : one_if (is_control_of v (bare 255 first b)) ≡ 0 = rw (ne_eqb 255 v (λ q. absurd (omega arith)), ne_eqb first v ne) (go (is_control b)) in
    omega arith)
    (cases_eq first v)
  where
    go : (c : Bool) → one_if (c && false) ≡ 0
    go true = refl
    go false = refl

module _ (g : Setting) (o : Options) (few : o.workers < 256) (s : Machine) (t : Traffic g o s) where
  -- a worker acts
  pub acts-keep : (w : ℕ) (a : Acted) → w < o.workers → ActFacts o w (worker_at g s w) a → Traffic g o (acted_in g o s w a)
  acts-keep w a l f = record {
    many = length-set s.workers w a.to ∙ t.many;
    seats = t.seats;
    bounds = λ v k. each-set (λ n x. Bounded o x) s.workers w a.to (start_worker g) (f.bounds (t.bounds w l)) (λ u ne m. t.bounds u (subst (λ n. u < n) t.many m)) v (subst (λ n. v < n) (sym t.many) k);
    waiting = λ v k.
        each-set
        (λ n x. control n (s.flight ++ a.posts) + held (arrival_at s.master n) ≤ busy x.waits)
        s.workers w a.to (start_worker g)
        (let e = counted-append (is_control_of w) s.flight a.posts in
        let q = t.waiting w l in
        let p = f.free in
        let r = f.own in omega arith)
        (λ u ne m.
        let e = counted-append (is_control_of u) s.flight a.posts in
        let n : u < o.workers = subst (λ n. u < n) t.many m in
        let q = t.waiting u n in
        let r = f.others u ne (omega arith) in omega arith)
        v (subst (λ n. v < n) (sym t.many) k);
  }

  -- the messages of control after one was taken out and some were posted
  taken : (v : ℕ) (xs : List Flying) (f : Flying) (ys posts : List Flying) → s.flight ≡ xs ++ f ∷ ys
      → control v ((xs ++ ys) ++ posts) + one_if (is_control_of v f) ≡ control v s.flight + control v posts
  taken v xs f ys posts e =
      let a = counted-append (is_control_of v) (xs ++ ys) posts in
      let m = counted-mid (is_control_of v) xs f ys in
      let n : control v s.flight ≡ control v (xs ++ f ∷ ys) = ap (control v) e in
      omega arith

  -- an owner answers an access with a message that isn't of control
  answer-none : (v : ℕ) (f : Flying) (class : Class) (block : ℕ) (access : Accessing) (answer : List ℕ → Flying)
      → Accesses f class block access answer → (old : List ℕ)
      → control v (answer old ∷ []) ≡ 0
  answer-none v f class block _ _ (reads _ _ epoch line e) old = refl
  answer-none v f class block _ _ (writes _ _ epoch line how put origin e) old = refl

  -- a machine whose workers and master are the same, and whose messages of control are no more
  pub same-keep : (r : Machine) → r.workers ≡ s.workers → r.master.arrived ≡ s.master.arrived
      → ((v : ℕ) → v < o.workers → control v r.flight ≤ control v s.flight) → Traffic g o r
  same-keep r w m less = record {
    many = ap length w ∙ t.many;
    seats = ap length m ∙ t.seats;
    bounds = λ v k. subst (λ ws. Bounded o (slice_index_or ws v (start_worker g))) (sym w) (t.bounds v k);
    waiting = λ v k.
        let q = t.waiting v k in
        let l = less v k in
        let a : held (arrival_at r.master v) ≡ held (arrival_at s.master v) = ap (λ z. held (slice_index_or z v None)) m in
        let b : busy (worker_at g r v).waits ≡ busy (worker_at g s v).waits = ap (λ z. busy (slice_index_or z v (start_worker g)).waits) w in
        omega arith;
  }

  -- an owner's answer
  pub owner-less : (v : ℕ) (xs : List Flying) (f : Flying) (ys : List Flying) (class : Class) (block : ℕ) (access : Accessing) (answer : List ℕ → Flying) (old : List ℕ)
      → s.flight ≡ xs ++ f ∷ ys → Accesses f class block access answer → control v ((xs ++ ys) ++ answer old ∷ []) ≤ control v s.flight
  owner-less v xs f ys class block access answer old e a =
      let k = taken v xs f ys (answer old ∷ []) e in
      let n = answer-none v f class block access answer a old in
      omega arith

  -- a message of control to a worker is that worker's
  to-own : (f : Flying) → one_if (is_control_of f.message.to f) ≡ one_if (is_control f.message.body)
  to-own f = rw (eq-eqb f.message.to f.message.to refl) (go (is_control f.message.body) (f.message.from == f.message.to))
    where
      go : (b c : Bool) → one_if (b && (c || true)) ≡ one_if b
      go true true = refl
      go true false = refl
      go false c = refl

  -- and one from a worker
  from-own : (f : Flying) → one_if (is_control_of f.message.from f) ≡ one_if (is_control f.message.body)
  from-own f = rw (eq-eqb f.message.from f.message.from refl) (go (is_control f.message.body))
    where
      go : (b : Bool) → one_if (b && true) ≡ one_if b
      go true = refl
      go false = refl

  -- a worker hears; the homed blocks may change
  pub hears-keep : (xs : List Flying) (f : Flying) (ys : List Flying) (x : Worker) (r : Machine) → s.flight ≡ xs ++ f ∷ ys
      → HearFacts o (worker_at g s f.message.to) f.message.body x
      → r.workers ≡ slice_set s.workers f.message.to x → r.master ≡ s.master → r.flight ≡ xs ++ ys → Traffic g o r
  hears-keep xs f ys x r e h w m z = record {
    many = ap length w ∙ (length-set s.workers f.message.to x ∙ t.many);
    seats = ap (λ (n : Master). length n.arrived) m ∙ t.seats;
    bounds = λ v k.
        subst
        (λ ws. Bounded o (slice_index_or ws v (start_worker g)))
        (sym w)
        (hears-one (λ n y. Bounded o y) (λ l. h.bounds (t.bounds f.message.to l)) (λ u ne n. t.bounds u n) v k);
    waiting = λ v k.
        let q : control v (xs ++ ys) + held (arrival_at s.master v) ≤ busy (slice_index_or (slice_set s.workers f.message.to x) v (start_worker g)).waits =
        hears-one
        (λ n y. control n (xs ++ ys) + held (arrival_at s.master n) ≤ busy y.waits)
        (λ l.
        let c = counted-mid (is_control_of f.message.to) xs f ys in
        let d : control f.message.to s.flight ≡ control f.message.to (xs ++ f ∷ ys) = ap (control f.message.to) e in
        let i = to-own f in
        let j = h.waits in
        let q = t.waiting f.message.to l in
        omega arith)
        (λ u ne n.
        let c = counted-mid (is_control_of u) xs f ys in
        let d : control u s.flight ≡ control u (xs ++ f ∷ ys) = ap (control u) e in
        let q = t.waiting u n in
        omega arith)
        v k in
        let a : control v r.flight ≡ control v (xs ++ ys) = ap (control v) z in
        let b : held (arrival_at r.master v) ≡ held (arrival_at s.master v) = ap (λ (n : Master). held (arrival_at n v)) m in
        let d : busy (worker_at g r v).waits ≡ busy (slice_index_or (slice_set s.workers f.message.to x) v (start_worker g)).waits =
        ap (λ ws. busy (slice_index_or ws v (start_worker g)).waits) w in
        omega arith;
  }
    where
      hears-one : (P : ℕ → Worker → Type 0) → (f.message.to < o.workers → P f.message.to x)
          → ((u : ℕ) → (u ≡ f.message.to → ⊥) → u < o.workers → P u (worker_at g s u))
          → (v : ℕ) → v < o.workers → P v (slice_index_or (slice_set s.workers f.message.to x) v (start_worker g))
      hears-one P here others v k =
          ⊎_elim
          (λ q. each-set P s.workers f.message.to x (start_worker g) (here (subst (λ n. n < o.workers) q k)) (λ u ne m. others u ne (subst (λ n. u < n) t.many m)) v (subst (λ n. v < n) (sym t.many) k))
          (λ ne. subst (P v) (sym (get_or-set_other s.workers f.message.to v x (start_worker g) ne)) (others v ne k))
          (cases_eq v f.message.to)

  -- the master answers an Ask: its arrivals stay, and the answer is a message of control of the same worker
  pub answer-keep : (xs : List Flying) (f : Flying) (ys : List Flying) (instance place : ℕ) (b : Body) (r : Machine) → s.flight ≡ xs ++ f ∷ ys
      → f.message.body ≡ body.Ask instance place
      → r.workers ≡ s.workers → r.master.arrived ≡ s.master.arrived → r.flight ≡ (xs ++ ys) ++ bare 255 f.message.from b ∷ []
      → Traffic g o r
  answer-keep xs f ys instance place b r e is w m z = same-keep r w m less
    where
      -- the answer is no more than the Ask was
      answer-most : (v : ℕ) → v < 255 → one_if (is_control_of v (bare 255 f.message.from b)) ≤ one_if (is_control_of v f)
      answer-most v l = rw (is, ne_eqb 255 v (λ q. absurd (omega arith))) (go (is_control b) (f.message.from == v) (f.message.to == v))
        where
          go : (c d e : Bool) → one_if (c && (false || d)) ≤ one_if (true && (d || e))
          go true true e = omega arith
          go true false e = omega arith
          go false d e = omega arith

      less : (v : ℕ) → v < o.workers → control v r.flight ≤ control v s.flight
      less v l =
          let a : control v r.flight ≡ control v ((xs ++ ys) ++ bare 255 f.message.from b ∷ []) = ap (control v) z in
          let k = taken v xs f ys (bare 255 f.message.from b ∷ []) e in
          let n = answer-most v (omega arith) in
          omega arith

  -- arrivals at sync points are of control
  meets-control : (f : Flying) (m : Master) (sync place : ℕ) (answer : Body) → Meets o s.master f m sync place answer
      → is_control f.message.body ≡ true
  meets-control f _ sync place _ (arriving _ _ e) = rw e refl
  meets-control f _ sync place _ (contributing _ _ value e) = rw e refl

  -- and put the worker's arrival down
  meets-arrival : (f : Flying) (m : Master) (sync place : ℕ) (answer : Body) → Meets o s.master f m sync place answer
      → (a : Arrival) × (m ≡ with_arrival f.message.from a s.master)
  meets-arrival f _ sync place _ (arriving _ _ e) = (_, refl)
  meets-arrival f _ sync place _ (contributing _ _ value e) = (_, refl)

  module _ (xs : List Flying) (f : Flying) (ys : List Flying) (m : Master) (sync place : ℕ) (answer : Body) (e : s.flight ≡ xs ++ f ∷ ys) (a : Meets o s.master f m sync place answer) where
    -- there are as many seats as before
    met-seats : length m.arrived ≡ o.workers
    met-seats = let d = meets-arrival f m sync place answer a in ap (λ (n : Master). length n.arrived) d.1 ∙ (length-set s.master.arrived f.message.from (Some d.0) ∙ t.seats)

    -- the message that was taken out stands for the arrival
    met-waiting : (v : ℕ) → v < o.workers → control v (xs ++ ys) + held (arrival_at m v) ≤ busy (worker_at g s v).waits
    met-waiting v k =
        let d = meets-arrival f m sync place answer a in
        let c = counted-mid (is_control_of v) xs f ys in
        let n : control v s.flight ≡ control v (xs ++ f ∷ ys) = ap (control v) e in
        let q = t.waiting v k in
        ⊎_elim
        (λ p.
        let i : one_if (is_control_of v f) ≡ 1 = subst (λ u. one_if (is_control_of u f) ≡ 1) (sym p) (from-own f ∙ ap one_if (meets-control f m sync place answer a)) in
        let h : held (arrival_at m v) ≤ 1 = held-most (arrival_at m v) in
        omega arith)
        (λ ne.
        let h : held (arrival_at m v) ≡ held (arrival_at s.master v) =
        ap (λ (z : Master). held (arrival_at z v)) d.1 ∙ ap held (get_or-set_other s.master.arrived f.message.from v (Some d.0) None ne) in
        omega arith)
        (cases_eq v f.message.from)
      where
        held-most : (z : Option Arrival) → held z ≤ 1
        held-most None = omega arith
        held-most (Some z) = omega arith

    -- a worker has arrived, and not all have
    pub waits-keep : Traffic g o (record (flying (xs ++ ys) s) { master = m })
    waits-keep = record { many = t.many; seats = met-seats; bounds = t.bounds; waiting = met-waiting }

    -- all have arrived: each is answered once
    pub meets-keep : is_met o.workers sync place m ≡ true
        → Traffic g o (posting (to_all o.workers answer) (record (flying (xs ++ ys) s) { master = after_meeting o.workers m }))
    meets-keep met = record {
      many = t.many;
      seats = length-replicate o.workers None;
      bounds = t.bounds;
      waiting = λ v k.
          let c = counted-append (is_control_of v) (xs ++ ys) (to_all o.workers answer) in
          let q = met-waiting v k in
          let h : held (arrival_at m v) ≡ 1 = there (arrival_at m v) (all-pass (λ w. is_there sync place (arrival_at m w)) 0 o.workers met v (omega arith) (omega arith)) in
          let n = all-once answer v (omega arith) 0 o.workers in
          let z : held (slice_index_or (replicate o.workers None) v None) ≡ 0 = ap held (replicated o.workers v None) in
          omega arith;
    }
      where
        there : (z : Option Arrival) → is_there sync place z ≡ true → held z ≡ 1
        there None p = absurd cc
        there (Some z) p = refl
