-- Loops and pardos, turn by turn.
use Rattle.std.proofs.Common.{◌≡◌, ℕ, zero, suc, ◌+◌, ◌<◌, List, [], ◌∷◌, map, Bool, true, false, ◌||◌, eqb, Ok, Err, length, refl, sym, ap, ◌∙◌, subst, arith}
use Rattle.std.proofs.lemmas.Bool.{lt-ltb, le-ltb}
use Rattle.std.proofs.lemmas.List.{length-set, get_or-set_same}
use Rattle.std.proofs.Math.Dec.{eqb_refl}
use Rattle.sial_syntax.proofs.BoxLemmas.{tuples-are}
use Rattle.sial_syntax.specs.Agreeing.{contains}
use Rattle.sial_syntax.specs.Boxes.{numbers_from, volume, tuples, tuple_at}
use Rattle.sial_syntax.specs.Numbering.{size}
use Rattle.sial_syntax.specs.Spaces.{box_of}
use Rattle.sial_syntax.specs.Tree.{Block, End, Then}
use Rattle.sial_meaning.specs.LocalStep.{Answer}
use Rattle.sial_meaning.specs.Meaning.{chosen, over, on_own, then_own, iteration, unless_left_out, all_met, taken_up, left}
use Rattle.sial_meaning.specs.Own.{Own, value_of, bound}
use Rattle.sial_meaning.specs.Control.{entered, turned, branched, begun, went_within}
use Rattle.sial_meaning.specs.Rest.{LoopAt, PardoAt, Rest, Turn, Within, depth, push}
use Rattle.sial_meaning.specs.Step.{moved, led, done}
use Rattle.sial_meaning.specs.Setting.{Setting}
use Rattle.sial_meaning.specs.State.{State, with_own}
use Rattle.sial_meaning.specs.Statement.{Outcome, Went, Stopped, after, Reading}
use Rattle.sial_meaning.proofs.StepsReachTheFold.Steps.{Comes, Leads, leads_step, leads_after, comes_here, comes_moved}
use Rattle.sial_meaning.proofs.AcceptedInOtherWords.Pairs.{true-of}

-- what follows what follows
after_after : (o : Outcome) (f h : State → Outcome) → after (after o f) h ≡ after o (λ s. after (f s) h)
after_after (Went s) f h = refl
after_after (Stopped trap s) f h = refl

-- what follows is the same
pub same_after : (o : Outcome) (f h : State → Outcome) → ((s : State) → f s ≡ h s) → after o f ≡ after o h
same_after (Went s) f h e = e s
same_after (Stopped trap s) f h e = refl

-- one thing after another for each of the images
over_map : {X Y : Type 0} (f : X → Y) (xs : List X) (turn : Y → State → Outcome) (s : State) → over (map f xs) turn s ≡ over xs (λ x. turn (f x)) s
over_map f [] turn s = refl
over_map f (x ∷ xs) turn s = same_after (turn (f x) s) (over (map f xs) turn) (over xs (λ y. turn (f y))) (over_map f xs turn)

-- statements before the rest call no procedure
pub depth_pushed : (at : ℕ) (body : Block) (rest : Rest) → depth (push at body rest) ≡ depth rest
depth_pushed at End rest = refl
depth_pushed at (Then line form more) rest = depth_pushed (at + size form) more rest

-- an index is among those that begin with it
pub first_among : (index : ℕ) (indices : List ℕ) → contains (index ∷ indices) index ≡ true
first_among index indices = ap (λ b. b || contains indices index) (true-of (eqb index index) (eqb_refl index))

-- the fold over a box goes by the places in it
pub over_box : (dims : List ℕ) (turn : List ℕ → State → Outcome) (s : State) → over (tuples dims) turn s ≡ over (numbers_from 0 (volume dims)) (λ j. turn (tuple_at dims j)) s
over_box dims turn s = ap (λ xs. over xs turn s) (tuples-are dims) ∙ over_map (tuple_at dims) (numbers_from 0 (volume dims)) turn s

-- the number of an index that was bound to it
pub bound_value : (index k : ℕ) (a : Own) → index < length a.values → value_of (bound index k a) index ≡ k
bound_value index k a within = get_or-set_same a.values index k 0 within

module _ (reading : Reading) (g : Setting) where
  -- one of two ways
  pub comes_branched : (line : ℕ) (answer : Answer Bool) (met unmet to : Rest) (f h : State → Outcome) (s : State) → Leads reading g met s (done (f s) to) → Leads reading g unmet s (done (h s) to) → Comes reading g (led s (branched line answer met unmet s.own)) (done (chosen line answer f h s) to)
  comes_branched line (Ok true) met unmet to f h s k l = comes_moved reading g met s (done (f s) to) k
  comes_branched line (Ok false) met unmet to f h s k l = comes_moved reading g unmet s (done (h s) to) l
  comes_branched line (Err kind) met unmet to f h s k l = comes_here reading g (led s (branched line (Err kind) met unmet s.own))

  module _ (loop : LoopAt) (last : ℕ) (rest : Rest) (body : State → Outcome) (len : ℕ) (within : loop.index < len) (keeps : (s s1 : State) → length s.own.values ≡ len → body s ≡ Went s1 → (length s1.own.values ≡ len) × (value_of s1.own loop.index ≡ value_of s.own loop.index)) (leads : (s : State) → length s.own.values ≡ len → Leads reading g (push (loop.head + 1) loop.body (Turn loop last rest)) s (done (body s) (Turn loop last rest))) where
    -- a loop from this number on, so many more behind it
    leads_first : (n k : ℕ) → ((t : State) → length t.own.values ≡ len → value_of t.own loop.index ≡ k → Leads reading g (Turn loop last rest) t (done (then_own (over (numbers_from (k + 1) n) (λ j u. body (on_own (bound loop.index j) u)) t) (bound loop.index 0)) rest)) → (s : State) → length s.own.values ≡ len → Leads reading g (push (loop.head + 1) loop.body (Turn loop last rest)) (on_own (bound loop.index k) s) (done (then_own (over (k ∷ numbers_from (k + 1) n) (λ j t. body (on_own (bound loop.index j) t)) s) (bound loop.index 0)) rest)
    leads_first n k others s e =
        subst
        (λ (o : Outcome). Leads reading g (push (loop.head + 1) loop.body (Turn loop last rest)) (on_own (bound loop.index k) s) (done o rest))
        (sym (after_after (body (on_own (bound loop.index k) s)) (over (numbers_from (k + 1) n) (λ j t. body (on_own (bound loop.index j) t))) (λ t. Went (on_own (bound loop.index 0) t))))
        (leads_after
        reading
        g
        (body (on_own (bound loop.index k) s))
        (λ t. then_own (over (numbers_from (k + 1) n) (λ j u. body (on_own (bound loop.index j) u)) t) (bound loop.index 0))
        (push (loop.head + 1) loop.body (Turn loop last rest))
        (Turn loop last rest)
        rest
        (on_own (bound loop.index k) s)
        (leads (on_own (bound loop.index k) s) (length-set s.own.values loop.index k ∙ e))
        (λ t went.
        let kept = keeps (on_own (bound loop.index k) s) t (length-set s.own.values loop.index k ∙ e) went in
        let inside : loop.index < length s.own.values = omega (arith, within, e) in
        others t kept.0 (kept.1 ∙ bound_value loop.index k s.own inside)))

    -- the end of a loop's body whose loop.index has this number
    leads_turn : (n k : ℕ) → k + n ≡ last → (t : State) → length t.own.values ≡ len → value_of t.own loop.index ≡ k → Leads reading g (Turn loop last rest) t (done (then_own (over (numbers_from (k + 1) n) (λ j u. body (on_own (bound loop.index j) u)) t) (bound loop.index 0)) rest)
    leads_turn zero k ends t e is =
        leads_step
        reading
        g
        (Turn loop last rest)
        t
        (moved rest (on_own (bound loop.index 0) t))
        (subst
        (λ (b : Bool). Comes reading g (led t (turned b loop last rest t.own)) (moved rest (on_own (bound loop.index 0) t)))
        (sym (le-ltb (value_of t.own loop.index) last (omega (arith, ends, is))))
        (comes_here reading g (moved rest (on_own (bound loop.index 0) t))))
    leads_turn (suc n) k ends t e is =
        leads_step
        reading
        g
        (Turn loop last rest)
        t
        (done (then_own (over ((k + 1) ∷ numbers_from (k + 1 + 1) n) (λ j u. body (on_own (bound loop.index j) u)) t) (bound loop.index 0)) rest)
        (subst
        (λ (b : Bool). Comes reading g (led t (turned b loop last rest t.own)) (done (then_own (over ((k + 1) ∷ numbers_from (k + 1 + 1) n) (λ j u. body (on_own (bound loop.index j) u)) t) (bound loop.index 0)) rest))
        (sym (lt-ltb (value_of t.own loop.index) last (omega (arith, ends, is))))
        (subst
        (λ (j : ℕ). Leads reading g (push (loop.head + 1) loop.body (Turn loop last rest)) (on_own (bound loop.index (j + 1)) t) (done (then_own (over ((k + 1) ∷ numbers_from (k + 1 + 1) n) (λ j u. body (on_own (bound loop.index j) u)) t) (bound loop.index 0)) rest))
        (sym is)
        (leads_first n (k + 1) (λ u f was. leads_turn n (k + 1) (omega (arith, ends)) u f was) t e)))

    -- a loop from this number on, so many more behind it
    pub leads_turns : (n k : ℕ) → k + n ≡ last → (s : State) → length s.own.values ≡ len → Leads reading g (push (loop.head + 1) loop.body (Turn loop last rest)) (on_own (bound loop.index k) s) (done (then_own (over (k ∷ numbers_from (k + 1) n) (λ j t. body (on_own (bound loop.index j) t)) s) (bound loop.index 0)) rest)
    leads_turns n k ends s e = leads_first n k (leads_turn n k ends) s e

  -- a loop as it is entered
  pub comes_entered : (loop : LoopAt) (first count : ℕ) (rest : Rest) (body : State → Outcome) (len : ℕ) → loop.index < len → ((s s1 : State) → length s.own.values ≡ len → body s ≡ Went s1 → (length s1.own.values ≡ len) × (value_of s1.own loop.index ≡ value_of s.own loop.index)) → ((last : ℕ) (s : State) → length s.own.values ≡ len → Leads reading g (push (loop.head + 1) loop.body (Turn loop last rest)) s (done (body s) (Turn loop last rest))) → (s : State) → length s.own.values ≡ len → Comes reading g (led s (entered loop first count rest s.own)) (done (then_own (over (numbers_from first count) (λ j t. body (on_own (bound loop.index j) t)) s) (bound loop.index 0)) rest)
  comes_entered loop first zero rest body len within keeps leads s e = comes_here reading g (moved rest (on_own (bound loop.index 0) s))
  comes_entered loop first (suc n) rest body len within keeps leads s e =
      comes_moved
      reading
      g
      (push (loop.head + 1) loop.body (Turn loop (first + n) rest))
      (on_own (bound loop.index first) s)
      (done (then_own (over (first ∷ numbers_from (first + 1) n) (λ j t. body (on_own (bound loop.index j) t)) s) (bound loop.index 0)) rest)
      (leads_turns loop (first + n) rest body len within keeps (leads (first + n)) n first refl s e)

  -- a pardo in progress from this number of its box on, so many in all
  module _ (pardo : PardoAt) (rest : Rest) (body : State → Outcome) (len : ℕ) (taken : (tuple : List ℕ) (s : State) → length s.own.values ≡ len → length (taken_up g pardo.indices tuple s.own).values ≡ len) (keeps : (s s1 : State) → length s.own.values ≡ len → body s ≡ Went s1 → length s1.own.values ≡ len) (leads : (number : ℕ) (s : State) → length s.own.values ≡ len → Leads reading g (push (pardo.head + 1 + length pardo.wheres) pardo.body (Within pardo number rest)) s (done (body s) (Within pardo number rest))) where
    -- a tuple that was taken up
    comes_begun : (met : Bool) (number : ℕ) (f : State → Outcome) (s : State) (own : Own) → length own.values ≡ len → ((u : State) → length u.own.values ≡ len → Leads reading g (Within pardo (number + 1) rest) u (done (f u) rest)) → Comes reading g (led s (begun met pardo number rest own)) (done (after (unless_left_out met body (with_own s own)) f) rest)
    comes_begun true number f s own e others =
        let t : State = with_own s own in
        comes_moved
        reading
        g
        (push (pardo.head + 1 + length pardo.wheres) pardo.body (Within pardo (number + 1) rest))
        t
        (done (after (body t) f) rest)
        (leads_after
        reading
        g
        (body t)
        f
        (push (pardo.head + 1 + length pardo.wheres) pardo.body (Within pardo (number + 1) rest))
        (Within pardo (number + 1) rest)
        rest
        t
        (leads (number + 1) t e)
        (λ u went. others u (keeps t u e went)))
    comes_begun false number f s own e others =
        let t : State = with_own s own in comes_moved reading g (Within pardo (number + 1) rest) t (done (f t) rest) (others t e)

    -- the tuples from this place on, so many in all
    pub leads_within : (n k : ℕ) → k + n ≡ volume (box_of g.spaces pardo.indices) → (s : State) → length s.own.values ≡ len → Leads reading g (Within pardo k rest) s (done (then_own (over (numbers_from k n) (λ j t. iteration pardo.wheres body (on_own (taken_up g pardo.indices (tuple_at (box_of g.spaces pardo.indices) j)) t)) s) (left g pardo.indices)) rest)
    leads_within zero k ends s e =
        leads_step
        reading
        g
        (Within pardo k rest)
        s
        (moved rest (on_own (left g pardo.indices) s))
        (subst
        (λ (b : Bool). Comes reading g (led s (went_within g b pardo k rest s.own)) (moved rest (on_own (left g pardo.indices) s)))
        (sym (le-ltb k (volume (box_of g.spaces pardo.indices)) (omega (arith, ends))))
        (comes_here reading g (moved rest (on_own (left g pardo.indices) s))))
    leads_within (suc n) k ends s e =
        let t : State = on_own (taken_up g pardo.indices (tuple_at (box_of g.spaces pardo.indices) k)) s in
        let others : State → Outcome = over (numbers_from (k + 1) n) (λ j u. iteration pardo.wheres body (on_own (taken_up g pardo.indices (tuple_at (box_of g.spaces pardo.indices) j)) u)) in
        leads_step
        reading
        g
        (Within pardo k rest)
        s
        (done (then_own (after (iteration pardo.wheres body t) others) (left g pardo.indices)) rest)
        (subst
        (λ (b : Bool). Comes reading g (led s (went_within g b pardo k rest s.own)) (done (then_own (after (iteration pardo.wheres body t) others) (left g pardo.indices)) rest))
        (sym (lt-ltb k (volume (box_of g.spaces pardo.indices)) (omega (arith, ends))))
        (subst
        (λ (o : Outcome). Comes reading g (led s (begun (all_met t.own pardo.wheres) pardo k rest t.own)) (done o rest))
        (sym (after_after (iteration pardo.wheres body t) others (λ u. Went (on_own (left g pardo.indices) u))))
        (comes_begun
        (all_met t.own pardo.wheres)
        k
        (λ u. then_own (others u) (left g pardo.indices))
        s
        t.own
        (taken (tuple_at (box_of g.spaces pardo.indices) k) s e)
        (λ u f. leads_within n (k + 1) (omega (arith, ends)) u f))))
