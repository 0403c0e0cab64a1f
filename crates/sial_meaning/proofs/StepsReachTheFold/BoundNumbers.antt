-- Statements leave the numbers of the indices that are bound where they stand.
use Rattle.std.proofs.Common.{◌≡◌, ℕ, zero, suc, List, [], ◌∷◌, ◌++◌, map, Bool, true, false, ◌||◌, eqb, Ok, Err, length, slice_index_or, refl, ap, ◌∙◌, subst}
use Rattle.std.proofs.lemmas.List.{length-set, get_or-set_other}
use Rattle.sial_syntax.specs.Agreeing.{contains, share_any}
use Rattle.sial_syntax.specs.Boxes.{tuples}
use Rattle.sial_syntax.specs.Parts.{indices_bound}
use Rattle.sial_syntax.specs.Spaces.{box_of, onto_firsts}
use Rattle.sial_syntax.specs.Tree.{Block, End, Then, Plain, Do, DoIn, Pardo, If, IfElse, Call}
use Rattle.sial_syntax.specs.Visits.{visits, inner_visits}
use Rattle.sial_meaning.specs.LocalStep.{Answer}
use Rattle.sial_meaning.specs.Meaning.{block_meaning, form_meaning, calls, chosen, condition, over, on_own, then_own, iteration, unless_left_out, all_met, taken_up, left, segments_over, pieces_over}
use Rattle.sial_meaning.specs.Own.{Own, value_of, bound, all_bound, unset, with_values}
use Rattle.sial_meaning.specs.Setting.{Setting, procedure_body}
use Rattle.sial_meaning.specs.State.{State}
use Rattle.sial_meaning.specs.Statement.{Outcome, Went, Stopped, after, Reading, statement}
use Rattle.sial_meaning.proofs.StepsReachTheFold.KeptNumbers.{GoesWith, statement_goes}
use Rattle.sial_meaning.proofs.StepsReachTheFold.Rules.{Unbroken, unbroken_cons, unbroken_append, unbound_there, unbound_one}

-- there are as many index numbers as before, and these indices have the same
pub record Kept (indices : List ℕ) (a b : Own) : Type 0 where
  pub len : length b.values ≡ length a.values
  pub same : (i : ℕ) → contains indices i ≡ true → value_of b i ≡ value_of a i

-- the same after an outcome
abbrev pub GoesKept : List ℕ → Own → Outcome → Type 0
GoesKept indices a (Went s) = Kept indices a s.own
GoesKept indices a (Stopped trap s) = Unit {0}

-- all numbers the same
kept_values : (indices : List ℕ) (a b : Own) → b.values ≡ a.values → Kept indices a b
kept_values indices a b e = record { len = ap length e; same = λ i w. ap (λ values. slice_index_or values i 0) e }

-- kept, and then kept again
kept_then : (indices : List ℕ) (a b c : Own) → Kept indices a b → Kept indices b c → Kept indices a c
kept_then indices a b c k l = record { len = l.len ∙ k.len; same = λ i w. l.same i w ∙ k.same i w }

-- an outcome with the same index numbers
pub goes_values : (indices : List ℕ) (a : Own) (o : Outcome) → GoesWith a.values o → GoesKept indices a o
goes_values indices a (Went s) e = kept_values indices a s.own e
goes_values indices a (Stopped trap s) e = tt

-- an outcome from a state that had kept them
goes_from : (indices : List ℕ) (a b : Own) (o : Outcome) → Kept indices a b → GoesKept indices b o → GoesKept indices a o
goes_from indices a b (Went s) k l = kept_then indices a b s.own k l
goes_from indices a b (Stopped trap s) k l = tt

-- one thing after another
goes_after : (indices : List ℕ) (a : Own) (o : Outcome) (f : State → Outcome) → GoesKept indices a o → ((s : State) → GoesKept indices s.own (f s)) → GoesKept indices a (after o f)
goes_after indices a (Went s) f k l = goes_from indices a s.own (f s) k (l s)
goes_after indices a (Stopped trap s) f k l = tt

-- one thing after another for each number
goes_over : {X : Type 0} (indices : List ℕ) (xs : List X) (turn : X → State → Outcome) → ((x : X) (s : State) → GoesKept indices s.own (turn x s)) → (s : State) → GoesKept indices s.own (over xs turn s)
goes_over indices [] turn h s = kept_values indices s.own s.own refl
goes_over indices (x ∷ xs) turn h s = goes_after indices s.own (turn x s) (over xs turn) (h x s) (goes_over indices xs turn h)

-- one of two ways
goes_chosen : (indices : List ℕ) (line : ℕ) (answer : Answer Bool) (met unmet : State → Outcome) (s : State) → GoesKept indices s.own (met s) → GoesKept indices s.own (unmet s) → GoesKept indices s.own (chosen line answer met unmet s)
goes_chosen indices line (Ok true) met unmet s k l = k
goes_chosen indices line (Ok false) met unmet s k l = l
goes_chosen indices line (Err kind) met unmet s k l = tt

-- a body that may be left out
goes_unless : (indices : List ℕ) (met : Bool) (body : State → Outcome) (s : State) → GoesKept indices s.own (body s) → GoesKept indices s.own (unless_left_out met body s)
goes_unless indices true body s k = k
goes_unless indices false body s k = kept_values indices s.own s.own refl

-- fewer indices
goes_fewer : (more indices : List ℕ) (a : Own) (o : Outcome) → ((i : ℕ) → contains indices i ≡ true → contains more i ≡ true) → GoesKept more a o → GoesKept indices a o
goes_fewer more indices a (Went s) h k = record { len = k.len; same = λ i w. k.same i (h i w) }
goes_fewer more indices a (Stopped trap s) h k = tt

-- one of two tests passes where the second does
true_or : (a b : Bool) → b ≡ true → (a || b) ≡ true
true_or true b e = refl
true_or false b e = e

-- an index among these is among more
among_more : (more indices : List ℕ) (i : ℕ) → contains indices i ≡ true → contains (more ++ indices) i ≡ true
among_more [] indices i e = e
among_more (x ∷ xs) indices i e = true_or (eqb x i) (contains (xs ++ indices) i) (among_more xs indices i e)

-- an index that isn't among these is bound
pub kept_bound : (indices : List ℕ) (index k : ℕ) (a : Own) → contains indices index ≡ false → Kept indices a (bound index k a)
kept_bound indices index k a out = record {
  len = length-set a.values index k;
  same = λ i w. get_or-set_other a.values index i k 0 (λ e. let x : contains indices i ≡ false = ap (contains indices) e ∙ out in absurd cc);
}

-- several such indices are bound
kept_all_bound : (indices more tuple : List ℕ) (a : Own) → share_any more indices ≡ false → Kept indices a (all_bound more tuple a)
kept_all_bound indices [] tuple a out = kept_values indices a a refl
kept_all_bound indices (i ∷ is) [] a out = kept_values indices a a refl
kept_all_bound indices (i ∷ is) (n ∷ ns) a out =
    let one = unbound_one indices i is out in
    kept_then indices a (bound i n a) (all_bound is ns (bound i n a)) (kept_bound indices i n a one.0) (kept_all_bound indices is ns (bound i n a) one.1)

-- there are as many index numbers as before
pub all_bound_len : (more tuple : List ℕ) (a : Own) → length (all_bound more tuple a).values ≡ length a.values
all_bound_len [] tuple a = refl
all_bound_len (i ∷ is) [] a = refl
all_bound_len (i ∷ is) (n ∷ ns) a = all_bound_len is ns (bound i n a) ∙ length-set a.values i n

-- what an outcome without a trap leaves
pub kept_went : (indices : List ℕ) (a : Own) (o : Outcome) (s : State) → GoesKept indices a o → o ≡ Went s → Kept indices a s.own
kept_went indices a o s k went = subst (λ (x : Outcome). GoesKept indices a x) went k

-- they are bound as the worker's temps and private scalars are unset
kept_unset : (g : Setting) (indices more tuple : List ℕ) (a : Own) → share_any more indices ≡ false → Kept indices a (all_bound more tuple (unset g a))
kept_unset g indices more tuple a out =
    kept_then indices a (unset g a) (all_bound more tuple (unset g a)) (kept_values indices a (unset g a) refl) (kept_all_bound indices more tuple (unset g a) out)

-- a loop whose index isn't among these, and whose body leaves the numbers of these and of its own
loop_kept : (indices : List ℕ) (index : ℕ) → contains indices index ≡ false → (body : State → Outcome) → ((s : State) → GoesKept (index ∷ indices) s.own (body s)) → (numbers : List ℕ) (s : State) → GoesKept indices s.own (then_own (over numbers (λ k t. body (on_own (bound index k) t)) s) (bound index 0))
loop_kept indices index out body h numbers s =
    goes_after
    indices
    s.own
    (over numbers (λ k t. body (on_own (bound index k) t)) s)
    (λ t. Went (on_own (bound index 0) t))
    (goes_over
    indices
    numbers
    (λ k t. body (on_own (bound index k) t))
    (λ k t.
    goes_from
    indices
    t.own
    (bound index k t.own)
    (body (on_own (bound index k) t))
    (kept_bound indices index k t.own out)
    (goes_fewer
    (index ∷ indices)
    indices
    (bound index k t.own)
    (body (on_own (bound index k) t))
    (among_more (index ∷ []) indices)
    (h (on_own (bound index k) t))))
    s)
    (λ t. kept_bound indices index 0 t.own out)

-- a procedure leaves all index numbers
pub calls_go : (reading : Reading) (g : Setting) (d procedure : ℕ) (s : State) → GoesWith s.own.values (calls reading g d procedure s)
calls_go reading g zero procedure s = refl
calls_go reading g (suc d) procedure s = back (block_meaning reading g (calls reading g d) (procedure_body g procedure) _)
  where
    back : (o : Outcome) → GoesWith s.own.values (then_own o (with_values s.own.values))
    back (Went t) = refl
    back (Stopped trap t) = tt

module _ (reading : Reading) (g : Setting) (call : ℕ → State → Outcome) (go : (procedure : ℕ) (s : State) → GoesWith s.own.values (call procedure s)) where
  mutual
    -- statements leave the numbers of the indices that are bound where they stand
    pub block_kept : (indices : List ℕ) (within : Bool) (body : Block) → Unbroken g.program (visits indices within body) → (s : State) → GoesKept indices s.own (block_meaning reading g call body s)
    block_kept indices within End e s = kept_values indices s.own s.own refl
    block_kept indices within (Then line form rest) e s =
        let first = unbroken_cons g.program (record { line = line; form = form; bound = indices; within = within }) (inner_visits indices within form ++ visits indices within rest) e in
        let inner = unbroken_append g.program (inner_visits indices within form) (visits indices within rest) first.1 in
        goes_after
        indices
        s.own
        (form_meaning reading g call line form s)
        (block_meaning reading g call rest)
        (form_kept indices within line form (unbound_there g.program (record { line = line; form = form; bound = indices; within = within }) first.0) inner.0 s)
        (λ t. block_kept indices within rest inner.1 t)

    -- so does each
    pub form_kept : (indices : List ℕ) (within : Bool) (line : ℕ) (form : Plain) → share_any (indices_bound form) indices ≡ false → Unbroken g.program (inner_visits indices within form) → (s : State) → GoesKept indices s.own (form_meaning reading g call line form s)
    form_kept indices within line (Do index body) out e s =
        loop_kept indices index (unbound_one indices index [] out).0 (block_meaning reading g call body) (λ t. block_kept (index ∷ indices) within body e t) (segments_over g index) s
    form_kept indices within line (DoIn sub index body) out e s =
        loop_kept indices sub (unbound_one indices sub [] out).0 (block_meaning reading g call body) (λ t. block_kept (sub ∷ indices) within body e t) (pieces_over g s.own sub index) s
    form_kept indices within line (Pardo over_these wheres body) out e s =
        goes_after
        indices
        s.own
        (over (tuples (box_of g.spaces over_these)) (λ tuple t. iteration wheres (block_meaning reading g call body) (on_own (taken_up g over_these tuple) t)) (on_own (unset g) s))
        (λ t. Went (on_own (left g over_these) t))
        (goes_from
        indices
        s.own
        (unset g s.own)
        (over (tuples (box_of g.spaces over_these)) (λ tuple t. iteration wheres (block_meaning reading g call body) (on_own (taken_up g over_these tuple) t)) (on_own (unset g) s))
        (kept_values indices s.own (unset g s.own) refl)
        (goes_over
        indices
        (tuples (box_of g.spaces over_these))
        (λ tuple t. iteration wheres (block_meaning reading g call body) (on_own (taken_up g over_these tuple) t))
        (λ tuple t.
        goes_from
        indices
        t.own
        (taken_up g over_these tuple t.own)
        (iteration wheres (block_meaning reading g call body) (on_own (taken_up g over_these tuple) t))
        (kept_unset g indices over_these (onto_firsts g.spaces over_these tuple) t.own out)
        (goes_unless
        indices
        (all_met (taken_up g over_these tuple t.own) wheres)
        (block_meaning reading g call body)
        (on_own (taken_up g over_these tuple) t)
        (goes_fewer
        (over_these ++ indices)
        indices
        (taken_up g over_these tuple t.own)
        (block_meaning reading g call body (on_own (taken_up g over_these tuple) t))
        (among_more over_these indices)
        (block_kept (over_these ++ indices) true body e (on_own (taken_up g over_these tuple) t)))))
        (on_own (unset g) s)))
        (λ t. kept_unset g indices over_these (map (λ i. 0) over_these) t.own out)
    form_kept indices within line (If test body) out e s =
        goes_chosen indices line (condition s.own test) (block_meaning reading g call body) Went s (block_kept indices within body e s) (kept_values indices s.own s.own refl)
    form_kept indices within line (IfElse test body other) out e s =
        let both = unbroken_append g.program (visits indices within body) (visits indices within other) e in
        goes_chosen
        indices
        line
        (condition s.own test)
        (block_meaning reading g call body)
        (block_meaning reading g call other)
        s
        (block_kept indices within body both.0 s)
        (block_kept indices within other both.1 s)
    form_kept indices within line (Call procedure) out e s = goes_values indices s.own (call procedure s) (go procedure s)
    form_kept indices within line form out e s = goes_values indices s.own (statement reading g line form s) (statement_goes reading g line form s)
