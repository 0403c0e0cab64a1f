-- The rest of the work that is good where some indices are bound within their ranges, and steps of loops, branches and calls.
use Rattle.std.proofs.Common.{◌≡◌, ℕ, zero, suc, ◌+◌, ◌<◌, inl, inr, List, [], ◌∷◌, ◌++◌, length, slice_index_or, slice_set, replicate, Bool, true, false, ◌==◌, nat_lt, Ok, Err, refl, sym, ap, ◌∙◌, subst, eqb-true, arith, IsTrue}
use Rattle.std.proofs.lemmas.Bool.{eq-eqb}
use Rattle.std.proofs.lemmas.Bool.Decides.{nat_tests}
use Rattle.std.proofs.lemmas.List.{length-set, get_or-set_same, get_or-set_other, length-replicate}
use Rattle.std.specs.List.{list_all}
use Rattle.sial_syntax.specs.Agreeing.{contains, share_any, has_twice}
use Rattle.sial_syntax.specs.Numbering.{size, sizes, entry_of}
use Rattle.sial_syntax.specs.Proper.{has_index}
use Rattle.sial_syntax.specs.Spaces.{Span, Segments, Pieces, span_of, span_first, span_count}
use Rattle.sial_syntax.specs.Tree.{Block, End, Then}
use Rattle.sial_syntax.specs.Visits.{visits, inner_visits}
use Rattle.sial_meaning.specs.LocalStep.{Answer}
use Rattle.sial_meaning.specs.Meaning.{on_own}
use Rattle.sial_meaning.specs.Own.{value_of}
use Rattle.sial_meaning.specs.Control.{entered, turned, branched, called}
use Rattle.sial_meaning.specs.Rest.{LoopAt, Rest, Over, Next, Turn, Join, Back, Within, push}
use Rattle.sial_meaning.specs.Step.{Stepped, Moved, Halted, Ended, led}
use Rattle.sial_meaning.specs.Setting.{Setting, procedure_body}
use Rattle.sial_meaning.specs.Sound.{IsSound}
use Rattle.sial_meaning.specs.State.{State}
use Rattle.sial_meaning.specs.WholeStates.{IsWhole}
use Rattle.sial_meaning.proofs.Granted.Visits.{Good, AllGood, good-split, procedure-good}
use Rattle.sial_meaning.proofs.AcceptedInOtherWords.Pairs.{never}
use Rattle.sial_meaning.proofs.AssignmentsReadBack.Places.{either-holds, or-left, or-right}
use Rattle.sial_meaning.proofs.Granted.Ranges.{InSpan, InRange}

-- these indices are among those
abbrev pub AllAmong : List ℕ → List ℕ → Type 0
AllAmong some all = (i : ℕ) → contains some i ≡ true → contains all i ≡ true

-- an index has a number that its loop may go on to, up to the last
abbrev pub EndsIn : Span → (last : ℕ) → Type 0
EndsIn (Segments kind first count) last = last < first + count
EndsIn (Pieces super) last = Unit {0}

-- the rest of the work is good where these indices are bound within their ranges
abbrev pub GoodRest : Setting → (indices : List ℕ) → Rest → Type 0
GoodRest g indices (Over at) = Unit {0}
GoodRest g indices (Next at line form rest) =
    (within : Bool) × Good g (record { line = line; form = form; bound = indices; within = within }) × AllGood g (inner_visits indices within form) × GoodRest g indices rest
GoodRest g indices (Turn loop last rest) =
    (outer : List ℕ) × (within : Bool) × AllAmong (loop.index ∷ outer) indices × (contains outer loop.index ≡ false) × IsTrue (has_index g.program loop.index) × EndsIn (span_of g.spaces loop.index) last
    × AllGood g (visits (loop.index ∷ outer) within loop.body) × GoodRest g outer rest
GoodRest g indices (Join at rest) = GoodRest g indices rest
GoodRest g indices (Back at values rest) = (inner : List ℕ) × (length values ≡ length g.program.indices) × InRange g inner values × GoodRest g inner rest
GoodRest g indices (Within pardo number rest) =
    (outer : List ℕ) × AllAmong outer indices × (share_any pardo.indices outer ≡ false) × (has_twice pardo.indices ≡ false) × IsTrue (list_all (has_index g.program) pardo.indices) × AllGood g (visits (pardo.indices ++ outer) true pardo.body) × GoodRest g outer rest

-- work in a whole state, its indices bound within their ranges
pub record GoodWork (g : Setting) (rest : Rest) (s : State) : Type 0 where
  pub indices : List ℕ
  pub in_range : InRange g indices s.own.values
  pub good : GoodRest g indices rest
  pub whole : IsWhole g s

-- where a step leads
abbrev pub GoodAt : Setting → Stepped → Type 0
GoodAt g (Moved w) = GoodWork g w.rest w.state
GoodAt g (Halted trap s) = IsWhole g s
GoodAt g Ended = Unit {0}

-- statements before the rest
pub good-pushed : (g : Setting) (indices : List ℕ) (within : Bool) (at : ℕ) (body : Block) (rest : Rest) → AllGood g (visits indices within body) → GoodRest g indices rest → GoodRest g indices (push at body rest)
good-pushed g indices within at End rest all good = good
good-pushed g indices within at (Then line form more) rest all good =
    let parts = good-split g (inner_visits indices within form) (visits indices within more) all.1 in
    (within, all.0, parts.0, good-pushed g indices within (at + size form) more rest parts.1 good)

-- index numbers changed: the rest of the worker's part stays whole
pub values-whole : (g : Setting) (s : State) (values : List ℕ) → length values ≡ length g.program.indices → IsWhole g s → IsWhole g (on_own (λ o. record o { values = values }) s)
values-whole g s values long whole = record {
  own = record { values = long; created = whole.own.created; static_rows = whole.own.static_rows; temp_rows = whole.own.temp_rows; local_rows = whole.own.local_rows; count = whole.own.count; statics = whole.own.statics; temps = whole.own.temps; locals = whole.own.locals };
  distributed = whole.distributed;
  served = whole.served;
  distributed_copies = whole.distributed_copies;
  served_copies = whole.served_copies;
}

-- one index bound anew, that isn't among these
pub others-stay : (g : Setting) (indices values : List ℕ) (index k : ℕ) → contains indices index ≡ false → InRange g indices values → InRange g indices (slice_set values index k)
others-stay g indices values index k out in-range i has =
    subst (λ v. InSpan (span_of g.spaces i) v)
    (sym (get_or-set_other values index i k 0 (λ same. never (sym out ∙ (ap (contains indices) (sym same) ∙ has)))))
    (in-range i has)

-- fewer indices
pub fewer : (g : Setting) (some all values : List ℕ) → AllAmong some all → InRange g all values → InRange g some values
fewer g some all values among in-range i has = in-range i (among i has)

-- one index bound within its range, beside others
pub one-more-bound : (g : Setting) (indices values : List ℕ) (index k : ℕ) → contains indices index ≡ false → index < length values → InSpan (span_of g.spaces index) k → InRange g indices values → InRange g (index ∷ indices) (slice_set values index k)
one-more-bound g indices values index k out there in-span in-range i has =
    elim (either-holds (index == i) (contains indices i) has) as (λ q. InSpan (span_of g.spaces i) (slice_index_or (slice_set values index k) i 0)) [
      | inl same ↦
          subst (λ x. InSpan (span_of g.spaces x) (slice_index_or (slice_set values index k) x 0)) (eqb-true index i same)
          (subst (λ v. InSpan (span_of g.spaces index) v) (sym (get_or-set_same values index k 0 there)) in-span)
      | inr other ↦ others-stay g indices values index k out in-range i other
    ]

-- an index of a proper program has a place among the numbers
pub place-there : (g : Setting) (s : State) (index : ℕ) → IsTrue (has_index g.program index) → IsWhole g s → index < length s.own.values
place-there g s index has whole =
    let many = whole.own.values in
    let below : index < length g.program.indices = below-is index (length g.program.indices) has in
    omega (arith, below, many)
  where
    below-is : (a b : ℕ) → nat_lt a b ≡ true → a < b
    below-is a b is = grind (arith, nat_tests)

-- the numbers of a loop over segments, and of one over pieces
pub first-in : (s : Span) (n : ℕ) → span_count s ≡ suc n → InSpan s (span_first s)
first-in (Segments kind first count) n is = (omega arith, omega (arith, is))
first-in (Pieces super) n is = tt

-- the last number of a range that isn't empty lies in it
pub last-in : (s : Span) (n : ℕ) → span_count s ≡ suc n → EndsIn s (span_first s + n)
last-in (Segments kind first count) n is = omega (arith, is)
last-in (Pieces super) n is = tt

-- going on within a range
pub next-in : (s : Span) (v last : ℕ) → EndsIn s last → v < last → InSpan s v → InSpan s (v + 1)
next-in (Segments kind first count) v last ends below in-span = let low = in-span.0 in (omega (arith, low), omega (arith, ends, below))
next-in (Pieces super) v last ends below in-span = tt

-- a loop entered, at its first number or past it
pub entered-good : (g : Setting) (loop : LoopAt) (first count : ℕ) (rest : Rest) (s : State) (indices : List ℕ) (within : Bool) → InRange g indices s.own.values → GoodRest g indices rest → IsWhole g s
    → contains indices loop.index ≡ false → IsTrue (has_index g.program loop.index) → AllGood g (visits (loop.index ∷ indices) within loop.body)
    → ((n : ℕ) → count ≡ suc n → InSpan (span_of g.spaces loop.index) first × EndsIn (span_of g.spaces loop.index) (first + n)) → GoodAt g (led s (entered loop first count rest s.own))
entered-good g loop first zero rest s indices within in-range good whole out has all numbers = record {
  indices = indices;
  in_range = others-stay g indices s.own.values loop.index 0 out in-range;
  good = good;
  whole = values-whole g s (slice_set s.own.values loop.index 0) (length-set s.own.values loop.index 0 ∙ whole.own.values) whole;
}
entered-good g loop first (suc n) rest s indices within in-range good whole out has all numbers =
    let ends = numbers n refl in
    record {
      indices = loop.index ∷ indices;
      in_range = one-more-bound g indices s.own.values loop.index first out (place-there g s loop.index has whole) ends.0 in-range;
      good = good-pushed g (loop.index ∷ indices) within (loop.head + 1) loop.body (Turn loop (first + n) rest) all (indices, within, (λ i is. is), out, has, ends.1, all, good);
      whole = values-whole g s (slice_set s.own.values loop.index first) (length-set s.own.values loop.index first ∙ whole.own.values) whole;
    }

-- the end of a loop's body
pub turned-good : (g : Setting) (more : Bool) (loop : LoopAt) (last : ℕ) (rest : Rest) (s : State) (indices outer : List ℕ) (within : Bool) → nat_lt (value_of s.own loop.index) last ≡ more → InRange g indices s.own.values → IsWhole g s
    → AllAmong (loop.index ∷ outer) indices → contains outer loop.index ≡ false → IsTrue (has_index g.program loop.index) → EndsIn (span_of g.spaces loop.index) last → AllGood g (visits (loop.index ∷ outer) within loop.body) → GoodRest g outer rest
    → GoodAt g (led s (turned more loop last rest s.own))
turned-good g true loop last rest s indices outer within is in-range whole among out has ends all good =
    let v = value_of s.own loop.index in
    let less : v < last = grind (arith, nat_tests) in
    let here : InSpan (span_of g.spaces loop.index) v = in-range loop.index (among loop.index (or-left (loop.index == loop.index) (contains outer loop.index) (eq-eqb loop.index loop.index refl))) in
    let inner = fewer g outer indices s.own.values (λ i has-i. among i (or-right (loop.index == i) (contains outer i) has-i)) in-range in
    record {
      indices = loop.index ∷ outer;
      in_range = one-more-bound g outer s.own.values loop.index (v + 1) out (place-there g s loop.index has whole) (next-in (span_of g.spaces loop.index) v last ends less here) inner;
      good = good-pushed g (loop.index ∷ outer) within (loop.head + 1) loop.body (Turn loop last rest) all (outer, within, (λ i is. is), out, has, ends, all, good);
      whole = values-whole g s (slice_set s.own.values loop.index (v + 1)) (length-set s.own.values loop.index (v + 1) ∙ whole.own.values) whole;
    }
turned-good g false loop last rest s indices outer within is in-range whole among out has ends all good =
    let inner = fewer g outer indices s.own.values (λ i has-i. among i (or-right (loop.index == i) (contains outer i) has-i)) in-range in
    record {
      indices = outer;
      in_range = others-stay g outer s.own.values loop.index 0 out inner;
      good = good;
      whole = values-whole g s (slice_set s.own.values loop.index 0) (length-set s.own.values loop.index 0 ∙ whole.own.values) whole;
    }

-- a branch
pub branched-good : (g : Setting) (line : ℕ) (answer : Answer Bool) (met unmet : Rest) (s : State) (indices : List ℕ) → InRange g indices s.own.values → IsWhole g s → GoodRest g indices met → GoodRest g indices unmet → GoodAt g (led s (branched line answer met unmet s.own))
branched-good g line (Ok true) met unmet s indices in-range whole a b = record { indices = indices; in_range = in-range; good = a; whole = whole }
branched-good g line (Ok false) met unmet s indices in-range whole a b = record { indices = indices; in_range = in-range; good = b; whole = whole }
branched-good g line (Err kind) met unmet s indices in-range whole a b = whole

-- a call
pub called-good : (g : Setting) (more : Bool) (procedure : ℕ) (rest : Rest) (s : State) (indices : List ℕ) → IsSound g → InRange g indices s.own.values → IsWhole g s → GoodRest g indices rest → GoodAt g (led s (called g more procedure rest s.own))
called-good g true procedure rest s indices sound in-range whole good = record {
  indices = [];
  in_range = λ i has. absurd (never has);
  good =
      good-pushed g [] false (entry_of g.program procedure) (procedure_body g procedure) (Back (entry_of g.program procedure + sizes (procedure_body g procedure)) s.own.values rest) (procedure-good g sound procedure)
      (indices, whole.own.values, in-range, good);
  whole = values-whole g s (replicate (length s.own.values) 0) (length-replicate (length s.own.values) 0 ∙ whole.own.values) whole;
}
called-good g false procedure rest s indices sound in-range whole good = record { indices = indices; in_range = in-range; good = good; whole = whole }
