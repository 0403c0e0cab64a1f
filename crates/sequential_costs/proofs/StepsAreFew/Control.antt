-- Control lowers what is owed: loops, branches, calls and pardos.
use Rattle.std.proofs.Common.{◌≡◌, ℕ, zero, suc, ◌+◌, ◌-◌, ◌*◌, ◌<◌, ◌≤◌, List, [], ◌∷◌, length, map, slice_index_or, slice_set, Bool, true, false, nat_lt, Ok, Err, refl, sym, ap, ◌∙◌, arith}
use Rattle.std.proofs.lemmas.Bool.Decides.{nat_tests}
use Rattle.std.proofs.lemmas.List.{get_or-set_same, get_or-set_other}
use Rattle.sial_syntax.specs.Agreeing.{contains, share_any}
use Rattle.sial_syntax.specs.Boxes.{volume, tuple_at}
use Rattle.sial_syntax.specs.Numbering.{sizes, entry_of}
use Rattle.sial_syntax.specs.Spaces.{box_of, onto_firsts}
use Rattle.sial_meaning.specs.Control.{entered, turned, branched, called, begun, went_within, depth_left}
use Rattle.sial_meaning.specs.LocalStep.{Answer}
use Rattle.sial_meaning.specs.Meaning.{call_depth, all_met, taken_up}
use Rattle.sial_meaning.specs.Own.{Own, value_of, bound, all_bound, none_bound, unset}
use Rattle.sial_meaning.specs.Rest.{LoopAt, PardoAt, Rest, Turn, Back, Within, depth}
use Rattle.sial_meaning.specs.Setting.{Setting, procedure_body}
use Rattle.sial_meaning.specs.State.{State}
use Rattle.sial_meaning.specs.Step.{Stepped, Moved, Halted, Ended, led}
use Rattle.sial_meaning.proofs.AcceptedInOtherWords.Pairs.{never}
use Rattle.sial_meaning.proofs.StatesAreWhole.Rest.{GoodRest}
use Rattle.sial_meaning.proofs.StepsReachTheFold.Rules.{neither}
use Rattle.sequential_costs.proofs.StepsAreFew.Owed.{body_steps, owed, pushed, same_owed}
use Rattle.sequential_costs.proofs.StepsAreFew.Uncapped.{block_steps, call_steps}

-- a step led to work that owes less, to a trap, or nowhere at the program's end
abbrev pub Lowered : Setting → (before : ℕ) → Stepped → Type 0
Lowered g before (Moved w) = owed g w.state.own.values w.rest < before
Lowered g before (Halted trap s) = Unit {0}
Lowered g before Ended = Unit {0}

-- an index bound leaves the numbers of others
pub others_same : (indices values : List ℕ) (index k : ℕ) → contains indices index ≡ false → (i : ℕ) → contains indices i ≡ true
    → slice_index_or (slice_set values index k) i 0 ≡ slice_index_or values i 0
others_same indices values index k out i has = get_or-set_other values index i k 0 (λ same. never (sym out ∙ (ap (contains indices) (sym same) ∙ has)))

-- so do several
pub all_others_same : (indices over numbers : List ℕ) (own : Own) → share_any over indices ≡ false → (i : ℕ) → contains indices i ≡ true
    → slice_index_or (all_bound over numbers own).values i 0 ≡ slice_index_or own.values i 0
all_others_same indices [] numbers own out i has = refl
all_others_same indices (x ∷ xs) [] own out i has = refl
all_others_same indices (x ∷ xs) (n ∷ ns) own out i has =
    let parts = neither (contains indices x) (share_any xs indices) out in
    all_others_same indices xs ns (bound x n own) parts.1 i has ∙ others_same indices own.values x n parts.0 i has

-- fewer turns are no more steps
turns_rise : (n m b : ℕ) → n ≤ m → n * b ≤ m * b
turns_rise zero m b few = omega arith
turns_rise (suc n) zero b few = absurd (omega (arith, few))
turns_rise (suc n) (suc m) b few = let before = turns_rise n m b (omega (arith, few)) in omega (arith, before)

-- a loop as it is entered, which turns no more often than this
pub entered_lowers : (g : Setting) (loop : LoopAt) (first count most : ℕ) (rest : Rest) (s : State) (indices : List ℕ) → count ≤ most → loop.index < length s.own.values → contains indices loop.index ≡ false → GoodRest g indices rest
    → Lowered g (1 + most * (1 + body_steps g rest loop.body) + owed g s.own.values rest) (led s (entered loop first count rest s.own))
entered_lowers g loop first zero most rest s indices few there out good =
    let same : owed g (slice_set s.own.values loop.index 0) rest ≡ owed g s.own.values rest = same_owed g indices (slice_set s.own.values loop.index 0) s.own.values rest good (others_same indices s.own.values loop.index 0 out) in
    omega (arith, same)
entered_lowers g loop first (suc n) most rest s indices few there out good =
    let values = slice_set s.own.values loop.index first in
    let b = body_steps g rest loop.body in
    let same : owed g values rest ≡ owed g s.own.values rest = same_owed g indices values s.own.values rest good (others_same indices s.own.values loop.index first out) in
    let here : slice_index_or values loop.index 0 ≡ first = get_or-set_same s.own.values loop.index first 0 there in
    let left : (first + n) - first ≡ n = omega arith in
    let turns : ((first + n) - slice_index_or values loop.index 0) * (1 + b) ≡ n * (1 + b) = ap (λ k. ((first + n) - k) * (1 + b)) here ∙ ap (λ k. k * (1 + b)) left in
    let begin = pushed g values (loop.head + 1) loop.body (Turn loop (first + n) rest) in
    let more : suc n * (1 + b) ≤ most * (1 + b) = turns_rise (suc n) most (1 + b) few in
    omega (arith, same, turns, begin, more)

-- the end of a loop's body
pub turned_lowers : (g : Setting) (more : Bool) (loop : LoopAt) (last : ℕ) (rest : Rest) (s : State) (indices : List ℕ) → nat_lt (value_of s.own loop.index) last ≡ more → loop.index < length s.own.values → contains indices loop.index ≡ false → GoodRest g indices rest
    → Lowered g (1 + ((last - value_of s.own loop.index) * (1 + body_steps g rest loop.body) + owed g s.own.values rest)) (led s (turned more loop last rest s.own))
turned_lowers g true loop last rest s indices is there out good =
    let v = value_of s.own loop.index in
    let values = slice_set s.own.values loop.index (v + 1) in
    let b = body_steps g rest loop.body in
    let less : v < last = grind (arith, nat_tests) in
    let same : owed g values rest ≡ owed g s.own.values rest = same_owed g indices values s.own.values rest good (others_same indices s.own.values loop.index (v + 1) out) in
    let here : slice_index_or values loop.index 0 ≡ v + 1 = get_or-set_same s.own.values loop.index (v + 1) 0 there in
    let left : last - v ≡ suc (last - (v + 1)) = omega (arith, less) in
    let now : (last - slice_index_or values loop.index 0) * (1 + b) ≡ (last - (v + 1)) * (1 + b) = ap (λ k. (last - k) * (1 + b)) here in
    let before : (last - v) * (1 + b) ≡ suc (last - (v + 1)) * (1 + b) = ap (λ k. k * (1 + b)) left in
    let begin = pushed g values (loop.head + 1) loop.body (Turn loop last rest) in
    omega (arith, same, now, before, begin)
turned_lowers g false loop last rest s indices is there out good =
    let same : owed g (slice_set s.own.values loop.index 0) rest ≡ owed g s.own.values rest = same_owed g indices (slice_set s.own.values loop.index 0) s.own.values rest good (others_same indices s.own.values loop.index 0 out) in
    omega (arith, same)

-- a branch
pub branched_lowers : (g : Setting) (before line : ℕ) (answer : Answer Bool) (met unmet : Rest) (s : State) → owed g s.own.values met < before → owed g s.own.values unmet < before → Lowered g before (led s (branched line answer met unmet s.own))
branched_lowers g before line (Ok true) met unmet s first second = first
branched_lowers g before line (Ok false) met unmet s first second = second
branched_lowers g before line (Err kind) met unmet s first second = tt

-- a call
pub called_lowers : (g : Setting) (more : Bool) (procedure : ℕ) (rest : Rest) (s : State) → nat_lt (depth rest) call_depth ≡ more
    → Lowered g (2 + call_steps g (depth_left rest) procedure + owed g s.own.values rest) (led s (called g more procedure rest s.own))
called_lowers g true procedure rest s is =
    let less : depth rest < call_depth = grind (arith, nat_tests) in
    let body = procedure_body g procedure in
    let back = Back (entry_of g.program procedure + sizes body) s.own.values rest in
    let begin = pushed g (none_bound s.own).values (entry_of g.program procedure) body back in
    let deeper : depth_left rest ≡ suc (call_depth - (depth rest + 1)) = omega (arith, less) in
    let steps : call_steps g (depth_left rest) procedure ≡ block_steps g (call_steps g (call_depth - (depth rest + 1))) body = ap (λ n. call_steps g n procedure) deeper in
    omega (arith, begin, steps)
called_lowers g false procedure rest s is = omega arith

-- a tuple taken up
begun_lowers : (g : Setting) (met : Bool) (pardo : PardoAt) (number : ℕ) (rest : Rest) (s : State) (own : Own) (before : ℕ) → owed g own.values (Within pardo (number + 1) rest) + (1 + body_steps g rest pardo.body) ≤ before
    → Lowered g before (led s (begun met pardo number rest own))
begun_lowers g true pardo number rest s own before enough =
    let begin = pushed g own.values (pardo.head + 1 + length pardo.wheres) pardo.body (Within pardo (number + 1) rest) in
    omega (arith, begin, enough)
begun_lowers g false pardo number rest s own before enough = omega (arith, enough)

-- a pardo under way
pub within_lowers : (g : Setting) (more : Bool) (pardo : PardoAt) (number : ℕ) (rest : Rest) (s : State) (indices : List ℕ) → nat_lt number (volume (box_of g.spaces pardo.indices)) ≡ more → share_any pardo.indices indices ≡ false → GoodRest g indices rest
    → Lowered g (1 + ((volume (box_of g.spaces pardo.indices) - number) * (1 + body_steps g rest pardo.body) + owed g s.own.values rest)) (led s (went_within g more pardo number rest s.own))
within_lowers g true pardo number rest s indices is out good =
    let v = volume (box_of g.spaces pardo.indices) in
    let b = body_steps g rest pardo.body in
    let tuple = tuple_at (box_of g.spaces pardo.indices) number in
    let own = taken_up g pardo.indices tuple s.own in
    let less : number < v = grind (arith, nat_tests) in
    let same : owed g own.values rest ≡ owed g s.own.values rest = same_owed g indices own.values s.own.values rest good (all_others_same indices pardo.indices (onto_firsts g.spaces pardo.indices tuple) (unset g s.own) out) in
    let left : v - number ≡ suc (v - (number + 1)) = omega (arith, less) in
    let turns : (v - number) * (1 + b) ≡ suc (v - (number + 1)) * (1 + b) = ap (λ k. k * (1 + b)) left in
    begun_lowers g (all_met own pardo.wheres) pardo number rest s own (1 + ((v - number) * (1 + b) + owed g s.own.values rest)) (omega (arith, same, turns))
within_lowers g false pardo number rest s indices is out good =
    let numbers = map (λ i. 0) pardo.indices in
    let same : owed g (all_bound pardo.indices numbers (unset g s.own)).values rest ≡ owed g s.own.values rest = same_owed g indices (all_bound pardo.indices numbers (unset g s.own)).values s.own.values rest good (all_others_same indices pardo.indices numbers (unset g s.own) out) in
    omega (arith, same)
