-- The first refusal and acceptance.
use Rattle.std.proofs.Common.{◌≡◌, Bool, true, false, ◌&&◌, ◌||◌, not, List, [], ◌∷◌, ◌++◌, slice_index_or, refl, sym, ap, ◌∙◌, subst, arith}
use Rattle.std.proofs.lemmas.Bool.{false_from_ne_true}
use Rattle.std.proofs.lemmas.List.{append_assoc, append-nil}
use Rattle.std.proofs.lemmas.List.Elements.{All-head, All-tail}
use Rattle.std.proofs.lemmas.List.Folds.{list_any_at}
use Rattle.std.proofs.lemmas.List.Quantifiers.{all_pairs_push}
use Rattle.std.specs.List.{list_any}
use Rattle.std.specs.Prelude.{All, AllPairs, Option, Some, None, if◌then◌else◌}
use Rattle.sial_meaning.specs.declared.trap.Trap.{Trap}
use Rattle.sial_meaning.specs.Setting.{Setting}
use Rattle.sial_meaning.specs.Access.{Touch, Found, same_place, may_stand, clashes, found, first_clash}
use Rattle.sial_meaning.specs.Accepted.{StandsWith, Accepts, refused, first_refusal, trap_of, log_of}
use Rattle.sial_meaning.specs.AcceptedLaws.{NoRefusalSaysAccepted}
use Rattle.sial_meaning.specs.Meaning.{sequential}
use Rattle.sial_meaning.proofs.AcceptedInOtherWords.Pairs.{never, pairs-head, pairs-tail}

-- an access that doesn't clash with an earlier one may stand with it
pub stands-by : (a b : Bool) → (a && not b) ≡ false → a ≡ true → b ≡ true
stands-by true true apart same = refl
stands-by true false apart same = absurd (never (sym apart))
stands-by false b apart same = absurd (never same)

clashes-not : (a b : Bool) → (a ≡ true → b ≡ true) → (a && not b) ≡ false
clashes-not true true stands = refl
clashes-not true false stands = absurd (never (stands refl))
clashes-not false b stands = refl

-- no clash, neither here nor later
step-none : (b : Bool) (f : Found) (rest : Option Found) → (if b then Some f else rest) ≡ None → (b ≡ false) × (rest ≡ None)
step-none true f rest none = absurd cc
step-none false f rest none = (refl, none)

none-step : (b : Bool) (f : Found) (rest : Option Found) → b ≡ false → rest ≡ None → (if b then Some f else rest) ≡ None
none-step true f rest fails none = absurd (never (sym fails))
none-step false f rest fails none = none

-- an element in the middle
pub all-middle : {X : Type 0} (P : X → Type 0) (xs : List X) (y : X) (ys : List X) → All P (xs ++ y ∷ ys) → P y
all-middle P [] y ys all = All-head P y ys all
all-middle P (x ∷ xs) y ys all = all-middle P xs y ys (All-tail P x (xs ++ y ∷ ys) all)

-- no earlier access clashes where all pairs stand
no-clash : (before : List Touch) (t : Touch) (ts : List Touch) → AllPairs StandsWith (before ++ t ∷ ts) → list_any (clashes t) before ≡ false
no-clash [] t ts pairs = refl
no-clash (b ∷ bs) t ts pairs =
    let head : StandsWith b t = all-middle (StandsWith b) bs t ts (pairs-head StandsWith b (bs ++ t ∷ ts) pairs) in
    let first : clashes t b ≡ false = clashes-not (same_place t b) (may_stand b.kind t.kind) head in
    ap (λ x. x || list_any (clashes t) bs) first ∙ no-clash bs t ts (pairs-tail StandsWith b (bs ++ t ∷ ts) pairs)

-- where all pairs stand there is no first clash
none-from : (before ts : List Touch) → AllPairs StandsWith (before ++ ts) → first_clash before ts ≡ None
none-from before [] pairs = refl
none-from before (t ∷ ts) pairs =
    none-step (list_any (clashes t) before) (found before t) (first_clash (before ++ t ∷ []) ts) (no-clash before t ts pairs)
    (none-from (before ++ t ∷ []) ts (subst (AllPairs StandsWith) (sym (append_assoc before (t ∷ []) ts)) pairs))

-- where there is no first clash all pairs stand
pairs-none : (before ts : List Touch) → AllPairs StandsWith before → first_clash before ts ≡ None → AllPairs StandsWith (before ++ ts)
pairs-none before [] pairs none = subst (AllPairs StandsWith) (sym (append-nil before)) pairs
pairs-none before (t ∷ ts) pairs none =
    let parts = step-none (list_any (clashes t) before) (found before t) (first_clash (before ++ t ∷ []) ts) none in
    subst (AllPairs StandsWith) (append_assoc before (t ∷ []) ts)
    (pairs-none (before ++ t ∷ []) ts
    (all_pairs_push StandsWith before t pairs (λ k d below same.
    stands-by (same_place t (slice_index_or before k d)) (may_stand (slice_index_or before k d).kind t.kind)
    (false_from_ne_true (clashes t (slice_index_or before k d)) (λ holds. never (sym parts.0 ∙ list_any_at (clashes t) before k d below holds)))
    same))
    parts.1)

-- no refusal: neither a clash nor a trap
refused-none : (c : Option Found) (t : Option Trap) → refused c t ≡ None → (c ≡ None) × (t ≡ None)
refused-none (Some f) t none = absurd cc
refused-none None (Some t) none = absurd cc
refused-none None None none = (refl, refl)

none-refused : (c : Option Found) (t : Option Trap) → c ≡ None → t ≡ None → refused c t ≡ None
none-refused c t first second = ap (λ x. refused x t) first ∙ ap (refused None) second

-- no refusal says accepted
accepted-from : (g : Setting) → first_refusal g ≡ None → Accepts g
accepted-from g none =
    let parts = refused-none (first_clash [] (log_of (sequential g))) (trap_of (sequential g)) none in
    record { no_trap = parts.1; pairs = pairs-none [] (log_of (sequential g)) (λ i j d before below. absurd (omega (arith, below))) parts.0 }

refusal-from : (g : Setting) → Accepts g → first_refusal g ≡ None
refusal-from g accepts = none-refused (first_clash [] (log_of (sequential g))) (trap_of (sequential g)) (none-from [] (log_of (sequential g)) accepts.pairs) accepts.no_trap

-- a program is accepted exactly where it has no first refusal
pub no-refusal-says-accepted : NoRefusalSaysAccepted
no-refusal-says-accepted g = (accepted-from g, refusal-from g)
