-- Calls that lead alike reach alike.
use Rattle.std.proofs.Common.{◌≡◌, ℕ, zero, suc, ◌+◌, ◌<◌, drop, slice_set, Result, Ok, Err, IfOk, List, [], ◌∷◌, ◌++◌, map, length, slice_index_or, Bool, true, false, ◌==◌, ◌||◌, ◌⊎◌, inl, inr, refl, sym, ap, ◌∙◌, subst}
use Rattle.std.specs.List.{enumerate_from}
use Rattle.std.specs.Global.{Vec}
use Rattle.std.specs.declared.alloc.AllocError.{AllocError}
use Rattle.std.proofs.lemmas.List.{drop_more, length-map, map_push}
use Rattle.scalar_discipline.specs.Calls.{lists}
use Rattle.scalar_discipline.specs.declared.call.Call.{Call}
use Rattle.scalar_discipline.specs.Distinct.{LeadAlike}
use Rattle.scalar_discipline.specs.Rounds.{leads_on, reach_next, reach_after}

-- lists of calls lead cs they do
pub alike_same : (cs : List (List Call)) → LeadAlike cs cs
alike_same [] = tt
alike_same (a ∷ cs) = (λ reach. refl, alike_same cs)

-- of cs many procedures
alike_length : (cs bs : List (List Call)) → LeadAlike cs bs → length cs ≡ length bs
alike_length [] [] alike = refl
alike_length [] (b ∷ bs) alike = absurd alike
alike_length (a ∷ cs) [] alike = absurd alike
alike_length (a ∷ cs) (b ∷ bs) alike = ap suc (alike_length cs bs alike.1)

alike_ids : (cs bs : List (List Call)) (k to : ℕ) → LeadAlike cs bs → map (λ (x : ℕ × List Call). x.0 == to) (enumerate_from k cs) ≡ map (λ (x : ℕ × List Call). x.0 == to) (enumerate_from k bs)
alike_ids [] [] k to alike = refl
alike_ids [] (b ∷ bs) k to alike = absurd alike
alike_ids (a ∷ cs) [] k to alike = absurd alike
alike_ids (a ∷ cs) (b ∷ bs) k to alike = ap (λ (r : List Bool). (k == to) ∷ r) (alike_ids cs bs (k + 1) to alike.1)

alike_from : (cs bs : List (List Call)) (k to : ℕ) (reach : List Bool) → LeadAlike cs bs → map (λ (x : ℕ × List Call). (x.0 == to) || leads_on reach x.1) (enumerate_from k cs) ≡ map (λ (x : ℕ × List Call). (x.0 == to) || leads_on reach x.1) (enumerate_from k bs)
alike_from [] [] k to reach alike = refl
alike_from [] (b ∷ bs) k to reach alike = absurd alike
alike_from (a ∷ cs) [] k to reach alike = absurd alike
alike_from (a ∷ cs) (b ∷ bs) k to reach alike =
    ap (λ (l : Bool). ((k == to) || l) ∷ map (λ (x : ℕ × List Call). (x.0 == to) || leads_on reach x.1) (enumerate_from (k + 1) cs)) (alike.0 reach)
    ∙ ap (λ (r : List Bool). ((k == to) || leads_on reach b) ∷ r) (alike_from cs bs (k + 1) to reach alike.1)

alike_after : (cs bs : List (List Call)) (to n : ℕ) → LeadAlike cs bs → reach_after cs to n ≡ reach_after bs to n
alike_after cs bs to zero alike = alike_ids cs bs 0 to alike
alike_after cs bs to (suc n) alike =
    ap (reach_next cs to) (alike_after cs bs to n alike) ∙ alike_from cs bs 0 to (reach_after bs to n) alike

-- Who reaches whom over calls that lead alike.
pub reached_alike : (cs bs : List (List Call)) (to : ℕ) (reach : List Bool) → LeadAlike cs bs → reach ≡ reach_after cs to (length cs) → reach ≡ reach_after bs to (length bs)
reached_alike cs bs to reach alike is = is ∙ (alike_after cs bs to (length cs) alike ∙ ap (reach_after bs to) (alike_length cs bs alike))

-- One procedure's calls replaced by others that lead alike.
pub alike_with : (xs rest bs : List (List Call)) (a own : List Call) → LeadAlike (xs ++ own ∷ rest) bs → ((reach : List Bool) → leads_on reach a ≡ leads_on reach own) → LeadAlike ((xs ++ a ∷ []) ++ rest) bs
alike_with [] rest [] a own alike same = absurd alike
alike_with [] rest (b ∷ bs) a own alike same = (λ reach. same reach ∙ alike.0 reach, alike.1)
alike_with (x ∷ xs) rest [] a own alike same = absurd alike
alike_with (x ∷ xs) rest (b ∷ bs) a own alike same = (alike.0, alike_with xs rest bs a own alike.1 same)

-- calls behind others
leads-append : (reach : List Bool) (xs ys : List Call) → leads_on reach (xs ++ ys) ≡ (leads_on reach xs || leads_on reach ys)
leads-append reach [] ys = refl
leads-append reach (x ∷ xs) ys = by (slice_index_or reach x.procedure false) (leads-append reach xs ys)
  where
    by : (b : Bool) → leads_on reach (xs ++ ys) ≡ (leads_on reach xs || leads_on reach ys) → (b || leads_on reach (xs ++ ys)) ≡ ((b || leads_on reach xs) || leads_on reach ys)
    by true same = refl
    by false same = same

-- A call that isn't kept, since one of its procedure is.
pub left_out : (few rest own : List Call) (call : Call) (reach : List Bool) → (slice_index_or reach call.procedure false ≡ true → leads_on reach few ≡ true) → (leads_on reach few || leads_on reach (call ∷ rest)) ≡ leads_on reach own → (leads_on reach few || leads_on reach rest) ≡ leads_on reach own
left_out few rest own call reach known so_far = by (slice_index_or reach call.procedure false) (leads_on reach few) known so_far
  where
    by : (b f : Bool) → (b ≡ true → f ≡ true) → (f || (b || leads_on reach rest)) ≡ leads_on reach own → (f || leads_on reach rest) ≡ leads_on reach own
    by true true known is = is
    by true false known is = absurd (let t : false ≡ true = known refl in cc)
    by false f known is = is

-- A call that is kept.
pub kept : (few rest own : List Call) (call : Call) (reach : List Bool) → (leads_on reach few || leads_on reach (call ∷ rest)) ≡ leads_on reach own → (leads_on reach (few ++ call ∷ []) || leads_on reach rest) ≡ leads_on reach own
kept few rest own call reach so_far =
    ap (λ (b : Bool). b || leads_on reach rest) (leads-append reach few (call ∷ [])) ∙ (by (leads_on reach few) (slice_index_or reach call.procedure false) ∙ so_far)
  where
    by : (f b : Bool) → ((f || (b || false)) || leads_on reach rest) ≡ (f || (b || leads_on reach rest))
    by true b = refl
    by false true = refl
    by false false = refl

-- A procedure that was called leads on wherever it reaches.
pub marked : (few : List Call) (call : Call) (reach called now : List Bool)
    → ((p : ℕ) → slice_index_or called p false ≡ true → slice_index_or reach p false ≡ true → leads_on reach few ≡ true)
    → ((p : ℕ) → slice_index_or now p false ≡ true → (p ≡ call.procedure) ⊎ (slice_index_or called p false ≡ true))
    → (p : ℕ) → slice_index_or now p false ≡ true → slice_index_or reach p false ≡ true → leads_on reach (few ++ call ∷ []) ≡ true
marked few call reach called now known marks p is reaches = by (marks p is)
  where
    last : (f b : Bool) → b ≡ true → (f || (b || false)) ≡ true
    last true b e = refl
    last false b e = ap (λ (c : Bool). c || false) e

    first : (f b : Bool) → f ≡ true → (f || b) ≡ true
    first f b e = ap (λ (c : Bool). c || b) e

    by : (p ≡ call.procedure) ⊎ (slice_index_or called p false ≡ true) → leads_on reach (few ++ call ∷ []) ≡ true
    by (inl same) = leads-append reach few (call ∷ []) ∙ last (leads_on reach few) (slice_index_or reach call.procedure false) (subst (λ (q : ℕ). slice_index_or reach q false ≡ true) same reaches)
    by (inr old) = leads-append reach few (call ∷ []) ∙ first (leads_on reach few) (leads_on reach (call ∷ [])) (known p old reaches)

-- The calls of the first procedures led alike, and those of one more do.
pub one_more_distinct :
    (calls : List (Vec Call))
    (i : ℕ)
    (own few : Vec Call)
    (all new : List (Vec Call))
    → i < length calls
    → own ≡ slice_index_or calls i own
    → new ≡ all ++ few ∷ []
    → ((reach : List Bool) → leads_on reach few.items ≡ leads_on reach own.items)
    → LeadAlike (lists all ++ lists (drop i calls)) (lists calls)
    → LeadAlike (lists new ++ lists (drop (i + 1) calls)) (lists calls)
one_more_distinct calls i own few all new within at step same alike =
    let first : drop i calls ≡ own ∷ drop (i + 1) calls = drop_more calls i own within ∙ ap (λ (o : Vec Call). o ∷ drop (i + 1) calls) (sym at) in
    let before : LeadAlike (lists all ++ own.items ∷ lists (drop (i + 1) calls)) (lists calls) =
    subst (λ (os : List (Vec Call)). LeadAlike (lists all ++ lists os) (lists calls)) first alike in
    let pushed : lists new ≡ lists all ++ few.items ∷ [] = ap lists step ∙ map_push (λ (o : Vec Call). o.items) all few in
    subst (λ (os : List (List Call)). LeadAlike (os ++ lists (drop (i + 1) calls)) (lists calls)) (sym pushed)
    (alike_with (lists all) (lists (drop (i + 1) calls)) (lists calls) few.items own.items before same)

-- What is said of an answer, said otherwise.
pub reach_given :
    (r : Result (Vec Bool) AllocError)
    (few calls : List (Vec Call))
    (to : ℕ)
    → LeadAlike (lists few) (lists calls)
    → IfOk r (λ reach. reach.items ≡ reach_after (lists few) to (length few))
    → IfOk r (λ reach. reach.items ≡ reach_after (lists calls) to (length calls))
reach_given (Ok reach) few calls to alike is =
    let many : length (lists few) ≡ length few = length-map few (λ (o : Vec Call). o.items) in
    let all : length (lists calls) ≡ length calls = length-map calls (λ (o : Vec Call). o.items) in
    reached_alike (lists few) (lists calls) to reach.items alike (is ∙ ap (reach_after (lists few) to) (sym many))
    ∙ ap (reach_after (lists calls) to) all
reach_given (Err e) few calls to alike is = tt

-- a place that is marked is the one, or was marked before
pub set_marks : (marks : List Bool) (i p : ℕ) → slice_index_or (slice_set marks i true) p false ≡ true → (p ≡ i) ⊎ (slice_index_or marks p false ≡ true)
set_marks [] i p is = inr is
set_marks (m ∷ ms) zero zero is = inl refl
set_marks (m ∷ ms) zero (suc p) is = inr is
set_marks (m ∷ ms) (suc i) zero is = inr is
set_marks (m ∷ ms) (suc i) (suc p) is = by (set_marks ms i p is)
  where
    by : (p ≡ i) ⊎ (slice_index_or ms p false ≡ true) → (suc p ≡ suc i) ⊎ (slice_index_or ms p false ≡ true)
    by (inl same) = inl (ap suc same)
    by (inr old) = inr old
