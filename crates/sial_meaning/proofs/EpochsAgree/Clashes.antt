-- Logs that go on keep their first clash.
use Rattle.std.proofs.Common.{◌≡◌, List, [], ◌∷◌, ◌++◌, Bool, true, false, if◌then◌else◌, Option, Some, refl, sym, ap, ◌∙◌, append_assoc, append-nil}
use Rattle.std.specs.List.{list_any}
use Rattle.sial_meaning.specs.Access.{Touch, Found, clashes, found, first_clash}
use Rattle.sial_meaning.specs.EpochLaws.{up_to_clash}

-- a log that goes on
abbrev pub Extends : List Touch → List Touch → Type 0
Extends log more = (others : List Touch) × (more ≡ log ++ others)

-- a log with a clash
abbrev pub Clashes : List Touch → List Touch → Type 0
Clashes before log = (clash : Found) × (first_clash before log ≡ Some clash)

-- a log is one that goes on by nothing
pub extends_same : (log : List Touch) → Extends log log
extends_same log = ([], sym (append-nil log))

-- a log that goes on twice
pub extends_then : (a b c : List Touch) → Extends a b → Extends b c → Extends a c
extends_then a b c x y = (x.0 ++ y.0, y.1 ∙ ap (λ log. log ++ y.0) x.1 ∙ append_assoc a x.0 y.0)

-- one of two, where the second has a clash as soon as another has
if_kept : (b : Bool) (first one other : Option Found) (clash : Found) → (one ≡ Some clash → other ≡ Some clash) → (if b then first else one) ≡ Some clash → (if b then first else other) ≡ Some clash
if_kept true first one other clash h e = e
if_kept false first one other clash h e = h e

-- a log that goes on has the same first clash
pub clash_kept : (before log others : List Touch) (clash : Found) → first_clash before log ≡ Some clash → first_clash before (log ++ others) ≡ Some clash
clash_kept before [] others clash e = absurd cc
clash_kept before (t ∷ ts) others clash e =
    if_kept
    (list_any (clashes t) before)
    (Some (found before t))
    (first_clash (before ++ t ∷ []) ts)
    (first_clash (before ++ t ∷ []) (ts ++ others))
    clash
    (clash_kept (before ++ t ∷ []) ts others clash)
    e

-- one of two that both have a clash
if_some : (b : Bool) (first : Found) (one : Option Found) → (clash : Found) × (one ≡ Some clash) → (clash : Found) × ((if b then Some first else one) ≡ Some clash)
if_some true first one h = (first, refl)
if_some false first one h = h

-- the first of two is a clash
if_first : (b : Bool) (first : Found) (one : Option Found) → b ≡ true → (clash : Found) × ((if b then Some first else one) ≡ Some clash)
if_first true first one e = (first, refl)
if_first false first one e = absurd cc

-- an access that clashes with an earlier one makes a clash
pub clash_made : (before log : List Touch) (t : Touch) → list_any (clashes t) (before ++ log) ≡ true → Clashes before (log ++ t ∷ [])
clash_made before [] t e = if_first (list_any (clashes t) before) (found before t) (first_clash (before ++ t ∷ []) []) (ap (list_any (clashes t)) (sym (append-nil before)) ∙ e)
clash_made before (x ∷ xs) t e =
    if_some
    (list_any (clashes x) before)
    (found before x)
    (first_clash (before ++ x ∷ []) (xs ++ t ∷ []))
    (clash_made (before ++ x ∷ []) xs t (ap (list_any (clashes t)) (append_assoc before (x ∷ []) xs) ∙ e))

-- a log that goes on by anything has the same first clash
pub clash_is : (before log more : List Touch) (clash : Found) → Extends log more → first_clash before log ≡ Some clash → first_clash before more ≡ Some clash
clash_is before log more clash x e = ap (first_clash before) x.1 ∙ clash_kept before log x.0 clash e

-- a log with a clash that goes on has a clash
pub clash_on : (before log more : List Touch) → Extends log more → Clashes before log → Clashes before more
clash_on before log more x c = (c.0, clash_is before log more c.0 x c.1)

-- one of two cuts
if_cut : (b : Bool) (first : Found) (rest : Option Found) (clash : Found) (one other : List Touch) → (rest ≡ Some clash → one ≡ other) → (if b then Some first else rest) ≡ Some clash → (if b then [] else one) ≡ (if b then [] else other)
if_cut true first rest clash one other h e = refl
if_cut false first rest clash one other h e = h e

-- a log that goes on is the same up to its first clash
pub up_to_clash_kept : (before log others : List Touch) (clash : Found) → first_clash before log ≡ Some clash → up_to_clash before (log ++ others) ≡ up_to_clash before log
up_to_clash_kept before [] others clash e = absurd cc
up_to_clash_kept before (t ∷ ts) others clash e =
    ap
    (λ xs. t ∷ xs)
    (if_cut
    (list_any (clashes t) before)
    (found before t)
    (first_clash (before ++ t ∷ []) ts)
    clash
    (up_to_clash (before ++ t ∷ []) (ts ++ others))
    (up_to_clash (before ++ t ∷ []) ts)
    (up_to_clash_kept (before ++ t ∷ []) ts others clash)
    e)

-- so is one that goes on by anything else
pub up_to_clash_on : (log more : List Touch) (clash : Found) → first_clash [] log ≡ Some clash → Extends log more → up_to_clash [] more ≡ up_to_clash [] log
up_to_clash_on log more clash e x = ap (up_to_clash []) x.1 ∙ up_to_clash_kept [] log x.0 clash e
