-- The statements that the code lists are those of the program, with their sides.
use Rattle.std.proofs.Common.{◌≡◌, List, [], false, map, length, sym, ap, ◌∙◌}
use Rattle.std.specs.Prelude.{Result, Ok, Err, IfOk}
use Rattle.std.proofs.lemmas.List.{length-map}
use Rattle.std.specs.Global.{Vec}
use Rattle.sial_syntax.specs.Sides.{Sides, Sided, all_sided}
use Rattle.sial_syntax.specs.Tree.{Tree}
use Rattle.scalar_discipline.specs.declared.call.Call.{Call}
use Rattle.scalar_discipline.specs.Calls.{calls_within, lists, with_body}
use Rattle.scalar_discipline.specs.Flat.{all_placed}
use Rattle.scalar_discipline.specs.Handing.{sides_after}
use Rattle.scalar_discipline.proofs.SideRoundLemmas.{sides-are, all-are}

-- the list of all statements
pub all-found : (p : Tree) (body : List Call) (calls : List (Vec Call)) (sides : List Sides) (all : List Sided) → body ≡ with_body false p.body [] → lists calls ≡ map calls_within p.procedures → sides ≡ sides_after body (lists calls) (length calls) → all ≡ all_placed p sides → all ≡ all_sided p
all-found p body calls sides all own are is placed =
    let many : length calls ≡ length p.procedures =
    sym (length-map calls (λ (c : Vec Call). c.items)) ∙ (ap (λ (cs : List (List Call)). length cs) are ∙ length-map p.procedures calls_within) in
    placed
    ∙ all-are p sides
    (is
    ∙ (ap (λ b. sides_after b (lists calls) (length calls)) own
    ∙ (ap (λ cs. sides_after (with_body false p.body []) cs (length calls)) are
    ∙ (ap (sides_after (with_body false p.body []) (map calls_within p.procedures)) many ∙ sides-are p (length p.procedures)))))

-- what is known of an answer is known of it where more follows
pub ok_then : {X E : Type 0} (r : Result X E) (p q : X → Type 0) → IfOk r p → ((x : X) → p x → q x) → IfOk r q
ok_then (Ok x) p q known more = more x known
ok_then (Err e) p q known more = tt
