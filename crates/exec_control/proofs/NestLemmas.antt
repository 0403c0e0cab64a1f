-- Loops and calls stand no deeper than they may, wherever control leads; so many last numbers there are.
use Rattle.std.proofs.Common.{◌≡◌, ℕ, zero, suc, ◌+◌, ◌*◌, ◌<◌, ◌≤◌, List, [], ◌∷◌, length, length-append, slice_index_or, Bool, true, false, nat_lt, nat_le, Ok, Err, refl, arith}
use Rattle.std.proofs.lemmas.Bool.Decides.{nat_tests}
use Rattle.std.specs.List.{list_all}
use Rattle.sial_syntax.specs.Boxes.{volume, tuple_at}
use Rattle.sial_syntax.specs.Limits.{most_nesting}
use Rattle.sial_syntax.specs.Names.{is_name}
use Rattle.sial_syntax.specs.Numbering.{size, sizes, entry_of}
use Rattle.sial_syntax.specs.Proper.{IsProper, nesting, body_nesting, proper_body, proper_depth, proper_procedure}
use Rattle.sial_syntax.specs.Spaces.{first_of, count_of, box_of, pieces_of}
use Rattle.sial_syntax.specs.Tree.{Tree, Procedure, Plain, Block, End, Then, Do, DoIn, Pardo, If, IfElse, Call, Assign, Get, Request, Put, Prepare, Create, Delete, Allocate, Deallocate, Collective, SipBarrier, ServerBarrier, Print, PrintScalar, Integrals}
use Rattle.sial_meaning.specs.Control.{control, form_control, loop_at, entered, turned, branched, called, begun, went_within}
use Rattle.sial_meaning.specs.LocalStep.{Answer}
use Rattle.sial_meaning.specs.Meaning.{condition, all_met, taken_up, call_depth}
use Rattle.sial_meaning.specs.Own.{Own, value_of}
use Rattle.sial_meaning.specs.Rest.{LoopAt, PardoAt, Rest, Over, Next, Turn, Join, Back, Within, push, depth}
use Rattle.sial_meaning.specs.Setting.{Setting, procedure_body}
use Rattle.sial_meaning.specs.Step.{start_work}
use Rattle.sial_meaning.proofs.StepsReachTheFold.Rules.{both}
use Rattle.exec_control.specs.Depth.{lasts_of, loops, Nests, LedNests}

-- no loop begins with a body
pub loops_push : (at : ℕ) (body : Block) (rest : Rest) → loops (push at body rest) ≡ loops rest
loops_push at End rest = refl
loops_push at (Then line form more) rest = loops_push (at + size form) more rest

pub lasts_push : (at : ℕ) (body : Block) (rest : Rest) → lasts_of (push at body rest) ≡ lasts_of rest
lasts_push at End rest = refl
lasts_push at (Then line form more) rest = lasts_push (at + size form) more rest

-- a body before the rest
pub nests_push : (at : ℕ) (body : Block) (rest : Rest) → (body_nesting body + loops rest) ≤ most_nesting → Nests rest → Nests (push at body rest)
nests_push at End rest few nests = nests
nests_push at (Then line form more) rest few nests =
    let same = loops_push (at + size form) more rest in
    (omega (arith, few, same), nests_push (at + size form) more rest (omega (arith, few)) nests)

entered_nests : (loop : LoopAt) (first count : ℕ) (rest : Rest) (own : Own) → (1 + body_nesting loop.body + loops rest) ≤ most_nesting → Nests rest → LedNests (entered loop first count rest own)
entered_nests loop first zero rest own few nests = nests
entered_nests loop first (suc n) rest own few nests =
    nests_push (loop.head + 1) loop.body (Turn loop (first + n) rest) (omega (arith, few)) (omega (arith, few), nests)

turned_nests : (more : Bool) (loop : LoopAt) (last : ℕ) (rest : Rest) (own : Own) → (body_nesting loop.body + (loops rest + 1)) ≤ most_nesting → Nests rest → LedNests (turned more loop last rest own)
turned_nests true loop last rest own few nests = nests_push (loop.head + 1) loop.body (Turn loop last rest) few (few, nests)
turned_nests false loop last rest own few nests = nests

branched_nests : (line : ℕ) (answer : Answer Bool) (met unmet : Rest) (own : Own) → Nests met → Nests unmet → LedNests (branched line answer met unmet own)
branched_nests line (Ok true) met unmet own first second = first
branched_nests line (Ok false) met unmet own first second = second
branched_nests line (Err kind) met unmet own first second = tt

-- a test that holds of what it compares
at_most : (a b : ℕ) → nat_le a b ≡ true → a ≤ b
at_most a b is = grind (arith, nat_tests)

less : (a b : ℕ) → nat_lt a b ≡ true → a < b
less a b is = grind (arith, nat_tests)

-- bodies nest no deeper than they may
procedures_nest : (p : Tree) (procedures : List Procedure) (number : ℕ) → list_all (proper_procedure p) procedures ≡ true → body_nesting (slice_index_or procedures number (record { name = []; body = End })).body ≤ most_nesting
procedures_nest p [] number all = omega arith
procedures_nest p (q ∷ qs) zero all =
    let first = (both (proper_procedure p q) (list_all (proper_procedure p) qs) all).0 in
    let deep = (both (is_name q.name) (proper_depth p q.body) first).1 in
    at_most (body_nesting q.body) most_nesting (both (proper_body p q.body) (nat_le (body_nesting q.body) most_nesting) deep).1
procedures_nest p (q ∷ qs) (suc n) all = procedures_nest p qs n (both (proper_procedure p q) (list_all (proper_procedure p) qs) all).1

called_nests : (g : Setting) (more : Bool) (procedure : ℕ) (rest : Rest) (own : Own) → IsProper g.program → nat_lt (depth rest) call_depth ≡ more → Nests rest → LedNests (called g more procedure rest own)
called_nests g true procedure rest own proper is nests =
    nests_push (entry_of g.program procedure) (procedure_body g procedure) (Back (entry_of g.program procedure + sizes (procedure_body g procedure)) own.values rest)
    (let few = procedures_nest g.program g.program.procedures procedure proper.procedures in omega (arith, few)) (less (depth rest) call_depth is, nests)
called_nests g false procedure rest own proper is nests = nests

begun_nests : (met : Bool) (pardo : PardoAt) (number : ℕ) (rest : Rest) (own : Own) → (body_nesting pardo.body + loops rest) ≤ most_nesting → Nests rest → LedNests (begun met pardo number rest own)
begun_nests true pardo number rest own few nests = nests_push (pardo.head + 1 + length pardo.wheres) pardo.body (Within pardo (number + 1) rest) few (few, nests)
begun_nests false pardo number rest own few nests = (few, nests)

within_nests : (g : Setting) (more : Bool) (pardo : PardoAt) (number : ℕ) (rest : Rest) (own : Own) → (body_nesting pardo.body + loops rest) ≤ most_nesting → Nests rest → LedNests (went_within g more pardo number rest own)
within_nests g true pardo number rest own few nests =
    let held = taken_up g pardo.indices (tuple_at (box_of g.spaces pardo.indices) number) own in
    begun_nests (all_met held pardo.wheres) pardo number rest held few nests
within_nests g false pardo number rest own few nests = nests

form_nests : (g : Setting) (at line : ℕ) (form : Plain) (rest : Rest) (own : Own) → IsProper g.program → (nesting form + loops rest) ≤ most_nesting → Nests rest → LedNests (form_control g at line form rest own)
form_nests g at line (Do index body) rest own proper few nests = entered_nests (loop_at at index body) (first_of g.spaces index) (count_of g.spaces index) rest own few nests
form_nests g at line (DoIn sub index body) rest own proper few nests = entered_nests (loop_at at sub body) 1 (pieces_of g.spaces sub (value_of own index)) rest own few nests
form_nests g at line (Pardo indices wheres body) rest own proper few nests = (omega (arith, few), nests)
form_nests g at line (If test body) rest own proper few nests =
    branched_nests line (condition own test) (push (at + 1) body (Join (at + 1 + sizes body) rest)) rest own (nests_push (at + 1) body (Join (at + 1 + sizes body) rest) (omega (arith, few)) nests) nests
form_nests g at line (IfElse test body other) rest own proper few nests =
    branched_nests line (condition own test) (push (at + 1) body (Join (at + 1 + sizes body) rest)) (push (at + 2 + sizes body) other (Join (at + 2 + sizes body + sizes other) rest)) own
    (nests_push (at + 1) body (Join (at + 1 + sizes body) rest) (omega (arith, few)) nests)
    (nests_push (at + 2 + sizes body) other (Join (at + 2 + sizes body + sizes other) rest) (omega (arith, few)) nests)
form_nests g at line (Call procedure) rest own proper few nests = called_nests g (nat_lt (depth rest) call_depth) procedure rest own proper refl nests
form_nests g at line (Assign target combining right) rest own proper few nests = nests
form_nests g at line (Get block) rest own proper few nests = nests
form_nests g at line (Request block) rest own proper few nests = nests
form_nests g at line (Put block how from) rest own proper few nests = nests
form_nests g at line (Prepare block how from) rest own proper few nests = nests
form_nests g at line (Create array) rest own proper few nests = nests
form_nests g at line (Delete array) rest own proper few nests = nests
form_nests g at line (Allocate array slots) rest own proper few nests = nests
form_nests g at line (Deallocate array slots) rest own proper few nests = nests
form_nests g at line (Collective into from) rest own proper few nests = nests
form_nests g at line SipBarrier rest own proper few nests = nests
form_nests g at line ServerBarrier rest own proper few nests = nests
form_nests g at line (Print printed) rest own proper few nests = nests
form_nests g at line (PrintScalar scalar) rest own proper few nests = nests
form_nests g at line (Integrals block) rest own proper few nests = nests

-- wherever control leads
pub control_nests : (g : Setting) (rest : Rest) (own : Own) → IsProper g.program → Nests rest → LedNests (control g rest own)
control_nests g (Over at) own proper nests = nests
control_nests g (Next at line form rest) own proper nests = form_nests g at line form rest own proper nests.0 nests.1
control_nests g (Turn loop last rest) own proper nests = turned_nests (nat_lt (value_of own loop.index) last) loop last rest own nests.0 nests.1
control_nests g (Join at rest) own proper nests = nests
control_nests g (Back at values rest) own proper nests = nests.1
control_nests g (Within pardo number rest) own proper nests = within_nests g (nat_lt number (volume (box_of g.spaces pardo.indices))) pardo number rest own nests.0 nests.1

-- the work of a program from its start
pub start_nests : (g : Setting) → IsProper g.program → Nests (start_work g).rest
start_nests g proper =
    let deep = (both (proper_body g.program g.program.body) (nat_le (body_nesting g.program.body) most_nesting) proper.body).1 in
    nests_push 0 g.program.body (Over (sizes g.program.body)) (let few = at_most (body_nesting g.program.body) most_nesting deep in omega (arith, few)) tt

-- how many loops are in progress in a procedure
loops_few : (rest : Rest) → Nests rest → loops rest ≤ 32
loops_few (Over at) nests = omega arith
loops_few (Next at line form rest) nests = loops_few rest nests.1
loops_few (Turn loop last rest) nests = let few = nests.0 in omega (arith, few)
loops_few (Join at rest) nests = loops_few rest nests
loops_few (Back at values rest) nests = omega arith
loops_few (Within pardo number rest) nests = loops_few rest nests.1

-- how many calls are
pub depth_few : (rest : Rest) → Nests rest → depth rest ≤ 16
depth_few (Over at) nests = omega arith
depth_few (Next at line form rest) nests = depth_few rest nests.1
depth_few (Turn loop last rest) nests = depth_few rest nests.1
depth_few (Join at rest) nests = depth_few rest nests
depth_few (Back at values rest) nests = let few = nests.0 in omega (arith, few)
depth_few (Within pardo number rest) nests = depth_few rest nests.1

-- how many loops are together
lasts_few : (rest : Rest) → Nests rest → length (lasts_of rest) ≤ (32 * depth rest + loops rest)
lasts_few (Over at) nests = omega arith
lasts_few (Next at line form rest) nests = lasts_few rest nests.1
lasts_few (Turn loop last rest) nests =
    let few = lasts_few rest nests.1 in
    let more = length-append (lasts_of rest) (last ∷ []) in
    omega (arith, few, more)
lasts_few (Join at rest) nests = lasts_few rest nests
lasts_few (Back at values rest) nests =
    let few = lasts_few rest nests.1 in
    let inner = loops_few rest nests.1 in
    omega (arith, few, inner)
lasts_few (Within pardo number rest) nests = lasts_few rest nests.1

-- before a statement that may hold loops there is room for one more
pub room_left : (form : Plain) (rest : Rest) → 1 ≤ nesting form → (nesting form + loops rest) ≤ most_nesting → Nests rest → length (lasts_of rest) < 544
room_left form rest some few nests =
    let all = lasts_few rest nests in
    let calls = depth_few rest nests in
    omega (arith, all, calls, some, few)
