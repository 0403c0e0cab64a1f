-- Where control leads one worker alone.
use Rattle.std.proofs.Common.{◌≡◌, ℕ, ◌+◌, ◌-◌, ◌<◌, ◌≤◌, min, inl, inr, Bool, true, false, nat_lt, take, List, [], ◌∷◌, ◌++◌, length, Result, Ok, Err, refl, sym, ap, ◌∙◌, subst, arith}
use Rattle.std.proofs.Math.Nat.{min-le_left, min-le_right, le-min}
use Rattle.std.proofs.lemmas.Bool.{cases_lt}
use Rattle.std.proofs.lemmas.Bool.Decides.{nat_tests}
use Rattle.std.proofs.lemmas.List.{length-append}
use Rattle.std.proofs.Math.Seq.{take-append_seam}
use Rattle.block_pool.specs.Memory.{Memory}
use Rattle.sial_syntax.specs.Boxes.{volume, tuple_at}
use Rattle.sial_syntax.specs.Spaces.{box_of}
use Rattle.sial_syntax.specs.Tree.{Tree, Do, DoIn, Pardo, If, IfElse, Call}
use Rattle.sial_meaning.specs.declared.trap.Trap.{Trap}
use Rattle.sial_meaning.specs.Control.{Led, Goes, Halts, begun, taken, went_within, control}
use Rattle.sial_meaning.specs.Meaning.{all_met, taken_up, left}
use Rattle.sial_meaning.specs.Next as next
use Rattle.sial_meaning.specs.Next.{Task, next_of}
use Rattle.sial_meaning.specs.Own.{Own}
use Rattle.sial_meaning.specs.Rest.{PardoAt, Rest, Over, Next, Turn, Join, Back, Within}
use Rattle.sial_meaning.specs.Setting.{Setting}
use Rattle.sip_tables.specs.declared.instruction.Instruction.{Instruction}
use Rattle.sip_tables.specs.declared.instruction.Operation.{Operation}
use Rattle.sip_tables.specs.declared.instruction.Operation.TheVariants as op
use Rattle.code_places.specs.Head.{Says}
use Rattle.exec_control.specs.Needs.{IsAtPardoEnd}
use Rattle.exec_core.proofs.PardoLemmas.{IsGoing, pardo_goes}
use Rattle.exec_core.specs.Moves.{GoesOn, TakesUp}
use Rattle.exec_core.specs.Parts.{Parts}
use Rattle.exec_core.specs.Stands.{LocalStands}
use Rattle.exec_alone.specs.Alone.{AloneStands, GoesAlone, IsLed, LedTo, halted}
use Rattle.exec_alone.specs.Turns.{turns_of}
use Rattle.exec_alone.proofs.TurnLemmas.{pushed-turns, TurnsAre}

-- the rest of the work where a pardo's end comes next
pub end-is : (rest : Rest) → next_of rest ≡ next.End → (pardo : PardoAt) × (number : ℕ) × (more : Rest) × (rest ≡ Within pardo number more)
end-is (Over at) e = absurd cc
end-is (Next at line (Do index body) rest) e = absurd cc
end-is (Next at line (DoIn sub index body) rest) e = absurd cc
end-is (Next at line (Pardo indices wheres body) rest) e = absurd cc
end-is (Next at line (If test body) rest) e = absurd cc
end-is (Next at line (IfElse test body other) rest) e = absurd cc
end-is (Next at line (Call procedure) rest) e = absurd cc
end-is (Next at line form rest) e = absurd cc
end-is (Turn loop last rest) e = absurd cc
end-is (Join at rest) e = absurd cc
end-is (Back at values rest) e = absurd cc
end-is (Within pardo number rest) e = (pardo, number, rest, refl)

-- there the cursor is at the end of a pardo
pub at-end : (g : Setting) (p : Memory) (l : Parts) (rest : Rest) (own : Own) (partials : List ℕ) → LocalStands g p l rest own partials → next_of rest ≡ next.End → IsAtPardoEnd g l.control
at-end g p l rest own partials st e =
    let w = end-is rest e in
    let here : LocalStands g p l (Within w.0 w.1 w.2) own partials = subst (λ (r : Rest). LocalStands g p l r own partials) w.3 st in
    record { pardo = w.0; number = w.1; more = w.2; own = own; stands = here.control }

-- what the instruction of a pardo's head is
same-operation : (i : Instruction) (line : ℕ) (o : Operation) → i ≡ record { line = line; operation = o } → i.operation ≡ o
same-operation i line o is = ap (λ (j : Instruction). j.operation) is

-- at an instruction that is no pardo's head and no pardo's end, what is led is a loop, a branch or a call
pub only-control : (p : Tree) (rest : Rest) (i : Instruction) → Says p rest i → ((indices : List ℕ) (end_at : ℕ) → i.operation ≡ op.Pardo indices end_at → ⊥) → ((head : ℕ) → i.operation ≡ op.EndPardo head → ⊥)
    → IsLed (next_of rest) → next_of rest ≡ next.Control
only-control p (Over at) i says no_head no_end led = absurd led
only-control p (Next at line (Do index body) rest) i says no_head no_end led = refl
only-control p (Next at line (DoIn sub index body) rest) i says no_head no_end led = refl
only-control p (Next at line (Pardo indices wheres body) rest) i says no_head no_end led = absurd (no_head indices _ (same-operation i line _ says.is))
only-control p (Next at line (If test body) rest) i says no_head no_end led = refl
only-control p (Next at line (IfElse test body other) rest) i says no_head no_end led = refl
only-control p (Next at line (Call procedure) rest) i says no_head no_end led = refl
only-control p (Next at line form rest) i says no_head no_end led = absurd led
only-control p (Turn loop last rest) i says no_head no_end led = refl
only-control p (Join at rest) i says no_head no_end led = refl
only-control p (Back at values rest) i says no_head no_end led = refl
only-control p (Within pardo number rest) i says no_head no_end led = absurd (no_end pardo.head says)

-- a number below the lesser of two is below the first; one past it, and below the second, is past the first
pub below-first : (n t v m : ℕ) → t ≡ min v m → n < t → n < v
below-first n t v m is less = let least = min-le_left v m in omega (arith, is, less, least)

pub below-second : (n t v m : ℕ) → t ≡ min v m → n < t → n < m
below-second n t v m is less = let least = min-le_right v m in omega (arith, is, less, least)

pub past-first : (n t v m : ℕ) → t ≡ min v m → t ≤ n → n < m → v ≤ n
past-first n t v m is most low =
    elim (cases_lt n v) [
      | inl less ↦ let least : n < min v m = le-min less low in absurd (omega (arith, is, most, least))
      | inr le ↦ le
    ]

-- the last of a list taken away
pub popped : (xs ys outer : List ℕ) (number len : ℕ) → len ≡ length xs → xs ≡ outer ++ number ∷ [] → ys ≡ take (len - 1) xs → ys ≡ outer
popped xs ys outer number len long is taken_is =
    let whole : length (outer ++ number ∷ []) ≡ length outer + 1 = length-append outer (number ∷ []) in
    let one : len - 1 ≡ length outer = omega (arith, long, ap length is, whole) in
    taken_is ∙ ap (λ (n : ℕ). take n xs) one ∙ ap (take (length outer)) is ∙ take-append_seam outer (number ∷ [])

below-is : (a b : ℕ) → a < b → nat_lt a b ≡ true
below-is a b less = grind (arith, nat_tests)

past-is : (a b : ℕ) → b ≤ a → nat_lt a b ≡ false
past-is a b most = grind (arith, nat_tests)

-- a tuple that was taken up, by its `where` lines
begun-to : (g : Setting) (p : Memory) (l : Parts) (turns partials : List ℕ) (pardo : PardoAt) (number : ℕ) (more : Rest) (held : Own) (b met : Bool)
    → turns ≡ turns_of more ++ (number + 1) ∷ [] → TakesUp g p l pardo partials (begun b pardo number more held) met → LedTo g p l turns partials (begun b pardo number more held)
begun-to g p l turns partials pardo number more held true met e t =
    record { local = t.1; turns_are = e ∙ sym (pushed-turns (pardo.head + 1 + length pardo.wheres) pardo.body (Within pardo (number + 1) more)) }
begun-to g p l turns partials pardo number more held false met e t = record { local = t.1; turns_are = e }

-- control at the end of a pardo's body takes up the next tuple
pub taken-to : (g : Setting) (p : Memory) (l : Parts) (turns partials : List ℕ) (pardo : PardoAt) (number : ℕ) (more : Rest) (own : Own) (met : Bool)
    → number < volume (box_of g.spaces pardo.indices) → turns ≡ turns_of more ++ (number + 1) ∷ []
    → TakesUp g p l pardo partials (taken g pardo number more own) met → LedTo g p l turns partials (control g (Within pardo number more) own)
taken-to g p l turns partials pardo number more own met less e t =
    let held = taken_up g pardo.indices (tuple_at (box_of g.spaces pardo.indices) number) own in
    subst (λ (b : Bool). LedTo g p l turns partials (went_within g b pardo number more own)) (sym (below-is number (volume (box_of g.spaces pardo.indices)) less))
    (begun-to g p l turns partials pardo number more held (all_met held pardo.wheres) met e t)

-- or leaves the pardo behind its last one
pub left-to : (g : Setting) (p : Memory) (l : Parts) (turns partials : List ℕ) (pardo : PardoAt) (number : ℕ) (more : Rest) (own : Own)
    → volume (box_of g.spaces pardo.indices) ≤ number → turns ≡ turns_of more
    → LocalStands g p l more (left g pardo.indices own) partials → LedTo g p l turns partials (control g (Within pardo number more) own)
left-to g p l turns partials pardo number more own most e st =
    subst (λ (b : Bool). LedTo g p l turns partials (went_within g b pardo number more own)) (sym (past-is number (volume (box_of g.spaces pardo.indices)) most))
    (record { local = st; turns_are = e })

-- one trap
same-trap : (a b : Trap) → ◌≡◌ {A = Result (Unit {0}) Trap} (Err a) (Err b) → a ≡ b
same-trap a b e = cc

-- control that led on, or trapped and left all as it was
pub goes-alone : (g : Setting) (old new : Memory) (before after : Parts) (was is partials : List ℕ) (to : Led) (result : Result (Unit {0}) Trap)
    → TurnsAre is to → ((trap : Trap) → to ≡ Halts trap → is ≡ was) → GoesOn g old new before after partials to result → GoesAlone g old new before after was is partials to (halted result)
goes-alone g old new before after was is partials (Goes rest own) (Ok x) are keeps led = record { local = led.1; turns_are = are }
goes-alone g old new before after was is partials (Goes rest own) (Err trap) are keeps led = absurd cc
goes-alone g old new before after was is partials (Halts trap) (Ok x) are keeps led = absurd cc
goes-alone g old new before after was is partials (Halts trap) (Err other) are keeps led = (same-trap other trap led.0, led.1, keeps trap refl, led.2)

-- a pardo is entered without a trap
pub none-entering : (g : Setting) (rest : Rest) (own : Own) (trap : Trap) (is was : List ℕ) → next_of rest ≡ next.Pardo → control g rest own ≡ Halts trap → is ≡ was
none-entering g rest own trap is was pardo halts = absurd (subst IsGoing halts (pardo_goes g rest own pardo))
