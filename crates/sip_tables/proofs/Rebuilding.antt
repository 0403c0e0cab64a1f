-- Statements are found again in their code and in the texts that they print.
use Rattle.std.proofs.Common.{◌≡◌, ℕ, zero, suc, ◌+◌, List, [], ◌∷◌, ◌++◌, length, drop, get_or, refl, sym, subst, append_assoc}
use Rattle.sial_syntax.specs.declared.condition.Cond.{Cond}
use Rattle.sial_syntax.specs.Numbering.{size}
use Rattle.sial_syntax.specs.Tree.{Block, End, Then, Plain, Do, DoIn, Pardo, If, IfElse, Call, Assign, Get, Request, Put, Prepare, Create, Delete, Allocate, Deallocate, Collective, SipBarrier, ServerBarrier, Print, PrintScalar, Integrals}
use Rattle.sip_tables.specs.Code.{wheres_code, form_code, body_code}
use Rattle.sip_tables.specs.declared.instruction.Instruction.{Instruction}
use Rattle.sip_tables.specs.declared.instruction.Operation.{Operation}
use Rattle.sip_tables.specs.declared.instruction.Operation.TheVariants as op
use Rattle.sip_tables.specs.Texts.{prints}

-- what is left of code and texts
abbrev pub Left : Type 0
Left = List Instruction × List (List ℕ)

-- statements from the front of code and texts
abbrev pub Again : Type 0
Again = List Instruction → List (List ℕ) → Block × Left

-- a statement, and those from what is left
unfoldable pub with_rest : (line : ℕ) → Plain → Again → List Instruction → List (List ℕ) → Block × Left
with_rest line form again code texts = (Then line form (again code texts).0, (again code texts).1)

-- the tests of a pardo at the front of code, and what is left
abbrev test_before : List Cond × List Instruction → List Instruction → Operation → List Cond × List Instruction
test_before found whole (op.Where test) = (test ∷ found.0, found.1)
test_before found whole _ = ([], whole)

abbrev pub tests_from : List Instruction → List Cond × List Instruction
tests_from [] = ([], [])
tests_from (i ∷ rest) = test_before (tests_from rest) (i ∷ rest) i.operation

-- an `if` whose first branch was found
unfoldable pub after_branch : (again : Again) → (line : ℕ) → Cond → Block → Operation → List Instruction → List (List ℕ) → Block × Left
after_branch again line cond body (op.Else past) code texts = with_rest line (IfElse cond body (again code texts).0) again (drop 1 (again code texts).1.0) (again code texts).1.1
after_branch again line cond body _ code texts = with_rest line (If cond body) again code texts

unfoldable pub if_from : (again : Again) → (line : ℕ) → Cond → Block → List Instruction → List (List ℕ) → Block × Left
if_from again line cond body [] texts = (End, ([], texts))
if_from again line cond body (i ∷ rest) texts = after_branch again line cond body i.operation rest texts

-- a pardo whose tests were found
unfoldable pub pardo_from : (again : Again) → (line : ℕ) → (indices : List ℕ) → List Cond × List Instruction → List (List ℕ) → Block × Left
pardo_from again line indices tests texts =
    with_rest line (Pardo indices tests.0 (again tests.1 texts).0) again (drop 1 (again tests.1 texts).1.0) (again tests.1 texts).1.1

-- statements from the front of code that begins with an operation on this line
unfoldable pub statement_from : (again : Again) → (line : ℕ) → Operation → (whole code : List Instruction) → (texts : List (List ℕ)) → Block × Left
statement_from again line (op.Do index past) whole code texts = with_rest line (Do index (again code texts).0) again (drop 1 (again code texts).1.0) (again code texts).1.1
statement_from again line (op.DoIn sub index past) whole code texts = with_rest line (DoIn sub index (again code texts).0) again (drop 1 (again code texts).1.0) (again code texts).1.1
statement_from again line (op.If cond otherwise) whole code texts = if_from again line cond (again code texts).0 (again code texts).1.0 (again code texts).1.1
statement_from again line (op.Pardo indices last) whole code texts = pardo_from again line indices (tests_from code) texts
statement_from again line (op.Print text) whole code texts = with_rest line (Print (get_or texts 0 [])) again code (drop 1 texts)
statement_from again line (op.Call procedure entry) whole code texts = with_rest line (Call procedure) again code texts
statement_from again line (op.Assign target combining right) whole code texts = with_rest line (Assign target combining right) again code texts
statement_from again line (op.Get block) whole code texts = with_rest line (Get block) again code texts
statement_from again line (op.Put block how from) whole code texts = with_rest line (Put block how from) again code texts
statement_from again line (op.Request block) whole code texts = with_rest line (Request block) again code texts
statement_from again line (op.Prepare block how from) whole code texts = with_rest line (Prepare block how from) again code texts
statement_from again line (op.Create array) whole code texts = with_rest line (Create array) again code texts
statement_from again line (op.Delete array) whole code texts = with_rest line (Delete array) again code texts
statement_from again line (op.Allocate array slots) whole code texts = with_rest line (Allocate array slots) again code texts
statement_from again line (op.Deallocate array slots) whole code texts = with_rest line (Deallocate array slots) again code texts
statement_from again line (op.Collective into from) whole code texts = with_rest line (Collective into from) again code texts
statement_from again line op.SipBarrier whole code texts = with_rest line SipBarrier again code texts
statement_from again line op.ServerBarrier whole code texts = with_rest line ServerBarrier again code texts
statement_from again line (op.PrintScalar scalar) whole code texts = with_rest line (PrintScalar scalar) again code texts
statement_from again line (op.Integrals block) whole code texts = with_rest line (Integrals block) again code texts
statement_from again line _ whole code texts = (End, (whole, texts))

unfoldable pub statements_from : Again → Again
statements_from again [] texts = (End, ([], texts))
statements_from again (i ∷ rest) texts = statement_from again i.line i.operation (i ∷ rest) rest texts

-- statements from the front of code and texts, so many at most
unfoldable pub rebuilt : (most : ℕ) → Again
rebuilt zero code texts = (End, (code, texts))
rebuilt (suc n) code texts = statements_from (rebuilt n) code texts

-- ---- where statements end

-- an operation that begins no statement
abbrev pub IsEnd : Operation → Type 0
IsEnd op.Stop = Unit {0}
IsEnd op.Return = Unit {0}
IsEnd (op.Do index past) = ⊥
IsEnd (op.EndDo head) = Unit {0}
IsEnd (op.DoIn sub index past) = ⊥
IsEnd (op.If test otherwise) = ⊥
IsEnd (op.Else past) = Unit {0}
IsEnd op.EndIf = Unit {0}
IsEnd (op.Pardo indices last) = ⊥
IsEnd (op.Where test) = Unit {0}
IsEnd (op.EndPardo head) = Unit {0}
IsEnd (op.Call procedure entry) = ⊥
IsEnd (op.Assign target combining right) = ⊥
IsEnd (op.Get block) = ⊥
IsEnd (op.Put block how from) = ⊥
IsEnd (op.Request block) = ⊥
IsEnd (op.Prepare block how from) = ⊥
IsEnd (op.Create array) = ⊥
IsEnd (op.Delete array) = ⊥
IsEnd (op.Allocate array slots) = ⊥
IsEnd (op.Deallocate array slots) = ⊥
IsEnd (op.Collective into from) = ⊥
IsEnd op.SipBarrier = ⊥
IsEnd op.ServerBarrier = ⊥
IsEnd (op.Print text) = ⊥
IsEnd (op.PrintScalar scalar) = ⊥
IsEnd (op.Integrals block) = ⊥

-- code that doesn't begin with a statement
abbrev pub Ends : List Instruction → Type 0
Ends [] = Unit {0}
Ends (i ∷ rest) = IsEnd i.operation

end_found : (again : Again) (line : ℕ) (operation : Operation) (whole code : List Instruction) (texts : List (List ℕ)) → IsEnd operation → statement_from again line operation whole code texts ≡ (End, (whole, texts))
unfolding statement_from
end_found again line op.Stop whole code texts is = refl
end_found again line op.Return whole code texts is = refl
end_found again line (op.Do index past) whole code texts is = absurd is
end_found again line (op.EndDo head) whole code texts is = refl
end_found again line (op.DoIn sub index past) whole code texts is = absurd is
end_found again line (op.If test otherwise) whole code texts is = absurd is
end_found again line (op.Else past) whole code texts is = refl
end_found again line op.EndIf whole code texts is = refl
end_found again line (op.Pardo indices last) whole code texts is = absurd is
end_found again line (op.Where test) whole code texts is = refl
end_found again line (op.EndPardo head) whole code texts is = refl
end_found again line (op.Call procedure entry) whole code texts is = absurd is
end_found again line (op.Assign target combining right) whole code texts is = absurd is
end_found again line (op.Get block) whole code texts is = absurd is
end_found again line (op.Put block how from) whole code texts is = absurd is
end_found again line (op.Request block) whole code texts is = absurd is
end_found again line (op.Prepare block how from) whole code texts is = absurd is
end_found again line (op.Create array) whole code texts is = absurd is
end_found again line (op.Delete array) whole code texts is = absurd is
end_found again line (op.Allocate array slots) whole code texts is = absurd is
end_found again line (op.Deallocate array slots) whole code texts is = absurd is
end_found again line (op.Collective into from) whole code texts is = absurd is
end_found again line op.SipBarrier whole code texts is = absurd is
end_found again line op.ServerBarrier whole code texts is = absurd is
end_found again line (op.Print text) whole code texts is = absurd is
end_found again line (op.PrintScalar scalar) whole code texts is = absurd is
end_found again line (op.Integrals block) whole code texts is = absurd is

pub ends_found : (again : Again) (code : List Instruction) (texts : List (List ℕ)) → Ends code → statements_from again code texts ≡ (End, (code, texts))
unfolding statements_from
ends_found again [] texts is = refl
ends_found again (i ∷ rest) texts is = end_found again i.line i.operation (i ∷ rest) rest texts is

-- ---- tests of pardos

-- an operation that is no test
abbrev IsOther : Operation → Type 0
IsOther op.Stop = Unit {0}
IsOther op.Return = Unit {0}
IsOther (op.Do index past) = Unit {0}
IsOther (op.EndDo head) = Unit {0}
IsOther (op.DoIn sub index past) = Unit {0}
IsOther (op.If test otherwise) = Unit {0}
IsOther (op.Else past) = Unit {0}
IsOther op.EndIf = Unit {0}
IsOther (op.Pardo indices last) = Unit {0}
IsOther (op.Where test) = ⊥
IsOther (op.EndPardo head) = Unit {0}
IsOther (op.Call procedure entry) = Unit {0}
IsOther (op.Assign target combining right) = Unit {0}
IsOther (op.Get block) = Unit {0}
IsOther (op.Put block how from) = Unit {0}
IsOther (op.Request block) = Unit {0}
IsOther (op.Prepare block how from) = Unit {0}
IsOther (op.Create array) = Unit {0}
IsOther (op.Delete array) = Unit {0}
IsOther (op.Allocate array slots) = Unit {0}
IsOther (op.Deallocate array slots) = Unit {0}
IsOther (op.Collective into from) = Unit {0}
IsOther op.SipBarrier = Unit {0}
IsOther op.ServerBarrier = Unit {0}
IsOther (op.Print text) = Unit {0}
IsOther (op.PrintScalar scalar) = Unit {0}
IsOther (op.Integrals block) = Unit {0}

abbrev pub BeginsOther : List Instruction → Type 0
BeginsOther [] = Unit {0}
BeginsOther (i ∷ rest) = IsOther i.operation

no_test : (found : List Cond × List Instruction) (whole : List Instruction) (operation : Operation) → IsOther operation → test_before found whole operation ≡ ([], whole)
no_test found whole op.Stop other = refl
no_test found whole op.Return other = refl
no_test found whole (op.Do index past) other = refl
no_test found whole (op.EndDo head) other = refl
no_test found whole (op.DoIn sub index past) other = refl
no_test found whole (op.If test otherwise) other = refl
no_test found whole (op.Else past) other = refl
no_test found whole op.EndIf other = refl
no_test found whole (op.Pardo indices last) other = refl
no_test found whole (op.Where test) other = absurd other
no_test found whole (op.EndPardo head) other = refl
no_test found whole (op.Call procedure entry) other = refl
no_test found whole (op.Assign target combining right) other = refl
no_test found whole (op.Get block) other = refl
no_test found whole (op.Put block how from) other = refl
no_test found whole (op.Request block) other = refl
no_test found whole (op.Prepare block how from) other = refl
no_test found whole (op.Create array) other = refl
no_test found whole (op.Delete array) other = refl
no_test found whole (op.Allocate array slots) other = refl
no_test found whole (op.Deallocate array slots) other = refl
no_test found whole (op.Collective into from) other = refl
no_test found whole op.SipBarrier other = refl
no_test found whole op.ServerBarrier other = refl
no_test found whole (op.Print text) other = refl
no_test found whole (op.PrintScalar scalar) other = refl
no_test found whole (op.Integrals block) other = refl

no_tests : (code : List Instruction) → BeginsOther code → tests_from code ≡ ([], code)
no_tests [] other = refl
no_tests (i ∷ rest) other = no_test (tests_from rest) (i ∷ rest) i.operation other

pub tests_found : (line : ℕ) (wheres : List Cond) (code : List Instruction) → BeginsOther code → tests_from (wheres_code line wheres ++ code) ≡ (wheres, code)
tests_found line [] code other = no_tests code other
tests_found line (w ∷ ws) code other = let rest = tests_found line ws code other in rw rest refl

-- statements begin with no test
form_begins : (entries : List ℕ) (at text line : ℕ) (form : Plain) (code : List Instruction) → BeginsOther (form_code entries at text line form ++ code)
form_begins entries at text line (Do index body) code = tt
form_begins entries at text line (DoIn sub index body) code = tt
form_begins entries at text line (Pardo indices wheres body) code = tt
form_begins entries at text line (If cond body) code = tt
form_begins entries at text line (IfElse cond body other) code = tt
form_begins entries at text line (Call procedure) code = tt
form_begins entries at text line (Assign target combining right) code = tt
form_begins entries at text line (Get block) code = tt
form_begins entries at text line (Put block how from) code = tt
form_begins entries at text line (Request block) code = tt
form_begins entries at text line (Prepare block how from) code = tt
form_begins entries at text line (Create array) code = tt
form_begins entries at text line (Delete array) code = tt
form_begins entries at text line (Allocate array slots) code = tt
form_begins entries at text line (Deallocate array slots) code = tt
form_begins entries at text line (Collective into from) code = tt
form_begins entries at text line SipBarrier code = tt
form_begins entries at text line ServerBarrier code = tt
form_begins entries at text line (PrintScalar scalar) code = tt
form_begins entries at text line (Integrals block) code = tt
form_begins entries at text line (Print printed) code = tt

pub body_begins : (entries : List ℕ) (at text : ℕ) (body : Block) (code : List Instruction) → BeginsOther code → BeginsOther (body_code entries at text body ++ code)
body_begins entries at text End code other = other
body_begins entries at text (Then line form rest) code other =
    let back = body_code entries (at + size form) (text + length (prints form)) rest in
    subst (λ (c : List Instruction). BeginsOther c) (sym (append_assoc (form_code entries at text line form) back code)) (form_begins entries at text line form (back ++ code))
