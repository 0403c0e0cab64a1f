-- What comes next where the instruction at the cursor is no control: a statement, the end of a pardo's body, or nothing.
use Rattle.std.proofs.Common.{◌≡◌, ℕ, refl, subst, List}
use Rattle.sial_syntax.specs.Tree.{Tree, Plain}
use Rattle.sial_meaning.specs.Next.{form_next, next_of}
use Rattle.sial_meaning.specs.Rest.{Rest}
use Rattle.sip_tables.specs.declared.instruction.Operation.{Operation}
use Rattle.sip_tables.specs.declared.instruction.Operation.TheVariants as op
use Rattle.code_places.specs.Items.{ItemOf, IsSingle}
use Rattle.exec_control.specs.Stands.{IsControl, IsFollowed}

-- one instruction that is a statement
single : (p : Tree) (rest : Rest) (line : ℕ) (form : Plain) (item : IsSingle p rest line form) → IsControl (next_of rest) → IsControl (form_next line form item.more)
single p rest line form item control = subst (λ (r : Rest). IsControl (next_of r)) item.next.is control

-- no other instruction is control
pub no_other : (p : Tree) (rest : Rest) (line : ℕ) (o : Operation) → ItemOf p rest line o → IsControl (next_of rest) → IsFollowed o
    → (o ≡ op.Return → ⊥) → ((index past : ℕ) → o ≡ op.Do index past → ⊥) → ((sub index past : ℕ) → o ≡ op.DoIn sub index past → ⊥) → ((head : ℕ) → o ≡ op.EndDo head → ⊥)
    → ((past : ℕ) → o ≡ op.Else past → ⊥) → (o ≡ op.EndIf → ⊥) → ((indices : List ℕ) (end_at : ℕ) → o ≡ op.Pardo indices end_at → ⊥) → ((procedure entry : ℕ) → o ≡ op.Call procedure entry → ⊥) → ⊥
no_other p rest line op.Stop item control followed n1 n2 n3 n4 n5 n6 n7 n8 = subst (λ (r : Rest). IsControl (next_of r)) item control
no_other p rest line op.Return item control followed n1 n2 n3 n4 n5 n6 n7 n8 = n1 refl
no_other p rest line (op.Do index past) item control followed n1 n2 n3 n4 n5 n6 n7 n8 = n2 index past refl
no_other p rest line (op.DoIn sub index past) item control followed n1 n2 n3 n4 n5 n6 n7 n8 = n3 sub index past refl
no_other p rest line (op.EndDo head) item control followed n1 n2 n3 n4 n5 n6 n7 n8 = n4 head refl
no_other p rest line (op.If cond otherwise) item control followed n1 n2 n3 n4 n5 n6 n7 n8 = followed
no_other p rest line (op.Else past) item control followed n1 n2 n3 n4 n5 n6 n7 n8 = n5 past refl
no_other p rest line op.EndIf item control followed n1 n2 n3 n4 n5 n6 n7 n8 = n6 refl
no_other p rest line (op.Pardo indices end_at) item control followed n1 n2 n3 n4 n5 n6 n7 n8 = n7 indices end_at refl
no_other p rest line (op.Where cond) item control followed n1 n2 n3 n4 n5 n6 n7 n8 = item
no_other p rest line (op.EndPardo head) item control followed n1 n2 n3 n4 n5 n6 n7 n8 = subst (λ (r : Rest). IsControl (next_of r)) item.is control
no_other p rest line (op.Call procedure entry) item control followed n1 n2 n3 n4 n5 n6 n7 n8 = n8 procedure entry refl
no_other p rest line (op.Assign target combining right) item control followed n1 n2 n3 n4 n5 n6 n7 n8 = single p rest line _ item control
no_other p rest line (op.Get block) item control followed n1 n2 n3 n4 n5 n6 n7 n8 = single p rest line _ item control
no_other p rest line (op.Request block) item control followed n1 n2 n3 n4 n5 n6 n7 n8 = single p rest line _ item control
no_other p rest line (op.Put block how from) item control followed n1 n2 n3 n4 n5 n6 n7 n8 = single p rest line _ item control
no_other p rest line (op.Prepare block how from) item control followed n1 n2 n3 n4 n5 n6 n7 n8 = single p rest line _ item control
no_other p rest line (op.Create array) item control followed n1 n2 n3 n4 n5 n6 n7 n8 = single p rest line _ item control
no_other p rest line (op.Delete array) item control followed n1 n2 n3 n4 n5 n6 n7 n8 = single p rest line _ item control
no_other p rest line (op.Allocate array slots) item control followed n1 n2 n3 n4 n5 n6 n7 n8 = single p rest line _ item control
no_other p rest line (op.Deallocate array slots) item control followed n1 n2 n3 n4 n5 n6 n7 n8 = single p rest line _ item control
no_other p rest line (op.Collective into from) item control followed n1 n2 n3 n4 n5 n6 n7 n8 = single p rest line _ item control
no_other p rest line op.SipBarrier item control followed n1 n2 n3 n4 n5 n6 n7 n8 = single p rest line _ item control
no_other p rest line op.ServerBarrier item control followed n1 n2 n3 n4 n5 n6 n7 n8 = single p rest line _ item control
no_other p rest line (op.Print text) item control followed n1 n2 n3 n4 n5 n6 n7 n8 = subst (λ (r : Rest). IsControl (next_of r)) item.next.is control
no_other p rest line (op.PrintScalar scalar) item control followed n1 n2 n3 n4 n5 n6 n7 n8 = single p rest line _ item control
no_other p rest line (op.Integrals block) item control followed n1 n2 n3 n4 n5 n6 n7 n8 = single p rest line _ item control
