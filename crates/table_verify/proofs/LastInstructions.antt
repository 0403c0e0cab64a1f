-- Which instruction it is, told by its role and its jump.
use Rattle.std.proofs.Common.{◌≡◌, inl, inr, ℕ, Bool, true, false, refl, sym, ap, ◌∙◌}
use Rattle.sial_syntax.specs.declared.condition.Cond.{Cond}
use Rattle.sip_tables.specs.declared.instruction.Operation.{Operation}
use Rattle.sip_tables.specs.declared.instruction.Operation.TheVariants as op
use Rattle.table_verify.specs.Jumps.{Jump, jump, IsIn}
use Rattle.table_verify.specs.Outline.{Role, Alone, Test, Other, EndLoop, EndPardo, EndBranch, EndProgram, EndProcedure, role}
use Rattle.table_verify.specs.Things.{prints_of}
use Rattle.table_verify.proofs.JumpEnds.{leap}

abbrev is_alone : Role → Bool
is_alone Alone = true
is_alone _ = false

pub silent : (o : Operation) (r : Role) → role o ≡ r → is_alone r ≡ false → prints_of o ≡ 0
silent (op.Print number) r e other = let never : true ≡ false = ap is_alone e ∙ other in absurd cc
silent _ r e other = refl

pub end_do_is : (place to : ℕ) (o : Operation) → role o ≡ EndLoop → IsIn (leap place to) (jump place o) → o ≡ op.EndDo to
end_do_is place to (op.EndDo head) e (inl q) = ap op.EndDo (ap (λ (j : Jump). j.reach) (sym q))
end_do_is place to (op.EndDo head) e (inr q) = absurd q
end_do_is place to _ e q = absurd cc

pub end_pardo_is : (place to : ℕ) (o : Operation) → role o ≡ EndPardo → IsIn (leap place to) (jump place o) → o ≡ op.EndPardo to
end_pardo_is place to (op.EndPardo head) e (inl q) = ap op.EndPardo (ap (λ (j : Jump). j.reach) (sym q))
end_pardo_is place to (op.EndPardo head) e (inr q) = absurd q
end_pardo_is place to _ e q = absurd cc

pub else_is : (place to : ℕ) (o : Operation) → role o ≡ Other → IsIn (leap place to) (jump place o) → o ≡ op.Else to
else_is place to (op.Else past) e (inl q) = ap op.Else (ap (λ (j : Jump). j.reach) (sym q))
else_is place to (op.Else past) e (inr q) = absurd q
else_is place to _ e q = absurd cc

pub end_if_is : (o : Operation) → role o ≡ EndBranch → o ≡ op.EndIf
end_if_is op.EndIf e = refl
end_if_is _ e = absurd cc

pub stop_is : (o : Operation) → role o ≡ EndProgram → o ≡ op.Stop
stop_is op.Stop e = refl
stop_is _ e = absurd cc

pub return_is : (o : Operation) → role o ≡ EndProcedure → o ≡ op.Return
return_is op.Return e = refl
return_is _ e = absurd cc

pub where_is : (o : Operation) → role o ≡ Test → (c : Cond) × (o ≡ op.Where c)
where_is (op.Where c) e = (c, refl)
where_is _ e = absurd cc
