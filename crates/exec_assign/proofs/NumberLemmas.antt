-- Scalars assigned the number of a right side.
use Rattle.std.proofs.Common.{◌≡◌, ℕ, List, Result, Ok, Err, refl, sym, subst}
use Rattle.sial_syntax.specs.declared.operand.Op.{Op}
use Rattle.sial_meaning.specs.declared.trap.TrapKind.{TrapKind}
use Rattle.sial_meaning.specs.LocalStep.{Answer, and_then, scalar_value, to_scalar}
use Rattle.sial_meaning.specs.Own.{Own}
use Rattle.sial_meaning.specs.Right.{Side}
use Rattle.sial_meaning.specs.Setting.{Setting, scalar_class}
use Rattle.exec_scalars.specs.Answers.{EndsWith}
use Rattle.exec_scalars.specs.Numbers.{Numbers}
use Rattle.exec_sides.specs.Fits.{FitsNumber, IsNumberOf}
use Rattle.exec_assign.specs.Answers.{IsValue}

-- the number of a right side that was read
pub value_read : (g : Setting) (values : List ℕ) (read : Answer Side) (side : Side) (n : ℕ) → read ≡ Ok side → FitsNumber g.spaces values side → IsNumberOf side n → IsValue g read (Ok n)
value_read g values read side n is fits number = subst (λ (r : Answer Side). IsValue g r (Ok n)) (sym is) (sym (number g.spaces values fits))

-- the trap of reading it
pub value_trap : (g : Setting) (read : Answer Side) (kind : TrapKind) → read ≡ Err kind → IsValue g read (Err kind)
value_trap g read kind is = subst (λ (r : Answer Side). IsValue g r (Err kind)) (sym is) refl

-- a scalar that was assigned it
pub assigned_value : (g : Setting) (old new : Numbers) (own : Own) (partials : List ℕ) (scalar : ℕ) (op : Op) (read : Answer Side) (value : Result ℕ TrapKind) (n : ℕ) (result : Result (Unit {0}) TrapKind) → IsValue g read value → value ≡ Ok n
    → ((side : Side) → scalar_value g side ≡ n → EndsWith old new own (to_scalar g (scalar_class g scalar) scalar op side own partials) result)
    → EndsWith old new own (and_then read (λ side. to_scalar g (scalar_class g scalar) scalar op side own partials)) result
assigned_value g old new own partials scalar op (Ok side) value n result is ok assigned = assigned side (subst (IsValue g (Ok side)) ok is)
assigned_value g old new own partials scalar op (Err trap) value n result is ok assigned = absurd (subst (IsValue g (Err trap)) ok is)

-- nothing was assigned
pub assigned_trap : (g : Setting) (old : Numbers) (own : Own) (partials : List ℕ) (scalar : ℕ) (op : Op) (read : Answer Side) (value : Result ℕ TrapKind) (kind : TrapKind) → IsValue g read value → value ≡ Err kind
    → EndsWith old old own (and_then read (λ side. to_scalar g (scalar_class g scalar) scalar op side own partials)) (Err kind)
assigned_trap g old own partials scalar op (Ok side) value kind is err = absurd (subst (IsValue g (Ok side)) err is)
assigned_trap g old own partials scalar op (Err trap) value kind is err = (subst (IsValue g (Err trap)) err is, refl)
