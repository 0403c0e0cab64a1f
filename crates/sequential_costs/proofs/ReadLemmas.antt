-- Which operands are shared blocks.
use Rattle.std.proofs.Common.{◌≡◌, ℕ, List, [], ◌∷◌, length, slice_index_or, Bool, true, false, if◌then◌else◌, refl, sym, ap, ◌∙◌}
use Rattle.sial_meaning.specs.LocalStep.{is_shared_kind, shared_operand}
use Rattle.sial_meaning.specs.Setting.{no_array}
use Rattle.sial_syntax.specs.Spaces.{Spaces}
use Rattle.sial_syntax.specs.declared.array.ArrayDecl.{ArrayDecl}
use Rattle.sial_syntax.specs.declared.operand.BlockRef.{BlockRef}
use Rattle.sial_syntax.specs.declared.operand.Operand.{Operand}
use Rattle.sial_syntax.specs.declared.operand.Operand.TheVariants.{Block}
use Rattle.sequential_costs.specs.Over.{over}

counted : (b : BlockRef) (shared : Bool) → length (if shared then b ∷ [] else []) ≡ (if shared then 1 else 0)
counted b true = refl
counted b false = refl

-- A block of a shared array is one.
pub shared : (arrays : List ArrayDecl) (a : Operand) (b : BlockRef) → a ≡ Block b → is_shared_kind (slice_index_or arrays b.array no_array).kind ≡ true → (spaces : Spaces)
    → ◌≡◌ {A = ℕ} 1 (length (shared_operand (over spaces arrays) a))
shared arrays a b is among spaces =
    sym (ap (λ (x : Operand). length (shared_operand (over spaces arrays) x)) is ∙ (counted b (is_shared_kind (slice_index_or arrays b.array no_array).kind) ∙ ap (λ t. if t then 1 else 0) among))

-- A block of another array is none.
pub own : (arrays : List ArrayDecl) (a : Operand) (b : BlockRef) → a ≡ Block b → is_shared_kind (slice_index_or arrays b.array no_array).kind ≡ false → (spaces : Spaces)
    → ◌≡◌ {A = ℕ} 0 (length (shared_operand (over spaces arrays) a))
own arrays a b is among spaces =
    sym (ap (λ (x : Operand). length (shared_operand (over spaces arrays) x)) is ∙ (counted b (is_shared_kind (slice_index_or arrays b.array no_array).kind) ∙ ap (λ t. if t then 1 else 0) among))
