-- The elements of named blocks, whichever values are read.
use Rattle.std.proofs.Common.{◌≡◌, ℕ, List, [], ◌∷◌, ◌++◌, map, true, false, Bool, Result, Ok, Err, Option, refl, ap, ◌∙◌}
use Rattle.std.specs.Prelude.{IfOk, IfErr, if◌then◌else◌}
use Rattle.std.specs.Borrow.{Bor}
use Rattle.block_pool.specs.Memory.{Memory}
use Rattle.sial_syntax.specs.declared.array.ArrayKind.{ArrayKind}
use Rattle.sial_syntax.specs.declared.array.ArrayKind.TheVariants.{Static, Temp, Local, Distributed, Served}
use Rattle.sial_syntax.specs.declared.operand.BlockRef.{BlockRef}
use Rattle.sial_syntax.specs.declared.operand.Operand.TheVariants.{Block}
use Rattle.sial_meaning.specs.declared.trap.TrapKind.{TrapKind}
use Rattle.sial_meaning.specs.LocalStep.{first_value, is_shared_kind, words_by_kind, words_of}
use Rattle.sial_meaning.specs.Own.{Own}
use Rattle.sial_meaning.specs.Setting.{Setting, array_kind}
use Rattle.exec_sides.specs.Short.{volume_now}
use Rattle.exec_assign.specs.Answers.{answer_of}
use Rattle.exec_assign.specs.Lent.{lent_words, operand_values}

-- a shared block's are the first of the values
shared_kind : (g : Setting) (own : Own) (block : BlockRef) (values : List (List ℕ)) (kind : ArrayKind) → is_shared_kind kind ≡ true → words_by_kind g own block values kind ≡ Ok (first_value values)
shared_kind g own block values Static is = absurd cc
shared_kind g own block values Temp is = absurd cc
shared_kind g own block values Local is = absurd cc
shared_kind g own block values Distributed is = refl
shared_kind g own block values Served is = refl

pub shared_words : (g : Setting) (own : Own) (block : BlockRef) (values : List (List ℕ)) (words : List ℕ) → is_shared_kind (array_kind g block.array) ≡ true → first_value values ≡ words
    → words_of g own block values ≡ Ok words
shared_words g own block values words is first = shared_kind g own block values (array_kind g block.array) is ∙ ap Ok first

-- a worker's own don't depend on them
own_kind : (g : Setting) (own : Own) (block : BlockRef) (values : List (List ℕ)) (kind : ArrayKind) → is_shared_kind kind ≡ false → words_by_kind g own block values kind ≡ words_by_kind g own block [] kind
own_kind g own block values Static is = refl
own_kind g own block values Temp is = refl
own_kind g own block values Local is = refl
own_kind g own block values Distributed is = absurd cc
own_kind g own block values Served is = absurd cc

pub own_words : (g : Setting) (own : Own) (block : BlockRef) (values : List (List ℕ)) (result : Result (Bor (List ℕ)) TrapKind) → is_shared_kind (array_kind g block.array) ≡ false
    → IfOk result (λ words. words_of g own block [] ≡ Ok words.now) → IfErr result (λ kind. words_of g own block [] ≡ Err kind)
    → words_of g own block values ≡ answer_of (λ (words : Bor (List ℕ)). words.now) result
own_words g own block values (Ok words) is ok err = own_kind g own block values (array_kind g block.array) is ∙ ok
own_words g own block values (Err kind) is ok err = own_kind g own block values (array_kind g block.array) is ∙ err

-- the values that an operand reads begin with its own
pub front_value : (g : Setting) (p : Memory) (values : List ℕ) (lease : Option ℕ) (block : BlockRef) (more : List (List ℕ)) → is_shared_kind (array_kind g block.array) ≡ true
    → first_value (operand_values g p values lease (Block block) ++ more) ≡ lent_words p (volume_now g.spaces values block.at) lease
front_value g p values lease block more is =
    ap (λ (shared : Bool). first_value (map (λ (b : BlockRef). lent_words p (volume_now g.spaces values b.at) lease) (if shared then block ∷ [] else []) ++ more)) is
