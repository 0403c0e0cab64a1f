-- What a write leaves for the next call.
use Rattle.std.proofs.Common.{◌≡◌, ℕ, List, true, cond, Option, Some, None, IsSome, refl, sym, ap, ◌∙◌, subst, arith}
use Rattle.std.proofs.lemmas.Bool.Decides.{nat_tests}
use Rattle.std.proofs.lemmas.Cmp.{nat_cmp_total}
use Rattle.std.specs.FinMap as map
use Rattle.std.specs.FinMap.{get-insert}
use Rattle.std.specs.Ordering.{nat_cmp, eq_by_cmp}
use Rattle.block_store.specs.Store.{Blocks, WhereTold, Sets}

-- a number is itself
itself : (block : ℕ) → eq_by_cmp nat_cmp block block ≡ true
itself block = grind (arith, nat_tests)

-- a block that was inserted has its numbers
pub get-inserted : (blocks : Blocks) (block : ℕ) (words : List ℕ) → map.get (map.insert blocks block words) block ≡ Some words
get-inserted blocks block words = get-insert nat_cmp_total blocks block words block ∙ ap (λ b. cond b (Some words) (map.get blocks block)) (itself block)

-- a block that was set is there, with its numbers
pub told_after_set : (old new : Option Blocks) (block : ℕ) (words : List ℕ) → Sets old new block words → WhereTold new (λ blocks. map.get blocks block ≡ Some words)
told_after_set None new block words set = subst (λ (told : Option Blocks). WhereTold told (λ blocks. map.get blocks block ≡ Some words)) (sym set) tt
told_after_set (Some old) new block words set = subst (λ (told : Option Blocks). WhereTold told (λ blocks. map.get blocks block ≡ Some words)) (sym set) (get-inserted old block words)

-- so it can be read
pub there_after_set : (old new : Option Blocks) (block : ℕ) (words : List ℕ) → Sets old new block words → WhereTold new (λ blocks. IsSome (map.get blocks block))
there_after_set None new block words set = subst (λ (told : Option Blocks). WhereTold told (λ blocks. IsSome (map.get blocks block))) (sym set) tt
there_after_set (Some old) new block words set =
    subst (λ (told : Option Blocks). WhereTold told (λ blocks. IsSome (map.get blocks block))) (sym set)
    (subst (λ (found : Option (List ℕ)). IsSome found) (sym (get-inserted old block words)) refl)
