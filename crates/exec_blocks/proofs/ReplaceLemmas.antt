-- The words of a target before an assignment, by those that reading it gives.
use Rattle.std.proofs.Common.{◌≡◌, ℕ, List, [], Bool, true, false, Result, Ok, Err, Option, Some, None, refl, sym}
use Rattle.sial_syntax.specs.declared.array.ArrayKind.{ArrayKind}
use Rattle.sial_syntax.specs.declared.array.ArrayKind.TheVariants.{Static, Temp, Local, Distributed, Served}
use Rattle.sial_syntax.specs.declared.operand.BlockRef.{BlockRef}
use Rattle.sial_meaning.specs.declared.trap.TrapKind.{TrapKind}
use Rattle.sial_meaning.specs.declared.trap.TrapKind.TheVariants.{UnsetBlock, LocalMissing}
use Rattle.sial_meaning.specs.LocalStep.{held_words, old_or_empty, old_words, or_trap, words_by_kind, words_of}
use Rattle.sial_meaning.specs.Own.{Own, local_block, members_of, number_of, temp_of}
use Rattle.sial_meaning.specs.Setting.{Setting, array_kind}

-- those of a temp
temp-found : (needed : Bool) (o : Option (List ℕ)) (w : List ℕ) → or_trap UnsetBlock o ≡ Ok w → old_or_empty needed o ≡ Ok w
temp-found true o w e = e
temp-found false None w e = absurd cc
temp-found false (Some x) w e = e

temp-none : (o : Option (List ℕ)) → or_trap UnsetBlock o ≡ Err UnsetBlock → old_or_empty false o ≡ Ok []
temp-none None e = refl
temp-none (Some x) e = absurd cc

temp-trap : (needed : Bool) (o : Option (List ℕ)) (kind : TrapKind) → (kind ≡ UnsetBlock → needed ≡ true) → or_trap UnsetBlock o ≡ Err kind → old_or_empty needed o ≡ Err kind
temp-trap true o kind asked e = e
temp-trap false None kind asked e = let is : kind ≡ UnsetBlock = cc e in absurd (cc (asked is))
temp-trap false (Some x) kind asked e = absurd cc

-- a local block that isn't there is no unset one
local-other : (o : Option (List ℕ)) → or_trap LocalMissing o ≡ Err UnsetBlock → ⊥
local-other None e = absurd cc
local-other (Some x) e = absurd cc

module _ (g : Setting) (own : Own) (block : BlockRef) (needed : Bool) where
  -- words that are there
  pub old-found : (w : List ℕ) → words_of g own block [] ≡ Ok w → old_words g own block needed (array_kind g block.array) ≡ Ok w
  old-found w = by (array_kind g block.array)
    where
      by : (kind : ArrayKind) → words_by_kind g own block [] kind ≡ Ok w → old_words g own block needed kind ≡ Ok w
      by Static e = e
      by Temp e = temp-found needed (held_words (temp_of own block.array) (members_of g own block.at)) w e
      by Local e = e
      by Distributed e = e
      by Served e = e

  -- none, where none are needed
  pub old-none : needed ≡ false → words_of g own block [] ≡ Err UnsetBlock → old_words g own block needed (array_kind g block.array) ≡ Ok []
  old-none free = by (array_kind g block.array)
    where
      by : (kind : ArrayKind) → words_by_kind g own block [] kind ≡ Err UnsetBlock → old_words g own block needed kind ≡ Ok []
      by Static e = absurd cc
      by Temp e = rw free (temp-none (held_words (temp_of own block.array) (members_of g own block.at)) e)
      by Local e = absurd (local-other (local_block own block.array (number_of g own block)) e)
      by Distributed e = absurd cc
      by Served e = absurd cc

  -- a trap
  pub old-trap : (kind : TrapKind) → (kind ≡ UnsetBlock → needed ≡ true) → words_of g own block [] ≡ Err kind → old_words g own block needed (array_kind g block.array) ≡ Err kind
  old-trap kind asked = by (array_kind g block.array)
    where
      by : (k : ArrayKind) → words_by_kind g own block [] k ≡ Err kind → old_words g own block needed k ≡ Err kind
      by Static e = absurd cc
      by Temp e = temp-trap needed (held_words (temp_of own block.array) (members_of g own block.at)) kind asked e
      by Local e = e
      by Distributed e = absurd cc
      by Served e = absurd cc
