-- Words that meet those of a slot.
use Rattle.std.specs.Prelude.{ℕ, zero, suc, ◌+◌, ◌%◌, ◌^◌, max, List, [], ◌∷◌}
use Rattle.block_pool.specs.declared.how.How.{How}
use Rattle.block_pool.specs.declared.how.How.TheVariants.{Set, Add, Greatest}

-- what one word becomes where another comes; sums wrap
abbrev pub mixed_word : How → ℕ → ℕ → ℕ
mixed_word Set old word = word
mixed_word Add old word = (old + word) % 2 ^ 64
mixed_word Greatest old word = max old word

-- the first words of the second list meet the first list, and the other words stay
abbrev pub mixed : How → ℕ → List ℕ → List ℕ → List ℕ
mixed how zero old new = old
mixed how (suc n) [] new = []
mixed how (suc n) (x ∷ xs) [] = x ∷ xs
mixed how (suc n) (x ∷ xs) (y ∷ ys) = mixed_word how x y ∷ mixed how n xs ys
