-- Two blocks that meet a target one after the other, and what that comes to.
use Rattle.std.proofs.Common.{◌≡◌, ℕ, ◌+◌, ◌-◌, ◌*◌, ◌%◌, ◌^◌, ◌<◌, Bool, true, false, List, length, refl, sym, ap, ◌∙◌, subst, arith}
use Rattle.block_math.specs.Elements.{scaled}
use Rattle.kernel_permute.specs.How.{combined}
use Rattle.kernel_permute.specs.declared.how.How.{How}
use Rattle.kernel_permute.specs.declared.how.How.TheVariants.{Set, Add, Subtract}
use Rattle.sial_syntax.specs.Boxes.{volume, place_of}
use Rattle.sial_syntax.proofs.BoxLemmas.{place-within}
use Rattle.sial_meaning.specs.Sight.{Sight}
use Rattle.exec_sides.specs.Joined.{BothMet, joined, second_of}
use Rattle.exec_sides.specs.Met.{Met}
use Rattle.exec_sides.specs.Named.{IsCopy, number_at}
use Rattle.exec_sides.proofs.Numbers.{scaled-at, scaled-long}

-- one after the other
pub both-met : (how second : How) (dims : List ℕ) (first other : List ℕ → ℕ) (old mid new : List ℕ) → Met how dims first old mid → Met second dims other mid new → BothMet how second dims first other old new
both-met how second dims first other old mid new one two = record {
  each = λ tuple are. two.each tuple are ∙ ap (λ n. combined second n (other tuple)) (one.each tuple are);
  len = two.len ∙ one.len;
}

-- a target that was met has as many numbers, so it can be copied to as before
pub copy-again : (to from : Sight) (words : List ℕ) → IsCopy to from → length words ≡ length to.words → IsCopy (record { at = to.at; extents = to.extents; words = words }) from
copy-again to from words copy long = record {
  target = record { once = copy.target.once; most = copy.target.most; extents = copy.target.extents; words = long ∙ copy.target.words; few = subst (λ n. n < 2 ^ 32) (sym long) copy.target.few };
  source = copy.source;
  some = copy.some;
  same = copy.same;
  alike = copy.alike;
}

-- added, or set and then added
sum-added : (o a b : ℕ) → ((o + a) % 2 ^ 64 + b) % 2 ^ 64 ≡ (o + (a + b) % 2 ^ 64) % 2 ^ 64
sum-added o a b = omega arith

-- what is taken away, by way of the opposite
opposite : (o a b : ℕ) → ((((o * (2 ^ 64 - 1)) % 2 ^ 64 + a) % 2 ^ 64 + b) % 2 ^ 64 * (2 ^ 64 - 1)) % 2 ^ 64 ≡ (o + (2 ^ 64 - (a + b) % 2 ^ 64)) % 2 ^ 64
opposite o a b = omega arith

-- a target that is set or added to
pub joined-met : (how : How) (minus : Bool) (dims : List ℕ) (first other : List ℕ → ℕ) (old new : List ℕ) → (how ≡ Subtract → ⊥) → BothMet how (second_of minus) dims first other old new → Met how dims (λ t. joined minus (first t) (other t)) old new
joined-met Set false dims first other old new taken met = record { each = λ tuple are. met.each tuple are; len = met.len }
joined-met Set true dims first other old new taken met = record { each = λ tuple are. met.each tuple are; len = met.len }
joined-met Add false dims first other old new taken met = record { each = λ tuple are. met.each tuple are ∙ sum-added (number_at dims old tuple) (first tuple) (other tuple); len = met.len }
joined-met Add true dims first other old new taken met = record { each = λ tuple are. met.each tuple are ∙ sum-added (number_at dims old tuple) (first tuple) (2 ^ 64 - other tuple); len = met.len }
joined-met Subtract minus dims first other old new taken met = absurd (taken refl)

-- a target that is taken from
pub taken-met : (minus : Bool) (dims : List ℕ) (first other : List ℕ → ℕ) (old mid new : List ℕ) → length old ≡ volume dims → BothMet Add (second_of minus) dims first other (scaled (2 ^ 64 - 1) old) mid → new ≡ scaled (2 ^ 64 - 1) mid
    → Met Subtract dims (λ t. joined minus (first t) (other t)) old new
taken-met minus dims first other old mid new long met is =
    let mid-long : length mid ≡ length old = met.len ∙ scaled-long (2 ^ 64 - 1) old in
    record {
      each = λ tuple are.
          ap (λ xs. number_at dims xs tuple) is
          ∙ (scaled-at dims (2 ^ 64 - 1) mid tuple (mid-long ∙ long) are
          ∙ (ap (λ n. (n * (2 ^ 64 - 1)) % 2 ^ 64) (met.each tuple are ∙ ap (λ n. combined (second_of minus) (combined Add n (first tuple)) (other tuple)) (scaled-at dims (2 ^ 64 - 1) old tuple long are))
          ∙ by-sign minus (number_at dims old tuple) (first tuple) (other tuple)));
      len = ap length is ∙ (scaled-long (2 ^ 64 - 1) mid ∙ mid-long);
    }
  where
    by-sign : (minus : Bool) (o a b : ℕ) → ((combined (second_of minus) (combined Add ((o * (2 ^ 64 - 1)) % 2 ^ 64) a) b) * (2 ^ 64 - 1)) % 2 ^ 64 ≡ combined Subtract o (joined minus a b)
    by-sign false o a b = opposite o a b
    by-sign true o a b = opposite o a (2 ^ 64 - b)

-- nothing is met where there are no numbers
pub empty-met : (how : How) (dims : List ℕ) (value : List ℕ → ℕ) (old : List ℕ) → length old ≡ volume dims → length old ≡ 0 → Met how dims value old old
empty-met how dims value old long none = record {
  each = λ tuple are. let within : place_of dims tuple < volume dims = place-within dims tuple are in absurd (omega (arith, within, long, none));
  len = refl;
}

-- values that are the same
pub met-same : (how : How) (dims : List ℕ) (f g : List ℕ → ℕ) (old new : List ℕ) → ((t : List ℕ) → f t ≡ g t) → Met how dims f old new → Met how dims g old new
met-same how dims f g old new same met = record {
  each = λ tuple are. met.each tuple are ∙ ap (combined how (number_at dims old tuple)) (same tuple);
  len = met.len;
}
