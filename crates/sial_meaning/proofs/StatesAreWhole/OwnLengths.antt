-- What a worker holds of its own keeps its lengths through every statement.
use Rattle.std.proofs.Common.{◌≡◌, ℕ, zero, suc, ◌%◌, ◌^◌, ◌⊎◌, inl, inr, List, [], ◌∷◌, map, length, slice_index_or, slice_set, replicate, Option, Some, None, refl, sym, ap, ◌∙◌, subst}
use Rattle.std.proofs.lemmas.List.{length-map, length-set}
use Rattle.sial_syntax.specs.declared.array.ArrayKind.{ArrayKind}
use Rattle.sial_syntax.specs.declared.array.ArrayKind.TheVariants.{Static, Temp, Local, Distributed, Served}
use Rattle.sial_syntax.specs.declared.operand.BlockRef.{BlockRef}
use Rattle.sial_syntax.specs.Boxes.{volume, tuples}
use Rattle.sial_syntax.specs.Spaces.{extent, same_kind}
use Rattle.sial_syntax.proofs.BoxLemmas.{tuples-counted}
use Rattle.sial_meaning.specs.LocalStep.{with_words, integrals, integral, whole_positions, all_allocated, all_deallocated}
use Rattle.sial_meaning.specs.Own.{Own, Held, sight, members_of, number_of, with_static, with_temp, with_local}
use Rattle.sial_meaning.specs.Setting.{Setting, array_kind, dims_of, block_count, block_words, zeros}
use Rattle.sial_meaning.specs.Sight.{lengths}
use Rattle.sial_meaning.specs.Sound.{IsSound}
use Rattle.sial_meaning.specs.Whole.{held_extents}
use Rattle.sial_meaning.specs.WholeStates.{OwnIsWhole}
use Rattle.sial_meaning.proofs.WritesFitTheirBlocks.Blocks.{Fit, named_volume, placed, placed-temp}
use Rattle.sial_meaning.proofs.Granted.Ranges.{InRange}
use Rattle.sial_meaning.proofs.Granted.Rules.{one-some}

-- a list with one entry replaced, read at a place: the new entry at its own place, or what was there
pub set-read : {X : Type 0} (xs : List X) (i j : ℕ) (x d : X) → ((i ≡ j) × (slice_index_or (slice_set xs i x) j d ≡ x)) ⊎ (slice_index_or (slice_set xs i x) j d ≡ slice_index_or xs j d)
set-read [] zero j x d = inr refl
set-read [] (suc i) j x d = inr refl
set-read (y ∷ ys) zero zero x d = inl (refl, refl)
set-read (y ∷ ys) zero (suc j) x d = inr refl
set-read (y ∷ ys) (suc i) zero x d = inr refl
set-read (y ∷ ys) (suc i) (suc j) x d =
    elim (set-read ys i j x d) as (λ q. ((suc i ≡ suc j) × (slice_index_or (slice_set (y ∷ ys) (suc i) x) (suc j) d ≡ x)) ⊎ (slice_index_or (slice_set (y ∷ ys) (suc i) x) (suc j) d ≡ slice_index_or (y ∷ ys) (suc j) d)) [
      | inl same ↦ inl (ap suc same.0, same.1)
      | inr other ↦ inr other
    ]

-- a block of a static array replaced by one of its length
pub static-whole : (g : Setting) (own : Own) (array number : ℕ) (words : List ℕ) → OwnIsWhole g own → length words ≡ block_words g array number → OwnIsWhole g (with_static array number words own)
static-whole g own array number words whole long =
    let row = slice_index_or own.statics array [] in
    let now = slice_set row number words in
    record {
      values = whole.values;
      created = whole.created;
      static_rows = length-set own.statics array now ∙ whole.static_rows;
      temp_rows = whole.temp_rows;
      local_rows = whole.local_rows;
      count = λ a is.
          elim (set-read own.statics array a now []) as (λ q. length (slice_index_or (slice_set own.statics array now) a []) ≡ block_count g a) [
            | inl same ↦ ap length same.1 ∙ (length-set row number words ∙ (ap (λ x. length (slice_index_or own.statics x [])) same.0 ∙ whole.count a is))
            | inr other ↦ ap length other ∙ whole.count a is
          ];
      statics = λ a n is below.
          elim (set-read own.statics array a now []) as (λ q. length (slice_index_or (slice_index_or (slice_set own.statics array now) a []) n []) ≡ block_words g a n) [
            | inl same ↦
                ap (λ r. length (slice_index_or r n [])) same.1
                ∙ elim (set-read row number n words []) as (λ q. length (slice_index_or now n []) ≡ block_words g a n) [
                  | inl here ↦ ap length here.1 ∙ (long ∙ (ap (λ x. block_words g x number) same.0 ∙ ap (block_words g a) here.0))
                  | inr there ↦ ap length there ∙ (ap (λ x. length (slice_index_or (slice_index_or own.statics x []) n [])) same.0 ∙ whole.statics a n is below)
                ]
            | inr other ↦ ap (λ r. length (slice_index_or r n [])) other ∙ whole.statics a n is below
          ];
      temps = whole.temps;
      locals = whole.locals;
    }

-- a temp that holds a block of the length that its members say
pub temp-whole : (g : Setting) (own : Own) (array : ℕ) (held : Held) → OwnIsWhole g own → length held.words ≡ volume (lengths (held_extents g.spaces (dims_of g array) held.members)) → OwnIsWhole g (with_temp array held own)
temp-whole g own array held whole long = record {
  values = whole.values;
  created = whole.created;
  static_rows = whole.static_rows;
  temp_rows = length-set own.temps array (Some held) ∙ whole.temp_rows;
  local_rows = whole.local_rows;
  count = whole.count;
  statics = whole.statics;
  temps = λ a h is.
      elim (set-read own.temps array a (Some held) None) as (λ q. length h.words ≡ volume (lengths (held_extents g.spaces (dims_of g a) h.members))) [
        | inl same ↦
            subst (λ (x : Held). length x.words ≡ volume (lengths (held_extents g.spaces (dims_of g a) x.members))) (one-some held h (sym same.1 ∙ is))
            (subst (λ x. length held.words ≡ volume (lengths (held_extents g.spaces (dims_of g x) held.members))) same.0 long)
        | inr other ↦ whole.temps a h (sym other ∙ is)
      ];
  locals = whole.locals;
}

-- a local block that has its length, or is taken away
pub local-whole : (g : Setting) (own : Own) (array number : ℕ) (now : Option (List ℕ)) → OwnIsWhole g own → ((words : List ℕ) → now ≡ Some words → length words ≡ block_words g array number) → OwnIsWhole g (with_local array number now own)
local-whole g own array number now whole long =
    let row = slice_index_or own.locals array [] in
    record {
      values = whole.values;
      created = whole.created;
      static_rows = whole.static_rows;
      temp_rows = whole.temp_rows;
      local_rows = length-set own.locals array (slice_set row number now) ∙ whole.local_rows;
      count = whole.count;
      statics = whole.statics;
      temps = whole.temps;
      locals = λ a n words is.
          elim (set-read own.locals array a (slice_set row number now) []) as (λ q. length words ≡ block_words g a n) [
            | inl same ↦
                let is-there : slice_index_or (slice_set row number now) n None ≡ Some words = sym (ap (λ r. slice_index_or r n None) same.1) ∙ is in
                elim (set-read row number n now None) as (λ q. length words ≡ block_words g a n) [
                  | inl here ↦ long words (sym here.1 ∙ is-there) ∙ (ap (λ x. block_words g x number) same.0 ∙ ap (block_words g a) here.0)
                  | inr there ↦ whole.locals a n words (sym (ap (λ x. slice_index_or (slice_index_or own.locals x []) n None) same.0) ∙ (sym there ∙ is-there))
                ]
            | inr other ↦ whole.locals a n words (sym (ap (λ r. slice_index_or r n None) other) ∙ is)
          ];
    }

-- a named block with as many elements as it has positions
pub words-whole : (g : Setting) (bound : List ℕ) (own : Own) (b : BlockRef) (words : List ℕ) (kind : ArrayKind) → IsSound g → InRange g bound own.values → Fit g bound b → array_kind g b.array ≡ kind → OwnIsWhole g own → length words ≡ named_volume g own b
    → OwnIsWhole g (with_words g b words own kind)
words-whole g bound own b words Static sound in-range fit is whole long =
    static-whole g own b.array (number_of g own b) words whole (long ∙ (placed g bound own b sound in-range fit (ap (λ k. same_kind k Temp) is)).words)
words-whole g bound own b words Temp sound in-range fit is whole long =
    temp-whole g own b.array (record { members = members_of g own b.at; words = words }) whole (long ∙ placed-temp g bound own b sound fit)
words-whole g bound own b words Local sound in-range fit is whole long =
    local-whole g own b.array (number_of g own b) (Some words) whole (λ w same. ap length (sym (one-some words w same)) ∙ (long ∙ (placed g bound own b sound in-range fit (ap (λ k. same_kind k Temp) is)).words))
words-whole g bound own b words Distributed sound in-range fit is whole long = whole
words-whole g bound own b words Served sound in-range fit is whole long = whole

-- as many integrals as positions
pub integrals-long : (g : Setting) (own : Own) (b : BlockRef) → length (integrals (sight g own b [])) ≡ named_volume g own b
integrals-long g own b =
    length-map (tuples (lengths (map (extent g.spaces own.values) b.at))) (λ t. integral 1 (whole_positions (map (extent g.spaces own.values) b.at) t) % 2 ^ 64)
    ∙ tuples-counted (lengths (map (extent g.spaces own.values) b.at))

-- a row of one number
pub row-long : (n : ℕ) → length {A = ℕ} (replicate n 0) ≡ n
row-long zero = refl
row-long (suc n) = ap suc (row-long n)

-- zeros for allocated blocks
pub allocated-whole : (g : Setting) (array : ℕ) (numbers : List ℕ) (own : Own) → OwnIsWhole g own → OwnIsWhole g (all_allocated g array numbers own)
allocated-whole g array [] own whole = whole
allocated-whole g array (n ∷ ns) own whole =
    allocated-whole g array ns (with_local array n (Some (zeros g array n)) own)
    (local-whole g own array n (Some (zeros g array n)) whole (λ words same. ap length (sym (one-some (zeros g array n) words same)) ∙ row-long (block_words g array n)))

-- blocks deallocated
pub deallocated-whole : (g : Setting) (array : ℕ) (numbers : List ℕ) (own : Own) → OwnIsWhole g own → OwnIsWhole g (all_deallocated array numbers own)
deallocated-whole g array [] own whole = whole
deallocated-whole g array (n ∷ ns) own whole =
    deallocated-whole g array ns (with_local array n None own) (local-whole g own array n None whole (λ words same. absurd cc))
