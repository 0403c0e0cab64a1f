-- Texts and tuples: what a reader takes is what is written, and what is written is taken again.
use Rattle.std.proofs.Common.{◌≡◌, ℕ, ◌+◌, ◌-◌, ◌*◌, ◌<◌, ◌≤◌, Bool, true, false, ◌&&◌, cond, List, [], ◌∷◌, ◌++◌, length, replicate, Ok, Err, refl, sym, subst, arith}
use Rattle.std.specs.Prelude.{nat_le}
use Rattle.std.specs.List.{flat_map, AllByRecursion}
use Rattle.std.proofs.Math.Nat.{mod-eq_of_lt}
use Rattle.std.proofs.lemmas.Bool.{leb-true, le-leb}
use Rattle.sial_syntax.specs.Limits.{most_name, most_text}
use Rattle.sial_syntax.specs.Names.{is_name, begins_with_letter, has_name_form}
use Rattle.table_file.specs.declared.fault.TableFault.TheVariants.{Field, TooMany}
use Rattle.table_file.specs.Bytes.{low, short, places, text_bytes}
use Rattle.table_file.specs.Entries.{program_name, text}
use Rattle.table_file.specs.Fields.{◌>>=◌, byte, number, taken, all_exactly, rank, numbers, tuple}
use Rattle.table_file.specs.Fits.{IsWithin, IsShort}
use Rattle.table_file.proofs.ReadsLemmas.{Stands, Reads, stands_then, stands_apart, ok_is, bind_ok, passed, first_then, skip_then, gives, of_parts, seen_as}
use Rattle.table_file.proofs.FieldLaws.{short_reads, tested, byte_reads, all_skip, taken_reads, entries_read}

-- ---- lengths of names

both_true : (a b : Bool) → (a && b) ≡ true → (a ≡ true) × (b ≡ true)
both_true true b e = (refl, e)
both_true false b e = absurd cc

begins_somewhere : (t : List ℕ) → begins_with_letter t ≡ true → 1 ≤ length t
begins_somewhere [] e = absurd cc
begins_somewhere (b ∷ bs) e = omega arith

name_length : (t : List ℕ) → is_name t ≡ true → (1 ≤ length t) × (length t ≤ 64)
name_length t e =
    let a = both_true (has_name_form t) _ e in
    let b = both_true (begins_with_letter t) _ a.0 in
    let c = both_true _ (nat_le (length t) most_name) b.1 in
    (begins_somewhere t b.0, leb-true _ _ c.1)

-- ---- texts

pub program_name_reads : Reads program_name text_bytes (λ t. is_name t ≡ true)
unfolding program_name
program_name_reads = record {
  takes = λ bytes at z fits e.
      let s1 = bind_ok (number 2 bytes at) _ z e in
      let g = passed (nat_le 1 s1.0.0 && nat_le s1.0.0 most_name) (Field at) (taken s1.0.0 bytes s1.0.1 >>= λ t. cond (is_name t.0) (Ok t) (Err (Field at))) z s1.2 in
      let s2 = bind_ok (taken s1.0.0 bytes s1.0.1) (λ t. cond (is_name t.0) (Ok t) (Err (Field at))) z g.1 in
      let h = passed (is_name s2.0.0) (Field at) (Ok s2.0) z s2.2 in
      let t1 = short_reads.takes bytes at s1.0 fits s1.1 in
      let t2 = (taken_reads s1.0.0).takes bytes s1.0.1 s2.0 fits s2.1 in
      let both : Stands bytes at s2.0.1 (text_bytes s2.0.0) =
      subst (λ (n : ℕ). Stands bytes at s2.0.1 (short n ++ s2.0.0)) (sym t2.1) (stands_then bytes at s1.0.1 s2.0.1 (short s1.0.0) s2.0.0 t1.0 t2.0) in
      subst (λ (y : List ℕ × ℕ). Stands bytes at y.1 (text_bytes y.0) × (is_name y.0 ≡ true)) (ok_is s2.0 z h.1) (both, h.0);
  again = λ bytes at end t st fits.
      let parts = stands_apart bytes at end (short (length t)) t st in
      let len = name_length t fits in
      let s1 = short_reads.again bytes at (at + 2) (length t) parts.0 (omega (arith, len.1)) in
      let s2 = (taken_reads (length t)).again bytes (at + 2) end t parts.1 refl in
      let some : nat_le 1 (length t) ≡ true = le-leb _ _ len.0 in
      let few : nat_le (length t) most_name ≡ true = le-leb _ _ len.1 in
      rw (s1, some, few, s2, fits) refl;
}

pub text_reads : Reads text text_bytes IsShort
unfolding text
text_reads = record {
  takes = λ bytes at z fits e.
      let s1 = bind_ok (number 2 bytes at) _ z e in
      let g = passed (nat_le s1.0.0 most_text) (TooMany at) (taken s1.0.0 bytes s1.0.1) z s1.2 in
      let t1 = short_reads.takes bytes at s1.0 fits s1.1 in
      let t2 = (taken_reads s1.0.0).takes bytes s1.0.1 z fits g.1 in
      let few : s1.0.0 ≤ most_text = leb-true _ _ g.0 in
      (subst (λ (n : ℕ). Stands bytes at z.1 (short n ++ z.0)) (sym t2.1) (stands_then bytes at s1.0.1 z.1 (short s1.0.0) z.0 t1.0 t2.0), omega (arith, few, t2.1));
  again = λ bytes at end t st fits.
      let parts = stands_apart bytes at end (short (length t)) t st in
      let s1 = short_reads.again bytes at (at + 2) (length t) parts.0 (omega (arith, fits)) in
      let s2 = (taken_reads (length t)).again bytes (at + 2) end t parts.1 refl in
      let few : nat_le (length t) most_text ≡ true = le-leb _ _ fits in
      rw (s1, few, s2) refl;
}

-- ---- tuples

pub rank_reads : Reads rank (λ r. r ∷ []) (λ r. (1 ≤ r) × (r ≤ 6))
unfolding rank
rank_reads =
    seen_as _ (λ r. r ∷ []) (λ r. r ∷ []) (λ r. (r < 256) × ((nat_le 1 r && nat_le r 6) ≡ true)) (λ r. (1 ≤ r) × (r ≤ 6))
    (λ r f. let a = both_true (nat_le 1 r) (nat_le r 6) f.1 in (leb-true _ _ a.0, leb-true _ _ a.1))
    (λ r f. (omega (arith, f.1), rw (le-leb 1 r f.0, le-leb r 6 f.1) refl))
    (λ r f. refl)
    (tested byte (λ r. r ∷ []) (λ r. r < 256) (λ r. nat_le 1 r && nat_le r 6) Field byte_reads)

-- the places of at most six numbers: the numbers, and then bytes with all bits set
places_are : (xs : List ℕ) → length xs ≤ 6 → flat_map short xs ++ (replicate (12 - 2 * length xs) 255 ++ []) ≡ places xs
places_are [] few = refl
places_are (a ∷ []) few = refl
places_are (a ∷ b ∷ []) few = refl
places_are (a ∷ b ∷ c ∷ []) few = refl
places_are (a ∷ b ∷ c ∷ d ∷ []) few = refl
places_are (a ∷ b ∷ c ∷ d ∷ e ∷ []) few = refl
places_are (a ∷ b ∷ c ∷ d ∷ e ∷ f ∷ []) few = refl
places_are (a ∷ b ∷ c ∷ d ∷ e ∷ f ∷ g ∷ rest) few = absurd (omega (arith, few))

-- so many numbers of sixteen bits
abbrev pub Ranked : ℕ → List ℕ → Type 0
Ranked r xs = (length xs ≡ r) × AllByRecursion (IsWithin 16) xs

pub tuple_reads : (r : ℕ) → r ≤ 6 → Reads (tuple r) places (Ranked r)
unfolding tuple
tuple_reads r few =
    seen_as _ (λ xs. flat_map short xs ++ (replicate (12 - 2 * r) 255 ++ [])) places (λ xs. Ranked r xs × Unit {0}) (Ranked r)
    (λ xs f. f.0) (λ xs f. (f, tt))
    (λ xs f. subst (λ (n : ℕ). flat_map short xs ++ (replicate (12 - 2 * n) 255 ++ []) ≡ places xs) f.0.0 (places_are xs (omega (arith, few, f.0.0))))
    (of_parts _ (λ p. p.0) _ _ (λ xs. (xs, tt)) (λ p f. refl) (λ z. refl)
    (first_then (numbers r) (flat_map short) (Ranked r) (λ xs bytes at. all_exactly 255 (12 - 2 * r) bytes at >>= λ next. Ok (xs, next)) _ _ _
    (entries_read (number 2) short (IsWithin 16) short_reads r)
    (λ xs f. skip_then (all_exactly 255 (12 - 2 * r)) (replicate (12 - 2 * r) 255) (λ bytes at. Ok (xs, at)) _ _ _ (all_skip 255 (12 - 2 * r) (omega arith)) (gives xs))))

-- the lowest byte of a small length is the length
pub low_is : (n : ℕ) → n ≤ 12 → low n ≡ n
low_is n few = mod-eq_of_lt (omega (arith, few))
