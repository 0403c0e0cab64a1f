-- Operands under one of several tags, and the indices of a pardo: what a reader takes is what is written, and what is written is taken again.
use Rattle.std.proofs.Common.{◌≡◌, ℕ, zero, suc, ◌+◌, ◌<◌, ◌≤◌, true, false, cond, eqb, List, [], ◌∷◌, ◌++◌, length, replicate, take, drop, Ok, Err, refl, sym, ap, subst, ◌∙◌, arith, length-append, length-take, length-drop}
use Rattle.std.specs.Prelude.{nat_le}
use Rattle.std.specs.List.{AllByRecursion}
use Rattle.std.proofs.lemmas.Bool.{eq-eqb, leb-true, leb-false, le-leb}
use Rattle.std.proofs.lemmas.List.{take_at, drop_at, take_all, take-append-drop}
use Rattle.sial_syntax.specs.declared.condition.Value.{Value}
use Rattle.sial_syntax.specs.declared.condition.Value.TheVariants as value
use Rattle.sial_syntax.specs.declared.operand.Operand.{Operand}
use Rattle.sial_syntax.specs.declared.operand.Operand.TheVariants as operand
use Rattle.sial_syntax.specs.declared.operand.Target.{Target}
use Rattle.sial_syntax.specs.declared.operand.Target.TheVariants as target
use Rattle.sial_syntax.specs.Limits.{most_pardo}
use Rattle.table_file.specs.declared.fault.TableFault.TheVariants.{Field}
use Rattle.table_file.specs.Bytes.{no_part, indices_part, first_indices, other_indices, target_part, operand_part, value_part}
use Rattle.table_file.specs.Fields.{◌>>=◌, byte, unused}
use Rattle.table_file.specs.Fits.{IsWithin, AreIndices, BlockFits, TargetFits, OperandFits, ValueFits}
use Rattle.table_file.specs.Operands.{no_operand, number_rest, thing_rest, block_rest, index_list, target_operand, right_operand, value_operand, other_operand, pardo_indices}
use Rattle.table_file.proofs.NumberLemmas.{IsBytes}
use Rattle.table_file.proofs.ReadsLemmas.{ReaderOf, Stands, Reads, stands_then, stands_apart, ok_is, bind_ok, turned, built, chosen}
use Rattle.table_file.proofs.FieldLaws.{byte_reads, unused_skips}
use Rattle.table_file.proofs.OperandLaws.{no_operand_skips, number_rest_reads, thing_rest_reads, block_rest_reads, index_list_reads}

-- a tag, and a text behind it
behind_tag : (bytes : List ℕ) (at : ℕ) (tag : ℕ × ℕ) (end n : ℕ) (text : List ℕ) → Stands bytes at tag.1 (tag.0 ∷ []) → tag.0 ≡ n → Stands bytes tag.1 end text → Stands bytes at end (n ∷ text)
behind_tag bytes at tag end n text first same st = stands_then bytes at tag.1 end (n ∷ []) text (subst (λ (m : ℕ). Stands bytes at tag.1 (m ∷ [])) same first) st

-- a tag is read again, and what stands behind it
tag_again : (bytes : List ℕ) (at end n : ℕ) (text : List ℕ) → n < 256 → Stands bytes at end (n ∷ text) → (byte bytes at ≡ Ok (n, at + 1)) × Stands bytes (at + 1) end text
tag_again bytes at end n text small st =
    let parts = stands_apart bytes at end (n ∷ []) text st in
    (byte_reads.again bytes at (at + 1) n parts.0 small, parts.1)

-- ---- targets

target_behind : (at n : ℕ) → ReaderOf Target
target_behind at n = λ bytes from.
    cond (eqb n 2) (thing_rest bytes from >>= λ s. Ok (target.Scalar s.0, s.1)) (cond (eqb n 3) (block_rest bytes from >>= λ b. Ok (target.Block b.0, b.1)) (Err (Field at)))

target_again : (bytes : List ℕ) (at end : ℕ) (z : Target) → Stands bytes at end (target_part z) → TargetFits z → target_operand bytes at ≡ Ok (z, end)
unfolding target_operand
target_again bytes at end (target.Scalar n) st fits =
    let a = tag_again bytes at end 2 _ (omega arith) st in
    rw (a.0, thing_rest_reads.again bytes (at + 1) end n a.1 fits) refl
target_again bytes at end (target.Block b) st fits =
    let a = tag_again bytes at end 3 _ (omega arith) st in
    rw (a.0, block_rest_reads.again bytes (at + 1) end b a.1 fits) refl

pub target_reads : Reads target_operand target_part TargetFits
unfolding target_operand target_behind
target_reads = record {
  takes = λ bytes at z fits e.
      let s = bind_ok (byte bytes at) (λ t. target_behind at t.0 bytes t.1) z e in
      let tag = (byte_reads.takes bytes at s.0 fits s.1).0 in
      let G = λ (b : Target). Stands bytes at z.1 (target_part b) × TargetFits b in
      chosen s.0.0 2 _ _ z (G z.0) s.2
      (λ same e. built _ _ _ _ (turned thing_rest _ (IsWithin 16) (λ n. target.Scalar n) thing_rest_reads) bytes s.0.1 z fits e G (λ p st f. (behind_tag bytes at s.0 z.1 2 _ tag same st, f)))
      (λ e. chosen s.0.0 3 _ _ z (G z.0) e
      (λ same e. built _ _ _ _ (turned block_rest _ BlockFits (λ b. target.Block b) block_rest_reads) bytes s.0.1 z fits e G (λ p st f. (behind_tag bytes at s.0 z.1 3 _ tag same st, f)))
      (λ e. absurd cc));
  again = λ bytes at end z st fits. target_again bytes at end z st fits;
}

-- ---- operands of right sides

right_behind : (at n : ℕ) → ReaderOf Operand
right_behind at n = λ bytes from.
    cond (eqb n 1) (number_rest bytes from >>= λ s. Ok (operand.Number s.0, s.1))
    (cond (eqb n 2) (thing_rest bytes from >>= λ s. Ok (operand.Scalar s.0, s.1)) (cond (eqb n 3) (block_rest bytes from >>= λ b. Ok (operand.Block b.0, b.1)) (Err (Field at))))

right_again : (bytes : List ℕ) (at end : ℕ) (z : Operand) → Stands bytes at end (operand_part z) → OperandFits z → right_operand bytes at ≡ Ok (z, end)
unfolding right_operand
right_again bytes at end (operand.Number n) st fits =
    let a = tag_again bytes at end 1 _ (omega arith) st in
    rw (a.0, number_rest_reads.again bytes (at + 1) end n a.1 fits) refl
right_again bytes at end (operand.Scalar n) st fits =
    let a = tag_again bytes at end 2 _ (omega arith) st in
    rw (a.0, thing_rest_reads.again bytes (at + 1) end n a.1 fits) refl
right_again bytes at end (operand.Block b) st fits =
    let a = tag_again bytes at end 3 _ (omega arith) st in
    rw (a.0, block_rest_reads.again bytes (at + 1) end b a.1 fits) refl

pub right_reads : Reads right_operand operand_part OperandFits
unfolding right_operand right_behind
right_reads = record {
  takes = λ bytes at z fits e.
      let s = bind_ok (byte bytes at) (λ t. right_behind at t.0 bytes t.1) z e in
      let tag = (byte_reads.takes bytes at s.0 fits s.1).0 in
      let G = λ (b : Operand). Stands bytes at z.1 (operand_part b) × OperandFits b in
      chosen s.0.0 1 _ _ z (G z.0) s.2
      (λ same e. built _ _ _ _ (turned number_rest _ (IsWithin 64) (λ n. operand.Number n) number_rest_reads) bytes s.0.1 z fits e G (λ p st f. (behind_tag bytes at s.0 z.1 1 _ tag same st, f)))
      (λ e. chosen s.0.0 2 _ _ z (G z.0) e
      (λ same e. built _ _ _ _ (turned thing_rest _ (IsWithin 16) (λ n. operand.Scalar n) thing_rest_reads) bytes s.0.1 z fits e G (λ p st f. (behind_tag bytes at s.0 z.1 2 _ tag same st, f)))
      (λ e. chosen s.0.0 3 _ _ z (G z.0) e
      (λ same e. built _ _ _ _ (turned block_rest _ BlockFits (λ b. operand.Block b) block_rest_reads) bytes s.0.1 z fits e G (λ p st f. (behind_tag bytes at s.0 z.1 3 _ tag same st, f)))
      (λ e. absurd cc)));
  again = λ bytes at end z st fits. right_again bytes at end z st fits;
}

-- ---- values of conditions

value_behind : (at n : ℕ) → ReaderOf Value
value_behind at n = λ bytes from.
    cond (eqb n 1) (number_rest bytes from >>= λ s. Ok (value.Number s.0, s.1))
    (cond (eqb n 2) (thing_rest bytes from >>= λ s. Ok (value.Scalar s.0, s.1)) (cond (eqb n 4) (thing_rest bytes from >>= λ i. Ok (value.Index i.0, i.1)) (Err (Field at))))

value_again : (bytes : List ℕ) (at end : ℕ) (z : Value) → Stands bytes at end (value_part z) → ValueFits z → value_operand bytes at ≡ Ok (z, end)
unfolding value_operand
value_again bytes at end (value.Number n) st fits =
    let a = tag_again bytes at end 1 _ (omega arith) st in
    rw (a.0, number_rest_reads.again bytes (at + 1) end n a.1 fits) refl
value_again bytes at end (value.Scalar n) st fits =
    let a = tag_again bytes at end 2 _ (omega arith) st in
    rw (a.0, thing_rest_reads.again bytes (at + 1) end n a.1 fits) refl
value_again bytes at end (value.Index n) st fits =
    let a = tag_again bytes at end 4 _ (omega arith) st in
    rw (a.0, thing_rest_reads.again bytes (at + 1) end n a.1 fits) refl

pub value_reads : Reads value_operand value_part ValueFits
unfolding value_operand value_behind
value_reads = record {
  takes = λ bytes at z fits e.
      let s = bind_ok (byte bytes at) (λ t. value_behind at t.0 bytes t.1) z e in
      let tag = (byte_reads.takes bytes at s.0 fits s.1).0 in
      let G = λ (b : Value). Stands bytes at z.1 (value_part b) × ValueFits b in
      chosen s.0.0 1 _ _ z (G z.0) s.2
      (λ same e. built _ _ _ _ (turned number_rest _ (IsWithin 64) (λ n. value.Number n) number_rest_reads) bytes s.0.1 z fits e G (λ p st f. (behind_tag bytes at s.0 z.1 1 _ tag same st, f)))
      (λ e. chosen s.0.0 2 _ _ z (G z.0) e
      (λ same e. built _ _ _ _ (turned thing_rest _ (IsWithin 16) (λ n. value.Scalar n) thing_rest_reads) bytes s.0.1 z fits e G (λ p st f. (behind_tag bytes at s.0 z.1 2 _ tag same st, f)))
      (λ e. chosen s.0.0 4 _ _ z (G z.0) e
      (λ same e. built _ _ _ _ (turned thing_rest _ (IsWithin 16) (λ n. value.Index n) thing_rest_reads) bytes s.0.1 z fits e G (λ p st f. (behind_tag bytes at s.0 z.1 4 _ tag same st, f)))
      (λ e. absurd cc)));
  again = λ bytes at end z st fits. value_again bytes at end z st fits;
}

-- ---- the indices of a pardo

-- both operands
abbrev pub pardo_part : List ℕ → List ℕ
pardo_part xs = first_indices xs ++ other_indices xs

few_parts : (xs : List ℕ) → length xs ≤ 6 → pardo_part xs ≡ indices_part xs ++ no_part
few_parts xs few = rw (take_all 6 xs few, le-leb (length xs) 6 few) refl

not_le : (a b : ℕ) → b < a → nat_le a b ≡ false
not_le a b more = elim (nat_le a b) as (λ t. nat_le a b ≡ t → t ≡ false) [ true ↦ λ h. absurd (let l = leb-true a b h in omega (arith, l, more)) | false ↦ λ h. refl ] refl

many_parts : (xs ys : List ℕ) → length xs ≡ 6 → 1 ≤ length ys → pardo_part (xs ++ ys) ≡ indices_part xs ++ indices_part ys
many_parts xs ys six some =
    let more : nat_le (length (xs ++ ys)) 6 ≡ false = not_le (length (xs ++ ys)) 6 (let l = length-append xs ys in omega (arith, l, six, some)) in
    rw (take_at xs ys 6 six, drop_at xs ys 6 six, more) refl

all_both : {X : Type 0} (P : X → Type 0) (xs ys : List X) → AllByRecursion P xs → AllByRecursion P ys → AllByRecursion P (xs ++ ys)
all_both P [] ys f g = g
all_both P (x ∷ xs) ys f g = (f.0, all_both P xs ys f.1 g)

all_taken : {X : Type 0} (P : X → Type 0) (n : ℕ) (xs : List X) → AllByRecursion P xs → AllByRecursion P (take n xs)
all_taken P zero xs f = tt
all_taken P (suc n) [] f = tt
all_taken P (suc n) (x ∷ xs) f = (f.0, all_taken P n xs f.1)

all_dropped : {X : Type 0} (P : X → Type 0) (n : ℕ) (xs : List X) → AllByRecursion P xs → AllByRecursion P (drop n xs)
all_dropped P zero xs f = f
all_dropped P (suc n) [] f = tt
all_dropped P (suc n) (x ∷ xs) f = all_dropped P n xs f.1

-- six indices, and others behind them
other_behind : List ℕ → (from n : ℕ) → ReaderOf (List ℕ)
other_behind first from n = λ bytes at. cond (eqb n 0) (unused 15 bytes at >>= λ next. Ok (first, next)) (index_list bytes from >>= λ o. Ok (first ++ o.0, o.1))

others_taken : (first : List ℕ) (bytes : List ℕ) (at from : ℕ) (z : List ℕ × ℕ) → IsBytes bytes → Stands bytes at from (indices_part first) → AreIndices 6 first → length first ≡ 6 → other_operand first bytes from ≡ Ok z
    → Stands bytes at z.1 (pardo_part z.0) × AreIndices most_pardo z.0
unfolding other_operand other_behind
others_taken first bytes at from z fits st are six e =
    let s = bind_ok (byte bytes from) (λ t. other_behind first from t.0 bytes t.1) z e in
    let tag = (byte_reads.takes bytes from s.0 fits s.1).0 in
    let G = λ (y : List ℕ × ℕ). Stands bytes at y.1 (pardo_part y.0) × AreIndices most_pardo y.0 in
    chosen s.0.0 0 _ _ z (G z) s.2
    (λ same e.
    let n = bind_ok (unused 15 bytes s.0.1) (λ next. Ok (first, next)) z e in
    let none : Stands bytes from n.0 no_part = behind_tag bytes from s.0 n.0 0 (replicate 15 0) tag same ((unused_skips 15).takes bytes s.0.1 n.0 fits n.1) in
    let both = subst (λ (t : List ℕ). Stands bytes at n.0 t) (sym (few_parts first are.few)) (stands_then bytes at from n.0 (indices_part first) no_part st none) in
    subst (λ (y : List ℕ × ℕ). G y) (ok_is (first, n.0) z n.2) (both, record { some = are.some; few = omega (arith, are.few); within = are.within }))
    (λ e.
    let o = bind_ok (index_list bytes from) (λ o. Ok (first ++ o.0, o.1)) z e in
    let t = index_list_reads.takes bytes from o.0 fits o.1 in
    let both = subst (λ (t : List ℕ). Stands bytes at o.0.1 t) (sym (many_parts first o.0.0 six t.1.some)) (stands_then bytes at from o.0.1 (indices_part first) (indices_part o.0.0) st t.0) in
    let len = length-append first o.0.0 in
    subst (λ (y : List ℕ × ℕ). G y) (ok_is (first ++ o.0.0, o.0.1) z o.2)
    (both, record { some = omega (arith, len, six); few = omega (arith, len, six, t.1.few); within = all_both (IsWithin 16) first o.0.0 are.within t.1.within }))

indices_behind : List ℕ → ReaderOf (List ℕ)
indices_behind first = λ bytes from. cond (eqb (length first) 6) (other_operand first bytes from) (no_operand bytes from >>= λ next. Ok (first, next))

pardo_taken : (bytes : List ℕ) (at : ℕ) (z : List ℕ × ℕ) → IsBytes bytes → pardo_indices bytes at ≡ Ok z → Stands bytes at z.1 (pardo_part z.0) × AreIndices most_pardo z.0
unfolding pardo_indices indices_behind
pardo_taken bytes at z fits e =
    let s = bind_ok (index_list bytes at) (λ first. indices_behind first.0 bytes first.1) z e in
    let a = index_list_reads.takes bytes at s.0 fits s.1 in
    let G = λ (y : List ℕ × ℕ). Stands bytes at y.1 (pardo_part y.0) × AreIndices most_pardo y.0 in
    chosen (length s.0.0) 6 _ _ z (G z) s.2
    (λ six e. others_taken s.0.0 bytes at s.0.1 z fits a.0 a.1 six e)
    (λ e.
    let n = bind_ok (no_operand bytes s.0.1) (λ next. Ok (s.0.0, next)) z e in
    let none = no_operand_skips.takes bytes s.0.1 n.0 fits n.1 in
    let both = subst (λ (t : List ℕ). Stands bytes at n.0 t) (sym (few_parts s.0.0 a.1.few)) (stands_then bytes at s.0.1 n.0 (indices_part s.0.0) no_part a.0 none) in
    subst (λ (y : List ℕ × ℕ). G y) (ok_is (s.0.0, n.0) z n.2) (both, record { some = a.1.some; few = omega (arith, a.1.few); within = a.1.within }))

-- at most six indices are read again
few_again : (bytes : List ℕ) (at end : ℕ) (xs : List ℕ) → Stands bytes at end (indices_part xs ++ no_part) → AreIndices 6 xs → pardo_indices bytes at ≡ Ok (xs, end)
unfolding pardo_indices other_operand
few_again bytes at end xs st fits =
    let parts = stands_apart bytes at end (indices_part xs) no_part st in
    let mid = at + length (indices_part xs) in
    let a = index_list_reads.again bytes at mid xs parts.0 fits in
    elim (eqb (length xs) 6) as (λ b. eqb (length xs) 6 ≡ b → pardo_indices bytes at ≡ Ok (xs, end)) [
      | true ↦ λ h.
          let t = tag_again bytes mid end 0 (replicate 15 0) (omega arith) parts.1 in
          let n = (unused_skips 15).again bytes (mid + 1) end t.1 in
          rw (a, h, t.0, n) refl
      | false ↦ λ h.
          let n = no_operand_skips.again bytes mid end parts.1 in
          rw (a, h, n) refl
    ] refl

-- more than six are read again
many_again : (bytes : List ℕ) (at end : ℕ) (xs ys : List ℕ) → Stands bytes at end (indices_part xs ++ indices_part ys) → length xs ≡ 6 → AreIndices 6 xs → AreIndices 6 ys → pardo_indices bytes at ≡ Ok (xs ++ ys, end)
unfolding pardo_indices other_operand
many_again bytes at end xs ys st six first second =
    let parts = stands_apart bytes at end (indices_part xs) (indices_part ys) st in
    let mid = at + length (indices_part xs) in
    let a = index_list_reads.again bytes at mid xs parts.0 first in
    let h : eqb (length xs) 6 ≡ true = eq-eqb (length xs) 6 six in
    let t = tag_again bytes mid end 7 _ (omega arith) parts.1 in
    let o = index_list_reads.again bytes mid end ys parts.1 second in
    rw (a, h, t.0, o) refl

pardo_again : (bytes : List ℕ) (at end : ℕ) (xs : List ℕ) → Stands bytes at end (pardo_part xs) → AreIndices most_pardo xs → pardo_indices bytes at ≡ Ok (xs, end)
pardo_again bytes at end xs st fits =
    elim (nat_le (length xs) 6) as (λ b. nat_le (length xs) 6 ≡ b → pardo_indices bytes at ≡ Ok (xs, end)) [
      | true ↦ λ h.
          let few : length xs ≤ 6 = leb-true _ _ h in
          few_again bytes at end xs (subst (λ (t : List ℕ). Stands bytes at end t) (few_parts xs few) st) (record { some = fits.some; few = few; within = fits.within })
      | false ↦ λ h.
          let many : 6 < length xs = leb-false _ _ h in
          let first = length-take 6 xs in
          let second = length-drop 6 xs in
          let whole = take-append-drop 6 xs in
          let six : length (take 6 xs) ≡ 6 = omega (arith, first, many) in
          let some : 1 ≤ length (drop 6 xs) = omega (arith, second, many) in
          let same : pardo_part xs ≡ indices_part (take 6 xs) ++ indices_part (drop 6 xs) = ap pardo_part (sym whole) ∙ many_parts (take 6 xs) (drop 6 xs) six some in
          many_again bytes at end (take 6 xs) (drop 6 xs) (subst (λ (t : List ℕ). Stands bytes at end t) same st) six
          (record { some = omega (arith, six); few = omega (arith, six); within = all_taken (IsWithin 16) 6 xs fits.within })
          (record { some = some; few = omega (arith, second, fits.few); within = all_dropped (IsWithin 16) 6 xs fits.within })
          ∙ ap (λ (ys : List ℕ). Ok (ys, end)) whole
    ] refl

pub pardo_indices_reads : Reads pardo_indices pardo_part (AreIndices most_pardo)
pardo_indices_reads = record {
  takes = λ bytes at x fits e. pardo_taken bytes at x fits e;
  again = λ bytes at end x st fits. pardo_again bytes at end x st fits;
}
