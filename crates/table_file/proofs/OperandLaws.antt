-- Operands of instructions, and what stands before them: what a reader takes is what is written, and what is written is taken again.
use Rattle.std.proofs.Common.{◌≡◌, ◌≢◌, ℕ, ◌<◌, ◌≤◌, true, false, cond, eqb, List, [], ◌∷◌, ◌++◌, length, replicate, map, Some, Ok, refl, sym, ap, subst, ◌∙◌, arith}
use Rattle.std.specs.List.{AllByRecursion}
use Rattle.std.proofs.lemmas.Bool.{eqb-true, eq-eqb}
use Rattle.std.proofs.lemmas.List.{length-map}
use Rattle.sial_syntax.specs.declared.condition.Test.{Test}
use Rattle.sial_syntax.specs.declared.condition.Test.TheVariants.{Less, LessEqual, Greater, GreaterEqual, Equal, NotEqual}
use Rattle.sial_syntax.specs.declared.operand.BlockRef.{BlockRef}
use Rattle.sial_syntax.specs.declared.operand.Slot.{Slot}
use Rattle.sial_syntax.specs.declared.operand.Slot.TheVariants.{At, All}
use Rattle.table_file.specs.Bytes.{low, short, word, long, places, part, no_part, block_part, text_part, indices_part, slot_number, slots_part}
use Rattle.table_file.specs.Fields.{number, exactly, unused, printed, rank, tuple}
use Rattle.table_file.specs.Fits.{IsWithin, IsPrinted, AreIndices, BlockFits, SlotFits, AreSlots}
use Rattle.table_file.specs.Heads.{test_of, line_and_jump, line_alone, plain_head, jump_head, test_mode}
use Rattle.table_file.specs.Numbers.{test_number}
use Rattle.table_file.specs.Operands.{no_operand, number_rest, thing_rest, block_rest, thing, block, slot_of, slots, index_list, text_operand}
use Rattle.table_file.proofs.ReadsLemmas.{Stands, Reads, Builds, Skips, first_then, skip_then, gives, reads_last, turned, of_parts, seen_as, built, listed}
use Rattle.table_file.proofs.FieldLaws.{short_reads, word_reads, long_reads, printed_reads, exactly_skips, unused_skips, looked_up}
use Rattle.table_file.proofs.TextLaws.{Ranked, rank_reads, tuple_reads, low_is}

-- ---- before the operands

pub line_and_jump_reads : Reads {X = ℕ × ℕ} line_and_jump (λ x. replicate 2 0 ++ (word x.0 ++ word x.1)) (λ x. IsWithin 32 x.0 × IsWithin 32 x.1)
unfolding line_and_jump
line_and_jump_reads =
    seen_as _ _ _ _ _ (λ x f. (f.0, f.1.0)) (λ x f. (f.0, (f.1, tt))) (λ x f. refl)
    (of_parts _ _ _ _ (λ x. (x.0, (x.1, tt))) (λ p f. refl) (λ x. refl)
    (skip_then (unused 2) (replicate 2 0) _ _ _ _ (unused_skips 2)
    (first_then (number 4) word (IsWithin 32) _ _ _ _ word_reads (λ line f.
    first_then (number 4) word (IsWithin 32) _ _ _ _ word_reads (λ jump f. gives (line, jump))))))

pub line_alone_reads : Reads line_alone (λ x. replicate 2 0 ++ (word x ++ replicate 4 0)) (IsWithin 32)
unfolding line_alone
line_alone_reads =
    seen_as _ _ _ _ _ (λ x f. f.0) (λ x f. (f, tt)) (λ x f. refl)
    (of_parts _ _ _ _ (λ x. (x, tt)) (λ p f. refl) (λ x. refl)
    (skip_then (unused 2) (replicate 2 0) _ _ _ _ (unused_skips 2)
    (first_then (number 4) word (IsWithin 32) _ _ _ _ word_reads (λ line f.
    skip_then (unused 4) (replicate 4 0) _ _ _ _ (unused_skips 4) (gives line)))))

pub plain_head_reads : Reads plain_head (λ x. replicate 3 0 ++ (word x ++ replicate 4 0)) (IsWithin 32)
unfolding plain_head
plain_head_reads =
    of_parts _ _ _ _ (λ x. x) (λ p f. refl) (λ x. refl)
    (skip_then (unused 1) (replicate 1 0) _ _ _ _ (unused_skips 1) (reads_last line_alone _ (IsWithin 32) line_alone_reads))

pub jump_head_reads : Reads {X = ℕ × ℕ} jump_head (λ x. replicate 3 0 ++ (word x.0 ++ word x.1)) (λ x. IsWithin 32 x.0 × IsWithin 32 x.1)
unfolding jump_head
jump_head_reads =
    of_parts _ _ _ _ (λ x. x) (λ p f. refl) (λ x. refl)
    (skip_then (unused 1) (replicate 1 0) _ _ _ _ (unused_skips 1) (reads_last line_and_jump _ _ line_and_jump_reads))

test_found : (n : ℕ) (k : Test) → test_of n ≡ Some k → n ≡ test_number k
test_found n k e =
    listed test_number n 1 Less _ k refl e (λ e. listed test_number n 2 LessEqual _ k refl e (λ e. listed test_number n 3 Greater _ k refl e
    (λ e. listed test_number n 4 GreaterEqual _ k refl e (λ e. listed test_number n 5 Equal _ k refl e (λ e. listed test_number n 6 NotEqual _ k refl e (λ e. absurd cc))))))

test_known : (k : Test) → (test_of (test_number k) ≡ Some k) × (test_number k < 256)
test_known Less = (refl, omega arith)
test_known LessEqual = (refl, omega arith)
test_known Greater = (refl, omega arith)
test_known GreaterEqual = (refl, omega arith)
test_known Equal = (refl, omega arith)
test_known NotEqual = (refl, omega arith)

pub test_mode_reads : Reads test_mode (λ k. test_number k ∷ []) (λ k. Unit {0})
unfolding test_mode
test_mode_reads = looked_up test_of test_number (λ k. Unit {0}) (λ n k e. (test_found n k e, tt)) (λ k f. test_known k)

-- ---- numbers of things, and blocks

pub no_operand_skips : Skips no_operand no_part
no_operand_skips = unused_skips 16

pub number_rest_reads : Reads number_rest (λ n. replicate 3 0 ++ (long n ++ replicate 4 0)) (IsWithin 64)
unfolding number_rest
number_rest_reads =
    seen_as _ _ _ _ _ (λ x f. f.0) (λ x f. (f, tt)) (λ x f. refl)
    (of_parts _ _ _ _ (λ x. (x, tt)) (λ p f. refl) (λ x. refl)
    (skip_then (unused 3) (replicate 3 0) _ _ _ _ (unused_skips 3)
    (first_then (number 8) long (IsWithin 64) _ _ _ _ long_reads (λ n f.
    skip_then (unused 4) (replicate 4 0) _ _ _ _ (unused_skips 4) (gives n)))))

pub thing_rest_reads : Reads thing_rest (λ n. replicate 1 0 ++ (short n ++ replicate 12 0)) (IsWithin 16)
unfolding thing_rest
thing_rest_reads =
    seen_as _ _ _ _ _ (λ x f. f.0) (λ x f. (f, tt)) (λ x f. refl)
    (of_parts _ _ _ _ (λ x. (x, tt)) (λ p f. refl) (λ x. refl)
    (skip_then (unused 1) (replicate 1 0) _ _ _ _ (unused_skips 1)
    (first_then (number 2) short (IsWithin 16) _ _ _ _ short_reads (λ n f.
    skip_then (unused 12) (replicate 12 0) _ _ _ _ (unused_skips 12) (gives n)))))

pub thing_reads : (tag : ℕ) → tag < 256 → Reads (thing tag) (λ n. part tag 0 n (replicate 12 0)) (IsWithin 16)
unfolding thing
thing_reads tag small =
    seen_as _ _ _ _ _ (λ x f. f) (λ x f. f) (λ x f. refl)
    (of_parts _ _ _ _ (λ x. x) (λ p f. refl) (λ x. refl)
    (skip_then (exactly tag) (tag ∷ []) _ _ _ _ (exactly_skips tag small) (reads_last thing_rest _ (IsWithin 16) thing_rest_reads)))

block_rest_builds :
    Builds {P = ℕ × (ℕ × (List ℕ × Unit {0}))} {Z = BlockRef} block_rest
    (λ p. record { array = p.1.0; at = p.1.1.0 })
    (λ p. (p.0 ∷ []) ++ (short p.1.0 ++ (places p.1.1.0 ++ [])))
    (λ p. ((1 ≤ p.0) × (p.0 ≤ 6)) × (IsWithin 16 p.1.0 × (Ranked p.0 p.1.1.0 × Unit {0})))
unfolding block_rest
block_rest_builds =
    first_then rank (λ r. r ∷ []) (λ r. (1 ≤ r) × (r ≤ 6)) _ _ _ _ rank_reads (λ r f.
    first_then (number 2) short (IsWithin 16) _ _ _ _ short_reads (λ array g.
    first_then (tuple r) places (Ranked r) _ _ _ _ (tuple_reads r f.1) (λ at f. gives (record { array = array; at = at }))))

pub block_rest_reads : Reads block_rest (λ b. low (length b.at) ∷ (short b.array ++ places b.at)) BlockFits
block_rest_reads =
    seen_as block_rest _ (λ b. low (length b.at) ∷ (short b.array ++ places b.at)) _ BlockFits
    (λ z f. record { array = f.1.0; at = record { some = f.0.0; few = f.0.1; within = f.1.1.0.1 } })
    (λ z f. ((f.at.some, f.at.few), (f.array, ((refl, f.at.within), tt))))
    (λ z f. ap (λ (n : ℕ). n ∷ (short z.array ++ places z.at)) (sym (low_is (length z.at) (omega (arith, f.0.1)))))
    (of_parts block_rest _ _ _ (λ z. (length z.at, (z.array, (z.at, tt)))) (λ p f. ap (λ (n : ℕ). (n, (p.1.0, (p.1.1.0, tt {0})))) f.1.1.0.0) (λ z. refl) block_rest_builds)

pub block_reads : Reads block block_part BlockFits
unfolding block
block_reads =
    seen_as _ _ block_part _ BlockFits (λ x f. f) (λ x f. f) (λ x f. refl)
    (of_parts _ _ _ _ (λ x. x) (λ p f. refl) (λ x. refl)
    (skip_then (exactly 3) (3 ∷ []) _ _ _ _ (exactly_skips 3 (omega arith)) (reads_last block_rest _ BlockFits block_rest_reads)))

-- ---- lists of indices, and texts

index_list_builds :
    Builds {P = ℕ × List ℕ} {Z = List ℕ} index_list (λ p. p.1) (λ p. (7 ∷ []) ++ ((p.0 ∷ []) ++ (replicate 2 0 ++ places p.1))) (λ p. ((1 ≤ p.0) × (p.0 ≤ 6)) × Ranked p.0 p.1)
unfolding index_list
index_list_builds =
    skip_then (exactly 7) (7 ∷ []) _ _ _ _ (exactly_skips 7 (omega arith))
    (first_then rank (λ r. r ∷ []) (λ r. (1 ≤ r) × (r ≤ 6)) _ _ _ _ rank_reads (λ r f.
    skip_then (unused 2) (replicate 2 0) _ _ _ _ (unused_skips 2) (reads_last (tuple r) places (Ranked r) (tuple_reads r f.1))))

pub index_list_reads : Reads index_list indices_part (AreIndices 6)
index_list_reads =
    seen_as index_list _ indices_part _ (AreIndices 6)
    (λ z f. record { some = f.0.0; few = f.0.1; within = f.1.1 }) (λ z f. ((f.some, f.few), (refl, f.within)))
    (λ z f. ap (λ (n : ℕ). 7 ∷ (n ∷ (0 ∷ (0 ∷ places z)))) (sym (low_is (length z) (omega (arith, f.0.1)))))
    (of_parts index_list _ _ _ (λ z. (length z, z)) (λ p f. ap (λ (n : ℕ). (n, p.1)) f.1.0) (λ z. refl) index_list_builds)

pub text_operand_reads : (texts : List (List ℕ)) → Reads (text_operand texts) text_part (IsPrinted texts)
unfolding text_operand
text_operand_reads texts =
    seen_as _ _ text_part _ (IsPrinted texts) (λ x f. f.0) (λ x f. (f, tt)) (λ x f. refl)
    (of_parts _ _ _ _ (λ x. (x, tt)) (λ p f. refl) (λ x. refl)
    (skip_then (exactly 5) (5 ∷ []) _ _ _ _ (exactly_skips 5 (omega arith))
    (skip_then (unused 3) (replicate 3 0) _ _ _ _ (unused_skips 3)
    (first_then (printed texts) word (IsPrinted texts) _ _ _ _ (printed_reads texts) (λ n f.
    skip_then (unused 8) (replicate 8 0) _ _ _ _ (unused_skips 8) (gives n))))))

-- ---- slots

slot_back : (n : ℕ) → slot_number (slot_of n) ≡ n
slot_back n =
    elim (eqb n 65534) as (λ b. eqb n 65534 ≡ b → slot_number (cond b All (At n)) ≡ n) [
      | true ↦ λ h. sym (eqb-true n 65534 h)
      | false ↦ λ h. refl
    ] refl

slots_back : (ns : List ℕ) → map slot_number (map slot_of ns) ≡ ns
slots_back [] = refl
slots_back (n ∷ ns) = rw (slot_back n, slots_back ns) refl

not_equal : (n i : ℕ) → (n ≢ i) → eqb n i ≡ false
not_equal n i other = elim (eqb n i) as (λ b. eqb n i ≡ b → b ≡ false) [ true ↦ λ h. absurd (other (eqb-true n i h)) | false ↦ λ h. refl ] refl

slot_there : (s : Slot) → SlotFits s → (slot_of (slot_number s) ≡ s) × IsWithin 16 (slot_number s)
slot_there (At index) f = (rw (not_equal index 65534 f.1) refl, f.0)
slot_there All f = (refl, omega arith)

slots_there : (ss : List Slot) → AllByRecursion SlotFits ss → (map slot_of (map slot_number ss) ≡ ss) × AllByRecursion (IsWithin 16) (map slot_number ss)
slots_there [] f = (refl, tt)
slots_there (s ∷ ss) f =
    let a = slot_there s f.0 in
    let b = slots_there ss f.1 in
    (rw (a.0, b.0) refl, (a.1, b.1))

slot_fits : (n : ℕ) → IsWithin 16 n → SlotFits (slot_of n)
slot_fits n f =
    elim (eqb n 65534) as (λ b. eqb n 65534 ≡ b → SlotFits (cond b All (At n))) [
      | true ↦ λ h. tt
      | false ↦ λ h. (f, λ same. absurd (let s : eqb n 65534 ≡ true = eq-eqb n 65534 same in cc))
    ] refl

slots_fit : (ns : List ℕ) → AllByRecursion (IsWithin 16) ns → AllByRecursion SlotFits (map slot_of ns)
slots_fit [] f = tt
slots_fit (n ∷ ns) f = (slot_fits n f.0, slots_fit ns f.1)

pub slots_reads : Reads {X = ℕ × List Slot} slots (λ x. slots_part x.0 x.1) (λ x. IsWithin 16 x.0 × AreSlots x.1)
unfolding slots
slots_reads = record {
  takes = λ bytes at z fits e.
      built _ _ _ _ (turned block block_part BlockFits (λ b. (b.array, map slot_of b.at)) block_reads) bytes at z fits e
      (λ (x : ℕ × List Slot). Stands bytes at z.1 (slots_part x.0 x.1) × (IsWithin 16 x.0 × AreSlots x.1))
      (λ b st f.
      let len = length-map b.at slot_of in
      let same : block_part b ≡ slots_part b.array (map slot_of b.at) =
      ap (λ (n : ℕ). part 3 (low n) b.array (places b.at)) (sym len) ∙ ap (λ (xs : List ℕ). part 3 (low (length (map slot_of b.at))) b.array (places xs)) (sym (slots_back b.at))
      in (
        subst (λ (t : List ℕ). Stands bytes at z.1 t) same st,
        (f.array, record { some = omega (arith, len, f.at.some); few = omega (arith, len, f.at.few); within = slots_fit b.at f.at.within }),
      ));
  again = λ bytes at end z st fits.
      let len = length-map z.1 slot_number in
      let back = slots_there z.1 fits.1.within in
      let b : BlockRef = record { array = z.0; at = map slot_number z.1 } in
      let same : slots_part z.0 z.1 ≡ block_part b = ap (λ (n : ℕ). part 3 (low n) z.0 (places (map slot_number z.1))) (sym len) in
      let f : BlockFits b = record { array = fits.0; at = record { some = omega (arith, len, fits.1.some); few = omega (arith, len, fits.1.few); within = back.1 } } in
      let read = block_reads.again bytes at end b (subst (λ (t : List ℕ). Stands bytes at end t) same st) f in
      rw read (ap (λ (ss : List Slot). Ok ((z.0, ss), end)) back.0);
}
