-- The code: what a reader takes is what is written, and what is written is taken again.
use Rattle.std.proofs.Common.{◌≡◌, ℕ, zero, suc, ◌+◌, ◌<◌, ◌≤◌, Bool, true, false, cond, not, List, [], ◌∷◌, ◌++◌, length, Ok, Err, refl, sym, ap, subst, ◌∙◌, arith}
use Rattle.std.specs.Prelude.{nat_lt, count_by}
use Rattle.std.specs.List.{flat_map, AllByRecursion}
use Rattle.std.proofs.lemmas.Bool.Decides.{Decides-ltb}
use Rattle.std.proofs.lemmas.List.Concat.{flat_map-cons}
use Rattle.std.proofs.lemmas.List.Sums.{sum_by-cons}
use Rattle.sial_syntax.specs.Limits.{most_statements}
use Rattle.sip_tables.specs.declared.instruction.Instruction.{Instruction}
use Rattle.table_file.specs.declared.fault.TableFault.TheVariants.{TooMany}
use Rattle.table_file.specs.declared.opcode.Opcode.{Opcode}
use Rattle.table_file.specs.Bytes.{word, instruction_bytes, list_bytes}
use Rattle.table_file.specs.Fields.{number}
use Rattle.table_file.specs.Fits.{IsWithin, InstructionFits, is_statement, CodeFits}
use Rattle.table_file.specs.Instructions.{instruction}
use Rattle.table_file.specs.Opcodes.{begins_statement}
use Rattle.table_file.specs.Reading.{counted, operation, instructions, code_list}
use Rattle.table_file.proofs.NumberLemmas.{IsBytes}
use Rattle.table_file.proofs.ReadsLemmas.{Stands, Reads, stands_then, stands_apart, stands_nothing, nothing_ends, ok_is, bind_ok, passed}
use Rattle.table_file.proofs.FieldLaws.{word_reads}
use Rattle.table_file.proofs.InstructionLaws.{rest_of, code_of, VersionFits, instruction_takes, instruction_again}
use Rattle.table_file.proofs.OpcodeLaws.{opcode_number, operation_reads, begins_with, begins_is}

-- ---- the count of statements

abbrev one_or_none : Bool → ℕ
one_or_none b = cond b 1 0

counted_is : (b : Bool) (statements at more : ℕ) → cond (not b) (Ok statements) (cond (nat_lt statements most_statements) (Ok (statements + 1)) (Err (TooMany at))) ≡ Ok more → statements ≤ most_statements
    → (more ≡ statements + one_or_none b) × (more ≤ most_statements)
counted_is true statements at more e few =
    let g = passed (nat_lt statements most_statements) (TooMany at) (Ok (statements + 1)) more e in
    let same : statements + 1 ≡ more = ok_is (statements + 1) more g.1 in
    let below : statements < most_statements = (Decides-ltb statements most_statements).0 g.0 in
    (sym same, omega (arith, below, same))
counted_is false statements at more e few =
    let same : statements ≡ more = ok_is statements more e in
    (omega (arith, same), omega (arith, same, few))

counted_again : (b : Bool) (statements at : ℕ) → statements + one_or_none b ≤ most_statements
    → cond (not b) (Ok statements) (cond (nat_lt statements most_statements) (Ok (statements + 1)) (Err (TooMany at))) ≡ Ok (statements + one_or_none b)
counted_again true statements at few =
    let few_is : statements + 1 ≤ most_statements = few in
    let below : nat_lt statements most_statements ≡ true = (Decides-ltb statements most_statements).1 (omega (arith, few_is)) in
    rw below refl
counted_again false statements at few = let same : statements ≡ statements + 0 = omega arith in ap (λ (n : ℕ). Ok n) same

-- how many statements some instructions begin
abbrev pub begun : List Instruction → ℕ
begun xs = count_by (λ (i : Instruction). is_statement i.operation) xs

begun-cons : (i : Instruction) (xs : List Instruction) → begun (i ∷ xs) ≡ one_or_none (is_statement i.operation) + begun xs
begun-cons i xs = sum_by-cons (λ (i : Instruction). cond (is_statement i.operation) 1 0) i xs

-- ---- instructions in order

-- what is known of instructions that were read
record AreTaken (said : ℕ) (texts : List (List ℕ)) (before number : ℕ) (bytes : List ℕ) (at end : ℕ) (xs : List Instruction) : Type 0 where
  stands : Stands bytes at end (flat_map instruction_bytes xs)
  count : length xs ≡ number
  each : AllByRecursion (InstructionFits texts) xs
  versions : AllByRecursion (λ (i : Instruction). VersionFits said i.operation) xs
  statements : before + begun xs ≤ most_statements

instructions_take : (version : ℕ) (texts : List (List ℕ)) (count statements : ℕ) (bytes : List ℕ) (at : ℕ) (z : List Instruction × ℕ) → IsBytes bytes → statements ≤ most_statements → instructions version texts statements count bytes at ≡ Ok z
    → AreTaken version texts statements count bytes at z.1 z.0
unfolding instructions
instructions_take version texts zero statements bytes at z fits few e =
    subst (λ (y : List Instruction × ℕ). AreTaken version texts statements 0 bytes at y.1 y.0) (ok_is ([], at) z e)
    (record { stands = stands_nothing bytes at; count = refl; each = tt; versions = tt; statements = let none : begun [] ≡ 0 = refl in omega (arith, few, none) })
instructions_take version texts (suc count) statements bytes at z fits few e =
    let s1 = bind_ok (operation bytes at) _ z e in
    let s2 = bind_ok (counted statements s1.0.0 at) _ z s1.2 in
    let s3 = bind_ok (instruction version texts s1.0.0 bytes s1.0.1) _ z s2.2 in
    let s4 = bind_ok (instructions version texts s2.0 count bytes s3.0.1) (λ o. Ok (s3.0.0 ∷ o.0, o.1)) z s3.2 in
    let more = counted_is (begins_statement s1.0.0) statements at s2.0 s2.1 few in
    let tag = operation_reads.takes bytes at s1.0 fits s1.1 in
    let first = instruction_takes version texts s1.0.0 bytes s1.0.1 s3.0 fits s3.1 in
    let others = instructions_take version texts count s2.0 bytes s3.0.1 s4.0 fits more.1 s4.1 in
    let i = s3.0.0 in
    let whole : Stands bytes at s3.0.1 (opcode_number s1.0.0 ∷ rest_of i) = stands_then bytes at s1.0.1 s3.0.1 (opcode_number s1.0.0 ∷ []) (rest_of i) tag.0 first.stands in
    let same : opcode_number s1.0.0 ∷ rest_of i ≡ instruction_bytes i = ap (λ (c : Opcode). opcode_number c ∷ rest_of i) (sym first.code) ∙ sym (begins_with i.line i.operation) in
    let stands = subst (λ (t : List ℕ). Stands bytes at s3.0.1 t) same whole in
    let both = stands_then bytes at s3.0.1 s4.0.1 (instruction_bytes i) (flat_map instruction_bytes s4.0.0) stands others.stands in
    let sum = begun-cons i s4.0.0 in
    let bit : one_or_none (is_statement i.operation) ≡ one_or_none (begins_statement s1.0.0) =
    ap one_or_none (sym (begins_is i.operation)) ∙ ap (λ (c : Opcode). one_or_none (begins_statement c)) first.code
    in
    subst (λ (y : List Instruction × ℕ). AreTaken version texts statements (suc count) bytes at y.1 y.0) (ok_is (i ∷ s4.0.0, s4.0.1) z s4.2)
    (record {
      stands = rw flat_map-cons both;
      count = ap suc others.count;
      each = (first.fits, others.each);
      versions = (first.version, others.versions);
      statements = omega (arith, sum, bit, more.0, others.statements);
    })

instructions_again : (version : ℕ) (texts : List (List ℕ)) (count statements : ℕ) (bytes : List ℕ) (at end : ℕ) (xs : List Instruction) → Stands bytes at end (flat_map instruction_bytes xs) → length xs ≡ count
    → AllByRecursion (InstructionFits texts) xs → AllByRecursion (λ (i : Instruction). VersionFits version i.operation) xs → statements + begun xs ≤ most_statements → instructions version texts statements count bytes at ≡ Ok (xs, end)
unfolding instructions
instructions_again version texts zero statements bytes at end [] st len fits versions few = ap (λ (n : ℕ). Ok ([], n)) (sym (nothing_ends bytes at end st))
instructions_again version texts zero statements bytes at end (i ∷ xs) st len fits versions few = absurd (omega (arith, len))
instructions_again version texts (suc count) statements bytes at end [] st len fits versions few = absurd (omega (arith, len))
instructions_again version texts (suc count) statements bytes at end (i ∷ xs) st len fits versions few =
    let split : flat_map instruction_bytes (i ∷ xs) ≡ instruction_bytes i ++ flat_map instruction_bytes xs = flat_map-cons instruction_bytes i xs in
    let mid = at + length (instruction_bytes i) in
    let parts = stands_apart bytes at end (instruction_bytes i) (flat_map instruction_bytes xs) (subst (λ (t : List ℕ). Stands bytes at end t) split st) in
    let c = code_of i.operation in
    let own = stands_apart bytes at mid (opcode_number c ∷ []) (rest_of i) (subst (λ (t : List ℕ). Stands bytes at mid t) (begins_with i.line i.operation) parts.0) in
    let sum = begun-cons i xs in
    let bit : one_or_none (is_statement i.operation) ≡ one_or_none (begins_statement c) = ap one_or_none (sym (begins_is i.operation)) in
    let o = operation_reads.again bytes at (at + 1) c own.0 tt in
    let n : counted statements c at ≡ Ok (statements + one_or_none (begins_statement c)) = counted_again (begins_statement c) statements at (omega (arith, few, sum, bit)) in
    let r = instruction_again version texts i.line i.operation bytes (at + 1) mid own.1 fits.0 versions.0 in
    let rest = instructions_again version texts count (statements + one_or_none (begins_statement c)) bytes mid end xs parts.1 (omega (arith, len)) fits.1 versions.1 (omega (arith, few, sum, bit)) in
    rw (o, n, r, rest) refl

-- ---- the code with its count

pub code_reads : (version : ℕ) (texts : List (List ℕ)) → Reads (code_list version texts) (list_bytes instruction_bytes) (λ xs. CodeFits texts xs × AllByRecursion (λ (i : Instruction). VersionFits version i.operation) xs)
unfolding code_list
code_reads version texts = record {
  takes = λ bytes at z fits e.
      let s = bind_ok (number 4 bytes at) (λ count. instructions version texts 0 count.0 bytes count.1) z e in
      let n = word_reads.takes bytes at s.0 fits s.1 in
      let t = instructions_take version texts s.0.0 0 bytes s.0.1 z fits (omega arith) s.2 in
      let both = stands_then bytes at s.0.1 z.1 (word s.0.0) (flat_map instruction_bytes z.0) n.0 t.stands in (
        subst (λ (k : ℕ). Stands bytes at z.1 (word k ++ flat_map instruction_bytes z.0)) (sym t.count) both,
        (record { few = subst (λ (k : ℕ). IsWithin 32 k) (sym t.count) n.1; statements = omega (arith, t.statements); each = t.each }, t.versions),
      );
  again = λ bytes at end xs st fits.
      let parts = stands_apart bytes at end (word (length xs)) (flat_map instruction_bytes xs) st in
      let n = word_reads.again bytes at (at + 4) (length xs) parts.0 fits.0.few in
      let r = instructions_again version texts (length xs) 0 bytes (at + 4) end xs parts.1 refl fits.0.each fits.1 (omega (arith, fits.0.statements)) in
      rw (n, r) refl;
}
