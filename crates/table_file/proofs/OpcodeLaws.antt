-- Numbers of operations: they are read, and each instruction begins with its own.
use Rattle.std.proofs.Common.{◌≡◌, ℕ, ◌<◌, [], ◌∷◌, Some, refl, arith}
use Rattle.sial_syntax.specs.declared.operand.Right.TheVariants.{One, Two}
use Rattle.sip_tables.specs.declared.instruction.Operation.{Operation}
use Rattle.sip_tables.specs.declared.instruction.Operation.TheVariants as op
use Rattle.table_file.specs.declared.opcode.Opcode.{Opcode}
use Rattle.table_file.specs.declared.opcode.Opcode.TheVariants as code
use Rattle.table_file.specs.Bytes.{instruction_bytes}
use Rattle.table_file.specs.Fits.{is_statement}
use Rattle.table_file.specs.Opcodes.{opcode_of, begins_statement}
use Rattle.table_file.specs.Reading.{operation}
use Rattle.table_file.proofs.ReadsLemmas.{Reads, listed}
use Rattle.table_file.proofs.FieldLaws.{looked_up}
use Rattle.table_file.proofs.InstructionLaws.{rest_of, code_of}

abbrev pub opcode_number : Opcode → ℕ
opcode_number code.Stop = 1
opcode_number code.Return = 2
opcode_number code.Do = 3
opcode_number code.EndDo = 4
opcode_number code.DoIn = 5
opcode_number code.If = 7
opcode_number code.Else = 8
opcode_number code.EndIf = 9
opcode_number code.Pardo = 10
opcode_number code.Where = 11
opcode_number code.EndPardo = 12
opcode_number code.Call = 13
opcode_number code.Assign = 14
opcode_number code.Get = 15
opcode_number code.Put = 16
opcode_number code.Request = 17
opcode_number code.Prepare = 18
opcode_number code.Create = 19
opcode_number code.Delete = 20
opcode_number code.Allocate = 21
opcode_number code.Deallocate = 22
opcode_number code.Collective = 23
opcode_number code.SipBarrier = 24
opcode_number code.ServerBarrier = 25
opcode_number code.Print = 26
opcode_number code.PrintScalar = 27
opcode_number code.Integrals = 28

opcode_found : (n : ℕ) (k : Opcode) → opcode_of n ≡ Some k → n ≡ opcode_number k
opcode_found n k e =
    listed opcode_number n 1 code.Stop _ k refl e (λ e.
    listed opcode_number n 2 code.Return _ k refl e (λ e.
    listed opcode_number n 3 code.Do _ k refl e (λ e.
    listed opcode_number n 4 code.EndDo _ k refl e (λ e.
    listed opcode_number n 5 code.DoIn _ k refl e (λ e.
    listed opcode_number n 7 code.If _ k refl e (λ e.
    listed opcode_number n 8 code.Else _ k refl e (λ e.
    listed opcode_number n 9 code.EndIf _ k refl e (λ e.
    listed opcode_number n 10 code.Pardo _ k refl e (λ e.
    listed opcode_number n 11 code.Where _ k refl e (λ e.
    listed opcode_number n 12 code.EndPardo _ k refl e (λ e.
    listed opcode_number n 13 code.Call _ k refl e (λ e.
    listed opcode_number n 14 code.Assign _ k refl e (λ e.
    listed opcode_number n 15 code.Get _ k refl e (λ e.
    listed opcode_number n 16 code.Put _ k refl e (λ e.
    listed opcode_number n 17 code.Request _ k refl e (λ e.
    listed opcode_number n 18 code.Prepare _ k refl e (λ e.
    listed opcode_number n 19 code.Create _ k refl e (λ e.
    listed opcode_number n 20 code.Delete _ k refl e (λ e.
    listed opcode_number n 21 code.Allocate _ k refl e (λ e.
    listed opcode_number n 22 code.Deallocate _ k refl e (λ e.
    listed opcode_number n 23 code.Collective _ k refl e (λ e.
    listed opcode_number n 24 code.SipBarrier _ k refl e (λ e.
    listed opcode_number n 25 code.ServerBarrier _ k refl e (λ e.
    listed opcode_number n 26 code.Print _ k refl e (λ e.
    listed opcode_number n 27 code.PrintScalar _ k refl e (λ e.
    listed opcode_number n 28 code.Integrals _ k refl e (λ e.
    absurd cc)))))))))))))))))))))))))))

opcode_known : (k : Opcode) → (opcode_of (opcode_number k) ≡ Some k) × (opcode_number k < 256)
opcode_known code.Stop = (refl, omega arith)
opcode_known code.Return = (refl, omega arith)
opcode_known code.Do = (refl, omega arith)
opcode_known code.EndDo = (refl, omega arith)
opcode_known code.DoIn = (refl, omega arith)
opcode_known code.If = (refl, omega arith)
opcode_known code.Else = (refl, omega arith)
opcode_known code.EndIf = (refl, omega arith)
opcode_known code.Pardo = (refl, omega arith)
opcode_known code.Where = (refl, omega arith)
opcode_known code.EndPardo = (refl, omega arith)
opcode_known code.Call = (refl, omega arith)
opcode_known code.Assign = (refl, omega arith)
opcode_known code.Get = (refl, omega arith)
opcode_known code.Put = (refl, omega arith)
opcode_known code.Request = (refl, omega arith)
opcode_known code.Prepare = (refl, omega arith)
opcode_known code.Create = (refl, omega arith)
opcode_known code.Delete = (refl, omega arith)
opcode_known code.Allocate = (refl, omega arith)
opcode_known code.Deallocate = (refl, omega arith)
opcode_known code.Collective = (refl, omega arith)
opcode_known code.SipBarrier = (refl, omega arith)
opcode_known code.ServerBarrier = (refl, omega arith)
opcode_known code.Print = (refl, omega arith)
opcode_known code.PrintScalar = (refl, omega arith)
opcode_known code.Integrals = (refl, omega arith)

pub operation_reads : Reads operation (λ k. opcode_number k ∷ []) (λ k. Unit {0})
unfolding operation
operation_reads = looked_up opcode_of opcode_number (λ k. Unit {0}) (λ n k e. (opcode_found n k e, tt)) (λ k f. opcode_known k)

-- an instruction begins with the number of its operation
pub begins_with : (line : ℕ) (operation : Operation) → instruction_bytes (record { line = line; operation = operation }) ≡ opcode_number (code_of operation) ∷ rest_of (record { line = line; operation = operation })
begins_with line op.Stop = refl
begins_with line op.Return = refl
begins_with line (op.Do index past) = refl
begins_with line (op.EndDo head) = refl
begins_with line (op.DoIn sub index past) = refl
begins_with line (op.If test otherwise) = refl
begins_with line (op.Else past) = refl
begins_with line op.EndIf = refl
begins_with line (op.Pardo indices end_) = refl
begins_with line (op.Where test) = refl
begins_with line (op.EndPardo head) = refl
begins_with line (op.Call procedure entry) = refl
begins_with line (op.Assign target combining (One a)) = refl
begins_with line (op.Assign target combining (Two a bin b)) = refl
begins_with line (op.Get block) = refl
begins_with line (op.Put block how from) = refl
begins_with line (op.Request block) = refl
begins_with line (op.Prepare block how from) = refl
begins_with line (op.Create array) = refl
begins_with line (op.Delete array) = refl
begins_with line (op.Allocate array slots) = refl
begins_with line (op.Deallocate array slots) = refl
begins_with line (op.Collective into from) = refl
begins_with line op.SipBarrier = refl
begins_with line op.ServerBarrier = refl
begins_with line (op.Print text) = refl
begins_with line (op.PrintScalar scalar) = refl
begins_with line (op.Integrals block) = refl

-- an operation begins a statement where its number says so
pub begins_is : (operation : Operation) → begins_statement (code_of operation) ≡ is_statement operation
begins_is op.Stop = refl
begins_is op.Return = refl
begins_is (op.Do index past) = refl
begins_is (op.EndDo head) = refl
begins_is (op.DoIn sub index past) = refl
begins_is (op.If test otherwise) = refl
begins_is (op.Else past) = refl
begins_is op.EndIf = refl
begins_is (op.Pardo indices end_) = refl
begins_is (op.Where test) = refl
begins_is (op.EndPardo head) = refl
begins_is (op.Call procedure entry) = refl
begins_is (op.Assign target combining right) = refl
begins_is (op.Get block) = refl
begins_is (op.Put block how from) = refl
begins_is (op.Request block) = refl
begins_is (op.Prepare block how from) = refl
begins_is (op.Create array) = refl
begins_is (op.Delete array) = refl
begins_is (op.Allocate array slots) = refl
begins_is (op.Deallocate array slots) = refl
begins_is (op.Collective into from) = refl
begins_is op.SipBarrier = refl
begins_is op.ServerBarrier = refl
begins_is (op.Print text) = refl
begins_is (op.PrintScalar scalar) = refl
begins_is (op.Integrals block) = refl
