-- Instructions: what a reader takes is what is written, and what is written is taken again.
use Rattle.std.proofs.Common.{◌≡◌, ℕ, ◌+◌, ◌*◌, Bool, true, false, cond, eqb, List, [], ◌∷◌, ◌++◌, drop, Option, Ok, refl, sym, ap, subst, ◌∙◌, arith}
use Rattle.sial_syntax.specs.declared.condition.Test.{Test}
use Rattle.sial_syntax.specs.declared.operand.Bin.{Bin}
use Rattle.sial_syntax.specs.declared.operand.Op.{Op}
use Rattle.sial_syntax.specs.declared.operand.Operand.{Operand}
use Rattle.sial_syntax.specs.declared.operand.Right.{Right}
use Rattle.sial_syntax.specs.declared.operand.Right.TheVariants.{One, Two}
use Rattle.sial_syntax.specs.declared.operand.Target.{Target}
use Rattle.sip_tables.specs.declared.instruction.Instruction.{Instruction}
use Rattle.sip_tables.specs.declared.instruction.Operation.{Operation}
use Rattle.sip_tables.specs.declared.instruction.Operation.TheVariants as op
use Rattle.table_file.specs.declared.opcode.Opcode.{Opcode}
use Rattle.table_file.specs.declared.opcode.Opcode.TheVariants as code
use Rattle.table_file.specs.Bytes.{no_part, target_part, operand_part, assign_row, instruction_bytes, puts_max}
use Rattle.table_file.specs.Fits.{OperandFits, RightFits, InstructionFits}
use Rattle.table_file.specs.Instructions as spec
use Rattle.table_file.specs.Numbers.{test_number, op_number}
use Rattle.table_file.specs.Operands.{block, slots}
use Rattle.table_file.proofs.NumberLemmas.{IsBytes}
use Rattle.table_file.proofs.ReadsLemmas.{Stands, built}
use Rattle.table_file.proofs.ModeLaws.{mode_of, how_apart, how_together}
use Rattle.table_file.proofs.InstructionParts.{line_part, both_part, cond_part, first_of, bin_in, right_part, SecondFits, IsRight}
use Rattle.table_file.proofs.InstructionReaders.{ending_builds, loop_head_builds, pieces_head_builds, branch_builds, where_builds, pardo_builds, call_builds, assign_builds, collection_builds, print_builds, end_do_builds, past_else_builds, end_pardo_builds, get_builds, request_builds, integrals_builds, create_builds, delete_builds, print_scalar_builds, put_builds, prepare_builds, allocate_builds, deallocate_builds}

-- an instruction behind its operation
abbrev pub rest_of : Instruction → List ℕ
rest_of i = drop 1 (instruction_bytes i)

-- the operation of an instruction by its number alone
abbrev pub code_of : Operation → Opcode
code_of op.Stop = code.Stop
code_of op.Return = code.Return
code_of (op.Do index past) = code.Do
code_of (op.EndDo head) = code.EndDo
code_of (op.DoIn sub index past) = code.DoIn
code_of (op.If cond otherwise) = code.If
code_of (op.Else past) = code.Else
code_of op.EndIf = code.EndIf
code_of (op.Pardo indices end_) = code.Pardo
code_of (op.Where cond) = code.Where
code_of (op.EndPardo head) = code.EndPardo
code_of (op.Call procedure entry) = code.Call
code_of (op.Assign target combining right) = code.Assign
code_of (op.Get block) = code.Get
code_of (op.Put block how from) = code.Put
code_of (op.Request block) = code.Request
code_of (op.Prepare block how from) = code.Prepare
code_of (op.Create array) = code.Create
code_of (op.Delete array) = code.Delete
code_of (op.Allocate array slots) = code.Allocate
code_of (op.Deallocate array slots) = code.Deallocate
code_of (op.Collective into from) = code.Collective
code_of op.SipBarrier = code.SipBarrier
code_of op.ServerBarrier = code.ServerBarrier
code_of (op.Print text) = code.Print
code_of (op.PrintScalar scalar) = code.PrintScalar
code_of (op.Integrals block) = code.Integrals

-- where the greater number is kept, the version is 2
abbrev pub VersionFits : (version : ℕ) → Operation → Type 0
VersionFits version operation = puts_max operation ≡ true → eqb version 2 ≡ true

abbrev no : Bool
no = false

no_max : (version : ℕ) → no ≡ true → eqb version 2 ≡ true
no_max version e = absurd cc

-- what is known of an instruction that was read
pub record IsTaken (said : ℕ) (texts : List (List ℕ)) (c : Opcode) (bytes : List ℕ) (at end : ℕ) (i : Instruction) : Type 0 where
  pub stands : Stands bytes at end (rest_of i)
  pub code : code_of i.operation ≡ c
  pub fits : InstructionFits texts i
  pub version : VersionFits said i.operation

plus_none : (n : ℕ) → n + 0 ≡ n
plus_none n = omega arith

-- the rest of an assignment
assign_rest : (line : ℕ) (target : Target) (combining : Op) (bin : Option Bin) (first : Operand) (right : Right) → IsRight first bin right
    → (mode_of combining bin ∷ []) ++ (line_part line ++ (target_part target ++ (operand_part first ++ right_part right))) ≡ drop 1 (assign_row line target combining right)
assign_rest line target combining bin first (One a) is =
    let mode : mode_of combining bin ≡ 16 * op_number combining = ap (λ (b : Option Bin). mode_of combining b) (sym is.bin) ∙ plus_none (16 * op_number combining) in
    ap (λ (a : Operand). (mode_of combining bin ∷ []) ++ (line_part line ++ (target_part target ++ (operand_part a ++ no_part)))) (sym is.first)
    ∙ ap (λ (m : ℕ). (m ∷ []) ++ (line_part line ++ (target_part target ++ (operand_part a ++ no_part)))) mode
assign_rest line target combining bin first (Two a between b) is =
    ap (λ (f : Operand). (mode_of combining bin ∷ []) ++ (line_part line ++ (target_part target ++ (operand_part f ++ operand_part b)))) (sym is.first)
    ∙ ap (λ (o : Option Bin). (mode_of combining o ∷ []) ++ (line_part line ++ (target_part target ++ (operand_part a ++ operand_part b)))) (sym is.bin)

right_fits : (first : Operand) (bin : Option Bin) (right : Right) → OperandFits first → IsRight first bin right → RightFits right
right_fits first bin (One a) f is = subst (λ (o : Operand). OperandFits o) (sym is.first) f
right_fits first bin (Two a between b) f is = (subst (λ (o : Operand). OperandFits o) (sym is.first) f, is.second)

right_apart : (right : Right) → RightFits right → OperandFits (first_of right) × SecondFits right
right_apart (One a) f = (f, tt)
right_apart (Two a bin b) f = f

pub instruction_takes : (version : ℕ) (texts : List (List ℕ)) (c : Opcode) (bytes : List ℕ) (at : ℕ) (z : Instruction × ℕ) → IsBytes bytes → spec.instruction version texts c bytes at ≡ Ok z → IsTaken version texts c bytes at z.1 z.0
unfolding spec.instruction
instruction_takes version texts code.Stop bytes at z fits e =
    built _ _ _ _ (ending_builds op.Stop) bytes at z fits e (IsTaken version texts code.Stop bytes at z.1) (λ p st f. record { stands = st; code = refl; fits = (f, tt); version = no_max version })
instruction_takes version texts code.Return bytes at z fits e =
    built _ _ _ _ (ending_builds op.Return) bytes at z fits e (IsTaken version texts code.Return bytes at z.1) (λ p st f. record { stands = st; code = refl; fits = (f, tt); version = no_max version })
instruction_takes version texts code.Do bytes at z fits e =
    built _ _ _ _ loop_head_builds bytes at z fits e (IsTaken version texts code.Do bytes at z.1) (λ p st f. record { stands = st; code = refl; fits = (f.0.0, (f.1.0, f.0.1)); version = no_max version })
instruction_takes version texts code.EndDo bytes at z fits e =
    built _ _ _ _ end_do_builds bytes at z fits e (IsTaken version texts code.EndDo bytes at z.1) (λ p st f. record { stands = st; code = refl; fits = f; version = no_max version })
instruction_takes version texts code.DoIn bytes at z fits e =
    built _ _ _ _ pieces_head_builds bytes at z fits e (IsTaken version texts code.DoIn bytes at z.1) (λ p st f. record { stands = st; code = refl; fits = (f.0.0, (f.1.0, (f.1.1.0, f.0.1))); version = no_max version })
instruction_takes version texts code.If bytes at z fits e =
    built _ _ _ _ branch_builds bytes at z fits e (IsTaken version texts code.If bytes at z.1) (λ p st f. record { stands = subst (λ (t : List ℕ). Stands bytes at z.1 t) (ap (λ (k : Test). (test_number k ∷ []) ++ (both_part p.1.0 ++ cond_part p.1.1)) (sym f.1.1.0)) st; code = refl; fits = (f.1.0.0, (f.1.1.1, f.1.0.1)); version = no_max version })
instruction_takes version texts code.Else bytes at z fits e =
    built _ _ _ _ past_else_builds bytes at z fits e (IsTaken version texts code.Else bytes at z.1) (λ p st f. record { stands = st; code = refl; fits = f; version = no_max version })
instruction_takes version texts code.EndIf bytes at z fits e =
    built _ _ _ _ (ending_builds op.EndIf) bytes at z fits e (IsTaken version texts code.EndIf bytes at z.1) (λ p st f. record { stands = st; code = refl; fits = (f, tt); version = no_max version })
instruction_takes version texts code.Pardo bytes at z fits e =
    built _ _ _ _ pardo_builds bytes at z fits e (IsTaken version texts code.Pardo bytes at z.1) (λ p st f. record { stands = st; code = refl; fits = (f.0.0, (f.1.0, f.0.1)); version = no_max version })
instruction_takes version texts code.Where bytes at z fits e =
    built _ _ _ _ where_builds bytes at z fits e (IsTaken version texts code.Where bytes at z.1) (λ p st f. record { stands = subst (λ (t : List ℕ). Stands bytes at z.1 t) (ap (λ (k : Test). (test_number k ∷ []) ++ (line_part p.1.0 ++ cond_part p.1.1)) (sym f.1.1.0)) st; code = refl; fits = (f.1.0, f.1.1.1); version = no_max version })
instruction_takes version texts code.EndPardo bytes at z fits e =
    built _ _ _ _ end_pardo_builds bytes at z fits e (IsTaken version texts code.EndPardo bytes at z.1) (λ p st f. record { stands = st; code = refl; fits = f; version = no_max version })
instruction_takes version texts code.Call bytes at z fits e =
    built _ _ _ _ call_builds bytes at z fits e (IsTaken version texts code.Call bytes at z.1) (λ p st f. record { stands = st; code = refl; fits = (f.0.0, (f.1.0, f.0.1)); version = no_max version })
instruction_takes version texts code.Assign bytes at z fits e =
    built _ _ _ _ assign_builds bytes at z fits e (IsTaken version texts code.Assign bytes at z.1) (λ p st f. record { stands = subst (λ (t : List ℕ). Stands bytes at z.1 t) (assign_rest p.1.0 p.1.1.0 p.0.0 p.0.1 p.1.1.1.0 p.1.1.1.1 f.1.1.1.1) st; code = refl; fits = (f.1.0, (f.1.1.0, right_fits p.1.1.1.0 p.0.1 p.1.1.1.1 f.1.1.1.0 f.1.1.1.1)); version = no_max version })
instruction_takes version texts code.Get bytes at z fits e =
    built _ _ _ _ get_builds bytes at z fits e (IsTaken version texts code.Get bytes at z.1) (λ p st f. record { stands = st; code = refl; fits = (f.0, f.1); version = no_max version })
instruction_takes version texts code.Put bytes at z fits e =
    built _ _ _ _ (put_builds version) bytes at z fits e (IsTaken version texts code.Put bytes at z.1)
    (λ p st f. let how = how_apart version p.how f.0 in record { stands = st; code = refl; fits = (f.1.0, (f.1.1.0, (how.0, f.1.1.1))); version = how.1 })
instruction_takes version texts code.Request bytes at z fits e =
    built _ _ _ _ request_builds bytes at z fits e (IsTaken version texts code.Request bytes at z.1) (λ p st f. record { stands = st; code = refl; fits = (f.0, f.1); version = no_max version })
instruction_takes version texts code.Prepare bytes at z fits e =
    built _ _ _ _ (prepare_builds version) bytes at z fits e (IsTaken version texts code.Prepare bytes at z.1)
    (λ p st f. let how = how_apart version p.how f.0 in record { stands = st; code = refl; fits = (f.1.0, (f.1.1.0, (how.0, f.1.1.1))); version = how.1 })
instruction_takes version texts code.Create bytes at z fits e =
    built _ _ _ _ create_builds bytes at z fits e (IsTaken version texts code.Create bytes at z.1) (λ p st f. record { stands = st; code = refl; fits = (f.0, f.1); version = no_max version })
instruction_takes version texts code.Delete bytes at z fits e =
    built _ _ _ _ delete_builds bytes at z fits e (IsTaken version texts code.Delete bytes at z.1) (λ p st f. record { stands = st; code = refl; fits = (f.0, f.1); version = no_max version })
instruction_takes version texts code.Allocate bytes at z fits e =
    built _ _ _ _ allocate_builds bytes at z fits e (IsTaken version texts code.Allocate bytes at z.1) (λ p st f. record { stands = st; code = refl; fits = f; version = no_max version })
instruction_takes version texts code.Deallocate bytes at z fits e =
    built _ _ _ _ deallocate_builds bytes at z fits e (IsTaken version texts code.Deallocate bytes at z.1) (λ p st f. record { stands = st; code = refl; fits = f; version = no_max version })
instruction_takes version texts code.Collective bytes at z fits e =
    built _ _ _ _ collection_builds bytes at z fits e (IsTaken version texts code.Collective bytes at z.1) (λ p st f. record { stands = st; code = refl; fits = (f.0, (f.1.0, f.1.1.0)); version = no_max version })
instruction_takes version texts code.SipBarrier bytes at z fits e =
    built _ _ _ _ (ending_builds op.SipBarrier) bytes at z fits e (IsTaken version texts code.SipBarrier bytes at z.1) (λ p st f. record { stands = st; code = refl; fits = (f, tt); version = no_max version })
instruction_takes version texts code.ServerBarrier bytes at z fits e =
    built _ _ _ _ (ending_builds op.ServerBarrier) bytes at z fits e (IsTaken version texts code.ServerBarrier bytes at z.1) (λ p st f. record { stands = st; code = refl; fits = (f, tt); version = no_max version })
instruction_takes version texts code.Print bytes at z fits e =
    built _ _ _ _ (print_builds texts) bytes at z fits e (IsTaken version texts code.Print bytes at z.1) (λ p st f. record { stands = st; code = refl; fits = (f.0, f.1.0); version = no_max version })
instruction_takes version texts code.PrintScalar bytes at z fits e =
    built _ _ _ _ print_scalar_builds bytes at z fits e (IsTaken version texts code.PrintScalar bytes at z.1) (λ p st f. record { stands = st; code = refl; fits = (f.0, f.1); version = no_max version })
instruction_takes version texts code.Integrals bytes at z fits e =
    built _ _ _ _ integrals_builds bytes at z fits e (IsTaken version texts code.Integrals bytes at z.1) (λ p st f. record { stands = st; code = refl; fits = (f.0, f.1); version = no_max version })

pub instruction_again : (version : ℕ) (texts : List (List ℕ)) (line : ℕ) (operation : Operation) (bytes : List ℕ) (at end : ℕ) → Stands bytes at end (rest_of (record { line = line; operation = operation }))
    → InstructionFits texts (record { line = line; operation = operation }) → VersionFits version operation → spec.instruction version texts (code_of operation) bytes at ≡ Ok (record { line = line; operation = operation }, end)
unfolding spec.instruction
instruction_again version texts line op.Stop bytes at end st fits v =
    (ending_builds op.Stop).again bytes at end line st fits.0
instruction_again version texts line op.Return bytes at end st fits v =
    (ending_builds op.Return).again bytes at end line st fits.0
instruction_again version texts line (op.Do index past) bytes at end st fits v =
    loop_head_builds.again bytes at end ((line, past), (index, tt)) st ((fits.0, fits.1.1), (fits.1.0, tt))
instruction_again version texts line (op.EndDo head) bytes at end st fits v =
    end_do_builds.again bytes at end (line, head) st fits
instruction_again version texts line (op.DoIn sub index past) bytes at end st fits v =
    pieces_head_builds.again bytes at end ((line, past), (sub, (index, tt))) st ((fits.0, fits.1.1.1), (fits.1.0, (fits.1.1.0, tt)))
instruction_again version texts line (op.If cond otherwise) bytes at end st fits v =
    branch_builds.again bytes at end (cond.test, ((line, otherwise), cond)) st (tt, ((fits.0, fits.1.1), (refl, fits.1.0)))
instruction_again version texts line (op.Else past) bytes at end st fits v =
    past_else_builds.again bytes at end (line, past) st fits
instruction_again version texts line op.EndIf bytes at end st fits v =
    (ending_builds op.EndIf).again bytes at end line st fits.0
instruction_again version texts line (op.Pardo indices end_) bytes at end st fits v =
    pardo_builds.again bytes at end ((line, end_), (indices, tt)) st ((fits.0, fits.1.1), (fits.1.0, tt))
instruction_again version texts line (op.Where cond) bytes at end st fits v =
    where_builds.again bytes at end (cond.test, (line, cond)) st (tt, (fits.0, (refl, fits.1)))
instruction_again version texts line (op.EndPardo head) bytes at end st fits v =
    end_pardo_builds.again bytes at end (line, head) st fits
instruction_again version texts line (op.Call procedure entry) bytes at end st fits v =
    call_builds.again bytes at end ((line, entry), (procedure, tt)) st ((fits.0, fits.1.1), (fits.1.0, tt))
instruction_again version texts line (op.Assign target combining right) bytes at end st fits v =
    let parts = right_apart right fits.1.1 in
    let is : IsRight (first_of right) (bin_in right) right = record { first = refl; bin = refl; second = parts.1 } in
    assign_builds.again bytes at end ((combining, bin_in right), (line, (target, (first_of right, right))))
    (subst (λ (t : List ℕ). Stands bytes at end t) (sym (assign_rest line target combining (bin_in right) (first_of right) right is)) st)
    (tt, (fits.0, (fits.1.0, (parts.0, is))))
instruction_again version texts line (op.Get block) bytes at end st fits v =
    get_builds.again bytes at end (line, block) st (fits.0, fits.1)
instruction_again version texts line (op.Put block how from) bytes at end st fits v =
    (put_builds version).again bytes at end (record { line = line; block = block; how = how; from = from }) st (how_together version how fits.1.1.0 v, (fits.0, (fits.1.0, fits.1.1.1)))
instruction_again version texts line (op.Request block) bytes at end st fits v =
    request_builds.again bytes at end (line, block) st (fits.0, fits.1)
instruction_again version texts line (op.Prepare block how from) bytes at end st fits v =
    (prepare_builds version).again bytes at end (record { line = line; block = block; how = how; from = from }) st (how_together version how fits.1.1.0 v, (fits.0, (fits.1.0, fits.1.1.1)))
instruction_again version texts line (op.Create array) bytes at end st fits v =
    create_builds.again bytes at end (line, array) st (fits.0, fits.1)
instruction_again version texts line (op.Delete array) bytes at end st fits v =
    delete_builds.again bytes at end (line, array) st (fits.0, fits.1)
instruction_again version texts line (op.Allocate array slots) bytes at end st fits v =
    allocate_builds.again bytes at end (record { line = line; array = array; slots = slots }) st fits
instruction_again version texts line (op.Deallocate array slots) bytes at end st fits v =
    deallocate_builds.again bytes at end (record { line = line; array = array; slots = slots }) st fits
instruction_again version texts line (op.Collective into from) bytes at end st fits v =
    collection_builds.again bytes at end (line, (into, (from, tt))) st (fits.0, (fits.1.0, (fits.1.1, tt)))
instruction_again version texts line op.SipBarrier bytes at end st fits v =
    (ending_builds op.SipBarrier).again bytes at end line st fits.0
instruction_again version texts line op.ServerBarrier bytes at end st fits v =
    (ending_builds op.ServerBarrier).again bytes at end line st fits.0
instruction_again version texts line (op.Print text) bytes at end st fits v =
    (print_builds texts).again bytes at end (line, (text, tt)) st (fits.0, (fits.1, tt))
instruction_again version texts line (op.PrintScalar scalar) bytes at end st fits v =
    print_scalar_builds.again bytes at end (line, scalar) st (fits.0, fits.1)
instruction_again version texts line (op.Integrals block) bytes at end st fits v =
    integrals_builds.again bytes at end (line, block) st (fits.0, fits.1)
