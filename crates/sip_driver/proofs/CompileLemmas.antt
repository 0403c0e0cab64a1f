-- What each answer of a compilation says of its status.
use Rattle.std.proofs.Common.{◌≡◌, ◌≢◌, ◌∙◌, ℕ, ◌⊎◌, List, Option, subst, sym, inl, inr, arith, refl}
use Rattle.scalar_discipline.specs.declared.fault.RuleFault.{RuleFault}
use Rattle.shape_check.specs.declared.fault.ShapeFault.{ShapeFault}
use Rattle.sip_compile.specs.Compiling.{Compiles, ForTable}
use Rattle.sip_compile.specs.Filing.{IsUnfiled}
use Rattle.sip_files.specs.Files.{Folder}
use Rattle.sip_files.specs.Loading.{LoadOf}
use Rattle.sip_files.specs.declared.call.Call.{Call}
use Rattle.sip_grant.specs.Loads.{IsUnread}
use Rattle.sip_grant.specs.Names.{named, program_file}
use Rattle.sip_grant.specs.Programs.{BreaksShape, BreaksSides, IsProgramFile}
use Rattle.sip_grant.specs.Refusals.{ForProgram, RefusesProgram}
use Rattle.sip_grant.specs.Syntax.{IsFaultOf}
use Rattle.sip_grant.specs.declared.refusal.Refusal.{Refusal}
use Rattle.sip_grant.specs.declared.refusal.SyntaxFault.{SyntaxFault}
use Rattle.sip_grant.specs.declared.refusal.Refusal.TheVariants.{NoProgram, NoTree, Shape, Sides, NoInput, BadInput, Unfit, OutOfMemory}
use Rattle.sip_grant.specs.declared.refusal.Refusal.TheVariants as no
use Rattle.sip_driver.specs.Performed.{CompileAnswers, line_on, status_of}
use Rattle.sip_driver.specs.Says.{read_line, syntax_line, shape_line, side_line, write_line, line_of}

-- a status that is neither
neither : (n : ℕ) → n ≢ 0 → n ≢ 13 → (n ≡ 0) ⊎ (n ≡ 13) → ⊥
neither n zero thirteen (inl e) = zero e
neither n zero thirteen (inr e) = thirteen e

module _
    {F : Type 0}
    (load : LoadOf F)
    (files : (mid new : F) → Type 0)
    (told : F → Option Folder)
    (counts : F → Call → ℕ)
    (old new : F)
    (program table : List ℕ)
    (says : List ℕ → Type 0) where
  unread : (status : ℕ) (refusal : Refusal) → RefusesProgram load old new program refusal → says (line_on (named program table) refusal) → status ≡ status_of refusal → status ≡ 2
      → IsUnread load old new (program_file program) × says (read_line program)
  unread status NoProgram refuses said gives e = (refuses, said)
  unread status (NoTree fault) refuses said gives e = absurd (omega (arith, gives, e))
  unread status (Shape fault) refuses said gives e = absurd (omega (arith, gives, e))
  unread status (Sides fault) refuses said gives e = absurd (omega (arith, gives, e))
  unread status NoInput refuses said gives e = absurd refuses
  unread status (BadInput fault) refuses said gives e = absurd refuses
  unread status (Unfit fault) refuses said gives e = absurd refuses
  unread status OutOfMemory refuses said gives e = absurd (omega (arith, gives, e))

  syntax : (status : ℕ) (refusal : Refusal) → RefusesProgram load old new program refusal → says (line_on (named program table) refusal) → status ≡ status_of refusal → status ≡ 3
      → (fault : SyntaxFault) × ForProgram load old new program (λ text. IsFaultOf text fault) × says (syntax_line fault)
  syntax status NoProgram refuses said gives e = absurd (omega (arith, gives, e))
  syntax status (NoTree fault) refuses said gives e = (fault, refuses, said)
  syntax status (Shape fault) refuses said gives e = absurd (omega (arith, gives, e))
  syntax status (Sides fault) refuses said gives e = absurd (omega (arith, gives, e))
  syntax status NoInput refuses said gives e = absurd refuses
  syntax status (BadInput fault) refuses said gives e = absurd refuses
  syntax status (Unfit fault) refuses said gives e = absurd refuses
  syntax status OutOfMemory refuses said gives e = absurd (omega (arith, gives, e))

  rule : (status : ℕ) (refusal : Refusal) → RefusesProgram load old new program refusal → says (line_on (named program table) refusal) → status ≡ status_of refusal → status ≡ 4
      → ((fault : ShapeFault) × ForProgram load old new program (λ text. BreaksShape text fault) × says (shape_line fault))
      ⊎ ((fault : RuleFault) × ForProgram load old new program (λ text. BreaksSides text fault) × says (side_line fault))
  rule status NoProgram refuses said gives e = absurd (omega (arith, gives, e))
  rule status (NoTree fault) refuses said gives e = absurd (omega (arith, gives, e))
  rule status (Shape fault) refuses said gives e = inl (fault, refuses, said)
  rule status (Sides fault) refuses said gives e = inr (fault, refuses, said)
  rule status NoInput refuses said gives e = absurd refuses
  rule status (BadInput fault) refuses said gives e = absurd refuses
  rule status (Unfit fault) refuses said gives e = absurd refuses
  rule status OutOfMemory refuses said gives e = absurd (omega (arith, gives, e))

  memory : (status : ℕ) (refusal : Refusal) → RefusesProgram load old new program refusal → status ≡ status_of refusal → status ≡ 13 → RefusesProgram load old new program no.OutOfMemory
  memory status NoProgram refuses gives e = absurd (omega (arith, gives, e))
  memory status (NoTree fault) refuses gives e = absurd (omega (arith, gives, e))
  memory status (Shape fault) refuses gives e = absurd (omega (arith, gives, e))
  memory status (Sides fault) refuses gives e = absurd (omega (arith, gives, e))
  memory status NoInput refuses gives e = absurd refuses
  memory status (BadInput fault) refuses gives e = absurd refuses
  memory status (Unfit fault) refuses gives e = absurd refuses
  memory status OutOfMemory refuses gives e = refuses

  memory_line : (status : ℕ) (refusal : Refusal) → RefusesProgram load old new program refusal → says (line_on (named program table) refusal) → status ≡ status_of refusal → status ≡ 13 → says (line_of 13)
  memory_line status NoProgram refuses said gives e = absurd (omega (arith, gives, e))
  memory_line status (NoTree fault) refuses said gives e = absurd (omega (arith, gives, e))
  memory_line status (Shape fault) refuses said gives e = absurd (omega (arith, gives, e))
  memory_line status (Sides fault) refuses said gives e = absurd (omega (arith, gives, e))
  memory_line status NoInput refuses said gives e = absurd refuses
  memory_line status (BadInput fault) refuses said gives e = absurd refuses
  memory_line status (Unfit fault) refuses said gives e = absurd refuses
  memory_line status OutOfMemory refuses said gives e = said

  answers : (status : ℕ) (refusal : Refusal) → RefusesProgram load old new program refusal → status ≡ status_of refusal
      → (status ≡ 0) ⊎ ((status ≡ 2) ⊎ ((status ≡ 3) ⊎ ((status ≡ 4) ⊎ ((status ≡ 10) ⊎ (status ≡ 13)))))
  answers status NoProgram refuses is = inr (inl is)
  answers status (NoTree fault) refuses is = inr (inr (inl is))
  answers status (Shape fault) refuses is = inr (inr (inr (inl is)))
  answers status (Sides fault) refuses is = inr (inr (inr (inl is)))
  answers status NoInput refuses is = absurd refuses
  answers status (BadInput fault) refuses is = absurd refuses
  answers status (Unfit fault) refuses is = absurd refuses
  answers status OutOfMemory refuses is = inr (inr (inr (inr (inr is))))

  not_done : (refusal : Refusal) → status_of refusal ≢ 0
  not_done NoProgram = λ e. absurd (omega (arith, e))
  not_done (NoTree fault) = λ e. absurd (omega (arith, e))
  not_done (Shape fault) = λ e. absurd (omega (arith, e))
  not_done (Sides fault) = λ e. absurd (omega (arith, e))
  not_done NoInput = λ e. absurd (omega (arith, e))
  not_done (BadInput fault) = λ e. absurd (omega (arith, e))
  not_done (Unfit fault) = λ e. absurd (omega (arith, e))
  not_done OutOfMemory = λ e. absurd (omega (arith, e))

  not_filed : (refusal : Refusal) → status_of refusal ≢ 10
  not_filed NoProgram = λ e. absurd (omega (arith, e))
  not_filed (NoTree fault) = λ e. absurd (omega (arith, e))
  not_filed (Shape fault) = λ e. absurd (omega (arith, e))
  not_filed (Sides fault) = λ e. absurd (omega (arith, e))
  not_filed NoInput = λ e. absurd (omega (arith, e))
  not_filed (BadInput fault) = λ e. absurd (omega (arith, e))
  not_filed (Unfit fault) = λ e. absurd (omega (arith, e))
  not_filed OutOfMemory = λ e. absurd (omega (arith, e))

  -- the line of a refusal whose line tells no more than the status
  refused_line : (status : ℕ) (refusal : Refusal) → RefusesProgram load old new program refusal → says (line_on (named program table) refusal) → status ≡ status_of refusal → (status ≡ 0) ⊎ (status ≡ 13) → says (line_of status)
  refused_line status refusal refuses said gives (inl e) = absurd (not_done refusal (sym gives ∙ e))
  refused_line status refusal refuses said gives (inr e) =
      subst (λ (n : ℕ). says (line_of n)) (sym e) (memory_line status refusal refuses said gives e)

  -- A program that is refused.
  pub compile_refused : (status : ℕ) (refusal : Refusal) → RefusesProgram load old new program refusal → says (line_on (named program table) refusal) → status ≡ status_of refusal → told new ≡ told old → CompileAnswers load files told counts old new program table says status
  compile_refused status refusal refuses said gives_it same = record {
    done = λ e. absurd (not_done refusal (sym gives_it ∙ e));
    unread = unread status refusal refuses said gives_it;
    syntax = syntax status refusal refuses said gives_it;
    rule = rule status refusal refuses said gives_it;
    not_filed = λ e. absurd (not_filed refusal (sym gives_it ∙ e));
    memory = memory status refusal refuses gives_it;
    line = refused_line status refusal refuses said gives_it;
    answers = answers status refusal refuses gives_it;
    kept = λ zero ten. same;
  }

  -- A table that was written.
  pub compile_done : Compiles load files told old new program table → says (line_of 0) → CompileAnswers load files told counts old new program table says 0
  compile_done compiles silent = record {
    done = λ e. compiles;
    unread = λ e. absurd (omega (arith, e));
    syntax = λ e. absurd (omega (arith, e));
    rule = λ e. absurd (omega (arith, e));
    not_filed = λ e. absurd (omega (arith, e));
    memory = λ e. absurd (omega (arith, e));
    line = λ e. silent;
    answers = inl refl;
    kept = λ zero ten. absurd (zero refl);
  }

  -- A table that wasn't written whole.
  pub compile_not_filed : (mid : F) → files mid new → ForTable load old mid program (λ whole. IsUnfiled (told new) table whole (counts mid) (counts new)) → says (write_line table) → CompileAnswers load files told counts old new program table says 10
  compile_not_filed mid alone unfiled said = record {
    done = λ e. absurd (omega (arith, e));
    unread = λ e. absurd (omega (arith, e));
    syntax = λ e. absurd (omega (arith, e));
    rule = λ e. absurd (omega (arith, e));
    not_filed = λ e. (mid, alone, unfiled, said);
    memory = λ e. absurd (omega (arith, e));
    line = λ e. absurd (neither 10 (λ z. absurd (omega (arith, z))) (λ z. absurd (omega (arith, z))) e);
    answers = inr (inr (inr (inr (inl refl))));
    kept = λ zero ten. absurd (ten refl);
  }

  -- Want of memory for the tables.
  pub compile_starved : ForProgram load old new program IsProgramFile × (told new ≡ told old) → says (line_of 13) → CompileAnswers load files told counts old new program table says 13
  compile_starved starved said = record {
    done = λ e. absurd (omega (arith, e));
    unread = λ e. absurd (omega (arith, e));
    syntax = λ e. absurd (omega (arith, e));
    rule = λ e. absurd (omega (arith, e));
    not_filed = λ e. absurd (omega (arith, e));
    memory = λ e. inr (inr (starved.0.0, starved.0.1, tt));
    line = λ e. said;
    answers = inr (inr (inr (inr (inr refl))));
    kept = λ zero ten. starved.1;
  }
