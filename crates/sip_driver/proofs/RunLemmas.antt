-- What each answer of a run says of its status.
use Rattle.std.proofs.Common.{◌≡◌, ◌≢◌, ◌∙◌, ℕ, ◌⊎◌, List, Option, Result, subst, sym, inl, inr, arith, refl}
use Rattle.index_spaces.specs.declared.fault.SpaceFault.{SpaceFault}
use Rattle.input_text.specs.declared.fault.InputFault.{InputFault}
use Rattle.scalar_discipline.specs.declared.fault.RuleFault.{RuleFault}
use Rattle.shape_check.specs.declared.fault.ShapeFault.{ShapeFault}
use Rattle.sip_files.specs.Files.{Folder, Rose}
use Rattle.sip_files.specs.Loading.{LoadOf, Loading}
use Rattle.sip_files.specs.declared.call.Call.{Call}
use Rattle.sip_files.specs.declared.fault.LoadFault.{LoadFault}
use Rattle.sip_grant.specs.Granting.{HasBadInput, Misfits}
use Rattle.sip_grant.specs.Loads.{IsFirstUnread, IsUnreadable}
use Rattle.sip_grant.specs.Names.{Names, program_file, input_of, files_of}
use Rattle.sip_grant.specs.Programs.{BreaksShape, BreaksSides}
use Rattle.sip_grant.specs.Refusals.{ForProgram, ForTexts, Refuses}
use Rattle.sip_grant.specs.Syntax.{IsFaultOf}
use Rattle.sip_grant.specs.declared.refusal.Refusal.{Refusal}
use Rattle.sip_grant.specs.declared.refusal.SyntaxFault.{SyntaxFault}
use Rattle.sip_grant.specs.declared.refusal.Refusal.TheVariants.{NoProgram, NoTree, Shape, Sides, NoInput, BadInput, Unfit, OutOfMemory}
use Rattle.sip_grant.specs.declared.refusal.Refusal.TheVariants as no
use Rattle.sip_driver.specs.Performed.{RunAnswers, line_on, status_of}
use Rattle.sip_driver.specs.Prints.{IsNotFirst, Prints, PrintsPart}
use Rattle.sip_driver.specs.Says.{read_line, syntax_line, shape_line, side_line, input_line, space_line, first_line, line_of}
use Rattle.sip_driver.proofs.ReadLemmas.{program_was_read, program_of_texts, input_of_texts}

module _
    {F : Type 0}
    (load : LoadOf F)
    (old new : F)
    (names : Names)
    (says : List ℕ → Type 0) where
  unread : (status : ℕ) (refusal : Refusal) → Refuses load old new names refusal → says (line_on names refusal) → status ≡ status_of refusal → status ≡ 2
      → (name : List ℕ) × IsFirstUnread load old new (files_of names) name × says (read_line name)
  unread status NoProgram refuses said gives e = (names.program, refuses, said)
  unread status (NoTree fault) refuses said gives e = absurd (omega (arith, gives, e))
  unread status (Shape fault) refuses said gives e = absurd (omega (arith, gives, e))
  unread status (Sides fault) refuses said gives e = absurd (omega (arith, gives, e))
  unread status NoInput refuses said gives e = (names.input, refuses, said)
  unread status (BadInput fault) refuses said gives e = absurd (omega (arith, gives, e))
  unread status (Unfit fault) refuses said gives e = absurd (omega (arith, gives, e))
  unread status OutOfMemory refuses said gives e = absurd (omega (arith, gives, e))

  syntax : (status : ℕ) (refusal : Refusal) → Refuses load old new names refusal → says (line_on names refusal) → status ≡ status_of refusal → status ≡ 3
      → ((fault : SyntaxFault) × ForProgram load old new names.program (λ program. IsFaultOf program fault) × says (syntax_line fault))
      ⊎ (ForTexts load old new names IsNotFirst × says first_line)
  syntax status NoProgram refuses said gives e = absurd (omega (arith, gives, e))
  syntax status (NoTree fault) refuses said gives e = inl (fault, refuses, said)
  syntax status (Shape fault) refuses said gives e = absurd (omega (arith, gives, e))
  syntax status (Sides fault) refuses said gives e = absurd (omega (arith, gives, e))
  syntax status NoInput refuses said gives e = absurd (omega (arith, gives, e))
  syntax status (BadInput fault) refuses said gives e = absurd (omega (arith, gives, e))
  syntax status (Unfit fault) refuses said gives e = absurd (omega (arith, gives, e))
  syntax status OutOfMemory refuses said gives e = absurd (omega (arith, gives, e))

  rule : (status : ℕ) (refusal : Refusal) → Refuses load old new names refusal → says (line_on names refusal) → status ≡ status_of refusal → status ≡ 4
      → ((fault : ShapeFault) × ForProgram load old new names.program (λ program. BreaksShape program fault) × says (shape_line fault))
      ⊎ ((fault : RuleFault) × ForProgram load old new names.program (λ program. BreaksSides program fault) × says (side_line fault))
  rule status NoProgram refuses said gives e = absurd (omega (arith, gives, e))
  rule status (NoTree fault) refuses said gives e = absurd (omega (arith, gives, e))
  rule status (Shape fault) refuses said gives e = inl (fault, refuses, said)
  rule status (Sides fault) refuses said gives e = inr (fault, refuses, said)
  rule status NoInput refuses said gives e = absurd (omega (arith, gives, e))
  rule status (BadInput fault) refuses said gives e = absurd (omega (arith, gives, e))
  rule status (Unfit fault) refuses said gives e = absurd (omega (arith, gives, e))
  rule status OutOfMemory refuses said gives e = absurd (omega (arith, gives, e))

  input : (status : ℕ) (refusal : Refusal) → Refuses load old new names refusal → says (line_on names refusal) → status ≡ status_of refusal → status ≡ 5
      → ((fault : InputFault) × ForTexts load old new names (λ program given. HasBadInput program given fault) × says (input_line fault))
      ⊎ ((fault : SpaceFault) × ForTexts load old new names (λ program given. Misfits program given fault) × says (space_line fault))
  input status NoProgram refuses said gives e = absurd (omega (arith, gives, e))
  input status (NoTree fault) refuses said gives e = absurd (omega (arith, gives, e))
  input status (Shape fault) refuses said gives e = absurd (omega (arith, gives, e))
  input status (Sides fault) refuses said gives e = absurd (omega (arith, gives, e))
  input status NoInput refuses said gives e = absurd (omega (arith, gives, e))
  input status (BadInput fault) refuses said gives e = inl (fault, refuses, said)
  input status (Unfit fault) refuses said gives e = inr (fault, refuses, said)
  input status OutOfMemory refuses said gives e = absurd (omega (arith, gives, e))

  memory : (status : ℕ) (refusal : Refusal) → Refuses load old new names refusal → status ≡ status_of refusal → status ≡ 13 → Refuses load old new names no.OutOfMemory
  memory status NoProgram refuses gives e = absurd (omega (arith, gives, e))
  memory status (NoTree fault) refuses gives e = absurd (omega (arith, gives, e))
  memory status (Shape fault) refuses gives e = absurd (omega (arith, gives, e))
  memory status (Sides fault) refuses gives e = absurd (omega (arith, gives, e))
  memory status NoInput refuses gives e = absurd (omega (arith, gives, e))
  memory status (BadInput fault) refuses gives e = absurd (omega (arith, gives, e))
  memory status (Unfit fault) refuses gives e = absurd (omega (arith, gives, e))
  memory status OutOfMemory refuses gives e = refuses

  memory_line : (status : ℕ) (refusal : Refusal) → says (line_on names refusal) → status ≡ status_of refusal → status ≡ 13 → says (line_of 13)
  memory_line status NoProgram said gives e = absurd (omega (arith, gives, e))
  memory_line status (NoTree fault) said gives e = absurd (omega (arith, gives, e))
  memory_line status (Shape fault) said gives e = absurd (omega (arith, gives, e))
  memory_line status (Sides fault) said gives e = absurd (omega (arith, gives, e))
  memory_line status NoInput said gives e = absurd (omega (arith, gives, e))
  memory_line status (BadInput fault) said gives e = absurd (omega (arith, gives, e))
  memory_line status (Unfit fault) said gives e = absurd (omega (arith, gives, e))
  memory_line status OutOfMemory said gives e = said

-- a status that is neither
neither : (n : ℕ) → n ≢ 0 → n ≢ 13 → (n ≡ 0) ⊎ (n ≡ 13) → ⊥
neither n zero thirteen (inl e) = zero e
neither n zero thirteen (inr e) = thirteen e

-- the statuses of refusals
answers : (status : ℕ) (refusal : Refusal) → status ≡ status_of refusal
    → (status ≡ 0) ⊎ ((status ≡ 2) ⊎ ((status ≡ 3) ⊎ ((status ≡ 4) ⊎ ((status ≡ 5) ⊎ ((status ≡ 10) ⊎ (status ≡ 13))))))
answers status NoProgram is = inr (inl is)
answers status (NoTree fault) is = inr (inr (inl is))
answers status (Shape fault) is = inr (inr (inr (inl is)))
answers status (Sides fault) is = inr (inr (inr (inl is)))
answers status NoInput is = inr (inl is)
answers status (BadInput fault) is = inr (inr (inr (inr (inl is))))
answers status (Unfit fault) is = inr (inr (inr (inr (inl is))))
answers status OutOfMemory is = inr (inr (inr (inr (inr (inr is)))))

-- 0 and 10 are none
not_done : (refusal : Refusal) → status_of refusal ≢ 0
not_done NoProgram = λ e. absurd (omega (arith, e))
not_done (NoTree fault) = λ e. absurd (omega (arith, e))
not_done (Shape fault) = λ e. absurd (omega (arith, e))
not_done (Sides fault) = λ e. absurd (omega (arith, e))
not_done NoInput = λ e. absurd (omega (arith, e))
not_done (BadInput fault) = λ e. absurd (omega (arith, e))
not_done (Unfit fault) = λ e. absurd (omega (arith, e))
not_done OutOfMemory = λ e. absurd (omega (arith, e))

not_written : (refusal : Refusal) → status_of refusal ≢ 10
not_written NoProgram = λ e. absurd (omega (arith, e))
not_written (NoTree fault) = λ e. absurd (omega (arith, e))
not_written (Shape fault) = λ e. absurd (omega (arith, e))
not_written (Sides fault) = λ e. absurd (omega (arith, e))
not_written NoInput = λ e. absurd (omega (arith, e))
not_written (BadInput fault) = λ e. absurd (omega (arith, e))
not_written (Unfit fault) = λ e. absurd (omega (arith, e))
not_written OutOfMemory = λ e. absurd (omega (arith, e))

module _
    {F : Type 0}
    (load : LoadOf F)
    (old new : F)
    (names : Names)
    (says : List ℕ → Type 0) where
  -- the line of a refusal whose line tells no more than the status
  refused_line : (status : ℕ) (refusal : Refusal) → says (line_on names refusal) → status ≡ status_of refusal → (status ≡ 0) ⊎ (status ≡ 13) → says (line_of status)
  refused_line status refusal said gives (inl e) = absurd (not_done refusal (sym gives ∙ e))
  refused_line status refusal said gives (inr e) =
      subst (λ (n : ℕ). says (line_of n)) (sym e) (memory_line load old new names says status refusal said gives e)

module _
    {F K : Type 0}
    (gives : F → List ℕ → ℕ → Result (Unit {0}) LoadFault → List ℕ → F → Type 0)
    (told : F → Option Folder)
    (counts : F → Call → ℕ)
    (overlong : F → ℕ)
    (old new : F)
    (names : Names)
    (written : K → Option (List ℕ))
    (faults : K → ℕ)
    (before after : K)
    (says : List ℕ → Type 0) where
  -- a program that can't be read, behind a refusal
  program_unreadable : (status : ℕ) (refusal : Refusal) → Refuses (Loading gives told counts overlong) old new names refusal → status ≡ status_of refusal
      → IsUnreadable (told old) (program_file names.program)
      → (status ≡ 2) ⊎ (status ≡ 13)
  program_unreadable status NoProgram refuses is u = inl is
  program_unreadable status (NoTree fault) refuses is u = absurd (program_was_read gives told counts overlong old new names _ refuses u)
  program_unreadable status (Shape fault) refuses is u = absurd (program_was_read gives told counts overlong old new names _ refuses u)
  program_unreadable status (Sides fault) refuses is u = absurd (program_was_read gives told counts overlong old new names _ refuses u)
  program_unreadable status NoInput refuses is u = inl is
  program_unreadable status (BadInput fault) refuses is u = absurd (program_of_texts gives told counts overlong old new names _ refuses u)
  program_unreadable status (Unfit fault) refuses is u = absurd (program_of_texts gives told counts overlong old new names _ refuses u)
  program_unreadable status OutOfMemory refuses is u = inr is

  -- an input that can't be
  input_unreadable : (status : ℕ) (refusal : Refusal) → Refuses (Loading gives told counts overlong) old new names refusal → says (line_on names refusal) → status ≡ status_of refusal
      → IsUnreadable (told old) (input_of names)
      → (status ≡ 2)
      ⊎ ((status ≡ 13)
      ⊎ (((status ≡ 3) × ((fault : SyntaxFault) × ForProgram (Loading gives told counts overlong) old new names.program (λ program. IsFaultOf program fault) × says (syntax_line fault)))
      ⊎ ((status ≡ 4)
      × (((fault : ShapeFault) × ForProgram (Loading gives told counts overlong) old new names.program (λ program. BreaksShape program fault) × says (shape_line fault))
      ⊎ ((fault : RuleFault) × ForProgram (Loading gives told counts overlong) old new names.program (λ program. BreaksSides program fault) × says (side_line fault))))))
  input_unreadable status NoProgram refuses said is u = inl is
  input_unreadable status (NoTree fault) refuses said is u = inr (inr (inl (is, (fault, refuses, said))))
  input_unreadable status (Shape fault) refuses said is u = inr (inr (inr (is, inl (fault, refuses, said))))
  input_unreadable status (Sides fault) refuses said is u = inr (inr (inr (is, inr (fault, refuses, said))))
  input_unreadable status NoInput refuses said is u = inl is
  input_unreadable status (BadInput fault) refuses said is u = absurd (input_of_texts gives told counts overlong old new names _ refuses u)
  input_unreadable status (Unfit fault) refuses said is u = absurd (input_of_texts gives told counts overlong old new names _ refuses u)
  input_unreadable status OutOfMemory refuses said is u = inr (inl is)

  -- A run that was refused.
  pub run_refused : (status : ℕ) (refusal : Refusal) → Refuses (Loading gives told counts overlong) old new names refusal → written after ≡ written before → says (line_on names refusal) → status ≡ status_of refusal → RunAnswers (Loading gives told counts overlong) (told old) old new names written faults before after says status
  run_refused status refusal refuses same said gives_it = record {
    done = λ e. absurd (not_done refusal (sym gives_it ∙ e));
    unread = unread (Loading gives told counts overlong) old new names says status refusal refuses said gives_it;
    syntax = syntax (Loading gives told counts overlong) old new names says status refusal refuses said gives_it;
    rule = rule (Loading gives told counts overlong) old new names says status refusal refuses said gives_it;
    input = input (Loading gives told counts overlong) old new names says status refusal refuses said gives_it;
    not_written = λ e. absurd (not_written refusal (sym gives_it ∙ e));
    memory = λ e. inl (memory (Loading gives told counts overlong) old new names says status refusal refuses gives_it e, same);
    line = refused_line (Loading gives told counts overlong) old new names says status refusal said gives_it;
    program_unreadable = program_unreadable status refusal refuses gives_it;
    input_unreadable = input_unreadable status refusal refuses said gives_it;
    answers = answers status refusal gives_it;
    kept = λ done written memory. same;
  }

  -- A run to the end.
  pub run_done : ForTexts (Loading gives told counts overlong) old new names (Prints (written before) (written after)) → says (line_of 0) → RunAnswers (Loading gives told counts overlong) (told old) old new names written faults before after says 0
  run_done texts silent = record {
    done = λ e. texts;
    unread = λ e. absurd (omega (arith, e));
    syntax = λ e. absurd (omega (arith, e));
    rule = λ e. absurd (omega (arith, e));
    input = λ e. absurd (omega (arith, e));
    not_written = λ e. absurd (omega (arith, e));
    memory = λ e. absurd (omega (arith, e));
    line = λ e. silent;
    program_unreadable = λ u. absurd (program_of_texts gives told counts overlong old new names _ texts u);
    input_unreadable = λ u. absurd (input_of_texts gives told counts overlong old new names _ texts u);
    answers = inl refl;
    kept = λ done written memory. absurd (done refl);
  }

  -- A program that isn't of the first profile.
  pub run_not_first : ForTexts (Loading gives told counts overlong) old new names IsNotFirst → written after ≡ written before → says first_line → RunAnswers (Loading gives told counts overlong) (told old) old new names written faults before after says 3
  run_not_first texts same said = record {
    done = λ e. absurd (omega (arith, e));
    unread = λ e. absurd (omega (arith, e));
    syntax = λ e. inr (texts, said);
    rule = λ e. absurd (omega (arith, e));
    input = λ e. absurd (omega (arith, e));
    not_written = λ e. absurd (omega (arith, e));
    memory = λ e. absurd (omega (arith, e));
    line = λ e. absurd (neither 3 (λ z. absurd (omega (arith, z))) (λ z. absurd (omega (arith, z))) e);
    program_unreadable = λ u. absurd (program_of_texts gives told counts overlong old new names _ texts u);
    input_unreadable = λ u. absurd (input_of_texts gives told counts overlong old new names _ texts u);
    answers = inr (inr (inl refl));
    kept = λ done written memory. same;
  }

  -- A run whose output failed.
  pub run_not_written : Rose (faults before) (faults after) → ForTexts (Loading gives told counts overlong) old new names (PrintsPart (written before) (written after)) → says (line_of 10) → RunAnswers (Loading gives told counts overlong) (told old) old new names written faults before after says 10
  run_not_written rose texts said = record {
    done = λ e. absurd (omega (arith, e));
    unread = λ e. absurd (omega (arith, e));
    syntax = λ e. absurd (omega (arith, e));
    rule = λ e. absurd (omega (arith, e));
    input = λ e. absurd (omega (arith, e));
    not_written = λ e. (rose, texts, said);
    memory = λ e. absurd (omega (arith, e));
    line = λ e. absurd (neither 10 (λ z. absurd (omega (arith, z))) (λ z. absurd (omega (arith, z))) e);
    program_unreadable = λ u. absurd (program_of_texts gives told counts overlong old new names _ texts u);
    input_unreadable = λ u. absurd (input_of_texts gives told counts overlong old new names _ texts u);
    answers = inr (inr (inr (inr (inr (inl refl)))));
    kept = λ done written memory. absurd (written refl);
  }

  -- A run that found no memory.
  pub run_starved : ForTexts (Loading gives told counts overlong) old new names (PrintsPart (written before) (written after)) → says (line_of 13) → RunAnswers (Loading gives told counts overlong) (told old) old new names written faults before after says 13
  run_starved texts said = record {
    done = λ e. absurd (omega (arith, e));
    unread = λ e. absurd (omega (arith, e));
    syntax = λ e. absurd (omega (arith, e));
    rule = λ e. absurd (omega (arith, e));
    input = λ e. absurd (omega (arith, e));
    not_written = λ e. absurd (omega (arith, e));
    memory = λ e. inr texts;
    line = λ e. said;
    program_unreadable = λ u. absurd (program_of_texts gives told counts overlong old new names _ texts u);
    input_unreadable = λ u. absurd (input_of_texts gives told counts overlong old new names _ texts u);
    answers = inr (inr (inr (inr (inr (inr refl)))));
    kept = λ done written memory. absurd (memory refl);
  }
