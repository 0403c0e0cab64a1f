-- Files that were read aren't ones that can't be.
use Rattle.std.proofs.Common.{◌∙◌, ℕ, ◌<◌, ◌≤◌, List, Option, Some, None, IsSomeAnd, Result, Ok, length, subst, sym, inl, inr, arith}
use Rattle.sip_files.specs.Files.{Folder}
use Rattle.sip_files.specs.Loading.{Wanted, Tells, Loading}
use Rattle.sip_files.specs.declared.call.Call.{Call}
use Rattle.sip_files.specs.declared.fault.LoadFault.{LoadFault}
use Rattle.sip_grant.specs.Loads.{IsUnreadable}
use Rattle.sip_grant.specs.Names.{Names, program_file, input_of}
use Rattle.sip_grant.specs.Refusals.{ForProgram, ForTexts}

-- a file that was read
readable : (told : Option Folder) (file : Wanted) (text : List ℕ) → Tells told file (Ok tt) text → IsUnreadable told file → ⊥
readable None file text tells unreadable = unreadable
readable (Some files) file text (has, within) (inl missing) =
    subst (λ (held : Option (List ℕ)). IsSomeAnd held (λ h. length h ≤ file.most)) (sym has ∙ missing) within
readable (Some files) file text (has, within) (inr long) =
    absurd (omega (arith, within, subst (λ (held : Option (List ℕ)). IsSomeAnd held (λ h. file.most < length h)) has long))

module _
    {F : Type 0}
    (gives : F → List ℕ → ℕ → Result (Unit {0}) LoadFault → List ℕ → F → Type 0)
    (told : F → Option Folder)
    (faults : F → Call → ℕ)
    (overlong : F → ℕ)
    (old new : F)
    (names : Names) where
  -- a program that was read
  pub program_readable : (mid : F) (text : List ℕ) → Loading gives told faults overlong old (program_file names.program) (Ok tt) text mid → IsUnreadable (told old) (program_file names.program) → ⊥
  program_readable mid text load unreadable = readable (told old) (program_file names.program) text load.1 unreadable

  -- a program that was read behind which nothing was loaded
  pub program_was_read : (fact : List ℕ → Type 0) → ForProgram (Loading gives told faults overlong) old new names.program fact → IsUnreadable (told old) (program_file names.program) → ⊥
  program_was_read fact (text, load, holds) unreadable = program_readable new text load unreadable

  -- an input that was read behind the program
  input_readable : (mid next : F) (program input : List ℕ) → Loading gives told faults overlong old (program_file names.program) (Ok tt) program mid → Loading gives told faults overlong mid (input_of names) (Ok tt) input next → IsUnreadable (told old) (input_of names) → ⊥
  input_readable mid next program input first second unreadable =
      readable (told mid) (input_of names) input second.1 (subst (λ (t : Option Folder). IsUnreadable t (input_of names)) (sym first.2) unreadable)

  -- a program of two texts that were read
  pub program_of_texts : (fact : List ℕ → List ℕ → Type 0) → ForTexts (Loading gives told faults overlong) old new names fact → IsUnreadable (told old) (program_file names.program) → ⊥
  program_of_texts fact (program, input, (mid, first, holds, rest), is) unreadable = program_readable mid program first unreadable

  -- their input
  pub input_of_texts : (fact : List ℕ → List ℕ → Type 0) → ForTexts (Loading gives told faults overlong) old new names fact → IsUnreadable (told old) (input_of names) → ⊥
  input_of_texts fact (program, input, (mid, first, holds, (next, second, any, same)), is) unreadable = input_readable mid next program input first second unreadable
