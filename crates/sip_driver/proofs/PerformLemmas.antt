-- What a run of a granted program says of its texts.
use Rattle.std.proofs.Common.{ℕ, List, Option, subst}
use Rattle.first_profile.specs.FirstTree.{IsFirstTree}
use Rattle.sial_meaning.specs.Setting.{Setting}
use Rattle.sial_syntax.specs.Tree.{tree}
use Rattle.sip_files.specs.Loading.{LoadOf}
use Rattle.sip_files.specs.Sink.{Gains, GainsPart}
use Rattle.sip_grant.specs.Granting.{IsGrantedFor, AreFilesOf}
use Rattle.sip_grant.specs.Names.{Names}
use Rattle.sip_grant.specs.Refusals.{ForTexts}
use Rattle.sip_setting.specs.Printing.{printed_text}
use Rattle.sip_setting.specs.Seen.{setting_of}
use Rattle.sip_setting.specs.declared.granted.Granted.{Granted}
use Rattle.sip_driver.specs.Performed.{Performs, Runs}
use Rattle.sip_driver.specs.Prints.{AreRun, Prints, PrintsPart, IsNotFirst}
use Rattle.sip_driver.specs.declared.answer.Answer.{Answer}
use Rattle.sip_driver.specs.declared.answer.Answer.TheVariants.{Done, Refused, NotFirst, NotWritten, OutOfMemory}

-- the texts for which a program was granted
texts_of : (program input : List ℕ) (job : Granted) (is : IsGrantedFor program input job) → AreFilesOf program input (tree job.program) is.given
texts_of program input job is = record { program_is = is.program_is; input_is = is.input_is; granted = is.granted.granted }

-- they are run, where the program is of the first profile
are_run : (program input : List ℕ) (job : Granted) (is : IsGrantedFor program input job) → IsFirstTree (tree job.program) → AreRun program input (tree job.program) is.given
are_run program input job is first = record { granted = texts_of program input job is; first = first }

-- what was printed whole
prints : (old new : Option (List ℕ)) (program input : List ℕ) (job : Granted) → IsGrantedFor program input job → IsFirstTree (tree job.program) → Gains old new (printed_text (setting_of job)) → Prints old new program input
prints old new program input job is first gains = (
  tree job.program,
  is.given,
  are_run program input job is first,
  subst (λ (g : Setting). Gains old new (printed_text g)) is.granted.setting gains,
)

-- what was printed in part
prints_part : (old new : Option (List ℕ)) (program input : List ℕ) (job : Granted) → IsGrantedFor program input job → IsFirstTree (tree job.program) → GainsPart old new (printed_text (setting_of job)) → PrintsPart old new program input
prints_part old new program input job is first gains = (
  tree job.program,
  is.given,
  are_run program input job is first,
  subst (λ (g : Setting). GainsPart old new (printed_text g)) is.granted.setting gains,
)

-- a program that isn't of the first profile
not_first : (program input : List ℕ) (job : Granted) → IsGrantedFor program input job → (IsFirstTree (tree job.program) → ⊥) → IsNotFirst program input
not_first program input job is not = (tree job.program, is.given, texts_of program input job is, not)

-- What a run of a program that was granted behind the loads of its texts says.
pub performs :
    {F K : Type 0}
    (load : LoadOf F)
    (old new : F)
    (names : Names)
    (written : K → Option (List ℕ))
    (faults : K → ℕ)
    (before after : K)
    (job : Granted)
    (answer : Answer)
    → ForTexts load old new names (λ program input. IsGrantedFor program input job)
    → Runs job written faults before after answer
    → Performs load old new names written faults before after answer
performs load old new names written faults before after job Done (program, input, read, is) runs =
    (program, input, read, prints (written before) (written after) program input job is runs.0 runs.1)
performs load old new names written faults before after job (Refused refusal) texts runs = absurd runs
performs load old new names written faults before after job NotFirst (program, input, read, is) runs =
    ((program, input, read, not_first program input job is runs.0), runs.1)
performs load old new names written faults before after job NotWritten (program, input, read, is) runs =
    (runs.0, (program, input, read, prints_part (written before) (written after) program input job is runs.1 runs.2))
performs load old new names written faults before after job OutOfMemory (program, input, read, is) runs =
    (program, input, read, prints_part (written before) (written after) program input job is runs.0 runs.1)
