-- What the status of a command says of the words that asked for it.
use Rattle.std.proofs.Common.{◌≡◌, ◌≢◌, ℕ, ◌⊎◌, List, Option, String, inl, inr, subst}
use Rattle.std.specs.declared.alloc.Global.{Global}
use Rattle.index_spaces.specs.declared.fault.SpaceFault.{SpaceFault}
use Rattle.input_text.specs.declared.fault.InputFault.{InputFault}
use Rattle.scalar_discipline.specs.declared.fault.RuleFault.{RuleFault}
use Rattle.shape_check.specs.declared.fault.ShapeFault.{ShapeFault}
use Rattle.sip_files.specs.Files.{Folder}
use Rattle.sip_files.specs.Loading.{LoadOf, wanted}
use Rattle.sip_grant.specs.Granting.{HasBadInput, Misfits}
use Rattle.sip_grant.specs.Loads.{IsUnreadable}
use Rattle.sip_grant.specs.Names.{Names, most_input, program_file, input_of}
use Rattle.sip_grant.specs.Programs.{BreaksShape, BreaksSides}
use Rattle.sip_grant.specs.Refusals.{ForProgram, ForTexts, Refuses}
use Rattle.sip_grant.specs.Syntax.{IsFaultOf}
use Rattle.sip_grant.specs.declared.refusal.Refusal.TheVariants.{OutOfMemory}
use Rattle.sip_grant.specs.declared.refusal.SyntaxFault.{SyntaxFault}
use Rattle.sip_words.specs.Plain.{Spells}
use Rattle.sip_words.specs.Requests.{compile}
use Rattle.sip_words.specs.Seen.{texts}
use Rattle.sip_driver.specs.Asked.{AskFor, SpellNothing, run_of}
use Rattle.sip_driver.specs.Headline.{Unparsed, NotFirst, Misshapen, Missided, Misread, Unfit, NoMemory, RefusesUnreadable}
use Rattle.sip_driver.specs.Prints.{IsNotFirst, PrintsPart}
use Rattle.sip_driver.specs.Says.{syntax_line, shape_line, side_line, input_line, space_line, first_line, line_of}

-- the names of a run, told by the request
program_is : (names other : Names) → run_of other ≡ run_of names → other.program ≡ names.program
program_is names other same = cc

input_is : (names other : Names) → run_of other ≡ run_of names → other.input ≡ names.input
input_is names other same = cc

module _
    {F : Type 0}
    (load : LoadOf F)
    (old new : F)
    (says : List ℕ → Type 0)
    (words : List (String Global))
    (names : Names)
    (asks : AskFor words (run_of names)) where
  -- 3
  pub for_run_fault : ((fault : SyntaxFault) × ForProgram load old new names.program (λ program. IsFaultOf program fault) × says (syntax_line fault))
      ⊎ (ForTexts load old new names IsNotFirst × says first_line)
      → Unparsed words load old new says ⊎ NotFirst words load old new says
  for_run_fault (inl (fault, read, said)) = inl (fault, inl (names, asks, read), said)
  for_run_fault (inr (read, said)) = inr ((names, asks, read), said)

  -- 4
  pub for_run_rule : ((fault : ShapeFault) × ForProgram load old new names.program (λ program. BreaksShape program fault) × says (shape_line fault))
      ⊎ ((fault : RuleFault) × ForProgram load old new names.program (λ program. BreaksSides program fault) × says (side_line fault))
      → Misshapen words load old new says ⊎ Missided words load old new says
  for_run_rule (inl (fault, read, said)) = inl (fault, inl (names, asks, read), said)
  for_run_rule (inr (fault, read, said)) = inr (fault, inl (names, asks, read), said)

  -- 5
  pub for_run_input : ((fault : InputFault) × ForTexts load old new names (λ program given. HasBadInput program given fault) × says (input_line fault))
      ⊎ ((fault : SpaceFault) × ForTexts load old new names (λ program given. Misfits program given fault) × says (space_line fault))
      → Misread words load old new says ⊎ Unfit words load old new says
  for_run_input (inl (fault, read, said)) = inl (fault, (names, asks, read), said)
  for_run_input (inr (fault, read, said)) = inr (fault, (names, asks, read), said)

  -- 13
  pub for_run_memory : {K : Type 0} (written : K → Option (List ℕ)) (before after : K)
      → (Refuses load old new names OutOfMemory × (written after ≡ written before)) ⊎ ForTexts load old new names (PrintsPart (written before) (written after))
      → NoMemory words load old new written before after
  for_run_memory written before after (inl (refuses, same)) = inr (inl ((names, asks, refuses), same))
  for_run_memory written before after (inr read) = inr (inr (inl (names, asks, read)))

  -- files that can't be read
  pub unreadable_names : (status : ℕ) (told : Option Folder)
      → (IsUnreadable told (program_file names.program) → (status ≡ 2) ⊎ (status ≡ 13))
      → (IsUnreadable told (input_of names)
      → (status ≡ 2)
      ⊎ ((status ≡ 13)
      ⊎ (((status ≡ 3) × ((fault : SyntaxFault) × ForProgram load old new names.program (λ program. IsFaultOf program fault) × says (syntax_line fault)))
      ⊎ ((status ≡ 4)
      × (((fault : ShapeFault) × ForProgram load old new names.program (λ program. BreaksShape program fault) × says (shape_line fault))
      ⊎ ((fault : RuleFault) × ForProgram load old new names.program (λ program. BreaksSides program fault) × says (side_line fault)))))))
      → RefusesUnreadable status words told (Unparsed words load old new says) (Misshapen words load old new says ⊎ Missided words load old new says)
  unreadable_names status told program input other spells =
      let same = asks.plain (run_of other) spells in (
        λ u. program (subst (λ (name : List ℕ). IsUnreadable told (program_file name)) (program_is names other same) u),
        λ u. by_input (input (subst (λ (name : List ℕ). IsUnreadable told (wanted name most_input)) (input_is names other same) u)),
      )
    where
      by_input : (status ≡ 2)
          ⊎ ((status ≡ 13)
          ⊎ (((status ≡ 3) × ((fault : SyntaxFault) × ForProgram load old new names.program (λ program. IsFaultOf program fault) × says (syntax_line fault)))
          ⊎ ((status ≡ 4)
          × (((fault : ShapeFault) × ForProgram load old new names.program (λ program. BreaksShape program fault) × says (shape_line fault))
          ⊎ ((fault : RuleFault) × ForProgram load old new names.program (λ program. BreaksSides program fault) × says (side_line fault))))))
          → (status ≡ 2)
          ⊎ ((status ≡ 13)
          ⊎ (((status ≡ 3) × Unparsed words load old new says) ⊎ ((status ≡ 4) × (Misshapen words load old new says ⊎ Missided words load old new says))))
      by_input (inl two) = inl two
      by_input (inr (inl thirteen)) = inr (inl thirteen)
      by_input (inr (inr (inl (three, (fault, read, said))))) = inr (inr (inl (three, (fault, inl (names, asks, read), said))))
      by_input (inr (inr (inr (four, rule)))) = inr (inr (inr (four, for_run_rule rule)))

-- the line of a status that tells no more
pub run_line : (says : List ℕ → Type 0) (status : ℕ) → (status ≡ 0) ⊎ ((status ≡ 2) ⊎ ((status ≡ 3) ⊎ ((status ≡ 4) ⊎ ((status ≡ 5) ⊎ ((status ≡ 10) ⊎ (status ≡ 13))))))
    → ((status ≡ 0) ⊎ (status ≡ 13) → says (line_of status))
    → status ≢ 2 → status ≢ 3 → status ≢ 4 → status ≢ 5 → status ≢ 10
    → says (line_of status)
run_line says status (inl e) line two three four five ten = line (inl e)
run_line says status (inr (inl e)) line two three four five ten = absurd (two e)
run_line says status (inr (inr (inl e))) line two three four five ten = absurd (three e)
run_line says status (inr (inr (inr (inl e)))) line two three four five ten = absurd (four e)
run_line says status (inr (inr (inr (inr (inl e))))) line two three four five ten = absurd (five e)
run_line says status (inr (inr (inr (inr (inr (inl e)))))) line two three four five ten = absurd (ten e)
run_line says status (inr (inr (inr (inr (inr (inr e)))))) line two three four five ten = line (inr e)

pub compile_line : (says : List ℕ → Type 0) (status : ℕ) → (status ≡ 0) ⊎ ((status ≡ 2) ⊎ ((status ≡ 3) ⊎ ((status ≡ 4) ⊎ ((status ≡ 10) ⊎ (status ≡ 13)))))
    → ((status ≡ 0) ⊎ (status ≡ 13) → says (line_of status))
    → status ≢ 2 → status ≢ 3 → status ≢ 4 → status ≢ 5 → status ≢ 10
    → says (line_of status)
compile_line says status (inl e) line two three four five ten = line (inl e)
compile_line says status (inr (inl e)) line two three four five ten = absurd (two e)
compile_line says status (inr (inr (inl e))) line two three four five ten = absurd (three e)
compile_line says status (inr (inr (inr (inl e)))) line two three four five ten = absurd (four e)
compile_line says status (inr (inr (inr (inr (inl e))))) line two three four five ten = absurd (ten e)
compile_line says status (inr (inr (inr (inr (inr e))))) line two three four five ten = line (inr e)

-- words that ask for a table ask for no run
not_run : {P : Type 0} (words : List (String Global)) (program table : List ℕ) (names : Names) → AskFor words (compile program table) → Spells (texts words) (run_of names) → P
not_run words program table names asks spells = let same = asks.plain (run_of names) spells in absurd cc

-- words that spell nothing spell no run
pub nothing_unreadable : (words : List (String Global)) (status : ℕ) (told : Option Folder) (unparsed unruled : Type 0) → SpellNothing words → RefusesUnreadable status words told unparsed unruled
nothing_unreadable words status told unparsed unruled nothing names spells = (λ u. absurd (nothing.no_run names spells), λ u. absurd (nothing.no_run names spells))

pub table_unreadable : (words : List (String Global)) (program table : List ℕ) (status : ℕ) (told : Option Folder) (unparsed unruled : Type 0) → AskFor words (compile program table) → RefusesUnreadable status words told unparsed unruled
table_unreadable words program table status told unparsed unruled asks names spells = (λ u. not_run words program table names asks spells, λ u. not_run words program table names asks spells)

-- 4, of a table
pub for_table_rule :
    {F : Type 0}
    (load : LoadOf F)
    (old new : F)
    (says : List ℕ → Type 0)
    (words : List (String Global))
    (program table : List ℕ)
    → AskFor words (compile program table)
    → ((fault : ShapeFault) × ForProgram load old new program (λ text. BreaksShape text fault) × says (shape_line fault))
    ⊎ ((fault : RuleFault) × ForProgram load old new program (λ text. BreaksSides text fault) × says (side_line fault))
    → Misshapen words load old new says ⊎ Missided words load old new says
for_table_rule load old new says words program table asks (inl (fault, read, said)) = inl (fault, inr (program, table, asks, read), said)
for_table_rule load old new says words program table asks (inr (fault, read, said)) = inr (fault, inr (program, table, asks, read), said)
