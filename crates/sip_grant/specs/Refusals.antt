-- Why no program was granted, after which loads.
use Rattle.std.specs.Prelude.{◌≡◌, ◌⊎◌, ℕ, List, [], ◌∷◌, Ok}
use Rattle.sip_files.specs.Loading.{LoadOf}
use Rattle.sip_grant.specs.Granting.{HasBadInput, Misfits}
use Rattle.sip_grant.specs.Loads.{AreRead, IsFirstUnread, IsStarved, IsUnread, RanOut}
use Rattle.sip_grant.specs.Names.{Names, program_file, files_of}
use Rattle.sip_grant.specs.Programs.{BreaksShape, BreaksSides}
use Rattle.sip_grant.specs.Syntax.{IsFaultOf}
use Rattle.sip_grant.specs.declared.refusal.Refusal.{Refusal}
use Rattle.sip_grant.specs.declared.refusal.Refusal.TheVariants.{NoProgram, NoTree, Shape, Sides, NoInput, BadInput, Unfit, OutOfMemory}

-- the program of this name was read, nothing else was loaded, and its file has this property
abbrev pub ForProgram : {F : Type 0} → LoadOf F → (old new : F) → (name : List ℕ) → (List ℕ → Type 0) → Type 0
ForProgram load old new name fact = (program : List ℕ) × load old (program_file name) (Ok tt) program new × fact program

-- both files were read, the program and then its input, and nothing else was loaded; the program keeps the rules, and the texts have
-- this property
abbrev pub ForTexts : {F : Type 0} → LoadOf F → (old new : F) → Names → (List ℕ → List ℕ → Type 0) → Type 0
ForTexts load old new names fact =
    (program : List ℕ) × (input : List ℕ) × AreRead load old new (files_of names) (program ∷ input ∷ []) × fact program input

-- why none was granted: the first file that isn't read is named; the program's file has a fault, or breaks a rule; the input's text has
-- a fault, or the input doesn't fit; or memory ran out
abbrev pub Refuses : {F : Type 0} → LoadOf F → (old new : F) → Names → Refusal → Type 0
Refuses load old new names NoProgram = IsFirstUnread load old new (files_of names) names.program
Refuses load old new names (NoTree fault) = ForProgram load old new names.program (λ program. IsFaultOf program fault)
Refuses load old new names (Shape fault) = ForProgram load old new names.program (λ program. BreaksShape program fault)
Refuses load old new names (Sides fault) = ForProgram load old new names.program (λ program. BreaksSides program fault)
Refuses load old new names NoInput = IsFirstUnread load old new (files_of names) names.input
Refuses load old new names (BadInput fault) = ForTexts load old new names (λ program input. HasBadInput program input fault)
Refuses load old new names (Unfit fault) = ForTexts load old new names (λ program input. Misfits program input fault)
Refuses load old new names OutOfMemory = RanOut load old new (files_of names)

-- why no program was given: its file isn't read, has a fault or breaks a rule; or memory ran out
abbrev pub RefusesProgram : {F : Type 0} → LoadOf F → (old new : F) → (name : List ℕ) → Refusal → Type 0
RefusesProgram load old new name NoProgram = IsUnread load old new (program_file name)
RefusesProgram load old new name (NoTree fault) = ForProgram load old new name (λ program. IsFaultOf program fault)
RefusesProgram load old new name (Shape fault) = ForProgram load old new name (λ program. BreaksShape program fault)
RefusesProgram load old new name (Sides fault) = ForProgram load old new name (λ program. BreaksSides program fault)
RefusesProgram load old new name NoInput = ⊥
RefusesProgram load old new name (BadInput fault) = ⊥
RefusesProgram load old new name (Unfit fault) = ⊥
RefusesProgram load old new name OutOfMemory =
    (new ≡ old) ⊎ (IsStarved load old new (program_file name) ⊎ ForProgram load old new name (λ program. Unit {0}))

-- why a file isn't that of a program that keeps the rules, or memory ran out
abbrev pub BlamesProgram : (file : List ℕ) → Refusal → Type 0
BlamesProgram file NoProgram = ⊥
BlamesProgram file (NoTree fault) = IsFaultOf file fault
BlamesProgram file (Shape fault) = BreaksShape file fault
BlamesProgram file (Sides fault) = BreaksSides file fault
BlamesProgram file NoInput = ⊥
BlamesProgram file (BadInput fault) = ⊥
BlamesProgram file (Unfit fault) = ⊥
BlamesProgram file OutOfMemory = Unit {0}
