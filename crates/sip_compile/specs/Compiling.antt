-- What became of a program that was to be compiled.
use Rattle.std.specs.Prelude.{◌≡◌, ℕ, List, Option}
use Rattle.sial_syntax.specs.Tree.{Tree}
use Rattle.sip_files.specs.Files.{Folder}
use Rattle.sip_files.specs.Loading.{LoadOf}
use Rattle.sip_files.specs.declared.call.Call.{Call}
use Rattle.sip_grant.specs.Programs.{IsProgram, IsProgramFile}
use Rattle.sip_grant.specs.Refusals.{ForProgram, RefusesProgram}
use Rattle.sip_tables.specs.Flatten.{flatten}
use Rattle.table_file.specs.Bytes.{bytes}
use Rattle.sip_compile.specs.Filing.{Holds, IsUnfiled}
use Rattle.sip_compile.specs.declared.fault.CompileFault.{CompileFault}
use Rattle.sip_compile.specs.declared.fault.CompileFault.TheVariants.{Refused, NotWritten, OutOfMemory}

-- the file of a program's tables
abbrev pub table_of : Tree → List ℕ
table_of p = bytes (flatten p)

-- the program was read, and nothing else was loaded; it keeps the rules, and its tables have this property
abbrev pub ForTable : {F : Type 0} → LoadOf F → (old mid : F) → (program : List ℕ) → (List ℕ → Type 0) → Type 0
ForTable load old mid program fact = ForProgram load old mid program (λ file. (p : Tree) × IsProgram file p × fact (table_of p))

-- the program was read, and behind it nothing but the table written: the file has exactly the bytes of its tables
abbrev pub Compiles :
    {F : Type 0} → LoadOf F → (files : (mid new : F) → Type 0) → (told : F → Option Folder) → (old new : F) → (program table : List ℕ) → Type 0
Compiles {F} load files told old new program table = (mid : F) × files mid new × ForTable load old mid program (Holds (told new) table)

-- why it wasn't: the program is refused, and no file was touched; or its table wasn't written whole; or memory ran out before any file
-- was touched
abbrev pub FailsToCompile :
    {F : Type 0}
    → LoadOf F
    → (files : (mid new : F) → Type 0)
    → (told : F → Option Folder)
    → (faults : F → Call → ℕ)
    → (old new : F)
    → (program table : List ℕ)
    → CompileFault
    → Type 0
FailsToCompile load files told faults old new program table (Refused refusal) =
    RefusesProgram load old new program refusal × (told new ≡ told old)
FailsToCompile {F} load files told faults old new program table NotWritten =
    (mid : F) × files mid new × ForTable load old mid program (λ whole. IsUnfiled (told new) table whole (faults mid) (faults new))
FailsToCompile load files told faults old new program table OutOfMemory =
    ForProgram load old new program IsProgramFile × (told new ≡ told old)
