-- One load as a relation: what a caller over all files may know of it.
use Rattle.std.specs.Prelude.{◌≡◌, ℕ, ◌≤◌, List, length, Option, Some, Result, Ok, Err}
use Rattle.sip_files.specs.Files.{Folder, WhereTold, IsPartOf, IsMissing, IsTooLong, failed_after, overlong_after}
use Rattle.sip_files.specs.declared.call.Call.{Call}
use Rattle.sip_files.specs.declared.call.Call.TheVariants.{Load}
use Rattle.sip_files.specs.declared.fault.LoadFault.{LoadFault}
use Rattle.sip_files.specs.declared.fault.LoadFault.TheVariants.{Failed, Missing, TooLong, OutOfMemory}

-- a file that a caller wants: its name, and how many bytes it may have
pub record Wanted : Type 0 where
  pub name : List ℕ
  pub most : ℕ

-- the file of this name, of at most so many bytes
abbrev pub wanted : (name : List ℕ) → (most : ℕ) → Wanted
wanted name most = record { name = name; most = most }

-- a load: the files before it, what was wanted, its answer and the bytes that were read, the files after it
abbrev pub LoadOf : Type 0 → Type 1
LoadOf F = F → Wanted → Result (Unit {0}) LoadFault → List ℕ → F → Type 0

-- what an answer and the bytes say of the file, as far as the files tell it
abbrev pub Tells : Option Folder → Wanted → Result (Unit {0}) LoadFault → (bytes : List ℕ) → Type 0
Tells told file (Ok done) bytes = WhereTold told file.name (λ held. held ≡ Some bytes) × (length bytes ≤ file.most)
Tells told file (Err Failed) bytes = WhereTold told file.name (IsPartOf bytes)
Tells told file (Err Missing) bytes = IsMissing told file.name
Tells told file (Err TooLong) bytes = IsTooLong told file.name file.most bytes
Tells told file (Err OutOfMemory) bytes = WhereTold told file.name (IsPartOf bytes)

-- a load that the files gave: its answer tells of the file, and it is counted where it failed or found the file too long
abbrev pub Loading :
    {F : Type 0}
    → (gives : F → List ℕ → ℕ → Result (Unit {0}) LoadFault → List ℕ → F → Type 0)
    → (told : F → Option Folder)
    → (faults : F → Call → ℕ)
    → (overlong : F → ℕ)
    → LoadOf F
Loading gives told faults overlong old file answer bytes new =
    gives old file.name file.most answer bytes new
    × Tells (told old) file answer bytes
    × (told new ≡ told old)
    × (faults new Load ≡ failed_after (faults old Load) answer)
    × (overlong new ≡ overlong_after (overlong old) answer)
