-- What no call of a sink or a store changes.
use Rattle.std.specs.Prelude.{ℕ, List, [], ◌∷◌, Option, Some}
use Rattle.std.specs.FinMap as map
use Rattle.std.specs.Borrow.{GName}
use Rattle.sip_files.specs.Files.{Folder}
use Rattle.sip_files.specs.Writing.{others_of}
use Rattle.sip_files.specs.declared.call.Call.{Call}
use Rattle.sip_files.specs.declared.call.Call.TheVariants.{Load, Clear, ReadAt, WriteAt}

-- the loans that stand in the object, the name that it writes, what other names have, and the counts of other calls
pub record Kept : Type 0 where
  pub loans : List GName
  pub name : List ℕ
  pub others : Option Folder
  pub counts : List ℕ

-- of what owns its bytes and stands on no file
abbrev pub stands_alone : Kept
stands_alone = record { loans = []; name = []; others = Some map.empty; counts = [] }

-- of a sink that adds to one file: the loan of the files and those that stand in them, the file's name, all other files, and the counts
-- of all other calls
abbrev pub at_end_of : (loan : GName) → (loans : List GName) → (name : List ℕ) → (told : Option Folder) → (faults : Call → ℕ) → (overlong : ℕ) → Kept
at_end_of loan loans name told faults overlong = record {
  loans = loan ∷ loans;
  name = name;
  others = others_of told name;
  counts = faults Load ∷ faults Clear ∷ faults ReadAt ∷ faults WriteAt ∷ overlong ∷ [];
}
