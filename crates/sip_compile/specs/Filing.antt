-- What a file that is written in place of another holds, where the files tell.
use Rattle.std.specs.Prelude.{◌≡◌, ◌≢◌, ◌⊎◌, ℕ, ◌≤◌, List, Option, option_map}
use Rattle.sip_files.specs.Files.{Folder, Rose, IsPrefix}
use Rattle.sip_files.specs.Writing.{bytes_of}
use Rattle.sip_files.specs.declared.call.Call.{Call}
use Rattle.sip_files.specs.declared.call.Call.TheVariants.{Load, Clear, Append}

-- a file has exactly these bytes
abbrev pub Holds : Option Folder → (name bytes : List ℕ) → Type 0
Holds told name bytes = bytes_of told name ≡ option_map (λ files. bytes) told

-- a file has a first part of these bytes, and no more
abbrev pub HoldsPart : Option Folder → (name bytes : List ℕ) → Type 0
HoldsPart told name bytes = (part : List ℕ) × IsPrefix part bytes × Holds told name part

-- the file wasn't written whole: it couldn't be cleared, or was, and an addition failed behind a first part; each is counted
abbrev pub IsUnfiled : Option Folder → (name bytes : List ℕ) → (before now : Call → ℕ) → Type 0
IsUnfiled told name bytes before now =
    Rose (before Clear) (now Clear) ⊎ (Rose (before Append) (now Append) × HoldsPart told name bytes)

-- no count falls, and none but those of clearing and adding changes
pub record CountsWrites (before now : Call → ℕ) : Type 0 where
  pub clear : before Clear ≤ now Clear
  pub append : before Append ≤ now Append
  pub others : (other : Call) → other ≢ Clear → other ≢ Append → now other ≡ before other

-- no count falls, and none but those of loading, clearing and adding changes
pub record CountsFiles (before now : Call → ℕ) : Type 0 where
  pub load : before Load ≤ now Load
  pub clear : before Clear ≤ now Clear
  pub append : before Append ≤ now Append
  pub others : (other : Call) → other ≢ Load → other ≢ Clear → other ≢ Append → now other ≡ before other

-- files were cleared and added to, as their counts say, and none was loaded that failed or was too long
pub record WritesAlone {F : Type 0} (faults : F → Call → ℕ) (overlong : F → ℕ) (mid new : F) : Type 0 where
  pub counts : CountsWrites (faults mid) (faults new)
  pub overlong_stays : overlong new ≡ overlong mid
