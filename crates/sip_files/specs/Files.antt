-- What files tell, what they count, and what a load of one of them may answer.
use Rattle.std.specs.Prelude.{◌≡◌, ◌≢◌, ℕ, ◌+◌, ◌-◌, ◌^◌, ◌<◌, ◌≤◌, min, List, [], ◌++◌, length, Option, Some, None, IsSomeAnd, Result, Ok, Err}
use Rattle.std.specs.FinMap as map
use Rattle.std.specs.Coded.{Coded, coded_ℕ, coded_list}
use Rattle.std.specs.Ordering.{nat_cmp}
use Rattle.std.specs.Cmp.Lexicographic.{slice_cmp}
use Rattle.sip_files.specs.declared.call.Call.{Call}
use Rattle.sip_files.specs.declared.fault.LoadFault.{LoadFault}
use Rattle.sip_files.specs.declared.fault.LoadFault.TheVariants.{Failed, Missing, TooLong, OutOfMemory}

-- bytes by name
abbrev pub Folder : Type 0
Folder = map.FinMap (slice_cmp nat_cmp) (List ℕ)

-- how a folder is told apart
abbrev pub folder_code : Coded Folder
folder_code = map.code (coded_list coded_ℕ) (coded_list coded_ℕ)

-- a count of 64 bits went up, or stands at its end
abbrev pub Rose : ℕ → ℕ → Type 0
Rose before now = min (before + 1) (2 ^ 64 - 1) ≤ now

-- no count falls, and those of other kinds stay
pub record CountsOnly (call : Call) (before now : Call → ℕ) : Type 0 where
  pub later : before call ≤ now call
  pub others : (other : Call) → other ≢ call → now other ≡ before other

-- one more, short of the largest number of 64 bits
abbrev pub one_more : ℕ → ℕ
one_more count = min (count + 1) (2 ^ 64 - 1)

-- the count of failed loads after an answer
abbrev pub failed_after : ℕ → Result (Unit {0}) LoadFault → ℕ
failed_after count (Ok done) = count
failed_after count (Err Failed) = one_more count
failed_after count (Err Missing) = count
failed_after count (Err TooLong) = count
failed_after count (Err OutOfMemory) = count

-- the count of loads that refused a file as too long, after an answer
abbrev pub overlong_after : ℕ → Result (Unit {0}) LoadFault → ℕ
overlong_after count (Ok done) = count
overlong_after count (Err Failed) = count
overlong_after count (Err Missing) = count
overlong_after count (Err TooLong) = one_more count
overlong_after count (Err OutOfMemory) = count

-- a fact about what a name has, where the files tell it
abbrev pub WhereTold : Option Folder → List ℕ → (Option (List ℕ) → Type 0) → Type 0
WhereTold None name fact = Unit {0}
WhereTold (Some files) name fact = fact (map.get files name)

-- the first list begins the second
abbrev pub IsPrefix : List ℕ → List ℕ → Type 0
IsPrefix part whole = (rest : List ℕ) × (whole ≡ part ++ rest)

-- the first bytes of what a name has, and none where it has nothing
abbrev pub IsPartOf : List ℕ → Option (List ℕ) → Type 0
IsPartOf part None = part ≡ []
IsPartOf part (Some held) = IsPrefix part held

-- the files tell that they don't have the name
abbrev pub IsMissing : Option Folder → List ℕ → Type 0
IsMissing None name = ⊥
IsMissing (Some files) name = map.get files name ≡ None

-- the file is longer than this, as far as the files tell, and else more than this was read
abbrev pub IsTooLong : Option Folder → List ℕ → ℕ → List ℕ → Type 0
IsTooLong None name most read = most < length read
IsTooLong (Some files) name most read = IsSomeAnd (map.get files name) (λ held. most < length held)
