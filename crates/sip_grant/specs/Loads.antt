-- The files that a command reads, in order, and what became of their loads.
use Rattle.std.specs.Prelude.{◌≡◌, ℕ, ◌<◌, ◌⊎◌, List, [], ◌∷◌, length, Option, Some, None, IsSomeAnd, Ok, Err}
use Rattle.std.specs.FinMap as map
use Rattle.sip_files.specs.Files.{Folder}
use Rattle.sip_files.specs.Loading.{Wanted, LoadOf}
use Rattle.sip_files.specs.declared.fault.LoadFault.TheVariants.{Failed, Missing, TooLong, OutOfMemory}
use Rattle.sip_grant.specs.Programs.{IsProgramFile}

-- what a file has to hold before the next one is loaded
pub data Content : Type 0 where
  RuledProgram : Content
  AnyText : Content

-- a file that a command reads
pub record Reads : Type 0 where
  pub file : Wanted
  pub content : Content

-- a text holds what is asked of it
abbrev pub Holds : Content → List ℕ → Type 0
Holds RuledProgram text = IsProgramFile text
Holds AnyText text = Unit {0}

-- each file was read, in this order, each holds what is asked of it, and nothing else was loaded
abbrev pub AreRead : {F : Type 0} → LoadOf F → (old new : F) → List Reads → (texts : List (List ℕ)) → Type 0
AreRead {F} load old new [] [] = new ≡ old
AreRead {F} load old new [] (text ∷ texts) = ⊥
AreRead {F} load old new (x ∷ rest) [] = ⊥
AreRead {F} load old new (x ∷ rest) (text ∷ texts) =
    (next : F) × load old x.file (Ok tt) text next × Holds x.content text × AreRead load next new rest texts

-- a load didn't read the file: it failed, or found it missing or too long
abbrev pub IsUnread : {F : Type 0} → LoadOf F → (old new : F) → Wanted → Type 0
IsUnread load old new file =
    (bytes : List ℕ)
    × (load old file (Err Failed) bytes new ⊎ (load old file (Err Missing) bytes new ⊎ load old file (Err TooLong) bytes new))

-- a load found no memory for its file
abbrev pub IsStarved : {F : Type 0} → LoadOf F → (old new : F) → Wanted → Type 0
IsStarved load old new file = (bytes : List ℕ) × load old file (Err OutOfMemory) bytes new

-- this is the name of the first file that wasn't read: all before it were read, in this order, and hold what is asked of them, and none
-- behind it was loaded
abbrev pub IsFirstUnread : {F : Type 0} → LoadOf F → (old new : F) → List Reads → (name : List ℕ) → Type 0
IsFirstUnread {F} load old new [] name = ⊥
IsFirstUnread {F} load old new (x ∷ rest) name =
    ((name ≡ x.file.name) × IsUnread load old new x.file)
    ⊎ ((text : List ℕ) × (next : F) × load old x.file (Ok tt) text next × Holds x.content text × IsFirstUnread load next new rest name)

-- memory ran out in a load, or before or behind one: the files before it were read, in this order, and hold what is asked of them, and none
-- behind it was loaded
abbrev pub RanOut : {F : Type 0} → LoadOf F → (old new : F) → List Reads → Type 0
RanOut {F} load old new [] = new ≡ old
RanOut {F} load old new (x ∷ rest) =
    (new ≡ old)
    ⊎ (IsStarved load old new x.file
    ⊎ ((text : List ℕ) × (next : F) × load old x.file (Ok tt) text next × ((new ≡ next) ⊎ (Holds x.content text × RanOut load next new rest))))

-- a told file can't be read: it is missing, or longer than its limit
abbrev pub IsUnreadable : Option Folder → Wanted → Type 0
IsUnreadable None file = ⊥
IsUnreadable (Some files) file = (map.get files file.name ≡ None) ⊎ IsSomeAnd (map.get files file.name) (λ held. file.most < length held)
