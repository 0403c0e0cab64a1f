-- A list of names with their bytes, as the map that it stands for.
use Rattle.std.specs.Prelude.{ℕ, Bool, List, map}
use Rattle.std.specs.FinMap as finite
use Rattle.std.specs.Str.{bytes_eq}
use Rattle.sip_files.specs.Files.{Folder}
use Rattle.sip_files.specs.declared.folder.Entry.{Entry}

-- a name and its bytes
abbrev pub pair : Entry → List ℕ × List ℕ
pair entry = (entry.name.items, entry.bytes.items)

-- the map of the entries, in which the first of a name counts
abbrev pub folder_of : List Entry → Folder
folder_of entries = finite.from_entries (map pair entries)

-- whether the entry is of this name
abbrev pub has_name : List ℕ → Entry → Bool
has_name name entry = bytes_eq name entry.name.items
