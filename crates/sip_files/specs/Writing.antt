-- What a call that writes one file leaves of it and of all others, where the files tell.
use Rattle.std.specs.Prelude.{ℕ, List, [], ◌++◌, Option, option_map, unwrap_or}
use Rattle.std.specs.FinMap as map
use Rattle.sip_files.specs.Files.{Folder}

-- what a name has; a name that isn't there has no bytes
abbrev pub bytes_in : Folder → List ℕ → List ℕ
bytes_in files name = unwrap_or (map.get files name) []

-- the same where it is told
abbrev pub bytes_of : Option Folder → List ℕ → Option (List ℕ)
bytes_of told name = option_map (λ files. bytes_in files name) told

-- what all other names have
abbrev pub others_of : Option Folder → List ℕ → Option Folder
others_of told name = option_map (λ files. map.remove files name) told

-- files in which the name has no bytes
abbrev pub cleared : Option Folder → List ℕ → Option Folder
cleared told name = option_map (λ files. map.insert files name []) told

-- files in which the name has these bytes more
abbrev pub appended : Option Folder → List ℕ → List ℕ → Option Folder
appended told name bytes = option_map (λ files. map.insert files name (bytes_in files name ++ bytes)) told
