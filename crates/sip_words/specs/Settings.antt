-- Settings: options with their values, as they stand among the words of a call.
use Rattle.std.specs.Prelude.{ℕ, List, [], ◌∷◌, Bool, nat_le, Option, Some, None, codes, if◌then◌else◌}
use Rattle.std.specs.List.{count_by, list_all}
use Rattle.std.specs.Str.{bytes_eq}

-- an option and its value; that of `--dump`, which has none, is empty
pub record Setting : Type 0 where
  pub option : List ℕ
  pub value : List ℕ

-- an option with a value
abbrev pub setting : (option value : List ℕ) → Setting
setting option value = record { option = option; value = value }

-- whether an option is one word, with no value behind it
abbrev pub is_bare : (option : List ℕ) → Bool
is_bare option = bytes_eq option (codes "--dump")

-- the words of a setting: `--name value`, or `--dump`
abbrev pub words_of : Setting → List (List ℕ)
words_of s = if is_bare s.option then s.option ∷ [] else (s.option ∷ s.value ∷ [])

-- whether a setting sets an option
abbrev pub sets : (option : List ℕ) → Setting → Bool
sets option s = bytes_eq s.option option

-- the value of an option, where it is set
abbrev pub given : List Setting → (option : List ℕ) → Option (List ℕ)
given [] option = None
given (s ∷ more) option = if sets option s then Some s.value else given more option

-- whether each option is set at most once
abbrev pub are_once : List Setting → Bool
are_once settings = list_all (λ s. nat_le (count_by (sets s.option) settings) 1) settings
