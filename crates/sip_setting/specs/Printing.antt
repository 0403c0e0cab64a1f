-- The text that a meaning prints.
use Rattle.std.specs.Prelude.{ℕ, List, [], ◌∷◌, ◌++◌, flat_map}
use Rattle.sial_meaning.specs.Meaning.{sequential}
use Rattle.sial_meaning.specs.Setting.{Setting}
use Rattle.sial_meaning.specs.Statement.{Outcome, Went, Stopped}

-- the lines that an outcome printed
abbrev pub lines_of : Outcome → List (List ℕ)
lines_of (Went s) = s.lines
lines_of (Stopped trap s) = s.lines

-- lines as text, each ended
abbrev pub text_of : List (List ℕ) → List ℕ
text_of lines = flat_map (λ line. line ++ 10 ∷ []) lines

-- the text that the sequential meaning prints
abbrev pub printed_text : Setting → List ℕ
printed_text setting = text_of (lines_of (sequential setting))
