-- What the tables call a scalar.
use Rattle.std.specs.Prelude.{◌≡◌, ℕ, ◌<◌, length, Some, slice_get, slice_index}
use Rattle.sial_meaning.specs.Setting.{Setting, scalar_name}
use Rattle.sip_tables.specs.Flatten.{flatten}

-- the text of a scalar's entry is its name
abbrev pub ScalarsAreNamed : Type 0
ScalarsAreNamed =
    (g : Setting) (scalar : ℕ) → scalar < length g.program.scalars
    → slice_get (flatten g.program).texts (slice_index (flatten g.program).scalars scalar) ≡ Some (scalar_name g scalar)
