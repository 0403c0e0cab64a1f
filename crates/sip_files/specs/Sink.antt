-- What a write leaves of a sink.
use Rattle.std.specs.Prelude.{◌≡◌, ℕ, ◌≤◌, List, ◌++◌, Option, Some, None, Result, OnOk, OnErr}
use Rattle.sip_files.specs.Files.{Rose, IsPrefix}
use Rattle.sip_files.specs.Kept.{Kept}

-- these bytes were added at the end, and what doesn't tell still doesn't
abbrev pub Gains : Option (List ℕ) → Option (List ℕ) → List ℕ → Type 0
Gains None new bytes = new ≡ None
Gains (Some old) new bytes = new ≡ Some (old ++ bytes)

-- a first part of these bytes was added
abbrev pub GainsPart : Option (List ℕ) → Option (List ℕ) → List ℕ → Type 0
GainsPart old new bytes = (part : List ℕ) × IsPrefix part bytes × Gains old new part

-- a sink took these bytes, or failed, counted that, and took a first part of them
pub record Wrote {E : Type 0} (old new : Option (List ℕ)) (before now : ℕ) (was is : Kept) (bytes : List ℕ) (result : Result (Unit {0}) E) : Type 0 where
  pub ok : OnOk result (Gains old new bytes)
  pub err : OnErr result (GainsPart old new bytes)
  pub later : before ≤ now
  pub cause : OnErr result (Rose before now)
  pub kept : is ≡ was
