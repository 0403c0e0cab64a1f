-- What a stream takes of bytes, where it tells its own.
use Rattle.std.specs.Prelude.{◌≡◌, ℕ, List, ◌++◌, Option}
use Rattle.std.specs.Io.KnownBytes.{Appends}
use Rattle.sip_files.specs.Files.{IsPrefix}

-- a first part of these bytes was taken
abbrev pub AppendsPart : Option (List ℕ) → Option (List ℕ) → List ℕ → Type 0
AppendsPart old new bytes = (part : List ℕ) × IsPrefix part bytes × Appends old new part

-- a part of these bytes was taken, and this is left of them
pub record Took (old new : Option (List ℕ)) (bytes rest : List ℕ) : Type 0 where
  pub part : List ℕ
  pub split : bytes ≡ part ++ rest
  pub taken : Appends old new part

-- what a sink over a stream shows: the bytes of the stream, where it tells them, and the count of faults
pub record OnStream : Type 0 where
  pub bytes : Option (List ℕ)
  pub faults : ℕ
