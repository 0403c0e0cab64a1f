-- What a run leaves of its output.
use Rattle.std.specs.Prelude.{◌≡◌, ℕ, ◌≤◌, List, ◌++◌, Option, Result, Ok, OnOk, OnErr, IsErrOf}
use Rattle.sip_files.specs.Files.{Rose}
use Rattle.sip_files.specs.Kept.{Kept}
use Rattle.sip_files.specs.Sink.{Gains, GainsPart}
use Rattle.sip_setting.specs.Printing.{text_of}
use Rattle.first_profile.specs.declared.fault.RunFault.{RunFault}
use Rattle.first_profile.specs.declared.fault.RunFault.TheVariants.{NotWritten}

-- a text went out whole, or a first part of it, where a write failed and was counted, or memory ran out
pub record Ran (old new : Option (List ℕ)) (before now : ℕ) (was is : Kept) (text : List ℕ)
    (result : Result (Unit {0}) RunFault) : Type 0 where
  pub ok : OnOk result (Gains old new text)
  pub err : OnErr result (GainsPart old new text)
  pub later : before ≤ now
  pub cause : IsErrOf result NotWritten → Rose before now
  pub kept : is ≡ was

-- the text of the lines that came before the rest went out whole
pub record RanSoFar (old new : Option (List ℕ)) (before now : ℕ) (was is : Kept) (all rest : List (List ℕ)) : Type 0 where
  pub done : List (List ℕ)
  pub split : all ≡ (done ++ rest)
  pub ran : Ran old new before now was is (text_of done) (Ok tt)
