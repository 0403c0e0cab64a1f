-- What a call can ask for.
use Rattle.std.specs.Prelude.{ℕ, List, Bool, Option}

-- how many workers and servers there are, how many blocks and puts they hold, and the file that says where blocks lie
pub record Setup : Type 0 where
  pub workers : ℕ
  pub servers : ℕ
  pub cache : ℕ
  pub puts : ℕ
  pub server_cache : ℕ
  pub place : Option (List ℕ)

-- where the choices of a run come from: none are given, a file has them, or they are made from a number
pub data Choices : Type 0 where
  unchosen : Choices
  from_file : (name : List ℕ) → Choices
  from_seed : ℕ → Choices

-- what a run takes and leaves besides: its choices, the record's name, the store's file, the most steps, and whether the result is written
pub record Running : Type 0 where
  pub choices : Choices
  pub record_name : List ℕ
  pub store : Option (List ℕ)
  pub steps : Option ℕ
  pub dump : Bool

-- a command with its files in order, and what its options say
pub data Request : Type 0 where
  run : (program input : List ℕ) → Setup → Running → Request
  check : (program input : List ℕ) → Request
  compile : (program table : List ℕ) → Request
  dry_run : (program input : List ℕ) → Setup → Request
  replay : (program input record_name : List ℕ) → Setup → Request
  demo : ℕ → Request
