-- What a run of a program by one worker comes to.
use Rattle.std.specs.Prelude.{◌≡◌, ℕ, List, [], Option, length}
use Rattle.sial_syntax.specs.Spaces.{Cut, Span, Spaces}
use Rattle.sial_meaning.specs.Accepted.{Refusal, first_refusal}
use Rattle.sial_meaning.specs.Meaning.{sequential}
use Rattle.sial_meaning.specs.Setting.{Setting}
use Rattle.sial_meaning.specs.Sound.{IsSound}
use Rattle.sial_meaning.specs.State.{State, Epochs}
use Rattle.sial_meaning.specs.Statement.{Outcome, Went, Stopped}

-- what is seen at the end of a run: numbers, blocks, epochs, how many accesses there were, and the lines
pub record Final : Type 0 where
  pub scalars : List (Option ℕ)
  pub partials : List ℕ
  pub statics : List (List (List ℕ))
  pub distributed : List (List ℕ)
  pub served : List (List ℕ)
  pub epochs : Epochs
  pub accesses : ℕ
  pub lines : List (List ℕ)

-- the end of a program that has nothing and does nothing
abbrev pub empty : Final
empty = record {
  scalars = [];
  partials = [];
  statics = [];
  distributed = [];
  served = [];
  epochs = record { distributed = 1; served = 1 };
  accesses = 0;
  lines = [];
}

-- what is seen of a state
abbrev pub final_state : State → Final
final_state s = record {
  scalars = s.own.scalars;
  partials = s.partials;
  statics = s.own.statics;
  distributed = s.shared.distributed;
  served = s.shared.served;
  epochs = s.epochs;
  accesses = length s.log;
  lines = s.lines;
}

-- what is seen at the end, or where a trap came
abbrev pub final_of : Outcome → Final
final_of (Went s) = final_state s
final_of (Stopped trap s) = final_state s

-- a program that the rules grant, with its own classes, spaces and start values, runs to this end with this first refusal
pub record Run (g : Setting) (final : Final) (refusal : Option Refusal) : Type 0 where
  pub sound : IsSound g
  pub ends : final_of (sequential g) ≡ final
  pub refused : first_refusal g ≡ refusal

-- a kind with segments of these lengths and no pieces
abbrev pub whole_segments : List ℕ → Cut
whole_segments lengths = record { segments = lengths; piece = 0 }

-- spaces with segments of atomic and of molecular orbitals
abbrev pub spaces_of : (ao mo : List ℕ) → List Span → Spaces
spaces_of ao mo spans = record {
  ao = whole_segments ao;
  mo = whole_segments mo;
  moa = whole_segments [];
  mob = whole_segments [];
  spans = spans;
}

-- spaces with segments of molecular orbitals, cut into pieces of this length
abbrev pub cut_spaces : (mo : List ℕ) → (piece : ℕ) → List Span → Spaces
cut_spaces mo piece spans = record (spaces_of [] mo spans) { mo = record { segments = mo; piece = piece } }
