-- Planned faults of one kind of call: which calls are to fail, counted from 1, and how many came.
use Rattle.std.specs.Prelude.{ℕ, ◌+◌, ◌==◌, Bool, cond, List, [], ◌∷◌, ◌++◌}
use Rattle.std.specs.List.{list_any}
use Rattle.sip_files.specs.Files.{one_more}

-- the numbers of the calls that are to fail, how many calls came, and how many of them failed
pub record Planned : Type 0 where
  pub numbers : List ℕ
  pub calls : ℕ
  pub faults : ℕ

-- nothing planned, and no call yet
abbrev pub unplanned : Planned
unplanned = record { numbers = []; calls = 0; faults = 0 }

-- whether the next call is to fail
abbrev pub is_next : Planned → Bool
is_next plan = list_any (λ number. number == plan.calls + 1) plan.numbers

-- after the next call, failed exactly where that was planned
abbrev pub after_call : Planned → Planned
after_call plan = record {
  numbers = plan.numbers;
  calls = one_more plan.calls;
  faults = cond (is_next plan) (one_more plan.faults) plan.faults;
}

-- after a call that failed for another reason
abbrev pub after_refusal : Planned → Planned
after_refusal plan = record plan { faults = one_more plan.faults }

-- a plan with one more number
abbrev pub with_number : Planned → ℕ → Planned
with_number plan number = record plan { numbers = plan.numbers ++ number ∷ [] }
