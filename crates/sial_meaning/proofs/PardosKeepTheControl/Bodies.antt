-- The body of a pardo, done step by step, leads where the fold over it does.
use Rattle.std.proofs.Common.{◌≡◌, ℕ, ◌+◌, List, ◌++◌, length, true}
use Rattle.sial_syntax.specs.Tree.{Block}
use Rattle.sial_meaning.specs.Meaning.{block_meaning, calls, call_depth}
use Rattle.sial_meaning.specs.Rest.{Rest, push, depth}
use Rattle.sial_meaning.specs.Setting.{Setting}
use Rattle.sial_meaning.specs.Sound.{IsGrantedSetting}
use Rattle.sial_meaning.specs.State.{State}
use Rattle.sial_meaning.specs.Statement.{Copied}
use Rattle.sial_meaning.specs.Step.{done}
use Rattle.sial_meaning.proofs.PardosKeepTheControl.Calls.{PardoStands}
use Rattle.sial_meaning.proofs.StepsReachTheFold.Fold.{block_leads, calls_lead}
use Rattle.sial_meaning.proofs.StepsReachTheFold.Steps.{Leads}

-- the body of a pardo that stands in a granted program, with reads of the copies
pub body_leads :
    (g : Setting)
    (set : IsGrantedSetting g)
    (d : ℕ)
    (indices these : List ℕ)
    (body : Block)
    → PardoStands g set d indices these body
    → (at : ℕ)
    (to : Rest)
    (s : State)
    → d + depth to ≡ call_depth
    → length s.own.values ≡ length g.program.indices
    → Leads Copied g (push at body to) s (done (block_meaning Copied g (calls Copied g d) body s) to)
body_leads g set d indices these body stands at to s deep many =
    block_leads
    Copied
    g
    set.proper
    set.granted
    d
    (calls_lead Copied g set.proper set.granted d)
    (these ++ indices)
    true
    body
    stands.proper
    stands.unbroken
    at
    to
    s
    deep
    many
