-- What the rounds over a program's calls say of the program.
use Rattle.std.proofs.Common.{◌≡◌, ℕ, suc, ◌+◌, List, map, length, Option, None, sym, ap, ◌∙◌, subst, arith}
use Rattle.std.specs.List.{enumerate_from}
use Rattle.std.proofs.lemmas.List.{length-map}
use Rattle.std.specs.Global.{Vec}
use Rattle.sial_syntax.specs.Boxes.{numbers_from}
use Rattle.sial_syntax.specs.SideRules.{depth_of, recursion}
use Rattle.sial_syntax.specs.Tree.{Tree}
use Rattle.scalar_discipline.specs.declared.call.Call.{Call}
use Rattle.scalar_discipline.specs.Calls.{calls_within, lists}
use Rattle.scalar_discipline.specs.Discipline.{depths_of}
use Rattle.scalar_discipline.specs.Rounds.{deeper, depths_after, first_back}
use Rattle.scalar_discipline.proofs.DepthRoundLemmas.{depths-are, settled-none}
use Rattle.scalar_discipline.proofs.ReachRoundLemmas.{recursion-is}

-- there are as many lists of calls as procedures
many : (p : Tree) (calls : List (Vec Call)) → lists calls ≡ map calls_within p.procedures → length calls ≡ length p.procedures
many p calls are = sym (length-map calls (λ (own : Vec Call). own.items)) ∙ (ap (λ (cs : List (List Call)). length cs) are ∙ length-map p.procedures calls_within)

-- the depths that were found
pub depths-found : (p : Tree) (calls : List (Vec Call)) (depths : List ℕ) → lists calls ≡ map calls_within p.procedures → depths ≡ depths_after (lists calls) (length calls) → depths ≡ depths_of p
depths-found p calls depths are is =
    is
    ∙ (ap (depths_after (lists calls)) (many p calls are)
    ∙ (ap (λ (cs : List (List Call)). depths_after cs (length p.procedures)) are ∙ (depths-are p (length p.procedures) ∙ one-more)))
  where
    one-more : map (depth_of p (suc (length p.procedures))) (numbers_from 0 (length p.procedures)) ≡ depths_of p
    one-more = let more : suc (length p.procedures) ≡ length p.procedures + 1 = omega arith in ap (λ (n : ℕ). map (depth_of p n) (numbers_from 0 (length p.procedures))) more

-- where a round leaves them as they are there is no recursion
pub none-found : (p : Tree) (calls : List (Vec Call)) (depths : List ℕ) → lists calls ≡ map calls_within p.procedures → depths ≡ depths_after (lists calls) (length calls) → deeper (lists calls) depths ≡ depths → recursion p ≡ None
none-found p calls depths are is fixed =
    settled-none p (length calls)
    (subst (λ (cs : List (List Call)). deeper cs (depths_after cs (length calls)) ≡ depths_after cs (length calls)) are
    (subst (λ (ds : List ℕ). deeper (lists calls) ds ≡ ds) is fixed))

-- the first call that leads back, if any
pub recursion-found : (p : Tree) (calls : List (Vec Call)) (found : Option ℕ) → lists calls ≡ map calls_within p.procedures → found ≡ first_back (lists calls) (enumerate_from 0 (lists calls)) → recursion p ≡ found
recursion-found p calls found are is =
    sym (recursion-is p) ∙ (ap (λ (cs : List (List Call)). first_back cs (enumerate_from 0 cs)) (sym are) ∙ sym is)
