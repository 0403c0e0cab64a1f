-- The first fault of sides, as it is answered.
use Rattle.std.proofs.Common.{◌≡◌, ℕ, suc, ◌+◌, List, map, length, replicate, slice_index_or, Option, Some, None, sym, ap, ◌∙◌, arith}
use Rattle.sial_syntax.specs.Shapes.{Fault, first_fault}
use Rattle.sial_syntax.specs.declared.classes.ScalarClass.{ScalarClass}
use Rattle.sial_syntax.specs.Boxes.{numbers_from}
use Rattle.sial_syntax.specs.Sides.{Sided, all_sided, scalar_classes}
use Rattle.sial_syntax.specs.SideRules.{depth_of, locals_mixed, procedure_depth, recursion, recursion_or, side_fault, side_faults}
use Rattle.sial_syntax.specs.Tree.{Tree}
use Rattle.scalar_discipline.specs.declared.fault.RuleFault.{RuleFault}
use Rattle.scalar_discipline.specs.declared.fault.RuleFault.TheVariants.{PardoInPardo, SharedWriteOutside, SyncInside, PrintInside, StaticWriteInside, MixedLocal, MixedScalar, PartialRead, Recursion, CallTooDeep, OutOfMemory}
use Rattle.scalar_discipline.specs.Discipline.{IsCause, IsFirst, depths_of, fault_of}
use Rattle.scalar_discipline.specs.Deeds.{named_outside, named_within}
use Rattle.scalar_discipline.specs.Judging.{first_told, sooner}
use Rattle.scalar_discipline.specs.Mixing.{first_mixed, lines_of}
use Rattle.scalar_discipline.proofs.DepthRoundLemmas.{depth-at}
use Rattle.scalar_discipline.proofs.MixLemmas.{mixed-are}
use Rattle.scalar_discipline.proofs.ToldLemmas.{first-is}

-- a fault that was found is what is answered
pub is-first : (p : Tree) (f : RuleFault) → side_fault p ≡ Some (fault_of f) → IsFirst p f
is-first p (PardoInPardo line) e = e
is-first p (SharedWriteOutside line) e = e
is-first p (SyncInside line) e = e
is-first p (PrintInside line) e = e
is-first p (StaticWriteInside line) e = e
is-first p (MixedLocal line) e = e
is-first p (MixedScalar line) e = e
is-first p (PartialRead line) e = e
is-first p (Recursion line) e = e
is-first p (CallTooDeep line) e = e
is-first p OutOfMemory e = tt

-- without recursion the first fault is that of the other rules
pub others-first : (p : Tree) → recursion p ≡ None → side_fault p ≡ first_fault (side_faults p)
others-first p none = ap (λ r. recursion_or r (first_fault (side_faults p))) none

-- recursion comes first
pub recursion-first : (p : Tree) (f : RuleFault) → IsCause p f → IsFirst p f
recursion-first p (Recursion line) e = ap (λ r. recursion_or r (first_fault (side_faults p))) e
recursion-first p OutOfMemory e = tt
recursion-first p (PardoInPardo line) e = absurd e
recursion-first p (SharedWriteOutside line) e = absurd e
recursion-first p (SyncInside line) e = absurd e
recursion-first p (PrintInside line) e = absurd e
recursion-first p (StaticWriteInside line) e = absurd e
recursion-first p (MixedLocal line) e = absurd e
recursion-first p (MixedScalar line) e = absurd e
recursion-first p (PartialRead line) e = absurd e
recursion-first p (CallTooDeep line) e = absurd e

-- the depth of each procedure, also of one that isn't there
depths-at : (p : Tree) (depths : List ℕ) → depths ≡ depths_of p → (q : ℕ) → slice_index_or depths q 1 ≡ procedure_depth p q
depths-at p depths is q =
    let more : suc (length p.procedures) ≡ length p.procedures + 1 = omega arith in
    depth-at p (length p.procedures) q depths (is ∙ sym (ap (λ n. map (depth_of p n) (numbers_from 0 (length p.procedures))) more)) ∙ ap (λ n. depth_of p n q) more

-- what the code finds is the first fault of sides but recursion
pub found-first : (p : Tree) (depths : List ℕ) (classes : List ScalarClass) (all : List Sided) (outer inner : List (Option ℕ)) (first found : Option Fault)
    → all ≡ all_sided p → classes ≡ scalar_classes p → depths ≡ depths_of p → first ≡ first_told p classes depths all None
    → outer ≡ lines_of named_outside all (replicate (length p.arrays) None) → inner ≡ lines_of named_within all (replicate (length p.arrays) None)
    → found ≡ first_mixed outer inner 0 p.arrays first → found ≡ first_fault (side_faults p)
found-first p depths classes all outer inner first found alls class deep firsts outers inners is =
    is
    ∙ (ap (λ o. first_mixed o inner 0 p.arrays first) (outers ∙ ap (λ ss. lines_of named_outside ss (replicate (length p.arrays) None)) alls)
    ∙ (ap (λ i. first_mixed (lines_of named_outside (all_sided p) (replicate (length p.arrays) None)) i 0 p.arrays first) (inners ∙ ap (λ ss. lines_of named_within ss (replicate (length p.arrays) None)) alls)
    ∙ (mixed-are p first
    ∙ (ap (λ f. sooner f (first_fault (locals_mixed p))) (firsts ∙ (ap (λ cs. first_told p cs depths all None) class ∙ ap (λ ss. first_told p (scalar_classes p) depths ss None) alls))
    ∙ first-is p depths (depths-at p depths deep)))))
