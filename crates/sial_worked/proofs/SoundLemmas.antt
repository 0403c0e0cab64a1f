-- Soundness and runs of a setting, by computation.
use Rattle.std.proofs.Common.{◌≡◌, ℕ, ◌≤◌, Bool, true, ◌==◌, ◌&&◌, not, nat_le, List, ◌∷◌, [], map, length, Option, Some, None, sym, arith}
use Rattle.std.specs.List.{list_all, enumerate_from}
use Rattle.std.proofs.lemmas.Bool.{eqb-true}
use Rattle.std.proofs.lemmas.Bool.Decides.{nat_tests}
use Rattle.sial_syntax.specs.declared.array.ArrayKind.TheVariants.{Static, Local, Distributed, Served}
use Rattle.sial_syntax.specs.declared.index.IndexDecl.{IndexDecl}
use Rattle.sial_syntax.specs.Limits.{most_statements, most_names}
use Rattle.sial_syntax.specs.Names.{is_name}
use Rattle.sial_syntax.specs.Proper.{IsProper, is_number, proper_index, proper_array, proper_procedure}
use Rattle.sial_syntax.specs.Proper.{proper_depth, proper_numbers, all_statements}
use Rattle.sial_syntax.specs.Resolved.{Constants, AreSpacesBy, may_be_constants, span_of_range, is_cut, has_segments}
use Rattle.sial_syntax.specs.Resolved.{is_narrow, has_few_blocks, have_few_blocks, statement_within, has_small_box}
use Rattle.sial_syntax.specs.Shapes.{shape_fault}
use Rattle.sial_syntax.specs.SideRules.{side_fault}
use Rattle.sial_syntax.specs.Sides.{scalar_classes, array_sides}
use Rattle.sial_syntax.specs.Spaces.{Spaces}
use Rattle.sial_syntax.specs.Tree.{Tree}
use Rattle.sial_syntax.specs.Visits.{Visit, all_visits}
use Rattle.sial_meaning.specs.Setting.{Setting}
use Rattle.sial_meaning.specs.Sound.{IsSound, is_start, given_twice}
use Rattle.sial_meaning.specs.Accepted.{Refusal, first_refusal}
use Rattle.sial_meaning.specs.Meaning.{sequential}
use Rattle.sial_worked.specs.Runs.{Final, Run, final_of}
use Rattle.sial_meaning.proofs.AcceptedInOtherWords.Pairs.{first-holds, second-holds, not-so}

-- whether all of a row of tests hold
abbrev pub hold : List Bool → Bool
hold [] = true
hold (b ∷ bs) = b && hold bs

-- whether a tree is proper
abbrev pub is_proper : Tree → List Bool
is_proper p =
    is_name p.name
    ∷ list_all proper_index (enumerate_from 0 p.indices)
    ∷ list_all (proper_array p) p.arrays
    ∷ list_all is_name p.scalars
    ∷ list_all (proper_procedure p) p.procedures
    ∷ proper_depth p p.body
    ∷ list_all proper_numbers (all_visits p)
    ∷ nat_le (length p.indices) most_names
    ∷ nat_le (length p.arrays) most_names
    ∷ nat_le (length p.scalars) most_names
    ∷ nat_le (length p.procedures) most_names
    ∷ nat_le (all_statements p) most_statements
    ∷ []

-- the spans are those of the declared ranges
abbrev AreSpans : Constants → Tree → Spaces → Type 0
AreSpans constants p spaces = map Some spaces.spans ≡ map (λ (i : IndexDecl). span_of_range constants i.range) p.indices

-- whether spaces are a program's by these constants, but for the spans
abbrev pub are_spaces : Constants → Tree → Spaces → List Bool
are_spaces constants p spaces =
    may_be_constants constants
    ∷ list_all is_cut (spaces.ao ∷ spaces.mo ∷ spaces.moa ∷ spaces.mob ∷ [])
    ∷ list_all (λ (i : IndexDecl). has_segments constants spaces i.range) p.indices
    ∷ list_all (is_narrow spaces) p.arrays
    ∷ list_all (has_few_blocks spaces) p.arrays
    ∷ list_all (have_few_blocks p spaces) (Static ∷ Local ∷ Distributed ∷ Served ∷ [])
    ∷ list_all (λ (v : Visit). statement_within p spaces v.form) (all_visits p)
    ∷ list_all (λ (v : Visit). has_small_box spaces v.form) (all_visits p)
    ∷ []

-- whether start values fit
abbrev pub are_starts : Setting → List Bool
are_starts g =
    (length g.numbers == length g.program.scalars)
    ∷ list_all is_number g.numbers
    ∷ list_all (is_start g) g.blocks
    ∷ not (given_twice g.blocks)
    ∷ []

-- each test of a row holds
abbrev Each : List Bool → Type 0
Each [] = Unit {0}
Each (b ∷ bs) = (b ≡ true) × Each bs

each : (bs : List Bool) → hold bs ≡ true → Each bs
each [] all = tt
each (b ∷ bs) all = (first-holds b (hold bs) all, each bs (second-holds b (hold bs) all))

-- a number that was tested against another
at-most : (a b : ℕ) → nat_le a b ≡ true → a ≤ b
at-most a b is = grind (arith, nat_tests)

pub proper-by : (p : Tree) → hold (is_proper p) ≡ true → IsProper p
proper-by p all =
    let e = each (is_proper p) all in
    let f = e.1.1.1.1.1.1 in
    record {
      name = e.0;
      indices = e.1.0;
      arrays = e.1.1.0;
      scalars = e.1.1.1.0;
      procedures = e.1.1.1.1.0;
      body = e.1.1.1.1.1.0;
      numbers = f.0;
      few_indices = at-most (length p.indices) most_names f.1.0;
      few_arrays = at-most (length p.arrays) most_names f.1.1.0;
      few_scalars = at-most (length p.scalars) most_names f.1.1.1.0;
      few_procedures = at-most (length p.procedures) most_names f.1.1.1.1.0;
      few_statements = at-most (all_statements p) most_statements f.1.1.1.1.1.0;
    }

spaces-by : (constants : Constants) (p : Tree) (spaces : Spaces) → hold (are_spaces constants p spaces) ≡ true
    → AreSpans constants p spaces → AreSpacesBy constants p spaces
spaces-by constants p spaces all spans =
    let e = each (are_spaces constants p spaces) all in
    record {
      given = e.0;
      cuts = e.1.0;
      spans = spans;
      segments = e.1.1.0;
      narrow = e.1.1.1.0;
      few = e.1.1.1.1.0;
      together = e.1.1.1.1.1.0;
      within = e.1.1.1.1.1.1.0;
      boxes = e.1.1.1.1.1.1.1.0;
    }

-- a setting is sound where each of these comes out so
sound-by : (g : Setting) (constants : Constants)
    → shape_fault g.program ≡ None → side_fault g.program ≡ None → hold (is_proper g.program) ≡ true
    → hold (are_spaces constants g.program g.spaces) ≡ true → AreSpans constants g.program g.spaces
    → scalar_classes g.program ≡ g.scalars → array_sides g.program ≡ g.sides → hold (are_starts g) ≡ true → IsSound g
sound-by g constants shapes sides proper spaces spans classes locals starts =
    let e = each (are_starts g) starts in
    record {
      setting = record {
        proper = proper-by g.program proper;
        granted = record { shapes = shapes; sides = sides };
        scalars = sym classes;
        sides = sym locals;
      };
      spaces = (constants, spaces-by constants g.program g.spaces spaces spans);
      count = eqb-true (length g.numbers) (length g.program.scalars) e.0;
      numbers = e.1.0;
      blocks = e.1.1.0;
      once = not-so (given_twice g.blocks) e.1.1.1.0;
    }

-- a setting runs to an end with a first refusal where each of these comes out so
pub run-by : (g : Setting) (final : Final) (refusal : Option Refusal) (constants : Constants)
    → shape_fault g.program ≡ None → side_fault g.program ≡ None → hold (is_proper g.program) ≡ true
    → hold (are_spaces constants g.program g.spaces) ≡ true → AreSpans constants g.program g.spaces
    → scalar_classes g.program ≡ g.scalars → array_sides g.program ≡ g.sides → hold (are_starts g) ≡ true
    → final_of (sequential g) ≡ final → first_refusal g ≡ refusal → Run g final refusal
run-by g final refusal constants shapes sides proper spaces spans classes locals starts ends refused =
    record {
      sound = sound-by g constants shapes sides proper spaces spans classes locals starts;
      ends = ends;
      refused = refused;
    }
