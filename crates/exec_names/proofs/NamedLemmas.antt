-- A block that a statement names is one of its array's, where the statement stands.
use Rattle.std.proofs.Common.{◌≡◌, ℕ, zero, suc, ◌≤◌, List, [], ◌∷◌, map, length, slice_index_or, true, false, ◌&&◌, nat_le, refl, sym, ap, ◌∙◌, subst, arith}
use Rattle.std.proofs.Math.ListN.{get_or-map}
use Rattle.std.proofs.lemmas.Bool.{and_parts}
use Rattle.std.proofs.lemmas.Bool.Decides.{nat_tests}
use Rattle.std.proofs.lemmas.List.{length-map}
use Rattle.std.specs.List.{list_all}
use Rattle.sial_syntax.specs.declared.array.ArrayDecl.{ArrayDecl}
use Rattle.sial_syntax.specs.declared.array.ArrayKind.TheVariants.{Temp}
use Rattle.sial_syntax.specs.declared.operand.BlockRef.{BlockRef}
use Rattle.sial_syntax.specs.BoxLaws.{AreSegments}
use Rattle.sial_syntax.specs.Limits.{most_rank}
use Rattle.sial_syntax.specs.Proper.{proper_array, has_length, has_index, is_line}
use Rattle.sial_syntax.specs.Names.{is_name}
use Rattle.sial_syntax.specs.Spaces.{same_kind}
use Rattle.sial_syntax.specs.Tree.{Tree}
use Rattle.index_spaces.specs.Placed.{array_among, bare}
use Rattle.sial_meaning.specs.Setting.{Setting, array_of, array_kind, dims_of, no_array}
use Rattle.sial_meaning.specs.Sound.{IsSound}
use Rattle.sial_meaning.proofs.Granted.Ranges.{InRange, array-whole, segments-named}
use Rattle.sial_meaning.proofs.Granted.Runs.{declared-array}
use Rattle.sial_meaning.proofs.WritesFitTheirBlocks.Blocks.{Fit}
use Rattle.exec_names.specs.Naming.{numbers_of, IsAmong}

-- a declared array has at most six indices
few-declared : (p : Tree) (arrays : List ArrayDecl) (a : ℕ) → list_all (proper_array p) arrays ≡ true → length (slice_index_or arrays a no_array).dims ≤ 6
few-declared p [] a proper = omega arith
few-declared p (x ∷ xs) zero proper =
    let first = and_parts (proper_array p x) (list_all (proper_array p) xs) proper in
    let one = and_parts (is_name x.name) (is_line x.line && (has_length most_rank x.dims && list_all (has_index p) x.dims)) first.0 in
    let two = and_parts (is_line x.line) (has_length most_rank x.dims && list_all (has_index p) x.dims) one.1 in
    let three = and_parts (has_length most_rank x.dims) (list_all (has_index p) x.dims) two.1 in
    let four = and_parts (nat_le 1 (length x.dims)) (nat_le (length x.dims) 6) three.0 in
    let few : nat_le (length x.dims) 6 ≡ true = four.1 in
    grind (arith, nat_tests, few)
few-declared p (x ∷ xs) (suc a) proper = few-declared p xs a (and_parts (proper_array p x) (list_all (proper_array p) xs) proper).1

pub few-dims : (g : Setting) → IsSound g → (array : ℕ) → length (dims_of g array) ≤ 6
few-dims g sound array = few-declared g.program g.program.arrays array sound.setting.proper.arrays

-- an array of the spaces is that of the program
pub among-is : (g : Setting) (array : ℕ) → array_among (map bare g.program.arrays) array ≡ bare (array_of g array)
among-is g array = get_or-map bare g.program.arrays array no_array

-- a named block whose indices are bound within their ranges
pub named-block : (g : Setting) (bound values : List ℕ) (b : BlockRef) → IsSound g → InRange g bound values → Fit g bound b → same_kind (array_kind g b.array) Temp ≡ false
    → IsAmong g.spaces (map bare g.program.arrays) values b.array b.at
named-block g bound values b sound in-range fit other =
    let is = among-is g b.array in
    let named = segments-named g sound bound values b.at (dims_of g b.array) in-range fit.used fit.long fit.fits fit.within (array-whole g sound b.array other) in
    let there = declared-array g b.array (array_kind g b.array) refl other in
    let long : length (map bare g.program.arrays) ≡ length g.program.arrays = length-map g.program.arrays bare in
    let few = few-dims g sound b.array in
    record {
      few = omega (arith, few, fit.long);
      declared = omega (arith, there, long);
      counted = ap (λ (a : ArrayDecl). same_kind a.kind Temp) is ∙ other;
      within = subst (λ (a : ArrayDecl). AreSegments g.spaces a.dims (numbers_of values b.at)) (sym is) named.0;
    }
