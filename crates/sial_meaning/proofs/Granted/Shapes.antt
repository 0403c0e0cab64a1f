-- The shape rules of a granted program, taken apart: what breaks each of them is nothing.
use Rattle.std.proofs.Common.{◌≡◌, [], ◌++◌, map, filter}
use Rattle.sial_syntax.specs.declared.array.ArrayDecl.{ArrayDecl}
use Rattle.sial_syntax.specs.declared.index.IndexDecl.{IndexDecl}
use Rattle.sial_syntax.specs.Shapes.{broken_at, shape_faults, declarations_broken, breaks_unbound, breaks_rebound, breaks_repeated, breaks_kind, breaks_indices, breaks_writable, index_breaks_kind, array_breaks_kind}
use Rattle.sial_syntax.specs.SideRules.{IsGranted}
use Rattle.sial_syntax.specs.Tree.{Tree}
use Rattle.sial_syntax.specs.Visits.{Visit, all_visits}
use Rattle.sial_syntax.proofs.AmongLemmas.{map_none, append_none}
use Rattle.sial_syntax.proofs.GrantedLemmas.{fault_none}

-- no statement and no declaration breaks a rule of shape
pub record ShapesHold (p : Tree) : Type 0 where
  pub unbound : filter (breaks_unbound p) (all_visits p) ≡ []
  pub rebound : filter (breaks_rebound p) (all_visits p) ≡ []
  pub repeated : filter (breaks_repeated p) (all_visits p) ≡ []
  pub declared_indices : filter (index_breaks_kind p) p.indices ≡ []
  pub declared_arrays : filter (array_breaks_kind p) p.arrays ≡ []
  pub kind : filter (breaks_kind p) (all_visits p) ≡ []
  pub indices : filter (breaks_indices p) (all_visits p) ≡ []
  pub writable : filter (breaks_writable p) (all_visits p) ≡ []

-- so it is in a granted program
pub shapes-hold : (p : Tree) → IsGranted p → ShapesHold p
shapes-hold p granted =
    let a = broken_at 1 (breaks_unbound p) (all_visits p) in
    let b = a ++ broken_at 2 (breaks_rebound p) (all_visits p) in
    let c = b ++ broken_at 3 (breaks_repeated p) (all_visits p) in
    let d = c ++ declarations_broken p in
    let e = d ++ broken_at 4 (breaks_kind p) (all_visits p) in
    let f = e ++ broken_at 5 (breaks_indices p) (all_visits p) in
    let six = append_none f (broken_at 6 (breaks_writable p) (all_visits p)) (fault_none (shape_faults p) granted.shapes) in
    let five = append_none e (broken_at 5 (breaks_indices p) (all_visits p)) six.0 in
    let kinds = append_none d (broken_at 4 (breaks_kind p) (all_visits p)) five.0 in
    let declarations = append_none c (declarations_broken p) kinds.0 in
    let three = append_none b (broken_at 3 (breaks_repeated p) (all_visits p)) declarations.0 in
    let two = append_none a (broken_at 2 (breaks_rebound p) (all_visits p)) three.0 in
    let of_indices = map (λ (i : IndexDecl). record { line = i.line; rule = 4 }) (filter (index_breaks_kind p) p.indices) in
    let of_arrays = map (λ (a : ArrayDecl). record { line = a.line; rule = 4 }) (filter (array_breaks_kind p) p.arrays) in
    let both = append_none of_indices of_arrays declarations.1 in
    record {
      unbound = map_none (λ (v : Visit). record { line = v.line; rule = 1 }) (filter (breaks_unbound p) (all_visits p)) two.0;
      rebound = map_none (λ (v : Visit). record { line = v.line; rule = 2 }) (filter (breaks_rebound p) (all_visits p)) two.1;
      repeated = map_none (λ (v : Visit). record { line = v.line; rule = 3 }) (filter (breaks_repeated p) (all_visits p)) three.1;
      declared_indices = map_none (λ (i : IndexDecl). record { line = i.line; rule = 4 }) (filter (index_breaks_kind p) p.indices) both.0;
      declared_arrays = map_none (λ (a : ArrayDecl). record { line = a.line; rule = 4 }) (filter (array_breaks_kind p) p.arrays) both.1;
      kind = map_none (λ (v : Visit). record { line = v.line; rule = 4 }) (filter (breaks_kind p) (all_visits p)) kinds.1;
      indices = map_none (λ (v : Visit). record { line = v.line; rule = 5 }) (filter (breaks_indices p) (all_visits p)) five.1;
      writable = map_none (λ (v : Visit). record { line = v.line; rule = 6 }) (filter (breaks_writable p) (all_visits p)) six.1;
    }
