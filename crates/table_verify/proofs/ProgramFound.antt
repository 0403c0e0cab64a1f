-- A program that was read has the tables that it was read from.
use Rattle.std.proofs.Common.{◌≡◌, ℕ, ◌+◌, ◌<◌, ◌≤◌, List, [], ◌∷◌, ◌++◌, Bool, true, false, ◌==◌, cond, length, map, drop, slice_index, Some, None, refl, sym, ap, subst, ◌∙◌, arith, append_assoc}
use Rattle.std.specs.List.{AllByRecursion, flat_map, enumerate_from}
use Rattle.std.proofs.lemmas.Bool.{eqb-true}
use Rattle.std.proofs.lemmas.List.{drop_more, drop_all}
use Rattle.std.proofs.lemmas.List.Concat.{flat_map-cons}
use Rattle.sial_syntax.specs.Limits.{most_nesting}
use Rattle.sial_syntax.specs.Numbering.{procedure_size}
use Rattle.sial_syntax.specs.Proper.{body_nesting}
use Rattle.sial_syntax.specs.declared.array.ArrayDecl.{ArrayDecl}
use Rattle.sial_syntax.specs.Tree.{Tree, Procedure, End}
use Rattle.sip_tables.specs.Code.{instruction, body_code, procedures_code, entries_from}
use Rattle.sip_tables.specs.Entries.{index_entries, array_entries, scalar_entries, procedure_entries}
use Rattle.sip_tables.specs.Lists.{Lists}
use Rattle.sip_tables.specs.Texts.{index_texts, body_prints, index_names, array_names, scalar_names, names}
use Rattle.sip_tables.specs.declared.instruction.Instruction.{Instruction}
use Rattle.sip_tables.specs.declared.instruction.Operation.TheVariants as op
use Rattle.table_verify.specs.Rest.{Left, text, numbered, ◌>>=◌}
use Rattle.table_verify.specs.Closings.{return_from}
use Rattle.table_verify.specs.Names.{each, index, array, named}
use Rattle.table_verify.specs.Statements.{body}
use Rattle.table_verify.specs.Reading.{start, entries_in, heads, procedure_of, filled}
use Rattle.table_verify.proofs.Closed.{then_some, text_taken, return_taken}
use Rattle.table_verify.proofs.BodiesFound.{body_found}
use Rattle.table_verify.proofs.NamesFound.{Chain, each_found, one_name, and_names, indices_found, arrays_found, scalars_found, procedures_found}

-- ---- procedures

-- what nests in a procedure
abbrev pub IsShallow : Procedure → Type 0
IsShallow q = body_nesting q.body ≤ most_nesting

-- what procedures print
abbrev pub prints_of : List Procedure → List (List ℕ)
prints_of qs = flat_map (λ (q : Procedure). body_prints q.body) qs

-- a procedure was taken from the front, with its return
record TakesProcedure (entries : List ℕ) (name : List ℕ) (q : Procedure) (old new : Left) : Type 0 where
  named : q.name ≡ name
  code : old.code ≡ body_code entries old.at old.text q.body ++ (instruction 0 op.Return ∷ new.code)
  at : new.at ≡ old.at + procedure_size q
  texts : old.texts ≡ body_prints q.body ++ new.texts
  text : new.text ≡ old.text + length (body_prints q.body)
  deep : IsShallow q

procedure_found : (entries : List ℕ) (most : ℕ) (name : List ℕ) (left new : Left) (q : Procedure) → procedure_of entries most name left ≡ Some (q, new) → TakesProcedure entries name q left new
unfolding procedure_of
procedure_found entries most name left new q e =
    let G = TakesProcedure entries name q left new in
    then_some G (body entries most most_nesting left) (λ x. return_from x.1 >>= λ y. Some (record { name = name; body = x.0 }, y)) (q, new) e (λ x first r.
    then_some G (return_from x.1) (λ y. Some (record { name = name; body = x.0 }, y)) (q, new) r (λ y last k.
    let s = body_found entries most most_nesting left x.1 x.0 first in
    let z = return_taken x.1 y last in
    let a0 = s.0.at in
    let a1 = z.at in
    let p : ◌≡◌ {A = Procedure × Left} (record { name = name; body = x.0 }, y) (q, new) = cc in
    subst (λ (w : Procedure × Left). TakesProcedure entries name w.0 left w.1) p (record {
      named = refl;
      code = s.0.code ∙ ap (λ (c : List Instruction). body_code entries left.at left.text x.0 ++ c) z.code;
      at = omega (arith, a0, a1);
      texts = s.0.texts ∙ ap (λ (u : List (List ℕ)). body_prints x.0 ++ u) z.texts;
      text = z.text ∙ s.0.text;
      deep = s.1;
    })))

filled_found : (entries : List ℕ) (most k : ℕ) (p : Procedure) (left new : Left) (q : Procedure) (b : Bool) → (slice_index entries k == left.at) ≡ b → cond b (procedure_of entries most p.name left) None ≡ Some (q, new)
    → (slice_index entries k ≡ left.at) × TakesProcedure entries p.name q left new
filled_found entries most k p left new q false is e = absurd cc
filled_found entries most k p left new q true is e = (eqb-true (slice_index entries k) left.at is, procedure_found entries most p.name left new q e)

-- procedures were taken from the front
pub record TakesProcedures (entries : List ℕ) (k : ℕ) (ps qs : List Procedure) (old new : Left) : Type 0 where
  pub code : old.code ≡ procedures_code entries old.at old.text qs ++ new.code
  pub texts : old.texts ≡ prints_of qs ++ new.texts
  pub starts : drop k entries ≡ entries_from old.at qs
  pub named : map (λ (q : Procedure). q.name) qs ≡ map (λ (q : Procedure). q.name) ps
  pub deep : AllByRecursion IsShallow qs

pub all_filled : (entries : List ℕ) (most k : ℕ) (ps qs : List Procedure) (left new : Left) → length entries ≡ k + length ps → Chain (filled entries most) (enumerate_from k ps) qs left new → TakesProcedures entries k ps qs left new
all_filled entries most k [] [] left new many c =
    subst (λ (l : Left). TakesProcedures entries k [] [] left l) c (record { code = refl; texts = refl; starts = drop_all k entries (omega (arith, many)); named = refl; deep = tt })
all_filled entries most k [] (q ∷ qs) left new many c = absurd c
all_filled entries most k (p ∷ ps) [] left new many c = absurd c
all_filled entries most k (p ∷ ps) (q ∷ qs) left new many c =
    let f = filled_found entries most k p left c.0 q (slice_index entries k == left.at) refl c.1.0 in
    let t = f.1 in
    let s = all_filled entries most (k + 1) ps qs c.0 new (omega (arith, many)) c.1.1 in
    let within : k < length entries = omega (arith, many) in
    let bc = body_code entries left.at left.text q.body in
    let rc = procedures_code entries (left.at + procedure_size q) (left.text + length (body_prints q.body)) qs in
    let pr = λ (x : Procedure). body_prints x.body in
    record {
      code =
          t.code
          ∙ ap (λ (x : List Instruction). bc ++ (instruction 0 op.Return ∷ x))
          (s.code ∙ ap (λ (n : ℕ). procedures_code entries n c.0.text qs ++ new.code) t.at ∙ ap (λ (n : ℕ). procedures_code entries (left.at + procedure_size q) n qs ++ new.code) t.text)
          ∙ sym (append_assoc bc (instruction 0 op.Return ∷ rc) new.code);
      texts = t.texts ∙ ap (λ (u : List (List ℕ)). body_prints q.body ++ u) s.texts ∙ sym (append_assoc (body_prints q.body) (prints_of qs) new.texts) ∙ ap (λ (u : List (List ℕ)). u ++ new.texts) (sym (flat_map-cons pr q qs));
      starts = drop_more entries k 0 within ∙ ap (λ (n : ℕ). n ∷ drop (k + 1) entries) f.0 ∙ ap (λ (xs : List ℕ). left.at ∷ xs) (s.starts ∙ ap (λ (n : ℕ). entries_from n qs) t.at);
      named = ap (λ (n : List ℕ). n ∷ map (λ (x : Procedure). x.name) qs) t.named ∙ ap (λ (ns : List (List ℕ)). p.name ∷ ns) s.named;
      deep = (t.deep, s.deep);
    }

-- ---- the name and what is declared

pub record HeadsFound (t : Lists) (p : Tree) (new : Left) : Type 0 where
  pub code : new.code ≡ t.code
  pub at : new.at ≡ 0
  pub texts : t.texts ≡ names p ++ new.texts
  pub text : new.text ≡ length (names p)
  pub indices : t.indices ≡ index_entries 1 p.indices
  pub arrays : t.arrays ≡ array_entries (length (index_names p)) p.arrays
  pub scalars : t.scalars ≡ scalar_entries (length (array_names p)) p.scalars
  pub procedures : t.procedures ≡ procedure_entries (length (scalar_names p)) (entries_in t.procedures)
  pub many : length t.procedures ≡ length p.procedures

pub heads_found : (t : Lists) (p : Tree) (new : Left) → heads t ≡ Some (p, new) → HeadsFound t p new
unfolding heads
heads_found t p new e =
    let G = HeadsFound t p new in
    then_some G (text (start t)) _ (p, new) e (λ name e0 r0.
    then_some G (each index [] t.indices name.1) _ (p, new) r0 (λ is e1 r1.
    then_some G (each array [] t.arrays is.1) _ (p, new) r1 (λ ars e2 r2.
    then_some G (each numbered [] t.scalars ars.1) _ (p, new) r2 (λ scs e3 r3.
    then_some G (each named [] t.procedures scs.1) (λ qs. Some (record { name = name.0; indices = is.0; arrays = ars.0; scalars = scs.0; procedures = qs.0; body = End }, qs.1)) (p, new) r3 (λ qs e4 r4.
    let tree : Tree = record { name = name.0; indices = is.0; arrays = ars.0; scalars = scs.0; procedures = qs.0; body = End } in
    let same : ◌≡◌ {A = Tree × Left} (tree, qs.1) (p, new) = cc in
    let n0 = one_name name.0 (start t) name.1 (text_taken (start t) name.0 name.1 e0) in
    let f1 = indices_found t.indices is.0 name.1 is.1 (each_found index t.indices name.1 is.0 is.1 e1) in
    let n1 = and_names (name.0 ∷ []) (flat_map index_texts is.0) (start t) name.1 is.1 n0 f1.1 in
    let f2 = arrays_found t.arrays ars.0 is.1 ars.1 (each_found array t.arrays is.1 ars.0 ars.1 e2) in
    let n2 = and_names (index_names tree) (map (λ (a : ArrayDecl). a.name) ars.0) (start t) is.1 ars.1 n1 f2.1 in
    let f3 = scalars_found t.scalars scs.0 ars.1 scs.1 (each_found numbered t.scalars ars.1 scs.0 scs.1 e3) in
    let n3 = and_names (array_names tree) scs.0 (start t) ars.1 scs.1 n2 f3.1 in
    let f4 = procedures_found t.procedures qs.0 scs.1 qs.1 (each_found named t.procedures scs.1 qs.0 qs.1 e4) in
    let n4 = and_names (scalar_names tree) (map (λ (q : Procedure). q.name) qs.0) (start t) scs.1 qs.1 n3 f4.0.1 in
    let t0 : name.1.text ≡ 1 = let x = n0.text in omega (arith, x) in
    let t1 : is.1.text ≡ length (index_names tree) = let x = n1.text in omega (arith, x) in
    let t2 : ars.1.text ≡ length (array_names tree) = let x = n2.text in omega (arith, x) in
    let t3 : scs.1.text ≡ length (scalar_names tree) = let x = n3.text in omega (arith, x) in
    let t4 : qs.1.text ≡ length (names tree) = let x = n4.text in omega (arith, x) in
    subst (λ (w : Tree × Left). HeadsFound t w.0 w.1) same (record {
      code = sym n4.code;
      at = n4.at;
      texts = n4.texts;
      text = t4;
      indices = f1.0 ∙ ap (λ (n : ℕ). index_entries n is.0) t0;
      arrays = f2.0 ∙ ap (λ (n : ℕ). array_entries n ars.0) t1;
      scalars = f3.0 ∙ ap (λ (n : ℕ). scalar_entries n scs.0) t2;
      procedures = f4.0.0 ∙ ap (λ (n : ℕ). procedure_entries n (entries_in t.procedures)) t3;
      many = f4.1;
    }))))))
