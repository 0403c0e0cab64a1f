-- A program that was read has these tables, and no more nests in it than may.
use Rattle.std.proofs.Common.{◌≡◌, ℕ, ◌+◌, ◌≤◌, List, [], ◌∷◌, ◌++◌, true, ◌&&◌, cond, length, map, Some, None, refl, sym, ap, subst, ◌∙◌, arith, append-nil}
use Rattle.std.specs.List.{AllByRecursion, enumerate_from}
use Rattle.std.proofs.lemmas.List.{length-map}
use Rattle.sial_syntax.specs.Limits.{most_nesting}
use Rattle.sial_syntax.specs.Numbering.{sizes}
use Rattle.sial_syntax.specs.Proper.{body_nesting}
use Rattle.sial_syntax.specs.Tree.{Tree, Procedure}
use Rattle.sip_tables.specs.Code.{instruction, body_code, procedures_code, entries_from, entries_of, program_code}
use Rattle.sip_tables.specs.Entries.{procedure_entries}
use Rattle.sip_tables.specs.Flatten.{flatten}
use Rattle.sip_tables.specs.Lists.{Lists}
use Rattle.sip_tables.specs.Texts.{body_prints, scalar_names, names, printed}
use Rattle.sip_tables.specs.declared.instruction.Instruction.{Instruction}
use Rattle.sip_tables.specs.declared.instruction.Operation.TheVariants as op
use Rattle.sip_tables.specs.declared.procedure.ProcedureEntry.{ProcedureEntry}
use Rattle.table_verify.specs.Rest.{Left}
use Rattle.table_verify.specs.Closings.{stop}
use Rattle.table_verify.specs.Names.{each}
use Rattle.table_verify.specs.Statements.{body}
use Rattle.table_verify.specs.Reading.{entries_in, heads, filled, bodies, is_over, read}
use Rattle.table_verify.proofs.Closed.{then_some, kept, both, stop_taken}
use Rattle.table_verify.proofs.BodiesFound.{body_found}
use Rattle.table_verify.proofs.NamesFound.{each_found}
use Rattle.table_verify.proofs.ProgramFound.{IsShallow, prints_of, all_filled, HeadsFound, heads_found}

-- no more nests in a program than may
pub record IsShallowTree (p : Tree) : Type 0 where
  pub body : body_nesting p.body ≤ most_nesting
  pub procedures : AllByRecursion IsShallow p.procedures

-- the statements of a program were taken from the front, where its names are known
record BodiesTaken (entries : List ℕ) (p q : Tree) (old new : Left) : Type 0 where
  same : q ≡ record p { procedures = q.procedures; body = q.body }
  named : map (λ (x : Procedure). x.name) q.procedures ≡ map (λ (x : Procedure). x.name) p.procedures
  code : old.code ≡ body_code entries 0 old.text q.body ++ (instruction 0 op.Stop ∷ (procedures_code entries (sizes q.body + 1) (old.text + length (body_prints q.body)) q.procedures ++ new.code))
  texts : old.texts ≡ body_prints q.body ++ (prints_of q.procedures ++ new.texts)
  starts : entries ≡ entries_of q
  shallow : IsShallowTree q

bodies_found : (entries : List ℕ) (most : ℕ) (p : Tree) (left new : Left) (q : Tree) → left.at ≡ 0 → length entries ≡ length p.procedures → bodies entries most p left ≡ Some (q, new) → BodiesTaken entries p q left new
unfolding bodies
bodies_found entries most p left new q zero_at many e =
    let G = BodiesTaken entries p q left new in
    then_some G (body entries most most_nesting left) _ (q, new) e (λ x e0 r0.
    then_some G (stop x.1) _ (q, new) r0 (λ s e1 r1.
    then_some G (each (filled entries most) [] (enumerate_from 0 p.procedures) s) (λ qs. Some (record p { procedures = qs.0; body = x.0 }, qs.1)) (q, new) r1 (λ qs e2 r2.
    let tree : Tree = record p { procedures = qs.0; body = x.0 } in
    let same : ◌≡◌ {A = Tree × Left} (tree, qs.1) (q, new) = cc in
    let b = body_found entries most most_nesting left x.1 x.0 e0 in
    let z = stop_taken x.1 s e1 in
    let f = all_filled entries most 0 p.procedures qs.0 s qs.1 (omega (arith, many)) (each_found (filled entries most) (enumerate_from 0 p.procedures) s qs.0 qs.1 e2) in
    let a0 = b.0.at in
    let a1 = z.at in
    let place : s.at ≡ sizes x.0 + 1 = omega (arith, zero_at, a0, a1) in
    let number : s.text ≡ left.text + length (body_prints x.0) = z.text ∙ b.0.text in
    subst (λ (w : Tree × Left). BodiesTaken entries p w.0 left w.1) same (record {
      same = refl;
      named = f.named;
      code =
          b.0.code
          ∙ ap (λ (n : ℕ). body_code entries n left.text x.0 ++ x.1.code) zero_at
          ∙ ap (λ (c : List Instruction). body_code entries 0 left.text x.0 ++ c) (z.code ∙ ap (λ (c : List Instruction). instruction 0 op.Stop ∷ c)
          (f.code ∙ ap (λ (n : ℕ). procedures_code entries n s.text qs.0 ++ qs.1.code) place ∙ ap (λ (n : ℕ). procedures_code entries (sizes x.0 + 1) n qs.0 ++ qs.1.code) number));
      texts = b.0.texts ∙ ap (λ (u : List (List ℕ)). body_prints x.0 ++ u) (z.texts ∙ f.texts);
      starts = f.starts ∙ ap (λ (n : ℕ). entries_from n qs.0) place;
      shallow = record { body = b.1; procedures = f.deep };
    }))))

-- ---- whole tables

over : {X : Type 0} (xs : List X) → is_over xs ≡ true → xs ≡ []
over [] e = refl
over (x ∷ xs) e = absurd cc

-- the names of a program of which only the statements changed
same_names : (p q : Tree) → q ≡ record p { procedures = q.procedures; body = q.body } → map (λ (x : Procedure). x.name) q.procedures ≡ map (λ (x : Procedure). x.name) p.procedures → names q ≡ names p
same_names p q same named = ap names same ∙ ap (λ (ns : List (List ℕ)). scalar_names p ++ ns) named

whole : (t : Lists) (p q : Tree) (left new : Left) → HeadsFound t p left → BodiesTaken (entries_in t.procedures) p q left new → new.code ≡ [] → new.texts ≡ [] → flatten q ≡ t
whole t p q left new h b no_code no_texts =
    let ns = same_names p q b.same b.named in
    let ps = q.procedures in
    let entries = entries_in t.procedures in
    let pc = procedures_code (entries_of q) (sizes q.body + 1) (length (names q) + length (body_prints q.body)) ps in
    let number : left.text ≡ length (names q) = h.text ∙ ap (λ (n : List (List ℕ)). length n) (sym ns) in
    let texts : t.texts ≡ names q ++ printed q =
    h.texts ∙ ap (λ (n : List (List ℕ)). n ++ left.texts) (sym ns)
    ∙ ap (λ (u : List (List ℕ)). names q ++ u) (b.texts ∙ ap (λ (u : List (List ℕ)). body_prints q.body ++ (prints_of ps ++ u)) no_texts ∙ ap (λ (u : List (List ℕ)). body_prints q.body ++ u) (append-nil (prints_of ps))) in
    let code : t.code ≡ program_code q (length (names q)) =
    sym h.code ∙ b.code
    ∙ ap (λ (n : ℕ). body_code entries 0 n q.body ++ (instruction 0 op.Stop ∷ (procedures_code entries (sizes q.body + 1) (n + length (body_prints q.body)) ps ++ new.code))) number
    ∙ ap (λ (es : List ℕ). body_code es 0 (length (names q)) q.body ++ (instruction 0 op.Stop ∷ (procedures_code es (sizes q.body + 1) (length (names q) + length (body_prints q.body)) ps ++ new.code))) b.starts
    ∙ ap (λ (c : List Instruction). body_code (entries_of q) 0 (length (names q)) q.body ++ (instruction 0 op.Stop ∷ c)) (ap (λ (c : List Instruction). pc ++ c) no_code ∙ append-nil pc) in
    let indices : t.indices ≡ (flatten q).indices = h.indices ∙ ap (λ (x : Tree). (flatten x).indices) (sym b.same) in
    let arrays : t.arrays ≡ (flatten q).arrays = h.arrays ∙ ap (λ (x : Tree). (flatten x).arrays) (sym b.same) in
    let scalars : t.scalars ≡ (flatten q).scalars = h.scalars ∙ ap (λ (x : Tree). (flatten x).scalars) (sym b.same) in
    let procedures : t.procedures ≡ (flatten q).procedures =
    h.procedures ∙ ap (λ (x : Tree). procedure_entries (length (scalar_names x)) entries) (sym b.same) ∙ ap (λ (es : List ℕ). procedure_entries (length (scalar_names q)) es) b.starts in
    sym (λ i. record { texts = texts i; indices = indices i; arrays = arrays i; scalars = scalars i; procedures = procedures i; code = code i })

-- what is read from tables has these tables
pub tables_found : (t : Lists) (q : Tree) → read t ≡ Some q → (flatten q ≡ t) × IsShallowTree q
unfolding read
tables_found t q e =
    let G = (flatten q ≡ t) × IsShallowTree q in
    then_some G (heads t) _ q e (λ p e0 r0.
    then_some G (bodies (entries_in t.procedures) (length t.code) p.0 p.1) (λ x. cond (is_over x.1.code && is_over x.1.texts) (Some x.0) None) q r0 (λ x e1 r1.
    kept G (is_over x.1.code && is_over x.1.texts) x.0 q r1 (λ holds same.
    let h = heads_found t p.0 p.1 e0 in
    let many : length (entries_in t.procedures) ≡ length p.0.procedures = length-map t.procedures (λ (y : ProcedureEntry). y.entry) ∙ h.many in
    let b = bodies_found (entries_in t.procedures) (length t.code) p.0 p.1 x.1 x.0 h.at many e1 in
    let o = both (is_over x.1.code) (is_over x.1.texts) holds in
    subst (λ (w : Tree). (flatten w ≡ t) × IsShallowTree w) same (whole t p.0 x.0 p.1 x.1 h b (over x.1.code o.0) (over x.1.texts o.1), b.shallow))))
