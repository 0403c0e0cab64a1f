-- Where statements stand in a granted program: those within pardos are calm, and the procedures that they call too.
use Rattle.std.proofs.Common.{◌≡◌, ℕ, zero, suc, ◌+◌, ◌<◌, List, [], ◌∷◌, ◌++◌, flat_map, Bool, true, false, ◌||◌, length, slice_index_or, nat_lt, refl, sym, ap, ◌∙◌, subst, arith, ⊎_elim, IsTrue}
use Rattle.std.specs.List.{list_any}
use Rattle.std.proofs.lemmas.Bool.{and_parts, or_parts, or_left, or_right, not-false, ltb-true}
use Rattle.sial_syntax.proofs.AmongLemmas.{Among, among_left, among_right, among_either, among_flat, among_get, all_at, none_at}
use Rattle.sial_syntax.proofs.CallLemmas.{no_procedure}
use Rattle.sial_syntax.proofs.DepthLemmas.{shallow, body_form, body_there, procedure_there, form_called, shallow_call}
use Rattle.sial_syntax.proofs.GrantedLemmas.{granted_once, granted_at, written_class, named_side}
use Rattle.sial_syntax.proofs.SideLemmas.{sides_of, outside, placed, main_stands, procedure_stands, call_gives}
use Rattle.sial_syntax.specs.declared.array.ArrayDecl.{ArrayDecl}
use Rattle.sial_syntax.specs.declared.array.ArrayKind.{ArrayKind}
use Rattle.sial_syntax.specs.declared.array.ArrayKind.TheVariants.{Static, Temp, Local, Distributed, Served}
use Rattle.sial_syntax.specs.declared.classes.ScalarClass.TheVariants.{Replicated, Partial}
use Rattle.sial_syntax.specs.declared.classes.Side.TheVariants.{Unused}
use Rattle.sial_syntax.specs.declared.operand.Target.TheVariants as target
use Rattle.sial_syntax.specs.Agreeing.{has_kind}
use Rattle.sial_syntax.specs.Limits.{most_depth}
use Rattle.sial_syntax.specs.Parts.{blocks_named, scalars_written, slotted_array}
use Rattle.sial_syntax.specs.Proper.{proper_form, proper_right, has_scalar}
use Rattle.sial_syntax.specs.Shapes.{breaks_kind, wrong_loop, wrong_where, wrong_dims, wrong_slots, wrong_array, wrong_form}
use Rattle.sial_syntax.specs.Sides.{Sides, Sided, sides_at, called_by, is_inner, scalar_classes, array_sides}
use Rattle.sial_syntax.specs.Sides as sides
use Rattle.sial_syntax.specs.SideRules.{is_pardo, is_sync, is_print, sets_zero, arrays_written, depth_of, calls_of}
use Rattle.sial_syntax.specs.Spaces.{same_kind}
use Rattle.sial_syntax.specs.Tree.{Tree, Procedure, Block, End, Then, Plain, Do, DoIn, Pardo, If, IfElse, Assign, Allocate, Deallocate, Collective}
use Rattle.sial_syntax.specs.Visits.{Visit, visits, inner_visits, body_visits, all_visits}
use Rattle.sial_meaning.specs.Sound.{IsGrantedSetting}
use Rattle.sial_meaning.specs.Setting.{Setting, array_kind, no_array, procedure_body, scalar_class}
use Rattle.sial_meaning.proofs.PartialsAreSums.OnlyAdded.{accumulates_so, zeroes_so}
use Rattle.sial_meaning.proofs.PardosKeepTheControl.Statement.{Calm}
use Rattle.sial_meaning.proofs.StepsReachTheFold.Rules.{granted_kinds}
use Rattle.sial_meaning.proofs.AcceptedInOtherWords.Pairs.{second-fails}

-- the scalars that a proper statement writes are there
pub written_there : (p : Tree) (form : Plain) → IsTrue (proper_form p form) → (scalar : ℕ) → Among scalar (scalars_written form) → scalar < length p.scalars
written_there p (Assign (target.Scalar s) op right) there scalar m =
    ⊎_elim
    (λ same. subst (λ (x : ℕ). x < length p.scalars) (sym same) (ltb-true s (length p.scalars) (and_parts (has_scalar p s) (proper_right p right) there).0))
    (λ none. absurd none)
    m
written_there p (Assign (target.Block b) op right) there scalar m = absurd m
written_there p (Collective into from) there scalar m =
    ⊎_elim
    (λ same. subst (λ (x : ℕ). x < length p.scalars) (sym same) (ltb-true into (length p.scalars) (and_parts (has_scalar p into) (has_scalar p from) there).0))
    (λ none. absurd none)
    m
written_there p form there scalar m = absurd m

-- a local array is there
local_there : (arrays : List ArrayDecl) (array : ℕ) → (slice_index_or arrays array no_array).kind ≡ Local → array < length arrays
local_there [] array e = absurd cc
local_there (x ∷ xs) zero e = omega arith
local_there (x ∷ xs) (suc n) e = let r = local_there xs n e in omega (arith, r)

-- a kind that is the local arrays'
kind_local : (kind : ArrayKind) → same_kind kind Local ≡ true → kind ≡ Local
kind_local Static e = absurd cc
kind_local Temp e = absurd cc
kind_local Local e = refl
kind_local Distributed e = absurd cc
kind_local Served e = absurd cc

-- the array whose slots a statement names is local
slots_local : (g : Setting) (form : Plain) → wrong_array g.program form ≡ false → (array : ℕ) → Among array (slotted_array form) → array_kind g array ≡ Local
slots_local g (Allocate a at) e array m =
    ⊎_elim (λ same. ap (array_kind g) same ∙ kind_local (array_kind g a) (not-false (has_kind g.program Local a) e)) (λ none. absurd none) m
slots_local g (Deallocate a at) e array m =
    ⊎_elim (λ same. ap (array_kind g) same ∙ kind_local (array_kind g a) (not-false (has_kind g.program Local a) e)) (λ none. absurd none) m
slots_local g form e array m = absurd m

-- no array of a granted statement is of a kind that its statement doesn't want
no_wrong_array : (p : Tree) (v : Visit) → breaks_kind p v ≡ false → wrong_array p v.form ≡ false
no_wrong_array p v e =
    let blocks = or_parts (wrong_loop p v.form || wrong_where v.form) ((list_any (wrong_dims p) (blocks_named v.form) || wrong_slots p v.form) || (wrong_array p v.form || wrong_form v.form)) e in
    let forms = or_parts (list_any (wrong_dims p) (blocks_named v.form) || wrong_slots p v.form) (wrong_array p v.form || wrong_form v.form) blocks.1 in
    (or_parts (wrong_array p v.form) (wrong_form v.form) forms.1).0

mutual
  -- what is visited within a pardo stands within
  pub visits_within : (bound : List ℕ) (body : Block) (v : Visit) → Among v (visits bound true body) → v.within ≡ true
  visits_within bound End v m = absurd m
  visits_within bound (Then line form rest) v m =
      ⊎_elim
      (λ (same : v ≡ record { line = line; form = form; bound = bound; within = true }). ap (λ (x : Visit). x.within) same)
      (λ (n : Among v (inner_visits bound true form ++ visits bound true rest)).
      ⊎_elim (λ k. inner_within bound form v k) (λ k. visits_within bound rest v k) (among_either v (inner_visits bound true form) (visits bound true rest) n))
      m

  -- so does what is visited inside a statement there
  inner_within : (bound : List ℕ) (form : Plain) (v : Visit) → Among v (inner_visits bound true form) → v.within ≡ true
  inner_within bound (Do index body) v m = visits_within (index ∷ bound) body v m
  inner_within bound (DoIn sub index body) v m = visits_within (sub ∷ bound) body v m
  inner_within bound (Pardo indices wheres body) v m = visits_within (indices ++ bound) body v m
  inner_within bound (If test body) v m = visits_within bound body v m
  inner_within bound (IfElse test body other) v m =
      ⊎_elim (λ n. visits_within bound body v n) (λ n. visits_within bound other v n) (among_either v (visits bound true body) (visits bound true other) m)
  inner_within bound form v m = absurd m

-- a statement within a body of such sides stands on a side
within_inner : (within : Bool) (s : Sides) → within ≡ true → s.outer ≡ true → (sides_at s within).inner ≡ true
within_inner true s e out = or_left s.outer s.inner out
within_inner false s e out = absurd cc

-- a statement outside pardos of a body that stands outside, too
without_outer : (within : Bool) (s : Sides) → within ≡ false → s.outer ≡ true → (sides_at s within).outer ≡ true
without_outer true s e out = absurd cc
without_outer false s e out = out

-- each statement of a body that stands within does
inner_inner : (within : Bool) (s : Sides) → s.inner ≡ true → (sides_at s within).inner ≡ true
inner_inner true s e = or_right s.outer s.inner e
inner_inner false s e = e

module _ (g : Setting) (set : IsGrantedSetting g) where
  -- a statement that stands within a pardo is calm
  calm_at : (s : Sides) (v : Visit) → Among (placed s v) (sides.all_sided g.program) → Among v (all_visits g.program) → IsTrue (proper_form g.program v.form) → (sides_at s v.within).inner ≡ true → Calm g v.form
  calm_at s v m all there within =
      let grants = granted_at g.program set.granted (placed s v) m in
      record {
        pardo = second-fails (is_inner (placed s v)) (is_pardo v.form) within grants.pardo;
        sync = second-fails (is_inner (placed s v)) (is_sync v.form) within grants.sync;
        print = second-fails (is_inner (placed s v)) (is_print v.form) within grants.print;
        static = second-fails (is_inner (placed s v)) (list_any (has_kind g.program Static) (arrays_written v.form)) within grants.static;
        scalars = λ scalar written same.
            written_class
            g.program
            (placed s v)
            scalar
            m
            within
            written
            (written_there g.program v.form there scalar written)
            (sym (ap (λ cs. slice_index_or cs scalar Replicated) set.scalars) ∙ same);
        locals = λ array named local.
            ap (λ ss. slice_index_or ss array Unused) set.sides
            ∙ named_side g.program (placed s v) array m within named (local_there g.program.arrays array local) (ap (λ k. same_kind k Local) local);
        slots = slots_local g v.form (no_wrong_array g.program v (granted_kinds g.program set.granted v all));
        there = there;
        partials = λ scalar written same.
            accumulates_so
            g.program
            (placed s v)
            scalar
            m
            within
            written
            (written_there g.program v.form there scalar written)
            (sym (ap (λ cs. slice_index_or cs scalar Replicated) set.scalars) ∙ same);
      }

  -- a statement of a procedure is among all
  of_procedure : (q : ℕ) (v : Visit) → q < length g.program.procedures → Among v (body_visits (procedure_body g q)) → Among v (all_visits g.program)
  of_procedure q v there m =
      among_right
      v
      (body_visits g.program.body)
      (flat_map (λ (r : Procedure). body_visits r.body) g.program.procedures)
      (among_flat
      (λ (r : Procedure). body_visits r.body)
      (slice_index_or g.program.procedures q no_procedure)
      v
      g.program.procedures
      (among_get g.program.procedures q no_procedure there)
      m)

  -- a procedure that is called within a pardo
  abbrev pub CalledWithin : ℕ → Type 0
  CalledWithin q = (q < length g.program.procedures) × ((sides_of g.program q).inner ≡ true)

  -- a procedure that is called outside of pardos
  abbrev pub CalledOutside : ℕ → Type 0
  CalledOutside q = (q < length g.program.procedures) × ((sides_of g.program q).outer ≡ true)

  -- a statement that stands within a pardo calls procedures within
  calls_within : (s : Sides) (v : Visit) → Among (placed s v) (sides.all_sided g.program) → IsTrue (proper_form g.program v.form) → (sides_at s v.within).inner ≡ true → (q : ℕ) → Among q (called_by v.form) → CalledWithin q
  calls_within s v m there within q c = (
    form_called g.program v.form there q c,
    call_gives g.program set.proper (granted_once g.program set.granted) true (placed s v) q m c within,
  )

  -- the statements of a procedure that is called within a pardo are calm, and call procedures within
  pub within_calm : (q : ℕ) → CalledWithin q → (v : Visit) → Among v (body_visits (procedure_body g q)) → Calm g v.form × ((r : ℕ) → Among r (called_by v.form) → CalledWithin r)
  within_calm q called v m =
      let there = body_form g.program [] false (procedure_body g q) (procedure_there g.program g.program.procedures q set.proper.procedures) v m in
      let stands = procedure_stands g.program q v called.0 m in
      let within = inner_inner v.within (sides_of g.program q) called.1 in
      (calm_at (sides_of g.program q) v stands (of_procedure q v called.0 m) there within, calls_within (sides_of g.program q) v stands there within)

  -- a statement of a body that stands outside of pardos, where calls may go so deep
  pub record Outer (d : ℕ) (v : Visit) : Type 0 where
    pub calm : v.within ≡ true → Calm g v.form
    pub inner : v.within ≡ true → (q : ℕ) → Among q (called_by v.form) → CalledWithin q
    pub outer : v.within ≡ false → (q : ℕ) → Among q (called_by v.form) → CalledOutside q
    pub shallow : (q : ℕ) → Among q (called_by v.form) → shallow g.program d q ≡ true
    pub zero : v.within ≡ false → (scalar : ℕ) → Among scalar (scalars_written v.form) → scalar_class g scalar ≡ Partial → sets_zero v.form ≡ true

  -- a statement of a body of such sides
  outer_at : (d : ℕ) (s : Sides) (v : Visit) → s.outer ≡ true → Among (placed s v) (sides.all_sided g.program) → Among v (all_visits g.program) → IsTrue (proper_form g.program v.form) → ((q : ℕ) → Among q (called_by v.form) → shallow g.program d q ≡ true) → Outer d v
  outer_at d s v out stands all there flat = record {
    calm = λ within. calm_at s v stands all there (within_inner v.within s within out);
    inner = λ within. calls_within s v stands there (within_inner v.within s within out);
    outer = λ without q c. (
      form_called g.program v.form there q c,
      call_gives g.program set.proper (granted_once g.program set.granted) false (placed s v) q stands c (without_outer v.within s without out),
    );
    shallow = flat;
    zero = λ without scalar written same.
        zeroes_so
        g.program
        (placed s v)
        scalar
        (granted_at g.program set.granted (placed s v) stands).scalar
        (without_outer v.within s without out)
        written
        (sym (ap (λ cs. slice_index_or cs scalar Replicated) set.scalars) ∙ same);
  }

  -- the program's own statements
  pub main_outer : (v : Visit) → Among v (body_visits g.program.body) → Outer most_depth v
  main_outer v m =
      let there = body_form g.program [] false g.program.body (body_there g.program set.proper) v m in
      let stands = main_stands g.program v m in
      outer_at
      most_depth
      outside
      v
      refl
      stands
      (among_left v (body_visits g.program.body) (flat_map (λ (r : Procedure). body_visits r.body) g.program.procedures) m)
      there
      (λ q c.
      shallow_call
      g.program
      set.proper
      (granted_once g.program set.granted)
      q
      (form_called g.program v.form there q c)
      (none_at
      (λ r. nat_lt most_depth (depth_of g.program (length g.program.procedures + 1) r))
      q
      (called_by v.form)
      (granted_at g.program set.granted (placed outside v) stands).deep
      c))

  -- the statements of a procedure that is called outside of pardos, where calls from it may go one less deep
  pub procedure_outer : (d q : ℕ) → CalledOutside q → shallow g.program (suc d) q ≡ true → (v : Visit) → Among v (body_visits (procedure_body g q)) → Outer d v
  procedure_outer d q called flat v m =
      let there = body_form g.program [] false (procedure_body g q) (procedure_there g.program g.program.procedures q set.proper.procedures) v m in
      outer_at
      d
      (sides_of g.program q)
      v
      called.1
      (procedure_stands g.program q v called.0 m)
      (of_procedure q v called.0 m)
      there
      (λ r c.
      all_at
      (shallow g.program d)
      r
      (calls_of g.program q)
      flat
      (among_flat (λ (w : Visit). called_by w.form) v r (body_visits (procedure_body g q)) m c))
