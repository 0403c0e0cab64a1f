-- What the rules give of each statement where it stands, and of the indices that are bound there.
use Rattle.std.proofs.Common.{◌≡◌, ℕ, zero, suc, List, [], ◌∷◌, ◌++◌, filter, flat_map, Bool, true, false, ◌&&◌, nat_le, slice_index_or, IsTrue}
use Rattle.std.specs.List.{list_all}
use Rattle.sial_syntax.specs.Limits.{most_nesting, most_pardo}
use Rattle.sial_syntax.specs.Names.{is_name}
use Rattle.sial_syntax.specs.Proper.{IsProper, has_index, has_length, proper_body, proper_form, proper_cond, proper_depth, proper_procedure, body_nesting}
use Rattle.sial_syntax.specs.Resolved.{statement_within}
use Rattle.sial_syntax.specs.Shapes.{breaks_unbound, breaks_rebound, breaks_kind, breaks_indices, breaks_writable}
use Rattle.sial_syntax.specs.Tree.{Procedure, Block, End, Then, Plain, Do, DoIn, Pardo, If, IfElse, Call, Assign, Get, Request, Put, Prepare, Create, Delete, Allocate, Deallocate, Collective, SipBarrier, ServerBarrier, Print, PrintScalar, Integrals}
use Rattle.sial_syntax.specs.Visits.{Visit, visits, inner_visits, body_visits, all_visits}
use Rattle.sial_meaning.specs.Setting.{Setting, procedure_body}
use Rattle.sial_meaning.specs.Sound.{IsSound}
use Rattle.sial_meaning.proofs.StepsReachTheFold.Rules.{both, kept_none}
use Rattle.sial_meaning.proofs.Granted.Shapes.{shapes-hold}

-- a statement, where it stands, whose parts are there, that breaks no rule of shape, and whose indices lie within the declared ones
pub record Good (g : Setting) (v : Visit) : Type 0 where
  pub proper : IsTrue (proper_form g.program v.form)
  pub unbound : breaks_unbound g.program v ≡ false
  pub rebound : breaks_rebound g.program v ≡ false
  pub kind : breaks_kind g.program v ≡ false
  pub indices : breaks_indices g.program v ≡ false
  pub writable : breaks_writable g.program v ≡ false
  pub within : statement_within g.program g.spaces v.form ≡ true

-- all of them
abbrev pub AllGood : Setting → List Visit → Type 0
AllGood g [] = Unit {0}
AllGood g (v ∷ vs) = Good g v × AllGood g vs

-- some and others
pub good-split : (g : Setting) (xs ys : List Visit) → AllGood g (xs ++ ys) → AllGood g xs × AllGood g ys
good-split g [] ys all = (tt, all)
good-split g (x ∷ xs) ys all = let rest = good-split g xs ys all.1 in ((all.0, rest.0), rest.1)

good-join : (g : Setting) (xs ys : List Visit) → AllGood g xs → AllGood g ys → AllGood g (xs ++ ys)
good-join g [] ys first second = second
good-join g (x ∷ xs) ys first second = (first.0, good-join g xs ys first.1 second)

-- what is left out by the rules, of some statements
record Clear (g : Setting) (all : List Visit) : Type 0 where
  unbound : filter (breaks_unbound g.program) all ≡ []
  rebound : filter (breaks_rebound g.program) all ≡ []
  kind : filter (breaks_kind g.program) all ≡ []
  indices : filter (breaks_indices g.program) all ≡ []
  writable : filter (breaks_writable g.program) all ≡ []
  within : IsTrue (list_all (λ (v : Visit). statement_within g.program g.spaces v.form) all)

-- the first and the others
clear-rest : (g : Setting) (v : Visit) (vs : List Visit) → Clear g (v ∷ vs) → Clear g vs
clear-rest g v vs c = record {
  unbound = (kept_none (breaks_unbound g.program v) v (filter (breaks_unbound g.program) vs) c.unbound).1;
  rebound = (kept_none (breaks_rebound g.program v) v (filter (breaks_rebound g.program) vs) c.rebound).1;
  kind = (kept_none (breaks_kind g.program v) v (filter (breaks_kind g.program) vs) c.kind).1;
  indices = (kept_none (breaks_indices g.program v) v (filter (breaks_indices g.program) vs) c.indices).1;
  writable = (kept_none (breaks_writable g.program v) v (filter (breaks_writable g.program) vs) c.writable).1;
  within = (both (statement_within g.program g.spaces v.form) (list_all (λ (v : Visit). statement_within g.program g.spaces v.form) vs) c.within).1;
}

clear-first : (g : Setting) (v : Visit) (vs : List Visit) → IsTrue (proper_form g.program v.form) → Clear g (v ∷ vs) → Good g v
clear-first g v vs proper c = record {
  proper = proper;
  unbound = (kept_none (breaks_unbound g.program v) v (filter (breaks_unbound g.program) vs) c.unbound).0;
  rebound = (kept_none (breaks_rebound g.program v) v (filter (breaks_rebound g.program) vs) c.rebound).0;
  kind = (kept_none (breaks_kind g.program v) v (filter (breaks_kind g.program) vs) c.kind).0;
  indices = (kept_none (breaks_indices g.program v) v (filter (breaks_indices g.program) vs) c.indices).0;
  writable = (kept_none (breaks_writable g.program v) v (filter (breaks_writable g.program) vs) c.writable).0;
  within = (both (statement_within g.program g.spaces v.form) (list_all (λ (v : Visit). statement_within g.program g.spaces v.form) vs) c.within).0;
}

-- the parts of all these are there
abbrev AllProper : Setting → List Visit → Type 0
AllProper g [] = Unit {0}
AllProper g (v ∷ vs) = IsTrue (proper_form g.program v.form) × AllProper g vs

proper-join : (g : Setting) (xs ys : List Visit) → AllProper g xs → AllProper g ys → AllProper g (xs ++ ys)
proper-join g [] ys first second = second
proper-join g (x ∷ xs) ys first second = (first.0, proper-join g xs ys first.1 second)

mutual
  -- the parts of a body's statements, and of those inside them
  proper-visits : (g : Setting) (bound : List ℕ) (within : Bool) (body : Block) → IsTrue (proper_body g.program body) → AllProper g (visits bound within body)
  proper-visits g bound within End e = tt
  proper-visits g bound within (Then line form rest) e =
      let parts = both (proper_form g.program form) (proper_body g.program rest) e in
      (parts.0, proper-join g (inner_visits bound within form) (visits bound within rest) (proper-inner g bound within form parts.0) (proper-visits g bound within rest parts.1))

  proper-inner : (g : Setting) (bound : List ℕ) (within : Bool) (form : Plain) → IsTrue (proper_form g.program form) → AllProper g (inner_visits bound within form)
  proper-inner g bound within (Do index body) e = proper-visits g (index ∷ bound) within body (both (has_index g.program index) (proper_body g.program body) e).1
  proper-inner g bound within (DoIn sub index body) e =
      let rest = (both (has_index g.program sub) (has_index g.program index && proper_body g.program body) e).1 in
      proper-visits g (sub ∷ bound) within body (both (has_index g.program index) (proper_body g.program body) rest).1
  proper-inner g bound within (Pardo indices wheres body) e =
      let a = (both (has_length most_pardo indices) (list_all (has_index g.program) indices && (list_all (proper_cond g.program) wheres && proper_body g.program body)) e).1 in
      let b = (both (list_all (has_index g.program) indices) (list_all (proper_cond g.program) wheres && proper_body g.program body) a).1 in
      proper-visits g (indices ++ bound) true body (both (list_all (proper_cond g.program) wheres) (proper_body g.program body) b).1
  proper-inner g bound within (If test body) e = proper-visits g bound within body (both (proper_cond g.program test) (proper_body g.program body) e).1
  proper-inner g bound within (IfElse test body other) e =
      let rest = (both (proper_cond g.program test) (proper_body g.program body && proper_body g.program other) e).1 in
      let parts = both (proper_body g.program body) (proper_body g.program other) rest in
      proper-join g (visits bound within body) (visits bound within other) (proper-visits g bound within body parts.0) (proper-visits g bound within other parts.1)
  proper-inner g bound within (Call procedure) e = tt
  proper-inner g bound within (Assign to op right) e = tt
  proper-inner g bound within (Get block) e = tt
  proper-inner g bound within (Request block) e = tt
  proper-inner g bound within (Put block how from) e = tt
  proper-inner g bound within (Prepare block how from) e = tt
  proper-inner g bound within (Create array) e = tt
  proper-inner g bound within (Delete array) e = tt
  proper-inner g bound within (Allocate array at) e = tt
  proper-inner g bound within (Deallocate array at) e = tt
  proper-inner g bound within (Collective into from) e = tt
  proper-inner g bound within SipBarrier e = tt
  proper-inner g bound within ServerBarrier e = tt
  proper-inner g bound within (Print text) e = tt
  proper-inner g bound within (PrintScalar scalar) e = tt
  proper-inner g bound within (Integrals block) e = tt

-- the parts of all procedures' statements
proper-procedures : (g : Setting) (procedures : List Procedure) → IsTrue (list_all (proper_procedure g.program) procedures) → AllProper g (flat_map (λ (q : Procedure). body_visits q.body) procedures)
proper-procedures g [] e = tt
proper-procedures g (q ∷ qs) e =
    let parts = both (proper_procedure g.program q) (list_all (proper_procedure g.program) qs) e in
    let deep = both (is_name q.name) (proper_depth g.program q.body) parts.0 in
    proper-join g (body_visits q.body) (flat_map (λ (q : Procedure). body_visits q.body) qs)
    (proper-visits g [] false q.body (both (proper_body g.program q.body) (nat_le (body_nesting q.body) most_nesting) deep.1).0)
    (proper-procedures g qs parts.1)

proper-all : (g : Setting) → IsProper g.program → AllProper g (all_visits g.program)
proper-all g proper =
    proper-join g (body_visits g.program.body) (flat_map (λ (q : Procedure). body_visits q.body) g.program.procedures)
    (proper-visits g [] false g.program.body (both (proper_body g.program g.program.body) (nat_le (body_nesting g.program.body) most_nesting) proper.body).0)
    (proper-procedures g g.program.procedures proper.procedures)

-- statements that break no rule and whose parts are there
good-by : (g : Setting) (all : List Visit) → AllProper g all → Clear g all → AllGood g all
good-by g [] proper clear = tt
good-by g (v ∷ vs) proper clear = (clear-first g v vs proper.0 clear, good-by g vs proper.1 (clear-rest g v vs clear))

-- all statements of a sound setting are good
pub all-good : (g : Setting) → IsSound g → AllGood g (all_visits g.program)
all-good g sound =
    let rules = shapes-hold g.program sound.setting.granted in
    good-by g (all_visits g.program) (proper-all g sound.setting.proper)
    (record { unbound = rules.unbound; rebound = rules.rebound; kind = rules.kind; indices = rules.indices; writable = rules.writable; within = sound.spaces.1.within })

-- those of the program's body
pub body-good : (g : Setting) → IsSound g → AllGood g (visits [] false g.program.body)
body-good g sound = (good-split g (body_visits g.program.body) (flat_map (λ (q : Procedure). body_visits q.body) g.program.procedures) (all-good g sound)).0

-- what stands for a procedure that isn't there
abbrev no_procedure : Procedure
no_procedure = record { name = []; body = End }

procedures-good : (g : Setting) (procedures : List Procedure) (number : ℕ) → AllGood g (flat_map (λ (q : Procedure). body_visits q.body) procedures) → AllGood g (visits [] false (slice_index_or procedures number no_procedure).body)
procedures-good g [] number all = tt
procedures-good g (q ∷ qs) zero all = (good-split g (body_visits q.body) (flat_map (λ (r : Procedure). body_visits r.body) qs) all).0
procedures-good g (q ∷ qs) (suc n) all = procedures-good g qs n (good-split g (body_visits q.body) (flat_map (λ (r : Procedure). body_visits r.body) qs) all).1

-- those of a procedure
pub procedure-good : (g : Setting) → IsSound g → (procedure : ℕ) → AllGood g (visits [] false (procedure_body g procedure))
procedure-good g sound procedure =
    procedures-good g g.program.procedures procedure (good-split g (body_visits g.program.body) (flat_map (λ (q : Procedure). body_visits q.body) g.program.procedures) (all-good g sound)).1
