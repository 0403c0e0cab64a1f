-- A worker that stands for what it holds stands for what differs in index numbers, scalars and flags as it does.
use Rattle.std.proofs.Common.{◌≡◌, ℕ, List, Bool, Option, Some, slice_set, refl, sym, ap, ◌∙◌, subst}
use Rattle.block_pool.specs.Memory.{Memory}
use Rattle.code_places.specs.Head.{Says}
use Rattle.code_places.specs.Standing.{HasAt}
use Rattle.code_places.proofs.HeadLemmas.{head_is}
use Rattle.exec_blocks.specs.Kept.{Kept}
use Rattle.exec_blocks.specs.Standing.{AreIn, BlocksStand}
use Rattle.exec_control.specs.Needs.{MayGo}
use Rattle.exec_control.specs.Position.{Position}
use Rattle.exec_control.specs.Stands.{ControlStands}
use Rattle.exec_control.proofs.GrantedLemmas.{may_go}
use Rattle.exec_control.proofs.StandLemmas.{other_own, same_instruction}
use Rattle.exec_scalars.specs.Numbers.{Numbers, AreNumbers}
use Rattle.sial_meaning.specs.Own.{Own, with_created, with_scalar, with_values}
use Rattle.sial_meaning.specs.Rest.{Rest}
use Rattle.sial_meaning.specs.Setting.{Setting}
use Rattle.sial_meaning.specs.Sound.{IsSound}
use Rattle.sial_meaning.proofs.Granted.Ranges.{InRange}
use Rattle.sip_tables.specs.declared.instruction.Instruction.{Instruction}
use Rattle.exec_core.specs.Parts.{Parts}
use Rattle.exec_core.specs.Runs.{AtWork}
use Rattle.exec_core.specs.Stands.{LocalStands}

-- the blocks are those of whoever holds the same blocks
pub blocks_beside : (g : Setting) (p : Memory) (b : Kept) (own : Own) (values : List ℕ) (scalars : List (Option ℕ)) (created : List Bool) → BlocksStand g p b own
    → BlocksStand g p b (record own { values = values; scalars = scalars; created = created })
blocks_beside g p b own values scalars created st = record {
  rows = record { statics = st.rows.statics; temps = st.rows.temps; locals = st.rows.locals; static_rows = st.rows.static_rows; local_rows = st.rows.local_rows };
  statics = st.statics;
  locals = st.locals;
  temps = st.temps;
  tuples = st.tuples;
  others = st.others;
}

-- a worker stands for work, with other index numbers than it held
pub stands_with : (g : Setting) (p : Memory) (l : Parts) (rest : Rest) (own held : Own) (partials values : List ℕ) → held ≡ with_values values own → ControlStands g l.control rest held
    → AreNumbers l.scalars own partials → AreIn g p l.blocks → BlocksStand g p l.blocks own → l.created ≡ own.created → LocalStands g p l rest held partials
stands_with g p l rest own held partials values is control numbers seated blocks created =
    subst (λ (o : Own). LocalStands g p l rest o partials) (sym is)
    (record {
      control = subst (λ (o : Own). ControlStands g l.control rest o) is control;
      scalars = record { scalars = numbers.scalars; partials_are = numbers.partials_are };
      seated = seated;
      blocks = blocks_beside g p l.blocks own values own.scalars own.created blocks;
      created = created;
    })

-- a worker at work has a control that may go on
pub may_go_on : (g : Setting) (p : Memory) (l : Parts) → IsSound g → AtWork g p l → MayGo g l.control
may_go_on g p l sound at_work = may_go g l.control at_work.rest at_work.own at_work.runs_well.indices sound at_work.stands.control at_work.runs_well.in_range at_work.runs_well.good

-- the first item says what the instruction at the cursor is
pub says_is : (g : Setting) (c : Position) (rest : Rest) (own : Own) (i : Instruction) → ControlStands g c rest own → HasAt g.program c.at i → Says g.program rest i
says_is g c rest own i st has =
    let head = head_is g.program rest st.proper st.follows in
    subst (Says g.program rest) (same_instruction g.program c.at head.0 i (subst (λ (n : ℕ). HasAt g.program n head.0) (sym st.at) head.1) has) head.2

-- a scalar that isn't partial is set
pub scalar_set : (g : Setting) (p : Memory) (l : Parts) (rest : Rest) (own : Own) (partials : List ℕ) (n : Numbers) (scalar number : ℕ) → LocalStands g p l rest own partials
    → n ≡ record l.scalars { scalars = slice_set l.scalars.scalars scalar (Some number) } → LocalStands g p (record l { scalars = n }) rest (with_scalar scalar number own) partials
scalar_set g p l rest own partials n scalar number st is = record {
  control = other_own g l.control rest own (with_scalar scalar number own) st.control refl;
  scalars = record {
    scalars = ap (λ (m : Numbers). m.scalars) is ∙ ap (λ (xs : List (Option ℕ)). slice_set xs scalar (Some number)) st.scalars.scalars;
    partials_are = ap (λ (m : Numbers). m.partials) is ∙ st.scalars.partials_are;
  };
  seated = st.seated;
  blocks = blocks_beside g p l.blocks own own.values (slice_set own.scalars scalar (Some number)) own.created st.blocks;
  created = st.created;
}

-- a flag is changed
pub flag_set : (g : Setting) (p : Memory) (l new : Parts) (rest : Rest) (own : Own) (partials : List ℕ) (array : ℕ) (flag : Bool) → LocalStands g p l rest own partials
    → new ≡ record l { created = slice_set l.created array flag } → LocalStands g p new rest (with_created array flag own) partials
flag_set g p l new rest own partials array flag st is =
    subst (λ (q : Parts). LocalStands g p q rest (with_created array flag own) partials) (sym is)
    (record {
      control = other_own g l.control rest own (with_created array flag own) st.control refl;
      scalars = record { scalars = st.scalars.scalars; partials_are = st.scalars.partials_are };
      seated = st.seated;
      blocks = blocks_beside g p l.blocks own own.values own.scalars (slice_set own.created array flag) st.blocks;
      created = ap (λ (xs : List Bool). slice_set xs array flag) st.created;
    })

-- the same where the cursor was read
pub says_at : (g : Setting) (l : Parts) (rest : Rest) (own : Own) (i : Instruction) (at : ℕ) → ControlStands g l.control rest own → at ≡ l.control.at → HasAt g.program at i → Says g.program rest i
says_at g l rest own i at st is has = says_is g l.control rest own i st (subst (λ (n : ℕ). HasAt g.program n i) is has)

-- the numbers of indices that control has are within their ranges
pub range_now : (g : Setting) (p : Memory) (l : Parts) (w : AtWork g p l) → InRange g w.runs_well.indices l.control.values
range_now g p l w = subst (InRange g w.runs_well.indices) (sym w.stands.control.values) w.runs_well.in_range
