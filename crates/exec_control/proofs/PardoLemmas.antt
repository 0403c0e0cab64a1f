-- A pardo in progress: its head, its indices, and where taking a tuple up and leaving lead control.
use Rattle.std.proofs.Common.{◌≡◌, ℕ, zero, suc, ◌+◌, ◌^◌, ◌<◌, ◌≤◌, List, [], ◌∷◌, map, length, set, Bool, true, false, ◌&&◌, nat_lt, nat_le, Option, Some, None, refl, sym, ap, ◌∙◌, subst, arith}
use Rattle.std.proofs.lemmas.Bool.Decides.{nat_tests}
use Rattle.std.proofs.lemmas.List.{length-set}
use Rattle.std.specs.List.{list_all, All}
use Rattle.sial_syntax.specs.Boxes.{volume, tuple_at}
use Rattle.sial_syntax.specs.Limits.{most_pardo}
use Rattle.sial_syntax.specs.Numbering.{sizes}
use Rattle.sial_syntax.specs.Proper.{has_index, has_length, proper_body, proper_cond}
use Rattle.sial_syntax.specs.Spaces.{Spaces, box_of, numbers_at}
use Rattle.sial_syntax.specs.Tree.{Tree}
use Rattle.sial_meaning.specs.Control.{Goes, control, begun, taken, went_within}
use Rattle.sial_meaning.specs.Meaning.{all_met, taken_up, left}
use Rattle.sial_meaning.specs.Own.{Own, bound, all_bound, with_values, unset}
use Rattle.sial_meaning.specs.Rest.{PardoAt, Rest, Within, place, push}
use Rattle.sial_meaning.specs.Setting.{Setting}
use Rattle.sial_meaning.proofs.StepsReachTheFold.Rules.{both}
use Rattle.sip_tables.specs.Code.{instruction}
use Rattle.sip_tables.specs.declared.instruction.Instruction.{Instruction}
use Rattle.sip_tables.specs.declared.instruction.Operation.{Operation}
use Rattle.sip_tables.specs.declared.instruction.Operation.TheVariants as op
use Rattle.sip_tables.specs.Flatten.{flatten}
use Rattle.code_places.specs.Follows.{PardoStands, return_places, saved_values}
use Rattle.code_places.specs.Standing.{HasAt}
use Rattle.code_places.proofs.HeadLemmas.{pardo_end}
use Rattle.code_places.proofs.Pushing.{place_push, returns_push, values_push}
use Rattle.exec_control.specs.Depth.{lasts_of}
use Rattle.exec_control.specs.Moves.{all_set}
use Rattle.exec_control.specs.Position.{Position}
use Rattle.exec_control.specs.Stands.{ControlStands, IsBegun, IsLeft, IsTakenUp}
use Rattle.exec_control.proofs.NestLemmas.{lasts_push}
use Rattle.exec_control.proofs.StandLemmas.{Shows, stands_by, same_instruction, has_in_code, at_in_code, next_short}

-- the end of a pardo is within the code
pub end_in_code : (p : Tree) (pardo : PardoAt) (at : ℕ) → PardoStands p pardo → at ≡ pardo.at → at < length (flatten p).code
end_in_code p pardo at s is =
    let below = has_in_code p pardo.at (instruction s.line (op.EndPardo pardo.head)) (pardo_end p pardo s) in
    omega (arith, below, is)

-- it says where the head is
pub end_says : (p : Tree) (pardo : PardoAt) (at : ℕ) (i : Instruction) → PardoStands p pardo → at ≡ pardo.at → HasAt p at i → i.operation ≡ op.EndPardo pardo.head
end_says p pardo at i s is has =
    ap (λ (j : Instruction). j.operation) (same_instruction p pardo.at i (instruction s.line (op.EndPardo pardo.head)) (subst (λ (n : ℕ). HasAt p n i) is has) (pardo_end p pardo s))

-- ends that are one have one head
pub same_head : (a b : ℕ) → ◌≡◌ {A = Operation} (op.EndPardo a) (op.EndPardo b) → a ≡ b
same_head a b is = cc

less : (a b : ℕ) → nat_lt a b ≡ true → a < b
less a b is = grind (arith, nat_tests)

at_most : (a b : ℕ) → nat_le a b ≡ true → a ≤ b
at_most a b is = grind (arith, nat_tests)

-- a pardo has few indices, and all are declared
pub few_indices : (p : Tree) (pardo : PardoAt) → PardoStands p pardo → length pardo.indices ≤ 12
few_indices p pardo s =
    let long = (both (has_length most_pardo pardo.indices) (list_all (has_index p) pardo.indices && (list_all (proper_cond p) pardo.wheres && proper_body p pardo.body)) s.form_stands.proper).0 in
    at_most (length pardo.indices) 12 (both (nat_le 1 (length pardo.indices)) (nat_le (length pardo.indices) 12) long).1

all_below : (n : ℕ) (xs : List ℕ) → list_all (λ x. nat_lt x n) xs ≡ true → All (λ (x : ℕ). x < n) xs
all_below n [] all k d below = absurd (omega (arith, below))
all_below n (x ∷ xs) all zero d below = less x n (both (nat_lt x n) (list_all (λ y. nat_lt y n) xs) all).0
all_below n (x ∷ xs) all (suc k) d below = all_below n xs (both (nat_lt x n) (list_all (λ y. nat_lt y n) xs) all).1 k d (omega (arith, below))

pub indices_declared : (p : Tree) (pardo : PardoAt) (values : List ℕ) → PardoStands p pardo → length values ≡ length p.indices → All (λ (i : ℕ). i < length values) pardo.indices
indices_declared p pardo values s long =
    let rest = (both (has_length most_pardo pardo.indices) (list_all (has_index p) pardo.indices && (list_all (proper_cond p) pardo.wheres && proper_body p pardo.body)) s.form_stands.proper).1 in
    let all = (both (list_all (has_index p) pardo.indices) (list_all (proper_cond p) pardo.wheres && proper_body p pardo.body) rest).0 in
    subst (λ (n : ℕ). All (λ (i : ℕ). i < n) pardo.indices) (sym long) (all_below (length p.indices) pardo.indices all)

-- several indices bound change index numbers alone
all_bound_is : (is ns : List ℕ) (own : Own) → all_bound is ns own ≡ with_values (all_set is ns own.values) own
all_bound_is [] ns own = refl
all_bound_is (i ∷ is) [] own = refl
all_bound_is (i ∷ is) (n ∷ ns) own = all_bound_is is ns (bound i n own)

all_set_long : (is ns values : List ℕ) → length (all_set is ns values) ≡ length values
all_set_long [] ns values = refl
all_set_long (i ∷ is) [] values = refl
all_set_long (i ∷ is) (n ∷ ns) values = all_set_long is ns (set values i n) ∙ length-set values i n

-- the worker's part as a tuple is taken up, and as the pardo is left
pub taken_is : (g : Setting) (pardo : PardoAt) (number : ℕ) (own : Own) → taken_up g pardo.indices (tuple_at (box_of g.spaces pardo.indices) number) own ≡ with_values (all_set pardo.indices (numbers_at g.spaces pardo.indices number) own.values) (unset g own)
taken_is g pardo number own = all_bound_is pardo.indices (numbers_at g.spaces pardo.indices number) (unset g own)

left_is : (g : Setting) (pardo : PardoAt) (own : Own) → left g pardo.indices own ≡ with_values (all_set pardo.indices (map (λ i. 0) pardo.indices) own.values) (unset g own)
left_is g pardo own = all_bound_is pardo.indices (map (λ i. 0) pardo.indices) (unset g own)

-- control with other index numbers
abbrev pub with_numbers : (at : ℕ) (values : List ℕ) → Position → Position
with_numbers at values c = record { at = at; values = values; returns = c.returns; saved = c.saved; lasts = c.lasts }

-- control stands at the end of a pardo's body whichever tuple is next
renumbered : (g : Setting) (c : Position) (pardo : PardoAt) (last number : ℕ) (more : Rest) (own : Own) → ControlStands g c (Within pardo last more) own → ControlStands g c (Within pardo number more) own
renumbered g c pardo last number more own st = record {
  proper = st.proper;
  short = st.short;
  follows = st.follows;
  nests = st.nests;
  at = st.at;
  values = st.values;
  long = st.long;
  returns = st.returns;
  saved = st.saved;
  lasts = st.lasts;
}

below_is : (a b : ℕ) → a < b → nat_lt a b ≡ true
below_is a b below = grind (arith, nat_tests)

not_below : (a : ℕ) → nat_lt a a ≡ false
not_below a = grind (arith, nat_tests)

module _ (g : Setting) (old : Position) (pardo : PardoAt) (last number : ℕ) (more : Rest) (own : Own) (st : ControlStands g old (Within pardo last more) own) where
  -- what the worker holds as the tuple is taken up
  abbrev held : Own
  held = taken_up g pardo.indices (tuple_at (box_of g.spaces pardo.indices) number) own

  -- the numbers of its indices then
  abbrev numbers : List ℕ
  numbers = all_set pardo.indices (numbers_at g.spaces pardo.indices number) old.values

  -- control stands where the tuple leads it
  taken_stands : (c : Position) (to : Rest) (met : Bool) (at : ℕ) → number < volume (box_of g.spaces pardo.indices) → all_met held pardo.wheres ≡ met → begun met pardo number more held ≡ Goes to held
      → at ≡ place to → return_places more ≡ return_places to → saved_values more ≡ saved_values to → lasts_of more ≡ lasts_of to → c ≡ with_numbers at numbers old
      → ControlStands g c to held × (held ≡ with_values c.values (unset g own))
  taken_stands c to met at below is led at_is returns saved lasts c_is =
      let leads : control g (Within pardo number more) own ≡ Goes to held =
      ap (λ (b : Bool). went_within g b pardo number more own) (below_is number (volume (box_of g.spaces pardo.indices)) below) ∙ (ap (λ (m : Bool). begun m pardo number more held) is ∙ led) in
      let same : all_set pardo.indices (numbers_at g.spaces pardo.indices number) own.values ≡ numbers = ap (λ (v : List ℕ). all_set pardo.indices (numbers_at g.spaces pardo.indices number) v) (sym st.values) in
      let values : held.values ≡ numbers = ap (λ (o : Own). o.values) (taken_is g pardo number own) ∙ same in
      let shows : Shows c to held = subst (λ (p : Position). Shows p to held) (sym c_is) (record { at = at_is; values = sym values; returns = st.returns ∙ returns; saved = st.saved ∙ saved; lasts = st.lasts ∙ lasts }) in
      let long : length c.values ≡ length old.values = ap (λ (p : Position). length p.values) c_is ∙ all_set_long pardo.indices (numbers_at g.spaces pardo.indices number) old.values in (
        stands_by g old c (Within pardo number more) to own held (renumbered g old pardo last number more own st) leads shows long,
        taken_is g pardo number own ∙ ap (λ (v : List ℕ). with_values v (unset g own)) (same ∙ sym (ap (λ (p : Position). p.values) c_is)),
      )

  -- its body is begun
  begun_by : (c : Position) (first : ℕ) (met : Bool) → number < volume (box_of g.spaces pardo.indices) → all_met held pardo.wheres ≡ met → IsBegun pardo met (Some first) → c ≡ with_numbers first numbers old
      → IsTakenUp g c pardo own (begun met pardo number more held) true
  begun_by c first true below is first_is c_is =
      let begin = pardo.head + 1 + length pardo.wheres in
      let back = Within pardo (number + 1) more in
      let to = push begin pardo.body back in
      let at_is : pardo.at ≡ begin + sizes pardo.body = ap (λ (x : PardoAt). x.at) st.follows.0.is_pardo in
      let here : first ≡ begin = some_same first begin first_is in
      let both = taken_stands c to true first below is refl (here ∙ sym (place_push begin pardo.body back at_is)) (sym (returns_push begin pardo.body back)) (sym (values_push begin pardo.body back)) (sym (lasts_push begin pardo.body back)) c_is in
      (sym is, both.0, both.1)
    where
      some_same : (a b : ℕ) → ◌≡◌ {A = Option ℕ} (Some a) (Some b) → a ≡ b
      some_same a b e = cc
  begun_by c first false below is first_is c_is = absurd (no_some first first_is)
    where
      no_some : (a : ℕ) → ◌≡◌ {A = Option ℕ} (Some a) None → ⊥
      no_some a e = absurd cc

  -- or it is left out
  left_out_by : (c : Position) (met : Bool) → number < volume (box_of g.spaces pardo.indices) → all_met held pardo.wheres ≡ met → IsBegun pardo met None → c ≡ with_numbers old.at numbers old
      → IsTakenUp g c pardo own (begun met pardo number more held) false
  left_out_by c true below is first_is c_is = absurd (no_none (pardo.head + 1 + length pardo.wheres) first_is)
    where
      no_none : (a : ℕ) → ◌≡◌ {A = Option ℕ} None (Some a) → ⊥
      no_none a e = absurd cc
  left_out_by c false below is first_is c_is =
      let both = taken_stands c (Within pardo (number + 1) more) false old.at below is refl st.at refl refl refl c_is in
      (sym is, both.0, both.1)

  pub met_arm : (c : Position) (first : ℕ) → number < volume (box_of g.spaces pardo.indices) → IsBegun pardo (all_met held pardo.wheres) (Some first) → c ≡ with_numbers first numbers old → IsTakenUp g c pardo own (taken g pardo number more own) true
  met_arm c first below is c_is = begun_by c first (all_met held pardo.wheres) below refl is c_is

  pub unmet_arm : (c : Position) → number < volume (box_of g.spaces pardo.indices) → IsBegun pardo (all_met held pardo.wheres) None → c ≡ with_numbers old.at numbers old → IsTakenUp g c pardo own (taken g pardo number more own) false
  unmet_arm c below is c_is = left_out_by c (all_met held pardo.wheres) below refl is c_is

-- the indices bound as the code does it
pub bound_is : (g : Setting) (old c : Position) (pardo : PardoAt) (number : ℕ) (spaces : Spaces) (indices : List ℕ) → spaces ≡ g.spaces → indices ≡ pardo.indices
    → c ≡ with_numbers old.at (all_set indices (numbers_at spaces indices number) old.values) old → c ≡ with_numbers old.at (all_set pardo.indices (numbers_at g.spaces pardo.indices number) old.values) old
bound_is g old c pardo number spaces indices spaces_is indices_is is =
    is
    ∙ (ap (λ (s : Spaces). with_numbers old.at (all_set indices (numbers_at s indices number) old.values) old) spaces_is
    ∙ ap (λ (xs : List ℕ). with_numbers old.at (all_set xs (numbers_at g.spaces xs number) old.values) old) indices_is)

-- they are those that the worker then holds
pub held_values : (g : Setting) (old c : Position) (pardo : PardoAt) (last number : ℕ) (more : Rest) (own : Own) → ControlStands g old (Within pardo last more) own
    → c ≡ with_numbers old.at (all_set pardo.indices (numbers_at g.spaces pardo.indices number) old.values) old → (taken_up g pardo.indices (tuple_at (box_of g.spaces pardo.indices) number) own).values ≡ c.values
held_values g old c pardo last number more own st is =
    ap (λ (o : Own). o.values) (taken_is g pardo number own)
    ∙ (ap (λ (v : List ℕ). all_set pardo.indices (numbers_at g.spaces pardo.indices number) v) (sym st.values) ∙ sym (ap (λ (p : Position). p.values) is))

-- the instruction behind the head has a number
pub head_short : (g : Setting) (c : Position) (pardo : PardoAt) (last : ℕ) (more : Rest) (own : Own) → ControlStands g c (Within pardo last more) own → pardo.head + 1 < 2 ^ 32
head_short g c pardo last more own st =
    let at_is : pardo.at ≡ pardo.head + 1 + length pardo.wheres + sizes pardo.body = ap (λ (x : PardoAt). x.at) st.follows.0.is_pardo in
    let below = at_in_code g c (Within pardo last more) own st in
    omega (arith, at_is, below, st.at, st.short)

-- the pardo is left
pub left_arm : (g : Setting) (old c : Position) (pardo : PardoAt) (last : ℕ) (more : Rest) (own : Own) → ControlStands g old (Within pardo last more) own
    → (old.at + 1 < 2 ^ 32 → c ≡ with_numbers (old.at + 1) (all_set pardo.indices (map (λ i. 0) pardo.indices) old.values) old) → IsLeft g c pardo more own
left_arm g old c pardo last more own st is =
    let all = volume (box_of g.spaces pardo.indices) in
    let gone = left g pardo.indices own in
    let zeros : List ℕ = map (λ (i : ℕ). 0) pardo.indices in
    let leads : control g (Within pardo all more) own ≡ Goes more gone = ap (λ (b : Bool). went_within g b pardo all more own) (not_below all) in
    let same : all_set pardo.indices zeros own.values ≡ all_set pardo.indices zeros old.values = ap (λ (v : List ℕ). all_set pardo.indices zeros v) (sym st.values) in
    let c_is = is (next_short g old (Within pardo last more) more own st st.follows.2 st.follows.1) in
    let here : old.at + 1 ≡ place more = ap (λ (n : ℕ). n + 1) st.at ∙ sym st.follows.1 in
    let shows : Shows c more gone = subst (λ (p : Position). Shows p more gone) (sym c_is) (record {
      at = here;
      values = sym (ap (λ (o : Own). o.values) (left_is g pardo own) ∙ same);
      returns = st.returns;
      saved = st.saved;
      lasts = st.lasts;
    }) in
    let long : length c.values ≡ length old.values = ap (λ (p : Position). length p.values) c_is ∙ all_set_long pardo.indices zeros old.values in (
      stands_by g old c (Within pardo all more) more own gone (renumbered g old pardo last all more own st) leads shows long,
      left_is g pardo own ∙ ap (λ (v : List ℕ). with_values v (unset g own)) (same ∙ sym (ap (λ (p : Position). p.values) c_is)),
    )
