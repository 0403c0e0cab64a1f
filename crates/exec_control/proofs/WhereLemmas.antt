-- The `where` lines of a pardo in the code, one by one.
use Rattle.std.proofs.Common.{◌≡◌, ℕ, zero, suc, ◌+◌, ◌-◌, ◌<◌, ◌≤◌, List, [], ◌∷◌, take, length, get_or, Bool, true, false, nat_lt, ◌&&◌, Some, refl, sym, ap, ◌∙◌, subst, arith}
use Rattle.std.proofs.lemmas.Bool.Decides.{nat_tests}
use Rattle.std.proofs.lemmas.List.Folds.{list_all_at, list_all_more}
use Rattle.std.proofs.lemmas.Option.{slice_get-get_or}
use Rattle.std.proofs.Math.Seq.{take-length}
use Rattle.sial_syntax.specs.declared.condition.Cond.{Cond}
use Rattle.sial_syntax.specs.Numbering.{sizes}
use Rattle.sial_syntax.specs.Proper.{IsProper}
use Rattle.sial_syntax.specs.Tree.{Tree}
use Rattle.sial_meaning.specs.Meaning.{all_met, is_met, condition}
use Rattle.sial_meaning.specs.Own.{Own}
use Rattle.sial_meaning.specs.Rest.{PardoAt, Rest, Within, push}
use Rattle.sip_tables.specs.Code.{instruction}
use Rattle.sip_tables.specs.declared.instruction.Instruction.{Instruction}
use Rattle.sip_tables.specs.declared.instruction.Operation.{Operation}
use Rattle.sip_tables.specs.declared.instruction.Operation.TheVariants as op
use Rattle.code_places.specs.Follows.{Follows}
use Rattle.code_places.specs.Items.{ItemOf}
use Rattle.code_places.specs.Standing.{HasAt}
use Rattle.code_places.proofs.Bodies.{body_moved, pardo_body}
use Rattle.code_places.proofs.ItemLemmas.{item_told, wheres_stand}
use Rattle.code_places.proofs.Pushing.{follows_push, place_push}
use Rattle.exec_control.specs.Stands.{IsBegun}
use Rattle.exec_control.proofs.StandLemmas.{same_instruction}

-- the lines up to an instruction, from the first on, were looked at, and held
pub record Looked (first : ℕ) (wheres : List Cond) (own : Own) (at : ℕ) : Type 0 where
  pub low : first ≤ at
  pub high : at ≤ (first + length wheres)
  pub met : all_met own (take (at - first) wheres) ≡ true

-- one of two numbers is less, or it isn't
by_less : {G : Type 0} (a b : ℕ) → (a < b → G) → (b ≤ a → G) → G
by_less {G} a b below past =
    elim (nat_lt a b) as (λ t. nat_lt a b ≡ t → G) [
      | true ↦ λ e. below (grind (arith, nat_tests))
      | false ↦ λ e. past (grind (arith, nat_tests))
    ] refl

-- operations of lines that are one have one condition
same_where : (a b : Cond) → ◌≡◌ {A = Operation} (op.Where a) (op.Where b) → a ≡ b
same_where a b is = cc

-- the body of a pardo behind its lines doesn't begin with one
no_line_in_body : (p : Tree) (pardo : PardoAt) (number : ℕ) (more : Rest) (i : Instruction) (cond : Cond) → IsProper p → Follows p (Within pardo number more)
    → HasAt p (pardo.head + 1 + length pardo.wheres) i → i.operation ≡ op.Where cond → ⊥
no_line_in_body p pardo number more i cond proper follows has is =
    let s = follows.0 in
    let at_is : pardo.at ≡ pardo.head + 1 + length pardo.wheres + sizes pardo.body = ap (λ (x : PardoAt). x.at) s.is_pardo in
    let begin = pardo.head + 1 + length pardo.wheres in
    let stands = body_moved p (pardo.head + (1 + length pardo.wheres)) begin pardo.body (omega arith) (pardo_body p pardo.head s.line pardo.indices pardo.wheres pardo.body s.form_stands) in
    let inner = push begin pardo.body (Within pardo number more) in
    let place_is = place_push begin pardo.body (Within pardo number more) at_is in
    let follow : Follows p inner = follows_push p begin pardo.body (Within pardo number more) stands at_is follows in
    let item : ItemOf p inner i.line i.operation = item_told p inner i proper follow (subst (λ (n : ℕ). HasAt p n i) (sym place_is) has) in
    subst (λ (o : Operation). ItemOf p inner i.line o) is item

-- at a line is a line
line_at : (p : Tree) (pardo : PardoAt) (number : ℕ) (more : Rest) (i : Instruction) (at k : ℕ) (cond : Cond) → Follows p (Within pardo number more) → at ≡ pardo.head + 1 + k → k < length pardo.wheres
    → HasAt p at i → i.operation ≡ op.Where (get_or pardo.wheres k cond)
line_at p pardo number more i at k cond follows is below has =
    let there = wheres_stand p pardo follows.0 k (get_or pardo.wheres k cond) (slice_get-get_or pardo.wheres k cond below) in
    let same = same_instruction p (pardo.head + 1 + k) i (instruction follows.0.line (op.Where (get_or pardo.wheres k cond))) (subst (λ (n : ℕ). HasAt p n i) is has) there in
    ap (λ (j : Instruction). j.operation) same

module _ (p : Tree) (pardo : PardoAt) (number : ℕ) (more : Rest) (first at : ℕ) (own : Own) (i : Instruction)
    (proper : IsProper p) (follows : Follows p (Within pardo number more)) (first_is : first ≡ pardo.head + 1) (looked : Looked first pardo.wheres own at) (has : HasAt p at i) where
  -- how many lines were looked at
  so_many : at ≡ pardo.head + 1 + (at - first)
  so_many = let low = looked.low in omega (arith, low, first_is)

  -- at a line, it is the next one
  is_next : (cond : Cond) → i.operation ≡ op.Where cond → ((at - first) < length pardo.wheres) × (get_or pardo.wheres (at - first) cond ≡ cond)
  is_next cond is =
      by_less (at - first) (length pardo.wheres)
      (λ below. (below, same_where (get_or pardo.wheres (at - first) cond) cond (sym (line_at p pardo number more i at (at - first) cond follows so_many below has) ∙ is)))
      (λ past.
      let behind : at ≡ pardo.head + 1 + length pardo.wheres = let low = looked.low in let high = looked.high in omega (arith, low, high, first_is, past) in
      absurd (no_line_in_body p pardo number more i cond proper follows (subst (λ (n : ℕ). HasAt p n i) behind has) is))

  -- a line that doesn't hold
  pub fails : (cond : Cond) → i.operation ≡ op.Where cond → is_met (condition own cond) ≡ false → all_met own pardo.wheres ≡ false
  fails cond is unmet =
      let next = is_next cond is in
      list_all_at (λ (c : Cond). is_met (condition own c)) pardo.wheres (at - first) cond next.0 (ap (λ (c : Cond). is_met (condition own c)) next.1 ∙ unmet)

  -- a line that holds
  pub goes_on : (cond : Cond) → i.operation ≡ op.Where cond → is_met (condition own cond) ≡ true → Looked first pardo.wheres own (at + 1)
  goes_on cond is holds =
      let next = is_next cond is in
      let low = looked.low in
      let low_too : first ≤ at + 1 = omega (arith, low) in
      let one_more : (at + 1) - first ≡ (at - first) + 1 = omega (arith, low) in
      let here : is_met (condition own (get_or pardo.wheres (at - first) cond)) ≡ true = ap (λ (c : Cond). is_met (condition own c)) next.1 ∙ holds in
      record {
        low = low_too;
        high = (let below = next.0 in omega (arith, low, below));
        met = ap (λ n. all_met own (take n pardo.wheres)) one_more
            ∙ (list_all_more (λ (c : Cond). is_met (condition own c)) pardo.wheres (at - first) cond next.0
            ∙ (ap (λ b. b && is_met (condition own (get_or pardo.wheres (at - first) cond))) looked.met ∙ here));
      }

  -- no line
  pub ends : ((cond : Cond) → i.operation ≡ op.Where cond → ⊥) → at ≡ first + length pardo.wheres
  ends none =
      let low = looked.low in
      let high = looked.high in
      by_less (at - first) (length pardo.wheres)
      (λ below.
      let d : Cond = get_or pardo.wheres (at - first) (some_cond pardo.wheres (at - first) below) in
      absurd (none d (line_at p pardo number more i at (at - first) d follows so_many below has ∙ ap (λ c. op.Where c) (get_or_same pardo.wheres (at - first) d (some_cond pardo.wheres (at - first) below) below))))
      (λ past. omega (arith, low, high, past))
    where
      some_cond : (xs : List Cond) (k : ℕ) → k < length xs → Cond
      some_cond [] k below = absurd (omega (arith, below))
      some_cond (x ∷ xs) k below = x

      get_or_same : (xs : List Cond) (k : ℕ) (d e : Cond) → k < length xs → get_or xs k d ≡ get_or xs k e
      get_or_same [] k d e below = absurd (omega (arith, below))
      get_or_same (x ∷ xs) zero d e below = refl
      get_or_same (x ∷ xs) (suc k) d e below = get_or_same xs k d e (omega (arith, below))

-- all lines were looked at
pub all_looked : (first at : ℕ) (wheres : List Cond) (own : Own) → Looked first wheres own at → at ≡ first + length wheres → all_met own wheres ≡ true
all_looked first at wheres own looked is =
    let all : at - first ≡ length wheres = omega (arith, is) in
    ap (λ ws. all_met own ws) (sym (ap (λ n. take n wheres) all ∙ take-length wheres)) ∙ looked.met

-- before the first line
pub none_looked : (first : ℕ) (wheres : List Cond) (own : Own) → Looked first wheres own first
none_looked first wheres own = record {
  low = omega arith;
  high = omega arith;
  met = (let none : first - first ≡ 0 = omega arith in ap (λ n. all_met own (take n wheres)) none);
}

-- what is answered
pub begins : (pardo : PardoAt) (first at : ℕ) (own : Own) → Looked first pardo.wheres own at → first ≡ pardo.head + 1 → at ≡ first + length pardo.wheres → IsBegun pardo (all_met own pardo.wheres) (Some at)
begins pardo first at own looked first_is is =
    let here : at ≡ pardo.head + 1 + length pardo.wheres = is ∙ ap (λ n. n + length pardo.wheres) first_is in
    subst (λ (b : Bool). IsBegun pardo b (Some at)) (sym (all_looked first at pardo.wheres own looked is)) (ap (λ n. Some n) here)

-- up to the end
pub begins_at_end : (p : Tree) (pardo : PardoAt) (number : ℕ) (more : Rest) (first at end_at : ℕ) (own : Own) → Follows p (Within pardo number more) → first ≡ pardo.head + 1 → end_at ≡ pardo.at → end_at ≤ at
    → Looked first pardo.wheres own at → IsBegun pardo (all_met own pardo.wheres) (Some end_at)
begins_at_end p pardo number more first at end_at own follows first_is end_is past looked =
    let at_is : pardo.at ≡ pardo.head + 1 + length pardo.wheres + sizes pardo.body = ap (λ (x : PardoAt). x.at) follows.0.is_pardo in
    let high = looked.high in
    let here : end_at ≡ at = omega (arith, high, at_is, first_is, end_is, past) in
    subst (λ (n : ℕ). IsBegun pardo (all_met own pardo.wheres) (Some n)) (sym here) (begins pardo first at own looked first_is (omega (arith, high, at_is, first_is, end_is, past)))
