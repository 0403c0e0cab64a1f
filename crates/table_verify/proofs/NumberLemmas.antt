-- The first instruction that names what isn't there.
use Rattle.std.proofs.Common.{◌≡◌, inr, ℕ, zero, suc, ◌+◌, ◌<◌, List, [], ◌∷◌, Bool, true, false, ◌&&◌, ◌==◌, cond, nat_lt, length, take, Option, Some, None, refl, sym, ap, subst, ◌∙◌, arith}
use Rattle.std.specs.Prelude.{option_map, slice_get}
use Rattle.std.proofs.lemmas.Bool.{eqb-true}
use Rattle.std.proofs.lemmas.List.{length-take-le, take-take}
use Rattle.std.proofs.lemmas.Option.{slice_get_within}
use Rattle.sial_syntax.specs.Tree.{Tree}
use Rattle.sip_tables.specs.declared.instruction.Instruction.{Instruction}
use Rattle.sip_tables.specs.declared.instruction.Operation.{Operation}
use Rattle.sip_tables.specs.declared.instruction.Operation.TheVariants as op
use Rattle.sip_tables.specs.Lists.{Lists}
use Rattle.sip_tables.specs.Texts.{names}
use Rattle.table_verify.specs.JumpFaults.{IsFront, IsFirst}
use Rattle.table_verify.specs.NumberFaults.{OutsideIsRight, InstructionIsOther, NumberAt}
use Rattle.table_verify.specs.Numbering.{declared, next_after, first_other}
use Rattle.table_verify.specs.Things.{names_things, is_printed, prints_next, is_right, prints_of, prints_in}
use Rattle.table_verify.proofs.Closed.{both}
use Rattle.table_verify.proofs.OutsideLemmas.{many_procedures, declared_found, found_declared}
use Rattle.table_verify.proofs.FirstOf.{first_more}
use Rattle.table_verify.proofs.JumpFaults.{one_front}
use Rattle.table_verify.proofs.TablesAgain.{headed}
use Rattle.table_verify.proofs.TargetLemmas.{get_take, take_get}

-- ---- one instruction

things_same : (p : Tree) (o : Operation) → names_things (headed p) o ≡ names_things p o
things_same p (op.Call procedure entry) = ap (λ (n : ℕ). nat_lt procedure n) (many_procedures p)
things_same p _ = refl

pub right_same : (p : Tree) (texts : List (List ℕ)) (next : ℕ) (o : Operation) → is_right (headed p) texts next o ≡ is_right p texts next o
right_same p texts next o = ap (λ (b : Bool). b && prints_next texts next o) (things_same p o)

-- the next text behind an operation that is right
pub after_is : (p : Tree) (texts : List (List ℕ)) (next : ℕ) (o : Operation) → is_right p texts next o ≡ true → next_after next o ≡ next + prints_of o
after_is p texts next (op.Print number) e =
    let b = both (names_things p (op.Print number)) (prints_next texts next (op.Print number)) e in
    let c = both (number == next) (is_printed (slice_get texts number)) b.1 in
    ap (λ (n : ℕ). n + 1) (eqb-true number next c.0)
after_is p texts next _ e = omega arith

-- ---- all instructions

-- an instruction of code that isn't right, where this text is the next one
pub record Other (p : Tree) (texts : List (List ℕ)) (next : ℕ) (code : List Instruction) (turn : ℕ) : Type 0 where
  pub one : Instruction
  pub is : slice_get code turn ≡ Some one
  pub wrong : is_right p texts (next + prints_in (take turn code)) one.operation ≡ false

abbrev pub FirstOther : Tree → List (List ℕ) → (next place : ℕ) → List Instruction → Option ℕ → Type 0
FirstOther p texts next place code None = (turn : ℕ) → Other p texts next code turn → ⊥
FirstOther p texts next place code (Some at) = (turn : ℕ) × (at ≡ place + turn) × Other p texts next code turn × ((before : ℕ) → before < turn → Other p texts next code before → ⊥)

of_some : {X : Type 0} {x y : X} → Some x ≡ Some y → x ≡ y
of_some e = cc

none_here : (p : Tree) (texts : List (List ℕ)) (next : ℕ) (i : Instruction) (code : List Instruction) → is_right p texts next i.operation ≡ true → Other p texts next (i ∷ code) zero → ⊥
none_here p texts next i code sure x =
    let same : i ≡ x.one = of_some x.is in
    let near : next + prints_in (take zero (i ∷ code)) ≡ next = omega arith in
    let wrong : is_right p texts next i.operation ≡ false = ap (λ (y : Instruction). is_right p texts next y.operation) same ∙ (ap (λ (n : ℕ). is_right p texts n x.one.operation) (sym near) ∙ x.wrong) in
    let clash : true ≡ false = sym sure ∙ wrong in
    absurd cc

module _ (p : Tree) (texts : List (List ℕ)) (next : ℕ) (i : Instruction) (code : List Instruction) (after : ℕ) (after_so : after ≡ next + prints_of i.operation) where
  behind : (turn : ℕ) → Other p texts next (i ∷ code) (suc turn) → Other p texts after code turn
  behind turn x =
      let near : after + prints_in (take turn code) ≡ next + (prints_of i.operation + prints_in (take turn code)) = omega (arith, after_so) in
      record { one = x.one; is = x.is; wrong = ap (λ (n : ℕ). is_right p texts n x.one.operation) near ∙ x.wrong }

  before_it : (turn : ℕ) → Other p texts after code turn → Other p texts next (i ∷ code) (suc turn)
  before_it turn x =
      let near : next + (prints_of i.operation + prints_in (take turn code)) ≡ after + prints_in (take turn code) = omega (arith, after_so) in
      record { one = x.one; is = x.is; wrong = ap (λ (n : ℕ). is_right p texts n x.one.operation) near ∙ x.wrong }

  none_behind : is_right p texts next i.operation ≡ true → ((turn : ℕ) → Other p texts after code turn → ⊥) → (turn : ℕ) → Other p texts next (i ∷ code) turn → ⊥
  none_behind sure f zero x = none_here p texts next i code sure x
  none_behind sure f (suc turn) x = f turn (behind turn x)

  none_before : (turn : ℕ) → is_right p texts next i.operation ≡ true → ((before : ℕ) → before < turn → Other p texts after code before → ⊥) → (before : ℕ) → before < suc turn → Other p texts next (i ∷ code) before → ⊥
  none_before turn sure f zero l x = none_here p texts next i code sure x
  none_before turn sure f (suc before) l x = f before (omega (arith, l)) (behind before x)

  further : (place : ℕ) (o : Option ℕ) → is_right p texts next i.operation ≡ true → FirstOther p texts after (place + 1) code o → FirstOther p texts next place (i ∷ code) o
  further place None sure f = none_behind sure f
  further place (Some at) sure f =
      let turn = f.0 in
      let is = f.1 in
      (suc turn, omega (arith, is), before_it turn f.2, none_before turn sure f.3)

pub first_other_is : (p : Tree) (texts : List (List ℕ)) (next place : ℕ) (code : List Instruction) (found : Option ℕ) → first_other p texts next place code ≡ found → FirstOther p texts next place code found
first_other_is p texts next place [] None e = λ turn x. nothing turn x
  where
    nothing : (turn : ℕ) → Other p texts next [] turn → ⊥
    nothing turn x = let is = x.is in absurd cc
first_other_is p texts next place [] (Some at) e = absurd cc
first_other_is p texts next place (i ∷ code) found e = by_test (is_right p texts next i.operation) refl found e (λ n o h. first_other_is p texts n (place + 1) code o h)
  where
    by_test : (b : Bool) → is_right p texts next i.operation ≡ b → (o : Option ℕ) → cond b (first_other p texts (next_after next i.operation) (place + 1) code) (Some place) ≡ o
        → ((n : ℕ) (o : Option ℕ) → first_other p texts n (place + 1) code ≡ o → FirstOther p texts n (place + 1) code o) → FirstOther p texts next place (i ∷ code) o
    by_test true is o h again =
        further p texts next i code (next_after next i.operation) (after_is p texts next i.operation is) place o is (again (next_after next i.operation) o h)
    by_test false is None h again = absurd cc
    by_test false is (Some at) h again =
        let same : place ≡ at = of_some h in
        let near : next + prints_in (take zero (i ∷ code)) ≡ next = omega arith in
        (zero, omega (arith, same), record { one = i; is = refl; wrong = ap (λ (n : ℕ). is_right p texts n i.operation) near ∙ is }, λ before l x. absurd (omega (arith, l)))

-- ---- tables

module _ (t : Lists) (count : ℕ) (f : IsFront count t) (q : Tree) (next : ℕ) (e : declared t ≡ Some (q, next)) where
  other_of : (place : ℕ) → Other q t.texts next (take count t.code) place → InstructionIsOther place t
  other_of place x =
      let d = declared_found t q next e in
      let low = slice_get_within (take count t.code) place x.one x.is in
      let long = length-take-le count t.code f.within in
      let shorter : take place (take count t.code) ≡ take place t.code = take-take place count t.code (omega (arith, low, long)) in
      record {
        count = count;
        front = f;
        before = omega (arith, low, long);
        program = headed q;
        outside = d.right;
        instruction = x.one;
        stands = get_take t.code count place x.one x.is;
        other = right_same q t.texts (length (names (headed q)) + prints_in (take place t.code)) x.one.operation
            ∙ (ap (λ (n : ℕ). is_right q t.texts (n + prints_in (take place t.code)) x.one.operation) (sym d.number)
            ∙ (ap (λ (code : List Instruction). is_right q t.texts (next + prints_in code) x.one.operation) (sym shorter) ∙ x.wrong));
      }

  of_other : (place : ℕ) → InstructionIsOther place t → Other q t.texts next (take count t.code) place
  of_other place y =
      let same = one_front t y.count count y.front f in
      let before = y.before in
      let low : place < count = omega (arith, before, same) in
      let shorter : take place (take count t.code) ≡ take place t.code = take-take place count t.code (omega (arith, low)) in
      let found : Some (q, next) ≡ Some (headed y.program, length (names y.program)) = sym e ∙ found_declared t y.program y.outside in
      let pair : ◌≡◌ {A = Tree × ℕ} (q, next) (headed y.program, length (names y.program)) = of_some found in
      let tree_is : q ≡ headed y.program = ap (λ (w : Tree × ℕ). w.0) pair in
      let next_is : next ≡ length (names y.program) = ap (λ (w : Tree × ℕ). w.1) pair in
      record {
        one = y.instruction;
        is = take_get t.code count place y.instruction low y.stands;
        wrong = ap (λ (code : List Instruction). is_right q t.texts (next + prints_in code) y.instruction.operation) shorter
            ∙ (ap (λ (n : ℕ). is_right q t.texts (n + prints_in (take place t.code)) y.instruction.operation) next_is
            ∙ (ap (λ (p : Tree). is_right p t.texts (length (names y.program) + prints_in (take place t.code)) y.instruction.operation) tree_is
            ∙ (right_same y.program t.texts (length (names y.program) + prints_in (take place t.code)) y.instruction.operation ∙ y.other)));
      }

  pub instructions_first : (found : Option ℕ) → FirstOther q t.texts next 0 (take count t.code) found → IsFirst (λ (n : ℕ). InstructionIsOther n t) found
  instructions_first None none = λ place y. none place (of_other place y)
  instructions_first (Some place) x =
      let turn = x.0 in
      let is = x.1 in
      let same : turn ≡ place = omega (arith, is) in
      (subst (λ (n : ℕ). InstructionIsOther n t) same (other_of turn x.2), λ before l y. x.3 before (omega (arith, l, same)) (of_other before y))

pub number_from : (t : Lists) (count : ℕ) (q : Tree) (next : ℕ) (code : List Instruction) (texts : List (List ℕ)) (found : Option ℕ) → IsFront count t → declared t ≡ Some (q, next) → code ≡ take count t.code → texts ≡ t.texts
    → found ≡ first_other q texts next 0 code → IsFirst (λ (n : ℕ). NumberAt n t) found
number_from t count q next code texts found f e c s h =
    let is : first_other q t.texts next 0 (take count t.code) ≡ found =
    sym (h ∙ (ap (λ (ts : List (List ℕ)). first_other q ts next 0 code) s ∙ ap (λ (cs : List Instruction). first_other q t.texts next 0 cs) c)) in
    let d = declared_found t q next e in
    first_more (λ (n : ℕ). InstructionIsOther n t) (λ (n : ℕ). (n ≡ 0) × ((p : Tree) → OutsideIsRight t p → ⊥)) found (λ n x. x.1 (headed q) d.right)
    (instructions_first t count f q next e found (first_other_is q t.texts next 0 (take count t.code) found is))

not_some : {X : Type 0} {x : X} → ◌≡◌ {A = Option X} None (Some x) → ⊥
not_some e = absurd cc

pub number_zero : (t : Lists) → declared t ≡ None → IsFirst (λ (n : ℕ). NumberAt n t) (Some 0)
number_zero t e = (inr (refl, λ p o. not_some (sym e ∙ found_declared t p o)), λ before l. absurd (omega (arith, l)))

-- what the code's answer says, seen so
pub none_by : {A B : Type 0} (view : A → B) (o : Option A) (d : Option B) → option_map view o ≡ d → o ≡ None → d ≡ None
none_by view o d e is = sym e ∙ ap (λ (x : Option _). option_map view x) is

pub some_by : {A B : Type 0} (view : A → B) (o : Option A) (d : Option B) (x : A) → option_map view o ≡ d → o ≡ Some x → d ≡ Some (view x)
some_by view o d x e is = sym e ∙ ap (λ (y : Option _). option_map view y) is
