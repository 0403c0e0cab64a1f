-- A step inside an iteration takes the first part of what is still to come off.
use Rattle.std.proofs.Common.{◌≡◌, ℕ, zero, suc, ◌+◌, ◌-◌, ◌<◌, ◌≤◌, List, [], ◌∷◌, Bool, true, false, ◌&&◌, Ok, Err, length, nat_lt, refl, sym, ap, ◌∙◌, arith, inl}
use Rattle.std.proofs.lemmas.Bool.{ltb-true}
use Rattle.std.proofs.lemmas.Bool.Decides.{nat_tests}
use Rattle.std.proofs.lemmas.List.{length-set, length-replicate}
use Rattle.sial_syntax.proofs.AmongLemmas.{among_left, among_right}
use Rattle.sial_syntax.specs.Boxes.{numbers_from}
use Rattle.sial_syntax.specs.Numbering.{sizes, entry_of}
use Rattle.sial_syntax.specs.Proper.{has_index, proper_body, proper_cond}
use Rattle.sial_syntax.specs.Spaces.{first_of, count_of, pieces_of}
use Rattle.sial_syntax.specs.Tree.{Plain, Do, DoIn, Pardo, If, IfElse, Call}
use Rattle.sial_syntax.specs.Visits.{visits}
use Rattle.sial_meaning.specs.Control.{depth_left, entered, turned, branched, called, loop_at}
use Rattle.sial_meaning.specs.LocalStep.{Answer}
use Rattle.sial_meaning.specs.Meaning.{call_depth, condition}
use Rattle.sial_meaning.specs.Own.{Own, value_of, bound, none_bound, with_values}
use Rattle.sial_meaning.specs.Ran.{View, Ran, Through, Broke, behind, and_so, ran_over, ran_then, ran_by, statement_ran, block_ran, calls_ran}
use Rattle.sial_meaning.specs.Rest.{LoopAt, Rest, Over, Next, Turn, Join, Back, Within, push, depth}
use Rattle.sial_meaning.specs.Setting.{Setting, procedure_body}
use Rattle.sial_meaning.specs.Sound.{IsGrantedSetting}
use Rattle.sial_meaning.specs.ToCome.{rest_ran, Inner, On, Out, AtEnd, led_on, done_on, inner_step}
use Rattle.sial_meaning.proofs.PardosKeepTheControl.Statement.{Calm}
use Rattle.sial_meaning.proofs.CourseFollowsTheFold.Stand.{CalledWithin, within_calm}
use Rattle.sial_meaning.proofs.StepsReachTheFold.Rules.{both, unbroken_append, procedure_sound}
use Rattle.sial_meaning.proofs.StepsReachTheFold.Turns.{first_among, bound_value}
use Rattle.sial_meaning.proofs.StepsTakeTheFirstPartOff.Stands.{behind_none, and_and, and_same, pushed_ran, BodyIn, RestIn, AsMany, pushed_in, body_keeps, statement_keeps}

module _ (g : Setting) (set : IsGrantedSetting g) where
  -- what a step inside leads to, beside what is still to come
  abbrev pub Took : View → Rest → Own → Inner → Type 0
  Took v r own (On did rest held) = (RestIn g set rest × AsMany g set held) × (rest_ran g v r own ≡ behind did (rest_ran g v rest held))
  Took v r own (Out did trap held) = rest_ran g v r own ≡ Broke did trap held
  Took v r own AtEnd = (pardo : _) × (number : ℕ) × (rest : Rest) × (r ≡ Within pardo number rest)

  module _ (v : View) where
    -- a body with what follows it, where a loop's index has this number, so many behind it
    turns_ran : (loop : LoopAt) (last first n : ℕ) (rest : Rest) (own : Own) (indices : List ℕ) (within : Bool) → first + n ≡ last → loop.index < length own.values → BodyIn g set (loop.index ∷ indices) within loop.body
        → and_so (ran_then (ran_over (numbers_from first (suc n)) (λ k o. block_ran g v (calls_ran g v (depth_left rest)) loop.body (bound loop.index k o)) own) (bound loop.index 0)) (rest_ran g v rest)
        ≡ rest_ran g v (push (loop.head + 1) loop.body (Turn loop last rest)) (bound loop.index first own)
    turns_ran loop last first n rest own indices within ends there b =
        let turn : ℕ → Own → Ran = λ k o. block_ran g v (calls_ran g v (depth_left rest)) loop.body (bound loop.index k o) in
        let others : Own → Ran = ran_over (numbers_from (first + 1) n) turn in
        let past : Own → Ran = λ o. Through [] (bound loop.index 0 o) in
        ap (λ x. and_so x (rest_ran g v rest)) (and_and (turn first own) others past)
        ∙ (and_and (turn first own) (λ o. and_so (others o) past) (rest_ran g v rest)
        ∙ (and_same
        (turn first own)
        (λ o. and_so (and_so (others o) past) (rest_ran g v rest))
        (rest_ran g v (Turn loop last rest))
        (λ ds o e.
        let kept = body_keeps g set v (depth_left rest) (loop.index ∷ indices) within loop.body b (bound loop.index first own) o ds e in
        let value : value_of o loop.index ≡ first = kept.same loop.index (first_among loop.index indices) ∙ bound_value loop.index first own there in
        let left : n ≡ last - first = omega (arith, ends) in
        ap (λ m. and_so (and_so (ran_over (numbers_from (first + 1) m) turn o) past) (rest_ran g v rest)) left
        ∙ ap (λ k. and_so (and_so (ran_over (numbers_from (k + 1) (last - k)) turn o) past) (rest_ran g v rest)) (sym value))
        ∙ sym (pushed_ran g v (loop.head + 1) loop.body (Turn loop last rest) (bound loop.index first own))))

    -- a loop that has no number left
    no_turns : (loop : LoopAt) (rest : Rest) (own : Own) → and_so (ran_then (Through [] own) (bound loop.index 0)) (rest_ran g v rest) ≡ behind [] (rest_ran g v rest (bound loop.index 0 own))
    no_turns loop rest own = refl

    -- a loop entered
    entered_took : (loop : LoopAt) (first count : ℕ) (rest : Rest) (own : Own) (indices : List ℕ) (within : Bool) (r : Rest) → loop.index < length g.program.indices → BodyIn g set (loop.index ∷ indices) within loop.body → RestIn g set rest → AsMany g set own
        → rest_ran g v r own ≡ and_so (ran_then (ran_over (numbers_from first count) (λ k o. block_ran g v (calls_ran g v (depth_left rest)) loop.body (bound loop.index k o)) own) (bound loop.index 0)) (rest_ran g v rest)
        → Took v r own (led_on own (entered loop first count rest own))
    entered_took loop first zero rest own indices within r there b others many e = ((others, length-set own.values loop.index 0 ∙ many), e)
    entered_took loop first (suc n) rest own indices within r there b others many e =
        let inside : loop.index < length own.values = omega (arith, there, many) in (
          (pushed_in g set (loop.index ∷ indices) within (loop.head + 1) loop.body (Turn loop (first + n) rest) b ((indices, within, b, there), others), length-set own.values loop.index first ∙ many),
          e ∙ (turns_ran loop (first + n) first n rest own indices within refl inside b ∙ sym (behind_none (rest_ran g v (push (loop.head + 1) loop.body (Turn loop (first + n) rest)) (bound loop.index first own)))),
        )

    -- the end of a loop's body
    turned_took : (more : Bool) (loop : LoopAt) (last : ℕ) (rest : Rest) (own : Own) (indices : List ℕ) (within : Bool) → nat_lt (value_of own loop.index) last ≡ more → loop.index < length g.program.indices → BodyIn g set (loop.index ∷ indices) within loop.body → RestIn g set rest → AsMany g set own
        → Took v (Turn loop last rest) own (led_on own (turned more loop last rest own))
    turned_took true loop last rest own indices within is there b others many =
        let k : ℕ = value_of own loop.index in
        let low : k < last = grind (arith, nat_tests) in
        let inside : loop.index < length own.values = omega (arith, there, many) in
        let left : last - k ≡ suc (last - (k + 1)) = omega (arith, low) in
        let turn : ℕ → Own → Ran = λ k o. block_ran g v (calls_ran g v (depth_left rest)) loop.body (bound loop.index k o) in (
          (pushed_in g set (loop.index ∷ indices) within (loop.head + 1) loop.body (Turn loop last rest) b ((indices, within, b, there), others), length-set own.values loop.index (k + 1) ∙ many),
          ap (λ n. and_so (ran_then (ran_over (numbers_from (k + 1) n) turn own) (bound loop.index 0)) (rest_ran g v rest)) left
              ∙ (turns_ran loop last (k + 1) (last - (k + 1)) rest own indices within (omega (arith, low)) inside b
              ∙ sym (behind_none (rest_ran g v (push (loop.head + 1) loop.body (Turn loop last rest)) (bound loop.index (k + 1) own)))),
        )
    turned_took false loop last rest own indices within is there b others many =
        let k : ℕ = value_of own loop.index in
        let high : last ≤ k = grind (arith, nat_tests) in
        let left : ◌≡◌ {A = ℕ} (last - k) 0 = omega (arith, high) in
        let turn : ℕ → Own → Ran = λ k o. block_ran g v (calls_ran g v (depth_left rest)) loop.body (bound loop.index k o) in
        ((others, length-set own.values loop.index 0 ∙ many), ap (λ n. and_so (ran_then (ran_over (numbers_from (k + 1) n) turn own) (bound loop.index 0)) (rest_ran g v rest)) left)

    -- a branch
    branched_took : (line : ℕ) (answer : Answer Bool) (met unmet : Rest) (own : Own) (run other : Own → Ran) (rest r : Rest) → RestIn g set met → RestIn g set unmet → AsMany g set own
        → rest_ran g v met own ≡ and_so (run own) (rest_ran g v rest) → rest_ran g v unmet own ≡ and_so (other own) (rest_ran g v rest)
        → rest_ran g v r own ≡ and_so (ran_by line answer run other own) (rest_ran g v rest)
        → Took v r own (led_on own (branched line answer met unmet own))
    branched_took line (Ok true) met unmet own run other rest r a b many first second e = ((a, many), e ∙ (sym first ∙ sym (behind_none (rest_ran g v met own))))
    branched_took line (Ok false) met unmet own run other rest r a b many first second e = ((b, many), e ∙ (sym second ∙ sym (behind_none (rest_ran g v unmet own))))
    branched_took line (Err kind) met unmet own run other rest r a b many first second e = e

    -- a procedure's statements
    procedure_in : (q : ℕ) → CalledWithin g set q → BodyIn g set [] false (procedure_body g q)
    procedure_in q called =
        let sound = procedure_sound g set.proper set.granted q in record { proper = sound.proper; unbroken = sound.unbroken; calm = λ v m. within_calm g set q called v m }

    -- a call
    called_took : (more : Bool) (q : ℕ) (rest r : Rest) (own : Own) → nat_lt (depth rest) call_depth ≡ more → CalledWithin g set q → RestIn g set rest → AsMany g set own
        → rest_ran g v r own ≡ and_so (calls_ran g v (depth_left rest) q own) (rest_ran g v rest)
        → Took v r own (led_on own (called g more q rest own))
    called_took true q rest r own is inner others many e =
        let back : Rest = Back (entry_of g.program q + sizes (procedure_body g q)) own.values rest in
        let low : depth rest < call_depth = grind (arith, nat_tests) in
        let deeper : depth_left rest ≡ suc (call_depth - (depth rest + 1)) = omega (arith, low) in
        let x : Ran = block_ran g v (calls_ran g v (depth_left back)) (procedure_body g q) (none_bound own) in (
          (
            pushed_in g set [] false (entry_of g.program q) (procedure_body g q) back (procedure_in q inner) (many, others),
            length-replicate {A = ℕ} (length own.values) 0 ∙ many,
          ),
          e
              ∙ (ap (λ d. and_so (calls_ran g v d q own) (rest_ran g v rest)) deeper
              ∙ (and_and x (λ o. Through [] (with_values own.values o)) (rest_ran g v rest)
              ∙ (and_same x (λ o. and_so (Through [] (with_values own.values o)) (rest_ran g v rest)) (rest_ran g v back) (λ ds o was. behind_none (rest_ran g v rest (with_values own.values o)))
              ∙ (sym (pushed_ran g v (entry_of g.program q) (procedure_body g q) back (none_bound own))
              ∙ sym (behind_none (rest_ran g v (push (entry_of g.program q) (procedure_body g q) back) (none_bound own))))))),
        )
    called_took false q rest r own is inner others many e =
        let high : call_depth ≤ depth rest = grind (arith, nat_tests) in
        let none : ◌≡◌ {A = ℕ} (depth_left rest) 0 = omega (arith, high) in
        ((others, many), e ∙ ap (λ d. and_so (calls_ran g v d q own) (rest_ran g v rest)) none)

    -- a statement that holds no other
    done_took : (at line : ℕ) (form : Plain) (rest : Rest) (own : Own) → Calm g form → RestIn g set rest → AsMany g set own → (x : Ran) → statement_ran g v line form own ≡ x
        → rest_ran g v (Next at line form rest) own ≡ and_so x (rest_ran g v rest) → Took v (Next at line form rest) own (done_on x rest)
    done_took at line form rest own calm others many (Through ds o) is e = ((others, ap length (statement_keeps g set v line form calm own o ds is) ∙ many), e)
    done_took at line form rest own calm others many (Broke ds trap o) is e = e

    -- each step inside
    pub step_took : (r : Rest) (own : Own) → RestIn g set r → AsMany g set own → Took v r own (inner_step g v r own)
    step_took (Over at) own r many = absurd r
    step_took (Next at line (Do index body) rest) own r many =
        let f = r.0.2 in
        let parts = both (has_index g.program index) (proper_body g.program body) f.proper in
        entered_took
        (loop_at at index body)
        (first_of g.spaces index)
        (count_of g.spaces index)
        rest
        own
        r.0.0
        r.0.1
        (Next at line (Do index body) rest)
        (ltb-true index (length g.program.indices) parts.0)
        (record { proper = parts.1; unbroken = f.unbroken; calm = f.calm })
        r.1
        many
        refl
    step_took (Next at line (DoIn sub index body) rest) own r many =
        let f = r.0.2 in
        let first = both (has_index g.program sub) (has_index g.program index && proper_body g.program body) f.proper in
        let parts = both (has_index g.program index) (proper_body g.program body) first.1 in
        entered_took
        (loop_at at sub body)
        1
        (pieces_of g.spaces sub (value_of own index))
        rest
        own
        r.0.0
        r.0.1
        (Next at line (DoIn sub index body) rest)
        (ltb-true sub (length g.program.indices) first.0)
        (record { proper = parts.1; unbroken = f.unbroken; calm = f.calm })
        r.1
        many
        refl
    step_took (Next at line (Pardo these wheres body) rest) own r many = let never : true ≡ false = r.0.2.here.0.pardo in absurd cc
    step_took (Next at line (If test body) rest) own r many =
        let f = r.0.2 in
        let parts = both (proper_cond g.program test) (proper_body g.program body) f.proper in
        branched_took
        line
        (condition own test)
        (push (at + 1) body (Join (at + 1 + sizes body) rest))
        rest
        own
        (block_ran g v (calls_ran g v (depth_left rest)) body)
        (Through [])
        rest
        (Next at line (If test body) rest)
        (pushed_in g set r.0.0 r.0.1 (at + 1) body (Join (at + 1 + sizes body) rest) (record { proper = parts.1; unbroken = f.unbroken; calm = f.calm }) r.1)
        r.1
        many
        (pushed_ran g v (at + 1) body (Join (at + 1 + sizes body) rest) own)
        (sym (behind_none (rest_ran g v rest own)))
        refl
    step_took (Next at line (IfElse test body other) rest) own r many =
        let f = r.0.2 in
        let tested = both (proper_cond g.program test) (proper_body g.program body && proper_body g.program other) f.proper in
        let parts = both (proper_body g.program body) (proper_body g.program other) tested.1 in
        let ways = unbroken_append g.program (visits r.0.0 r.0.1 body) (visits r.0.0 r.0.1 other) f.unbroken in
        branched_took
        line
        (condition own test)
        (push (at + 1) body (Join (at + 1 + sizes body) rest))
        (push (at + 2 + sizes body) other (Join (at + 2 + sizes body + sizes other) rest))
        own
        (block_ran g v (calls_ran g v (depth_left rest)) body)
        (block_ran g v (calls_ran g v (depth_left rest)) other)
        rest
        (Next at line (IfElse test body other) rest)
        (pushed_in g set r.0.0 r.0.1 (at + 1) body (Join (at + 1 + sizes body) rest) (record { proper = parts.0; unbroken = ways.0; calm = λ v m. f.calm v (among_left v (visits r.0.0 r.0.1 body) (visits r.0.0 r.0.1 other) m) }) r.1)
        (pushed_in g set r.0.0 r.0.1 (at + 2 + sizes body) other (Join (at + 2 + sizes body + sizes other) rest) (record { proper = parts.1; unbroken = ways.1; calm = λ v m. f.calm v (among_right v (visits r.0.0 r.0.1 body) (visits r.0.0 r.0.1 other) m) }) r.1)
        many
        (pushed_ran g v (at + 1) body (Join (at + 1 + sizes body) rest) own)
        (pushed_ran g v (at + 2 + sizes body) other (Join (at + 2 + sizes body + sizes other) rest) own)
        refl
    step_took (Next at line (Call procedure) rest) own r many =
        called_took (nat_lt (depth rest) call_depth) procedure rest (Next at line (Call procedure) rest) own refl (r.0.2.here.1 procedure (inl refl)) r.1 many refl
    step_took (Next at line form rest) own r many = done_took at line form rest own r.0.2.here.0 r.1 many (statement_ran g v line form own) refl refl
    step_took (Turn loop last rest) own r many = turned_took (nat_lt (value_of own loop.index) last) loop last rest own r.0.0 r.0.1 refl r.0.3 r.0.2 r.1 many
    step_took (Join at rest) own r many = ((r, many), sym (behind_none (rest_ran g v rest own)))
    step_took (Back at values rest) own r many = ((r.1, r.0), sym (behind_none (rest_ran g v rest (with_values values own))))
    step_took (Within pardo number rest) own r many = (pardo, number, rest, refl)
