-- The statements of sound words are proper, and the numbers and lines that they name fit.
use Rattle.std.proofs.Common.{ℕ, List, [], ◌∷◌, ◌++◌, Bool, true, ◌&&◌, refl, ◌∙◌}
use Rattle.std.specs.Prelude.{IsTrue}
use Rattle.std.specs.List.{list_all, flat_map}
use Rattle.std.proofs.lemmas.Bool.{lt-ltb}
use Rattle.std.proofs.lemmas.List.Folds.{list_all-append}
use Rattle.sial_syntax.specs.Limits.{most_rank, most_pardo, past_lines}
use Rattle.sial_syntax.specs.Parts.{operand_number, value_number, condition_numbers, operands, numbers_named}
use Rattle.sial_syntax.specs.Proper.{has_index, has_array, has_scalar, has_length, proper_block, proper_right, proper_target, proper_cond, proper_slot, is_write, is_number, is_line, proper_form, proper_body, proper_numbers}
use Rattle.sial_syntax.specs.Tree.{Tree, Block, Plain}
use Rattle.sial_syntax.specs.Visits.{visits, inner_visits}
use Rattle.sial_syntax.specs.declared.condition.Cond.{Cond}
use Rattle.sial_syntax.specs.declared.condition.Value.{Value}
use Rattle.sial_syntax.specs.declared.operand.Operand.{Operand}
use Rattle.sial_syntax.specs.declared.operand.Right.{Right}
use Rattle.sial_parser.specs.Grammar.{IsOperand, IsRight, IsValue, IsCond, AreWheres, IsStatement, IsBody}
use Rattle.sial_parser.specs.Scope.{Scope}
use Rattle.sial_parser.specs.Sound.{AreSound}
use Rattle.sial_parser.specs.declared.thing.Thing.TheVariants as thing
use Rattle.sial_parser.specs.declared.word.Word.{Word}
use Rattle.sial_parser.proofs.ProperOperands.{both, Covers, fits_length, indices_proper, block_proper, slots_proper, number_proper, operand_proper, right_proper, cond_proper, target_proper, access_proper, named_end_sound, listed_end_sound, wheres_proper}

pub all_appended : {X : Type 0} (test : X → Bool) (xs ys : List X) → IsTrue (list_all test xs) → IsTrue (list_all test ys) → IsTrue (list_all test (xs ++ ys))
all_appended test xs ys h g = list_all-append test xs ys ∙ both (list_all test xs) (list_all test ys) h g

module _ (p : Tree) (s : Scope) (covers : Covers p s) where
  operand_numbers : (o : Operand) (ws rest : List Word) → IsOperand s o ws rest → AreSound ws → IsTrue (list_all is_number (operand_number o))
  operand_numbers _ _ _ (IsOperand.number {n = n} {ws = ws} {rest = rest} e) h = both (is_number n) true (number_proper p s covers n ws rest e h).0 refl
  operand_numbers _ _ _ (IsOperand.scalar e f) h = refl
  operand_numbers _ _ _ (IsOperand.block e) h = refl

  right_numbers : (r : Right) (ws rest : List Word) → IsRight s r ws rest → AreSound ws → IsTrue (list_all is_number (flat_map operand_number (operands r)))
  right_numbers _ _ _ (IsRight.one {a = a} {ws = ws} e) h = all_appended is_number (operand_number a) [] (operand_numbers a ws _ e h) refl
  right_numbers _ _ _ (IsRight.two {a = a} {b = b} {ws = ws} {between = between} e is f) h =
      let o = operand_proper p s covers a ws _ e h in
      all_appended is_number (operand_number a) (operand_number b ++ []) (operand_numbers a ws _ e h) (all_appended is_number (operand_number b) [] (operand_numbers b between _ f o.1.1) refl)

  value_numbers : (v : Value) (ws rest : List Word) → IsValue s v ws rest → AreSound ws → IsTrue (list_all is_number (value_number v)) × AreSound rest
  value_numbers _ _ _ (IsValue.number {n = n} {ws = ws} {rest = rest} e) h = let o = number_proper p s covers n ws rest e h in (both (is_number n) true o.0 refl, o.1)
  value_numbers _ _ _ (IsValue.scalar e) h = (refl, h.1)
  value_numbers _ _ _ (IsValue.index e) h = (refl, h.1)

  cond_numbers : (c : Cond) (ws rest : List Word) → IsCond s c ws rest → AreSound ws → IsTrue (list_all is_number (condition_numbers c))
  cond_numbers _ _ _ (IsCond.cond {a = a} {b = b} {ws = ws} {between = between} e is f) h =
      let o = value_numbers a ws _ e h in
      all_appended is_number (value_number a) (value_number b) o.0 (value_numbers b between _ f o.1.1).0

  wheres_numbers : (cs : List Cond) (ws rest : List Word) → AreWheres s cs ws rest → AreSound ws → IsTrue (list_all is_number (flat_map condition_numbers cs))
  wheres_numbers _ _ _ (AreWheres.none e) h = refl
  wheres_numbers _ _ _ (AreWheres.more {c = c} {cs = cs} {ws = ws} {between = between} {rest = rest} e others) h =
      all_appended is_number (condition_numbers c) (flat_map condition_numbers cs) (cond_numbers c ws between e h.1) (wheres_numbers cs between rest others (cond_proper p s covers c ws between e h.1).1)

  -- a statement that is proper
  pub record Proper (said : Plain) (rest : List Word) : Type 0 where
    pub form : IsTrue (proper_form p said)
    pub numbers : IsTrue (list_all is_number (numbers_named said))
    pub inner : (bound : List ℕ) (within : Bool) → IsTrue (list_all proper_numbers (inner_visits bound within said))
    pub sound : AreSound rest

  -- a body that is proper
  pub record ProperBody (stmts : Block) (rest : List Word) : Type 0 where
    pub body : IsTrue (proper_body p stmts)
    pub numbers : (bound : List ℕ) (within : Bool) → IsTrue (list_all proper_numbers (visits bound within stmts))
    pub sound : AreSound rest

  -- a statement without a body that names no number
  plainly : (form : Plain) (rest : List Word) → IsTrue (proper_form p form) → IsTrue (list_all is_number (numbers_named form)) → ((bound : List ℕ) (within : Bool) → IsTrue (list_all proper_numbers (inner_visits bound within form))) → AreSound rest → Proper form rest
  plainly form rest a b c d = record { form = a; numbers = b; inner = c; sound = d }

  mutual
    pub statement_proper : (form : Plain) (ws rest : List Word) → IsStatement s form ws rest → AreSound ws → Proper form rest
    statement_proper _ _ _ (IsStatement.do_ {name = x} {i = i} {body = b} {ws = ws} {ends = ends} {rest = rest} e body end) h =
        let o = body_proper b ws _ body h.1.1.1 in
        record { form = both (has_index p i) (proper_body p b) (covers x (thing.Index i) e) o.body; numbers = refl; inner = λ bound within. o.numbers (i ∷ bound) within; sound = named_end_sound p s covers x ends rest end o.sound.1 }
    statement_proper _ _ _ (IsStatement.do_in {sub = x} {name = y} {ii = ii} {i = i} {body = b} {ws = ws} {ends = ends} {rest = rest} e f body end) h =
        let o = body_proper b ws _ body h.1.1.1.1.1 in
        record {
          form = both (has_index p ii) (has_index p i && proper_body p b) (covers x (thing.Index ii) e) (both (has_index p i) (proper_body p b) (covers y (thing.Index i) f) o.body);
          numbers = refl;
          inner = λ bound within. o.numbers (ii ∷ bound) within;
          sound = named_end_sound p s covers x ends rest end o.sound.1;
        }
    statement_proper _ _ _ (IsStatement.pardo {is = is} {conds = cs} {body = b} {ws = ws} {wheres = mid} {first = first} {ends = ends} {rest = rest} are few conds body end) h =
        let o = indices_proper p s covers _ is ws mid are h.1 in
        let w = wheres_proper p s covers cs mid first conds o.sound in
        let q = body_proper b first _ body w.1 in
        record {
          form = both (has_length most_pardo is) (list_all (has_index p) is && (list_all (proper_cond p) cs && proper_body p b)) (fits_length most_pardo is o.some few)
              (both (list_all (has_index p) is) (list_all (proper_cond p) cs && proper_body p b) o.all (both (list_all (proper_cond p) cs) (proper_body p b) w.0 q.body));
          numbers = wheres_numbers cs mid first conds o.sound;
          inner = λ bound within. q.numbers (is ++ bound) true;
          sound = listed_end_sound p s covers is ends rest end q.sound.1;
        }
    statement_proper _ _ _ (IsStatement.if_ {c = c} {body = b} {ws = ws} {first = first} {rest = rest} e body) h =
        let o = cond_proper p s covers c ws first e h.1 in
        let q = body_proper b first _ body o.1 in
        record { form = both (proper_cond p c) (proper_body p b) o.0 q.body; numbers = all_appended is_number (condition_numbers c) [] (cond_numbers c ws first e h.1) refl; inner = λ bound within. q.numbers bound within; sound = q.sound.1.1 }
    statement_proper _ _ _ (IsStatement.if_else {c = c} {body = b} {other = o} {ws = ws} {first = first} {second = second} {rest = rest} e body other) h =
        let v = cond_proper p s covers c ws first e h.1 in
        let q = body_proper b first _ body v.1 in
        let r = body_proper o second _ other q.sound.1.1 in
        record {
          form = both (proper_cond p c) (proper_body p b && proper_body p o) v.0 (both (proper_body p b) (proper_body p o) q.body r.body);
          numbers = all_appended is_number (condition_numbers c) [] (cond_numbers c ws first e h.1) refl;
          inner = λ bound within. all_appended proper_numbers (visits bound within b) (visits bound within o) (q.numbers bound within) (r.numbers bound within);
          sound = r.sound.1.1;
        }
    statement_proper _ _ _ (IsStatement.call {name = x} {p = q} e) h = plainly _ _ (covers x (thing.Proc q) e) refl (λ bound within. refl) h.1.1.1
    statement_proper _ _ _ (IsStatement.assign {t = t} {r = r} {ws = ws} {between = between} {rest = rest} target is right) h =
        let o = target_proper p s covers t ws _ target h in
        let q = right_proper p s covers r between rest right o.1.1 in
        plainly _ _ (both (proper_target p t) (proper_right p r) o.0 q.0) (right_numbers r between rest right o.1.1) (λ bound within. refl) q.1
    statement_proper _ _ _ (IsStatement.get {b = b} {ws = ws} e) h = let o = block_proper p s covers b ws _ e h.1 in plainly _ _ o.0 refl (λ bound within. refl) o.1.1
    statement_proper _ _ _ (IsStatement.request {b = b} {ws = ws} e) h = let o = block_proper p s covers b ws _ e h.1 in plainly _ _ o.0 refl (λ bound within. refl) o.1.1
    statement_proper _ _ _ (IsStatement.request_along {b = b} {ws = ws} e f) h = let o = block_proper p s covers b ws _ e h.1 in plainly _ _ o.0 refl (λ bound within. refl) o.1.1.1
    statement_proper _ _ _ (IsStatement.put {b = b} {from = from} {how = how} {ws = ws} {between = between} {source = source} e is f) h =
        let o = block_proper p s covers b ws between e h.1 in
        let a = access_proper p s covers how between source is o.1 in
        let q = block_proper p s covers from source _ f a.1 in
        plainly _ _ (both (proper_block p b) (is_write how && proper_block p from) o.0 (both (is_write how) (proper_block p from) a.0 q.0)) refl (λ bound within. refl) q.1.1
    statement_proper _ _ _ (IsStatement.prepare {b = b} {from = from} {how = how} {ws = ws} {between = between} {source = source} e is f) h =
        let o = block_proper p s covers b ws between e h.1 in
        let a = access_proper p s covers how between source is o.1 in
        let q = block_proper p s covers from source _ f a.1 in
        plainly _ _ (both (proper_block p b) (is_write how && proper_block p from) o.0 (both (is_write how) (proper_block p from) a.0 q.0)) refl (λ bound within. refl) q.1.1
    statement_proper _ _ _ (IsStatement.create {name = x} {a = a} e) h = plainly _ _ (covers x (thing.Array a) e) refl (λ bound within. refl) h.1.1.1
    statement_proper _ _ _ (IsStatement.delete {name = x} {a = a} e) h = plainly _ _ (covers x (thing.Array a) e) refl (λ bound within. refl) h.1.1.1
    statement_proper _ _ _ (IsStatement.allocate {name = x} {slots = xs} {a = a} {ws = ws} e are few) h =
        let o = slots_proper p s covers xs ws _ are h.1.1.1 in
        plainly _ _ (both (has_array p a) (has_length most_rank xs && list_all (proper_slot p) xs) (covers x (thing.Array a) e) (both (has_length most_rank xs) (list_all (proper_slot p) xs) (fits_length most_rank xs o.some few) o.all)) refl (λ bound within. refl) o.sound.1
    statement_proper _ _ _ (IsStatement.deallocate {name = x} {slots = xs} {a = a} {ws = ws} e are few) h =
        let o = slots_proper p s covers xs ws _ are h.1.1.1 in
        plainly _ _ (both (has_array p a) (has_length most_rank xs && list_all (proper_slot p) xs) (covers x (thing.Array a) e) (both (has_length most_rank xs) (list_all (proper_slot p) xs) (fits_length most_rank xs o.some few) o.all)) refl (λ bound within. refl) o.sound.1
    statement_proper _ _ _ (IsStatement.collective {into = x} {from = y} {x = m} {y = n} e f) h = plainly _ _ (both (has_scalar p m) (has_scalar p n) (covers x (thing.Scalar m) e) (covers y (thing.Scalar n) f)) refl (λ bound within. refl) h.1.1.1.1.1
    statement_proper _ _ _ IsStatement.sip_barrier h = plainly _ _ refl refl (λ bound within. refl) h.1.1
    statement_proper _ _ _ IsStatement.server_barrier h = plainly _ _ refl refl (λ bound within. refl) h.1.1
    statement_proper _ _ _ IsStatement.print h = plainly _ _ h.1.0.1 refl (λ bound within. refl) h.1.1.1
    statement_proper _ _ _ (IsStatement.print_scalar {name = x} {x = n} e) h = plainly _ _ (covers x (thing.Scalar n) e) refl (λ bound within. refl) h.1.1.1.1
    statement_proper _ _ _ (IsStatement.integrals {b = b} {ws = ws} e) h = let o = block_proper p s covers b ws _ e h.1.1 in plainly _ _ o.0 refl (λ bound within. refl) o.1.1

    pub body_proper : (b : Block) (ws rest : List Word) → IsBody s b ws rest → AreSound ws → ProperBody b rest
    body_proper _ _ _ (IsBody.none e) h = record { body = refl; numbers = λ bound within. refl; sound = h }
    body_proper _ _ _ (IsBody.more {form = form} {others = others} {w = w} {ws = ws} {between = between} {rest = rest} is tail) h =
        let o = statement_proper form (w ∷ ws) between is h in
        let q = body_proper others between rest tail o.sound in
        record {
          body = both (proper_form p form) (proper_body p others) o.form q.body;
          numbers = λ bound within. both (is_line w.line && list_all is_number (numbers_named form)) (list_all proper_numbers (inner_visits bound within form ++ visits bound within others))
              (both (is_line w.line) (list_all is_number (numbers_named form)) (lt-ltb w.line past_lines h.0.0) o.numbers)
              (all_appended proper_numbers (inner_visits bound within form) (visits bound within others) (o.inner bound within) (q.numbers bound within));
          sound = q.sound;
        }
