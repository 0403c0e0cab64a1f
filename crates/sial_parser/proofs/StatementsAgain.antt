-- What stands with its words is read: statements and bodies.
use Rattle.std.proofs.Common.{◌≡◌, ℕ, zero, suc, ◌+◌, ◌-◌, ◌<◌, ◌≤◌, List, [], ◌∷◌, ◌++◌, true, false, max, Option, Some, None, Ok, refl, sym, ap, ◌∙◌, append_assoc, append-nil, arith}
use Rattle.sial_syntax.specs.Limits.{most_pardo}
use Rattle.sial_syntax.specs.Numbering.{statements_in, statements}
use Rattle.sial_syntax.specs.Proper.{nesting, body_nesting}
use Rattle.sial_syntax.specs.Tree.{Block, End as Ended, Then, Plain, block_of, Do, DoIn, Pardo, If, IfElse, Call, Assign, Get, Request, Put, Prepare, Create, Delete, Allocate, Deallocate, Collective, SipBarrier, ServerBarrier, Print, PrintScalar, Integrals}
use Rattle.sial_syntax.specs.declared.operand.Op.{Op}
use Rattle.sial_syntax.specs.declared.operand.Right.{Right}
use Rattle.sial_syntax.specs.declared.operand.Target.{Target}
use Rattle.sial_parser.specs.Grammar.{at, sign_at, go_on_with_open, ends_body, IsNamedEnd, AreDims, IsBlock, IsRight, IsTarget, IsOp, IsStatement, IsBody}
use Rattle.sial_parser.specs.Parsing.{Read, index_by, array_by, scalar_by, is_line_end, is_next, ends_target, op_of, called, call_at, get_at, request_at, put_at, prepare_at, create_at, delete_at, allocate_at, deallocate_at, collective_at, barrier_at, print_at, execute_at, assign_at, assign_by, Inner, Statements, counted, deeper, loop_body, do_at, pardo_at, if_at, with_left, statement, turns, body}
use Rattle.sial_parser.specs.Scope.{Scope}
use Rattle.sial_parser.specs.declared.keyword.Keyword.TheVariants as key
use Rattle.sial_parser.specs.declared.sign.Sign.{Sign}
use Rattle.sial_parser.specs.declared.sign.Sign.TheVariants as sign
use Rattle.sial_parser.specs.declared.word.Symbol.TheVariants.{Key, Name, Number, Quoted, LineEnd, End}
use Rattle.sial_parser.specs.declared.word.Symbol.TheVariants as symbol
use Rattle.sial_parser.specs.declared.word.Word.{Word}
use Rattle.sial_parser.proofs.Shapes.{turn_shape}
use Rattle.sial_parser.proofs.OperandsAgain.{then_is, if_true, if_false, index_again, array_again, scalar_again, indices_again, block_again, block_line_again, slots_line_again, right_again, condition_again, target_again, access_again, named_end_again, listed_end_again, wheres_again}

-- the statements of a block, in a list
abbrev pub forms_of : Block → List (ℕ × Plain)
forms_of Ended = []
forms_of (Then line form rest) = (line, form) ∷ forms_of rest

pub forms_back : (b : Block) → block_of (forms_of b) ≡ b
forms_back Ended = refl
forms_back (Then line form rest) = ap (Then line form) (forms_back rest)

-- each statement counts
one_at_least : (form : Plain) → 1 ≤ statements_in form
one_at_least (Do i b) = omega arith
one_at_least (DoIn ii i b) = omega arith
one_at_least (Pardo is cs b) = omega arith
one_at_least (If c b) = omega arith
one_at_least (IfElse c b o) = omega arith
one_at_least _ = omega arith

module _ (s : Scope) where
  -- a statement begins with no end word
  target_first_word : (t : Target) (ws rest : List Word) → IsTarget s t ws rest → is_next ends_body ws ≡ false
  target_first_word _ _ _ (IsTarget.scalar e f) = refl
  target_first_word _ _ _ (IsTarget.block (IsBlock.block e h)) = refl

  begins : (form : Plain) (ws rest : List Word) → IsStatement s form ws rest → is_next ends_body ws ≡ false
  begins _ _ _ (IsStatement.do_ i b e) = refl
  begins _ _ _ (IsStatement.do_in ii i b e) = refl
  begins _ _ _ (IsStatement.pardo is few cs b e) = refl
  begins _ _ _ (IsStatement.if_ c b) = refl
  begins _ _ _ (IsStatement.if_else c b o) = refl
  begins _ _ _ (IsStatement.call p) = refl
  begins _ _ _ (IsStatement.assign {t = t} {what = what} {l = l} {ws = ws} {between = between} h how r) = target_first_word t ws (sign_at l what ∷ between) h
  begins _ _ _ (IsStatement.get b) = refl
  begins _ _ _ (IsStatement.request b) = refl
  begins _ _ _ (IsStatement.request_along b i) = refl
  begins _ _ _ (IsStatement.put b how from) = refl
  begins _ _ _ (IsStatement.prepare b how from) = refl
  begins _ _ _ (IsStatement.create a) = refl
  begins _ _ _ (IsStatement.delete a) = refl
  begins _ _ _ (IsStatement.allocate a xs few) = refl
  begins _ _ _ (IsStatement.deallocate a xs few) = refl
  begins _ _ _ (IsStatement.collective x y) = refl
  begins _ _ _ IsStatement.sip_barrier = refl
  begins _ _ _ IsStatement.server_barrier = refl
  begins _ _ _ IsStatement.print = refl
  begins _ _ _ (IsStatement.print_scalar x) = refl
  begins _ _ _ (IsStatement.integrals b) = refl

  -- the answer of a statement, and of a body
  abbrev stated : Plain → (left : ℕ) → List Word → Read (Plain × ℕ)
  stated form left rest = Ok ((form, left - statements_in form), rest)

  abbrev bodied : Block → (left : ℕ) → List Word → Read Statements
  bodied b left rest = Ok ((forms_of b, left - statements b), rest)

  -- bodies within a statement are read
  abbrev pub Reads : Option Inner → (depth : ℕ) → Type 0
  Reads None depth = depth ≡ 0
  Reads (Some body) depth = (d : ℕ) × (depth ≡ suc d) × ((b : Block) (ws rest : List Word) → IsBody s b ws rest → body_nesting b ≤ d → (left : ℕ) → statements b ≤ left → body left ws ≡ bodied b left rest)

  simple_again : (form : Plain) (l left : ℕ) (r : Read Plain) (rest : List Word) → statements_in form ≡ 1 → 1 ≤ left → r ≡ Ok (form, rest) → counted left l (λ n. with_left n r) ≡ stated form left rest
  simple_again form l zero r rest one some e = absurd (omega (arith, some))
  simple_again form l (suc n) r rest one some e = then_is r _ _ _ e (let k : n ≡ suc n - statements_in form = omega (arith, one) in ap (λ m. Ok ((form, m), rest)) k)

  op_is : (how : Op) (what : Sign) → IsOp how what → op_of (symbol.Sign what) ≡ Some how
  op_is _ _ IsOp.set = refl
  op_is _ _ IsOp.add = refl
  op_is _ _ IsOp.subtract = refl
  op_is _ _ IsOp.scale = refl

  op_ends : (how : Op) (what : Sign) → IsOp how what → ends_target (symbol.Sign what) ≡ true
  op_ends _ _ IsOp.set = refl
  op_ends _ _ IsOp.add = refl
  op_ends _ _ IsOp.subtract = refl
  op_ends _ _ IsOp.scale = refl

  assign_again : (t : Target) (how : Op) (what : Sign) (r : Right) (l : ℕ) (ws between rest : List Word) → IsTarget s t ws (sign_at l what ∷ between) → IsOp how what → IsRight s r between rest → assign_at s ws ≡ Ok (Assign t how r, rest)
  unfolding assign_at
  assign_again t how what r l ws between rest h is g =
      then_is _ _ _ _ (target_again s t ws (sign_at l what ∷ between) h (op_ends how what is)) (ap (λ o. assign_by s t o (sign_at l what) between) (op_is how what is) ∙ then_is _ _ _ _ (right_again s r between rest g) refl)

  -- a statement with bodies
  compound_again : (inner : Option Inner) (depth : ℕ) → Reads inner depth → (form : Plain) (rest : List Word) (k : ℕ) → nesting form ≡ 1 + k → nesting form ≤ depth → (left : ℕ) → statements_in form ≤ left → (l : ℕ) (go : Inner → (n : ℕ) → Read (Plain × ℕ))
      → ((body : Inner) (d n : ℕ) → k ≤ d → statements_in form ≤ suc n → ((b : Block) (ws rest : List Word) → IsBody s b ws rest → body_nesting b ≤ d → (left : ℕ) → statements b ≤ left → body left ws ≡ bodied b left rest) → go body n ≡ stated form (suc n) rest)
      → counted left l (λ n. deeper inner l (λ body. go body n)) ≡ stated form left rest
  compound_again None depth reads form rest k nest deep left some l go then = absurd (omega (arith, reads, nest, deep))
  compound_again (Some body) depth reads form rest k nest deep zero some l go then = absurd (omega (arith, some, one_at_least form))
  compound_again (Some body) depth reads form rest k nest deep (suc n) some l go then = then body reads.0 n (omega (arith, reads.1, nest, deep)) some reads.2

  loop_again : (body : Inner) (b : Block) (n j : ℕ) (opener : List ℕ) (ws ends rest : List Word) → body n ws ≡ bodied b n (at j (Key key.EndDo) ∷ ends) → IsNamedEnd opener ends rest → loop_body body n opener ws ≡ bodied b n rest
  unfolding loop_body
  loop_again body b n j opener ws ends rest e end = then_is _ _ _ _ e (then_is _ _ _ _ (named_end_again s opener ends rest end) refl)

  same_two : (form : Block → Plain) (b : Block) (m n : ℕ) (rest : List Word) → m ≡ n → ◌≡◌ {A = Read (Plain × ℕ)} (Ok ((form (block_of (forms_of b)), m), rest)) (Ok ((form b, n), rest))
  same_two form b m n rest e = ap (λ c. Ok ((form c, m), rest)) (forms_back b) ∙ ap (λ k. Ok ((form b, k), rest)) e

  -- a statement, where so many may nest and so many are left
  statement_again : (inner : Option Inner) (depth : ℕ) → Reads inner depth → (form : Plain) (ws rest : List Word) → IsStatement s form ws rest → nesting form ≤ depth → (left : ℕ) → statements_in form ≤ left → statement true s inner left ws ≡ stated form left rest
  unfolding statement call_at get_at request_at put_at prepare_at create_at delete_at allocate_at deallocate_at collective_at barrier_at print_at execute_at do_at pardo_at if_at
  statement_again inner depth reads _ _ _ (IsStatement.do_ {name = x} {i = i} {l = l} {k = k} {m = m} {j = j} {body = b} {ws = ws} {ends = ends} {rest = rest} e h end) deep left some =
      compound_again inner depth reads (Do i b) rest (body_nesting b) refl deep left some l (λ body n. do_at s body n (at k (Name x) ∷ at m LineEnd ∷ ws)) (λ body d n in_depth in_left right.
      then_is _ _ _ _ (ap (index_by k) e) (then_is _ _ _ _ (loop_again body b n j x ws ends rest (right b ws (at j (Key key.EndDo) ∷ ends) h in_depth n (omega (arith, in_left))) end)
      (same_two (Do i) b (n - statements b) (suc n - statements_in (Do i b)) rest (omega (arith, in_left)))))
  statement_again inner depth reads _ _ _ (IsStatement.do_in {sub = x} {name = y} {ii = i} {i = o} {l = l} {k = k} {m = m} {h = h} {n = q} {j = j} {body = b} {ws = ws} {ends = ends} {rest = rest} e f body_is end) deep left some =
      compound_again inner depth reads (DoIn i o b) rest (body_nesting b) refl deep left some l (λ body n. do_at s body n (at k (Name x) ∷ at m (Key key.In) ∷ at h (Name y) ∷ at q LineEnd ∷ ws)) (λ body d n in_depth in_left right.
      then_is _ _ _ _ (ap (index_by k) e) (then_is _ _ _ _ (index_again s y o h (at q LineEnd ∷ ws) f) (then_is _ _ _ _ (loop_again body b n j x ws ends rest (right b ws (at j (Key key.EndDo) ∷ ends) body_is in_depth n (omega (arith, in_left))) end)
      (same_two (DoIn i o) b (n - statements b) (suc n - statements_in (DoIn i o b)) rest (omega (arith, in_left))))))
  statement_again inner depth reads _ _ _ (IsStatement.pardo {is = is} {conds = cs} {l = l} {j = j} {body = b} {ws = ws} {wheres = mid} {first = first} {ends = ends} {rest = rest} h few c body_is end) deep left some =
      compound_again inner depth reads (Pardo is cs b) rest (body_nesting b) refl deep left some l (λ body n. pardo_at s body n ws) (λ body d n in_depth in_left right.
      then_is _ _ _ _ (indices_again s is_line_end LineEnd refl refl is ws mid h most_pardo few []) (then_is _ _ _ _ (wheres_again s cs mid first c) (then_is _ _ _ _ (right b first (at j (Key key.EndPardo) ∷ ends) body_is in_depth n (omega (arith, in_left)))
      (then_is _ _ _ _ (listed_end_again s is ends rest end) (same_two (Pardo is cs) b (n - statements b) (suc n - statements_in (Pardo is cs b)) rest (omega (arith, in_left)))))))
  statement_again inner depth reads _ _ _ (IsStatement.if_ {c = c} {l = l} {j = j} {h = h} {body = b} {ws = ws} {first = first} {rest = rest} e body_is) deep left some =
      compound_again inner depth reads (If c b) rest (body_nesting b) refl deep left some l (λ body n. if_at s body n ws) (λ body d n in_depth in_left right.
      then_is _ _ _ _ (condition_again s c ws first e) (then_is _ _ _ _ (right b first (at j (Key key.EndIf) ∷ at h LineEnd ∷ rest) body_is in_depth n (omega (arith, in_left)))
      (same_two (If c) b (n - statements b) (suc n - statements_in (If c b)) rest (omega (arith, in_left)))))
  statement_again inner depth reads _ _ _ (IsStatement.if_else {c = c} {l = l} {j = j} {h = h} {m = m} {n = q} {body = b} {other = o} {ws = ws} {first = first} {second = second} {rest = rest} e body_is other_is) deep left some =
      compound_again inner depth reads (IfElse c b o) rest (max (body_nesting b) (body_nesting o)) refl deep left some l (λ body n. if_at s body n ws) (λ body d n in_depth in_left right.
      then_is _ _ _ _ (condition_again s c ws first e) (then_is _ _ _ _ (right b first (at j (Key key.Else) ∷ at h LineEnd ∷ second) body_is (omega (arith, in_depth)) n (omega (arith, in_left)))
      (then_is _ _ _ _ (right o second (at m (Key key.EndIf) ∷ at q LineEnd ∷ rest) other_is (omega (arith, in_depth)) (n - statements b) (omega (arith, in_left)))
      (ap (λ x. Ok ((IfElse c x (block_of (forms_of o)), (n - statements b) - statements o), rest)) (forms_back b) ∙ same_two (IfElse c b) o ((n - statements b) - statements o) (suc n - statements_in (IfElse c b o)) rest (omega (arith, in_left))))))
  statement_again inner depth reads _ _ _ (IsStatement.call {name = x} {p = p} {l = l} {k = k} {m = m} {rest = rest} e) deep left some = simple_again (Call p) l left _ rest refl some (then_is _ _ _ _ (ap (called true k) e) refl)
  statement_again inner depth reads _ _ _ (IsStatement.assign {how = how} {what = what} {r = r} {l = l2} {between = between} {rest = rest} (IsTarget.scalar {name = x} {x = n} {l = l} e no_list) is g) deep left some =
      let t : Target = Rattle.sial_syntax.specs.declared.operand.Target.TheVariants.Scalar n in
      then_is _ _ _ _ (if_false (go_on_with_open (sign_at l2 what ∷ between)) _ _ _ no_list (if_true (is_next ends_target (sign_at l2 what ∷ between)) _ _ _ (op_ends how what is) (ap (scalar_by l) e)))
      (simple_again (Assign t how r) l left _ rest refl some (assign_again t how what r l2 (at l (Name x) ∷ sign_at l2 what ∷ between) between rest (IsTarget.scalar e no_list) is g))
  statement_again inner depth reads _ _ _ (IsStatement.assign {how = how} {what = what} {r = r} {l = l2} {between = between} {rest = rest} (IsTarget.block {b = b} {ws = ws} (IsBlock.block {name = x} {a = a} {l = l} {is = is} {ws = ws2} e (AreDims.dims {l = k} {ws = ws3} h few))) how_is g) deep left some =
      let t : Target = Rattle.sial_syntax.specs.declared.operand.Target.TheVariants.Block (record { array = a; at = is }) in
      then_is _ _ _ _ (ap (array_by l) e) (simple_again (Assign t how r) l left _ rest refl some (assign_again t how what r l2 (at l (Name x) ∷ sign_at k sign.Open ∷ ws3) between rest (IsTarget.block (IsBlock.block e (AreDims.dims h few))) how_is g))
  statement_again inner depth reads _ _ _ (IsStatement.get {b = b} {l = l} {k = k} {ws = ws} {rest = rest} h) deep left some = simple_again (Get b) l left _ rest refl some (then_is _ _ _ _ (block_line_again s b k ws rest h) refl)
  statement_again inner depth reads _ _ _ (IsStatement.request {b = b} {l = l} {k = k} {ws = ws} {rest = rest} h) deep left some = simple_again (Request b) l left _ rest refl some (then_is _ _ _ _ (block_again s b ws (at k LineEnd ∷ rest) h) refl)
  statement_again inner depth reads _ _ _ (IsStatement.request_along {b = b} {name = x} {i = i} {l = l} {k = k} {m = m} {ws = ws} {rest = rest} h e) deep left some =
      simple_again (Request b) l left _ rest refl some (then_is _ _ _ _ (block_again s b ws (at k (Name x) ∷ at m LineEnd ∷ rest) h) (then_is _ _ _ _ (index_again s x i k (at m LineEnd ∷ rest) e) refl))
  statement_again inner depth reads _ _ _ (IsStatement.put {b = b} {from = from} {how = how} {l = l} {k = k} {ws = ws} {between = between} {source = source} {rest = rest} h is g) deep left some =
      simple_again (Put b how from) l left _ rest refl some (then_is _ _ _ _ (block_again s b ws between h) (then_is _ _ _ _ (access_again s how between source is) (then_is _ _ _ _ (block_line_again s from k source rest g) refl)))
  statement_again inner depth reads _ _ _ (IsStatement.prepare {b = b} {from = from} {how = how} {l = l} {k = k} {ws = ws} {between = between} {source = source} {rest = rest} h is g) deep left some =
      simple_again (Prepare b how from) l left _ rest refl some (then_is _ _ _ _ (block_again s b ws between h) (then_is _ _ _ _ (access_again s how between source is) (then_is _ _ _ _ (block_line_again s from k source rest g) refl)))
  statement_again inner depth reads _ _ _ (IsStatement.create {name = x} {a = a} {l = l} {k = k} {m = m} {rest = rest} e) deep left some = simple_again (Create a) l left _ rest refl some (then_is _ _ _ _ (array_again s x a k (at m LineEnd ∷ rest) e) refl)
  statement_again inner depth reads _ _ _ (IsStatement.delete {name = x} {a = a} {l = l} {k = k} {m = m} {rest = rest} e) deep left some = simple_again (Delete a) l left _ rest refl some (then_is _ _ _ _ (array_again s x a k (at m LineEnd ∷ rest) e) refl)
  statement_again inner depth reads _ _ _ (IsStatement.allocate {name = x} {slots = xs} {a = a} {l = l} {k = k} {m = m} {h = h} {ws = ws} {rest = rest} e is few) deep left some =
      simple_again (Allocate a xs) l left _ rest refl some (then_is _ _ _ _ (array_again s x a k (sign_at m sign.Open ∷ ws) e) (then_is _ _ _ _ (slots_line_again s xs m h ws rest is few) refl))
  statement_again inner depth reads _ _ _ (IsStatement.deallocate {name = x} {slots = xs} {a = a} {l = l} {k = k} {m = m} {h = h} {ws = ws} {rest = rest} e is few) deep left some =
      simple_again (Deallocate a xs) l left _ rest refl some (then_is _ _ _ _ (array_again s x a k (sign_at m sign.Open ∷ ws) e) (then_is _ _ _ _ (slots_line_again s xs m h ws rest is few) refl))
  statement_again inner depth reads _ _ _ (IsStatement.collective {into = into} {from = from} {x = x} {y = y} {l = l} {k = k} {m = m} {h = h} {j = j} {rest = rest} e f) deep left some =
      simple_again (Collective x y) l left _ rest refl some (then_is _ _ _ _ (scalar_again s into x k (sign_at m sign.PlusEquals ∷ at h (Name from) ∷ at j LineEnd ∷ rest) e) (then_is _ _ _ _ (scalar_again s from y h (at j LineEnd ∷ rest) f) refl))
  statement_again inner depth reads _ _ _ (IsStatement.sip_barrier {l = l} {k = k} {rest = rest}) deep left some = simple_again SipBarrier l left _ rest refl some refl
  statement_again inner depth reads _ _ _ (IsStatement.server_barrier {l = l} {k = k} {rest = rest}) deep left some = simple_again ServerBarrier l left _ rest refl some refl
  statement_again inner depth reads _ _ _ (IsStatement.print {text = text} {l = l} {k = k} {m = m} {rest = rest}) deep left some = simple_again (Print text) l left _ rest refl some refl
  statement_again inner depth reads _ _ _ (IsStatement.print_scalar {name = x} {x = n} {l = l} {k = k} {m = m} {h = h} {rest = rest} e) deep left some =
      simple_again (PrintScalar n) l left _ rest refl some (then_is _ _ _ _ (scalar_again s x n m (at h LineEnd ∷ rest) e) refl)
  statement_again inner depth reads _ _ _ (IsStatement.integrals {b = b} {l = l} {k = k} {h = h} {ws = ws} {rest = rest} g) deep left some = simple_again (Integrals b) l left _ rest refl some (then_is _ _ _ _ (block_line_again s b h ws rest g) refl)

  -- statements up to an end word
  module _ (one : (left : ℕ) → List Word → Read (Plain × ℕ)) (depth : ℕ) (reads : (form : Plain) (ws rest : List Word) → IsStatement s form ws rest → nesting form ≤ depth → (left : ℕ) → statements_in form ≤ left → one left ws ≡ stated form left rest) where
    turns_again : (b : Block) (ws rest : List Word) → IsBody s b ws rest → body_nesting b ≤ depth → (left : ℕ) → statements b ≤ left → (n : ℕ) → statements b < n → (front : List (ℕ × Plain)) → turns one n front left ws ≡ Ok ((front ++ forms_of b, left - statements b), rest)
    unfolding turns
    turns_again _ _ _ (IsBody.none e) deep left some zero few front = absurd (omega (arith, few))
    turns_again _ _ _ (IsBody.none {w = w} {ws = ws} e) deep left some (suc n) few front =
        turn_shape one n front left w ws ∙ if_true (ends_body w.symbol) _ _ _ e (ap (λ xs. Ok ((xs, left), w ∷ ws)) (sym (append-nil front)) ∙ (let k : left ≡ left - 0 = omega arith in ap (λ m. Ok ((front ++ [], m), w ∷ ws)) k))
    turns_again _ _ _ (IsBody.more h others) deep left some zero few front = absurd (omega (arith, few))
    turns_again _ _ _ (IsBody.more {form = form} {others = o} {w = w} {ws = ws} {between = between} {rest = rest} h others) deep left some (suc n) few front =
        let left_after : (left - statements_in form) - statements o ≡ left - (statements_in form + statements o) = omega (arith, some) in
        turn_shape one n front left w ws ∙ if_false (ends_body w.symbol) _ _ _ (begins form (w ∷ ws) between h)
        (then_is _ _ _ _ (reads form (w ∷ ws) between h (omega (arith, deep)) left (omega (arith, some)))
        (turns_again o between rest others (omega (arith, deep)) (left - statements_in form) (omega (arith, some)) n (omega (arith, few, one_at_least form)) (front ++ (w.line, form) ∷ [])
        ∙ ap (λ xs. Ok ((xs, (left - statements_in form) - statements o), rest)) (append_assoc front ((w.line, form) ∷ []) (forms_of o)) ∙ ap (λ m. Ok ((front ++ ((w.line, form) ∷ forms_of o), m), rest)) left_after))

  -- a body
  pub body_again : (depth : ℕ) (b : Block) (ws rest : List Word) → IsBody s b ws rest → body_nesting b ≤ depth → (left : ℕ) → statements b ≤ left → body depth true s left ws ≡ Ok ((forms_of b, left - statements b), rest)
  unfolding body
  body_again zero b ws rest h deep left some = turns_again (statement true s None) zero (λ form ws rest h deep left some. statement_again None zero refl form ws rest h deep left some) b ws rest h deep left some (left + 1) (omega (arith, some)) []
  body_again (suc d) b ws rest h deep left some =
      turns_again (statement true s (Some (body d true s))) (suc d) (λ form ws rest h deep left some. statement_again (Some (body d true s)) (suc d) (d, refl, λ b ws rest h deep left some. body_again d b ws rest h deep left some) form ws rest h deep left some) b ws rest h deep left some (left + 1) (omega (arith, some)) []
