-- What stands with its words is read: lists of indices, blocks, operands, conditions, ends.
use Rattle.std.proofs.Common.{◌≡◌, ℕ, zero, suc, ◌+◌, ◌<◌, ◌≤◌, List, [], ◌∷◌, ◌++◌, Bool, true, false, cond, ◌==◌, length, Some, Result, Ok, refl, sym, ap, ◌∙◌, append_assoc, append-nil, arith}
use Rattle.std.specs.Str.{bytes_eq}
use Rattle.std.proofs.lemmas.Bool.{eqb-false}
use Rattle.std.proofs.lemmas.Slice.Eq.{bytes_eq-Decides}
use Rattle.sial_syntax.specs.Limits.{most_rank}
use Rattle.sial_syntax.specs.declared.access.Access.{Access}
use Rattle.sial_syntax.specs.declared.condition.Cond.{Cond}
use Rattle.sial_syntax.specs.declared.condition.Test.{Test}
use Rattle.sial_syntax.specs.declared.condition.Value.{Value}
use Rattle.sial_syntax.specs.declared.operand.Bin.{Bin}
use Rattle.sial_syntax.specs.declared.operand.BlockRef.{BlockRef}
use Rattle.sial_syntax.specs.declared.operand.Operand.{Operand}
use Rattle.sial_syntax.specs.declared.operand.Right.{Right}
use Rattle.sial_syntax.specs.declared.operand.Slot.{Slot}
use Rattle.sial_syntax.specs.declared.operand.Slot.TheVariants.{At}
use Rattle.sial_syntax.specs.declared.operand.Target.{Target}
use Rattle.sial_parser.specs.Grammar.{at, sign_at, go_on_with_open, is_where, AreIndices, AreDims, IsBlock, IsSlot, AreSlots, IsNumber, IsOperand, IsBin, IsRight, IsValue, IsTest, IsCond, IsTarget, IsAccess, IsNamedEnd, IsListedEnd, AreWheres}
use Rattle.sial_parser.specs.Parsing.{◌>>=◌, index, index_by, array, array_by, scalar, scalar_by, goes_on, index_and, indices, dims, block, block_line, slot, slot_and, slots, slots_line, operand_at, alone, is_next, ends_operand, ends_target, bin_of, test_of, right, right_by, value_at, value_of, condition, cond_by, access, named_end, is_index, listed, listed_end, wheres, target_at, is_comma, is_line_end, closes}
use Rattle.sial_parser.specs.Scope.{Scope, thing_of, IsIndex, IsArray, IsScalar}
use Rattle.sial_parser.specs.declared.fault.ParseFault.{ParseFault}
use Rattle.sial_parser.proofs.Shapes.{where_shape}
use Rattle.sial_parser.specs.declared.keyword.Keyword.TheVariants as key
use Rattle.sial_parser.specs.declared.sign.Sign.{Sign}
use Rattle.sial_parser.specs.declared.sign.Sign.TheVariants as sign
use Rattle.sial_parser.specs.declared.word.Symbol.{Symbol}
use Rattle.sial_parser.specs.declared.word.Symbol.TheVariants.{Key, Name, Number, Quoted, LineEnd, End}
use Rattle.sial_parser.specs.declared.word.Symbol.TheVariants as symbol
use Rattle.sial_parser.specs.declared.word.Word.{Word}

-- a reading that gives something, and one that goes on from it
pub then_is : {A B : Type 0} (r : Result A ParseFault) (y : A) (f : A → Result B ParseFault) (z : Result B ParseFault) → r ≡ Ok y → f y ≡ z → (r >>= f) ≡ z
then_is r y f z e next = ap (λ x. x >>= f) e ∙ next

-- a choice whose test is known
pub if_true : {A : Type 0} (b : Bool) (x y z : A) → b ≡ true → x ≡ z → cond b x y ≡ z
if_true b x y z e next = ap (λ c. cond c x y) e ∙ next

pub if_false : {A : Type 0} (b : Bool) (x y z : A) → b ≡ false → y ≡ z → cond b x y ≡ z
if_false b x y z e next = ap (λ c. cond c x y) e ∙ next

pub bytes_same : (x : List ℕ) → bytes_eq x x ≡ true
bytes_same x = (bytes_eq-Decides x x).1 refl

module _ (s : Scope) where
  pub index_again : (x : List ℕ) (i l : ℕ) (rest : List Word) → IsIndex s x i → index s (at l (Name x) ∷ rest) ≡ Ok (i, rest)
  unfolding index
  index_again x i l rest e = ap (λ t. index_by l t >>= λ i. Ok (i, rest)) e

  pub array_again : (x : List ℕ) (i l : ℕ) (rest : List Word) → IsArray s x i → array s (at l (Name x) ∷ rest) ≡ Ok (i, rest)
  unfolding array
  array_again x i l rest e = ap (λ t. array_by l t >>= λ i. Ok (i, rest)) e

  pub scalar_again : (x : List ℕ) (i l : ℕ) (rest : List Word) → IsScalar s x i → scalar s (at l (Name x) ∷ rest) ≡ Ok (i, rest)
  unfolding scalar
  scalar_again x i l rest e = ap (λ t. scalar_by l t >>= λ i. Ok (i, rest)) e

pub comma_again : (test : Symbol → Bool) (k : ℕ) (rest : List Word) → goes_on test (sign_at k sign.Comma ∷ rest) ≡ Ok (true, rest)
unfolding goes_on
comma_again test k rest = refl

pub closing_again : (test : Symbol → Bool) (what : Symbol) (k : ℕ) (rest : List Word) → is_comma what ≡ false → test what ≡ true → goes_on test (at k what ∷ rest) ≡ Ok (false, rest)
unfolding goes_on
closing_again test what k rest e f = if_false (is_comma what) _ _ _ e (if_true (test what) _ _ _ f refl)

module _ (s : Scope) where
  module _ (test : Symbol → Bool) (closing : Symbol) (comma : is_comma closing ≡ false) (closed : test closing ≡ true) where
    index_last : (x : List ℕ) (i l k : ℕ) (rest : List Word) → IsIndex s x i → index_and s test (at l (Name x) ∷ at k closing ∷ rest) ≡ Ok ((i, false), rest)
    unfolding index_and
    index_last x i l k rest e = then_is _ _ _ _ (index_again s x i l (at k closing ∷ rest) e) (then_is _ _ _ _ (closing_again test closing k rest comma closed) refl)

    index_more : (x : List ℕ) (i l k : ℕ) (ws : List Word) → IsIndex s x i → index_and s test (at l (Name x) ∷ sign_at k sign.Comma ∷ ws) ≡ Ok ((i, true), ws)
    unfolding index_and
    index_more x i l k ws e = then_is _ _ _ _ (index_again s x i l (sign_at k sign.Comma ∷ ws) e) (then_is _ _ _ _ (comma_again test k ws) refl)

    pub indices_again : (is : List ℕ) (ws rest : List Word) → AreIndices s closing is ws rest → (room : ℕ) → length is ≤ room → (front : List ℕ) → indices s test room front ws ≡ Ok (front ++ is, rest)
    unfolding indices
    indices_again _ _ _ (AreIndices.last {name = x} {i = i} {l = l} {k = k} {rest = rest} e) zero few front = absurd (omega (arith, few))
    indices_again _ _ _ (AreIndices.last {name = x} {i = i} {l = l} {k = k} {rest = rest} e) (suc room) few front =
        then_is _ _ _ _ (index_last x i l k rest e) refl
    indices_again _ _ _ (AreIndices.more {name = x} {i = i} {l = l} {k = k} {is = is} {ws = ws} {rest = rest} e others) zero few front = absurd (omega (arith, few))
    indices_again _ _ _ (AreIndices.more {name = x} {i = i} {l = l} {k = k} {is = is} {ws = ws} {rest = rest} e others) (suc room) few front =
        then_is _ _ _ _ (index_more x i l k ws e) (indices_again is ws rest others room (omega (arith, few)) (front ++ i ∷ []) ∙ ap (λ xs. Ok (xs, rest)) (append_assoc front (i ∷ []) is))

  pub dims_again : (is : List ℕ) (ws rest : List Word) → AreDims s is ws rest → dims s ws ≡ Ok (is, rest)
  unfolding dims
  dims_again _ _ _ (AreDims.dims {is = is} {ws = ws} {rest = rest} h few) = indices_again closes (symbol.Sign sign.Close) refl refl is ws rest h most_rank few []

  pub block_again : (b : BlockRef) (ws rest : List Word) → IsBlock s b ws rest → block s ws ≡ Ok (b, rest)
  unfolding block
  block_again _ _ _ (IsBlock.block {name = x} {a = a} {l = l} {is = is} {ws = ws} {rest = rest} e h) = then_is _ _ _ _ (array_again s x a l ws e) (then_is _ _ _ _ (dims_again is ws rest h) refl)

  pub block_line_again : (b : BlockRef) (k : ℕ) (ws rest : List Word) → IsBlock s b ws (at k LineEnd ∷ rest) → block_line s ws ≡ Ok (b, rest)
  block_line_again b k ws rest h = then_is (block s ws) _ _ _ (block_again b ws (at k LineEnd ∷ rest) h) refl

  slot_again : (x : Slot) (what : Symbol) (l : ℕ) (ws : List Word) → IsSlot s x what → slot s (at l what ∷ ws) ≡ Ok (x, ws)
  unfolding slot
  slot_again _ _ l ws (IsSlot.one {name = x} {i = i} e) = ap (λ t. index_by l t >>= λ i. Ok (At i, ws)) e
  slot_again _ _ l ws IsSlot.all = refl

  slot_last : (x : Slot) (what : Symbol) (l k : ℕ) (rest : List Word) → IsSlot s x what → slot_and s (at l what ∷ sign_at k sign.Close ∷ rest) ≡ Ok ((x, false), rest)
  unfolding slot_and
  slot_last x what l k rest e = then_is _ _ _ _ (slot_again x what l (sign_at k sign.Close ∷ rest) e) (then_is _ _ _ _ (closing_again closes (symbol.Sign sign.Close) k rest refl refl) refl)

  slot_more : (x : Slot) (what : Symbol) (l k : ℕ) (ws : List Word) → IsSlot s x what → slot_and s (at l what ∷ sign_at k sign.Comma ∷ ws) ≡ Ok ((x, true), ws)
  unfolding slot_and
  slot_more x what l k ws e = then_is _ _ _ _ (slot_again x what l (sign_at k sign.Comma ∷ ws) e) (then_is _ _ _ _ (comma_again closes k ws) refl)

  pub slots_again : (xs : List Slot) (ws rest : List Word) → AreSlots s xs ws rest → (room : ℕ) → length xs ≤ room → (front : List Slot) → slots s room front ws ≡ Ok (front ++ xs, rest)
  unfolding slots
  slots_again _ _ _ (AreSlots.last {slot = x} {what = what} {l = l} {k = k} {rest = rest} e) zero few front = absurd (omega (arith, few))
  slots_again _ _ _ (AreSlots.last {slot = x} {what = what} {l = l} {k = k} {rest = rest} e) (suc room) few front =
      then_is _ _ _ _ (slot_last x what l k rest e) refl
  slots_again _ _ _ (AreSlots.more {slot = x} {what = what} {l = l} {k = k} {slots = xs} {ws = ws} {rest = rest} e others) zero few front = absurd (omega (arith, few))
  slots_again _ _ _ (AreSlots.more {slot = x} {what = what} {l = l} {k = k} {slots = xs} {ws = ws} {rest = rest} e others) (suc room) few front =
      then_is _ _ _ _ (slot_more x what l k ws e) (slots_again xs ws rest others room (omega (arith, few)) (front ++ x ∷ []) ∙ ap (λ ys. Ok (ys, rest)) (append_assoc front (x ∷ []) xs))

  pub slots_line_again : (xs : List Slot) (m h : ℕ) (ws rest : List Word) → AreSlots s xs ws (at h LineEnd ∷ rest) → length xs ≤ most_rank → slots_line s (sign_at m sign.Open ∷ ws) ≡ Ok (xs, rest)
  unfolding slots_line
  slots_line_again xs m h ws rest e few = then_is _ _ _ _ (slots_again xs ws (at h LineEnd ∷ rest) e most_rank few []) refl

  -- a name alone, before what fits
  alone_again : (x : List ℕ) (n l : ℕ) (fits : Bool) (rest : List Word) → IsScalar s x n → fits ≡ true → alone l fits (thing_of s x) rest ≡ Ok (n, rest)
  alone_again x n l fits rest e f = ap (λ b. alone l b (thing_of s x) rest) f ∙ ap (λ t. scalar_by l t >>= λ n. Ok (n, rest)) e

  pub operand_again : (o : Operand) (ws rest : List Word) → IsOperand s o ws rest → is_next ends_operand rest ≡ true → operand_at s ws ≡ Ok (o, rest)
  unfolding operand_at
  operand_again _ _ _ (IsOperand.number IsNumber.plain) fits = refl
  operand_again _ _ _ (IsOperand.number IsNumber.minus) fits = refl
  operand_again _ _ _ (IsOperand.scalar {name = x} {x = n} {l = l} {rest = rest} e no_list) fits = if_false (go_on_with_open rest) _ _ _ no_list (then_is _ _ _ _ (alone_again x n l (is_next ends_operand rest) rest e fits) refl)
  operand_again _ _ _ (IsOperand.block {b = b} {ws = ws} {rest = rest} (IsBlock.block {name = x} {a = a} {l = l} {is = is} {ws = ws2} e (AreDims.dims {l = k} {ws = ws3} h few))) fits =
      then_is _ _ _ _ (block_again b ws rest (IsBlock.block e (AreDims.dims h few))) refl

  bin_is : (how : Bin) (what : Sign) → IsBin how what → bin_of (symbol.Sign what) ≡ Some how
  bin_is _ _ IsBin.plus = refl
  bin_is _ _ IsBin.minus = refl
  bin_is _ _ IsBin.times = refl
  bin_is _ _ IsBin.outer = refl

  bin_ends : (how : Bin) (what : Sign) → IsBin how what → ends_operand (symbol.Sign what) ≡ true
  bin_ends _ _ IsBin.plus = refl
  bin_ends _ _ IsBin.minus = refl
  bin_ends _ _ IsBin.times = refl
  bin_ends _ _ IsBin.outer = refl

  pub right_again : (r : Right) (ws rest : List Word) → IsRight s r ws rest → right s ws ≡ Ok (r, rest)
  unfolding right
  right_again _ _ _ (IsRight.one {a = a} {l = l} {ws = ws} {rest = rest} h) = then_is _ _ _ _ (operand_again a ws (at l LineEnd ∷ rest) h refl) refl
  right_again _ _ _ (IsRight.two {a = a} {b = b} {how = how} {what = what} {l = l} {k = k} {ws = ws} {between = between} {rest = rest} h is g) =
      then_is _ _ _ _ (operand_again a ws (sign_at l what ∷ between) h (bin_ends how what is))
      (ap (λ t. right_by s a t (sign_at l what) between) (bin_is how what is) ∙ then_is _ _ _ _ (operand_again b between (at k LineEnd ∷ rest) g refl) refl)

  pub value_again : (v : Value) (ws rest : List Word) → IsValue s v ws rest → value_at s ws ≡ Ok (v, rest)
  unfolding value_at
  value_again _ _ _ (IsValue.number IsNumber.plain) = refl
  value_again _ _ _ (IsValue.number IsNumber.minus) = refl
  value_again _ _ _ (IsValue.scalar {name = x} {l = l} {rest = rest} e) = ap (λ t. value_of l t >>= λ v. Ok (v, rest)) e
  value_again _ _ _ (IsValue.index {name = x} {l = l} {rest = rest} e) = ap (λ t. value_of l t >>= λ v. Ok (v, rest)) e

  test_is : (how : Test) (what : Sign) → IsTest how what → test_of (symbol.Sign what) ≡ Some how
  test_is _ _ IsTest.less = refl
  test_is _ _ IsTest.less_equal = refl
  test_is _ _ IsTest.greater = refl
  test_is _ _ IsTest.greater_equal = refl
  test_is _ _ IsTest.equal = refl
  test_is _ _ IsTest.not_equal = refl

  pub condition_again : (c : Cond) (ws rest : List Word) → IsCond s c ws rest → condition s ws ≡ Ok (c, rest)
  unfolding condition
  condition_again _ _ _ (IsCond.cond {a = a} {b = b} {how = how} {what = what} {l = l} {k = k} {ws = ws} {between = between} {rest = rest} h is g) =
      then_is _ _ _ _ (value_again a ws (sign_at l what ∷ between) h)
      (ap (λ t. cond_by s a t (sign_at l what) between) (test_is how what is) ∙ then_is _ _ _ _ (value_again b between (at k LineEnd ∷ rest) g) refl)

  pub target_again : (t : Target) (ws rest : List Word) → IsTarget s t ws rest → is_next ends_target rest ≡ true → target_at s ws ≡ Ok (t, rest)
  unfolding target_at
  target_again _ _ _ (IsTarget.scalar {name = x} {x = n} {l = l} {rest = rest} e no_list) fits = if_false (go_on_with_open rest) _ _ _ no_list (then_is _ _ _ _ (alone_again x n l (is_next ends_target rest) rest e fits) refl)
  target_again _ _ _ (IsTarget.block {b = b} {ws = ws} {rest = rest} (IsBlock.block {name = x} {a = a} {l = l} {is = is} {ws = ws2} e (AreDims.dims {l = k} {ws = ws3} h few))) fits =
      then_is _ _ _ _ (block_again b ws rest (IsBlock.block e (AreDims.dims h few))) refl

  pub access_again : (how : Access) (ws rest : List Word) → IsAccess how ws rest → access ws ≡ Ok (how, rest)
  unfolding access
  access_again _ _ _ IsAccess.store = refl
  access_again _ _ _ IsAccess.add = refl
  access_again _ _ _ IsAccess.greatest = refl

  pub named_end_again : (opener : List ℕ) (ws rest : List Word) → IsNamedEnd opener ws rest → named_end opener ws ≡ Ok rest
  unfolding named_end
  named_end_again _ _ _ IsNamedEnd.bare = refl
  named_end_again opener _ _ IsNamedEnd.named = if_true (bytes_eq opener opener) _ _ _ (bytes_same opener) refl

  same_by : (i : ℕ) (b : Bool) → i == i ≡ b → i == i ≡ true
  same_by i true e = e
  same_by i false e = absurd (eqb-false i i e refl)

  index_test : (x : List ℕ) (i : ℕ) → IsIndex s x i → is_index i (thing_of s x) ≡ true
  index_test x i e = ap (is_index i) e ∙ same_by i (i == i) refl

  listed_again : (is : List ℕ) (ws rest : List Word) → AreIndices s LineEnd is ws rest → listed s is ws ≡ Ok rest
  unfolding listed
  listed_again _ _ _ (AreIndices.last {name = x} {i = i} {l = l} {k = k} {rest = rest} e) = if_true (is_index i (thing_of s x)) _ _ _ (index_test x i e) (then_is _ _ _ _ (closing_again is_line_end LineEnd k rest refl refl) refl)
  listed_again _ _ _ (AreIndices.more {name = x} {i = i} {l = l} {k = k} {is = is} {ws = ws} {rest = rest} e others) =
      if_true (is_index i (thing_of s x)) _ _ _ (index_test x i e) (then_is _ _ _ _ (comma_again is_line_end k ws) (listed_again is ws rest others))

  pub listed_end_again : (is : List ℕ) (ws rest : List Word) → IsListedEnd s is ws rest → listed_end s is ws ≡ Ok rest
  unfolding listed_end
  listed_end_again is _ _ IsListedEnd.bare = refl
  listed_end_again _ _ _ (IsListedEnd.listed (AreIndices.last {name = x} {i = i} {l = l} {k = k} {rest = rest} e)) = listed_again (i ∷ []) (at l (Name x) ∷ at k LineEnd ∷ rest) rest (AreIndices.last e)
  listed_end_again _ _ _ (IsListedEnd.listed (AreIndices.more {name = x} {i = i} {l = l} {k = k} {is = is} {ws = ws} {rest = rest} e others)) = listed_again (i ∷ is) (at l (Name x) ∷ sign_at k sign.Comma ∷ ws) rest (AreIndices.more e others)

  -- a condition takes words
  number_short : (n : ℕ) (ws rest : List Word) → IsNumber n ws rest → length rest ≤ length ws
  number_short _ _ _ IsNumber.plain = omega arith
  number_short _ _ _ IsNumber.minus = omega arith

  value_short : (v : Value) (ws rest : List Word) → IsValue s v ws rest → length rest ≤ length ws
  value_short _ _ _ (IsValue.number {n = n} {ws = ws} {rest = rest} h) = number_short n ws rest h
  value_short _ _ _ (IsValue.scalar e) = omega arith
  value_short _ _ _ (IsValue.index e) = omega arith

  pub cond_short : (c : Cond) (ws rest : List Word) → IsCond s c ws rest → length rest ≤ length ws
  cond_short _ _ _ (IsCond.cond {a = a} {b = b} {what = what} {l = l} {k = k} {ws = ws} {between = between} {rest = rest} h is g) =
      let one : length between + 1 ≤ length ws = omega (arith, value_short a ws (sign_at l what ∷ between) h) in
      let two : length rest + 1 ≤ length between = omega (arith, value_short b between (at k LineEnd ∷ rest) g) in
      omega arith

  wheres_short : (cs : List Cond) (ws rest : List Word) → AreWheres s cs ws rest → length cs ≤ length ws
  wheres_short _ _ _ (AreWheres.none e) = omega arith
  wheres_short _ _ _ (AreWheres.more {c = c} {cs = cs} {ws = ws} {between = between} {rest = rest} h others) = omega (arith, cond_short c ws between h, wheres_short cs between rest others)

  wheres_from : (cs : List Cond) (ws rest : List Word) → AreWheres s cs ws rest → (n : ℕ) → length cs < n → (front : List Cond) → wheres s n front ws ≡ Ok (front ++ cs, rest)
  unfolding wheres
  wheres_from _ _ _ (AreWheres.none {w = w} {ws = ws} e) zero few front = absurd (omega (arith, few))
  wheres_from _ _ _ (AreWheres.none {w = w} {ws = ws} e) (suc n) few front = where_shape s n front w ws ∙ if_false (is_where w.symbol) _ _ _ e (ap (λ xs. Ok (xs, w ∷ ws)) (sym (append-nil front)))
  wheres_from _ _ _ (AreWheres.more {c = c} {cs = cs} {ws = ws} {between = between} {rest = rest} h others) zero few front = absurd (omega (arith, few))
  wheres_from _ _ _ (AreWheres.more {c = c} {cs = cs} {l = l} {ws = ws} {between = between} {rest = rest} h others) (suc n) few front =
      where_shape s n front (at l (Key key.Where)) ws ∙ then_is _ _ _ _ (condition_again c ws between h) (wheres_from cs between rest others n (omega (arith, few)) (front ++ c ∷ []) ∙ ap (λ xs. Ok (xs, rest)) (append_assoc front (c ∷ []) cs))

  pub wheres_again : (cs : List Cond) (ws rest : List Word) → AreWheres s cs ws rest → wheres s (length ws + 1) [] ws ≡ Ok (cs, rest)
  wheres_again cs ws rest h = wheres_from cs ws rest h (length ws + 1) (omega (arith, wheres_short cs ws rest h)) []
