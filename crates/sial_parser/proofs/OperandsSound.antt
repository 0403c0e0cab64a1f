-- What is read as a list of indices, a block, an operand or a condition stands with its words.
use Rattle.std.proofs.Common.{◌≡◌, ℕ, zero, suc, ◌≤◌, List, [], ◌∷◌, ◌++◌, Bool, true, false, cond, length, Option, Some, None, Ok, refl, sym, ◌∙◌, subst, append_assoc, arith}
use Rattle.std.proofs.lemmas.Slice.Eq.{bytes_eq-Decides}
use Rattle.sial_syntax.specs.Limits.{most_rank}
use Rattle.std.specs.Prelude.{codes}
use Rattle.std.specs.Str.{bytes_eq}
use Rattle.sial_syntax.specs.declared.access.Access.TheVariants.{Max}
use Rattle.sial_syntax.specs.declared.condition.Test.{Test}
use Rattle.sial_syntax.specs.declared.condition.Test.TheVariants as test
use Rattle.sial_syntax.specs.declared.operand.Bin.TheVariants as bin
use Rattle.sial_parser.specs.declared.sign.Sign.{Sign}
use Rattle.sial_syntax.specs.declared.condition.Value.{Value}
use Rattle.sial_syntax.specs.declared.operand.Bin.{Bin}
use Rattle.sial_syntax.specs.declared.operand.Operand.{Operand}
use Rattle.sial_syntax.specs.declared.operand.Operand.TheVariants as operand
use Rattle.sial_syntax.specs.declared.operand.Right.TheVariants.{Two}
use Rattle.sial_syntax.specs.declared.operand.Slot.{Slot}
use Rattle.sial_syntax.specs.declared.operand.Slot.TheVariants.{At}
use Rattle.sial_syntax.specs.declared.operand.Target.TheVariants as target
use Rattle.sial_parser.specs.Grammar.{at, sign_at, opens, go_on_with_open, negative, AreIndices, AreDims, IsBlock, IsSlot, AreSlots, IsNumber, IsOperand, IsBin, IsRight, IsValue, IsTest, IsCond, IsTarget, IsAccess}
use Rattle.sial_parser.specs.Parsing.{◌>>=◌, Read, unexpected, line_of, skip, index, index_by, array, array_by, scalar, scalar_by, goes_on, index_and, indices, dims, block, block_line, slot, slot_by, slot_and, slots, slots_line, number, number_by, operand_at, operand_by, alone, known, is_next, ends_operand, ends_target, bin_of, right, right_by, right_after, value_at, value_by, value_of, test_of, condition, cond_by, cond_after, access, access_by, target_at, target_by, is_comma, is_line_end, is_equals, closes}
use Rattle.sial_parser.specs.Scope.{Scope, thing_of, IsIndex, IsArray, IsScalar}
use Rattle.sial_parser.specs.declared.sign.Sign.TheVariants as sign
use Rattle.sial_parser.specs.declared.thing.Thing.{Thing}
use Rattle.sial_parser.specs.declared.thing.Thing.TheVariants as thing
use Rattle.sial_parser.specs.declared.word.Symbol.{Symbol}
use Rattle.sial_parser.specs.declared.word.Symbol.TheVariants.{Key, Name, Number, Quoted, LineEnd, End}
use Rattle.sial_parser.specs.declared.word.Symbol.TheVariants as symbol
use Rattle.sial_parser.specs.declared.word.Word.{Word}
use Rattle.sial_parser.proofs.Rights.{Right, right_then, right_map, Says, skip_then, skip_after, name_then, opens_says, closes_says, comma_says, line_end_says, equals_says}

-- a name at the front, of which something holds
pub record Named (holds : List ℕ → Type 0) (ws rest : List Word) : Type 0 where
  pub line : ℕ
  pub name : List ℕ
  pub words : ws ≡ at line (Name name) ∷ rest
  pub is : holds name

module _ (s : Scope) where
  by_index : (l : ℕ) (x : List ℕ) (rest : List Word) (line : ℕ) (t : Option Thing) → thing_of s x ≡ t → Right (λ i rest2. Named (λ name. IsIndex s name i) (at l (Name x) ∷ rest) rest2) (index_by line t >>= λ i. Ok (i, rest))
  by_index l x rest line (Some (thing.Index i)) e = record { line = l; name = x; words = refl; is = e }
  by_index l x rest line (Some (thing.Array i)) e = tt
  by_index l x rest line (Some (thing.Scalar i)) e = tt
  by_index l x rest line (Some (thing.Proc i)) e = tt
  by_index l x rest line None e = tt

  index_right : (ws : List Word) → Right (λ i rest. Named (λ name. IsIndex s name i) ws rest) (index s ws)
  unfolding index
  index_right ws = name_then (λ w i rest. Named (λ name. IsIndex s name i) w rest) ws _ (λ l x rest. by_index l x rest (line_of ws) (thing_of s x) refl)

  by_array : (l : ℕ) (x : List ℕ) (rest : List Word) (line : ℕ) (t : Option Thing) → thing_of s x ≡ t → Right (λ i rest2. Named (λ name. IsArray s name i) (at l (Name x) ∷ rest) rest2) (array_by line t >>= λ i. Ok (i, rest))
  by_array l x rest line (Some (thing.Array i)) e = record { line = l; name = x; words = refl; is = e }
  by_array l x rest line (Some (thing.Index i)) e = tt
  by_array l x rest line (Some (thing.Scalar i)) e = tt
  by_array l x rest line (Some (thing.Proc i)) e = tt
  by_array l x rest line None e = tt

  array_right : (ws : List Word) → Right (λ i rest. Named (λ name. IsArray s name i) ws rest) (array s ws)
  unfolding array
  array_right ws = name_then (λ w i rest. Named (λ name. IsArray s name i) w rest) ws _ (λ l x rest. by_array l x rest (line_of ws) (thing_of s x) refl)

  by_scalar : (l : ℕ) (x : List ℕ) (rest : List Word) (line : ℕ) (t : Option Thing) → thing_of s x ≡ t → Right (λ i rest2. Named (λ name. IsScalar s name i) (at l (Name x) ∷ rest) rest2) (scalar_by line t >>= λ i. Ok (i, rest))
  by_scalar l x rest line (Some (thing.Scalar i)) e = record { line = l; name = x; words = refl; is = e }
  by_scalar l x rest line (Some (thing.Index i)) e = tt
  by_scalar l x rest line (Some (thing.Array i)) e = tt
  by_scalar l x rest line (Some (thing.Proc i)) e = tt
  by_scalar l x rest line None e = tt

  scalar_right : (ws : List Word) → Right (λ i rest. Named (λ name. IsScalar s name i) ws rest) (scalar s ws)
  unfolding scalar
  scalar_right ws = name_then (λ w i rest. Named (λ name. IsScalar s name i) w rest) ws _ (λ l x rest. by_scalar l x rest (line_of ws) (thing_of s x) refl)

-- a declared name taken, behind what was read before
module _ {B : Type 0} (s : Scope) (H : List Word → Type 0) (P : B → List Word → Type 0) (ws : List Word) (f : ℕ × List Word → Read B) (h : H ws) where
  pub index_after : ((l : ℕ) (x : List ℕ) (i : ℕ) (rest : List Word) → IsIndex s x i → H (at l (Name x) ∷ rest) → Right P (f (i, rest))) → Right P (index s ws >>= f)
  index_after go = right_then (λ i rest. Named (λ name. IsIndex s name i) ws rest) P (index s ws) f (index_right s ws) (λ i rest n. go n.line n.name i rest n.is (subst H n.words h))

  pub array_after : ((l : ℕ) (x : List ℕ) (i : ℕ) (rest : List Word) → IsArray s x i → H (at l (Name x) ∷ rest) → Right P (f (i, rest))) → Right P (array s ws >>= f)
  array_after go = right_then (λ i rest. Named (λ name. IsArray s name i) ws rest) P (array s ws) f (array_right s ws) (λ i rest n. go n.line n.name i rest n.is (subst H n.words h))

  pub scalar_after : ((l : ℕ) (x : List ℕ) (i : ℕ) (rest : List Word) → IsScalar s x i → H (at l (Name x) ∷ rest) → Right P (f (i, rest))) → Right P (scalar s ws >>= f)
  scalar_after go = right_then (λ i rest. Named (λ name. IsScalar s name i) ws rest) P (scalar s ws) f (scalar_right s ws) (λ i rest n. go n.line n.name i rest n.is (subst H n.words h))

-- a comma, or what closes a list
module _ {B : Type 0} (test : Symbol → Bool) (what : Symbol) (says : Says test what) (H : List Word → Type 0) (P : B → List Word → Type 0) where
  going : (b c : Bool) (w : Word) (ws : List Word) (f : Bool × List Word → Read B) → is_comma w.symbol ≡ b → test w.symbol ≡ c → H (w ∷ ws)
      → ((l : ℕ) (rest : List Word) → H (sign_at l sign.Comma ∷ rest) → Right P (f (true, rest))) → ((l : ℕ) (rest : List Word) → H (at l what ∷ rest) → Right P (f (false, rest)))
      → Right P (cond b (Ok (true, ws)) (cond c (Ok (false, ws)) (unexpected (w ∷ ws))) >>= f)
  going true c w ws f d e h more last = more w.line ws (subst (λ (s : Symbol). H (at w.line s ∷ ws)) (comma_says w.symbol d) h)
  going false true w ws f d e h more last = last w.line ws (subst (λ (s : Symbol). H (at w.line s ∷ ws)) (says w.symbol e) h)
  going false false w ws f d e h more last = tt

  pub goes_on_after : (ws : List Word) (f : Bool × List Word → Read B) → H ws → ((l : ℕ) (rest : List Word) → H (sign_at l sign.Comma ∷ rest) → Right P (f (true, rest))) → ((l : ℕ) (rest : List Word) → H (at l what ∷ rest) → Right P (f (false, rest)))
      → Right P (goes_on test ws >>= f)
  unfolding goes_on
  goes_on_after [] f h more last = tt
  goes_on_after (w ∷ ws) f h more last = going (is_comma w.symbol) (test w.symbol) w ws f refl refl h more last

-- indices behind those in front
pub record Listed {X : Type 0} (are : List X → Type 0) (room : ℕ) (front xs : List X) : Type 0 where
  pub more : List X
  pub all : xs ≡ front ++ more
  pub few : length more ≤ room
  pub is : are more

module _ (s : Scope) (test : Symbol → Bool) (what : Symbol) (says : Says test what) where
  -- an index and what goes on behind it
  record Going (i : ℕ) (more : Bool) (ws rest : List Word) : Type 0 where
    pub line : ℕ
    pub next : ℕ
    pub name : List ℕ
    pub is : IsIndex s name i
    pub words : at line (Name name) ∷ at next (cond more (symbol.Sign sign.Comma) what) ∷ rest ≡ ws

  index_and_right : (ws : List Word) → Right (λ x rest. Going x.0 x.1 ws rest) (index_and s test ws)
  unfolding index_and
  index_and_right ws = index_after s (λ w. w ≡ ws) (λ x rest. Going x.0 x.1 ws rest) ws _ refl (λ l x i rest e h.
      goes_on_after test what says (λ w. at l (Name x) ∷ w ≡ ws) (λ x rest. Going x.0 x.1 ws rest) rest _ h
      (λ k rest2 g. record { line = l; next = k; name = x; is = e; words = g })
      (λ k rest2 g. record { line = l; next = k; name = x; is = e; words = g }))

  index_step : (more : Bool) (i room : ℕ) (front : List ℕ) (ws mid : List Word) → Going i more ws mid
      → Right (λ is rest. Listed (λ more. AreIndices s what more mid rest) room (front ++ i ∷ []) is) (indices s test room (front ++ i ∷ []) mid)
      → Right (λ is rest. Listed (λ more. AreIndices s what more ws rest) (suc room) front is) (cond more (indices s test room (front ++ i ∷ []) mid) (Ok (front ++ i ∷ [], mid)))
  index_step true i room front ws mid g others =
      right_map (λ is rest. Listed (λ more. AreIndices s what more mid rest) room (front ++ i ∷ []) is) (λ is rest. Listed (λ more. AreIndices s what more ws rest) (suc room) front is) (indices s test room (front ++ i ∷ []) mid)
      (λ is rest m. record {
        more = i ∷ m.more;
        all = m.all ∙ append_assoc front (i ∷ []) m.more;
        few = omega (arith, m.few);
        is = subst (λ (w : List Word). AreIndices s what (i ∷ m.more) w rest) g.words (AreIndices.more g.is m.is);
      }) others
  index_step false i room front ws mid g others = record { more = i ∷ []; all = refl; few = omega arith; is = subst (λ (w : List Word). AreIndices s what (i ∷ []) w mid) g.words (AreIndices.last g.is) }

  pub indices_right : (room : ℕ) (front : List ℕ) (ws : List Word) → Right (λ is rest. Listed (λ more. AreIndices s what more ws rest) room front is) (indices s test room front ws)
  unfolding indices
  indices_right zero front ws = index_after s (λ w. Unit {0}) (λ is rest. Listed (λ more. AreIndices s what more ws rest) zero front is) ws _ tt (λ l x i rest e h. tt)
  indices_right (suc room) front ws =
      right_then (λ x rest. Going x.0 x.1 ws rest) (λ is rest. Listed (λ more. AreIndices s what more ws rest) (suc room) front is) (index_and s test ws) _ (index_and_right ws)
      (λ x mid g. index_step x.1 x.0 room front ws mid g (indices_right room (front ++ x.0 ∷ []) mid))

module _ (s : Scope) where
  pub dims_right : (ws : List Word) → Right (λ is rest. AreDims s is ws rest) (dims s ws)
  unfolding dims
  dims_right ws = skip_then opens (symbol.Sign sign.Open) opens_says (λ w is rest. AreDims s is w rest) ws _ (λ l rest.
      right_map (λ is rest2. Listed (λ more. AreIndices s (symbol.Sign sign.Close) more rest rest2) most_rank [] is) (λ is rest2. AreDims s is (sign_at l sign.Open ∷ rest) rest2) (indices s closes most_rank [] rest)
      (λ is rest2 m. AreDims.dims (subst (λ (x : List ℕ). AreIndices s (symbol.Sign sign.Close) x rest rest2) (sym m.all) m.is) (subst (λ (x : List ℕ). length x ≤ most_rank) (sym m.all) m.few))
      (indices_right s closes (symbol.Sign sign.Close) closes_says most_rank [] rest))

  pub block_right : (ws : List Word) → Right (λ b rest. IsBlock s b ws rest) (block s ws)
  unfolding block
  block_right ws = array_after s (λ w. w ≡ ws) (λ b rest. IsBlock s b ws rest) ws _ refl (λ l x a rest e h.
      right_then (λ is rest2. AreDims s is rest rest2) (λ b rest2. IsBlock s b ws rest2) (dims s rest) _ (dims_right rest)
      (λ is rest2 d. subst (λ (w : List Word). IsBlock s (record { array = a; at = is }) w rest2) h (IsBlock.block e d)))

  pub block_line_right : (ws : List Word) → Right (λ b rest. (l : ℕ) × IsBlock s b ws (at l LineEnd ∷ rest)) (block_line s ws)
  block_line_right ws = right_then (λ b rest. IsBlock s b ws rest) (λ b rest. (l : ℕ) × IsBlock s b ws (at l LineEnd ∷ rest)) (block s ws) _ (block_right ws)
      (λ b rest d. skip_after (λ w. IsBlock s b ws w) (λ c rest2. (l : ℕ) × IsBlock s c ws (at l LineEnd ∷ rest2)) is_line_end LineEnd line_end_says rest _ d (λ l rest2 d2. (l, d2)))

  -- a slot at the front
  record Slotted (slot : Slot) (ws rest : List Word) : Type 0 where
    pub line : ℕ
    pub what : Symbol
    pub words : ws ≡ at line what ∷ rest
    pub is : IsSlot s slot what

  slot_index : (l line : ℕ) (x : List ℕ) (ws : List Word) (t : Option Thing) → thing_of s x ≡ t → Right (λ slot rest. Slotted slot (at l (Name x) ∷ ws) rest) (index_by line t >>= λ i. Ok (At i, ws))
  slot_index l line x ws (Some (thing.Index i)) e = record { line = l; what = Name x; words = refl; is = IsSlot.one e }
  slot_index l line x ws (Some (thing.Array i)) e = tt
  slot_index l line x ws (Some (thing.Scalar i)) e = tt
  slot_index l line x ws (Some (thing.Proc i)) e = tt
  slot_index l line x ws None e = tt

  slot_symbol : (what : Symbol) (l : ℕ) (ws : List Word) → Right (λ slot rest. Slotted slot (at l what ∷ ws) rest) (slot_by s what (at l what) ws)
  slot_symbol (symbol.Sign sign.Times) l ws = record { line = l; what = symbol.Sign sign.Times; words = refl; is = IsSlot.all }
  slot_symbol (Name x) l ws = slot_index l l x ws (thing_of s x) refl
  slot_symbol _ l ws = tt

  slot_right : (ws : List Word) → Right (λ slot rest. Slotted slot ws rest) (slot s ws)
  unfolding slot
  slot_right [] = tt
  slot_right (w ∷ ws) = slot_symbol w.symbol w.line ws

  -- a slot and what goes on behind it
  record GoingSlot (x : Slot) (more : Bool) (ws rest : List Word) : Type 0 where
    pub line : ℕ
    pub next : ℕ
    pub what : Symbol
    pub is : IsSlot s x what
    pub words : at line what ∷ at next (cond more (symbol.Sign sign.Comma) (symbol.Sign sign.Close)) ∷ rest ≡ ws

  slot_and_right : (ws : List Word) → Right (λ x rest. GoingSlot x.0 x.1 ws rest) (slot_and s ws)
  unfolding slot_and
  slot_and_right ws = right_then (λ slot rest. Slotted slot ws rest) (λ x rest. GoingSlot x.0 x.1 ws rest) (slot s ws) _ (slot_right ws) (λ x rest e.
      goes_on_after closes (symbol.Sign sign.Close) closes_says (λ w. at e.line e.what ∷ w ≡ ws) (λ x rest. GoingSlot x.0 x.1 ws rest) rest _ (sym e.words)
      (λ k rest2 g. record { line = e.line; next = k; what = e.what; is = e.is; words = g })
      (λ k rest2 g. record { line = e.line; next = k; what = e.what; is = e.is; words = g }))

  slot_step : (more : Bool) (x : Slot) (room : ℕ) (front : List Slot) (ws mid : List Word) → GoingSlot x more ws mid
      → Right (λ xs rest. Listed (λ more. AreSlots s more mid rest) room (front ++ x ∷ []) xs) (slots s room (front ++ x ∷ []) mid)
      → Right (λ xs rest. Listed (λ more. AreSlots s more ws rest) (suc room) front xs) (cond more (slots s room (front ++ x ∷ []) mid) (Ok (front ++ x ∷ [], mid)))
  slot_step true x room front ws mid g others =
      right_map (λ xs rest. Listed (λ more. AreSlots s more mid rest) room (front ++ x ∷ []) xs) (λ xs rest. Listed (λ more. AreSlots s more ws rest) (suc room) front xs) (slots s room (front ++ x ∷ []) mid)
      (λ xs rest m. record {
        more = x ∷ m.more;
        all = m.all ∙ append_assoc front (x ∷ []) m.more;
        few = omega (arith, m.few);
        is = subst (λ (w : List Word). AreSlots s (x ∷ m.more) w rest) g.words (AreSlots.more g.is m.is);
      }) others
  slot_step false x room front ws mid g others = record { more = x ∷ []; all = refl; few = omega arith; is = subst (λ (w : List Word). AreSlots s (x ∷ []) w mid) g.words (AreSlots.last g.is) }

  pub slots_right : (room : ℕ) (front : List Slot) (ws : List Word) → Right (λ xs rest. Listed (λ more. AreSlots s more ws rest) room front xs) (slots s room front ws)
  unfolding slots
  slots_right zero front ws = right_then (λ slot rest. Slotted slot ws rest) (λ xs rest. Listed (λ more. AreSlots s more ws rest) zero front xs) (slot s ws) _ (slot_right ws) (λ x rest e. tt)
  slots_right (suc room) front ws =
      right_then (λ x rest. GoingSlot x.0 x.1 ws rest) (λ xs rest. Listed (λ more. AreSlots s more ws rest) (suc room) front xs) (slot_and s ws) _ (slot_and_right ws)
      (λ x mid g. slot_step x.1 x.0 room front ws mid g (slots_right room (front ++ x.0 ∷ []) mid))

  -- a slot list with its signs and its line end
  pub record SlotLine (xs : List Slot) (ws rest : List Word) : Type 0 where
    pub opening : ℕ
    pub ending : ℕ
    pub first : List Word
    pub words : ws ≡ sign_at opening sign.Open ∷ first
    pub is : AreSlots s xs first (at ending LineEnd ∷ rest)
    pub few : length xs ≤ most_rank

  pub slots_line_right : (ws : List Word) → Right (λ xs rest. SlotLine xs ws rest) (slots_line s ws)
  unfolding slots_line
  slots_line_right ws = skip_then opens (symbol.Sign sign.Open) opens_says (λ w xs rest. SlotLine xs w rest) ws _ (λ l first.
      right_then (λ xs rest. Listed (λ more. AreSlots s more first rest) most_rank [] xs) (λ xs rest. SlotLine xs (sign_at l sign.Open ∷ first) rest) (slots s most_rank [] first) _ (slots_right most_rank [] first) (λ xs rest m.
      skip_after (λ w. AreSlots s m.more first w) (λ ys rest2. SlotLine ys (sign_at l sign.Open ∷ first) rest2) is_line_end LineEnd line_end_says rest _ m.is (λ k rest2 h. record {
        opening = l;
        ending = k;
        first = first;
        words = refl;
        is = subst (λ (x : List Slot). AreSlots s x first (at k LineEnd ∷ rest2)) (sym m.all) h;
        few = subst (λ (x : List Slot). length x ≤ most_rank) (sym m.all) m.few;
      })))

  number_symbol : (what : Symbol) (l : ℕ) (ws : List Word) → Right (λ n rest. at l what ∷ ws ≡ at l (Number n) ∷ rest) (number_by what (at l what) ws)
  number_symbol (Number n) l ws = refl
  number_symbol _ l ws = tt

  -- a number behind a minus sign
  negative_right : (l : ℕ) (ws : List Word) → Right (λ n rest. IsNumber (negative n) (sign_at l sign.Minus ∷ ws) rest) (number ws)
  negative_right l [] = tt
  negative_right l (w ∷ ws) = right_map (λ n rest. w ∷ ws ≡ at w.line (Number n) ∷ rest) (λ n rest. IsNumber (negative n) (sign_at l sign.Minus ∷ w ∷ ws) rest) (number_by w.symbol w ws)
      (λ n rest e. subst (λ (v : List Word). IsNumber (negative n) (sign_at l sign.Minus ∷ v) rest) (sym e) IsNumber.minus) (number_symbol w.symbol w.line ws)

  -- a name alone is a scalar
  alone_scalar : (x : List ℕ) (line : ℕ) (t : Option Thing) (ws : List Word) → thing_of s x ≡ t → Right (λ n rest. IsScalar s x n × (rest ≡ ws)) (scalar_by line t >>= λ n. Ok (n, ws))
  alone_scalar x line (Some (thing.Scalar n)) ws e = (e, refl)
  alone_scalar x line (Some (thing.Index n)) ws e = tt
  alone_scalar x line (Some (thing.Array n)) ws e = tt
  alone_scalar x line (Some (thing.Proc n)) ws e = tt
  alone_scalar x line None ws e = tt

  alone_known : (x : List ℕ) (line : ℕ) (t : Option Thing) (ws : List Word) → Right (λ n rest. IsScalar s x n × (rest ≡ ws)) (known line t >>= λ n. unexpected ws)
  alone_known x line (Some (thing.Scalar n)) ws = tt
  alone_known x line (Some (thing.Index n)) ws = tt
  alone_known x line (Some (thing.Array n)) ws = tt
  alone_known x line (Some (thing.Proc n)) ws = tt
  alone_known x line None ws = tt

  alone_right : (x : List ℕ) (line : ℕ) (fits : Bool) (ws : List Word) → Right (λ n rest. IsScalar s x n × (rest ≡ ws)) (alone line fits (thing_of s x) ws)
  alone_right x line true ws = alone_scalar x line (thing_of s x) ws refl
  alone_right x line false ws = alone_known x line (thing_of s x) ws

  named_operand_right : (x : List ℕ) (l : ℕ) (ws : List Word) (b : Bool) → go_on_with_open ws ≡ b
      → Right (λ o rest. IsOperand s o (at l (Name x) ∷ ws) rest) (cond b (block s (at l (Name x) ∷ ws) >>= λ b. Ok (operand.Block b.0, b.1)) (alone l (is_next ends_operand ws) (thing_of s x) ws >>= λ x. Ok (operand.Scalar x.0, x.1)))
  named_operand_right x l ws true e = right_then (λ b rest. IsBlock s b (at l (Name x) ∷ ws) rest) (λ o rest. IsOperand s o (at l (Name x) ∷ ws) rest) (block s (at l (Name x) ∷ ws)) _ (block_right (at l (Name x) ∷ ws)) (λ b rest d. IsOperand.block d)
  named_operand_right x l ws false e = right_then (λ n rest. IsScalar s x n × (rest ≡ ws)) (λ o rest. IsOperand s o (at l (Name x) ∷ ws) rest) (alone l (is_next ends_operand ws) (thing_of s x) ws) _ (alone_right x l (is_next ends_operand ws) ws)
      (λ n rest h. subst (λ (r : List Word). IsOperand s (operand.Scalar n) (at l (Name x) ∷ ws) r) (sym h.1) (IsOperand.scalar h.0 e))

  operand_symbol : (what : Symbol) (l : ℕ) (ws : List Word) → Right (λ o rest. IsOperand s o (at l what ∷ ws) rest) (operand_by s what (at l what) ws)
  operand_symbol (Number n) l ws = IsOperand.number IsNumber.plain
  operand_symbol (symbol.Sign sign.Minus) l ws = right_then (λ n rest. IsNumber (negative n) (sign_at l sign.Minus ∷ ws) rest) (λ o rest. IsOperand s o (sign_at l sign.Minus ∷ ws) rest) (number ws) _ (negative_right l ws) (λ n rest h. IsOperand.number h)
  operand_symbol (Name x) l ws = named_operand_right x l ws (go_on_with_open ws) refl
  operand_symbol _ l ws = tt

  pub operand_right : (ws : List Word) → Right (λ o rest. IsOperand s o ws rest) (operand_at s ws)
  unfolding operand_at
  operand_right [] = tt
  operand_right (w ∷ ws) = operand_symbol w.symbol w.line ws

  -- behind the first operand
  module _ (a : Operand) (start : List Word) where
    second : (how : Bin) (what : Sign) (l : ℕ) (ws : List Word) → IsBin how what → IsOperand s a start (sign_at l what ∷ ws) → Right (λ r rest. IsRight s r start rest) (operand_at s ws >>= λ b. skip is_line_end b.1 >>= λ rest. Ok (Two a how b.0, rest))
    second how what l ws is h = right_then (λ b rest. IsOperand s b ws rest) (λ r rest. IsRight s r start rest) (operand_at s ws) _ (operand_right ws) (λ b rest d.
        skip_after (λ w. IsOperand s b ws w) (λ r rest. IsRight s r start rest) is_line_end LineEnd line_end_says rest _ d (λ k rest2 d2. IsRight.two h is d2))

    after_symbol : (what : Symbol) (l : ℕ) (ws : List Word) → IsOperand s a start (at l what ∷ ws) → Right (λ r rest. IsRight s r start rest) (right_by s a (bin_of what) (at l what) ws)
    after_symbol (symbol.Sign sign.Plus) l ws h = second bin.Plus sign.Plus l ws IsBin.plus h
    after_symbol (symbol.Sign sign.Minus) l ws h = second bin.Minus sign.Minus l ws IsBin.minus h
    after_symbol (symbol.Sign sign.Times) l ws h = second bin.Times sign.Times l ws IsBin.times h
    after_symbol (symbol.Sign sign.Caret) l ws h = second bin.Outer sign.Caret l ws IsBin.outer h
    after_symbol LineEnd l ws h = IsRight.one h
    after_symbol _ l ws h = tt

    after_operand : (ws : List Word) → IsOperand s a start ws → Right (λ r rest. IsRight s r start rest) (right_after s a ws)
    after_operand [] h = tt
    after_operand (w ∷ ws) h = after_symbol w.symbol w.line ws h

  pub right_right : (ws : List Word) → Right (λ r rest. IsRight s r ws rest) (right s ws)
  unfolding right
  right_right ws = right_then (λ o rest. IsOperand s o ws rest) (λ r rest. IsRight s r ws rest) (operand_at s ws) _ (operand_right ws) (λ a rest h. after_operand a ws rest h)

  value_named : (x : List ℕ) (l : ℕ) (ws : List Word) (t : Option Thing) → thing_of s x ≡ t → Right (λ v rest. IsValue s v (at l (Name x) ∷ ws) rest) (value_of l t >>= λ v. Ok (v, ws))
  value_named x l ws (Some (thing.Scalar n)) e = IsValue.scalar e
  value_named x l ws (Some (thing.Index n)) e = IsValue.index e
  value_named x l ws (Some (thing.Array n)) e = tt
  value_named x l ws (Some (thing.Proc n)) e = tt
  value_named x l ws None e = tt

  value_symbol : (what : Symbol) (l : ℕ) (ws : List Word) → Right (λ v rest. IsValue s v (at l what ∷ ws) rest) (value_by s what (at l what) ws)
  value_symbol (Number n) l ws = IsValue.number IsNumber.plain
  value_symbol (symbol.Sign sign.Minus) l ws = right_then (λ n rest. IsNumber (negative n) (sign_at l sign.Minus ∷ ws) rest) (λ v rest. IsValue s v (sign_at l sign.Minus ∷ ws) rest) (number ws) _ (negative_right l ws) (λ n rest h. IsValue.number h)
  value_symbol (Name x) l ws = value_named x l ws (thing_of s x) refl
  value_symbol _ l ws = tt

  pub value_right : (ws : List Word) → Right (λ v rest. IsValue s v ws rest) (value_at s ws)
  unfolding value_at
  value_right [] = tt
  value_right (w ∷ ws) = value_symbol w.symbol w.line ws

  module _ (a : Value) (start : List Word) where
    other : (how : Test) (what : Sign) (l : ℕ) (ws : List Word) → IsTest how what → IsValue s a start (sign_at l what ∷ ws) → Right (λ c rest. IsCond s c start rest) (value_at s ws >>= λ b. skip is_line_end b.1 >>= λ rest. Ok (record { left = a; test = how; right = b.0 }, rest))
    other how what l ws is h = right_then (λ b rest. IsValue s b ws rest) (λ c rest. IsCond s c start rest) (value_at s ws) _ (value_right ws) (λ b rest d.
        skip_after (λ w. IsValue s b ws w) (λ c rest. IsCond s c start rest) is_line_end LineEnd line_end_says rest _ d (λ k rest2 d2. IsCond.cond h is d2))

    test_symbol : (what : Symbol) (l : ℕ) (ws : List Word) → IsValue s a start (at l what ∷ ws) → Right (λ c rest. IsCond s c start rest) (cond_by s a (test_of what) (at l what) ws)
    test_symbol (symbol.Sign sign.Less) l ws h = other test.Less sign.Less l ws IsTest.less h
    test_symbol (symbol.Sign sign.LessEqual) l ws h = other test.LessEqual sign.LessEqual l ws IsTest.less_equal h
    test_symbol (symbol.Sign sign.Greater) l ws h = other test.Greater sign.Greater l ws IsTest.greater h
    test_symbol (symbol.Sign sign.GreaterEqual) l ws h = other test.GreaterEqual sign.GreaterEqual l ws IsTest.greater_equal h
    test_symbol (symbol.Sign sign.EqualEqual) l ws h = other test.Equal sign.EqualEqual l ws IsTest.equal h
    test_symbol (symbol.Sign sign.NotEqual) l ws h = other test.NotEqual sign.NotEqual l ws IsTest.not_equal h
    test_symbol _ l ws h = tt

    after_value : (ws : List Word) → IsValue s a start ws → Right (λ c rest. IsCond s c start rest) (cond_after s a ws)
    after_value [] h = tt
    after_value (w ∷ ws) h = test_symbol w.symbol w.line ws h

  pub condition_right : (ws : List Word) → Right (λ c rest. IsCond s c ws rest) (condition s ws)
  unfolding condition
  condition_right ws = right_then (λ v rest. IsValue s v ws rest) (λ c rest. IsCond s c ws rest) (value_at s ws) _ (value_right ws) (λ a rest h. after_value a ws rest h)

  target_named : (x : List ℕ) (l : ℕ) (ws : List Word) (b : Bool) → go_on_with_open ws ≡ b
      → Right (λ t rest. IsTarget s t (at l (Name x) ∷ ws) rest) (cond b (block s (at l (Name x) ∷ ws) >>= λ b. Ok (target.Block b.0, b.1)) (alone l (is_next ends_target ws) (thing_of s x) ws >>= λ x. Ok (target.Scalar x.0, x.1)))
  target_named x l ws true e = right_then (λ b rest. IsBlock s b (at l (Name x) ∷ ws) rest) (λ t rest. IsTarget s t (at l (Name x) ∷ ws) rest) (block s (at l (Name x) ∷ ws)) _ (block_right (at l (Name x) ∷ ws)) (λ b rest d. IsTarget.block d)
  target_named x l ws false e = right_then (λ n rest. IsScalar s x n × (rest ≡ ws)) (λ t rest. IsTarget s t (at l (Name x) ∷ ws) rest) (alone l (is_next ends_target ws) (thing_of s x) ws) _ (alone_right x l (is_next ends_target ws) ws)
      (λ n rest h. subst (λ (r : List Word). IsTarget s (target.Scalar n) (at l (Name x) ∷ ws) r) (sym h.1) (IsTarget.scalar h.0 e))

  target_symbol : (what : Symbol) (l : ℕ) (ws : List Word) → Right (λ t rest. IsTarget s t (at l what ∷ ws) rest) (target_by s what (at l what) ws)
  target_symbol (Name x) l ws = target_named x l ws (go_on_with_open ws) refl
  target_symbol _ l ws = tt

  pub target_right : (ws : List Word) → Right (λ t rest. IsTarget s t ws rest) (target_at s ws)
  unfolding target_at
  target_right [] = tt
  target_right (w ∷ ws) = target_symbol w.symbol w.line ws

-- bytes that are equal
pub same_bytes : (x y : List ℕ) → bytes_eq x y ≡ true → x ≡ y
same_bytes x y e = (bytes_eq-Decides x y).0 e

max_by : (x : List ℕ) (l : ℕ) (ws : List Word) (b : Bool) → bytes_eq x (codes "max") ≡ b → (b ≡ true → x ≡ codes "max")
    → Right (λ how rest. IsAccess how (at l (Name x) ∷ ws) rest) (cond b (skip is_equals ws >>= λ rest. Ok (Max, rest)) (unexpected (at l (Name x) ∷ ws)))
max_by x l ws true e same = skip_then is_equals (symbol.Sign sign.Equals) equals_says (λ w how rest. IsAccess how (at l (Name x) ∷ w) rest) ws _
    (λ k rest. subst (λ (y : List ℕ). IsAccess Max (at l (Name y) ∷ sign_at k sign.Equals ∷ rest) rest) (sym (same refl)) IsAccess.greatest)
max_by x l ws false e same = tt

access_symbol : (what : Symbol) (l : ℕ) (ws : List Word) → Right (λ how rest. IsAccess how (at l what ∷ ws) rest) (access_by what (at l what) ws)
access_symbol (symbol.Sign sign.Equals) l ws = IsAccess.store
access_symbol (symbol.Sign sign.PlusEquals) l ws = IsAccess.add
access_symbol (Name x) l ws = max_by x l ws (bytes_eq x (codes "max")) refl (same_bytes x (codes "max"))
access_symbol _ l ws = tt

pub access_right : (ws : List Word) → Right (λ how rest. IsAccess how ws rest) (access ws)
unfolding access
access_right [] = tt
access_right (w ∷ ws) = access_symbol w.symbol w.line ws
