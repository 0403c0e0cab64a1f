-- One turn of each loop, and its ends.
use Rattle.std.proofs.Common.{◌≡◌, ℕ, zero, suc, ◌+◌, ◌-◌, ◌<◌, ◌≤◌, List, [], ◌∷◌, ◌++◌, Bool, true, false, cond, Some, None, Result, Ok, Err, refl, sym, ap, ◌∙◌, arith}
use Rattle.sial_syntax.specs.Tree.{Plain}
use Rattle.sial_syntax.specs.declared.condition.Cond.{Cond}
use Rattle.sial_syntax.specs.declared.operand.Slot.{Slot}
use Rattle.sial_parser.specs.Answers.{Fails}
use Rattle.sial_parser.specs.Parsing.{◌>>=◌, Read, unexpected, name, listed, index_and, no_index, indices, slot_and, no_slot, slots, where_one, with_where, wheres, Statements, turn_of, with_turn, turns, statement, body}
use Rattle.sial_parser.specs.Inners.{inner}
use Rattle.sial_parser.specs.Scope.{Scope}
use Rattle.sial_parser.specs.declared.fault.ParseFault.{ParseFault}
use Rattle.sial_parser.specs.declared.fault.ParseFault.TheVariants.{Lex, Expected, Undeclared, Twice, EndName, TooMany, TooDeep, OutOfMemory}
use Rattle.sial_parser.specs.declared.word.Symbol.{Symbol}
use Rattle.sial_parser.specs.declared.word.Word.{Word}

-- what fails with one reading fails with another that has the same fault
pub fails_too : {A B : Type 0} (fault : ParseFault) (x : Result A ParseFault) (y : Result B ParseFault) → (x ≡ Err fault → y ≡ Err fault) → Fails fault x → Fails fault y
fails_too OutOfMemory x y so h = tt
fails_too (Lex fault) x y so h = so h
fails_too (Expected line) x y so h = so h
fails_too (Undeclared line) x y so h = so h
fails_too (Twice line) x y so h = so h
fails_too (EndName line) x y so h = so h
fails_too (TooMany line which) x y so h = so h
fails_too (TooDeep line) x y so h = so h

-- a fault of a first part is the whole's
pub fails_first : {A B : Type 0} (fault : ParseFault) (r : Result A ParseFault) (f : A → Result B ParseFault) (total : Result B ParseFault) → (r >>= f) ≡ total → Fails fault r → Fails fault total
fails_first fault r f total e h = fails_too fault r total (λ is. sym e ∙ ap (λ x. x >>= f) is) h

module _ (s : Scope) (closing : Symbol → Bool) (n i : ℕ) (front : List ℕ) (ws : List Word) (total : Read (List ℕ)) (below : i < n) (whole : indices s closing (n - i) front ws ≡ total) where
  -- a turn of the list of indices
  indices_turn : (index_and s closing ws >>= λ x. cond x.0.1 (indices s closing (n - (i + 1)) (front ++ x.0.0 ∷ []) x.1) (Ok (front ++ x.0.0 ∷ [], x.1))) ≡ total
  unfolding indices
  indices_turn = let k : n - i ≡ suc (n - (i + 1)) = omega arith in sym (ap (λ m. indices s closing m front ws) k) ∙ whole

  pub indices_fail : (fault : ParseFault) → Fails fault (index_and s closing ws) → Fails fault total
  indices_fail fault h = fails_first fault (index_and s closing ws) _ total indices_turn h

  pub indices_on : (x : ℕ) (rest : List Word) → index_and s closing ws ≡ Ok ((x, true), rest) → indices s closing (n - (i + 1)) (front ++ x ∷ []) rest ≡ total
  indices_on x rest e = sym (ap (λ r. r >>= λ x. cond x.0.1 (indices s closing (n - (i + 1)) (front ++ x.0.0 ∷ []) x.1) (Ok (front ++ x.0.0 ∷ [], x.1))) e) ∙ indices_turn

  pub indices_end : (x : ℕ) (rest : List Word) → index_and s closing ws ≡ Ok ((x, false), rest) → total ≡ Ok (front ++ x ∷ [], rest)
  indices_end x rest e = sym indices_turn ∙ ap (λ r. r >>= λ x. cond x.0.1 (indices s closing (n - (i + 1)) (front ++ x.0.0 ∷ []) x.1) (Ok (front ++ x.0.0 ∷ [], x.1))) e

-- no index more
pub indices_full : (s : Scope) (closing : Symbol → Bool) (n i : ℕ) (front : List ℕ) (ws : List Word) → n ≤ i → indices s closing (n - i) front ws ≡ no_index s ws
unfolding indices
indices_full s closing n i front ws past = let k : n - i ≡ 0 = omega arith in ap (λ m. indices s closing m front ws) k

module _ (s : Scope) (n i : ℕ) (front : List Slot) (ws : List Word) (total : Read (List Slot)) (below : i < n) (whole : slots s (n - i) front ws ≡ total) where
  slots_turn : (slot_and s ws >>= λ x. cond x.0.1 (slots s (n - (i + 1)) (front ++ x.0.0 ∷ []) x.1) (Ok (front ++ x.0.0 ∷ [], x.1))) ≡ total
  unfolding slots
  slots_turn = let k : n - i ≡ suc (n - (i + 1)) = omega arith in sym (ap (λ m. slots s m front ws) k) ∙ whole

  pub slots_fail : (fault : ParseFault) → Fails fault (slot_and s ws) → Fails fault total
  slots_fail fault h = fails_first fault (slot_and s ws) _ total slots_turn h

  pub slots_on : (x : Slot) (rest : List Word) → slot_and s ws ≡ Ok ((x, true), rest) → slots s (n - (i + 1)) (front ++ x ∷ []) rest ≡ total
  slots_on x rest e = sym (ap (λ r. r >>= λ x. cond x.0.1 (slots s (n - (i + 1)) (front ++ x.0.0 ∷ []) x.1) (Ok (front ++ x.0.0 ∷ [], x.1))) e) ∙ slots_turn

  pub slots_end : (x : Slot) (rest : List Word) → slot_and s ws ≡ Ok ((x, false), rest) → total ≡ Ok (front ++ x ∷ [], rest)
  slots_end x rest e = sym slots_turn ∙ ap (λ r. r >>= λ x. cond x.0.1 (slots s (n - (i + 1)) (front ++ x.0.0 ∷ []) x.1) (Ok (front ++ x.0.0 ∷ [], x.1))) e

-- no slot more
pub slots_full : (s : Scope) (n i : ℕ) (front : List Slot) (ws : List Word) → n ≤ i → slots s (n - i) front ws ≡ no_slot s ws
unfolding slots
slots_full s n i front ws past = let k : n - i ≡ 0 = omega arith in ap (λ m. slots s m front ws) k

module _ (s : Scope) (n i : ℕ) (front : List Cond) (ws : List Word) (total : Read (List Cond)) (below : i < n) (whole : wheres s (n - i) front ws ≡ total) where
  wheres_turn : (where_one s ws >>= λ x. with_where (wheres s (n - (i + 1))) front x.0 x.1) ≡ total
  unfolding wheres
  wheres_turn = let k : n - i ≡ suc (n - (i + 1)) = omega arith in sym (ap (λ m. wheres s m front ws) k) ∙ whole

  pub wheres_fail : (fault : ParseFault) → Fails fault (where_one s ws) → Fails fault total
  wheres_fail fault h = fails_first fault (where_one s ws) _ total wheres_turn h

  pub wheres_on : (c : Cond) (rest : List Word) → where_one s ws ≡ Ok (Some c, rest) → wheres s (n - (i + 1)) (front ++ c ∷ []) rest ≡ total
  wheres_on c rest e = sym (ap (λ r. r >>= λ x. with_where (wheres s (n - (i + 1))) front x.0 x.1) e) ∙ wheres_turn

  pub wheres_end : (rest : List Word) → where_one s ws ≡ Ok (None, rest) → total ≡ Ok (front, rest)
  wheres_end rest e = sym wheres_turn ∙ ap (λ r. r >>= λ x. with_where (wheres s (n - (i + 1))) front x.0 x.1) e

-- no turn is left
pub wheres_full : (s : Scope) (n i : ℕ) (front : List Cond) (ws : List Word) → n ≤ i → wheres s (n - i) front ws ≡ unexpected ws
unfolding wheres
wheres_full s n i front ws past = let k : n - i ≡ 0 = omega arith in ap (λ m. wheres s m front ws) k

-- statements up to an end word
module _ (one : (left : ℕ) → List Word → Read (Plain × ℕ)) (n i : ℕ) (front : List (ℕ × Plain)) (left : ℕ) (ws : List Word) (total : Read Statements) (below : i < n) (whole : turns one (n - i) front left ws ≡ total) where
  turns_turn : (turn_of one left ws >>= λ x. with_turn (turns one (n - (i + 1))) front left x.0 x.1) ≡ total
  unfolding turns
  turns_turn = let k : n - i ≡ suc (n - (i + 1)) = omega arith in sym (ap (λ m. turns one m front left ws) k) ∙ whole

  pub turns_fail : (fault : ParseFault) → Fails fault (turn_of one left ws) → Fails fault total
  turns_fail fault h = fails_first fault (turn_of one left ws) _ total turns_turn h

  pub turns_on : (t : (ℕ × Plain) × ℕ) (rest : List Word) → turn_of one left ws ≡ Ok (Some t, rest) → turns one (n - (i + 1)) (front ++ t.0 ∷ []) t.1 rest ≡ total
  turns_on t rest e = sym (ap (λ r. r >>= λ x. with_turn (turns one (n - (i + 1))) front left x.0 x.1) e) ∙ turns_turn

  pub turns_end : (rest : List Word) → turn_of one left ws ≡ Ok (None, rest) → total ≡ Ok ((front, left), rest)
  turns_end rest e = sym turns_turn ∙ ap (λ r. r >>= λ x. with_turn (turns one (n - (i + 1))) front left x.0 x.1) e

pub turns_full : (one : (left : ℕ) → List Word → Read (Plain × ℕ)) (n i : ℕ) (front : List (ℕ × Plain)) (left : ℕ) (ws : List Word) → n ≤ i → turns one (n - i) front left ws ≡ unexpected ws
unfolding turns
turns_full one n i front left ws past = let k : n - i ≡ 0 = omega arith in ap (λ m. turns one m front left ws) k

-- where no name stands, the opener's names don't either
pub listed_fail : (s : Scope) (opener : List ℕ) (ws : List Word) (fault : ParseFault) → Fails fault (name ws) → Fails fault (listed s opener ws)
unfolding listed
listed_fail s [] ws fault h = fails_first fault (name ws) _ _ refl h
listed_fail s (i ∷ is) ws fault h = fails_first fault (name ws) _ _ refl h

-- a body is read in turns
pub body_is : (depth : ℕ) (strict : Bool) (s : Scope) (left : ℕ) (ws : List Word) → turns (statement strict s (inner depth strict s)) (left + 1) [] left ws ≡ body depth strict s left ws
unfolding body
body_is zero strict s left ws = refl
body_is (suc d) strict s left ws = refl
