-- Lists of indices and slots, and blocks.
use Rattle.std.proofs.Common.{ℕ, zero, suc, List, [], ◌∷◌, ◌++◌, Bool, true, false, cond, Some, None, Result, Ok, Err, refl, sym, ap}
use Rattle.sial_syntax.specs.Limits.{most_rank}
use Rattle.sial_syntax.specs.declared.operand.Slot.{Slot}
use Rattle.sial_syntax.specs.declared.operand.Slot.TheVariants.{At}
use Rattle.sial_parser.specs.Grammar.{at}
use Rattle.sial_parser.specs.Parsing.{◌>>=◌, line_of, skip, index_by, goes_on, closes, is_line_end, index_and, indices, dims, array, block, slot, slot_and, slots, block_line}
use Rattle.sial_parser.specs.Scope.{Scope, thing_of}
use Rattle.sial_parser.specs.declared.fault.Counted.TheVariants as counts
use Rattle.sial_parser.specs.declared.fault.ParseFault.{ParseFault}
use Rattle.sial_parser.specs.declared.fault.ParseFault.TheVariants.{Undeclared, TooMany}
use Rattle.sial_parser.specs.declared.sign.Sign.TheVariants as sign
use Rattle.sial_parser.specs.declared.word.Symbol.{Symbol}
use Rattle.sial_parser.specs.declared.word.Symbol.TheVariants.{Key, Name, Number, Quoted, LineEnd, End}
use Rattle.sial_parser.specs.declared.word.Symbol.TheVariants as symbol
use Rattle.sial_parser.specs.declared.word.Word.{Word}
use Rattle.sial_faults.specs.Faults.{Past, fits, unless, told, checked}
use Rattle.sial_faults.specs.Parts.{Part, an_index, an_array, opening, line_end}
use Rattle.sial_faults.specs.Forms as form
use Rattle.sial_faults.specs.Parts as part
use Rattle.sial_faults.proofs.Agreeing.{Agrees, AreAlike, LookAt, looks_index, look_alike, then_agrees, skip_agrees, choice_agrees, look_agrees, index_then, array_agrees}

module _ (callable : (name : List ℕ) → Bool) (s : Scope) (past : Past) (alike : AreAlike s past.scope) where
  -- whether a list goes on
  goes_at : (room : ℕ) (parts : List Part) (l : ℕ) (what : Symbol) (ws : List Word)
      → Agrees callable (checked callable past (part.dim_end room ∷ parts) (at l what ∷ ws)) (λ y. past) (λ y. cond y (part.dim room ∷ parts) parts) (goes_on closes (at l what ∷ ws))
  unfolding goes_on
  goes_at room parts l (symbol.Sign sign.Comma) ws = refl
  goes_at room parts l (symbol.Sign sign.Close) ws = refl
  goes_at room parts l _ ws = refl

  goes_agrees : (room : ℕ) (parts : List Part) (ws : List Word) → Agrees callable (checked callable past (part.dim_end room ∷ parts) ws) (λ y. past) (λ y. cond y (part.dim room ∷ parts) parts) (goes_on closes ws)
  unfolding goes_on
  goes_agrees room parts [] = refl
  goes_agrees room parts (w ∷ ws) = goes_at room parts w.line w.symbol ws

  one_agrees : (room : ℕ) (parts : List Part) (ws : List Word) → Agrees callable (checked callable past (part.dim (suc room) ∷ parts) ws) (λ y. past) (λ y. cond y.1 (part.dim room ∷ parts) parts) (index_and s closes ws)
  unfolding index_and
  one_agrees room parts ws =
      index_then callable (λ y. past) (λ y. cond y.1 (part.dim room ∷ parts) parts) s past alike (part.dim (suc room)) parts ws (λ l i ws. goes_on closes ws >>= λ y. Ok ((i, y.0), y.1)) (λ l. None) (λ x. part.dim_end room ∷ []) refl (λ l x ws. refl)
      (λ l i x ws e. then_agrees callable (checked callable past (part.dim_end room ∷ parts) ws) (λ y. past) (λ y. cond y (part.dim room ∷ parts) parts) (λ y. past) (λ y. cond y.1 (part.dim room ∷ parts) parts) (goes_on closes ws) (λ y ws. Ok ((i, y), ws)) (goes_agrees room parts ws) (λ y ws. refl))

  pub indices_agree : (room : ℕ) (front : List ℕ) (parts : List Part) (ws : List Word) → Agrees callable (checked callable past (part.dim room ∷ parts) ws) (λ y. past) (λ y. parts) (indices s closes room front ws)
  unfolding indices
  indices_agree zero front parts ws = index_then callable (λ y. past) (λ y. parts) s past alike (part.dim zero) parts ws (λ l i ws. Err (TooMany l counts.Names)) (λ l. Some (TooMany l counts.Names)) (λ x. part.dim_end zero ∷ []) refl (λ l x ws. refl) (λ l i x ws e. refl)
  indices_agree (suc room) front parts ws =
      then_agrees callable (checked callable past (part.dim (suc room) ∷ parts) ws) (λ y. past) (λ y. cond y.1 (part.dim room ∷ parts) parts) (λ y. past) (λ y. parts) (index_and s closes ws) (λ x ws. cond x.1 (indices s closes room (front ++ x.0 ∷ []) ws) (Ok (front ++ x.0 ∷ [], ws)))
      (one_agrees room parts ws)
      (λ x ws. choice_agrees callable (λ y. past) (λ y. parts) x.1 past (part.dim room ∷ parts) parts ws (indices s closes room (front ++ x.0 ∷ []) ws) (Ok (front ++ x.0 ∷ [], ws)) (indices_agree room (front ++ x.0 ∷ []) parts ws) refl)

  -- "(" names ")"
  pub dims_agree : (parts : List Part) (ws : List Word) → Agrees callable (checked callable past (part.fixed opening ∷ part.dim most_rank ∷ parts) ws) (λ y. past) (λ y. parts) (dims s ws)
  unfolding dims
  dims_agree parts ws = skip_agrees callable (λ y. past) (λ y. parts) opening past (part.dim most_rank ∷ parts) ws (λ ws. indices s closes most_rank [] ws) (indices_agree most_rank [] parts)

  -- block
  pub block_agrees : (parts : List Part) (ws : List Word) → Agrees callable (checked callable past (form.block parts) ws) (λ y. past) (λ y. parts) (block s ws)
  unfolding block
  block_agrees parts ws =
      then_agrees callable (checked callable past (form.block parts) ws) (λ y. past) (λ y. part.fixed opening ∷ part.dim most_rank ∷ parts) (λ y. past) (λ y. parts) (array s ws) (λ a ws. dims s ws >>= λ is. Ok (record { array = a; at = is.0 }, is.1))
      (array_agrees callable s past alike (part.fixed opening ∷ part.dim most_rank ∷ parts) ws)
      (λ a ws. then_agrees callable (checked callable past (part.fixed opening ∷ part.dim most_rank ∷ parts) ws) (λ y. past) (λ y. parts) (λ y. past) (λ y. parts) (dims s ws) (λ is ws. Ok (record { array = a; at = is }, ws)) (dims_agree parts ws) (λ is ws. refl))

  pub block_line_agrees : (parts : List Part) (ws : List Word) → Agrees callable (checked callable past (form.block (part.fixed line_end ∷ parts)) ws) (λ y. past) (λ y. parts) (block_line s ws)
  block_line_agrees parts ws =
      then_agrees callable (checked callable past (form.block (part.fixed line_end ∷ parts)) ws) (λ y. past) (λ y. part.fixed line_end ∷ parts) (λ y. past) (λ y. parts) (block s ws) (λ b ws. skip is_line_end ws >>= λ rest. Ok (b, rest)) (block_agrees (part.fixed line_end ∷ parts) ws)
      (λ b ws. skip_agrees callable (λ y. past) (λ y. parts) line_end past parts ws (λ rest. Ok (b, rest)) (λ rest. refl))

  -- slots
  slot_goes_at : (room : ℕ) (parts : List Part) (l : ℕ) (what : Symbol) (ws : List Word)
      → Agrees callable (checked callable past (part.slot_end room ∷ parts) (at l what ∷ ws)) (λ y. past) (λ y. cond y (part.slot room ∷ parts) parts) (goes_on closes (at l what ∷ ws))
  unfolding goes_on
  slot_goes_at room parts l (symbol.Sign sign.Comma) ws = refl
  slot_goes_at room parts l (symbol.Sign sign.Close) ws = refl
  slot_goes_at room parts l _ ws = refl

  slot_goes : (room : ℕ) (parts : List Part) (ws : List Word) → Agrees callable (checked callable past (part.slot_end room ∷ parts) ws) (λ y. past) (λ y. cond y (part.slot room ∷ parts) parts) (goes_on closes ws)
  unfolding goes_on
  slot_goes room parts [] = refl
  slot_goes room parts (w ∷ ws) = slot_goes_at room parts w.line w.symbol ws

  slot_at : (room : ℕ) (parts : List Part) (l : ℕ) (what : Symbol) (ws : List Word) → Agrees callable (checked callable past (part.slot (suc room) ∷ parts) (at l what ∷ ws)) (λ y. past) (λ y. part.slot_end room ∷ parts) (slot s (at l what ∷ ws))
  unfolding slot
  slot_at room parts l (Name x) ws =
      look_agrees callable (λ y. past) (λ y. part.slot_end room ∷ parts) (fits an_index (thing_of past.scope x)) l (index_by l (thing_of s x)) (look_alike index_by an_index looks_index s past.scope alike l x) None
      (λ more. checked callable past (more ++ parts) ws) (part.slot_end room ∷ []) (λ i. Ok (At i, ws)) (λ i e. refl)
  slot_at room parts l (symbol.Sign sign.Times) ws = refl
  slot_at room parts l _ ws = refl

  slot_agrees : (room : ℕ) (parts : List Part) (ws : List Word) → Agrees callable (checked callable past (part.slot (suc room) ∷ parts) ws) (λ y. past) (λ y. part.slot_end room ∷ parts) (slot s ws)
  unfolding slot
  slot_agrees room parts [] = refl
  slot_agrees room parts (w ∷ ws) = slot_at room parts w.line w.symbol ws

  no_slot_at : (parts : List Part) (l : ℕ) (what : Symbol) (ws : List Word) → Agrees callable {A = List Slot} (checked callable past (part.slot zero ∷ parts) (at l what ∷ ws)) (λ y. past) (λ y. parts) (slot s (at l what ∷ ws) >>= λ x. Err (TooMany l counts.Names))
  unfolding slot
  no_slot_at parts l (Name x) ws = no_slot_by (fits an_index (thing_of past.scope x)) (index_by l (thing_of s x)) (look_alike index_by an_index looks_index s past.scope alike l x)
    where
      no_slot_by : (b : Bool) (r : Result ℕ ParseFault) → LookAt b l r → Agrees callable {A = List Slot} (told l (Some (part.slot_end zero ∷ [])) (unless b (Undeclared l) (Some (TooMany l counts.Names))) (λ more. checked callable past (more ++ parts) ws)) (λ y. past) (λ y. parts) (◌>>=◌ {A = Slot × List Word} (r >>= λ i. Ok (At i, ws)) (λ x. Err (TooMany l counts.Names)))
      no_slot_by true (Ok i) look = refl
      no_slot_by false (Err fault) look = ap Err (sym look)
      no_slot_by true (Err fault) look = absurd look
      no_slot_by false (Ok i) look = absurd look
  no_slot_at parts l (symbol.Sign sign.Times) ws = refl
  no_slot_at parts l _ ws = refl

  no_slot_agrees : (parts : List Part) (ws : List Word) → Agrees callable {A = List Slot} (checked callable past (part.slot zero ∷ parts) ws) (λ y. past) (λ y. parts) (slot s ws >>= λ x. Err (TooMany (line_of ws) counts.Names))
  unfolding slot
  no_slot_agrees parts [] = refl
  no_slot_agrees parts (w ∷ ws) = no_slot_at parts w.line w.symbol ws

  one_slot : (room : ℕ) (parts : List Part) (ws : List Word) → Agrees callable (checked callable past (part.slot (suc room) ∷ parts) ws) (λ y. past) (λ y. cond y.1 (part.slot room ∷ parts) parts) (slot_and s ws)
  unfolding slot_and
  one_slot room parts ws =
      then_agrees callable (checked callable past (part.slot (suc room) ∷ parts) ws) (λ y. past) (λ y. part.slot_end room ∷ parts) (λ y. past) (λ y. cond y.1 (part.slot room ∷ parts) parts) (slot s ws) (λ x ws. goes_on closes ws >>= λ y. Ok ((x, y.0), y.1)) (slot_agrees room parts ws)
      (λ x ws. then_agrees callable (checked callable past (part.slot_end room ∷ parts) ws) (λ y. past) (λ y. cond y (part.slot room ∷ parts) parts) (λ y. past) (λ y. cond y.1 (part.slot room ∷ parts) parts) (goes_on closes ws) (λ y ws. Ok ((x, y), ws)) (slot_goes room parts ws) (λ y ws. refl))

  pub slots_agree : (room : ℕ) (front : List Slot) (parts : List Part) (ws : List Word) → Agrees callable (checked callable past (part.slot room ∷ parts) ws) (λ y. past) (λ y. parts) (slots s room front ws)
  unfolding slots
  slots_agree zero front parts ws = no_slot_agrees parts ws
  slots_agree (suc room) front parts ws =
      then_agrees callable (checked callable past (part.slot (suc room) ∷ parts) ws) (λ y. past) (λ y. cond y.1 (part.slot room ∷ parts) parts) (λ y. past) (λ y. parts) (slot_and s ws) (λ x ws. cond x.1 (slots s room (front ++ x.0 ∷ []) ws) (Ok (front ++ x.0 ∷ [], ws)))
      (one_slot room parts ws)
      (λ x ws. choice_agrees callable (λ y. past) (λ y. parts) x.1 past (part.slot room ∷ parts) parts ws (slots s room (front ++ x.0 ∷ []) ws) (Ok (front ++ x.0 ∷ [], ws)) (slots_agree room (front ++ x.0 ∷ []) parts ws) refl)
