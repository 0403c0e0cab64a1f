-- What is read as a statement without a body stands with its words.
use Rattle.std.proofs.Common.{◌≡◌, ℕ, List, [], ◌∷◌, Bool, true, false, cond, Option, Some, None, Ok, refl, sym, ap, ◌∙◌, subst}
use Rattle.sial_syntax.specs.Numbering.{statements_in}
use Rattle.sial_syntax.specs.Proper.{nesting}
use Rattle.sial_syntax.specs.Tree.{Plain, Call, Assign, Request, Create, Delete, Allocate, Deallocate, Collective, SipBarrier, ServerBarrier, Print, PrintScalar}
use Rattle.sial_syntax.specs.declared.operand.BlockRef.{BlockRef}
use Rattle.sial_syntax.specs.declared.operand.Op.{Op}
use Rattle.sial_syntax.specs.declared.operand.Op.TheVariants as op
use Rattle.sial_syntax.specs.declared.operand.Target.{Target}
use Rattle.sial_parser.specs.Grammar.{at, sign_at, IsBlock, IsRight, IsTarget, IsOp, IsAccess, IsStatement}
use Rattle.sial_parser.specs.Parsing.{◌>>=◌, line_of, skip, index, block, block_line, access, right, slots_line, is_line_end, is_plus_equals, is_next, called, call_at, get_at, request_at, put_at, prepare_at, create_at, delete_at, allocate_at, deallocate_at, collective_at, barrier_at, quoted_by, print_at, execute_at, execute_by, op_of, target_at, assign_at, assign_by, assign_after}
use Rattle.sial_parser.specs.Scope.{Scope, thing_of}
use Rattle.sial_parser.specs.declared.keyword.Keyword.TheVariants as key
use Rattle.sial_parser.specs.declared.sign.Sign.{Sign}
use Rattle.sial_parser.specs.declared.sign.Sign.TheVariants as sign
use Rattle.sial_parser.specs.declared.thing.Thing.{Thing}
use Rattle.sial_parser.specs.declared.thing.Thing.TheVariants as thing
use Rattle.sial_parser.specs.declared.word.Symbol.{Symbol}
use Rattle.sial_parser.specs.declared.word.Symbol.TheVariants.{Key, Name, Number, Quoted, LineEnd, End}
use Rattle.sial_parser.specs.declared.word.Symbol.TheVariants as symbol
use Rattle.sial_parser.specs.declared.word.Word.{Word}
use Rattle.sial_parser.proofs.OperandsSound.{index_after, array_after, scalar_after, block_right, block_line_right, SlotLine, slots_line_right, access_right, right_right, target_right}
use Rattle.sial_parser.proofs.Rights.{Right, right_then, skip_then, skip_after, name_then, line_end_says, plus_equals_says}

-- a statement without a body: it counts once, and nothing nests in it
pub record Simple (s : Scope) (form : Plain) (ws rest : List Word) : Type 0 where
  pub is : IsStatement s form ws rest
  pub one : statements_in form ≡ 1
  pub flat : nesting form ≡ 0

-- such a statement as an answer
abbrev pub AsSimple : Scope → List Word → Plain → List Word → Type 0
AsSimple s ws form rest = Simple s form ws rest

module _ (s : Scope) (l : ℕ) where
  call_thing : (k line : ℕ) (x : List ℕ) (ws : List Word) (t : Option Thing) → thing_of s x ≡ t
      → Right (AsSimple s (at l (Key key.Call) ∷ at k (Name x) ∷ ws)) (called true line t >>= λ p. skip is_line_end ws >>= λ rest. Ok (Call p, rest))
  call_thing k line x ws (Some (thing.Proc p)) e = skip_then is_line_end LineEnd line_end_says (λ w. AsSimple s (at l (Key key.Call) ∷ at k (Name x) ∷ w)) ws _ (λ m rest. record { is = IsStatement.call e; one = refl; flat = refl })
  call_thing k line x ws (Some (thing.Index p)) e = tt
  call_thing k line x ws (Some (thing.Array p)) e = tt
  call_thing k line x ws (Some (thing.Scalar p)) e = tt
  call_thing k line x ws None e = tt

  pub call_right : (ws : List Word) → Right (AsSimple s (at l (Key key.Call) ∷ ws)) (call_at true s ws)
  unfolding call_at
  call_right ws = name_then (λ w. AsSimple s (at l (Key key.Call) ∷ w)) ws _ (λ k x rest. call_thing k (line_of ws) x rest (thing_of s x) refl)

  pub get_right : (ws : List Word) → Right (AsSimple s (at l (Key key.Get) ∷ ws)) (get_at s ws)
  unfolding get_at
  get_right ws = right_then (λ b rest. (k : ℕ) × IsBlock s b ws (at k LineEnd ∷ rest)) (AsSimple s (at l (Key key.Get) ∷ ws)) (block_line s ws) _ (block_line_right s ws) (λ b rest h. record { is = IsStatement.get h.1; one = refl; flat = refl })

  request_by : (b : BlockRef) (ws mid : List Word) (bare : Bool) → IsBlock s b ws mid
      → Right (AsSimple s (at l (Key key.Request) ∷ ws)) (cond bare (skip is_line_end mid >>= λ rest. Ok (Request b, rest)) (index s mid >>= λ i. skip is_line_end i.1 >>= λ rest. Ok (Request b, rest)))
  request_by b ws mid true h = skip_after (λ w. IsBlock s b ws w) (AsSimple s (at l (Key key.Request) ∷ ws)) is_line_end LineEnd line_end_says mid _ h (λ k rest g. record { is = IsStatement.request g; one = refl; flat = refl })
  request_by b ws mid false h = index_after s (λ w. IsBlock s b ws w) (AsSimple s (at l (Key key.Request) ∷ ws)) mid _ h (λ k x i rest e g.
      skip_after (λ w. IsBlock s b ws (at k (Name x) ∷ w)) (AsSimple s (at l (Key key.Request) ∷ ws)) is_line_end LineEnd line_end_says rest _ g (λ m rest2 g2. record { is = IsStatement.request_along g2 e; one = refl; flat = refl }))

  pub request_right : (ws : List Word) → Right (AsSimple s (at l (Key key.Request) ∷ ws)) (request_at s ws)
  unfolding request_at
  request_right ws = right_then (λ b rest. IsBlock s b ws rest) (AsSimple s (at l (Key key.Request) ∷ ws)) (block s ws) _ (block_right s ws) (λ b mid h. request_by b ws mid (is_next is_line_end mid) h)

  pub put_right : (ws : List Word) → Right (AsSimple s (at l (Key key.Put) ∷ ws)) (put_at s ws)
  unfolding put_at
  put_right ws = right_then (λ b rest. IsBlock s b ws rest) (AsSimple s (at l (Key key.Put) ∷ ws)) (block s ws) _ (block_right s ws) (λ b mid h.
      right_then (λ how rest. IsAccess how mid rest) (AsSimple s (at l (Key key.Put) ∷ ws)) (access mid) _ (access_right mid) (λ how source g.
      right_then (λ from rest. (k : ℕ) × IsBlock s from source (at k LineEnd ∷ rest)) (AsSimple s (at l (Key key.Put) ∷ ws)) (block_line s source) _ (block_line_right s source) (λ from rest f. record { is = IsStatement.put h g f.1; one = refl; flat = refl })))

  pub prepare_right : (ws : List Word) → Right (AsSimple s (at l (Key key.Prepare) ∷ ws)) (prepare_at s ws)
  unfolding prepare_at
  prepare_right ws = right_then (λ b rest. IsBlock s b ws rest) (AsSimple s (at l (Key key.Prepare) ∷ ws)) (block s ws) _ (block_right s ws) (λ b mid h.
      right_then (λ how rest. IsAccess how mid rest) (AsSimple s (at l (Key key.Prepare) ∷ ws)) (access mid) _ (access_right mid) (λ how source g.
      right_then (λ from rest. (k : ℕ) × IsBlock s from source (at k LineEnd ∷ rest)) (AsSimple s (at l (Key key.Prepare) ∷ ws)) (block_line s source) _ (block_line_right s source) (λ from rest f. record { is = IsStatement.prepare h g f.1; one = refl; flat = refl })))

  pub create_right : (ws : List Word) → Right (AsSimple s (at l (Key key.Create) ∷ ws)) (create_at s ws)
  unfolding create_at
  create_right ws = array_after s (λ w. w ≡ ws) (AsSimple s (at l (Key key.Create) ∷ ws)) ws _ refl (λ k x a rest e h.
      skip_after (λ w. at k (Name x) ∷ w ≡ ws) (AsSimple s (at l (Key key.Create) ∷ ws)) is_line_end LineEnd line_end_says rest _ h (λ m rest2 g. subst (λ (w : List Word). Simple s (Create a) (at l (Key key.Create) ∷ w) rest2) g (record { is = IsStatement.create e; one = refl; flat = refl })))

  pub delete_right : (ws : List Word) → Right (AsSimple s (at l (Key key.Delete) ∷ ws)) (delete_at s ws)
  unfolding delete_at
  delete_right ws = array_after s (λ w. w ≡ ws) (AsSimple s (at l (Key key.Delete) ∷ ws)) ws _ refl (λ k x a rest e h.
      skip_after (λ w. at k (Name x) ∷ w ≡ ws) (AsSimple s (at l (Key key.Delete) ∷ ws)) is_line_end LineEnd line_end_says rest _ h (λ m rest2 g. subst (λ (w : List Word). Simple s (Delete a) (at l (Key key.Delete) ∷ w) rest2) g (record { is = IsStatement.delete e; one = refl; flat = refl })))

  pub allocate_right : (ws : List Word) → Right (AsSimple s (at l (Key key.Allocate) ∷ ws)) (allocate_at s ws)
  unfolding allocate_at
  allocate_right ws = array_after s (λ w. w ≡ ws) (AsSimple s (at l (Key key.Allocate) ∷ ws)) ws _ refl (λ k x a rest e h.
      right_then (λ xs rest2. SlotLine s xs rest rest2) (AsSimple s (at l (Key key.Allocate) ∷ ws)) (slots_line s rest) _ (slots_line_right s rest) (λ xs rest2 g.
      subst (λ (w : List Word). Simple s (Allocate a xs) (at l (Key key.Allocate) ∷ w) rest2) (ap (λ (w : List Word). at k (Name x) ∷ w) (sym g.words) ∙ h) (record { is = IsStatement.allocate e g.is g.few; one = refl; flat = refl })))

  pub deallocate_right : (ws : List Word) → Right (AsSimple s (at l (Key key.Deallocate) ∷ ws)) (deallocate_at s ws)
  unfolding deallocate_at
  deallocate_right ws = array_after s (λ w. w ≡ ws) (AsSimple s (at l (Key key.Deallocate) ∷ ws)) ws _ refl (λ k x a rest e h.
      right_then (λ xs rest2. SlotLine s xs rest rest2) (AsSimple s (at l (Key key.Deallocate) ∷ ws)) (slots_line s rest) _ (slots_line_right s rest) (λ xs rest2 g.
      subst (λ (w : List Word). Simple s (Deallocate a xs) (at l (Key key.Deallocate) ∷ w) rest2) (ap (λ (w : List Word). at k (Name x) ∷ w) (sym g.words) ∙ h) (record { is = IsStatement.deallocate e g.is g.few; one = refl; flat = refl })))

  pub collective_right : (ws : List Word) → Right (AsSimple s (at l (Key key.Collective) ∷ ws)) (collective_at s ws)
  unfolding collective_at
  collective_right ws = scalar_after s (λ w. w ≡ ws) (AsSimple s (at l (Key key.Collective) ∷ ws)) ws _ refl (λ k into x rest e h.
      skip_after (λ w. at k (Name into) ∷ w ≡ ws) (AsSimple s (at l (Key key.Collective) ∷ ws)) is_plus_equals (symbol.Sign sign.PlusEquals) plus_equals_says rest _ h (λ m rest2 h2.
      scalar_after s (λ w. at k (Name into) ∷ sign_at m sign.PlusEquals ∷ w ≡ ws) (AsSimple s (at l (Key key.Collective) ∷ ws)) rest2 _ h2 (λ n from y rest3 f h3.
      skip_after (λ w. at k (Name into) ∷ sign_at m sign.PlusEquals ∷ at n (Name from) ∷ w ≡ ws) (AsSimple s (at l (Key key.Collective) ∷ ws)) is_line_end LineEnd line_end_says rest3 _ h3 (λ j rest4 h4.
      subst (λ (w : List Word). Simple s (Collective x y) (at l (Key key.Collective) ∷ w) rest4) h4 (record { is = IsStatement.collective e f; one = refl; flat = refl })))))

  pub sip_barrier_right : (ws : List Word) → Right (AsSimple s (at l (Key key.SipBarrier) ∷ ws)) (barrier_at SipBarrier ws)
  unfolding barrier_at
  sip_barrier_right ws = skip_then is_line_end LineEnd line_end_says (λ w. AsSimple s (at l (Key key.SipBarrier) ∷ w)) ws _ (λ k rest. record { is = IsStatement.sip_barrier; one = refl; flat = refl })

  pub server_barrier_right : (ws : List Word) → Right (AsSimple s (at l (Key key.ServerBarrier) ∷ ws)) (barrier_at ServerBarrier ws)
  unfolding barrier_at
  server_barrier_right ws = skip_then is_line_end LineEnd line_end_says (λ w. AsSimple s (at l (Key key.ServerBarrier) ∷ w)) ws _ (λ k rest. record { is = IsStatement.server_barrier; one = refl; flat = refl })

  quoted_symbol : (what : Symbol) (k : ℕ) (ws : List Word) → Right (AsSimple s (at l (Key key.Print) ∷ at k what ∷ ws)) (quoted_by what (at k what) ws >>= λ t. skip is_line_end t.1 >>= λ rest. Ok (Print t.0, rest))
  quoted_symbol (Quoted text) k ws = skip_then is_line_end LineEnd line_end_says (λ w. AsSimple s (at l (Key key.Print) ∷ at k (Quoted text) ∷ w)) ws _ (λ m rest. record { is = IsStatement.print; one = refl; flat = refl })
  quoted_symbol _ k ws = tt

  pub print_right : (ws : List Word) → Right (AsSimple s (at l (Key key.Print) ∷ ws)) (print_at ws)
  unfolding print_at
  print_right [] = tt
  print_right (w ∷ ws) = quoted_symbol w.symbol w.line ws

  execute_symbol : (what : Symbol) (k : ℕ) (ws : List Word) → Right (AsSimple s (at l (Key key.Execute) ∷ at k what ∷ ws)) (execute_by s what (at k what) ws)
  execute_symbol (Key key.PrintScalar) k ws = scalar_after s (λ w. w ≡ ws) (AsSimple s (at l (Key key.Execute) ∷ at k (Key key.PrintScalar) ∷ ws)) ws _ refl (λ m x n rest e h.
      skip_after (λ w. at m (Name x) ∷ w ≡ ws) (AsSimple s (at l (Key key.Execute) ∷ at k (Key key.PrintScalar) ∷ ws)) is_line_end LineEnd line_end_says rest _ h (λ j rest2 g.
      subst (λ (w : List Word). Simple s (PrintScalar n) (at l (Key key.Execute) ∷ at k (Key key.PrintScalar) ∷ w) rest2) g (record { is = IsStatement.print_scalar e; one = refl; flat = refl })))
  execute_symbol (Key key.ComputeIntegrals) k ws = right_then (λ b rest. (m : ℕ) × IsBlock s b ws (at m LineEnd ∷ rest)) (AsSimple s (at l (Key key.Execute) ∷ at k (Key key.ComputeIntegrals) ∷ ws)) (block_line s ws) _ (block_line_right s ws) (λ b rest h. record { is = IsStatement.integrals h.1; one = refl; flat = refl })
  execute_symbol _ k ws = tt

  pub execute_right : (ws : List Word) → Right (AsSimple s (at l (Key key.Execute) ∷ ws)) (execute_at s ws)
  unfolding execute_at
  execute_right [] = tt
  execute_right (w ∷ ws) = execute_symbol w.symbol w.line ws

module _ (s : Scope) (t : Target) (start : List Word) where
  assigned : (how : Op) (what : Sign) (l : ℕ) (ws : List Word) → IsOp how what → IsTarget s t start (sign_at l what ∷ ws) → Right (AsSimple s start) (right s ws >>= λ r. Ok (Assign t how r.0, r.1))
  assigned how what l ws is h = right_then (λ r rest. IsRight s r ws rest) (AsSimple s start) (right s ws) _ (right_right s ws) (λ r rest g. record { is = IsStatement.assign h is g; one = refl; flat = refl })

  op_symbol : (what : Symbol) (l : ℕ) (ws : List Word) → IsTarget s t start (at l what ∷ ws) → Right (AsSimple s start) (assign_by s t (op_of what) (at l what) ws)
  op_symbol (symbol.Sign sign.Equals) l ws h = assigned op.Set sign.Equals l ws IsOp.set h
  op_symbol (symbol.Sign sign.PlusEquals) l ws h = assigned op.Add sign.PlusEquals l ws IsOp.add h
  op_symbol (symbol.Sign sign.MinusEquals) l ws h = assigned op.Subtract sign.MinusEquals l ws IsOp.subtract h
  op_symbol (symbol.Sign sign.TimesEquals) l ws h = assigned op.Scale sign.TimesEquals l ws IsOp.scale h
  op_symbol _ l ws h = tt

  after_target : (ws : List Word) → IsTarget s t start ws → Right (AsSimple s start) (assign_after s t ws)
  after_target [] h = tt
  after_target (w ∷ ws) h = op_symbol w.symbol w.line ws h

pub assign_right : (s : Scope) (ws : List Word) → Right (AsSimple s ws) (assign_at s ws)
unfolding assign_at
assign_right s ws = right_then (λ t rest. IsTarget s t ws rest) (AsSimple s ws) (target_at s ws) _ (target_right s ws) (λ t rest h. after_target s t ws rest h)
