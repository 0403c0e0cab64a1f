-- Statements with a body, and bodies.
use Rattle.std.proofs.Common.{◌≡◌, ℕ, zero, suc, ◌+◌, ◌<◌, List, [], ◌∷◌, ◌++◌, Bool, true, false, cond, Option, Some, None, Ok, Err, refl, sym, subst, arith, Result}
use Rattle.sial_syntax.specs.Limits.{most_pardo, most_rank}
use Rattle.sial_syntax.specs.Tree.{Plain, SipBarrier, ServerBarrier}
use Rattle.sial_parser.specs.Grammar.{at, ends_body, go_on_with_open}
use Rattle.sial_parser.specs.Parsing.{◌>>=◌, Read, is_next, ends_target, called, Statements, Inner, counted, do_at, pardo_at, if_at, with_left, assign_at, get_at, request_at, put_at, prepare_at, create_at, delete_at, allocate_at, deallocate_at, collective_at, barrier_at, print_at, execute_at, call_at, statement_by, statement, turn_of, turns, body}
use Rattle.sial_parser.specs.Scope.{Scope, thing_of}
use Rattle.sial_parser.specs.declared.fault.Counted.TheVariants as counts
use Rattle.sial_parser.specs.declared.fault.ParseFault.{ParseFault}
use Rattle.sial_parser.specs.declared.fault.ParseFault.TheVariants.{TooMany}
use Rattle.sial_parser.specs.declared.keyword.Keyword.{Keyword}
use Rattle.sial_parser.specs.declared.keyword.Keyword.TheVariants as key
use Rattle.sial_parser.specs.declared.word.Symbol.{Symbol}
use Rattle.sial_parser.specs.declared.word.Symbol.TheVariants.{Key, Name}
use Rattle.sial_parser.specs.declared.word.Word.{Word}
use Rattle.sial_parser.proofs.Rights.{Right}
use Rattle.sial_parser.proofs.Shapes.{turn_shape}
use Rattle.sial_faults.specs.Faults.{Past, fits, asked_before, where_too_many, checked}
use Rattle.sial_faults.specs.Forms.{less}
use Rattle.sial_faults.specs.Parts.{Part, Ending, of_program, of_procedure, of_do, of_pardo, of_if, of_else, an_index, an_array, a_scalar, line_end, opening, plus_equals}
use Rattle.sial_faults.specs.Forms as form
use Rattle.sial_faults.specs.Parts as part
use Rattle.sial_faults.proofs.Agreeing.{Agrees, AreAlike, LookAt, look_agrees}
use Rattle.sial_faults.proofs.AgreeOperands.{first_look, looks_first}
use Rattle.sial_faults.proofs.AgreeStatements.{at_left, get_agrees, create_agrees, delete_agrees, call_agrees, request_agrees, put_agrees, prepare_agrees, allocate_agrees, deallocate_agrees, collective_agrees, barrier_agrees, print_agrees, execute_agrees, assign_agrees}
use Rattle.sial_faults.proofs.Counts.{InnerLeaves, statement_fewer, body_leaves}
use Rattle.sial_faults.proofs.AgreeLoops.{BodyAgrees, InnerAgrees, counted_agrees, compound_counted, do_agrees, pardo_agrees, if_agrees}

module _ (callable : (name : List ℕ) → Bool) (strict : Bool) (s : Scope) (past : Past) (alike : AreAlike s past.scope) (calls : (l : ℕ) (x : List ℕ) → LookAt (callable x) l (called strict l (thing_of s x))) where
  -- bodies that may be read within a statement, where so many may nest
  abbrev pub MayNest : (inside : ℕ) → Option Inner → Type 0
  MayNest zero None = Unit {0}
  MayNest (suc d) (Some b) = InnerAgrees callable strict s past alike calls d b
  MayNest zero (Some b) = ⊥
  MayNest (suc d) None = ⊥

  module _ (e : Ending) (inside : ℕ) (nested : Option Inner) (nest : MayNest inside nested) (parts : List Part) where
    abbrev Says : Symbol → Type 0
    Says what = (l n : ℕ) (ws : List Word) → Agrees callable (checked callable (at_left past n) (part.body e inside ∷ parts) (at l what ∷ ws)) (λ x. at_left past x.1) (λ x. part.body e inside ∷ parts) (statement_by strict s nested n what (at l what) ws)

    pub name_says : (x : List ℕ) → Says (Name x)
    name_says x l n ws =
        look_agrees callable (λ x. at_left past x.1) (λ x. part.body e inside ∷ parts) (fits (asked_before ends_target ws) (thing_of past.scope x)) l (first_look callable s past alike (go_on_with_open ws) (is_next ends_target ws) l (thing_of s x))
        (looks_first callable s past alike (go_on_with_open ws) (is_next ends_target ws) l x) (where_too_many n (TooMany l counts.Statements) None) (λ more. checked callable (at_left past (less n)) (more ++ parts) ws) (part.dims_or_assign ∷ part.body e inside ∷ [])
        (λ i. counted n l (λ m. with_left m (assign_at s (at l (Name x) ∷ ws))))
        (λ i f. counted_agrees callable strict s past alike calls n l (part.dims_or_assign ∷ part.body e inside ∷ []) parts (part.body e inside ∷ parts) ws (assign_at s (at l (Name x) ∷ ws))
        (λ m. assign_agrees callable strict s (at_left past m) alike (part.body e inside ∷ parts) (go_on_with_open ws) (is_next ends_target ws) l x ws i refl refl f))

module _ (callable : (name : List ℕ) → Bool) (strict : Bool) (s : Scope) (past : Past) (alike : AreAlike s past.scope) (calls : (l : ℕ) (x : List ℕ) → LookAt (callable x) l (called strict l (thing_of s x))) (e : Ending) where
  -- a statement, which begins with no end word
  abbrev Stated : (inside : ℕ) → Option Inner → List Part → Symbol → Type 0
  Stated inside nested parts what = (l n : ℕ) (ws : List Word) → Agrees callable (checked callable (at_left past n) (part.body e inside ∷ parts) (at l what ∷ ws)) (λ x. at_left past x.1) (λ x. part.body e inside ∷ parts) (statement_by strict s nested n what (at l what) ws)

  do_says : (inside : ℕ) (nested : Option Inner) → MayNest callable strict s past alike calls inside nested → (parts : List Part) → Stated inside nested parts (Key key.Do)
  do_says zero None nest parts l zero ws = refl
  do_says zero None nest parts l (suc m) ws = refl
  do_says (suc d) (Some b) nest parts l n ws = compound_counted callable strict s past alike calls d b nest (part.body e (suc d) ∷ parts) n l (part.loop d ∷ part.body e (suc d) ∷ []) parts ws (λ m. do_at s b m ws) (λ m. do_agrees callable strict s past alike calls d b nest (part.body e (suc d) ∷ parts) m ws)
  do_says zero (Some b) nest parts l n ws = absurd nest
  do_says (suc d) None nest parts l n ws = absurd nest

  pardo_says : (inside : ℕ) (nested : Option Inner) → MayNest callable strict s past alike calls inside nested → (parts : List Part) → Stated inside nested parts (Key key.Pardo)
  pardo_says zero None nest parts l zero ws = refl
  pardo_says zero None nest parts l (suc m) ws = refl
  pardo_says (suc d) (Some b) nest parts l n ws =
      compound_counted callable strict s past alike calls d b nest (part.body e (suc d) ∷ parts) n l (part.along d most_pardo [] ∷ part.body e (suc d) ∷ []) parts ws (λ m. pardo_at s b m ws) (λ m. pardo_agrees callable strict s past alike calls d b nest (part.body e (suc d) ∷ parts) m ws)
  pardo_says zero (Some b) nest parts l n ws = absurd nest
  pardo_says (suc d) None nest parts l n ws = absurd nest

  if_says : (inside : ℕ) (nested : Option Inner) → MayNest callable strict s past alike calls inside nested → (parts : List Part) → Stated inside nested parts (Key key.If)
  if_says zero None nest parts l zero ws = refl
  if_says zero None nest parts l (suc m) ws = refl
  if_says (suc d) (Some b) nest parts l n ws =
      compound_counted callable strict s past alike calls d b nest (part.body e (suc d) ∷ parts) n l (form.condition (part.body of_if d ∷ part.body e (suc d) ∷ [])) parts ws (λ m. if_at s b m ws) (λ m. if_agrees callable strict s past alike calls d b nest (part.body e (suc d) ∷ parts) m ws)
  if_says zero (Some b) nest parts l n ws = absurd nest
  if_says (suc d) None nest parts l n ws = absurd nest

  module _ (inside : ℕ) (nested : Option Inner) (nest : MayNest callable strict s past alike calls inside nested) (parts : List Part) where
    abbrev last : List Part
    last = part.body e inside ∷ parts

    abbrev rest_of : List Part → List Part
    rest_of more = more ++ part.body e inside ∷ []

    key_says : (k : Keyword) → ends_body (Key k) ≡ false → Stated inside nested parts (Key k)
    key_says key.Do h l n ws = do_says inside nested nest parts l n ws
    key_says key.Pardo h l n ws = pardo_says inside nested nest parts l n ws
    key_says key.If h l n ws = if_says inside nested nest parts l n ws
    key_says key.Call h l n ws = counted_agrees callable strict s past alike calls n l (rest_of (part.called ∷ part.fixed line_end ∷ [])) parts last ws (call_at strict s ws) (λ m. call_agrees callable strict s (at_left past m) alike last calls ws)
    key_says key.Get h l n ws = counted_agrees callable strict s past alike calls n l (rest_of (form.block (part.fixed line_end ∷ []))) parts last ws (get_at s ws) (λ m. get_agrees callable strict s (at_left past m) alike last ws)
    key_says key.Request h l n ws = counted_agrees callable strict s past alike calls n l (rest_of (form.block (part.index_or_end ∷ []))) parts last ws (request_at s ws) (λ m. request_agrees callable strict s (at_left past m) alike last ws)
    key_says key.Put h l n ws = counted_agrees callable strict s past alike calls n l (rest_of (form.block (part.access ∷ form.block (part.fixed line_end ∷ [])))) parts last ws (put_at s ws) (λ m. put_agrees callable strict s (at_left past m) alike last ws)
    key_says key.Prepare h l n ws = counted_agrees callable strict s past alike calls n l (rest_of (form.block (part.access ∷ form.block (part.fixed line_end ∷ [])))) parts last ws (prepare_at s ws) (λ m. prepare_agrees callable strict s (at_left past m) alike last ws)
    key_says key.Create h l n ws = counted_agrees callable strict s past alike calls n l (rest_of (part.asked an_array ∷ part.fixed line_end ∷ [])) parts last ws (create_at s ws) (λ m. create_agrees callable strict s (at_left past m) alike last ws)
    key_says key.Delete h l n ws = counted_agrees callable strict s past alike calls n l (rest_of (part.asked an_array ∷ part.fixed line_end ∷ [])) parts last ws (delete_at s ws) (λ m. delete_agrees callable strict s (at_left past m) alike last ws)
    key_says key.Allocate h l n ws = counted_agrees callable strict s past alike calls n l (rest_of (part.asked an_array ∷ part.fixed opening ∷ part.slot most_rank ∷ part.fixed line_end ∷ [])) parts last ws (allocate_at s ws) (λ m. allocate_agrees callable strict s (at_left past m) alike last ws)
    key_says key.Deallocate h l n ws = counted_agrees callable strict s past alike calls n l (rest_of (part.asked an_array ∷ part.fixed opening ∷ part.slot most_rank ∷ part.fixed line_end ∷ [])) parts last ws (deallocate_at s ws) (λ m. deallocate_agrees callable strict s (at_left past m) alike last ws)
    key_says key.Collective h l n ws =
        counted_agrees callable strict s past alike calls n l (rest_of (part.asked a_scalar ∷ part.fixed plus_equals ∷ part.asked a_scalar ∷ part.fixed line_end ∷ [])) parts last ws (collective_at s ws) (λ m. collective_agrees callable strict s (at_left past m) alike last ws)
    key_says key.SipBarrier h l n ws = counted_agrees callable strict s past alike calls n l (rest_of (part.fixed line_end ∷ [])) parts last ws (barrier_at SipBarrier ws) (λ m. barrier_agrees callable strict s (at_left past m) alike last SipBarrier ws)
    key_says key.ServerBarrier h l n ws = counted_agrees callable strict s past alike calls n l (rest_of (part.fixed line_end ∷ [])) parts last ws (barrier_at ServerBarrier ws) (λ m. barrier_agrees callable strict s (at_left past m) alike last ServerBarrier ws)
    key_says key.Print h l n ws = counted_agrees callable strict s past alike calls n l (rest_of (part.quoted ∷ part.fixed line_end ∷ [])) parts last ws (print_at ws) (λ m. print_agrees callable strict s (at_left past m) alike last ws)
    key_says key.Execute h l n ws = counted_agrees callable strict s past alike calls n l (rest_of (part.executed ∷ [])) parts last ws (execute_at s ws) (λ m. execute_agrees callable strict s (at_left past m) alike last ws)
    key_says key.EndSial h l n ws = absurd cc
    key_says key.EndProc h l n ws = absurd cc
    key_says key.EndDo h l n ws = absurd cc
    key_says key.EndPardo h l n ws = absurd cc
    key_says key.EndIf h l n ws = absurd cc
    key_says key.Else h l n ws = absurd cc
    key_says _ h l n ws = refl

    symbol_says : (what : Symbol) → ends_body what ≡ false → Stated inside nested parts what
    symbol_says (Name x) h l n ws = name_says callable strict s past alike calls e inside nested nest parts x l n ws
    symbol_says (Key k) h l n ws = key_says k h l n ws
    symbol_says _ h l n ws = refl

    statement_agrees : (w : Word) (ws : List Word) (n : ℕ) → ends_body w.symbol ≡ false → Agrees callable (checked callable (at_left past n) last (w ∷ ws)) (λ x. at_left past x.1) (λ x. last) (statement strict s nested n (w ∷ ws))
    unfolding statement
    statement_agrees w ws n h = symbol_says w.symbol h w.line n ws

    -- {stmt}, behind those in front
    turn_then : (n : ℕ) (first : Result Past ParseFault) (left : ℕ) (r : Read (Plain × ℕ)) (go : Plain × ℕ → List Word → Read Statements) → Right (λ x rest. x.1 < left) r → Agrees callable first (λ x. at_left past x.1) (λ x. last) r
        → ((x : Plain × ℕ) (ws : List Word) → x.1 < left → BodyAgrees callable strict s past alike calls e inside parts (checked callable (at_left past x.1) last ws) (go x ws)) → BodyAgrees callable strict s past alike calls e inside parts first (r >>= λ x. go x.0 x.1)
    turn_then n first left (Ok x) go few h k = subst (λ t. BodyAgrees callable strict s past alike calls e inside parts t (go x.0 x.1)) (sym h) (k x.0 x.1 few)
    turn_then n first left (Err fault) go few h k = h

    turn_by : (b : Bool) (n : ℕ) (front : List (ℕ × Plain)) (left : ℕ) (w : Word) (ws : List Word) → ends_body w.symbol ≡ b → left < suc n → Right (λ x rest. x.1 < left) (statement strict s nested left (w ∷ ws))
        → ((front : List (ℕ × Plain)) (left : ℕ) (ws : List Word) → left < n → BodyAgrees callable strict s past alike calls e inside parts (checked callable (at_left past left) last ws) (turns (statement strict s nested) n front left ws))
        → BodyAgrees callable strict s past alike calls e inside parts (checked callable (at_left past left) last (w ∷ ws)) (cond b (Ok ((front, left), w ∷ ws)) (statement strict s nested left (w ∷ ws) >>= λ x. turns (statement strict s nested) n (front ++ (w.line, x.0.0) ∷ []) x.0.1 x.1))
    turn_by true n front left w ws f below few k = (refl, f)
    turn_by false n front left w ws f below few k =
        turn_then n (checked callable (at_left past left) last (w ∷ ws)) left (statement strict s nested left (w ∷ ws)) (λ x ws. turns (statement strict s nested) n (front ++ (w.line, x.0) ∷ []) x.1 ws) few (statement_agrees w ws left f)
        (λ x ws fewer. k (front ++ (w.line, x.0) ∷ []) x.1 ws (omega (arith, below, fewer)))

    turns_agree : InnerLeaves nested → (n : ℕ) (front : List (ℕ × Plain)) (left : ℕ) (ws : List Word) → left < n → BodyAgrees callable strict s past alike calls e inside parts (checked callable (at_left past left) last ws) (turns (statement strict s nested) n front left ws)
    unfolding turns turn_of
    turns_agree leaves zero front left ws below = absurd (omega (arith, below))
    turns_agree leaves (suc n) front left [] below = refl
    turns_agree leaves (suc n) front left (w ∷ ws) below =
        subst (BodyAgrees callable strict s past alike calls e inside parts (checked callable (at_left past left) last (w ∷ ws))) (sym (turn_shape (statement strict s nested) n front left w ws))
        (turn_by (ends_body w.symbol) n front left w ws refl below (statement_fewer strict s nested leaves left (w ∷ ws)) (turns_agree leaves n))

-- {stmt}, in which so many bodies may nest
pub body_agrees : (callable : (name : List ℕ) → Bool) (strict : Bool) (s : Scope) (past : Past) (alike : AreAlike s past.scope) (calls : (l : ℕ) (x : List ℕ) → LookAt (callable x) l (called strict l (thing_of s x))) (d : ℕ) → InnerAgrees callable strict s past alike calls d (body d strict s)
unfolding body
body_agrees callable strict s past alike calls zero e parts n ws = turns_agree callable strict s past alike calls e zero None tt parts tt (n + 1) [] n ws (omega arith)
body_agrees callable strict s past alike calls (suc d) e parts n ws = turns_agree callable strict s past alike calls e (suc d) (Some (body d strict s)) (body_agrees callable strict s past alike calls d) parts (body_leaves strict s d) (n + 1) [] n ws (omega arith)
