-- Statements without a body.
use Rattle.std.proofs.Common.{◌≡◌, ℕ, List, [], ◌∷◌, ◌++◌, Bool, true, false, cond, Option, Some, None, Ok, refl, sym, ap, ◌∙◌, subst, Result, Err}
use Rattle.sial_syntax.specs.Limits.{most_rank}
use Rattle.sial_syntax.specs.Tree.{Plain, Call, Assign, Get, Request, Put, Prepare, Create, Delete, Allocate, Deallocate, Collective, Print, PrintScalar, Integrals}
use Rattle.sial_syntax.specs.declared.operand.Op.{Op}
use Rattle.sial_syntax.specs.declared.operand.Target.{Target}
use Rattle.sial_syntax.specs.declared.operand.Target.TheVariants as target
use Rattle.sial_parser.specs.Grammar.{at, opens, go_on_with_open}
use Rattle.sial_parser.specs.Parsing.{◌>>=◌, Read, skip, index, index_by, array, scalar, block, block_line, slots, slots_line, access, is_next, is_some, is_line_end, is_plus_equals, ends_target, op_of, called, call_at, get_at, request_at, put_at, prepare_at, create_at, delete_at, allocate_at, deallocate_at, collective_at, barrier_at, quoted, quoted_by, print_at, execute_at, execute_by, right, target_at, assign_after, assign_by, assign_at}
use Rattle.sial_parser.specs.Scope.{Scope, thing_of}
use Rattle.sial_parser.specs.declared.fault.ParseFault.{ParseFault}
use Rattle.sial_parser.specs.declared.fault.ParseFault.TheVariants.{Expected}
use Rattle.sial_parser.specs.declared.keyword.Keyword.TheVariants as key
use Rattle.sial_parser.specs.declared.word.Symbol.{Symbol}
use Rattle.sial_parser.specs.declared.word.Symbol.TheVariants.{Key, Name, Quoted, LineEnd}
use Rattle.sial_parser.specs.declared.word.Word.{Word}
use Rattle.sial_faults.specs.Faults.{Past, fits, told, checked}
use Rattle.sial_faults.specs.Forms.{where_so, less, after_assign}
use Rattle.sial_faults.specs.Parts.{Part, an_index, an_array, a_scalar, a_scalar_or_array, opening, line_end, plus_equals}
use Rattle.sial_faults.specs.Forms as form
use Rattle.sial_faults.specs.Parts as part
use Rattle.sial_faults.proofs.Agreeing.{Agrees, AreAlike, LookAt, looks_index, look_alike, then_agrees, skip_agrees, name_agrees, look_agrees, found_agrees, array_agrees, scalar_agrees}
use Rattle.sial_faults.proofs.AgreeLists.{block_agrees, block_line_agrees, slots_agree}
use Rattle.sial_faults.proofs.AgreeOperands.{first_look, named_read, named_found, right_agrees, access_agrees}

-- with so many statements left
abbrev pub at_left : Past → ℕ → Past
at_left past n = record past { left = n }

module _ (callable : (name : List ℕ) → Bool) (strict : Bool) (s : Scope) (past : Past) (alike : AreAlike s past.scope) (parts : List Part) where
  -- a reading of parts that leaves what is declared
  abbrev pub Same : {A : Type 0} → List Part → (List Word → Read A) → Type 0
  Same first read = (ws : List Word) → Agrees callable (checked callable past first ws) (λ y. past) (λ y. parts) (read ws)

  -- a line end behind something
  ends_line : {A B : Type 0} (first : Result Past ParseFault) (r : Read A) (make : A → B) → Agrees callable first (λ y. past) (λ y. part.fixed line_end ∷ parts) r
      → Agrees callable first (λ y. past) (λ y. parts) (r >>= λ x. skip is_line_end x.1 >>= λ rest. Ok (make x.0, rest))
  ends_line first r make h = then_agrees callable first (λ y. past) (λ y. part.fixed line_end ∷ parts) (λ y. past) (λ y. parts) r (λ x ws. skip is_line_end ws >>= λ rest. Ok (make x, rest)) h (λ x ws. skip_agrees callable (λ y. past) (λ y. parts) line_end past parts ws (λ rest. Ok (make x, rest)) (λ rest. refl))

  -- something put into a statement
  made : {A B : Type 0} (first : Result Past ParseFault) (r : Read A) (make : A → B) → Agrees callable first (λ y. past) (λ y. parts) r → Agrees callable first (λ y. past) (λ y. parts) (r >>= λ x. Ok (make x.0, x.1))
  made first r make h = then_agrees callable first (λ y. past) (λ y. parts) (λ y. past) (λ y. parts) r (λ x ws. Ok (make x, ws)) h (λ x ws. refl)

  pub get_agrees : Same (form.block (part.fixed line_end ∷ parts)) (get_at s)
  unfolding get_at
  get_agrees ws = made (checked callable past (form.block (part.fixed line_end ∷ parts)) ws) (block_line s ws) Get (block_line_agrees callable s past alike parts ws)

  pub create_agrees : Same (part.asked an_array ∷ part.fixed line_end ∷ parts) (create_at s)
  unfolding create_at
  create_agrees ws = ends_line (checked callable past (part.asked an_array ∷ part.fixed line_end ∷ parts) ws) (array s ws) Create (array_agrees callable s past alike (part.fixed line_end ∷ parts) ws)

  pub delete_agrees : Same (part.asked an_array ∷ part.fixed line_end ∷ parts) (delete_at s)
  unfolding delete_at
  delete_agrees ws = ends_line (checked callable past (part.asked an_array ∷ part.fixed line_end ∷ parts) ws) (array s ws) Delete (array_agrees callable s past alike (part.fixed line_end ∷ parts) ws)

  -- "call" name NL
  module _ (calls : (l : ℕ) (x : List ℕ) → LookAt (callable x) l (called strict l (thing_of s x))) where
    pub call_agrees : Same (part.called ∷ part.fixed line_end ∷ parts) (call_at strict s)
    unfolding call_at
    call_agrees ws =
        name_agrees callable (λ y. past) (λ y. parts) part.called past (part.fixed line_end ∷ parts) ws (λ l x ws. called strict l (thing_of s x) >>= λ p. skip is_line_end ws >>= λ rest. Ok (Call p, rest)) refl
        (λ l x ws. look_agrees callable (λ y. past) (λ y. parts) (callable x) l (called strict l (thing_of s x)) (calls l x) None (λ more. checked callable past (more ++ part.fixed line_end ∷ parts) ws) [] (λ p. skip is_line_end ws >>= λ rest. Ok (Call p, rest))
        (λ p e. skip_agrees callable (λ y. past) (λ y. parts) line_end past parts ws (λ rest. Ok (Call p, rest)) (λ rest. refl)))

  -- "request" block [name] NL
  index_line_at : {A : Type 0} (form : A) (l : ℕ) (what : Symbol) (ws : List Word)
      → Agrees callable (checked callable past (part.index_or_end ∷ parts) (at l what ∷ ws)) (λ y. past) (λ y. parts)
      (cond (is_line_end what) (skip is_line_end (at l what ∷ ws) >>= λ rest. Ok (form, rest)) (index s (at l what ∷ ws) >>= λ i. skip is_line_end i.1 >>= λ rest. Ok (form, rest)))
  unfolding index
  index_line_at form l LineEnd ws = refl
  index_line_at form l (Name x) ws =
      found_agrees callable (λ y. past) (λ y. parts) (fits an_index (thing_of past.scope x)) l (index_by l (thing_of s x)) (look_alike index_by an_index looks_index s past.scope alike l x) None
      (λ more. checked callable past (more ++ parts) ws) (part.fixed line_end ∷ []) ws (λ i ws. skip is_line_end ws >>= λ rest. Ok (form, rest)) (λ i e. skip_agrees callable (λ y. past) (λ y. parts) line_end past parts ws (λ rest. Ok (form, rest)) (λ rest. refl))
  index_line_at form l _ ws = refl

  index_line : {A : Type 0} (form : A) (ws : List Word)
      → Agrees callable (checked callable past (part.index_or_end ∷ parts) ws) (λ y. past) (λ y. parts) (cond (is_next is_line_end ws) (skip is_line_end ws >>= λ rest. Ok (form, rest)) (index s ws >>= λ i. skip is_line_end i.1 >>= λ rest. Ok (form, rest)))
  unfolding index
  index_line form [] = refl
  index_line form (w ∷ ws) = index_line_at form w.line w.symbol ws

  pub request_agrees : Same (form.block (part.index_or_end ∷ parts)) (request_at s)
  unfolding request_at
  request_agrees ws =
      then_agrees callable (checked callable past (form.block (part.index_or_end ∷ parts)) ws) (λ y. past) (λ y. part.index_or_end ∷ parts) (λ y. past) (λ y. parts) (block s ws)
      (λ b ws. cond (is_next is_line_end ws) (skip is_line_end ws >>= λ rest. Ok (Request b, rest)) (index s ws >>= λ i. skip is_line_end i.1 >>= λ rest. Ok (Request b, rest))) (block_agrees callable s past alike (part.index_or_end ∷ parts) ws) (λ b ws. index_line (Request b) ws)

  -- ("put"|"prepare") block ("="|"+="|"max" "=") block NL
  abbrev put_parts : List Part
  put_parts = form.block (part.access ∷ form.block (part.fixed line_end ∷ parts))

  pub put_agrees : Same put_parts (put_at s)
  unfolding put_at
  put_agrees ws =
      then_agrees callable (checked callable past put_parts ws) (λ y. past) (λ y. part.access ∷ form.block (part.fixed line_end ∷ parts)) (λ y. past) (λ y. parts) (block s ws) (λ b ws. access ws >>= λ how. block_line s how.1 >>= λ from. Ok (Put b how.0 from.0, from.1))
      (block_agrees callable s past alike (part.access ∷ form.block (part.fixed line_end ∷ parts)) ws)
      (λ b ws. then_agrees callable (checked callable past (part.access ∷ form.block (part.fixed line_end ∷ parts)) ws) (λ y. past) (λ y. form.block (part.fixed line_end ∷ parts)) (λ y. past) (λ y. parts) (access ws) (λ how ws. block_line s ws >>= λ from. Ok (Put b how from.0, from.1))
      (access_agrees callable s past alike (form.block (part.fixed line_end ∷ parts)) ws) (λ how ws. made (checked callable past (form.block (part.fixed line_end ∷ parts)) ws) (block_line s ws) (λ from. Put b how from) (block_line_agrees callable s past alike parts ws)))

  pub prepare_agrees : Same put_parts (prepare_at s)
  unfolding prepare_at
  prepare_agrees ws =
      then_agrees callable (checked callable past put_parts ws) (λ y. past) (λ y. part.access ∷ form.block (part.fixed line_end ∷ parts)) (λ y. past) (λ y. parts) (block s ws) (λ b ws. access ws >>= λ how. block_line s how.1 >>= λ from. Ok (Prepare b how.0 from.0, from.1))
      (block_agrees callable s past alike (part.access ∷ form.block (part.fixed line_end ∷ parts)) ws)
      (λ b ws. then_agrees callable (checked callable past (part.access ∷ form.block (part.fixed line_end ∷ parts)) ws) (λ y. past) (λ y. form.block (part.fixed line_end ∷ parts)) (λ y. past) (λ y. parts) (access ws) (λ how ws. block_line s ws >>= λ from. Ok (Prepare b how from.0, from.1))
      (access_agrees callable s past alike (form.block (part.fixed line_end ∷ parts)) ws) (λ how ws. made (checked callable past (form.block (part.fixed line_end ∷ parts)) ws) (block_line s ws) (λ from. Prepare b how from) (block_line_agrees callable s past alike parts ws)))

  -- ("allocate"|"deallocate") name "(" slot {"," slot} ")" NL
  abbrev slot_parts : List Part
  slot_parts = part.fixed opening ∷ part.slot most_rank ∷ part.fixed line_end ∷ parts

  slots_line_agrees : Same slot_parts (slots_line s)
  unfolding slots_line
  slots_line_agrees ws =
      skip_agrees callable (λ y. past) (λ y. parts) opening past (part.slot most_rank ∷ part.fixed line_end ∷ parts) ws (λ ws. slots s most_rank [] ws >>= λ x. skip is_line_end x.1 >>= λ rest. Ok (x.0, rest))
      (λ ws. ends_line (checked callable past (part.slot most_rank ∷ part.fixed line_end ∷ parts) ws) (slots s most_rank [] ws) (λ x. x) (slots_agree callable s past alike most_rank [] (part.fixed line_end ∷ parts) ws))

  pub allocate_agrees : Same (part.asked an_array ∷ slot_parts) (allocate_at s)
  unfolding allocate_at
  allocate_agrees ws =
      then_agrees callable (checked callable past (part.asked an_array ∷ slot_parts) ws) (λ y. past) (λ y. slot_parts) (λ y. past) (λ y. parts) (array s ws) (λ a ws. slots_line s ws >>= λ x. Ok (Allocate a x.0, x.1)) (array_agrees callable s past alike slot_parts ws)
      (λ a ws. made (checked callable past slot_parts ws) (slots_line s ws) (λ x. Allocate a x) (slots_line_agrees ws))

  pub deallocate_agrees : Same (part.asked an_array ∷ slot_parts) (deallocate_at s)
  unfolding deallocate_at
  deallocate_agrees ws =
      then_agrees callable (checked callable past (part.asked an_array ∷ slot_parts) ws) (λ y. past) (λ y. slot_parts) (λ y. past) (λ y. parts) (array s ws) (λ a ws. slots_line s ws >>= λ x. Ok (Deallocate a x.0, x.1)) (array_agrees callable s past alike slot_parts ws)
      (λ a ws. made (checked callable past slot_parts ws) (slots_line s ws) (λ x. Deallocate a x) (slots_line_agrees ws))

  -- "collective" name "+=" name NL
  pub collective_agrees : Same (part.asked a_scalar ∷ part.fixed plus_equals ∷ part.asked a_scalar ∷ part.fixed line_end ∷ parts) (collective_at s)
  unfolding collective_at
  collective_agrees ws =
      then_agrees callable (checked callable past (part.asked a_scalar ∷ part.fixed plus_equals ∷ part.asked a_scalar ∷ part.fixed line_end ∷ parts) ws) (λ y. past) (λ y. part.fixed plus_equals ∷ part.asked a_scalar ∷ part.fixed line_end ∷ parts) (λ y. past) (λ y. parts) (scalar s ws)
      (λ x ws. skip is_plus_equals ws >>= λ ws. scalar s ws >>= λ y. skip is_line_end y.1 >>= λ rest. Ok (Collective x y.0, rest)) (scalar_agrees callable s past alike (part.fixed plus_equals ∷ part.asked a_scalar ∷ part.fixed line_end ∷ parts) ws)
      (λ x ws. skip_agrees callable (λ y. past) (λ y. parts) plus_equals past (part.asked a_scalar ∷ part.fixed line_end ∷ parts) ws (λ ws. scalar s ws >>= λ y. skip is_line_end y.1 >>= λ rest. Ok (Collective x y.0, rest))
      (λ ws. ends_line (checked callable past (part.asked a_scalar ∷ part.fixed line_end ∷ parts) ws) (scalar s ws) (λ y. Collective x y) (scalar_agrees callable s past alike (part.fixed line_end ∷ parts) ws)))

  pub barrier_agrees : (form : Plain) → Same (part.fixed line_end ∷ parts) (barrier_at form)
  unfolding barrier_at
  barrier_agrees form ws = skip_agrees callable (λ y. past) (λ y. parts) line_end past parts ws (λ rest. Ok (form, rest)) (λ rest. refl)

  -- "print" text NL
  quoted_at : (more : List Part) (l : ℕ) (what : Symbol) (ws : List Word) → Agrees callable (checked callable past (part.quoted ∷ more) (at l what ∷ ws)) (λ y. past) (λ y. more) (quoted_by what (at l what) ws)
  quoted_at more l (Quoted t) ws = refl
  quoted_at more l _ ws = refl

  quoted_agrees : (more : List Part) (ws : List Word) → Agrees callable (checked callable past (part.quoted ∷ more) ws) (λ y. past) (λ y. more) (quoted ws)
  quoted_agrees more [] = refl
  quoted_agrees more (w ∷ ws) = quoted_at more w.line w.symbol ws

  pub print_agrees : Same (part.quoted ∷ part.fixed line_end ∷ parts) print_at
  unfolding print_at
  print_agrees ws = ends_line (checked callable past (part.quoted ∷ part.fixed line_end ∷ parts) ws) (quoted ws) Print (quoted_agrees (part.fixed line_end ∷ parts) ws)

  -- "execute" "print_scalar" name NL | "execute" "compute_integrals" block NL
  execute_here : (l : ℕ) (what : Symbol) (ws : List Word) → Agrees callable (checked callable past (part.executed ∷ parts) (at l what ∷ ws)) (λ y. past) (λ y. parts) (execute_by s what (at l what) ws)
  execute_here l (Key key.PrintScalar) ws = ends_line (checked callable past (part.asked a_scalar ∷ part.fixed line_end ∷ parts) ws) (scalar s ws) PrintScalar (scalar_agrees callable s past alike (part.fixed line_end ∷ parts) ws)
  execute_here l (Key key.ComputeIntegrals) ws = made (checked callable past (form.block (part.fixed line_end ∷ parts)) ws) (block_line s ws) Integrals (block_line_agrees callable s past alike parts ws)
  execute_here l _ ws = refl

  pub execute_agrees : Same (part.executed ∷ parts) (execute_at s)
  unfolding execute_at
  execute_agrees [] = refl
  execute_agrees (w ∷ ws) = execute_here w.line w.symbol ws

  -- ("="|"+="|"-="|"*=") right NL
  assign_behind : (t : Target) (how : Option Op) (w : Word) (ws : List Word) → Agrees callable (told w.line (where_so (is_some how) (part.right ∷ [])) None (λ more. checked callable past (more ++ parts) ws)) (λ y. past) (λ y. parts) (assign_by s t how w ws)
  assign_behind t (Some how) w ws = made (checked callable past (part.right ∷ parts) ws) (right s ws) (λ r. Assign t how r) (right_agrees callable s past alike parts ws)
  assign_behind t None w ws = refl

  assign_after_agrees : (t : Target) → Same (part.assign ∷ parts) (assign_after s t)
  assign_after_agrees t [] = refl
  assign_after_agrees t (w ∷ ws) = assign_behind t (op_of w.symbol) w ws

  -- what stands behind a name that begins an assignment
  target_open : (l : ℕ) (what : Symbol) (ws : List Word) → opens what ≡ true → checked callable past (part.dims_or_assign ∷ parts) (at l what ∷ ws) ≡ checked callable past (part.dim most_rank ∷ part.assign ∷ parts) ws
  target_open l what ws e = ap (λ b. told l (cond b (Some (part.dim most_rank ∷ part.assign ∷ [])) (after_assign what)) None (λ more. checked callable past (more ++ parts) ws)) e

  target_other : (l : ℕ) (what : Symbol) (ws : List Word) → opens what ≡ false → checked callable past (part.dims_or_assign ∷ parts) (at l what ∷ ws) ≡ checked callable past (part.assign ∷ parts) (at l what ∷ ws)
  target_other l what ws e = ap (λ b. told l (cond b (Some (part.dim most_rank ∷ part.assign ∷ [])) (after_assign what)) None (λ more. checked callable past (more ++ parts) ws)) e

  target_none : (l : ℕ) (what : Symbol) (ws : List Word) → opens what ≡ false → ends_target what ≡ false → checked callable past (part.dims_or_assign ∷ parts) (at l what ∷ ws) ≡ Err (Expected l)
  target_none l what ws e f = target_other l what ws e ∙ ap (λ b. told l (where_so b (part.right ∷ [])) None (λ more. checked callable past (more ++ parts) ws)) f

  pub assign_agrees : (b c : Bool) (l : ℕ) (x : List ℕ) (ws : List Word) (i : ℕ) → go_on_with_open ws ≡ b → is_next ends_target ws ≡ c → first_look callable s past alike b c l (thing_of s x) ≡ Ok i
      → Agrees callable (checked callable past (part.dims_or_assign ∷ parts) ws) (λ y. past) (λ y. parts) (assign_at s (at l (Name x) ∷ ws))
  unfolding assign_at target_at
  assign_agrees b c l x ws i e f g =
      then_agrees callable (checked callable past (part.dims_or_assign ∷ parts) ws) (λ y. past) (λ y. part.assign ∷ parts) (λ y. past) (λ y. parts) (named_read callable s past alike target.Block target.Scalar (go_on_with_open ws) (is_next ends_target ws) l x ws) (λ t ws. assign_after s t ws)
      (subst (λ d. Agrees callable (checked callable past (part.dims_or_assign ∷ parts) ws) (λ y. past) (λ y. part.assign ∷ parts) (named_read callable s past alike target.Block target.Scalar d (is_next ends_target ws) l x ws)) (sym e)
      (subst (λ d. Agrees callable (checked callable past (part.dims_or_assign ∷ parts) ws) (λ y. past) (λ y. part.assign ∷ parts) (named_read callable s past alike target.Block target.Scalar b d l x ws)) (sym f)
      (named_found callable s past alike part.dims_or_assign part.assign ends_target parts target_open target_other target_none target.Block target.Scalar b c l x ws i e f g)))
      (λ t ws. assign_after_agrees t ws)
