-- Statements with a body.
use Rattle.std.proofs.Common.{◌≡◌, ℕ, zero, suc, ◌+◌, List, [], ◌∷◌, ◌++◌, Bool, true, length, Some, None, Ok, Err, refl, sym, subst, arith, Result}
use Rattle.sial_syntax.specs.Limits.{most_pardo}
use Rattle.sial_syntax.specs.Tree.{Plain, block_of, Do, DoIn, Pardo, If, IfElse}
use Rattle.sial_syntax.specs.declared.condition.Cond.{Cond}
use Rattle.sial_parser.specs.Grammar.{at, ends_body}
use Rattle.sial_parser.specs.Parsing.{◌>>=◌, Read, skip, index, index_by, indices, is_line_end, is_in, is_else, is_next, is_end_do, is_end_pardo, condition, wheres, named_end, listed_end, called, Statements, Inner, counted, loop_body, do_by, do_at, pardo_at, end_if, if_by, if_at, with_left}
use Rattle.sial_parser.specs.Scope.{Scope, thing_of}
use Rattle.sial_parser.specs.declared.fault.Counted.TheVariants as counts
use Rattle.sial_parser.specs.declared.fault.ParseFault.{ParseFault}
use Rattle.sial_parser.specs.declared.fault.ParseFault.TheVariants.{TooMany}
use Rattle.sial_parser.specs.declared.keyword.Keyword.TheVariants as key
use Rattle.sial_parser.specs.declared.word.Symbol.{Symbol}
use Rattle.sial_parser.specs.declared.word.Symbol.TheVariants.{Key, LineEnd}
use Rattle.sial_parser.specs.declared.word.Word.{Word}
use Rattle.sial_faults.specs.Faults.{Past, fits, where_too_many, told, checked}
use Rattle.sial_faults.specs.Forms.{less}
use Rattle.sial_faults.specs.Parts.{Part, Ending, of_program, of_procedure, of_do, of_pardo, of_if, of_else, an_index, an_array, a_scalar, line_end, opening, plus_equals}
use Rattle.sial_faults.specs.Forms as form
use Rattle.sial_faults.specs.Parts as part
use Rattle.sial_faults.proofs.Agreeing.{Agrees, AreAlike, LookAt, looks_index, look_alike, then_agrees, skip_agrees, name_agrees, look_agrees, index_agrees}
use Rattle.sial_faults.proofs.AgreeOperands.{condition_agrees}
use Rattle.sial_faults.proofs.AgreeEnds.{named_end_agrees, listed_end_agrees, along_agrees, along_then}
use Rattle.sial_faults.proofs.AgreeWheres.{wheres_agree}
use Rattle.sial_faults.proofs.AgreeStatements.{at_left}

-- words that go on with an end word
abbrev pub EndsBody : List Word → Type 0
EndsBody [] = ⊥
EndsBody (w ∷ ws) = ends_body w.symbol ≡ true

-- the end words
module _ (callable : (name : List ℕ) → Bool) (past : Past) (inside : ℕ) (parts : List Part) {B : Type 0} (later : B → Past) (last : B → List Part) (go : List Word → Read B)
    (h : (rest : List Word) → Agrees callable (checked callable past parts rest) later last (go rest)) where
  do_end_at : (l : ℕ) (what : Symbol) (ws : List Word) → ends_body what ≡ true → Agrees callable (checked callable past (part.body of_do inside ∷ parts) (at l what ∷ ws)) later last (skip is_end_do (at l what ∷ ws) >>= go)
  do_end_at l (Key key.EndDo) ws e = h ws
  do_end_at l (Key key.EndSial) ws e = refl
  do_end_at l (Key key.EndProc) ws e = refl
  do_end_at l (Key key.EndPardo) ws e = refl
  do_end_at l (Key key.EndIf) ws e = refl
  do_end_at l (Key key.Else) ws e = refl
  do_end_at l _ ws e = absurd cc

  pub do_end_agrees : (ws : List Word) → EndsBody ws → Agrees callable (checked callable past (part.body of_do inside ∷ parts) ws) later last (skip is_end_do ws >>= go)
  do_end_agrees [] e = absurd e
  do_end_agrees (w ∷ ws) e = do_end_at w.line w.symbol ws e

  pardo_end_at : (l : ℕ) (what : Symbol) (ws : List Word) → ends_body what ≡ true → Agrees callable (checked callable past (part.body of_pardo inside ∷ parts) (at l what ∷ ws)) later last (skip is_end_pardo (at l what ∷ ws) >>= go)
  pardo_end_at l (Key key.EndPardo) ws e = h ws
  pardo_end_at l (Key key.EndSial) ws e = refl
  pardo_end_at l (Key key.EndProc) ws e = refl
  pardo_end_at l (Key key.EndDo) ws e = refl
  pardo_end_at l (Key key.EndIf) ws e = refl
  pardo_end_at l (Key key.Else) ws e = refl
  pardo_end_at l _ ws e = absurd cc

  pub pardo_end_agrees : (ws : List Word) → EndsBody ws → Agrees callable (checked callable past (part.body of_pardo inside ∷ parts) ws) later last (skip is_end_pardo ws >>= go)
  pardo_end_agrees [] e = absurd e
  pardo_end_agrees (w ∷ ws) e = pardo_end_at w.line w.symbol ws e

  else_end_at : (l : ℕ) (what : Symbol) (ws : List Word) → ends_body what ≡ true → Agrees callable (checked callable past (part.body of_else inside ∷ parts) (at l what ∷ ws)) later last (end_if (at l what ∷ ws) >>= go)
  else_end_at l (Key key.EndIf) ws e = skip_agrees callable later last line_end past parts ws go h
  else_end_at l (Key key.EndSial) ws e = refl
  else_end_at l (Key key.EndProc) ws e = refl
  else_end_at l (Key key.EndDo) ws e = refl
  else_end_at l (Key key.EndPardo) ws e = refl
  else_end_at l (Key key.Else) ws e = refl
  else_end_at l _ ws e = absurd cc

  pub else_end_agrees : (ws : List Word) → EndsBody ws → Agrees callable (checked callable past (part.body of_else inside ∷ parts) ws) later last (end_if ws >>= go)
  else_end_agrees [] e = absurd e
  else_end_agrees (w ∷ ws) e = else_end_at w.line w.symbol ws e

module _ (callable : (name : List ℕ) → Bool) (strict : Bool) (s : Scope) (past : Past) (alike : AreAlike s past.scope) (calls : (l : ℕ) (x : List ℕ) → LookAt (callable x) l (called strict l (thing_of s x))) where
  -- what a reading of a body says
  abbrev pub BodyAgrees : (e : Ending) → (inside : ℕ) → List Part → (first : Result Past ParseFault) → Read Statements → Type 0
  BodyAgrees e inside parts first (Ok x) = (first ≡ checked callable (at_left past x.0.1) (part.body e inside ∷ parts) x.1) × EndsBody x.1
  BodyAgrees e inside parts first (Err fault) = first ≡ Err fault

  pub body_then : {B : Type 0} (e : Ending) (inside : ℕ) (parts : List Part) (later : B → Past) (last : B → List Part) (first : Result Past ParseFault) (r : Read Statements) (go : Statements → List Word → Read B) → BodyAgrees e inside parts first r
      → ((x : Statements) (ws : List Word) → EndsBody ws → Agrees callable (checked callable (at_left past x.1) (part.body e inside ∷ parts) ws) later last (go x ws)) → Agrees callable first later last (r >>= λ y. go y.0 y.1)
  body_then e inside parts later last first (Ok y) go h k = subst (λ (t : Result Past ParseFault). Agrees callable t later last (go y.0 y.1)) (sym h.0) (k y.0 y.1 h.1)
  body_then e inside parts later last first (Err fault) go h k = h

  abbrev pub InnerAgrees : (inside : ℕ) → Inner → Type 0
  InnerAgrees inside b = (e : Ending) (parts : List Part) (n : ℕ) (ws : List Word) → BodyAgrees e inside parts (checked callable (at_left past n) (part.body e inside ∷ parts) ws) (b n ws)

  -- a statement, where there may be one more
  pub counted_agrees : (n l : ℕ) (more parts last : List Part) (ws : List Word) (r : Read Plain) → ((m : ℕ) → Agrees callable (checked callable (at_left past m) (more ++ parts) ws) (λ y. at_left past m) (λ y. last) r)
      → Agrees callable (told l (Some more) (where_too_many n (TooMany l counts.Statements) None) (λ more. checked callable (at_left past (less n)) (more ++ parts) ws)) (λ x. at_left past x.1) (λ x. last) (counted n l (λ m. with_left m r))
  counted_agrees zero l more parts last ws r h = refl
  counted_agrees (suc m) l more parts last ws r h =
      then_agrees callable (checked callable (at_left past m) (more ++ parts) ws) (λ y. at_left past m) (λ y. last) (λ x. at_left past x.1) (λ x. last) r (λ x ws. Ok ((x, m), ws)) (h m) (λ x ws. refl)

  -- what a statement with a body says, where one more may nest
  module _ (inside : ℕ) (b : Inner) (h : InnerAgrees inside b) (last : List Part) where
    abbrev pub Reads : List Part → (n : ℕ) → (List Word → Read (Plain × ℕ)) → Type 0
    Reads first n read = (ws : List Word) → Agrees callable (checked callable (at_left past n) first ws) (λ x. at_left past x.1) (λ x. last) (read ws)

    -- {stmt} "enddo" [name] NL
    loop_agrees : (n : ℕ) (x : List ℕ) (ws : List Word) → Agrees callable (checked callable (at_left past n) (part.body of_do inside ∷ part.named_end x ∷ last) ws) (λ (y : Statements). at_left past y.1) (λ y. last) (loop_body b n x ws)
    unfolding loop_body
    loop_agrees n x ws =
        body_then of_do inside (part.named_end x ∷ last) (λ (y : Statements). at_left past y.1) (λ y. last) (checked callable (at_left past n) (part.body of_do inside ∷ part.named_end x ∷ last) ws) (b n ws) (λ y ws. skip is_end_do ws >>= λ ends. named_end x ends >>= λ rest. Ok (y, rest)) (h of_do (part.named_end x ∷ last) n ws)
        (λ y ws ends. do_end_agrees callable (at_left past y.1) inside (part.named_end x ∷ last) (λ (y : Statements). at_left past y.1) (λ y. last) (λ ends. named_end x ends >>= λ rest. Ok (y, rest))
        (λ ends. named_end_agrees callable s (at_left past y.1) alike (λ (y : Statements). at_left past y.1) (λ y. last) x last ends (λ rest. Ok (y, rest)) (λ rest. refl)) ws ends)

    loop_made : (n : ℕ) (x : List ℕ) (make : Statements → Plain) → Reads (part.body of_do inside ∷ part.named_end x ∷ last) n (λ ws. loop_body b n x ws >>= λ y. Ok ((make y.0, y.0.1), y.1))
    loop_made n x make ws = then_agrees callable (checked callable (at_left past n) (part.body of_do inside ∷ part.named_end x ∷ last) ws) (λ (y : Statements). at_left past y.1) (λ y. last) (λ x. at_left past x.1) (λ x. last) (loop_body b n x ws) (λ y ws. Ok ((make y, y.1), ws)) (loop_agrees n x ws) (λ y ws. refl)

    do_behind_at : (n : ℕ) (x : List ℕ) (i l : ℕ) (what : Symbol) (ws : List Word)
        → Agrees callable (checked callable (at_left past n) (part.in_or_end ∷ part.body of_do inside ∷ part.named_end x ∷ last) (at l what ∷ ws)) (λ x. at_left past x.1) (λ x. last) (do_by s b n x i (is_in what) (at l what ∷ ws))
    do_behind_at n x i l (Key key.In) ws =
        then_agrees callable (checked callable (at_left past n) (part.asked an_index ∷ part.fixed line_end ∷ part.body of_do inside ∷ part.named_end x ∷ last) ws) (λ j. at_left past n) (λ j. part.fixed line_end ∷ part.body of_do inside ∷ part.named_end x ∷ last) (λ x. at_left past x.1) (λ x. last) (index s ws)
        (λ j ws. skip is_line_end ws >>= λ ws. loop_body b n x ws >>= λ y. Ok ((DoIn i j (block_of y.0.0), y.0.1), y.1)) (index_agrees callable s (at_left past n) alike (part.fixed line_end ∷ part.body of_do inside ∷ part.named_end x ∷ last) ws)
        (λ j ws. skip_agrees callable (λ x. at_left past x.1) (λ x. last) line_end (at_left past n) (part.body of_do inside ∷ part.named_end x ∷ last) ws (λ ws. loop_body b n x ws >>= λ y. Ok ((DoIn i j (block_of y.0.0), y.0.1), y.1)) (loop_made n x (λ y. DoIn i j (block_of y.0))))
    do_behind_at n x i l LineEnd ws = loop_made n x (λ y. Do i (block_of y.0)) ws
    do_behind_at n x i l _ ws = refl

    do_behind : (n : ℕ) (x : List ℕ) (i : ℕ) → Reads (part.in_or_end ∷ part.body of_do inside ∷ part.named_end x ∷ last) n (λ ws. do_by s b n x i (is_next is_in ws) ws)
    do_behind n x i [] = refl
    do_behind n x i (w ∷ ws) = do_behind_at n x i w.line w.symbol ws

    pub do_agrees : (n : ℕ) → Reads (part.loop inside ∷ last) n (do_at s b n)
    unfolding do_at
    do_agrees n ws =
        name_agrees callable (λ x. at_left past x.1) (λ x. last) (part.loop inside) (at_left past n) last ws (λ l x ws. index_by l (thing_of s x) >>= λ i. do_by s b n x i (is_next is_in ws) ws) refl
        (λ l x ws. look_agrees callable (λ x. at_left past x.1) (λ x. last) (fits an_index (thing_of past.scope x)) l (index_by l (thing_of s x)) (look_alike index_by an_index looks_index s past.scope alike l x) None
        (λ more. checked callable (at_left past n) (more ++ last) ws) (part.in_or_end ∷ part.body of_do inside ∷ part.named_end x ∷ []) (λ i. do_by s b n x i (is_next is_in ws) ws) (λ i e. do_behind n x i ws))

    -- "pardo" names NL {"where" cond NL} {stmt} "endpardo" [names] NL
    pub pardo_agrees : (n : ℕ) → Reads (part.along inside most_pardo [] ∷ last) n (pardo_at s b n)
    unfolding pardo_at
    pardo_agrees n ws =
        along_then callable s (at_left past n) alike inside last (λ x. at_left past x.1) (λ x. last) (checked callable (at_left past n) (part.along inside most_pardo [] ∷ last) ws) (indices s is_line_end most_pardo [] ws)
        (λ is ws. wheres s (length ws + 1) [] ws >>= λ cs. b n cs.1 >>= λ y. skip is_end_pardo y.1 >>= λ ends. listed_end s is ends >>= λ rest. Ok ((Pardo is cs.0 (block_of y.0.0), y.0.1), rest)) (along_agrees callable s (at_left past n) alike inside last most_pardo [] [] tt ws)
        (λ is names ws match. then_agrees callable (checked callable (at_left past n) (part.wheres inside ∷ part.list_end names ∷ last) ws) (λ cs. at_left past n) (λ cs. part.body of_pardo inside ∷ part.list_end names ∷ last) (λ x. at_left past x.1) (λ x. last) (wheres s (length ws + 1) [] ws)
        (λ cs ws. b n ws >>= λ y. skip is_end_pardo y.1 >>= λ ends. listed_end s is ends >>= λ rest. Ok ((Pardo is cs (block_of y.0.0), y.0.1), rest)) (wheres_agree callable s (at_left past n) alike inside (part.list_end names ∷ last) (length ws + 1) [] ws (omega arith))
        (λ cs ws. body_then of_pardo inside (part.list_end names ∷ last) (λ x. at_left past x.1) (λ x. last) (checked callable (at_left past n) (part.body of_pardo inside ∷ part.list_end names ∷ last) ws) (b n ws)
        (λ y ws. skip is_end_pardo ws >>= λ ends. listed_end s is ends >>= λ rest. Ok ((Pardo is cs (block_of y.0), y.1), rest)) (h of_pardo (part.list_end names ∷ last) n ws)
        (λ y ws ends. pardo_end_agrees callable (at_left past y.1) inside (part.list_end names ∷ last) (λ x. at_left past x.1) (λ x. last) (λ ends. listed_end s is ends >>= λ rest. Ok ((Pardo is cs (block_of y.0), y.1), rest))
        (λ ends. listed_end_agrees callable s (at_left past y.1) alike (λ x. at_left past x.1) (λ x. last) last (λ rest. Ok ((Pardo is cs (block_of y.0), y.1), rest)) (λ rest. refl) names is match ends) ws ends)))

    -- "if" cond NL {stmt} ["else" NL {stmt}] "endif" NL
    if_behind_at : (c : Cond) (y : Statements) (l : ℕ) (what : Symbol) (ws : List Word) → ends_body what ≡ true
        → Agrees callable (checked callable (at_left past y.1) (part.body of_if inside ∷ last) (at l what ∷ ws)) (λ x. at_left past x.1) (λ x. last) (if_by b c y (is_else what) (at l what ∷ ws))
    if_behind_at c y l (Key key.Else) ws e =
        skip_agrees callable (λ x. at_left past x.1) (λ x. last) line_end (at_left past y.1) (part.body of_else inside ∷ last) ws (λ ws. b y.1 ws >>= λ z. end_if z.1 >>= λ rest. Ok ((IfElse c (block_of y.0) (block_of z.0.0), z.0.1), rest))
        (λ ws. body_then of_else inside last (λ x. at_left past x.1) (λ x. last) (checked callable (at_left past y.1) (part.body of_else inside ∷ last) ws) (b y.1 ws) (λ z ws. end_if ws >>= λ rest. Ok ((IfElse c (block_of y.0) (block_of z.0), z.1), rest)) (h of_else last y.1 ws)
        (λ z ws ends. else_end_agrees callable (at_left past z.1) inside last (λ x. at_left past x.1) (λ x. last) (λ rest. Ok ((IfElse c (block_of y.0) (block_of z.0), z.1), rest)) (λ rest. refl) ws ends))
    if_behind_at c y l (Key key.EndIf) ws e = skip_agrees callable (λ x. at_left past x.1) (λ x. last) line_end (at_left past y.1) last ws (λ rest. Ok ((If c (block_of y.0), y.1), rest)) (λ rest. refl)
    if_behind_at c y l (Key key.EndSial) ws e = refl
    if_behind_at c y l (Key key.EndProc) ws e = refl
    if_behind_at c y l (Key key.EndDo) ws e = refl
    if_behind_at c y l (Key key.EndPardo) ws e = refl
    if_behind_at c y l _ ws e = absurd cc

    if_behind : (c : Cond) (y : Statements) (ws : List Word) → EndsBody ws → Agrees callable (checked callable (at_left past y.1) (part.body of_if inside ∷ last) ws) (λ x. at_left past x.1) (λ x. last) (if_by b c y (is_next is_else ws) ws)
    if_behind c y [] e = absurd e
    if_behind c y (w ∷ ws) e = if_behind_at c y w.line w.symbol ws e

    pub if_agrees : (n : ℕ) → Reads (form.condition (part.body of_if inside ∷ last)) n (if_at s b n)
    unfolding if_at
    if_agrees n ws =
        then_agrees callable (checked callable (at_left past n) (form.condition (part.body of_if inside ∷ last)) ws) (λ c. at_left past n) (λ c. part.body of_if inside ∷ last) (λ x. at_left past x.1) (λ x. last) (condition s ws) (λ c ws. b n ws >>= λ y. if_by b c y.0 (is_next is_else y.1) y.1)
        (condition_agrees callable s (at_left past n) alike (part.body of_if inside ∷ last) ws)
        (λ c ws. body_then of_if inside last (λ x. at_left past x.1) (λ x. last) (checked callable (at_left past n) (part.body of_if inside ∷ last) ws) (b n ws) (λ y ws. if_by b c y (is_next is_else ws) ws) (h of_if last n ws) (λ y ws ends. if_behind c y ws ends))

    pub compound_counted : (n l : ℕ) (more parts : List Part) (ws : List Word) (read : ℕ → Read (Plain × ℕ)) → ((m : ℕ) → Agrees callable (checked callable (at_left past m) (more ++ parts) ws) (λ x. at_left past x.1) (λ x. last) (read m))
        → Agrees callable (told l (Some more) (where_too_many n (TooMany l counts.Statements) None) (λ more. checked callable (at_left past (less n)) (more ++ parts) ws)) (λ x. at_left past x.1) (λ x. last) (counted n l read)
    compound_counted zero l more parts ws read h = refl
    compound_counted (suc m) l more parts ws read h = h m
