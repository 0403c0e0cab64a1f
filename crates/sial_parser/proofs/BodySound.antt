-- What is read as a statement with bodies, or as a body, stands with its words, is counted, and isn't too deep.
use Rattle.std.proofs.Common.{◌≡◌, ℕ, zero, suc, ◌+◌, ◌≤◌, List, [], ◌∷◌, ◌++◌, Bool, true, false, cond, length, Option, Some, None, Result, Ok, Err, refl, sym, ◌∙◌, subst, append_assoc, append-nil, arith}
use Rattle.sial_syntax.specs.Limits.{most_pardo}
use Rattle.sial_syntax.specs.Numbering.{statements_in, statements}
use Rattle.sial_syntax.specs.Proper.{nesting, body_nesting}
use Rattle.sial_syntax.specs.Tree.{Plain, block_of, DoIn, Pardo, If, IfElse, SipBarrier, ServerBarrier}
use Rattle.sial_syntax.specs.declared.condition.Cond.{Cond}
use Rattle.sial_parser.specs.Grammar.{at, ends_body, AreIndices, IsNamedEnd, IsListedEnd, IsCond, AreWheres, IsStatement, IsBody}
use Rattle.sial_parser.specs.Parsing.{◌>>=◌, Read, line_of, index_by, indices, is_line_end, is_in, is_else, is_end_do, is_end_pardo, is_end_if, is_next, named_end, listed_end, wheres, condition, Statements, Inner, counted, deeper, loop_body, do_by, do_at, pardo_at, end_if, if_by, if_at, with_left, target_first, statement, statement_by, turn_of, turns, body, call_at, get_at, request_at, put_at, prepare_at, create_at, delete_at, allocate_at, deallocate_at, collective_at, barrier_at, print_at, execute_at, assign_at}
use Rattle.sial_parser.specs.Scope.{Scope, thing_of, IsIndex}
use Rattle.sial_parser.specs.declared.fault.ParseFault.{ParseFault}
use Rattle.sial_parser.specs.declared.keyword.Keyword.TheVariants as key
use Rattle.sial_parser.specs.declared.thing.Thing.{Thing}
use Rattle.sial_parser.specs.declared.thing.Thing.TheVariants as thing
use Rattle.sial_parser.specs.declared.word.Symbol.{Symbol}
use Rattle.sial_parser.specs.declared.word.Symbol.TheVariants.{Key, Name, LineEnd}
use Rattle.sial_parser.specs.declared.word.Word.{Word}
use Rattle.sial_parser.proofs.EndsSound.{named_end_right, listed_end_right, wheres_right}
use Rattle.sial_parser.proofs.OperandsSound.{Listed, index_after, indices_right, condition_right}
use Rattle.sial_parser.proofs.Rights.{Right, right_then, right_map, Good, skip_then, skip_after, name_then, line_end_says, in_says, else_says, end_do_says, end_pardo_says, end_if_says, two_last}
use Rattle.sial_parser.proofs.Shapes.{turn_shape}
use Rattle.sial_parser.proofs.StatementsSound.{AsSimple, call_right, get_right, request_right, put_right, prepare_right, create_right, delete_right, allocate_right, deallocate_right, collective_right, sip_barrier_right, server_barrier_right, print_right, execute_right, assign_right}

-- statements that were read: their words, how many there were, and how deep they nest
pub record Bodied (s : Scope) (depth left : ℕ) (forms : List (ℕ × Plain)) (after : ℕ) (ws rest : List Word) : Type 0 where
  pub is : IsBody s (block_of forms) ws rest
  pub count : after + statements (block_of forms) ≡ left
  pub deep : body_nesting (block_of forms) ≤ depth

-- a statement that was read
pub record Stated (s : Scope) (depth left : ℕ) (form : Plain) (after : ℕ) (ws rest : List Word) : Type 0 where
  pub is : IsStatement s form ws rest
  pub count : after + statements_in form ≡ left
  pub deep : nesting form ≤ depth

-- both as answers
abbrev pub AsBody : Scope → (depth left : ℕ) → List Word → Statements → List Word → Type 0
AsBody s depth left ws b rest = Bodied s depth left b.0 b.1 ws rest

abbrev pub AsStatement : Scope → (depth left : ℕ) → List Word → Plain × ℕ → List Word → Type 0
AsStatement s depth left ws x rest = Stated s depth left x.0 x.1 ws rest

good_right : {A : Type 0} (P : A → List Word → Type 0) (r : Read A) → Good (λ x. P x.0 x.1) r → Right P r
good_right P (Ok x) h = h
good_right P (Err fault) h = tt

-- an end that is read behind something
end_then : {A : Type 0} (E : List Word → Type 0) (P : A → List Word → Type 0) (r : Result (List Word) ParseFault) (x : A) → Good E r → ((rest : List Word) → E rest → P x rest) → Right P (r >>= λ rest. Ok (x, rest))
end_then E P (Ok rest) x h go = go rest h
end_then E P (Err fault) x h go = tt

counted_right : {A : Type 0} (P : A → List Word → Type 0) (left line : ℕ) (go : ℕ → Read A) → ((n : ℕ) → suc n ≡ left → Right P (go n)) → Right P (counted left line go)
counted_right P zero line go h = tt
counted_right P (suc n) line go h = h n refl

simple_left : (s : Scope) (depth n left : ℕ) (ws : List Word) (r : Read Plain) → suc n ≡ left → Right (AsSimple s ws) r → Right (AsStatement s depth left ws) (with_left n r)
simple_left s depth n left ws (Ok x) e h = record { is = h.is; count = omega (arith, h.one, e); deep = omega (arith, h.flat) }
simple_left s depth n left ws (Err fault) e h = tt

module _ (s : Scope) where
  -- bodies within a statement
  abbrev InnerIs : Option Inner → (depth : ℕ) → Type 0
  InnerIs None depth = Unit {0}
  InnerIs (Some body) depth = (d : ℕ) × (suc d ≡ depth) × ((left : ℕ) (ws : List Word) → Right (AsBody s d left ws) (body left ws))

  deeper_right : {A : Type 0} (P : A → List Word → Type 0) (inner : Option Inner) (depth line : ℕ) (go : Inner → Read A) → InnerIs inner depth
      → ((body : Inner) (d : ℕ) → suc d ≡ depth → ((left : ℕ) (ws : List Word) → Right (AsBody s d left ws) (body left ws)) → Right P (go body)) → Right P (deeper inner line go)
  deeper_right P None depth line go is h = tt
  deeper_right P (Some body) depth line go is h = h body is.0 is.1 is.2

  module _ (body : Inner) (d : ℕ) (right : (left : ℕ) (ws : List Word) → Right (AsBody s d left ws) (body left ws)) where
    -- {stmt} "enddo" [name] NL
    loop_right : (n : ℕ) (opener : List ℕ) (ws : List Word) → Right (λ b rest. (j : ℕ) × (ends : List Word) × AsBody s d n ws b (at j (Key key.EndDo) ∷ ends) × IsNamedEnd opener ends rest) (loop_body body n opener ws)
    unfolding loop_body
    loop_right n opener ws = right_then (AsBody s d n ws) (λ b rest. (j : ℕ) × (ends : List Word) × AsBody s d n ws b (at j (Key key.EndDo) ∷ ends) × IsNamedEnd opener ends rest) (body n ws) _ (right n ws) (λ b rest h.
        skip_after (λ w. AsBody s d n ws b w) (λ b rest. (j : ℕ) × (ends : List Word) × AsBody s d n ws b (at j (Key key.EndDo) ∷ ends) × IsNamedEnd opener ends rest) is_end_do (Key key.EndDo) end_do_says rest _ h (λ j ends g.
        end_then (λ rest2. IsNamedEnd opener ends rest2) (λ b rest. (j : ℕ) × (ends : List Word) × AsBody s d n ws b (at j (Key key.EndDo) ∷ ends) × IsNamedEnd opener ends rest) (named_end opener ends) b (named_end_right opener ends) (λ rest2 e. (j, ends, g, e))))

    do_from : (within : Bool) (n i k l : ℕ) (x : List ℕ) (ws : List Word) → IsIndex s x i → Right (AsStatement s (suc d) (suc n) (at l (Key key.Do) ∷ at k (Name x) ∷ ws)) (do_by s body n x i within ws)
    do_from true n i k l x ws e = skip_then is_in (Key key.In) in_says (λ w. AsStatement s (suc d) (suc n) (at l (Key key.Do) ∷ at k (Name x) ∷ w)) ws _ (λ m ws2.
        index_after s (λ w. w ≡ ws2) (AsStatement s (suc d) (suc n) (at l (Key key.Do) ∷ at k (Name x) ∷ at m (Key key.In) ∷ ws2)) ws2 _ refl (λ h y j ws3 f g.
        skip_after (λ w. at h (Name y) ∷ w ≡ ws2) (AsStatement s (suc d) (suc n) (at l (Key key.Do) ∷ at k (Name x) ∷ at m (Key key.In) ∷ ws2)) is_line_end LineEnd line_end_says ws3 _ g (λ o ws4 g2.
        right_then (λ b rest. (j : ℕ) × (ends : List Word) × AsBody s d n ws4 b (at j (Key key.EndDo) ∷ ends) × IsNamedEnd x ends rest) (AsStatement s (suc d) (suc n) (at l (Key key.Do) ∷ at k (Name x) ∷ at m (Key key.In) ∷ ws2)) (loop_body body n x ws4) _ (loop_right n x ws4) (λ b rest h2.
        subst (λ (w : List Word). Stated s (suc d) (suc n) (DoIn i j (block_of b.0)) b.1 (at l (Key key.Do) ∷ at k (Name x) ∷ at m (Key key.In) ∷ w) rest) g2
        (record { is = IsStatement.do_in e f h2.2.is h2.3; count = omega (arith, h2.2.count); deep = omega (arith, h2.2.deep) })))))
    do_from false n i k l x ws e = skip_then is_line_end LineEnd line_end_says (λ w. AsStatement s (suc d) (suc n) (at l (Key key.Do) ∷ at k (Name x) ∷ w)) ws _ (λ m ws2.
        right_then (λ b rest. (j : ℕ) × (ends : List Word) × AsBody s d n ws2 b (at j (Key key.EndDo) ∷ ends) × IsNamedEnd x ends rest) (AsStatement s (suc d) (suc n) (at l (Key key.Do) ∷ at k (Name x) ∷ at m LineEnd ∷ ws2)) (loop_body body n x ws2) _ (loop_right n x ws2) (λ b rest h2.
        record { is = IsStatement.do_ e h2.2.is h2.3; count = omega (arith, h2.2.count); deep = omega (arith, h2.2.deep) }))

    do_thing : (n k l line : ℕ) (x : List ℕ) (ws : List Word) (t : Option Thing) → thing_of s x ≡ t → Right (AsStatement s (suc d) (suc n) (at l (Key key.Do) ∷ at k (Name x) ∷ ws)) (index_by line t >>= λ i. do_by s body n x i (is_next is_in ws) ws)
    do_thing n k l line x ws (Some (thing.Index i)) e = do_from (is_next is_in ws) n i k l x ws e
    do_thing n k l line x ws (Some (thing.Array i)) e = tt
    do_thing n k l line x ws (Some (thing.Scalar i)) e = tt
    do_thing n k l line x ws (Some (thing.Proc i)) e = tt
    do_thing n k l line x ws None e = tt

    do_right : (n l : ℕ) (ws : List Word) → Right (AsStatement s (suc d) (suc n) (at l (Key key.Do) ∷ ws)) (do_at s body n ws)
    unfolding do_at
    do_right n l ws = name_then (λ w. AsStatement s (suc d) (suc n) (at l (Key key.Do) ∷ w)) ws _ (λ k x rest. do_thing n k l (line_of ws) x rest (thing_of s x) refl)

    pardo_right : (n l : ℕ) (ws : List Word) → Right (AsStatement s (suc d) (suc n) (at l (Key key.Pardo) ∷ ws)) (pardo_at s body n ws)
    unfolding pardo_at
    pardo_right n l ws =
        right_then (λ is rest. Listed (λ more. AreIndices s LineEnd more ws rest) most_pardo [] is) (AsStatement s (suc d) (suc n) (at l (Key key.Pardo) ∷ ws)) (indices s is_line_end most_pardo [] ws) _ (indices_right s is_line_end LineEnd line_end_says most_pardo [] ws) (λ is mid m.
        right_then (λ cs rest. (c : List Cond) × (cs ≡ c) × AreWheres s c mid rest) (AsStatement s (suc d) (suc n) (at l (Key key.Pardo) ∷ ws)) (wheres s (length mid + 1) [] mid) _ (wheres_right s (length mid + 1) [] mid) (λ cs first c.
        right_then (AsBody s d n first) (AsStatement s (suc d) (suc n) (at l (Key key.Pardo) ∷ ws)) (body n first) _ (right n first) (λ b rest h.
        skip_after (λ w. AsBody s d n first b w) (AsStatement s (suc d) (suc n) (at l (Key key.Pardo) ∷ ws)) is_end_pardo (Key key.EndPardo) end_pardo_says rest _ h (λ j ends g.
        end_then (λ rest2. IsListedEnd s is ends rest2) (AsStatement s (suc d) (suc n) (at l (Key key.Pardo) ∷ ws)) (listed_end s is ends) (Pardo is cs (block_of b.0), b.1) (listed_end_right s is ends) (λ rest2 e. record {
          is = IsStatement.pardo (subst (λ (x : List ℕ). AreIndices s LineEnd x ws mid) (sym m.all) m.is) (subst (λ (x : List ℕ). length x ≤ most_pardo) (sym m.all) m.few) (subst (λ (x : List Cond). AreWheres s x mid first) (sym c.1) c.2) g.is e;
          count = omega (arith, g.count);
          deep = omega (arith, g.deep);
        })))))

    if_from : (otherwise : Bool) (c : Cond) (n l : ℕ) (ws first mid : List Word) (b : Statements) → IsCond s c ws first → AsBody s d n first b mid → Right (AsStatement s (suc d) (suc n) (at l (Key key.If) ∷ ws)) (if_by body c b otherwise mid)
    if_from true c n l ws first mid b e h = skip_after (λ w. AsBody s d n first b w) (AsStatement s (suc d) (suc n) (at l (Key key.If) ∷ ws)) is_else (Key key.Else) else_says mid _ h (λ j ws2 h2.
        skip_after (λ w. AsBody s d n first b (at j (Key key.Else) ∷ w)) (AsStatement s (suc d) (suc n) (at l (Key key.If) ∷ ws)) is_line_end LineEnd line_end_says ws2 _ h2 (λ k second h3.
        right_then (AsBody s d b.1 second) (AsStatement s (suc d) (suc n) (at l (Key key.If) ∷ ws)) (body b.1 second) _ (right b.1 second) (λ o mid2 g.
        end_then (λ rest. (j : ℕ) × (k : ℕ) × AsBody s d b.1 second o (at j (Key key.EndIf) ∷ at k LineEnd ∷ rest)) (AsStatement s (suc d) (suc n) (at l (Key key.If) ∷ ws)) (end_if mid2) (IfElse c (block_of b.0) (block_of o.0), o.1) (two_last is_end_if is_line_end (Key key.EndIf) LineEnd end_if_says line_end_says (λ w. AsBody s d b.1 second o w) mid2 g) (λ rest g2.
        record { is = IsStatement.if_else e h3.is g2.2.is; count = omega (arith, h3.count, g2.2.count); deep = omega (arith, h3.deep, g2.2.deep) }))))
    if_from false c n l ws first mid b e h =
        end_then (λ rest. (j : ℕ) × (k : ℕ) × AsBody s d n first b (at j (Key key.EndIf) ∷ at k LineEnd ∷ rest)) (AsStatement s (suc d) (suc n) (at l (Key key.If) ∷ ws)) (end_if mid) (If c (block_of b.0), b.1) (two_last is_end_if is_line_end (Key key.EndIf) LineEnd end_if_says line_end_says (λ w. AsBody s d n first b w) mid h) (λ rest g.
        record { is = IsStatement.if_ e g.2.is; count = omega (arith, g.2.count); deep = omega (arith, g.2.deep) })

    if_right : (n l : ℕ) (ws : List Word) → Right (AsStatement s (suc d) (suc n) (at l (Key key.If) ∷ ws)) (if_at s body n ws)
    unfolding if_at
    if_right n l ws = right_then (λ c rest. IsCond s c ws rest) (AsStatement s (suc d) (suc n) (at l (Key key.If) ∷ ws)) (condition s ws) _ (condition_right s ws) (λ c first e.
        right_then (AsBody s d n first) (AsStatement s (suc d) (suc n) (at l (Key key.If) ∷ ws)) (body n first) _ (right n first) (λ b mid h. if_from (is_next is_else mid) c n l ws first mid b e h))

  module _ (inner : Option Inner) (depth left : ℕ) (is : InnerIs inner depth) where
    -- a statement with bodies
    compound : (l : ℕ) (ws : List Word) (go : Inner → (n : ℕ) → Read (Plain × ℕ))
        → ((body : Inner) (d : ℕ) → ((left : ℕ) (ws : List Word) → Right (AsBody s d left ws) (body left ws)) → (n : ℕ) → Right (AsStatement s (suc d) (suc n) ws) (go body n))
        → Right (AsStatement s depth left ws) (counted left l (λ n. deeper inner l (λ body. go body n)))
    compound l ws go right = counted_right (AsStatement s depth left ws) left l _ (λ n e. deeper_right (AsStatement s depth left ws) inner depth l _ is (λ body d f h.
        subst (λ (m : ℕ). Right (AsStatement s depth m ws) (go body n)) e (subst (λ (m : ℕ). Right (AsStatement s m (suc n) ws) (go body n)) f (right body d h n))))

    simply : (l : ℕ) (ws : List Word) (r : Read Plain) → Right (AsSimple s ws) r → Right (AsStatement s depth left ws) (counted left l (λ n. with_left n r))
    simply l ws r h = counted_right (AsStatement s depth left ws) left l _ (λ n e. simple_left s depth n left ws r e h)

    target_right : (r : Result ℕ ParseFault) (go : ℕ → Read (Plain × ℕ)) (ws : List Word) → ((t : ℕ) → Right (AsStatement s depth left ws) (go t)) → Right (AsStatement s depth left ws) (r >>= go)
    target_right (Ok t) go ws h = h t
    target_right (Err fault) go ws h = tt

    statement_symbol : (what : Symbol) (l : ℕ) (ws : List Word) → Right (AsStatement s depth left (at l what ∷ ws)) (statement_by true s inner left what (at l what) ws)
    statement_symbol (Key key.Do) l ws = compound l (at l (Key key.Do) ∷ ws) (λ body n. do_at s body n ws) (λ body d h n. do_right body d h n l ws)
    statement_symbol (Key key.Pardo) l ws = compound l (at l (Key key.Pardo) ∷ ws) (λ body n. pardo_at s body n ws) (λ body d h n. pardo_right body d h n l ws)
    statement_symbol (Key key.If) l ws = compound l (at l (Key key.If) ∷ ws) (λ body n. if_at s body n ws) (λ body d h n. if_right body d h n l ws)
    statement_symbol (Key key.Call) l ws = simply l (at l (Key key.Call) ∷ ws) (call_at true s ws) (call_right s l ws)
    statement_symbol (Key key.Get) l ws = simply l (at l (Key key.Get) ∷ ws) (get_at s ws) (get_right s l ws)
    statement_symbol (Key key.Request) l ws = simply l (at l (Key key.Request) ∷ ws) (request_at s ws) (request_right s l ws)
    statement_symbol (Key key.Put) l ws = simply l (at l (Key key.Put) ∷ ws) (put_at s ws) (put_right s l ws)
    statement_symbol (Key key.Prepare) l ws = simply l (at l (Key key.Prepare) ∷ ws) (prepare_at s ws) (prepare_right s l ws)
    statement_symbol (Key key.Create) l ws = simply l (at l (Key key.Create) ∷ ws) (create_at s ws) (create_right s l ws)
    statement_symbol (Key key.Delete) l ws = simply l (at l (Key key.Delete) ∷ ws) (delete_at s ws) (delete_right s l ws)
    statement_symbol (Key key.Allocate) l ws = simply l (at l (Key key.Allocate) ∷ ws) (allocate_at s ws) (allocate_right s l ws)
    statement_symbol (Key key.Deallocate) l ws = simply l (at l (Key key.Deallocate) ∷ ws) (deallocate_at s ws) (deallocate_right s l ws)
    statement_symbol (Key key.Collective) l ws = simply l (at l (Key key.Collective) ∷ ws) (collective_at s ws) (collective_right s l ws)
    statement_symbol (Key key.SipBarrier) l ws = simply l (at l (Key key.SipBarrier) ∷ ws) (barrier_at SipBarrier ws) (sip_barrier_right s l ws)
    statement_symbol (Key key.ServerBarrier) l ws = simply l (at l (Key key.ServerBarrier) ∷ ws) (barrier_at ServerBarrier ws) (server_barrier_right s l ws)
    statement_symbol (Key key.Print) l ws = simply l (at l (Key key.Print) ∷ ws) (print_at ws) (print_right s l ws)
    statement_symbol (Key key.Execute) l ws = simply l (at l (Key key.Execute) ∷ ws) (execute_at s ws) (execute_right s l ws)
    statement_symbol (Name x) l ws = target_right (target_first s x (at l (Name x)) ws) _ (at l (Name x) ∷ ws) (λ t. simply l (at l (Name x) ∷ ws) (assign_at s (at l (Name x) ∷ ws)) (assign_right s (at l (Name x) ∷ ws)))
    statement_symbol _ l ws = tt

    statement_right : (ws : List Word) → Right (AsStatement s depth left ws) (statement true s inner left ws)
    unfolding statement
    statement_right [] = tt
    statement_right (w ∷ ws) = statement_symbol w.symbol w.line ws

  -- statements up to an end word, behind those in front
  module _ (one : (left : ℕ) → List Word → Read (Plain × ℕ)) (depth : ℕ) (right : (left : ℕ) (ws : List Word) → Right (AsStatement s depth left ws) (one left ws)) where
    turn : (b : Bool) (n left : ℕ) (front : List (ℕ × Plain)) (w : Word) (ws : List Word) → ends_body w.symbol ≡ b
        → ((more : List (ℕ × Plain)) (left : ℕ) (ws : List Word) → Right (λ x rest. (forms : List (ℕ × Plain)) × (x.0 ≡ more ++ forms) × Bodied s depth left forms x.1 ws rest) (turns one n more left ws))
        → Right (λ x rest. (forms : List (ℕ × Plain)) × (x.0 ≡ front ++ forms) × Bodied s depth left forms x.1 (w ∷ ws) rest) (cond b (Ok ((front, left), w ∷ ws)) (one left (w ∷ ws) >>= λ x. turns one n (front ++ (w.line, x.0.0) ∷ []) x.0.1 x.1))
    turn true n left front w ws e others = ([], sym (append-nil front), record { is = IsBody.none e; count = omega arith; deep = omega arith })
    turn false n left front w ws e others =
        right_then (AsStatement s depth left (w ∷ ws)) (λ x rest. (forms : List (ℕ × Plain)) × (x.0 ≡ front ++ forms) × Bodied s depth left forms x.1 (w ∷ ws) rest) (one left (w ∷ ws)) _ (right left (w ∷ ws)) (λ x mid h.
        right_map (λ y rest. (forms : List (ℕ × Plain)) × (y.0 ≡ (front ++ (w.line, x.0) ∷ []) ++ forms) × Bodied s depth x.1 forms y.1 mid rest) (λ y rest. (forms : List (ℕ × Plain)) × (y.0 ≡ front ++ forms) × Bodied s depth left forms y.1 (w ∷ ws) rest) (turns one n (front ++ (w.line, x.0) ∷ []) x.1 mid)
        (λ y rest g. ((w.line, x.0) ∷ g.0, g.1 ∙ append_assoc front ((w.line, x.0) ∷ []) g.0, record { is = IsBody.more h.is g.2.is; count = omega (arith, h.count, g.2.count); deep = omega (arith, h.deep, g.2.deep) }))
        (others (front ++ (w.line, x.0) ∷ []) x.1 mid))

    turns_right : (n : ℕ) (front : List (ℕ × Plain)) (left : ℕ) (ws : List Word) → Right (λ x rest. (forms : List (ℕ × Plain)) × (x.0 ≡ front ++ forms) × Bodied s depth left forms x.1 ws rest) (turns one n front left ws)
    unfolding turns turn_of
    turns_right zero front left ws = tt
    turns_right (suc n) front left [] = tt
    turns_right (suc n) front left (w ∷ ws) =
        subst (Right (λ x rest. (forms : List (ℕ × Plain)) × (x.0 ≡ front ++ forms) × Bodied s depth left forms x.1 (w ∷ ws) rest)) (sym (turn_shape one n front left w ws))
        (turn (ends_body w.symbol) n left front w ws refl (λ more left ws. turns_right n more left ws))

    all_turns : (n left : ℕ) (ws : List Word) → Right (AsBody s depth left ws) (turns one n [] left ws)
    all_turns n left ws = right_map (λ x rest. (forms : List (ℕ × Plain)) × (x.0 ≡ forms) × Bodied s depth left forms x.1 ws rest) (AsBody s depth left ws) (turns one n [] left ws) (λ x rest h. subst (λ (f : List (ℕ × Plain)). Bodied s depth left f x.1 ws rest) (sym h.1) h.2) (turns_right n [] left ws)

  -- a body in which so many may nest
  pub body_right : (depth left : ℕ) (ws : List Word) → Right (AsBody s depth left ws) (body depth true s left ws)
  unfolding body
  body_right zero left ws = all_turns (statement true s None) zero (λ left ws. statement_right None zero left tt ws) (left + 1) left ws
  body_right (suc d) left ws = all_turns (statement true s (Some (body d true s))) (suc d) (λ left ws. statement_right (Some (body d true s)) (suc d) left (d, refl, λ left ws. body_right d left ws) ws) (left + 1) left ws
