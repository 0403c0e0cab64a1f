-- Reading statements leaves no more of them than there were.
use Rattle.std.proofs.Common.{ℕ, zero, suc, ◌+◌, ◌<◌, ◌≤◌, List, [], ◌∷◌, ◌++◌, Bool, true, false, cond, length, Option, Some, None, Result, Ok, Err, sym, subst, arith}
use Rattle.sial_syntax.specs.Limits.{most_pardo}
use Rattle.sial_syntax.specs.Tree.{Plain}
use Rattle.sial_syntax.specs.declared.condition.Cond.{Cond}
use Rattle.sial_parser.specs.Grammar.{ends_body}
use Rattle.sial_parser.specs.Parsing.{◌>>=◌, Read, line_of, skip, name, index, index_by, indices, is_line_end, is_in, is_else, is_next, is_end_do, is_end_pardo, named_end, listed_end, wheres, condition, assign_at, Statements, Inner, counted, deeper, loop_body, do_by, do_at, pardo_at, end_if, if_by, if_at, with_left, target_first, begins_compound, begins_simple, simple_by, compound_by, other_statement, statement_by, statement, turn_of, turns, body}
use Rattle.sial_parser.specs.Scope.{Scope, thing_of}
use Rattle.sial_parser.specs.declared.fault.ParseFault.{ParseFault}
use Rattle.sial_parser.specs.declared.keyword.Keyword.{Keyword}
use Rattle.sial_parser.specs.declared.keyword.Keyword.TheVariants as key
use Rattle.sial_parser.specs.declared.word.Symbol.{Symbol}
use Rattle.sial_parser.specs.declared.word.Symbol.TheVariants.{Key, Sign, Name, Number, Quoted, LineEnd, End}
use Rattle.sial_parser.specs.declared.word.Word.{Word}
use Rattle.sial_parser.proofs.Rights.{Right, right_then, right_map}
use Rattle.sial_parser.proofs.Shapes.{turn_shape}

-- what is found whatever came before
pub any_then : {A B : Type 0} (P : B → List Word → Type 0) (r : Result A ParseFault) (go : A → Read B) → ((x : A) → Right P (go x)) → Right P (r >>= go)
any_then P (Ok x) go h = h x
any_then P (Err fault) go h = tt

-- no more statements are left than before
abbrev pub Leaves : {A : Type 0} → ℕ → Read (A × ℕ) → Type 0
Leaves n r = Right (λ x rest. x.1 ≤ n) r

-- fewer are left
abbrev pub LeavesFewer : {A : Type 0} → ℕ → Read (A × ℕ) → Type 0
LeavesFewer n r = Right (λ x rest. x.1 < n) r

module _ (s : Scope) (b : Inner) (few : (n : ℕ) (ws : List Word) → Leaves n (b n ws)) where
  loop_leaves : (n : ℕ) (x : List ℕ) (ws : List Word) → Leaves n (loop_body b n x ws)
  unfolding loop_body
  loop_leaves n x ws = right_then (λ y rest. y.1 ≤ n) (λ y rest. y.1 ≤ n) (b n ws) _ (few n ws) (λ y rest h. any_then (λ y rest. y.1 ≤ n) (skip is_end_do rest) _ (λ ends. any_then (λ y rest. y.1 ≤ n) (named_end x ends) _ (λ rest. h)))

  by_leaves : (n : ℕ) (x : List ℕ) (i : ℕ) (within : Bool) (ws : List Word) → Leaves n (do_by s b n x i within ws)
  by_leaves n x i true ws =
      any_then (λ y rest. y.1 ≤ n) (skip is_in ws) _
      (λ ws. any_then (λ y rest. y.1 ≤ n) (index s ws) _ (λ j. any_then (λ y rest. y.1 ≤ n) (skip is_line_end j.1) _ (λ ws. right_then (λ y rest. y.1 ≤ n) (λ y rest. y.1 ≤ n) (loop_body b n x ws) _ (loop_leaves n x ws) (λ y rest h. h))))
  by_leaves n x i false ws = any_then (λ y rest. y.1 ≤ n) (skip is_line_end ws) _ (λ ws. right_then (λ y rest. y.1 ≤ n) (λ y rest. y.1 ≤ n) (loop_body b n x ws) _ (loop_leaves n x ws) (λ y rest h. h))

  do_leaves : (n : ℕ) (ws : List Word) → Leaves n (do_at s b n ws)
  unfolding do_at
  do_leaves n ws = any_then (λ y rest. y.1 ≤ n) (name ws) _ (λ x. any_then (λ y rest. y.1 ≤ n) (index_by (line_of ws) (thing_of s x.0)) _ (λ i. by_leaves n x.0 i (is_next is_in x.1) x.1))

  pardo_leaves : (n : ℕ) (ws : List Word) → Leaves n (pardo_at s b n ws)
  unfolding pardo_at
  pardo_leaves n ws =
      any_then (λ y rest. y.1 ≤ n) (indices s is_line_end most_pardo [] ws) _
      (λ is. any_then (λ y rest. y.1 ≤ n) (wheres s (length is.1 + 1) [] is.1) _
      (λ cs. right_then (λ y rest. y.1 ≤ n) (λ y rest. y.1 ≤ n) (b n cs.1) _ (few n cs.1) (λ y rest h. any_then (λ y rest. y.1 ≤ n) (skip is_end_pardo rest) _ (λ ends. any_then (λ y rest. y.1 ≤ n) (listed_end s is.0 ends) _ (λ rest. h)))))

  if_leaves_by : (n : ℕ) (c : Cond) (y : Statements) → y.1 ≤ n → (otherwise : Bool) (ws : List Word) → Leaves n (if_by b c y otherwise ws)
  if_leaves_by n c y h true ws =
      any_then (λ y rest. y.1 ≤ n) (skip is_else ws) _ (λ ws. any_then (λ y rest. y.1 ≤ n) (skip is_line_end ws) _
      (λ ws. right_then (λ z rest. z.1 ≤ y.1) (λ y rest. y.1 ≤ n) (b y.1 ws) _ (few y.1 ws) (λ z rest g. any_then (λ y rest. y.1 ≤ n) (end_if rest) _ (λ rest. omega (arith, g, h)))))
  if_leaves_by n c y h false ws = any_then (λ y rest. y.1 ≤ n) (end_if ws) _ (λ rest. h)

  if_leaves : (n : ℕ) (ws : List Word) → Leaves n (if_at s b n ws)
  unfolding if_at
  if_leaves n ws = any_then (λ y rest. y.1 ≤ n) (condition s ws) _ (λ c. right_then (λ y rest. y.1 ≤ n) (λ y rest. y.1 ≤ n) (b n c.1) _ (few n c.1) (λ y rest h. if_leaves_by n c.0 y h (is_next is_else rest) rest))

  compound_key : (n : ℕ) (k : Keyword) (ws : List Word) → Leaves n (compound_by s b n (Key k) ws)
  compound_key n key.Do ws = do_leaves n ws
  compound_key n key.Pardo ws = pardo_leaves n ws
  compound_key n key.If ws = if_leaves n ws
  compound_key n _ ws = tt

  pub compound_leaves : (n : ℕ) (what : Symbol) (ws : List Word) → Leaves n (compound_by s b n what ws)
  compound_leaves n (Key k) ws = compound_key n k ws
  compound_leaves n _ ws = tt

-- bodies that may be read within a statement
abbrev pub InnerLeaves : Option Inner → Type 0
InnerLeaves None = Unit {0}
InnerLeaves (Some b) = (n : ℕ) (ws : List Word) → Leaves n (b n ws)

module _ (strict : Bool) (s : Scope) where
  weaker : {A : Type 0} (m : ℕ) (r : Read (A × ℕ)) → Leaves m r → LeavesFewer (suc m) r
  weaker m (Ok x) k = omega (arith, k)
  weaker m (Err fault) k = tt

  counted_fewer : {A : Type 0} (n line : ℕ) (go : ℕ → Read (A × ℕ)) → ((m : ℕ) → Leaves m (go m)) → LeavesFewer n (counted n line go)
  counted_fewer zero line go h = tt
  counted_fewer (suc m) line go h = weaker m (go m) (h m)

  left_so : (m : ℕ) (r : Read Plain) → Leaves m (with_left m r)
  left_so m (Ok x) = omega arith
  left_so m (Err fault) = tt

  deeper_leaves : (inner : Option Inner) → InnerLeaves inner → (m line : ℕ) (what : Symbol) (ws : List Word) → Leaves m (deeper inner line (λ b. compound_by s b m what ws))
  deeper_leaves None h m line what ws = tt
  deeper_leaves (Some b) h m line what ws = compound_leaves s b h m what ws

  choice_right : {A : Type 0} (P : A → List Word → Type 0) (b : Bool) (f g : Read A) → Right P f → Right P g → Right P (cond b f g)
  choice_right P true f g h k = h
  choice_right P false f g h k = k

  other_fewer : (inner : Option Inner) → InnerLeaves inner → (n : ℕ) (what : Symbol) (w : Word) (ws : List Word) → LeavesFewer n (other_statement strict s inner n what w ws)
  other_fewer inner h n what w ws =
      choice_right (λ x rest. x.1 < n) (begins_compound what) _ _ (counted_fewer n w.line (λ m. deeper inner w.line (λ b. compound_by s b m what ws)) (λ m. deeper_leaves inner h m w.line what ws))
      (choice_right (λ x rest. x.1 < n) (begins_simple what) _ _ (counted_fewer n w.line (λ m. with_left m (simple_by strict s what ws)) (λ m. left_so m (simple_by strict s what ws))) tt)

  by_fewer : (inner : Option Inner) → InnerLeaves inner → (n : ℕ) (what : Symbol) (w : Word) (ws : List Word) → LeavesFewer n (statement_by strict s inner n what w ws)
  by_fewer inner h n (Name x) w ws = any_then (λ x rest. x.1 < n) (target_first s x w ws) _ (λ i. counted_fewer n w.line (λ m. with_left m (assign_at s (w ∷ ws))) (λ m. left_so m (assign_at s (w ∷ ws))))
  by_fewer inner h n (Key k) w ws = other_fewer inner h n (Key k) w ws
  by_fewer inner h n (Sign k) w ws = other_fewer inner h n (Sign k) w ws
  by_fewer inner h n (Number k) w ws = other_fewer inner h n (Number k) w ws
  by_fewer inner h n (Quoted k) w ws = other_fewer inner h n (Quoted k) w ws
  by_fewer inner h n LineEnd w ws = other_fewer inner h n LineEnd w ws
  by_fewer inner h n End w ws = other_fewer inner h n End w ws

  pub statement_fewer : (inner : Option Inner) → InnerLeaves inner → (n : ℕ) (ws : List Word) → LeavesFewer n (statement strict s inner n ws)
  unfolding statement
  statement_fewer inner h n [] = tt
  statement_fewer inner h n (w ∷ ws) = by_fewer inner h n w.symbol w ws

  turn_by : (inner : Option Inner) → InnerLeaves inner → (b : Bool) (n : ℕ) (front : List (ℕ × Plain)) (left : ℕ) (w : Word) (ws : List Word)
      → ((front : List (ℕ × Plain)) (left : ℕ) (ws : List Word) → Leaves left (turns (statement strict s inner) n front left ws))
      → Leaves left (cond b (Ok ((front, left), w ∷ ws)) (statement strict s inner left (w ∷ ws) >>= λ x. turns (statement strict s inner) n (front ++ (w.line, x.0.0) ∷ []) x.0.1 x.1))
  turn_by inner h true n front left w ws k = omega arith
  turn_by inner h false n front left w ws k =
      right_then (λ x rest. x.1 < left) (λ y rest. y.1 ≤ left) (statement strict s inner left (w ∷ ws)) _ (statement_fewer inner h left (w ∷ ws))
      (λ x rest few. right_map (λ y rest. y.1 ≤ x.1) (λ y rest. y.1 ≤ left) (turns (statement strict s inner) n (front ++ (w.line, x.0) ∷ []) x.1 rest) (λ y rest g. omega (arith, few, g)) (k (front ++ (w.line, x.0) ∷ []) x.1 rest))

  turns_leave : (inner : Option Inner) → InnerLeaves inner → (n : ℕ) (front : List (ℕ × Plain)) (left : ℕ) (ws : List Word) → Leaves left (turns (statement strict s inner) n front left ws)
  unfolding turns turn_of
  turns_leave inner h zero front left ws = tt
  turns_leave inner h (suc n) front left [] = tt
  turns_leave inner h (suc n) front left (w ∷ ws) = subst (Leaves left) (sym (turn_shape (statement strict s inner) n front left w ws)) (turn_by inner h (ends_body w.symbol) n front left w ws (turns_leave inner h n))

  pub body_leaves : (d n : ℕ) (ws : List Word) → Leaves n (body d strict s n ws)
  unfolding body
  body_leaves zero n ws = turns_leave None tt (n + 1) [] n ws
  body_leaves (suc d) n ws = turns_leave (Some (body d strict s)) (body_leaves d) (n + 1) [] n ws
