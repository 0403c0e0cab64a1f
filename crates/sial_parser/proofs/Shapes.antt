-- A turn of a loop, by the word that it meets.
use Rattle.std.proofs.Common.{◌≡◌, ℕ, suc, List, [], ◌∷◌, ◌++◌, Bool, true, false, cond, length, Option, Some, None, Ok, Err, refl}
use Rattle.sial_syntax.specs.Tree.{Plain, Procedure}
use Rattle.sial_syntax.specs.declared.condition.Cond.{Cond}
use Rattle.sial_parser.specs.Grammar.{is_where, ends_body, begins_proc, begins_declaration}
use Rattle.sial_parser.specs.Parsing.{◌>>=◌, Read, unexpected, condition, where_one, with_where, wheres, Statements, Turn, turn_of, with_turn, turns, declaration, declared_one, declarations, Procedures, proc_at, proc_one, with_proc, procs}
use Rattle.sial_parser.specs.Scope.{Scope, Declared}
use Rattle.sial_parser.specs.declared.thing.Thing.TheVariants.{Proc}
use Rattle.sial_parser.specs.declared.word.Word.{Word}

where_by : (b : Bool) (r : Read Cond) (go : List Cond → List Word → Read (List Cond)) (front : List Cond) (ws : List Word)
    → ◌>>=◌ {A = Option Cond × List Word} (cond b (r >>= λ c. Ok (Some c.0, c.1)) (Ok (None, ws))) (λ x. with_where go front x.0 x.1) ≡ cond b (r >>= λ c. go (front ++ c.0 ∷ []) c.1) (Ok (front, ws))
where_by true (Ok c) go front ws = refl
where_by true (Err fault) go front ws = refl
where_by false r go front ws = refl

-- a line of `where` and what follows it, or the end
pub where_shape : (s : Scope) (n : ℕ) (front : List Cond) (w : Word) (ws : List Word) → wheres s (suc n) front (w ∷ ws) ≡ cond (is_where w.symbol) (condition s ws >>= λ c. wheres s n (front ++ c.0 ∷ []) c.1) (Ok (front, w ∷ ws))
unfolding wheres where_one
where_shape s n front w ws = where_by (is_where w.symbol) (condition s ws) (wheres s n) front (w ∷ ws)

pub where_empty : (s : Scope) (n : ℕ) (front : List Cond) → wheres s (suc n) front [] ≡ unexpected []
unfolding wheres where_one
where_empty s n front = refl

turn_by : (b : Bool) (r : Read (Plain × ℕ)) (line : ℕ) (go : List (ℕ × Plain) → ℕ → List Word → Read Statements) (front : List (ℕ × Plain)) (left : ℕ) (ws : List Word)
    → ◌>>=◌ {A = Turn × List Word} (cond b (Ok (None, ws)) (r >>= λ x. Ok (Some ((line, x.0.0), x.0.1), x.1))) (λ x. with_turn go front left x.0 x.1) ≡ cond b (Ok ((front, left), ws)) (r >>= λ x. go (front ++ (line, x.0.0) ∷ []) x.0.1 x.1)
turn_by true r line go front left ws = refl
turn_by false (Ok x) line go front left ws = refl
turn_by false (Err fault) line go front left ws = refl

-- a statement and what follows it, or the end
pub turn_shape : (one : (left : ℕ) → List Word → Read (Plain × ℕ)) (n : ℕ) (front : List (ℕ × Plain)) (left : ℕ) (w : Word) (ws : List Word)
    → turns one (suc n) front left (w ∷ ws) ≡ cond (ends_body w.symbol) (Ok ((front, left), w ∷ ws)) (one left (w ∷ ws) >>= λ x. turns one n (front ++ (w.line, x.0.0) ∷ []) x.0.1 x.1)
unfolding turns turn_of
turn_shape one n front left w ws = turn_by (ends_body w.symbol) (one left (w ∷ ws)) w.line (turns one n) front left (w ∷ ws)

declared_by : (b : Bool) (r : Read Declared) (go : Declared → List Word → Read Declared) (d : Declared) (ws : List Word)
    → ◌>>=◌ {A = (Declared × Bool) × List Word} (cond b (r >>= λ e. Ok ((e.0, true), e.1)) (Ok ((d, false), ws))) (λ x. cond x.0.1 (go x.0.0 x.1) (Ok (x.0.0, x.1))) ≡ cond b (r >>= λ e. go e.0 e.1) (Ok (d, ws))
declared_by true (Ok e) go d ws = refl
declared_by true (Err fault) go d ws = refl
declared_by false r go d ws = refl

-- a declaration and what follows it, or the end
pub declared_shape : (n : ℕ) (d : Declared) (w : Word) (ws : List Word) → declarations (suc n) d (w ∷ ws) ≡ cond (begins_declaration w.symbol) (declaration d (w ∷ ws) >>= λ e. declarations n e.0 e.1) (Ok (d, w ∷ ws))
unfolding declarations declared_one
declared_shape n d w ws = declared_by (begins_declaration w.symbol) (declaration d (w ∷ ws)) (declarations n) d (w ∷ ws)

-- a procedure and what follows it
abbrev pub proc_then : ((before : Scope) → List Procedure → ℕ → List Word → Read Procedures) → (before : Scope) → (front : List Procedure) → Read (Procedure × ℕ) → Read Procedures
proc_then go before front r = r >>= λ p. go (before ++ record { name = p.0.0.name; thing = Proc (length front) } ∷ []) (front ++ p.0.0 ∷ []) p.0.1 p.1

proc_by : (b : Bool) (r : Read (Procedure × ℕ)) (go : (before : Scope) → List Procedure → ℕ → List Word → Read Procedures) (before : Scope) (front : List Procedure) (left : ℕ) (ws : List Word)
    → ◌>>=◌ {A = Option (Procedure × ℕ) × List Word} (cond b (r >>= λ p. Ok (Some p.0, p.1)) (Ok (None, ws))) (λ x. with_proc go before front left x.0 x.1) ≡ cond b (proc_then go before front r) (Ok ((front, left), ws))
proc_by true (Ok p) go before front left ws = refl
proc_by true (Err fault) go before front left ws = refl
proc_by false r go before front left ws = refl

-- a procedure and what follows it, or the end
pub proc_shape : (strict : Bool) (s : Scope) (n : ℕ) (before : Scope) (front : List Procedure) (left : ℕ) (w : Word) (ws : List Word)
    → procs strict s (suc n) before front left (w ∷ ws) ≡ cond (begins_proc w.symbol) (proc_then (procs strict s n) before front (proc_at strict s before (length front) left ws)) (Ok ((front, left), w ∷ ws))
unfolding procs proc_one
proc_shape strict s n before front left w ws = proc_by (begins_proc w.symbol) (proc_at strict s before (length front) left ws) (procs strict s n) before front left (w ∷ ws)
