-- Statements where they stand: with the indices that are bound there, and within a pardo or not.
use Rattle.std.specs.Prelude.{ℕ, List, [], ◌∷◌, ◌++◌, Bool, true, false, flat_map}
use Rattle.sial_syntax.specs.Tree.{Tree, Procedure, Block, End, Then, Plain, Do, DoIn, Pardo, If, IfElse}

-- a statement with its line, the indices bound where it stands, and whether that is within a pardo
pub record Visit : Type 0 where
  pub line : ℕ
  pub form : Plain
  pub bound : List ℕ
  pub within : Bool

abbrev mutual
  -- the statements of a body in order, each before those inside it
  pub visits : List ℕ → (within : Bool) → Block → List Visit
  visits bound within End = []
  visits bound within (Then line form rest) =
      record { line = line; form = form; bound = bound; within = within } ∷ (inner_visits bound within form ++ visits bound within rest)

  -- the statements inside a statement
  pub inner_visits : List ℕ → (within : Bool) → Plain → List Visit
  inner_visits bound within (Do index body) = visits (index ∷ bound) within body
  inner_visits bound within (DoIn sub index body) = visits (sub ∷ bound) within body
  inner_visits bound within (Pardo indices wheres body) = visits (indices ++ bound) true body
  inner_visits bound within (If test body) = visits bound within body
  inner_visits bound within (IfElse test body other) = visits bound within body ++ visits bound within other
  inner_visits bound within _ = []

-- the statements of a body that begins with no index bound, outside of pardos
abbrev pub body_visits : Block → List Visit
body_visits body = visits [] false body

-- all statements of a program
abbrev pub all_visits : Tree → List Visit
all_visits p = body_visits p.body ++ flat_map (λ (q : Procedure). body_visits q.body) p.procedures
