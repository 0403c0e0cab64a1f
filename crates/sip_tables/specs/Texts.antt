-- The texts that a program uses, in order, one for each use.
use Rattle.std.specs.Prelude.{ℕ, List, [], ◌∷◌, ◌++◌, map, flat_map}
use Rattle.sial_syntax.specs.declared.array.ArrayDecl.{ArrayDecl}
use Rattle.sial_syntax.specs.declared.index.Bound.{Bound}
use Rattle.sial_syntax.specs.declared.index.Bound.TheVariants.{Number, Named}
use Rattle.sial_syntax.specs.declared.index.IndexDecl.{IndexDecl}
use Rattle.sial_syntax.specs.declared.index.Range.{Range}
use Rattle.sial_syntax.specs.declared.index.Range.TheVariants.{Segments, Sub}
use Rattle.sial_syntax.specs.Tree.{Tree, Procedure, Block, End, Then, Plain, Do, DoIn, Pardo, If, IfElse, Print}

-- the name of the constant that a bound is
abbrev pub bound_texts : Bound → List (List ℕ)
bound_texts (Number n) = []
bound_texts (Named name) = name ∷ []

-- the names of the constants of a range
abbrev pub range_texts : Range → List (List ℕ)
range_texts (Segments kind lo hi) = bound_texts lo ++ bound_texts hi
range_texts (Sub super) = []

-- an index's name, and then its constants'
abbrev pub index_texts : IndexDecl → List (List ℕ)
index_texts index = index.name ∷ range_texts index.range

abbrev mutual
  -- what a statement prints, in order of its code
  pub prints : Plain → List (List ℕ)
  prints (Do index body) = body_prints body
  prints (DoIn sub index body) = body_prints body
  prints (Pardo indices wheres body) = body_prints body
  prints (If cond body) = body_prints body
  prints (IfElse cond body other) = body_prints body ++ body_prints other
  prints (Print text) = text ∷ []
  prints _ = []

  -- what statements print, in order of their code
  pub body_prints : Block → List (List ℕ)
  body_prints End = []
  body_prints (Then line form rest) = prints form ++ body_prints rest

-- the names before the arrays': the program's, and those of its indices and their constants
abbrev pub index_names : Tree → List (List ℕ)
index_names p = p.name ∷ flat_map index_texts p.indices

-- the names before the scalars'
abbrev pub array_names : Tree → List (List ℕ)
array_names p = index_names p ++ map (λ (a : ArrayDecl). a.name) p.arrays

-- the names before the procedures'
abbrev pub scalar_names : Tree → List (List ℕ)
scalar_names p = array_names p ++ p.scalars

-- all names of a program
abbrev pub names : Tree → List (List ℕ)
names p = scalar_names p ++ map (λ (q : Procedure). q.name) p.procedures

-- all that a program prints, in order of its code
abbrev pub printed : Tree → List (List ℕ)
printed p = body_prints p.body ++ flat_map (λ (q : Procedure). body_prints q.body) p.procedures

-- all texts of a program
abbrev pub texts : Tree → List (List ℕ)
texts p = names p ++ printed p
