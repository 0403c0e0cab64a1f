-- A tree with the lines that its parts have in the text that is printed of it; all else is as it was.
use Rattle.std.specs.Prelude.{ℕ, ◌+◌, List, [], ◌∷◌, map, flat_map, length}
use Rattle.sial_syntax.specs.Tree.{Tree, Procedure, Block, End as Ended, Then, Plain, Do, DoIn, Pardo, If, IfElse}
use Rattle.sial_syntax.specs.declared.array.ArrayDecl.{ArrayDecl}
use Rattle.sial_syntax.specs.declared.index.IndexDecl.{IndexDecl}
use Rattle.sial_printer.specs.Lines.{where_line, statement, statements, index_line, array_line, scalar_line, procedure_lines}

abbrev mutual
  -- a statement whose first line is this one
  pub relined_form : Tree → (line : ℕ) → Plain → Plain
  relined_form p line (Do i body) = Do i (relined p (line + 1) body)
  relined_form p line (DoIn ii i body) = DoIn ii i (relined p (line + 1) body)
  relined_form p line (Pardo is conds body) = Pardo is conds (relined p (line + 1 + length (map (where_line p) conds)) body)
  relined_form p line (If c body) = If c (relined p (line + 1) body)
  relined_form p line (IfElse c body other) = IfElse c (relined p (line + 1) body) (relined p (line + 1 + length (statements p body) + 1) other)
  relined_form p line form = form

  -- statements from a line on
  pub relined : Tree → (line : ℕ) → Block → Block
  relined p line Ended = Ended
  relined p line (Then was form rest) = Then line (relined_form p line form) (relined p (line + length (statement p form)) rest)

-- declared indices from a line on, one a line
abbrev pub relined_indices : (line : ℕ) → List IndexDecl → List IndexDecl
relined_indices line [] = []
relined_indices line (x ∷ xs) = record { name = x.name; line = line; range = x.range } ∷ relined_indices (line + 1) xs

-- declared arrays from a line on, one a line
abbrev pub relined_arrays : (line : ℕ) → List ArrayDecl → List ArrayDecl
relined_arrays line [] = []
relined_arrays line (x ∷ xs) = record { name = x.name; line = line; kind = x.kind; dims = x.dims } ∷ relined_arrays (line + 1) xs

-- procedures from a line on
abbrev pub relined_procedures : Tree → (line : ℕ) → List Procedure → List Procedure
relined_procedures p line [] = []
relined_procedures p line (q ∷ qs) = record { name = q.name; body = relined p (line + 1) q.body } ∷ relined_procedures p (line + length (procedure_lines p q)) qs

-- the line of the first array, of the first scalar, of the first procedure, and of the body
abbrev pub arrays_from : Tree → ℕ
arrays_from p = 2 + length (map (index_line p) p.indices)

abbrev pub scalars_from : Tree → ℕ
scalars_from p = arrays_from p + length (map (array_line p) p.arrays)

abbrev pub procedures_from : Tree → ℕ
procedures_from p = scalars_from p + length (map scalar_line p.scalars)

abbrev pub body_from : Tree → ℕ
body_from p = procedures_from p + length (flat_map (procedure_lines p) p.procedures)

-- a whole program
abbrev pub relined_tree : Tree → Tree
relined_tree p = record {
  name = p.name;
  indices = relined_indices 2 p.indices;
  arrays = relined_arrays (arrays_from p) p.arrays;
  scalars = p.scalars;
  procedures = relined_procedures p (procedures_from p) p.procedures;
  body = relined p (body_from p) p.body;
}
