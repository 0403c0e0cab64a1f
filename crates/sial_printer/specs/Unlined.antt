-- A tree without its lines: what two trees have alike that differ in their lines alone.
use Rattle.std.specs.Prelude.{map}
use Rattle.sial_syntax.specs.Tree.{Tree, Procedure, Block, End as Ended, Then, Plain, Do, DoIn, Pardo, If, IfElse}
use Rattle.sial_syntax.specs.declared.array.ArrayDecl.{ArrayDecl}
use Rattle.sial_syntax.specs.declared.index.IndexDecl.{IndexDecl}

abbrev mutual
  -- a statement without the lines of those inside
  pub unlined_form : Plain → Plain
  unlined_form (Do i body) = Do i (unlined body)
  unlined_form (DoIn ii i body) = DoIn ii i (unlined body)
  unlined_form (Pardo is conds body) = Pardo is conds (unlined body)
  unlined_form (If c body) = If c (unlined body)
  unlined_form (IfElse c body other) = IfElse c (unlined body) (unlined other)
  unlined_form form = form

  -- statements without their lines
  pub unlined : Block → Block
  unlined Ended = Ended
  unlined (Then line form rest) = Then 0 (unlined_form form) (unlined rest)

-- a declared index without its line
abbrev pub unlined_index : IndexDecl → IndexDecl
unlined_index x = record { name = x.name; line = 0; range = x.range }

-- a declared array without its line
abbrev pub unlined_array : ArrayDecl → ArrayDecl
unlined_array x = record { name = x.name; line = 0; kind = x.kind; dims = x.dims }

-- a procedure without the lines of its statements
abbrev pub unlined_procedure : Procedure → Procedure
unlined_procedure q = record { name = q.name; body = unlined q.body }

-- a whole program without lines
abbrev pub unlined_tree : Tree → Tree
unlined_tree p = record {
  name = p.name;
  indices = map unlined_index p.indices;
  arrays = map unlined_array p.arrays;
  scalars = p.scalars;
  procedures = map unlined_procedure p.procedures;
  body = unlined p.body;
}
