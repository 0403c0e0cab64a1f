-- A program with one fault: a collective of a scalar that isn't partial.
--
--     1  sial b
--     2  scalar x
--     3  scalar y
--     4  collective x += y
--     5  endsial b
use Rattle.std.specs.Prelude.{ℕ, [], ◌∷◌, codes}
use Rattle.sial_syntax.specs.Tree.{Tree, End, Then, Collective}

-- its tree
abbrev pub collected_other : Tree
collected_other =
    let x : ℕ = 0 in
    let y : ℕ = 1 in
    record {
      name = codes "b";
      indices = [];
      arrays = [];
      scalars = codes "x" ∷ codes "y" ∷ [];
      procedures = [];
      body = Then 4 (Collective x y) End;
    }
