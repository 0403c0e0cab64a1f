-- A program at an edge of the rules: a collective of a scalar that isn't partial in a procedure that nobody calls.
--
--     1  sial b
--     2  scalar x
--     3  scalar y
--     4  proc p
--     5  collective x += y
--     6  endproc p
--     7  endsial b
use Rattle.std.specs.Prelude.{ℕ, [], ◌∷◌, codes}
use Rattle.sial_syntax.specs.Tree.{Tree, End, Then, Collective}

-- its tree
abbrev pub uncalled_source : Tree
uncalled_source =
    let x : ℕ = 0 in
    let y : ℕ = 1 in
    record {
      name = codes "b";
      indices = [];
      arrays = [];
      scalars = codes "x" ∷ codes "y" ∷ [];
      procedures =
          record {
            name = codes "p";
            body =
                Then 5 (Collective x y) End;
          } ∷
          [];
      body = End;
    }
