-- A program with one fault: procedures that call each other.
--
--     1  sial b
--     2  proc p
--     3  call q
--     4  endproc p
--     5  proc q
--     6  call p
--     7  endproc q
--     8  endsial b
use Rattle.std.specs.Prelude.{ℕ, [], ◌∷◌, codes}
use Rattle.sial_syntax.specs.Tree.{Tree, End, Then, Call}

-- its tree
abbrev pub recursion : Tree
recursion =
    let p : ℕ = 0 in
    let q : ℕ = 1 in
    record {
      name = codes "b";
      indices = [];
      arrays = [];
      scalars = [];
      procedures =
          record {
            name = codes "p";
            body =
                Then 3 (Call q) End;
          } ∷
          record {
            name = codes "q";
            body =
                Then 6 (Call p) End;
          } ∷
          [];
      body = End;
    }
