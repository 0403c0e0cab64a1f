-- A program with one fault: a pardo within a pardo, by a call.
--
--     1  sial b
--     2  index i = 1, 2
--     3  index j = 1, 2
--     4  proc p
--     5  pardo j
--     6  endpardo j
--     7  endproc p
--     8  pardo i
--     9  call p
--    10  endpardo i
--    11  endsial b
use Rattle.std.specs.Prelude.{ℕ, [], ◌∷◌, codes}
use Rattle.sial_syntax.specs.declared.index.Bound.TheVariants as bound
use Rattle.sial_syntax.specs.declared.index.Kind.TheVariants as kind
use Rattle.sial_syntax.specs.declared.index.Range.TheVariants as range
use Rattle.sial_syntax.specs.Tree.{Tree, End, Then, Pardo, Call}

-- its tree
abbrev pub pardo_in_pardo : Tree
pardo_in_pardo =
    let i : ℕ = 0 in
    let j : ℕ = 1 in
    let p : ℕ = 0 in
    record {
      name = codes "b";
      indices =
          record { name = codes "i"; line = 2; range = range.Segments kind.Index (bound.Number 1) (bound.Number 2) } ∷
          record { name = codes "j"; line = 3; range = range.Segments kind.Index (bound.Number 1) (bound.Number 2) } ∷
          [];
      arrays = [];
      scalars = [];
      procedures =
          record {
            name = codes "p";
            body =
                Then 5 (Pardo (j ∷ []) [] End) End;
          } ∷
          [];
      body =
          Then 8 (Pardo (i ∷ []) [] (
          Then 9 (Call p) End)) End;
    }
