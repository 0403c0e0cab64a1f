-- Worked program: procedures that call each other 17 deep.
--
--     1  sial chain
--     2  proc p1
--     3  call p2
--     4  endproc p1
--     5  proc p2
--     6  call p3
--     7  endproc p2
--     8  proc p3
--     9  call p4
--    10  endproc p3
--    11  proc p4
--    12  call p5
--    13  endproc p4
--    14  proc p5
--    15  call p6
--    16  endproc p5
--    17  proc p6
--    18  call p7
--    19  endproc p6
--    20  proc p7
--    21  call p8
--    22  endproc p7
--    23  proc p8
--    24  call p9
--    25  endproc p8
--    26  proc p9
--    27  call p10
--    28  endproc p9
--    29  proc p10
--    30  call p11
--    31  endproc p10
--    32  proc p11
--    33  call p12
--    34  endproc p11
--    35  proc p12
--    36  call p13
--    37  endproc p12
--    38  proc p13
--    39  call p14
--    40  endproc p13
--    41  proc p14
--    42  call p15
--    43  endproc p14
--    44  proc p15
--    45  call p16
--    46  endproc p15
--    47  proc p16
--    48  call p17
--    49  endproc p16
--    50  proc p17
--    51  endproc p17
--    52  call p1
--    53  endsial chain
use Rattle.std.specs.Prelude.{◌≡◌, ℕ, [], ◌∷◌, codes, Some, None}
use Rattle.sial_syntax.specs.Tree.{Tree, End, Then, Call}
use Rattle.sial_syntax.specs.Shapes.{shape_fault}
use Rattle.sial_syntax.specs.SideRules.{side_fault}

-- its tree, with a call of this procedure in line 52
abbrev pub chain_program : (called : ℕ) → Tree
chain_program called =
    let p2 : ℕ = 1 in
    let p3 : ℕ = 2 in
    let p4 : ℕ = 3 in
    let p5 : ℕ = 4 in
    let p6 : ℕ = 5 in
    let p7 : ℕ = 6 in
    let p8 : ℕ = 7 in
    let p9 : ℕ = 8 in
    let p10 : ℕ = 9 in
    let p11 : ℕ = 10 in
    let p12 : ℕ = 11 in
    let p13 : ℕ = 12 in
    let p14 : ℕ = 13 in
    let p15 : ℕ = 14 in
    let p16 : ℕ = 15 in
    let p17 : ℕ = 16 in
    record {
      name = codes "chain";
      indices = [];
      arrays = [];
      scalars = [];
      procedures =
          record {
            name = codes "p1";
            body =
                Then 3 (Call p2) End;
          } ∷
          record {
            name = codes "p2";
            body =
                Then 6 (Call p3) End;
          } ∷
          record {
            name = codes "p3";
            body =
                Then 9 (Call p4) End;
          } ∷
          record {
            name = codes "p4";
            body =
                Then 12 (Call p5) End;
          } ∷
          record {
            name = codes "p5";
            body =
                Then 15 (Call p6) End;
          } ∷
          record {
            name = codes "p6";
            body =
                Then 18 (Call p7) End;
          } ∷
          record {
            name = codes "p7";
            body =
                Then 21 (Call p8) End;
          } ∷
          record {
            name = codes "p8";
            body =
                Then 24 (Call p9) End;
          } ∷
          record {
            name = codes "p9";
            body =
                Then 27 (Call p10) End;
          } ∷
          record {
            name = codes "p10";
            body =
                Then 30 (Call p11) End;
          } ∷
          record {
            name = codes "p11";
            body =
                Then 33 (Call p12) End;
          } ∷
          record {
            name = codes "p12";
            body =
                Then 36 (Call p13) End;
          } ∷
          record {
            name = codes "p13";
            body =
                Then 39 (Call p14) End;
          } ∷
          record {
            name = codes "p14";
            body =
                Then 42 (Call p15) End;
          } ∷
          record {
            name = codes "p15";
            body =
                Then 45 (Call p16) End;
          } ∷
          record {
            name = codes "p16";
            body =
                Then 48 (Call p17) End;
          } ∷
          record {
            name = codes "p17";
            body =
                End;
          } ∷
          [];
      body = Then 52 (Call called) End;
    }

-- the side rules refuse a call of the first procedure, from which calls go 17 deep, and grant one of the second
pub record ChainIsRefused : Type 0 where
  pub first_shape : shape_fault (chain_program 0) ≡ None
  pub first : side_fault (chain_program 0) ≡ Some (record { line = 52; rule = 10 })
  pub second : side_fault (chain_program 1) ≡ None
