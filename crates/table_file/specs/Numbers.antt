-- The numbers of a table file, and what each of them stands for.
use Rattle.std.specs.Prelude.{ℕ}
use Rattle.sial_syntax.specs.declared.access.Access.{Access}
use Rattle.sial_syntax.specs.declared.access.Access.TheVariants as access
use Rattle.sial_syntax.specs.declared.array.ArrayKind.{ArrayKind}
use Rattle.sial_syntax.specs.declared.array.ArrayKind.TheVariants.{Static, Temp, Local, Distributed, Served}
use Rattle.sial_syntax.specs.declared.condition.Test.{Test}
use Rattle.sial_syntax.specs.declared.condition.Test.TheVariants.{Less, LessEqual, Greater, GreaterEqual, Equal, NotEqual}
use Rattle.sial_syntax.specs.declared.index.Kind.{Kind}
use Rattle.sial_syntax.specs.declared.index.Kind.TheVariants.{Ao, Mo, Moa, Mob, Index}
use Rattle.sial_syntax.specs.declared.operand.Bin.{Bin}
use Rattle.sial_syntax.specs.declared.operand.Bin.TheVariants.{Plus, Minus, Times, Outer}
use Rattle.sial_syntax.specs.declared.operand.Op.{Op}
use Rattle.sial_syntax.specs.declared.operand.Op.TheVariants.{Set, Add, Subtract, Scale}

-- what an index counts
abbrev pub kind_number : Kind → ℕ
kind_number Ao = 1
kind_number Mo = 2
kind_number Moa = 3
kind_number Mob = 4
kind_number Index = 5

-- where an array's blocks live
abbrev pub array_number : ArrayKind → ℕ
array_number Static = 1
array_number Temp = 2
array_number Local = 3
array_number Distributed = 4
array_number Served = 5

-- a comparison
abbrev pub test_number : Test → ℕ
test_number Less = 1
test_number LessEqual = 2
test_number Greater = 3
test_number GreaterEqual = 4
test_number Equal = 5
test_number NotEqual = 6

-- how an assignment combines
abbrev pub op_number : Op → ℕ
op_number Set = 1
op_number Add = 2
op_number Subtract = 3
op_number Scale = 4

-- what stands between two operands; 0 stands for a second operand that isn't there
abbrev pub bin_number : Bin → ℕ
bin_number Plus = 1
bin_number Minus = 2
bin_number Times = 3
bin_number Outer = 4

-- how a block is put; 0 stands for no way to put it
abbrev pub how_number : Access → ℕ
how_number access.Read = 0
how_number access.Store = 1
how_number access.Add = 2
how_number access.Max = 3
