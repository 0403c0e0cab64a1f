-- A program beside the kinds of its indices, as the code keeps them.
use Rattle.std.specs.Prelude.{◌≡◌, []}
use Rattle.sial_syntax.specs.Agreeing.{kinds_after}
use Rattle.sial_syntax.specs.Tree.{Tree, tree}
use Rattle.shape_check.specs.declared.declared.Declared.{Declared}

-- the program's tree
abbrev pub tree_of : Declared → Tree
tree_of d = tree d.program.now

-- the kinds are those of the program's indices
abbrev pub IsKnown : Declared → Type 0
IsKnown d = d.kinds.now ≡ kinds_after [] (tree_of d).indices
