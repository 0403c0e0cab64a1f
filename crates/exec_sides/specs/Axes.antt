-- What the code makes of the shapes of a contraction.
use Rattle.std.specs.Prelude.{ℕ, ◌<◌, ◌^◌, List, take}
use Rattle.kernel_contract.specs.declared.axis.Axis.{Axis}
use Rattle.sial_syntax.specs.Boxes.{volume}
use Rattle.sial_meaning.specs.ReadBackLaws.{under}
use Rattle.exec_sides.specs.declared.axes.Axes.{Axes}
use Rattle.exec_sides.specs.declared.axes.Shapes.{Shapes}
use Rattle.exec_sides.specs.declared.seen.Shape.{Shape}
use Rattle.exec_sides.specs.Contracting.{stride_under}
use Rattle.exec_sides.specs.Seen.{lengths_of}

-- the axes that are there
abbrev pub axes_in : Axes → List Axis
axes_in axes = take axes.count axes.list

-- a shape has positions, and fewer than 2^32
abbrev pub HasStrides : Shape → Type 0
HasStrides shape = (0 < volume (lengths_of shape)) × (volume (lengths_of shape) < 2 ^ 32)

-- so have all three
abbrev pub IsStrided : Shapes → Type 0
IsStrided shapes = HasStrides shapes.to × HasStrides shapes.left × HasStrides shapes.right

-- the stride of an index in a shape
abbrev pub stride_at : Shape → ℕ → ℕ
stride_at shape index = stride_under shape.at.now (lengths_of shape) index

-- the axis of an index, as long as in one of the shapes
abbrev pub axis_under : Shapes → Shape → ℕ → Axis
axis_under shapes own index = record { len = under own.at.now (lengths_of own) index; a = stride_at shapes.left index; b = stride_at shapes.right index; to = stride_at shapes.to index }
