-- Parts of a block, dimension by dimension.
use Rattle.std.specs.Prelude.{ℕ, List, map}
use Rattle.kernel_permute.specs.declared.part.Part.{Part}

-- where the part begins in each dimension
abbrev pub starts : List Part → List ℕ
starts parts = map (λ part. part.at) parts

-- the part's size in each dimension
abbrev pub sizes : List Part → List ℕ
sizes parts = map (λ part. part.size) parts

-- the block's dimensions
abbrev pub dims_of : List Part → List ℕ
dims_of parts = map (λ part. part.dim) parts
