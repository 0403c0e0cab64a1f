-- What the kind of an index is: that of its range, and of a subindex that of its super index.
use Rattle.std.specs.Prelude.{◌≡◌, ℕ}
use Rattle.sial_syntax.specs.declared.index.Bound.{Bound}
use Rattle.sial_syntax.specs.declared.index.Kind.{Kind}
use Rattle.sial_syntax.specs.declared.index.Range.TheVariants.{Segments, Sub}
use Rattle.sial_syntax.specs.Agreeing.{range_in, index_kind}
use Rattle.sial_syntax.specs.Proper.{IsProper}
use Rattle.sial_syntax.specs.Tree.{Tree}

-- an index over segments has their kind
abbrev pub KindOfSegments : Type 0
KindOfSegments =
    (p : Tree) (index : ℕ) (kind : Kind) (lo hi : Bound)
    → IsProper p → range_in p index ≡ Segments kind lo hi → index_kind p index ≡ kind

-- a subindex has the kind of its super index, also where that is a subindex itself
abbrev pub KindOfSubindex : Type 0
KindOfSubindex =
    (p : Tree) (sub super : ℕ)
    → IsProper p → range_in p sub ≡ Sub super → index_kind p sub ≡ index_kind p super
