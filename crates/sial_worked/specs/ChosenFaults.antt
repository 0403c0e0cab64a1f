-- What the rules find at their edges, where a choice was made.
use Rattle.std.specs.Prelude.{◌≡◌, Some, None}
use Rattle.sial_syntax.specs.Shapes.{shape_fault}
use Rattle.sial_syntax.specs.SideRules.{side_fault}
use Rattle.sial_worked.specs.ShortBlock.{short_block}
use Rattle.sial_worked.specs.UncalledPut.{uncalled_put}
use Rattle.sial_worked.specs.UncalledRead.{uncalled_read}
use Rattle.sial_worked.specs.UncalledSource.{uncalled_source}
use Rattle.sial_worked.specs.UnevenProduct.{uneven_product}
use Rattle.sial_worked.specs.ZeroSum.{zero_sum}

-- where a choice was made, what is found first
pub record ChosenFaultsFound : Type 0 where
  -- a sum isn't the number 0, whatever it comes to: MixedScalar
  pub zero_sum_shape : shape_fault zero_sum ≡ None
  pub zero_sum : side_fault zero_sum ≡ Some (record { line = 4; rule = 7 })
  -- kinds are compared at the places that both lists have, so WrongKind goes before WrongIndices
  pub short_block : shape_fault short_block ≡ Some (record { line = 6; rule = 4 })
  -- PartialRead and the source of `collective` are looked at in procedures that nobody calls
  pub uncalled_read_shape : shape_fault uncalled_read ≡ None
  pub uncalled_read : side_fault uncalled_read ≡ Some (record { line = 5; rule = 8 })
  pub uncalled_source_shape : shape_fault uncalled_source ≡ None
  pub uncalled_source : side_fault uncalled_source ≡ Some (record { line = 5; rule = 7 })
  -- rules that name a side aren't
  pub uncalled_put_shape : shape_fault uncalled_put ≡ None
  pub uncalled_put : side_fault uncalled_put ≡ None
  -- to a scalar, the product of two blocks is a form that stands; its index rule fails: WrongIndices
  pub uneven_product : shape_fault uneven_product ≡ Some (record { line = 8; rule = 5 })
