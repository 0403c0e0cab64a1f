-- What the rules find in programs with one fault each.
use Rattle.std.specs.Prelude.{◌≡◌, Some, None}
use Rattle.sial_syntax.specs.declared.index.Kind.TheVariants as kind
use Rattle.sial_syntax.specs.Shapes.{shape_fault}
use Rattle.sial_syntax.specs.SideRules.{side_fault}
use Rattle.sial_worked.specs.CollectedOther.{collected_other}
use Rattle.sial_worked.specs.GetStatic.{get_static}
use Rattle.sial_worked.specs.MixedLocal.{mixed_local}
use Rattle.sial_worked.specs.MixedPartial.{mixed_partial}
use Rattle.sial_worked.specs.MixedScalar.{mixed_scalar}
use Rattle.sial_worked.specs.PardoInPardo.{pardo_in_pardo}
use Rattle.sial_worked.specs.PrintInside.{print_inside}
use Rattle.sial_worked.specs.PutOutside.{put_outside}
use Rattle.sial_worked.specs.Rebound.{rebound}
use Rattle.sial_worked.specs.Recursion.{recursion}
use Rattle.sial_worked.specs.Repeated.{repeated}
use Rattle.sial_worked.specs.ScalarWhere.{scalar_where}
use Rattle.sial_worked.specs.ScaledBlock.{scaled_block}
use Rattle.sial_worked.specs.SharedTarget.{shared_target}
use Rattle.sial_worked.specs.StaticInside.{static_inside}
use Rattle.sial_worked.specs.SubChain.{sub_chain}
use Rattle.sial_worked.specs.SubInStatic.{sub_in_static}
use Rattle.sial_worked.specs.SubOfSub.{sub_of_sub}
use Rattle.sial_worked.specs.SumScalar.{sum_scalar}
use Rattle.sial_worked.specs.SyncInside.{sync_inside}
use Rattle.sial_worked.specs.Unbound.{unbound}
use Rattle.sial_worked.specs.WrongKind.{wrong_kind}
use Rattle.sial_worked.specs.WrongProduct.{wrong_product}
use Rattle.sial_worked.specs.WrongPut.{wrong_put}
use Rattle.sial_worked.specs.WrongRank.{wrong_rank}
use Rattle.sial_worked.specs.WrongSum.{wrong_sum}

-- the first fault of shape of each
pub record ShapeFaultsFound : Type 0 where
  pub unbound : shape_fault unbound ≡ Some (record { line = 4; rule = 1 })
  pub rebound : shape_fault rebound ≡ Some (record { line = 4; rule = 2 })
  pub repeated : shape_fault repeated ≡ Some (record { line = 5; rule = 3 })
  pub wrong_kind : shape_fault wrong_kind ≡ Some (record { line = 6; rule = 4 })
  pub sub_of_sub : shape_fault sub_of_sub ≡ Some (record { line = 4; rule = 4 })
  pub chain_of_one_kind : shape_fault (sub_chain kind.Mo) ≡ Some (record { line = 100; rule = 4 })
  pub chain_of_other_kinds : shape_fault (sub_chain kind.Ao) ≡ Some (record { line = 11; rule = 4 })
  pub sub_in_static : shape_fault sub_in_static ≡ Some (record { line = 4; rule = 4 })
  pub scalar_where : shape_fault scalar_where ≡ Some (record { line = 4; rule = 4 })
  pub get_static : shape_fault get_static ≡ Some (record { line = 5; rule = 4 })
  pub scaled_block : shape_fault scaled_block ≡ Some (record { line = 5; rule = 4 })
  pub sum_scalar : shape_fault sum_scalar ≡ Some (record { line = 6; rule = 4 })
  pub wrong_rank : shape_fault wrong_rank ≡ Some (record { line = 5; rule = 5 })
  pub wrong_sum : shape_fault wrong_sum ≡ Some (record { line = 7; rule = 5 })
  pub wrong_product : shape_fault wrong_product ≡ Some (record { line = 8; rule = 5 })
  pub wrong_put : shape_fault wrong_put ≡ Some (record { line = 7; rule = 5 })
  pub shared_target : shape_fault shared_target ≡ Some (record { line = 5; rule = 6 })

-- the first fault of sides of each, where the shape rules grant it
pub record SideFaultsFound : Type 0 where
  pub pardo_in_pardo_shape : shape_fault pardo_in_pardo ≡ None
  pub pardo_in_pardo : side_fault pardo_in_pardo ≡ Some (record { line = 5; rule = 1 })
  pub put_outside_shape : shape_fault put_outside ≡ None
  pub put_outside : side_fault put_outside ≡ Some (record { line = 6; rule = 2 })
  pub sync_inside_shape : shape_fault sync_inside ≡ None
  pub sync_inside : side_fault sync_inside ≡ Some (record { line = 4; rule = 3 })
  pub print_inside_shape : shape_fault print_inside ≡ None
  pub print_inside : side_fault print_inside ≡ Some (record { line = 4; rule = 4 })
  pub static_inside_shape : shape_fault static_inside ≡ None
  pub static_inside : side_fault static_inside ≡ Some (record { line = 5; rule = 5 })
  pub mixed_local_shape : shape_fault mixed_local ≡ None
  pub mixed_local : side_fault mixed_local ≡ Some (record { line = 8; rule = 6 })
  pub mixed_scalar_shape : shape_fault mixed_scalar ≡ None
  pub mixed_scalar : side_fault mixed_scalar ≡ Some (record { line = 7; rule = 7 })
  pub mixed_partial_shape : shape_fault mixed_partial ≡ None
  pub mixed_partial : side_fault mixed_partial ≡ Some (record { line = 5; rule = 7 })
  pub collected_other_shape : shape_fault collected_other ≡ None
  pub collected_other : side_fault collected_other ≡ Some (record { line = 4; rule = 7 })
  pub recursion_shape : shape_fault recursion ≡ None
  pub recursion : side_fault recursion ≡ Some (record { line = 3; rule = 9 })
