-- Each faulty program has its fault.
use Rattle.std.proofs.Common.{refl}
use Rattle.sial_worked.specs.ChosenFaults.{ChosenFaultsFound}
use Rattle.sial_worked.specs.FaultsFound.{ShapeFaultsFound, SideFaultsFound}

pub shape-faults-found : ShapeFaultsFound
shape-faults-found = record {
  unbound = refl;
  rebound = refl;
  repeated = refl;
  wrong_kind = refl;
  sub_of_sub = refl;
  chain_of_one_kind = refl;
  chain_of_other_kinds = refl;
  sub_in_static = refl;
  scalar_where = refl;
  get_static = refl;
  scaled_block = refl;
  sum_scalar = refl;
  wrong_rank = refl;
  wrong_sum = refl;
  wrong_product = refl;
  wrong_put = refl;
  shared_target = refl;
}

pub side-faults-found : SideFaultsFound
side-faults-found = record {
  pardo_in_pardo_shape = refl;
  pardo_in_pardo = refl;
  put_outside_shape = refl;
  put_outside = refl;
  sync_inside_shape = refl;
  sync_inside = refl;
  print_inside_shape = refl;
  print_inside = refl;
  static_inside_shape = refl;
  static_inside = refl;
  mixed_local_shape = refl;
  mixed_local = refl;
  mixed_scalar_shape = refl;
  mixed_scalar = refl;
  mixed_partial_shape = refl;
  mixed_partial = refl;
  collected_other_shape = refl;
  collected_other = refl;
  recursion_shape = refl;
  recursion = refl;
}

pub chosen-faults-found : ChosenFaultsFound
chosen-faults-found = record {
  zero_sum_shape = refl;
  zero_sum = refl;
  short_block = refl;
  uncalled_read_shape = refl;
  uncalled_read = refl;
  uncalled_source_shape = refl;
  uncalled_source = refl;
  uncalled_put_shape = refl;
  uncalled_put = refl;
  uneven_product = refl;
}
