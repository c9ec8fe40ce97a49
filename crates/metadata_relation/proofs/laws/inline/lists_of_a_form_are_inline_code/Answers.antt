use Rattle.obj_memory.specs.declared.int_type.IntType.TheVariants.{Char}
use Rattle.lib_wrappers.specs.declared.accesses.held.HeldScalar.TheVariants.{Integer}
use Rattle.lib_wrappers.specs.AccessRoutines.Accessing.{store_op}
use Rattle.metadata_relation.proofs.laws.inline.lists_of_a_form_are_inline_code.Goals as goal

pub returns : goal.returns
unfolding store_op
returns g c = λ map mapped. record {
  operators = c.operators_compute.ensures;
  forward = λ x line size d a i s some low operands.
      c.pointers_move_by_elements.ensures.forward x line d a i s size low operands;
  back = λ x line size d a i s some low operands.
      c.pointers_move_by_elements.ensures.back x line d a i s size low operands;
  difference = λ x line size d a b s some low operands.
      c.differences_are_in_elements.ensures x line d a b s size low some operands;
  few_difference = λ x line size d a b s some few operands.
      c.differences_by_few_bits_are_in_elements.ensures x line d a b s size few some operands;
  load = λ a into s below apart. c.loads_are_exact.ensures.does map a into s mapped below apart;
  store = λ a from s below. c.stores_are_exact.ensures.does map a from s mapped below;
  byte = λ a r s below. c.stores_are_exact.ensures.does map a (Integer Char r) s mapped below;
  spatial_check = λ h size line s below is. c.the_tests_of_an_access_are_exact.ensures.spatial h size line s below is;
  temporal_check = λ h line s below. c.the_tests_of_an_access_are_exact.ensures.temporal h line s below;
  narrow = λ h offset size s can. c.pointers_are_narrowed_exactly.ensures.narrows h offset size s can;
  moves_on = λ h offset size s can. c.pointers_are_narrowed_exactly.ensures.goes_on h offset size s can;
  leave = λ lock s low. c.blocks_are_left_exactly.ensures.does map lock s mapped (low, tt);
  computes = record {
    forward = λ size d a i s. c.lists_for_pointers_have_shapes.ensures.moved_computes _ size d a i s;
    back = λ size d a i s. c.lists_for_pointers_have_shapes.ensures.moved_computes _ size d a i s;
    difference = λ size d a b s. c.lists_for_pointers_have_shapes.ensures.difference_computes size d a b s;
    load = λ a into s below apart. c.loads_are_exact.ensures.computes map a into s mapped below;
    store = λ a from s below. c.stores_are_exact.ensures.computes map a from s mapped below;
    spatial_check = λ h size line s. c.the_tests_of_an_access_are_exact.ensures.spatial_computes h size line s;
    temporal_check = λ h line s. c.the_tests_of_an_access_are_exact.ensures.temporal_computes h line s;
    narrow = λ h offset size s. c.pointers_are_narrowed_exactly.ensures.computes h offset size s;
    leave = λ lock s low. c.blocks_are_left_exactly.ensures.computes map lock s;
  };
}
