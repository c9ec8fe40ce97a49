use Rattle.c_tree.proofs.Arrays.{array_is_sized, sized_array, extent_of_array}
use Rattle.c_tree.proofs.laws.arrays_have_the_bytes_of_their_elements.Goals as goal

pub returns : goal.returns
returns c = record { made = array_is_sized; bytes = sized_array; extent = extent_of_array }
