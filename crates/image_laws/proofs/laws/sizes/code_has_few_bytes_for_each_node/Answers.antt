use Rattle.image_laws.proofs.Sizes.Programs.{bytes_of_nodes}
use Rattle.image_laws.proofs.laws.sizes.code_has_few_bytes_for_each_node.Goals as goal
use Rattle.image_laws.specs.Images.Images.{flat_code}

pub returns : goal.returns
returns c = λ p t r m plans v i low weighed ins few functions small ok.
    bytes_of_nodes p t r m v i low weighed ins
    (c.lowered_integers_are_integer_code.ensures p t r v i low ins) few functions small plans
    (c.programs_have_few_bytes.ensures m (flat_code m r) plans ok)
