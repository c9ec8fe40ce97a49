use Rattle.std.proofs.Common.{arith}
use Rattle.image_laws.proofs.laws.sizes.code_of_few_nodes_is_not_too_large.Goals as goal

pub returns : goal.returns
returns c = λ p t r m plans bytes v i low weighed ins few functions small ok cause.
    let most = c.code_has_few_bytes_for_each_node.ensures p t r m plans v i low weighed ins few functions small ok in
    let large = cause.0 in
    omega (arith, most, large)
