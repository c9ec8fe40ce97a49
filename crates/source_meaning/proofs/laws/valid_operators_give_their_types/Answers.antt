use Rattle.source_meaning.proofs.Fitting.{unary_fits, binary_fits}
use Rattle.source_meaning.proofs.ValidNames.{update_kind}
use Rattle.c_tree.specs.declared.expression.Kind.TheVariants.{Scalar as OfScalar}
use Rattle.source_meaning.proofs.laws.valid_operators_give_their_types.Goals as goal

pub returns : goal.returns
returns c = record {
  unary = unary_fits;
  binary = binary_fits;
  update = λ u k right e. update_kind u (OfScalar k) right
      e;
}
