use Rattle.source_meaning.proofs.laws.expressions_keep_states_good.Goals as goal
use Rattle.source_meaning.proofs.SureTree.{evaluate_sure, place_sure, values_sure, initialize_all_sure}
use Rattle.source_meaning.proofs.ValidNames.{names, lvalue_names, row_names}
use Rattle.source_meaning.proofs.ValidProgramNames.{agree_same, declared_names}

pub returns : goal.returns
returns c = record {
  value = λ sc env c e h. evaluate_sure c e (names (agree_same sc.scope) e h);
  lvalue = λ sc env c p h. place_sure c p (lvalue_names (agree_same sc.scope) p h);
  arguments = λ sc env c es h. values_sure c es (row_names (agree_same sc.scope) es h);
  initializers = λ sc env c ds h. initialize_all_sure c ds (declared_names (agree_same sc.scope) ds h);
}
