use Rattle.c_grammar.proofs.AddedNames.{no_names}
use Rattle.c_grammar.proofs.typedef_names.TypedefNames.new.Goals as goal

pub invariant_of-result : goal.invariant_of-result
invariant_of-result c = no_names _ _ c.new.ensures.items c.new-2.ensures.empty
