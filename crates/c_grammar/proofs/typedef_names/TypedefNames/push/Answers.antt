use Rattle.c_grammar.proofs.AddedNames.{one_more}
use Rattle.c_grammar.proofs.typedef_names.TypedefNames.push.Goals as goal

pub invariant_of-self-2 : goal.invariant_of-self-2
invariant_of-self-2 c = rw (c.in_ok-push.ensures.items, c.in_ok-insert.ensures.keys, c.in_ok-reserve.ensures.items)
    (one_more _ _ c.bytes.result _ c.bytes.ensures c.self.invariant)
