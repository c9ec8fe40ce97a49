use Rattle.std.proofs.Common.{sym, ◌∙◌}
use Rattle.c_grammar.proofs.Taking.{taken}
use Rattle.c_grammar.proofs.cursor.Cursor.take.Goals as goal

pub returns : goal.returns
returns c = taken c.args.self.now.rest.now c.first-item.result c.args.punctuator c.in-len1-up.len_at_least
    c.first-item.is (sym c.is_punctuator.ensures ∙ c.if-not-is_punctuator.false)
