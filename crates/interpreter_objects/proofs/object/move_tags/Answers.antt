use Rattle.std.proofs.Common.{◌-◌, ◌/◌, ◌+◌, ◌∙◌, arith}
use Rattle.interpreter_objects.proofs.Tags.{words_moved}
use Rattle.interpreter_objects.proofs.object.move_tags.Goals as goal

pub returns-then-first-last : goal.returns-then-first-last
returns-then-first-last c =
    c.put_at.ensures
    ∙ words_moved c.args.size c.args.start c.args.source c.words_to-first.result c.words_to-other.result
    (c.words_to-other.result + ((c.args.start + c.args.size) / 8 - c.words_to-first.result) - c.words_to-other.result)
    c.args.from.now c.args.tags.now.items
    c.words_to-first.ensures c.words_to-other.ensures (omega arith) c.requires.phase c.requires.inside c.requires.there
    c.if-first-last.true
