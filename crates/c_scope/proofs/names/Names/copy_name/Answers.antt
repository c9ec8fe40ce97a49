use Rattle.std.proofs.Common.{length}
use Rattle.c_scope.specs.Names.{names_of}
use Rattle.c_scope.proofs.Copying.{next_copied}
use Rattle.c_scope.proofs.names.Names.copy_name.Goals as goal

pub returns-then-at-len : goal.returns-then-at-len
returns-then-at-len g c =
    next_copied c.args.self.now.entries.entries c.args.at c.in-Some.name.now c.in-Some.what.now
    c.in_ok-duplicate.field-0 (names_of c.args.same.now) (names_of c.bind.new.self) c.len.result
    c.in-Some.ensures.entry c.requires.inside c.in_ok-duplicate.ensures c.requires.before c.in_ok-bind.ensures
    c.len.ensures c.if-at-len.true
