use Rattle.std.proofs.Common.{rules, refl}
use Rattle.sbcets_core.specs.Commands.{outside_of}
use Rattle.sbcets_core.proofs.Cases.{told_builds, untold_builds, unwritten_builds}
use Rattle.sbcets_core.proofs.commands.build.Goals as goal

pub returns-in-Err-write-clause-builds : goal.returns-in-Err-write-clause-builds
returns-in-Err-write-clause-builds g c input errors =
    unwritten_builds c.args.name.now c.args.target.now c.args.budgets c.in-Ok.built _ _ c.in-Ok.ensures.built
    (search rules) (search rules) (search rules) refl

pub returns-in-Ok-put_built_line-clause-builds : goal.returns-in-Ok-put_built_line-clause-builds
returns-in-Ok-put_built_line-clause-builds g c input errors =
    told_builds c.args.name.now c.args.target.now c.args.budgets c.in-Ok.built
    (outside_of (g.F.Files.held c.args.files.now) (g.F.Files.reads c.args.files.now) (g.F.Files.writes c.args.files.now) input
    (g.O.Sink.taken c.args.output.now) errors)
    (outside_of (g.F.Files.held c.write.new.self) (g.F.Files.reads c.write.new.self) (g.F.Files.writes c.write.new.self) input
    (g.O.Sink.taken c.put_built_line.new.sink) errors)
    c.in-Ok.ensures.built (search rules) (search rules) (search rules) refl refl (search rules)

pub returns-clause-builds : goal.returns-clause-builds
returns-clause-builds g c input errors =
    untold_builds c.args.name.now c.args.target.now c.args.budgets c.in-Ok.built
    (outside_of (g.F.Files.held c.args.files.now) (g.F.Files.reads c.args.files.now) (g.F.Files.writes c.args.files.now) input
    (g.O.Sink.taken c.args.output.now) errors)
    (outside_of (g.F.Files.held c.write.new.self) (g.F.Files.reads c.write.new.self) (g.F.Files.writes c.write.new.self) input
    (g.O.Sink.taken c.put_built_line.new.sink) errors)
    c.in-Ok.ensures.built (search rules) (search rules) (search rules) refl refl (search rules)
