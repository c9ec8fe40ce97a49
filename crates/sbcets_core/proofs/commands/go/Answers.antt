use Rattle.sbcets_core.specs.Commands.{outside_of}
use Rattle.sbcets_core.proofs.Cases.{went_goes}
use Rattle.sbcets_core.proofs.commands.go.Goals as goal

pub returns-in-Ok-run_image-clause-goes : goal.returns-in-Ok-run_image-clause-goes
returns-in-Ok-run_image-clause-goes g c =
    let ran = rw c.deref.ensures.value at c.in-Ok-run_image.ensures.ran in
    let goes = went_goes c.args.name.now c.args.limits.now.budgets c.args.limits.now.instructions c.in-Ok.built
    c.in-Ok-run_image.stop
    (outside_of (g.F.Files.held c.args.files.now) (g.F.Files.reads c.args.files.now) (g.F.Files.writes c.args.files.now) (g.I.Source.rest c.args.input.now)
    (g.O.Sink.taken c.args.output.now) (g.E.Sink.taken c.args.errors.now))
    (outside_of (g.F.Files.held c.built_of.new.files) (g.F.Files.reads c.built_of.new.files) (g.F.Files.writes c.built_of.new.files)
    (g.I.Source.rest c.run_image.new.input) (g.O.Sink.taken c.run_image.new.output)
    (g.E.Sink.taken c.run_image.new.errors))
    c.in-Ok.ensures.built ran c.in-Ok.ensures.files c.in-Ok.ensures.asked c.in-Ok.ensures.unwritten in
    rw c.outcome_of.ensures goes
