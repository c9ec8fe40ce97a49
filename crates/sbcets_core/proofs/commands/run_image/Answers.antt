use Rattle.sbcets_core.proofs.Running.{runs_image}
use Rattle.sbcets_core.proofs.commands.run_image.Goals as goal

pub returns-in-Ok-load-clause-ran : goal.returns-in-Ok-load-clause-ran
returns-in-Ok-load-clause-ran g c =
    runs_image c.args.image.now c.in-Ok.image c.in-Ok-load.machine c.run.new.self.state c.args.limit c.run.result _ _
    c.in-Ok.ensures.0 c.in-Ok.ensures.1 c.in-Ok-load.ensures c.run.ensures.told
