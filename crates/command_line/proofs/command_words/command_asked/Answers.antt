use Rattle.std.proofs.Common.{◌∙◌}
use Rattle.command_line.specs.Asked.{command_at}
use Rattle.command_line.proofs.Matches.{command_of_name}
use Rattle.command_line.proofs.command_words.command_asked.Goals as goal

pub returns-in-build-clause-asked : goal.returns-in-build-clause-asked
unfolding command_at
returns-in-build-clause-asked c = c.build_asked.ensures.asked
    ∙ command_of_name c.args.matches.now c.in_ok-name.matches.now c.in_ok-name.name.now _ c.in_ok-name.ensures.name
    c.in_ok-name.ensures.rows c.in-build.is

pub returns-in-run-clause-asked : goal.returns-in-run-clause-asked
unfolding command_at
returns-in-run-clause-asked c = c.run_asked.ensures.asked
    ∙ command_of_name c.args.matches.now c.in_ok-name.matches.now c.in_ok-name.name.now _ c.in_ok-name.ensures.name
    c.in_ok-name.ensures.rows c.in-run.is

pub returns-in-go-clause-asked : goal.returns-in-go-clause-asked
unfolding command_at
returns-in-go-clause-asked c = c.go_asked.ensures.asked
    ∙ command_of_name c.args.matches.now c.in_ok-name.matches.now c.in_ok-name.name.now _ c.in_ok-name.ensures.name
    c.in_ok-name.ensures.rows c.in-go.is

pub returns-in-list-clause-asked : goal.returns-in-list-clause-asked
unfolding command_at
returns-in-list-clause-asked c = c.list_asked.ensures.asked
    ∙ command_of_name c.args.matches.now c.in_ok-name.matches.now c.in_ok-name.name.now _ c.in_ok-name.ensures.name
    c.in_ok-name.ensures.rows c.in-list.is

pub returns-in-asm-clause-asked : goal.returns-in-asm-clause-asked
unfolding command_at
returns-in-asm-clause-asked c = c.assemble_asked.ensures.asked
    ∙ command_of_name c.args.matches.now c.in_ok-name.matches.now c.in_ok-name.name.now _ c.in_ok-name.ensures.name
    c.in_ok-name.ensures.rows c.in-asm.is

pub returns-in-work-clause-asked : goal.returns-in-work-clause-asked
unfolding command_at
returns-in-work-clause-asked c = c.work_asked.ensures.asked
    ∙ command_of_name c.args.matches.now c.in_ok-name.matches.now c.in_ok-name.name.now _ c.in_ok-name.ensures.name
    c.in_ok-name.ensures.rows c.in-work.is
