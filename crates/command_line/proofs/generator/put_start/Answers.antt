use Rattle.std.proofs.Common.{decimal}
use Rattle.std.specs.Prelude.{codes}
use Rattle.command_line.specs.Generator.{start_text}
use Rattle.command_line.proofs.Congruence.{three_behind}
use Rattle.command_line.proofs.generator.put_start.Goals as goal

pub returns : goal.returns
unfolding start_text
returns c = three_behind c.args.text.now.items _ _ _ (codes "int main(void){int s=") (decimal c.args.argument) (codes ";")
    c.in_ok-extend_from_slice.ensures.items c.in_ok-put_number.ensures c.in_ok-extend_from_slice-2.ensures.items
