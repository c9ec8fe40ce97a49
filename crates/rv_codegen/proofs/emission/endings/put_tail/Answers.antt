use Rattle.machine_laws.specs.Blocks.Tails.{text_before, newline, line_digits, line_text, written, ended}
use Rattle.rv_codegen.proofs.EmittedCode.Lists.{five_behind}
use Rattle.rv_codegen.proofs.emission.endings.put_tail.Goals as goal

pub returns : goal.returns
returns c = five_behind c.args.code.now.items _ _ _ _ _ newline line_digits (line_text (text_before c.args.what.now))
    written (ended c.args.status) c.in_ok-put_newline.ensures c.in_ok-put_line_digits.ensures
    c.in_ok-put_line_text.ensures c.in_ok-put_written.ensures c.in_ok-put_ended.ensures
