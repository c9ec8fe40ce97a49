use Rattle.std.proofs.Common.{sym, ap, ◌∙◌, ◌++◌, None}
use Rattle.std.specs.Prelude.{if◌then◌else◌}
use Rattle.rv_isa.specs.Decoding.{decoded}
use Rattle.rv_listing.specs.Lines.{instruction, group, line_text}
use Rattle.rv_listing.proofs.Runs.{puts_instruction, puts_zeros, puts_group}
use Rattle.rv_listing.proofs.listing.put_word.Goals as goal

pub returns-in-Some-clause-text : goal.returns-in-Some-clause-text
returns-in-Some-clause-text c =
    puts_instruction c.args.text.now.items c.put_instruction.new.text.items c.args.word.now c.args.zeros c.args.is_code
    c.in-Some.instruction c.instruction_of.result
    (c.instruction_of.ensures ∙ ap (λ n. if c.args.is_code then decoded n else None) c.read_u32-number.ensures)
    c.in-Some.is
    (c.in_ok-put_instruction.ensures
    ∙ ap (λ x. x ++ line_text (instruction c.in-Some.instruction)) c.in_ok-put_zeros.ensures)

pub returns-then-number-eq0-clause-text : goal.returns-then-number-eq0-clause-text
returns-then-number-eq0-clause-text c =
    puts_zeros c.args.text.now.items c.args.word.now c.args.zeros c.args.is_code c.instruction_of.result
    (c.instruction_of.ensures ∙ ap (λ n. if c.args.is_code then decoded n else None) c.read_u32-number.ensures)
    c.in_default.is (sym c.read_u32-number.ensures ∙ c.if-number-eq0.true)

pub returns-clause-text : goal.returns-clause-text
returns-clause-text c =
    puts_group c.args.text.now.items c.put_group.new.text.items c.args.word.now c.args.zeros c.args.is_code
    c.instruction_of.result
    (c.instruction_of.ensures ∙ ap (λ n. if c.args.is_code then decoded n else None) c.read_u32-number.ensures)
    c.in_default.is (λ e. c.if-number-eq0.false (c.read_u32-number.ensures ∙ e))
    (c.in_ok-put_group.ensures ∙ ap (λ x. x ++ line_text (group c.args.word.now)) c.in_ok-put_zeros-2.ensures)
