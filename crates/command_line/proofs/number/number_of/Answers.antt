use Rattle.std.proofs.Common.{rules, ◌∙◌, sym, arith}
use Rattle.command_line.proofs.Numbers.{parse_is_number, plus_is_none, zero_is_none}
use Rattle.command_line.proofs.number.number_of.Goals.{then-starts_with-via-then-starts_with}
use Rattle.command_line.proofs.number.number_of.Goals.{then-starts_with-via-else-starts_with+then-has_leading_zero}
use Rattle.command_line.proofs.number.number_of.Goals as goal

pub returns-then-starts_with : goal.returns-then-starts_with
returns-then-starts_with c =
    let first = c.starts_with.ensures.byte (omega arith) (omega arith) (λ w o h. h) in
    elim c.then-starts_with.branch [
      | then-starts_with-via-then-starts_with w ↦ plus_is_none _ (sym first ∙ w.if-starts_with.true)
      | then-starts_with-via-else-starts_with+then-has_leading_zero w ↦ zero_is_none _ (search rules)
    ]

pub returns : goal.returns
returns c =
    let first = c.starts_with.ensures.byte (omega arith) (omega arith) (λ w o h. h) in
    c.ok.ensures.value ∙ parse_is_number c.args.text.now c.parse.result c.parse.ensures.value.0
    (sym first ∙ c.if-starts_with.false)
    (sym c.has_leading_zero.ensures ∙ c.if-has_leading_zero.false)
