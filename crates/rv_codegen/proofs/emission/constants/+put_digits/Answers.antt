use Rattle.std.proofs.Common.{◌-◌, ◌/◌, ◌%◌, ◌^◌, arith}
use Rattle.rv_isa.specs.declared.instruction.ImmOp.TheVariants.{Addi}
use Rattle.rv_isa.specs.declared.instruction.ShiftOp.TheVariants.{Slli}
use Rattle.rv_isa.specs.declared.instruction.Instr.TheVariants.{OpImm, ShiftImm}
use Rattle.machine_laws.specs.Blocks.Blocks.{digits}
use Rattle.rv_codegen.proofs.EmittedCode.Lists.{more_digits, behind_two}
use Rattle.rv_codegen.proofs.emission.constants.+put_digits.Goals as goal

pub returns : goal.returns
returns t c =
    let rd = c.args.rd in
    let n = c.args.number in
    let more = more_digits c.args.count (c.args.count - 1) rd n (omega (arith, c.if-count-eq0.false))
    (omega (arith, c.if-number-lt2048.false)) in
    rw (
      c.in_ok-push-3.ensures.items,
      c.in_ok-push-2.ensures.items,
      c.in_ok-put_digits.ensures,
      c.addi-2.ensures,
      c.new.ensures,
      more,
    ) (behind_two c.args.code.now.items (digits (c.args.count - 1) rd (n / 2048)) (ShiftImm Slli rd rd 11)
    (OpImm Addi rd rd (n % 2 ^ 11)))
