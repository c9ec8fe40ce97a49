use Rattle.std.proofs.Common.{sym, ap, ◌∙◌, Err}
use Rattle.std.proofs.lemmas.Result.{err_from_is_err_and}
use Rattle.std.proofs.Common.{arith}
use Rattle.source_interp.proofs.Seeking.{is_found, is_missing, not_seen, seek_begins, seek_ends, seeks_on}
use Rattle.source_interp.proofs.machine.Machine.seek_within.Goals as goal

pub loop-init : goal.loop-init
loop-init c g o =
    seek_begins c.args.sought c.args.line g c.args.self.now o c.args.count c.args.string

pub loop-preserved : goal.loop-preserved
loop-preserved c g o =
    seeks_on c.args.sought c.args.line g o c.args.self.now c.loop.self c.look.new.self c.args.count
    c.loop.counter c.loop-test.true c.args.string c.loop.pointer (c.loop.invariant g o) c.in_ok-byte.byte
    c.look.result c.in_ok-byte.was (c.look.ensures g o) c.moved-pointer.result (sym c.is_same.ensures ∙
    c.if-is_same.false) (sym c.is_end.ensures ∙ c.if-is_end.false) c.moved-pointer.ensures

pub returns-in_err-byte : goal.returns-in_err-byte
returns-in_err-byte c g o =
    let p = err_from_is_err_and c.from_residual.result c.from_residual.ensures.1 in not_seen c.args.sought
    c.args.line g o c.args.self.now c.loop.self c.look.new.self c.args.count c.loop.counter c.loop-test.true
    c.args.string c.loop.pointer (c.loop.invariant g o) c.in_err-byte.field-0.0 c.look.result
    c.from_residual.result c.in_err-byte.was (p.1 ∙ ap Err p.2) (c.look.ensures g o)

pub returns-then-is_same : goal.returns-then-is_same
returns-then-is_same c g o =
    is_found c.args.sought c.args.line g o c.args.self.now c.loop.self c.look.new.self c.args.count
    c.loop.counter c.loop-test.true c.args.string c.loop.pointer (c.loop.invariant g o) c.in_ok-byte.byte
    c.look.result c.in_ok-byte.was (c.look.ensures g o) (sym c.is_same.ensures ∙ c.if-is_same.true)

pub returns-then-is_end : goal.returns-then-is_end
returns-then-is_end c g o =
    is_missing c.args.sought c.args.line g o c.args.self.now c.loop.self c.look.new.self c.args.count
    c.loop.counter c.loop-test.true c.args.string c.loop.pointer (c.loop.invariant g o) c.in_ok-byte.byte
    c.look.result c.in_ok-byte.was (c.look.ensures g o) c.integer.result (sym c.is_same.ensures ∙
    c.if-is_same.false) (sym c.is_end.ensures ∙ c.if-is_end.true) c.integer.ensures

pub returns : goal.returns
returns c g o =
    seek_ends c.args.sought c.args.line g o c.args.self.now c.loop.self c.args.count c.loop.counter (omega
    (arith, c.loop-test.false)) c.args.string c.loop.pointer (c.loop.invariant g o)
