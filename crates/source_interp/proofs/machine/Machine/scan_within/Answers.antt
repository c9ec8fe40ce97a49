use Rattle.std.proofs.Common.{sym, ap, ◌∙◌, Err}
use Rattle.std.proofs.lemmas.Result.{err_from_is_err_and}
use Rattle.std.proofs.Common.{arith}
use Rattle.source_interp.proofs.Scanning.{not_looked, scan_begins, scan_ends, string_ends, string_goes_on}
use Rattle.source_interp.proofs.machine.Machine.scan_within.Goals as goal

pub loop-init : goal.loop-init
loop-init c g o =
    scan_begins c.args.must_end c.args.line g c.args.self.now o c.args.count c.args.string
    c.new-bytes.result.items c.new-bytes.ensures.items

pub loop-preserved : goal.loop-preserved
loop-preserved c g o =
    string_goes_on c.args.must_end c.args.line g o c.args.self.now c.loop.self c.look.new.self c.args.count
    c.loop.counter c.loop-test.true c.loop.bytes.items c.args.string c.loop.pointer (c.loop.invariant g o)
    c.in_ok-byte.byte c.look.result c.in_ok-byte.was (c.look.ensures g o) (sym c.is_end.ensures ∙
    c.if-is_end.false) c.append.new.bytes.items c.moved-pointer.result c.in_ok-append.ensures
    c.moved-pointer.ensures

pub returns-in_err-byte : goal.returns-in_err-byte
returns-in_err-byte c g o =
    let p = err_from_is_err_and c.from_residual.result c.from_residual.ensures.1 in not_looked c.args.must_end
    c.args.line g o c.args.self.now c.loop.self c.look.new.self c.args.count c.loop.counter c.loop-test.true
    c.loop.bytes.items c.args.string c.loop.pointer (c.loop.invariant g o) c.in_err-byte.field-0.0 c.look.result
    c.from_residual.result c.in_err-byte.was (p.1 ∙ ap Err p.2) (c.look.ensures g o)

pub returns-then-is_end : goal.returns-then-is_end
returns-then-is_end c g o =
    string_ends c.args.must_end c.args.line g o c.args.self.now c.loop.self c.look.new.self c.args.count
    c.loop.counter c.loop-test.true c.loop.bytes.items c.args.string c.loop.pointer (c.loop.invariant g o)
    c.in_ok-byte.byte c.look.result c.in_ok-byte.was (c.look.ensures g o) (sym c.is_end.ensures ∙
    c.if-is_end.true) c.from_vec.result c.from_vec.ensures

pub returns : goal.returns
returns c g o =
    scan_ends c.args.must_end c.args.line g o c.args.self.now c.loop.self c.args.count c.loop.counter (omega
    (arith, c.loop-test.false)) c.loop.bytes.items c.from_vec-2.result c.from_vec-2.ensures c.args.string
    c.loop.pointer c.without_end.result (c.loop.invariant g o) (c.without_end.ensures c.loop.self g o)
