use Rattle.std.proofs.Common.{◌+◌, drop, ap, ◌∙◌, refl, Err, arith}
use Rattle.std.proofs.lemmas.List.{drop_all}
use Rattle.std.proofs.lemmas.Result.{err_from_is_err_and}
use Rattle.source_interp.specs.Outside.{outside}
use Rattle.source_interp.proofs.Zeroing.{all_stored, none_stored, one_stored, storing_begins}
use Rattle.source_interp.proofs.machine.Machine.store_bytes.Goals as goal

pub loop-i-init : goal.loop-i-init
loop-i-init g c e w i =
    storing_begins e c.args.self.now (outside w (g.T.Trace.noted c.args.trace.now) i) c.args.object c.args.offset
    c.args.bytes.now

pub loop-i-preserved : goal.loop-i-preserved
loop-i-preserved g c e w i =
    one_stored e c.args.self.now c.loop-i.self c.store_nth.new.self (outside w (g.T.Trace.noted c.args.trace.now) i)
    (outside w (g.T.Trace.noted c.loop-i.trace) i) (outside w (g.T.Trace.noted c.store_nth.new.trace) i) c.args.object
    c.args.offset c.args.bytes.now c.loop-i.i (c.args.offset + c.loop-i.i) c.nth-byte.result
    (c.loop-i.invariant e w i) c.loop-i-test.true refl c.nth-byte.ensures c.in_ok-store_nth.field-0
    c.store_nth.result c.in_ok-store_nth.was (c.store_nth.ensures e w i)

pub returns-in_err-store_nth : goal.returns-in_err-store_nth
returns-in_err-store_nth g c e w i =
    let p = err_from_is_err_and c.from_residual.result c.from_residual.ensures.1 in none_stored e c.args.self.now
    c.loop-i.self c.store_nth.new.self (outside w (g.T.Trace.noted c.args.trace.now) i) (outside w (g.T.Trace.noted
    c.loop-i.trace) i) (outside w (g.T.Trace.noted c.store_nth.new.trace) i) c.args.object c.args.offset
    c.args.bytes.now c.loop-i.i (c.args.offset + c.loop-i.i) c.nth-byte.result (c.loop-i.invariant e w i)
    c.loop-i-test.true refl c.nth-byte.ensures c.in_err-store_nth.field-0.0 c.store_nth.result c.from_residual.result
    c.in_err-store_nth.was (p.1 ∙ ap Err p.2) (c.store_nth.ensures e w i)

pub returns : goal.returns
returns g c e w i =
    all_stored e c.args.self.now c.loop-i.self (outside w (g.T.Trace.noted c.args.trace.now) i) (outside w
    (g.T.Trace.noted c.loop-i.trace) i) c.args.object c.args.offset (c.args.offset + c.loop-i.i) c.args.bytes.now
    (drop c.loop-i.i c.args.bytes.now) (drop_all c.loop-i.i c.args.bytes.now (omega (arith, c.loop-i-test.false)))
    (c.loop-i.invariant e w i)
