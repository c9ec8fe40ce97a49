use Rattle.std.proofs.Common.{refl, arith}
use Rattle.std.proofs.lemmas.Result.{err_from_is_err_and}
use Rattle.c_pre.specs.declared.unread.Unread.{Unread}
use Rattle.c_pre.proofs.Putting.{argument_step, argument_refused}
use Rattle.c_pre.proofs.unread.Unread.put_argument.Goals as goal

pub loop-n-preserved : goal.loop-n-preserved
loop-n-preserved c =
    let b = c.loop-n.self in
    record {
      puts = argument_step c.args.line c.args.here c.args.argument.now c.args.self.now b _ c.put.new.self c.loop-n.n
          c.index-argument-n.result c.in_ok-hidden.hidden c.requires.argument c.requires.set c.loop-n.invariant.puts
          c.loop-n-test.true c.loop-n.invariant.within c.index-argument-n.is c.in_ok-hidden.ensures.grows refl refl
          c.in_ok-hidden.ensures.names c.in_ok-put.ensures;
      within = omega (arith, c.loop-n.invariant.within);
    }

pub returns-in_err-put : goal.returns-in_err-put
returns-in_err-put c =
    let b = c.loop-n.self in
    let d : Unread = record b { sets = c.joined.new.self; ends_are = c.self-1.given.0 } in
    let error = err_from_is_err_and c.from_residual-in_err-put.result c.from_residual-in_err-put.ensures.1 in
    rw (error.1, error.2)
    (argument_refused c.args.line c.args.here c.args.argument.now c.args.self.now b d c.put.new.self c.loop-n.n
    c.index-argument-n.result c.in_ok-hidden.hidden c.requires.argument c.requires.set c.loop-n.invariant.puts
    c.loop-n-test.true c.loop-n.invariant.within c.index-argument-n.is c.in_ok-hidden.ensures.grows refl refl
    c.in_ok-hidden.ensures.names (Unit {0}) (Unit {0}) c.in_err-put.field-0.0 c.put.new.self c.in_err-put.ensures)
