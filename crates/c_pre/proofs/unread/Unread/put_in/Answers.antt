use Rattle.std.proofs.Common.{map, None, ap, ◌∙◌, arith}
use Rattle.std.proofs.lemmas.Result.{err_from_is_err_and}
use Rattle.c_pre.specs.Directives.{names_among}
use Rattle.c_pre.specs.Expansion.{put_argument, put_token}
use Rattle.c_pre.specs.Pending.{all_hiding}
use Rattle.c_pre.specs.SharedSets.{names_of}
use Rattle.c_pre.proofs.Heights.{all_weaker, still_are_known, same_hiding}
use Rattle.c_pre.proofs.Putting.{list_step, list_refused}
use Rattle.c_pre.proofs.unread.Unread.put_in.Goals as goal

pub put_argument-requires-clause-argument : goal.put_argument-requires-clause-argument
put_argument-requires-clause-argument c =
    let a = c.args.self.now in
    let b = c.loop-n.self in
    c.in-Some.ensures.known b.sets
    (all_weaker _ _ (λ v k. still_are_known a.sets b.sets c.loop-n.invariant.puts.grows v.items k) c.args.arguments.now
    c.requires.arguments)

pub loop-n-preserved-in-Continue-1 : goal.loop-n-preserved-in-Continue-1
loop-n-preserved-in-Continue-1 c =
    let a = c.args.self.now in
    let b = c.loop-n.self in
    let grows = c.loop-n.invariant.puts.grows in
    let line = c.args.line in
    let here = c.args.here in
    let token = c.index-list-n.result in
    let argument = c.in-Some.argument.now in
    let known = c.in-Some.ensures.known a.sets c.requires.arguments in
    record {
      puts = list_step line here (names_among c.args.parameters.now)
          (map (λ v. all_hiding a.sets v.items) c.args.arguments.now) c.args.list.now a b c.put_argument.new.self
          c.loop-n.n token c.requires.set c.loop-n.invariant.puts c.loop-n-test.true c.loop-n.invariant.within
          c.index-list-n.is (put_argument line (names_of b.sets here) (all_hiding b.sets argument))
          (ap (λ h. put_argument line h (all_hiding b.sets argument)) (grows.same here c.requires.set)
          ∙ ap (put_argument line (names_of a.sets here)) (same_hiding a.sets b.sets grows argument known)
          ∙ ap (put_token line (names_of a.sets here) token) (c.in-Some.ensures.argument a.sets))
          c.in_ok-put_argument-in-Some.ensures;
      within = omega (arith, c.loop-n.invariant.within);
    }

pub returns-in_err-put_argument-in-Some : goal.returns-in_err-put_argument-in-Some
returns-in_err-put_argument-in-Some c =
    let a = c.args.self.now in
    let b = c.loop-n.self in
    let grows = c.loop-n.invariant.puts.grows in
    let line = c.args.line in
    let here = c.args.here in
    let token = c.index-list-n.result in
    let argument = c.in-Some.argument.now in
    let known = c.in-Some.ensures.known a.sets c.requires.arguments in
    let error = err_from_is_err_and c.from_residual.result c.from_residual.ensures.1 in
    rw (error.1, error.2)
    (list_refused line here (names_among c.args.parameters.now)
    (map (λ v. all_hiding a.sets v.items) c.args.arguments.now) c.args.list.now a b c.put_argument.new.self
    c.loop-n.n token c.requires.set c.loop-n.invariant.puts c.loop-n-test.true c.loop-n.invariant.within
    c.index-list-n.is (Unit {0}) (Unit {0}) (put_argument line (names_of b.sets here) (all_hiding b.sets argument))
    c.in_err-put_argument-in-Some.field-0.0 c.put_argument.new.self
    (ap (λ h. put_argument line h (all_hiding b.sets argument)) (grows.same here c.requires.set)
    ∙ ap (put_argument line (names_of a.sets here)) (same_hiding a.sets b.sets grows argument known)
    ∙ ap (put_token line (names_of a.sets here) token) (c.in-Some.ensures.argument a.sets))
    c.in_err-put_argument-in-Some.ensures)

pub loop-n-preserved : goal.loop-n-preserved
loop-n-preserved c =
    let a = c.args.self.now in
    let b = c.loop-n.self in
    let line = c.args.line in
    let here = c.args.here in
    let token = c.index-list-n.result in
    record {
      puts = list_step line here (names_among c.args.parameters.now)
          (map (λ v. all_hiding a.sets v.items) c.args.arguments.now) c.args.list.now a b c.put.new.self
          c.loop-n.n token c.requires.set c.loop-n.invariant.puts c.loop-n-test.true c.loop-n.invariant.within
          c.index-list-n.is (put_token line (names_of b.sets here) token None)
          (ap (λ h. put_token line h token None) (c.loop-n.invariant.puts.grows.same here c.requires.set)
          ∙ ap (put_token line (names_of a.sets here) token) (c.in-None.ensures.argument a.sets))
          c.in_ok-put-in-None.ensures;
      within = omega (arith, c.loop-n.invariant.within);
    }

pub returns-in_err-put-in-None : goal.returns-in_err-put-in-None
returns-in_err-put-in-None c =
    let a = c.args.self.now in
    let b = c.loop-n.self in
    let line = c.args.line in
    let here = c.args.here in
    let token = c.index-list-n.result in
    let error = err_from_is_err_and c.from_residual-in_err-put-in-None.result
    c.from_residual-in_err-put-in-None.ensures.1 in
    rw (error.1, error.2)
    (list_refused line here (names_among c.args.parameters.now)
    (map (λ v. all_hiding a.sets v.items) c.args.arguments.now) c.args.list.now a b c.put.new.self
    c.loop-n.n token c.requires.set c.loop-n.invariant.puts c.loop-n-test.true c.loop-n.invariant.within
    c.index-list-n.is (Unit {0}) (Unit {0}) (put_token line (names_of b.sets here) token None)
    c.in_err-put-in-None.field-0.0 c.put.new.self
    (ap (λ h. put_token line h token None) (c.loop-n.invariant.puts.grows.same here c.requires.set)
    ∙ ap (put_token line (names_of a.sets here) token) (c.in-None.ensures.argument a.sets))
    c.in_err-put-in-None.ensures)
