use Rattle.std.proofs.Common.{◌+◌, subst, refl, Ok}
use Rattle.source_meaning.specs.State.{change, tally}
use Rattle.source_interp.specs.Standing.{Acts}
use Rattle.c_tree.specs.View.{function_of}
use Rattle.source_meaning.specs.Calls.{header_of, parameter_count, plain_count, plain_values}
use Rattle.source_interp.proofs.Acting.{then_acts}
use Rattle.source_interp.proofs.machine.Machine.set_plain_values.Goals as goal

pub returns-in-Some : goal.returns-in-Some
returns-in-Some c g o =
    then_acts g c.args.self.now c.tally.new.self c.put_plain.new.self o o o (Ok tt) tt (Ok tt) (tally
    (parameter_count (function_of c.args.function.now).parameters + plain_count (function_of
    c.args.function.now).variables)) (λ _. change (λ s. record s {
      plain = plain_values (header_of (function_of
          c.args.function.now)) c.args.arguments.now;
    })) refl (subst (λ n. Acts g c.args.self.now c.tally.new.self o o
    (Ok tt) (tally n)) c.in-Some.ensures (c.tally.ensures g o)) (subst (λ ps. Acts g c.tally.new.self
    c.put_plain.new.self o o (Ok tt) (change (λ s. record s { plain = ps }))) c.in_ok-plain.ensures
    (c.put_plain.ensures g o))
