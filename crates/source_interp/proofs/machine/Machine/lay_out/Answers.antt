use Rattle.std.proofs.Common.{◌+◌, ap, subst, refl, ◌∙◌, Ok, Err}
use Rattle.std.proofs.lemmas.Result.{err_from_is_err_and}
use Rattle.source_meaning.specs.State.{◌>>=◌, ◌>>◌, change}
use Rattle.source_interp.specs.Outside.{outside}
use Rattle.source_interp.specs.Standing.{Acts}
use Rattle.c_tree.specs.View.{function_of}
use Rattle.source_meaning.specs.Blocks.{place_variables}
use Rattle.source_meaning.specs.Calls.{body_objects, header_of, set_plain_values, write_parameters}
use Rattle.source_interp.proofs.Acting.{stop_acts, then_acts}
use Rattle.source_interp.proofs.machine.Machine.lay_out.Goals as goal

pub returns-in_err-charge : goal.returns-in_err-charge
returns-in_err-charge g c e w i =
    let p = err_from_is_err_and c.from_residual.result c.from_residual.ensures.1 in stop_acts e c.args.self.now
    c.charge.new.self (outside w (g.T.Trace.noted c.args.trace.now) i) (outside w (g.T.Trace.noted
    c.args.trace.now) i) c.charge.result c.from_residual.result c.in_err-charge.field-0.0 (change (λ s. record s
    { charged = s.charged + (header_of (function_of c.args.function.now)).room })) (λ _. ((set_plain_values
    (header_of (function_of c.args.function.now)) c.args.arguments.now) >> ((place_variables (body_objects
    (header_of (function_of c.args.function.now)))) >>= λ homes. ((change (λ s. record s { frame = homes })) >>
    (write_parameters (header_of (function_of c.args.function.now)).parameters homes c.args.line
    c.args.arguments.now))))) c.in_err-charge.was (p.1 ∙ ap Err p.2) (c.charge.ensures e (outside w
    (g.T.Trace.noted c.args.trace.now) i))

pub returns-in_err-set_plain_values : goal.returns-in_err-set_plain_values
returns-in_err-set_plain_values g c e w i =
    let p = err_from_is_err_and c.from_residual-in_err-set_plain_values.result
    c.from_residual-in_err-set_plain_values.ensures.1 in then_acts e c.args.self.now c.charge.new.self
    c.set_plain_values.new.self (outside w (g.T.Trace.noted c.args.trace.now) i) (outside w (g.T.Trace.noted
    c.args.trace.now) i) (outside w (g.T.Trace.noted c.args.trace.now) i) c.charge.result c.in_ok-charge.field-0
    c.from_residual-in_err-set_plain_values.result (change (λ s. record s {
      charged = s.charged + (header_of
          (function_of c.args.function.now)).room;
    })) (λ _. ((set_plain_values (header_of (function_of
    c.args.function.now)) c.args.arguments.now) >> ((place_variables (body_objects (header_of (function_of
    c.args.function.now)))) >>= λ homes. ((change (λ s. record s { frame = homes })) >> (write_parameters
    (header_of (function_of c.args.function.now)).parameters homes c.args.line c.args.arguments.now)))))
    c.in_ok-charge.was (c.charge.ensures e (outside w (g.T.Trace.noted c.args.trace.now) i)) (stop_acts e
    c.charge.new.self c.set_plain_values.new.self (outside w (g.T.Trace.noted c.args.trace.now) i) (outside w
    (g.T.Trace.noted c.args.trace.now) i) c.set_plain_values.result
    c.from_residual-in_err-set_plain_values.result c.in_err-set_plain_values.field-0.0 (set_plain_values
    (header_of (function_of c.args.function.now)) c.args.arguments.now) (λ _. ((place_variables (body_objects
    (header_of (function_of c.args.function.now)))) >>= λ homes. ((change (λ s. record s { frame = homes })) >>
    (write_parameters (header_of (function_of c.args.function.now)).parameters homes c.args.line
    c.args.arguments.now)))) c.in_err-set_plain_values.was (p.1 ∙ ap Err p.2) (c.set_plain_values.ensures e
    (outside w (g.T.Trace.noted c.args.trace.now) i)))

pub returns-in_err-homes : goal.returns-in_err-homes
returns-in_err-homes g c e w i =
    let p = err_from_is_err_and c.from_residual-in_err-homes.result c.from_residual-in_err-homes.ensures.1 in
    then_acts e c.args.self.now c.charge.new.self c.place_variables.new.self (outside w (g.T.Trace.noted
    c.args.trace.now) i) (outside w (g.T.Trace.noted c.args.trace.now) i) (outside w (g.T.Trace.noted
    c.args.trace.now) i) c.charge.result c.in_ok-charge.field-0 c.from_residual-in_err-homes.result (change (λ
    s. record s { charged = s.charged + (header_of (function_of c.args.function.now)).room })) (λ _.
    ((set_plain_values (header_of (function_of c.args.function.now)) c.args.arguments.now) >> ((place_variables
    (body_objects (header_of (function_of c.args.function.now)))) >>= λ homes. ((change (λ s. record s {
      frame =
          homes;
    })) >> (write_parameters (header_of (function_of c.args.function.now)).parameters homes c.args.line
    c.args.arguments.now))))) c.in_ok-charge.was (c.charge.ensures e (outside w (g.T.Trace.noted
    c.args.trace.now) i)) (then_acts e c.charge.new.self c.set_plain_values.new.self c.place_variables.new.self
    (outside w (g.T.Trace.noted c.args.trace.now) i) (outside w (g.T.Trace.noted c.args.trace.now) i) (outside w
    (g.T.Trace.noted c.args.trace.now) i) c.set_plain_values.result c.in_ok-set_plain_values.field-0
    c.from_residual-in_err-homes.result (set_plain_values (header_of (function_of c.args.function.now))
    c.args.arguments.now) (λ _. ((place_variables (body_objects (header_of (function_of c.args.function.now))))
    >>= λ homes. ((change (λ s. record s { frame = homes })) >> (write_parameters (header_of (function_of
    c.args.function.now)).parameters homes c.args.line c.args.arguments.now)))) c.in_ok-set_plain_values.was
    (c.set_plain_values.ensures e (outside w (g.T.Trace.noted c.args.trace.now) i)) (stop_acts e
    c.set_plain_values.new.self c.place_variables.new.self (outside w (g.T.Trace.noted c.args.trace.now) i)
    (outside w (g.T.Trace.noted c.args.trace.now) i) c.place_variables.result
    c.from_residual-in_err-homes.result c.in_err-homes.field-0.0 (place_variables (body_objects (header_of
    (function_of c.args.function.now)))) (λ homes. ((change (λ s. record s { frame = homes })) >>
    (write_parameters (header_of (function_of c.args.function.now)).parameters homes c.args.line
    c.args.arguments.now))) c.in_err-homes.was (p.1 ∙ ap Err p.2) (subst (λ vs. Acts e
    c.set_plain_values.new.self c.place_variables.new.self (outside w (g.T.Trace.noted c.args.trace.now) i)
    (outside w (g.T.Trace.noted c.args.trace.now) i) c.place_variables.result (place_variables vs)) c.requires
    (c.place_variables.ensures e (outside w (g.T.Trace.noted c.args.trace.now) i)))))

pub returns : goal.returns
returns g c e w i =
    then_acts e c.args.self.now c.charge.new.self c.write_parameters.new.self (outside w (g.T.Trace.noted
    c.args.trace.now) i) (outside w (g.T.Trace.noted c.args.trace.now) i) (outside w (g.T.Trace.noted
    c.write_parameters.new.trace) i) c.charge.result c.in_ok-charge.field-0 c.write_parameters.result (change (λ
    s. record s { charged = s.charged + (header_of (function_of c.args.function.now)).room })) (λ _.
    ((set_plain_values (header_of (function_of c.args.function.now)) c.args.arguments.now) >> ((place_variables
    (body_objects (header_of (function_of c.args.function.now)))) >>= λ homes. ((change (λ s. record s {
      frame =
          homes;
    })) >> (write_parameters (header_of (function_of c.args.function.now)).parameters homes c.args.line
    c.args.arguments.now))))) c.in_ok-charge.was (c.charge.ensures e (outside w (g.T.Trace.noted
    c.args.trace.now) i)) (then_acts e c.charge.new.self c.set_plain_values.new.self c.write_parameters.new.self
    (outside w (g.T.Trace.noted c.args.trace.now) i) (outside w (g.T.Trace.noted c.args.trace.now) i) (outside w
    (g.T.Trace.noted c.write_parameters.new.trace) i) c.set_plain_values.result c.in_ok-set_plain_values.field-0
    c.write_parameters.result (set_plain_values (header_of (function_of c.args.function.now))
    c.args.arguments.now) (λ _. ((place_variables (body_objects (header_of (function_of c.args.function.now))))
    >>= λ homes. ((change (λ s. record s { frame = homes })) >> (write_parameters (header_of (function_of
    c.args.function.now)).parameters homes c.args.line c.args.arguments.now)))) c.in_ok-set_plain_values.was
    (c.set_plain_values.ensures e (outside w (g.T.Trace.noted c.args.trace.now) i)) (then_acts e
    c.set_plain_values.new.self c.place_variables.new.self c.write_parameters.new.self (outside w
    (g.T.Trace.noted c.args.trace.now) i) (outside w (g.T.Trace.noted c.args.trace.now) i) (outside w
    (g.T.Trace.noted c.write_parameters.new.trace) i) c.place_variables.result c.in_ok-homes.homes
    c.write_parameters.result (place_variables (body_objects (header_of (function_of c.args.function.now)))) (λ
    homes. ((change (λ s. record s { frame = homes })) >> (write_parameters (header_of (function_of
    c.args.function.now)).parameters homes c.args.line c.args.arguments.now))) c.in_ok-homes.was (subst (λ vs.
    Acts e c.set_plain_values.new.self c.place_variables.new.self (outside w (g.T.Trace.noted c.args.trace.now)
    i) (outside w (g.T.Trace.noted c.args.trace.now) i) c.place_variables.result (place_variables vs))
    c.requires (c.place_variables.ensures e (outside w (g.T.Trace.noted c.args.trace.now) i))) (then_acts e
    c.place_variables.new.self c.set_frame.new.self c.write_parameters.new.self (outside w (g.T.Trace.noted
    c.args.trace.now) i) (outside w (g.T.Trace.noted c.args.trace.now) i) (outside w (g.T.Trace.noted
    c.write_parameters.new.trace) i) (Ok tt) tt c.write_parameters.result (change (λ s. record s {
      frame =
          c.in_ok-homes.homes;
    })) (λ _. (write_parameters (header_of (function_of c.args.function.now)).parameters
    c.in_ok-homes.homes c.args.line c.args.arguments.now)) refl (subst (λ x. Acts e c.place_variables.new.self
    c.set_frame.new.self (outside w (g.T.Trace.noted c.args.trace.now) i) (outside w (g.T.Trace.noted
    c.args.trace.now) i) (Ok tt) (change (λ s. record s { frame = x }))) c.in_ok-frame.ensures
    (c.set_frame.ensures e (outside w (g.T.Trace.noted c.args.trace.now) i))) (subst (λ ps. Acts e
    c.set_frame.new.self c.write_parameters.new.self (outside w (g.T.Trace.noted c.args.trace.now) i) (outside w
    (g.T.Trace.noted c.write_parameters.new.trace) i) c.write_parameters.result (write_parameters ps
    c.in_ok-homes.homes c.args.line c.args.arguments.now)) c.as_slice.ensures (c.write_parameters.ensures e w
    i)))))
