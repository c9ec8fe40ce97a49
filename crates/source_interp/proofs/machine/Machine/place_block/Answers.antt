use Rattle.std.proofs.Common.{refl, ap, sym, subst, ◌∙◌, Ok, Err}
use Rattle.std.proofs.lemmas.Result.{err_from_is_err_and}
use Rattle.source_meaning.specs.State.{◌>>=◌, ◌>>◌, done, read_state, change}
use Rattle.source_interp.proofs.Acting.{then_acts, stop_acts, done_acts}
use Rattle.source_interp.specs.Standing.{Acts}
use Rattle.source_meaning.specs.Blocks.{place_variables, homes_over}
use Rattle.source_interp.proofs.Least.{reads}
use Rattle.source_interp.proofs.machine.Machine.place_block.Goals as goal

pub returns-in_err-frame : goal.returns-in_err-frame
returns-in_err-frame c g o =
    let p = err_from_is_err_and c.from_residual.result c.from_residual.ensures.1 in stop_acts g c.args.self.now
    c.args.self.now o o c.copy_frame.result c.from_residual.result c.in_err-frame.field-0.0 (read_state (λ s.
    s.frame)) (λ frame. (read_state (λ s. s.stacked)) >>= λ top. (place_variables c.args.variables.now) >>= λ homes.
    (change (λ s. record s { frame = homes_over frame homes })) >> (done (record {
      homes = homes;
      frame = frame;
      stacked = top;
    }))) c.in_err-frame.was (p.1 ∙ ap Err p.2) (c.copy_frame.ensures g o)

pub returns-in_err-homes : goal.returns-in_err-homes
returns-in_err-homes c g o =
    let p = err_from_is_err_and c.from_residual-in_err-homes.result c.from_residual-in_err-homes.ensures.1 in
    then_acts g c.args.self.now c.args.self.now c.place_variables.new.self o o o c.copy_frame.result
    c.in_ok-frame.frame c.from_residual-in_err-homes.result (read_state (λ s. s.frame)) (λ frame. (read_state (λ s.
    s.stacked)) >>= λ top. (place_variables c.args.variables.now) >>= λ homes. (change (λ s. record s {
      frame =
          homes_over frame homes;
    })) >> (done (record { homes = homes; frame = frame; stacked = top }))) c.in_ok-frame.was
    (c.copy_frame.ensures g o) (then_acts g c.args.self.now c.args.self.now c.place_variables.new.self o o o (Ok
    c.args.self.now.stacked) c.args.self.now.stacked c.from_residual-in_err-homes.result (read_state (λ s. s.stacked))
    (λ top. (place_variables c.args.variables.now) >>= λ homes. (change (λ s. record s {
      frame = homes_over
          c.in_ok-frame.frame homes;
    })) >> (done (record { homes = homes; frame = c.in_ok-frame.frame; stacked = top })))
    refl (reads g o c.args.self.now c.args.self.now.stacked (λ s. s.stacked) (λ start s st. sym st.stacked_is))
    (stop_acts g c.args.self.now c.place_variables.new.self o o c.place_variables.result
    c.from_residual-in_err-homes.result c.in_err-homes.field-0.0 (place_variables c.args.variables.now) (λ homes.
    (change (λ s. record s { frame = homes_over c.in_ok-frame.frame homes })) >> (done (record {
      homes = homes;
      frame
          = c.in_ok-frame.frame;
      stacked = c.args.self.now.stacked;
    }))) c.in_err-homes.was (p.1 ∙ ap Err p.2)
    (c.place_variables.ensures g o)))

pub returns : goal.returns
returns c g o =
    then_acts g c.args.self.now c.args.self.now c.set_frame.new.self o o o c.copy_frame.result c.in_ok-frame.frame (Ok
    (record { homes = c.in_ok-homes.homes; frame = c.in_ok-frame.frame; stacked = c.args.self.now.stacked }))
    (read_state (λ s. s.frame)) (λ frame. (read_state (λ s. s.stacked)) >>= λ top. (place_variables
    c.args.variables.now) >>= λ homes. (change (λ s. record s { frame = homes_over frame homes })) >> (done (record {
      homes = homes;
      frame = frame;
      stacked = top;
    }))) c.in_ok-frame.was (c.copy_frame.ensures g o) (then_acts g
    c.args.self.now c.args.self.now c.set_frame.new.self o o o (Ok c.args.self.now.stacked) c.args.self.now.stacked
    (Ok (record { homes = c.in_ok-homes.homes; frame = c.in_ok-frame.frame; stacked = c.args.self.now.stacked }))
    (read_state (λ s. s.stacked)) (λ top. (place_variables c.args.variables.now) >>= λ homes. (change (λ s. record s {
      frame = homes_over c.in_ok-frame.frame homes;
    })) >> (done (record {
      homes = homes;
      frame = c.in_ok-frame.frame;
      stacked = top;
    }))) refl (reads g o c.args.self.now c.args.self.now.stacked (λ s. s.stacked) (λ start s st. sym
    st.stacked_is)) (then_acts g c.args.self.now c.place_variables.new.self c.set_frame.new.self o o o
    c.place_variables.result c.in_ok-homes.homes (Ok (record {
      homes = c.in_ok-homes.homes;
      frame =
          c.in_ok-frame.frame;
      stacked = c.args.self.now.stacked;
    })) (place_variables c.args.variables.now) (λ homes.
    (change (λ s. record s { frame = homes_over c.in_ok-frame.frame homes })) >> (done (record {
      homes = homes;
      frame
          = c.in_ok-frame.frame;
      stacked = c.args.self.now.stacked;
    }))) c.in_ok-homes.was (c.place_variables.ensures g o)
    (then_acts g c.place_variables.new.self c.set_frame.new.self c.set_frame.new.self o o o (Ok tt) tt (Ok (record {
      homes = c.in_ok-homes.homes;
      frame = c.in_ok-frame.frame;
      stacked = c.args.self.now.stacked;
    })) (change (λ s.
    record s { frame = homes_over c.in_ok-frame.frame c.in_ok-homes.homes })) (λ _. done (record {
      homes =
          c.in_ok-homes.homes;
      frame = c.in_ok-frame.frame;
      stacked = c.args.self.now.stacked;
    })) refl (subst (λ x. Acts g
    c.place_variables.new.self c.set_frame.new.self o o (Ok tt) (change (λ s. record s { frame = x })))
    c.in_ok-inside.ensures (c.set_frame.ensures g o)) (done_acts g c.set_frame.new.self o (record {
      homes =
          c.in_ok-homes.homes;
      frame = c.in_ok-frame.frame;
      stacked = c.args.self.now.stacked;
    })))))
