use Rattle.std.proofs.Common.{subst, refl, Ok}
use Rattle.source_meaning.specs.State.{change}
use Rattle.source_interp.specs.Standing.{Acts}
use Rattle.source_interp.proofs.Calling.{caller_of, swapped, swaps}
use Rattle.source_interp.proofs.machine.Machine.swap_frame.Goals as goal

pub returns-clause-frame : goal.returns-clause-frame
returns-clause-frame c g o =
    subst (λ k. Acts g c.args.self.now (record c.args.self.now {
      frame = c.replace.new.dest;
      plain =
          c.caller.inside.plain;
      charged = c.caller.inside.charged;
      stacked = c.caller.inside.stacked;
    }) o o (Ok tt)
    (change (swapped k))) c.caller.view_is (swaps g o c.args.self.now (record c.args.self.now {
      frame =
          c.replace.new.dest;
      plain = c.caller.inside.plain;
      charged = c.caller.inside.charged;
      stacked =
          c.caller.inside.stacked;
    }) (caller_of c.caller.inside.frame c.caller.inside.plain.items
    c.caller.inside.charged c.caller.inside.stacked) refl c.replace.ensures.after refl refl refl)
