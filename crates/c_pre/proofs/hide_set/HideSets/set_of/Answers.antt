use Rattle.std.proofs.Common.{◌++◌, refl, sym, ap, ◌∙◌, append-nil, arith}
use Rattle.c_pre.proofs.Sets.{names_none, grows_not}
use Rattle.c_pre.proofs.hide_set.HideSets.set_of.Goals as goal

pub loop-name-init : goal.loop-name-init
loop-name-init c = record {
  same = sym (ap (λ names. c.args.names.items ++ names) (names_none c.args.self.now (record { number = 0 }) refl)
      ∙ append-nil c.args.names.items);
  known = record { below = omega arith };
  grows = grows_not c.args.self.now;
}
