use Rattle.std.proofs.Common.{◌+◌, ◌≤◌, length, sym, ◌∙◌, subst, refl}
use Rattle.interpreter_objects.proofs.Insides.{bytes_inside, some_there}
use Rattle.interpreter_objects.proofs.object.Object.bytes_from.Goals as goal

pub slice_bounds-result-end : goal.slice_bounds-result-end
slice_bounds-result-end c =
    some_there c.args.size c.args.offset (length c.bytes-all.result.now) c.bytes-all.result.now (subst (λ bs.
    c.args.offset
    + c.args.size ≤ length bs) (sym c.bytes-all.ensures) (bytes_inside c.args.offset c.args.size c.args.self.now
    (sym c.has_bytes.ensures ∙ c.if-not-has_bytes.false))) refl
