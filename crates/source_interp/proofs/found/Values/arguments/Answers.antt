use Rattle.std.proofs.Common.{sym, ap, ◌∙◌, length, take}
use Rattle.std.specs.Prelude.{reverse}
use Rattle.source_interp.proofs.Arguments.{all_behind}
use Rattle.source_interp.proofs.found.Values.arguments.Goals as goal

pub returns : goal.returns
returns c =
    all_behind c.as_slice-all.result.now c.self.inside.items.items c.args.count c.len.result
    c.saturating_sub-left.result
    c.as_slice-all.ensures.value (c.len.ensures ∙ sym c.as_slice-all.ensures.len ∙ ap length
    c.as_slice-all.ensures.value)
    c.saturating_sub-left.ensures ∙ ap (λ vs. reverse (take c.args.count vs)) c.self.view_is
