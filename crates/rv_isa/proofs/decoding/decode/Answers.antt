use Rattle.std.proofs.Common.{ap, sym, ◌∙◌}
use Rattle.rv_isa.specs.Decoding.{decoded}
use Rattle.rv_isa.proofs.RoundTrip.{decoded-word}
use Rattle.rv_isa.proofs.decoding.decode.Goals as goal

pub returns-clause-only : goal.returns-clause-only
returns-clause-only c = λ i t e. c.by_opcode.ensures.exact ∙ (ap decoded (sym e) ∙ decoded-word i t)
