use Rattle.std.proofs.Common.{◌≡◌, ◌+◌, ◌++◌, ◌∷◌, [], length, ap, ◌∙◌, arith}
use Rattle.program_expansion.proofs.Functions.{programs_same, whole_program}
use Rattle.program_expansion.proofs.program.expand.Goals as goal

pub returns-clause-ok : goal.returns-clause-ok
returns-clause-ok g c =
    let h = c.in_ok-functions.ensures.ok in
    let size : length c.as_slice.result.now ≡ length c.args.code.now.functions = ap (λ fs. length fs) c.as_slice.ensures in
    let count = c.len.ensures in
    let functions = c.from_vec.ensures
    ∙ (c.in_ok-all.ensures
    ∙ ap (λ f. c.in_ok-functions.functions.items ++ (c.args.runtime.items ++ f ∷ [])) c.in_ok-entry.ensures) in
    let number : length c.as_slice.result.now + c.len.result
    ≡ length c.args.code.now.functions + length c.args.runtime.items = omega (arith, size, count) in
    whole_program g.S.ShadowForm.entry_read g.S.ShadowForm.entry_write c.args.map.now c.args.code.now h.types
    c.in_ok-functions.functions.items h.functions c.args.runtime.items _ h.keys h.low h.limits (programs_same _ _ _ _ functions number)
