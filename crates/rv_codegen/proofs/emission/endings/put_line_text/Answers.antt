use Rattle.std.proofs.Common.{◌++◌, [], ◌∷◌, ap, ◌∙◌}
use Rattle.rv_codegen.proofs.EmittedCode.Lists.{line_text_is}
use Rattle.rv_codegen.proofs.emission.endings.put_line_text.Goals as goal

pub returns : goal.returns
returns c = line_text_is c.args.code.now.items _ _ _ _ c.args.what.now c.callee_scratch-base.result
    c.callee_scratch-base.ensures
    (c.in_ok-push.ensures.items ∙ ap (λ i. c.args.code.now.items ++ i ∷ []) c.addi.ensures)
    c.in_ok-put_text_bytes.ensures c.in_ok-put_text_bytes-2.ensures c.in_ok-put_text_bytes-3.ensures
