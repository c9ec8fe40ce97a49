use Rattle.std.proofs.Common.{◌≡◌, suc, ◌+◌, ◌∷◌, ◌∙◌, ap, sym, drop, arith}
use Rattle.std.proofs.Math.Seq.{drop-cons}
use Rattle.rv_codegen.proofs.EmittedCode.Lists.{tail_more}
use Rattle.rv_codegen.proofs.emission.endings.put_tails_of.Goals as goal

pub loop-ending-preserved : goal.loop-ending-preserved
loop-ending-preserved c =
    let i = c.loop-ending.ending-index in
    let endings = c.args.endings.now in
    let next : suc i ≡ i + 1 = omega arith in
    tail_more c.loop-ending.code.items c.put_tail.new.code.items c.what_of.result.now c.code.result
    c.ending-item.result (drop i endings) (drop (i + 1) endings)
    (drop-cons endings i c.ending-item.result c.loop-ending-test.true
    ∙ ap (λ e. e ∷ drop (suc i) endings) (sym c.ending-item.is)
    ∙ ap (λ k. c.ending-item.result ∷ drop k endings) next)
    c.what_of.ensures.value c.code.ensures c.in_ok-put_tail.ensures ∙ c.loop-ending.invariant
