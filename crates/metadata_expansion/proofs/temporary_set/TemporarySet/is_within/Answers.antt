use Rattle.std.proofs.Common.{◌<◌, sym, ap, ◌∙◌, length, arith}
use Rattle.std.specs.Int.{bit_at}
use Rattle.std.proofs.lemmas.Bool.{false≢true}
use Rattle.metadata_expansion.proofs.TemporaryWords.{each_word, of_word, any_default}
use Rattle.metadata_expansion.proofs.temporary_set.TemporarySet.is_within.Goals as goal

pub returns-then-not-is_subset : goal.returns-then-not-is_subset
returns-then-not-is_subset c =
    let k = c.loop-i.i in
    let ws = c.args.self.now.words.items in
    let vs = c.args.other.now.words.items in
    let test = c.loop-i-test.true in
    let ends = c.loop-i.auto.i-end in
    let same = c.requires in
    let low : k < length ws = omega (arith, test, ends) in
    let far : k < length vs = omega (arith, low, same) in
    let a = c.index.ensures ∙ any_default ws k _ low in
    let b = c.index-in-loop-i.ensures ∙ any_default vs k _ far in (
      (λ e. absurd (false≢true e)),
      λ all. sym c.if-not-is_subset.true ∙ c.is_subset.ensures.1 (λ i in64 h.
          ap (λ w. bit_at w i) b ∙ of_word ws vs k all i in64 (ap (λ w. bit_at w i) (sym a) ∙ h)),
    )

pub loop-i-preserved : goal.loop-i-preserved
loop-i-preserved c =
    let k = c.loop-i.i in
    let ws = c.args.self.now.words.items in
    let vs = c.args.other.now.words.items in
    let test = c.loop-i-test.true in
    let ends = c.loop-i.auto.i-end in
    let same = c.requires in
    let low : k < length ws = omega (arith, test, ends) in
    let far : k < length vs = omega (arith, low, same) in
    let a = c.index.ensures ∙ any_default ws k _ low in
    let b = c.index-in-loop-i.ensures ∙ any_default vs k _ far in
    each_word ws vs k c.loop-i.invariant (λ i in64 h. ap (λ w. bit_at w i) (sym b)
    ∙ c.is_subset.ensures.0 c.if-not-is_subset.false i in64 (ap (λ w. bit_at w i) a ∙ h))
