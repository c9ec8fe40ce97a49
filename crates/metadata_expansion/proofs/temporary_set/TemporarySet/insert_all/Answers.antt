use Rattle.std.proofs.Common.{◌≡◌, ◌*◌, ◌<◌, ◌==◌, ap, ◌∙◌, length, arith}
use Rattle.std.proofs.lemmas.List.{length-set}
use Rattle.std.specs.Int.RustNames.{bit_or}
use Rattle.std.specs.Prelude.{slice_index}
use Rattle.metadata_expansion.proofs.TemporaryWords.{bit_kept, joined_more, any_default}
use Rattle.metadata_expansion.proofs.temporary_set.TemporarySet.insert_all.Goals as goal

pub loop-i-preserved : goal.loop-i-preserved
loop-i-preserved c =
    let old = c.loop-i.invariant in
    let k = c.loop-i.i in
    let ws = c.loop-i.self.words.items in
    let vs = c.args.other.now.words.items in
    let test = c.loop-i-test.true in
    let ends = c.loop-i.auto.i-end in
    let size = old.size in
    let same = c.requires in
    let low : k < length ws = omega (arith, test, ends, size) in
    let far : k < length vs = omega (arith, low, same, size) in
    let w = bit_or c.index_mut.result.now c.index.result.now in
    let is : w ≡ bit_or (slice_index ws k) (slice_index vs k) =
    ap (λ n. bit_or n c.index.result.now) (c.index_mut.ensures.value ∙ any_default ws k _ low)
    ∙ ap (bit_or (slice_index ws k)) (c.index.ensures ∙ any_default vs k _ far) in
    record {
      size = ap (λ n. 64 * n) (length-set ws k w) ∙ old.size;
      done = joined_more ws c.args.self.now.words.items vs k w low is old.done old.left;
      left = λ y past. ap (λ b. b == 1) (bit_kept ws k w y (λ e. omega (arith, past, e)))
          ∙ old.left y (omega (arith, past));
    }
