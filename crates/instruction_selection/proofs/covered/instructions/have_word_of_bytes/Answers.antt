use Rattle.std.proofs.Common.{◌≡◌, ◌+◌, ◌^◌, drop, sym, ap, ◌∙◌, arith}
use Rattle.std.proofs.lemmas.Bool.{le-ltb}
use Rattle.std.proofs.lemmas.List.{drop_more}
use Rattle.lib_wrappers.specs.AllocatingRoutines.Entering.{block_bytes}
use Rattle.source_meaning.specs.Blocks.{objects_end}
use Rattle.instruction_selection.proofs.BlockObjects.{end_above}
use Rattle.instruction_selection.proofs.covered.instructions.have_word_of_bytes.Goals as goal

-- what the objects so far take is not more than all take
pub returns-then-next-ge-WORDS : goal.returns-then-next-ge-WORDS
returns-then-next-ge-WORDS c =
    let vs = c.args.variables.now in
    let i = c.loop-i.i in
    let rest = drop (i + 1) vs in
    let more = end_above rest c.behind-next.result in
    let whole = ap (λ ws. objects_end ws c.loop-i.end) (drop_more vs i _ c.loop-i-test.true) in
    let step = ap (objects_end rest) c.behind-next.ensures in
    let same : objects_end rest c.behind-next.result ≡ block_bytes vs
    = step ∙ sym whole ∙ c.loop-i.invariant.1 in
    sym (le-ltb (block_bytes vs) (2 ^ 64) (omega (arith, more, same, c.if-next-ge-WORDS.true)))
