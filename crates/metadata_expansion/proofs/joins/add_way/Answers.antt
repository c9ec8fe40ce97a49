use Rattle.std.proofs.Common.{◌<◌, length, refl, sym, subst, arith}
use Rattle.std.specs.Prelude.{slice_set, ◌∷◌, []}
use Rattle.std.proofs.lemmas.Option.{slice_get_read}
use Rattle.metadata_expansion.specs.Joins.{Adds, ways_in}
use Rattle.metadata_expansion.proofs.Counting.{adds_none, adds_one}
use Rattle.metadata_expansion.proofs.joins.add_way.Goals as goal

pub returns-then-node-len : goal.returns-then-node-len
returns-then-node-len c =
    let table = c.args.table.now.items in
    let x = c.args.node in
    let inside : x < length table = omega (arith, c.if-node-len.true, c.len.ensures) in
    let at = slice_get_read table (length table) x c.index.result.now refl inside c.index.ensures in
    subst (λ z. Adds table (slice_set table x z) (ways_in (x ∷ []))) (sym c.and_one.ensures)
    (adds_one table x c.index.result.now inside at)

pub returns-else-node-len : goal.returns-else-node-len
returns-else-node-len c = adds_none c.args.table.now.items c.args.node
    (omega (arith, c.if-node-len.false, c.len.ensures))
