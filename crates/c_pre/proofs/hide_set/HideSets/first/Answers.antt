use Rattle.std.proofs.Common.{◌≡◌, ◌-◌, ◌<◌, suc, length, Some, slice_get, refl, arith}
use Rattle.std.proofs.lemmas.Option.{slice_get_read}
use Rattle.c_pre.proofs.Sets.{names_taken, earlier_less}
use Rattle.c_pre.proofs.hide_set.HideSets.first.Goals as goal

pub returns : goal.returns
returns c =
    let set = c.args.set in
    let items = c.args.self.now.nodes.items in
    let node = c.index-node.result.now in
    let place = set.number - 1 in
    let is : set.number ≡ suc place = omega (arith, c.if-set-eq0.false) in
    let at : slice_get items place ≡ Some node = slice_get_read items (length items) place node refl
    (omega (arith, c.if-set-eq0.false, c.requires.below)) c.index-node.ensures in
    let less : c.earlier-others.result.number < set.number =
    rw c.earlier-others.ensures (earlier_less set.number node.others.number (omega (arith, c.if-set-eq0.false))) in
    rw c.again.ensures (
      names_taken c.args.self.now set c.earlier-others.result place node is at c.earlier-others.ensures,
      less,
      record { below = omega (arith, less, c.requires.below) },
    )
