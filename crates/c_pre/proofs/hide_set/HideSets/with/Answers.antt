use Rattle.std.proofs.Common.{[], ◌∷◌, length, length-append, ap, arith}
use Rattle.c_pre.specs.declared.hide_set.HideNode.{HideNode}
use Rattle.c_pre.proofs.Sets.{grows_by, made_names}
use Rattle.c_pre.proofs.hide_set.HideSets.with.Goals as goal

pub returns-clause-names : goal.returns-clause-names
returns-clause-names c =
    let old = c.args.self.now in
    let node : HideNode = record { name = c.args.name; others = c.args.set } in
    made_names old (record { nodes = c.push.new.self }) node c.in_ok-push.ensures.items
    (record { number = c.len.result })
    (omega (
      arith,
      c.len.ensures,
      ap length c.in_ok-push.ensures.items,
      length-append old.nodes.items (node ∷ []),
    ))
    c.requires

pub returns-clause-grows : goal.returns-clause-grows
returns-clause-grows c =
    grows_by c.args.self.now (record { nodes = c.push.new.self }) (record { name = c.args.name; others = c.args.set })
    c.in_ok-push.ensures.items
