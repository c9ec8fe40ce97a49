use Rattle.std.proofs.Common.{sym, subst, ◌∷◌}
use Rattle.flat_code.specs.declared.instruction.FlatInstruction.TheVariants.{Constant}
use Rattle.lib_wrappers.specs.MovingRoutines.Structures.{CopiesStructure}
use Rattle.flat_actions.proofs.ByParts.{by_body}
use Rattle.lib_wrappers.proofs.MovingRoutines.Copies.{copies_as}
use Rattle.lib_wrappers.proofs.moving.structures.copy_structure.Goals as goal
use Rattle.flat_actions.specs.Actions.{runtime_basis}

pub returns : goal.returns
returns g c =
    let a = c.args in
    let entry = g.S.ShadowForm.entry in
    let IsGood = g.S.ShadowForm.IsGood a.map.now in
    let items = by_body (λ body. Constant a.scratch a.size ∷ body) _ _ _ c.in_ok-code.ensures
    c.as_slice.ensures.value in
    record {
      does = subst (CopiesStructure (runtime_basis a.map.now entry IsGood) a.size a.to a.from a.scratch) (sym items)
          (copies_as a.map.now c.requires.map entry IsGood a.to a.from a.size a.scratch c.ranges.size.fits c.requires.to
          c.requires.from c.in_ok-act.act.items c.in_ok-act.ensures.does);
    }
