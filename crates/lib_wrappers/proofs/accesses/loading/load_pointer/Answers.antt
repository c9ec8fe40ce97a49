use Rattle.std.proofs.Common.{ap, sym, subst, ◌∙◌}
use Rattle.flat_code.specs.Routines.InputOutput.{IsWithoutInputOutput}
use Rattle.flat_code.proofs.Routines.InputOutput.{computes}
use Rattle.lib_wrappers.specs.AccessRoutines.Accessing.{IsLoadRoutine, load_pointer_code}
use Rattle.lib_wrappers.specs.declared.accesses.held.HeldScalar.TheVariants.{Pointer}
use Rattle.lib_wrappers.proofs.AccessRoutines.Pointers.{load_pointer_does}
use Rattle.lib_wrappers.proofs.accesses.loading.load_pointer.Goals as goal
use Rattle.flat_actions.specs.Actions.{program_basis}

pub returns-clause-does : goal.returns-clause-does
returns-clause-does g c =
    let a = c.args in
    let entry = g.S.ShadowForm.entry in
    let good = g.S.ShadowForm.IsGood a.map.now in
    let same = c.in_ok-code.ensures ∙ ap (load_pointer_code a.address a.into a.scratch) c.deref.ensures.value in
    subst (IsLoadRoutine (program_basis a.map.now entry good) a.address (Pointer a.into) a.scratch) (sym same)
    (load_pointer_does a.map.now entry good a.address a.into a.scratch c.in_ok-read.read.items c.requires.map
    c.requires.apart c.requires.below c.in_ok-read.ensures.does)

pub returns-clause-computes : goal.returns-clause-computes
returns-clause-computes g c =
    let a = c.args in
    let same = c.in_ok-code.ensures ∙ ap (load_pointer_code a.address a.into a.scratch) c.deref.ensures.value in
    subst IsWithoutInputOutput (sym same)
    (computes (load_pointer_code a.address a.into a.scratch c.in_ok-read.read.items) c.in_ok-read.ensures.computes.none)

pub returns-clause-code : goal.returns-clause-code
returns-clause-code g c =
    c.in_ok-code.ensures
    ∙ ap (load_pointer_code c.args.address c.args.into c.args.scratch)
    (c.deref.ensures.value ∙ c.in_ok-read.ensures.code)
