use Rattle.std.proofs.Common.{refl, ℕ, ◌+◌, ◌<◌, ◌≤◌, arith}
use Rattle.std.proofs.lemmas.Result.{IfOk-weaker}
use Rattle.flat_code.specs.Routines.Shape.{HasShape}
use Rattle.lib_wrappers.proofs.StringRoutines.ScanRoutines.{scans_at_most}
use Rattle.lib_wrappers.proofs.strings.scanning.scan_at_most.Goals as goal
use Rattle.flat_actions.specs.Actions.{runtime_basis}

pub returns-clause-does : goal.returns-clause-does
returns-clause-does g c =
    let a = c.args in
    IfOk-weaker _ _ _
    (λ r first. scans_at_most (runtime_basis a.map.now g.S.ShadowForm.entry (g.S.ShadowForm.IsGood a.map.now)) refl
    c.requires.map a.string a.limit a.cursor a.line a.scratch c.requires.apart c.requires.below _ first)
    c.scan_at_most_instructions.ensures.does

pub returns-clause-shape : goal.returns-clause-shape
returns-clause-shape g c =
    let a = c.args in
    IfOk-weaker _ (λ r. (m : ℕ) → a.cursor < m → a.limit < m → a.scratch + 2 ≤ m → HasShape r.items 20 m)
    (λ r. HasShape r.items 20 (a.scratch + 2))
    (λ r h. h (a.scratch + 2) (let l = c.requires.below.0 in omega arith)
    (let l = c.requires.below.1.0 in omega arith) (omega arith))
    c.scan_at_most_instructions.ensures.shape
