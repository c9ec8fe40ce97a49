use Rattle.std.proofs.Common.{◌≡◌, ◌++◌, Bool, sym, subst}
use Rattle.std.specs.Prelude.{OnOk}
use Rattle.shadow_space.specs.Form.{EntryCode}
use Rattle.metadata_relation.specs.Blocks.{judge_code}
use Rattle.instruction_selection.specs.Selected.{expansion_of}
use Rattle.instruction_selection.proofs.checks.put_judge.Goals as goal

pub returns-in-Some : goal.returns-in-Some
returns-in-Some c =
    subst (λ key. OnOk c.put_keyed.result ((read write : EntryCode) (with_entry : Bool)
    → c.put_keyed.new.code.items ≡ c.args.code.now.items
    ++ judge_code (expansion_of read write c.args.context.now with_entry) c.args.context.now.function.now c.args.check.test
    key c.args.check.size c.args.check.line c.args.check.pointer c.args.check.scratch)) (sym c.in-Some.ensures)
    c.put_keyed.ensures
