use Rattle.std.proofs.Common.{◌+◌, arith}
use Rattle.std.proofs.lemmas.Result.{IfOk-weaker}
use Rattle.runtime_functions.specs.Sizes.{most_registers}
use Rattle.runtime_functions.specs.Runtime.{most_instructions}
use Rattle.runtime_functions.specs.declared.runtime.RuntimeFunction.TheVariants.{Library}
use Rattle.runtime_functions.proofs.Sizes.{short_list, few_instructions}
use Rattle.runtime_functions.proofs.LibraryCalls.{runtime_code_of_same, within, both_of}
use Rattle.runtime_functions.proofs.runtime.runtime_code.Goals as goal

pub returns-in-Library-clause-code : goal.returns-in-Library-clause-code
returns-in-Library-clause-code g c =
    let a = c.args in
    IfOk-weaker _ _ _
    (λ r h. runtime_code_of_same a.map.now g.S.ShadowForm.entry (g.S.ShadowForm.IsGood a.map.now) a.line _ _ _
    c.in-Library.is h) c.library_code.ensures.code

pub returns-in-Scan-clause-code : goal.returns-in-Scan-clause-code
returns-in-Scan-clause-code g c =
    let a = c.args in
    IfOk-weaker _ _ _
    (λ r h. runtime_code_of_same a.map.now g.S.ShadowForm.entry (g.S.ShadowForm.IsGood a.map.now) a.line _ _ _
    c.in-Scan.is h) c.scan.ensures.does

pub returns-in-PutBytes-clause-code : goal.returns-in-PutBytes-clause-code
returns-in-PutBytes-clause-code g c =
    let a = c.args in
    IfOk-weaker _ _ _
    (λ r h. runtime_code_of_same a.map.now g.S.ShadowForm.entry (g.S.ShadowForm.IsGood a.map.now) a.line _ _ _
    c.in-PutBytes.is h) c.put_bytes.ensures.does

pub returns-in-PutNumber-clause-code : goal.returns-in-PutNumber-clause-code
returns-in-PutNumber-clause-code g c =
    let a = c.args in
    IfOk-weaker _ _ _
    (λ r h. runtime_code_of_same a.map.now g.S.ShadowForm.entry (g.S.ShadowForm.IsGood a.map.now) a.line _ _ _
    c.in-PutNumber.is h) c.number.ensures.does

pub returns-in-Zero-clause-code : goal.returns-in-Zero-clause-code
returns-in-Zero-clause-code g c =
    let a = c.args in
    IfOk-weaker _ _ _
    (λ r h. runtime_code_of_same a.map.now g.S.ShadowForm.entry (g.S.ShadowForm.IsGood a.map.now) a.line _ _ _
    c.in-Zero.is h) (both_of _ _ _ c.zero.ensures.does c.zero.ensures.computes)

pub returns-in-CopyTagged-clause-code : goal.returns-in-CopyTagged-clause-code
returns-in-CopyTagged-clause-code g c =
    let a = c.args in
    IfOk-weaker _ _ _
    (λ r h. runtime_code_of_same a.map.now g.S.ShadowForm.entry (g.S.ShadowForm.IsGood a.map.now) a.line _ _ _
    c.in-CopyTagged.is h) (both_of _ _ _ c.move_tagged.ensures.does c.move_tagged.ensures.computes)

pub returns-in-Enter-clause-code : goal.returns-in-Enter-clause-code
returns-in-Enter-clause-code g c =
    let a = c.args in
    IfOk-weaker _ _ _
    (λ r h. runtime_code_of_same a.map.now g.S.ShadowForm.entry (g.S.ShadowForm.IsGood a.map.now) a.line _ _ _
    c.in-Enter.is h) (both_of _ _ _ c.enter.ensures.does c.enter.ensures.computes)

pub returns-in-ZeroArea-clause-code : goal.returns-in-ZeroArea-clause-code
returns-in-ZeroArea-clause-code g c =
    let a = c.args in
    IfOk-weaker _ _ _
    (λ r h. runtime_code_of_same a.map.now g.S.ShadowForm.entry (g.S.ShadowForm.IsGood a.map.now) a.line _ _ _
    c.in-ZeroArea.is h) (both_of _ _ _ c.make_zero.ensures.does c.make_zero.ensures.computes)

pub returns-in-TakeArea-clause-code : goal.returns-in-TakeArea-clause-code
returns-in-TakeArea-clause-code g c =
    let a = c.args in
    IfOk-weaker _ _ _
    (λ r h. runtime_code_of_same a.map.now g.S.ShadowForm.entry (g.S.ShadowForm.IsGood a.map.now) a.line _ _ _
    c.in-TakeArea.is h) (both_of _ _ _ c.take_structure.ensures.does c.take_structure.ensures.computes)

pub returns-in-PutArea-clause-code : goal.returns-in-PutArea-clause-code
returns-in-PutArea-clause-code g c =
    let a = c.args in
    IfOk-weaker _ _ _
    (λ r h. runtime_code_of_same a.map.now g.S.ShadowForm.entry (g.S.ShadowForm.IsGood a.map.now) a.line _ _ _
    c.in-PutArea.is h) (both_of _ _ _ c.put_structure.ensures.does c.put_structure.ensures.computes)

pub returns-in-MoveArea-clause-code : goal.returns-in-MoveArea-clause-code
returns-in-MoveArea-clause-code g c =
    let a = c.args in
    IfOk-weaker _ _ _
    (λ r h. runtime_code_of_same a.map.now g.S.ShadowForm.entry (g.S.ShadowForm.IsGood a.map.now) a.line _ _ _
    c.in-MoveArea.is h) (both_of _ _ _ c.take_part.ensures.does c.take_part.ensures.computes)

pub returns-in-Scan-clause-shape : goal.returns-in-Scan-clause-shape
returns-in-Scan-clause-shape g c = IfOk-weaker _ _ _
    (λ r h. within _ _ _ 20 (7 + 2) c.in-Scan.is (omega arith) (omega arith) h) c.scan.ensures.shape

pub returns-in-PutBytes-clause-shape : goal.returns-in-PutBytes-clause-shape
returns-in-PutBytes-clause-shape g c = IfOk-weaker _ _ _
    (λ r h. within _ _ _ 8 (3 + 2) c.in-PutBytes.is (omega arith) (omega arith) h) c.put_bytes.ensures.shape

pub returns-in-PutNumber-clause-shape : goal.returns-in-PutNumber-clause-shape
returns-in-PutNumber-clause-shape g c = IfOk-weaker _ _ _
    (λ r h. within _ _ _ 48 (3 + 4) c.in-PutNumber.is (omega arith) (omega arith) h) c.number.ensures.shape

pub returns-in-Zero-clause-shape : goal.returns-in-Zero-clause-shape
returns-in-Zero-clause-shape g c = IfOk-weaker _ _ _
    (λ r h. within _ _ _ 48 (3 + 7) c.in-Zero.is (omega arith) (omega arith) h) c.zero.ensures.shape

pub returns-in-CopyTagged-clause-shape : goal.returns-in-CopyTagged-clause-shape
returns-in-CopyTagged-clause-shape g c = IfOk-weaker _ _ _
    (λ r h. within _ _ _ 128 (4 + 14) c.in-CopyTagged.is (omega arith) (omega arith) h) c.move_tagged.ensures.shape

pub returns-in-Enter-clause-shape : goal.returns-in-Enter-clause-shape
returns-in-Enter-clause-shape g c = IfOk-weaker _ _ _
    (λ r h. within _ _ _ 96 (7 + 11) c.in-Enter.is (omega arith) (omega arith) h) c.enter.ensures.shape

pub returns-in-ZeroArea-clause-shape : goal.returns-in-ZeroArea-clause-shape
returns-in-ZeroArea-clause-shape g c = IfOk-weaker _ _ _
    (λ r h. within _ _ _ 16 (3 + 4) c.in-ZeroArea.is (omega arith) (omega arith) h) c.make_zero.ensures.shape

pub returns-in-TakeArea-clause-shape : goal.returns-in-TakeArea-clause-shape
returns-in-TakeArea-clause-shape g c = IfOk-weaker _ _ _
    (λ r h. within _ _ _ 96 (4 + 13) c.in-TakeArea.is (omega arith) (omega arith) h) c.take_structure.ensures.shape

pub returns-in-PutArea-clause-shape : goal.returns-in-PutArea-clause-shape
returns-in-PutArea-clause-shape g c = IfOk-weaker _ _ _
    (λ r h. within _ _ _ 96 (8 + 13) c.in-PutArea.is (omega arith) (omega arith) h) c.put_structure.ensures.shape

pub returns-in-MoveArea-clause-shape : goal.returns-in-MoveArea-clause-shape
returns-in-MoveArea-clause-shape g c = IfOk-weaker _ _ _
    (λ r h. within _ _ _ 80 (8 + 9) c.in-MoveArea.is (omega arith) (omega arith) h) c.take_part.ensures.shape

pub returns-in-Library-clause-shape : goal.returns-in-Library-clause-shape
returns-in-Library-clause-shape g c = IfOk-weaker _ _ _
    (λ r h. within _ (Library c.in-Library.function) _ (most_instructions (Library c.in-Library.function)) most_registers
    c.in-Library.is (omega arith) (omega arith) h)
    c.library_code.ensures.shape

pub returns-in-Scan-clause-few : goal.returns-in-Scan-clause-few
returns-in-Scan-clause-few g c = IfOk-weaker _ _ _ (λ r h. short_list _ 20 (omega arith) h) c.scan.ensures.shape

pub returns-in-PutBytes-clause-few : goal.returns-in-PutBytes-clause-few
returns-in-PutBytes-clause-few g c = IfOk-weaker _ _ _ (λ r h. short_list _ 8 (omega arith) h) c.put_bytes.ensures.shape

pub returns-in-PutNumber-clause-few : goal.returns-in-PutNumber-clause-few
returns-in-PutNumber-clause-few g c = IfOk-weaker _ _ _ (λ r h. short_list _ 48 (omega arith) h) c.number.ensures.shape

pub returns-in-Zero-clause-few : goal.returns-in-Zero-clause-few
returns-in-Zero-clause-few g c = IfOk-weaker _ _ _ (λ r h. short_list _ 48 (omega arith) h) c.zero.ensures.shape

pub returns-in-CopyTagged-clause-few : goal.returns-in-CopyTagged-clause-few
returns-in-CopyTagged-clause-few g c = IfOk-weaker _ _ _ (λ r h. short_list _ 128 (omega arith) h) c.move_tagged.ensures.shape

pub returns-in-Enter-clause-few : goal.returns-in-Enter-clause-few
returns-in-Enter-clause-few g c = IfOk-weaker _ _ _ (λ r h. short_list _ 96 (omega arith) h) c.enter.ensures.shape

pub returns-in-ZeroArea-clause-few : goal.returns-in-ZeroArea-clause-few
returns-in-ZeroArea-clause-few g c = IfOk-weaker _ _ _ (λ r h. short_list _ 16 (omega arith) h) c.make_zero.ensures.shape

pub returns-in-TakeArea-clause-few : goal.returns-in-TakeArea-clause-few
returns-in-TakeArea-clause-few g c = IfOk-weaker _ _ _ (λ r h. short_list _ 96 (omega arith) h) c.take_structure.ensures.shape

pub returns-in-PutArea-clause-few : goal.returns-in-PutArea-clause-few
returns-in-PutArea-clause-few g c = IfOk-weaker _ _ _ (λ r h. short_list _ 96 (omega arith) h) c.put_structure.ensures.shape

pub returns-in-MoveArea-clause-few : goal.returns-in-MoveArea-clause-few
returns-in-MoveArea-clause-few g c = IfOk-weaker _ _ _ (λ r h. short_list _ 80 (omega arith) h) c.take_part.ensures.shape

pub returns-in-Library-clause-few : goal.returns-in-Library-clause-few
returns-in-Library-clause-few g c = IfOk-weaker _ _ _
    (λ r h. short_list _ (most_instructions (Library c.in-Library.function))
    (few_instructions (Library c.in-Library.function)) h) c.library_code.ensures.shape
