-- The code of a zero, and of a structure that is taken, is that of its instruction.
use Rattle.std.proofs.Common.{◌≡◌, ℕ, Bool, true, List, ◌++◌, refl, sym, ap, ◌∙◌}
use Rattle.shadow_space.specs.Form.{EntryCode}
use Rattle.c_tree.specs.declared.expression.Kind.{Kind}
use Rattle.c_tree.specs.declared.expression.Kind.TheVariants.{Void, Scalar as OfScalar, Structure, Array}
use Rattle.tac_ir.specs.declared.instruction.Instruction.{Instruction}
use Rattle.tac_ir.specs.declared.instruction.Instruction.TheVariants as tac
use Rattle.flat_code.specs.declared.instruction.FlatInstruction.{FlatInstruction}
use Rattle.metadata_relation.specs.InlineLists.{inline_lists}
use Rattle.metadata_relation.specs.Registers.{temporary_register}
use Rattle.instruction_selection.specs.declared.context.FunctionContext.{FunctionContext}
use Rattle.instruction_selection.specs.Selected.{is_made, selected, take_code, zero_of_code}

abbrev zero_list : (read write : EntryCode) → FunctionContext → (with_entry : Bool) → Kind → (temporary : ℕ)
    → List FlatInstruction
zero_list read write x b kind d =
    zero_of_code (inline_lists read write x.map.now) x.map.now x.program.now x.function.now kind b d
    (temporary_register x.function.now d)

zero_is : (read write : EntryCode) (x : FunctionContext) (b : Bool) (kind : Kind) (d m : ℕ)
    → zero_list read write x b kind d ≡ selected read write x b (tac.ZeroOf kind d m)
zero_is read write x b Void d m = refl
zero_is read write x b (OfScalar k) d m = refl
zero_is read write x b (Structure size) d m = refl
zero_is read write x b (Array size) d m = refl

pub zero_put : (x : FunctionContext) (b : Bool) (kind : Kind) (d m : ℕ) (i : Instruction) (before after : List FlatInstruction)
    → i ≡ tac.ZeroOf kind d m
    → ((read write : EntryCode) → after ≡ before ++ zero_list read write x b kind d)
    → (read write : EntryCode) → is_made i ≡ true → after ≡ before ++ selected read write x b i
zero_put x b kind d m i before after is put read write made =
    put read write
    ∙ (ap (λ js. before ++ js) (zero_is read write x b kind d m)
    ∙ ap (λ j. before ++ selected read write x b j) (sym is))

abbrev taken_list : (read write : EntryCode) → FunctionContext → (with_entry : Bool) → Kind → (temporary from : ℕ)
    → List FlatInstruction
taken_list read write x b kind d a =
    take_code (inline_lists read write x.map.now) x.map.now x.program.now x.function.now kind b d
    (temporary_register x.function.now d) (temporary_register x.function.now a)

taken_is : (read write : EntryCode) (x : FunctionContext) (b : Bool) (kind : Kind) (line d a m : ℕ)
    → taken_list read write x b kind d a ≡ selected read write x b (tac.Take kind line d a m)
taken_is read write x b Void line d a m = refl
taken_is read write x b (OfScalar k) line d a m = refl
taken_is read write x b (Structure size) line d a m = refl
taken_is read write x b (Array size) line d a m = refl

pub taken_put : (x : FunctionContext) (b : Bool) (kind : Kind) (line d a m : ℕ) (i : Instruction)
    (before after : List FlatInstruction) → i ≡ tac.Take kind line d a m
    → ((read write : EntryCode) → after ≡ before ++ taken_list read write x b kind d a)
    → (read write : EntryCode) → is_made i ≡ true → after ≡ before ++ selected read write x b i
taken_put x b kind line d a m i before after is put read write made =
    put read write
    ∙ (ap (λ js. before ++ js) (taken_is read write x b kind line d a m)
    ∙ ap (λ j. before ++ selected read write x b j) (sym is))
