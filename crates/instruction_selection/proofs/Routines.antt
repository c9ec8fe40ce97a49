-- Routines of the library that are functions of the runtime.
use Rattle.std.proofs.Common.{◌≡◌, ℕ, Bool, Option, Some, None, List, ◌++◌, [], length, ap, sym, arith, ◌+◌, ◌*◌, ◌≤◌}
use Rattle.std.proofs.Common.{◌∷◌}
use Rattle.std.proofs.lemmas.Option.{same_Some, none-some}
use Rattle.c_tree.specs.declared.expression.Routine.{Routine}
use Rattle.c_tree.specs.declared.expression.Routine.TheVariants as routine
use Rattle.flat_code.specs.declared.instruction.FlatInstruction.{FlatInstruction}
use Rattle.tac_ir.specs.declared.function.CodeFunction.{CodeFunction}
use Rattle.tac_ir.specs.declared.function.Tac.{Tac}
use Rattle.runtime_functions.specs.declared.library.LibraryFunction.{LibraryFunction}
use Rattle.runtime_functions.specs.declared.status.ReturnStatus.{ReturnStatus}
use Rattle.metadata_relation.specs.InlineCode.{InlineCode}
use Rattle.metadata_relation.specs.Blocks.{end_code, library_code, runtime_call, status_tests}
use Rattle.runtime_functions.specs.Status.{ending_at}
use Rattle.sb_base.specs.declared.ending.Ending.{Ending}
use Rattle.instruction_selection.specs.Calls.{function_of}

pub called : (i : InlineCode) (t : Tac) (c : CodeFunction) (r : Routine) (f : LibraryFunction) (line d : ℕ) (b : Bool)
    → function_of r ≡ Some f → runtime_call t c f line d b ≡ library_code i t c r line d b
called i t c routine.Malloc f line d b e = ap (λ z. runtime_call t c z line d b) (same_Some _ _ (sym e))
called i t c routine.Calloc f line d b e = ap (λ z. runtime_call t c z line d b) (same_Some _ _ (sym e))
called i t c routine.Free f line d b e = ap (λ z. runtime_call t c z line d b) (same_Some _ _ (sym e))
called i t c routine.Realloc f line d b e = ap (λ z. runtime_call t c z line d b) (same_Some _ _ (sym e))
called i t c routine.Memcpy f line d b e = ap (λ z. runtime_call t c z line d b) (same_Some _ _ (sym e))
called i t c routine.Memmove f line d b e = ap (λ z. runtime_call t c z line d b) (same_Some _ _ (sym e))
called i t c routine.Memset f line d b e = ap (λ z. runtime_call t c z line d b) (same_Some _ _ (sym e))
called i t c routine.Memcmp f line d b e = ap (λ z. runtime_call t c z line d b) (same_Some _ _ (sym e))
called i t c routine.Strlen f line d b e = ap (λ z. runtime_call t c z line d b) (same_Some _ _ (sym e))
called i t c routine.Strcmp f line d b e = ap (λ z. runtime_call t c z line d b) (same_Some _ _ (sym e))
called i t c routine.Strcpy f line d b e = ap (λ z. runtime_call t c z line d b) (same_Some _ _ (sym e))
called i t c routine.Strncpy f line d b e = ap (λ z. runtime_call t c z line d b) (same_Some _ _ (sym e))
called i t c routine.Strcat f line d b e = ap (λ z. runtime_call t c z line d b) (same_Some _ _ (sym e))
called i t c routine.Strchr f line d b e = ap (λ z. runtime_call t c z line d b) (same_Some _ _ (sym e))
called i t c routine.Puts f line d b e = ap (λ z. runtime_call t c z line d b) (same_Some _ _ (sym e))
called i t c routine.Putchar f line d b e = absurd (none-some _ e)
called i t c routine.Getchar f line d b e = absurd (none-some _ e)
called i t c routine.Exit f line d b e = absurd (none-some _ e)
called i t c routine.Abort f line d b e = absurd (none-some _ e)

end_short : (o : Option Ending) → length (end_code o) ≤ 1
end_short None = omega arith
end_short (Some e) = omega arith

length_append : (xs ys : List FlatInstruction) → length (xs ++ ys) ≡ length xs + length ys
length_append [] ys = omega arith
length_append (x ∷ xs) ys = omega (arith, length_append xs ys)

-- each status has two instructions at most
pub tests_short : (r line : ℕ) (ks : List ReturnStatus) → length (status_tests r line ks) ≤ 2 * length ks
tests_short r line [] = omega arith
tests_short r line (k ∷ ks) =
    let behind = tests_short r line ks in
    let own = end_short (ending_at k line) in
    let both = length_append (end_code (ending_at k line)) (status_tests r line ks) in
    omega (arith, behind, own, both)
