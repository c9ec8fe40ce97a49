-- The block of a switch is entered behind its value, and an initializer that is jumped over does nothing (C99 6.8.4.2
-- paragraph 7):
-- the object has zero bytes, and is dead behind the switch.
-- The text is rows/switch_passes_an_initializer.c, its tree by rows/trees.py.
--     int main(void){int*p;switch(2){int x=5;case 1:x=6;
--     case 2:p=&x;putchar(48+x);}
--     return *p;}
use Rattle.c_tree.specs.Programs.{Function, Program}
use Rattle.c_tree.specs.Statements.{expression_statement, declaration, return}
use Rattle.c_tree.specs.Tree.{automatic}
use Rattle.c_tree.specs.ValidProgram.{is_valid_program}
use Rattle.c_tree.specs.declared.c_type.TypeWord.TheVariants.{Gives, Integer as IntegerWord}
use Rattle.c_tree.specs.declared.expression.Routine.TheVariants.{Putchar}
use Rattle.c_tree.specs.declared.statement.CaseLabel.TheVariants.{Case}
use Rattle.obj_memory.specs.declared.int_type.IntType.TheVariants.{Int}
use Rattle.obj_memory.specs.declared.operator.BinaryOperator.TheVariants.{Add}
use Rattle.sb_base.specs.Budgets.{default_sizes}
use Rattle.source_meaning.specs.Meaning.{meaning}
use Rattle.source_meaning_rows.proofs.Samples.{int, pointer, number, plain, address, binary, assign, set_plain, library}
use Rattle.source_meaning_rows.proofs.Samples.{read, lvalue, deref, content, part, with_parts, without_value, item}
use Rattle.source_meaning_rows.proofs.Samples.{switch_of, plain_variable, object_variable, function_type, defined}
use Rattle.source_meaning_rows.proofs.Samples.{program_of, computing, seen, stopped}
use Rattle.std.proofs.Common.{◌∷◌, [], Some, ◌≡◌, refl, true}
use Rattle.std.specs.Prelude.{codes}

function_main : Function
function_main = defined 1 0 [] (plain_variable pointer ∷ object_variable int ∷ []) 288
    (declaration (without_value 0 ∷ [])
    ∷ switch_of (number 1 2) 1 (item [] (declaration (with_parts 1 (part 0 (content (number 1 5)) ∷ []) ∷ []))
    ∷ item (Case 1 ∷ []) (expression_statement (assign 1 (lvalue 1 int (automatic 1)) (number 1 6)))
    ∷ item (Case 2 ∷ []) (expression_statement (set_plain 2 0 (address 2 (lvalue 2 int (automatic 1)))))
    ∷ item [] (expression_statement (library 2 int Putchar (binary 2 Add (number 2 48) (read (lvalue 2 int
    (automatic 1))) ∷ [])))
    ∷ [])
    ∷ return (Some (read (deref 3 int (plain 3 pointer 0))))
    ∷ [])

program : Program
program = program_of
    []
    (function_type (Gives ∷ IntegerWord Int ∷ []) ([]) int
    ∷ [])
    (function_main ∷ [])
    0

run : seen (meaning program default_sizes [] 20) ≡ stopped (codes "0") (codes
    "sbcets: temporal violation at line 3\n") 121
unfolding program function_main computing
run = refl

valid : is_valid_program program ≡ true
unfolding program function_main computing
valid = refl
