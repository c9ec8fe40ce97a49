-- A structure value has its words as an object at a multiple of 16 has them: one that was read at 4 modulo 8 has no
-- tags.
-- The text is rows/structure_moves_at_an_odd_word.c, its tree by rows/trees.py.
--     struct s{int*p;};int z=7;char b[32];struct s id(struct s x){return x;}
--     int main(void){struct s u;struct s*q=(struct s*)(b+4);u.p=&z;*q=u;putchar(48+*id(u).p);
--     return *id(*q).p;}
use Rattle.c_tree.specs.Programs.{Function, Program}
use Rattle.c_tree.specs.Statements.{expression_statement, declaration, return}
use Rattle.c_tree.specs.Tree.{automatic, static}
use Rattle.c_tree.specs.ValidProgram.{is_valid_program}
use Rattle.c_tree.specs.declared.c_type.TypeWord.TheVariants.{Takes, Gives, Integer as IntegerWord}
use Rattle.c_tree.specs.declared.c_type.TypeWord.TheVariants.{Structure as StructureWord}
use Rattle.c_tree.specs.declared.expression.Kind.TheVariants.{Structure, Array}
use Rattle.c_tree.specs.declared.expression.OffsetForm.TheVariants.{PointerPlusIndex}
use Rattle.c_tree.specs.declared.expression.Routine.TheVariants.{Putchar}
use Rattle.obj_memory.specs.declared.int_type.IntType.TheVariants.{Int}
use Rattle.obj_memory.specs.declared.operator.BinaryOperator.TheVariants.{Add}
use Rattle.sb_base.specs.Budgets.{default_sizes}
use Rattle.source_meaning.specs.Meaning.{meaning}
use Rattle.source_meaning_rows.proofs.Samples.{int, pointer, number, plain, decay, address, parenthesized, cast, binary}
use Rattle.source_meaning_rows.proofs.Samples.{offset, assign, call, library, read, lvalue, deref, member}
use Rattle.source_meaning_rows.proofs.Samples.{member_of_value, content, part, with_value, without_value}
use Rattle.source_meaning_rows.proofs.Samples.{plain_variable, object_variable, static_object, function_type, defined}
use Rattle.source_meaning_rows.proofs.Samples.{program_with, computing, seen, stopped}
use Rattle.std.proofs.Common.{◌∷◌, [], Some, ◌≡◌, refl, true}
use Rattle.std.specs.Prelude.{codes}

function_id : Function
function_id = defined 1 0 (object_variable (Structure 8) ∷ []) [] 320
    (return (Some (read (lvalue 1 (Structure 8) (automatic 0))))
    ∷ [])

function_main : Function
function_main = defined 2 1 [] (object_variable (Structure 8) ∷ plain_variable pointer ∷ []) 608
    (declaration (without_value 0 ∷ [])
    ∷ declaration (with_value 1 (cast 2 pointer (parenthesized (offset 2 PointerPlusIndex 1 (decay (lvalue 2 (Array
    32) (static 1))) (number 2 4)))) ∷ [])
    ∷ expression_statement (assign 2 (member 2 pointer 0 (lvalue 2 (Structure 8) (automatic 0))) (address 2 (lvalue 2
    int (static 0))))
    ∷ expression_statement (assign 2 (deref 2 (Structure 8) (plain 2 pointer 1)) (read (lvalue 2 (Structure 8)
    (automatic 0))))
    ∷ expression_statement (library 2 int Putchar (binary 2 Add (number 2 48) (read (deref 2 int (read
    (member_of_value 2 pointer 0 (call 2 (Structure 8) 0 (read (lvalue 2 (Structure 8) (automatic 0)) ∷ [])))))) ∷
    []))
    ∷ return (Some (read (deref 3 int (read (member_of_value 3 pointer 0 (call 3 (Structure 8) 0 (read (deref 3
    (Structure 8) (plain 3 pointer 1)) ∷ [])))))))
    ∷ [])

program : Program
program = program_with
    (Some (record { size = 8; alignment = 8 })
    ∷ [])
    (static_object int (part 0 (content (number 1 7)) ∷ [])
    ∷ static_object (Array 32) []
    ∷ [])
    (function_type (Takes ∷ StructureWord 0 ∷ Gives ∷ StructureWord 0 ∷ []) ((Structure 8) ∷ []) (Structure 8)
    ∷ function_type (Gives ∷ IntegerWord Int ∷ []) ([]) int
    ∷ [])
    (function_id ∷ function_main ∷ [])
    1

run : seen (meaning program default_sizes [] 20) ≡ stopped (codes "7") (codes "sbcets: spatial violation at line 3\n")
    120
unfolding program function_id function_main computing
run = refl

valid : is_valid_program program ≡ true
unfolding program function_id function_main computing
valid = refl
