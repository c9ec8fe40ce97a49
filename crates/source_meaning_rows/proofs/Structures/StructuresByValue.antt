-- A structure is given back and passed with its tags, and a parameter is an object of its own. Work: the call of main
-- and its body 2,
-- v placed 17, t 1; for mk the 16 bytes that the initializer zeroes, 3 for the call and its argument, k 1, the body 1,
-- r placed 17,
-- its members 6 and 5, the return 2, the 16 bytes of the result, and 16 where they are moved into v; for use 3 for the
-- call and its argument, of
-- which 16 bytes are found, q 1, the body 1, q placed 17 and filled 16, the assignment 10, the return 3; the return of
-- main 7.
-- Three keys are taken, one for each call.
-- The text is rows/structures_by_value.c, its tree by rows/trees.py.
--     struct p{int*a;int b;};int z=6;struct p mk(int k){struct p r;r.a=&z;r.b=k;return r;}int use(struct p
-- q){q.b=q.b+*q.a;return q.b;}
--     int main(void){struct p v=mk(1);int t=use(v);return t*10+v.b;}
use Rattle.c_tree.specs.Programs.{Function, Program}
use Rattle.c_tree.specs.Statements.{expression_statement, declaration, return}
use Rattle.c_tree.specs.Tree.{automatic, static}
use Rattle.c_tree.specs.ValidProgram.{is_valid_program}
use Rattle.c_tree.specs.declared.c_type.TypeWord.TheVariants.{Takes, Gives, Integer as IntegerWord}
use Rattle.c_tree.specs.declared.c_type.TypeWord.TheVariants.{Structure as StructureWord}
use Rattle.c_tree.specs.declared.expression.Kind.TheVariants.{Structure}
use Rattle.obj_memory.specs.declared.int_type.IntType.TheVariants.{Int}
use Rattle.obj_memory.specs.declared.operator.BinaryOperator.TheVariants.{Add, Multiply}
use Rattle.sb_base.specs.Budgets.{default_sizes}
use Rattle.source_meaning.specs.Meaning.{meaning}
use Rattle.source_meaning_rows.proofs.Samples.{int, pointer, number, plain, address, binary, assign, call, read, lvalue}
use Rattle.source_meaning_rows.proofs.Samples.{deref, member, content, part, with_value, with_parts, without_value}
use Rattle.source_meaning_rows.proofs.Samples.{plain_variable, object_variable, static_object, function_type, defined}
use Rattle.source_meaning_rows.proofs.Samples.{program_with, computing, seen, counts, exited, stopped, reads, writes}
use Rattle.std.proofs.Common.{◌∷◌, [], Some, ◌≡◌, refl, true}
use Rattle.std.specs.Prelude.{codes}

function_mk : Function
function_mk = defined 1 0 (plain_variable int ∷ []) (object_variable (Structure 16) ∷ []) 400
    (declaration (without_value 1 ∷ [])
    ∷ expression_statement (assign 1 (member 1 pointer 0 (lvalue 1 (Structure 16) (automatic 1))) (address 1 (lvalue 1
    int (static 0))))
    ∷ expression_statement (assign 1 (member 1 int 8 (lvalue 1 (Structure 16) (automatic 1))) (plain 1 int 0))
    ∷ return (Some (read (lvalue 1 (Structure 16) (automatic 1))))
    ∷ [])

function_use : Function
function_use = defined 1 1 (object_variable (Structure 16) ∷ []) [] 320
    (expression_statement (assign 1 (member 1 int 8 (lvalue 1 (Structure 16) (automatic 0))) (binary 1 Add (read
    (member 1 int 8 (lvalue 1 (Structure 16) (automatic 0)))) (read (deref 1 int (read (member 1 pointer 0 (lvalue
    1 (Structure 16) (automatic 0))))))))
    ∷ return (Some (read (member 1 int 8 (lvalue 1 (Structure 16) (automatic 0)))))
    ∷ [])

function_main : Function
function_main = defined 2 2 [] (object_variable (Structure 16) ∷ plain_variable int ∷ []) 448
    (declaration (with_parts 0 (part 0 (content (call 2 (Structure 16) 0 (number 2 1 ∷ []))) ∷ []) ∷ [])
    ∷ declaration (with_value 1 (call 2 int 1 (read (lvalue 2 (Structure 16) (automatic 0)) ∷ [])) ∷ [])
    ∷ return (Some (binary 2 Add (binary 2 Multiply (plain 2 int 1) (number 2 10)) (read (member 2 int 8 (lvalue 2
    (Structure 16) (automatic 0))))))
    ∷ [])

program : Program
program = program_with
    (Some (record { size = 16; alignment = 8 })
    ∷ [])
    (static_object int (part 0 (content (number 1 6)) ∷ [])
    ∷ [])
    (function_type (Takes ∷ IntegerWord Int ∷ Gives ∷ StructureWord 0 ∷ []) (int ∷ []) (Structure 16)
    ∷ function_type (Takes ∷ StructureWord 0 ∷ Gives ∷ IntegerWord Int ∷ []) ((Structure 16) ∷ []) int
    ∷ function_type (Gives ∷ IntegerWord Int ∷ []) ([]) int
    ∷ [])
    (function_mk ∷ function_use ∷ function_main ∷ [])
    2

run : seen (meaning program default_sizes [] 20) ≡ exited [] 71
unfolding program function_mk function_use function_main computing
run = refl

counted : counts (meaning program default_sizes [] 20) ≡ record {
  turns = 3;
  work = 177;
  accesses = writes 0x10001010
      8 ∷ writes 0x10001018 4 ∷ reads 0x10001018 4 ∷ reads 0x10001010 8 ∷ reads 0x10000000 4 ∷ writes 0x10001018 4 ∷
      reads 0x10001018 4 ∷ reads 0x10001008 4 ∷ [];
}
unfolding program function_mk function_use function_main computing
counted = refl

two_keys : seen (meaning program (record default_sizes { keys = 2 }) [] 20) ≡ stopped [] (codes
    "sbcets: keys exhausted at line 2\n") 126
unfolding program function_mk function_use function_main computing
two_keys = refl

three_keys : seen (meaning program (record default_sizes { keys = 3 }) [] 20) ≡ exited [] 71
unfolding program function_mk function_use function_main computing
three_keys = refl

valid : is_valid_program program ≡ true
unfolding program function_mk function_use function_main computing
valid = refl
