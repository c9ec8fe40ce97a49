-- `int main(void){char b[5000];b[0]=1;return b[0];}`
-- An object larger than the object stack. Work: the call 1, and the report 34. The text is rows/stack_spent.c.
use Rattle.c_tree.specs.Programs.{Program}
use Rattle.c_tree.specs.Statements.{Statement, expression_statement, return, declaration}
use Rattle.c_tree.specs.Tree as tree
use Rattle.c_tree.specs.ValidProgram.{is_valid_program}
use Rattle.c_tree.specs.declared.expression.Kind.TheVariants.{Array}
use Rattle.obj_memory.specs.declared.int_type.IntType.TheVariants.{Char}
use Rattle.sb_base.specs.Budgets.{default_sizes}
use Rattle.source_meaning.specs.Meaning.{meaning}
use Rattle.source_meaning_rows.proofs.Samples.{assign, computing, convert, counts, decay, index, int, integer_kind}
use Rattle.source_meaning_rows.proofs.Samples.{lvalue, main_alone, none, number, object_variable, one, read, seen}
use Rattle.source_meaning_rows.proofs.Samples.{stopped, two, without_value}
use Rattle.std.proofs.Common.{Some, [], refl, true, ◌≡◌, ◌∷◌}
use Rattle.std.specs.Prelude.{codes}

statement_1 : Statement
statement_1 = expression_statement (assign 1
    (index 1 (integer_kind Char) (decay (lvalue 1 (Array 5000) (tree.automatic 0))) (number 1 0))
    (convert (integer_kind Char) (number 1 1)))

statement_2 : Statement
statement_2 = return (Some
    (convert int (read (index 1 (integer_kind Char) (decay (lvalue 1 (Array 5000) (tree.automatic 0))) (number 1 0)))))

program : Program
program = main_alone none (one (object_variable (Array 5000))) 248 ((declaration (without_value 0 ∷ []))
    ∷ statement_1
    ∷ statement_2
    ∷ [])

run : seen (meaning program (record default_sizes { stack = 4096 }) [] 20) ≡
    stopped [] (codes "sbcets: stack exhausted at line 1\n") 125
unfolding program statement_1 statement_2 computing
run = refl

counted : counts (meaning program (record default_sizes { stack = 4096 }) [] 20)
    ≡ record { turns = 1; work = 35; accesses = [] }
unfolding program statement_1 statement_2 computing
counted = refl

valid : is_valid_program program ≡ true
unfolding program statement_1 statement_2 computing
valid = refl
