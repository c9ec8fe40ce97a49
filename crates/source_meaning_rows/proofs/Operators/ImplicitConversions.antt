-- `char c;int main(void){long l=1;c=l;l=c+2U;return l<c;}`
-- Implicit conversions, reads and decays are no nodes. Work: the call, the variable and the body 3; the initializer 1;
-- the first assignment 4, the second 6 with the name of its variable; the return 4. The text is
-- rows/implicit_conversions.c; gcc 12.2.0 gives the same output and status.
use Rattle.c_tree.specs.Programs.{Program}
use Rattle.c_tree.specs.Statements.{Statement, expression_statement, declaration, return}
use Rattle.c_tree.specs.Tree as tree
use Rattle.c_tree.specs.ValidProgram.{is_valid_program}
use Rattle.obj_memory.specs.declared.int_type.IntType.TheVariants.{Char, Long, UnsignedInt}
use Rattle.obj_memory.specs.declared.operator.BinaryOperator.TheVariants.{Add, Less}
use Rattle.sb_base.specs.Budgets.{default_sizes}
use Rattle.source_meaning.specs.Meaning.{meaning}
use Rattle.source_meaning_rows.proofs.Samples.{assign, binary, compare, computing, constant, convert, counts, exited}
use Rattle.source_meaning_rows.proofs.Samples.{four, integer_kind, lvalue, main_alone, none, number, one, plain}
use Rattle.source_meaning_rows.proofs.Samples.{plain_variable, read, reads, seen, set_plain, static_object, with_value}
use Rattle.source_meaning_rows.proofs.Samples.{writes}
use Rattle.std.proofs.Common.{Some, [], refl, true, ◌∷◌, ◌≡◌}

statement_1 : Statement
statement_1 = expression_statement
    (assign 1 (lvalue 1 (integer_kind Char) (tree.static 0))
    (convert (integer_kind Char) (plain 1 (integer_kind Long) 0)))

statement_2 : Statement
statement_2 = expression_statement
    (set_plain 1 0 (convert (integer_kind Long)
    (binary 1 Add (convert (integer_kind UnsignedInt) (read (lvalue 1 (integer_kind Char) (tree.static 0))))
    (constant UnsignedInt 1 2))))

statement_3 : Statement
statement_3 = return (Some
    (compare 1 Less (plain 1 (integer_kind Long) 0)
    (convert (integer_kind Long) (read (lvalue 1 (integer_kind Char) (tree.static 0))))))

program : Program
program = main_alone
    (one (static_object (integer_kind Char) none))
    (one (plain_variable (integer_kind Long)))
    288
    (four (declaration (one (with_value 0 (convert (integer_kind Long) (number 1 1))))) statement_1
    statement_2 statement_3)

run : seen (meaning program default_sizes [] 20) ≡ exited [] 0
unfolding program statement_1 statement_2 statement_3 computing
run = refl

counted : counts (meaning program default_sizes [] 20) ≡
    record { turns = 1; work = 18; accesses = writes 0x10000000 1 ∷ reads 0x10000000 1 ∷ reads 0x10000000 1 ∷ [] }
unfolding program statement_1 statement_2 statement_3 computing
counted = refl

valid : is_valid_program program ≡ true
unfolding program statement_1 statement_2 statement_3 computing
valid = refl
