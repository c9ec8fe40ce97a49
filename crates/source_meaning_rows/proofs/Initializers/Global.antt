-- `int x;int main(void){x=2;return x;}`. Work: 3 statements (the body is one), 4 nodes, 1 call.
-- The text is rows/global.c; gcc 12.2.0 gives the same output and status.
use Rattle.behaviours.specs.Shown.{Status, Read as ReadAccess, Write}
use Rattle.c_tree.specs.Programs.{Program}
use Rattle.c_tree.specs.Statements.{expression_statement, return}
use Rattle.c_tree.specs.Tree as tree
use Rattle.c_tree.specs.Tree.{Lvalue}
use Rattle.c_tree.specs.ValidProgram.{is_valid_program}
use Rattle.sb_base.specs.Budgets.{default_sizes}
use Rattle.source_meaning.specs.Meaning.{meaning}
use Rattle.source_meaning_rows.proofs.Samples.{at, computing, int, lvalue, main_alone, none, number, one, read, two}
use Rattle.std.proofs.Common.{◌≡◌, [], ◌∷◌, refl, true, Some, false, None}

x : Lvalue
x = lvalue 1 int (tree.static 0)

program : Program
program = main_alone
    (one (record { kind = int; is_literal = false; function = None; parts = none })) none 208
    (two (expression_statement (at 1 int (tree.assign (x) (number 1 2)))) (return (Some (read x))))

ending : (meaning program default_sizes [] 1).shown.ending ≡ Some (Status 2)
unfolding program x computing
ending = refl

work : (meaning program default_sizes [] 1).work ≡ 8
unfolding program x computing
work = refl

accesses : (meaning program default_sizes [] 1).shown.accesses ≡
    record { address = 0x10000000; size = 4; kind = Write }
    ∷ record { address = 0x10000000; size = 4; kind = ReadAccess } ∷ []
unfolding program x computing
accesses = refl

valid : is_valid_program program ≡ true
unfolding program x computing
valid = refl
