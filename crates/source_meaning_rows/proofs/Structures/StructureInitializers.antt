-- Members by name and in order, structures in structures, unions, and parts left out. The text is
-- rows/structure_initializers.c; gcc 12.2.0 gives the same output and status.
--     struct q{char c;int i;};struct s{struct q a;int*p;struct q b[2];}g={{1,2},0,{{3},{.i=4}}};
--     union u{int i;char c[4];}h={.c={5,6}};int k=7;
--     int main(void){struct q x={.i=8,.c=9};struct s y={x,&k,{[1]={1,2}}};struct s z={.p=&k,3,4,5};union u v={258};
-- putchar(48+g.a.c);putchar(48+g.a.i);putchar(48+(g.p==0));putchar(48+g.b[0].c);putchar(48+g.b[0].i);
-- putchar(48+g.b[1].c);putchar(48+g.b[1].i);
--     putchar(48+h.c[0]);putchar(48+h.c[1]);putchar(48+h.c[2]);putchar(48+x.c);putchar(48+x.i);
-- putchar(48+y.a.c);putchar(48+y.a.i);putchar(48+*y.p);putchar(48+y.b[0].i);putchar(48+y.b[1].c);putchar(48+y.b[1].i);
-- putchar(48+z.a.i);putchar(48+*z.p);putchar(48+z.b[0].c);putchar(48+z.b[0].i);putchar(48+z.b[1].c);
-- putchar(48+z.b[1].i);
--     putchar(48+v.c[0]);putchar(48+v.c[1]);return 0;}
use Rattle.c_tree.specs.Programs.{Program, Function}
use Rattle.c_tree.specs.Statements.{Statement, expression_statement, declaration, return}
use Rattle.c_tree.specs.Tree as tree
use Rattle.c_tree.specs.ValidProgram.{is_valid_program}
use Rattle.c_tree.specs.declared.expression.Kind.TheVariants.{Array, Structure}
use Rattle.c_tree.specs.declared.expression.Routine.TheVariants.{Putchar}
use Rattle.obj_memory.specs.declared.int_type.IntType.TheVariants.{Char}
use Rattle.obj_memory.specs.declared.operator.BinaryOperator.TheVariants.{Add, Equal}
use Rattle.sb_base.specs.Budgets.{default_sizes}
use Rattle.source_meaning.specs.Meaning.{meaning}
use Rattle.source_meaning_rows.proofs.Samples.{address, binary, compare, computing, content, convert, decay, defined}
use Rattle.source_meaning_rows.proofs.Samples.{deref, exited, five, four, index, int, integer_kind, library, lvalue}
use Rattle.source_meaning_rows.proofs.Samples.{main_type, member, none, number, object_variable, one, parenthesized}
use Rattle.source_meaning_rows.proofs.Samples.{part, pointer, program_of, read, seen, static_object, three, two}
use Rattle.source_meaning_rows.proofs.Samples.{with_parts}
use Rattle.std.proofs.Common.{Some, [], refl, true, ◌∷◌, ◌≡◌}
use Rattle.std.specs.Prelude.{codes}

statement_1 : Statement
statement_1 = declaration
    (one (with_parts 0 (two (part 4 (content (number 3 8)))
    (part 0 (content (convert (integer_kind Char) (number 3 9)))))))

statement_2 : Statement
statement_2 = declaration (one (with_parts 1 (four
    (part 0 (content (read (lvalue 3 (Structure 8) (tree.automatic 0)))))
    (part 8 (content (address 3 (lvalue 3 int (tree.static 2)))))
    (part 24 (content (convert (integer_kind Char) (number 3 1))))
    (part 28 (content (number 3 2))))))

statement_3 : Statement
statement_3 = declaration (one (with_parts 2 (four
    (part 8 (content (address 3 (lvalue 3 int (tree.static 2)))))
    (part 16 (content (convert (integer_kind Char) (number 3 3))))
    (part 20 (content (number 3 4)))
    (part 24 (content (convert (integer_kind Char) (number 3 5)))))))

statement_4 : Statement
statement_4 = expression_statement
    (library 4 int Putchar
    (one (binary 4 Add (number 4 48)
    (convert int (read (member 4 (integer_kind Char) 0
    (member 4 (Structure 8) 0 (lvalue 4 (Structure 32) (tree.static 0)))))))))

statement_5 : Statement
statement_5 = expression_statement
    (library 4 int Putchar
    (one (binary 4 Add (number 4 48)
    (read (member 4 int 4 (member 4 (Structure 8) 0 (lvalue 4 (Structure 32) (tree.static 0))))))))

statement_6 : Statement
statement_6 = expression_statement
    (library 4 int Putchar
    (one (binary 4 Add (number 4 48)
    (parenthesized (compare 4 Equal (read (member 4 pointer 8 (lvalue 4 (Structure 32) (tree.static 0))))
    (convert pointer (number 4 0)))))))

statement_7 : Statement
statement_7 = expression_statement
    (library 4 int Putchar
    (one (binary 4 Add (number 4 48)
    (convert int (read (member 4 (integer_kind Char) 0
    (index 4 (Structure 8) (decay (member 4 (Array 16) 16 (lvalue 4 (Structure 32) (tree.static 0))))
    (number 4 0))))))))

statement_8 : Statement
statement_8 = expression_statement
    (library 4 int Putchar
    (one (binary 4 Add (number 4 48)
    (read (member 4 int 4
    (index 4 (Structure 8) (decay (member 4 (Array 16) 16 (lvalue 4 (Structure 32) (tree.static 0)))) (number 4 0)))))))

statement_9 : Statement
statement_9 = expression_statement
    (library 4 int Putchar
    (one (binary 4 Add (number 4 48)
    (convert int (read (member 4 (integer_kind Char) 0
    (index 4 (Structure 8) (decay (member 4 (Array 16) 16 (lvalue 4 (Structure 32) (tree.static 0))))
    (number 4 1))))))))

statement_10 : Statement
statement_10 = expression_statement
    (library 4 int Putchar
    (one (binary 4 Add (number 4 48)
    (read (member 4 int 4
    (index 4 (Structure 8) (decay (member 4 (Array 16) 16 (lvalue 4 (Structure 32) (tree.static 0)))) (number 4 1)))))))

statement_11 : Statement
statement_11 = expression_statement
    (library 5 int Putchar
    (one (binary 5 Add (number 5 48)
    (convert int (read (index 5 (integer_kind Char)
    (decay (member 5 (Array 4) 0 (lvalue 5 (Structure 4) (tree.static 1)))) (number 5 0)))))))

statement_12 : Statement
statement_12 = expression_statement
    (library 5 int Putchar
    (one (binary 5 Add (number 5 48)
    (convert int (read (index 5 (integer_kind Char)
    (decay (member 5 (Array 4) 0 (lvalue 5 (Structure 4) (tree.static 1)))) (number 5 1)))))))

statement_13 : Statement
statement_13 = expression_statement
    (library 5 int Putchar
    (one (binary 5 Add (number 5 48)
    (convert int (read (index 5 (integer_kind Char)
    (decay (member 5 (Array 4) 0 (lvalue 5 (Structure 4) (tree.static 1)))) (number 5 2)))))))

statement_14 : Statement
statement_14 = expression_statement
    (library 5 int Putchar
    (one (binary 5 Add (number 5 48)
    (convert int (read (member 5 (integer_kind Char) 0 (lvalue 5 (Structure 8) (tree.automatic 0))))))))

statement_15 : Statement
statement_15 = expression_statement
    (library 5 int Putchar
    (one (binary 5 Add (number 5 48) (read (member 5 int 4 (lvalue 5 (Structure 8) (tree.automatic 0)))))))

statement_16 : Statement
statement_16 = expression_statement
    (library 6 int Putchar
    (one (binary 6 Add (number 6 48)
    (convert int (read (member 6 (integer_kind Char) 0
    (member 6 (Structure 8) 0 (lvalue 6 (Structure 32) (tree.automatic 1)))))))))

statement_17 : Statement
statement_17 = expression_statement
    (library 6 int Putchar
    (one (binary 6 Add (number 6 48)
    (read (member 6 int 4 (member 6 (Structure 8) 0 (lvalue 6 (Structure 32) (tree.automatic 1))))))))

statement_18 : Statement
statement_18 = expression_statement
    (library 6 int Putchar
    (one (binary 6 Add (number 6 48)
    (read (deref 6 int (read (member 6 pointer 8 (lvalue 6 (Structure 32) (tree.automatic 1)))))))))

statement_19 : Statement
statement_19 = expression_statement
    (library 6 int Putchar
    (one (binary 6 Add (number 6 48)
    (read (member 6 int 4
    (index 6 (Structure 8) (decay (member 6 (Array 16) 16 (lvalue 6 (Structure 32) (tree.automatic 1))))
    (number 6 0)))))))

statement_20 : Statement
statement_20 = expression_statement
    (library 6 int Putchar
    (one (binary 6 Add (number 6 48)
    (convert int (read (member 6 (integer_kind Char) 0
    (index 6 (Structure 8) (decay (member 6 (Array 16) 16 (lvalue 6 (Structure 32) (tree.automatic 1))))
    (number 6 1))))))))

statement_21 : Statement
statement_21 = expression_statement
    (library 6 int Putchar
    (one (binary 6 Add (number 6 48)
    (read (member 6 int 4
    (index 6 (Structure 8) (decay (member 6 (Array 16) 16 (lvalue 6 (Structure 32) (tree.automatic 1))))
    (number 6 1)))))))

statement_22 : Statement
statement_22 = expression_statement
    (library 7 int Putchar
    (one (binary 7 Add (number 7 48)
    (read (member 7 int 4 (member 7 (Structure 8) 0 (lvalue 7 (Structure 32) (tree.automatic 2))))))))

statement_23 : Statement
statement_23 = expression_statement
    (library 7 int Putchar
    (one (binary 7 Add (number 7 48)
    (read (deref 7 int (read (member 7 pointer 8 (lvalue 7 (Structure 32) (tree.automatic 2)))))))))

statement_24 : Statement
statement_24 = expression_statement
    (library 7 int Putchar
    (one (binary 7 Add (number 7 48)
    (convert int (read (member 7 (integer_kind Char) 0
    (index 7 (Structure 8) (decay (member 7 (Array 16) 16 (lvalue 7 (Structure 32) (tree.automatic 2))))
    (number 7 0))))))))

statement_25 : Statement
statement_25 = expression_statement
    (library 7 int Putchar
    (one (binary 7 Add (number 7 48)
    (read (member 7 int 4
    (index 7 (Structure 8) (decay (member 7 (Array 16) 16 (lvalue 7 (Structure 32) (tree.automatic 2))))
    (number 7 0)))))))

statement_26 : Statement
statement_26 = expression_statement
    (library 7 int Putchar
    (one (binary 7 Add (number 7 48)
    (convert int (read (member 7 (integer_kind Char) 0
    (index 7 (Structure 8) (decay (member 7 (Array 16) 16 (lvalue 7 (Structure 32) (tree.automatic 2))))
    (number 7 1))))))))

statement_27 : Statement
statement_27 = expression_statement
    (library 7 int Putchar
    (one (binary 7 Add (number 7 48)
    (read (member 7 int 4
    (index 7 (Structure 8) (decay (member 7 (Array 16) 16 (lvalue 7 (Structure 32) (tree.automatic 2))))
    (number 7 1)))))))

statement_28 : Statement
statement_28 = expression_statement
    (library 8 int Putchar
    (one (binary 8 Add (number 8 48)
    (convert int (read (index 8 (integer_kind Char)
    (decay (member 8 (Array 4) 0 (lvalue 8 (Structure 4) (tree.automatic 3)))) (number 8 0)))))))

statement_29 : Statement
statement_29 = expression_statement
    (library 8 int Putchar
    (one (binary 8 Add (number 8 48)
    (convert int (read (index 8 (integer_kind Char)
    (decay (member 8 (Array 4) 0 (lvalue 8 (Structure 4) (tree.automatic 3)))) (number 8 1)))))))

function_main : Function
function_main = defined 3 0 none
    (four
    (object_variable (Structure 8))
    (object_variable (Structure 32))
    (object_variable (Structure 32))
    (object_variable (Structure 4)))
    408
    (statement_1 ∷
    statement_2 ∷
    statement_3 ∷
    declaration (one (with_parts 3 (one (part 0 (content (number 3 258)))))) ∷
    statement_4 ∷
    statement_5 ∷
    statement_6 ∷
    statement_7 ∷
    statement_8 ∷
    statement_9 ∷
    statement_10 ∷
    statement_11 ∷
    statement_12 ∷
    statement_13 ∷
    statement_14 ∷
    statement_15 ∷
    statement_16 ∷
    statement_17 ∷
    statement_18 ∷
    statement_19 ∷
    statement_20 ∷
    statement_21 ∷
    statement_22 ∷
    statement_23 ∷
    statement_24 ∷
    statement_25 ∷
    statement_26 ∷
    statement_27 ∷
    statement_28 ∷
    statement_29 ∷
    return (Some (number 8 0)) ∷ [])

program : Program
program = program_of
    (three
    (static_object (Structure 32) (five
    (part 0 (content (convert (integer_kind Char) (number 1 1))))
    (part 4 (content (number 1 2)))
    (part 8 (content (convert pointer (number 1 0))))
    (part 16 (content (convert (integer_kind Char) (number 1 3))))
    (part 28 (content (number 1 4)))))
    (static_object (Structure 4) (two
    (part 0 (content (convert (integer_kind Char) (number 2 5))))
    (part 1 (content (convert (integer_kind Char) (number 2 6))))))
    (static_object int (one (part 0 (content (number 2 7))))))
    (one main_type)
    (one function_main)
    0

run : seen (meaning program default_sizes [] 20) ≡ exited (codes "12130045609898701207345021") 0
unfolding program function_main statement_1 statement_2 statement_3 statement_4 statement_5 statement_6 statement_7
    statement_8 statement_9 statement_10 statement_11 statement_12 statement_13 statement_14 statement_15 statement_16
    statement_17 statement_18 statement_19 statement_20 statement_21 statement_22 statement_23 statement_24 statement_25
    statement_26 statement_27 statement_28 statement_29 computing
run = refl

valid : is_valid_program program ≡ true
unfolding program function_main statement_1 statement_2 statement_3 statement_4 statement_5 statement_6 statement_7
    statement_8 statement_9 statement_10 statement_11 statement_12 statement_13 statement_14 statement_15 statement_16
    statement_17 statement_18 statement_19 statement_20 statement_21 statement_22 statement_23 statement_24 statement_25
    statement_26 statement_27 statement_28 statement_29 computing
valid = refl
