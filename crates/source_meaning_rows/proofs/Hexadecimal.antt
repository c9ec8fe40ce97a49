-- Two functions that put out numbers, with which the texts of some rows begin, so that they have the numbers 0 and 1
-- there and the string literal is the static object 0.
--     void h(unsigned long v){if(v>15)h(v>>4);putchar("0123456789abcdef"[v&15]);}
--     void p(unsigned long v){h(v);putchar(32);}
use Rattle.c_tree.specs.Programs.{Function, StaticObject, FunctionType}
use Rattle.c_tree.specs.Statements.{expression_statement, if_then, literal_content}
use Rattle.c_tree.specs.Tree as tree
use Rattle.c_tree.specs.Tree.{Expression}
use Rattle.c_tree.specs.declared.c_type.TypeWord.TheVariants.{Gives, Integer as IntegerWord, Takes, Void as VoidWord}
use Rattle.c_tree.specs.declared.expression.Kind.TheVariants.{Array, Void}
use Rattle.c_tree.specs.declared.expression.Kind.{Kind}
use Rattle.c_tree.specs.declared.expression.Routine.TheVariants.{Putchar}
use Rattle.obj_memory.specs.declared.int_type.IntType.TheVariants.{Char, UnsignedLong}
use Rattle.obj_memory.specs.declared.operator.BinaryOperator.TheVariants.{BitAnd, Greater, ShiftRight}
use Rattle.source_meaning_rows.proofs.Samples.{binary, call, compare, convert, decay, defined, function_type, index}
use Rattle.source_meaning_rows.proofs.Samples.{int, integer_kind, library, lvalue, none, number, one, part, plain}
use Rattle.source_meaning_rows.proofs.Samples.{plain_variable, read, string_literal, two}
use Rattle.std.proofs.Common.{None, [], ◌++◌, ◌∷◌}
use Rattle.std.specs.Prelude.{codes}

abbrev pub long : Kind
long = integer_kind UnsignedLong

unfoldable pub hex_digits : StaticObject
hex_digits = string_literal (Array 17) (one (part 0 (literal_content (codes "0123456789abcdef" ++ 0 ∷ []))))

unfoldable pub put_type : FunctionType
put_type = function_type (Takes ∷ IntegerWord UnsignedLong ∷ Gives ∷ VoidWord ∷ []) (one long) Void

abbrev pub last_digit : Expression
last_digit = binary 1 BitAnd (plain 1 long 0) (convert long (number 1 15))

abbrev pub other_digits : Expression
other_digits = binary 1 ShiftRight (plain 1 long 0) (number 1 4)

unfoldable pub put_digits : Function
put_digits = defined 1 1 (one (plain_variable long)) none 320 (two
    (if_then (compare 1 Greater (plain 1 long 0) (convert long (number 1 15)))
    ((expression_statement (call 1 Void 0 (one other_digits)))))
    (expression_statement
    (library 1 int Putchar
    (one (convert int (read
    (index 1 (integer_kind Char) (decay (lvalue 1 (Array 17) (tree.static 0))) last_digit)))))))

unfoldable pub put_number : Function
put_number = defined 2 1 (one (plain_variable long)) none 240 (two
    (expression_statement (call 2 Void 0 (one (plain 2 long 0))))
    (expression_statement (library 2 int Putchar (one (number 2 32)))))
