-- Types and sizes of expressions, and the first rules that they violate. The types and sizes are those that gcc 12.2.0
-- gives on x86-64 with -funsigned-char, and it refuses what violates a rule.
use Rattle.std.proofs.Common.{◌≡◌, true, [], ◌∷◌, Some, None, Ok, map, refl}
use Rattle.std.specs.Prelude.{codes}
use Rattle.obj_memory.specs.declared.int_type.IntType.TheVariants as int
use Rattle.c_lexer.specs.declared.keyword.Keyword.TheVariants as keyword
use Rattle.c_lexer.specs.declared.punctuator.Punctuator.TheVariants as sign
use Rattle.c_syntax.specs.Tree as t
use Rattle.c_tree.specs.declared.c_type.TypeWord.TheVariants as word
use Rattle.c_faults.specs.declared.fault.Rule.TheVariants as rule
use Rattle.c_faults.specs.Answer.{violates}
use Rattle.obj_memory.specs.Integers.{balanced_type, common_type, fit, is_signed, promoted, rank, size_of}
use Rattle.obj_memory.specs.Operators.{binary_value, unary_value}
use Rattle.c_lexer.specs.Constants.{constant_in, constant_of, greatest_of, suffix_of, typed, types_of}
use Rattle.c_lexer.specs.Literals.{bytes_of_literal, character_value, characters_of, literal_step, next_character}
use Rattle.c_tree.specs.Extents.{extent_of}
use Rattle.c_tree.specs.Layout.{array_size, member_offsets, structure_of, union_of}
use Rattle.c_const.specs.Integers.{constant_word}
use Rattle.c_rules.specs.Binary.{binary}
use Rattle.c_rules.specs.Conversions.{assigned, cast}
use Rattle.c_rules.specs.Rows.{row_of}
use Rattle.c_rules.specs.Unary.{comma, combined, unary}
use Rattle.c_place_rules.specs.Places.{dereferenced, indexed, size_of as size_of_words}
use Rattle.c_assignment_rules.specs.Assignments.{assignment, stepped}
use Rattle.c_condition_rules.specs.Conditions.{conditional}
use Rattle.c_call_rules.specs.Calls.{called, called_through}
use Rattle.c_scope.specs.Declaring.{judged}
use Rattle.typing_rows.proofs.Expressions.Samples.{alone, array_of, assigning, at, before, between, calling, casting, declared}
use Rattle.typing_rows.proofs.Expressions.Samples.{indexing}
use Rattle.typing_rows.proofs.Expressions.Samples.{member, members, name, number, of_type, size_of_type, spelled, type_shown}
use Rattle.typing_rows.proofs.Expressions.Samples.{word as word_of, marks_shown, word_shown}

-- `0x80000000`, `'a'`, `"ab" "c"`, `x+1L`, `p+1`, `p-p`, `*p`, `1[p]`, `x=1`, `f()`, `(f)()`
types : map (type_shown (Some []))
    (number (codes "0x80000000")
    ∷ t.character (spelled (codes "'a'") 1)
    ∷ t.strings (spelled (codes "\"ab\"") 1) (spelled (codes "\"c\"") 1 ∷ [])
    ∷ between (name (codes "x")) sign.Plus (number (codes "1L"))
    ∷ between (name (codes "p")) sign.Plus (number (codes "1"))
    ∷ between (name (codes "p")) sign.Minus (name (codes "p"))
    ∷ before sign.Star (name (codes "p"))
    ∷ indexing (number (codes "1")) (name (codes "p"))
    ∷ assigning (name (codes "x")) sign.Assign (number (codes "1"))
    ∷ calling (name (codes "f")) []
    ∷ calling (t.parenthesized (at 1) (name (codes "f")) (at 1)) []
    ∷ [])
    ≡ Ok (word.Integer int.UnsignedInt ∷ [])
    ∷ Ok (word.Integer int.Int ∷ [])
    ∷ Ok (word.Array 4 4 ∷ word.Integer int.Char ∷ [])
    ∷ Ok (word.Integer int.Long ∷ [])
    ∷ Ok (word.Pointer ∷ word.Integer int.Int ∷ [])
    ∷ Ok (word.Integer int.Long ∷ [])
    ∷ Ok (word.Integer int.Int ∷ [])
    ∷ Ok (word.Integer int.Int ∷ [])
    ∷ Ok (word.Integer int.Int ∷ [])
    ∷ Ok (word.Integer int.Int ∷ [])
    ∷ Ok (word.Integer int.Int ∷ [])
    ∷ []
unfolding constant_of bytes_of_literal array_size binary dereferenced indexed assignment called called_through
    constant_in suffix_of typed types_of greatest_of characters_of character_value row_of extent_of assigned
    literal_step common_type size_of next_character balanced_type is_signed promoted rank size_of_words cast stepped
    unary comma combined conditional member_offsets structure_of union_of constant_word judged unary_value
    binary_value fit
types = refl

-- `sizeof x`, `sizeof(int[3][4])`, `sizeof(struct{char c;int i;char d;})`, `sizeof(union{char c[5];int i;})`,
-- `sizeof(int*(*)[3])`, `sizeof"ab"`, `sizeof(enum{A=3,B})`
sizes : map word_shown
    (t.sizeof_expression (at 1) (name (codes "x"))
    ∷ size_of_type (of_type (word_of keyword.Int)
    (array_of (array_of t.unnamed (number (codes "3"))) (number (codes "4"))))
    ∷ size_of_type (of_type (alone (t.structure_body keyword.Struct (at 1) None (at 1) (members
    (member (word_of keyword.Char) (declared (codes "c") 1)
    ∷ member (word_of keyword.Int) (declared (codes "i") 1)
    ∷ member (word_of keyword.Char) (declared (codes "d") 1)
    ∷ [])) (at 1))) t.unnamed)
    ∷ size_of_type (of_type (alone (t.structure_body keyword.Union (at 1) None (at 1) (members
    (member (word_of keyword.Char) (array_of (declared (codes "c") 1) (number (codes "5")))
    ∷ member (word_of keyword.Int) (declared (codes "i") 1)
    ∷ [])) (at 1))) t.unnamed)
    ∷ size_of_type (of_type (word_of keyword.Int)
    (t.pointer (at 1) [] (array_of (t.grouped (at 1) (t.pointer (at 1) [] t.unnamed) (at 1)) (number (codes "3")))))
    ∷ t.sizeof_expression (at 1) (t.strings (spelled (codes "\"ab\"") 1) [])
    ∷ size_of_type (of_type (alone (t.enumeration_body (at 1) None (at 1)
    (t.valued (spelled (codes "A") 1) (at 1) (number (codes "3")))
    (t.more_enumerators (at 1) (t.plain (spelled (codes "B") 1)) t.end_of_enumerators) None (at 1))) t.unnamed)
    ∷ [])
    ≡ Ok (Some 4) ∷ Ok (Some 48) ∷ Ok (Some 12) ∷ Ok (Some 8) ∷ Ok (Some 8) ∷ Ok (Some 3) ∷ Ok (Some 4) ∷ []
unfolding constant_of bytes_of_literal array_size binary dereferenced indexed assignment called called_through
    constant_in suffix_of typed types_of greatest_of characters_of character_value row_of extent_of assigned
    literal_step common_type size_of next_character balanced_type is_signed promoted rank size_of_words cast stepped
    unary comma combined conditional member_offsets structure_of union_of constant_word judged unary_value
    binary_value fit
sizes = refl

-- `y`, `*x`, `1=x`, `x=p`, `x.a`, `f(1)`, `x[1]`, `-p`, `p+p`, `&1`, `x?p:1`, `sizeof(int[0])`, `sizeof(int[-1])`,
-- `sizeof(struct S)`, `sizeof(struct{int a;` and on the next line `int a;})`, `sizeof(struct S{` and on the next line
-- `struct S s;})`, `sizeof(int(void)[2])`, `(struct S)x`
faults : map (type_shown (Some []))
    (name (codes "y")
    ∷ before sign.Star (name (codes "x"))
    ∷ assigning (number (codes "1")) sign.Assign (name (codes "x"))
    ∷ assigning (name (codes "x")) sign.Assign (name (codes "p"))
    ∷ t.member (name (codes "x")) sign.Dot (at 1) (spelled (codes "a") 1)
    ∷ calling (name (codes "f")) (number (codes "1") ∷ [])
    ∷ indexing (name (codes "x")) (number (codes "1"))
    ∷ before sign.Minus (name (codes "p"))
    ∷ between (name (codes "p")) sign.Plus (name (codes "p"))
    ∷ before sign.Ampersand (number (codes "1"))
    ∷ t.conditional (name (codes "x")) (at 1) (name (codes "p")) (at 1) (number (codes "1"))
    ∷ size_of_type (of_type (word_of keyword.Int) (array_of t.unnamed (number (codes "0"))))
    ∷ size_of_type (of_type (word_of keyword.Int) (array_of t.unnamed (before sign.Minus (number (codes "1")))))
    ∷ size_of_type (of_type (alone (t.structure keyword.Struct (at 1) (spelled (codes "S") 1))) t.unnamed)
    ∷ size_of_type (of_type (alone (t.structure_body keyword.Struct (at 1) None (at 1) (members
    (member (word_of keyword.Int) (declared (codes "a") 1)
    ∷ member (word_of keyword.Int) (declared (codes "a") 2)
    ∷ [])) (at 1))) t.unnamed)
    ∷ size_of_type (of_type (alone (t.structure_body keyword.Struct (at 1) (Some (spelled (codes "S") 1)) (at 1)
    (members
    (member (alone (t.structure keyword.Struct (at 2) (spelled (codes "S") 2))) (declared (codes "s") 2)
    ∷ [])) (at 2))) t.unnamed)
    ∷ size_of_type (of_type (word_of keyword.Int)
    (array_of (t.function t.unnamed (at 1) (t.void_parameters (at 1)) (at 1)) (number (codes "2"))))
    ∷ casting (of_type (alone (t.structure keyword.Struct (at 1) (spelled (codes "S") 1))) t.unnamed) (name (codes "x"))
    ∷ [])
    ≡ violates rule.Undeclared 1
    ∷ violates rule.NoTarget 1
    ∷ violates rule.NotAssignable 1
    ∷ violates rule.NoConversion 1
    ∷ violates rule.NoMember 1
    ∷ violates rule.ArgumentCount 1
    ∷ violates rule.NoTarget 1
    ∷ violates rule.Operands 1
    ∷ violates rule.Operands 1
    ∷ violates rule.NoAddress 1
    ∷ violates rule.Operands 1
    ∷ violates rule.NoConstant 1
    ∷ violates rule.NoConstant 1
    ∷ violates rule.Incomplete 1
    ∷ violates rule.RepeatedMember 2
    ∷ violates rule.Incomplete 2
    ∷ violates rule.MisplacedFunction 1
    ∷ violates rule.NoCast 1
    ∷ []
unfolding constant_of bytes_of_literal array_size binary dereferenced indexed assignment called called_through
    constant_in suffix_of typed types_of greatest_of characters_of character_value row_of extent_of assigned
    literal_step common_type size_of next_character balanced_type is_signed promoted rank size_of_words cast stepped
    unary comma combined conditional member_offsets structure_of union_of constant_word judged unary_value
    binary_value fit
faults = refl

-- `&x` while it is not known of which variables the text takes the addresses
address : type_shown None (before sign.Ampersand (name (codes "x"))) ≡ Ok (word.Pointer ∷ word.Integer int.Int ∷ [])
unfolding constant_of bytes_of_literal array_size binary dereferenced indexed assignment called called_through
    constant_in suffix_of typed types_of greatest_of characters_of character_value row_of extent_of assigned
    literal_step common_type size_of next_character balanced_type is_signed promoted rank size_of_words cast stepped
    unary comma combined conditional member_offsets structure_of union_of constant_word judged unary_value
    binary_value fit
address = refl

-- `&x`, `sizeof&x`, `"a"+0`, `sizeof"a"`, `(f)()`, `f()`
marks : map marks_shown
    (before sign.Ampersand (name (codes "x"))
    ∷ t.sizeof_expression (at 1) (before sign.Ampersand (name (codes "x")))
    ∷ between (t.strings (spelled (codes "\"a\"") 1) []) sign.Plus (number (codes "0"))
    ∷ t.sizeof_expression (at 1) (t.strings (spelled (codes "\"a\"") 1) [])
    ∷ calling (t.parenthesized (at 1) (name (codes "f")) (at 1)) []
    ∷ calling (name (codes "f")) []
    ∷ [])
    ≡ Ok (true ∷ [], (0, 0))
    ∷ Ok ([], (0, 0))
    ∷ Ok ([], (1, 0))
    ∷ Ok ([], (0, 0))
    ∷ Ok ([], (0, 1))
    ∷ Ok ([], (0, 0))
    ∷ []
unfolding constant_of bytes_of_literal array_size binary dereferenced indexed assignment called called_through
    constant_in suffix_of typed types_of greatest_of characters_of character_value row_of extent_of assigned
    literal_step common_type size_of next_character balanced_type is_signed promoted rank size_of_words cast stepped
    unary comma combined conditional member_offsets structure_of union_of constant_word judged unary_value
    binary_value fit
marks = refl
