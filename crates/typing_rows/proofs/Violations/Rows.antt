-- All rules of typing that sources violate, each with its line, in the order in which they are judged.
-- gcc 12.2.0 (-std=c99 -pedantic-errors -fsyntax-only) has errors on just these lines in the texts of all rows
-- but of these: do_before_its_body, labels_without_a_value, not_declared_by_a_violation, end,
-- storage_of_a_later_declarator, storage_and_size, storage_of_a_parameter, storage_of_a_member.
use Rattle.std.proofs.Common.{◌≡◌, [], ◌∷◌, Some, None, refl}
use Rattle.std.specs.Prelude.{codes}
use Rattle.c_lexer.specs.declared.keyword.Keyword.TheVariants as keyword
use Rattle.c_lexer.specs.declared.punctuator.Punctuator.TheVariants as sign
use Rattle.c_syntax.specs.Statements as s
use Rattle.c_syntax.specs.Tree as t
use Rattle.c_faults.specs.declared.fault.Rule.TheVariants as rule
use Rattle.obj_memory.specs.Integers.{balanced_type, common_type, fit, is_signed, mixed_type, promoted, rank, size_of}
use Rattle.obj_memory.specs.Integers.{unsigned_of}
use Rattle.obj_memory.specs.Operators.{binary_value, shift_amount, unary_value}
use Rattle.c_lexer.specs.Constants.{constant_in, constant_of, greatest_of, suffix_of, typed, types_of}
use Rattle.c_lexer.specs.Literals.{bytes_of_literal, character_value, characters_of, escaped, literal_step}
use Rattle.c_lexer.specs.Literals.{next_character}
use Rattle.c_tree.specs.Extents.{extent_of}
use Rattle.c_tree.specs.Layout.{array_size, member_offsets, structure_of, union_of}
use Rattle.c_const.specs.Initializers.{first_not_constant}
use Rattle.c_const.specs.Integers.{constant_word}
use Rattle.c_rules.specs.Binary.{binary}
use Rattle.c_rules.specs.Conversions.{assigned, cast}
use Rattle.c_rules.specs.Rows.{row_of}
use Rattle.c_rules.specs.Unary.{comma, combined, unary}
use Rattle.c_place_rules.specs.Places.{dereferenced, indexed, size_of as size_of_words}
use Rattle.c_assignment_rules.specs.Assignments.{assignment, compound, stepped}
use Rattle.c_condition_rules.specs.Conditions.{condition, conditional, switch_value}
use Rattle.c_call_rules.specs.Calls.{called, called_through}
use Rattle.c_tree.specs.Routines.{routine_words}
use Rattle.c_scope.specs.Composite.{composite}
use Rattle.c_scope.specs.Declaring.{judged}
use Rattle.c_scope.specs.Start.{start}
use Rattle.c_current_object.specs.CurrentObject.{reached, reached_by, reached_in}
use Rattle.c_current_object.specs.Subobjects.{element_number, member_number, number_behind, part}
use Rattle.c_initializer_rules.specs.Initializing.{closed, opened, with_literal, with_value}
use Rattle.c_initializer_rules.specs.Placed.{without}
use Rattle.typing_rows.proofs.Units.Sources.{at, declaration, declarators, init_declarator, spelled, word}
use Rattle.typing_rows.proofs.Violations.Sources.{source}

-- int x=
-- y;
-- int z=w;int main(void){return 0;}
declarations :
    (source ((s.declaration (declaration (t.specifiers (word keyword.Int 1) t.no_specifiers) (Some (declarators
    (init_declarator (t.named (spelled (codes "x") 1)) (Some (
      (at 1),
      (t.value (t.identifier (spelled (codes "y")
          2))),
    ))) [])) (at 2))) ∷ (s.declaration (declaration (t.specifiers (word keyword.Int 3) t.no_specifiers) (Some
    (declarators (init_declarator (t.named (spelled (codes "z") 3)) (Some (
      (at 3),
      (t.value (t.identifier (spelled
          (codes "w") 3))),
    ))) [])) (at 3))) ∷ (s.definition (t.specifiers (word keyword.Int 3) t.no_specifiers) (t.function
    (t.named (spelled (codes "main") 3)) (at 3) (t.void_parameters (at 3)) (at 3)) (s.block (at 3) (s.items (s.inner
    (s.return (at 3) (Some (t.integer (spelled (codes "0") 3))) (at 3))) s.no_items) (at 3))) ∷ []) 3)
    ≡ (rule.Undeclared, 2) ∷ (rule.Undeclared, 3) ∷ []
unfolding balanced_type common_type fit is_signed mixed_type promoted rank size_of unsigned_of binary_value
    shift_amount unary_value constant_in constant_of greatest_of suffix_of typed types_of bytes_of_literal
    character_value characters_of escaped literal_step next_character extent_of array_size member_offsets
    structure_of union_of constant_word binary assigned cast row_of comma combined unary dereferenced indexed
    size_of_words assignment compound stepped condition conditional switch_value called called_through routine_words
    composite judged start reached reached_by reached_in element_number member_number number_behind part closed
    opened with_literal with_value without first_not_constant
declarations = refl

-- int main(void){return a+
-- b;}
operands :
    (source ((s.definition (t.specifiers (word keyword.Int 1) t.no_specifiers) (t.function (t.named (spelled (codes
    "main") 1)) (at 1) (t.void_parameters (at 1)) (at 1)) (s.block (at 1) (s.items (s.inner (s.return (at 1) (Some
    (t.binary (t.identifier (spelled (codes "a") 1)) sign.Plus (at 1) (t.identifier (spelled (codes "b") 2)))) (at
    2))) s.no_items) (at 2))) ∷ []) 2)
    ≡ (rule.Undeclared, 1) ∷ (rule.Undeclared, 2) ∷ []
unfolding balanced_type common_type fit is_signed mixed_type promoted rank size_of unsigned_of binary_value
    shift_amount unary_value constant_in constant_of greatest_of suffix_of typed types_of bytes_of_literal
    character_value characters_of escaped literal_step next_character extent_of array_size member_offsets
    structure_of union_of constant_word binary assigned cast row_of comma combined unary dereferenced indexed
    size_of_words assignment compound stepped condition conditional switch_value called called_through routine_words
    composite judged start reached reached_by reached_in element_number member_number number_behind part closed
    opened with_literal with_value without first_not_constant
operands = refl

-- int main(void){int*p=0;return p*
-- 2+
-- q;}
operator_before_another_operand :
    (source ((s.definition (t.specifiers (word keyword.Int 1) t.no_specifiers) (t.function (t.named (spelled (codes
    "main") 1)) (at 1) (t.void_parameters (at 1)) (at 1)) (s.block (at 1) (s.items (s.local (declaration (t.specifiers
    (word keyword.Int 1) t.no_specifiers) (Some (declarators (init_declarator (t.pointer (at 1) [] (t.named (spelled
    (codes "p") 1))) (Some ((at 1), (t.value (t.integer (spelled (codes "0") 1)))))) [])) (at 1))) (s.items (s.inner
    (s.return (at 1) (Some (t.binary (t.binary (t.identifier (spelled (codes "p") 1)) sign.Star (at 1) (t.integer
    (spelled (codes "2") 2))) sign.Plus (at 2) (t.identifier (spelled (codes "q") 3)))) (at 3))) s.no_items)) (at 3)))
    ∷ []) 3)
    ≡ (rule.Operands, 1) ∷ (rule.Undeclared, 3) ∷ []
unfolding balanced_type common_type fit is_signed mixed_type promoted rank size_of unsigned_of binary_value
    shift_amount unary_value constant_in constant_of greatest_of suffix_of typed types_of bytes_of_literal
    character_value characters_of escaped literal_step next_character extent_of array_size member_offsets
    structure_of union_of constant_word binary assigned cast row_of comma combined unary dereferenced indexed
    size_of_words assignment compound stepped condition conditional switch_value called called_through routine_words
    composite judged start reached reached_by reached_in element_number member_number number_behind part closed
    opened with_literal with_value without first_not_constant
operator_before_another_operand = refl

-- int main(void){return f(
-- a,
-- b);}
arguments_of_what_is_undeclared :
    (source ((s.definition (t.specifiers (word keyword.Int 1) t.no_specifiers) (t.function (t.named (spelled (codes
    "main") 1)) (at 1) (t.void_parameters (at 1)) (at 1)) (s.block (at 1) (s.items (s.inner (s.return (at 1) (Some
    (t.call (t.identifier (spelled (codes "f") 1)) (at 1) (t.arguments (t.identifier (spelled (codes "a") 2))
    (t.more_arguments (at 2) (t.identifier (spelled (codes "b") 3)) t.end_of_arguments)) (at 3))) (at 3))) s.no_items)
    (at 3))) ∷ []) 3)
    ≡ (rule.Undeclared, 1) ∷ (rule.Undeclared, 2) ∷ (rule.Undeclared, 3) ∷ []
unfolding balanced_type common_type fit is_signed mixed_type promoted rank size_of unsigned_of binary_value
    shift_amount unary_value constant_in constant_of greatest_of suffix_of typed types_of bytes_of_literal
    character_value characters_of escaped literal_step next_character extent_of array_size member_offsets
    structure_of union_of constant_word binary assigned cast row_of comma combined unary dereferenced indexed
    size_of_words assignment compound stepped condition conditional switch_value called called_through routine_words
    composite judged start reached reached_by reached_in element_number member_number number_behind part closed
    opened with_literal with_value without first_not_constant
arguments_of_what_is_undeclared = refl

-- int f(int*p,int n){return*p+n;}int main(void){return
-- f(1,1)+
-- f(a,
-- b);}
arguments :
    (source ((s.definition (t.specifiers (word keyword.Int 1) t.no_specifiers) (t.function (t.named (spelled (codes
    "f") 1)) (at 1) (t.parameters (t.typed (t.specifiers (word keyword.Int 1) t.no_specifiers) (t.pointer (at 1) []
    (t.named (spelled (codes "p") 1)))) (t.more_parameters (at 1) (t.typed (t.specifiers (word keyword.Int 1)
    t.no_specifiers) (t.named (spelled (codes "n") 1))) t.end_of_parameters)) (at 1)) (s.block (at 1) (s.items
    (s.inner (s.return (at 1) (Some (t.binary (t.unary sign.Star (at 1) (t.identifier (spelled (codes "p") 1)))
    sign.Plus (at 1) (t.identifier (spelled (codes "n") 1)))) (at 1))) s.no_items) (at 1))) ∷ (s.definition
    (t.specifiers (word keyword.Int 1) t.no_specifiers) (t.function (t.named (spelled (codes "main") 1)) (at 1)
    (t.void_parameters (at 1)) (at 1)) (s.block (at 1) (s.items (s.inner (s.return (at 1) (Some (t.binary (t.call
    (t.identifier (spelled (codes "f") 2)) (at 2) (t.arguments (t.integer (spelled (codes "1") 2)) (t.more_arguments
    (at 2) (t.integer (spelled (codes "1") 2)) t.end_of_arguments)) (at 2)) sign.Plus (at 2) (t.call (t.identifier
    (spelled (codes "f") 3)) (at 3) (t.arguments (t.identifier (spelled (codes "a") 3)) (t.more_arguments (at 3)
    (t.identifier (spelled (codes "b") 4)) t.end_of_arguments)) (at 4)))) (at 4))) s.no_items) (at 4))) ∷ []) 4)
    ≡ (rule.NoConversion, 2) ∷ (rule.Undeclared, 3) ∷ (rule.Undeclared, 4) ∷ []
unfolding balanced_type common_type fit is_signed mixed_type promoted rank size_of unsigned_of binary_value
    shift_amount unary_value constant_in constant_of greatest_of suffix_of typed types_of bytes_of_literal
    character_value characters_of escaped literal_step next_character extent_of array_size member_offsets
    structure_of union_of constant_word binary assigned cast row_of comma combined unary dereferenced indexed
    size_of_words assignment compound stepped condition conditional switch_value called called_through routine_words
    composite judged start reached reached_by reached_in element_number member_number number_behind part closed
    opened with_literal with_value without first_not_constant
arguments = refl

-- int main(void){
-- x;
-- if(y)z;
-- return 0;}
statements :
    (source ((s.definition (t.specifiers (word keyword.Int 1) t.no_specifiers) (t.function (t.named (spelled (codes
    "main") 1)) (at 1) (t.void_parameters (at 1)) (at 1)) (s.block (at 1) (s.items (s.inner (s.expression (Some
    (t.identifier (spelled (codes "x") 2))) (at 2))) (s.items (s.inner (s.if_then (at 3) (at 3) (t.identifier (spelled
    (codes "y") 3)) (at 3) (s.expression (Some (t.identifier (spelled (codes "z") 3))) (at 3)))) (s.items (s.inner
    (s.return (at 4) (Some (t.integer (spelled (codes "0") 4))) (at 4))) s.no_items))) (at 4))) ∷ []) 4)
    ≡ (rule.Undeclared, 2) ∷ (rule.Undeclared, 3) ∷ (rule.Undeclared, 3) ∷ []
unfolding balanced_type common_type fit is_signed mixed_type promoted rank size_of unsigned_of binary_value
    shift_amount unary_value constant_in constant_of greatest_of suffix_of typed types_of bytes_of_literal
    character_value characters_of escaped literal_step next_character extent_of array_size member_offsets
    structure_of union_of constant_word binary assigned cast row_of comma combined unary dereferenced indexed
    size_of_words assignment compound stepped condition conditional switch_value called called_through routine_words
    composite judged start reached reached_by reached_in element_number member_number number_behind part closed
    opened with_literal with_value without first_not_constant
statements = refl

-- struct S{int a;}s;int main(void){
-- do
-- y=1;while(
-- s);return 0;}
do_before_its_body :
    (source ((s.declaration (declaration (t.specifiers (t.structure_body keyword.Struct (at 1) (Some (spelled (codes
    "S") 1)) (at 1) (t.members (t.member_declaration (t.specifiers (word keyword.Int 1) t.no_specifiers) (t.named
    (spelled (codes "a") 1)) t.end_of_declarators (at 1)) t.no_members) (at 1)) t.no_specifiers) (Some (declarators
    (init_declarator (t.named (spelled (codes "s") 1)) None) [])) (at 1))) ∷ (s.definition (t.specifiers (word
    keyword.Int 1) t.no_specifiers) (t.function (t.named (spelled (codes "main") 1)) (at 1) (t.void_parameters (at 1))
    (at 1)) (s.block (at 1) (s.items (s.inner (s.do_while (at 2) (s.expression (Some (t.assignment (t.identifier
    (spelled (codes "y") 3)) sign.Assign (at 3) (t.integer (spelled (codes "1") 3)))) (at 3)) (at 3) (at 3)
    (t.identifier (spelled (codes "s") 4)) (at 4) (at 4))) (s.items (s.inner (s.return (at 4) (Some (t.integer
    (spelled (codes "0") 4))) (at 4))) s.no_items)) (at 4))) ∷ []) 4)
    ≡ (rule.NoCondition, 2) ∷ (rule.Undeclared, 3) ∷ []
unfolding balanced_type common_type fit is_signed mixed_type promoted rank size_of unsigned_of binary_value
    shift_amount unary_value constant_in constant_of greatest_of suffix_of typed types_of bytes_of_literal
    character_value characters_of escaped literal_step next_character extent_of array_size member_offsets
    structure_of union_of constant_word binary assigned cast row_of comma combined unary dereferenced indexed
    size_of_words assignment compound stepped condition conditional switch_value called called_through routine_words
    composite judged start reached reached_by reached_in element_number member_number number_behind part closed
    opened with_literal with_value without first_not_constant
do_before_its_body = refl

-- int main(void){do
-- y=1;while(
-- z);return 0;}
body_before_its_condition :
    (source ((s.definition (t.specifiers (word keyword.Int 1) t.no_specifiers) (t.function (t.named (spelled (codes
    "main") 1)) (at 1) (t.void_parameters (at 1)) (at 1)) (s.block (at 1) (s.items (s.inner (s.do_while (at 1)
    (s.expression (Some (t.assignment (t.identifier (spelled (codes "y") 2)) sign.Assign (at 2) (t.integer (spelled
    (codes "1") 2)))) (at 2)) (at 2) (at 2) (t.identifier (spelled (codes "z") 3)) (at 3) (at 3))) (s.items (s.inner
    (s.return (at 3) (Some (t.integer (spelled (codes "0") 3))) (at 3))) s.no_items)) (at 3))) ∷ []) 3)
    ≡ (rule.Undeclared, 2) ∷ (rule.Undeclared, 3) ∷ []
unfolding balanced_type common_type fit is_signed mixed_type promoted rank size_of unsigned_of binary_value
    shift_amount unary_value constant_in constant_of greatest_of suffix_of typed types_of bytes_of_literal
    character_value characters_of escaped literal_step next_character extent_of array_size member_offsets
    structure_of union_of constant_word binary assigned cast row_of comma combined unary dereferenced indexed
    size_of_words assignment compound stepped condition conditional switch_value called called_through routine_words
    composite judged start reached reached_by reached_in element_number member_number number_behind part closed
    opened with_literal with_value without first_not_constant
body_before_its_condition = refl

-- int main(void){for(int i=
-- a;
-- b;c)
-- d;return 0;}
head_and_body_of_a_for :
    (source ((s.definition (t.specifiers (word keyword.Int 1) t.no_specifiers) (t.function (t.named (spelled (codes
    "main") 1)) (at 1) (t.void_parameters (at 1)) (at 1)) (s.block (at 1) (s.items (s.inner (s.for (at 1) (at 1)
    (s.declares (declaration (t.specifiers (word keyword.Int 1) t.no_specifiers) (Some (declarators (init_declarator
    (t.named (spelled (codes "i") 1)) (Some ((at 1), (t.value (t.identifier (spelled (codes "a") 2)))))) [])) (at 2)))
    (Some (t.identifier (spelled (codes "b") 3))) (at 3) (Some (t.identifier (spelled (codes "c") 3))) (at 3)
    (s.expression (Some (t.identifier (spelled (codes "d") 4))) (at 4)))) (s.items (s.inner (s.return (at 4) (Some
    (t.integer (spelled (codes "0") 4))) (at 4))) s.no_items)) (at 4))) ∷ []) 4)
    ≡ (rule.Undeclared, 2) ∷ (rule.Undeclared, 3) ∷ (rule.Undeclared, 3) ∷ (rule.Undeclared, 4) ∷ []
unfolding balanced_type common_type fit is_signed mixed_type promoted rank size_of unsigned_of binary_value
    shift_amount unary_value constant_in constant_of greatest_of suffix_of typed types_of bytes_of_literal
    character_value characters_of escaped literal_step next_character extent_of array_size member_offsets
    structure_of union_of constant_word binary assigned cast row_of comma combined unary dereferenced indexed
    size_of_words assignment compound stepped condition conditional switch_value called called_through routine_words
    composite judged start reached reached_by reached_in element_number member_number number_behind part closed
    opened with_literal with_value without first_not_constant
head_and_body_of_a_for = refl

-- int main(void){int x=0;switch(x){case 1:y;
-- case 1:z;}return 0;}
labels :
    (source ((s.definition (t.specifiers (word keyword.Int 1) t.no_specifiers) (t.function (t.named (spelled (codes
    "main") 1)) (at 1) (t.void_parameters (at 1)) (at 1)) (s.block (at 1) (s.items (s.local (declaration (t.specifiers
    (word keyword.Int 1) t.no_specifiers) (Some (declarators (init_declarator (t.named (spelled (codes "x") 1)) (Some
    ((at 1), (t.value (t.integer (spelled (codes "0") 1)))))) [])) (at 1))) (s.items (s.inner (s.switch (at 1) (at 1)
    (t.identifier (spelled (codes "x") 1)) (at 1) (s.block (at 1) (s.items (s.inner (s.case (at 1) (t.integer (spelled
    (codes "1") 1)) (at 1) (s.expression (Some (t.identifier (spelled (codes "y") 1))) (at 1)))) (s.items (s.inner
    (s.case (at 2) (t.integer (spelled (codes "1") 2)) (at 2) (s.expression (Some (t.identifier (spelled (codes "z")
    2))) (at 2)))) s.no_items)) (at 2)))) (s.items (s.inner (s.return (at 2) (Some (t.integer (spelled (codes "0")
    2))) (at 2))) s.no_items))) (at 2))) ∷ []) 2)
    ≡ (rule.Undeclared, 1) ∷ (rule.MisplacedLabel, 2) ∷ (rule.Undeclared, 2) ∷ []
unfolding balanced_type common_type fit is_signed mixed_type promoted rank size_of unsigned_of binary_value
    shift_amount unary_value constant_in constant_of greatest_of suffix_of typed types_of bytes_of_literal
    character_value characters_of escaped literal_step next_character extent_of array_size member_offsets
    structure_of union_of constant_word binary assigned cast row_of comma combined unary dereferenced indexed
    size_of_words assignment compound stepped condition conditional switch_value called called_through routine_words
    composite judged start reached reached_by reached_in element_number member_number number_behind part closed
    opened with_literal with_value without first_not_constant
labels = refl

-- int main(void){switch(
-- x){case 0:;case 4294967296:;
-- case 0:;}return 0;}
labels_without_a_value :
    (source ((s.definition (t.specifiers (word keyword.Int 1) t.no_specifiers) (t.function (t.named (spelled (codes
    "main") 1)) (at 1) (t.void_parameters (at 1)) (at 1)) (s.block (at 1) (s.items (s.inner (s.switch (at 1) (at 1)
    (t.identifier (spelled (codes "x") 2)) (at 2) (s.block (at 2) (s.items (s.inner (s.case (at 2) (t.integer (spelled
    (codes "0") 2)) (at 2) (s.expression None (at 2)))) (s.items (s.inner (s.case (at 2) (t.integer (spelled (codes
    "4294967296") 2)) (at 2) (s.expression None (at 2)))) (s.items (s.inner (s.case (at 3) (t.integer (spelled (codes
    "0") 3)) (at 3) (s.expression None (at 3)))) s.no_items))) (at 3)))) (s.items (s.inner (s.return (at 3) (Some
    (t.integer (spelled (codes "0") 3))) (at 3))) s.no_items)) (at 3))) ∷ []) 3)
    ≡ (rule.Undeclared, 2) ∷ (rule.MisplacedLabel, 3) ∷ []
unfolding balanced_type common_type fit is_signed mixed_type promoted rank size_of unsigned_of binary_value
    shift_amount unary_value constant_in constant_of greatest_of suffix_of typed types_of bytes_of_literal
    character_value characters_of escaped literal_step next_character extent_of array_size member_offsets
    structure_of union_of constant_word binary assigned cast row_of comma combined unary dereferenced indexed
    size_of_words assignment compound stepped condition conditional switch_value called called_through routine_words
    composite judged start reached reached_by reached_in element_number member_number number_behind part closed
    opened with_literal with_value without first_not_constant
labels_without_a_value = refl

-- struct{int a;int
-- a;void
-- b;int c[
-- n],
-- a;}s;int main(void){return 0;}
members :
    (source ((s.declaration (declaration (t.specifiers (t.structure_body keyword.Struct (at 1) None (at 1) (t.members
    (t.member_declaration (t.specifiers (word keyword.Int 1) t.no_specifiers) (t.named (spelled (codes "a") 1))
    t.end_of_declarators (at 1)) (t.members (t.member_declaration (t.specifiers (word keyword.Int 1) t.no_specifiers)
    (t.named (spelled (codes "a") 2)) t.end_of_declarators (at 2)) (t.members (t.member_declaration (t.specifiers
    (word keyword.Void 2) t.no_specifiers) (t.named (spelled (codes "b") 3)) t.end_of_declarators (at 3)) (t.members
    (t.member_declaration (t.specifiers (word keyword.Int 3) t.no_specifiers) (t.array (t.named (spelled (codes "c")
    3)) (at 3) (t.identifier (spelled (codes "n") 4)) (at 4)) (t.more_declarators (at 4) (t.named (spelled (codes "a")
    5)) t.end_of_declarators) (at 5)) t.no_members)))) (at 5)) t.no_specifiers) (Some (declarators (init_declarator
    (t.named (spelled (codes "s") 5)) None) [])) (at 5))) ∷ (s.definition (t.specifiers (word keyword.Int 5)
    t.no_specifiers) (t.function (t.named (spelled (codes "main") 5)) (at 5) (t.void_parameters (at 5)) (at 5))
    (s.block (at 5) (s.items (s.inner (s.return (at 5) (Some (t.integer (spelled (codes "0") 5))) (at 5))) s.no_items)
    (at 5))) ∷ []) 5)
    ≡ (rule.RepeatedMember, 2) ∷ (rule.Incomplete, 3) ∷ (rule.Undeclared, 4) ∷ (rule.RepeatedMember, 5) ∷ []
unfolding balanced_type common_type fit is_signed mixed_type promoted rank size_of unsigned_of binary_value
    shift_amount unary_value constant_in constant_of greatest_of suffix_of typed types_of bytes_of_literal
    character_value characters_of escaped literal_step next_character extent_of array_size member_offsets
    structure_of union_of constant_word binary assigned cast row_of comma combined unary dereferenced indexed
    size_of_words assignment compound stepped condition conditional switch_value called called_through routine_words
    composite judged start reached reached_by reached_in element_number member_number number_behind part closed
    opened with_literal with_value without first_not_constant
members = refl

-- enum{A=
-- x,B,
-- B,C=B};int main(void){return 0;}
enumerators :
    (source ((s.declaration (declaration (t.specifiers (t.enumeration_body (at 1) None (at 1) (t.valued (spelled
    (codes "A") 1) (at 1) (t.identifier (spelled (codes "x") 2))) (t.more_enumerators (at 2) (t.plain (spelled (codes
    "B") 2)) (t.more_enumerators (at 2) (t.plain (spelled (codes "B") 3)) (t.more_enumerators (at 3) (t.valued
    (spelled (codes "C") 3) (at 3) (t.identifier (spelled (codes "B") 3))) t.end_of_enumerators))) None (at 3))
    t.no_specifiers) None (at 3))) ∷ (s.definition (t.specifiers (word keyword.Int 3) t.no_specifiers) (t.function
    (t.named (spelled (codes "main") 3)) (at 3) (t.void_parameters (at 3)) (at 3)) (s.block (at 3) (s.items (s.inner
    (s.return (at 3) (Some (t.integer (spelled (codes "0") 3))) (at 3))) s.no_items) (at 3))) ∷ []) 3)
    ≡ (rule.Undeclared, 2) ∷ (rule.Redeclared, 3) ∷ []
unfolding balanced_type common_type fit is_signed mixed_type promoted rank size_of unsigned_of binary_value
    shift_amount unary_value constant_in constant_of greatest_of suffix_of typed types_of bytes_of_literal
    character_value characters_of escaped literal_step next_character extent_of array_size member_offsets
    structure_of union_of constant_word binary assigned cast row_of comma combined unary dereferenced indexed
    size_of_words assignment compound stepped condition conditional switch_value called called_through routine_words
    composite judged start reached reached_by reached_in element_number member_number number_behind part closed
    opened with_literal with_value without first_not_constant
enumerators = refl

-- int f(int x,
-- int x,int y[
-- z]);int main(void){return 0;}
parameters :
    (source ((s.declaration (declaration (t.specifiers (word keyword.Int 1) t.no_specifiers) (Some (declarators
    (init_declarator (t.function (t.named (spelled (codes "f") 1)) (at 1) (t.parameters (t.typed (t.specifiers (word
    keyword.Int 1) t.no_specifiers) (t.named (spelled (codes "x") 1))) (t.more_parameters (at 1) (t.typed
    (t.specifiers (word keyword.Int 2) t.no_specifiers) (t.named (spelled (codes "x") 2))) (t.more_parameters (at 2)
    (t.typed (t.specifiers (word keyword.Int 2) t.no_specifiers) (t.array (t.named (spelled (codes "y") 2)) (at 2)
    (t.identifier (spelled (codes "z") 3)) (at 3))) t.end_of_parameters))) (at 3)) None) [])) (at 3))) ∷ (s.definition
    (t.specifiers (word keyword.Int 3) t.no_specifiers) (t.function (t.named (spelled (codes "main") 3)) (at 3)
    (t.void_parameters (at 3)) (at 3)) (s.block (at 3) (s.items (s.inner (s.return (at 3) (Some (t.integer (spelled
    (codes "0") 3))) (at 3))) s.no_items) (at 3))) ∷ []) 3)
    ≡ (rule.Redeclared, 2) ∷ (rule.Undeclared, 3) ∷ []
unfolding balanced_type common_type fit is_signed mixed_type promoted rank size_of unsigned_of binary_value
    shift_amount unary_value constant_in constant_of greatest_of suffix_of typed types_of bytes_of_literal
    character_value characters_of escaped literal_step next_character extent_of array_size member_offsets
    structure_of union_of constant_word binary assigned cast row_of comma combined unary dereferenced indexed
    size_of_words assignment compound stepped condition conditional switch_value called called_through routine_words
    composite judged start reached reached_by reached_in element_number member_number number_behind part closed
    opened with_literal with_value without first_not_constant
parameters = refl

-- int a[2]={
-- y,1,
-- z};int main(void){return 0;}
items :
    (source ((s.declaration (declaration (t.specifiers (word keyword.Int 1) t.no_specifiers) (Some (declarators
    (init_declarator (t.array (t.named (spelled (codes "a") 1)) (at 1) (t.integer (spelled (codes "2") 1)) (at 1))
    (Some (
      (at 1),
      (t.braced (at 1) (t.item None (t.value (t.identifier (spelled (codes "y") 2)))) (t.more_items (at
          2) (t.item None (t.value (t.integer (spelled (codes "1") 2)))) (t.more_items (at 2) (t.item None (t.value
          (t.identifier (spelled (codes "z") 3)))) t.end_of_items)) None (at 3)),
    ))) [])) (at 3))) ∷ (s.definition
    (t.specifiers (word keyword.Int 3) t.no_specifiers) (t.function (t.named (spelled (codes "main") 3)) (at 3)
    (t.void_parameters (at 3)) (at 3)) (s.block (at 3) (s.items (s.inner (s.return (at 3) (Some (t.integer (spelled
    (codes "0") 3))) (at 3))) s.no_items) (at 3))) ∷ []) 3)
    ≡ (rule.Undeclared, 2) ∷ (rule.Undeclared, 3) ∷ []
unfolding balanced_type common_type fit is_signed mixed_type promoted rank size_of unsigned_of binary_value
    shift_amount unary_value constant_in constant_of greatest_of suffix_of typed types_of bytes_of_literal
    character_value characters_of escaped literal_step next_character extent_of array_size member_offsets
    structure_of union_of constant_word binary assigned cast row_of comma combined unary dereferenced indexed
    size_of_words assignment compound stepped condition conditional switch_value called called_through routine_words
    composite judged start reached reached_by reached_in element_number member_number number_behind part closed
    opened with_literal with_value without first_not_constant
items = refl

-- int x;char
-- x=
-- y;int main(void){return 0;}
declarator_and_initializer :
    (source ((s.declaration (declaration (t.specifiers (word keyword.Int 1) t.no_specifiers) (Some (declarators
    (init_declarator (t.named (spelled (codes "x") 1)) None) [])) (at 1))) ∷ (s.declaration (declaration (t.specifiers
    (word keyword.Char 1) t.no_specifiers) (Some (declarators (init_declarator (t.named (spelled (codes "x") 2)) (Some
    ((at 2), (t.value (t.identifier (spelled (codes "y") 3)))))) [])) (at 3))) ∷ (s.definition (t.specifiers (word
    keyword.Int 3) t.no_specifiers) (t.function (t.named (spelled (codes "main") 3)) (at 3) (t.void_parameters (at 3))
    (at 3)) (s.block (at 3) (s.items (s.inner (s.return (at 3) (Some (t.integer (spelled (codes "0") 3))) (at 3)))
    s.no_items) (at 3))) ∷ []) 3)
    ≡ (rule.Redeclared, 2) ∷ (rule.Undeclared, 3) ∷ []
unfolding balanced_type common_type fit is_signed mixed_type promoted rank size_of unsigned_of binary_value
    shift_amount unary_value constant_in constant_of greatest_of suffix_of typed types_of bytes_of_literal
    character_value characters_of escaped literal_step next_character extent_of array_size member_offsets
    structure_of union_of constant_word binary assigned cast row_of comma combined unary dereferenced indexed
    size_of_words assignment compound stepped condition conditional switch_value called called_through routine_words
    composite judged start reached reached_by reached_in element_number member_number number_behind part closed
    opened with_literal with_value without first_not_constant
declarator_and_initializer = refl

-- int f(void){return 0;}
-- int f(void){return
-- y;}int main(void){return 0;}
declarator_and_block :
    (source ((s.definition (t.specifiers (word keyword.Int 1) t.no_specifiers) (t.function (t.named (spelled (codes
    "f") 1)) (at 1) (t.void_parameters (at 1)) (at 1)) (s.block (at 1) (s.items (s.inner (s.return (at 1) (Some
    (t.integer (spelled (codes "0") 1))) (at 1))) s.no_items) (at 1))) ∷ (s.definition (t.specifiers (word keyword.Int
    2) t.no_specifiers) (t.function (t.named (spelled (codes "f") 2)) (at 2) (t.void_parameters (at 2)) (at 2))
    (s.block (at 2) (s.items (s.inner (s.return (at 2) (Some (t.identifier (spelled (codes "y") 3))) (at 3)))
    s.no_items) (at 3))) ∷ (s.definition (t.specifiers (word keyword.Int 3) t.no_specifiers) (t.function (t.named
    (spelled (codes "main") 3)) (at 3) (t.void_parameters (at 3)) (at 3)) (s.block (at 3) (s.items (s.inner (s.return
    (at 3) (Some (t.integer (spelled (codes "0") 3))) (at 3))) s.no_items) (at 3))) ∷ []) 3)
    ≡ (rule.Redeclared, 2) ∷ (rule.Undeclared, 3) ∷ []
unfolding balanced_type common_type fit is_signed mixed_type promoted rank size_of unsigned_of binary_value
    shift_amount unary_value constant_in constant_of greatest_of suffix_of typed types_of bytes_of_literal
    character_value characters_of escaped literal_step next_character extent_of array_size member_offsets
    structure_of union_of constant_word binary assigned cast row_of comma combined unary dereferenced indexed
    size_of_words assignment compound stepped condition conditional switch_value called called_through routine_words
    composite judged start reached reached_by reached_in element_number member_number number_behind part closed
    opened with_literal with_value without first_not_constant
declarator_and_block = refl

-- void
-- x;int y=
-- x;int main(void){return 0;}
not_declared_by_a_violation :
    (source ((s.declaration (declaration (t.specifiers (word keyword.Void 1) t.no_specifiers) (Some (declarators
    (init_declarator (t.named (spelled (codes "x") 2)) None) [])) (at 2))) ∷ (s.declaration (declaration (t.specifiers
    (word keyword.Int 2) t.no_specifiers) (Some (declarators (init_declarator (t.named (spelled (codes "y") 2)) (Some
    ((at 2), (t.value (t.identifier (spelled (codes "x") 3)))))) [])) (at 3))) ∷ (s.definition (t.specifiers (word
    keyword.Int 3) t.no_specifiers) (t.function (t.named (spelled (codes "main") 3)) (at 3) (t.void_parameters (at 3))
    (at 3)) (s.block (at 3) (s.items (s.inner (s.return (at 3) (Some (t.integer (spelled (codes "0") 3))) (at 3)))
    s.no_items) (at 3))) ∷ []) 3)
    ≡ (rule.Incomplete, 2) ∷ (rule.Undeclared, 3) ∷ []
unfolding balanced_type common_type fit is_signed mixed_type promoted rank size_of unsigned_of binary_value
    shift_amount unary_value constant_in constant_of greatest_of suffix_of typed types_of bytes_of_literal
    character_value characters_of escaped literal_step next_character extent_of array_size member_offsets
    structure_of union_of constant_word binary assigned cast row_of comma combined unary dereferenced indexed
    size_of_words assignment compound stepped condition conditional switch_value called called_through routine_words
    composite judged start reached reached_by reached_in element_number member_number number_behind part closed
    opened with_literal with_value without first_not_constant
not_declared_by_a_violation = refl

-- int f(void);int g(void){return
-- f();}
--
end :
    (source ((s.declaration (declaration (t.specifiers (word keyword.Int 1) t.no_specifiers) (Some (declarators
    (init_declarator (t.function (t.named (spelled (codes "f") 1)) (at 1) (t.void_parameters (at 1)) (at 1)) None)
    [])) (at 1))) ∷ (s.definition (t.specifiers (word keyword.Int 1) t.no_specifiers) (t.function (t.named (spelled
    (codes "g") 1)) (at 1) (t.void_parameters (at 1)) (at 1)) (s.block (at 1) (s.items (s.inner (s.return (at 1) (Some
    (t.call (t.identifier (spelled (codes "f") 2)) (at 2) t.no_arguments (at 2))) (at 2))) s.no_items) (at 2))) ∷ [])
    3)
    ≡ (rule.NoMain, 3) ∷ (rule.UndefinedFunction, 2) ∷ []
unfolding balanced_type common_type fit is_signed mixed_type promoted rank size_of unsigned_of binary_value
    shift_amount unary_value constant_in constant_of greatest_of suffix_of typed types_of bytes_of_literal
    character_value characters_of escaped literal_step next_character extent_of array_size member_offsets
    structure_of union_of constant_word binary assigned cast row_of comma combined unary dereferenced indexed
    size_of_words assignment compound stepped condition conditional switch_value called called_through routine_words
    composite judged start reached reached_by reached_in element_number member_number number_behind part closed
    opened with_literal with_value without first_not_constant
end = refl

-- int main(void){return a?
-- b:
-- c;}
operands_of_a_condition :
    (source ((s.definition (t.specifiers (word keyword.Int 1) t.no_specifiers) (t.function (t.named (spelled (codes
    "main") 1)) (at 1) (t.void_parameters (at 1)) (at 1)) (s.block (at 1) (s.items (s.inner (s.return (at 1) (Some
    (t.conditional (t.identifier (spelled (codes "a") 1)) (at 1) (t.identifier (spelled (codes "b") 2)) (at 2)
    (t.identifier (spelled (codes "c") 3)))) (at 3))) s.no_items) (at 3))) ∷ []) 3)
    ≡ (rule.Undeclared, 1) ∷ (rule.Undeclared, 2) ∷ (rule.Undeclared, 3) ∷ []
unfolding balanced_type common_type fit is_signed mixed_type promoted rank size_of unsigned_of binary_value
    shift_amount unary_value constant_in constant_of greatest_of suffix_of typed types_of bytes_of_literal
    character_value characters_of escaped literal_step next_character extent_of array_size member_offsets
    structure_of union_of constant_word binary assigned cast row_of comma combined unary dereferenced indexed
    size_of_words assignment compound stepped condition conditional switch_value called called_through routine_words
    composite judged start reached reached_by reached_in element_number member_number number_behind part closed
    opened with_literal with_value without first_not_constant
operands_of_a_condition = refl

-- int main(void){return(int(*)[
-- y])
-- x!=0;}
cast_and_its_operand :
    (source ((s.definition (t.specifiers (word keyword.Int 1) t.no_specifiers) (t.function (t.named (spelled (codes
    "main") 1)) (at 1) (t.void_parameters (at 1)) (at 1)) (s.block (at 1) (s.items (s.inner (s.return (at 1) (Some
    (t.binary (t.cast (at 1) (t.typed (t.specifiers (word keyword.Int 1) t.no_specifiers) (t.array (t.grouped (at 1)
    (t.pointer (at 1) [] t.unnamed) (at 1)) (at 1) (t.identifier (spelled (codes "y") 2)) (at 2))) (at 2)
    (t.identifier (spelled (codes "x") 3))) sign.NotEqual (at 3) (t.integer (spelled (codes "0") 3)))) (at 3)))
    s.no_items) (at 3))) ∷ []) 3)
    ≡ (rule.Undeclared, 2) ∷ (rule.Undeclared, 3) ∷ []
unfolding balanced_type common_type fit is_signed mixed_type promoted rank size_of unsigned_of binary_value
    shift_amount unary_value constant_in constant_of greatest_of suffix_of typed types_of bytes_of_literal
    character_value characters_of escaped literal_step next_character extent_of array_size member_offsets
    structure_of union_of constant_word binary assigned cast row_of comma combined unary dereferenced indexed
    size_of_words assignment compound stepped condition conditional switch_value called called_through routine_words
    composite judged start reached reached_by reached_in element_number member_number number_behind part closed
    opened with_literal with_value without first_not_constant
cast_and_its_operand = refl

-- struct{void
-- a;}x[
-- y];int main(void){return 0;}
specifiers_and_declarator :
    (source ((s.declaration (declaration (t.specifiers (t.structure_body keyword.Struct (at 1) None (at 1) (t.members
    (t.member_declaration (t.specifiers (word keyword.Void 1) t.no_specifiers) (t.named (spelled (codes "a") 2))
    t.end_of_declarators (at 2)) t.no_members) (at 2)) t.no_specifiers) (Some (declarators (init_declarator (t.array
    (t.named (spelled (codes "x") 2)) (at 2) (t.identifier (spelled (codes "y") 3)) (at 3)) None) [])) (at 3))) ∷
    (s.definition (t.specifiers (word keyword.Int 3) t.no_specifiers) (t.function (t.named (spelled (codes "main") 3))
    (at 3) (t.void_parameters (at 3)) (at 3)) (s.block (at 3) (s.items (s.inner (s.return (at 3) (Some (t.integer
    (spelled (codes "0") 3))) (at 3))) s.no_items) (at 3))) ∷ []) 3)
    ≡ (rule.Incomplete, 2) ∷ (rule.Undeclared, 3) ∷ []
unfolding balanced_type common_type fit is_signed mixed_type promoted rank size_of unsigned_of binary_value
    shift_amount unary_value constant_in constant_of greatest_of suffix_of typed types_of bytes_of_literal
    character_value characters_of escaped literal_step next_character extent_of array_size member_offsets
    structure_of union_of constant_word binary assigned cast row_of comma combined unary dereferenced indexed
    size_of_words assignment compound stepped condition conditional switch_value called called_through routine_words
    composite judged start reached reached_by reached_in element_number member_number number_behind part closed
    opened with_literal with_value without first_not_constant
specifiers_and_declarator = refl

-- struct S{int a;}s;int main(void){
-- switch(s){
-- case x:;}return 0;}
value_and_labels :
    (source ((s.declaration (declaration (t.specifiers (t.structure_body keyword.Struct (at 1) (Some (spelled (codes
    "S") 1)) (at 1) (t.members (t.member_declaration (t.specifiers (word keyword.Int 1) t.no_specifiers) (t.named
    (spelled (codes "a") 1)) t.end_of_declarators (at 1)) t.no_members) (at 1)) t.no_specifiers) (Some (declarators
    (init_declarator (t.named (spelled (codes "s") 1)) None) [])) (at 1))) ∷ (s.definition (t.specifiers (word
    keyword.Int 1) t.no_specifiers) (t.function (t.named (spelled (codes "main") 1)) (at 1) (t.void_parameters (at 1))
    (at 1)) (s.block (at 1) (s.items (s.inner (s.switch (at 2) (at 2) (t.identifier (spelled (codes "s") 2)) (at 2)
    (s.block (at 2) (s.items (s.inner (s.case (at 3) (t.identifier (spelled (codes "x") 3)) (at 3) (s.expression None
    (at 3)))) s.no_items) (at 3)))) (s.items (s.inner (s.return (at 3) (Some (t.integer (spelled (codes "0") 3))) (at
    3))) s.no_items)) (at 3))) ∷ []) 3)
    ≡ (rule.NoCondition, 2) ∷ (rule.Undeclared, 3) ∷ []
unfolding balanced_type common_type fit is_signed mixed_type promoted rank size_of unsigned_of binary_value
    shift_amount unary_value constant_in constant_of greatest_of suffix_of typed types_of bytes_of_literal
    character_value characters_of escaped literal_step next_character extent_of array_size member_offsets
    structure_of union_of constant_word binary assigned cast row_of comma combined unary dereferenced indexed
    size_of_words assignment compound stepped condition conditional switch_value called called_through routine_words
    composite judged start reached reached_by reached_in element_number member_number number_behind part closed
    opened with_literal with_value without first_not_constant
value_and_labels = refl

-- int f(void){return
-- a;}int g(void){return
-- b;}int main(void){return 0;}
blocks :
    (source ((s.definition (t.specifiers (word keyword.Int 1) t.no_specifiers) (t.function (t.named (spelled (codes
    "f") 1)) (at 1) (t.void_parameters (at 1)) (at 1)) (s.block (at 1) (s.items (s.inner (s.return (at 1) (Some
    (t.identifier (spelled (codes "a") 2))) (at 2))) s.no_items) (at 2))) ∷ (s.definition (t.specifiers (word
    keyword.Int 2) t.no_specifiers) (t.function (t.named (spelled (codes "g") 2)) (at 2) (t.void_parameters (at 2))
    (at 2)) (s.block (at 2) (s.items (s.inner (s.return (at 2) (Some (t.identifier (spelled (codes "b") 3))) (at 3)))
    s.no_items) (at 3))) ∷ (s.definition (t.specifiers (word keyword.Int 3) t.no_specifiers) (t.function (t.named
    (spelled (codes "main") 3)) (at 3) (t.void_parameters (at 3)) (at 3)) (s.block (at 3) (s.items (s.inner (s.return
    (at 3) (Some (t.integer (spelled (codes "0") 3))) (at 3))) s.no_items) (at 3))) ∷ []) 3)
    ≡ (rule.Undeclared, 2) ∷ (rule.Undeclared, 3) ∷ []
unfolding balanced_type common_type fit is_signed mixed_type promoted rank size_of unsigned_of binary_value
    shift_amount unary_value constant_in constant_of greatest_of suffix_of typed types_of bytes_of_literal
    character_value characters_of escaped literal_step next_character extent_of array_size member_offsets
    structure_of union_of constant_word binary assigned cast row_of comma combined unary dereferenced indexed
    size_of_words assignment compound stepped condition conditional switch_value called called_through routine_words
    composite judged start reached reached_by reached_in element_number member_number number_behind part closed
    opened with_literal with_value without first_not_constant
blocks = refl

-- int f(int x[
-- y],int v){return v+
-- z;}int main(void){return 0;}
block_behind_a_faulty_parameter :
    (source ((s.definition (t.specifiers (word keyword.Int 1) t.no_specifiers) (t.function (t.named (spelled (codes
    "f") 1)) (at 1) (t.parameters (t.typed (t.specifiers (word keyword.Int 1) t.no_specifiers) (t.array (t.named
    (spelled (codes "x") 1)) (at 1) (t.identifier (spelled (codes "y") 2)) (at 2))) (t.more_parameters (at 2) (t.typed
    (t.specifiers (word keyword.Int 2) t.no_specifiers) (t.named (spelled (codes "v") 2))) t.end_of_parameters)) (at
    2)) (s.block (at 2) (s.items (s.inner (s.return (at 2) (Some (t.binary (t.identifier (spelled (codes "v") 2))
    sign.Plus (at 2) (t.identifier (spelled (codes "z") 3)))) (at 3))) s.no_items) (at 3))) ∷ (s.definition
    (t.specifiers (word keyword.Int 3) t.no_specifiers) (t.function (t.named (spelled (codes "main") 3)) (at 3)
    (t.void_parameters (at 3)) (at 3)) (s.block (at 3) (s.items (s.inner (s.return (at 3) (Some (t.integer (spelled
    (codes "0") 3))) (at 3))) s.no_items) (at 3))) ∷ []) 3)
    ≡ (rule.Undeclared, 2) ∷ (rule.Undeclared, 3) ∷ []
unfolding balanced_type common_type fit is_signed mixed_type promoted rank size_of unsigned_of binary_value
    shift_amount unary_value constant_in constant_of greatest_of suffix_of typed types_of bytes_of_literal
    character_value characters_of escaped literal_step next_character extent_of array_size member_offsets
    structure_of union_of constant_word binary assigned cast row_of comma combined unary dereferenced indexed
    size_of_words assignment compound stepped condition conditional switch_value called called_through routine_words
    composite judged start reached reached_by reached_in element_number member_number number_behind part closed
    opened with_literal with_value without first_not_constant
block_behind_a_faulty_parameter = refl

-- int f(void){
-- return;}
-- int f(void){
-- return;}void g(void){
-- return 1;}int main(void){return 0;}
results :
    (source ((s.definition (t.specifiers (word keyword.Int 1) t.no_specifiers) (t.function (t.named (spelled (codes
    "f") 1)) (at 1) (t.void_parameters (at 1)) (at 1)) (s.block (at 1) (s.items (s.inner (s.return (at 2) None (at
    2))) s.no_items) (at 2))) ∷ (s.definition (t.specifiers (word keyword.Int 3) t.no_specifiers) (t.function (t.named
    (spelled (codes "f") 3)) (at 3) (t.void_parameters (at 3)) (at 3)) (s.block (at 3) (s.items (s.inner (s.return (at
    4) None (at 4))) s.no_items) (at 4))) ∷ (s.definition (t.specifiers (word keyword.Void 4) t.no_specifiers)
    (t.function (t.named (spelled (codes "g") 4)) (at 4) (t.void_parameters (at 4)) (at 4)) (s.block (at 4) (s.items
    (s.inner (s.return (at 5) (Some (t.integer (spelled (codes "1") 5))) (at 5))) s.no_items) (at 5))) ∷ (s.definition
    (t.specifiers (word keyword.Int 5) t.no_specifiers) (t.function (t.named (spelled (codes "main") 5)) (at 5)
    (t.void_parameters (at 5)) (at 5)) (s.block (at 5) (s.items (s.inner (s.return (at 5) (Some (t.integer (spelled
    (codes "0") 5))) (at 5))) s.no_items) (at 5))) ∷ []) 5)
    ≡ (rule.MistakenReturn, 2) ∷ (rule.Redeclared, 3) ∷ (rule.MistakenReturn, 4) ∷ (rule.MistakenReturn, 5) ∷ []
unfolding balanced_type common_type fit is_signed mixed_type promoted rank size_of unsigned_of binary_value
    shift_amount unary_value constant_in constant_of greatest_of suffix_of typed types_of bytes_of_literal
    character_value characters_of escaped literal_step next_character extent_of array_size member_offsets
    structure_of union_of constant_word binary assigned cast row_of comma combined unary dereferenced indexed
    size_of_words assignment compound stepped condition conditional switch_value called called_through routine_words
    composite judged start reached reached_by reached_in element_number member_number number_behind part closed
    opened with_literal with_value without first_not_constant
results = refl

-- struct S{int a;};
-- struct S{int b[
-- y];};int main(void){return 0;}
tag_and_members :
    (source ((s.declaration (declaration (t.specifiers (t.structure_body keyword.Struct (at 1) (Some (spelled (codes
    "S") 1)) (at 1) (t.members (t.member_declaration (t.specifiers (word keyword.Int 1) t.no_specifiers) (t.named
    (spelled (codes "a") 1)) t.end_of_declarators (at 1)) t.no_members) (at 1)) t.no_specifiers) None (at 1))) ∷
    (s.declaration (declaration (t.specifiers (t.structure_body keyword.Struct (at 2) (Some (spelled (codes "S") 2))
    (at 2) (t.members (t.member_declaration (t.specifiers (word keyword.Int 2) t.no_specifiers) (t.array (t.named
    (spelled (codes "b") 2)) (at 2) (t.identifier (spelled (codes "y") 3)) (at 3)) t.end_of_declarators (at 3))
    t.no_members) (at 3)) t.no_specifiers) None (at 3))) ∷ (s.definition (t.specifiers (word keyword.Int 3)
    t.no_specifiers) (t.function (t.named (spelled (codes "main") 3)) (at 3) (t.void_parameters (at 3)) (at 3))
    (s.block (at 3) (s.items (s.inner (s.return (at 3) (Some (t.integer (spelled (codes "0") 3))) (at 3))) s.no_items)
    (at 3))) ∷ []) 3)
    ≡ (rule.MistakenTag, 2) ∷ (rule.Undeclared, 3) ∷ []
unfolding balanced_type common_type fit is_signed mixed_type promoted rank size_of unsigned_of binary_value
    shift_amount unary_value constant_in constant_of greatest_of suffix_of typed types_of bytes_of_literal
    character_value characters_of escaped literal_step next_character extent_of array_size member_offsets
    structure_of union_of constant_word binary assigned cast row_of comma combined unary dereferenced indexed
    size_of_words assignment compound stepped condition conditional switch_value called called_through routine_words
    composite judged start reached reached_by reached_in element_number member_number number_behind part closed
    opened with_literal with_value without first_not_constant
tag_and_members = refl

-- int main(void){
-- static int a=
-- b,
-- f(void);return 0;}
storage_of_a_later_declarator :
    (source ((s.definition (t.specifiers (word keyword.Int 1) t.no_specifiers) (t.function (t.named (spelled (codes
    "main") 1)) (at 1) (t.void_parameters (at 1)) (at 1)) (s.block (at 1) (s.items (s.local (declaration (t.specifiers
    (word keyword.Static 2) (t.specifiers (word keyword.Int 2) t.no_specifiers)) (Some (declarators (init_declarator
    (t.named (spelled (codes "a") 2)) (Some ((at 2), (t.value (t.identifier (spelled (codes "b") 3)))))) ((
      (at 3),
      (init_declarator (t.function (t.named (spelled (codes "f") 4)) (at 4) (t.void_parameters (at 4)) (at 4)) None),
    ) ∷
    []))) (at 4))) (s.items (s.inner (s.return (at 4) (Some (t.integer (spelled (codes "0") 4))) (at 4))) s.no_items))
    (at 4))) ∷ []) 4)
    ≡ (rule.Undeclared, 3) ∷ (rule.MisplacedStorage, 2) ∷ []
unfolding balanced_type common_type fit is_signed mixed_type promoted rank size_of unsigned_of binary_value
    shift_amount unary_value constant_in constant_of greatest_of suffix_of typed types_of bytes_of_literal
    character_value characters_of escaped literal_step next_character extent_of array_size member_offsets
    structure_of union_of constant_word binary assigned cast row_of comma combined unary dereferenced indexed
    size_of_words assignment compound stepped condition conditional switch_value called called_through routine_words
    composite judged start reached reached_by reached_in element_number member_number number_behind part closed
    opened with_literal with_value without first_not_constant
storage_of_a_later_declarator = refl

-- auto int a[
-- y];int main(void){return 0;}
storage_and_size :
    (source ((s.declaration (declaration (t.specifiers (word keyword.Auto 1) (t.specifiers (word keyword.Int 1)
    t.no_specifiers)) (Some (declarators (init_declarator (t.array (t.named (spelled (codes "a") 1)) (at 1)
    (t.identifier (spelled (codes "y") 2)) (at 2)) None) [])) (at 2))) ∷ (s.definition (t.specifiers (word keyword.Int
    2) t.no_specifiers) (t.function (t.named (spelled (codes "main") 2)) (at 2) (t.void_parameters (at 2)) (at 2))
    (s.block (at 2) (s.items (s.inner (s.return (at 2) (Some (t.integer (spelled (codes "0") 2))) (at 2))) s.no_items)
    (at 2))) ∷ []) 2)
    ≡ (rule.Undeclared, 2) ∷ []
unfolding balanced_type common_type fit is_signed mixed_type promoted rank size_of unsigned_of binary_value
    shift_amount unary_value constant_in constant_of greatest_of suffix_of typed types_of bytes_of_literal
    character_value characters_of escaped literal_step next_character extent_of array_size member_offsets
    structure_of union_of constant_word binary assigned cast row_of comma combined unary dereferenced indexed
    size_of_words assignment compound stepped condition conditional switch_value called called_through routine_words
    composite judged start reached reached_by reached_in element_number member_number number_behind part closed
    opened with_literal with_value without first_not_constant
storage_and_size = refl

-- int f(static int a[
-- y]);int main(void){return 0;}
storage_of_a_parameter :
    (source ((s.declaration (declaration (t.specifiers (word keyword.Int 1) t.no_specifiers) (Some (declarators
    (init_declarator (t.function (t.named (spelled (codes "f") 1)) (at 1) (t.parameters (t.typed (t.specifiers (word
    keyword.Static 1) (t.specifiers (word keyword.Int 1) t.no_specifiers)) (t.array (t.named (spelled (codes "a") 1))
    (at 1) (t.identifier (spelled (codes "y") 2)) (at 2))) t.end_of_parameters) (at 2)) None) [])) (at 2))) ∷
    (s.definition (t.specifiers (word keyword.Int 2) t.no_specifiers) (t.function (t.named (spelled (codes "main") 2))
    (at 2) (t.void_parameters (at 2)) (at 2)) (s.block (at 2) (s.items (s.inner (s.return (at 2) (Some (t.integer
    (spelled (codes "0") 2))) (at 2))) s.no_items) (at 2))) ∷ []) 2)
    ≡ (rule.Undeclared, 2) ∷ []
unfolding balanced_type common_type fit is_signed mixed_type promoted rank size_of unsigned_of binary_value
    shift_amount unary_value constant_in constant_of greatest_of suffix_of typed types_of bytes_of_literal
    character_value characters_of escaped literal_step next_character extent_of array_size member_offsets
    structure_of union_of constant_word binary assigned cast row_of comma combined unary dereferenced indexed
    size_of_words assignment compound stepped condition conditional switch_value called called_through routine_words
    composite judged start reached reached_by reached_in element_number member_number number_behind part closed
    opened with_literal with_value without first_not_constant
storage_of_a_parameter = refl

-- struct{static int a[
-- y];}s;int main(void){return 0;}
storage_of_a_member :
    (source ((s.declaration (declaration (t.specifiers (t.structure_body keyword.Struct (at 1) None (at 1) (t.members
    (t.member_declaration (t.specifiers (word keyword.Static 1) (t.specifiers (word keyword.Int 1) t.no_specifiers))
    (t.array (t.named (spelled (codes "a") 1)) (at 1) (t.identifier (spelled (codes "y") 2)) (at 2))
    t.end_of_declarators (at 2)) t.no_members) (at 2)) t.no_specifiers) (Some (declarators (init_declarator (t.named
    (spelled (codes "s") 2)) None) [])) (at 2))) ∷ (s.definition (t.specifiers (word keyword.Int 2) t.no_specifiers)
    (t.function (t.named (spelled (codes "main") 2)) (at 2) (t.void_parameters (at 2)) (at 2)) (s.block (at 2)
    (s.items (s.inner (s.return (at 2) (Some (t.integer (spelled (codes "0") 2))) (at 2))) s.no_items) (at 2))) ∷ [])
    2)
    ≡ (rule.MisplacedStorage, 1) ∷ (rule.Undeclared, 2) ∷ []
unfolding balanced_type common_type fit is_signed mixed_type promoted rank size_of unsigned_of binary_value
    shift_amount unary_value constant_in constant_of greatest_of suffix_of typed types_of bytes_of_literal
    character_value characters_of escaped literal_step next_character extent_of array_size member_offsets
    structure_of union_of constant_word binary assigned cast row_of comma combined unary dereferenced indexed
    size_of_words assignment compound stepped condition conditional switch_value called called_through routine_words
    composite judged start reached reached_by reached_in element_number member_number number_behind part closed
    opened with_literal with_value without first_not_constant
storage_of_a_member = refl

-- typedef int T={
-- y};int main(void){return 0;}
initializer_out_of_place :
    (source ((s.declaration (declaration (t.specifiers (word keyword.Typedef 1) (t.specifiers (word keyword.Int 1)
    t.no_specifiers)) (Some (declarators (init_declarator (t.named (spelled (codes "T") 1)) (Some (
      (at 1),
      (t.braced
          (at 1) (t.item None (t.value (t.identifier (spelled (codes "y") 2)))) t.end_of_items None (at 2)),
    ))) [])) (at 2)))
    ∷ (s.definition (t.specifiers (word keyword.Int 2) t.no_specifiers) (t.function (t.named (spelled (codes "main")
    2)) (at 2) (t.void_parameters (at 2)) (at 2)) (s.block (at 2) (s.items (s.inner (s.return (at 2) (Some (t.integer
    (spelled (codes "0") 2))) (at 2))) s.no_items) (at 2))) ∷ []) 2)
    ≡ (rule.MisplacedStorage, 1) ∷ (rule.Undeclared, 2) ∷ []
unfolding balanced_type common_type fit is_signed mixed_type promoted rank size_of unsigned_of binary_value
    shift_amount unary_value constant_in constant_of greatest_of suffix_of typed types_of bytes_of_literal
    character_value characters_of escaped literal_step next_character extent_of array_size member_offsets
    structure_of union_of constant_word binary assigned cast row_of comma combined unary dereferenced indexed
    size_of_words assignment compound stepped condition conditional switch_value called called_through routine_words
    composite judged start reached reached_by reached_in element_number member_number number_behind part closed
    opened with_literal with_value without first_not_constant
initializer_out_of_place = refl

-- int main(void){return 0;}
none :
    (source ((s.definition (t.specifiers (word keyword.Int 1) t.no_specifiers) (t.function (t.named (spelled (codes
    "main") 1)) (at 1) (t.void_parameters (at 1)) (at 1)) (s.block (at 1) (s.items (s.inner (s.return (at 1) (Some
    (t.integer (spelled (codes "0") 1))) (at 1))) s.no_items) (at 1))) ∷ []) 1)
    ≡ []
unfolding balanced_type common_type fit is_signed mixed_type promoted rank size_of unsigned_of binary_value
    shift_amount unary_value constant_in constant_of greatest_of suffix_of typed types_of bytes_of_literal
    character_value characters_of escaped literal_step next_character extent_of array_size member_offsets
    structure_of union_of constant_word binary assigned cast row_of comma combined unary dereferenced indexed
    size_of_words assignment compound stepped condition conditional switch_value called called_through routine_words
    composite judged start reached reached_by reached_in element_number member_number number_behind part closed
    opened with_literal with_value without first_not_constant
none = refl
