-- Statements: conditions, loops, switches, jumps (C99 6.8).
-- gcc 12.2.0 (-std=c99 -pedantic-errors -fsyntax-only) accepts or refuses the texts of all rows but of these as they
-- do, which have a rule or limit that gcc has not: label_in_an_inner_block, label_in_a_branch.
use Rattle.std.proofs.Common.{◌≡◌, true, false, [], ◌∷◌, Some, None, refl}
use Rattle.std.specs.Prelude.{codes}
use Rattle.c_lexer.specs.declared.keyword.Keyword.TheVariants as keyword
use Rattle.c_lexer.specs.declared.punctuator.Punctuator.TheVariants as sign
use Rattle.c_syntax.specs.Statements as s
use Rattle.c_syntax.specs.Tree as t
use Rattle.c_faults.specs.declared.fault.Rule.TheVariants as rule
use Rattle.obj_memory.specs.Integers.{balanced_type, common_type, fit, is_signed, mixed_type, promoted, rank, size_of}
use Rattle.obj_memory.specs.Integers.{unsigned_of}
use Rattle.obj_memory.specs.Operators.{binary_value, shift_amount, unary_value}
use Rattle.c_lexer.specs.Constants.{constant_in, constant_of, greatest_of, suffix_of, typed, types_of}
use Rattle.c_lexer.specs.Literals.{bytes_of_literal, character_value, characters_of, escaped, literal_step, next_character}
use Rattle.c_tree.specs.Extents.{extent_of}
use Rattle.c_tree.specs.Layout.{array_size, member_offsets, structure_of, union_of}
use Rattle.c_tree.specs.Room.{room}
use Rattle.c_tree.specs.ValidProgram.{is_valid_program}
use Rattle.c_const.specs.Initializers.{first_not_constant}
use Rattle.c_const.specs.Integers.{constant_word}
use Rattle.c_rules.specs.Binary.{binary}
use Rattle.c_rules.specs.Conversions.{assigned, cast}
use Rattle.c_rules.specs.Rows.{row_of}
use Rattle.c_rules.specs.Unary.{comma, combined, unary}
use Rattle.c_place_rules.specs.Places.{dereferenced, indexed, size_of as size_of_words}
use Rattle.c_assignment_rules.specs.Assignments.{assignment, compound, stepped}
use Rattle.c_condition_rules.specs.Conditions.{condition, conditional, switch_value}
use Rattle.c_call_rules.specs.Calls.{called, called_through}
use Rattle.c_tree.specs.Routines.{routine_words}
use Rattle.c_scope.specs.Composite.{composite}
use Rattle.c_scope.specs.Declaring.{judged}
use Rattle.c_scope.specs.Start.{start}
use Rattle.c_current_object.specs.CurrentObject.{reached, reached_by, reached_in}
use Rattle.c_current_object.specs.Subobjects.{element_number, member_number, number_behind, part}
use Rattle.c_initializer_rules.specs.Initializing.{closed, opened, with_literal, with_value}
use Rattle.c_initializer_rules.specs.Placed.{without}
use Rattle.c_unit_typing.specs.Typed.{typed_unit}
use Rattle.typing_rows.proofs.Units.Sources.{accepted, at, declaration, declarators, function, init_declarator}
use Rattle.typing_rows.proofs.Units.Sources.{number, other, refused, source, spelled, word}

-- int main(void){int n=0;for(int i=0;i<3;i++){if(i==1)continue;n+=i;}while(n)n--;do n++;while(n<2);return n;}
loops :
    (source ((s.definition (t.specifiers (word keyword.Int 1) t.no_specifiers) (t.function (t.named (spelled (codes
    "main") 1)) (at 1) (t.void_parameters (at 1)) (at 1)) (s.block (at 1) (s.items (s.local (declaration (t.specifiers
    (word keyword.Int 1) t.no_specifiers) (Some (declarators (init_declarator (t.named (spelled (codes "n") 1)) (Some
    ((at 1), (t.value (t.integer (spelled (codes "0") 1)))))) [])) (at 1))) (s.items (s.inner (s.for (at 1) (at 1)
    (s.declares (declaration (t.specifiers (word keyword.Int 1) t.no_specifiers) (Some (declarators (init_declarator
    (t.named (spelled (codes "i") 1)) (Some ((at 1), (t.value (t.integer (spelled (codes "0") 1)))))) [])) (at 1)))
    (Some (t.binary (t.identifier (spelled (codes "i") 1)) sign.Less (at 1) (t.integer (spelled (codes "3") 1)))) (at
    1) (Some (t.postfix (t.identifier (spelled (codes "i") 1)) sign.Increment (at 1))) (at 1) (s.compound (s.block (at
    1) (s.items (s.inner (s.if_then (at 1) (at 1) (t.binary (t.identifier (spelled (codes "i") 1)) sign.Equal (at 1)
    (t.integer (spelled (codes "1") 1))) (at 1) (s.continue (at 1) (at 1)))) (s.items (s.inner (s.expression (Some
    (t.assignment (t.identifier (spelled (codes "n") 1)) sign.AddAssign (at 1) (t.identifier (spelled (codes "i")
    1)))) (at 1))) s.no_items)) (at 1))))) (s.items (s.inner (s.while_do (at 1) (at 1) (t.identifier (spelled (codes
    "n") 1)) (at 1) (s.expression (Some (t.postfix (t.identifier (spelled (codes "n") 1)) sign.Decrement (at 1))) (at
    1)))) (s.items (s.inner (s.do_while (at 1) (s.expression (Some (t.postfix (t.identifier (spelled (codes "n") 1))
    sign.Increment (at 1))) (at 1)) (at 1) (at 1) (t.binary (t.identifier (spelled (codes "n") 1)) sign.Less (at 1)
    (t.integer (spelled (codes "2") 1))) (at 1) (at 1))) (s.items (s.inner (s.return (at 1) (Some (t.identifier
    (spelled (codes "n") 1))) (at 1))) s.no_items))))) (at 1))) ∷ []) 1)
    ≡ accepted true [] (function 1 0 [] ((4, false) ∷ (4, false) ∷ []) (number 0 ∷ number 0 ∷ other ∷ other ∷ other ∷
    other ∷ other ∷ other ∷ other ∷ other ∷ other ∷ []) ∷ [])
unfolding balanced_type common_type fit is_signed mixed_type promoted rank size_of unsigned_of binary_value
    shift_amount unary_value constant_in constant_of greatest_of suffix_of typed types_of bytes_of_literal character_value
    characters_of escaped literal_step next_character extent_of array_size member_offsets structure_of union_of room
    is_valid_program constant_word binary assigned cast row_of comma combined unary dereferenced indexed size_of_words
    assignment compound stepped condition conditional switch_value called called_through routine_words composite judged
    start reached reached_by reached_in element_number member_number number_behind part closed opened with_literal
    with_value without first_not_constant typed_unit
loops = refl

-- int main(void){int x=2;switch(x){case 1:case 2:x=5;break;default:{int y=7;x=y;}}return x;}
labels :
    (source ((s.definition (t.specifiers (word keyword.Int 1) t.no_specifiers) (t.function (t.named (spelled (codes
    "main") 1)) (at 1) (t.void_parameters (at 1)) (at 1)) (s.block (at 1) (s.items (s.local (declaration (t.specifiers
    (word keyword.Int 1) t.no_specifiers) (Some (declarators (init_declarator (t.named (spelled (codes "x") 1)) (Some
    ((at 1), (t.value (t.integer (spelled (codes "2") 1)))))) [])) (at 1))) (s.items (s.inner (s.switch (at 1) (at 1)
    (t.identifier (spelled (codes "x") 1)) (at 1) (s.block (at 1) (s.items (s.inner (s.case (at 1) (t.integer (spelled
    (codes "1") 1)) (at 1) (s.case (at 1) (t.integer (spelled (codes "2") 1)) (at 1) (s.expression (Some (t.assignment
    (t.identifier (spelled (codes "x") 1)) sign.Assign (at 1) (t.integer (spelled (codes "5") 1)))) (at 1)))))
    (s.items (s.inner (s.break (at 1) (at 1))) (s.items (s.inner (s.default (at 1) (at 1) (s.compound (s.block (at 1)
    (s.items (s.local (declaration (t.specifiers (word keyword.Int 1) t.no_specifiers) (Some (declarators
    (init_declarator (t.named (spelled (codes "y") 1)) (Some ((at 1), (t.value (t.integer (spelled (codes "7") 1))))))
    [])) (at 1))) (s.items (s.inner (s.expression (Some (t.assignment (t.identifier (spelled (codes "x") 1))
    sign.Assign (at 1) (t.identifier (spelled (codes "y") 1)))) (at 1))) s.no_items)) (at 1))))) s.no_items))) (at
    1)))) (s.items (s.inner (s.return (at 1) (Some (t.identifier (spelled (codes "x") 1))) (at 1))) s.no_items))) (at
    1))) ∷ []) 1)
    ≡ accepted true [] (function 1 0 [] ((4, false) ∷ (4, false) ∷ []) (number 2 ∷ other ∷ other ∷ number 7 ∷ other ∷
    other ∷ []) ∷ [])
unfolding balanced_type common_type fit is_signed mixed_type promoted rank size_of unsigned_of binary_value
    shift_amount unary_value constant_in constant_of greatest_of suffix_of typed types_of bytes_of_literal character_value
    characters_of escaped literal_step next_character extent_of array_size member_offsets structure_of union_of room
    is_valid_program constant_word binary assigned cast row_of comma combined unary dereferenced indexed size_of_words
    assignment compound stepped condition conditional switch_value called called_through routine_words composite judged
    start reached reached_by reached_in element_number member_number number_behind part closed opened with_literal
    with_value without first_not_constant typed_unit
labels = refl

-- int main(void){int x=2;while(x){switch(x){case 1:continue;case 3:break;}x--;}return x;}
jumps_of_a_switch :
    (source ((s.definition (t.specifiers (word keyword.Int 1) t.no_specifiers) (t.function (t.named (spelled (codes
    "main") 1)) (at 1) (t.void_parameters (at 1)) (at 1)) (s.block (at 1) (s.items (s.local (declaration (t.specifiers
    (word keyword.Int 1) t.no_specifiers) (Some (declarators (init_declarator (t.named (spelled (codes "x") 1)) (Some
    ((at 1), (t.value (t.integer (spelled (codes "2") 1)))))) [])) (at 1))) (s.items (s.inner (s.while_do (at 1) (at
    1) (t.identifier (spelled (codes "x") 1)) (at 1) (s.compound (s.block (at 1) (s.items (s.inner (s.switch (at 1)
    (at 1) (t.identifier (spelled (codes "x") 1)) (at 1) (s.block (at 1) (s.items (s.inner (s.case (at 1) (t.integer
    (spelled (codes "1") 1)) (at 1) (s.continue (at 1) (at 1)))) (s.items (s.inner (s.case (at 1) (t.integer (spelled
    (codes "3") 1)) (at 1) (s.break (at 1) (at 1)))) s.no_items)) (at 1)))) (s.items (s.inner (s.expression (Some
    (t.postfix (t.identifier (spelled (codes "x") 1)) sign.Decrement (at 1))) (at 1))) s.no_items)) (at 1)))))
    (s.items (s.inner (s.return (at 1) (Some (t.identifier (spelled (codes "x") 1))) (at 1))) s.no_items))) (at 1))) ∷
    []) 1)
    ≡ accepted true [] (function 1 0 [] ((4, false) ∷ []) (number 2 ∷ other ∷ other ∷ other ∷ other ∷ []) ∷ [])
unfolding balanced_type common_type fit is_signed mixed_type promoted rank size_of unsigned_of binary_value
    shift_amount unary_value constant_in constant_of greatest_of suffix_of typed types_of bytes_of_literal character_value
    characters_of escaped literal_step next_character extent_of array_size member_offsets structure_of union_of room
    is_valid_program constant_word binary assigned cast row_of comma combined unary dereferenced indexed size_of_words
    assignment compound stepped condition conditional switch_value called called_through routine_words composite judged
    start reached reached_by reached_in element_number member_number number_behind part closed opened with_literal
    with_value without first_not_constant typed_unit
jumps_of_a_switch = refl

-- void f(void){return;}char g(void){return 300;}int main(void){f();return g();}
results :
    (source ((s.definition (t.specifiers (word keyword.Void 1) t.no_specifiers) (t.function (t.named (spelled (codes
    "f") 1)) (at 1) (t.void_parameters (at 1)) (at 1)) (s.block (at 1) (s.items (s.inner (s.return (at 1) None (at
    1))) s.no_items) (at 1))) ∷ (s.definition (t.specifiers (word keyword.Char 1) t.no_specifiers) (t.function
    (t.named (spelled (codes "g") 1)) (at 1) (t.void_parameters (at 1)) (at 1)) (s.block (at 1) (s.items (s.inner
    (s.return (at 1) (Some (t.integer (spelled (codes "300") 1))) (at 1))) s.no_items) (at 1))) ∷ (s.definition
    (t.specifiers (word keyword.Int 1) t.no_specifiers) (t.function (t.named (spelled (codes "main") 1)) (at 1)
    (t.void_parameters (at 1)) (at 1)) (s.block (at 1) (s.items (s.inner (s.expression (Some (t.call (t.identifier
    (spelled (codes "f") 1)) (at 1) t.no_arguments (at 1))) (at 1))) (s.items (s.inner (s.return (at 1) (Some (t.call
    (t.identifier (spelled (codes "g") 1)) (at 1) t.no_arguments (at 1))) (at 1))) s.no_items)) (at 1))) ∷ []) 1)
    ≡ accepted true [] (function 1 0 [] [] [] ∷ function 1 1 [] [] (number 44 ∷ []) ∷ function 1 2 [] [] (other ∷
    other ∷ []) ∷ [])
unfolding balanced_type common_type fit is_signed mixed_type promoted rank size_of unsigned_of binary_value
    shift_amount unary_value constant_in constant_of greatest_of suffix_of typed types_of bytes_of_literal character_value
    characters_of escaped literal_step next_character extent_of array_size member_offsets structure_of union_of room
    is_valid_program constant_word binary assigned cast row_of comma combined unary dereferenced indexed size_of_words
    assignment compound stepped condition conditional switch_value called called_through routine_words composite judged
    start reached reached_by reached_in element_number member_number number_behind part closed opened with_literal
    with_value without first_not_constant typed_unit
results = refl

-- int main(void){if(sizeof(enum{A})){}return
-- A;}
tags_of_a_branch :
    (source ((s.definition (t.specifiers (word keyword.Int 1) t.no_specifiers) (t.function (t.named (spelled (codes
    "main") 1)) (at 1) (t.void_parameters (at 1)) (at 1)) (s.block (at 1) (s.items (s.inner (s.if_then (at 1) (at 1)
    (t.sizeof_type (at 1) (at 1) (t.typed (t.specifiers (t.enumeration_body (at 1) None (at 1) (t.plain (spelled
    (codes "A") 1)) t.end_of_enumerators None (at 1)) t.no_specifiers) t.unnamed) (at 1)) (at 1) (s.compound (s.block
    (at 1) s.no_items (at 1))))) (s.items (s.inner (s.return (at 1) (Some (t.identifier (spelled (codes "A") 2))) (at
    2))) s.no_items)) (at 2))) ∷ []) 2)
    ≡ refused rule.Undeclared 2
unfolding balanced_type common_type fit is_signed mixed_type promoted rank size_of unsigned_of binary_value
    shift_amount unary_value constant_in constant_of greatest_of suffix_of typed types_of bytes_of_literal character_value
    characters_of escaped literal_step next_character extent_of array_size member_offsets structure_of union_of room
    is_valid_program constant_word binary assigned cast row_of comma combined unary dereferenced indexed size_of_words
    assignment compound stepped condition conditional switch_value called called_through routine_words composite judged
    start reached reached_by reached_in element_number member_number number_behind part closed opened with_literal
    with_value without first_not_constant typed_unit
tags_of_a_branch = refl

-- int main(void){do{int x;}while(
-- x);return 0;}
tags_of_a_body :
    (source ((s.definition (t.specifiers (word keyword.Int 1) t.no_specifiers) (t.function (t.named (spelled (codes
    "main") 1)) (at 1) (t.void_parameters (at 1)) (at 1)) (s.block (at 1) (s.items (s.inner (s.do_while (at 1)
    (s.compound (s.block (at 1) (s.items (s.local (declaration (t.specifiers (word keyword.Int 1) t.no_specifiers)
    (Some (declarators (init_declarator (t.named (spelled (codes "x") 1)) None) [])) (at 1))) s.no_items) (at 1))) (at
    1) (at 1) (t.identifier (spelled (codes "x") 2)) (at 2) (at 2))) (s.items (s.inner (s.return (at 2) (Some
    (t.integer (spelled (codes "0") 2))) (at 2))) s.no_items)) (at 2))) ∷ []) 2)
    ≡ refused rule.Undeclared 2
unfolding balanced_type common_type fit is_signed mixed_type promoted rank size_of unsigned_of binary_value
    shift_amount unary_value constant_in constant_of greatest_of suffix_of typed types_of bytes_of_literal character_value
    characters_of escaped literal_step next_character extent_of array_size member_offsets structure_of union_of room
    is_valid_program constant_word binary assigned cast row_of comma combined unary dereferenced indexed size_of_words
    assignment compound stepped condition conditional switch_value called called_through routine_words composite judged
    start reached reached_by reached_in element_number member_number number_behind part closed opened with_literal
    with_value without first_not_constant typed_unit
tags_of_a_body = refl

-- struct S{int a;}s;int main(void){
-- if(
-- s)return 1;return 0;}
condition_of_a_structure :
    (source ((s.declaration (declaration (t.specifiers (t.structure_body keyword.Struct (at 1) (Some (spelled (codes
    "S") 1)) (at 1) (t.members (t.member_declaration (t.specifiers (word keyword.Int 1) t.no_specifiers) (t.named
    (spelled (codes "a") 1)) t.end_of_declarators (at 1)) t.no_members) (at 1)) t.no_specifiers) (Some (declarators
    (init_declarator (t.named (spelled (codes "s") 1)) None) [])) (at 1))) ∷ (s.definition (t.specifiers (word
    keyword.Int 1) t.no_specifiers) (t.function (t.named (spelled (codes "main") 1)) (at 1) (t.void_parameters (at 1))
    (at 1)) (s.block (at 1) (s.items (s.inner (s.if_then (at 2) (at 2) (t.identifier (spelled (codes "s") 3)) (at 3)
    (s.return (at 3) (Some (t.integer (spelled (codes "1") 3))) (at 3)))) (s.items (s.inner (s.return (at 3) (Some
    (t.integer (spelled (codes "0") 3))) (at 3))) s.no_items)) (at 3))) ∷ []) 3)
    ≡ refused rule.NoCondition 2
unfolding balanced_type common_type fit is_signed mixed_type promoted rank size_of unsigned_of binary_value
    shift_amount unary_value constant_in constant_of greatest_of suffix_of typed types_of bytes_of_literal character_value
    characters_of escaped literal_step next_character extent_of array_size member_offsets structure_of union_of room
    is_valid_program constant_word binary assigned cast row_of comma combined unary dereferenced indexed size_of_words
    assignment compound stepped condition conditional switch_value called called_through routine_words composite judged
    start reached reached_by reached_in element_number member_number number_behind part closed opened with_literal
    with_value without first_not_constant typed_unit
condition_of_a_structure = refl

-- void f(void){}int main(void){
-- while(
-- f());return 0;}
void_condition :
    (source ((s.definition (t.specifiers (word keyword.Void 1) t.no_specifiers) (t.function (t.named (spelled (codes
    "f") 1)) (at 1) (t.void_parameters (at 1)) (at 1)) (s.block (at 1) s.no_items (at 1))) ∷ (s.definition
    (t.specifiers (word keyword.Int 1) t.no_specifiers) (t.function (t.named (spelled (codes "main") 1)) (at 1)
    (t.void_parameters (at 1)) (at 1)) (s.block (at 1) (s.items (s.inner (s.while_do (at 2) (at 2) (t.call
    (t.identifier (spelled (codes "f") 3)) (at 3) t.no_arguments (at 3)) (at 3) (s.expression None (at 3)))) (s.items
    (s.inner (s.return (at 3) (Some (t.integer (spelled (codes "0") 3))) (at 3))) s.no_items)) (at 3))) ∷ []) 3)
    ≡ refused rule.NoCondition 2
unfolding balanced_type common_type fit is_signed mixed_type promoted rank size_of unsigned_of binary_value
    shift_amount unary_value constant_in constant_of greatest_of suffix_of typed types_of bytes_of_literal character_value
    characters_of escaped literal_step next_character extent_of array_size member_offsets structure_of union_of room
    is_valid_program constant_word binary assigned cast row_of comma combined unary dereferenced indexed size_of_words
    assignment compound stepped condition conditional switch_value called called_through routine_words composite judged
    start reached reached_by reached_in element_number member_number number_behind part closed opened with_literal
    with_value without first_not_constant typed_unit
void_condition = refl

-- struct S{int a;}s;int main(void){
-- do
-- y=1;while(
-- s);return 0;}
do_before_its_body :
    (source ((s.declaration (declaration (t.specifiers (t.structure_body keyword.Struct (at 1) (Some (spelled (codes
    "S") 1)) (at 1) (t.members (t.member_declaration (t.specifiers (word keyword.Int 1) t.no_specifiers) (t.named
    (spelled (codes "a") 1)) t.end_of_declarators (at 1)) t.no_members) (at 1)) t.no_specifiers) (Some (declarators
    (init_declarator (t.named (spelled (codes "s") 1)) None) [])) (at 1))) ∷ (s.definition (t.specifiers (word
    keyword.Int 1) t.no_specifiers) (t.function (t.named (spelled (codes "main") 1)) (at 1) (t.void_parameters (at 1))
    (at 1)) (s.block (at 1) (s.items (s.inner (s.do_while (at 2) (s.expression (Some (t.assignment (t.identifier
    (spelled (codes "y") 3)) sign.Assign (at 3) (t.integer (spelled (codes "1") 3)))) (at 3)) (at 3) (at 3)
    (t.identifier (spelled (codes "s") 4)) (at 4) (at 4))) (s.items (s.inner (s.return (at 4) (Some (t.integer
    (spelled (codes "0") 4))) (at 4))) s.no_items)) (at 4))) ∷ []) 4)
    ≡ refused rule.NoCondition 2
unfolding balanced_type common_type fit is_signed mixed_type promoted rank size_of unsigned_of binary_value
    shift_amount unary_value constant_in constant_of greatest_of suffix_of typed types_of bytes_of_literal character_value
    characters_of escaped literal_step next_character extent_of array_size member_offsets structure_of union_of room
    is_valid_program constant_word binary assigned cast row_of comma combined unary dereferenced indexed size_of_words
    assignment compound stepped condition conditional switch_value called called_through routine_words composite judged
    start reached reached_by reached_in element_number member_number number_behind part closed opened with_literal
    with_value without first_not_constant typed_unit
do_before_its_body = refl

-- int main(void){do
-- y=1;while(
-- z);return 0;}
body_before_the_condition :
    (source ((s.definition (t.specifiers (word keyword.Int 1) t.no_specifiers) (t.function (t.named (spelled (codes
    "main") 1)) (at 1) (t.void_parameters (at 1)) (at 1)) (s.block (at 1) (s.items (s.inner (s.do_while (at 1)
    (s.expression (Some (t.assignment (t.identifier (spelled (codes "y") 2)) sign.Assign (at 2) (t.integer (spelled
    (codes "1") 2)))) (at 2)) (at 2) (at 2) (t.identifier (spelled (codes "z") 3)) (at 3) (at 3))) (s.items (s.inner
    (s.return (at 3) (Some (t.integer (spelled (codes "0") 3))) (at 3))) s.no_items)) (at 3))) ∷ []) 3)
    ≡ refused rule.Undeclared 2
unfolding balanced_type common_type fit is_signed mixed_type promoted rank size_of unsigned_of binary_value
    shift_amount unary_value constant_in constant_of greatest_of suffix_of typed types_of bytes_of_literal character_value
    characters_of escaped literal_step next_character extent_of array_size member_offsets structure_of union_of room
    is_valid_program constant_word binary assigned cast row_of comma combined unary dereferenced indexed size_of_words
    assignment compound stepped condition conditional switch_value called called_through routine_words composite judged
    start reached reached_by reached_in element_number member_number number_behind part closed opened with_literal
    with_value without first_not_constant typed_unit
body_before_the_condition = refl

-- int main(void){int x=1;do
-- y=1;while(
-- x);return 0;}
body_alone :
    (source ((s.definition (t.specifiers (word keyword.Int 1) t.no_specifiers) (t.function (t.named (spelled (codes
    "main") 1)) (at 1) (t.void_parameters (at 1)) (at 1)) (s.block (at 1) (s.items (s.local (declaration (t.specifiers
    (word keyword.Int 1) t.no_specifiers) (Some (declarators (init_declarator (t.named (spelled (codes "x") 1)) (Some
    ((at 1), (t.value (t.integer (spelled (codes "1") 1)))))) [])) (at 1))) (s.items (s.inner (s.do_while (at 1)
    (s.expression (Some (t.assignment (t.identifier (spelled (codes "y") 2)) sign.Assign (at 2) (t.integer (spelled
    (codes "1") 2)))) (at 2)) (at 2) (at 2) (t.identifier (spelled (codes "x") 3)) (at 3) (at 3))) (s.items (s.inner
    (s.return (at 3) (Some (t.integer (spelled (codes "0") 3))) (at 3))) s.no_items))) (at 3))) ∷ []) 3)
    ≡ refused rule.Undeclared 2
unfolding balanced_type common_type fit is_signed mixed_type promoted rank size_of unsigned_of binary_value
    shift_amount unary_value constant_in constant_of greatest_of suffix_of typed types_of bytes_of_literal character_value
    characters_of escaped literal_step next_character extent_of array_size member_offsets structure_of union_of room
    is_valid_program constant_word binary assigned cast row_of comma combined unary dereferenced indexed size_of_words
    assignment compound stepped condition conditional switch_value called called_through routine_words composite judged
    start reached reached_by reached_in element_number member_number number_behind part closed opened with_literal
    with_value without first_not_constant typed_unit
body_alone = refl

-- int main(void){do{}
-- while(z);return 0;}
condition_alone :
    (source ((s.definition (t.specifiers (word keyword.Int 1) t.no_specifiers) (t.function (t.named (spelled (codes
    "main") 1)) (at 1) (t.void_parameters (at 1)) (at 1)) (s.block (at 1) (s.items (s.inner (s.do_while (at 1)
    (s.compound (s.block (at 1) s.no_items (at 1))) (at 2) (at 2) (t.identifier (spelled (codes "z") 2)) (at 2) (at
    2))) (s.items (s.inner (s.return (at 2) (Some (t.integer (spelled (codes "0") 2))) (at 2))) s.no_items)) (at 2)))
    ∷ []) 2)
    ≡ refused rule.Undeclared 2
unfolding balanced_type common_type fit is_signed mixed_type promoted rank size_of unsigned_of binary_value
    shift_amount unary_value constant_in constant_of greatest_of suffix_of typed types_of bytes_of_literal character_value
    characters_of escaped literal_step next_character extent_of array_size member_offsets structure_of union_of room
    is_valid_program constant_word binary assigned cast row_of comma combined unary dereferenced indexed size_of_words
    assignment compound stepped condition conditional switch_value called called_through routine_words composite judged
    start reached reached_by reached_in element_number member_number number_behind part closed opened with_literal
    with_value without first_not_constant typed_unit
condition_alone = refl

-- struct S{int a;}s;int main(void){
-- do{break;
-- case 1:;}while(
-- s);return 0;}
do_before_a_break :
    (source ((s.declaration (declaration (t.specifiers (t.structure_body keyword.Struct (at 1) (Some (spelled (codes
    "S") 1)) (at 1) (t.members (t.member_declaration (t.specifiers (word keyword.Int 1) t.no_specifiers) (t.named
    (spelled (codes "a") 1)) t.end_of_declarators (at 1)) t.no_members) (at 1)) t.no_specifiers) (Some (declarators
    (init_declarator (t.named (spelled (codes "s") 1)) None) [])) (at 1))) ∷ (s.definition (t.specifiers (word
    keyword.Int 1) t.no_specifiers) (t.function (t.named (spelled (codes "main") 1)) (at 1) (t.void_parameters (at 1))
    (at 1)) (s.block (at 1) (s.items (s.inner (s.do_while (at 2) (s.compound (s.block (at 2) (s.items (s.inner
    (s.break (at 2) (at 2))) (s.items (s.inner (s.case (at 3) (t.integer (spelled (codes "1") 3)) (at 3) (s.expression
    None (at 3)))) s.no_items)) (at 3))) (at 3) (at 3) (t.identifier (spelled (codes "s") 4)) (at 4) (at 4))) (s.items
    (s.inner (s.return (at 4) (Some (t.integer (spelled (codes "0") 4))) (at 4))) s.no_items)) (at 4))) ∷ []) 4)
    ≡ refused rule.NoCondition 2
unfolding balanced_type common_type fit is_signed mixed_type promoted rank size_of unsigned_of binary_value
    shift_amount unary_value constant_in constant_of greatest_of suffix_of typed types_of bytes_of_literal character_value
    characters_of escaped literal_step next_character extent_of array_size member_offsets structure_of union_of room
    is_valid_program constant_word binary assigned cast row_of comma combined unary dereferenced indexed size_of_words
    assignment compound stepped condition conditional switch_value called called_through routine_words composite judged
    start reached reached_by reached_in element_number member_number number_behind part closed opened with_literal
    with_value without first_not_constant typed_unit
do_before_a_break = refl

-- struct S{int a;}s;int main(void){
-- do
-- do y=1;while(s);while(1);return 0;}
nested_do :
    (source ((s.declaration (declaration (t.specifiers (t.structure_body keyword.Struct (at 1) (Some (spelled (codes
    "S") 1)) (at 1) (t.members (t.member_declaration (t.specifiers (word keyword.Int 1) t.no_specifiers) (t.named
    (spelled (codes "a") 1)) t.end_of_declarators (at 1)) t.no_members) (at 1)) t.no_specifiers) (Some (declarators
    (init_declarator (t.named (spelled (codes "s") 1)) None) [])) (at 1))) ∷ (s.definition (t.specifiers (word
    keyword.Int 1) t.no_specifiers) (t.function (t.named (spelled (codes "main") 1)) (at 1) (t.void_parameters (at 1))
    (at 1)) (s.block (at 1) (s.items (s.inner (s.do_while (at 2) (s.do_while (at 3) (s.expression (Some (t.assignment
    (t.identifier (spelled (codes "y") 3)) sign.Assign (at 3) (t.integer (spelled (codes "1") 3)))) (at 3)) (at 3) (at
    3) (t.identifier (spelled (codes "s") 3)) (at 3) (at 3)) (at 3) (at 3) (t.integer (spelled (codes "1") 3)) (at 3)
    (at 3))) (s.items (s.inner (s.return (at 3) (Some (t.integer (spelled (codes "0") 3))) (at 3))) s.no_items)) (at
    3))) ∷ []) 3)
    ≡ refused rule.NoCondition 3
unfolding balanced_type common_type fit is_signed mixed_type promoted rank size_of unsigned_of binary_value
    shift_amount unary_value constant_in constant_of greatest_of suffix_of typed types_of bytes_of_literal character_value
    characters_of escaped literal_step next_character extent_of array_size member_offsets structure_of union_of room
    is_valid_program constant_word binary assigned cast row_of comma combined unary dereferenced indexed size_of_words
    assignment compound stepped condition conditional switch_value called called_through routine_words composite judged
    start reached reached_by reached_in element_number member_number number_behind part closed opened with_literal
    with_value without first_not_constant typed_unit
nested_do = refl

-- struct S{int a;}s;int main(void){
-- for(;
-- s;)
-- y=1;return 0;}
for_before_its_body :
    (source ((s.declaration (declaration (t.specifiers (t.structure_body keyword.Struct (at 1) (Some (spelled (codes
    "S") 1)) (at 1) (t.members (t.member_declaration (t.specifiers (word keyword.Int 1) t.no_specifiers) (t.named
    (spelled (codes "a") 1)) t.end_of_declarators (at 1)) t.no_members) (at 1)) t.no_specifiers) (Some (declarators
    (init_declarator (t.named (spelled (codes "s") 1)) None) [])) (at 1))) ∷ (s.definition (t.specifiers (word
    keyword.Int 1) t.no_specifiers) (t.function (t.named (spelled (codes "main") 1)) (at 1) (t.void_parameters (at 1))
    (at 1)) (s.block (at 1) (s.items (s.inner (s.for (at 2) (at 2) (s.evaluates None (at 2)) (Some (t.identifier
    (spelled (codes "s") 3))) (at 3) None (at 3) (s.expression (Some (t.assignment (t.identifier (spelled (codes "y")
    4)) sign.Assign (at 4) (t.integer (spelled (codes "1") 4)))) (at 4)))) (s.items (s.inner (s.return (at 4) (Some
    (t.integer (spelled (codes "0") 4))) (at 4))) s.no_items)) (at 4))) ∷ []) 4)
    ≡ refused rule.NoCondition 2
unfolding balanced_type common_type fit is_signed mixed_type promoted rank size_of unsigned_of binary_value
    shift_amount unary_value constant_in constant_of greatest_of suffix_of typed types_of bytes_of_literal character_value
    characters_of escaped literal_step next_character extent_of array_size member_offsets structure_of union_of room
    is_valid_program constant_word binary assigned cast row_of comma combined unary dereferenced indexed size_of_words
    assignment compound stepped condition conditional switch_value called called_through routine_words composite judged
    start reached reached_by reached_in element_number member_number number_behind part closed opened with_literal
    with_value without first_not_constant typed_unit
for_before_its_body = refl

-- struct S{int a;}s;int main(void){for(;s;
-- y);return 0;}
step_before_for :
    (source ((s.declaration (declaration (t.specifiers (t.structure_body keyword.Struct (at 1) (Some (spelled (codes
    "S") 1)) (at 1) (t.members (t.member_declaration (t.specifiers (word keyword.Int 1) t.no_specifiers) (t.named
    (spelled (codes "a") 1)) t.end_of_declarators (at 1)) t.no_members) (at 1)) t.no_specifiers) (Some (declarators
    (init_declarator (t.named (spelled (codes "s") 1)) None) [])) (at 1))) ∷ (s.definition (t.specifiers (word
    keyword.Int 1) t.no_specifiers) (t.function (t.named (spelled (codes "main") 1)) (at 1) (t.void_parameters (at 1))
    (at 1)) (s.block (at 1) (s.items (s.inner (s.for (at 1) (at 1) (s.evaluates None (at 1)) (Some (t.identifier
    (spelled (codes "s") 1))) (at 1) (Some (t.identifier (spelled (codes "y") 2))) (at 2) (s.expression None (at 2))))
    (s.items (s.inner (s.return (at 2) (Some (t.integer (spelled (codes "0") 2))) (at 2))) s.no_items)) (at 2))) ∷ [])
    2)
    ≡ refused rule.Undeclared 2
unfolding balanced_type common_type fit is_signed mixed_type promoted rank size_of unsigned_of binary_value
    shift_amount unary_value constant_in constant_of greatest_of suffix_of typed types_of bytes_of_literal character_value
    characters_of escaped literal_step next_character extent_of array_size member_offsets structure_of union_of room
    is_valid_program constant_word binary assigned cast row_of comma combined unary dereferenced indexed size_of_words
    assignment compound stepped condition conditional switch_value called called_through routine_words composite judged
    start reached reached_by reached_in element_number member_number number_behind part closed opened with_literal
    with_value without first_not_constant typed_unit
step_before_for = refl

-- struct S{int a;}s;int main(void){for(int i=
-- y;s;);return 0;}
declaration_before_for :
    (source ((s.declaration (declaration (t.specifiers (t.structure_body keyword.Struct (at 1) (Some (spelled (codes
    "S") 1)) (at 1) (t.members (t.member_declaration (t.specifiers (word keyword.Int 1) t.no_specifiers) (t.named
    (spelled (codes "a") 1)) t.end_of_declarators (at 1)) t.no_members) (at 1)) t.no_specifiers) (Some (declarators
    (init_declarator (t.named (spelled (codes "s") 1)) None) [])) (at 1))) ∷ (s.definition (t.specifiers (word
    keyword.Int 1) t.no_specifiers) (t.function (t.named (spelled (codes "main") 1)) (at 1) (t.void_parameters (at 1))
    (at 1)) (s.block (at 1) (s.items (s.inner (s.for (at 1) (at 1) (s.declares (declaration (t.specifiers (word
    keyword.Int 1) t.no_specifiers) (Some (declarators (init_declarator (t.named (spelled (codes "i") 1)) (Some (
      (at
          1),
      (t.value (t.identifier (spelled (codes "y") 2))),
    ))) [])) (at 2))) (Some (t.identifier (spelled (codes "s")
    2))) (at 2) None (at 2) (s.expression None (at 2)))) (s.items (s.inner (s.return (at 2) (Some (t.integer (spelled
    (codes "0") 2))) (at 2))) s.no_items)) (at 2))) ∷ []) 2)
    ≡ refused rule.Undeclared 2
unfolding balanced_type common_type fit is_signed mixed_type promoted rank size_of unsigned_of binary_value
    shift_amount unary_value constant_in constant_of greatest_of suffix_of typed types_of bytes_of_literal character_value
    characters_of escaped literal_step next_character extent_of array_size member_offsets structure_of union_of room
    is_valid_program constant_word binary assigned cast row_of comma combined unary dereferenced indexed size_of_words
    assignment compound stepped condition conditional switch_value called called_through routine_words composite judged
    start reached reached_by reached_in element_number member_number number_behind part closed opened with_literal
    with_value without first_not_constant typed_unit
declaration_before_for = refl

-- int main(void){for(int i=0;i<1;i++);return
-- i;}
for_is_a_scope :
    (source ((s.definition (t.specifiers (word keyword.Int 1) t.no_specifiers) (t.function (t.named (spelled (codes
    "main") 1)) (at 1) (t.void_parameters (at 1)) (at 1)) (s.block (at 1) (s.items (s.inner (s.for (at 1) (at 1)
    (s.declares (declaration (t.specifiers (word keyword.Int 1) t.no_specifiers) (Some (declarators (init_declarator
    (t.named (spelled (codes "i") 1)) (Some ((at 1), (t.value (t.integer (spelled (codes "0") 1)))))) [])) (at 1)))
    (Some (t.binary (t.identifier (spelled (codes "i") 1)) sign.Less (at 1) (t.integer (spelled (codes "1") 1)))) (at
    1) (Some (t.postfix (t.identifier (spelled (codes "i") 1)) sign.Increment (at 1))) (at 1) (s.expression None (at
    1)))) (s.items (s.inner (s.return (at 1) (Some (t.identifier (spelled (codes "i") 2))) (at 2))) s.no_items)) (at
    2))) ∷ []) 2)
    ≡ refused rule.Undeclared 2
unfolding balanced_type common_type fit is_signed mixed_type promoted rank size_of unsigned_of binary_value
    shift_amount unary_value constant_in constant_of greatest_of suffix_of typed types_of bytes_of_literal character_value
    characters_of escaped literal_step next_character extent_of array_size member_offsets structure_of union_of room
    is_valid_program constant_word binary assigned cast row_of comma combined unary dereferenced indexed size_of_words
    assignment compound stepped condition conditional switch_value called called_through routine_words composite judged
    start reached reached_by reached_in element_number member_number number_behind part closed opened with_literal
    with_value without first_not_constant typed_unit
for_is_a_scope = refl

-- int main(void){for(int i=0;i<1;i++){int i=2;i++;}return 0;}
body_of_for_is_a_scope :
    (source ((s.definition (t.specifiers (word keyword.Int 1) t.no_specifiers) (t.function (t.named (spelled (codes
    "main") 1)) (at 1) (t.void_parameters (at 1)) (at 1)) (s.block (at 1) (s.items (s.inner (s.for (at 1) (at 1)
    (s.declares (declaration (t.specifiers (word keyword.Int 1) t.no_specifiers) (Some (declarators (init_declarator
    (t.named (spelled (codes "i") 1)) (Some ((at 1), (t.value (t.integer (spelled (codes "0") 1)))))) [])) (at 1)))
    (Some (t.binary (t.identifier (spelled (codes "i") 1)) sign.Less (at 1) (t.integer (spelled (codes "1") 1)))) (at
    1) (Some (t.postfix (t.identifier (spelled (codes "i") 1)) sign.Increment (at 1))) (at 1) (s.compound (s.block (at
    1) (s.items (s.local (declaration (t.specifiers (word keyword.Int 1) t.no_specifiers) (Some (declarators
    (init_declarator (t.named (spelled (codes "i") 1)) (Some ((at 1), (t.value (t.integer (spelled (codes "2") 1))))))
    [])) (at 1))) (s.items (s.inner (s.expression (Some (t.postfix (t.identifier (spelled (codes "i") 1))
    sign.Increment (at 1))) (at 1))) s.no_items)) (at 1))))) (s.items (s.inner (s.return (at 1) (Some (t.integer
    (spelled (codes "0") 1))) (at 1))) s.no_items)) (at 1))) ∷ []) 1)
    ≡ accepted true [] (function 1 0 [] ((4, false) ∷ (4, false) ∷ []) (number 0 ∷ other ∷ other ∷ number 2 ∷ other ∷
    number 0 ∷ []) ∷ [])
unfolding balanced_type common_type fit is_signed mixed_type promoted rank size_of unsigned_of binary_value
    shift_amount unary_value constant_in constant_of greatest_of suffix_of typed types_of bytes_of_literal character_value
    characters_of escaped literal_step next_character extent_of array_size member_offsets structure_of union_of room
    is_valid_program constant_word binary assigned cast row_of comma combined unary dereferenced indexed size_of_words
    assignment compound stepped condition conditional switch_value called called_through routine_words composite judged
    start reached reached_by reached_in element_number member_number number_behind part closed opened with_literal
    with_value without first_not_constant typed_unit
body_of_for_is_a_scope = refl

-- int main(void){int*p=0;
-- switch(p){}return 0;}
switch_of_a_pointer :
    (source ((s.definition (t.specifiers (word keyword.Int 1) t.no_specifiers) (t.function (t.named (spelled (codes
    "main") 1)) (at 1) (t.void_parameters (at 1)) (at 1)) (s.block (at 1) (s.items (s.local (declaration (t.specifiers
    (word keyword.Int 1) t.no_specifiers) (Some (declarators (init_declarator (t.pointer (at 1) [] (t.named (spelled
    (codes "p") 1))) (Some ((at 1), (t.value (t.integer (spelled (codes "0") 1)))))) [])) (at 1))) (s.items (s.inner
    (s.switch (at 2) (at 2) (t.identifier (spelled (codes "p") 2)) (at 2) (s.block (at 2) s.no_items (at 2))))
    (s.items (s.inner (s.return (at 2) (Some (t.integer (spelled (codes "0") 2))) (at 2))) s.no_items))) (at 2))) ∷
    []) 2)
    ≡ refused rule.NoCondition 2
unfolding balanced_type common_type fit is_signed mixed_type promoted rank size_of unsigned_of binary_value
    shift_amount unary_value constant_in constant_of greatest_of suffix_of typed types_of bytes_of_literal character_value
    characters_of escaped literal_step next_character extent_of array_size member_offsets structure_of union_of room
    is_valid_program constant_word binary assigned cast row_of comma combined unary dereferenced indexed size_of_words
    assignment compound stepped condition conditional switch_value called called_through routine_words composite judged
    start reached reached_by reached_in element_number member_number number_behind part closed opened with_literal
    with_value without first_not_constant typed_unit
switch_of_a_pointer = refl

-- int main(void){int x=0;switch(x){case 1:;
-- case 2-1:;}return 0;}
equal_labels :
    (source ((s.definition (t.specifiers (word keyword.Int 1) t.no_specifiers) (t.function (t.named (spelled (codes
    "main") 1)) (at 1) (t.void_parameters (at 1)) (at 1)) (s.block (at 1) (s.items (s.local (declaration (t.specifiers
    (word keyword.Int 1) t.no_specifiers) (Some (declarators (init_declarator (t.named (spelled (codes "x") 1)) (Some
    ((at 1), (t.value (t.integer (spelled (codes "0") 1)))))) [])) (at 1))) (s.items (s.inner (s.switch (at 1) (at 1)
    (t.identifier (spelled (codes "x") 1)) (at 1) (s.block (at 1) (s.items (s.inner (s.case (at 1) (t.integer (spelled
    (codes "1") 1)) (at 1) (s.expression None (at 1)))) (s.items (s.inner (s.case (at 2) (t.binary (t.integer (spelled
    (codes "2") 2)) sign.Minus (at 2) (t.integer (spelled (codes "1") 2))) (at 2) (s.expression None (at 2))))
    s.no_items)) (at 2)))) (s.items (s.inner (s.return (at 2) (Some (t.integer (spelled (codes "0") 2))) (at 2)))
    s.no_items))) (at 2))) ∷ []) 2)
    ≡ refused rule.MisplacedLabel 2
unfolding balanced_type common_type fit is_signed mixed_type promoted rank size_of unsigned_of binary_value
    shift_amount unary_value constant_in constant_of greatest_of suffix_of typed types_of bytes_of_literal character_value
    characters_of escaped literal_step next_character extent_of array_size member_offsets structure_of union_of room
    is_valid_program constant_word binary assigned cast row_of comma combined unary dereferenced indexed size_of_words
    assignment compound stepped condition conditional switch_value called called_through routine_words composite judged
    start reached reached_by reached_in element_number member_number number_behind part closed opened with_literal
    with_value without first_not_constant typed_unit
equal_labels = refl

-- int main(void){int x=0;switch(x){case 0:;
-- case 4294967296:;}return 0;}
equal_once_converted :
    (source ((s.definition (t.specifiers (word keyword.Int 1) t.no_specifiers) (t.function (t.named (spelled (codes
    "main") 1)) (at 1) (t.void_parameters (at 1)) (at 1)) (s.block (at 1) (s.items (s.local (declaration (t.specifiers
    (word keyword.Int 1) t.no_specifiers) (Some (declarators (init_declarator (t.named (spelled (codes "x") 1)) (Some
    ((at 1), (t.value (t.integer (spelled (codes "0") 1)))))) [])) (at 1))) (s.items (s.inner (s.switch (at 1) (at 1)
    (t.identifier (spelled (codes "x") 1)) (at 1) (s.block (at 1) (s.items (s.inner (s.case (at 1) (t.integer (spelled
    (codes "0") 1)) (at 1) (s.expression None (at 1)))) (s.items (s.inner (s.case (at 2) (t.integer (spelled (codes
    "4294967296") 2)) (at 2) (s.expression None (at 2)))) s.no_items)) (at 2)))) (s.items (s.inner (s.return (at 2)
    (Some (t.integer (spelled (codes "0") 2))) (at 2))) s.no_items))) (at 2))) ∷ []) 2)
    ≡ refused rule.MisplacedLabel 2
unfolding balanced_type common_type fit is_signed mixed_type promoted rank size_of unsigned_of binary_value
    shift_amount unary_value constant_in constant_of greatest_of suffix_of typed types_of bytes_of_literal character_value
    characters_of escaped literal_step next_character extent_of array_size member_offsets structure_of union_of room
    is_valid_program constant_word binary assigned cast row_of comma combined unary dereferenced indexed size_of_words
    assignment compound stepped condition conditional switch_value called called_through routine_words composite judged
    start reached reached_by reached_in element_number member_number number_behind part closed opened with_literal
    with_value without first_not_constant typed_unit
equal_once_converted = refl

-- int main(void){long x=0;switch(x){case 0:;case 4294967296:;}return 0;}
different_in_long :
    (source ((s.definition (t.specifiers (word keyword.Int 1) t.no_specifiers) (t.function (t.named (spelled (codes
    "main") 1)) (at 1) (t.void_parameters (at 1)) (at 1)) (s.block (at 1) (s.items (s.local (declaration (t.specifiers
    (word keyword.Long 1) t.no_specifiers) (Some (declarators (init_declarator (t.named (spelled (codes "x") 1)) (Some
    ((at 1), (t.value (t.integer (spelled (codes "0") 1)))))) [])) (at 1))) (s.items (s.inner (s.switch (at 1) (at 1)
    (t.identifier (spelled (codes "x") 1)) (at 1) (s.block (at 1) (s.items (s.inner (s.case (at 1) (t.integer (spelled
    (codes "0") 1)) (at 1) (s.expression None (at 1)))) (s.items (s.inner (s.case (at 1) (t.integer (spelled (codes
    "4294967296") 1)) (at 1) (s.expression None (at 1)))) s.no_items)) (at 1)))) (s.items (s.inner (s.return (at 1)
    (Some (t.integer (spelled (codes "0") 1))) (at 1))) s.no_items))) (at 1))) ∷ []) 1)
    ≡ accepted true [] (function 1 0 [] ((8, false) ∷ []) (number 0 ∷ other ∷ number 0 ∷ []) ∷ [])
unfolding balanced_type common_type fit is_signed mixed_type promoted rank size_of unsigned_of binary_value
    shift_amount unary_value constant_in constant_of greatest_of suffix_of typed types_of bytes_of_literal character_value
    characters_of escaped literal_step next_character extent_of array_size member_offsets structure_of union_of room
    is_valid_program constant_word binary assigned cast row_of comma combined unary dereferenced indexed size_of_words
    assignment compound stepped condition conditional switch_value called called_through routine_words composite judged
    start reached reached_by reached_in element_number member_number number_behind part closed opened with_literal
    with_value without first_not_constant typed_unit
different_in_long = refl

-- int main(void){int x=0;switch(x){default:;
-- default:;}return 0;}
two_defaults :
    (source ((s.definition (t.specifiers (word keyword.Int 1) t.no_specifiers) (t.function (t.named (spelled (codes
    "main") 1)) (at 1) (t.void_parameters (at 1)) (at 1)) (s.block (at 1) (s.items (s.local (declaration (t.specifiers
    (word keyword.Int 1) t.no_specifiers) (Some (declarators (init_declarator (t.named (spelled (codes "x") 1)) (Some
    ((at 1), (t.value (t.integer (spelled (codes "0") 1)))))) [])) (at 1))) (s.items (s.inner (s.switch (at 1) (at 1)
    (t.identifier (spelled (codes "x") 1)) (at 1) (s.block (at 1) (s.items (s.inner (s.default (at 1) (at 1)
    (s.expression None (at 1)))) (s.items (s.inner (s.default (at 2) (at 2) (s.expression None (at 2)))) s.no_items))
    (at 2)))) (s.items (s.inner (s.return (at 2) (Some (t.integer (spelled (codes "0") 2))) (at 2))) s.no_items))) (at
    2))) ∷ []) 2)
    ≡ refused rule.MisplacedLabel 2
unfolding balanced_type common_type fit is_signed mixed_type promoted rank size_of unsigned_of binary_value
    shift_amount unary_value constant_in constant_of greatest_of suffix_of typed types_of bytes_of_literal character_value
    characters_of escaped literal_step next_character extent_of array_size member_offsets structure_of union_of room
    is_valid_program constant_word binary assigned cast row_of comma combined unary dereferenced indexed size_of_words
    assignment compound stepped condition conditional switch_value called called_through routine_words composite judged
    start reached reached_by reached_in element_number member_number number_behind part closed opened with_literal
    with_value without first_not_constant typed_unit
two_defaults = refl

-- int main(void){int x=0;switch(x){{
-- case 1:;}}return 0;}
label_in_an_inner_block :
    (source ((s.definition (t.specifiers (word keyword.Int 1) t.no_specifiers) (t.function (t.named (spelled (codes
    "main") 1)) (at 1) (t.void_parameters (at 1)) (at 1)) (s.block (at 1) (s.items (s.local (declaration (t.specifiers
    (word keyword.Int 1) t.no_specifiers) (Some (declarators (init_declarator (t.named (spelled (codes "x") 1)) (Some
    ((at 1), (t.value (t.integer (spelled (codes "0") 1)))))) [])) (at 1))) (s.items (s.inner (s.switch (at 1) (at 1)
    (t.identifier (spelled (codes "x") 1)) (at 1) (s.block (at 1) (s.items (s.inner (s.compound (s.block (at 1)
    (s.items (s.inner (s.case (at 2) (t.integer (spelled (codes "1") 2)) (at 2) (s.expression None (at 2))))
    s.no_items) (at 2)))) s.no_items) (at 2)))) (s.items (s.inner (s.return (at 2) (Some (t.integer (spelled (codes
    "0") 2))) (at 2))) s.no_items))) (at 2))) ∷ []) 2)
    ≡ refused rule.MisplacedLabel 2
unfolding balanced_type common_type fit is_signed mixed_type promoted rank size_of unsigned_of binary_value
    shift_amount unary_value constant_in constant_of greatest_of suffix_of typed types_of bytes_of_literal character_value
    characters_of escaped literal_step next_character extent_of array_size member_offsets structure_of union_of room
    is_valid_program constant_word binary assigned cast row_of comma combined unary dereferenced indexed size_of_words
    assignment compound stepped condition conditional switch_value called called_through routine_words composite judged
    start reached reached_by reached_in element_number member_number number_behind part closed opened with_literal
    with_value without first_not_constant typed_unit
label_in_an_inner_block = refl

-- int main(void){int x=0;switch(x){case 1:if(x)
-- case 2:;}return 0;}
label_in_a_branch :
    (source ((s.definition (t.specifiers (word keyword.Int 1) t.no_specifiers) (t.function (t.named (spelled (codes
    "main") 1)) (at 1) (t.void_parameters (at 1)) (at 1)) (s.block (at 1) (s.items (s.local (declaration (t.specifiers
    (word keyword.Int 1) t.no_specifiers) (Some (declarators (init_declarator (t.named (spelled (codes "x") 1)) (Some
    ((at 1), (t.value (t.integer (spelled (codes "0") 1)))))) [])) (at 1))) (s.items (s.inner (s.switch (at 1) (at 1)
    (t.identifier (spelled (codes "x") 1)) (at 1) (s.block (at 1) (s.items (s.inner (s.case (at 1) (t.integer (spelled
    (codes "1") 1)) (at 1) (s.if_then (at 1) (at 1) (t.identifier (spelled (codes "x") 1)) (at 1) (s.case (at 2)
    (t.integer (spelled (codes "2") 2)) (at 2) (s.expression None (at 2)))))) s.no_items) (at 2)))) (s.items (s.inner
    (s.return (at 2) (Some (t.integer (spelled (codes "0") 2))) (at 2))) s.no_items))) (at 2))) ∷ []) 2)
    ≡ refused rule.MisplacedLabel 2
unfolding balanced_type common_type fit is_signed mixed_type promoted rank size_of unsigned_of binary_value
    shift_amount unary_value constant_in constant_of greatest_of suffix_of typed types_of bytes_of_literal character_value
    characters_of escaped literal_step next_character extent_of array_size member_offsets structure_of union_of room
    is_valid_program constant_word binary assigned cast row_of comma combined unary dereferenced indexed size_of_words
    assignment compound stepped condition conditional switch_value called called_through routine_words composite judged
    start reached reached_by reached_in element_number member_number number_behind part closed opened with_literal
    with_value without first_not_constant typed_unit
label_in_a_branch = refl

-- int main(void){
-- case 1:;return 0;}
label_outside :
    (source ((s.definition (t.specifiers (word keyword.Int 1) t.no_specifiers) (t.function (t.named (spelled (codes
    "main") 1)) (at 1) (t.void_parameters (at 1)) (at 1)) (s.block (at 1) (s.items (s.inner (s.case (at 2) (t.integer
    (spelled (codes "1") 2)) (at 2) (s.expression None (at 2)))) (s.items (s.inner (s.return (at 2) (Some (t.integer
    (spelled (codes "0") 2))) (at 2))) s.no_items)) (at 2))) ∷ []) 2)
    ≡ refused rule.MisplacedLabel 2
unfolding balanced_type common_type fit is_signed mixed_type promoted rank size_of unsigned_of binary_value
    shift_amount unary_value constant_in constant_of greatest_of suffix_of typed types_of bytes_of_literal character_value
    characters_of escaped literal_step next_character extent_of array_size member_offsets structure_of union_of room
    is_valid_program constant_word binary assigned cast row_of comma combined unary dereferenced indexed size_of_words
    assignment compound stepped condition conditional switch_value called called_through routine_words composite judged
    start reached reached_by reached_in element_number member_number number_behind part closed opened with_literal
    with_value without first_not_constant typed_unit
label_outside = refl

-- int main(void){int x=0;switch(x){
-- case
-- x:;}return 0;}
label_no_constant :
    (source ((s.definition (t.specifiers (word keyword.Int 1) t.no_specifiers) (t.function (t.named (spelled (codes
    "main") 1)) (at 1) (t.void_parameters (at 1)) (at 1)) (s.block (at 1) (s.items (s.local (declaration (t.specifiers
    (word keyword.Int 1) t.no_specifiers) (Some (declarators (init_declarator (t.named (spelled (codes "x") 1)) (Some
    ((at 1), (t.value (t.integer (spelled (codes "0") 1)))))) [])) (at 1))) (s.items (s.inner (s.switch (at 1) (at 1)
    (t.identifier (spelled (codes "x") 1)) (at 1) (s.block (at 1) (s.items (s.inner (s.case (at 2) (t.identifier
    (spelled (codes "x") 3)) (at 3) (s.expression None (at 3)))) s.no_items) (at 3)))) (s.items (s.inner (s.return (at
    3) (Some (t.integer (spelled (codes "0") 3))) (at 3))) s.no_items))) (at 3))) ∷ []) 3)
    ≡ refused rule.NoConstant 2
unfolding balanced_type common_type fit is_signed mixed_type promoted rank size_of unsigned_of binary_value
    shift_amount unary_value constant_in constant_of greatest_of suffix_of typed types_of bytes_of_literal character_value
    characters_of escaped literal_step next_character extent_of array_size member_offsets structure_of union_of room
    is_valid_program constant_word binary assigned cast row_of comma combined unary dereferenced indexed size_of_words
    assignment compound stepped condition conditional switch_value called called_through routine_words composite judged
    start reached reached_by reached_in element_number member_number number_behind part closed opened with_literal
    with_value without first_not_constant typed_unit
label_no_constant = refl

-- int main(void){int x=0;
-- case x:;return 0;}
label_of_two_rules :
    (source ((s.definition (t.specifiers (word keyword.Int 1) t.no_specifiers) (t.function (t.named (spelled (codes
    "main") 1)) (at 1) (t.void_parameters (at 1)) (at 1)) (s.block (at 1) (s.items (s.local (declaration (t.specifiers
    (word keyword.Int 1) t.no_specifiers) (Some (declarators (init_declarator (t.named (spelled (codes "x") 1)) (Some
    ((at 1), (t.value (t.integer (spelled (codes "0") 1)))))) [])) (at 1))) (s.items (s.inner (s.case (at 2)
    (t.identifier (spelled (codes "x") 2)) (at 2) (s.expression None (at 2)))) (s.items (s.inner (s.return (at 2)
    (Some (t.integer (spelled (codes "0") 2))) (at 2))) s.no_items))) (at 2))) ∷ []) 2)
    ≡ refused rule.NoConstant 2
unfolding balanced_type common_type fit is_signed mixed_type promoted rank size_of unsigned_of binary_value
    shift_amount unary_value constant_in constant_of greatest_of suffix_of typed types_of bytes_of_literal character_value
    characters_of escaped literal_step next_character extent_of array_size member_offsets structure_of union_of room
    is_valid_program constant_word binary assigned cast row_of comma combined unary dereferenced indexed size_of_words
    assignment compound stepped condition conditional switch_value called called_through routine_words composite judged
    start reached reached_by reached_in element_number member_number number_behind part closed opened with_literal
    with_value without first_not_constant typed_unit
label_of_two_rules = refl

-- int main(void){case
-- y:;return 0;}
label_undeclared :
    (source ((s.definition (t.specifiers (word keyword.Int 1) t.no_specifiers) (t.function (t.named (spelled (codes
    "main") 1)) (at 1) (t.void_parameters (at 1)) (at 1)) (s.block (at 1) (s.items (s.inner (s.case (at 1)
    (t.identifier (spelled (codes "y") 2)) (at 2) (s.expression None (at 2)))) (s.items (s.inner (s.return (at 2)
    (Some (t.integer (spelled (codes "0") 2))) (at 2))) s.no_items)) (at 2))) ∷ []) 2)
    ≡ refused rule.Undeclared 2
unfolding balanced_type common_type fit is_signed mixed_type promoted rank size_of unsigned_of binary_value
    shift_amount unary_value constant_in constant_of greatest_of suffix_of typed types_of bytes_of_literal character_value
    characters_of escaped literal_step next_character extent_of array_size member_offsets structure_of union_of room
    is_valid_program constant_word binary assigned cast row_of comma combined unary dereferenced indexed size_of_words
    assignment compound stepped condition conditional switch_value called called_through routine_words composite judged
    start reached reached_by reached_in element_number member_number number_behind part closed opened with_literal
    with_value without first_not_constant typed_unit
label_undeclared = refl

-- int main(void){
-- break;}
break_outside :
    (source ((s.definition (t.specifiers (word keyword.Int 1) t.no_specifiers) (t.function (t.named (spelled (codes
    "main") 1)) (at 1) (t.void_parameters (at 1)) (at 1)) (s.block (at 1) (s.items (s.inner (s.break (at 2) (at 2)))
    s.no_items) (at 2))) ∷ []) 2)
    ≡ refused rule.MisplacedLabel 2
unfolding balanced_type common_type fit is_signed mixed_type promoted rank size_of unsigned_of binary_value
    shift_amount unary_value constant_in constant_of greatest_of suffix_of typed types_of bytes_of_literal character_value
    characters_of escaped literal_step next_character extent_of array_size member_offsets structure_of union_of room
    is_valid_program constant_word binary assigned cast row_of comma combined unary dereferenced indexed size_of_words
    assignment compound stepped condition conditional switch_value called called_through routine_words composite judged
    start reached reached_by reached_in element_number member_number number_behind part closed opened with_literal
    with_value without first_not_constant typed_unit
break_outside = refl

-- int main(void){switch(1){case 1:
-- continue;}return 0;}
continue_in_a_switch :
    (source ((s.definition (t.specifiers (word keyword.Int 1) t.no_specifiers) (t.function (t.named (spelled (codes
    "main") 1)) (at 1) (t.void_parameters (at 1)) (at 1)) (s.block (at 1) (s.items (s.inner (s.switch (at 1) (at 1)
    (t.integer (spelled (codes "1") 1)) (at 1) (s.block (at 1) (s.items (s.inner (s.case (at 1) (t.integer (spelled
    (codes "1") 1)) (at 1) (s.continue (at 2) (at 2)))) s.no_items) (at 2)))) (s.items (s.inner (s.return (at 2) (Some
    (t.integer (spelled (codes "0") 2))) (at 2))) s.no_items)) (at 2))) ∷ []) 2)
    ≡ refused rule.MisplacedLabel 2
unfolding balanced_type common_type fit is_signed mixed_type promoted rank size_of unsigned_of binary_value
    shift_amount unary_value constant_in constant_of greatest_of suffix_of typed types_of bytes_of_literal character_value
    characters_of escaped literal_step next_character extent_of array_size member_offsets structure_of union_of room
    is_valid_program constant_word binary assigned cast row_of comma combined unary dereferenced indexed size_of_words
    assignment compound stepped condition conditional switch_value called called_through routine_words composite judged
    start reached reached_by reached_in element_number member_number number_behind part closed opened with_literal
    with_value without first_not_constant typed_unit
continue_in_a_switch = refl

-- void f(void){
-- return
-- 1;}int main(void){return 0;}
value_of_void :
    (source ((s.definition (t.specifiers (word keyword.Void 1) t.no_specifiers) (t.function (t.named (spelled (codes
    "f") 1)) (at 1) (t.void_parameters (at 1)) (at 1)) (s.block (at 1) (s.items (s.inner (s.return (at 2) (Some
    (t.integer (spelled (codes "1") 3))) (at 3))) s.no_items) (at 3))) ∷ (s.definition (t.specifiers (word keyword.Int
    3) t.no_specifiers) (t.function (t.named (spelled (codes "main") 3)) (at 3) (t.void_parameters (at 3)) (at 3))
    (s.block (at 3) (s.items (s.inner (s.return (at 3) (Some (t.integer (spelled (codes "0") 3))) (at 3))) s.no_items)
    (at 3))) ∷ []) 3)
    ≡ refused rule.MistakenReturn 2
unfolding balanced_type common_type fit is_signed mixed_type promoted rank size_of unsigned_of binary_value
    shift_amount unary_value constant_in constant_of greatest_of suffix_of typed types_of bytes_of_literal character_value
    characters_of escaped literal_step next_character extent_of array_size member_offsets structure_of union_of room
    is_valid_program constant_word binary assigned cast row_of comma combined unary dereferenced indexed size_of_words
    assignment compound stepped condition conditional switch_value called called_through routine_words composite judged
    start reached reached_by reached_in element_number member_number number_behind part closed opened with_literal
    with_value without first_not_constant typed_unit
value_of_void = refl

-- int f(void){
-- return;}int main(void){return 0;}
no_value :
    (source ((s.definition (t.specifiers (word keyword.Int 1) t.no_specifiers) (t.function (t.named (spelled (codes
    "f") 1)) (at 1) (t.void_parameters (at 1)) (at 1)) (s.block (at 1) (s.items (s.inner (s.return (at 2) None (at
    2))) s.no_items) (at 2))) ∷ (s.definition (t.specifiers (word keyword.Int 2) t.no_specifiers) (t.function (t.named
    (spelled (codes "main") 2)) (at 2) (t.void_parameters (at 2)) (at 2)) (s.block (at 2) (s.items (s.inner (s.return
    (at 2) (Some (t.integer (spelled (codes "0") 2))) (at 2))) s.no_items) (at 2))) ∷ []) 2)
    ≡ refused rule.MistakenReturn 2
unfolding balanced_type common_type fit is_signed mixed_type promoted rank size_of unsigned_of binary_value
    shift_amount unary_value constant_in constant_of greatest_of suffix_of typed types_of bytes_of_literal character_value
    characters_of escaped literal_step next_character extent_of array_size member_offsets structure_of union_of room
    is_valid_program constant_word binary assigned cast row_of comma combined unary dereferenced indexed size_of_words
    assignment compound stepped condition conditional switch_value called called_through routine_words composite judged
    start reached reached_by reached_in element_number member_number number_behind part closed opened with_literal
    with_value without first_not_constant typed_unit
no_value = refl

-- int*f(void){
-- return
-- 1;}int main(void){return 0;}
no_result :
    (source ((s.definition (t.specifiers (word keyword.Int 1) t.no_specifiers) (t.pointer (at 1) [] (t.function
    (t.named (spelled (codes "f") 1)) (at 1) (t.void_parameters (at 1)) (at 1))) (s.block (at 1) (s.items (s.inner
    (s.return (at 2) (Some (t.integer (spelled (codes "1") 3))) (at 3))) s.no_items) (at 3))) ∷ (s.definition
    (t.specifiers (word keyword.Int 3) t.no_specifiers) (t.function (t.named (spelled (codes "main") 3)) (at 3)
    (t.void_parameters (at 3)) (at 3)) (s.block (at 3) (s.items (s.inner (s.return (at 3) (Some (t.integer (spelled
    (codes "0") 3))) (at 3))) s.no_items) (at 3))) ∷ []) 3)
    ≡ refused rule.NoConversion 2
unfolding balanced_type common_type fit is_signed mixed_type promoted rank size_of unsigned_of binary_value
    shift_amount unary_value constant_in constant_of greatest_of suffix_of typed types_of bytes_of_literal character_value
    characters_of escaped literal_step next_character extent_of array_size member_offsets structure_of union_of room
    is_valid_program constant_word binary assigned cast row_of comma combined unary dereferenced indexed size_of_words
    assignment compound stepped condition conditional switch_value called called_through routine_words composite judged
    start reached reached_by reached_in element_number member_number number_behind part closed opened with_literal
    with_value without first_not_constant typed_unit
no_result = refl
