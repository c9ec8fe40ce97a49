-- Initializers that violate a rule (C99 6.7.8).
-- gcc 12.2.0 (-std=c99 -pedantic-errors -fsyntax-only) accepts or refuses the texts of all rows but of these as they
-- do, which have a rule or limit that gcc has not: too_large, size_of_another_block.
use Rattle.std.proofs.Common.{◌≡◌, [], ◌∷◌, Some, None, refl}
use Rattle.std.specs.Prelude.{codes}
use Rattle.c_lexer.specs.declared.keyword.Keyword.TheVariants as keyword
use Rattle.c_lexer.specs.declared.punctuator.Punctuator.TheVariants as sign
use Rattle.c_syntax.specs.Statements as s
use Rattle.c_syntax.specs.Tree as t
use Rattle.c_faults.specs.declared.fault.Rule.TheVariants as rule
use Rattle.obj_memory.specs.Integers.{balanced_type, common_type, fit, is_signed, mixed_type, promoted, rank, size_of}
use Rattle.obj_memory.specs.Integers.{unsigned_of}
use Rattle.obj_memory.specs.Operators.{binary_value, shift_amount, unary_value}
use Rattle.c_lexer.specs.Constants.{constant_in, constant_of, greatest_of, suffix_of, typed, types_of}
use Rattle.c_lexer.specs.Literals.{bytes_of_literal, character_value, characters_of, escaped, literal_step, next_character}
use Rattle.c_tree.specs.Extents.{extent_of}
use Rattle.c_tree.specs.Layout.{array_size, member_offsets, structure_of, union_of}
use Rattle.c_tree.specs.Room.{room}
use Rattle.c_tree.specs.ValidProgram.{is_valid_program}
use Rattle.c_const.specs.Initializers.{first_not_constant}
use Rattle.c_const.specs.Integers.{constant_word}
use Rattle.c_rules.specs.Binary.{binary}
use Rattle.c_rules.specs.Conversions.{assigned, cast}
use Rattle.c_rules.specs.Rows.{row_of}
use Rattle.c_rules.specs.Unary.{comma, combined, unary}
use Rattle.c_place_rules.specs.Places.{dereferenced, indexed, size_of as size_of_words}
use Rattle.c_assignment_rules.specs.Assignments.{assignment, compound, stepped}
use Rattle.c_condition_rules.specs.Conditions.{condition, conditional, switch_value}
use Rattle.c_call_rules.specs.Calls.{called, called_through}
use Rattle.c_tree.specs.Routines.{routine_words}
use Rattle.c_scope.specs.Composite.{composite}
use Rattle.c_scope.specs.Declaring.{judged}
use Rattle.c_scope.specs.Start.{start}
use Rattle.c_current_object.specs.CurrentObject.{reached, reached_by, reached_in}
use Rattle.c_current_object.specs.Subobjects.{element_number, member_number, number_behind, part}
use Rattle.c_initializer_rules.specs.Initializing.{closed, opened, with_literal, with_value}
use Rattle.c_initializer_rules.specs.Placed.{without}
use Rattle.c_unit_typing.specs.Typed.{typed_unit}
use Rattle.typing_rows.proofs.Units.Sources.{at, declaration, declarators, designation, function, init_declarator}
use Rattle.typing_rows.proofs.Units.Sources.{inconstant, refused, source, spelled, word}

-- int a[1]={
-- 1,2};
too_many :
    (source ((s.declaration (declaration (t.specifiers (word keyword.Int 1) t.no_specifiers) (Some (declarators
    (init_declarator (t.array (t.named (spelled (codes "a") 1)) (at 1) (t.integer (spelled (codes "1") 1)) (at 1))
    (Some (
      (at 1),
      (t.braced (at 1) (t.item None (t.value (t.integer (spelled (codes "1") 2)))) (t.more_items (at 2)
          (t.item None (t.value (t.integer (spelled (codes "2") 2)))) t.end_of_items) None (at 2)),
    ))) [])) (at 2))) ∷ []) 2)
    ≡ refused rule.MisplacedItem 1
unfolding balanced_type common_type fit is_signed mixed_type promoted rank size_of unsigned_of binary_value
    shift_amount unary_value constant_in constant_of greatest_of suffix_of typed types_of bytes_of_literal character_value
    characters_of escaped literal_step next_character extent_of array_size member_offsets structure_of union_of room
    is_valid_program constant_word binary assigned cast row_of comma combined unary dereferenced indexed size_of_words
    assignment compound stepped condition conditional switch_value called called_through routine_words composite judged
    start reached reached_by reached_in element_number member_number number_behind part closed opened with_literal
    with_value without first_not_constant typed_unit
too_many = refl

-- int a[1]={1,2,
-- y};
too_many_and_undeclared :
    (source ((s.declaration (declaration (t.specifiers (word keyword.Int 1) t.no_specifiers) (Some (declarators
    (init_declarator (t.array (t.named (spelled (codes "a") 1)) (at 1) (t.integer (spelled (codes "1") 1)) (at 1))
    (Some (
      (at 1),
      (t.braced (at 1) (t.item None (t.value (t.integer (spelled (codes "1") 1)))) (t.more_items (at 1)
          (t.item None (t.value (t.integer (spelled (codes "2") 1)))) (t.more_items (at 1) (t.item None (t.value
          (t.identifier (spelled (codes "y") 2)))) t.end_of_items)) None (at 2)),
    ))) [])) (at 2))) ∷ []) 2)
    ≡ refused rule.Undeclared 2
unfolding balanced_type common_type fit is_signed mixed_type promoted rank size_of unsigned_of binary_value
    shift_amount unary_value constant_in constant_of greatest_of suffix_of typed types_of bytes_of_literal character_value
    characters_of escaped literal_step next_character extent_of array_size member_offsets structure_of union_of room
    is_valid_program constant_word binary assigned cast row_of comma combined unary dereferenced indexed size_of_words
    assignment compound stepped condition conditional switch_value called called_through routine_words composite judged
    start reached reached_by reached_in element_number member_number number_behind part closed opened with_literal
    with_value without first_not_constant typed_unit
too_many_and_undeclared = refl

-- int a[1]={1,2,
-- [5]=3};
too_many_and_designator :
    (source ((s.declaration (declaration (t.specifiers (word keyword.Int 1) t.no_specifiers) (Some (declarators
    (init_declarator (t.array (t.named (spelled (codes "a") 1)) (at 1) (t.integer (spelled (codes "1") 1)) (at 1))
    (Some (
      (at 1),
      (t.braced (at 1) (t.item None (t.value (t.integer (spelled (codes "1") 1)))) (t.more_items (at 1)
          (t.item None (t.value (t.integer (spelled (codes "2") 1)))) (t.more_items (at 1) (t.item (Some (designation
          ((t.element (at 2) (t.integer (spelled (codes "5") 2)) (at 2)) ∷ []) (at 2))) (t.value (t.integer (spelled (codes
          "3") 2)))) t.end_of_items)) None (at 2)),
    ))) [])) (at 2))) ∷ []) 2)
    ≡ refused rule.MisplacedItem 2
unfolding balanced_type common_type fit is_signed mixed_type promoted rank size_of unsigned_of binary_value
    shift_amount unary_value constant_in constant_of greatest_of suffix_of typed types_of bytes_of_literal character_value
    characters_of escaped literal_step next_character extent_of array_size member_offsets structure_of union_of room
    is_valid_program constant_word binary assigned cast row_of comma combined unary dereferenced indexed size_of_words
    assignment compound stepped condition conditional switch_value called called_through routine_words composite judged
    start reached reached_by reached_in element_number member_number number_behind part closed opened with_literal
    with_value without first_not_constant typed_unit
too_many_and_designator = refl

-- int a[2]={1,{
-- [5]=2}};
designator_of_a_scalar :
    (source ((s.declaration (declaration (t.specifiers (word keyword.Int 1) t.no_specifiers) (Some (declarators
    (init_declarator (t.array (t.named (spelled (codes "a") 1)) (at 1) (t.integer (spelled (codes "2") 1)) (at 1))
    (Some (
      (at 1),
      (t.braced (at 1) (t.item None (t.value (t.integer (spelled (codes "1") 1)))) (t.more_items (at 1)
          (t.item None (t.braced (at 1) (t.item (Some (designation ((t.element (at 2) (t.integer (spelled (codes "5") 2))
          (at 2)) ∷ []) (at 2))) (t.value (t.integer (spelled (codes "2") 2)))) t.end_of_items None (at 2))) t.end_of_items)
          None (at 2)),
    ))) [])) (at 2))) ∷ []) 2)
    ≡ refused rule.MisplacedItem 2
unfolding balanced_type common_type fit is_signed mixed_type promoted rank size_of unsigned_of binary_value
    shift_amount unary_value constant_in constant_of greatest_of suffix_of typed types_of bytes_of_literal character_value
    characters_of escaped literal_step next_character extent_of array_size member_offsets structure_of union_of room
    is_valid_program constant_word binary assigned cast row_of comma combined unary dereferenced indexed size_of_words
    assignment compound stepped condition conditional switch_value called called_through routine_words composite judged
    start reached reached_by reached_in element_number member_number number_behind part closed opened with_literal
    with_value without first_not_constant typed_unit
designator_of_a_scalar = refl

-- int a[2]={
-- [2]=1};
designator_past_the_end :
    (source ((s.declaration (declaration (t.specifiers (word keyword.Int 1) t.no_specifiers) (Some (declarators
    (init_declarator (t.array (t.named (spelled (codes "a") 1)) (at 1) (t.integer (spelled (codes "2") 1)) (at 1))
    (Some (
      (at 1),
      (t.braced (at 1) (t.item (Some (designation ((t.element (at 2) (t.integer (spelled (codes "2") 2))
          (at 2)) ∷ []) (at 2))) (t.value (t.integer (spelled (codes "1") 2)))) t.end_of_items None (at 2)),
    ))) [])) (at 2)))
    ∷ []) 2)
    ≡ refused rule.MisplacedItem 2
unfolding balanced_type common_type fit is_signed mixed_type promoted rank size_of unsigned_of binary_value
    shift_amount unary_value constant_in constant_of greatest_of suffix_of typed types_of bytes_of_literal character_value
    characters_of escaped literal_step next_character extent_of array_size member_offsets structure_of union_of room
    is_valid_program constant_word binary assigned cast row_of comma combined unary dereferenced indexed size_of_words
    assignment compound stepped condition conditional switch_value called called_through routine_words composite judged
    start reached reached_by reached_in element_number member_number number_behind part closed opened with_literal
    with_value without first_not_constant typed_unit
designator_past_the_end = refl

-- struct{int a;}s={
-- .b=1};
no_such_member :
    (source ((s.declaration (declaration (t.specifiers (t.structure_body keyword.Struct (at 1) None (at 1) (t.members
    (t.member_declaration (t.specifiers (word keyword.Int 1) t.no_specifiers) (t.named (spelled (codes "a") 1))
    t.end_of_declarators (at 1)) t.no_members) (at 1)) t.no_specifiers) (Some (declarators (init_declarator (t.named
    (spelled (codes "s") 1)) (Some (
      (at 1),
      (t.braced (at 1) (t.item (Some (designation ((t.member_named (at 2)
          (spelled (codes "b") 2)) ∷ []) (at 2))) (t.value (t.integer (spelled (codes "1") 2)))) t.end_of_items None (at
          2)),
    ))) [])) (at 2))) ∷ []) 2)
    ≡ refused rule.MisplacedItem 2
unfolding balanced_type common_type fit is_signed mixed_type promoted rank size_of unsigned_of binary_value
    shift_amount unary_value constant_in constant_of greatest_of suffix_of typed types_of bytes_of_literal character_value
    characters_of escaped literal_step next_character extent_of array_size member_offsets structure_of union_of room
    is_valid_program constant_word binary assigned cast row_of comma combined unary dereferenced indexed size_of_words
    assignment compound stepped condition conditional switch_value called called_through routine_words composite judged
    start reached reached_by reached_in element_number member_number number_behind part closed opened with_literal
    with_value without first_not_constant typed_unit
no_such_member = refl

-- int n;int a[2]={
-- [n]=1};
no_constant_index :
    (source ((s.declaration (declaration (t.specifiers (word keyword.Int 1) t.no_specifiers) (Some (declarators
    (init_declarator (t.named (spelled (codes "n") 1)) None) [])) (at 1))) ∷ (s.declaration (declaration (t.specifiers
    (word keyword.Int 1) t.no_specifiers) (Some (declarators (init_declarator (t.array (t.named (spelled (codes "a")
    1)) (at 1) (t.integer (spelled (codes "2") 1)) (at 1)) (Some (
      (at 1),
      (t.braced (at 1) (t.item (Some (designation
          ((t.element (at 2) (t.identifier (spelled (codes "n") 2)) (at 2)) ∷ []) (at 2))) (t.value (t.integer (spelled
          (codes "1") 2)))) t.end_of_items None (at 2)),
    ))) [])) (at 2))) ∷ []) 2)
    ≡ refused rule.MisplacedItem 2
unfolding balanced_type common_type fit is_signed mixed_type promoted rank size_of unsigned_of binary_value
    shift_amount unary_value constant_in constant_of greatest_of suffix_of typed types_of bytes_of_literal character_value
    characters_of escaped literal_step next_character extent_of array_size member_offsets structure_of union_of room
    is_valid_program constant_word binary assigned cast row_of comma combined unary dereferenced indexed size_of_words
    assignment compound stepped condition conditional switch_value called called_through routine_words composite judged
    start reached reached_by reached_in element_number member_number number_behind part closed opened with_literal
    with_value without first_not_constant typed_unit
no_constant_index = refl

-- char a[2]=
-- "abc";
literal_too_long :
    (source ((s.declaration (declaration (t.specifiers (word keyword.Char 1) t.no_specifiers) (Some (declarators
    (init_declarator (t.array (t.named (spelled (codes "a") 1)) (at 1) (t.integer (spelled (codes "2") 1)) (at 1))
    (Some ((at 1), (t.value (t.strings (spelled (codes "\"abc\"") 2) []))))) [])) (at 2))) ∷ []) 2)
    ≡ refused rule.MisplacedItem 2
unfolding balanced_type common_type fit is_signed mixed_type promoted rank size_of unsigned_of binary_value
    shift_amount unary_value constant_in constant_of greatest_of suffix_of typed types_of bytes_of_literal character_value
    characters_of escaped literal_step next_character extent_of array_size member_offsets structure_of union_of room
    is_valid_program constant_word binary assigned cast row_of comma combined unary dereferenced indexed size_of_words
    assignment compound stepped condition conditional switch_value called called_through routine_words composite judged
    start reached reached_by reached_in element_number member_number number_behind part closed opened with_literal
    with_value without first_not_constant typed_unit
literal_too_long = refl

-- char a[3]={{
-- "ab"}};
literal_in_two_braces :
    (source ((s.declaration (declaration (t.specifiers (word keyword.Char 1) t.no_specifiers) (Some (declarators
    (init_declarator (t.array (t.named (spelled (codes "a") 1)) (at 1) (t.integer (spelled (codes "3") 1)) (at 1))
    (Some (
      (at 1),
      (t.braced (at 1) (t.item None (t.braced (at 1) (t.item None (t.value (t.strings (spelled (codes
          "\"ab\"") 2) []))) t.end_of_items None (at 2))) t.end_of_items None (at 2)),
    ))) [])) (at 2))) ∷ []) 2)
    ≡ refused rule.NoConversion 2
unfolding balanced_type common_type fit is_signed mixed_type promoted rank size_of unsigned_of binary_value
    shift_amount unary_value constant_in constant_of greatest_of suffix_of typed types_of bytes_of_literal character_value
    characters_of escaped literal_step next_character extent_of array_size member_offsets structure_of union_of room
    is_valid_program constant_word binary assigned cast row_of comma combined unary dereferenced indexed size_of_words
    assignment compound stepped condition conditional switch_value called called_through routine_words composite judged
    start reached reached_by reached_in element_number member_number number_behind part closed opened with_literal
    with_value without first_not_constant typed_unit
literal_in_two_braces = refl

-- char a[]=
-- ("ab");
literal_in_parentheses :
    (source ((s.declaration (declaration (t.specifiers (word keyword.Char 1) t.no_specifiers) (Some (declarators
    (init_declarator (t.open_array (t.named (spelled (codes "a") 1)) (at 1) (at 1)) (Some (
      (at 1),
      (t.value
          (t.parenthesized (at 2) (t.strings (spelled (codes "\"ab\"") 2) []) (at 2))),
    ))) [])) (at 2))) ∷ []) 2)
    ≡ refused rule.NoConversion 2
unfolding balanced_type common_type fit is_signed mixed_type promoted rank size_of unsigned_of binary_value
    shift_amount unary_value constant_in constant_of greatest_of suffix_of typed types_of bytes_of_literal character_value
    characters_of escaped literal_step next_character extent_of array_size member_offsets structure_of union_of room
    is_valid_program constant_word binary assigned cast row_of comma combined unary dereferenced indexed size_of_words
    assignment compound stepped condition conditional switch_value called called_through routine_words composite judged
    start reached reached_by reached_in element_number member_number number_behind part closed opened with_literal
    with_value without first_not_constant typed_unit
literal_in_parentheses = refl

-- int a[2]=
-- 1;
array_without_braces :
    (source ((s.declaration (declaration (t.specifiers (word keyword.Int 1) t.no_specifiers) (Some (declarators
    (init_declarator (t.array (t.named (spelled (codes "a") 1)) (at 1) (t.integer (spelled (codes "2") 1)) (at 1))
    (Some ((at 1), (t.value (t.integer (spelled (codes "1") 2)))))) [])) (at 2))) ∷ []) 2)
    ≡ refused rule.NoConversion 2
unfolding balanced_type common_type fit is_signed mixed_type promoted rank size_of unsigned_of binary_value
    shift_amount unary_value constant_in constant_of greatest_of suffix_of typed types_of bytes_of_literal character_value
    characters_of escaped literal_step next_character extent_of array_size member_offsets structure_of union_of room
    is_valid_program constant_word binary assigned cast row_of comma combined unary dereferenced indexed size_of_words
    assignment compound stepped condition conditional switch_value called called_through routine_words composite judged
    start reached reached_by reached_in element_number member_number number_behind part closed opened with_literal
    with_value without first_not_constant typed_unit
array_without_braces = refl

-- int*p;struct{int a;int b;}s={1,
-- p};
no_conversion :
    (source ((s.declaration (declaration (t.specifiers (word keyword.Int 1) t.no_specifiers) (Some (declarators
    (init_declarator (t.pointer (at 1) [] (t.named (spelled (codes "p") 1))) None) [])) (at 1))) ∷ (s.declaration
    (declaration (t.specifiers (t.structure_body keyword.Struct (at 1) None (at 1) (t.members (t.member_declaration
    (t.specifiers (word keyword.Int 1) t.no_specifiers) (t.named (spelled (codes "a") 1)) t.end_of_declarators (at 1))
    (t.members (t.member_declaration (t.specifiers (word keyword.Int 1) t.no_specifiers) (t.named (spelled (codes "b")
    1)) t.end_of_declarators (at 1)) t.no_members)) (at 1)) t.no_specifiers) (Some (declarators (init_declarator
    (t.named (spelled (codes "s") 1)) (Some (
      (at 1),
      (t.braced (at 1) (t.item None (t.value (t.integer (spelled (codes
          "1") 1)))) (t.more_items (at 1) (t.item None (t.value (t.identifier (spelled (codes "p") 2)))) t.end_of_items)
          None (at 2)),
    ))) [])) (at 2))) ∷ []) 2)
    ≡ refused rule.NoConversion 2
unfolding balanced_type common_type fit is_signed mixed_type promoted rank size_of unsigned_of binary_value
    shift_amount unary_value constant_in constant_of greatest_of suffix_of typed types_of bytes_of_literal character_value
    characters_of escaped literal_step next_character extent_of array_size member_offsets structure_of union_of room
    is_valid_program constant_word binary assigned cast row_of comma combined unary dereferenced indexed size_of_words
    assignment compound stepped condition conditional switch_value called called_through routine_words composite judged
    start reached reached_by reached_in element_number member_number number_behind part closed opened with_literal
    with_value without first_not_constant typed_unit
no_conversion = refl

-- void f(void){}void(*p)(void)=f;
-- void(*q)(void)=
-- *p;int main(void){return 0;}
function_of_an_object :
    (source ((s.definition (t.specifiers (word keyword.Void 1) t.no_specifiers) (t.function (t.named (spelled (codes
    "f") 1)) (at 1) (t.void_parameters (at 1)) (at 1)) (s.block (at 1) s.no_items (at 1))) ∷ (s.declaration
    (declaration (t.specifiers (word keyword.Void 1) t.no_specifiers) (Some (declarators (init_declarator (t.function
    (t.grouped (at 1) (t.pointer (at 1) [] (t.named (spelled (codes "p") 1))) (at 1)) (at 1) (t.void_parameters (at
    1)) (at 1)) (Some ((at 1), (t.value (t.identifier (spelled (codes "f") 1)))))) [])) (at 1))) ∷ (s.declaration
    (declaration (t.specifiers (word keyword.Void 2) t.no_specifiers) (Some (declarators (init_declarator (t.function
    (t.grouped (at 2) (t.pointer (at 2) [] (t.named (spelled (codes "q") 2))) (at 2)) (at 2) (t.void_parameters (at
    2)) (at 2)) (Some ((at 2), (t.value (t.unary sign.Star (at 3) (t.identifier (spelled (codes "p") 3))))))) [])) (at
    3))) ∷ (s.definition (t.specifiers (word keyword.Int 3) t.no_specifiers) (t.function (t.named (spelled (codes
    "main") 3)) (at 3) (t.void_parameters (at 3)) (at 3)) (s.block (at 3) (s.items (s.inner (s.return (at 3) (Some
    (t.integer (spelled (codes "0") 3))) (at 3))) s.no_items) (at 3))) ∷ []) 3)
    ≡ inconstant 3
unfolding balanced_type common_type fit is_signed mixed_type promoted rank size_of unsigned_of binary_value
    shift_amount unary_value constant_in constant_of greatest_of suffix_of typed types_of bytes_of_literal character_value
    characters_of escaped literal_step next_character extent_of array_size member_offsets structure_of union_of room
    is_valid_program constant_word binary assigned cast row_of comma combined unary dereferenced indexed size_of_words
    assignment compound stepped condition conditional switch_value called called_through routine_words composite judged
    start reached reached_by reached_in element_number member_number number_behind part closed opened with_literal
    with_value without first_not_constant typed_unit
function_of_an_object = refl

-- int a[]={
-- sizeof a};
own_size :
    (source ((s.declaration (declaration (t.specifiers (word keyword.Int 1) t.no_specifiers) (Some (declarators
    (init_declarator (t.open_array (t.named (spelled (codes "a") 1)) (at 1) (at 1)) (Some (
      (at 1),
      (t.braced (at 1)
          (t.item None (t.value (t.sizeof_expression (at 2) (t.identifier (spelled (codes "a") 2))))) t.end_of_items None
          (at 2)),
    ))) [])) (at 2))) ∷ []) 2)
    ≡ refused rule.Incomplete 2
unfolding balanced_type common_type fit is_signed mixed_type promoted rank size_of unsigned_of binary_value
    shift_amount unary_value constant_in constant_of greatest_of suffix_of typed types_of bytes_of_literal character_value
    characters_of escaped literal_step next_character extent_of array_size member_offsets structure_of union_of room
    is_valid_program constant_word binary assigned cast row_of comma combined unary dereferenced indexed size_of_words
    assignment compound stepped condition conditional switch_value called called_through routine_words composite judged
    start reached reached_by reached_in element_number member_number number_behind part closed opened with_literal
    with_value without first_not_constant typed_unit
own_size = refl

-- int a[]={
-- [4294967295]=1};
too_large :
    (source ((s.declaration (declaration (t.specifiers (word keyword.Int 1) t.no_specifiers) (Some (declarators
    (init_declarator (t.open_array (t.named (spelled (codes "a") 1)) (at 1) (at 1)) (Some (
      (at 1),
      (t.braced (at 1)
          (t.item (Some (designation ((t.element (at 2) (t.integer (spelled (codes "4294967295") 2)) (at 2)) ∷ []) (at 2)))
          (t.value (t.integer (spelled (codes "1") 2)))) t.end_of_items None (at 2)),
    ))) [])) (at 2))) ∷ []) 2)
    ≡ refused rule.LargeType 1
unfolding balanced_type common_type fit is_signed mixed_type promoted rank size_of unsigned_of binary_value
    shift_amount unary_value constant_in constant_of greatest_of suffix_of typed types_of bytes_of_literal character_value
    characters_of escaped literal_step next_character extent_of array_size member_offsets structure_of union_of room
    is_valid_program constant_word binary assigned cast row_of comma combined unary dereferenced indexed size_of_words
    assignment compound stepped condition conditional switch_value called called_through routine_words composite judged
    start reached reached_by reached_in element_number member_number number_behind part closed opened with_literal
    with_value without first_not_constant typed_unit
too_large = refl

-- void f(void){extern int a[3];}
-- int a[]={1,2};int main(void){return 0;}
size_of_another_block :
    (source ((s.definition (t.specifiers (word keyword.Void 1) t.no_specifiers) (t.function (t.named (spelled (codes
    "f") 1)) (at 1) (t.void_parameters (at 1)) (at 1)) (s.block (at 1) (s.items (s.local (declaration (t.specifiers
    (word keyword.Extern 1) (t.specifiers (word keyword.Int 1) t.no_specifiers)) (Some (declarators (init_declarator
    (t.array (t.named (spelled (codes "a") 1)) (at 1) (t.integer (spelled (codes "3") 1)) (at 1)) None) [])) (at 1)))
    s.no_items) (at 1))) ∷ (s.declaration (declaration (t.specifiers (word keyword.Int 2) t.no_specifiers) (Some
    (declarators (init_declarator (t.open_array (t.named (spelled (codes "a") 2)) (at 2) (at 2)) (Some (
      (at 2),
      (t.braced (at 2) (t.item None (t.value (t.integer (spelled (codes "1") 2)))) (t.more_items (at 2) (t.item None
          (t.value (t.integer (spelled (codes "2") 2)))) t.end_of_items) None (at 2)),
    ))) [])) (at 2))) ∷ (s.definition
    (t.specifiers (word keyword.Int 2) t.no_specifiers) (t.function (t.named (spelled (codes "main") 2)) (at 2)
    (t.void_parameters (at 2)) (at 2)) (s.block (at 2) (s.items (s.inner (s.return (at 2) (Some (t.integer (spelled
    (codes "0") 2))) (at 2))) s.no_items) (at 2))) ∷ []) 2)
    ≡ refused rule.Redeclared 2
unfolding balanced_type common_type fit is_signed mixed_type promoted rank size_of unsigned_of binary_value
    shift_amount unary_value constant_in constant_of greatest_of suffix_of typed types_of bytes_of_literal character_value
    characters_of escaped literal_step next_character extent_of array_size member_offsets structure_of union_of room
    is_valid_program constant_word binary assigned cast row_of comma combined unary dereferenced indexed size_of_words
    assignment compound stepped condition conditional switch_value called called_through routine_words composite judged
    start reached reached_by reached_in element_number member_number number_behind part closed opened with_literal
    with_value without first_not_constant typed_unit
size_of_another_block = refl
