-- The order of the rules: pairs of violations, the end of the file, and limits.
-- gcc 12.2.0 (-std=c99 -pedantic-errors -fsyntax-only) accepts or refuses the texts of all rows but of these as they
-- do, which have a rule or limit that gcc has not: no_main, main_only_declared, main_before_uses, first_use,
-- use_in_an_initializer, globals, rounded, not_constant_first, parameters, parameters_before_globals.
use Rattle.std.proofs.Common.{◌≡◌, true, [], ◌∷◌, Some, None, refl}
use Rattle.std.specs.Prelude.{codes}
use Rattle.c_lexer.specs.declared.keyword.Keyword.TheVariants as keyword
use Rattle.c_lexer.specs.declared.punctuator.Punctuator.TheVariants as sign
use Rattle.c_syntax.specs.Statements as s
use Rattle.c_syntax.specs.Tree as t
use Rattle.c_faults.specs.declared.fault.Rule.TheVariants as rule
use Rattle.c_unit_typing.specs.declared.limits.Limited.TheVariants as limited
use Rattle.obj_memory.specs.Integers.{balanced_type, common_type, fit, is_signed, mixed_type, promoted, rank, size_of}
use Rattle.obj_memory.specs.Integers.{unsigned_of}
use Rattle.obj_memory.specs.Operators.{binary_value, shift_amount, unary_value}
use Rattle.c_lexer.specs.Constants.{constant_in, constant_of, greatest_of, suffix_of, typed, types_of}
use Rattle.c_lexer.specs.Literals.{bytes_of_literal, character_value, characters_of, escaped, literal_step, next_character}
use Rattle.c_tree.specs.Extents.{extent_of}
use Rattle.c_tree.specs.Layout.{array_size, member_offsets, structure_of, union_of}
use Rattle.c_tree.specs.Room.{room}
use Rattle.c_tree.specs.ValidProgram.{is_valid_program}
use Rattle.c_const.specs.Initializers.{first_not_constant}
use Rattle.c_const.specs.Integers.{constant_word}
use Rattle.c_rules.specs.Binary.{binary}
use Rattle.c_rules.specs.Conversions.{assigned, cast}
use Rattle.c_rules.specs.Rows.{row_of}
use Rattle.c_rules.specs.Unary.{comma, combined, unary}
use Rattle.c_place_rules.specs.Places.{dereferenced, indexed, size_of as size_of_words}
use Rattle.c_assignment_rules.specs.Assignments.{assignment, compound, stepped}
use Rattle.c_condition_rules.specs.Conditions.{condition, conditional, switch_value}
use Rattle.c_call_rules.specs.Calls.{called, called_through}
use Rattle.c_tree.specs.Routines.{routine_words}
use Rattle.c_scope.specs.Composite.{composite}
use Rattle.c_scope.specs.Declaring.{judged}
use Rattle.c_scope.specs.Start.{start}
use Rattle.c_current_object.specs.CurrentObject.{reached, reached_by, reached_in}
use Rattle.c_current_object.specs.Subobjects.{element_number, member_number, number_behind, part}
use Rattle.c_initializer_rules.specs.Initializing.{closed, opened, with_literal, with_value}
use Rattle.c_initializer_rules.specs.Placed.{without}
use Rattle.c_unit_typing.specs.Typed.{typed_unit}
use Rattle.typing_rows.proofs.Units.Sources.{accepted, at, declaration, declarators, function, init_declarator}
use Rattle.typing_rows.proofs.Units.Sources.{inconstant, large, number, refused, source, spelled, word}

-- int x=
-- y;
-- int z=w;int main(void){return 0;}
first_of_two :
    (source ((s.declaration (declaration (t.specifiers (word keyword.Int 1) t.no_specifiers) (Some (declarators
    (init_declarator (t.named (spelled (codes "x") 1)) (Some (
      (at 1),
      (t.value (t.identifier (spelled (codes "y")
          2))),
    ))) [])) (at 2))) ∷ (s.declaration (declaration (t.specifiers (word keyword.Int 3) t.no_specifiers) (Some
    (declarators (init_declarator (t.named (spelled (codes "z") 3)) (Some (
      (at 3),
      (t.value (t.identifier (spelled
          (codes "w") 3))),
    ))) [])) (at 3))) ∷ (s.definition (t.specifiers (word keyword.Int 3) t.no_specifiers) (t.function
    (t.named (spelled (codes "main") 3)) (at 3) (t.void_parameters (at 3)) (at 3)) (s.block (at 3) (s.items (s.inner
    (s.return (at 3) (Some (t.integer (spelled (codes "0") 3))) (at 3))) s.no_items) (at 3))) ∷ []) 3)
    ≡ refused rule.Undeclared 2
unfolding balanced_type common_type fit is_signed mixed_type promoted rank size_of unsigned_of binary_value
    shift_amount unary_value constant_in constant_of greatest_of suffix_of typed types_of bytes_of_literal character_value
    characters_of escaped literal_step next_character extent_of array_size member_offsets structure_of union_of room
    is_valid_program constant_word binary assigned cast row_of comma combined unary dereferenced indexed size_of_words
    assignment compound stepped condition conditional switch_value called called_through routine_words composite judged
    start reached reached_by reached_in element_number member_number number_behind part closed opened with_literal
    with_value without first_not_constant typed_unit
first_of_two = refl

-- int x;char
-- x=
-- y;int main(void){return 0;}
name_before_initializer :
    (source ((s.declaration (declaration (t.specifiers (word keyword.Int 1) t.no_specifiers) (Some (declarators
    (init_declarator (t.named (spelled (codes "x") 1)) None) [])) (at 1))) ∷ (s.declaration (declaration (t.specifiers
    (word keyword.Char 1) t.no_specifiers) (Some (declarators (init_declarator (t.named (spelled (codes "x") 2)) (Some
    ((at 2), (t.value (t.identifier (spelled (codes "y") 3)))))) [])) (at 3))) ∷ (s.definition (t.specifiers (word
    keyword.Int 3) t.no_specifiers) (t.function (t.named (spelled (codes "main") 3)) (at 3) (t.void_parameters (at 3))
    (at 3)) (s.block (at 3) (s.items (s.inner (s.return (at 3) (Some (t.integer (spelled (codes "0") 3))) (at 3)))
    s.no_items) (at 3))) ∷ []) 3)
    ≡ refused rule.Redeclared 2
unfolding balanced_type common_type fit is_signed mixed_type promoted rank size_of unsigned_of binary_value
    shift_amount unary_value constant_in constant_of greatest_of suffix_of typed types_of bytes_of_literal character_value
    characters_of escaped literal_step next_character extent_of array_size member_offsets structure_of union_of room
    is_valid_program constant_word binary assigned cast row_of comma combined unary dereferenced indexed size_of_words
    assignment compound stepped condition conditional switch_value called called_through routine_words composite judged
    start reached reached_by reached_in element_number member_number number_behind part closed opened with_literal
    with_value without first_not_constant typed_unit
name_before_initializer = refl

-- int x;char
-- x[
-- y];int main(void){return 0;}
size_before_name :
    (source ((s.declaration (declaration (t.specifiers (word keyword.Int 1) t.no_specifiers) (Some (declarators
    (init_declarator (t.named (spelled (codes "x") 1)) None) [])) (at 1))) ∷ (s.declaration (declaration (t.specifiers
    (word keyword.Char 1) t.no_specifiers) (Some (declarators (init_declarator (t.array (t.named (spelled (codes "x")
    2)) (at 2) (t.identifier (spelled (codes "y") 3)) (at 3)) None) [])) (at 3))) ∷ (s.definition (t.specifiers (word
    keyword.Int 3) t.no_specifiers) (t.function (t.named (spelled (codes "main") 3)) (at 3) (t.void_parameters (at 3))
    (at 3)) (s.block (at 3) (s.items (s.inner (s.return (at 3) (Some (t.integer (spelled (codes "0") 3))) (at 3)))
    s.no_items) (at 3))) ∷ []) 3)
    ≡ refused rule.Undeclared 3
unfolding balanced_type common_type fit is_signed mixed_type promoted rank size_of unsigned_of binary_value
    shift_amount unary_value constant_in constant_of greatest_of suffix_of typed types_of bytes_of_literal character_value
    characters_of escaped literal_step next_character extent_of array_size member_offsets structure_of union_of room
    is_valid_program constant_word binary assigned cast row_of comma combined unary dereferenced indexed size_of_words
    assignment compound stepped condition conditional switch_value called called_through routine_words composite judged
    start reached reached_by reached_in element_number member_number number_behind part closed opened with_literal
    with_value without first_not_constant typed_unit
size_before_name = refl

-- int x;
-- auto
-- char x;int main(void){return 0;}
specifiers_before_name :
    (source ((s.declaration (declaration (t.specifiers (word keyword.Int 1) t.no_specifiers) (Some (declarators
    (init_declarator (t.named (spelled (codes "x") 1)) None) [])) (at 1))) ∷ (s.declaration (declaration (t.specifiers
    (word keyword.Auto 2) (t.specifiers (word keyword.Char 3) t.no_specifiers)) (Some (declarators (init_declarator
    (t.named (spelled (codes "x") 3)) None) [])) (at 3))) ∷ (s.definition (t.specifiers (word keyword.Int 3)
    t.no_specifiers) (t.function (t.named (spelled (codes "main") 3)) (at 3) (t.void_parameters (at 3)) (at 3))
    (s.block (at 3) (s.items (s.inner (s.return (at 3) (Some (t.integer (spelled (codes "0") 3))) (at 3))) s.no_items)
    (at 3))) ∷ []) 3)
    ≡ refused rule.MisplacedStorage 2
unfolding balanced_type common_type fit is_signed mixed_type promoted rank size_of unsigned_of binary_value
    shift_amount unary_value constant_in constant_of greatest_of suffix_of typed types_of bytes_of_literal character_value
    characters_of escaped literal_step next_character extent_of array_size member_offsets structure_of union_of room
    is_valid_program constant_word binary assigned cast row_of comma combined unary dereferenced indexed size_of_words
    assignment compound stepped condition conditional switch_value called called_through routine_words composite judged
    start reached reached_by reached_in element_number member_number number_behind part closed opened with_literal
    with_value without first_not_constant typed_unit
specifiers_before_name = refl

-- int x;
-- void x;int main(void){return 0;}
lowest_at_a_name :
    (source ((s.declaration (declaration (t.specifiers (word keyword.Int 1) t.no_specifiers) (Some (declarators
    (init_declarator (t.named (spelled (codes "x") 1)) None) [])) (at 1))) ∷ (s.declaration (declaration (t.specifiers
    (word keyword.Void 2) t.no_specifiers) (Some (declarators (init_declarator (t.named (spelled (codes "x") 2)) None)
    [])) (at 2))) ∷ (s.definition (t.specifiers (word keyword.Int 2) t.no_specifiers) (t.function (t.named (spelled
    (codes "main") 2)) (at 2) (t.void_parameters (at 2)) (at 2)) (s.block (at 2) (s.items (s.inner (s.return (at 2)
    (Some (t.integer (spelled (codes "0") 2))) (at 2))) s.no_items) (at 2))) ∷ []) 2)
    ≡ refused rule.Redeclared 2
unfolding balanced_type common_type fit is_signed mixed_type promoted rank size_of unsigned_of binary_value
    shift_amount unary_value constant_in constant_of greatest_of suffix_of typed types_of bytes_of_literal character_value
    characters_of escaped literal_step next_character extent_of array_size member_offsets structure_of union_of room
    is_valid_program constant_word binary assigned cast row_of comma combined unary dereferenced indexed size_of_words
    assignment compound stepped condition conditional switch_value called called_through routine_words composite judged
    start reached reached_by reached_in element_number member_number number_behind part closed opened with_literal
    with_value without first_not_constant typed_unit
lowest_at_a_name = refl

-- struct S;
-- struct S
-- x[2](void);int main(void){return 0;}
array_of_functions :
    (source ((s.declaration (declaration (t.specifiers (t.structure keyword.Struct (at 1) (spelled (codes "S") 1))
    t.no_specifiers) None (at 1))) ∷ (s.declaration (declaration (t.specifiers (t.structure keyword.Struct (at 2)
    (spelled (codes "S") 2)) t.no_specifiers) (Some (declarators (init_declarator (t.function (t.array (t.named
    (spelled (codes "x") 3)) (at 3) (t.integer (spelled (codes "2") 3)) (at 3)) (at 3) (t.void_parameters (at 3)) (at
    3)) None) [])) (at 3))) ∷ (s.definition (t.specifiers (word keyword.Int 3) t.no_specifiers) (t.function (t.named
    (spelled (codes "main") 3)) (at 3) (t.void_parameters (at 3)) (at 3)) (s.block (at 3) (s.items (s.inner (s.return
    (at 3) (Some (t.integer (spelled (codes "0") 3))) (at 3))) s.no_items) (at 3))) ∷ []) 3)
    ≡ refused rule.MisplacedFunction 3
unfolding balanced_type common_type fit is_signed mixed_type promoted rank size_of unsigned_of binary_value
    shift_amount unary_value constant_in constant_of greatest_of suffix_of typed types_of bytes_of_literal character_value
    characters_of escaped literal_step next_character extent_of array_size member_offsets structure_of union_of room
    is_valid_program constant_word binary assigned cast row_of comma combined unary dereferenced indexed size_of_words
    assignment compound stepped condition conditional switch_value called called_through routine_words composite judged
    start reached reached_by reached_in element_number member_number number_behind part closed opened with_literal
    with_value without first_not_constant typed_unit
array_of_functions = refl

-- int f(void){return
-- y;}
-- int f(void){return 0;}int main(void){return 0;}
body_before_the_next :
    (source ((s.definition (t.specifiers (word keyword.Int 1) t.no_specifiers) (t.function (t.named (spelled (codes
    "f") 1)) (at 1) (t.void_parameters (at 1)) (at 1)) (s.block (at 1) (s.items (s.inner (s.return (at 1) (Some
    (t.identifier (spelled (codes "y") 2))) (at 2))) s.no_items) (at 2))) ∷ (s.definition (t.specifiers (word
    keyword.Int 3) t.no_specifiers) (t.function (t.named (spelled (codes "f") 3)) (at 3) (t.void_parameters (at 3))
    (at 3)) (s.block (at 3) (s.items (s.inner (s.return (at 3) (Some (t.integer (spelled (codes "0") 3))) (at 3)))
    s.no_items) (at 3))) ∷ (s.definition (t.specifiers (word keyword.Int 3) t.no_specifiers) (t.function (t.named
    (spelled (codes "main") 3)) (at 3) (t.void_parameters (at 3)) (at 3)) (s.block (at 3) (s.items (s.inner (s.return
    (at 3) (Some (t.integer (spelled (codes "0") 3))) (at 3))) s.no_items) (at 3))) ∷ []) 3)
    ≡ refused rule.Undeclared 2
unfolding balanced_type common_type fit is_signed mixed_type promoted rank size_of unsigned_of binary_value
    shift_amount unary_value constant_in constant_of greatest_of suffix_of typed types_of bytes_of_literal character_value
    characters_of escaped literal_step next_character extent_of array_size member_offsets structure_of union_of room
    is_valid_program constant_word binary assigned cast row_of comma combined unary dereferenced indexed size_of_words
    assignment compound stepped condition conditional switch_value called called_through routine_words composite judged
    start reached reached_by reached_in element_number member_number number_behind part closed opened with_literal
    with_value without first_not_constant typed_unit
body_before_the_next = refl

-- int f(void){return 0;}
-- char f(void){return
-- y;}int main(void){return 0;}
declarator_before_body :
    (source ((s.definition (t.specifiers (word keyword.Int 1) t.no_specifiers) (t.function (t.named (spelled (codes
    "f") 1)) (at 1) (t.void_parameters (at 1)) (at 1)) (s.block (at 1) (s.items (s.inner (s.return (at 1) (Some
    (t.integer (spelled (codes "0") 1))) (at 1))) s.no_items) (at 1))) ∷ (s.definition (t.specifiers (word
    keyword.Char 2) t.no_specifiers) (t.function (t.named (spelled (codes "f") 2)) (at 2) (t.void_parameters (at 2))
    (at 2)) (s.block (at 2) (s.items (s.inner (s.return (at 2) (Some (t.identifier (spelled (codes "y") 3))) (at 3)))
    s.no_items) (at 3))) ∷ (s.definition (t.specifiers (word keyword.Int 3) t.no_specifiers) (t.function (t.named
    (spelled (codes "main") 3)) (at 3) (t.void_parameters (at 3)) (at 3)) (s.block (at 3) (s.items (s.inner (s.return
    (at 3) (Some (t.integer (spelled (codes "0") 3))) (at 3))) s.no_items) (at 3))) ∷ []) 3)
    ≡ refused rule.Redeclared 2
unfolding balanced_type common_type fit is_signed mixed_type promoted rank size_of unsigned_of binary_value
    shift_amount unary_value constant_in constant_of greatest_of suffix_of typed types_of bytes_of_literal character_value
    characters_of escaped literal_step next_character extent_of array_size member_offsets structure_of union_of room
    is_valid_program constant_word binary assigned cast row_of comma combined unary dereferenced indexed size_of_words
    assignment compound stepped condition conditional switch_value called called_through routine_words composite judged
    start reached reached_by reached_in element_number member_number number_behind part closed opened with_literal
    with_value without first_not_constant typed_unit
declarator_before_body = refl

-- int a[1]={1,
-- 2},b[
-- y];
initializer_before_the_next :
    (source ((s.declaration (declaration (t.specifiers (word keyword.Int 1) t.no_specifiers) (Some (declarators
    (init_declarator (t.array (t.named (spelled (codes "a") 1)) (at 1) (t.integer (spelled (codes "1") 1)) (at 1))
    (Some (
      (at 1),
      (t.braced (at 1) (t.item None (t.value (t.integer (spelled (codes "1") 1)))) (t.more_items (at 1)
          (t.item None (t.value (t.integer (spelled (codes "2") 2)))) t.end_of_items) None (at 2)),
    ))) ((
      (at 2),
      (init_declarator (t.array (t.named (spelled (codes "b") 2)) (at 2) (t.identifier (spelled (codes "y") 3)) (at 3))
          None),
    ) ∷ []))) (at 3))) ∷ []) 3)
    ≡ refused rule.MisplacedItem 1
unfolding balanced_type common_type fit is_signed mixed_type promoted rank size_of unsigned_of binary_value
    shift_amount unary_value constant_in constant_of greatest_of suffix_of typed types_of bytes_of_literal character_value
    characters_of escaped literal_step next_character extent_of array_size member_offsets structure_of union_of room
    is_valid_program constant_word binary assigned cast row_of comma combined unary dereferenced indexed size_of_words
    assignment compound stepped condition conditional switch_value called called_through routine_words composite judged
    start reached reached_by reached_in element_number member_number number_behind part closed opened with_literal
    with_value without first_not_constant typed_unit
initializer_before_the_next = refl

-- int f(void){return 0;}
--
no_main :
    (source ((s.definition (t.specifiers (word keyword.Int 1) t.no_specifiers) (t.function (t.named (spelled (codes
    "f") 1)) (at 1) (t.void_parameters (at 1)) (at 1)) (s.block (at 1) (s.items (s.inner (s.return (at 1) (Some
    (t.integer (spelled (codes "0") 1))) (at 1))) s.no_items) (at 1))) ∷ []) 2)
    ≡ refused rule.NoMain 2
unfolding balanced_type common_type fit is_signed mixed_type promoted rank size_of unsigned_of binary_value
    shift_amount unary_value constant_in constant_of greatest_of suffix_of typed types_of bytes_of_literal character_value
    characters_of escaped literal_step next_character extent_of array_size member_offsets structure_of union_of room
    is_valid_program constant_word binary assigned cast row_of comma combined unary dereferenced indexed size_of_words
    assignment compound stepped condition conditional switch_value called called_through routine_words composite judged
    start reached reached_by reached_in element_number member_number number_behind part closed opened with_literal
    with_value without first_not_constant typed_unit
no_main = refl

-- void main(void){}
--
main_of_another_type :
    (source ((s.definition (t.specifiers (word keyword.Void 1) t.no_specifiers) (t.function (t.named (spelled (codes
    "main") 1)) (at 1) (t.void_parameters (at 1)) (at 1)) (s.block (at 1) s.no_items (at 1))) ∷ []) 2)
    ≡ refused rule.NoMain 2
unfolding balanced_type common_type fit is_signed mixed_type promoted rank size_of unsigned_of binary_value
    shift_amount unary_value constant_in constant_of greatest_of suffix_of typed types_of bytes_of_literal character_value
    characters_of escaped literal_step next_character extent_of array_size member_offsets structure_of union_of room
    is_valid_program constant_word binary assigned cast row_of comma combined unary dereferenced indexed size_of_words
    assignment compound stepped condition conditional switch_value called called_through routine_words composite judged
    start reached reached_by reached_in element_number member_number number_behind part closed opened with_literal
    with_value without first_not_constant typed_unit
main_of_another_type = refl

-- int main(void);
--
main_only_declared :
    (source ((s.declaration (declaration (t.specifiers (word keyword.Int 1) t.no_specifiers) (Some (declarators
    (init_declarator (t.function (t.named (spelled (codes "main") 1)) (at 1) (t.void_parameters (at 1)) (at 1)) None)
    [])) (at 1))) ∷ []) 2)
    ≡ refused rule.NoMain 2
unfolding balanced_type common_type fit is_signed mixed_type promoted rank size_of unsigned_of binary_value
    shift_amount unary_value constant_in constant_of greatest_of suffix_of typed types_of bytes_of_literal character_value
    characters_of escaped literal_step next_character extent_of array_size member_offsets structure_of union_of room
    is_valid_program constant_word binary assigned cast row_of comma combined unary dereferenced indexed size_of_words
    assignment compound stepped condition conditional switch_value called called_through routine_words composite judged
    start reached reached_by reached_in element_number member_number number_behind part closed opened with_literal
    with_value without first_not_constant typed_unit
main_only_declared = refl

-- int f(void);int g(void){return f();}
--
main_before_uses :
    (source ((s.declaration (declaration (t.specifiers (word keyword.Int 1) t.no_specifiers) (Some (declarators
    (init_declarator (t.function (t.named (spelled (codes "f") 1)) (at 1) (t.void_parameters (at 1)) (at 1)) None)
    [])) (at 1))) ∷ (s.definition (t.specifiers (word keyword.Int 1) t.no_specifiers) (t.function (t.named (spelled
    (codes "g") 1)) (at 1) (t.void_parameters (at 1)) (at 1)) (s.block (at 1) (s.items (s.inner (s.return (at 1) (Some
    (t.call (t.identifier (spelled (codes "f") 1)) (at 1) t.no_arguments (at 1))) (at 1))) s.no_items) (at 1))) ∷ [])
    2)
    ≡ refused rule.NoMain 2
unfolding balanced_type common_type fit is_signed mixed_type promoted rank size_of unsigned_of binary_value
    shift_amount unary_value constant_in constant_of greatest_of suffix_of typed types_of bytes_of_literal character_value
    characters_of escaped literal_step next_character extent_of array_size member_offsets structure_of union_of room
    is_valid_program constant_word binary assigned cast row_of comma combined unary dereferenced indexed size_of_words
    assignment compound stepped condition conditional switch_value called called_through routine_words composite judged
    start reached reached_by reached_in element_number member_number number_behind part closed opened with_literal
    with_value without first_not_constant typed_unit
main_before_uses = refl

-- int f(void);int g(void);int main(void){return
-- g()+
-- f();}
first_use :
    (source ((s.declaration (declaration (t.specifiers (word keyword.Int 1) t.no_specifiers) (Some (declarators
    (init_declarator (t.function (t.named (spelled (codes "f") 1)) (at 1) (t.void_parameters (at 1)) (at 1)) None)
    [])) (at 1))) ∷ (s.declaration (declaration (t.specifiers (word keyword.Int 1) t.no_specifiers) (Some (declarators
    (init_declarator (t.function (t.named (spelled (codes "g") 1)) (at 1) (t.void_parameters (at 1)) (at 1)) None)
    [])) (at 1))) ∷ (s.definition (t.specifiers (word keyword.Int 1) t.no_specifiers) (t.function (t.named (spelled
    (codes "main") 1)) (at 1) (t.void_parameters (at 1)) (at 1)) (s.block (at 1) (s.items (s.inner (s.return (at 1)
    (Some (t.binary (t.call (t.identifier (spelled (codes "g") 2)) (at 2) t.no_arguments (at 2)) sign.Plus (at 2)
    (t.call (t.identifier (spelled (codes "f") 3)) (at 3) t.no_arguments (at 3)))) (at 3))) s.no_items) (at 3))) ∷ [])
    3)
    ≡ refused rule.UndefinedFunction 2
unfolding balanced_type common_type fit is_signed mixed_type promoted rank size_of unsigned_of binary_value
    shift_amount unary_value constant_in constant_of greatest_of suffix_of typed types_of bytes_of_literal character_value
    characters_of escaped literal_step next_character extent_of array_size member_offsets structure_of union_of room
    is_valid_program constant_word binary assigned cast row_of comma combined unary dereferenced indexed size_of_words
    assignment compound stepped condition conditional switch_value called called_through routine_words composite judged
    start reached reached_by reached_in element_number member_number number_behind part closed opened with_literal
    with_value without first_not_constant typed_unit
first_use = refl

-- int f(void);int(*p)(void)=
-- f;int main(void){return 0;}
use_in_an_initializer :
    (source ((s.declaration (declaration (t.specifiers (word keyword.Int 1) t.no_specifiers) (Some (declarators
    (init_declarator (t.function (t.named (spelled (codes "f") 1)) (at 1) (t.void_parameters (at 1)) (at 1)) None)
    [])) (at 1))) ∷ (s.declaration (declaration (t.specifiers (word keyword.Int 1) t.no_specifiers) (Some (declarators
    (init_declarator (t.function (t.grouped (at 1) (t.pointer (at 1) [] (t.named (spelled (codes "p") 1))) (at 1)) (at
    1) (t.void_parameters (at 1)) (at 1)) (Some ((at 1), (t.value (t.identifier (spelled (codes "f") 2)))))) [])) (at
    2))) ∷ (s.definition (t.specifiers (word keyword.Int 2) t.no_specifiers) (t.function (t.named (spelled (codes
    "main") 2)) (at 2) (t.void_parameters (at 2)) (at 2)) (s.block (at 2) (s.items (s.inner (s.return (at 2) (Some
    (t.integer (spelled (codes "0") 2))) (at 2))) s.no_items) (at 2))) ∷ []) 2)
    ≡ refused rule.UndefinedFunction 2
unfolding balanced_type common_type fit is_signed mixed_type promoted rank size_of unsigned_of binary_value
    shift_amount unary_value constant_in constant_of greatest_of suffix_of typed types_of bytes_of_literal character_value
    characters_of escaped literal_step next_character extent_of array_size member_offsets structure_of union_of room
    is_valid_program constant_word binary assigned cast row_of comma combined unary dereferenced indexed size_of_words
    assignment compound stepped condition conditional switch_value called called_through routine_words composite judged
    start reached reached_by reached_in element_number member_number number_behind part closed opened with_literal
    with_value without first_not_constant typed_unit
use_in_an_initializer = refl

-- int f(void);int main(void){return sizeof f();}
not_evaluated :
    (source ((s.declaration (declaration (t.specifiers (word keyword.Int 1) t.no_specifiers) (Some (declarators
    (init_declarator (t.function (t.named (spelled (codes "f") 1)) (at 1) (t.void_parameters (at 1)) (at 1)) None)
    [])) (at 1))) ∷ (s.definition (t.specifiers (word keyword.Int 1) t.no_specifiers) (t.function (t.named (spelled
    (codes "main") 1)) (at 1) (t.void_parameters (at 1)) (at 1)) (s.block (at 1) (s.items (s.inner (s.return (at 1)
    (Some (t.sizeof_expression (at 1) (t.call (t.identifier (spelled (codes "f") 1)) (at 1) t.no_arguments (at 1))))
    (at 1))) s.no_items) (at 1))) ∷ []) 1)
    ≡ accepted true [] (function 1 0 [] [] (number 4 ∷ []) ∷ [])
unfolding balanced_type common_type fit is_signed mixed_type promoted rank size_of unsigned_of binary_value
    shift_amount unary_value constant_in constant_of greatest_of suffix_of typed types_of bytes_of_literal character_value
    characters_of escaped literal_step next_character extent_of array_size member_offsets structure_of union_of room
    is_valid_program constant_word binary assigned cast row_of comma combined unary dereferenced indexed size_of_words
    assignment compound stepped condition conditional switch_value called called_through routine_words composite judged
    start reached reached_by reached_in element_number member_number number_behind part closed opened with_literal
    with_value without first_not_constant typed_unit
not_evaluated = refl

-- char a[4194305];int main(void){return 0;}
globals :
    (source ((s.declaration (declaration (t.specifiers (word keyword.Char 1) t.no_specifiers) (Some (declarators
    (init_declarator (t.array (t.named (spelled (codes "a") 1)) (at 1) (t.integer (spelled (codes "4194305") 1)) (at
    1)) None) [])) (at 1))) ∷ (s.definition (t.specifiers (word keyword.Int 1) t.no_specifiers) (t.function (t.named
    (spelled (codes "main") 1)) (at 1) (t.void_parameters (at 1)) (at 1)) (s.block (at 1) (s.items (s.inner (s.return
    (at 1) (Some (t.integer (spelled (codes "0") 1))) (at 1))) s.no_items) (at 1))) ∷ []) 1)
    ≡ large limited.Globals 4198400
unfolding balanced_type common_type fit is_signed mixed_type promoted rank size_of unsigned_of binary_value
    shift_amount unary_value constant_in constant_of greatest_of suffix_of typed types_of bytes_of_literal character_value
    characters_of escaped literal_step next_character extent_of array_size member_offsets structure_of union_of room
    is_valid_program constant_word binary assigned cast row_of comma combined unary dereferenced indexed size_of_words
    assignment compound stepped condition conditional switch_value called called_through routine_words composite judged
    start reached reached_by reached_in element_number member_number number_behind part closed opened with_literal
    with_value without first_not_constant typed_unit
globals = refl

-- char a[4194304];int main(void){return 0;}
globals_that_fit :
    (source ((s.declaration (declaration (t.specifiers (word keyword.Char 1) t.no_specifiers) (Some (declarators
    (init_declarator (t.array (t.named (spelled (codes "a") 1)) (at 1) (t.integer (spelled (codes "4194304") 1)) (at
    1)) None) [])) (at 1))) ∷ (s.definition (t.specifiers (word keyword.Int 1) t.no_specifiers) (t.function (t.named
    (spelled (codes "main") 1)) (at 1) (t.void_parameters (at 1)) (at 1)) (s.block (at 1) (s.items (s.inner (s.return
    (at 1) (Some (t.integer (spelled (codes "0") 1))) (at 1))) s.no_items) (at 1))) ∷ []) 1)
    ≡ accepted true ((4194304, (None, [])) ∷ []) (function 1 0 [] [] (number 0 ∷ []) ∷ [])
unfolding balanced_type common_type fit is_signed mixed_type promoted rank size_of unsigned_of binary_value
    shift_amount unary_value constant_in constant_of greatest_of suffix_of typed types_of bytes_of_literal character_value
    characters_of escaped literal_step next_character extent_of array_size member_offsets structure_of union_of room
    is_valid_program constant_word binary assigned cast row_of comma combined unary dereferenced indexed size_of_words
    assignment compound stepped condition conditional switch_value called called_through routine_words composite judged
    start reached reached_by reached_in element_number member_number number_behind part closed opened with_literal
    with_value without first_not_constant typed_unit
globals_that_fit = refl

-- char a[4194289];char b;int main(void){return 0;}
rounded :
    (source ((s.declaration (declaration (t.specifiers (word keyword.Char 1) t.no_specifiers) (Some (declarators
    (init_declarator (t.array (t.named (spelled (codes "a") 1)) (at 1) (t.integer (spelled (codes "4194289") 1)) (at
    1)) None) [])) (at 1))) ∷ (s.declaration (declaration (t.specifiers (word keyword.Char 1) t.no_specifiers) (Some
    (declarators (init_declarator (t.named (spelled (codes "b") 1)) None) [])) (at 1))) ∷ (s.definition (t.specifiers
    (word keyword.Int 1) t.no_specifiers) (t.function (t.named (spelled (codes "main") 1)) (at 1) (t.void_parameters
    (at 1)) (at 1)) (s.block (at 1) (s.items (s.inner (s.return (at 1) (Some (t.integer (spelled (codes "0") 1))) (at
    1))) s.no_items) (at 1))) ∷ []) 1)
    ≡ large limited.Globals 4198400
unfolding balanced_type common_type fit is_signed mixed_type promoted rank size_of unsigned_of binary_value
    shift_amount unary_value constant_in constant_of greatest_of suffix_of typed types_of bytes_of_literal character_value
    characters_of escaped literal_step next_character extent_of array_size member_offsets structure_of union_of room
    is_valid_program constant_word binary assigned cast row_of comma combined unary dereferenced indexed size_of_words
    assignment compound stepped condition conditional switch_value called called_through routine_words composite judged
    start reached reached_by reached_in element_number member_number number_behind part closed opened with_literal
    with_value without first_not_constant typed_unit
rounded = refl

-- char a[4194305];int f(void){return 1;}int x=f();int main(void){return 0;}
not_constant_first :
    (source ((s.declaration (declaration (t.specifiers (word keyword.Char 1) t.no_specifiers) (Some (declarators
    (init_declarator (t.array (t.named (spelled (codes "a") 1)) (at 1) (t.integer (spelled (codes "4194305") 1)) (at
    1)) None) [])) (at 1))) ∷ (s.definition (t.specifiers (word keyword.Int 1) t.no_specifiers) (t.function (t.named
    (spelled (codes "f") 1)) (at 1) (t.void_parameters (at 1)) (at 1)) (s.block (at 1) (s.items (s.inner (s.return (at
    1) (Some (t.integer (spelled (codes "1") 1))) (at 1))) s.no_items) (at 1))) ∷ (s.declaration (declaration
    (t.specifiers (word keyword.Int 1) t.no_specifiers) (Some (declarators (init_declarator (t.named (spelled (codes
    "x") 1)) (Some ((at 1), (t.value (t.call (t.identifier (spelled (codes "f") 1)) (at 1) t.no_arguments (at 1))))))
    [])) (at 1))) ∷ (s.definition (t.specifiers (word keyword.Int 1) t.no_specifiers) (t.function (t.named (spelled
    (codes "main") 1)) (at 1) (t.void_parameters (at 1)) (at 1)) (s.block (at 1) (s.items (s.inner (s.return (at 1)
    (Some (t.integer (spelled (codes "0") 1))) (at 1))) s.no_items) (at 1))) ∷ []) 1)
    ≡ inconstant 1
unfolding balanced_type common_type fit is_signed mixed_type promoted rank size_of unsigned_of binary_value
    shift_amount unary_value constant_in constant_of greatest_of suffix_of typed types_of bytes_of_literal character_value
    characters_of escaped literal_step next_character extent_of array_size member_offsets structure_of union_of room
    is_valid_program constant_word binary assigned cast row_of comma combined unary dereferenced indexed size_of_words
    assignment compound stepped condition conditional switch_value called called_through routine_words composite judged
    start reached reached_by reached_in element_number member_number number_behind part closed opened with_literal
    with_value without first_not_constant typed_unit
not_constant_first = refl

-- int f(int,int,int,int,int,int,int,int,int,int,int,int,int,int,int,int,int,int,int,int,int,int,int,in ..
-- t,int,int,int,int,int,int,int,int);int main(void){return 0;}
parameters :
    (source ((s.declaration (declaration (t.specifiers (word keyword.Int 1) t.no_specifiers) (Some (declarators
    (init_declarator (t.function (t.named (spelled (codes "f") 1)) (at 1) (t.parameters (t.typed (t.specifiers (word
    keyword.Int 1) t.no_specifiers) t.unnamed) (t.more_parameters (at 1) (t.typed (t.specifiers (word keyword.Int 1)
    t.no_specifiers) t.unnamed) (t.more_parameters (at 1) (t.typed (t.specifiers (word keyword.Int 1) t.no_specifiers)
    t.unnamed) (t.more_parameters (at 1) (t.typed (t.specifiers (word keyword.Int 1) t.no_specifiers) t.unnamed)
    (t.more_parameters (at 1) (t.typed (t.specifiers (word keyword.Int 1) t.no_specifiers) t.unnamed)
    (t.more_parameters (at 1) (t.typed (t.specifiers (word keyword.Int 1) t.no_specifiers) t.unnamed)
    (t.more_parameters (at 1) (t.typed (t.specifiers (word keyword.Int 1) t.no_specifiers) t.unnamed)
    (t.more_parameters (at 1) (t.typed (t.specifiers (word keyword.Int 1) t.no_specifiers) t.unnamed)
    (t.more_parameters (at 1) (t.typed (t.specifiers (word keyword.Int 1) t.no_specifiers) t.unnamed)
    (t.more_parameters (at 1) (t.typed (t.specifiers (word keyword.Int 1) t.no_specifiers) t.unnamed)
    (t.more_parameters (at 1) (t.typed (t.specifiers (word keyword.Int 1) t.no_specifiers) t.unnamed)
    (t.more_parameters (at 1) (t.typed (t.specifiers (word keyword.Int 1) t.no_specifiers) t.unnamed)
    (t.more_parameters (at 1) (t.typed (t.specifiers (word keyword.Int 1) t.no_specifiers) t.unnamed)
    (t.more_parameters (at 1) (t.typed (t.specifiers (word keyword.Int 1) t.no_specifiers) t.unnamed)
    (t.more_parameters (at 1) (t.typed (t.specifiers (word keyword.Int 1) t.no_specifiers) t.unnamed)
    (t.more_parameters (at 1) (t.typed (t.specifiers (word keyword.Int 1) t.no_specifiers) t.unnamed)
    (t.more_parameters (at 1) (t.typed (t.specifiers (word keyword.Int 1) t.no_specifiers) t.unnamed)
    (t.more_parameters (at 1) (t.typed (t.specifiers (word keyword.Int 1) t.no_specifiers) t.unnamed)
    (t.more_parameters (at 1) (t.typed (t.specifiers (word keyword.Int 1) t.no_specifiers) t.unnamed)
    (t.more_parameters (at 1) (t.typed (t.specifiers (word keyword.Int 1) t.no_specifiers) t.unnamed)
    (t.more_parameters (at 1) (t.typed (t.specifiers (word keyword.Int 1) t.no_specifiers) t.unnamed)
    (t.more_parameters (at 1) (t.typed (t.specifiers (word keyword.Int 1) t.no_specifiers) t.unnamed)
    (t.more_parameters (at 1) (t.typed (t.specifiers (word keyword.Int 1) t.no_specifiers) t.unnamed)
    (t.more_parameters (at 1) (t.typed (t.specifiers (word keyword.Int 1) t.no_specifiers) t.unnamed)
    (t.more_parameters (at 1) (t.typed (t.specifiers (word keyword.Int 1) t.no_specifiers) t.unnamed)
    (t.more_parameters (at 1) (t.typed (t.specifiers (word keyword.Int 1) t.no_specifiers) t.unnamed)
    (t.more_parameters (at 1) (t.typed (t.specifiers (word keyword.Int 1) t.no_specifiers) t.unnamed)
    (t.more_parameters (at 1) (t.typed (t.specifiers (word keyword.Int 1) t.no_specifiers) t.unnamed)
    (t.more_parameters (at 1) (t.typed (t.specifiers (word keyword.Int 1) t.no_specifiers) t.unnamed)
    (t.more_parameters (at 1) (t.typed (t.specifiers (word keyword.Int 1) t.no_specifiers) t.unnamed)
    (t.more_parameters (at 1) (t.typed (t.specifiers (word keyword.Int 1) t.no_specifiers) t.unnamed)
    (t.more_parameters (at 1) (t.typed (t.specifiers (word keyword.Int 1) t.no_specifiers) t.unnamed)
    (t.more_parameters (at 1) (t.typed (t.specifiers (word keyword.Int 1) t.no_specifiers) t.unnamed)
    (t.more_parameters (at 1) (t.typed (t.specifiers (word keyword.Int 1) t.no_specifiers) t.unnamed)
    (t.more_parameters (at 1) (t.typed (t.specifiers (word keyword.Int 1) t.no_specifiers) t.unnamed)
    (t.more_parameters (at 1) (t.typed (t.specifiers (word keyword.Int 1) t.no_specifiers) t.unnamed)
    (t.more_parameters (at 1) (t.typed (t.specifiers (word keyword.Int 1) t.no_specifiers) t.unnamed)
    (t.more_parameters (at 1) (t.typed (t.specifiers (word keyword.Int 1) t.no_specifiers) t.unnamed)
    (t.more_parameters (at 1) (t.typed (t.specifiers (word keyword.Int 1) t.no_specifiers) t.unnamed)
    (t.more_parameters (at 1) (t.typed (t.specifiers (word keyword.Int 1) t.no_specifiers) t.unnamed)
    (t.more_parameters (at 1) (t.typed (t.specifiers (word keyword.Int 1) t.no_specifiers) t.unnamed)
    (t.more_parameters (at 1) (t.typed (t.specifiers (word keyword.Int 1) t.no_specifiers) t.unnamed)
    (t.more_parameters (at 1) (t.typed (t.specifiers (word keyword.Int 1) t.no_specifiers) t.unnamed)
    (t.more_parameters (at 1) (t.typed (t.specifiers (word keyword.Int 1) t.no_specifiers) t.unnamed)
    (t.more_parameters (at 1) (t.typed (t.specifiers (word keyword.Int 1) t.no_specifiers) t.unnamed)
    (t.more_parameters (at 1) (t.typed (t.specifiers (word keyword.Int 1) t.no_specifiers) t.unnamed)
    (t.more_parameters (at 1) (t.typed (t.specifiers (word keyword.Int 1) t.no_specifiers) t.unnamed)
    (t.more_parameters (at 1) (t.typed (t.specifiers (word keyword.Int 1) t.no_specifiers) t.unnamed)
    (t.more_parameters (at 1) (t.typed (t.specifiers (word keyword.Int 1) t.no_specifiers) t.unnamed)
    (t.more_parameters (at 1) (t.typed (t.specifiers (word keyword.Int 1) t.no_specifiers) t.unnamed)
    (t.more_parameters (at 1) (t.typed (t.specifiers (word keyword.Int 1) t.no_specifiers) t.unnamed)
    (t.more_parameters (at 1) (t.typed (t.specifiers (word keyword.Int 1) t.no_specifiers) t.unnamed)
    (t.more_parameters (at 1) (t.typed (t.specifiers (word keyword.Int 1) t.no_specifiers) t.unnamed)
    (t.more_parameters (at 1) (t.typed (t.specifiers (word keyword.Int 1) t.no_specifiers) t.unnamed)
    (t.more_parameters (at 1) (t.typed (t.specifiers (word keyword.Int 1) t.no_specifiers) t.unnamed)
    (t.more_parameters (at 1) (t.typed (t.specifiers (word keyword.Int 1) t.no_specifiers) t.unnamed)
    (t.more_parameters (at 1) (t.typed (t.specifiers (word keyword.Int 1) t.no_specifiers) t.unnamed)
    (t.more_parameters (at 1) (t.typed (t.specifiers (word keyword.Int 1) t.no_specifiers) t.unnamed)
    (t.more_parameters (at 1) (t.typed (t.specifiers (word keyword.Int 1) t.no_specifiers) t.unnamed)
    (t.more_parameters (at 1) (t.typed (t.specifiers (word keyword.Int 1) t.no_specifiers) t.unnamed)
    (t.more_parameters (at 1) (t.typed (t.specifiers (word keyword.Int 1) t.no_specifiers) t.unnamed)
    (t.more_parameters (at 1) (t.typed (t.specifiers (word keyword.Int 1) t.no_specifiers) t.unnamed)
    (t.more_parameters (at 1) (t.typed (t.specifiers (word keyword.Int 1) t.no_specifiers) t.unnamed)
    (t.more_parameters (at 1) (t.typed (t.specifiers (word keyword.Int 1) t.no_specifiers) t.unnamed)
    (t.more_parameters (at 1) (t.typed (t.specifiers (word keyword.Int 1) t.no_specifiers) t.unnamed)
    (t.more_parameters (at 1) (t.typed (t.specifiers (word keyword.Int 1) t.no_specifiers) t.unnamed)
    (t.more_parameters (at 1) (t.typed (t.specifiers (word keyword.Int 1) t.no_specifiers) t.unnamed)
    (t.more_parameters (at 1) (t.typed (t.specifiers (word keyword.Int 1) t.no_specifiers) t.unnamed)
    (t.more_parameters (at 1) (t.typed (t.specifiers (word keyword.Int 1) t.no_specifiers) t.unnamed)
    (t.more_parameters (at 1) (t.typed (t.specifiers (word keyword.Int 1) t.no_specifiers) t.unnamed)
    (t.more_parameters (at 1) (t.typed (t.specifiers (word keyword.Int 1) t.no_specifiers) t.unnamed)
    (t.more_parameters (at 1) (t.typed (t.specifiers (word keyword.Int 1) t.no_specifiers) t.unnamed)
    (t.more_parameters (at 1) (t.typed (t.specifiers (word keyword.Int 1) t.no_specifiers) t.unnamed)
    (t.more_parameters (at 1) (t.typed (t.specifiers (word keyword.Int 1) t.no_specifiers) t.unnamed)
    (t.more_parameters (at 1) (t.typed (t.specifiers (word keyword.Int 1) t.no_specifiers) t.unnamed)
    (t.more_parameters (at 1) (t.typed (t.specifiers (word keyword.Int 1) t.no_specifiers) t.unnamed)
    (t.more_parameters (at 1) (t.typed (t.specifiers (word keyword.Int 1) t.no_specifiers) t.unnamed)
    (t.more_parameters (at 1) (t.typed (t.specifiers (word keyword.Int 1) t.no_specifiers) t.unnamed)
    (t.more_parameters (at 1) (t.typed (t.specifiers (word keyword.Int 1) t.no_specifiers) t.unnamed)
    (t.more_parameters (at 1) (t.typed (t.specifiers (word keyword.Int 1) t.no_specifiers) t.unnamed)
    (t.more_parameters (at 1) (t.typed (t.specifiers (word keyword.Int 1) t.no_specifiers) t.unnamed)
    (t.more_parameters (at 1) (t.typed (t.specifiers (word keyword.Int 1) t.no_specifiers) t.unnamed)
    (t.more_parameters (at 1) (t.typed (t.specifiers (word keyword.Int 1) t.no_specifiers) t.unnamed)
    (t.more_parameters (at 1) (t.typed (t.specifiers (word keyword.Int 1) t.no_specifiers) t.unnamed)
    (t.more_parameters (at 1) (t.typed (t.specifiers (word keyword.Int 1) t.no_specifiers) t.unnamed)
    (t.more_parameters (at 1) (t.typed (t.specifiers (word keyword.Int 1) t.no_specifiers) t.unnamed)
    (t.more_parameters (at 1) (t.typed (t.specifiers (word keyword.Int 1) t.no_specifiers) t.unnamed)
    (t.more_parameters (at 1) (t.typed (t.specifiers (word keyword.Int 1) t.no_specifiers) t.unnamed)
    (t.more_parameters (at 1) (t.typed (t.specifiers (word keyword.Int 1) t.no_specifiers) t.unnamed)
    (t.more_parameters (at 1) (t.typed (t.specifiers (word keyword.Int 1) t.no_specifiers) t.unnamed)
    (t.more_parameters (at 1) (t.typed (t.specifiers (word keyword.Int 1) t.no_specifiers) t.unnamed)
    (t.more_parameters (at 1) (t.typed (t.specifiers (word keyword.Int 1) t.no_specifiers) t.unnamed)
    (t.more_parameters (at 1) (t.typed (t.specifiers (word keyword.Int 1) t.no_specifiers) t.unnamed)
    (t.more_parameters (at 1) (t.typed (t.specifiers (word keyword.Int 1) t.no_specifiers) t.unnamed)
    (t.more_parameters (at 1) (t.typed (t.specifiers (word keyword.Int 1) t.no_specifiers) t.unnamed)
    (t.more_parameters (at 1) (t.typed (t.specifiers (word keyword.Int 1) t.no_specifiers) t.unnamed)
    (t.more_parameters (at 1) (t.typed (t.specifiers (word keyword.Int 1) t.no_specifiers) t.unnamed)
    (t.more_parameters (at 1) (t.typed (t.specifiers (word keyword.Int 1) t.no_specifiers) t.unnamed)
    (t.more_parameters (at 1) (t.typed (t.specifiers (word keyword.Int 1) t.no_specifiers) t.unnamed)
    (t.more_parameters (at 1) (t.typed (t.specifiers (word keyword.Int 1) t.no_specifiers) t.unnamed)
    (t.more_parameters (at 1) (t.typed (t.specifiers (word keyword.Int 1) t.no_specifiers) t.unnamed)
    (t.more_parameters (at 1) (t.typed (t.specifiers (word keyword.Int 1) t.no_specifiers) t.unnamed)
    (t.more_parameters (at 1) (t.typed (t.specifiers (word keyword.Int 1) t.no_specifiers) t.unnamed)
    (t.more_parameters (at 1) (t.typed (t.specifiers (word keyword.Int 1) t.no_specifiers) t.unnamed)
    (t.more_parameters (at 1) (t.typed (t.specifiers (word keyword.Int 1) t.no_specifiers) t.unnamed)
    (t.more_parameters (at 1) (t.typed (t.specifiers (word keyword.Int 1) t.no_specifiers) t.unnamed)
    (t.more_parameters (at 1) (t.typed (t.specifiers (word keyword.Int 1) t.no_specifiers) t.unnamed)
    (t.more_parameters (at 1) (t.typed (t.specifiers (word keyword.Int 1) t.no_specifiers) t.unnamed)
    (t.more_parameters (at 1) (t.typed (t.specifiers (word keyword.Int 1) t.no_specifiers) t.unnamed)
    (t.more_parameters (at 1) (t.typed (t.specifiers (word keyword.Int 1) t.no_specifiers) t.unnamed)
    (t.more_parameters (at 1) (t.typed (t.specifiers (word keyword.Int 1) t.no_specifiers) t.unnamed)
    (t.more_parameters (at 1) (t.typed (t.specifiers (word keyword.Int 1) t.no_specifiers) t.unnamed)
    (t.more_parameters (at 1) (t.typed (t.specifiers (word keyword.Int 1) t.no_specifiers) t.unnamed)
    (t.more_parameters (at 1) (t.typed (t.specifiers (word keyword.Int 1) t.no_specifiers) t.unnamed)
    (t.more_parameters (at 1) (t.typed (t.specifiers (word keyword.Int 1) t.no_specifiers) t.unnamed)
    (t.more_parameters (at 1) (t.typed (t.specifiers (word keyword.Int 1) t.no_specifiers) t.unnamed)
    (t.more_parameters (at 1) (t.typed (t.specifiers (word keyword.Int 1) t.no_specifiers) t.unnamed)
    (t.more_parameters (at 1) (t.typed (t.specifiers (word keyword.Int 1) t.no_specifiers) t.unnamed)
    (t.more_parameters (at 1) (t.typed (t.specifiers (word keyword.Int 1) t.no_specifiers) t.unnamed)
    (t.more_parameters (at 1) (t.typed (t.specifiers (word keyword.Int 1) t.no_specifiers) t.unnamed)
    (t.more_parameters (at 1) (t.typed (t.specifiers (word keyword.Int 1) t.no_specifiers) t.unnamed)
    (t.more_parameters (at 1) (t.typed (t.specifiers (word keyword.Int 1) t.no_specifiers) t.unnamed)
    (t.more_parameters (at 1) (t.typed (t.specifiers (word keyword.Int 1) t.no_specifiers) t.unnamed)
    (t.more_parameters (at 1) (t.typed (t.specifiers (word keyword.Int 1) t.no_specifiers) t.unnamed)
    (t.more_parameters (at 1) (t.typed (t.specifiers (word keyword.Int 1) t.no_specifiers) t.unnamed)
    (t.more_parameters (at 1) (t.typed (t.specifiers (word keyword.Int 1) t.no_specifiers) t.unnamed)
    (t.more_parameters (at 1) (t.typed (t.specifiers (word keyword.Int 1) t.no_specifiers) t.unnamed)
    (t.more_parameters (at 1) (t.typed (t.specifiers (word keyword.Int 1) t.no_specifiers) t.unnamed)
    t.end_of_parameters))))))))))))))))))))))))))))))))))))))))))))))))))))))))))))))))))))))))))))))))))))))))))))))))))))))))))))))))))))))))))))))))
    (at 1)) None) [])) (at 1))) ∷ (s.definition (t.specifiers (word keyword.Int 1) t.no_specifiers) (t.function
    (t.named (spelled (codes "main") 1)) (at 1) (t.void_parameters (at 1)) (at 1)) (s.block (at 1) (s.items (s.inner
    (s.return (at 1) (Some (t.integer (spelled (codes "0") 1))) (at 1))) s.no_items) (at 1))) ∷ []) 1)
    ≡ large limited.Parameters 128
unfolding balanced_type common_type fit is_signed mixed_type promoted rank size_of unsigned_of binary_value
    shift_amount unary_value constant_in constant_of greatest_of suffix_of typed types_of bytes_of_literal character_value
    characters_of escaped literal_step next_character extent_of array_size member_offsets structure_of union_of room
    is_valid_program constant_word binary assigned cast row_of comma combined unary dereferenced indexed size_of_words
    assignment compound stepped condition conditional switch_value called called_through routine_words composite judged
    start reached reached_by reached_in element_number member_number number_behind part closed opened with_literal
    with_value without first_not_constant typed_unit
parameters = refl

-- char a[4194305];int f(int,int,int,int,int,int,int,int,int,int,int,int,int,int,int,int,int,int,int,in ..
-- t,int,int,int,int,int,int,int,int);int main(void){return 0;}
parameters_before_globals :
    (source ((s.declaration (declaration (t.specifiers (word keyword.Char 1) t.no_specifiers) (Some (declarators
    (init_declarator (t.array (t.named (spelled (codes "a") 1)) (at 1) (t.integer (spelled (codes "4194305") 1)) (at
    1)) None) [])) (at 1))) ∷ (s.declaration (declaration (t.specifiers (word keyword.Int 1) t.no_specifiers) (Some
    (declarators (init_declarator (t.function (t.named (spelled (codes "f") 1)) (at 1) (t.parameters (t.typed
    (t.specifiers (word keyword.Int 1) t.no_specifiers) t.unnamed) (t.more_parameters (at 1) (t.typed (t.specifiers
    (word keyword.Int 1) t.no_specifiers) t.unnamed) (t.more_parameters (at 1) (t.typed (t.specifiers (word
    keyword.Int 1) t.no_specifiers) t.unnamed) (t.more_parameters (at 1) (t.typed (t.specifiers (word keyword.Int 1)
    t.no_specifiers) t.unnamed) (t.more_parameters (at 1) (t.typed (t.specifiers (word keyword.Int 1) t.no_specifiers)
    t.unnamed) (t.more_parameters (at 1) (t.typed (t.specifiers (word keyword.Int 1) t.no_specifiers) t.unnamed)
    (t.more_parameters (at 1) (t.typed (t.specifiers (word keyword.Int 1) t.no_specifiers) t.unnamed)
    (t.more_parameters (at 1) (t.typed (t.specifiers (word keyword.Int 1) t.no_specifiers) t.unnamed)
    (t.more_parameters (at 1) (t.typed (t.specifiers (word keyword.Int 1) t.no_specifiers) t.unnamed)
    (t.more_parameters (at 1) (t.typed (t.specifiers (word keyword.Int 1) t.no_specifiers) t.unnamed)
    (t.more_parameters (at 1) (t.typed (t.specifiers (word keyword.Int 1) t.no_specifiers) t.unnamed)
    (t.more_parameters (at 1) (t.typed (t.specifiers (word keyword.Int 1) t.no_specifiers) t.unnamed)
    (t.more_parameters (at 1) (t.typed (t.specifiers (word keyword.Int 1) t.no_specifiers) t.unnamed)
    (t.more_parameters (at 1) (t.typed (t.specifiers (word keyword.Int 1) t.no_specifiers) t.unnamed)
    (t.more_parameters (at 1) (t.typed (t.specifiers (word keyword.Int 1) t.no_specifiers) t.unnamed)
    (t.more_parameters (at 1) (t.typed (t.specifiers (word keyword.Int 1) t.no_specifiers) t.unnamed)
    (t.more_parameters (at 1) (t.typed (t.specifiers (word keyword.Int 1) t.no_specifiers) t.unnamed)
    (t.more_parameters (at 1) (t.typed (t.specifiers (word keyword.Int 1) t.no_specifiers) t.unnamed)
    (t.more_parameters (at 1) (t.typed (t.specifiers (word keyword.Int 1) t.no_specifiers) t.unnamed)
    (t.more_parameters (at 1) (t.typed (t.specifiers (word keyword.Int 1) t.no_specifiers) t.unnamed)
    (t.more_parameters (at 1) (t.typed (t.specifiers (word keyword.Int 1) t.no_specifiers) t.unnamed)
    (t.more_parameters (at 1) (t.typed (t.specifiers (word keyword.Int 1) t.no_specifiers) t.unnamed)
    (t.more_parameters (at 1) (t.typed (t.specifiers (word keyword.Int 1) t.no_specifiers) t.unnamed)
    (t.more_parameters (at 1) (t.typed (t.specifiers (word keyword.Int 1) t.no_specifiers) t.unnamed)
    (t.more_parameters (at 1) (t.typed (t.specifiers (word keyword.Int 1) t.no_specifiers) t.unnamed)
    (t.more_parameters (at 1) (t.typed (t.specifiers (word keyword.Int 1) t.no_specifiers) t.unnamed)
    (t.more_parameters (at 1) (t.typed (t.specifiers (word keyword.Int 1) t.no_specifiers) t.unnamed)
    (t.more_parameters (at 1) (t.typed (t.specifiers (word keyword.Int 1) t.no_specifiers) t.unnamed)
    (t.more_parameters (at 1) (t.typed (t.specifiers (word keyword.Int 1) t.no_specifiers) t.unnamed)
    (t.more_parameters (at 1) (t.typed (t.specifiers (word keyword.Int 1) t.no_specifiers) t.unnamed)
    (t.more_parameters (at 1) (t.typed (t.specifiers (word keyword.Int 1) t.no_specifiers) t.unnamed)
    (t.more_parameters (at 1) (t.typed (t.specifiers (word keyword.Int 1) t.no_specifiers) t.unnamed)
    (t.more_parameters (at 1) (t.typed (t.specifiers (word keyword.Int 1) t.no_specifiers) t.unnamed)
    (t.more_parameters (at 1) (t.typed (t.specifiers (word keyword.Int 1) t.no_specifiers) t.unnamed)
    (t.more_parameters (at 1) (t.typed (t.specifiers (word keyword.Int 1) t.no_specifiers) t.unnamed)
    (t.more_parameters (at 1) (t.typed (t.specifiers (word keyword.Int 1) t.no_specifiers) t.unnamed)
    (t.more_parameters (at 1) (t.typed (t.specifiers (word keyword.Int 1) t.no_specifiers) t.unnamed)
    (t.more_parameters (at 1) (t.typed (t.specifiers (word keyword.Int 1) t.no_specifiers) t.unnamed)
    (t.more_parameters (at 1) (t.typed (t.specifiers (word keyword.Int 1) t.no_specifiers) t.unnamed)
    (t.more_parameters (at 1) (t.typed (t.specifiers (word keyword.Int 1) t.no_specifiers) t.unnamed)
    (t.more_parameters (at 1) (t.typed (t.specifiers (word keyword.Int 1) t.no_specifiers) t.unnamed)
    (t.more_parameters (at 1) (t.typed (t.specifiers (word keyword.Int 1) t.no_specifiers) t.unnamed)
    (t.more_parameters (at 1) (t.typed (t.specifiers (word keyword.Int 1) t.no_specifiers) t.unnamed)
    (t.more_parameters (at 1) (t.typed (t.specifiers (word keyword.Int 1) t.no_specifiers) t.unnamed)
    (t.more_parameters (at 1) (t.typed (t.specifiers (word keyword.Int 1) t.no_specifiers) t.unnamed)
    (t.more_parameters (at 1) (t.typed (t.specifiers (word keyword.Int 1) t.no_specifiers) t.unnamed)
    (t.more_parameters (at 1) (t.typed (t.specifiers (word keyword.Int 1) t.no_specifiers) t.unnamed)
    (t.more_parameters (at 1) (t.typed (t.specifiers (word keyword.Int 1) t.no_specifiers) t.unnamed)
    (t.more_parameters (at 1) (t.typed (t.specifiers (word keyword.Int 1) t.no_specifiers) t.unnamed)
    (t.more_parameters (at 1) (t.typed (t.specifiers (word keyword.Int 1) t.no_specifiers) t.unnamed)
    (t.more_parameters (at 1) (t.typed (t.specifiers (word keyword.Int 1) t.no_specifiers) t.unnamed)
    (t.more_parameters (at 1) (t.typed (t.specifiers (word keyword.Int 1) t.no_specifiers) t.unnamed)
    (t.more_parameters (at 1) (t.typed (t.specifiers (word keyword.Int 1) t.no_specifiers) t.unnamed)
    (t.more_parameters (at 1) (t.typed (t.specifiers (word keyword.Int 1) t.no_specifiers) t.unnamed)
    (t.more_parameters (at 1) (t.typed (t.specifiers (word keyword.Int 1) t.no_specifiers) t.unnamed)
    (t.more_parameters (at 1) (t.typed (t.specifiers (word keyword.Int 1) t.no_specifiers) t.unnamed)
    (t.more_parameters (at 1) (t.typed (t.specifiers (word keyword.Int 1) t.no_specifiers) t.unnamed)
    (t.more_parameters (at 1) (t.typed (t.specifiers (word keyword.Int 1) t.no_specifiers) t.unnamed)
    (t.more_parameters (at 1) (t.typed (t.specifiers (word keyword.Int 1) t.no_specifiers) t.unnamed)
    (t.more_parameters (at 1) (t.typed (t.specifiers (word keyword.Int 1) t.no_specifiers) t.unnamed)
    (t.more_parameters (at 1) (t.typed (t.specifiers (word keyword.Int 1) t.no_specifiers) t.unnamed)
    (t.more_parameters (at 1) (t.typed (t.specifiers (word keyword.Int 1) t.no_specifiers) t.unnamed)
    (t.more_parameters (at 1) (t.typed (t.specifiers (word keyword.Int 1) t.no_specifiers) t.unnamed)
    (t.more_parameters (at 1) (t.typed (t.specifiers (word keyword.Int 1) t.no_specifiers) t.unnamed)
    (t.more_parameters (at 1) (t.typed (t.specifiers (word keyword.Int 1) t.no_specifiers) t.unnamed)
    (t.more_parameters (at 1) (t.typed (t.specifiers (word keyword.Int 1) t.no_specifiers) t.unnamed)
    (t.more_parameters (at 1) (t.typed (t.specifiers (word keyword.Int 1) t.no_specifiers) t.unnamed)
    (t.more_parameters (at 1) (t.typed (t.specifiers (word keyword.Int 1) t.no_specifiers) t.unnamed)
    (t.more_parameters (at 1) (t.typed (t.specifiers (word keyword.Int 1) t.no_specifiers) t.unnamed)
    (t.more_parameters (at 1) (t.typed (t.specifiers (word keyword.Int 1) t.no_specifiers) t.unnamed)
    (t.more_parameters (at 1) (t.typed (t.specifiers (word keyword.Int 1) t.no_specifiers) t.unnamed)
    (t.more_parameters (at 1) (t.typed (t.specifiers (word keyword.Int 1) t.no_specifiers) t.unnamed)
    (t.more_parameters (at 1) (t.typed (t.specifiers (word keyword.Int 1) t.no_specifiers) t.unnamed)
    (t.more_parameters (at 1) (t.typed (t.specifiers (word keyword.Int 1) t.no_specifiers) t.unnamed)
    (t.more_parameters (at 1) (t.typed (t.specifiers (word keyword.Int 1) t.no_specifiers) t.unnamed)
    (t.more_parameters (at 1) (t.typed (t.specifiers (word keyword.Int 1) t.no_specifiers) t.unnamed)
    (t.more_parameters (at 1) (t.typed (t.specifiers (word keyword.Int 1) t.no_specifiers) t.unnamed)
    (t.more_parameters (at 1) (t.typed (t.specifiers (word keyword.Int 1) t.no_specifiers) t.unnamed)
    (t.more_parameters (at 1) (t.typed (t.specifiers (word keyword.Int 1) t.no_specifiers) t.unnamed)
    (t.more_parameters (at 1) (t.typed (t.specifiers (word keyword.Int 1) t.no_specifiers) t.unnamed)
    (t.more_parameters (at 1) (t.typed (t.specifiers (word keyword.Int 1) t.no_specifiers) t.unnamed)
    (t.more_parameters (at 1) (t.typed (t.specifiers (word keyword.Int 1) t.no_specifiers) t.unnamed)
    (t.more_parameters (at 1) (t.typed (t.specifiers (word keyword.Int 1) t.no_specifiers) t.unnamed)
    (t.more_parameters (at 1) (t.typed (t.specifiers (word keyword.Int 1) t.no_specifiers) t.unnamed)
    (t.more_parameters (at 1) (t.typed (t.specifiers (word keyword.Int 1) t.no_specifiers) t.unnamed)
    (t.more_parameters (at 1) (t.typed (t.specifiers (word keyword.Int 1) t.no_specifiers) t.unnamed)
    (t.more_parameters (at 1) (t.typed (t.specifiers (word keyword.Int 1) t.no_specifiers) t.unnamed)
    (t.more_parameters (at 1) (t.typed (t.specifiers (word keyword.Int 1) t.no_specifiers) t.unnamed)
    (t.more_parameters (at 1) (t.typed (t.specifiers (word keyword.Int 1) t.no_specifiers) t.unnamed)
    (t.more_parameters (at 1) (t.typed (t.specifiers (word keyword.Int 1) t.no_specifiers) t.unnamed)
    (t.more_parameters (at 1) (t.typed (t.specifiers (word keyword.Int 1) t.no_specifiers) t.unnamed)
    (t.more_parameters (at 1) (t.typed (t.specifiers (word keyword.Int 1) t.no_specifiers) t.unnamed)
    (t.more_parameters (at 1) (t.typed (t.specifiers (word keyword.Int 1) t.no_specifiers) t.unnamed)
    (t.more_parameters (at 1) (t.typed (t.specifiers (word keyword.Int 1) t.no_specifiers) t.unnamed)
    (t.more_parameters (at 1) (t.typed (t.specifiers (word keyword.Int 1) t.no_specifiers) t.unnamed)
    (t.more_parameters (at 1) (t.typed (t.specifiers (word keyword.Int 1) t.no_specifiers) t.unnamed)
    (t.more_parameters (at 1) (t.typed (t.specifiers (word keyword.Int 1) t.no_specifiers) t.unnamed)
    (t.more_parameters (at 1) (t.typed (t.specifiers (word keyword.Int 1) t.no_specifiers) t.unnamed)
    (t.more_parameters (at 1) (t.typed (t.specifiers (word keyword.Int 1) t.no_specifiers) t.unnamed)
    (t.more_parameters (at 1) (t.typed (t.specifiers (word keyword.Int 1) t.no_specifiers) t.unnamed)
    (t.more_parameters (at 1) (t.typed (t.specifiers (word keyword.Int 1) t.no_specifiers) t.unnamed)
    (t.more_parameters (at 1) (t.typed (t.specifiers (word keyword.Int 1) t.no_specifiers) t.unnamed)
    (t.more_parameters (at 1) (t.typed (t.specifiers (word keyword.Int 1) t.no_specifiers) t.unnamed)
    (t.more_parameters (at 1) (t.typed (t.specifiers (word keyword.Int 1) t.no_specifiers) t.unnamed)
    (t.more_parameters (at 1) (t.typed (t.specifiers (word keyword.Int 1) t.no_specifiers) t.unnamed)
    (t.more_parameters (at 1) (t.typed (t.specifiers (word keyword.Int 1) t.no_specifiers) t.unnamed)
    (t.more_parameters (at 1) (t.typed (t.specifiers (word keyword.Int 1) t.no_specifiers) t.unnamed)
    (t.more_parameters (at 1) (t.typed (t.specifiers (word keyword.Int 1) t.no_specifiers) t.unnamed)
    (t.more_parameters (at 1) (t.typed (t.specifiers (word keyword.Int 1) t.no_specifiers) t.unnamed)
    (t.more_parameters (at 1) (t.typed (t.specifiers (word keyword.Int 1) t.no_specifiers) t.unnamed)
    (t.more_parameters (at 1) (t.typed (t.specifiers (word keyword.Int 1) t.no_specifiers) t.unnamed)
    (t.more_parameters (at 1) (t.typed (t.specifiers (word keyword.Int 1) t.no_specifiers) t.unnamed)
    (t.more_parameters (at 1) (t.typed (t.specifiers (word keyword.Int 1) t.no_specifiers) t.unnamed)
    (t.more_parameters (at 1) (t.typed (t.specifiers (word keyword.Int 1) t.no_specifiers) t.unnamed)
    (t.more_parameters (at 1) (t.typed (t.specifiers (word keyword.Int 1) t.no_specifiers) t.unnamed)
    (t.more_parameters (at 1) (t.typed (t.specifiers (word keyword.Int 1) t.no_specifiers) t.unnamed)
    (t.more_parameters (at 1) (t.typed (t.specifiers (word keyword.Int 1) t.no_specifiers) t.unnamed)
    (t.more_parameters (at 1) (t.typed (t.specifiers (word keyword.Int 1) t.no_specifiers) t.unnamed)
    (t.more_parameters (at 1) (t.typed (t.specifiers (word keyword.Int 1) t.no_specifiers) t.unnamed)
    (t.more_parameters (at 1) (t.typed (t.specifiers (word keyword.Int 1) t.no_specifiers) t.unnamed)
    (t.more_parameters (at 1) (t.typed (t.specifiers (word keyword.Int 1) t.no_specifiers) t.unnamed)
    (t.more_parameters (at 1) (t.typed (t.specifiers (word keyword.Int 1) t.no_specifiers) t.unnamed)
    (t.more_parameters (at 1) (t.typed (t.specifiers (word keyword.Int 1) t.no_specifiers) t.unnamed)
    (t.more_parameters (at 1) (t.typed (t.specifiers (word keyword.Int 1) t.no_specifiers) t.unnamed)
    (t.more_parameters (at 1) (t.typed (t.specifiers (word keyword.Int 1) t.no_specifiers) t.unnamed)
    (t.more_parameters (at 1) (t.typed (t.specifiers (word keyword.Int 1) t.no_specifiers) t.unnamed)
    (t.more_parameters (at 1) (t.typed (t.specifiers (word keyword.Int 1) t.no_specifiers) t.unnamed)
    (t.more_parameters (at 1) (t.typed (t.specifiers (word keyword.Int 1) t.no_specifiers) t.unnamed)
    (t.more_parameters (at 1) (t.typed (t.specifiers (word keyword.Int 1) t.no_specifiers) t.unnamed)
    t.end_of_parameters)))))))))))))))))))))))))))))))))))))))))))))))))))))))))))))))))))))))))))))))))))))))))))))))))))))))))))))))))))))))))))))))))
    (at 1)) None) [])) (at 1))) ∷ (s.definition (t.specifiers (word keyword.Int 1) t.no_specifiers) (t.function
    (t.named (spelled (codes "main") 1)) (at 1) (t.void_parameters (at 1)) (at 1)) (s.block (at 1) (s.items (s.inner
    (s.return (at 1) (Some (t.integer (spelled (codes "0") 1))) (at 1))) s.no_items) (at 1))) ∷ []) 1)
    ≡ large limited.Parameters 129
unfolding balanced_type common_type fit is_signed mixed_type promoted rank size_of unsigned_of binary_value
    shift_amount unary_value constant_in constant_of greatest_of suffix_of typed types_of bytes_of_literal character_value
    characters_of escaped literal_step next_character extent_of array_size member_offsets structure_of union_of room
    is_valid_program constant_word binary assigned cast row_of comma combined unary dereferenced indexed size_of_words
    assignment compound stepped condition conditional switch_value called called_through routine_words composite judged
    start reached reached_by reached_in element_number member_number number_behind part closed opened with_literal
    with_value without first_not_constant typed_unit
parameters_before_globals = refl
