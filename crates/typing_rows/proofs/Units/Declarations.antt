-- Declarations: linkage, tentative definitions, storage classes, tags, functions (C99 6.7, 6.9).
-- gcc 12.2.0 (-std=c99 -pedantic-errors -fsyntax-only) accepts or refuses the texts of all rows but of these as they
-- do, which have a rule or limit that gcc has not: of_the_library.
use Rattle.std.proofs.Common.{◌≡◌, true, false, [], ◌∷◌, Some, None, refl}
use Rattle.std.specs.Prelude.{codes}
use Rattle.c_lexer.specs.declared.keyword.Keyword.TheVariants as keyword
use Rattle.c_lexer.specs.declared.punctuator.Punctuator.TheVariants as sign
use Rattle.c_syntax.specs.Statements as s
use Rattle.c_syntax.specs.Tree as t
use Rattle.obj_memory.specs.Integers.{balanced_type, common_type, fit, is_signed, mixed_type, promoted, rank, size_of}
use Rattle.obj_memory.specs.Integers.{unsigned_of}
use Rattle.obj_memory.specs.Operators.{binary_value, shift_amount, unary_value}
use Rattle.c_lexer.specs.Constants.{constant_in, constant_of, greatest_of, suffix_of, typed, types_of}
use Rattle.c_lexer.specs.Literals.{bytes_of_literal, character_value, characters_of, escaped, literal_step, next_character}
use Rattle.c_tree.specs.Extents.{extent_of}
use Rattle.c_tree.specs.Layout.{array_size, member_offsets, structure_of, union_of}
use Rattle.c_tree.specs.Room.{room}
use Rattle.c_tree.specs.ValidProgram.{is_valid_program}
use Rattle.c_const.specs.Initializers.{first_not_constant}
use Rattle.c_const.specs.Integers.{constant_word}
use Rattle.c_rules.specs.Binary.{binary}
use Rattle.c_rules.specs.Conversions.{assigned, cast}
use Rattle.c_rules.specs.Rows.{row_of}
use Rattle.c_rules.specs.Unary.{comma, combined, unary}
use Rattle.c_place_rules.specs.Places.{dereferenced, indexed, size_of as size_of_words}
use Rattle.c_assignment_rules.specs.Assignments.{assignment, compound, stepped}
use Rattle.c_condition_rules.specs.Conditions.{condition, conditional, switch_value}
use Rattle.c_call_rules.specs.Calls.{called, called_through}
use Rattle.c_tree.specs.Routines.{routine_words}
use Rattle.c_scope.specs.Composite.{composite}
use Rattle.c_scope.specs.Declaring.{judged}
use Rattle.c_scope.specs.Start.{start}
use Rattle.c_current_object.specs.CurrentObject.{reached, reached_by, reached_in}
use Rattle.c_current_object.specs.Subobjects.{element_number, member_number, number_behind, part}
use Rattle.c_initializer_rules.specs.Initializing.{closed, opened, with_literal, with_value}
use Rattle.c_initializer_rules.specs.Placed.{without}
use Rattle.c_unit_typing.specs.Typed.{typed_unit}
use Rattle.typing_rows.proofs.Units.Sources.{accepted, at, bytes, declaration, declarators, function, init_declarator}
use Rattle.typing_rows.proofs.Units.Sources.{number, other, source, spelled, word}

-- extern int a[3];int a[]={1,2};int main(void){return 0;}
size_of_the_visible :
    (source ((s.declaration (declaration (t.specifiers (word keyword.Extern 1) (t.specifiers (word keyword.Int 1)
    t.no_specifiers)) (Some (declarators (init_declarator (t.array (t.named (spelled (codes "a") 1)) (at 1) (t.integer
    (spelled (codes "3") 1)) (at 1)) None) [])) (at 1))) ∷ (s.declaration (declaration (t.specifiers (word keyword.Int
    1) t.no_specifiers) (Some (declarators (init_declarator (t.open_array (t.named (spelled (codes "a") 1)) (at 1) (at
    1)) (Some (
      (at 1),
      (t.braced (at 1) (t.item None (t.value (t.integer (spelled (codes "1") 1)))) (t.more_items (at
          1) (t.item None (t.value (t.integer (spelled (codes "2") 1)))) t.end_of_items) None (at 1)),
    ))) [])) (at 1))) ∷
    (s.definition (t.specifiers (word keyword.Int 1) t.no_specifiers) (t.function (t.named (spelled (codes "main") 1))
    (at 1) (t.void_parameters (at 1)) (at 1)) (s.block (at 1) (s.items (s.inner (s.return (at 1) (Some (t.integer
    (spelled (codes "0") 1))) (at 1))) s.no_items) (at 1))) ∷ []) 1)
    ≡ accepted true ((12, (None, ((0, number 1) ∷ (4, number 2) ∷ []))) ∷ []) (function 1 0 [] [] (number 0 ∷ []) ∷
    [])
unfolding balanced_type common_type fit is_signed mixed_type promoted rank size_of unsigned_of binary_value
    shift_amount unary_value constant_in constant_of greatest_of suffix_of typed types_of bytes_of_literal character_value
    characters_of escaped literal_step next_character extent_of array_size member_offsets structure_of union_of room
    is_valid_program constant_word binary assigned cast row_of comma combined unary dereferenced indexed size_of_words
    assignment compound stepped condition conditional switch_value called called_through routine_words composite judged
    start reached reached_by reached_in element_number member_number number_behind part closed opened with_literal
    with_value without first_not_constant typed_unit
size_of_the_visible = refl

-- int x;int x=3;int x;int main(void){return x;}
tentative :
    (source ((s.declaration (declaration (t.specifiers (word keyword.Int 1) t.no_specifiers) (Some (declarators
    (init_declarator (t.named (spelled (codes "x") 1)) None) [])) (at 1))) ∷ (s.declaration (declaration (t.specifiers
    (word keyword.Int 1) t.no_specifiers) (Some (declarators (init_declarator (t.named (spelled (codes "x") 1)) (Some
    ((at 1), (t.value (t.integer (spelled (codes "3") 1)))))) [])) (at 1))) ∷ (s.declaration (declaration
    (t.specifiers (word keyword.Int 1) t.no_specifiers) (Some (declarators (init_declarator (t.named (spelled (codes
    "x") 1)) None) [])) (at 1))) ∷ (s.definition (t.specifiers (word keyword.Int 1) t.no_specifiers) (t.function
    (t.named (spelled (codes "main") 1)) (at 1) (t.void_parameters (at 1)) (at 1)) (s.block (at 1) (s.items (s.inner
    (s.return (at 1) (Some (t.identifier (spelled (codes "x") 1))) (at 1))) s.no_items) (at 1))) ∷ []) 1)
    ≡ accepted true ((4, (None, ((0, number 3) ∷ []))) ∷ []) (function 1 0 [] [] (other ∷ []) ∷ [])
unfolding balanced_type common_type fit is_signed mixed_type promoted rank size_of unsigned_of binary_value
    shift_amount unary_value constant_in constant_of greatest_of suffix_of typed types_of bytes_of_literal character_value
    characters_of escaped literal_step next_character extent_of array_size member_offsets structure_of union_of room
    is_valid_program constant_word binary assigned cast row_of comma combined unary dereferenced indexed size_of_words
    assignment compound stepped condition conditional switch_value called called_through routine_words composite judged
    start reached reached_by reached_in element_number member_number number_behind part closed opened with_literal
    with_value without first_not_constant typed_unit
tentative = refl

-- int a[];int main(void){return 0;}
one_element :
    (source ((s.declaration (declaration (t.specifiers (word keyword.Int 1) t.no_specifiers) (Some (declarators
    (init_declarator (t.open_array (t.named (spelled (codes "a") 1)) (at 1) (at 1)) None) [])) (at 1))) ∷
    (s.definition (t.specifiers (word keyword.Int 1) t.no_specifiers) (t.function (t.named (spelled (codes "main") 1))
    (at 1) (t.void_parameters (at 1)) (at 1)) (s.block (at 1) (s.items (s.inner (s.return (at 1) (Some (t.integer
    (spelled (codes "0") 1))) (at 1))) s.no_items) (at 1))) ∷ []) 1)
    ≡ accepted true ((4, (None, [])) ∷ []) (function 1 0 [] [] (number 0 ∷ []) ∷ [])
unfolding balanced_type common_type fit is_signed mixed_type promoted rank size_of unsigned_of binary_value
    shift_amount unary_value constant_in constant_of greatest_of suffix_of typed types_of bytes_of_literal character_value
    characters_of escaped literal_step next_character extent_of array_size member_offsets structure_of union_of room
    is_valid_program constant_word binary assigned cast row_of comma combined unary dereferenced indexed size_of_words
    assignment compound stepped condition conditional switch_value called called_through routine_words composite judged
    start reached reached_by reached_in element_number member_number number_behind part closed opened with_literal
    with_value without first_not_constant typed_unit
one_element = refl

-- struct S s;struct S{int a;int b;};int main(void){return 0;}
completed_later :
    (source ((s.declaration (declaration (t.specifiers (t.structure keyword.Struct (at 1) (spelled (codes "S") 1))
    t.no_specifiers) (Some (declarators (init_declarator (t.named (spelled (codes "s") 1)) None) [])) (at 1))) ∷
    (s.declaration (declaration (t.specifiers (t.structure_body keyword.Struct (at 1) (Some (spelled (codes "S") 1))
    (at 1) (t.members (t.member_declaration (t.specifiers (word keyword.Int 1) t.no_specifiers) (t.named (spelled
    (codes "a") 1)) t.end_of_declarators (at 1)) (t.members (t.member_declaration (t.specifiers (word keyword.Int 1)
    t.no_specifiers) (t.named (spelled (codes "b") 1)) t.end_of_declarators (at 1)) t.no_members)) (at 1))
    t.no_specifiers) None (at 1))) ∷ (s.definition (t.specifiers (word keyword.Int 1) t.no_specifiers) (t.function
    (t.named (spelled (codes "main") 1)) (at 1) (t.void_parameters (at 1)) (at 1)) (s.block (at 1) (s.items (s.inner
    (s.return (at 1) (Some (t.integer (spelled (codes "0") 1))) (at 1))) s.no_items) (at 1))) ∷ []) 1)
    ≡ accepted true ((8, (None, [])) ∷ []) (function 1 0 [] [] (number 0 ∷ []) ∷ [])
unfolding balanced_type common_type fit is_signed mixed_type promoted rank size_of unsigned_of binary_value
    shift_amount unary_value constant_in constant_of greatest_of suffix_of typed types_of bytes_of_literal character_value
    characters_of escaped literal_step next_character extent_of array_size member_offsets structure_of union_of room
    is_valid_program constant_word binary assigned cast row_of comma combined unary dereferenced indexed size_of_words
    assignment compound stepped condition conditional switch_value called called_through routine_words composite judged
    start reached reached_by reached_in element_number member_number number_behind part closed opened with_literal
    with_value without first_not_constant typed_unit
completed_later = refl

-- typedef int T;typedef T U[2];T x=2;U a={1};int main(void){return 0;}
typedefs :
    (source ((s.declaration (declaration (t.specifiers (word keyword.Typedef 1) (t.specifiers (word keyword.Int 1)
    t.no_specifiers)) (Some (declarators (init_declarator (t.named (spelled (codes "T") 1)) None) [])) (at 1))) ∷
    (s.declaration (declaration (t.specifiers (word keyword.Typedef 1) (t.specifiers (t.typedef_name (spelled (codes
    "T") 1)) t.no_specifiers)) (Some (declarators (init_declarator (t.array (t.named (spelled (codes "U") 1)) (at 1)
    (t.integer (spelled (codes "2") 1)) (at 1)) None) [])) (at 1))) ∷ (s.declaration (declaration (t.specifiers
    (t.typedef_name (spelled (codes "T") 1)) t.no_specifiers) (Some (declarators (init_declarator (t.named (spelled
    (codes "x") 1)) (Some ((at 1), (t.value (t.integer (spelled (codes "2") 1)))))) [])) (at 1))) ∷ (s.declaration
    (declaration (t.specifiers (t.typedef_name (spelled (codes "U") 1)) t.no_specifiers) (Some (declarators
    (init_declarator (t.named (spelled (codes "a") 1)) (Some (
      (at 1),
      (t.braced (at 1) (t.item None (t.value
          (t.integer (spelled (codes "1") 1)))) t.end_of_items None (at 1)),
    ))) [])) (at 1))) ∷ (s.definition (t.specifiers
    (word keyword.Int 1) t.no_specifiers) (t.function (t.named (spelled (codes "main") 1)) (at 1) (t.void_parameters
    (at 1)) (at 1)) (s.block (at 1) (s.items (s.inner (s.return (at 1) (Some (t.integer (spelled (codes "0") 1))) (at
    1))) s.no_items) (at 1))) ∷ []) 1)
    ≡ accepted true ((4, (None, ((0, number 2) ∷ []))) ∷ (8, (None, ((0, number 1) ∷ []))) ∷ []) (function 1 0 [] []
    (number 0 ∷ []) ∷ [])
unfolding balanced_type common_type fit is_signed mixed_type promoted rank size_of unsigned_of binary_value
    shift_amount unary_value constant_in constant_of greatest_of suffix_of typed types_of bytes_of_literal character_value
    characters_of escaped literal_step next_character extent_of array_size member_offsets structure_of union_of room
    is_valid_program constant_word binary assigned cast row_of comma combined unary dereferenced indexed size_of_words
    assignment compound stepped condition conditional switch_value called called_through routine_words composite judged
    start reached reached_by reached_in element_number member_number number_behind part closed opened with_literal
    with_value without first_not_constant typed_unit
typedefs = refl

-- int f(int);int f(int x){return x;}int main(void){return f(1);}
prototype :
    (source ((s.declaration (declaration (t.specifiers (word keyword.Int 1) t.no_specifiers) (Some (declarators
    (init_declarator (t.function (t.named (spelled (codes "f") 1)) (at 1) (t.parameters (t.typed (t.specifiers (word
    keyword.Int 1) t.no_specifiers) t.unnamed) t.end_of_parameters) (at 1)) None) [])) (at 1))) ∷ (s.definition
    (t.specifiers (word keyword.Int 1) t.no_specifiers) (t.function (t.named (spelled (codes "f") 1)) (at 1)
    (t.parameters (t.typed (t.specifiers (word keyword.Int 1) t.no_specifiers) (t.named (spelled (codes "x") 1)))
    t.end_of_parameters) (at 1)) (s.block (at 1) (s.items (s.inner (s.return (at 1) (Some (t.identifier (spelled
    (codes "x") 1))) (at 1))) s.no_items) (at 1))) ∷ (s.definition (t.specifiers (word keyword.Int 1) t.no_specifiers)
    (t.function (t.named (spelled (codes "main") 1)) (at 1) (t.void_parameters (at 1)) (at 1)) (s.block (at 1)
    (s.items (s.inner (s.return (at 1) (Some (t.call (t.identifier (spelled (codes "f") 1)) (at 1) (t.arguments
    (t.integer (spelled (codes "1") 1)) t.end_of_arguments) (at 1))) (at 1))) s.no_items) (at 1))) ∷ []) 1)
    ≡ accepted true [] (function 1 0 ((4, false) ∷ []) [] (other ∷ []) ∷ function 1 1 [] [] (other ∷ []) ∷ [])
unfolding balanced_type common_type fit is_signed mixed_type promoted rank size_of unsigned_of binary_value
    shift_amount unary_value constant_in constant_of greatest_of suffix_of typed types_of bytes_of_literal character_value
    characters_of escaped literal_step next_character extent_of array_size member_offsets structure_of union_of room
    is_valid_program constant_word binary assigned cast row_of comma combined unary dereferenced indexed size_of_words
    assignment compound stepped condition conditional switch_value called called_through routine_words composite judged
    start reached reached_by reached_in element_number member_number number_behind part closed opened with_literal
    with_value without first_not_constant typed_unit
prototype = refl

-- int f(void){static int n=5;return n++;}
-- int main(void){return f();}
of_one_type :
    (source ((s.definition (t.specifiers (word keyword.Int 1) t.no_specifiers) (t.function (t.named (spelled (codes
    "f") 1)) (at 1) (t.void_parameters (at 1)) (at 1)) (s.block (at 1) (s.items (s.local (declaration (t.specifiers
    (word keyword.Static 1) (t.specifiers (word keyword.Int 1) t.no_specifiers)) (Some (declarators (init_declarator
    (t.named (spelled (codes "n") 1)) (Some ((at 1), (t.value (t.integer (spelled (codes "5") 1)))))) [])) (at 1)))
    (s.items (s.inner (s.return (at 1) (Some (t.postfix (t.identifier (spelled (codes "n") 1)) sign.Increment (at 1)))
    (at 1))) s.no_items)) (at 1))) ∷ (s.definition (t.specifiers (word keyword.Int 2) t.no_specifiers) (t.function
    (t.named (spelled (codes "main") 2)) (at 2) (t.void_parameters (at 2)) (at 2)) (s.block (at 2) (s.items (s.inner
    (s.return (at 2) (Some (t.call (t.identifier (spelled (codes "f") 2)) (at 2) t.no_arguments (at 2))) (at 2)))
    s.no_items) (at 2))) ∷ []) 2)
    ≡ accepted true ((4, (Some 0, ((0, number 5) ∷ []))) ∷ []) (function 1 0 [] [] (other ∷ []) ∷ function 2 0 [] []
    (other ∷ []) ∷ [])
unfolding balanced_type common_type fit is_signed mixed_type promoted rank size_of unsigned_of binary_value
    shift_amount unary_value constant_in constant_of greatest_of suffix_of typed types_of bytes_of_literal character_value
    characters_of escaped literal_step next_character extent_of array_size member_offsets structure_of union_of room
    is_valid_program constant_word binary assigned cast row_of comma combined unary dereferenced indexed size_of_words
    assignment compound stepped condition conditional switch_value called called_through routine_words composite judged
    start reached reached_by reached_in element_number member_number number_behind part closed opened with_literal
    with_value without first_not_constant typed_unit
of_one_type = refl

-- int f(void){extern int x;return x;}int x=2;int main(void){return f();}
extern_in_a_block :
    (source ((s.definition (t.specifiers (word keyword.Int 1) t.no_specifiers) (t.function (t.named (spelled (codes
    "f") 1)) (at 1) (t.void_parameters (at 1)) (at 1)) (s.block (at 1) (s.items (s.local (declaration (t.specifiers
    (word keyword.Extern 1) (t.specifiers (word keyword.Int 1) t.no_specifiers)) (Some (declarators (init_declarator
    (t.named (spelled (codes "x") 1)) None) [])) (at 1))) (s.items (s.inner (s.return (at 1) (Some (t.identifier
    (spelled (codes "x") 1))) (at 1))) s.no_items)) (at 1))) ∷ (s.declaration (declaration (t.specifiers (word
    keyword.Int 1) t.no_specifiers) (Some (declarators (init_declarator (t.named (spelled (codes "x") 1)) (Some (
      (at
          1),
      (t.value (t.integer (spelled (codes "2") 1))),
    ))) [])) (at 1))) ∷ (s.definition (t.specifiers (word keyword.Int
    1) t.no_specifiers) (t.function (t.named (spelled (codes "main") 1)) (at 1) (t.void_parameters (at 1)) (at 1))
    (s.block (at 1) (s.items (s.inner (s.return (at 1) (Some (t.call (t.identifier (spelled (codes "f") 1)) (at 1)
    t.no_arguments (at 1))) (at 1))) s.no_items) (at 1))) ∷ []) 1)
    ≡ accepted true ((4, (None, ((0, number 2) ∷ []))) ∷ []) (function 1 0 [] [] (other ∷ []) ∷ function 1 0 [] []
    (other ∷ []) ∷ [])
unfolding balanced_type common_type fit is_signed mixed_type promoted rank size_of unsigned_of binary_value
    shift_amount unary_value constant_in constant_of greatest_of suffix_of typed types_of bytes_of_literal character_value
    characters_of escaped literal_step next_character extent_of array_size member_offsets structure_of union_of room
    is_valid_program constant_word binary assigned cast row_of comma combined unary dereferenced indexed size_of_words
    assignment compound stepped condition conditional switch_value called called_through routine_words composite judged
    start reached reached_by reached_in element_number member_number number_behind part closed opened with_literal
    with_value without first_not_constant typed_unit
extern_in_a_block = refl

-- char*p(void){static int k;return "ab";}int z;int main(void){return*p();}
in_order :
    (source ((s.definition (t.specifiers (word keyword.Char 1) t.no_specifiers) (t.pointer (at 1) [] (t.function
    (t.named (spelled (codes "p") 1)) (at 1) (t.void_parameters (at 1)) (at 1))) (s.block (at 1) (s.items (s.local
    (declaration (t.specifiers (word keyword.Static 1) (t.specifiers (word keyword.Int 1) t.no_specifiers)) (Some
    (declarators (init_declarator (t.named (spelled (codes "k") 1)) None) [])) (at 1))) (s.items (s.inner (s.return
    (at 1) (Some (t.strings (spelled (codes "\"ab\"") 1) [])) (at 1))) s.no_items)) (at 1))) ∷ (s.declaration
    (declaration (t.specifiers (word keyword.Int 1) t.no_specifiers) (Some (declarators (init_declarator (t.named
    (spelled (codes "z") 1)) None) [])) (at 1))) ∷ (s.definition (t.specifiers (word keyword.Int 1) t.no_specifiers)
    (t.function (t.named (spelled (codes "main") 1)) (at 1) (t.void_parameters (at 1)) (at 1)) (s.block (at 1)
    (s.items (s.inner (s.return (at 1) (Some (t.unary sign.Star (at 1) (t.call (t.identifier (spelled (codes "p") 1))
    (at 1) t.no_arguments (at 1)))) (at 1))) s.no_items) (at 1))) ∷ []) 1)
    ≡ accepted true ((4, (Some 0, [])) ∷ (3, (Some 0, ((0, bytes (97 ∷ 98 ∷ 0 ∷ [])) ∷ []))) ∷ (4, (None, [])) ∷ [])
    (function 1 0 [] [] (other ∷ []) ∷ function 1 1 [] [] (other ∷ []) ∷ [])
unfolding balanced_type common_type fit is_signed mixed_type promoted rank size_of unsigned_of binary_value
    shift_amount unary_value constant_in constant_of greatest_of suffix_of typed types_of bytes_of_literal character_value
    characters_of escaped literal_step next_character extent_of array_size member_offsets structure_of union_of room
    is_valid_program constant_word binary assigned cast row_of comma combined unary dereferenced indexed size_of_words
    assignment compound stepped condition conditional switch_value called called_through routine_words composite judged
    start reached reached_by reached_in element_number member_number number_behind part closed opened with_literal
    with_value without first_not_constant typed_unit
in_order = refl

-- int f(int a,int b){return*&b;}int main(void){int x=1;int*p=&x;return*p;}
address_taken :
    (source ((s.definition (t.specifiers (word keyword.Int 1) t.no_specifiers) (t.function (t.named (spelled (codes
    "f") 1)) (at 1) (t.parameters (t.typed (t.specifiers (word keyword.Int 1) t.no_specifiers) (t.named (spelled
    (codes "a") 1))) (t.more_parameters (at 1) (t.typed (t.specifiers (word keyword.Int 1) t.no_specifiers) (t.named
    (spelled (codes "b") 1))) t.end_of_parameters)) (at 1)) (s.block (at 1) (s.items (s.inner (s.return (at 1) (Some
    (t.unary sign.Star (at 1) (t.unary sign.Ampersand (at 1) (t.identifier (spelled (codes "b") 1))))) (at 1)))
    s.no_items) (at 1))) ∷ (s.definition (t.specifiers (word keyword.Int 1) t.no_specifiers) (t.function (t.named
    (spelled (codes "main") 1)) (at 1) (t.void_parameters (at 1)) (at 1)) (s.block (at 1) (s.items (s.local
    (declaration (t.specifiers (word keyword.Int 1) t.no_specifiers) (Some (declarators (init_declarator (t.named
    (spelled (codes "x") 1)) (Some ((at 1), (t.value (t.integer (spelled (codes "1") 1)))))) [])) (at 1))) (s.items
    (s.local (declaration (t.specifiers (word keyword.Int 1) t.no_specifiers) (Some (declarators (init_declarator
    (t.pointer (at 1) [] (t.named (spelled (codes "p") 1))) (Some (
      (at 1),
      (t.value (t.unary sign.Ampersand (at 1)
          (t.identifier (spelled (codes "x") 1)))),
    ))) [])) (at 1))) (s.items (s.inner (s.return (at 1) (Some (t.unary
    sign.Star (at 1) (t.identifier (spelled (codes "p") 1)))) (at 1))) s.no_items))) (at 1))) ∷ []) 1)
    ≡ accepted true [] (function 1 0 ((4, false) ∷ (4, true) ∷ []) [] (other ∷ []) ∷ function 1 1 [] ((4, true) ∷ (
      8,
      false,
    ) ∷ []) (number 1 ∷ other ∷ other ∷ []) ∷ [])
unfolding balanced_type common_type fit is_signed mixed_type promoted rank size_of unsigned_of binary_value
    shift_amount unary_value constant_in constant_of greatest_of suffix_of typed types_of bytes_of_literal character_value
    characters_of escaped literal_step next_character extent_of array_size member_offsets structure_of union_of room
    is_valid_program constant_word binary assigned cast row_of comma combined unary dereferenced indexed size_of_words
    assignment compound stepped condition conditional switch_value called called_through routine_words composite judged
    start reached reached_by reached_in element_number member_number number_behind part closed opened with_literal
    with_value without first_not_constant typed_unit
address_taken = refl

-- int main(void){int x=1;return sizeof&x;}
address_not_evaluated :
    (source ((s.definition (t.specifiers (word keyword.Int 1) t.no_specifiers) (t.function (t.named (spelled (codes
    "main") 1)) (at 1) (t.void_parameters (at 1)) (at 1)) (s.block (at 1) (s.items (s.local (declaration (t.specifiers
    (word keyword.Int 1) t.no_specifiers) (Some (declarators (init_declarator (t.named (spelled (codes "x") 1)) (Some
    ((at 1), (t.value (t.integer (spelled (codes "1") 1)))))) [])) (at 1))) (s.items (s.inner (s.return (at 1) (Some
    (t.sizeof_expression (at 1) (t.unary sign.Ampersand (at 1) (t.identifier (spelled (codes "x") 1))))) (at 1)))
    s.no_items)) (at 1))) ∷ []) 1)
    ≡ accepted true [] (function 1 0 [] ((4, false) ∷ []) (number 1 ∷ number 8 ∷ []) ∷ [])
unfolding balanced_type common_type fit is_signed mixed_type promoted rank size_of unsigned_of binary_value
    shift_amount unary_value constant_in constant_of greatest_of suffix_of typed types_of bytes_of_literal character_value
    characters_of escaped literal_step next_character extent_of array_size member_offsets structure_of union_of room
    is_valid_program constant_word binary assigned cast row_of comma combined unary dereferenced indexed size_of_words
    assignment compound stepped condition conditional switch_value called called_through routine_words composite judged
    start reached reached_by reached_in element_number member_number number_behind part closed opened with_literal
    with_value without first_not_constant typed_unit
address_not_evaluated = refl

-- int main(void){int x=1;{int x=2;x=3;}return x;}
inner_block :
    (source ((s.definition (t.specifiers (word keyword.Int 1) t.no_specifiers) (t.function (t.named (spelled (codes
    "main") 1)) (at 1) (t.void_parameters (at 1)) (at 1)) (s.block (at 1) (s.items (s.local (declaration (t.specifiers
    (word keyword.Int 1) t.no_specifiers) (Some (declarators (init_declarator (t.named (spelled (codes "x") 1)) (Some
    ((at 1), (t.value (t.integer (spelled (codes "1") 1)))))) [])) (at 1))) (s.items (s.inner (s.compound (s.block (at
    1) (s.items (s.local (declaration (t.specifiers (word keyword.Int 1) t.no_specifiers) (Some (declarators
    (init_declarator (t.named (spelled (codes "x") 1)) (Some ((at 1), (t.value (t.integer (spelled (codes "2") 1))))))
    [])) (at 1))) (s.items (s.inner (s.expression (Some (t.assignment (t.identifier (spelled (codes "x") 1))
    sign.Assign (at 1) (t.integer (spelled (codes "3") 1)))) (at 1))) s.no_items)) (at 1)))) (s.items (s.inner
    (s.return (at 1) (Some (t.identifier (spelled (codes "x") 1))) (at 1))) s.no_items))) (at 1))) ∷ []) 1)
    ≡ accepted true [] (function 1 0 [] ((4, false) ∷ (4, false) ∷ []) (number 1 ∷ number 2 ∷ other ∷ other ∷ []) ∷
    [])
unfolding balanced_type common_type fit is_signed mixed_type promoted rank size_of unsigned_of binary_value
    shift_amount unary_value constant_in constant_of greatest_of suffix_of typed types_of bytes_of_literal character_value
    characters_of escaped literal_step next_character extent_of array_size member_offsets structure_of union_of room
    is_valid_program constant_word binary assigned cast row_of comma combined unary dereferenced indexed size_of_words
    assignment compound stepped condition conditional switch_value called called_through routine_words composite judged
    start reached reached_by reached_in element_number member_number number_behind part closed opened with_literal
    with_value without first_not_constant typed_unit
inner_block = refl

-- int g(int a){return a;}int main(void){int(*p)(int)=g;return p(2);}
through_a_pointer :
    (source ((s.definition (t.specifiers (word keyword.Int 1) t.no_specifiers) (t.function (t.named (spelled (codes
    "g") 1)) (at 1) (t.parameters (t.typed (t.specifiers (word keyword.Int 1) t.no_specifiers) (t.named (spelled
    (codes "a") 1))) t.end_of_parameters) (at 1)) (s.block (at 1) (s.items (s.inner (s.return (at 1) (Some
    (t.identifier (spelled (codes "a") 1))) (at 1))) s.no_items) (at 1))) ∷ (s.definition (t.specifiers (word
    keyword.Int 1) t.no_specifiers) (t.function (t.named (spelled (codes "main") 1)) (at 1) (t.void_parameters (at 1))
    (at 1)) (s.block (at 1) (s.items (s.local (declaration (t.specifiers (word keyword.Int 1) t.no_specifiers) (Some
    (declarators (init_declarator (t.function (t.grouped (at 1) (t.pointer (at 1) [] (t.named (spelled (codes "p")
    1))) (at 1)) (at 1) (t.parameters (t.typed (t.specifiers (word keyword.Int 1) t.no_specifiers) t.unnamed)
    t.end_of_parameters) (at 1)) (Some ((at 1), (t.value (t.identifier (spelled (codes "g") 1)))))) [])) (at 1)))
    (s.items (s.inner (s.return (at 1) (Some (t.call (t.identifier (spelled (codes "p") 1)) (at 1) (t.arguments
    (t.integer (spelled (codes "2") 1)) t.end_of_arguments) (at 1))) (at 1))) s.no_items)) (at 1))) ∷ []) 1)
    ≡ accepted true [] (function 1 0 ((4, false) ∷ []) [] (other ∷ []) ∷ function 1 1 [] ((8, false) ∷ []) (other ∷
    other ∷ []) ∷ [])
unfolding balanced_type common_type fit is_signed mixed_type promoted rank size_of unsigned_of binary_value
    shift_amount unary_value constant_in constant_of greatest_of suffix_of typed types_of bytes_of_literal character_value
    characters_of escaped literal_step next_character extent_of array_size member_offsets structure_of union_of room
    is_valid_program constant_word binary assigned cast row_of comma combined unary dereferenced indexed size_of_words
    assignment compound stepped condition conditional switch_value called called_through routine_words composite judged
    start reached reached_by reached_in element_number member_number number_behind part closed opened with_literal
    with_value without first_not_constant typed_unit
through_a_pointer = refl

-- int f(struct T{int a;}*p){struct T t;t.a=1;return t.a;}int main(void){return 0;}
tag_of_a_parameter :
    (source ((s.definition (t.specifiers (word keyword.Int 1) t.no_specifiers) (t.function (t.named (spelled (codes
    "f") 1)) (at 1) (t.parameters (t.typed (t.specifiers (t.structure_body keyword.Struct (at 1) (Some (spelled (codes
    "T") 1)) (at 1) (t.members (t.member_declaration (t.specifiers (word keyword.Int 1) t.no_specifiers) (t.named
    (spelled (codes "a") 1)) t.end_of_declarators (at 1)) t.no_members) (at 1)) t.no_specifiers) (t.pointer (at 1) []
    (t.named (spelled (codes "p") 1)))) t.end_of_parameters) (at 1)) (s.block (at 1) (s.items (s.local (declaration
    (t.specifiers (t.structure keyword.Struct (at 1) (spelled (codes "T") 1)) t.no_specifiers) (Some (declarators
    (init_declarator (t.named (spelled (codes "t") 1)) None) [])) (at 1))) (s.items (s.inner (s.expression (Some
    (t.assignment (t.member (t.identifier (spelled (codes "t") 1)) sign.Dot (at 1) (spelled (codes "a") 1))
    sign.Assign (at 1) (t.integer (spelled (codes "1") 1)))) (at 1))) (s.items (s.inner (s.return (at 1) (Some
    (t.member (t.identifier (spelled (codes "t") 1)) sign.Dot (at 1) (spelled (codes "a") 1))) (at 1))) s.no_items)))
    (at 1))) ∷ (s.definition (t.specifiers (word keyword.Int 1) t.no_specifiers) (t.function (t.named (spelled (codes
    "main") 1)) (at 1) (t.void_parameters (at 1)) (at 1)) (s.block (at 1) (s.items (s.inner (s.return (at 1) (Some
    (t.integer (spelled (codes "0") 1))) (at 1))) s.no_items) (at 1))) ∷ []) 1)
    ≡ accepted true [] (function 1 0 ((8, false) ∷ []) ((4, true) ∷ []) (other ∷ other ∷ []) ∷ function 1 1 [] []
    (number 0 ∷ []) ∷ [])
unfolding balanced_type common_type fit is_signed mixed_type promoted rank size_of unsigned_of binary_value
    shift_amount unary_value constant_in constant_of greatest_of suffix_of typed types_of bytes_of_literal character_value
    characters_of escaped literal_step next_character extent_of array_size member_offsets structure_of union_of room
    is_valid_program constant_word binary assigned cast row_of comma combined unary dereferenced indexed size_of_words
    assignment compound stepped condition conditional switch_value called called_through routine_words composite judged
    start reached reached_by reached_in element_number member_number number_behind part closed opened with_literal
    with_value without first_not_constant typed_unit
tag_of_a_parameter = refl

-- int main(void){enum{A,B=5,C};return C;}
enumerators :
    (source ((s.definition (t.specifiers (word keyword.Int 1) t.no_specifiers) (t.function (t.named (spelled (codes
    "main") 1)) (at 1) (t.void_parameters (at 1)) (at 1)) (s.block (at 1) (s.items (s.local (declaration (t.specifiers
    (t.enumeration_body (at 1) None (at 1) (t.plain (spelled (codes "A") 1)) (t.more_enumerators (at 1) (t.valued
    (spelled (codes "B") 1) (at 1) (t.integer (spelled (codes "5") 1))) (t.more_enumerators (at 1) (t.plain (spelled
    (codes "C") 1)) t.end_of_enumerators)) None (at 1)) t.no_specifiers) None (at 1))) (s.items (s.inner (s.return (at
    1) (Some (t.identifier (spelled (codes "C") 1))) (at 1))) s.no_items)) (at 1))) ∷ []) 1)
    ≡ accepted true [] (function 1 0 [] [] (number 6 ∷ []) ∷ [])
unfolding balanced_type common_type fit is_signed mixed_type promoted rank size_of unsigned_of binary_value
    shift_amount unary_value constant_in constant_of greatest_of suffix_of typed types_of bytes_of_literal character_value
    characters_of escaped literal_step next_character extent_of array_size member_offsets structure_of union_of room
    is_valid_program constant_word binary assigned cast row_of comma combined unary dereferenced indexed size_of_words
    assignment compound stepped condition conditional switch_value called called_through routine_words composite judged
    start reached reached_by reached_in element_number member_number number_behind part closed opened with_literal
    with_value without first_not_constant typed_unit
enumerators = refl

-- int a[];int f(void){return*a;}int a[3];int main(void){return 0;}
named_before_its_size :
    (source ((s.declaration (declaration (t.specifiers (word keyword.Int 1) t.no_specifiers) (Some (declarators
    (init_declarator (t.open_array (t.named (spelled (codes "a") 1)) (at 1) (at 1)) None) [])) (at 1))) ∷
    (s.definition (t.specifiers (word keyword.Int 1) t.no_specifiers) (t.function (t.named (spelled (codes "f") 1))
    (at 1) (t.void_parameters (at 1)) (at 1)) (s.block (at 1) (s.items (s.inner (s.return (at 1) (Some (t.unary
    sign.Star (at 1) (t.identifier (spelled (codes "a") 1)))) (at 1))) s.no_items) (at 1))) ∷ (s.declaration
    (declaration (t.specifiers (word keyword.Int 1) t.no_specifiers) (Some (declarators (init_declarator (t.array
    (t.named (spelled (codes "a") 1)) (at 1) (t.integer (spelled (codes "3") 1)) (at 1)) None) [])) (at 1))) ∷
    (s.definition (t.specifiers (word keyword.Int 1) t.no_specifiers) (t.function (t.named (spelled (codes "main") 1))
    (at 1) (t.void_parameters (at 1)) (at 1)) (s.block (at 1) (s.items (s.inner (s.return (at 1) (Some (t.integer
    (spelled (codes "0") 1))) (at 1))) s.no_items) (at 1))) ∷ []) 1)
    ≡ accepted true ((12, (None, [])) ∷ []) (function 1 0 [] [] (other ∷ []) ∷ function 1 0 [] [] (number 0 ∷ []) ∷
    [])
unfolding balanced_type common_type fit is_signed mixed_type promoted rank size_of unsigned_of binary_value
    shift_amount unary_value constant_in constant_of greatest_of suffix_of typed types_of bytes_of_literal character_value
    characters_of escaped literal_step next_character extent_of array_size member_offsets structure_of union_of room
    is_valid_program constant_word binary assigned cast row_of comma combined unary dereferenced indexed size_of_words
    assignment compound stepped condition conditional switch_value called called_through routine_words composite judged
    start reached reached_by reached_in element_number member_number number_behind part closed opened with_literal
    with_value without first_not_constant typed_unit
named_before_its_size = refl

-- struct S s;struct S*f(void){return&s;}struct S{int a;};int main(void){return 0;}
named_before_its_members :
    (source ((s.declaration (declaration (t.specifiers (t.structure keyword.Struct (at 1) (spelled (codes "S") 1))
    t.no_specifiers) (Some (declarators (init_declarator (t.named (spelled (codes "s") 1)) None) [])) (at 1))) ∷
    (s.definition (t.specifiers (t.structure keyword.Struct (at 1) (spelled (codes "S") 1)) t.no_specifiers)
    (t.pointer (at 1) [] (t.function (t.named (spelled (codes "f") 1)) (at 1) (t.void_parameters (at 1)) (at 1)))
    (s.block (at 1) (s.items (s.inner (s.return (at 1) (Some (t.unary sign.Ampersand (at 1) (t.identifier (spelled
    (codes "s") 1)))) (at 1))) s.no_items) (at 1))) ∷ (s.declaration (declaration (t.specifiers (t.structure_body
    keyword.Struct (at 1) (Some (spelled (codes "S") 1)) (at 1) (t.members (t.member_declaration (t.specifiers (word
    keyword.Int 1) t.no_specifiers) (t.named (spelled (codes "a") 1)) t.end_of_declarators (at 1)) t.no_members) (at
    1)) t.no_specifiers) None (at 1))) ∷ (s.definition (t.specifiers (word keyword.Int 1) t.no_specifiers) (t.function
    (t.named (spelled (codes "main") 1)) (at 1) (t.void_parameters (at 1)) (at 1)) (s.block (at 1) (s.items (s.inner
    (s.return (at 1) (Some (t.integer (spelled (codes "0") 1))) (at 1))) s.no_items) (at 1))) ∷ []) 1)
    ≡ accepted true ((4, (None, [])) ∷ []) (function 1 0 [] [] (other ∷ []) ∷ function 1 1 [] [] (number 0 ∷ []) ∷ [])
unfolding balanced_type common_type fit is_signed mixed_type promoted rank size_of unsigned_of binary_value
    shift_amount unary_value constant_in constant_of greatest_of suffix_of typed types_of bytes_of_literal character_value
    characters_of escaped literal_step next_character extent_of array_size member_offsets structure_of union_of room
    is_valid_program constant_word binary assigned cast row_of comma combined unary dereferenced indexed size_of_words
    assignment compound stepped condition conditional switch_value called called_through routine_words composite judged
    start reached reached_by reached_in element_number member_number number_behind part closed opened with_literal
    with_value without first_not_constant typed_unit
named_before_its_members = refl

-- int main(void){int a[]={(int)(long)a};return a[0];}
named_in_its_initializer :
    (source ((s.definition (t.specifiers (word keyword.Int 1) t.no_specifiers) (t.function (t.named (spelled (codes
    "main") 1)) (at 1) (t.void_parameters (at 1)) (at 1)) (s.block (at 1) (s.items (s.local (declaration (t.specifiers
    (word keyword.Int 1) t.no_specifiers) (Some (declarators (init_declarator (t.open_array (t.named (spelled (codes
    "a") 1)) (at 1) (at 1)) (Some (
      (at 1),
      (t.braced (at 1) (t.item None (t.value (t.cast (at 1) (t.typed
          (t.specifiers (word keyword.Int 1) t.no_specifiers) t.unnamed) (at 1) (t.cast (at 1) (t.typed (t.specifiers (word
          keyword.Long 1) t.no_specifiers) t.unnamed) (at 1) (t.identifier (spelled (codes "a") 1)))))) t.end_of_items None
          (at 1)),
    ))) [])) (at 1))) (s.items (s.inner (s.return (at 1) (Some (t.subscript (t.identifier (spelled (codes "a")
    1)) (at 1) (t.integer (spelled (codes "0") 1)) (at 1))) (at 1))) s.no_items)) (at 1))) ∷ []) 1)
    ≡ accepted true [] (function 1 0 [] ((4, true) ∷ []) (other ∷ other ∷ []) ∷ [])
unfolding balanced_type common_type fit is_signed mixed_type promoted rank size_of unsigned_of binary_value
    shift_amount unary_value constant_in constant_of greatest_of suffix_of typed types_of bytes_of_literal character_value
    characters_of escaped literal_step next_character extent_of array_size member_offsets structure_of union_of room
    is_valid_program constant_word binary assigned cast row_of comma combined unary dereferenced indexed size_of_words
    assignment compound stepped condition conditional switch_value called called_through routine_words composite judged
    start reached reached_by reached_in element_number member_number number_behind part closed opened with_literal
    with_value without first_not_constant typed_unit
named_in_its_initializer = refl

-- int main(void){putchar(65);return 0;}
of_the_library :
    (source ((s.definition (t.specifiers (word keyword.Int 1) t.no_specifiers) (t.function (t.named (spelled (codes
    "main") 1)) (at 1) (t.void_parameters (at 1)) (at 1)) (s.block (at 1) (s.items (s.inner (s.expression (Some
    (t.call (t.identifier (spelled (codes "putchar") 1)) (at 1) (t.arguments (t.integer (spelled (codes "65") 1))
    t.end_of_arguments) (at 1))) (at 1))) (s.items (s.inner (s.return (at 1) (Some (t.integer (spelled (codes "0")
    1))) (at 1))) s.no_items)) (at 1))) ∷ []) 1)
    ≡ accepted true [] (function 1 0 [] [] (other ∷ number 0 ∷ []) ∷ [])
unfolding balanced_type common_type fit is_signed mixed_type promoted rank size_of unsigned_of binary_value
    shift_amount unary_value constant_in constant_of greatest_of suffix_of typed types_of bytes_of_literal character_value
    characters_of escaped literal_step next_character extent_of array_size member_offsets structure_of union_of room
    is_valid_program constant_word binary assigned cast row_of comma combined unary dereferenced indexed size_of_words
    assignment compound stepped condition conditional switch_value called called_through routine_words composite judged
    start reached reached_by reached_in element_number member_number number_behind part closed opened with_literal
    with_value without first_not_constant typed_unit
of_the_library = refl

-- int putchar(int);int main(void){return putchar(65);}
library_declared :
    (source ((s.declaration (declaration (t.specifiers (word keyword.Int 1) t.no_specifiers) (Some (declarators
    (init_declarator (t.function (t.named (spelled (codes "putchar") 1)) (at 1) (t.parameters (t.typed (t.specifiers
    (word keyword.Int 1) t.no_specifiers) t.unnamed) t.end_of_parameters) (at 1)) None) [])) (at 1))) ∷ (s.definition
    (t.specifiers (word keyword.Int 1) t.no_specifiers) (t.function (t.named (spelled (codes "main") 1)) (at 1)
    (t.void_parameters (at 1)) (at 1)) (s.block (at 1) (s.items (s.inner (s.return (at 1) (Some (t.call (t.identifier
    (spelled (codes "putchar") 1)) (at 1) (t.arguments (t.integer (spelled (codes "65") 1)) t.end_of_arguments) (at
    1))) (at 1))) s.no_items) (at 1))) ∷ []) 1)
    ≡ accepted true [] (function 1 0 [] [] (other ∷ []) ∷ [])
unfolding balanced_type common_type fit is_signed mixed_type promoted rank size_of unsigned_of binary_value
    shift_amount unary_value constant_in constant_of greatest_of suffix_of typed types_of bytes_of_literal character_value
    characters_of escaped literal_step next_character extent_of array_size member_offsets structure_of union_of room
    is_valid_program constant_word binary assigned cast row_of comma combined unary dereferenced indexed size_of_words
    assignment compound stepped condition conditional switch_value called called_through routine_words composite judged
    start reached reached_by reached_in element_number member_number number_behind part closed opened with_literal
    with_value without first_not_constant typed_unit
library_declared = refl
