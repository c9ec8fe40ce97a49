-- Initializers: elided braces, designators, overriding, literals, counts (C99 6.7.8).
-- gcc 12.2.0 (-std=c99 -pedantic-errors -fsyntax-only) accepts the texts of all rows, as they do.
use Rattle.std.proofs.Common.{◌≡◌, true, false, [], ◌∷◌, Some, None, refl}
use Rattle.std.specs.Prelude.{codes}
use Rattle.c_lexer.specs.declared.keyword.Keyword.TheVariants as keyword
use Rattle.c_lexer.specs.declared.punctuator.Punctuator.TheVariants as sign
use Rattle.c_syntax.specs.Statements as s
use Rattle.c_syntax.specs.Tree as t
use Rattle.obj_memory.specs.Integers.{balanced_type, common_type, fit, is_signed, mixed_type, promoted, rank, size_of}
use Rattle.obj_memory.specs.Integers.{unsigned_of}
use Rattle.obj_memory.specs.Operators.{binary_value, shift_amount, unary_value}
use Rattle.c_lexer.specs.Constants.{constant_in, constant_of, greatest_of, suffix_of, typed, types_of}
use Rattle.c_lexer.specs.Literals.{bytes_of_literal, character_value, characters_of, escaped, literal_step, next_character}
use Rattle.c_tree.specs.Extents.{extent_of}
use Rattle.c_tree.specs.Layout.{array_size, member_offsets, structure_of, union_of}
use Rattle.c_tree.specs.Room.{room}
use Rattle.c_tree.specs.ValidProgram.{is_valid_program}
use Rattle.c_const.specs.Initializers.{first_not_constant}
use Rattle.c_const.specs.Integers.{constant_word}
use Rattle.c_rules.specs.Binary.{binary}
use Rattle.c_rules.specs.Conversions.{assigned, cast}
use Rattle.c_rules.specs.Rows.{row_of}
use Rattle.c_rules.specs.Unary.{comma, combined, unary}
use Rattle.c_place_rules.specs.Places.{dereferenced, indexed, size_of as size_of_words}
use Rattle.c_assignment_rules.specs.Assignments.{assignment, compound, stepped}
use Rattle.c_condition_rules.specs.Conditions.{condition, conditional, switch_value}
use Rattle.c_call_rules.specs.Calls.{called, called_through}
use Rattle.c_tree.specs.Routines.{routine_words}
use Rattle.c_scope.specs.Composite.{composite}
use Rattle.c_scope.specs.Declaring.{judged}
use Rattle.c_scope.specs.Start.{start}
use Rattle.c_current_object.specs.CurrentObject.{reached, reached_by, reached_in}
use Rattle.c_current_object.specs.Subobjects.{element_number, member_number, number_behind, part}
use Rattle.c_initializer_rules.specs.Initializing.{closed, opened, with_literal, with_value}
use Rattle.c_initializer_rules.specs.Placed.{without}
use Rattle.c_unit_typing.specs.Typed.{typed_unit}
use Rattle.typing_rows.proofs.Units.Sources.{accepted, at, bytes, declaration, declarators, designation, function, init_declarator}
use Rattle.typing_rows.proofs.Units.Sources.{number, other, source, spelled, word}

-- int a[2][2]={1,2,3};int main(void){return 0;}
elided :
    (source ((s.declaration (declaration (t.specifiers (word keyword.Int 1) t.no_specifiers) (Some (declarators
    (init_declarator (t.array (t.array (t.named (spelled (codes "a") 1)) (at 1) (t.integer (spelled (codes "2") 1))
    (at 1)) (at 1) (t.integer (spelled (codes "2") 1)) (at 1)) (Some (
      (at 1),
      (t.braced (at 1) (t.item None (t.value
          (t.integer (spelled (codes "1") 1)))) (t.more_items (at 1) (t.item None (t.value (t.integer (spelled (codes "2")
          1)))) (t.more_items (at 1) (t.item None (t.value (t.integer (spelled (codes "3") 1)))) t.end_of_items)) None (at
          1)),
    ))) [])) (at 1))) ∷ (s.definition (t.specifiers (word keyword.Int 1) t.no_specifiers) (t.function (t.named
    (spelled (codes "main") 1)) (at 1) (t.void_parameters (at 1)) (at 1)) (s.block (at 1) (s.items (s.inner (s.return
    (at 1) (Some (t.integer (spelled (codes "0") 1))) (at 1))) s.no_items) (at 1))) ∷ []) 1)
    ≡ accepted true ((16, (None, ((0, number 1) ∷ (4, number 2) ∷ (8, number 3) ∷ []))) ∷ []) (function 1 0 [] []
    (number 0 ∷ []) ∷ [])
unfolding balanced_type common_type fit is_signed mixed_type promoted rank size_of unsigned_of binary_value
    shift_amount unary_value constant_in constant_of greatest_of suffix_of typed types_of bytes_of_literal character_value
    characters_of escaped literal_step next_character extent_of array_size member_offsets structure_of union_of room
    is_valid_program constant_word binary assigned cast row_of comma combined unary dereferenced indexed size_of_words
    assignment compound stepped condition conditional switch_value called called_through routine_words composite judged
    start reached reached_by reached_in element_number member_number number_behind part closed opened with_literal
    with_value without first_not_constant typed_unit
elided = refl

-- struct{int a[2];char b;}s[2]={1,2,3,{{4},5}};int main(void){return 0;}
elided_within :
    (source ((s.declaration (declaration (t.specifiers (t.structure_body keyword.Struct (at 1) None (at 1) (t.members
    (t.member_declaration (t.specifiers (word keyword.Int 1) t.no_specifiers) (t.array (t.named (spelled (codes "a")
    1)) (at 1) (t.integer (spelled (codes "2") 1)) (at 1)) t.end_of_declarators (at 1)) (t.members
    (t.member_declaration (t.specifiers (word keyword.Char 1) t.no_specifiers) (t.named (spelled (codes "b") 1))
    t.end_of_declarators (at 1)) t.no_members)) (at 1)) t.no_specifiers) (Some (declarators (init_declarator (t.array
    (t.named (spelled (codes "s") 1)) (at 1) (t.integer (spelled (codes "2") 1)) (at 1)) (Some (
      (at 1),
      (t.braced (at
          1) (t.item None (t.value (t.integer (spelled (codes "1") 1)))) (t.more_items (at 1) (t.item None (t.value
          (t.integer (spelled (codes "2") 1)))) (t.more_items (at 1) (t.item None (t.value (t.integer (spelled (codes "3")
          1)))) (t.more_items (at 1) (t.item None (t.braced (at 1) (t.item None (t.braced (at 1) (t.item None (t.value
          (t.integer (spelled (codes "4") 1)))) t.end_of_items None (at 1))) (t.more_items (at 1) (t.item None (t.value
          (t.integer (spelled (codes "5") 1)))) t.end_of_items) None (at 1))) t.end_of_items))) None (at 1)),
    ))) [])) (at
    1))) ∷ (s.definition (t.specifiers (word keyword.Int 1) t.no_specifiers) (t.function (t.named (spelled (codes
    "main") 1)) (at 1) (t.void_parameters (at 1)) (at 1)) (s.block (at 1) (s.items (s.inner (s.return (at 1) (Some
    (t.integer (spelled (codes "0") 1))) (at 1))) s.no_items) (at 1))) ∷ []) 1)
    ≡ accepted true ((
      24,
      (
        None,
        ((0, number 1) ∷ (4, number 2) ∷ (8, number 3) ∷ (12, number 4) ∷ (20, number 5) ∷
            []),
      ),
    ) ∷ []) (function 1 0 [] [] (number 0 ∷ []) ∷ [])
unfolding balanced_type common_type fit is_signed mixed_type promoted rank size_of unsigned_of binary_value
    shift_amount unary_value constant_in constant_of greatest_of suffix_of typed types_of bytes_of_literal character_value
    characters_of escaped literal_step next_character extent_of array_size member_offsets structure_of union_of room
    is_valid_program constant_word binary assigned cast row_of comma combined unary dereferenced indexed size_of_words
    assignment compound stepped condition conditional switch_value called called_through routine_words composite judged
    start reached reached_by reached_in element_number member_number number_behind part closed opened with_literal
    with_value without first_not_constant typed_unit
elided_within = refl

-- int a[3]={[2]=7,[0]=1,2,[2]=3};int main(void){return 0;}
designated_twice :
    (source ((s.declaration (declaration (t.specifiers (word keyword.Int 1) t.no_specifiers) (Some (declarators
    (init_declarator (t.array (t.named (spelled (codes "a") 1)) (at 1) (t.integer (spelled (codes "3") 1)) (at 1))
    (Some (
      (at 1),
      (t.braced (at 1) (t.item (Some (designation ((t.element (at 1) (t.integer (spelled (codes "2") 1))
          (at 1)) ∷ []) (at 1))) (t.value (t.integer (spelled (codes "7") 1)))) (t.more_items (at 1) (t.item (Some
          (designation ((t.element (at 1) (t.integer (spelled (codes "0") 1)) (at 1)) ∷ []) (at 1))) (t.value (t.integer
          (spelled (codes "1") 1)))) (t.more_items (at 1) (t.item None (t.value (t.integer (spelled (codes "2") 1))))
          (t.more_items (at 1) (t.item (Some (designation ((t.element (at 1) (t.integer (spelled (codes "2") 1)) (at 1)) ∷
          []) (at 1))) (t.value (t.integer (spelled (codes "3") 1)))) t.end_of_items))) None (at 1)),
    ))) [])) (at 1))) ∷
    (s.definition (t.specifiers (word keyword.Int 1) t.no_specifiers) (t.function (t.named (spelled (codes "main") 1))
    (at 1) (t.void_parameters (at 1)) (at 1)) (s.block (at 1) (s.items (s.inner (s.return (at 1) (Some (t.integer
    (spelled (codes "0") 1))) (at 1))) s.no_items) (at 1))) ∷ []) 1)
    ≡ accepted true ((12, (None, ((0, number 1) ∷ (4, number 2) ∷ (8, number 3) ∷ []))) ∷ []) (function 1 0 [] []
    (number 0 ∷ []) ∷ [])
unfolding balanced_type common_type fit is_signed mixed_type promoted rank size_of unsigned_of binary_value
    shift_amount unary_value constant_in constant_of greatest_of suffix_of typed types_of bytes_of_literal character_value
    characters_of escaped literal_step next_character extent_of array_size member_offsets structure_of union_of room
    is_valid_program constant_word binary assigned cast row_of comma combined unary dereferenced indexed size_of_words
    assignment compound stepped condition conditional switch_value called called_through routine_words composite judged
    start reached reached_by reached_in element_number member_number number_behind part closed opened with_literal
    with_value without first_not_constant typed_unit
designated_twice = refl

-- union{int i;char c[2];}u={.i=0x01020304,.c[0]=5};int main(void){return 0;}
another_member :
    (source ((s.declaration (declaration (t.specifiers (t.structure_body keyword.Union (at 1) None (at 1) (t.members
    (t.member_declaration (t.specifiers (word keyword.Int 1) t.no_specifiers) (t.named (spelled (codes "i") 1))
    t.end_of_declarators (at 1)) (t.members (t.member_declaration (t.specifiers (word keyword.Char 1) t.no_specifiers)
    (t.array (t.named (spelled (codes "c") 1)) (at 1) (t.integer (spelled (codes "2") 1)) (at 1)) t.end_of_declarators
    (at 1)) t.no_members)) (at 1)) t.no_specifiers) (Some (declarators (init_declarator (t.named (spelled (codes "u")
    1)) (Some (
      (at 1),
      (t.braced (at 1) (t.item (Some (designation ((t.member_named (at 1) (spelled (codes "i") 1)) ∷
          []) (at 1))) (t.value (t.integer (spelled (codes "0x01020304") 1)))) (t.more_items (at 1) (t.item (Some
          (designation ((t.member_named (at 1) (spelled (codes "c") 1)) ∷ (t.element (at 1) (t.integer (spelled (codes "0")
          1)) (at 1)) ∷ []) (at 1))) (t.value (t.integer (spelled (codes "5") 1)))) t.end_of_items) None (at 1)),
    ))) [])) (at
    1))) ∷ (s.definition (t.specifiers (word keyword.Int 1) t.no_specifiers) (t.function (t.named (spelled (codes
    "main") 1)) (at 1) (t.void_parameters (at 1)) (at 1)) (s.block (at 1) (s.items (s.inner (s.return (at 1) (Some
    (t.integer (spelled (codes "0") 1))) (at 1))) s.no_items) (at 1))) ∷ []) 1)
    ≡ accepted true ((4, (None, ((0, number 5) ∷ []))) ∷ []) (function 1 0 [] [] (number 0 ∷ []) ∷ [])
unfolding balanced_type common_type fit is_signed mixed_type promoted rank size_of unsigned_of binary_value
    shift_amount unary_value constant_in constant_of greatest_of suffix_of typed types_of bytes_of_literal character_value
    characters_of escaped literal_step next_character extent_of array_size member_offsets structure_of union_of room
    is_valid_program constant_word binary assigned cast row_of comma combined unary dereferenced indexed size_of_words
    assignment compound stepped condition conditional switch_value called called_through routine_words composite judged
    start reached reached_by reached_in element_number member_number number_behind part closed opened with_literal
    with_value without first_not_constant typed_unit
another_member = refl

-- struct{int a[4];int b;}s={1,2,3,4,5,.a={9}};int main(void){return 0;}
list_overrides :
    (source ((s.declaration (declaration (t.specifiers (t.structure_body keyword.Struct (at 1) None (at 1) (t.members
    (t.member_declaration (t.specifiers (word keyword.Int 1) t.no_specifiers) (t.array (t.named (spelled (codes "a")
    1)) (at 1) (t.integer (spelled (codes "4") 1)) (at 1)) t.end_of_declarators (at 1)) (t.members
    (t.member_declaration (t.specifiers (word keyword.Int 1) t.no_specifiers) (t.named (spelled (codes "b") 1))
    t.end_of_declarators (at 1)) t.no_members)) (at 1)) t.no_specifiers) (Some (declarators (init_declarator (t.named
    (spelled (codes "s") 1)) (Some (
      (at 1),
      (t.braced (at 1) (t.item None (t.value (t.integer (spelled (codes "1")
          1)))) (t.more_items (at 1) (t.item None (t.value (t.integer (spelled (codes "2") 1)))) (t.more_items (at 1)
          (t.item None (t.value (t.integer (spelled (codes "3") 1)))) (t.more_items (at 1) (t.item None (t.value (t.integer
          (spelled (codes "4") 1)))) (t.more_items (at 1) (t.item None (t.value (t.integer (spelled (codes "5") 1))))
          (t.more_items (at 1) (t.item (Some (designation ((t.member_named (at 1) (spelled (codes "a") 1)) ∷ []) (at 1)))
          (t.braced (at 1) (t.item None (t.value (t.integer (spelled (codes "9") 1)))) t.end_of_items None (at 1)))
          t.end_of_items))))) None (at 1)),
    ))) [])) (at 1))) ∷ (s.definition (t.specifiers (word keyword.Int 1)
    t.no_specifiers) (t.function (t.named (spelled (codes "main") 1)) (at 1) (t.void_parameters (at 1)) (at 1))
    (s.block (at 1) (s.items (s.inner (s.return (at 1) (Some (t.integer (spelled (codes "0") 1))) (at 1))) s.no_items)
    (at 1))) ∷ []) 1)
    ≡ accepted true ((20, (None, ((16, number 5) ∷ (0, number 9) ∷ []))) ∷ []) (function 1 0 [] [] (number 0 ∷ []) ∷
    [])
unfolding balanced_type common_type fit is_signed mixed_type promoted rank size_of unsigned_of binary_value
    shift_amount unary_value constant_in constant_of greatest_of suffix_of typed types_of bytes_of_literal character_value
    characters_of escaped literal_step next_character extent_of array_size member_offsets structure_of union_of room
    is_valid_program constant_word binary assigned cast row_of comma combined unary dereferenced indexed size_of_words
    assignment compound stepped condition conditional switch_value called called_through routine_words composite judged
    start reached reached_by reached_in element_number member_number number_behind part closed opened with_literal
    with_value without first_not_constant typed_unit
list_overrides = refl

-- struct{int a[4];int b;}s={1,2,3,4,5,.a[0]=9};int main(void){return 0;}
first_overrides :
    (source ((s.declaration (declaration (t.specifiers (t.structure_body keyword.Struct (at 1) None (at 1) (t.members
    (t.member_declaration (t.specifiers (word keyword.Int 1) t.no_specifiers) (t.array (t.named (spelled (codes "a")
    1)) (at 1) (t.integer (spelled (codes "4") 1)) (at 1)) t.end_of_declarators (at 1)) (t.members
    (t.member_declaration (t.specifiers (word keyword.Int 1) t.no_specifiers) (t.named (spelled (codes "b") 1))
    t.end_of_declarators (at 1)) t.no_members)) (at 1)) t.no_specifiers) (Some (declarators (init_declarator (t.named
    (spelled (codes "s") 1)) (Some (
      (at 1),
      (t.braced (at 1) (t.item None (t.value (t.integer (spelled (codes "1")
          1)))) (t.more_items (at 1) (t.item None (t.value (t.integer (spelled (codes "2") 1)))) (t.more_items (at 1)
          (t.item None (t.value (t.integer (spelled (codes "3") 1)))) (t.more_items (at 1) (t.item None (t.value (t.integer
          (spelled (codes "4") 1)))) (t.more_items (at 1) (t.item None (t.value (t.integer (spelled (codes "5") 1))))
          (t.more_items (at 1) (t.item (Some (designation ((t.member_named (at 1) (spelled (codes "a") 1)) ∷ (t.element (at
          1) (t.integer (spelled (codes "0") 1)) (at 1)) ∷ []) (at 1))) (t.value (t.integer (spelled (codes "9") 1))))
          t.end_of_items))))) None (at 1)),
    ))) [])) (at 1))) ∷ (s.definition (t.specifiers (word keyword.Int 1)
    t.no_specifiers) (t.function (t.named (spelled (codes "main") 1)) (at 1) (t.void_parameters (at 1)) (at 1))
    (s.block (at 1) (s.items (s.inner (s.return (at 1) (Some (t.integer (spelled (codes "0") 1))) (at 1))) s.no_items)
    (at 1))) ∷ []) 1)
    ≡ accepted true ((
      20,
      (
        None,
        ((4, number 2) ∷ (8, number 3) ∷ (12, number 4) ∷ (16, number 5) ∷ (0, number 9) ∷
            []),
      ),
    ) ∷ []) (function 1 0 [] [] (number 0 ∷ []) ∷ [])
unfolding balanced_type common_type fit is_signed mixed_type promoted rank size_of unsigned_of binary_value
    shift_amount unary_value constant_in constant_of greatest_of suffix_of typed types_of bytes_of_literal character_value
    characters_of escaped literal_step next_character extent_of array_size member_offsets structure_of union_of room
    is_valid_program constant_word binary assigned cast row_of comma combined unary dereferenced indexed size_of_words
    assignment compound stepped condition conditional switch_value called called_through routine_words composite judged
    start reached reached_by reached_in element_number member_number number_behind part closed opened with_literal
    with_value without first_not_constant typed_unit
first_overrides = refl

-- struct{char c;struct{short h;int i;}n;int k;}s={.n.i=2,3};int main(void){return 0;}
member_behind :
    (source ((s.declaration (declaration (t.specifiers (t.structure_body keyword.Struct (at 1) None (at 1) (t.members
    (t.member_declaration (t.specifiers (word keyword.Char 1) t.no_specifiers) (t.named (spelled (codes "c") 1))
    t.end_of_declarators (at 1)) (t.members (t.member_declaration (t.specifiers (t.structure_body keyword.Struct (at
    1) None (at 1) (t.members (t.member_declaration (t.specifiers (word keyword.Short 1) t.no_specifiers) (t.named
    (spelled (codes "h") 1)) t.end_of_declarators (at 1)) (t.members (t.member_declaration (t.specifiers (word
    keyword.Int 1) t.no_specifiers) (t.named (spelled (codes "i") 1)) t.end_of_declarators (at 1)) t.no_members)) (at
    1)) t.no_specifiers) (t.named (spelled (codes "n") 1)) t.end_of_declarators (at 1)) (t.members
    (t.member_declaration (t.specifiers (word keyword.Int 1) t.no_specifiers) (t.named (spelled (codes "k") 1))
    t.end_of_declarators (at 1)) t.no_members))) (at 1)) t.no_specifiers) (Some (declarators (init_declarator (t.named
    (spelled (codes "s") 1)) (Some (
      (at 1),
      (t.braced (at 1) (t.item (Some (designation ((t.member_named (at 1)
          (spelled (codes "n") 1)) ∷ (t.member_named (at 1) (spelled (codes "i") 1)) ∷ []) (at 1))) (t.value (t.integer
          (spelled (codes "2") 1)))) (t.more_items (at 1) (t.item None (t.value (t.integer (spelled (codes "3") 1))))
          t.end_of_items) None (at 1)),
    ))) [])) (at 1))) ∷ (s.definition (t.specifiers (word keyword.Int 1) t.no_specifiers)
    (t.function (t.named (spelled (codes "main") 1)) (at 1) (t.void_parameters (at 1)) (at 1)) (s.block (at 1)
    (s.items (s.inner (s.return (at 1) (Some (t.integer (spelled (codes "0") 1))) (at 1))) s.no_items) (at 1))) ∷ [])
    1)
    ≡ accepted true ((16, (None, ((8, number 2) ∷ (12, number 3) ∷ []))) ∷ []) (function 1 0 [] [] (number 0 ∷ []) ∷
    [])
unfolding balanced_type common_type fit is_signed mixed_type promoted rank size_of unsigned_of binary_value
    shift_amount unary_value constant_in constant_of greatest_of suffix_of typed types_of bytes_of_literal character_value
    characters_of escaped literal_step next_character extent_of array_size member_offsets structure_of union_of room
    is_valid_program constant_word binary assigned cast row_of comma combined unary dereferenced indexed size_of_words
    assignment compound stepped condition conditional switch_value called called_through routine_words composite judged
    start reached reached_by reached_in element_number member_number number_behind part closed opened with_literal
    with_value without first_not_constant typed_unit
member_behind = refl

-- char s[]="abc";char t[3]="abc";char u[2]={"a"};char*p="x";int main(void){return 0;}
literals :
    (source ((s.declaration (declaration (t.specifiers (word keyword.Char 1) t.no_specifiers) (Some (declarators
    (init_declarator (t.open_array (t.named (spelled (codes "s") 1)) (at 1) (at 1)) (Some (
      (at 1),
      (t.value (t.strings
          (spelled (codes "\"abc\"") 1) [])),
    ))) [])) (at 1))) ∷ (s.declaration (declaration (t.specifiers (word keyword.Char
    1) t.no_specifiers) (Some (declarators (init_declarator (t.array (t.named (spelled (codes "t") 1)) (at 1)
    (t.integer (spelled (codes "3") 1)) (at 1)) (Some (
      (at 1),
      (t.value (t.strings (spelled (codes "\"abc\"") 1)
          [])),
    ))) [])) (at 1))) ∷ (s.declaration (declaration (t.specifiers (word keyword.Char 1) t.no_specifiers) (Some
    (declarators (init_declarator (t.array (t.named (spelled (codes "u") 1)) (at 1) (t.integer (spelled (codes "2")
    1)) (at 1)) (Some (
      (at 1),
      (t.braced (at 1) (t.item None (t.value (t.strings (spelled (codes "\"a\"") 1) [])))
          t.end_of_items None (at 1)),
    ))) [])) (at 1))) ∷ (s.declaration (declaration (t.specifiers (word keyword.Char 1)
    t.no_specifiers) (Some (declarators (init_declarator (t.pointer (at 1) [] (t.named (spelled (codes "p") 1))) (Some
    ((at 1), (t.value (t.strings (spelled (codes "\"x\"") 1) []))))) [])) (at 1))) ∷ (s.definition (t.specifiers (word
    keyword.Int 1) t.no_specifiers) (t.function (t.named (spelled (codes "main") 1)) (at 1) (t.void_parameters (at 1))
    (at 1)) (s.block (at 1) (s.items (s.inner (s.return (at 1) (Some (t.integer (spelled (codes "0") 1))) (at 1)))
    s.no_items) (at 1))) ∷ []) 1)
    ≡ accepted true ((4, (None, ((0, bytes (97 ∷ 98 ∷ 99 ∷ 0 ∷ [])) ∷ []))) ∷ (
      3,
      (
        None,
        ((
          0,
          bytes (97 ∷ 98 ∷ 99 ∷
              []),
        ) ∷ []),
      ),
    ) ∷ (2, (None, ((0, bytes (97 ∷ 0 ∷ [])) ∷ []))) ∷ (8, (None, ((0, other) ∷ []))) ∷ (
      2,
      (
        None,
        ((
          0,
          bytes (120 ∷ 0 ∷ []),
        ) ∷ []),
      ),
    ) ∷ []) (function 1 0 [] [] (number 0 ∷ []) ∷ [])
unfolding balanced_type common_type fit is_signed mixed_type promoted rank size_of unsigned_of binary_value
    shift_amount unary_value constant_in constant_of greatest_of suffix_of typed types_of bytes_of_literal character_value
    characters_of escaped literal_step next_character extent_of array_size member_offsets structure_of union_of room
    is_valid_program constant_word binary assigned cast row_of comma combined unary dereferenced indexed size_of_words
    assignment compound stepped condition conditional switch_value called called_through routine_words composite judged
    start reached reached_by reached_in element_number member_number number_behind part closed opened with_literal
    with_value without first_not_constant typed_unit
literals = refl

-- int a[]={[3]=1,2};int main(void){return 0;}
counted :
    (source ((s.declaration (declaration (t.specifiers (word keyword.Int 1) t.no_specifiers) (Some (declarators
    (init_declarator (t.open_array (t.named (spelled (codes "a") 1)) (at 1) (at 1)) (Some (
      (at 1),
      (t.braced (at 1)
          (t.item (Some (designation ((t.element (at 1) (t.integer (spelled (codes "3") 1)) (at 1)) ∷ []) (at 1))) (t.value
          (t.integer (spelled (codes "1") 1)))) (t.more_items (at 1) (t.item None (t.value (t.integer (spelled (codes "2")
          1)))) t.end_of_items) None (at 1)),
    ))) [])) (at 1))) ∷ (s.definition (t.specifiers (word keyword.Int 1)
    t.no_specifiers) (t.function (t.named (spelled (codes "main") 1)) (at 1) (t.void_parameters (at 1)) (at 1))
    (s.block (at 1) (s.items (s.inner (s.return (at 1) (Some (t.integer (spelled (codes "0") 1))) (at 1))) s.no_items)
    (at 1))) ∷ []) 1)
    ≡ accepted true ((20, (None, ((12, number 1) ∷ (16, number 2) ∷ []))) ∷ []) (function 1 0 [] [] (number 0 ∷ []) ∷
    [])
unfolding balanced_type common_type fit is_signed mixed_type promoted rank size_of unsigned_of binary_value
    shift_amount unary_value constant_in constant_of greatest_of suffix_of typed types_of bytes_of_literal character_value
    characters_of escaped literal_step next_character extent_of array_size member_offsets structure_of union_of room
    is_valid_program constant_word binary assigned cast row_of comma combined unary dereferenced indexed size_of_words
    assignment compound stepped condition conditional switch_value called called_through routine_words composite judged
    start reached reached_by reached_in element_number member_number number_behind part closed opened with_literal
    with_value without first_not_constant typed_unit
counted = refl

-- void f(void){}void(*p)(void)=*f,(*q)(void)=&*(**f),(*r)(void)=(*&f);int main(void){p=q;return 0;}
function_designators :
    (source ((s.definition (t.specifiers (word keyword.Void 1) t.no_specifiers) (t.function (t.named (spelled (codes
    "f") 1)) (at 1) (t.void_parameters (at 1)) (at 1)) (s.block (at 1) s.no_items (at 1))) ∷ (s.declaration
    (declaration (t.specifiers (word keyword.Void 1) t.no_specifiers) (Some (declarators (init_declarator (t.function
    (t.grouped (at 1) (t.pointer (at 1) [] (t.named (spelled (codes "p") 1))) (at 1)) (at 1) (t.void_parameters (at
    1)) (at 1)) (Some ((at 1), (t.value (t.unary sign.Star (at 1) (t.identifier (spelled (codes "f") 1))))))) ((
      (at
          1),
      (init_declarator (t.function (t.grouped (at 1) (t.pointer (at 1) [] (t.named (spelled (codes "q") 1))) (at 1))
          (at 1) (t.void_parameters (at 1)) (at 1)) (Some (
            (at 1),
            (t.value (t.unary sign.Ampersand (at 1) (t.unary
                sign.Star (at 1) (t.parenthesized (at 1) (t.unary sign.Star (at 1) (t.unary sign.Star (at 1) (t.identifier
                (spelled (codes "f") 1)))) (at 1))))),
          ))),
    ) ∷ (
      (at 1),
      (init_declarator (t.function (t.grouped (at 1) (t.pointer (at
          1) [] (t.named (spelled (codes "r") 1))) (at 1)) (at 1) (t.void_parameters (at 1)) (at 1)) (Some (
            (at 1),
            (t.value
                (t.parenthesized (at 1) (t.unary sign.Star (at 1) (t.unary sign.Ampersand (at 1) (t.identifier (spelled (codes
                "f") 1)))) (at 1))),
          ))),
    ) ∷ []))) (at 1))) ∷ (s.definition (t.specifiers (word keyword.Int 1) t.no_specifiers)
    (t.function (t.named (spelled (codes "main") 1)) (at 1) (t.void_parameters (at 1)) (at 1)) (s.block (at 1)
    (s.items (s.inner (s.expression (Some (t.assignment (t.identifier (spelled (codes "p") 1)) sign.Assign (at 1)
    (t.identifier (spelled (codes "q") 1)))) (at 1))) (s.items (s.inner (s.return (at 1) (Some (t.integer (spelled
    (codes "0") 1))) (at 1))) s.no_items)) (at 1))) ∷ []) 1)
    ≡ accepted true ((8, (None, ((0, other) ∷ []))) ∷ (8, (None, ((0, other) ∷ []))) ∷ (8, (None, ((0, other) ∷ [])))
    ∷ []) (function 1 0 [] [] [] ∷ function 1 1 [] [] (other ∷ number 0 ∷ []) ∷ [])
unfolding balanced_type common_type fit is_signed mixed_type promoted rank size_of unsigned_of binary_value
    shift_amount unary_value constant_in constant_of greatest_of suffix_of typed types_of bytes_of_literal character_value
    characters_of escaped literal_step next_character extent_of array_size member_offsets structure_of union_of room
    is_valid_program constant_word binary assigned cast row_of comma combined unary dereferenced indexed size_of_words
    assignment compound stepped condition conditional switch_value called called_through routine_words composite judged
    start reached reached_by reached_in element_number member_number number_behind part closed opened with_literal
    with_value without first_not_constant typed_unit
function_designators = refl

-- unsigned char c=257;long l=-1;int main(void){return 0;}
converted :
    (source ((s.declaration (declaration (t.specifiers (word keyword.Unsigned 1) (t.specifiers (word keyword.Char 1)
    t.no_specifiers)) (Some (declarators (init_declarator (t.named (spelled (codes "c") 1)) (Some (
      (at 1),
      (t.value
          (t.integer (spelled (codes "257") 1))),
    ))) [])) (at 1))) ∷ (s.declaration (declaration (t.specifiers (word
    keyword.Long 1) t.no_specifiers) (Some (declarators (init_declarator (t.named (spelled (codes "l") 1)) (Some (
      (at
          1),
      (t.value (t.unary sign.Minus (at 1) (t.integer (spelled (codes "1") 1)))),
    ))) [])) (at 1))) ∷ (s.definition
    (t.specifiers (word keyword.Int 1) t.no_specifiers) (t.function (t.named (spelled (codes "main") 1)) (at 1)
    (t.void_parameters (at 1)) (at 1)) (s.block (at 1) (s.items (s.inner (s.return (at 1) (Some (t.integer (spelled
    (codes "0") 1))) (at 1))) s.no_items) (at 1))) ∷ []) 1)
    ≡ accepted true ((1, (None, ((0, number 1) ∷ []))) ∷ (8, (None, ((0, number 18446744073709551615) ∷ []))) ∷ [])
    (function 1 0 [] [] (number 0 ∷ []) ∷ [])
unfolding balanced_type common_type fit is_signed mixed_type promoted rank size_of unsigned_of binary_value
    shift_amount unary_value constant_in constant_of greatest_of suffix_of typed types_of bytes_of_literal character_value
    characters_of escaped literal_step next_character extent_of array_size member_offsets structure_of union_of room
    is_valid_program constant_word binary assigned cast row_of comma combined unary dereferenced indexed size_of_words
    assignment compound stepped condition conditional switch_value called called_through routine_words composite judged
    start reached reached_by reached_in element_number member_number number_behind part closed opened with_literal
    with_value without first_not_constant typed_unit
converted = refl

-- int x={{1}};int main(void){return 0;}
braces_of_a_scalar :
    (source ((s.declaration (declaration (t.specifiers (word keyword.Int 1) t.no_specifiers) (Some (declarators
    (init_declarator (t.named (spelled (codes "x") 1)) (Some (
      (at 1),
      (t.braced (at 1) (t.item None (t.braced (at 1)
          (t.item None (t.value (t.integer (spelled (codes "1") 1)))) t.end_of_items None (at 1))) t.end_of_items None (at
          1)),
    ))) [])) (at 1))) ∷ (s.definition (t.specifiers (word keyword.Int 1) t.no_specifiers) (t.function (t.named
    (spelled (codes "main") 1)) (at 1) (t.void_parameters (at 1)) (at 1)) (s.block (at 1) (s.items (s.inner (s.return
    (at 1) (Some (t.integer (spelled (codes "0") 1))) (at 1))) s.no_items) (at 1))) ∷ []) 1)
    ≡ accepted true ((4, (None, ((0, number 1) ∷ []))) ∷ []) (function 1 0 [] [] (number 0 ∷ []) ∷ [])
unfolding balanced_type common_type fit is_signed mixed_type promoted rank size_of unsigned_of binary_value
    shift_amount unary_value constant_in constant_of greatest_of suffix_of typed types_of bytes_of_literal character_value
    characters_of escaped literal_step next_character extent_of array_size member_offsets structure_of union_of room
    is_valid_program constant_word binary assigned cast row_of comma combined unary dereferenced indexed size_of_words
    assignment compound stepped condition conditional switch_value called called_through routine_words composite judged
    start reached reached_by reached_in element_number member_number number_behind part closed opened with_literal
    with_value without first_not_constant typed_unit
braces_of_a_scalar = refl

-- int main(void){int x={3};int a[]={1,2};int y=x;return a[0]+y;}
automatic :
    (source ((s.definition (t.specifiers (word keyword.Int 1) t.no_specifiers) (t.function (t.named (spelled (codes
    "main") 1)) (at 1) (t.void_parameters (at 1)) (at 1)) (s.block (at 1) (s.items (s.local (declaration (t.specifiers
    (word keyword.Int 1) t.no_specifiers) (Some (declarators (init_declarator (t.named (spelled (codes "x") 1)) (Some (
      (at 1),
      (t.braced (at 1) (t.item None (t.value (t.integer (spelled (codes "3") 1)))) t.end_of_items None (at
          1)),
    ))) [])) (at 1))) (s.items (s.local (declaration (t.specifiers (word keyword.Int 1) t.no_specifiers) (Some
    (declarators (init_declarator (t.open_array (t.named (spelled (codes "a") 1)) (at 1) (at 1)) (Some (
      (at 1),
      (t.braced (at 1) (t.item None (t.value (t.integer (spelled (codes "1") 1)))) (t.more_items (at 1) (t.item None
          (t.value (t.integer (spelled (codes "2") 1)))) t.end_of_items) None (at 1)),
    ))) [])) (at 1))) (s.items (s.local
    (declaration (t.specifiers (word keyword.Int 1) t.no_specifiers) (Some (declarators (init_declarator (t.named
    (spelled (codes "y") 1)) (Some ((at 1), (t.value (t.identifier (spelled (codes "x") 1)))))) [])) (at 1))) (s.items
    (s.inner (s.return (at 1) (Some (t.binary (t.subscript (t.identifier (spelled (codes "a") 1)) (at 1) (t.integer
    (spelled (codes "0") 1)) (at 1)) sign.Plus (at 1) (t.identifier (spelled (codes "y") 1)))) (at 1))) s.no_items))))
    (at 1))) ∷ []) 1)
    ≡ accepted true [] (function 1 0 [] ((4, false) ∷ (8, true) ∷ (4, false) ∷ []) (number 3 ∷ number 1 ∷ number 2 ∷
    other ∷ other ∷ []) ∷ [])
unfolding balanced_type common_type fit is_signed mixed_type promoted rank size_of unsigned_of binary_value
    shift_amount unary_value constant_in constant_of greatest_of suffix_of typed types_of bytes_of_literal character_value
    characters_of escaped literal_step next_character extent_of array_size member_offsets structure_of union_of room
    is_valid_program constant_word binary assigned cast row_of comma combined unary dereferenced indexed size_of_words
    assignment compound stepped condition conditional switch_value called called_through routine_words composite judged
    start reached reached_by reached_in element_number member_number number_behind part closed opened with_literal
    with_value without first_not_constant typed_unit
automatic = refl

-- struct P{int a,b;};struct Q{struct P p;int c;};int main(void){struct P p={1,2};struct Q q={p,3};return q.c;}
whole_structure :
    (source ((s.declaration (declaration (t.specifiers (t.structure_body keyword.Struct (at 1) (Some (spelled (codes
    "P") 1)) (at 1) (t.members (t.member_declaration (t.specifiers (word keyword.Int 1) t.no_specifiers) (t.named
    (spelled (codes "a") 1)) (t.more_declarators (at 1) (t.named (spelled (codes "b") 1)) t.end_of_declarators) (at
    1)) t.no_members) (at 1)) t.no_specifiers) None (at 1))) ∷ (s.declaration (declaration (t.specifiers
    (t.structure_body keyword.Struct (at 1) (Some (spelled (codes "Q") 1)) (at 1) (t.members (t.member_declaration
    (t.specifiers (t.structure keyword.Struct (at 1) (spelled (codes "P") 1)) t.no_specifiers) (t.named (spelled
    (codes "p") 1)) t.end_of_declarators (at 1)) (t.members (t.member_declaration (t.specifiers (word keyword.Int 1)
    t.no_specifiers) (t.named (spelled (codes "c") 1)) t.end_of_declarators (at 1)) t.no_members)) (at 1))
    t.no_specifiers) None (at 1))) ∷ (s.definition (t.specifiers (word keyword.Int 1) t.no_specifiers) (t.function
    (t.named (spelled (codes "main") 1)) (at 1) (t.void_parameters (at 1)) (at 1)) (s.block (at 1) (s.items (s.local
    (declaration (t.specifiers (t.structure keyword.Struct (at 1) (spelled (codes "P") 1)) t.no_specifiers) (Some
    (declarators (init_declarator (t.named (spelled (codes "p") 1)) (Some (
      (at 1),
      (t.braced (at 1) (t.item None
          (t.value (t.integer (spelled (codes "1") 1)))) (t.more_items (at 1) (t.item None (t.value (t.integer (spelled
          (codes "2") 1)))) t.end_of_items) None (at 1)),
    ))) [])) (at 1))) (s.items (s.local (declaration (t.specifiers
    (t.structure keyword.Struct (at 1) (spelled (codes "Q") 1)) t.no_specifiers) (Some (declarators (init_declarator
    (t.named (spelled (codes "q") 1)) (Some (
      (at 1),
      (t.braced (at 1) (t.item None (t.value (t.identifier (spelled
          (codes "p") 1)))) (t.more_items (at 1) (t.item None (t.value (t.integer (spelled (codes "3") 1)))) t.end_of_items)
          None (at 1)),
    ))) [])) (at 1))) (s.items (s.inner (s.return (at 1) (Some (t.member (t.identifier (spelled (codes
    "q") 1)) sign.Dot (at 1) (spelled (codes "c") 1))) (at 1))) s.no_items))) (at 1))) ∷ []) 1)
    ≡ accepted true [] (function 1 0 [] ((8, true) ∷ (12, true) ∷ []) (number 1 ∷ number 2 ∷ other ∷ number 3 ∷ other
    ∷ []) ∷ [])
unfolding balanced_type common_type fit is_signed mixed_type promoted rank size_of unsigned_of binary_value
    shift_amount unary_value constant_in constant_of greatest_of suffix_of typed types_of bytes_of_literal character_value
    characters_of escaped literal_step next_character extent_of array_size member_offsets structure_of union_of room
    is_valid_program constant_word binary assigned cast row_of comma combined unary dereferenced indexed size_of_words
    assignment compound stepped condition conditional switch_value called called_through routine_words composite judged
    start reached reached_by reached_in element_number member_number number_behind part closed opened with_literal
    with_value without first_not_constant typed_unit
whole_structure = refl
