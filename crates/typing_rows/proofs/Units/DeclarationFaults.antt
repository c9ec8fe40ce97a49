-- Declarations that violate a rule (C99 6.7, 6.9).
-- gcc 12.2.0 (-std=c99 -pedantic-errors -fsyntax-only) accepts or refuses the texts of all rows but of these as they
-- do, which have a rule or limit that gcc has not: library_defined, large_array, extern_undefined.
use Rattle.std.proofs.Common.{◌≡◌, [], ◌∷◌, Some, None, refl}
use Rattle.std.specs.Prelude.{codes}
use Rattle.c_lexer.specs.declared.keyword.Keyword.TheVariants as keyword
use Rattle.c_lexer.specs.declared.punctuator.Punctuator.TheVariants as sign
use Rattle.c_syntax.specs.Statements as s
use Rattle.c_syntax.specs.Tree as t
use Rattle.c_faults.specs.declared.fault.Rule.TheVariants as rule
use Rattle.obj_memory.specs.Integers.{balanced_type, common_type, fit, is_signed, mixed_type, promoted, rank, size_of}
use Rattle.obj_memory.specs.Integers.{unsigned_of}
use Rattle.obj_memory.specs.Operators.{binary_value, shift_amount, unary_value}
use Rattle.c_lexer.specs.Constants.{constant_in, constant_of, greatest_of, suffix_of, typed, types_of}
use Rattle.c_lexer.specs.Literals.{bytes_of_literal, character_value, characters_of, escaped, literal_step, next_character}
use Rattle.c_tree.specs.Extents.{extent_of}
use Rattle.c_tree.specs.Layout.{array_size, member_offsets, structure_of, union_of}
use Rattle.c_tree.specs.Room.{room}
use Rattle.c_tree.specs.ValidProgram.{is_valid_program}
use Rattle.c_const.specs.Initializers.{first_not_constant}
use Rattle.c_const.specs.Integers.{constant_word}
use Rattle.c_rules.specs.Binary.{binary}
use Rattle.c_rules.specs.Conversions.{assigned, cast}
use Rattle.c_rules.specs.Rows.{row_of}
use Rattle.c_rules.specs.Unary.{comma, combined, unary}
use Rattle.c_place_rules.specs.Places.{dereferenced, indexed, size_of as size_of_words}
use Rattle.c_assignment_rules.specs.Assignments.{assignment, compound, stepped}
use Rattle.c_condition_rules.specs.Conditions.{condition, conditional, switch_value}
use Rattle.c_call_rules.specs.Calls.{called, called_through}
use Rattle.c_tree.specs.Routines.{routine_words}
use Rattle.c_scope.specs.Composite.{composite}
use Rattle.c_scope.specs.Declaring.{judged}
use Rattle.c_scope.specs.Start.{start}
use Rattle.c_current_object.specs.CurrentObject.{reached, reached_by, reached_in}
use Rattle.c_current_object.specs.Subobjects.{element_number, member_number, number_behind, part}
use Rattle.c_initializer_rules.specs.Initializing.{closed, opened, with_literal, with_value}
use Rattle.c_initializer_rules.specs.Placed.{without}
use Rattle.c_unit_typing.specs.Typed.{typed_unit}
use Rattle.typing_rows.proofs.Units.Sources.{at, declaration, declarators, function, init_declarator}
use Rattle.typing_rows.proofs.Units.Sources.{refused, source, spelled, word}

-- static int a[];int main(void){return 0;}
static_of_unknown_size :
    (source ((s.declaration (declaration (t.specifiers (word keyword.Static 1) (t.specifiers (word keyword.Int 1)
    t.no_specifiers)) (Some (declarators (init_declarator (t.open_array (t.named (spelled (codes "a") 1)) (at 1) (at
    1)) None) [])) (at 1))) ∷ (s.definition (t.specifiers (word keyword.Int 1) t.no_specifiers) (t.function (t.named
    (spelled (codes "main") 1)) (at 1) (t.void_parameters (at 1)) (at 1)) (s.block (at 1) (s.items (s.inner (s.return
    (at 1) (Some (t.integer (spelled (codes "0") 1))) (at 1))) s.no_items) (at 1))) ∷ []) 1)
    ≡ refused rule.Incomplete 1
unfolding balanced_type common_type fit is_signed mixed_type promoted rank size_of unsigned_of binary_value
    shift_amount unary_value constant_in constant_of greatest_of suffix_of typed types_of bytes_of_literal character_value
    characters_of escaped literal_step next_character extent_of array_size member_offsets structure_of union_of room
    is_valid_program constant_word binary assigned cast row_of comma combined unary dereferenced indexed size_of_words
    assignment compound stepped condition conditional switch_value called called_through routine_words composite judged
    start reached reached_by reached_in element_number member_number number_behind part closed opened with_literal
    with_value without first_not_constant typed_unit
static_of_unknown_size = refl

-- struct S s;int n=
-- sizeof s;struct S{int a;};int main(void){return 0;}
not_yet_complete :
    (source ((s.declaration (declaration (t.specifiers (t.structure keyword.Struct (at 1) (spelled (codes "S") 1))
    t.no_specifiers) (Some (declarators (init_declarator (t.named (spelled (codes "s") 1)) None) [])) (at 1))) ∷
    (s.declaration (declaration (t.specifiers (word keyword.Int 1) t.no_specifiers) (Some (declarators
    (init_declarator (t.named (spelled (codes "n") 1)) (Some (
      (at 1),
      (t.value (t.sizeof_expression (at 2)
          (t.identifier (spelled (codes "s") 2)))),
    ))) [])) (at 2))) ∷ (s.declaration (declaration (t.specifiers
    (t.structure_body keyword.Struct (at 2) (Some (spelled (codes "S") 2)) (at 2) (t.members (t.member_declaration
    (t.specifiers (word keyword.Int 2) t.no_specifiers) (t.named (spelled (codes "a") 2)) t.end_of_declarators (at 2))
    t.no_members) (at 2)) t.no_specifiers) None (at 2))) ∷ (s.definition (t.specifiers (word keyword.Int 2)
    t.no_specifiers) (t.function (t.named (spelled (codes "main") 2)) (at 2) (t.void_parameters (at 2)) (at 2))
    (s.block (at 2) (s.items (s.inner (s.return (at 2) (Some (t.integer (spelled (codes "0") 2))) (at 2))) s.no_items)
    (at 2))) ∷ []) 2)
    ≡ refused rule.Incomplete 2
unfolding balanced_type common_type fit is_signed mixed_type promoted rank size_of unsigned_of binary_value
    shift_amount unary_value constant_in constant_of greatest_of suffix_of typed types_of bytes_of_literal character_value
    characters_of escaped literal_step next_character extent_of array_size member_offsets structure_of union_of room
    is_valid_program constant_word binary assigned cast row_of comma combined unary dereferenced indexed size_of_words
    assignment compound stepped condition conditional switch_value called called_through routine_words composite judged
    start reached reached_by reached_in element_number member_number number_behind part closed opened with_literal
    with_value without first_not_constant typed_unit
not_yet_complete = refl

-- struct S s;int main(void){return 0;}
never_complete :
    (source ((s.declaration (declaration (t.specifiers (t.structure keyword.Struct (at 1) (spelled (codes "S") 1))
    t.no_specifiers) (Some (declarators (init_declarator (t.named (spelled (codes "s") 1)) None) [])) (at 1))) ∷
    (s.definition (t.specifiers (word keyword.Int 1) t.no_specifiers) (t.function (t.named (spelled (codes "main") 1))
    (at 1) (t.void_parameters (at 1)) (at 1)) (s.block (at 1) (s.items (s.inner (s.return (at 1) (Some (t.integer
    (spelled (codes "0") 1))) (at 1))) s.no_items) (at 1))) ∷ []) 1)
    ≡ refused rule.Incomplete 1
unfolding balanced_type common_type fit is_signed mixed_type promoted rank size_of unsigned_of binary_value
    shift_amount unary_value constant_in constant_of greatest_of suffix_of typed types_of bytes_of_literal character_value
    characters_of escaped literal_step next_character extent_of array_size member_offsets structure_of union_of room
    is_valid_program constant_word binary assigned cast row_of comma combined unary dereferenced indexed size_of_words
    assignment compound stepped condition conditional switch_value called called_through routine_words composite judged
    start reached reached_by reached_in element_number member_number number_behind part closed opened with_literal
    with_value without first_not_constant typed_unit
never_complete = refl

-- struct S s;int f(void){
-- s;return 0;}struct S{int a;};int main(void){return 0;}
read_before_its_members :
    (source ((s.declaration (declaration (t.specifiers (t.structure keyword.Struct (at 1) (spelled (codes "S") 1))
    t.no_specifiers) (Some (declarators (init_declarator (t.named (spelled (codes "s") 1)) None) [])) (at 1))) ∷
    (s.definition (t.specifiers (word keyword.Int 1) t.no_specifiers) (t.function (t.named (spelled (codes "f") 1))
    (at 1) (t.void_parameters (at 1)) (at 1)) (s.block (at 1) (s.items (s.inner (s.expression (Some (t.identifier
    (spelled (codes "s") 2))) (at 2))) (s.items (s.inner (s.return (at 2) (Some (t.integer (spelled (codes "0") 2)))
    (at 2))) s.no_items)) (at 2))) ∷ (s.declaration (declaration (t.specifiers (t.structure_body keyword.Struct (at 2)
    (Some (spelled (codes "S") 2)) (at 2) (t.members (t.member_declaration (t.specifiers (word keyword.Int 2)
    t.no_specifiers) (t.named (spelled (codes "a") 2)) t.end_of_declarators (at 2)) t.no_members) (at 2))
    t.no_specifiers) None (at 2))) ∷ (s.definition (t.specifiers (word keyword.Int 2) t.no_specifiers) (t.function
    (t.named (spelled (codes "main") 2)) (at 2) (t.void_parameters (at 2)) (at 2)) (s.block (at 2) (s.items (s.inner
    (s.return (at 2) (Some (t.integer (spelled (codes "0") 2))) (at 2))) s.no_items) (at 2))) ∷ []) 2)
    ≡ refused rule.Incomplete 2
unfolding balanced_type common_type fit is_signed mixed_type promoted rank size_of unsigned_of binary_value
    shift_amount unary_value constant_in constant_of greatest_of suffix_of typed types_of bytes_of_literal character_value
    characters_of escaped literal_step next_character extent_of array_size member_offsets structure_of union_of room
    is_valid_program constant_word binary assigned cast row_of comma combined unary dereferenced indexed size_of_words
    assignment compound stepped condition conditional switch_value called called_through routine_words composite judged
    start reached reached_by reached_in element_number member_number number_behind part closed opened with_literal
    with_value without first_not_constant typed_unit
read_before_its_members = refl

-- extern struct S s;int n=(s
-- =*(struct S{int a;}*)0,1);struct S s;int main(void){return 0;}
written_before_its_members :
    (source ((s.declaration (declaration (t.specifiers (word keyword.Extern 1) (t.specifiers (t.structure
    keyword.Struct (at 1) (spelled (codes "S") 1)) t.no_specifiers)) (Some (declarators (init_declarator (t.named
    (spelled (codes "s") 1)) None) [])) (at 1))) ∷ (s.declaration (declaration (t.specifiers (word keyword.Int 1)
    t.no_specifiers) (Some (declarators (init_declarator (t.named (spelled (codes "n") 1)) (Some (
      (at 1),
      (t.value
          (t.parenthesized (at 1) (t.binary (t.assignment (t.identifier (spelled (codes "s") 1)) sign.Assign (at 2) (t.unary
          sign.Star (at 2) (t.cast (at 2) (t.typed (t.specifiers (t.structure_body keyword.Struct (at 2) (Some (spelled
          (codes "S") 2)) (at 2) (t.members (t.member_declaration (t.specifiers (word keyword.Int 2) t.no_specifiers)
          (t.named (spelled (codes "a") 2)) t.end_of_declarators (at 2)) t.no_members) (at 2)) t.no_specifiers) (t.pointer
          (at 2) [] t.unnamed)) (at 2) (t.integer (spelled (codes "0") 2))))) sign.Comma (at 2) (t.integer (spelled (codes
          "1") 2))) (at 2))),
    ))) [])) (at 2))) ∷ (s.declaration (declaration (t.specifiers (t.structure keyword.Struct (at 2)
    (spelled (codes "S") 2)) t.no_specifiers) (Some (declarators (init_declarator (t.named (spelled (codes "s") 2))
    None) [])) (at 2))) ∷ (s.definition (t.specifiers (word keyword.Int 2) t.no_specifiers) (t.function (t.named
    (spelled (codes "main") 2)) (at 2) (t.void_parameters (at 2)) (at 2)) (s.block (at 2) (s.items (s.inner (s.return
    (at 2) (Some (t.integer (spelled (codes "0") 2))) (at 2))) s.no_items) (at 2))) ∷ []) 2)
    ≡ refused rule.Incomplete 2
unfolding balanced_type common_type fit is_signed mixed_type promoted rank size_of unsigned_of binary_value
    shift_amount unary_value constant_in constant_of greatest_of suffix_of typed types_of bytes_of_literal character_value
    characters_of escaped literal_step next_character extent_of array_size member_offsets structure_of union_of room
    is_valid_program constant_word binary assigned cast row_of comma combined unary dereferenced indexed size_of_words
    assignment compound stepped condition conditional switch_value called called_through routine_words composite judged
    start reached reached_by reached_in element_number member_number number_behind part closed opened with_literal
    with_value without first_not_constant typed_unit
written_before_its_members = refl

-- int main(void){void
-- x;return 0;}
of_void :
    (source ((s.definition (t.specifiers (word keyword.Int 1) t.no_specifiers) (t.function (t.named (spelled (codes
    "main") 1)) (at 1) (t.void_parameters (at 1)) (at 1)) (s.block (at 1) (s.items (s.local (declaration (t.specifiers
    (word keyword.Void 1) t.no_specifiers) (Some (declarators (init_declarator (t.named (spelled (codes "x") 2)) None)
    [])) (at 2))) (s.items (s.inner (s.return (at 2) (Some (t.integer (spelled (codes "0") 2))) (at 2))) s.no_items))
    (at 2))) ∷ []) 2)
    ≡ refused rule.Incomplete 2
unfolding balanced_type common_type fit is_signed mixed_type promoted rank size_of unsigned_of binary_value
    shift_amount unary_value constant_in constant_of greatest_of suffix_of typed types_of bytes_of_literal character_value
    characters_of escaped literal_step next_character extent_of array_size member_offsets structure_of union_of room
    is_valid_program constant_word binary assigned cast row_of comma combined unary dereferenced indexed size_of_words
    assignment compound stepped condition conditional switch_value called called_through routine_words composite judged
    start reached reached_by reached_in element_number member_number number_behind part closed opened with_literal
    with_value without first_not_constant typed_unit
of_void = refl

-- int x;
-- char x;int main(void){return 0;}
other_type :
    (source ((s.declaration (declaration (t.specifiers (word keyword.Int 1) t.no_specifiers) (Some (declarators
    (init_declarator (t.named (spelled (codes "x") 1)) None) [])) (at 1))) ∷ (s.declaration (declaration (t.specifiers
    (word keyword.Char 2) t.no_specifiers) (Some (declarators (init_declarator (t.named (spelled (codes "x") 2)) None)
    [])) (at 2))) ∷ (s.definition (t.specifiers (word keyword.Int 2) t.no_specifiers) (t.function (t.named (spelled
    (codes "main") 2)) (at 2) (t.void_parameters (at 2)) (at 2)) (s.block (at 2) (s.items (s.inner (s.return (at 2)
    (Some (t.integer (spelled (codes "0") 2))) (at 2))) s.no_items) (at 2))) ∷ []) 2)
    ≡ refused rule.Redeclared 2
unfolding balanced_type common_type fit is_signed mixed_type promoted rank size_of unsigned_of binary_value
    shift_amount unary_value constant_in constant_of greatest_of suffix_of typed types_of bytes_of_literal character_value
    characters_of escaped literal_step next_character extent_of array_size member_offsets structure_of union_of room
    is_valid_program constant_word binary assigned cast row_of comma combined unary dereferenced indexed size_of_words
    assignment compound stepped condition conditional switch_value called called_through routine_words composite judged
    start reached reached_by reached_in element_number member_number number_behind part closed opened with_literal
    with_value without first_not_constant typed_unit
other_type = refl

-- const int x;
-- int x;int main(void){return 0;}
other_qualifier :
    (source ((s.declaration (declaration (t.specifiers (word keyword.Const 1) (t.specifiers (word keyword.Int 1)
    t.no_specifiers)) (Some (declarators (init_declarator (t.named (spelled (codes "x") 1)) None) [])) (at 1))) ∷
    (s.declaration (declaration (t.specifiers (word keyword.Int 2) t.no_specifiers) (Some (declarators
    (init_declarator (t.named (spelled (codes "x") 2)) None) [])) (at 2))) ∷ (s.definition (t.specifiers (word
    keyword.Int 2) t.no_specifiers) (t.function (t.named (spelled (codes "main") 2)) (at 2) (t.void_parameters (at 2))
    (at 2)) (s.block (at 2) (s.items (s.inner (s.return (at 2) (Some (t.integer (spelled (codes "0") 2))) (at 2)))
    s.no_items) (at 2))) ∷ []) 2)
    ≡ refused rule.Redeclared 2
unfolding balanced_type common_type fit is_signed mixed_type promoted rank size_of unsigned_of binary_value
    shift_amount unary_value constant_in constant_of greatest_of suffix_of typed types_of bytes_of_literal character_value
    characters_of escaped literal_step next_character extent_of array_size member_offsets structure_of union_of room
    is_valid_program constant_word binary assigned cast row_of comma combined unary dereferenced indexed size_of_words
    assignment compound stepped condition conditional switch_value called called_through routine_words composite judged
    start reached reached_by reached_in element_number member_number number_behind part closed opened with_literal
    with_value without first_not_constant typed_unit
other_qualifier = refl

-- int f(void){return 0;}
-- int f(void){return 0;}int main(void){return 0;}
defined_twice :
    (source ((s.definition (t.specifiers (word keyword.Int 1) t.no_specifiers) (t.function (t.named (spelled (codes
    "f") 1)) (at 1) (t.void_parameters (at 1)) (at 1)) (s.block (at 1) (s.items (s.inner (s.return (at 1) (Some
    (t.integer (spelled (codes "0") 1))) (at 1))) s.no_items) (at 1))) ∷ (s.definition (t.specifiers (word keyword.Int
    2) t.no_specifiers) (t.function (t.named (spelled (codes "f") 2)) (at 2) (t.void_parameters (at 2)) (at 2))
    (s.block (at 2) (s.items (s.inner (s.return (at 2) (Some (t.integer (spelled (codes "0") 2))) (at 2))) s.no_items)
    (at 2))) ∷ (s.definition (t.specifiers (word keyword.Int 2) t.no_specifiers) (t.function (t.named (spelled (codes
    "main") 2)) (at 2) (t.void_parameters (at 2)) (at 2)) (s.block (at 2) (s.items (s.inner (s.return (at 2) (Some
    (t.integer (spelled (codes "0") 2))) (at 2))) s.no_items) (at 2))) ∷ []) 2)
    ≡ refused rule.Redeclared 2
unfolding balanced_type common_type fit is_signed mixed_type promoted rank size_of unsigned_of binary_value
    shift_amount unary_value constant_in constant_of greatest_of suffix_of typed types_of bytes_of_literal character_value
    characters_of escaped literal_step next_character extent_of array_size member_offsets structure_of union_of room
    is_valid_program constant_word binary assigned cast row_of comma combined unary dereferenced indexed size_of_words
    assignment compound stepped condition conditional switch_value called called_through routine_words composite judged
    start reached reached_by reached_in element_number member_number number_behind part closed opened with_literal
    with_value without first_not_constant typed_unit
defined_twice = refl

-- int
-- putchar(int c){return c;}int main(void){return 0;}
library_defined :
    (source ((s.definition (t.specifiers (word keyword.Int 1) t.no_specifiers) (t.function (t.named (spelled (codes
    "putchar") 2)) (at 2) (t.parameters (t.typed (t.specifiers (word keyword.Int 2) t.no_specifiers) (t.named (spelled
    (codes "c") 2))) t.end_of_parameters) (at 2)) (s.block (at 2) (s.items (s.inner (s.return (at 2) (Some
    (t.identifier (spelled (codes "c") 2))) (at 2))) s.no_items) (at 2))) ∷ (s.definition (t.specifiers (word
    keyword.Int 2) t.no_specifiers) (t.function (t.named (spelled (codes "main") 2)) (at 2) (t.void_parameters (at 2))
    (at 2)) (s.block (at 2) (s.items (s.inner (s.return (at 2) (Some (t.integer (spelled (codes "0") 2))) (at 2)))
    s.no_items) (at 2))) ∷ []) 2)
    ≡ refused rule.Redeclared 2
unfolding balanced_type common_type fit is_signed mixed_type promoted rank size_of unsigned_of binary_value
    shift_amount unary_value constant_in constant_of greatest_of suffix_of typed types_of bytes_of_literal character_value
    characters_of escaped literal_step next_character extent_of array_size member_offsets structure_of union_of room
    is_valid_program constant_word binary assigned cast row_of comma combined unary dereferenced indexed size_of_words
    assignment compound stepped condition conditional switch_value called called_through routine_words composite judged
    start reached reached_by reached_in element_number member_number number_behind part closed opened with_literal
    with_value without first_not_constant typed_unit
library_defined = refl

-- int f(int x,
-- int x){return x;}int main(void){return 0;}
parameters_of_one_name :
    (source ((s.definition (t.specifiers (word keyword.Int 1) t.no_specifiers) (t.function (t.named (spelled (codes
    "f") 1)) (at 1) (t.parameters (t.typed (t.specifiers (word keyword.Int 1) t.no_specifiers) (t.named (spelled
    (codes "x") 1))) (t.more_parameters (at 1) (t.typed (t.specifiers (word keyword.Int 2) t.no_specifiers) (t.named
    (spelled (codes "x") 2))) t.end_of_parameters)) (at 2)) (s.block (at 2) (s.items (s.inner (s.return (at 2) (Some
    (t.identifier (spelled (codes "x") 2))) (at 2))) s.no_items) (at 2))) ∷ (s.definition (t.specifiers (word
    keyword.Int 2) t.no_specifiers) (t.function (t.named (spelled (codes "main") 2)) (at 2) (t.void_parameters (at 2))
    (at 2)) (s.block (at 2) (s.items (s.inner (s.return (at 2) (Some (t.integer (spelled (codes "0") 2))) (at 2)))
    s.no_items) (at 2))) ∷ []) 2)
    ≡ refused rule.Redeclared 2
unfolding balanced_type common_type fit is_signed mixed_type promoted rank size_of unsigned_of binary_value
    shift_amount unary_value constant_in constant_of greatest_of suffix_of typed types_of bytes_of_literal character_value
    characters_of escaped literal_step next_character extent_of array_size member_offsets structure_of union_of room
    is_valid_program constant_word binary assigned cast row_of comma combined unary dereferenced indexed size_of_words
    assignment compound stepped condition conditional switch_value called called_through routine_words composite judged
    start reached reached_by reached_in element_number member_number number_behind part closed opened with_literal
    with_value without first_not_constant typed_unit
parameters_of_one_name = refl

-- int x;int main(void){int x;
-- extern int x;return 0;}
local_and_extern :
    (source ((s.declaration (declaration (t.specifiers (word keyword.Int 1) t.no_specifiers) (Some (declarators
    (init_declarator (t.named (spelled (codes "x") 1)) None) [])) (at 1))) ∷ (s.definition (t.specifiers (word
    keyword.Int 1) t.no_specifiers) (t.function (t.named (spelled (codes "main") 1)) (at 1) (t.void_parameters (at 1))
    (at 1)) (s.block (at 1) (s.items (s.local (declaration (t.specifiers (word keyword.Int 1) t.no_specifiers) (Some
    (declarators (init_declarator (t.named (spelled (codes "x") 1)) None) [])) (at 1))) (s.items (s.local (declaration
    (t.specifiers (word keyword.Extern 2) (t.specifiers (word keyword.Int 2) t.no_specifiers)) (Some (declarators
    (init_declarator (t.named (spelled (codes "x") 2)) None) [])) (at 2))) (s.items (s.inner (s.return (at 2) (Some
    (t.integer (spelled (codes "0") 2))) (at 2))) s.no_items))) (at 2))) ∷ []) 2)
    ≡ refused rule.Redeclared 2
unfolding balanced_type common_type fit is_signed mixed_type promoted rank size_of unsigned_of binary_value
    shift_amount unary_value constant_in constant_of greatest_of suffix_of typed types_of bytes_of_literal character_value
    characters_of escaped literal_step next_character extent_of array_size member_offsets structure_of union_of room
    is_valid_program constant_word binary assigned cast row_of comma combined unary dereferenced indexed size_of_words
    assignment compound stepped condition conditional switch_value called called_through routine_words composite judged
    start reached reached_by reached_in element_number member_number number_behind part closed opened with_literal
    with_value without first_not_constant typed_unit
local_and_extern = refl

-- int f(int x){
-- int x;return x;}int main(void){return 0;}
parameter_and_local :
    (source ((s.definition (t.specifiers (word keyword.Int 1) t.no_specifiers) (t.function (t.named (spelled (codes
    "f") 1)) (at 1) (t.parameters (t.typed (t.specifiers (word keyword.Int 1) t.no_specifiers) (t.named (spelled
    (codes "x") 1))) t.end_of_parameters) (at 1)) (s.block (at 1) (s.items (s.local (declaration (t.specifiers (word
    keyword.Int 2) t.no_specifiers) (Some (declarators (init_declarator (t.named (spelled (codes "x") 2)) None) []))
    (at 2))) (s.items (s.inner (s.return (at 2) (Some (t.identifier (spelled (codes "x") 2))) (at 2))) s.no_items))
    (at 2))) ∷ (s.definition (t.specifiers (word keyword.Int 2) t.no_specifiers) (t.function (t.named (spelled (codes
    "main") 2)) (at 2) (t.void_parameters (at 2)) (at 2)) (s.block (at 2) (s.items (s.inner (s.return (at 2) (Some
    (t.integer (spelled (codes "0") 2))) (at 2))) s.no_items) (at 2))) ∷ []) 2)
    ≡ refused rule.Redeclared 2
unfolding balanced_type common_type fit is_signed mixed_type promoted rank size_of unsigned_of binary_value
    shift_amount unary_value constant_in constant_of greatest_of suffix_of typed types_of bytes_of_literal character_value
    characters_of escaped literal_step next_character extent_of array_size member_offsets structure_of union_of room
    is_valid_program constant_word binary assigned cast row_of comma combined unary dereferenced indexed size_of_words
    assignment compound stepped condition conditional switch_value called called_through routine_words composite judged
    start reached reached_by reached_in element_number member_number number_behind part closed opened with_literal
    with_value without first_not_constant typed_unit
parameter_and_local = refl

-- void f(void){extern char x;}
-- int x;int main(void){return 0;}
types_of_an_entity :
    (source ((s.definition (t.specifiers (word keyword.Void 1) t.no_specifiers) (t.function (t.named (spelled (codes
    "f") 1)) (at 1) (t.void_parameters (at 1)) (at 1)) (s.block (at 1) (s.items (s.local (declaration (t.specifiers
    (word keyword.Extern 1) (t.specifiers (word keyword.Char 1) t.no_specifiers)) (Some (declarators (init_declarator
    (t.named (spelled (codes "x") 1)) None) [])) (at 1))) s.no_items) (at 1))) ∷ (s.declaration (declaration
    (t.specifiers (word keyword.Int 2) t.no_specifiers) (Some (declarators (init_declarator (t.named (spelled (codes
    "x") 2)) None) [])) (at 2))) ∷ (s.definition (t.specifiers (word keyword.Int 2) t.no_specifiers) (t.function
    (t.named (spelled (codes "main") 2)) (at 2) (t.void_parameters (at 2)) (at 2)) (s.block (at 2) (s.items (s.inner
    (s.return (at 2) (Some (t.integer (spelled (codes "0") 2))) (at 2))) s.no_items) (at 2))) ∷ []) 2)
    ≡ refused rule.Redeclared 2
unfolding balanced_type common_type fit is_signed mixed_type promoted rank size_of unsigned_of binary_value
    shift_amount unary_value constant_in constant_of greatest_of suffix_of typed types_of bytes_of_literal character_value
    characters_of escaped literal_step next_character extent_of array_size member_offsets structure_of union_of room
    is_valid_program constant_word binary assigned cast row_of comma combined unary dereferenced indexed size_of_words
    assignment compound stepped condition conditional switch_value called called_through routine_words composite judged
    start reached reached_by reached_in element_number member_number number_behind part closed opened with_literal
    with_value without first_not_constant typed_unit
types_of_an_entity = refl

-- struct S{int a;};
-- union S*p;int main(void){return 0;}
tag_of_another_kind :
    (source ((s.declaration (declaration (t.specifiers (t.structure_body keyword.Struct (at 1) (Some (spelled (codes
    "S") 1)) (at 1) (t.members (t.member_declaration (t.specifiers (word keyword.Int 1) t.no_specifiers) (t.named
    (spelled (codes "a") 1)) t.end_of_declarators (at 1)) t.no_members) (at 1)) t.no_specifiers) None (at 1))) ∷
    (s.declaration (declaration (t.specifiers (t.structure keyword.Union (at 2) (spelled (codes "S") 2))
    t.no_specifiers) (Some (declarators (init_declarator (t.pointer (at 2) [] (t.named (spelled (codes "p") 2))) None)
    [])) (at 2))) ∷ (s.definition (t.specifiers (word keyword.Int 2) t.no_specifiers) (t.function (t.named (spelled
    (codes "main") 2)) (at 2) (t.void_parameters (at 2)) (at 2)) (s.block (at 2) (s.items (s.inner (s.return (at 2)
    (Some (t.integer (spelled (codes "0") 2))) (at 2))) s.no_items) (at 2))) ∷ []) 2)
    ≡ refused rule.MistakenTag 2
unfolding balanced_type common_type fit is_signed mixed_type promoted rank size_of unsigned_of binary_value
    shift_amount unary_value constant_in constant_of greatest_of suffix_of typed types_of bytes_of_literal character_value
    characters_of escaped literal_step next_character extent_of array_size member_offsets structure_of union_of room
    is_valid_program constant_word binary assigned cast row_of comma combined unary dereferenced indexed size_of_words
    assignment compound stepped condition conditional switch_value called called_through routine_words composite judged
    start reached reached_by reached_in element_number member_number number_behind part closed opened with_literal
    with_value without first_not_constant typed_unit
tag_of_another_kind = refl

-- int f(void)[2];int main(void){return 0;}
result_is_an_array :
    (source ((s.declaration (declaration (t.specifiers (word keyword.Int 1) t.no_specifiers) (Some (declarators
    (init_declarator (t.array (t.function (t.named (spelled (codes "f") 1)) (at 1) (t.void_parameters (at 1)) (at 1))
    (at 1) (t.integer (spelled (codes "2") 1)) (at 1)) None) [])) (at 1))) ∷ (s.definition (t.specifiers (word
    keyword.Int 1) t.no_specifiers) (t.function (t.named (spelled (codes "main") 1)) (at 1) (t.void_parameters (at 1))
    (at 1)) (s.block (at 1) (s.items (s.inner (s.return (at 1) (Some (t.integer (spelled (codes "0") 1))) (at 1)))
    s.no_items) (at 1))) ∷ []) 1)
    ≡ refused rule.MisplacedFunction 1
unfolding balanced_type common_type fit is_signed mixed_type promoted rank size_of unsigned_of binary_value
    shift_amount unary_value constant_in constant_of greatest_of suffix_of typed types_of bytes_of_literal character_value
    characters_of escaped literal_step next_character extent_of array_size member_offsets structure_of union_of room
    is_valid_program constant_word binary assigned cast row_of comma combined unary dereferenced indexed size_of_words
    assignment compound stepped condition conditional switch_value called called_through routine_words composite judged
    start reached reached_by reached_in element_number member_number number_behind part closed opened with_literal
    with_value without first_not_constant typed_unit
result_is_an_array = refl

-- struct S;
-- struct S f(void){}int main(void){return 0;}
result_is_incomplete :
    (source ((s.declaration (declaration (t.specifiers (t.structure keyword.Struct (at 1) (spelled (codes "S") 1))
    t.no_specifiers) None (at 1))) ∷ (s.definition (t.specifiers (t.structure keyword.Struct (at 2) (spelled (codes
    "S") 2)) t.no_specifiers) (t.function (t.named (spelled (codes "f") 2)) (at 2) (t.void_parameters (at 2)) (at 2))
    (s.block (at 2) s.no_items (at 2))) ∷ (s.definition (t.specifiers (word keyword.Int 2) t.no_specifiers)
    (t.function (t.named (spelled (codes "main") 2)) (at 2) (t.void_parameters (at 2)) (at 2)) (s.block (at 2)
    (s.items (s.inner (s.return (at 2) (Some (t.integer (spelled (codes "0") 2))) (at 2))) s.no_items) (at 2))) ∷ [])
    2)
    ≡ refused rule.Incomplete 2
unfolding balanced_type common_type fit is_signed mixed_type promoted rank size_of unsigned_of binary_value
    shift_amount unary_value constant_in constant_of greatest_of suffix_of typed types_of bytes_of_literal character_value
    characters_of escaped literal_step next_character extent_of array_size member_offsets structure_of union_of room
    is_valid_program constant_word binary assigned cast row_of comma combined unary dereferenced indexed size_of_words
    assignment compound stepped condition conditional switch_value called called_through routine_words composite judged
    start reached reached_by reached_in element_number member_number number_behind part closed opened with_literal
    with_value without first_not_constant typed_unit
result_is_incomplete = refl

-- struct S;int f(struct S s){return 0;}int main(void){return 0;}
parameter_is_incomplete :
    (source ((s.declaration (declaration (t.specifiers (t.structure keyword.Struct (at 1) (spelled (codes "S") 1))
    t.no_specifiers) None (at 1))) ∷ (s.definition (t.specifiers (word keyword.Int 1) t.no_specifiers) (t.function
    (t.named (spelled (codes "f") 1)) (at 1) (t.parameters (t.typed (t.specifiers (t.structure keyword.Struct (at 1)
    (spelled (codes "S") 1)) t.no_specifiers) (t.named (spelled (codes "s") 1))) t.end_of_parameters) (at 1)) (s.block
    (at 1) (s.items (s.inner (s.return (at 1) (Some (t.integer (spelled (codes "0") 1))) (at 1))) s.no_items) (at 1)))
    ∷ (s.definition (t.specifiers (word keyword.Int 1) t.no_specifiers) (t.function (t.named (spelled (codes "main")
    1)) (at 1) (t.void_parameters (at 1)) (at 1)) (s.block (at 1) (s.items (s.inner (s.return (at 1) (Some (t.integer
    (spelled (codes "0") 1))) (at 1))) s.no_items) (at 1))) ∷ []) 1)
    ≡ refused rule.Incomplete 1
unfolding balanced_type common_type fit is_signed mixed_type promoted rank size_of unsigned_of binary_value
    shift_amount unary_value constant_in constant_of greatest_of suffix_of typed types_of bytes_of_literal character_value
    characters_of escaped literal_step next_character extent_of array_size member_offsets structure_of union_of room
    is_valid_program constant_word binary assigned cast row_of comma combined unary dereferenced indexed size_of_words
    assignment compound stepped condition conditional switch_value called called_through routine_words composite judged
    start reached reached_by reached_in element_number member_number number_behind part closed opened with_literal
    with_value without first_not_constant typed_unit
parameter_is_incomplete = refl

-- int n;int a[
-- n];int main(void){return 0;}
no_size :
    (source ((s.declaration (declaration (t.specifiers (word keyword.Int 1) t.no_specifiers) (Some (declarators
    (init_declarator (t.named (spelled (codes "n") 1)) None) [])) (at 1))) ∷ (s.declaration (declaration (t.specifiers
    (word keyword.Int 1) t.no_specifiers) (Some (declarators (init_declarator (t.array (t.named (spelled (codes "a")
    1)) (at 1) (t.identifier (spelled (codes "n") 2)) (at 2)) None) [])) (at 2))) ∷ (s.definition (t.specifiers (word
    keyword.Int 2) t.no_specifiers) (t.function (t.named (spelled (codes "main") 2)) (at 2) (t.void_parameters (at 2))
    (at 2)) (s.block (at 2) (s.items (s.inner (s.return (at 2) (Some (t.integer (spelled (codes "0") 2))) (at 2)))
    s.no_items) (at 2))) ∷ []) 2)
    ≡ refused rule.NoConstant 1
unfolding balanced_type common_type fit is_signed mixed_type promoted rank size_of unsigned_of binary_value
    shift_amount unary_value constant_in constant_of greatest_of suffix_of typed types_of bytes_of_literal character_value
    characters_of escaped literal_step next_character extent_of array_size member_offsets structure_of union_of room
    is_valid_program constant_word binary assigned cast row_of comma combined unary dereferenced indexed size_of_words
    assignment compound stepped condition conditional switch_value called called_through routine_words composite judged
    start reached reached_by reached_in element_number member_number number_behind part closed opened with_literal
    with_value without first_not_constant typed_unit
no_size = refl

-- char a[4294967297];int main(void){return 0;}
large_array :
    (source ((s.declaration (declaration (t.specifiers (word keyword.Char 1) t.no_specifiers) (Some (declarators
    (init_declarator (t.array (t.named (spelled (codes "a") 1)) (at 1) (t.integer (spelled (codes "4294967297") 1))
    (at 1)) None) [])) (at 1))) ∷ (s.definition (t.specifiers (word keyword.Int 1) t.no_specifiers) (t.function
    (t.named (spelled (codes "main") 1)) (at 1) (t.void_parameters (at 1)) (at 1)) (s.block (at 1) (s.items (s.inner
    (s.return (at 1) (Some (t.integer (spelled (codes "0") 1))) (at 1))) s.no_items) (at 1))) ∷ []) 1)
    ≡ refused rule.LargeType 1
unfolding balanced_type common_type fit is_signed mixed_type promoted rank size_of unsigned_of binary_value
    shift_amount unary_value constant_in constant_of greatest_of suffix_of typed types_of bytes_of_literal character_value
    characters_of escaped literal_step next_character extent_of array_size member_offsets structure_of union_of room
    is_valid_program constant_word binary assigned cast row_of comma combined unary dereferenced indexed size_of_words
    assignment compound stepped condition conditional switch_value called called_through routine_words composite judged
    start reached reached_by reached_in element_number member_number number_behind part closed opened with_literal
    with_value without first_not_constant typed_unit
large_array = refl

-- auto
-- int x;int main(void){return 0;}
auto_in_a_file :
    (source ((s.declaration (declaration (t.specifiers (word keyword.Auto 1) (t.specifiers (word keyword.Int 2)
    t.no_specifiers)) (Some (declarators (init_declarator (t.named (spelled (codes "x") 2)) None) [])) (at 2))) ∷
    (s.definition (t.specifiers (word keyword.Int 2) t.no_specifiers) (t.function (t.named (spelled (codes "main") 2))
    (at 2) (t.void_parameters (at 2)) (at 2)) (s.block (at 2) (s.items (s.inner (s.return (at 2) (Some (t.integer
    (spelled (codes "0") 2))) (at 2))) s.no_items) (at 2))) ∷ []) 2)
    ≡ refused rule.MisplacedStorage 1
unfolding balanced_type common_type fit is_signed mixed_type promoted rank size_of unsigned_of binary_value
    shift_amount unary_value constant_in constant_of greatest_of suffix_of typed types_of bytes_of_literal character_value
    characters_of escaped literal_step next_character extent_of array_size member_offsets structure_of union_of room
    is_valid_program constant_word binary assigned cast row_of comma combined unary dereferenced indexed size_of_words
    assignment compound stepped condition conditional switch_value called called_through routine_words composite judged
    start reached reached_by reached_in element_number member_number number_behind part closed opened with_literal
    with_value without first_not_constant typed_unit
auto_in_a_file = refl

-- static extern
-- int x;int main(void){return 0;}
two_storages :
    (source ((s.declaration (declaration (t.specifiers (word keyword.Static 1) (t.specifiers (word keyword.Extern 1)
    (t.specifiers (word keyword.Int 2) t.no_specifiers))) (Some (declarators (init_declarator (t.named (spelled (codes
    "x") 2)) None) [])) (at 2))) ∷ (s.definition (t.specifiers (word keyword.Int 2) t.no_specifiers) (t.function
    (t.named (spelled (codes "main") 2)) (at 2) (t.void_parameters (at 2)) (at 2)) (s.block (at 2) (s.items (s.inner
    (s.return (at 2) (Some (t.integer (spelled (codes "0") 2))) (at 2))) s.no_items) (at 2))) ∷ []) 2)
    ≡ refused rule.MisplacedStorage 1
unfolding balanced_type common_type fit is_signed mixed_type promoted rank size_of unsigned_of binary_value
    shift_amount unary_value constant_in constant_of greatest_of suffix_of typed types_of bytes_of_literal character_value
    characters_of escaped literal_step next_character extent_of array_size member_offsets structure_of union_of room
    is_valid_program constant_word binary assigned cast row_of comma combined unary dereferenced indexed size_of_words
    assignment compound stepped condition conditional switch_value called called_through routine_words composite judged
    start reached reached_by reached_in element_number member_number number_behind part closed opened with_literal
    with_value without first_not_constant typed_unit
two_storages = refl

-- extern int
-- x;int main(void){return 0;}
extern_undefined :
    (source ((s.declaration (declaration (t.specifiers (word keyword.Extern 1) (t.specifiers (word keyword.Int 1)
    t.no_specifiers)) (Some (declarators (init_declarator (t.named (spelled (codes "x") 2)) None) [])) (at 2))) ∷
    (s.definition (t.specifiers (word keyword.Int 2) t.no_specifiers) (t.function (t.named (spelled (codes "main") 2))
    (at 2) (t.void_parameters (at 2)) (at 2)) (s.block (at 2) (s.items (s.inner (s.return (at 2) (Some (t.integer
    (spelled (codes "0") 2))) (at 2))) s.no_items) (at 2))) ∷ []) 2)
    ≡ refused rule.MisplacedStorage 2
unfolding balanced_type common_type fit is_signed mixed_type promoted rank size_of unsigned_of binary_value
    shift_amount unary_value constant_in constant_of greatest_of suffix_of typed types_of bytes_of_literal character_value
    characters_of escaped literal_step next_character extent_of array_size member_offsets structure_of union_of room
    is_valid_program constant_word binary assigned cast row_of comma combined unary dereferenced indexed size_of_words
    assignment compound stepped condition conditional switch_value called called_through routine_words composite judged
    start reached reached_by reached_in element_number member_number number_behind part closed opened with_literal
    with_value without first_not_constant typed_unit
extern_undefined = refl

-- int x;int main(void){extern int x=
-- 1;return 0;}
extern_with_initializer :
    (source ((s.declaration (declaration (t.specifiers (word keyword.Int 1) t.no_specifiers) (Some (declarators
    (init_declarator (t.named (spelled (codes "x") 1)) None) [])) (at 1))) ∷ (s.definition (t.specifiers (word
    keyword.Int 1) t.no_specifiers) (t.function (t.named (spelled (codes "main") 1)) (at 1) (t.void_parameters (at 1))
    (at 1)) (s.block (at 1) (s.items (s.local (declaration (t.specifiers (word keyword.Extern 1) (t.specifiers (word
    keyword.Int 1) t.no_specifiers)) (Some (declarators (init_declarator (t.named (spelled (codes "x") 1)) (Some (
      (at
          1),
      (t.value (t.integer (spelled (codes "1") 2))),
    ))) [])) (at 2))) (s.items (s.inner (s.return (at 2) (Some
    (t.integer (spelled (codes "0") 2))) (at 2))) s.no_items)) (at 2))) ∷ []) 2)
    ≡ refused rule.MisplacedStorage 2
unfolding balanced_type common_type fit is_signed mixed_type promoted rank size_of unsigned_of binary_value
    shift_amount unary_value constant_in constant_of greatest_of suffix_of typed types_of bytes_of_literal character_value
    characters_of escaped literal_step next_character extent_of array_size member_offsets structure_of union_of room
    is_valid_program constant_word binary assigned cast row_of comma combined unary dereferenced indexed size_of_words
    assignment compound stepped condition conditional switch_value called called_through routine_words composite judged
    start reached reached_by reached_in element_number member_number number_behind part closed opened with_literal
    with_value without first_not_constant typed_unit
extern_with_initializer = refl

-- typedef int T=
-- 1;int main(void){return 0;}
typedef_with_initializer :
    (source ((s.declaration (declaration (t.specifiers (word keyword.Typedef 1) (t.specifiers (word keyword.Int 1)
    t.no_specifiers)) (Some (declarators (init_declarator (t.named (spelled (codes "T") 1)) (Some (
      (at 1),
      (t.value
          (t.integer (spelled (codes "1") 2))),
    ))) [])) (at 2))) ∷ (s.definition (t.specifiers (word keyword.Int 2)
    t.no_specifiers) (t.function (t.named (spelled (codes "main") 2)) (at 2) (t.void_parameters (at 2)) (at 2))
    (s.block (at 2) (s.items (s.inner (s.return (at 2) (Some (t.integer (spelled (codes "0") 2))) (at 2))) s.no_items)
    (at 2))) ∷ []) 2)
    ≡ refused rule.MisplacedStorage 2
unfolding balanced_type common_type fit is_signed mixed_type promoted rank size_of unsigned_of binary_value
    shift_amount unary_value constant_in constant_of greatest_of suffix_of typed types_of bytes_of_literal character_value
    characters_of escaped literal_step next_character extent_of array_size member_offsets structure_of union_of room
    is_valid_program constant_word binary assigned cast row_of comma combined unary dereferenced indexed size_of_words
    assignment compound stepped condition conditional switch_value called called_through routine_words composite judged
    start reached reached_by reached_in element_number member_number number_behind part closed opened with_literal
    with_value without first_not_constant typed_unit
typedef_with_initializer = refl

-- int main(void){
-- static
-- int g(void);return 0;}
static_function_in_a_block :
    (source ((s.definition (t.specifiers (word keyword.Int 1) t.no_specifiers) (t.function (t.named (spelled (codes
    "main") 1)) (at 1) (t.void_parameters (at 1)) (at 1)) (s.block (at 1) (s.items (s.local (declaration (t.specifiers
    (word keyword.Static 2) (t.specifiers (word keyword.Int 3) t.no_specifiers)) (Some (declarators (init_declarator
    (t.function (t.named (spelled (codes "g") 3)) (at 3) (t.void_parameters (at 3)) (at 3)) None) [])) (at 3)))
    (s.items (s.inner (s.return (at 3) (Some (t.integer (spelled (codes "0") 3))) (at 3))) s.no_items)) (at 3))) ∷ [])
    3)
    ≡ refused rule.MisplacedStorage 2
unfolding balanced_type common_type fit is_signed mixed_type promoted rank size_of unsigned_of binary_value
    shift_amount unary_value constant_in constant_of greatest_of suffix_of typed types_of bytes_of_literal character_value
    characters_of escaped literal_step next_character extent_of array_size member_offsets structure_of union_of room
    is_valid_program constant_word binary assigned cast row_of comma combined unary dereferenced indexed size_of_words
    assignment compound stepped condition conditional switch_value called called_through routine_words composite judged
    start reached reached_by reached_in element_number member_number number_behind part closed opened with_literal
    with_value without first_not_constant typed_unit
static_function_in_a_block = refl

-- typedef
-- int f(void){return 0;}int main(void){return 0;}
typedef_of_a_definition :
    (source ((s.definition (t.specifiers (word keyword.Typedef 1) (t.specifiers (word keyword.Int 2) t.no_specifiers))
    (t.function (t.named (spelled (codes "f") 2)) (at 2) (t.void_parameters (at 2)) (at 2)) (s.block (at 2) (s.items
    (s.inner (s.return (at 2) (Some (t.integer (spelled (codes "0") 2))) (at 2))) s.no_items) (at 2))) ∷ (s.definition
    (t.specifiers (word keyword.Int 2) t.no_specifiers) (t.function (t.named (spelled (codes "main") 2)) (at 2)
    (t.void_parameters (at 2)) (at 2)) (s.block (at 2) (s.items (s.inner (s.return (at 2) (Some (t.integer (spelled
    (codes "0") 2))) (at 2))) s.no_items) (at 2))) ∷ []) 2)
    ≡ refused rule.MisplacedStorage 1
unfolding balanced_type common_type fit is_signed mixed_type promoted rank size_of unsigned_of binary_value
    shift_amount unary_value constant_in constant_of greatest_of suffix_of typed types_of bytes_of_literal character_value
    characters_of escaped literal_step next_character extent_of array_size member_offsets structure_of union_of room
    is_valid_program constant_word binary assigned cast row_of comma combined unary dereferenced indexed size_of_words
    assignment compound stepped condition conditional switch_value called called_through routine_words composite judged
    start reached reached_by reached_in element_number member_number number_behind part closed opened with_literal
    with_value without first_not_constant typed_unit
typedef_of_a_definition = refl

-- int main(void){for(
-- static int i=0;;);}
static_in_a_for :
    (source ((s.definition (t.specifiers (word keyword.Int 1) t.no_specifiers) (t.function (t.named (spelled (codes
    "main") 1)) (at 1) (t.void_parameters (at 1)) (at 1)) (s.block (at 1) (s.items (s.inner (s.for (at 1) (at 1)
    (s.declares (declaration (t.specifiers (word keyword.Static 2) (t.specifiers (word keyword.Int 2)
    t.no_specifiers)) (Some (declarators (init_declarator (t.named (spelled (codes "i") 2)) (Some (
      (at 2),
      (t.value
          (t.integer (spelled (codes "0") 2))),
    ))) [])) (at 2))) None (at 2) None (at 2) (s.expression None (at 2))))
    s.no_items) (at 2))) ∷ []) 2)
    ≡ refused rule.MisplacedStorage 2
unfolding balanced_type common_type fit is_signed mixed_type promoted rank size_of unsigned_of binary_value
    shift_amount unary_value constant_in constant_of greatest_of suffix_of typed types_of bytes_of_literal character_value
    characters_of escaped literal_step next_character extent_of array_size member_offsets structure_of union_of room
    is_valid_program constant_word binary assigned cast row_of comma combined unary dereferenced indexed size_of_words
    assignment compound stepped condition conditional switch_value called called_through routine_words composite judged
    start reached reached_by reached_in element_number member_number number_behind part closed opened with_literal
    with_value without first_not_constant typed_unit
static_in_a_for = refl

-- int main(void){for(
-- int f(void);;);}
function_in_a_for :
    (source ((s.definition (t.specifiers (word keyword.Int 1) t.no_specifiers) (t.function (t.named (spelled (codes
    "main") 1)) (at 1) (t.void_parameters (at 1)) (at 1)) (s.block (at 1) (s.items (s.inner (s.for (at 1) (at 1)
    (s.declares (declaration (t.specifiers (word keyword.Int 2) t.no_specifiers) (Some (declarators (init_declarator
    (t.function (t.named (spelled (codes "f") 2)) (at 2) (t.void_parameters (at 2)) (at 2)) None) [])) (at 2))) None
    (at 2) None (at 2) (s.expression None (at 2)))) s.no_items) (at 2))) ∷ []) 2)
    ≡ refused rule.MisplacedStorage 2
unfolding balanced_type common_type fit is_signed mixed_type promoted rank size_of unsigned_of binary_value
    shift_amount unary_value constant_in constant_of greatest_of suffix_of typed types_of bytes_of_literal character_value
    characters_of escaped literal_step next_character extent_of array_size member_offsets structure_of union_of room
    is_valid_program constant_word binary assigned cast row_of comma combined unary dereferenced indexed size_of_words
    assignment compound stepped condition conditional switch_value called called_through routine_words composite judged
    start reached reached_by reached_in element_number member_number number_behind part closed opened with_literal
    with_value without first_not_constant typed_unit
function_in_a_for = refl
