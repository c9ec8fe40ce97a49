-- Parts of readers, and lists as the code has them, for the contracts of functions that read.
use Rattle.std.specs.Prelude.{ℕ, Bool, ◌&&◌, nat_le, nat_lt, List, [], ◌∷◌, map, Ok, Err, Option, Some, None}
use Rattle.c_lexer.specs.declared.keyword.Keyword.TheVariants as k
use Rattle.c_lexer.specs.declared.punctuator.Punctuator.{Punctuator}
use Rattle.c_lexer.specs.declared.punctuator.Punctuator.TheVariants as p
use Rattle.c_syntax.specs.declared.position.Position.{Position}
use Rattle.c_syntax.specs.declared.tree.Declarator as rd
use Rattle.c_syntax.specs.declared.tree.Enumerator as re
use Rattle.c_syntax.specs.declared.tree.Expression as rx
use Rattle.c_syntax.specs.declared.tree.Specifier as rs
use Rattle.c_syntax.specs.declared.tree.TypedDeclarator as rt
use Rattle.c_syntax.specs.Tree.{Expression, Specifiers, TypedDeclarator, MoreParameters, Declarator, Specifier}
use Rattle.c_syntax.specs.Tree.{Enumerator}
use Rattle.c_syntax.specs.Tree as t
use Rattle.c_syntax.specs.Levels.{more_arguments_levels, more_parameters_levels, more_declarators_levels}
use Rattle.c_syntax.specs.Levels.{more_enumerators_levels}
use Rattle.c_syntax.specs.View.{expression_of, specifier_of, typed_of, declarator_of, enumerator_of, behind_comma}
use Rattle.c_syntax.specs.View.{more_arguments_of, more_parameters_of, more_declarators_of, more_enumerators_of}
use Rattle.c_syntax.specs.Words.{Words}
use Rattle.c_syntax.specs.Formed.{operand_precedence, precedence}
use Rattle.c_grammar.specs.Reader.{Outcome, ◌>>=◌, next_is, expect}
use Rattle.c_grammar.specs.ExpressionReader.{binds, needs, operation_by}
use Rattle.c_grammar.specs.Readers.{Readers, typed_from}
use Rattle.c_grammar.specs.declared.declarator_kind.DeclaratorKind.TheVariants as kind
use Rattle.c_grammar.specs.DeclaratorReader.{suffix_from}
use Rattle.c_grammar.specs.SpecifierReader.{specifier_by}

-- behind a unary operator (C99 6.5.3)
abbrev pub unary_from : Readers → Punctuator → Position → Words → Outcome Expression
unary_from deeper x at i = deeper.expression None (operand_precedence x) i >>= λ e i. Ok (t.unary x at e, i)

-- behind `sizeof (`, where it is a type name (C99 6.5.3.4)
abbrev pub sizeof_type_from : Readers → Position → Position → Words → Outcome Expression
sizeof_type_from deeper at l i = typed_from deeper kind.Abstract i >>= λ x i. expect p.RightParenthesis i
    >>= λ r i. Ok (t.sizeof_type at l x r, i)

-- an operation on this operand, whose first word is next
abbrev pub operation_next : List (List ℕ) → Readers → ℕ → Expression → Words → Outcome Expression
operation_next names deeper levels l [] = Err []
operation_next names deeper levels l (first ∷ i) = operation_by names deeper levels l first.kind first.position i

-- the next word goes on with this operand, of which the levels are told
abbrev pub operation_is_next : ℕ → ℕ → Expression → ℕ → Words → Bool
operation_is_next levels m l said i = next_is (λ w. nat_le m (binds w) &&
    (nat_le (needs w) (precedence l) && nat_lt said levels)) i

-- arguments behind commas
abbrev pub arguments_behind : List (Position × rx.Expression) → List (Position × Expression)
arguments_behind z = map (behind_comma expression_of) z

abbrev pub arguments_behind_levels : List (Position × Expression) → ℕ
arguments_behind_levels z = more_arguments_levels (more_arguments_of z)

-- the position of the word `void`
abbrev pub void_word : Specifier → Option Position
void_word (t.keyword k.Void at) = Some at
void_word _ = None

-- the position of the word `void` where it is the only specifier
abbrev pub void_alone : Specifiers → Option Position
void_alone (t.specifiers x t.no_specifiers) = void_word x
void_alone _ = None

-- the position of the word `void` where it is the whole parameter
abbrev pub void_parameter : TypedDeclarator → Option Position
void_parameter (t.typed z t.unnamed) = void_alone z
void_parameter _ = None

-- the position of the word `void` where it is all that stands between the parentheses (C99 6.7.5.3)
abbrev pub lone_void : TypedDeclarator → MoreParameters → Option Position
lone_void x t.end_of_parameters = void_parameter x
lone_void x _ = None

-- parameters behind commas
abbrev pub parameters_behind : List (Position × rt.TypedDeclarator) → List (Position × TypedDeclarator)
parameters_behind z = map (behind_comma typed_of) z

abbrev pub parameters_behind_levels : List (Position × TypedDeclarator) → ℕ
parameters_behind_levels z = more_parameters_levels (more_parameters_of z)

-- declarators behind commas
abbrev pub declarators_behind : List (Position × rd.Declarator) → List (Position × Declarator)
declarators_behind z = map (behind_comma declarator_of) z

abbrev pub declarators_behind_levels : List (Position × Declarator) → ℕ
declarators_behind_levels z = more_declarators_levels (more_declarators_of z)

-- enumerators behind commas, and a last comma
abbrev pub enumerators_behind : List (Position × re.Enumerator) × Option Position
    → List (Position × Enumerator) × Option Position
enumerators_behind z = (map (behind_comma enumerator_of) z.0, z.1)

abbrev pub enumerators_behind_levels : List (Position × Enumerator) × Option Position → ℕ
enumerators_behind_levels z = more_enumerators_levels (more_enumerators_of z.0)

-- a specifier that begins with the next word
abbrev pub specifier_next : List (List ℕ) → Readers → ℕ → Words → Outcome Specifier
specifier_next names deeper levels [] = Err []
specifier_next names deeper levels (first ∷ i) = specifier_by names deeper levels first.kind first.position i

-- a suffix that begins with the next word
abbrev pub suffix_next : List (List ℕ) → Readers → ℕ → Declarator → Words → Outcome Declarator
suffix_next names deeper levels e [] = Err []
suffix_next names deeper levels e (first ∷ i) = suffix_from names deeper levels e first.kind first.position i

-- the code's specifiers, and then others
abbrev pub specifiers_before : List rs.Specifier → Specifiers → Specifiers
specifiers_before [] z = z
specifiers_before (x ∷ xs) z = t.specifiers (specifier_of x) (specifiers_before xs z)

-- the code's specifiers, and then what is read
abbrev pub specifiers_extending : List rs.Specifier → Outcome Specifiers → Outcome Specifiers
specifiers_extending xs o = o >>= λ z i. Ok (specifiers_before xs z, i)
