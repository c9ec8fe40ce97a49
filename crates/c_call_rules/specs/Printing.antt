-- Calls of `printf` (C99 7.19.6.1).
use Rattle.std.specs.Prelude.{ℕ, Bool, true, false, not, ◌&&◌, ◌||◌, ◌==◌, if◌then◌else◌, List, [], ◌∷◌, ◌++◌, Option}
use Rattle.std.specs.Prelude.{Some, None, Ok, option_map}
use Rattle.obj_memory.specs.declared.int_type.IntType.TheVariants.{Char, Int}
use Rattle.obj_memory.specs.Integers.{rank, promoted}
use Rattle.c_tree.specs.declared.c_type.TypeWord.{TypeWord}
use Rattle.c_tree.specs.declared.c_type.TypeWord.TheVariants as word
use Rattle.c_tree.specs.declared.expression.Kind.{Kind}
use Rattle.c_tree.specs.declared.format.Directive.{Directive}
use Rattle.c_tree.specs.declared.format.Directive.TheVariants as directive
use Rattle.c_tree.specs.Extents.{TypeExtent}
use Rattle.c_tree.specs.Format.{pieces, directives}
use Rattle.c_tree.specs.Kinds.{integer, pointer, fits_directive}
use Rattle.c_tree.specs.Tree.{Expression, expression, expressions_in, printf as printf_node}
use Rattle.c_rules.specs.declared.class.Class.{Class}
use Rattle.c_rules.specs.declared.class.Class.TheVariants as class
use Rattle.c_faults.specs.declared.fault.Rule.TheVariants.{ArgumentCount, MistakenFormat}
use Rattle.c_faults.specs.Answer.{Answer, violates, ◌>>=◌}
use Rattle.c_rules.specs.Types.{class_of}
use Rattle.c_rules.specs.Values.{Value, value_of, integer_words, converted}
use Rattle.c_rules.specs.Conversions.{assigned}
use Rattle.c_call_rules.specs.declared.printing.Format as code

-- the first argument: the bytes of a string literal, or another value
pub data Format : Type 0 where
  a_literal : List ℕ → Format
  another : Value → Format

abbrev pub format_of : code.Format → Format
format_of (code.TheVariants.Literal bytes) = a_literal bytes.items
format_of (code.TheVariants.Other v) = another (value_of v)

-- what `%s` prints: a pointer to characters or to void
abbrev pub is_text_target : List TypeWord → Bool
is_text_target (word.Void ∷ behind) = true
is_text_target (word.Integer t ∷ behind) = rank t == 1
is_text_target (word.Const ∷ type) = is_text_target type
is_text_target type = false

abbrev pub is_text : List TypeWord → Bool
is_text (word.Pointer ∷ target) = is_text_target target
is_text type = false

abbrev pub takes_text : Directive → Bool
takes_text directive.String = true
takes_text d = false

-- the kind of an argument, which is promoted (6.5.2.2 paragraph 7)
abbrev pub promoted_kind : Class → Option Kind
promoted_kind (class.Integer t) = Some (integer (promoted t))
promoted_kind (class.Pointer to) = Some pointer
promoted_kind class.Other = None

abbrev pub fits : Directive → Kind → List TypeWord → Bool
fits d k type = fits_directive d k && (not (takes_text d) || is_text type)

abbrev pub printed_as : (line : ℕ) → Directive → Option Kind → Value → Answer Expression
printed_as line d None a = violates MistakenFormat line
printed_as line d (Some k) a = if fits d k a.type then Ok (converted k a.tree) else violates MistakenFormat line

-- an argument of the first of some directives, behind those before it
abbrev pub one_printed : List (Option TypeExtent) → (line : ℕ) → List Directive → (before : List Expression) → Value
    → Answer (List Expression)
one_printed structures line [] before a = violates MistakenFormat line
one_printed structures line (d ∷ ds) before a =
    printed_as line d (promoted_kind (class_of structures a.type)) a >>= λ e. Ok (before ++ e ∷ [])

abbrev pub behind_first : List Directive → List Directive
behind_first [] = []
behind_first (d ∷ ds) = ds

-- each directive has its argument
abbrev pub all_printed : (line : ℕ) → List Directive → List Expression → Answer (List Expression)
all_printed line [] es = Ok es
all_printed line (d ∷ ds) es = violates MistakenFormat line

abbrev pub printed : List (Option TypeExtent) → (line : ℕ) → List Directive → (before : List Expression) → List Value
    → Answer (List Expression)
printed structures line ds before [] = all_printed line ds before
printed structures line ds before (v ∷ vs) =
    one_printed structures line ds before v >>= λ es. printed structures line (behind_first ds) es vs

-- the directives of a format, where it has no others
abbrev pub directives_in : List ℕ → Option (List Directive)
directives_in bytes = option_map directives (pieces bytes)

abbrev pub printf_tree : (line : ℕ) → List ℕ → List Expression → Expression
printf_tree line bytes es = expression (integer Int) line (printf_node bytes (expressions_in es))

abbrev pub printed_by : List (Option TypeExtent) → (line : ℕ) → List ℕ → Option (List Directive) → List Value
    → Answer Value
printed_by structures line bytes None vs = violates MistakenFormat line
printed_by structures line bytes (Some ds) vs =
    printed structures line ds [] vs >>= λ es.
    Ok (record { type = integer_words Int; tree = printf_tree line bytes es })

-- a format that is no literal is judged as an argument first
abbrev pub no_literal : List (Option TypeExtent) → (line : ℕ) → Value → Answer Value
no_literal structures line v =
    assigned structures line (word.Pointer ∷ word.Const ∷ word.Integer Char ∷ []) v >>= λ e.
    violates MistakenFormat line

abbrev pub formatted : List (Option TypeExtent) → (line : ℕ) → Option Format → List Value → Answer Value
formatted structures line None vs = violates ArgumentCount line
formatted structures line (Some (another v)) vs = no_literal structures line v
formatted structures line (Some (a_literal bytes)) vs =
    printed_by structures line bytes (directives_in bytes) vs
