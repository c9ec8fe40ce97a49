-- Constructs whose parts are typed, as the recursion over the syntax puts them together.
use Rattle.std.specs.Prelude.{ℕ, Bool, true, false, if◌then◌else◌, List, [], ◌∷◌, Option, Some, None, Ok, map}
use Rattle.std.specs.Prelude.{option_map}
use Rattle.c_lexer.specs.declared.punctuator.Punctuator.{Punctuator}
use Rattle.c_lexer.specs.declared.punctuator.Punctuator.TheVariants as sign
use Rattle.c_syntax.specs.declared.position.Position.{Position}
use Rattle.c_syntax.specs.declared.position.Spelled.{Spelled}
use Rattle.c_syntax.specs.Tree.{Expression, Specifiers, identifier, strings}
use Rattle.c_tree.specs.declared.c_type.TypeWord.{TypeWord}
use Rattle.c_tree.specs.declared.expression.Fixity.TheVariants as fixity
use Rattle.c_faults.specs.declared.fault.Rule.TheVariants.{Operands}
use Rattle.c_faults.specs.Answer.{Answer, violates, ◌>>=◌}
use Rattle.c_rules.specs.Conversions.{cast}
use Rattle.c_rules.specs.Values.{Value, value_of}
use Rattle.c_place_rules.specs.Operands.{Operand, a_value}
use Rattle.c_place_rules.specs.Places.{size_of}
use Rattle.c_condition_rules.specs.Conditions.{conditional}
use Rattle.c_call_rules.specs.Printing.{Format, a_literal, another, format_of}
use Rattle.c_scope.specs.declared.meaning.Tag.{Tag}
use Rattle.c_scope.specs.declared.tags.TagKind.{TagKind}
use Rattle.c_scope.specs.Enumerators.{enumerated}
use Rattle.c_scope.specs.Names.{Name}
use Rattle.c_scope.specs.Tags.{begins, tagged}
use Rattle.c_operand_typing.specs.declared.forms.PrefixForm.{PrefixForm}
use Rattle.c_operand_typing.specs.declared.forms.PrefixForm.TheVariants as form
use Rattle.c_operand_typing.specs.Calls.{Called, a_printf, applied, name_called, pointer_called}
use Rattle.c_operand_typing.specs.Calls.{printed}
use Rattle.c_operand_typing.specs.Operators.{addressed, arrowed, as_operand, as_value, dotted, stepped_by, unary_value}
use Rattle.c_operand_typing.specs.Primaries.{spelled_bytes}
use Rattle.c_declarator_typing.specs.Declarators.{Shape}
use Rattle.c_declarator_typing.specs.Members.{Entries, member_added}
use Rattle.c_declarator_typing.specs.Sizes.{next_value}
use Rattle.c_declarator_typing.specs.Specifications.{Gathered, Specification, specified}
use Rattle.c_typing_state.specs.State.{State, Typing, done, extents, judged, ◌>>>◌}
use Rattle.c_expression_typing.specs.declared.constructs.Printing as code_printing
use Rattle.c_expression_typing.specs.Lines.{first_line, name_of, spellings}

abbrev pub valued : Typing Operand → Typing Value
valued operand = operand >>> as_value

-- a unary operator, or `&`, `++` or `--`, before its operand
abbrev pub prefixed : (is_evaluated : Bool) → PrefixForm → (line : ℕ) → Operand → Typing Operand
prefixed is form.Address line o = addressed is line o >>> λ v. done (a_value v)
prefixed is (form.Step op) line o = judged (stepped_by (form.Step op) fixity.Prefix line o)
prefixed is f line o = as_value o >>> λ v. judged (unary_value f line v)

-- `.` or `->`
abbrev pub accessed : Punctuator → (line : ℕ) → Name → Operand → Typing Operand
accessed sign.Dot line name o = judged (dotted line name o)
accessed sign.Arrow line name o = as_value o >>> λ v. judged (arrowed line name v)
accessed w line name o = judged (λ s. violates Operands line)

-- whether there is a word `const` behind a `*`
abbrev pub has_words : List Position → Bool
has_words [] = false
has_words (at ∷ more) = true

abbrev pub sized : (line : ℕ) → (type : List TypeWord) → State → Answer Operand
sized line type s = as_operand (size_of (extents s) line type)

abbrev pub cast_to : (line : ℕ) → (type : List TypeWord) → Value → State → Answer Operand
cast_to line type v s = as_operand (cast (extents s) line type v)

abbrev pub chosen : (line : ℕ) → Value → Value → Value → State → Answer Operand
chosen line x y z s = as_operand (conditional (extents s) line x y z)

-- what stands before the `(` of a call: a plain name, or an operand

abbrev pub plain_name : Expression → Option Spelled
plain_name (identifier x) = Some x
plain_name e = None

abbrev pub called_by : (is_evaluated : Bool) → (name : Option Spelled) → (operand : Typing Operand) → Typing Called
called_by is (Some x) operand = name_called is (name_of x) x.position.line
called_by is None operand = operand >>> λ o. judged (pointer_called o)

-- the first argument of a `printf`: a string literal alone, or a value

abbrev pub literal_alone : Expression → Option (List Name)
literal_alone (strings x more) = Some (spellings x more)
literal_alone e = None

abbrev pub format_by : (literal : Option (List Name)) → (operand : Typing Operand) → Typing Format
format_by (Some names) operand = done (a_literal (spelled_bytes names))
format_by None operand = valued operand >>> λ v. done (another v)

-- the arguments of a `printf`
pub record Printing : Type 0 where
  pub format : Option Format
  pub values : List Value

abbrev pub printing_of : code_printing.Printing → Printing
printing_of p = record { format = option_map format_of p.format; values = map value_of p.values.items }

abbrev pub is_printf : Called → Bool
is_printf a_printf = true
is_printf c = false

abbrev pub applied_to : (line : ℕ) → (values : Typing (List Value)) → (printing : Typing Printing) → Called
    → Typing Operand
applied_to line values printing c =
    if is_printf c then printing >>> (λ p. judged (printed line p.format p.values))
    else values >>> (λ vs. applied line c vs)

-- tags and enumerators in the environment

abbrev pub tagged_as : (is_alone : Bool) → TagKind → Name → (line : ℕ) → Typing Tag
tagged_as is_alone k name line s =
    tagged is_alone k name line s.environment >>= λ r. Ok (record s { environment = r.0 }, r.1)

abbrev pub begun_as : TagKind → Option Name → (line : ℕ) → Typing Tag
begun_as k name line s = begins k name line s.environment >>= λ r. Ok (record s { environment = r.0 }, r.1)

-- an enumerator, and the value of the next one that has none of its own
abbrev pub enumerated_as : Name → (line : ℕ) → (value : Option ℕ) → Typing (Option ℕ)
enumerated_as name line value s =
    enumerated name line value s.environment >>= λ env. Ok (record s { environment = env }, next_value value)

-- what specifiers say, of which the first stands on its line
abbrev pub specified_by : Specifiers → Typing Gathered → Typing Specification
specified_by specs gathered = gathered >>> λ g. done (specified (first_line specs) g)

-- members with what a declarator adds
abbrev pub with_shape : Specification → (before : Entries) → Typing Shape → Typing Entries
with_shape spec es shape = shape >>> λ sh. judged (member_added spec sh es)
