-- Parts of expressions, declarators and specifiers whose violations are in the order of the tokens.
use Rattle.std.proofs.Common.{◌≡◌, ℕ, ◌≤◌, suc, Bool, true, false, List, [], ◌∷◌, Option, Some, None, arith}
use Rattle.std.proofs.Common.{if◌then◌else◌}
use Rattle.c_syntax.specs.declared.position.Position.{Position}
use Rattle.c_syntax.specs.declared.position.Spelled.{Spelled}
use Rattle.c_syntax.specs.Formed.{has_name}
use Rattle.c_syntax.specs.Formed.{names_one_type}
use Rattle.c_syntax.specs.Tree.{Expression, Arguments, Declarator}
use Rattle.c_syntax.specs.Tree.{Specifiers, Specifier}
use Rattle.c_syntax.specs.Words.{Words, comma_words, const_words}
use Rattle.c_syntax.specs.Words.{strings_words, tag_words}
use Rattle.c_rules.specs.Values.{Value}
use Rattle.c_call_rules.specs.Printing.{another}
use Rattle.c_place_rules.specs.Operands.{Operand}
use Rattle.c_scope.specs.Names.{Name}
use Rattle.c_scope.specs.Parameters.{parameters_in, without_parameters}
use Rattle.c_operand_typing.specs.Calls.{Called, applied, name_called, pointer_called, printed}
use Rattle.c_declarator_typing.specs.Declarators.{Shape}
use Rattle.c_declarator_typing.specs.Members.{Entries, member_added}
use Rattle.c_operand_typing.specs.Operators.{as_value}
use Rattle.c_declarator_typing.specs.Specifications.{Gathered, Specification, nothing_gathered, specified}
use Rattle.c_typing_state.specs.State.{State, judged}
use Rattle.c_expression_typing.specs.Constructs.{Printing}
use Rattle.c_expression_typing.specs.Constructs.{is_printf}
use Rattle.c_expression_typing.specs.Lines.{first_line, name_of}
use Rattle.typing_laws.specs.Violations.Expressions.{applied_to, argument_values, callee}
use Rattle.typing_laws.specs.Violations.Expressions.{first_token, format, gathered, in_scope, member}
use Rattle.typing_laws.specs.Violations.Expressions.{name_token}
use Rattle.typing_laws.specs.Violations.Expressions.{operand, printed_values}
use Rattle.typing_laws.specs.Violations.Expressions.{scoped, shape, specification, specifier, specifier_token, token_of}
use Rattle.typing_laws.specs.Violations.Expressions.{valued}
use Rattle.typing_laws.specs.Violations.Initializers.{first_of_expression}
use Rattle.typing_laws.specs.Violations.Judgements.{Judging, adding_rule, followed}
use Rattle.typing_laws.specs.Violations.Judgements.{given, rule_at, with_second}
use Rattle.typing_laws.specs.Violations.Judgements.{◌ruled_by◌}
use Rattle.typing_laws.specs.Violations.Order.{Ascend}
use Rattle.typing_laws.proofs.Violations.Order.{Placed, Reads, along_placed, answer_placed, behind_placed}
use Rattle.typing_laws.proofs.Violations.Order.{gathered_placed}
use Rattle.typing_laws.proofs.Violations.Order.{made_placed, none_placed, ruled_placed, same_placed}
use Rattle.typing_laws.proofs.Violations.Order.{second_placed}

-- an expression that stands in the tokens from one number on, up to another
pub record ExpressionIn (e : Expression) (lo hi : ℕ) : Type 0 where
  pub judged : (is_evaluated : Bool) (s : State) → Placed lo hi (operand is_evaluated e s)
  pub low : lo ≤ token_of e
  pub high : suc (token_of e) ≤ hi
  pub first_low : lo ≤ first_of_expression e
  pub first_high : suc (first_of_expression e) ≤ hi

pub value_placed : (e : Expression) (lo hi : ℕ) → ExpressionIn e lo hi → (is : Bool) (s : State)
    → Placed lo hi (valued (token_of e) (operand is e) s)
value_placed e lo hi p is s = ruled_placed lo hi (token_of e) as_value p.low p.high (p.judged is s)

pub strings_read : (z : List Spelled) (n : ℕ) (i : Words) → Ascend n (strings_words z i) → Reads n i (λ m. Unit {0})
strings_read [] n i h = record { end = n; low = omega arith; placed = tt; rest = h }
strings_read (x ∷ z) n i h =
    let y = strings_read z (suc x.position.at) i h.1 in let a = h.0 in let b = y.low in
    record { end = y.end; low = omega arith; placed = tt; rest = y.rest }

pub consts_read : (z : List Position) (n : ℕ) (i : Words) → Ascend n (const_words z i) → Reads n i (λ m. Unit {0})
consts_read [] n i h = record { end = n; low = omega arith; placed = tt; rest = h }
consts_read (x ∷ z) n i h =
    let y = consts_read z (suc x.at) i h.1 in let a = h.0 in let b = y.low in
    record { end = y.end; low = omega arith; placed = tt; rest = y.rest }

pub tag_read : (z : Option Spelled) (n : ℕ) (i : Words) → Ascend n (tag_words z i) → Reads n i (λ m. Unit {0})
tag_read None n i h = record { end = n; low = omega arith; placed = tt; rest = h }
tag_read (Some x) n i h =
    let a = h.0 in record { end = suc x.position.at; low = omega arith; placed = tt; rest = h.1 }

pub comma_read : (z : Option Position) (n : ℕ) (i : Words) → Ascend n (comma_words z i) → Reads n i (λ m. Unit {0})
comma_read None n i h = record { end = n; low = omega arith; placed = tt; rest = h }
comma_read (Some x) n i h =
    let a = h.0 in record { end = suc x.at; low = omega arith; placed = tt; rest = h.1 }

-- an operator between two operands
pub two_placed : {A B C : Type 0} (lo m n hi at : ℕ) (j : Judging State A) (k : Judging State B)
    (rule : A × B → State → _) (s : State) → m ≤ n → lo ≤ at → suc at ≤ hi → Placed lo m (j s)
    → ((s : State) → Placed n hi (k s)) → Placed lo hi (followed (with_second (j s) k) (rule_at {B = C} at rule))
two_placed lo m n hi at j k rule s l a b p q =
    ruled_placed lo hi at rule a b (second_placed lo m n hi k l p q)

-- calls

pub callee_placed : (lo hi n : ℕ) (is : Bool) (name : Option Spelled) (e : Judging State Operand) (s : State) → lo ≤ n
    → suc n ≤ hi → Placed lo hi (e s) → Placed lo hi (callee is name n e s)
callee_placed lo hi n is (Some x) e s l h p =
    answer_placed lo hi n s (name_called is (name_of x) x.position.line s) l h
callee_placed lo hi n is None e s l h p = ruled_placed lo hi n (λ o. judged (pointer_called o)) l h p

module _ (lo hi : ℕ) (l : Position) (values : Judging State (List Value)) (printing : Judging State Printing)
    (a : lo ≤ l.at) (b : suc l.at ≤ hi) (h : (s : State) → Placed lo hi (values s))
    (g : (s : State) → Placed lo hi (printing s)) where
  applied_by : (test : Bool) (x : Called) (s : State)
      → Placed lo hi ((if test then (printing ruled_by rule_at l.at (λ p. judged (printed l.line p.format p.values)))
      else (values ruled_by rule_at l.at (applied l.line x))) s)
  applied_by true x s = ruled_placed lo hi l.at (λ p. judged (printed l.line p.format p.values)) a b (g s)
  applied_by false x s = ruled_placed lo hi l.at (applied l.line x) a b (h s)

  pub applied_placed : (x : Option Called) (s : State) → Placed lo hi (applied_to l values printing x s)
  applied_placed None s =
      behind_placed lo hi hi hi (λ vs. given None) (omega arith) (h s)
      (λ x u. none_placed hi hi u None (omega arith))
  applied_placed (Some x) s = applied_by (is_printf x) x s

pub format_placed : (lo hi n : ℕ) (literal : Option (List Name)) (e : Judging State Operand) (s : State) → lo ≤ n
    → suc n ≤ hi → Placed lo hi (e s) → Placed lo hi (format literal n e s)
format_placed lo hi n (Some names) e s l h p = none_placed lo hi s (Some _) (omega arith)
format_placed lo hi n None e s l h p = made_placed another (ruled_placed lo hi n as_value l h p)

-- specifiers are not nothing

pub not_true : (P : Type 0) → false ≡ true → P
not_true P e = cc

pub record SpecifiersIn (z : Specifiers) (lo hi : ℕ) : Type 0 where
  pub judged : (is_alone : Bool) (line : ℕ) (s : State × Gathered) → Placed lo hi (gathered is_alone line z s)
  pub first : names_one_type z ≡ true → (lo ≤ first_token z) × (suc (first_token z) ≤ hi)

pub specification_placed : (z : Specifiers) (lo hi : ℕ) → SpecifiersIn z lo hi → (is_alone : Bool) (s : State)
    → Placed lo hi (specification is_alone z s)
specification_placed z lo hi p is s =
    made_placed (specified (first_line z)) (gathered_placed (p.judged is (first_line z) (s, nothing_gathered)))

pub record DeclaratorIn (d : Declarator) (lo hi : ℕ) : Type 0 where
  pub judged : (in_definition : Bool) (s : State) → Placed lo hi (shape in_definition d s)
  pub name : (other low high : ℕ) → low ≤ lo → hi ≤ high → low ≤ other → suc other ≤ high
      → (low ≤ name_token other d) × (suc (name_token other d) ≤ high)
  pub named : has_name d ≡ true → (other : ℕ) → (lo ≤ name_token other d) × (suc (name_token other d) ≤ hi)

pub scope_placed : {A : Type 0} (lo hi : ℕ) (parameters : Judging State A) → ((s : State) → Placed lo hi (parameters s))
    → (s : State) → Placed lo hi (scoped parameters s)
scope_placed lo hi ps h s =
    same_placed lo hi
    (record (ps (in_scope s)).state {
      environment = without_parameters s.environment.variables (ps (in_scope s)).state.environment;
    }) (λ x. (x, parameters_in (ps (in_scope s)).state.environment)) (h (in_scope s))

pub member_placed : (lo hi n : ℕ) (spec : Option Specification) (d : Judging State Shape) (s : State × Entries) → lo ≤ n
    → suc n ≤ hi → ((s : State) → Placed lo hi (d s)) → Placed lo hi (member n spec d s)
member_placed lo hi n spec d s l h p =
    ruled_placed lo hi n (adding_rule (λ v es. judged (member_added v.0 v.1 es))) l h
    (along_placed s.1 (second_placed lo lo lo hi d (omega arith) (none_placed lo lo s.0 spec (omega arith)) p))

pub record SpecifierIn (x : Specifier) (lo hi : ℕ) : Type 0 where
  pub judged : (is_alone : Bool) (line : ℕ) (s : State × Gathered) → Placed lo hi (specifier is_alone line x s)
  pub low : lo ≤ specifier_token x
  pub high : suc (specifier_token x) ≤ hi

abbrev pub ArgumentsIn : Arguments → (lo hi : ℕ) → Type 0
ArgumentsIn x lo hi =
    ((is : Bool) (s : State) → Placed lo hi (argument_values is x s))
    × ((is : Bool) (s : State) → Placed lo hi (printed_values is x s))
