-- Answers whose size is bounded, and what counts as the size of what expressions and initializers are typed to.
use Rattle.std.specs.Prelude.{◌≡◌, ℕ, ◌+◌, ◌≤◌, List, [], ◌∷◌, length, Ok}
use Rattle.c_faults.specs.Answer.{Answer}
use Rattle.c_rules.specs.Values.{Value}
use Rattle.c_place_rules.specs.Operands.{Operand, a_value, a_place, a_variable, a_function}
use Rattle.c_typing_state.specs.State.{State}
use Rattle.program_laws.specs.TreeSizes.Nodes.{nodes, lvalue_nodes}

-- what is answered, if no rule is violated, has at most this size
pub record AtMost {A : Type 0} (size : A → ℕ) (most : ℕ) (answer : Answer A) : Type 0 where
  pub each : (x : A) → answer ≡ Ok x → size x ≤ most

-- the value of an operand, which is read, or becomes a pointer, where it is an lvalue
abbrev pub operand_size : Operand → ℕ
operand_size (a_value v) = nodes v.tree
operand_size (a_place p) = 1 + lvalue_nodes p.tree
operand_size (a_variable x) = nodes x.tree
operand_size (a_function f) = nodes f.tree

abbrev pub value_size : Value → ℕ
value_size v = nodes v.tree

-- arguments, each of which may be converted
abbrev pub values_size : List Value → ℕ
values_size [] = 0
values_size (v ∷ vs) = 1 + value_size v + values_size vs

-- with the string literals so far, each of which is the only part of a static object
abbrev pub in_state_size : {A : Type 0} → (A → ℕ) → State × A → ℕ
in_state_size size r = size r.1 + length r.0.literals

-- of what has no nodes
abbrev pub no_size : {A : Type 0} → A → ℕ
no_size x = 0
