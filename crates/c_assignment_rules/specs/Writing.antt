-- What is written to an lvalue or a plain variable, and the node that does it (C99 6.5.2.4, 6.5.3.1, 6.5.16).
use Rattle.std.specs.Prelude.{ℕ, Ok}
use Rattle.c_tree.specs.declared.expression.Update.{Update}
use Rattle.c_tree.specs.declared.expression.Fixity.{Fixity}
use Rattle.c_tree.specs.declared.expression.PlainName.{PlainName}
use Rattle.c_tree.specs.Tree.{Expression, expression, Node, assign, assign_plain, compound, change_plain, step}
use Rattle.c_tree.specs.Tree.{step_plain, Lvalue, kind_of, lvalue_kind}
use Rattle.c_tree.specs.View.{expression_of}
use Rattle.c_faults.specs.declared.fault.Rule.TheVariants.{NotAssignable}
use Rattle.c_faults.specs.Answer.{Answer, violates}
use Rattle.c_rules.specs.Types.{unqualified}
use Rattle.c_rules.specs.Values.{Value}
use Rattle.c_place_rules.specs.Operands.{Place, Variable, Operand, a_value, a_place, a_variable, a_function}
use Rattle.c_assignment_rules.specs.declared.writing.Writing as code

pub data Writing : Type 0 where
  set : Expression → Writing
  change : Update → Expression → Writing
  step_by : Update → Fixity → Writing

abbrev pub writing_of : code.Writing → Writing
writing_of (code.TheVariants.Set e) = set (expression_of e)
writing_of (code.TheVariants.Change u e) = change u (expression_of e)
writing_of (code.TheVariants.StepBy u fixity) = step_by u fixity

abbrev pub place_node : Lvalue → Writing → Node
place_node p (set e) = assign p e
place_node p (change u e) = compound u p e
place_node p (step_by u fixity) = step u fixity p

abbrev pub variable_node : PlainName → Writing → Node
variable_node x (set e) = assign_plain x e
variable_node x (change u e) = change_plain u x e
variable_node x (step_by u fixity) = step_plain u fixity x

-- the value is that of the left operand, without its qualifiers (6.5.16 paragraph 3)
abbrev pub place_written : (line : ℕ) → Place → Writing → Value
place_written line p w = record {
  type = unqualified p.type;
  tree = expression (lvalue_kind p.tree) line (place_node p.tree w);
}

abbrev pub variable_written : (line : ℕ) → Variable → Writing → Value
variable_written line x w = record {
  type = unqualified x.type;
  tree = expression (kind_of x.tree) line (variable_node x.name w);
}

abbrev pub written : (line : ℕ) → Operand → Writing → Answer Value
written line (a_value v) w = violates NotAssignable line
written line (a_place p) w = Ok (place_written line p w)
written line (a_variable x) w = Ok (variable_written line x w)
written line (a_function f) w = violates NotAssignable line
