-- What may be written (C99 6.3.2.1 paragraph 1).
use Rattle.std.specs.Prelude.{ℕ, Bool, true, false, not, ◌||◌, ◌==◌, if◌then◌else◌, List, [], ◌∷◌, Option, Some, None}
use Rattle.std.specs.Prelude.{get_or, Ok}
use Rattle.c_tree.specs.declared.c_type.TypeWord.{TypeWord}
use Rattle.c_tree.specs.declared.c_type.TypeWord.TheVariants as word
use Rattle.c_tree.specs.declared.expression.Kind.{Kind}
use Rattle.c_tree.specs.declared.expression.Kind.TheVariants as kind
use Rattle.c_tree.specs.Tree.{lvalue_kind}
use Rattle.c_tree.specs.Valid.{is_lvalue}
use Rattle.c_faults.specs.declared.fault.Rule.{Rule}
use Rattle.c_faults.specs.declared.fault.Rule.TheVariants as rule
use Rattle.c_faults.specs.Answer.{Answer, violates}
use Rattle.c_place_rules.specs.Operands.{Place, Variable, Operand, a_value, a_place, a_variable, a_function}

-- whether a type is const, or has a const member, also within members; a list tells which structures and unions have
-- one
abbrev pub has_const : (with_const : List Bool) → List TypeWord → Bool
has_const with_const [] = false
has_const with_const (word.Const ∷ type) = true
has_const with_const (word.Array count bytes ∷ element) = has_const with_const element
has_const with_const (word.OpenArray ∷ element) = has_const with_const element
has_const with_const (word.Structure n ∷ behind) = get_or with_const n false
has_const with_const (w ∷ behind) = false

abbrev pub is_array_type : List TypeWord → Bool
is_array_type (word.Array count bytes ∷ element) = true
is_array_type (word.OpenArray ∷ element) = true
is_array_type (word.Const ∷ type) = is_array_type type
is_array_type type = false

-- a structure or union whose members are not known where it is named: its kind counts no bytes
abbrev pub is_unsized_structure : Kind → Bool
is_unsized_structure (kind.Structure bytes) = bytes == 0
is_unsized_structure k = false

-- the first of some rules, in their order, that is violated
abbrev pub lowest : List (Rule × Bool) → Option Rule
lowest [] = None
lowest (r ∷ others) = if r.1 then Some r.0 else lowest others

-- the rule that a write to an operand violates, if there is one
abbrev pub place_rule : (with_const : List Bool) → Place → Option Rule
place_rule with_const p =
    lowest ((rule.Incomplete, is_unsized_structure (lvalue_kind p.tree))
    ∷ (rule.NotAssignable, not (is_lvalue p.tree) || (is_array_type p.type || has_const with_const p.type)) ∷ [])

abbrev pub variable_rule : (with_const : List Bool) → Variable → Option Rule
variable_rule with_const x = lowest ((rule.NotAssignable, has_const with_const x.type) ∷ [])

abbrev pub write_rule : (with_const : List Bool) → Operand → Option Rule
write_rule with_const (a_value v) = Some rule.NotAssignable
write_rule with_const (a_place p) = place_rule with_const p
write_rule with_const (a_variable x) = variable_rule with_const x
write_rule with_const (a_function f) = Some rule.NotAssignable

abbrev pub where_none : Option Rule → (line : ℕ) → Operand → Answer Operand
where_none None line o = Ok o
where_none (Some r) line o = violates r line

-- an operand that may be written
abbrev pub assignable : (with_const : List Bool) → (line : ℕ) → Operand → Answer Operand
assignable with_const line o = where_none (write_rule with_const o) line o
