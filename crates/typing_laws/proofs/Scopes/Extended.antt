-- What the constructs of statements leave of a state: an extension of it (C99 6.8).
use Rattle.std.proofs.Common.{◌≡◌, ℕ, true, false, List, Option}
use Rattle.c_syntax.specs.Tree.{Expression}
use Rattle.c_tree.specs.declared.c_type.TypeWord.{TypeWord}
use Rattle.c_faults.specs.Answer.{Answer}
use Rattle.c_typing_state.specs.State.{State, judged}
use Rattle.c_unit_typing.specs.Constructs.{Labels, case_label, controlling, evaluated, evaluated_if, expression_typed}
use Rattle.c_unit_typing.specs.Constructs.{returned, switching_on, valued_if}
use Rattle.typing_laws.specs.Validity.Regular.{is_regular}
use Rattle.typing_laws.specs.Validity.Sound.{IsFormed}
use Rattle.typing_laws.specs.Declarators.Extending.{Extending, Extends}
use Rattle.typing_laws.specs.Declarators.Given.{anything}
use Rattle.typing_laws.specs.Scopes.Leaving.{FileLeads}
use Rattle.typing_laws.specs.Scopes.Regular.{is_regular_if}
use Rattle.typing_laws.proofs.Scopes.Initializers.{by_behind, judged_walks, values_walk}
use Rattle.typing_laws.proofs.Scopes.Statements as walks
use Rattle.typing_laws.proofs.Scopes.Statements.{leads_walk}

pub step_extends : {A : Type 0} (s : State) → IsFormed s → (rule : State → Answer A)
    → Extending false s anything (judged rule s)
step_extends s formed rule = by_behind s (judged rule s) (judged_walks (Extends false) values_walk s formed rule)

pub evaluated_extends : (e : Expression) → is_regular e ≡ true → (s : State) → IsFormed s
    → Extending false s anything (evaluated e s)
evaluated_extends e c s formed =
    by_behind s (evaluated e s)
    (walks.evaluated_walks (Extends false) FileLeads leads_walk e c s formed)

pub evaluated_if_extends : (e : Option Expression) → is_regular_if e ≡ true → (s : State) → IsFormed s
    → Extending false s anything (evaluated_if e s)
evaluated_if_extends e c s formed =
    by_behind s (evaluated_if e s)
    (walks.evaluated_if_walks (Extends false) FileLeads leads_walk e c s formed)

pub expression_extends : (e : Option Expression) → is_regular_if e ≡ true → (s : State) → IsFormed s
    → Extending false s anything (expression_typed e s)
expression_extends e c s formed =
    by_behind s (expression_typed e s)
    (walks.expression_walks (Extends false) FileLeads leads_walk e c s formed)

pub controlling_extends : (line : ℕ) (e : Expression) → is_regular e ≡ true → (s : State) → IsFormed s
    → Extending false s anything (controlling line e s)
controlling_extends line e c s formed =
    by_behind s (controlling line e s)
    (walks.controlling_walks (Extends false) FileLeads leads_walk line e c s formed)

pub switching_extends : (line : ℕ) (e : Expression) → is_regular e ≡ true → (s : State) → IsFormed s
    → Extending false s anything (switching_on line e s)
switching_extends line e c s formed =
    by_behind s (switching_on line e s)
    (walks.switching_walks (Extends false) FileLeads leads_walk line e c s formed)

pub returned_extends : (line : ℕ) (result : List TypeWord) (e : Option Expression) → is_regular_if e ≡ true
    → (s : State) → IsFormed s → Extending false s anything (returned line result e s)
returned_extends line result e c s formed =
    by_behind s (returned line result e s)
    (walks.returned_walks (Extends false) FileLeads leads_walk line result e c s formed)

pub case_extends : (ls : Labels) (line : ℕ) (e : Expression) → is_regular e ≡ true → (s : State) → IsFormed s
    → Extending false s anything (case_label ls line e s)
case_extends ls line e c s formed =
    by_behind s (case_label ls line e s)
    (walks.case_walks (Extends false) FileLeads leads_walk ls line e c s formed)

pub valued_if_extends : (e : Option Expression) → is_regular_if e ≡ true → (s : State) → IsFormed s
    → Extending false s anything (valued_if e s)
valued_if_extends e c s formed =
    by_behind s (valued_if e s)
    (walks.valued_if_walks (Extends false) FileLeads leads_walk e c s formed)
