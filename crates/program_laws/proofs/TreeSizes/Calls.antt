-- How many nodes calls add to their arguments (C99 6.5.2.2).
use Rattle.std.proofs.Common.{◌≡◌, ℕ, ◌+◌, Bool, true, false, refl, List, [], ◌∷◌, ◌++◌, Option, Some, None, arith}
use Rattle.std.proofs.Common.{if◌then◌else◌}
use Rattle.std.specs.Prelude.{Ok}
use Rattle.obj_memory.specs.declared.int_type.IntType.TheVariants.{Char}
use Rattle.c_tree.specs.declared.c_type.TypeWord.{TypeWord}
use Rattle.c_tree.specs.declared.c_type.TypeWord.TheVariants as word
use Rattle.c_tree.specs.declared.expression.Kind.{Kind}
use Rattle.c_tree.specs.declared.format.Directive.{Directive}
use Rattle.c_tree.specs.Extents.{TypeExtent}
use Rattle.c_tree.specs.Tree.{Expression, expressions_in}
use Rattle.c_tree.specs.Walk.{sum_of, walk_each}
use Rattle.c_faults.specs.declared.fault.Rule.TheVariants.{MistakenFormat}
use Rattle.c_faults.specs.Answer.{violates}
use Rattle.c_rules.specs.Conversions.{assigned}
use Rattle.c_rules.specs.Types.{class_of}
use Rattle.c_rules.specs.Values.{Value, converted}
use Rattle.c_call_rules.specs.Calls.{Callee, call_tree, called, called_if, called_through, counted, of_function}
use Rattle.c_call_rules.specs.Calls.{of_pointer, of_routine, one_passed, outcome_in, passed}
use Rattle.c_call_rules.specs.FunctionTypes.{behind_parameter, callee_type, first_types}
use Rattle.c_call_rules.specs.Printing.{Format, a_literal, all_printed, another, behind_first, directives_in, fits}
use Rattle.c_call_rules.specs.Printing.{formatted, one_printed, printed, printed_as, printed_by, promoted_kind}
use Rattle.program_laws.specs.TreeSizes.AtMost.{AtMost, value_size, values_size}
use Rattle.program_laws.specs.TreeSizes.Nodes.{nodes, nodes_made}
use Rattle.program_laws.proofs.TreeSizes.Bounded.{anything, gives, more, refuses, then_gives}
use Rattle.program_laws.proofs.TreeSizes.Operators.{assigned_nodes, converted_nodes}

abbrev all_nodes : List Expression → ℕ
all_nodes [] = 0
all_nodes (e ∷ es) = nodes e + all_nodes es

all_sum : (es : List Expression) → sum_of (walk_each nodes_made (expressions_in es)) ≡ all_nodes es
all_sum [] = refl
all_sum (e ∷ es) = omega (arith, all_sum es)

all_added : (es : List Expression) (e : Expression) → all_nodes (es ++ e ∷ []) ≡ all_nodes es + nodes e
all_added [] e = omega arith
all_added (x ∷ es) e = omega (arith, all_added es e)

-- arguments

one_nodes : (es : List (Option TypeExtent)) (line : ℕ) (words : List TypeWord) (before : List Expression) (v : Value)
    → AtMost all_nodes (1 + all_nodes before + nodes v.tree) (one_passed es line words before v)
one_nodes es line (word.Takes ∷ type) before v =
    then_gives (assigned_nodes es line (first_types 1 type) v) (λ e h. gives (omega (arith, all_added before e)))
one_nodes es line _ before v = gives (omega arith)

counted_nodes : (line : ℕ) (words : List TypeWord) (es : List Expression)
    → AtMost all_nodes (all_nodes es) (counted line words es)
counted_nodes line (word.Gives ∷ type) es = gives (omega arith)
counted_nodes line _ es = refuses

passed_nodes : (es : List (Option TypeExtent)) (line : ℕ) (words : List TypeWord) (before : List Expression)
    (vs : List Value) → AtMost all_nodes (all_nodes before + values_size vs) (passed es line words before vs)
passed_nodes es line words before [] = more (omega arith) (counted_nodes line words before)
passed_nodes es line words before (v ∷ vs) =
    then_gives (one_nodes es line words before v)
    (λ z h. more (omega arith) (passed_nodes es line (behind_parameter words) z vs))

-- calls

abbrev pub callee_nodes : Callee → ℕ
callee_nodes (of_function n) = 0
callee_nodes (of_pointer n e) = nodes e
callee_nodes (of_routine r) = 0

tree_nodes : (line : ℕ) (k : Kind) (c : Callee) (es : List Expression)
    → nodes (call_tree line k c es) ≡ 1 + callee_nodes c + all_nodes es
tree_nodes line k (of_function n) es = omega (arith, all_sum es)
tree_nodes line k (of_pointer n e) es = omega (arith, all_sum es)
tree_nodes line k (of_routine r) es = omega (arith, all_sum es)

pub called_nodes : (es : List (Option TypeExtent)) (line : ℕ) (c : Callee) (type : List TypeWord) (vs : List Value)
    → AtMost value_size (1 + callee_nodes c + values_size vs) (called es line c type vs)
unfolding called
called_nodes es line c type vs =
    then_gives (anything (outcome_in es line type)) (λ o h. then_gives (passed_nodes es line type [] vs)
    (λ z g. gives (omega (arith, tree_nodes line o.kind c z))))

through_by : (es : List (Option TypeExtent)) (line number : ℕ) (type : Option (List TypeWord)) (v : Value)
    (vs : List Value) → AtMost value_size (1 + value_size v + values_size vs) (called_if es line number type v vs)
through_by es line number None v vs = refuses
through_by es line number (Some type) v vs =
    more (omega arith) (called_nodes es line (of_pointer number v.tree) type vs)

pub through_nodes : (es : List (Option TypeExtent)) (line number : ℕ) (v : Value) (vs : List Value)
    → AtMost value_size (1 + value_size v + values_size vs) (called_through es line number v vs)
unfolding called_through
through_nodes es line number v vs = through_by es line number (callee_type v.type) v vs

-- `printf`

fitting_nodes : (line : ℕ) (b : Bool) (k : Kind) (v : Value)
    → AtMost nodes (1 + nodes v.tree) (if b then Ok (converted k v.tree) else violates MistakenFormat line)
fitting_nodes line true k v = gives (converted_nodes k v.tree)
fitting_nodes line false k v = refuses

printed_as_nodes : (line : ℕ) (d : Directive) (k : Option Kind) (v : Value)
    → AtMost nodes (1 + nodes v.tree) (printed_as line d k v)
printed_as_nodes line d None v = refuses
printed_as_nodes line d (Some k) v = fitting_nodes line (fits d k v.type) k v

one_printed_nodes : (es : List (Option TypeExtent)) (line : ℕ) (ds : List Directive) (before : List Expression)
    (v : Value) → AtMost all_nodes (1 + all_nodes before + nodes v.tree) (one_printed es line ds before v)
one_printed_nodes es line [] before v = refuses
one_printed_nodes es line (d ∷ ds) before v =
    then_gives (printed_as_nodes line d (promoted_kind (class_of es v.type)) v)
    (λ e h. gives (omega (arith, all_added before e)))

all_printed_nodes : (line : ℕ) (ds : List Directive) (es : List Expression)
    → AtMost all_nodes (all_nodes es) (all_printed line ds es)
all_printed_nodes line [] es = gives (omega arith)
all_printed_nodes line (d ∷ ds) es = refuses

printed_nodes : (es : List (Option TypeExtent)) (line : ℕ) (ds : List Directive) (before : List Expression)
    (vs : List Value) → AtMost all_nodes (all_nodes before + values_size vs) (printed es line ds before vs)
printed_nodes es line ds before [] = more (omega arith) (all_printed_nodes line ds before)
printed_nodes es line ds before (v ∷ vs) =
    then_gives (one_printed_nodes es line ds before v)
    (λ z h. more (omega arith) (printed_nodes es line (behind_first ds) z vs))

printed_by_nodes : (es : List (Option TypeExtent)) (line : ℕ) (bytes : List ℕ) (ds : Option (List Directive))
    (vs : List Value) → AtMost value_size (1 + values_size vs) (printed_by es line bytes ds vs)
printed_by_nodes es line bytes None vs = refuses
printed_by_nodes es line bytes (Some ds) vs =
    then_gives (printed_nodes es line ds [] vs) (λ z g. gives (omega (arith, all_sum z)))

pub formatted_nodes : (es : List (Option TypeExtent)) (line : ℕ) (f : Option Format) (vs : List Value)
    → AtMost value_size (1 + values_size vs) (formatted es line f vs)
formatted_nodes es line None vs = refuses
formatted_nodes es line (Some (another v)) vs =
    then_gives (anything (assigned es line (word.Pointer ∷ word.Const ∷ word.Integer Char ∷ []) v)) (λ e h. refuses)
formatted_nodes es line (Some (a_literal bytes)) vs = printed_by_nodes es line bytes (directives_in bytes) vs
