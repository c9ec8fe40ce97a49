-- How many nodes the steps of the typing of expressions make (C99 6.5).
use Rattle.std.proofs.Common.{◌≡◌, ℕ, ◌+◌, ◌*◌, ◌≤◌, Bool, true, false, refl, ap, List, [], ◌∷◌, ◌++◌, Option, Some}
use Rattle.std.proofs.Common.{None, if◌then◌else◌, arith, length}
use Rattle.std.specs.Prelude.{Ok}
use Rattle.std.proofs.lemmas.List.{length-append}
use Rattle.c_lexer.specs.declared.punctuator.Punctuator.{Punctuator}
use Rattle.c_lexer.specs.declared.punctuator.Punctuator.TheVariants as sign
use Rattle.c_lexer.specs.Constants.{constant_of}
use Rattle.c_lexer.specs.declared.integer.IntegerConstant.{IntegerConstant}
use Rattle.c_syntax.specs.declared.position.Spelled.{Spelled}
use Rattle.c_tree.specs.declared.c_type.TypeWord.{TypeWord}
use Rattle.c_tree.specs.Extents.{TypeExtent}
use Rattle.c_tree.specs.Tree.{automatic}
use Rattle.c_tree.specs.declared.expression.Fixity.{Fixity}
use Rattle.c_tree.specs.declared.expression.Fixity.TheVariants as fixity
use Rattle.c_faults.specs.Answer.{Answer, ◌>>=◌}
use Rattle.c_rules.specs.Unary.{comma}
use Rattle.c_rules.specs.Unary as unary_rules
use Rattle.c_rules.specs.Values.{Value}
use Rattle.c_place_rules.specs.Operands.{Operand, Place, a_function as a_function_operand, a_place, a_value, a_variable}
use Rattle.c_call_rules.specs.Calls.{Callee, of_function, of_routine}
use Rattle.c_call_rules.specs.FunctionTypes.{callee_type}
use Rattle.c_call_rules.specs.Printing.{Format}
use Rattle.c_tree.specs.Routines.{routine_words}
use Rattle.c_scope.specs.declared.meaning.Designated.{Designated}
use Rattle.c_scope.specs.declared.meaning.Designated.TheVariants as what
use Rattle.c_scope.specs.declared.meaning.LibraryFunction.{LibraryFunction}
use Rattle.c_scope.specs.declared.meaning.LibraryFunction.TheVariants as library
use Rattle.c_scope.specs.declared.meaning.Meaning.{Meaning}
use Rattle.c_scope.specs.declared.meaning.Meaning.TheVariants as meaning
use Rattle.c_scope.specs.Names.{Name}
use Rattle.c_scope.specs.Names as names
use Rattle.c_operand_typing.specs.declared.forms.AssignmentForm.{AssignmentForm}
use Rattle.c_operand_typing.specs.declared.forms.AssignmentForm.TheVariants as assignment_form
use Rattle.c_operand_typing.specs.declared.forms.BinaryForm.{BinaryForm}
use Rattle.c_operand_typing.specs.declared.forms.BinaryForm.TheVariants as binary_form
use Rattle.c_operand_typing.specs.declared.forms.PrefixForm.{PrefixForm}
use Rattle.c_operand_typing.specs.declared.forms.PrefixForm.TheVariants as form
use Rattle.c_operand_typing.specs.Calls.{Called, a_function, a_pointer, a_printf, a_routine, applied, called_as}
use Rattle.c_operand_typing.specs.Calls.{called_by_value, called_plainly, callee_number, library_called}
use Rattle.c_operand_typing.specs.Calls.{plainly_applied}
use Rattle.c_operand_typing.specs.Calls.{plainly_or, pointer_applied, pointer_called, printed, with_callee_type}
use Rattle.c_operand_typing.specs.Calls.{with_type}
use Rattle.c_operand_typing.specs.Operators.{addressed, arrowed, as_operand, as_place, as_value, assigned_by, combined}
use Rattle.c_operand_typing.specs.Operators.{dotted}
use Rattle.c_operand_typing.specs.Operators.{indexed, object_taken, read_unless, stepped_by, unary_value, unreadable}
use Rattle.c_operand_typing.specs.Operators.{value_among, variable_named, with_taken}
use Rattle.c_operand_typing.specs.Primaries.{as_meant, designated, integer_as, integer_constant, is_object, literal}
use Rattle.c_operand_typing.specs.Primaries.{meant}
use Rattle.c_operand_typing.specs.Primaries.{named, place, plain_variable, used, used_as, with_literal, with_use}
use Rattle.c_typing_state.specs.State.{Literal, State, Typing, extents, judged, with_const, ◌>>>◌}
use Rattle.c_expression_typing.specs.Constructs.{Printing, accessed, applied_to, called_by, cast_to, chosen, format_by}
use Rattle.c_expression_typing.specs.Constructs.{prefixed, sized, valued}
use Rattle.c_expression_typing.specs.Lines.{name_of}
use Rattle.program_laws.specs.TreeSizes.AtMost.{AtMost, in_state_size, no_size, operand_size, value_size, values_size}
use Rattle.program_laws.proofs.TreeSizes.Bounded.{gives, more, refuses, then_gives}
use Rattle.program_laws.proofs.TreeSizes.Calls.{callee_nodes, called_nodes, formatted_nodes, through_nodes}
use Rattle.program_laws.proofs.TreeSizes.Operators.{address_nodes, arrow_nodes, assignment_nodes, binary_nodes}
use Rattle.program_laws.proofs.TreeSizes.Operators.{cast_nodes}
use Rattle.program_laws.proofs.TreeSizes.Operators.{comma_nodes, compound_nodes, conditional_nodes, dereferenced_nodes}
use Rattle.program_laws.proofs.TreeSizes.Operators.{indexed_nodes, logical_nodes, place_size, selected_nodes}
use Rattle.program_laws.proofs.TreeSizes.Operators.{size_nodes}
use Rattle.program_laws.proofs.TreeSizes.Operators.{stepped_nodes, unary_nodes, value_nodes}

-- what is judged in a state
pub judged_gives : {A : Type 0} {size : A → ℕ} {m n : ℕ} (s : State) {a : Answer A} → AtMost size m a
    → m + length s.literals ≤ n → AtMost (in_state_size size) n (a >>= λ x. Ok (s, x))
judged_gives s h low = then_gives h (λ x g. gives (omega arith))

-- values and lvalues as operands

pub operand_nodes : {m : ℕ} (a : Answer Value) → AtMost value_size m a → AtMost operand_size m (as_operand a)
operand_nodes a h = then_gives h (λ v g. gives g)

pub place_nodes : {m : ℕ} (a : Answer Place) → AtMost place_size m a → AtMost operand_size m (as_place a)
place_nodes a h = then_gives h (λ p g. gives g)

-- values of operands

among_by : (line : Option ℕ) (o : Operand) → AtMost value_size (operand_size o) (read_unless line o)
among_by None o = value_nodes o
among_by (Some line) o = refuses

pub among_nodes : (es : List (Option TypeExtent)) (o : Operand)
    → AtMost value_size (operand_size o) (value_among es o)
among_nodes es o = among_by (unreadable es o) o

value_of_nodes : (o : Operand) (s : State)
    → AtMost (in_state_size value_size) (length s.literals + operand_size o) (as_value o s)
value_of_nodes o s = judged_gives s (among_nodes (extents s) o) (omega arith)

pub valued_nodes : {n : ℕ} (operand : Typing Operand) (s : State) → AtMost (in_state_size operand_size) n (operand s)
    → AtMost (in_state_size value_size) n (valued operand s)
valued_nodes operand s h = then_gives h (λ r g. judged_gives r.0 (among_nodes (extents r.0) r.1) g)

-- names and literals

used_by : (b : Bool) (line : ℕ) (s : State) → (if b then with_use line s else s).literals ≡ s.literals
used_by true line s = refl
used_by false line s = refl

used_literals : (is : Bool) (line : ℕ) (d : Designated) (s : State) → (used is line d s).literals ≡ s.literals
used_literals is line (what.Function n) s = used_by _ line s
used_literals is line (what.Object n) s = refl
used_literals is line (what.Static n) s = refl
used_literals is line (what.Library f) s = refl
used_literals is line (what.Variable n) s = refl

used_as_literals : (is : Bool) (line : ℕ) (m : Option Meaning) (s : State)
    → (used_as is line m s).literals ≡ s.literals
used_as_literals is line (Some (meaning.Named d type)) s = used_literals is line d s
used_as_literals is line (Some (meaning.Typedef type)) s = refl
used_as_literals is line (Some (meaning.Constant w)) s = refl
used_as_literals is line None s = refl

variable_by : (b : Bool) (es : List (Option TypeExtent)) (line n : ℕ) (type : List TypeWord)
    → operand_size (if b then place es line type (automatic n) else plain_variable es line n type) ≤ 2
variable_by true es line n type = omega arith
variable_by false es line n type = omega arith

designated_nodes : (is : Bool) (line : ℕ) (d : Designated) (type : List TypeWord) (s : State)
    → AtMost operand_size 2 (designated is line d type s)
designated_nodes is line (what.Object n) type s = gives (omega arith)
designated_nodes is line (what.Static n) type s = gives (omega arith)
designated_nodes is line (what.Function n) type s = gives (omega arith)
designated_nodes is line (what.Library f) type s = refuses
designated_nodes is line (what.Variable n) type s = gives (variable_by (is_object is s n type) (extents s) line n type)

meant_nodes : (is : Bool) (line : ℕ) (m : Option Meaning) (s : State) → AtMost operand_size 2 (meant is line m s)
meant_nodes is line None s = refuses
meant_nodes is line (Some (meaning.Typedef type)) s = refuses
meant_nodes is line (Some (meaning.Constant w)) s = gives (omega arith)
meant_nodes is line (Some (meaning.Named d type)) s = designated_nodes is line d type s

as_meant_nodes : (is : Bool) (line : ℕ) (m : Option Meaning) (s : State)
    → AtMost (in_state_size operand_size) (length s.literals + 2) (as_meant is line m s)
as_meant_nodes is line m s =
    then_gives (meant_nodes is line m s) (λ o h. gives (omega (arith, ap length (used_as_literals is line m s))))

pub named_nodes : (is : Bool) (name : Name) (line : ℕ) (s : State)
    → AtMost (in_state_size operand_size) (length s.literals + 2) (named is name line s)
named_nodes is name line s = as_meant_nodes is line (names.meaning name s.environment.names) s

integer_by : (line : ℕ) (c : Option IntegerConstant) → value_size (integer_as line c) ≡ 1
integer_by line None = omega arith
integer_by line (Some c) = omega arith

pub integer_nodes : (spelling : List ℕ) (line : ℕ) → value_size (integer_constant spelling line) ≡ 1
integer_nodes spelling line = integer_by line (constant_of spelling)

literal_by : (is : Bool) (bytes : List ℕ) (s : State)
    → length (if is then with_literal bytes s else s).literals ≤ length s.literals + 1
literal_by true bytes s =
    let added : Literal = record { number = s.environment.statics; function = s.function; bytes = bytes } in
    omega (arith, length-append s.literals (added ∷ []))
literal_by false bytes s = omega arith

pub literal_nodes : (is : Bool) (bytes : List ℕ) (line : ℕ) (s : State)
    → AtMost (in_state_size operand_size) (length s.literals + 3) (literal is bytes line s)
literal_nodes is bytes line s = gives (omega (arith, literal_by is bytes s))

-- unary operators, and `.` and `->`

taken_literals : (n : Option ℕ) (s : State) → (with_taken n s).literals ≡ s.literals
taken_literals None s = refl
taken_literals (Some n) s = refl

object_literals : (o : Operand) (s : State) → (object_taken o s).literals ≡ s.literals
object_literals (a_place p) s = taken_literals (variable_named p.tree) s
object_literals (a_value v) s = refl
object_literals (a_variable x) s = refl
object_literals (a_function_operand f) s = refl

address_literals : (is : Bool) (o : Operand) (s : State) → (if is then object_taken o s else s).literals ≡ s.literals
address_literals true o s = object_literals o s
address_literals false o s = refl

addressed_nodes : (is : Bool) (line : ℕ) (o : Operand) (s : State)
    → AtMost (in_state_size value_size) (length s.literals + (1 + operand_size o)) (addressed is line o s)
addressed_nodes is line o s =
    then_gives (address_nodes line o) (λ v h. gives (omega (arith, ap length (address_literals is o s))))

unary_value_nodes : (f : PrefixForm) (line : ℕ) (v : Value) (s : State)
    → AtMost operand_size (2 + value_size v) (unary_value f line v s)
unary_value_nodes (form.Value op) line v s = operand_nodes _ (unary_nodes (extents s) op line v)
unary_value_nodes form.Dereference line v s = dereferenced_nodes (extents s) line v
unary_value_nodes form.Address line v s = refuses
unary_value_nodes (form.Step op) line v s = refuses
unary_value_nodes form.Nothing line v s = refuses

pub stepped_by_nodes : (f : PrefixForm) (fix : Fixity) (line : ℕ) (o : Operand) (s : State)
    → AtMost operand_size (1 + operand_size o) (stepped_by f fix line o s)
stepped_by_nodes (form.Step op) fix line o s =
    operand_nodes _ (stepped_nodes (extents s) (with_const s) op fix line o)
stepped_by_nodes (form.Value op) fix line o s = refuses
stepped_by_nodes form.Dereference fix line o s = refuses
stepped_by_nodes form.Address fix line o s = refuses
stepped_by_nodes form.Nothing fix line o s = refuses

unary_nodes_by : (f : PrefixForm) (line : ℕ) (o : Operand) (s : State)
    → AtMost (in_state_size operand_size) (length s.literals + (2 + operand_size o))
    ((as_value o >>> λ v. judged (unary_value f line v)) s)
unary_nodes_by f line o s =
    then_gives (value_of_nodes o s)
    (λ r g. judged_gives r.0 (unary_value_nodes f line r.1 r.0) (omega arith))

pub prefixed_nodes : (is : Bool) (f : PrefixForm) (line : ℕ) (o : Operand) (s : State)
    → AtMost (in_state_size operand_size) (length s.literals + (2 + operand_size o)) (prefixed is f line o s)
prefixed_nodes is form.Address line o s =
    then_gives (addressed_nodes is line o s) (λ r g. gives (omega arith))
prefixed_nodes is (form.Step op) line o s =
    judged_gives s (stepped_by_nodes (form.Step op) fixity.Prefix line o s) (omega arith)
prefixed_nodes is form.Dereference line o s = unary_nodes_by form.Dereference line o s
prefixed_nodes is (form.Value op) line o s = unary_nodes_by (form.Value op) line o s
prefixed_nodes is form.Nothing line o s = unary_nodes_by form.Nothing line o s

dotted_nodes : (line : ℕ) (name : Name) (o : Operand) (s : State)
    → AtMost operand_size (2 + operand_size o) (dotted line name o s)
dotted_nodes line name o s = place_nodes _ (selected_nodes line _ o)

arrowed_nodes : (line : ℕ) (name : Name) (v : Value) (s : State)
    → AtMost operand_size (2 + value_size v) (arrowed line name v s)
arrowed_nodes line name v s = place_nodes _ (arrow_nodes line _ v)

pub accessed_nodes : (w : Punctuator) (line : ℕ) (name : Name) (o : Operand) (s : State)
    → AtMost (in_state_size operand_size) (length s.literals + (2 + operand_size o)) (accessed w line name o s)
accessed_nodes sign.Dot line name o s = judged_gives s (dotted_nodes line name o s) (omega arith)
accessed_nodes sign.Arrow line name o s =
    then_gives (value_of_nodes o s)
    (λ r g. judged_gives r.0 (arrowed_nodes line name r.1 r.0) (omega arith))
accessed_nodes _ line name o s = refuses

-- operators between operands

pub indexed_by_nodes : (line : ℕ) (v w : Value) (s : State)
    → AtMost operand_size (2 + value_size v + value_size w) (indexed line v w s)
indexed_by_nodes line v w s = place_nodes _ (indexed_nodes (extents s) line v w)

pub combined_nodes : (f : BinaryForm) (line : ℕ) (v w : Value) (s : State)
    → AtMost operand_size (3 + value_size v + value_size w) (combined f line v w s)
combined_nodes binary_form.Comma line v w s = more (omega arith) (operand_nodes (comma line v w) (comma_nodes line v w))
combined_nodes (binary_form.Logical op) line v w s =
    more (omega arith)
    (operand_nodes (unary_rules.combined (extents s) op line v w) (logical_nodes (extents s) op line v w))
combined_nodes (binary_form.Value op) line v w s = operand_nodes _ (binary_nodes (extents s) op line v w)
combined_nodes binary_form.Nothing line v w s = refuses

pub assigned_by_nodes : (f : AssignmentForm) (line : ℕ) (o : Operand) (v : Value) (s : State)
    → AtMost operand_size (2 + operand_size o + value_size v) (assigned_by f line o v s)
assigned_by_nodes assignment_form.Simple line o v s =
    operand_nodes _ (assignment_nodes (extents s) (with_const s) line o v)
assigned_by_nodes (assignment_form.Compound op) line o v s =
    operand_nodes _ (compound_nodes (extents s) (with_const s) op line o v)
assigned_by_nodes assignment_form.Nothing line o v s = refuses

pub cast_to_nodes : (line : ℕ) (type : List TypeWord) (v : Value) (s : State)
    → AtMost operand_size (1 + value_size v) (cast_to line type v s)
cast_to_nodes line type v s = operand_nodes _ (cast_nodes (extents s) line type v)

pub chosen_nodes : (line : ℕ) (c v w : Value) (s : State)
    → AtMost operand_size (3 + value_size c + value_size v + value_size w) (chosen line c v w s)
chosen_nodes line c v w s = operand_nodes _ (conditional_nodes (extents s) line c v w)

pub sized_nodes : (line : ℕ) (type : List TypeWord) (s : State) → AtMost operand_size 1 (sized line type s)
sized_nodes line type s = operand_nodes _ (size_nodes (extents s) line type)

-- calls

abbrev pub called_size : Called → ℕ
called_size (a_function n type) = 0
called_size (a_routine r) = 0
called_size a_printf = 0
called_size (a_pointer v) = value_size v

pointer_called_nodes : (o : Operand) (s : State) → AtMost called_size (operand_size o) (pointer_called o s)
pointer_called_nodes o s = then_gives (among_nodes (extents s) o) (λ v h. gives h)

abbrev plain_size : Option Called → ℕ
plain_size None = 0
plain_size (Some c) = called_size c

library_size : (f : LibraryFunction) → called_size (library_called f) ≡ 0
library_size (library.Routine r) = refl
library_size library.Printf = refl

plainly_size : (m : Option Meaning) → plain_size (called_plainly m) ≡ 0
plainly_size None = refl
plainly_size (Some (meaning.Typedef type)) = refl
plainly_size (Some (meaning.Constant w)) = refl
plainly_size (Some (meaning.Named (what.Function n) type)) = refl
plainly_size (Some (meaning.Named (what.Library f) type)) = library_size f
plainly_size (Some (meaning.Named (what.Object n) type)) = refl
plainly_size (Some (meaning.Named (what.Static n) type)) = refl
plainly_size (Some (meaning.Named (what.Variable n) type)) = refl

plainly_or_nodes : (c : Option Called) (a : Answer Called) → AtMost called_size 2 a → plain_size c ≡ 0
    → AtMost called_size 2 (plainly_or c a)
plainly_or_nodes None a h e = h
plainly_or_nodes (Some c) a h e = gives (omega arith)

by_value_nodes : (is : Bool) (line : ℕ) (m : Option Meaning) (s : State)
    → AtMost called_size 2 (called_by_value is line m s)
by_value_nodes is line m s = then_gives (meant_nodes is line m s) (λ o h. more h (pointer_called_nodes o s))

called_as_nodes : (is : Bool) (line : ℕ) (m : Option Meaning) (s : State)
    → AtMost (in_state_size called_size) (length s.literals + 2) (called_as is line m s)
called_as_nodes is line m s =
    then_gives
    (plainly_or_nodes (called_plainly m) (called_by_value is line m s) (by_value_nodes is line m s) (plainly_size m))
    (λ c h. gives (omega (arith, ap length (used_as_literals is line m s))))

-- what is called, of which the operand has so many words
pub called_by_nodes : (is : Bool) (name : Option Spelled) (operand : Typing Operand) (n : ℕ) → 1 ≤ n → (s : State)
    → AtMost (in_state_size operand_size) (length s.literals + 3 * n) (operand s)
    → AtMost (in_state_size called_size) (length s.literals + 3 * n) (called_by is name operand s)
called_by_nodes is (Some x) operand n low s h =
    more (omega arith) (called_as_nodes is x.position.line (names.meaning (name_of x) s.environment.names) s)
called_by_nodes is None operand n low s h =
    then_gives h (λ r g. judged_gives r.0 (pointer_called_nodes r.1 r.0) g)

plainly_applied_nodes : (line : ℕ) (c : Callee) (type : List TypeWord) (vs : List Value) (s : State)
    → AtMost operand_size (1 + callee_nodes c + values_size vs) (plainly_applied line c type vs s)
plainly_applied_nodes line c type vs s = operand_nodes _ (called_nodes (extents s) line c type vs)

printed_nodes : (line : ℕ) (f : Option Format) (vs : List Value) (s : State)
    → AtMost operand_size (1 + values_size vs) (printed line f vs s)
printed_nodes line f vs s = operand_nodes _ (formatted_nodes (extents s) line f vs)

with_type_by : (b : Bool) (type : List TypeWord) (s : State)
    → (if b then s else record s { function_types = s.function_types ++ type ∷ [] }).literals ≡ s.literals
with_type_by true type s = refl
with_type_by false type s = refl

pub with_type_literals : (type : List TypeWord) (s : State) → (with_type type s).literals ≡ s.literals
with_type_literals type s = with_type_by _ type s

callee_literals : (type : Option (List TypeWord)) (s : State) → (with_callee_type type s).literals ≡ s.literals
callee_literals None s = refl
callee_literals (Some type) s = with_type_literals type s

pointer_applied_nodes : (line : ℕ) (v : Value) (vs : List Value) (s : State)
    → AtMost (in_state_size operand_size) (length s.literals + (1 + value_size v + values_size vs))
    (pointer_applied line v vs s)
pointer_applied_nodes line v vs s =
    then_gives
    (operand_nodes _ (through_nodes (extents s) line (callee_number (callee_type v.type) s) v vs))
    (λ o h. gives (omega (arith, ap length (callee_literals (callee_type v.type) s))))

applied_nodes : (line : ℕ) (c : Called) (vs : List Value) (s : State)
    → AtMost (in_state_size operand_size) (length s.literals + (1 + called_size c + values_size vs))
    (applied line c vs s)
applied_nodes line (a_function n type) vs s =
    judged_gives s (plainly_applied_nodes line (of_function n) type vs s) (omega arith)
applied_nodes line (a_routine r) vs s =
    judged_gives s (plainly_applied_nodes line (of_routine r) (routine_words r) vs s) (omega arith)
applied_nodes line a_printf vs s = judged_gives s (printed_nodes line None vs s) (omega arith)
applied_nodes line (a_pointer v) vs s = more (omega arith) (pointer_applied_nodes line v vs s)

abbrev pub printing_size : Printing → ℕ
printing_size p = values_size p.values

values_nodes : (line : ℕ) (c : Called) (values : Typing (List Value)) (s : State) (n : ℕ)
    → AtMost (in_state_size values_size) n (values s)
    → AtMost (in_state_size operand_size) (n + (1 + called_size c)) ((values >>> λ vs. applied line c vs) s)
values_nodes line c values s n h =
    then_gives h (λ r g. more (omega arith) (applied_nodes line c r.1 r.0))

pub applied_to_nodes : (line : ℕ) (values : Typing (List Value)) (printing : Typing Printing) (c : Called) (s : State)
    (n : ℕ) → AtMost (in_state_size values_size) n (values s) → AtMost (in_state_size printing_size) n (printing s)
    → AtMost (in_state_size operand_size) (n + (1 + called_size c)) (applied_to line values printing c s)
applied_to_nodes line values printing (a_function n type) s m h g = values_nodes line (a_function n type) values s m h
applied_to_nodes line values printing (a_routine r) s m h g = values_nodes line (a_routine r) values s m h
applied_to_nodes line values printing (a_pointer v) s m h g = values_nodes line (a_pointer v) values s m h
applied_to_nodes line values printing a_printf s m h g =
    then_gives g (λ r k. judged_gives r.0 (printed_nodes line r.1.format r.1.values r.0) (omega arith))

-- the first argument of a `printf`
pub format_nodes : {n : ℕ} (names : Option (List Name)) (operand : Typing Operand) (s : State) → length s.literals ≤ n
    → AtMost (in_state_size operand_size) n (operand s)
    → AtMost (in_state_size no_size) n (format_by names operand s)
format_nodes (Some names) operand s low h = gives (omega arith)
format_nodes None operand s low h = then_gives (valued_nodes operand s h) (λ r g. gives (omega arith))
