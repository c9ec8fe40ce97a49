-- Each construct leaves a state that extends the one before it.
use Rattle.std.proofs.Common.{◌≡◌, ℕ, zero, suc, ◌^◌, ◌<◌, Bool, true, false, ◌&&◌, ◌||◌, ◌==◌, refl}
use Rattle.std.proofs.Common.{List, [], ◌∷◌, Option, Some, None, if◌then◌else◌, arith}
use Rattle.std.specs.Prelude.{Ok, Err, is_some, not, nat_lt}
use Rattle.obj_memory.specs.declared.int_type.IntType.TheVariants.{Int}
use Rattle.obj_memory.specs.Integers.{fit}
use Rattle.c_lexer.specs.declared.punctuator.Punctuator.{Punctuator}
use Rattle.c_lexer.specs.declared.punctuator.Punctuator.TheVariants as sign
use Rattle.c_tree.specs.declared.c_type.TypeWord.{TypeWord}
use Rattle.c_tree.specs.declared.expression.Fixity.TheVariants as fixity
use Rattle.c_tree.specs.Tree.{automatic}
use Rattle.c_const.specs.Integers.{constant_word}
use Rattle.c_faults.specs.declared.fault.Rule.TheVariants.{Redeclared}
use Rattle.c_faults.specs.Answer.{Answer, violates, ◌>>=◌}
use Rattle.c_rules.specs.Values.{Value}
use Rattle.c_place_rules.specs.Operands.{Operand}
use Rattle.c_place_rules.specs.Places.{address}
use Rattle.c_call_rules.specs.Calls.{called_through, of_function, of_routine}
use Rattle.c_call_rules.specs.FunctionTypes.{callee_type}
use Rattle.c_call_rules.specs.Printing.{another}
use Rattle.c_tree.specs.Routines.{routine_words}
use Rattle.c_declarators.specs.Derivations.{to_array}
use Rattle.c_scope.specs.declared.meaning.Designated.{Designated}
use Rattle.c_scope.specs.declared.meaning.Designated.TheVariants as what
use Rattle.c_scope.specs.declared.meaning.Meaning.{Meaning}
use Rattle.c_scope.specs.declared.meaning.Meaning.TheVariants as meaning
use Rattle.c_scope.specs.Enumerators.{with_value}
use Rattle.c_scope.specs.Environment.{Environment, with_name}
use Rattle.c_scope.specs.Names.{Name, declared}
use Rattle.c_scope.specs.Names as names
use Rattle.c_operand_typing.specs.declared.forms.PrefixForm.{PrefixForm}
use Rattle.c_operand_typing.specs.declared.forms.PrefixForm.TheVariants as form
use Rattle.c_operand_typing.specs.Calls.{Called, a_function, a_pointer, a_printf, a_routine, applied, callee_number}
use Rattle.c_operand_typing.specs.Calls.{called_by_value, called_plainly, name_called, plainly_or, pointer_called}
use Rattle.c_operand_typing.specs.Calls.{printed, with_callee_type}
use Rattle.c_operand_typing.specs.Operators.{arrowed, as_operand, as_value, dotted, stepped_by, unary_value}
use Rattle.c_operand_typing.specs.Operators.{value_among}
use Rattle.c_operand_typing.specs.Primaries.{designated, is_object, literal, meant, named, place, plain_variable}
use Rattle.c_operand_typing.specs.Primaries.{used_as}
use Rattle.c_declarator_typing.specs.Sizes.{count_in, is_count, has_sign, next_value, provided}
use Rattle.c_declarator_typing.specs.Specifications.{typedef_meant, typedef_type}
use Rattle.c_typing_state.specs.State.{State, Typing, done, extents, judged, ◌>>>◌}
use Rattle.c_expression_typing.specs.Constructs.{Printing, accessed, applied_to, called_by, enumerated_as, format_by}
use Rattle.c_expression_typing.specs.Constructs.{prefixed, valued}
use Rattle.c_expression_typing.specs.Lines.{name_of}
use Rattle.c_syntax.specs.declared.position.Spelled.{Spelled}
use Rattle.typing_laws.specs.Validity.Sound.{IsFormed, is_sized_array}
use Rattle.typing_laws.proofs.Validity.Constructs.{address_made, as_made}
use Rattle.typing_laws.proofs.Validity.Sound.{IfAnswer, same_list, same_more}
use Rattle.typing_laws.specs.Declarators.Extending.{Extending, Extends, IsNew, IsSameOr}
use Rattle.typing_laws.specs.Declarators.Given.{HasWords, IsCounted, IsIntIf, OperandHasWords, ValueHasWords, anything}
use Rattle.typing_laws.proofs.Declarators.Chained.{constants_stay, done_extends, extends_same, judged_extends}
use Rattle.typing_laws.proofs.Declarators.Chained.{then_extends, typedefs_stay}
use Rattle.typing_laws.proofs.Declarators.Marks.{address_extends, callee_extends, literal_by, used_extends}
use Rattle.typing_laws.proofs.Declarators.Operators.{address_words, among_words, operand_words, place_words}
use Rattle.typing_laws.proofs.Declarators.Operators.{plainly_words}
use Rattle.typing_laws.proofs.Declarators.Operators.{printed_words, stepped_by_words, through_words, unary_value_words}
use Rattle.typing_laws.proofs.Declarators.Tags.{bound_last, bound_same}
use Rattle.typing_laws.proofs.Declarators.Words.{next_int, word_of_int}

pub whatever : {A : Type 0} (s : State) (a : Answer A) → IfAnswer (anything s) a
whatever s (Ok x) = tt
whatever s (Err f) = tt

-- values of operands

pub value_extends : (b : Bool) (s : State) → IsFormed s → (o : Operand) → OperandHasWords s o
    → Extending b s ValueHasWords (as_value o s)
value_extends b s formed o h =
    judged_extends b s ValueHasWords (value_among (extents s) o) formed (among_words s (extents s) o h)

pub valued_extends : (b : Bool) (s : State) (operand : Typing Operand) → Extending b s OperandHasWords (operand s)
    → Extending b s ValueHasWords (valued operand s)
valued_extends b s operand h =
    then_extends b s OperandHasWords ValueHasWords (operand s) as_value h
    (λ t o e is. value_extends b t e.formed o is)

-- names and literals

pub variable_has : (t s : State) (b : Bool) (line n : ℕ) (type : List TypeWord)
    → OperandHasWords t (if b then place (extents s) line type (automatic n)
    else plain_variable (extents s) line n type)
variable_has t s true line n type = tt
variable_has t s false line n type = tt

pub designated_has : (t : State) (is : Bool) (line : ℕ) (d : Designated) (type : List TypeWord) (s : State)
    → IfAnswer (OperandHasWords t) (designated is line d type s)
designated_has t is line (what.Object n) type s = tt
designated_has t is line (what.Static n) type s = tt
designated_has t is line (what.Function n) type s = tt
designated_has t is line (what.Library f) type s = tt
designated_has t is line (what.Variable n) type s = variable_has t s (is_object is s n type) line n type

pub meant_has : (t : State) (is : Bool) (line : ℕ) (m : Option Meaning) (s : State)
    → ((w : ℕ) → m ≡ Some (meaning.Constant w) → fit Int w ≡ w)
    → IfAnswer (OperandHasWords t) (meant is line m s)
meant_has t is line None s h = tt
meant_has t is line (Some (meaning.Typedef type)) s h = tt
meant_has t is line (Some (meaning.Constant w)) s h = word_of_int w (h w refl)
meant_has t is line (Some (meaning.Named d type)) s h = designated_has t is line d type s

pub used_by : {A : Type 0} (b : Bool) (s t : State) (p : State → A → Type 0) → Extends b s t → (a : Answer A)
    → IfAnswer (p t) a → Extending b s p (a >>= λ x. Ok (t, x))
used_by b s t p h (Ok x) is = (h, is)
used_by b s t p h (Err f) is = tt

pub named_extends : (b is : Bool) (name : Name) (line : ℕ) (s : State) → IsFormed s
    → Extending b s OperandHasWords (named is name line s)
named_extends b is name line s formed =
    let m = names.meaning name s.environment.names in
    used_by b s (used_as is line m s) OperandHasWords (used_extends b is line m s formed) (meant is line m s)
    (meant_has (used_as is line m s) is line m s (formed.constants name))

pub literal_extends : (b is : Bool) (bytes : List ℕ) (line : ℕ) (s : State) → IsFormed s
    → Extending b s OperandHasWords (literal is bytes line s)
literal_extends b is bytes line s formed = (literal_by b is bytes s formed, tt)

-- unary operators, and `.` and `->`

pub addressed_by : (b is : Bool) (o : Operand) (s : State) → IsFormed s → (a : Answer Value)
    → IfAnswer (λ v. HasWords v.tree) a
    → Extending b s OperandHasWords (a >>= address_made is o s >>= as_made)
addressed_by b is o s formed (Ok v) h = (address_extends b is o s formed, h)
addressed_by b is o s formed (Err f) h = tt

pub unary_by : (b : Bool) (s : State) → IsFormed s → (f : PrefixForm) (line : ℕ) (o : Operand) → OperandHasWords s o
    → Extending b s OperandHasWords ((as_value o >>> λ v. judged (unary_value f line v)) s)
unary_by b s formed f line o h =
    then_extends b s ValueHasWords OperandHasWords (as_value o s) (λ v. judged (unary_value f line v))
    (value_extends b s formed o h)
    (λ t v e is. judged_extends b t OperandHasWords (unary_value f line v t) e.formed (unary_value_words t f line v))

pub prefixed_extends : (b is : Bool) (s : State) → IsFormed s → (f : PrefixForm) (line : ℕ) (o : Operand)
    → OperandHasWords s o → Extending b s OperandHasWords (prefixed is f line o s)
prefixed_extends b is s formed form.Address line o h = addressed_by b is o s formed (address line o)
    (address_words line o)
prefixed_extends b is s formed (form.Step op) line o h =
    judged_extends b s OperandHasWords (stepped_by (form.Step op) fixity.Prefix line o s) formed
    (stepped_by_words s (form.Step op) fixity.Prefix line o)
prefixed_extends b is s formed form.Dereference line o h = unary_by b s formed form.Dereference line o h
prefixed_extends b is s formed (form.Value op) line o h = unary_by b s formed (form.Value op) line o h
prefixed_extends b is s formed form.Nothing line o h = unary_by b s formed form.Nothing line o h

pub accessed_extends : (b : Bool) (s : State) → IsFormed s → (w : Punctuator) (line : ℕ) (name : Name) (o : Operand)
    → OperandHasWords s o → Extending b s OperandHasWords (accessed w line name o s)
accessed_extends b s formed sign.Dot line name o h =
    judged_extends b s OperandHasWords (dotted line name o s) formed (place_words s _)
accessed_extends b s formed sign.Arrow line name o h =
    then_extends b s ValueHasWords OperandHasWords (as_value o s) (λ v. judged (arrowed line name v))
    (value_extends b s formed o h)
    (λ t v e is. judged_extends b t OperandHasWords (arrowed line name v t) e.formed (place_words t _))
accessed_extends b s formed w line name o h = tt

-- calls

pub pointer_called_extends : (b : Bool) (s : State) → IsFormed s → (o : Operand)
    → Extending b s anything (judged (pointer_called o) s)
pointer_called_extends b s formed o =
    judged_extends b s anything (pointer_called o s) formed (whatever s (pointer_called o s))

pub name_called_extends : (b is : Bool) (name : Name) (line : ℕ) (s : State) → IsFormed s
    → Extending b s anything (name_called is name line s)
name_called_extends b is name line s formed =
    let m = names.meaning name s.environment.names in
    used_by b s (used_as is line m s) anything (used_extends b is line m s formed)
    (plainly_or (called_plainly m) (called_by_value is line m s))
    (whatever (used_as is line m s) (plainly_or (called_plainly m) (called_by_value is line m s)))

pub called_extends : (b is : Bool) (name : Option Spelled) (operand : Typing Operand) (s : State) → IsFormed s
    → Extending b s OperandHasWords (operand s) → Extending b s anything (called_by is name operand s)
called_extends b is (Some x) operand s formed h = name_called_extends b is (name_of x) x.position.line s formed
called_extends b is None operand s formed h =
    then_extends b s OperandHasWords anything (operand s) (λ o. judged (pointer_called o)) h
    (λ t o e is. pointer_called_extends b t e.formed o)

pub applied_extends : (b : Bool) (s : State) → IsFormed s → (line : ℕ) (c : Called) (vs : List Value)
    → Extending b s OperandHasWords (applied line c vs s)
applied_extends b s formed line (a_function n type) vs =
    judged_extends b s OperandHasWords _ formed (plainly_words s line (of_function n) type vs)
applied_extends b s formed line (a_routine r) vs =
    judged_extends b s OperandHasWords _ formed (plainly_words s line (of_routine r) (routine_words r) vs)
applied_extends b s formed line a_printf vs =
    judged_extends b s OperandHasWords (printed line None vs s) formed (printed_words s line None vs)
applied_extends b s formed line (a_pointer v) vs =
    let o = callee_type v.type in
    used_by b s (with_callee_type o s) OperandHasWords (callee_extends b o s formed)
    (as_operand (called_through (extents s) line (callee_number o s) v vs))
    (operand_words (with_callee_type o s) (called_through (extents s) line (callee_number o s) v vs)
    (through_words (extents s) line (callee_number o s) v vs))

pub values_by : (b : Bool) (line : ℕ) (c : Called) (values : Typing (List Value)) (s : State)
    → Extending b s anything (values s) → Extending b s OperandHasWords ((values >>> λ vs. applied line c vs) s)
values_by b line c values s h =
    then_extends b s anything OperandHasWords (values s) (λ vs. applied line c vs) h
    (λ t vs e is. applied_extends b t e.formed line c vs)

pub printing_by : (b : Bool) (line : ℕ) (printing : Typing Printing) (s : State) → Extending b s anything (printing s)
    → Extending b s OperandHasWords ((printing >>> λ p. judged (printed line p.format p.values)) s)
printing_by b line printing s h =
    then_extends b s anything OperandHasWords (printing s) (λ p. judged (printed line p.format p.values)) h
    (λ t p e is. judged_extends b t OperandHasWords (printed line p.format p.values t) e.formed
    (printed_words t line p.format p.values))

pub applied_to_extends : (b : Bool) (line : ℕ) (values : Typing (List Value)) (printing : Typing Printing) (c : Called)
    (s : State) → Extending b s anything (values s) → Extending b s anything (printing s)
    → Extending b s OperandHasWords (applied_to line values printing c s)
applied_to_extends b line values printing (a_function n type) s h g = values_by b line (a_function n type) values s h
applied_to_extends b line values printing (a_routine r) s h g = values_by b line (a_routine r) values s h
applied_to_extends b line values printing a_printf s h g = printing_by b line printing s g
applied_to_extends b line values printing (a_pointer v) s h g = values_by b line (a_pointer v) values s h

pub format_extends : (b : Bool) (names : Option (List Name)) (operand : Typing Operand) (s : State) → IsFormed s
    → Extending b s OperandHasWords (operand s) → Extending b s anything (format_by names operand s)
format_extends b (Some names) operand s formed h = (extends_same b s formed, tt)
format_extends b None operand s formed h =
    then_extends b s ValueHasWords anything (valued operand s)
    (λ v. done (another v)) (valued_extends b s operand h)
    (λ t v e is. done_extends b t anything (another v) e.formed tt)

-- counts of arrays

pub positive : (w : ℕ) (b : Bool) → (w == 0) ≡ b → (c : Bool) → (not b && c) ≡ true → 0 < w
positive zero b e c is = absurd (conflict b e is)
  where
    conflict : (b : Bool) → true ≡ b → (not b && c) ≡ true → ⊥
    conflict true e is = cc
    conflict false e is = cc
positive (suc w) b e c is = omega arith

pub counted_by : (w : ℕ) (s b : Bool) → is_count s w ≡ b → IsCounted (to_array (if b then Some w else None))
counted_by w s true e = positive w (w == 0) refl (not s || nat_lt w (2 ^ 63)) e
counted_by w s false e = tt

pub provided_count : (s : Bool) (o : Option ℕ) → IsCounted (to_array (provided is_count s o))
provided_count s None = tt
provided_count s (Some w) = counted_by w s (is_count s w) refl

pub count_counted : (v : Value) → IsCounted (to_array (count_in v))
count_counted v = provided_count (has_sign v.tree) (constant_word v.tree)

-- typedef names

pub typedef_by : (s : State) (line : ℕ) (m : Option Meaning)
    → ((type : List TypeWord) → m ≡ Some (meaning.Typedef type) → is_sized_array type ≡ true)
    → IfAnswer (λ type. is_sized_array type ≡ true) (typedef_meant line m)
typedef_by s line None h = tt
typedef_by s line (Some (meaning.Typedef type)) h = h type refl
typedef_by s line (Some (meaning.Constant w)) h = tt
typedef_by s line (Some (meaning.Named d type)) h = tt

pub typedef_sized : (s : State) → IsFormed s → (name : Name) (line : ℕ)
    → IfAnswer (λ type. is_sized_array type ≡ true) (typedef_type name line s)
typedef_sized s formed name line =
    typedef_by s line (names.meaning name s.environment.names) (formed.typedefs name)

-- enumerators

abbrev pub enumerator_there : State → Name → ℕ → State
enumerator_there s name w = record s { environment = with_name name (meaning.Constant w) s.environment }

pub enumerator_names : (b : Bool) (s : State) (name : Name) (w : ℕ) → fit Int w ≡ w → (other : Name)
    → IsSameOr (IsNew b) (declared other s.environment.names.current)
    (declared other (enumerator_there s name w).environment.names.current)
enumerator_names b s name w is other =
    bound_same (IsNew b) name other (meaning.Constant w) s.environment.names.current is

pub enumerator_extends : (b : Bool) (s : State) → IsFormed s → (name : Name) (w : ℕ) → fit Int w ≡ w
    → declared name s.environment.names.current ≡ None → Extends b s (enumerator_there s name w)
enumerator_extends b s formed name w is fresh = record {
  more = same_more (extents s);
  longer = omega arith;
  literals = same_list s.literals;
  types = same_list s.function_types;
  objects = refl;
  function = refl;
  facts = refl;
  entities = refl;
  statics = omega arith;
  numbers = λ n. refl;
  variables = λ e. refl;
  outer = refl;
  names = enumerator_names b s name w is;
  entries = λ e. record {
    rest = (name, meaning.Constant w) ∷ [];
    is = bound_last name (meaning.Constant w) s.environment.names.current fresh;
    each = (tt, tt);
  };
  outer_tags = refl;
  members = λ h. record { each = h.each };
  pending = λ n p. record { begun = p.begun; incomplete = p.incomplete };
  formed = record {
    same = formed.same;
    begun = formed.begun;
    sizes = formed.sizes;
    tags = formed.tags;
    constants = constants_stay b s (enumerator_there s name w) formed refl (enumerator_names b s name w is);
    typedefs = typedefs_stay b s (enumerator_there s name w) formed refl (enumerator_names b s name w is);
  };
  undefined = λ e. e;
}

abbrev IntNext : State → Option ℕ → Type 0
IntNext s o = IsIntIf o

pub value_by : (b : Bool) (s : State) → IsFormed s → (name : Name) (line : ℕ) (o : Option ℕ) → IsIntIf o
    → declared name s.environment.names.current ≡ None → Extending b s IntNext
    (with_value name line o s.environment >>= λ env. Ok (record s { environment = env }, next_value o))
value_by b s formed name line None h fresh = tt
value_by b s formed name line (Some w) h fresh =
    (enumerator_extends b s formed name w h fresh, next_int (Some w) h)

abbrev pub unless_declared : Bool → ℕ → Answer Environment → Answer Environment
unless_declared is line other = if is then violates Redeclared line else other

none_is : {A : Type 0} (o : Option A) → is_some o ≡ false → o ≡ None
none_is None e = refl
none_is (Some x) e = absurd cc

pub declared_by : (b : Bool) (s : State) → IsFormed s → (name : Name) (line : ℕ) (o : Option ℕ) → IsIntIf o
    → (is : Bool) → is_some (declared name s.environment.names.current) ≡ is → Extending b s IntNext
    (unless_declared is line (with_value name line o s.environment)
    >>= λ env. Ok (record s { environment = env }, next_value o))
declared_by b s formed name line o h true e = tt
declared_by b s formed name line o h false e =
    value_by b s formed name line o h (none_is (declared name s.environment.names.current) e)

pub enumerated_extends : (b : Bool) (s : State) → IsFormed s → (name : Name) (line : ℕ) (o : Option ℕ) → IsIntIf o
    → Extending b s (λ s o. IsIntIf o) (enumerated_as name line o s)
enumerated_extends b s formed name line o h =
    declared_by b s formed name line o h (is_some (declared name s.environment.names.current)) refl
