-- What expressions are typed to is valid.
use Rattle.std.proofs.Common.{◌≡◌, ℕ, Bool, true, false, List, [], ◌∷◌, ◌++◌, Option, Some, None}
use Rattle.c_syntax.specs.declared.position.Spelled.{Spelled}
use Rattle.c_syntax.specs.Tree.{Expression, Arguments, MoreArguments}
use Rattle.c_syntax.specs.Tree as t
use Rattle.c_tree.specs.declared.c_type.TypeWord.{TypeWord}
use Rattle.c_tree.specs.declared.expression.Fixity.TheVariants as fixity
use Rattle.c_tree.specs.Valid.{Scope}
use Rattle.c_rules.specs.Values.{Value}
use Rattle.c_rules.proofs.FineConversions.{cast_fine}
use Rattle.c_place_rules.specs.Operands.{Operand, a_value, enclosed}
use Rattle.c_place_rules.specs.Places.{type_in}
use Rattle.c_place_laws.proofs.FineOperands.{enclosed_fine, indexed_fine, size_fine}
use Rattle.c_condition_rules.proofs.FineConditions.{conditional_fine}
use Rattle.c_call_rules.specs.FineCalls.{AreFine}
use Rattle.c_call_rules.specs.Printing.{Format, a_literal, another}
use Rattle.c_scope.specs.Names.{Name}
use Rattle.c_operand_typing.specs.Calls.{Called, a_function, a_pointer, a_printf, a_routine, applied, pointer_called}
use Rattle.c_operand_typing.specs.Calls.{printed}
use Rattle.c_operand_typing.specs.Operators.{assigned_by, assignment_form_of, binary_form_of, combined, indexed}
use Rattle.c_operand_typing.specs.Operators.{prefix_form_of, step_form, stepped_by}
use Rattle.c_operand_typing.specs.Primaries.{character_constant, integer_constant, literal_bytes, spelled_bytes}
use Rattle.c_typing_state.specs.State.{State, Typing, done, extents, judged, ◌>>>◌}
use Rattle.c_expression_typing.specs.Constructs.{Printing, accessed, applied_to, called_by, cast_to, chosen, format_by}
use Rattle.c_expression_typing.specs.Constructs.{literal_alone, plain_name, prefixed, sized, valued}
use Rattle.c_expression_typing.specs.Lines.{name_of, spellings}
use Rattle.c_expression_typing.specs.Typed.{argument_values, more_values, printed_values, type_name, typed}
use Rattle.typing_laws.specs.Validity.Regular.{are_regular, is_regular, more_are_regular}
use Rattle.typing_laws.specs.Validity.Sound.{Sound}
use Rattle.typing_laws.specs.Validity.Steps.{Fine, FineAll, FineValue, PointerCalls, Structures, TypeNames, Written}
use Rattle.typing_laws.specs.Validity.Steps.{nothing}
use Rattle.typing_laws.proofs.Validity.Common.{first, second}
use Rattle.typing_laws.proofs.Validity.Constructs.{assigned_fine, combined_fine, operand_from, place_from}
use Rattle.typing_laws.proofs.Validity.Primaries.{character_fine, integer_fine}
use Rattle.typing_laws.proofs.Validity.Sound.{Stays, both, keeps_same, sound_then, whatever, with_given}
use Rattle.typing_laws.proofs.Validity.Steps.{FineCalled, accessed_sound, all_stays, applied_sound, both_stay}
use Rattle.typing_laws.proofs.Validity.Steps.{called_stays}
use Rattle.typing_laws.proofs.Validity.Steps.{fine_written, judged_sound, literal_sound, name_called_sound, named_sound}
use Rattle.typing_laws.proofs.Validity.Steps.{nothing_stays, pointer_called_sound, prefixed_sound, printed_sound}
use Rattle.typing_laws.proofs.Validity.Steps.{stepped_sound, value_stays, valued_sound, written_stays}

pub done_sound : {A : Type 0} (scope : Scope) (last : Structures) (s : State) (given : Structures → Type 0)
    (p : Structures → A → Type 0) (x : A) → (given (extents s) → p (extents s) x)
    → Sound scope last s given p (done x s)
done_sound scope last s given p x h = λ formed. (keeps_same scope last s formed, λ knows g covers. h g)

module _ (scope : Scope) (last : Structures) (type_names : TypeNames scope last)
    (through : PointerCalls scope last) where
  -- a value behind what is given
  value_then : {B : Type 0} (s : State) (given : Structures → Type 0) → Stays given → (is : Bool)
      (operand : Typing Operand) → Sound scope last s nothing (Fine scope is) (operand s)
      → (q : Structures → B → Type 0) (next : Value → Typing B)
      → ((t : State) (v : Value) → Sound scope last t (both given (FineValue scope is) v) q (next v t))
      → Sound scope last s given q ((valued operand >>> next) s)
  value_then s given stays is operand h q next g =
      sound_then scope last s given stays (FineValue scope is) q (valued operand s) next
      (valued_sound scope last s given stays is operand
      (whatever scope last s given (Fine scope is) (operand s) h)) g

  with_value : (given : Structures → Type 0) → Stays given → (is : Bool) (v : Value)
      → Stays (both given (FineValue scope is) v)
  with_value given stays is v = both_stay given (FineValue scope is) v stays (value_stays scope is v)

  called_by_sound : (is : Bool) (name : Option Spelled) (operand : Typing Operand)
      → ((s : State) → Sound scope last s nothing (Fine scope is) (operand s)) → (s : State)
      → Sound scope last s nothing (FineCalled scope last is) (called_by is name operand s)
  called_by_sound is (Some x) operand h s = name_called_sound scope last is (name_of x) x.position.line s
  called_by_sound is None operand h s =
      sound_then scope last s nothing nothing_stays (Fine scope is) (FineCalled scope last is) (operand s)
      (λ o. judged (pointer_called o)) (h s)
      (λ t o. pointer_called_sound scope last t (both nothing (Fine scope is) o) is o (λ g. g.1))

  abbrev FinePrinting : (is : Bool) → Structures → Printing → Type 0
  FinePrinting is es p = is ≡ true → AreFine scope es p.values

  abbrev Anything : {A : Type 0} → Structures → A → Type 0
  Anything es x = Unit {0}

  values_then : (line : ℕ) (is : Bool) (c : Called) (values : Typing (List Value))
      → ((s : State) → Sound scope last s nothing (FineAll scope is) (values s)) → (s : State)
      (given : Structures → Type 0) → Stays given → (given (extents s) → FineCalled scope last is (extents s) c)
      → Stays (λ es. FineCalled scope last is es c) → ((es : Structures) → given es → FineCalled scope last is es c)
      → Sound scope last s given (Fine scope is) ((values >>> λ vs. applied line c vs) s)
  values_then line is c values h s given stays called called_stay called_in =
      sound_then scope last s given stays (FineAll scope is) (Fine scope is) (values s) (λ vs. applied line c vs)
      (whatever scope last s given (FineAll scope is) (values s) (h s))
      (λ t vs. applied_sound scope last through t (both given (FineAll scope is) vs) is line c vs
      (λ g. called_in (extents t) g.0) (λ g. g.1))

  printing_then : (line : ℕ) (is : Bool) (printing : Typing Printing)
      → ((s : State) → Sound scope last s nothing (FinePrinting is) (printing s)) → (s : State)
      (given : Structures → Type 0) → Stays given
      → Sound scope last s given (Fine scope is) ((printing >>> λ p. judged (printed line p.format p.values)) s)
  printing_then line is printing h s given stays =
      sound_then scope last s given stays (FinePrinting is) (Fine scope is) (printing s)
      (λ p. judged (printed line p.format p.values))
      (whatever scope last s given (FinePrinting is) (printing s) (h s))
      (λ t p. printed_sound scope last t (both given (FinePrinting is) p) is line p.format p.values (λ g. g.1))

  applied_to_sound : (line : ℕ) (is : Bool) (values : Typing (List Value)) (printing : Typing Printing)
      → ((s : State) → Sound scope last s nothing (FineAll scope is) (values s))
      → ((s : State) → Sound scope last s nothing (FinePrinting is) (printing s)) → (c : Called) (s : State)
      → Sound scope last s (both nothing (FineCalled scope last is) c) (Fine scope is)
      (applied_to line values printing c s)
  applied_to_sound line is values printing h g a_printf s =
      printing_then line is printing g s (both nothing (FineCalled scope last is) a_printf)
      (both_stay nothing (FineCalled scope last is) a_printf nothing_stays (called_stays scope last is a_printf))
  applied_to_sound line is values printing h g (a_function n type) s =
      values_then line is (a_function n type) values h s (both nothing (FineCalled scope last is) (a_function n type))
      (both_stay nothing (FineCalled scope last is) (a_function n type) nothing_stays
      (called_stays scope last is (a_function n type))) (λ x. x.1) (called_stays scope last is (a_function n type))
      (λ es x. x.1)
  applied_to_sound line is values printing h g (a_routine r) s =
      values_then line is (a_routine r) values h s (both nothing (FineCalled scope last is) (a_routine r))
      (both_stay nothing (FineCalled scope last is) (a_routine r) nothing_stays (called_stays scope last is
      (a_routine r)))
      (λ x. x.1) (called_stays scope last is (a_routine r)) (λ es x. x.1)
  applied_to_sound line is values printing h g (a_pointer v) s =
      values_then line is (a_pointer v) values h s (both nothing (FineCalled scope last is) (a_pointer v))
      (both_stay nothing (FineCalled scope last is) (a_pointer v) nothing_stays (called_stays scope last is
      (a_pointer v)))
      (λ x. x.1) (called_stays scope last is (a_pointer v)) (λ es x. x.1)

  format_sound : (is : Bool) (names : Option (List Name)) (operand : Typing Operand)
      → ((s : State) → Sound scope last s nothing (Fine scope is) (operand s)) → (s : State)
      → Sound scope last s nothing (λ (es : Structures) (f : Format). Unit {0}) (format_by names operand s)
  format_sound is (Some names) operand h s =
      done_sound scope last s nothing (λ (es : Structures) (f : Format). Unit {0}) (a_literal (spelled_bytes names))
      (λ g. tt)
  format_sound is None operand h s =
      value_then s nothing nothing_stays is operand (h s) (λ (es : Structures) (f : Format). Unit {0})
      (λ v. done (another v))
      (λ t v. done_sound scope last t (both nothing (FineValue scope is) v) (λ (es : Structures) (f : Format). Unit {0})
      (another v) (λ g. tt))

  added_fine : (es : Structures) (vs : List Value) (v : Value) → AreFine scope es vs → AreFine scope es (v ∷ [])
      → AreFine scope es (vs ++ v ∷ [])
  added_fine es [] v h g = g
  added_fine es (u ∷ vs) v h g = (h.0, added_fine es vs v h.1 g)

  mutual
    pub typed_sound : (is : Bool) (e : Expression) → is_regular e ≡ true → (s : State)
        → Sound scope last s nothing (Fine scope is) (typed is e s)
    typed_sound is (t.identifier x) c s = named_sound scope last is (name_of x) x.position.line s
    typed_sound is (t.integer x) c s =
        done_sound scope last s nothing (Fine scope is) (a_value (integer_constant x.spelling x.position.line))
        (λ g p. integer_fine scope (extents s) x.spelling x.position.line)
    typed_sound is (t.character x) c s =
        done_sound scope last s nothing (Fine scope is) (a_value (character_constant x.spelling x.position.line))
        (λ g p. character_fine scope (extents s) x.spelling x.position.line)
    typed_sound is (t.strings x more) c s =
        literal_sound scope last is (literal_bytes (spellings x more)) x.position.line s
    typed_sound is (t.parenthesized l e r) c s =
        sound_then scope last s nothing nothing_stays (Fine scope is) (Fine scope is) (typed is e s)
        (λ o. judged (λ s. enclosed l.line o)) (typed_sound is e c s)
        (λ u o. judged_sound scope last u (both nothing (Fine scope is) o) is (enclosed l.line o)
        (λ knows g covers p. enclosed_fine scope (extents u) l.line o (g.1 p)))
    typed_sound is (t.subscript a l b r) c s =
        value_then s nothing nothing_stays is (typed is a) (typed_sound is a (first _ _ c) s) (Fine scope is)
        (λ x. valued (typed is b) >>> λ y. judged (indexed l.line x y))
        (λ u x. value_then u (both nothing (FineValue scope is) x) (with_value nothing nothing_stays is x) is
        (typed is b)
        (typed_sound is b (second _ _ c) u) (Fine scope is) (λ y. judged (indexed l.line x y))
        (λ w y. judged_sound scope last w (both (both nothing (FineValue scope is) x) (FineValue scope is) y) is
        (indexed l.line x y w)
        (λ knows g covers p. place_from scope (extents w) _ (indexed_fine scope (extents w) l.line x y (g.0.1 p)
        (g.1 p)))))
    typed_sound is (t.call f l args r) c s =
        sound_then scope last s nothing nothing_stays (FineCalled scope last is) (Fine scope is)
        (called_by is (plain_name f) (typed is f) s)
        (applied_to l.line (argument_values is args) (printed_values is args))
        (called_by_sound is (plain_name f) (typed is f) (λ u. typed_sound is f (first _ _ c) u) s)
        (λ u k. applied_to_sound l.line is (argument_values is args) (printed_values is args)
        (λ w. arguments_sound is args (second _ _ c) w) (λ w. printed_sound_in is args (second _ _ c) w) k u)
    typed_sound is (t.member e w at x) c s =
        sound_then scope last s nothing nothing_stays (Fine scope is) (Fine scope is) (typed is e s)
        (accessed w at.line (name_of x)) (typed_sound is e c s)
        (λ u o. accessed_sound scope last u (both nothing (Fine scope is) o) is w at.line (name_of x) o (λ g. g.1))
    typed_sound is (t.postfix e w at) c s =
        sound_then scope last s nothing nothing_stays (Fine scope is) (Fine scope is) (typed is e s)
        (λ o. judged (stepped_by (step_form w) fixity.Postfix at.line o)) (typed_sound is e c s)
        (λ u o. stepped_sound scope last u (both nothing (Fine scope is) o) is (step_form w) fixity.Postfix at.line o
        (λ g. g.1))
    typed_sound is (t.unary w at e) c s =
        sound_then scope last s nothing nothing_stays (Fine scope is) (Fine scope is) (typed is e s)
        (prefixed is (prefix_form_of w) at.line) (typed_sound is e c s)
        (λ u o. prefixed_sound scope last u (both nothing (Fine scope is) o) is (prefix_form_of w) at.line o
        (λ g. g.1))
    typed_sound is (t.sizeof_expression at e) c s =
        sound_then scope last s nothing nothing_stays (Fine scope false) (Fine scope is) (typed false e s)
        (λ o. judged (sized at.line (type_in o))) (typed_sound false e c s)
        (λ u o. judged_sound scope last u (both nothing (Fine scope false) o) is (sized at.line (type_in o) u)
        (λ knows g covers p. operand_from scope (extents u) _ (size_fine scope (extents u) at.line (type_in o))))
    typed_sound is (t.sizeof_type at l x r) c s =
        sound_then scope last s nothing nothing_stays (λ (es : Structures) (type : List TypeWord). Unit {0})
        (Fine scope is) (type_name x s) (λ type. judged (sized at.line type)) (type_names.each x c s)
        (λ u type. judged_sound scope last u
        (both nothing (λ (es : Structures) (type : List TypeWord). Unit {0}) type) is (sized at.line type u)
        (λ knows g covers p. operand_from scope (extents u) _ (size_fine scope (extents u) at.line type)))
    typed_sound is (t.cast l x r e) c s =
        sound_then scope last s nothing nothing_stays (λ (es : Structures) (type : List TypeWord). Unit {0})
        (Fine scope is) (type_name x s) (λ type. valued (typed is e) >>> λ v. judged (cast_to l.line type v))
        (type_names.each x (first _ _ c) s)
        (λ u type. value_then u (both nothing (λ (es : Structures) (type : List TypeWord). Unit {0}) type)
        (both_stay nothing (λ (es : Structures) (type : List TypeWord). Unit {0}) type nothing_stays
        (λ es more h g. tt)) is (typed is e) (typed_sound is e (second _ _ c) u) (Fine scope is)
        (λ v. judged (cast_to l.line type v))
        (λ w v. judged_sound scope last w
        (both (both nothing (λ (es : Structures) (type : List TypeWord). Unit {0}) type) (FineValue scope is) v) is
        (cast_to l.line type v w)
        (λ knows g covers p. operand_from scope (extents w) _ (cast_fine scope (extents w) l.line type v (g.1 p)))))
    typed_sound is (t.binary a w at b) c s =
        value_then s nothing nothing_stays is (typed is a) (typed_sound is a (first _ _ c) s) (Fine scope is)
        (λ x. valued (typed is b) >>> λ y. judged (combined (binary_form_of w) at.line x y))
        (λ u x. value_then u (both nothing (FineValue scope is) x) (with_value nothing nothing_stays is x) is
        (typed is b)
        (typed_sound is b (second _ _ c) u) (Fine scope is) (λ y. judged (combined (binary_form_of w) at.line x y))
        (λ v y. judged_sound scope last v (both (both nothing (FineValue scope is) x) (FineValue scope is) y) is
        (combined (binary_form_of w) at.line x y v)
        (λ knows g covers p. combined_fine scope (binary_form_of w) at.line x y v (g.0.1 p) (g.1 p))))
    typed_sound is (t.conditional k q a colon b) c s =
        value_then s nothing nothing_stays is (typed is k) (typed_sound is k (first _ _ (first _ _ c)) s)
        (Fine scope is)
        (λ x. valued (typed is a) >>> λ y. valued (typed is b) >>> λ z. judged (chosen q.line x y z))
        (λ u x. value_then u (both nothing (FineValue scope is) x) (with_value nothing nothing_stays is x) is
        (typed is a)
        (typed_sound is a (second _ _ (first _ _ c)) u) (Fine scope is)
        (λ y. valued (typed is b) >>> λ z. judged (chosen q.line x y z))
        (λ v y. value_then v (both (both nothing (FineValue scope is) x) (FineValue scope is) y)
        (with_value (both nothing (FineValue scope is) x) (with_value nothing nothing_stays is x) is y) is (typed is b)
        (typed_sound is b (second _ _ c) v) (Fine scope is) (λ z. judged (chosen q.line x y z))
        (λ w z. judged_sound scope last w
        (both (both (both nothing (FineValue scope is) x) (FineValue scope is) y) (FineValue scope is) z) is
        (chosen q.line x y z w)
        (λ knows g covers p. operand_from scope (extents w) _
        (conditional_fine scope (extents w) q.line x y z (g.0.0.1 p) (g.0.1 p) (g.1 p))))))
    typed_sound is (t.assignment a w at b) c s =
        sound_then scope last s nothing nothing_stays (Fine scope is) (Fine scope is) (typed is a s)
        (λ o. valued (typed is b) >>> λ v. judged (assigned_by (assignment_form_of w) at.line o v))
        (typed_sound is a (first _ _ c) s)
        (λ u o. with_given scope last u (λ es. Written scope is es o) (both nothing (Fine scope is) o) (Fine scope is)
        ((valued (typed is b) >>> λ v. judged (assigned_by (assignment_form_of w) at.line o v)) u)
        (λ g. fine_written scope is (extents u) o g.1)
        (value_then u (λ es. Written scope is es o) (written_stays scope is o) is (typed is b)
        (typed_sound is b (second _ _ c) u) (Fine scope is)
        (λ v. judged (assigned_by (assignment_form_of w) at.line o v))
        (λ z v. judged_sound scope last z (both (λ es. Written scope is es o) (FineValue scope is) v) is
        (assigned_by (assignment_form_of w) at.line o v z)
        (λ knows g covers p. assigned_fine scope (assignment_form_of w) at.line o v z (g.0 p) (g.1 p)))))

    arguments_sound : (is : Bool) (args : Arguments) → are_regular args ≡ true → (s : State)
        → Sound scope last s nothing (FineAll scope is) (argument_values is args s)
    arguments_sound is t.no_arguments c s = done_sound scope last s nothing (FineAll scope is) [] (λ g p. tt)
    arguments_sound is (t.arguments e more) c s =
        value_then s nothing nothing_stays is (typed is e) (typed_sound is e (first _ _ c) s) (FineAll scope is)
        (λ v. more_values is more (v ∷ []))
        (λ u v. with_given scope last u (λ es. FineAll scope is es (v ∷ [])) (both nothing (FineValue scope is) v)
        (FineAll scope is) (more_values is more (v ∷ []) u) (λ g p. (g.1 p, tt))
        (more_sound is more (second _ _ c) (v ∷ []) u))

    more_sound : (is : Bool) (more : MoreArguments) → more_are_regular more ≡ true → (vs : List Value) (s : State)
        → Sound scope last s (λ es. FineAll scope is es vs) (FineAll scope is) (more_values is more vs s)
    more_sound is t.end_of_arguments c vs s =
        done_sound scope last s (λ es. FineAll scope is es vs) (FineAll scope is) vs (λ g. g)
    more_sound is (t.more_arguments at e more) c vs s =
        value_then s (λ es. FineAll scope is es vs) (all_stays scope is vs) is (typed is e)
        (typed_sound is e (first _ _ c) s) (FineAll scope is) (λ v. more_values is more (vs ++ v ∷ []))
        (λ u v. with_given scope last u (λ es. FineAll scope is es (vs ++ v ∷ []))
        (both (λ es. FineAll scope is es vs) (FineValue scope is) v) (FineAll scope is)
        (more_values is more (vs ++ v ∷ []) u)
        (λ g p. added_fine (extents u) vs v (g.0 p) (g.1 p, tt)) (more_sound is more (second _ _ c) (vs ++ v ∷ []) u))

    printed_sound_in : (is : Bool) (args : Arguments) → are_regular args ≡ true → (s : State)
        → Sound scope last s nothing (FinePrinting is) (printed_values is args s)
    printed_sound_in is t.no_arguments c s =
        done_sound scope last s nothing (FinePrinting is) (record { format = None; values = [] }) (λ g p. tt)
    printed_sound_in is (t.arguments e more) c s =
        sound_then scope last s nothing nothing_stays (λ (es : Structures) (f : Format). Unit {0}) (FinePrinting is)
        (format_by (literal_alone e) (typed is e) s)
        (λ format. more_values is more [] >>> λ vs. done (record { format = Some format; values = vs }))
        (format_sound is (literal_alone e) (typed is e) (λ u. typed_sound is e (first _ _ c) u) s)
        (λ u f. sound_then scope last u (both nothing (λ (es : Structures) (f : Format). Unit {0}) f)
        (both_stay nothing (λ (es : Structures) (f : Format). Unit {0}) f nothing_stays (λ es more h g. tt))
        (FineAll scope is) (FinePrinting is) (more_values is more [] u)
        (λ vs. done (record { format = Some f; values = vs }))
        (with_given scope last u (λ es. FineAll scope is es [])
        (both nothing (λ (es : Structures) (f : Format). Unit {0}) f) (FineAll scope is) (more_values is more [] u)
        (λ g p. tt) (more_sound is more (second _ _ c) [] u))
        (λ w vs. done_sound scope last w
        (both (both nothing (λ (es : Structures) (f : Format). Unit {0}) f) (FineAll scope is) vs) (FinePrinting is)
        (record { format = Some f; values = vs }) (λ g. g.1)))
