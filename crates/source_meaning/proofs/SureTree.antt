-- Expressions, lvalues and initializers keep objects sound, and an lvalue that rests on a name is of bytes of a live
-- object.
use Rattle.source_meaning.specs.Good.{PlaceIs, on_pointer, function_count, AreOfKinds, IsGiven, IsOfKind, IsOfType}
use Rattle.source_meaning.specs.Good.{IsWord, After, Any, ArgumentIs, ArgumentsAre, Basis, Calling, Context}
use Rattle.source_meaning.specs.Good.{HasContents, IsGood, IsTagged, LvalueIs, OfKind, OnName, OnPointer, OnValue}
use Rattle.source_meaning.specs.Good.{RvalueReach, StructureIs, Sure, ValueIs, basis_of, giving, node_basis}
use Rattle.source_meaning.specs.Good.{object_kind, signature_in, static_kind}
use Rattle.std.proofs.Common.{◌≡◌, ℕ, ◌+◌, ◌<◌, ◌≤◌, Bool, true, false, ◌&&◌, ◌==◌, List, [], ◌∷◌, Option, Some, None}
use Rattle.std.proofs.Common.{length, refl, sym, subst, arith}
use Rattle.obj_memory.specs.declared.int_type.IntType.TheVariants.{Char, Int, Long}
use Rattle.obj_memory.specs.declared.operator.BinaryOperator.{BinaryOperator}
use Rattle.obj_memory.proofs.Words.{fit_twice, fit_zero}
use Rattle.obj_memory.proofs.Typed.{truth_stays}
use Rattle.c_tree.specs.Kinds.{pointer, class_of, are_operands, routine_signature}
use Rattle.c_tree.specs.Valid.{Scope}
use Rattle.source_meaning.proofs.Fitting.{unary_fits, binary_fits}
use Rattle.source_meaning.proofs.ValidNames.{none_routine}
use Rattle.obj_memory.specs.declared.value.Tag.{Tag}
use Rattle.obj_memory.specs.declared.value.Tag.TheVariants.{Untagged, OfFunction, OfObject}
use Rattle.sb_base.specs.declared.ending.Ending.TheVariants.{BadCall}
use Rattle.addr_map.specs.Places.{function_address}
use Rattle.obj_memory.specs.declared.value.Value.{Value}
use Rattle.obj_memory.specs.declared.value.Scalar.TheVariants.{Integer, Pointer}
use Rattle.obj_memory.specs.Objects.{ObjectState, Objects, pointer_to}
use Rattle.obj_memory.specs.Integers.{size_of}
use Rattle.obj_memory.specs.Judgement.{narrowed}
use Rattle.obj_memory.proofs.Judging.{sound_pointer, sound_narrowed}
use Rattle.c_tree.specs.declared.expression.Fixity.{Fixity}
use Rattle.c_tree.specs.declared.expression.Fixity.TheVariants.{Prefix}
use Rattle.c_tree.specs.declared.expression.Update.{Update}
use Rattle.c_tree.specs.declared.expression.Kind.{Kind}
use Rattle.c_tree.specs.declared.expression.Kind.TheVariants.{Void, Scalar as OfScalar, Structure, Array}
use Rattle.c_tree.specs.Tree.{Expression, expression, Expressions, no_expressions, expressions, Lvalue, lvalue, Node}
use Rattle.c_tree.specs.Tree.{constant, function, plain, read, decay, address, parenthesized, deref_function}
use Rattle.c_tree.specs.Tree.{address_function, cast, convert, unary, binary, offset_by, difference, logical_and}
use Rattle.c_tree.specs.Tree.{logical_or, comma, conditional, assign, assign_plain, compound, change_plain, step}
use Rattle.c_tree.specs.Tree.{step_plain, call, call_through, library, printf, LvalueNode, automatic, static, deref}
use Rattle.c_tree.specs.Tree.{index, member, arrow, member_of_value, parenthesized_lvalue, kind_of, line_of}
use Rattle.c_tree.specs.Tree.{lvalue_kind, lvalue_line, kinds_of}
use Rattle.c_tree.specs.Statements.{Part, Content, value_content, literal_content, Initializer, of_plain, of_object}
use Rattle.c_tree.specs.Statements.{DeclaredVariable}
use Rattle.source_meaning.specs.State.{Home}
use Rattle.source_meaning.specs.State.{State, Rvalue, done, stop, choose, read_state, Header, Env}
use Rattle.c_tree.specs.Kinds.{size_of_kind}
use Rattle.source_meaning.specs.Actions.{integer, is_zero, scalar_of, integer_type, converted, offset_value, operate}
use Rattle.source_meaning.specs.Actions.{updated, plain_value, set_plain, update_plain, home_value, home_pointer}
use Rattle.source_meaning.specs.Actions.{each_value, update}
use Rattle.source_meaning.specs.Structures.{rvalue, give, as_rvalue, values_of, write_rvalue, read_rvalue, member_of}
use Rattle.source_meaning.specs.Expressions.{header_at, has_type, callee_by, callee, argument, counted, nodes_of}
use Rattle.source_meaning.specs.Expressions.{is_judged, is_node_judged, value, place, node_place, values, evaluate}
use Rattle.source_meaning.specs.Initializers.{store_bytes, store_content, store_parts, initialize, initialize_all}
use Rattle.source_meaning.proofs.Naming.{IsNamedAs, IsNoStructure, IsStructureWith, IsConstantOf, PlainNames}
use Rattle.source_meaning.proofs.Naming.{UpdatesKind}
use Rattle.source_meaning.proofs.Naming.{ValueNames, LvalueNames, PlaceNames, RowNames, Names, ContentNames, PartsName}
use Rattle.source_meaning.proofs.Naming.{InitializerNames, DeclaredName}
use Rattle.source_meaning.specs.Keeping.{IsNamed}
use Rattle.source_meaning.proofs.Holding.{direct_less, direct_narrowed, named_less, named_narrowed, named_on}
use Rattle.source_meaning.proofs.Holding.{held_named}
use Rattle.source_meaning.proofs.Laying.{low_word}
use Rattle.source_meaning.proofs.Sure.{IsStable, sure_on, sure_weak, sure_if_good, sure_any, sure_post, sure_frame}
use Rattle.source_meaning.proofs.Sure.{sure_beside, sure_done, sure_value, sure_skip, sure_stop, sure_read, sure_tally}
use Rattle.source_meaning.proofs.Sure.{sure_counted_as, sure_counted, sure_choose, GivesScalar, writable_place}
use Rattle.source_meaning.proofs.Sure.{stable_place, stable_tag, stable_argument, argument_value, arguments_tagged}
use Rattle.source_meaning.proofs.Sure.{arguments_of_kinds, word_of_kind, plainly, of_kind, sure_give, as_sure}
use Rattle.source_meaning.proofs.Sure.{pointer_sure}
use Rattle.source_meaning.proofs.SureStructures.{direct_word, sure_read_rvalue, sure_write_rvalue, take_sure}
use Rattle.source_meaning.proofs.SureActions.{converted_tagged, converted_is, offset_tagged, offset_word, sure_operate}
use Rattle.source_meaning.proofs.SureActions.{sure_store, sure_update, sure_set_plain, sure_update_plain}
use Rattle.source_meaning.proofs.SureActions.{sure_zero_variable}

-- lvalues

mutual
  pub judged_is : (p : Lvalue) → is_judged p ≡ on_pointer (basis_of p)
  judged_is (lvalue kind line node) = node_judged_is node

  node_judged_is : (n : LvalueNode) → is_node_judged n ≡ on_pointer (node_basis n)
  node_judged_is (automatic x) = refl
  node_judged_is (static n) = refl
  node_judged_is (deref a) = refl
  node_judged_is (index form size a b) = refl
  node_judged_is (member p offset size) = judged_is p
  node_judged_is (arrow a offset size) = refl
  node_judged_is (member_of_value a offset size) = refl
  node_judged_is (parenthesized_lvalue p) = judged_is p

read_sure : {sc : Context} (p : Lvalue) (kind : Kind) (q : Rvalue) (line : ℕ)
    → Sure sc (LvalueIs (function_count sc) (basis_of p) kind q) (read_rvalue kind (is_judged p) q line)
    (ValueIs (function_count sc) kind)
read_sure {sc = sc} p kind q line = subst
    (λ j. Sure sc (LvalueIs (function_count sc) (basis_of p) kind q) (read_rvalue kind j q line)
    (ValueIs (function_count sc) kind)) (sym (judged_is p)) (sure_read_rvalue (basis_of p) kind q line)

write_sure : {sc : Context} (p : Lvalue) (kind : Kind) (q : Value) (line : ℕ) (v : Rvalue)
    → Sure sc (λ o. PlaceIs (function_count sc) (basis_of p) kind q o × ValueIs (function_count sc) kind v o)
    (write_rvalue kind (is_judged p) q line v) (ValueIs (function_count sc) kind)
write_sure {sc = sc} p kind q line v =
    subst (λ j. Sure sc (λ o. PlaceIs (function_count sc) (basis_of p) kind q o × ValueIs (function_count sc) kind v o)
    (write_rvalue kind j q line v) (ValueIs (function_count sc) kind)) (sym (judged_is p))
    (sure_write_rvalue (basis_of p) kind q line v)

update_sure : {sc : Context} (p : Lvalue) (kind : Kind) (q : Value) (line : ℕ) (u : Update) → UpdatesKind u kind
    → (right : Value) (at : ℕ) (f : Fixity)
    → Sure sc (PlaceIs (function_count sc) (basis_of p) kind q)
    (update (scalar_of kind) (is_judged p) q line (updated u (scalar_of kind) right at) f)
    (IsGiven (function_count sc) kind)
update_sure p Void q line u w right at f = absurd w
update_sure {sc = sc} p (OfScalar k) q line u w right at f =
    subst (λ j. Sure sc (PlaceIs (function_count sc) (basis_of p) (OfScalar k) q)
    (update k j q line (updated u k right at) f) (IsGiven (function_count sc) (OfScalar k))) (sym (judged_is p))
    (sure_update (basis_of p) k q line u w right at f)
update_sure p (Structure n) q line u w right at f = absurd w
update_sure p (Array n) q line u w right at f = absurd w

updates_none : (u : Update) (kind : Kind) → UpdatesKind u kind → IsNoStructure kind
updates_none u Void w = absurd w
updates_none u (OfScalar k) w = tt
updates_none u (Structure n) w = absurd w
updates_none u (Array n) w = absurd w

-- values

function_word : (functions f : ℕ) → f < functions → IsWord functions (function_address f)
unfolding function_address
function_word functions f lt = λ few. omega (arith, lt, few)

narrowed_is : (functions offset size : ℕ) (v : Value) → IsWord functions (narrowed offset size v).word
unfolding narrowed
narrowed_is functions offset size v = λ _. omega arith

constant_sure : {sc : Context} (w : ℕ) (kind : Kind) → IsConstantOf w kind
    → Sure sc Any (counted (give (integer w))) (ValueIs (function_count sc) kind)
constant_sure w Void h = absurd h
constant_sure w (OfScalar (Integer t)) h = plainly tt
    (sure_counted (sure_give (OfScalar (Integer t)) (λ o p. (tt, (refl, h)))))
constant_sure w (OfScalar Pointer) h = absurd h
constant_sure w (Structure n) h = absurd h
constant_sure w (Array n) h = absurd h

binary_sure : {sc : Context} (op : BinaryOperator) (k l result : Kind) → are_operands (class_of op) k l result ≡ true
    → (x y : Value) (line : ℕ)
    → Sure sc (λ o. IsOfKind (function_count sc) k x × IsOfKind (function_count sc) l y)
    (as_rvalue (operate op (integer_type (scalar_of k)) x y line)) (ValueIs (function_count sc) result)
binary_sure {sc = sc} op k l result e x y line =
    let f = binary_fits op k l result e in
    record {
      by = λ s good p.
          (of_kind {P = Any} f.1
          (plainly tt (as_sure (OfScalar (Integer f.0))
          (sure_operate op (integer_type (scalar_of k)) x y line f.0 (f.2 (function_count sc) x y p.0 p.1))))).by s good
          tt;
    }

-- plain variables

plain_none : (scope : Scope) (x : ℕ) (kind : Kind) → PlainNames scope x kind → IsNoStructure kind
plain_none scope x Void h = absurd h
plain_none scope x (OfScalar k) h = tt
plain_none scope x (Structure n) h = absurd h
plain_none scope x (Array n) h = absurd h

plain_sure : {sc : Context} (x : ℕ) (kind : Kind) → PlainNames sc.scope x kind
    → Sure sc Any (counted (as_rvalue (read_state (plain_value x)))) (ValueIs (function_count sc) kind)
plain_sure x Void h = absurd h
plain_sure x (OfScalar k) h = plainly tt
    (sure_counted (as_sure (OfScalar k)
    (sure_read {f = plain_value x} (λ s good p. (good.plain x, good.typed.value x k (good.typed.named x k h))))))
plain_sure x (Structure n) h = absurd h
plain_sure x (Array n) h = absurd h

set_sure : {sc : Context} (x : ℕ) (kind : Kind) → PlainNames sc.scope x kind → (v : Rvalue)
    → Sure sc (ValueIs (function_count sc) kind v) (set_plain x v.value)
    (λ _ o. IsGiven (function_count sc) kind v.value o)
set_sure x Void h v = absurd h
set_sure {sc = sc} x (OfScalar k) h v =
    sure_post (λ _ o y. (y.1, y.0)) (sure_weak (λ o y. (y.word, (y.tag, y.word)))
    (sure_frame {P0 = λ o. IsOfType (function_count sc) k v.value} (λ old new l z. z) (sure_set_plain x k h v.value)))
set_sure x (Structure n) h v = absurd h
set_sure x (Array n) h v = absurd h

change_sure : {sc : Context} {P : Objects → Type 0} (u : Update) (x : ℕ) (kind : Kind) → PlainNames sc.scope x kind
    → UpdatesKind u kind → (right : Value) (at : ℕ) (f : Fixity)
    → Sure sc P (as_rvalue (update_plain x (updated u (scalar_of kind) right at) f)) (ValueIs (function_count sc) kind)
change_sure u x Void h w right at f = absurd h
change_sure u x (OfScalar k) h w right at f = plainly tt (as_sure (OfScalar k) (sure_update_plain x u k w h right at f))
change_sure u x (Structure n) h w right at f = absurd h
change_sure u x (Array n) h w right at f = absurd h

-- a member of an lvalue, and a part that is no larger

narrowed_contents : (functions : ℕ) (offset size whole n : ℕ) (v : Value) (c : ObjectState) (o : Objects)
    → offset + size ≤ whole → n ≤ size → HasContents functions whole v.word c o
    → HasContents functions n (narrowed offset size v).word c o
unfolding narrowed
narrowed_contents functions offset size whole n v c o le less h = record
    { sound = h.sound; room = omega (arith, le, less, h.room) }

structure_narrowed : {sc : Context} (whole offset size n : ℕ) (c : Option ObjectState) (v : Value)
    → offset + size ≤ whole → n ≤ size → (s : State) → IsGood sc s → StructureIs (function_count sc) whole c v s.objects
    → StructureIs (function_count sc) n c (narrowed offset size v) s.objects
structure_narrowed whole offset size n None v le less s good h = direct_less s.objects _ size n less
    (direct_narrowed s.objects v whole offset size h (good.low h.object) le)
structure_narrowed whole offset size n (Some c) v le less s good h = narrowed_contents _ offset size whole n v c
    s.objects le less h

reach_narrowed : {sc : Context} (b : Basis) (whole offset size n : ℕ) (c : Option ObjectState) (q : Value)
    → offset + size ≤ whole → n ≤ size → (s : State) → IsGood sc s
    → RvalueReach (function_count sc) b whole c q s.objects
    → RvalueReach (function_count sc) b n c (narrowed offset size q) s.objects
reach_narrowed OnName whole offset size n c q le less s good h = (
  h.0,
  named_less s.objects _ size n less
      (named_narrowed s.objects q whole offset size h.1 (good.low h.1.direct.object) le),
)
reach_narrowed OnPointer whole offset size n c q le less s good h = h
reach_narrowed OnValue whole offset size n c q le less s good h = structure_narrowed whole offset size n c q le less s
    good h

structure_reach : (functions : ℕ) (kind : Kind) (bytes : ℕ) (v : Rvalue) → IsStructureWith kind bytes → {A : Type 0}
    → ((n : ℕ) → bytes ≤ n → ((o : Objects) → OfKind functions kind v o → StructureIs functions n v.contents v.value o)
    → A) → A
structure_reach functions Void bytes v h k = absurd h
structure_reach functions (OfScalar s) bytes v h k = absurd h
structure_reach functions (Structure n) bytes v h k = k n h (λ o d. d)
structure_reach functions (Array n) bytes v h k = absurd h

-- a name that stands for as many bytes as an object has, or for fewer
named_as : (functions : ℕ) (o : Option Kind) (kind : Kind) (v : Value) (objects : Objects)
    → ((declared : Kind) → o ≡ Some declared → PlaceIs functions OnName declared v objects) → IsNamedAs o kind
    → PlaceIs functions OnName kind v objects
named_as functions None kind v objects h e = absurd e
named_as functions (Some declared) kind v objects h e =
    let place = h declared refl in
    (place.0, named_less objects v (size_of_kind declared) (size_of_kind kind) e place.1)

pub named_same : (o : Option Kind) (kind : Kind) → o ≡ Some kind → IsNamedAs o kind
named_same o kind e = subst (λ x. IsNamedAs x kind) (sym e) (omega arith)

pub home_sure : {sc : Context} (x : ℕ) (kind : Kind) → IsNamedAs (object_kind sc.scope.variables x) kind → (s : State)
    → IsGood sc s → PlaceIs (function_count sc) OnName kind (home_pointer x s) s.objects
home_sure {sc = sc} x kind e s good =
    named_as (function_count sc) (object_kind sc.scope.variables x) kind (home_pointer x s) s.objects (λ declared is.
    let h = good.homes x declared is in
    subst (λ (home : Home). PlaceIs (function_count sc) OnName declared (home_value home s.objects) s.objects)
    (sym h.home) (
      sound_pointer _ h.object s.objects h.held.made (low_word s.objects h.object good.low),
      held_named s.objects h.object declared h.held,
    )) e

static_sure : {sc : Context} (n : ℕ) (kind : Kind) → IsNamedAs (static_kind sc.scope.statics n) kind → (s : State)
    → IsGood sc s → PlaceIs (function_count sc) OnName kind (pointer_to n s.objects) s.objects
static_sure {sc = sc} n kind e s good =
    named_as (function_count sc) (static_kind sc.scope.statics n) kind (pointer_to n s.objects) s.objects
    (λ declared is.
    let h = good.statics n declared is in
    (sound_pointer _ n s.objects h.made (low_word s.objects n good.low), held_named s.objects n declared h)) e

place_named : (functions : ℕ) (kind : Kind) (v : Value) (o : Objects)
    → PlaceIs functions OnName kind v o × IsWord functions v.word → LvalueIs functions OnName kind (rvalue v) o
place_named functions kind v o h = record { tag = h.0.0; reach = (refl, h.0.1); word = h.1 }

-- the place of a name is a word
named_word : {sc : Context} (kind : Kind) (v : Value) (s : State) → IsGood sc s
    → PlaceIs (function_count sc) OnName kind v s.objects
    → PlaceIs (function_count sc) OnName kind v s.objects × IsWord (function_count sc) v.word
named_word {sc = sc} kind v s good h =
    (h, direct_word (function_count sc) s.objects v (size_of_kind kind) good.low h.1.direct)

-- a pointer that an lvalue rests on
on_pointer_is : (functions : ℕ) (kind : Kind) (v : Rvalue) (o : Objects) → GivesScalar functions pointer v o
    → LvalueIs functions OnPointer kind v o
on_pointer_is functions kind v o h = record { tag = h.0; reach = h.1; word = h.2 }

module _ {sc : Context} {env : Env} (c : Calling sc env) where
  converted_sound : (kind from : Kind) (v : Value) (o : Objects) → IsTagged (function_count sc) v o
      → IsOfKind (function_count sc) from v → IsGiven (function_count sc) kind (converted kind v) o
  converted_sound kind from v o t w = (
    converted_tagged _ kind v o t,
    converted_is (function_count sc) kind v
        (word_of_kind (function_count sc) from v w),
  )

  -- the function that is called through a pointer has the call's type
  callee_sure : {P : Objects → Type 0} (functions : List Header) (type : ℕ) (v : Value) (line : ℕ)
      → Sure sc P (callee functions type v line) (λ f o. P o × (has_type (header_at functions f) type ≡ true))
  callee_sure {P = P} functions type v line = by v.tag
    where
      by : (t : Tag) → Sure sc P (callee_by functions type v.word t line)
          (λ f o. P o × (has_type (header_at functions f) type ≡ true))
      by Untagged = sure_stop
      by (OfFunction f) = chosen (v.word == function_address f) (has_type (header_at functions f) type) refl
        where
          chosen : (a b : Bool) → has_type (header_at functions f) type ≡ b
              → Sure sc P (choose (a && b) (done f) (stop (BadCall line)))
              (λ f o. P o × (has_type (header_at functions f) type ≡ true))
          chosen true true e = sure_done (λ o p. (p, e))
          chosen true false e = sure_stop
          chosen false b e = sure_stop
      by (OfObject n b) = sure_stop

  called_sure : (f type : ℕ) (vs : List Rvalue) (line : ℕ)
      → Sure sc (λ o. ArgumentsAre (function_count sc) (signature_in sc.scope.types type).parameters vs o
      × (has_type (header_at env.setting.functions f) type ≡ true)) (env.call f vs line)
      (ValueIs (function_count sc) (signature_in sc.scope.types type).result)
  called_sure f type vs line = record {
    by = λ s good h.
        let same = c.typed f type h.1 in
        subst (λ q. After sc s (ValueIs (function_count sc) q.result) (env.call f vs line s)) same
        ((sure_post (λ v o x. argument_value _ (giving sc f) v o x) (c.call f vs line)).by s good
        (subst (λ q. ArgumentsAre (function_count sc) q.parameters vs s.objects) (sym same) h.0));
  }

  mutual
    pub evaluate_sure : (e : Expression) → Names sc.scope e
        → Sure sc Any (evaluate env e) (ValueIs (function_count sc) (kind_of e))
    evaluate_sure (expression kind line node) h = value_sure node kind line h

    pub value_sure : (n : Node) (kind : Kind) (line : ℕ) → ValueNames sc.scope n kind
        → Sure sc Any (value env n kind line) (ValueIs (function_count sc) kind)
    value_sure (constant w) kind line h = constant_sure w kind h
    value_sure (function f) kind line h = of_kind h.1
        (plainly tt (sure_counted (sure_give pointer (λ o p. (h.0, function_word (function_count sc) f h.0)))))
    value_sure (plain x) kind line h = plain_sure x kind h
    value_sure (read p) kind line h = of_kind h.1
        (sure_on (place_sure p h.0) (λ q. read_sure p (lvalue_kind p) q (lvalue_line p)))
    value_sure (decay p) kind line h = of_kind h.1
        (plainly tt (pointer_sure pointer (sure_post (λ q o x. (x.tag, x.word)) (place_sure p h.0))))
    value_sure (address p) kind line h = of_kind h.1
        (plainly tt (sure_counted (pointer_sure pointer (sure_post (λ q o x. (x.tag, x.word)) (place_sure p h.0)))))
    value_sure (parenthesized a) kind line h = of_kind h.1 (sure_counted (evaluate_sure a h.0))
    value_sure (deref_function a) kind line h =
        of_kind h.2 (plainly tt
        (sure_counted (pointer_sure pointer
        (sure_post (λ v o x. (x.tag, word_of_kind (function_count sc) (kind_of a) v.value x.word))
        (evaluate_sure a h.0)))))
    value_sure (address_function a) kind line h =
        of_kind h.2 (plainly tt
        (sure_counted (pointer_sure pointer
        (sure_post (λ v o x. (x.tag, word_of_kind (function_count sc) (kind_of a) v.value x.word))
        (evaluate_sure a h.0)))))
    value_sure (cast a) kind line h =
        plainly h.1 (sure_counted
        (sure_on (evaluate_sure a h.0)
        (λ v. sure_give {v = converted kind v.value} kind
        (λ o x. converted_sound kind (kind_of a) v.value o x.tag x.word))))
    value_sure (convert a) kind line h =
        plainly h.1 (sure_on (evaluate_sure a h.0)
        (λ v. sure_give {v = converted kind v.value} kind
        (λ o x. converted_sound kind (kind_of a) v.value o x.tag x.word)))
    value_sure (unary op a) kind line h =
        let f = unary_fits op (kind_of a) kind h.1 in
        of_kind f.1 (plainly tt
        (sure_counted (sure_on (evaluate_sure a h.0)
        (λ v. sure_give (OfScalar (Integer f.0)) (λ o x. (tt, (refl, f.2 v.value.word)))))))
    value_sure (binary op a b) kind line h =
        sure_counted (sure_on (evaluate_sure a h.0) (λ x.
        sure_on (sure_weak (λ o v. v.word)
        (sure_beside {P0 = λ o. IsOfKind (function_count sc) (kind_of a) x.value} (λ old new l z. z)
        (evaluate_sure b h.1))) (λ y.
        sure_weak (λ o z. (z.0, z.1.word)) (binary_sure op (kind_of a) (kind_of b) kind h.2 x.value y.value line))))
    value_sure (offset_by form size a b) kind line h =
        of_kind h.2 (plainly tt (sure_counted (sure_on (evaluate_sure a h.0) (λ x.
        sure_on (sure_weak (λ o v. v.tag) (sure_beside (stable_tag _ x.value) (evaluate_sure b h.1))) (λ y.
        sure_give {v = offset_value form size x.value y.value} pointer
        (λ o v. (
          offset_tagged _ form size x.value y.value o v.0 v.1.tag,
          offset_word (function_count sc) form size
              x.value y.value,
        )))))))
    value_sure (difference size a b) kind line h =
        of_kind h.2 (plainly tt
        (sure_counted (sure_on (evaluate_sure a h.0)
        (λ x. sure_on (sure_any (evaluate_sure b h.1))
        (λ y. sure_give (OfScalar (Integer Long)) (λ o v. (tt, (refl, fit_twice Long _))))))))
    value_sure (logical_and a b) kind line h =
        of_kind h.2 (plainly tt
        (sure_counted (sure_on (evaluate_sure a h.0)
        (λ x. sure_choose (is_zero x.value) (sure_give (OfScalar (Integer Int)) (λ o v. (tt, (refl, fit_zero Int))))
        (sure_on (sure_any (evaluate_sure b h.1))
        (λ y. sure_give (OfScalar (Integer Int)) (λ o v. (tt, (refl, truth_stays Int _)))))))))
    value_sure (logical_or a b) kind line h =
        of_kind h.2 (plainly tt (sure_counted (sure_on (evaluate_sure a h.0) (λ x. sure_choose (is_zero x.value)
        (sure_on (sure_any (evaluate_sure b h.1))
        (λ y. sure_give (OfScalar (Integer Int)) (λ o v. (tt, (refl, truth_stays Int _)))))
        (sure_give (OfScalar (Integer Int)) (λ o v. (tt, (refl, truth_stays Int true))))))))
    value_sure (comma a b) kind line h = of_kind h.2
        (sure_counted (sure_on (evaluate_sure a h.0) (λ x. sure_any (evaluate_sure b h.1))))
    value_sure (conditional a b k) kind line h =
        sure_counted (sure_on (evaluate_sure a h.0)
        (λ x. sure_choose (is_zero x.value) (sure_any (of_kind h.4 (evaluate_sure k h.2)))
        (sure_any (of_kind h.3 (evaluate_sure b h.1)))))
    value_sure (assign p a) kind line h =
        of_kind h.4 (sure_counted (sure_on (place_sure p h.0) (λ q.
        sure_on (sure_weak (λ o x. writable_place _ (basis_of p) h.1 (lvalue_kind p) q o x)
        (sure_beside (stable_place _ (basis_of p) h.1 (lvalue_kind p) q.value) (of_kind h.3 (evaluate_sure a h.2))))
        (λ v. write_sure p (lvalue_kind p) q.value (lvalue_line p) v))))
    value_sure (assign_plain x a) kind line h =
        of_kind h.2 (plainly (plain_none sc.scope x.variable (kind_of a) h.1)
        (sure_counted_as (nodes_of x) (sure_on (evaluate_sure a h.0) (λ v.
        sure_on (set_sure x.variable (kind_of a) h.1 v) (λ _. sure_give {v = v.value} (kind_of a) (λ o y. y))))))
    value_sure (compound u p a) kind line h =
        of_kind h.4 (plainly (updates_none u (lvalue_kind p) h.2) (sure_counted (sure_on (place_sure p h.0) (λ q.
        sure_on (sure_weak (λ o x. writable_place _ (basis_of p) h.1 (lvalue_kind p) q o x)
        (sure_beside (stable_place _ (basis_of p) h.1 (lvalue_kind p) q.value) (evaluate_sure a h.3))) (λ y.
        as_sure (lvalue_kind p)
        (sure_weak (λ o v. v.0)
        (update_sure p (lvalue_kind p) q.value (lvalue_line p) u h.2 y.value line Prefix)))))))
    value_sure (change_plain u x a) kind line h =
        sure_counted_as (nodes_of x)
        (sure_on (evaluate_sure a h.0) (λ y. change_sure u x.variable kind h.1 h.2 y.value line Prefix))
    value_sure (step u fixity p) kind line h =
        of_kind h.3 (plainly (updates_none u (lvalue_kind p) h.2) (sure_counted (sure_on (place_sure p h.0) (λ q.
        as_sure (lvalue_kind p)
        (sure_weak (λ o x. writable_place _ (basis_of p) h.1 (lvalue_kind p) q o x)
        (update_sure p (lvalue_kind p) q.value (lvalue_line p) u h.2 (integer 1) line fixity))))))
    value_sure (step_plain u fixity x) kind line h = sure_counted_as (nodes_of x)
        (change_sure u x.variable kind h.0 h.1 (integer 1) line fixity)
    value_sure (call f args) kind line h =
        of_kind h.2 (sure_counted
        (sure_on (sure_post (λ vs o x. subst (λ ks. ArgumentsAre (function_count sc) ks vs o) h.1 x)
        (values_sure args h.0)) (λ vs.
        sure_post (λ v o x. argument_value _ (giving sc f) v o x) (c.call f vs line))))
    value_sure (call_through type_number a args) kind line h =
        of_kind h.3 (sure_counted (sure_on (evaluate_sure a h.0) (λ v. sure_on (sure_any (values_sure args h.1)) (λ vs.
        sure_on (sure_weak (λ o x. subst (λ ks. ArgumentsAre (function_count sc) ks vs o) h.2 x)
        (callee_sure env.setting.functions type_number v.value line)) (λ f.
        called_sure f type_number vs line)))))
    value_sure (library name args) kind line h =
        of_kind h.2 (plainly (none_routine name)
        (sure_counted (sure_on (values_sure args h.0)
        (λ vs. sure_on (sure_tally 1) (λ _. as_sure (routine_signature name).result
        (sure_weak (λ o x. (
          arguments_tagged _ (kinds_of args) vs o x,
          subst
              (λ ks. AreOfKinds (function_count sc) ks (values_of vs)) h.1
              (arguments_of_kinds _ (kinds_of args) vs o x),
        ))
        (c.library name (values_of vs) line)))))))
    value_sure (printf format args) kind line h =
        of_kind h.1 (plainly tt
        (sure_counted (sure_on (sure_tally 1)
        (λ _. sure_on (values_sure args h.0) (λ vs. sure_on (sure_tally 1) (λ _. as_sure (OfScalar (Integer Int))
        (sure_weak (λ o x. arguments_tagged _ (kinds_of args) vs o x) (c.print format (values_of vs) line))))))))

    pub place_sure : (p : Lvalue) → LvalueNames sc.scope p
        → Sure sc Any (place env p) (LvalueIs (function_count sc) (basis_of p) (lvalue_kind p))
    place_sure (lvalue kind line node) h = node_sure node kind h

    node_sure : (n : LvalueNode) (kind : Kind) → PlaceNames sc.scope n kind
        → Sure sc Any (node_place env n) (LvalueIs (function_count sc) (node_basis n) kind)
    node_sure (automatic x) kind h = sure_counted
        (sure_on (sure_read {Q = λ v o. PlaceIs (function_count sc) OnName kind v o × IsWord (function_count sc) v.word}
        {f = home_pointer x} (λ s good p. named_word kind (home_pointer x s) s good (home_sure x kind h s good)))
        (λ v. sure_done {a = rvalue v} (λ o x. place_named _ kind v o x)))
    node_sure (static n) kind h = sure_counted
        (sure_on (sure_read {Q = λ v o. PlaceIs (function_count sc) OnName kind v o × IsWord (function_count sc) v.word}
        {f = λ s. pointer_to n s.objects}
        (λ s good p. named_word kind (pointer_to n s.objects) s good (static_sure n kind h s good)))
        (λ v. sure_done {a = rvalue v} (λ o x. place_named _ kind v o x)))
    node_sure (deref a) kind h =
        sure_counted (sure_post (λ v o x. on_pointer_is _ kind v o x)
        (pointer_sure pointer
        (sure_post (λ v o x. (x.tag, word_of_kind (function_count sc) (kind_of a) v.value x.word))
        (evaluate_sure a h))))
    node_sure (index form size a b) kind h =
        sure_counted (sure_post (λ v o x. on_pointer_is _ kind v o x) (sure_on (evaluate_sure a h.0) (λ x.
        sure_on (sure_weak (λ o v. v.tag) (sure_beside (stable_tag _ x.value) (evaluate_sure b h.1))) (λ y.
        sure_give {v = offset_value form size x.value y.value} pointer
        (λ o v. (
          offset_tagged _ form size x.value y.value o v.0 v.1.tag,
          offset_word (function_count sc) form size
              x.value y.value,
        ))))))
    node_sure (member p at size) kind h =
        sure_counted (sure_on (place_sure p h.0) (λ q. sure_value {a = member_of at size q} (λ s good x. record {
          tag = sound_narrowed _ s.objects at size q.value x.tag;
          reach = reach_narrowed (basis_of p) (size_of_kind (lvalue_kind p)) at size (size_of_kind kind) q.contents
              q.value h.1 h.2 s good x.reach;
          word = narrowed_is (function_count sc) at size q.value;
        })))
    node_sure (arrow a at size) kind h =
        sure_counted (sure_post (λ v o x. on_pointer_is _ kind v o x)
        (sure_on (evaluate_sure a h)
        (λ v. sure_give {v = narrowed at size v.value} pointer
        (λ o x. (sound_narrowed _ o at size v.value x.tag, narrowed_is (function_count sc) at size v.value)))))
    node_sure (member_of_value a at size) kind h =
        sure_counted (sure_on (evaluate_sure a h.0) (λ v. sure_value {a = member_of at size v} (λ s good x. record {
          tag = sound_narrowed _ s.objects at size v.value x.tag;
          reach = structure_reach _ (kind_of a) (at + size) v h.1
              (λ n le structure. reach_narrowed OnValue n at size (size_of_kind kind) v.contents v.value le h.2 s good
              (structure s.objects x.structure));
          word = narrowed_is (function_count sc) at size v.value;
        })))
    node_sure (parenthesized_lvalue p) kind h =
        subst (λ k. Sure sc Any (counted (place env p)) (LvalueIs (function_count sc) (basis_of p) k)) (sym h.1)
        (sure_counted (place_sure p h.0))

    pub values_sure : (es : Expressions) → RowNames sc.scope es
        → Sure sc Any (each_value (values env es)) (ArgumentsAre (function_count sc) (kinds_of es))
    values_sure no_expressions h = sure_done (λ o p. tt)
    values_sure (expressions a es) h =
        sure_on (sure_on (evaluate_sure a h.0) (λ v. take_sure (kind_of a) (line_of a) v)) (λ v.
        sure_on (sure_beside (stable_argument _ (kind_of a) v) (values_sure es h.1))
        (λ vs. sure_done {a = v ∷ vs} (λ o x. x)))

  pub argument_sure : (e : Expression) → Names sc.scope e
      → Sure sc Any (argument (kind_of e) (line_of e) (evaluate env e)) (ArgumentIs (function_count sc) (kind_of e))
  argument_sure e h = sure_on (evaluate_sure e h) (λ v. take_sure (kind_of e) (line_of e) v)

  -- initializers

  -- a pointer to all bytes of an object that lives on
  abbrev pub IsBase : Value → (size : ℕ) → Objects → Type 0
  IsBase p size o = IsTagged (function_count sc) p o × IsNamed o p size

  pub stable_base : (p : Value) (size : ℕ) → IsStable (IsBase p size)
  stable_base p size old new l h = (stable_tag _ p old new l h.0, named_on old new l p size h.1)

  pub base_part : (p : Value) (whole offset size : ℕ) → offset + size ≤ whole → (s : State) → IsGood sc s
      → IsBase p whole s.objects → IsBase (narrowed offset size p) size s.objects
  base_part p whole offset size le s good h = (
    sound_narrowed _ s.objects offset size p h.0,
    named_narrowed s.objects p whole offset size h.1
        (good.low h.1.direct.object) le,
  )

  bytes_sure : (p : Value) (whole offset : ℕ) (bytes : List ℕ) → offset + length bytes ≤ whole
      → Sure sc (IsBase p whole) (store_bytes p offset bytes) (λ _. IsBase p whole)
  unfolding size_of
  bytes_sure p whole offset [] le = sure_skip
  bytes_sure p whole offset (b ∷ bs) le =
      sure_on (sure_post (λ _ o x. x.0)
      (sure_if_good (λ s good h. (h, (tt, base_part p whole offset 1 (omega (arith, le)) s good h)))
      (sure_frame (stable_base p whole) (sure_store OnName (Integer Char) (narrowed offset 1 p) 0 (integer b))))) (λ _.
      bytes_sure p whole (offset + 1) bs (omega (arith, le)))

  pub content_sure : (p : Value) (whole offset : ℕ) (content : Content) → ContentNames sc.scope whole offset content
      → Sure sc (IsBase p whole) (store_content env p offset content) (λ _. IsBase p whole)
  content_sure p whole offset (value_content e) h =
      sure_on (sure_beside (stable_base p whole) (evaluate_sure e h.0)) (λ v.
      sure_on (sure_post (λ _ o x. x.0) (sure_if_good (λ s good x. (
        x.0,
        (
          base_part p whole offset (size_of_kind (kind_of e)) h.1 s good x.0,
          x.1,
        ),
      ))
      (sure_frame (stable_base p whole)
      (sure_write_rvalue OnName (kind_of e) (narrowed offset (size_of_kind (kind_of e)) p) (line_of e) v))))
      (λ _. sure_skip))
  content_sure p whole offset (literal_content bytes) h = sure_on (sure_tally (1 + length bytes))
      (λ _. bytes_sure p whole offset bytes h)

  pub parts_sure : (p : Value) (whole : ℕ) (parts : List Part) → PartsName sc.scope whole parts
      → Sure sc (IsBase p whole) (store_parts env p parts) (λ _. Any)
  parts_sure p whole [] h = sure_done (λ o x. tt)
  parts_sure p whole (q ∷ qs) h = sure_on (content_sure p whole q.offset q.content h.0) (λ _. parts_sure p whole qs h.1)

  pub initialize_sure : (x : ℕ) (i : Option Initializer) → InitializerNames sc.scope x i
      → Sure sc Any (initialize env x i) (λ _. Any)
  initialize_sure x None h = sure_skip
  initialize_sure x (Some (of_plain e)) h =
      sure_on (evaluate_sure e h.0) (λ v. sure_post (λ _ o y. tt) (set_sure x (kind_of e) h.1 v))
  initialize_sure x (Some (of_object parts)) h =
      sure_on (sure_zero_variable x) (λ _.
      sure_on (sure_read {Q = λ v. IsBase v (size_of_kind h.0)} {f = home_pointer x}
      (λ s good y. home_sure x h.0 (named_same (object_kind sc.scope.variables x) h.0 h.1) s good))
      (λ p. parts_sure p (size_of_kind h.0) parts h.2))

  pub initialize_all_sure : (ds : List DeclaredVariable) → DeclaredName sc.scope ds
      → Sure sc Any (initialize_all env ds) (λ _. Any)
  initialize_all_sure [] h = sure_skip
  initialize_all_sure (d ∷ ds) h = sure_on (initialize_sure d.variable d.initializer h.0)
      (λ _. initialize_all_sure ds h.1)
