-- Calls through pointers give what is valid: where a call is typed, the structures that its function type names are
-- complete, so that this type spells its signature there too.
use Rattle.std.proofs.Common.{◌≡◌, ℕ, zero, suc, ◌+◌, ◌<◌, ◌≤◌, Bool, true, false, ◌&&◌, nat_lt}
use Rattle.std.proofs.Common.{refl, sym, ap, ◌∙◌, subst}
use Rattle.std.proofs.Common.{List, [], ◌∷◌, ◌++◌, length, Option, Some, None, if◌then◌else◌, arith}
use Rattle.std.specs.Prelude.{Ok, Err, slice_get}
use Rattle.std.proofs.lemmas.Bool.{ltb-true, ltb-false}
use Rattle.c_tree.specs.declared.c_type.TypeWord.{TypeWord}
use Rattle.c_tree.specs.declared.c_type.TypeWord.TheVariants as word
use Rattle.c_tree.specs.declared.expression.Kind.{Kind}
use Rattle.c_tree.specs.Extents.{TypeExtent, extent_of, structure_extent}
use Rattle.c_tree.specs.Kinds.{Signature}
use Rattle.c_tree.specs.Tree.{Expression, kind_of}
use Rattle.c_tree.specs.TypesAgree.{agrees, behind_types, gives_kind, is_end, is_kind_of, kind_of_type, still}
use Rattle.c_tree.specs.TypesAgree.{same_words, structure_kind}
use Rattle.c_tree.specs.Valid.{Scope}
use Rattle.c_rules.specs.declared.class.Target.{Target}
use Rattle.c_rules.specs.declared.class.Target.TheVariants as target
use Rattle.c_faults.specs.Answer.{Answer, ◌>>=◌}
use Rattle.c_rules.specs.Conversions.{assigned}
use Rattle.c_rules.specs.Fine.{IfFine, IfFineAs, IsFine}
use Rattle.c_rules.specs.Types.{object_of, target_of}
use Rattle.c_rules.specs.Values.{Value}
use Rattle.c_rules.proofs.FineConversions.{assigned_fine}
use Rattle.c_rules.proofs.SameTypes.{words_are}
use Rattle.c_call_rules.specs.Calls.{Callee, called, called_if, called_through, complete_result, of_function}
use Rattle.c_call_rules.specs.Calls.{of_pointer, call_tree, passed}
use Rattle.c_call_rules.specs.FineCalls.{AreFine, Spells}
use Rattle.c_call_rules.specs.FunctionTypes.{callee_type, first_types, result_type}
use Rattle.c_call_rules.proofs.FineCalls.{called_fine, through_fine}
use Rattle.c_operand_typing.specs.Calls.{callee_number, place_among, with_callee_type, with_type}
use Rattle.c_operand_typing.specs.Operators.{as_operand}
use Rattle.c_typing_state.specs.State.{State, extents}
use Rattle.typing_laws.specs.Validity.More.{AreMore}
use Rattle.typing_laws.specs.Validity.Names.{IsFunctionOf}
use Rattle.typing_laws.specs.Validity.Sound.{Covers, IsFormed, IsTypeOf, Keeps, Sound}
use Rattle.typing_laws.specs.Validity.Steps.{Fine, FineAll, FineValue, PointerCalls, Structures}
use Rattle.typing_laws.proofs.Validity.Common.{both_true}
use Rattle.typing_laws.proofs.Validity.Kept.{both_kept, kind_kept}
use Rattle.typing_laws.proofs.Validity.Moved.{get_last, meant_moved}
use Rattle.typing_laws.proofs.Validity.Sound.{keeps_same, same_list, same_more}

-- the words of a function type

first_kind : (es : Structures) (ws : List TypeWord) → kind_of_type es (first_types 1 ws) ≡ kind_of_type es ws
first_kind es [] = refl
first_kind es (word.Void ∷ ws) = refl
first_kind es (word.Integer t ∷ ws) = refl
first_kind es (word.Enumeration n ∷ ws) = refl
first_kind es (word.Pointer ∷ ws) = refl
first_kind es (word.Array c b ∷ ws) = refl
first_kind es (word.OpenArray ∷ ws) = refl
first_kind es (word.Structure n ∷ ws) = refl
first_kind es (word.Const ∷ ws) = first_kind es ws
first_kind es (word.Takes ∷ ws) = refl
first_kind es (word.Gives ∷ ws) = refl

pub result_behind : (n : ℕ) (ws : List TypeWord) → result_type n ws ≡ result_type 0 (behind_types n ws)
result_behind zero ws = refl
result_behind (suc n) [] = refl
result_behind (suc n) (w ∷ ws) = result_behind (still w n) ws

-- the result of a function that is called is complete

abbrev IsComplete : Target → Type 0
IsComplete target.Incomplete = true ≡ false
IsComplete t = Unit {0}

structure_back : (es last : Structures) → AreMore es last → (n : ℕ) (k : Kind) (o : Option TypeExtent)
    → structure_extent es n ≡ o → IsComplete (object_of o)
    → is_kind_of (structure_kind (structure_extent last n)) k ≡ true
    → is_kind_of (structure_kind o) k ≡ true
structure_back es last h n k None is complete e = cc
structure_back es last h n k (Some x) is complete e =
    ap (λ z. is_kind_of (structure_kind z) k) (sym (h.kept n x is)) ∙ e

kind_back : (es last : Structures) → AreMore es last → (ws : List TypeWord) (k : Kind) → IsComplete (target_of es ws)
    → is_kind_of (kind_of_type last ws) k ≡ true → is_kind_of (kind_of_type es ws) k ≡ true
unfolding extent_of
kind_back es last h [] k complete e = e
kind_back es last h (word.Void ∷ ws) k complete e = e
kind_back es last h (word.Integer t ∷ ws) k complete e = e
kind_back es last h (word.Enumeration n ∷ ws) k complete e = e
kind_back es last h (word.Pointer ∷ ws) k complete e = e
kind_back es last h (word.Array c b ∷ ws) k complete e = e
kind_back es last h (word.OpenArray ∷ ws) k complete e = e
kind_back es last h (word.Structure n ∷ ws) k complete e =
    structure_back es last h n k (structure_extent es n) refl complete e
kind_back es last h (word.Const ∷ ws) k complete e = kind_back es last h ws k complete e
kind_back es last h (word.Takes ∷ ws) k complete e = e
kind_back es last h (word.Gives ∷ ws) k complete e = e

gives_back : (es last : Structures) → AreMore es last → (ws : List TypeWord) (k : Kind)
    → IsComplete (target_of es (result_type 0 ws)) → gives_kind last ws k ≡ true → gives_kind es ws k ≡ true
gives_back es last h (word.Gives ∷ ws) k complete e =
    both_kept (is_kind_of (kind_of_type last ws) k) (is_end (behind_types 1 ws)) (is_kind_of (kind_of_type es ws) k)
    (kind_back es last h ws k complete) e
gives_back es last h [] k complete e = e
gives_back es last h (word.Void ∷ ws) k complete e = e
gives_back es last h (word.Integer t ∷ ws) k complete e = e
gives_back es last h (word.Enumeration n ∷ ws) k complete e = e
gives_back es last h (word.Pointer ∷ ws) k complete e = e
gives_back es last h (word.Array c b ∷ ws) k complete e = e
gives_back es last h (word.OpenArray ∷ ws) k complete e = e
gives_back es last h (word.Structure n ∷ ws) k complete e = e
gives_back es last h (word.Const ∷ ws) k complete e = e
gives_back es last h (word.Takes ∷ ws) k complete e = e

-- and so are its parameters

abbrev PassedOn : Structures → (line : ℕ) → (type : List TypeWord) → List Value → List Expression
    → (y : List Expression)
    → Answer Expression → Type 0
PassedOn es line type vs before y r =
    (r >>= (λ e. Ok (before ++ e ∷ [])) >>= λ es'. passed es line (behind_types 1 type) es' vs) ≡ Ok y

next_back : (scope : Scope) (es last : Structures) → AreMore es last → (line : ℕ) (type : List TypeWord) (j k : Kind)
    (ks : List Kind) (vs : List Value) (before y : List Expression) (r : Answer Expression)
    → IfFineAs scope es (first_types 1 type) r → PassedOn es line type vs before y r
    → ((before' : List Expression) → passed es line (behind_types 1 type) before' vs ≡ Ok y
    → agrees last (behind_types 1 type) ks k ≡ true → agrees es (behind_types 1 type) ks k ≡ true)
    → (is_kind_of (kind_of_type last type) j && agrees last (behind_types 1 type) ks k) ≡ true
    → (is_kind_of (kind_of_type es type) j && agrees es (behind_types 1 type) ks k) ≡ true
next_back scope es last h line type j k ks vs before y (Err f) fine on rest e = cc
next_back scope es last h line type j k ks vs before y (Ok x) fine on rest e =
    let known : kind_of_type es type ≡ Some (kind_of x) = sym (first_kind es type) ∙ fine.kind in
    let later : kind_of_type last type ≡ Some (kind_of x) = kind_kept es last h type (kind_of x) known in
    let same : is_kind_of (kind_of_type es type) j ≡ is_kind_of (kind_of_type last type) j =
    ap (λ o. is_kind_of o j) known ∙ ap (λ o. is_kind_of o j) (sym later) in
    both_true (is_kind_of (kind_of_type last type) j) (agrees last (behind_types 1 type) ks k)
    (is_kind_of (kind_of_type es type) j) (agrees es (behind_types 1 type) ks k) (λ p. same ∙ p)
    (rest (before ++ x ∷ []) on) e

agrees_back : (scope : Scope) (es last : Structures) → AreMore es last → (line : ℕ) (ks : List Kind)
    (ws : List TypeWord) (k : Kind) (vs : List Value) (before y : List Expression)
    → IsComplete (target_of es (result_type 0 ws)) → AreFine scope es vs → passed es line ws before vs ≡ Ok y
    → agrees last ws ks k ≡ true → agrees es ws ks k ≡ true
agrees_back scope es last h line [] ws k vs before y complete fine on e = gives_back es last h ws k complete e
agrees_back scope es last h line (j ∷ ks) [] k vs before y complete fine on e = e
agrees_back scope es last h line (j ∷ ks) (word.Takes ∷ type) k [] before y complete fine on e = cc
agrees_back scope es last h line (j ∷ ks) (word.Takes ∷ type) k (a ∷ vs) before y complete fine on e =
    next_back scope es last h line type j k ks vs before y (assigned es line (first_types 1 type) a)
    (assigned_fine scope es line (first_types 1 type) a fine.0) on
    (λ before' on'. agrees_back scope es last h line ks (behind_types 1 type) k vs before' y
    (subst (λ z. IsComplete (target_of es z)) (result_behind 1 type) complete) fine.1 on') e
agrees_back scope es last h line (j ∷ ks) (word.Void ∷ ws) k vs before y complete fine on e = e
agrees_back scope es last h line (j ∷ ks) (word.Integer t ∷ ws) k vs before y complete fine on e = e
agrees_back scope es last h line (j ∷ ks) (word.Enumeration n ∷ ws) k vs before y complete fine on e = e
agrees_back scope es last h line (j ∷ ks) (word.Pointer ∷ ws) k vs before y complete fine on e = e
agrees_back scope es last h line (j ∷ ks) (word.Array c b ∷ ws) k vs before y complete fine on e = e
agrees_back scope es last h line (j ∷ ks) (word.OpenArray ∷ ws) k vs before y complete fine on e = e
agrees_back scope es last h line (j ∷ ks) (word.Structure n ∷ ws) k vs before y complete fine on e = e
agrees_back scope es last h line (j ∷ ks) (word.Const ∷ ws) k vs before y complete fine on e = e
agrees_back scope es last h line (j ∷ ks) (word.Gives ∷ ws) k vs before y complete fine on e = e

-- a call that is typed

record Then {A B : Type 0} (a : Answer A) (next : A → Answer B) (y : B) : Type 0 where
  value : A
  is : a ≡ Ok value
  on : next value ≡ Ok y

then_of : {A B : Type 0} (a : Answer A) (next : A → Answer B) (y : B) → (a >>= next) ≡ Ok y → Then a next y
then_of (Ok x) next y e = record { value = x; is = refl; on = e }
then_of (Err f) next y e = cc

abbrev made : (o : List TypeWord) → (line : ℕ) → Kind → Callee → List Expression → Answer Value
made type line k callee es = Ok (record { type = type; tree = call_tree line k callee es })

spelled_by : (scope : Scope) (es last : Structures) → AreMore es last → (line : ℕ) (callee : Callee)
    (words : List TypeWord) (sig : Signature) (vs : List Value) (x : Value) (t : Target)
    → target_of es (result_type 0 words) ≡ t → AreFine scope es vs → Spells last words sig
    → (complete_result line t (result_type 0 words) >>= (λ o. passed es line words [] vs >>= λ args.
    made o.type line o.kind callee args)) ≡ Ok x
    → Spells es words sig
spelled_by scope es last h line callee words sig vs x target.Incomplete is fine spelled e = cc
spelled_by scope es last h line callee words sig vs x target.Void is fine spelled e =
    let p = then_of (passed es line words [] vs) _ x e in
    agrees_back scope es last h line sig.parameters words sig.result vs [] p.value (subst IsComplete (sym is) tt) fine
    p.is spelled
spelled_by scope es last h line callee words sig vs x target.Function is fine spelled e =
    let p = then_of (passed es line words [] vs) _ x e in
    agrees_back scope es last h line sig.parameters words sig.result vs [] p.value (subst IsComplete (sym is) tt) fine
    p.is spelled
spelled_by scope es last h line callee words sig vs x (target.Object n) is fine spelled e =
    let p = then_of (passed es line words [] vs) _ x e in
    agrees_back scope es last h line sig.parameters words sig.result vs [] p.value (subst IsComplete (sym is) tt) fine
    p.is spelled

spelled_back : (scope : Scope) (es last : Structures) → AreMore es last → (line : ℕ) (callee : Callee)
    (words : List TypeWord) (sig : Signature) (vs : List Value) (x : Value) → AreFine scope es vs
    → Spells last words sig → called es line callee words vs ≡ Ok x → Spells es words sig
unfolding called
spelled_back scope es last h line callee words sig vs x fine spelled e =
    spelled_by scope es last h line callee words sig vs x (target_of es (result_type 0 words)) refl fine spelled e

through_is : (es : Structures) (line n : ℕ) (v : Value) (vs : List Value) (type : List TypeWord)
    → callee_type v.type ≡ Some type
    → called_through es line n v vs ≡ called es line (of_pointer n v.tree) type vs
unfolding called_through
through_is es line n v vs type e = ap (λ o. called_if es line n o v vs) e

through_none : (es : Structures) (line n : ℕ) (v : Value) (vs : List Value) → callee_type v.type ≡ None
    → called_through es line n v vs ≡ called_if es line n None v vs
unfolding called_through
through_none es line n v vs e = ap (λ o. called_if es line n o v vs) e

same_type : (a b : List TypeWord) → Some a ≡ Some b → a ≡ b
same_type a b e = cc

called_by : (scope : Scope) (es last : Structures) → AreMore es last → (line n : ℕ) (v : Value) (vs : List Value)
    (type : List TypeWord) → IsTypeOf scope last n type → IsFine scope es v → AreFine scope es vs
    → callee_type v.type ≡ Some type → (r : Answer Value) → called_through es line n v vs ≡ r → IfFine scope es r
called_by scope es last h line n v vs type is fine args callee (Err f) e = tt
called_by scope es last h line n v vs type is fine args callee (Ok x) e =
    let spelled = spelled_back scope es last h line (of_pointer n v.tree) type is.signature vs x args is.spelled
    (sym (through_is es line n v vs type callee) ∙ e) in
    subst (IfFine scope es) e
    (through_fine scope es line n v is.signature vs fine is.has
    (λ t c. subst (λ z. Spells es z is.signature) (same_type type t (sym callee ∙ c)) spelled) args)

function_by : (scope : Scope) (es last : Structures) → AreMore es last → (line n : ℕ) (type : List TypeWord)
    (vs : List Value) → IsFunctionOf scope last n type → AreFine scope es vs → (r : Answer Value)
    → called es line (of_function n) type vs ≡ r → IfFine scope es r
function_by scope es last h line n type vs is args (Err f) e = tt
function_by scope es last h line n type vs is args (Ok x) e =
    let spelled = spelled_back scope es last h line (of_function n) type is.signature vs x args is.spelled e in
    subst (IfFine scope es) e
    (called_fine scope es line (of_function n) is.signature type vs is.has spelled args)

-- so do calls of functions by name
pub function_called : (scope : Scope) (es last : Structures) → AreMore es last → (line n : ℕ) (type : List TypeWord)
    (vs : List Value) → IsFunctionOf scope last n type → AreFine scope es vs
    → IfFine scope es (called es line (of_function n) type vs)
function_called scope es last h line n type vs is args =
    function_by scope es last h line n type vs is args (called es line (of_function n) type vs) refl

-- the number of a function type

place_low_by : (n m : ℕ) (b : Bool) → n ≤ m → (if b then 0 else n + 1) ≤ suc m
place_low_by n m true low = omega arith
place_low_by n m false low = omega arith

place_low : (type : List TypeWord) (ts : List (List TypeWord)) → place_among type ts ≤ length ts
place_low type [] = omega arith
place_low type (t ∷ ts) = place_low_by (place_among type ts) (length ts) (same_words type t) (place_low type ts)

get_next : (type t : List TypeWord) (ts : List (List TypeWord)) (n m : ℕ) → m ≡ n + 1 → slice_get ts n ≡ Some type
    → slice_get (t ∷ ts) m ≡ Some type
get_next type t ts n m is e = let more : m ≡ suc n = omega arith in ap (slice_get (t ∷ ts)) more ∙ e

place_by : (type t : List TypeWord) (ts : List (List TypeWord)) (b : Bool) → same_words type t ≡ b
    → (if b then 0 else place_among type ts + 1) < suc (length ts)
    → (place_among type ts < length ts → slice_get ts (place_among type ts) ≡ Some type)
    → slice_get (t ∷ ts) (if b then 0 else place_among type ts + 1) ≡ Some type
place_by type t ts true e low rest = ap Some (sym (words_are type t e))
place_by type t ts false e low rest =
    get_next type t ts (place_among type ts) (place_among type ts + 1) refl (rest (omega (arith, low)))

pub place_get : (type : List TypeWord) (ts : List (List TypeWord)) → place_among type ts < length ts
    → slice_get ts (place_among type ts) ≡ Some type
place_get type [] low = absurd (omega arith)
place_get type (t ∷ ts) low = place_by type t ts (same_words type t) refl low (λ l. place_get type ts l)

-- the state behind a call

type_keeps_by : (scope : Scope) (last : Structures) (type : List TypeWord) (s : State) → IsFormed s → (b : Bool)
    → Keeps scope last s (if b then s else record s { function_types = s.function_types ++ type ∷ [] })
type_keeps_by scope last type s formed true = keeps_same scope last s formed
type_keeps_by scope last type s formed false = record {
  more = same_more (extents s);
  literals = same_list s.literals;
  types = record { rest = type ∷ []; is = refl };
  knows = λ k. record {
    names = λ name.
        meant_moved scope last s (record s { function_types = s.function_types ++ type ∷ [] }) refl refl _
        (k.names name);
    members = record { each = k.members.each };
  };
  pending = λ n p. record { begun = p.begun; incomplete = p.incomplete };
  formed = record {
    same = formed.same;
    begun = formed.begun;
    sizes = formed.sizes;
    tags = formed.tags;
    constants = formed.constants;
    typedefs = formed.typedefs;
  };
  undefined = λ e. e;
}

type_keeps : (scope : Scope) (last : Structures) (type : List TypeWord) (s : State) → IsFormed s
    → Keeps scope last s (with_type type s)
type_keeps scope last type s formed =
    type_keeps_by scope last type s formed (nat_lt (place_among type s.function_types) (length s.function_types))

type_there_by : (type : List TypeWord) (s : State) (b : Bool)
    → nat_lt (place_among type s.function_types) (length s.function_types) ≡ b
    → slice_get (if b then s else record s { function_types = s.function_types ++ type ∷ [] }).function_types
    (place_among type s.function_types) ≡ Some type
type_there_by type s true e =
    place_get type s.function_types (ltb-true (place_among type s.function_types) (length s.function_types) e)
type_there_by type s false e =
    let past = ltb-false (place_among type s.function_types) (length s.function_types) e in
    let low = place_low type s.function_types in
    let same : place_among type s.function_types ≡ length s.function_types = omega (arith, past, low) in
    ap (slice_get (s.function_types ++ type ∷ [])) same ∙ get_last s.function_types type

pub type_there : (type : List TypeWord) (s : State)
    → slice_get (with_type type s).function_types (place_among type s.function_types) ≡ Some type
type_there type s =
    type_there_by type s (nat_lt (place_among type s.function_types) (length s.function_types)) refl

type_extents_by : (type : List TypeWord) (s : State) (b : Bool)
    → extents (if b then s else record s { function_types = s.function_types ++ type ∷ [] }) ≡ extents s
type_extents_by type s true = refl
type_extents_by type s false = refl

type_extents : (type : List TypeWord) (s : State) → extents (with_type type s) ≡ extents s
type_extents type s = type_extents_by type s (nat_lt (place_among type s.function_types) (length s.function_types))

applied_by : (scope : Scope) (last : Structures) (s : State) (given : Structures → Type 0) (is : Bool)
    (type : List TypeWord) (a : Answer Value)
    → (given (extents s) → is ≡ true → Covers scope last (with_type type s) → IfFine scope (extents s) a)
    → Sound scope last s given (Fine scope is) (as_operand a >>= λ o. Ok (with_type type s, o))
applied_by scope last s given is type (Ok v) h = λ formed. (
  type_keeps scope last type s formed,
  λ knows g covers p. subst (λ es. IsFine scope es v) (sym (type_extents type s)) (h g p covers),
)
applied_by scope last s given is type (Err f) h = tt

through_by : (scope : Scope) (last : Structures) (s : State) (is : Bool) (line : ℕ) (v : Value) (vs : List Value)
    (o : Option (List TypeWord)) → callee_type v.type ≡ o
    → Sound scope last s (λ es. FineValue scope is es v × FineAll scope is es vs) (Fine scope is)
    (as_operand (called_through (extents s) line (callee_number o s) v vs) >>= λ x. Ok (with_callee_type o s, x))
through_by scope last s is line v vs None e =
    subst (λ a. Sound scope last s (λ es. FineValue scope is es v × FineAll scope is es vs) (Fine scope is)
    (as_operand a >>= λ x. Ok (s, x))) (sym (through_none (extents s) line 0 v vs e)) tt
through_by scope last s is line v vs (Some type) e =
    applied_by scope last s (λ es. FineValue scope is es v × FineAll scope is es vs) is type
    (called_through (extents s) line (place_among type s.function_types) v vs)
    (λ g p covers. called_by scope (extents s) last
    (subst (λ es. AreMore es last) (type_extents type s) covers.more) line
    (place_among type s.function_types) v vs type
    (covers.types (place_among type s.function_types) type (type_there type s)) (g.0 p) (g.1 p) e
    (called_through (extents s) line (place_among type s.function_types) v vs) refl)

pub pointer_calls : (scope : Scope) (last : Structures) → PointerCalls scope last
pointer_calls scope last = record {
  each = λ s is line v vs. through_by scope last s is line v vs (callee_type v.type) refl;
}
