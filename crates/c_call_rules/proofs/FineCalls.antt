-- What calls give is valid where the callee and the arguments are.
use Rattle.std.proofs.Common.{◌≡◌, ℕ, zero, suc, Bool, true, false, Option, Some, None, List, [], ◌∷◌, ◌++◌, refl, ap}
use Rattle.std.proofs.Common.{sym, ◌∙◌, append_assoc, append-nil}
use Rattle.std.specs.Prelude.{◌&&◌, if◌then◌else◌, Ok, Err, get_or}
use Rattle.obj_memory.specs.declared.int_type.IntType.TheVariants.{Int}
use Rattle.obj_memory.specs.Integers.{size_of}
use Rattle.c_tree.specs.declared.c_type.TypeWord.{TypeWord}
use Rattle.c_tree.specs.declared.c_type.TypeWord.TheVariants as word
use Rattle.c_tree.specs.declared.expression.Kind.{Kind}
use Rattle.c_tree.specs.declared.expression.Kind.TheVariants as kind
use Rattle.c_tree.specs.Extents.{TypeExtent, extent_of, structure_extent}
use Rattle.c_tree.specs.Kinds.{integer, pointer, is_kind, is_size, are_kinds, Signature}
use Rattle.c_tree.specs.Tree.{Expression, expressions_in, kinds_of, kind_of}
use Rattle.c_tree.specs.TypesAgree.{kind_of_type, structure_kind, is_kind_of, still, behind_types, gives_kind, is_end}
use Rattle.c_tree.specs.TypesAgree.{takes_kind, agrees}
use Rattle.c_tree.specs.Valid.{Scope, is_valid, is_converted, are_valid, is_call, has_number, no_signature}
use Rattle.c_rules.specs.declared.class.Target.{Target}
use Rattle.c_rules.specs.declared.class.Target.TheVariants as target
use Rattle.c_faults.specs.declared.fault.Rule.TheVariants.{ArgumentCount}
use Rattle.c_faults.specs.Answer.{Answer, violates, ◌>>=◌}
use Rattle.c_rules.specs.Types.{unqualified, object_of, target_of}
use Rattle.c_rules.specs.Values.{Value}
use Rattle.c_rules.specs.Conversions.{assigned}
use Rattle.c_rules.specs.Fine.{IsFine, IfFine, IfFineAs}
use Rattle.c_rules.proofs.SameTypes.{both_true}
use Rattle.c_rules.proofs.FineBinary.{all}
use Rattle.c_rules.proofs.FineConversions.{unqualified_kind, assigned_fine}
use Rattle.c_place_rules.specs.Targets.{object_kind}
use Rattle.c_call_rules.specs.FunctionTypes.{first_types, behind_parameter, result_type, callee_type}
use Rattle.c_call_rules.specs.Calls.{Callee, of_function, of_pointer, of_routine, result_kind, complete_result, Outcome}
use Rattle.c_call_rules.specs.Calls.{one_passed, counted, passed, call_tree, called, called_if, called_through}
use Rattle.c_call_rules.specs.FineCalls.{HasSignature, IsFinePointer, IsFineCallee, AreFine, Spells}

some_is : {A : Type 0} (x y : A) → Some x ≡ Some y → x ≡ y
some_is x y e = cc

-- the words of a function type

first_kind : (structures : List (Option TypeExtent)) (ws : List TypeWord)
    → kind_of_type structures (first_types 1 ws) ≡ kind_of_type structures ws
first_kind structures [] = refl
first_kind structures (word.Void ∷ behind) = refl
first_kind structures (word.Integer t ∷ behind) = refl
first_kind structures (word.Enumeration n ∷ behind) = refl
first_kind structures (word.Pointer ∷ behind) = refl
first_kind structures (word.Array count bytes ∷ behind) = refl
first_kind structures (word.OpenArray ∷ behind) = refl
first_kind structures (word.Structure n ∷ behind) = refl
first_kind structures (word.Const ∷ behind) = first_kind structures behind
first_kind structures (word.Takes ∷ behind) = refl
first_kind structures (word.Gives ∷ behind) = refl

result_behind : (n : ℕ) (ws : List TypeWord) → result_type n ws ≡ result_type 0 (behind_types n ws)
result_behind zero ws = refl
result_behind (suc n) [] = refl
result_behind (suc n) (w ∷ ws) = result_behind (still w n) ws

result_agrees : (structures : List (Option TypeExtent)) (ks : List Kind) (ws : List TypeWord) (k : Kind)
    → agrees structures ws ks k ≡ true → is_kind_of (kind_of_type structures (result_type 0 ws)) k ≡ true
result_agrees structures [] [] k h = absurd cc
result_agrees structures [] (word.Gives ∷ type) k h = (both_true _ (is_end (behind_types 1 type)) h).0
result_agrees structures [] (w ∷ ws) k h = absurd cc
result_agrees structures (j ∷ ks) [] k h = absurd cc
result_agrees structures (j ∷ ks) (word.Takes ∷ type) k h =
    let next = result_agrees structures ks (behind_types 1 type) k
    (both_true (takes_kind structures (word.Takes ∷ type) j) (agrees structures (behind_types 1 type) ks k) h).1 in
    ap (λ type'. is_kind_of (kind_of_type structures type') k) (result_behind 1 type) ∙ next
result_agrees structures (j ∷ ks) (w ∷ ws) k h = absurd cc

-- the kind of a result that is not incomplete

abbrev Stands : Target → Type 0
Stands target.Incomplete = true ≡ false
Stands t = Unit {0}

object_by : (b : Bool) (n : ℕ) (ws : List TypeWord) (j : Kind) (t : Target)
    → (if b then target.Object n else target.Incomplete) ≡ t → Stands t → object_kind n ws ≡ j → result_kind t ws ≡ j
object_by true n ws j t e s h = sym (ap (λ x. result_kind x ws) e) ∙ h
object_by false n ws j target.Incomplete e s h = absurd cc
object_by false n ws j (target.Object m) e s h = absurd cc
object_by false n ws j target.Void e s h = absurd cc
object_by false n ws j target.Function e s h = absurd cc

structure_by : (o : Option TypeExtent) (ws : List TypeWord) (j : Kind) (t : Target) → object_of o ≡ t → Stands t
    → structure_kind o ≡ Some j → ((n : ℕ) → object_kind n ws ≡ kind.Structure n) → result_kind t ws ≡ j
structure_by None ws j t e s k h = absurd cc
structure_by (Some x) ws j t e s k h =
    object_by (is_size x.size) x.size ws j t e s (h x.size ∙ some_is (kind.Structure x.size) j k)

under_const : (t : Target) (ws : List TypeWord) → result_kind t (word.Const ∷ ws) ≡ result_kind t ws
under_const (target.Object n) ws = refl
under_const target.Incomplete ws = refl
under_const target.Void ws = refl
under_const target.Function ws = refl

outcome_kind : (structures : List (Option TypeExtent)) (ws : List TypeWord) (j : Kind) (t : Target)
    → target_of structures ws ≡ t → Stands t → kind_of_type structures ws ≡ Some j → result_kind t ws ≡ j
unfolding extent_of
outcome_kind structures [] j t e s k = absurd cc
outcome_kind structures (word.Void ∷ behind) j t e s k =
    sym (ap (λ x. result_kind x (word.Void ∷ behind)) e) ∙ some_is kind.Void j k
outcome_kind structures (word.Integer i ∷ behind) j t e s k =
    object_by (is_size (size_of i)) (size_of i) (word.Integer i ∷ behind) j t e s (some_is (integer i) j k)
outcome_kind structures (word.Enumeration n ∷ behind) j t e s k =
    object_by (is_size (size_of Int)) (size_of Int) (word.Enumeration n ∷ behind) j t e s (some_is (integer Int) j k)
outcome_kind structures (word.Pointer ∷ behind) j t e s k =
    object_by (is_size 8) 8 (word.Pointer ∷ behind) j t e s (some_is pointer j k)
outcome_kind structures (word.Array count bytes ∷ behind) j t e s k = absurd cc
outcome_kind structures (word.OpenArray ∷ behind) j t e s k = absurd cc
outcome_kind structures (word.Structure n ∷ behind) j t e s k =
    structure_by (structure_extent structures n) (word.Structure n ∷ behind) j t e s k (λ m. refl)
outcome_kind structures (word.Const ∷ behind) j t e s k =
    under_const t behind ∙ outcome_kind structures behind j t e s k
outcome_kind structures (word.Takes ∷ behind) j t e s k = absurd cc
outcome_kind structures (word.Gives ∷ behind) j t e s k = absurd cc

record HasResult (o : Option Kind) (k : Kind) : Type 0 where
  found : Kind
  is : o ≡ Some found
  same : is_kind found k ≡ true

has_result : (o : Option Kind) (k : Kind) → is_kind_of o k ≡ true → HasResult o k
has_result None k h = absurd cc
has_result (Some j) k h = record { found = j; is = refl; same = h }

module _ (scope : Scope) (structures : List (Option TypeExtent)) (line : ℕ) where
  -- arguments behind others, which are valid and have the kinds of their parameters
  record Adds (before : List Expression) (ks : List Kind) (es : List Expression) : Type 0 where
    added : List Expression
    all_of : es ≡ before ++ added
    valid : are_valid scope (expressions_in added) ≡ true
    kinds : are_kinds (kinds_of (expressions_in added)) ks ≡ true

  abbrev IfAdds : List Expression → List Kind → Answer (List Expression) → Type 0
  IfAdds before ks (Ok es) = Adds before ks es
  IfAdds before ks (Err f) = Unit {0}

  none_passed : (vs : List Value) (before : List Expression) (ks : List Kind) (all' : List Expression)
      → IfAdds all' ks (passed structures line [] before vs)
  none_passed [] before ks all' = tt
  none_passed (a ∷ vs) before ks all' = none_passed vs before ks all'

  one_more : (before : List Expression) (e : Expression) (j : Kind) (ks : List Kind) (r : Answer (List Expression))
      → is_valid scope e ≡ true → is_kind (kind_of e) j ≡ true → IfAdds (before ++ e ∷ []) ks r
      → IfAdds before (j ∷ ks) r
  one_more before e j ks (Ok es) v k h = record {
    added = e ∷ h.added;
    all_of = h.all_of ∙ append_assoc before (e ∷ []) h.added;
    valid = all v h.valid;
    kinds = all k h.kinds;
  }
  one_more before e j ks (Err f) v k h = tt

  no_more : (ws : List TypeWord) (before : List Expression) (ks : List Kind) (k : Kind)
      → agrees structures ws ks k ≡ true → IfAdds before ks (counted line ws before)
  no_more (word.Gives ∷ type) before [] k h =
      record { added = []; all_of = sym (append-nil before); valid = refl; kinds = refl }
  no_more (word.Gives ∷ type) before (j ∷ ks) k h = absurd cc
  no_more _ before ks k h = tt

  next_fine : (vs : List Value) (type : List TypeWord) (before : List Expression) (j : Kind) (ks : List Kind)
      (r : Answer Expression) → is_kind_of (kind_of_type structures type) j ≡ true
      → IfFineAs scope structures (first_types 1 type) r
      → ((es : List Expression) → IfAdds es ks (passed structures line (behind_types 1 type) es vs))
      → IfAdds before (j ∷ ks) ((r >>= λ e. Ok (before ++ e ∷ [])) >>= λ es.
      passed structures line (behind_types 1 type) es vs)
  next_fine vs type before j ks (Ok e) h fe next =
      let known : kind_of_type structures type ≡ Some (kind_of e) = sym (first_kind structures type) ∙ fe.kind in
      let same : is_kind (kind_of e) j ≡ true = sym (ap (λ o. is_kind_of o j) known) ∙ h in
      one_more before e j ks (passed structures line (behind_types 1 type) (before ++ e ∷ []) vs) fe.valid same
      (next (before ++ e ∷ []))
  next_fine vs type before j ks (Err f) h fe next = tt

  passed_fine : (vs : List Value) (ws : List TypeWord) (before : List Expression) (ks : List Kind) (k : Kind)
      → AreFine scope structures vs → agrees structures ws ks k ≡ true
      → IfAdds before ks (passed structures line ws before vs)
  passed_fine [] ws before ks k fas h = no_more ws before ks k h
  passed_fine (a ∷ vs) (word.Takes ∷ type) before [] k fas h = absurd cc
  passed_fine (a ∷ vs) (word.Takes ∷ type) before (j ∷ ks) k fas h =
      let both = both_true (takes_kind structures (word.Takes ∷ type) j) (agrees structures (behind_types 1 type) ks k)
      h in
      next_fine vs type before j ks (assigned structures line (first_types 1 type) a) both.0
      (assigned_fine scope structures line (first_types 1 type) a fas.0)
      (λ es. passed_fine vs (behind_types 1 type) es ks k fas.1 both.1)
  passed_fine (a ∷ vs) _ before ks k fas h = none_passed vs before ks before

  -- the call

  call_of : (callee : Callee) (s : Signature) (k : Kind) (es : List Expression) → IsFineCallee scope callee s
      → is_kind k s.result ≡ true → Adds [] s.parameters es → is_valid scope (call_tree line k callee es) ≡ true
  call_of (of_function n) s k es f same h =
      let called' : is_call s (kinds_of (expressions_in h.added)) k ≡ true = all h.kinds same in
      ap (λ x. is_valid scope (call_tree line k (of_function n) x)) h.all_of
      ∙ all (all h.valid f.there) (ap (λ x. is_call x (kinds_of (expressions_in h.added)) k) f.same ∙ called')
  call_of (of_pointer n e) s k es f same h =
      let called' : is_call s (kinds_of (expressions_in h.added)) k ≡ true = all h.kinds same in
      ap (λ x. is_valid scope (call_tree line k (of_pointer n e) x)) h.all_of
      ∙ all (all (all (all f.valid (ap (λ x. is_kind x pointer) f.kind)) h.valid) f.type.there)
      (ap (λ x. is_call x (kinds_of (expressions_in h.added)) k) f.type.same ∙ called')
  call_of (of_routine r) s k es f same h =
      let called' : is_call s (kinds_of (expressions_in h.added)) k ≡ true = all h.kinds same in
      ap (λ x. is_valid scope (call_tree line k (of_routine r) x)) h.all_of
      ∙ all h.valid (ap (λ x. is_call x (kinds_of (expressions_in h.added)) k) f ∙ called')

  bare_call : (callee : Callee) (k : Kind) (es : List Expression)
      → is_converted (call_tree line k callee es) ≡ false
  bare_call (of_function n) k es = refl
  bare_call (of_pointer n e) k es = refl
  bare_call (of_routine r) k es = refl

  -- a result that is complete
  finished : (callee : Callee) (s : Signature) (type : List TypeWord) (k : Kind) (r : Answer (List Expression))
      → IsFineCallee scope callee s → is_kind k s.result ≡ true → kind_of_type structures type ≡ Some k
      → IfAdds [] s.parameters r
      → IfFine scope structures (r >>= λ es. Ok (record { type = type; tree = call_tree line k callee es }))
  finished callee s type k (Ok es) f same e h =
      record { valid = call_of callee s k es f same h; kind = e; bare = bare_call callee k es }
  finished callee s type k (Err x) f same e h = tt

  stands_cases : (callee : Callee) (s : Signature) (type : List TypeWord) (t : Target) (r : Answer (List Expression))
      → target_of structures type ≡ t → IsFineCallee scope callee s → HasResult (kind_of_type structures type) s.result
      → IfAdds [] s.parameters r
      → IfFine scope structures (complete_result line t type >>= λ o. r >>= λ es.
      Ok (record { type = o.type; tree = call_tree line o.kind callee es }))
  stands_cases callee s type target.Incomplete r e f h a = tt
  stands_cases callee s type (target.Object n) r e f h a =
      let k : result_kind (target.Object n) type ≡ h.found =
      outcome_kind structures type h.found (target.Object n) e tt h.is in
      finished callee s (unqualified type) (result_kind (target.Object n) type) r f
      (ap (λ x. is_kind x s.result) k ∙ h.same) (unqualified_kind structures type ∙ h.is ∙ ap Some (sym k)) a
  stands_cases callee s type target.Void r e f h a =
      let k : result_kind target.Void type ≡ h.found = outcome_kind structures type h.found target.Void e tt h.is in
      finished callee s (unqualified type) (result_kind target.Void type) r f
      (ap (λ x. is_kind x s.result) k ∙ h.same) (unqualified_kind structures type ∙ h.is ∙ ap Some (sym k)) a
  stands_cases callee s type target.Function r e f h a =
      let k : result_kind target.Function type ≡ h.found =
      outcome_kind structures type h.found target.Function e tt h.is in
      finished callee s (unqualified type) (result_kind target.Function type) r f
      (ap (λ x. is_kind x s.result) k ∙ h.same) (unqualified_kind structures type ∙ h.is ∙ ap Some (sym k)) a

  pub called_fine : (callee : Callee) (s : Signature) (words : List TypeWord) (vs : List Value)
      → IsFineCallee scope callee s → Spells structures words s → AreFine scope structures vs
      → IfFine scope structures (called structures line callee words vs)
  unfolding called
  called_fine callee s words vs f h fas =
      let type = result_type 0 words in
      stands_cases callee s type (target_of structures type) (passed structures line words [] vs) refl f
      (has_result (kind_of_type structures type) s.result (result_agrees structures s.parameters words s.result h))
      (passed_fine vs words [] s.parameters s.result fas h)

  -- through a pointer

  callee_kind : (ws type : List TypeWord) → callee_type ws ≡ Some type → kind_of_type structures ws ≡ Some pointer
  callee_kind [] type e = absurd cc
  callee_kind (word.Const ∷ behind) type e = callee_kind behind type e
  callee_kind (word.Pointer ∷ behind) type e = refl
  callee_kind (w ∷ behind) type e = absurd cc

  through_cases : (n : ℕ) (o : Option (List TypeWord)) (f : Value) (s : Signature) (vs : List Value)
      → callee_type f.type ≡ o → IsFine scope structures f → HasSignature scope.types n s
      → ((type : List TypeWord) → callee_type f.type ≡ Some type → Spells structures type s)
      → AreFine scope structures vs → IfFine scope structures (called_if structures line n o f vs)
  through_cases n None f s vs e ff h spells fas = tt
  through_cases n (Some type) f s vs e ff h spells fas =
      let k : kind_of f.tree ≡ pointer = some_is (kind_of f.tree) pointer
      (sym ff.kind ∙ callee_kind f.type type e) in
      called_fine (of_pointer n f.tree) s type vs (record { valid = ff.valid; kind = k; type = h }) (spells type e) fas

  pub through_fine : (n : ℕ) (f : Value) (s : Signature) (vs : List Value) → IsFine scope structures f
      → HasSignature scope.types n s
      → ((type : List TypeWord) → callee_type f.type ≡ Some type → Spells structures type s)
      → AreFine scope structures vs → IfFine scope structures (called_through structures line n f vs)
  unfolding called_through
  through_fine n f s vs ff h spells fas = through_cases n (callee_type f.type) f s vs refl ff h spells fas
