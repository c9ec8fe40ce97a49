-- Declarations at file scope: what the initializers of objects with linkage store (C99 6.7.8, 6.9.2).
use Rattle.std.proofs.Common.{◌≡◌, ℕ, Bool, true, false, refl, sym, ap, ◌∙◌, subst, List, []}
use Rattle.std.proofs.Common.{◌∷◌, ◌++◌, Option, Some, None, if◌then◌else◌}
use Rattle.std.specs.Prelude.{Ok, Err, is_none, is_some, not, option_map}
use Rattle.std.specs.List.{list_all}
use Rattle.c_syntax.specs.declared.position.Position.{Position}
use Rattle.c_syntax.specs.Statements as t
use Rattle.c_syntax.specs.Tree.{Initializer}
use Rattle.c_tree.specs.declared.c_type.TypeWord.{TypeWord}
use Rattle.c_tree.specs.declared.c_type.TypeWord.TheVariants as word
use Rattle.c_tree.specs.Extents.{extent_of}
use Rattle.c_tree.specs.Statements.{DeclaredVariable, Part}
use Rattle.c_tree.specs.Valid.{Scope}
use Rattle.c_faults.specs.declared.fault.Rule.TheVariants.{Redeclared}
use Rattle.c_faults.specs.Answer.{Answer, violates, ◌>>=◌}
use Rattle.c_declarators.specs.Derivations.{array_of, is_large}
use Rattle.c_initializer_rules.specs.Initializing.{Initializing, begun}
use Rattle.c_initializer_rules.specs.Placed.{count_of, parts_in}
use Rattle.c_scope.specs.declared.meaning.Designated.{Designated}
use Rattle.c_scope.specs.declared.meaning.Designated.TheVariants as what
use Rattle.c_scope.specs.declared.meaning.Meaning.{Meaning}
use Rattle.c_scope.specs.declared.meaning.Meaning.TheVariants as meaning
use Rattle.c_scope.specs.Declaring.{Declaration, is_linked}
use Rattle.c_scope.specs.Environment.{surroundings}
use Rattle.c_scope.specs.Names.{Name, bound, declared, found, is_empty, or_else}
use Rattle.c_scope.specs.Names as names
use Rattle.c_declarator_typing.specs.Declarators.{Shape, built_in}
use Rattle.c_declarator_typing.specs.Specifications.{Specification}
use Rattle.c_typing_state.specs.State.{State, done, extents, ◌>>>◌}
use Rattle.c_expression_typing.specs.Typed.{shape}
use Rattle.c_unit_typing.specs.Declarations.{alone_in, completed, declaration, declaration_of, declared_as}
use Rattle.c_unit_typing.specs.Declarations.{declared_with, entity_with_type, has_place, initialized_if, is_of_type}
use Rattle.c_unit_typing.specs.Declarations.{is_same_object, named_by, specified, with_declarator, with_declarators}
use Rattle.c_unit_typing.specs.Declarations.{with_entity, with_others, with_parts, with_size}
use Rattle.c_unit_typing.specs.Files.{File, FileTyping}
use Rattle.c_unit_typing.specs.Initializers.{initialized}
use Rattle.c_unit_typing.specs.Lines.{initializer_line}
use Rattle.typing_laws.specs.Validity.More.{AreMore}
use Rattle.typing_laws.specs.Validity.Sound.{is_sized_array}
use Rattle.typing_laws.specs.Validity.Steps.{Structures}
use Rattle.typing_laws.specs.Validity.Typed.{HaveMembers}
use Rattle.typing_laws.proofs.Validity.Common.{first, second}
use Rattle.typing_laws.specs.Declarators.Extending.{Extending, Extends}
use Rattle.typing_laws.specs.Declarators.Given.{AreCounted, IsShapeOf, IsSpecified, anything}
use Rattle.typing_laws.proofs.Declarators.Recursion.{shape_extends}
use Rattle.typing_laws.specs.Declarations.Binding.{IfDeclared, bound_meaning}
use Rattle.typing_laws.proofs.Declarations.Judged.{declared_as_declares}
use Rattle.typing_laws.specs.Scopes.Leaving.{Grows, Leading}
use Rattle.typing_laws.specs.Scopes.Regular.{are_regular_declarators, initializer_of, is_regular_declaration}
use Rattle.typing_laws.specs.Scopes.Regular.{is_regular_initializer, is_regular_initializer_if}
use Rattle.typing_laws.specs.Scopes.Regular.{is_regular_object}
use Rattle.typing_laws.proofs.Scopes.Declarations.{declarator_leads, declared_leads, specified_extends}
use Rattle.typing_laws.proofs.Scopes.Files.{grows_by, grows_on}
use Rattle.typing_laws.proofs.Scopes.Initializers.{initialized_extends}
use Rattle.typing_laws.proofs.Scopes.Leading.{bound_leads, leads_by, state_leads}
use Rattle.typing_laws.proofs.Types.Parameters.{judged_known}
use Rattle.typing_laws.specs.Layouts.Listed.{HasArrays, IfLaidOut, IsDeclared, IsLaidOut}
use Rattle.typing_laws.proofs.Layouts.Arrays.{arrays_kept}
use Rattle.typing_laws.proofs.Layouts.Behind.{shape_behind}
use Rattle.typing_laws.proofs.Layouts.Declared.{declared_as_laid}
use Rattle.program_laws.specs.Bodies.Parameters.{IsOutside}
use Rattle.program_laws.specs.Bodies.Standing.{IsEntity}
use Rattle.program_laws.specs.Bodies.Types.{is_type}
use Rattle.program_laws.proofs.Bodies.Declared.{IfMade, placed_made}
use Rattle.program_laws.proofs.Bodies.Laid.{stored_laid}
use Rattle.program_laws.proofs.Bodies.Outside.{declared_outside, extended_outside, sized_later}
use Rattle.program_laws.proofs.Bodies.Types.{WholeShape, also_gives, built_type, shape_types, stored_type}
use Rattle.typing_laws.specs.Initializers.Initialized.{IfInitialized}
use Rattle.typing_laws.proofs.Initializers.Initialized.{initialized_if_is}
use Rattle.program_laws.specs.Functions.Entities.{Continue}
use Rattle.program_laws.proofs.Functions.Continuing.{continues_on, declarator_continues, keeps_continues}
use Rattle.program_laws.proofs.Functions.Continuing.{continues_same}
use Rattle.program_laws.proofs.Functions.Entities.{size_keeps}
use Rattle.program_laws.specs.Names.Linked.{AreFilled, IsFilled}
use Rattle.program_laws.proofs.Names.Filled.{declarator_filled, extended_filled, size_filled, sized_entity}
use Rattle.program_laws.proofs.Names.Filled.{still_filled}
use Rattle.program_laws.specs.Statics.Initialized.{AreInitializers}
use Rattle.typing_laws.proofs.Common.{filed, some_mapped, unless_large, some_scope, conflict}

-- an object with linkage, and what it is behind its initializer

record Stores (s : State) (n : ℕ) (name : Name) (u : State) (type : List TypeWord) : Type 0 where
  outside : IsOutside u
  filled : AreFilled u.environment
  continues : Continue s.environment.entities u.environment.entities
  entity : IsFilled (what.Object n) type (declared name u.environment.entities)

abbrev IfSized : State → ℕ → Name → Answer (State × List TypeWord) → Type 0
IfSized s n name (Ok r) = Stores s n name r.0 r.1
IfSized s n name (Err e) = Unit {0}

abbrev IfStores : State → ℕ → Name → Answer (State × (List TypeWord × List Part)) → Type 0
IfStores s n name (Ok r) = Stores s n name r.0 r.1.0
IfStores s n name (Err e) = Unit {0}

module _ (s : State) (is : IsOutside s) (filled : AreFilled s.environment) (n : ℕ) (name : Name × ℕ)
    (type : List TypeWord) (at : IsFilled (what.Object n) type (declared name.0 s.environment.entities)) where
  stores_same : Stores s n name.0 s type
  stores_same = record {
    outside = is;
    filled = filled;
    continues = continues_same s.environment.entities;
    entity = at;
  }

  stores_sized : (whole : List TypeWord) → is_same_object (what.Object n) name.0 whole s.environment ≡ true
      → Stores s n name.0 (record s { environment = with_size (what.Object n) name.0 whole s.environment }) whole
  stores_sized whole same =
      let env = s.environment in
      let compatible = sym (ap (is_of_type whole) at.is) ∙ same in
      let entity : IsEntity (what.Object n) (declared name.0 env.entities) = record {
        entity = at.entity;
        is = at.is;
        same = at.same;
      } in
      record {
        outside = (sized_later s is n name.0 entity whole compatible).outside;
        filled = size_filled env (what.Object n) name.0 whole same (at.entity, (at.is, at.same)) filled;
        continues = keeps_continues env.facts.functions env.entities
            (with_size (what.Object n) name.0 whole env).entities (size_keeps env (what.Object n) name.0 whole same);
        entity = subst (λ o. IsFilled (what.Object n) whole
            (declared name.0 (with_entity name.0 (option_map (entity_with_type whole) o) env).entities)) (sym at.is)
            (sized_entity n name.0 whole at.entity env.entities at.same compatible);
      }

  large_stores : (array : TypeWord) (element : List TypeWord)
      → is_same_object (what.Object n) name.0 (array ∷ element) s.environment ≡ true → (large : Bool)
      → IfSized s n name.0 (unless_large s (what.Object n) name.0 array element name.1 large)
  large_stores array element same true = tt
  large_stores array element same false = stores_sized (array ∷ element) same

  sized_stores : (array : TypeWord) (element : List TypeWord) (b : Bool)
      → is_same_object (what.Object n) name.0 (array ∷ element) s.environment ≡ b
      → IfSized s n name.0
      (if not b then violates Redeclared name.1
      else unless_large s (what.Object n) name.0 array element name.1 (is_large array))
  sized_stores array element false e = tt
  sized_stores array element true e = large_stores array element e (is_large array)

completed_stores : (s : State) → IsOutside s → AreFilled s.environment → (n : ℕ) (name : Name × ℕ)
    (type : List TypeWord) → IsFilled (what.Object n) type (declared name.0 s.environment.entities) → (k : ℕ)
    → IfSized s n name.0 (completed (what.Object n) name type k s)
completed_stores s is filled n name (word.OpenArray ∷ element) at k =
    sized_stores s is filled n name (word.OpenArray ∷ element) at (array_of k (extent_of (extents s) element)) element
    (is_same_object (what.Object n) name.0 (array_of k (extent_of (extents s) element) ∷ element) s.environment) refl
completed_stores s is filled n name [] at k = stores_same s is filled n name [] at
completed_stores s is filled n name (word.Void ∷ ws) at k = stores_same s is filled n name (word.Void ∷ ws) at
completed_stores s is filled n name (word.Integer i ∷ ws) at k =
    stores_same s is filled n name (word.Integer i ∷ ws) at
completed_stores s is filled n name (word.Enumeration j ∷ ws) at k =
    stores_same s is filled n name (word.Enumeration j ∷ ws) at
completed_stores s is filled n name (word.Pointer ∷ ws) at k = stores_same s is filled n name (word.Pointer ∷ ws) at
completed_stores s is filled n name (word.Array c b ∷ ws) at k =
    stores_same s is filled n name (word.Array c b ∷ ws) at
completed_stores s is filled n name (word.Structure j ∷ ws) at k =
    stores_same s is filled n name (word.Structure j ∷ ws) at
completed_stores s is filled n name (word.Const ∷ ws) at k = stores_same s is filled n name (word.Const ∷ ws) at
completed_stores s is filled n name (word.Takes ∷ ws) at k = stores_same s is filled n name (word.Takes ∷ ws) at
completed_stores s is filled n name (word.Gives ∷ ws) at k = stores_same s is filled n name (word.Gives ∷ ws) at

done_stores : (s u : State) (n : ℕ) (name : Name) → Continue s.environment.entities u.environment.entities
    → (parts : List Part) (a : Answer (State × List TypeWord)) → IfSized u n name a
    → IfStores s n name (a >>= λ r. (done (r.1, parts)) r.0)
done_stores s u n name k parts (Ok r) h = record {
  outside = h.outside;
  filled = h.filled;
  continues = continues_on s.environment.entities u.environment.entities r.0.environment.entities k h.continues;
  entity = h.entity;
}
done_stores s u n name k parts (Err e) h = tt

values_store : (s : State) → IsOutside s → AreFilled s.environment → (n : ℕ) (name : Name × ℕ) (type : List TypeWord)
    → IsFilled (what.Object n) type (declared name.0 s.environment.entities) → (a : Answer (State × Initializing))
    → Extending false s anything a
    → IfStores s n name.0 (a >>= λ r.
    (completed (what.Object n) name type (count_of r.1.parts) >>> λ type. done (type, parts_in r.1.parts)) r.0)
values_store s is filled n name type at (Ok r) h =
    done_stores s r.0 n name.0
    (subst (Continue s.environment.entities) (sym h.0.entities) (continues_same s.environment.entities))
    (parts_in r.1.parts) (completed (what.Object n) name type (count_of r.1.parts) r.0)
    (completed_stores r.0 (extended_outside s r.0 h.0 is) (extended_filled s r.0 h.0 filled) n name type
    (subst (λ z. IsFilled (what.Object n) type (declared name.0 z)) (sym h.0.entities) at) (count_of r.1.parts))
values_store s is filled n name type at (Err e) h = tt

-- a file outside of functions, where it is known what initializers store

pub record IsOn (f : File) : Type 0 where
  pub outside : IsOutside f.state
  pub laid : IsLaidOut f.state
  pub filled : AreFilled f.state.environment
  pub members : HaveMembers f.state
  pub each : (end : File) → Grows f end → Continue f.state.environment.entities end.state.environment.entities
      → AreInitializers end f.initializers

abbrev pub IfOn : {A : Type 0} → Answer (File × A) → Type 0
IfOn (Ok r) = IsOn r.0
IfOn (Err e) = Unit {0}

-- what adds no initializers
pub record IsStep (f g : File) : Type 0 where
  pub outside : IsOutside g.state
  pub laid : IsLaidOut g.state
  pub filled : AreFilled g.state.environment
  pub grows : Grows f g
  pub continues : Continue f.state.environment.entities g.state.environment.entities
  pub same : g.initializers ≡ f.initializers

pub on_step : (f g : File) → IsOn f → IsStep f g → IsOn g
on_step f g is h = record {
  outside = h.outside;
  laid = h.laid;
  filled = h.filled;
  members = h.grows.members is.members;
  each = λ end more continues.
      subst (AreInitializers end) (sym h.same)
      (is.each end (grows_on f g end h.grows more)
      (continues_on f.state.environment.entities g.state.environment.entities end.state.environment.entities
      h.continues continues));
}

extended_step : (f : File) → IsOn f → (u : State) → Extends false f.state u → IsLaidOut u
    → IsStep f (record f { state = u })
extended_step f is u h laid =
    let g = record f { state = u } in
    record {
      outside = extended_outside f.state u h is.outside;
      laid = laid;
      filled = extended_filled f.state u h is.filled;
      grows = grows_by f g (state_leads f u (leads_by f.state u h));
      continues = subst (Continue f.state.environment.entities) (sym h.entities)
          (continues_same f.state.environment.entities);
      same = refl;
    }

state_on : {A B : Type 0} (f : File) → IsOn f → (p w : State → A → Type 0) (a : Answer (State × A))
    (next : A → FileTyping B) → Extending false f.state p a → IfLaidOut w a
    → ((x : A) (g : File) → AreMore (extents f.state) (extents g.state) → IsOn g → p g.state x → w g.state x
    → IfOn (next x g))
    → IfOn (a >>= filed f >>= λ r. next r.1 r.0)
state_on f is p w (Ok r) next h laid k =
    let g = record f { state = r.0 } in
    k r.1 g h.0.more (on_step f g is (extended_step f is r.0 h.0 laid.0)) h.1 laid.1
state_on f is p w (Err e) next h laid k = tt

-- an object with linkage with its initializer

both_initializers : (end : File) (xs ys : List (ℕ × List Part)) → AreInitializers end xs → AreInitializers end ys
    → AreInitializers end (xs ++ ys)
both_initializers end [] ys h g = g
both_initializers end (x ∷ xs) ys h g = (h.0, both_initializers end xs ys h.1 g)

parts_on : (f : File) → IsOn f → (n : ℕ) (name : Name) (a : Answer (State × (List TypeWord × List Part)))
    → ((scope : Scope) (last : Structures) → IfInitialized scope last (what.Object n) name f.state a)
    → IfStores f.state n name a → Leading f (a >>= filed f >>= λ r. with_parts n true r.1 r.0)
    → IfOn (a >>= filed f >>= λ r. with_parts n true r.1 r.0)
parts_on f is n name (Ok r) stored h leads =
    let g = record f { state = r.0; initializers = f.initializers ++ (n, r.1.1) ∷ [] } in
    let complete = (stored some_scope []).completes.complete in
    record {
      outside = h.outside;
      laid = (stored some_scope []).laid_out;
      filled = h.filled;
      members = leads.state.members is.members;
      each = λ end more continues.
          (let all = grows_on f g end (grows_by f g leads) more in
          let later = continues_on f.state.environment.entities r.0.environment.entities
          end.state.environment.entities h.continues continues in
          both_initializers end f.initializers ((n, r.1.1) ∷ []) (is.each end all later) (
            record {
              before = f;
              outside = is.outside;
              filled = is.filled;
              members = is.members;
              grown = all;
              continues = later;
              behind = g;
              grows = more;
              name = name;
              type = r.1.0;
              complete = complete;
              entity = still_filled (what.Object n) r.1.0 r.0.environment.entities end.state.environment.entities name
                  continues h.entity;
              valid = λ scope last knows covers. (stored scope last).parts knows covers;
            },
            tt,
          ));
    }
parts_on f is n name (Err e) stored h leads = tt

object_on : (f : File) → IsOn f → (n : ℕ) (name : Name × ℕ) (type : List TypeWord)
    → names.meaning name.0 f.state.environment.names ≡ Some (meaning.Named (what.Object n) type) → (x : Initializer)
    → is_regular_initializer x ≡ true → IsDeclared true f.state (Some (meaning.Named (what.Object n) type))
    → IfOn (declared_with name (Some x) (Some (meaning.Named (what.Object n) type)) f)
object_on f is n name type e x c known =
    parts_on f is n name.0 (initialized_if (what.Object n) name type (Some x) f.state)
    (λ scope last. initialized_if_is scope last (what.Object n) name type (Some x) c f.state is.outside.formed is.laid
    known.complete known.arrays)
    (values_store f.state is.outside is.filled n name type (is.filled.each name.0 (what.Object n) type e refl)
    (initialized x (begun type) f.state) (initialized_extends x c (begun type) f.state is.outside.formed))
    (declared_leads name (Some x) c (Some (meaning.Named (what.Object n) type)) f is.outside.formed)

-- declarators

unlinked : (f : File) → IsOn f → (name : Name) (d : Designated) (type : List TypeWord)
    → names.meaning name f.state.environment.names ≡ Some (meaning.Named d type) → is_linked d ≡ false
    → false ≡ true
unlinked f is name d type e l = sym l ∙ is.outside.names.linked name d type e

meant_on : (f : File) → IsOn f → (name : Name × ℕ) (x : Option Initializer) → is_regular_initializer_if x ≡ true
    → (m : Meaning) → names.meaning name.0 f.state.environment.names ≡ Some m
    → IsDeclared (is_some x) f.state (Some m) → IfOn (declared_with name x (Some m) f)
meant_on f is name None c (meaning.Named (what.Object n) type) e known = is
meant_on f is name (Some x) c (meaning.Named (what.Object n) type) e known = object_on f is n name type e x c known
meant_on f is name x c (meaning.Typedef type) e known = is
meant_on f is name x c (meaning.Constant w) e known = is
meant_on f is name x c (meaning.Named (what.Function n) type) e known = is
meant_on f is name x c (meaning.Named (what.Library r) type) e known = is
meant_on f is name x c (meaning.Named (what.Static n) type) e known =
    conflict (unlinked f is name.0 (what.Static n) type e refl)
meant_on f is name x c (meaning.Named (what.Variable n) type) e known =
    conflict (unlinked f is name.0 (what.Variable n) type e refl)

named_from : (f : File) → IsOn f → (d : Declaration) → is_type d.type ≡ true → (line : ℕ) (x : Option Initializer)
    → is_regular_initializer_if x ≡ true → (a : Answer (State × Option Meaning)) → IfDeclared d f.state a
    → IfMade d f.state a → IfLaidOut (IsDeclared (is_some x)) a
    → IfOn (a >>= filed f >>= λ r. declared_with (d.name, line) x r.1 r.0)
named_from f is d whole line x c (Ok r) h made laid =
    let env = f.state.environment in
    let m = bound_meaning env d in
    let g = record f { state = r.0 } in
    let later = declared_outside f.state r.0 d is.outside made.state h.0.binds h.0.formed whole in
    let on = on_step f g is (record {
      outside = later.outside;
      laid = laid.0;
      filled = subst (λ z. AreFilled z.environment) (sym made.state) (declarator_filled env d made.judged is.filled);
      grows = grows_by f g (state_leads f r.0 (bound_leads d.name m f.state r.0 h.0.binds h.0.formed));
      continues = subst (λ z. Continue env.entities z.environment.entities) (sym made.state)
          (declarator_continues env d (judged_known (surroundings env d) d tt made.judged));
      same = refl;
    }) in
    subst (λ o. IfOn (declared_with (d.name, line) x o g)) (sym h.1)
    (meant_on g on (d.name, line) x c m
    (ap (λ o. or_else o (found d.name r.0.environment.names.outer)) h.0.binds.here)
    (subst (IsDeclared (is_some x) r.0) h.1 laid.1))
named_from f is d whole line x c (Err e) h made laid = tt

named_on : (in_head : Bool) (spec : Specification) → is_sized_array spec.type ≡ true → is_type spec.type ≡ true
    → (x : Option Initializer) → is_regular_initializer_if x ≡ true → (sh : Shape) → AreCounted sh.derivations
    → WholeShape sh → (name : Option (Name × ℕ)) (f : File) → IsOn f → HasArrays f.state spec
    → IfOn (named_by in_head spec x sh name f)
named_on in_head spec sized whole x c sh counted derives None f is arrays = is
named_on in_head spec sized whole x c sh counted derives (Some name) f is arrays =
    let i = option_map initializer_line x in
    let d = declaration_of spec (built_in f.state spec sh) name i in
    named_from f is d (built_type (extents f.state) spec.type whole sh.derivations derives) name.1 x c
    (declared_as in_head spec sh i name f.state)
    (declared_as_declares in_head f.state is.outside.formed spec sized sh counted i name)
    (placed_made d f.state name spec.line (has_place in_head spec (built_in f.state spec sh).type))
    (subst (λ b. IfLaidOut (IsDeclared b) (declared_as in_head spec sh i name f.state))
    (some_mapped initializer_line x)
    (declared_as_laid in_head f.state is.outside.formed is.laid spec sized arrays sh counted i name))

declarator_on : (in_head : Bool) (spec : Specification) → is_sized_array spec.type ≡ true → is_type spec.type ≡ true
    → (d : t.InitDeclarator) → is_regular_object d (initializer_of d) ≡ true → (f : File) → IsOn f
    → HasArrays f.state spec → IfOn (with_declarator in_head spec d f)
declarator_on in_head spec sized whole d c f is arrays =
    state_on f is (λ u sh. IsShapeOf u d.declarator sh × WholeShape sh) anything (shape false d.declarator f.state)
    (λ sh. named_by in_head spec (initializer_of d) sh sh.name)
    (also_gives false f.state (λ u sh. IsShapeOf u d.declarator sh) WholeShape (shape false d.declarator f.state)
    (shape_extends false d.declarator (first _ _ c) f.state is.outside.formed)
    (shape_types false d.declarator (first _ _ c) f.state is.outside.formed is.outside.types))
    (shape_behind false d.declarator (first _ _ c) f.state is.outside.formed is.laid)
    (λ sh g more on has some. named_on in_head spec sized whole (initializer_of d) (second _ _ c) sh has.0.counted
    has.1 sh.name g on (arrays_kept (extents f.state) (extents g.state) more spec.type arrays))

then_on : {A B : Type 0} (spec : Specification) (f : File) (a : Answer (File × A)) (next : A → FileTyping B)
    → Leading f a → IfOn a → HasArrays f.state spec
    → ((x : A) (g : File) → IsOn g → HasArrays g.state spec → IfOn (next x g))
    → IfOn (a >>= λ r. next r.1 r.0)
then_on spec f (Ok r) next leads on arrays k =
    k r.1 r.0 on (arrays_kept (extents f.state) (extents r.0.state) leads.state.more spec.type arrays)
then_on spec f (Err e) next leads on arrays k = tt

others_on : (in_head : Bool) (spec : Specification) → is_sized_array spec.type ≡ true → is_type spec.type ≡ true
    → (ds : List (Position × t.InitDeclarator)) → list_all (λ d. is_regular_object d.1 (initializer_of d.1)) ds ≡ true
    → (vs : List DeclaredVariable) (f : File) → IsOn f → HasArrays f.state spec
    → IfOn (with_others in_head spec ds vs f)
others_on in_head spec sized whole [] c vs f is arrays = is
others_on in_head spec sized whole (d ∷ ds) c vs f is arrays =
    then_on spec f (with_declarator in_head spec d.1 f) (λ us. with_others in_head spec ds (vs ++ us))
    (declarator_leads in_head spec sized d.1 (first _ _ c) f is.outside.formed)
    (declarator_on in_head spec sized whole d.1 (first _ _ c) f is arrays) arrays
    (λ us g on arrays. others_on in_head spec sized whole ds (second _ _ c) (vs ++ us) g on arrays)

alone_on : (f : File) → IsOn f → (a : Answer (List DeclaredVariable))
    → IfOn (a >>= (λ x. Ok (f.state, x)) >>= filed f)
alone_on f is (Ok x) = is
alone_on f is (Err e) = tt

declarators_on : (in_head : Bool) (spec : Specification) → is_sized_array spec.type ≡ true → is_type spec.type ≡ true
    → (ds : Option t.InitDeclarators) → are_regular_declarators ds ≡ true → (f : File) → IsOn f
    → HasArrays f.state spec → IfOn (with_declarators in_head spec ds f)
declarators_on in_head spec sized whole None c f is arrays = alone_on f is (alone_in in_head spec f.state)
declarators_on in_head spec sized whole (Some ds) c f is arrays =
    then_on spec f (with_declarator in_head spec ds.first f) (λ vs. with_others in_head spec ds.others vs)
    (declarator_leads in_head spec sized ds.first (first _ _ c) f is.outside.formed)
    (declarator_on in_head spec sized whole ds.first (first _ _ c) f is arrays) arrays
    (λ vs g on arrays. others_on in_head spec sized whole ds.others (second _ _ c) vs g on arrays)

pub declaration_on : (in_head : Bool) (d : t.Declaration) → is_regular_declaration d ≡ true → (f : File) → IsOn f
    → IfOn (declaration in_head d f)
declaration_on in_head d c f is =
    state_on f is (λ u spec. IsSpecified u spec × (is_type spec.type ≡ true)) HasArrays
    (specified (is_none d.declarators) d f.state) (λ spec. with_declarators in_head spec d.declarators)
    (also_gives false f.state IsSpecified (λ spec. is_type spec.type ≡ true)
    (specified (is_none d.declarators) d f.state)
    (specified_extends (is_none d.declarators) d c f.state is.outside.formed)
    (stored_type (is_none d.declarators) d.specifiers (first _ _ c) f.state is.outside.formed is.outside.types))
    (stored_laid (is_none d.declarators) d.specifiers (first _ _ c) f.state is.outside.formed is.laid)
    (λ spec g more on has arrays. declarators_on in_head spec has.0 has.1 d.declarators (second _ _ c) g on arrays)
