-- What declarations with linkage in blocks bind their names to is meant at the end of the file (C99 6.2.2, 6.2.7).
use Rattle.std.proofs.Common.{◌≡◌, ℕ, Bool, true, false, refl, sym, ap, ◌∙◌, subst, List, [], ◌∷◌, Option, Some, None}
use Rattle.std.proofs.Common.{if◌then◌else◌}
use Rattle.std.specs.Prelude.{Ok, length, nat_le}
use Rattle.c_syntax.specs.Statements as t
use Rattle.c_tree.specs.declared.c_type.TypeWord.{TypeWord}
use Rattle.c_tree.specs.declared.expression.Kind.{Kind}
use Rattle.c_tree.specs.Valid.{Scope}
use Rattle.c_scope.specs.declared.meaning.Designated.{Designated}
use Rattle.c_scope.specs.declared.meaning.Designated.TheVariants as what
use Rattle.c_scope.specs.declared.meaning.Entity.{Entity}
use Rattle.c_scope.specs.declared.meaning.Meaning.{Meaning}
use Rattle.c_scope.specs.declared.meaning.Meaning.TheVariants as meaning
use Rattle.c_scope.specs.Composite.{composite}
use Rattle.c_scope.specs.Declaring.{Declaration, has_linkage, is_linked, judged}
use Rattle.c_scope.specs.Environment.{Environment, entity_with, in_file, linked, surroundings, type_or, visible_type}
use Rattle.c_scope.specs.Environment.{with_declarator, without_linkage}
use Rattle.c_scope.specs.Names.{Name, declared}
use Rattle.c_scope.specs.Names as names
use Rattle.c_operand_typing.specs.Primaries.{is_undefined}
use Rattle.c_typing_state.specs.State.{State, extents}
use Rattle.c_unit_typing.specs.Files.{File}
use Rattle.c_unit_typing.specs.Programs.{final_type, program_of}
use Rattle.c_unit_typing.specs.Units.{file_with}
use Rattle.typing_laws.specs.Validity.More.{AreMore}
use Rattle.typing_laws.specs.Validity.Names.{IsDesignated, IsFunctionOf, kind_among}
use Rattle.typing_laws.specs.Validity.Steps.{Structures}
use Rattle.typing_laws.proofs.Declarations.Bound.{bound_here}
use Rattle.typing_laws.specs.Scopes.Defined.{define_functions}
use Rattle.typing_laws.specs.Scopes.Regular.{are_regular_externals}
use Rattle.typing_laws.specs.Layouts.Listed.{has_array_bytes}
use Rattle.typing_laws.proofs.Layouts.Arrays.{arrays_kept}
use Rattle.typing_laws.proofs.Types.Parameters.{judged_known}
use Rattle.program_laws.specs.Files.Numbers.{HasKind}
use Rattle.program_laws.proofs.Files.Ends.{owns_all}
use Rattle.program_laws.proofs.Files.StaticKinds.{entity_kind}
use Rattle.program_laws.proofs.Files.Statics.{in_order_by}
use Rattle.program_laws.specs.Bodies.Standing.{EntitiesLead, EntityLeads, IsMeantIfLinked, IsReady}
use Rattle.program_laws.specs.Bodies.Standing.{LinkedAreMeant}
use Rattle.program_laws.specs.Bodies.Standing.{composed}
use Rattle.program_laws.proofs.Bodies.Entities.{declared_linked}
use Rattle.program_laws.specs.Functions.Entities.{Fills, without_sizes}
use Rattle.program_laws.proofs.Functions.Entities.{composite_fills, composite_words, fills_on, fills_same}
use Rattle.program_laws.proofs.Functions.Continuing.{bound_words, entity_fills}
use Rattle.program_laws.proofs.Functions.Main.{function_designated}
use Rattle.program_laws.specs.Names.Linked.{HaveSizes, IsOf}
use Rattle.program_laws.proofs.Names.Held.{Holds, HoldsArray, IsNamed, composite_holds, holds_filled}
use Rattle.program_laws.proofs.Names.Held.{holds_final}
use Rattle.program_laws.proofs.Names.Held.{named_holds}
use Rattle.program_laws.proofs.Names.Meant.{static_held}

-- types that get sizes

composed_by : (type u : List TypeWord) (o : Option (List TypeWord)) → composite type u ≡ o
    → Fills type (type_or o type) × (without_sizes (type_or o type) ≡ without_sizes type)
composed_by type u None e = (fills_same type, refl)
composed_by type u (Some c) e = ((composite_fills type u c e).0, (composite_words type u c e).0)

pub composed_fills : (type : List TypeWord) (others : List (List TypeWord)) → Fills type (composed type others)
composed_fills type [] = fills_same type
composed_fills type (u ∷ others) =
    let c = type_or (composite type u) type in
    fills_on type c (composed c others) (composed_by type u (composite type u) refl).0 (composed_fills c others)

pub composed_words : (type : List TypeWord) (others : List (List TypeWord))
    → without_sizes (composed type others) ≡ without_sizes type
composed_words type [] = refl
composed_words type (u ∷ others) =
    composed_words (type_or (composite type u) type) others ∙ (composed_by type u (composite type u) refl).1

-- what an entity is at the end

entity_behind : (env end : Environment) (d : Declaration) → EntitiesLead (with_declarator env d) end
    → has_linkage (in_file env) d ≡ true
    → EntityLeads (entity_with env d (declared d.name env.entities)) (declared d.name end.entities)
entity_behind env end d lead linkage =
    let x = entity_with env d (declared d.name env.entities) in
    lead.each d.name x
    (ap (λ b. declared d.name (if b then linked env d else without_linkage d.storage env d).entities) linkage
    ∙ bound_here d.name x env.entities)

-- the type that is visible behind a declaration, beside what was visible before

visible_holds : (last : Structures) (k : Kind) (type : List TypeWord) → Holds last k type → (m : Option Meaning)
    → ((w : Designated) (s : List TypeWord) → m ≡ Some (meaning.Named w s) → is_linked w ≡ true → HoldsArray k s)
    → Holds last k (visible_type type m)
visible_holds last k type h None g = h
visible_holds last k type h (Some (meaning.Typedef s)) g = h
visible_holds last k type h (Some (meaning.Constant w)) g = h
visible_holds last k type h (Some (meaning.Named w s)) g = by (is_linked w) refl (composite s type) refl
  where
    by : (b : Bool) → is_linked w ≡ b → (o : Option (List TypeWord)) → composite s type ≡ o
        → Holds last k (if b then type_or o type else type)
    by false e o i = h
    by true e None i = h
    by true e (Some c) i = composite_holds last k s type c i (g w s refl e) h

-- what was visible before
module _ (scope : Scope) (last : Structures) (s : State) (d : Declaration) (ready : IsReady s)
    (more : AreMore (extents s) last)
    (before : IsMeantIfLinked scope last s (names.meaning d.name s.environment.names)) where
  meant_before : (w : Designated) (type : List TypeWord)
      → names.meaning d.name s.environment.names ≡ Some (meaning.Named w type) → is_linked w ≡ true
      → IsDesignated scope last s w type
  meant_before w type e l = subst (IsMeantIfLinked scope last s) e before l

  laid_before : (w : Designated) (type : List TypeWord)
      → names.meaning d.name s.environment.names ≡ Some (meaning.Named w type) → is_linked w ≡ true
      → has_array_bytes last type ≡ true
  laid_before w type e l =
      arrays_kept (extents s) last more type (ready.laid.names d.name (meaning.Named w type) e l).arrays

  arrays_before : (n : ℕ) (k : Kind) → HasKind scope.statics n k
      → (entity_with s.environment d (declared d.name s.environment.entities)).what ≡ what.Object n
      → (w : Designated) (type : List TypeWord)
      → names.meaning d.name s.environment.names ≡ Some (meaning.Named w type) → is_linked w ≡ true
      → HoldsArray k type
  arrays_before n k has is w type e l =
      let at = ready.linked.names d.name w type e l in
      let same : w ≡ what.Object n =
      sym at.same ∙ sym (ap (λ o. (entity_with s.environment d o).what) at.is) ∙ is in
      let meant = subst (λ z. IsDesignated scope last s z type) same (meant_before w type e l) in
      named_holds last k type (laid_before w type e l)
      (record {
        named = (subst (λ z. IsNamed last z type) has.kind
            (record { named = meant.kind; sized = meant.sized })).named;
        sized = meant.sized;
      })

-- a declaration with linkage in a block
module _ (objects : Option (List (List Bool))) (end : ℕ) (es : List t.External) (f : File)
    (regular : are_regular_externals es ≡ true) (define : define_functions es ≡ true)
    (accepted : file_with objects end es ≡ Ok f) (whole : HaveSizes f) (scope : Scope)
    (of : IsOf (program_of f) scope) where
  pub object_kind_at : (name : Name) (x : Entity) (n : ℕ) → declared name f.state.environment.entities ≡ Some x
      → x.what ≡ what.Object n
      → HasKind scope.statics n (kind_among (extents f.state) (final_type (extents f.state) x.c_type))
  object_kind_at name x n e w =
      subst (λ z. HasKind z n (kind_among (extents f.state) (final_type (extents f.state) x.c_type))) (sym of.statics)
      (entity_kind f (in_order_by f (owns_all objects end es f regular accepted)) name x n e w)

  pub function_meant : (s : State) → f.state.environment.facts ≡ s.environment.facts → (name : Name) (y : Entity)
      (n : ℕ) → declared name f.state.environment.entities ≡ Some y → y.what ≡ what.Function n → (type : List TypeWord)
      → without_sizes type ≡ without_sizes y.c_type → is_undefined n s ≡ false
      → IsFunctionOf scope (extents f.state) n type
  function_meant s facts name y n is e type words known =
      function_designated objects end es f regular define accepted scope of.functions name y n is e type words
      (ap (λ z. nat_le (length z.functions) n) facts ∙ known)

  module _ (s : State) (d : Declaration) (ready : IsReady s)
      (fine : judged (surroundings s.environment d) d ≡ Ok tt) (linkage : has_linkage (in_file s.environment) d ≡ true)
      (lead : EntitiesLead (with_declarator s.environment d) f.state.environment)
      (more : AreMore (extents s) (extents f.state)) (facts : f.state.environment.facts ≡ s.environment.facts)
      (before : IsMeantIfLinked scope (extents f.state) s (names.meaning d.name s.environment.names)) where
    abbrev x : Entity
    x = entity_with s.environment d (declared d.name s.environment.entities)

    abbrev visible : List TypeWord
    visible = visible_type d.type (names.meaning d.name s.environment.names)

    at : EntityLeads x (declared d.name f.state.environment.entities)
    at = entity_behind s.environment f.state.environment d lead linkage

    filled : Fills d.type at.entity.c_type
    filled =
        subst (Fills d.type) (sym at.type)
        (fills_on d.type x.c_type (composed x.c_type at.others)
        (entity_fills s.environment d (judged_known (surroundings s.environment d) d tt fine) linkage
        (declared d.name s.environment.entities) refl)
        (composed_fills x.c_type at.others))

    words : without_sizes visible ≡ without_sizes at.entity.c_type
    words =
        bound_words s.environment d tt fine linkage ∙ sym (composed_words x.c_type at.others)
        ∙ ap without_sizes (sym at.type)

    designated : (w : Designated) → x.what ≡ w → is_linked w ≡ true → IsDesignated scope (extents f.state) s w visible
    designated (what.Object n) e l =
        let last = extents f.state in
        let y = at.entity in
        let k = kind_among last (final_type last y.c_type) in
        let size = whole.linked d.name y n at.is (at.same ∙ e) in
        let has = object_kind_at d.name y n at.is (at.same ∙ e) in
        static_held scope last n k visible has size
        (visible_holds last k d.type (holds_filled last k d.type y.c_type filled (holds_final last y.c_type size))
        (names.meaning d.name s.environment.names) (arrays_before scope last s d ready more before n k has e))
    designated (what.Function n) e l = λ known.
        function_meant s facts d.name at.entity n at.is (at.same ∙ e) visible words known
    designated (what.Library r) e l = tt
    designated (what.Static n) e l = absurd cc
    designated (what.Variable n) e l = absurd cc

    pub declaration_meant : IsDesignated scope (extents f.state) s x.what visible
    declaration_meant = designated x.what refl (declared_linked s.environment d ready.linked)

  pub linked_meant : LinkedAreMeant scope (extents f.state) f.state
  linked_meant = record {
    each = λ s d ready sized fine linkage lead more facts before.
        declaration_meant s d ready fine linkage lead more facts before;
  }
