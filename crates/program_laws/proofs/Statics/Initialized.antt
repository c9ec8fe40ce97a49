-- Objects with linkage have sizes at the end of their file, and their initializers are valid and lie in them (C99
-- 6.2.7, 6.7.8, 6.9.2).
use Rattle.std.proofs.Common.{◌≡◌, ℕ, suc, Bool, true, false, ◌||◌, refl, sym, ap, ◌∙◌, subst, List, [], ◌∷◌}
use Rattle.std.proofs.Common.{Option, Some, None}
use Rattle.std.specs.Prelude.{Ok, Err, ◌==◌, not, option_map, slice_get}
use Rattle.std.proofs.lemmas.Bool.{and_from, eqb-true}
use Rattle.c_syntax.specs.Statements as t
use Rattle.c_tree.specs.declared.c_type.TypeWord.{TypeWord}
use Rattle.c_tree.specs.declared.c_type.TypeWord.TheVariants as word
use Rattle.c_tree.specs.declared.expression.Kind.{Kind}
use Rattle.c_tree.specs.declared.expression.Kind.TheVariants as kind
use Rattle.c_tree.specs.Extents.{TypeExtent, array_extent, capped, extent_of}
use Rattle.c_tree.specs.Kinds.{has_size, size_of_kind}
use Rattle.c_tree.specs.Programs.{Program}
use Rattle.c_tree.specs.Statements.{DeclaredVariable, Part}
use Rattle.c_tree.specs.Valid.{Scope}
use Rattle.c_tree.specs.ValidProgram.{are_parts, scope_in}
use Rattle.c_faults.specs.Answer.{Answer, ◌>>=◌}
use Rattle.c_place_rules.specs.Targets.{object_kind}
use Rattle.c_facts.specs.Facts.{facts_in}
use Rattle.c_scope.specs.declared.meaning.Designated.{Designated}
use Rattle.c_scope.specs.declared.meaning.Designated.TheVariants as what
use Rattle.c_scope.specs.declared.meaning.Entity.{Entity}
use Rattle.c_scope.specs.declared.meaning.Meaning.{Meaning}
use Rattle.c_scope.specs.declared.meaning.Meaning.TheVariants as meaning
use Rattle.c_scope.specs.Environment.{Facts}
use Rattle.c_scope.specs.Names.{Name, Names, declared}
use Rattle.c_scope.specs.Names as names
use Rattle.c_operand_typing.specs.Primaries.{size_or_zero}
use Rattle.c_typing_state.specs.State.{extents}
use Rattle.c_unit_typing.specs.Declarations.{declaration, kind_in}
use Rattle.c_unit_typing.specs.Files.{File, FileTyping}
use Rattle.c_unit_typing.specs.Programs.{final_type, program_of}
use Rattle.c_unit_typing.specs.Units.{external, externals, file_before, file_with}
use Rattle.typing_laws.specs.Validity.Names.{IsDesignated, IsMeant, kind_among}
use Rattle.typing_laws.specs.Validity.Sound.{Covers, Knows}
use Rattle.typing_laws.specs.Validity.Steps.{Structures}
use Rattle.typing_laws.proofs.Validity.Common.{first, second}
use Rattle.typing_laws.proofs.Validity.Kept.{extent_kept}
use Rattle.typing_laws.proofs.Validity.Sound.{get_extended}
use Rattle.typing_laws.specs.Scopes.Defined.{define_functions, defines}
use Rattle.typing_laws.specs.Scopes.Leaving.{Growing}
use Rattle.typing_laws.specs.Scopes.Regular.{are_regular_externals, is_regular_external}
use Rattle.typing_laws.proofs.Scopes.Files.{external_grows, grows_same}
use Rattle.typing_laws.proofs.Scopes.Start.{file_formed, file_members}
use Rattle.typing_laws.specs.LaidOut.Behind.{IsLaidIf}
use Rattle.typing_laws.proofs.LaidOut.Files.{external_laid}
use Rattle.typing_laws.proofs.Layouts.Start.{file_laid}
use Rattle.program_laws.specs.Files.Numbers.{HasKind}
use Rattle.program_laws.proofs.Files.Ends.{answer, behind_all, owns_all, same_ok}
use Rattle.program_laws.proofs.Files.StaticKinds.{entity_kind}
use Rattle.program_laws.proofs.Files.Statics.{in_order_by}
use Rattle.program_laws.specs.Bodies.Defined.{IfDefined}
use Rattle.program_laws.proofs.Bodies.Definitions.{definition_defined}
use Rattle.program_laws.proofs.Bodies.Whole.{file_outside}
use Rattle.program_laws.specs.Functions.Entities.{IfContinues}
use Rattle.program_laws.proofs.Functions.Continuing.{continues_same, external_continues}
use Rattle.program_laws.specs.Names.Linked.{HaveSizes, IsOf}
use Rattle.program_laws.proofs.Names.Definitions.{external_filled}
use Rattle.program_laws.proofs.Names.Start.{start_filled}
use Rattle.program_laws.proofs.Names.Filled.{IfFileFilled, still_filled}
use Rattle.program_laws.proofs.Names.Has.{program_has}
use Rattle.program_laws.proofs.Names.Held.{Holds, holds_filled, holds_final}
use Rattle.program_laws.proofs.Names.Known.{entity_meant}
use Rattle.program_laws.specs.Statics.Initialized.{AreInitializers, AreOwn, IsInitializer}
use Rattle.program_laws.specs.Statics.Linked.{are_initialized, are_parts_at, is_initialized}
use Rattle.program_laws.proofs.Statics.Ending.{IfOn, IsOn, declaration_on, on_step}
use Rattle.program_laws.proofs.Statics.Storing.{IfFileOwn, IfLeaves, definition_leaves, externals_own}
use Rattle.program_laws.proofs.Statics.Storing.{own_found}
use Rattle.program_laws.proofs.Statics.Storing.{own_start}

-- where a file begins

file_on : (objects : Option (List (List Bool))) (facts : Facts) → IsOn (file_before objects facts)
file_on objects facts = record {
  outside = file_outside objects facts;
  laid = file_laid objects facts;
  filled = start_filled facts;
  members = file_members objects facts;
  each = λ end more continues. tt;
}

-- declarations and definitions one behind the other

definition_on : (f : File) → IsOn f → (a : Answer (File × Unit {0})) → IfDefined f a → IsLaidIf a → IfFileFilled a
    → Growing f a → IfContinues f a → IfLeaves f a → IfOn a
definition_on f is (Ok r) defined laid filled grows continues leaves =
    on_step f r.0 is (record {
      outside = defined.outside;
      laid = laid;
      filled = filled;
      grows = grows;
      continues = continues;
      same = leaves.same;
    })
definition_on f is (Err e) defined laid filled grows continues leaves = tt

declared_on : (a : Answer (File × List DeclaredVariable)) → IfOn a → IfOn (a >>= λ r. Ok (r.0, tt {0}))
declared_on (Ok r) h = h
declared_on (Err e) h = tt

external_on : (e : t.External) → is_regular_external e ≡ true → defines e ≡ true → (f : File) → IsOn f
    → IfOn (external e f)
external_on (t.definition specs d b) c defined f is =
    definition_on f is (external (t.definition specs d b) f)
    (definition_defined specs d b (first _ _ (first _ _ c)) (second _ _ (first _ _ c)) (second _ _ c) defined f
    is.outside is.laid)
    (external_laid (t.definition specs d b) c f is.outside.formed is.laid)
    (external_filled (t.definition specs d b) c f is.outside.formed is.filled)
    (external_grows (t.definition specs d b) c f is.outside.formed)
    (external_continues (t.definition specs d b) c f is.outside.formed)
    (definition_leaves specs d b c f is.outside.formed)
external_on (t.declaration d) c defined f is = declared_on (declaration false d f) (declaration_on false d c f is)

then_on : {A B : Type 0} (a : Answer (File × A)) (next : A → FileTyping B) → IfOn a
    → ((x : A) (g : File) → IsOn g → IfOn (next x g)) → IfOn (a >>= λ r. next r.1 r.0)
then_on (Ok r) next h k = k r.1 r.0 h
then_on (Err e) next h k = tt

externals_on : (es : List t.External) → are_regular_externals es ≡ true → define_functions es ≡ true → (f : File)
    → IsOn f → IfOn (externals es f)
externals_on [] c defined f is = is
externals_on (e ∷ es) c defined f is =
    then_on (external e f) (λ done. externals es)
    (external_on e (first _ _ c) (first (defines e) (define_functions es) defined) f is)
    (λ done g h. externals_on es (second _ _ c) (second (defines e) (define_functions es) defined) g h)

-- a file that is accepted

record IsEnd (f : File) : Type 0 where
  on : IsOn f
  own : AreOwn f.state.environment.entities

end_by : (before g : File) → AreOwn before.state.environment.entities → (a : Answer (File × Unit {0})) → IfOn a
    → IfFileOwn before a → a ≡ answer (g, tt) → IsEnd g
end_by before g start_own (Ok r) on own e =
    subst IsEnd (ap (λ z. z.0) (same_ok r (g, tt) e)) (record { on = on; own = own start_own })
end_by before g start_own (Err x) on own e = absurd cc

file_end : (objects : Option (List (List Bool))) (end : ℕ) (es : List t.External) (f : File)
    → are_regular_externals es ≡ true → define_functions es ≡ true → file_with objects end es ≡ Ok f → IsEnd f
file_end objects end es f c d is =
    let before = file_before objects (facts_in es) in
    behind_all IsEnd f end (externals es before)
    (λ g e ended. end_by before g (own_start (facts_in es)) (externals es before)
    (externals_on es c d before (file_on objects (facts_in es)))
    (externals_own es c before (file_formed objects (facts_in es))) e) is

-- an object of the kind of a complete type that it fills

array_held : (es : Structures) (k : Kind) (n b : ℕ) (ws : List TypeWord) (x : TypeExtent) → k ≡ kind.Array (capped b)
    → (o : Option TypeExtent) → extent_of es ws ≡ o → option_map (array_extent b) o ≡ Some x
    → k ≡ kind_among es (word.Array n b ∷ ws)
unfolding extent_of
array_held es k n b ws x h None e g = absurd cc
array_held es k n b ws x h (Some y) e g =
    h ∙ ap (λ z. kind.Array (size_or_zero (option_map (array_extent b) z))) (sym e)

complete_held : (es : Structures) (k : Kind) (ws : List TypeWord) (x : TypeExtent) → Holds es k ws
    → extent_of es ws ≡ Some x → k ≡ kind_among es ws
unfolding extent_of
complete_held es k [] x h e = h
complete_held es k (word.Void ∷ ws) x h e = h
complete_held es k (word.Integer i ∷ ws) x h e = h
complete_held es k (word.Enumeration n ∷ ws) x h e = h
complete_held es k (word.Pointer ∷ ws) x h e = h
complete_held es k (word.Array n b ∷ ws) x h e = array_held es k n b ws x h (extent_of es ws) refl e
complete_held es k (word.OpenArray ∷ ws) x h e = absurd cc
complete_held es k (word.Structure n ∷ ws) x h e = h
complete_held es k (word.Const ∷ ws) x h e = complete_held es k ws x h e
complete_held es k (word.Takes ∷ ws) x h e = h
complete_held es k (word.Gives ∷ ws) x h e = h

initialized_by : (p : Program) (f : File) (es : Names Entity)
    → ((k : ℕ) (e : Name × Entity) → slice_get es k ≡ Some e → is_initialized p f e.1.c_type e.1.what ≡ true)
    → are_initialized p f es ≡ true
initialized_by p f [] h = refl
initialized_by p f (e ∷ es) h =
    and_from (is_initialized p f e.1.c_type e.1.what) (are_initialized p f es) (h 0 e refl)
    (initialized_by p f es (λ k x g. h (suc k) x g))

module _ (objects : Option (List (List Bool))) (end : ℕ) (es : List t.External) (f : File)
    (regular : are_regular_externals es ≡ true) (define : define_functions es ≡ true)
    (accepted : file_with objects end es ≡ Ok f) (whole : HaveSizes f) where
  abbrev last : Structures
  last = extents f.state

  abbrev scope : Scope
  scope = scope_in (program_of f) [] [] kind.Void

  of : IsOf (program_of f) scope
  of = record { statics = refl; functions = refl; types = refl }

  -- the kind that an object with linkage has at the end
  abbrev final_kind : Entity → Kind
  final_kind x = kind_in f.state (final_type last x.c_type)

  kind_at : (name : Name) (x : Entity) (n : ℕ) → declared name f.state.environment.entities ≡ Some x
      → x.what ≡ what.Object n → HasKind scope.statics n (final_kind x)
  kind_at name x n e w =
      entity_kind f (in_order_by f (owns_all objects end es f regular accepted)) name x n e w

  -- an initializer
  module _ (n : ℕ) (parts : List Part) (i : IsInitializer f n parts) where
    named_meant : (name : Name) (w : Designated) (type : List TypeWord)
        → names.meaning name i.before.state.environment.names ≡ Some (meaning.Named w type)
        → IsDesignated scope last i.before.state w type
    named_meant name w type e =
        let link = i.outside.names.linked name w type e in
        let at = still_filled w type i.before.state.environment.entities f.state.environment.entities name i.continues
        (i.filled.each name w type e link) in
        entity_meant objects end es f regular define accepted whole scope of i.before.state i.grown.facts name at.entity
        at.is type at.fills w at.same link

    name_meant : (name : Name) (m : Option Meaning) → names.meaning name i.before.state.environment.names ≡ m
        → IsMeant scope last i.before.state m
    name_meant name None e = tt
    name_meant name (Some (meaning.Typedef type)) e = tt
    name_meant name (Some (meaning.Constant w)) e = i.outside.formed.constants name w e
    name_meant name (Some (meaning.Named w type)) e = named_meant name w type e

    knows : Knows scope last i.before.state
    knows = record {
      names = λ name. name_meant name (names.meaning name i.before.state.environment.names) refl;
      members = i.members;
    }

    covers : Covers scope last i.behind.state
    covers =
        let is = (program_has objects end es f regular define accepted whole scope of).covers in
        record {
          more = i.grows.more;
          undefined = i.grows.undefined is.undefined;
          literals = λ k l e.
              is.literals k l (get_extended i.behind.state.literals f.state.literals i.grows.literals k l e);
          types = λ k type e.
              is.types k type
              (get_extended i.behind.state.function_types f.state.function_types i.grows.types k type e);
        }

    abbrev object : Entity
    object = i.entity.entity

    kind_is : kind_in i.behind.state i.type ≡ final_kind object
    kind_is =
        let y = i.entity.entity in
        let later = extent_kept (extents i.behind.state) last i.grows.more i.type i.complete.extent i.complete.is in
        let size = whole.linked i.name y n i.entity.is i.entity.same in
        ap (λ z. object_kind (size_or_zero z) i.type) (i.complete.is ∙ sym later)
        ∙ sym (complete_held last (final_kind y) i.type i.complete.extent
        (holds_filled last (final_kind y) i.type y.c_type i.entity.fills (holds_final last y.c_type size)) later)

    -- it is valid in what has its number
    parts_valid : (name : Name) (x : Entity) → declared name f.state.environment.entities ≡ Some x
        → x.what ≡ what.Object n → are_parts scope (size_of_kind (final_kind x)) parts ≡ true
    parts_valid name x e w =
        let y = i.entity.entity in
        let one = kind_at i.name y n i.entity.is i.entity.same in
        let two = kind_at name x n e w in
        ap (λ k. are_parts scope (size_of_kind k) parts) (sym two.kind ∙ one.kind ∙ sym kind_is)
        ∙ i.valid scope last knows covers

  parts_at : (name : Name) (x : Entity) (n : ℕ) → declared name f.state.environment.entities ≡ Some x
      → x.what ≡ what.Object n → (is : List (ℕ × List Part)) → AreInitializers f is
      → are_parts_at scope (size_of_kind (final_kind x)) n is ≡ true
  parts_at name x n e w [] h = refl
  parts_at name x n e w (i ∷ is) h =
      and_from (not (n == i.0) || are_parts scope (size_of_kind (final_kind x)) i.1)
      (are_parts_at scope (size_of_kind (final_kind x)) n is) (by (n == i.0) refl) (parts_at name x n e w is h.1)
    where
      by : (b : Bool) → (n == i.0) ≡ b → (not b || are_parts scope (size_of_kind (final_kind x)) i.1) ≡ true
      by true g = parts_valid i.0 i.1 h.0 name x e (w ∙ ap what.Object (eqb-true n i.0 g))
      by false g = refl

  object_initialized : (name : Name) (x : Entity) → declared name f.state.environment.entities ≡ Some x
      → AreInitializers f f.initializers → (w : Designated) → x.what ≡ w
      → is_initialized (program_of f) f x.c_type w ≡ true
  object_initialized name x e is (what.Object n) w =
      and_from (has_size (final_kind x)) (are_parts_at scope (size_of_kind (final_kind x)) n f.initializers)
      (whole.linked name x n e w) (parts_at name x n e w f.initializers is)
  object_initialized name x e is (what.Static n) w = refl
  object_initialized name x e is (what.Variable n) w = refl
  object_initialized name x e is (what.Function n) w = refl
  object_initialized name x e is (what.Library r) w = refl

  pub linked_initialized : are_initialized (program_of f) f f.state.environment.entities ≡ true
  linked_initialized =
      let ended = file_end objects end es f regular define accepted in
      let entities = f.state.environment.entities in
      let is = ended.on.each f (grows_same f ended.on.outside.formed) (continues_same entities) in
      initialized_by (program_of f) f entities
      (λ k e g. object_initialized e.0 e.1 (own_found entities ended.own k e g) is e.1.what refl)
