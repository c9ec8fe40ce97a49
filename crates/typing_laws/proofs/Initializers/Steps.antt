-- Each step of an initializer keeps what holds of its objects and of its parts (C99 6.7.8).
use Rattle.std.proofs.Common.{◌≡◌, ℕ, Bool, true, false, not, refl, sym, subst, List, [], ◌∷◌, ◌++◌, filter, Option}
use Rattle.std.proofs.Common.{Some, None, if◌then◌else◌}
use Rattle.std.specs.Prelude.{Ok, Err}
use Rattle.c_tree.specs.declared.c_type.TypeWord.{TypeWord}
use Rattle.c_tree.specs.Extents.{TypeExtent}
use Rattle.c_tree.specs.Statements.{Content, value_content, literal_content}
use Rattle.c_tree.specs.Tree.{Expression}
use Rattle.c_tree.specs.Valid.{Scope}
use Rattle.c_faults.specs.declared.fault.Rule.TheVariants.{MisplacedItem}
use Rattle.c_faults.specs.Answer.{Answer, violates, ◌>>=◌}
use Rattle.c_rules.specs.Conversions.{assigned}
use Rattle.c_rules.specs.Fine.{IfFineAs}
use Rattle.c_rules.specs.Values.{Value}
use Rattle.c_rules.proofs.FineConversions.{assigned_fine}
use Rattle.c_scope.specs.Names.{Name}
use Rattle.c_current_object.specs.declared.current.CurrentObject.{CurrentObject}
use Rattle.c_current_object.specs.declared.filler.Filler.TheVariants as filler
use Rattle.c_current_object.specs.declared.subobject.Step.{Step}
use Rattle.c_current_object.specs.declared.subobject.Subobject.{Subobject}
use Rattle.c_current_object.specs.Members.{MemberLists}
use Rattle.c_current_object.specs.Subobjects.{part}
use Rattle.c_current_object.specs.Types.{filler_of, is_character_array}
use Rattle.c_initializer_rules.specs.declared.initializing.Next.{Next}
use Rattle.c_initializer_rules.specs.declared.initializing.Standing.TheVariants.{Whole}
use Rattle.c_initializer_rules.specs.Initializing.{Initializing, at_object, closed, closed_list, designation_begun}
use Rattle.c_initializer_rules.specs.Initializing.{has_misplaced, literal_at, literal_next, opened}
use Rattle.c_initializer_rules.specs.Initializing.{opened_for, place_of, stored_at, value_next, with_index}
use Rattle.c_initializer_rules.specs.Initializing.{with_literal, with_name, with_value}
use Rattle.c_initializer_rules.specs.Literals.{filling, is_too_long}
use Rattle.c_initializer_rules.specs.Placed.{PlacedPart, overrides, placed, with_part, without}
use Rattle.typing_laws.proofs.Validity.Sound.{IfAnswer}
use Rattle.typing_laws.specs.Initializers.Cursor.{Every, HasIf, IsCurrent, HoldsOfAll, IsNext, IsPlacing}
use Rattle.typing_laws.specs.Initializers.Giving.{IsFineIf, IsStored}
use Rattle.typing_laws.proofs.Initializers.Cursor.{closed_objects, designation_objects, index_objects}
use Rattle.typing_laws.proofs.Initializers.Cursor.{name_objects, next_objects, opened_objects, place_is}
use Rattle.typing_laws.proofs.Initializers.Cursor.{stored_objects, too_many_objects}

-- a value that is converted as by assignment

stored_if : (scope : Scope) (es : List (Option TypeExtent)) (type : List TypeWord) (a : Answer Expression)
    → IfFineAs scope es type a → IfAnswer (IsStored true scope es type) a
stored_if scope es type (Ok e) h = h
stored_if scope es type (Err f) h = tt

assigned_if : (scope : Scope) (es : List (Option TypeExtent)) (line : ℕ) (type : List TypeWord) (v : Value)
    (a : Answer Expression) → assigned es line type v ≡ a → IfAnswer (IsStored false scope es type) a
assigned_if scope es line type v (Ok e) is = record { line = line; value = v; is = is }
assigned_if scope es line type v (Err f) is = tt

assigned_stored : (is_known : Bool) (scope : Scope) (es : List (Option TypeExtent)) (line : ℕ) (type : List TypeWord)
    (v : Value) → IsFineIf is_known scope es v → IfAnswer (IsStored is_known scope es type) (assigned es line type v)
assigned_stored true scope es line type v fine =
    stored_if scope es type (assigned es line type v) (assigned_fine scope es line type v fine)
assigned_stored false scope es line type v fine = assigned_if scope es line type v (assigned es line type v) refl

-- what is stored in an object, or makes room for it, keeps what holds of the parts
pub record KeepsParts (is_known : Bool) (scope : Scope) (es : List (Option TypeExtent)) (P : Subobject → Type 0)
    (R : List PlacedPart → Type 0) : Type 0 where
  pub removed : (o : Subobject) (ps : List PlacedPart) → P o → R ps → R (without o.path ps)
  pub value : (o : Subobject) (e : Expression) (ps : List PlacedPart) → P o
      → IsStored is_known scope es o.c_type e → R ps
      → R (with_part o (value_content e) ps)
  pub literal : (o : Subobject) (spelled : List ℕ) (ps : List PlacedPart) → P o
      → is_character_array o.c_type ≡ true → R ps
      → R (with_part o (literal_content (filling o.c_type spelled)) ps)

-- a property of all parts

every_or : (Q : PlacedPart → Type 0) (test : Bool) (p : PlacedPart) (ps : List PlacedPart) → Q p → Every Q ps
    → Every Q (if test then p ∷ ps else ps)
every_or Q true p ps h g = (h, g)
every_or Q false p ps h g = g

pub every_without : (Q : PlacedPart → Type 0) (path : List Step) (ps : List PlacedPart) → Every Q ps
    → Every Q (without path ps)
unfolding without
every_without Q path [] h = tt
every_without Q path (p ∷ ps) h =
    every_or Q (not (overrides path p.path)) p (filter (λ p. not (overrides path p.path)) ps) h.0
    (every_without Q path ps h.1)

every_more : (Q : PlacedPart → Type 0) (ps : List PlacedPart) (p : PlacedPart) → Every Q ps → Q p
    → Every Q (ps ++ p ∷ [])
every_more Q [] p h is = (is, tt)
every_more Q (q ∷ ps) p h is = (h.0, every_more Q ps p h.1 is)

every_with : (Q : PlacedPart → Type 0) (o : Subobject) (content : Content) (ps : List PlacedPart) → Every Q ps
    → Q (placed o content) → Every Q (with_part o content ps)
every_with Q o content ps h is =
    every_more Q (without o.path ps) (placed o content) (every_without Q o.path ps h) is

pub keeps_every : (is_known : Bool) (scope : Scope) (es : List (Option TypeExtent)) (P : Subobject → Type 0)
    (Q : PlacedPart → Type 0)
    → ((o : Subobject) (e : Expression) → P o → IsStored is_known scope es o.c_type e → Q (placed o (value_content e)))
    → ((o : Subobject) (spelled : List ℕ) → P o → is_character_array o.c_type ≡ true
    → Q (placed o (literal_content (filling o.c_type spelled)))) → KeepsParts is_known scope es P (Every Q)
keeps_every is_known scope es P Q value literal = record {
  removed = λ o ps is h. every_without Q o.path ps h;
  value = λ o e ps is fine h. every_with Q o (value_content e) ps h (value o e is fine);
  literal = λ o spelled ps is chars h.
      every_with Q o (literal_content (filling o.c_type spelled)) ps h (literal o spelled is chars);
}

pub designation_placing : (P : Subobject → Type 0) (R : List PlacedPart → Type 0) (i : Initializing)
    → IsPlacing P R i → IsPlacing P R (designation_begun i)
designation_placing P R i h = record { objects = designation_objects P i h.objects; parts = h.parts }

module _ (is_known : Bool) (scope : Scope) (es : List (Option TypeExtent)) (lists : MemberLists)
    (P : Subobject → Type 0) (R : List PlacedPart → Type 0)
    (parts : (o : Subobject) (n : ℕ) → P o → HasIf P (part es lists o n))
    (keeps : KeepsParts is_known scope es P R) where
  -- values

  value_stored : (c : CurrentObject) (i : Initializing) → IsPlacing P R i → IsCurrent P c → (a : Answer Expression)
      → IfAnswer (IsStored is_known scope es c.object.c_type) a
      → IfAnswer (IsPlacing P R) (a >>= λ e. Ok (stored_at es lists (value_content e) c i))
  value_stored c i h is (Ok e) fine = record {
    objects = stored_objects P es lists parts (value_content e) c i h.objects is;
    parts = keeps.value c.object e i.parts is.object fine h.parts;
  }
  value_stored c i h is (Err f) fine = tt

  next_value : (line : ℕ) (v : Value) → IsFineIf is_known scope es v → (i : Initializing) → IsPlacing P R i
      → (x : Option Next) → IsNext P x → IfAnswer (IsPlacing P R) (value_next es lists line v i x)
  next_value line v fine i h None is = record { objects = too_many_objects P i h.objects; parts = h.parts }
  next_value line v fine i h (Some n) is =
      let c = place_of es lists i (filler_of v.type) n in
      value_stored c i h (place_is P es lists parts i h.objects (filler_of v.type) n is)
      (assigned es line c.object.c_type v) (assigned_stored is_known scope es line c.object.c_type v fine)

  pub value_placing : (line : ℕ) (v : Value) → IsFineIf is_known scope es v → (i : Initializing) → IsPlacing P R i
      → IfAnswer (IsPlacing P R) (with_value es lists line v i)
  unfolding with_value
  value_placing line v fine i h = next_value line v fine i h i.next h.objects.next

  -- literals

  abbrev OfFirst : Initializing × Bool → Type 0
  OfFirst r = IsPlacing P R r.0

  literal_by : (line : ℕ) (spelled : List ℕ) (c : CurrentObject) (i : Initializing) → IsPlacing P R i
      → IsCurrent P c → is_character_array c.object.c_type ≡ true → (test : Bool)
      → IfAnswer OfFirst (if test then violates MisplacedItem line
      else Ok (stored_at es lists (literal_content (filling c.object.c_type spelled)) c i, true))
  literal_by line spelled c i h is chars true = tt
  literal_by line spelled c i h is chars false = record {
    objects = stored_objects P es lists parts (literal_content (filling c.object.c_type spelled)) c i h.objects is;
    parts = keeps.literal c.object spelled i.parts is.object chars h.parts;
  }

  literal_in : (line : ℕ) (spelled : List ℕ) (c : CurrentObject) (i : Initializing) → IsPlacing P R i
      → IsCurrent P c → (test : Bool) → is_character_array c.object.c_type ≡ test
      → IfAnswer OfFirst (if test then literal_at es lists line spelled c i
      else Ok (record i { next = Some (at_object c Whole) }, false))
  literal_in line spelled c i h is true e = literal_by line spelled c i h is e (is_too_long c.object.c_type spelled)
  literal_in line spelled c i h is false e =
      record { objects = next_objects P i h.objects (Some (at_object c Whole)) is; parts = h.parts }

  next_literal : (line : ℕ) (spelled : List ℕ) (i : Initializing) → IsPlacing P R i → (x : Option Next)
      → IsNext P x → IfAnswer OfFirst (literal_next es lists line spelled i x)
  next_literal line spelled i h None is = h
  next_literal line spelled i h (Some n) is =
      let c = place_of es lists i filler.Literal n in
      literal_in line spelled c i h (place_is P es lists parts i h.objects filler.Literal n is)
      (is_character_array c.object.c_type) refl

  pub literal_placing : (line : ℕ) (spelled : List ℕ) (i : Initializing) → IsPlacing P R i
      → IfAnswer OfFirst (with_literal es lists line spelled i)
  unfolding with_literal
  literal_placing line spelled i h = next_literal line spelled i h i.next h.objects.next

  -- designators

  with_parts : (i : Initializing) → R i.parts → (a : Answer Initializing)
      → IfAnswer (λ j. HoldsOfAll P j × (j.parts ≡ i.parts)) a → IfAnswer (IsPlacing P R) a
  with_parts i h (Ok j) is = record { objects = is.0; parts = subst R (sym is.1) h }
  with_parts i h (Err f) is = tt

  pub index_placing : (line : ℕ) (index : Option ℕ) (i : Initializing) → IsPlacing P R i
      → IfAnswer (IsPlacing P R) (with_index es lists line index i)
  index_placing line index i h =
      with_parts i h.parts (with_index es lists line index i) (index_objects P es lists parts line index i h.objects)

  pub name_placing : (line : ℕ) (name : Name) (i : Initializing) → IsPlacing P R i
      → IfAnswer (IsPlacing P R) (with_name es lists line name i)
  name_placing line name i h =
      with_parts i h.parts (with_name es lists line name i) (name_objects P es lists parts line name i h.objects)

  -- lists in braces

  opened_by : (i : Initializing) → IsPlacing P R i → (x : Option Next) → IsNext P x
      → IsPlacing P R (opened_for es lists i x)
  opened_by i h None is = record { objects = opened_objects P es lists parts i h.objects None is; parts = h.parts }
  opened_by i h (Some n) is = record {
    objects = opened_objects P es lists parts i h.objects (Some n) is;
    parts = keeps.removed n.current.object i.parts is.object h.parts;
  }

  pub opened_placing : (i : Initializing) → IsPlacing P R i → IsPlacing P R (opened es lists i)
  unfolding opened
  opened_placing i h = opened_by i h i.next h.objects.next

  closed_by : (line : ℕ) (i : Initializing) → IsPlacing P R i → (test : Bool)
      → IfAnswer (IsPlacing P R) (if test then violates MisplacedItem line else Ok (closed_list es lists i))
  closed_by line i h true = tt
  closed_by line i h false = record { objects = closed_objects P es lists parts i h.objects; parts = h.parts }

  pub closed_placing : (line : ℕ) (i : Initializing) → IsPlacing P R i
      → IfAnswer (IsPlacing P R) (closed es lists line i)
  unfolding closed
  closed_placing line i h = closed_by line i h (has_misplaced i.list)
