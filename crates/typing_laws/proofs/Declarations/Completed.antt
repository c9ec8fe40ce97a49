-- An object has a complete type behind its initializer, which gives an array of unknown size its size.
use Rattle.std.proofs.Common.{◌≡◌, inl, inr, ℕ, ◌<◌, Bool, true, false, refl, sym, ap, ◌∙◌, subst, List, [], ◌∷◌}
use Rattle.std.proofs.Common.{Option, Some, None, if◌then◌else◌, arith}
use Rattle.std.specs.Prelude.{not, option_map}
use Rattle.c_tree.specs.declared.c_type.TypeWord.{TypeWord}
use Rattle.c_tree.specs.declared.c_type.TypeWord.TheVariants as word
use Rattle.c_tree.specs.Arrays.{array_word}
use Rattle.c_tree.specs.Extents.{TypeExtent, array_extent, extent_of}
use Rattle.c_faults.specs.declared.fault.Rule.TheVariants.{Redeclared}
use Rattle.c_faults.specs.Answer.{violates}
use Rattle.c_declarators.specs.Derivations.{array_of, is_large}
use Rattle.c_scope.specs.declared.meaning.Designated.{Designated}
use Rattle.c_scope.specs.declared.meaning.Designated.TheVariants as what
use Rattle.c_scope.specs.declared.meaning.Entity.{Entity}
use Rattle.c_scope.specs.declared.meaning.Meaning.TheVariants as meaning
use Rattle.c_scope.specs.Environment.{with_name}
use Rattle.c_scope.specs.Names.{Name, bound, declared}
use Rattle.c_typing_state.specs.State.{State, extents}
use Rattle.c_unit_typing.specs.Declarations.{completed, entity_with_type, is_same_object, with_entity, with_size}
use Rattle.typing_laws.specs.Validity.Sound.{IsFormed, IsObjectExtent}
use Rattle.typing_laws.proofs.Validity.Common.{the_same}
use Rattle.typing_laws.proofs.Declarators.Types.{array_sized, object_type}
use Rattle.typing_laws.specs.Declarations.Binding.{Binds, Completes, IfCompleted, IsCompleteFor, IsObjectType}
use Rattle.typing_laws.proofs.Declarations.Bound.{named_binds}
use Rattle.typing_laws.proofs.Declarations.Formed.{formed_behind}
use Rattle.typing_laws.proofs.Common.{unless_large}

entity_binds : (s : State) (name : Name) (d : Designated) (type : List TypeWord) (o : Option Entity)
    → Binds name (meaning.Named d type) s
    (record s { environment = with_name name (meaning.Named d type) (with_entity name o s.environment) })
entity_binds s name d type None =
    named_binds s name (meaning.Named d type) s.environment.entities s.environment.statics s.environment.variables
    (omega arith) (omega arith)
entity_binds s name d type (Some e) =
    named_binds s name (meaning.Named d type) (bound name e s.environment.entities) s.environment.statics
    s.environment.variables (omega arith) (omega arith)

pub size_binds : (s : State) (name : Name) (d : Designated) (type : List TypeWord)
    → Binds name (meaning.Named d type) s (record s { environment = with_size d name type s.environment })
size_binds s name (what.Object n) type =
    entity_binds s name (what.Object n) type
    (option_map (entity_with_type type) (declared name s.environment.entities))
size_binds s name (what.Static n) type = entity_binds s name (what.Static n) type None
size_binds s name (what.Function n) type = entity_binds s name (what.Function n) type None
size_binds s name (what.Library f) type = entity_binds s name (what.Library f) type None
size_binds s name (what.Variable n) type = entity_binds s name (what.Variable n) type None

-- an array of a complete type is complete

array_known : (es : List (Option TypeExtent)) (count : ℕ) (element : List TypeWord) (o : Option TypeExtent)
    (e : TypeExtent) → extent_of es element ≡ o → o ≡ Some e
    → (x : TypeExtent) × (extent_of es (array_of count o ∷ element) ≡ Some x)
unfolding extent_of
array_known es count element None e is known = absurd cc
array_known es count element (Some x) e is known = by (array_word count x) refl
  where
    by : (w : TypeWord) → w ≡ array_word count x
        → (y : TypeExtent) × (extent_of es (array_word count x ∷ element) ≡ Some y)
    by w g = (_, ap (option_map (array_extent _)) is)

array_object : (s : State) → IsFormed s → (count : ℕ) (element : List TypeWord) → 0 < count → (e : TypeExtent)
    → extent_of (extents s) element ≡ Some e → IsObjectExtent e
    → is_large (array_of count (extent_of (extents s) element)) ≡ false
    → IsObjectType (extents s) (array_of count (extent_of (extents s) element) ∷ element)
array_object s formed count element some e is object small =
    let o = extent_of (extents s) element in
    let known = array_known (extents s) count element o e refl is in
    let sized = array_sized (extents s) count element o some
    (λ x g. subst IsObjectExtent (the_same (sym is ∙ g)) object) e is small in
    record {
      extent = known.0;
      is = known.1;
      object = object_type (extents s) formed.sizes (array_of count o ∷ element) sized known.0 known.1;
    }

object_behind : (s t : State) (type : List TypeWord) → extents t ≡ extents s → IsObjectType (extents s) type
    → IsObjectType (extents t) type
object_behind s t type e is = subst (λ es. IsObjectType es type) (sym e) is

large_by : (s : State) → IsFormed s → (d : Designated) (name : Name) (count : ℕ) (element : List TypeWord) (line : ℕ)
    → 0 < count → (e : TypeExtent) → extent_of (extents s) element ≡ Some e → IsObjectExtent e → (large : Bool)
    → is_large (array_of count (extent_of (extents s) element)) ≡ large
    → IfCompleted d name s
    (unless_large s d name (array_of count (extent_of (extents s) element)) element line large)
large_by s formed d name count element line some e is object true g = tt
large_by s formed d name count element line some e is object false g =
    let type = array_of count (extent_of (extents s) element) ∷ element in
    let t = record s { environment = with_size d name type s.environment } in
    let binds = size_binds s name d type in
    record {
      complete = object_behind s t type (ap (λ z. z.extents) binds.structures)
          (array_object s formed count element some e is object g);
      formed = formed_behind name (meaning.Named d type) s t binds formed tt;
      binds = inr binds;
    }

same_by : (s : State) → IsFormed s → (d : Designated) (name : Name) (count : ℕ) (element : List TypeWord) (line : ℕ)
    → 0 < count → (e : TypeExtent) → extent_of (extents s) element ≡ Some e → IsObjectExtent e → (b : Bool)
    → IfCompleted d name s
    (if not b then violates Redeclared line
    else unless_large s d name (array_of count (extent_of (extents s) element)) element line
    (is_large (array_of count (extent_of (extents s) element))))
same_by s formed d name count element line some e is object false = tt
same_by s formed d name count element line some e is object true =
    large_by s formed d name count element line some e is object
    (is_large (array_of count (extent_of (extents s) element))) refl

as_it_is : (s : State) → IsFormed s → (d : Designated) (name : Name) (type : List TypeWord) (e : TypeExtent)
    → extent_of (extents s) type ≡ Some e → IsObjectExtent e → Completes d name s s type
as_it_is s formed d name type e is object =
    record { complete = record { extent = e; is = is; object = object }; formed = formed; binds = inl refl }

pub completed_by : (s : State) → IsFormed s → (d : Designated) (name : Name × ℕ) (type : List TypeWord) (count : ℕ)
    → 0 < count → IsCompleteFor (extents s) true type → IfCompleted d name.0 s (completed d name type count s)
completed_by s formed d name (word.OpenArray ∷ element) count some is =
    same_by s formed d name.0 count element name.1 some is.extent is.is is.object
    (is_same_object d name.0 (array_of count (extent_of (extents s) element) ∷ element) s.environment)
completed_by s formed d name [] count some is = as_it_is s formed d name.0 [] is.extent is.is is.object
completed_by s formed d name (word.Void ∷ ws) count some is =
    as_it_is s formed d name.0 (word.Void ∷ ws) is.extent is.is is.object
completed_by s formed d name (word.Integer t ∷ ws) count some is =
    as_it_is s formed d name.0 (word.Integer t ∷ ws) is.extent is.is is.object
completed_by s formed d name (word.Enumeration n ∷ ws) count some is =
    as_it_is s formed d name.0 (word.Enumeration n ∷ ws) is.extent is.is is.object
completed_by s formed d name (word.Pointer ∷ ws) count some is =
    as_it_is s formed d name.0 (word.Pointer ∷ ws) is.extent is.is is.object
completed_by s formed d name (word.Array c b ∷ ws) count some is =
    as_it_is s formed d name.0 (word.Array c b ∷ ws) is.extent is.is is.object
completed_by s formed d name (word.Structure n ∷ ws) count some is =
    as_it_is s formed d name.0 (word.Structure n ∷ ws) is.extent is.is is.object
completed_by s formed d name (word.Const ∷ ws) count some is =
    as_it_is s formed d name.0 (word.Const ∷ ws) is.extent is.is is.object
completed_by s formed d name (word.Takes ∷ ws) count some is =
    as_it_is s formed d name.0 (word.Takes ∷ ws) is.extent is.is is.object
completed_by s formed d name (word.Gives ∷ ws) count some is =
    as_it_is s formed d name.0 (word.Gives ∷ ws) is.extent is.is is.object
