-- What is stored in a subobject lies in the object that is initialized (C99 6.7.8).
use Rattle.std.proofs.Common.{◌≡◌, ℕ, zero, suc, ◌+◌, ◌*◌, ◌≤◌, Bool, true, false, refl, sym, ap, ◌∙◌}
use Rattle.std.proofs.Common.{subst, List, [], ◌∷◌, ◌++◌, length, Option, Some, arith}
use Rattle.std.proofs.lemmas.Option.{none-some}
use Rattle.c_tree.specs.declared.c_type.TypeWord.{TypeWord}
use Rattle.c_tree.specs.declared.c_type.TypeWord.TheVariants as word
use Rattle.c_tree.specs.Extents.{TypeExtent}
use Rattle.c_tree.specs.Statements.{Content, value_content, literal_content}
use Rattle.c_tree.specs.Tree.{Expression, kind_of}
use Rattle.c_tree.specs.TypesAgree.{kind_of_type}
use Rattle.c_tree.specs.Valid.{Scope}
use Rattle.c_tree.specs.ValidProgram.{content_size}
use Rattle.c_rules.specs.Types.{unqualified}
use Rattle.c_current_object.specs.declared.subobject.Step.{Step}
use Rattle.c_current_object.specs.declared.subobject.Subobject.{Subobject}
use Rattle.c_current_object.specs.Subobjects.{whole}
use Rattle.c_current_object.specs.Types.{is_character_array}
use Rattle.c_initializer_rules.specs.Literals.{filling}
use Rattle.c_initializer_rules.specs.Placed.{placed}
use Rattle.typing_laws.specs.Validity.More.{AreMore}
use Rattle.typing_laws.proofs.Validity.Kept.{extent_kept}
use Rattle.typing_laws.proofs.Declarators.Types.{size_low}
use Rattle.typing_laws.proofs.Layouts.Arrays.{arrays_kept}
use Rattle.typing_laws.specs.Initializers.Cursor.{Every}
use Rattle.typing_laws.specs.Initializers.Placing.{FitsIn, HasExtent, IsPlaced, LiesWithin, as_part, as_whole}
use Rattle.typing_laws.specs.Initializers.Placing.{bound, reach, whole_type}
use Rattle.typing_laws.proofs.Initializers.Contents.{kind_size, literal_bytes, some_bytes}
use Rattle.typing_laws.proofs.Initializers.Extents.{unqualified_has}
use Rattle.typing_laws.proofs.Initializers.Steps.{KeepsParts, keeps_every}

-- what is stored in a part that lies within its limit

far_enough : (b : Bool) (size : ℕ) (path : List Step) (content : Content)
    → bound b size path ≤ reach b size path content
far_enough false size path (value_content e) = omega arith
far_enough false size path (literal_content bytes) = omega arith
far_enough true size [] (value_content e) = omega arith
far_enough true size [] (literal_content bytes) = omega arith
far_enough true size (s ∷ path) (value_content e) = omega arith
far_enough true size (s ∷ path) (literal_content bytes) = omega arith

part_fits : (es : List (Option TypeExtent)) (b : Bool) (size : ℕ) (o : Subobject) (content : Content)
    → (h : LiesWithin es (bound b size o.path) o) → 1 ≤ content_size content → content_size content ≤ h.size
    → FitsIn b size (placed o content)
part_fits es b size o content h some small = record {
  start = h.start;
  offset = h.offset;
  some = some;
  inside =
      (let far = far_enough b size o.path content in let ends = h.inside in omega (arith, far, ends, small));
}

value_bytes : (es : List (Option TypeExtent)) (size : ℕ) (ws : List TypeWord) (e : Expression)
    → HasExtent es size ws → kind_of_type es ws ≡ Some (kind_of e) → content_size (value_content e) ≡ size
value_bytes es size ws e h kind = kind_size es ws h.extent (kind_of e) h.complete kind ∙ h.bytes

literal_whole : (size : ℕ) (bytes : List ℕ) → 1 ≤ size → 0 + length bytes ≤ length bytes * size
literal_whole (suc size) bytes low = grind arith
literal_whole zero bytes low = absurd (omega (arith, low))

module _ (es : List (Option TypeExtent)) (b : Bool) (size : ℕ) (base : List TypeWord) where
  -- a value is stored in no array of unknown size
  value_fits : (o : Subobject) (e : Expression) → IsPlaced b size base es o
      → kind_of_type es o.c_type ≡ Some (kind_of e) → FitsIn b size (placed o (value_content e))
  value_fits o e (as_whole t has at) kind = absurd (none-some _ (ap (λ o. kind_of_type es o.c_type) (sym at) ∙ kind))
  value_fits o e (as_part h) kind =
      let same = value_bytes es h.size o.c_type e h.has kind in
      let low = size_low h.size h.has.object in
      part_fits es b size o (value_content e) h (omega (arith, same, low)) (omega (arith, same))

  whole_fits : (o : Subobject) (spelled : List ℕ) → HasExtent es size base → b ≡ true
      → o ≡ whole (word.OpenArray ∷ base)
      → FitsIn b size (placed o (literal_content (filling o.c_type spelled)))
  whole_fits o spelled h t at =
      subst (λ o. FitsIn b size (placed o (literal_content (filling o.c_type spelled)))) (sym at)
      (subst (λ b. FitsIn b size (placed (whole (word.OpenArray ∷ base)) (literal_content (spelled ++ 0 ∷ []))))
      (sym t) (record {
        start = 0;
        offset = refl;
        some = some_bytes spelled;
        inside = literal_whole size (spelled ++ 0 ∷ []) (size_low size h.object);
      }))

  literal_fits : (o : Subobject) (spelled : List ℕ) → IsPlaced b size base es o → is_character_array o.c_type ≡ true
      → FitsIn b size (placed o (literal_content (filling o.c_type spelled)))
  literal_fits o spelled (as_whole t h at) c = whole_fits o spelled h t at
  literal_fits o spelled (as_part is) c =
      let has = literal_bytes es is.size (unqualified o.c_type) spelled
      (unqualified_has es is.size o.c_type is.has) c in
      part_fits es b size o (literal_content (filling o.c_type spelled)) is has.0 has.1

  pub keeps_fitting : (scope : Scope) → KeepsParts true scope es (IsPlaced b size base es) (Every (FitsIn b size))
  keeps_fitting scope =
      keeps_every true scope es (IsPlaced b size base es) (FitsIn b size) (λ o e is fine. value_fits o e is fine.kind)
      literal_fits

  -- at the start
  pub whole_placed : (type : List TypeWord) → type ≡ whole_type b base → HasExtent es size base
      → IsPlaced b size base es (whole type)
  whole_placed type is h = by b refl
    where
      by : (z : Bool) → b ≡ z → IsPlaced b size base es (whole type)
      by true e = as_whole e h (ap whole (is ∙ ap (λ z. whole_type z base) e))
      by false e =
          let same : type ≡ base = is ∙ ap (λ z. whole_type z base) e in
          as_part (subst (λ z. LiesWithin es (bound z size []) (whole type)) (sym e) (record {
            start = 0;
            size = size;
            offset = refl;
            has = subst (HasExtent es size) (sym same) h;
            inside = omega arith;
          }))

-- where more structures are complete

pub has_kept : (es more : List (Option TypeExtent)) → AreMore es more → (size : ℕ) (ws : List TypeWord)
    → HasExtent es size ws → HasExtent more size ws
has_kept es more h size ws is = record {
  extent = is.extent;
  complete = extent_kept es more h ws is.extent is.complete;
  bytes = is.bytes;
  object = is.object;
  arrays = arrays_kept es more h ws is.arrays;
}

lies_kept : (es more : List (Option TypeExtent)) → AreMore es more → (limit : ℕ) (o : Subobject)
    → LiesWithin es limit o → LiesWithin more limit o
lies_kept es more h limit o is = record {
  start = is.start;
  size = is.size;
  offset = is.offset;
  has = has_kept es more h is.size o.c_type is.has;
  inside = is.inside;
}

pub placed_kept : (b : Bool) (size : ℕ) (base : List TypeWord) (es more : List (Option TypeExtent)) → AreMore es more
    → (o : Subobject) → IsPlaced b size base es o → IsPlaced b size base more o
placed_kept b size base es more h o (as_whole t has at) = as_whole t (has_kept es more h size base has) at
placed_kept b size base es more h o (as_part is) = as_part (lies_kept es more h (bound b size o.path) o is)
