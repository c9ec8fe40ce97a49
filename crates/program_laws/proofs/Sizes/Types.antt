-- Types that are complete at the end of a file, whose objects have from 1 to 2^32 bytes then (C99 6.2.5, 6.2.7, 6.9.2).
use Rattle.std.proofs.Common.{◌≡◌, ◌⊎◌, inl, inr, ℕ, zero, suc, ◌^◌, ◌≤◌, Bool, true, false, ◌&&◌, ◌||◌, refl, sym}
use Rattle.std.proofs.Common.{ap, ◌∙◌, List, [], ◌∷◌, Option, Some, None, if◌then◌else◌, arith}
use Rattle.std.proofs.lemmas.Bool.{or_left}
use Rattle.std.specs.Prelude.{not, is_some, slice_get}
use Rattle.c_tree.specs.declared.c_type.TypeWord.{TypeWord}
use Rattle.c_tree.specs.declared.c_type.TypeWord.TheVariants as word
use Rattle.c_tree.specs.Extents.{TypeExtent, array_extent, extent_of, structure_extent}
use Rattle.c_tree.specs.Kinds.{has_size, is_size}
use Rattle.c_tree.specs.Layout.{array_size}
use Rattle.c_declarators.specs.Derivations.{array_of}
use Rattle.c_scope.specs.declared.meaning.Storage.{Storage}
use Rattle.c_scope.specs.declared.meaning.Storage.TheVariants as storage
use Rattle.c_scope.specs.Composite.{composite}
use Rattle.c_scope.specs.Declaring.{Declaration, are_compatible, is_complete, is_extern, is_function, is_misplaced}
use Rattle.c_scope.specs.Declaring.{is_typedef, sized_by_initializer}
use Rattle.c_scope.specs.Environment.{Environment, Facts, at_end, ends_complete, gets_tag, in_file, surroundings}
use Rattle.c_scope.specs.Environment.{type_or}
use Rattle.c_scope.specs.Names.{Name}
use Rattle.c_scope.specs.Structures.{Body, Structures, file_tag_of, is_known}
use Rattle.c_typing_state.specs.State.{State, extents}
use Rattle.c_unit_typing.specs.Declarations.{kind_in}
use Rattle.c_unit_typing.specs.Files.{File}
use Rattle.c_unit_typing.specs.Programs.{final_type}
use Rattle.typing_laws.specs.Validity.More.{AreMore}
use Rattle.typing_laws.specs.Validity.Sound.{IsFormed, is_sized_array}
use Rattle.typing_laws.proofs.Validity.Moved.{size_high}
use Rattle.typing_laws.proofs.Declarators.Types.{object_type}
use Rattle.typing_laws.proofs.Declarations.Judged.{some_extent}
use Rattle.typing_laws.proofs.Declarations.Variables.{declared_has_size}
use Rattle.typing_laws.proofs.Layouts.Composite.{composite_sized}
use Rattle.program_laws.specs.Functions.Entities.{Fills, FillsWord}
use Rattle.typing_laws.proofs.Types.Parameters.{IsJudged}
use Rattle.program_laws.specs.Sizes.Tags.{BodiesStay, TagsAreComplete}
use Rattle.typing_laws.proofs.Common.{conflict, some_mapped}

-- the type of an object that is complete at the end, if it is no array of unknown size; then that of its elements is

abbrev pub EndsComplete : Facts → Structures → List TypeWord → Type 0
EndsComplete facts s type = ends_complete facts s (sized_by_initializer type) ≡ true

pub whole_ends : (facts : Facts) (s : Structures) (type : List TypeWord) → ends_complete facts s type ≡ true
    → EndsComplete facts s type
whole_ends facts s [] e = e
whole_ends facts s (word.OpenArray ∷ ws) e = absurd cc
whole_ends facts s (word.Void ∷ ws) e = e
whole_ends facts s (word.Integer t ∷ ws) e = e
whole_ends facts s (word.Enumeration n ∷ ws) e = e
whole_ends facts s (word.Pointer ∷ ws) e = e
whole_ends facts s (word.Array c b ∷ ws) e = e
whole_ends facts s (word.Structure n ∷ ws) e = e
whole_ends facts s (word.Const ∷ ws) e = e
whole_ends facts s (word.Takes ∷ ws) e = e
whole_ends facts s (word.Gives ∷ ws) e = e

-- structures and unions that are complete

extent_there : (es : List (Option TypeExtent)) (n : ℕ) → is_known (slice_get es n) ≡ true
    → (e : TypeExtent) × (structure_extent es n ≡ Some e)
extent_there [] zero e = absurd cc
extent_there [] (suc n) e = absurd cc
extent_there (Some x ∷ es) zero e = (x, refl)
extent_there (None ∷ es) zero e = absurd cc
extent_there (o ∷ es) (suc n) e = extent_there es n e

known_there : (es : List (Option TypeExtent)) (n : ℕ) (e : TypeExtent) → structure_extent es n ≡ Some e
    → is_known (slice_get es n) ≡ true
known_there [] zero e is = absurd cc
known_there [] (suc n) e is = absurd cc
known_there (Some x ∷ es) zero e is = refl
known_there (None ∷ es) zero e is = absurd cc
known_there (o ∷ es) (suc n) e is = known_there es n e is

known_kept : (es more : List (Option TypeExtent)) → AreMore es more → (n : ℕ) → is_known (slice_get es n) ≡ true
    → is_known (slice_get more n) ≡ true
known_kept es more h n e =
    let x = extent_there es n e in known_there more n x.0 (h.kept n x.0 x.1)

gets_kept : (facts : Facts) (o p : Option Name) → ((tag : Name) → o ≡ Some tag → p ≡ Some tag)
    → gets_tag facts o ≡ true → gets_tag facts p ≡ true
gets_kept facts None p h e = absurd cc
gets_kept facts (Some x) p h e = ap (gets_tag facts) (h x refl) ∙ e

either_kept : (a b c d : Bool) → (a ≡ true → c ≡ true) → (b ≡ true → d ≡ true) → (a || b) ≡ true
    → (c || d) ≡ true
either_kept true b c d h g e = or_left c d (h refl)
either_kept false b true d h g e = refl
either_kept false b false d h g e = g e

-- a type that is complete at the end is so still where more structures and unions are declared and completed
pub ends_kept : (facts : Facts) (s t : Structures) → AreMore s.extents t.extents → BodiesStay s.bodies t.bodies
    → (type : List TypeWord) → ends_complete facts s type ≡ true → ends_complete facts t type ≡ true
ends_kept facts s t more stay [] e = e
ends_kept facts s t more stay (word.Void ∷ ws) e = e
ends_kept facts s t more stay (word.Integer i ∷ ws) e = e
ends_kept facts s t more stay (word.Enumeration n ∷ ws) e = e
ends_kept facts s t more stay (word.Pointer ∷ ws) e = e
ends_kept facts s t more stay (word.Array c b ∷ ws) e = ends_kept facts s t more stay ws e
ends_kept facts s t more stay (word.OpenArray ∷ ws) e = e
ends_kept facts s t more stay (word.Structure n ∷ ws) e =
    either_kept (is_known (slice_get s.extents n)) (gets_tag facts (file_tag_of (slice_get s.bodies n)))
    (is_known (slice_get t.extents n)) (gets_tag facts (file_tag_of (slice_get t.bodies n)))
    (known_kept s.extents t.extents more n)
    (gets_kept facts (file_tag_of (slice_get s.bodies n)) (file_tag_of (slice_get t.bodies n)) (stay.each n)) e
ends_kept facts s t more stay (word.Const ∷ ws) e = ends_kept facts s t more stay ws e
ends_kept facts s t more stay (word.Takes ∷ ws) e = e
ends_kept facts s t more stay (word.Gives ∷ ws) e = e

-- one that is complete already
pub extent_ends : (facts : Facts) (s : Structures) (type : List TypeWord) → is_some (extent_of s.extents type) ≡ true
    → ends_complete facts s type ≡ true
unfolding extent_of
extent_ends facts s [] e = e
extent_ends facts s (word.Void ∷ ws) e = e
extent_ends facts s (word.Integer i ∷ ws) e = refl
extent_ends facts s (word.Enumeration n ∷ ws) e = refl
extent_ends facts s (word.Pointer ∷ ws) e = refl
extent_ends facts s (word.Array c b ∷ ws) e =
    extent_ends facts s ws (sym (some_mapped (array_extent b) (extent_of s.extents ws)) ∙ e)
extent_ends facts s (word.OpenArray ∷ ws) e = e
extent_ends facts s (word.Structure n ∷ ws) e = by (structure_extent s.extents n) refl e
  where
    by : (o : Option TypeExtent) → structure_extent s.extents n ≡ o → is_some o ≡ true
        → (is_known (slice_get s.extents n) || gets_tag facts (file_tag_of (slice_get s.bodies n))) ≡ true
    by None g e = absurd cc
    by (Some x) g e =
        or_left (is_known (slice_get s.extents n)) (gets_tag facts (file_tag_of (slice_get s.bodies n)))
        (known_there s.extents n x g)
extent_ends facts s (word.Const ∷ ws) e = extent_ends facts s ws e
extent_ends facts s (word.Takes ∷ ws) e = e
extent_ends facts s (word.Gives ∷ ws) e = e

-- at the end

module _ (f : File) (tags : TagsAreComplete f) where
  abbrev last : Structures
  last = f.state.environment.structures

  abbrev last_facts : Facts
  last_facts = f.state.environment.facts

  tag_known : (n : ℕ) (body : Body) → slice_get last.bodies n ≡ Some body → (o : Option Name)
      → body.file_tag ≡ o → gets_tag last_facts o ≡ true → is_known (slice_get last.extents n) ≡ true
  tag_known n body there None e g = absurd cc
  tag_known n body there (Some x) e g = tags.each n body x there e g

  body_known : (n : ℕ) (o : Option Body) → slice_get last.bodies n ≡ o → gets_tag last_facts (file_tag_of o) ≡ true
      → is_known (slice_get last.extents n) ≡ true
  body_known n None e g = absurd cc
  body_known n (Some body) e g = tag_known n body e body.file_tag refl g

  structure_known : (n : ℕ) (b : Bool) → is_known (slice_get last.extents n) ≡ b
      → (b || gets_tag last_facts (file_tag_of (slice_get last.bodies n))) ≡ true
      → is_known (slice_get last.extents n) ≡ true
  structure_known n true e g = e
  structure_known n false e g = body_known n (slice_get last.bodies n) refl g

  pub ends_extent : (type : List TypeWord) → ends_complete last_facts last type ≡ true
      → is_some (extent_of last.extents type) ≡ true
  unfolding extent_of
  ends_extent [] e = absurd cc
  ends_extent (word.Void ∷ ws) e = absurd cc
  ends_extent (word.Integer i ∷ ws) e = refl
  ends_extent (word.Enumeration n ∷ ws) e = refl
  ends_extent (word.Pointer ∷ ws) e = refl
  ends_extent (word.Array c b ∷ ws) e =
      some_mapped (array_extent b) (extent_of last.extents ws) ∙ ends_extent ws e
  ends_extent (word.OpenArray ∷ ws) e = absurd cc
  ends_extent (word.Structure n ∷ ws) e =
      ap is_some
      (extent_there last.extents n (structure_known n (is_known (slice_get last.extents n)) refl e)).1
  ends_extent (word.Const ∷ ws) e = ends_extent ws e
  ends_extent (word.Takes ∷ ws) e = absurd cc
  ends_extent (word.Gives ∷ ws) e = absurd cc

one_size : (n : ℕ) → n ≤ 2 ^ 32 → array_size 1 n ≡ n
unfolding array_size
one_size n small = omega arith

complete_sized : (s : State) → IsFormed s → (type : List TypeWord) → is_sized_array type ≡ true
    → is_some (extent_of (extents s) type) ≡ true → has_size (kind_in s type) ≡ true
complete_sized s formed type sized e =
    let x = some_extent (extent_of (extents s) type) e in
    declared_has_size s type x.0 x.1 (object_type (extents s) formed.sizes type sized x.0 x.1)

array_complete : (es : List (Option TypeExtent)) (c b : ℕ) (element : List TypeWord)
    → is_some (extent_of es element) ≡ true → is_some (extent_of es (word.Array c b ∷ element)) ≡ true
unfolding extent_of
array_complete es c b element e = some_mapped (array_extent b) (extent_of es element) ∙ e

-- an array whose size is not known at the end has one element (6.9.2 paragraphs 2 and 5)
one_element : (s : State) → IsFormed s → (element : List TypeWord) → is_sized_array element ≡ true
    → (o : Option TypeExtent) → extent_of (extents s) element ≡ o → is_some o ≡ true
    → has_size (kind_in s (array_of 1 o ∷ element)) ≡ true
one_element s formed element sized None e is = absurd cc
one_element s formed element sized (Some x) e is =
    let own = object_type (extents s) formed.sizes element sized x e in
    complete_sized s formed (word.Array 1 (array_size 1 x.size) ∷ element)
    (ap is_size (one_size x.size (size_high x.size own.size)) ∙ own.size)
    (array_complete (extents s) 1 (array_size 1 x.size) element (ap is_some e))

pub final_sized : (f : File) → IsFormed f.state → TagsAreComplete f → (type : List TypeWord)
    → is_sized_array type ≡ true → EndsComplete f.state.environment.facts f.state.environment.structures type
    → has_size (kind_in f.state (final_type (extents f.state) type)) ≡ true
final_sized f formed tags (word.OpenArray ∷ ws) sized e =
    one_element f.state formed ws sized (extent_of (extents f.state) ws) refl (ends_extent f tags ws e)
final_sized f formed tags [] sized e = complete_sized f.state formed [] sized (ends_extent f tags [] e)
final_sized f formed tags (word.Void ∷ ws) sized e =
    complete_sized f.state formed (word.Void ∷ ws) sized (ends_extent f tags (word.Void ∷ ws) e)
final_sized f formed tags (word.Integer i ∷ ws) sized e =
    complete_sized f.state formed (word.Integer i ∷ ws) sized (ends_extent f tags (word.Integer i ∷ ws) e)
final_sized f formed tags (word.Enumeration n ∷ ws) sized e =
    complete_sized f.state formed (word.Enumeration n ∷ ws) sized (ends_extent f tags (word.Enumeration n ∷ ws) e)
final_sized f formed tags (word.Pointer ∷ ws) sized e =
    complete_sized f.state formed (word.Pointer ∷ ws) sized (ends_extent f tags (word.Pointer ∷ ws) e)
final_sized f formed tags (word.Array c b ∷ ws) sized e =
    complete_sized f.state formed (word.Array c b ∷ ws) sized (ends_extent f tags (word.Array c b ∷ ws) e)
final_sized f formed tags (word.Structure n ∷ ws) sized e =
    complete_sized f.state formed (word.Structure n ∷ ws) sized (ends_extent f tags (word.Structure n ∷ ws) e)
final_sized f formed tags (word.Const ∷ ws) sized e =
    complete_sized f.state formed (word.Const ∷ ws) sized (ends_extent f tags (word.Const ∷ ws) e)
final_sized f formed tags (word.Takes ∷ ws) sized e =
    complete_sized f.state formed (word.Takes ∷ ws) sized (ends_extent f tags (word.Takes ∷ ws) e)
final_sized f formed tags (word.Gives ∷ ws) sized e =
    complete_sized f.state formed (word.Gives ∷ ws) sized (ends_extent f tags (word.Gives ∷ ws) e)

-- types that have more sizes of arrays

head_ends : (facts : Facts) (s : Structures) (v : TypeWord) (vs ws : List TypeWord)
    → (ends_complete facts s vs ≡ true → ends_complete facts s ws ≡ true) → ends_complete facts s (v ∷ vs) ≡ true
    → ends_complete facts s (v ∷ ws) ≡ true
head_ends facts s word.Void vs ws h e = e
head_ends facts s (word.Integer i) vs ws h e = e
head_ends facts s (word.Enumeration n) vs ws h e = e
head_ends facts s word.Pointer vs ws h e = e
head_ends facts s (word.Array c b) vs ws h e = h e
head_ends facts s word.OpenArray vs ws h e = e
head_ends facts s (word.Structure n) vs ws h e = e
head_ends facts s word.Const vs ws h e = h e
head_ends facts s word.Takes vs ws h e = e
head_ends facts s word.Gives vs ws h e = e

word_ends : (facts : Facts) (s : Structures) (v w : TypeWord) (vs ws : List TypeWord) → FillsWord v w
    → (ends_complete facts s vs ≡ true → ends_complete facts s ws ≡ true) → ends_complete facts s (v ∷ vs) ≡ true
    → ends_complete facts s (w ∷ ws) ≡ true
word_ends facts s v w vs ws (inl g) h e =
    ap (λ z. ends_complete facts s (z ∷ ws)) g ∙ head_ends facts s v vs ws h e
word_ends facts s v w vs ws (inr g) h e = conflict (sym (ap (λ z. ends_complete facts s (z ∷ vs)) g.0) ∙ e)

fills_ends : (facts : Facts) (s : Structures) (vs ws : List TypeWord) → Fills vs ws
    → ends_complete facts s vs ≡ true → ends_complete facts s ws ≡ true
fills_ends facts s [] ws h e = absurd cc
fills_ends facts s (v ∷ vs) [] h e = absurd cc
fills_ends facts s (v ∷ vs) (w ∷ ws) h e = word_ends facts s v w vs ws h.0 (λ k. fills_ends facts s vs ws h.1 k) e

open_ends : (facts : Facts) (s : Structures) (w : TypeWord) (vs ws : List TypeWord) → FillsWord word.OpenArray w
    → Fills vs ws → ends_complete facts s vs ≡ true → EndsComplete facts s (w ∷ ws)
open_ends facts s w vs ws (inl g) h e =
    ap (λ z. ends_complete facts s (sized_by_initializer (z ∷ ws))) g ∙ fills_ends facts s vs ws h e
open_ends facts s w vs ws (inr g) h e =
    ap (λ z. ends_complete facts s (sized_by_initializer (z ∷ ws))) g.1.1.1 ∙ fills_ends facts s vs ws h e

pub filled_ends : (facts : Facts) (s : Structures) (vs ws : List TypeWord) → Fills vs ws → EndsComplete facts s vs
    → EndsComplete facts s ws
filled_ends facts s [] ws h e = absurd cc
filled_ends facts s (v ∷ vs) [] h e = absurd cc
filled_ends facts s (word.OpenArray ∷ vs) (w ∷ ws) h e = open_ends facts s w vs ws h.0 h.1 e
filled_ends facts s (word.Void ∷ vs) (w ∷ ws) h e = absurd cc
filled_ends facts s (word.Integer i ∷ vs) (w ∷ ws) h e =
    whole_ends facts s (w ∷ ws) (fills_ends facts s (word.Integer i ∷ vs) (w ∷ ws) h e)
filled_ends facts s (word.Enumeration n ∷ vs) (w ∷ ws) h e =
    whole_ends facts s (w ∷ ws) (fills_ends facts s (word.Enumeration n ∷ vs) (w ∷ ws) h e)
filled_ends facts s (word.Pointer ∷ vs) (w ∷ ws) h e =
    whole_ends facts s (w ∷ ws) (fills_ends facts s (word.Pointer ∷ vs) (w ∷ ws) h e)
filled_ends facts s (word.Array c b ∷ vs) (w ∷ ws) h e =
    whole_ends facts s (w ∷ ws) (fills_ends facts s (word.Array c b ∷ vs) (w ∷ ws) h e)
filled_ends facts s (word.Structure n ∷ vs) (w ∷ ws) h e =
    whole_ends facts s (w ∷ ws) (fills_ends facts s (word.Structure n ∷ vs) (w ∷ ws) h e)
filled_ends facts s (word.Const ∷ vs) (w ∷ ws) h e =
    whole_ends facts s (w ∷ ws) (fills_ends facts s (word.Const ∷ vs) (w ∷ ws) h e)
filled_ends facts s (word.Takes ∷ vs) (w ∷ ws) h e = absurd cc
filled_ends facts s (word.Gives ∷ vs) (w ∷ ws) h e = absurd cc

-- the arrays of a composite type have from 1 to 2^32 bytes

joined_by : (s t d : List TypeWord) (o : Option (List TypeWord)) → composite s t ≡ o → is_some o ≡ true
    → is_sized_array s ≡ true → is_sized_array t ≡ true → is_sized_array (type_or o d) ≡ true
joined_by s t d None e g a b = absurd cc
joined_by s t d (Some c) e g a b = composite_sized s t c e a b

pub joined_sized : (s t d : List TypeWord) → are_compatible s t ≡ true → is_sized_array s ≡ true
    → is_sized_array t ≡ true → is_sized_array (type_or (composite s t) d) ≡ true
joined_sized s t d e a b = joined_by s t d (composite s t) refl e a b

-- a declarator of an object at file scope without `extern` that violates no rule

absent_end : (type : List TypeWord) → at_end storage.Absent type ≡ sized_by_initializer type
absent_end [] = refl
absent_end (word.Void ∷ ws) = refl
absent_end (word.Integer i ∷ ws) = refl
absent_end (word.Enumeration n ∷ ws) = refl
absent_end (word.Pointer ∷ ws) = refl
absent_end (word.Array c b ∷ ws) = refl
absent_end (word.OpenArray ∷ ws) = refl
absent_end (word.Structure n ∷ ws) = refl
absent_end (word.Const ∷ ws) = refl
absent_end (word.Takes ∷ ws) = refl
absent_end (word.Gives ∷ ws) = refl

tentative_ends : (facts : Facts) (s : Structures) (z : Storage) (file f : Bool) → is_typedef z ≡ false
    → is_extern z ≡ false → file ≡ true → is_misplaced file f z ≡ false → (type : List TypeWord)
    → ends_complete facts s (at_end z type) ≡ true → EndsComplete facts s type
tentative_ends facts s storage.Absent file f a b c d type e = ap (ends_complete facts s) (sym (absent_end type)) ∙ e
tentative_ends facts s storage.Static file f a b c d type e = whole_ends facts s type e
tentative_ends facts s storage.Typedef file f a b c d type e = absurd cc
tentative_ends facts s storage.Extern file f a b c d type e = absurd cc
tentative_ends facts s storage.Auto true f a b c d type e = absurd cc
tentative_ends facts s storage.Auto false f a b c d type e = absurd cc
tentative_ends facts s storage.Register true f a b c d type e = absurd cc
tentative_ends facts s storage.Register false f a b c d type e = absurd cc

-- it is complete where it ends, or a tentative definition
chosen_by : (typedef f x m file i completed whole : Bool) → typedef ≡ false → f ≡ false → x ≡ false → m ≡ false
    → file ≡ true
    → (if typedef || f || x || m then false
    else if file && not typedef && not f && not i && not x then not completed else not whole) ≡ false
    → ((i ≡ false) × (completed ≡ true)) ⊎ ((i ≡ true) × (whole ≡ true))
chosen_by true f x m file i c w a b d g h e = absurd cc
chosen_by false true x m file i c w a b d g h e = absurd cc
chosen_by false false true m file i c w a b d g h e = absurd cc
chosen_by false false false true file i c w a b d g h e = absurd cc
chosen_by false false false false false i c w a b d g h e = absurd cc
chosen_by false false false false true true c true a b d g h e = inr (refl, refl)
chosen_by false false false false true true c false a b d g h e = absurd cc
chosen_by false false false false true false true w a b d g h e = inl (refl, refl)
chosen_by false false false false true false false w a b d g h e = absurd cc

chosen_type : (facts : Facts) (s : Structures) (type : List TypeWord) (i : Bool) → i ≡ true
    → is_some (extent_of s.extents (if i then sized_by_initializer type else type)) ≡ true
    → EndsComplete facts s type
chosen_type facts s type true g e = extent_ends facts s (sized_by_initializer type) e
chosen_type facts s type false g e = absurd cc

pub judged_ends : (env : Environment) (d : Declaration) → IsJudged (surroundings env d) d → in_file env ≡ true
    → is_typedef d.storage ≡ false → is_extern d.storage ≡ false → is_function d.type ≡ false
    → d.may_be_incomplete ≡ false → EndsComplete env.facts env.structures d.type
judged_ends env d known file plain own object must =
    by (chosen_by (is_typedef d.storage) (is_function d.type) (is_extern d.storage) d.may_be_incomplete (in_file env)
    d.has_initializer (ends_complete env.facts env.structures (at_end d.storage d.type))
    (is_complete env.structures.extents d) plain object own must file known.complete)
  where
    by : ((d.has_initializer ≡ false)
        × (ends_complete env.facts env.structures (at_end d.storage d.type) ≡ true))
        ⊎ ((d.has_initializer ≡ true) × (is_complete env.structures.extents d ≡ true))
        → EndsComplete env.facts env.structures d.type
    by (inl h) =
        tentative_ends env.facts env.structures d.storage (in_file env) (is_function d.type) plain own file known.placed
        d.type h.1
    by (inr h) = chosen_type env.facts env.structures d.type d.has_initializer h.0 h.1
