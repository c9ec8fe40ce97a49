-- Objects and functions with linkage stay what they are in the declarations and definitions behind.
use Rattle.program_laws.proofs.Functions.Entities.{compatible_fills, fills_on, fills_same}
use Rattle.typing_laws.proofs.SpelledTypes.Composites.{IsJoint, alike, first_sized, second_sized}
use Rattle.typing_laws.proofs.SpelledTypes.Composites.{composite_nothing, joins, none_first, none_second}
use Rattle.c_scope.specs.declared.meaning.Designated.{Designated}
use Rattle.program_laws.specs.Functions.Entities.{Fills, FillsWord}
use Rattle.c_scope.specs.Composite.{composite}
use Rattle.c_scope.specs.Declaring.{is_linked}
use Rattle.c_scope.specs.Environment.{type_or}
use Rattle.c_tree.specs.declared.c_type.TypeWord.{TypeWord}
use Rattle.std.proofs.Common.{◌≡◌, ℕ, Bool, true, false, ◌||◌, refl, sym, ap, ◌∙◌, subst}
use Rattle.std.proofs.Common.{List, [], ◌∷◌, Option, Some, None, if◌then◌else◌}
use Rattle.c_unit_typing.specs.Constructs.{Around}
use Rattle.typing_laws.specs.Scopes.Regular.{are_regular_block_items, is_regular_declaration}
use Rattle.std.specs.Prelude.{Ok, Err}
use Rattle.c_syntax.specs.Statements as t
use Rattle.c_syntax.specs.Tree.{Declarator, Specifiers}
use Rattle.c_tree.specs.declared.c_type.TypeWord.{TypeWord}
use Rattle.c_tree.specs.Statements.{DeclaredVariable, Statements}
use Rattle.c_faults.specs.Answer.{Answer, ◌>>=◌}
use Rattle.c_scope.specs.declared.meaning.Entity.{Entity}
use Rattle.c_scope.specs.declared.meaning.Meaning.{Meaning}
use Rattle.c_scope.specs.declared.meaning.Meaning.TheVariants as meaning
use Rattle.c_scope.specs.Declaring.{Declaration, has_linkage}
use Rattle.c_scope.specs.Declaring.{judged as judged_declarator}
use Rattle.c_scope.specs.Environment.{Environment, entity_with, in_file, linked, surroundings, visible_type}
use Rattle.c_scope.specs.Environment.{with_declarator, without_linkage}
use Rattle.c_scope.specs.Names.{Name, Names, bound, declared}
use Rattle.c_scope.specs.Names as names
use Rattle.c_unit_typing.specs.Declarations.{declaration}
use Rattle.c_unit_typing.specs.Files.{File, FileTyping}
use Rattle.c_unit_typing.specs.Statements.{block_items}
use Rattle.c_unit_typing.specs.Units.{around_body, entered, external}
use Rattle.c_unit_typing.specs.Units.{left, parameters_in}
use Rattle.typing_laws.specs.Validity.Sound.{IsFormed}
use Rattle.typing_laws.proofs.Validity.Common.{first, no_value, second, the_same}
use Rattle.typing_laws.specs.Declarators.Extending.{Extends}
use Rattle.typing_laws.proofs.Declarators.Marks.{type_extends}
use Rattle.typing_laws.specs.Scopes.Regular.{is_regular_external}
use Rattle.typing_laws.proofs.Scopes.Files.{entered_leads, inside, inside_formed}
use Rattle.typing_laws.proofs.Scopes.Statements.{IfFileBehind, items_walk}
use Rattle.typing_laws.proofs.Types.Parameters.{IsJudged, judged_known}
use Rattle.program_laws.specs.Functions.Entities.{without_sizes}
use Rattle.program_laws.proofs.Functions.Declarations.{IfKept, declaration_kept}
use Rattle.program_laws.proofs.Functions.Entities.{compatible_words}
use Rattle.program_laws.proofs.Functions.Entities.{known_old}
use Rattle.std.proofs.Common.{◌⊎◌, inl, inr}
use Rattle.std.proofs.lemmas.Bool.{or_left as or_first}
use Rattle.typing_laws.specs.Scopes.Regular.{are_regular_externals}
use Rattle.typing_laws.specs.Scopes.Leaving.{Growing}
use Rattle.typing_laws.proofs.Scopes.Files.{external_grows}
use Rattle.c_unit_typing.specs.Units.{externals}
use Rattle.c_tree.specs.declared.program.Variable as tree_variable
use Rattle.program_laws.specs.Functions.Entities.{Continue, IfContinues, IsStill}
use Rattle.program_laws.proofs.Functions.Entities.{bound_either, unlinked_entities}
use Rattle.program_laws.proofs.Functions.Files.{KeepsFile, keeps_walk, visible_words}
use Rattle.program_laws.specs.Functions.Entities.{Keeps}
use Rattle.typing_laws.proofs.Scopes.Definitions.{DefinitionWalk, definition_walks}

still_same : (x : Entity) → IsStill x (Some x)
still_same x = record {
  entity = x;
  there = refl;
  what = refl;
  words = refl;
  fills = fills_same x.c_type;
  defined = λ d. d;
}

pub continues_same : (es : Names Entity) → Continue es es
continues_same es = record { each = λ name x e. subst (IsStill x) (sym e) (still_same x) }

pub continues_on : (es fs gs : Names Entity) → Continue es fs → Continue fs gs → Continue es gs
continues_on es fs gs h k = record {
  each = λ name x e.
      (let a = h.each name x e in
      let b = k.each name a.entity a.there in
      record {
        entity = b.entity;
        there = b.there;
        what = b.what ∙ a.what;
        words = b.words ∙ a.words;
        fills = fills_on x.c_type a.entity.c_type b.entity.c_type a.fills b.fills;
        defined = λ d. b.defined (a.defined d);
      });
}

pub keeps_continues : (numbers : Names ℕ) (es more : Names Entity) → Keeps numbers es more → Continue es more
keeps_continues numbers es more h = record {
  each = λ name x e. (let s = h.same name x e in
      record {
        entity = s.entity;
        there = s.there;
        what = s.what;
        words = s.words;
        fills = s.fills;
        defined = s.defined;
      });
}

bound_continues : (es : Names Entity) (name : Name) (x : Entity)
    → ((old : Entity) → declared name es ≡ Some old → IsStill old (Some x)) → Continue es (bound name x es)
bound_continues es name x old = record { each = λ other y e. by other y e (bound_either other name x es) }
  where
    by : (other : Name) (y : Entity) → declared other es ≡ Some y
        → (declared other (bound name x es) ≡ declared other es)
        ⊎ ((other ≡ name) × (declared other (bound name x es) ≡ Some x))
        → IsStill y (declared other (bound name x es))
    by other y e (inl g) = subst (IsStill y) (sym (g ∙ e)) (still_same y)
    by other y e (inr g) = subst (IsStill y) (sym g.1) (old y (ap (λ z. declared z es) (sym g.0) ∙ e))

linked_continues : (env : Environment) (d : Declaration) → IsJudged (surroundings env d) d
    → has_linkage (in_file env) d ≡ true → (o : Option Entity) → declared d.name env.entities ≡ o
    → Continue env.entities (bound d.name (entity_with env d o) env.entities)
linked_continues env d known linkage None e =
    bound_continues env.entities d.name (entity_with env d None) (λ old g. no_value old _ (sym e ∙ g))
linked_continues env d known linkage (Some y) e =
    let x = entity_with env d (Some y) in
    let h = known_old env d known linkage y e in
    bound_continues env.entities d.name x
    (λ old g. subst (λ z. IsStill z (Some x)) (the_same (sym e ∙ g)) (record {
      entity = x;
      there = refl;
      what = refl;
      words = (compatible_words y.c_type d.type y.c_type h.0).0;
      fills = (compatible_fills y.c_type d.type y.c_type h.0).0;
      defined = λ i. or_first y.is_defined (d.has_initializer || d.has_body) i;
    }))

pub declarator_continues : (env : Environment) (d : Declaration) → IsJudged (surroundings env d) d
    → Continue env.entities (with_declarator env d).entities
declarator_continues env d known = by (has_linkage (in_file env) d) refl
  where
    by : (b : Bool) → has_linkage (in_file env) d ≡ b
        → Continue env.entities (if b then linked env d else without_linkage d.storage env d).entities
    by true e = linked_continues env d known e (declared d.name env.entities) refl
    by false e = subst (Continue env.entities) (sym (unlinked_entities env d d.storage)) (continues_same env.entities)

-- definitions

from_continued : {A : Type 0} (f g : File) → Continue f.state.environment.entities g.state.environment.entities
    → (a : Answer (File × A)) → IfContinues g a → IfContinues f a
from_continued f g h (Ok r) k =
    continues_on f.state.environment.entities g.state.environment.entities r.0.state.environment.entities h k
from_continued f g h (Err e) k = tt

same_entities : (es fs : Names Entity) → fs ≡ es → Continue es fs
same_entities es fs e = subst (Continue es) (sym e) (continues_same es)

abbrev Continues : File → File → Type 0
Continues f g = Continue f.state.environment.entities g.state.environment.entities

left_continues : (f g : File) → Continue f.state.environment.entities g.state.environment.entities → (line : ℕ)
    (type : List TypeWord) (ps : List tree_variable.Variable) (a : Answer (File × Statements))
    → IfFileBehind KeepsFile g a → IfFileBehind Continues f (a >>= λ r. Ok (left line type ps r, tt {0}))
left_continues f g h line type ps (Ok r) k =
    continues_on f.state.environment.entities g.state.environment.entities r.0.state.environment.entities h
    (keeps_continues g.state.environment.facts.functions g.state.environment.entities r.0.state.environment.entities
    k.keeps.0)
left_continues f g h line type ps (Err e) k = tt

continues_walk : DefinitionWalk Continues
continues_walk = record {
  file_same = λ f. continues_same f.state.environment.entities;
  file_on = λ f g h.
      continues_on f.state.environment.entities g.state.environment.entities h.state.environment.entities;
  in_file = λ f t h. same_entities f.state.environment.entities t.environment.entities h.entities;
  declared = λ f d is.
      declarator_continues f.state.environment d (judged_known (surroundings f.state.environment d) d tt is);
  block = λ f formed n p is type line xs c.
      (let begun = entered n type p f in
      let entering = type_extends false type (inside n p f) (inside_formed f formed n p is) in
      left_continues f begun
      (same_entities f.state.environment.entities begun.state.environment.entities entering.entities) line type
      (parameters_in begun.state p.names) (block_items (around_body type) xs begun)
      (items_walk (Extends false) KeepsFile keeps_walk (around_body type) xs c begun
      (entered_leads f formed n p is type line).formed));
}

continues_by : (f : File) (a : Answer (File × Unit {0})) → IfFileBehind Continues f a → IfContinues f a
continues_by f (Ok r) h = h
continues_by f (Err e) h = tt

definition_continues : (specs : Specifiers) (d : Declarator) (b : t.Block)
    → is_regular_external (t.definition specs d b) ≡ true → (f : File) → IsFormed f.state
    → IfContinues f (external (t.definition specs d b) f)
definition_continues specs d b c f formed =
    continues_by f (external (t.definition specs d b) f)
    (definition_walks Continues continues_walk specs d b c f formed)

declared_continues : (f : File) (a : Answer (File × List DeclaredVariable)) → IfKept f a
    → IfContinues f (a >>= λ r. Ok (r.0, tt {0}))
declared_continues f (Ok r) k =
    keeps_continues f.state.environment.facts.functions f.state.environment.entities r.0.state.environment.entities k.0
declared_continues f (Err e) k = tt

pub external_continues : (e : t.External) → is_regular_external e ≡ true → (f : File) → IsFormed f.state
    → IfContinues f (external e f)
external_continues (t.definition specs d b) c f formed = definition_continues specs d b c f formed
external_continues (t.declaration d) c f formed =
    declared_continues f (declaration false d f) (declaration_kept false d c f formed)

then_continues : (f : File) (a : Answer (File × Unit {0})) (next : Unit {0} → FileTyping (Unit {0})) → Growing f a
    → IfContinues f a → ((x : Unit {0}) (g : File) → IsFormed g.state → IfContinues g (next x g))
    → IfContinues f (a >>= λ r. next r.1 r.0)
then_continues f (Ok r) next grows h k = from_continued f r.0 h (next r.1 r.0) (k r.1 r.0 grows.formed)
then_continues f (Err e) next grows h k = tt

pub externals_continue : (es : List t.External) → are_regular_externals es ≡ true → (f : File) → IsFormed f.state
    → IfContinues f (externals es f)
externals_continue [] c f formed = continues_same f.state.environment.entities
externals_continue (e ∷ es) c f formed =
    then_continues f (external e f) (λ done. externals es) (external_grows e (first _ _ c) f formed)
    (external_continues e (first _ _ c) f formed)
    (λ done g h. externals_continue es (second _ _ c) g h)

declaration_by : (f : File) (a : Answer (File × List DeclaredVariable)) → IfKept f a → IfContinues f a
declaration_by f (Ok r) k =
    keeps_continues f.state.environment.facts.functions f.state.environment.entities r.0.state.environment.entities k.0
declaration_by f (Err e) k = tt

pub declaration_continues : (in_head : Bool) (d : t.Declaration) → is_regular_declaration d ≡ true → (f : File)
    → IsFormed f.state → IfContinues f (declaration in_head d f)
declaration_continues in_head d c f formed =
    declaration_by f (declaration in_head d f) (declaration_kept in_head d c f formed)

items_by : (f : File) (a : Answer (File × Statements)) → IfFileBehind KeepsFile f a → IfContinues f a
items_by f (Ok r) k =
    keeps_continues f.state.environment.facts.functions f.state.environment.entities r.0.state.environment.entities
    k.keeps.0
items_by f (Err e) k = tt

pub items_continue : (around : Around) (xs : t.BlockItems) → are_regular_block_items xs ≡ true → (f : File)
    → IsFormed f.state → IfContinues f (block_items around xs f)
items_continue around xs c f formed =
    items_by f (block_items around xs f)
    (items_walk (Extends false) KeepsFile keeps_walk around xs c f formed)

-- what a declarator binds its name to is the object or function of that name, of its type up to sizes of arrays

entity_words : (env : Environment) (d : Declaration) → IsJudged (surroundings env d) d
    → has_linkage (in_file env) d ≡ true → (o : Option Entity) → declared d.name env.entities ≡ o
    → without_sizes d.type ≡ without_sizes (entity_with env d o).c_type
entity_words env d known linkage None e = refl
entity_words env d known linkage (Some y) e =
    sym (compatible_words y.c_type d.type y.c_type (known_old env d known linkage y e).0).1

pub bound_words : (env : Environment) (d : Declaration) (u : Unit {0})
    → judged_declarator (surroundings env d) d ≡ Ok u → has_linkage (in_file env) d ≡ true
    → without_sizes (visible_type d.type (names.meaning d.name env.names))
    ≡ without_sizes (entity_with env d (declared d.name env.entities)).c_type
bound_words env d u is linkage =
    visible_words d.type (names.meaning d.name env.names)
    ∙ entity_words env d (judged_known (surroundings env d) d u is) linkage (declared d.name env.entities) refl

-- and that type only lacks sizes that the object or function has

pub entity_fills : (env : Environment) (d : Declaration) → IsJudged (surroundings env d) d
    → has_linkage (in_file env) d ≡ true → (o : Option Entity) → declared d.name env.entities ≡ o
    → Fills d.type (entity_with env d o).c_type
entity_fills env d known linkage None e = fills_same d.type
entity_fills env d known linkage (Some y) e =
    (compatible_fills y.c_type d.type y.c_type (known_old env d known linkage y e).0).1

least_word : (v w x y : TypeWord) → IsJoint v w x → FillsWord v y → FillsWord w y → FillsWord x y
least_word v w x y (alike e g) h k = subst (λ z. FillsWord z y) (sym g) h
least_word v w x y (first_sized n b e g i) h k = subst (λ z. FillsWord z y) (sym i) h
least_word v w x y (second_sized n b e g i) h k = subst (λ z. FillsWord z y) (sym i) k

least : (s t c u : List TypeWord) → composite s t ≡ Some c → Fills s u → Fills t u → Fills c u
least [] [] c u e h g = subst (λ z. Fills z u) (sym (composite_nothing c e)) h
least [] (w ∷ t) c u e h g = none_first w t c _ e
least (v ∷ s) [] c u e h g = none_second v s c _ e
least (v ∷ s) (w ∷ t) c [] e h g = absurd cc
least (v ∷ s) (w ∷ t) c (y ∷ u) e h g =
    let j = joins v s w t c e in
    subst (λ z. Fills z (y ∷ u)) (sym j.is)
    (least_word v w j.first y j.joint h.0 g.0, least s t j.rest u j.behind h.1 g.1)

visible_fills : (t u : List TypeWord) → Fills t u → (m : Option Meaning)
    → ((w : Designated) (s : List TypeWord) → m ≡ Some (meaning.Named w s) → is_linked w ≡ true → Fills s u)
    → Fills (visible_type t m) u
visible_fills t u h None k = h
visible_fills t u h (Some (meaning.Typedef s)) k = h
visible_fills t u h (Some (meaning.Constant w)) k = h
visible_fills t u h (Some (meaning.Named w s)) k = by (is_linked w) refl (composite s t) refl
  where
    by : (b : Bool) → is_linked w ≡ b → (o : Option (List TypeWord)) → composite s t ≡ o
        → Fills (if b then type_or o t else t) u
    by false g o e = h
    by true g None e = h
    by true g (Some c) e = least s t c u e (k w s refl g) h

pub bound_fills : (env : Environment) (d : Declaration) (u : Unit {0})
    → judged_declarator (surroundings env d) d ≡ Ok u → has_linkage (in_file env) d ≡ true
    → ((w : Designated) (s : List TypeWord) → names.meaning d.name env.names ≡ Some (meaning.Named w s)
    → is_linked w ≡ true → Fills s (entity_with env d (declared d.name env.entities)).c_type)
    → Fills (visible_type d.type (names.meaning d.name env.names))
    (entity_with env d (declared d.name env.entities)).c_type
bound_fills env d u is linkage k =
    visible_fills d.type (entity_with env d (declared d.name env.entities)).c_type
    (entity_fills env d (judged_known (surroundings env d) d u is) linkage (declared d.name env.entities) refl)
    (names.meaning d.name env.names) k
