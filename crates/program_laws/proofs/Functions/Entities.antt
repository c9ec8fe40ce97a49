-- Objects and functions with linkage, where one of them is declared.
use Rattle.std.proofs.Common.{◌≡◌, ◌⊎◌, inl, inr, ℕ, Bool, true, false, ◌&&◌, ◌||◌, refl, sym, ap, ◌∙◌, subst}
use Rattle.std.proofs.Common.{List, [], ◌∷◌, Option, Some, None, if◌then◌else◌}
use Rattle.std.specs.Prelude.{not, is_some, nat_eq, option_map}
use Rattle.std.proofs.lemmas.Bool.{eqb-true, or_left}
use Rattle.c_tree.specs.declared.c_type.TypeWord.{TypeWord}
use Rattle.c_tree.specs.declared.c_type.TypeWord.TheVariants as word
use Rattle.c_scope.specs.declared.meaning.Designated.{Designated}
use Rattle.c_scope.specs.declared.meaning.Designated.TheVariants as what
use Rattle.c_scope.specs.declared.meaning.Entity.{Entity}
use Rattle.c_scope.specs.declared.meaning.Storage.{Storage}
use Rattle.c_scope.specs.declared.meaning.Storage.TheVariants as storage
use Rattle.c_scope.specs.Composite.{composite}
use Rattle.c_scope.specs.Declaring.{Declaration, are_compatible, clashes, differs, has_linkage, is_extern, is_function}
use Rattle.c_scope.specs.Declaring.{is_typedef}
use Rattle.c_scope.specs.Environment.{Environment, entity_with, in_file, linked, surroundings, type_or}
use Rattle.c_scope.specs.Environment.{with_declarator, without_linkage}
use Rattle.c_scope.specs.Names.{Name, Names, bound, declared, is_name}
use Rattle.c_unit_typing.specs.Declarations.{entity_with_type, is_of_type, is_same_object, with_entity, with_size}
use Rattle.typing_laws.proofs.Validity.Common.{first, no_value, second, the_same}
use Rattle.typing_laws.proofs.SpelledTypes.Composites.{IsJoint, alike, composite_nothing, first_sized, joins}
use Rattle.typing_laws.proofs.SpelledTypes.Composites.{none_first, none_second, second_sized}
use Rattle.typing_laws.proofs.Types.Parameters.{IsJudged}
use Rattle.program_laws.specs.Functions.Entities.{Fills, FillsWord, IsFirst, IsSame, Keeps, is_library}
use Rattle.program_laws.specs.Functions.Entities.{names_function, number_of, without_sizes}

-- names

pub name_is : (m n : Name) → is_name m n ≡ true → m ≡ n
name_is [] [] e = refl
name_is [] (c ∷ n) e = absurd cc
name_is (b ∷ m) [] e = absurd cc
name_is (b ∷ m) (c ∷ n) e =
    cons_is b c m n (eqb-true b c (first (nat_eq b c) (is_name m n) e))
    (name_is m n (second (nat_eq b c) (is_name m n) e))
  where
    cons_is : (b c : ℕ) (m n : Name) → b ≡ c → m ≡ n → b ∷ m ≡ c ∷ n
    cons_is b c m n e g = cc

-- a name that is bound, and every other

abbrev Either : {A : Type 0} → Name → Name → A → Option A → Option A → Type 0
Either other name x before behind = (behind ≡ before) ⊎ ((other ≡ name) × (behind ≡ Some x))

new_by : {A : Type 0} (other name : Name) (x : A) (b : Bool) → is_name other name ≡ b
    → Either other name x None (if b then Some x else None)
new_by other name x true e = inr (name_is other name e, refl)
new_by other name x false e = inl refl

here_by : {A : Type 0} (other name key : Name) (x y : A) (rest : Option A) → is_name name key ≡ true → (b : Bool)
    → is_name other key ≡ b → Either other name x (if b then Some y else rest) (if b then Some x else rest)
here_by other name key x y rest e true g = inr (name_is other key g ∙ sym (name_is name key e), refl)
here_by other name key x y rest e false g = inl refl

there_by : {A : Type 0} (other name : Name) (x y : A) (before behind : Option A) → Either other name x before behind
    → (b : Bool) → Either other name x (if b then Some y else before) (if b then Some y else behind)
there_by other name x y before behind h true = inl refl
there_by other name x y before behind h false = h

bound_by : {A : Type 0} (other name : Name) (x : A) (e : Name × A) (es : Names A) (b : Bool) → is_name name e.0 ≡ b
    → Either other name x (declared other es) (declared other (bound name x es))
    → Either other name x (declared other (e ∷ es))
    (declared other (if b then (e.0, x) ∷ es else e ∷ bound name x es))
bound_by other name x e es true g h = here_by other name e.0 x e.1 (declared other es) g (is_name other e.0) refl
bound_by other name x e es false g h =
    there_by other name x e.1 (declared other es) (declared other (bound name x es)) h (is_name other e.0)

pub bound_either : {A : Type 0} (other name : Name) (x : A) (es : Names A)
    → Either other name x (declared other es) (declared other (bound name x es))
bound_either other name x [] = new_by other name x (is_name other name) refl
bound_either other name x (e ∷ es) =
    bound_by other name x e es (is_name name e.0) refl (bound_either other name x es)

-- words

pub function_words : (s t : List TypeWord) → without_sizes s ≡ without_sizes t → is_function s ≡ is_function t
function_words s t e = sym (by s) ∙ ap is_function e ∙ by t
  where
    by : (s : List TypeWord) → is_function (without_sizes s) ≡ is_function s
    by [] = refl
    by (word.Void ∷ ws) = refl
    by (word.Integer i ∷ ws) = refl
    by (word.Enumeration k ∷ ws) = refl
    by (word.Pointer ∷ ws) = refl
    by (word.Array c b ∷ ws) = refl
    by (word.OpenArray ∷ ws) = refl
    by (word.Structure k ∷ ws) = refl
    by (word.Const ∷ ws) = refl
    by (word.Takes ∷ ws) = refl
    by (word.Gives ∷ ws) = refl

pub same_behind : (w : TypeWord) (s t : List TypeWord) → without_sizes s ≡ without_sizes t
    → without_sizes (w ∷ s) ≡ without_sizes (w ∷ t)
same_behind word.Void s t e = ap (λ z. word.Void ∷ z) e
same_behind (word.Integer i) s t e = ap (λ z. word.Integer i ∷ z) e
same_behind (word.Enumeration k) s t e = ap (λ z. word.Enumeration k ∷ z) e
same_behind word.Pointer s t e = ap (λ z. word.Pointer ∷ z) e
same_behind (word.Array c b) s t e = ap (λ z. word.OpenArray ∷ z) e
same_behind word.OpenArray s t e = ap (λ z. word.OpenArray ∷ z) e
same_behind (word.Structure k) s t e = ap (λ z. word.Structure k ∷ z) e
same_behind word.Const s t e = ap (λ z. word.Const ∷ z) e
same_behind word.Takes s t e = ap (λ z. word.Takes ∷ z) e
same_behind word.Gives s t e = ap (λ z. word.Gives ∷ z) e

pub open_array : (v x : TypeWord) (s c : List TypeWord) (n b : ℕ) → v ≡ word.OpenArray → x ≡ word.Array n b
    → without_sizes c ≡ without_sizes s → without_sizes (x ∷ c) ≡ without_sizes (v ∷ s)
open_array v x s c n b e g h =
    ap (λ z. without_sizes (z ∷ c)) g ∙ ap (λ z. word.OpenArray ∷ z) h ∙ sym (ap (λ z. without_sizes (z ∷ s)) e)

first_joint : (v w x : TypeWord) (s c : List TypeWord) → IsJoint v w x → without_sizes c ≡ without_sizes s
    → without_sizes (x ∷ c) ≡ without_sizes (v ∷ s)
first_joint v w x s c (alike e g) h = ap (λ z. without_sizes (z ∷ c)) g ∙ same_behind v c s h
first_joint v w x s c (first_sized n b e g i) h = ap (λ z. without_sizes (z ∷ c)) i ∙ same_behind v c s h
first_joint v w x s c (second_sized n b e g i) h = open_array v x s c n b e (i ∙ g) h

second_joint : (v w x : TypeWord) (t c : List TypeWord) → IsJoint v w x → without_sizes c ≡ without_sizes t
    → without_sizes (x ∷ c) ≡ without_sizes (w ∷ t)
second_joint v w x t c (alike e g) h = ap (λ z. without_sizes (z ∷ c)) (g ∙ e) ∙ same_behind w c t h
second_joint v w x t c (first_sized n b e g i) h = open_array w x t c n b g (i ∙ e) h
second_joint v w x t c (second_sized n b e g i) h = ap (λ z. without_sizes (z ∷ c)) i ∙ same_behind w c t h

pub composite_words : (s t c : List TypeWord) → composite s t ≡ Some c
    → (without_sizes c ≡ without_sizes s) × (without_sizes c ≡ without_sizes t)
composite_words [] [] c e = (ap without_sizes (composite_nothing c e), ap without_sizes (composite_nothing c e))
composite_words [] (w ∷ t) c e = none_first w t c _ e
composite_words (v ∷ s) [] c e = none_second v s c _ e
composite_words (v ∷ s) (w ∷ t) c e =
    let j = joins v s w t c e in
    let h = composite_words s t j.rest j.behind in (
      ap without_sizes j.is ∙ first_joint v w j.first s j.rest j.joint h.0,
      ap without_sizes j.is ∙ second_joint v w j.first t j.rest j.joint h.1,
    )

compatible_by : (s t d : List TypeWord) (o : Option (List TypeWord)) → composite s t ≡ o → is_some o ≡ true
    → (without_sizes (type_or o d) ≡ without_sizes s) × (without_sizes (type_or o d) ≡ without_sizes t)
compatible_by s t d None e g = absurd cc
compatible_by s t d (Some c) e g = composite_words s t c e

pub compatible_words : (s t d : List TypeWord) → are_compatible s t ≡ true
    → (without_sizes (type_or (composite s t) d) ≡ without_sizes s)
    × (without_sizes (type_or (composite s t) d) ≡ without_sizes t)
compatible_words s t d e = compatible_by s t d (composite s t) refl e

-- a composite type has the sizes of both

some_fills : (v w x : TypeWord) → IsJoint v w x → FillsWord v x × FillsWord w x
some_fills v w x (alike e g) = (inl g, inl (g ∙ e))
some_fills v w x (first_sized n b e g i) = (inl i, inr (g, (n, (b, i ∙ e))))
some_fills v w x (second_sized n b e g i) = (inr (e, (n, (b, i ∙ g))), inl i)

pub composite_fills : (s t c : List TypeWord) → composite s t ≡ Some c → Fills s c × Fills t c
composite_fills [] [] c e =
    (subst (Fills []) (sym (composite_nothing c e)) tt, subst (Fills []) (sym (composite_nothing c e)) tt)
composite_fills [] (w ∷ t) c e = none_first w t c _ e
composite_fills (v ∷ s) [] c e = none_second v s c _ e
composite_fills (v ∷ s) (w ∷ t) c e =
    let j = joins v s w t c e in
    let h = composite_fills s t j.rest j.behind in
    let first = some_fills v w j.first j.joint in
    (subst (Fills (v ∷ s)) (sym j.is) (first.0, h.0), subst (Fills (w ∷ t)) (sym j.is) (first.1, h.1))

fills_by : (s t d : List TypeWord) (o : Option (List TypeWord)) → composite s t ≡ o → is_some o ≡ true
    → Fills s (type_or o d) × Fills t (type_or o d)
fills_by s t d None e g = absurd cc
fills_by s t d (Some c) e g = composite_fills s t c e

pub compatible_fills : (s t d : List TypeWord) → are_compatible s t ≡ true
    → Fills s (type_or (composite s t) d) × Fills t (type_or (composite s t) d)
compatible_fills s t d e = fills_by s t d (composite s t) refl e

pub fills_same : (s : List TypeWord) → Fills s s
fills_same [] = tt
fills_same (w ∷ ws) = (inl refl, fills_same ws)

word_on : (u v w : TypeWord) → FillsWord u v → FillsWord v w → FillsWord u w
word_on u v w (inl g) (inl h) = inl (h ∙ g)
word_on u v w (inl g) (inr h) = inr (sym g ∙ h.0, h.1)
word_on u v w (inr g) (inl h) = inr (g.0, (g.1.0, (g.1.1.0, h ∙ g.1.1.1)))
word_on u v w (inr g) (inr h) = absurd (no_open g.1.0 g.1.1.0 (sym g.1.1.1 ∙ h.0))
  where
    no_open : (n b : ℕ) → word.Array n b ≡ word.OpenArray → ⊥
    no_open n b e = cc

pub fills_on : (s t u : List TypeWord) → Fills s t → Fills t u → Fills s u
fills_on [] [] u h g = g
fills_on [] (w ∷ t) u h g = absurd cc
fills_on (v ∷ s) [] u h g = absurd cc
fills_on (v ∷ s) (w ∷ t) [] h g = absurd cc
fills_on (v ∷ s) (w ∷ t) (x ∷ u) h g = (word_on v w x h.0 g.0, fills_on s t u h.1 g.1)

-- lists

not_true : (b : Bool) → (b ≡ true → false ≡ true) → b ≡ false
not_true true h = sym (h refl)
not_true false h = refl

pub keeps_same : (numbers : Names ℕ) (es : Names Entity) → Keeps numbers es es
keeps_same numbers es = record {
  same = λ name x e. record {
    entity = x;
    there = e;
    what = refl;
    words = refl;
    fills = fills_same x.c_type;
    defined = λ d. d;
    only = λ f d. d;
  };
  first = λ name x e g. no_value x _ (sym e ∙ g);
}

pub keeps_on : (numbers : Names ℕ) (es fs gs : Names Entity) → Keeps numbers es fs → Keeps numbers fs gs
    → Keeps numbers es gs
keeps_on numbers es fs gs h k = record {
  same = λ name x e.
      (let a = h.same name x e in
      let b = k.same name a.entity a.there in
      record {
        entity = b.entity;
        there = b.there;
        what = b.what ∙ a.what;
        words = b.words ∙ a.words;
        fills = fills_on x.c_type a.entity.c_type b.entity.c_type a.fills b.fills;
        defined = λ d. b.defined (a.defined d);
        only = λ f d. a.only (sym (function_words b.entity.c_type a.entity.c_type b.words) ∙ f) (b.only f d);
      });
  first = λ name x e g. by name x e g (declared name fs) refl;
}
  where
    by : (name : Name) (x : Entity) → declared name es ≡ None → declared name gs ≡ Some x → (o : Option Entity)
        → declared name fs ≡ o → IsFirst (number_of name numbers) x
    by name x e g None i = k.first name x i g
    by name x e g (Some y) i =
        let own = h.first name y e i in
        let b = k.same name y i in
        let same = the_same (sym b.there ∙ g) in
        subst (IsFirst (number_of name numbers)) same (record {
          own = ap is_library b.what ∙ own.own;
          kind = ap names_function b.what ∙ own.kind
              ∙ sym (function_words b.entity.c_type y.c_type b.words);
          undefined = λ f. not_true b.entity.is_defined
              (λ d. sym (own.undefined (sym (function_words b.entity.c_type y.c_type b.words) ∙ f)) ∙ b.only f d);
          numbered = λ n w. own.numbered n (sym b.what ∙ w);
        })

-- one that is declared

-- another entity in place of an old one, or a new one
pub bound_keeps : (numbers : Names ℕ) (es : Names Entity) (name : Name) (x : Entity)
    → ((old : Entity) → declared name es ≡ Some old → IsSame old (Some x))
    → (declared name es ≡ None → IsFirst (number_of name numbers) x) → Keeps numbers es (bound name x es)
bound_keeps numbers es name x old new = record {
  same = λ other y e. by other y e (bound_either other name x es);
  first = λ other y e g. fresh other y e g (bound_either other name x es);
}
  where
    by : (other : Name) (y : Entity) → declared other es ≡ Some y
        → (declared other (bound name x es) ≡ declared other es)
        ⊎ ((other ≡ name) × (declared other (bound name x es) ≡ Some x))
        → IsSame y (declared other (bound name x es))
    by other y e (inl g) =
        subst (λ z. IsSame y z) (sym (g ∙ e)) (record {
          entity = y;
          there = refl;
          what = refl;
          words = refl;
          fills = fills_same y.c_type;
          defined = λ d. d;
          only = λ f d. d;
        })
    by other y e (inr g) =
        subst (λ z. IsSame y z) (sym g.1) (old y (ap (λ z. declared z es) (sym g.0) ∙ e))

    fresh : (other : Name) (y : Entity) → declared other es ≡ None → declared other (bound name x es) ≡ Some y
        → (declared other (bound name x es) ≡ declared other es)
        ⊎ ((other ≡ name) × (declared other (bound name x es) ≡ Some x)) → IsFirst (number_of other numbers) y
    fresh other y e g (inl i) = no_value y _ (sym e ∙ sym i ∙ g)
    fresh other y e g (inr i) =
        subst (λ z. IsFirst (number_of z numbers) y) (sym i.0)
        (subst (IsFirst (number_of name numbers)) (the_same (sym i.1 ∙ g))
        (new (ap (λ z. declared z es) (sym i.0) ∙ e)))

-- a declarator without a body that violates no rule

no_initializer : (i typedef x f : Bool) → f ≡ true → (i && (typedef || x || f)) ≡ false → i ≡ false
no_initializer false t x f e g = refl
no_initializer true true x f e g = absurd cc
no_initializer true false true f e g = absurd cc
no_initializer true false false true e g = absurd cc
no_initializer true false false false e g = absurd cc

redeclared_by : (clash linkage differ : Bool) → linkage ≡ true → (clash || (linkage && differ)) ≡ false → differ ≡ false
redeclared_by true l d e g = absurd cc
redeclared_by false true d e g = g
redeclared_by false false d e g = absurd cc

differs_by : (compatible defined definition : Bool) → (not compatible || (defined && definition)) ≡ false
    → (compatible ≡ true) × ((defined && definition) ≡ false)
differs_by true defined definition e = (refl, e)
differs_by false defined definition e = absurd cc

or_only : (a b c : Bool) → b ≡ false → c ≡ false → (a || (b || c)) ≡ true → a ≡ true
or_only true b c e g h = refl
or_only false true c e g h = absurd cc
or_only false false true e g h = absurd cc
or_only false false false e g h = absurd cc

-- what is known of the old one, where a declarator has linkage
pub known_old : (env : Environment) (d : Declaration) → IsJudged (surroundings env d) d
    → has_linkage (in_file env) d ≡ true → (old : Entity) → declared d.name env.entities ≡ Some old
    → (are_compatible old.c_type d.type ≡ true) × ((old.is_defined && (d.has_initializer || d.has_body)) ≡ false)
known_old env d known linkage old e =
    differs_by (are_compatible old.c_type d.type) old.is_defined (d.has_initializer || d.has_body)
    (ap (differs d) (sym e)
    ∙ redeclared_by (clashes (in_file env) d (declared d.name env.names.current)) (has_linkage (in_file env) d)
    (differs d (declared d.name env.entities)) linkage known.new)

new_kind : (b : Bool) (f n : ℕ)
    → (is_library (if b then what.Function f else what.Object n) ≡ false)
    × (names_function (if b then what.Function f else what.Object n) ≡ b)
new_kind true f n = (refl, refl)
new_kind false f n = (refl, refl)

pub new_number : (b : Bool) (f n m : ℕ) → (if b then what.Function f else what.Object n) ≡ what.Function m → m ≡ f
new_number true f n m e = cc
new_number false f n m e = absurd cc

or_false : (a b : Bool) → a ≡ false → b ≡ false → (a || b) ≡ false
or_false true b e g = absurd cc
or_false false b e g = g

linked_keeps : (env : Environment) (d : Declaration) → IsJudged (surroundings env d) d → d.has_body ≡ false
    → has_linkage (in_file env) d ≡ true → (o : Option Entity) → declared d.name env.entities ≡ o
    → Keeps env.facts.functions env.entities (bound d.name (entity_with env d o) env.entities)
linked_keeps env d known bodiless linkage None e =
    let x = entity_with env d None in
    let kind = new_kind (is_function d.type) _ env.statics in
    bound_keeps env.facts.functions env.entities d.name x (λ old g. no_value old _ (sym e ∙ g))
    (λ g. record {
      own = kind.0;
      kind = kind.1;
      undefined = λ f. or_false d.has_initializer d.has_body
          (no_initializer d.has_initializer (is_typedef d.storage) (is_extern d.storage) (is_function d.type) f
          known.initialized) bodiless;
      numbered = λ n w. new_number (is_function d.type) _ env.statics n w;
    })
linked_keeps env d known bodiless linkage (Some y) e =
    let x = entity_with env d (Some y) in
    let h = known_old env d known linkage y e in
    let words = compatible_words y.c_type d.type y.c_type h.0 in
    bound_keeps env.facts.functions env.entities d.name x
    (λ old g. subst (λ z. IsSame z (Some x)) (the_same (sym e ∙ g)) (record {
      entity = x;
      there = refl;
      what = refl;
      words = words.0;
      fills = (compatible_fills y.c_type d.type y.c_type h.0).0;
      defined = λ i. or_left y.is_defined (d.has_initializer || d.has_body) i;
      only = λ f i. or_only y.is_defined d.has_initializer d.has_body
          (no_initializer d.has_initializer (is_typedef d.storage) (is_extern d.storage) (is_function d.type)
          (sym (function_words x.c_type d.type words.1) ∙ f) known.initialized) bodiless i;
    }))
    (λ g. no_value y _ (sym g ∙ e))

pub unlinked_entities : (env : Environment) (d : Declaration) (z : Storage)
    → (without_linkage z env d).entities ≡ env.entities
unlinked_entities env d storage.Typedef = refl
unlinked_entities env d storage.Static = refl
unlinked_entities env d storage.Absent = refl
unlinked_entities env d storage.Extern = refl
unlinked_entities env d storage.Auto = refl
unlinked_entities env d storage.Register = refl

declared_by : (env : Environment) (d : Declaration) → IsJudged (surroundings env d) d → d.has_body ≡ false → (b : Bool)
    → has_linkage (in_file env) d ≡ b
    → Keeps env.facts.functions env.entities (if b then linked env d else without_linkage d.storage env d).entities
declared_by env d known bodiless true e =
    linked_keeps env d known bodiless e (declared d.name env.entities) refl
declared_by env d known bodiless false e =
    subst (Keeps env.facts.functions env.entities) (sym (unlinked_entities env d d.storage))
    (keeps_same env.facts.functions env.entities)

pub declarator_keeps : (env : Environment) (d : Declaration) → IsJudged (surroundings env d) d → d.has_body ≡ false
    → Keeps env.facts.functions env.entities (with_declarator env d).entities
declarator_keeps env d known bodiless = declared_by env d known bodiless (has_linkage (in_file env) d) refl

-- an array that gets its size

sized_by : (env : Environment) (name : Name) (type : List TypeWord) (o : Option Entity)
    → declared name env.entities ≡ o → ((y : Entity) → o ≡ Some y → are_compatible y.c_type type ≡ true)
    → Keeps env.facts.functions env.entities (with_entity name (option_map (entity_with_type type) o) env).entities
sized_by env name type None e h = keeps_same env.facts.functions env.entities
sized_by env name type (Some y) e h =
    let words = compatible_words y.c_type type type (h y refl) in
    bound_keeps env.facts.functions env.entities name (entity_with_type type y)
    (λ old g. subst (λ z. IsSame z (Some (entity_with_type type y))) (the_same (sym e ∙ g)) (record {
      entity = entity_with_type type y;
      there = refl;
      what = refl;
      words = words.0;
      fills = (compatible_fills y.c_type type type (h y refl)).0;
      defined = λ d. d;
      only = λ f d. d;
    }))
    (λ g. no_value y _ (sym g ∙ e))

is_of : (type : List TypeWord) (o : Option Entity) → is_of_type type o ≡ true → (y : Entity) → o ≡ Some y
    → are_compatible y.c_type type ≡ true
is_of type None e y g = no_value y _ g
is_of type (Some x) e y g = subst (λ z. are_compatible z.c_type type ≡ true) (the_same g) e

pub size_keeps : (env : Environment) (d : Designated) (name : Name) (type : List TypeWord)
    → is_same_object d name type env ≡ true
    → Keeps env.facts.functions env.entities (with_size d name type env).entities
size_keeps env (what.Object n) name type e =
    sized_by env name type (declared name env.entities) refl (is_of type (declared name env.entities) e)
size_keeps env (what.Static n) name type e = keeps_same env.facts.functions env.entities
size_keeps env (what.Function n) name type e = keeps_same env.facts.functions env.entities
size_keeps env (what.Library r) name type e = keeps_same env.facts.functions env.entities
size_keeps env (what.Variable n) name type e = keeps_same env.facts.functions env.entities

-- the facts of the file stay

unlinked_facts : (env : Environment) (d : Declaration) (z : Storage) → (without_linkage z env d).facts ≡ env.facts
unlinked_facts env d storage.Typedef = refl
unlinked_facts env d storage.Static = refl
unlinked_facts env d storage.Absent = refl
unlinked_facts env d storage.Extern = refl
unlinked_facts env d storage.Auto = refl
unlinked_facts env d storage.Register = refl

pub declarator_facts : (env : Environment) (d : Declaration) → (with_declarator env d).facts ≡ env.facts
declarator_facts env d = by (has_linkage (in_file env) d)
  where
    by : (b : Bool) → (if b then linked env d else without_linkage d.storage env d).facts ≡ env.facts
    by true = refl
    by false = unlinked_facts env d d.storage

entity_facts : (env : Environment) (name : Name) (o : Option Entity) → (with_entity name o env).facts ≡ env.facts
entity_facts env name None = refl
entity_facts env name (Some x) = refl

pub size_facts : (env : Environment) (d : Designated) (name : Name) (type : List TypeWord)
    → (with_size d name type env).facts ≡ env.facts
size_facts env (what.Object n) name type =
    entity_facts env name (option_map (entity_with_type type) (declared name env.entities))
size_facts env (what.Static n) name type = refl
size_facts env (what.Function n) name type = refl
size_facts env (what.Library r) name type = refl
size_facts env (what.Variable n) name type = refl
