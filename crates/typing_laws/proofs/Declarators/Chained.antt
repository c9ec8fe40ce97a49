-- Constructs that are typed one behind the other: the state behind the last extends the first.
use Rattle.std.proofs.Common.{◌≡◌, ℕ, Bool, true, false, refl, sym, ap, ◌∙◌, subst, List, [], ◌∷◌, ◌++◌, Option, Some}
use Rattle.std.proofs.Common.{arith}
use Rattle.std.specs.Prelude.{Ok, Err}
use Rattle.std.proofs.lemmas.List.{append-nil, append_assoc}
use Rattle.obj_memory.specs.declared.int_type.IntType.TheVariants.{Int}
use Rattle.obj_memory.specs.Integers.{fit}
use Rattle.c_tree.specs.declared.c_type.TypeWord.{TypeWord}
use Rattle.c_faults.specs.Answer.{Answer, ◌>>=◌}
use Rattle.c_scope.specs.declared.meaning.Designated.{Designated}
use Rattle.c_scope.specs.declared.meaning.Designated.TheVariants as what
use Rattle.c_scope.specs.declared.meaning.Meaning.{Meaning}
use Rattle.c_scope.specs.declared.meaning.Meaning.TheVariants as meaning
use Rattle.c_scope.specs.Names.{Name, Names, declared, found, or_else}
use Rattle.c_typing_state.specs.State.{State, Typing, extents}
use Rattle.typing_laws.specs.Validity.Sound.{IsFormed, is_sized_array}
use Rattle.typing_laws.proofs.Validity.Sound.{IfAnswer, longer_list, more_more, same_list, same_more}
use Rattle.typing_laws.specs.Declarators.Extending.{AddsEnumerators, AreEnumerators, Extending, Extends}
use Rattle.typing_laws.specs.Declarators.Extending.{IsNew, IsNewObject, IsSameOr, new, same}

no_new : (P : Type 0) → true ≡ false → P
no_new P e = cc

-- enumerators that are declared in a scope

pub adds_none : (names : Names Meaning) → AddsEnumerators names names
adds_none names = record { rest = []; is = sym (append-nil names); each = tt }

both_enumerators : (xs ys : Names Meaning) → AreEnumerators xs → AreEnumerators ys → AreEnumerators (xs ++ ys)
both_enumerators [] ys h g = g
both_enumerators (x ∷ xs) ys h g = (h.0, both_enumerators xs ys h.1 g)

adds_on : (a b c : Names Meaning) → AddsEnumerators a b → AddsEnumerators b c → AddsEnumerators a c
adds_on a b c h g = record {
  rest = h.rest ++ g.rest;
  is = g.is ∙ ap (λ z. z ++ g.rest) h.is ∙ append_assoc a h.rest g.rest;
  each = both_enumerators h.rest g.rest h.each g.each;
}

pub extends_same : (b : Bool) (s : State) → IsFormed s → Extends b s s
extends_same b s formed = record {
  more = same_more (extents s);
  longer = omega arith;
  literals = same_list s.literals;
  types = same_list s.function_types;
  objects = refl;
  function = refl;
  facts = refl;
  entities = refl;
  statics = omega arith;
  numbers = λ n. refl;
  variables = λ e. refl;
  outer = refl;
  names = λ name. same refl;
  entries = λ e. adds_none s.environment.names.current;
  outer_tags = refl;
  members = λ h. h;
  pending = λ n p. p;
  formed = formed;
  undefined = λ e. e;
}

then_names : {A : Type 0} (P : A → Type 0) (a b c : Option A) → IsSameOr P a b → IsSameOr P b c → IsSameOr P a c
then_names P a b c (same e) (same g) = same (g ∙ e)
then_names P a b c (new x e p) (same g) = new x (g ∙ e) p
then_names P a b c h (new x e p) = new x e p

pub extends_on : (b : Bool) (s t u : State) → Extends b s t → Extends b t u → Extends b s u
extends_on b s t u h g = record {
  more = more_more (extents s) (extents t) (extents u) h.more g.more;
  longer = let low = h.longer in let high = g.longer in omega arith;
  literals = longer_list s.literals t.literals u.literals h.literals g.literals;
  types = longer_list s.function_types t.function_types u.function_types h.types g.types;
  objects = g.objects ∙ h.objects;
  function = g.function ∙ h.function;
  facts = g.facts ∙ h.facts;
  entities = g.entities ∙ h.entities;
  statics = let low = h.statics in let high = g.statics in omega arith;
  numbers = λ n. (let first = h.numbers n in let second = g.numbers n in omega arith);
  variables = λ e. g.variables e ∙ h.variables e;
  outer = g.outer ∙ h.outer;
  names = λ name. then_names (IsNew b) _ _ _ (h.names name) (g.names name);
  entries = λ e. adds_on s.environment.names.current t.environment.names.current u.environment.names.current
      (h.entries e) (g.entries e);
  outer_tags = g.outer_tags ∙ h.outer_tags;
  members = λ m. g.members (h.members m);
  pending = λ n p. g.pending n (h.pending n p);
  formed = g.formed;
  undefined = λ e. h.undefined (g.undefined e);
}

-- whatever holds of the state behind, holds of it from a state before on
pub from_before : {A : Type 0} (b : Bool) (s t : State) (q : State → A → Type 0) → Extends b s t
    → (a : Answer (State × A)) → Extending b t q a → Extending b s q a
from_before b s t q h (Ok r) is = (extends_on b s t r.0 h is.0, is.1)
from_before b s t q h (Err f) is = tt

pub then_from : {A B : Type 0} (b : Bool) (s : State) (p : State → A → Type 0) (q : State → B → Type 0)
    (a : Answer (State × A)) (next : A → Typing B) → Extending b s p a
    → ((t : State) (x : A) → Extends b s t → p t x → Extending b s q (next x t))
    → Extending b s q (a >>= λ r. next r.1 r.0)
then_from b s p q (Ok r) next h g = g r.0 r.1 h.0 h.1
then_from b s p q (Err f) next h g = tt

pub then_extends : {A B : Type 0} (b : Bool) (s : State) (p : State → A → Type 0) (q : State → B → Type 0)
    (a : Answer (State × A)) (next : A → Typing B) → Extending b s p a
    → ((t : State) (x : A) → Extends b s t → p t x → Extending b t q (next x t))
    → Extending b s q (a >>= λ r. next r.1 r.0)
then_extends b s p q a next h g =
    then_from b s p q a next h (λ t x e is. from_before b s t q e (next x t) (g t x e is))

pub weaker : {A : Type 0} (b : Bool) (s : State) (p q : State → A → Type 0) (a : Answer (State × A))
    → ((t : State) (x : A) → p t x → q t x) → Extending b s p a → Extending b s q a
weaker b s p q (Ok r) h is = (is.0, h r.0 r.1 is.1)
weaker b s p q (Err f) h is = tt

pub done_extends : {A : Type 0} (b : Bool) (s : State) (p : State → A → Type 0) (x : A) → IsFormed s → p s x
    → Extending b s p (Ok (s, x))
done_extends b s p x formed is = (extends_same b s formed, is)

pub judged_extends : {A : Type 0} (b : Bool) (s : State) (p : State → A → Type 0) (a : Answer A) → IsFormed s
    → IfAnswer (p s) a → Extending b s p (a >>= λ x. Ok (s, x))
judged_extends b s p (Ok x) formed is = (extends_same b s formed, is)
judged_extends b s p (Err f) formed is = tt

-- outside of lists of parameters no names but enumerators are new, inside of them these may be too

new_object_inside : (what : Designated) → IsNewObject false what → IsNewObject true what
new_object_inside (what.Variable n) is = no_new _ (sym is)
new_object_inside (what.Object n) is = is
new_object_inside (what.Static n) is = is
new_object_inside (what.Function n) is = is
new_object_inside (what.Library f) is = is

new_inside : (m : Meaning) → IsNew false m → IsNew true m
new_inside (meaning.Constant w) is = is
new_inside (meaning.Typedef type) is = is
new_inside (meaning.Named what type) is = new_object_inside what is

names_inside : (a b : Option Meaning) → IsSameOr (IsNew false) a b → IsSameOr (IsNew true) a b
names_inside a b (same e) = same e
names_inside a b (new m e is) = new m e (new_inside m is)

inside_extends : (s t : State) → Extends false s t → Extends true s t
inside_extends s t h = record {
  more = h.more;
  longer = h.longer;
  literals = h.literals;
  types = h.types;
  objects = h.objects;
  function = h.function;
  facts = h.facts;
  entities = h.entities;
  statics = h.statics;
  numbers = h.numbers;
  variables = λ e. no_new _ e;
  outer = h.outer;
  names = λ name. names_inside _ _ (h.names name);
  entries = λ e. no_new _ e;
  outer_tags = h.outer_tags;
  members = h.members;
  pending = h.pending;
  formed = h.formed;
  undefined = h.undefined;
}

pub inside : {A : Type 0} (s : State) (p : State → A → Type 0) (a : Answer (State × A)) → Extending false s p a
    → Extending true s p a
inside s p (Ok r) is = (inside_extends s r.0 is.0, is.1)
inside s p (Err f) is = tt

-- what stands for names stays formed, where what is new is

fresh_object : (b : Bool) (what : Designated) (type : List TypeWord) (w : ℕ) (P : Type 0)
    → Some (meaning.Named what type) ≡ Some (meaning.Constant w) → P
fresh_object b what type w P e = cc

constant_is : (b : Bool) (m : Meaning) (w : ℕ) → IsNew b m → Some m ≡ Some (meaning.Constant w) → fit Int w ≡ w
constant_is b (meaning.Constant v) w is e = subst (λ z. fit Int z ≡ z) (word_is e) is
  where
    word_is : Some (meaning.Constant v) ≡ Some (meaning.Constant w) → v ≡ w
    word_is e = cc
constant_is b (meaning.Typedef type) w is e = no_new _ is
constant_is b (meaning.Named what type) w is e = fresh_object b what type w _ e

typedef_is : (b : Bool) (m : Meaning) (type : List TypeWord) → IsNew b m → Some m ≡ Some (meaning.Typedef type)
    → is_sized_array type ≡ true
typedef_is b (meaning.Constant v) type is e = absurd cc
typedef_is b (meaning.Typedef t) type is e = no_new _ is
typedef_is b (meaning.Named what t) type is e = absurd cc

constant_by : (b : Bool) (before behind around : Option Meaning) → IsSameOr (IsNew b) before behind
    → ((w : ℕ) → or_else before around ≡ Some (meaning.Constant w) → fit Int w ≡ w) → (w : ℕ)
    → or_else behind around ≡ Some (meaning.Constant w) → fit Int w ≡ w
constant_by b before behind around (same e) h w is = h w (ap (λ z. or_else z around) (sym e) ∙ is)
constant_by b before behind around (new m e p) h w is =
    constant_is b m w p (ap (λ z. or_else z around) (sym e) ∙ is)

typedef_by : (b : Bool) (before behind around : Option Meaning) → IsSameOr (IsNew b) before behind
    → ((type : List TypeWord) → or_else before around ≡ Some (meaning.Typedef type) → is_sized_array type ≡ true)
    → (type : List TypeWord) → or_else behind around ≡ Some (meaning.Typedef type) → is_sized_array type ≡ true
typedef_by b before behind around (same e) h type is = h type (ap (λ z. or_else z around) (sym e) ∙ is)
typedef_by b before behind around (new m e p) h type is =
    typedef_is b m type p (ap (λ z. or_else z around) (sym e) ∙ is)

module _ (b : Bool) (s t : State) (formed : IsFormed s)
    (outer : t.environment.names.outer ≡ s.environment.names.outer)
    (names : (name : Name) → IsSameOr (IsNew b) (declared name s.environment.names.current)
    (declared name t.environment.names.current)) where
  around : (name : Name) → found name t.environment.names.outer ≡ found name s.environment.names.outer
  around name = ap (found name) outer

  pub constants_stay : (name : Name) (w : ℕ)
      → or_else (declared name t.environment.names.current) (found name t.environment.names.outer)
      ≡ Some (meaning.Constant w)
      → fit Int w ≡ w
  constants_stay name w is =
      constant_by b (declared name s.environment.names.current) (declared name t.environment.names.current)
      (found name s.environment.names.outer) (names name) (formed.constants name) w
      (ap (or_else (declared name t.environment.names.current)) (sym (around name)) ∙ is)

  pub typedefs_stay : (name : Name) (type : List TypeWord)
      → or_else (declared name t.environment.names.current) (found name t.environment.names.outer)
      ≡ Some (meaning.Typedef type)
      → is_sized_array type ≡ true
  typedefs_stay name type is =
      typedef_by b (declared name s.environment.names.current) (declared name t.environment.names.current)
      (found name s.environment.names.outer) (names name) (formed.typedefs name) type
      (ap (or_else (declared name t.environment.names.current)) (sym (around name)) ∙ is)
