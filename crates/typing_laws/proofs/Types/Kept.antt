-- Types stay spelled where more structures are complete, and lists of names, members and types with one more.
use Rattle.std.proofs.Common.{◌≡◌, ◌⊎◌, inl, inr, ℕ, zero, suc, Bool, true, false, refl, ap, subst}
use Rattle.std.proofs.Common.{List, [], ◌∷◌, ◌++◌, Option, Some, None, if◌then◌else◌}
use Rattle.std.proofs.lemmas.Bool.{and_from}
use Rattle.std.specs.Prelude.{is_some}
use Rattle.c_tree.specs.declared.c_type.TypeWord.{TypeWord}
use Rattle.c_tree.specs.declared.c_type.TypeWord.TheVariants as word
use Rattle.c_tree.specs.Extents.{extent_of, structure_extent}
use Rattle.c_tree.specs.TypesAgree.{kind_of_type, still}
use Rattle.c_call_rules.specs.FunctionTypes.{result_type}
use Rattle.c_scope.specs.declared.meaning.Designated.{Designated}
use Rattle.c_scope.specs.declared.meaning.Designated.TheVariants as what
use Rattle.c_scope.specs.declared.meaning.Entity.{Entity}
use Rattle.c_scope.specs.declared.meaning.Meaning.{Meaning}
use Rattle.c_scope.specs.declared.meaning.Meaning.TheVariants as meaning
use Rattle.c_scope.specs.Names.{Name, Names, Scopes, around, bound, declared, found, innermost, is_name}
use Rattle.c_scope.specs.Names as names
use Rattle.c_scope.specs.Structures.{Body, changed}
use Rattle.c_place_rules.specs.Operands.{Operand, a_value, a_place, a_variable, a_function}
use Rattle.typing_laws.specs.Validity.More.{AreMore}
use Rattle.typing_laws.specs.Validity.Steps.{Structures}
use Rattle.typing_laws.proofs.Validity.Common.{first as left, second as right, the_same}
use Rattle.typing_laws.proofs.Validity.Kept.{extent_kept, kind_kept}
use Rattle.typing_laws.specs.SpelledTypes.Spelled.{IsFunctionType, IsValueType, fits, has_parameters}
use Rattle.typing_laws.specs.SpelledTypes.Spelled.{is_readable}
use Rattle.typing_laws.specs.SpelledTypes.Spelled.{is_spelled}
use Rattle.typing_laws.specs.Types.Typed.{AreMembers, AreNamed, Each, HasType, HaveTypes, IsEntity, IsNamed}
use Rattle.typing_laws.specs.Types.Typed.{IsSpelled, OfType}
use Rattle.typing_laws.proofs.Common.{inner_or}
use Rattle.typing_laws.proofs.Layouts.Arrays.{bytes_kept}

-- lists

pub each_map : {A : Type 0} (p q : A → Type 0) → ((x : A) → p x → q x) → (xs : List A) → Each p xs → Each q xs
each_map p q h [] is = tt
each_map p q h (x ∷ xs) is = (h x is.0, each_map p q h xs is.1)

pub each_append : {A : Type 0} (p : A → Type 0) (xs ys : List A) → Each p xs → Each p ys → Each p (xs ++ ys)
each_append p [] ys is h = h
each_append p (x ∷ xs) ys is h = (is.0, each_append p xs ys is.1 h)

abbrev EachName : {A : Type 0} → (A → Type 0) → Names A → Type 0
EachName p es = Each (λ e. p e.1) es

bound_by : {A : Type 0} (p : A → Type 0) (name : Name) (x : A) (e : Name × A) (es : Names A) (b : Bool) → p x
    → EachName p (e ∷ es) → EachName p (bound name x es)
    → EachName p (if b then (e.0, x) ∷ es else e ∷ bound name x es)
bound_by p name x e es true is h more = (is, h.1)
bound_by p name x e es false is h more = (h.0, more)

pub each_bound : {A : Type 0} (p : A → Type 0) (name : Name) (x : A) (es : Names A) → p x → EachName p es
    → EachName p (bound name x es)
each_bound p name x [] is h = (is, tt)
each_bound p name x (e ∷ es) is h = bound_by p name x e es (is_name name e.0) is h (each_bound p name x es is h.1)

declared_by : {A : Type 0} (p : A → Type 0) (name : Name) (x : A) (e : Name × A) (es : Names A) (b : Bool)
    → EachName p (e ∷ es) → (declared name es ≡ Some x → p x)
    → (if b then Some e.1 else declared name es) ≡ Some x → p x
declared_by p name x e es true h more is = subst p (the_same is) h.0
declared_by p name x e es false h more is = more is

pub each_declared : {A : Type 0} (p : A → Type 0) (name : Name) (x : A) (es : Names A) → EachName p es
    → declared name es ≡ Some x → p x
each_declared p name x [] h is = absurd cc
each_declared p name x (e ∷ es) h is =
    declared_by p name x e es (is_name name e.0) h (λ g. each_declared p name x es h.1 g) is

pub each_found : {A : Type 0} (p : A → Type 0) (name : Name) (outer : List (Names A))
    → Each (λ es. EachName p es) outer → (x : A) → found name outer ≡ Some x → p x
each_found p name [] h x is = absurd cc
each_found p name (o ∷ outer) h x is =
    inner_or p (found name outer) (declared name o) (λ y e. each_found p name outer h.1 y e)
    (λ y e. each_declared p name y o h.0 e) x is

pub each_meaning : {A : Type 0} (p : A → Type 0) (name : Name) (s : Scopes A) → Each (λ es. EachName p es) s.outer
    → EachName p s.current → (x : A) → names.meaning name s ≡ Some x → p x
each_meaning p name s h g x is =
    inner_or p (declared name s.current) (found name s.outer) (λ y e. each_declared p name y s.current g e)
    (λ y e. each_found p name s.outer h y e) x is

pub each_around : {A : Type 0} (p : Names A → Type 0) (outer : List (Names A)) → Each p outer → Each p (around outer)
each_around p [] h = tt
each_around p (o ∷ []) h = tt
each_around p (o ∷ q ∷ outer) h = (h.0, each_around p (q ∷ outer) h.1)

pub each_innermost : {A : Type 0} (p : Names A → Type 0) (file : Names A) (outer : List (Names A)) → p file
    → Each p outer → p (innermost file outer)
each_innermost p file [] h g = h
each_innermost p file (o ∷ outer) h g = each_innermost p o outer g.0 g.1

pub each_changed : {A : Type 0} (p : A → Type 0) (n : ℕ) (change : A → A) (xs : List A)
    → ((x : A) → p x → p (change x)) → Each p xs → Each p (changed n change xs)
each_changed p n change [] h is = tt
each_changed p zero change (x ∷ xs) h is = (h x is.0, is.1)
each_changed p (suc n) change (x ∷ xs) h is = (is.0, each_changed p n change xs h is.1)

-- more structures

some_kept : {A : Type 0} (o more : Option A) → ((y : A) → o ≡ Some y → more ≡ Some y) → is_some o ≡ true
    → is_some more ≡ true
some_kept None more h e = absurd cc
some_kept (Some y) more h e = ap is_some (h y refl)

module _ (es more : Structures) (h : AreMore es more) where
  fits_kept : (w : TypeWord) (ws : List TypeWord) → fits es w ws ≡ true → fits more w ws ≡ true
  fits_kept (word.Array c b) ws e =
      bytes_kept c b (extent_of es ws) (extent_of more ws) (λ y. extent_kept es more h ws y) e
  fits_kept word.Const ws e = e
  fits_kept word.Gives ws e = e
  fits_kept word.Void ws e = e
  fits_kept (word.Integer t) ws e = e
  fits_kept (word.Enumeration n) ws e = e
  fits_kept word.Pointer ws e = e
  fits_kept word.OpenArray ws e = e
  fits_kept (word.Structure n) ws e = e
  fits_kept word.Takes ws e = e

  spelled_by : (n : ℕ) (ws : List TypeWord) → is_spelled es n ws ≡ true → is_spelled more n ws ≡ true
  spelled_by zero [] e = e
  spelled_by zero (w ∷ ws) e = e
  spelled_by (suc n) [] e = e
  spelled_by (suc n) (w ∷ ws) e =
      and_from (fits more w ws) (is_spelled more (still w n) ws) (fits_kept w ws (left (fits es w ws) _ e))
      (spelled_by (still w n) ws (right (fits es w ws) _ e))

  pub spelled_kept : (type : List TypeWord) → IsSpelled es type → IsSpelled more type
  spelled_kept type e = spelled_by 1 type e

  pub kinded_kept : (ws : List TypeWord) → is_some (kind_of_type es ws) ≡ true → is_some (kind_of_type more ws) ≡ true
  kinded_kept ws e = some_kept (kind_of_type es ws) (kind_of_type more ws) (λ k. kind_kept es more h ws k) e

  parameters_kept : (n : ℕ) (ws : List TypeWord) → has_parameters es n ws ≡ true → has_parameters more n ws ≡ true
  parameters_kept n [] e = e
  parameters_kept zero (word.Takes ∷ ws) e =
      and_from (is_some (kind_of_type more ws)) (has_parameters more 1 ws)
      (kinded_kept ws (left (is_some (kind_of_type es ws)) _ e))
      (parameters_kept 1 ws (right (is_some (kind_of_type es ws)) _ e))
  parameters_kept zero (word.Gives ∷ ws) e = e
  parameters_kept zero (word.Void ∷ ws) e = e
  parameters_kept zero (word.Integer t ∷ ws) e = e
  parameters_kept zero (word.Enumeration n ∷ ws) e = e
  parameters_kept zero (word.Pointer ∷ ws) e = e
  parameters_kept zero (word.Array c b ∷ ws) e = e
  parameters_kept zero (word.OpenArray ∷ ws) e = e
  parameters_kept zero (word.Structure n ∷ ws) e = e
  parameters_kept zero (word.Const ∷ ws) e = e
  parameters_kept (suc n) (w ∷ ws) e = parameters_kept (still w n) ws e

  pub function_kept : (type : List TypeWord) → IsFunctionType es type → IsFunctionType more type
  function_kept type is = record {
    spelled = spelled_kept type is.spelled;
    parameters = parameters_kept 0 type is.parameters;
    result = kinded_kept (result_type 0 type) is.result;
  }

  readable_kept : (ws : List TypeWord) → is_readable es ws ≡ true → is_readable more ws ≡ true
  readable_kept [] e = e
  readable_kept (word.Structure n ∷ ws) e =
      some_kept (structure_extent es n) (structure_extent more n) (λ y. h.kept n y) e
  readable_kept (word.Const ∷ ws) e = readable_kept ws e
  readable_kept (word.Void ∷ ws) e = e
  readable_kept (word.Integer t ∷ ws) e = e
  readable_kept (word.Enumeration n ∷ ws) e = e
  readable_kept (word.Pointer ∷ ws) e = e
  readable_kept (word.Array c b ∷ ws) e = e
  readable_kept (word.OpenArray ∷ ws) e = e
  readable_kept (word.Takes ∷ ws) e = e
  readable_kept (word.Gives ∷ ws) e = e

  pub value_kept : (type : List TypeWord) → IsValueType es type → IsValueType more type
  value_kept type is = record { spelled = spelled_kept type is.spelled; readable = readable_kept type is.readable }

  pub operand_kept : (o : Operand) → OfType es o → OfType more o
  operand_kept (a_value v) is = value_kept v.type is
  operand_kept (a_place p) is = record {
    spelled = spelled_kept p.type is.spelled;
    readable = λ e. readable_kept p.type (is.readable e);
  }
  operand_kept (a_variable x) is = value_kept x.type is
  operand_kept (a_function f) is = spelled_kept f.type is

  library_kept : (type : List TypeWord) → (type ≡ []) ⊎ IsSpelled es type → (type ≡ []) ⊎ IsSpelled more type
  library_kept type (inl e) = inl e
  library_kept type (inr e) = inr (spelled_kept type e)

  has_kept : (d : Designated) (type : List TypeWord) → HasType es d type → HasType more d type
  has_kept (what.Library f) type is = library_kept type is
  has_kept (what.Object n) type is = spelled_kept type is
  has_kept (what.Function n) type is = spelled_kept type is
  has_kept (what.Static n) type is = spelled_kept type is
  has_kept (what.Variable n) type is = spelled_kept type is

  named_kept : (m : Meaning) → IsNamed es m → IsNamed more m
  named_kept (meaning.Typedef type) is = spelled_kept type is
  named_kept (meaning.Constant w) is = tt
  named_kept (meaning.Named d type) is = has_kept d type is

  pub names_kept : (ms : Names Meaning) → AreNamed es ms → AreNamed more ms
  names_kept ms is = each_map (λ e. IsNamed es e.1) (λ e. IsNamed more e.1) (λ e. named_kept e.1) ms is

  pub types_kept : (ms : Scopes Meaning) (bodies : List Body) (entities : Names Entity) (types : List (List TypeWord))
      → HaveTypes es ms bodies entities types → HaveTypes more ms bodies entities types
  types_kept ms bodies entities types is = record {
    outer = each_map (AreNamed es) (AreNamed more) names_kept ms.outer is.outer;
    current = names_kept ms.current is.current;
    members = each_map (AreMembers es) (AreMembers more)
        (λ b. each_map (λ e. IsValueType es e.1.c_type) (λ e. IsValueType more e.1.c_type)
        (λ e. value_kept e.1.c_type) b.members) bodies is.members;
    entities = each_map (λ e. IsEntity es e.1) (λ e. IsEntity more e.1) (λ e. has_kept e.1.what e.1.c_type) entities
        is.entities;
    functions = each_map (IsFunctionType es) (IsFunctionType more) function_kept types is.functions;
    different = is.different;
  }
