-- The type of a function that is defined takes the types of its parameters (C99 6.2.7, 6.9.1).
use Rattle.std.proofs.Common.{◌≡◌, ℕ, Bool, true, false, refl, sym, ap, ◌∙◌, List, Option, Some, None}
use Rattle.std.proofs.Common.{if◌then◌else◌}
use Rattle.c_tree.specs.declared.c_type.TypeWord.{TypeWord}
use Rattle.c_tree.specs.declared.expression.Kind.{Kind}
use Rattle.c_tree.specs.TypesAgree.{agrees}
use Rattle.c_declarators.specs.Derivations.{Derivation, built}
use Rattle.c_scope.specs.declared.meaning.Designated.{Designated}
use Rattle.c_scope.specs.declared.meaning.Designated.TheVariants as what
use Rattle.c_scope.specs.declared.meaning.Meaning.{Meaning}
use Rattle.c_scope.specs.declared.meaning.Meaning.TheVariants as meaning
use Rattle.c_scope.specs.declared.meaning.Storage.{Storage}
use Rattle.c_scope.specs.declared.meaning.Storage.TheVariants as storage
use Rattle.c_scope.specs.Composite.{composite}
use Rattle.c_scope.specs.Declaring.{Declaration, has_linkage, is_linked}
use Rattle.c_scope.specs.Environment.{Environment, in_file, type_or, visible_type}
use Rattle.c_scope.specs.Names.{Names}
use Rattle.c_scope.specs.Names as names
use Rattle.typing_laws.specs.Validity.Steps.{Structures}
use Rattle.typing_laws.specs.Declarations.Binding.{bound_meaning, linked_meaning, unlinked_meaning}
use Rattle.program_laws.specs.Bodies.Types.{AreTypesOf, KindsFit}
use Rattle.program_laws.proofs.Bodies.Composites.{composite_agrees}
use Rattle.program_laws.proofs.Bodies.Matching.{StartsWith}
use Rattle.program_laws.proofs.Bodies.Takes.{function_takes}

pub record Takes (names : Names Meaning) (type : List TypeWord) : Type 0 where
  pub types : List (List TypeWord)
  pub of : AreTypesOf names types
  pub fits : (es : Structures) (ks : List Kind) (k : Kind) → agrees es type ks k ≡ true → KindsFit es types ks

pub built_takes : (es : Structures) (base : List TypeWord) (names : Names Meaning) (ds : List Derivation)
    → StartsWith names ds → Takes names (built es base ds).type
built_takes es base names ds h = record {
  types = h.types;
  of = h.of;
  fits = λ last ks k e.
      function_takes last h.types (built es base h.rest).type ks k h.all
      (ap (λ z. agrees last (built es base z).type ks k) (sym h.is) ∙ e);
}

composed_agrees : (es : Structures) (s t : List TypeWord) (ks : List Kind) (k : Kind) (o : Option (List TypeWord))
    → composite s t ≡ o → agrees es (type_or o t) ks k ≡ agrees es t ks k
composed_agrees es s t ks k None e = refl
composed_agrees es s t ks k (Some c) e = composite_agrees es s t c e ks k

linked_agrees : (es : Structures) (s t : List TypeWord) (ks : List Kind) (k : Kind) (b : Bool)
    → agrees es (if b then type_or (composite s t) t else t) ks k ≡ agrees es t ks k
linked_agrees es s t ks k true = composed_agrees es s t ks k (composite s t) refl
linked_agrees es s t ks k false = refl

visible_agrees : (es : Structures) (t : List TypeWord) (m : Option Meaning) (ks : List Kind) (k : Kind)
    → agrees es (visible_type t m) ks k ≡ agrees es t ks k
visible_agrees es t None ks k = refl
visible_agrees es t (Some (meaning.Typedef s)) ks k = refl
visible_agrees es t (Some (meaning.Constant w)) ks k = refl
visible_agrees es t (Some (meaning.Named d s)) ks k = linked_agrees es s t ks k (is_linked d)

pub visible_takes : (names : Names Meaning) (t : List TypeWord) (m : Option Meaning) → Takes names t
    → Takes names (visible_type t m)
visible_takes names t m h = record {
  types = h.types;
  of = h.of;
  fits = λ es ks k e. h.fits es ks k (sym (visible_agrees es t m ks k) ∙ e);
}

-- what the name of a function is bound to

type_is : {c d : Designated} {s t : List TypeWord} → Some (meaning.Named c s) ≡ Some (meaning.Named d t) → s ≡ t
type_is e = cc

unlinked_type : (z : Storage) (env : Environment) (d : Declaration) (n : ℕ) (type t : List TypeWord)
    → Some (meaning.Named (what.Function n) type) ≡ Some (unlinked_meaning z env d) → type ≡ t
unlinked_type storage.Typedef env d n type t e = absurd cc
unlinked_type storage.Static env d n type t e = absurd cc
unlinked_type storage.Absent env d n type t e = absurd cc
unlinked_type storage.Auto env d n type t e = absurd cc
unlinked_type storage.Register env d n type t e = absurd cc
unlinked_type storage.Extern env d n type t e = absurd cc

pub function_meant : (env : Environment) (d : Declaration) (n : ℕ) (type : List TypeWord)
    → Some (meaning.Named (what.Function n) type) ≡ Some (bound_meaning env d)
    → type ≡ visible_type d.type (names.meaning d.name env.names)
function_meant env d n type e = by (has_linkage (in_file env) d) e
  where
    by : (b : Bool)
        → Some (meaning.Named (what.Function n) type)
        ≡ Some (if b then linked_meaning env d else unlinked_meaning d.storage env d)
        → type ≡ visible_type d.type (names.meaning d.name env.names)
    by true e = type_is e
    by false e = unlinked_type d.storage env d n type (visible_type d.type (names.meaning d.name env.names)) e
