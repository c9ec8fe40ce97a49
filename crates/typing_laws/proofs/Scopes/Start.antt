-- The state at the start of a file is formed.
use Rattle.std.proofs.Common.{◌≡◌, Bool, true, false, refl, sym, ap, ◌∙◌, subst, List, [], ◌∷◌, length, Option, Some}
use Rattle.std.proofs.Common.{None}
use Rattle.std.specs.Prelude.{codes}
use Rattle.obj_memory.specs.declared.int_type.IntType.TheVariants.{UnsignedLong}
use Rattle.c_tree.specs.declared.c_type.TypeWord.TheVariants.{Integer}
use Rattle.c_tree.specs.declared.expression.Routine.{Routine}
use Rattle.c_tree.specs.Extents.{structure_extent}
use Rattle.c_tree.specs.Routines.{routine_words}
use Rattle.c_scope.specs.declared.meaning.Designated.TheVariants.{Library}
use Rattle.c_scope.specs.declared.meaning.Entity.{Entity}
use Rattle.c_scope.specs.declared.meaning.LibraryFunction.TheVariants as library
use Rattle.c_scope.specs.declared.meaning.Meaning.{Meaning}
use Rattle.c_scope.specs.declared.meaning.Meaning.TheVariants.{Constant, Named, Typedef}
use Rattle.c_scope.specs.Environment.{Environment, Facts, with_name}
use Rattle.c_scope.specs.Library.{name_of, routines}
use Rattle.c_scope.specs.Names.{Name, Names, bound, declared, found, or_else}
use Rattle.c_scope.specs.Start.{empty, start, with_library, with_routine, with_routines}
use Rattle.c_scope.specs.Names as names
use Rattle.c_scope.specs.Structures.{member_of, none}
use Rattle.c_typing_state.specs.State.{State}
use Rattle.c_unit_typing.specs.Units.{file_before}
use Rattle.typing_laws.specs.Validity.Sound.{IsFormed}
use Rattle.typing_laws.specs.Validity.Typed.{HaveMembers}
use Rattle.typing_laws.proofs.Validity.Common.{no_value as no_some, the_same}
use Rattle.typing_laws.specs.Declarators.Extending.{IsSameOr, new, same}
use Rattle.typing_laws.proofs.Declarators.Tags.{bound_same}
use Rattle.typing_laws.proofs.Declarations.Formed.{IsPlainMeaning}

record IsStart (env : Environment) : Type 0 where
  outer : env.names.outer ≡ []
  names : (name : Name) (m : Meaning) → declared name env.names.current ≡ Some m → IsPlainMeaning m
  tags : env.tags ≡ record { outer = []; current = [] }
  structures : env.structures ≡ none

kept : (before behind : Option Meaning) → IsSameOr IsPlainMeaning before behind
    → ((m : Meaning) → before ≡ Some m → IsPlainMeaning m) → (m : Meaning) → behind ≡ Some m → IsPlainMeaning m
kept before behind (same e) h m is = h m (sym e ∙ is)
kept before behind (new x e p) h m is = subst IsPlainMeaning (the_same (sym e ∙ is)) p

named_start : (env : Environment) → IsStart env → (name : Name) (m : Meaning) → IsPlainMeaning m
    → (entities : Names Entity) → IsStart (with_name name m (record env { entities = entities }))
named_start env h name m plain entities = record {
  outer = h.outer;
  names = λ other x is.
      kept (declared other env.names.current) (declared other (bound name m env.names.current))
      (bound_same IsPlainMeaning name other m env.names.current plain) (h.names other) x is;
  tags = h.tags;
  structures = h.structures;
}

routine_start : (env : Environment) → IsStart env → (r : Routine) → IsStart (with_routine r env)
routine_start env h r =
    named_start env h (name_of r) (Named (Library (library.Routine r)) (routine_words r)) tt
    (bound (name_of r)
    (record { what = Library (library.Routine r); c_type = routine_words r; is_defined = true; is_tentative = false })
    env.entities)

routines_start : (rs : List Routine) (env : Environment) → IsStart env → IsStart (with_routines rs env)
routines_start [] env h = h
routines_start (r ∷ rs) env h = routines_start rs (with_routine r env) (routine_start env h r)

printf_start : (env : Environment) → IsStart env
    → IsStart (with_library (codes "printf") library.Printf [] env)
printf_start env h =
    named_start env h (codes "printf") (Named (Library library.Printf) []) tt
    (bound (codes "printf")
    (record { what = Library library.Printf; c_type = []; is_defined = true; is_tentative = false }) env.entities)

empty_start : (facts : Facts) → IsStart (empty facts)
empty_start facts =
    record { outer = refl; names = λ name m is. no_some m _ is; tags = refl; structures = refl }

start_is : (facts : Facts) → IsStart (start facts)
unfolding start
start_is facts =
    let before = with_library (codes "printf") library.Printf [] (with_routines routines (empty facts)) in
    named_start before
    (printf_start (with_routines routines (empty facts)) (routines_start routines (empty facts) (empty_start facts)))
    (codes "size_t") (Typedef (Integer UnsignedLong ∷ [])) refl before.entities

pub start_facts : (facts : Facts) → (start facts).facts ≡ facts
unfolding start
start_facts facts = refl

-- a state in such an environment

in_current : (a b : Option Meaning) (x : Meaning) → b ≡ None → or_else a b ≡ Some x → a ≡ Some x
in_current None b x e is = sym e ∙ is
in_current (Some y) b x e is = is

module _ (s : State) (h : IsStart s.environment) where
  plain_at : (name : Name) (m : Meaning)
      → or_else (declared name s.environment.names.current) (found name s.environment.names.outer) ≡ Some m
      → IsPlainMeaning m
  plain_at name m is =
      h.names name m
      (in_current (declared name s.environment.names.current) (found name s.environment.names.outer) m
      (ap (found name) h.outer) is)

  start_formed : IsFormed s
  start_formed = record {
    same = ap (λ z. length z.extents) h.structures ∙ ap (λ z. length z.bodies) (sym h.structures);
    begun = λ n e is. no_some e _ (ap (λ z. structure_extent z.extents n) (sym h.structures) ∙ is);
    sizes = λ n e is. no_some e _ (ap (λ z. structure_extent z.extents n) (sym h.structures) ∙ is);
    tags = λ name t is. no_some t _ (ap (λ z. names.meaning name z) (sym h.tags) ∙ is);
    constants = λ name w is. plain_at name (Constant w) is;
    typedefs = λ name type is. plain_at name (Typedef type) is;
  }

  start_members : HaveMembers s
  start_members = record {
    each = λ n name m is. no_some m _ (ap (λ z. member_of n name z.bodies) (sym h.structures) ∙ is);
  }

pub file_formed : (objects : Option (List (List Bool))) (facts : Facts) → IsFormed (file_before objects facts).state
file_formed objects facts = start_formed (file_before objects facts).state (start_is facts)

pub file_members : (objects : Option (List (List Bool))) (facts : Facts)
    → HaveMembers (file_before objects facts).state
file_members objects facts = start_members (file_before objects facts).state (start_is facts)
