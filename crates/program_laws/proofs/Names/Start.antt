-- Where a file begins names with linkage stand for the functions of the library, of their types (C99 7).
use Rattle.std.proofs.Common.{◌≡◌, ◌⊎◌, inl, inr, true, false, refl, sym, ap, ◌∙◌, subst, List, [], ◌∷◌, Some}
use Rattle.std.specs.Prelude.{codes}
use Rattle.obj_memory.specs.declared.int_type.IntType.TheVariants.{UnsignedLong}
use Rattle.c_tree.specs.declared.c_type.TypeWord.{TypeWord}
use Rattle.c_tree.specs.declared.c_type.TypeWord.TheVariants.{Integer}
use Rattle.c_tree.specs.declared.expression.Routine.{Routine}
use Rattle.c_tree.specs.Routines.{routine_words}
use Rattle.c_scope.specs.declared.meaning.Designated.{Designated}
use Rattle.c_scope.specs.declared.meaning.Designated.TheVariants as what
use Rattle.c_scope.specs.declared.meaning.Entity.{Entity}
use Rattle.c_scope.specs.declared.meaning.LibraryFunction.{LibraryFunction}
use Rattle.c_scope.specs.declared.meaning.LibraryFunction.TheVariants as library
use Rattle.c_scope.specs.declared.meaning.Meaning.{Meaning}
use Rattle.c_scope.specs.declared.meaning.Meaning.TheVariants as meaning
use Rattle.c_scope.specs.Declaring.{is_linked}
use Rattle.c_scope.specs.Environment.{Environment, Facts, with_name}
use Rattle.c_scope.specs.Library.{name_of, routines}
use Rattle.c_scope.specs.Names.{Name, bound, declared, found, or_else}
use Rattle.c_scope.specs.Names as names
use Rattle.c_scope.specs.Start.{empty, start, with_library, with_routine, with_routines}
use Rattle.typing_laws.proofs.Validity.Common.{the_same}
use Rattle.typing_laws.proofs.Declarations.Bound.{bound_here}
use Rattle.program_laws.specs.Functions.Entities.{Fills}
use Rattle.program_laws.proofs.Functions.Continuing.{continues_same}
use Rattle.program_laws.proofs.Functions.Entities.{bound_either, fills_same}
use Rattle.program_laws.specs.Names.Linked.{AreFilled, IsFilled}
use Rattle.program_laws.proofs.Names.Filled.{filled_named}

module _ (name : Name) (f : LibraryFunction) (type : List TypeWord) (env : Environment) (is : AreFilled env) where
  abbrev entity : Entity
  entity = record { what = what.Library f; c_type = type; is_defined = true; is_tentative = false }

  abbrev meant : Meaning
  meant = meaning.Named (what.Library f) type

  abbrev behind : Environment
  behind = with_library name f type env

  abbrev Stands : Name → Designated → List TypeWord → Type 0
  Stands other d t = IsFilled d t (declared other behind.entities)

  own_filled : (d : Designated) (t : List TypeWord) → meant ≡ meaning.Named d t → Stands name d t
  own_filled d t e = record {
    entity = entity;
    is = bound_here name entity env.entities;
    same = the_what e;
    fills = subst (λ z. Fills z type) (the_type e) (fills_same type);
  }
    where
      the_what : meant ≡ meaning.Named d t → what.Library f ≡ d
      the_what e = cc

      the_type : meant ≡ meaning.Named d t → type ≡ t
      the_type e = cc

  here_filled : (other : Name) (d : Designated) (t : List TypeWord) → other ≡ name
      → names.meaning other behind.names ≡ Some (meaning.Named d t) → Stands other d t
  here_filled other d t same e =
      subst (λ z. Stands z d t) (sym same)
      (own_filled d t
      (the_same (sym (ap (λ z. or_else z (found name env.names.outer)) (bound_here name meant env.names.current))
      ∙ ap (λ z. names.meaning z behind.names) (sym same) ∙ e)))

  library_filled : AreFilled behind
  library_filled = record {
    each = λ other d t e l.
        by other d t e l (bound_either other name meant env.names.current)
        (bound_either other name entity env.entities);
  }
    where
      by : (other : Name) (d : Designated) (t : List TypeWord)
          → names.meaning other behind.names ≡ Some (meaning.Named d t) → is_linked d ≡ true
          → (declared other (bound name meant env.names.current) ≡ declared other env.names.current)
          ⊎ ((other ≡ name) × (declared other (bound name meant env.names.current) ≡ Some meant))
          → (declared other (bound name entity env.entities) ≡ declared other env.entities)
          ⊎ ((other ≡ name) × (declared other (bound name entity env.entities) ≡ Some entity)) → Stands other d t
      by other d t e l (inr g) h = here_filled other d t g.0 e
      by other d t e l (inl g) (inr h) = here_filled other d t h.0 e
      by other d t e l (inl g) (inl h) =
          subst (IsFilled d t) (sym h)
          (is.each other d t (ap (λ z. or_else z (found other env.names.outer)) (sym g) ∙ e) l)

routines_filled : (rs : List Routine) (env : Environment) → AreFilled env → AreFilled (with_routines rs env)
routines_filled [] env is = is
routines_filled (r ∷ rs) env is =
    routines_filled rs (with_routine r env) (library_filled (name_of r) (library.Routine r) (routine_words r) env is)

typedef_filled : (env : Environment) (name : Name) (type : List TypeWord) → AreFilled env
    → AreFilled (with_name name (meaning.Typedef type) env)
typedef_filled env name type is =
    filled_named env (with_name name (meaning.Typedef type) env) name (meaning.Typedef type) refl
    (continues_same env.entities)
    (λ d t e l. absurd cc) is

pub start_filled : (facts : Facts) → AreFilled (start facts)
unfolding start
start_filled facts =
    let routines_in = with_routines routines (empty facts) in
    let env = with_library (codes "printf") library.Printf [] routines_in in
    typedef_filled env (codes "size_t") (Integer UnsignedLong ∷ [])
    (library_filled (codes "printf") library.Printf [] routines_in
    (routines_filled routines (empty facts) (record { each = λ name d type e l. absurd cc })))
