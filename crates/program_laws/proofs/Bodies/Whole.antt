-- What a file has where it begins (C99 6.2.1, 6.9), and what it has of each of its definitions.
use Rattle.std.proofs.Common.{◌≡◌, Bool, true, false, refl, sym, ap, ◌∙◌, subst, List, [], ◌∷◌}
use Rattle.std.proofs.Common.{Option, Some, arith}
use Rattle.std.specs.Prelude.{codes}
use Rattle.obj_memory.specs.declared.int_type.IntType.TheVariants.{UnsignedLong}
use Rattle.c_tree.specs.declared.c_type.TypeWord.{TypeWord}
use Rattle.c_tree.specs.declared.c_type.TypeWord.TheVariants.{Integer}
use Rattle.c_tree.specs.declared.expression.Routine.{Routine}
use Rattle.c_tree.specs.Routines.{routine_words}
use Rattle.c_scope.specs.declared.meaning.Designated.TheVariants as what
use Rattle.c_scope.specs.declared.meaning.Entity.{Entity}
use Rattle.c_scope.specs.declared.meaning.LibraryFunction.{LibraryFunction}
use Rattle.c_scope.specs.declared.meaning.LibraryFunction.TheVariants as library
use Rattle.c_scope.specs.declared.meaning.Meaning.{Meaning}
use Rattle.c_scope.specs.declared.meaning.Meaning.TheVariants as meaning
use Rattle.c_scope.specs.Declaring.{is_linked}
use Rattle.c_scope.specs.Environment.{Environment, Facts, with_name}
use Rattle.c_scope.specs.Library.{name_of, routines}
use Rattle.c_scope.specs.Names as names
use Rattle.c_scope.specs.Names.{Name, bound, declared, found, is_empty}
use Rattle.c_scope.specs.Start.{empty, start, with_library, with_routine, with_routines}
use Rattle.c_typing_state.specs.State.{State, extents}
use Rattle.c_unit_typing.specs.Files.{Definition, File}
use Rattle.c_tree.specs.Valid.{Scope}
use Rattle.c_unit_typing.specs.Units.{entered, file_before, left, parameters_in}
use Rattle.typing_laws.specs.Validity.Sound.{Covers}
use Rattle.typing_laws.specs.Validity.Steps.{Structures}
use Rattle.typing_laws.proofs.Validity.Sound.{get_extended, more_more}
use Rattle.typing_laws.proofs.Declarators.Tags.{bound_same}
use Rattle.typing_laws.proofs.Declarations.Bound.{named_binds}
use Rattle.typing_laws.specs.Scopes.Leaving.{Grows}
use Rattle.typing_laws.proofs.Scopes.Start.{file_formed}
use Rattle.program_laws.specs.Bodies.Defined.{Defines, HasFile}
use Rattle.program_laws.specs.Bodies.Parameters.{IsFileScope, IsOutside}
use Rattle.program_laws.specs.Bodies.Standing.{AreLinked, EntitiesLead}
use Rattle.program_laws.specs.Bodies.Whole.{IsDefinition}
use Rattle.program_laws.specs.Bodies.Types.{is_type}
use Rattle.program_laws.proofs.Bodies.Entities.{entities_on, entity_links, linked_bound}
use Rattle.program_laws.proofs.Bodies.Outside.{IsLinkedIf, same_type}
use Rattle.program_laws.proofs.Bodies.Standing.{either}

-- where a file begins

record IsStart (env : Environment) : Type 0 where
  types : (name : Name) (type : List TypeWord) → names.meaning name env.names ≡ Some (meaning.Typedef type)
      → is_type type ≡ true
  outer : is_empty env.names.outer ≡ true
  variables : env.variables ≡ 0
  names : IsFileScope env
  linked : AreLinked env

named_scope : (env : Environment) (name : Name) (m : Meaning) → IsLinkedIf (Some m) → IsFileScope env
    → IsFileScope (with_name name m env)
named_scope env name m l is = record {
  linked = λ other.
      either IsLinkedIf (λ x. x ≡ m) (declared other env.names.current)
      (declared other (bound name m env.names.current)) (found other env.names.outer)
      (bound_same (λ x. x ≡ m) name other m env.names.current refl)
      (λ x e. subst (λ z. IsLinkedIf (Some z)) (sym e) l) (is.linked other);
}

typed_scope : (env : Environment) (name : Name) (m : Meaning)
    → ((type : List TypeWord) → Some m ≡ Some (meaning.Typedef type) → is_type type ≡ true)
    → ((other : Name) (type : List TypeWord) → names.meaning other env.names ≡ Some (meaning.Typedef type)
    → is_type type ≡ true)
    → (other : Name) (type : List TypeWord)
    → names.meaning other (with_name name m env).names ≡ Some (meaning.Typedef type) → is_type type ≡ true
typed_scope env name m h is other =
    either (λ o. (type : List TypeWord) → o ≡ Some (meaning.Typedef type) → is_type type ≡ true) (λ x. x ≡ m)
    (declared other env.names.current) (declared other (bound name m env.names.current)) (found other env.names.outer)
    (bound_same (λ x. x ≡ m) name other m env.names.current refl) (λ x e type g. h type (ap Some (sym e) ∙ g))
    (is other)

library_link : (f : LibraryFunction) (type : List TypeWord) → IsLinkedIf (Some (meaning.Named (what.Library f) type))
library_link f type d t e = ap is_linked (sym (the_same e))
  where
    the_same : Some (meaning.Named (what.Library f) type) ≡ Some (meaning.Named d t) → what.Library f ≡ d
    the_same e = cc

library_start : (name : Name) (f : LibraryFunction) (type : List TypeWord) (env : Environment) → IsStart env
    → IsStart (with_library name f type env)
library_start name f type env is =
    let entity : Entity = record { what = what.Library f; c_type = type; is_defined = true; is_tentative = false } in
    let scope = named_scope env name (meaning.Named (what.Library f) type) (library_link f type) is.names in
    record {
      types = typed_scope env name (meaning.Named (what.Library f) type) (λ t e. absurd cc) is.types;
      outer = is.outer;
      variables = is.variables;
      names = record { linked = scope.linked };
      linked = entity_links env name entity (what.Library f) type env.statics is.linked refl refl;
    }

routines_start : (rs : List Routine) (env : Environment) → IsStart env → IsStart (with_routines rs env)
routines_start [] env is = is
routines_start (r ∷ rs) env is =
    routines_start rs (with_routine r env) (library_start (name_of r) (library.Routine r) (routine_words r) env is)

empty_start : (facts : Facts) → IsStart (empty facts)
empty_start facts = record {
  types = λ name type e. absurd cc;
  outer = refl;
  variables = refl;
  names = record { linked = λ name d type e. absurd cc };
  linked = record { entities = λ name e is. absurd cc; names = λ name d type e l. absurd cc };
}

typedef_start : (s : State) → IsStart s.environment → (name : Name) (type : List TypeWord) → is_type type ≡ true
    → IsStart (with_name name (meaning.Typedef type) s.environment)
typedef_start s is name type whole =
    let m = meaning.Typedef type in
    let binds = named_binds s name m s.environment.entities s.environment.statics s.environment.variables (omega arith)
    (omega arith) in
    record {
      types = typed_scope s.environment name m (λ t e. subst (λ z. is_type z ≡ true) (same_type e) whole) is.types;
      outer = is.outer;
      variables = is.variables;
      names = named_scope s.environment name m (λ d t e. absurd cc) is.names;
      linked = linked_bound name m s (record s { environment = with_name name m s.environment }) binds tt refl
          is.linked;
    }

start_is : (s : State) (facts : Facts) → IsStart (start facts)
unfolding start
start_is s facts =
    let env = with_library (codes "printf") library.Printf [] (with_routines routines (empty facts)) in
    typedef_start (record s { environment = env })
    (library_start (codes "printf") library.Printf [] (with_routines routines (empty facts))
    (routines_start routines (empty facts) (empty_start facts)))
    (codes "size_t") (Integer UnsignedLong ∷ []) refl

pub file_outside : (objects : Option (List (List Bool))) (facts : Facts) → IsOutside (file_before objects facts).state
file_outside objects facts =
    let is = start_is (file_before objects facts).state facts in
    record {
      formed = file_formed objects facts;
      outer = is.outer;
      variables = is.variables;
      names = is.names;
      linked = is.linked;
      types = record { each = is.types };
    }

-- what a program has of a file, it has of the file at the end of each definition
module _ (scope : Scope) (structures : Structures) (end : File) (def : Definition) (h : IsDefinition end def) where
  abbrev d : Defines h.before h.behind
  d = h.defines

  abbrev closed_block : File
  closed_block =
      left d.line d.type (parameters_in (entered d.number d.type d.parameters d.before).state d.parameters.names)
      (d.end, d.body)

  grown : Grows closed_block end
  grown = subst (λ f. Grows f end) d.is h.grows

  led : EntitiesLead d.end.state.environment end.state.environment
  led =
      let lead = subst (λ f. EntitiesLead f.state.environment end.state.environment) d.is h.entities in
      record { each = lead.each }

  definition_covers : Covers scope structures end.state → Covers scope structures d.end.state
  definition_covers is = record {
    more = more_more (extents d.end.state) (extents end.state) structures (record { kept = grown.more.kept }) is.more;
    undefined = grown.undefined is.undefined;
    literals = λ n l e.
        is.literals n l (get_extended d.end.state.literals end.state.literals grown.literals n l e);
    types = λ n type e.
        is.types n type (get_extended d.end.state.function_types end.state.function_types grown.types n type e);
  }

  pub definition_has : HasFile scope structures end → HasFile scope structures d.end
  definition_has is = record {
    covers = definition_covers is.covers;
    statics = λ k n x e. is.statics k n x (get_extended d.end.statics end.statics grown.statics k (n, x) e);
    linked = record {
      each = λ u d2 ready sized fine has entities more facts before.
          is.linked.each u d2 ready sized fine has
          (entities_on _ d.end.state.environment end.state.environment entities led)
          (more_more (extents u) (extents d.end.state) (extents end.state) more (record { kept = grown.more.kept }))
          (grown.facts ∙ facts) before;
    };
  }
