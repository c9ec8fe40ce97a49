-- A program has what its file has at the end: string literals, types of functions, static objects, and what names with
-- linkage stand for.
use Rattle.std.proofs.Common.{◌≡◌, ℕ, ◌+◌, Bool, true, ap, ◌∙◌, refl, List, ◌++◌, length, map, Option, Some}
use Rattle.std.specs.Prelude.{Ok, get_or, slice_get}
use Rattle.std.proofs.lemmas.List.{append_assoc}
use Rattle.c_syntax.specs.Statements as t
use Rattle.c_tree.specs.declared.expression.Kind.TheVariants as kind
use Rattle.c_tree.specs.Programs.{StaticObject}
use Rattle.c_tree.specs.Valid.{Scope, has_number}
use Rattle.c_typing_state.specs.State.{extents}
use Rattle.c_unit_typing.specs.Files.{File}
use Rattle.c_unit_typing.specs.Programs.{linked_objects, literal_object, program_of}
use Rattle.c_unit_typing.specs.Units.{file_with}
use Rattle.typing_laws.proofs.Validity.Sound.{get_extended, same_more}
use Rattle.typing_laws.specs.Validity.Sound.{Covers}
use Rattle.typing_laws.specs.Scopes.Defined.{define_functions}
use Rattle.typing_laws.specs.Scopes.Regular.{are_regular_externals}
use Rattle.program_laws.specs.Files.Numbers.{entries}
use Rattle.program_laws.proofs.Files.Ends.{owns_all}
use Rattle.program_laws.proofs.Files.StaticKinds.{entry_kind, get_behind, literal_kind}
use Rattle.program_laws.proofs.Files.Statics.{in_order_by}
use Rattle.program_laws.specs.Bodies.Defined.{HasFile}
use Rattle.program_laws.specs.Bodies.Standing.{IsStaticIn}
use Rattle.program_laws.proofs.Functions.Main.{functions_end, types_are_those}
use Rattle.program_laws.specs.Names.Linked.{HaveSizes, IsOf}
use Rattle.program_laws.proofs.Names.Linked.{linked_meant}

static_entry : (f : File) (k n : ℕ) (x : StaticObject) → slice_get f.statics k ≡ Some (n, x)
    → slice_get (entries f) (length (map literal_object f.state.literals) + k) ≡ Some (n, x)
static_entry f k n x e =
    let os = linked_objects f f.state.environment.entities in
    let ls = map literal_object f.state.literals in
    ap (λ z. slice_get z (length ls + k)) (append_assoc ls f.statics os) ∙ get_behind ls (f.statics ++ os) k
    ∙ get_extended f.statics (f.statics ++ os) (record { rest = os; is = refl }) k (n, x) e

module _ (objects : Option (List (List Bool))) (end : ℕ) (es : List t.External) (f : File)
    (regular : are_regular_externals es ≡ true) (define : define_functions es ≡ true)
    (accepted : file_with objects end es ≡ Ok f) (whole : HaveSizes f) (scope : Scope)
    (of : IsOf (program_of f) scope) where
  static_there : (k n : ℕ) (x : StaticObject) → slice_get f.statics k ≡ Some (n, x) → IsStaticIn scope n x
  static_there k n x e =
      let own = entry_kind f (in_order_by f (owns_all objects end es f regular accepted))
      (length (map literal_object f.state.literals) + k) (n, x) (static_entry f k n x e) in
      record {
        there = ap (λ z. has_number z n) of.statics ∙ own.there;
        kind = ap (λ z. get_or z n kind.Void) of.statics ∙ own.kind;
      }

  file_covers : Covers scope (extents f.state) f.state
  file_covers = record {
    more = same_more (extents f.state);
    undefined = (functions_end objects end es f regular define accepted).ended.used;
    literals = λ n l e.
        literal_kind f (in_order_by f (owns_all objects end es f regular accepted)) scope of.statics n l e
        (whole.literals n l e);
    types = λ n type e.
        types_are_those objects end es f regular define accepted scope of.types n type e;
  }

  pub program_has : HasFile scope (extents f.state) f
  program_has = record {
    covers = file_covers;
    statics = static_there;
    linked = linked_meant objects end es f regular define accepted whole scope of;
  }
