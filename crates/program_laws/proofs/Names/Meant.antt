-- What names with linkage stand for: static objects and functions of the program.
use Rattle.std.proofs.Common.{◌≡◌, ℕ, true, sym, subst, List}
use Rattle.c_tree.specs.declared.c_type.TypeWord.{TypeWord}
use Rattle.c_tree.specs.declared.expression.Kind.{Kind}
use Rattle.c_tree.specs.Kinds.{has_size}
use Rattle.c_tree.specs.Valid.{Scope}
use Rattle.c_unit_typing.specs.Programs.{final_type}
use Rattle.typing_laws.specs.Validity.Names.{IsStaticOf, kind_among}
use Rattle.typing_laws.specs.Validity.Steps.{Structures}
use Rattle.program_laws.specs.Files.Numbers.{HasKind}
use Rattle.program_laws.specs.Functions.Entities.{Fills}
use Rattle.program_laws.proofs.Names.Held.{Holds, IsNamed, holds_filled, holds_final, holds_named}

-- a static object of a kind that a type declares
pub static_held : (scope : Scope) (last : Structures) (n : ℕ) (k : Kind) (type : List TypeWord)
    → HasKind scope.statics n k → has_size k ≡ true → Holds last k type → IsStaticOf scope last n type
static_held scope last n k type has size holds =
    let is = holds_named last k type holds size in
    record {
      sized = is.sized;
      there = has.there;
      kind = (subst (λ z. IsNamed last z type) (sym has.kind) is).named;
    }

pub static_meant : (scope : Scope) (last : Structures) (n : ℕ) (type named : List TypeWord)
    → HasKind scope.statics n (kind_among last (final_type last type))
    → has_size (kind_among last (final_type last type)) ≡ true → Fills named type → IsStaticOf scope last n named
static_meant scope last n type named has size fills =
    let k = kind_among last (final_type last type) in
    static_held scope last n k named has size (holds_filled last k named type fills (holds_final last type size))
