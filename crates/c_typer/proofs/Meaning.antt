-- Of equal meanings the same is declared.
use Rattle.std.proofs.Common.{◌≡◌, ℕ, List, Option, Result, subst}
use Rattle.c_syntax.specs.Tree.{Initializer}
use Rattle.c_tree.specs.Statements.{DeclaredVariable}
use Rattle.c_faults.specs.declared.fault.Refusal.{Refusal}
use Rattle.c_scope.specs.declared.meaning.Meaning.{Meaning}
use Rattle.c_scope.specs.Names.{Name}
use Rattle.c_programs.specs.FileState.{FileTypes}
use Rattle.c_unit_typing.specs.Declarations.{declared_with}
use Rattle.c_unit_typing.specs.Files.{File}

pub means : {A : Type 0} (view : A → List DeclaredVariable) (m n : Option Meaning) (name : Name × ℕ)
    (x : Option Initializer) (f new : File) (result : Result A Refusal) → m ≡ n
    → FileTypes view new result (declared_with name x m f) → FileTypes view new result (declared_with name x n f)
means view m n name x f new result same types =
    subst (λ z. FileTypes view new result (declared_with name x z f)) same types
