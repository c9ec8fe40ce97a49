-- When two programs differ in their instructions alone, and in which of them checks have added to the bodies of counted
-- loops: what calls lay out and what instructions name by number is the same.
use Rattle.std.specs.Prelude.{◌≡◌, ℕ, map, Option, Some, None}
use Rattle.tac_ir.specs.declared.function.CodeFunction.{CodeFunction}
use Rattle.tac_ir.specs.declared.function.Tac.{Tac}
use Rattle.tac_ir.specs.Meaning.{header_of_code, function_in}
use Rattle.tac_ir.specs.Bodies.{without_added}

pub record SameFunction (before after : CodeFunction) : Type 0 where
  pub header : header_of_code after ≡ header_of_code before
  pub entry : after.entry ≡ before.entry
  pub keys : after.keys ≡ before.keys
  pub blocks : after.blocks ≡ before.blocks
  pub loops : map without_added after.loops ≡ map without_added before.loops

abbrev pub SameAt : Option CodeFunction → Option CodeFunction → Type 0
SameAt None None = Unit {0}
SameAt None (Some c') = ⊥
SameAt (Some c) None = ⊥
SameAt (Some c) (Some c') = SameFunction c c'

pub record SameTables (before after : Tac) : Type 0 where
  pub headers : map header_of_code after.functions ≡ map header_of_code before.functions
  pub results : after.results ≡ before.results
  pub main : after.main ≡ before.main
  pub statics : after.statics ≡ before.statics
  pub bytes : after.global_bytes ≡ before.global_bytes
  pub texts : after.texts ≡ before.texts
  pub functions : (u : ℕ) → SameAt (function_in before u) (function_in after u)
