-- Code with its checks put in is the same but for these.
use Rattle.std.proofs.Common.{◌≡◌, ℕ, List, Option, Some, None}
use Rattle.c_tree.specs.declared.expression.Kind.TheVariants.{Void, Scalar as OfScalar, Structure, Array}
use Rattle.tac_ir.specs.declared.instruction.Mode.TheVariants.{Named, Unchecked, Judged}
use Rattle.tac_ir.specs.declared.instruction.Instruction.{Instruction}
use Rattle.tac_ir.specs.declared.instruction.Instruction.TheVariants.{Read, Write, Update}
use Rattle.tac_ir.specs.declared.function.CodeFunction.{CodeFunction}
use Rattle.tac_ir.specs.declared.function.Tac.{Tac}
use Rattle.tac_ir.specs.Meaning.{function_in}
use Rattle.check_insert.specs.Counting.{checks_needed}
use Rattle.check_insert.specs.Inserted.{Has, StandsFor, InsertedAt, Inserted}
use Rattle.check_insert.specs.SameButChecks.{SameButChecksAt, SameButChecks}

stands_still : (code : List Instruction) (n : ℕ) (i : Instruction) → checks_needed i ≡ 0 → StandsFor code n i
    → Has code n i
stands_still code n (Read kind Named line key d a m) none h = h
stands_still code n (Read kind Judged line key d a m) none h = h
stands_still code n (Read Void Unchecked line key d a m) none h = h
stands_still code n (Read (OfScalar k) Unchecked line key d a m) none h = cc
stands_still code n (Read (Structure size) Unchecked line key d a m) none h = cc
stands_still code n (Read (Array size) Unchecked line key d a m) none h = h
stands_still code n (Write kind Named line key d a b m) none h = h
stands_still code n (Write kind Judged line key d a b m) none h = h
stands_still code n (Write Void Unchecked line key d a b m) none h = h
stands_still code n (Write (OfScalar k) Unchecked line key d a b m) none h = cc
stands_still code n (Write (Structure size) Unchecked line key d a b m) none h = cc
stands_still code n (Write (Array size) Unchecked line key d a b m) none h = h
stands_still code n (Update u k f Named line at key d a b m) none h = h
stands_still code n (Update u k f Unchecked line at key d a b m) none h = cc
stands_still code n (Update u k f Judged line at key d a b m) none h = h
stands_still code n i none h = h

same_at : (o o' : Option CodeFunction) → InsertedAt o o' → SameButChecksAt o o'
same_at None None h = tt
same_at None (Some c') h = absurd h
same_at (Some c) None h = absurd h
same_at (Some c) (Some c') h = record {
  size = h.size;
  code = λ n i has other. stands_still c'.code n i other.needed (h.code n i has);
  homes = h.homes;
}

pub inserted_is_same : (t r : Tac) → Inserted t r → SameButChecks t r
inserted_is_same t r ins = record {
  tables = ins.tables;
  functions = λ u. same_at (function_in t u) (function_in r u) (ins.functions u);
}
