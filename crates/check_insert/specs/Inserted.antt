-- When one program has the checks of another put in. Nodes keep their numbers; what is new stands at new ones.
use Rattle.std.specs.Prelude.{◌≡◌, ◌≤◌, ℕ, ◌+◌, List, length, map, Option, Some, None, slice_get}
use Rattle.obj_memory.specs.Access.{scalar_size}
use Rattle.c_tree.specs.declared.expression.Kind.{Kind}
use Rattle.c_tree.specs.declared.expression.Kind.TheVariants.{Void, Scalar as OfScalar, Structure, Array}
use Rattle.c_tree.specs.Kinds.{size_of_kind}
use Rattle.tac_ir.specs.declared.instruction.Mode.{Mode}
use Rattle.tac_ir.specs.declared.instruction.Mode.TheVariants.{Named, Unchecked, Judged}
use Rattle.tac_ir.specs.declared.instruction.Test.TheVariants.{Spatial, Temporal}
use Rattle.tac_ir.specs.declared.instruction.Instruction.{Instruction}
use Rattle.tac_ir.specs.declared.instruction.Instruction.TheVariants.{Read, Write, Update, Judge}
use Rattle.tac_ir.specs.declared.function.CodeFunction.{CodeFunction}
use Rattle.tac_ir.specs.declared.function.Tac.{Tac}
use Rattle.tac_ir.specs.SameTables.{SameTables}
use Rattle.tac_ir.specs.Structures.{structure_put}
use Rattle.tac_ir.specs.Temporaries.{temporaries}
use Rattle.check_insert.specs.Building.{with_added}
use Rattle.check_insert.specs.Counting.{checks, checks_needed, checks_to_insert, sum_over}

abbrev pub Has : List Instruction → (node : ℕ) → Instruction → Type 0
Has code n i = slice_get code n ≡ Some i

-- the two checks of an access of so many bytes through a temporary, and then the access, from one node on
abbrev pub Checked : List Instruction → (node size line : ℕ) → (key : Option ℕ) → (pointer : ℕ) → Instruction → Type 0
Checked code n size line key a access =
    (n1 : ℕ) × (n2 : ℕ) × Has code n (Judge Spatial size line key a n1)
    × Has code n1 (Judge Temporal size line key a n2) × Has code n2 access

-- what has no bytes of its own is not accessed
abbrev pub AccessOf : Kind → (checked plain : Type 0) → Type 0
AccessOf Void checked plain = plain
AccessOf (OfScalar k) checked plain = checked
AccessOf (Structure n) checked plain = checked
AccessOf (Array n) checked plain = plain

abbrev pub ReadIn : List Instruction → ℕ → Mode → Kind → (line : ℕ) → (key : Option ℕ) → (d a m : ℕ) → Type 0
ReadIn code n Named kind line key d a m = Has code n (Read kind Named line key d a m)
ReadIn code n Unchecked kind line key d a m =
    AccessOf kind (Checked code n (size_of_kind kind) line key a (Read kind Judged line key d a m))
    (Has code n (Read kind Unchecked line key d a m))
ReadIn code n Judged kind line key d a m = Has code n (Read kind Judged line key d a m)

abbrev pub WriteIn : List Instruction → ℕ → Mode → Kind → (line : ℕ) → (key : Option ℕ) → (d a b m : ℕ) → Type 0
WriteIn code n Named kind line key d a b m = Has code n (Write kind Named line key d a b m)
WriteIn code n Unchecked kind line key d a b m =
    AccessOf kind (Checked code n (size_of_kind kind) line key a (Write kind Judged line key d a b m))
    (Has code n (Write kind Unchecked line key d a b m))
WriteIn code n Judged kind line key d a b m = Has code n (Write kind Judged line key d a b m)

-- what stands for an instruction at its node
abbrev pub StandsFor : List Instruction → ℕ → Instruction → Type 0
StandsFor code n (Read kind mode line key d a m) = ReadIn code n mode kind line key d a m
StandsFor code n (Write kind mode line key d a b m) = WriteIn code n mode kind line key d a b m
StandsFor code n (Update u k f Unchecked line at key d a b m) = Checked code n (scalar_size k) line key a
    (Update u k f Judged line at key d a b m)
StandsFor code n i = Has code n i

-- an instruction of the code with checks, and one of the code without that needs no fewer temporaries, and puts no
-- smaller structure into any of them
pub record NeedsNoMore (code : List Instruction) (instruction : Instruction) : Type 0 where
  pub node : ℕ
  pub other : Instruction
  pub has : Has code node other
  pub most : temporaries instruction ≤ temporaries other
  pub structures : (t : Tac) (temporary : ℕ) → structure_put t instruction temporary ≤ structure_put t other temporary

-- for each check there is a node more, those of a loop's body are a span, and no instruction needs more temporaries
-- than there were, or a larger structure in one
pub record FunctionIn (before after : CodeFunction) : Type 0 where
  pub size : length after.code ≡ length before.code + sum_over checks_needed before.code
  pub code : (n : ℕ) (i : Instruction) → Has before.code n i → StandsFor after.code n i
  pub homes : (n : ℕ) (i : Instruction) → Has after.code n i → NeedsNoMore before.code i
  pub loops : after.loops ≡ map (with_added before.code) before.loops

abbrev pub InsertedAt : Option CodeFunction → Option CodeFunction → Type 0
InsertedAt None None = Unit {0}
InsertedAt None (Some c') = ⊥
InsertedAt (Some c) None = ⊥
InsertedAt (Some c) (Some c') = FunctionIn c c'

-- the tables stay: what calls lay out, keys, blocks, static objects and texts, and counted loops but for what is added
pub record Inserted (before after : Tac) : Type 0 where
  pub tables : SameTables before after
  pub functions : (u : ℕ) → InsertedAt (slice_get before.functions u) (slice_get after.functions u)
  pub count : checks after ≡ checks before + checks_to_insert before
