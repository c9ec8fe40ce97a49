-- Which temporaries may have the contents of a structure. All others have none, so that the word of their value stands in
-- their first register.
use Rattle.std.specs.Prelude.{◌≡◌, ℕ, ◌+◌, Bool, true, false, ◌&&◌, ◌||◌, ◌==◌, nat_le, nat_lt, Option, Some, None}
use Rattle.std.specs.Prelude.{slice_get}
use Rattle.c_tree.specs.declared.expression.Kind.{Kind}
use Rattle.c_tree.specs.declared.expression.Kind.TheVariants.{Void, Scalar as OfScalar, Structure, Array}
use Rattle.tac_ir.specs.declared.instruction.RightOperand.{RightOperand}
use Rattle.tac_ir.specs.declared.instruction.RightOperand.TheVariants.{Temporary, One}
use Rattle.tac_ir.specs.declared.instruction.Instruction.{Instruction}
use Rattle.tac_ir.specs.declared.instruction.Instruction.TheVariants as tac
use Rattle.tac_ir.specs.declared.function.CodeFunction.{CodeFunction}
use Rattle.tac_ir.specs.declared.function.Tac.{Tac}
use Rattle.tac_ir.specs.Edges.{LeadsTo}
use Rattle.tac_ir.specs.Structures.{greatest_structure}
use Rattle.metadata_plan.specs.Entries.{IsOther, given}

-- those of a function that may have contents at a node
abbrev pub Contents : Type 0
Contents = (node temporary : ℕ) → Bool

abbrev pub is_right : RightOperand → (temporary : ℕ) → Bool
is_right (Temporary b) y = y == b
is_right One y = false

-- what is read but a scalar, which contents may have as a member, and a structure, whose place or contents the value
-- itself is
abbrev pub is_read_there : Kind → Bool
is_read_there Void = true
is_read_there (OfScalar k) = false
is_read_there (Structure n) = false
is_read_there (Array n) = true

-- whether an instruction takes the word of a temporary's value
abbrev pub takes_word : Instruction → (temporary : ℕ) → Bool
takes_word (tac.UpdatePlain w k f line d x right m) y = is_right right y
takes_word (tac.Convert kind d a m) y = y == a
takes_word (tac.Unary op ty d a m) y = y == a
takes_word (tac.Binary op ty line d a b m) y = (y == a) || (y == b)
takes_word (tac.Offset form size d a b m) y = (y == a) || (y == b)
takes_word (tac.Difference size d a b m) y = (y == a) || (y == b)
takes_word (tac.Narrow offset size d a m) y = y == a
takes_word (tac.Read kind mode line key d a m) y = is_read_there kind && y == a
takes_word (tac.Write kind mode line key d a b m) y = y == a
takes_word (tac.Update w k f mode line at key d a right m) y = is_right right y || y == a
takes_word (tac.Judge test size line key a m) y = y == a
takes_word (tac.Branch a x z) y = y == a
takes_word (tac.Case a w x z) y = y == a
takes_word (tac.Library r line d n m) y = nat_le d y && nat_lt y (d + n)
takes_word (tac.Print x line d n m) y = nat_le d y && nat_lt y (d + n)
takes_word (tac.CallThrough type_number line d n m) y = y == d
takes_word _ y = false

abbrev pub structure_from : Kind → (from : ℕ) → Option ℕ
structure_from (Structure n) a = Some a
structure_from kind a = None

-- the temporary whose contents an instruction gives: of contents it gives a member, or the structure that they are
abbrev pub contents_source : Instruction → Option ℕ
contents_source (tac.Member offset size d a m) = Some a
contents_source (tac.Read kind mode line key d a m) = structure_from kind a
contents_source _ = None

-- What may have contents before an instruction that gives it no value may have them behind it, and so may what has those of
-- another one; no instruction takes the word of what may have contents; and a temporary has none into which no instruction
-- puts a structure.
pub record AreKept (code : Tac) (function : CodeFunction) (contents : Contents) : Type 0 where
  pub kept : (n m y : ℕ) (i : Instruction) → slice_get function.code n ≡ Some i → LeadsTo i m → IsOther (given i) y
      → contents m y ≡ false → contents n y ≡ false
  pub made : (n m d a : ℕ) (i : Instruction) → slice_get function.code n ≡ Some i → LeadsTo i m → given i ≡ Some d
      → contents_source i ≡ Some a → contents m d ≡ false → contents n a ≡ false
  pub words : (n y : ℕ) (i : Instruction) → slice_get function.code n ≡ Some i → takes_word i y ≡ true
      → contents n y ≡ false
  pub areas : (n y : ℕ) → greatest_structure code function.code y ≡ 0 → contents n y ≡ false
