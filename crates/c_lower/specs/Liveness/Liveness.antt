-- Where the value of a temporary is needed: at a node from which a path leads to an instruction that reads it, and none
-- on the way writes it.
use Rattle.std.specs.Prelude.{◌≡◌, ◌⊎◌, ℕ, zero, suc, ◌+◌, Bool, true, false, ◌&&◌, ◌||◌, ◌==◌, nat_le, nat_lt, List}
use Rattle.std.specs.Prelude.{Some, slice_get}
use Rattle.tac_ir.specs.declared.instruction.RightOperand.{RightOperand}
use Rattle.tac_ir.specs.declared.instruction.RightOperand.TheVariants.{Temporary, One}
use Rattle.tac_ir.specs.declared.instruction.Instruction.{Instruction}
use Rattle.tac_ir.specs.declared.instruction.Instruction.TheVariants.{Reserved, Skip, Constant, FunctionPointer}
use Rattle.tac_ir.specs.declared.instruction.Instruction.TheVariants.{GetPlain}
use Rattle.tac_ir.specs.declared.instruction.Instruction.TheVariants.{SetPlain, UpdatePlain, HomePointer, StaticPointer}
use Rattle.tac_ir.specs.declared.instruction.Instruction.TheVariants.{ZeroOf, Convert, Unary, Binary, Offset}
use Rattle.tac_ir.specs.declared.instruction.Instruction.TheVariants.{Difference, Narrow, Member, Take, Read, Write}
use Rattle.tac_ir.specs.declared.instruction.Instruction.TheVariants.{Update, Judge, Zero, StorePart, StoreText, Branch}
use Rattle.tac_ir.specs.declared.instruction.Instruction.TheVariants.{Case, Turn, Library, Print, Call, CallThrough}
use Rattle.tac_ir.specs.declared.instruction.Instruction.TheVariants.{EnterBlock, LeaveBlock, Return}
use Rattle.tac_ir.specs.Edges.{LeadsTo}

-- one of so many temporaries from one on
abbrev pub is_among : (first count y : ℕ) → Bool
is_among d n y = nat_le d y && nat_lt y (d + n)

abbrev pub is_right : RightOperand → ℕ → Bool
is_right (Temporary b) y = y == b
is_right One y = false

-- whether an instruction reads a temporary
abbrev pub reads : Instruction → (temporary : ℕ) → Bool
reads Reserved y = false
reads (Constant d w m) y = false
reads (FunctionPointer d f m) y = false
reads (GetPlain d x m) y = false
reads (SetPlain x a m) y = y == a
reads (UpdatePlain w k f line d x right m) y = is_right right y
reads (HomePointer d x m) y = false
reads (StaticPointer d n m) y = false
reads (ZeroOf kind d m) y = false
reads (Convert kind d a m) y = y == a
reads (Unary op ty d a m) y = y == a
reads (Binary op ty line d a b m) y = (y == a) || (y == b)
reads (Offset form size d a b m) y = (y == a) || (y == b)
reads (Difference size d a b m) y = (y == a) || (y == b)
reads (Narrow offset size d a m) y = y == a
reads (Member offset size d a m) y = y == a
reads (Take kind line d a m) y = y == a
reads (Read kind mode line key d a m) y = y == a
reads (Write kind mode line key d a b m) y = (y == a) || (y == b)
reads (Update w k f mode line at key d a right m) y = (y == a) || is_right right y
reads (Judge test size line key a m) y = y == a
reads (Zero x m) y = false
reads (StorePart kind line x offset a m) y = y == a
reads (StoreText n x offset m) y = false
reads (Branch a x z) y = y == a
reads (Case a w x z) y = y == a
reads (Turn counted m) y = false
reads (Library r line d n m) y = is_among d n y
reads (Print x line d n m) y = is_among d n y
reads (Call f line d n m) y = is_among d n y
reads (CallThrough type_number line d n m) y = is_among d (suc n) y
reads (EnterBlock b line m) y = false
reads (LeaveBlock b m) y = false
reads (Skip m) y = false
reads (Return a) y = y == a

-- whether an instruction, and what comes back to it from a call, gives a temporary another value
abbrev pub writes : Instruction → (temporary : ℕ) → Bool
writes Reserved y = false
writes (Constant d w m) y = y == d
writes (FunctionPointer d f m) y = y == d
writes (GetPlain d x m) y = y == d
writes (SetPlain x a m) y = false
writes (UpdatePlain w k f line d x right m) y = y == d
writes (HomePointer d x m) y = y == d
writes (StaticPointer d n m) y = y == d
writes (ZeroOf kind d m) y = y == d
writes (Convert kind d a m) y = y == d
writes (Unary op ty d a m) y = y == d
writes (Binary op ty line d a b m) y = y == d
writes (Offset form size d a b m) y = y == d
writes (Difference size d a b m) y = y == d
writes (Narrow offset size d a m) y = y == d
writes (Member offset size d a m) y = y == d
writes (Take kind line d a m) y = y == d
writes (Read kind mode line key d a m) y = y == d
writes (Write kind mode line key d a b m) y = y == d
writes (Update w k f mode line at key d a right m) y = y == d
writes (Judge test size line key a m) y = false
writes (Zero x m) y = false
writes (StorePart kind line x offset a m) y = false
writes (StoreText n x offset m) y = false
writes (Branch a x z) y = false
writes (Case a w x z) y = false
writes (Turn counted m) y = false
writes (Library r line d n m) y = y == d
writes (Print x line d n m) y = y == d
writes (Call f line d n m) y = y == d
writes (CallThrough type_number line d n m) y = y == d
writes (EnterBlock b line m) y = false
writes (LeaveBlock b m) y = false
writes (Skip m) y = false
writes (Return a) y = false

-- an instruction is reached within so many steps that reads the temporary, and none on the way writes it
unfoldable pub LiveWithin : List Instruction → (steps node temporary : ℕ) → Type 0
LiveWithin code zero n y = ⊥
LiveWithin code (suc k) n y =
    (i : Instruction) × (slice_get code n ≡ Some i)
    × ((reads i y ≡ true) ⊎ ((writes i y ≡ false) × (m : ℕ) × LeadsTo i m × LiveWithin code k m y))

-- the value of the temporary is needed at the node
pub record IsLive (code : List Instruction) (node temporary : ℕ) : Type 0 where
  pub steps : ℕ
  pub within : LiveWithin code steps node temporary
