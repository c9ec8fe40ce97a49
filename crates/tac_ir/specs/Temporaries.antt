-- How many temporaries an instruction needs: one more than the greatest number that it names.
use Rattle.std.specs.Prelude.{ℕ, suc, ◌+◌, max}
use Rattle.tac_ir.specs.declared.instruction.RightOperand.{RightOperand}
use Rattle.tac_ir.specs.declared.instruction.RightOperand.TheVariants.{Temporary, One}
use Rattle.tac_ir.specs.declared.instruction.Instruction.{Instruction}
use Rattle.tac_ir.specs.declared.instruction.Instruction.TheVariants.{Reserved, Skip, Constant, FunctionPointer}
use Rattle.tac_ir.specs.declared.instruction.Instruction.TheVariants.{GetPlain}
use Rattle.tac_ir.specs.declared.instruction.Instruction.TheVariants.{SetPlain, UpdatePlain, HomePointer, StaticPointer}
use Rattle.tac_ir.specs.declared.instruction.Instruction.TheVariants.{ZeroOf, Convert, Unary, Binary, Offset}
use Rattle.tac_ir.specs.declared.instruction.Instruction.TheVariants.{Difference, Narrow, Member, Take, Read, Write}
use Rattle.tac_ir.specs.declared.instruction.Instruction.TheVariants.{Update, Judge, Zero, StorePart, StoreText, Branch}
use Rattle.tac_ir.specs.declared.instruction.Instruction.TheVariants.{Case, Turn, Library, Print, Call, CallThrough}
use Rattle.tac_ir.specs.declared.instruction.Instruction.TheVariants.{EnterBlock, LeaveBlock, Return}

abbrev pub right_count : RightOperand → ℕ
right_count (Temporary b) = suc b
right_count One = 0

-- arguments from a temporary on, which gets the result
abbrev pub call_count : (first count : ℕ) → ℕ
call_count d n = max (suc d) (d + n)

abbrev pub temporaries : Instruction → ℕ
temporaries Reserved = 0
temporaries (Skip m) = 0
temporaries (Constant d w m) = suc d
temporaries (FunctionPointer d f m) = suc d
temporaries (GetPlain d x m) = suc d
temporaries (SetPlain x a m) = suc a
temporaries (UpdatePlain w k f line d x right m) = max (suc d) (right_count right)
temporaries (HomePointer d x m) = suc d
temporaries (StaticPointer d n m) = suc d
temporaries (ZeroOf kind d m) = suc d
temporaries (Convert kind d a m) = max (suc d) (suc a)
temporaries (Unary op ty d a m) = max (suc d) (suc a)
temporaries (Binary op ty line d a b m) = max (suc d) (max (suc a) (suc b))
temporaries (Offset form size d a b m) = max (suc d) (max (suc a) (suc b))
temporaries (Difference size d a b m) = max (suc d) (max (suc a) (suc b))
temporaries (Narrow offset size d a m) = max (suc d) (suc a)
temporaries (Member offset size d a m) = max (suc d) (suc a)
temporaries (Take kind line d a m) = max (suc d) (suc a)
temporaries (Read kind mode line key d a m) = max (suc d) (suc a)
temporaries (Write kind mode line key d a b m) = max (suc d) (max (suc a) (suc b))
temporaries (Update w k f mode line at key d a right m) = max (suc d) (max (suc a) (right_count right))
temporaries (Judge test size line key a m) = suc a
temporaries (Zero x m) = 0
temporaries (StorePart kind line x offset a m) = suc a
temporaries (StoreText n x offset m) = 0
temporaries (Branch a x y) = suc a
temporaries (Case a w x y) = suc a
temporaries (Turn counted m) = 0
temporaries (Library r line d n m) = call_count d n
temporaries (Print x line d n m) = call_count d n
temporaries (Call f line d n m) = call_count d n
temporaries (CallThrough type_number line d n m) = suc d + n
temporaries (EnterBlock b line m) = 0
temporaries (LeaveBlock b m) = 0
temporaries (Return a) = suc a
