-- Instructions over other virtual registers.
use Rattle.std.specs.Prelude.{◌≡◌, ◌≢◌, ℕ, ◌+◌, ◌<◌, ◌≤◌, List, [], ◌∷◌, Bool, true, false, ◌&&◌, nat_lt, nat_le}
use Rattle.flat_code.specs.declared.instruction.RightOperand.{RightOperand}
use Rattle.flat_code.specs.declared.instruction.RightOperand.TheVariants.{Register, Number}
use Rattle.flat_code.specs.declared.instruction.FlatInstruction.{FlatInstruction}
use Rattle.flat_code.specs.declared.instruction.FlatInstruction.TheVariants.{Constant, Move, Operate, Operate32}
use Rattle.flat_code.specs.declared.instruction.FlatInstruction.TheVariants.{Load, Store, Branch, JumpForward}
use Rattle.flat_code.specs.declared.instruction.FlatInstruction.TheVariants.{JumpBack, Turn, Call, CallAddress}
use Rattle.flat_code.specs.declared.instruction.FlatInstruction.TheVariants.{Return, Get, Put, Exit, End, Charged}
use Rattle.flat_code.specs.State.{State}

abbrev pub rename_right : (ℕ → ℕ) → RightOperand → RightOperand
rename_right f (Register x) = Register (f x)
rename_right f (Number n) = Number n

abbrev pub rename : (ℕ → ℕ) → FlatInstruction → FlatInstruction
rename f (Constant x n) = Constant (f x) n
rename f (Move x y) = Move (f x) (f y)
rename f (Operate op x y z) = Operate op (f x) (f y) (rename_right f z)
rename f (Operate32 op x y z) = Operate32 op (f x) (f y) (rename_right f z)
rename f (Load op x y offset) = Load op (f x) (f y) offset
rename f (Store op y offset x) = Store op (f y) offset (f x)
rename f (Branch op y z past) = Branch op (f y) (rename_right f z) past
rename f (JumpForward past) = JumpForward past
rename f (JumpBack back) = JumpBack back
rename f Turn = Turn
rename f (Call g first x) = Call g (f first) (f x)
rename f (CallAddress y first n x m) = CallAddress (f y) (f first) n (f x) m
rename f (Return y) = Return (f y)
rename f (Get x) = Get (f x)
rename f (Put x) = Put (f x)
rename f (Exit x) = Exit (f x)
rename f (End e) = End e
rename f (Charged x) = Charged (f x)

-- whether a register is read that is one of the first n, and written that is one of them from d on
abbrev pub reads : (n : ℕ) → ℕ → Bool
reads n x = nat_lt x n

abbrev pub reads_right : (n : ℕ) → RightOperand → Bool
reads_right n (Register x) = nat_lt x n
reads_right n (Number v) = true

abbrev pub writes : (n d : ℕ) → ℕ → Bool
writes n d x = nat_le d x && nat_lt x n

-- Whether the instruction at place i of a routine of so many uses only these, jumps within the routine, and is no call
-- and no return.
abbrev pub fits : (n d length i : ℕ) → FlatInstruction → Bool
fits n d len i (Constant x v) = writes n d x
fits n d len i (Move x y) = writes n d x && reads n y
fits n d len i (Operate op x y z) = writes n d x && (reads n y && reads_right n z)
fits n d len i (Operate32 op x y z) = writes n d x && (reads n y && reads_right n z)
fits n d len i (Load op x y offset) = writes n d x && reads n y
fits n d len i (Store op y offset x) = reads n y && reads n x
fits n d len i (Branch op y z past) = (reads n y && reads_right n z) && nat_le (i + 1 + past) len
fits n d len i (JumpForward past) = nat_le (i + 1 + past) len
fits n d len i (JumpBack back) = nat_le back i
fits n d len i Turn = true
fits n d len i (Call g first x) = false
fits n d len i (CallAddress y first m x r) = false
fits n d len i (Return y) = false
fits n d len i (Get x) = writes n d x
fits n d len i (Put x) = reads n x
fits n d len i (Exit x) = reads n x
fits n d len i (End e) = true
fits n d len i (Charged x) = writes n d x

abbrev pub all_fit : (n d length i : ℕ) → List FlatInstruction → Bool
all_fit n d len i [] = true
all_fit n d len i (x ∷ xs) = fits n d len i x && all_fit n d len (i + 1) xs

-- registers for the first n, of which those from d on are nothing else's
pub record IsRenaming (count d : ℕ) (f : ℕ → ℕ) : Type 0 where
  pub apart : (j k : ℕ) → j < count → d ≤ k → k < count → f j ≡ f k → j ≡ k

-- only the registers for those from d on may have changed
pub record ChangesOnly (count d : ℕ) (f : ℕ → ℕ) (before after : State) : Type 0 where
  pub others : (x : ℕ) → ((k : ℕ) → d ≤ k → k < count → x ≢ f k) → after.values x ≡ before.values x

-- two states agree: the first n registers have the values of theirs, and all but registers is the same
pub record Agrees (count : ℕ) (f : ℕ → ℕ) (v s : State) : Type 0 where
  pub values : (j : ℕ) → j < count → v.values j ≡ s.values (f j)
  pub rest : s ≡ record v { values = s.values }

-- a state as it is seen by these registers
abbrev pub through : (ℕ → ℕ) → State → State
through f s = record s { values = λ j. s.values (f j) }
