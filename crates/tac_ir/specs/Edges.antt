-- The edges of the graph of a function.
use Rattle.std.specs.Prelude.{◌≡◌, ◌⊎◌, ℕ, Bool, true, false, List, [], ◌∷◌}
use Rattle.tac_ir.specs.declared.instruction.Instruction.{Instruction}
use Rattle.tac_ir.specs.Stage.{Waiting, Frame, Waits, Entered, Stage, Begins, Stands, Over, Stuck}
use Rattle.tac_ir.specs.declared.instruction.Instruction.TheVariants.{Reserved, Skip, Constant, FunctionPointer}
use Rattle.tac_ir.specs.declared.instruction.Instruction.TheVariants.{GetPlain}
use Rattle.tac_ir.specs.declared.instruction.Instruction.TheVariants.{SetPlain, UpdatePlain, HomePointer, StaticPointer}
use Rattle.tac_ir.specs.declared.instruction.Instruction.TheVariants.{ZeroOf, Convert, Unary, Binary, Offset}
use Rattle.tac_ir.specs.declared.instruction.Instruction.TheVariants.{Difference, Narrow, Member, Take, Read, Write}
use Rattle.tac_ir.specs.declared.instruction.Instruction.TheVariants.{Update, Judge, Zero, StorePart, StoreText, Branch}
use Rattle.tac_ir.specs.declared.instruction.Instruction.TheVariants.{Case, Turn, Library, Print, Call, CallThrough}
use Rattle.tac_ir.specs.declared.instruction.Instruction.TheVariants.{EnterBlock, LeaveBlock, Return}

-- the nodes that an instruction leads to; that behind a call is where its result comes back
abbrev pub successors : Instruction → List ℕ
successors Reserved = []
successors (Skip m) = m ∷ []
successors (Constant d w m) = m ∷ []
successors (FunctionPointer d f m) = m ∷ []
successors (GetPlain d x m) = m ∷ []
successors (SetPlain x a m) = m ∷ []
successors (UpdatePlain w k f line d x right m) = m ∷ []
successors (HomePointer d x m) = m ∷ []
successors (StaticPointer d n m) = m ∷ []
successors (ZeroOf kind d m) = m ∷ []
successors (Convert kind d a m) = m ∷ []
successors (Unary op ty d a m) = m ∷ []
successors (Binary op ty line d a b m) = m ∷ []
successors (Offset form size d a b m) = m ∷ []
successors (Difference size d a b m) = m ∷ []
successors (Narrow offset size d a m) = m ∷ []
successors (Member offset size d a m) = m ∷ []
successors (Take kind line d a m) = m ∷ []
successors (Read kind mode line key d a m) = m ∷ []
successors (Write kind mode line key d a b m) = m ∷ []
successors (Update w k f mode line at key d a right m) = m ∷ []
successors (Judge test size line key a m) = m ∷ []
successors (Zero x m) = m ∷ []
successors (StorePart kind line x offset a m) = m ∷ []
successors (StoreText n x offset m) = m ∷ []
successors (Branch a x y) = x ∷ y ∷ []
successors (Case a w x y) = x ∷ y ∷ []
successors (Turn counted m) = m ∷ []
successors (Library r line d n m) = m ∷ []
successors (Print x line d n m) = m ∷ []
successors (Call f line d n m) = m ∷ []
successors (CallThrough type_number line d n m) = m ∷ []
successors (EnterBlock b line m) = m ∷ []
successors (LeaveBlock b m) = m ∷ []
successors (Return a) = []

-- an instruction leads to a node
abbrev pub IsAmong : (node : ℕ) → List ℕ → Type 0
IsAmong n [] = ⊥
IsAmong n (m ∷ ms) = (n ≡ m) ⊎ IsAmong n ms

abbrev pub LeadsTo : Instruction → (node : ℕ) → Type 0
LeadsTo i n = IsAmong n (successors i)

-- an instruction is local where it neither calls a function nor returns
abbrev pub is_local : Instruction → Bool
is_local (Call f line d n m) = false
is_local (CallThrough type_number line d n m) = false
is_local (Return a) = false
is_local i = true

-- the callers that wait, from the last on
abbrev pub callers : List Frame → List Waiting
callers [] = []
callers (Waits w ∷ frames) = w ∷ callers frames
callers (Entered n b ∷ frames) = callers frames

-- an edge of the graph of a function, over which the same callers wait
abbrev pub IsEdgeOver : Instruction → (function : ℕ) → (before : List Frame) → (to node : ℕ) → (after : List Frame)
    → Type 0
IsEdgeOver i u frames v n others = (v ≡ u) × LeadsTo i n × (callers others ≡ callers frames)

-- a call from a function, behind which a successor waits, over the frames that there are
abbrev pub IsCallFrom : Instruction → (function : ℕ) → (before after : List Frame) → Type 0
IsCallFrom i u frames [] = ⊥
IsCallFrom i u frames (Waits w ∷ others) = (w.function ≡ u) × LeadsTo i w.node × (others ≡ frames)
IsCallFrom i u frames (Entered k b ∷ others) = ⊥

-- a return to where the last caller waits, over the frames behind it
abbrev pub IsReturnTo : (function node : ℕ) → (before after : List Frame) → Type 0
IsReturnTo v n [] others = ⊥
IsReturnTo v n (Waits w ∷ frames) others = (w.function ≡ v) × (w.node ≡ n) × (others ≡ frames)
IsReturnTo v n (Entered k b ∷ frames) others = ⊥

-- a step from an instruction of a function, over frames, goes along an edge of the function's graph, or it calls or
-- returns, or the run ends
abbrev pub AlongBy : Instruction → (function : ℕ) → List Frame → Stage → Type 0
AlongBy i u frames (Begins s) = ⊥
AlongBy i u frames (Stands v n temps others s) = IsEdgeOver i u frames v n others
    ⊎ (IsCallFrom i u frames others ⊎ IsReturnTo v n frames others)
AlongBy i u frames (Over e s) = Unit {0}
AlongBy i u frames Stuck = Unit {0}

pub record GoesAlong (instruction : Instruction) (function : ℕ) (frames : List Frame) (stage : Stage) : Type 0 where
  pub by : AlongBy instruction function frames stage

-- a step that stays in its function goes along an edge, or the run ends
abbrev pub StaysBy : Instruction → (function : ℕ) → List Frame → Stage → Type 0
StaysBy i u frames (Begins s) = ⊥
StaysBy i u frames (Stands v n temps others s) = IsEdgeOver i u frames v n others
StaysBy i u frames (Over e s) = Unit {0}
StaysBy i u frames Stuck = Unit {0}

pub record StaysIn (instruction : Instruction) (function : ℕ) (frames : List Frame) (stage : Stage) : Type 0 where
  pub by : StaysBy instruction function frames stage
