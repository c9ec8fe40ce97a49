-- Strings scanned in flat code.
use Rattle.std.specs.Prelude.{◌≡◌, ℕ, ◌+◌, List, [], ◌∷◌, ◌++◌, length}
use Rattle.sb_base.specs.declared.ending.Ending.TheVariants.{Spatial}
use Rattle.rv_isa.specs.declared.instruction.BranchOp.TheVariants.{Beq, Bne}
use Rattle.rv_isa.specs.declared.instruction.RegOp.TheVariants.{Add, Sub}
use Rattle.rv_isa.specs.declared.instruction.LoadOp.TheVariants.{Lbu}
use Rattle.flat_code.specs.declared.instruction.RightOperand.TheVariants.{Register, Number}
use Rattle.flat_code.specs.declared.instruction.FlatInstruction.{FlatInstruction}
use Rattle.flat_code.specs.declared.instruction.FlatInstruction.TheVariants.{Constant, Move, Operate, Load, Branch}
use Rattle.flat_code.specs.declared.instruction.FlatInstruction.TheVariants.{JumpBack, End}
use Rattle.flat_code.specs.declared.registers.Held.{Held}
use Rattle.flat_actions.specs.Judgement.Judging.{IsJudgeRoutine}

-- From the byte at the cursor on to the first 0 byte. Behind each other byte comes what a limit asks for, and then the
-- bound: the cursor may not go on from it.
abbrev pub scan_loop : (cursor byte bound line : ℕ) → (limited : List FlatInstruction) → List FlatInstruction
scan_loop c b bound line limited =
    Load Lbu b c 0
    ∷ Branch Beq b (Number 0) (4 + length limited)
    ∷ Operate Add c c (Number 1)
    ∷ (limited ++ Branch Bne c (Register bound) 1 ∷ End (Spatial line) ∷ JumpBack (5 + length limited) ∷ [])

-- the cursor begins at the string
abbrev pub scan_turns : Held → (cursor line scratch : ℕ) → List FlatInstruction
scan_turns h c line t = Move c h.value ∷ scan_loop c t h.tag.bound line []

-- it ends where the cursor has passed the limit
abbrev pub at_limit : (cursor end : ℕ) → List FlatInstruction
at_limit c end = Branch Beq c (Register end) 3 ∷ []

abbrev pub scan_at_most_turns : Held → (cursor line limit scratch : ℕ) → List FlatInstruction
scan_at_most_turns h c line limit t =
    Move c h.value ∷ Operate Add (t + 1) h.value (Register limit) ∷ scan_loop c t h.tag.bound line (at_limit c (t + 1))

-- the first byte is judged as an access of its own, in bounds and in life, before anything else
pub record IsFirstJudged (held : Held) (line scratch : ℕ) (turns items : List FlatInstruction) : Type 0 where
  pub judging : List FlatInstruction
  pub judges : IsJudgeRoutine held scratch line (scratch + 1) judging
  pub items_are : items ≡ Constant scratch 1 ∷ (judging ++ turns)

-- the length is the cursor's distance from the start
abbrev pub length_given : Held → (cursor into : ℕ) → List FlatInstruction
length_given h c into = Operate Sub into c (Register h.value) ∷ []
