-- `strchr` in flat code (C99 7.21.5.2).
use Rattle.std.specs.Prelude.{ℕ, List, [], ◌∷◌, ◌++◌}
use Rattle.sb_base.specs.declared.ending.Ending.TheVariants.{Spatial}
use Rattle.rv_isa.specs.declared.instruction.BranchOp.TheVariants.{Beq, Bne}
use Rattle.rv_isa.specs.declared.instruction.RegOp.TheVariants.{Add, Sll, Srl}
use Rattle.rv_isa.specs.declared.instruction.LoadOp.TheVariants.{Lbu}
use Rattle.source_meaning.specs.Strings.{strchr}
use Rattle.source_meaning.specs.Library.{argument}
use Rattle.flat_code.specs.declared.instruction.RightOperand.TheVariants.{Register, Number}
use Rattle.flat_code.specs.declared.instruction.FlatInstruction.{FlatInstruction}
use Rattle.flat_code.specs.declared.instruction.FlatInstruction.TheVariants.{Constant, Move, Operate, Load, Branch}
use Rattle.flat_code.specs.declared.instruction.FlatInstruction.TheVariants.{JumpForward, JumpBack, End}
use Rattle.flat_code.specs.declared.registers.Held.{Held}
use Rattle.flat_code.specs.declared.registers.Entry.{Entry}
use Rattle.flat_actions.specs.Judgement.Code.{judge_code}
use Rattle.flat_actions.specs.Actions.{Basis, Word, Pointer, IsAction}

-- From the cursor on to the first byte that is sought, behind which 16 instructions on its pointer is given; or to the
-- first 0 byte, behind which null is; or to the bound.
abbrev pub seek_loop : (cursor bound line byte sought : ℕ) → List FlatInstruction
seek_loop cursor bound line byte sought =
    Load Lbu byte cursor 0
    ∷ Branch Beq byte (Register sought) 11
    ∷ Branch Beq byte (Number 0) 4
    ∷ Operate Add cursor cursor (Number 1)
    ∷ Branch Bne cursor (Register bound) 1
    ∷ End (Spatial line)
    ∷ JumpBack 6
    ∷ []

abbrev pub null_code : Held → List FlatInstruction
null_code into =
    Constant into.value 0
    ∷ Constant into.tag.base 0
    ∷ Constant into.tag.bound 0
    ∷ Constant into.tag.key 0
    ∷ Constant into.tag.lock 0
    ∷ JumpForward 4
    ∷ []

abbrev pub same_entry_code : Entry → Entry → List FlatInstruction
same_entry_code from into =
    Move into.base from.base ∷ Move into.bound from.bound ∷ Move into.key from.key ∷ Move into.lock from.lock ∷ []

-- the low byte of the one that is sought, and the cursor, which is that of the result
abbrev pub seek_start : Held → Held → (byte sought : ℕ) → List FlatInstruction
seek_start h into byte sought =
    Operate Sll sought byte (Number 56) ∷ Operate Srl sought sought (Number 56) ∷ Move into.value h.value ∷ []

abbrev pub seek_code : Held → Held → (byte line t sought : ℕ) → List FlatInstruction
seek_code h into byte line t sought =
    seek_start h into byte sought
    ++ (seek_loop into.value h.tag.bound line t sought ++ (null_code into ++ same_entry_code h.tag into.tag))

-- the first byte is judged, and each further one is looked at up to the bound
abbrev pub strchr_code : Held → (byte : ℕ) → Held → (line t sought : ℕ) → List FlatInstruction
strchr_code h byte into line t sought =
    Constant t 1 ∷ (judge_code h t line sought ++ seek_code h into byte line t sought)

abbrev pub IsStrchr : Basis → Held → (byte : ℕ) → Held → (line scratch : ℕ) → List FlatInstruction → Type 0
IsStrchr basis h byte into line t r =
    IsAction basis (λ vs. strchr (argument 0 vs) (argument 1 vs) line) (Pointer h ∷ Word byte ∷ []) (Pointer into) t 20
    6 r
