-- `strcmp` and `memcmp` in flat code (C99 7.21.4).
use Rattle.std.specs.Prelude.{ℕ, List, [], ◌∷◌, ◌++◌}
use Rattle.sb_base.specs.declared.ending.Ending.TheVariants.{Spatial}
use Rattle.rv_isa.specs.declared.instruction.BranchOp.TheVariants.{Beq, Bne}
use Rattle.rv_isa.specs.declared.instruction.RegOp.TheVariants.{Add, Sub, Sltu}
use Rattle.rv_isa.specs.declared.instruction.LoadOp.TheVariants.{Lbu}
use Rattle.source_meaning.specs.Memory.{memcmp}
use Rattle.source_meaning.specs.Strings.{strcmp}
use Rattle.source_meaning.specs.Library.{argument}
use Rattle.flat_code.specs.declared.instruction.RightOperand.TheVariants.{Register, Number}
use Rattle.flat_code.specs.declared.instruction.FlatInstruction.{FlatInstruction}
use Rattle.flat_code.specs.declared.instruction.FlatInstruction.TheVariants.{Constant, Move, Operate, Load, Branch}
use Rattle.flat_code.specs.declared.instruction.FlatInstruction.TheVariants.{JumpBack, End}
use Rattle.flat_code.specs.declared.registers.Held.{Held}
use Rattle.flat_actions.specs.Judgement.Code.{judge_code}
use Rattle.flat_actions.specs.Actions.{Basis, Word, Pointer, IsAction}

-- how two bytes compare: whether the first is greater, less whether it is less, which is -1, 0 or 1
abbrev pub order_code : (x y less greater into : ℕ) → List FlatInstruction
order_code x y less greater into =
    Operate Sltu less x (Register y)
    ∷ Operate Sltu greater y (Register x)
    ∷ Operate Sub into greater (Register less)
    ∷ []

-- the bytes at two cursors
abbrev pub pair_code : (cursor other x y : ℕ) → List FlatInstruction
pair_code cursor other x y = Load Lbu x cursor 0 ∷ Load Lbu y other 0 ∷ []

-- ---- strings

-- Pairs of bytes up to the first that differ, or are 0, behind which their order is given; or to one of the bounds.
abbrev pub string_loop : (cursor other bound other_bound line x y : ℕ) → List FlatInstruction
string_loop cursor other bound other_bound line x y =
    pair_code cursor other x y
    ++ (Branch Bne x (Register y) 8
    ∷ Branch Beq x (Number 0) 7
    ∷ Operate Add cursor cursor (Number 1)
    ∷ Branch Bne cursor (Register bound) 1
    ∷ End (Spatial line)
    ∷ Operate Add other other (Number 1)
    ∷ Branch Bne other (Register other_bound) 1
    ∷ End (Spatial line)
    ∷ JumpBack 10
    ∷ [])

-- the first byte of each is judged, and each further one is looked at up to its bound
abbrev pub strcmp_code : Held → Held → (into line cursor other x y : ℕ) → List FlatInstruction
strcmp_code a b into line cursor other x y =
    Constant x 1
    ∷ (judge_code a x line y
    ++ (judge_code b x line y
    ++ (Move cursor a.value
    ∷ Move other b.value
    ∷ (string_loop cursor other a.tag.bound b.tag.bound line x y ++ order_code x y cursor other into))))

abbrev pub IsStrcmp : Basis → Held → Held → (into line scratch : ℕ) → List FlatInstruction → Type 0
IsStrcmp basis a b into line t r =
    IsAction basis (λ vs. strcmp (argument 0 vs) (argument 1 vs) line) (Pointer a ∷ Pointer b ∷ []) (Word into) t 24
    5 r

-- ---- ranges

-- pairs of bytes up to the first that differ, behind which their order is given, or to the end
abbrev pub range_loop : (cursor other end x y : ℕ) → List FlatInstruction
range_loop cursor other end x y =
    pair_code cursor other x y
    ++ (Branch Bne x (Register y) 4
    ∷ Operate Add cursor cursor (Number 1)
    ∷ Operate Add other other (Number 1)
    ∷ Branch Beq cursor (Register end) 4
    ∷ JumpBack 6
    ∷ [])

-- none are equal, and so are ranges where no pair differs
abbrev pub memcmp_code : Held → Held → (size into line cursor other x y end : ℕ) → List FlatInstruction
memcmp_code a b size into line cursor other x y end =
    Constant into 0
    ∷ Branch Beq size (Number 0) 33
    ∷ (judge_code a size line cursor
    ++ (judge_code b size line cursor
    ++ (Move cursor a.value
    ∷ Move other b.value
    ∷ Operate Add end a.value (Register size)
    ∷ (range_loop cursor other end x y ++ order_code x y cursor other into))))

abbrev pub IsMemcmp : Basis → Held → Held → (size into line scratch : ℕ) → List FlatInstruction → Type 0
IsMemcmp basis a b size into line t r =
    IsAction basis (λ vs. memcmp (argument 0 vs) (argument 1 vs) (argument 2 vs) line)
    (Pointer a ∷ Pointer b ∷ Word size ∷ []) (Word into) t 26 4 r
