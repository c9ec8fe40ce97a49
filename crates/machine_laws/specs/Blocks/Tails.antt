-- Endings. Where an ending with a report stands, its line comes to a register and the machine jumps to the tail of its
-- kind; the tail spells the report, writes it to the error output and ends.
use Rattle.std.specs.Prelude.{ℕ, suc, ◌-◌, ◌*◌, ◌+◌, ◌%◌, ◌^◌, ◌==◌, if◌then◌else◌, List, [], ◌∷◌, ◌++◌, length, codes}
use Rattle.sb_base.specs.declared.ending.Ending.{Ending}
use Rattle.sb_base.specs.declared.ending.Ending.TheVariants.{Exit, Spatial, Temporal, BadCall, BadFree, Divide, Stack}
use Rattle.sb_base.specs.declared.ending.Ending.TheVariants.{Keys, Abort}
use Rattle.sb_base.specs.Endings.{code_of}
use Rattle.rv_isa.specs.declared.instruction.BranchOp.TheVariants.{Bne}
use Rattle.rv_isa.specs.declared.instruction.StoreOp.TheVariants.{Sb}
use Rattle.rv_isa.specs.declared.instruction.ImmOp.TheVariants.{Addi}
use Rattle.rv_isa.specs.declared.instruction.RegOp.TheVariants.{Sub}
use Rattle.rv_isa.specs.declared.instruction.RegOp32.TheVariants.{Divuw, Remuw}
use Rattle.rv_isa.specs.declared.instruction.Instr.{Instr}
use Rattle.rv_isa.specs.declared.instruction.Instr.TheVariants.{Lui, Jalr, Branch, Store, OpImm, Op, Op32, Ecall}
use Rattle.machine_laws.specs.Blocks.Places.{argument_words, left_scratch, right_scratch, address_scratch}
use Rattle.machine_laws.specs.Blocks.Places.{callee_scratch}
use Rattle.machine_laws.specs.Blocks.Blocks.{upper, lower, wide}

-- what is reported, and of which line; of an exit nothing is
abbrev pub what_of : Ending → List ℕ
what_of (Exit status) = []
what_of (Spatial line) = codes "spatial violation"
what_of (Temporal line) = codes "temporal violation"
what_of (BadCall line) = codes "bad call"
what_of (BadFree line) = codes "bad free"
what_of (Divide line) = codes "division by zero"
what_of (Stack line) = codes "stack exhausted"
what_of (Keys line) = codes "keys exhausted"
what_of (Abort line) = codes "abort"

abbrev pub line_of : Ending → ℕ
line_of (Exit status) = 0
line_of (Spatial line) = line
line_of (Temporal line) = line
line_of (BadCall line) = line
line_of (BadFree line) = line
line_of (Divide line) = line
line_of (Stack line) = line
line_of (Keys line) = line
line_of (Abort line) = line

-- ---- tails

-- a report before the digits of its line
abbrev pub text_before : (what : List ℕ) → List ℕ
text_before what = codes "sbcets: " ++ what ++ codes " at line "

-- bytes, stored one behind another from an offset behind the address in a register on
abbrev pub text_bytes : (base offset : ℕ) → List ℕ → List Instr
text_bytes base k [] = []
text_bytes base k (b ∷ bs) =
    OpImm Addi left_scratch 0 (b % 2 ^ 11) ∷ Store Sb base left_scratch (k % 2 ^ 12) ∷ text_bytes base (suc k) bs

-- the newline, which is the byte 10, as the last of the first 64 of the words of arguments
abbrev pub newline : List Instr
newline =
    OpImm Addi callee_scratch argument_words 63 ∷ OpImm Addi right_scratch 0 10
    ∷ Store Sb callee_scratch right_scratch 0 ∷ []

-- the digits of the line before it: the last of what is left of the line, until nothing is
abbrev pub line_digits : List Instr
line_digits =
    Op32 Remuw address_scratch left_scratch right_scratch ∷ OpImm Addi address_scratch address_scratch 48
    ∷ OpImm Addi callee_scratch callee_scratch (2 ^ 12 - 1) ∷ Store Sb callee_scratch address_scratch 0
    ∷ Op32 Divuw left_scratch left_scratch right_scratch ∷ Branch Bne left_scratch 0 (2 ^ 13 - 20) ∷ []

-- the text before them
abbrev pub line_text : List ℕ → List Instr
line_text text =
    OpImm Addi callee_scratch callee_scratch ((2 ^ 12 - length text) % 2 ^ 12) ∷ text_bytes callee_scratch 0 text

-- one write of all of them to the error output
abbrev pub written : List Instr
written =
    OpImm Addi 17 0 64 ∷ OpImm Addi 10 0 2 ∷ OpImm Addi 11 callee_scratch 0 ∷ OpImm Addi 12 argument_words 64
    ∷ Op Sub 12 12 callee_scratch ∷ Ecall ∷ []

-- the ending with a status
abbrev pub ended : (status : ℕ) → List Instr
ended status = OpImm Addi 10 0 (status % 2 ^ 11) ∷ OpImm Addi 17 0 93 ∷ Ecall ∷ []

-- a tail: the line has 32 bits and stands in the first scratch register
abbrev pub tail_block : (what : List ℕ) → (status : ℕ) → List Instr
tail_block what status =
    newline ++ (line_digits ++ (line_text (text_before what) ++ (written ++ ended status)))

-- the kinds of endings with a report, each at line 1
abbrev pub reported : List Ending
reported =
    Spatial 1 ∷ Temporal 1 ∷ BadCall 1 ∷ BadFree 1 ∷ Divide 1 ∷ Stack 1 ∷ Keys 1 ∷ Abort 1 ∷ []

abbrev pub tails_of : List Ending → List Instr
tails_of [] = []
tails_of (e ∷ es) = tail_block (what_of e) (code_of e) ++ tails_of es

-- the tails of all kinds
unfoldable pub tails : List Instr
tails = tails_of reported

-- those before the tail of a status
abbrev pub tails_before : List Ending → (status : ℕ) → List Instr
tails_before [] status = []
tails_before (e ∷ es) status =
    if code_of e == status then [] else tail_block (what_of e) (code_of e) ++ tails_before es status

-- ---- endings

-- the line to a register, and the jump to a tail
abbrev pub jump_block : (line tail : ℕ) → List Instr
jump_block line tail =
    wide left_scratch line ++ (Lui address_scratch (upper tail) ∷ Jalr 0 address_scratch (lower tail) ∷ [])

-- an ending, where the tails stand from an address on
abbrev pub end_block : (tails_begin : ℕ) → Ending → List Instr
end_block a (Exit status) = ended (code_of (Exit status))
end_block a e = jump_block (line_of e) (a + 4 * length (tails_before reported (code_of e)))
