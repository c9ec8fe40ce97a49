-- The machine's instructions for calls and returns of flat code. Arguments and results go through the words of
-- arguments;
-- what a function needs behind a call and keeps in a register waits in its home.
use Rattle.std.specs.Prelude.{ℕ, zero, suc, ◌+◌, ◌-◌, ◌*◌, ◌%◌, ◌^◌, nat_lt, Bool, if◌then◌else◌, List, [], ◌∷◌, ◌++◌}
use Rattle.rv_isa.specs.declared.instruction.RegOp.TheVariants.{Add, Sub}
use Rattle.rv_isa.specs.declared.instruction.Instr.{Instr}
use Rattle.rv_isa.specs.declared.instruction.ImmOp.TheVariants.{Addi}
use Rattle.rv_isa.specs.declared.instruction.Instr.TheVariants.{Lui, Jalr, Op, OpImm, Ebreak}
use Rattle.machine_laws.specs.declared.location.Location.{Location}
use Rattle.machine_laws.specs.declared.location.Location.TheVariants.{Register, Frame}
use Rattle.machine_laws.specs.Blocks.Places.{argument_words, left_scratch, right_scratch}
use Rattle.machine_laws.specs.Blocks.Blocks.{constant, upper, lower, load_at, store_at, used, fetch, keep}

-- where a function keeps its values, which of them are live before each instruction, and how many bytes its activation
-- record has
pub record Keeping : Type 0 where
  pub place : ℕ → Location
  pub home : ℕ → ℕ
  pub live : (pc y : ℕ) → Bool
  pub count : ℕ
  pub base : ℕ
  pub room : ℕ

-- so many values, from one on, go to the words of arguments
unfoldable pub give : Keeping → (first count : ℕ) → List Instr
give k first zero = []
give k first (suc n) =
    give k first n
    ++ (fetch (k.place (first + n)) k.base left_scratch
    ++ store_at (used (k.place (first + n)) left_scratch) argument_words (8 * n))

-- those of them that are live before an instruction come from there
unfoldable pub take : Keeping → (pc first count : ℕ) → List Instr
take k pc first zero = []
take k pc first (suc n) =
    take k pc first n
    ++ (if k.live pc (first + n)
    then load_at (used (k.place (first + n)) left_scratch) argument_words (8 * n)
    ++ keep (k.place (first + n)) k.base left_scratch
    else [])

abbrev pub save_one : Location → (base home : ℕ) → List Instr
save_one (Register r) base h = store_at r base h
save_one (Frame o) base h = []

abbrev pub restore_one : Location → (base home : ℕ) → List Instr
restore_one (Register r) base h = load_at r base h
restore_one (Frame o) base h = []

-- those of the first so many that are wanted go to their homes, and come back
unfoldable pub save : Keeping → (wanted : ℕ → Bool) → (count : ℕ) → List Instr
save k wanted zero = []
save k wanted (suc n) = save k wanted n ++ (if wanted n then save_one (k.place n) k.base (k.home n) else [])

unfoldable pub restore : Keeping → (wanted : ℕ → Bool) → (count : ℕ) → List Instr
restore k wanted zero = []
restore k wanted (suc n) =
    restore k wanted n ++ (if wanted n then restore_one (k.place n) k.base (k.home n) else [])

-- the next activation record begins behind this one: where the room is below 2048, by one instruction
unfoldable pub advance : Keeping → List Instr
advance k =
    if nat_lt k.room (2 ^ 11)
    then OpImm Addi k.base k.base (k.room % 2 ^ 12) ∷ []
    else constant right_scratch k.room ++ Op Add k.base k.base right_scratch ∷ []

unfoldable pub retreat : Keeping → List Instr
retreat k =
    if nat_lt k.room (2 ^ 11)
    then OpImm Addi k.base k.base ((2 ^ 12 - k.room) % 2 ^ 12) ∷ []
    else constant right_scratch k.room ++ Op Sub k.base k.base right_scratch ∷ []

-- up to the jump to the callee, whose address comes to stand in a register
abbrev pub call_block : Keeping → (wanted : ℕ → Bool) → (first count : ℕ) → (aim : List Instr) → List Instr
call_block k wanted first n aim = save k wanted k.count ++ (give k first n ++ (aim ++ advance k))

-- where the callee comes back to
abbrev pub back_block : Keeping → (wanted : ℕ → Bool) → (pc into results : ℕ) → List Instr
back_block k wanted pc into n = retreat k ++ (restore k wanted k.count ++ take k pc into n)

-- the first of a function: its return address and arguments are kept
abbrev pub entry_block : Keeping → (parameters : ℕ) → List Instr
entry_block k n = store_at 1 k.base 0 ++ take k 0 0 n

-- up to the jump back
abbrev pub return_block : Keeping → (from results : ℕ) → List Instr
return_block k from n = give k from n ++ load_at 1 k.base 0

-- the entry of the jump table of a function: four words, of which the first two lead to its first
abbrev pub row : (address : ℕ) → List Instr
row a = Lui 31 (upper a) ∷ Jalr 0 31 (lower a) ∷ Ebreak ∷ Ebreak ∷ []
