-- The words of a labelled list.
use Rattle.std.specs.Prelude.{◌≡◌, ℕ, suc, ◌+◌, ◌-◌, ◌*◌, ◌/◌, ◌%◌, ◌^◌, List, [], ◌∷◌, ◌++◌, map, length, Option, Some}
use Rattle.std.specs.Prelude.{None, slice_get}
use Rattle.rv_isa.specs.declared.instruction.BranchOp.{BranchOp}
use Rattle.rv_isa.specs.declared.instruction.BranchOp.TheVariants.{Beq, Bne, Blt, Bge, Bltu, Bgeu}
use Rattle.rv_isa.specs.declared.instruction.Instr.{Instr}
use Rattle.rv_isa.specs.declared.instruction.Instr.TheVariants as instr
use Rattle.rv_isa.specs.Registers.{zero_register, ra}
use Rattle.rv_isa.specs.Table.{word_of}
use Rattle.rv_asm.specs.declared.form.Form.{Form}
use Rattle.rv_asm.specs.declared.form.Form.TheVariants.{Short, Near, Far}
use Rattle.rv_asm.specs.declared.item.Item.{Item}
use Rattle.rv_asm.specs.declared.item.Item.TheVariants as item
use Rattle.rv_asm.specs.Items.{target_of}
use Rattle.rv_asm.specs.Forms.{size_of, label_place, target_place, forms_of, Reaches}

-- the condition that holds where this one does not
abbrev pub opposite : BranchOp → BranchOp
opposite Beq = Bne
opposite Bne = Beq
opposite Blt = Bge
opposite Bge = Blt
opposite Bltu = Bgeu
opposite Bgeu = Bltu

-- from place p to place t, in bytes, in two's complement of so many bits, at most 32, where p is below 2 ^ 30
abbrev pub offset : ℕ → ℕ → ℕ → ℕ
offset bits p t = (2 ^ 32 + 4 * t - 4 * p) % 2 ^ bits

-- JAL; or AUIPC, which rounds to the nearest multiple of 4096, and JALR for the rest
abbrev pub jump_instrs : Form → ℕ → ℕ → ℕ → List Instr
jump_instrs Short rd p t = instr.Jal rd (offset 21 p t) ∷ []
jump_instrs Near rd p t = instr.Jal rd (offset 21 p t) ∷ []
jump_instrs Far rd p t =
    instr.Auipc 31 ((offset 32 p t + 2 ^ 11) / 2 ^ 12 % 2 ^ 20) ∷ instr.Jalr rd 31 (offset 32 p t % 2 ^ 12) ∷ []

abbrev pub branch_instrs : Form → BranchOp → ℕ → ℕ → ℕ → ℕ → List Instr
branch_instrs Short op a b p t = instr.Branch op a b (offset 13 p t) ∷ []
branch_instrs Near op a b p t = instr.Branch (opposite op) a b 8 ∷ jump_instrs Near zero_register (p + 1) t
branch_instrs Far op a b p t = instr.Branch (opposite op) a b 12 ∷ jump_instrs Far zero_register (p + 1) t

-- the instructions of an item at place p whose label is at place t
abbrev pub instrs_of : Form → ℕ → ℕ → Item → List Instr
instrs_of f p t (item.Label _) = []
instrs_of f p t (item.Instr i) = i ∷ []
instrs_of f p t (item.Jump _) = jump_instrs f zero_register p t
instrs_of f p t (item.Call _) = jump_instrs f ra p t
instrs_of f p t (item.Branch op a b _) = branch_instrs f op a b p t

-- the words of items from place p on
abbrev pub words_from : (ℕ → ℕ) → ℕ → List Form → List Item → List ℕ
words_from places p [] items = []
words_from places p (f ∷ fs) [] = []
words_from places p (f ∷ fs) (i ∷ is) =
    map word_of (instrs_of f p (target_place places i) i) ++ words_from places (p + size_of f i) fs is

-- the words of a labelled list
unfoldable pub words_of : List Item → List ℕ
words_of items = words_from (label_place (forms_of items) items 0) 0 (forms_of items) items

-- these instructions' words stand from place p on
abbrev pub HasWords : List ℕ → ℕ → List Instr → Type 0
HasWords ws p [] = Unit {0}
HasWords ws p (i ∷ is) = (slice_get ws p ≡ Some (word_of i)) × HasWords ws (p + 1) is

-- item d is the label that an item goes to, if it goes to one
abbrev pub IsMetAt : List Item → Option ℕ → ℕ → Type 0
IsMetAt items None d = Unit {0}
IsMetAt items (Some l) d = slice_get items d ≡ Some (item.Label l)

-- the items stand one behind the other, each with its instructions, in a form that reaches the place of its label
pub record Assembled (items : List Item) (ws : List ℕ) : Type 0 where
  pub form : ℕ → Form
  pub place : ℕ → ℕ
  pub first : place 0 ≡ 0
  pub next : (k : ℕ) (i : Item) → slice_get items k ≡ Some i → place (suc k) ≡ place k + size_of (form k) i
  pub last : place (length items) ≡ length ws
  pub words : (k d : ℕ) (i : Item) → slice_get items k ≡ Some i → IsMetAt items (target_of i) d
      → HasWords ws (place k) (instrs_of (form k) (place k) (place d) i)
  pub reach : (k d l : ℕ) (i : Item) → slice_get items k ≡ Some i → target_of i ≡ Some l
      → slice_get items d ≡ Some (item.Label l)
      → Reaches (form k) (place k) (place d)
