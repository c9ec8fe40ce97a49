-- The words of an assembled function fit 32 bits.
use Rattle.std.proofs.Common.{ℕ, zero, suc, ◌+◌, ◌<◌, List, [], ◌∷◌, ◌++◌, length, map}
use Rattle.std.proofs.Common.{arith}
use Rattle.addr_map.specs.Places.{MapSizes}
use Rattle.rv_isa.specs.declared.instruction.Instr.{Instr}
use Rattle.rv_isa.specs.Table.{word_of, IsOfTable}
use Rattle.rv_asm.specs.declared.form.Form.{Form}
use Rattle.rv_asm.specs.declared.form.Form.TheVariants.{Short, Near, Far}
use Rattle.rv_asm.specs.declared.item.Item.{Item}
use Rattle.rv_asm.specs.declared.item.Item.TheVariants as item
use Rattle.rv_asm.specs.Forms.{size_of, label_place, target_place, forms_of}
use Rattle.rv_asm.specs.Words.{jump_instrs, instrs_of, words_from, words_of}
use Rattle.flat_code.specs.declared.instruction.FlatInstruction.{FlatInstruction}
use Rattle.flat_code.specs.declared.instruction.FlatInstruction.TheVariants as flat
use Rattle.flat_code.specs.declared.function.FlatProgram.{FlatProgram}
use Rattle.flat_code.specs.Calls.{function_in}
use Rattle.flat_code.specs.Meaning.{body_of, parameters_of}
use Rattle.reg_plan.specs.declared.plan.FunctionPlan.{FunctionPlan}
use Rattle.machine_laws.specs.Calls.Calls.{Keeping, entry_block}
use Rattle.machine_laws.specs.Following.Code.{keeping, block}
use Rattle.machine_laws.specs.Layout.Lists.{plain, tail_of, items_from, items_of, AreWords32}
use Rattle.machine_laws.proofs.CodeLayout.Table.{AllOfTable, HasFields, entry_fits, keeping_fits, block_fits}
use Rattle.machine_laws.proofs.CodeLayout.Table.{used_field}
use Rattle.machine_laws.proofs.CodeLayout.Table.{used_right_field}
use Rattle.machine_laws.proofs.CodeLayout.Placed.{branches_fit}
use Rattle.machine_laws.proofs.Segments.Small.{words_small, both_small}

-- the registers and the instruction of an item fit their fields
abbrev IsOfFields : Item → Type 0
IsOfFields (item.Label l) = Unit {0}
IsOfFields (item.Instr i) = IsOfTable i
IsOfFields (item.Jump l) = Unit {0}
IsOfFields (item.Call l) = Unit {0}
IsOfFields (item.Branch op a b l) = (a < 32) × (b < 32)

abbrev AllOfFields : List Item → Type 0
AllOfFields [] = Unit {0}
AllOfFields (i ∷ is) = IsOfFields i × AllOfFields is

both : (is js : List Item) → AllOfFields is → AllOfFields js → AllOfFields (is ++ js)
both [] js h k = k
both (i ∷ is) js h k = (h.0, both is js h.1 k)

plain_fields : (is : List Instr) → AllOfTable is → AllOfFields (plain is)
plain_fields [] h = tt
plain_fields (i ∷ is) h = (h.0, plain_fields is h.1)

tail_fields : (k : Keeping) (n pc : ℕ) (i : FlatInstruction) → HasFields k → AllOfFields (tail_of k n pc i)
tail_fields k n pc (flat.Branch op y z past) h = ((used_field k y h, used_right_field k z h), tt)
tail_fields k n pc (flat.JumpForward zero) h = tt
tail_fields k n pc (flat.JumpForward (suc past)) h = (tt, tt)
tail_fields k n pc (flat.JumpBack back) h = (tt, tt)
tail_fields k n pc (flat.Constant x v) h = tt
tail_fields k n pc (flat.Move x y) h = tt
tail_fields k n pc (flat.Operate op x y z) h = tt
tail_fields k n pc (flat.Operate32 op x y z) h = tt
tail_fields k n pc (flat.Load op x y o) h = tt
tail_fields k n pc (flat.Store op y o x) h = tt
tail_fields k n pc flat.Turn h = tt
tail_fields k n pc (flat.Call to first x) h = tt
tail_fields k n pc (flat.CallAddress y first c x r) h = tt
tail_fields k n pc (flat.Return y) h = tt
tail_fields k n pc (flat.Get x) h = tt
tail_fields k n pc (flat.Put x) h = tt
tail_fields k n pc (flat.Exit x) h = tt
tail_fields k n pc (flat.End e) h = tt
tail_fields k n pc (flat.Charged x) h = tt

module _ (m : MapSizes) (p : FlatProgram) (plans : List FunctionPlan) (f : ℕ) where
  from_fields : (n pc : ℕ) (is : List FlatInstruction) → AllOfFields (items_from m p plans f n pc is)
  from_fields n pc [] = (tt, (tt, tt))
  from_fields n pc (i ∷ is) = (
    tt,
    both (plain (block m p plans f pc i) ++ tail_of (keeping p plans f) n pc i)
        (items_from m p plans f n (suc pc) is)
        (both (plain (block m p plans f pc i)) (tail_of (keeping p plans f) n pc i)
        (plain_fields (block m p plans f pc i) (block_fits m p plans f pc i))
        (tail_fields (keeping p plans f) n pc i (keeping_fits p plans f)))
        (from_fields n (suc pc) is),
  )

  items_fields : AllOfFields (items_of m p plans f)
  items_fields =
      let body = body_of (function_in p f) in
      let entry = entry_block (keeping p plans f) (parameters_of (function_in p f)) in
      both (plain entry) (items_from m p plans f (length body) 0 body)
      (plain_fields entry (entry_fits (keeping p plans f) (parameters_of (function_in p f)) (keeping_fits p plans f)))
      (from_fields (length body) 0 body)

jumps_fit : (form : Form) (link p t : ℕ) → link < 32 → AllOfTable (jump_instrs form link p t)
jumps_fit Short link p t h = ((h, omega arith, omega arith), tt)
jumps_fit Near link p t h = ((h, omega arith, omega arith), tt)
jumps_fit Far link p t h = ((omega arith, omega arith), ((h, omega arith, omega arith), tt))

instrs_fit : (form : Form) (p t : ℕ) (i : Item) → IsOfFields i → AllOfTable (instrs_of form p t i)
instrs_fit form p t (item.Label l) h = tt
instrs_fit form p t (item.Instr i) h = (h, tt)
instrs_fit form p t (item.Jump l) h = jumps_fit form 0 p t (omega arith)
instrs_fit form p t (item.Call l) h = jumps_fit form 1 p t (omega arith)
instrs_fit form p t (item.Branch op a b l) h = branches_fit form op a b p t h.0 h.1

from_small : (places : ℕ → ℕ) (p : ℕ) (forms : List Form) (items : List Item) → AllOfFields items
    → AreWords32 (words_from places p forms items)
from_small places p [] items h k w e = cc
from_small places p (f ∷ fs) [] h k w e = cc
from_small places p (f ∷ fs) (i ∷ is) h k w e =
    both_small (map word_of (instrs_of f p (target_place places i) i)) (words_from places (p + size_of f i) fs is)
    (words_small (instrs_of f p (target_place places i) i) (instrs_fit f p (target_place places i) i h.0))
    (from_small places (p + size_of f i) fs is h.1) k w e

pub function_small : (m : MapSizes) (p : FlatProgram) (plans : List FunctionPlan) (f : ℕ)
    → AreWords32 (words_of (items_of m p plans f))
unfolding words_of
function_small m p plans f =
    let items = items_of m p plans f in
    from_small (label_place (forms_of items) items 0) 0 (forms_of items) items (items_fields m p plans f)
