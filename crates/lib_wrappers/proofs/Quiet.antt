-- Lists of instructions that take no input and put no output.
use Rattle.std.proofs.Common.{◌≡◌, ℕ, ◌+◌, List, [], ◌∷◌, ◌++◌, length, Bool, true, false, ◌||◌, refl, sym, ap, ◌∙◌}
use Rattle.std.proofs.Common.{subst}
use Rattle.rv_isa.specs.declared.instruction.BranchOp.{BranchOp}
use Rattle.rv_isa.specs.declared.instruction.BranchOp.TheVariants.{Beq}
use Rattle.flat_code.specs.declared.instruction.RightOperand.{RightOperand}
use Rattle.flat_code.specs.declared.instruction.RightOperand.TheVariants.{Number}
use Rattle.flat_code.specs.declared.instruction.FlatInstruction.{FlatInstruction}
use Rattle.flat_code.specs.declared.instruction.FlatInstruction.TheVariants.{JumpBack}
use Rattle.flat_code.specs.declared.registers.Held.{Held}
use Rattle.flat_code.specs.Routines.InputOutput.{does_input_output, has_input_output, IsWithoutInputOutput}
use Rattle.flat_code.specs.Routines.Routine.{until_code}
use Rattle.flat_code.proofs.Routines.InputOutput.{computes}
use Rattle.lib_wrappers.specs.MovingRoutines.Copying.{bump}
use Rattle.lib_wrappers.specs.MovingRoutines.Tagged.{move_words}
use Rattle.lib_wrappers.specs.AreaRoutines.Loops.{stride, word_loop, entry_behind, load_entry, store_entry}
use Rattle.lib_wrappers.specs.AreaRoutines.Zeroing.{zero_area_code}
use Rattle.lib_wrappers.specs.AreaRoutines.Taking.{take_entries}
use Rattle.lib_wrappers.specs.AreaRoutines.Putting.{put_entries}

none_of : (x y : Bool) → (x || y) ≡ false → (x ≡ false) × (y ≡ false)
none_of false y e = (refl, e)
none_of true y e = absurd cc

neither : (x y : Bool) → x ≡ false → y ≡ false → (x || y) ≡ false
neither x y e f = ap (λ b. b || y) e ∙ f

pub joined_quiet : (xs ys : List FlatInstruction) → IsWithoutInputOutput xs → IsWithoutInputOutput ys
    → IsWithoutInputOutput (xs ++ ys)
joined_quiet [] ys h k = k
joined_quiet (x ∷ xs) ys h k =
    let p = none_of (does_input_output x) (has_input_output xs) h.none in
    let rest = joined_quiet xs ys (record { none = p.1 }) k in
    record { none = neither (does_input_output x) (has_input_output (xs ++ ys)) p.0 rest.none }

pub same_quiet : {r x : List FlatInstruction} → r ≡ x → IsWithoutInputOutput x → IsWithoutInputOutput r
same_quiet e h = subst IsWithoutInputOutput (sym e) h

-- turns of a body that does not
until_quiet : (op : BranchOp) (left : ℕ) (right : RightOperand) (body : List FlatInstruction)
    → IsWithoutInputOutput body → IsWithoutInputOutput (until_code op left right body)
until_quiet op x y body h =
    let back = JumpBack (length body + 1) ∷ [] in
    computes (until_code op x y body) (joined_quiet body back h (computes back refl)).none

word_loop_quiet : (t : ℕ) (body : List FlatInstruction) → IsWithoutInputOutput body
    → IsWithoutInputOutput (word_loop t body)
word_loop_quiet t body h =
    until_quiet Beq t (Number 0) (body ++ stride t) (joined_quiet body (stride t) h (computes (stride t) refl))

-- ---- what stands before the lists of a form computes

pub move_words_quiet : (to from bytes t : ℕ) (body : List FlatInstruction) → IsWithoutInputOutput body
    → IsWithoutInputOutput (move_words to from bytes t body)
move_words_quiet to from bytes t body h =
    let loop = until_quiet Beq t (Number 0) (body ++ bump t) (joined_quiet body (bump t) h (computes (bump t) refl)) in
    computes (move_words to from bytes t body) loop.none

pub take_quiet : (read move : List FlatInstruction) (to from bytes t : ℕ) → IsWithoutInputOutput read
    → IsWithoutInputOutput move
    → IsWithoutInputOutput ((zero_area_code to bytes t ++ move) ++ take_entries read to from bytes t)
take_quiet read move to from bytes t h k =
    let stores = store_entry (t + 2) (entry_behind t) in
    let loop = word_loop_quiet t (read ++ stores) (joined_quiet read stores h (computes stores refl)) in
    joined_quiet (zero_area_code to bytes t ++ move) (take_entries read to from bytes t)
    (computes (zero_area_code to bytes t ++ move) k.none) (computes (take_entries read to from bytes t) loop.none)

pub put_quiet : (write move : List FlatInstruction) (to : ℕ) (part : Held) (bytes t : ℕ) → IsWithoutInputOutput write
    → IsWithoutInputOutput move → IsWithoutInputOutput (move ++ put_entries write to part bytes t)
put_quiet write move to part bytes t h k =
    let loads = load_entry (t + 2) (entry_behind t) in
    let loop = word_loop_quiet t (loads ++ write) (computes (loads ++ write) h.none) in
    joined_quiet move (put_entries write to part bytes t) k (computes (put_entries write to part bytes t) loop.none)
