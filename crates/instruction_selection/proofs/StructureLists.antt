-- Lists of which one is run: how long they are, and what stands behind them.
use Rattle.std.proofs.Common.{◌≡◌, ℕ, ◌+◌, ◌^◌, ◌<◌, Bool, List, [], ◌∷◌, ◌++◌, length, length-append}
use Rattle.std.proofs.Common.{ap, ◌∙◌, arith, append_assoc}
use Rattle.rv_isa.specs.declared.instruction.BranchOp.TheVariants.{Bne}
use Rattle.addr_map.specs.Places.{MapSizes}
use Rattle.tac_ir.specs.declared.function.CodeFunction.{CodeFunction}
use Rattle.tac_ir.specs.declared.function.Tac.{Tac}
use Rattle.flat_code.specs.declared.instruction.FlatInstruction.{FlatInstruction}
use Rattle.flat_code.specs.declared.instruction.FlatInstruction.TheVariants.{Branch, Call, JumpForward}
use Rattle.flat_code.specs.declared.instruction.RightOperand.TheVariants.{Number}
use Rattle.flat_operators.specs.Operators.{constant_code}
use Rattle.flat_operators.proofs.Operators.{length_constant}
use Rattle.metadata_plan.specs.OperatorLists.Operators.{operators}
use Rattle.runtime_functions.specs.Library.{held_from}
use Rattle.metadata_relation.specs.Structures.{begin_area_code, copy_code, hold_area, move_part, part_call_code}
use Rattle.metadata_relation.specs.Structures.{take_part_code, take_place_code, take_structure_code}
use Rattle.instruction_selection.specs.Structures.{either_code}
use Rattle.instruction_selection.proofs.Lists.{three_behind}

pub part_short : (f size a s : ℕ) (list : List FlatInstruction) → list ≡ part_call_code operators f size a s
    → length list < 2 ^ 31
part_short f size a s list e =
    let counted = length-append (constant_code (s + 1) size) (move_part (s + 2) a ++ (Call f s (s + 7) ∷ [])) in
    let few = length_constant (s + 1) size in
    let same = ap (λ is. length is) e in
    omega (arith, counted, few, same)

pub copy_short : (number : ℕ → ℕ) (a size s : ℕ) (list : List FlatInstruction)
    → list ≡ copy_code operators number a size s → length list < 2 ^ 31
copy_short number a size s list e =
    let counted = length-append (constant_code (s + 2) size) (Call (number 24) s (s + 3) ∷ []) in
    let few = length_constant (s + 2) size in
    let same = ap (λ is. length is) e in
    omega (arith, counted, few, same)

pub place_short : (number : ℕ → ℕ) (size a s : ℕ) (list : List FlatInstruction)
    → list ≡ take_place_code operators number size a s → length list < 2 ^ 31
place_short number size a s list e =
    let counted = length-append (constant_code (s + 2) size) (Call (number 27) s (s + 7) ∷ []) in
    let few = length_constant (s + 2) size in
    let same = ap (λ is. length is) e in
    omega (arith, counted, few, same)

-- lists that are those of two others
pub either_put : (r q : ℕ) (before xs ys : List FlatInstruction) {first second after : List FlatInstruction} → q ≡ r
    → first ≡ xs → second ≡ ys → after ≡ before ++ either_code q first second
    → after ≡ before ++ either_code r xs ys
either_put r q before xs ys {first} {second} {after} same e f put =
    put
    ∙ (ap (λ n. before ++ either_code n first second) same
    ∙ (ap (λ is. before ++ either_code r is second) e ∙ ap (λ is. before ++ either_code r xs is) f))

-- a list that is put behind nothing
pub behind_nothing : (before xs : List FlatInstruction) {after : List FlatInstruction} → before ≡ [] → after ≡ before ++ xs
    → after ≡ xs
behind_nothing before xs none put = put ∙ ap (λ is. is ++ xs) none

-- what stands behind both of two lists stands behind the second
either_behind : (r : ℕ) (xs ys rest : List FlatInstruction)
    → either_code r xs ys ++ rest ≡ Branch Bne r (Number 0) (length xs + 1) ∷ (xs ++ (JumpForward (length ys) ∷ (ys ++ rest)))
either_behind r xs ys rest =
    ap (λ is. Branch Bne r (Number 0) (length xs + 1) ∷ is) (append_assoc xs (JumpForward (length ys) ∷ ys) rest)

pub taken_list : (m : MapSizes) (t : Tac) (c : CodeFunction) (number : ℕ → ℕ) (b : Bool) (size i d a s : ℕ)
    (before : List FlatInstruction) {n k l : List FlatInstruction}
    → n ≡ before ++ begin_area_code operators m t c size i s
    → k ≡ n ++ either_code (held_from a).tag.lock (take_part_code operators number size a (s + 2))
    (take_place_code operators number size a (s + 2))
    → l ≡ k ++ hold_area b d s (s + 1)
    → l ≡ before ++ take_structure_code operators m t c number b size i d a s
taken_list m t c number b size i d a s before e f g =
    let part = take_part_code operators number size a (s + 2) in
    let place = take_place_code operators number size a (s + 2) in
    three_behind before (begin_area_code operators m t c size i s) (either_code (held_from a).tag.lock part place)
    (hold_area b d s (s + 1)) e f g
    ∙ ap (λ is. before ++ (begin_area_code operators m t c size i s ++ is))
    (either_behind (held_from a).tag.lock part place (hold_area b d s (s + 1)))
