-- `malloc` and `calloc` in flat code.
use Rattle.std.specs.Prelude.{◌≡◌, ℕ, ◌+◌, ◌*◌, List, [], ◌∷◌, ◌++◌}
use Rattle.sb_base.specs.declared.ending.Ending.TheVariants.{Keys as KeysSpent}
use Rattle.rv_isa.specs.declared.instruction.BranchOp.TheVariants.{Beq, Bne}
use Rattle.rv_isa.specs.declared.instruction.RegOp.TheVariants.{Add, Sltu, Mul, Mulhu}
use Rattle.rv_isa.specs.declared.instruction.LoadOp.TheVariants.{Ld}
use Rattle.addr_map.specs.declared.region.Region.TheVariants.{FreeLocks}
use Rattle.addr_map.specs.Places.{MapSizes, region_start}
use Rattle.source_meaning.specs.State.{State as Source, Setting}
use Rattle.source_meaning.specs.Heap.{allocate, malloc, calloc}
use Rattle.source_meaning.specs.Library.{argument}
use Rattle.flat_code.specs.declared.instruction.RightOperand.TheVariants.{Register, Number}
use Rattle.flat_code.specs.declared.instruction.FlatInstruction.{FlatInstruction}
use Rattle.flat_code.specs.declared.instruction.FlatInstruction.TheVariants.{Constant, Move, Operate, Load, Branch}
use Rattle.flat_code.specs.declared.instruction.FlatInstruction.TheVariants.{End}
use Rattle.flat_code.specs.Memory.{Bytes}
use Rattle.flat_code.specs.declared.registers.Held.{Held}
use Rattle.flat_code.specs.Routines.Routine.{Does, unless_code}
use Rattle.flat_code.specs.Routines.Metadata.{View}
use Rattle.flat_code.specs.Routines.Objects.StandsFor.{Keys}
use Rattle.flat_operators.specs.Operators.{wide_code}
use Rattle.flat_actions.specs.Actions.{IsFor, Word, Pointer, Leaves, IsActionIn, views_of, context_in, work_of}
use Rattle.flat_actions.specs.Actions.{runtime_basis}
use Rattle.lib_wrappers.specs.AllocatingRoutines.Premises.{AreStanding}

-- A block of as many bytes as a register holds is allocated, or null given: from every state that stands for one of the
-- source, under every setting with these sizes, within 60 steps and 20 for each unit of work.
abbrev pub IsAllocateRoutine : MapSizes → View → (Bytes → Type 0) → (size : ℕ) → (into : Held) → (line scratch : ℕ)
    → List FlatInstruction → Type 0
IsAllocateRoutine map entry IsGood size into line t r =
    (set : Setting) → set.sizes ≡ map
    → (functions : ℕ) (types : ℕ → ℕ) (k : Keys) (x : Source) (z charge weight : ℕ) →
    let g = views_of map functions types entry in
    Does (context_in (runtime_basis map entry IsGood) charge weight) r
    (λ s. IsFor g k IsGood x s × (s.values size ≡ z) × AreStanding map x)
    (λ s. 60 + 20 * work_of (allocate set z line) x)
    (λ s. Leaves g k IsGood (Pointer into) t x s (allocate set z line x))

-- `malloc`, under every setting with these sizes, within 60 steps and 20 for each unit of work
abbrev pub IsMallocRoutine : MapSizes → View → (Bytes → Type 0) → (size : ℕ) → (into : Held) → (line scratch : ℕ)
    → List FlatInstruction → Type 0
IsMallocRoutine map entry IsGood size into line t r =
    (g : Setting) → g.sizes ≡ map
    → IsActionIn (runtime_basis map entry IsGood) (λ x vs. AreStanding map x) (λ vs. malloc g (argument 0 vs) line)
    (Word size ∷ []) (Pointer into) t 60 20 r

-- ---- its instructions

-- whether a key is left, and the next key; the budget of keys is a number that no instruction has
abbrev pub keys_code : MapSizes → (left key : ℕ) → List FlatInstruction
keys_code map left key =
    Constant key (region_start map FreeLocks)
    ∷ Load Ld key key 0
    ∷ (wide_code left map.budgets.keys
    ++ Operate Sltu left key (Register left) ∷ Operate Add key key (Number 2) ∷ [])

-- a pointer with an address and no tag: null, where no place was found
abbrev pub untagged : (address : ℕ) → Held → List FlatInstruction
untagged p h =
    Move h.value p
    ∷ Constant h.tag.base 0
    ∷ Constant h.tag.bound 0
    ∷ Constant h.tag.key 0
    ∷ Constant h.tag.lock 0
    ∷ []

-- the run ends where no key is left
abbrev pub key_test : (left line : ℕ) → List FlatInstruction
key_test left line = Branch Bne left (Number 0) 1 ∷ End (KeysSpent line) ∷ []

-- the bounds of a whole object
abbrev pub whole_bounds : (address size : ℕ) → Held → List FlatInstruction
whole_bounds p size h = Move h.tag.base p ∷ Operate Add h.tag.bound p (Register size) ∷ []

-- what is done where a place was found
abbrev pub make_code : (fresh zero : List FlatInstruction) → (size : ℕ) → (into : Held)
    → (line left address : ℕ) → List FlatInstruction
make_code fresh zero size into line left p =
    key_test left line ++ (fresh ++ (zero ++ whole_bounds p size into))

-- over the routines that place a block, take a key and make a range zero
abbrev pub malloc_code : MapSizes → (place fresh zero : List FlatInstruction) → (size : ℕ) → (into : Held)
    → (line left key address : ℕ) → List FlatInstruction
malloc_code map place fresh zero size into line left key p =
    keys_code map left key
    ++ (place ++ (untagged p into ++ unless_code Beq p (Number 0) (make_code fresh zero size into line left p)))

-- ---- `calloc`

-- within 70 steps and 20 for each unit of work
abbrev pub IsCallocRoutine : MapSizes → View → (Bytes → Type 0) → (count size : ℕ) → (into : Held) → (line scratch : ℕ)
    → List FlatInstruction → Type 0
IsCallocRoutine map entry IsGood count size into line t r =
    (g : Setting) → g.sizes ≡ map
    → IsActionIn (runtime_basis map entry IsGood) (λ x vs. AreStanding map x)
    (λ vs. calloc g (argument 0 vs) (argument 1 vs) line) (Word count ∷ Word size ∷ []) (Pointer into) t 70 20 r

-- the upper and the lower half of a product
abbrev pub product_code : (count size upper lower : ℕ) → List FlatInstruction
product_code count size u z =
    Operate Mulhu u count (Register size) ∷ Operate Mul z count (Register size) ∷ []

abbrev pub null_code : Held → List FlatInstruction
null_code h =
    Constant h.value 0
    ∷ Constant h.tag.base 0
    ∷ Constant h.tag.bound 0
    ∷ Constant h.tag.key 0
    ∷ Constant h.tag.lock 0
    ∷ []

-- a block of that size, unless the product has an upper half
abbrev pub calloc_code : (allocate : List FlatInstruction) → (count size : ℕ) → (into : Held) → (upper lower : ℕ)
    → List FlatInstruction
calloc_code allocate count size into u z =
    product_code count size u z ++ (null_code into ++ unless_code Bne u (Number 0) allocate)
