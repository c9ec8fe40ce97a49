-- What code without jumps does, and when it may.
use Rattle.std.specs.Prelude.{◌≡◌, ℕ, ◌+◌, ◌%◌, List, [], ◌∷◌, ◌++◌, true, not, ◌&&◌, if◌then◌else◌, slice_get}
use Rattle.words.specs.TwosComplement.{low_bits}
use Rattle.behaviours.specs.Shown.{Access, AccessKind, Read, Write}
use Rattle.rv_isa.specs.Results.{wrap, low_word, reg_result, reg32_result, load_bytes, extended, store_bytes}
use Rattle.flat_code.specs.declared.instruction.FlatInstruction.{FlatInstruction}
use Rattle.flat_code.specs.declared.instruction.FlatInstruction.TheVariants.{Constant, Move, Operate, Operate32}
use Rattle.flat_code.specs.declared.instruction.FlatInstruction.TheVariants.{Load, Store, Turn, Get, Put, Charged}
use Rattle.flat_code.specs.Memory.{load, store}
use Rattle.flat_code.specs.Spaces.{is_of_objects, is_allowed}
use Rattle.flat_code.specs.State.{State}
use Rattle.flat_code.specs.Meaning.{Context, right_value, with_register, address_in, received}
use Rattle.flat_code.specs.Routines.Local.{counted}

-- the accesses with one more, if it is of object space and by a function of the program
abbrev pub with_shown : Context → (address size : ℕ) → AccessKind → List Access → List Access
with_shown c a n kind accesses =
    if not c.is_runtime && is_of_objects c.sizes a n
    then accesses ++ record { address = a; size = n; kind = kind } ∷ []
    else accesses

-- the state with the weight of an instruction counted
abbrev pub worked : Context → State → State
worked c s = record s { work = s.work + c.weight }

-- the state after an instruction that goes on to the next
abbrev pub effect : Context → FlatInstruction → State → State
effect c (Constant x n) s = with_register x (low_bits 64 n) (worked c s)
effect c (Move x y) s = with_register x (s.values y) (worked c s)
effect c (Operate op x y z) s = with_register x (reg_result op (s.values y) (right_value z s.values)) (worked c s)
effect c (Operate32 op x y z) s =
    with_register x (reg32_result op (low_word (s.values y)) (low_word (right_value z s.values))) (worked c s)
effect c (Load op x y offset) s =
    with_register x (extended op (load (load_bytes op) s.memory (address_in s y offset)))
    (record (worked c s) { accesses = with_shown c (address_in s y offset) (load_bytes op) Read s.accesses })
effect c (Store op y offset x) s =
    record (worked c s) {
      memory = store (store_bytes op) s.memory (address_in s y offset) (s.values x);
      accesses = with_shown c (address_in s y offset) (store_bytes op) Write s.accesses;
    }
effect c Turn s = record (worked c s) { turns = s.turns + 1 }
effect c (Get x) s = received x (slice_get s.input 0) (counted c (Get x) s)
effect c (Put x) s = record (counted c (Put x) s) { output = s.output ++ s.values x % 256 ∷ [] }
effect c (Charged x) s = with_register x (wrap c.charge) (worked c s)
effect c _ s = s

-- whether it does, and touches no byte that may not be used
abbrev pub IsAllowed : Context → FlatInstruction → State → Type 0
IsAllowed c (Constant x n) s = Unit {0}
IsAllowed c (Move x y) s = Unit {0}
IsAllowed c (Operate op x y z) s = Unit {0}
IsAllowed c (Operate32 op x y z) s = Unit {0}
IsAllowed c (Load op x y offset) s = is_allowed c.sizes (address_in s y offset) (load_bytes op) ≡ true
IsAllowed c (Store op y offset x) s = is_allowed c.sizes (address_in s y offset) (store_bytes op) ≡ true
IsAllowed c Turn s = Unit {0}
IsAllowed c (Get x) s = Unit {0}
IsAllowed c (Put x) s = Unit {0}
IsAllowed c (Charged x) s = Unit {0}
IsAllowed c _ s = ⊥

-- the same of instructions one after another
abbrev pub effects : Context → List FlatInstruction → State → State
effects c [] s = s
effects c (i ∷ is) s = effects c is (effect c i s)

abbrev pub AreAllowed : Context → List FlatInstruction → State → Type 0
AreAllowed c [] s = Unit {0}
AreAllowed c (i ∷ is) s = IsAllowed c i s × AreAllowed c is (effect c i s)
