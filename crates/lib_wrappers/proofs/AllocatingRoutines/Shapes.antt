-- What the routines on objects are made of.
use Rattle.std.proofs.Common.{◌≡◌, ℕ, ◌+◌, ◌/◌, ◌%◌, ◌^◌, ◌<◌, ◌≤◌, List, [], ◌∷◌, ◌++◌, refl, arith}
use Rattle.rv_isa.specs.declared.instruction.BranchOp.TheVariants.{Beq, Bne}
use Rattle.addr_map.specs.declared.region.Region.TheVariants.{Heap, FreeLocks}
use Rattle.addr_map.specs.Places.{MapSizes, AreMapped}
use Rattle.flat_code.specs.declared.instruction.RightOperand.TheVariants.{Number}
use Rattle.flat_code.specs.declared.instruction.FlatInstruction.{FlatInstruction}
use Rattle.flat_code.specs.declared.registers.Held.{Held}
use Rattle.flat_code.specs.Routines.Registers.{AreBelow}
use Rattle.flat_code.specs.Routines.Routine.{unless_code}
use Rattle.flat_code.specs.Routines.Metadata.{held_registers}
use Rattle.flat_code.specs.Routines.Shape.{HasShape}
use Rattle.flat_code.proofs.Routines.Distinct.{below_more}
use Rattle.flat_code.proofs.Routines.Shape.{shaped, both, short_below, start_short, piece, piece_behind, below_both}
use Rattle.flat_code.proofs.Routines.Shape.{shaped_append, shaped_registers, shaped_unless, up_to, at_most}
use Rattle.flat_actions.proofs.Shapes.{pointer_from}
use Rattle.flat_code.specs.Routines.InputOutput.{IsWithoutInputOutput}
use Rattle.flat_code.proofs.Routines.InputOutput.{computes}
use Rattle.lib_wrappers.proofs.Quiet.{joined_quiet}
use Rattle.lib_wrappers.specs.declared.allocating.entering.EntryRegisters.{EntryRegisters}
use Rattle.lib_wrappers.specs.AllocatingRoutines.Zeroing.{word_bytes, zero_bytes, zero_code}
use Rattle.lib_wrappers.specs.AllocatingRoutines.Allocating.{keys_code, untagged, key_test, whole_bounds, make_code}
use Rattle.lib_wrappers.specs.AllocatingRoutines.Allocating.{malloc_code, product_code, null_code, calloc_code}
use Rattle.lib_wrappers.specs.AllocatingRoutines.Freeing.{life_test, found_test, end_code, free_code}
use Rattle.lib_wrappers.specs.AllocatingRoutines.Reallocating.{tests_code, lesser_code, replace_code}
use Rattle.lib_wrappers.specs.AllocatingRoutines.Reallocating.{reallocating_code}
use Rattle.lib_wrappers.specs.AllocatingRoutines.Entering.{registers_in, round_code, room_code, room_test}
use Rattle.lib_wrappers.specs.AllocatingRoutines.Entering.{end_of_block, enter_code}

-- ---- a range made zero

pub zero_shape : (clear : List FlatInstruction) (first bytes t : ℕ) → AreBelow t (first ∷ bytes ∷ [])
    → HasShape clear 32 (t + 1 + 6) → HasShape (zero_code clear first bytes t (t + 1) (t + 2)) 48 (t + 7)
zero_shape clear first bytes t below h =
    let m = t + 7 in
    let args = first ∷ bytes ∷ [] in
    let own = t ∷ (t + 1) ∷ (t + 2) ∷ [] in
    let all : AreBelow m own = (omega arith, (omega arith, (omega arith, tt))) in
    let words = piece_behind t m args own (word_bytes 1 2) 2 (omega arith) below all refl refl in
    let zeros = piece_behind t m args own (zero_bytes 0 1 2 3 4) 12 (omega arith) below all refl refl in
    let last = zero_bytes first bytes t (t + 1) (t + 2) in
    at_most (2 + (32 + 12)) 48 (omega arith)
    (shaped_append (word_bytes bytes t) (clear ++ last) 2 (32 + 12) m words
    (shaped_append clear last 32 12 m (up_to (t + 1 + 6) m (omega arith) h) zeros))

-- ---- keys

keys_shape : (map : MapSizes) → AreMapped map → (left key m : ℕ) → left < m → key < m
    → HasShape (keys_code map left key) 9 m
keys_shape map mapped left key m l k =
    let n = map.budgets.keys in
    let some : n ≤ 2 ^ 62 = mapped.budgets.keys in
    shaped_registers m (left ∷ key ∷ []) (keys_code map 0 1) 9 (l, (k, tt))
    (shaped (keys_code map 0 1) 9 2 (omega arith)
    (both _ _ (start_short map mapped FreeLocks)
    (both _ _ (short_below (n / 2 ^ 40) (omega (arith, some)))
    (both _ _ (short_below (n / 2 ^ 20 % 2 ^ 20) (omega arith))
    (both _ _ (short_below (n % 2 ^ 20) (omega arith)) refl)))))

-- ---- blocks

make_shape : (fresh zero : List FlatInstruction) (size : ℕ) (into : Held) (line left p m : ℕ) → size < m → left < m
    → p < m → AreBelow m (held_registers into) → HasShape fresh 14 m → HasShape zero 48 m
    → HasShape (make_code fresh zero size into line left p) 66 m
make_shape fresh zero size into line left p m s l a res hf hz =
    let own = size ∷ left ∷ p ∷ held_registers into in
    let all : AreBelow m own = (s, (l, (a, res))) in
    let test = piece m own (key_test 1 line) 2 all refl refl in
    let bounds = piece m own (whole_bounds 2 0 (pointer_from 3)) 2 all refl refl in
    let last = whole_bounds p size into in
    at_most (2 + (14 + (48 + 2))) 66 (omega arith)
    (shaped_append (key_test left line) (fresh ++ (zero ++ last)) 2 (14 + (48 + 2)) m test
    (shaped_append fresh (zero ++ last) 14 (48 + 2) m hf (shaped_append zero last 48 2 m hz bounds)))

pub malloc_shape : (map : MapSizes) → AreMapped map → (place fresh zero : List FlatInstruction) (size : ℕ) (into : Held)
    (line t : ℕ) → AreBelow t (size ∷ held_registers into) → HasShape place 64 (t + 4 + 8) → HasShape fresh 14 (t + 4 + 2)
    → HasShape zero 48 (t + 4 + 7)
    → HasShape (malloc_code map place fresh zero size into line t (t + 1) (t + 2)) 160 (t + 12)
malloc_shape map mapped place fresh zero size into line t below hp hf hz =
    let m = t + 12 in
    let keys = keys_shape map mapped t (t + 1) m (omega arith) (omega arith) in
    let given = piece_behind t m (size ∷ held_registers into) ((t + 2) ∷ []) (untagged 6 (pointer_from 1)) 5 (omega arith) below
    (omega arith, tt) refl refl in
    let made = make_shape fresh zero size into line t (t + 2) m (let l = below.0 in omega arith) (omega arith) (omega arith)
    (below_more t m (held_registers into) (omega arith) below.1) (up_to (t + 4 + 2) m (omega arith) hf)
    (up_to (t + 4 + 7) m (omega arith) hz) in
    let make = make_code fresh zero size into line t (t + 2) in
    let branch = unless_code Beq (t + 2) (Number 0) make in
    at_most (9 + (64 + (5 + (66 + 1)))) 160 (omega arith)
    (shaped_append (keys_code map t (t + 1)) (place ++ (untagged (t + 2) into ++ branch)) 9 (64 + (5 + (66 + 1))) m keys
    (shaped_append place (untagged (t + 2) into ++ branch) 64 (5 + (66 + 1)) m (up_to (t + 4 + 8) m (omega arith) hp)
    (shaped_append (untagged (t + 2) into) branch 5 (66 + 1) m given
    (shaped_unless Beq (t + 2) (Number 0) make 66 m (omega arith) refl made))))

pub calloc_shape : (block : List FlatInstruction) (count size : ℕ) (into : Held) (t : ℕ)
    → AreBelow t (count ∷ size ∷ held_registers into) → HasShape block 160 (t + 2 + 12)
    → HasShape (calloc_code block count size into t (t + 1)) 176 (t + 14)
calloc_shape block count size into t below h =
    let m = t + 14 in
    let args = count ∷ size ∷ held_registers into in
    let own = t ∷ (t + 1) ∷ [] in
    let all : AreBelow m own = (omega arith, (omega arith, tt)) in
    let product = piece_behind t m args own (product_code 0 1 7 8) 2 (omega arith) below all refl refl in
    let null = piece_behind t m args own (null_code (pointer_from 2)) 5 (omega arith) below all refl refl in
    let branch = unless_code Bne t (Number 0) block in
    at_most (2 + (5 + (160 + 1))) 176 (omega arith)
    (shaped_append (product_code count size t (t + 1)) (null_code into ++ branch) 2 (5 + (160 + 1)) m product
    (shaped_append (null_code into) branch 5 (160 + 1) m null
    (shaped_unless Bne t (Number 0) block 160 m (omega arith) refl (up_to (t + 2 + 12) m (omega arith) h))))

-- the tests of a pointer that frees a block, with what is done between them
life_shape : (h : Held) (line x m : ℕ) → AreBelow m (held_registers h) → x < m → HasShape (life_test h line x) 5 m
life_shape h line x m below l =
    piece m (x ∷ held_registers h) (life_test (pointer_from 1) line 0) 5 (l, below) refl refl

found_shape : (found line m : ℕ) → found < m → HasShape (found_test found line) 2 m
found_shape found line m l = piece m (found ∷ []) (found_test 0 line) 2 (l, tt) refl refl

pub free_shape : (find unlist unlock : List FlatInstruction) (h : Held) (line t : ℕ) → AreBelow t (held_registers h)
    → HasShape find 16 (t + 4 + 3) → HasShape unlist 32 (t + 4 + 3) → HasShape unlock 11 (t + 4 + 3)
    → HasShape (free_code find unlist unlock h line t (t + 2)) 72 (t + 7)
free_shape find unlist unlock h line t below hf hl hk =
    let m = t + 7 in
    let own = below_more t m (held_registers h) (omega arith) below in
    let life = life_test h line t in
    let test = found_test (t + 2) line in
    at_most (5 + (16 + (2 + (32 + 11))) + 1) 72 (omega arith)
    (shaped_unless Beq h.value (Number 0) (end_code find unlist unlock h line t (t + 2)) (5 + (16 + (2 + (32 + 11)))) m own.0
    refl
    (shaped_append life (find ++ (test ++ (unlist ++ unlock))) 5 (16 + (2 + (32 + 11))) m
    (life_shape h line t m own (omega arith))
    (shaped_append find (test ++ (unlist ++ unlock)) 16 (2 + (32 + 11)) m (up_to (t + 4 + 3) m (omega arith) hf)
    (shaped_append test (unlist ++ unlock) 2 (32 + 11) m (found_shape (t + 2) line m (omega arith))
    (shaped_append unlist unlock 32 11 m (up_to (t + 4 + 3) m (omega arith) hl) (up_to (t + 4 + 3) m (omega arith) hk))))))

replace_shape : (move unlist unlock : List FlatInstruction) (size l m : ℕ) → size < m → l < m → HasShape move 128 m
    → HasShape unlist 32 m → HasShape unlock 11 m → HasShape (replace_code move unlist unlock size l) 173 m
replace_shape move unlist unlock size l m s k hm hl hk =
    let lesser = piece m (size ∷ l ∷ []) (lesser_code 0 1) 2 (s, (k, tt)) refl refl in
    at_most (2 + (128 + (32 + 11))) 173 (omega arith)
    (shaped_append (lesser_code size l) (move ++ (unlist ++ unlock)) 2 (128 + (32 + 11)) m lesser
    (shaped_append move (unlist ++ unlock) 128 (32 + 11) m hm (shaped_append unlist unlock 32 11 m hl hk)))

tests_shape : (find : List FlatInstruction) (h : Held) (line x found m : ℕ) → AreBelow m (held_registers h) → x < m
    → found < m → HasShape find 16 m → HasShape (tests_code find h line x found) 23 m
tests_shape find h line x found m below l k hf =
    at_most (5 + (16 + 2)) 23 (omega arith)
    (shaped_append (life_test h line x) (find ++ found_test found line) 5 (16 + 2) m (life_shape h line x m below l)
    (shaped_append find (found_test found line) 16 2 m hf (found_shape found line m k)))

reallocating_shape : (find block replace : List FlatInstruction) (old into : Held) (line x found m : ℕ)
    → AreBelow m (held_registers old) → AreBelow m (held_registers into) → x < m → found < m → HasShape find 16 m
    → HasShape block 160 m → HasShape replace 173 m
    → HasShape (reallocating_code find block replace old into line x found) 384 m
reallocating_shape find block replace old into line x found m ho hi l k hf hb hr =
    let tests = tests_code find old line x found in
    let first = unless_code Beq old.value (Number 0) tests in
    let inner = unless_code Beq into.value (Number 0) replace in
    let last = unless_code Beq old.value (Number 0) inner in
    at_most (23 + 1 + (160 + (173 + 1 + 1))) 384 (omega arith)
    (shaped_append first (block ++ last) (23 + 1) (160 + (173 + 1 + 1)) m
    (shaped_unless Beq old.value (Number 0) tests 23 m ho.0 refl (tests_shape find old line x found m ho l k hf))
    (shaped_append block last 160 (173 + 1 + 1) m hb
    (shaped_unless Beq old.value (Number 0) inner (173 + 1) m ho.0 refl
    (shaped_unless Beq into.value (Number 0) replace 173 m hi.0 refl hr))))

pub realloc_shape : (find block move unlist unlock : List FlatInstruction) (old : Held) (size : ℕ) (into : Held) (line t : ℕ)
    → AreBelow t (held_registers old) → AreBelow t (size ∷ held_registers into) → HasShape find 16 (t + 4 + 3)
    → HasShape block 160 (t + 4 + 12) → HasShape move 128 (t + 4 + 14) → HasShape unlist 32 (t + 4 + 3)
    → HasShape unlock 11 (t + 4 + 3)
    → HasShape (reallocating_code find block (replace_code move unlist unlock size (t + 1)) old into line t (t + 2)) 384
    (t + 18)
realloc_shape find block move unlist unlock old size into line t ho below hf hb hm hl hk =
    let m = t + 18 in
    reallocating_shape find block (replace_code move unlist unlock size (t + 1)) old into line t (t + 2) m
    (below_more t m (held_registers old) (omega arith) ho) (below_more t m (held_registers into) (omega arith) below.1)
    (omega arith) (omega arith) (up_to (t + 4 + 3) m (omega arith) hf) (up_to (t + 4 + 12) m (omega arith) hb)
    (replace_shape move unlist unlock size (t + 1) m (let l = below.0 in omega arith) (omega arith)
    (up_to (t + 4 + 14) m (omega arith) hm) (up_to (t + 4 + 3) m (omega arith) hl) (up_to (t + 4 + 3) m (omega arith) hk))

-- ---- the objects of a block

abbrev handed : EntryRegisters
handed = record { first = 2; end = 3; key = 4; lock = 5 }

pub enter_shape : (map : MapSizes) → AreMapped map → (fresh zero : List FlatInstruction) (top bytes : ℕ)
    (to : EntryRegisters) (line t : ℕ) → AreBelow t (top ∷ bytes ∷ []) → AreBelow t (registers_in to)
    → HasShape fresh 14 (t + 4 + 2) → HasShape zero 48 (t + 4 + 7)
    → HasShape (enter_code map fresh zero top bytes to line t (t + 1)) 96 (t + 11)
enter_shape map mapped fresh zero top bytes to line t below res hf hz =
    let m = t + 11 in
    let args = (top ∷ bytes ∷ []) ++ registers_in to in
    let under = below_both t (top ∷ bytes ∷ []) (registers_in to) below res in
    let own = t ∷ [] in
    let all : AreBelow m own = (omega arith, tt) in
    let rounding = piece_behind t m args own (round_code 0 2) 3 (omega arith) under all refl refl in
    let rooms = shaped_registers m (args ++ own) (room_code map 2 6) 2
    (below_both m args own (below_more t m args (omega arith) under) all)
    (shaped (room_code map 2 6) 2 7 (omega arith) (both _ _ (start_short map mapped Heap) refl)) in
    let room = piece_behind t m args own (room_test 1 6 line) 2 (omega arith) under all refl refl in
    let keys = keys_shape map mapped t (t + 1) m (omega arith) (omega arith) in
    let test = piece m own (key_test 0 line) 2 all refl refl in
    let ends = piece_behind t m args own (end_of_block 2 1 3) 1 (omega arith) under all refl refl in
    let last = end_of_block to.first bytes to.end in
    let begin = round_code top to.first ++ room_code map to.first t in
    let tested = key_test t line ++ (fresh ++ (zero ++ last)) in
    at_most (3 + 2 + (2 + (9 + (2 + (14 + (48 + 1)))))) 96 (omega arith)
    (shaped_append begin (room_test bytes t line ++ (keys_code map t (t + 1) ++ tested)) (3 + 2)
    (2 + (9 + (2 + (14 + (48 + 1))))) m
    (shaped_append (round_code top to.first) (room_code map to.first t) 3 2 m rounding rooms)
    (shaped_append (room_test bytes t line) (keys_code map t (t + 1) ++ tested) 2 (9 + (2 + (14 + (48 + 1)))) m room
    (shaped_append (keys_code map t (t + 1)) tested 9 (2 + (14 + (48 + 1))) m keys
    (shaped_append (key_test t line) (fresh ++ (zero ++ last)) 2 (14 + (48 + 1)) m test
    (shaped_append fresh (zero ++ last) 14 (48 + 1) m (up_to (t + 4 + 2) m (omega arith) hf)
    (shaped_append zero last 48 1 m (up_to (t + 4 + 7) m (omega arith) hz) ends))))))

-- it takes no input and puts no output where its routines do not; what stands before them computes
pub enter_quiet : (map : MapSizes) (fresh zero : List FlatInstruction) (top bytes : ℕ) (to : EntryRegisters)
    (line left key : ℕ) → IsWithoutInputOutput fresh → IsWithoutInputOutput zero
    → IsWithoutInputOutput (enter_code map fresh zero top bytes to line left key)
enter_quiet map fresh zero top bytes to line left key f z =
    let last = end_of_block to.first bytes to.end in
    let rest = joined_quiet fresh (zero ++ last) f (joined_quiet zero last z (computes last refl)) in
    computes (enter_code map fresh zero top bytes to line left key) rest.none
