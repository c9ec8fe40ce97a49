-- Parts of blocks are of instructions that the machine has.
use Rattle.std.proofs.Common.{◌≡◌, inl, ℕ, ◌+◌, ◌-◌, ◌*◌, ◌^◌, ◌<◌, refl, arith, Bool, true, false, List, [], ◌∷◌, ◌++◌}
use Rattle.std.proofs.Common.{Some, None, nat_lt}
use Rattle.std.specs.Prelude.{◌==◌, if◌then◌else◌}
use Rattle.std.proofs.lemmas.Bool.{ltb-true}
use Rattle.addr_map.specs.declared.region.Region.TheVariants.{StructureValues}
use Rattle.addr_map.specs.Places.{MapSizes, region_start}
use Rattle.rv_isa.specs.declared.instruction.RegOp.{RegOp}
use Rattle.obj_memory.specs.declared.int_type.IntType.{IntType}
use Rattle.obj_memory.specs.declared.int_type.IntType.TheVariants.{UnsignedLong}
use Rattle.obj_memory.specs.declared.value.Scalar.{Scalar}
use Rattle.obj_memory.specs.declared.value.Scalar.TheVariants.{Integer, Pointer}
use Rattle.c_tree.specs.declared.expression.Update.{Update}
use Rattle.c_tree.specs.declared.expression.Update.TheVariants.{Arithmetic, Forward, Back}
use Rattle.tac_ir.specs.declared.instruction.RightOperand.{RightOperand as Right}
use Rattle.tac_ir.specs.declared.instruction.RightOperand.TheVariants.{Temporary, One}
use Rattle.tac_ir.specs.declared.function.CodeFunction.{CodeFunction}
use Rattle.tac_ir.specs.declared.function.Tac.{Tac}
use Rattle.tac_ir.specs.Structures.{structures_below}
use Rattle.flat_code.specs.declared.instruction.RightOperand.{RightOperand}
use Rattle.flat_code.specs.declared.instruction.RightOperand.TheVariants.{Register, Number}
use Rattle.flat_code.specs.declared.instruction.FlatInstruction.{FlatInstruction}
use Rattle.flat_code.specs.declared.instruction.FlatInstruction.TheVariants as flat
use Rattle.flat_code.specs.declared.registers.Held.{Held}
use Rattle.flat_code.specs.declared.registers.Entry.{Entry}
use Rattle.flat_operators.specs.Operators.{constant_code, conversion_code, binary_code, wide_code}
use Rattle.flat_operators.specs.Pointers.{shift_of, scaled_by, offset_code, difference_code}
use Rattle.flat_actions.specs.Narrowing.{narrow_code}
use Rattle.shadow_space.specs.Form.{EntryCode}
use Rattle.lib_wrappers.specs.declared.accesses.held.HeldScalar.{HeldScalar}
use Rattle.lib_wrappers.specs.declared.accesses.held.HeldScalar.TheVariants.{Integer as HeldInteger}
use Rattle.lib_wrappers.specs.declared.accesses.held.HeldScalar.TheVariants.{Pointer as HeldPointer}
use Rattle.lib_wrappers.specs.AccessRoutines.Accessing.{load_code, store_code}
use Rattle.lib_wrappers.specs.AreaRoutines.Areas.{whole_words}
use Rattle.lib_wrappers.specs.AreaRoutines.Reading.{read_part_code, read_pointer_code}
use Rattle.lib_wrappers.specs.AllocatingRoutines.Entering.{leave_code as leave_list}
use Rattle.runtime_functions.specs.declared.status.ReturnStatus.{ReturnStatus}
use Rattle.runtime_functions.specs.declared.status.ReturnStatus.TheVariants.{Completed}
use Rattle.runtime_functions.specs.Library.{Passed, NoValue, OneWord, WithEntry, held_from}
use Rattle.metadata_plan.specs.OperatorLists.Operators.{operators}
use Rattle.metadata_relation.specs.InlineLists.{inline_lists}
use Rattle.metadata_relation.specs.Blocks.{untagged, move_value, move_entry_if, entry_constants_if, number_code}
use Rattle.metadata_relation.specs.Blocks.{number_operand}
use Rattle.metadata_relation.specs.Blocks.{is_short, right_code, right_register, new_integer, new_address, write_top}
use Rattle.metadata_relation.specs.Blocks.{status_tests, status_code, pack, unpack, part_address, store_bytes}
use Rattle.metadata_relation.specs.Structures.{area_code, await_code, begin_area_code, bound_code, callee_part_code}
use Rattle.metadata_relation.specs.Structures.{copy_code, hold_area, store_structure_code}
use Rattle.metadata_relation.specs.Structures.{move_area_place, part_call_code, place_or_part, put_area_place, put_code}
use Rattle.metadata_relation.specs.Structures.{scalar_part_code}
use Rattle.metadata_relation.specs.Structures.{take_part_code, take_place_code, take_structure_code, zero_structure_code}
use Rattle.machine_laws.specs.Blocks.Blocks.{IsShort, RightIsShort}
use Rattle.image_laws.specs.Encoding.Fitting.{IsFit, AreFit, AreBytes, FitEntries, HasShortPlaces, moved_by}
use Rattle.image_laws.proofs.Images.Instructions as plain

pub fit_append : (is js : List FlatInstruction) → AreFit is → AreFit js → AreFit (is ++ js)
fit_append [] js a b = b
fit_append (i ∷ is) js a b = (a.0, fit_append is js a.1 b)

-- instructions without accesses
one_lifted : (i : FlatInstruction) → plain.IsFit i → IsFit i
one_lifted (flat.Load op x y offset) h = absurd h
one_lifted (flat.Store op y offset x) h = absurd h
one_lifted (flat.CallAddress y first n x r) h = absurd h
one_lifted (flat.Constant x n) h = h
one_lifted (flat.Operate op x y z) h = h
one_lifted (flat.Operate32 op x y z) h = h
one_lifted (flat.Branch op y z past) h = h
one_lifted (flat.End e) h = h
one_lifted _ h = tt

pub lifted : (is : List FlatInstruction) → plain.AreFit is → AreFit is
lifted [] h = tt
lifted (i ∷ is) h = (one_lifted i h.0, lifted is h.1)

pub constant_fit : (x w : ℕ) → w < 2 ^ 64 → AreFit (constant_code x w)
constant_fit x w low = lifted (constant_code x w) (plain.constant_fit x w low)

pub conversion_fit : (t : IntType) (x y : ℕ) → AreFit (conversion_code t x y)
conversion_fit t x y = lifted (conversion_code t x y) (plain.conversion_fit t x y)

pub short : (n : ℕ) → n < 2 ^ 31 - 2 ^ 11 → IsShort n
short n lt = inl lt

pub wide_fit : (x w : ℕ) → w < 2 ^ 64 → AreFit (wide_code x w)
wide_fit x w low = (
  inl (omega (arith, low)),
  (inl (omega arith), (inl (omega arith), (inl (omega arith), (inl (omega arith), tt)))),
)

-- a choice
pub fit_if : (b : Bool) (is js : List FlatInstruction) → AreFit is → AreFit js → AreFit (if b then is else js)
fit_if true is js x y = x
fit_if false is js x y = y

-- ---- values and entries

pub untagged_fit : (b : Bool) (r : ℕ) → AreFit (untagged b r)
untagged_fit false r = tt
untagged_fit true r =
    (short 0 (omega arith), (short 0 (omega arith), (short 0 (omega arith), (short 0 (omega arith), tt))))

pub move_fit : (b : Bool) (d a : ℕ) → AreFit (move_value b d a)
move_fit false d a = (tt, tt)
move_fit true d a = (tt, (tt, (tt, (tt, (tt, tt)))))

pub entry_fit : (b : Bool) (d e : Entry) → AreFit (move_entry_if b d e)
entry_fit false d e = tt
entry_fit true d e = (tt, (tt, (tt, (tt, tt))))

pub constants_fit : (b : Bool) (e : Entry) (base bound key lock s : ℕ) → base < 2 ^ 64 → bound < 2 ^ 64 → key < 2 ^ 64
    → lock < 2 ^ 64 → AreFit (entry_constants_if operators b e base bound key lock s)
constants_fit false e base bound key lock s l1 l2 l3 l4 = tt
constants_fit true e base bound key lock s l1 l2 l3 l4 =
    fit_append (constant_code e.base base) _ (constant_fit e.base base l1)
    (fit_append (constant_code e.bound bound) _ (constant_fit e.bound bound l2)
    (fit_append (constant_code e.key key) (constant_code e.lock lock) (constant_fit e.key key l3)
    (constant_fit e.lock lock l4)))

pub number_fit : (n r s : ℕ) → n < 2 ^ 64 → AreFit (number_code operators n r s)
number_fit n r s low = by (is_short n)
  where
    by : (b : Bool) → AreFit (if b then [] else constant_code r n)
    by true = tt
    by false = constant_fit r n low

pub operand_fit : (n r : ℕ) → RightIsShort (number_operand n r)
operand_fit n r = by (is_short n) refl
  where
    by : (b : Bool) → nat_lt n (2 ^ 31 - 2 ^ 11) ≡ b → RightIsShort (if b then Number n else Register r)
    by true e = inl (ltb-true n (2 ^ 31 - 2 ^ 11) e)
    by false e = tt

-- ---- pointers

scaled_fit : (size i n : ℕ) → size < 2 ^ 64 → AreFit (scaled_by (shift_of size) i size n)
scaled_fit size i n low = two (size == 2) (size == 4) (size == 8)
  where
    two : (a b c : Bool)
        → AreFit (scaled_by (if a then Some 1 else if b then Some 2 else if c then Some 3 else None) i size n)
    two true b c = (short 1 (omega arith), tt)
    two false true c = (short 2 (omega arith), tt)
    two false false true = (short 3 (omega arith), tt)
    two false false false = fit_append (constant_code n size) _ (constant_fit n size low) (tt, tt)

pub offset_fit : (o : RegOp) (size d a i n : ℕ) → size < 2 ^ 64 → AreFit (offset_code o size d a i n)
unfolding offset_code
offset_fit o size d a i n low = by (size == 1)
  where
    by : (b : Bool)
        → AreFit (if b then flat.Operate o d a (Register i) ∷ []
        else scaled_by (shift_of size) i size n ++ flat.Operate o d a (Register n) ∷ [])
    by true = (tt, tt)
    by false =
        fit_append (scaled_by (shift_of size) i size n) (flat.Operate o d a (Register n) ∷ []) (scaled_fit size i n low) (tt, tt)

pub difference_fit : (size d a b n : ℕ) → size < 2 ^ 64 → AreFit (difference_code size d a b n)
unfolding difference_code
difference_fit size d a b n low = fit_append (constant_code n size) _ (constant_fit n size low) (tt, (tt, tt))

pub narrow_fit : (h : Held) (offset size : RightOperand) (t : ℕ) → RightIsShort offset → RightIsShort size
    → AreFit (narrow_code h offset size t)
narrow_fit h offset size t o s = (o, (short 0 (omega arith), (tt, (tt, (tt, (tt, (s, (s, tt))))))))

-- ---- accesses

module _ (read write : EntryCode) (map : MapSizes) (entries : FitEntries read write map) where
  pub load_fit : (a : ℕ) (into : HeldScalar) (t : ℕ) → AreFit (load_code read map a into t)
  load_fit a (HeldInteger ty r) t = (omega arith, tt)
  load_fit a (HeldPointer h) t = (
    omega arith,
    (
      short 61 (omega arith),
      (
        short 0 (omega arith),
        (
          short 0 (omega arith),
          (
            short 0 (omega arith),
            (short 0 (omega arith), (short 0 (omega arith), (tt, entries.reads a h.tag t))),
          ),
        ),
      ),
    ),
  )

  pub store_fit : (a : ℕ) (from : HeldScalar) (t : ℕ) → AreFit (store_code write map a from t)
  store_fit a (HeldInteger ty r) t = (omega arith, tt)
  store_fit a (HeldPointer h) t =
      (omega arith, (short 61 (omega arith), (short 0 (omega arith), entries.writes a h.tag t)))

-- ---- scalars read out of contents

pointer_part_fit : (h into : Held) (t : ℕ) → AreFit (read_pointer_code h into t)
pointer_part_fit h into t = (
  omega arith,
  (
    tt,
    (
      short 61 (omega arith),
      (
        short 1 (omega arith),
        (
          short 3 (omega arith),
          (
            short 5 (omega arith),
            (
              tt,
              (
                omega arith,
                (
                  omega arith,
                  (
                    omega arith,
                    (
                      omega arith,
                      (tt, (tt, (tt, (tt, (tt, (tt, (tt, (tt, (tt, tt))))))))),
                    ),
                  ),
                ),
              ),
            ),
          ),
        ),
      ),
    ),
  ),
)

read_part_fit : (h : Held) (into : HeldScalar) (t : ℕ) → AreFit (read_part_code h into t)
read_part_fit h (HeldInteger ty r) t = (omega arith, tt)
read_part_fit h (HeldPointer into) t = pointer_part_fit h into t

pub scalar_part_fit : (k : Scalar) (b : Bool) (d a s : ℕ) → AreFit (scalar_part_code k b d a s)
scalar_part_fit (Integer t) false d a s = read_part_fit (held_from a) (HeldInteger t d) s
scalar_part_fit (Integer t) true d a s =
    fit_append (read_part_code (held_from a) (HeldInteger t d) s) (untagged true d)
    (read_part_fit (held_from a) (HeldInteger t d) s) (untagged_fit true d)
scalar_part_fit Pointer false d a s = read_part_fit (held_from a) (HeldInteger UnsignedLong d) s
scalar_part_fit Pointer true d a s = read_part_fit (held_from a) (HeldPointer (held_from d)) s

-- what is read from a place, or out of contents
pub place_or_part_fit : (q : Bool) (a : ℕ) (part place : List FlatInstruction) → AreFit part → AreFit place
    → AreFit (place_or_part q a part place)
place_or_part_fit false a part place f g = g
place_or_part_fit true a part place f g = (short 0 (omega arith), fit_append part _ f (tt, g))

-- ---- updates

right_fit : (right : Right) (r : ℕ) → AreFit (right_code right r)
right_fit (Temporary b) r = tt
right_fit One r = (short 1 (omega arith), tt)

pub new_integer_fit : (c : CodeFunction) (w : Update) (k : IntType) (line new old : ℕ) (right : Right) (s : ℕ)
    → line < 2 ^ 32 → AreFit (new_integer operators c w k line new old right s)
new_integer_fit c (Arithmetic op t) k line new old right s low =
    fit_append (conversion_code t new old) _ (conversion_fit t new old)
    (fit_append (right_code right s) _ (right_fit right s)
    (fit_append (binary_code op t line new new (right_register c right s) (s + 1)) (conversion_code k new new)
    (lifted (binary_code op t line new new (right_register c right s) (s + 1))
    (plain.binary_fit op t line new new (right_register c right s) (s + 1) low)) (conversion_fit k new new)))
new_integer_fit c (Forward size) k line new old right s low = tt
new_integer_fit c (Back size) k line new old right s low = tt

pub new_address_fit : (read write : EntryCode) (map : MapSizes) (c : CodeFunction) (w : Update) (new old : ℕ)
    (right : Right) (s : ℕ) → moved_by w < 2 ^ 64 → AreFit (new_address (inline_lists read write map) c w new old right s)
new_address_fit read write map c (Arithmetic op t) new old right s low = tt
new_address_fit read write map c (Forward size) new old right s low =
    fit_append (right_code right s) _ (right_fit right s) (offset_fit _ size new old (right_register c right s) (s + 1) low)
new_address_fit read write map c (Back size) new old right s low =
    fit_append (right_code right s) _ (right_fit right s) (offset_fit _ size new old (right_register c right s) (s + 1) low)

-- ---- parts of objects, and structures

pub part_fit : (c : CodeFunction) (x offset r : ℕ) → offset < 2 ^ 64 → AreFit (part_address operators c x offset r)
part_fit c x offset r low =
    fit_append (number_code operators offset r (r + 1)) _ (number_fit offset r (r + 1) low) (operand_fit offset r, tt)

pub bytes_fit : (bs : List ℕ) (a r : ℕ) → AreBytes bs → AreFit (store_bytes bs a r)
bytes_fit [] a r low = tt
bytes_fit (b ∷ bs) a r low =
    let first = low.0 in
    (inl (omega (arith, first)), (omega arith, (short 1 (omega arith), bytes_fit bs a r low.1)))

pub copy_fit : (number : ℕ → ℕ) (a size s : ℕ) → size < 2 ^ 64 → AreFit (copy_code operators number a size s)
copy_fit number a size s low =
    (tt, fit_append (constant_code (s + 2) size) _ (constant_fit (s + 2) size low) (tt, tt))

-- ---- contents of structures

-- a function of the runtime gets a part of contents
part_call_fit : (f size a s : ℕ) → size < 2 ^ 64 → AreFit (part_call_code operators f size a s)
part_call_fit f size a s low =
    fit_append (constant_code (s + 1) size) _ (constant_fit (s + 1) size low)
    (tt, (tt, (tt, (short 0 (omega arith), (short 0 (omega arith), (tt, tt))))))

pub store_structure_fit : (number : ℕ → ℕ) (size home a s : ℕ) → size < 2 ^ 64
    → AreFit (store_structure_code operators number size home a s)
store_structure_fit number size home a s low = (tt, part_call_fit (number put_area_place) size a s low)

place_fit : (number : ℕ → ℕ) (size a s : ℕ) → size < 2 ^ 64 → AreFit (take_place_code operators number size a s)
place_fit number size a s low =
    (tt, fit_append (constant_code (s + 2) size) _ (constant_fit (s + 2) size low) (tt, tt))

pub put_fit : (number : ℕ → ℕ) (area : Bool) (a size s : ℕ) → size < 2 ^ 64
    → AreFit (put_code operators number area a size s)
put_fit number false a size s low = copy_fit number a size s low
put_fit number true a size s low = (
  short 0 (omega arith),
  fit_append (part_call_code operators (number put_area_place) size a s) _
      (part_call_fit (number put_area_place) size a s low) (tt, copy_fit number a size s low),
)

pub hold_fit : (b : Bool) (d a e : ℕ) → AreFit (hold_area b d a e)
hold_fit false d a e = (tt, tt)
hold_fit true d a e = (tt, (tt, (tt, (short 0 (omega arith), (short 0 (omega arith), tt)))))

module _ (m : MapSizes) (places : HasShortPlaces m) (t : Tac) (c : CodeFunction) where
  begin_fit : (size i s : ℕ) → size < 2 ^ 63 → 5 * structures_below t c.code i < 2 ^ 63
      → AreFit (begin_area_code operators m t c size i s)
  begin_fit size i s low few =
      let values = places.values in
      let offset = region_start m StructureValues - c.room + 5 * structures_below t c.code i in
      let bound = whole_words size in
      fit_append (area_code operators m t c i s) _
      (tt, fit_append (constant_code (s + 1) offset) _ (constant_fit (s + 1) offset (omega (arith, values, few))) (tt, tt))
      (fit_append (bound_code operators size s (s + 1)) _
      (fit_append (constant_code (s + 1) bound) _ (constant_fit (s + 1) bound (omega (arith, low))) (tt, tt)) (tt, tt))

  pub zero_structure_fit : (number : ℕ → ℕ) (b : Bool) (size i d s : ℕ) → size < 2 ^ 63
      → 5 * structures_below t c.code i < 2 ^ 63 → AreFit (zero_structure_code operators m t c number b size i d s)
  zero_structure_fit number b size i d s low few =
      fit_append (begin_area_code operators m t c size i s) _ (begin_fit size i s low few)
      (fit_append (constant_code (s + 3) size) _ (constant_fit (s + 3) size (omega (arith, low)))
      (tt, hold_fit b d s (s + 1)))

  pub take_structure_fit : (number : ℕ → ℕ) (b : Bool) (size i d a s : ℕ) → size < 2 ^ 63
      → 5 * structures_below t c.code i < 2 ^ 63 → AreFit (take_structure_code operators m t c number b size i d a s)
  take_structure_fit number b size i d a s low few =
      let part = take_part_code operators number size a (s + 2) in
      let place = take_place_code operators number size a (s + 2) in
      fit_append (begin_area_code operators m t c size i s) _ (begin_fit size i s low few) (
        short 0 (omega arith),
        fit_append part _ (part_call_fit (number move_area_place) size a (s + 2) (omega (arith, low))) (
          tt,
          fit_append place _ (place_fit number size a (s + 2) (omega (arith, low))) (hold_fit b d s (s + 1)),
        ),
      )

  -- ---- results

  callee_part_fit : (size r : ℕ) → size < 2 ^ 63 → AreFit (callee_part_code operators m size r)
  callee_part_fit size r low =
      let values = places.values in
      let begin = region_start m StructureValues in
      let bound = whole_words size in (
        tt,
        fit_append (constant_code (r + 1) begin) _ (constant_fit (r + 1) begin (omega (arith, values))) (
          tt,
          (
            tt,
            fit_append (bound_code operators size r (r + 2)) _
                (fit_append (constant_code (r + 2) bound) _ (constant_fit (r + 2) bound (omega (arith, low))) (tt, tt))
                (short 0 (omega arith), (short 0 (omega arith), tt)),
          ),
        ),
      )

  pub await_fit : (size i s : ℕ) → size < 2 ^ 63 → 5 * structures_below t c.code i < 2 ^ 63
      → AreFit (await_code operators m t c size i s)
  await_fit size i s low few =
      fit_append (begin_area_code operators m t c size i s) _ (begin_fit size i s low few)
      (fit_append (constant_code (s + 3) size) _ (constant_fit (s + 3) size (omega (arith, low)))
      (callee_part_fit size (s + 4) low))

-- ---- blocks left

pub left_fit : (m : MapSizes) (lock top s : ℕ) → HasShortPlaces m → AreFit (leave_list m lock s ++ write_top m top s)
left_fit m lock top s places = (
  short 0 (omega arith),
  (
    omega arith,
    (
      inl places.free_locks,
      (
        omega arith,
        (
          short 1 (omega arith),
          (
            omega arith,
            (short 3 (omega arith), (tt, (inl places.locks, (tt, (omega arith, (inl places.cells, (omega arith, tt))))))),
          ),
        ),
      ),
    ),
  ),
)

-- ---- functions of the runtime

pub status_fit : (r line : ℕ) (ks : List ReturnStatus) → line < 2 ^ 32 → AreFit (status_code r line ks)
status_fit r line ks low = (short 0 (omega arith), tests ks)
  where
    tests : (ks : List ReturnStatus) → AreFit (status_tests r line ks)
    tests [] = tt
    tests (Completed ∷ ks) = (short 0 (omega arith), tests ks)
    tests (_ ∷ ks) = (inl (omega arith), ((low, omega arith), tests ks))

pub pack_fit : (c : CodeFunction) (vs : List Passed) (r d : ℕ) → AreFit (pack c vs r d)
pack_fit c [] r d = tt
pack_fit c (NoValue ∷ vs) r d = pack_fit c vs (r + 0) (d + 1)
pack_fit c (OneWord ∷ vs) r d = (tt, pack_fit c vs (r + 1) (d + 1))
pack_fit c (WithEntry ∷ vs) r d = (tt, (tt, (tt, (tt, (tt, pack_fit c vs (r + 5) (d + 1))))))

pub unpack_fit : (v : Passed) (b : Bool) (d r : ℕ) → AreFit (unpack v b d r)
unpack_fit NoValue b d r = (short 0 (omega arith), untagged_fit b d)
unpack_fit OneWord b d r = (tt, untagged_fit b d)
unpack_fit WithEntry b d r = move_fit b d r
