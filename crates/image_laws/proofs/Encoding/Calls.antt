-- What stands before calls, the blocks of calls, and blocks that are entered are of instructions that the machine has.
use Rattle.std.proofs.Common.{inl, ℕ, suc, ◌+◌, ◌*◌, ◌^◌, ◌<◌, ◌≤◌, arith, Bool, true, false, List, []}
use Rattle.std.proofs.Common.{◌∷◌}
use Rattle.std.proofs.Common.{◌++◌, map, length, Option, Some, None}
use Rattle.std.specs.Prelude.{◌==◌, if◌then◌else◌}
use Rattle.addr_map.specs.Places.{MapSizes}
use Rattle.rv_isa.specs.declared.instruction.RegOp.TheVariants.{Add, Sltu}
use Rattle.obj_memory.specs.declared.value.Scalar.TheVariants.{Integer, Pointer}
use Rattle.obj_memory.specs.Heap.{rounded_up}
use Rattle.c_tree.specs.declared.expression.Kind.{Kind}
use Rattle.c_tree.specs.declared.expression.Kind.TheVariants.{Void, Scalar as OfScalar, Structure, Array}
use Rattle.c_tree.specs.declared.program.Variable.{Variable}
use Rattle.c_tree.specs.Kinds.{size_of_kind}
use Rattle.source_meaning.specs.Blocks.{objects_end, has_objects}
use Rattle.tac_ir.specs.declared.function.CodeFunction.{CodeFunction}
use Rattle.tac_ir.specs.declared.function.Tac.{Tac}
use Rattle.flat_code.specs.declared.instruction.RightOperand.TheVariants.{Register, Number}
use Rattle.flat_code.specs.declared.instruction.FlatInstruction.TheVariants as flat
use Rattle.flat_code.specs.declared.registers.Entry.{Entry}
use Rattle.flat_operators.specs.Operators.{constant_code, wide_code}
use Rattle.lib_wrappers.specs.AllocatingRoutines.Allocating.{keys_code, key_test}
use Rattle.lib_wrappers.specs.AllocatingRoutines.Entering.{block_bytes}
use Rattle.runtime_functions.specs.Library.{held_from}
use Rattle.metadata_plan.specs.Blocks.{call_tests}
use Rattle.metadata_plan.specs.OperatorLists.Operators.{operators}
use Rattle.metadata_relation.specs.Registers.{passed_as, temporary_register, moved_register, first_free, home_entry}
use Rattle.metadata_relation.specs.Registers.{parameters_end, result_words}
use Rattle.metadata_relation.specs.Blocks.{number_code, space_test, object_tests, objects_of_body}
use Rattle.metadata_relation.specs.Blocks.{result_of, await_result, result_code}
use Rattle.metadata_relation.specs.Blocks.{pack, call_code, call_of, callee_tests, room_tests}
use Rattle.metadata_relation.specs.Blocks.{units_tests}
use Rattle.metadata_relation.specs.Blocks.{unknown_object_tests, through_code, through_of, place_home, place_homes}
use Rattle.metadata_relation.specs.Blocks.{enter_code}
use Rattle.metadata_relation.specs.Blocks.{write_top, status_code, enter_statuses}
use Rattle.image_laws.specs.Encoding.Fitting.{AreFit, HasShortPlaces, HasAreaWords, HasResultWords}
use Rattle.image_laws.proofs.Encoding.Parts.{fit_append, fit_if, short, wide_fit, constant_fit, number_fit, operand_fit}
use Rattle.image_laws.proofs.Encoding.Parts.{untagged_fit, pack_fit, status_fit, hold_fit, await_fit}

module _ (m : MapSizes) (places : HasShortPlaces m) where
  -- ---- tests

  pub tests_fit : (room line s : ℕ) → line < 2 ^ 32 → AreFit (call_tests m room line s)
  tests_fit room line s low =
      let calls = places.calls in (tt, (tt, (inl (omega (arith, calls)), ((low, omega arith), tt))))

  keys_fit : (left key line : ℕ) → line < 2 ^ 32 → AreFit (keys_code m left key ++ key_test left line)
  keys_fit left key line low =
      fit_append (keys_code m left key) (key_test left line) (
        inl places.free_locks,
        (
          omega arith,
          fit_append (wide_code left m.budgets.keys)
              (flat.Operate Sltu left key (Register left) ∷ flat.Operate Add key key (Number 2) ∷ [])
              (wide_fit left m.budgets.keys places.keys)
              (tt, (short 2 (omega arith), tt)),
        ),
      ) (short 0 (omega arith), ((low, omega arith), tt))

  space_fit : (bytes line s : ℕ) → line < 2 ^ 32 → AreFit (space_test m bytes line s)
  space_fit bytes line s low =
      let end = places.stack_end in (
        inl places.cells,
        (
          omega arith,
          (
            short 15 (omega arith),
            (short 4 (omega arith), (short 4 (omega arith), (inl (omega (arith, end)), (tt, ((low, omega arith), tt))))),
          ),
        ),
      )

  pub objects_fit : (vs : List Variable) (line s : ℕ) → line < 2 ^ 32 → AreFit (object_tests m vs line s)
  objects_fit vs line s low =
      fit_if (has_objects vs) (space_test m (block_bytes vs) line s ++ (keys_code m s (s + 1) ++ key_test s line)) []
      (fit_append (space_test m (block_bytes vs) line s) (keys_code m s (s + 1) ++ key_test s line)
      (space_fit (block_bytes vs) line s low) (keys_fit s (s + 1) line low)) tt

  -- ---- calls

  await_fits : (t : Tac) (c : CodeFunction) (kind : Kind) (d : ℕ) → HasAreaWords t c kind d
      → AreFit (await_result operators m t c kind d)
  await_fits t c Void d words = tt
  await_fits t c (OfScalar k) d words = tt
  await_fits t c (Structure size) d words = await_fit m places t c size d (first_free c) words.0 words.1
  await_fits t c (Array n) d words = tt

  result_fits : (t : Tac) (c : CodeFunction) (kind : Kind) (b : Bool) (d : ℕ) → AreFit (result_code t c kind b d)
  result_fits t c (OfScalar Pointer) b d = tt
  result_fits t c (OfScalar (Integer ty)) b d = untagged_fit b (temporary_register c d)
  result_fits t c Void b d = untagged_fit b (temporary_register c d)
  result_fits t c (Structure n) b d = (tt, hold_fit b (temporary_register c d) (first_free c) (first_free c + 1))
  result_fits t c (Array n) b d = untagged_fit b (temporary_register c d)

  called_fits : (t : Tac) (c callee : CodeFunction) (f line d : ℕ) (b : Bool) → line < 2 ^ 32
      → HasAreaWords t c (result_of t callee) d → AreFit (call_code operators m t c callee f line d b)
  called_fits t c callee f line d b low words =
      let s = first_free c in
      fit_append (call_tests m callee.room line s) _ (tests_fit callee.room line s low)
      (fit_append (object_tests m (objects_of_body callee) line s) _ (objects_fit (objects_of_body callee) line s low)
      (fit_append (await_result operators m t c (result_of t callee) d) _ (await_fits t c (result_of t callee) d words)
      (fit_append (pack c (map (λ v. passed_as v.kind) callee.parameters) (moved_register c (5 * d)) d) _
      (pack_fit c (map (λ v. passed_as v.kind) callee.parameters) (moved_register c (5 * d)) d)
      (tt, result_fits t c (result_of t callee) b d))))

  pub call_fits : (t : Tac) (c : CodeFunction) (callee : Option CodeFunction) (f line d n : ℕ) (b : Bool)
      → line < 2 ^ 32 → HasResultWords t c callee d → AreFit (call_of operators m t c callee f line d n b)
  call_fits t c None f line d n b low words = ((low, omega arith), tt)
  call_fits t c (Some callee) f line d n b low words =
      fit_if (length callee.parameters == n) (call_code operators m t c callee f line d b) _
      (called_fits t c callee f line d b low words) ((low, omega arith), tt)

  -- ---- calls through pointers

  callee_fit : (kind line r s : ℕ) → kind ≤ 2 ^ 12 → line < 2 ^ 32 → AreFit (callee_tests kind line r s)
  callee_fit kind line r s few low = (
    short 63 (omega arith),
    (
      short 0 (omega arith),
      (
        (low, omega arith),
        (
          inl (omega arith),
          (inl (omega (arith, few)), ((low, omega arith), (tt, ((low, omega arith), tt)))),
        ),
      ),
    ),
  )

  room_fit : (key line s : ℕ) → line < 2 ^ 32 → AreFit (room_tests m key line s)
  room_fit key line s low = (
    tt,
    (tt, (short 31 (omega arith), (inl (omega arith), (tt, (inl places.calls, ((low, omega arith), tt)))))),
  )

  units_fit : (line s : ℕ) → line < 2 ^ 32 → AreFit (units_tests m line s)
  units_fit line s low = (
    short 4 (omega arith),
    (
      inl places.cells,
      (
        omega arith,
        (
          short 15 (omega arith),
          (
            short 4 (omega arith),
            (
              short 4 (omega arith),
              (tt, (inl places.stack_end, (tt, ((low, omega arith), keys_fit s (s + 1) line low)))),
            ),
          ),
        ),
      ),
    ),
  )

  unknown_fit : (key line s : ℕ) → line < 2 ^ 32 → AreFit (unknown_object_tests m key line s)
  unknown_fit key line s low =
      (short 12 (omega arith), (inl (omega arith), (short 0 (omega arith), units_fit line s low)))

  reached_fits : (t : Tac) (c one : CodeFunction) (kind line d : ℕ) (b : Bool) → kind ≤ 2 ^ 12 → line < 2 ^ 32
      → HasAreaWords t c (result_of t one) d → AreFit (through_code operators m t c one kind line d b)
  reached_fits t c one kind line d b few low words =
      let s = first_free c in
      let r = temporary_register c d in
      let q = moved_register c (5 * (d + 1)) in
      let takes = map (λ v. passed_as v.kind) one.parameters in
      let key = (held_from r).tag.key in
      let await = await_result operators m t c (result_of t one) d in
      let last = flat.CallAddress r q (parameters_end one) r (result_words (result_of t one))
      ∷ result_code t c (result_of t one) b d in
      let packed = pack c takes q (d + 1) ++ last in
      let objects = unknown_object_tests m key line s ++ (await ++ packed) in
      fit_append (callee_tests kind line r s) (room_tests m key line s ++ objects) (callee_fit kind line r s few low)
      (fit_append (room_tests m key line s) objects (room_fit key line s low)
      (fit_append (unknown_object_tests m key line s) (await ++ packed) (unknown_fit key line s low)
      (fit_append await packed (await_fits t c (result_of t one) d words)
      (fit_append (pack c takes q (d + 1)) last (pack_fit c takes q (d + 1)) (tt, result_fits t c (result_of t one) b d)))))

  pub through_fits : (t : Tac) (c : CodeFunction) (one : Option CodeFunction) (kind line d n : ℕ) (b : Bool)
      → kind ≤ 2 ^ 12 → line < 2 ^ 32 → HasResultWords t c one d
      → AreFit (through_of operators m t c one kind line d n b)
  through_fits t c None kind line d n b few low words = ((low, omega arith), tt)
  through_fits t c (Some one) kind line d n b few low words =
      fit_if (length one.parameters == n) (through_code operators m t c one kind line d b) _
      (reached_fits t c one kind line d b few low words) ((low, omega arith), tt)

  -- ---- blocks that are entered

  end_grows : (vs : List Variable) (n : ℕ) → n ≤ objects_end vs n
  end_grows [] n = omega arith
  end_grows (v ∷ vs) n = by v.is_object (end_grows vs)
    where
      by : (b : Bool) → ((k : ℕ) → k ≤ objects_end vs k)
          → n ≤ objects_end vs (if b then rounded_up 16 n + size_of_kind v.kind else n)
      by true grows =
          let rest = grows (rounded_up 16 n + size_of_kind v.kind) in
          let up : n ≤ rounded_up 16 n = omega arith in
          omega (arith, rest, up)
      by false grows = grows n

  home_fits : (e : Entry) (offset size first key lock s : ℕ) → offset < 2 ^ 64 → size < 2 ^ 64
      → AreFit (place_home operators e offset size first key lock s)
  home_fits e offset size first key lock s low less =
      fit_append (number_code operators offset s (s + 1)) _ (number_fit offset s (s + 1) low) (
        operand_fit offset s,
        fit_append (number_code operators size s (s + 1)) _ (number_fit size s (s + 1) less) (operand_fit size s, (tt, (tt, tt))),
      )

  homes_fit : (c : CodeFunction) (vs : List Variable) (x offset first key lock s : ℕ) → objects_end vs offset < 2 ^ 64
      → AreFit (place_homes operators c x vs offset first key lock s)
  homes_fit c [] x offset first key lock s low = tt
  homes_fit c (v ∷ vs) x offset first key lock s low =
      by v.is_object low (λ k small. homes_fit c vs (suc x) k first key lock s small)
    where
      at : ℕ
      at = rounded_up 16 offset

      by : (b : Bool) → objects_end vs (if b then at + size_of_kind v.kind else offset) < 2 ^ 64
          → ((k : ℕ) → objects_end vs k < 2 ^ 64 → AreFit (place_homes operators c (suc x) vs k first key lock s))
          → AreFit (if b then place_home operators (home_entry c x) at (size_of_kind v.kind) first key lock s
          ++ place_homes operators c (suc x) vs (at + size_of_kind v.kind) first key lock s
          else place_homes operators c (suc x) vs offset first key lock s)
      by true low rest =
          let grows = end_grows vs (at + size_of_kind v.kind) in
          fit_append (place_home operators (home_entry c x) at (size_of_kind v.kind) first key lock s) _
          (home_fits (home_entry c x) at (size_of_kind v.kind) first key lock s (omega (arith, low, grows))
          (omega (arith, low, grows)))
          (rest (at + size_of_kind v.kind) low)
      by false low rest = rest offset low

  pub enter_fits : (t : Tac) (c : CodeFunction) (vs : List Variable) (line : ℕ) → line < 2 ^ 32
      → block_bytes vs < 2 ^ 64 → AreFit (enter_code operators m t c vs line)
  enter_fits t c vs line low bytes =
      let s = first_free c in (
        inl places.cells,
        (
          omega arith,
          (
            tt,
            fit_append (constant_code (s + 1) (block_bytes vs)) _ (constant_fit (s + 1) (block_bytes vs) bytes) (
              tt,
              fit_append (status_code (s + 2) line enter_statuses) _ (status_fit (s + 2) line enter_statuses low)
                  (fit_append (place_homes operators c 0 vs 0 (s + 3) (s + 5) (s + 6) (s + 7)) (write_top m (s + 4) (s + 7))
                  (homes_fit c vs 0 0 (s + 3) (s + 5) (s + 6) (s + 7) bytes) (inl places.cells, (omega arith, tt))),
            ),
          ),
        ),
      )
