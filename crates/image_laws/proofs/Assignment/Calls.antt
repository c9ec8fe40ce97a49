-- Functions that are called: arguments that are packed, tests before a call and behind one, and results.
use Rattle.std.proofs.Common.{◌≡◌, ◌⊎◌, inl, inr, ⊎_elim, ℕ, suc, ◌+◌, ◌*◌, ◌<◌, ◌≤◌, refl, ap, subst, arith}
use Rattle.std.proofs.Common.{Bool, true, false, List, [], ◌∷◌, ◌++◌, length}
use Rattle.std.specs.Prelude.{◌-◌, ◌^◌, map, if◌then◌else◌}
use Rattle.std.proofs.lemmas.Bool.{cases_lt}
use Rattle.sb_base.specs.declared.ending.Ending.TheVariants.{Stack}
use Rattle.addr_map.specs.declared.region.Region.TheVariants.{Stack as StackRegion, FreeLocks}
use Rattle.addr_map.specs.Places.{MapSizes, region_start, region_end}
use Rattle.rv_isa.specs.declared.instruction.RegOp.TheVariants.{Add, And, Sll, Srl, Sltu}
use Rattle.rv_isa.specs.declared.instruction.LoadOp.TheVariants.{Ld}
use Rattle.rv_isa.specs.declared.instruction.BranchOp.TheVariants.{Beq, Bltu}
use Rattle.obj_memory.specs.declared.value.Scalar.TheVariants.{Integer, Pointer}
use Rattle.c_tree.specs.declared.expression.Kind.{Kind}
use Rattle.c_tree.specs.declared.expression.Kind.TheVariants.{Void, Scalar as OfScalar, Structure, Array}
use Rattle.c_tree.specs.declared.program.Variable.{Variable}
use Rattle.source_meaning.specs.Blocks.{has_objects}
use Rattle.tac_ir.specs.declared.function.CodeFunction.{CodeFunction}
use Rattle.tac_ir.specs.declared.function.Tac.{Tac}
use Rattle.flat_code.specs.declared.instruction.RightOperand.TheVariants.{Register, Number}
use Rattle.flat_code.specs.declared.instruction.FlatInstruction.{FlatInstruction}
use Rattle.flat_code.specs.declared.instruction.FlatInstruction.TheVariants.{Constant, Move, Operate, Load, Branch}
use Rattle.flat_code.specs.declared.instruction.FlatInstruction.TheVariants.{Call, End}
use Rattle.flat_code.specs.declared.function.FlatProgram.{FlatProgram}
use Rattle.flat_code.specs.Calls.{function_in}
use Rattle.flat_code.specs.Meaning.{parameters_of, results_of}
use Rattle.flat_code.specs.Routines.Routine.{unless_code}
use Rattle.flat_operators.specs.Operators.{wide_code}
use Rattle.lib_wrappers.specs.AllocatingRoutines.Allocating.{keys_code, key_test}
use Rattle.lib_wrappers.specs.AllocatingRoutines.Entering.{block_bytes}
use Rattle.runtime_functions.specs.declared.status.ReturnStatus.{ReturnStatus}
use Rattle.runtime_functions.specs.declared.status.ReturnStatus.TheVariants.{Completed}
use Rattle.runtime_functions.specs.Library.{Passed, NoValue, OneWord, WithEntry, register_count, total_count}
use Rattle.metadata_plan.specs.Blocks.{call_tests}
use Rattle.metadata_plan.specs.OperatorLists.Operators.{operators}
use Rattle.metadata_relation.specs.Registers.{first_free, passed_as, temporary_register, result_words}
use Rattle.metadata_relation.specs.Registers.{parameter_words, total}
use Rattle.metadata_relation.specs.Blocks.{untagged, pack_value, pack, unpack, status_tests, status_code}
use Rattle.metadata_relation.specs.Blocks.{top_cell, space_test, object_tests, await_result, result_code, runtime_number}
use Rattle.metadata_relation.specs.Blocks.{callee_tests, room_tests, units_tests, unknown_object_tests}
use Rattle.metadata_relation.specs.Structures.{move_area_place}
use Rattle.image_laws.specs.Plans.Assignment.{Registers, IsOneOf}
use Rattle.image_laws.specs.Plans.Instructions.{numbers_from, value_of, result_made}
use Rattle.image_laws.proofs.Assignment.Flows.{Flows, LastIn, followed, and_then, wider, last_append, last_ends}
use Rattle.image_laws.proofs.Assignment.Straight.{AllFrom, AreIn, are_in_more, one_in, Straight, straight, nothing}
use Rattle.image_laws.proofs.Assignment.Straight.{along}
use Rattle.image_laws.proofs.Assignment.Operators.{are_quiet, quiet_last, wide_flow}
use Rattle.image_laws.proofs.Assignment.Choices.{unless}
use Rattle.image_laws.proofs.Assignment.Values.{Block, integer, move_flows, moved_block, word_block, zero_block}
use Rattle.image_laws.proofs.Assignment.Values.{last_untagged}
use Rattle.image_laws.proofs.Assignment.Temporaries.{all_one_of}
use Rattle.image_laws.proofs.Assignment.Pieces.{numbers_have, all_from, later_from, value_in, one_from}
use Rattle.image_laws.proofs.Assignment.Pieces.{value_from, from_first, call_flows, some_behind, less_value}
use Rattle.image_laws.proofs.Assignment.Accesses.{AreOwn}
use Rattle.image_laws.proofs.Assignment.Structures.{Serves, awaited, await_flows, receive_last, received_block}

-- ---- how values are handed over

-- the registers of a value that is handed over from one on, and those of several
abbrev pub passed_from : Passed → (first : ℕ) → List ℕ
passed_from NoValue r = []
passed_from OneWord r = r ∷ []
passed_from WithEntry r = value_of true r

abbrev pub packed : List Passed → (first : ℕ) → List ℕ
packed [] r = []
packed (v ∷ vs) r = passed_from v r ++ packed vs (r + register_count v)

-- what is handed over from a temporary on is assigned
abbrev pub AreReady : Registers → CodeFunction → List Passed → (temporary : ℕ) → Type 0
AreReady R c [] d = Unit {0}
AreReady R c (v ∷ vs) d = AreIn (passed_from v (temporary_register c d)) R × AreReady R c vs (d + 1)

pub one_left : (xs ys : List ℕ) (y : ℕ) → IsOneOf xs y → IsOneOf (xs ++ ys) y
one_left [] ys y h = absurd h
one_left (x ∷ xs) ys y (inl e) = inl e
one_left (x ∷ xs) ys y (inr h) = inr (one_left xs ys y h)

pub one_right : (xs ys : List ℕ) (y : ℕ) → IsOneOf ys y → IsOneOf (xs ++ ys) y
one_right [] ys y h = h
one_right (x ∷ xs) ys y h = inr (one_right xs ys y h)

passed_has : (v : Passed) (r j : ℕ) → j < register_count v → IsOneOf (passed_from v r) (r + j)
passed_has NoValue r j lt = absurd (omega (arith, lt))
passed_has OneWord r j lt = inl (omega (arith, lt))
passed_has WithEntry r j lt =
    value_from (IsOneOf (value_of true r)) r (all_one_of (value_of true r) (IsOneOf (value_of true r)) (λ y h. h)) j lt

-- they stand one behind the other
pub packed_has : (vs : List Passed) (r j : ℕ) → j < total_count vs → IsOneOf (packed vs r) (r + j)
packed_has [] r j lt = absurd (omega (arith, lt))
packed_has (v ∷ vs) r j lt =
    ⊎_elim (λ low. one_left (passed_from v r) (packed vs (r + register_count v)) (r + j) (passed_has v r j low))
    (λ le.
    let k = j - register_count v in
    let here : j ≡ register_count v + k = omega (arith, le) in
    let same : r + register_count v + k ≡ r + j = omega (arith, here) in
    one_right (passed_from v r) (packed vs (r + register_count v)) (r + j)
    (subst (IsOneOf (packed vs (r + register_count v))) same
    (packed_has vs (r + register_count v) k (omega (arith, here, lt)))))
    (cases_lt j (register_count v))

pub ready_more : (R S : Registers) (c : CodeFunction) → ((y : ℕ) → R y → S y) → (vs : List Passed) (d : ℕ)
    → AreReady R c vs d → AreReady S c vs d
ready_more R S c k [] d h = tt
ready_more R S c k (v ∷ vs) d h =
    (are_in_more (passed_from v (temporary_register c d)) R S k h.0, ready_more R S c k vs (d + 1) h.1)

module _ (p : FlatProgram) (u : ℕ) (P : Registers) (c : CodeFunction) where
  passed_flows : (G : Registers) → ((y : ℕ) → G y → P y) → (v : Passed) (r a : ℕ) → AreIn (passed_from v a) G
      → AllFrom P r (register_count v) → Flows p u P G (pack_value v r a) 0 (passed_from v r)
  passed_flows G low NoValue r a given named = nothing p u P G low
  passed_flows G low OneWord r a given named =
      straight p u P 0 G (Move r a ∷ []) (given.0, from_first P r 0 named, tt, tt) low (r ∷ []) (inr refl, tt)
  passed_flows G low WithEntry r a given named = move_flows p u P G low true r a given (value_in P true r named)

  pub pack_flows : (vs : List Passed) (G : Registers) → ((y : ℕ) → G y → P y) → (r d : ℕ) → AreReady G c vs d
      → AllFrom P r (total_count vs) → Flows p u P G (pack c vs r d) 0 (packed vs r)
  pack_flows [] G low r d ready named = nothing p u P G low
  pack_flows (v ∷ vs) G low r d ready named =
      let rest = pack c vs (r + register_count v) (d + 1) in
      and_then p u P G (pack_value v r (temporary_register c d)) rest 0 (passed_from v r)
      (packed vs (r + register_count v))
      (passed_flows G low v r (temporary_register c d) ready.0 (λ j lt. named j (omega (arith, lt))))
      (λ S keeps made low'.
      pack_flows vs S low' (r + register_count v) (d + 1) (ready_more G S c keeps vs (d + 1) ready.1)
      (later_from P r (register_count v) (total_count vs) named))

-- ---- statuses

-- each of them ends the run
abbrev pub AreEndings : List ReturnStatus → Type 0
AreEndings [] = Unit {0}
AreEndings (Completed ∷ ks) = ⊥
AreEndings (k ∷ ks) = AreEndings ks

module _ (p : FlatProgram) (u : ℕ) (P : Registers) where
  tests_straight : (R : Registers) (ks : List ReturnStatus) (r line : ℕ) → AreEndings ks → R r
      → Straight p u P 0 R (status_tests r line ks)
  tests_straight R [] r line ends rr = tt
  tests_straight R (Completed ∷ ks) r line ends rr = absurd ends
  tests_straight R (_ ∷ ks) r line ends rr =
      ((rr, tt), tt, (refl, tt), (tt, tt, tt, tests_straight R ks r line ends rr))

  tests_quiet : (ks : List ReturnStatus) (r line : ℕ) → are_quiet (status_tests r line ks) ≡ true
  tests_quiet [] r line = refl
  tests_quiet (Completed ∷ ks) r line = tests_quiet ks r line
  tests_quiet (_ ∷ ks) r line = tests_quiet ks r line

  pub status_flows : (G : Registers) → ((y : ℕ) → G y → P y) → (r line : ℕ) (ks : List ReturnStatus) → AreEndings ks
      → G r → Flows p u P G (status_code r line ks) 0 []
  status_flows G low r line ks ends gr =
      unless p u P G Beq r (Number 0) (status_tests r line ks)
      (straight p u P 0 G (status_tests r line ks) (tests_straight G ks r line ends gr) low [] tt)
      (last_ends p G (status_tests r line ks) (quiet_last p G (status_tests r line ks) (tests_quiet ks r line)))
      gr tt low

  pub status_last : (E : Registers) (r line : ℕ) (ks : List ReturnStatus) → LastIn p E (status_code r line ks)
  status_last E r line ks = quiet_last p E (status_code r line ks) (tests_quiet ks r line)

  -- ---- tests before a call

  -- one list without jumps behind another
  lined : (G : Registers) → ((y : ℕ) → G y → P y) → (is js : List FlatInstruction) (M : List ℕ)
      → Straight p u P 0 G is → AreIn M (along p u P G is (length is))
      → ((S : Registers) → ((y : ℕ) → G y → S y) → ((y : ℕ) → IsOneOf M y → S y) → ((y : ℕ) → S y → P y)
      → Flows p u P S js 0 [])
      → Flows p u P G (is ++ js) 0 []
  lined G low is js M h all k = followed p u P G is js 0 M [] (straight p u P 0 G is h low M all) k

  -- there is a key: two registers are for this
  key_flows : (G : Registers) → ((y : ℕ) → G y → P y) → (m : MapSizes) (s line : ℕ) → P s → P (s + 1)
      → Flows p u P G (keys_code m s (s + 1) ++ key_test s line) 0 []
  key_flows G low m s line ps ps1 =
      lined G low load (wide_code s m.budgets.keys ++ test) ((s + 1) ∷ []) (tt, ps1, tt, (inr refl, ps1, tt, tt))
      (inr refl, tt)
      (λ S keeps made low'.
      lined S low' (wide_code s m.budgets.keys) test (s ∷ []) (wide_flow p u P S s m.budgets.keys ps) (inr refl, tt)
      (λ T keeps' made' low''.
      straight p u P 0 T test (
        (keeps' (s + 1) (made (s + 1) (inl refl)), made' s (inl refl)),
        ps,
        tt,
        (
          (inl (keeps' (s + 1) (made (s + 1) (inl refl))), tt),
          ps1,
          tt,
          ((inl (inr refl), tt), tt, (refl, tt), (tt, tt, tt, tt)),
        ),
      ) low'' [] tt))
    where
      load : List FlatInstruction
      load = Constant (s + 1) (region_start m FreeLocks) ∷ Load Ld (s + 1) (s + 1) 0 ∷ []

      test : List FlatInstruction
      test =
          Operate Sltu s (s + 1) (Register s)
          ∷ Operate Add (s + 1) (s + 1) (Number 2)
          ∷ key_test s line

  pub call_tests_flows : (G : Registers) → ((y : ℕ) → G y → P y) → (m : MapSizes) (room line s : ℕ) → P s
      → Flows p u P G (call_tests m room line s) 0 []
  call_tests_flows G low m room line s ps =
      straight p u P 0 G (call_tests m room line s)
      (tt, tt, tt, (tt, ps, tt, ((inr refl, tt), tt, (refl, tt), (tt, tt, tt, tt)))) low [] tt

  pub object_tests_flows : (G : Registers) → ((y : ℕ) → G y → P y) → (m : MapSizes) (vs : List Variable) (line s : ℕ)
      → AreOwn P s 2 → Flows p u P G (object_tests m vs line s) 0 []
  object_tests_flows G low m vs line s own = by (has_objects vs)
    where
      ps : P s
      ps = own s (omega arith) (omega arith)

      ps1 : P (s + 1)
      ps1 = own (s + 1) (omega arith) (omega arith)

      by : (b : Bool)
          → Flows p u P G
          (if b then space_test m (block_bytes vs) line s ++ (keys_code m s (s + 1) ++ key_test s line) else []) 0 []
      by false = nothing p u P G low
      by true =
          lined G low (space_test m (block_bytes vs) line s) (keys_code m s (s + 1) ++ key_test s line) [] (
            tt,
            ps,
            tt,
            (
              inr refl,
              ps,
              tt,
              (
                (inr refl, tt),
                ps,
                tt,
                (
                  (inr refl, tt),
                  ps,
                  tt,
                  (
                    (inr refl, tt),
                    ps,
                    tt,
                    (tt, ps1, tt, ((inl (inr refl), inr refl), tt, (refl, tt), (tt, tt, tt, tt))),
                  ),
                ),
              ),
            ),
          ) tt
          (λ S keeps made low'. key_flows S low' m s line ps ps1)

  -- ---- a callee that is found by its key

  pub callee_flows : (G : Registers) → ((y : ℕ) → G y → P y) → (kind line r s : ℕ) → AreIn (value_of true r) G → P s
      → Flows p u P G (callee_tests kind line r s) 0 []
  callee_flows G low kind line r s (value, (base, (bound, (key, (lock, _))))) ps =
      straight p u P 0 G (callee_tests kind line r s) (
        (key, tt),
        ps,
        tt,
        (
          (inr refl, tt),
          tt,
          (refl, tt),
          (
            tt,
            tt,
            tt,
            (
              (inl key, tt),
              ps,
              tt,
              (
                (inr refl, tt),
                tt,
                (refl, tt),
                (
                  tt,
                  tt,
                  tt,
                  ((inl (inl value), inl (inl base)), tt, (refl, tt), (tt, tt, tt, tt)),
                ),
              ),
            ),
          ),
        ),
      ) low [] tt

  pub room_flows : (G : Registers) → ((y : ℕ) → G y → P y) → (m : MapSizes) (key line s : ℕ) → G key → AreOwn P s 2
      → Flows p u P G (room_tests m key line s) 0 []
  room_flows G low m key line s gk own =
      let ps = own s (omega arith) (omega arith) in
      let ps1 = own (s + 1) (omega arith) (omega arith) in
      straight p u P 0 G (room_tests m key line s) (
        tt,
        tt,
        tt,
        (
          tt,
          ps,
          tt,
          (
            (inl gk, tt),
            ps1,
            tt,
            (
              (inr refl, tt),
              ps1,
              tt,
              ((inl (inl (inr refl)), inr refl), ps, tt, ((inr refl, tt), tt, (refl, tt), (tt, tt, tt, tt))),
            ),
          ),
        ),
      ) low [] tt

  units_flows : (G : Registers) → ((y : ℕ) → G y → P y) → (m : MapSizes) (line s : ℕ) → G (s + 1) → AreOwn P s 2
      → Flows p u P G (units_tests m line s) 0 []
  units_flows G low m line s g1 own =
      lined G low first (keys_code m s (s + 1) ++ key_test s line) [] (
        (g1, tt),
        ps1,
        tt,
        (
          tt,
          ps,
          tt,
          (
            inr refl,
            ps,
            tt,
            (
              (inr refl, tt),
              ps,
              tt,
              (
                (inr refl, tt),
                ps,
                tt,
                (
                  (inr refl, tt),
                  ps,
                  tt,
                  (
                    (inr refl, inl (inl (inl (inl (inl (inr refl)))))),
                    ps,
                    tt,
                    (tt, ps1, tt, ((inl (inr refl), inr refl), tt, (refl, tt), (tt, tt, tt, tt))),
                  ),
                ),
              ),
            ),
          ),
        ),
      ) tt
      (λ S keeps made low'. key_flows S low' m s line ps ps1)
    where
      ps : P s
      ps = own s (omega arith) (omega arith)

      ps1 : P (s + 1)
      ps1 = own (s + 1) (omega arith) (omega arith)

      first : List FlatInstruction
      first =
          Operate Sll (s + 1) (s + 1) (Number 4)
          ∷ Constant s (top_cell m)
          ∷ Load Ld s s 0
          ∷ Operate Add s s (Number 15)
          ∷ Operate Srl s s (Number 4)
          ∷ Operate Sll s s (Number 4)
          ∷ Operate Add s s (Register (s + 1))
          ∷ Constant (s + 1) (region_end m StackRegion + 1)
          ∷ Branch Bltu s (Register (s + 1)) 1
          ∷ End (Stack line)
          ∷ []

  pub unknown_flows : (G : Registers) → ((y : ℕ) → G y → P y) → (m : MapSizes) (key line s : ℕ) → G key
      → AreOwn P s 2 → Flows p u P G (unknown_object_tests m key line s) 0 []
  unknown_flows G low m key line s gk own =
      lined G low first (unless_code Beq (s + 1) (Number 0) (units_tests m line s)) ((s + 1) ∷ [])
      ((gk, tt), ps1, tt, ((inr refl, tt), ps1, tt, tt)) (inr refl, tt)
      (λ S keeps made low'.
      unless p u P S Beq (s + 1) (Number 0) (units_tests m line s)
      (units_flows S low' m line s (made (s + 1) (inl refl)) own)
      (last_ends p S (units_tests m line s) (inl refl)) (made (s + 1) (inl refl)) tt low')
    where
      ps1 : P (s + 1)
      ps1 = own (s + 1) (omega arith) (omega arith)

      first : List FlatInstruction
      first = Operate Srl (s + 1) key (Number 12) ∷ Operate And (s + 1) (s + 1) (Number (2 ^ 19 - 1)) ∷ []

  -- ---- results

  -- a result comes to its temporary
  pub unpacked_block : (G : Registers) → ((y : ℕ) → G y → P y) → (v : Passed) (b : Bool) (d r : ℕ)
      → AllFrom G r (register_count v) → AreIn (value_of b d) P → Block p u P G (unpack v b d r) 0 (value_of b d)
  unpacked_block G low NoValue b d r given named = zero_block p u P G low b d named
  unpacked_block G low OneWord b d r given named = word_block p u P G low b d r (from_first G r 0 given) named
  unpacked_block G low WithEntry b d r given named = moved_block p u P G low b d r (value_in G b r given) named

  -- ---- functions of the runtime

  module _ (c : CodeFunction) where
    -- arguments are packed, and behind the call the status is tested and the result comes to its temporary
    pub served_block : (G : Registers) → ((y : ℕ) → G y → P y) → (takes : List Passed) (gives : Passed)
        (g line d r s : ℕ) (ks : List ReturnStatus) (b : Bool)
        → parameters_of (function_in p g) ≡ total_count takes → results_of (function_in p g) ≡ 1 + register_count gives
        → AreEndings ks → AreReady G c takes d → AllFrom P r (total_count takes) → AreOwn P s 16
        → AreIn (value_of b (temporary_register c d)) P
        → Block p u P G
        (pack c takes r d
        ++ (Call g r s ∷ (status_code s line ks ++ unpack gives b (temporary_register c d) (s + 1)))) 0
        (value_of b (temporary_register c d))
    served_block G low takes gives g line d r s ks b some most ends ready packs own named =
        let D = temporary_register c d in
        let E = λ (y : ℕ). G y ⊎ IsOneOf (value_of b D) y in
        let results = 1 + register_count gives in
        let last = unpack gives b D (s + 1) in
        let rest = status_code s line ks ++ last in
        record {
          flows = followed p u P G (pack c takes r d) (Call g r s ∷ rest) 0 (packed takes r) (value_of b D)
              (pack_flows p u P c takes G low r d ready packs)
              (λ S keeps made low'.
              followed p u P S (Call g r s ∷ []) rest 0 (numbers_from s results) (value_of b D)
              (call_flows p u P S low' g r s (total_count takes) results some most
              (λ j lt. made (r + j) (packed_has takes r j lt))
              (λ j lt. own (s + j) (omega arith) (omega (arith, lt, few gives))))
              (λ T keeps' made' low''.
              let given = all_from T s results made' in
              followed p u P T (status_code s line ks) last 0 [] (value_of b D)
              (status_flows T low'' s line ks ends (from_first T s (register_count gives) (one_more T s (register_count gives) given)))
              (λ U keeps'' made'' low3.
              (unpacked_block U low3 gives b D (s + 1)
              (λ j lt. keeps'' (s + 1 + j) (later_from T s 1 (register_count gives) given j lt)) named).flows)));
          last = last_append p E (pack c takes r d) (Call g r s ∷ rest) (omega arith)
              (last_append p E (Call g r s ∷ []) rest (omega arith)
              (last_append p E (status_code s line ks) last (some_unpacked gives b D (s + 1))
              (unpacked_last gives b D (s + 1))));
        }
      where
        few : (v : Passed) → register_count v ≤ 5
        few NoValue = omega arith
        few OneWord = omega arith
        few WithEntry = omega arith

        one_more : (R : Registers) (x n : ℕ) → AllFrom R x (1 + n) → AllFrom R x (suc n)
        one_more R x n h j lt = h j (omega (arith, lt))

        some_unpacked : (v : Passed) (b : Bool) (d r : ℕ) → 0 < length (unpack v b d r)
        some_unpacked NoValue b d r = omega arith
        some_unpacked OneWord b d r = omega arith
        some_unpacked WithEntry false d r = omega arith
        some_unpacked WithEntry true d r = omega arith

        unpacked_last : (v : Passed) (b : Bool) (d r : ℕ) → LastIn p (λ y. G y ⊎ IsOneOf (value_of b d) y) (unpack v b d r)
        unpacked_last NoValue b d r =
            last_untagged p u P (λ y. G y ⊎ IsOneOf (value_of b d) y) (Constant d 0 ∷ []) b d (inl refl)
        unpacked_last OneWord b d r =
            last_untagged p u P (λ y. G y ⊎ IsOneOf (value_of b d) y) (Move d r ∷ []) b d (inl refl)
        unpacked_last WithEntry false d r = inl refl
        unpacked_last WithEntry true d r = inl refl

    -- ---- functions of the text

    module _ (t : Tac) (moves : Serves p (runtime_number t move_area_place) 7) where
      -- Where a call has put its result there, its entry is that of no pointer where it has none, and a structure is moved.
      result_block : (G : Registers) → ((y : ℕ) → G y → P y) → (call : FlatInstruction) (kind : Kind) (b : Bool) (d : ℕ)
          → AreIn (value_of true (temporary_register c d)) P → AreOwn P (first_free c) 16
          → AreIn (awaited kind (first_free c)) G
          → Flows p u P G (call ∷ []) 0 (numbers_from (temporary_register c d) (result_words kind))
          → ((E : Registers) → AllFrom E (temporary_register c d) (result_words kind) → LastIn p E (call ∷ []))
          → Block p u P G (call ∷ result_code t c kind b d) 0 (result_made kind b (temporary_register c d))
      result_block G low call kind b d named own waits f last = by kind waits f last
        where
          into : ℕ
          into = temporary_register c d

          word : Flows p u P G (call ∷ []) 0 (into ∷ []) → ((E : Registers) → AllFrom E into 1 → LastIn p E (call ∷ []))
              → Block p u P G (call ∷ untagged b into) 0 (value_of b into)
          word f last =
              let E = λ (y : ℕ). G y ⊎ IsOneOf (value_of b into) y in
              integer p u P G (call ∷ []) b into (less_value P b into named).1 f
              (last E (one_from E into (inr (inl refl))))

          by : (k : Kind) → AreIn (awaited k (first_free c)) G
              → Flows p u P G (call ∷ []) 0 (numbers_from into (result_words k))
              → ((E : Registers) → AllFrom E into (result_words k) → LastIn p E (call ∷ []))
              → Block p u P G (call ∷ result_code t c k b d) 0 (result_made k b into)
          by Void waits f last = word f last
          by (OfScalar (Integer ty)) waits f last = word f last
          by (Array n) waits f last = word f last
          by (Structure n) waits f last =
              received_block p u P G low call (runtime_number t) b into (first_free c) moves (less_value P b into named) own
              waits f
          by (OfScalar Pointer) waits f last =
              let E = λ (y : ℕ). G y ⊎ IsOneOf (value_of true into) y in
              let made = value_in (IsOneOf (numbers_from into 5)) true into (numbers_have into 5) in
              record {
                flows = wider p u P G (call ∷ []) 0 (numbers_from into 5) (value_of true into) f
                    (λ y m. inr (one_in (value_of true into) (IsOneOf (numbers_from into 5)) y made m));
                last = last E (value_from E into (all_one_of (value_of true into) E (λ y m. inr m)));
              }

      -- Behind all tests a result is awaited and the arguments are packed, and the call puts its result into its temporary.
      pub called_block : (G : Registers) → ((y : ℕ) → G y → P y) → (m : MapSizes) (tests : List FlatInstruction)
          (takes : List Passed) (call : FlatInstruction) (kind : Kind) (b : Bool) (d first r : ℕ)
          → Flows p u P G tests 0 [] → AreReady G c takes first → AllFrom P r (total_count takes)
          → AreIn (value_of true (temporary_register c d)) P → AreOwn P (first_free c) 16
          → ((S : Registers) → ((y : ℕ) → G y → S y) → ((y : ℕ) → S y → P y) → AllFrom S r (total_count takes)
          → Flows p u P S (call ∷ []) 0 (numbers_from (temporary_register c d) (result_words kind)))
          → ((E : Registers) → AllFrom E (temporary_register c d) (result_words kind) → LastIn p E (call ∷ []))
          → Block p u P G
          (tests
          ++ (await_result operators m t c kind d ++ (pack c takes r first ++ (call ∷ result_code t c kind b d)))) 0
          (result_made kind b (temporary_register c d))
      called_block G low m tests takes call kind b d first r f ready packs named own calls last =
          let E = λ (y : ℕ). G y ⊎ IsOneOf made y in
          let await = await_result operators m t c kind d in
          let rest = call ∷ result_code t c kind b d in
          let args = pack c takes r first in
          let some = some_behind args rest (omega arith) in
          record {
            flows = followed p u P G tests (await ++ (args ++ rest)) 0 [] made f
                (λ S keeps none low'.
                followed p u P S await (args ++ rest) 0 waited made (await_flows p u P S low' m t c kind d own)
                (λ T keeps' waits low''.
                followed p u P T args rest 0 (packed takes r) made
                (pack_flows p u P c takes T low'' r first
                (ready_more G T c (λ y g. keeps' y (keeps y g)) takes first ready) packs)
                (λ U keeps3 all low3.
                (result_block U low3 call kind b d named own
                (are_in_more waited T U keeps3 (all_one_of waited T waits))
                (calls U (λ y g. keeps3 y (keeps' y (keeps y g))) low3 (λ j lt. all (r + j) (packed_has takes r j lt)))
                last).flows)));
            last = last_append p E tests (await ++ (args ++ rest)) (some_behind await (args ++ rest) some)
                (last_append p E await (args ++ rest) some
                (last_append p E args rest (omega arith) (result_last kind last)));
          }
        where
          into : ℕ
          into = temporary_register c d

          made : List ℕ
          made = result_made kind b into

          waited : List ℕ
          waited = awaited kind (first_free c)

          word_last : (b : Bool) → ((E : Registers) → AllFrom E into 1 → LastIn p E (call ∷ []))
              → LastIn p (λ y. G y ⊎ IsOneOf (value_of b into) y) (call ∷ untagged b into)
          word_last b last =
              last_untagged p u P (λ y. G y ⊎ IsOneOf (value_of b into) y) (call ∷ []) b into
              (last (λ y. G y ⊎ IsOneOf (value_of b into) y)
              (one_from (λ y. G y ⊎ IsOneOf (value_of b into) y) into (inr (inl refl))))

          result_last : (k : Kind) → ((E : Registers) → AllFrom E into (result_words k) → LastIn p E (call ∷ []))
              → LastIn p (λ y. G y ⊎ IsOneOf (result_made k b into) y) (call ∷ result_code t c k b d)
          result_last Void last = word_last b last
          result_last (OfScalar (Integer ty)) last = word_last b last
          result_last (Array n) last = word_last b last
          result_last (Structure n) last =
              receive_last p u P (λ y. G y ⊎ IsOneOf (value_of b into) y) call (runtime_number t) b into (first_free c)
          result_last (OfScalar Pointer) last =
              last (λ y. G y ⊎ IsOneOf (value_of true into) y)
              (value_from (λ y. G y ⊎ IsOneOf (value_of true into) y) into
              (all_one_of (value_of true into) (λ y. G y ⊎ IsOneOf (value_of true into) y) (λ y m. inr m)))

-- ---- how many registers

pub passed_total : (vs : List Variable) → total_count (map (λ v. passed_as v.kind) vs) ≡ total parameter_words vs
passed_total [] = refl
passed_total (v ∷ vs) = ap (λ n. register_count (passed_as v.kind) + n) (passed_total vs)

pub total_few : (vs : List Passed) → total_count vs ≤ 5 * length vs
total_few [] = omega arith
total_few (NoValue ∷ vs) = let le = total_few vs in omega (arith, le)
total_few (OneWord ∷ vs) = let le = total_few vs in omega (arith, le)
total_few (WithEntry ∷ vs) = let le = total_few vs in omega (arith, le)
