-- A propagated program does the same steps.
use Rattle.std.proofs.Common.{◌≡◌, ℕ, zero, suc, ◌+◌, ◌-◌, ◌*◌, ◌%◌, ◌/◌, ◌^◌, refl, sym, ap, ◌∙◌, subst}
use Rattle.std.proofs.Common.{arith, Bool, true, false, not, List, [], ◌∷◌, ◌++◌, Option, Some, None, add-one}
use Rattle.std.specs.Prelude.{slice_get, nat_le, ◌==◌, ◌&&◌, if◌then◌else◌}
use Rattle.std.specs.Option.{option_map}
use Rattle.std.proofs.lemmas.Option.{slice_get-map, same_Some, none-some}
use Rattle.std.proofs.lemmas.Bool.{eqb-true, eq-eqb, or_left, or_right}
use Rattle.behaviours.specs.Shown.{Read, Write}
use Rattle.behaviours.specs.Steps.{run}
use Rattle.addr_map.specs.declared.region.Region.TheVariants.{RuntimeCalls}
use Rattle.addr_map.specs.Places.{MapSizes, region_size, functions_begin, function_address}
use Rattle.words.specs.TwosComplement.{low_bits}
use Rattle.rv_isa.specs.declared.instruction.BranchOp.{BranchOp}
use Rattle.rv_isa.specs.declared.instruction.BranchOp.TheVariants.{Beq, Bne, Blt, Bge, Bltu, Bgeu}
use Rattle.rv_isa.specs.Results.{wrap, low_word, bit_of, branch_taken, reg_result, reg32_result, load_bytes, extended}
use Rattle.rv_isa.specs.Results.{store_bytes}
use Rattle.flat_code.specs.declared.instruction.RightOperand.{RightOperand}
use Rattle.flat_code.specs.declared.instruction.RightOperand.TheVariants.{Register, Number}
use Rattle.flat_code.specs.declared.instruction.FlatInstruction.{FlatInstruction}
use Rattle.flat_code.specs.declared.instruction.FlatInstruction.TheVariants.{Constant, Move, Operate, Operate32}
use Rattle.flat_code.specs.declared.instruction.FlatInstruction.TheVariants.{Load, Store, Branch, JumpForward}
use Rattle.flat_code.specs.declared.instruction.FlatInstruction.TheVariants.{JumpBack, Turn, Call, CallAddress}
use Rattle.flat_code.specs.declared.instruction.FlatInstruction.TheVariants.{Return, Get, Put, Exit, End, Charged}
use Rattle.flat_code.specs.declared.function.FlatFunction.{FlatFunction}
use Rattle.flat_code.specs.declared.function.FlatProgram.{FlatProgram}
use Rattle.flat_code.specs.Memory.{Bytes, AreBytes, store, load}
use Rattle.flat_code.specs.Spaces.{is_allowed}
use Rattle.flat_code.specs.State.{Values, State, Frame, Stage, Stands, Over, Stuck, seen}
use Rattle.flat_code.specs.Calls.{function_in, is_of_program, room_if, rooms, charged, arguments}
use Rattle.flat_code.specs.Calls.{function_at}
use Rattle.flat_code.specs.Meaning.{Context, Local, Goes, Ends, Leaves, Fails, right_value, with_register}
use Rattle.flat_code.specs.Meaning.{with_access, address_in, loads, stores, received, local, has_room, enters}
use Rattle.flat_code.specs.Meaning.{enters_at, parameters_of, results_of, returns, waiting, leaves, weight_of}
use Rattle.flat_code.specs.Meaning.{local_cost, cost, goes_to, body_of, is_runtime_function, context}
use Rattle.flat_code.specs.Meaning.{at_instruction, instruction_at, step, started, flat_meaning}
use Rattle.flat_code.specs.Words.{AreWords, HasWords}
use Rattle.flat_propagation.specs.declared.fact.Fact.{Fact}
use Rattle.flat_propagation.specs.declared.fact.Fact.TheVariants.{Unknown, Same, Word, Difference, Condition}
use Rattle.flat_propagation.specs.Facts.{Facts, nothing, Says, Hold, opposite}
use Rattle.flat_propagation.specs.Known.{source, source_but, right_source_but, copied, computed}
use Rattle.flat_propagation.specs.Known.{after, jumps_to, some_jumps_to, is_target, after_at, known_at}
use Rattle.flat_propagation.specs.Propagated.{is_short, takes, takes32, register_or_number, right_but, right_source}
use Rattle.flat_propagation.specs.Propagated.{unless_zero, if_zero, compared, compared_zero, branch_on, moved}
use Rattle.flat_propagation.specs.Propagated.{rewritten, rewritten_from, propagated_function, propagated}
use Rattle.flat_propagation.proofs.Holding.{either, holds_with, source_value, source_but_value, zero_value}
use Rattle.flat_propagation.proofs.Holding.{right_source_but_value, opposite_taken, copied_says, computed_says}
use Rattle.flat_propagation.proofs.Holding.{difference_zero, bit_zero, right_word}

-- ---- the kinds of instructions

-- what holds of copies and constants holds of a copy that is rewritten, and what holds of branches of a branch
pub moved_is : (P : FlatInstruction → Type 0) (x y : ℕ) → ((z : ℕ) → P (Move x z))
    → ((n : ℕ) → is_short n ≡ true → P (Constant x n)) → (fact : Fact) → P (moved fact x y)
moved_is P x y h k Unknown = h y
moved_is P x y h k (Same z) = h z
moved_is P x y h k (Word n) = either P (is_short n) (Constant x n) (Move x y) (λ e. k n e) (λ e. h y)
moved_is P x y h k (Difference a b) = h y
moved_is P x y h k (Condition op a b) = h y

pub branch_is : (P : FlatInstruction → Type 0) (past : ℕ)
    → ((op : BranchOp) (y : ℕ) (z : RightOperand) → P (Branch op y z past)) → (op : BranchOp) (fact : Fact) (y : ℕ)
    (b : RightOperand) → P (branch_on op fact y past b)
branch_is P past h op fact y (Register z) = h op (source fact y) (Register z)
branch_is P past h op fact y (Number n) =
    either P (n == 0) (compared_zero op fact y past) (compared op fact y past (Number n)) (λ e. zero_is op fact)
    (λ e. h op (source fact y) (Number n))
  where
    unless_is : (fact : Fact) → P (unless_zero fact y past)
    unless_is Unknown = h Bne y (Number 0)
    unless_is (Same z) = h Bne z (Number 0)
    unless_is (Word n) = h Bne y (Number 0)
    unless_is (Difference a b) = h Bne a b
    unless_is (Condition op a b) = h op a b

    if_is : (fact : Fact) → P (if_zero fact y past)
    if_is Unknown = h Beq y (Number 0)
    if_is (Same z) = h Beq z (Number 0)
    if_is (Word n) = h Beq y (Number 0)
    if_is (Difference a b) = h Beq a b
    if_is (Condition op a b) = h (opposite op) a b

    zero_is : (op : BranchOp) (fact : Fact) → P (compared_zero op fact y past)
    zero_is Bne fact = unless_is fact
    zero_is Beq fact = if_is fact
    zero_is Blt fact = h Blt (source fact y) (Number 0)
    zero_is Bge fact = h Bge (source fact y) (Number 0)
    zero_is Bltu fact = h Bltu (source fact y) (Number 0)
    zero_is Bgeu fact = h Bgeu (source fact y) (Number 0)

-- ---- an instruction that stays in its function

number_value : (fits : ℕ → Bool) (fact : Fact) (values : Values) (x y : ℕ) → Says fact values (values x)
    → values y ≡ values x → right_value (register_or_number fits fact y) values ≡ values x
number_value fits Unknown values x y h e = e
number_value fits (Same z) values x y h e = e
number_value fits (Word n) values x y h e =
    either (λ k. right_value k values ≡ values x) (fits n) (Number n) (Register y) (λ is. sym h) (λ is. e)
number_value fits (Difference a b) values x y h e = e
number_value fits (Condition op a b) values x y h e = e

right_but_value : (d : ℕ) (fits : ℕ → Bool) (k : Facts) (b : RightOperand) (values : Values) → Hold k values
    → right_value (right_but d fits k b) values ≡ right_value b values
right_but_value d fits k (Register x) values h =
    number_value fits (k x) values x (source_but d (k x) x) (h x) (source_but_value d (k x) values x (h x))
right_but_value d fits k (Number n) values h = refl

right_source_value : (k : Facts) (b : RightOperand) (values : Values) → Hold k values
    → right_value (right_source k b) values ≡ right_value b values
right_source_value k (Register x) values h =
    zero_value (k x) values x (source (k x) x) (h x) (source_value (k x) values x (h x))
right_source_value k (Number n) values h = refl

not_bit : (b : Bool) → not (bit_of b == 0) ≡ b
not_bit true = refl
not_bit false = refl

module _ (c : Context) (pc : ℕ) (s : State) where
  -- where a branch leads by whether it is taken
  abbrev goes_by : (past : ℕ) → Bool → Local
  goes_by past b = Goes (if b then pc + 1 + past else pc + 1) s

  zero_local : (op : BranchOp) (fact : Fact) (y : ℕ) (past : ℕ) → AreWords s.values
      → Says fact s.values (s.values y)
      → local c (compared_zero op fact y past) pc s ≡ goes_by past (branch_taken op (s.values y) 0)
  unfolding branch_taken
  zero_local Bne fact y past w h = by fact h
    where
      by : (fact : Fact) → Says fact s.values (s.values y)
          → local c (unless_zero fact y past) pc s ≡ goes_by past (branch_taken Bne (s.values y) 0)
      by Unknown h = refl
      by (Same z) h = ap (λ v. goes_by past (not (v == 0))) (sym h)
      by (Word n) h = refl
      by (Difference a b) h =
          ap (λ k. goes_by past (not k))
          (sym (ap (λ v. v == 0) h
          ∙ difference_zero (s.values a) (right_value b s.values) (w a) (right_word b s.values w)))
      by (Condition op a b) h =
          ap (goes_by past)
          (sym (ap (λ v. not (v == 0)) h ∙ not_bit (branch_taken op (s.values a) (right_value b s.values))))
  zero_local Beq fact y past w h = by fact h
    where
      by : (fact : Fact) → Says fact s.values (s.values y)
          → local c (if_zero fact y past) pc s ≡ goes_by past (branch_taken Beq (s.values y) 0)
      by Unknown h = refl
      by (Same z) h = ap (λ v. goes_by past (v == 0)) (sym h)
      by (Word n) h = refl
      by (Difference a b) h =
          ap (goes_by past)
          (sym (ap (λ v. v == 0) h
          ∙ difference_zero (s.values a) (right_value b s.values) (w a) (right_word b s.values w)))
      by (Condition op a b) h =
          ap (goes_by past)
          (opposite_taken op (s.values a) (right_value b s.values)
          ∙ sym (ap (λ v. v == 0) h ∙ bit_zero (branch_taken op (s.values a) (right_value b s.values))))
  zero_local Blt fact y past w h = ap (λ v. goes_by past (branch_taken Blt v 0)) (source_value fact s.values y h)
  zero_local Bge fact y past w h = ap (λ v. goes_by past (branch_taken Bge v 0)) (source_value fact s.values y h)
  zero_local Bltu fact y past w h = ap (λ v. goes_by past (branch_taken Bltu v 0)) (source_value fact s.values y h)
  zero_local Bgeu fact y past w h = ap (λ v. goes_by past (branch_taken Bgeu v 0)) (source_value fact s.values y h)

  compared_local : (op : BranchOp) (fact : Fact) (y past : ℕ) (b z : RightOperand) → Says fact s.values (s.values y)
      → right_value b s.values ≡ right_value z s.values
      → local c (compared op fact y past b) pc s ≡ local c (Branch op y z past) pc s
  compared_local op fact y past b z h e =
      ap (λ v. goes_by past (branch_taken op v (right_value b s.values))) (source_value fact s.values y h)
      ∙ ap (λ v. goes_by past (branch_taken op (s.values y) v)) e

  branch_local : (op : BranchOp) (fact : Fact) (y past : ℕ) (b z : RightOperand) → AreWords s.values
      → Says fact s.values (s.values y) → right_value b s.values ≡ right_value z s.values
      → local c (branch_on op fact y past b) pc s ≡ local c (Branch op y z past) pc s
  branch_local op fact y past (Register x) z w h e = compared_local op fact y past (Register x) z h e
  branch_local op fact y past (Number n) z w h e =
      either (λ i. local c i pc s ≡ local c (Branch op y z past) pc s) (n == 0) (compared_zero op fact y past)
      (compared op fact y past (Number n))
      (λ is.
      zero_local op fact y past w h
      ∙ ap (λ v. goes_by past (branch_taken op (s.values y) v)) (sym (ap (low_bits 64) (eqb-true n 0 is)) ∙ e))
      (λ is. compared_local op fact y past (Number n) z h e)

  moved_local : (fact : Fact) (x y : ℕ) → Says fact s.values (s.values y)
      → local c (moved fact x y) pc s ≡ local c (Move x y) pc s
  moved_local Unknown x y h = refl
  moved_local (Same z) x y h = ap (λ v. Goes (pc + 1) (with_register x v s)) (sym h)
  moved_local (Word n) x y h =
      either (λ i. local c i pc s ≡ local c (Move x y) pc s) (is_short n) (Constant x n) (Move x y)
      (λ e. ap (λ v. Goes (pc + 1) (with_register x v s)) (sym h)) (λ e. refl)
  moved_local (Difference a b) x y h = refl
  moved_local (Condition op a b) x y h = refl

  pub local_same : (k : Facts) (i : FlatInstruction) → AreWords s.values → Hold k s.values
      → local c (rewritten k i) pc s ≡ local c i pc s
  unfolding rewritten
  local_same k (Constant x n) w h = refl
  local_same k (Move x y) w h = moved_local (k y) x y (h y)
  local_same k (Operate op x y z) w h =
      ap (λ v. Goes (pc + 1) (with_register x (reg_result op v (right_value (right_but x (takes op) k z) s.values)) s))
      (source_but_value x (k y) s.values y (h y))
      ∙ ap (λ v. Goes (pc + 1) (with_register x (reg_result op (s.values y) v) s))
      (right_but_value x (takes op) k z s.values h)
  local_same k (Operate32 op x y z) w h =
      ap (λ v. Goes (pc + 1) (with_register x
      (reg32_result op (low_word v) (low_word (right_value (right_but x (takes32 op) k z) s.values))) s))
      (source_but_value x (k y) s.values y (h y))
      ∙ ap (λ v. Goes (pc + 1) (with_register x (reg32_result op (low_word (s.values y)) (low_word v)) s))
      (right_but_value x (takes32 op) k z s.values h)
  local_same k (Load op x y offset) w h =
      ap (λ v. loads c op x (wrap (v + offset)) pc s) (source_value (k y) s.values y (h y))
  local_same k (Store op y offset x) w h =
      ap (λ v. stores c op (wrap (v + offset)) (s.values (source (k x) x)) pc s) (source_value (k y) s.values y (h y))
      ∙ ap (λ v. stores c op (address_in s y offset) v pc s) (source_value (k x) s.values x (h x))
  local_same k (Branch op y z past) w h =
      branch_local op (k y) y past (right_source k z) z w (h y) (right_source_value k z s.values h)
  local_same k (JumpForward past) w h = refl
  local_same k (JumpBack back) w h = refl
  local_same k Turn w h = refl
  local_same k (Call f first x) w h = refl
  local_same k (CallAddress y first n x r) w h = refl
  local_same k (Return y) w h = refl
  local_same k (Get x) w h = refl
  local_same k (Put x) w h =
      ap (λ v. Goes (pc + 1) (record s { output = s.output ++ v % 256 ∷ [] })) (source_value (k x) s.values x (h x))
  local_same k (Exit x) w h = ap (λ v. Ends (v % 256) [] s) (source_value (k x) s.values x (h x))
  local_same k (End e) w h = refl
  local_same k (Charged x) w h = refl

-- ---- where jumps lead

jumps_among : (is : List FlatInstruction) (a n q : ℕ) (i : FlatInstruction) → slice_get is n ≡ Some i
    → jumps_to i (a + n) q ≡ true → some_jumps_to a is q ≡ true
unfolding some_jumps_to
jumps_among [] a n q i at e = absurd (none-some i at)
jumps_among (x ∷ xs) a zero q i at e =
    let z : a + 0 ≡ a = omega arith in
    or_left (jumps_to x a q) (some_jumps_to (a + 1) xs q)
    (subst (λ j. jumps_to j a q ≡ true) (sym (same_Some x i at)) (subst (λ n. jumps_to i n q ≡ true) z e))
jumps_among (x ∷ xs) a (suc n) q i at e =
    let z : a + suc n ≡ a + 1 + n = omega arith in
    or_right (jumps_to x a q) (some_jumps_to (a + 1) xs q)
    (jumps_among xs (a + 1) n q i at (subst (λ n. jumps_to i n q ≡ true) z e))

pub target_at : (body : List FlatInstruction) (pc q : ℕ) (i : FlatInstruction) → slice_get body pc ≡ Some i
    → jumps_to i pc q ≡ true → is_target body q ≡ true
target_at body pc q i at e =
    let z : pc ≡ 0 + pc = omega arith in
    jumps_among body 0 pc q i at (subst (λ n. jumps_to i n q ≡ true) z e)

pub target_knows : (body : List FlatInstruction) (q : ℕ) → is_target body q ≡ true → known_at body q ≡ nothing
unfolding known_at
target_knows body zero e = refl
target_knows body (suc q) e =
    ap (λ b. if b then nothing else after_at (known_at body q) (slice_get body q)) e

pub next_knows : (body : List FlatInstruction) (pc : ℕ) (i : FlatInstruction) → slice_get body pc ≡ Some i
    → (P : Facts → Type 0) → P nothing → P (after (known_at body pc) i) → P (known_at body (pc + 1))
unfolding known_at
next_knows body pc i at P none h = subst (λ n. P (known_at body n)) (sym (add-one pc)) (by pc at h)
  where
    by : (pc : ℕ) → slice_get body pc ≡ Some i → P (after (known_at body pc) i) → P (known_at body (suc pc))
    by pc at h =
        either P (is_target body (suc pc)) nothing (after_at (known_at body pc) (slice_get body pc)) (λ e. none)
        (λ e. subst (λ o. P (after_at (known_at body pc) o)) (sym at) h)

-- ---- programs

pub get_rewritten : (body is : List FlatInstruction) (a n : ℕ)
    → slice_get (rewritten_from body a is) n ≡ option_map (rewritten (known_at body (a + n))) (slice_get is n)
unfolding rewritten_from
get_rewritten body [] a n = refl
get_rewritten body (i ∷ is) a zero =
    let z : a ≡ a + 0 = omega arith in ap (λ m. Some (rewritten (known_at body m) i)) z
get_rewritten body (i ∷ is) a (suc n) =
    let z : a + 1 + n ≡ a + suc n = omega arith in
    get_rewritten body is (a + 1) n ∙ ap (λ m. option_map (rewritten (known_at body m)) (slice_get is n)) z

module _ (m : MapSizes) (p : FlatProgram) where
  abbrev q : FlatProgram
  q = propagated p

  pub function_same : (f : ℕ) → function_in q f ≡ option_map propagated_function (function_in p f)
  unfolding propagated
  function_same f = slice_get-map propagated_function p.functions f

  by_function : {A : Type 0} → (P : Option FlatFunction → A)
      → ((o : Option FlatFunction) → P (option_map propagated_function o) ≡ P o) → (f : ℕ)
      → P (function_in q f) ≡ P (function_in p f)
  by_function P h f = ap P (function_same f) ∙ h (function_in p f)

  pub parameters_same : (f : ℕ) → parameters_of (function_in q f) ≡ parameters_of (function_in p f)
  parameters_same f = by_function parameters_of by f
    where
      by : (o : Option FlatFunction) → parameters_of (option_map propagated_function o) ≡ parameters_of o
      by None = refl
      by (Some g) = refl

  pub results_same : (f : ℕ) → results_of (function_in q f) ≡ results_of (function_in p f)
  results_same f = by_function results_of by f
    where
      by : (o : Option FlatFunction) → results_of (option_map propagated_function o) ≡ results_of o
      by None = refl
      by (Some g) = refl

  pub room_same : (runtime : Bool) (f : ℕ) → room_if runtime (function_in q f) ≡ room_if runtime (function_in p f)
  room_same runtime f = by_function (room_if runtime) (by runtime) f
    where
      by : (runtime : Bool) (o : Option FlatFunction) → room_if runtime (option_map propagated_function o)
          ≡ room_if runtime o
      by runtime None = refl
      by true (Some g) = refl
      by false (Some g) = refl

  pub weight_same : (f : ℕ) → weight_of (function_in q f) ≡ weight_of (function_in p f)
  weight_same f = by_function weight_of by f
    where
      by : (o : Option FlatFunction) → weight_of (option_map propagated_function o) ≡ weight_of o
      by None = refl
      by (Some g) = refl

  pub runtime_same : (f : ℕ) → is_runtime_function (function_in q f) ≡ is_runtime_function (function_in p f)
  runtime_same f = by_function is_runtime_function by f
    where
      by : (o : Option FlatFunction) → is_runtime_function (option_map propagated_function o) ≡ is_runtime_function o
      by None = refl
      by (Some g) = refl

  pub of_program_same : (f : ℕ) → is_of_program (function_in q f) ≡ is_of_program (function_in p f)
  of_program_same f = by_function is_of_program by f
    where
      by : (o : Option FlatFunction) → is_of_program (option_map propagated_function o) ≡ is_of_program o
      by None = refl
      by (Some g) = refl

  pub body_same : (f : ℕ)
      → body_of (function_in q f) ≡ rewritten_from (body_of (function_in p f)) 0 (body_of (function_in p f))
  unfolding rewritten_from
  body_same f = ap body_of (function_same f) ∙ by (function_in p f)
    where
      by : (o : Option FlatFunction) → body_of (option_map propagated_function o)
          ≡ rewritten_from (body_of o) 0 (body_of o)
      by None = refl
      by (Some g) = refl

  -- what is known before an instruction
  abbrev pub known : (function place : ℕ) → Facts
  known f pc = known_at (body_of (function_in p f)) pc

  pub instruction_same : (f pc : ℕ)
      → instruction_at q f pc ≡ option_map (rewritten (known f pc)) (instruction_at p f pc)
  instruction_same f pc =
      let z : 0 + pc ≡ pc = omega arith in
      let body = body_of (function_in p f) in
      ap (λ l. slice_get l pc) (body_same f)
      ∙ get_rewritten body body 0 pc
      ∙ ap (λ n. option_map (rewritten (known_at body n)) (slice_get body pc)) z

  rooms_same : (runtime : Bool) (xs : List Frame) → rooms runtime q xs ≡ rooms runtime p xs
  unfolding rooms
  rooms_same runtime [] = refl
  rooms_same runtime (x ∷ xs) =
      ap (λ k. k + rooms runtime q xs) (room_same runtime x.function)
      ∙ ap (λ k. room_if runtime (function_in p x.function) + k) (rooms_same runtime xs)

  charged_same : (f : ℕ) (frames : List Frame) → charged q f frames ≡ charged p f frames
  charged_same f frames =
      ap (λ k. k + rooms false q frames) (room_same false f)
      ∙ ap (λ k. room_if false (function_in p f) + k) (rooms_same false frames)

  abbrev context_by : Bool → (charge weight : ℕ) → Context
  context_by b c w = record { sizes = m; is_runtime = b; charge = c; weight = w }

  context_same : (f : ℕ) (frames : List Frame) → context m q f frames ≡ context m p f frames
  context_same f frames =
      ap (λ b. context_by b (charged q f frames) (weight_of (function_in q f))) (runtime_same f)
      ∙ ap (λ c. context_by (is_runtime_function (function_in p f)) c (weight_of (function_in q f)))
      (charged_same f frames)
      ∙ ap (λ w. context_by (is_runtime_function (function_in p f)) (charged p f frames) w) (weight_same f)

  cost_same : (f : ℕ) (k : Facts) (i : FlatInstruction) → cost q f (rewritten k i) ≡ cost p f i
  unfolding rewritten
  cost_same f k (Constant x n) = weight_same f
  cost_same f k (Move x y) =
      moved_is (λ i. cost q f i ≡ weight_of (function_in p f)) x y (λ z. weight_same f) (λ n e. weight_same f) (k y)
  cost_same f k (Operate op x y z) = weight_same f
  cost_same f k (Operate32 op x y z) = weight_same f
  cost_same f k (Load op x y offset) = weight_same f
  cost_same f k (Store op y offset x) = weight_same f
  cost_same f k (Branch op y z past) =
      branch_is (λ i. cost q f i ≡ weight_of (function_in p f)) past (λ o a b. weight_same f) op (k y) y
      (right_source k z)
  cost_same f k (JumpForward past) = weight_same f
  cost_same f k (JumpBack back) = weight_same f
  cost_same f k Turn = weight_same f
  cost_same f k (Call g first x) = ap (λ n. 8 + 2 * n) (parameters_same g)
  cost_same f k (CallAddress y first n x r) = refl
  cost_same f k (Return y) = ap (λ n. 8 + 2 * n) (results_same f)
  cost_same f k (Get x) = ap (λ w. local_cost w (Get x)) (weight_same f)
  cost_same f k (Put x) = ap (λ w. local_cost w (Put x)) (weight_same f)
  cost_same f k (Exit x) = weight_same f
  cost_same f k (End e) = ap (λ w. local_cost w (End e)) (weight_same f)
  cost_same f k (Charged x) = weight_same f

  -- ---- calls and returns

  enters_same : (g first n r : ℕ) (o : Option FlatFunction) (frames : List Frame) (s : State)
      → enters m q g first n r (option_map propagated_function o) frames s ≡ enters m p g first n r o frames s
  enters_same g first n r None frames s = refl
  enters_same g first n r (Some callee) frames s =
      ap (λ k.
      if (callee.parameters == n) && ((callee.results == r) &&
      (nat_le (room_if false (Some callee) + k) m.budgets.calls
      && nat_le (room_if true (Some callee) + rooms true q frames) (region_size m RuntimeCalls)))
      then Stands g 0 (record s { values = arguments first n s.values }) frames else Stuck) (rooms_same false frames)
      ∙ ap (λ k.
      if (callee.parameters == n) && ((callee.results == r) &&
      (nat_le (room_if false (Some callee) + rooms false p frames) m.budgets.calls
      && nat_le (room_if true (Some callee) + k) (region_size m RuntimeCalls)))
      then Stands g 0 (record s { values = arguments first n s.values }) frames else Stuck) (rooms_same true frames)

  called_same : (g first n r : ℕ) (frames : List Frame) (s : State)
      → enters m q g first n r (function_in q g) frames s ≡ enters m p g first n r (function_in p g) frames s
  called_same g first n r frames s =
      ap (λ o. enters m q g first n r o frames s) (function_same g)
      ∙ enters_same g first n r (function_in p g) frames s

  function_at_same : (a : ℕ) → function_at q a ≡ function_at p a
  unfolding function_at
  function_at_same a =
      let k = (a - functions_begin) / 16 in
      ap (λ b. if function_address k == a && b then Some k else None) (of_program_same k)

  enters_at_same : (o : Option ℕ) (first n r : ℕ) (frames : List Frame) (s : State)
      → enters_at m q o first n r frames s ≡ enters_at m p o first n r frames s
  enters_at_same None first n r frames s = refl
  enters_at_same (Some g) first n r frames s = called_same g first n r frames s

  leaves_same : (k : Facts) (i : FlatInstruction) (f pc : ℕ) (s : State) (frames : List Frame) → Hold k s.values
      → leaves m q (rewritten k i) f pc s frames ≡ leaves m p i f pc s frames
  unfolding rewritten
  leaves_same k (Constant x n) f pc s frames h = refl
  leaves_same k (Move x y) f pc s frames h =
      moved_is (λ i. leaves m q i f pc s frames ≡ Stuck) x y (λ z. refl) (λ n e. refl) (k y)
  leaves_same k (Operate op x y z) f pc s frames h = refl
  leaves_same k (Operate32 op x y z) f pc s frames h = refl
  leaves_same k (Load op x y offset) f pc s frames h = refl
  leaves_same k (Store op y offset x) f pc s frames h = refl
  leaves_same k (Branch op y z past) f pc s frames h =
      branch_is (λ i. leaves m q i f pc s frames ≡ Stuck) past (λ o a b. refl) op (k y) y (right_source k z)
  leaves_same k (JumpForward past) f pc s frames h = refl
  leaves_same k (JumpBack back) f pc s frames h = refl
  leaves_same k Turn f pc s frames h = refl
  leaves_same k (Call g first x) f pc s frames h =
      let w = waiting f pc x s ∷ frames in
      ap (λ n. enters m q g first n (results_of (function_in q g)) (function_in q g) w s) (parameters_same g)
      ∙ ap (λ r. enters m q g first (parameters_of (function_in p g)) r (function_in q g) w s) (results_same g)
      ∙ called_same g first (parameters_of (function_in p g)) (results_of (function_in p g)) w s
  leaves_same k (CallAddress y first n x r) f pc s frames h =
      let w = waiting f pc x s ∷ frames in
      ap (λ v. enters_at m q (function_at q v) first n r w s) (source_value (k y) s.values y (h y))
      ∙ ap (λ o. enters_at m q o first n r w s) (function_at_same (s.values y))
      ∙ enters_at_same (function_at p (s.values y)) first n r w s
  leaves_same k (Return y) f pc s frames h = ap (λ n. returns n y frames s) (results_same f)
  leaves_same k (Get x) f pc s frames h = refl
  leaves_same k (Put x) f pc s frames h = refl
  leaves_same k (Exit x) f pc s frames h = refl
  leaves_same k (End e) f pc s frames h = refl
  leaves_same k (Charged x) f pc s frames h = refl

  goes_same : (k : Facts) (i : FlatInstruction) (f pc : ℕ) (s : State) (frames : List Frame) → Hold k s.values
      → (l : Local) → goes_to m q (rewritten k i) f pc s frames l ≡ goes_to m p i f pc s frames l
  goes_same k i f pc s frames h (Goes n s') = refl
  goes_same k i f pc s frames h (Ends status report s') = refl
  goes_same k i f pc s frames h Leaves = leaves_same k i f pc s frames h
  goes_same k i f pc s frames h Fails = refl

  -- ---- what is known of a stage

  -- behind a call nothing is known
  abbrev Wait : List Frame → Type 0
  Wait [] = Unit {0}
  Wait (x ∷ xs) = ((values : Values) → Hold (known x.function x.next) values) × Wait xs

  abbrev Knows : Stage → Type 0
  Knows (Stands f pc s frames) = Hold (known f pc) s.values × Wait frames
  Knows (Over status report s) = Unit {0}
  Knows Stuck = Unit {0}

  at_same : (f pc : ℕ) (s : State) (frames : List Frame) (o : Option FlatInstruction) → AreWords s.values
      → Hold (known f pc) s.values
      → at_instruction m q (option_map (rewritten (known f pc)) o) f pc s frames ≡ at_instruction m p o f pc s frames
  at_same f pc s frames None w h = refl
  at_same f pc s frames (Some i) w h =
      let k = known f pc in
      let t : State = record s { work = s.work + cost p f i } in
      ap (λ n. goes_to m q (rewritten k i) f pc (record s { work = s.work + n }) frames
      (local (context m q f frames) (rewritten k i) pc (record s { work = s.work + n }))) (cost_same f k i)
      ∙ ap (λ c. goes_to m q (rewritten k i) f pc t frames (local c (rewritten k i) pc t)) (context_same f frames)
      ∙ ap (goes_to m q (rewritten k i) f pc t frames) (local_same (context m p f frames) pc t k i w h)
      ∙ goes_same k i f pc t frames h (local (context m p f frames) i pc t)

  step_same : (x : Stage) → HasWords x → Knows x → step m q x ≡ step m p x
  step_same (Stands f pc s frames) w h =
      ap (λ o. at_instruction m q o f pc s frames) (instruction_same f pc)
      ∙ at_same f pc s frames (instruction_at p f pc) w.0.values h.0
  step_same (Over status report s) w h = refl
  step_same Stuck w h = refl

  -- ---- and stays known

  module _ (f pc : ℕ) (i : FlatInstruction) (at : instruction_at p f pc ≡ Some i) where
    abbrev body : List FlatInstruction
    body = body_of (function_in p f)

    next : (values : Values) → Hold (after (known f pc) i) values → Hold (known f (pc + 1)) values
    next values h = next_knows body pc i at (λ k. Hold k values) (λ y. tt) h

    jump : (n : ℕ) (values : Values) → jumps_to i pc n ≡ true → Hold (known f n) values
    jump n values e =
        subst (λ (k : Facts). Hold k values) (sym (target_knows body n (target_at body pc n i at e))) (λ y. tt)

  abbrev LocalKnows : (f : ℕ) → Local → Type 0
  LocalKnows f (Goes n s) = Hold (known f n) s.values
  LocalKnows f (Ends status report s) = Unit {0}
  LocalKnows f Leaves = Unit {0}
  LocalKnows f Fails = Unit {0}

  local_knows : (c : Context) (f pc : ℕ) (s : State) (i : FlatInstruction) → instruction_at p f pc ≡ Some i
      → AreWords s.values → Hold (known f pc) s.values → LocalKnows f (local c i pc s)
  unfolding after
  local_knows c f pc s (Constant x n) at w h =
      next f pc (Constant x n) at _ (holds_with (known f pc) s.values x (low_bits 64 n) (Word n) h refl)
  local_knows c f pc s (Move x y) at w h =
      next f pc (Move x y) at _
      (holds_with (known f pc) s.values x (s.values y) (copied (known f pc y) y) h
      (copied_says (known f pc y) s.values y (h y)))
  local_knows c f pc s (Operate op x y z) at w h =
      let k = known f pc in
      let z' = right_source_but x k z in
      next f pc (Operate op x y z) at _
      (holds_with k s.values x (reg_result op (s.values y) (right_value z s.values))
      (computed op (k y) (source_but x (k y) y) z') h
      (subst (λ v. Says (computed op (k y) (source_but x (k y) y) z') s.values (reg_result op (s.values y) v))
      (right_source_but_value x k z s.values h)
      (computed_says op (k y) s.values y (source_but x (k y) y) z' w (h y)
      (source_but_value x (k y) s.values y (h y)))))
  local_knows c f pc s (Operate32 op x y z) at w h =
      next f pc (Operate32 op x y z) at _
      (holds_with (known f pc) s.values x
      (reg32_result op (low_word (s.values y)) (low_word (right_value z s.values))) Unknown h tt)
  local_knows c f pc s (Load op x y offset) at w h =
      let a = address_in s y offset in
      let v = extended op (load (load_bytes op) s.memory a) in
      let t = with_access c a (load_bytes op) Read s in
      either (LocalKnows f) (is_allowed c.sizes a (load_bytes op)) (Goes (pc + 1) (with_register x v t)) Fails
      (λ e. next f pc (Load op x y offset) at _
      (holds_with (known f pc) t.values x v Unknown
      (either (λ (t : State). Hold (known f pc) t.values) _ _ s (λ b. h) (λ b. h)) tt)) (λ e. tt)
  local_knows c f pc s (Store op y offset x) at w h =
      let a = address_in s y offset in
      let t : State = record s { memory = store (store_bytes op) s.memory a (s.values x) } in
      either (LocalKnows f) (is_allowed c.sizes a (store_bytes op))
      (Goes (pc + 1) (with_access c a (store_bytes op) Write t)) Fails
      (λ e. next f pc (Store op y offset x) at _
      (either (λ (t : State). Hold (known f pc) t.values) _ _ t (λ b. h) (λ b. h))) (λ e. tt)
  local_knows c f pc s (Branch op y z past) at w h =
      either (λ n. Hold (known f n) s.values) (branch_taken op (s.values y) (right_value z s.values)) (pc + 1 + past)
      (pc + 1) (λ e. jump f pc (Branch op y z past) at (pc + 1 + past) s.values (eq-eqb (pc + 1 + past) _ refl))
      (λ e. next f pc (Branch op y z past) at s.values h)
  local_knows c f pc s (JumpForward past) at w h =
      jump f pc (JumpForward past) at (pc + 1 + past) s.values (eq-eqb (pc + 1 + past) _ refl)
  local_knows c f pc s (JumpBack back) at w h =
      jump f pc (JumpBack back) at (pc - back) s.values (eq-eqb (pc - back) _ refl)
  local_knows c f pc s Turn at w h = next f pc Turn at s.values h
  local_knows c f pc s (Call g first x) at w h = tt
  local_knows c f pc s (CallAddress y first n x r) at w h = tt
  local_knows c f pc s (Return y) at w h = tt
  local_knows c f pc s (Get x) at w h = by (slice_get s.input 0)
    where
      by : (o : Option ℕ) → LocalKnows f (Goes (pc + 1) (received x o s))
      by None = next f pc (Get x) at _ (holds_with (known f pc) s.values x (2 ^ 64 - 1) Unknown h tt)
      by (Some byte) = next f pc (Get x) at _ (holds_with (known f pc) s.values x (byte % 256) Unknown h tt)
  local_knows c f pc s (Put x) at w h = next f pc (Put x) at s.values h
  local_knows c f pc s (Exit x) at w h = tt
  local_knows c f pc s (End e) at w h = tt
  local_knows c f pc s (Charged x) at w h =
      next f pc (Charged x) at _ (holds_with (known f pc) s.values x (wrap c.charge) Unknown h tt)

  enters_knows : (g first n r : ℕ) (o : Option FlatFunction) (frames : List Frame) (s : State) → Wait frames
      → Knows (enters m p g first n r o frames s)
  unfolding known_at
  enters_knows g first n r None frames s w = tt
  enters_knows g first n r (Some callee) frames s w =
      either Knows ((callee.parameters == n) && ((callee.results == r) && has_room m p frames callee))
      (Stands g 0 (record s { values = arguments first n s.values }) frames) Stuck (λ e. (λ y. tt, w)) (λ e. tt)

  enters_at_knows : (o : Option ℕ) (first n r : ℕ) (frames : List Frame) (s : State) → Wait frames
      → Knows (enters_at m p o first n r frames s)
  enters_at_knows None first n r frames s w = tt
  enters_at_knows (Some g) first n r frames s w = enters_knows g first n r (function_in p g) frames s w

  returns_knows : (n y : ℕ) (frames : List Frame) (s : State) → Wait frames → Knows (returns n y frames s)
  returns_knows n y [] s w = tt
  returns_knows n y (x ∷ xs) s w = (w.0 _, w.1)

  leaves_knows : (f pc : ℕ) (s : State) (frames : List Frame) (i : FlatInstruction) → instruction_at p f pc ≡ Some i
      → Wait frames → Knows (leaves m p i f pc s frames)
  unfolding after
  leaves_knows f pc s frames (Call g first x) at w =
      enters_knows g first (parameters_of (function_in p g)) (results_of (function_in p g)) (function_in p g)
      (waiting f pc x s ∷ frames) s (λ values. next f pc (Call g first x) at values (λ y. tt), w)
  leaves_knows f pc s frames (CallAddress y first n x r) at w =
      enters_at_knows (function_at p (s.values y)) first n r (waiting f pc x s ∷ frames) s
      (λ values. next f pc (CallAddress y first n x r) at values (λ z. tt), w)
  leaves_knows f pc s frames (Return y) at w = returns_knows (results_of (function_in p f)) y frames s w
  leaves_knows f pc s frames (Constant x n) at w = tt
  leaves_knows f pc s frames (Move x y) at w = tt
  leaves_knows f pc s frames (Operate op x y z) at w = tt
  leaves_knows f pc s frames (Operate32 op x y z) at w = tt
  leaves_knows f pc s frames (Load op x y offset) at w = tt
  leaves_knows f pc s frames (Store op y offset x) at w = tt
  leaves_knows f pc s frames (Branch op y z past) at w = tt
  leaves_knows f pc s frames (JumpForward past) at w = tt
  leaves_knows f pc s frames (JumpBack back) at w = tt
  leaves_knows f pc s frames Turn at w = tt
  leaves_knows f pc s frames (Get x) at w = tt
  leaves_knows f pc s frames (Put x) at w = tt
  leaves_knows f pc s frames (Exit x) at w = tt
  leaves_knows f pc s frames (End e) at w = tt
  leaves_knows f pc s frames (Charged x) at w = tt

  goes_knows : (f pc : ℕ) (s : State) (frames : List Frame) (i : FlatInstruction) → instruction_at p f pc ≡ Some i
      → Wait frames → (l : Local) → LocalKnows f l → Knows (goes_to m p i f pc s frames l)
  goes_knows f pc s frames i at w (Goes n s') h = (h, w)
  goes_knows f pc s frames i at w (Ends status report s') h = tt
  goes_knows f pc s frames i at w Leaves h = leaves_knows f pc s frames i at w
  goes_knows f pc s frames i at w Fails h = tt

  at_knows : (f pc : ℕ) (s : State) (frames : List Frame) (o : Option FlatInstruction) → instruction_at p f pc ≡ o
      → AreWords s.values → Hold (known f pc) s.values → Wait frames
      → Knows (at_instruction m p o f pc s frames)
  at_knows f pc s frames None at words h w = tt
  at_knows f pc s frames (Some i) at words h w =
      let t : State = record s { work = s.work + cost p f i } in
      goes_knows f pc t frames i at w (local (context m p f frames) i pc t)
      (local_knows (context m p f frames) f pc t i at words h)

  step_knows : (x : Stage) → HasWords x → Knows x → Knows (step m p x)
  step_knows (Stands f pc s frames) w h = at_knows f pc s frames (instruction_at p f pc) refl w.0.values h.0 h.1
  step_knows (Over status report s) w h = tt
  step_knows Stuck w h = tt

  run_same : ((x : Stage) → HasWords x → HasWords (step m p x)) → (n : ℕ) (x : Stage) → HasWords x → Knows x
      → run (step m q) n x ≡ run (step m p) n x
  run_same keeps zero x w h = refl
  run_same keeps (suc n) x w h =
      ap (run (step m q) n) (step_same x w h)
      ∙ run_same keeps n (step m p x) (keeps x w) (step_knows x w h)

  pub same_run : ((x : Stage) → HasWords x → HasWords (step m p x)) → (memory : Bytes) (input : List ℕ)
      → AreBytes memory → (n : ℕ) → run (step m q) n (started q memory input) ≡ run (step m p) n (started p memory input)
  unfolding propagated known_at
  same_run keeps memory input bytes n =
      run_same keeps n (started p memory input)
      (record { values = λ x. omega arith; memory = bytes }, tt) (λ y. tt, tt)

  pub same_meaning : ((x : Stage) → HasWords x → HasWords (step m p x)) → (memory : Bytes) (input : List ℕ)
      → AreBytes memory → (n : ℕ) → flat_meaning m q memory input n ≡ flat_meaning m p memory input n
  same_meaning keeps memory input bytes n = ap seen (same_run keeps memory input bytes n)
