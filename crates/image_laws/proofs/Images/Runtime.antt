-- What stands before compiled code has room: the jump table, the start, and the function with which a run begins.
use Rattle.std.proofs.Common.{◌≡◌, ℕ, zero, suc, ◌+◌, ◌-◌, ◌*◌, ◌==◌, ◌<◌, ◌≤◌, Bool, true, false, not}
use Rattle.std.proofs.Common.{◌&&◌, nat_lt, List, [], ◌∷◌, ◌++◌, map, length, length-append, Option, Some, None, refl}
use Rattle.std.proofs.Common.{sym, ap, ◌∙◌, subst, arith}
use Rattle.std.specs.Prelude.{if◌then◌else◌, slice_get}
use Rattle.std.specs.Option.{option_map}
use Rattle.std.proofs.lemmas.Bool.{and_parts, eqb-true}
use Rattle.std.proofs.lemmas.List.{length-map}
use Rattle.sb_base.specs.declared.ending.Ending.TheVariants.{Stack}
use Rattle.sb_base.specs.declared.ending.Ending.{Ending}
use Rattle.addr_map.specs.Places.{MapSizes, functions_begin, code_begin}
use Rattle.words.specs.TwosComplement.{low_bits}
use Rattle.rv_isa.specs.declared.instruction.ShiftOp.TheVariants.{Srli}
use Rattle.rv_isa.specs.declared.instruction.Instr.TheVariants.{Op, OpImm, ShiftImm, Ecall, Jalr}
use Rattle.rv_isa.specs.declared.instruction.ImmOp.TheVariants.{Addi}
use Rattle.rv_isa.specs.declared.instruction.RegOp.TheVariants.{Sub}
use Rattle.rv_isa.specs.declared.instruction.BranchOp.{BranchOp}
use Rattle.rv_isa.specs.declared.instruction.BranchOp.TheVariants.{Bltu}
use Rattle.rv_isa.specs.Table.{word_of}
use Rattle.rv_asm.specs.declared.form.Form.{Form}
use Rattle.rv_asm.specs.declared.form.Form.TheVariants.{Short, Near, Far}
use Rattle.rv_asm.specs.declared.item.Item.{Item}
use Rattle.rv_asm.specs.declared.item.Item.TheVariants as item
use Rattle.rv_asm.specs.Forms.{forms_of, label_place, size_of, target_place}
use Rattle.rv_asm.specs.Words.{jump_instrs, instrs_of, words_from, words_of}
use Rattle.tac_ir.specs.declared.function.CodeFunction.{CodeFunction}
use Rattle.tac_ir.specs.declared.function.Tac.{Tac}
use Rattle.tac_ir.specs.Meaning.{function_in, line_in}
use Rattle.flat_code.specs.declared.instruction.RightOperand.TheVariants as right
use Rattle.flat_code.specs.declared.instruction.FlatInstruction.{FlatInstruction}
use Rattle.flat_code.specs.declared.instruction.FlatInstruction.TheVariants as flat
use Rattle.flat_code.specs.declared.function.FlatFunction.{FlatFunction}
use Rattle.flat_code.specs.declared.function.FlatProgram.{FlatProgram}
use Rattle.flat_code.specs.Calls.{function_in as flat_function}
use Rattle.flat_code.specs.Meaning.{body_of as body_in, parameters_of, results_of}
use Rattle.reg_plan.specs.declared.plan.FunctionPlan.{FunctionPlan}
use Rattle.reg_plan.specs.Effects.{is_among, many}
use Rattle.reg_plan.specs.Accepted.{is_live}
use Rattle.reg_plan.specs.Planned.{ArePlannable, ArePlanned, IsPlanOfRegisters}
use Rattle.reg_plan.proofs.Plans.{needed_is_named}
use Rattle.machine_laws.specs.Blocks.Places.{callee_scratch, right_scratch}
use Rattle.machine_laws.specs.Blocks.Blocks.{constant, used, fetch, keep, store_at}
use Rattle.machine_laws.proofs.Blocks.Lengths.{constant_length, fetch_length, keep_length, store_length}
use Rattle.machine_laws.proofs.Blocks.Lengths.{choice}
use Rattle.machine_laws.proofs.Blocks.Reports.{choice_few}
use Rattle.machine_laws.specs.Calls.Calls.{Keeping, save, restore, save_one, restore_one, give, take, advance, retreat}
use Rattle.machine_laws.specs.Calls.Calls.{call_block, back_block, entry_block}
use Rattle.machine_laws.proofs.Calls.Lengths.{give_length, take_length, advance_most, retreat_most}
use Rattle.machine_laws.specs.Following.Code.{keeping_of, keeping, block, wanted, charged_from}
use Rattle.machine_laws.proofs.Following.Bounds.{turn_bound}
use Rattle.machine_laws.specs.Calls.Table.{tails_address, row_address}
use Rattle.machine_laws.proofs.Calls.Table.{tails_length}
use Rattle.machine_laws.specs.Segments.Segments.{table_instrs}
use Rattle.image_laws.proofs.CodeSizes.Blocks.{ends}
use Rattle.machine_laws.specs.Layout.Lists.{plain, tail_of, items_at, items_from, items_of}
use Rattle.machine_laws.specs.Segments.Segments.{is_of, function_words, words_if, words_below, rows_below, table_bytes}
use Rattle.machine_laws.proofs.Segments.Standing.{first_length}
use Rattle.metadata_plan.specs.Blocks.{entry_code, room_in}
use Rattle.metadata_plan.specs.Laid.{functions_of, entry_of, program_of}
use Rattle.metadata_plan.specs.OperatorLists.Operators.{operators}
use Rattle.flat_propagation.specs.Facts.{with_fact}
use Rattle.flat_propagation.specs.Known.{after, some_jumps_to, known_at}
use Rattle.flat_propagation.specs.Propagated.{rewritten, rewritten_from, propagated_function}
use Rattle.flat_propagation.proofs.Holding.{either}
use Rattle.flat_propagation.proofs.Meaning.{function_same, results_same}
use Rattle.metadata_expansion.specs.Homes.{homes}
use Rattle.image_laws.specs.Images.Images.{flat_code}
use Rattle.image_laws.proofs.Images.Programs.{last_at}
use Rattle.image_laws.proofs.Propagation.Programs.{count_same, side_same}

-- ---- words of a list

jump_most : (f : Form) (rd p t : ℕ) → length (jump_instrs f rd p t) ≤ 2
jump_most Short rd p t = omega arith
jump_most Near rd p t = omega arith
jump_most Far rd p t = omega arith

item_most : (f : Form) (p t : ℕ) (i : Item) → length (instrs_of f p t i) ≤ 3
item_most f p t (item.Label l) = omega arith
item_most f p t (item.Instr i) = omega arith
item_most f p t (item.Jump l) = let j = jump_most f 0 p t in omega (arith, j)
item_most f p t (item.Call l) = let j = jump_most f 1 p t in omega (arith, j)
item_most Short p t (item.Branch op a b l) = omega arith
item_most Near p t (item.Branch op a b l) = omega arith
item_most Far p t (item.Branch op a b l) = omega arith

words_most : (places : ℕ → ℕ) (p : ℕ) (fs : List Form) (items : List Item)
    → length (words_from places p fs items) ≤ 3 * length items
words_most places p [] items = omega arith
words_most places p (f ∷ fs) [] = omega arith
words_most places p (f ∷ fs) (i ∷ is) =
    let here = instrs_of f p (target_place places i) i in
    let a = item_most f p (target_place places i) i in
    let b = words_most places (p + size_of f i) fs is in
    let c = length-append (map word_of here) (words_from places (p + size_of f i) fs is) in
    let d = length-map here word_of in
    omega (arith, a, b, c, d)

function_most : (m : MapSizes) (p : FlatProgram) (plans : List FunctionPlan) (f : ℕ)
    → length (function_words m p plans f) ≤ 3 * length (items_of m p plans f)
unfolding words_of
function_most m p plans f =
    let items = items_of m p plans f in
    words_most (label_place (forms_of items) items 0) 0 (forms_of items) items

-- ---- values that wait

module _ (k : Keeping) (asked : ℕ → Bool) (none : (y : ℕ) → asked y ≡ false) where
  save_none : (n : ℕ) → length (save k asked n) ≡ 0
  unfolding save
  save_none zero = refl
  save_none (suc n) =
      let one = save_one (k.place n) k.base (k.home n) in
      length-append (save k asked n) (if asked n then one else [])
      ∙ ap (λ z. z + length (if asked n then one else [])) (save_none n)
      ∙ ap (λ b. 0 + length (if b then one else [])) (none n)

  restore_none : (n : ℕ) → length (restore k asked n) ≡ 0
  unfolding restore
  restore_none zero = refl
  restore_none (suc n) =
      let one = restore_one (k.place n) k.base (k.home n) in
      length-append (restore k asked n) (if asked n then one else [])
      ∙ ap (λ z. z + length (if asked n then one else [])) (restore_none n)
      ∙ ap (λ b. 0 + length (if b then one else [])) (none n)

-- ---- the items of instructions

number_most : (w : ℕ) → length (if w == 0 then [] else constant 6 (low_bits 64 w)) ≤ 11
number_most w = by (w == 0)
  where
    by : (b : Bool) → length (if b then [] else constant 6 (low_bits 64 w)) ≤ 11
    by true = omega arith
    by false = constant_length 6 (low_bits 64 w)

module _ (m : MapSizes) (p : FlatProgram) (plans : List FunctionPlan) (f n : ℕ) where
  tail_most : (k : Keeping) (pc : ℕ) (i : FlatInstruction) → length (tail_of k n pc i) ≤ 1
  tail_most k pc (flat.Branch op y z past) = omega arith
  tail_most k pc (flat.JumpForward zero) = omega arith
  tail_most k pc (flat.JumpForward (suc past)) = omega arith
  tail_most k pc (flat.JumpBack back) = omega arith
  tail_most k pc _ = omega arith

  more_items : (pc : ℕ) (i : FlatInstruction) (is : List FlatInstruction) (a b : ℕ)
      → length (block m p plans f pc i) ≤ a → length (items_from m p plans f n (suc pc) is) ≤ b
      → length (items_from m p plans f n pc (i ∷ is)) ≤ a + b + 2
  more_items pc i is a b few rest =
      let own = block m p plans f pc i in
      let tail = tail_of (keeping p plans f) n pc i in
      let one = tail_most (keeping p plans f) pc i in
      let l = length-append (items_at m p plans f n pc i) (items_from m p plans f n (suc pc) is) in
      let j = length-append (plain own) tail in
      let c = length-map own item.Instr in
      omega (arith, few, rest, one, l, j, c)

  charged_most : (pc x : ℕ) → length (block m p plans f pc (flat.Charged x)) ≤ 16
  unfolding block
  charged_most pc x =
      let k = keeping p plans f in
      let a = constant_length 6 (charged_from m p f) in
      let b = keep_length (k.place x) k.base 5 in
      let half = Op Sub 5 2 6 ∷ ShiftImm Srli (used (k.place x) 5) 5 1 ∷ keep (k.place x) k.base 5 in
      let c = length-append (constant 6 (charged_from m p f)) half in
      choice (not (k.live (pc + 1) x)) [] (constant 6 (charged_from m p f) ++ half) 16 (omega arith) (omega arith)

  branch_most : (pc : ℕ) (op : BranchOp) (y w past : ℕ)
      → length (block m p plans f pc (flat.Branch op y (right.Number w) past)) ≤ 14
  unfolding block
  branch_most pc op y w past =
      let k = keeping p plans f in
      let a = fetch_length (k.place y) k.base 5 in
      let b = number_most w in
      let c = length-append (fetch (k.place y) k.base 5) (if w == 0 then [] else constant 6 (low_bits 64 w)) in
      omega arith

  exit_most : (pc x : ℕ) → length (block m p plans f pc (flat.Exit x)) ≤ 6
  unfolding block
  exit_most pc x =
      let k = keeping p plans f in
      let a = fetch_length (k.place x) k.base 5 in
      let c = length-append (fetch (k.place x) k.base 5)
      (OpImm Addi 10 (used (k.place x) 5) 0 ∷ OpImm Addi 17 0 93 ∷ Ecall ∷ []) in
      omega arith

  -- no value waits for a call
  call_most : (pc g first x : ℕ)
      → ((y : ℕ) → wanted (keeping p plans f) pc x (results_of (flat_function p g)) y ≡ false)
      → parameters_of (flat_function p g) ≤ 1024 → results_of (flat_function p g) ≤ 1024
      → length (block m p plans f pc (flat.Call g first x)) ≤ 12400
  unfolding block
  call_most pc g first x none few results =
      let k = keeping p plans f in
      let n = parameters_of (flat_function p g) in
      let r = results_of (flat_function p g) in
      let w = wanted k pc x r in
      let aim = constant callee_scratch (row_address p g) in
      let saves = save_none k w none k.count in
      let restores = restore_none k w none k.count in
      let gives = give_length k first n in
      let takes = take_length k (pc + 1) x r in
      let aims = constant_length callee_scratch (row_address p g) in
      let rooms = constant_length right_scratch k.room in
      let up = advance_most k 11 rooms in
      let down = retreat_most k 11 rooms in
      let a = length-append (save k w k.count) (give k first n ++ (aim ++ advance k)) in
      let b = length-append (give k first n) (aim ++ advance k) in
      let c = length-append aim (advance k) in
      let d = length-append (call_block k w first n aim) (Jalr 1 callee_scratch 0 ∷ []) in
      let e = length-append (retreat k) (restore k w k.count ++ take k (pc + 1) x r) in
      let h = length-append (restore k w k.count) (take k (pc + 1) x r) in
      let all = length-append (call_block k w first n aim ++ (Jalr 1 callee_scratch 0 ∷ []))
      (back_block k w (pc + 1) x r) in
      omega arith

-- ---- an ending

ends_short : (m : MapSizes) (p : FlatProgram) (plans : List FunctionPlan) (f pc : ℕ) (e : Ending)
    → length (block m p plans f pc (flat.End e)) ≤ 4
unfolding block
ends_short m p plans f pc e = ends (tails_address p) e

-- ---- the functions of a flat program

module _ (m : MapSizes) (t : Tac) where
  of_program : (cs : List CodeFunction) (last : FlatFunction) (k : ℕ) → k < length cs
      → is_of true (slice_get (functions_of operators m t homes cs ++ (last ∷ [])) k) ≡ false
  of_program [] last k lt = absurd (omega arith)
  of_program (c ∷ cs) last zero lt = refl
  of_program (c ∷ cs) last (suc k) lt = of_program cs last k (omega arith)

  one_result : (cs : List CodeFunction) (last : FlatFunction) (k : ℕ) → k < length cs
      → results_of (slice_get (functions_of operators m t homes cs ++ (last ∷ [])) k) ≡ 1
  one_result [] last k lt = absurd (omega arith)
  one_result (c ∷ cs) last zero lt = refl
  one_result (c ∷ cs) last (suc k) lt = one_result cs last k (omega arith)

  count_of : (cs : List CodeFunction) → length (functions_of operators m t homes cs) ≡ length cs
  count_of [] = refl
  count_of (c ∷ cs) = ap suc (count_of cs)

  pub code_count : length (program_of operators m t homes).functions ≡ length t.functions + 1
  code_count =
      length-append (functions_of operators m t homes t.functions) (entry_of m t ∷ [])
      ∙ ap (λ n. n + 1) (count_of t.functions)

-- the functions of a text, and behind them that with which a run begins
record BeginsLast (m : MapSizes) (t : Tac) (code : FlatProgram) : Type 0 where
  count : length code.functions ≡ length t.functions + 1
  begins : flat_function code (length t.functions) ≡ Some (entry_of m t)
  text : (k : ℕ) → k < length t.functions → is_of true (flat_function code k) ≡ false
  gives : (k : ℕ) → k < length t.functions → results_of (flat_function code k) ≡ 1

-- ---- propagation leaves the function with which a run begins

branch_same : (n : ℕ)
    → (if n == 0 then flat.Branch Bltu 0 (right.Number 0) 1 else flat.Branch Bltu 0 (right.Number n) 1)
    ≡ flat.Branch Bltu 0 (right.Number n) 1
branch_same n =
    either (λ i. i ≡ flat.Branch Bltu 0 (right.Number n) 1) (n == 0) (flat.Branch Bltu 0 (right.Number 0) 1)
    (flat.Branch Bltu 0 (right.Number n) 1) (λ e. ap (λ k. flat.Branch Bltu 0 (right.Number k) 1) (sym (eqb-true n 0 e)))
    (λ e. refl)

module _ (m : MapSizes) (t : Tac) where
  entry_same : propagated_function (entry_of m t) ≡ entry_of m t
  unfolding rewritten_from known_at some_jumps_to after rewritten with_fact
  entry_same =
      let line = line_in (function_in t t.main) in
      ap (λ i. record (entry_of m t) {
        body = flat.Turn ∷ flat.Turn ∷ flat.Turn ∷ flat.Charged 0 ∷ i ∷ flat.End (Stack line) ∷ flat.Call t.main 0 0
            ∷ flat.Exit 0 ∷ [];
      }) (branch_same (m.budgets.calls + 1 - room_in (function_in t t.main)))

  pub flat_count : length (flat_code m t).functions ≡ length t.functions + 1
  flat_count = count_same m (program_of operators m t homes) ∙ code_count m t

  begins_last : t.main < length t.functions → BeginsLast m t (flat_code m t)
  begins_last main =
      let expansion = program_of operators m t homes in
      record {
        count = flat_count;
        begins =
            function_same m expansion (length t.functions)
            ∙ (ap (option_map propagated_function) (last_at m t t.functions (entry_of m t)) ∙ ap Some entry_same);
        text = λ k below.
            side_same m expansion true k ∙ of_program m t t.functions (entry_of m t) k below;
        gives = λ k below. results_same m expansion k ∙ one_result m t t.functions (entry_of m t) k below;
      }

parameters_most : (o : Option FlatFunction) → ((g : FlatFunction) → o ≡ Some g → g.parameters ≤ 1024)
    → parameters_of o ≤ 1024
parameters_most None h = omega arith
parameters_most (Some g) h = h g refl

-- ---- the segment

module _ (m : MapSizes) (t : Tac) (main : t.main < length t.functions) (many_functions : length t.functions ≤ 4096)
    (code : FlatProgram) (shape : BeginsLast m t code) (plannable : ArePlannable code)
    (few : (u : ℕ) (g : FlatFunction) → flat_function code u ≡ Some g → g.parameters ≤ 1024)
    (plans : List FunctionPlan)
    (planned : ArePlanned code plans (length code.functions) (IsPlanOfRegisters code)) where
  abbrev last : ℕ
  last = length t.functions

  at : flat_function code last ≡ Some (entry_of m t)
  at = shape.begins

  abbrev plan_of : (plan : FunctionPlan) × (slice_get plans last ≡ Some plan)
      × IsPlanOfRegisters code last (entry_of m t) plan
  plan_of = planned.each last (entry_of m t) (let n = shape.count in omega (arith, n)) at

  keeping_is : keeping code plans last ≡ keeping_of (Some (entry_of m t)) (Some plan_of.0)
  unfolding keeping
  keeping_is =
      ap (λ o. keeping_of o (slice_get plans last)) at ∙ ap (keeping_of (Some (entry_of m t))) plan_of.1

  -- one value alone may be live
  live_one : (pc y : ℕ) → (keeping code plans last).live pc y ≡ true → y ≡ 0
  live_one pc y h =
      let plan = plan_of.0 in
      let live = subst (λ (k : Keeping). k.live pc y ≡ true) keeping_is h in
      let parts = and_parts (nat_lt pc (length (entry_code m t))) (is_live plan pc y) live in
      let needed = plan_of.2.least.least pc y parts.1 in
      let named = needed_is_named code last (entry_code m t) 1 (plannable last (entry_of m t) at).named pc y needed in
      omega (arith, named)

  one : results_of (flat_function code t.main) ≡ 1
  one = shape.gives t.main main

  -- and it is the result of `main`
  none_wanted : (y : ℕ) → wanted (keeping code plans last) 6 0 (results_of (flat_function code t.main)) y ≡ false
  none_wanted y =
      subst (λ r. wanted (keeping code plans last) 6 0 r y ≡ false) (sym one)
      (by ((keeping code plans last).live 7 y) refl)
    where
      by : (b : Bool) → (keeping code plans last).live 7 y ≡ b → (b && not (is_among (many 0 1) y)) ≡ false
      by false e = refl
      by true e = ap (λ z. not (is_among (many 0 1) z)) (live_one 7 y e)

  abbrev items_by : Option FlatFunction → List Item
  items_by o =
      plain (entry_block (keeping code plans last) (parameters_of o))
      ++ items_from m code plans last (length (body_in o)) 0 (body_in o)

  entry_items : length (items_by (Some (entry_of m t))) ≤ 13000
  entry_items =
      let k = keeping code plans last in
      let f = last in
      let n = length (entry_code m t) in
      let line = line_in (function_in t t.main) in
      let room = m.budgets.calls + 1 - room_in (function_in t t.main) in
      let ended = ends_short m code plans f 5 (Stack line) in
      let params = parameters_most (flat_function code t.main) (few t.main) in
      let r7 : List FlatInstruction = flat.Exit 0 ∷ [] in
      let r6 : List FlatInstruction = flat.Call t.main 0 0 ∷ r7 in
      let r5 : List FlatInstruction = flat.End (Stack line) ∷ r6 in
      let r4 : List FlatInstruction = flat.Branch Bltu 0 (right.Number room) 1 ∷ r5 in
      let r3 : List FlatInstruction = flat.Charged 0 ∷ r4 in
      let r2 : List FlatInstruction = flat.Turn ∷ r3 in
      let r1 : List FlatInstruction = flat.Turn ∷ r2 in
      let i7 = more_items m code plans f n 7 (flat.Exit 0) [] 6 2 (exit_most m code plans f n 7 0) (omega arith) in
      let i6 = more_items m code plans f n 6 (flat.Call t.main 0 0) r7 12400 10
      (call_most m code plans f n 6 t.main 0 0 none_wanted params (omega (arith, one))) i7 in
      let i5 = more_items m code plans f n 5 (flat.End (Stack line)) r6 400 12412 (omega (arith, ended)) i6 in
      let i4 = more_items m code plans f n 4 (flat.Branch Bltu 0 (right.Number room) 1) r5 14 12814
      (branch_most m code plans f n 4 Bltu 0 room 1) i5 in
      let i3 = more_items m code plans f n 3 (flat.Charged 0) r4 16 12830 (charged_most m code plans f n 3 0) i4 in
      let i2 = more_items m code plans f n 2 flat.Turn r3 1 12848 (turn_bound m code plans f 2) i3 in
      let i1 = more_items m code plans f n 1 flat.Turn r2 1 12851 (turn_bound m code plans f 1) i2 in
      let i0 = more_items m code plans f n 0 flat.Turn r1 1 12854 (turn_bound m code plans f 0) i1 in
      let first = store_length 1 k.base 0 in
      let taken = take_length k 0 0 0 in
      let begun = length-append (store_at 1 k.base 0) (take k 0 0 0) in
      let counted = length-map (entry_block k 0) item.Instr in
      let all = length-append (plain (entry_block k 0)) (items_from m code plans f n 0 (entry_code m t)) in
      omega (arith, i0, first, taken, begun, counted, all)

  entry_words : length (function_words m code plans last) ≤ 39000
  entry_words =
      let words = function_most m code plans last in
      let items = subst (λ o. length (items_by o) ≤ 13000) (sym at) entry_items in
      omega (arith, words, items)

  none_below : (k : ℕ) → k ≤ length t.functions → length (words_below m code plans true k) ≡ 0
  unfolding words_below
  none_below zero le = refl
  none_below (suc k) le =
      let own = function_words m code plans k in
      length-append (words_below m code plans true k) (words_if m code plans true k)
      ∙ ap (λ n. n + length (words_if m code plans true k)) (none_below k (omega arith))
      ∙ ap (λ b. 0 + length (if b then own else [])) (shape.text k (omega arith))

  runtime_words : length (words_below m code plans true (suc last)) ≤ 39000
  unfolding words_below
  runtime_words =
      let own = function_words m code plans last in
      let all = length-append (words_below m code plans true last) (words_if m code plans true last) in
      let none = none_below last (omega arith) in
      let some = entry_words in
      let mine = choice_few (is_of true (flat_function code last)) own [] 39000 some (omega arith) in
      omega (arith, all, none, mine)

  has_room : functions_begin + table_bytes m code plans ≤ code_begin
  has_room =
      let count : length code.functions ≡ suc last = shape.count ∙ omega arith in
      let words = subst (λ n. length (words_below m code plans true n) ≤ 39000) (sym count) runtime_words in
      let front = first_length m code plans in
      let tails_are = tails_length in
      let all = length-append (map word_of (table_instrs m code (rows_below m code plans (length code.functions))))
      (words_below m code plans true (length code.functions)) in
      omega (arith, count, words, front, tails_are, all)

pub runtime_has_room : (m : MapSizes) (t : Tac) → t.main < length t.functions → length t.functions ≤ 4096
    → ArePlannable (flat_code m t)
    → ((u : ℕ) (g : FlatFunction) → flat_function (flat_code m t) u ≡ Some g → g.parameters ≤ 1024)
    → (plans : List FunctionPlan)
    → ArePlanned (flat_code m t) plans (length (flat_code m t).functions) (IsPlanOfRegisters (flat_code m t))
    → functions_begin + table_bytes m (flat_code m t) plans ≤ code_begin
runtime_has_room m t main count plannable few plans planned =
    has_room m t main count (flat_code m t) (begins_last m t main) plannable few plans planned
