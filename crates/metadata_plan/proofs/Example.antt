-- A program of two functions and its expansion:
--     int main(void){int i;i=0;
--     while(i!=4){i=next(i);i++;}return i;}
--     int next(int x){return x+1;}
use Rattle.std.proofs.Common.{◌≡◌, ℕ, zero, suc, ◌+◌, true, List, [], ◌∷◌, get_or, Some, None, refl}
use Rattle.std.proofs.Common.{subst, sym, false, arith, Bool, ◌&&◌, ◌<◌, length, inl, inr, nat_lt}
use Rattle.std.proofs.lemmas.Bool.{and_parts, ltb-true}
use Rattle.std.specs.Prelude.{slice_get}
use Rattle.std.specs.Int.{int_wrap}
use Rattle.behaviours.specs.Shown.{Status}
use Rattle.behaviours.specs.Behaviour.{Moment}
use Rattle.addr_map.specs.Places.{region_size, region_start}
use Rattle.sb_base.specs.Budgets.{default_sizes}
use Rattle.sb_base.specs.declared.ending.Ending.TheVariants.{Stack}
use Rattle.obj_memory.specs.declared.int_type.IntType.TheVariants.{Int}
use Rattle.obj_memory.specs.declared.operator.BinaryOperator.{BinaryOperator}
use Rattle.obj_memory.specs.declared.operator.BinaryOperator.TheVariants.{Add, NotEqual}
use Rattle.obj_memory.specs.declared.value.Scalar.TheVariants.{Integer}
use Rattle.obj_memory.specs.Integers.{fit}
use Rattle.obj_memory.specs.Operators.{binary_value}
use Rattle.c_tree.specs.declared.expression.Fixity.TheVariants.{Postfix}
use Rattle.c_tree.specs.declared.expression.Kind.TheVariants.{Scalar as OfScalar}
use Rattle.c_tree.specs.declared.expression.Update.TheVariants.{Arithmetic}
use Rattle.c_tree.specs.declared.program.Variable.{Variable}
use Rattle.source_meaning.specs.State.{Setting}
use Rattle.tac_ir.specs.declared.instruction.RightOperand.TheVariants.{One}
use Rattle.tac_ir.specs.declared.instruction.Instruction.{Instruction}
use Rattle.tac_ir.specs.declared.instruction.Instruction.TheVariants as tac
use Rattle.tac_ir.specs.declared.function.CodeFunction.{CodeFunction}
use Rattle.tac_ir.specs.declared.function.Tac.{Tac}
use Rattle.tac_ir.specs.Meaning.{setting_of_code, tac_meaning}
use Rattle.rv_isa.specs.declared.instruction.BranchOp.TheVariants.{Bne, Bltu}
use Rattle.rv_isa.specs.declared.instruction.RegOp.TheVariants.{Sltu, Xor}
use Rattle.rv_isa.specs.declared.instruction.RegOp32.TheVariants.{Addw}
use Rattle.rv_isa.specs.Results.{branch_taken, reg_result, reg32_result}
use Rattle.flat_code.specs.declared.instruction.RightOperand.TheVariants.{Register, Number}
use Rattle.flat_code.specs.declared.instruction.FlatInstruction.{FlatInstruction}
use Rattle.flat_code.specs.declared.instruction.FlatInstruction.TheVariants as flat
use Rattle.flat_code.specs.declared.function.FlatFunction.{FlatFunction}
use Rattle.flat_code.specs.declared.function.FlatProgram.{FlatProgram}
use Rattle.flat_code.specs.Memory.{put}
use Rattle.flat_code.specs.Calls.{function_in, rooms}
use Rattle.flat_code.specs.Meaning.{flat_meaning}
use Rattle.metadata_plan.specs.Operators.{OperatorCode}
use Rattle.metadata_plan.specs.Blocks.{block, prologue, entry_code}
use Rattle.metadata_plan.specs.Expanded.{Falls, Forward, Back, IsPut, IsExpandedFunction, ExpandsAt}
use Rattle.metadata_plan.specs.Expanded.{IsExpanded}
use Rattle.metadata_plan.specs.Laid.{falls, place_of, body_of}
use Rattle.tac_ir.specs.Edges.{IsAmong, successors}
use Rattle.std.proofs.lemmas.Option.{same_Some, none-some}
use Rattle.metadata_plan.specs.Part.{SafeWithin, IsIntegerFunction, IsIntegerCode, is_integer_instruction}

-- ---- three-address code

abbrev int : Variable
int = record { kind = OfScalar (Integer Int); is_object = false }

abbrev main : CodeFunction
main = record {
  line = 1;
  type_number = 0;
  parameters = [];
  variables = int ∷ [];
  entered = [];
  room = 96;
  entry = 12;
  code = tac.Return 0
      ∷ tac.GetPlain 0 0 0
      ∷ tac.UpdatePlain (Arithmetic Add Int) (Integer Int) Postfix 2 0 0 One 10
      ∷ tac.SetPlain 0 0 2
      ∷ tac.Call 1 2 0 1 3
      ∷ tac.GetPlain 0 0 4
      ∷ tac.Turn None 5
      ∷ tac.Branch 0 6 1
      ∷ tac.Binary NotEqual Int 2 0 0 1 7
      ∷ tac.Constant 1 4 8
      ∷ tac.GetPlain 0 0 9
      ∷ tac.SetPlain 0 0 10
      ∷ tac.Constant 0 0 11
      ∷ [];
  keys = [];
  blocks = [];
  loops = [];
}

abbrev next : CodeFunction
next = record {
  line = 3;
  type_number = 0;
  parameters = int ∷ [];
  variables = [];
  entered = [];
  room = 96;
  entry = 3;
  code = tac.Return 0 ∷ tac.Binary Add Int 3 0 0 1 0 ∷ tac.Constant 1 1 1 ∷ tac.GetPlain 0 0 2 ∷ [];
  keys = [];
  blocks = [];
  loops = [];
}

abbrev program : Tac
program = record {
  functions = main ∷ next ∷ [];
  results = [];
  main = 0;
  statics = [];
  global_bytes = 0;
  texts = [];
}

abbrev setting : Setting
setting = setting_of_code program default_sizes

-- ---- flat code

-- the operators that it has
abbrev binary_code : BinaryOperator → (into left right : ℕ) → List FlatInstruction
binary_code NotEqual x y z =
    flat.Operate Xor x y (Register z) ∷ flat.Operate Sltu x x (Number 1) ∷ flat.Operate Xor x x (Number 1) ∷ []
binary_code _ x y z = flat.Operate32 Addw x y (Register z) ∷ []

abbrev operators : OperatorCode
operators = record {
  constant = λ x w s. flat.Constant x w ∷ [];
  unary = λ op t x y s. [];
  binary = λ op t x y z s line. binary_code op x y z;
  convert = λ t x y s. flat.Operate32 Addw x y (Number 0) ∷ [];
}

abbrev flat_main : FlatFunction
flat_main = record {
  parameters = 0;
  results = 1;
  room = 96;
  is_runtime = false;
  homes = [];
  body = flat.Constant 0 0
      ∷ flat.Constant 1 0
      ∷ flat.Move 0 1
      ∷ flat.JumpForward 0
      ∷ flat.Move 1 0
      ∷ flat.Constant 6 4
      ∷ flat.Operate Xor 1 1 (Register 6)
      ∷ flat.Operate Sltu 1 1 (Number 1)
      ∷ flat.Operate Xor 1 1 (Number 1)
      ∷ flat.Branch Bne 1 (Number 0) 1
      ∷ flat.JumpForward 15
      ∷ flat.Turn
      ∷ flat.Move 1 0
      ∷ flat.Turn
      ∷ flat.Charged 11
      ∷ flat.Branch Bltu 11 (Number 4194209) 1
      ∷ flat.End (Stack 2)
      ∷ flat.Move 11 1
      ∷ flat.Call 1 11 1
      ∷ flat.Move 0 1
      ∷ flat.Operate32 Addw 11 0 (Number 0)
      ∷ flat.Constant 12 1
      ∷ flat.Operate32 Addw 11 11 (Register 12)
      ∷ flat.Move 1 0
      ∷ flat.Operate32 Addw 0 11 (Number 0)
      ∷ flat.JumpBack 21
      ∷ flat.Move 1 0
      ∷ flat.Return 1
      ∷ [];
}

abbrev flat_next : FlatFunction
flat_next = record {
  parameters = 1;
  results = 1;
  room = 96;
  is_runtime = false;
  homes = [];
  body = flat.Move 1 0 ∷ flat.Constant 6 1 ∷ flat.Operate32 Addw 1 1 (Register 6) ∷ flat.Return 1 ∷ [];
}

abbrev entry : FlatFunction
entry = record {
  parameters = 0;
  results = 0;
  room = 16;
  is_runtime = true;
  homes = [];
  body = entry_code setting.sizes program;
}

abbrev expansion : FlatProgram
expansion = record { functions = flat_main ∷ flat_next ∷ entry ∷ []; entry = 2 }

-- the place of each node
abbrev address : (function node : ℕ) → ℕ
address zero n = get_or (27 ∷ 26 ∷ 20 ∷ 19 ∷ 13 ∷ 12 ∷ 11 ∷ 9 ∷ 6 ∷ 5 ∷ 4 ∷ 2 ∷ 1 ∷ []) n 1
address (suc u) n = get_or (3 ∷ 2 ∷ 1 ∷ 0 ∷ []) n 0

-- ---- what the law asks

-- code of integers whose nodes lead to nodes of it is safe from each of them on

all_below : (size : ℕ) → List ℕ → Bool
all_below k [] = true
all_below k (m ∷ ms) = nat_lt m k && all_below k ms

are_closed : (is_safe : Instruction → Bool) → (size : ℕ) → List Instruction → Bool
are_closed ok k [] = true
are_closed ok k (i ∷ is) = ok i && (all_below k (successors i) && are_closed ok k is)

below_among : (k m : ℕ) (ms : List ℕ) → all_below k ms ≡ true → IsAmong m ms → m < k
unfolding all_below
below_among k m [] e a = absurd a
below_among k m (x ∷ ms) e (inl same) =
    let h = and_parts (nat_lt x k) (all_below k ms) e in
    let b = ltb-true x k h.0 in subst (λ z. z < k) (sym same) b
below_among k m (x ∷ ms) e (inr a) = below_among k m ms (and_parts (nat_lt x k) (all_below k ms) e).1 a

closed_at : (ok : Instruction → Bool) (k : ℕ) (is : List Instruction) (n : ℕ) → are_closed ok k is ≡ true
    → n < length is
    → (i : Instruction) × (slice_get is n ≡ Some i) × (ok i ≡ true) × (all_below k (successors i) ≡ true)
unfolding are_closed
closed_at ok k [] n e lt = absurd (omega arith)
closed_at ok k (i ∷ is) zero e lt =
    let h = and_parts (ok i) (all_below k (successors i) && are_closed ok k is) e in
    (i, refl, h.0, (and_parts (all_below k (successors i)) (are_closed ok k is) h.1).0)
closed_at ok k (i ∷ is) (suc n) e lt =
    let h = and_parts (ok i) (all_below k (successors i) && are_closed ok k is) e in
    closed_at ok k is n (and_parts (all_below k (successors i)) (are_closed ok k is) h.1).1 (omega arith)

closed_safe : (ok : Instruction → Bool) (code : List Instruction) → are_closed ok (length code) code ≡ true
    → (k n : ℕ) → n < length code → SafeWithin ok code k n
unfolding SafeWithin
closed_safe ok code e zero n lt = tt
closed_safe ok code e (suc k) n lt =
    let h = closed_at ok (length code) code n e lt in
    (h.0, h.1, h.2, λ m l. closed_safe ok code e k m (below_among (length code) m (successors h.0) h.3 l))

is_of_the_part : IsIntegerCode program
unfolding are_closed all_below
is_of_the_part = record { statics = refl; main = refl; functions = each }
  where
    each : (u : ℕ) (c : CodeFunction) → slice_get program.functions u ≡ Some c → IsIntegerFunction program c
    each zero c e = subst (IsIntegerFunction program) (same_Some main c e) (record {
      variables = refl;
      entered = refl;
      safe = λ k. closed_safe (is_integer_instruction program 1) main.code refl k 12 (omega arith);
    })
    each (suc zero) c e = subst (IsIntegerFunction program) (same_Some next c e) (record {
      variables = refl;
      entered = refl;
      safe = λ k. closed_safe (is_integer_instruction program 1) next.code refl k 3 (omega arith);
    })
    each (suc (suc u)) c e = absurd (none-some c e)

AllPut : (c : CodeFunction) → List FlatInstruction → (address : ℕ → ℕ) → (node : ℕ) → List Instruction → Type 0
AllPut c body places n [] = Unit {0}
AllPut c body places n (i ∷ is) =
    IsPut operators setting.sizes program c body places (places n) i × AllPut c body places (n + 1) is

each_put : (c : CodeFunction) (body : List FlatInstruction) (places : ℕ → ℕ) (is : List Instruction) (first n : ℕ)
    (i : Instruction) → AllPut c body places first is → slice_get is n ≡ Some i
    → IsPut operators setting.sizes program c body places (places (first + n)) i
unfolding AllPut
each_put c body places [] first n i h e = cc
each_put c body places (x ∷ is) first zero i h e =
    let same : x ≡ i = cc in
    let at : first ≡ first + 0 = omega arith in
    subst (λ z. IsPut operators setting.sizes program c body places (places z) i) at
    (subst (λ z. IsPut operators setting.sizes program c body places (places first) z) same h.0)
each_put c body places (x ∷ is) first (suc n) i h e =
    let at : first + 1 + n ≡ first + suc n = omega arith in
    subst (λ z. IsPut operators setting.sizes program c body places (places z) i) at
    (each_put c body places is (first + 1) n i h.1 e)

put_at : (c : CodeFunction) (body : List FlatInstruction) (places : ℕ → ℕ) (n : ℕ) (i : Instruction)
    → AllPut c body places 0 c.code → slice_get c.code n ≡ Some i
    → IsPut operators setting.sizes program c body places (places n) i
put_at c body places n i h e =
    let at : 0 + n ≡ n = omega arith in
    subst (λ z. IsPut operators setting.sizes program c body places (places z) i) at
    (each_put c body places c.code 0 n i h e)

main_put : AllPut main flat_main.body (address 0) 0 main.code
unfolding AllPut
main_put = (
  record { has = (refl, tt); leads = tt },
  (
    record { has = (refl, tt); leads = Falls refl },
    (
      record { has = (refl, (refl, (refl, (refl, (refl, tt))))); leads = Back 21 refl refl },
      (
        record { has = (refl, tt); leads = Falls refl },
        (
          record { has = (refl, (refl, (refl, (refl, (refl, (refl, tt)))))); leads = Falls refl },
          (
            record { has = (refl, tt); leads = Falls refl },
            (
              record { has = (refl, tt); leads = Falls refl },
              (
                record { has = (refl, tt); leads = (Forward 15 refl refl, Falls refl) },
                (
                  record { has = (refl, (refl, (refl, tt))); leads = Falls refl },
                  (
                    record { has = (refl, tt); leads = Falls refl },
                    (
                      record { has = (refl, tt); leads = Falls refl },
                      (
                        record { has = (refl, tt); leads = Forward 0 refl refl },
                        (
                          record { has = (refl, tt); leads = Falls refl },
                          tt,
                        ),
                      ),
                    ),
                  ),
                ),
              ),
            ),
          ),
        ),
      ),
    ),
  ),
)

next_put : AllPut next flat_next.body (address 1) 0 next.code
unfolding AllPut
next_put = (
  record { has = (refl, tt); leads = tt },
  (
    record { has = (refl, tt); leads = Falls refl },
    (
      record { has = (refl, tt); leads = Falls refl },
      (
        record { has = (refl, tt); leads = Falls refl },
        tt,
      ),
    ),
  ),
)

is_expanded : IsExpanded operators setting.sizes program address expansion
unfolding region_size
is_expanded = record {
  functions = functions;
  entry = record { parameters = refl; of_runtime = refl; room = omega arith; body = refl };
}
  where
    functions : (u : ℕ) (c : CodeFunction) → slice_get program.functions u ≡ Some c
        → ExpandsAt operators setting.sizes program c (address u) (function_in expansion u)
    functions zero c e =
        let same : main ≡ c = cc in
        subst (λ z. IsExpandedFunction operators setting.sizes program z (address 0) flat_main) same (record {
          parameters = refl;
          results = refl;
          room = refl;
          of_program = refl;
          zeroed = (refl, tt);
          begins = Falls refl;
          blocks = λ n i at. put_at main flat_main.body (address 0) n i main_put at;
        })
    functions (suc zero) c e =
        let same : next ≡ c = cc in
        subst (λ z. IsExpandedFunction operators setting.sizes program z (address 1) flat_next) same (record {
          parameters = refl;
          results = refl;
          room = refl;
          of_program = refl;
          zeroed = tt;
          begins = Falls refl;
          blocks = λ n i at. put_at next flat_next.body (address 1) n i next_put at;
        })
    functions (suc (suc u)) c e = cc

-- the blocks laid one behind the other are these
main_laid : body_of (block operators setting.sizes program main) (prologue main) main ≡ flat_main.body
unfolding place_of falls
main_laid = refl

next_laid : body_of (block operators setting.sizes program next) (prologue next) next ≡ flat_next.body
unfolding place_of falls
next_laid = refl

-- ---- both runs, by computation: `main` gives 4, for 80 and 120 units of work

abbrev ended : (turns work : ℕ) → Moment
ended turns work = record {
  shown = record { output = []; errors = []; taken = 0; accesses = []; ending = Some (Status 4) };
  turns = turns;
  work = work;
}

tac_run : tac_meaning program default_sizes [] 40 ≡ ended 5 80
unfolding int_wrap binary_value fit region_size region_start
tac_run = refl

flat_run : flat_meaning setting.sizes expansion (λ a. 0) [] 90 ≡ ended 7 120
unfolding put rooms branch_taken reg_result reg32_result region_size
flat_run = refl
