-- How many words the blocks of instructions have at most, with the jumps behind them.
use Rattle.std.proofs.Common.{◌≡◌, ℕ, zero, suc, ◌+◌, ◌-◌, ◌*◌, ◌^◌, ◌<◌, ◌≤◌, Bool, true, false, List, [], ◌∷◌, ◌++◌}
use Rattle.std.proofs.Common.{length, refl, ap, arith}
use Rattle.std.specs.Prelude.{if◌then◌else◌, nat_lt}
use Rattle.sb_base.specs.declared.ending.Ending.TheVariants as ending
use Rattle.addr_map.specs.Places.{MapSizes}
use Rattle.obj_memory.specs.declared.int_type.IntType.{IntType}
use Rattle.obj_memory.specs.declared.int_type.IntType.TheVariants.{UnsignedChar}
use Rattle.obj_memory.specs.declared.operator.BinaryOperator.{BinaryOperator}
use Rattle.obj_memory.specs.declared.value.Scalar.{Scalar}
use Rattle.obj_memory.specs.declared.value.Scalar.TheVariants.{Integer, Pointer}
use Rattle.c_tree.specs.declared.expression.Kind.{Kind}
use Rattle.c_tree.specs.declared.expression.Kind.TheVariants.{Void, Scalar as OfScalar, Structure, Array}
use Rattle.c_tree.specs.declared.expression.Update.{Update}
use Rattle.c_tree.specs.declared.expression.Update.TheVariants.{Arithmetic, Forward, Back}
use Rattle.c_tree.specs.declared.expression.Fixity.{Fixity}
use Rattle.c_tree.specs.declared.expression.Fixity.TheVariants.{Prefix, Postfix}
use Rattle.c_tree.specs.declared.expression.Routine.{Routine}
use Rattle.c_tree.specs.declared.expression.Routine.TheVariants as routine
use Rattle.tac_ir.specs.declared.instruction.RightOperand.{RightOperand}
use Rattle.tac_ir.specs.declared.instruction.RightOperand.TheVariants.{Temporary, One}
use Rattle.tac_ir.specs.declared.instruction.Instruction.{Instruction}
use Rattle.tac_ir.specs.declared.instruction.Instruction.TheVariants as tac
use Rattle.tac_ir.specs.declared.function.CodeFunction.{CodeFunction}
use Rattle.tac_ir.specs.declared.function.Tac.{Tac}
use Rattle.tac_ir.specs.Edges.{successors}
use Rattle.tac_ir.specs.Meaning as code
use Rattle.rv_isa.specs.declared.instruction.BranchOp.TheVariants.{Beq, Bltu}
use Rattle.flat_code.specs.declared.instruction.RightOperand.TheVariants as right
use Rattle.flat_code.specs.declared.instruction.FlatInstruction.TheVariants as flat
use Rattle.flat_code.specs.declared.function.FlatFunction.{FlatFunction}
use Rattle.flat_code.specs.declared.function.FlatProgram.{FlatProgram}
use Rattle.flat_code.specs.Calls.{function_in, record_bytes}
use Rattle.flat_code.specs.Meaning.{parameters_of, results_of}
use Rattle.metadata_plan.specs.Registers.{temporary_register, first_free}
use Rattle.metadata_plan.specs.Part.{takes}
use Rattle.metadata_plan.specs.Blocks.{conversion, right_code, right_register, kept_by, update_code, library_code}
use Rattle.metadata_plan.specs.Blocks.{call_tests, argument_moves, room_in, call_code, block, prologue}
use Rattle.metadata_plan.specs.Registers.{variable_register}
use Rattle.metadata_plan.specs.Laid.{jump, jump_unless, jumps, place_of, laid_from, falls}
use Rattle.metadata_plan.specs.OperatorLists.Operators.{operators}
use Rattle.metadata_expansion.specs.Numbers.{line_in, greatest_line, word_in, greatest_word}
use Rattle.program_lowering.specs.ExpressionCode.Weights.{weight_of, code_weight}
use Rattle.image_laws.specs.CodeSizes.Sizes.{constant_words, passed_words}
use Rattle.image_laws.proofs.CodeSizes.Blocks.{home_most, passed_most}
use Rattle.image_laws.proofs.CodeSizes.Programs.{few_for_constant}
use Rattle.image_laws.proofs.Sizes.Numbers.{few_constant}
use Rattle.image_laws.proofs.Sizes.Propagated.{instruction_most, body_most, branch_most}
use Rattle.image_laws.proofs.Sizes.Words.{words}
use Rattle.machine_laws.specs.Calls.Table.{row_address}
use Rattle.image_laws.proofs.Sizes.Operators.{words_append, constant_code_words, conversion_words, unary_words}
use Rattle.image_laws.proofs.Sizes.Operators.{binary_words}

-- what is known of the functions that are called
pub record Calls (p : FlatProgram) (m : MapSizes) (t : Tac) : Type 0 where
  pub budget : m.budgets.calls ≤ 16777216
  pub address : (f n : ℕ) → takes (code.function_in t f) n ≡ true → constant_words (row_address p f) ≤ 2
  pub parameters : (f n : ℕ) → takes (code.function_in t f) n ≡ true → parameters_of (function_in p f) ≤ n
  pub gives : (f n : ℕ) → takes (code.function_in t f) n ≡ true → results_of (function_in p f) ≡ 1

passed_one : (g : FlatFunction) (y : ℕ) → passed_words g y 1 ≤ 4
unfolding passed_words
passed_one g y = omega (arith, home_most g (y + 0))

module _ (p : FlatProgram) (g : FlatFunction) where
  pub jump_words : (a b : ℕ) → instruction_most p g (jump a b) ≤ 2
  jump_words a b = by (nat_lt a b)
    where
      by : (d : Bool) → instruction_most p g (if d then flat.JumpForward (b - (a + 1)) else flat.JumpBack (a - b)) ≤ 2
      by true = omega arith
      by false = omega arith

  unless_words : (d : Bool) (a b : ℕ) → body_most p g (jump_unless d a b) ≤ 2
  unless_words true a b = omega arith
  unless_words false a b = let h = jump_words a b in omega (arith, h)

  pub jumps_words : (c : CodeFunction) (address : ℕ → ℕ) (n pc : ℕ) (nodes : List ℕ)
      → body_most p g (jumps c address n pc nodes) ≤ 2 * length nodes
  jumps_words c address n pc [] = omega arith
  jumps_words c address n pc (x ∷ []) = unless_words (falls c n x) pc (address x)
  jumps_words c address n pc (x ∷ y ∷ ms) =
      let a = jump_words pc (address y) in
      let b = unless_words (falls c n x) (pc + 1) (address x) in
      omega (arith, a, b)

  moved_words : (x y : ℕ) → instruction_most p g (flat.Move x y) ≤ 7
  moved_words x y = omega arith

  pub zeroed_words : (x : ℕ) → instruction_most p g (flat.Constant x 0) ≤ 5
  zeroed_words x = let h = few_constant 0 (omega arith) in omega (arith, h)

  converted_words : (kind : Kind) (x y s : ℕ) → body_most p g (conversion operators kind x y s) ≤ 18
  converted_words Void x y s = omega (arith, zeroed_words x)
  converted_words (OfScalar (Integer t)) x y s =
      conversion_words p g t x y
  converted_words (OfScalar Pointer) x y s = omega (arith, zeroed_words x)
  converted_words (Structure size) x y s = omega (arith, zeroed_words x)
  converted_words (Array size) x y s = omega (arith, zeroed_words x)

  library_words : (r : Routine) (line d s : ℕ) → body_most p g (library_code operators r line d s) ≤ 27
  library_words routine.Putchar line d s =
      let h = conversion_words p g UnsignedChar d d in omega (arith, h)
  library_words routine.Getchar line d s = omega arith
  library_words routine.Exit line d s = omega arith
  library_words routine.Abort line d s = omega arith
  library_words routine.Malloc line d s = omega arith
  library_words routine.Calloc line d s = omega arith
  library_words routine.Free line d s = omega arith
  library_words routine.Realloc line d s = omega arith
  library_words routine.Memcpy line d s = omega arith
  library_words routine.Memmove line d s = omega arith
  library_words routine.Memset line d s = omega arith
  library_words routine.Memcmp line d s = omega arith
  library_words routine.Strlen line d s = omega arith
  library_words routine.Strcmp line d s = omega arith
  library_words routine.Strcpy line d s = omega arith
  library_words routine.Strncpy line d s = omega arith
  library_words routine.Strcat line d s = omega arith
  library_words routine.Strchr line d s = omega arith
  library_words routine.Puts line d s = omega arith

  moves_words : (c : CodeFunction) (r d n : ℕ) → body_most p g (argument_moves c r d n) ≤ 7 * n
  moves_words c r d zero = omega arith
  moves_words c r d (suc n) =
      let h = moves_words c (r + 1) (d + 1) n in omega (arith, h, moved_words r (temporary_register c d))

  -- a node that is never reached ends the run
  unreached : body_most p g (flat.End (ending.Abort 1) ∷ []) ≤ 4
  unreached = omega arith

  -- ---- updates

  kept_words : (f : Fixity) (t : IntType) (x d s n : ℕ) → body_most p g (kept_by operators f t x d s n) ≤ 25
  kept_words Prefix t x d s n =
      let h = conversion_words p g t x s in
      let a = words_append p g (operators.convert t x s n) (flat.Move d x ∷ []) in
      omega (arith, h, a)
  kept_words Postfix t x d s n = let h = conversion_words p g t x s in omega (arith, h)

  one_words : (right : RightOperand) (r : ℕ) → body_most p g (right_code right r) ≤ 5
  one_words (Temporary b) r = omega arith
  one_words One r = let h = few_constant 1 (omega arith) in omega (arith, h)

  updated_words : (c : CodeFunction) (q : BinaryOperator) (t k : IntType) (f : Fixity) (line d v s : ℕ) (right : RightOperand)
      → body_most p g
      (operators.convert t s v (s + 2)
      ++ (right_code right (s + 1)
      ++ (operators.binary q t s s (right_register c right (s + 1)) (s + 2) line
      ++ kept_by operators f k v d s (s + 2)))) ≤ 90
  updated_words c q t k f line d v s right =
      let r = right_register c right (s + 1) in
      let before = operators.convert t s v (s + 2) in
      let one = right_code right (s + 1) in
      let operator = operators.binary q t s s r (s + 2) line in
      let after = kept_by operators f k v d s (s + 2) in
      let h1 = conversion_words p g t s v in
      let h2 = one_words right (s + 1) in
      let h3 = binary_words p g q t line s s r (s + 2) in
      let h4 = kept_words f k v d s (s + 2) in
      let a1 = words_append p g before (one ++ (operator ++ after)) in
      let a2 = words_append p g one (operator ++ after) in
      let a3 = words_append p g operator after in
      omega (arith, h1, h2, h3, h4, a1, a2, a3)

  module _ (c : CodeFunction) where
    update_words : (u : Update) (k : Scalar) (f : Fixity) (line d x : ℕ) (right : RightOperand)
        → body_most p g (update_code operators c u k f line d x right) ≤ 90
    update_words (Arithmetic q t) (Integer k) f line d x right =
        updated_words c q t k f line (temporary_register c d) (variable_register c x) (first_free c) right
    update_words (Arithmetic q t) Pointer f line d x right = omega arith
    update_words (Forward size) k f line d x right = omega arith
    update_words (Back size) k f line d x right = omega arith

    -- ---- calls

    module _ (m : MapSizes) (t : Tac) (known : Calls p m t) (gives : g.results ≡ 1) where
      tests_words : (bytes line : ℕ) → body_most p g (call_tests m bytes line (first_free c)) ≤ 30
      tests_words bytes line =
          let few = known.budget in
          let h = branch_most p g Bltu (first_free c) (m.budgets.calls + 1 - bytes) 1 (omega (arith, few)) in
          omega (arith, h)

      call_words : (f line d n : ℕ) → takes (code.function_in t f) n ≡ true
          → body_most p g (call_code m t c f line d n) ≤ 127 + 13 * n
      call_words f line d n e =
          let s = first_free c in
          let tests = call_tests m (room_in (code.function_in t f)) line s in
          let moves = argument_moves c s d n in
          let last = flat.Call f s (temporary_register c d) ∷ [] in
          let h1 = tests_words (room_in (code.function_in t f)) line in
          let h2 = moves_words c s d n in
          let a1 = words_append p g tests (moves ++ last) in
          let a2 = words_append p g moves last in
          let aim = known.address f n e in
          let q1 = few_for_constant (record_bytes g) in
          let q2 = known.parameters f n e in
          let given = passed_most g s (parameters_of (function_in p f)) in
          let q3 = ap (passed_words g (temporary_register c d)) (known.gives f n e) in
          let back = passed_one g (temporary_register c d) in
          omega (arith, h1, h2, a1, a2, aim, q1, q2, given, q3, back)

      called_words : (f line d n : ℕ)
          → body_most p g (block operators m t c (tac.Call f line d n 0)) ≤ 127 + 13 * n
      called_words f line d n = by (takes (code.function_in t f) n) refl
        where
          by : (b : Bool) → takes (code.function_in t f) n ≡ b
              → body_most p g (if b then call_code m t c f line d n else flat.End (ending.Abort line) ∷ [])
              ≤ 127 + 13 * n
          by true e = call_words f line d n e
          by false e = omega arith

      -- ---- all instructions

      pub block_words : (ts : List (List ℕ)) (i : Instruction) → word_in i < 2 ^ 64 → line_in i < 2 ^ 32
          → body_most p g (block operators m t c i) + 2 * length (successors i) ≤ weight_of ts i (words 8)
      block_words ts tac.Reserved w l = omega (arith, unreached)
      block_words ts (tac.Constant d v next) w l =
          let h = constant_code_words p g (temporary_register c d) v w in omega (arith, h)
      block_words ts (tac.GetPlain d x next) w l =
          omega (arith, moved_words (temporary_register c d) (variable_register c x))
      block_words ts (tac.SetPlain x a next) w l =
          omega (arith, moved_words (variable_register c x) (temporary_register c a))
      block_words ts (tac.UpdatePlain u k f line d x right next) w l =
          omega (arith, update_words u k f line d x right)
      block_words ts (tac.ZeroOf kind d next) w l = omega (arith, zeroed_words (temporary_register c d))
      block_words ts (tac.Convert kind d a next) w l =
          let h = converted_words kind (temporary_register c d) (temporary_register c a) (first_free c) in omega
          (arith, h)
      block_words ts (tac.Unary q ty d a next) w l =
          let h = unary_words p g q ty (temporary_register c d) (temporary_register c a) (first_free c) in
          omega (arith, h)
      block_words ts (tac.Binary q ty line d a b next) w l =
          let h = binary_words p g q ty line (temporary_register c d) (temporary_register c a)
          (temporary_register c b)
          (first_free c) in
          omega (arith, h)
      block_words ts (tac.Branch a x y) w l = omega arith
      block_words ts (tac.Case a v x y) w l =
          let h = constant_code_words p g (first_free c) v w in
          let test = flat.Branch Beq (temporary_register c a) (right.Register (first_free c)) 1 in
          let q = words_append p g (operators.constant (first_free c) v (first_free c + 1)) (test ∷ []) in
          omega (arith, h, q)
      block_words ts (tac.Turn counted next) w l = omega arith
      block_words ts (tac.Library r line d n next) w l =
          omega (arith, library_words r line (temporary_register c d) (first_free c))
      block_words ts (tac.Call f line d n next) w l = omega (arith, called_words f line d n)
      block_words ts (tac.Return a) w l =
          let one = ap (passed_words g (temporary_register c a)) gives in
          omega (arith, one, passed_one g (temporary_register c a))
      block_words ts (tac.FunctionPointer d f next) w l = omega (arith, unreached)
      block_words ts (tac.HomePointer d x next) w l = omega (arith, unreached)
      block_words ts (tac.StaticPointer d n next) w l = omega (arith, unreached)
      block_words ts (tac.Offset form size d a b next) w l = omega (arith, unreached)
      block_words ts (tac.Difference size d a b next) w l = omega (arith, unreached)
      block_words ts (tac.Narrow offset size d a next) w l = omega (arith, unreached)
      block_words ts (tac.Member offset size d a next) w l = omega (arith, unreached)
      block_words ts (tac.Take kind line zero a next) w l = omega (arith, unreached)
      block_words ts (tac.Take kind line (suc d) a next) w l = omega (arith, unreached)
      block_words ts (tac.Read kind mode line key d a next) w l = omega (arith, unreached)
      block_words ts (tac.Write kind mode line key d a b next) w l = omega (arith, unreached)
      block_words ts (tac.Update u k f mode line at key d a right next) w l = omega (arith, unreached)
      block_words ts (tac.Judge test size line key a next) w l = omega (arith, unreached)
      block_words ts (tac.Zero x next) w l = omega (arith, unreached)
      block_words ts (tac.StorePart kind line x offset a next) w l = omega (arith, unreached)
      block_words ts (tac.StoreText n x offset next) w l = omega (arith, unreached)
      block_words ts (tac.Print x line d n next) w l = omega (arith, unreached)
      block_words ts (tac.CallThrough type line d n next) w l = omega (arith, unreached)
      block_words ts (tac.EnterBlock b line next) w l = omega (arith, unreached)
      block_words ts (tac.LeaveBlock b next) w l = omega (arith, unreached)
      block_words ts (tac.Skip next) w l = omega (arith, unreached)

      pub code_words : (ts : List (List ℕ)) (is : List Instruction) (n : ℕ) → greatest_word is < 2 ^ 64
          → greatest_line is < 2 ^ 32
          → body_most p g (laid_from (block operators m t c) (prologue c) c n is) ≤ code_weight ts is (words 8)
      code_words ts [] n w l = omega arith
      code_words ts (i ∷ is) n w l =
          let place = place_of (block operators m t c) (prologue c) c in
          let later = laid_from (block operators m t c) (prologue c) c (suc n) is in
          let own = block operators m t c i in
          let behind = jumps c place n (place n + length own) (successors i) in
          let h = block_words ts i (omega (arith, w)) (omega (arith, l)) in
          let r = code_words ts is (suc n) (omega (arith, w)) (omega (arith, l)) in
          let j = jumps_words c place n (place n + length own) (successors i) in
          let a = words_append p g later (own ++ behind) in
          let b = words_append p g own behind in
          omega (arith, h, r, j, a, b)
