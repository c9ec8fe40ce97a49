-- How many instructions code has, where each weighs 1.
use Rattle.std.proofs.Common.{◌≡◌, ℕ, zero, suc, ◌+◌, List, [], ◌∷◌, length, refl, arith}
use Rattle.tac_ir.specs.declared.instruction.Instruction.{Instruction}
use Rattle.tac_ir.specs.declared.instruction.Instruction.TheVariants as tac
use Rattle.program_lowering.specs.declared.expressions.emitter.Emitter.{Emitter}
use Rattle.program_lowering.specs.ExpressionCode.Emitted.{Emits}
use Rattle.program_lowering.specs.ExpressionCode.Weights.{Weights, weight_of, code_weight, each_one}
use Rattle.program_lowering.proofs.ExpressionCode.Growing.{stays_all}

one_each : (ts : List (List ℕ)) (i : Instruction) → weight_of ts i each_one ≡ 1
one_each ts tac.Reserved = refl
one_each ts (tac.Skip m) = refl
one_each ts (tac.Constant d n m) = refl
one_each ts (tac.FunctionPointer d f m) = refl
one_each ts (tac.GetPlain d x m) = refl
one_each ts (tac.SetPlain x a m) = refl
one_each ts (tac.UpdatePlain u k f line d x right m) = refl
one_each ts (tac.HomePointer d x m) = refl
one_each ts (tac.StaticPointer d n m) = refl
one_each ts (tac.ZeroOf kind d m) = refl
one_each ts (tac.Convert kind d a m) = refl
one_each ts (tac.Unary op t d a m) = refl
one_each ts (tac.Binary op t line d a e m) = refl
one_each ts (tac.Offset form size d a e m) = refl
one_each ts (tac.Difference size d a e m) = refl
one_each ts (tac.Narrow offset size d a m) = refl
one_each ts (tac.Member offset size d a m) = refl
one_each ts (tac.Take kind line zero a m) = refl
one_each ts (tac.Take kind line (suc d) a m) = refl
one_each ts (tac.Read kind mode line key d a m) = refl
one_each ts (tac.Write kind mode line key d a e m) = refl
one_each ts (tac.Update u k f mode line at key d a right m) = refl
one_each ts (tac.Judge test size line key a m) = refl
one_each ts (tac.Zero x m) = refl
one_each ts (tac.StorePart kind line x offset a m) = refl
one_each ts (tac.StoreText n x offset m) = refl
one_each ts (tac.Branch a x y) = refl
one_each ts (tac.Case a n x y) = refl
one_each ts (tac.Turn counted m) = refl
one_each ts (tac.Library r line d n m) = refl
one_each ts (tac.Print x line d n m) = refl
one_each ts (tac.Call f line d n m) = refl
one_each ts (tac.CallThrough type line d n m) = refl
one_each ts (tac.EnterBlock e line m) = refl
one_each ts (tac.LeaveBlock e m) = refl
one_each ts (tac.Return a) = refl

pub as_long : (ts : List (List ℕ)) (is : List Instruction) → code_weight ts is each_one ≡ length is
as_long ts [] = refl
as_long ts (i ∷ is) = omega (arith, one_each ts i, as_long ts is)

pub emitted_length : {a b : Emitter} {most : ℕ} {k : Weights → ℕ} → Emits a b most k
    → length b.code.items ≡ length a.code.items + k each_one
emitted_length {a = a} {b = b} e =
    let grown = (e.grown each_one b.texts.items (stays_all b.texts.items)).exactly (record { by = λ kind. refl }) in
    omega (arith, as_long b.texts.items a.code.items, as_long b.texts.items b.code.items, grown)
