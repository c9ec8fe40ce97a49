-- Code that weighs no more however much each instruction weighs that integers do not need has none of these, and so
-- code that is the same but for checks is the same.
use Rattle.std.proofs.Common.{◌≡◌, ℕ, zero, suc, ◌≤◌, List, [], ◌∷◌, length, refl, ap, ◌∙◌, subst, arith}
use Rattle.std.specs.Prelude.{slice_get}
use Rattle.std.proofs.lemmas.Option.{same_Some}
use Rattle.tac_ir.specs.declared.instruction.Instruction.{Instruction}
use Rattle.tac_ir.specs.declared.instruction.Instruction.TheVariants as tac
use Rattle.tac_ir.specs.declared.function.CodeFunction.{CodeFunction}
use Rattle.tac_ir.specs.declared.function.Tac.{Tac}
use Rattle.program_lowering.specs.ExpressionCode.Weights.{weight_of, code_weight}
use Rattle.program_lowering.specs.ProgramCode.Weights.{codes_weight}
use Rattle.check_insert.specs.Counting.{checks_needed, sum_over}
use Rattle.check_insert.specs.Inserted.{Has}
use Rattle.check_insert.specs.SameButChecks.{HasNoChecks, SameButChecksIn, SameButChecksAt, SameButChecks}
use Rattle.image_laws.proofs.Sizes.Words.{words}

-- what weighs so little is no check and gets none
kept : (ts : List (List ℕ)) (b : ℕ) (i : Instruction) → weight_of ts i (words (suc b)) ≤ b → HasNoChecks i
kept ts b (tac.Read kind mode line key d a m) le = absurd (omega (arith, le))
kept ts b (tac.Write kind mode line key d a e m) le = absurd (omega (arith, le))
kept ts b (tac.Update u k f mode line at key d a e m) le = absurd (omega (arith, le))
kept ts b (tac.Judge test size line key a m) le = absurd (omega (arith, le))
kept ts b i le = record { needed = refl; own = refl }

none_needed : (ts : List (List ℕ)) (b : ℕ) (is : List Instruction) → code_weight ts is (words (suc b)) ≤ b
    → sum_over checks_needed is ≡ 0
none_needed ts b [] le = refl
none_needed ts b (i ∷ is) le =
    let h = kept ts b i (omega (arith, le)) in omega (arith, h.needed, none_needed ts b is (omega (arith, le)))

kept_at : (ts : List (List ℕ)) (b : ℕ) (is : List Instruction) → code_weight ts is (words (suc b)) ≤ b → (n : ℕ)
    (i : Instruction) → Has is n i
    → HasNoChecks i
kept_at ts b [] le n i h = cc
kept_at ts b (j ∷ is) le zero i h = subst HasNoChecks (same_Some _ _ h) (kept ts b j (omega (arith, le)))
kept_at ts b (j ∷ is) le (suc n) i h = kept_at ts b is (omega (arith, le)) n i h

same_code : (xs ys : List Instruction) → length ys ≡ length xs → ((n : ℕ) (i : Instruction) → Has xs n i → Has ys n i)
    → ys ≡ xs
same_code [] [] e h = refl
same_code [] (y ∷ ys) e h = cc
same_code (x ∷ xs) [] e h = cc
same_code (x ∷ xs) (y ∷ ys) e h =
    let rest = same_code xs ys (omega (arith, e)) (λ n i g. h (suc n) i g) in
    ap (λ z. z ∷ ys) (same_Some _ _ (h 0 x refl)) ∙ ap (λ zs. x ∷ zs) rest

function_same : (ts : List (List ℕ)) (b : ℕ) (c c' : CodeFunction) → SameButChecksIn c c' → code_weight ts c.code
    (words (suc b)) ≤ b
    → c'.code ≡ c.code
function_same ts b c c' f le =
    let none = none_needed ts b c.code le in
    let size = f.size in
    same_code c.code c'.code (omega (arith, size, none))
    (λ n i h. f.code n i h (kept_at ts b c.code le n i h))

-- the code of all functions weighs the same
functions_same : (ts : List (List ℕ)) (b k : ℕ) (cs cs' : List CodeFunction) → ((u : ℕ) → SameButChecksAt
    (slice_get cs u) (slice_get cs' u))
    → codes_weight ts cs (words (suc b)) ≤ b → codes_weight ts cs' (words k) ≡ codes_weight ts cs (words k)
functions_same ts b k [] [] h le = refl
functions_same ts b k [] (c' ∷ cs') h le = absurd (h 0)
functions_same ts b k (c ∷ cs) [] h le = absurd (h 0)
functions_same ts b k (c ∷ cs) (c' ∷ cs') h le =
    let first = ap (λ is. code_weight ts is (words k)) (function_same ts b c c' (h 0) (omega (arith, le))) in
    omega (arith, first, functions_same ts b k cs cs' (λ u. h (suc u)) (omega (arith, le)))

pub weighs_the_same : (ts : List (List ℕ)) (b k : ℕ) (t r : Tac) → SameButChecks t r → codes_weight ts t.functions
    (words (suc b)) ≤ b
    → codes_weight ts r.functions (words k) ≡ codes_weight ts t.functions (words k)
weighs_the_same ts b k t r same le = functions_same ts b k t.functions r.functions same.functions le
