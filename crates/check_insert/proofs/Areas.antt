-- Code that is another but for its checks puts no larger structure into a temporary.
use Rattle.std.proofs.Common.{◌≡◌, ℕ, zero, suc, ◌≤◌, List, [], ◌∷◌, Option, Some, None, refl, ap, ◌∙◌, arith}
use Rattle.std.proofs.lemmas.Option.{same_Some}
use Rattle.tac_ir.specs.declared.instruction.Instruction.{Instruction}
use Rattle.tac_ir.specs.declared.instruction.Instruction.TheVariants.{Call, CallThrough}
use Rattle.tac_ir.specs.declared.function.CodeFunction.{CodeFunction}
use Rattle.tac_ir.specs.declared.function.Tac.{Tac}
use Rattle.tac_ir.specs.Meaning.{code_of, function_in}
use Rattle.tac_ir.specs.SameTables.{SameAt, SameTables}
use Rattle.tac_ir.specs.Structures.{result_of_type, result_of, bytes_put, structure_put, greatest_structure}
use Rattle.tac_ir.specs.Structures.{structures_below, AreasFit}
use Rattle.check_insert.specs.Inserted.{Has, NeedsNoMore}
use Rattle.check_insert.specs.SameButChecks.{SameButChecksAt, SameButChecks}

-- over the same tables instructions put the same structures

result_same : (t r : Tac) → SameTables t r → (o o' : Option CodeFunction) → SameAt o o'
    → result_of r.results o' ≡ result_of t.results o
result_same t r same None None h = refl
result_same t r same None (Some c') h = absurd h
result_same t r same (Some c) None h = absurd h
result_same t r same (Some c) (Some c') h =
    ap (λ ks. result_of_type ks c'.type_number) same.results
    ∙ ap (λ x. result_of_type t.results x.type_number) h.header

put_same : (t r : Tac) → SameTables t r → (j : Instruction) (k : ℕ) → structure_put r j k ≡ structure_put t j k
put_same t r same (Call f line d n m) k =
    ap (λ kind. bytes_put d kind k) (result_same t r same (function_in t f) (function_in r f) (same.functions f))
put_same t r same (CallThrough type_number line d n m) k =
    ap (λ ks. bytes_put d (result_of_type ks type_number) k) same.results
put_same t r same j k = refl

-- what one puts is at most the greatest

put_most : (t : Tac) (js : List Instruction) (k n : ℕ) (j : Instruction) → Has js n j
    → structure_put t j k ≤ greatest_structure t js k
put_most t [] k n j h = cc
put_most t (i ∷ js) k zero j h =
    let same = ap (λ x. structure_put t x k) (same_Some i j h) in omega (arith, same)
put_most t (i ∷ js) k (suc n) j h = omega (arith, put_most t js k n j h)

greatest_kept : (t r : Tac) → SameTables t r → (is : List Instruction) (k : ℕ) (js : List Instruction)
    → ((n : ℕ) (j : Instruction) → Has js n j → NeedsNoMore is j)
    → greatest_structure r js k ≤ greatest_structure t is k
greatest_kept t r same is k [] h = omega arith
greatest_kept t r same is k (j ∷ js) h =
    let own = h 0 j refl in
    let most = put_most t is k own.node own.other own.has in
    let rest = greatest_kept t r same is k js (λ n i g. h (suc n) i g) in
    omega (arith, put_same t r same j k, own.structures t k, most, rest)

below_kept : (t r : Tac) → SameTables t r → (is js : List Instruction)
    → ((n : ℕ) (j : Instruction) → Has js n j → NeedsNoMore is j) → (number : ℕ)
    → structures_below r js number ≤ structures_below t is number
below_kept t r same is js h zero = omega arith
below_kept t r same is js h (suc k) =
    omega (arith, below_kept t r same is js h k, greatest_kept t r same is k js h)

function_kept : (t r : Tac) → SameTables t r → (o o' : Option CodeFunction) → SameButChecksAt o o' → (number : ℕ)
    → structures_below r (code_of o') number ≤ structures_below t (code_of o) number
function_kept t r same None None h number = below_kept t r same [] [] (λ n j g. cc) number
function_kept t r same None (Some c') h number = absurd h
function_kept t r same (Some c) None h number = absurd h
function_kept t r same (Some c) (Some c') h number = below_kept t r same c.code c'.code h.homes number

pub areas_still_fit : (t r : Tac) → SameButChecks t r → (bytes : ℕ → ℕ) → AreasFit t bytes → AreasFit r bytes
areas_still_fit t r same bytes fit = record {
  by = λ u number.
      omega (
        arith,
        function_kept t r same.tables (function_in t u) (function_in r u) (same.functions u) number,
        fit.by u number,
      );
}
