-- The areas of a function's temporaries take no more than its room has for structures.
use Rattle.std.proofs.Common.{◌≡◌, ℕ, zero, suc, ◌+◌, ◌-◌, ◌≤◌, Bool, true, false, List, [], ◌∷◌, map}
use Rattle.std.proofs.Common.{refl, sym, ap, ◌∙◌, arith}
use Rattle.std.specs.Prelude.{max, ◌==◌, if◌then◌else◌, get_or, slice_get}
use Rattle.std.proofs.lemmas.Bool.{and_parts, eqb-true}
use Rattle.std.proofs.lemmas.Option.{same_Some}
use Rattle.c_tree.specs.declared.expression.Kind.{Kind}
use Rattle.c_tree.specs.declared.expression.Kind.TheVariants.{Void}
use Rattle.c_tree.specs.Blocks.{all_of}
use Rattle.c_tree.specs.Programs.{Function, FunctionType, Program}
use Rattle.c_tree.specs.Room.{structure_bytes, room}
use Rattle.c_tree.specs.Valid.{no_signature}
use Rattle.c_tree.specs.ValidProgram.{are_statements, is_function, are_functions, is_valid_program, signature_of}
use Rattle.c_tree.specs.ValidProgram.{signature_at}
use Rattle.c_tree.specs.ValidProgram.{function_scope}
use Rattle.source_meaning.specs.Calls.{header_of, function_at}
use Rattle.tac_ir.specs.declared.instruction.Instruction.{Instruction}
use Rattle.tac_ir.specs.declared.instruction.Instruction.TheVariants as tac
use Rattle.tac_ir.specs.declared.function.CodeFunction.{CodeFunction}
use Rattle.tac_ir.specs.declared.function.Tac.{Tac}
use Rattle.tac_ir.specs.Meaning.{header_of_code, code_of, function_in}
use Rattle.tac_ir.specs.Structures.{result_of_type, result_of, structure_put, greatest_structure, structures_below}
use Rattle.tac_ir.specs.Structures.{AreasFit}
use Rattle.c_lower.specs.Placed.{HasAt}
use Rattle.c_lower.specs.Programs.{literals_of, IsLowered}
use Rattle.program_lowering.specs.ExpressionCode.Weights.{Weights, weight_of, code_weight}
use Rattle.program_lowering.specs.ProgramCode.Code.{IsFunction}
use Rattle.program_lowering.specs.ProgramCode.Structures.{structures_room, structures_room_at, room_for_structures}
use Rattle.program_lowering.specs.ProgramCode.Whole.{AreFunctions}
use Rattle.program_lowering.proofs.ProgramCode.Ready.{outside}
use Rattle.program_lowering.proofs.ProgramCode.StructureWeights.{structures, spares, Gives, statements_light}

-- a number where another is met, over the numbers below one

abbrev at_number : (place number n : ℕ) → ℕ
at_number p i n = if p == i then n else 0

abbrev spread : (place n below : ℕ) → ℕ
spread p n zero = 0
spread p n (suc i) = spread p n i + at_number p i n

none_before : (p n k : ℕ) → k ≤ p → spread p n k ≡ 0
none_before p n zero le = refl
none_before p n (suc i) le = by (p == i) refl (none_before p n i (omega (arith, le)))
  where
    by : (b : Bool) → (p == i) ≡ b → spread p n i ≡ 0 → spread p n (suc i) ≡ 0
    by true e before = absurd (omega (arith, eqb-true p i e, le))
    by false e before = let here = ap (λ b. if b then n else 0) e in omega (arith, here, before)

once : (p n k : ℕ) → spread p n k ≤ n
once p n zero = omega arith
once p n (suc i) = by (p == i) refl (once p n i)
  where
    by : (b : Bool) → (p == i) ≡ b → spread p n i ≤ n → spread p n (suc i) ≤ n
    by true e before =
        let here = ap (λ b. if b then n else 0) e in
        omega (arith, here, none_before p n i (omega (arith, eqb-true p i e)))
    by false e before = let here = ap (λ b. if b then n else 0) e in omega (arith, here, before)

apart : (i : ℕ) → (0 == suc i) ≡ false
apart i = by (0 == suc i) refl
  where
    by : (b : Bool) → (0 == suc i) ≡ b → (0 == suc i) ≡ false
    by true e = absurd (omega (arith, eqb-true 0 (suc i) e))
    by false e = e

-- where an instruction puts a structure
abbrev place_of : Instruction → ℕ
place_of (tac.ZeroOf kind d m) = d
place_of (tac.Take kind line d a m) = d
place_of (tac.Call f line d n m) = d
place_of (tac.CallThrough type line d n m) = d
place_of j = 0

-- what calls give in code

abbrev given : Tac → (function : ℕ) → Kind
given t f = result_of t.results (function_in t f)

abbrev of_type : Tac → (type_number : ℕ) → Kind
of_type t n = result_of_type t.results n

module _ (t : Tac) (texts : List (List ℕ)) (spared : ℕ) where
  abbrev own : Weights
  own = structures (given t) (of_type t) spared

  -- the greatest structure of a temporary, where the first has so many bytes for its own
  abbrev raised : List Instruction → (temporary : ℕ) → ℕ
  raised js zero = max spared (greatest_structure t js zero)
  raised js (suc i) = greatest_structure t js (suc i)

  abbrev raised_below : List Instruction → (number : ℕ) → ℕ
  raised_below js zero = 0
  raised_below js (suc i) = raised_below js i + raised js i

  from_put : (j : Instruction) (js : List Instruction) (i n : ℕ) → structure_put t j i ≤ n
      → raised (j ∷ js) i ≤ raised js i + n
  from_put j js zero n h = omega (arith, h)
  from_put j js (suc i) n h = omega (arith, h)

  from_none : (j : Instruction) (js : List Instruction) (i n : ℕ) → structure_put t j i ≡ 0
      → raised (j ∷ js) i ≤ raised js i + n
  from_none j js i n e = from_put j js i n (omega (arith, e))

  from_same : (j : Instruction) (js : List Instruction) (i n : ℕ) → structure_put t j i ≡ n
      → raised (j ∷ js) i ≤ raised js i + n
  from_same j js i n e = from_put j js i n (omega (arith, e))

  -- what goes beyond those bytes
  from_first : (j : Instruction) (js : List Instruction) (bytes : ℕ) → structure_put t j 0 ≡ bytes
      → raised (j ∷ js) 0 ≤ raised js 0 + (bytes - spared)
  from_first j js bytes e = omega (arith, e)

  one : (j : Instruction) (js : List Instruction) (i : ℕ)
      → raised (j ∷ js) i ≤ raised js i + at_number (place_of j) i (weight_of texts j own)
  one (tac.ZeroOf kind d m) js i = from_same (tac.ZeroOf kind d m) js i _ refl
  one (tac.Take kind line zero a m) js zero = from_first (tac.Take kind line 0 a m) js (structure_bytes kind) refl
  one (tac.Take kind line zero a m) js (suc i) = from_none (tac.Take kind line 0 a m) js (suc i) _
      (ap (λ b. if b then structure_bytes kind else 0) (apart i))
  one (tac.Take kind line (suc d) a m) js i = from_same (tac.Take kind line (suc d) a m) js i _ refl
  one (tac.Call f line d n m) js i = from_same (tac.Call f line d n m) js i _ refl
  one (tac.CallThrough type line d n m) js i = from_same (tac.CallThrough type line d n m) js i _ refl
  one j js i = from_none j js i _ refl

  all_below : (j : Instruction) (js : List Instruction) (k : ℕ)
      → raised_below (j ∷ js) k ≤ raised_below js k + spread (place_of j) (weight_of texts j own) k
  all_below j js zero = omega arith
  all_below j js (suc i) = omega (arith, all_below j js i, one j js i)

  one_more : (j : Instruction) (js : List Instruction) (k : ℕ)
      → raised_below (j ∷ js) k ≤ raised_below js k + weight_of texts j own
  one_more j js k = omega (arith, all_below j js k, once (place_of j) (weight_of texts j own) k)

  none_below : (k : ℕ) → raised_below [] k ≤ spared
  none_below zero = omega arith
  none_below (suc zero) = omega arith
  none_below (suc (suc i)) = omega (arith, none_below (suc i))

  all_spared : (js : List Instruction) (k : ℕ) → raised_below js k ≤ spared + code_weight texts js own
  all_spared [] k = omega (arith, none_below k)
  all_spared (j ∷ js) k = omega (arith, one_more j js k, all_spared js k)

  -- a structure of zeros in the first is no greater than what it has

  zero_one : (kind : Kind) (m : ℕ) (js : List Instruction) (i : ℕ) → structure_bytes kind ≡ spared
      → raised (tac.ZeroOf kind 0 m ∷ js) i ≤ raised js i
  zero_one kind m js zero e =
      let put : structure_put t (tac.ZeroOf kind 0 m) 0 ≡ structure_bytes kind = refl in omega (arith, put, e)
  zero_one kind m js (suc i) e =
      let put : structure_put t (tac.ZeroOf kind 0 m) (suc i) ≡ 0 =
      ap (λ b. if b then structure_bytes kind else 0) (apart i) in
      omega (arith, put)

  zero_below : (kind : Kind) (m : ℕ) (js : List Instruction) (k : ℕ) → structure_bytes kind ≡ spared
      → raised_below (tac.ZeroOf kind 0 m ∷ js) k ≤ raised_below js k
  zero_below kind m js zero e = omega arith
  zero_below kind m js (suc i) e = omega (arith, zero_below kind m js i e, zero_one kind m js i e)

  with_zero : (kind : Kind) (m : ℕ) → structure_bytes kind ≡ spared → (js : List Instruction) (n k : ℕ)
      → HasAt js n (tac.ZeroOf kind 0 m) → raised_below js k ≤ code_weight texts js own
  with_zero kind m e [] n k h = cc
  with_zero kind m e (j ∷ js) zero k h =
      let same = same_Some j (tac.ZeroOf kind 0 m) h in
      let first = ap (λ x. raised_below (x ∷ js) k) same in
      let weight = ap (λ x. weight_of texts x own) same in
      omega (arith, e, first, weight, zero_below kind m js k e, all_spared js k)
  with_zero kind m e (j ∷ js) (suc n) k h = omega (arith, one_more j js k, with_zero kind m e js n k h)

  below_raised : (js : List Instruction) (k : ℕ) → structures_below t js k ≤ raised_below js k
  below_raised js zero = omega arith
  below_raised js (suc zero) = omega arith
  below_raised js (suc (suc i)) = omega (arith, below_raised js (suc i))

  -- in a function
  areas_of_code : (kind : Kind) (m : ℕ) → structure_bytes kind ≡ spared → (js : List Instruction) (n k : ℕ)
      → HasAt js n (tac.ZeroOf kind 0 m) → structures_below t js k ≤ code_weight texts js own
  areas_of_code kind m e js n k h = omega (arith, below_raised js k, with_zero kind m e js n k h)

-- what calls give in a program and in its code

types_give : (ts : List FunctionType) (n : ℕ)
    → (get_or (map signature_of ts) n no_signature).result ≡ get_or (map (λ (u : FunctionType). u.result) ts) n Void
types_give [] n = refl
types_give (u ∷ ts) zero = refl
types_give (u ∷ ts) (suc n) = types_give ts n

type_gives : (p : Program) (t : Tac) → IsLowered p t → (n : ℕ)
    → (signature_at p n).result ≡ result_of_type t.results n
type_gives p t h n = types_give p.function_types n ∙ ap (λ ks. get_or ks n Void) (sym h.results)

functions_give : (p : Program) (t : Tac) → IsLowered p t → (fs : List Function) (cs : List CodeFunction)
    → map header_of_code cs ≡ map header_of fs → (k : ℕ)
    → (get_or (map (λ (f : Function). signature_at p f.type_number) fs) k no_signature).result
    ≡ result_of t.results (slice_get cs k)
functions_give p t h [] [] e k = refl
functions_give p t h [] (c ∷ cs) e k = cc
functions_give p t h (f ∷ fs) [] e k = cc
functions_give p t h (f ∷ fs) (c ∷ cs) e zero =
    let first : header_of_code c ≡ header_of f = cc in
    let same : c.type_number ≡ f.type_number = ap (λ x. x.type_number) first in
    type_gives p t h f.type_number ∙ ap (result_of_type t.results) (sym same)
functions_give p t h (f ∷ fs) (c ∷ cs) e (suc k) =
    let others : map header_of_code cs ≡ map header_of fs = cc in
    functions_give p t h fs cs others k

gives : (p : Program) (t : Tac) → IsLowered p t → (f : Function)
    → Gives (function_scope p f) (given t) (of_type t) (structure_bytes (get_or t.results f.type_number Void))
gives p t h f = record {
  functions = functions_give p t h p.functions t.functions h.headers;
  types = type_gives p t h;
  result = let same = ap structure_bytes (type_gives p t h f.type_number) in omega (arith, same);
}

one_fits : (p : Program) (t : Tac) → IsLowered p t → (n : ℕ) (f : Function) (c : CodeFunction)
    → is_function p n f ≡ true
    → IsFunction t.texts (literals_of p.statics) (get_or t.results f.type_number Void) f c → (k : ℕ)
    → structures_below t c.code k ≤ structures_room (get_or t.results f.type_number Void) f
one_fits p t low n f c valid h k =
    let kind = get_or t.results f.type_number Void in
    let spared = structure_bytes kind in
    let parts = and_parts _ (f.room == room p.statics n (signature_at p f.type_number).result f) valid in
    let body = (and_parts _ (are_statements (function_scope p f) outside f.body) parts.0).1 in
    let weight = h.weight (structures (given t) (of_type t) spared) in
    let text = statements_light (given t) (of_type t) spared (gives p t low f) outside (all_of f) f.body body in
    let areas = areas_of_code t t.texts spared kind h.body.1 refl c.code h.body.0 k h.body.3 in
    omega (arith, areas, weight.at_most (spares (given t) (of_type t) spared), text)

all_fit : (p : Program) (t : Tac) → IsLowered p t → (n : ℕ) (fs : List Function) (cs : List CodeFunction)
    → are_functions p n fs ≡ true → AreFunctions t.texts (literals_of p.statics) t.results fs cs → (u k : ℕ)
    → structures_below t (code_of (slice_get cs u)) k ≤ structures_room_at t.results (function_at fs u)
all_fit p t low n [] [] v h u k = none k
  where
    none : (k : ℕ) → structures_below t [] k ≤ 0
    none zero = omega arith
    none (suc i) = omega (arith, none i)
all_fit p t low n [] (c ∷ cs) v h u k = absurd h
all_fit p t low n (f ∷ fs) [] v h u k = absurd h
all_fit p t low n (f ∷ fs) (c ∷ cs) v h zero k =
    one_fits p t low n f c (and_parts (is_function p n f) (are_functions p (suc n) fs) v).0 h.0 k
all_fit p t low n (f ∷ fs) (c ∷ cs) v h (suc u) k =
    all_fit p t low (suc n) fs cs (and_parts (is_function p n f) (are_functions p (suc n) fs) v).1 h.1 u k

valid_functions : (p : Program) → is_valid_program p ≡ true → are_functions p 0 p.functions ≡ true
unfolding is_valid_program
valid_functions p h = (and_parts _ (are_functions p 0 p.functions) (and_parts _ _ h).0).1

pub areas_fit : (p : Program) (t : Tac) → is_valid_program p ≡ true → IsLowered p t
    → AreFunctions t.texts (literals_of p.statics) t.results p.functions t.functions
    → AreasFit t (room_for_structures p)
areas_fit p t valid low h = record {
  by = λ u k.
      let most = all_fit p t low 0 p.functions t.functions (valid_functions p valid) h u k in
      let same = ap (λ ks. structures_room_at ks (function_at p.functions u)) low.results in
      omega (arith, most, same);
}
