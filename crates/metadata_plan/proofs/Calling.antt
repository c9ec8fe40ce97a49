-- Calls: what is tested, what is handed over, and where the callee begins.
use Rattle.std.proofs.Common.{◌≡◌, ℕ, zero, suc, ◌+◌, ◌-◌, ◌*◌, ◌^◌, ◌<◌, ◌≤◌, refl, sym, ap, ◌∙◌, subst}
use Rattle.std.proofs.Common.{arith, Bool, true, false, List, [], ◌∷◌, ◌++◌, length, map, get_or}
use Rattle.std.proofs.Common.{length-append, mod-eq_of_lt, mul-le-mul_right, lt-ltb, le-ltb}
use Rattle.std.proofs.Common.{ltb-true, ltb-false}
use Rattle.std.specs.Prelude.{nat_lt, if◌then◌else◌}
use Rattle.words.specs.TwosComplement.{low_bits}
use Rattle.behaviours.specs.Steps.{run}
use Rattle.behaviours.proofs.Running.{run_add}
use Rattle.addr_map.specs.Places.{MapSizes}
use Rattle.sb_base.specs.declared.ending.Ending.TheVariants.{Stack}
use Rattle.sb_base.specs.Endings.{code_of, report_of}
use Rattle.obj_memory.specs.declared.value.Value.{Value}
use Rattle.c_tree.specs.declared.program.Variable.{Variable}
use Rattle.source_meaning.specs.State.{Rvalue}
use Rattle.source_meaning.specs.Actions.{integer}
use Rattle.source_meaning.specs.Structures.{rvalue}
use Rattle.source_meaning.specs.Calls.{first_of, rest_of, parameter_values, plain_values, parameter_count}
use Rattle.tac_ir.specs.declared.function.CodeFunction.{CodeFunction}
use Rattle.tac_ir.specs.Stage.{Temps, no_temps, gathered}
use Rattle.tac_ir.specs.Meaning.{header_of_code}
use Rattle.rv_isa.specs.declared.instruction.BranchOp.TheVariants.{Bltu}
use Rattle.rv_isa.specs.Results.{wrap, branch_taken}
use Rattle.flat_code.specs.declared.instruction.RightOperand.TheVariants.{Number}
use Rattle.flat_code.specs.declared.instruction.FlatInstruction.TheVariants as flat_code
use Rattle.flat_code.specs.declared.function.FlatProgram.{FlatProgram}
use Rattle.flat_code.specs.Memory.{put}
use Rattle.flat_code.specs.State as flat
use Rattle.flat_code.specs.Calls.{function_in, charged, arguments}
use Rattle.flat_code.specs.Meaning.{body_of, step, weight_of}
use Rattle.flat_code.specs.Routines.Routine.{HasAt}
use Rattle.metadata_plan.specs.Registers.{all_variables, most_temporaries, variable_register}
use Rattle.metadata_plan.specs.Registers.{temporary_register, first_free}
use Rattle.metadata_plan.specs.Blocks.{call_tests, argument_moves, zeros, zero_variables}
use Rattle.std.specs.Prelude.{◌==◌}
use Rattle.std.proofs.lemmas.Bool.{eqb-true, eqb-false}
use Rattle.source_meaning.specs.Calls.{plain_count}
use Rattle.metadata_plan.specs.Registers.{words_of}
use Rattle.metadata_plan.proofs.Flat.{constant_comes}
use Rattle.flat_code.specs.declared.instruction.FlatInstruction.{FlatInstruction}
use Rattle.flat_code.proofs.Stored.{put_same, put_other}
use Rattle.metadata_plan.specs.Part.{are_integers}
use Rattle.metadata_plan.specs.Matching.{Holds}
use Rattle.metadata_plan.proofs.Numbers.{integers_words, integers_register, integers_front}
use Rattle.metadata_plan.proofs.Numbers.{is_integer_variable}
use Rattle.metadata_plan.proofs.Flat.{weight_small, Comes, then_comes, turn_comes, charged_comes, branch_taken_comes}
use Rattle.metadata_plan.proofs.Flat.{branch_passed_comes, move_comes, end_step}

-- ---- the test of the charge

pub below : (x y : ℕ) (b : Bool) → nat_lt x y ≡ b → branch_taken Bltu x y ≡ b
unfolding branch_taken
below x y b e = e

charge_fits : (charge room calls : ℕ) → charge + room ≤ calls → calls < 2 ^ 63
    → branch_taken Bltu (wrap charge) (low_bits 64 (calls + 1 - room)) ≡ true
charge_fits charge room calls fits low =
    let a : wrap charge ≡ charge = mod-eq_of_lt (omega arith) in
    let b : low_bits 64 (calls + 1 - room) ≡ calls + 1 - room = mod-eq_of_lt (omega arith) in
    below (wrap charge) (low_bits 64 (calls + 1 - room)) true
    (lt-ltb (wrap charge) (low_bits 64 (calls + 1 - room)) (omega arith))

charge_passes : (charge room calls : ℕ) → calls < charge + room → charge ≤ calls → calls < 2 ^ 63
    → branch_taken Bltu (wrap charge) (low_bits 64 (calls + 1 - room)) ≡ false
charge_passes charge room calls more fits low =
    let a : wrap charge ≡ charge = mod-eq_of_lt (omega arith) in
    let b : low_bits 64 (calls + 1 - room) ≡ calls + 1 - room = mod-eq_of_lt (omega arith) in
    below (wrap charge) (low_bits 64 (calls + 1 - room)) false
    (le-ltb (wrap charge) (low_bits 64 (calls + 1 - room)) (omega arith))

module _ (m : MapSizes) (p : FlatProgram) (u pc : ℕ) (v : flat.State) (xs : List flat.Frame) (room line s : ℕ)
    (has : HasAt (body_of (function_in p u)) pc (call_tests m room line s)) (low : m.budgets.calls < 2 ^ 63) where
  abbrev pub tested : flat.State
  tested = record v { turns = v.turns + 1; values = put v.values s (wrap (charged p u xs)) }

  up_to_branch : Comes m p u pc v xs (pc + 1 + 1) tested 4
  up_to_branch =
      let a = turn_comes m p u pc v xs has.0 in
      let between : flat.State = record v { turns = v.turns + 1; work = v.work + a.work } in
      let b = charged_comes m p u (pc + 1) between xs s has.1.0 in
      let all = then_comes m p u pc v xs (pc + 1) (pc + 1 + 1) (record v { turns = v.turns + 1 })
      (record between { values = put v.values s (wrap (charged p u xs)) }) 2 2 a b in
      record { steps = all.steps; work = all.work; few = all.few; comes = all.comes }

  -- a register that is tested holds the charge
  holds_charge : put v.values s (wrap (charged p u xs)) s ≡ wrap (charged p u xs)
  holds_charge = put_same v.values s (wrap (charged p u xs))

  pub tests_pass : charged p u xs + room ≤ m.budgets.calls → Comes m p u pc v xs (pc + 4) tested 6
  tests_pass fits =
      let a = up_to_branch in
      let between : flat.State = record tested { work = v.work + a.work } in
      let taken = ap (λ z. branch_taken Bltu z (low_bits 64 (m.budgets.calls + 1 - room))) holds_charge
      ∙ charge_fits (charged p u xs) room m.budgets.calls fits low in
      let b = branch_taken_comes m p u (pc + 1 + 1) between xs Bltu s (Number (m.budgets.calls + 1 - room)) 1 has.1.1.0
      taken in
      let all = then_comes m p u pc v xs (pc + 1 + 1) (pc + 1 + 1 + 1 + 1) tested between 4 2 a b in
      let e : pc + 1 + 1 + 1 + 1 ≡ pc + 4 = omega arith in
      subst (λ z. Comes m p u pc v xs z tested 6) e
      (record { steps = all.steps; work = all.work; few = all.few; comes = all.comes })

  -- the run ends
  pub record Exhausts : Type 0 where
    pub steps : ℕ
    pub work : ℕ
    pub few : work ≤ 6 + 2 * (1 + length (report_of (Stack line)))
    pub comes : run (step m p) steps (flat.Stands u pc v xs)
        ≡ flat.Over (code_of (Stack line)) (report_of (Stack line)) (record tested { work = v.work + work })

  pub tests_end : m.budgets.calls < charged p u xs + room → charged p u xs ≤ m.budgets.calls → Exhausts
  tests_end more fits =
      let a = up_to_branch in
      let between : flat.State = record tested { work = v.work + a.work } in
      let passed = ap (λ z. branch_taken Bltu z (low_bits 64 (m.budgets.calls + 1 - room))) holds_charge
      ∙ charge_passes (charged p u xs) room m.budgets.calls more fits low in
      let b = branch_passed_comes m p u (pc + 1 + 1) between xs Bltu s (Number (m.budgets.calls + 1 - room)) 1
      has.1.1.0 passed in
      let all = then_comes m p u pc v xs (pc + 1 + 1) (pc + 1 + 1 + 1) tested between 4 2 a b in
      let w = weight_of (function_in p u) in
      let l = length (report_of (Stack line)) in
      let last : flat.State = record tested { work = v.work + all.work } in
      let e = end_step m p u (pc + 1 + 1 + 1) last xs (Stack line) has.1.1.1.0 in
      let sum : v.work + all.work + w * (1 + l) ≡ v.work + (all.work + w * (1 + l)) = omega arith in
      let scaled = mul-le-mul_right (1 + l) (weight_small (function_in p u)) in
      record {
        steps = all.steps + 1;
        work = all.work + w * (1 + l);
        few = omega (arith, all.few, scaled);
        comes = run_add (step m p) all.steps 1 (flat.Stands u pc v xs) ∙ ap (run (step m p) 1) all.comes ∙ e
            ∙ ap (λ z. flat.Over (code_of (Stack line)) (report_of (Stack line)) (record tested { work = z })) sum;
      }

-- ---- arguments

-- what registers hold once arguments were handed over
pub record Given (c : CodeFunction) (r d count : ℕ) (values after : flat.Values) : Type 0 where
  pub arguments_are : (j : ℕ) → j < count → after (r + j) ≡ values (temporary_register c (d + j))
  pub others : (y : ℕ) → y < r → after y ≡ values y

pub record Moved (m : MapSizes) (p : FlatProgram) (c : CodeFunction) (u pc : ℕ) (v : flat.State) (xs : List flat.Frame)
    (place r d count : ℕ) : Type 0 where
  pub values : flat.Values
  pub comes : Comes m p u pc v xs place (record v { values = values }) (2 * count)
  pub given : Given c r d count v.values values

module _ (m : MapSizes) (p : FlatProgram) (c : CodeFunction) (u : ℕ) (xs : List flat.Frame) where
  pub arguments_moved : (count pc : ℕ) (v : flat.State) (r d : ℕ) → d + count ≤ most_temporaries c.code
      → first_free c ≤ r → HasAt (body_of (function_in p u)) pc (argument_moves c r d count)
      → Moved m p c u pc v xs (pc + length (argument_moves c r d count)) r d count
  arguments_moved zero pc v r d low above has =
      let e : pc ≡ pc + 0 = omega arith in
      let w : v.work ≡ v.work + 0 = omega arith in
      record {
        values = v.values;
        comes = record {
          steps = 0;
          work = 0;
          few = omega arith;
          comes = ap (λ z. flat.Stands u z v xs) e ∙ ap (λ z. flat.Stands u (pc + 0) (record v { work = z }) xs) w;
        };
        given = record { arguments_are = λ j lt. absurd (omega arith); others = λ y lt. refl };
      }
  arguments_moved (suc n) pc v r d low above has =
      let x = temporary_register c d in
      let a = move_comes m p u pc v xs r x has.0 in
      let b = put v.values r (v.values x) in
      let between : flat.State = record v { values = b; work = v.work + a.work } in
      let rest = arguments_moved n (pc + 1) between (r + 1) (d + 1) (omega arith) (omega arith) has.1 in
      let k = rest.comes in
      let place = pc + 1 + length (argument_moves c (r + 1) (d + 1) n) in
      let all = then_comes m p u pc v xs (pc + 1) place (record v { values = b })
      (record between { values = rest.values }) 2 (2 * n) a k in
      let e : place ≡ pc + length (argument_moves c r d (suc n)) = omega arith in
      let f : 2 + 2 * n ≡ 2 * suc n = omega arith in
      let retold : Comes m p u pc v xs place (record v { values = rest.values }) (2 + 2 * n) =
      record { steps = all.steps; work = all.work; few = all.few; comes = all.comes } in
      record {
        values = rest.values;
        comes = subst (λ z. Comes m p u pc v xs (pc + length (argument_moves c r d (suc n)))
            (record v { values = rest.values }) z) f
            (subst (λ z. Comes m p u pc v xs z (record v { values = rest.values }) (2 + 2 * n)) e retold);
        given = record {
          arguments_are = by rest.values rest.given;
          others = λ y lt. rest.given.others y (omega arith)
              ∙ put_other v.values r (v.values x) y (λ same. absurd (omega arith));
        };
      }
    where
      by : (after : flat.Values)
          → Given c (r + 1) (d + 1) n (put v.values r (v.values (temporary_register c d))) after
          → (j : ℕ) → j < suc n → after (r + j) ≡ v.values (temporary_register c (d + j))
      by after given zero lt =
          let e : r ≡ r + 0 = omega arith in
          let f : d ≡ d + 0 = omega arith in
          ap after (sym e) ∙ given.others r (omega arith)
          ∙ put_same v.values r (v.values (temporary_register c d)) ∙ ap (λ z. v.values (temporary_register c z)) f
      by after given (suc j) lt =
          let e : r + 1 + j ≡ r + suc j = omega arith in
          let f : d + 1 + j ≡ d + suc j = omega arith in
          ap after (sym e) ∙ given.arguments_are j (omega arith)
          ∙ put_other v.values r (v.values (temporary_register c d)) (temporary_register c (d + 1 + j))
          (λ same. absurd (omega arith))
          ∙ ap (λ z. v.values (temporary_register c z)) f

-- ---- the prologue

-- registers that are 0 stay so
pub record Zeroed (m : MapSizes) (p : FlatProgram) (u pc : ℕ) (v : flat.State) (xs : List flat.Frame)
    (place most : ℕ) : Type 0 where
  pub values : flat.Values
  pub comes : Comes m p u pc v xs place (record v { values = values }) most
  pub same : (y : ℕ) → values y ≡ v.values y

pub plain_counted : (vs : List Variable) → are_integers vs ≡ true → plain_count vs ≡ length vs
plain_counted [] e = refl
plain_counted (v ∷ vs) e =
    let h = is_integer_variable v vs e in
    let one : (if v.is_object then 0 else 1) ≡ 1 = ap one_unless h.0 in
    omega (arith, one, plain_counted vs h.2)
  where
    one_unless : Bool → ℕ
    one_unless b = if b then 0 else 1

-- one more register
zero_one : (r w : ℕ) (b : Bool) → b ≡ false → w ≡ 1 → (rest : ℕ → List FlatInstruction)
    → ((if b then [] else zeros r w) ++ rest (r + w)) ≡ (flat_code.Constant r 0 ∷ rest (r + 1))
zero_one r w b not_object one rest =
    ap (λ z. (if z then [] else zeros r w) ++ rest (r + w)) not_object
    ∙ ap (λ z. zeros r z ++ rest (r + z)) one

module _ (m : MapSizes) (p : FlatProgram) (u : ℕ) (xs : List flat.Frame) where
  pub variables_zeroed : (vs : List Variable) → are_integers vs ≡ true → (pc : ℕ) (v : flat.State) (r : ℕ)
      → ((y : ℕ) → r ≤ y → v.values y ≡ 0) → HasAt (body_of (function_in p u)) pc (zero_variables r vs)
      → Zeroed m p u pc v xs (pc + length (zero_variables r vs)) (2 * length vs)
  variables_zeroed [] e pc v r zero_from has =
      let at : pc ≡ pc + 0 = omega arith in
      let w : v.work ≡ v.work + 0 = omega arith in
      record {
        values = v.values;
        comes = record {
          steps = 0;
          work = 0;
          few = omega arith;
          comes = ap (λ z. flat.Stands u z v xs) at ∙ ap (λ z. flat.Stands u (pc + 0) (record v { work = z }) xs) w;
        };
        same = λ y. refl;
      }
  variables_zeroed (x ∷ vs) e pc v r zero_from has =
      let h = is_integer_variable x vs e in
      let list = zero_one r (words_of x.kind) x.is_object h.0 h.1 (λ z. zero_variables z vs) in
      let has' = subst (λ z. HasAt (body_of (function_in p u)) pc z) list has in
      let a = constant_comes m p u pc v xs r 0 has'.0 in
      let b = put v.values r (low_bits 64 0) in
      let kept = same_put v.values r (zero_from r (omega arith)) in
      let between : flat.State = record v { values = b; work = v.work + a.work } in
      let rest = variables_zeroed vs h.2 (pc + 1) between (r + 1)
      (λ y le. kept y ∙ zero_from y (omega arith)) has'.1 in
      let place = pc + 1 + length (zero_variables (r + 1) vs) in
      let all = then_comes m p u pc v xs (pc + 1) place (record v { values = b })
      (record between { values = rest.values }) 2 (2 * length vs) a rest.comes in
      let size : length (zero_variables r (x ∷ vs)) ≡ suc (length (zero_variables (r + 1) vs)) = ap length list in
      let at : place ≡ pc + length (zero_variables r (x ∷ vs)) = omega (arith, size) in
      let few : 2 + 2 * length vs ≡ 2 * length (x ∷ vs) = omega arith in
      let retold : Comes m p u pc v xs place (record v { values = rest.values }) (2 + 2 * length vs) =
      record { steps = all.steps; work = all.work; few = all.few; comes = all.comes } in
      record {
        values = rest.values;
        comes = subst (λ z. Comes m p u pc v xs (pc + length (zero_variables r (x ∷ vs)))
            (record v { values = rest.values }) z) few
            (subst (λ z. Comes m p u pc v xs z (record v { values = rest.values }) (2 + 2 * length vs)) at retold);
        same = λ y. rest.same y ∙ kept y;
      }
    where
      same_put : (values : flat.Values) (r : ℕ) → values r ≡ 0 → (y : ℕ)
          → put values r (low_bits 64 0) y ≡ values y
      same_put values r is y = by (y == r) refl
        where
          by : (b : Bool) → (y == r) ≡ b → put values r (low_bits 64 0) y ≡ values y
          by true e =
              let here = eqb-true y r e in
              ap (put values r (low_bits 64 0)) here ∙ put_same values r (low_bits 64 0) ∙ sym is
              ∙ ap values (sym here)
          by false e = put_other values r (low_bits 64 0) y (eqb-false y r e)

-- the arguments of three-address code
pub gathered_at : (temps : Temps) (d count j : ℕ) → j < count
    → get_or (gathered temps d count) j (rvalue (integer 0)) ≡ temps (d + j)
gathered_at temps d zero j lt = absurd (omega arith)
gathered_at temps d (suc n) zero lt = let e : d ≡ d + 0 = omega arith in ap temps e
gathered_at temps d (suc n) (suc j) lt =
    let e : d + 1 + j ≡ d + suc j = omega arith in
    gathered_at temps (d + 1) n j (omega arith) ∙ ap temps e

pub first_is : (vs : List Rvalue) → first_of vs ≡ get_or vs 0 (rvalue (integer 0))
first_is [] = refl
first_is (v ∷ vs) = refl

pub rest_at : (vs : List Rvalue) (j : ℕ)
    → get_or (rest_of vs) j (rvalue (integer 0)) ≡ get_or vs (suc j) (rvalue (integer 0))
rest_at [] j = refl
rest_at (v ∷ vs) j = refl

parameters_at : (ps : List Variable) (vs : List Rvalue) (rest : List Value) (x : ℕ) → are_integers ps ≡ true
    → x < length ps
    → get_or (parameter_values ps vs ++ rest) x (integer 0) ≡ (get_or vs x (rvalue (integer 0))).value
parameters_at [] vs rest x e lt = absurd (omega arith)
parameters_at (q ∷ ps) vs rest zero e lt =
    ap (λ b. if b then integer 0 else (first_of vs).value) (is_integer_variable q ps e).0
    ∙ ap (λ (z : Rvalue). z.value) (first_is vs)
parameters_at (q ∷ ps) vs rest (suc x) e lt =
    parameters_at ps (rest_of vs) rest x (is_integer_variable q ps e).2 (omega arith)
    ∙ ap (λ (z : Rvalue). z.value) (rest_at vs x)

zeros_at : (vs : List Variable) (x : ℕ) → get_or (map (λ (z : Variable). integer 0) vs) x (integer 0) ≡ integer 0
zeros_at [] x = refl
zeros_at (v ∷ vs) zero = refl
zeros_at (v ∷ vs) (suc x) = zeros_at vs x

pub others_at : (ps : List Variable) (vs : List Rvalue) (ws : List Variable) (x : ℕ) → length ps ≤ x
    → get_or (parameter_values ps vs ++ map (λ (z : Variable). integer 0) ws) x (integer 0) ≡ integer 0
others_at [] vs ws x le = zeros_at ws x
others_at (q ∷ ps) vs ws zero le = absurd (omega arith)
others_at (q ∷ ps) vs ws (suc x) le = others_at ps (rest_of vs) ws x (omega arith)

pub values_length : (ps : List Variable) (vs : List Rvalue) (ws : List Variable)
    → length (parameter_values ps vs ++ map (λ (z : Variable). integer 0) ws) ≡ length (ps ++ ws)
values_length [] vs [] = refl
values_length [] vs (w ∷ ws) = ap suc (values_length [] vs ws)
values_length (q ∷ ps) vs ws = ap suc (values_length ps (rest_of vs) ws)

pub counted : (ps : List Variable) → parameter_count ps ≡ length ps
counted [] = refl
counted (q ∷ ps) = let e = counted ps in omega arith

-- the registers of a call: its arguments, and all others 0
pub argument_in : (first n y : ℕ) (values : flat.Values) → y < n → arguments first n values y ≡ values (first + y)
argument_in first n y values lt = ap (λ b. if b then values (first + y) else 0) (lt-ltb y n lt)

pub argument_out : (first n y : ℕ) (values : flat.Values) → n ≤ y → arguments first n values y ≡ 0
argument_out first n y values le = ap (λ b. if b then values (first + y) else 0) (le-ltb y n le)

-- what a function that is called holds
pub callee_holds : (c : CodeFunction) (vs : List Rvalue) (first : ℕ) (values : flat.Values)
    → are_integers (all_variables c) ≡ true
    → ((j : ℕ) → j < length c.parameters
    → get_or vs j (rvalue (integer 0)) ≡ rvalue (integer (values (first + j))))
    → Holds c no_temps (plain_values (header_of_code c) vs) (arguments first (length c.parameters) values)
callee_holds c vs first values integers args = record {
  temporaries = λ i lt.
      let words = integers_words (all_variables c) integers in
      let long = length-append c.parameters c.variables in
      ap (λ z. rvalue (integer z))
      (sym (argument_out first (length c.parameters) (temporary_register c i) values (omega arith)));
  variables = λ x lt. by x lt (nat_lt x (length c.parameters)) refl;
  count = values_length c.parameters vs c.variables;
}
  where
    by : (x : ℕ) → x < length (all_variables c) → (b : Bool) → nat_lt x (length c.parameters) ≡ b
        → get_or (plain_values (header_of_code c) vs) x (integer 0)
        ≡ integer (arguments first (length c.parameters) values (variable_register c x))
    by x lt true e =
        let inside = ltb-true x (length c.parameters) e in
        let same = integers_register (all_variables c) x integers lt in
        parameters_at c.parameters vs (map (λ (z : Variable). integer 0) c.variables) x
        (integers_front c.parameters c.variables integers) inside
        ∙ ap (λ (z : Rvalue). z.value) (args x inside)
        ∙ ap integer (sym (argument_in first (length c.parameters) x values inside))
        ∙ ap (λ z. integer (arguments first (length c.parameters) values z)) (sym same)
    by x lt false e =
        let outside = ltb-false x (length c.parameters) e in
        let same = integers_register (all_variables c) x integers lt in
        others_at c.parameters vs c.variables x outside
        ∙ ap integer (sym (argument_out first (length c.parameters) x values outside))
        ∙ ap (λ z. integer (arguments first (length c.parameters) values z)) (sym same)
