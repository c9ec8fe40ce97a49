-- An update of a plain variable.
use Rattle.std.proofs.Common.{inl}
use Rattle.std.proofs.Common.{◌≡◌, ◌≢◌, ℕ, ◌+◌, ◌*◌, ◌<◌, ◌≤◌, refl, sym, ap, ap₂, ◌∙◌, subst}
use Rattle.std.proofs.Common.{arith, Bool, true, false, List, [], ◌∷◌, ◌++◌, Option, Some, None, length}
use Rattle.std.proofs.Common.{set, ltb-true, length-append}
use Rattle.std.specs.Prelude.{slice_get, nat_lt, ◌==◌}
use Rattle.std.proofs.lemmas.Bool.{and_parts, eqb-true, eqb-false}
use Rattle.words.specs.TwosComplement.{low_bits}
use Rattle.behaviours.specs.Steps.{run}
use Rattle.behaviours.proofs.Running.{run_add}
use Rattle.addr_map.specs.Places.{MapSizes}
use Rattle.sb_base.specs.declared.ending.Ending.TheVariants.{Divide}
use Rattle.sb_base.specs.Endings.{code_of, report_of}
use Rattle.obj_memory.specs.declared.int_type.IntType.{IntType}
use Rattle.obj_memory.specs.declared.operator.BinaryOperator.{BinaryOperator}
use Rattle.obj_memory.specs.declared.operator.BinaryOperator.TheVariants as operator
use Rattle.obj_memory.specs.declared.value.Scalar.{Scalar}
use Rattle.obj_memory.specs.declared.value.Scalar.TheVariants.{Integer, Pointer}
use Rattle.obj_memory.specs.declared.value.Value.{Value}
use Rattle.obj_memory.specs.Integers.{fit}
use Rattle.obj_memory.specs.Operators.{binary_value}
use Rattle.c_tree.specs.declared.expression.Update.{Update}
use Rattle.c_tree.specs.declared.expression.Update.TheVariants.{Arithmetic, Forward, Back}
use Rattle.c_tree.specs.declared.expression.Fixity.{Fixity}
use Rattle.c_tree.specs.declared.expression.Fixity.TheVariants.{Prefix, Postfix}
use Rattle.source_meaning.specs.State.{State, Rvalue, Setting, on, done, ◌>>◌}
use Rattle.source_meaning.specs.Actions.{integer, value_or_divide, set_plain, plain_value, given}
use Rattle.source_meaning.specs.Structures.{rvalue, give}
use Rattle.tac_ir.specs.declared.instruction.RightOperand.{RightOperand}
use Rattle.tac_ir.specs.declared.instruction.RightOperand.TheVariants.{Temporary, One}
use Rattle.tac_ir.specs.declared.instruction.Instruction.{Instruction}
use Rattle.tac_ir.specs.declared.instruction.Instruction.TheVariants as tac
use Rattle.tac_ir.specs.declared.function.CodeFunction.{CodeFunction}
use Rattle.tac_ir.specs.declared.function.Tac.{Tac}
use Rattle.tac_ir.specs.Stage.{Temps, with_temp, Frame, Stage, Stands, Over, came}
use Rattle.tac_ir.specs.Temporaries.{right_count}
use Rattle.tac_ir.specs.Costs.{spent}
use Rattle.tac_ir.specs.Meaning.{effect, given_in, right_value}
use Rattle.flat_code.specs.declared.instruction.FlatInstruction.{FlatInstruction}
use Rattle.flat_code.specs.declared.instruction.FlatInstruction.TheVariants as flat_code
use Rattle.flat_code.specs.declared.function.FlatProgram.{FlatProgram}
use Rattle.flat_code.specs.Memory.{put}
use Rattle.flat_code.specs.State as flat
use Rattle.flat_code.specs.Calls.{function_in}
use Rattle.flat_code.specs.Meaning.{body_of, step}
use Rattle.flat_code.specs.Words.{HasWords}
use Rattle.flat_code.proofs.Stored.{put_same, put_other}
use Rattle.flat_code.specs.Routines.Routine.{HasAt}
use Rattle.flat_code.specs.Routines.Objects.StandsFor.{Views}
use Rattle.metadata_plan.specs.Registers.{all_variables, most_temporaries, variable_register, temporary_register}
use Rattle.metadata_plan.specs.Registers.{first_free}
use Rattle.metadata_plan.specs.Operators.{OperatorCode, AreOperators, Position, Computes, IsHere, binary_most}
use Rattle.metadata_plan.specs.Blocks.{right_code, right_register, kept_by}
use Rattle.metadata_plan.specs.Expanded.{Leads, IsExpanded}
use Rattle.metadata_plan.specs.Part.{is_right, is_by_one, is_integer_update, IsIntegerCode}
use Rattle.metadata_plan.specs.Matching.{IsAt}
use Rattle.metadata_plan.proofs.Numbers.{scaled}
use Rattle.metadata_plan.proofs.Flat.{weight_small, Comes, then_comes, constant_comes, move_comes, words_kept}
use Rattle.metadata_plan.proofs.Holding.{IsSet, set_by_put, holds_temporary, holds_variable, temporary_free}
use Rattle.metadata_plan.proofs.Holding.{variable_low, variable_free}
use Rattle.flat_code.proofs.Routines.Steps.{has_front, has_back}
use Rattle.metadata_plan.proofs.Standing.{IsNode, Result, node, computed, stays, ends, then_leads}
use Rattle.metadata_plan.proofs.Simple.{most_small}

-- the value of the right operand
abbrev right_word : CodeFunction → RightOperand → flat.Values → ℕ
right_word c (Temporary b) values = values (temporary_register c b)
right_word c One values = 1

abbrev right_most : RightOperand → ℕ
right_most (Temporary b) = 0
right_most One = 2

-- what is given, of the word before and the new one
abbrev given_word : Fixity → (old new : ℕ) → ℕ
given_word Prefix old new = new
given_word Postfix old new = old

given_is : (f : Fixity) (old : Value) (before new : ℕ) → old ≡ integer before
    → given f old (integer new) ≡ integer (given_word f before new)
given_is Prefix old before new e = refl
given_is Postfix old before new e = e

few_of : (op : BinaryOperator) (right : RightOperand) → is_right op right ≡ true
    → right_most right + binary_most op * 2 ≤ 8
few_of op (Temporary b) e = omega (arith, most_small op)
few_of op One e = by op e
  where
    by : (op : BinaryOperator) → is_by_one op ≡ true → 2 + binary_most op * 2 ≤ 8
    by operator.Add e = omega arith
    by operator.Subtract e = omega arith
    by _ e = cc

module _ (o : OperatorCode) (views : Views) (g : Setting) (t : Tac) (address : (function node : ℕ) → ℕ)
    (p : FlatProgram) (ops : AreOperators o) (ex : IsExpanded o g.sizes t address p)
    (part : IsIntegerCode t) (u n : ℕ) (temps : Temps) (ws : List Frame) (s : State) (v : flat.State)
    (xs : List flat.Frame) (h : IsAt views g t address p u n temps ws s u (address u n) v xs)
    (words : HasWords (flat.Stands u (address u n) v xs)) where
  abbrev m : MapSizes
  m = g.sizes

  abbrev c : CodeFunction
  c = h.code

  abbrev free : ℕ
  free = first_free h.code

  abbrev body : List FlatInstruction
  body = body_of (function_in p u)

  -- the run so far has changed registers alone
  abbrev SoFar : (place : ℕ) (values : flat.Values) (most : ℕ) → Type 0
  SoFar place values most = Comes g.sizes p u (address u n) v xs place (record v { values = values }) most

  abbrev Gives : Stage → Type 0
  Gives a = Result o views g t address p ops ex part a (flat.Stands u (address u n) v xs)

  abbrev moment : (place : ℕ) (values : flat.Values) (most : ℕ) → SoFar place values most → Position
  moment q a k K = record {
    function = u;
    place = q;
    state = record v { values = a; work = v.work + K.work };
    frames = xs;
  }

  -- code that stands where the run is
  stands_here : (q : ℕ) (a : flat.Values) (k : ℕ) (K : SoFar q a k) (code : List FlatInstruction)
      → HasAt body q code → IsHere p (moment q a k K) code
  stands_here q a k K code has = record {
    has = has;
    words = (subst HasWords K.comes (words_kept g.sizes p K.steps (flat.Stands u (address u n) v xs) words)).0;
  }

  then_computed : (q : ℕ) (a : flat.Values) (k : ℕ) (K : SoFar q a k) (place into value scratch most : ℕ)
      → (r : Computes m p (moment q a k K) place into value scratch most) → most * 2 ≤ 21
      → SoFar place r.after (k + most * 2)
  then_computed q a k K place into value scratch most r few =
      let at : flat.State = record v { values = a; work = v.work + K.work } in
      let next = computed o views g t address p ops ex part u q at xs place into value scratch most r few in
      let all = then_comes m p u (address u n) v xs q place (record v { values = a }) (record at { values = r.after }) k
      (most * 2) K next in
      record { steps = all.steps; work = all.work; few = all.few; comes = all.comes }

  then_moved : (q : ℕ) (a : flat.Values) (k : ℕ) → SoFar q a k → (x y : ℕ)
      → slice_get body q ≡ Some (flat_code.Move x y)
      → SoFar (q + 1) (put a x (a y)) (k + 2)
  then_moved q a k K x y at =
      let from : flat.State = record v { values = a; work = v.work + K.work } in
      let all = then_comes m p u (address u n) v xs q (q + 1) (record v { values = a })
      (record from { values = put a x (a y) }) k 2 K (move_comes m p u q from xs x y at) in
      record { steps = all.steps; work = all.work; few = all.few; comes = all.comes }

  then_constant : (q : ℕ) (a : flat.Values) (k : ℕ) → SoFar q a k → (x w : ℕ)
      → slice_get body q ≡ Some (flat_code.Constant x w)
      → SoFar (q + 1) (put a x (low_bits 64 w)) (k + 2)
  then_constant q a k K x w at =
      let from : flat.State = record v { values = a; work = v.work + K.work } in
      let all = then_comes m p u (address u n) v xs q (q + 1) (record v { values = a })
      (record from { values = put a x (low_bits 64 w) }) k 2 K (constant_comes m p u q from xs x w at) in
      record { steps = all.steps; work = all.work; few = all.few; comes = all.comes }

  -- the operands stand in their registers
  record Operands (place most left : ℕ) (right : RightOperand) : Type 0 where
    values : flat.Values
    comes : SoFar place values most
    left_is : values free ≡ left
    right_is : values (right_register c right (free + 1)) ≡ right_word c right v.values
    right_low : right_register c right (free + 1) < free + 2
    others : (y : ℕ) → y < free → values y ≡ v.values y

  put_right : (q : ℕ) (a : flat.Values) (k : ℕ) → SoFar q a k → (right : RightOperand)
      → right_count right ≤ most_temporaries c.code → HasAt body q (right_code right (free + 1))
      → ((y : ℕ) → y < free → a y ≡ v.values y)
      → Operands (q + length (right_code right (free + 1))) (k + right_most right) (a free) right
  put_right q a k K (Temporary b) low has same =
      let inside : temporary_register c b < free = omega arith in
      let e : q ≡ q + 0 = omega arith in
      let f : k ≡ k + 0 = omega arith in
      record {
        values = a;
        comes = subst (λ z. SoFar (q + 0) a z) f (subst (λ z. SoFar z a k) e K);
        left_is = refl;
        right_is = same (temporary_register c b) inside;
        right_low = omega arith;
        others = same;
      }
  put_right q a k K One low has same = record {
    values = put a (free + 1) (low_bits 64 1);
    comes = then_constant q a k K (free + 1) 1 has.0;
    left_is = put_other a (free + 1) (low_bits 64 1) free (λ e. absurd (omega arith));
    right_is = put_same a (free + 1) (low_bits 64 1);
    right_low = omega arith;
    others = λ y lt. put_other a (free + 1) (low_bits 64 1) y (λ e. absurd (omega arith)) ∙ same y lt;
  }

  -- the new value is kept
  record Kept (place most x d new given : ℕ) : Type 0 where
    values : flat.Values
    comes : SoFar place values most
    variable_is : values x ≡ new
    given_is : values d ≡ given
    others : (y : ℕ) → y < free → y ≢ x → y ≢ d → values y ≡ v.values y

  keep : (q : ℕ) (a : flat.Values) (k : ℕ) → SoFar q a k → (f : Fixity) (ty : IntType) (x d : ℕ) → x < free → d < free
      → x ≢ d → HasAt body q (kept_by o f ty x d free (free + 2)) → ((y : ℕ) → y < free → a y ≡ v.values y)
      → Kept (q + length (kept_by o f ty x d free (free + 2))) (k + 6) x d (fit ty (a free))
      (given_word f (v.values x) (fit ty (a free)))
  keep q a k K Prefix ty x d xl dl ne has same =
      let code = o.convert ty x free (free + 2) in
      let here = has_front body q code (flat_code.Move d x
      ∷ []) has in
      let behind = has_back body q code (flat_code.Move d
      x ∷ []) has in
      let r = ops.convert m p (moment q a k K) ty x free (free + 2) (omega arith) (omega arith)
      (stands_here q a k K code here) in
      let K1 = then_computed q a k K (q + length code) x (fit ty (a free)) (free + 2) 2 r (omega arith) in
      let K2 = then_moved (q + length code) r.after (k + 4) K1 d x behind.0 in
      let e : q + length code + 1 ≡ q + length (kept_by o Prefix ty x d free (free + 2)) =
      omega (
        arith,
        length-append code
            (flat_code.Move d x ∷ []),
      ) in
      let w : k + 4 + 2 ≡ k + 6 = omega arith in
      let after = put r.after d (r.after x) in
      record {
        values = after;
        comes = subst (λ z. SoFar (q + length (kept_by o Prefix ty x d free (free + 2))) after z) w
            (subst (λ z. SoFar z after (k + 4 + 2)) e K2);
        variable_is = put_other r.after d (r.after x) x ne ∙ r.gives;
        given_is = put_same r.after d (r.after x) ∙ r.gives;
        others = λ y lt nx nd. put_other r.after d (r.after x) y nd ∙ r.others y (omega arith) nx ∙ same y lt;
      }
  keep q a k K Postfix ty x d xl dl ne has same =
      let code = o.convert ty x free (free + 2) in
      let b = put a d (a x) in
      let K1 = then_moved q a k K d x has.0 in
      let r = ops.convert m p (moment (q + 1) b (k + 2) K1) ty x free (free + 2) (omega arith) (omega arith)
      (stands_here (q + 1) b (k + 2) K1 code has.1) in
      let K2 = then_computed (q + 1) b (k + 2) K1 (q + 1 + length code) x (fit ty (b free)) (free + 2) 2 r (omega arith)
      in
      let e : q + 1 + length code ≡ q + length (kept_by o Postfix ty x d free (free + 2)) = omega arith in
      let w : k + 2 + 4 ≡ k + 6 = omega arith in
      let same_free : b free ≡ a free = put_other a d (a x) free (λ z. absurd (omega arith)) in
      record {
        values = r.after;
        comes = subst (λ z. SoFar (q + length (kept_by o Postfix ty x d free (free + 2))) r.after z) w
            (subst (λ z. SoFar z r.after (k + 2 + 4)) e K2);
        variable_is = r.gives ∙ ap (fit ty) same_free;
        given_is = r.others d (omega arith) (λ z. ne (sym z)) ∙ put_same a d (a x) ∙ same x xl;
        others = λ y lt nx nd. r.others y (omega arith) nx ∙ put_other a d (a x) y nd ∙ same y lt;
      }

  -- an update of a variable that is there, by its parts
  module _ (op : BinaryOperator) (ty k : IntType) (f : Fixity) (line d x : ℕ) (right : RightOperand) (next : ℕ)
      (at : slice_get h.code.code n ≡ Some (tac.UpdatePlain (Arithmetic op ty) (Integer k) f line d x right next)) where
    abbrev i : Instruction
    i = tac.UpdatePlain (Arithmetic op ty) (Integer k) f line d x right next

    known_node : IsNode o g.sizes t (address u) (body_of (function_in p u)) h.code (address u n) i
    known_node = node o views g t address p ops ex part u h.code n i h.there h.safe at

    inside : (x < length (all_variables c)) × (is_right op right ≡ true)
    inside =
        let a = and_parts (nat_lt x (length (all_variables c))) (is_right op right) known_node.part in
        (ltb-true x (length (all_variables c)) a.0, a.1)

    low : (d < most_temporaries c.code) × (right_count right ≤ most_temporaries c.code)
    low = let a = known_node.temporaries_low in (omega arith, omega arith)

    abbrev xr : ℕ
    xr = variable_register h.code x

    abbrev dr : ℕ
    dr = temporary_register h.code d

    abbrev rr : ℕ
    rr = right_register h.code right (first_free h.code + 1)

    x_free : xr < free
    x_free = variable_free c known_node.integers x inside.0

    d_free : dr < free
    d_free = temporary_free c known_node.integers d low.0

    apart : xr ≢ dr
    apart e = let a = variable_low c known_node.integers x inside.0 in absurd (omega arith)

    abbrev part_one : List FlatInstruction
    part_one = o.convert ty (first_free h.code) (variable_register h.code x) (first_free h.code + 2)

    abbrev part_two : List FlatInstruction
    part_two = right_code right (first_free h.code + 1)

    abbrev part_three : List FlatInstruction
    part_three = o.binary op ty (first_free h.code) (first_free h.code)
        (right_register h.code right (first_free h.code + 1)) (first_free h.code + 2) line

    abbrev part_four : List FlatInstruction
    part_four = kept_by o f k (variable_register h.code x) (temporary_register h.code d) (first_free h.code)
        (first_free h.code + 2)

    abbrev q1 : ℕ
    q1 = address u n + length part_one

    abbrev q2 : ℕ
    q2 = address u n + length part_one + length part_two

    abbrev q3 : ℕ
    q3 = address u n + length part_one + length part_two + length part_three

    abbrev q4 : ℕ
    q4 = address u n + length part_one + length part_two + length part_three + length part_four

    has_one : HasAt body (address u n) part_one
    has_one = has_front body (address u n) part_one (part_two ++ (part_three ++ part_four)) known_node.put.has

    has_two_on : HasAt body q1 (part_two ++ (part_three ++ part_four))
    has_two_on = has_back body (address u n) part_one (part_two ++ (part_three ++ part_four)) known_node.put.has

    has_two : HasAt body q1 part_two
    has_two = has_front body q1 part_two (part_three ++ part_four) has_two_on

    has_three_on : HasAt body q2 (part_three ++ part_four)
    has_three_on = has_back body q1 part_two (part_three ++ part_four) has_two_on

    has_three : HasAt body q2 part_three
    has_three = has_front body q2 part_three part_four has_three_on

    has_four : HasAt body q3 part_four
    has_four = has_back body q2 part_three part_four has_three_on

    end_is : q4 ≡ address u n + length (part_one ++ (part_two ++ (part_three ++ part_four)))
    end_is = omega (
      arith,
      length-append part_one (part_two ++ (part_three ++ part_four)),
      length-append part_two (part_three ++ part_four),
      length-append part_three part_four,
    )

    -- up to the operator
    operands : Operands q2 (4 + right_most right) (fit ty (v.values xr)) right
    operands =
        let start : SoFar (address u n) v.values 0 = record {
          steps = 0;
          work = 0;
          few = omega arith;
          comes =
              let same : v.work ≡ v.work + 0 = omega arith in
              ap (λ w. flat.Stands u (address u n) (record v { work = w }) xs) same;
        } in
        let r = ops.convert m p (moment (address u n) v.values 0 start) ty free xr (free + 2) (omega arith)
        (omega (arith, x_free)) (stands_here (address u n) v.values 0 start part_one has_one) in
        let K = then_computed (address u n) v.values 0 start q1 free (fit ty (v.values xr)) (free + 2) 2 r (omega arith)
        in
        let all = put_right q1 r.after 4 K right low.1 has_two
        (λ y lt. r.others y (omega arith) (λ e. absurd (omega arith))) in
        record {
          values = all.values;
          comes = all.comes;
          left_is = all.left_is ∙ r.gives;
          right_is = all.right_is;
          right_low = all.right_low;
          others = all.others;
        }

    -- the operator's value at the registers
    same_value : binary_value op ty (operands.values free) (operands.values rr)
        ≡ binary_value op ty (fit ty (v.values xr)) (right_word c right v.values)
    same_value = ap₂ (binary_value op ty) operands.left_is operands.right_is

    abbrev after_state : ℕ → State
    after_state w = record (spent 2 s) { plain = set s.plain x (integer (fit k w)) }

    updated_to : (w : ℕ) → binary_value op ty (fit ty (v.values xr)) (right_word c right v.values) ≡ Some w
        → Gives (Stands u next (with_temp temps d (rvalue (integer (given_word f (v.values xr) (fit k w))))) ws
        (after_state w))
    updated_to w e =
        let most = binary_most op in
        let r = ops.binary m p (moment q2 operands.values (4 + right_most right) operands.comes) op ty free free rr
        (free + 2) line w (omega arith) (omega arith) operands.right_low
        (stands_here q2 operands.values (4 + right_most right) operands.comes part_three has_three) (same_value ∙ e) in
        let K = then_computed q2 operands.values (4 + right_most right) operands.comes q3 free w (free + 2) most r
        (omega (arith, most_small op)) in
        let kept = keep q3 r.after (4 + right_most right + most * 2) K f k xr dr x_free d_free apart has_four
        (λ y lt. r.others y (omega arith) (λ e. absurd (omega arith)) ∙ operands.others y lt) in
        let new = fit k w in
        let new_is : fit k (r.after free) ≡ new = ap (fit k) r.gives in
        let old = v.values xr in
        let between = put v.values xr new in
        let one = holds_variable c known_node.integers temps s.plain v.values between x new inside.0 h.holds
        (set_by_put free xr new v.values) in
        let is_set : IsSet free dr (given_word f old new) between kept.values = record {
          gives = kept.given_is ∙ ap (given_word f old) new_is;
          others = λ y lt nd. by kept.values new (kept.variable_is ∙ new_is)
              (λ z zl nx nz. kept.others z zl nx nz) y lt nd;
        } in
        let run_to = then_leads o views g t address p ops ex part u (address u n) v xs q4 (address u next)
        (record v { values = kept.values }) (4 + right_most right + most * 2 + 6) kept.comes
        (subst (λ z. Leads body z (address u next)) (sym end_is) known_node.put.leads) in
        stays o views g t address p ops ex part u n temps
        (with_temp temps d (rvalue (integer (given_word f old new)))) ws s (after_state w) v
        (record v { values = kept.values }) xs next (4 + right_most right + most * 2 + 6 + 2) h run_to
        (holds_temporary c known_node.integers temps (set s.plain x (integer new)) between kept.values d
        (given_word f old new) one is_set)
        (record {
          input = h.alike.input;
          output = h.alike.output;
          taken = h.alike.taken;
          accesses = h.alike.accesses;
          turns = h.alike.turns;
        })
        (record { objects = refl; frame = refl; stacked = refl; charged = refl }) refl
        (omega (arith, few_of op right inside.1)) (known_node.on next (inl refl))
      where
        by : (values : flat.Values) (new : ℕ) → values xr ≡ new
            → ((y : ℕ) → y < free → y ≢ xr → y ≢ dr → values y ≡ v.values y) → (y : ℕ) → y < free → y ≢ dr
            → values y ≡ put v.values xr new y
        by values new is others y lt nd = split (y == xr) refl
          where
            split : (b : Bool) → (y == xr) ≡ b → values y ≡ put v.values xr new y
            split true e =
                let same = eqb-true y xr e in
                ap values same ∙ is ∙ sym (put_same v.values xr new) ∙ ap (put v.values xr new) (sym same)
            split false e =
                let ne = eqb-false y xr e in
                others y lt ne nd ∙ sym (put_other v.values xr new y ne)

    divided_by_zero : binary_value op ty (fit ty (v.values xr)) (right_word c right v.values) ≡ None
        → Gives (Over (Divide line) (spent 2 s))
    divided_by_zero e =
        let r = ops.divides m p (moment q2 operands.values (4 + right_most right) operands.comes) op ty free free rr
        (free + 2) line (omega arith) (omega arith) operands.right_low
        (stands_here q2 operands.values (4 + right_most right) operands.comes part_three has_three) (same_value ∙ e) in
        let light = weight_small (function_in p u) in
        let work = scaled (binary_most op + length (report_of (Divide line))) _ r.work r.few light in
        let small = few_of op right inside.1 in
        let K = operands.comes in
        ends o views g t address p ops ex part (flat.Stands u (address u n) v xs) (Divide line) (spent 2 s)
        (record v { values = r.after; work = v.work + K.work + r.work }) (K.steps + r.steps) (code_of (Divide line))
        (report_of (Divide line))
        (run_add (step g.sizes p) K.steps r.steps (flat.Stands u (address u n) v xs)
        ∙ ap (run (step g.sizes p) r.steps) K.comes ∙ r.comes) refl refl
        (record {
          input = h.alike.input;
          output = h.alike.output;
          taken = h.alike.taken;
          accesses = h.alike.accesses;
          turns = h.alike.turns;
        })
        (omega (arith, h.work, K.few))

    -- the instruction, by the operator's value and what the variable held
    abbrev stage_by : (old : Value) → Option ℕ → Stage
    stage_by old q =
        came (on (on (on (value_or_divide q line (spent 2 s)) (λ z. done (integer (fit k z.word)))) (λ new.
        (set_plain x new >> done (given f old new)))) (λ z. give z)) (given_in u next temps d ws)

    outcome : (q : Option ℕ) → binary_value op ty (fit ty (v.values xr)) (right_word c right v.values) ≡ q
        → Gives (stage_by (plain_value x s) q)
    outcome None e = divided_by_zero e
    outcome (Some w) e =
        subst (λ z. Gives (Stands u next (with_temp temps d (rvalue z)) ws (after_state w)))
        (sym (given_is f (plain_value x s) (v.values xr) (fit k w) (h.holds.variables x inside.0))) (updated_to w e)

    right_is : (r : RightOperand) → right_count r ≤ most_temporaries c.code
        → (right_value r temps).word ≡ right_word c r v.values
    right_is (Temporary b) lt = ap (λ (z : Rvalue). z.value.word) (h.holds.temporaries b lt)
    right_is One lt = refl

    abbrev old_word : ℕ
    old_word = (plain_value x s).word

    pub integer_update : Gives (effect g t i u temps ws (spent 2 s))
    integer_update =
        let old : fit ty old_word ≡ fit ty (v.values xr) =
        ap (λ (z : Value). fit ty z.word) (h.holds.variables x inside.0) in
        let both = ap₂ (binary_value op ty) old (right_is right low.1) in
        subst (λ q. Gives (stage_by (plain_value x s) q)) (sym both)
        (outcome (binary_value op ty (fit ty (v.values xr)) (right_word c right v.values)) refl)

  pub update_plain_step : (w : Update) (scalar : Scalar) (f : Fixity) (line d x : ℕ) (right : RightOperand) (next : ℕ)
      → slice_get h.code.code n ≡ Some (tac.UpdatePlain w scalar f line d x right next)
      → Gives (effect g t (tac.UpdatePlain w scalar f line d x right next) u temps ws (spent 2 s))
  update_plain_step w scalar f line d x right next at = by w scalar at
      (and_parts (nat_lt x (length (all_variables c))) (is_integer_update w scalar right)
      (node o views g t address p ops ex part u h.code n (tac.UpdatePlain w scalar f line d x right next) h.there
      h.safe at).part).1
    where
      by : (w : Update) (scalar : Scalar)
          → slice_get h.code.code n ≡ Some (tac.UpdatePlain w scalar f line d x right next)
          → is_integer_update w scalar right ≡ true
          → Gives (effect g t (tac.UpdatePlain w scalar f line d x right next) u temps ws (spent 2 s))
      by (Arithmetic op ty) (Integer k) e fine = integer_update op ty k f line d x right next e
      by (Arithmetic op ty) Pointer e fine = cc
      by (Forward size) scalar e fine = cc
      by (Back size) scalar e fine = cc
