-- Instructions whose blocks change registers, go one of two ways, or begin a turn.
use Rattle.std.proofs.Common.{◌≡◌, ℕ, ◌+◌, ◌-◌, ◌*◌, ◌^◌, ◌<◌, ◌≤◌, refl, sym, ap, ap₂, ◌∙◌, subst}
use Rattle.std.proofs.Common.{arith, Bool, true, false, cond, not, List, [], ◌∷◌, ◌++◌, Option, Some, None, length}
use Rattle.std.proofs.Common.{length-append, mod-eq_of_lt, set, ltb-true}
use Rattle.std.specs.Prelude.{slice_get, ◌==◌}
use Rattle.words.specs.TwosComplement.{low_bits}
use Rattle.addr_map.specs.Places.{MapSizes}
use Rattle.sb_base.specs.declared.ending.Ending.TheVariants.{Divide}
use Rattle.sb_base.specs.Endings.{code_of, report_of}
use Rattle.obj_memory.specs.declared.int_type.IntType.{IntType}
use Rattle.obj_memory.specs.declared.operator.UnaryOperator.{UnaryOperator}
use Rattle.obj_memory.specs.declared.operator.BinaryOperator.{BinaryOperator}
use Rattle.obj_memory.specs.declared.operator.BinaryOperator.TheVariants as operator
use Rattle.obj_memory.specs.declared.value.Scalar.TheVariants.{Integer, Pointer}
use Rattle.obj_memory.specs.Integers.{fit}
use Rattle.obj_memory.specs.Operators.{unary_value, binary_value}
use Rattle.c_tree.specs.declared.expression.Kind.{Kind}
use Rattle.c_tree.specs.declared.expression.Kind.TheVariants.{Void, Scalar as OfScalar, Structure, Array}
use Rattle.source_meaning.specs.State.{State, Rvalue, Setting}
use Rattle.source_meaning.specs.Actions.{integer, value_or_divide}
use Rattle.source_meaning.specs.Structures.{rvalue, as_rvalue}
use Rattle.tac_ir.specs.declared.instruction.Instruction.{Instruction}
use Rattle.tac_ir.specs.declared.instruction.Instruction.TheVariants as tac
use Rattle.tac_ir.specs.declared.function.CodeFunction.{CodeFunction}
use Rattle.tac_ir.specs.declared.function.Tac.{Tac}
use Rattle.tac_ir.specs.Stage.{Temps, with_temp, Frame, Stage, Stands, came}
use Rattle.tac_ir.specs.Costs.{spent}
use Rattle.tac_ir.specs.Meaning.{effect, given_in, begun}
use Rattle.rv_isa.specs.declared.instruction.BranchOp.TheVariants.{Beq, Bne}
use Rattle.rv_isa.specs.Results.{branch_taken}
use Rattle.flat_code.specs.declared.instruction.RightOperand.TheVariants.{Register, Number}
use Rattle.flat_code.specs.declared.function.FlatProgram.{FlatProgram}
use Rattle.flat_code.specs.Memory.{put}
use Rattle.flat_code.specs.State as flat
use Rattle.flat_code.specs.Calls.{function_in}
use Rattle.flat_code.specs.declared.instruction.FlatInstruction.{FlatInstruction}
use Rattle.flat_code.specs.declared.instruction.FlatInstruction.TheVariants.{Branch}
use Rattle.flat_code.specs.Meaning.{body_of, instruction_at}
use Rattle.flat_code.specs.Words.{IsOfWords}
use Rattle.flat_code.specs.Routines.Objects.StandsFor.{Views}
use Rattle.metadata_plan.specs.Registers.{all_variables, most_temporaries, variable_register, temporary_register}
use Rattle.metadata_plan.specs.Registers.{first_free}
use Rattle.flat_code.proofs.Routines.Steps.{has_front, has_back}
use Rattle.metadata_plan.specs.Operators.{OperatorCode, AreOperators, Position, Computes, binary_most}
use Rattle.metadata_plan.specs.Expanded.{Leads, IsExpanded}
use Rattle.std.proofs.Common.{inl, inr}
use Rattle.tac_ir.specs.Edges.{LeadsTo}
use Rattle.metadata_plan.specs.Part.{has_no_pointer, is_word, IsIntegerCode}
use Rattle.metadata_plan.specs.Matching.{IsAlike, IsAt}
use Rattle.metadata_plan.proofs.Numbers.{scaled}
use Rattle.metadata_plan.proofs.Flat.{then_comes}
use Rattle.metadata_plan.proofs.Flat.{weight_small, Comes, constant_comes, move_comes, turn_comes, branch_taken_comes}
use Rattle.metadata_plan.proofs.Flat.{branch_passed_comes}
use Rattle.metadata_plan.proofs.Holding.{IsSet, set_by_put, holds_free, holds_temporary, holds_variable, temporary_free}
use Rattle.metadata_plan.proofs.Standing.{IsNode, node, Result, then_leads, computed, computed_set, stays, ends}

pub low_word_same : (w : ℕ) → is_word w ≡ true → low_bits 64 w ≡ w
low_word_same w e = mod-eq_of_lt (ltb-true w (2 ^ 64) e)

-- the two branches, by the test of three-address code
not_equal : (x y : ℕ) (b : Bool) → (x == y) ≡ b → branch_taken Bne x y ≡ not b
unfolding branch_taken
not_equal x y b e = ap not e

equal : (x y : ℕ) (b : Bool) → (x == y) ≡ b → branch_taken Beq x y ≡ b
unfolding branch_taken
equal x y b e = e

pub most_small : (op : BinaryOperator) → binary_most op ≤ 4
most_small operator.Add = omega arith
most_small operator.Subtract = omega arith
most_small operator.Multiply = omega arith
most_small operator.Divide = omega arith
most_small operator.Remainder = omega arith
most_small operator.ShiftLeft = omega arith
most_small operator.ShiftRight = omega arith
most_small operator.BitAnd = omega arith
most_small operator.BitXor = omega arith
most_small operator.BitOr = omega arith
most_small operator.Less = omega arith
most_small operator.Greater = omega arith
most_small operator.LessOrEqual = omega arith
most_small operator.GreaterOrEqual = omega arith
most_small operator.Equal = omega arith
most_small operator.NotEqual = omega arith

module _ (o : OperatorCode) (views : Views) (g : Setting) (t : Tac) (address : (function node : ℕ) → ℕ)
    (p : FlatProgram) (ops : AreOperators o) (ex : IsExpanded o g.sizes t address p)
    (part : IsIntegerCode t) (u n : ℕ) (temps : Temps) (ws : List Frame) (s : State) (v : flat.State)
    (xs : List flat.Frame) (h : IsAt views g t address p u n temps ws s u (address u n) v xs)
    (words : IsOfWords v) where
  abbrev m : MapSizes
  m = g.sizes

  abbrev c : CodeFunction
  c = h.code

  abbrev pc : ℕ
  pc = address u n

  abbrev here : flat.Stage
  here = flat.Stands u (address u n) v xs

  abbrev ComesTo : (place : ℕ) (after : flat.State) (most : ℕ) → Type 0
  ComesTo = Comes g.sizes p u (address u n) v xs

  abbrev Gives : Stage → Type 0
  Gives a = Result o views g t address p ops ex part a (flat.Stands u (address u n) v xs)

  abbrev Node : Instruction → Type 0
  Node i = IsNode o g.sizes t (address u) (body_of (function_in p u)) h.code (address u n) i

  pub known : (i : Instruction) → slice_get h.code.code n ≡ Some i → Node i
  known i at = node o views g t address p ops ex part u h.code n i h.there h.safe at

  pub leads_on : (q r : ℕ) (after : flat.State) (a : ℕ) → ComesTo q after a
      → Leads (body_of (function_in p u)) q r → ComesTo r after (a + 2)
  leads_on q r after a k l = then_leads o views g t address p ops ex part u pc v xs q r after a k l

  abbrev pub position : Position
  position = record { function = u; place = address u n; state = v; frames = xs }

  -- what a temporary holds
  pub held : (i : ℕ) → i < most_temporaries c.code → (temps i).value ≡ integer (v.values (temporary_register c i))
  held i lt = ap (λ (z : Rvalue). z.value) (h.holds.temporaries i lt)

  pub held_word : (i : ℕ) → i < most_temporaries c.code → (temps i).value.word ≡ v.values (temporary_register c i)
  held_word i lt = ap (λ (z : Rvalue). z.value.word) (h.holds.temporaries i lt)

  pub alike_values : (k : ℕ) (values : flat.Values) → IsAlike (spent k s) (record v { values = values })
  alike_values k values = record {
    input = h.alike.input;
    output = h.alike.output;
    taken = h.alike.taken;
    accesses = h.alike.accesses;
    turns = h.alike.turns;
  }

  -- a temporary gets an integer
  pub sets_temporary : (i : Instruction) → Node i → (d w next most : ℕ) → LeadsTo i next → (values : flat.Values)
      → ComesTo (address u next) (record v { values = values }) most
      → IsSet (first_free c) (temporary_register c d) w v.values values → most ≤ 21
      → Gives (Stands u next (with_temp temps d (rvalue (integer w))) ws (spent 1 s))
  sets_temporary i k d w next most l values run_to is_set few =
      stays o views g t address p ops ex part u n temps (with_temp temps d (rvalue (integer w))) ws s (spent 1 s) v
      (record v { values = values }) xs next most h run_to
      (holds_temporary c k.integers temps s.plain v.values values d w h.holds is_set) (alike_values 1 values)
      (record { objects = refl; frame = refl; stacked = refl; charged = refl }) refl (omega arith) (k.on next l)

  pub sets_variable : (i : Instruction) → Node i → (x w next most : ℕ) → LeadsTo i next → (values : flat.Values)
      → x < length (all_variables c)
      → ComesTo (address u next) (record v { values = values }) most
      → IsSet (first_free c) (variable_register c x) w v.values values → most ≤ 21
      → Gives (Stands u next temps ws (record (spent 1 s) { plain = set s.plain x (integer w) }))
  sets_variable i k x w next most l values lt run_to is_set few =
      stays o views g t address p ops ex part u n temps temps ws s
      (record (spent 1 s) { plain = set s.plain x (integer w) }) v (record v { values = values }) xs next most h run_to
      (holds_variable c k.integers temps s.plain v.values values x w lt h.holds is_set)
      (record {
        input = h.alike.input;
        output = h.alike.output;
        taken = h.alike.taken;
        accesses = h.alike.accesses;
        turns = h.alike.turns;
      })
      (record { objects = refl; frame = refl; stacked = refl; charged = refl }) refl (omega arith)
      (k.on next l)

  constant_set : (x w : ℕ) → is_word w ≡ true → IsSet (first_free c) x w v.values (put v.values x (low_bits 64 w))
  constant_set x w e =
      subst (λ z. IsSet (first_free c) x z v.values (put v.values x (low_bits 64 w))) (low_word_same w e)
      (set_by_put (first_free c) x (low_bits 64 w) v.values)

  pub constant : (d w next : ℕ) → slice_get h.code.code n ≡ Some (tac.Constant d w next)
      → Gives (effect g t (tac.Constant d w next) u temps ws (spent 1 s))
  constant d w next at =
      let k = known (tac.Constant d w next) at in
      let x = temporary_register c d in
      let f = first_free c in
      let to : d < most_temporaries c.code = omega (arith, k.temporaries_low) in
      let place = pc + length (o.constant x w f) in
      let r = ops.constant m p position x w f (temporary_free c k.integers d to) (ltb-true w (2 ^ 64) k.part)
      (record { has = k.put.has; words = words }) in
      sets_temporary (tac.Constant d w next) k d w next 12 (inl refl) r.after
      (leads_on place (address u next) (record v { values = r.after }) 10
      (computed o views g t address p ops ex part u pc v xs place x w f 5 r (omega arith)) k.put.leads)
      (computed_set o views g t address p ops ex part position place x w f f 5 r (omega arith)) (omega arith)

  pub get_plain : (d x next : ℕ) → slice_get h.code.code n ≡ Some (tac.GetPlain d x next)
      → Gives (effect g t (tac.GetPlain d x next) u temps ws (spent 1 s))
  get_plain d x next at =
      let k = known (tac.GetPlain d x next) at in
      let y = variable_register c x in
      let r = temporary_register c d in
      let values = put v.values r (v.values y) in
      let value = h.holds.variables x (ltb-true x (length (all_variables c)) k.part) in
      subst (λ z. Gives (Stands u next (with_temp temps d (rvalue z)) ws (spent 1 s))) (sym value)
      (sets_temporary (tac.GetPlain d x next) k d (v.values y) next 4 (inl refl) values
      (leads_on (pc + 1) (address u next) (record v { values = values }) 2
      (move_comes m p u pc v xs r y k.put.has.0) k.put.leads)
      (set_by_put (first_free c) r (v.values y) v.values) (omega arith))

  pub set_plain : (x a next : ℕ) → slice_get h.code.code n ≡ Some (tac.SetPlain x a next)
      → Gives (effect g t (tac.SetPlain x a next) u temps ws (spent 1 s))
  set_plain x a next at =
      let k = known (tac.SetPlain x a next) at in
      let y = variable_register c x in
      let r = temporary_register c a in
      let values = put v.values y (v.values r) in
      subst (λ z. Gives (Stands u next temps ws (record (spent 1 s) { plain = set s.plain x z })))
      (sym (held a k.temporaries_low))
      (sets_variable (tac.SetPlain x a next) k x (v.values r) next 4 (inl refl) values
      (ltb-true x (length (all_variables c)) k.part)
      (leads_on (pc + 1) (address u next) (record v { values = values }) 2
      (move_comes m p u pc v xs y r k.put.has.0) k.put.leads)
      (set_by_put (first_free c) y (v.values r) v.values) (omega arith))

  pub zero_of : (kind : Kind) (d next : ℕ) → slice_get h.code.code n ≡ Some (tac.ZeroOf kind d next)
      → Gives (effect g t (tac.ZeroOf kind d next) u temps ws (spent 1 s))
  zero_of kind d next at = by kind at k.part
    where
      k : Node (tac.ZeroOf kind d next)
      k = known (tac.ZeroOf kind d next) at

      -- no byte is counted
      zero_set : (q : Kind) → Node (tac.ZeroOf q d next)
          → Gives (Stands u next (with_temp temps d (rvalue (integer 0))) ws
          (record s { work = s.work + 1 + 0 + 3 * (s.work + 1 + 0 - (s.work + 1)) }))
      zero_set q k' =
          let x = temporary_register c d in
          let values = put v.values x (low_bits 64 0) in
          let counted : s.work + 1 ≡ s.work + 1 + 0 + 3 * (s.work + 1 + 0 - (s.work + 1)) = omega arith in
          subst (λ (n : ℕ). Gives (Stands u next (with_temp temps d (rvalue (integer 0))) ws (record s { work = n })))
          counted
          (sets_temporary (tac.ZeroOf q d next) k' d 0 next 4 (inl refl) values
          (leads_on (pc + 1) (address u next) (record v { values = values }) 2
          (constant_comes m p u pc v xs x 0 k'.put.has.0) k'.put.leads)
          (constant_set x 0 refl) (omega arith))

      by : (q : Kind) → slice_get h.code.code n ≡ Some (tac.ZeroOf q d next) → has_no_pointer q ≡ true
          → Gives (effect g t (tac.ZeroOf q d next) u temps ws (spent 1 s))
      by Void e fine = zero_set Void (known (tac.ZeroOf Void d next) e)
      by (OfScalar (Integer ty)) e fine =
          zero_set (OfScalar (Integer ty)) (known (tac.ZeroOf (OfScalar (Integer ty)) d next) e)
      by (OfScalar Pointer) e fine = cc
      by (Structure size) e fine = cc
      by (Array size) e fine = cc

  pub convert : (kind : Kind) (d a next : ℕ) → slice_get h.code.code n ≡ Some (tac.Convert kind d a next)
      → Gives (effect g t (tac.Convert kind d a next) u temps ws (spent 1 s))
  convert kind d a next at = by kind at (known (tac.Convert kind d a next) at).part
    where
      by : (q : Kind) → slice_get h.code.code n ≡ Some (tac.Convert q d a next) → has_no_pointer q ≡ true
          → Gives (effect g t (tac.Convert q d a next) u temps ws (spent 1 s))
      by Void e fine =
          let k = known (tac.Convert Void d a next) e in
          let x = temporary_register c d in
          let values = put v.values x (low_bits 64 0) in
          sets_temporary (tac.Convert Void d a next) k d 0 next 4 (inl refl) values
          (leads_on (pc + 1) (address u next) (record v { values = values }) 2
          (constant_comes m p u pc v xs x 0 k.put.has.0) k.put.leads)
          (constant_set x 0 refl) (omega arith)
      by (OfScalar (Integer ty)) e fine =
          let i = tac.Convert (OfScalar (Integer ty)) d a next in
          let k = known i e in
          let x = temporary_register c d in
          let y = temporary_register c a in
          let f = first_free c in
          let to : d < most_temporaries c.code = omega (arith, k.temporaries_low) in
          let from : a < most_temporaries c.code = omega (arith, k.temporaries_low) in
          let place = pc + length (o.convert ty x y f) in
          let r = ops.convert m p position ty x y f (temporary_free c k.integers d to)
          (temporary_free c k.integers a from) (record { has = k.put.has; words = words }) in
          subst (λ z. Gives (Stands u next (with_temp temps d (rvalue (integer (fit ty z)))) ws (spent 1 s)))
          (sym (held_word a from))
          (sets_temporary i k d (fit ty (v.values y)) next 6 (inl refl) r.after
          (leads_on place (address u next) (record v { values = r.after }) 4
          (computed o views g t address p ops ex part u pc v xs place x (fit ty (v.values y)) f 2 r (omega arith))
          k.put.leads)
          (computed_set o views g t address p ops ex part position place x (fit ty (v.values y)) f f 2 r (omega arith))
          (omega arith))
      by (OfScalar Pointer) e fine = cc
      by (Structure size) e fine = cc
      by (Array size) e fine = cc

  pub unary : (op : UnaryOperator) (ty : IntType) (d a next : ℕ)
      → slice_get h.code.code n ≡ Some (tac.Unary op ty d a next)
      → Gives (effect g t (tac.Unary op ty d a next) u temps ws (spent 1 s))
  unary op ty d a next at =
      let i = tac.Unary op ty d a next in
      let k = known i at in
      let x = temporary_register c d in
      let y = temporary_register c a in
      let f = first_free c in
      let to : d < most_temporaries c.code = omega (arith, k.temporaries_low) in
      let from : a < most_temporaries c.code = omega (arith, k.temporaries_low) in
      let place = pc + length (o.unary op ty x y f) in
      let w = unary_value op ty (v.values y) in
      let r = ops.unary m p position op ty x y f (temporary_free c k.integers d to)
      (temporary_free c k.integers a from) (record { has = k.put.has; words = words }) in
      subst (λ z. Gives (Stands u next (with_temp temps d (rvalue (integer (unary_value op ty z)))) ws (spent 1 s)))
      (sym (held_word a from))
      (sets_temporary i k d w next 12 (inl refl) r.after
      (leads_on place (address u next) (record v { values = r.after }) 10
      (computed o views g t address p ops ex part u pc v xs place x w f 5 r (omega arith)) k.put.leads)
      (computed_set o views g t address p ops ex part position place x w f f 5 r (omega arith)) (omega arith))

  pub binary : (op : BinaryOperator) (ty : IntType) (line d a b next : ℕ)
      → slice_get h.code.code n ≡ Some (tac.Binary op ty line d a b next)
      → Gives (effect g t (tac.Binary op ty line d a b next) u temps ws (spent 1 s))
  binary op ty line d a b next at =
      subst (λ q. Gives (came (as_rvalue (value_or_divide q line) (spent 1 s)) (given_in u next temps d ws)))
      (sym (ap₂ (binary_value op ty) (held_word a left) (held_word b right)))
      (by (binary_value op ty (v.values (temporary_register c a)) (v.values (temporary_register c b))) refl)
    where
      k : Node (tac.Binary op ty line d a b next)
      k = known (tac.Binary op ty line d a b next) at

      to : d < most_temporaries c.code
      to = omega (arith, k.temporaries_low)

      left : a < most_temporaries c.code
      left = omega (arith, k.temporaries_low)

      right : b < most_temporaries c.code
      right = omega (arith, k.temporaries_low)

      by : (q : Option ℕ) → binary_value op ty (v.values (temporary_register c a))
          (v.values (temporary_register c b)) ≡ q
          → Gives (came (as_rvalue (value_or_divide q line) (spent 1 s)) (given_in u next temps d ws))
      by (Some w) e =
          let x = temporary_register c d in
          let y = temporary_register c a in
          let z = temporary_register c b in
          let f = first_free c in
          let place = pc + length (o.binary op ty x y z f line) in
          let most = binary_most op in
          let small = most_small op in
          let r = ops.binary m p position op ty x y z f line w (temporary_free c k.integers d to)
          (temporary_free c k.integers a left) (temporary_free c k.integers b right)
          (record { has = k.put.has; words = words }) e in
          sets_temporary (tac.Binary op ty line d a b next) k d w next (most * 2 + 2) (inl refl) r.after
          (leads_on place (address u next) (record v { values = r.after }) (most * 2)
          (computed o views g t address p ops ex part u pc v xs place x w f most r (omega arith)) k.put.leads)
          (computed_set o views g t address p ops ex part position place x w f f most r (omega arith)) (omega arith)
      by None e =
          let x = temporary_register c d in
          let y = temporary_register c a in
          let z = temporary_register c b in
          let f = first_free c in
          let r = ops.divides m p position op ty x y z f line (temporary_free c k.integers d to)
          (temporary_free c k.integers a left) (temporary_free c k.integers b right)
          (record { has = k.put.has; words = words }) e in
          let small = most_small op in
          let light = weight_small (function_in p u) in
          let work = scaled (binary_most op + length (report_of (Divide line))) _ r.work r.few light in
          ends o views g t address p ops ex part here (Divide line) (spent 1 s)
          (record v { values = r.after; work = v.work + r.work }) r.steps (code_of (Divide line))
          (report_of (Divide line)) r.comes refl refl
          (record {
            input = h.alike.input;
            output = h.alike.output;
            taken = h.alike.taken;
            accesses = h.alike.accesses;
            turns = h.alike.turns;
          })
          (omega (arith, h.work))

  -- nothing changes but the place
  goes_on : (i : Instruction) → Node i → (next most : ℕ) → LeadsTo i next → ComesTo (address u next) v most → most ≤ 21
      → Gives (Stands u next temps ws (spent 1 s))
  goes_on i k next most l run_to few =
      stays o views g t address p ops ex part u n temps temps ws s (spent 1 s) v v xs next most h run_to
      (holds_free c k.integers temps s.plain v.values v.values h.holds (λ y lt. refl)) (alike_values 1 v.values)
      (record { objects = refl; frame = refl; stacked = refl; charged = refl }) refl (omega arith) (k.on next l)

  pub branch : (a x y : ℕ) → slice_get h.code.code n ≡ Some (tac.Branch a x y)
      → Gives (effect g t (tac.Branch a x y) u temps ws (spent 1 s))
  branch a x y at =
      subst (λ z. Gives (Stands u (cond (z == 0) y x) temps ws (spent 1 s))) (sym (held_word a k.temporaries_low))
      (by (v.values (temporary_register c a) == 0) refl)
    where
      k : Node (tac.Branch a x y)
      k = known (tac.Branch a x y) at

      by : (b : Bool) → (v.values (temporary_register c a) == 0) ≡ b
          → Gives (Stands u (cond b y x) temps ws (spent 1 s))
      by true e = goes_on (tac.Branch a x y) k y 4 (inr (inl refl))
          (leads_on (pc + 1) (address u y) v 2
          (branch_passed_comes m p u pc v xs Bne (temporary_register c a) (Number 0) 1 k.put.has.0
          (not_equal (v.values (temporary_register c a)) 0 true e))
          k.put.leads.0) (omega arith)
      by false e = goes_on (tac.Branch a x y) k x 4 (inl refl)
          (leads_on (pc + 1 + 1) (address u x) v 2
          (branch_taken_comes m p u pc v xs Bne (temporary_register c a) (Number 0) 1 k.put.has.0
          (not_equal (v.values (temporary_register c a)) 0 false e))
          k.put.leads.1) (omega arith)

  -- registers of its own alone change, and the place
  goes_with : (i : Instruction) → Node i → (next most : ℕ) → LeadsTo i next → (values : flat.Values)
      → ((y : ℕ) → y < first_free c → values y ≡ v.values y)
      → ComesTo (address u next) (record v { values = values }) most
      → most ≤ 21 → Gives (Stands u next temps ws (spent 1 s))
  goes_with i k next most l values same run_to few =
      stays o views g t address p ops ex part u n temps temps ws s (spent 1 s) v (record v { values = values }) xs next
      most h run_to (holds_free c k.integers temps s.plain v.values values h.holds same) (alike_values 1 values)
      (record { objects = refl; frame = refl; stacked = refl; charged = refl }) refl (omega arith) (k.on next l)

  module _ (a w x y : ℕ) (at : slice_get h.code.code n ≡ Some (tac.Case a w x y)) where
    abbrev label : Node (tac.Case a w x y)
    label = known (tac.Case a w x y) at

    abbrev free : ℕ
    free = first_free c

    abbrev register : ℕ
    register = temporary_register c a

    abbrev test : List FlatInstruction
    test = Branch Beq (temporary_register c a) (Register (first_free c)) 1 ∷ []

    abbrev word_code : List FlatInstruction
    word_code = o.constant (first_free c) w (first_free c + 1)

    abbrev tested_at : ℕ
    tested_at = pc + length word_code

    abbrev word_in : Computes m p position tested_at (first_free c) w (first_free c + 1) 5
    word_in =
        ops.constant m p position free w (free + 1) (omega arith) (ltb-true w (2 ^ 64) label.part)
        (record { has = has_front (body_of (function_in p u)) pc word_code test label.put.has; words = words })

    kept : (z : ℕ) → z < free → word_in.after z ≡ v.values z
    kept z lt = word_in.others z (omega arith) (λ e. absurd (omega arith))

    same_test : (b : Bool) → (v.values register == w) ≡ b
        → branch_taken Beq (word_in.after register) (word_in.after free)
        ≡ b
    same_test b e =
        let low = temporary_free c label.integers a label.temporaries_low in
        equal (word_in.after register) (word_in.after free) b
        (ap (λ z. z == word_in.after free) (kept register low) ∙ ap (λ z. v.values register == z) word_in.gives ∙ e)

    first : ComesTo tested_at (record v { values = word_in.after }) 10
    first = computed o views g t address p ops ex part u pc v xs tested_at free w (free + 1) 5 word_in (omega arith)

    abbrev between : flat.State
    between = record v { values = word_in.after; work = v.work + first.work }

    at_test : instruction_at p u tested_at ≡ Some (Branch Beq register (Register free) 1)
    at_test = (has_back (body_of (function_in p u)) pc word_code test label.put.has).0

    end_is : pc + length (word_code ++ test) ≡ tested_at + 1
    end_is = omega (arith, length-append word_code test)

    equal_way : (v.values register == w) ≡ true → Gives (Stands u x temps ws (spent 1 s))
    equal_way e =
        let b = branch_taken_comes m p u tested_at between xs Beq register (Register free) 1 at_test
        (same_test true e) in
        let all = then_comes m p u pc v xs tested_at (tested_at + 1 + 1)
        (record v { values = word_in.after }) between 10 2
        first b in
        goes_with (tac.Case a w x y) label x 14 (inl refl) word_in.after kept
        (leads_on (tested_at + 1 + 1) (address u x) (record v { values = word_in.after }) 12
        (record { steps = all.steps; work = all.work; few = all.few; comes = all.comes })
        (subst (λ z. Leads (body_of (function_in p u)) (z + 1) (address u x)) end_is label.put.leads.1)) (omega arith)

    other_way : (v.values register == w) ≡ false → Gives (Stands u y temps ws (spent 1 s))
    other_way e =
        let b = branch_passed_comes m p u tested_at between xs Beq register (Register free) 1 at_test
        (same_test false e)
        in
        let all = then_comes m p u pc v xs tested_at (tested_at + 1) (record v { values = word_in.after }) between 10 2
        first b in
        goes_with (tac.Case a w x y) label y 14 (inr (inl refl)) word_in.after kept
        (leads_on (tested_at + 1) (address u y) (record v { values = word_in.after }) 12
        (record { steps = all.steps; work = all.work; few = all.few; comes = all.comes })
        (subst (λ z. Leads (body_of (function_in p u)) z (address u y)) end_is label.put.leads.0)) (omega arith)

    pub case : Gives (effect g t (tac.Case a w x y) u temps ws (spent 1 s))
    case =
        subst (λ z. Gives (Stands u (cond (z == w) x y) temps ws (spent 1 s)))
        (sym (held_word a label.temporaries_low)) (by (v.values register == w) refl)
      where
        by : (b : Bool) → (v.values register == w) ≡ b → Gives (Stands u (cond b x y) temps ws (spent 1 s))
        by true e = equal_way e
        by false e = other_way e

  pub turn : (counted : Option ℕ) (next : ℕ) → slice_get h.code.code n ≡ Some (tac.Turn counted next)
      → Gives (effect g t (tac.Turn counted next) u temps ws (spent 1 s))
  turn counted next at =
      let k = known (tac.Turn counted next) at in
      stays o views g t address p ops ex part u n temps temps ws s (begun (spent 1 s)) v
      (record v { turns = v.turns + 1 }) xs next 4 h
      (leads_on (pc + 1) (address u next) (record v { turns = v.turns + 1 }) 2
      (turn_comes m p u pc v xs k.put.has.0) k.put.leads)
      (holds_free c k.integers temps s.plain v.values v.values h.holds (λ y lt. refl))
      (record {
        input = h.alike.input;
        output = h.alike.output;
        taken = h.alike.taken;
        accesses = h.alike.accesses;
        turns = omega (arith, h.alike.turns);
      })
      (record { objects = refl; frame = refl; stacked = refl; charged = refl }) refl (omega arith)
      (k.on next (inl refl))
