-- Instructions on integers whose blocks change registers, go one of two ways, or begin a turn.
use Rattle.std.proofs.Common.{◌≡◌, inl, inr, ℕ, ◌+◌, ◌*◌, ◌^◌, ◌<◌, ◌≤◌, Bool, true, false, not, cond, List, []}
use Rattle.std.proofs.Common.{◌∷◌, ◌++◌, length, length-append, Option, Some, None, refl, sym, ap, ap₂, ◌∙◌, subst}
use Rattle.std.proofs.Common.{arith, ltb-true}
use Rattle.std.specs.Prelude.{slice_get, ◌==◌, ◌||◌}
use Rattle.std.proofs.lemmas.Bool.{eq-eqb}
use Rattle.sb_base.specs.declared.ending.Ending.TheVariants.{Divide}
use Rattle.sb_base.specs.Endings.{code_of, report_of}
use Rattle.obj_memory.specs.declared.int_type.IntType.{IntType}
use Rattle.obj_memory.specs.declared.operator.UnaryOperator.{UnaryOperator}
use Rattle.obj_memory.specs.declared.operator.BinaryOperator.{BinaryOperator}
use Rattle.obj_memory.specs.Objects.{ObjectState}
use Rattle.obj_memory.specs.Operators.{unary_value, binary_value}
use Rattle.source_meaning.specs.State.{State, Rvalue}
use Rattle.source_meaning.specs.Actions.{integer, value_or_divide}
use Rattle.source_meaning.specs.Structures.{rvalue, as_rvalue}
use Rattle.tac_ir.specs.declared.instruction.Instruction.{Instruction}
use Rattle.tac_ir.specs.declared.instruction.Instruction.TheVariants as tac
use Rattle.tac_ir.specs.Edges.{LeadsTo}
use Rattle.tac_ir.specs.Stage.{Temps, with_temp, Frame, Stage, Stands, came}
use Rattle.tac_ir.specs.Costs.{spent}
use Rattle.tac_ir.specs.Meaning.{effect, given_in}
use Rattle.tac_ir.specs.Fitting.{is_word}
use Rattle.rv_isa.specs.declared.instruction.BranchOp.TheVariants.{Beq, Bne}
use Rattle.rv_isa.specs.Results.{branch_taken}
use Rattle.flat_code.specs.declared.instruction.RightOperand.TheVariants.{Register, Number}
use Rattle.flat_code.specs.declared.instruction.FlatInstruction.{FlatInstruction}
use Rattle.flat_code.specs.declared.instruction.FlatInstruction.TheVariants.{Branch}
use Rattle.flat_code.specs.Memory.{Bytes}
use Rattle.flat_code.specs.State as flat
use Rattle.flat_code.specs.Calls.{function_in}
use Rattle.flat_code.specs.Meaning.{body_of, instruction_at, weight_of}
use Rattle.flat_code.specs.Words.{IsOfWords}
use Rattle.flat_code.specs.Routines.Routine.{HasAt}
use Rattle.flat_code.proofs.Routines.Steps.{has_front, has_back}
use Rattle.metadata_plan.specs.Registers.{most_temporaries}
use Rattle.metadata_plan.specs.Entries.{given}
use Rattle.metadata_plan.specs.Expanded.{Leads}
use Rattle.metadata_plan.specs.Operators.{Position, Computes, binary_most, IsHere}
use Rattle.metadata_relation.specs.Contents.{takes_word}
use Rattle.metadata_relation.specs.Registers.{temporary_register, first_free}
use Rattle.metadata_relation.specs.Blocks.{untagged}
use Rattle.metadata_relation.specs.Holding.{World, IsTemporary, IsRvalueAt}
use Rattle.metadata_relation.specs.Stages.{Compiled, map_of, views, names, world, activation, expansion_of, IsAt}
use Rattle.metadata_plan.proofs.Numbers.{scaled}
use Rattle.metadata_relation.specs.Steps.{IsCompiled}
use Rattle.metadata_plan.proofs.Flat.{weight_small, Comes, then_comes, turn_comes, branch_taken_comes}
use Rattle.metadata_plan.proofs.Flat.{branch_passed_comes}
use Rattle.metadata_plan.proofs.Flat.{leads_comes}
use Rattle.metadata_plan.proofs.Holding.{IsSet}
use Rattle.metadata_plan.proofs.Simple.{most_small}
use Rattle.metadata_relation.proofs.Holding.{same_world, holds_on}
use Rattle.metadata_relation.proofs.Registers.{temporary_free}
use Rattle.metadata_relation.proofs.Standing.{good_counted, IsNode, node, none_more, none_less, arrives, leads_on, ends}
use Rattle.metadata_relation.proofs.Standing.{Result}
use Rattle.metadata_relation.proofs.Giving.{gives_integer}

-- the two branches, by the test of three-address code
not_equal : (x y : ℕ) (b : Bool) → (x == y) ≡ b → branch_taken Bne x y ≡ not b
unfolding branch_taken
not_equal x y b e = ap not e

equal : (x y : ℕ) (b : Bool) → (x == y) ≡ b → branch_taken Beq x y ≡ b
unfolding branch_taken
equal x y b e = e

pub or_true : (x y : Bool) → y ≡ true → (x || y) ≡ true
or_true true y e = refl
or_true false y e = e

-- the word of a value without contents
pub word_of : (w : World) (b : Bool) (v : Rvalue) (greatest area r : ℕ) (values : flat.Values)
    → IsTemporary w b false v greatest area r values → v.value.word ≡ values r
word_of w b v greatest area r values h = by v.contents (h.none refl) h.by
  where
    by : (o : Option ObjectState) → o ≡ None → IsRvalueAt w b v.value o greatest area r values
        → v.value.word ≡ values r
    by None e q = sym q.word
    by (Some c) e q = cc

module _ (c : Compiled) (IsGood : Bytes → Type 0) (right : IsCompiled c IsGood) (u n : ℕ) (temps : Temps)
    (ws : List Frame) (s : State) (v : flat.State) (xs : List flat.Frame)
    (h : IsAt c IsGood u n temps ws s u (c.layout.address u n) v xs) (words : IsOfWords v) where
  abbrev pc : ℕ
  pc = c.layout.address u n

  abbrev T : (temporary : ℕ) → ℕ
  T i = temporary_register h.code i

  abbrev free : ℕ
  free = first_free h.code

  abbrev Gives : Stage → Type 0
  Gives a = Result c IsGood a (flat.Stands u (c.layout.address u n) v xs)

  abbrev ComesTo : (place : ℕ) → (after : flat.State) → (most : ℕ) → Type 0
  ComesTo = Comes (map_of c) c.layout.program u (c.layout.address u n) v xs

  abbrev body : List FlatInstruction
  body = body_of (function_in c.layout.program u)

  abbrev pub position : Position
  position = record { function = u; place = c.layout.address u n; state = v; frames = xs }

  -- the word that an instruction takes of a temporary
  pub taken : (i : Instruction) → IsNode c u n h.code i → (a : ℕ) → takes_word i a ≡ true
      → a < most_temporaries h.code.code → (temps a).value.word ≡ v.values (temporary_register h.code a)
  taken i k a takes low =
      let t = h.holds.temporaries a low refl in
      let none = k.kept.words n a i k.at takes in
      word_of (world c h.keys s v) (c.layout.expansion.entries u n a) (temps a) _ _ (temporary_register h.code a) v.values
      (record { by = t.by; none = λ e. t.none none })

  -- an operator is such a part of a run
  pub computed : (place into value scratch most : ℕ)
      → (k : Computes (map_of c) c.layout.program position place into value scratch most)
      → ComesTo place (record v { values = k.after }) (most * 2)
  computed place into value scratch most k = record {
    steps = k.steps;
    work = k.work;
    few = scaled most (weight_of (function_in c.layout.program u)) k.work k.few
        (weight_small (function_in c.layout.program u));
    comes = k.comes;
  }

  pub computed_set : (place into value scratch most : ℕ)
      → (k : Computes (map_of c) c.layout.program position place into value scratch most) → free ≤ scratch
      → IsSet (first_free h.code) into value v.values k.after
  computed_set place into value scratch most k le =
      record { gives = k.gives; others = λ y lt ne. k.others y (omega arith) ne }

  -- a list computes the integer that a temporary gets
  pub computes_integer : (i : Instruction) → IsNode c u n h.code i → (d next value most : ℕ)
      (list : List FlatInstruction) → given i ≡ Some d → LeadsTo i next → d < most_temporaries h.code.code
      → HasAt body pc (list ++ untagged (c.layout.expansion.entries u next d) (temporary_register h.code d))
      → Leads body (pc + length (list ++ untagged (c.layout.expansion.entries u next d) (temporary_register h.code d)))
      (c.layout.address u next)
      → Computes (map_of c) c.layout.program position (pc + length list) (temporary_register h.code d) value free most
      → most ≤ 5
      → Gives (Stands u next (with_temp temps d (rvalue (integer value))) ws (spent 1 s))
  computes_integer i k d next value most list gives leads low has on made few =
      let behind = untagged (c.layout.expansion.entries u next d) (temporary_register h.code d) in
      let end : pc + length (list ++ behind) ≡ pc + length list + length behind =
      omega (arith, length-append list behind) in
      gives_integer c IsGood right u n temps ws s v xs h i k d next (pc + length list) value made.after (most * 2)
      (s.work + 1) gives leads low (computed (pc + length list) (temporary_register h.code d) value free most made)
      (computed_set (pc + length list) (temporary_register h.code d) value free most made (omega arith))
      (has_back body pc list behind has) (subst (λ z. Leads body z (c.layout.address u next)) end on) (omega arith)

  pub constant : (d w next : ℕ) → slice_get h.code.code n ≡ Some (tac.Constant d w next) → is_word w ≡ true
      → Gives (effect c.setting (expansion_of c).code (tac.Constant d w next) u temps ws (spent 1 s))
  constant d w next at fits =
      let i = tac.Constant d w next in
      let k = node c IsGood right u n temps ws s v xs h i at in
      let low : d < most_temporaries h.code.code = omega (arith, k.temporaries_low) in
      let o = c.layout.expansion.inline.operators in
      let list = o.constant (T d) w free in
      computes_integer i k d next w 5 list refl (inl refl) low k.put.has k.put.leads
      (right.inline.operators.constant (map_of c) c.layout.program position (T d) w free
      (let f = temporary_free h.code d low in omega arith) (ltb-true w (2 ^ 64) fits)
      (record { has = has_front body pc list (untagged (c.layout.expansion.entries u next d) (T d)) k.put.has; words = words }))
      (omega arith)

  pub unary : (op : UnaryOperator) (ty : IntType) (d a next : ℕ)
      → slice_get h.code.code n ≡ Some (tac.Unary op ty d a next)
      → Gives (effect c.setting (expansion_of c).code (tac.Unary op ty d a next) u temps ws (spent 1 s))
  unary op ty d a next at =
      let i = tac.Unary op ty d a next in
      let k = node c IsGood right u n temps ws s v xs h i at in
      let low : d < most_temporaries h.code.code = omega (arith, k.temporaries_low) in
      let from : a < most_temporaries h.code.code = omega (arith, k.temporaries_low) in
      let o = c.layout.expansion.inline.operators in
      let list = o.unary op ty (T d) (T a) free in
      subst (λ z. Gives (Stands u next (with_temp temps d (rvalue (integer (unary_value op ty z)))) ws (spent 1 s)))
      (sym (taken i k a (eq-eqb a a refl) from))
      (computes_integer i k d next (unary_value op ty (v.values (T a))) 5 list refl (inl refl) low k.put.has k.put.leads
      (right.inline.operators.unary (map_of c) c.layout.program position op ty (T d) (T a) free
      (let f = temporary_free h.code d low in omega arith) (let f = temporary_free h.code a from in omega arith)
      (record { has = has_front body pc list (untagged (c.layout.expansion.entries u next d) (T d)) k.put.has; words = words }))
      (omega arith))

  pub binary : (op : BinaryOperator) (ty : IntType) (line d a b next : ℕ)
      → slice_get h.code.code n ≡ Some (tac.Binary op ty line d a b next)
      → Gives (effect c.setting (expansion_of c).code (tac.Binary op ty line d a b next) u temps ws (spent 1 s))
  binary op ty line d a b next at =
      subst (λ q. Gives (came (as_rvalue (value_or_divide q line) (spent 1 s)) (given_in u next temps d ws)))
      (sym (ap₂ (binary_value op ty) (taken (tac.Binary op ty line d a b next) k a (ap (λ z. z || (a == b)) (eq-eqb a a refl)) left)
      (taken (tac.Binary op ty line d a b next) k b (or_true (b == a) (b == b) (eq-eqb b b refl)) right_low)))
      (by (binary_value op ty (v.values (T a)) (v.values (T b))) refl)
    where
      k : IsNode c u n h.code (tac.Binary op ty line d a b next)
      k = node c IsGood right u n temps ws s v xs h (tac.Binary op ty line d a b next) at

      low : d < most_temporaries h.code.code
      low = omega (arith, k.temporaries_low)

      left : a < most_temporaries h.code.code
      left = omega (arith, k.temporaries_low)

      right_low : b < most_temporaries h.code.code
      right_low = omega (arith, k.temporaries_low)

      here : IsHere c.layout.program (record { function = u; place = c.layout.address u n; state = v; frames = xs })
          (c.layout.expansion.inline.operators.binary op ty (temporary_register h.code d) (temporary_register h.code a)
          (temporary_register h.code b) (first_free h.code) line)
      here = record {
        has = has_front (body_of (function_in c.layout.program u)) (c.layout.address u n)
            (c.layout.expansion.inline.operators.binary op ty (temporary_register h.code d)
            (temporary_register h.code a) (temporary_register h.code b) (first_free h.code) line)
            (untagged (c.layout.expansion.entries u next d) (temporary_register h.code d)) k.put.has;
        words = words;
      }

      by : (q : Option ℕ) → binary_value op ty (v.values (temporary_register h.code a))
          (v.values (temporary_register h.code b)) ≡ q
          → Gives (came (as_rvalue (value_or_divide q line) (spent 1 s)) (given_in u next temps d ws))
      by (Some w) e =
          let small = most_small op in
          computes_integer (tac.Binary op ty line d a b next) k d next w (binary_most op)
          (c.layout.expansion.inline.operators.binary op ty (T d) (T a) (T b) free line) refl (inl refl) low
          k.put.has k.put.leads
          (right.inline.operators.binary (map_of c) c.layout.program position op ty (T d) (T a) (T b) free line w
          (let f = temporary_free h.code d low in omega arith) (let f = temporary_free h.code a left in omega arith)
          (let f = temporary_free h.code b right_low in omega arith) here e)
          (omega arith)
      by None e =
          let r = right.inline.operators.divides (map_of c) c.layout.program position op ty (T d) (T a) (T b) free line
          (let f = temporary_free h.code d low in omega arith) (let f = temporary_free h.code a left in omega arith)
          (let f = temporary_free h.code b right_low in omega arith) here e in
          let small = most_small op in
          let light = weight_small (function_in c.layout.program u) in
          let work = scaled (binary_most op + length (report_of (Divide line))) _ r.work r.few light in
          let shown = h.stands.for.shown in
          let before = h.work in
          ends c IsGood (flat.Stands u (c.layout.address u n) v xs) (Divide line) (spent 1 s)
          (record v { values = r.after; work = v.work + r.work }) r.steps (code_of (Divide line))
          (report_of (Divide line)) r.comes refl refl
          (record { input = shown.input; output = shown.output; taken = shown.taken; accesses = shown.accesses })
          h.stands.turns (omega arith)

  -- ---- instructions that give no value

  -- nothing but registers of the block's own changes, and the place, and how many turns were begun
  pub goes_on : (i : Instruction) → IsNode c u n h.code i → (next turns turns' most : ℕ) (values : flat.Values)
      → given i ≡ None → LeadsTo i next → ((y : ℕ) → y < first_free h.code → values y ≡ v.values y)
      → ComesTo (c.layout.address u next) (record v { values = values; turns = turns' }) most → turns ≤ turns' → most ≤ 21
      → Gives (Stands u next temps ws (record (spent 1 s) { turns = turns }))
  goes_on i k next turns turns' most values gives leads same comes more few =
      let shown = h.stands.for.shown in
      arrives c IsGood right u n temps ws s v xs h next temps s.plain s.input s.output s.taken turns (s.work + 1) values
      v.input v.output v.taken turns' most comes (shown.input, shown.output, shown.taken, more)
      (good_counted (names c) u ws s s.input s.output s.taken turns (s.work + 1) h.steady.good)
      (holds_on (views c) h.keys h.keys s.objects s.objects v.memory v.memory
      (same_world (views c) h.keys s.objects v.memory) (activation c h.code u n s) (c.layout.expansion.entries u next)
      (c.layout.expansion.contents u next) temps s.plain s.frame v.values values
      (none_more c IsGood right u n temps ws s v xs h i k next gives leads)
      (none_less c IsGood right u n temps ws s v xs h i k next gives leads) (λ x o home live held. live) same h.holds)
      (λ r from to. same r (omega arith)) (omega arith)

  -- the step of a block that leads on
  pub led : (q next most : ℕ) (after : flat.State) → ComesTo q after most → Leads body q (c.layout.address u next)
      → ComesTo (c.layout.address u next) after (most + 2)
  led q next most after k l =
      leads_on c IsGood right u n temps ws s v xs h q (c.layout.address u next) after most k l

  pub skip_step : (next : ℕ) → slice_get h.code.code n ≡ Some (tac.Skip next)
      → Gives (effect c.setting (expansion_of c).code (tac.Skip next) u temps ws (spent 1 s))
  skip_step next at =
      let i = tac.Skip next in
      let k = node c IsGood right u n temps ws s v xs h i at in
      let e : c.layout.address u n + 0 ≡ c.layout.address u n = omega arith in
      goes_on i k next s.turns v.turns 2 v.values refl (inl refl) (λ y lt. refl)
      (leads_comes (map_of c) c.layout.program u (c.layout.address u n) v xs (c.layout.address u next)
      (subst (λ z. Leads body z (c.layout.address u next)) e k.put.leads))
      h.stands.turns (omega arith)

  pub branch : (a x y : ℕ) → slice_get h.code.code n ≡ Some (tac.Branch a x y)
      → Gives (effect c.setting (expansion_of c).code (tac.Branch a x y) u temps ws (spent 1 s))
  branch a x y at =
      subst (λ z. Gives (Stands u (cond (z == 0) y x) temps ws (spent 1 s)))
      (sym (taken (tac.Branch a x y) k a (eq-eqb a a refl) k.temporaries_low))
      (by (v.values (temporary_register h.code a) == 0) refl)
    where
      k : IsNode c u n h.code (tac.Branch a x y)
      k = node c IsGood right u n temps ws s v xs h (tac.Branch a x y) at

      by : (b : Bool) → (v.values (temporary_register h.code a) == 0) ≡ b
          → Gives (Stands u (cond b y x) temps ws (spent 1 s))
      by true e = goes_on (tac.Branch a x y) k y s.turns v.turns 4 v.values refl (inr (inl refl)) (λ z lt. refl)
          (led (pc + 1) y 2 v
          (branch_passed_comes (map_of c) c.layout.program u pc v xs Bne (T a) (Number 0) 1 k.put.has.0
          (not_equal (v.values (T a)) 0 true e)) k.put.leads.0)
          h.stands.turns (omega arith)
      by false e = goes_on (tac.Branch a x y) k x s.turns v.turns 4 v.values refl (inl refl) (λ z lt. refl)
          (led (pc + 1 + 1) x 2 v
          (branch_taken_comes (map_of c) c.layout.program u pc v xs Bne (T a) (Number 0) 1 k.put.has.0
          (not_equal (v.values (T a)) 0 false e)) k.put.leads.1)
          h.stands.turns (omega arith)

  pub turn : (counted : Option ℕ) (next : ℕ) → slice_get h.code.code n ≡ Some (tac.Turn counted next)
      → Gives (effect c.setting (expansion_of c).code (tac.Turn counted next) u temps ws (spent 1 s))
  turn counted next at =
      let i = tac.Turn counted next in
      let k = node c IsGood right u n temps ws s v xs h i at in
      let before = h.stands.turns in
      goes_on i k next (s.turns + 1) (v.turns + 1) 4 v.values refl (inl refl) (λ y lt. refl)
      (led (pc + 1) next 2 (record v { turns = v.turns + 1 })
      (turn_comes (map_of c) c.layout.program u pc v xs k.put.has.0) k.put.leads)
      (omega arith) (omega arith)

  -- ---- a choice by a word

  module _ (a w x y : ℕ) (at : slice_get h.code.code n ≡ Some (tac.Case a w x y)) (fits : is_word w ≡ true) where
    abbrev label : IsNode c u n h.code (tac.Case a w x y)
    label = node c IsGood right u n temps ws s v xs h (tac.Case a w x y) at

    abbrev test : List FlatInstruction
    test = Branch Beq (temporary_register h.code a) (Register (first_free h.code)) 1 ∷ []

    abbrev word_code : List FlatInstruction
    word_code = c.layout.expansion.inline.operators.constant (first_free h.code) w (first_free h.code + 1)

    abbrev tested_at : ℕ
    tested_at = c.layout.address u n + length word_code

    abbrev word_in : Computes (map_of c) c.layout.program position tested_at (first_free h.code) w
        (first_free h.code + 1) 5
    word_in =
        right.inline.operators.constant (map_of c) c.layout.program position free w (free + 1) (omega arith)
        (ltb-true w (2 ^ 64) fits)
        (record { has = has_front body pc word_code test label.put.has; words = words })

    kept : (z : ℕ) → z < free → word_in.after z ≡ v.values z
    kept z lt = word_in.others z (omega arith) (λ e. absurd (omega arith))

    same_test : (b : Bool) → (v.values (T a) == w) ≡ b
        → branch_taken Beq (word_in.after (T a)) (word_in.after free) ≡ b
    same_test b e =
        let low = temporary_free h.code a label.temporaries_low in
        equal (word_in.after (T a)) (word_in.after free) b
        (ap (λ z. z == word_in.after free) (kept (T a) (omega arith)) ∙ ap (λ z. v.values (T a) == z) word_in.gives ∙ e)

    first : ComesTo tested_at (record v { values = word_in.after }) 10
    first = computed tested_at free w (free + 1) 5 word_in

    abbrev between : flat.State
    between = record v { values = word_in.after; work = v.work + first.work }

    at_test : instruction_at c.layout.program u tested_at ≡ Some (Branch Beq (T a) (Register free) 1)
    at_test = (has_back body pc word_code test label.put.has).0

    end_is : pc + length (word_code ++ test) ≡ tested_at + 1
    end_is = omega (arith, length-append word_code test)

    equal_way : (v.values (T a) == w) ≡ true → Gives (Stands u x temps ws (spent 1 s))
    equal_way e =
        let b = branch_taken_comes (map_of c) c.layout.program u tested_at between xs Beq (T a) (Register free) 1 at_test
        (same_test true e) in
        let all = then_comes (map_of c) c.layout.program u pc v xs tested_at (tested_at + 1 + 1)
        (record v { values = word_in.after }) between 10 2 first b in
        goes_on (tac.Case a w x y) label x s.turns v.turns 14 word_in.after refl (inl refl) kept
        (led (tested_at + 1 + 1) x 12 (record v { values = word_in.after })
        (record { steps = all.steps; work = all.work; few = all.few; comes = all.comes })
        (subst (λ z. Leads body (z + 1) (c.layout.address u x)) end_is label.put.leads.1)) h.stands.turns (omega arith)

    other_way : (v.values (T a) == w) ≡ false → Gives (Stands u y temps ws (spent 1 s))
    other_way e =
        let b = branch_passed_comes (map_of c) c.layout.program u tested_at between xs Beq (T a) (Register free) 1 at_test
        (same_test false e) in
        let all = then_comes (map_of c) c.layout.program u pc v xs tested_at (tested_at + 1)
        (record v { values = word_in.after }) between 10 2 first b in
        goes_on (tac.Case a w x y) label y s.turns v.turns 14 word_in.after refl (inr (inl refl)) kept
        (led (tested_at + 1) y 12 (record v { values = word_in.after })
        (record { steps = all.steps; work = all.work; few = all.few; comes = all.comes })
        (subst (λ z. Leads body z (c.layout.address u y)) end_is label.put.leads.0)) h.stands.turns (omega arith)

    pub case : Gives (effect c.setting (expansion_of c).code (tac.Case a w x y) u temps ws (spent 1 s))
    case =
        subst (λ z. Gives (Stands u (cond (z == w) x y) temps ws (spent 1 s)))
        (sym (taken (tac.Case a w x y) label a (eq-eqb a a refl) label.temporaries_low)) (by (v.values (T a) == w) refl)
      where
        by : (b : Bool) → (v.values (T a) == w) ≡ b → Gives (Stands u (cond b x y) temps ws (spent 1 s))
        by true e = equal_way e
        by false e = other_way e
