-- A check of a pointer whose key begins with an object's name compares its address with that of the object.
use Rattle.std.proofs.Common.{◌≡◌, inl, inr, ℕ, ◌+◌, ◌-◌, ◌%◌, ◌^◌, ◌<◌, ◌≤◌, Bool, true, false, List, []}
use Rattle.std.proofs.Common.{◌∷◌, ◌++◌, length, length-append, Some, None, refl, sym, ap, ap₂, ◌∙◌}
use Rattle.std.proofs.Common.{subst, arith}
use Rattle.std.specs.Prelude.{nat_lt, if◌then◌else◌}
use Rattle.std.proofs.Math.Nat.{mod-eq_of_lt}
use Rattle.std.proofs.lemmas.Bool.{lt-ltb}
use Rattle.std.proofs.lemmas.Bool.Decides.{leb_tells}
use Rattle.sb_base.specs.declared.ending.Ending.{Ending}
use Rattle.sb_base.specs.declared.ending.Ending.TheVariants.{Spatial as SpatialAt}
use Rattle.words.specs.Operations.{difference}
use Rattle.obj_memory.specs.Judgement.{are_within}
use Rattle.source_meaning.specs.State.{State}
use Rattle.source_meaning.specs.Blocks.{pass_or_stop}
use Rattle.tac_ir.specs.declared.instruction.Instruction.{Instruction}
use Rattle.tac_ir.specs.Edges.{LeadsTo}
use Rattle.tac_ir.specs.Stage.{Temps, Frame, Stage, Stands, came}
use Rattle.tac_ir.specs.Costs.{spent}
use Rattle.rv_isa.specs.declared.instruction.RegOp.TheVariants.{Sub}
use Rattle.rv_isa.specs.declared.instruction.BranchOp.TheVariants.{Bltu}
use Rattle.rv_isa.specs.Results.{branch_taken, reg_result}
use Rattle.flat_code.specs.declared.instruction.RightOperand.TheVariants.{Register, Number}
use Rattle.flat_code.specs.declared.instruction.FlatInstruction.{FlatInstruction}
use Rattle.flat_code.specs.declared.instruction.FlatInstruction.TheVariants.{Operate, Branch, End}
use Rattle.flat_code.specs.Memory.{Bytes, put}
use Rattle.flat_code.specs.State as flat
use Rattle.flat_code.specs.Calls.{function_in}
use Rattle.flat_code.specs.Meaning.{body_of, instruction_at}
use Rattle.flat_code.specs.Words.{IsOfWords}
use Rattle.flat_code.proofs.Stored.{put_same, put_other}
use Rattle.flat_code.specs.Routines.Routine.{HasAt}
use Rattle.flat_code.proofs.Routines.Steps.{has_front, has_back}
use Rattle.metadata_plan.specs.Registers.{most_temporaries}
use Rattle.metadata_plan.specs.Entries.{given}
use Rattle.metadata_plan.specs.Expanded.{Leads}
use Rattle.metadata_plan.specs.Operators.{OperatorCode}
use Rattle.metadata_plan.proofs.Calling.{below}
use Rattle.metadata_plan.proofs.Flat.{Comes, next_comes, then_comes, at_place, operate_comes}
use Rattle.metadata_plan.proofs.Flat.{branch_taken_comes, branch_passed_comes}
use Rattle.metadata_relation.specs.Registers.{temporary_register, first_free}
use Rattle.metadata_relation.specs.Blocks.{is_short, number_code, number_operand, Range, range_code}
use Rattle.metadata_relation.specs.Stages.{Compiled, map_of, IsAt}
use Rattle.metadata_relation.specs.Steps.{IsCompiled}
use Rattle.metadata_relation.proofs.Ranges.{behind, compared, too_small, Told}
use Rattle.metadata_relation.proofs.ObjectTests.{ends_at}
use Rattle.metadata_relation.proofs.Registers.{temporary_free}
use Rattle.metadata_relation.proofs.Simple.{goes_on, led}
use Rattle.metadata_relation.proofs.Standing.{IsNode, Result}

difference_is : (x y : ℕ) → reg_result Sub x y ≡ difference 64 x y
unfolding reg_result
difference_is x y = refl

-- a short number stands in the instruction that takes it
pub short_code : (o : OperatorCode) (x r s : ℕ) → is_short x ≡ true → number_code o x r s ≡ []
short_code o x r s e = ap (λ b. if b then [] else o.constant r x s) e

pub short_operand : (x r : ℕ) → is_short x ≡ true → number_operand x r ≡ Number x
short_operand x r e = ap (λ b. if b then Number x else Register r) e

-- the list of a range that has room, and of one that has none
abbrev behind_range : OperatorCode → Range → (size line pointer scratch : ℕ) → List FlatInstruction
behind_range o r size line p s =
    Operate Sub s p (Register s)
    ∷ (number_code o (r.end - (r.start + size) + 1) (s + 1) (s + 2)
    ++ (Branch Bltu s (number_operand (r.end - (r.start + size) + 1) (s + 1)) 1 ∷ End (SpatialAt line) ∷ []))

abbrev chosen : Bool → OperatorCode → (address : List FlatInstruction) → Range → (size line pointer scratch : ℕ)
    → List FlatInstruction
chosen b o list r size line p s = if b then list ++ behind_range o r size line p s else End (SpatialAt line) ∷ []

with_room : (o : OperatorCode) (list : List FlatInstruction) (r : Range) (size line p s : ℕ) → r.start + size ≤ r.end
    → range_code o list r size line p s ≡ list ++ behind_range o r size line p s
with_room o list r size line p s fits = by (leb_tells (r.start + size) r.end)
  where
    by : Told (r.start + size) r.end → range_code o list r size line p s ≡ list ++ behind_range o r size line p s
    by (inl e) = ap (λ b. chosen b o list r size line p s) e.0
    by (inr e) = absurd (omega (arith, fits, e.1))

without_room : (o : OperatorCode) (list : List FlatInstruction) (r : Range) (size line p s : ℕ)
    → r.end < r.start + size → range_code o list r size line p s ≡ End (SpatialAt line) ∷ []
without_room o list r size line p s fits = by (leb_tells (r.start + size) r.end)
  where
    by : Told (r.start + size) r.end → range_code o list r size line p s ≡ End (SpatialAt line) ∷ []
    by (inl e) = absurd (omega (arith, fits, e.1))
    by (inr e) = ap (λ b. chosen b o list r size line p s) e.0

-- the address comes first
pub range_front : (o : OperatorCode) (list : List FlatInstruction) (r : Range) (size line p s : ℕ)
    → r.start + size ≤ r.end → (body : List FlatInstruction) (q : ℕ) → HasAt body q (range_code o list r size line p s)
    → HasAt body q list
range_front o list r size line p s fits body q has =
    has_front body q list (behind_range o r size line p s)
    (subst (HasAt body q) (with_room o list r size line p s fits) has)

module _ (c : Compiled) (IsGood : Bytes → Type 0) (right : IsCompiled c IsGood) (u n : ℕ) (temps : Temps)
    (ws : List Frame) (s : State) (v : flat.State) (xs : List flat.Frame)
    (h : IsAt c IsGood u n temps ws s u (c.layout.address u n) v xs) (words : IsOfWords v) where
  abbrev pc : ℕ
  pc = c.layout.address u n

  abbrev T : (temporary : ℕ) → ℕ
  T i = temporary_register h.code i

  abbrev free : ℕ
  free = first_free h.code

  abbrev body : List FlatInstruction
  body = body_of (function_in c.layout.program u)

  abbrev Gives : Stage → Type 0
  Gives a = Result c IsGood a (flat.Stands u (c.layout.address u n) v xs)

  abbrev ComesTo : (place : ℕ) → (after : flat.State) → (most : ℕ) → Type 0
  ComesTo = Comes (map_of c) c.layout.program u (c.layout.address u n) v xs

  -- the run ends where no register of the function and no memory has changed
  pub stops : (e : Ending) (next q most : ℕ) (values : flat.Values) → ComesTo q (record v { values = values }) most
      → instruction_at c.layout.program u q ≡ Some (End e) → most ≤ 19
      → Gives (came (pass_or_stop false e (spent 1 s)) (λ _ z. Stands u next temps ws z))
  stops e next q most values k at few =
      ends_at c IsGood u n temps ws s v xs h e (spent 1 s) q most v.turns values k at (refl, refl, refl, refl) h.stands.turns
      (omega (arith, few))

  -- so many bytes behind the address of an object, in the first free register
  pub record HasAddress (list : List FlatInstruction) (address : ℕ) : Type 0 where
    pub values : flat.Values
    pub comes : ComesTo (c.layout.address u n + length list) (record v { values = values }) 10
    pub gives : values (first_free h.code) ≡ address
    pub others : (y : ℕ) → y < first_free h.code → values y ≡ v.values y

  module _ (i : Instruction) (k : IsNode c u n h.code i) (none : given i ≡ None) (next : ℕ) (leads : LeadsTo i next)
      (list : List FlatInstruction) (a address : ℕ) (r : Range) (size line : ℕ)
      (has : HasAt (body_of (function_in c.layout.program u)) (c.layout.address u n)
      (range_code c.layout.expansion.inline.operators list r size line (temporary_register h.code a)
      (first_free h.code)))
      (on : Leads (body_of (function_in c.layout.program u)) (c.layout.address u n
      + length (range_code c.layout.expansion.inline.operators list r size line (temporary_register h.code a)
      (first_free h.code))) (c.layout.address u next)) (low : a < most_temporaries h.code.code)
      (addressed : r.start + size ≤ r.end → HasAddress list (address + r.start))
      (last : address + r.end + 1 < 2 ^ 31 - 2 ^ 11) where
    abbrev limit : ℕ
    limit = r.end - (r.start + size) + 1

    abbrev word : ℕ
    word = v.values (temporary_register h.code a)

    abbrev Goal : Type 0
    Goal = Gives (came (pass_or_stop (are_within (behind address r) (v.values (temporary_register h.code a)) size)
        (SpatialAt line) (spent 1 s)) (λ _ z. Stands u next temps ws z))

    -- where the range has room
    module _ (fits : r.start + size ≤ r.end) where
      given_address : HasAddress list (address + r.start)
      given_address = addressed fits

      abbrev behind_address : ℕ
      behind_address = c.layout.address u n + length list

      abbrev far : flat.Values
      far = put given_address.values (first_free h.code)
          (difference 64 (v.values (temporary_register h.code a)) (address + r.start))

      abbrev test : List FlatInstruction
      test = Operate Sub (first_free h.code) (temporary_register h.code a) (Register (first_free h.code))
          ∷ Branch Bltu (first_free h.code) (Number limit) 1 ∷ End (SpatialAt line) ∷ []

      short : is_short limit ≡ true
      short = lt-ltb limit (2 ^ 31 - 2 ^ 11) (omega (arith, last, fits))

      list_is : range_code c.layout.expansion.inline.operators list r size line (temporary_register h.code a)
          (first_free h.code) ≡ list ++ test
      list_is =
          let o = c.layout.expansion.inline.operators in
          let f = first_free h.code in
          with_room o list r size line (T a) f fits
          ∙ ap₂ (λ x y. list ++ (Operate Sub f (T a) (Register f) ∷ (x ++ (Branch Bltu f y 1 ∷ End (SpatialAt line) ∷ []))))
          (short_code o limit (f + 1) (f + 2) short) (short_operand limit (f + 1) short)

      has_test : HasAt body behind_address test
      has_test = has_back body pc list test (subst (HasAt body pc) list_is has)

      apart : temporary_register h.code a < first_free h.code
      apart = (let f = temporary_free h.code a low in omega arith)

      -- how far the pointer is behind the first byte of the range
      comes_far : ComesTo (behind_address + 1) (record v { values = far }) 12
      comes_far =
          let g = given_address in
          let f = first_free h.code in
          let one = operate_comes (map_of c) c.layout.program u behind_address
          (record v { values = g.values; work = v.work + g.comes.work }) xs Sub f (T a) (Register f) has_test.0 in
          let same : reg_result Sub (g.values (T a)) (g.values f)
          ≡ difference 64 (v.values (temporary_register h.code a)) (address + r.start) =
          difference_is (g.values (T a)) (g.values f) ∙ ap₂ (difference 64) (g.others (T a) apart) g.gives in
          then_comes (map_of c) c.layout.program u pc v xs behind_address (behind_address + 1) (record v { values = g.values })
          (record v { values = far }) 10 2 g.comes
          (record {
            steps = one.steps;
            work = one.work;
            few = one.few;
            comes = one.comes ∙ ap (λ z. flat.Stands u (behind_address + 1)
                (record v { values = put g.values f z; work = v.work + g.comes.work + one.work }) xs) same;
          })

      far_is : far (first_free h.code) ≡ difference 64 (v.values (temporary_register h.code a)) (address + r.start)
      far_is = put_same given_address.values (first_free h.code) _

      stays : (y : ℕ) → y < first_free h.code → far y ≡ v.values y
      stays y lt = put_other given_address.values (first_free h.code) _ y (λ e. omega (arith, lt, e))
          ∙ given_address.others y lt

      taken : (b : Bool) → nat_lt (difference 64 (v.values (temporary_register h.code a)) (address + r.start)) limit ≡ b
          → branch_taken Bltu (far (first_free h.code)) (limit % 2 ^ 64) ≡ b
      taken b e =
          let same : limit % 2 ^ 64 ≡ limit = mod-eq_of_lt (omega (arith, last, fits)) in
          below (far free) (limit % 2 ^ 64) b (ap₂ nat_lt far_is same ∙ e)

      ended : length (list ++ test) ≡ length list + 3
      ended = length-append list test

      compares : (b : Bool)
          → nat_lt (difference 64 (v.values (temporary_register h.code a)) (address + r.start)) limit ≡ b
          → Gives (came (pass_or_stop b (SpatialAt line) (spent 1 s)) (λ _ z. Stands u next temps ws z))
      compares true e =
          let last : flat.State = record v { values = far } in
          let past = next_comes (map_of c) c.layout.program u pc v xs (behind_address + 1) (behind_address + 1 + 1 + 1) last
          last 12 2 comes_far
          (λ w. (let b = branch_taken_comes (map_of c) c.layout.program u (behind_address + 1) (record last { work = w }) xs
          Bltu free (Number limit) 1 has_test.1.0 (taken true e) in
          record { steps = b.steps; work = b.work; few = b.few; comes = b.comes })) in
          let place : behind_address + 1 + 1 + 1 ≡ pc + length (list ++ test) = omega (arith, ended) in
          goes_on c IsGood right u n temps ws s v xs h words i k next s.turns v.turns 16 far none leads stays
          (led c IsGood right u n temps ws s v xs h words (pc + length (list ++ test)) next 14 last
          (at_place (map_of c) c.layout.program u pc v xs (behind_address + 1 + 1 + 1) (pc + length (list ++ test)) last 14
          past place) (subst (λ z. Leads body (pc + length z) (c.layout.address u next)) list_is on))
          h.stands.turns (omega arith)
      compares false e =
          let last : flat.State = record v { values = far } in
          let past = next_comes (map_of c) c.layout.program u pc v xs (behind_address + 1) (behind_address + 1 + 1) last
          last 12 2 comes_far
          (λ w. (let b = branch_passed_comes (map_of c) c.layout.program u (behind_address + 1) (record last { work = w }) xs
          Bltu free (Number limit) 1 has_test.1.0 (taken false e) in
          record { steps = b.steps; work = b.work; few = b.few; comes = b.comes })) in
          stops (SpatialAt line) next (behind_address + 1 + 1) 14 far past has_test.1.1.0 (omega arith)

    -- where it has none the run ends
    stopped : r.end < r.start + size
        → Gives (came (pass_or_stop false (SpatialAt line) (spent 1 s)) (λ _ z. Stands u next temps ws z))
    stopped none_fits =
        let here : v.work ≡ v.work + 0 = omega arith in
        stops (SpatialAt line) next pc 0 v.values
        (record {
          steps = 0;
          work = 0;
          few = omega arith;
          comes = ap (λ w. flat.Stands u pc (record v { work = w }) xs) here;
        })
        (subst (HasAt body pc) (without_room c.layout.expansion.inline.operators list r size line
        (temporary_register h.code a) (first_free h.code) none_fits) has).0 (omega arith)

    -- a pointer is judged by the bounds that lie so behind the address
    pub ranged : Goal
    ranged = by (leb_tells (r.start + size) r.end)
      where
        by : Told (r.start + size) r.end → Goal
        by (inl p) =
            subst (λ b. Gives (came (pass_or_stop b (SpatialAt line) (spent 1 s)) (λ _ z. Stands u next temps ws z)))
            (sym (compared address r word size (words.values (temporary_register h.code a)) (omega (arith, last)) p.1))
            (compares p.1 (nat_lt (difference 64 word (address + r.start)) limit) refl)
        by (inr p) =
            subst (λ b. Gives (came (pass_or_stop b (SpatialAt line) (spent 1 s)) (λ _ z. Stands u next temps ws z)))
            (sym (too_small address r word size p.1)) (stopped p.1)
