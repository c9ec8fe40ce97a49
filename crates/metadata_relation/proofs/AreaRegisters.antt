-- Registers get where areas begin and where their entries do, wherever the lists for that stand in a function of the
-- program.
use Rattle.std.proofs.Common.{◌≡◌, ℕ, suc, ◌+◌, ◌-◌, ◌*◌, ◌^◌, ◌<◌, ◌≤◌, List, [], ◌∷◌, ◌++◌, length, length-append}
use Rattle.std.proofs.Common.{refl, ◌∙◌, subst, arith}
use Rattle.metadata_plan.proofs.Numbers.{scaled}
use Rattle.addr_map.specs.declared.region.Region.TheVariants.{StructureValues}
use Rattle.addr_map.specs.Places.{AreMapped, MapSizes, region_end, region_size, region_start}
use Rattle.rv_isa.specs.declared.instruction.RegOp.TheVariants.{Add}
use Rattle.rv_isa.specs.Results.{reg_result, wrap}
use Rattle.tac_ir.specs.declared.function.CodeFunction.{CodeFunction}
use Rattle.tac_ir.specs.declared.function.Tac.{Tac}
use Rattle.tac_ir.specs.Structures.{greatest_structure, structures_below}
use Rattle.flat_code.specs.declared.instruction.FlatInstruction.{FlatInstruction}
use Rattle.flat_code.specs.declared.instruction.FlatInstruction.TheVariants.{Constant, Move, Operate}
use Rattle.flat_code.specs.declared.instruction.RightOperand.TheVariants.{Register}
use Rattle.flat_code.specs.declared.function.FlatProgram.{FlatProgram}
use Rattle.flat_code.specs.Calls.{charged, function_in}
use Rattle.flat_code.specs.Meaning.{body_of, weight_of}
use Rattle.flat_code.specs.Memory.{Bytes, put}
use Rattle.flat_code.specs.State as flat
use Rattle.flat_code.specs.Words.{HasWords}
use Rattle.flat_code.proofs.Stored.{put_other, put_same}
use Rattle.flat_code.specs.Routines.Routine.{HasAt}
use Rattle.flat_code.proofs.Routines.Steps.{has_back, has_front}
use Rattle.lib_wrappers.specs.AreaRoutines.Areas.{entries_begin, HoldsPart, whole_words}
use Rattle.runtime_functions.specs.Library.{held_from}
use Rattle.metadata_plan.specs.Operators.{OperatorCode}
use Rattle.metadata_plan.proofs.Flat.{charged_comes, Comes, move_comes, operate_comes, weight_small, words_kept}
use Rattle.metadata_plan.proofs.Flat.{then_comes}
use Rattle.metadata_relation.specs.Holding.{area_of}
use Rattle.metadata_relation.specs.Stages.{Compiled, map_of}
use Rattle.metadata_relation.specs.Steps.{IsCompiled}
use Rattle.metadata_relation.specs.Structures.{area_code, await_code, begin_area_code, bound_code, callee_part_code}
use Rattle.metadata_relation.specs.Structures.{HasAreas}
use Rattle.metadata_relation.proofs.AreaPlaces.{area_last, area_within, greatest_whole}
use Rattle.metadata_relation.proofs.Assigning.{assigned, assigns}
use Rattle.metadata_relation.proofs.TopCell.{cell_place}

-- ---- sums of registers

pub register_sum : (a b : ℕ) → a + b < 2 ^ 64 → reg_result Add a b ≡ a + b
unfolding reg_result
register_sum a b small = omega arith

pub spaces_low : (m : MapSizes) → AreMapped m → m.budgets.calls ≤ region_start m StructureValues
unfolding region_size region_start
spaces_low m h = omega (arith, h.budgets.calls.greatest)

pub calls_end : (m : MapSizes) → region_end m StructureValues ≡ region_start m StructureValues + m.budgets.calls
unfolding region_size
calls_end m = refl

-- far below the end of all addresses
pub spaces_high : (m : MapSizes) → AreMapped m → region_start m StructureValues + 2 ^ 40 < 2 ^ 64
unfolding region_size region_start
spaces_high m h = omega (
  arith,
  h.globals,
  h.budgets.stack.greatest,
  h.budgets.heap.greatest,
  h.budgets.blocks,
  h.budgets.calls.greatest,
)

module _ (c : Compiled) (IsGood : Bytes → Type 0) (right : IsCompiled c IsGood) (u : ℕ) (xs : List flat.Frame) where
  abbrev m : MapSizes
  m = map_of c

  abbrev p : FlatProgram
  p = c.layout.program

  abbrev t : Tac
  t = c.layout.expansion.code

  abbrev o : OperatorCode
  o = c.layout.expansion.inline.operators

  abbrev body : List FlatInstruction
  body = body_of (function_in c.layout.program u)

  -- ---- parts of a run

  -- registers change alone
  abbrev pub Sets : (place : ℕ) → flat.State → (behind : ℕ) → flat.Values → (most : ℕ) → Type 0
  Sets place y behind values most =
      Comes (map_of c) c.layout.program u place y xs behind (record y { values = values }) most

  pub set_on : (place q r : ℕ) (y : flat.State) (values last : flat.Values) (a b : ℕ) → (h : Sets place y q values a)
      → Sets q (record y { values = values; work = y.work + h.work }) r last b → Sets place y r last (a + b)
  set_on place q r y values last a b h k =
      then_comes m p u place y xs q r (record y { values = values }) (record y { values = last }) a b h
      (record { steps = k.steps; work = k.work; few = k.few; comes = k.comes })

  pub set_words : (place q : ℕ) (y : flat.State) (values : flat.Values) (most : ℕ)
      → HasWords (flat.Stands u place y xs) → (h : Sets place y q values most)
      → HasWords (flat.Stands u q (record y { values = values; work = y.work + h.work }) xs)
  set_words place q y values most words h =
      subst HasWords h.comes (words_kept m p h.steps (flat.Stands u place y xs) words)

  -- a list gives a register a value, and those before it are as they were
  pub record Finds (list : List FlatInstruction) (place register value most : ℕ) (y : flat.State) : Type 0 where
    pub after : flat.Values
    pub comes : Sets place y (place + length list) after most
    pub gives : after register ≡ value
    pub others : (r : ℕ) → r < register → after r ≡ y.values r

  pub constant_found : (place r n scratch : ℕ) (y : flat.State) → r < scratch → n < 2 ^ 64
      → HasWords (flat.Stands u place y xs)
      → HasAt (body_of (function_in c.layout.program u)) place
      (c.layout.expansion.inline.operators.constant r n scratch)
      → Finds (c.layout.expansion.inline.operators.constant r n scratch) place r n 10 y
  constant_found place r n scratch y behind small words has =
      let made = right.inline.operators.constant m p
      (record { function = u; place = place; state = y; frames = xs }) r n scratch behind small
      (record { has = has; words = words.0 }) in
      record {
        after = made.after;
        comes = record {
          steps = made.steps;
          work = made.work;
          few = scaled 5 (weight_of (function_in p u)) made.work made.few (weight_small (function_in p u));
          comes = made.comes;
        };
        gives = made.gives;
        others = λ q lt. made.others q (omega arith) (λ e. omega arith);
      }

  -- ---- areas

  pub area_computed : (code : CodeFunction) → HasAreas c.layout.expansion.code code → (charge : ℕ)
      → charge ≡ charged c.layout.program u xs → code.room ≤ charge → charge ≤ (map_of c).budgets.calls
      → (r d place : ℕ) (y : flat.State) → HasWords (flat.Stands u place y xs)
      → HasAt (body_of (function_in c.layout.program u)) place
      (area_code c.layout.expansion.inline.operators (map_of c) c.layout.expansion.code code d r)
      → Finds (area_code c.layout.expansion.inline.operators (map_of c) c.layout.expansion.code code d r) place r
      (area_of (map_of c) c.layout.expansion.code code charge d) 14 y
  area_computed code have charge charge_is inside fits r d place y words has =
      let k = region_start m StructureValues - code.room + 5 * structures_below t code.code d in
      let low = spaces_low m right.mapped in
      let end = calls_end m in
      let cell = cell_place m right.mapped in
      let behind = cell.behind in let small = cell.small in
      let within = have.fit d in
      let constants = o.constant (r + 1) k (r + 2) in
      let sum = Operate Add r r (Register (r + 1)) ∷ [] in
      let first = charged_comes m p u place y xs r has.0 in
      let charge_values = put y.values r (wrap (charged p u xs)) in
      let y1 : flat.State = record y { values = charge_values; work = y.work + first.work } in
      let made = constant_found (place + 1) (r + 1) k (r + 2) y1 (omega arith) (omega arith)
      (set_words place (place + 1) y charge_values 2 words first)
      (has_front body (place + 1) constants sum has.1) in
      let q = place + 1 + length constants in
      let two = set_on place (place + 1) q y charge_values made.after 2 10 first made.comes in
      let there = has_back body (place + 1) constants sum has.1 in
      let total = reg_result Add (made.after r) (made.after (r + 1)) in
      let three = set_on place q (q + 1) y made.after (put made.after r total) 12 2 two
      (operate_comes m p u q (record y { values = made.after; work = y.work + two.work }) xs Add r r (Register (r + 1))
      there.0) in
      let charge_there : made.after r ≡ charge =
      made.others r (omega arith) ∙ put_same y.values r (wrap (charged p u xs)) ∙ omega (arith, charge_is) in
      let counted = length-append constants sum in
      let at : q + 1 ≡ place + suc (length (constants ++ sum)) = omega (arith, counted) in
      let number = made.gives in
      let total_is : total ≡ area_of m t code charge d =
      register_sum (made.after r) (made.after (r + 1)) (omega (arith, charge_there, number))
      ∙ omega (arith, charge_there, number) in
      record {
        after = put made.after r total;
        comes = subst (λ z. Sets place y z (put made.after r total) 14) at three;
        gives = put_same made.after r total ∙ total_is;
        others = λ z lt. put_other made.after r total z (λ e. omega arith) ∙ made.others z (omega arith)
            ∙ put_other y.values r (wrap (charged p u xs)) z (λ e. omega arith);
      }

  -- where the entries begin
  pub bound_computed : (r a size address place : ℕ) (y : flat.State) → a < r → y.values a ≡ address
      → entries_begin address size < 2 ^ 64 → HasWords (flat.Stands u place y xs)
      → HasAt (body_of (function_in c.layout.program u)) place
      (bound_code c.layout.expansion.inline.operators size a r)
      → Finds (bound_code c.layout.expansion.inline.operators size a r) place r (entries_begin address size) 12 y
  bound_computed r a size address place y less is small words has =
      let constants = o.constant r (whole_words size) (r + 1) in
      let sum = Operate Add r r (Register a) ∷ [] in
      let made = constant_found place r (whole_words size) (r + 1) y (omega arith) (omega arith) words
      (has_front body place constants sum has) in
      let q = place + length constants in
      let there = has_back body place constants sum has in
      let total = reg_result Add (made.after r) (made.after a) in
      let two = set_on place q (q + 1) y made.after (put made.after r total) 10 2 made.comes
      (operate_comes m p u q (record y { values = made.after; work = y.work + made.comes.work }) xs Add r r (Register a)
      there.0) in
      let address_there : made.after a ≡ address = made.others a (omega arith) ∙ is in
      let number = made.gives in
      let counted = length-append constants sum in
      let at : q + 1 ≡ place + length (constants ++ sum) = omega (arith, counted) in
      let total_is : total ≡ entries_begin address size =
      register_sum (made.after r) (made.after a) (omega (arith, address_there, number))
      ∙ omega (arith, address_there, number) in
      record {
        after = put made.after r total;
        comes = subst (λ z. Sets place y z (put made.after r total) 12) at two;
        gives = put_same made.after r total
            ∙ total_is;
        others = λ z lt. put_other made.after r total z (λ e. omega arith) ∙ made.others z (omega arith);
      }

  -- both, and the first argument of a call
  pub record BeginsArea (list : List FlatInstruction) (place free address size : ℕ) (y : flat.State) : Type 0 where
    pub after : flat.Values
    pub comes : Sets place y (place + length list) after 28
    pub address_is : after free ≡ address
    pub ends : after (free + 1) ≡ entries_begin address size
    pub first : after (free + 2) ≡ address
    pub others : (r : ℕ) → r < free → after r ≡ y.values r

  pub area_begins : (code : CodeFunction) → HasAreas c.layout.expansion.code code → (charge : ℕ)
      → charge ≡ charged c.layout.program u xs → code.room ≤ charge → charge ≤ (map_of c).budgets.calls
      → (free size d place : ℕ) (y : flat.State) → size ≤ greatest_structure c.layout.expansion.code code.code d
      → HasWords (flat.Stands u place y xs)
      → HasAt (body_of (function_in c.layout.program u)) place (begin_area_code c.layout.expansion.inline.operators
      (map_of c) c.layout.expansion.code code size d free)
      → BeginsArea (begin_area_code c.layout.expansion.inline.operators (map_of c) c.layout.expansion.code code size d
      free) place free (area_of (map_of c) c.layout.expansion.code code charge d) size y
  area_begins code have charge charge_is inside fits free size d place y less words has =
      let A = area_of m t code charge d in
      let one = area_code o m t code d free in
      let two = bound_code o size free (free + 1) in
      let three = Move (free + 2) free ∷ [] in
      let end = calls_end m in
      let cell = cell_place m right.mapped in
      let behind = cell.behind in let small = cell.small in
      let last = area_last m t code charge d have inside in
      let within = area_within size (greatest_structure t code.code d) (greatest_whole t code.code d) less in
      let f = area_computed code have charge charge_is inside fits free d place y words
      (has_front body place one (two ++ three) has) in
      let has1 = has_back body place one (two ++ three) has in
      let q1 = place + length one in
      let y1 : flat.State = record y { values = f.after; work = y.work + f.comes.work } in
      let e = bound_computed (free + 1) free size A q1 y1 (omega arith) f.gives (omega arith)
      (set_words place q1 y f.after 14 words f.comes) (has_front body q1 two three has1) in
      let q2 = q1 + length two in
      let both = set_on place q1 q2 y f.after e.after 14 12 f.comes e.comes in
      let has2 = has_back body q1 two three has1 in
      let values = put e.after (free + 2) (e.after free) in
      let all = set_on place q2 (q2 + 1) y e.after values 26 2 both
      (move_comes m p u q2 (record y { values = e.after; work = y.work + both.work }) xs (free + 2) free has2.0) in
      let address = e.others free (omega arith) ∙ f.gives in
      let long = length-append one (two ++ three) in
      let rest = length-append two three in
      let stop : q2 + 1 ≡ place + length (one ++ (two ++ three)) = omega (arith, long, rest) in
      record {
        after = values;
        comes = subst (λ z. Sets place y z values 28) stop all;
        address_is = put_other e.after (free + 2) (e.after free) free (λ r. omega arith) ∙ address;
        ends = put_other e.after (free + 2) (e.after free) (free + 1) (λ r. omega arith) ∙ e.gives;
        first = put_same e.after (free + 2) (e.after free) ∙ address;
        others = λ z lt. put_other e.after (free + 2) (e.after free) z (λ r. omega arith)
            ∙ e.others z (omega arith) ∙ f.others z lt;
      }

  -- ---- the part that a callee leaves

  pub record HasCalleePart (list : List FlatInstruction) (place register size charge : ℕ) (y : flat.State) : Type 0
    where
      pub after : flat.Values
      pub comes : Sets place y (place + length list) after 32
      pub part : HoldsPart (held_from register) size 0 (region_start (map_of c) StructureValues + charge) after
      pub others : (r : ℕ) → r < register → after r ≡ y.values r

  pub callee_part_found : (charge : ℕ) → charge ≡ charged c.layout.program u xs → charge ≤ (map_of c).budgets.calls
      → (r size place : ℕ) (y : flat.State) → whole_words size ≤ (map_of c).budgets.calls
      → HasWords (flat.Stands u place y xs)
      → HasAt (body_of (function_in c.layout.program u)) place
      (callee_part_code c.layout.expansion.inline.operators (map_of c) size r)
      → HasCalleePart (callee_part_code c.layout.expansion.inline.operators (map_of c) size r) place r size charge y
  callee_part_found charge charge_is fits r size place y small words has =
      let start = region_start m StructureValues in
      let A = start + charge in
      let low = spaces_low m right.mapped in
      let end = calls_end m in
      let cell = cell_place m right.mapped in
      let behind = cell.behind in let less = cell.small in
      let greatest = right.mapped.budgets.calls.greatest in
      let high = spaces_high m right.mapped in
      let constants = o.constant (r + 1) start (r + 2) in
      let bound = bound_code o size r (r + 2) in
      let zeros = Constant (r + 3) 0 ∷ Constant (r + 4) 0 ∷ [] in
      let tail = Move (r + 1) r ∷ (bound ++ zeros) in
      let sum = Operate Add r r (Register (r + 1)) ∷ tail in
      let first = charged_comes m p u place y xs r has.0 in
      let charge_values = put y.values r (wrap (charged p u xs)) in
      let y1 : flat.State = record y { values = charge_values; work = y.work + first.work } in
      let made = constant_found (place + 1) (r + 1) start (r + 2) y1 (omega arith) (omega arith)
      (set_words place (place + 1) y charge_values 2 words first)
      (has_front body (place + 1) constants sum has.1) in
      let q = place + 1 + length constants in
      let two = set_on place (place + 1) q y charge_values made.after 2 10 first made.comes in
      let there = has_back body (place + 1) constants sum has.1 in
      let total = reg_result Add (made.after r) (made.after (r + 1)) in
      let summed = put made.after r total in
      let three = set_on place q (q + 1) y made.after summed 12 2 two
      (operate_comes m p u q (record y { values = made.after; work = y.work + two.work }) xs Add r r (Register (r + 1))
      there.0) in
      let charge_there : made.after r ≡ charge =
      made.others r (omega arith) ∙ put_same y.values r (wrap (charged p u xs)) ∙ omega (arith, charge_is) in
      let number = made.gives in
      let total_is : total ≡ A =
      register_sum (made.after r) (made.after (r + 1)) (omega (arith, charge_there, number))
      ∙ omega (arith, charge_there, number) in
      let moved = put summed (r + 1) (summed r) in
      let four = set_on place (q + 1) (q + 1 + 1) y summed moved 14 2 three
      (move_comes m p u (q + 1) (record y { values = summed; work = y.work + three.work }) xs (r + 1) r there.1.0) in
      let part_is : moved r ≡ A =
      put_other summed (r + 1) (summed r) r (λ e. omega arith) ∙ put_same made.after r total ∙ total_is in
      let base_is : moved (r + 1) ≡ A =
      put_same summed (r + 1) (summed r) ∙ put_same made.after r total ∙ total_is in
      let has4 = there.1.1 in
      let y4 : flat.State = record y { values = moved; work = y.work + four.work } in
      let e = bound_computed (r + 2) r size A (q + 1 + 1) y4 (omega arith) part_is (omega arith)
      (set_words place (q + 1 + 1) y moved 16 words four) (has_front body (q + 1 + 1) bound zeros has4) in
      let q5 = q + 1 + 1 + length bound in
      let five = set_on place (q + 1 + 1) q5 y moved e.after 16 12 four e.comes in
      let y5 : flat.State = record y { values = e.after; work = y.work + five.work } in
      let six = set_on place q5 (q5 + 2) y e.after (assigned zeros e.after) 28 4 five
      (assigns m p u xs zeros refl q5 y5 (has_back body (q + 1 + 1) bound zeros has4)) in
      let one = put e.after (r + 3) 0 in
      let keeps = λ (z : ℕ) (lt : z < r + 3). put_other one (r + 4) 0 z (λ w. omega arith)
      ∙ put_other e.after (r + 3) 0 z (λ w. omega arith) in
      let long = length-append constants sum in
      let rest = length-append bound zeros in
      let stop : q5 + 2 ≡ place + suc (length (constants ++ sum)) = omega (arith, long, rest) in
      record {
        after = assigned zeros e.after;
        comes = subst (λ z. Sets place y z (assigned zeros e.after) 32) stop six;
        part = record {
          part = keeps r (omega arith) ∙ e.others r (omega arith) ∙ part_is ∙ omega arith;
          base = keeps (r + 1) (omega arith) ∙ e.others (r + 1) (omega arith) ∙ base_is;
          bound = keeps (r + 2) (omega arith) ∙ e.gives;
          no_lock = put_same one (r + 4) 0;
        };
        others = λ z lt. keeps z (omega arith) ∙ e.others z (omega arith)
            ∙ put_other summed (r + 1) (summed r) z (λ w. omega arith)
            ∙ put_other made.after r total z (λ w. omega arith) ∙ made.others z (omega arith)
            ∙ put_other y.values r (wrap (charged p u xs)) z (λ w. omega arith);
      }

  -- ---- before a call that gives a structure

  pub record AwaitsPart (list : List FlatInstruction) (place free address size charge : ℕ) (y : flat.State) : Type 0
    where
      pub after : flat.Values
      pub comes : Sets place y (place + length list) after 70
      pub own : after free ≡ address
      pub ends : after (free + 1) ≡ entries_begin address size
      pub first : after (free + 2) ≡ address
      pub size_is : after (free + 3) ≡ size
      pub part : HoldsPart (held_from (free + 4)) size 0 (region_start (map_of c) StructureValues + charge) after
      pub others : (r : ℕ) → r < free → after r ≡ y.values r

  pub awaited : (code : CodeFunction) → HasAreas c.layout.expansion.code code → (charge : ℕ)
      → charge ≡ charged c.layout.program u xs → code.room ≤ charge → charge ≤ (map_of c).budgets.calls
      → (free size d place : ℕ) (y : flat.State) → size ≤ greatest_structure c.layout.expansion.code code.code d
      → HasWords (flat.Stands u place y xs)
      → HasAt (body_of (function_in c.layout.program u)) place (await_code c.layout.expansion.inline.operators (map_of c)
      c.layout.expansion.code code size d free)
      → AwaitsPart (await_code c.layout.expansion.inline.operators (map_of c) c.layout.expansion.code code size d free)
      place free (area_of (map_of c) c.layout.expansion.code code charge d) size charge y
  awaited code have charge charge_is inside fits free size d place y less words has =
      let one = begin_area_code o m t code size d free in
      let two = o.constant (free + 3) size (free + 4) in
      let three = callee_part_code o m size (free + 4) in
      let fit = have.fit (suc d) in
      let greatest = right.mapped.budgets.calls.greatest in
      let f = area_begins code have charge charge_is inside fits free size d place y less words
      (has_front body place one (two ++ three) has) in
      let has1 = has_back body place one (two ++ three) has in
      let q1 = place + length one in
      let e = constant_found q1 (free + 3) size (free + 4) (record y { values = f.after; work = y.work + f.comes.work })
      (omega arith) (omega arith) (set_words place q1 y f.after 28 words f.comes) (has_front body q1 two three has1) in
      let q2 = q1 + length two in
      let both = set_on place q1 q2 y f.after e.after 28 10 f.comes e.comes in
      let within = area_within size (greatest_structure t code.code d) (greatest_whole t code.code d) less in
      let g = callee_part_found charge charge_is fits (free + 4) size q2
      (record y { values = e.after; work = y.work + both.work }) (omega arith)
      (set_words place q2 y e.after 38 words both) (has_back body q1 two three has1) in
      let all = set_on place q2 (q2 + length three) y e.after g.after 38 32 both g.comes in
      let long = length-append one (two ++ three) in
      let rest = length-append two three in
      let stop : q2 + length three ≡ place + length (one ++ (two ++ three)) = omega (arith, long, rest) in
      let keeps = λ (z : ℕ) (lt : z < free + 3). g.others z (omega arith) ∙ e.others z lt in
      record {
        after = g.after;
        comes = subst (λ z. Sets place y z g.after 70) stop all;
        own = keeps free (omega arith) ∙ f.address_is;
        ends = keeps (free + 1) (omega arith) ∙ f.ends;
        first = keeps (free + 2) (omega arith) ∙ f.first;
        size_is = g.others (free + 3) (omega arith) ∙ e.gives;
        part = g.part;
        others = λ z lt. keeps z (omega arith) ∙ f.others z lt;
      }
