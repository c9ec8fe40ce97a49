-- Pointers that are narrowed: to a member of what they point to, or of a value without contents.
use Rattle.std.proofs.Common.{◌≡◌, ◌≢◌, ◌⊎◌, inl, inr, ℕ, ◌+◌, ◌*◌, ◌%◌, ◌^◌, ◌<◌, ◌≤◌, Bool, true, false, List, []}
use Rattle.std.proofs.Common.{◌∷◌, ◌++◌, length, length-append, Some, refl, sym, ap, ap₂, ◌∙◌, subst, arith}
use Rattle.std.proofs.Common.{mod-eq_of_lt}
use Rattle.std.specs.Prelude.{slice_get, ◌&&◌, ◌||◌, if◌then◌else◌}
use Rattle.std.proofs.lemmas.Bool.{and_parts, eq-eqb, ltb-true}
use Rattle.addr_map.specs.Places.{MapSizes}
use Rattle.obj_memory.specs.declared.value.Value.{Value}
use Rattle.obj_memory.specs.Judgement.{narrowed}
use Rattle.obj_memory.proofs.Judging.{sound_narrowed}
use Rattle.source_meaning.specs.State.{State}
use Rattle.source_meaning.specs.Structures.{rvalue}
use Rattle.tac_ir.specs.declared.instruction.Instruction.{Instruction}
use Rattle.tac_ir.specs.declared.instruction.Instruction.TheVariants as tac
use Rattle.tac_ir.specs.Edges.{LeadsTo}
use Rattle.tac_ir.specs.Stage.{Temps, with_temp, Frame, Stage, Stands}
use Rattle.tac_ir.specs.Costs.{spent}
use Rattle.tac_ir.specs.Meaning.{effect}
use Rattle.rv_isa.specs.declared.instruction.RegOp.TheVariants.{Add}
use Rattle.rv_isa.specs.Results.{reg_result}
use Rattle.flat_code.specs.declared.instruction.RightOperand.{RightOperand}
use Rattle.flat_code.specs.declared.instruction.RightOperand.TheVariants.{Register, Number}
use Rattle.flat_code.specs.declared.instruction.FlatInstruction.{FlatInstruction}
use Rattle.flat_code.specs.declared.instruction.FlatInstruction.TheVariants as flat_code
use Rattle.flat_code.specs.declared.function.FlatProgram.{FlatProgram}
use Rattle.flat_code.specs.Memory.{Bytes, put}
use Rattle.flat_code.specs.State as flat
use Rattle.flat_code.specs.Calls.{function_in, charged}
use Rattle.flat_code.specs.Meaning.{body_of, right_value, weight_of, is_runtime_function}
use Rattle.flat_code.specs.Words.{HasWords}
use Rattle.flat_code.proofs.Stored.{put_same, put_other}
use Rattle.flat_operators.proofs.Values.{sum_by}
use Rattle.flat_code.specs.Routines.Objects.StandsFor.{Spells}
use Rattle.flat_code.specs.Routines.Routine.{HasAt}
use Rattle.flat_code.proofs.Routines.Steps.{has_front, has_back}
use Rattle.flat_actions.specs.Judgement.Testing.{IsToTest}
use Rattle.flat_actions.specs.Narrowing.{IsOther, CanNarrow, HasNarrowed}
use Rattle.runtime_functions.specs.Library.{held_from}
use Rattle.metadata_plan.specs.Registers.{most_temporaries}
use Rattle.metadata_plan.specs.Entries.{given, entry_source}
use Rattle.metadata_plan.specs.Expanded.{Leads}
use Rattle.metadata_plan.specs.Operators.{OperatorCode, AreOperators}
use Rattle.metadata_plan.proofs.Constants.{any_constant, constant_most, few_constant, most_constant}
use Rattle.metadata_plan.proofs.Flat.{one, weight_small, Comes, then_comes}
use Rattle.metadata_relation.specs.Registers.{temporary_register, first_free}
use Rattle.metadata_relation.specs.Blocks.{is_short, number_code, number_operand, narrow_code, move_value}
use Rattle.metadata_relation.specs.Holding.{IsHeldAt}
use Rattle.metadata_relation.specs.Stages.{factor, Compiled, map_of, views, world, expansion_of, IsAt}
use Rattle.metadata_relation.specs.Steps.{IsCompiled, is_few}
use Rattle.metadata_relation.proofs.Altering.{alters, then_altered}
use Rattle.metadata_relation.proofs.Assigning.{assigned, moved, not_into}
use Rattle.metadata_relation.proofs.Giving.{gives_value}
use Rattle.metadata_relation.proofs.Holding.{entry_stays}
use Rattle.metadata_relation.proofs.Moving.{held_of, temporary_apart}
use Rattle.metadata_relation.proofs.Parts.{SoFar, moment, at_first, stands_here, then_computed, then_assigned}
use Rattle.metadata_relation.proofs.Registers.{temporary_free, temporaries_apart}
use Rattle.metadata_relation.proofs.Standing.{IsNode, node, leads_on, Result}

-- ---- numbers as operands

-- a long number is made first
abbrev pub number_most : (number : ℕ) → ℕ
number_most n = if is_short n then 0 else constant_most n * 2

pub short_number : (n : ℕ) → is_short n ≡ true → number_most n ≡ 0
short_number n e = ap (λ b. if b then 0 else constant_most n * 2) e

pub most_number : (n : ℕ) → number_most n ≤ 10
most_number n = let few = most_constant n in by (is_short n) (omega (arith, few))
  where
    by : (b : Bool) → constant_most n * 2 ≤ 10 → (if b then 0 else constant_most n * 2) ≤ 10
    by true most = omega arith
    by false most = most

pub few_number : (n : ℕ) → n < 2 ^ 33 → number_most n ≤ 6
few_number n low = let few = few_constant n low in by (is_short n) (omega (arith, few))
  where
    by : (b : Bool) → constant_most n * 2 ≤ 6 → (if b then 0 else constant_most n * 2) ≤ 6
    by true most = omega arith
    by false most = most

module _ (o : OperatorCode) (ops : AreOperators o) (m : MapSizes) (p : FlatProgram) (u pc : ℕ) (v : flat.State)
    (xs : List flat.Frame) (words : HasWords (flat.Stands u pc v xs)) where
  -- the number is an operand
  pub record NumberMade (place most number register scratch : ℕ) (before : flat.Values) : Type 0 where
    pub values : flat.Values
    pub comes : SoFar m p u pc v xs words place values most
    pub operand : right_value (number_operand number register) values ≡ number
    pub others : (y : ℕ) → y < scratch → y ≢ register → values y ≡ before y

  pub number_made : (q : ℕ) (a : flat.Values) (k : ℕ) → SoFar m p u pc v xs words q a k
      → (n r s : ℕ) → n < 2 ^ 64 → r < s → HasAt (body_of (function_in p u)) q (number_code o n r s)
      → NumberMade (q + length (number_code o n r s)) (k + number_most n) n r s a
  number_made q a k K n r s fits low has =
      let t = by (is_short n) has in record { values = t.0; comes = t.1; operand = t.2; others = t.3 }
    where
      by : (b : Bool)
          → HasAt (body_of (function_in p u)) q (if b then [] else o.constant r n s)
          → (values : flat.Values)
          × SoFar m p u pc v xs words (q + length (if b then [] else o.constant r n s)) values
          (k + (if b then 0 else constant_most n * 2))
          × (right_value (if b then Number n else Register r) values ≡ n)
          × ((y : ℕ) → y < s → y ≢ r → values y ≡ a y)
      by true has = (
        a,
        (let e : q ≡ q + 0 = omega arith in
            let f : k ≡ k + 0 = omega arith in
            subst (λ z. SoFar m p u pc v xs words (q + 0) a z) f (subst (λ z. SoFar m p u pc v xs words z a k) e K)),
        mod-eq_of_lt fits,
        λ y lt ne. refl,
      )
      by false has =
          let list = o.constant r n s in
          let c = any_constant o ops m p (moment m p u pc v xs words q a k K) r n s low fits
          (stands_here m p u pc v xs words q a k K list has) in (
            c.after,
            then_computed m p u pc v xs words q a k K (q + length list) r n s (constant_most n) c,
            c.gives,
            λ y lt ne. c.others y lt ne,
          )

  -- a sum goes to a register
  pub then_added : (q : ℕ) (a : flat.Values) (k : ℕ) → SoFar m p u pc v xs words q a k → (x y : ℕ) (z : RightOperand)
      → slice_get (body_of (function_in p u)) q ≡ Some (flat_code.Operate Add x y z)
      → SoFar m p u pc v xs words (q + 1) (put a x (reg_result Add (a y) (right_value z a))) (k + 2)
  then_added q a k K x y z at =
      let from : flat.State = record v { values = a; work = v.work + K.work } in
      let next : Comes m p u q from xs (q + 1)
      (record from { values = put a x (reg_result Add (a y) (right_value z a)) }) 2 = record {
        steps = 1;
        work = weight_of (function_in p u);
        few = weight_small (function_in p u);
        comes = one m p u q from xs (flat_code.Operate Add x y z) at;
      } in
      let all = then_comes m p u pc v xs q (q + 1) (record v { values = a })
      (record from { values = put a x (reg_result Add (a y) (right_value z a)) }) k 2 K next in
      record { steps = all.steps; work = all.work; few = all.few; comes = all.comes }

-- the operand stays where its register does
pub operand_kept : (n r : ℕ) (a b : flat.Values) → b r ≡ a r
    → right_value (number_operand n r) b ≡ right_value (number_operand n r) a
operand_kept n r a b same = by (is_short n)
  where
    by : (short : Bool) → right_value (if short then Number n else Register r) b
        ≡ right_value (if short then Number n else Register r) a
    by true = refl
    by false = same

-- operands in the first two scratch registers are others than a pointer's
pub can_narrow : (r s offset size : ℕ) → r + 5 ≤ s
    → CanNarrow (held_from r) (number_operand offset s) (number_operand size (s + 1)) (s + 2)
can_narrow r s offset size low = record {
  below = (omega arith, (omega arith, (omega arith, (omega arith, (omega arith, tt)))));
  apart = (
    (λ e. omega arith, (λ e. omega arith, (λ e. omega arith, (λ e. omega arith, tt)))),
    (
      (λ e. omega arith, (λ e. omega arith, (λ e. omega arith, tt))),
      ((λ e. omega arith, (λ e. omega arith, tt)), ((λ e. omega arith, tt), (tt, tt))),
    ),
  );
  offset_is_other = other s offset (omega arith) (omega arith);
  size_is_other = other (s + 1) size (omega arith) (omega arith);
}
  where
    other : (x n : ℕ) → x < s + 2 → r + 5 ≤ x → IsOther (held_from r) (s + 2) (number_operand n x)
    other x n below above = by (is_short n)
      where
        by : (short : Bool) → IsOther (held_from r) (s + 2) (if short then Number n else Register x)
        by true = tt
        by false = (below, (λ e. omega (arith, above), (λ e. omega (arith, above), (λ e. omega (arith, above), tt))))

pub narrowed_word : (offset size : ℕ) (v : Value) → (narrowed offset size v).word ≡ (v.word + offset) % 2 ^ 64
unfolding narrowed
narrowed_word offset size v = refl

-- ---- the step

module _ (c : Compiled) (IsGood : Bytes → Type 0) (right : IsCompiled c IsGood) (u n : ℕ) (temps : Temps)
    (ws : List Frame) (s : State) (v : flat.State) (xs : List flat.Frame)
    (h : IsAt c IsGood u n temps ws s u (c.layout.address u n) v xs)
    (words : HasWords (flat.Stands u (c.layout.address u n) v xs)) where
  abbrev pc : ℕ
  pc = c.layout.address u n

  abbrev T : (temporary : ℕ) → ℕ
  T i = temporary_register h.code i

  abbrev free : ℕ
  free = first_free h.code

  abbrev o : OperatorCode
  o = c.layout.expansion.inline.operators

  abbrev ops : AreOperators c.layout.expansion.inline.operators
  ops = right.inline.operators

  abbrev Gives : Stage → Type 0
  Gives a = Result c IsGood a (flat.Stands u (c.layout.address u n) v xs)

  abbrev body : List FlatInstruction
  body = body_of (function_in c.layout.program u)

  abbrev map : MapSizes
  map = map_of c

  abbrev p : FlatProgram
  p = c.layout.program

  abbrev Far : (place : ℕ) (values : flat.Values) (most : ℕ) → Type 0
  Far place values most = SoFar (map_of c) c.layout.program u (c.layout.address u n) v xs words place values most

  -- the operands of the list are numbers that fit, and are made within what narrowing leaves of its cost
  module _ (i : Instruction) (k : IsNode c u n h.code i) (offset size d a next : ℕ) (gives : given i ≡ Some d)
      (source : entry_source i ≡ Some a) (leads : LeadsTo i next) (low : d < most_temporaries h.code.code)
      (from : a < most_temporaries h.code.code)
      (held : IsHeldAt (world c h.keys s v) (c.layout.expansion.entries u n a) (temps a).value
      (temporary_register h.code a) v.values)
      (offset_fits : offset < 2 ^ 64) (size_fits : size < 2 ^ 64) (few : number_most offset + number_most size ≤ 14)
    where
      abbrev value : Value
      value = narrowed offset size (temps a).value

      abbrev Finish : (b : Bool) → Type 0
      Finish b = (values : flat.Values) (most : ℕ)
          → IsHeldAt (world c h.keys s v) b (narrowed offset size (temps a).value) (temporary_register h.code d) values
          → ((y : ℕ) → y < first_free h.code → (y < temporary_register h.code d)
          ⊎ (temporary_register h.code d + 5 ≤ y) → values y ≡ v.values y)
          → Far (c.layout.address u next) values most → most + factor * s.work ≤ factor * (s.work + 2)
          → Gives (Stands u next (with_temp temps d (rvalue (narrowed offset size (temps a).value))) ws (spent 2 s))

      d_room : temporary_register h.code d + 5 ≤ first_free h.code
      d_room = temporary_free h.code d low

      a_room : temporary_register h.code a + 5 ≤ first_free h.code
      a_room = temporary_free h.code a from

      -- of the word alone
      moves_on : HasAt body pc (narrow_code c.layout.expansion.inline false offset size (T d) (T a) free)
          → Leads body (pc + length (narrow_code c.layout.expansion.inline false offset size (T d) (T a) free))
          (c.layout.address u next) → Finish false
          → Gives (Stands u next (with_temp temps d (rvalue (narrowed offset size (temps a).value))) ws (spent 2 s))
      moves_on has on finish =
          let list = number_code o offset free (free + 1) in
          let sum = flat_code.Operate Add (T d) (T a) (number_operand offset free) ∷ [] in
          let q = pc + length list in
          let made = number_made o ops map p u pc v xs words pc v.values 0 (at_first map p u pc v xs words) offset free
          (free + 1) offset_fits (omega arith) (has_front body pc list sum has) in
          let k1 = 0 + number_most offset in
          let at = has_back body pc list sum has in
          let K = then_added o ops map p u pc v xs words q made.values k1 made.comes (T d) (T a)
          (number_operand offset free) at.0 in
          let w = reg_result Add (made.values (T a)) (right_value (number_operand offset free) made.values) in
          let address : made.values (T a) ≡ (temps a).value.word =
          made.others (T a) (omega (arith, a_room)) (λ e. omega (arith, a_room)) ∙ held.word in
          let word : w ≡ (narrowed offset size (temps a).value).word =
          ap₂ (reg_result Add) address made.operand ∙ sum_by (temps a).value.word offset
          ∙ sym (narrowed_word offset size (temps a).value) in
          let end : pc + length (list ++ sum) ≡ q + 1 = omega (arith, length-append list sum) in
          let most = most_number offset in
          finish (put made.values (T d) w) (k1 + 2 + 2)
          (record {
            word = put_same made.values (T d) w ∙ word;
            entry = λ e. cc;
            sound = sound_narrowed (views c).functions s.objects offset size (temps a).value held.sound;
          })
          (λ y lt out. put_other made.values (T d) w y (not_into y (T d) out)
          ∙ made.others y (omega arith) (λ e. omega arith))
          (leads_on c IsGood right u n temps ws s v xs h (q + 1) (c.layout.address u next)
          (record v { values = put made.values (T d) w }) (k1 + 2) K
          (subst (λ z. Leads body z (c.layout.address u next)) end on))
          (omega (arith, most))

      -- with the entry, in place
      narrows : c.layout.expansion.entries u n a ≡ true
          → HasAt body pc (narrow_code c.layout.expansion.inline true offset size (T d) (T a) free)
          → Leads body (pc + length (narrow_code c.layout.expansion.inline true offset size (T d) (T a) free))
          (c.layout.address u next) → Finish true
          → Gives (Stands u next (with_temp temps d (rvalue (narrowed offset size (temps a).value))) ws (spent 2 s))
      narrows with_entry has on finish =
          let moves = move_value true (T d) (T a) in
          let first = number_code o offset free (free + 2) in
          let second = number_code o size (free + 1) (free + 2) in
          let list = c.layout.expansion.inline.narrow (held_from (T d)) (number_operand offset free)
          (number_operand size (free + 1)) (free + 2) in
          let q1 = pc + length moves in
          let q2 = q1 + length first in
          let q3 = q2 + length second in
          let q4 = q3 + length list in
          let rest1 = has_back body pc moves (first ++ (second ++ list)) has in
          let rest2 = has_back body q1 first (second ++ list) rest1 in
          let rest3 = has_back body q2 second list rest2 in
          let K1 = then_assigned map p u pc v xs words pc v.values 0 (at_first map p u pc v xs words) moves refl
          (has_front body pc moves (first ++ (second ++ list)) has) in
          let a1 = assigned moves v.values in
          let z = moved (T d) (T a) v.values
          (temporary_apart d a (T d) (T a) (λ ne. temporaries_apart h.code d a ne)
          (λ e. ap (λ y. temporary_register h.code y) e)) in
          let k1 = 0 + 2 * length moves in
          let m1 = number_made o ops map p u pc v xs words q1 a1 k1 K1 offset free (free + 2) offset_fits (omega arith)
          (has_front body q1 first (second ++ list) rest1) in
          let k2 = k1 + number_most offset in
          let m2 = number_made o ops map p u pc v xs words q2 m1.values k2 m1.comes size (free + 1) (free + 2) size_fits
          (omega arith) (has_front body q2 second list rest2) in
          let k3 = k2 + number_most size in
          let kept : (y : ℕ) → y < free → m2.values y ≡ a1 y = λ y lt.
          m2.others y (omega arith) (λ e. omega arith) ∙ m1.others y (omega arith) (λ e. omega arith) in
          let spells = held.entry with_entry in
          let there : Spells (views c) h.keys (temps a).value (held_from (T d)) m2.values = record {
            word = kept (T d) (omega (arith, d_room)) ∙ z.value ∙ spells.word;
            tag = entry_stays (T d) a1 m2.values (λ j lt. kept (T d + j) (omega (arith, d_room))) ∙ z.entry ∙ spells.tag;
          } in
          let can = can_narrow (T d) free offset size d_room in
          let r = alters map p (moment map p u pc v xs words q3 m2.values k3 m2.comes) list 8
          (λ y. IsToTest (views c) h.keys s.objects (temps a).value (held_from (T d)) y
          × (right_value (number_operand offset free) y.values ≡ offset)
          × (right_value (number_operand size (free + 1)) y.values ≡ size))
          (HasNarrowed (views c) h.keys (narrowed offset size (temps a).value) (held_from (T d)) (free + 2))
          (right.inline.computes.narrow (held_from (T d)) (number_operand offset free) (number_operand size (free + 1))
          (free + 2))
          (right.inline.narrow (held_from (T d)) (number_operand offset free) (number_operand size (free + 1)) (free + 2)
          can (views c) h.keys s.objects (temps a).value offset size (is_runtime_function (function_in p u))
          (charged p u xs) (weight_of (function_in p u)) right.mapped)
          (λ y y' q. (q.memory, q.shows)) (
            record { stands = h.stands.for.objects; sound = held.sound; spells = there },
            operand_kept offset free m1.values m2.values (m2.others free (omega arith) (λ e. omega arith)) ∙ m1.operand,
            m2.operand,
          )
          (stands_here map p u pc v xs words q3 m2.values k3 m2.comes list rest3) in
          let K4 = then_altered map p u pc v xs words q3 m2.values k3 m2.comes q4 8
          (HasNarrowed (views c) h.keys (narrowed offset size (temps a).value) (held_from (T d)) (free + 2)
          (moment map p u pc v xs words q3 m2.values k3 m2.comes).state) r in
          let end : pc + length (moves ++ (first ++ (second ++ list))) ≡ q4 = omega (
            arith,
            length-append moves (first ++ (second ++ list)),
            length-append first (second ++ list),
            length-append second list,
          ) in
          finish r.after (k3 + 8 * 2 + 2)
          (record {
            word = r.holds.spells.word;
            entry = λ e. r.holds.spells;
            sound = sound_narrowed (views c).functions s.objects offset size (temps a).value held.sound;
          })
          (λ y lt out. r.holds.others y (omega arith) (
            not_into y (T d) out,
            (away y 1 out (omega arith), (away y 2 out (omega arith), tt)),
          )
          ∙ kept y lt ∙ z.others y out)
          (leads_on c IsGood right u n temps ws s v xs h q4 (c.layout.address u next) (record v { values = r.after })
          (k3 + 8 * 2) K4 (subst (λ z. Leads body z (c.layout.address u next)) end on))
          (omega (arith, few))
        where
          away : (y j : ℕ) → (y < temporary_register h.code d) ⊎ (temporary_register h.code d + 5 ≤ y) → j < 5
              → y ≢ temporary_register h.code d + j
          away y j (inl below) few e = absurd (omega arith)
          away y j (inr above) few e = absurd (omega arith)

      pub gives_narrowed : HasAt body pc (narrow_code c.layout.expansion.inline (c.layout.expansion.entries u next d) offset
          size (T d) (T a) free)
          → Leads body (pc + length (narrow_code c.layout.expansion.inline (c.layout.expansion.entries u next d) offset
          size (T d) (T a) free)) (c.layout.address u next)
          → Gives (Stands u next (with_temp temps d (rvalue (narrowed offset size (temps a).value))) ws (spent 2 s))
      gives_narrowed has on =
          by (c.layout.expansion.entries u next d) (λ e. k.closed.made n next d a i k.at leads gives source e) has on
          (λ values most is others comes le. gives_value c IsGood right u n temps ws s v xs h i k d next
          (narrowed offset size (temps a).value) values most (s.work + 2) gives leads low comes others is le)
        where
          by : (b : Bool) → (b ≡ true → c.layout.expansion.entries u n a ≡ true)
              → HasAt (body_of (function_in c.layout.program u)) (c.layout.address u n)
              (narrow_code c.layout.expansion.inline b offset size (temporary_register h.code d)
              (temporary_register h.code a) (first_free h.code))
              → Leads (body_of (function_in c.layout.program u)) (c.layout.address u n
              + length (narrow_code c.layout.expansion.inline b offset size (temporary_register h.code d)
              (temporary_register h.code a) (first_free h.code))) (c.layout.address u next)
              → Finish b
              → Gives (Stands u next (with_temp temps d (rvalue (narrowed offset size (temps a).value))) ws (spent 2 s))
          by false more has on finish = moves_on has on finish
          by true more has on finish = narrows (more refl) has on finish

  -- at most one of the numbers is long, or both have few bits
  pub few_numbers : (offset size : ℕ)
      → ((is_short offset || is_short size) || (is_few offset && is_few size)) ≡ true
      → number_most offset + number_most size ≤ 14
  few_numbers offset size e = by (is_short offset) (is_short size) refl refl e
    where
      by : (a b : Bool) → is_short offset ≡ a → is_short size ≡ b → ((a || b) || (is_few offset && is_few size)) ≡ true
          → number_most offset + number_most size ≤ 14
      by true b short other e = omega (arith, short_number offset short, most_number size)
      by false true long short e = omega (arith, short_number size short, most_number offset)
      by false false long longer e =
          let p = and_parts (is_few offset) (is_few size) e in
          let first = few_number offset (ltb-true offset (2 ^ 33) p.0) in
          let second = few_number size (ltb-true size (2 ^ 33) p.1) in
          omega (arith, first, second)

  pub narrow_step : (offset size d a next : ℕ) → offset < 2 ^ 64 → size < 2 ^ 64
      → ((is_short offset || is_short size) || (is_few offset && is_few size)) ≡ true
      → slice_get h.code.code n ≡ Some (tac.Narrow offset size d a next)
      → Gives (effect c.setting (expansion_of c).code (tac.Narrow offset size d a next) u temps ws (spent 2 s))
  narrow_step offset size d a next offset_fits size_fits few at =
      let i = tac.Narrow offset size d a next in
      let k = node c IsGood right u n temps ws s v xs h i at in
      let low : d < most_temporaries h.code.code = omega (arith, k.temporaries_low) in
      let from : a < most_temporaries h.code.code = omega (arith, k.temporaries_low) in
      let t = h.holds.temporaries a from refl in
      let none = k.kept.words n a i k.at (eq-eqb a a refl) in
      gives_narrowed i k offset size d a next refl refl (inl refl) low from
      (held_of (world c h.keys s v) (c.layout.expansion.entries u n a) (temps a) _ _ (T a) v.values
      (record { by = t.by; none = λ e. t.none none }))
      offset_fits size_fits (few_numbers offset size few) k.put.has k.put.leads
