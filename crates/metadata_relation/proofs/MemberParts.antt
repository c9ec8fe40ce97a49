-- Members of places and of contents (C99 6.5.2.3): of a structure that is no lvalue the part goes on in place.
use Rattle.std.proofs.Common.{◌≡◌, ◌⊎◌, inl, ℕ, ◌+◌, ◌*◌, ◌%◌, ◌^◌, ◌<◌, ◌≤◌, Bool, true, false, List, []}
use Rattle.std.proofs.Common.{◌∷◌, ◌++◌, length, length-append, Some, refl, sym, ap, ◌∙◌, subst, arith}
use Rattle.std.proofs.Common.{Option, None, true≢false}
use Rattle.std.specs.Prelude.{slice_get, ◌&&◌, ◌||◌}
use Rattle.std.proofs.lemmas.Bool.{eqb-true}
use Rattle.addr_map.specs.Places.{MapSizes}
use Rattle.obj_memory.proofs.Judging.{sound_narrowed}
use Rattle.obj_memory.specs.declared.value.Value.{Value}
use Rattle.obj_memory.specs.Judgement.{narrowed}
use Rattle.obj_memory.specs.Objects.{ObjectState}
use Rattle.source_meaning.specs.State.{Rvalue, State}
use Rattle.tac_ir.specs.declared.instruction.Instruction.{Instruction}
use Rattle.tac_ir.specs.declared.instruction.Instruction.TheVariants as tac
use Rattle.tac_ir.specs.Fitting.{is_in_place}
use Rattle.tac_ir.specs.Meaning.{effect}
use Rattle.tac_ir.specs.Edges.{LeadsTo}
use Rattle.tac_ir.specs.Stage.{Temps, with_temp, Frame, Stage, Stands}
use Rattle.tac_ir.specs.Structures.{greatest_structure}
use Rattle.tac_ir.specs.Costs.{spent}
use Rattle.rv_isa.specs.declared.instruction.RegOp.TheVariants.{Add}
use Rattle.rv_isa.specs.Results.{reg_result}
use Rattle.flat_code.specs.declared.instruction.FlatInstruction.{FlatInstruction}
use Rattle.flat_code.specs.declared.instruction.FlatInstruction.TheVariants as flat_code
use Rattle.flat_code.specs.declared.function.FlatProgram.{FlatProgram}
use Rattle.flat_code.specs.Memory.{Bytes, put}
use Rattle.flat_code.specs.State as flat
use Rattle.flat_code.specs.Calls.{function_in, charged}
use Rattle.flat_code.specs.Meaning.{body_of, right_value, weight_of, is_runtime_function}
use Rattle.flat_code.specs.Words.{HasWords}
use Rattle.flat_code.proofs.Stored.{put_same, put_other}
use Rattle.flat_operators.proofs.Values.{sum_by}
use Rattle.flat_code.specs.Routines.Routine.{HasAt}
use Rattle.flat_code.proofs.Routines.Steps.{has_front, has_back}
use Rattle.flat_actions.specs.Narrowing.{HasGoneOn}
use Rattle.runtime_functions.specs.Library.{held_from}
use Rattle.metadata_plan.specs.Registers.{most_temporaries}
use Rattle.metadata_plan.specs.Entries.{given, entry_source}
use Rattle.metadata_plan.specs.Expanded.{Leads}
use Rattle.metadata_plan.specs.Operators.{OperatorCode, AreOperators}
use Rattle.metadata_plan.proofs.Flat.{Comes}
use Rattle.metadata_relation.specs.Registers.{temporary_register, first_free}
use Rattle.metadata_relation.specs.Blocks.{is_short, number_code, number_operand, narrow_code, move_value}
use Rattle.metadata_relation.specs.Holding.{area_of, IsContentsAt, IsPartEntry, IsRvalueAt, IsTemporary}
use Rattle.metadata_relation.specs.Stages.{activation, expansion_of, factor, Compiled, map_of, names, views, world}
use Rattle.metadata_relation.specs.Stages.{IsAt}
use Rattle.metadata_relation.specs.Steps.{IsCompiled, is_few}
use Rattle.metadata_relation.proofs.Altering.{alters, then_altered}
use Rattle.metadata_relation.proofs.Assigning.{assigned, moved, not_into}
use Rattle.metadata_relation.proofs.Holding.{entry_stays, gives_temporary, same_world}
use Rattle.metadata_relation.proofs.Members.{can_narrow, narrowed_word, number_made, number_most, operand_kept}
use Rattle.metadata_relation.proofs.Members.{few_numbers, gives_narrowed, most_number, then_added}
use Rattle.metadata_relation.proofs.Moving.{temporary_apart}
use Rattle.metadata_relation.proofs.Parts.{SoFar, moment, at_first, stands_here, then_assigned}
use Rattle.metadata_relation.proofs.Registers.{temporary_free, temporaries_apart}
use Rattle.metadata_relation.proofs.Standing.{arrives, fewer, good_counted, IsNode, leads_on, node, Result}

module _ (c : Compiled) (IsGood : Bytes → Type 0) (right : IsCompiled c IsGood) (u n : ℕ) (temps : Temps)
    (ws : List Frame) (s : State) (v : flat.State) (xs : List flat.Frame)
    (h : IsAt c IsGood u n temps ws s u (c.layout.address u n) v xs)
    (words : HasWords (flat.Stands u (c.layout.address u n) v xs)) where
  abbrev pc : ℕ
  pc = c.layout.address u n

  abbrev T : (temporary : ℕ) → ℕ
  T i = temporary_register h.code i

  abbrev free : ℕ
  free = first_free h.code

  abbrev o : OperatorCode
  o = c.layout.expansion.inline.operators

  abbrev ops : AreOperators c.layout.expansion.inline.operators
  ops = right.inline.operators

  abbrev Gives : Stage → Type 0
  Gives a = Result c IsGood a (flat.Stands u (c.layout.address u n) v xs)

  abbrev body : List FlatInstruction
  body = body_of (function_in c.layout.program u)

  abbrev map : MapSizes
  map = map_of c

  abbrev p : FlatProgram
  p = c.layout.program

  abbrev area : ℕ → ℕ
  area i = area_of (map_of c) c.layout.expansion.code h.code s.charged i

  abbrev greatest : ℕ → ℕ
  greatest i = greatest_structure c.layout.expansion.code h.code.code i

  -- a temporary gets a value of any kind, and memory stays
  pub gives_rvalue : (i : Instruction) → IsNode c u n h.code i → (d next : ℕ) (value : Rvalue) (values : flat.Values)
      (most work : ℕ) → given i ≡ Some d → LeadsTo i next → d < most_temporaries h.code.code
      → Comes (map_of c) c.layout.program u (c.layout.address u n) v xs (c.layout.address u next)
      (record v { values = values }) most
      → ((y : ℕ) → y < first_free h.code → (y < temporary_register h.code d) ⊎ (temporary_register h.code d + 5 ≤ y)
      → values y ≡ v.values y)
      → IsTemporary (world c h.keys s v) (c.layout.expansion.entries u next d) (c.layout.expansion.contents u next d) value
      (greatest_structure c.layout.expansion.code h.code.code d)
      (area_of (map_of c) c.layout.expansion.code h.code s.charged d) (temporary_register h.code d) values
      → most + factor * s.work ≤ factor * work
      → Result c IsGood (Stands u next (with_temp temps d value) ws (record s { work = work }))
      (flat.Stands u (c.layout.address u n) v xs)
  gives_rvalue i k d next value values most work gives leads low comes others is cost =
      let shown = h.stands.for.shown in
      arrives c IsGood right u n temps ws s v xs h next (with_temp temps d value) s.plain s.input s.output s.taken
      s.turns work values v.input v.output v.taken v.turns most comes
      (shown.input, shown.output, shown.taken, h.stands.turns)
      (good_counted (names c) u ws s s.input s.output s.taken s.turns work h.steady.good)
      (gives_temporary (views c) h.keys h.keys s.objects s.objects v.memory v.memory
      (same_world (views c) h.keys s.objects v.memory) (activation c h.code u n s) (c.layout.expansion.entries u next)
      (c.layout.expansion.contents u next) (λ i. false) temps s.plain s.frame v.values values d value low
      (fewer c IsGood right u n temps ws s v xs h i k d next gives leads) (λ x o home live held. live) others is h.holds)
      (λ r from to. others r (omega arith) (inl (omega arith))) cost

  module _ (i : Instruction) (k : IsNode c u n h.code i) (offset size d a next : ℕ) (gives : given i ≡ Some d)
      (source : entry_source i ≡ Some a) (leads : LeadsTo i next) (low : d < most_temporaries h.code.code)
      (from_low : a < most_temporaries h.code.code) (from : ObjectState)
      (found : IsContentsAt (world c h.keys s v) (c.layout.expansion.entries u n a) (temps a).value from
      (greatest_structure c.layout.expansion.code h.code.code a)
      (area_of (map_of c) c.layout.expansion.code h.code s.charged a) (temporary_register h.code a) v.values)
      (same_place : d ≡ a) (may : c.layout.expansion.contents u next d ≡ true)
      (offset_fits : offset < 2 ^ 64) (size_fits : size < 2 ^ 64) (few : number_most offset + number_most size ≤ 14)
    where
      abbrev value : Value
      value = narrowed offset size (temps a).value

      held : IsContentsAt (world c h.keys s v) (c.layout.expansion.entries u n a) (temps a).value from
          (greatest_structure c.layout.expansion.code h.code.code d)
          (area_of (map_of c) c.layout.expansion.code h.code s.charged d) (temporary_register h.code a) v.values
      held = subst (λ z. IsContentsAt (world c h.keys s v) (c.layout.expansion.entries u n a) (temps a).value from
          (greatest_structure c.layout.expansion.code h.code.code z)
          (area_of (map_of c) c.layout.expansion.code h.code s.charged z) (temporary_register h.code a) v.values)
          (sym same_place) found

      abbrev Finish : (b : Bool) → Type 0
      Finish b = (values : flat.Values) (most : ℕ)
          → values (temporary_register h.code d)
          ≡ (area_of (map_of c) c.layout.expansion.code h.code s.charged d + (narrowed offset size (temps a).value).word)
          % 2 ^ 64
          → (b ≡ true → IsPartEntry (held_from (temporary_register h.code d)).tag from.size
          (area_of (map_of c) c.layout.expansion.code h.code s.charged d) values)
          → ((y : ℕ) → y < first_free h.code → (y < temporary_register h.code d)
          ⊎ (temporary_register h.code d + 5 ≤ y) → values y ≡ v.values y)
          → SoFar (map_of c) c.layout.program u (c.layout.address u n) v xs words (c.layout.address u next) values most
          → most + factor * s.work ≤ factor * (s.work + 2)
          → Gives (Stands u next (with_temp temps d (record {
            value = narrowed offset size (temps a).value;
            contents = Some from;
          })) ws (spent 2 s))

      d_room : temporary_register h.code d + 5 ≤ first_free h.code
      d_room = temporary_free h.code d low

      a_room : temporary_register h.code a + 5 ≤ first_free h.code
      a_room = temporary_free h.code a from_low

      -- the address goes on
      on_word : (x : ℕ) → x ≡ (area_of (map_of c) c.layout.expansion.code h.code s.charged d + (temps a).value.word) % 2 ^ 64
          → (x + offset) % 2 ^ 64
          ≡ (area_of (map_of c) c.layout.expansion.code h.code s.charged d + (narrowed offset size (temps a).value).word)
          % 2 ^ 64
      on_word x e =
          let word = narrowed_word offset size (temps a).value in
          omega (arith, e, word)

      -- of the word alone
      word_goes_on : HasAt body pc (narrow_code c.layout.expansion.inline false offset size (T d) (T a) free)
          → Leads body (pc + length (narrow_code c.layout.expansion.inline false offset size (T d) (T a) free))
          (c.layout.address u next) → Finish false
          → Gives (Stands u next (with_temp temps d (record {
            value = narrowed offset size (temps a).value;
            contents = Some from;
          })) ws (spent 2 s))
      word_goes_on has on finish =
          let list = number_code o offset free (free + 1) in
          let sum = flat_code.Operate Add (T d) (T a) (number_operand offset free) ∷ [] in
          let q = pc + length list in
          let made = number_made o ops map p u pc v xs words pc v.values 0 (at_first map p u pc v xs words) offset free
          (free + 1) offset_fits (omega arith) (has_front body pc list sum has) in
          let k1 = 0 + number_most offset in
          let at = has_back body pc list sum has in
          let K = then_added o ops map p u pc v xs words q made.values k1 made.comes (T d) (T a)
          (number_operand offset free) at.0 in
          let w = reg_result Add (made.values (T a)) (right_value (number_operand offset free) made.values) in
          let address = made.others (T a) (omega (arith, a_room)) (λ e. omega (arith, a_room)) ∙ held.word in
          let word = ap (reg_result Add (made.values (T a))) made.operand ∙ sum_by (made.values (T a)) offset
          ∙ on_word (made.values (T a)) address in
          let end : pc + length (list ++ sum) ≡ q + 1 = omega (arith, length-append list sum) in
          let most = most_number offset in
          finish (put made.values (T d) w) (k1 + 2 + 2) (put_same made.values (T d) w ∙ word) (λ e. cc)
          (λ y lt out. put_other made.values (T d) w y (not_into y (T d) out)
          ∙ made.others y (omega arith) (λ e. omega arith))
          (leads_on c IsGood right u n temps ws s v xs h (q + 1) (c.layout.address u next)
          (record v { values = put made.values (T d) w }) (k1 + 2) K
          (subst (λ z. Leads body z (c.layout.address u next)) end on))
          (omega (arith, most))

      -- with where the area begins, and where its entries do
      part_goes_on : c.layout.expansion.entries u n a ≡ true
          → HasAt body pc (narrow_code c.layout.expansion.inline true offset size (T d) (T a) free)
          → Leads body (pc + length (narrow_code c.layout.expansion.inline true offset size (T d) (T a) free))
          (c.layout.address u next) → Finish true
          → Gives (Stands u next (with_temp temps d (record {
            value = narrowed offset size (temps a).value;
            contents = Some from;
          })) ws (spent 2 s))
      part_goes_on with_entry has on finish =
          let moves = move_value true (T d) (T a) in
          let first = number_code o offset free (free + 2) in
          let second = number_code o size (free + 1) (free + 2) in
          let list = c.layout.expansion.inline.narrow (held_from (T d)) (number_operand offset free)
          (number_operand size (free + 1)) (free + 2) in
          let q1 = pc + length moves in
          let q2 = q1 + length first in
          let q3 = q2 + length second in
          let q4 = q3 + length list in
          let rest1 = has_back body pc moves (first ++ (second ++ list)) has in
          let rest2 = has_back body q1 first (second ++ list) rest1 in
          let rest3 = has_back body q2 second list rest2 in
          let K1 = then_assigned map p u pc v xs words pc v.values 0 (at_first map p u pc v xs words) moves refl
          (has_front body pc moves (first ++ (second ++ list)) has) in
          let a1 = assigned moves v.values in
          let z = moved (T d) (T a) v.values
          (temporary_apart d a (T d) (T a) (λ ne. temporaries_apart h.code d a ne)
          (λ e. ap (λ y. temporary_register h.code y) e)) in
          let k1 = 0 + 2 * length moves in
          let m1 = number_made o ops map p u pc v xs words q1 a1 k1 K1 offset free (free + 2) offset_fits (omega arith)
          (has_front body q1 first (second ++ list) rest1) in
          let k2 = k1 + number_most offset in
          let m2 = number_made o ops map p u pc v xs words q2 m1.values k2 m1.comes size (free + 1) (free + 2) size_fits
          (omega arith) (has_front body q2 second list rest2) in
          let k3 = k2 + number_most size in
          let kept : (y : ℕ) → y < free → m2.values y ≡ a1 y = λ y lt.
          m2.others y (omega arith) (λ e. omega arith) ∙ m1.others y (omega arith) (λ e. omega arith) in
          let part = held.entry with_entry in
          let tag = entry_stays (T d) a1 m2.values (λ j lt. kept (T d + j) (omega (arith, d_room))) ∙ z.entry in
          let word = kept (T d) (omega (arith, d_room)) ∙ z.value ∙ held.word in
          let can = can_narrow (T d) free offset size d_room in
          let r = alters map p (moment map p u pc v xs words q3 m2.values k3 m2.comes) list 8
          (λ y. (y.values (held_from (T d)).tag.lock ≡ 0)
          × (right_value (number_operand offset free) y.values ≡ offset))
          (HasGoneOn (held_from (T d)) offset (free + 2))
          (right.inline.computes.narrow (held_from (T d)) (number_operand offset free) (number_operand size (free + 1))
          (free + 2))
          (right.inline.moves_on (held_from (T d)) (number_operand offset free) (number_operand size (free + 1)) (free + 2)
          can map offset (is_runtime_function (function_in p u)) (charged p u xs) (weight_of (function_in p u)))
          (λ y y' q. (q.memory, q.shows)) (
            ap (λ m. m.lock) tag ∙ part.no_lock,
            operand_kept offset free m1.values m2.values (m2.others free (omega arith) (λ e. omega arith)) ∙ m1.operand,
          )
          (stands_here map p u pc v xs words q3 m2.values k3 m2.comes list rest3) in
          let K4 = then_altered map p u pc v xs words q3 m2.values k3 m2.comes q4 8
          (HasGoneOn (held_from (T d)) offset (free + 2)
          (moment map p u pc v xs words q3 m2.values k3 m2.comes).state) r in
          let end : pc + length (moves ++ (first ++ (second ++ list))) ≡ q4 = omega (
            arith,
            length-append moves (first ++ (second ++ list)),
            length-append first (second ++ list),
            length-append second list,
          ) in
          let last = r.holds.metadata ∙ tag in
          finish r.after (k3 + 8 * 2 + 2) (r.holds.address ∙ on_word (m2.values (T d)) word)
          (λ e. record {
            base = ap (λ m. m.base) last ∙ part.base;
            bound = ap (λ m. m.bound) last ∙ part.bound;
            no_lock = ap (λ m. m.lock) last ∙ part.no_lock;
          })
          (λ y lt out. r.holds.others y (omega arith) (not_into y (T d) out, tt) ∙ kept y lt ∙ z.others y out)
          (leads_on c IsGood right u n temps ws s v xs h q4 (c.layout.address u next) (record v { values = r.after })
          (k3 + 8 * 2) K4 (subst (λ z. Leads body z (c.layout.address u next)) end on))
          (omega (arith, few))

      -- where the block stands, the part is that of the member
      pub part_narrowed : HasAt body pc (narrow_code c.layout.expansion.inline (c.layout.expansion.entries u next d) offset
          size (T d) (T a) free)
          → Leads body (pc + length (narrow_code c.layout.expansion.inline (c.layout.expansion.entries u next d) offset
          size (T d) (T a) free)) (c.layout.address u next)
          → Gives (Stands u next (with_temp temps d (record {
            value = narrowed offset size (temps a).value;
            contents = Some from;
          })) ws (spent 2 s))
      part_narrowed has on =
          by (c.layout.expansion.entries u next d) (λ e. k.closed.made n next d a i k.at leads gives source e) has on
          (λ values most word entry others comes le. gives_rvalue i k d next
          (record { value = narrowed offset size (temps a).value; contents = Some from }) values most (s.work + 2) gives
          leads low comes others
          (record {
            by = record {
              word = word;
              entry = entry;
              place = held.place;
              small = held.small;
              area_is = held.area_is;
              sound = held.sound;
              tagged = sound_narrowed (views c).functions s.objects offset size (temps a).value held.tagged;
            };
            none = λ e. absurd (true≢false (sym may ∙ e));
          }) le)
        where
          by : (b : Bool) → (b ≡ true → c.layout.expansion.entries u n a ≡ true)
              → HasAt (body_of (function_in c.layout.program u)) (c.layout.address u n)
              (narrow_code c.layout.expansion.inline b offset size (temporary_register h.code d)
              (temporary_register h.code a) (first_free h.code))
              → Leads (body_of (function_in c.layout.program u)) (c.layout.address u n
              + length (narrow_code c.layout.expansion.inline b offset size (temporary_register h.code d)
              (temporary_register h.code a) (first_free h.code))) (c.layout.address u next)
              → Finish b
              → Gives (Stands u next (with_temp temps d (record {
                value = narrowed offset size (temps a).value;
                contents = Some from;
              })) ws (spent 2 s))
          by false more has on finish = word_goes_on has on finish
          by true more has on finish = part_goes_on (more refl) has on finish

  -- ---- the step

  module _ (offset size d a next : ℕ) (offset_fits : offset < 2 ^ 64) (size_fits : size < 2 ^ 64)
      (few : ((is_short offset || is_short size) || (is_few offset && is_few size)) ≡ true)
      (at : slice_get h.code.code n ≡ Some (tac.Member offset size d a next)) where
    abbrev label : Instruction
    label = tac.Member offset size d a next

    nd : IsNode c u n h.code (tac.Member offset size d a next)
    nd = node c IsGood right u n temps ws s v xs h (tac.Member offset size d a next) at

    low : d < most_temporaries h.code.code
    low = omega (arith, nd.temporaries_low)

    from_low : a < most_temporaries h.code.code
    from_low = omega (arith, nd.temporaries_low)

    abbrev may : Bool
    may = c.layout.expansion.contents u next d

    -- contents that are there may be there behind it
    may_have : (b : Bool) → c.layout.expansion.contents u next d ≡ b → (from : ObjectState)
        → (temps a).contents ≡ Some from → c.layout.expansion.contents u next d ≡ true
    may_have true e from is = e
    may_have false e from is =
        let none = (h.holds.temporaries a from_low refl).none (nd.kept.made n next d a label nd.at (inl refl) refl refl e)
        in cc

    by_contents : (k : Option ObjectState) → (temps a).contents ≡ k
        → IsRvalueAt (world c h.keys s v) (c.layout.expansion.entries u n a) (temps a).value k
        (greatest_structure c.layout.expansion.code h.code.code a)
        (area_of (map_of c) c.layout.expansion.code h.code s.charged a) (temporary_register h.code a) v.values
        → is_in_place k d a ≡ true → Gives (Stands u next
        (with_temp temps d (record { value = narrowed offset size (temps a).value; contents = k })) ws (spent 2 s))
    by_contents None is held in_place =
        gives_narrowed c IsGood right u n temps ws s v xs h words label nd offset size d a next refl refl (inl refl) low
        from_low held offset_fits size_fits
        (few_numbers c IsGood right u n temps ws s v xs h words offset size few) nd.put.has nd.put.leads
    by_contents (Some from) is held in_place =
        part_narrowed label nd offset size d a next refl refl (inl refl) low from_low from held (eqb-true d a in_place)
        (may_have may refl from is) offset_fits size_fits
        (few_numbers c IsGood right u n temps ws s v xs h words offset size few) nd.put.has nd.put.leads

    pub member_step : is_in_place (temps a).contents d a ≡ true
        → Gives (effect c.setting (expansion_of c).code label u temps ws (spent 2 s))
    member_step in_place =
        by_contents (temps a).contents refl (h.holds.temporaries a from_low refl).by in_place
