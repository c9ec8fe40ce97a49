-- What comes of a step that leaves contents in the area of a temporary: nothing else of memory changes.
use Rattle.std.proofs.Common.{◌≡◌, ◌≢◌, ◌⊎◌, inl, inr, ⊎_elim, ℕ, ◌+◌, ◌*◌, ◌<◌, ◌≤◌, Bool, true, false}
use Rattle.std.proofs.Common.{List, length, Some, refl, sym, ◌∙◌, subst}
use Rattle.std.proofs.Common.{arith, true≢false}
use Rattle.std.specs.Prelude.{◌==◌, ◌^◌}
use Rattle.std.proofs.lemmas.Bool.{eqb-false, ne_eqb}
use Rattle.addr_map.specs.declared.region.Region.TheVariants.{StructureValues}
use Rattle.addr_map.specs.Places.{region_start}
use Rattle.obj_memory.specs.Objects.{ObjectState}
use Rattle.obj_memory.specs.Sound.{IsSoundObject}
use Rattle.source_meaning.specs.State.{Rvalue, State}
use Rattle.source_meaning.specs.Actions.{integer}
use Rattle.source_meaning.specs.Places.{stack_first}
use Rattle.tac_ir.specs.declared.instruction.Instruction.{Instruction}
use Rattle.tac_ir.specs.declared.function.Tac.{Tac}
use Rattle.tac_ir.specs.Edges.{LeadsTo}
use Rattle.tac_ir.specs.Stage.{Frame, Stands, Temps, with_temp}
use Rattle.tac_ir.specs.Structures.{greatest_structure}
use Rattle.flat_code.specs.declared.instruction.FlatInstruction.{FlatInstruction}
use Rattle.flat_code.specs.Calls.{function_in, rooms}
use Rattle.flat_code.specs.Meaning.{body_of}
use Rattle.flat_code.specs.Memory.{Bytes, KeepsBut, put}
use Rattle.flat_code.specs.State as flat
use Rattle.flat_code.specs.Words.{HasWords}
use Rattle.flat_code.proofs.Stored.{load_kept, put_other, put_same}
use Rattle.flat_code.specs.Routines.Routine.{HasAt}
use Rattle.flat_actions.specs.Actions.{IsFor}
use Rattle.flat_actions.proofs.Standing.{for_worked}
use Rattle.lib_wrappers.specs.AreaRoutines.Areas.{area_bytes, entries_begin, HoldsPart, IsArea, IsAreaPlace}
use Rattle.runtime_functions.specs.Library.{held_from}
use Rattle.metadata_plan.specs.Entries.{given}
use Rattle.metadata_plan.specs.Expanded.{Leads}
use Rattle.metadata_plan.specs.Registers.{most_temporaries}
use Rattle.metadata_relation.specs.Blocks.{top_cell}
use Rattle.metadata_relation.specs.Holding.{area_of, IsTemporary}
use Rattle.metadata_relation.specs.Registers.{first_free, temporary_register}
use Rattle.metadata_relation.specs.Stages.{activation, Compiled, factor, IsAt, level, map_of, MatchesBy, names, views}
use Rattle.metadata_relation.specs.Stages.{world}
use Rattle.metadata_relation.specs.Steps.{IsCompiled}
use Rattle.metadata_relation.specs.Structures.{begin_area_code, HasAreas, HaveAreas}
use Rattle.metadata_relation.specs.Structures.{hold_area}
use Rattle.metadata_relation.proofs.Acting.{Reached, reached_by}
use Rattle.metadata_relation.proofs.Acting.{ReachesNode}
use Rattle.metadata_relation.proofs.AreaPlaces.{area_first, area_last, area_place, area_within, areas_apart}
use Rattle.metadata_relation.proofs.AreaPlaces.{greatest_whole}
use Rattle.metadata_relation.proofs.AreaRegisters.{area_begins, calls_end}
use Rattle.metadata_relation.proofs.AreasBeside.{charge_whole, holds_in, room_is, waits_in}
use Rattle.metadata_relation.proofs.Assigning.{assigned}
use Rattle.metadata_relation.proofs.Finishing.{AreFew, beside_ne, ends_with, StaysBeside}
use Rattle.metadata_relation.proofs.Holding.{at_node, gives_temporary, same_world}
use Rattle.metadata_relation.proofs.Registers.{temporary_free}
use Rattle.metadata_relation.proofs.Standing.{fewer, good_counted, IsNode, Result}
use Rattle.metadata_relation.proofs.TopCell.{cell_place}
use Rattle.metadata_relation.proofs.Waiting.{waits_at, waits_same}

-- ---- registers that hold all of the contents in an area

-- the part with no bytes before it
pub record HoldsArea (with_entry : Bool) (register size area : ℕ) (values after : flat.Values) : Type 0 where
  pub word : after register ≡ area + 0
  pub entry : with_entry ≡ true → HoldsPart (held_from register) size 0 area after
  pub others : StaysBeside register values after

pub area_held : (b : Bool) (r a e size area : ℕ) (values : flat.Values) → r + 5 ≤ a → r + 5 ≤ e → values a ≡ area
    → values e ≡ entries_begin area size → HoldsArea b r size area values (assigned (hold_area b r a e) values)
area_held false r a e size area values low bound at ends = record {
  word = put_same values r (values a) ∙ at ∙ omega arith;
  entry = λ q. cc;
  others = λ y out. put_other values r (values a) y (beside_ne y r out);
}
area_held true r a e size area values low bound at ends =
    let one : flat.Values = put values r (values a) in
    let two : flat.Values = put one (r + 1) (one a) in
    let three : flat.Values = put two (r + 2) (two e) in
    let no_key : flat.Values = put three (r + 3) 0 in
    let four : flat.Values = put no_key (r + 4) 0 in
    let first : one a ≡ area = put_other values r (values a) a (λ q. omega arith) ∙ at in
    let second : two e ≡ entries_begin area size =
    put_other one (r + 1) (one a) e (λ q. omega arith) ∙ put_other values r (values a) e (λ q. omega arith) ∙ ends in
    let word : four r ≡ area =
    put_other no_key (r + 4) 0 r (λ q. omega arith) ∙ put_other three (r + 3) 0 r (λ q. omega arith) ∙ put_other two (r + 2) (two e) r (λ q. omega arith)
    ∙ put_other one (r + 1) (one a) r (λ q. omega arith) ∙ put_same values r (values a) ∙ at in
    record {
      word = word ∙ omega arith;
      entry = λ q. record {
        part = word ∙ omega arith;
        base = put_other no_key (r + 4) 0 (r + 1) (λ q. omega arith) ∙ put_other three (r + 3) 0 (r + 1) (λ q. omega arith)
            ∙ put_other two (r + 2) (two e) (r + 1) (λ q. omega arith) ∙ put_same one (r + 1) (one a) ∙ first;
        bound = put_other no_key (r + 4) 0 (r + 2) (λ q. omega arith) ∙ put_other three (r + 3) 0 (r + 2) (λ q. omega arith) ∙ put_same two (r + 2) (two e) ∙ second;
        no_lock = put_same no_key (r + 4) 0;
      };
      others = λ y out. by y out;
    }
  where
    by : (y : ℕ) → (y < r) ⊎ (r + 5 ≤ y) → assigned (hold_area true r a e) values y ≡ values y
    by y out =
        let one : flat.Values = put values r (values a) in
        let two : flat.Values = put one (r + 1) (one a) in
        let three : flat.Values = put two (r + 2) (two e) in
        let no_key : flat.Values = put three (r + 3) 0 in
        put_other no_key (r + 4) 0 y (apart y 4 (omega arith) out) ∙ put_other three (r + 3) 0 y (apart y 3 (omega arith) out)
        ∙ put_other two (r + 2) (two e) y
        (apart y 2 (omega arith) out)
        ∙ put_other one (r + 1) (one a) y (apart y 1 (omega arith) out)
        ∙ put_other values r (values a) y (beside_ne y r out)
      where
        apart : (y j : ℕ) → j < 5 → (y < r) ⊎ (r + 5 ≤ y) → y ≢ r + j
        apart y j lt (inl below) q = absurd (omega arith)
        apart y j lt (inr above) q = absurd (omega arith)

pub hold_few : (b : Bool) (r a e : ℕ) → AreFew 5 (hold_area b r a e)
hold_few false r a e = record { assign = refl; few = omega arith }
hold_few true r a e = record { assign = refl; few = omega arith }

module _ (c : Compiled) (IsGood : Bytes → Type 0) (right : IsCompiled c IsGood)
    (have : HaveAreas c.layout.expansion.code) (u n : ℕ) (temps : Temps) (ws : List Frame) (s : State)
    (v : flat.State) (xs : List flat.Frame)
    (h : IsAt c IsGood u n temps ws s u (c.layout.address u n) v xs) where
  abbrev pc : ℕ
  pc = c.layout.address u n

  abbrev t : Tac
  t = c.layout.expansion.code

  abbrev T : (temporary : ℕ) → ℕ
  T i = temporary_register h.code i

  abbrev free : ℕ
  free = first_free h.code

  abbrev body : List FlatInstruction
  body = body_of (function_in c.layout.program u)

  -- the area of a temporary, and how great contents it is for
  abbrev pub area : (temporary : ℕ) → ℕ
  area i = area_of (map_of c) c.layout.expansion.code h.code s.charged i

  abbrev pub greatest : (temporary : ℕ) → ℕ
  greatest i = greatest_structure c.layout.expansion.code h.code.code i

  pub areas : HasAreas c.layout.expansion.code h.code
  areas = have.each u h.code h.there

  pub charge_is : s.charged ≡ h.code.room + rooms false c.layout.program xs
  charge_is = let room = room_is c IsGood right have u h.code h.there in let all = h.charge in omega arith

  pub place_here : (d size : ℕ) → size ≤ greatest_structure c.layout.expansion.code h.code.code d
      → IsAreaPlace (map_of c) size (area_of (map_of c) c.layout.expansion.code h.code s.charged d)
  place_here d size small =
      let all = charge_is in
      let rest = charge_whole c IsGood right have (world c h.keys s v) s (stack_first c.setting) (level h.code s v) ws
      xs
      h.wait.by in
      let own = areas.whole in
      area_place (map_of c) right.mapped t h.code s.charged d size areas (omega arith) (omega arith) h.fits small

  -- no address in an area wraps
  pub place_low : {size area : ℕ} → IsAreaPlace (map_of c) size area → area + size < 2 ^ 64
  place_low lies =
      let last = lies.last in
      let cell = cell_place (map_of c) right.mapped in
      let behind = cell.behind in let small = cell.small in
      omega arith

  -- ---- its address

  -- both, and the first argument of a call
  pub record IsBegun (size temporary place most : ℕ) : Type 0 where
    pub values : flat.Values
    pub work : ℕ
    pub reached : Reached (map_of c) c.layout.program u (c.layout.address u n) v xs place
        (record v { values = values; work = work }) most
    pub address : values (first_free h.code) ≡ area_of (map_of c) c.layout.expansion.code h.code s.charged temporary
    pub ends : values (first_free h.code + 1)
        ≡ entries_begin (area_of (map_of c) c.layout.expansion.code h.code s.charged temporary) size
    pub first : values (first_free h.code + 2) ≡ area_of (map_of c) c.layout.expansion.code h.code s.charged temporary
    pub others : (y : ℕ) → y < first_free h.code → values y ≡ v.values y

  pub area_begun : HasWords (flat.Stands u (c.layout.address u n) v xs) → (size d : ℕ)
      → size ≤ greatest_structure c.layout.expansion.code h.code.code d
      → HasAt (body_of (function_in c.layout.program u)) (c.layout.address u n)
      (begin_area_code c.layout.expansion.inline.operators (map_of c) c.layout.expansion.code h.code size d
      (first_free h.code))
      → IsBegun size d (c.layout.address u n + length (begin_area_code c.layout.expansion.inline.operators (map_of c)
      c.layout.expansion.code h.code size d (first_free h.code))) 28
  area_begun words size d small has =
      let m = map_of c in
      let p = c.layout.program in
      let all = charge_is in
      let f = area_begins c IsGood right u xs h.code areas s.charged h.charge (omega (arith, all)) h.fits free size d pc v
      small words has in
      let k = reached_by m p u xs pc (pc + length (begin_area_code c.layout.expansion.inline.operators m t h.code size d
      free)) v (record v { values = f.after }) 28 f.comes in
      record {
        values = f.after;
        work = v.work + f.comes.work;
        reached = record { steps = k.steps; comes = k.comes; few = k.few };
        address = f.address_is;
        ends = f.ends;
        first = f.first;
        others = f.others;
      }

  -- ---- the step

  -- a temporary has contents in its area, and nothing else changed but registers of the block's own
  pub record HasLeftArea (d next : ℕ) (value : Rvalue) (work : ℕ) (after : flat.State) : Type 0 where
    pub for : IsFor (views c) h.keys IsGood (record s { work = work }) after
    pub beside : KeepsBut (area_of (map_of c) c.layout.expansion.code h.code s.charged d)
        (5 * greatest_structure c.layout.expansion.code h.code.code d) v.memory after.memory
    pub turns : after.turns ≡ v.turns
    pub others : (y : ℕ) → y < first_free h.code → (y < temporary_register h.code d)
        ⊎ (temporary_register h.code d + 5 ≤ y) → after.values y ≡ v.values y
    pub given : IsTemporary (world c h.keys s after) (c.layout.expansion.entries u next d)
        (c.layout.expansion.contents u next d) value (greatest_structure c.layout.expansion.code h.code.code d)
        (area_of (map_of c) c.layout.expansion.code h.code s.charged d) (temporary_register h.code d) after.values

  pub leaves_area : (i : Instruction) → IsNode c u n h.code i → (d next : ℕ) (value : Rvalue) (work : ℕ)
      (after : flat.State) (most : ℕ) → given i ≡ Some d → LeadsTo i next → d < most_temporaries h.code.code
      → ReachesNode c IsGood right u n temps ws s v xs h next after most → HasLeftArea d next value work after
      → most + factor * s.work ≤ factor * work
      → Result c IsGood (Stands u next (with_temp temps d value) ws (record s { work = work }))
      (flat.Stands u (c.layout.address u n) v xs)
  leaves_area i nd d next value work after most gives leads low k l cost =
      let m = map_of c in
      let s' : State = record s { work = work } in
      let first = stack_first c.setting in
      let all = charge_is in
      let fits = h.fits in
      let end = calls_end m in
      let cell = cell_place m right.mapped in
      let behind = cell.behind in
      let last = area_last m t h.code s.charged d areas (omega arith) in
      let begin = area_first m t h.code s.charged d in
      let less = fewer c IsGood right u n temps ws s v xs h i nd d next gives leads in
      let turned = h.stands.turns in
      let same_turns = l.turns in
      let kept = holds_in (views c) h.keys s.objects v.memory after.memory (activation c h.code u n s) (λ j. j == d)
      temps
      s.plain s.frame v.values (λ j e. refl)
      (λ j e. stays j (eqb-false j d e)) h.holds in
      let holds = gives_temporary (views c) h.keys h.keys s.objects s.objects after.memory after.memory
      (same_world (views c) h.keys s.objects after.memory)
      (at_node (activation c h.code u n s) (c.layout.expansion.entries u n) (c.layout.expansion.contents u n)
      (λ j. j == d))
      (c.layout.expansion.entries u next) (c.layout.expansion.contents u next) (λ j. false) temps s.plain s.frame
      v.values
      after.values d value low
      (record { kept = less.kept; plain = less.plain; known = λ j ne e. ne_eqb j d ne })
      (λ x o home live held. live) l.others l.given kept in
      record {
        steps = k.steps;
        matches = subst (MatchesBy c IsGood (Stands u next (with_temp temps d value) ws s')) (sym k.comes) (record {
          function = refl;
          place = refl;
          code = h.code;
          there = h.there;
          work = omega (arith, h.work, k.few, cost);
          charge = h.charge;
          fits = h.fits;
          keys = h.keys;
          stands = record {
            for = l.for;
            top = load_kept 8 v.memory after.memory (top_cell m)
                (λ j lt. l.beside (top_cell m + j) (inr (omega arith))) ∙ h.stands.top;
            turns = omega (arith, turned, same_turns);
          };
          steady = record {
            good = good_counted (names c) u ws s s.input s.output s.taken s.turns work h.steady.good;
            bytes = h.steady.bytes;
            keys = h.steady.keys;
            statics = h.steady.statics;
            statics_live = h.steady.statics_live;
          };
          holds = holds;
          wait = record {
            by = waits_at (world c h.keys s' after) s' c.layout first h.code v.values after.values
                (λ r from to. l.others r (omega arith) (inl (omega arith))) s.stacked (length s.objects) s.frame ws xs
                (waits_same (views c) h.keys s s' after.memory c.layout first refl (level h.code s v) ws xs
                (waits_in c IsGood right have h.keys s first
                (region_start m StructureValues + rooms false c.layout.program xs) (views c) s.objects v.memory
                after.memory
                (λ b le lt. l.beside b (inl (omega arith))) (level h.code s v) ws xs (omega arith) h.wait.by));
          };
        });
      }
    where
      stays : (j : ℕ) → j ≢ d → (i : ℕ) → i < 5 * greatest_structure c.layout.expansion.code h.code.code j
          → after.memory (area_of (map_of c) c.layout.expansion.code h.code s.charged j + i)
          ≡ v.memory (area_of (map_of c) c.layout.expansion.code h.code s.charged j + i)
      stays j ne i lt = l.beside (area_of (map_of c) c.layout.expansion.code h.code s.charged j + i)
          (⊎_elim (λ below. inl (omega arith)) (λ above. inr (omega arith))
          (areas_apart (map_of c) t h.code s.charged j d ne))

  -- a call has left contents in the area of a temporary, whose registers get them
  pub contents_left : (i : Instruction) → IsNode c u n h.code i → (d next a e q : ℕ) (k : ObjectState)
      (counted work most : ℕ) (y : flat.State) → given i ≡ Some d → LeadsTo i next → d < most_temporaries h.code.code
      → first_free h.code ≤ a → first_free h.code ≤ e
      → k.size ≤ greatest_structure c.layout.expansion.code h.code.code d
      → c.layout.expansion.contents u next d ≡ true
      → Reached (map_of c) c.layout.program u (c.layout.address u n) v xs q y most
      → HasAt (body_of (function_in c.layout.program u)) q
      (hold_area (c.layout.expansion.entries u next d) (temporary_register h.code d) a e)
      → Leads (body_of (function_in c.layout.program u)) (q + length
      (hold_area (c.layout.expansion.entries u next d) (temporary_register h.code d) a e)) (c.layout.address u next)
      → y.values a ≡ area_of (map_of c) c.layout.expansion.code h.code s.charged d
      → y.values e ≡ entries_begin (area_of (map_of c) c.layout.expansion.code h.code s.charged d) k.size
      → IsFor (views c) h.keys IsGood (record s { work = counted }) y
      → IsArea (views c) h.keys k (area_of (map_of c) c.layout.expansion.code h.code s.charged d) y.memory
      → KeepsBut (area_of (map_of c) c.layout.expansion.code h.code s.charged d) (area_bytes k.size) v.memory y.memory
      → y.turns ≡ v.turns → ((r : ℕ) → r < first_free h.code → y.values r ≡ v.values r)
      → IsSoundObject (views c).functions s.objects k → most + 12 + factor * s.work ≤ factor * work
      → Result c IsGood (Stands u next (with_temp temps d (record { value = integer 0; contents = Some k })) ws
      (record s { work = work })) (flat.Stands u (c.layout.address u n) v xs)
  contents_left i nd d next a e q k counted work most y gives leads low a_free e_free within may all has on at ends for
      lies beside turns others sound cost =
      let b = c.layout.expansion.entries u next d in
      let A = area_of (map_of c) c.layout.expansion.code h.code s.charged d in
      let G = greatest_structure c.layout.expansion.code h.code.code d in
      let room = temporary_free h.code d low in
      let list = hold_area b (T d) a e in
      let hold = area_held b (T d) a e k.size A y.values (omega arith) (omega arith) at ends in
      let last = assigned list y.values in
      let f = ends_with c IsGood right u n temps ws s v xs h q most 5 next y list all (hold_few b (T d) a e) has on in
      let after : flat.State = record y { values = last; work = f.0 } in
      let stands = for_worked (views c) h.keys IsGood (record s { work = counted }) work y for in
      let whole = area_within k.size G (greatest_whole t h.code.code d) within in
      leaves_area i nd d next (record { value = integer 0; contents = Some k }) work after (most + 2 * 5 + 2) gives
      leads low
      f.1
      (record {
        for = record {
          objects = stands.objects;
          spaces = stands.spaces;
          keys = stands.keys;
          shown = record {
            input = stands.shown.input;
            output = stands.shown.output;
            taken = stands.shown.taken;
            accesses = stands.shown.accesses;
          };
        };
        beside = λ r out. beside r (nearer A G k.size r whole out);
        turns = turns;
        others = λ r lt out. hold.others r out ∙ others r lt;
        given = record {
          by = record {
            word = hold.word ∙ omega (arith, place_low (place_here d k.size within));
            entry = λ q. (let part = hold.entry q in
                record { base = part.base; bound = part.bound; no_lock = part.no_lock });
            place = place_here d k.size within;
            small = within;
            area_is = lies;
            sound = sound;
            tagged = tt;
          };
          none = λ q. absurd (true≢false (sym may ∙ q));
        };
      }) (omega (arith, cost))
    where
      nearer : (A G size r : ℕ) → area_bytes size ≤ 5 * G → (r < A) ⊎ (A + 5 * G ≤ r)
          → (r < A) ⊎ (A + area_bytes size ≤ r)
      nearer A G size r le (inl below) = inl below
      nearer A G size r le (inr above) = inr (omega arith)
