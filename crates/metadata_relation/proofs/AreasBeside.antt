-- What registers hold, and what waits, while memory changes in areas that are none of theirs.
use Rattle.std.proofs.Common.{◌≡◌, ℕ, ◌+◌, ◌*◌, ◌%◌, ◌<◌, ◌≤◌, Bool, true, false, List}
use Rattle.std.proofs.Common.{[], ◌∷◌, Option, Some, None, ap, arith}
use Rattle.std.specs.Prelude.{◌==◌, if◌then◌else◌, slice_get}
use Rattle.addr_map.specs.declared.region.Region.TheVariants.{StructureValues}
use Rattle.addr_map.specs.Places.{region_start}
use Rattle.obj_memory.specs.declared.value.Scalar.{Scalar}
use Rattle.obj_memory.specs.declared.value.Value.{Value}
use Rattle.obj_memory.specs.Objects.{ObjectState, Objects}
use Rattle.source_meaning.specs.State.{State, Home, Rvalue}
use Rattle.source_meaning.specs.Blocks.{Block, has_objects}
use Rattle.tac_ir.specs.declared.function.CodeFunction.{CodeFunction}
use Rattle.tac_ir.specs.Stage.{Frame, Temps, Waits, Waiting, Entered}
use Rattle.tac_ir.specs.Structures.{greatest_structure}
use Rattle.flat_code.specs.declared.function.FlatFunction.{FlatFunction}
use Rattle.flat_code.specs.Calls.{function_in, room_if, rooms}
use Rattle.flat_code.specs.Memory.{Bytes, Keeps}
use Rattle.flat_code.specs.State as flat
use Rattle.flat_code.specs.Routines.Objects.StandsFor.{Keys, Views}
use Rattle.lib_wrappers.proofs.AreaRoutines.Areas.{area_same}
use Rattle.metadata_relation.specs.Blocks.{objects_of_body}
use Rattle.metadata_relation.specs.Expanded.{EntersAt}
use Rattle.metadata_relation.specs.Holding.{Activation, area_of, HasHomes, Holds, IsHeldAt, IsHome, IsPlain}
use Rattle.metadata_relation.specs.Holding.{IsRvalueAt, IsTemporary, World, world_of}
use Rattle.metadata_relation.specs.Registers.{temporary_register}
use Rattle.metadata_relation.specs.Stages.{Compiled}
use Rattle.metadata_relation.specs.Steps.{IsCompiled}
use Rattle.metadata_relation.specs.Structures.{HaveAreas}
use Rattle.metadata_relation.specs.Waiting.{AllWait, BodyBy, IsBodyAs, IsEnteredAs, IsWaitingAs, Level}
use Rattle.metadata_relation.proofs.AreaPlaces.{area_last, area_within, greatest_whole}
use Rattle.metadata_relation.proofs.Holding.{at_node}
use Rattle.metadata_relation.proofs.Standing.{there_by}

-- ---- registers

module _ (g : Views) (k : Keys) (o : Objects) (m m' : Bytes) where
  -- of values, variables and homes memory tells nothing
  held_in : (b : Bool) (v : Value) (r : ℕ) (values : flat.Values) → IsHeldAt (world_of g k o m) b v r values
      → IsHeldAt (world_of g k o m') b v r values
  held_in b v r values h = record { word = h.word; entry = h.entry; sound = h.sound }

  plain_in : (t : Scalar) (v : Value) (r : ℕ) (values : flat.Values) → IsPlain (world_of g k o m) t v r values
      → IsPlain (world_of g k o m') t v r values
  plain_in t v r values h = record { value = held_in _ v r values h.value; no_tag = h.no_tag }

  home_in : (n r : ℕ) (values : flat.Values) → IsHome (world_of g k o m) n r values
      → IsHome (world_of g k o m') n r values
  home_in n r values h = record { live = h.live; held = h.held; entry = h.entry }

  homes_in : (c : CodeFunction) (frame : List Home) (values : flat.Values) → HasHomes (world_of g k o m) c frame values
      → HasHomes (world_of g k o m') c frame values
  homes_in c frame values h = record {
    declared = h.declared;
    homes = λ x n is. home_in n _ values (h.homes x n is);
    automatic = h.automatic;
    sizes = h.sizes;
  }

  -- contents stay where their area does
  temporary_in : (b may : Bool) (v : Rvalue) (greatest a r : ℕ) (values : flat.Values) → greatest % 16 ≡ 0
      → Keeps a (5 * greatest) m m' → IsTemporary (world_of g k o m) b may v greatest a r values
      → IsTemporary (world_of g k o m') b may v greatest a r values
  temporary_in b may v greatest a r values whole same h = record { by = by v.contents h.by; none = h.none }
    where
      by : (c : Option ObjectState) → IsRvalueAt (world_of g k o m) b v.value c greatest a r values
          → IsRvalueAt (world_of g k o m') b v.value c greatest a r values
      by None h = held_in b v.value r values h
      by (Some c) h =
          let within = area_within c.size greatest whole h.small in
          record {
            word = h.word;
            entry = h.entry;
            place = h.place;
            small = h.small;
            area_is = area_same g k c a m m' (λ i lt. same i (omega arith)) h.area_is;
            sound = h.sound;
            tagged = h.tagged;
          }

  -- a function, of which nothing is known of the temporaries whose areas change
  pub holds_in : (a : Activation) (unknown : ℕ → Bool) (temps : Temps) (plain : List Value) (frame : List Home)
      (values : flat.Values) → ((i : ℕ) → unknown i ≡ false → a.unknown i ≡ false)
      → ((i : ℕ) → unknown i ≡ false
      → Keeps (area_of g.sizes a.tac a.code a.charged i) (5 * greatest_structure a.tac a.code.code i) m m')
      → Holds (world_of g k o m) a temps plain frame values
      → Holds (world_of g k o m') (at_node a a.entries a.contents unknown) temps plain frame values
  holds_in a unknown temps plain frame values known same h = record {
    temporaries = λ i lt e. temporary_in (a.entries i) (a.contents i) (temps i) (greatest_structure a.tac a.code.code i)
        (area_of g.sizes a.tac a.code a.charged i) (temporary_register a.code i) values
        (greatest_whole a.tac a.code.code i) (same i e) (h.temporaries i lt (known i e));
    variables = λ x t e. plain_in t _ _ values (h.variables x t e);
    homes = homes_in a.code frame values h.homes;
    count = h.count;
  }

-- ---- what waits

-- all areas below a limit stay
abbrev pub StaysBelow : Views → (limit : ℕ) → Bytes → Bytes → Type 0
StaysBelow g limit m m' = (b : ℕ) → region_start g.sizes StructureValues ≤ b → b < limit → m' b ≡ m b

module _ (c : Compiled) (IsGood : Bytes → Type 0) (right : IsCompiled c IsGood)
    (areas : HaveAreas c.layout.expansion.code) where
  pub room_is : (u : ℕ) (k : CodeFunction) → slice_get c.layout.expansion.code.functions u ≡ Some k
      → room_if false (function_in c.layout.program u) ≡ k.room
  room_is u k there = (there_by c.layout.expansion u k (c.layout.address u) (function_in c.layout.program u)
      (right.expanded.functions u k there)).room

  module _ (k : Keys) (s : State) (first limit : ℕ) (g : Views) (o : Objects) (m m' : Bytes)
      (same : StaysBelow g limit m m') where
    waiting_in : (callee : CodeFunction) (mark : ℕ) (w : Waiting) (x : flat.Frame) (xs : List flat.Frame)
        → region_start g.sizes StructureValues + w.caller.charged ≤ limit
        → IsWaitingAs (world_of g k o m) c.layout callee mark w x xs
        → IsWaitingAs (world_of g k o m') c.layout callee mark w x xs
    waiting_in callee mark w x xs low h = record {
      function = h.function;
      code = h.code;
      there = h.there;
      low = h.low;
      into = h.into;
      behind = h.behind;
      leads = h.leads;
      awaits = h.awaits;
      below = h.below;
      holds = holds_in g k o m m' (record {
        tac = c.layout.expansion.code;
        code = h.code;
        charged = w.caller.charged;
        entries = c.layout.expansion.entries w.function w.node;
        contents = c.layout.expansion.contents w.function w.node;
        unknown = λ i. i == w.place;
      }) (λ i. i == w.place) w.temps w.caller.plain w.caller.frame x.values (λ i e. e)
          (λ i e j lt.
          let own = area_last g.sizes c.layout.expansion.code h.code w.caller.charged i
          (areas.each w.function h.code h.there)
          (let room = room_is w.function h.code h.there in let charge = h.charge in omega arith) in
          same (area_of g.sizes c.layout.expansion.code h.code w.caller.charged i + j) (omega arith) (omega arith))
          h.holds;
      charge = h.charge;
      fits = h.fits;
    }

    body_in : (code : CodeFunction) (stacked outer bound : ℕ) (homes : List Home) (values : flat.Values)
        → IsBodyAs (world_of g k o m) s code stacked outer bound homes values
        → IsBodyAs (world_of g k o m') s code stacked outer bound homes values
    body_in code stacked outer bound homes values h = record {
      by = by (has_objects (objects_of_body code)) h.by;
      mark = h.mark;
      within = h.within;
      own = h.own;
    }
      where
        by : (b : Bool) → BodyBy (world_of g k o m) s code stacked outer homes values b
            → BodyBy (world_of g k o m') s code stacked outer homes values b
        by true e = record {
          of_lock = e.of_lock;
          placed = e.placed;
          lock_is = e.lock_is;
          top_is = e.top_is;
          top_is_one = e.top_is_one;
        }
        by false e = e

    entered_in : (code : CodeFunction) (bound n : ℕ) (b : Block) (frame : List Home) (values : flat.Values)
        → IsEnteredAs (world_of g k o m) s code bound n b frame values
        → IsEnteredAs (world_of g k o m') s code bound n b frame values
    entered_in code bound n b frame values h = record {
      some = h.some;
      block = record {
        of_lock = h.block.of_lock;
        placed = h.block.placed;
        lock_is = h.block.lock_is;
        top_is = h.block.top_is;
        top_is_one = h.block.top_is_one;
      };
      mark = h.mark;
      own = h.own;
      below = h.below;
      over = h.over;
      homes = homes_in g k o m m' code b.frame values h.homes;
    }

    -- the areas of all functions that wait lie below the charge of their calls
    pub waits_in : (v : Level) (ws : List Frame) (xs : List flat.Frame)
        → region_start g.sizes StructureValues + rooms false c.layout.program xs ≤ limit
        → AllWait (world_of g k o m) s c.layout first v ws xs → AllWait (world_of g k o m') s c.layout first v ws xs
    unfolding rooms body_in entered_in waiting_in
    waits_in v [] [] low h = h
    waits_in v [] (x ∷ []) low h = (body_in v.code v.stacked first v.bound v.frame v.values h.0, h.1)
    waits_in v [] (x ∷ y ∷ xs) low h = h
    waits_in v (Entered n b ∷ ws) xs low h = (
      entered_in v.code v.bound n b v.frame v.values h.0,
      waits_in (record v { stacked = b.stacked; frame = b.frame; bound = h.0.mark }) ws xs low h.1,
    )
    waits_in v (Waits a ∷ ws) [] low h = h
    waits_in v (Waits a ∷ ws) (x ∷ xs) low h =
        let e = h.1 in
        let is = ap (λ z. room_if false (function_in c.layout.program z)) e.function in
        let charge = e.charge in
        let own : region_start g.sizes StructureValues + a.caller.charged ≤ limit = omega arith in (
          body_in v.code v.stacked a.caller.stacked v.bound v.frame v.values h.0,
          waiting_in v.code h.0.mark a x xs own e,
          waits_in (record {
            code = e.code;
            values = x.values;
            stacked = a.caller.stacked;
            frame = a.caller.frame;
            bound = h.0.mark;
          }) ws xs (omega arith) h.2,
        )

  -- ---- the charge

  entry_room : (q : Option FlatFunction) → EntersAt c.layout.expansion q → room_if false q ≡ 0
  entry_room None h = absurd h
  entry_room (Some f) h = ap (λ b. if b then 0 else f.room) h.of_runtime

  -- the charge of the calls that wait is a multiple of 8
  pub charge_whole : (w : World) (s : State) (first : ℕ) (v : Level) (ws : List Frame) (xs : List flat.Frame)
      → AllWait w s c.layout first v ws xs → rooms false c.layout.program xs % 8 ≡ 0
  unfolding rooms
  charge_whole w s first v [] [] h = absurd h
  charge_whole w s first v [] (x ∷ []) h =
      let none = entry_room (function_in c.layout.program c.layout.program.entry) right.expanded.enters in
      let is = ap (λ z. room_if false (function_in c.layout.program z)) h.1.0 in
      omega arith
  charge_whole w s first v [] (x ∷ y ∷ xs) h = absurd h
  charge_whole w s first v (Entered n b ∷ ws) xs h =
      charge_whole w s first (record v { stacked = b.stacked; frame = b.frame; bound = h.0.mark }) ws xs h.1
  charge_whole w s first v (Waits a ∷ ws) [] h = absurd h
  charge_whole w s first v (Waits a ∷ ws) (x ∷ xs) h =
      let room = room_is a.function h.1.code h.1.there in
      let own = (areas.each a.function h.1.code h.1.there).whole in
      let is = ap (λ z. room_if false (function_in c.layout.program z)) h.1.function in
      let rest = charge_whole w s first (record {
        code = h.1.code;
        values = x.values;
        stacked = a.caller.stacked;
        frame = a.caller.frame;
        bound = h.0.mark;
      }) ws xs h.2 in
      omega arith
