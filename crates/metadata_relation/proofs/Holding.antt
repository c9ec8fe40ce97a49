-- Registers hold on what they held: while objects go on and keys are added, and where one of them gets a value.
use Rattle.std.proofs.Common.{◌≡◌, ◌≢◌, ◌⊎◌, ⊎_elim, inl, inr, ℕ, suc, ◌+◌, ◌<◌, ◌≤◌, Bool, true, false, List}
use Rattle.std.proofs.Common.{length, length-set, set, Option, Some, None, refl, sym, ap, ap₂, ◌∙◌, subst, arith}
use Rattle.std.proofs.Common.{get_or}
use Rattle.std.proofs.lemmas.List.{get_or-set_same, get_or-set_other}
use Rattle.std.proofs.lemmas.Option.{same_Some}
use Rattle.std.specs.Prelude.{◌==◌, if◌then◌else◌}
use Rattle.std.proofs.lemmas.Bool.{eqb-true, eqb-false}
use Rattle.addr_map.specs.declared.region.Region.TheVariants.{StructureValues}
use Rattle.addr_map.specs.Places.{MapSizes, region_start}
use Rattle.obj_memory.specs.declared.value.Tag.{Tag}
use Rattle.obj_memory.specs.declared.value.Tag.TheVariants.{Untagged, OfFunction, OfObject}
use Rattle.obj_memory.specs.declared.value.Value.{Value}
use Rattle.obj_memory.specs.declared.value.Scalar.{Scalar}
use Rattle.obj_memory.specs.Objects.{ObjectState, Objects, object_at, pointer_to}
use Rattle.obj_memory.specs.Heap.{is_allocated}
use Rattle.obj_memory.specs.Sound.{Continues, IsSoundTag}
use Rattle.obj_memory.proofs.Continuing.{continues_same}
use Rattle.obj_memory.proofs.Soundness.{sound_tag_continues, sound_object_continues}
use Rattle.source_meaning.specs.State.{Rvalue, Home, NoObject, InObject}
use Rattle.source_meaning.specs.Actions.{integer}
use Rattle.source_meaning.specs.Good.{plain_type}
use Rattle.source_meaning.proofs.Holding.{live_made}
use Rattle.tac_ir.specs.declared.function.CodeFunction.{CodeFunction}
use Rattle.tac_ir.specs.Stage.{Temps, with_temp}
use Rattle.tac_ir.specs.Structures.{greatest_structure}
use Rattle.flat_code.specs.Memory.{Bytes}
use Rattle.flat_code.specs.State as flat
use Rattle.flat_code.specs.Routines.Metadata.{metadata_in}
use Rattle.flat_code.specs.Routines.Objects.StandsFor.{Views, Keys, Holding, Spells, spell}
use Rattle.flat_code.proofs.Routines.Words.{same_metadata}
use Rattle.flat_actions.specs.Actions.{KeepsHeld}
use Rattle.flat_actions.proofs.Standing.{keeps_same}
use Rattle.lib_wrappers.proofs.AreaRoutines.Areas.{area_kept, area_same}
use Rattle.runtime_functions.specs.Library.{held_from}
use Rattle.metadata_plan.specs.Registers.{all_variables, most_temporaries}
use Rattle.metadata_relation.specs.Registers.{entry_from, variable_register, variables_end, home_register, homes_end}
use Rattle.metadata_relation.specs.Registers.{temporary_register, moved_register, first_free}
use Rattle.metadata_relation.specs.Holding.{World, GoesOn, world_of, IsHeldAt, area_of, IsContentsAt, IsRvalueAt}
use Rattle.metadata_relation.specs.Holding.{IsTemporary}
use Rattle.metadata_relation.specs.Holding.{is_pointer_type, IsPartEntry, IsPlain, IsHome, HasHomes, Activation, Holds}
use Rattle.metadata_relation.proofs.Registers.{count_of, count_in, few_in, some_in, variable_low, variables_apart}
use Rattle.metadata_relation.proofs.Registers.{home_low, temporaries_apart}

-- ---- registers that stay

abbrev pub Stay : (register count : ℕ) → (values after : flat.Values) → Type 0
Stay r n values after = (j : ℕ) → j < n → after (r + j) ≡ values (r + j)

pub first_stays : (r n : ℕ) (values after : flat.Values) → 1 ≤ n → Stay r n values after → after r ≡ values r
first_stays r n values after some same =
    let e : r + 0 ≡ r = omega arith in
    subst (λ z. after z ≡ values z) e (same 0 (omega arith))

pub entry_stays : (r : ℕ) (values after : flat.Values) → Stay r 5 values after
    → metadata_in after (held_from r).tag ≡ metadata_in values (held_from r).tag
entry_stays r values after same =
    same_metadata (metadata_in after (held_from r).tag) (metadata_in values (held_from r).tag) (same 1 (omega arith))
    (same 2 (omega arith)) (same 3 (omega arith)) (same 4 (omega arith))

home_stays : (r : ℕ) (values after : flat.Values) → Stay r 4 values after
    → metadata_in after (entry_from r) ≡ metadata_in values (entry_from r)
home_stays r values after same =
    same_metadata (metadata_in after (entry_from r)) (metadata_in values (entry_from r))
    (first_stays r 4 values after (omega arith) same) (same 1 (omega arith)) (same 2 (omega arith)) (same 3 (omega arith))

-- ---- what goes on

pub same_world : (g : Views) (k : Keys) (objects : Objects) (m : Bytes) → GoesOn g k k objects objects m m
same_world g k objects m = record {
  held = keeps_same objects k;
  continues = continues_same objects;
  behind = λ b le lt. refl;
}

-- a sound tag has the same entry, where objects keep their keys
pub spell_kept : (g : Views) (k k' : Keys) (objects : Objects) → KeepsHeld objects k k' → (t : Tag)
    → IsSoundTag g.functions objects t → spell g k' t ≡ spell g k t
spell_kept g k k' objects h Untagged sound = refl
spell_kept g k k' objects h (OfFunction f) sound = refl
spell_kept g k k' objects h (OfObject n b) sound =
    ap (λ (e : Holding). record { base = b.base; bound = b.bound; key = e.key; lock = e.lock }) (h.held n sound.made)

-- an object that stays where it is has the same pointer
pub pointer_kept : (old new : Objects) (n : ℕ) → Continues old new → n < length old
    → pointer_to n new ≡ pointer_to n old
unfolding pointer_to
pointer_kept old new n c lt =
    ap₂ (λ a z. record { word = a; tag = OfObject n (record { base = a; bound = a + z }) }) (c.address n lt) (c.size n lt)

module _ (g : Views) (k k' : Keys) (old new : Objects) (m m' : Bytes) (on : GoesOn g k k' old new m m') where
  abbrev w : World
  w = world_of g k old m

  abbrev w' : World
  w' = world_of g k' new m'

  pub held_on : (b : Bool) (v : Value) (r : ℕ) (values after : flat.Values) → Stay r (count_of b) values after
      → IsHeldAt (world_of g k old m) b v r values → IsHeldAt (world_of g k' new m') b v r after
  held_on b v r values after same h = record {
    word = first_stays r (count_of b) values after (some_in b) same ∙ h.word;
    entry = λ e. by b e same h;
    sound = sound_tag_continues g.functions old new on.continues v.tag h.sound;
  }
    where
      by : (b : Bool) → b ≡ true → Stay r (count_of b) values after → IsHeldAt (world_of g k old m) b v r values
          → Spells g k' v (held_from r) after
      by false e same h = cc
      by true e same h = record {
        word = first_stays r 5 values after (omega arith) same ∙ h.word;
        tag = entry_stays r values after same ∙ (h.entry refl).tag
            ∙ sym (spell_kept g k k' old on.held v.tag h.sound);
      }

  pub contents_on : (b : Bool) (v : Value) (c : ObjectState) (greatest a r : ℕ) (values after : flat.Values)
      → region_start g.sizes StructureValues ≤ a → Stay r (count_of b) values after
      → IsContentsAt (world_of g k old m) b v c greatest a r values
      → IsContentsAt (world_of g k' new m') b v c greatest a r after
  contents_on b v c greatest a r values after first same h = record {
    word = first_stays r (count_of b) values after (some_in b) same ∙ h.word;
    entry = λ e. by b e same h;
    place = h.place;
    small = h.small;
    area_is =
        let last = h.place.last in
        area_kept g k k' old c a m' on.held h.sound
        (area_same g k c a m m' (λ i lt. on.behind (a + i) (omega arith) (omega arith)) h.area_is);
    sound = sound_object_continues old new on.continues c h.sound;
    tagged = sound_tag_continues g.functions old new on.continues v.tag h.tagged;
  }
    where
      by : (b : Bool) → b ≡ true → Stay r (count_of b) values after
          → IsContentsAt (world_of g k old m) b v c greatest a r values → IsPartEntry (held_from r).tag c.size a after
      by false e same h = cc
      by true e same h =
          let p = h.entry refl in
          record {
            base = same 1 (omega arith) ∙ p.base;
            bound = same 2 (omega arith) ∙ p.bound;
            no_lock = same 4 (omega arith) ∙ p.no_lock;
          }

  pub temporary_on : (b may : Bool) (v : Rvalue) (greatest a r : ℕ) (values after : flat.Values)
      → region_start g.sizes StructureValues ≤ a → Stay r (count_of b) values after
      → IsTemporary (world_of g k old m) b may v greatest a r values
      → IsTemporary (world_of g k' new m') b may v greatest a r after
  temporary_on b may v greatest a r values after first same h = record { by = on_by v.contents h.by; none = h.none }
    where
      on_by : (c : Option ObjectState) → IsRvalueAt (world_of g k old m) b v.value c greatest a r values
          → IsRvalueAt (world_of g k' new m') b v.value c greatest a r after
      on_by None h = held_on b v.value r values after same h
      on_by (Some c) h = contents_on b v.value c greatest a r values after first same h

  pub plain_on : (t : Scalar) (v : Value) (r : ℕ) (values after : flat.Values) → Stay r (count_in t) values after
      → IsPlain (world_of g k old m) t v r values → IsPlain (world_of g k' new m') t v r after
  plain_on t v r values after same h = record {
    value = held_on (is_pointer_type t) v r values after same h.value;
    no_tag = h.no_tag;
  }

  pointer_spelled : (o : ℕ) → o < length old
      → spell g k (pointer_to o old).tag ≡ spell g k' (pointer_to o old).tag
  unfolding pointer_to
  pointer_spelled o lt =
      ap (λ (e : Holding). record {
        base = (object_at old o).address;
        bound = (object_at old o).address
            + (object_at old o).size;
        key = e.key;
        lock = e.lock;
      }) (sym (on.held.held o lt))

  -- an object that lives on keeps its home
  pub home_on : (o r : ℕ) (values after : flat.Values) → Stay r 4 values after
      → (object_at new o).is_live ≡ true → IsHome (world_of g k old m) o r values
      → IsHome (world_of g k' new m') o r after
  home_on o r values after same live h =
      let made = live_made old o h.live in
      record {
        live = live;
        held = ap is_allocated (on.continues.storage o made) ∙ h.held;
        entry = home_stays r values after same ∙ h.entry ∙ pointer_spelled o made
            ∙ ap (λ (v : Value). spell g k' v.tag) (sym (pointer_kept old new o on.continues made));
      }

  -- of some homes all objects live on
  abbrev pub LiveOn : List Home → Type 0
  LiveOn frame = (x o : ℕ) → get_or frame x NoObject ≡ InObject o → (object_at old o).is_live ≡ true
      → is_allocated (object_at old o).storage ≡ false → (object_at new o).is_live ≡ true

  pub homes_on : (c : CodeFunction) (frame : List Home) (values after : flat.Values) → LiveOn frame
      → ((r : ℕ) → variables_end c ≤ r → r < homes_end c → after r ≡ values r)
      → HasHomes (world_of g k old m) c frame values → HasHomes (world_of g k' new m') c frame after
  homes_on c frame values after lives same h = record {
    declared = h.declared;
    homes = λ x o is.
        (let low = home_low c x (h.declared x o is) in
        let home = h.homes x o is in
        home_on o (home_register c x) values after (λ j few. same (home_register c x + j) (omega arith) (omega arith))
        (lives x o is home.live home.held) home);
    automatic = λ x o is. on.continues.storage o (live_made old o (h.homes x o is).live) ∙ h.automatic x o is;
    sizes = λ x o is. on.continues.size o (live_made old o (h.homes x o is).live) ∙ h.sizes x o is;
  }

-- where an area begins
pub area_first : (map : MapSizes) (a : Activation) (i : ℕ)
    → region_start map StructureValues ≤ area_of map a.tac a.code a.charged i
area_first map a i = omega arith

-- ---- all registers of a function

-- the same function, where as many calls are charged: at another node, where other temporaries have entries, or others
-- are not known
abbrev pub at_node : Activation → (entries contents unknown : ℕ → Bool) → Activation
at_node a entries contents unknown = record a { entries = entries; contents = contents; unknown = unknown }

-- no temporary but one has an entry that had none before, has no contents where it might have had some, or is known that
-- was not
pub record AreFewer (d : ℕ) (a : Activation) (entries contents unknown : ℕ → Bool) : Type 0 where
  pub kept : (i : ℕ) → i ≢ d → entries i ≡ true → a.entries i ≡ true
  pub plain : (i : ℕ) → i ≢ d → contents i ≡ false → a.contents i ≡ false
  pub known : (i : ℕ) → i ≢ d → unknown i ≡ false → a.unknown i ≡ false

module _ (g : Views) (k k' : Keys) (old new : Objects) (m m' : Bytes) (on : GoesOn g k k' old new m m')
    (a : Activation) where
  -- all registers of a function below its free ones stay, but some from one on
  abbrev pub StayBut : (register count : ℕ) → (values after : flat.Values) → Type 0
  StayBut r n values after = (q : ℕ) → q < first_free a.code → (q < r) ⊎ (r + n ≤ q) → after q ≡ values q

  abbrev c : CodeFunction
  c = a.code

  -- a temporary of which less is asked
  lesser : (b b' may may' : Bool) → (b' ≡ true → b ≡ true) → (may' ≡ false → may ≡ false) → (v : Rvalue)
      (greatest at r : ℕ) (values : flat.Values)
      → IsTemporary (world_of g k' new m') b may v greatest at r values
      → IsTemporary (world_of g k' new m') b' may' v greatest at r values
  lesser b b' may may' less none v greatest at r values h =
      record { by = by v.contents h.by; none = λ e. h.none (none e) }
    where
      by : (o : Option ObjectState) → IsRvalueAt (world_of g k' new m') b v.value o greatest at r values
          → IsRvalueAt (world_of g k' new m') b' v.value o greatest at r values
      by None h = record { word = h.word; entry = λ e. h.entry (less e); sound = h.sound }
      by (Some o) h = record {
        word = h.word;
        entry = λ e. h.entry (less e);
        place = h.place;
        small = h.small;
        area_is = h.area_is;
        sound = h.sound;
        tagged = h.tagged;
      }

  pub variables_on : (plain : List Value) (values after : flat.Values)
      → ((r : ℕ) → r < variables_end a.code → after r ≡ values r)
      → ((x : ℕ) (t : Scalar) → plain_type (all_variables a.code) x ≡ Some t
      → IsPlain (world_of g k old m) t (get_or plain x (integer 0)) (variable_register a.code x) values)
      → (x : ℕ) (t : Scalar) → plain_type (all_variables a.code) x ≡ Some t
      → IsPlain (world_of g k' new m') t (get_or plain x (integer 0)) (variable_register a.code x) after
  variables_on plain values after same h x t e =
      let low = variable_low a.code x t e in
      plain_on g k k' old new m m' on t (get_or plain x (integer 0)) (variable_register a.code x) values after
      (λ j few. same (variable_register a.code x + j) (omega arith)) (h x t e)

  pub temporaries_on : (d : ℕ) (entries' contents' unknown' : ℕ → Bool) → AreFewer d a entries' contents' unknown'
      → (temps : Temps) (values after : flat.Values) (i : ℕ) → i ≢ d → i < most_temporaries a.code.code
      → ((j : ℕ) → j < 5 → after (temporary_register a.code i + j) ≡ values (temporary_register a.code i + j))
      → ((i : ℕ) → i < most_temporaries a.code.code → a.unknown i ≡ false
      → IsTemporary (world_of g k old m) (a.entries i) (a.contents i) (temps i) (greatest_structure a.tac a.code.code i)
      (area_of g.sizes a.tac a.code a.charged i) (temporary_register a.code i) values)
      → unknown' i ≡ false
      → IsTemporary (world_of g k' new m') (entries' i) (contents' i) (temps i) (greatest_structure a.tac a.code.code i)
      (area_of g.sizes a.tac a.code a.charged i) (temporary_register a.code i) after
  temporaries_on d entries' contents' unknown' fewer temps values after i ne lt same h known =
      let few = few_in (a.entries i) in
      lesser (a.entries i) (entries' i) (a.contents i) (contents' i) (fewer.kept i ne) (fewer.plain i ne) (temps i) (greatest_structure a.tac a.code.code i)
      (area_of g.sizes a.tac a.code a.charged i) (temporary_register a.code i) after
      (temporary_on g k k' old new m m' on (a.entries i) (a.contents i) (temps i) (greatest_structure a.tac a.code.code i)
      (area_of g.sizes a.tac a.code a.charged i) (temporary_register a.code i) values after (area_first g.sizes a i)
      (λ j lt. same j (omega arith)) (h i lt (fewer.known i ne known)))

  -- all but some below the registers of arguments that are moved
  abbrev pub StayBelow : (register count : ℕ) → (values after : flat.Values) → Type 0
  StayBelow r n values after = (q : ℕ) → q < moved_register a.code 0 → (q < r) ⊎ (r + n ≤ q) → after q ≡ values q

  -- One temporary gets a value, in its registers alone; arguments of calls may have moved.
  pub gives_called : (entries' contents' unknown' : ℕ → Bool) (temps : Temps) (plain : List Value) (frame : List Home)
      (values after : flat.Values) (d : ℕ) (v : Rvalue) → d < most_temporaries a.code.code
      → AreFewer d a entries' contents' unknown'
      → LiveOn g k k' old new m m' on frame → StayBelow (temporary_register a.code d) 5 values after
      → IsTemporary (world_of g k' new m') (entries' d) (contents' d) v (greatest_structure a.tac a.code.code d)
      (area_of g.sizes a.tac a.code a.charged d) (temporary_register a.code d) after
      → Holds (world_of g k old m) a temps plain frame values
      → Holds (world_of g k' new m') (at_node a entries' contents' unknown') (with_temp temps d v) plain frame after
  gives_called entries' contents' unknown' temps plain frame values after d v low fewer lives same given h = record {
    temporaries = λ i lt known. by i lt known (i == d) refl;
    variables = variables_on plain values after (λ r lt. same r (omega arith) (inl (omega arith))) h.variables;
    homes = homes_on g k k' old new m m' on a.code frame values after lives
        (λ r from lt. same r (omega arith) (inl (omega arith))) h.homes;
    count = h.count;
  }
    where
      by : (i : ℕ) → i < most_temporaries a.code.code → unknown' i ≡ false → (b : Bool) → (i == d) ≡ b
          → IsTemporary (world_of g k' new m') (entries' i) (contents' i) (if b then v else temps i)
          (greatest_structure a.tac a.code.code i) (area_of g.sizes a.tac a.code a.charged i)
          (temporary_register a.code i) after
      by i lt known true e =
          subst (λ z. IsTemporary (world_of g k' new m') (entries' z) (contents' z) v (greatest_structure a.tac a.code.code z)
          (area_of g.sizes a.tac a.code a.charged z) (temporary_register a.code z) after) (sym (eqb-true i d e)) given
      by i lt known false e =
          let ne = eqb-false i d e in
          temporaries_on d entries' contents' unknown' fewer temps values after i ne lt
          (λ j few. same (temporary_register a.code i + j) (omega arith)
          (⊎_elim (λ below. inl (omega arith)) (λ above. inr (omega arith)) (temporaries_apart a.code i d ne)))
          h.temporaries known

  -- One temporary gets a value, in its registers alone.
  pub gives_temporary : (entries' contents' unknown' : ℕ → Bool) (temps : Temps) (plain : List Value) (frame : List Home)
      (values after : flat.Values) (d : ℕ) (v : Rvalue) → d < most_temporaries a.code.code
      → AreFewer d a entries' contents' unknown'
      → LiveOn g k k' old new m m' on frame → StayBut (temporary_register a.code d) 5 values after
      → IsTemporary (world_of g k' new m') (entries' d) (contents' d) v (greatest_structure a.tac a.code.code d)
      (area_of g.sizes a.tac a.code a.charged d) (temporary_register a.code d) after
      → Holds (world_of g k old m) a temps plain frame values
      → Holds (world_of g k' new m') (at_node a entries' contents' unknown') (with_temp temps d v) plain frame after
  gives_temporary entries' contents' unknown' temps plain frame values after d v low fewer lives same given h =
      gives_called entries' contents' unknown' temps plain frame values after d v low fewer lives
      (λ q lt out. same q (omega arith) out) given h

  -- No register below the free ones changes.
  pub holds_on : (entries' contents' : ℕ → Bool) (temps : Temps) (plain : List Value) (frame : List Home)
      (values after : flat.Values) → ((i : ℕ) → entries' i ≡ true → a.entries i ≡ true)
      → ((i : ℕ) → contents' i ≡ false → a.contents i ≡ false)
      → LiveOn g k k' old new m m' on frame → ((r : ℕ) → r < first_free a.code → after r ≡ values r)
      → Holds (world_of g k old m) a temps plain frame values
      → Holds (world_of g k' new m') (at_node a entries' contents' a.unknown) temps plain frame after
  holds_on entries' contents' temps plain frame values after fewer none lives same h = record {
    temporaries = λ i lt known.
        temporaries_on (suc i) entries' contents' a.unknown
        (record { kept = λ j ne e. fewer j e; plain = λ j ne e. none j e; known = λ j ne e. e }) temps values after i (λ e. omega arith) lt
        (λ j few. same (temporary_register a.code i + j) (omega arith)) h.temporaries known;
    variables = variables_on plain values after (λ r lt. same r (omega arith)) h.variables;
    homes = homes_on g k k' old new m m' on a.code frame values after lives (λ r from lt. same r (omega arith)) h.homes;
    count = h.count;
  }

  -- One plain variable gets a value, in its registers alone.
  pub gives_variable : (entries' contents' : ℕ → Bool) (temps : Temps) (plain : List Value) (frame : List Home)
      (values after : flat.Values) (x : ℕ) (t : Scalar) (value : Value)
      → plain_type (all_variables a.code) x ≡ Some t → x < length plain
      → ((i : ℕ) → entries' i ≡ true → a.entries i ≡ true)
      → ((i : ℕ) → contents' i ≡ false → a.contents i ≡ false)
      → LiveOn g k k' old new m m' on frame → StayBut (variable_register a.code x) (count_in t) values after
      → IsPlain (world_of g k' new m') t value (variable_register a.code x) after
      → Holds (world_of g k old m) a temps plain frame values
      → Holds (world_of g k' new m') (at_node a entries' contents' a.unknown) temps (set plain x value) frame after
  gives_variable entries' contents' temps plain frame values after x t value typed inside fewer none lives same given h =
      let low = variable_low a.code x t typed in
      record {
        temporaries = λ i lt known.
            temporaries_on (suc i) entries' contents' a.unknown
            (record { kept = λ j ne e. fewer j e; plain = λ j ne e. none j e; known = λ j ne e. e }) temps values after i
            (λ e. omega arith) lt
            (λ j few. same (temporary_register a.code i + j) (omega arith) (inr (omega arith))) h.temporaries known;
        variables = λ y q e. by y q e (y == x) refl;
        homes = homes_on g k k' old new m m' on a.code frame values after lives
            (λ r from lt. same r (omega arith) (inr (omega arith))) h.homes;
        count = length-set plain x value ∙ h.count;
      }
    where
      by : (y : ℕ) (q : Scalar) → plain_type (all_variables a.code) y ≡ Some q → (b : Bool) → (y == x) ≡ b
          → IsPlain (world_of g k' new m') q (get_or (set plain x value) y (integer 0)) (variable_register a.code y) after
      by y q e true is =
          let one : y ≡ x = eqb-true y x is in
          let type : t ≡ q = same_Some t q (sym typed ∙ ap (plain_type (all_variables a.code)) (sym one) ∙ e) in
          subst (λ z. IsPlain (world_of g k' new m') q (get_or (set plain x value) z (integer 0))
          (variable_register a.code z) after) (sym one)
          (subst (λ z. IsPlain (world_of g k' new m') q z (variable_register a.code x) after)
          (sym (get_or-set_same plain x value (integer 0) inside))
          (subst (λ z. IsPlain (world_of g k' new m') z value (variable_register a.code x) after) type given))
      by y q e false is =
          let ne = eqb-false y x is in
          let low = variable_low a.code y q e in
          subst (λ z. IsPlain (world_of g k' new m') q z (variable_register a.code y) after)
          (sym (get_or-set_other plain x y value (integer 0) ne))
          (plain_on g k k' old new m m' on q (get_or plain y (integer 0)) (variable_register a.code y) values after
          (λ j few. same (variable_register a.code y + j) (omega arith)
          (⊎_elim (λ below. inl (omega arith)) (λ above. inr (omega arith))
          (variables_apart a.code y x q t e typed ne))) (h.variables y q e))
