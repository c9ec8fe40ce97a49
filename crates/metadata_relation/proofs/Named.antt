-- Pointers to what has a name: static objects and functions. Their words and entries are constants.
use Rattle.std.proofs.Common.{◌≡◌, ◌≢◌, ◌⊎◌, inl, inr, ℕ, ◌+◌, ◌-◌, ◌*◌, ◌^◌, ◌<◌, ◌≤◌, Bool, true, false, List}
use Rattle.std.proofs.Common.{◌++◌, length, length-append, Some, refl, sym, ◌∙◌, subst, arith, ltb-true}
use Rattle.std.specs.Prelude.{slice_get, nat_lt}
use Rattle.addr_map.specs.declared.region.Region.TheVariants.{Globals, Locks}
use Rattle.addr_map.specs.Places.{MapSizes, function_address, region_start}
use Rattle.obj_memory.specs.declared.value.Value.{Value}
use Rattle.obj_memory.specs.Objects.{Objects, object_at, pointer_to}
use Rattle.obj_memory.specs.Sound.{Continues, IsSoundTag}
use Rattle.obj_memory.proofs.Judging.{sound_pointer}
use Rattle.source_meaning.specs.State.{State}
use Rattle.source_meaning.specs.Expressions.{function_pointer}
use Rattle.source_meaning.specs.Structures.{rvalue}
use Rattle.tac_ir.specs.declared.instruction.Instruction.{Instruction}
use Rattle.tac_ir.specs.declared.instruction.Instruction.TheVariants as tac
use Rattle.tac_ir.specs.Edges.{LeadsTo}
use Rattle.tac_ir.specs.Stage.{Temps, with_temp, Frame, Stage, Stands}
use Rattle.tac_ir.specs.Costs.{spent}
use Rattle.tac_ir.specs.Meaning.{effect, placed_data}
use Rattle.flat_code.specs.declared.instruction.FlatInstruction.{FlatInstruction}
use Rattle.flat_code.specs.declared.function.FlatProgram.{FlatProgram}
use Rattle.flat_code.specs.Memory.{Bytes}
use Rattle.flat_code.specs.State as flat
use Rattle.flat_code.specs.Calls.{function_in}
use Rattle.flat_code.specs.Meaning.{body_of}
use Rattle.flat_code.specs.Words.{HasWords}
use Rattle.flat_code.specs.Routines.Metadata.{Metadata, metadata_in}
use Rattle.flat_code.specs.Routines.Objects.StandsFor.{Views, Keys, spell}
use Rattle.flat_code.specs.Routines.Routine.{HasAt}
use Rattle.flat_code.proofs.Routines.Regions.{laid_out, spaces_follow}
use Rattle.flat_code.proofs.Routines.Steps.{has_front, has_back}
use Rattle.flat_code.proofs.Routines.Words.{same_metadata}
use Rattle.runtime_functions.specs.Library.{held_from}
use Rattle.metadata_plan.specs.Registers.{most_temporaries}
use Rattle.metadata_plan.specs.Entries.{given}
use Rattle.metadata_plan.specs.Expanded.{Leads}
use Rattle.metadata_plan.specs.Operators.{OperatorCode, AreOperators}
use Rattle.metadata_plan.proofs.Constants.{constant_most, short_constant, most_constant, any_constant}
use Rattle.metadata_relation.specs.Registers.{temporary_register, first_free}
use Rattle.metadata_relation.specs.Blocks.{entry_constants, entry_constants_if}
use Rattle.metadata_relation.specs.Holding.{IsHeldAt}
use Rattle.metadata_relation.specs.Stages.{factor, Compiled, map_of, views, world, expansion_of, IsAt}
use Rattle.metadata_relation.specs.Steps.{IsCompiled}
use Rattle.metadata_relation.proofs.Assigning.{wider, not_into}
use Rattle.metadata_relation.proofs.Giving.{gives_value}
use Rattle.metadata_relation.proofs.Holding.{pointer_kept}
use Rattle.metadata_relation.proofs.Parts.{SoFar, moment, at_first, stands_here, then_computed}
use Rattle.metadata_relation.proofs.Registers.{temporary_free}
use Rattle.metadata_relation.proofs.Statics.{placed_static, static_here}
use Rattle.metadata_relation.proofs.Standing.{IsNode, node, leads_on, Result}

-- ---- the numbers of an entry

-- the four numbers stand behind a register, and all others below the scratch registers are as they were
pub record IsEntryIn (register scratch : ℕ) (entry : Metadata) (values after : flat.Values) : Type 0 where
  pub entry_is : metadata_in after (held_from register).tag ≡ entry
  pub others : (y : ℕ) → y < scratch → (y < register + 1) ⊎ (register + 5 ≤ y) → after y ≡ values y

-- the four are words
pub record AreWords (base bound key lock : ℕ) : Type 0 where
  pub base_low : base < 2 ^ 64
  pub bound_low : bound < 2 ^ 64
  pub key_low : key < 2 ^ 64
  pub lock_low : lock < 2 ^ 64

abbrev pub entry_most : (base bound key lock : ℕ) → ℕ
entry_most base bound key lock =
    constant_most base * 2 + constant_most bound * 2 + constant_most key * 2 + constant_most lock * 2

beside : (y r j : ℕ) → (y < r + 1) ⊎ (r + 5 ≤ y) → 1 ≤ j → j < 5 → y ≢ r + j
beside y r j (inl below) from to e = absurd (omega arith)
beside y r j (inr above) from to e = absurd (omega arith)

module _ (o : OperatorCode) (ops : AreOperators o) (m : MapSizes) (p : FlatProgram) (u pc : ℕ) (v : flat.State)
    (xs : List flat.Frame) (words : HasWords (flat.Stands u pc v xs)) where
  -- the entry is made
  pub record EntryMade (place most register scratch : ℕ) (entry : Metadata) (before : flat.Values) : Type 0 where
    pub values : flat.Values
    pub comes : SoFar m p u pc v xs words place values most
    pub is : IsEntryIn register scratch entry before values

  pub entry_made : (q : ℕ) (a : flat.Values) (k : ℕ) → SoFar m p u pc v xs words q a k
      → (r base bound key lock s : ℕ) → r + 5 ≤ s → AreWords base bound key lock
      → HasAt (body_of (function_in p u)) q (entry_constants o (held_from r).tag base bound key lock s)
      → EntryMade (q + length (entry_constants o (held_from r).tag base bound key lock s))
      (k + entry_most base bound key lock) r s (record { base = base; bound = bound; key = key; lock = lock }) a
  entry_made q a k K r base bound key lock s low fit has =
      let code = body_of (function_in p u) in
      let c1 = o.constant (r + 1) base s in
      let c2 = o.constant (r + 2) bound s in
      let c3 = o.constant (r + 3) key s in
      let c4 = o.constant (r + 4) lock s in
      let rest1 = has_back code q c1 (c2 ++ (c3 ++ c4)) has in
      let q1 = q + length c1 in
      let rest2 = has_back code q1 c2 (c3 ++ c4) rest1 in
      let q2 = q1 + length c2 in
      let rest3 = has_back code q2 c3 c4 rest2 in
      let q3 = q2 + length c3 in
      let m1 = constant_most base * 2 in
      let m2 = constant_most bound * 2 in
      let m3 = constant_most key * 2 in
      let m4 = constant_most lock * 2 in
      let r1 = any_constant o ops m p (moment m p u pc v xs words q a k K) (r + 1) base s (omega arith) fit.base_low
      (stands_here m p u pc v xs words q a k K c1 (has_front code q c1 (c2 ++ (c3 ++ c4)) has)) in
      let k1 = k + m1 in
      let j1 = then_computed m p u pc v xs words q a k K q1 (r + 1) base s (constant_most base) r1 in
      let r2 = any_constant o ops m p (moment m p u pc v xs words q1 r1.after k1 j1) (r + 2) bound s (omega arith)
      fit.bound_low
      (stands_here m p u pc v xs words q1 r1.after k1 j1 c2 (has_front code q1 c2 (c3 ++ c4) rest1)) in
      let k2 = k1 + m2 in
      let j2 = then_computed m p u pc v xs words q1 r1.after k1 j1 q2 (r + 2) bound s (constant_most bound) r2 in
      let r3 = any_constant o ops m p (moment m p u pc v xs words q2 r2.after k2 j2) (r + 3) key s (omega arith) fit.key_low
      (stands_here m p u pc v xs words q2 r2.after k2 j2 c3 (has_front code q2 c3 c4 rest2)) in
      let k3 = k2 + m3 in
      let j3 = then_computed m p u pc v xs words q2 r2.after k2 j2 q3 (r + 3) key s (constant_most key) r3 in
      let r4 = any_constant o ops m p (moment m p u pc v xs words q3 r3.after k3 j3) (r + 4) lock s (omega arith) fit.lock_low
      (stands_here m p u pc v xs words q3 r3.after k3 j3 c4 rest3) in
      let k4 = k3 + m4 in
      let q4 = q3 + length c4 in
      let j4 = then_computed m p u pc v xs words q3 r3.after k3 j3 q4 (r + 4) lock s (constant_most lock) r4 in
      let place : q4 ≡ q + length (c1 ++ (c2 ++ (c3 ++ c4))) = omega (
        arith,
        length-append c1 (c2 ++ (c3 ++ c4)),
        length-append c2 (c3 ++ c4),
        length-append c3 c4,
      ) in
      let most : k4 ≡ k + (m1 + m2 + m3 + m4) = omega arith in
      record {
        values = r4.after;
        comes = subst (λ z. SoFar m p u pc v xs words (q + length (c1 ++ (c2 ++ (c3 ++ c4)))) r4.after z) most
            (subst (λ z. SoFar m p u pc v xs words z r4.after k4) place j4);
        is = record {
          entry_is = same_metadata (metadata_in r4.after (held_from r).tag)
              (record { base = base; bound = bound; key = key; lock = lock })
              (r4.others (r + 1) (omega arith) (λ e. omega arith) ∙ r3.others (r + 1) (omega arith) (λ e. omega arith)
              ∙ r2.others (r + 1) (omega arith) (λ e. omega arith) ∙ r1.gives)
              (r4.others (r + 2) (omega arith) (λ e. omega arith) ∙ r3.others (r + 2) (omega arith) (λ e. omega arith)
              ∙ r2.gives)
              (r4.others (r + 3) (omega arith) (λ e. omega arith) ∙ r3.gives)
              r4.gives;
          others = λ y lt out.
              r4.others y lt (beside y r 4 out (omega arith) (omega arith))
              ∙ r3.others y lt (beside y r 3 out (omega arith) (omega arith))
              ∙ r2.others y lt (beside y r 2 out (omega arith) (omega arith))
              ∙ r1.others y lt (beside y r 1 out (omega arith) (omega arith));
        };
      }

-- ---- static objects

-- a pointer to an object is spelled by its place, and by the key and the lock word that the object has
pointer_is : (g : Views) (k : Keys) (n key lock : ℕ) (objects : Objects) → (k.held n).key ≡ key → (k.held n).lock ≡ lock
    → ((pointer_to n objects).word ≡ (object_at objects n).address)
    × (spell g k (pointer_to n objects).tag ≡ record {
      base = (object_at objects n).address;
      bound = (object_at objects n).address + (object_at objects n).size;
      key = key;
      lock = lock;
    })
unfolding pointer_to
pointer_is g k n key lock objects e f = (
  refl,
  same_metadata (spell g k (pointer_to n objects).tag) (record {
    base = (object_at objects n).address;
    bound = (object_at objects n).address + (object_at objects n).size;
    key = key;
    lock = lock;
  }) refl refl e f,
)

-- ---- the steps

module _ (c : Compiled) (IsGood : Bytes → Type 0) (right : IsCompiled c IsGood) (u n : ℕ) (temps : Temps)
    (ws : List Frame) (s : State) (v : flat.State) (xs : List flat.Frame)
    (h : IsAt c IsGood u n temps ws s u (c.layout.address u n) v xs)
    (words : HasWords (flat.Stands u (c.layout.address u n) v xs)) where
  abbrev pc : ℕ
  pc = c.layout.address u n

  abbrev T : (temporary : ℕ) → ℕ
  T i = temporary_register h.code i

  abbrev free : ℕ
  free = first_free h.code

  abbrev o : OperatorCode
  o = c.layout.expansion.inline.operators

  abbrev Gives : Stage → Type 0
  Gives a = Result c IsGood a (flat.Stands u (c.layout.address u n) v xs)

  abbrev body : List FlatInstruction
  body = body_of (function_in c.layout.program u)

  abbrev Far : (place : ℕ) (values : flat.Values) (most : ℕ) → Type 0
  Far place values most = SoFar (map_of c) c.layout.program u (c.layout.address u n) v xs words place values most

  abbrev Made : (place most register scratch : ℕ) (entry : Metadata) (before : flat.Values) → Type 0
  Made place most register scratch entry before = EntryMade c.layout.expansion.inline.operators right.inline.operators
      (map_of c) c.layout.program u (c.layout.address u n) v xs words place most register scratch entry before

  -- A temporary gets a pointer whose word and entry are constants.
  gives_constants : (i : Instruction) → IsNode c u n h.code i → (d next word base bound key lock : ℕ) (value : Value)
      → given i ≡ Some d → LeadsTo i next → d < most_temporaries h.code.code → word < 2 ^ 64
      → AreWords base bound key lock → value.word ≡ word
      → spell (views c) h.keys value.tag ≡ record { base = base; bound = bound; key = key; lock = lock }
      → IsSoundTag (views c).functions s.objects value.tag
      → HasAt body pc (o.constant (T d) word free
      ++ entry_constants_if o (c.layout.expansion.entries u next d) (held_from (T d)).tag base bound key lock free)
      → Leads body (pc + length (o.constant (T d) word free
      ++ entry_constants_if o (c.layout.expansion.entries u next d) (held_from (T d)).tag base bound key lock free))
      (c.layout.address u next)
      → constant_most word * 2 + entry_most base bound key lock ≤ 18
      → Gives (Stands u next (with_temp temps d (rvalue value)) ws (spent 1 s))
  gives_constants i k d next word base bound key lock value gives leads low fits fit is spelled sound has on few =
      by (c.layout.expansion.entries u next d) has on
      (λ values most held others comes le. gives_value c IsGood right u n temps ws s v xs h i k d next value values most
      (s.work + 1) gives leads low comes others held le)
    where
      room : temporary_register h.code d + 5 ≤ first_free h.code
      room = temporary_free h.code d low

      by : (b : Bool)
          → HasAt (body_of (function_in c.layout.program u)) (c.layout.address u n)
          (c.layout.expansion.inline.operators.constant (temporary_register h.code d) word (first_free h.code)
          ++ entry_constants_if c.layout.expansion.inline.operators b (held_from (temporary_register h.code d)).tag base
          bound key lock (first_free h.code))
          → Leads (body_of (function_in c.layout.program u)) (c.layout.address u n
          + length (c.layout.expansion.inline.operators.constant (temporary_register h.code d) word (first_free h.code)
          ++ entry_constants_if c.layout.expansion.inline.operators b (held_from (temporary_register h.code d)).tag base
          bound key lock (first_free h.code))) (c.layout.address u next)
          → ((values : flat.Values) (most : ℕ)
          → IsHeldAt (world c h.keys s v) b value (temporary_register h.code d) values
          → ((y : ℕ) → y < first_free h.code → (y < temporary_register h.code d)
          ⊎ (temporary_register h.code d + 5 ≤ y) → values y ≡ v.values y)
          → Far (c.layout.address u next) values most → most + factor * s.work ≤ factor * (s.work + 1)
          → Gives (Stands u next (with_temp temps d (rvalue value)) ws (spent 1 s)))
          → Gives (Stands u next (with_temp temps d (rvalue value)) ws (spent 1 s))
      by b has on finish =
          let first = o.constant (T d) word free in
          let rest = entry_constants_if o b (held_from (T d)).tag base bound key lock free in
          let begun : Far pc v.values 0 = at_first (map_of c) c.layout.program u pc v xs words in
          let r = any_constant o right.inline.operators (map_of c) c.layout.program
          (moment (map_of c) c.layout.program u pc v xs words pc v.values 0 begun) (T d) word free (omega (arith, room))
          fits
          (stands_here (map_of c) c.layout.program u pc v xs words pc v.values 0 begun first
          (has_front body pc first rest has)) in
          let K = then_computed (map_of c) c.layout.program u pc v xs words pc v.values 0 begun (pc + length first) (T d)
          word free (constant_most word) r in
          let end : pc + length (first ++ rest) ≡ pc + length first + length rest = omega (arith, length-append first rest) in
          behind b (pc + length first) r.after (0 + constant_most word * 2) K (r.gives ∙ sym is)
          (λ y lt ne. r.others y lt ne) (has_back body pc first rest has)
          (subst (λ z. Leads body z (c.layout.address u next)) end on) finish (omega (arith, few))
        where
          behind : (b : Bool) (q : ℕ) (a : flat.Values) (most : ℕ) → Far q a most
              → a (temporary_register h.code d) ≡ value.word
              → ((y : ℕ) → y < first_free h.code → y ≢ temporary_register h.code d → a y ≡ v.values y)
              → HasAt (body_of (function_in c.layout.program u)) q
              (entry_constants_if c.layout.expansion.inline.operators b (held_from (temporary_register h.code d)).tag base
              bound key lock (first_free h.code))
              → Leads (body_of (function_in c.layout.program u)) (q
              + length (entry_constants_if c.layout.expansion.inline.operators b
              (held_from (temporary_register h.code d)).tag base bound key lock (first_free h.code)))
              (c.layout.address u next)
              → ((values : flat.Values) (most : ℕ)
              → IsHeldAt (world c h.keys s v) b value (temporary_register h.code d) values
              → ((y : ℕ) → y < first_free h.code → (y < temporary_register h.code d)
              ⊎ (temporary_register h.code d + 5 ≤ y) → values y ≡ v.values y)
              → Far (c.layout.address u next) values most → most + factor * s.work ≤ factor * (s.work + 1)
              → Gives (Stands u next (with_temp temps d (rvalue value)) ws (spent 1 s)))
              → most + entry_most base bound key lock ≤ 18
              → Gives (Stands u next (with_temp temps d (rvalue value)) ws (spent 1 s))
          behind false q a most K here others has on finish few =
              finish a (most + 2)
              (record { word = here; entry = λ e. cc; sound = sound })
              (λ y lt out. others y lt (not_into y (T d) out))
              (leads_on c IsGood right u n temps ws s v xs h q (c.layout.address u next) (record v { values = a }) most K
              (subst (λ z. Leads body z (c.layout.address u next)) (omega arith) on))
              (omega (arith, few))
          behind true q a most K here others has on finish few =
              let made = entry_made o right.inline.operators (map_of c) c.layout.program u pc v xs words q a most K (T d)
              base bound key lock free room fit has in
              let end = q + length (entry_constants o (held_from (T d)).tag base bound key lock free) in
              let own : made.values (T d) ≡ value.word =
              made.is.others (T d) (omega (arith, room)) (inl (omega arith)) ∙ here in
              finish made.values (most + entry_most base bound key lock + 2)
              (record {
                word = own;
                entry = λ e. record { word = own; tag = made.is.entry_is ∙ sym spelled };
                sound = sound;
              })
              (λ y lt out. made.is.others y lt (wider y (T d) out) ∙ others y lt (not_into y (T d) out))
              (leads_on c IsGood right u n temps ws s v xs h end (c.layout.address u next)
              (record v { values = made.values }) (most + entry_most base bound key lock) made.comes on)
              (omega (arith, few))

  -- ---- functions

  pub function_pointer_step : (d f next : ℕ) → slice_get h.code.code n ≡ Some (tac.FunctionPointer d f next)
      → nat_lt f (length c.setting.functions) ≡ true
      → Gives (effect c.setting (expansion_of c).code (tac.FunctionPointer d f next) u temps ws (spent 1 s))
  unfolding function_address
  function_pointer_step d f next at fits =
      let i = tac.FunctionPointer d f next in
      let k = node c IsGood right u n temps ws s v xs h i at in
      let low : d < most_temporaries h.code.code = omega (arith, k.temporaries_low) in
      let there = ltb-true f (length c.setting.functions) fits in
      let few = right.few in
      let type = right.types f in
      let short : function_address f < 2 ^ 31 - 2 ^ 11 = omega (arith, there, few) in
      let address : constant_most (function_address f) ≡ 1 = short_constant (function_address f) short in
      let lock : constant_most 0 ≡ 1 = short_constant 0 (omega arith) in
      let key = most_constant (2 ^ 63 + c.layout.expansion.types f) in
      gives_constants i k d next (function_address f) (function_address f) (function_address f)
      (2 ^ 63 + c.layout.expansion.types f) 0 (function_pointer f) refl (inl refl) low (omega (arith, short))
      (record {
        base_low = omega (arith, short);
        bound_low = omega (arith, short);
        key_low = omega (arith, type);
        lock_low = omega arith;
      })
      refl refl there k.put.has k.put.leads (omega (arith, address, lock, key))

  -- ---- static objects

  pub static_pointer_step : (d x next : ℕ) → slice_get h.code.code n ≡ Some (tac.StaticPointer d x next)
      → nat_lt x (length c.layout.expansion.code.statics) ≡ true
      → Gives (effect c.setting (expansion_of c).code (tac.StaticPointer d x next) u temps ws (spent 1 s))
  static_pointer_step d x next at fits =
      let i = tac.StaticPointer d x next in
      let k = node c IsGood right u n temps ws s v xs h i at in
      let low : d < most_temporaries h.code.code = omega (arith, k.temporaries_low) in
      let there = ltb-true x (length c.layout.expansion.code.statics) fits in
      let statics = c.layout.expansion.code.statics in
      let first = region_start (map_of c) Globals in
      let old : Objects = placed_data first statics 0 in
      let on : Continues old s.objects =
      subst (λ z. Continues (placed_data (region_start z Globals) statics 0) s.objects) right.sizes h.steady.statics in
      let made = (placed_static first statics 0 x there).made in
      let here = static_here c right.sizes s.objects h.steady.statics x there in
      let now = here.made in
      let keyed = (h.stands.for.objects.keyed.each x now).static here.static in
      let placed = h.stands.for.objects.placed x (h.steady.statics_live x there) in
      let last = placed.last in
      let same_address = here.address in
      let same_size = here.size in
      let lies = laid_out (map_of c) right.mapped in
      let small = lies.small in
      let shadow = lies.few in
      let locks = (spaces_follow (map_of c)).shadow in
      let address = (object_at old x).address in
      let bound = (object_at old x).address + (object_at old x).size in
      let lock = region_start (map_of c) Locks in
      let short : bound < 2 ^ 31 - 2 ^ 11 = omega (arith, last, small, same_address, same_size) in
      let short_lock : lock < 2 ^ 31 - 2 ^ 11 = omega (arith, shadow, locks) in
      let m1 : constant_most address ≡ 1 = short_constant address (omega (arith, short)) in
      let m2 : constant_most bound ≡ 1 = short_constant bound short in
      let m3 : constant_most 1 ≡ 1 = short_constant 1 (omega arith) in
      let m4 : constant_most lock ≡ 1 = short_constant lock short_lock in
      let spelled = pointer_is (views c) h.keys x 1 lock old keyed.0 keyed.1 in
      let same = pointer_kept old s.objects x on made in
      subst (λ z. Gives (Stands u next (with_temp temps d (rvalue z)) ws (spent 1 s))) (sym same)
      (gives_constants i k d next address address bound 1 lock (pointer_to x old) refl (inl refl) low
      (omega (arith, short))
      (record {
        base_low = omega (arith, short);
        bound_low = omega (arith, short);
        key_low = omega arith;
        lock_low = omega (arith, short_lock);
      })
      spelled.0 spelled.1
      (subst (λ (z : Value). IsSoundTag (views c).functions s.objects z.tag) same
      (sound_pointer (views c).functions x s.objects now (omega (arith, last, small))))
      k.put.has k.put.leads (omega (arith, m1, m2, m3, m4)))
