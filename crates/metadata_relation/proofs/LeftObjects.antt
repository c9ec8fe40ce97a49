-- The objects of a block die where it is left, and the object stack ends where it did: what that leaves of memory,
-- objects and registers.
use Rattle.std.proofs.Common.{◌≡◌, ◌≢◌, inl, ℕ, ◌+◌, ◌<◌, true, false, List, []}
use Rattle.std.proofs.Common.{length, length-append, refl, sym, ap, ◌∙◌, subst, arith}
use Rattle.obj_memory.specs.declared.object.Storage.{Storage}
use Rattle.obj_memory.specs.declared.object.Storage.TheVariants.{Automatic, Static}
use Rattle.obj_memory.specs.Heap.{is_allocated}
use Rattle.obj_memory.specs.Objects.{object_at, Objects, ObjectState}
use Rattle.c_tree.specs.declared.program.Variable.{Variable}
use Rattle.source_meaning.specs.State.{State, Home}
use Rattle.source_meaning.specs.Blocks.{Block, leave_block, without_homes}
use Rattle.source_meaning.specs.Good.{EndsMade}
use Rattle.source_meaning.specs.Places.{statics_first}
use Rattle.source_meaning.proofs.ActionsAct.{continues_without}
use Rattle.source_meaning.proofs.Holding.{live_made}
use Rattle.tac_ir.specs.Stage.{Frame, Temps}
use Rattle.flat_code.specs.declared.instruction.FlatInstruction.{FlatInstruction}
use Rattle.flat_code.specs.Calls.{charged, function_in}
use Rattle.flat_code.specs.Meaning.{body_of, is_runtime_function, weight_of}
use Rattle.flat_code.specs.Memory.{Bytes, put, store}
use Rattle.flat_code.specs.State as flat
use Rattle.flat_code.specs.Words.{HasWords}
use Rattle.flat_code.proofs.Stored.{load_stored, put_other, store_beside}
use Rattle.flat_code.specs.Routines.Routine.{Either, HasAt, Never}
use Rattle.flat_code.proofs.Routines.Steps.{has_back, has_front}
use Rattle.flat_actions.specs.Actions.{IsFor}
use Rattle.flat_actions.proofs.Standing.{keeps_same}
use Rattle.lib_wrappers.specs.AllocatingRoutines.Entering.{AreOfLock, HasLeft, IsHomeOf}
use Rattle.lib_wrappers.specs.AllocatingRoutines.Premises.{HaveBytes}
use Rattle.lib_wrappers.proofs.AllocatingRoutines.BlockDeaths.{count_without, without_other}
use Rattle.lib_wrappers.proofs.AllocatingRoutines.OuterBlocks.{still_of_lock}
use Rattle.metadata_relation.specs.Blocks.{leave_code, top_cell, write_top}
use Rattle.metadata_relation.specs.Holding.{GoesOn}
use Rattle.metadata_relation.specs.Registers.{first_free, lock_register, top_register}
use Rattle.metadata_relation.specs.Stages.{Compiled, expansion_of, IsAt, map_of, StandsIn, views, world}
use Rattle.metadata_relation.specs.Steps.{IsCompiled}
use Rattle.metadata_relation.specs.Waiting.{AreBetween, IsBlockAt}
use Rattle.metadata_relation.proofs.Acting.{bytes_on, Reached, reached_next}
use Rattle.metadata_relation.proofs.Statics.{placed_static}
use Rattle.metadata_relation.proofs.Behind.{for_behind}
use Rattle.metadata_relation.proofs.Routines.{passes, Passes}
use Rattle.metadata_relation.proofs.TopCell.{cell_place, top_written}

static_automatic : {P : Type 0} (o : Storage) → o ≡ Static → o ≡ Automatic → P
static_automatic o e f = (let both = sym e ∙ f in cc)

-- no object is made where a block is left
none_made : (homes : List Home) (objects : Objects) → EndsMade objects (without_homes homes objects)
none_made homes objects n le live =
    let made = live_made (without_homes homes objects) n live in
    let count = count_without homes objects in
    absurd (omega arith)

-- the state of the source once the objects of some homes are dead
abbrev pub without : List Home → (outer : ℕ) → State → State
without homes outer s = record s { objects = without_homes homes s.objects; stacked = outer }

module _ (c : Compiled) (IsGood : Bytes → Type 0) (u n : ℕ) (temps : Temps) (ws : List Frame) (s : State)
    (v : flat.State) (xs : List flat.Frame) (h : IsAt c IsGood u n temps ws s u (c.layout.address u n) v xs) where
  -- the run comes to a place where they are, and what waits with numbers below a mark goes on
  pub record HasLeftObjects (homes : List Home) (outer mark place : ℕ) (after : flat.State) : Type 0 where
    pub reached : Reached (map_of c) c.layout.program u (c.layout.address u n) v xs place after 26
    pub stands : StandsIn c IsGood h.keys (without homes outer s) after
    pub goes : GoesOn (views c) h.keys h.keys s.objects (without_homes homes s.objects) v.memory after.memory
    pub same : (r : ℕ) → r < first_free h.code → after.values r ≡ v.values r
    pub live : (o : ℕ) → o < mark → (object_at s.objects o).is_live ≡ true
        → is_allocated (object_at s.objects o).storage ≡ false
        → (object_at (without_homes homes s.objects) o).is_live ≡ true
    pub locks : (others : List Home) (lock : ℕ) → ((o : ℕ) → IsHomeOf o others → o < mark)
        → AreOfLock h.keys s others lock → AreOfLock h.keys (without homes outer s) others lock
    pub bytes : HaveBytes (without_homes homes s.objects)
    pub statics_live : (q : ℕ) → q < length (expansion_of c).code.statics
        → (object_at (without_homes homes s.objects) q).is_live ≡ true

module _ (c : Compiled) (IsGood : Bytes → Type 0) (right : IsCompiled c IsGood) (u n : ℕ) (temps : Temps)
    (ws : List Frame) (s : State) (v : flat.State) (xs : List flat.Frame)
    (h : IsAt c IsGood u n temps ws s u (c.layout.address u n) v xs)
    (words : HasWords (flat.Stands u (c.layout.address u n) v xs)) (entered : List Variable) (outer : ℕ)
    (homes : List Home) (block : IsBlockAt (world c h.keys s v) s h.code entered outer homes v.values) (mark : ℕ)
    (own : AreBetween mark (length s.objects) homes)
    (has : HasAt (body_of (function_in c.layout.program u)) (c.layout.address u n)
    (leave_code c.layout.expansion.inline (map_of c) h.code entered)) where
  abbrev pc : ℕ
  pc = c.layout.address u n

  abbrev free : ℕ
  free = first_free h.code

  abbrev lock : ℕ
  lock = lock_register h.code entered

  abbrev top : ℕ
  top = top_register h.code entered

  abbrev left : State
  left = without homes outer s

  abbrev place : ℕ
  place = c.layout.address u n + length (leave_code c.layout.expansion.inline (map_of c) h.code entered)

  lock_low : lock_register h.code entered < first_free h.code
  lock_low = let last = block.lock_is.last in omega arith

  top_low : top_register h.code entered < first_free h.code
  top_low = let last = block.top_is_one.last in omega arith

  abbrev releases : List FlatInstruction
  releases = c.layout.expansion.inline.leave (lock_register h.code entered) (first_free h.code)

  abbrev writes : List FlatInstruction
  writes = write_top (map_of c) (top_register h.code entered) (first_free h.code)

  abbrev at_writes : ℕ
  at_writes = c.layout.address u n + length releases

  abbrev dying : Block
  dying = record { homes = homes; frame = []; stacked = outer }

  released : Passes (map_of c) c.layout.program
      (record { function = u; place = c.layout.address u n; state = v; frames = xs }) at_writes 22
      (λ y. HasLeft (views c) h.keys IsGood free (leave_block dying s) v y)
  released =
      passes (map_of c) c.layout.program
      (record { function = u; place = c.layout.address u n; state = v; frames = xs }) releases
      (λ f. IsFor (views c) h.keys IsGood s f × AreOfLock h.keys s homes (f.values lock)) (λ f. 11)
      (λ f. Either (HasLeft (views c) h.keys IsGood free (leave_block dying s) f) Never)
      (right.inline.computes.leave lock free lock_low)
      (right.inline.leave lock free lock_low (is_runtime_function (function_in c.layout.program u))
      (length c.setting.functions) c.layout.expansion.types h.keys s dying (charged c.layout.program u xs)
      (weight_of (function_in c.layout.program u)))
      (record {
        has = has_front (body_of (function_in c.layout.program u)) pc releases writes has;
        words = words.0;
      }) (h.stands.for, block.of_lock) 11 (omega arith)
      (λ status report z never. never)

  abbrev cell : ℕ
  cell = top_cell (map_of c)

  abbrev after : (work : ℕ) → flat.State
  after w = record released.after {
    values = put released.after.values free (top_cell (map_of c));
    memory = store 8 released.after.memory (top_cell (map_of c)) (released.after.values (top_register h.code entered));
    work = w;
  }

  stands_in : (w : ℕ) → StandsIn c IsGood h.keys left (after w)
  stands_in w =
      let at = cell_place (map_of c) right.mapped in
      let spaces = at.spaces in
      let word = released.words.values top in
      let before = h.stands.turns in
      let turns = released.holds.turns in
      let f = for_behind (map_of c) right.mapped (length c.setting.functions) c.layout.expansion.types c.entry IsGood
      right.local h.keys (leave_block dying s) released.after (after w)
      (λ a lt. store_beside 8 released.after.memory cell (released.after.values top) a (inl (omega arith)))
      (record { input = refl; output = refl; taken = refl; accesses = refl; turns = refl }) released.holds.stands in
      record {
        for = record {
          objects = f.objects;
          spaces = f.spaces;
          keys = f.keys;
          shown = record {
            input = f.shown.input;
            output = f.shown.output;
            taken = f.shown.taken;
            accesses = f.shown.accesses;
          };
        };
        top = load_stored 8 released.after.memory cell (released.after.values top) (omega (arith, word))
            ∙ released.holds.others top top_low tt ∙ block.top_is;
        turns = omega arith;
      }

  goes : GoesOn (views c) h.keys h.keys s.objects left.objects v.memory (after 0).memory
  goes =
      let at = cell_place (map_of c) right.mapped in
      let behind = at.behind in
      record {
        held = keeps_same s.objects h.keys;
        continues = continues_without homes s.objects;
        behind = λ a le lt. store_beside 8 released.after.memory cell (released.after.values top) a (inl (omega arith))
            ∙ released.holds.behind a le;
      }

  lives : (o : ℕ) → o < mark → object_at left.objects o ≡ object_at s.objects o
  lives o lt = without_other homes o s.objects (λ q. (let z = own o q in let above = z.0 in absurd (omega arith)))

  pub leaves_objects : (y : flat.State) × HasLeftObjects c IsGood u n temps ws s v xs h homes outer mark
      (c.layout.address u n + length (leave_code c.layout.expansion.inline (map_of c) h.code entered)) y
  leaves_objects =
      let m = map_of c in
      let p = c.layout.program in
      let free_top : free ≢ top = λ e. (let low = top_low in omega arith) in
      let set = top_written m right.mapped p u xs at_writes free top released.after
      (has_back (body_of (function_in p u)) pc releases writes has) free_top in
      let all = reached_next m p u xs pc at_writes (at_writes + 2) v released.after (after released.after.work) 22 4
      released.reached set in
      let len : at_writes + 2 ≡ place = omega (arith, length-append releases writes) in
      let on = continues_without homes s.objects in (
        after (released.after.work + set.work),
        record {
          reached = subst (λ q. Reached m p u pc v xs q (after (released.after.work + set.work)) 26) len all;
          stands = stands_in (released.after.work + set.work);
          goes = goes;
          same = λ r lt. put_other released.after.values free cell r (λ e. omega arith) ∙ released.holds.others r lt tt;
          live = λ o lt live held. ap (λ (q : ObjectState). q.is_live) (lives o lt) ∙ live;
          locks = λ others word below of.
              still_of_lock (views c) h.keys h.keys s left others word v.memory (after 0).memory h.stands.for.objects
              (stands_in 0).for.objects
              (record {
                held = keeps_same s.objects h.keys;
                continues = on;
                later = λ q le live.
                    (let made = live_made left.objects q live in
                    let count = count_without homes s.objects in
                    absurd (omega arith));
              })
              of.some of.some_home
              (ap (λ (q : ObjectState). q.is_live) (lives of.some (below of.some of.some_home)) ∙ of.some_live) of;
          bytes = bytes_on s.objects left.objects on (none_made homes s.objects) h.steady.bytes;
          statics_live = λ q lt.
              (let is = placed_static (statics_first c.setting) (expansion_of c).code.statics 0 q lt in
              let storage = h.steady.statics.storage q is.made ∙ is.static in
              ap (λ (z : ObjectState). z.is_live)
              (without_other homes q s.objects
              (λ r. static_automatic (object_at s.objects q).storage storage (block.of_lock.under q r).1))
              ∙ h.steady.statics_live q lt);
        },
      )
