-- A place for a block is sought: how many keys were made, the place, and a pointer to it without a tag.
use Rattle.std.proofs.Common.{◌≡◌, ◌≢◌, ℕ, ◌+◌, ◌*◌, ◌%◌, ◌^◌, ◌<◌, ◌≤◌, List, [], ◌∷◌, ◌++◌, true, length, refl}
use Rattle.std.proofs.Common.{◌∙◌, sym, ap, subst, arith}
use Rattle.addr_map.specs.declared.region.Region.TheVariants.{FreeLocks}
use Rattle.addr_map.specs.Places.{MapSizes, AreMapped, region_start}
use Rattle.std.specs.Prelude.{nat_lt}
use Rattle.std.proofs.lemmas.Bool.{lt-ltb, le-ltb}
use Rattle.rv_isa.specs.declared.instruction.LoadOp.TheVariants.{Ld}
use Rattle.rv_isa.specs.Results.{reg_result, extended, bit_of}
use Rattle.flat_operators.specs.Operators.{wide_code}
use Rattle.flat_code.specs.declared.instruction.FlatInstruction.{FlatInstruction}
use Rattle.flat_code.specs.declared.instruction.FlatInstruction.TheVariants.{Constant, Load}
use Rattle.flat_code.specs.Memory.{put, load}
use Rattle.flat_code.specs.State.{State}
use Rattle.flat_code.specs.Words.{IsOfWords}
use Rattle.flat_code.specs.Meaning.{Context, Goes}
use Rattle.flat_code.specs.declared.registers.Held.{Held}
use Rattle.flat_code.specs.Routines.Registers.{AreDistinct, AreBelow, IsNoneOf, OthersStay}
use Rattle.flat_code.specs.Routines.Routine.{HasAt, Outcome, Reaches, Never}
use Rattle.flat_code.specs.Routines.Effects.{effects, AreAllowed}
use Rattle.flat_code.specs.Routines.Renaming.{through}
use Rattle.flat_code.specs.Routines.Metadata.{held_registers, ShowsNothing}
use Rattle.flat_code.proofs.Routines.Steps.{has_front, has_back}
use Rattle.flat_code.proofs.Routines.Rules.{next}
use Rattle.flat_code.proofs.Routines.Distinct.{AreRegisters, register_of}
use Rattle.flat_code.proofs.Routines.Showing.{shows_both}
use Rattle.shadow_space.proofs.Entries.{context_of, agrees_shows, agrees_memory}
use Rattle.lock_space.specs.Locks.{keys_cell, key_counter}
use Rattle.lock_space.proofs.Spaces.{AreLocksLaidOut, locks_laid_out, allowed_at}
use Rattle.heap_space.specs.Table.{block_total, block_rows, IsTableGood, KeepsButTable}
use Rattle.heap_space.specs.Routines.{HasPlaced, IsPlacedIn, place_of, IsPlaceRoutine}
use Rattle.lib_wrappers.specs.AllocatingRoutines.Allocating.{keys_code, untagged}
use Rattle.lib_wrappers.proofs.AllocatingRoutines.Stretches.{IsDone, stretch_on}

-- ---- keys: 0 whether one is left, 1 the next

module _ (map : MapSizes) (lie : AreLocksLaidOut map) (charge weight keys : ℕ) (v : State)
    (counted : key_counter map v.memory ≡ 2 + keys) where
  abbrev pub c0 : Context
  c0 = context_of map true charge weight

  pub keys_allowed : AreAllowed c0 (keys_code map 0 1) v
  unfolding put reg_result
  keys_allowed =
      let f = lie.first in let d = lie.cells in let b = lie.blocks in let i = lie.inside in let s = lie.small in
      let at : (region_start map FreeLocks % 2 ^ 64 + 0) % 2 ^ 64 ≡ keys_cell map = omega arith in (
        tt,
        (
          allowed_at map _ (keys_cell map) 8 at (omega arith) (omega arith),
          (tt, (tt, (tt, (tt, (tt, (tt, (tt, tt))))))),
        ),
      )

  abbrev begun : List FlatInstruction
  begun = Constant 1 (region_start map FreeLocks) ∷ Load Ld 1 1 0 ∷ wide_code 0 map.budgets.keys

  made_is : (effects c0 begun v).values 1 ≡ keys
  unfolding put reg_result extended
  made_is =
      let d = lie.cells in let b = lie.blocks in let s = lie.small in
      let at : (region_start map FreeLocks % 2 ^ 64 + 0) % 2 ^ 64 ≡ keys_cell map = omega arith in
      let there : load 8 v.memory (keys_cell map) ≡ keys = omega arith in
      ap (load 8 v.memory) at ∙ there

  budget_is : map.budgets.keys ≤ 2 ^ 62 → (effects c0 begun v).values 0 ≡ map.budgets.keys
  unfolding put reg_result extended
  budget_is few = omega arith

  pub found_left : map.budgets.keys ≤ 2 ^ 62
      → (effects c0 (keys_code map 0 1) v).values 0 ≡ bit_of (nat_lt keys map.budgets.keys)
  unfolding put reg_result extended
  found_left few =
      ap (λ n. bit_of (nat_lt n ((effects c0 begun v).values 0))) made_is
      ∙ ap (λ n. bit_of (nat_lt keys n)) (budget_is few)

  pub found_next : (effects c0 (keys_code map 0 1) v).values 1 ≡ (keys + 2) % 2 ^ 64
  unfolding put reg_result extended
  found_next = ap (λ n. (n + 2) % 2 ^ 64) made_is

  pub keys_shown : ShowsNothing v (effects c0 (keys_code map 0 1) v)
  unfolding put reg_result
  keys_shown = record { input = refl; output = refl; taken = refl; accesses = refl; turns = refl }

-- whether a key is left, as a number
pub some_left : (made budget : ℕ) → made < budget → bit_of (nat_lt made budget) ≢ 0
some_left made budget l e =
    let one : bit_of (nat_lt made budget) ≡ 1 = ap bit_of (lt-ltb made budget l) in absurd (omega arith)

pub none_left : (made budget : ℕ) → budget ≤ made → bit_of (nat_lt made budget) ≡ 0
none_left made budget l = ap bit_of (le-ltb made budget l)

-- ---- what is known behind it

pub record IsSought (map : MapSizes) (size : ℕ) (into : Held) (t keys z : ℕ) (s s' : State) : Type 0 where
  pub left : s'.values t ≡ bit_of (nat_lt keys map.budgets.keys)
  pub size_is : s'.values size ≡ z
  pub placed : IsPlacedIn map (place_of map z (block_rows map s.memory)) z ((keys + 2) % 2 ^ 64) (s'.values (t + 2))
      s.memory s'.memory
  pub table : IsTableGood map s'.memory
  pub memory : KeepsButTable map s.memory s'.memory
  pub shows : ShowsNothing s s'
  pub value : s'.values into.value ≡ s'.values (t + 2)
  pub base : s'.values into.tag.base ≡ 0
  pub bound : s'.values into.tag.bound ≡ 0
  pub key : s'.values into.tag.key ≡ 0
  pub lock : s'.values into.tag.lock ≡ 0
  pub others : OthersStay (held_registers into) t s s'

module _ (map : MapSizes) (mapped : AreMapped map) (size : ℕ) (into : Held) (t : ℕ)
    (below : AreBelow t (size ∷ held_registers into)) (apart : IsNoneOf size (held_registers into))
    (distinct : AreDistinct (held_registers into)) (place : List FlatInstruction)
    (places : IsPlaceRoutine map size (t + 1) (t + 2) (t + 4) place) (charge weight : ℕ) where
  abbrev c : Context
  c = context_of map true charge weight

  first_registers : AreRegisters [] [] (t ∷ (t + 1) ∷ []) t
  first_registers = record {
    none = tt;
    distinct = tt;
    ins_below = tt;
    res_below = tt;
    from = (omega arith, (omega arith, tt));
    own_distinct = ((omega arith, tt), (tt, tt));
  }

  none_there : (x : ℕ) → t ≤ x → IsNoneOf x (held_registers into)
  none_there x l =
      let a = below.1.0 in let b = below.1.1.0 in let d = below.1.1.1.0 in let e = below.1.1.1.1.0 in
      let f = below.1.1.1.1.1.0 in
      ((λ q. omega arith), ((λ q. omega arith), ((λ q. omega arith), ((λ q. omega arith), ((λ q. omega arith), tt)))))

  null_registers : AreRegisters ((t + 2) ∷ []) (held_registers into) [] (t + 4)
  null_registers =
      let a = below.1.0 in let b = below.1.1.0 in let d = below.1.1.1.0 in let e = below.1.1.1.1.0 in
      let f = below.1.1.1.1.1.0 in
      record {
        none = (none_there (t + 2) (omega arith), tt);
        distinct = distinct;
        ins_below = (omega arith, tt);
        res_below = (omega arith, (omega arith, (omega arith, (omega arith, (omega arith, tt)))));
        from = tt;
        own_distinct = tt;
      }

  -- numbers for the registers of a pointer
  abbrev own : Held
  own = record { value = 1; tag = record { base = 2; bound = 3; key = 4; lock = 5 } }

  record IsPlacedAt (keys z : ℕ) (s s2 : State) : Type 0 where
    left : s2.values t ≡ bit_of (nat_lt keys map.budgets.keys)
    size_is : s2.values size ≡ z
    placed : IsPlacedIn map (place_of map z (block_rows map s.memory)) z ((keys + 2) % 2 ^ 64) (s2.values (t + 2))
        s.memory s2.memory
    table : IsTableGood map s2.memory
    memory : KeepsButTable map s.memory s2.memory
    shows : ShowsNothing s s2
    others : OthersStay [] t s s2

  then_null : (keys z : ℕ) (s s2 s3 : State) → IsPlacedAt keys z s s2
      → IsDone c ((t + 2) ∷ []) (held_registers into) [] (t + 4) null_registers (untagged 0 own) refl s2 s3
      → IsSought map size into t keys z s s3
  unfolding put reg_result
  then_null keys z s s2 s3 p d =
      let same : s3.memory ≡ s2.memory = agrees_memory 6 _ _ s3 d.agrees in
      let at : s3.values (t + 2) ≡ s2.values (t + 2) = d.others (t + 2) (omega arith)
      (none_there (t + 2) (omega arith)) in
      let a = below.0 in
      record {
        left = d.others t (omega arith) (none_there t (omega arith)) ∙ p.left;
        size_is = d.others size (omega arith) apart ∙ p.size_is;
        placed = subst (λ m. IsPlacedIn map (place_of map z (block_rows map s.memory)) z ((keys + 2) % 2 ^ 64)
            (s3.values (t + 2)) s.memory m) (sym same)
            (subst (λ x. IsPlacedIn map (place_of map z (block_rows map s.memory)) z ((keys + 2) % 2 ^ 64) x s.memory
            s2.memory) (sym at) p.placed);
        table = subst (IsTableGood map) (sym same) p.table;
        memory = subst (KeepsButTable map s.memory) (sym same) p.memory;
        shows = shows_both s s2 s3 p.shows (agrees_shows 6 _ _ s2 s3 d.agrees
            (record { input = refl; output = refl; taken = refl; accesses = refl; turns = refl }));
        value = sym (d.agrees.values 1 (omega arith)) ∙ sym at;
        base = sym (d.agrees.values 2 (omega arith));
        bound = sym (d.agrees.values 3 (omega arith));
        key = sym (d.agrees.values 4 (omega arith));
        lock = sym (d.agrees.values 5 (omega arith));
        others = λ x l none. d.others x (omega arith) none ∙ p.others x l tt;
      }

  pub seeks : (code : List FlatInstruction) (rest : List FlatInstruction) (b pc keys z : ℕ) (s : State) (end : ℕ)
      (R : Outcome → Type 0) → IsOfWords s
      → HasAt code pc (keys_code map t (t + 1) ++ (place ++ (untagged (t + 2) into ++ rest)))
      → key_counter map s.memory ≡ 2 + keys → s.values size ≡ z → IsTableGood map s.memory
      → ((s3 : State) → IsOfWords s3 → IsSought map size into t keys z s s3
      → Reaches c code b (Goes (pc + 9 + length place + 5) s3) end R)
      → Reaches c code (9 + ((32 + 20 * block_total map s.memory) + (5 + b))) (Goes pc s) end R
  seeks code rest b pc keys z s end R w has counted size_is table on =
      let lie = locks_laid_out map mapped in
      let count = block_total map s.memory in
      let two = has_back code pc (keys_code map t (t + 1)) (place ++ (untagged (t + 2) into ++ rest)) has in
      let three = has_back code (pc + 9) place (untagged (t + 2) into ++ rest) two in
      let f = register_of [] [] (t ∷ (t + 1) ∷ []) in
      stretch_on c [] [] (t ∷ (t + 1) ∷ []) t first_registers (keys_code map 0 1) refl code
      ((32 + 20 * count) + (5 + b)) pc s end R w
      (has_front code pc (keys_code map t (t + 1)) (place ++ (untagged (t + 2) into ++ rest)) has)
      (keys_allowed map lie charge weight keys (through f s) counted)
      (λ s1 w1 d1.
      let m1 : s1.memory ≡ s.memory = agrees_memory 2 _ _ s1 d1.agrees in
      let left1 : s1.values t ≡ bit_of (nat_lt keys map.budgets.keys) =
      sym (d1.agrees.values 0 (omega arith)) ∙ found_left map lie charge weight keys (through f s) counted mapped.budgets.keys in
      let key1 : s1.values (t + 1) ≡ (keys + 2) % 2 ^ 64 =
      sym (d1.agrees.values 1 (omega arith)) ∙ found_next map lie charge weight keys (through f s) counted in
      let size1 : s1.values size ≡ z = d1.others size below.0 tt ∙ size_is in
      let shows1 : ShowsNothing s s1 = agrees_shows 2 _ _ s s1 d1.agrees
      (let h = keys_shown map lie charge weight keys (through f s) counted in record {
        input = h.input;
        output = h.output;
        taken = h.taken;
        accesses = h.accesses;
        turns = h.turns;
      }) in
      next c code (32 + 20 * count) (5 + b) (Goes (pc + 9) s1) (pc + 9 + length place) end
      (HasPlaced map size (t + 1) (t + 2) (t + 4) s1) Never R w1
      ((places count true charge weight).from code (pc + 9) s1
      (has_front code (pc + 9) place (untagged (t + 2) into ++ rest) two) w1
      (subst (IsTableGood map) (sym m1) table, ap (block_total map) m1))
      (λ s2 w2 d2.
      stretch_on c ((t + 2) ∷ []) (held_registers into) [] (t + 4) null_registers (untagged 0 own) refl code b
      (pc + 9 + length place) s2 end R w2 (has_front code (pc + 9 + length place) (untagged (t + 2) into) rest three)
      (tt, (tt, (tt, (tt, (tt, tt)))))
      (λ s3 w3 d3. on s3 w3 (then_null keys z s s2 s3 (placed_at keys z s s1 s2 m1 left1 key1 size1 shows1 d1.others d2)
      d3)))
      (λ status report s' never. absurd never))
    where
      placed_at : (keys z : ℕ) (s s1 s2 : State) → s1.memory ≡ s.memory → s1.values t ≡ bit_of (nat_lt keys map.budgets.keys)
          → s1.values (t + 1) ≡ (keys + 2) % 2 ^ 64 → s1.values size ≡ z → ShowsNothing s s1 → OthersStay [] t s s1
          → HasPlaced map size (t + 1) (t + 2) (t + 4) s1 s2 → IsPlacedAt keys z s s2
      placed_at keys z s s1 s2 m1 left1 key1 size1 shows1 others1 d2 =
          let a = below.0 in
          record {
            left = d2.others t (omega arith) ((λ e. omega arith), tt) ∙ left1;
            size_is = d2.others size (omega arith) ((λ e. omega arith), tt) ∙ size1;
            placed = rw (sym m1, sym key1, sym size1) d2.placed;
            table = d2.good;
            memory = rw (sym m1) d2.memory;
            shows = shows_both s s1 s2 shows1 d2.shows;
            others = λ x l none. d2.others x (omega arith) ((λ e. omega arith), tt) ∙ others1 x l tt;
          }
