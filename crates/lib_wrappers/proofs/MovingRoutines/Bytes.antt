-- Bytes moved, of object space and of the runtime's spaces.
use Rattle.std.proofs.Common.{◌≡◌, ◌≢◌, ℕ, ◌+◌, ◌*◌, ◌%◌, ◌^◌, ◌<◌, List, [], ◌∷◌, true, refl, sym, ap}
use Rattle.std.proofs.Common.{◌∙◌, subst, arith, ⊎_elim}
use Rattle.addr_map.specs.Places.{MapSizes}
use Rattle.rv_isa.specs.declared.instruction.LoadOp.TheVariants.{Lbu}
use Rattle.rv_isa.specs.declared.instruction.StoreOp.TheVariants.{Sb}
use Rattle.rv_isa.specs.Results.{extended}
use Rattle.flat_code.specs.declared.instruction.FlatInstruction.{FlatInstruction}
use Rattle.flat_code.specs.declared.instruction.FlatInstruction.TheVariants.{Load, Store}
use Rattle.flat_code.specs.Memory.{Bytes, put, load, store}
use Rattle.flat_code.specs.Spaces.{is_allowed}
use Rattle.flat_code.specs.State.{State}
use Rattle.flat_code.specs.Words.{IsOfWords}
use Rattle.flat_code.specs.Meaning.{Context}
use Rattle.flat_code.proofs.Stored.{put_same, put_other}
use Rattle.flat_code.specs.Routines.Registers.{AreBelow}
use Rattle.flat_code.specs.Routines.Routine.{Does, Either, Never}
use Rattle.flat_code.specs.Routines.Renaming.{through}
use Rattle.flat_code.specs.Routines.Effects.{AreAllowed}
use Rattle.flat_code.proofs.Routines.Regions.{IsLaidOut, object_allowed}
use Rattle.flat_code.proofs.Routines.Showing.{shows_both}
use Rattle.flat_code.proofs.Routines.Words.{byte_loaded}
use Rattle.flat_actions.specs.Ranges.{IsObjectRange, IsToMove, HasMovedBytes, IsByteMoveRoutine}
use Rattle.flat_actions.proofs.Standing.{others_trans}
use Rattle.lib_wrappers.specs.MovingRoutines.Copying.{OneByte, Cells, AreCells, HasCopied, IsToCopy, CopiesOne}
use Rattle.lib_wrappers.specs.MovingRoutines.Copying.{move_cells}
use Rattle.lib_wrappers.specs.MovingRoutines.Copying.{IsToMoveCells, HasMovedCells}
use Rattle.lib_wrappers.specs.MovingRoutines.Moving.{byte_body, byte_places, move_bytes_code, IsUsableRange}
use Rattle.lib_wrappers.specs.MovingRoutines.Moving.{IsToMoveUsable, IsUsableMoveRoutine}
use Rattle.lib_wrappers.proofs.MovingRoutines.Steps.{both_quiet, quiet_weaken, IsGlued, glued, named}
use Rattle.lib_wrappers.proofs.MovingRoutines.Cells.{cells_move}

-- the context of a function of the runtime
abbrev pub in_runtime : MapSizes → (charge weight : ℕ) → Context
in_runtime map charge weight = record { sizes = map; is_runtime = true; charge = charge; weight = weight }

-- a byte stored
pub byte_stored : (m : Bytes) (a v : ℕ) → store 1 m a v a ≡ v % 256
unfolding store
byte_stored m a v = put_same m a (v % 256)

pub byte_beside : (m : Bytes) (a v b : ℕ) → b ≢ a → store 1 m a v b ≡ m b
unfolding store
byte_beside m a v b ne = put_other m a (v % 256) b ne

-- ---- one byte

-- a byte that may be used
pub record IsUsable (map : MapSizes) (address : ℕ) : Type 0 where
  pub allowed : is_allowed map address 1 ≡ true
  pub small : address < 2 ^ 62

-- the bytes that may be used; what stands at any address is known
abbrev pub bytes_of : MapSizes → Cells
bytes_of map = record {
  size = OneByte;
  Content = ℕ;
  content = λ m a. m a;
  IsCell = IsUsable map;
  IsKnown = λ a. Unit {0};
  Changes = λ m m'. Unit {0};
  IsGood = λ m. Unit {0};
}

pub are_bytes : (map : MapSizes) → AreCells (bytes_of map)
are_bytes map = record { known = λ a cell. tt; same = λ m. tt; both = λ m m1 m2 h k. tt }

-- over its own registers, of which those of the loop are read alone: 1 where to, 2 where from, 4 the byte
abbrev loop_registers : ℕ → List ℕ
loop_registers t = t ∷ (t + 1) ∷ (t + 2) ∷ (t + 3) ∷ []

abbrev own_body : List FlatInstruction
own_body = Load Lbu 4 2 0 ∷ Store Sb 1 0 4 ∷ []

module _ (map : MapSizes) (t charge weight : ℕ) where
  abbrev c : Context
  c = in_runtime map charge weight

  copied : (s s' : State) → IsToCopy (bytes_of map) t s → IsGlued c (loop_registers t) (t + 4) 1 own_body s s'
      → HasCopied (bytes_of map) t s s'
  unfolding put extended
  copied s s' p g =
      let a = s.values (t + 1) in let b = s.values (t + 2) in
      let to_small = p.to_cell.small in let from_small = p.from_cell.small in
      let at_a : (a + 0) % 2 ^ 64 ≡ a = omega arith in
      let at_b : (b + 0) % 2 ^ 64 ≡ b = omega arith in
      let v = load 1 s.memory ((b + 0) % 2 ^ 64) in
      let same : s'.memory ≡ store 1 s.memory a v =
      ap (λ z. z.memory) g.rest ∙ ap (λ x. store 1 s.memory x v) at_a in
      let is : v ≡ s.memory b = ap (load 1 s.memory) at_b ∙ byte_loaded s.memory b in
      let byte = g.words.memory b in
      let low : v % 256 ≡ s.memory b = omega arith in
      record {
        copied = ap (λ m. m a) same ∙ byte_stored s.memory a v ∙ low;
        stays = λ x known ne. ap (λ m. m x) same ∙ byte_beside s.memory a v x ne;
        changes = tt;
        good = tt;
        shows = record {
          input = ap (λ z. z.input) g.rest;
          output = ap (λ z. z.output) g.rest;
          taken = ap (λ z. z.taken) g.rest;
          accesses = ap (λ z. z.accesses) g.rest;
          turns = ap (λ z. z.turns) g.rest;
        };
        others = g.others;
      }

  allowed : (s : State) → IsOfWords s → IsToCopy (bytes_of map) t s
      → AreAllowed c own_body (through (named (loop_registers t) (t + 4) 1) s)
  unfolding put
  allowed s w p =
      let a = p.to_cell.small in let b = p.from_cell.small in
      let to : (s.values (t + 1) + 0) % 2 ^ 64 ≡ s.values (t + 1) = omega arith in
      let from : (s.values (t + 2) + 0) % 2 ^ 64 ≡ s.values (t + 2) = omega arith in (
        ap (λ x. is_allowed map x 1) from ∙ p.from_cell.allowed,
        (ap (λ x. is_allowed map x 1) to ∙ p.to_cell.allowed, tt),
      )

  pub byte_copies : CopiesOne c (bytes_of map) t 2 (byte_body t)
  byte_copies =
      quiet_weaken c (byte_body t) 2 2 (IsToCopy (bytes_of map) t) (IsToCopy (bytes_of map) t)
      (IsGlued c (loop_registers t) (t + 4) 1 own_body) (HasCopied (bytes_of map) t) (omega arith) (λ s p. p) copied
      (glued c (loop_registers t) (t + 4) 1 own_body (IsToCopy (bytes_of map) t)
      (omega arith, (omega arith, (omega arith, (omega arith, tt)))) refl allowed)

  -- ---- all of them

  -- over their own registers: 0 where to, 1 where from, 2 how many
  abbrev own_places : List FlatInstruction
  own_places = byte_places 0 1 2 3

  module _ (to from bytes : ℕ) (below : AreBelow t (to ∷ from ∷ bytes ∷ [])) (n : ℕ) where
    abbrev IsPlaced : State → State → Type 0
    IsPlaced = IsGlued c (to ∷ from ∷ bytes ∷ []) t 3 own_places

    abbrev IsMovedSince : State → State → State → Type 0
    IsMovedSince s = HasMovedCells (bytes_of map) n (s.values to) (s.values from) t

    usable : (a j : ℕ) → IsUsableRange map a n → j < n → IsUsable map (a + 1 * j)
    usable a j r l =
        let small = r.small in
        let e : a + j ≡ a + 1 * j = omega arith in
        record { allowed = subst (λ x. is_allowed map x 1 ≡ true) e (r.usable j l); small = omega arith }

    ready : (s y : State) → IsToMoveUsable map to from bytes n s → IsPlaced s y
        → IsToMoveCells (bytes_of map) n (s.values to) (s.values from) t y
    unfolding put
    ready s y p g =
        let b = p.to_range.small in let e = p.from_range.small in
        record {
          left = sym (g.values 3 (omega arith)) ∙ p.size_is;
          to_is = sym (g.values 4 (omega arith));
          from_is = sym (g.values 5 (omega arith));
          ranges = record {
            to_cells = λ j l. usable (s.values to) j p.to_range l;
            from_cells = λ j l. usable (s.values from) j p.from_range l;
            to_small = λ some. omega arith;
            from_small = λ some. omega arith;
          };
          good = tt;
        }

    moved : (s y z : State) → IsPlaced s y → IsMovedSince s y z → HasMovedBytes to from n t s z
    moved s y z g h =
        let same : y.memory ≡ s.memory = ap (λ x. x.memory) g.rest in
        record {
          there = λ i l.
              (let e : s.values to + i ≡ s.values to + 1 * i = omega arith in
              let f : s.values from + 1 * i ≡ s.values from + i = omega arith in
              ap z.memory e ∙ h.cells.moved i l ∙ ap y.memory f ∙ ap (λ m. m (s.values from + i)) same);
          beside = λ b out. h.cells.stays b tt
              (λ j l e. ⊎_elim (λ lo. omega arith) (λ hi. omega arith) out)
              ∙ ap (λ m. m b) same;
          shows = shows_both s y z (record {
            input = ap (λ x. x.input) g.rest;
            output = ap (λ x. x.output) g.rest;
            taken = ap (λ x. x.taken) g.rest;
            accesses = ap (λ x. x.accesses) g.rest;
            turns = ap (λ x. x.turns) g.rest;
          }) h.shows;
          others = others_trans [] t s y z g.others h.others;
        }

    pub bytes_move : Does c (move_bytes_code to from bytes t) (IsToMoveUsable map to from bytes n) (λ s. 16 + 7 * n)
        (λ s. Either (HasMovedBytes to from n t s) Never)
    bytes_move = record {
      from = λ code pc s has w p.
          (let fits : n < 2 ^ 64 = subst (λ x. x < 2 ^ 64) p.size_is (w.values bytes) in
          (quiet_weaken c (move_bytes_code to from bytes t) (3 + (7 + (n * 7 + 1))) (16 + 7 * n)
          (IsToMoveUsable map to from bytes n) (IsToMoveUsable map to from bytes n) (HasMovedBytes to from n t)
          (HasMovedBytes to from n t) (omega arith) (λ s p. p) (λ s s' p h. h)
          (both_quiet c (byte_places to from bytes t) (move_cells OneByte t (byte_body t)) 3 (7 + (n * 7 + 1))
          (IsToMoveUsable map to from bytes n) IsPlaced
          (λ s. IsToMoveCells (bytes_of map) n (s.values to) (s.values from) t) (λ s. IsMovedSince s)
          (HasMovedBytes to from n t)
          (glued c (to ∷ from ∷ bytes ∷ []) t 3 own_places (IsToMoveUsable map to from bytes n) below refl
          (λ s w p. (tt, (tt, (tt, tt)))))
          (λ s. cells_move c (bytes_of map) (are_bytes map) t (byte_body t) 2 byte_copies n (s.values to)
          (s.values from) fits)
          ready (λ s y z p g h. moved s y z g h))).from code pc s has w p);
    }

pub moves_usable : (map : MapSizes) (to from bytes t : ℕ) → AreBelow t (to ∷ from ∷ bytes ∷ [])
    → IsUsableMoveRoutine map to from bytes t (move_bytes_code to from bytes t)
moves_usable map to from bytes t below n charge weight = bytes_move map t charge weight to from bytes below n

-- a range of object space may be used
pub object_usable : (map : MapSizes) → IsLaidOut map → (a n : ℕ) → IsObjectRange map a n → IsUsableRange map a n
object_usable map ok a n r =
    let small = ok.small in let first = r.first in let last = r.last in
    record {
      usable = λ i l. object_allowed map (a + i) (a + i) 1 refl (omega arith) (omega arith);
      small = omega arith;
    }

pub moves_bytes : (map : MapSizes) (to from bytes t : ℕ) → IsLaidOut map → AreBelow t (to ∷ from ∷ bytes ∷ [])
    → IsByteMoveRoutine map to from bytes t (move_bytes_code to from bytes t)
moves_bytes map to from bytes t ok below n charge weight =
    quiet_weaken (in_runtime map charge weight) (move_bytes_code to from bytes t) (16 + 7 * n) (16 + 7 * n)
    (IsToMoveUsable map to from bytes n) (IsToMove map to from bytes n) (HasMovedBytes to from n t)
    (HasMovedBytes to from n t) (omega arith)
    (λ s p. record {
      size_is = p.size_is;
      to_range = object_usable map ok (s.values to) n p.to_range;
      from_range = object_usable map ok (s.values from) n p.from_range;
    })
    (λ s s' p h. h) (moves_usable map to from bytes t below n charge weight)
