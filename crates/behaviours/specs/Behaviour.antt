-- Behaviours, and when one follows another.
use Rattle.std.specs.Prelude.{◌≡◌, ℕ, ◌*◌, ◌≤◌, Some, None}
use Rattle.behaviours.specs.Shown.{End, Shown, IsPrefix, IsEarlier}

-- A moment of a run: what it has shown, how many turns it has begun, and how much work it has done. A turn of a source
-- is an entry into a loop's body or a call of a function; a turn of a machine is an instruction.
pub record Moment : Type 0 where
  pub shown : Shown
  pub turns : ℕ
  pub work : ℕ

-- The moment for each budget: of turns for a source, of steps for every other language.
abbrev pub Behaviour : Type 0
Behaviour = ℕ → Moment

-- y shows what x shows, has begun at least as many turns, and has done at most c times the work.
pub record Meets (factor : ℕ) (source target : Moment) : Type 0 where
  pub shown : source.shown ≡ target.shown
  pub turns : source.turns ≤ target.turns
  pub work : target.work ≤ factor * source.work

-- The relation that each pass keeps: b comes to every moment of a, with at most c times the work.
pub record Follows (factor : ℕ) (source target : Behaviour) : Type 0 where
  pub at : (n : ℕ) → (m : ℕ) × Meets factor (source n) (target m)

-- A source that is still running has begun all the turns of its budget.
pub record IsSource (behaviour : Behaviour) : Type 0 where
  pub begun : (n : ℕ) → (behaviour n).shown.ending ≡ None → n ≤ (behaviour n).turns

-- What a machine shows grows with its budget. Each step is at most one turn and at least one unit of work.
pub record IsMachine (behaviour : Behaviour) : Type 0 where
  pub grows : (m n : ℕ) → m ≤ n → IsEarlier (behaviour m).shown (behaviour n).shown
  pub turns : (n : ℕ) → (behaviour n).turns ≤ n
  pub work : (n : ℕ) → n ≤ (behaviour n).work

-- The machine is faithful to the source. For every n:
pub record Faithful (factor : ℕ) (source machine : Behaviour) : Type 0 where
  -- what it has shown within n instructions is an earlier moment of what the source shows within n turns;
  pub never_ahead : (n : ℕ) → IsEarlier (machine n).shown (source n).shown
  -- where it has ended within n instructions, with a status or a fault, the source has within n turns, and shows the
  -- same;
  pub ends_as_source : (n : ℕ) (e : End) → (machine n).shown.ending ≡ Some e → (source n).shown ≡ (machine n).shown
  -- what the source shows within n turns it shows within some number of instructions, at most factor times the source's
  -- work;
  pub reaches_all : (n : ℕ) → (m : ℕ) × (m ≤ factor * (source n).work) × ((machine m).shown ≡ (source n).shown)
  -- and its accesses are the first of the source's.
  pub same_accesses : (n : ℕ) → IsPrefix (machine n).shown.accesses (source n).shown.accesses
