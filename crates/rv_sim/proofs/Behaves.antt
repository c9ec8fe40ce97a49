-- The behaviour of the machine grows with the number of instructions.
use Rattle.std.proofs.Common.{◌≡◌, ℕ, zero, suc, ◌+◌, ◌-◌, ◌≤◌, Bool, true, false, List, ◌++◌, Option, Some, None, refl}
use Rattle.std.proofs.Common.{sym, ap, ◌∙◌, arith}
use Rattle.std.specs.Prelude.{if◌then◌else◌, ◌==◌, ◌||◌}
use Rattle.behaviours.specs.Shown.{Shown, IsPrefix, IsEarlier}
use Rattle.behaviours.specs.Behaviour.{IsMachine}
use Rattle.behaviours.proofs.Moments.{prefix_refl, prefix_append, prefix_trans}
use Rattle.rv_sim.specs.declared.trap.Action.{Action}
use Rattle.rv_sim.specs.declared.trap.Action.TheVariants.{Done, Ask, Refuse}
use Rattle.rv_sim.specs.Accesses.{object_access}
use Rattle.rv_sim.specs.Memory.{may_write}
use Rattle.rv_sim.specs.State.{MachineState, register}
use Rattle.rv_sim.specs.Step.{step}
use Rattle.rv_isa.specs.Registers.{a0, a1, a2, a7}
use Rattle.rv_sim.specs.Run.{Configuration, Turn, answered, received, sent, turned, turn, calls, read_call, write_call}
use Rattle.rv_sim.specs.Run.{onwards, runs}
use Rattle.rv_sim.specs.Behaviour.{begun, shown_by, behaviour}
use Rattle.rv_sim.proofs.Runs.{runs-suc}

-- what is shown at a moment is the first of what is shown at another
pub record Grows (c d : Configuration) : Type 0 where
  pub output : IsPrefix c.output d.output
  pub errors : IsPrefix c.errors d.errors
  pub taken : c.taken ≤ d.taken
  pub accesses : IsPrefix c.accesses d.accesses

pub grows_same : (c : Configuration) → Grows c c
grows_same c = record {
  output = prefix_refl c.output;
  errors = prefix_refl c.errors;
  taken = omega arith;
  accesses = prefix_refl c.accesses;
}

pub grows_trans : (c d e : Configuration) → Grows c d → Grows d e → Grows c e
grows_trans c d e p q = record {
  output = prefix_trans c.output d.output e.output p.output q.output;
  errors = prefix_trans c.errors d.errors e.errors p.errors q.errors;
  taken = let a = p.taken in let b = q.taken in omega arith;
  accesses = prefix_trans c.accesses d.accesses e.accesses p.accesses q.accesses;
}

-- the choices of a turn
grows_if : (c : Configuration) (b : Bool) (t u : Turn) → Grows c t.0 → Grows c u.0 → Grows c (if b then t else u).0
grows_if c true t u p q = p
grows_if c false t u p q = q

grows_answered : (c : Configuration) (v : ℕ) → Grows c (answered c v).0
grows_answered c v = record {
  output = prefix_refl c.output;
  errors = prefix_refl c.errors;
  taken = omega arith;
  accesses = prefix_refl c.accesses;
}

grows_received : (c : Configuration) (byte : Option ℕ) → Grows c (received c byte).0
grows_received c None = grows_answered c 0
grows_received c (Some byte) = record {
  output = prefix_refl c.output;
  errors = prefix_refl c.errors;
  taken = omega arith;
  accesses = prefix_refl c.accesses;
}

grows_output : (c : Configuration) (bytes : List ℕ) (v : ℕ)
    → Grows c (answered (record c { output = c.output ++ bytes }) v).0
grows_output c bytes v = record {
  output = prefix_append c.output bytes;
  errors = prefix_refl c.errors;
  taken = omega arith;
  accesses = prefix_refl c.accesses;
}

grows_errors : (c : Configuration) (bytes : List ℕ) (v : ℕ)
    → Grows c (answered (record c { errors = c.errors ++ bytes }) v).0
grows_errors c bytes v = record {
  output = prefix_refl c.output;
  errors = prefix_append c.errors bytes;
  taken = omega arith;
  accesses = prefix_refl c.accesses;
}

grows_sent : (c : Configuration) (bytes : Option (List ℕ)) → Grows c (sent c bytes).0
grows_sent c None = grows_same c
grows_sent c (Some bytes) =
    grows_if c (register c.state a0 == 1) _ _ (grows_output c bytes (register c.state a2))
    (grows_errors c bytes (register c.state a2))

grows_read : (c : Configuration) → Grows c (read_call c).0
unfolding read_call
grows_read c =
    grows_if c (register c.state a0 == 0) _ _
    (grows_if c (register c.state a2 == 0) _ _ (grows_answered c _)
    (grows_if c (may_write c.state.memory (register c.state a1) (register c.state a2)) _ _ (grows_received c _)
    (grows_same c)))
    (grows_answered c _)

grows_write : (c : Configuration) → Grows c (write_call c).0
unfolding write_call
grows_write c =
    grows_if c (register c.state a0 == 1 || register c.state a0 == 2) _ _
    (grows_if c (register c.state a2 == 0) _ _ (grows_answered c _) (grows_sent c _))
    (grows_answered c _)

grows_call : (c : Configuration) → Grows c (calls c).0
unfolding calls
grows_call c =
    grows_if c (register c.state a7 == 63) _ _ (grows_read c)
    (grows_if c (register c.state a7 == 64) _ _ (grows_write c)
    (grows_if c (register c.state a7 == 93) _ _ (grows_same c) (grows_same c)))

grows_turned : (c : Configuration) (s : MachineState) (a : Action) → Grows c (turned c (s, a)).0
grows_turned c s Done = record {
  output = prefix_refl c.output;
  errors = prefix_refl c.errors;
  taken = omega arith;
  accesses = prefix_append c.accesses (object_access c.state);
}
grows_turned c s Ask = grows_call c
grows_turned c s (Refuse kind) = grows_same c

pub grows_turn : (c : Configuration) → Grows c (turn c).0
unfolding turn
grows_turn c = grows_turned c (step c.state).0 (step c.state).1

-- what a turn shows is an earlier moment of what the next shows
pub earlier_onwards : (t : Turn) → IsEarlier (shown_by t) (shown_by (onwards t))
earlier_onwards (c, None) =
    let g = grows_turn c in
    record { output = g.output; errors = g.errors; taken = g.taken; accesses = g.accesses; ended = λ e h. cc }
earlier_onwards (c, Some stop) =
    record {
      output = prefix_refl c.output;
      errors = prefix_refl c.errors;
      taken = omega arith;
      accesses = prefix_refl
          c.accesses;
      ended = λ e h. refl;
    }

earlier_same : (x : Shown) → IsEarlier x x
earlier_same x = record {
  output = prefix_refl x.output;
  errors = prefix_refl x.errors;
  taken = omega arith;
  accesses = prefix_refl x.accesses;
  ended = λ e h. refl;
}

earlier_trans : (x y z : Shown) → IsEarlier x y → IsEarlier y z → IsEarlier x z
earlier_trans x y z p q = record {
  output = prefix_trans x.output y.output z.output p.output q.output;
  errors = prefix_trans x.errors y.errors z.errors p.errors q.errors;
  taken = let a = p.taken in let b = q.taken in omega arith;
  accesses = prefix_trans x.accesses y.accesses z.accesses p.accesses q.accesses;
  ended = λ e h.
      let same = p.ended e h in
      q.ended e (ap (λ s. s.ending) same ∙ h) ∙ same;
}

earlier_more : (k n : ℕ) (c : Configuration) → IsEarlier (shown_by (runs n c)) (shown_by (runs (k + n) c))
earlier_more zero n c =
    let same : runs (zero + n) c ≡ runs n c = ap (λ m. runs m c) (omega arith) in
    rw same (earlier_same (shown_by (runs n c)))
earlier_more (suc k) n c =
    let same : runs (suc k + n) c ≡ onwards (runs (k + n) c) = ap (λ m. runs m c) (omega arith) ∙ runs-suc (k + n) c in
    rw same (earlier_trans (shown_by (runs n c)) (shown_by (runs (k + n) c)) (shown_by (onwards (runs (k + n) c)))
    (earlier_more k n c) (earlier_onwards (runs (k + n) c)))

-- what a run shows within m instructions is an earlier moment of what it shows within n
pub earlier_runs : (m n : ℕ) (c : Configuration) → m ≤ n → IsEarlier (shown_by (runs m c)) (shown_by (runs n c))
earlier_runs m n c le =
    let same : n - m + m ≡ n = omega arith in
    rw (sym same) (earlier_more (n - m) m c)

pub machine_is_machine : (s : MachineState) (input : List ℕ) → IsMachine (behaviour s input)
unfolding behaviour
machine_is_machine s input = record {
  grows = λ m n le. earlier_runs m n (begun s input) le;
  turns = λ n. omega arith;
  work = λ n. omega arith;
}
