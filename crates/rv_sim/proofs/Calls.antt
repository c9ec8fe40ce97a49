-- One instruction that asks the environment.
use Rattle.std.proofs.Common.{◌≡◌, ◌<◌, ℕ, true, false, List, [], ◌++◌, Result, Ok, Err, OnErr, is_err, sym, ap, ◌∙◌}
use Rattle.std.proofs.Common.{arith, refl}
use Rattle.std.proofs.lemmas.Bool.{eq-eqb, ne_eqb}
use Rattle.std.proofs.lemmas.List.{append-nil}
use Rattle.std.specs.Prelude.{if◌then◌else◌, ◌==◌, Option, Some, None, slice_get, drop}
use Rattle.sb_outside.specs.Content.{gained, GainsPart}
use Rattle.rv_sim.specs.declared.trap.TrapKind.TheVariants as kinds
use Rattle.rv_sim.specs.declared.stop.Stop.{Stop}
use Rattle.rv_sim.specs.declared.stop.Stop.TheVariants.{Exited, Trap, Limit, InputFault, OutputFault}
use Rattle.rv_sim.specs.Memory.{bytes_at, may_write}
use Rattle.rv_sim.specs.State.{MachineState, register}
use Rattle.rv_isa.specs.Registers.{a0, a1, a2, a7}
use Rattle.rv_sim.specs.Run.{Configuration, Turn, answered, exited, received, trapped, with_byte, turned, turn, calls}
use Rattle.rv_sim.specs.Run.{read_call, write_call}
use Rattle.rv_sim.specs.Seen.{KeepsPart, Asks, ByFault, SendsTo}
use Rattle.rv_sim.specs.Step.{gives}
use Rattle.rv_sim.specs.Turns.{IsRead, ReadOrFault, WrittenOrFault, CalledOrFault, TurnedOrFault}
use Rattle.sb_outside.proofs.Gains.{gained_gained}

by_fault_map : (r : Option Stop) (I O P I' O' P' : Type 0) → (I → I') → (O → O') → (P → P') → ByFault r I O P
    → ByFault r I' O' P'
by_fault_map (Some InputFault) I O P I' O' P' f g h m = f m
by_fault_map (Some OutputFault) I O P I' O' P' f g h m = g m
by_fault_map None I O P I' O' P' f g h m = h m
by_fault_map (Some Limit) I O P I' O' P' f g h m = h m
by_fault_map (Some (Exited status)) I O P I' O' P' f g h m = h m
by_fault_map (Some (Trap kind pc)) I O P I' O' P' f g h m = h m

-- which call it is
by_number : Configuration → ℕ → Turn
by_number c k = if k == 63 then read_call c
    else (if k == 64 then write_call c else (if k == 93 then exited c else trapped c kinds.Call))

calls-by : (c : Configuration) (k : ℕ) → register c.state a7 ≡ k → calls c ≡ by_number c k
unfolding calls by_number
calls-by c k e = ap (by_number c) e

pub calls-read : (c : Configuration) → register c.state a7 ≡ 63 → calls c ≡ read_call c
unfolding by_number
calls-read c e = calls-by c 63 e

pub calls-write : (c : Configuration) → register c.state a7 ≡ 64 → calls c ≡ write_call c
unfolding by_number
calls-write c e = calls-by c 64 e

pub calls-exit : (c : Configuration) → register c.state a7 ≡ 93 → calls c ≡ exited c
unfolding by_number
calls-exit c e = calls-by c 93 e

pub by_read : (o e : Option (List ℕ)) (c : Configuration) (r : Option Stop) (state : MachineState) (rest : List ℕ)
    (output errors : Option (List ℕ)) → register c.state a7 ≡ 63 → output ≡ gained o c.output
    → errors ≡ gained e c.errors → ReadOrFault r c state rest → CalledOrFault o e r c state rest output errors
by_read o e c r state rest output errors k out err m =
    let at = calls-read c k in
    by_fault_map r _ _ _ _ _ _
    (λ q. record { state_is = q.0; rest_is = q.1; output_is = out; errors_is = err })
    (λ q. absurd q)
    (λ p. rw at (
      p.stop_is,
      record {
        state_is = p.state_is;
        rest_is = p.rest_is;
        output_is = out
            ∙ ap (gained o) (sym p.output_stays);
        errors_is = err ∙ ap (gained e) (sym p.errors_stay);
      },
    ))
    m

pub by_write : (o e : Option (List ℕ)) (c : Configuration) (r : Option Stop) (state : MachineState) (rest : List ℕ)
    (output errors : Option (List ℕ)) → register c.state a7 ≡ 64 → rest ≡ c.input
    → WrittenOrFault o e r c state output errors → CalledOrFault o e r c state rest output errors
by_write o e c r state rest output errors k i m =
    let at = calls-write c k in
    by_fault_map r _ _ _ _ _ _
    (λ q. absurd q)
    (λ q. record { state_is = q.0; rest_is = i; output_part = rw at q.1; errors_part = rw at q.2 })
    (λ p. rw at (
      p.stop_is,
      record
          { state_is = p.state_is; rest_is = i ∙ sym p.input_stays; output_is = p.output_is; errors_is = p.errors_is },
    ))
    m

pub turn-asks : (c : Configuration) → Asks c.state → turn c ≡ calls c
unfolding turn
turn-asks c e = ap (turned c) e

-- a step that asks the environment, and then what it answers
pub by_ask : (o e : Option (List ℕ)) (c : Configuration) (r : Option Stop) (before state : MachineState) (rest : List ℕ)
    (output errors : Option (List ℕ)) → before ≡ c.state → Asks before → CalledOrFault o e r c state rest output errors
    → TurnedOrFault o e r c before state rest output errors
by_ask o e c r before state rest output errors b a m =
    let there : Asks c.state = rw b at a in
    let same = turn-asks c there in
    by_fault_map r _ _ _ _ _ _ (λ q. (a, q)) (λ q. (a, q)) (λ p. rw same p) m

-- A call to write that fails. The sink that it does not name keeps what it has.
nothing_kept : (told : Option (List ℕ)) (bytes : List ℕ) (now : Option (List ℕ)) → now ≡ gained told bytes
    → KeepsPart told bytes bytes now
nothing_kept told bytes now e =
    let whole = sym (append-nil bytes) in
    record { kept = []; lost = []; parts = whole; keeps = e ∙ ap (gained told) whole }

part_kept : (told : Option (List ℕ)) (shown bytes : List ℕ) (old now : Option (List ℕ)) → old ≡ gained told shown
    → GainsPart old now bytes → KeepsPart told shown (shown ++ bytes) now
part_kept told shown bytes old now e g = record {
  kept = g.kept;
  lost = g.lost;
  parts = ap (λ x. shown ++ x) g.parts;
  keeps = g.gains ∙ (ap (λ x. gained x g.kept) e ∙ gained_gained told shown g.kept);
}

pub on_err : {A E : Type 0} (P : Type 0) (r : Result A E) → is_err r ≡ true → OnErr r P → P
on_err P (Ok x) f p = cc
on_err P (Err x) f p = p

-- it sends these bytes
pub record Sends (c : Configuration) (bytes : List ℕ) : Type 0 where
  pub count : (register c.state a2 == 0) ≡ false
  pub found : bytes_at c.state.memory (register c.state a1) (register c.state a2) ≡ Some bytes

pub to_output : (c : Configuration) (bytes : List ℕ) → (register c.state a0 == 1) ≡ true → Sends c bytes
    → write_call c ≡ answered (record c { output = c.output ++ bytes }) (register c.state a2)
unfolding write_call
to_output c bytes t s =
    let n = s.count in
    let b = s.found in
    rw (n, b, t) refl

pub to_errors : (c : Configuration) (bytes : List ℕ) → (register c.state a0 == 1) ≡ false
    → (register c.state a0 == 2) ≡ true → Sends c bytes
    → write_call c ≡ answered (record c { errors = c.errors ++ bytes }) (register c.state a2)
unfolding write_call
to_errors c bytes t u s =
    let n = s.count in
    let b = s.found in
    rw (n, b, t, u) refl

pub sends : (c : Configuration) (bytes : List ℕ) (count buffer : ℕ) → count ≡ register c.state a2
    → buffer ≡ register c.state a1 → (count ≡ 0 → ⊥) → bytes_at c.state.memory buffer count ≡ Some bytes → Sends c bytes
sends c bytes count buffer k a h b = record {
  count = ne_eqb (register c.state a2) 0 (λ z. h (k ∙ z));
  found = rw (k, a) at b;
}

pub record Cut (o e : Option (List ℕ)) (c : Configuration) (output errors : Option (List ℕ)) : Type 0 where
  pub output_part : KeepsPart o c.output (write_call c).0.output output
  pub errors_part : KeepsPart e c.errors (write_call c).0.errors errors

pub cut_output : {A E : Type 0} (o e : Option (List ℕ)) (c : Configuration) (bytes : List ℕ) (r : Result A E)
    (old output errors : Option (List ℕ)) → register c.state a0 ≡ 1 → Sends c bytes → old ≡ gained o c.output
    → is_err r ≡ true → OnErr r (GainsPart old output bytes) → errors ≡ gained e c.errors → Cut o e c output errors
cut_output o e c bytes r old output errors d s out f p err =
    let at = to_output c bytes (eq-eqb (register c.state a0) 1 d) s in
    record {
      output_part = rw at (part_kept o c.output bytes old output out (on_err _ r f p));
      errors_part = rw at (nothing_kept e c.errors errors err);
    }

pub cut_errors : {A E : Type 0} (o e : Option (List ℕ)) (c : Configuration) (bytes : List ℕ) (r : Result A E)
    (old output errors : Option (List ℕ)) → register c.state a0 ≡ 2 → Sends c bytes → old ≡ gained e c.errors
    → is_err r ≡ true → OnErr r (GainsPart old errors bytes) → output ≡ gained o c.output → Cut o e c output errors
cut_errors o e c bytes r old output errors d s err f p out =
    let at = to_errors c bytes (ne_eqb (register c.state a0) 1 (λ z. absurd (omega arith)))
    (eq-eqb (register c.state a0) 2 d) s in
    record {
      output_part = rw at (nothing_kept o c.output output out);
      errors_part = rw at (part_kept e c.errors bytes old errors err (on_err _ r f p));
    }

-- it sends bytes to a sink
pub sends_to : (s : MachineState) (descriptor count buffer : ℕ) (bytes : List ℕ) → register s a7 ≡ 64
    → register s a0 ≡ descriptor → count ≡ register s a2 → buffer ≡ register s a1 → (count ≡ 0 → ⊥)
    → bytes_at s.memory buffer count ≡ Some bytes → SendsTo descriptor s
sends_to s descriptor count buffer bytes number d k a h b = record {
  number = number;
  descriptor_is = d;
  some = omega arith;
  bytes = bytes;
  buffer = rw (k, a) at b;
}

-- it asks for a byte
pub record AsksByte (c : Configuration) : Type 0 where
  pub descriptor : (register c.state a0 == 0) ≡ true
  pub count : (register c.state a2 == 0) ≡ false
  pub room : may_write c.state.memory (register c.state a1) (register c.state a2) ≡ true

pub asks_byte : (c : Configuration) (descriptor count buffer : ℕ) → descriptor ≡ register c.state a0
    → count ≡ register c.state a2 → buffer ≡ register c.state a1 → descriptor ≡ 0 → (count ≡ 0 → ⊥)
    → may_write c.state.memory buffer count ≡ true → AsksByte c
asks_byte c descriptor count buffer d k a zero some room = record {
  descriptor = eq-eqb (register c.state a0) 0 (sym d ∙ zero);
  count = ne_eqb (register c.state a2) 0 (λ z. some (k ∙ z));
  room = rw (k, a) at room;
}

read-received : (c : Configuration) → AsksByte c → read_call c ≡ received c (slice_get c.input 0)
unfolding read_call
read-received c asks =
    let d = asks.descriptor in
    let k = asks.count in
    let room = asks.room in
    rw (d, k, room) refl

read_is : (c : Configuration) (first : Option ℕ) → AsksByte c → first ≡ slice_get c.input 0
    → read_call c ≡ received c first
read_is c first asks e = read-received c asks ∙ ap (received c) (sym e)

pub read_none : (c : Configuration) (state : MachineState) (rest : List ℕ) → AsksByte c → None ≡ slice_get c.input 0
    → state ≡ (gives c.state a0 0).0 → rest ≡ c.input → IsRead None (read_call c) state rest c
read_none c state rest asks e s r =
    let at = read_is c None asks e in
    rw at (record { stop_is = refl; state_is = s; rest_is = r; output_stays = refl; errors_stay = refl })

pub read_some : (c : Configuration) (byte : ℕ) (between state : MachineState) (rest : List ℕ) → AsksByte c
    → Some byte ≡ slice_get c.input 0 → drop 1 c.input ≡ rest → between ≡ with_byte c.state (register c.state a1) byte
    → state ≡ (gives between a0 1).0 → IsRead None (read_call c) state rest c
read_some c byte between state rest asks e r b s =
    let at = read_is c (Some byte) asks e in
    rw at (record {
      stop_is = refl;
      state_is = s
          ∙ ap (λ t. (gives t a0 1).0) b;
      rest_is = sym r;
      output_stays = refl;
      errors_stay = refl;
    })
