-- Routines from what they do alone, from place 0 and over their own registers.
use Rattle.std.proofs.Common.{◌≡◌, ℕ, ◌+◌, ◌≤◌, List, true, map, length, refl, sym, ap, subst, arith}
use Rattle.std.proofs.lemmas.List.{length-map}
use Rattle.flat_code.specs.declared.instruction.FlatInstruction.{FlatInstruction}
use Rattle.flat_code.specs.State.{State}
use Rattle.flat_code.specs.Words.{IsOfWords}
use Rattle.flat_code.specs.Meaning.{Context, Goes}
use Rattle.flat_code.specs.Routines.Routine.{Outcome, Continues, Halts, Reaches, Does, Either, Never}
use Rattle.flat_code.specs.Routines.Effects.{effects, AreAllowed}
use Rattle.flat_code.specs.Routines.Renaming.{rename, all_fit, IsRenaming, ChangesOnly, Agrees, through}
use Rattle.flat_code.proofs.Routines.Steps.{has_self}
use Rattle.flat_code.proofs.Routines.Rules.{Holds, HoldsAtEnd, line, weaken}
use Rattle.flat_code.proofs.Routines.Renamed.{Through, renamed}

-- code without jumps, alone
pub line_alone : (c : Context) (r : List FlatInstruction) (v : State) (I : Holds) (J : HoldsAtEnd) → AreAllowed c r v
    → I (effects c r v) → Reaches c r (length r) (Goes 0 v) (length r) (Either I J)
line_alone c r v I J a h =
    let n : 0 + length r ≡ length r = omega arith in
    subst (λ k. Reaches c r (length r) (Goes 0 v) k (Either I J)) n (line c r r 0 v I J a (has_self r) h)

module _ (c : Context) (n d : ℕ) (f : ℕ → ℕ) (r : List FlatInstruction) (P : Holds) (names : IsRenaming n d f)
    (fit : all_fit n d (length r) 0 r ≡ true) where
  -- one that may end the run
  pub routine_that_may_end : (B : State → ℕ) (I : State → Holds) (J : State → HoldsAtEnd)
      (Q : State → Outcome → Type 0)
      → ((s : State) → IsOfWords s → IsOfWords (through f s) → P s
      → Reaches c r (B s) (Goes 0 (through f s)) (length r) (Either (I s) (J s)))
      → ((s s' v : State) → IsOfWords s → P s → I s v → Agrees n f v s' → ChangesOnly n d f s s' → Q s (Continues s'))
      → ((s s' v : State) (status : ℕ) (report : List ℕ) → IsOfWords s → P s → J s status report v → Agrees n f v s'
      → ChangesOnly n d f s s' → Q s (Halts status report s'))
      → Does c (map (rename f) r) P B Q
  routine_that_may_end B I J Q alone on off = record {
    from = λ code pc s has w p.
        let seen : IsOfWords (through f s) = record { values = λ x. w.values (f x); memory = w.memory } in
        let t = renamed c n d f r names fit code pc s has (B s) (I s) (J s) (alone s w seen p) in
        let len : pc + length r ≡ pc + length (map (rename f) r) = ap (λ k. pc + k) (sym (length-map r (rename f))) in
        subst (λ k. Reaches c code (B s) (Goes pc s) k (Q s)) len
        (weaken c code (B s) (B s) (Goes pc s) (pc + length r) _ (Q s) (omega arith) (left s w p) t);
  }
    where
      left : (s : State) → IsOfWords s → P s → (x : Outcome)
          → Either (Through n d f s (I s)) (λ status report. Through n d f s (J s status report)) x → Q s x
      left s w p (Continues s') q = on s s' q.0 w p q.1 q.2 q.3
      left s w p (Halts status report s') q = off s s' q.0 status report w p q.1 q.2 q.3

  -- one that does not
  pub routine : (B : State → ℕ) (I Q : State → Holds)
      → ((s : State) → IsOfWords s → IsOfWords (through f s) → P s
      → Reaches c r (B s) (Goes 0 (through f s)) (length r) (Either (I s) Never))
      → ((s s' v : State) → IsOfWords s → P s → I s v → Agrees n f v s' → ChangesOnly n d f s s' → Q s s')
      → Does c (map (rename f) r) P B (λ s. Either (Q s) Never)
  routine B I Q alone on = routine_that_may_end B I (λ s. Never) (λ s. Either (Q s) Never) alone on
      (λ s s' v status report w p never agrees only. never)

  -- one without jumps
  pub straight_routine : (b : ℕ) (Q : State → Holds) → length r ≤ b
      → ((s : State) → IsOfWords s → P s → AreAllowed c r (through f s))
      → ((s s' : State) → IsOfWords s → P s → Agrees n f (effects c r (through f s)) s' → ChangesOnly n d f s s'
      → Q s s')
      → Does c (map (rename f) r) P (λ s. b) (λ s. Either (Q s) Never)
  straight_routine b Q le allowed on =
      routine (λ s. b) (λ s v. v ≡ effects c r (through f s)) Q
      (λ s w seen p. weaken c r (length r) b (Goes 0 (through f s)) (length r) _ _ le (λ x q. q)
      (line_alone c r (through f s) (λ v. v ≡ effects c r (through f s)) Never (allowed s w p) same))
      (λ s s' v w p e agrees only. on s s' w p (subst (λ z. Agrees n f z s') e agrees) only)
    where
      same : {v : State} → v ≡ v
      same = refl
