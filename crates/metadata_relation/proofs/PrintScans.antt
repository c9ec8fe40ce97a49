-- What `printf` calls: the places of its functions, and what a scan of a string does to the state of the source: it counts
-- the bytes that it looks at, and changes nothing else.
use Rattle.std.proofs.Common.{◌≡◌, inl, inr, ℕ, zero, suc, ◌+◌, ◌≤◌, ◌==◌, Bool, true, false, List, []}
use Rattle.std.proofs.Common.{◌∷◌, Some, refl, sym, ap, ◌∙◌, arith}
use Rattle.std.specs.Prelude.{slice_get}
use Rattle.sb_base.specs.declared.ending.Ending.TheVariants as ending
use Rattle.obj_memory.specs.declared.judgement.Verdict.{Verdict}
use Rattle.obj_memory.specs.declared.judgement.Verdict.TheVariants.{Outside, Dead, Inside}
use Rattle.obj_memory.specs.declared.value.Value.{Value}
use Rattle.obj_memory.specs.declared.int_type.IntType.TheVariants.{UnsignedChar}
use Rattle.obj_memory.specs.declared.value.Scalar.TheVariants.{Integer}
use Rattle.obj_memory.specs.Access.{read_value}
use Rattle.obj_memory.specs.Judgement.{moved}
use Rattle.c_tree.specs.declared.format.Directive.{Directive}
use Rattle.c_tree.specs.declared.format.Directive.TheVariants as directive
use Rattle.source_meaning.specs.State.{State, Outcome, Gives, Ended, Paused, on, stop, choose, done, tally}
use Rattle.source_meaning.specs.State.{read_state, ◌>>=◌, ◌>>◌}
use Rattle.source_meaning.specs.Actions.{place_or_stop, verdict_on}
use Rattle.source_meaning.specs.Bytes.{look}
use Rattle.source_meaning.specs.Strings.{reach, scan, scan_within}
use Rattle.flat_actions.specs.Scanning.{IsWorked}
use Rattle.runtime_functions.specs.declared.runtime.RuntimeFunction.TheVariants.{PutNumber}
use Rattle.runtime_functions.specs.Runtime.{runtime_list}
use Rattle.metadata_relation.specs.Printing.{directive_place, scan_statuses}
use Rattle.metadata_relation.proofs.LibraryRuns.{IsToldBy}

pub directive_listed : (d : Directive) → (d ≡ directive.String → ⊥)
    → slice_get runtime_list (directive_place d) ≡ Some (PutNumber d)
directive_listed directive.Int other = refl
directive_listed directive.UnsignedInt other = refl
directive_listed directive.Hexadecimal other = refl
directive_listed directive.Character other = refl
directive_listed directive.Long other = refl
directive_listed directive.UnsignedLong other = refl
directive_listed directive.String other = absurd (other refl)

-- ---- a scan counts alone

-- one look counts one
abbrev LooksBy : (line : ℕ) → State → Outcome ℕ → Type 0
LooksBy l s (Gives b s') = s' ≡ record s { work = s.work + 1 }
LooksBy l s (Ended e s') = IsToldBy scan_statuses l e × (s' ≡ s)
LooksBy l s (Paused s') = ⊥

-- a scan looks once at least before it gives the bytes, and the endings are those of the two checks
abbrev pub ScansBy : (line : ℕ) → State → Outcome (List ℕ) → Type 0
ScansBy l s (Gives bytes s') = IsWorked s s' × (s.work + 1 ≤ s'.work)
ScansBy l s (Ended e s') = IsToldBy scan_statuses l e × IsWorked s s'
ScansBy l s (Paused s') = ⊥

pub worked_then : (s s' s'' : State) → IsWorked s s' → IsWorked s' s'' → IsWorked s s''
worked_then s s' s'' p q =
    let first = p.work in
    let second = q.work in
    record { work = omega arith; same = q.same ∙ ap (λ (z : State). record z { work = s''.work }) p.same }

module _ (l : ℕ) where
  look_by : (p : Value) (s : State) → LooksBy l s (look p l s)
  look_by p s = by (verdict_on true 1 p s.objects)
    where
      by : (w : Verdict) → LooksBy l s (on (place_or_stop w l s) (λ place. (do
        tally 1
        byte ← read_state (λ s. read_value (Integer UnsignedChar) place s.objects)
        done byte.word)))
      by Outside = (inl refl, refl)
      by Dead = (inr (inl refl), refl)
      by (Inside place) = refl

  one_look : (s s' : State) → s' ≡ record s { work = s.work + 1 } → IsWorked s s'
  one_look s s' e =
      let count = ap (λ (z : State). z.work) e in
      record { work = omega arith; same = e ∙ ap (λ w. record s { work = w }) (sym count) }

  further : (s s' : State) → s' ≡ record s { work = s.work + 1 } → (b : ℕ) (o : Outcome (List ℕ)) → ScansBy l s' o
      → ScansBy l s (on o (λ others. done (b ∷ others)))
  further s s' e b (Gives bytes s'') h =
      let count = ap (λ (z : State). z.work) e in
      let more = h.1 in
      (worked_then s s' s'' (one_look s s' e) h.0, omega arith)
  further s s' e b (Ended x s'') h = (h.0, worked_then s s' s'' (one_look s s' e) h.1)
  further s s' e b (Paused s'') h = h

  scan_within_by : (k : ℕ) (p : Value) (s : State) → ScansBy l s (scan_within k (stop (ending.Spatial l)) p l s)
  scan_within_by zero p s = (inl refl, record { work = omega arith; same = refl })
  scan_within_by (suc k) p s = behind (look p l s) (look_by p s) (λ s'. scan_within_by k (moved 1 p) s')
    where
      chosen : (b : ℕ) (s' : State) → s' ≡ record s { work = s.work + 1 }
          → ((s' : State) → ScansBy l s' (scan_within k (stop (ending.Spatial l)) (moved 1 p) l s')) → (c : Bool)
          → ScansBy l s (choose c (done []) (scan_within k (stop (ending.Spatial l)) (moved 1 p) l
          >>= (λ others. done (b ∷ others))) s')
      chosen b s' e rest true = let count = ap (λ (z : State). z.work) e in (one_look s s' e, omega arith)
      chosen b s' e rest false =
          further s s' e b (scan_within k (stop (ending.Spatial l)) (moved 1 p) l s') (rest s')

      behind : (o : Outcome ℕ) → LooksBy l s o
          → ((s' : State) → ScansBy l s' (scan_within k (stop (ending.Spatial l)) (moved 1 p) l s'))
          → ScansBy l s (on o (λ byte. choose (byte == 0) (done [])
          (scan_within k (stop (ending.Spatial l)) (moved 1 p) l >>= (λ others. done (byte ∷ others)))))
      behind (Gives b s') e rest = chosen b s' e rest (b == 0)
      behind (Ended e s') h rest = (
        h.0,
        record {
          work = (let count = ap (λ (z : State). z.work) h.1 in omega arith);
          same = h.1 ∙ ap (λ w. record s { work = w }) (sym (ap (λ (z : State). z.work) h.1));
        },
      )
      behind (Paused s') h rest = h

  pub scan_by : (p : Value) (s : State) → ScansBy l s (scan p l s)
  scan_by p s = scan_within_by (reach p) p s
