-- Bytes of strings that are sought.
use Rattle.std.proofs.Common.{◌≡◌, ℕ, ◌+◌, ◌-◌, ◌<◌, ◌≤◌, ◌==◌, sym, ap, subst, refl, ◌∙◌, Ok, Err, Bool, true, false}
use Rattle.std.specs.Prelude.{Result}
use Rattle.sb_base.specs.declared.ending.Ending.TheVariants.{Spatial}
use Rattle.obj_memory.specs.declared.value.Value.{Value}
use Rattle.obj_memory.specs.Judgement.{moved}
use Rattle.source_meaning.specs.State.{State, on, Run, choose, done, Setting, stop}
use Rattle.source_meaning.specs.Actions.{integer}
use Rattle.source_meaning.specs.Bytes.{look}
use Rattle.source_meaning.specs.Strings.{seek_within}
use Rattle.source_interp.specs.declared.machine.Machine.{Machine}
use Rattle.source_interp.specs.declared.stop.Cause.TheVariants as cause
use Rattle.source_interp.specs.declared.stop.Stop.{Stop}
use Rattle.source_interp.specs.declared.stop.Stop.TheVariants as stopped_by
use Rattle.source_interp.specs.Outside.{Outside}
use Rattle.source_interp.specs.Standing.{Acts}
use Rattle.source_interp.proofs.Acting.{Continues, alike_acts, begins_all, gives_acts, goes_no_further, goes_on}
use Rattle.source_interp.proofs.Acting.{same_acts, then_acts}
use Rattle.source_interp.proofs.Scanning.{all_left, left_more, none_left}

module _ (sought line : ℕ) where
  abbrev pub seeking : (count : ℕ) → Value → Run Value
  seeking count p = seek_within count sought p line

  -- what follows a byte
  abbrev after_byte : (k : ℕ) → Value → (byte : ℕ) → Run Value
  after_byte k p byte =
      choose (byte == sought) (done p) (choose (byte == 0) (done (integer 0)) (seeking k (moved 1 p)))

  pub seek_begins : (g : Setting) (m : Machine) (o : Outside) (count : ℕ) (string : Value)
      → Continues g m m o o (seeking count string) (seeking (count - 0) string)
  seek_begins g m o count string =
      subst (λ k. Continues g m m o o (seeking count string) (seeking k string)) (sym (all_left count))
      (begins_all g m o (seeking count string))

  module _ (g : Setting) (o : Outside) (first now next : Machine) (count i : ℕ) (within : i < count)
      (string p : Value) (so_far : Continues g first now o o (seeking count string) (seeking (count - i) p)) where
    here : (s : State) → seeking (count - i) p s ≡ on (look p line s) (after_byte (count - (i + 1)) p)
    here s = ap (λ k. seeking k p s) (left_more i count within)

    pub not_seen : (e : Stop) (r : Result ℕ Stop) (r' : Result Value Stop) → r ≡ Err e → r' ≡ Err e
        → Acts g now next o o r (look p line) → Acts g first next o o r' (seeking count string)
    not_seen e r r' is is' a = goes_no_further g first now next o o o (seeking count string) (seeking (count - i) p)
        (look p line) (after_byte (count - (i + 1)) p) r r' e so_far here is is' a

    module _ (byte : ℕ) (r : Result ℕ Stop) (is : r ≡ Ok byte) (a : Acts g now next o o r (look p line)) where
      gives : (v v' : Value) → v ≡ v' → after_byte (count - (i + 1)) p byte ≡ done v'
          → Acts g first next o o (Ok v) (seeking count string)
      gives v v' same e = so_far.by next o (Ok v)
          (alike_acts g now next o o (Ok v) (λ s. on (look p line s) (after_byte (count - (i + 1)) p))
          (seeking (count - i) p) here
          (then_acts g now next next o o o r byte (Ok v) (look p line) (after_byte (count - (i + 1)) p) is a
          (same_acts g next next o o (Ok v) (done v') (after_byte (count - (i + 1)) p byte) e
          (gives_acts g next o v v' same))))

      past : (byte == sought) ≡ false → (b : Bool) → (byte == 0) ≡ b → after_byte (count - (i + 1)) p byte
          ≡ choose b (done (integer 0)) (seeking (count - (i + 1)) (moved 1 p))
      past e b e' =
          ap (λ x. choose x (done p) (choose (byte == 0) (done (integer 0)) (seeking (count - (i + 1)) (moved 1 p)))) e
          ∙ ap (λ x. choose x (done (integer 0)) (seeking (count - (i + 1)) (moved 1 p))) e'

      pub is_found : (byte == sought) ≡ true → Acts g first next o o (Ok p) (seeking count string)
      is_found e = gives p p refl
          (ap (λ x. choose x (done p) (choose (byte == 0) (done (integer 0)) (seeking (count - (i + 1)) (moved 1 p))))
          e)

      pub is_missing : (v : Value) → (byte == sought) ≡ false → (byte == 0) ≡ true → v ≡ integer 0
          → Acts g first next o o (Ok v) (seeking count string)
      is_missing v e e' same = gives v (integer 0) same (past e true e')

      pub seeks_on : (p' : Value) → (byte == sought) ≡ false → (byte == 0) ≡ false → p' ≡ moved 1 p
          → Continues g first next o o (seeking count string) (seeking (count - (i + 1)) p')
      seeks_on p' e e' moves =
          subst (λ q. Continues g first next o o (seeking count string) (seeking (count - (i + 1)) q)) (sym moves)
          (subst (λ x. Continues g first next o o (seeking count string) x) (past e false e')
          (goes_on g first now next o o o (seeking count string) (seeking (count - i) p) (look p line)
          (after_byte (count - (i + 1)) p) r byte so_far here is a))

  pub seek_ends : (g : Setting) (o : Outside) (first now : Machine) (count i : ℕ) → count ≤ i → (string p : Value)
      → Continues g first now o o (seeking count string) (seeking (count - i) p)
      → Acts g first now o o (Err (stopped_by.Ended cause.Spatial line)) (seeking count string)
  seek_ends g o first now count i h string p so_far = so_far.by now o (Err (stopped_by.Ended cause.Spatial line))
      (alike_acts g now now o o (Err (stopped_by.Ended cause.Spatial line)) (stop (Spatial line))
      (seeking (count - i) p) (λ s. ap (λ k. seeking k p s) (none_left i count h))
      (record { by = λ start s st. record { state = s; holds = st; comes = refl } }))
