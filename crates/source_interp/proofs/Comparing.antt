-- Strings that are compared.
use Rattle.std.proofs.Common.{◌≡◌, ℕ, ◌+◌, ◌-◌, ◌<◌, ◌≤◌, sym, ap, subst, refl, ◌∙◌, Ok, Err, true, false}
use Rattle.std.specs.Prelude.{Result}
use Rattle.sb_base.specs.declared.ending.Ending.TheVariants.{Spatial}
use Rattle.obj_memory.specs.declared.value.Value.{Value}
use Rattle.obj_memory.specs.Judgement.{moved}
use Rattle.source_meaning.specs.State.{State, Outcome, Gives, Ended, Paused, on}
use Rattle.source_meaning.specs.State.{Run, ◌>>=◌, choose, done, Setting, stop}
use Rattle.source_meaning.specs.Bytes.{look, order}
use Rattle.source_meaning.specs.Strings.{compare_within, go_on}
use Rattle.source_interp.specs.declared.machine.Machine.{Machine}
use Rattle.source_interp.specs.declared.stop.Cause.TheVariants as cause
use Rattle.source_interp.specs.declared.stop.Stop.{Stop}
use Rattle.source_interp.specs.declared.stop.Stop.TheVariants as stopped_by
use Rattle.source_interp.specs.declared.strings.Pair.{Pair}
use Rattle.source_interp.specs.Comparing.{look_at_both}
use Rattle.source_interp.specs.Outside.{Outside}
use Rattle.source_interp.specs.Standing.{Acts}
use Rattle.source_interp.proofs.Acting.{Continues, alike_acts, begins_all, gives_acts, goes_no_further, goes_on}
use Rattle.source_interp.proofs.Acting.{same_acts, then_acts}
use Rattle.source_interp.proofs.Scanning.{all_left, left_more, none_left}

-- two bytes as a pair

pair_second : (x : Outcome ℕ) (byte : ℕ) (f : Pair → Run Value)
    → on x (λ y. f (record { first = byte; second = y })) ≡ on (on x (λ y. done (record {
      first = byte;
      second = y;
    }))) f
pair_second (Gives y s) byte f = refl
pair_second (Ended e s) byte f = refl
pair_second (Paused s) byte f = refl

pair_first : (x : Outcome ℕ) (second : Run ℕ) (f : Pair → Run Value)
    → on x (λ byte. second >>= λ y. f (record { first = byte; second = y }))
    ≡ on (on x (λ byte. second >>= λ y. done (record { first = byte; second = y }))) f
pair_first (Gives byte s) second f = pair_second (second s) byte f
pair_first (Ended e s) second f = refl
pair_first (Paused s) second f = refl

module _ (line : ℕ) where
  abbrev pub comparing : (count : ℕ) → (left right : Value) → Run Value
  comparing count a b = compare_within count a b line

  -- what follows two bytes
  abbrev after_pair : (k : ℕ) → (left right : Value) → Pair → Run Value
  after_pair k a b p =
      choose (go_on p.first p.second) (comparing k (moved 1 a) (moved 1 b)) (done (order p.first p.second))

  pub compare_begins : (g : Setting) (m : Machine) (o : Outside) (count : ℕ) (left right : Value)
      → Continues g m m o o (comparing count left right) (comparing (count - 0) left right)
  compare_begins g m o count left right =
      subst (λ k. Continues g m m o o (comparing count left right) (comparing k left right)) (sym (all_left count))
      (begins_all g m o (comparing count left right))

  module _ (g : Setting) (o : Outside) (first now next : Machine) (count i : ℕ) (within : i < count)
      (left right a b : Value)
      (so_far : Continues g first now o o (comparing count left right) (comparing (count - i) a b)) where
    here : (s : State) → comparing (count - i) a b s
        ≡ on (look_at_both a b line s) (after_pair (count - (i + 1)) a b)
    here s = ap (λ k. comparing k a b s) (left_more i count within)
        ∙ pair_first (look a line s) (look b line) (after_pair (count - (i + 1)) a b)

    pub not_seen : (e : Stop) (r : Result Pair Stop) (r' : Result Value Stop) → r ≡ Err e → r' ≡ Err e
        → Acts g now next o o r (look_at_both a b line) → Acts g first next o o r' (comparing count left right)
    not_seen e r r' is is' f = goes_no_further g first now next o o o (comparing count left right)
        (comparing (count - i) a b) (look_at_both a b line) (after_pair (count - (i + 1)) a b) r r' e so_far here is is'
        f

    module _ (p : Pair) (r : Result Pair Stop) (is : r ≡ Ok p) (f : Acts g now next o o r (look_at_both a b line)) where
      pub pair_ends : (v : Value) → go_on p.first p.second ≡ false → v ≡ order p.first p.second
          → Acts g first next o o (Ok v) (comparing count left right)
      pair_ends v e same = so_far.by next o (Ok v)
          (alike_acts g now next o o (Ok v) (λ s. on (look_at_both a b line s) (after_pair (count - (i + 1)) a b))
          (comparing (count - i) a b) here
          (then_acts g now next next o o o r p (Ok v) (look_at_both a b line) (after_pair (count - (i + 1)) a b) is f
          (same_acts g next next o o (Ok v) (done (order p.first p.second)) (after_pair (count - (i + 1)) a b p)
          (ap (λ x. choose x (comparing (count - (i + 1)) (moved 1 a) (moved 1 b)) (done (order p.first p.second))) e)
          (gives_acts g next o v (order p.first p.second) same))))

      pub pair_goes_on : (a' b' : Value) → go_on p.first p.second ≡ true → a' ≡ moved 1 a → b' ≡ moved 1 b
          → Continues g first next o o (comparing count left right) (comparing (count - (i + 1)) a' b')
      pair_goes_on a' b' e same same' =
          subst (λ x. Continues g first next o o (comparing count left right) (comparing (count - (i + 1)) x b'))
          (sym same)
          (subst (λ x. Continues g first next o o (comparing count left right)
          (comparing (count - (i + 1)) (moved 1 a) x)) (sym same')
          (subst (λ x. Continues g first next o o (comparing count left right)
          (choose x (comparing (count - (i + 1)) (moved 1 a) (moved 1 b)) (done (order p.first p.second)))) e
          (goes_on g first now next o o o (comparing count left right) (comparing (count - i) a b)
          (look_at_both a b line) (after_pair (count - (i + 1)) a b) r p so_far here is f)))

  pub compare_ends : (g : Setting) (o : Outside) (first now : Machine) (count i : ℕ) → count ≤ i
      → (left right a b : Value)
      → Continues g first now o o (comparing count left right) (comparing (count - i) a b)
      → Acts g first now o o (Err (stopped_by.Ended cause.Spatial line)) (comparing count left right)
  compare_ends g o first now count i h left right a b so_far =
      so_far.by now o (Err (stopped_by.Ended cause.Spatial line))
      (alike_acts g now now o o (Err (stopped_by.Ended cause.Spatial line)) (stop (Spatial line))
      (comparing (count - i) a b) (λ s. ap (λ k. comparing k a b s) (none_left i count h))
      (record { by = λ start s st. record { state = s; holds = st; comes = refl } }))
