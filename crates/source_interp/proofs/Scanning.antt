-- Strings that are scanned.
use Rattle.std.proofs.Common.{◌≡◌, ℕ, suc, ◌+◌, ◌-◌, ◌<◌, ◌≤◌, ◌==◌, sym, ap, subst, refl, ◌∙◌, Ok, Err, Bool, true}
use Rattle.std.proofs.Common.{false, List, [], ◌∷◌, ◌++◌, arith, length}
use Rattle.std.specs.Prelude.{Result, replicate}
use Rattle.std.proofs.lemmas.List.{append-nil, append_assoc}
use Rattle.obj_memory.specs.declared.value.Value.{Value}
use Rattle.obj_memory.specs.Judgement.{moved}
use Rattle.source_meaning.specs.State.{State, Outcome, Gives, Ended, Paused, on, Run, ◌>>=◌, choose, done, Setting}
use Rattle.source_meaning.specs.Bytes.{look}
use Rattle.source_meaning.specs.Strings.{scan_within}
use Rattle.source_interp.specs.declared.machine.Machine.{Machine}
use Rattle.source_interp.specs.declared.stop.Cause.TheVariants as cause
use Rattle.source_interp.specs.declared.stop.Stop.{Stop}
use Rattle.source_interp.specs.declared.stop.Stop.TheVariants as stopped_by
use Rattle.source_interp.specs.Outside.{Outside}
use Rattle.source_interp.specs.Routines.{behind_scan, scanned}
use Rattle.source_interp.specs.Standing.{Acts}
use Rattle.source_interp.proofs.Acting.{Continues, alike_acts, gives_acts}
use Rattle.source_interp.proofs.Acting.{goes_no_further, goes_on, same_acts, then_acts}

-- what comes behind a byte, and behind those before it

one_more_byte : (x : Outcome (List ℕ)) (bytes : List ℕ) (byte : ℕ)
    → on (on x (λ others. done (byte ∷ others))) (λ others. done (bytes ++ others))
    ≡ on x (λ others. done ((bytes ++ (byte ∷ [])) ++ others))
one_more_byte (Gives others s) bytes byte = ap (λ bs. Gives bs s) (sym (append_assoc bytes (byte ∷ []) others))
one_more_byte (Ended e s) bytes byte = refl
one_more_byte (Paused s) bytes byte = refl

by_test : (b : Bool) (bytes : List ℕ) (byte : ℕ) (run : Run (List ℕ)) (s : State)
    → on (choose b (done []) (run >>= λ others. done (byte ∷ others)) s) (λ others. done (bytes ++ others))
    ≡ choose b (done bytes) (run >>= λ others. done ((bytes ++ (byte ∷ [])) ++ others)) s
by_test true bytes byte run s = ap (λ bs. Gives bs s) (append-nil bytes)
by_test false bytes byte run s = one_more_byte (run s) bytes byte

by_look : (x : Outcome ℕ) (bytes : List ℕ) (run : Run (List ℕ))
    → on (on x (λ byte. choose (byte == 0) (done []) (run >>= λ others. done (byte ∷ others))))
    (λ others. done (bytes ++ others))
    ≡ on x (λ byte. choose (byte == 0) (done bytes) (run >>= λ others. done ((bytes ++ (byte ∷ [])) ++ others)))
by_look (Gives byte s) bytes run = by_test (byte == 0) bytes byte run s
by_look (Ended e s) bytes run = refl
by_look (Paused s) bytes run = refl

from_none : (x : Outcome (List ℕ)) → on x (λ others. done ([] ++ others)) ≡ x
from_none (Gives bs s) = refl
from_none (Ended e s) = refl
from_none (Paused s) = refl

pub left_more : (i n : ℕ) → i < n → n - i ≡ suc (n - (i + 1))
left_more i n h = omega (arith, h)

pub none_left : (i n : ℕ) → n ≤ i → n - i ≡ 0
none_left i n h = omega (arith, h)

pub all_left : (n : ℕ) → n - 0 ≡ n
all_left n = omega arith

-- a scan, of which so many bytes may be left

module _ (must_end : Bool) (line : ℕ) where
  abbrev pub all_of : (count : ℕ) → Value → Run (List ℕ)
  all_of count string = scan_within count (behind_scan must_end line) string line

  abbrev pub scanned_behind : (bytes : List ℕ) → (k : ℕ) → Value → Run (List ℕ)
  scanned_behind bytes k p = all_of k p >>= λ others. done (bytes ++ others)

  abbrev after_byte : (bytes : List ℕ) → (k : ℕ) → Value → (byte : ℕ) → Run (List ℕ)
  after_byte bytes k p byte = choose (byte == 0) (done bytes) (scanned_behind (bytes ++ (byte ∷ [])) k (moved 1 p))

  first_scanned : (bytes : List ℕ) (k : ℕ) (p : Value) (s : State)
      → scanned_behind bytes (suc k) p s ≡ on (look p line s) (after_byte bytes k p)
  first_scanned bytes k p s = by_look (look p line s) bytes (all_of k (moved 1 p))

  pub scan_begins : (g : Setting) (m : Machine) (o : Outside) (count : ℕ) (string : Value) (bytes : List ℕ) → bytes ≡ []
      → Continues g m m o o (all_of count string) (scanned_behind bytes (count - 0) string)
  scan_begins g m o count string bytes e =
      subst (λ bs. Continues g m m o o (all_of count string) (scanned_behind bs (count - 0) string)) (sym e)
      (subst (λ k. Continues g m m o o (all_of count string) (scanned_behind [] k string)) (sym (all_left count))
      (record {
        by = λ new after r a. alike_acts g m new o after r (scanned_behind [] count string) (all_of count string)
            (λ s. sym (from_none (all_of count string s))) a;
      }))

  module _ (g : Setting) (o : Outside) (first now next : Machine) (count i : ℕ) (within : i < count)
      (bytes : List ℕ) (string p : Value)
      (so_far : Continues g first now o o (all_of count string) (scanned_behind bytes (count - i) p)) where
    here : (s : State) → scanned_behind bytes (count - i) p s
        ≡ on (look p line s) (after_byte bytes (count - (i + 1)) p)
    here s = ap (λ k. scanned_behind bytes k p s) (left_more i count within) ∙ first_scanned bytes (count - (i + 1)) p s

    pub not_looked : (e : Stop) (r : Result ℕ Stop) (r' : Result (List ℕ) Stop) → r ≡ Err e → r' ≡ Err e
        → Acts g now next o o r (look p line) → Acts g first next o o r' (all_of count string)
    not_looked e r r' is is' a = goes_no_further g first now next o o o (all_of count string)
        (scanned_behind bytes (count - i) p) (look p line) (after_byte bytes (count - (i + 1)) p) r r' e so_far here is
        is' a

    module _ (byte : ℕ) (r : Result ℕ Stop) (is : r ≡ Ok byte) (a : Acts g now next o o r (look p line)) where
      pub string_ends : (byte == 0) ≡ true → (out : List ℕ) → out ≡ bytes
          → Acts g first next o o (Ok out) (all_of count string)
      string_ends e out same = so_far.by next o (Ok out)
          (alike_acts g now next o o (Ok out) (λ s. on (look p line s) (after_byte bytes (count - (i + 1)) p))
          (scanned_behind bytes (count - i) p) here
          (then_acts g now next next o o o r byte (Ok out) (look p line) (after_byte bytes (count - (i + 1)) p) is a
          (same_acts g next next o o (Ok out) (done bytes) (after_byte bytes (count - (i + 1)) p byte)
          (ap (λ b. choose b (done bytes) (scanned_behind (bytes ++ (byte ∷ [])) (count - (i + 1)) (moved 1 p))) e)
          (gives_acts g next o out bytes same))))

      pub string_goes_on : (byte == 0) ≡ false → (bytes' : List ℕ) (p' : Value) → bytes' ≡ bytes ++ (byte ∷ [])
          → p' ≡ moved 1 p
          → Continues g first next o o (all_of count string) (scanned_behind bytes' (count - (i + 1)) p')
      string_goes_on e bytes' p' same moves =
          subst (λ bs. Continues g first next o o (all_of count string) (scanned_behind bs (count - (i + 1)) p'))
          (sym same)
          (subst (λ q. Continues g first next o o (all_of count string)
          (scanned_behind (bytes ++ (byte ∷ [])) (count - (i + 1)) q)) (sym moves)
          (subst (λ b. Continues g first next o o (all_of count string)
          (choose b (done bytes) (scanned_behind (bytes ++ (byte ∷ [])) (count - (i + 1)) (moved 1 p)))) e
          (goes_on g first now next o o o (all_of count string) (scanned_behind bytes (count - i) p) (look p line)
          (after_byte bytes (count - (i + 1)) p) r byte so_far here is a)))

  pub scan_ends : (g : Setting) (o : Outside) (first now : Machine) (count i : ℕ) → count ≤ i
      → (bytes bytes' : List ℕ) → bytes' ≡ bytes → (string p : Value) (r : Result (List ℕ) Stop)
      → Continues g first now o o (all_of count string) (scanned_behind bytes (count - i) p)
      → Acts g now now o o r (scanned bytes' must_end line) → Acts g first now o o r (all_of count string)
  scan_ends g o first now count i h bytes bytes' e string p r so_far a = so_far.by now o r
      (alike_acts g now now o o r (scanned bytes' must_end line) (scanned_behind bytes (count - i) p)
      (λ s. ap (λ k. scanned_behind bytes k p s) (none_left i count h)
      ∙ ap (λ bs. scanned bs must_end line s) (sym e)) a)

-- where no 0 byte was found

module _ (g : Setting) (m : Machine) (o : Outside) (bytes : List ℕ) (must_end : Bool) (line : ℕ) where
  pub ends_badly : must_end ≡ true
      → Acts {A = List ℕ} g m m o o (Err (stopped_by.Ended cause.Spatial line)) (scanned bytes must_end line)
  ends_badly e = same_acts g m m o o (Err (stopped_by.Ended cause.Spatial line)) (scanned bytes true line) _
      (ap (λ b. scanned bytes b line) e)
      (record { by = λ start s st. record { state = s; holds = st; comes = refl } })

  pub ends_well : must_end ≡ false → Acts g m m o o (Ok bytes) (scanned bytes must_end line)
  ends_well e = same_acts g m m o o (Ok bytes) (scanned bytes false line) _ (ap (λ b. scanned bytes b line) e)
      (gives_acts g m o bytes (bytes ++ []) (sym (append-nil bytes)))

-- zeros that are put behind bytes
pub pads : (bytes : List ℕ) (size count : ℕ) (whole zeros all : List ℕ) → whole ≡ bytes → count ≡ size - length whole
    → zeros ≡ replicate count 0 → all ≡ whole ++ zeros → all ≡ bytes ++ replicate (size - length bytes) 0
pads bytes size count whole zeros all e e' e'' more =
    more ∙ ap (λ xs. xs ++ zeros) e ∙ ap (λ xs. bytes ++ xs) (e'' ∙ ap (λ n. replicate n 0) (e' ∙ ap (λ xs. size -
    length xs) e))

pub ruleset padding = (pads)
