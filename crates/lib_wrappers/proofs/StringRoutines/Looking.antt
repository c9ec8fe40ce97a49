-- Scans by the verdict on the first byte.
use Rattle.std.proofs.Common.{◌≡◌, ℕ, zero, suc, ◌+◌, ◌-◌, ◌≤◌, List, [], ◌∷◌, Bool, true, false}
use Rattle.std.proofs.Common.{◌==◌, ◌&&◌, if◌then◌else◌, refl, sym, ap, ◌∙◌, subst, arith}
use Rattle.std.specs.Prelude.{nat_le}
use Rattle.std.proofs.lemmas.Bool.{lt-leb, and_right, cond-false}
use Rattle.sb_base.specs.declared.ending.Ending.TheVariants.{Spatial, Temporal}
use Rattle.obj_memory.specs.declared.value.Bounds.{Bounds}
use Rattle.obj_memory.specs.declared.value.Tag.TheVariants.{OfObject}
use Rattle.obj_memory.specs.declared.value.Value.{Value}
use Rattle.obj_memory.specs.declared.value.Scalar.TheVariants.{Integer}
use Rattle.obj_memory.specs.declared.int_type.IntType.TheVariants.{UnsignedChar}
use Rattle.obj_memory.specs.declared.judgement.Verdict.{Verdict}
use Rattle.obj_memory.specs.declared.judgement.Verdict.TheVariants.{Outside, Dead, Inside}
use Rattle.obj_memory.specs.Objects.{Objects, object_at}
use Rattle.obj_memory.specs.Judgement.{place_in, judge, judged, moved}
use Rattle.obj_memory.specs.Access.{read_value}
use Rattle.source_meaning.specs.State.{State as Source, Outcome as Completed, Gives, Ended, Run, on, ◌>>=◌, done, stop}
use Rattle.source_meaning.specs.State.{Paused, choose}
use Rattle.source_meaning.specs.Acting.{state_of}
use Rattle.source_meaning.specs.Strings.{reach, scan_within, scan}
use Rattle.flat_actions.proofs.Judged.{judged_then}
use Rattle.flat_actions.proofs.Looking.{worked_on, looked_by}

-- what a scan does with its first byte
abbrev pub with_first : (count : ℕ) → (behind : Run (List ℕ)) → Value → (line byte : ℕ) → Run (List ℕ)
with_first k behind v line byte =
    choose (byte == 0) (done []) (scan_within k behind (moved 1 v) line >>= (λ others. done (byte ∷ others)))

pub scan_by : (k : ℕ) (behind : Run (List ℕ)) (x : Source) (v : Value) (line : ℕ) (w : Verdict)
    → judge 1 v x.objects ≡ w → scan_within (suc k) behind v line x
    ≡ judged_then w line x (λ p. with_first k behind v line (read_value (Integer UnsignedChar) p x.objects).word
    (worked_on 1 x))
scan_by k behind x v line Outside e = ap (λ r. on r (with_first k behind v line)) (looked_by x v line Outside e)
scan_by k behind x v line Dead e = ap (λ r. on r (with_first k behind v line)) (looked_by x v line Dead e)
scan_by k behind x v line (Inside p) e = ap (λ r. on r (with_first k behind v line)) (looked_by x v line (Inside p) e)

-- the first byte of a string is refused
pub scan_outside : (count : ℕ) (behind : Run (List ℕ)) (x : Source) (v : Value) (line : ℕ)
    → (count ≡ 0 → behind x ≡ Ended (Spatial line) x) → judge 1 v x.objects ≡ Outside
    → scan_within count behind v line x ≡ Ended (Spatial line) x
scan_outside zero behind x v line none e = none refl
scan_outside (suc k) behind x v line none e = scan_by k behind x v line Outside e

pub scan_dead : (count : ℕ) (behind : Run (List ℕ)) (x : Source) (v : Value) (line : ℕ) → 1 ≤ count
    → judge 1 v x.objects ≡ Dead → scan_within count behind v line x ≡ Ended (Temporal line) x
scan_dead zero behind x v line some e = absurd (omega arith)
scan_dead (suc k) behind x v line some e = scan_by k behind x v line Dead e

-- a byte at the bound is refused
pub beyond : (objects : Objects) (n : ℕ) (b : Bounds) (v : Value) → v.tag ≡ OfObject n b → v.word ≡ b.bound
    → judge 1 v objects ≡ Outside
unfolding judge
beyond objects n b v tag at =
    ap (λ t. judged 1 t v.word objects) tag
    ∙ cond-false (nat_le b.base v.word && nat_le (v.word + 1) b.bound)
    (if (object_at objects n).is_live then Inside (place_in objects n v.word) else Dead) Outside
    (and_right (nat_le b.base v.word) (nat_le (v.word + 1) b.bound) (lt-leb (v.word + 1) b.bound (omega arith)))

-- a scan takes no work back
pub scan_within_works : (k : ℕ) (behind : Run (List ℕ)) (x : Source) (v : Value) (line : ℕ)
    → ((y : Source) → y.work ≤ (state_of (behind y)).work) → x.work ≤ (state_of (scan_within k behind v line x)).work
scan_within_works zero behind x v line h = h x
scan_within_works (suc k) behind x v line h =
    by (scan_within_works k behind (worked_on 1 x) (moved 1 v) line h) (judge 1 v x.objects) refl
  where
    added : (byte : ℕ) (r : Completed (List ℕ)) → x.work + 1 ≤ (state_of r).work
        → x.work + 1 ≤ (state_of (on r (λ others. done (byte ∷ others)))).work
    added byte (Gives bytes y) le = le
    added byte (Ended e y) le = le
    added byte (Paused y) le = le

    chosen : x.work + 1 ≤ (state_of (scan_within k behind (moved 1 v) line (worked_on 1 x))).work
        → (b : Bool) (byte : ℕ)
        → x.work ≤ (state_of (choose b (done []) (scan_within k behind (moved 1 v) line >>=
        (λ others. done (byte ∷ others)))
        (worked_on 1 x))).work
    chosen rest true byte = omega arith
    chosen rest false byte =
        let le = added byte (scan_within k behind (moved 1 v) line (worked_on 1 x)) rest in omega arith

    by : x.work + 1 ≤ (state_of (scan_within k behind (moved 1 v) line (worked_on 1 x))).work
        → (w : Verdict) → judge 1 v x.objects ≡ w → x.work ≤ (state_of (scan_within (suc k) behind v line x)).work
    by rest Outside e = subst (λ r. x.work ≤ (state_of r).work) (sym (scan_by k behind x v line Outside e))
        (omega arith)
    by rest Dead e = subst (λ r. x.work ≤ (state_of r).work) (sym (scan_by k behind x v line Dead e)) (omega arith)
    by rest (Inside p) e =
        let byte = (read_value (Integer UnsignedChar) p x.objects).word in
        subst (λ r. x.work ≤ (state_of r).work) (sym (scan_by k behind x v line (Inside p) e))
        (chosen rest (byte == 0) byte)

pub scan_works : (x : Source) (v : Value) (line : ℕ) → x.work ≤ (state_of (scan v line x)).work
scan_works x v line = scan_within_works (reach v) (stop (Spatial line)) x v line (λ y. omega arith)
