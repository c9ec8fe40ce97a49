-- The bytes that a scan gives lie between the bounds of a pointer to a live object.
use Rattle.std.proofs.Common.{◌≡◌, ℕ, zero, suc, ◌+◌, ◌-◌, ◌≤◌, ◌⊎◌, inl, inr, List, [], ◌∷◌}
use Rattle.std.proofs.Common.{Bool, true, false, ◌==◌, length, get_or, refl, sym, ap, ◌∙◌, subst, arith}
use Rattle.std.proofs.lemmas.Bool.{cases_Bool, eqb-true}
use Rattle.sb_base.specs.declared.ending.Ending.TheVariants.{Spatial}
use Rattle.obj_memory.specs.declared.int_type.IntType.TheVariants.{UnsignedChar}
use Rattle.obj_memory.specs.declared.value.Bounds.{Bounds}
use Rattle.obj_memory.specs.declared.value.Tag.TheVariants.{OfObject}
use Rattle.obj_memory.specs.declared.value.Value.{Value}
use Rattle.obj_memory.specs.declared.value.Scalar.TheVariants.{Integer}
use Rattle.obj_memory.specs.declared.judgement.Verdict.{Verdict}
use Rattle.obj_memory.specs.declared.judgement.Verdict.TheVariants.{Outside, Dead, Inside}
use Rattle.obj_memory.specs.Objects.{Objects, object_at}
use Rattle.obj_memory.specs.Judgement.{judge, moved}
use Rattle.obj_memory.specs.Access.{read_value}
use Rattle.obj_memory.specs.Sound.{IsSound, IsSoundTag}
use Rattle.source_meaning.specs.State.{State as Source, Outcome as Completed, Gives, Ended, Paused, Run, on, ◌>>=◌}
use Rattle.source_meaning.specs.State.{done}
use Rattle.source_meaning.specs.State.{stop, choose}
use Rattle.source_meaning.specs.Strings.{reach, scan_within, scan}
use Rattle.flat_code.specs.Memory.{Bytes}
use Rattle.flat_code.specs.Routines.Objects.StandsFor.{Views, Keys, StandsFor}
use Rattle.flat_actions.specs.Ranges.{IsObjectRange}
use Rattle.flat_actions.proofs.Looking.{IsAround, around, lives, worked_on}
use Rattle.lib_wrappers.proofs.StringRoutines.Looking.{scan_by, with_first}
use Rattle.flat_actions.proofs.Looking.{looked, moved_tag, moved_word}

-- A scan ends at a 0 byte before the bound, or what stands behind the count gives something.
pub data HowEnded (behind : Run (List ℕ)) (objects : Objects) (v : Value) (number : ℕ) (bounds : Bounds) (n : ℕ)
    : Type 0 where
  AtZero : v.word + n + 1 ≤ bounds.bound
      → get_or (object_at objects number).bytes (v.word + n - (object_at objects number).address) 0 ≡ 0
      → HowEnded behind objects v number bounds n
  AtLimit : (y : Source) (bytes : List ℕ) (y' : Source) → behind y ≡ Gives bytes y'
      → HowEnded behind objects v number bounds n

-- so many bytes from an address on
pub record IsBetween (behind : Run (List ℕ)) (objects : Objects) (v : Value) (n : ℕ) : Type 0 where
  pub number : ℕ
  pub bounds : Bounds
  pub tag_is : v.tag ≡ OfObject number bounds
  pub live : (object_at objects number).is_live ≡ true
  pub from : bounds.base ≤ v.word
  pub within : v.word + n ≤ bounds.bound
  pub how : HowEnded behind objects v number bounds n

-- what stands behind the count adds no bytes
abbrev pub AddsNone : Run (List ℕ) → Type 0
AddsNone behind = (x : Source) (bytes : List ℕ) (x' : Source) → behind x ≡ Gives bytes x' → bytes ≡ []

-- how many bytes are given
abbrev count_of : Completed (List ℕ) → ℕ
count_of (Gives bytes x) = length bytes
count_of (Ended e x) = 0
count_of (Paused x) = 0

same_object : (n m : ℕ) (b c : Bounds) → OfObject n b ≡ OfObject m c → (n ≡ m) × (b ≡ c)
same_object n m b c e = (cc, cc)

module _ (functions line : ℕ) (behind : Run (List ℕ)) (none : AddsNone behind) where
  -- the bytes behind the first lie between the bounds too
  abbrev Rest : (k : ℕ) → Source → Value → ℕ → Bounds → Type 0
  Rest k x v n b = (bytes : List ℕ) (x' : Source)
      → scan_within k behind (moved 1 v) line (worked_on 1 x) ≡ Gives bytes x'
      → (v.word + 1 + length bytes ≤ b.bound) × HowEnded behind x.objects v n b (suc (length bytes))

  first : (k : ℕ) (x : Source) (v : Value) (bytes : List ℕ) (x' : Source) → IsSound functions x.objects
      → ((n : ℕ) (b : Bounds) → v.tag ≡ OfObject n b → v.word + 1 ≤ b.bound → Rest k x v n b)
      → scan_within (suc k) behind v line x ≡ Gives bytes x' → IsBetween behind x.objects v (length bytes)
  first k x v bytes x' sound rest e = by (judge 1 v x.objects) refl
    where
      by : (w : Verdict) → judge 1 v x.objects ≡ w → IsBetween behind x.objects v (length bytes)
      by Outside is = absurd (let z = sym (scan_by k behind x v line Outside is) ∙ e in cc)
      by Dead is = absurd (let z = sym (scan_by k behind x v line Dead is) ∙ e in cc)
      by (Inside p) is = looked_at (cases_Bool (byte == 0))
        where
          a : IsAround v.tag v.word
          a = around x.objects v (Inside p) is (λ d. let z : Inside p ≡ Outside = d in cc)

          live : (object_at x.objects a.number).is_live ≡ true
          live = lives x.objects v a.number a.bounds p a.tag_is is

          byte : ℕ
          byte = get_or (object_at x.objects a.number).bytes (v.word - (object_at x.objects a.number).address) 0

          given : with_first k behind v line byte (worked_on 1 x) ≡ Gives bytes x'
          given = sym (ap (λ r. on r (with_first k behind v line))
              (looked functions x a.number a.bounds v line sound a.tag_is live a.from a.below)) ∙ e

          others : (r : Completed (List ℕ)) → scan_within k behind (moved 1 v) line (worked_on 1 x) ≡ r
              → on r (λ bs. done (byte ∷ bs)) ≡ Gives bytes x' → IsBetween behind x.objects v (length bytes)
          others (Gives bs y) is_rest q =
              let n : suc (length bs) ≡ length bytes = ap count_of q in
              let l = rest a.number a.bounds a.tag_is a.below bs y is_rest in
              let within = l.0 in
              record {
                number = a.number;
                bounds = a.bounds;
                tag_is = a.tag_is;
                live = live;
                from = a.from;
                within = omega arith;
                how = subst (HowEnded behind x.objects v a.number a.bounds) n l.1;
              }
          others (Ended w y) is_rest q = cc
          others (Paused y) is_rest q = cc

          looked_at : ((byte == 0) ≡ true) ⊎ ((byte == 0) ≡ false) → IsBetween behind x.objects v (length bytes)
          looked_at (inl z) =
              let q = sym (ap (λ b. choose b (done []) (scan_within k behind (moved 1 v) line >>=
              (λ bs. done (byte ∷ bs))) (worked_on 1 x)) z) ∙ given in
              let n : 0 ≡ length bytes = ap count_of q in
              let below = a.below in
              let at : v.word ≡ v.word + length bytes = omega arith in
              record {
                number = a.number;
                bounds = a.bounds;
                tag_is = a.tag_is;
                live = live;
                from = a.from;
                within = omega arith;
                how = AtZero (omega arith)
                    (ap (λ w. get_or (object_at x.objects a.number).bytes
                    (w - (object_at x.objects a.number).address) 0) (sym at) ∙ eqb-true byte 0 z);
              }
          looked_at (inr z) =
              others (scan_within k behind (moved 1 v) line (worked_on 1 x)) refl
              (sym (ap (λ b. choose b (done []) (scan_within k behind (moved 1 v) line >>= (λ bs. done (byte ∷ bs)))
              (worked_on 1 x)) z) ∙ given)

  -- how a scan from the next byte on ended
  from_next : (objects : Objects) (v w : Value) (n m : ℕ) (b c : Bounds) (count : ℕ) → m ≡ n → c ≡ b
      → w.word ≡ v.word + 1 → HowEnded behind objects w m c count → HowEnded behind objects v n b (suc count)
  from_next objects v w n m b c count e q word (AtZero below zero_is) =
      let same : w.word + count ≡ v.word + suc count = omega arith in
      let bound = ap (λ z. z.bound) q in
      AtZero (omega arith)
      (subst (λ i. get_or (object_at objects n).bytes (i - (object_at objects n).address) 0 ≡ 0) same
      (subst (λ o. get_or (object_at objects o).bytes (w.word + count - (object_at objects o).address) 0 ≡ 0) e
      zero_is))
  from_next objects v w n m b c count e q word (AtLimit y bytes y' is) = AtLimit y bytes y' is

  pub between : (k : ℕ) (x : Source) (v : Value) (bytes : List ℕ) (x' : Source) → IsSound functions x.objects
      → IsSoundTag functions x.objects v.tag → scan_within (suc k) behind v line x ≡ Gives bytes x'
      → IsBetween behind x.objects v (length bytes)
  between zero x v bytes x' sound tag e =
      first zero x v bytes x' sound
      (λ n b is below bs y q.
      let l = ap length (none (worked_on 1 x) bs y q) in
      (omega arith, AtLimit (worked_on 1 x) bs y q)) e
  between (suc k) x v bytes x' sound tag e =
      first (suc k) x v bytes x' sound
      (λ n b is below bs y q.
      let t = subst (IsSoundTag functions x.objects) is tag in
      let small = t.bound_word in
      let i = between k (worked_on 1 x) (moved 1 v) bs y sound
      (subst (IsSoundTag functions x.objects) (sym (moved_tag v)) tag) q in
      let word = moved_word v (omega arith) in
      let w = i.within in
      let same = same_object i.number n i.bounds b (sym i.tag_is ∙ moved_tag v ∙ is) in
      let bound = ap (λ z. z.bound) same.1 in
      (omega arith, from_next x.objects v (moved 1 v) n i.number b i.bounds (length bs) same.0 same.1 word i.how)) e

-- ---- a whole string, and at most so many bytes of one

pub scan_between : (functions line : ℕ) (x : Source) (v : Value) (bytes : List ℕ) (x' : Source)
    → IsSound functions x.objects → IsSoundTag functions x.objects v.tag → scan v line x ≡ Gives bytes x'
    → IsBetween (stop (Spatial line)) x.objects v (length bytes)
scan_between functions line x v bytes x' sound tag e = by (reach v) refl
  where
    by : (k : ℕ) → reach v ≡ k → IsBetween (stop (Spatial line)) x.objects v (length bytes)
    by zero is = absurd (let z = sym (ap (λ k. scan_within k (stop (Spatial line)) v line x) is) ∙ e in cc)
    by (suc k) is = between functions line (stop (Spatial line)) (λ y bs y' q. cc) k x v bytes x' sound tag
        (sym (ap (λ k. scan_within k (stop (Spatial line)) v line x) is) ∙ e)

pub at_most_between : (functions line n : ℕ) (x : Source) (v : Value) (bytes : List ℕ) (x' : Source) → 1 ≤ n
    → IsSound functions x.objects → IsSoundTag functions x.objects v.tag
    → scan_within n (done []) v line x ≡ Gives bytes x' → IsBetween (done []) x.objects v (length bytes)
at_most_between functions line zero x v bytes x' some sound tag e = absurd (omega arith)
at_most_between functions line (suc k) x v bytes x' some sound tag e =
    between functions line (done []) (λ y bs y' q. sym (ap given_bytes q)) k x v bytes x' sound tag e
  where
    given_bytes : Completed (List ℕ) → List ℕ
    given_bytes (Gives bytes x) = bytes
    given_bytes (Ended e x) = []
    given_bytes (Paused x) = []

-- ---- in memory

-- they lie in object space
pub range_of : (g : Views) (k : Keys) (behind : Run (List ℕ)) (objects : Objects) (v : Value) (n : ℕ) (m : Bytes)
    → StandsFor g k objects m → IsSoundTag g.functions objects v.tag → IsBetween behind objects v n
    → IsObjectRange g.sizes v.word n
range_of g k behind objects v n m st sound i =
    let t = subst (IsSoundTag g.functions objects) i.tag_is sound in
    let p = st.placed i.number i.live in
    let a = t.base in let b = t.bound in let first = p.first in let last = p.last in let from = i.from in
    let within = i.within in
    record { first = omega arith; last = omega arith }

-- so do the bytes of a whole string
pub scanned_range : (g : Views) (k : Keys) (line : ℕ) (x : Source) (v : Value) (bytes : List ℕ) (x' : Source)
    (m : Bytes) → StandsFor g k x.objects m → IsSoundTag g.functions x.objects v.tag → scan v line x ≡ Gives bytes x'
    → IsObjectRange g.sizes v.word (length bytes)
scanned_range g k line x v bytes x' m st sound e =
    range_of g k (stop (Spatial line)) x.objects v (length bytes) m st sound
    (scan_between g.functions line x v bytes x' st.sound sound e)

-- the 0 byte stands behind a whole string
pub record IsTerminated (g : Views) (v : Value) (n : ℕ) (m : Bytes) : Type 0 where
  pub range : IsObjectRange g.sizes v.word (n + 1)
  pub last_byte : m (v.word + n) ≡ 0

pub terminated : (g : Views) (k : Keys) (line : ℕ) (objects : Objects) (v : Value) (n : ℕ) (m : Bytes)
    → StandsFor g k objects m → IsSoundTag g.functions objects v.tag → IsBetween (stop (Spatial line)) objects v n
    → IsTerminated g v n m
terminated g k line objects v n m st sound i = by i.how
  where
    by : HowEnded (stop (Spatial line)) objects v i.number i.bounds n → IsTerminated g v n m
    by (AtZero below zero_is) =
        let t = subst (IsSoundTag g.functions objects) i.tag_is sound in
        let o = object_at objects i.number in
        let p = st.placed i.number i.live in
        let a = t.base in let b = t.bound in let first = p.first in let last = p.last in let from = i.from in
        let e : o.address + (v.word + n - o.address) ≡ v.word + n = omega arith in
        record {
          range = record { first = omega arith; last = omega arith };
          last_byte = subst (λ z. m z ≡ get_or o.bytes (v.word + n - o.address) 0) e
              ((st.here i.number i.live).bytes (v.word + n - o.address) (omega arith)) ∙ zero_is;
        }
    by (AtLimit y bytes y' is) = cc

-- ---- no more bytes than are counted

pub no_more : (k : ℕ) (behind : Run (List ℕ)) → AddsNone behind → (x : Source) (v : Value) (line : ℕ) (bytes : List ℕ)
    (x' : Source) → scan_within k behind v line x ≡ Gives bytes x' → length bytes ≤ k
no_more zero behind none x v line bytes x' e = let l = ap length (none x bytes x' e) in omega arith
no_more (suc k) behind none x v line bytes x' e =
    by (no_more k behind none (worked_on 1 x) (moved 1 v) line) (judge 1 v x.objects) refl
  where
    others : (byte : ℕ) (r : Completed (List ℕ))
        → ((bs : List ℕ) (y : Source) → r ≡ Gives bs y → length bs ≤ k)
        → on r (λ bs. done (byte ∷ bs)) ≡ Gives bytes x' → length bytes ≤ suc k
    others byte (Gives bs y) less q =
        let n : suc (length bs) ≡ length bytes = ap count_of q in let l = less bs y refl in omega arith
    others byte (Ended w y) less q = cc
    others byte (Paused y) less q = cc

    chosen : ((bs : List ℕ) (y : Source) → scan_within k behind (moved 1 v) line (worked_on 1 x) ≡ Gives bs y
        → length bs ≤ k) → (b : Bool) (byte : ℕ)
        → choose b (done []) (scan_within k behind (moved 1 v) line >>= (λ bs. done (byte ∷ bs))) (worked_on 1 x)
        ≡ Gives bytes x' → length bytes ≤ suc k
    chosen less true byte q = let n : 0 ≡ length bytes = ap count_of q in omega arith
    chosen less false byte q = others byte (scan_within k behind (moved 1 v) line (worked_on 1 x)) less q

    by : ((bs : List ℕ) (y : Source) → scan_within k behind (moved 1 v) line (worked_on 1 x) ≡ Gives bs y
        → length bs ≤ k) → (w : Verdict) → judge 1 v x.objects ≡ w → length bytes ≤ suc k
    by less Outside is = absurd (let z = sym (scan_by k behind x v line Outside is) ∙ e in cc)
    by less Dead is = absurd (let z = sym (scan_by k behind x v line Dead is) ∙ e in cc)
    by less (Inside p) is =
        let byte = (read_value (Integer UnsignedChar) p x.objects).word in
        chosen less (byte == 0) byte (sym (scan_by k behind x v line (Inside p) is) ∙ e)
