-- Numbers that stand in memory.
use Rattle.std.proofs.Common.{◌≡◌, ℕ, zero, suc, ◌+◌, ◌*◌, ◌/◌, ◌%◌, ◌^◌, ◌<◌, ◌≤◌, ◌⊎◌, inl, inr, ⊎_elim, refl, sym}
use Rattle.std.proofs.Common.{ap, ◌∙◌, subst, arith}
use Rattle.std.proofs.lemmas.Bool.{cases_eq, eq-eqb, ne_eqb, cond-true, cond-false}
use Rattle.std.proofs.Math.Nat.{pow-suc}
use Rattle.std.proofs.lemmas.Nat.{div_below}
use Rattle.flat_code.specs.Memory.{Bytes, put, load, store, AreBytes, KeepsBut, Keeps}

pub put_same : (f : ℕ → ℕ) (a v : ℕ) → put f a v a ≡ v
unfolding put
put_same f a v = cond-true _ v (f a) (eq-eqb a a refl)

pub put_other : (f : ℕ → ℕ) (a v b : ℕ) → (b ≡ a → ⊥) → put f a v b ≡ f b
unfolding put
put_other f a v b h = cond-false _ v (f b) (ne_eqb b a h)

-- a store leaves what is not among its bytes
pub store_beside : (n : ℕ) (m : Bytes) (a v : ℕ) → KeepsBut a n m (store n m a v)
unfolding store
store_beside zero m a v b h = refl
store_beside (suc n) m a v b h =
    store_beside n (put m a (v % 256)) (suc a) (v / 256) b (⊎_elim (λ l. inl (omega arith)) (λ r. inr (omega arith)) h)
    ∙ put_other m a (v % 256) b (λ e. ⊎_elim (λ l. omega arith) (λ r. omega arith) h)

-- equal bytes are equal numbers
pub load_kept : (n : ℕ) (m m' : Bytes) (a : ℕ) → Keeps a n m m' → load n m' a ≡ load n m a
unfolding load
load_kept zero m m' a h = refl
load_kept (suc n) m m' a h =
    let here : m' a ≡ m a = let e : a + 0 ≡ a = omega arith in subst (λ b. m' b ≡ m b) e (h 0 (omega arith)) in
    let rest : Keeps (suc a) n m m' = λ i l.
    (let e : a + suc i ≡ suc a + i = omega arith in subst (λ b. m' b ≡ m b) e (h (suc i) (omega arith))) in
    ap (λ x. x + 256 * load n m' (suc a)) here ∙ ap (λ x. m a + 256 * x) (load_kept n m m' (suc a) rest)

-- a number that fits is loaded as it was stored
pub load_stored : (n : ℕ) (m : Bytes) (a v : ℕ) → v < 256 ^ n → load n (store n m a v) a ≡ v
unfolding load store
load_stored zero m a v h = omega arith
load_stored (suc n) m a v h =
    let lowest = put m a (v % 256) in
    let first : store n lowest (suc a) (v / 256) a ≡ v % 256 =
    store_beside n lowest (suc a) (v / 256) a (inl (omega arith)) ∙ put_same m a (v % 256) in
    let small : v / 256 < 256 ^ n = div_below v 256 (256 ^ n) (omega arith) (subst (λ x. v < x) (pow-suc 256 n) h) in
    let rest = load_stored n lowest (suc a) (v / 256) small in
    ap (λ x. x + 256 * load n (store n lowest (suc a) (v / 256)) (suc a)) first ∙ ap (λ x. v % 256 + 256 * x) rest
    ∙ omega arith

-- what KeepsBut keeps
pub kept_beside : (a k b n : ℕ) (m m' : Bytes) → KeepsBut a k m m' → (b + n ≤ a) ⊎ (a + k ≤ b) → Keeps b n m m'
kept_beside a k b n m m' h apart i l = h (b + i) (⊎_elim (λ x. inl (omega arith)) (λ x. inr (omega arith)) apart)

-- a store leaves the numbers beside it
pub load_beside : (n k : ℕ) (m : Bytes) (a b v : ℕ) → (b + n ≤ a) ⊎ (a + k ≤ b) → load n (store k m a v) b ≡ load n m b
load_beside n k m a b v h = load_kept n m (store k m a v) b
    (kept_beside a k b n m (store k m a v) (store_beside k m a v) h)

-- what all but some bytes leaves leaves all but more; and two such changes are one
pub keeps_within : (a k b n : ℕ) (m m' : Bytes) → b ≤ a → a + k ≤ b + n → KeepsBut a k m m' → KeepsBut b n m m'
keeps_within a k b n m m' l r h c out = h c (⊎_elim (λ x. inl (omega arith)) (λ x. inr (omega arith)) out)

pub keeps_both : (a k : ℕ) (m m1 m2 : Bytes) → KeepsBut a k m m1 → KeepsBut a k m1 m2 → KeepsBut a k m m2
keeps_both a k m m1 m2 h g b out = g b out ∙ h b out

pub load_fits : (n : ℕ) (m : Bytes) (a : ℕ) → AreBytes m → load n m a < 256 ^ n
unfolding load
load_fits zero m a h = omega arith
load_fits (suc n) m a h = let b = h a in let r = load_fits n m (suc a) h in rw pow-suc (omega arith)

pub put_keeps_bytes : (m : Bytes) (a v : ℕ) → v < 256 → AreBytes m → AreBytes (put m a v)
put_keeps_bytes m a v l h b =
    ⊎_elim
    (λ e. subst (λ x. x < 256) (sym (put_same m a v) ∙ ap (put m a v) (sym e)) l)
    (λ ne. subst (λ x. x < 256) (sym (put_other m a v b ne)) (h b))
    (cases_eq b a)

pub store_keeps_bytes : (n : ℕ) (m : Bytes) (a v : ℕ) → AreBytes m → AreBytes (store n m a v)
unfolding store
store_keeps_bytes zero m a v h = h
store_keeps_bytes (suc n) m a v h =
    store_keeps_bytes n (put m a (v % 256)) (suc a) (v / 256) (put_keeps_bytes m a (v % 256) (omega arith) h)
