-- Loads, and four words one after another in memory: an entry.
use Rattle.std.proofs.Common.{◌≡◌, ℕ, ◌+◌, ◌^◌, ◌<◌, ◌≤◌, inl, inr, ⊎_elim, refl, ap, ◌∙◌, subst, arith}
use Rattle.addr_map.specs.Places.{MapSizes}
use Rattle.flat_code.specs.Memory.{Bytes, load, store, Keeps, KeepsBut}
use Rattle.flat_code.proofs.Stored.{load_stored, load_beside, store_beside, load_kept}
use Rattle.flat_code.specs.Routines.Metadata.{Metadata, metadata_at, View, IsObjectWord, KeepsShadow}

-- the four words are stored from an address on
abbrev pub store_four : Bytes → ℕ → Metadata → Bytes
store_four m p e = store 8 (store 8 (store 8 (store 8 m p e.base) (p + 8) e.bound) (p + 16) e.key) (p + 24) e.lock

pub same_metadata : (x e : Metadata) → x.base ≡ e.base → x.bound ≡ e.bound → x.key ≡ e.key → x.lock ≡ e.lock → x ≡ e
same_metadata x e a b c d =
    ap (λ z. record { base = z; bound = x.bound; key = x.key; lock = x.lock }) a
    ∙ ap (λ z. record { base = e.base; bound = z; key = x.key; lock = x.lock }) b
    ∙ ap (λ z. record { base = e.base; bound = e.bound; key = z; lock = x.lock }) c
    ∙ ap (λ z. record { base = e.base; bound = e.bound; key = e.key; lock = z }) d

-- each of them is a word
pub record IsOfFourWords (e : Metadata) : Type 0 where
  pub base : e.base < 2 ^ 64
  pub bound : e.bound < 2 ^ 64
  pub key : e.key < 2 ^ 64
  pub lock : e.lock < 2 ^ 64

pub four_read : (m : Bytes) (p : ℕ) (e : Metadata) → IsOfFourWords e → metadata_at (store_four m p e) p ≡ e
four_read m p e w =
    let m1 = store 8 m p e.base in
    let m2 = store 8 m1 (p + 8) e.bound in
    let m3 = store 8 m2 (p + 16) e.key in
    let e1 = load_beside 8 8 m3 (p + 24) p e.lock (inl (omega arith))
    ∙ load_beside 8 8 m2 (p + 16) p e.key (inl (omega arith))
    ∙ load_beside 8 8 m1 (p + 8) p e.bound (inl (omega arith)) ∙ load_stored 8 m p e.base w.base in
    let e2 = load_beside 8 8 m3 (p + 24) (p + 8) e.lock (inl (omega arith))
    ∙ load_beside 8 8 m2 (p + 16) (p + 8) e.key (inl (omega arith)) ∙ load_stored 8 m1 (p + 8) e.bound w.bound in
    let e3 = load_beside 8 8 m3 (p + 24) (p + 16) e.lock (inl (omega arith)) ∙ load_stored 8 m2 (p + 16) e.key w.key in
    let e4 = load_stored 8 m3 (p + 24) e.lock w.lock in
    same_metadata (metadata_at (store_four m p e) p) e e1 e2 e3 e4

pub four_beside : (m : Bytes) (p : ℕ) (e : Metadata) → KeepsBut p 32 m (store_four m p e)
four_beside m p e b out =
    let m1 = store 8 m p e.base in
    let m2 = store 8 m1 (p + 8) e.bound in
    let m3 = store 8 m2 (p + 16) e.key in
    store_beside 8 m3 (p + 24) e.lock b (⊎_elim (λ l. inl (omega arith)) (λ r. inr (omega arith)) out)
    ∙ store_beside 8 m2 (p + 16) e.key b (⊎_elim (λ l. inl (omega arith)) (λ r. inr (omega arith)) out)
    ∙ store_beside 8 m1 (p + 8) e.bound b (⊎_elim (λ l. inl (omega arith)) (λ r. inr (omega arith)) out)
    ∙ store_beside 8 m p e.base b (⊎_elim (λ l. inl (omega arith)) (λ r. inr (omega arith)) out)

-- equal bytes are equal entries
pub metadata_kept : (m m' : Bytes) (p : ℕ) → Keeps p 32 m m' → metadata_at m' p ≡ metadata_at m p
metadata_kept m m' p h =
    let part : (o : ℕ) → o + 8 ≤ 32 → load 8 m' (p + o) ≡ load 8 m (p + o) =
    λ o l. load_kept 8 m m' (p + o) (λ i k. (let e : p + (o + i) ≡ p + o + i = omega arith in
    subst (λ b. m' b ≡ m b) e (h (o + i) (omega arith)))) in
    let first : load 8 m' p ≡ load 8 m p = load_kept 8 m m' p (λ i k. h i (omega arith)) in
    same_metadata (metadata_at m' p) (metadata_at m p) first (part 8 (omega arith)) (part 16 (omega arith))
    (part 24 (omega arith))

-- four loads and four stores at places that are these
pub loaded_at : (m : Bytes) (p a b c d : ℕ) → a ≡ p → b ≡ p + 8 → c ≡ p + 16 → d ≡ p + 24
    → record { base = load 8 m a; bound = load 8 m b; key = load 8 m c; lock = load 8 m d } ≡ metadata_at m p
loaded_at m p a b c d e0 e1 e2 e3 =
    same_metadata (record { base = load 8 m a; bound = load 8 m b; key = load 8 m c; lock = load 8 m d })
    (metadata_at m p)
    (ap (load 8 m) e0) (ap (load 8 m) e1) (ap (load 8 m) e2) (ap (load 8 m) e3)

pub stored_at : (m : Bytes) (p a b c d : ℕ) (e : Metadata) → a ≡ p → b ≡ p + 8 → c ≡ p + 16 → d ≡ p + 24
    → store 8 (store 8 (store 8 (store 8 m a e.base) b e.bound) c e.key) d e.lock ≡ store_four m p e
stored_at m p a b c d e e0 e1 e2 e3 = cc

-- ---- a form of the shadow space

-- its entries, and whether it is good, depend on the bytes of the shadow space alone
abbrev pub IsLocal : MapSizes → View → (Bytes → Type 0) → Type 0
IsLocal map entry IsGood =
    (m m' : Bytes) → KeepsShadow map m m' → IsGood m
    → IsGood m' × ((a : ℕ) → IsObjectWord map a → entry m' a ≡ entry m a)

-- ---- loads

-- a byte that is loaded is the one at its place
pub byte_loaded : (m : Bytes) (a : ℕ) → load 1 m a ≡ m a
unfolding load
byte_loaded m a = omega arith

-- a word is zero in a memory of zeros
pub zero_loaded : (a : ℕ) → load 8 (λ b. 0) a ≡ 0
unfolding load
zero_loaded a = refl
