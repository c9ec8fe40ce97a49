-- The runtime's spaces where they keep their bytes.
use Rattle.std.proofs.Common.{◌≡◌, ℕ, zero, suc, ◌+◌, ◌/◌, ◌%◌, ◌^◌, ◌<◌, ◌≤◌, ◌⊎◌, inl, inr, get_or}
use Rattle.std.proofs.Common.{refl, sym, ap, ◌∙◌, subst, arith}
use Rattle.std.specs.Int.{byte_at, bytes_low_first}
use Rattle.std.proofs.Math.Nat.{div-one, div-div-eq-div-mul, pow-succ'}
use Rattle.byteorder.specs.Endian.{little_bytes}
use Rattle.byteorder.specs.Numbers.{length-bytes_low_first}
use Rattle.addr_map.specs.declared.region.Region.TheVariants.{Locks, StructureValues}
use Rattle.addr_map.specs.Places.{MapSizes, AreMapped, spaces_begin, region_start}
use Rattle.flat_code.specs.Memory.{Bytes, put, store}
use Rattle.flat_code.proofs.Stored.{put_same, store_beside}
use Rattle.flat_code.specs.Routines.Metadata.{View, KeepsShadow}
use Rattle.flat_code.proofs.Routines.Regions.{spaces_follow}
use Rattle.flat_code.proofs.Routines.Words.{IsLocal}
use Rattle.flat_code.specs.Routines.Objects.Changes.{KeepsTables, IsPut}
use Rattle.flat_code.proofs.Routines.Objects.Changing.{global_is_lock}
use Rattle.lock_space.proofs.Spaces.{locks_laid_out}
use Rattle.lock_space.proofs.Local.{lock_kept, counter_kept, good_kept as locks_kept}
use Rattle.heap_space.proofs.Regions.{table_laid_out}
use Rattle.heap_space.proofs.Local.{rows_kept, good_kept as table_kept}
use Rattle.flat_actions.specs.Actions.{AreSpacesGood, views_of}

-- ---- spaces

-- the lock words, and what stands behind them
abbrev pub KeepsTablesBytes : MapSizes → Bytes → Bytes → Type 0
KeepsTablesBytes map m m' = (b : ℕ) → region_start map Locks ≤ b → m' b ≡ m b

pub structures_behind : (map : MapSizes) → region_start map Locks ≤ region_start map StructureValues
structures_behind map =
    let b = spaces_follow map in let first = b.locks in let last = b.table in omega arith

module _ (map : MapSizes) (mapped : AreMapped map) (functions : ℕ) (types : ℕ → ℕ) (entry : View)
    (IsGood : Bytes → Type 0) (m m' : Bytes) (keep : KeepsTablesBytes map m m') (good : AreSpacesGood map IsGood m)
  where
    pub tables_stay : KeepsTables (views_of map functions types entry) m m'
    tables_stay =
        let lie = locks_laid_out map mapped in let behind = (spaces_follow map).locks in
        record {
          locks = λ a l. lock_kept map m m' lie (λ i il. keep _ (omega arith)) a l;
          counter = counter_kept map m m' lie (λ i il. keep _ (omega arith));
          blocks = rows_kept map m m' (table_laid_out map mapped) (λ i il. keep _ (omega arith)) good.table;
        }

    pub spaces_stay : IsGood m' → AreSpacesGood map IsGood m'
    spaces_stay shadow =
        let behind = (spaces_follow map).locks in
        record {
          shadow = shadow;
          locks = locks_kept map m m' (locks_laid_out map mapped) (λ i il. keep _ (omega arith))
              (global_is_lock map mapped)
              good.locks;
          table = table_kept map m m' (table_laid_out map mapped) (λ i il. keep _ (omega arith)) good.table;
        }

-- ---- a number stored

byte_is : (i v : ℕ) → byte_at i v ≡ v / 256 ^ i % 256
byte_is zero v = ap (λ z. z % 256) (sym (div-one v))
byte_is (suc i) v = refl

next_byte : (i v : ℕ) → byte_at i (v / 256) ≡ byte_at (suc i) v
next_byte i v =
    byte_is i (v / 256) ∙ ap (λ z. z % 256) (div-div-eq-div-mul v 256 (256 ^ i)
    ∙ ap (λ z. v / z) (sym (pow-succ' 256 i)))

-- each of its bytes in memory
stored_byte : (n i : ℕ) (m : Bytes) (a v : ℕ) → i < n → store n m a v (a + i) ≡ byte_at i v
unfolding store
stored_byte zero i m a v l = absurd (omega arith)
stored_byte (suc n) zero m a v l =
    let e : a ≡ a + 0 = omega arith in
    subst (λ b. store n (put m a (v % 256)) (suc a) (v / 256) b ≡ v % 256) e
    (store_beside n (put m a (v % 256)) (suc a) (v / 256) a (inl (omega arith)) ∙ put_same m a (v % 256))
stored_byte (suc n) (suc i) m a v l =
    let e : suc a + i ≡ a + suc i = omega arith in
    subst (λ b. store n (put m a (v % 256)) (suc a) (v / 256) b ≡ byte_at (suc i) v) e
    (stored_byte n i (put m a (v % 256)) (suc a) (v / 256) (omega arith) ∙ next_byte i v)

-- and in the list
listed_byte : (n j i v : ℕ) → i < n → get_or (bytes_low_first j n v) i 0 ≡ byte_at (j + i) v
listed_byte zero j i v l = absurd (omega arith)
listed_byte (suc n) j zero v l = let e : j ≡ j + 0 = omega arith in ap (λ z. byte_at z v) e
listed_byte (suc n) j (suc i) v l =
    let e : suc j + i ≡ j + suc i = omega arith in
    listed_byte n (suc j) i v (omega arith) ∙ ap (λ z. byte_at z v) e

pub number_stored : (n i : ℕ) (m : Bytes) (a v : ℕ) → i < n → store n m a v (a + i) ≡ get_or (little_bytes n v) i 0
number_stored n i m a v l =
    let e : i ≡ 0 + i = omega arith in
    stored_byte n i m a v l ∙ ap (λ z. byte_at z v) e ∙ sym (listed_byte n 0 i v l)

-- a number of so many bytes stored below the spaces
module _ (map : MapSizes) (n : ℕ) (m : Bytes) (a v : ℕ) (low : a + n ≤ spaces_begin) where
  pub store_keeps : (b : ℕ) → spaces_begin ≤ b → store n m a v b ≡ m b
  store_keeps b l = store_beside n m a v b (inr (omega arith))

  pub store_keeps_tables : KeepsTablesBytes map m (store n m a v)
  store_keeps_tables b l = let first = (spaces_follow map).shadow in store_keeps b (omega arith)

  pub store_keeps_shadow : KeepsShadow map m (store n m a v)
  store_keeps_shadow i l = store_keeps (spaces_begin + i) (omega arith)

  module _ (mapped : AreMapped map) (functions : ℕ) (types : ℕ → ℕ) (entry : View) (IsGood : Bytes → Type 0)
      (is_local : IsLocal map entry IsGood) (good : AreSpacesGood map IsGood m) where
    pub store_is_put : IsPut (views_of map functions types entry) (little_bytes n v) a m (store n m a v)
    store_is_put =
        let long = length-bytes_low_first 0 n v in
        record {
          there = λ i l. number_stored n i m a v (omega arith);
          beside = λ b l out. store_beside n m a v b (subst (λ z. (b < a) ⊎ (a + z ≤ b)) long out);
          entries = λ w l. (is_local m (store n m a v) store_keeps_shadow good.shadow).1 w l;
          tables = tables_stay map mapped functions types entry IsGood m (store n m a v) store_keeps_tables good;
        }

    pub store_good : AreSpacesGood map IsGood (store n m a v)
    store_good = spaces_stay map mapped functions types entry IsGood m (store n m a v) store_keeps_tables good
        (is_local m (store n m a v) store_keeps_shadow good.shadow).0
