-- A memory with which code without static objects begins.
use Rattle.std.proofs.Common.{◌≡◌, ◌≢◌, inr, ℕ, ◌+◌, ◌≤◌, Bool, true, false, nat_lt}
use Rattle.std.proofs.Common.{List, [], ◌∷◌, refl, ◌∙◌, arith}
use Rattle.std.proofs.lemmas.Bool.{ltb-true, ltb-false}
use Rattle.addr_map.specs.declared.region.Region.TheVariants.{Locks}
use Rattle.addr_map.specs.Places.{MapSizes, AreMapped}
use Rattle.addr_map.proofs.Order.{starts_whole}
use Rattle.tac_ir.specs.declared.function.StaticData.{StaticData}
use Rattle.tac_ir.specs.Meaning.{placed_data}
use Rattle.flat_code.specs.Memory.{Bytes, AreBytes, load, store}
use Rattle.flat_code.proofs.Stored.{load_stored, load_beside, store_keeps_bytes}
use Rattle.flat_code.specs.Routines.Metadata.{no_metadata}
use Rattle.flat_code.specs.Routines.Objects.StandsFor.{Views, IsLock, global_lock}
use Rattle.flat_code.specs.Routines.Objects.Start.{IsStart}
use Rattle.metadata_plan.specs.Part.{has_no_statics}

-- no keys were made, and no block is live, whatever the memory holds
abbrev pub no_views : MapSizes → Views
no_views m = record {
  sizes = m;
  functions = 0;
  types = λ f. 0;
  entry = λ b a. no_metadata;
  counter = λ b. 2;
  blocks = λ b. [];
}

-- zeros, but for the lock word of static objects
abbrev pub locked : MapSizes → Bytes
locked m = store 8 (λ a. 0) (global_lock m) 1

zero_loaded : (a : ℕ) → load 8 (λ b. 0) a ≡ 0
unfolding load
zero_loaded a = refl

other_lock : (m : MapSizes) (a : ℕ) → AreMapped m → IsLock m a → a ≢ global_lock m → load 8 (locked m) a ≡ 0
other_lock m a mapped lock other =
    load_beside 8 8 (λ b. 0) (global_lock m) a 1 (inr (by (nat_lt (global_lock m) a) refl)) ∙ zero_loaded a
  where
    by : (b : Bool) → nat_lt (global_lock m) a ≡ b → global_lock m + 8 ≤ a
    by true e =
        let above = ltb-true (global_lock m) a e in
        let whole = starts_whole m mapped Locks in
        let aligned = lock.aligned in
        omega arith
    by false e =
        let below = ltb-false (global_lock m) a e in
        let first = lock.first in
        let same : a ≡ global_lock m = omega arith in
        absurd (other same)

pub no_objects_start : (m : MapSizes) → AreMapped m → IsStart (no_views m) [] (locked m)
no_objects_start m mapped = record {
  sound = record {
    at = λ n. record {
      aligned = refl;
      bytes = refl;
      values = λ k. omega arith;
      tags = refl;
      tag = λ k. tt;
    };
  };
  disjoint = record { apart = λ i j differ live other. absurd (cc) };
  static = λ n. refl;
  live = λ n below. absurd (omega arith);
  placed = λ n below. absurd (omega arith);
  here = λ n below. absurd (omega arith);
  global = load_stored 8 (λ a. 0) (global_lock m) 1 (omega arith);
  unused = λ a lock other. other_lock m a mapped lock other;
  counter = refl;
  blocks = refl;
}

pub locked_bytes : (m : MapSizes) → AreBytes (locked m)
locked_bytes m = store_keeps_bytes 8 (λ a. 0) (global_lock m) 1 (λ a. omega arith)

-- without static objects there are no objects before the run
pub none_placed : (first : ℕ) (ds : List StaticData) → has_no_statics ds ≡ true → placed_data first ds 0 ≡ []
none_placed first [] e = refl
none_placed first (d ∷ ds) e = absurd (cc)
