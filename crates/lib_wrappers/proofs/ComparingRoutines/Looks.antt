-- Bytes of objects in memory.
use Rattle.std.proofs.Common.{◌≡◌, ℕ, ◌+◌, ◌-◌, ◌^◌, ◌<◌, ◌≤◌, true}
use Rattle.std.proofs.Common.{get_or, subst, arith, refl}
use Rattle.addr_map.specs.Places.{MapSizes}
use Rattle.obj_memory.specs.declared.value.Bounds.{Bounds}
use Rattle.obj_memory.specs.Objects.{Objects, object_at}
use Rattle.obj_memory.specs.Sound.{IsTagOf}
use Rattle.flat_code.specs.Memory.{Bytes}
use Rattle.flat_code.specs.Spaces.{is_allowed}
use Rattle.flat_code.proofs.Routines.Regions.{object_allowed}
use Rattle.flat_code.specs.Routines.Objects.StandsFor.{Views, Keys, StandsFor}

-- the byte of an object at an address
abbrev pub byte_of : Objects → (number address : ℕ) → ℕ
byte_of objects n a = get_or (object_at objects n).bytes (a - (object_at objects n).address) 0

-- bytes of a live object, between bounds
pub record AreBytesOf (map : MapSizes) (objects : Objects) (n : ℕ) (b : Bounds) (m : Bytes) : Type 0 where
  pub live : (object_at objects n).is_live ≡ true
  pub there : (a : ℕ) → b.base ≤ a → a < b.bound → m a ≡ byte_of objects n a
  pub allowed : (a : ℕ) → b.base ≤ a → a < b.bound → is_allowed map a 1 ≡ true
  pub small : b.bound < 2 ^ 64

pub bytes_of : (g : Views) (k : Keys) (objects : Objects) (n : ℕ) (b : Bounds) (m : Bytes) → StandsFor g k objects m
    → (object_at objects n).is_live ≡ true → IsTagOf objects n b → AreBytesOf g.sizes objects n b m
bytes_of g k objects n b m st live tag =
    let o = object_at objects n in
    let base = tag.base in let bound = tag.bound in let p = st.placed n live in
    let first = p.first in let last = p.last in
    record {
      live = live;
      there = λ a lo hi. (let e : o.address + (a - o.address) ≡ a = omega arith in
          subst (λ z. m z ≡ byte_of objects n a) e ((st.here n live).bytes (a - o.address) (omega arith)));
      allowed = λ a lo hi. object_allowed g.sizes a a 1 refl (omega arith) (omega arith);
      small = tag.bound_word;
    }
