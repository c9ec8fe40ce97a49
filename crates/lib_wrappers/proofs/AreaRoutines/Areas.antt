-- What keeps an area: memory that is the same there, keys that are added, objects that go on.
use Rattle.std.proofs.Common.{◌≡◌, ℕ, ◌+◌, ◌*◌, ◌/◌, ◌≤◌, get_or, sym, ◌∙◌, subst, arith}
use Rattle.addr_map.specs.declared.region.Region.TheVariants.{StructureValues}
use Rattle.addr_map.specs.Places.{MapSizes, region_start}
use Rattle.obj_memory.specs.declared.value.Tag.TheVariants.{Untagged}
use Rattle.obj_memory.specs.Objects.{ObjectState, Objects}
use Rattle.obj_memory.specs.Sound.{IsSoundObject}
use Rattle.flat_code.specs.Memory.{Bytes, Keeps}
use Rattle.flat_code.specs.Routines.Objects.StandsFor.{Views, Keys}
use Rattle.flat_code.proofs.Routines.Words.{metadata_kept}
use Rattle.flat_actions.specs.Actions.{KeepsHeld}
use Rattle.lib_wrappers.proofs.MovingRoutines.Guarded.{spell_kept}
use Rattle.lib_wrappers.specs.AreaRoutines.Areas.{IsArea, area_bytes, entries_begin}

-- the bytes of the area are the same
pub area_same : (g : Views) (k : Keys) (c : ObjectState) (a : ℕ) (m m' : Bytes) → Keeps a (area_bytes c.size) m m'
    → IsArea g k c a m → IsArea g k c a m'
area_same g k c a m m' same h = record {
  bytes = λ j l. same j (omega arith) ∙ h.bytes j l;
  entries = λ w l. metadata_kept m m' (entries_begin a c.size + 32 * w)
      (λ i il. (let o : ℕ = (c.size + 7) / 8 * 8 + 32 * w + i in
      let e : a + o ≡ entries_begin a c.size + 32 * w + i = omega arith in
      subst (λ b. m' b ≡ m b) e (same o (omega arith))))
      ∙ h.entries w l;
}

-- objects that were made keep their keys and lock words, and the contents hold no other tags
pub area_kept : (g : Views) (k k' : Keys) (objects : Objects) (c : ObjectState) (a : ℕ) (m : Bytes)
    → KeepsHeld objects k k' → IsSoundObject g.functions objects c → IsArea g k c a m → IsArea g k' c a m
area_kept g k k' objects c a m held sound h = record {
  bytes = h.bytes;
  entries = λ w l. h.entries w l ∙ sym (spell_kept g k k' objects (get_or c.tags w Untagged) held (sound.tag w));
}

-- so is an area kept by all that leaves the spaces behind the table of blocks as they were
pub area_stays : (map : MapSizes) (g : Views) (k k' : Keys) (objects : Objects) (c : ObjectState) (a : ℕ) (m m' : Bytes)
    → region_start map StructureValues ≤ a → ((b : ℕ) → region_start map StructureValues ≤ b → m' b ≡ m b)
    → KeepsHeld objects k k' → IsSoundObject g.functions objects c → IsArea g k c a m → IsArea g k' c a m'
area_stays map g k k' objects c a m m' first behind held sound h =
    area_kept g k k' objects c a m' held sound (area_same g k c a m m' (λ i l. behind (a + i) (omega arith)) h)
