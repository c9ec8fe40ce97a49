-- Where static objects stand: under the numbers of their data, live, and where they are before the run.
use Rattle.std.proofs.Common.{◌≡◌, ℕ, zero, suc, ◌+◌, ◌<◌, true, [], ◌∷◌, length, List, refl, ap, ◌∙◌, arith}
use Rattle.addr_map.specs.declared.region.Region.TheVariants.{Globals}
use Rattle.addr_map.specs.Places.{MapSizes, region_start}
use Rattle.obj_memory.specs.declared.object.Storage.TheVariants.{Static}
use Rattle.obj_memory.specs.Heap.{rounded_up}
use Rattle.obj_memory.specs.Objects.{Objects, object_at}
use Rattle.obj_memory.specs.Sound.{Continues}
use Rattle.tac_ir.specs.declared.function.StaticData.{StaticData}
use Rattle.tac_ir.specs.declared.function.Tac.{Tac}
use Rattle.tac_ir.specs.Meaning.{objects_before, placed_data}
use Rattle.metadata_relation.specs.Blocks.{static_object}
use Rattle.metadata_relation.specs.Stages.{Compiled, expansion_of, map_of}

pub placed_count : (first : ℕ) (ds : List StaticData) (offset : ℕ) → length (placed_data first ds offset) ≡ length ds
placed_count first [] offset = refl
placed_count first (d ∷ ds) offset = ap suc (placed_count first ds (rounded_up 16 offset + d.size))

pub record IsPlacedStatic (n : ℕ) (objects : Objects) : Type 0 where
  pub made : n < length objects
  pub static : (object_at objects n).storage ≡ Static
  pub live : (object_at objects n).is_live ≡ true

pub placed_static : (first : ℕ) (ds : List StaticData) (offset n : ℕ) → n < length ds
    → IsPlacedStatic n (placed_data first ds offset)
placed_static first [] offset n lt = absurd (omega arith)
placed_static first (d ∷ ds) offset zero lt = record { made = omega arith; static = refl; live = refl }
placed_static first (d ∷ ds) offset (suc n) lt =
    let r = placed_static first ds (rounded_up 16 offset + d.size) n (omega arith) in
    let made = r.made in
    record { made = omega arith; static = r.static; live = r.live }

-- one that has gone on since
pub record IsStaticHere (m : MapSizes) (t : Tac) (n : ℕ) (objects : Objects) : Type 0 where
  pub made : n < length objects
  pub static : (object_at objects n).storage ≡ Static
  pub address : (object_at objects n).address ≡ (static_object m t n).address
  pub size : (object_at objects n).size ≡ (static_object m t n).size

pub static_here : (c : Compiled) → c.setting.sizes ≡ map_of c → (objects : Objects)
    → Continues (objects_before (expansion_of c).code c.setting) objects → (n : ℕ)
    → n < length (expansion_of c).code.statics → IsStaticHere (map_of c) (expansion_of c).code n objects
static_here c same objects on n lt =
    let t = (expansion_of c).code in
    let is = placed_static (region_start c.setting.sizes Globals) t.statics 0 n lt in
    let before = is.made in
    let longer = on.longer in
    record {
      made = omega arith;
      static = on.storage n before ∙ is.static;
      address = on.address n before
          ∙ ap (λ (z : MapSizes). (object_at (placed_data (region_start z Globals) t.statics 0) n).address) same;
      size = on.size n before
          ∙ ap (λ (z : MapSizes). (object_at (placed_data (region_start z Globals) t.statics 0) n).size) same;
    }
