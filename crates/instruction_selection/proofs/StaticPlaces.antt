-- Places of static objects in a table.
use Rattle.std.proofs.Common.{◌≡◌, ℕ, zero, suc, ◌+◌, ◌^◌, ◌<◌, ◌≤◌, drop, length, List, [], ◌∷◌, get_or, refl, ap, ◌∙◌, arith}
use Rattle.std.proofs.lemmas.List.{drop_more}
use Rattle.addr_map.specs.declared.region.Region.TheVariants.{Globals}
use Rattle.addr_map.specs.Places.{MapSizes, region_start}
use Rattle.obj_memory.specs.Heap.{rounded_up}
use Rattle.obj_memory.specs.Objects.{object_at}
use Rattle.tac_ir.specs.declared.function.StaticData.{StaticData}
use Rattle.tac_ir.specs.declared.function.Tac.{Tac}
use Rattle.tac_ir.specs.Meaning.{placed_data}
use Rattle.metadata_relation.specs.StartData.{statics_end}
use Rattle.instruction_selection.specs.declared.statics.StaticPlace.{StaticPlace}
use Rattle.instruction_selection.specs.Statics.{AreStaticPlaces, no_place, place_of, places_from}

place_at : (first : ℕ) (ds : List StaticData) (offset n : ℕ)
    → get_or (places_from first ds offset) n no_place ≡ place_of (object_at (placed_data first ds offset) n)
place_at first [] offset n = refl
place_at first (d ∷ ds) offset zero = refl
place_at first (d ∷ ds) offset (suc n) = place_at first ds (rounded_up 16 offset + d.size) n

-- objects end no later than all of them
pub end_above : (ds : List StaticData) (offset : ℕ) → offset ≤ statics_end ds offset
end_above [] offset = omega arith
end_above (d ∷ ds) offset =
    let behind = end_above ds (rounded_up 16 offset + d.size) in
    let up : offset ≤ rounded_up 16 offset = omega arith in
    omega (arith, behind, up)

end_at : (first : ℕ) (ds : List StaticData) (offset n : ℕ)
    → (object_at (placed_data first ds offset) n).address + (object_at (placed_data first ds offset) n).size
    ≤ first + statics_end ds offset
end_at first [] offset n = omega arith
end_at first (d ∷ ds) offset zero =
    let behind = end_above ds (rounded_up 16 offset + d.size) in
    omega (arith, behind)
end_at first (d ∷ ds) offset (suc n) = end_at first ds (rounded_up 16 offset + d.size) n

pub are_places : (m : MapSizes) (t : Tac) (places : List StaticPlace)
    → places ≡ places_from (region_start m Globals) t.statics 0 → statics_end t.statics 0 ≤ 0x400000
    → region_start m Globals ≤ 2 ^ 30 → AreStaticPlaces m t places
are_places m t places same small first = record {
  each = λ n. ap (λ ps. get_or ps n no_place) same ∙ place_at (region_start m Globals) t.statics 0 n;
  low = λ n. let end = end_at (region_start m Globals) t.statics 0 n in omega (arith, end, small, first);
}

pub place_ends : (ds : List StaticData) (i : ℕ) (d : StaticData) (offset : ℕ) → i < length ds
    → rounded_up 16 offset + (get_or ds i d).size ≤ statics_end (drop i ds) offset
place_ends ds i d offset low =
    let here : statics_end (drop i ds) offset ≡ statics_end (get_or ds i d ∷ drop (i + 1) ds) offset =
    ap (λ es. statics_end es offset) (drop_more ds i d low) in
    let more = end_above (drop (i + 1) ds) (rounded_up 16 offset + (get_or ds i d).size) in
    omega (arith, here, more)
