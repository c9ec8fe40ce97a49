-- Where the areas of a function lie: apart from one another, behind those of the functions that wait, and within what is
-- charged for the calls.
use Rattle.std.proofs.Common.{◌≡◌, ◌≢◌, ◌⊎◌, inl, inr, ⊎_elim, ℕ, zero, suc, ◌+◌, ◌-◌, ◌*◌, ◌%◌, ◌<◌, ◌≤◌}
use Rattle.std.proofs.Common.{Bool, true, false, if◌then◌else◌, List, [], ◌∷◌, Some, refl, ap, arith}
use Rattle.std.specs.Prelude.{◌==◌, slice_get}
use Rattle.std.proofs.lemmas.Bool.{cases_lt, leb-false}
use Rattle.std.proofs.lemmas.Option.{same_Some}
use Rattle.addr_map.specs.declared.region.Region.TheVariants.{StructureValues}
use Rattle.addr_map.specs.Places.{AreMapped, MapSizes, region_end, region_size, region_start}
use Rattle.c_tree.specs.declared.expression.Kind.{Kind}
use Rattle.c_tree.specs.declared.expression.Kind.TheVariants.{Void, Scalar as OfScalar, Structure, Array}
use Rattle.c_tree.specs.Room.{structure_bytes}
use Rattle.tac_ir.specs.declared.instruction.Instruction.{Instruction}
use Rattle.tac_ir.specs.declared.instruction.Instruction.TheVariants as tac
use Rattle.tac_ir.specs.declared.function.CodeFunction.{CodeFunction}
use Rattle.tac_ir.specs.declared.function.Tac.{Tac}
use Rattle.tac_ir.specs.Meaning.{function_in}
use Rattle.tac_ir.specs.Structures.{greatest_structure, result_of, result_of_type, structure_put, structures_below}
use Rattle.lib_wrappers.specs.AreaRoutines.Areas.{area_bytes, IsAreaPlace}
use Rattle.metadata_plan.specs.Entries.{has_area}
use Rattle.metadata_relation.specs.Holding.{area_of}
use Rattle.metadata_relation.specs.Structures.{HasAreas}

-- ---- how many bytes

bytes_whole : (kind : Kind) → structure_bytes kind % 16 ≡ 0
bytes_whole Void = refl
bytes_whole (OfScalar k) = refl
bytes_whole (Structure size) = omega arith
bytes_whole (Array size) = refl

chosen_whole : (b : Bool) (kind : Kind) → (if b then structure_bytes kind else 0) % 16 ≡ 0
chosen_whole true kind = bytes_whole kind
chosen_whole false kind = refl

put_whole : (t : Tac) (j : Instruction) (i : ℕ) → structure_put t j i % 16 ≡ 0
put_whole t (tac.ZeroOf kind d m) i = chosen_whole (d == i) kind
put_whole t (tac.Take kind line d a m) i = chosen_whole (d == i) kind
put_whole t (tac.Call f line d n m) i = chosen_whole (d == i) (result_of t.results (function_in t f))
put_whole t (tac.CallThrough type_number line d n m) i = chosen_whole (d == i) (result_of_type t.results type_number)
put_whole t j i = refl

-- an area takes whole units of 16 bytes of a structure
pub greatest_whole : (t : Tac) (js : List Instruction) (i : ℕ) → greatest_structure t js i % 16 ≡ 0
greatest_whole t [] i = refl
greatest_whole t (j ∷ js) i = omega (arith, put_whole t j i, greatest_whole t js i)

pub below_whole : (t : Tac) (js : List Instruction) (n : ℕ) → structures_below t js n % 16 ≡ 0
below_whole t js zero = refl
below_whole t js (suc n) = omega (arith, below_whole t js n, greatest_whole t js n)

-- what an instruction puts is no greater than the area is for
pub put_most : (t : Tac) (js : List Instruction) (i n : ℕ) (j : Instruction) → slice_get js n ≡ Some j
    → structure_put t j i ≤ greatest_structure t js i
put_most t [] i n j h = cc
put_most t (k ∷ js) i zero j h =
    let same = ap (λ x. structure_put t x i) (same_Some k j h) in omega (arith, same)
put_most t (k ∷ js) i (suc n) j h = omega (arith, put_most t js i n j h)

-- of a temporary without an area no structure is put into
pub no_area : (t : Tac) (c : CodeFunction) (i : ℕ) → has_area t c i ≡ false → greatest_structure t c.code i ≡ 0
no_area t c i e = let none = leb-false 1 (greatest_structure t c.code i) e in omega arith

-- contents take no more than five bytes for each
pub area_within : (size greatest : ℕ) → greatest % 16 ≡ 0 → size ≤ greatest → area_bytes size ≤ 5 * greatest
area_within size greatest whole le = omega arith

-- ---- one behind the other

below_more : (t : Tac) (js : List Instruction) (i n : ℕ) → i < n
    → structures_below t js i + greatest_structure t js i ≤ structures_below t js n
below_more t js i zero lt = absurd (omega arith)
below_more t js i (suc n) lt = ⊎_elim
    (λ less. let before = below_more t js i n less in omega arith)
    (λ more. let same : i ≡ n = omega arith in
    let own = ap (λ z. structures_below t js z + greatest_structure t js z) same in omega arith)
    (cases_lt i n)

pub areas_apart : (m : MapSizes) (t : Tac) (c : CodeFunction) (charged i d : ℕ) → i ≢ d
    → (area_of m t c charged i + 5 * greatest_structure t c.code i ≤ area_of m t c charged d)
    ⊎ (area_of m t c charged d + 5 * greatest_structure t c.code d ≤ area_of m t c charged i)
areas_apart m t c charged i d ne = ⊎_elim
    (λ below. inl (let more = below_more t c.code i d below in omega arith))
    (λ above. ⊎_elim
    (λ below. inr (let more = below_more t c.code d i below in omega arith))
    (λ same. absurd (ne (omega arith))) (cases_lt d i))
    (cases_lt i d)

-- ---- where they lie

-- behind those of the functions that wait, and within what is charged
pub area_first : (m : MapSizes) (t : Tac) (c : CodeFunction) (charged i : ℕ)
    → region_start m StructureValues + (charged - c.room) ≤ area_of m t c charged i
area_first m t c charged i = omega arith

pub area_last : (m : MapSizes) (t : Tac) (c : CodeFunction) (charged i : ℕ) → HasAreas t c → c.room ≤ charged
    → area_of m t c charged i + 5 * greatest_structure t c.code i ≤ region_start m StructureValues + charged
area_last m t c charged i h le = let fit = h.fit (suc i) in omega arith

region_whole : (m : MapSizes) → AreMapped m → region_start m StructureValues % 8 ≡ 0
unfolding region_size region_start
region_whole m h = omega arith

calls_fit : (m : MapSizes) → region_end m StructureValues ≡ region_start m StructureValues + m.budgets.calls
unfolding region_size
calls_fit m = refl

pub area_place : (m : MapSizes) → AreMapped m → (t : Tac) (c : CodeFunction) (charged i size : ℕ) → HasAreas t c
    → c.room ≤ charged → charged % 8 ≡ 0 → charged ≤ m.budgets.calls → size ≤ greatest_structure t c.code i
    → IsAreaPlace m size (area_of m t c charged i)
area_place m mapped t c charged i size h le whole fits small =
    let own = h.whole in
    let region = region_whole m mapped in
    let below = below_whole t c.code i in
    let end = calls_fit m in
    let last = area_last m t c charged i h le in
    let within = area_within size (greatest_structure t c.code i) (greatest_whole t c.code i) small in
    record {
      aligned = omega arith;
      first = omega arith;
      last = omega arith;
    }
