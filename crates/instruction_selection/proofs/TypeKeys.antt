-- What keys of pointers to functions tell, and that they leave the highest bit free.
use Rattle.std.proofs.Common.{◌≡◌, ℕ, zero, suc, ◌+◌, ◌<◌, ◌≤◌, ◌^◌, Bool, true, false, List, [], ◌∷◌, length, Some}
use Rattle.std.proofs.Common.{◌++◌, drop, get_or, refl, sym, ap, ◌∙◌, subst, arith}
use Rattle.std.proofs.lemmas.List.{append-nil}
use Rattle.std.specs.Prelude.{if◌then◌else◌, slice_get, map, min, ◌==◌, ◌/◌}
use Rattle.std.proofs.lemmas.Option.{same_Some, none-some}
use Rattle.obj_memory.specs.Heap.{rounded_up}
use Rattle.lib_wrappers.specs.AllocatingRoutines.Entering.{block_bytes}
use Rattle.source_meaning.specs.Blocks.{has_objects}
use Rattle.tac_ir.specs.declared.function.CodeFunction.{CodeFunction}
use Rattle.metadata_relation.specs.Blocks.{objects_of_body}
use Rattle.metadata_relation.specs.FunctionTypes.{first_of_type, object_units, room_told, type_key, HaveTypeKeys}

-- the number of a function's type is at most the count of all functions
first_low : (cs : List CodeFunction) (t : ℕ) → first_of_type cs t ≤ length cs
first_low [] t = omega arith
first_low (c ∷ cs) t = by (c.type_number == t) (first_low cs t)
  where
    by : (b : Bool) → first_of_type cs t ≤ length cs → (if b then 0 else suc (first_of_type cs t)) ≤ suc (length cs)
    by true rest = omega arith
    by false rest = omega (arith, rest)

units_low : (c : CodeFunction) → object_units c ≤ 2 ^ 18 + 1
units_low c = by (has_objects (objects_of_body c))
  where
    by : (b : Bool) → (if b then min (rounded_up 16 (block_bytes (objects_of_body c)) / 16) (2 ^ 18 + 1) else 0) ≤ 2 ^ 18 + 1
    by true = omega arith
    by false = omega arith

pub key_low : (cs : List CodeFunction) (c : CodeFunction) → length cs ≤ 2 ^ 12 → type_key cs c < 2 ^ 63
key_low cs c few =
    let kind = first_low cs c.type_number in
    let units = units_low c in
    let room : room_told c ≤ 2 ^ 24 + 1 = omega arith in
    omega (arith, kind, units, room, few)

-- ---- a table of them

at_number : (key : CodeFunction → ℕ) (cs : List CodeFunction) (f : ℕ) (c : CodeFunction) → slice_get cs f ≡ Some c
    → get_or (map key cs) f 0 ≡ key c
at_number key [] f c at = absurd (none-some c at)
at_number key (d ∷ cs) zero c at = subst (λ x. key d ≡ key x) (same_Some d c at) refl
at_number key (d ∷ cs) (suc f) c at = at_number key cs f c at

all_low : (key : CodeFunction → ℕ) (bound : ℕ) → 0 < bound → ((c : CodeFunction) → key c < bound)
    → (cs : List CodeFunction) (f : ℕ) → get_or (map key cs) f 0 < bound
all_low key bound some low [] f = some
all_low key bound some low (c ∷ cs) zero = low c
all_low key bound some low (c ∷ cs) (suc f) = all_low key bound some low cs f

pub keys_told : (cs : List CodeFunction) (keys : List ℕ) → length cs ≤ 2 ^ 12 → keys ≡ map (type_key cs) cs
    → HaveTypeKeys cs (λ f. get_or keys f 0)
keys_told cs keys few same = record {
  few = few;
  each = λ f c at. subst (λ ks. get_or ks f 0 ≡ type_key cs c) (sym same) (at_number (type_key cs) cs f c at);
}

pub keys_low : (cs : List CodeFunction) (keys : List ℕ) → length cs ≤ 2 ^ 12 → keys ≡ map (type_key cs) cs
    → (f : ℕ) → get_or keys f 0 < 2 ^ 63
keys_low cs keys few same f =
    subst (λ ks. get_or ks f 0 < 2 ^ 63) (sym same)
    (all_low (type_key cs) (2 ^ 63) (omega arith) (λ c. key_low cs c few) cs f)

past_all : (cs : List CodeFunction) (i : ℕ) → length cs ≤ i → drop i cs ≡ []
past_all [] zero past = refl
past_all [] (suc i) past = refl
past_all (c ∷ cs) zero past = absurd (omega (arith, past))
past_all (c ∷ cs) (suc i) past = past_all cs i (omega (arith, past))

-- where all functions were gone through, the table is of all
pub all_told : (cs : List CodeFunction) (keys : List ℕ) (i : ℕ) → length cs ≤ i
    → keys ++ map (type_key cs) (drop i cs) ≡ map (type_key cs) cs → keys ≡ map (type_key cs) cs
all_told cs keys i past same =
    sym (append-nil keys) ∙ ap (λ ds. keys ++ map (type_key cs) ds) (sym (past_all cs i past)) ∙ same
