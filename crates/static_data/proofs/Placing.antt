-- Pointers to placed objects, and the objects before the run.
use Rattle.std.proofs.Common.{true, ◌≡◌, ℕ, zero, suc, ◌+◌, ◌≤◌, List, [], ◌∷◌, length, map, Some}
use Rattle.std.proofs.Common.{refl}
use Rattle.std.proofs.Common.{sym, ap, ◌∙◌, subst, arith}
use Rattle.std.specs.Prelude.{slice_get}
use Rattle.std.proofs.lemmas.Option.{same_Some}
use Rattle.addr_map.specs.Places.{objects_begin, region_start}
use Rattle.sb_base.specs.Budgets.{BudgetSizes}
use Rattle.obj_memory.specs.declared.value.Value.{Value}
use Rattle.obj_memory.specs.declared.value.Tag.TheVariants.{OfObject}
use Rattle.obj_memory.specs.declared.object.Storage.TheVariants.{Static}
use Rattle.obj_memory.specs.Heap.{rounded_up}
use Rattle.obj_memory.specs.Objects.{ObjectState, Objects, object_at, new_object, pointer_to}
use Rattle.c_tree.specs.declared.program.StaticObject.{StaticObject as CodeObject}
use Rattle.c_tree.specs.Kinds.{size_of_kind}
use Rattle.c_tree.specs.Programs.{StaticObject, Program}
use Rattle.c_tree.specs.View.{static_of, function_of, program_of}
use Rattle.c_tree.specs.declared.program.Function.{Function as CodeFunction}
use Rattle.c_tree.specs.declared.program.Program.{Program as CodeProgram}
use Rattle.c_const.specs.Addresses.{Pointers}
use Rattle.c_const.specs.Contents.{Contents}
use Rattle.source_meaning.specs.Constants.Finding.{PointTo}
use Rattle.source_meaning.specs.Constants.Leaving.{AreConstant, filled, filled_all}
use Rattle.source_meaning.proofs.Constants.Statics.{initial_objects_are}
use Rattle.source_meaning.specs.Expressions.{function_pointer}
use Rattle.source_meaning.specs.Places.{statics_first}
use Rattle.source_meaning.specs.Meaning.{placed_statics, statics_end, setting_of}
use Rattle.tac_ir.specs.declared.function.StaticData.{StaticData}
use Rattle.tac_ir.specs.Meaning.{placed_data}
use Rattle.static_data.specs.Data.{pointer_at, static_pointers, function_pointers, program_pointers, AreData}
use Rattle.static_data.specs.Data.{AreInitial}

-- static objects begin where object space does
begins : (p : Program) (budgets : BudgetSizes) → statics_first (setting_of p budgets) ≡ objects_begin
unfolding region_start
begins p budgets = refl

-- the pointer to a placed object
to_new : (n : ℕ) (address size : ℕ) (all : Objects) → object_at all n ≡ new_object Static address size
    → pointer_at n address size ≡ pointer_to n all
unfolding pointer_to new_object
to_new n address size all e =
    ap (λ o. record {
      word = o.address;
      tag = OfObject n
          (record { base = o.address; bound = o.address + o.size });
    }) (sym e)

-- those from a number on, in a list in which their objects stand
statics_point : (os : List StaticObject) (n offset : ℕ) (all : Objects)
    → ((k : ℕ) → object_at all (n + k) ≡ object_at (placed_statics objects_begin os offset) k) → (k : ℕ) (v : Value)
    → slice_get (static_pointers os n offset) k ≡ Some v → v ≡ pointer_to (n + k) all
statics_point [] n offset all at k v e = cc
statics_point (o ∷ os) n offset all at zero v e =
    let same : n + 0 ≡ n = omega arith in
    let here = to_new n (objects_begin + rounded_up 16 offset) (size_of_kind o.kind) all (ap (object_at all)
    (sym same) ∙ at 0) in
    sym (same_Some _ _ e) ∙ here ∙ ap (λ i. pointer_to i all) (sym same)
statics_point (o ∷ os) n offset all at (suc k) v e =
    let same : n + suc k ≡ suc n + k = omega arith in
    statics_point os (suc n) (rounded_up 16 offset + size_of_kind o.kind) all
    (λ j. let next : suc n + j ≡ n + suc j = omega arith in ap (object_at all) next ∙ at (suc j)) k v e
    ∙ ap (λ i. pointer_to i all) (sym same)

functions_point : (f n k : ℕ) (v : Value) → slice_get (function_pointers f n) k ≡ Some v → v ≡ function_pointer (f + k)
functions_point f zero k v e = cc
functions_point f (suc n) zero v e =
    let same : f ≡ f + 0 = omega arith in
    sym (same_Some _ _ e) ∙ ap function_pointer same
functions_point f (suc n) (suc k) v e =
    let same : suc f + k ≡ f + suc k = omega arith in
    functions_point (suc f) n k v e ∙ ap function_pointer same

pub pointers_point : (p : Program) (budgets : BudgetSizes)
    → PointTo (program_pointers p) (placed_statics (statics_first (setting_of p budgets)) p.statics 0)
pointers_point p budgets =
    let placed = placed_statics (statics_first (setting_of p budgets)) p.statics 0 in
    record {
      statics = λ n v e.
          let same : 0 + n ≡ n = omega arith in
          statics_point p.statics 0 0 placed
          (λ k.
          let zero_and : 0 + k ≡ k = omega arith in
          ap (object_at placed) zero_and ∙ ap (λ a. object_at (placed_statics a p.statics 0) k)
          (begins p budgets)) n v e
          ∙ ap (λ i. pointer_to i placed) same;
      functions = λ f v e.
          let same : 0 + f ≡ f = omega arith in
          functions_point 0 (length p.functions) f v e ∙ ap function_pointer same;
    }

-- what the data hold
abbrev contents_in : List StaticData → List Contents
contents_in = map (λ d. record { bytes = d.bytes; tags = d.tags })

constant_in : (ps : Pointers) (os : List StaticObject) (ds : List StaticData) → AreData ps os ds
    → AreConstant ps os (contents_in ds)
constant_in ps [] [] h = tt
constant_in ps [] (d ∷ ds) h = absurd h
constant_in ps (o ∷ os) [] h = absurd h
constant_in ps (o ∷ os) (d ∷ ds) h = (h.0.constant, constant_in ps os ds h.1)

-- placed with their contents
placed_one : (address : ℕ) (o : StaticObject) (d : StaticData) → d.size ≡ size_of_kind o.kind
    → filled (record { bytes = d.bytes; tags = d.tags }) (new_object Static address (size_of_kind o.kind))
    ≡ record { storage = Static; address = address; size = d.size; is_live = true; bytes = d.bytes; tags = d.tags }
unfolding new_object
placed_one address o d e =
    ap (λ n. record { storage = Static; address = address; size = n; is_live = true; bytes = d.bytes; tags = d.tags })
    (sym e)

abbrev placed_first : (first offset : ℕ) → StaticData → ObjectState
placed_first first offset d = record {
  storage = Static;
  address = first + rounded_up 16 offset;
  size = d.size;
  is_live = true;
  bytes = d.bytes;
  tags = d.tags;
}

placed_all : (ps : Pointers) (first : ℕ) (os : List StaticObject) (ds : List StaticData) (offset : ℕ) → AreData ps os ds
    → filled_all (contents_in ds) (placed_statics first os offset) ≡ placed_data first ds offset
placed_all ps first [] [] offset h = refl
placed_all ps first [] (d ∷ ds) offset h = absurd h
placed_all ps first (o ∷ os) [] offset h = absurd h
placed_all ps first (o ∷ os) (d ∷ ds) offset h =
    let rest = placed_all ps first os ds (rounded_up 16 offset + size_of_kind o.kind) h.1 in
    ap (λ x. x ∷ filled_all (contents_in ds) (placed_statics first os (rounded_up 16 offset + size_of_kind o.kind)))
    (placed_one (first + rounded_up 16 offset) o d h.0.size)
    ∙ ap (λ xs. placed_first first offset d ∷ xs) rest
    ∙ ap (λ n. placed_first first offset d ∷ placed_data first ds (rounded_up 16 offset + n)) (sym h.0.size)

pub initial_from : (p : Program) (ds : List StaticData) → statics_end p.statics 0 ≤ 0x400000
    → AreData (program_pointers p) p.statics ds → AreInitial p ds
initial_from p ds small h = record {
  by = λ budgets.
      sym (initial_objects_are p budgets (program_pointers p) (contents_in ds) small (pointers_point p budgets)
      (constant_in (program_pointers p) p.statics ds h)
      ∙ placed_all (program_pointers p) (statics_first (setting_of p budgets)) p.statics ds 0 h);
}

count_functions : (fs : List CodeFunction) → length (map function_of fs) ≡ length fs
count_functions [] = refl
count_functions (f ∷ fs) = omega (arith, count_functions fs)

pub program_pointers_are : (p : CodeProgram) (objects : List CodeObject) (functions : List CodeFunction)
    (vs ws : List Value)
    → objects ≡ p.statics → functions ≡ p.functions → vs ≡ static_pointers (map static_of objects) 0 0
    → ws ≡ function_pointers 0 (length functions)
    → record { statics = vs; functions = ws } ≡ program_pointers (program_of p)
program_pointers_are p objects functions vs ws eo ef ev ew =
    let same : vs ≡ static_pointers (map static_of p.statics) 0 0 =
    ev ∙ ap (λ l. static_pointers (map static_of l) 0 0) eo in
    let count : length functions ≡ length (map function_of p.functions) =
    ap length ef ∙ sym (count_functions p.functions) in
    let also : ws ≡ function_pointers 0 (length (map function_of p.functions)) = ew ∙ ap (function_pointers 0) count in
    ap (λ us. record { statics = us; functions = ws }) same
    ∙ ap (λ us. record { statics = static_pointers (map static_of p.statics) 0 0; functions = us }) also

pub data_from : {ps : Pointers} {ds made : List StaticData} (p : CodeProgram) (objects : List CodeObject)
    → statics_end (program_of p).statics 0 ≤ 0x400000 → objects ≡ p.statics → ps ≡ program_pointers (program_of p)
    → AreData ps (map static_of objects) ds → made ≡ ds → AreInitial (program_of p) made
data_from {ps = ps} {ds = ds} p objects small eo ep h em =
    let known = subst (λ qs. AreData qs (map static_of p.statics) ds) ep
    (subst (λ os. AreData ps (map static_of os) ds) eo h) in
    subst (AreInitial (program_of p)) (sym em) (initial_from (program_of p) ds small known)
