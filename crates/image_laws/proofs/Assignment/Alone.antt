-- Functions whose bodies assign all that they read can be planned: the function with which a run begins is one.
use Rattle.std.proofs.Common.{◌≡◌, ◌⊎◌, inl, inr, ⊎_elim, ℕ, zero, suc, ◌^◌, ◌<◌, ◌≤◌, refl}
use Rattle.std.proofs.Common.{arith, Bool, true, false, List, [], ◌∷◌, ◌++◌, length, length-append, Option, Some, None}
use Rattle.std.specs.Prelude.{slice_get, if◌then◌else◌}
use Rattle.std.proofs.lemmas.Option.{same_Some, none-some}
use Rattle.addr_map.specs.declared.region.Region.TheVariants.{Locks, Stack}
use Rattle.addr_map.specs.Places.{MapSizes, region_start}
use Rattle.rv_isa.specs.declared.instruction.StoreOp.TheVariants.{Sd}
use Rattle.c_tree.specs.declared.program.Variable.{Variable}
use Rattle.source_meaning.specs.Blocks.{has_objects}
use Rattle.tac_ir.specs.declared.function.CodeFunction.{CodeFunction}
use Rattle.tac_ir.specs.declared.function.Tac.{Tac}
use Rattle.tac_ir.specs.Meaning.{function_in as code_in}
use Rattle.flat_code.specs.declared.instruction.FlatInstruction.{FlatInstruction}
use Rattle.flat_code.specs.declared.instruction.FlatInstruction.TheVariants.{Constant, Store, Turn, Call, Exit}
use Rattle.flat_code.specs.declared.function.FlatFunction.{FlatFunction}
use Rattle.flat_code.specs.declared.function.FlatProgram.{FlatProgram}
use Rattle.flat_code.specs.Calls.{function_in}
use Rattle.flat_code.specs.Meaning.{parameters_of, results_of}
use Rattle.lib_wrappers.specs.AllocatingRoutines.Allocating.{keys_code, key_test}
use Rattle.lib_wrappers.specs.AllocatingRoutines.Entering.{block_bytes}
use Rattle.metadata_plan.specs.Blocks.{call_tests}
use Rattle.metadata_relation.specs.Laid.{entry_of}
use Rattle.metadata_relation.specs.Blocks.{top_cell, main_tests, entry_code, objects_of_body, object_tests}
use Rattle.metadata_relation.specs.Blocks.{space_test}
use Rattle.reg_plan.specs.Needs.{IsNeeded, Read, Made, Before}
use Rattle.reg_plan.specs.Accepted.{HasHome}
use Rattle.reg_plan.specs.Planned.{IsPlannable}
use Rattle.image_laws.specs.Plans.Assignment.{Registers, IsOneOf, Goes, Begins, IsAssigned, Assigns, Names, HasOwnHomes}
use Rattle.image_laws.proofs.Plans.Flow.{none_has}
use Rattle.image_laws.proofs.Assignment.Flows.{Flows, followed, flow_assigns, flow_names, last_ends, LastIn}
use Rattle.image_laws.proofs.Assignment.Flows.{last_append}
use Rattle.image_laws.proofs.Assignment.Straight.{straight, nothing, stops_run}
use Rattle.image_laws.proofs.Assignment.Pieces.{call_flows, forgotten, some_behind}
use Rattle.image_laws.proofs.Assignment.Accesses.{AreOwn}
use Rattle.image_laws.proofs.Assignment.Calls.{call_tests_flows, object_tests_flows}

-- ---- one body

module _ (p : FlatProgram) (u : ℕ) (f : FlatFunction) (a : Assigns p u (λ y. y < f.parameters) f.body 0 []) where
  needed : (pc y : ℕ) → IsNeeded p u f.body pc y → IsAssigned p (λ y. y < f.parameters) f.body pc y
  needed _ _ (Read pc y r) = a.reads pc y r
  needed _ _ (Made pc q y l r) = a.makes pc q y l.0 l.1 l.2 r l.3
  needed _ _ (Before pc q y l n not_made) = λ way.
      ⊎_elim inl (λ m. ⊎_elim (λ e. absurd (not_made (l.0, l.1, e))) inr m) (needed q y n (Goes pc q l.0 way l.1 l.2))

  module _ (count : ℕ) (names : Names p u f.body (λ y. y < count)) where
    named : (pc y : ℕ) → IsNeeded p u f.body pc y → y < count
    named _ _ (Read pc y r) = names.read pc y r
    named _ _ (Made pc q y l r) = names.made pc y (r.0, r.1, r.2)
    named _ _ (Before pc q y l n not_made) = named q y n

pub alone_plannable : (p : FlatProgram) (u count : ℕ) (f : FlatFunction) → length f.body < 2 ^ 32
    → Assigns p u (λ y. y < f.parameters) f.body 0 [] → Names p u f.body (λ y. y < count) → HasOwnHomes f count
    → IsPlannable p u f
alone_plannable p u count f small a names homes = record {
  count = small;
  named = record {
    read = λ pc y r. let z = names.read pc y r in omega (arith, z, homes.few);
    made = λ pc y r. let z = names.made pc y r in omega (arith, z, homes.few);
  };
  inside = λ pc y n. homes.inside y (named p u f a count names pc y n);
  apart = λ pc x y w nx ny ex ey.
      homes.apart x y w (named p u f a count names pc x nx) (named p u f a count names pc y ny) ex ey;
  entry = λ y n. ⊎_elim (λ lt. lt) absurd (needed p u f a 0 y n Begins);
}

-- ---- the function with which a run begins

-- each of its two registers has a home of its own
pub homes_own : (m : MapSizes) (t : Tac) → HasOwnHomes (entry_of m t) 2
homes_own m t = record { few = omega arith; inside = inside; apart = apart }
  where
    inside : (y : ℕ) → y < 2 → HasHome (entry_of m t) y
    inside zero lt = record { word = 0; is = refl; inside = omega arith }
    inside (suc zero) lt = record { word = 1; is = refl; inside = omega arith }
    inside (suc (suc y)) lt = absurd (omega (arith, lt))

    apart : (x y w : ℕ) → x < 2 → y < 2 → slice_get (0 ∷ 1 ∷ []) x ≡ Some w → slice_get (0 ∷ 1 ∷ []) y ≡ Some w
        → x ≡ y
    apart zero zero w a b ex ey = refl
    apart (suc zero) (suc zero) w a b ex ey = refl
    apart zero (suc zero) w a b ex ey =
        let s = same_Some 0 w ex in let t = same_Some 1 w ey in absurd (omega (arith, s, t))
    apart (suc zero) zero w a b ex ey =
        let s = same_Some 1 w ex in let t = same_Some 0 w ey in absurd (omega (arith, s, t))
    apart (suc (suc x)) y w a b ex ey = absurd (omega (arith, a))
    apart x (suc (suc y)) w a b ex ey = absurd (omega (arith, b))

module _ (p : FlatProgram) (u : ℕ) (m : MapSizes) (t : Tac)
    (takes : parameters_of (function_in p t.main) ≡ 0) (gives : results_of (function_in p t.main) ≤ 2) where
  abbrev P : Registers
  P y = y < 2

  abbrev G : Registers
  G y = y < 0

  low : (y : ℕ) → G y → P y
  low y lt = omega (arith, lt)

  own : AreOwn P 0 2
  own y le lt = omega (arith, lt)

  abbrev first : List FlatInstruction
  first =
      Turn ∷ Turn ∷ Turn
      ∷ Constant 0 (region_start m Locks)
      ∷ Constant 1 1
      ∷ Store Sd 0 0 1
      ∷ Constant 0 (top_cell m)
      ∷ Constant 1 (region_start m Stack)
      ∷ Store Sd 0 0 1
      ∷ []

  first_flows : Flows p u P G first 0 (0 ∷ 1 ∷ [])
  first_flows =
      straight p u P 0 G first (
        tt,
        tt,
        tt,
        (
          tt,
          tt,
          tt,
          (
            tt,
            tt,
            tt,
            (
              tt,
              omega arith,
              tt,
              (
                tt,
                omega arith,
                tt,
                (
                  (inl (inr refl), inr refl),
                  tt,
                  tt,
                  (tt, omega arith, tt, (tt, omega arith, tt, ((inl (inr refl), inr refl), tt, tt, tt))),
                ),
              ),
            ),
          ),
        ),
      ) low (0 ∷ 1 ∷ [])
      (inl (inr refl), (inr refl, tt))

  tests_flows : (G : Registers) → ((y : ℕ) → G y → P y) → (c : Option CodeFunction)
      → Flows p u P G (main_tests m c) 0 []
  tests_flows G low' None = nothing p u P G low'
  tests_flows G low' (Some c) =
      followed p u P G (call_tests m c.room c.line 0) (object_tests m (objects_of_body c) c.line 0) 0 [] []
      (call_tests_flows p u P G low' m c.room c.line 0 (omega arith))
      (λ S keeps made low''. object_tests_flows p u P S low'' m (objects_of_body c) c.line 0 own)

  abbrev tests : List FlatInstruction
  tests = main_tests m (code_in t t.main)

  abbrev call : List FlatInstruction
  call = Call t.main 0 0 ∷ []

  entry_flows : Flows p u P G (entry_code m t) 0 []
  entry_flows =
      followed p u P G first (tests ++ (call ++ (Exit 0 ∷ []))) 0 (0 ∷ 1 ∷ []) [] first_flows
      (λ S keeps made low'.
      followed p u P S tests (call ++ (Exit 0 ∷ [])) 0 [] [] (tests_flows S low' (code_in t t.main))
      (λ T keeps' made' low''.
      followed p u P T call (Exit 0 ∷ []) 0 [] []
      (forgotten p u P T call 0 _
      (call_flows p u P T low'' t.main 0 0 0 (results_of (function_in p t.main)) takes refl (λ j lt. absurd (omega (arith, lt)))
      (λ j lt. omega (arith, lt, gives))))
      (λ U keeps'' made'' low3.
      stops_run p u P U (Exit 0) [] low3 tt (keeps'' 0 (keeps' 0 (made 0 (inl refl)))) tt
      (λ pc q l. ⊎_elim (none-some q) (none-some q) l) (λ y m. none_has y m))))

  entry_last : (E : Registers) → LastIn p E (entry_code m t)
  entry_last E =
      last_append p E first (tests ++ (call ++ (Exit 0 ∷ [])))
      (some_behind tests (call ++ (Exit 0 ∷ [])) (omega arith))
      (last_append p E tests (call ++ (Exit 0 ∷ [])) (omega arith) (inl refl))

  entry_few : length (entry_code m t) < 2 ^ 32
  entry_few =
      let a = length-append first (tests ++ (call ++ (Exit 0 ∷ []))) in
      let b = length-append tests (call ++ (Exit 0 ∷ [])) in
      let few = tests_few (code_in t t.main) in
      omega (arith, a, b, few)
    where
      objects_few : (vs : List Variable) (line : ℕ) → length (object_tests m vs line 0) ≤ 32
      objects_few vs line = by (has_objects vs)
        where
          by : (b : Bool)
              → length (if b then space_test m (block_bytes vs) line 0 ++ (keys_code m 0 1 ++ key_test 0 line) else []) ≤ 32
          by true = omega arith
          by false = omega arith

      tests_few : (c : Option CodeFunction) → length (main_tests m c) ≤ 64
      tests_few None = omega arith
      tests_few (Some c) = let few = objects_few (objects_of_body c) c.line in omega (arith, few)

  pub entry_plannable : IsPlannable p u (entry_of m t)
  entry_plannable =
      alone_plannable p u 2 (entry_of m t) entry_few
      (flow_assigns p u P G (entry_code m t) 0 [] entry_flows
      (last_ends p (λ y. G y ⊎ IsOneOf [] y) (entry_code m t) (entry_last (λ y. G y ⊎ IsOneOf [] y))))
      (flow_names p u P G (entry_code m t) 0 [] entry_flows) (homes_own m t)
