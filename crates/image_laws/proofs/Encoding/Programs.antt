-- Expanded programs are encodable, and can be begun.
use Rattle.std.proofs.Common.{◌≡◌, inl, ℕ, zero, suc, ◌*◌, ◌^◌, ◌<◌, ◌≤◌, refl, sym, subst, arith, true, false}
use Rattle.std.proofs.Common.{List, [], ◌∷◌, length, Option, Some, None}
use Rattle.std.specs.Prelude.{slice_get}
use Rattle.addr_map.specs.Places.{region_size}
use Rattle.obj_memory.specs.declared.value.Scalar.TheVariants.{Integer, Pointer}
use Rattle.c_tree.specs.declared.expression.Kind.{Kind}
use Rattle.c_tree.specs.declared.expression.Kind.TheVariants.{Void, Scalar as OfScalar, Structure, Array}
use Rattle.c_tree.specs.declared.program.Variable.{Variable}
use Rattle.tac_ir.specs.declared.function.CodeFunction.{CodeFunction}
use Rattle.tac_ir.specs.Meaning.{function_in}
use Rattle.flat_code.specs.declared.instruction.FlatInstruction.{FlatInstruction}
use Rattle.flat_code.specs.declared.instruction.FlatInstruction.TheVariants as flat
use Rattle.flat_code.specs.declared.function.FlatFunction.{FlatFunction}
use Rattle.flat_code.specs.declared.function.FlatProgram.{FlatProgram}
use Rattle.flat_code.specs.Calls.{function_in as flat_function, room_if}
use Rattle.flat_code.specs.Meaning.{body_of as body_in, instruction_at}
use Rattle.shadow_space.specs.Form.{EntryCode}
use Rattle.machine_laws.specs.Following.Code.{IsEncodable}
use Rattle.machine_laws.specs.Following.Start.{IsStartable}
use Rattle.runtime_functions.specs.Library.{register_count}
use Rattle.metadata_relation.specs.InlineLists.{inline_lists}
use Rattle.metadata_relation.specs.Registers.{passed_as, parameter_words, total}
use Rattle.metadata_relation.specs.Registers.{result_words}
use Rattle.metadata_relation.specs.Blocks.{Expansion, block, prologue, result_of, start_code, main_tests, before_main}
use Rattle.metadata_relation.specs.Blocks.{entry_code, objects_of_body}
use Rattle.metadata_relation.specs.Laid.{function_of, entry_of, program_of}
use Rattle.metadata_plan.specs.Blocks.{call_tests}
use Rattle.image_laws.specs.Encoding.Fitting.{IsFit, AreFit, FitEntries, HasShortPlaces, FitsCode}
use Rattle.image_laws.specs.Encoding.Fitting.{HasRooms}
use Rattle.image_laws.proofs.Plans.Expansions.{of_each, entry_last}
use Rattle.image_laws.proofs.Encoding.Parts.{fit_append, short}
use Rattle.image_laws.proofs.Encoding.Calls.{tests_fit, objects_fit}
use Rattle.image_laws.proofs.Encoding.Blocks.{block_fit, prologue_fit}
use Rattle.image_laws.proofs.Encoding.Laying.{fit_at, laid_body_fit}
use Rattle.image_laws.proofs.Encoding.Runtime.{IsRuntimeFit}

-- ---- how many words are handed over

passed_few : (v : Variable) → parameter_words v ≤ 5
passed_few v = by v.kind
  where
    by : (kind : Kind) → register_count (passed_as kind) ≤ 5
    by Void = omega arith
    by (OfScalar (Integer t)) = omega arith
    by (OfScalar Pointer) = omega arith
    by (Structure n) = omega arith
    by (Array n) = omega arith

total_few : (vs : List Variable) → total parameter_words vs ≤ 5 * length vs
total_few [] = omega arith
total_few (v ∷ vs) = let one = passed_few v in let rest = total_few vs in omega (arith, one, rest)

result_few : (kind : Kind) → result_words kind ≤ 5
result_few Void = omega arith
result_few (OfScalar (Integer t)) = omega arith
result_few (OfScalar Pointer) = omega arith
result_few (Structure n) = omega arith
result_few (Array n) = omega arith

-- ---- each function

record IsFitFunction (f : FlatFunction) : Type 0 where
  body : AreFit f.body
  room : 8 ≤ f.room
  parameters : f.parameters ≤ 1024
  results : f.results ≤ 1024

module _ (e : Expansion) (homes : CodeFunction → List ℕ) (runtime : List FlatFunction) where
  abbrev p : FlatProgram
  p = program_of e homes runtime

  module _ (read write : EntryCode) (entries : FitEntries read write e.map) (places : HasShortPlaces e.map)
      (code : FitsCode e) (same : e.inline ≡ inline_lists read write e.map) (rooms : HasRooms runtime)
      (others : (k : ℕ) (f : FlatFunction) → slice_get runtime k ≡ Some f → IsRuntimeFit f) where
    text_fit : (u : ℕ) (c : CodeFunction) → slice_get e.code.functions u ≡ Some c
        → IsFitFunction (function_of e u c (homes c))
    text_fit u c at =
        let f = code.functions u c at in
        let count = f.parameters in
        let few = total_few c.parameters in
        let results = result_few (result_of e.code c) in
        record {
          body = laid_body_fit (block e u c) (prologue e c) c (prologue_fit e c read write entries places code f same)
              (λ n i there. block_fit e u c read write i entries places code f same (f.words n i there));
          room = f.room;
          parameters = omega (arith, few, count);
          results = omega (arith, results);
        }

    main_fit : (o : Option CodeFunction) → ((c : CodeFunction) → o ≡ Some c → c.line < 2 ^ 32)
        → AreFit (main_tests e.map o)
    main_fit None low = tt
    main_fit (Some c) low =
        fit_append (call_tests e.map c.room c.line 0) _ (tests_fit e.map places c.room c.line 0 (low c refl))
        (objects_fit e.map places (objects_of_body c) c.line 0 (low c refl))

    start_fit : AreFit (start_code e.map)
    start_fit =
        (inl places.locks, (short 1 (omega arith), (omega arith, (inl places.cells, (inl places.stack, (omega arith, tt))))))

    entry_fit : IsFitFunction (entry_of e.map e.code)
    entry_fit = record {
      body = fit_append (before_main e.map e.code) (flat.Call e.code.main 0 0 ∷ flat.Exit 0 ∷ []) (
        tt,
        (
          tt,
          (
            tt,
            fit_append (start_code e.map) (main_tests e.map (function_in e.code e.code.main)) start_fit
                (main_fit (function_in e.code e.code.main) (λ c at. (code.functions e.code.main c at).line)),
          ),
        ),
      ) (tt, (tt, tt));
      room = omega arith;
      parameters = omega arith;
      results = omega arith;
    }

    each_fit : (u : ℕ) (f : FlatFunction) → flat_function p u ≡ Some f → IsFitFunction f
    each_fit =
        of_each e homes runtime (λ u f. IsFitFunction f) text_fit
        (λ k f at.
        let of = others k f at in
        record {
          body = of.body;
          room = rooms.each k f at;
          parameters = of.parameters;
          results = of.results;
        })
        (λ u. entry_fit)

    body_fit : (o : Option FlatFunction) → ((f : FlatFunction) → o ≡ Some f → IsFitFunction f) → AreFit (body_in o)
    body_fit None h = tt
    body_fit (Some f) h = (h f refl).body

    fit : (u pc : ℕ) (i : FlatInstruction) → instruction_at p u pc ≡ Some i → IsFit i
    fit u pc i at = fit_at (body_in (flat_function p u)) pc i (body_fit (flat_function p u) (each_fit u)) at

    pub encodable : IsEncodable p
    encodable = record {
      load_offset = λ u pc op x y offset at. fit u pc (flat.Load op x y offset) at;
      store_offset = λ u pc op y offset x at. fit u pc (flat.Store op y offset x) at;
      constant = λ u pc x n at. fit u pc (flat.Constant x n) at;
      operate = λ u pc op x y z at. fit u pc (flat.Operate op x y z) at;
      operate32 = λ u pc op x y z at. fit u pc (flat.Operate32 op x y z) at;
      branch = λ u pc op y z past at. fit u pc (flat.Branch op y z past) at;
      line = λ u pc ending at. (fit u pc (flat.End ending) at).0;
      status = λ u pc ending at. (fit u pc (flat.End ending) at).1;
      rooms = λ u f at. (each_fit u f at).room;
      parameters = λ u f at. (each_fit u f at).parameters;
      results = λ u f at. (each_fit u f at).results;
    }

  -- ---- the start

  pub startable : IsStartable e.map p
  unfolding region_size
  startable = record {
    function = entry_of e.map e.code;
    there = entry_last e homes runtime;
    takes_nothing = refl;
    turns = λ k below. subst (λ o. slice_get (body_in o) k ≡ Some flat.Turn) (sym (entry_last e homes runtime))
        (three k below);
    program_fits = subst (λ o. room_if false o ≤ e.map.budgets.calls) (sym (entry_last e homes runtime)) (omega arith);
    runtime_fits = subst (λ o. room_if true o ≤ 65536) (sym (entry_last e homes runtime)) (omega arith);
  }
    where
      three : (k : ℕ) → k < 3 → slice_get (entry_code e.map e.code) k ≡ Some flat.Turn
      three zero below = refl
      three (suc zero) below = refl
      three (suc (suc zero)) below = refl
      three (suc (suc (suc k))) below = absurd (omega (arith, below))
