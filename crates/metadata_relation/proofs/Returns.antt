-- Returns: the objects of the body die, and the run goes on with the caller that waits, or ends.
use Rattle.std.proofs.Common.{◌≡◌, ◌⊎◌, inl, inr, ℕ, ◌+◌, ◌*◌, ◌%◌, ◌<◌, ◌≤◌, Bool, true, false, List, []}
use Rattle.std.proofs.Common.{◌∷◌, length, Some, None, refl, sym, ap, ◌∙◌, subst, arith, get_or}
use Rattle.std.specs.Prelude.{slice_get, nat_le, ◌==◌}
use Rattle.std.proofs.lemmas.Bool.{and_parts, and_from, eq-eqb, eqb-true, leb-true, ne_eqb}
use Rattle.behaviours.specs.Steps.{run}
use Rattle.behaviours.proofs.Running.{run_add}
use Rattle.addr_map.specs.Places.{MapSizes}
use Rattle.sb_base.specs.declared.ending.Ending.TheVariants.{Exit as ExitWith}
use Rattle.obj_memory.specs.declared.value.Scalar.TheVariants.{Integer, Pointer}
use Rattle.obj_memory.specs.declared.value.Tag.TheVariants.{Untagged}
use Rattle.c_tree.specs.declared.expression.Kind.{Kind}
use Rattle.c_tree.specs.declared.expression.Kind.TheVariants.{Void, Scalar as OfScalar, Structure, Array}
use Rattle.source_meaning.specs.State.{State}
use Rattle.source_meaning.specs.Actions.{int_of}
use Rattle.source_meaning.specs.Blocks.{without_homes}
use Rattle.source_meaning.specs.Calls.{back_to, result_of as result_in}
use Rattle.source_meaning.specs.Places.{stack_first}
use Rattle.source_meaning.specs.Structures.{rvalue}
use Rattle.tac_ir.specs.declared.function.CodeFunction.{CodeFunction}
use Rattle.tac_ir.specs.declared.instruction.Instruction.TheVariants as tac
use Rattle.tac_ir.specs.Accesses.{is_place}
use Rattle.tac_ir.specs.Fitting.{has_no_tag, is_of_type, is_passed, is_plain_word}
use Rattle.tac_ir.specs.Stage.{Temps, with_temp, Waiting, Frame, Waits, Entered, Stage, Stands, Over, Stuck}
use Rattle.tac_ir.specs.Costs.{spent}
use Rattle.tac_ir.specs.Meaning.{function_in as code_in, type_of, effect, given_to}
use Rattle.flat_code.specs.declared.instruction.FlatInstruction.{FlatInstruction}
use Rattle.flat_code.specs.declared.instruction.FlatInstruction.TheVariants as flat_code
use Rattle.flat_code.specs.declared.function.FlatProgram.{FlatProgram}
use Rattle.flat_code.specs.Memory.{Bytes}
use Rattle.flat_code.specs.State as flat
use Rattle.flat_code.specs.Words.{HasWords}
use Rattle.flat_code.specs.Calls.{function_in, with_results}
use Rattle.flat_code.specs.Meaning.{body_of, step, results_of, weight_of}
use Rattle.flat_code.specs.Routines.Objects.StandsFor.{spell}
use Rattle.flat_code.proofs.Routines.Steps.{has_back}
use Rattle.lib_wrappers.proofs.AllocatingRoutines.BlockDeaths.{count_without}
use Rattle.metadata_plan.specs.Registers.{most_temporaries}
use Rattle.metadata_plan.specs.Entries.{is_moved_with_entry}
use Rattle.metadata_plan.proofs.Flat.{one, weight_small, leads_comes, exit_step}
use Rattle.metadata_plan.proofs.Library.{status_is}
use Rattle.metadata_relation.specs.Blocks.{result_of, result_code, before_main}
use Rattle.metadata_relation.specs.Blocks.{untagged}
use Rattle.metadata_relation.specs.Holding.{World, IsHeldAt, Holds}
use Rattle.metadata_relation.specs.Registers.{is_no_aggregate, result_words, temporary_register}
use Rattle.metadata_relation.specs.Scopes.{IsInCall, AreGoodBy}
use Rattle.metadata_relation.specs.Stages.{Compiled, map_of, views, names, world, level, expansion_of}
use Rattle.metadata_relation.specs.Stages.{IsAt, MatchesBy}
use Rattle.metadata_relation.specs.Steps.{gives_from, IsCompiled, is_covered_return}
use Rattle.metadata_relation.specs.Waiting.{IsBodyAs, IsWaitingAs}
use Rattle.metadata_relation.specs.Waiting.{AllWait}
use Rattle.metadata_relation.proofs.Acting.{Reached, waits_below}
use Rattle.metadata_relation.proofs.Assigning.{assigned, are_assignments, assigns, wider}
use Rattle.metadata_relation.proofs.Handing.{scalar_place, held_at}
use Rattle.metadata_relation.proofs.Entering.{entry_there}
use Rattle.metadata_relation.proofs.Holding.{held_on, gives_temporary}
use Rattle.metadata_relation.proofs.LeftBodies as bodies
use Rattle.metadata_relation.proofs.LeftBodies.{in_results, out_results, returns_by}
use Rattle.metadata_relation.proofs.LeftObjects.{without}
use Rattle.metadata_relation.proofs.ReturnedStructures.{structure_backs}
use Rattle.metadata_relation.proofs.Packing.{held_moved}
use Rattle.metadata_relation.proofs.Registers.{few_in, temporary_free}
use Rattle.metadata_relation.proofs.Setting.{no_tag_is, untagged_is}
use Rattle.metadata_relation.proofs.Standing.{ends, Result}
use Rattle.metadata_relation.proofs.Updating.{untagged_are, untagged_leaves}
use Rattle.metadata_relation.proofs.Waiting.{waits_at, waits_same}

-- a function that gives a scalar hands over a word at least
some_results : (kind : Kind) → is_no_aggregate kind ≡ true → 1 ≤ result_words kind
some_results Void e = omega arith
some_results (OfScalar (Integer t)) e = omega arith
some_results (OfScalar Pointer) e = omega arith
some_results (Structure size) e = cc
some_results (Array size) e = cc

few_results : (kind : Kind) → is_no_aggregate kind ≡ true → result_words kind ≤ 5
few_results Void e = omega arith
few_results (OfScalar (Integer t)) e = omega arith
few_results (OfScalar Pointer) e = omega arith
few_results (Structure size) e = cc
few_results (Array size) e = cc

module _ (c : Compiled) (IsGood : Bytes → Type 0) (right : IsCompiled c IsGood) (u n : ℕ) (temps : Temps)
    (ws : List Frame) (s : State) (v : flat.State) (xs : List flat.Frame)
    (h : IsAt c IsGood u n temps ws s u (c.layout.address u n) v xs)
    (as_words : HasWords (flat.Stands u (c.layout.address u n) v xs)) (a : ℕ)
    (at : slice_get h.code.code n ≡ Some (tac.Return a)) where
  abbrev pc : ℕ
  pc = c.layout.address u n

  abbrev m : MapSizes
  m = map_of c

  abbrev p : FlatProgram
  p = c.layout.program

  abbrev kind : Kind
  kind = result_of c.layout.expansion.code h.code

  abbrev r : ℕ
  r = temporary_register h.code a

  low : a < most_temporaries h.code.code
  low = bodies.low c IsGood right u n temps ws s v xs h as_words a at

  abbrev IsLeft : (outer mark : ℕ) → Type 0
  IsLeft = bodies.IsLeft c IsGood right u n temps ws s v xs h as_words a at

  results : results_of (function_in c.layout.program u) ≡ result_words (result_of c.layout.expansion.code h.code)
  results = bodies.results c IsGood right u n temps ws s v xs h as_words a at

  -- the state once the value is handed on
  abbrev handed : State
  handed = bodies.handed c IsGood right u n temps ws s v xs h as_words a at

  module _ (passed : is_passed (result_of c.layout.expansion.code h.code) (temps a) ≡ true)
      (scalar : is_no_aggregate (result_of c.layout.expansion.code h.code) ≡ true) where
    contents_none : (temps a).contents ≡ None
    contents_none = scalar_place kind (temps a) scalar passed

    held : IsHeldAt (world c h.keys s v) (c.layout.expansion.entries u n a) (temps a).value (temporary_register h.code a)
        v.values
    held = held_at c IsGood right u n temps ws s v xs h a low contents_none

    -- ---- to the end of the run

    ended : (outer mark : ℕ) → IsLeft outer mark → (x : flat.Frame) → xs ≡ x ∷ [] → x.function ≡ c.layout.program.entry
        → x.next ≡ length (before_main (map_of c) c.layout.expansion.code) + 1 → x.into ≡ 0
        → Result c IsGood (Over (ExitWith (int_of (temps a).value.word)) handed)
        (flat.Stands u (c.layout.address u n) v (x ∷ []))
    ended outer mark out x one function next into =
        let y = out.state in
        let reached = subst (λ q. Reached m p u pc v q out.at_return out.state 26) one out.objects.reached in
        let k = result_words kind in
        let w = y.values r in
        let values = with_results x.into k y.values r x.values in
        let back : flat.State = record y { values = values; work = y.work + (8 + 2 * k) } in
        let entry = entry_there c.layout.expansion (function_in p p.entry) right.expanded.enters in
        let rest = has_back (body_of (function_in p p.entry)) 0 (before_main m c.layout.expansion.code)
        (flat_code.Call c.layout.expansion.code.main 0 0 ∷ flat_code.Exit 0 ∷ []) entry.has in
        let place = 0 + length (before_main m c.layout.expansion.code) + 1 in
        let place_is : x.next ≡ place = omega (arith, next) in
        let first = returns_by m p u out.at_return y x [] r k out.here results
        ∙ ap (λ z. flat.Stands z x.next back []) function ∙ ap (λ z. flat.Stands p.entry z back []) place_is in
        let second = exit_step m p p.entry place back [] 0 rest.1.0 in
        let some = some_results kind scalar in
        let few = few_results kind scalar in
        let status : values 0 ≡ w =
        in_results x.into k r 0 y.values x.values (omega (arith, into)) (omega (arith, into, some))
        ∙ ap y.values (omega (arith, into)) in
        let last : flat.State = record back { work = back.work + weight_of (function_in p p.entry) } in
        let comes : run (step m p) (reached.steps + 2) (flat.Stands u pc v (x ∷ [])) ≡ flat.Over (values 0 % 256) [] last =
        run_add (step m p) reached.steps 2 (flat.Stands u pc v (x ∷ [])) ∙ ap (run (step m p) 2) reached.comes
        ∙ ap (step m p) first ∙ second in
        let shown = out.objects.stands.for.shown in
        let less = reached.few in
        let before = h.work in
        let light = weight_small (function_in p p.entry) in
        let result : Result c IsGood (Over (ExitWith (int_of w)) handed) (flat.Stands u pc v (x ∷ [])) =
        ends c IsGood (flat.Stands u pc v (x ∷ [])) (ExitWith (int_of w)) handed last (reached.steps + 2) (values 0 % 256) [] comes
        (ap (λ z. z % 256) status ∙ status_is w) refl
        (record { input = shown.input; output = shown.output; taken = shown.taken; accesses = shown.accesses })
        out.objects.stands.turns (omega (arith, before, light, few, less)) in
        subst (λ z. Result c IsGood (Over (ExitWith (int_of z)) handed) (flat.Stands u pc v (x ∷ [])))
        (out.objects.same r (omega (arith, temporary_free h.code a low)) ∙ held.word) result

    -- ---- to a caller

    module _ (outer mark : ℕ) (out : IsLeft outer mark) where
      there_held : IsHeldAt (world c h.keys (without s.frame outer s) out.state) (c.layout.expansion.entries u n a)
          (temps a).value (temporary_register h.code a) out.state.values
      there_held =
          held_on (views c) h.keys h.keys s.objects (without_homes s.frame s.objects) v.memory out.state.memory
          out.objects.goes (c.layout.expansion.entries u n a) (temps a).value r v.values out.state.values
          (λ j lt. (let few = few_in (c.layout.expansion.entries u n a) in
          let free = temporary_free h.code a low in
          out.objects.same (r + j) (omega arith))) held

      -- its first word does
      first_word : (k : ℕ) → 1 ≤ k → (into : ℕ) (before : flat.Values)
          → with_results into k out.state.values (temporary_register h.code a) before into
          ≡ out.state.values (temporary_register h.code a)
      first_word k some into before =
          in_results into k r into out.state.values before (omega arith) (omega (arith, some))
          ∙ ap out.state.values (omega arith)

      one_wide : (y into : ℕ) → (y < into) ⊎ (into + 5 ≤ y) → (y < into) ⊎ (into + 1 ≤ y)
      one_wide y into (inl below) = inl below
      one_wide y into (inr above) = inr (omega arith)

      -- the value has come to where the caller wants it, by so many words and a list behind the call
      record IsDelivered (words : ℕ) (list : List FlatInstruction) (with_entry : Bool) (into : ℕ) (before : flat.Values)
          : Type 0 where
        assigns_all : are_assignments list ≡ true
        few : 2 * words + 2 * length list ≤ 10
        held_there : IsHeldAt (world c h.keys (without s.frame outer s) out.state) with_entry (temps a).value into
            (assigned list (with_results into words out.state.values (temporary_register h.code a) before))
        others : (y : ℕ) → (y < into) ⊎ (into + 5 ≤ y)
            → assigned list (with_results into words out.state.values (temporary_register h.code a) before) y ≡ before y

      -- a word that is no pointer
      word_delivered : (temps a).value.tag ≡ Untagged → (b : Bool) (into : ℕ) (before : flat.Values)
          → IsDelivered 1 (untagged b into) b into before
      word_delivered no_tag b into before =
          let plain = untagged_are b into in
          let count = plain.1 in
          let values = with_results into 1 out.state.values r before in
          let z = untagged_leaves b into values in
          let word = z.others into (inl (omega arith)) ∙ first_word 1 (omega arith) into before ∙ there_held.word in
          record {
            assigns_all = plain.0;
            few = omega (arith, count);
            held_there = record {
              word = word;
              entry = λ q. record { word = word; tag = z.entry q ∙ ap (spell (views c) h.keys) (sym no_tag) };
              sound = there_held.sound;
            };
            others = λ y beside. z.others y (wider y into beside) ∙ out_results into 1 r y out.state.values before (one_wide y into beside);
          }

      delivered : (kind : Kind) → result_of c.layout.expansion.code h.code ≡ kind → is_no_aggregate kind ≡ true
          → is_passed kind (temps a) ≡ true → (b : Bool) (q : CodeFunction) (d : ℕ) (before : flat.Values)
          → IsDelivered (result_words kind) (result_code c.layout.expansion.code q kind b d) b (temporary_register q d) before
      delivered Void is e f b q d before =
          word_delivered (untagged_is (temps a).value.tag
          (and_parts (is_plain_word (temps a)) (has_no_tag (temps a).value.tag) f).1) b (temporary_register q d) before
      delivered (OfScalar (Integer t)) is e f b q d before =
          word_delivered (no_tag_is (Integer t) (temps a).value
          (and_parts (is_place (temps a).contents) (is_of_type (Integer t) (temps a).value) f).1) b (temporary_register q d) before
      delivered (OfScalar Pointer) is e f b q d before = record {
        assigns_all = refl;
        few = omega arith;
        held_there = held_moved (world c h.keys (without s.frame outer s) out.state) (c.layout.expansion.entries u n a) b (temps a).value r (temporary_register q d) out.state.values
            (with_results (temporary_register q d) 5 out.state.values r before)
            (λ z. (bodies.label c IsGood right u n temps ws s v xs h as_words a at).closed.read n a (tac.Return a) at
            (and_from (a == a) (is_moved_with_entry (result_of c.layout.expansion.code h.code)) (eq-eqb a a refl)
            (ap is_moved_with_entry is)))
            (λ j lt. (let few = few_in b in
            in_results (temporary_register q d) 5 r (temporary_register q d + j) out.state.values before (omega arith) (omega (arith, lt, few))
            ∙ ap out.state.values (omega arith))) there_held;
        others = λ y beside. out_results (temporary_register q d) 5 r y out.state.values before beside;
      }
      delivered (Structure size) is e f b q d before = cc
      delivered (Array size) is e f b q d before = cc

    module _ (w : Waiting) (others : List Frame) (x : flat.Frame) (rest : List flat.Frame) (alike : xs ≡ x ∷ rest)
        (body_is : IsBodyAs (world c h.keys s v) s h.code s.stacked w.caller.stacked (length s.objects) s.frame v.values)
        (k : IsWaitingAs (world c h.keys s v) c.layout h.code body_is.mark w x rest)
        (wait : AllWait (world c h.keys s v) s c.layout (stack_first c.setting) (record {
          code = k.code;
          values = x.values;
          stacked = w.caller.stacked;
          frame = w.caller.frame;
          bound = body_is.mark;
        }) others rest)
        (inside : IsInCall (names c) u w s) (good_rest : AreGoodBy (names c) w.function others inside.before) where
      abbrev out : IsLeft w.caller.stacked body_is.mark
      out = bodies.out c IsGood right u n temps ws s v xs h as_words a at w others x rest alike body_is k wait inside good_rest

      abbrev left : State
      left = without s.frame w.caller.stacked s

      abbrev left_world : World
      left_world = world c h.keys left out.state

      -- the caller's state
      abbrev back_there : State
      back_there = back_to w.caller handed

      abbrev into : ℕ
      into = temporary_register k.code w.place

      abbrev with_entry : Bool
      with_entry = c.layout.expansion.entries w.function w.node w.place

      there_is : IsDelivered w.caller.stacked body_is.mark out (result_words (result_of c.layout.expansion.code h.code))
          (result_code c.layout.expansion.code k.code (result_of c.layout.expansion.code h.code)
          (c.layout.expansion.entries w.function w.node w.place) w.place)
          (c.layout.expansion.entries w.function w.node w.place) (temporary_register k.code w.place) x.values
      there_is = delivered w.caller.stacked body_is.mark out kind refl scalar passed with_entry k.code w.place x.values

      abbrev list : List FlatInstruction
      list = result_code c.layout.expansion.code k.code (result_of c.layout.expansion.code h.code)
          (c.layout.expansion.entries w.function w.node w.place) w.place

      abbrev words : ℕ
      words = result_words (result_of c.layout.expansion.code h.code)

      abbrev given_back : flat.Values
      given_back = with_results (temporary_register k.code w.place)
          (result_words (result_of c.layout.expansion.code h.code)) out.state.values (temporary_register h.code a) x.values

      abbrev after : flat.Values
      after = assigned list given_back

      caller_holds : Holds left_world (record {
        tac = c.layout.expansion.code;
        code = k.code;
        charged = w.caller.charged;
        entries = c.layout.expansion.entries w.function w.node;
        contents = c.layout.expansion.contents w.function w.node;
        unknown = λ i. false;
      }) (with_temp w.temps w.place (rvalue (temps a).value)) w.caller.plain w.caller.frame after
      caller_holds =
          gives_temporary (views c) h.keys h.keys s.objects left.objects v.memory out.state.memory out.objects.goes (record {
            tac = c.layout.expansion.code;
            code = k.code;
            charged = w.caller.charged;
            entries = c.layout.expansion.entries w.function w.node;
            contents = c.layout.expansion.contents w.function w.node;
            unknown = λ i. i == w.place;
          }) (c.layout.expansion.entries w.function w.node) (c.layout.expansion.contents w.function w.node) (λ i. false)
          w.temps w.caller.plain w.caller.frame x.values after w.place (rvalue (temps a).value) k.low
          (record { kept = λ i ne e. e; plain = λ i ne e. e; known = λ i ne e. ne_eqb i w.place ne })
          (λ y o home live is. out.objects.live o (k.below y o home) live is) (λ y lt beside. there_is.others y beside)
          (record { by = there_is.held_there; none = λ e. refl }) k.holds

      backs : Result c IsGood (given_to (Waits w ∷ others) (temps a) handed)
          (flat.Stands u (c.layout.address u n) v (x ∷ rest))
      backs =
          let y = out.state in
          let reached = subst (λ i. Reached m p u pc v i out.at_return out.state 26) alike out.objects.reached in
          let first_state : flat.State = record y { values = given_back; work = y.work + (8 + 2 * words) } in
          let first = returns_by m p u out.at_return y x rest r words out.here results
          ∙ ap (λ z. flat.Stands x.function x.next
          (record y { values = with_results z words y.values r x.values; work = y.work + (8 + 2 * words) }) rest) k.into
          ∙ ap (λ z. flat.Stands z x.next first_state rest) k.function in
          let assigned_all = assigns m p w.function rest list there_is.assigns_all x.next first_state k.behind in
          let second_state : flat.State = record first_state { values = after; work = first_state.work + assigned_all.work } in
          let q = x.next + length list in
          let l = leads_comes m p w.function q second_state rest (c.layout.address w.function w.node) k.leads in
          let last : flat.State = record second_state { work = second_state.work + l.work } in
          let comes : run (step m p) (reached.steps + (1 + (assigned_all.steps + l.steps))) (flat.Stands u pc v (x ∷ rest))
          ≡ flat.Stands w.function (c.layout.address w.function w.node) last rest =
          run_add (step m p) reached.steps (1 + (assigned_all.steps + l.steps)) (flat.Stands u pc v (x ∷ rest))
          ∙ ap (run (step m p) (1 + (assigned_all.steps + l.steps))) reached.comes
          ∙ run_add (step m p) 1 (assigned_all.steps + l.steps) (flat.Stands u out.at_return y (x ∷ rest))
          ∙ ap (run (step m p) (assigned_all.steps + l.steps)) first
          ∙ run_add (step m p) assigned_all.steps l.steps (flat.Stands w.function x.next first_state rest)
          ∙ ap (run (step m p) l.steps) assigned_all.comes ∙ l.comes in
          let s' : State = back_there in
          let stage : Stage = Stands w.function w.node (with_temp w.temps w.place (rvalue (temps a).value)) others s' in
          let shown = out.objects.stands.for.shown in
          let less = reached.few in
          let count = count_without s.frame s.objects in
          let within = body_is.within in
          let before = h.work in
          let few = there_is.few in
          let assigned_few = assigned_all.few in
          let l_few = l.few in
          let value : temps a ≡ rvalue (temps a).value =
          ap (λ z. record { value = (temps a).value; contents = z }) contents_none in
          let result : Result c IsGood stage (flat.Stands u pc v (x ∷ rest)) = record {
            steps = reached.steps + (1 + (assigned_all.steps + l.steps));
            matches = subst (MatchesBy c IsGood stage) (sym comes) (record {
              function = refl;
              place = refl;
              code = k.code;
              there = k.there;
              work = omega (arith, before, few, assigned_few, l_few, less);
              charge = k.charge;
              fits = k.fits;
              keys = h.keys;
              stands = record {
                for = record {
                  objects = out.objects.stands.for.objects;
                  spaces = out.objects.stands.for.spaces;
                  keys = out.objects.stands.for.keys;
                  shown = record {
                    input = shown.input;
                    output = shown.output;
                    taken = shown.taken;
                    accesses = shown.accesses;
                  };
                };
                top = out.objects.stands.top;
                turns = out.objects.stands.turns;
              };
              steady = bodies.steady c IsGood right u n temps ws s v xs h as_words a at w others x rest alike body_is k wait inside good_rest;
              holds = caller_holds;
              wait = record {
                by = waits_at left_world s' c.layout (stack_first c.setting) k.code x.values after
                    (λ y from to. there_is.others y (inl (omega (arith, to)))) w.caller.stacked (length left.objects)
                    w.caller.frame others rest
                    (waits_same (views c) h.keys left s' out.state.memory c.layout (stack_first c.setting) refl (record {
                      code = k.code;
                      values = x.values;
                      stacked = w.caller.stacked;
                      frame = w.caller.frame;
                      bound = length left.objects;
                    }) others rest
                    (waits_below left_world left c.layout (stack_first c.setting) k.code x.values body_is.mark
                    (length left.objects) (omega arith) w.caller.stacked w.caller.frame others rest
                    (bodies.others_wait c IsGood right u n temps ws s v xs h as_words a at w others x rest alike body_is k wait inside good_rest)));
              };
            });
          } in
          subst (λ z. Result c IsGood (Stands w.function w.node (with_temp w.temps w.place z) others s')
          (flat.Stands u pc v (x ∷ rest))) (sym value) result

  -- ---- either

  backs_by : (kind : Kind) → result_of c.layout.expansion.code h.code ≡ kind → is_passed kind (temps a) ≡ true
      → gives_from kind a ≡ true → (w : Waiting) (others : List Frame) (x : flat.Frame) (rest : List flat.Frame)
      (alike : xs ≡ x ∷ rest)
      (body_is : IsBodyAs (world c h.keys s v) s h.code s.stacked w.caller.stacked (length s.objects) s.frame v.values)
      (k : IsWaitingAs (world c h.keys s v) c.layout h.code body_is.mark w x rest)
      (wait : AllWait (world c h.keys s v) s c.layout (stack_first c.setting) (record {
        code = k.code;
        values = x.values;
        stacked = w.caller.stacked;
        frame = w.caller.frame;
        bound = body_is.mark;
      }) others rest)
      (inside : IsInCall (names c) u w s) → AreGoodBy (names c) w.function others inside.before
      → Result c IsGood (given_to (Waits w ∷ others) (temps a) handed) (flat.Stands u (c.layout.address u n) v (x ∷ rest))
  backs_by Void is f e w others x rest alike body_is k wait inside good =
      backs (subst (λ z. is_passed z (temps a) ≡ true) (sym is) f)
      (ap is_no_aggregate is) w others x rest alike body_is k wait inside good
  backs_by (OfScalar t) is f e w others x rest alike body_is k wait inside good =
      backs (subst (λ z. is_passed z (temps a) ≡ true) (sym is) f)
      (ap is_no_aggregate is) w others x rest alike body_is k wait inside good
  backs_by (Structure size) is f e w others x rest alike body_is k wait inside good =
      let parts = and_parts (a == 0) (nat_le 1 size) e in
      structure_backs c IsGood right u n temps ws s v xs h as_words a at size is (eqb-true a 0 parts.0)
      (leb-true 1 size parts.1) f w others x rest alike body_is k wait inside good
  backs_by (Array size) is f e w others x rest alike body_is k wait inside good = cc

  returns : is_passed (result_of c.layout.expansion.code h.code) (temps a) ≡ true
      → gives_from (result_of c.layout.expansion.code h.code) a ≡ true → (given_to ws (temps a) handed ≡ Stuck → ⊥)
      → Result c IsGood (given_to ws (temps a) handed) (flat.Stands u (c.layout.address u n) v xs)
  returns passed covered = by ws xs refl h.wait.by h.steady.good.by
    where
      by : (ws' : List Frame) (xs' : List flat.Frame) → xs ≡ xs'
          → AllWait (world c h.keys s v) s c.layout (stack_first c.setting) (level h.code s v) ws' xs'
          → AreGoodBy (names c) u ws' s → (given_to ws' (temps a) handed ≡ Stuck → ⊥)
          → Result c IsGood (given_to ws' (temps a) handed) (flat.Stands u (c.layout.address u n) v xs')
      by [] [] alike wait steady fine = absurd wait
      by [] (x ∷ []) alike wait steady fine =
          ended passed wait.1.3 (stack_first c.setting) wait.0.mark
          (bodies.left_of c IsGood right u n temps ws s v xs h as_words a at (stack_first c.setting) wait.0) x alike wait.1.0 wait.1.1 wait.1.2
      by [] (x ∷ y ∷ rest) alike wait steady fine = absurd wait
      by (Entered number b ∷ others) rest alike wait steady fine = absurd (fine refl)
      by (Waits w ∷ others) [] alike wait steady fine = absurd wait
      by (Waits w ∷ others) (x ∷ rest) alike wait steady fine =
          backs_by kind refl passed covered w others x rest alike wait.0 wait.1 wait.2 steady.0 steady.1

pub return_step : (c : Compiled) (IsGood : Bytes → Type 0) (right : IsCompiled c IsGood) (u n : ℕ) (temps : Temps)
    (ws : List Frame) (s : State) (v : flat.State) (xs : List flat.Frame)
    (h : IsAt c IsGood u n temps ws s u (c.layout.address u n) v xs)
    → HasWords (flat.Stands u (c.layout.address u n) v xs) → (a : ℕ)
    → slice_get h.code.code n ≡ Some (tac.Return a)
    → is_passed (result_in c.setting (type_of (code_in c.layout.expansion.code u))) (temps a) ≡ true
    → is_covered_return c.layout.expansion.code (code_in c.layout.expansion.code u) a ≡ true
    → (effect c.setting (expansion_of c).code (tac.Return a) u temps ws (spent 3 s) ≡ Stuck → ⊥)
    → Result c IsGood (effect c.setting (expansion_of c).code (tac.Return a) u temps ws (spent 3 s))
    (flat.Stands u (c.layout.address u n) v xs)
return_step c IsGood right u n temps ws s v xs h words a at passed scalar fine =
    let type = ap type_of h.there in
    let result : result_in c.setting (type_of (code_in c.layout.expansion.code u))
    ≡ result_of c.layout.expansion.code h.code =
    ap (λ z. get_or c.setting.results z Void) type
    ∙ ap (λ z. get_or z h.code.type_number Void) (sym right.results) in
    returns c IsGood right u n temps ws s v xs h words a at
    (ap (λ z. is_passed z (temps a)) (sym result) ∙ passed)
    (ap (λ o. is_covered_return c.layout.expansion.code o a) (sym h.there) ∙ scalar) fine
