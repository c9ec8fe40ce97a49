-- Functions and their expansions, and the result of a step that stays in its function.
use Rattle.std.proofs.Common.{Bool, suc, ◌≡◌, ℕ, ◌+◌, ◌*◌, ◌≤◌, refl, sym, ap, ◌∙◌, subst, arith}
use Rattle.std.proofs.Common.{true, false, List, Option, Some, None, length}
use Rattle.std.specs.Prelude.{slice_get, if◌then◌else◌}
use Rattle.behaviours.specs.Steps.{run}
use Rattle.addr_map.specs.Places.{MapSizes}
use Rattle.source_meaning.specs.State.{State, Setting}
use Rattle.tac_ir.specs.declared.instruction.Instruction.{Instruction}
use Rattle.tac_ir.specs.declared.function.CodeFunction.{CodeFunction}
use Rattle.tac_ir.specs.declared.function.Tac.{Tac}
use Rattle.tac_ir.specs.Temporaries.{temporaries}
use Rattle.tac_ir.specs.Stage.{Temps, Frame, Stage, Stands, Over}
use Rattle.sb_base.specs.declared.ending.Ending.{Ending}
use Rattle.sb_base.specs.Endings.{code_of, report_of}
use Rattle.flat_code.specs.declared.instruction.FlatInstruction.{FlatInstruction}
use Rattle.flat_code.specs.declared.function.FlatFunction.{FlatFunction}
use Rattle.flat_code.specs.declared.function.FlatProgram.{FlatProgram}
use Rattle.flat_code.specs.State as flat
use Rattle.flat_code.specs.Calls.{function_in, room_if}
use Rattle.flat_code.specs.Meaning.{body_of, parameters_of, results_of, step}
use Rattle.flat_code.specs.Routines.Objects.StandsFor.{Views, StandsFor}
use Rattle.metadata_plan.specs.Registers.{words_in, all_variables, most_temporaries}
use Rattle.metadata_plan.specs.Operators.{OperatorCode, AreOperators, Position, Computes}
use Rattle.flat_code.specs.Routines.Routine.{HasAt}
use Rattle.metadata_plan.specs.Blocks.{prologue}
use Rattle.metadata_plan.specs.Expanded.{Leads, IsPut, ExpandsAt, IsExpanded}
use Rattle.std.proofs.lemmas.Option.{same_Some}
use Rattle.tac_ir.specs.Edges.{LeadsTo}
use Rattle.metadata_plan.specs.Part.{are_integers, is_integer_instruction, SafeWithin, IsSafeFrom}
use Rattle.metadata_plan.specs.Part.{IsIntegerFunction, IsIntegerCode}
use Rattle.metadata_plan.specs.Matching.{factor, Holds, HaveNoObjects, IsAlike, IsAt, MatchesBy}
use Rattle.metadata_plan.proofs.Numbers.{most_at, scaled}
use Rattle.metadata_plan.proofs.Flat.{weight_small, Comes, then_comes, leads_comes}
use Rattle.metadata_plan.proofs.Holding.{IsSet}

-- the instruction of a node that is safe, and the nodes to which it leads
safe_at : (t : Tac) (c : CodeFunction) (n : ℕ) (i : Instruction) → IsSafeFrom t c n → slice_get c.code n ≡ Some i
    → (is_integer_instruction t (length (all_variables c)) i ≡ true)
    × ((m : ℕ) → LeadsTo i m → IsSafeFrom t c m)
unfolding SafeWithin
safe_at t c n i safe at = (here (safe 1), λ m l k. there k (safe (suc k)) m l)
  where
    ok : Instruction → Bool
    ok = is_integer_instruction t (length (all_variables c))

    same : (j : Instruction) → slice_get c.code n ≡ Some j → j ≡ i
    same j e = same_Some j i (sym e ∙ at)

    here : SafeWithin ok c.code 1 n → is_integer_instruction t (length (all_variables c)) i ≡ true
    here s = subst (λ j. is_integer_instruction t (length (all_variables c)) j ≡ true) (same s.0 s.1) s.2

    there : (k : ℕ) → SafeWithin ok c.code (suc k) n → (m : ℕ) → LeadsTo i m → SafeWithin ok c.code k m
    there k s m l = s.3 m (subst (λ j. LeadsTo j m) (sym (same s.0 s.1)) l)

-- a function of the program, and what stands for it
pub record IsThere (o : OperatorCode) (m : MapSizes) (t : Tac) (address : ℕ → ℕ) (c : CodeFunction)
    (q : Option FlatFunction) : Type 0 where
  pub function : FlatFunction
  pub function_is : q ≡ Some function
  pub blocks : (n : ℕ) (i : Instruction) → slice_get c.code n ≡ Some i
      → IsPut o m t c (body_of q) address (address n) i
  pub zeroed : HasAt (body_of q) 0 (prologue c)
  pub begins : Leads (body_of q) (length (prologue c)) (address c.entry)
  pub room : room_if false q ≡ c.room
  pub no_room : room_if true q ≡ 0
  pub parameters : parameters_of q ≡ words_in c.parameters
  pub results : results_of q ≡ 1

pub there_by : (o : OperatorCode) (m : MapSizes) (t : Tac) (address : ℕ → ℕ) (c : CodeFunction)
    (q : Option FlatFunction) → ExpandsAt o m t c address q → IsThere o m t address c q
there_by o m t address c None h = absurd h
there_by o m t address c (Some f) h = record {
  function = f;
  function_is = refl;
  blocks = h.blocks;
  zeroed = h.zeroed;
  begins = h.begins;
  room = ap (λ b. if b then 0 else f.room) h.of_program ∙ h.room;
  no_room = ap (λ b. if b then f.room else 0) h.of_program;
  parameters = h.parameters;
  results = h.results;
}

-- a step leaves the objects, and what a caller gets back
pub record Keeps (s s' : State) : Type 0 where
  pub objects : s'.objects ≡ s.objects
  pub frame : s'.frame ≡ s.frame
  pub stacked : s'.stacked ≡ s.stacked
  pub charged : s'.charged ≡ s.charged

-- what is known of a node and its block
pub record IsNode (o : OperatorCode) (m : MapSizes) (t : Tac) (address : ℕ → ℕ) (body : List FlatInstruction)
    (c : CodeFunction) (place : ℕ) (i : Instruction) : Type 0 where
  pub put : IsPut o m t c body address place i
  pub integers : are_integers (all_variables c) ≡ true
  pub temporaries_low : temporaries i ≤ most_temporaries c.code
  pub part : is_integer_instruction t (length (all_variables c)) i ≡ true
  pub on : (m : ℕ) → LeadsTo i m → IsSafeFrom t c m

module _ (o : OperatorCode) (views : Views) (g : Setting) (t : Tac) (address : (function node : ℕ) → ℕ)
    (p : FlatProgram) (ops : AreOperators o) (ex : IsExpanded o g.sizes t address p)
    (part : IsIntegerCode t) where
  abbrev m : MapSizes
  m = g.sizes

  pub there : (u : ℕ) (c : CodeFunction) → slice_get t.functions u ≡ Some c
      → IsThere o m t (address u) c (function_in p u)
  there u c e = there_by o m t (address u) c (function_in p u) (ex.functions u c e)

  pub integer_function : (u : ℕ) (c : CodeFunction) → slice_get t.functions u ≡ Some c
      → IsIntegerFunction t c
  integer_function u c e = part.functions u c e

  pub node : (u : ℕ) (c : CodeFunction) (n : ℕ) (i : Instruction) → slice_get t.functions u ≡ Some c
      → IsSafeFrom t c n → slice_get c.code n ≡ Some i
      → IsNode o m t (address u) (body_of (function_in p u)) c (address u n) i
  node u c n i e safe at =
      let s = safe_at t c n i safe at in
      record {
        put = (there u c e).blocks n i at;
        integers = (integer_function u c e).variables;
        temporaries_low = most_at c.code n i at;
        part = s.0;
        on = s.1;
      }

  -- the run of flat code comes to where it matches
  pub record Result (a : Stage) (x : flat.Stage) : Type 0 where
    pub steps : ℕ
    pub matches : MatchesBy views g t address p a (run (step m p) steps x)

  -- behind a block the code leads on
  pub then_leads : (u pc : ℕ) (v : flat.State) (xs : List flat.Frame) (q r : ℕ) (after : flat.State) (a : ℕ)
      → Comes m p u pc v xs q after a → Leads (body_of (function_in p u)) q r → Comes m p u pc v xs r after (a + 2)
  then_leads u pc v xs q r after a h leads =
      let between : flat.State = record after { work = v.work + h.work } in
      let k = then_comes m p u pc v xs q r after between a 2 h (leads_comes m p u q between xs r leads) in
      record { steps = k.steps; work = k.work; few = k.few; comes = k.comes }

  -- an operator is such a part of a run
  pub computed : (u pc : ℕ) (v : flat.State) (xs : List flat.Frame) (place into value scratch most : ℕ)
      → (h : Computes m p (record { function = u; place = pc; state = v; frames = xs }) place into value scratch most)
      → most * 2 ≤ 21 → Comes m p u pc v xs place (record v { values = h.after }) (most * 2)
  computed u pc v xs place into value scratch most h low = record {
    steps = h.steps;
    work = h.work;
    few = scaled most _ h.work h.few (weight_small (function_in p u));
    comes = h.comes;
  }

  pub computed_set : (x : Position) (place into value free scratch most : ℕ)
      → (h : Computes m p x place into value scratch most) → free ≤ scratch
      → IsSet free into value x.state.values h.after
  computed_set x place into value free scratch most h le =
      record { gives = h.gives; others = λ y lt ne. h.others y (omega arith) ne }

  -- a step that stays in its function
  pub stays : (u n : ℕ) (temps temps' : Temps) (ws : List Frame) (s s' : State) (v after : flat.State)
      (xs : List flat.Frame) (next most : ℕ)
      → (h : IsAt views g t address p u n temps ws s u (address u n) v xs)
      → Comes m p u (address u n) v xs (address u next) after most
      → Holds h.code temps' s'.plain after.values → IsAlike s' after → Keeps s s' → after.memory ≡ v.memory
      → most + factor * s.work ≤ factor * s'.work → IsSafeFrom t h.code next
      → Result (Stands u next temps' ws s') (flat.Stands u (address u n) v xs)
  stays u n temps temps' ws s s' v after xs next most h k holds alike keeps memory work safe = record {
    steps = k.steps;
    matches = subst (MatchesBy views g t address p (Stands u next temps' ws s')) (sym k.comes) (record {
      function = refl;
      place = refl;
      code = h.code;
      there = h.there;
      holds = holds;
      safe = safe;
      alike = record {
        input = alike.input;
        output = alike.output;
        taken = alike.taken;
        accesses = alike.accesses;
        turns = alike.turns;
      };
      work = omega (arith, h.work, k.few, work);
      homes = subst HaveNoObjects (sym keeps.frame) h.homes;
      stacked = keeps.stacked ∙ h.stacked;
      charge = keeps.charged ∙ h.charge;
      fits = omega (arith, keeps.charged, h.fits);
      keys = h.keys;
      stands = subst (λ z. StandsFor views h.keys s'.objects z) (sym memory)
          (subst (λ z. StandsFor views h.keys z v.memory) (sym keeps.objects) h.stands);
      wait = h.wait;
    });
  }

  -- a step that ends the run
  pub ends : (x : flat.Stage) (e : Ending) (s' : State) (after : flat.State) (n status : ℕ) (report : List ℕ)
      → run (step m p) n x ≡ flat.Over status report after → status ≡ code_of e → report ≡ report_of e
      → IsAlike s' after → after.work ≤ factor * (s'.work + length (report_of e)) → Result (Over e s') x
  ends x e s' after n status report comes same_status same_report alike work = record {
    steps = n;
    matches = subst (MatchesBy views g t address p (Over e s')) (sym comes)
        (record { status_is = same_status; report_is = same_report; alike = alike; work = work });
  }
