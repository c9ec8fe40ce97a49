-- A block is left: its objects die, and the object stack ends where it did.
use Rattle.std.proofs.Common.{◌≡◌, inl, ℕ, ◌+◌, List, [], ◌∷◌}
use Rattle.std.proofs.Common.{length, Some, refl, sym, ap, ◌∙◌, subst, arith}
use Rattle.std.specs.Prelude.{slice_get, ◌==◌}
use Rattle.std.proofs.lemmas.Bool.{eqb-true}
use Rattle.obj_memory.proofs.Continuing.{continues_then}
use Rattle.c_tree.specs.declared.program.Variable.{Variable}
use Rattle.source_meaning.specs.State.{State}
use Rattle.source_meaning.specs.Blocks.{Block, leave_block}
use Rattle.source_meaning.specs.Good.{Leaves}
use Rattle.source_meaning.specs.Places.{stack_first}
use Rattle.source_meaning.proofs.SureBlocks.{left_by}
use Rattle.tac_ir.specs.declared.instruction.Instruction.TheVariants as tac
use Rattle.tac_ir.specs.Costs.{spent}
use Rattle.tac_ir.specs.Meaning.{effect, function_in as code_in, objects_before, objects_in, variables_in}
use Rattle.tac_ir.specs.Stage.{Entered, Frame, Stands, Stuck, Temps, Waits}
use Rattle.tac_ir.proofs.Fits.{only_true}
use Rattle.flat_code.specs.declared.instruction.FlatInstruction.{FlatInstruction}
use Rattle.flat_code.specs.Calls.{function_in}
use Rattle.flat_code.specs.Meaning.{body_of}
use Rattle.flat_code.specs.Memory.{Bytes}
use Rattle.flat_code.specs.State as flat
use Rattle.flat_code.specs.Words.{HasWords}
use Rattle.lib_wrappers.proofs.AllocatingRoutines.BlockDeaths.{count_without}
use Rattle.metadata_relation.specs.Blocks.{leave_code}
use Rattle.metadata_relation.specs.Holding.{Holds}
use Rattle.metadata_relation.specs.Registers.{first_free}
use Rattle.metadata_relation.specs.Scopes.{AreGood, base_of, context_at, numbers_in, variables_at}
use Rattle.metadata_relation.specs.Stages.{activation, Compiled, expansion_of, IsAt, IsSteady, level, map_of, MatchesBy}
use Rattle.metadata_relation.specs.Stages.{names, StandsIn, views, world}
use Rattle.metadata_relation.specs.Steps.{IsCompiled}
use Rattle.metadata_relation.specs.Waiting.{AllWait, IsEnteredAs}
use Rattle.metadata_relation.proofs.Acting.{reached_on, waits_below}
use Rattle.metadata_relation.proofs.Holding.{holds_on}
use Rattle.metadata_relation.proofs.LeftObjects.{HasLeftObjects, leaves_objects, without}
use Rattle.metadata_relation.proofs.Standing.{good_now, good_then, IsNode, node, none_less, none_more, Result}
use Rattle.metadata_relation.proofs.Waiting.{lock_same, waits_at, waits_by}

module _ (c : Compiled) (IsGood : Bytes → Type 0) (right : IsCompiled c IsGood) (u n : ℕ) (temps : Temps) (k : ℕ)
    (b : Block) (ws : List Frame) (s : State) (v : flat.State) (xs : List flat.Frame)
    (h : IsAt c IsGood u n temps (Entered k b ∷ ws) s u (c.layout.address u n) v xs)
    (words : HasWords (flat.Stands u (c.layout.address u n) v xs)) (next : ℕ)
    (at : slice_get h.code.code n ≡ Some (tac.LeaveBlock k next)) where
  abbrev pc : ℕ
  pc = c.layout.address u n

  abbrev free : ℕ
  free = first_free h.code

  abbrev body : List FlatInstruction
  body = body_of (function_in c.layout.program u)

  nd : IsNode c u n h.code (tac.LeaveBlock k next)
  nd = node c IsGood right u n temps (Entered k b ∷ ws) s v xs h (tac.LeaveBlock k next) at

  abbrev paid : State
  paid = spent 2 s

  abbrev left : State
  left = leave_block b (spent 2 s)

  abbrev entered : IsEnteredAs (world c h.keys s v) s h.code (length s.objects) k b s.frame v.values
  entered = h.wait.by.0

  abbrev vs : List Variable
  vs = objects_in (Some h.code) k

  -- its objects are dead
  out : (y : flat.State) × HasLeftObjects c IsGood u n temps (Entered k b ∷ ws) s v xs h b.homes b.stacked entered.mark
      (c.layout.address u n
      + length (leave_code c.layout.expansion.inline (map_of c) h.code (objects_in (Some h.code) k)))
      y
  out =
      leaves_objects c IsGood right u n temps (Entered k b ∷ ws) s v xs h words vs b.stacked b.homes entered.block
      entered.mark entered.own nd.put.has

  -- ---- the state is good

  steady : IsSteady c u ws left
  steady = record {
    good =
        let before = h.steady.good.by.0 in
        let rest : AreGood (names c) u ws before.before = record { by = h.steady.good.by.1 } in
        let l = before.since in
        let since : Leaves (context_at (names c) u (Entered k b ∷ ws)) before.behind paid =
        record { good = l.good; lives = l.lives; frame = l.frame; ended = l.ended } in
        good_then (names c) u ws before.before left
        (left_by (base_of (names c) u) (map_of c) (variables_in (code_in c.layout.expansion.code u))
        (variables_at (names c) u ws) (numbers_in (code_in c.layout.expansion.code u) k) before.before
        (good_now (names c) u ws before.before rest) b before.behind paid before.entered since) rest;
    bytes = out.1.bytes;
    keys = h.steady.keys;
    statics = continues_then (objects_before (expansion_of c).code c.setting) s.objects left.objects h.steady.statics
        out.1.goes.continues;
    statics_live = out.1.statics_live;
  }

  abbrev after : (work : ℕ) → flat.State
  after w = record out.0 { work = w }

  stands_in : (w : ℕ) → StandsIn c IsGood h.keys left (after w)
  stands_in w =
      let f = out.1.stands.for in
      record {
        for = record {
          objects = f.objects;
          spaces = f.spaces;
          keys = f.keys;
          shown = record {
            input = f.shown.input;
            output = f.shown.output;
            taken = f.shown.taken;
            accesses = f.shown.accesses;
          };
        };
        top = out.1.stands.top;
        turns = out.1.stands.turns;
      }

  holds : (w : ℕ) → Holds (world c h.keys left (after w)) (activation c h.code u next left) temps s.plain b.frame
      (after w).values
  holds w =
      holds_on (views c) h.keys h.keys s.objects left.objects v.memory out.0.memory out.1.goes (activation c h.code u n s)
      (c.layout.expansion.entries u next) (c.layout.expansion.contents u next) temps s.plain b.frame v.values
      out.0.values
      (none_more c IsGood right u n temps (Entered k b ∷ ws) s v xs h (tac.LeaveBlock k next) nd next refl (inl refl))
      (none_less c IsGood right u n temps (Entered k b ∷ ws) s v xs h (tac.LeaveBlock k next) nd next refl (inl refl))
      (λ x o home live is. out.1.live o (entered.below x o home) live is) out.1.same
      (record {
        temporaries = h.holds.temporaries;
        variables = h.holds.variables;
        homes = entered.homes;
        count = h.holds.count;
      })

  waits : (w : ℕ) → AllWait (world c h.keys left (after w)) left c.layout (stack_first c.setting)
      (level h.code left (after w)) ws xs
  waits w =
      let first = stack_first c.setting in
      let z = world c h.keys left (after w) in
      let count = count_without b.homes s.objects in
      let mark = entered.own entered.block.of_lock.some entered.block.of_lock.some_home in
      let some = mark.0 in
      let below = mark.1 in
      let two = waits_by (views c) h.keys h.keys s left v.memory (after w).memory c.layout first entered.mark out.1.goes
      out.1.live (λ homes lock low of. lock_same h.keys (without b.homes b.stacked s) left refl homes lock
      (out.1.locks homes lock low of))
      (record {
        code = h.code;
        values = v.values;
        stacked = b.stacked;
        frame = b.frame;
        bound = entered.mark;
      }) ws xs (omega arith) h.wait.by.1 in
      let three = waits_at z left c.layout first h.code v.values (after w).values (λ r from to. out.1.same r (omega arith)) b.stacked
      entered.mark b.frame ws xs two in
      waits_below z left c.layout first h.code (after w).values entered.mark (length left.objects) (omega arith) b.stacked
      b.frame ws xs three

  -- ---- the step

  pub leaves : Result c IsGood (Stands u next temps ws left) (flat.Stands u (c.layout.address u n) v xs)
  leaves =
      let m = map_of c in
      let p = c.layout.program in
      let e = reached_on m p u xs pc (pc + length (leave_code c.layout.expansion.inline m h.code vs))
      (c.layout.address u next) v out.0 26 out.1.reached nd.put.leads in
      let few = e.1.few in
      let so_far = h.work in
      record {
        steps = e.1.steps;
        matches = subst (MatchesBy c IsGood (Stands u next temps ws left)) (sym e.1.comes) (record {
          function = refl;
          place = refl;
          code = h.code;
          there = h.there;
          work = omega arith;
          charge = h.charge;
          fits = h.fits;
          keys = h.keys;
          stands = stands_in e.0;
          steady = steady;
          holds = holds e.0;
          wait = record { by = waits e.0 };
        });
      }

-- the block that was entered last is left
pub leave_step : (c : Compiled) (IsGood : Bytes → Type 0) (right : IsCompiled c IsGood) (u n : ℕ) (temps : Temps)
    (ws : List Frame) (s : State) (v : flat.State) (xs : List flat.Frame)
    (h : IsAt c IsGood u n temps ws s u (c.layout.address u n) v xs)
    → HasWords (flat.Stands u (c.layout.address u n) v xs) → (number next : ℕ)
    → slice_get h.code.code n ≡ Some (tac.LeaveBlock number next)
    → (effect c.setting (expansion_of c).code (tac.LeaveBlock number next) u temps ws (spent 2 s) ≡ Stuck → ⊥)
    → Result c IsGood (effect c.setting (expansion_of c).code (tac.LeaveBlock number next) u temps ws (spent 2 s))
    (flat.Stands u (c.layout.address u n) v xs)
leave_step c IsGood right u n temps [] s v xs h words number next at fine = absurd (fine refl)
leave_step c IsGood right u n temps (Waits w ∷ ws) s v xs h words number next at fine = absurd (fine refl)
leave_step c IsGood right u n temps (Entered k b ∷ ws) s v xs h words number next at fine =
    let t = only_true (k == number) (Stands u next temps ws (leave_block b (spent 2 s))) fine in
    let same = eqb-true k number t.0 in
    subst (λ z. Result c IsGood z (flat.Stands u (c.layout.address u n) v xs)) (sym t.1)
    (leaves c IsGood right u n temps k b ws s v xs h words next
    (at ∙ ap (λ z. Some (tac.LeaveBlock z next)) (sym same)))
