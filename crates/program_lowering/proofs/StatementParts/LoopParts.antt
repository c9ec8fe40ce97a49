-- Loops from their parts.
use Rattle.std.proofs.Common.{◌≡◌, ◌≢◌, ℕ, zero, suc, ◌+◌, ◌≤◌, ◌<◌, Bool, true, false, List, [], ◌∷◌, ◌++◌}
use Rattle.std.proofs.Common.{length, Option, Some, None, refl, sym, ap, ◌∙◌, subst, arith}
use Rattle.std.proofs.lemmas.Bool.{eqb-true, eqb-false}
use Rattle.std.proofs.lemmas.Option.{same_Some, slice_get_within}
use Rattle.std.specs.Prelude.{slice_get, slice_set, max, ◌==◌}
use mathlib.Core.Logic.{inl, inr}
use Rattle.c_tree.specs.declared.program.Variable.{Variable}
use Rattle.c_tree.specs.Tree.{Expression}
use Rattle.c_tree.specs.Statements.{First}
use Rattle.c_tree.specs.Room.{height}
use Rattle.c_tree.specs.Blocks.{if_any, first_contents}
use Rattle.tac_ir.specs.declared.instruction.Instruction.{Instruction}
use Rattle.tac_ir.specs.declared.instruction.Instruction.TheVariants as tac
use Rattle.tac_ir.specs.declared.function.Span.{Span}
use Rattle.tac_ir.specs.Bodies.{no_nodes, bodies_in}
use Rattle.tac_ir.specs.Edges.{LeadsTo}
use Rattle.tac_ir.specs.Temporaries.{temporaries}
use Rattle.c_lower.specs.Counted.{CountedParts}
use Rattle.c_lower.specs.Placed.{Placed, Holds, HasAt}
use Rattle.program_lowering.specs.declared.expressions.emitter.Emitter.{Emitter}
use Rattle.program_lowering.specs.ExpressionCode.Weights.{Weights, weight_of, code_weight, expression_weight}
use Rattle.program_lowering.specs.ExpressionCode.Emitted.{Has, Added, Stays, Keeps, IsReal, Fills, Fits, ExpressionCode}
use Rattle.program_lowering.proofs.ExpressionCode.Leading.{added_stays, closed_then, all_open, same_adds, added_adds}
use Rattle.program_lowering.proofs.ExpressionCode.Leading.{adds_none, adds_before, adds_behind}
use Rattle.program_lowering.proofs.StatementParts.Closing.{filled_other, filled_here, filled_stays, fewer_open, there}
use Rattle.program_lowering.proofs.StatementParts.Closing.{MayLead, bodies_more, still_spares, no_loop_closes, loop_closes}
use Rattle.program_lowering.proofs.ExpressionCode.Growing.{weighs_from, weighs_then}
use Rattle.program_lowering.proofs.ExpressionCode.Growing.{emits_none, emits_then, added_emits, added_has, added_holds}
use Rattle.program_lowering.proofs.ExpressionCode.Growing.{fills_before, keeps_on, same_emits, stays_by, one_more}
use Rattle.program_lowering.proofs.ExpressionCode.Growing.{has_last}
use Rattle.program_lowering.specs.declared.parts.exits.Exits.{Exits}
use Rattle.program_lowering.specs.declared.parts.exits.BlockExits.{BlockExits}
use Rattle.program_lowering.specs.declared.parts.counted.Range.{Range}
use Rattle.program_lowering.specs.declared.parts.loops.ForHead.{ForHead}
use Rattle.program_lowering.specs.StatementParts.Weights.{first_weight, condition_weight, part_weight, left_weight}
use Rattle.program_lowering.specs.StatementParts.Code.{most, ConditionCode, PartCode, FirstCode, EntryCode, LeavingCode}
use Rattle.program_lowering.specs.StatementParts.Counting.{parts_with}
use Rattle.program_lowering.specs.StatementParts.Loops.{Waits, Filled, HeadCode, ForHeadCode, LoopAdded, ForTailCode}
use Rattle.program_lowering.specs.ExpressionCode.Enclosed.{IsOpen}
use Rattle.program_lowering.specs.StatementParts.Loops.{ClosesBody}
use Rattle.program_lowering.specs.StatementParts.Leaving.{exits_of, exit_nodes}
use Rattle.program_lowering.proofs.StatementParts.InitializerParts.{evaluated_emits, room_for}

-- a node that is filled

pub filled_fills : {a b : Emitter} {n : ℕ} {i : Instruction} {c : Placed} → Filled a b n i → Has a n tac.Reserved
    → Fills b c
    → Fills a c
filled_fills {a = a} {b = b} {n = n} f h g = record {
  code = λ m j r k.
      let ne : m ≢ n = λ e. subst IsReal (same_Some _ _ (sym k ∙ ap (slice_get a.code.items) e ∙ h)) r in
      g.code m j r (filled_other f m ne ∙ k);
  keys = λ m x k. g.keys m x (subst (λ l. HasAt l m x) (sym f.keys) k);
  blocks = λ m x k. g.blocks m x (subst (λ l. HasAt l m x) (sym f.blocks) k);
  loops = λ m x k. g.loops m x (subst (λ l. HasAt l m x) (sym f.loops) k);
  texts = λ m x k. g.texts m x (subst (λ l. HasAt l m x) (sym f.texts) k);
  literals = g.literals ∙ f.literals;
}

pub filled_keeps : {a b e : Emitter} {n : ℕ} {i : Instruction} → Filled a b n i → Keeps e a → length e.code.items ≤ n
    → Keeps e b
filled_keeps {a = a} {b = b} {e = e} {n = n} f k le = record {
  code = λ m j h.
      let lt = slice_get_within e.code.items m j h in
      filled_other f m (omega (arith, lt, le)) ∙ k.code m j h;
  keys = λ m x h. subst (λ l. HasAt l m x) (sym f.keys) (k.keys m x h);
  blocks = λ m x h. subst (λ l. HasAt l m x) (sym f.blocks) (k.blocks m x h);
  loops = λ m x h. subst (λ l. HasAt l m x) (sym f.loops) (k.loops m x h);
  texts = λ m x h. subst (λ l. HasAt l m x) (sym f.texts) (k.texts m x h);
  literals = f.literals ∙ k.literals;
}

fits_by : {a b : Emitter} {n : ℕ} {i : Instruction} (limit : ℕ) → Filled a b n i → Has a n tac.Reserved
    → temporaries i ≤ limit → Fits limit a → (m : ℕ) (j : Instruction) → Has b m j → (t : Bool) → (m == n) ≡ t
    → temporaries j ≤ limit
fits_by {b = b} {n = n} {i = i} limit f h le g m j k true e =
    let here : Some j ≡ Some i = sym k ∙ ap (slice_get b.code.items) (eqb-true m n e) ∙ filled_here f h in
    subst (λ x. temporaries x ≤ limit) (sym (same_Some _ _ here)) le
fits_by {n = n} limit f h le g m j k false e = g.by m j (sym (filled_other f m (eqb-false m n e)) ∙ k)

pub filled_fits : {a b : Emitter} {n : ℕ} {i : Instruction} (limit : ℕ) → Filled a b n i → Has a n tac.Reserved
    → temporaries i ≤ limit → Fits limit a → Fits limit b
filled_fits {n = n} limit f h le g = record { by = λ m j k. fits_by limit f h le g m j k (m == n) refl }

-- a turn weighs what was reserved for it

set_weight : (ts : List (List ℕ)) (is : List Instruction) (n : ℕ) (i : Instruction) (w : Weights)
    → HasAt is n tac.Reserved → weight_of ts i w ≡ w.turn → code_weight ts (slice_set is n i) w ≡ code_weight ts is w
set_weight ts [] n i w h e = refl
set_weight ts (j ∷ is) zero i w h e =
    let here : weight_of ts j w ≡ w.turn = ap (λ k. weight_of ts k w) (same_Some _ _ h) in omega (arith, here, e)
set_weight ts (j ∷ is) (suc n) i w h e = omega (arith, set_weight ts is n i w h e)

pub filled_weight : {a b : Emitter} {n : ℕ} {i : Instruction} → Filled a b n i → Has a n tac.Reserved
    → (ts : List (List ℕ)) (w : Weights) → weight_of ts i w ≡ w.turn
    → code_weight ts b.code.items w ≡ code_weight ts a.code.items w
filled_weight {a = a} {n = n} {i = i} f h ts w e =
    ap (λ is. code_weight ts is w) f.code ∙ set_weight ts a.code.items n i w h e

-- and the texts stay
pub filled_texts : {a b : Emitter} {n : ℕ} {i : Instruction} (ts : List (List ℕ)) → Filled a b n i
    → Stays b.texts.items ts → Stays a.texts.items ts
filled_texts ts f s = subst (λ us. Stays us ts) f.texts s

pub filled_holds : {a b : Emitter} {n : ℕ} {i : Instruction} {c : Placed} → Filled a b n i → Has a n tac.Reserved
    → IsReal i
    → Fills b c → Holds c n i
filled_holds {n = n} {i = i} f h r g = g.code n i r (filled_here f h)

-- what is kept makes no list shorter

long_by : (n : ℕ) (xs ys : List Instruction) → Stays xs ys → n ≤ length xs → n ≤ length ys
long_by zero xs ys s le = omega arith
long_by (suc n) xs ys s le =
    let h = there xs n (omega (arith, le)) in
    omega (arith, slice_get_within ys n h.0 (s n h.0 h.1))

pub longer : {a b : Emitter} → Keeps a b → length a.code.items ≤ length b.code.items
longer {a = a} {b = b} k = long_by (length a.code.items) a.code.items b.code.items k.code (omega arith)

-- conditions

pub head_code : {a b c e : Emitter} {x : Expression} {turn k start fails : ℕ} → Added a b turn tac.Reserved
    → Added b c k (tac.Branch 0 turn fails) → ExpressionCode c e x 0 start k → HeadCode a e x turn start fails
head_code {a = a} {e = e} {x = x} {turn = turn} {k = k} {fails = fails} h t v =
    let top = max 1 (height x) in
    let first = added_emits top h (omega arith) (λ ts w. refl) in
    let second = added_emits top t (omega arith) (λ ts w. refl) in
    let value = evaluated_emits x top v (omega arith) in
    let both = emits_then top (λ w. w.branch + w.turn) first second (omega arith) (omega arith) (λ w. omega arith) in
    record {
      emits = emits_then top (λ w. expression_weight x w + (w.branch + w.turn)) both value (omega arith) (omega arith)
          (λ w. omega arith);
      leads = record {
        bodies = adds_before (added_adds h) (adds_before (added_adds t) v.leads.bodies);
        by = λ ss s o.
            let p = added_stays h s tt in
            let q = added_stays t p.0.closed (p.1, (p.0.opens fails o.0, tt)) in
            let r = v.leads.by ss q.0.closed (q.1, tt) in
            (closed_then p.0 (closed_then q.0 r.0), (r.0.opens turn (q.0.opens turn p.1), r.1));
      };
      fresh = omega (arith, h.place);
      waits = record { by = v.emits.kept.code turn tac.Reserved (second.kept.code turn tac.Reserved (added_has h)) };
      stands = λ p f. (k, v.stands p f, added_holds t tt (fills_before v.emits f));
    }

pub for_head_code : {vs : List Variable} {a b c d e : Emitter} {numbers : List ℕ} {test step : Option Expression}
    {y : BlockExits} {x : Exits} {turn h s : ℕ} → LeavingCode vs a b numbers x y → Added b c turn tac.Reserved
    → ConditionCode c d test h turn y.exits.next → PartCode d e step s h
    → ForHeadCode vs a e numbers test step (record { inside = y; turn = turn; condition = h; step = s }) x
for_head_code {vs = vs} {a = a} {b = b} {numbers = numbers} {test = test} {step = step} {y = y} {turn =
    turn} {h = h} l r t p =
    let top = max (most (if_any test)) (most (if_any step)) in
    let reserved = added_emits top r (omega arith) (λ ts w. refl) in
    let one = emits_then top (λ w. left_weight vs numbers w + w.turn) l.emits reserved (omega arith)
    (omega arith)
    (λ w. omega arith) in
    let two = emits_then top (λ w. left_weight vs numbers w + (w.turn + condition_weight test w)) one t.emits
    (omega arith) (omega arith) (λ w. omega arith) in
    record {
      emits = emits_then top
          (λ w. left_weight vs numbers w + (w.turn + (condition_weight test w + part_weight step w)))
          two p.emits (omega arith) (omega arith) (λ w. omega arith);
      leads = record {
        bodies = adds_before l.leads.bodies
            (adds_before (added_adds r) (adds_before t.leads.bodies p.leads.bodies));
        by = λ ss k o.
            let u = l.leads.by ss k o in
            let v = added_stays r u.0.closed tt in
            let w = t.leads.by ss v.0.closed (v.1, (v.0.opens y.exits.next u.1.0, tt)) in
            let z = p.leads.by ss w.0.closed w.1 in
            let last = closed_then w.0 z.0 in
            let all = closed_then v.0 last in (
              closed_then u.0 all,
              (
                last.opens turn v.1,
                (z.0.opens h w.1.0, (z.1.0, all_open (exit_nodes (exits_of y.exits)) all u.1)),
              ),
            );
      };
      fresh = omega (arith, r.place, longer l.emits.kept);
      waits = record { by = p.emits.kept.code turn tac.Reserved (t.emits.kept.code turn tac.Reserved (added_has r)) };
      numbered = λ q v f. l.numbered q v (fills_before reserved (fills_before t.emits (fills_before p.emits f)));
      weighs = l.weighs;
      leaves = λ q f. l.stands q (fills_before reserved (fills_before t.emits (fills_before p.emits f)));
      tests = λ q f. t.stands q (fills_before p.emits f);
      goes_on = λ q f. p.stands q f;
    }

-- counted loops

pub no_loop : {a : Emitter} {n : ℕ} {h : ForHead} {body : Span} → LoopAdded a a None n h body None
no_loop = record { emits = emits_none 0 (λ w. refl); code = refl; closes = no_loop_closes; bodies = adds_none; is = λ p f. tt }

pub some_loop : (a b : Emitter) (r : Range) (n setting : ℕ) (h : ForHead) (body : Span) → b.code.items ≡ a.code.items
    → b.keys.items ≡ a.keys.items → b.blocks.items ≡ a.blocks.items
    → b.loops.items ≡ a.loops.items ++ record {
      variable = r.variable;
      start = r.start;
      bound = r.bound;
      setting = setting;
      condition = h.condition;
      turn = h.turn;
      step = h.step;
      body = body;
      added = no_nodes;
    } ∷ [] → b.texts.items ≡ a.texts.items → b.literals.items ≡ a.literals.items → n ≡ length a.loops.items
    → LoopAdded a b (parts_with (Some r)) setting h body (Some n)
some_loop a b r n setting h body code keys blocks loops texts literals at = record {
  emits = same_emits a b code (stays_by a.keys.items b.keys.items keys) (stays_by a.blocks.items b.blocks.items blocks)
      (one_more a.loops.items b.loops.items _ loops)
      (stays_by a.texts.items b.texts.items texts) literals;
  code = code;
  closes = loop_closes _ _ refl code loops at refl;
  bodies = record { by = ap bodies_in loops ∙ bodies_more a.loops.items _ };
  is = λ c f. (body, no_nodes, f.loops n _ (has_last a.loops.items b.loops.items _ n loops at));
}

-- where the turn leads
turn_leads : (b c : Emitter) (nodes : Span) (parts : Option CountedParts) (counted : Option ℕ) (ss : List Span) (body : ℕ)
    → ClosesBody b c nodes parts counted → c.code.items ≡ b.code.items → IsOpen ss b body → (m : ℕ)
    → LeadsTo (tac.Turn counted body) m → MayLead ss c (tac.Turn counted body) m
turn_leads b c nodes parts counted ss body closes code o m (inl e) = subst (MayLead ss c (tac.Turn counted body)) (sym e)
    (subst (λ is. body < length is) (sym code) o.within, λ k s g here. closes.turns ss body o k s g here)
turn_leads b c nodes parts counted ss body closes code o m (inr e) = absurd e

pub for_tail_code : {a b c d e : Emitter} {line setting body n : ℕ} {nodes : Span} {first : First} {parts : Option CountedParts}
    {h : ForHead} {counted : Option ℕ} → Waits a h.turn
    → FirstCode a b first setting h.condition → LoopAdded b c parts setting h nodes counted
    → Filled c d h.turn (tac.Turn counted body) → EntryCode d e h.inside.block line n setting
    → ForTailCode a e line first parts h body nodes n
for_tail_code {a = a} {b = b} {c = c} {d = d} {setting = setting} {body = body} {nodes = nodes} {first = first} {parts = parts} {h =
    h} {counted = counted} waits s l f y =
    let top = most (first_contents first) in
    let grown = emits_then top (first_weight first) s.emits l.emits (omega arith) (omega arith) (λ w. omega arith) in
    let still = grown.kept.code h.turn tac.Reserved waits.by in
    record {
      grows = record {
        fills = λ p g. fills_before grown (filled_fills f still (fills_before y.emits g));
        keeps = λ o k le. keeps_on (filled_keeps f (keeps_on k grown.kept) le) y.emits.kept;
        fits = λ limit le g. y.emits.fits limit (omega arith)
            (filled_fits limit f still (omega arith) (grown.fits limit le g));
        texts_stay = λ n x g.
            y.emits.kept.texts n x (subst (λ us. HasAt us n x) (sym f.texts) (grown.kept.texts n x g));
        grown = λ w ts t.
            let sy : Stays d.texts.items ts = λ n x g. t n x (y.emits.kept.texts n x g) in
            weighs_then _ _ _ (weighs_from (filled_weight f still ts w refl) (grown.grown w ts (filled_texts ts f sy)))
            (y.emits.grown w ts t) (omega arith);
      };
      bodies = adds_before s.leads.bodies (adds_behind l.bodies (adds_before (same_adds f.loops) y.leads.bodies));
      closes = λ ss closed within spares inner outer.
          let u = s.leads.by (nodes ∷ ss) within (outer, tt) in
          let v = s.leads.by ss closed (fewer_open outer, tt) in
          let w = filled_stays f still (l.closes.closed ss u.0.closed (still_spares s.emits.kept within spares))
          (λ x. refl) (turn_leads b c nodes parts counted ss body l.closes l.code (v.0.opens body inner)) in
          let z = y.leads.by ss w.closed (w.opens setting (l.closes.opens ss setting u.1.0), tt) in
          record {
            closed = z.0.closed;
            opens = λ k o. z.0.opens k (w.opens k (l.closes.opens ss k (u.0.opens k o)));
            start = z.1.0;
          };
      setting = setting;
      counted = counted;
      enters = λ p g. y.stands p g;
      sets = λ p g. s.stands p (fills_before l.emits (filled_fills f still (fills_before y.emits g)));
      turns = λ p g. filled_holds f still tt (fills_before y.emits g);
      counts = λ p g. l.is p (filled_fills f still (fills_before y.emits g));
    }

-- a reserved node still waits

pub waits_first : {a b : Emitter} {first : First} {n s h : ℕ} → Waits a n → FirstCode a b first s h → Waits b n
waits_first w e = record { by = e.emits.kept.code _ _ w.by }

pub waits_loop : {a b : Emitter} {parts : Option CountedParts} {n s : ℕ} {h : ForHead} {body : Span} {c : Option ℕ} → Waits a n
    → LoopAdded a b parts s h body c → Waits b n
waits_loop w e = record { by = e.emits.kept.code _ _ w.by }

pub waits_has : {a : Emitter} (n : ℕ) → Waits a n → slice_get a.code.items n ≡ Some tac.Reserved
waits_has n w = w.by

pub ruleset filling = (waits_has)

pub ruleset heads = (room_for)

pub ruleset loops_added = (no_loop, some_loop)

pub ruleset for_tails = (waits_first, waits_loop)
