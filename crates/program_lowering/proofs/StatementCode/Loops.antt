-- Loops from their parts.
use Rattle.std.proofs.Common.{◌≡◌, ℕ, ◌+◌, ◌≤◌, List, ◌∷◌, ◌++◌, length, Option, None, refl, sym, ap, ◌∙◌, subst, arith}
use Rattle.std.specs.Prelude.{max}
use Rattle.c_tree.specs.declared.program.Variable.{Variable}
use Rattle.c_tree.specs.Blocks.{first_variables}
use Rattle.c_tree.specs.Room.{height}
use Rattle.c_tree.specs.Tree.{Expression}
use Rattle.c_tree.specs.Statements.{First, Statement, while_do, do_while, for}
use Rattle.tac_ir.specs.declared.instruction.Instruction.{Instruction}
use Rattle.tac_ir.specs.declared.instruction.Instruction.TheVariants as tac
use Rattle.tac_ir.specs.declared.function.Span.{Span}
use Rattle.tac_ir.specs.Bodies.{IsIn}
use Rattle.tac_ir.specs.Temporaries.{temporaries}
use Rattle.c_lower.specs.Counted.{CountedParts, counted_parts}
use Rattle.c_lower.specs.Statements.{in_loop, LowersStatement, HasNumber, has_objects_of, CountedIs}
use Rattle.program_lowering.specs.declared.expressions.emitter.Emitter.{Emitter}
use Rattle.program_lowering.specs.ExpressionCode.Weights.{Weights, weight_of, each_one}
use Rattle.program_lowering.specs.ExpressionCode.Emitted.{Has, Stays, Emits}
use Rattle.program_lowering.proofs.ExpressionCode.Leading.{closed_then, same_adds, adds_then, adds_before, adds_behind}
use Rattle.program_lowering.proofs.ExpressionCode.Lengths.{emitted_length}
use Rattle.program_lowering.specs.StatementCode.Bodies.{statement_bodies, nodes_from}
use Rattle.program_lowering.proofs.StatementParts.Closing.{filled_open, nodes_between, added_closed, added_open}
use Rattle.program_lowering.specs.ExpressionCode.Enclosed.{AreClosed, IsOpen, AllOpen, AddsBodies}
use Rattle.program_lowering.proofs.ExpressionCode.Growing.{fills_before, keeps_on, weighs_from, weighs_then}
use Rattle.program_lowering.specs.declared.parts.exits.Exits.{Exits}
use Rattle.program_lowering.specs.declared.parts.loops.ForHead.{ForHead}
use Rattle.program_lowering.specs.StatementParts.Leaving.{exits_of, exit_nodes}
use Rattle.program_lowering.specs.StatementParts.Code.{most}
use Rattle.program_lowering.specs.StatementParts.Weights.{block_weight, left_weight, condition_weight, part_weight}
use Rattle.program_lowering.specs.StatementParts.Loops.{Waits, Filled, AssignsNone, HeadCode, ForHeadCode, ForTailCode}
use Rattle.program_lowering.specs.StatementParts.Loops.{counted_body}
use Rattle.program_lowering.proofs.StatementParts.LoopParts.{filled_fills, filled_keeps, filled_fits, filled_weight}
use Rattle.program_lowering.proofs.StatementParts.LoopParts.{filled_texts, filled_holds}
use Rattle.program_lowering.proofs.StatementCode.Assigned.{statement_spares, counted_spares}
use Rattle.program_lowering.specs.StatementCode.Code.{StatementCode}
use Rattle.program_lowering.specs.StatementCode.Sizes.{statement_height}
use Rattle.program_lowering.specs.StatementCode.Weights.{statement_weight}
use Rattle.program_lowering.proofs.StatementCode.Heights.{needs_one}

-- a reserved node still waits behind a statement
pub waits_on : {vs : List Variable} {a b : Emitter} {s : Statement} {x : Exits} {t n : ℕ} → Waits a t
    → StatementCode vs a b s n x → Waits b t
waits_on w h = record { by = h.emits.kept.code _ _ w.by }

-- code that grew, of which a node is filled that was reserved since
filled_emits : {a b c d : Emitter} {m n turn : ℕ} {k j : Weights → ℕ} {i : Instruction} (most : ℕ)
    (weight : Weights → ℕ) → Emits a b m k
    → length a.code.items ≤ turn → Emits b c n j → Filled c d turn i → Has c turn tac.Reserved → temporaries i ≤ most
    → ((ts : List (List ℕ)) (w : Weights) → weight_of ts i w ≡ w.turn) → m ≤ most → n ≤ most
    → ((w : Weights) → k w + j w ≡ weight w)
    → Emits a d most weight
filled_emits most weight e fresh g f still li turning lm ln lk = record {
  kept = filled_keeps f (keeps_on e.kept g.kept) fresh;
  fits = λ limit le h.
      filled_fits limit f still (omega (arith, li, le))
      (g.fits limit (omega (arith, ln, le)) (e.fits limit (omega (arith, lm, le)) h));
  grown = λ w ts s.
      let sg = filled_texts ts f s in
      weighs_from (filled_weight f still ts w (turning ts w))
      (weighs_then _ _ _ (e.grown w ts (λ n x h. sg n x (g.kept.texts n x h))) (g.grown w ts sg) (lk w));
}

pub while_code : {vs : List Variable} {a b c d : Emitter} {e : Expression} {s : Statement} {turn start n : ℕ} {x y :
    Exits}
    → HeadCode a b e turn start x.next → exits_of y ≡ in_loop (exits_of x) start → StatementCode vs b c s n y
    → Filled c d turn (tac.Turn None n) → StatementCode vs a d (while_do e s) start x
while_code {vs = vs} {b = b} {c = c} {e = e} {s = s} {turn = turn} {start = start} {n = n} {x = x} h q g f =
    let still = g.emits.kept.code turn tac.Reserved h.waits.by in
    record {
      emits = filled_emits (max (height e) (statement_height s))
          (statement_weight vs (while_do e s)) h.emits h.fresh g.emits f
          still (omega arith) (λ ts w. refl) (omega (arith, needs_one s)) (omega arith) (λ w. omega arith);
      leads = record {
        bodies = adds_before h.leads.bodies (adds_behind (subst (λ p. AddsBodies b c (statement_bodies vs s p))
            (emitted_length h.emits) g.leads.bodies) (same_adds f.loops));
        by = λ ss c o.
            let u = h.leads.by ss c (o.0, tt) in
            let v = g.leads.by ss u.0.closed (subst (λ z. AllOpen ss b (exit_nodes z)) (sym q)
            (u.1.1.0, (u.0.opens x.next o.0, (u.1.1.0, (u.0.opens x.returns o.1.1.1.0, tt))))) in
            let w = filled_open f still v.0.closed (λ x. refl) (v.1.0, tt) in
            (closed_then u.0 (closed_then v.0 w), (w.opens start (v.0.opens start u.1.1.0), tt));
      };
      stands = λ p v k.
          let fg = filled_fills f still k in (
            turn,
            n,
            h.stands p (fills_before g.emits fg),
            filled_holds f still tt k,
            subst (LowersStatement p s n) q (g.stands p v fg),
          );
    }

pub do_code : {vs : List Variable} {a b c d : Emitter} {e : Expression} {s : Statement} {turn start n : ℕ} {x y : Exits}
    → HeadCode a b e turn start x.next → exits_of y ≡ in_loop (exits_of x) start → StatementCode vs b c s n y
    → Filled c d turn (tac.Turn None n) → StatementCode vs a d (do_while s e) turn x
do_code {vs = vs} {b = b} {c = c} {e = e} {s = s} {turn = turn} {start = start} {n = n} {x = x} h q g f =
    let still = g.emits.kept.code turn tac.Reserved h.waits.by in
    record {
      emits = filled_emits (max (height e) (statement_height s))
          (statement_weight vs (do_while s e)) h.emits h.fresh g.emits f
          still (omega arith) (λ ts w. refl) (omega (arith, needs_one s)) (omega arith) (λ w. omega arith);
      leads = record {
        bodies = adds_before h.leads.bodies (adds_behind (subst (λ p. AddsBodies b c (statement_bodies vs s p))
            (emitted_length h.emits) g.leads.bodies) (same_adds f.loops));
        by = λ ss c o.
            let u = h.leads.by ss c (o.0, tt) in
            let v = g.leads.by ss u.0.closed (subst (λ z. AllOpen ss b (exit_nodes z)) (sym q)
            (u.1.1.0, (u.0.opens x.next o.0, (u.1.1.0, (u.0.opens x.returns o.1.1.1.0, tt))))) in
            let w = filled_open f still v.0.closed (λ x. refl) (v.1.0, tt) in
            (closed_then u.0 (closed_then v.0 w), (w.opens turn (v.0.opens turn u.1.0), tt));
      };
      stands = λ p v k.
          let fg = filled_fills f still k in (
            n,
            start,
            filled_holds f still tt k,
            subst (LowersStatement p s n) q (g.stands p v fg),
            h.stands p (fills_before g.emits fg),
          );
    }

-- as the code has counted them

abbrev span_of : (start end : ℕ) → Span
span_of s e = record { start = s; end = e }

pub span_between : (b c : Emitter) {s e : ℕ} → s ≡ length b.code.items → e ≡ length c.code.items
    → span_of s e ≡ nodes_between b c
span_between b c {s = s} es ee =
    ap {B = Span} (λ n. record { start = s; end = n }) ee
    ∙ ap {B = Span} (λ n. record { start = n; end = length c.code.items }) es

-- the body of a counted loop assigns its variable nowhere
body_spares : {b c : Emitter} {nodes : Span} {most : ℕ} {parts : Option CountedParts} (vs : List Variable)
    (first : First) (test step : Option Expression) (s : Statement) → Emits b c most (statement_weight vs s)
    → parts ≡ counted_parts first test step s → nodes ≡ nodes_between b c → AssignsNone c nodes parts
body_spares vs first test step s e ranged span = record {
  by = λ p counted n i at here.
      statement_spares vs p.variable s e (counted_spares first test step s p (sym ranged ∙ counted)) n i
      (subst (λ x. IsIn x n) span here).0 at;
}

pub for_code : {vs : List Variable} {a b c d : Emitter} {numbers : List ℕ} {line : ℕ} {first : First} {nodes : Span}
    {test step : Option Expression} {s : Statement} {h : ForHead} {parts : Option CountedParts} {n body : ℕ} {x y :
    Exits}
    → numbers ≡ first_variables first → ForHeadCode vs a b numbers test step h x
    → exits_of y ≡ in_loop (exits_of h.inside.exits) h.step → StatementCode vs b c s body y
    → parts ≡ counted_parts first test step s → ForTailCode c d line first parts h body nodes n
    → nodes ≡ nodes_between b c
    → StatementCode vs a d (for line first test step s) n x
for_code {vs = vs} {a = a} {b = b} {c = c} {d = d} {line = line} {first = first} {nodes = nodes} {test = test} {step = step} {s = s} {h = h} {parts = parts} {n = n}
    {body = body} {x = x} same k q g ranged t span =
    let long : nodes ≡ nodes_from (length b.code.items) (statement_weight vs s each_one) =
    span ∙ ap {B = Span} (λ m. record { start = length b.code.items; end = m }) (emitted_length g.emits) in
    let tail = subst (λ r. AddsBodies c d (counted_body r (nodes_from (length b.code.items)
    (statement_weight vs s each_one)))) ranged (subst (λ z. AddsBodies c d (counted_body parts z)) long t.bodies) in
    let spares = body_spares vs first test step s g.emits ranged span in
    record {
      emits = record {
        kept = t.grows.keeps _ (keeps_on k.emits.kept g.emits.kept) k.fresh;
        fits = λ limit le f.
            t.grows.fits limit (omega (arith, le))
            (g.emits.fits limit (omega (arith, le)) (k.emits.fits limit (omega (arith, le)) f));
        grown = λ w ts later.
            let sg : Stays c.texts.items ts = λ n x j. later n x (t.grows.texts_stay n x j) in
            let sk : Stays b.texts.items ts = λ n x j. sg n x (g.emits.kept.texts n x j) in
            weighs_then _ _ _ (weighs_then _ _ _ (k.emits.grown w ts sk) (g.emits.grown w ts sg) refl)
            (t.grows.grown w ts later)
            (omega (arith, ap (λ ns. block_weight vs ns w) same, k.weighs w));
      };
      leads = record {
        bodies = adds_before k.leads.bodies (subst (λ p. AddsBodies b d (statement_bodies vs s p
            ++ counted_body (counted_parts first test step s) (nodes_from p (statement_weight vs s each_one))))
            (emitted_length k.emits ∙ ap (λ ns. length a.code.items + (left_weight vs ns each_one
            + (1 + (condition_weight test each_one + part_weight step each_one)))) same)
            (adds_then g.leads.bodies tail));
        by = λ ss s o.
            let u = k.leads.by ss s o in
            let v = g.leads.by ss u.0.closed (subst (λ z. AllOpen ss b (exit_nodes z)) (sym q)
            (u.1.1.1.0, (u.1.1.1.1.0, (u.1.1.1.0, (u.1.1.1.1.1.1.1.0, tt))))) in
            let within = subst (λ z. AreClosed (z ∷ ss) c) (sym span)
            (added_closed g.emits.kept u.0.closed v.0.closed) in
            let outside : (m : ℕ) → IsOpen ss b m → IsOpen (nodes ∷ ss) c m =
            λ m w. subst (λ z. IsOpen (z ∷ ss) c m) (sym span) (added_open v.0 w) in
            let w = t.closes ss v.0.closed within spares v.1.0 (outside h.condition u.1.1.0) in
            (record { closed = w.closed; opens = λ m z. w.opens m (outside m (u.0.opens m z)) }, (w.start, tt));
      };
      stands = λ p v f.
          let fg = t.grows.fills p f in
          let fk = fills_before g.emits fg in (
            t.setting,
            h.condition,
            h.turn,
            body,
            h.step,
            exits_of h.inside.exits,
            t.counted,
            (
              h.inside.block,
              subst (λ ns. HasNumber p (has_objects_of p ns) ns h.inside.block) same (k.numbered p v fk),
              t.enters p f,
              k.leaves p fk,
            ),
            t.sets p f,
            k.tests p fk,
            t.turns p f,
            subst (λ r. CountedIs p.loops t.counted r t.setting h.condition h.turn h.step) ranged (t.counts p f),
            k.goes_on p fk,
            subst (LowersStatement p s body) q (g.stands p v fg),
          );
    }
