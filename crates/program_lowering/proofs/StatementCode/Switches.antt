-- Switches from their parts.
use Rattle.std.proofs.Common.{◌≡◌, ℕ, ◌+◌, ◌-◌, ◌≤◌, Bool, true, false, List, [], ◌∷◌, length, map, drop, refl}
use Rattle.std.proofs.Common.{sym, ap, ◌∙◌, subst, arith}
use Rattle.std.specs.Prelude.{get_or, set, max, not, ◌&&◌, ◌||◌, if◌then◌else◌}
use Rattle.c_tree.specs.declared.program.Variable.{Variable}
use Rattle.c_tree.specs.declared.statement.SwitchItem.{SwitchItem as CodeItem}
use Rattle.c_tree.specs.Blocks.{switch_variables}
use Rattle.c_tree.specs.Room.{height}
use Rattle.c_tree.specs.Tree.{Expression}
use Rattle.c_tree.specs.Statements.{SwitchItems, no_items, items, items_in, switch}
use Rattle.c_tree.specs.View.{statement_of}
use Rattle.tac_ir.specs.declared.function.Span.{Span}
use Rattle.c_lower.specs.Placed.{Placed}
use Rattle.c_lower.specs.Statements.{Exits as Left, LowersStatement, LowersItems, HasNumber}
use Rattle.c_lower.specs.Statements.{has_objects_of, LowersLabels, in_switch, any_default, has_default}
use Rattle.program_lowering.specs.declared.expressions.emitter.Emitter.{Emitter}
use Rattle.program_lowering.specs.ExpressionCode.Weights.{Weights, each_one}
use Rattle.program_lowering.specs.ExpressionCode.Emitted.{ExpressionCode}
use Rattle.program_lowering.proofs.ExpressionCode.Leading.{leads_first, closed_then, all_open, adds_then, adds_before}
use Rattle.program_lowering.proofs.ExpressionCode.Leading.{adds_behind}
use Rattle.program_lowering.proofs.ExpressionCode.Lengths.{emitted_length}
use Rattle.program_lowering.specs.ExpressionCode.Enclosed.{AddsBodies, IsOpen, AllOpen}
use Rattle.program_lowering.proofs.ExpressionCode.Growing.{emits_none, emits_then, fills_before}
use Rattle.program_lowering.specs.declared.parts.exits.Exits.{Exits}
use Rattle.program_lowering.specs.declared.parts.exits.BlockExits.{BlockExits}
use Rattle.program_lowering.specs.StatementParts.Items.{item_of}
use Rattle.program_lowering.specs.StatementParts.Leaving.{exits_of, exit_nodes, before}
use Rattle.program_lowering.specs.StatementParts.Weights.{left_weight, block_weight}
use Rattle.program_lowering.specs.StatementParts.Code.{EntryCode, LeavingCode}
use Rattle.program_lowering.proofs.StatementParts.InitializerParts.{drop_before, evaluated_emits}
use Rattle.program_lowering.specs.StatementCode.Weights.{statement_weight, items_weight}
use Rattle.program_lowering.specs.StatementCode.Code.{StatementCode, ItemsFrom, ItemsCode, TestsCode}
use Rattle.program_lowering.specs.StatementCode.Weights.{bodies_weight}
use Rattle.program_lowering.specs.StatementCode.Bodies.{statement_bodies, items_bodies}
use Rattle.program_lowering.specs.StatementCode.Code.{tests_weight, begins}
use Rattle.program_lowering.specs.StatementCode.Sizes.{statement_height, items_height}
use Rattle.program_lowering.specs.StatementCode.Switches.{has_one_default, default_start, LowersBodies, LowersTests}
use Rattle.program_lowering.specs.StatementCode.Switches.{DefaultsBegin}
use Rattle.program_lowering.proofs.StatementCode.Elements.{of_item, drop_set}
use Rattle.program_lowering.proofs.StatementCode.Heights.{items_need_one}

-- items

pub no_items_code : {vs : List Variable} {a : Emitter} {x : Exits} (starts : List ℕ)
    → ItemsFrom vs a a no_items starts x.next x
no_items_code starts = record { emits = emits_none 1 (λ w. refl); leads = leads_first; stands = λ c v f. refl }

more_items : {vs : List Variable} {a b c : Emitter} {n k : ℕ} {x y : Exits} (i : CodeItem) (is : SwitchItems)
    (starts : List ℕ) → exits_of y ≡ before (exits_of x) k → ItemsFrom vs a b is starts k x
    → StatementCode vs b c (statement_of i.statement) n y
    → ItemsFrom vs a c (items (item_of i).0 (item_of i).1 is) (n ∷ starts) n x
more_items {vs = vs} {a = a} {b = b} {c = c} {n = n} {k = k} {x = x} i is starts e hs h =
    let s = statement_of i.statement in
    let code : ItemsFrom vs a c (items (item_of i).0 s is) (n ∷ starts) n x = record {
      emits = emits_then (max (statement_height s) (items_height is))
          (λ w. statement_weight vs s w + bodies_weight vs is w) hs.emits h.emits
          (omega arith) (omega arith) (λ w. omega arith);
      leads = record {
        bodies = adds_then hs.leads.bodies
            (subst (λ p. AddsBodies b c (statement_bodies vs s p)) (emitted_length hs.emits) h.leads.bodies);
        by = λ ss w o.
            let u = hs.leads.by ss w o in
            let rest = all_open (exit_nodes (exits_of x)) u.0 o in
            let v = h.leads.by ss u.0.closed (subst (λ z. AllOpen ss b (exit_nodes z)) (sym e) (u.1.0, rest.1)) in
            (closed_then u.0 v.0, (v.1.0, (v.1.0, all_open (begins is starts) v.0 u.1.1)));
      };
      stands = λ p v f.
          (refl, k, subst (LowersStatement p s n) e (h.stands p v f), hs.stands p v (fills_before h.emits f));
    } in
    subst (λ t. ItemsFrom vs a c (items (item_of i).0 t is) (n ∷ starts) n x) (sym (ap (λ j. j.1) (of_item i))) code

pub next_item : {vs : List Variable} {a b c : Emitter} {n k : ℕ} {x y : Exits} (xs : List CodeItem)
    (starts : List ℕ) (i : ℕ)
    (s : CodeItem) → 1 ≤ i → i ≤ length xs → s ≡ get_or xs (i - 1) s → length starts ≡ length xs
    → exits_of y ≡ before (exits_of x) k
    → ItemsFrom vs a b (items_in (map item_of (drop i xs))) (drop i starts) k x
    → StatementCode vs b c (statement_of s.statement) n y
    → ItemsFrom vs a c (items_in (map item_of (drop (i - 1) xs))) (drop (i - 1) (set starts (i - 1) n)) n x
next_item {vs = vs} {a = a} {c = c} {n = n} {x = x} xs starts i s ge le is same e hs h =
    let le' : i ≤ length starts = omega (arith, same, le) in
    subst (λ l. ItemsFrom vs a c l (drop (i - 1) (set starts (i - 1) n)) n x)
    (ap items_in (drop_before item_of xs i s ge le is))
    (subst (λ r. ItemsFrom vs a c (items_in (item_of s ∷ map item_of (drop i xs))) r n x) (drop_set starts i n ge le')
    (more_items s _ _ e hs h))

pub items_whole : {vs : List Variable} {a b : Emitter} {is : SwitchItems} {starts : List ℕ} {n : ℕ} {x : Exits}
    → ItemsFrom vs a b is starts n x → ItemsCode vs a b is starts x
items_whole {n = n} h = record { first = n; from = h }

-- where a switch goes on without a label

no_default : (is : SwitchItems) (starts : List ℕ) (end : ℕ) → has_default is ≡ false → default_start is starts end ≡ end
no_default no_items starts end e = refl
no_default (items labels s is) [] end e = refl
no_default (items labels s is) (b ∷ bs) end e = by (any_default labels) e (no_default is bs end)
  where
    by : (d : Bool) → d || has_default is ≡ false → (has_default is ≡ false → default_start is bs end ≡ end)
        → (if d then b else default_start is bs end) ≡ end
    by true e rest = cc
    by false e rest = rest e

-- where there is none, each begins wherever
none_begin : (is : SwitchItems) (starts : List ℕ) (other : ℕ) → has_default is ≡ false → DefaultsBegin is starts other
none_begin no_items starts other e = tt
none_begin (items labels s is) [] other e = tt
none_begin (items labels s is) (b ∷ bs) other e = by (any_default labels) e (none_begin is bs other)
  where
    by : (d : Bool) → d || has_default is ≡ false → (has_default is ≡ false → DefaultsBegin is bs other)
        → (d ≡ true → b ≡ other) × DefaultsBegin is bs other
    by true e rest = cc
    by false e rest = (λ q. cc, rest e)

defaults_begin : (is : SwitchItems) (starts : List ℕ) (end : ℕ) → has_one_default is ≡ true
    → DefaultsBegin is starts (default_start is starts end)
defaults_begin no_items starts end e = tt
defaults_begin (items labels s is) [] end e = tt
defaults_begin (items labels s is) (b ∷ bs) end e = by (any_default labels) (has_default is) refl e
    (defaults_begin is bs end)
  where
    by : (d h : Bool) → has_default is ≡ h → (not d || not h) && has_one_default is ≡ true
        → (has_one_default is ≡ true → DefaultsBegin is bs (default_start is bs end))
        → (d ≡ true → b ≡ (if d then b else default_start is bs end))
        × DefaultsBegin is bs (if d then b else default_start is bs end)
    by true true q e rest = cc
    by true false q e rest = (λ r. refl, none_begin is bs b q)
    by false h q e rest = (λ r. cc, rest e)

-- where it goes on is open
default_open : {ss : List Span} {c : Emitter} (is : SwitchItems) (starts : List ℕ) (end : ℕ)
    → AllOpen ss c (begins is starts) → IsOpen ss c end → IsOpen ss c (default_start is starts end)
default_open no_items starts end h o = o
default_open (items labels s is) [] end h o = o
default_open {ss = ss} {c = c} (items labels s is) (b ∷ bs) end h o =
    by (any_default labels) (default_open is bs end h.1 o)
  where
    by : (d : Bool) → IsOpen ss c (default_start is bs end)
        → IsOpen ss c (if d then b else default_start is bs end)
    by true rest = h.0
    by false rest = rest

-- items with the tests of their labels

both_stand : (c : Placed) (is : SwitchItems) (starts : List ℕ) (t0 n0 other : ℕ) (x : Left)
    → LowersBodies c is starts n0 x → LowersTests c is starts other t0 → LowersItems c is t0 n0 other x
both_stand c no_items starts t0 n0 other x h t = (t, h)
both_stand c (items labels s is) [] t0 n0 other x h t = absurd h
both_stand c (items labels s is) (b ∷ bs) t0 n0 other x h t = (
  t.0,
  h.1,
  subst (λ n. LowersLabels c labels n other t0 t.0) h.0 t.1,
  h.2,
  both_stand c is bs t.0 h.1 other x h.3 t.2,
)

weight_of_both : (vs : List Variable) (is : SwitchItems) (w : Weights)
    → bodies_weight vs is w + tests_weight is w ≡ items_weight vs is w
weight_of_both vs no_items w = refl
weight_of_both vs (items labels s is) w = omega (arith, weight_of_both vs is w)

pub switch_code : {vs : List Variable} {a b c d e' g : Emitter} {numbers starts made : List ℕ} {line t k n other : ℕ}
    {y : BlockExits} {z x : Exits} {is : SwitchItems} {e : Expression} → numbers ≡ switch_variables is
    → has_one_default is ≡ true → LeavingCode vs a b numbers x y → exits_of z ≡ in_switch (exits_of y.exits)
    → ItemsCode vs b c is made z
    → starts ≡ made → other ≡ default_start is starts y.exits.next → TestsCode c d is starts t other
    → EntryCode d e' y.block line k t
    → ExpressionCode e' g e 0 n k → StatementCode vs a g (switch e line is) n x
switch_code {vs = vs} {a = a} {b = b} {c = c} {numbers = numbers} {starts = starts} {line = line} {t = t} {k = k} {other =
    other} {y = y} {z = z} {x = x} {is = is}
    {e = e} same once l q made_items taken goes r entry value =
    let h = subst (λ ns. ItemsCode vs b c is ns z) (sym taken) made_items in
    let top = max (height e) (items_height is) in
    let inner = emits_then top (λ w. left_weight vs numbers w + bodies_weight vs is w) l.emits h.from.emits
    (omega arith) (omega arith) (λ w. omega arith) in
    let tested = emits_then top
    (λ w. left_weight vs numbers w + (bodies_weight vs is w + tests_weight is w)) inner r.emits (omega arith)
    (omega (arith, items_need_one is)) (λ w. omega arith) in
    let entered = emits_then top
    (λ w. block_weight vs numbers w + (bodies_weight vs is w + tests_weight is w)) tested entry.emits
    (omega arith) (omega arith) (λ w. omega (arith, l.weighs w)) in
    let evaluated = evaluated_emits e top value (omega arith) in
    record {
      emits = emits_then top (statement_weight vs (switch e line is)) entered evaluated (omega arith) (omega arith)
          (λ w. omega (arith, weight_of_both vs is w, ap (λ ns. block_weight vs ns w) same));
      leads = record {
        bodies = adds_before l.leads.bodies (adds_behind (subst (λ p. AddsBodies b c (items_bodies vs is p))
            (emitted_length l.emits ∙ ap (λ ns. length a.code.items + left_weight vs ns each_one) same)
            h.from.leads.bodies) (adds_before r.leads.bodies (adds_before entry.leads.bodies value.leads.bodies)));
        by = λ ss s o.
            let u = l.leads.by ss s o in
            let v = h.from.leads.by ss u.0.closed (subst (λ x. AllOpen ss b (exit_nodes x)) (sym q)
            (u.1.0, (u.1.0, (u.1.1.1.0, (u.1.1.1.1.0, tt))))) in
            let first = subst (IsOpen ss c) (sym goes)
            (default_open is starts y.exits.next v.1.1 (v.0.opens y.exits.next u.1.0)) in
            let w = r.leads.by ss v.0.closed (first, v.1.1) in
            let i = entry.leads.by ss w.0.closed w.1 in
            let j = value.leads.by ss i.0.closed i.1 in
            (closed_then u.0 (closed_then v.0 (closed_then w.0 (closed_then i.0 j.0))), j.1);
      };
      stands = λ p v f.
          let fe = fills_before value.emits f in
          let fr = fills_before entry.emits fe in
          let fh = fills_before r.emits fr in
          let fl = fills_before h.from.emits fh in
          let begin = subst (DefaultsBegin is starts) (sym goes) (defaults_begin is starts y.exits.next once) in (
            k,
            t,
            h.first,
            other,
            exits_of y.exits,
            value.stands p f,
            (
              y.block,
              subst (λ ns. HasNumber p (has_objects_of p ns) ns y.block) same (l.numbered p v fl),
              entry.stands p fe,
              l.stands p fl,
            ),
            λ none. goes ∙ no_default is starts y.exits.next none,
            subst (LowersItems p is t h.first other) q
                (both_stand p is starts t h.first other (exits_of z) (h.from.stands p v fh) (r.stands p fr begin)),
          );
    }

pub ruleset no_items_yet = (no_items_code)
