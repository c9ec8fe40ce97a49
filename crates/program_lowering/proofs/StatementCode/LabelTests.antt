-- The tests of labels.
use Rattle.std.proofs.Common.{◌≡◌, ℕ, ◌+◌, ◌-◌, ◌≤◌, ◌<◌, Bool, true, false, List, [], ◌∷◌, length, map, drop, refl}
use Rattle.std.proofs.Common.{sym, ap, ◌∙◌, subst, arith}
use Rattle.std.proofs.lemmas.Bool.{or_left, or_right}
use Rattle.std.specs.Prelude.{get_or, ◌||◌, if◌then◌else◌}
use Rattle.c_tree.specs.declared.statement.CaseLabel.{CaseLabel}
use Rattle.c_tree.specs.declared.statement.CaseLabel.TheVariants.{Case, Default}
use Rattle.c_tree.specs.declared.statement.SwitchItem.{SwitchItem as CodeItem}
use Rattle.c_tree.specs.Statements.{SwitchItems, no_items, items, items_in}
use Rattle.source_meaning.specs.Statements.{is_default}
use Rattle.tac_ir.specs.declared.instruction.Instruction.TheVariants as tac
use Rattle.c_lower.specs.Placed.{Placed}
use Rattle.c_lower.specs.Statements.{LowersLabels, any_default}
use Rattle.program_lowering.specs.declared.expressions.emitter.Emitter.{Emitter}
use Rattle.program_lowering.specs.ExpressionCode.Emitted.{Added}
use Rattle.program_lowering.proofs.ExpressionCode.Leading.{leads_first, leads_added, stays_closed, closed_then}
use Rattle.program_lowering.proofs.ExpressionCode.Leading.{adds_none, adds_before}
use Rattle.program_lowering.proofs.ExpressionCode.Growing.{emits_none, emits_then, emits_within, added_emits}
use Rattle.program_lowering.proofs.ExpressionCode.Growing.{added_holds}
use Rattle.program_lowering.proofs.ExpressionCode.Growing.{fills_before}
use Rattle.program_lowering.proofs.ExpressionCode.Views.{drop_from}
use Rattle.program_lowering.specs.StatementParts.Items.{item_of}
use Rattle.program_lowering.proofs.StatementParts.InitializerParts.{drop_before}
use Rattle.program_lowering.specs.StatementCode.Weights.{labels_weight}
use Rattle.program_lowering.specs.StatementCode.Code.{LabelsCode, TestsCode, tests_weight}
use Rattle.program_lowering.specs.StatementCode.Switches.{default_start}
use Rattle.program_lowering.proofs.StatementCode.Elements.{of_item, drop_number, get_any}

pub no_labels_code : {a : Emitter} {item n : ℕ} → LabelsCode a a [] item n n
no_labels_code = record {
  emits = emits_none 1 (λ w. refl);
  leads = record { bodies = adds_none; by = λ ss s o. (stays_closed s, (o.1.0, tt)) };
  stands = λ c f other e. refl;
}

pub case_code : {a b : Emitter} {w item n m : ℕ} → Added a b n (tac.Case 0 w item m)
    → LabelsCode a b (Case w ∷ []) item n m
case_code {w = n} {m = m} h = record {
  emits = emits_within 1 (labels_weight (Case n ∷ [])) (added_emits 1 h (omega arith) (λ ts w. refl)) (omega arith)
      (λ w. omega arith);
  leads = leads_added h;
  stands = λ c f other e.
      (m, added_holds h tt f, refl);
}

pub default_code : {a : Emitter} {item n : ℕ} → LabelsCode a a (Default ∷ []) item n n
default_code = record {
  emits = emits_none 1 (λ w. refl);
  leads = record { bodies = adds_none; by = λ ss s o. (stays_closed s, (o.1.0, tt)) };
  stands = λ c f other e. (e refl, refl);
}

-- one label before others

one_before : (c : Placed) (l : CaseLabel) (ls : List CaseLabel) (item other n k m : ℕ)
    → LowersLabels c (l ∷ []) item other n k → LowersLabels c ls item other k m → LowersLabels c (l ∷ ls) item other n m
one_before c (Case w) ls item other n k m h hs =
    (h.0, h.1, subst (λ i. LowersLabels c ls item other i m) (sym h.2) hs)
one_before c Default ls item other n k m h hs = (h.0, subst (λ i. LowersLabels c ls item other i m) (sym h.1) hs)

alone : (a : Bool) → a || false ≡ true → a ≡ true
alone true e = refl
alone false e = cc

more_labels : {a b c : Emitter} {item n k m : ℕ} (l : CaseLabel) (ls : List CaseLabel) → LabelsCode a b ls item k m
    → LabelsCode b c (l ∷ []) item n k → LabelsCode a c (l ∷ ls) item n m
more_labels {item = item} {n = n} {k = k} {m = m} l ls hs h = record {
  emits = emits_then 1 (labels_weight (l ∷ ls)) hs.emits h.emits (omega arith) (omega arith) (λ w. omega arith);
  leads = record {
    bodies = adds_before hs.leads.bodies h.leads.bodies;
    by = λ ss s o.
        let u = hs.leads.by ss s o in
        let v = h.leads.by ss u.0.closed (u.0.opens item o.0, (u.1.0, tt)) in
        (closed_then u.0 v.0, v.1);
  };
  stands = λ p f other e.
      one_before p l ls item other n k m
      (h.stands p f other (λ d. e (or_left (is_default l) (any_default ls) (alone (is_default l) d))))
      (hs.stands p (fills_before h.emits f) other (λ d. e (or_right (is_default l) (any_default ls) d)));
}

pub next_label : {a b c : Emitter} {item n k m : ℕ} (ls : List CaseLabel) (i : ℕ) (l : CaseLabel) → 1 ≤ i
    → i ≤ length ls
    → l ≡ get_or ls (i - 1) l → LabelsCode a b (drop i ls) item k m → LabelsCode b c (l ∷ []) item n k
    → LabelsCode a c (drop (i - 1) ls) item n m
next_label {a = a} {c = c} {item = item} {n = n} {m = m} ls i l ge le is hs h =
    subst (λ r. LabelsCode a c r item n m) (drop_number ls i l ge le is) (more_labels l _ hs h)

-- items

pub no_tests_code : {a : Emitter} {n : ℕ} → TestsCode a a no_items [] n n
no_tests_code = record { emits = emits_none 1 (λ w. refl); leads = leads_first; stands = λ c f d. refl }

more_tests : {a b c : Emitter} {n k m start : ℕ} (x : CodeItem) (is : SwitchItems) (starts : List ℕ)
    → TestsCode a b is starts k m → LabelsCode b c x.labels start n k
    → TestsCode a c (items (item_of x).0 (item_of x).1 is) (start ∷ starts) n m
more_tests {a = a} {c = c} {n = n} {k = k} {m = m} {start = start} x is starts hs h =
    let view = of_item x in
    let code : TestsCode a c (items x.labels (item_of x).1 is) (start ∷ starts) n m = record {
      emits = emits_then 1 (λ w. labels_weight x.labels w + tests_weight is w) hs.emits h.emits (omega arith)
          (omega arith)
          (λ w. omega arith);
      leads = record {
        bodies = adds_before hs.leads.bodies h.leads.bodies;
        by = λ ss s o.
            let u = hs.leads.by ss s (o.0, o.1.1) in
            let v = h.leads.by ss u.0.closed (u.0.opens start o.1.0, (u.1.0, tt)) in
            (closed_then u.0 v.0, v.1);
      };
      stands = λ p f d. (k, h.stands p f m d.0, hs.stands p (fills_before h.emits f) d.1);
    } in
    subst (λ ls. TestsCode a c (items ls (item_of x).1 is) (start ∷ starts) n m) (sym (ap (λ i. i.0) view)) code

pub next_tests : {a b c : Emitter} {n k m start : ℕ} {labels : List CaseLabel} (xs : List CodeItem)
    (starts : List ℕ) (i : ℕ) (x : CodeItem) → 1 ≤ i
    → i ≤ length xs → x ≡ get_or xs (i - 1) x → length starts ≡ length xs → start ≡ get_or starts (i - 1) start
    → labels ≡ x.labels → TestsCode a b (items_in (map item_of (drop i xs))) (drop i starts) k m
    → LabelsCode b c labels start n k
    → TestsCode a c (items_in (map item_of (drop (i - 1) xs))) (drop (i - 1) starts) n m
next_tests {a = a} {b = b} {c = c} {n = n} {k = k} {m = m} {start = start} {labels = labels} xs starts i x ge le is
    same at
    of hs h =
    let le' : i ≤ length starts = omega (arith, same, le) in
    subst (λ l. TestsCode a c l (drop (i - 1) starts) n m) (ap items_in (drop_before item_of xs i x ge le is))
    (subst (λ r. TestsCode a c (items_in (item_of x ∷ map item_of (drop i xs))) r n m)
    (drop_number starts i start ge le' at)
    (more_tests x _ _ hs (subst (λ ls. LabelsCode b c ls start n k) of h)))

-- an item without a default label is passed over

passed : (x : CodeItem) (is : SwitchItems) (b end : ℕ) (bs : List ℕ) → any_default x.labels ≡ false
    → default_start (items (item_of x).0 (item_of x).1 is) (b ∷ bs) end ≡ default_start is bs end
passed x is b end bs none =
    ap (λ d. if d then b else default_start is bs end) (ap (λ j. any_default j.0) (of_item x) ∙ none)

pub default_after : (xs : List CodeItem) (starts : List ℕ) (i : ℕ) (x : CodeItem) (end : ℕ) → i < length xs
    → x ≡ get_or xs i x → length starts ≡ length xs → any_default x.labels ≡ false
    → default_start (items_in (map item_of (drop i xs))) (drop i starts) end
    ≡ default_start (items_in (map item_of (drop (i + 1) xs))) (drop (i + 1) starts) end
default_after xs starts i x end lt is same none =
    let lt' : i < length starts = omega (arith, same, lt) in
    let first = drop_from starts i (get_or starts i 0) lt' (get_any starts i 0 (get_or starts i 0) lt') in
    ap (λ l. default_start (items_in (map item_of l)) (drop i starts) end) (drop_from xs i x lt is)
    ∙ ap (λ r. default_start (items_in (item_of x ∷ map item_of (drop (i + 1) xs))) r end) first
    ∙ passed x (items_in (map item_of (drop (i + 1) xs))) (get_or starts i 0) end (drop (i + 1) starts) none

pub ruleset testing = (default_code)

pub ruleset no_labels = (no_labels_code)

pub ruleset no_tests = (no_tests_code)
