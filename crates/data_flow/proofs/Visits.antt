-- Visits of nodes.
use Rattle.std.proofs.Common.{◌≡◌, ◌≢◌, ℕ, ◌+◌, ◌⊎◌, inl, inr, ⊎_elim, List, [], ◌∷◌, ◌++◌, length, Some, Bool, true}
use Rattle.std.proofs.Common.{false, not, refl, sym, ap, ◌∙◌, subst, arith, true≢false, if◌then◌else◌, length-append}
use Rattle.std.specs.Prelude.{slice_get}
use Rattle.std.proofs.lemmas.Bool.{cases_eq}
use Rattle.data_flow.specs.declared.node_set.NodeSet.{NodeSet}
use Rattle.data_flow.specs.Relations.{Has}
use Rattle.data_flow.specs.NodeSets.{is_in, absent, Lists, Visits}
use Rattle.data_flow.proofs.Lists.{at_front, at_end, at_cases}

pub cases_of : (b : Bool) → (b ≡ true) ⊎ (b ≡ false)
cases_of true = inl refl
cases_of false = inr refl

pub has_front : (xs : List ℕ) (y x : ℕ) → Has xs x → Has (xs ++ y ∷ []) x
has_front xs y x h = (h.0, at_front xs y h.0 x h.1)

-- a node that was not there
pub visits_new : (s s' : NodeSet) (nodes nodes' : List ℕ) (v : ℕ) (new : Bool) → Lists s nodes → new ≡ not (is_in s v)
    → is_in s' v ≡ true → ((x : ℕ) → x ≢ v → is_in s' x ≡ is_in s x) → absent s' + (if new then 1 else 0) ≡ absent s
    → new ≡ true → nodes' ≡ nodes ++ v ∷ [] → Visits s s' nodes nodes' v
visits_new s s' nodes nodes' v new l was here others fewer is e = record {
  lists = record {
    listed = λ k x h. ⊎_elim
        (λ q. ⊎_elim (λ same. subst (λ z. is_in s' z ≡ true) (sym same) here) (λ ne. others x ne ∙ l.listed k x q)
        (cases_eq x v))
        (λ q. subst (λ z. is_in s' z ≡ true) (sym q) here)
        (at_cases nodes v k x (ap (λ xs. slice_get xs k) (sym e) ∙ h));
    all = λ x h. ⊎_elim
        (λ same. subst (λ xs. Has xs x) (sym e) (length nodes, at_end nodes v ∙ ap Some (sym same)))
        (λ ne. subst (λ xs. Has xs x) (sym e) (has_front nodes v x (l.all x (sym (others x ne) ∙ h))))
        (cases_eq x v);
  };
  kept = λ k x h. ap (λ xs. slice_get xs k) e ∙ at_front nodes v k x h;
  has = subst (λ xs. Has xs v) (sym e) (length nodes, at_end nodes v);
  new = λ k x h. at_cases nodes v k x (ap (λ xs. slice_get xs k) (sym e) ∙ h);
  total = let f : absent s' + 1 ≡ absent s = ap (λ b. absent s' + (if b then 1 else 0)) (sym is) ∙ fewer in
      let g : length nodes' ≡ length nodes + 1 = ap length e ∙ length-append nodes (v ∷ []) in
      omega (arith, f, g);
}

-- a node that was there
pub visits_old : (s s' : NodeSet) (nodes nodes' : List ℕ) (v : ℕ) (new : Bool) → Lists s nodes → new ≡ not (is_in s v)
    → is_in s' v ≡ true → ((x : ℕ) → x ≢ v → is_in s' x ≡ is_in s x) → absent s' + (if new then 1 else 0) ≡ absent s
    → new ≡ false → nodes' ≡ nodes → Visits s s' nodes nodes' v
visits_old s s' nodes nodes' v new l was here others fewer is e =
    let there : is_in s v ≡ true = by (is_in s v) (sym was ∙ is) in
    let same : (x : ℕ) → is_in s' x
    ≡ is_in s x = λ x. ⊎_elim (λ q. subst (λ z. is_in s' z ≡ is_in s z) (sym q) (here ∙ sym there))
    (λ ne. others x ne) (cases_eq x v) in
    record {
      lists = record {
        listed = λ k x h. same x ∙ l.listed k x (ap (λ xs. slice_get xs k) (sym e) ∙ h);
        all = λ x h. subst (λ xs. Has xs x) (sym e) (l.all x (sym (same x) ∙ h));
      };
      kept = λ k x h. ap (λ xs. slice_get xs k) e ∙ h;
      has = subst (λ xs. Has xs v) (sym e) (l.all v there);
      new = λ k x h. inl (ap (λ xs. slice_get xs k) (sym e) ∙ h);
      total = let f : absent s' + 0 ≡ absent s = ap (λ b. absent s' + (if b then 1 else 0)) (sym is) ∙ fewer in
          let g : length nodes' ≡ length nodes = ap length e in
          omega (arith, f, g);
    }
  where
    by : (b : Bool) → not b ≡ false → b ≡ true
    by true h = refl
    by false h = absurd (true≢false h)

pub ruleset visiting = (visits_new, visits_old)
