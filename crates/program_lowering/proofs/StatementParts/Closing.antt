-- Closed spans: the body of a loop is one once it stands, and stays one where the loop gets its number and its turn.
use Rattle.std.proofs.Common.{◌≡◌, ◌≢◌, ℕ, zero, suc, ◌≤◌, ◌<◌, Bool, true, false, List, [], ◌∷◌, ◌++◌, length}
use Rattle.std.proofs.Common.{Option, Some, None, refl, sym, ap, ◌∙◌, subst, arith}
use Rattle.std.specs.Prelude.{◌⊎◌, slice_get, slice_set, ◌==◌}
use Rattle.std.proofs.lemmas.Bool.{eqb-true, eqb-false}
use Rattle.std.proofs.lemmas.Option.{same_Some, slice_get_within}
use mathlib.Core.Logic.{inl, inr}
use Rattle.tac_ir.specs.declared.instruction.Instruction.{Instruction}
use Rattle.tac_ir.specs.declared.instruction.Instruction.TheVariants as tac
use Rattle.tac_ir.specs.declared.function.Span.{Span}
use Rattle.tac_ir.specs.declared.function.CountedLoop.{CountedLoop}
use Rattle.tac_ir.specs.Bodies.{IsIn, assigns_plain, bodies_in, no_nodes}
use Rattle.tac_ir.specs.Edges.{LeadsTo, successors}
use Rattle.c_lower.specs.Counted.{CountedParts}
use Rattle.c_lower.specs.Placed.{HasAt}
use Rattle.program_lowering.specs.declared.expressions.emitter.Emitter.{Emitter}
use Rattle.program_lowering.specs.ExpressionCode.Emitted.{Has, Keeps}
use Rattle.program_lowering.specs.ExpressionCode.Enclosed.{IsTurnIn, Encloses, IsClosed, AreClosed, IsOpen, AllOpen}
use Rattle.program_lowering.specs.ExpressionCode.Enclosed.{StaysClosed}
use Rattle.program_lowering.specs.StatementParts.Loops.{Filled, AssignsNone, ClosesBody}
use Rattle.program_lowering.proofs.ExpressionCode.Leading.{last_or_before, open_among}

-- lists of which one element is set

pub set_same : {A : Type 0} (xs : List A) (n : ℕ) (x y : A) → HasAt xs n x → HasAt (slice_set xs n y) n y
set_same [] n x y h = cc
set_same (z ∷ xs) zero x y h = refl
set_same (z ∷ xs) (suc n) x y h = set_same xs n x y h

pub set_other : {A : Type 0} (xs : List A) (n m : ℕ) (y : A) → m ≢ n → slice_get (slice_set xs n y) m ≡ slice_get xs m
set_other [] n m y ne = refl
set_other (z ∷ xs) zero zero y ne = absurd (ne refl)
set_other (z ∷ xs) zero (suc m) y ne = refl
set_other (z ∷ xs) (suc n) zero y ne = refl
set_other (z ∷ xs) (suc n) (suc m) y ne = set_other xs n m y (λ e. ne (ap suc e))

set_length : {A : Type 0} (xs : List A) (n : ℕ) (y : A) → length (slice_set xs n y) ≡ length xs
set_length [] n y = refl
set_length (x ∷ xs) zero y = refl
set_length (x ∷ xs) (suc n) y = ap suc (set_length xs n y)

-- a node that is filled

pub filled_other : {a b : Emitter} {n : ℕ} {i : Instruction} → Filled a b n i → (m : ℕ) → m ≢ n
    → slice_get b.code.items m ≡ slice_get a.code.items m
filled_other {a = a} {n = n} {i = i} f m ne = ap (λ l. slice_get l m) f.code ∙ set_other a.code.items n m i ne

pub filled_here : {a b : Emitter} {n : ℕ} {i : Instruction} → Filled a b n i → Has a n tac.Reserved → Has b n i
filled_here {a = a} {n = n} {i = i} f h = ap (λ l. slice_get l n) f.code ∙ set_same a.code.items n tac.Reserved i h

filled_length : {a b : Emitter} {n : ℕ} {i : Instruction} → Filled a b n i
    → length b.code.items ≡ length a.code.items
filled_length {a = a} {n = n} {i = i} f = ap length f.code ∙ set_length a.code.items n i

-- what stands at a node then is what is filled in, or stood there
filled_edge : {a b : Emitter} {n : ℕ} {i : Instruction} → Filled a b n i → Has a n tac.Reserved → (m : ℕ)
    (j : Instruction) → Has b m j → (t : Bool) → (m == n) ≡ t → (j ≡ i) ⊎ Has a m j
filled_edge {b = b} {n = n} f h m j at true e =
    inl (same_Some _ _ (sym at ∙ ap (slice_get b.code.items) (eqb-true m n e) ∙ filled_here f h))
filled_edge {n = n} f h m j at false e = inr (sym (filled_other f m (eqb-false m n e)) ∙ at)

-- where what is filled in may lead
abbrev pub MayLead : (spans : List Span) → Emitter → Instruction → (node : ℕ) → Type 0
MayLead spans a i m = (m < length a.code.items) × ((k : Option ℕ) (s : Span)
    → IsClosed spans (bodies_in a.loops.items) k s → IsIn s m → IsTurnIn k i)

pub filled_stays : {spans : List Span} {a b : Emitter} {n : ℕ} {i : Instruction} → Filled a b n i
    → Has a n tac.Reserved → AreClosed spans a → ((v : ℕ) → assigns_plain i v ≡ false)
    → ((m : ℕ) → LeadsTo i m → MayLead spans a i m) → StaysClosed spans a b
filled_stays {spans = spans} {a = a} {b = b} {n = n} {i = i} f h s spares may =
    let long = filled_length f in
    let same : (k : Option ℕ) (x : Span) → IsClosed spans (bodies_in b.loops.items) k x
    → IsClosed spans (bodies_in a.loops.items) k x =
    λ k x c. subst (λ ls. IsClosed spans (bodies_in ls) k x) f.loops c in
    record {
      closed = record {
        leads = λ m o j at to. below m o j to (filled_edge f h m j at (m == n) refl);
        closed = λ k x c. record {
          within = omega (arith, long, (s.closed k x (same k x c)).within);
          enters = λ m o j at to here. entered k x (same k x c) m o j to here (filled_edge f h m j at (m == n) refl);
        };
        none_added = subst (λ ls. (p : ℕ) (l : CountedLoop) → HasAt ls p l → l.added ≡ no_nodes) (sym f.loops)
            s.none_added;
        keeps = λ k l at m j g here.
            kept k l (subst (λ ls. HasAt ls k l) f.loops at) m j here (filled_edge f h m j g (m == n) refl);
      };
      opens = λ m o. record {
        within = omega (arith, long, o.within);
        outside = λ k x c here. o.outside k x (same k x c) here;
      };
    }
  where
    kept : (k : ℕ) (l : CountedLoop) → HasAt a.loops.items k l → (m : ℕ) (j : Instruction) → IsIn l.body m
        → (j ≡ i) ⊎ Has a m j → assigns_plain j l.variable ≡ false
    kept k l held m j here (inl e) = ap (λ x. assigns_plain x l.variable) e ∙ spares l.variable
    kept k l held m j here (inr g) = s.keeps k l held m j g here

    below : (m o : ℕ) (j : Instruction) → LeadsTo j o → (j ≡ i) ⊎ Has a m j → o < length b.code.items
    below m o j to (inl e) = omega (arith, filled_length f, (may o (subst (λ y. LeadsTo y o) e to)).0)
    below m o j to (inr at) = omega (arith, filled_length f, s.leads m o j at to)

    entered : (k : Option ℕ) (x : Span) → IsClosed spans (bodies_in a.loops.items) k x → (m o : ℕ) (j : Instruction)
        → LeadsTo j o → IsIn x o → (j ≡ i) ⊎ Has a m j → IsIn x m ⊎ IsTurnIn k j
    entered k x c m o j to here (inl e) =
        inr (subst (IsTurnIn k) (sym e) ((may o (subst (λ y. LeadsTo y o) e to)).1 k x c here))
    entered k x c m o j to here (inr at) = (s.closed k x c).enters m o j at to here

pub filled_open : {spans : List Span} {a b : Emitter} {n : ℕ} {i : Instruction} → Filled a b n i
    → Has a n tac.Reserved → AreClosed spans a → ((v : ℕ) → assigns_plain i v ≡ false)
    → AllOpen spans a (successors i) → StaysClosed spans a b
filled_open {i = i} f h s spares all = filled_stays f h s spares
    (λ m to. let o = open_among (successors i) m all to in (o.within, λ k x c here. absurd (o.outside k x c here)))

-- one closed span fewer

more_closed : (spans bodies : List Span) (s : Span) (k : Option ℕ) (x : Span) → IsClosed spans bodies k x
    → IsClosed (s ∷ spans) bodies k x
more_closed spans bodies s None x c = (suc c.0, c.1)
more_closed spans bodies s (Some n) x c = c

pub fewer_closed : {spans : List Span} {e : Emitter} {s : Span} → AreClosed (s ∷ spans) e → AreClosed spans e
fewer_closed {spans = spans} {e = e} {s = s} h = record {
  leads = h.leads;
  closed = λ k x c. h.closed k x (more_closed spans (bodies_in e.loops.items) s k x c);
  none_added = h.none_added;
  keeps = h.keeps;
}

pub fewer_open : {spans : List Span} {e : Emitter} {s : Span} {n : ℕ} → IsOpen (s ∷ spans) e n → IsOpen spans e n
fewer_open {spans = spans} {e = e} {s = s} o = record {
  within = o.within;
  outside = λ k x c here. o.outside k x (more_closed spans (bodies_in e.loops.items) s k x c) here;
}

-- the nodes that are added are a closed span

pub there : (xs : List Instruction) (n : ℕ) → n < length xs → (i : Instruction) × HasAt xs n i
there [] n lt = absurd (omega (arith, lt))
there (x ∷ xs) zero lt = (x, refl)
there (x ∷ xs) (suc n) lt = there xs n (omega (arith, lt))

least : (m n : ℕ) → (m ≤ n) ⊎ (n < m)
least zero n = inl (omega arith)
least (suc m) zero = inr (omega arith)
least (suc m) (suc n) = by (least m n)
  where
    by : (m ≤ n) ⊎ (n < m) → (suc m ≤ suc n) ⊎ (suc n < suc m)
    by (inl h) = inl (omega (arith, h))
    by (inr h) = inr (omega (arith, h))

-- from one emitter to another
abbrev pub nodes_between : (before after : Emitter) → Span
nodes_between a b = record { start = length a.code.items; end = length b.code.items }

enters_added : {spans : List Span} {a b : Emitter} → Keeps a b → AreClosed spans a → (n m : ℕ) (i : Instruction)
    → Has b n i → LeadsTo i m → length a.code.items ≤ m → (length a.code.items ≤ n) ⊎ (n < length a.code.items)
    → IsIn (nodes_between a b) n ⊎ ⊥
enters_added {b = b} k s n m i at to here (inl le) = inl (le, slice_get_within b.code.items n i at)
enters_added {a = a} k s n m i at to here (inr lt) =
    let j = there a.code.items n lt in
    let same : j.0 ≡ i = same_Some _ _ (sym (k.code n j.0 j.1) ∙ at) in
    absurd (omega (arith, here, s.leads n m j.0 j.1 (subst (λ y. LeadsTo y m) (sym same) to)))

pub added_closed : {spans : List Span} {a b : Emitter} → Keeps a b → AreClosed spans a → AreClosed spans b
    → AreClosed (nodes_between a b ∷ spans) b
added_closed {spans = spans} {a = a} {b = b} k s t = record {
  leads = t.leads;
  closed = by;
  none_added = t.none_added;
  keeps = t.keeps;
}
  where
    first : Encloses b.code.items None (nodes_between a b)
    first = record {
      within = omega arith;
      enters = λ n m i at to here. enters_added k s n m i at to here.0 (least (length a.code.items) n);
    }

    by : (number : Option ℕ) (x : Span)
        → IsClosed (nodes_between a b ∷ spans) (bodies_in b.loops.items) number x
        → Encloses b.code.items number x
    by None x (zero, e) = subst (Encloses b.code.items None) (same_Some _ _ e) first
    by None x (suc n, e) = t.closed None x (n, e)
    by (Some n) x e = t.closed (Some n) x e

pub added_open : {spans : List Span} {a b : Emitter} {n : ℕ} → StaysClosed spans a b → IsOpen spans a n
    → IsOpen (nodes_between a b ∷ spans) b n
added_open {spans = spans} {a = a} {b = b} {n = n} s o = record { within = (s.opens n o).within; outside = by }
  where
    by : (number : Option ℕ) (x : Span)
        → IsClosed (nodes_between a b ∷ spans) (bodies_in b.loops.items) number x → IsIn x n → ⊥
    by None x (zero, e) here = omega (arith, o.within, (subst (λ y. IsIn y n) (sym (same_Some _ _ e)) here).0)
    by None x (suc m, e) here = (s.opens n o).outside None x (m, e) here
    by (Some m) x e here = (s.opens n o).outside (Some m) x e here

-- a closed span becomes the body of a loop

pub no_loop_closes : {a : Emitter} {body : Span} → ClosesBody a a body None None
no_loop_closes = record {
  closed = λ ss h spares. fewer_closed h;
  opens = λ ss n o. fewer_open o;
  turns = λ ss n o k s c here. absurd (o.outside k s c here);
}

pub bodies_more : (ls : List CountedLoop) (l : CountedLoop) → bodies_in (ls ++ l ∷ []) ≡ bodies_in ls ++ l.body ∷ []
bodies_more [] l = refl
bodies_more (k ∷ ls) l = ap (λ xs. k.body ∷ xs) (bodies_more ls l)

bodies_length : (ls : List CountedLoop) → length (bodies_in ls) ≡ length ls
bodies_length [] = refl
bodies_length (l ∷ ls) = ap suc (bodies_length ls)

closed_before : (spans : List Span) (ls ms : List CountedLoop) (l : CountedLoop) → ms ≡ ls ++ l ∷ []
    → (k : Option ℕ) (x : Span) → IsClosed spans (bodies_in ms) k x
    → IsClosed spans (bodies_in ls) k x ⊎ ((k ≡ Some (length ls)) × (x ≡ l.body))
closed_before spans ls ms l e None x c = inl c
closed_before spans ls ms l e (Some n) x c =
    by (last_or_before (bodies_in ls) l.body n x (subst (λ bs. HasAt bs n x) (ap bodies_in e ∙ bodies_more ls l) c))
  where
    by : HasAt (bodies_in ls) n x ⊎ ((n ≡ length (bodies_in ls)) × (x ≡ l.body))
        → HasAt (bodies_in ls) n x ⊎ ((Some n ≡ Some (length ls)) × (x ≡ l.body))
    by (inl h) = inl h
    by (inr h) = inr (ap Some (h.0 ∙ bodies_length ls), h.1)

pub loop_closes : {a b : Emitter} {n : ℕ} (l : CountedLoop) (p : CountedParts) → l.variable ≡ p.variable → b.code.items ≡ a.code.items
    → b.loops.items ≡ a.loops.items ++ l ∷ [] → n ≡ length a.loops.items → l.added ≡ no_nodes
    → ClosesBody a b l.body (Some p) (Some n)
loop_closes {a = a} {b = b} {n = n} l p named code loops at none = record {
  closed = λ ss h spares. record {
    leads = subst (λ is. (n m : ℕ) (i : Instruction) → HasAt is n i → LeadsTo i m → m < length is) (sym code) h.leads;
    closed = λ k x c.
        subst (λ is. Encloses is k x) (sym code)
        (still ss h k x (closed_before ss a.loops.items b.loops.items l loops k x c));
    none_added = λ k m g.
        unchecked ss h k m (last_or_before a.loops.items l k m (subst (λ ls. HasAt ls k m) loops g));
    keeps = λ k m g q i at here.
        spared ss h spares q i (subst (λ is. HasAt is q i) code at) k m here
        (last_or_before a.loops.items l k m (subst (λ ls. HasAt ls k m) loops g));
  };
  opens = λ ss m o. record {
    within = subst (λ is. m < length is) (sym code) o.within;
    outside = λ k x c here. out ss m o k x here (closed_before ss a.loops.items b.loops.items l loops k x c);
  };
  turns = λ ss m o k x c here. turn ss m o k x here (closed_before ss a.loops.items b.loops.items l loops k x c);
}
  where
    still : (ss : List Span) → AreClosed (l.body ∷ ss) a → (k : Option ℕ) (x : Span)
        → IsClosed ss (bodies_in a.loops.items) k x ⊎ ((k ≡ Some (length a.loops.items)) × (x ≡ l.body))
        → Encloses a.code.items k x
    still ss h k x (inl c) = h.closed k x (more_closed ss (bodies_in a.loops.items) l.body k x c)
    still ss h k x (inr e) =
        let span = h.closed None l.body (0, refl) in
        subst (Encloses a.code.items k) (sym e.1) (record {
          within = span.within;
          enters = λ n m i g to here. inside (span.enters n m i g to here);
        })
      where
        inside : {A B : Type 0} → A ⊎ ⊥ → A ⊎ B
        inside (inl w) = inl w
        inside (inr w) = absurd w

    unchecked : (ss : List Span) → AreClosed (l.body ∷ ss) a → (k : ℕ) (m : CountedLoop)
        → HasAt a.loops.items k m ⊎ ((k ≡ length a.loops.items) × (m ≡ l)) → m.added ≡ no_nodes
    unchecked ss h k m (inl g) = h.none_added k m g
    unchecked ss h k m (inr e) = ap (λ (x : CountedLoop). x.added) e.1 ∙ none

    spared : (ss : List Span) → AreClosed (l.body ∷ ss) a → AssignsNone a l.body (Some p) → (q : ℕ) (i : Instruction)
        → HasAt a.code.items q i → (k : ℕ) (m : CountedLoop) → IsIn m.body q
        → HasAt a.loops.items k m ⊎ ((k ≡ length a.loops.items) × (m ≡ l)) → assigns_plain i m.variable ≡ false
    spared ss h spares q i at k m here (inl g) = h.keeps k m g q i at here
    spared ss h spares q i at k m here (inr e) =
        ap (λ (x : CountedLoop). assigns_plain i x.variable) e.1 ∙ ap (assigns_plain i) named
        ∙ spares.by p refl q i at (subst (λ (x : CountedLoop). IsIn x.body q) e.1 here)

    out : (ss : List Span) (m : ℕ) → IsOpen (l.body ∷ ss) a m → (k : Option ℕ) (x : Span) → IsIn x m
        → IsClosed ss (bodies_in a.loops.items) k x ⊎ ((k ≡ Some (length a.loops.items)) × (x ≡ l.body)) → ⊥
    out ss m o k x here (inl c) = o.outside k x (more_closed ss (bodies_in a.loops.items) l.body k x c) here
    out ss m o k x here (inr e) = o.outside None l.body (0, refl) (subst (λ y. IsIn y m) e.1 here)

    turn : (ss : List Span) (m : ℕ) → IsOpen ss a m → (k : Option ℕ) (x : Span) → IsIn x m
        → IsClosed ss (bodies_in a.loops.items) k x ⊎ ((k ≡ Some (length a.loops.items)) × (x ≡ l.body))
        → IsTurnIn k (tac.Turn (Some n) m)
    turn ss m o k x here (inl c) = absurd (o.outside k x c here)
    turn ss m o k x here (inr e) = subst (λ q. IsTurnIn q (tac.Turn (Some n) m)) (sym e.0) at

-- a closed span assigns as little where code grows
pub still_spares : {spans : List Span} {a b : Emitter} {nodes : Span} {parts : Option CountedParts} → Keeps a b
    → AreClosed (nodes ∷ spans) a → AssignsNone a nodes parts → AssignsNone b nodes parts
still_spares {a = a} {b = b} {nodes = nodes} k s none = record {
  by = λ p e n i at here.
      let end = (s.closed None nodes (0, refl)).within in
      let j = there a.code.items n (omega (arith, end, here.1)) in
      let same : j.0 ≡ i = same_Some _ _ (sym (k.code n j.0 j.1) ∙ at) in
      none.by p e n i (subst (λ x. Has a n x) same j.1) here;
}
