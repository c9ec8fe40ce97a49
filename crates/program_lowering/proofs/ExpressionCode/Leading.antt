-- What is added leads to open nodes.
use Rattle.std.proofs.Common.{◌≡◌, ℕ, zero, suc, ◌<◌, false, List, [], ◌∷◌, ◌++◌, length, Option, Some}
use Rattle.std.proofs.Common.{refl, sym, ap, ◌∙◌, subst, arith, append_assoc, append-nil}
use Rattle.std.specs.Prelude.{◌⊎◌}
use Rattle.std.proofs.lemmas.Option.{same_Some}
use mathlib.Core.Logic.{inl, inr}
use Rattle.tac_ir.specs.declared.instruction.Instruction.{Instruction}
use Rattle.tac_ir.specs.declared.function.Span.{Span}
use Rattle.tac_ir.specs.declared.function.CountedLoop.{CountedLoop}
use Rattle.tac_ir.specs.Bodies.{IsIn, assigns_plain, bodies_in, no_nodes}
use Rattle.tac_ir.specs.Edges.{IsAmong, LeadsTo, successors}
use Rattle.c_lower.specs.Placed.{HasAt}
use Rattle.program_lowering.specs.declared.expressions.emitter.Emitter.{Emitter}
use Rattle.program_lowering.specs.ExpressionCode.Emitted.{Added}
use Rattle.program_lowering.specs.ExpressionCode.Enclosed.{IsTurnIn, Encloses, IsClosed, AreClosed, IsOpen, AllOpen}
use Rattle.program_lowering.specs.ExpressionCode.Enclosed.{StaysClosed, AddsBodies, Leads, SameNodes}

-- lists with one element more at the end

pub last_or_before : {A : Type 0} (xs : List A) (y : A) (n : ℕ) (x : A) → HasAt (xs ++ y ∷ []) n x
    → HasAt xs n x ⊎ ((n ≡ length xs) × (x ≡ y))
last_or_before [] y zero x h = inr (refl, sym (same_Some y x h))
last_or_before [] y (suc n) x h = cc
last_or_before (z ∷ xs) y zero x h = inl h
last_or_before (z ∷ xs) y (suc n) x h = later xs (last_or_before xs y n x h)
  where
    later : {A : Type 0} (xs : List A) {y x : A} {n : ℕ} → HasAt xs n x ⊎ ((n ≡ length xs) × (x ≡ y))
        → HasAt xs n x ⊎ ((suc n ≡ suc (length xs)) × (x ≡ y))
    later xs (inl h) = inl h
    later xs (inr h) = inr (ap suc h.0, h.1)

length_more : {A : Type 0} (xs : List A) (y : A) → length (xs ++ y ∷ []) ≡ suc (length xs)
length_more [] y = refl
length_more (x ∷ xs) y = ap suc (length_more xs y)

pub body_at : (ls : List CountedLoop) (n : ℕ) (l : CountedLoop) → HasAt ls n l → HasAt (bodies_in ls) n l.body
body_at [] n l h = cc
body_at (k ∷ ls) zero l h = ap (λ (x : CountedLoop). Some x.body) (same_Some k l h)
body_at (k ∷ ls) (suc n) l h = body_at ls n l h

-- open nodes

pub open_among : {spans : List Span} {e : Emitter} (ms : List ℕ) (m : ℕ) → AllOpen spans e ms → IsAmong m ms
    → IsOpen spans e m
open_among [] m h a = absurd a
open_among {spans = spans} {e = e} (k ∷ ms) m h (inl a) = subst (IsOpen spans e) (sym a) h.0
open_among (k ∷ ms) m h (inr a) = open_among ms m h.1 a

pub all_open : {spans : List Span} {a b : Emitter} (ms : List ℕ) → StaysClosed spans a b → AllOpen spans a ms
    → AllOpen spans b ms
all_open [] s h = tt
all_open (m ∷ ms) s h = (s.opens m h.0, all_open ms s h.1)

-- in turn

pub stays_closed : {spans : List Span} {a : Emitter} → AreClosed spans a → StaysClosed spans a a
stays_closed h = record { closed = h; opens = λ n o. o }

pub closed_then : {spans : List Span} {a b c : Emitter} → StaysClosed spans a b → StaysClosed spans b c
    → StaysClosed spans a c
closed_then h g = record { closed = g.closed; opens = λ n o. g.opens n (h.opens n o) }

-- bodies of loops

pub same_adds : {a b : Emitter} → b.loops.items ≡ a.loops.items → AddsBodies a b []
same_adds {a = a} e = record { by = ap bodies_in e ∙ sym (append-nil (bodies_in a.loops.items)) }

pub added_adds : {a b : Emitter} {n : ℕ} {i : Instruction} → Added a b n i → AddsBodies a b []
added_adds h = same_adds h.loops

pub adds_none : {a : Emitter} → AddsBodies a a []
adds_none = same_adds refl

pub adds_then : {a b c : Emitter} {ss ts : List Span} → AddsBodies a b ss → AddsBodies b c ts
    → AddsBodies a c (ss ++ ts)
adds_then {a = a} {ss = ss} {ts = ts} h g = record {
  by = g.by ∙ ap (λ l. l ++ ts) h.by ∙ append_assoc (bodies_in a.loops.items) ss ts;
}

pub adds_before : {a b c : Emitter} {ss : List Span} → AddsBodies a b [] → AddsBodies b c ss → AddsBodies a c ss
adds_before h g = adds_then h g

pub adds_behind : {a b c : Emitter} {ss : List Span} → AddsBodies a b ss → AddsBodies b c [] → AddsBodies a c ss
adds_behind {a = a} {c = c} {ss = ss} h g = subst (AddsBodies a c) (append-nil ss) (adds_then h g)

-- nothing is added
pub leads_all : {a : Emitter} {ns : List ℕ} → Leads a a ns ns []
leads_all = record { bodies = adds_none; by = λ ss s o. (stays_closed s, o) }

pub leads_none : {a : Emitter} {n : ℕ} → Leads a a (n ∷ []) (n ∷ []) []
leads_none = leads_all

-- one piece before another, to which it leads alone
pub leads_then : {a b c : Emitter} {ns ks ms : List ℕ} → Leads a b ks ms [] → Leads b c ns ks []
    → Leads a c ns ms []
leads_then h g = record {
  bodies = adds_before h.bodies g.bodies;
  by = λ ss s o.
      let one = h.by ss s o in
      let two = g.by ss one.0.closed one.1 in
      (closed_then one.0 two.0, two.1);
}

-- nodes and loops are the same

same_open : {spans : List Span} {a b : Emitter} → SameNodes a b → (n : ℕ) → IsOpen spans a n → IsOpen spans b n
same_open {spans = spans} same n o = record {
  within = subst (λ is. n < length is) (sym same.code) o.within;
  outside = λ k s h. o.outside k s (subst (λ ls. IsClosed spans (bodies_in ls) k s) same.loops h);
}

pub same_stays : {spans : List Span} {a b : Emitter} → SameNodes a b → AreClosed spans a → StaysClosed spans a b
same_stays {spans = spans} {b = b} same h = record {
  closed = record {
    leads = subst (λ is. (n m : ℕ) (i : Instruction) → HasAt is n i → LeadsTo i m → m < length is) (sym same.code)
        h.leads;
    closed = λ k s c.
        subst (λ is. Encloses is k s) (sym same.code)
        (h.closed k s (subst (λ ls. IsClosed spans (bodies_in ls) k s) same.loops c));
    none_added = subst (λ ls. (n : ℕ) (l : CountedLoop) → HasAt ls n l → l.added ≡ no_nodes) (sym same.loops)
        h.none_added;
    keeps = λ n l at m i g here.
        h.keeps n l (subst (λ ls. HasAt ls n l) same.loops at) m i (subst (λ is. HasAt is m i) same.code g) here;
  };
  opens = same_open same;
}

pub same_nodes : {a : Emitter} → SameNodes a a
same_nodes = record { code = refl; loops = refl }

pub same_then : {a b c : Emitter} → SameNodes a b → SameNodes b c → SameNodes a c
same_then h g = record { code = g.code ∙ h.code; loops = g.loops ∙ h.loops }

-- behind what adds no nodes
pub leads_behind : {a b c : Emitter} {ns ms : List ℕ} → SameNodes a b → Leads b c ns ms [] → Leads a c ns ms []
leads_behind {ms = ms} same h = record {
  bodies = adds_before (same_adds same.loops) h.bodies;
  by = λ ss s o.
      let one = same_stays same s in
      let two = h.by ss one.closed (all_open ms one o) in
      (closed_then one two.0, two.1);
}

-- one instruction more

edges_more : {spans : List Span} {a b : Emitter} {k : ℕ} {i : Instruction} → Added a b k i → AreClosed spans a
    → AllOpen spans a (successors i) → (n m : ℕ) (j : Instruction) → HasAt b.code.items n j → LeadsTo j m
    → HasAt a.code.items n j ⊎ IsOpen spans a m
edges_more {spans = spans} {a = a} {i = i} h s o n m j at to =
    by (last_or_before a.code.items i n j (subst (λ is. HasAt is n j) h.code at))
  where
    by : HasAt a.code.items n j ⊎ ((n ≡ length a.code.items) × (j ≡ i)) → HasAt a.code.items n j ⊎ IsOpen spans a m
    by (inl g) = inl g
    by (inr g) = inr (open_among (successors i) m o (subst (λ x. LeadsTo x m) g.1 to))

one_longer : {a b : Emitter} {k : ℕ} {i : Instruction} → Added a b k i
    → length b.code.items ≡ suc (length a.code.items)
one_longer {a = a} {i = i} h = ap length h.code ∙ length_more a.code.items i

pub added_stays : {spans : List Span} {a b : Emitter} {k : ℕ} {i : Instruction} → Added a b k i → AreClosed spans a
    → AllOpen spans a (successors i) → StaysClosed spans a b × IsOpen spans b k
added_stays {spans = spans} {a = a} {b = b} {k = k} {i = i} h s o =
    let long = one_longer h in
    let same : (number : Option ℕ) (x : Span) → IsClosed spans (bodies_in b.loops.items) number x
    → IsClosed spans (bodies_in a.loops.items) number x =
    λ number x c. subst (λ ls. IsClosed spans (bodies_in ls) number x) h.loops c in (
      record {
        closed = record {
          leads = λ n m j at to. below n m j to (edges_more h s o n m j at to);
          closed = λ number x c.
              let old = s.closed number x (same number x c) in
              record {
                within = omega (arith, long, old.within);
                enters = λ n m j at to here. entered number x (same number x c) n m j to here
                    (edges_more h s o n m j at to);
              };
          none_added = subst (λ ls. (n : ℕ) (l : CountedLoop) → HasAt ls n l → l.added ≡ no_nodes) (sym h.loops)
              s.none_added;
          keeps = λ n l at m j g here.
              let held = subst (λ ls. HasAt ls n l) h.loops at in
              kept n l held m j here
              (last_or_before a.code.items i m j (subst (λ is. HasAt is m j) h.code g));
        };
        opens = λ n w. record {
          within = omega (arith, long, w.within);
          outside = λ number x c here. w.outside number x (same number x c) here;
        };
      },
      record {
        within = omega (arith, long, h.place);
        outside = λ number x c here.
            omega (arith, (s.closed number x (same number x c)).within, h.place, here.1);
      },
    )
  where
    below : (n m : ℕ) (j : Instruction) → LeadsTo j m → HasAt a.code.items n j ⊎ IsOpen spans a m
        → m < length b.code.items
    below n m j to (inl at) = omega (arith, one_longer h, s.leads n m j at to)
    below n m j to (inr w) = omega (arith, one_longer h, w.within)

    kept : (n : ℕ) (l : CountedLoop) → HasAt a.loops.items n l → (m : ℕ) (j : Instruction) → IsIn l.body m
        → HasAt a.code.items m j ⊎ ((m ≡ length a.code.items) × (j ≡ i)) → assigns_plain j l.variable ≡ false
    kept n l held m j here (inl g) = s.keeps n l held m j g here
    kept n l held m j here (inr e) =
        absurd (omega (arith, (s.closed (Some n) l.body (body_at a.loops.items n l held)).within, here.1, e.0))

    entered : (number : Option ℕ) (x : Span) → IsClosed spans (bodies_in a.loops.items) number x
        → (n m : ℕ) (j : Instruction) → LeadsTo j m → IsIn x m → HasAt a.code.items n j ⊎ IsOpen spans a m
        → IsIn x n ⊎ IsTurnIn number j
    entered number x c n m j to here (inl at) = (s.closed number x c).enters n m j at to here
    entered number x c n m j to here (inr w) = absurd (w.outside number x c here)

pub leads_added : {a b : Emitter} {k : ℕ} {i : Instruction} → Added a b k i → Leads a b (k ∷ []) (successors i) []
leads_added h = record {
  bodies = added_adds h;
  by = λ ss s o.
      let one = added_stays h s o in
      (one.0, (one.1, tt));
}

-- to one node
pub leads_to : {a b : Emitter} {k m : ℕ} {i : Instruction} → Added a b k i → successors i ≡ m ∷ []
    → Leads a b (k ∷ []) (m ∷ []) []
leads_to {a = a} {b = b} {k = k} h e = subst (λ ms. Leads a b (k ∷ []) ms []) e (leads_added h)

-- nothing is added, and other ways are not taken
pub leads_first : {a : Emitter} {n : ℕ} {ms : List ℕ} → Leads a a (n ∷ []) (n ∷ ms) []
leads_first = record { bodies = adds_none; by = λ ss s o. (stays_closed s, (o.0, tt)) }

-- more ways that are not taken
pub leads_more : {a b : Emitter} {ns : List ℕ} {m : ℕ} {ms : List ℕ} → Leads a b ns (m ∷ []) []
    → Leads a b ns (m ∷ ms) []
leads_more h = record { bodies = h.bodies; by = λ ss s o. h.by ss s (o.0, tt) }

-- a piece before another, which may be left in the same other ways
pub leads_before : {a b c : Emitter} {ns ks ms : List ℕ} {k m : ℕ} {ss ts : List Span} → Leads a b (k ∷ ks) (m ∷ ms) ss
    → Leads b c ns (k ∷ ms) ts → Leads a c ns (m ∷ ms) (ss ++ ts)
leads_before {ms = ms} h g = record {
  bodies = adds_then h.bodies g.bodies;
  by = λ ss s o.
      let one = h.by ss s o in
      let two = g.by ss one.0.closed (one.1.0, all_open ms one.0 o.1) in
      (closed_then one.0 two.0, two.1);
}
