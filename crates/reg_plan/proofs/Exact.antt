-- The test says yes exactly where a plan is accepted.
use Rattle.std.proofs.Common.{◌≡◌, ℕ, ◌<◌, ◌≤◌, ◌⊎◌, inl, inr, ⊎_elim, List, length, Some, true, sym, ap, ◌∙◌, subst}
use Rattle.std.proofs.Common.{arith, true≢false}
use Rattle.std.specs.Prelude.{slice_get}
use Rattle.std.proofs.lemmas.Bool.{cases_eq, cases_lt}
use Rattle.std.proofs.lemmas.Option.{slice_get_past}
use Rattle.flat_code.specs.declared.instruction.FlatInstruction.{FlatInstruction}
use Rattle.flat_code.specs.declared.function.FlatFunction.{FlatFunction}
use Rattle.flat_code.specs.declared.function.FlatProgram.{FlatProgram}
use Rattle.reg_plan.specs.declared.plan.FunctionPlan.{FunctionPlan}
use Rattle.reg_plan.specs.Effects.{made_by, makes_only, unless_only, always_made_by, is_among}
use Rattle.reg_plan.specs.Accepted.{IsLive, AreClosed, IsAccepted, covers, intervals_of}
use Rattle.reg_plan.specs.Colours.{range_of}
use Rattle.reg_plan.specs.Tests.{IsClosedAt, AreApart, IsKept}
use Rattle.data_flow.proofs.Visits.{cases_of}
use Rattle.reg_plan.proofs.Represents.{always_parts}

same : (body : List FlatInstruction) (pc : ℕ) (i j : FlatInstruction) → slice_get body pc ≡ Some i
    → slice_get body pc ≡ Some j → j ≡ i
same body pc i j a b = let w : Some j ≡ Some i = sym b ∙ a in cc

-- closed at each instruction, and on the whole
pub closed_from : (p : FlatProgram) (f : ℕ) (body : List FlatInstruction) (plan : FunctionPlan)
    → ((pc : ℕ) (i : FlatInstruction) → slice_get body pc ≡ Some i → IsClosedAt p f (length body) plan pc i)
    → AreClosed p f body plan
closed_from p f body plan each = record {
  read = λ pc y r wanted. (each pc r.0 r.1).read (λ x e. wanted x (r.0, r.1, e)) y r.2;
  made = λ pc q y l m. ((each pc l.0 l.1).flows q l.2 l.3).live y
      (subst (λ i. is_among (always_made_by p i) y ≡ true) (same body pc l.0 m.0 l.1 m.1)
      (ap (λ o. is_among (unless_only o (made_by p m.0)) y) m.3 ∙ m.2));
  rest = λ pc q y l h not_made. ((each pc l.0 l.1).flows q l.2 l.3).rest y h
      (⊎_elim (λ e. absurd (not_made (l.0, l.1, e))) (λ e. e) (cases_of (is_among (made_by p l.0) y)));
}

pub closed_at : (p : FlatProgram) (f : ℕ) (body : List FlatInstruction) (plan : FunctionPlan) → AreClosed p f body plan
    → (pc : ℕ) (i : FlatInstruction) → slice_get body pc ≡ Some i → IsClosedAt p f (length body) plan pc i
closed_at p f body plan c pc i is = record {
  read = λ wanted y r. c.read pc y (i, is, r)
      (λ x m. wanted x (ap makes_only (sym (same body pc i m.0 is m.1)) ∙ m.2));
  flows = λ q l lt. record {
    live = λ y m. let o = always_parts p i y m in c.made pc q y (i, is, l, lt) (i, is, o.0, o.1);
    rest = λ y h n. c.rest pc q y (i, is, l, lt) h
        (λ m. true≢false (sym (subst (λ j. is_among (made_by p j) y ≡ true) (same body pc i m.0 is m.1) m.2) ∙ n));
  };
}

-- two that are live together are one, or kept apart by the later one
one_of : (f : FlatFunction) (plan : FunctionPlan) (count pc x y : ℕ) → ((z : ℕ) → IsKept f plan count z) → pc < count
    → IsLive plan pc x → IsLive plan pc y → (x ≡ y) ⊎ ((AreApart f plan x y) ⊎ (AreApart f plan y x))
one_of f plan count pc x y kept lt hx hy = ⊎_elim
    (λ below. inr (inr ((kept y).apart x below (pc, lt, hy, hx))))
    (λ above. ⊎_elim (λ e. inl e) (λ ne. inr (inl ((kept x).apart y (omega arith) (pc, lt, hx, hy)))) (cases_eq x y))
    (cases_lt x y)

pub accepted_from : (p : FlatProgram) (number : ℕ) (f : FlatFunction) (plan : FunctionPlan)
    → ((pc : ℕ) (i : FlatInstruction) → slice_get f.body pc ≡ Some i → IsClosedAt p number (length f.body) plan pc i)
    → ((x : ℕ) → IsKept f plan (length f.body) x) → IsAccepted p number f plan
accepted_from p number f plan each kept = record {
  closed = closed_from p number f.body plan each;
  homes = λ pc x y w lt hx hy a b. ⊎_elim (λ e. e) (λ o. absurd (⊎_elim (λ q. q.homes w a b) (λ q. q.homes w b a) o))
      (one_of f plan (length f.body) pc x y kept lt hx hy);
  registers = λ pc x y r lt hx hy a b. ⊎_elim (λ e. e)
      (λ o. absurd (⊎_elim (λ q. q.registers r a b) (λ q. q.registers r b a) o))
      (one_of f plan (length f.body) pc x y kept lt hx hy);
  inside = λ pc y lt h. ((kept y).placed pc lt h).home;
  places = λ pc y lt h. let o = (kept y).placed pc lt h in (o.place, o.is);
  given = λ pc y r lt h e. ((kept y).placed pc lt h).given r e;
  entry = λ y lt h. (kept y).entry lt h;
}

pub kept_from : (p : FlatProgram) (number : ℕ) (f : FlatFunction) (plan : FunctionPlan) → IsAccepted p number f plan
    → (x : ℕ) → IsKept f plan (length f.body) x
kept_from p number f plan a x = record {
  placed = λ pc lt h. let o = a.places pc x lt h in record
      { home = a.inside pc x lt h; place = o.0; is = o.1; given = λ r e. a.given pc x r lt h e };
  entry = λ lt h. a.entry x lt h;
  apart = λ y lt m. record {
    homes = λ w hx hy. let e = a.homes m.0 x y w m.1 m.2 m.3 hx hy in omega arith;
    registers = λ r hx hy. let e = a.registers m.0 x y r m.1 m.2 m.3 hx hy in omega arith;
  };
}

-- what has no live range is kept
pub kept_past : (f : FlatFunction) (plan : FunctionPlan) (count x : ℕ) → length plan.live.items ≤ x
    → IsKept f plan count x
kept_past f plan count x le = record {
  placed = λ pc lt h. absurd (dead pc h);
  entry = λ lt h. absurd (dead 0 h);
  apart = λ y lt m. absurd (dead m.0 m.2);
}
  where
    dead : (pc : ℕ) → covers (range_of plan.live.items x) pc ≡ true → ⊥
    dead pc h = true≢false (sym h ∙ ap (λ o. covers (intervals_of o) pc) (slice_get_past plan.live.items x le))
