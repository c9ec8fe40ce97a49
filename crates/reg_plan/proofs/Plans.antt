-- Plans that are accepted by what their parts are.
use Rattle.std.proofs.Common.{◌≡◌, ℕ, zero, suc, ◌+◌, ◌<◌, ◌≤◌, ⊎_elim, List, [], ◌∷◌, ◌++◌, length, Some, refl, sym}
use Rattle.std.proofs.Common.{ap, ◌∙◌, subst, arith, length-append}
use Rattle.std.specs.Prelude.{slice_get}
use Rattle.std.proofs.lemmas.Bool.{cases_lt}
use Rattle.flat_code.specs.declared.instruction.FlatInstruction.{FlatInstruction}
use Rattle.flat_code.specs.declared.function.FlatFunction.{FlatFunction}
use Rattle.flat_code.specs.declared.function.FlatProgram.{FlatProgram}
use Rattle.reg_plan.specs.Registers.{registers_given_out}
use Rattle.reg_plan.specs.declared.plan.Place.{Place}
use Rattle.reg_plan.specs.declared.plan.FunctionPlan.{FunctionPlan}
use Rattle.reg_plan.specs.Needs.{IsNeeded, Read, Made, Before}
use Rattle.reg_plan.specs.Flow.{IsNamed}
use Rattle.reg_plan.specs.Accepted.{IsLive}
use Rattle.reg_plan.specs.Colours.{IsColoured}
use Rattle.reg_plan.specs.Planned.{IsPlannable, IsLeastPlan, ArePlanned}
use Rattle.data_flow.proofs.Lists.{at_front, at_end}

-- what is needed has a home
pub needed_is_named : (p : FlatProgram) (f : ℕ) (body : List FlatInstruction) (n : ℕ) → IsNamed p f body n → (pc y : ℕ)
    → IsNeeded p f body pc y → y < n
needed_is_named p f body n named _ _ (Read pc y r) = named.read pc y r
needed_is_named p f body n named _ _ (Made pc q y l m) = named.made pc y (m.0, m.1, m.2)
needed_is_named p f body n named _ _ (Before pc q y l k not_made) = needed_is_named p f body n named q y k

some_place : (places : List Place) (y : ℕ) → y < length places → (place : Place) × (slice_get places y ≡ Some place)
some_place [] y lt = absurd (omega arith)
some_place (x ∷ xs) zero lt = (x, refl)
some_place (x ∷ xs) (suc y) lt = some_place xs y (omega arith)

-- live ranges that are least, with places by colouring
pub least_plan : (p : FlatProgram) (number : ℕ) (f : FlatFunction) (plan : FunctionPlan) (count : ℕ) → count ≤ registers_given_out
    → IsPlannable p number f → ((pc y : ℕ) → y < length f.homes → IsNeeded p number f.body pc y → IsLive plan pc y)
    → ((pc y : ℕ) → IsLive plan pc y → IsNeeded p number f.body pc y) → length plan.places.items ≡ length f.homes
    → IsColoured plan.live.items plan.places.items count → IsLeastPlan p number f plan
least_plan p number f plan count few can need only size colours =
    let live : (pc y : ℕ) → IsNeeded p number f.body pc y
    → IsLive plan pc y = λ pc y n. need pc y (needed_is_named p number f.body (length f.homes) can.named pc y n)
    n in
    record {
      accepted = record {
        closed = record {
          read = λ pc y r wanted. live pc y (Read pc y r);
          made = λ pc q y l m. live q y (Made pc q y l m);
          rest = λ pc q y l h m. live pc y (Before pc q y l (only q y h) m);
        };
        homes = λ pc x y w lt hx hy. can.apart pc x y w (only pc x hx) (only pc y hy);
        registers = λ pc x y r lt hx hy a b. colours.apart x y r a b (pc, hx, hy);
        inside = λ pc y lt h. can.inside pc y (only pc y h);
        places = λ pc y lt h. some_place plan.places.items y
            (let l = needed_is_named p number f.body (length f.homes) can.named pc y (only pc y h) in omega arith);
        given = λ pc y r lt h e. let l = colours.given y r e in omega arith;
        entry = λ y lt h. can.entry y (only 0 y h);
      };
      least = only;
      needed = live;
    }

-- one function more
pub planned_none : (p : FlatProgram) (P : ℕ → FlatFunction → FunctionPlan → Type 0) → ArePlanned p [] 0 P
planned_none p P = record { size = refl; each = λ k f lt h. absurd (omega arith) }

pub planned_more : (p : FlatProgram) (plans : List FunctionPlan) (n : ℕ) (P : ℕ → FlatFunction → FunctionPlan → Type 0)
    (f : FlatFunction) (plan : FunctionPlan) → ArePlanned p plans n P → slice_get p.functions n ≡ Some f → P n f plan
    → ArePlanned p (plans ++ plan ∷ []) (n + 1) P
planned_more p plans n P f plan a here q = record {
  size = length-append plans (plan ∷ []) ∙ omega (arith, a.size);
  each = λ k g lt h. ⊎_elim
      (λ low. let o = a.each k g low h in (o.0, at_front plans plan k o.0 o.1, o.2))
      (λ high. let same : k ≡ n = omega arith in
      let w : Some g ≡ Some f = sym h ∙ ap (slice_get p.functions) same ∙ here in
      let e : g ≡ f = cc in
      let z : length plans ≡ k = omega (arith, a.size) in (
        plan,
        ap (slice_get (plans ++ plan ∷ [])) (sym z)
            ∙ at_end plans plan,
        subst (λ j. P j g plan) (sym same) (subst (λ x. P n x plan) (sym e) q),
      ))
      (cases_lt k n);
}

-- the same where the body and the number of homes go by other names
pub least_plan_of : (p : FlatProgram) (number : ℕ) (f : FlatFunction) (plan : FunctionPlan) (count : ℕ)
    (body : List FlatInstruction) (n : ℕ) → count ≤ registers_given_out → IsPlannable p number f → body ≡ f.body
    → n ≡ length f.homes → ((pc y : ℕ) → y < n → IsNeeded p number body pc y → IsLive plan pc y)
    → ((pc y : ℕ) → IsLive plan pc y → IsNeeded p number body pc y) → length plan.places.items ≡ n
    → IsColoured plan.live.items plan.places.items count → IsLeastPlan p number f plan
least_plan_of p number f plan count body n few can b e need only size colours =
    least_plan p number f plan count few can
    (subst (λ (z : List FlatInstruction). (pc y : ℕ) → y < length f.homes → IsNeeded p number z pc y → IsLive plan pc y)
    b (subst (λ k. (pc y : ℕ) → y < k → IsNeeded p number body pc y → IsLive plan pc y) e need))
    (subst (λ (z : List FlatInstruction). (pc y : ℕ) → IsLive plan pc y → IsNeeded p number z pc y) b only)
    (size ∙ e) colours
