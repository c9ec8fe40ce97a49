-- A program whose plan is accepted can be planned.
use Rattle.std.proofs.Common.{◌≡◌, ℕ, zero, suc, ◌<◌, ◌^◌, List, [], ◌∷◌, length, Some, refl, arith}
use Rattle.std.specs.Prelude.{slice_get}
use Rattle.flat_code.specs.declared.instruction.FlatInstruction.{FlatInstruction}
use Rattle.flat_code.specs.declared.function.FlatFunction.{FlatFunction}
use Rattle.flat_code.specs.declared.function.FlatProgram.{FlatProgram}
use Rattle.reg_plan.specs.declared.plan.FunctionPlan.{FunctionPlan}
use Rattle.reg_plan.specs.Flow.{IsNamed}
use Rattle.reg_plan.specs.Needs.{IsNeeded}
use Rattle.reg_plan.specs.Accepted.{IsLive, IsAccepted}
use Rattle.reg_plan.specs.Planned.{IsPlannable, ArePlannable, ArePlanned}
use Rattle.reg_plan.specs.Tests.{AreAccepted}
use Rattle.code_generation_vectors.specs.Named.{HasNames, IsSmall, AreNamed, HasNeeded}
use Rattle.reg_plan.proofs.Ranges.{needed_within}

get_below : {A : Type 0} (xs : List A) (k : ℕ) (x : A) → slice_get xs k ≡ Some x → k < length xs
get_below [] k x e = cc
get_below (y ∷ ys) zero x e = omega arith
get_below (y ∷ ys) (suc k) x e = let r = get_below ys k x e in omega arith

module _ (p : FlatProgram) (f : ℕ) (g : FlatFunction) (plan : FunctionPlan) (has : HasNeeded p f g plan)
    (ok : IsAccepted p f g plan) where
  -- what is needed is live, before an instruction of the function
  live : (pc y : ℕ) → IsNeeded p f g.body pc y → (pc < length g.body) × IsLive plan pc y
  live pc y needed = (needed_within p f g.body pc y needed, has pc y needed)

  plannable : length g.body < 2 ^ 32 → IsNamed p f g.body (length g.homes) → IsPlannable p f g
  plannable small named = record {
    count = small;
    named = named;
    inside = λ pc y needed. let l = live pc y needed in ok.inside pc y l.0 l.1;
    apart = λ pc x y w nx ny ex ey. let lx = live pc x nx in let ly = live pc y ny in
        ok.homes pc x y w lx.0 lx.1 ly.1 ex ey;
    entry = λ y needed. let l = live 0 y needed in ok.entry y l.0 l.1;
  }

pub are_plannable : (p : FlatProgram) (plans : List FunctionPlan) → IsSmall p → AreNamed p (length p.functions)
    → ArePlanned p plans (length p.functions) (HasNeeded p) → AreAccepted p plans → ArePlannable p
are_plannable p plans small named planned ok k f there =
    let in_range : k < length p.functions = get_below p.functions k f there in
    let plan = planned.each k f in_range there in
    plannable p k f plan.0 plan.2 (ok.each k f plan.0 there plan.1) (small.bodies k f there) (named k f in_range there)

-- what holds of each instruction holds of all
pub are_named : (p : FlatProgram) (f : ℕ) (body : List FlatInstruction) (count : ℕ)
    → ((pc : ℕ) (i : FlatInstruction) → slice_get body pc ≡ Some i → HasNames p f i count) → IsNamed p f body count
are_named p f body count h = record {
  read = λ pc y r. (h pc r.0 r.1).read y r.2;
  made = λ pc y r. (h pc r.0 r.1).made y r.2;
}
