-- A function whose homes differ and lie within its record can be planned, where its entry needs none but the parameters.
use Rattle.std.proofs.Common.{◌≡◌, ℕ, ◌<◌, Bool, true, false, List, length, get_or}
use Rattle.std.proofs.Common.{Some}
use Rattle.std.specs.Prelude.{slice_get}
use Rattle.std.proofs.lemmas.Option.{slice_get-get_or}
use Rattle.flat_code.specs.declared.instruction.FlatInstruction.{FlatInstruction}
use Rattle.flat_code.specs.declared.function.FlatFunction.{FlatFunction}
use Rattle.flat_code.specs.declared.function.FlatProgram.{FlatProgram}
use Rattle.reg_plan.specs.declared.plan.FunctionPlan.{FunctionPlan}
use Rattle.reg_plan.specs.Needs.{IsNeeded}
use Rattle.reg_plan.specs.Flow.{IsNamed}
use Rattle.reg_plan.specs.Accepted.{IsLive}
use Rattle.reg_plan.specs.Planned.{IsPlannable}
use Rattle.reg_plan.proofs.Plans.{needed_is_named}
use Rattle.target_limits.specs.Planning.{HasNames, IsReadable}

-- what holds of each instruction holds of all
pub named : (p : FlatProgram) (f : ℕ) (body : List FlatInstruction) (count : ℕ)
    → ((pc : ℕ) (i : FlatInstruction) → slice_get body pc ≡ Some i → HasNames p f i count) → IsNamed p f body count
named p f body count h = record {
  read = λ pc y r. (h pc r.0 r.1).read y r.2;
  made = λ pc y r. (h pc r.0 r.1).made y r.2;
}

-- ---- homes

-- the first homes, so many, differ, and their words are marked
pub record AreMarked (homes : List ℕ) (done : ℕ) (seen : List Bool) : Type 0 where
  pub marked : (x w : ℕ) → x < done → slice_get homes x ≡ Some w → get_or seen w false ≡ true
  pub apart : (x y w : ℕ) → x < done → y < done → slice_get homes x ≡ Some w → slice_get homes y ≡ Some w → x ≡ y

some_home : (homes : List ℕ) (y : ℕ) → y < length homes → (w : ℕ) × (slice_get homes y ≡ Some w)
some_home homes y lt = (get_or homes y 0, slice_get-get_or homes y 0 lt)

pub plannable : (p : FlatProgram) (number : ℕ) (f : FlatFunction) (plan : FunctionPlan) → IsReadable p number f
    → ((pc y : ℕ) → y < length f.homes → IsNeeded p number f.body pc y → IsLive plan pc y)
    → ((y : ℕ) → y < length f.homes → IsLive plan 0 y → y < f.parameters) → IsPlannable p number f
plannable p number f plan r live entered =
    let below : (pc y : ℕ) → IsNeeded p number f.body pc y → y < length f.homes
    = λ pc y n. needed_is_named p number f.body (length f.homes) r.named pc y n in
    record {
      count = r.count;
      named = r.named;
      inside = λ pc y n. let o = some_home f.homes y (below pc y n) in
          record { word = o.0; is = o.1; inside = r.homes.inside y o.0 o.1 };
      apart = λ pc x y w nx ny ex ey. r.homes.apart x y w ex ey;
      entry = λ y n. entered y (below 0 y n) (live 0 y (below 0 y n) n);
    }
