use Rattle.std.proofs.Common.{◌≡◌, ℕ, Some, length}
use Rattle.std.specs.Prelude.{slice_get}
use Rattle.reg_plan.specs.declared.plan.Place.{Place}
use Rattle.reg_plan.specs.declared.plan.Place.TheVariants.{Home}
use Rattle.reg_plan.proofs.colouring.all_at_home.Given as goal

abbrev pub invariant-loop : goal.invariant-loop
invariant-loop l = record {
  home : (y : ℕ) (place : Place) → slice_get l.places.items y ≡ Some place → place ≡ Home;
  size : length l.places.items ≡ l.counter;
}
