use Rattle.std.proofs.Common.{◌≡◌, ⊎_elim, ℕ, List, [], Some, ap, sym, subst, ◌∙◌}
use Rattle.std.specs.Prelude.{slice_get}
use Rattle.data_flow.specs.Relations.{Has}
use Rattle.check_elim.specs.Paths.{Path, Start}
use Rattle.check_elim.proofs.graph.begun.Goals as goal

none_of : {A : Type 0} (xs : List ℕ) (n : ℕ) → xs ≡ [] → Has xs n → A
none_of xs n e h = let clash : slice_get [] h.0 ≡ Some n = ap (λ l. slice_get l h.0) (sym e) ∙ h.1 in absurd cc

pub returns-clause-paths : goal.returns-clause-paths
returns-clause-paths c v h =
    ⊎_elim (λ old. none_of _ v c.in_ok-reached.ensures.empty old)
    (λ e. subst (λ z. Path c.args.function.now z) (sym e) Start) (c.in_ok-put.ensures.puts.new v h)
