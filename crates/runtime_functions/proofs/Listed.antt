-- The functions of a list, one after the other.
use Rattle.std.proofs.Common.{◌≡◌, List, [], ◌∷◌, ◌++◌, refl, sym, ap, ◌∙◌, subst}
use Rattle.addr_map.specs.Places.{MapSizes}
use Rattle.flat_code.specs.declared.function.FlatFunction.{FlatFunction}
use Rattle.flat_code.specs.Memory.{Bytes}
use Rattle.flat_code.specs.Routines.Metadata.{View}
use Rattle.runtime_functions.specs.declared.runtime.RuntimeFunction.{RuntimeFunction}
use Rattle.runtime_functions.specs.Runtime.{IsOfRuntime, AreOfRuntime}

-- the functions of what is left of a list complete those that are there
pub record Completes (map : MapSizes) (entry : View) (IsGood : Bytes → Type 0) (all rest : List RuntimeFunction)
    (there : List FlatFunction) : Type 0 where
  pub by : (behind : List FlatFunction) → AreOfRuntime map entry IsGood rest behind
      → AreOfRuntime map entry IsGood all (there ++ behind)

append_one : (xs : List FlatFunction) (y : FlatFunction) (zs : List FlatFunction)
    → (xs ++ y ∷ []) ++ zs ≡ xs ++ (y ∷ zs)
append_one [] y zs = refl
append_one (x ∷ xs) y zs = ap (λ l. x ∷ l) (append_one xs y zs)

append_none : (xs : List FlatFunction) → xs ++ [] ≡ xs
append_none [] = refl
append_none (x ∷ xs) = ap (λ l. x ∷ l) (append_none xs)

module _ (map : MapSizes) (entry : View) (IsGood : Bytes → Type 0) (all : List RuntimeFunction) where
  pub none_yet : (there : List FlatFunction) → there ≡ [] → Completes map entry IsGood all all there
  none_yet there e = record { by = λ gs h. subst (λ l. AreOfRuntime map entry IsGood all (l ++ gs)) (sym e) h }

  pub one_more : (rest behind : List RuntimeFunction) (f : RuntimeFunction) (there after : List FlatFunction)
      (g : FlatFunction) → rest ≡ f ∷ behind → after ≡ there ++ g ∷ [] → IsOfRuntime map entry IsGood f g
      → Completes map entry IsGood all rest there → Completes map entry IsGood all behind after
  one_more rest behind f there after g e a of h = record {
    by = λ gs others.
        subst (λ l. AreOfRuntime map entry IsGood all l) (sym (ap (λ l. l ++ gs) a ∙ append_one there g gs))
        (h.by (g ∷ gs) (subst (λ l. AreOfRuntime map entry IsGood l (g ∷ gs)) (sym e) (of, others)));
  }

  pub all_there : (rest : List RuntimeFunction) (there : List FlatFunction) → rest ≡ []
      → Completes map entry IsGood all rest there → AreOfRuntime map entry IsGood all there
  all_there rest there e h =
      subst (λ l. AreOfRuntime map entry IsGood all l) (append_none there)
      (h.by [] (subst (λ l. AreOfRuntime map entry IsGood l []) (sym e) tt))
