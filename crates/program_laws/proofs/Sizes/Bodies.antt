-- States behind which structures and unions keep their numbers and tags, and their members stay laid out.
use Rattle.std.proofs.Common.{false, List}
use Rattle.std.specs.Prelude.{Ok, Err}
use Rattle.c_faults.specs.Answer.{Answer}
use Rattle.c_scope.specs.Structures.{Body}
use Rattle.c_typing_state.specs.State.{State}
use Rattle.c_expression_typing.specs.Constructs.{valued}
use Rattle.c_expression_typing.specs.Typed.{typed}
use Rattle.typing_laws.specs.Validity.Sound.{IsFormed}
use Rattle.typing_laws.specs.Declarators.Extending.{Extending, Extends}
use Rattle.typing_laws.specs.Declarators.Given.{ValueHasWords, anything}
use Rattle.typing_laws.proofs.Declarators.Chained.{extends_on, extends_same}
use Rattle.typing_laws.specs.Layouts.Listed.{IsLaidOut}
use Rattle.typing_laws.proofs.LaidOut.Chained.{StateLaid, value_lays}
use Rattle.typing_laws.proofs.Scopes.Initializers.{IfBehind, ValueWalk, value_extends}
use Rattle.program_laws.specs.Sizes.Tags.{BodiesStay}
use Rattle.program_laws.proofs.Tags.Keeping.{KeepsTags, keeps_on, keeps_same}
use Rattle.program_laws.proofs.Tags.Walked.{tags_walk}
use Rattle.typing_laws.proofs.Walks.Recursion.{typed_walks}
use Rattle.typing_laws.proofs.Walks.Steps.{valued_walks}

pub bodies_same : (bodies : List Body) → BodiesStay bodies bodies
bodies_same bodies = record { each = λ n tag e. e }

pub bodies_on : (xs ys zs : List Body) → BodiesStay xs ys → BodiesStay ys zs → BodiesStay xs zs
bodies_on xs ys zs h g = record { each = λ n tag e. g.each n tag (h.each n tag e) }

-- states that extend the one before, and stay laid out
pub record Reaches (s behind : State) : Type 0 where
  pub extends : Extends false s behind
  pub tags : KeepsTags s behind
  pub laid : IsLaidOut s → IsLaidOut behind

pub reaches_same : (s : State) → IsFormed s → Reaches s s
reaches_same s formed = record {
  extends = extends_same false s formed;
  tags = keeps_same s;
  laid = λ h. h;
}

pub reaches_on : (s t u : State) → Reaches s t → Reaches t u → Reaches s u
reaches_on s t u h g = record {
  extends = extends_on false s t u h.extends g.extends;
  tags = keeps_on s t u h.tags g.tags;
  laid = λ x. g.laid (h.laid x);
}

pub reached : {A : Type 0} (s : State) (p q : State → A → Type 0) (a : Answer (State × A)) → Extending false s p a
    → IfBehind KeepsTags s a → (IsLaidOut s → StateLaid q s a) → IfBehind Reaches s a
reached s p q (Ok r) h k l = record { extends = h.0; tags = k; laid = λ x. (l x).1 }
reached s p q (Err f) h k l = tt

pub reaching_walk : ValueWalk Reaches
reaching_walk = record {
  same = reaches_same;
  on = reaches_on;
  formed = λ s t h. h.extends.formed;
  value = λ is e c s formed.
      reached s ValueHasWords anything (valued (typed is e) s) (value_extends is e c s formed)
      (valued_walks {walk = tags_walk} (typed is e) s (typed_walks tags_walk is e s)).by
      (λ laid. value_lays is e c s formed laid);
}
