-- A judged access passes both tests, and then names its object.
use Rattle.std.proofs.Common.{◌≡◌, ℕ, Bool, true, false, if◌then◌else◌, refl}
use Rattle.obj_memory.specs.declared.value.Bounds.{Bounds}
use Rattle.obj_memory.specs.declared.value.Tag.{Tag}
use Rattle.obj_memory.specs.declared.value.Tag.TheVariants.{Untagged, OfFunction, OfObject}
use Rattle.obj_memory.specs.declared.value.Value.{Value}
use Rattle.obj_memory.specs.declared.value.Place.{Place}
use Rattle.obj_memory.specs.declared.judgement.Verdict.TheVariants.{Outside, Dead, Inside}
use Rattle.obj_memory.specs.Objects.{object_at}
use Rattle.obj_memory.specs.Judgement.{are_within, place_in, judge, judged, named, named_in}
use Rattle.sb_base.specs.declared.ending.Ending.TheVariants.{Spatial, Temporal}
use Rattle.source_meaning.specs.State.{State, Outcome, on}
use Rattle.source_meaning.specs.Actions.{place_or_stop, located}
use Rattle.source_meaning.specs.Blocks.{pass_or_stop}
use Rattle.source_meaning.specs.Judging.{is_within, is_live_tag, tested}

module _ (size : ℕ) (word line : ℕ) (s : State) where
  abbrev Tested : (t : Tag) → Outcome Place
  Tested t = on (pass_or_stop (is_within t word size) (Spatial line) s)
      (λ _ s1. on (pass_or_stop (is_live_tag t s1.objects) (Temporal line) s1)
      (λ _ s2. place_or_stop (named_in t word s2.objects) line s2))

  by_life : (o : ℕ) (b : Bounds) (live : Bool)
      → place_or_stop (if live then Inside (place_in s.objects o word) else Dead) line s
      ≡ on (pass_or_stop live (Temporal line) s)
      (λ _ s2. place_or_stop (named_in (OfObject o b) word s2.objects) line s2)
  by_life o b true = refl
  by_life o b false = refl

  by_bounds : (o : ℕ) (b : Bounds) (within : Bool)
      → place_or_stop (if within then
      (if (object_at s.objects o).is_live then Inside (place_in s.objects o word) else Dead) else Outside) line s
      ≡ on (pass_or_stop within (Spatial line) s)
      (λ _ s1. on (pass_or_stop (object_at s1.objects o).is_live (Temporal line) s1)
      (λ _ s2. place_or_stop (named_in (OfObject o b) word s2.objects) line s2))
  by_bounds o b true = by_life o b (object_at s.objects o).is_live
  by_bounds o b false = refl

  by_tag : (t : Tag) → place_or_stop (judged size t word s.objects) line s ≡ Tested t
  by_tag Untagged = refl
  by_tag (OfFunction f) = refl
  by_tag (OfObject o b) = by_bounds o b (are_within b word size)

pub two_tests : (size : ℕ) (v : Value) (line : ℕ) (s : State) → located true size v line s ≡ tested size v line s
unfolding judge named
two_tests size v line s = by_tag size v.word line s v.tag
