-- Accesses are of live objects.
use Rattle.std.proofs.Common.{◌≡◌, ℕ, true, false, sym, ap, ◌∙◌, subst}
use Rattle.obj_memory.specs.declared.value.Value.{Value}
use Rattle.obj_memory.specs.declared.value.Place.{Place}
use Rattle.obj_memory.specs.declared.judgement.Verdict.{Verdict}
use Rattle.obj_memory.specs.declared.judgement.Verdict.TheVariants.{Outside, Dead, Inside}
use Rattle.obj_memory.specs.Judgement.{judge, named, place_in}
use Rattle.obj_memory.specs.Sound.{IsAllowed, IsSoundTag}
use Rattle.obj_memory.proofs.Judging.{judge_inside}
use Rattle.source_meaning.specs.State.{State, Gives}
use Rattle.source_meaning.specs.Actions.{located, place_or_stop}
use Rattle.source_meaning.specs.Keeping.{IsDirect}
use Rattle.source_meaning.proofs.Holding.{direct_named, direct_allowed}

found : (v : Verdict) (line : ℕ) (s s' : State) (place : Place) → place_or_stop v line s ≡ Gives place s'
    → v ≡ Inside place
found Outside line s s' place e = absurd (cc)
found Dead line s s' place e = absurd (cc)
found (Inside q) line s s' place e = let same : q ≡ place = cc in ap Inside same

pub judged_live : (functions : ℕ) (size : ℕ) (p : Value) (line : ℕ) (s s' : State) (place : Place)
    → IsSoundTag functions s.objects p.tag → located true size p line s ≡ Gives place s'
    → IsAllowed s.objects p size place
judged_live functions size p line s s' place tag e = judge_inside _ s.objects size p place tag
    (found (judge size p s.objects) line s s' place e)

same_place : (p q : Place) → Inside p ≡ Inside q → p ≡ q
same_place p q e = cc

pub named_live : (size : ℕ) (p : Value) (line : ℕ) (s s' : State) (place : Place) → IsDirect s.objects p size
    → located false size p line s ≡ Gives place s' → IsAllowed s.objects p size place
named_live size p line s s' place direct e =
    let here : Inside (place_in s.objects direct.object p.word) ≡ Inside place =
    sym (direct_named s.objects p size direct) ∙ found (named p s.objects) line s s' place e in
    subst (λ x. IsAllowed s.objects p size x) (same_place (place_in s.objects direct.object p.word) place here)
    (direct_allowed s.objects p size direct)
