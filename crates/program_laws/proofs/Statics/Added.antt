-- Constructs that add static objects to a file, one behind the other and in blocks.
use Rattle.std.proofs.Common.{◌≡◌, ℕ, true, false, refl, sym, ap, ◌∙◌, subst, List, [], ◌∷◌, ◌++◌, Option}
use Rattle.std.specs.Prelude.{Ok, Err}
use Rattle.std.proofs.lemmas.List.{append-nil, append_assoc}
use Rattle.c_tree.specs.declared.c_type.TypeWord.{TypeWord}
use Rattle.c_tree.specs.Programs.{StaticObject}
use Rattle.c_tree.specs.Valid.{Scope, at_number}
use Rattle.c_faults.specs.Answer.{Answer, ◌>>=◌}
use Rattle.c_typing_state.specs.State.{State, extents}
use Rattle.c_unit_typing.specs.Constructs.{scope_closed, scope_opened}
use Rattle.c_unit_typing.specs.Files.{File, FileTyping}
use Rattle.typing_laws.specs.Validity.More.{AreMore}
use Rattle.typing_laws.specs.Validity.Steps.{Structures}
use Rattle.typing_laws.specs.Declarators.Extending.{Extending, Extends}
use Rattle.typing_laws.proofs.LaidOut.Chained.{closed_laid}
use Rattle.typing_laws.proofs.Scopes.Leading.{closed_leads, file_on, file_same, leads_by, state_leads}
use Rattle.typing_laws.proofs.Places.Labels.{all_append}
use Rattle.typing_laws.specs.Layouts.Listed.{IfLaidOut, IsLaidOut}
use Rattle.program_laws.specs.Bodies.Standing.{Ends, IsReady, Stands}
use Rattle.program_laws.specs.Bodies.Typed.{Typed}
use Rattle.program_laws.proofs.Bodies.Chained.{no_numbers, ready_behind}
use Rattle.program_laws.proofs.Bodies.Ends.{ends_before, ends_closed, numbers_on}
use Rattle.program_laws.proofs.Bodies.Entities.{entities_on, entities_same, linked_closed, linked_extended}
use Rattle.program_laws.proofs.Bodies.Standing.{stands_closed, stands_extended, stands_opened}
use Rattle.program_laws.specs.Statics.Added.{Adds, IfAdds, StandIn, are_valid_objects, is_valid_object}
use Rattle.typing_laws.proofs.Common.{filed}

pub stand_together : (function : Option ℕ) (xs ys : List (ℕ × StaticObject)) → StandIn function xs
    → StandIn function ys → StandIn function (xs ++ ys)
stand_together function [] ys h g = g
stand_together function (x ∷ xs) ys h g = (h.0, stand_together function xs ys h.1 g)

module _ (result : List TypeWord) where
  pub adds_same : (f : File) → IsReady f.state → Adds result f f
  adds_same f ready = record {
    leads = file_same f ready.formed;
    ready = ready;
    numbers = [];
    numbered = no_numbers f f refl refl;
    entities = entities_same f.state.environment f.state.environment refl;
    objects = [];
    is = sym (append-nil f.statics);
    standing = tt;
    sound = λ scope last wide stands ends. (stands, refl);
  }

  pub adds_on : (f g h : File) → Adds result f g → Adds result g h → Adds result f h
  adds_on f g h a b = record {
    leads = file_on f g h a.leads b.leads;
    ready = b.ready;
    numbers = a.numbers ++ b.numbers;
    numbered = numbers_on a.numbers b.numbers f g h a.numbered b.numbered;
    entities = entities_on f.state.environment g.state.environment h.state.environment a.entities b.entities;
    objects = a.objects ++ b.objects;
    is = b.is ∙ ap (λ z. z ++ b.objects) a.is ∙ append_assoc f.statics a.objects b.objects;
    standing = stand_together f.state.function a.objects b.objects a.standing
        (subst (λ z. StandIn z b.objects) a.leads.state.function b.standing);
    sound = λ scope last wide stands ends.
        (let one = a.sound scope last wide stands
        (ends_before scope last result g h b.numbers b.leads b.numbered b.entities ends) in
        let two = b.sound scope last wide one.0 ends in (
          two.0,
          all_append (is_valid_object scope) a.objects b.objects one.1 two.1,
        ));
  }

  -- what is typed in the state of expressions and declarators
  pub adds_state : (f : File) (t : State) → IsReady f.state → Extends false f.state t → IsLaidOut t
      → Adds result f (record f { state = t })
  adds_state f t ready h laid =
      let g = record f { state = t } in
      let leads = state_leads f t (leads_by f.state t h) in
      record {
        leads = leads;
        ready = ready_behind f g leads ready (linked_extended f.state t h ready.linked) laid;
        numbers = [];
        numbered = no_numbers f g (h.variables refl) refl;
        entities = entities_same f.state.environment t.environment h.entities;
        objects = [];
        is = sym (append-nil f.statics);
        standing = tt;
        sound = λ scope last wide stands ends. (stands_extended scope last f.state t h stands, refl);
      }

  pub adds_closed : (f g : File) → IsReady f.state → Adds result (scope_opened f) g → Adds result f (scope_closed g)
  adds_closed f g ready h =
      let leads = closed_leads f g ready.formed h.leads in
      record {
        leads = leads;
        ready = ready_behind f (scope_closed g) leads ready
            (linked_closed f g h.leads ready.linked (record { each = h.entities.each }) h.ready.linked)
            (closed_laid f g h.leads ready.laid h.ready.laid);
        numbers = h.numbers;
        numbered = record {
          counted = h.numbered.counted;
          count = h.numbered.count;
          made = h.numbered.made;
        };
        entities = record { each = h.entities.each };
        objects = h.objects;
        is = h.is;
        standing = h.standing;
        sound = λ scope last wide stands ends. (
          stands_closed scope last f g h.leads stands,
          (h.sound scope last wide (stands_opened scope last f stands) (ends_closed scope last result g ends)).1,
        );
      }

  -- where all variables can be named, so can those that a construct opens
  pub adds_typed : {A : Type 0} (made opens : A → List ℕ) (p : Scope → A → Type 0) (f : File) (r : File × A)
      → IsReady f.state → Typed result made opens p f r → (objects : List (ℕ × StaticObject))
      → r.0.statics ≡ f.statics ++ objects → StandIn f.state.function objects
      → ((scope : Scope) (last : Structures) → Stands scope last f.state → Ends scope last result r.0
      → are_valid_objects scope objects ≡ true)
      → Adds result f r.0
  adds_typed made opens p f r ready h objects is standing valid = record {
    leads = h.leads;
    ready = ready_behind f r.0 h.leads ready h.linked h.laid;
    numbers = made r.1;
    numbered = h.numbers;
    entities = h.entities;
    objects = objects;
    is = is;
    standing = standing;
    sound = λ scope last wide stands ends. (
      (h.sound scope last stands ends (λ n among. ap (λ vs. at_number vs n) wide)).1.0,
      valid scope last stands ends,
    );
  }

  -- answers

  pub from_file : {A : Type 0} (f g : File) → Adds result f g → (a : Answer (File × A)) → IfAdds result g a
      → IfAdds result f a
  from_file f g h (Ok r) is = adds_on f g r.0 h is
  from_file f g h (Err e) is = tt

  pub state_then : {A B : Type 0} (e w : State → A → Type 0) (f : File) → IsReady f.state → (a : Answer (State × A))
      (next : A → FileTyping B) → Extending false f.state e a → IfLaidOut w a
      → ((x : A) (g : File) → AreMore (extents f.state) (extents g.state) → IsReady g.state → e g.state x
      → w g.state x → IfAdds result g (next x g))
      → IfAdds result f (a >>= filed f >>= λ r. next r.1 r.0)
  state_then e w f ready (Ok r) next h laid then =
      let g = record f { state = r.0 } in
      let adds = adds_state f r.0 ready h.0 laid.0 in
      from_file f g adds (next r.1 g) (then r.1 g h.0.more adds.ready h.1 laid.1)
  state_then e w f ready (Err x) next h laid then = tt
