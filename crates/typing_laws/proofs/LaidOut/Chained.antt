-- Constructs of a file that are typed one behind the other leave it laid out.
use Rattle.std.proofs.Common.{◌≡◌, Bool, true, false, sym, ◌∙◌}
use Rattle.std.specs.Prelude.{Ok, Err}
use Rattle.c_syntax.specs.Tree.{Expression}
use Rattle.c_faults.specs.Answer.{Answer, ◌>>=◌}
use Rattle.c_typing_state.specs.State.{State, Typing, extents, judged, ◌>>>◌}
use Rattle.c_expression_typing.specs.Constructs.{valued}
use Rattle.c_expression_typing.specs.Typed.{typed}
use Rattle.c_unit_typing.specs.Constructs.{in_scope, scope_closed, scope_opened}
use Rattle.c_unit_typing.specs.Files.{File, FileTyping, finished, in_state, ◌~>◌}
use Rattle.typing_laws.specs.Validity.Regular.{is_regular}
use Rattle.typing_laws.specs.Validity.Sound.{IsFormed}
use Rattle.typing_laws.specs.Declarators.Extending.{Extending, Extends}
use Rattle.typing_laws.specs.Declarators.Given.{ValueHasWords, anything}
use Rattle.typing_laws.proofs.Declarators.Chained.{extends_on, extends_same}
use Rattle.typing_laws.proofs.Declarators.Parameters.{within_formed}
use Rattle.typing_laws.proofs.Declarators.Recursion.{typed_extends}
use Rattle.typing_laws.proofs.Declarators.Steps.{valued_extends}
use Rattle.typing_laws.specs.Layouts.Listed.{IsLaidOut}
use Rattle.typing_laws.proofs.Layouts.Chained.{Laid, laid_out_behind, meaning_kept}
use Rattle.typing_laws.proofs.Layouts.Recursion.{typed_laid, valued_laid, within_laid}
use Rattle.typing_laws.specs.Scopes.Leaving.{FileLeads}
use Rattle.typing_laws.proofs.Scopes.Leading.{closed_leads, file_on, file_same, leads_by, names_are}
use Rattle.typing_laws.proofs.Scopes.Leading.{state_leads}
use Rattle.typing_laws.specs.LaidOut.Behind.{IfLaid}
use Rattle.typing_laws.proofs.Common.{filed}

-- scopes

pub opened_laid : (f : File) → IsLaidOut f.state → IsLaidOut (scope_opened f).state
opened_laid f laid = within_laid f.state laid

pub closed_laid : (f g : File) → FileLeads (scope_opened f) g → IsLaidOut f.state → IsLaidOut g.state
    → IsLaidOut (scope_closed g).state
closed_laid f g h laid behind = record {
  lists = behind.lists;
  names = λ name m is.
      meaning_kept (extents f.state) (extents g.state) h.state.more m
      (laid.names name m (sym (names_are f.state g.state h.state.outer h.state.outer_tags name) ∙ is));
}

-- a construct that leaves whatever file is laid out laid out
abbrev pub Lays : {A : Type 0} → FileTyping A → Type 0
Lays typing = (f : File) → IsFormed f.state → IsLaidOut f.state → IfLaid f (typing f)

pub finished_lays : {A : Type 0} (x : A) → Lays (finished x)
finished_lays x f formed laid = (file_same f formed, laid)

pub from_file : {A : Type 0} (f g : File) → FileLeads f g → (a : Answer (File × A)) → IfLaid g a → IfLaid f a
from_file f g h (Ok r) is = (file_on f g r.0 h is.0, is.1)
from_file f g h (Err e) is = tt

pub then_lays : {A B : Type 0} (f : File) (a : Answer (File × A)) (next : A → FileTyping B) → IfLaid f a
    → ((x : A) (g : File) → IsFormed g.state → IsLaidOut g.state → IfLaid g (next x g))
    → IfLaid f (a >>= λ r. next r.1 r.0)
then_lays f (Ok r) next h g = from_file f r.0 h.0 (next r.1 r.0) (g r.1 r.0 h.0.state.formed h.1)
then_lays f (Err e) next h g = tt

pub chain : {A B : Type 0} (typing : FileTyping A) (next : A → FileTyping B) → Lays typing
    → ((x : A) → Lays (next x)) → Lays (typing ~> next)
chain typing next h g f formed laid =
    then_lays f (typing f) next (h f formed laid) (λ x k is laid. g x k is laid)

scoped_by : {A : Type 0} (f : File) → IsFormed f.state → IsLaidOut f.state → (a : Answer (File × A))
    → IfLaid (scope_opened f) a → IfLaid f (a >>= λ r. Ok (scope_closed r.0, r.1))
scoped_by f formed laid (Ok r) h = (closed_leads f r.0 formed h.0, closed_laid f r.0 h.0 laid h.1)
scoped_by f formed laid (Err e) h = tt

pub scoped : {A : Type 0} (typing : FileTyping A) → Lays typing → Lays (in_scope typing)
scoped typing h f formed laid =
    scoped_by f formed laid (typing (scope_opened f))
    (h (scope_opened f) (within_formed f.state formed) (opened_laid f laid))

-- what is typed in the state of expressions and declarators

abbrev pub StateLaid : {A : Type 0} → (gives : State → A → Type 0) → State → Answer (State × A) → Type 0
StateLaid gives s (Ok r) = Extends false s r.0 × IsLaidOut r.0 × gives r.0 r.1
StateLaid gives s (Err e) = Unit {0}

abbrev pub StateLays : {A : Type 0} → Typing A → Type 0
StateLays typing = (s : State) → IsFormed s → IsLaidOut s → StateLaid anything s (typing s)

pub done_lays : {A : Type 0} (x : A) (s : State) → IsFormed s → IsLaidOut s → StateLaid anything s (Ok (s, x))
done_lays x s formed laid = (extends_same false s formed, laid, tt)

pub judged_lays : {A : Type 0} (rule : State → Answer A) → StateLays (judged rule)
judged_lays rule s formed laid = by (rule s)
  where
    by : {A : Type 0} (a : Answer A) → StateLaid anything s (a >>= λ x. Ok (s, x))
    by (Ok x) = (extends_same false s formed, laid, tt)
    by (Err f) = tt

from_state : {B : Type 0} (s t : State) → Extends false s t → (b : Answer (State × B)) → StateLaid anything t b
    → StateLaid anything s b
from_state s t h (Ok r) is = (extends_on false s t r.0 h is.0, is.1, tt)
from_state s t h (Err e) is = tt

pub state_then : {A B : Type 0} (g : State → A → Type 0) (s : State) (a : Answer (State × A)) (next : A → Typing B)
    → StateLaid g s a → ((x : A) → StateLays (next x)) → StateLaid anything s (a >>= λ r. next r.1 r.0)
state_then g s (Ok r) next h k = from_state s r.0 h.0 (next r.1 r.0) (k r.1 r.0 h.0.formed h.1)
state_then g s (Err e) next h k = tt

pub state_chain : {A B : Type 0} (typing : Typing A) (next : A → Typing B) → StateLays typing
    → ((x : A) → StateLays (next x)) → StateLays (typing >>> next)
state_chain typing next h g s formed laid = state_then anything s (typing s) next (h s formed laid) g

pub both_laid : {A : Type 0} (p q : State → A → Type 0) (s : State) (a : Answer (State × A)) → IsLaidOut s
    → Extending false s p a → Laid q a → StateLaid q s a
both_laid p q s (Ok r) laid h is = (h.0, laid_out_behind false s r.0 h.0 laid is.0, is.1)
both_laid p q s (Err e) laid h is = tt

pub value_lays : (is : Bool) (e : Expression) → is_regular e ≡ true → StateLays (valued (typed is e))
value_lays is e c s formed laid =
    both_laid ValueHasWords anything s (valued (typed is e) s) laid
    (valued_extends false s (typed is e) (typed_extends is e c s formed))
    (valued_laid s (typed is e) (typed_laid is e c s formed laid))

in_file : {A : Type 0} (g : State → A → Type 0) (f : File) (a : Answer (State × A)) → StateLaid g f.state a
    → IfLaid f (a >>= λ r. Ok (record f { state = r.0 }, r.1))
in_file g f (Ok r) h = (state_leads f r.0 (leads_by f.state r.0 h.0), h.1)
in_file g f (Err e) h = tt

pub state_lays : {A : Type 0} (typing : Typing A) → StateLays typing → Lays (in_state typing)
state_lays typing h f formed laid = in_file anything f (typing f.state) (h f.state formed laid)

-- and gives something on which what follows depends
pub in_state_then : {A B : Type 0} (p q : State → A → Type 0) (f : File) (a : Answer (State × A))
    (next : A → FileTyping B) → Extending false f.state p a → StateLaid q f.state a
    → ((x : A) (g : File) → IsFormed g.state → IsLaidOut g.state → p g.state x → q g.state x → IfLaid g (next x g))
    → IfLaid f (a >>= filed f >>= λ r. next r.1 r.0)
in_state_then p q f (Ok r) next h is k =
    let g = record f { state = r.0 } in
    from_file f g (state_leads f r.0 (leads_by f.state r.0 h.0)) (next r.1 g) (k r.1 g h.0.formed is.1 h.1 is.2)
in_state_then p q f (Err e) next h is k = tt
