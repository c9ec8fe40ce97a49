-- Constructs that are typed one behind the other keep states laid out.
use Rattle.std.proofs.Common.{◌≡◌, Bool, sym, ap, ◌∙◌, subst, List, Option, Some}
use Rattle.std.specs.Prelude.{Ok, Err}
use Rattle.c_tree.specs.Extents.{TypeExtent}
use Rattle.c_faults.specs.Answer.{Answer, ◌>>=◌}
use Rattle.c_scope.specs.declared.meaning.Designated.TheVariants as what
use Rattle.c_scope.specs.declared.meaning.Meaning.{Meaning}
use Rattle.c_scope.specs.declared.meaning.Meaning.TheVariants as meaning
use Rattle.c_scope.specs.Names.{declared, found, or_else}
use Rattle.c_current_object.specs.Members.{lists_in}
use Rattle.c_typing_state.specs.State.{State, Typing, extents}
use Rattle.typing_laws.specs.Validity.More.{AreMore}
use Rattle.typing_laws.proofs.Validity.Common.{the_same}
use Rattle.typing_laws.proofs.Validity.Sound.{IfAnswer}
use Rattle.typing_laws.specs.Declarators.Extending.{Extending, Extends, IsNew, IsSameOr, new, same}
use Rattle.typing_laws.specs.Layouts.Listed.{AreListed, HasArraysIn, IfLaidOut, IsLaidOut}
use Rattle.typing_laws.proofs.Layouts.Arrays.{arrays_kept}

-- the members that are listed in a state

abbrev pub HasLists : State → Type 0
HasLists s = AreListed (extents s) (lists_in s.environment.structures)

abbrev pub Laid : {A : Type 0} → (gives : State → A → Type 0) → Answer (State × A) → Type 0
Laid gives (Ok r) = HasLists r.0 × gives r.0 r.1
Laid gives (Err f) = Unit {0}

-- only enumerators and parameters are new where typing extends a state

pub new_arrays : (b : Bool) (es : List (Option TypeExtent)) (m : Meaning) → IsNew b m → HasArraysIn es m
new_arrays b es (meaning.Constant w) is = tt
new_arrays b es (meaning.Typedef type) is = absurd cc
new_arrays b es (meaning.Named (what.Variable n) type) is = λ linked. absurd cc
new_arrays b es (meaning.Named (what.Object n) type) is = absurd cc
new_arrays b es (meaning.Named (what.Static n) type) is = absurd cc
new_arrays b es (meaning.Named (what.Function n) type) is = absurd cc
new_arrays b es (meaning.Named (what.Library f) type) is = absurd cc

pub meaning_kept : (es more : List (Option TypeExtent)) → AreMore es more → (m : Meaning) → HasArraysIn es m
    → HasArraysIn more m
meaning_kept es more h (meaning.Typedef type) is = arrays_kept es more h type is
meaning_kept es more h (meaning.Constant w) is = tt
meaning_kept es more h (meaning.Named d type) is = λ linked. record {
  arrays = arrays_kept es more h type (is linked).arrays;
  sized = (is linked).sized;
}

-- what holds of the names before and of what is new holds of those behind
pub either_meaning : (N : Meaning → Type 0) (P : Meaning → Type 0) (before behind around : Option Meaning)
    → IsSameOr N before behind → ((m : Meaning) → or_else before around ≡ Some m → P m)
    → ((m : Meaning) → N m → P m) → (m : Meaning) → or_else behind around ≡ Some m → P m
either_meaning N P before behind around (same e) h g m is = h m (ap (λ z. or_else z around) (sym e) ∙ is)
either_meaning N P before behind around (new x e p) h g m is =
    subst P (the_same (ap (λ z. or_else z around) (sym e) ∙ is)) (g x p)

pub laid_out_behind : (b : Bool) (s t : State) → Extends b s t → IsLaidOut s → HasLists t → IsLaidOut t
laid_out_behind b s t h laid lists = record {
  lists = lists;
  names = λ name m is.
      either_meaning (IsNew b) (HasArraysIn (extents t)) (declared name s.environment.names.current)
      (declared name t.environment.names.current) (found name s.environment.names.outer) (h.names name)
      (λ m is. meaning_kept (extents s) (extents t) h.more m (laid.names name m is)) (new_arrays b (extents t)) m
      (ap (λ z. or_else (declared name t.environment.names.current) (found name z)) (sym h.outer) ∙ is);
}

-- one behind the other

pub then_laid : {A B : Type 0} (b : Bool) (s : State) → IsLaidOut s → (p g : State → A → Type 0)
    (q : State → B → Type 0) (a : Answer (State × A)) (next : A → Typing B) → Extending b s p a → Laid g a
    → ((t : State) (x : A) → Extends b s t → p t x → IsLaidOut t → g t x → Laid q (next x t))
    → Laid q (a >>= λ r. next r.1 r.0)
then_laid b s laid p g q (Ok r) next h is k =
    k r.0 r.1 h.0 h.1 (laid_out_behind b s r.0 h.0 laid is.0) is.1
then_laid b s laid p g q (Err f) next h is k = tt

pub then_lists : {A B : Type 0} (g : State → A → Type 0) (q : State → B → Type 0) (a : Answer (State × A))
    (next : A → Typing B) → Laid g a → ((t : State) (x : A) → HasLists t → g t x → Laid q (next x t))
    → Laid q (a >>= λ r. next r.1 r.0)
then_lists g q (Ok r) next is k = k r.0 r.1 is.0 is.1
then_lists g q (Err f) next is k = tt

pub judged_laid : {A : Type 0} (s : State) → HasLists s → (q : State → A → Type 0) (a : Answer A)
    → IfAnswer (q s) a → Laid q (a >>= λ x. Ok (s, x))
judged_laid s lists q (Ok x) is = (lists, is)
judged_laid s lists q (Err f) is = tt

pub to_laid_out : {A : Type 0} (b : Bool) (s : State) → IsLaidOut s → (p q : State → A → Type 0)
    (a : Answer (State × A)) → Extending b s p a → Laid q a → IfLaidOut q a
to_laid_out b s laid p q (Ok r) h is = (laid_out_behind b s r.0 h.0 laid is.0, is.1)
to_laid_out b s laid p q (Err f) h is = tt
