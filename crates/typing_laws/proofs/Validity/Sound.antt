-- Constructs that are typed one behind the other.
use Rattle.std.proofs.Common.{◌≡◌, ℕ, zero, suc, sym, ap, ◌∙◌, List, [], ◌∷◌, ◌++◌, Some}
use Rattle.std.specs.Prelude.{Ok, Err, slice_get}
use Rattle.std.proofs.lemmas.List.{append_assoc, append-nil}
use Rattle.c_tree.specs.Valid.{Scope}
use Rattle.c_faults.specs.Answer.{Answer, ◌>>=◌}
use Rattle.c_typing_state.specs.State.{State, Typing, extents}
use Rattle.typing_laws.specs.Validity.More.{AreMore}
use Rattle.typing_laws.specs.Validity.Sound.{Covers, Extended, IsFormed, Keeps, Knows, Sound}
use Rattle.typing_laws.specs.Validity.Steps.{Structures, nothing}

-- a property that stays where more structures are complete
abbrev pub Stays : (Structures → Type 0) → Type 0
Stays p = (es more : Structures) → AreMore es more → p es → p more

pub same_more : (es : Structures) → AreMore es es
same_more es = record { kept = λ n e is. is }

pub more_more : (es more most : Structures) → AreMore es more → AreMore more most → AreMore es most
more_more es more most h g = record { kept = λ n e is. g.kept n e (h.kept n e is) }

pub same_list : {A : Type 0} (xs : List A) → Extended xs xs
same_list xs = record { rest = []; is = sym (append-nil xs) }

pub longer_list : {A : Type 0} (xs ys zs : List A) → Extended xs ys → Extended ys zs → Extended xs zs
longer_list xs ys zs h g =
    record { rest = h.rest ++ g.rest; is = g.is ∙ ap (λ z. z ++ g.rest) h.is ∙ append_assoc xs h.rest g.rest }

get_longer : {A : Type 0} (xs rest : List A) (n : ℕ) (x : A) → slice_get xs n ≡ Some x
    → slice_get (xs ++ rest) n ≡ Some x
get_longer [] rest n x e = cc
get_longer (y ∷ xs) rest zero x e = e
get_longer (y ∷ xs) rest (suc n) x e = get_longer xs rest n x e

pub get_extended : {A : Type 0} (xs ys : List A) → Extended xs ys → (n : ℕ) (x : A) → slice_get xs n ≡ Some x
    → slice_get ys n ≡ Some x
get_extended xs ys h n x e = ap (λ z. slice_get z n) h.is ∙ get_longer xs h.rest n x e

pub keeps_same : (scope : Scope) (last : Structures) (s : State) → IsFormed s → Keeps scope last s s
keeps_same scope last s formed = record {
  more = same_more (extents s);
  literals = same_list s.literals;
  types = same_list s.function_types;
  knows = λ k. k;
  pending = λ n p. p;
  formed = formed;
  undefined = λ e. e;
}

pub keeps_on : (scope : Scope) (last : Structures) (s t u : State) → Keeps scope last s t → Keeps scope last t u
    → Keeps scope last s u
keeps_on scope last s t u h g = record {
  more = more_more (extents s) (extents t) (extents u) h.more g.more;
  literals = longer_list s.literals t.literals u.literals h.literals g.literals;
  types = longer_list s.function_types t.function_types u.function_types h.types g.types;
  knows = λ k. g.knows (h.knows k);
  pending = λ n p. g.pending n (h.pending n p);
  formed = g.formed;
  undefined = λ e. h.undefined (g.undefined e);
}

pub covers_back : (scope : Scope) (last : Structures) (s t : State) → Keeps scope last s t → Covers scope last t
    → Covers scope last s
covers_back scope last s t h c = record {
  more = more_more (extents s) (extents t) last h.more c.more;
  undefined = h.undefined c.undefined;
  literals = λ n l e. c.literals n l (get_extended s.literals t.literals h.literals n l e);
  types = λ n type e. c.types n type (get_extended s.function_types t.function_types h.types n type e);
}

-- one behind the other, with what was given before

abbrev pub both : {A : Type 0} → (Structures → Type 0) → (Structures → A → Type 0) → A → Structures → Type 0
both given p x es = given es × p es x

behind_first : {A B : Type 0} (scope : Scope) (last : Structures) (given : Structures → Type 0) → Stays given
    → (p : Structures → A → Type 0) (q : Structures → B → Type 0) (s t : State) (x : A)
    → (IsFormed s → Keeps scope last s t × (Knows scope last s → given (extents s) → Covers scope last t
    → p (extents t) x))
    → (b : Answer (State × B)) → Sound scope last t (both given p x) q b → Sound scope last s given q b
behind_first scope last given stays p q s t x first (Ok r) second = λ formed. (
  keeps_on scope last s t r.0 (first formed).0 (second (first formed).0.formed).0,
  λ knows g covers.
      (second (first formed).0.formed).1 ((first formed).0.knows knows) (
        stays (extents s) (extents t) (first formed).0.more g,
        (first formed).1 knows g (covers_back scope last t r.0 (second (first formed).0.formed).0 covers),
      )
      covers,
)
behind_first scope last given stays p q s t x first (Err f) second = tt

pub sound_then : {A B : Type 0} (scope : Scope) (last : Structures) (s : State) (given : Structures → Type 0)
    → Stays given → (p : Structures → A → Type 0) (q : Structures → B → Type 0) (a : Answer (State × A))
    (next : A → Typing B) → Sound scope last s given p a
    → ((t : State) (x : A) → Sound scope last t (both given p x) q (next x t))
    → Sound scope last s given q (a >>= λ r. next r.1 r.0)
sound_then scope last s given stays p q (Ok r) next first second =
    behind_first scope last given stays p q s r.0 r.1 first (next r.1 r.0) (second r.0 r.1)
sound_then scope last s given stays p q (Err f) next first second = tt

-- what holds whatever is given
pub whatever : {A : Type 0} (scope : Scope) (last : Structures) (s : State) (given : Structures → Type 0)
    (p : Structures → A → Type 0) (a : Answer (State × A)) → Sound scope last s nothing p a
    → Sound scope last s given p a
whatever scope last s given p (Ok r) is = λ formed. ((is formed).0, λ knows g covers. (is formed).1 knows tt covers)
whatever scope last s given p (Err f) is = tt

-- what is given where another property is
pub with_given : {A : Type 0} (scope : Scope) (last : Structures) (s : State) (less given : Structures → Type 0)
    (p : Structures → A → Type 0) (a : Answer (State × A)) → (given (extents s) → less (extents s))
    → Sound scope last s less p a → Sound scope last s given p a
with_given scope last s less given p (Ok r) h is =
    λ formed. ((is formed).0, λ knows g covers. (is formed).1 knows (h g) covers)
with_given scope last s less given p (Err f) h is = tt

-- what is judged in a state
abbrev pub IfAnswer : {A : Type 0} → (A → Type 0) → Answer A → Type 0
IfAnswer p (Ok x) = p x
IfAnswer p (Err f) = Unit {0}

pub sound_judged : {A : Type 0} (scope : Scope) (last : Structures) (s : State) (given : Structures → Type 0)
    (p : Structures → A → Type 0) (a : Answer A) → (Knows scope last s → given (extents s) → Covers scope last s
    → IfAnswer (p (extents s)) a)
    → Sound scope last s given p (a >>= λ x. Ok (s, x))
sound_judged scope last s given p (Ok x) is =
    λ formed. (keeps_same scope last s formed, λ knows g covers. is knows g covers)
sound_judged scope last s given p (Err f) is = tt
