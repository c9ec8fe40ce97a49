-- Constructs that are typed one behind the other, where something is known of the state.
use Rattle.std.proofs.Common.{◌≡◌, Bool, true, false}
use Rattle.std.specs.Prelude.{Ok, Err}
use Rattle.c_syntax.specs.Tree.{Expression}
use Rattle.c_tree.specs.Valid.{Scope}
use Rattle.c_faults.specs.Answer.{Answer, ◌>>=◌}
use Rattle.c_rules.specs.Fine.{IsFine}
use Rattle.c_rules.specs.Values.{Value}
use Rattle.c_place_rules.specs.Operands.{Operand}
use Rattle.c_operand_typing.specs.Operators.{as_value, value_among}
use Rattle.c_typing_state.specs.State.{State, Typing, extents}
use Rattle.c_expression_typing.specs.Constructs.{valued}
use Rattle.c_expression_typing.specs.Typed.{typed}
use Rattle.typing_laws.specs.Validity.Regular.{is_regular}
use Rattle.typing_laws.specs.Validity.Sound.{Covers, IsFormed, Keeps, Knows, Sound}
use Rattle.typing_laws.specs.Validity.Steps.{FineValue, Structures, nothing}
use Rattle.typing_laws.proofs.Validity.Expressions.{typed_sound}
use Rattle.typing_laws.proofs.Validity.PointerCalls.{pointer_calls}
use Rattle.typing_laws.proofs.Validity.Sound.{IfAnswer, Stays, both, covers_back, keeps_on, keeps_same}
use Rattle.typing_laws.proofs.Validity.Steps.{nothing_stays, valued_sound}
use Rattle.typing_laws.proofs.Declarators.Known.{type_names}
use Rattle.typing_laws.specs.Initializers.Giving.{AreKnown, ExpressionsKeep, Gives, Giving, IfKept, IsFineIf}

-- what is known of names in a state and behind one after it

known_before : (is_known : Bool) (scope : Scope) (last : Structures) (s t u : State) → Keeps scope last t u
    → AreKnown is_known scope last s u → AreKnown is_known scope last s t
known_before true scope last s t u h names = (names.0, covers_back scope last t u h names.1)
known_before false scope last s t u h names = tt

known_behind : (is_known : Bool) (scope : Scope) (last : Structures) (s t u : State) → Keeps scope last s t
    → AreKnown is_known scope last s u → AreKnown is_known scope last t u
known_behind true scope last s t u h names = (h.knows names.0, names.1)
known_behind false scope last s t u h names = tt

fine_by : (is_known : Bool) (scope : Scope) (last : Structures) (s t : State) (is : Bool) (v : Value)
    → (Knows scope last s → Unit {0} → Covers scope last t → is ≡ true → IsFine scope (extents t) v)
    → AreKnown is_known scope last s t → is ≡ true → IsFineIf is_known scope (extents t) v
fine_by true scope last s t is v h names e = h names.0 tt names.1 e
fine_by false scope last s t is v h names e = tt

module _ (is_known : Bool) (scope : Scope) (last : Structures) (Known : State → Type 0) where
  then_first : {A B : Type 0} (given : Structures → Type 0) → Stays given → (p : Structures → A → Type 0)
      (q : Structures → B → Type 0) (s t : State) (x : A)
      → (IsFormed s → Gives is_known scope last Known s given p (t, x)) → (b : Answer (State × B))
      → Giving is_known scope last Known t (both given p x) q b → Giving is_known scope last Known s given q b
  then_first given stays p q s t x first (Ok r) second = λ formed.
      let h = first formed in
      let g = second h.keeps.formed in
      record {
        keeps = keeps_on scope last s t r.0 h.keeps g.keeps;
        known = λ k. g.known (h.known k);
        has = λ names k is.
            g.has (known_behind is_known scope last s t r.0 h.keeps names) (h.known k) (
              stays (extents s) (extents t) h.keeps.more is,
              h.has (known_before is_known scope last s t r.0 g.keeps names) k is,
            );
      }
  then_first given stays p q s t x first (Err f) second = tt

  pub giving_then : {A B : Type 0} (s : State) (given : Structures → Type 0) → Stays given
      → (p : Structures → A → Type 0) (q : Structures → B → Type 0) (a : Answer (State × A)) (next : A → Typing B)
      → Giving is_known scope last Known s given p a
      → ((t : State) (x : A) → Giving is_known scope last Known t (both given p x) q (next x t))
      → Giving is_known scope last Known s given q (a >>= λ r. next r.1 r.0)
  giving_then s given stays p q (Ok r) next first second =
      then_first given stays p q s r.0 r.1 first (next r.1 r.0) (second r.0 r.1)
  giving_then s given stays p q (Err f) next first second = tt

  -- where only what the first gives is wanted
  only_first : {A B : Type 0} (given : Structures → Type 0) (p : Structures → A → Type 0)
      (q : Structures → B → Type 0) (s t : State) (x : A)
      → (IsFormed s → Gives is_known scope last Known s given p (t, x)) → (b : Answer (State × B))
      → Giving is_known scope last Known t (λ es. p es x) q b → Giving is_known scope last Known s given q b
  only_first given p q s t x first (Ok r) second = λ formed.
      let h = first formed in
      let g = second h.keeps.formed in
      record {
        keeps = keeps_on scope last s t r.0 h.keeps g.keeps;
        known = λ k. g.known (h.known k);
        has = λ names k is.
            g.has (known_behind is_known scope last s t r.0 h.keeps names) (h.known k)
            (h.has (known_before is_known scope last s t r.0 g.keeps names) k is);
      }
  only_first given p q s t x first (Err f) second = tt

  pub then_only : {A B : Type 0} (s : State) (given : Structures → Type 0) (p : Structures → A → Type 0)
      (q : Structures → B → Type 0) (a : Answer (State × A)) (next : A → Typing B)
      → Giving is_known scope last Known s given p a
      → ((t : State) (x : A) → Giving is_known scope last Known t (λ es. p es x) q (next x t))
      → Giving is_known scope last Known s given q (a >>= λ r. next r.1 r.0)
  then_only s given p q (Ok r) next first second =
      only_first given p q s r.0 r.1 first (next r.1 r.0) (second r.0 r.1)
  then_only s given p q (Err f) next first second = tt

  -- what leaves the state

  pub giving_judged : {A : Type 0} (s : State) (given : Structures → Type 0) (p : Structures → A → Type 0)
      (a : Answer A) → (Known s → given (extents s) → IfAnswer (p (extents s)) a)
      → Giving is_known scope last Known s given p (a >>= λ x. Ok (s, x))
  giving_judged s given p (Ok x) is = λ formed. record {
    keeps = keeps_same scope last s formed;
    known = λ k. k;
    has = λ names k g. is k g;
  }
  giving_judged s given p (Err f) is = tt

  pub giving_done : {A : Type 0} (s : State) (given : Structures → Type 0) (p : Structures → A → Type 0) (x : A)
      → (given (extents s) → p (extents s) x) → Giving is_known scope last Known s given p (Ok (s, x))
  giving_done s given p x h = λ formed. record {
    keeps = keeps_same scope last s formed;
    known = λ k. k;
    has = λ names k g. h g;
  }

  pub weaker_given : {A : Type 0} (s : State) (less given : Structures → Type 0) (p : Structures → A → Type 0)
      (a : Answer (State × A)) → ((es : Structures) → given es → less es) → Giving is_known scope last Known s less p a
      → Giving is_known scope last Known s given p a
  weaker_given s less given p (Ok r) h is = λ formed.
      let g = is formed in
      record {
        keeps = g.keeps;
        known = g.known;
        has = λ names k x. g.has names k (h (extents s) x);
      }
  weaker_given s less given p (Err f) h is = tt

  -- the value of an expression

  valued_kept : (s : State) (operand : Typing Operand) (a : Answer (State × Operand)) → IfKept Known s a
      → IfKept Known s (a >>= λ r. as_value r.1 r.0)
  valued_kept s operand (Ok r) h = by (value_among (extents r.0) r.1)
    where
      by : (v : Answer Value) → IfKept Known s (v >>= λ x. Ok (r.0, x))
      by (Ok v) = h
      by (Err f) = tt
  valued_kept s operand (Err f) h = tt

  abbrev pub IsFineValue : (is_evaluated : Bool) → Structures → Value → Type 0
  IsFineValue is es v = is ≡ true → IsFineIf is_known scope es v

  from_sound : (s : State) (given : Structures → Type 0) (is : Bool) (a : Answer (State × Value))
      → Sound scope last s nothing (FineValue scope is) a → (IsFormed s → IfKept Known s a)
      → Giving is_known scope last Known s given (IsFineValue is) a
  from_sound s given is (Ok r) h kept = λ formed.
      let g = h formed in
      record {
        keeps = g.0;
        known = kept formed;
        has = λ names k x. fine_by is_known scope last s r.0 is r.1 g.1 names;
      }
  from_sound s given is (Err f) h kept = tt

  pub value_given : ExpressionsKeep Known → (is : Bool) (e : Expression) → is_regular e ≡ true → (s : State)
      (given : Structures → Type 0)
      → Giving is_known scope last Known s given (IsFineValue is) (valued (typed is e) s)
  value_given keep is e c s given =
      from_sound s given is (valued (typed is e) s)
      (valued_sound scope last s nothing nothing_stays is (typed is e)
      (typed_sound scope last (type_names scope last) (pointer_calls scope last) is e c s))
      (λ formed. valued_kept s (typed is e) (typed is e s) (keep.each is e c s formed))
