-- A part of a text, and then the rest of it.
use Rattle.std.proofs.Common.{◌≡◌, ℕ, zero, suc, ◌≤◌, ◌<◌, true, false, [], ◌∷◌, ◌++◌, length, drop, Result, Ok, Err}
use Rattle.std.proofs.Common.{refl, sym, ap, ◌∙◌, append_assoc, append-nil, nat_le, length-append, arith, if◌then◌else◌}
use Rattle.std.proofs.Common.{⊎_elim, subst}
use Rattle.std.proofs.lemmas.Bool.{leb-false, lt-leb, le-leb, cases_Bool}
use Rattle.c_pre.specs.declared.fault.PreFault.{PreFault}
use Rattle.c_pre.specs.declared.fault.PreFaultKind.{PreFaultKind}
use Rattle.c_pre.specs.declared.fault.PreFaultKind.TheVariants.{TooMany}
use Rattle.c_pre.specs.declared.fault.PreError.{PreError}
use Rattle.c_pre.specs.declared.fault.PreError.TheVariants.{Memory, Fault}
use Rattle.c_pre.specs.Limits.{max_expanded_tokens}
use Rattle.c_pre.specs.Lines.{Tokens}
use Rattle.c_pre.specs.Trace.{Trace, after, goes_on, quiet, ◌>>=◌, ended, answer, line_of, fault_at, fails}
use Rattle.c_pre.specs.Outcomes.{Fails, Stops, Steps, Emits}

-- what was given before two parts stands before both
pub after_after : {A : Type 0} (a b : Tokens) (t : Trace A) → after a (after b t) ≡ after (a ++ b) t
after_after a b t = ap (λ given. record { given = given; end = t.end }) (sym (append_assoc a b t.given))

pub after_bind : {A B : Type 0} (a : Tokens) (t : Trace A) (go : A → Trace B) → after a (t >>= go) ≡ (after a t >>= go)
after_bind a t go = by_end t.given t.end
  where
    by_end : (given : Tokens) (end : Result _ PreFault) → after a (goes_on given end go) ≡ goes_on (a ++ given) end go
    by_end given (Ok x) = after_after a given (go x)
    by_end given (Err fault) = refl

-- a part that was read to its end
pub bind_read : {A B : Type 0} (a b : Tokens) (t : Trace A) (go : A → Trace B) (x : A)
    → after a t ≡ record { given = b; end = Ok x } → after a (t >>= go) ≡ after b (go x)
bind_read a b t go x e = after_bind a t go ∙ ap (λ u. u >>= go) e

line_of-drop : (n : ℕ) (g h : Tokens) → n < length g → line_of (drop n (g ++ h)) ≡ line_of (drop n g)
line_of-drop n [] h b = absurd (omega arith)
line_of-drop zero (t ∷ g) h b = refl
line_of-drop (suc n) (t ∷ g) h b = line_of-drop n g h (omega arith)

-- more tokens behind too many change nothing
too_many-append : {X : Type 0} (n : ℕ) (g h : Tokens) (x : Result X PreFault) → nat_le (length g) n ≡ false
    → (if nat_le (length (g ++ h)) n then x else Err (fault_at (line_of (drop n (g ++ h))) TooMany))
    ≡ Err (fault_at (line_of (drop n g)) TooMany)
too_many-append n g h x b =
    let l : n < length g = leb-false (length g) n b in
    let m : nat_le (length (g ++ h)) n ≡ false = lt-leb (length (g ++ h)) n (omega (arith, length-append g h)) in
    rw (m, line_of-drop n g h l)

answered : {A B : Type 0} (n : ℕ) (g : Tokens) (end : Result A PreFault) (go : A → Trace B) (fault : PreFault)
    → (if nat_le (length g) n then ended g end else Err (fault_at (line_of (drop n g)) TooMany)) ≡ Err fault
    → (if nat_le (length (goes_on g end go).given) n then ended (goes_on g end go).given (goes_on g end go).end
    else Err (fault_at (line_of (drop n (goes_on g end go).given)) TooMany)) ≡ Err fault
answered n g (Err e) go fault h = h
answered {A} {B} n g (Ok x) go fault h =
    ⊎_elim
    (λ (e : nat_le (length g) n ≡ true). absurd (let w = rw e at h in cc))
    (λ (e : nat_le (length g) n ≡ false). let w = rw e at h in too_many-append n g (go x).given _ e ∙ cc)
    (cases_Bool (nat_le (length g) n))

-- an answer that is a fault stays, whatever follows
pub bind_failed : {A B : Type 0} (a : Tokens) (t : Trace A) (go : A → Trace B) (error : PreError)
    → Fails (after a t) error → Fails (after a (t >>= go)) error
unfolding answer
bind_failed a t go Memory h = h
bind_failed a t go (Fault fault) h = ap answer (after_bind a t go)
    ∙ answered max_expanded_tokens (a ++ t.given) t.end go fault h

-- a fault before which not too many tokens were given
pub fault_here : (A : Type 0) (a : Tokens) (line : ℕ) (kind : PreFaultKind) → length a ≤ max_expanded_tokens
    → answer (after {A = A} a (fails line kind)) ≡ Err (fault_at line kind)
unfolding answer
fault_here A a line kind few =
    let b : nat_le (length (a ++ [])) max_expanded_tokens
    ≡ true = le-leb (length (a ++ [])) max_expanded_tokens (omega (arith, length-append a [])) in
    rw b refl

pub stopped : {A : Type 0} (t : Trace A) (old : Tokens) (error : PreError) → length old ≤ max_expanded_tokens
    → Stops t error → Fails (after old t) error
stopped t old Memory few h = h
stopped {A} t old (Fault fault) few h = ap (λ t. answer (after old t)) h ∙ fault_here A old fault.line fault.kind few

-- a part that gives no tokens
pub quiet_follows : {A X : Type 0} (t : Trace A) (view : X → A) (old : Tokens) (result : Result X PreError)
    → length old ≤ max_expanded_tokens → Steps t view result → Emits t view old old result
quiet_follows t view old (Ok x) few h =
    (ap (after old) h ∙ ap (λ given. record { given = given; end = Ok (view x) }) (append-nil old), few)
quiet_follows t view old (Err error) few h = stopped t old error few h

-- a part that gives no tokens, what it makes of its value, and the rest
pub bind_bind : {A B C : Type 0} (t : Trace A) (next : A → Trace B) (go : B → Trace C) (made : A → B)
    → ((x : A) → next x ≡ quiet (made x)) → ((t >>= next) >>= go) ≡ (t >>= λ x. go (made x))
bind_bind {A} {B} {C} t next go made e = by_end t.given t.end
  where
    by_value : (given : Tokens) (u : Trace B) (x : A) → u ≡ quiet (made x)
        → goes_on (given ++ u.given) u.end go ≡ after given (go (made x))
    by_value given u x h = subst (λ u. goes_on (given ++ u.given) u.end go ≡ after given (go (made x))) (sym h)
        (ap (λ g. after g (go (made x))) (append-nil given))

    by_end : (given : Tokens) (end : Result A PreFault)
        → goes_on (goes_on given end next).given (goes_on given end next).end go
        ≡ goes_on given end (λ x. go (made x))
    by_end given (Ok x) = by_value given (next x) x (e x)
    by_end given (Err fault) = refl
