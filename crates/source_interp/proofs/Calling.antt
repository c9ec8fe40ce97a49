-- What a call tests and lays out, and what its caller gets back.
use Rattle.std.proofs.Common.{◌≡◌, ℕ, suc, ◌+◌, ◌<◌, ◌≤◌, sym, ap, subst, refl, ◌∙◌, Ok, Err, Bool, true, false, nat_le}
use Rattle.std.proofs.Common.{List, [], ◌∷◌, ◌++◌, length, drop, map, Some, None, if◌then◌else◌, ⊎_elim, arith}
use Rattle.std.specs.Prelude.{Result, Option, get_or, replicate}
use Rattle.std.proofs.lemmas.Bool.{cases_lt}
use Rattle.std.proofs.lemmas.List.{append_assoc, drop_all, drop_more, get_or_past}
use Rattle.sb_base.specs.declared.ending.Ending.TheVariants.{Stack}
use Rattle.obj_memory.specs.declared.value.Value.{Value}
use Rattle.c_tree.specs.declared.expression.Kind.{Kind}
use Rattle.c_tree.specs.declared.program.Variable.{Variable}
use Rattle.source_meaning.specs.State.{State, Home, NoObject, InObject, Gives, Rvalue, Run, ◌>>◌, on, Setting, Header}
use Rattle.source_meaning.specs.State.{change, done, read_state}
use Rattle.source_meaning.specs.Actions.{integer}
use Rattle.source_meaning.specs.Blocks.{pass_or_stop, without_homes}
use Rattle.source_meaning.specs.Structures.{rvalue}
use Rattle.source_meaning.specs.Calls.{Caller, back_to, caller, first_of}
use Rattle.source_meaning.specs.Calls.{parameter_count, parameter_values, rest_of, test_charge}
use Rattle.source_meaning.specs.Calls.{write_parameter, write_parameters}
use Rattle.source_interp.specs.declared.limits.Limits.{Limits}
use Rattle.source_interp.specs.declared.machine.Machine.{Machine}
use Rattle.source_interp.specs.declared.stop.Cause.TheVariants as cause
use Rattle.source_interp.specs.declared.stop.Stop.{Stop}
use Rattle.source_interp.specs.declared.stop.Stop.TheVariants as stopped_by
use Rattle.source_interp.specs.Homes.{home_of}
use Rattle.source_interp.specs.Limits.{AreLimits}
use Rattle.source_interp.specs.Outside.{Outside}
use Rattle.source_interp.specs.Standing.{Acts}
use Rattle.source_interp.proofs.Acting.{Continues, done_acts, goes_no_further, goes_on, goes_to_end, reads_then}
use Rattle.source_interp.proofs.Acting.{same_acts, then_acts}
use Rattle.source_interp.proofs.Least.{reads}
use Rattle.source_interp.proofs.Stacked.{moves_frame}

abbrev pub caller_of : List Home → List Value → (charged stacked : ℕ) → Caller
caller_of frame plain charged stacked =
    record { frame = frame; plain = plain; charged = charged; stacked = stacked }

pub reads_caller : (g : Setting) (o : Outside) (m : Machine) (c : Caller) → c.frame ≡ m.frame
    → c.plain ≡ m.plain.items → c.charged ≡ m.charged → c.stacked ≡ m.stacked
    → Acts g m m o o (Ok c) (read_state caller)
reads_caller g o m c f p h t = reads g o m c caller (λ start s st.
    ap (λ x. caller_of x s.plain s.charged s.stacked) (st.frame_is ∙ sym f)
    ∙ ap (λ x. caller_of c.frame x s.charged s.stacked) (st.plain_is ∙ sym p)
    ∙ ap (λ x. caller_of c.frame c.plain x s.stacked) (sym st.charged_is ∙ sym h)
    ∙ ap (λ x. caller_of c.frame c.plain c.charged x) (sym st.stacked_is ∙ sym t))

module _ (g : Setting) (o : Outside) (l : Limits) (m : Machine) (f : Header) (line charged : ℕ)
    (limits : AreLimits l g) (e : charged ≡ m.charged + f.room) where
  tests : (r : Result (Unit {0}) Stop) (b : Bool) → nat_le charged l.calls ≡ b
      → Acts g m m o o r (pass_or_stop b (Stack line)) → Acts g m m o o r (test_charge g f line)
  tests r b h a = reads_then g m m o o m.charged r (λ s. s.charged)
      (λ c. pass_or_stop (nat_le (c + f.room) g.sizes.budgets.calls) (Stack line))
      (λ start s st. sym st.charged_is)
      (same_acts g m m o o r (pass_or_stop b (Stack line)) _
      (ap (λ x. pass_or_stop x (Stack line)) (ap (λ x. nat_le x g.sizes.budgets.calls) (sym e)
      ∙ ap (nat_le charged) (sym limits.calls) ∙ h)) a)

  pub has_charge : nat_le charged l.calls ≡ true → Acts g m m o o (Ok tt) (test_charge g f line)
  has_charge h = tests (Ok tt) true h (done_acts g m o tt)

  pub has_no_charge : nat_le charged l.calls ≡ false
      → Acts g m m o o (Err (stopped_by.Ended cause.Stack line)) (test_charge g f line)
  has_no_charge h = tests (Err (stopped_by.Ended cause.Stack line)) false h
      (record { by = λ start s st. record { state = s; holds = st; comes = refl } })

pub ruleset charges = (has_charge, has_no_charge)

pub charges_more : (g : Setting) (o : Outside) (old new : Machine) (room charged : ℕ)
    → charged ≡ old.charged + room → new ≡ record old { charged = charged }
    → Acts g old new o o (Ok tt) (change (λ s. record s { charged = s.charged + room }))
charges_more g o old new room charged e same =
    subst (λ m. Acts g old m o o (Ok tt) (change (λ s. record s { charged = s.charged + room }))) (sym same)
    (moves_frame g o old (record old { charged = charged }) (λ s. s.frame) (λ s. s.plain) (λ s. s.charged + room)
    (λ s. s.stacked) refl (λ start s st. st.frame_is) (λ start s st. st.plain_is)
    (λ start s st. e ∙ ap (λ x. x + room) st.charged_is) (λ start s st. st.stacked_is))

pub ruleset charging = (charges_more)

pub sets_plain : (g : Setting) (o : Outside) (old new : Machine) (plain : List Value)
    → new ≡ record old { plain = new.plain } → new.plain.items ≡ plain
    → Acts g old new o o (Ok tt) (change (λ s. record s { plain = plain }))
sets_plain g o old new plain same e =
    subst (λ m. Acts g old m o o (Ok tt) (change (λ s. record s { plain = plain }))) (sym same)
    (moves_frame g o old (record old { plain = new.plain }) (λ s. s.frame) (λ s. plain) (λ s. s.charged)
    (λ s. s.stacked) refl (λ start s st. st.frame_is) (λ start s st. sym e) (λ start s st. st.charged_is)
    (λ start s st. st.stacked_is))

pub swaps : (g : Setting) (o : Outside) (old new : Machine) (c : Caller)
    → new ≡ record old { frame = new.frame; plain = new.plain; charged = new.charged; stacked = new.stacked }
    → new.frame ≡ c.frame → new.plain.items ≡ c.plain → new.charged ≡ c.charged → new.stacked ≡ c.stacked
    → Acts g old new o o (Ok tt) (change (λ s. record s {
      frame = c.frame;
      plain = c.plain;
      charged = c.charged;
      stacked = c.stacked;
    }))
swaps g o old new c same f p h t = moves_frame g o old new (λ s. c.frame) (λ s. c.plain) (λ s. c.charged)
    (λ s. c.stacked) same (λ start s st. sym f) (λ start s st. sym p) (λ start s st. h) (λ start s st. t)

abbrev pub swapped : Caller → State → State
swapped c s = record s { frame = c.frame; plain = c.plain; charged = c.charged; stacked = c.stacked }

-- the objects that are still entered die, and the caller gets back what it had
pub returns_to : (g : Setting) (o : Outside) (old mid new : Machine) (c : Caller) (frame : List Home)
    (r : Result (Unit {0}) Stop) → frame ≡ old.frame → Acts g old mid o o (Ok tt) (change (swapped c))
    → Acts g mid new o o r (change (λ s. record s { objects = without_homes frame s.objects }))
    → Acts g old new o o r (change (back_to c))
returns_to g o old mid new c frame r e a b =
    reads_then g old new o o frame r (λ s. s.frame)
    (λ f. change (swapped c) >> change (λ s. record s { objects = without_homes f s.objects }))
    (λ start s st. st.frame_is ∙ sym e)
    (then_acts g old mid new o o o (Ok tt) tt r (change (swapped c))
    (λ _. change (λ s. record s { objects = without_homes frame s.objects })) refl a b)

-- arguments, one after another

abbrev pub none : Rvalue
none = rvalue (integer 0)

first_at : (vs : List Rvalue) (i : ℕ) → first_of (drop i vs) ≡ get_or vs i none
first_at vs i = ⊎_elim (λ h. ap first_of (drop_more vs i none h))
    (λ h. ap first_of (drop_all i vs h) ∙ sym (get_or_past vs i none h)) (cases_lt i (length vs))

rest_at : (vs : List Rvalue) (i : ℕ) → rest_of (drop i vs) ≡ drop (i + 1) vs
rest_at vs i = ⊎_elim (λ h. ap rest_of (drop_more vs i none h))
    (λ h. ap rest_of (drop_all i vs h) ∙ sym (drop_all (i + 1) vs (omega (arith, h)))) (cases_lt i (length vs))

module _ (ps : List Variable) (vs : List Rvalue) (i : ℕ) (p : Variable) (within : i < length ps)
    (is : p ≡ get_or ps i p) where
  parameters_at : drop i ps ≡ p ∷ drop (i + 1) ps
  parameters_at = drop_more ps i p within ∙ ap (λ x. x ∷ drop (i + 1) ps) (sym is)

  values_at : parameter_values (drop i ps) (drop i vs)
      ≡ (if p.is_object then integer 0 else (get_or vs i none).value) ∷ parameter_values (drop (i + 1) ps) (drop (i +
      1) vs)
  values_at =
      ap (λ xs. parameter_values xs (drop i vs)) parameters_at
      ∙ ap (λ x. (if p.is_object then integer 0 else x.value) ∷ parameter_values (drop (i + 1) ps) (rest_of (drop i
      vs)))
      (first_at vs i)
      ∙ ap (λ xs. (if p.is_object then integer 0 else (get_or vs i none).value) ∷ parameter_values (drop (i + 1) ps) xs)
      (rest_at vs i)

  pub one_value : (items new : List Value) (a v : Value)
      → items ++ parameter_values (drop i ps) (drop i vs) ≡ parameter_values ps vs → a ≡ (get_or vs i none).value
      → v ≡ (if p.is_object then integer 0 else a) → new ≡ items ++ (v ∷ [])
      → new ++ parameter_values (drop (i + 1) ps) (drop (i + 1) vs) ≡ parameter_values ps vs
  one_value items new a v so_far e e' more =
      ap (λ zs. zs ++ parameter_values (drop (i + 1) ps) (drop (i + 1) vs)) more
      ∙ append_assoc items (v ∷ []) (parameter_values (drop (i + 1) ps) (drop (i + 1) vs))
      ∙ ap (λ x. items ++ (x ∷ parameter_values (drop (i + 1) ps) (drop (i + 1) vs)))
      (e' ∙ ap (λ x. if p.is_object then integer 0 else x) e)
      ∙ ap (λ zs. items ++ zs) (sym values_at) ∙ so_far

one_more_parameter : (m n : ℕ) → m ≡ n → suc m ≡ 1 + n
one_more_parameter m n e = omega (arith, e)

pub counted : (ps : List Variable) → length ps ≡ parameter_count ps
counted [] = refl
counted (p ∷ ps) = one_more_parameter (length ps) (parameter_count ps) (counted ps)

-- every other plain value is 0
pub zeros : (vs : List Variable) → replicate (length vs) (integer 0) ≡ map (λ _. integer 0) vs
zeros [] = refl
zeros (v ∷ vs) = ap (λ xs. integer 0 ∷ xs) (zeros vs)

-- parameters that are written, one after another

nothing_written : (ps : List Variable) (line : ℕ) (vs : List Rvalue) (s : State)
    → write_parameters ps [] line vs s ≡ Gives tt s
nothing_written [] line vs s = refl
nothing_written (p ∷ ps) line vs s = refl

module _ (ps : List Variable) (hs : List Home) (vs : List Rvalue) (line i : ℕ) (p : Variable)
    (within : i < length ps) (is : p ≡ get_or ps i p) where
  abbrev one : Run (Unit {0})
  one = write_parameter p.kind (get_or hs i NoObject) line (get_or vs i none)

  abbrev others : Run (Unit {0})
  others = write_parameters (drop (i + 1) ps) (drop (i + 1) hs) line (drop (i + 1) vs)

  with_home : i < length hs → (s : State) → write_parameters (drop i ps) (drop i hs) line (drop i vs) s
      ≡ on (one s) (λ _. others)
  with_home h s =
      ap (λ xs. write_parameters xs (drop i hs) line (drop i vs) s) (parameters_at ps vs i p within is)
      ∙ ap (λ xs. write_parameters (p ∷ drop (i + 1) ps) xs line (drop i vs) s) (drop_more hs i NoObject h)
      ∙ ap (λ x. on (write_parameter p.kind (get_or hs i NoObject) line x s)
      (λ _. write_parameters (drop (i + 1) ps) (drop (i + 1) hs) line (rest_of (drop i vs)))) (first_at vs i)
      ∙ ap (λ xs. on (one s) (λ _. write_parameters (drop (i + 1) ps) (drop (i + 1) hs) line xs)) (rest_at vs i)

  without_home : length hs ≤ i → (s : State) → write_parameters (drop i ps) (drop i hs) line (drop i vs) s
      ≡ on (one s) (λ _. others)
  without_home h s =
      ap (λ xs. write_parameters (drop i ps) xs line (drop i vs) s) (drop_all i hs h)
      ∙ nothing_written (drop i ps) line (drop i vs) s
      ∙ sym (nothing_written (drop (i + 1) ps) line (drop (i + 1) vs) s)
      ∙ ap (λ xs. write_parameters (drop (i + 1) ps) xs line (drop (i + 1) vs) s)
      (sym (drop_all (i + 1) hs (omega (arith, h))))
      ∙ ap (λ x. on (write_parameter p.kind x line (get_or vs i none) s) (λ _. others)) (sym (get_or_past hs i
      NoObject h))

  first_written : (s : State) → write_parameters (drop i ps) (drop i hs) line (drop i vs) s
      ≡ on (one s) (λ _. others)
  first_written s = ⊎_elim (λ h. with_home h s) (λ h. without_home h s) (cases_lt i (length hs))

  module _ (g : Setting) (first now next : Machine) (before during after : Outside) (home : Option ℕ)
      (at : home_of home ≡ get_or hs i NoObject)
      (so_far : Continues g first now before during (write_parameters ps hs line vs)
      (write_parameters (drop i ps) (drop i hs) line (drop i vs))) where
    abbrev pub at_home : Run (Unit {0})
    at_home = write_parameter p.kind (home_of home) line (get_or vs i none)

    first_here : (s : State) → write_parameters (drop i ps) (drop i hs) line (drop i vs) s
        ≡ on (at_home s) (λ _. others)
    first_here s = first_written s
        ∙ ap (λ x. on (write_parameter p.kind x line (get_or vs i none) s) (λ _. others)) (sym at)

    pub one_written : (u : Unit {0}) (r : Result (Unit {0}) Stop) → r ≡ Ok u
        → Acts g now next during after r at_home
        → Continues g first next before after (write_parameters ps hs line vs) others
    one_written u r e a = goes_on g first now next before during after (write_parameters ps hs line vs)
        (write_parameters (drop i ps) (drop i hs) line (drop i vs)) at_home (λ _. others) r u so_far first_here e a

    pub none_written : (e : Stop) (r r' : Result (Unit {0}) Stop) → r ≡ Err e → r' ≡ Err e
        → Acts g now next during after r at_home
        → Acts g first next before after r' (write_parameters ps hs line vs)
    none_written e r r' is' is'' a = goes_no_further g first now next before during after (write_parameters ps hs line
        vs)
        (write_parameters (drop i ps) (drop i hs) line (drop i vs)) at_home (λ _. others) r r' e so_far first_here is'
        is'' a

all_written_by : (ps : List Variable) (hs : List Home) (vs : List Rvalue) (line i : ℕ) → length ps ≤ i → (s : State)
    → write_parameters (drop i ps) (drop i hs) line (drop i vs) s ≡ Gives tt s
all_written_by ps hs vs line i h s =
    ap (λ xs. write_parameters xs (drop i hs) line (drop i vs) s) (drop_all i ps h)

pub all_written : (ps : List Variable) (hs : List Home) (vs : List Rvalue) (line i : ℕ) → length ps ≤ i
    → (g : Setting) (first now : Machine) (before during : Outside)
    → Continues g first now before during (write_parameters ps hs line vs)
    (write_parameters (drop i ps) (drop i hs) line (drop i vs))
    → Acts g first now before during (Ok tt) (write_parameters ps hs line vs)
all_written ps hs vs line i h g first now before during so_far =
    goes_to_end g first now before during (write_parameters ps hs line vs)
    (write_parameters (drop i ps) (drop i hs) line (drop i vs)) tt so_far (all_written_by ps hs vs line i h)

-- one of them

module _ (g : Setting) (old new : Machine) (before now : Outside) (kind : Kind) (home : Option ℕ) (line : ℕ)
    (v : Rvalue) where
  pub writes_home : (n : ℕ) (r : Result (Unit {0}) Stop) → home ≡ Some n
      → Acts g old new before now r (write_parameter kind (InObject n) line v)
      → Acts g old new before now r (write_parameter kind (home_of home) line v)
  writes_home n r e a = same_acts g old new before now r (write_parameter kind (InObject n) line v) _
      (ap (λ h. write_parameter kind (home_of h) line v) e) a

pub writes_nowhere : (g : Setting) (m : Machine) (o : Outside) (kind : Kind) (home : Option ℕ) (line : ℕ) (v : Rvalue)
    → home ≡ None → Acts g m m o o (Ok tt) (write_parameter kind (home_of home) line v)
writes_nowhere g m o kind home line v e = same_acts g m m o o (Ok tt) (done tt) _
    (ap (λ h. write_parameter kind (home_of h) line v) e) (done_acts g m o tt)
