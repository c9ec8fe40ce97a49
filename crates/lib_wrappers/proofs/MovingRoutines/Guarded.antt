-- 'Unless empty: act, give': an act that is passed over where there are no bytes, after which a pointer is given.
use Rattle.std.proofs.Common.{◌≡◌, ◌≢◌, ℕ, ◌+◌, ◌*◌, List, [], ◌∷◌, Bool, true, false, refl}
use Rattle.std.proofs.Common.{sym, ap, ◌∙◌, subst, arith, suc, ◌==◌, ◌++◌}
use Rattle.std.proofs.lemmas.Bool.{eqb-true, eqb-false}
use Rattle.rv_isa.specs.declared.instruction.BranchOp.TheVariants.{Beq}
use Rattle.obj_memory.specs.declared.value.Value.{Value}
use Rattle.obj_memory.specs.declared.value.Tag.{Tag}
use Rattle.obj_memory.specs.declared.value.Tag.TheVariants.{Untagged, OfFunction, OfObject}
use Rattle.obj_memory.specs.Objects.{Objects}
use Rattle.obj_memory.specs.Sound.{IsSoundTag}
use Rattle.source_meaning.specs.State.{State as Source, Outcome as Completed, Gives, Ended, Paused, Run, choose, done}
use Rattle.source_meaning.specs.Bytes.{unless_empty}
use Rattle.flat_code.specs.declared.instruction.RightOperand.TheVariants.{Number}
use Rattle.flat_code.specs.declared.instruction.FlatInstruction.{FlatInstruction}
use Rattle.flat_code.specs.declared.instruction.FlatInstruction.TheVariants.{Move}
use Rattle.flat_code.specs.Memory.{Bytes, put}
use Rattle.flat_code.specs.State.{State}
use Rattle.flat_code.specs.Meaning.{Context}
use Rattle.flat_code.specs.declared.registers.Held.{Held}
use Rattle.flat_code.specs.Routines.Registers.{AreBelow, AreNoneOf, AreDistinct, OthersStay}
use Rattle.flat_code.specs.Routines.Routine.{Outcome, Continues, Halts, Does, Either, Never, unless_code}
use Rattle.flat_code.specs.Routines.Effects.{worked, effects}
use Rattle.flat_code.specs.Routines.Renaming.{through, Agrees}
use Rattle.flat_code.specs.Routines.Metadata.{held_registers, metadata_in, ShowsNothing}
use Rattle.flat_code.proofs.Routines.Rules.{Holds, taken, in_sequence}
use Rattle.flat_code.proofs.Routines.Distinct.{AreRegisters, register_of, registers_rename, others_stay}
use Rattle.flat_code.proofs.Routines.Words.{same_metadata}
use Rattle.flat_code.proofs.Routines.Wrapped.{straight_routine}
use Rattle.flat_code.proofs.Routines.Branches.{if_equal, if_unequal}
use Rattle.flat_code.specs.Routines.Objects.StandsFor.{Views, Keys, Spells, spell}
use Rattle.flat_actions.specs.Judgement.Judging.{IsSameBut}
use Rattle.flat_actions.specs.Actions.{IsFor, KeepsHeld, Nowhere, Pointer, HasGiven, Leaves}
use Rattle.flat_actions.proofs.Standing.{for_still, given_still, spells_still, none_of_none, others_trans}
use Rattle.flat_actions.specs.Lists.{give_code, guarded_code}
use Rattle.lib_wrappers.proofs.MovingRoutines.Steps.{does_weaken, unless_does}
use Rattle.lib_wrappers.proofs.MovingRoutines.Judged.{work_done, left_since}

-- ---- a pointer is given

-- the pointer in some registers is now in others too
pub record HasHanded (a b : Held) (t : ℕ) (s s' : State) : Type 0 where
  pub word : s'.values b.value ≡ s.values a.value
  pub tag : metadata_in s'.values b.tag ≡ metadata_in s.values a.tag
  pub memory : s'.memory ≡ s.memory
  pub shows : ShowsNothing s s'
  pub others : OthersStay (held_registers b) t s s'

-- over registers of its own: 0 to 4 are given in 5 to 9
abbrev own_give : List FlatInstruction
own_give = Move 5 0 ∷ Move 6 1 ∷ Move 7 2 ∷ Move 8 3 ∷ Move 9 4 ∷ []

abbrev give_registers : Held → Held → ℕ → ℕ
give_registers a b = register_of (held_registers a) (held_registers b) []

handed : (c : Context) (a b : Held) (t : ℕ) (s s' : State)
    → Agrees 10 (give_registers a b) (effects c own_give (through (give_registers a b) s)) s'
    → OthersStay (held_registers b) t s s' → HasHanded a b t s s'
unfolding put
handed c a b t s s' agrees others =
    let v = agrees.values in
    record {
      word = sym (v 5 (omega arith));
      tag = same_metadata (metadata_in s'.values b.tag) (metadata_in s.values a.tag) (sym (v 6 (omega arith)))
          (sym (v 7 (omega arith))) (sym (v 8 (omega arith))) (sym (v 9 (omega arith)));
      memory = ap (λ z. z.memory) agrees.rest;
      shows = record {
        input = ap (λ z. z.input) agrees.rest;
        output = ap (λ z. z.output) agrees.rest;
        taken = ap (λ z. z.taken) agrees.rest;
        accesses = ap (λ z. z.accesses) agrees.rest;
        turns = ap (λ z. z.turns) agrees.rest;
      };
      others = others;
    }

pub hands : (c : Context) (a b : Held) (t : ℕ) → AreBelow t (held_registers a) → AreBelow t (held_registers b)
    → AreDistinct (held_registers b) → AreNoneOf (held_registers a) (held_registers b)
    → Does c (give_code a b) (λ s. Unit {0}) (λ s. 5) (λ s. Either (HasHanded a b t s) Never)
hands c a b t below_a below_b distinct none =
    let r : AreRegisters (held_registers a) (held_registers b) [] t = record {
      none = none;
      distinct = distinct;
      ins_below = below_a;
      res_below = below_b;
      from = tt;
      own_distinct = tt;
    } in
    straight_routine c 10 5 (give_registers a b) own_give (λ s. Unit {0})
    (registers_rename (held_registers a) (held_registers b) [] t r) refl 5 (HasHanded a b t) (omega arith)
    (λ s w p. (tt, (tt, (tt, (tt, (tt, tt))))))
    (λ s s' w p agrees only. handed c a b t s s' agrees
    (others_stay (held_registers a) (held_registers b) [] t r s s' only))

-- ---- under keys that keep what was held

pub spell_kept : (g : Views) (k k' : Keys) (objects : Objects) (tag : Tag) → KeepsHeld objects k k'
    → IsSoundTag g.functions objects tag → spell g k' tag ≡ spell g k tag
spell_kept g k k' objects Untagged h sound = refl
spell_kept g k k' objects (OfFunction f) h sound = refl
spell_kept g k k' objects (OfObject n b) h sound =
    ap (λ z. record { base = b.base; bound = b.bound; key = z.key; lock = z.lock }) (h.held n sound.made)

-- ---- an act that leaves the pointer where it is, after which it is given

module _ (g : Views) (k : Keys) (IsGood : Bytes → Type 0) (t : ℕ) (x : Source) (c : Context) (a b : Held) (dv : Value)
    (r : Completed Value) (act : List FlatInstruction) (P : Holds) (B : ℕ) (below_a : AreBelow t (held_registers a))
    (below_b : AreBelow t (held_registers b)) (distinct : AreDistinct (held_registers b))
    (none : AreNoneOf (held_registers a) (held_registers b))
    (spelled : (f : State) → P f → Spells g k dv a f.values)
    (sound : (f : State) → P f → IsSoundTag g.functions x.objects dv.tag)
    (gives : (v : Value) (x' : Source) → r ≡ Gives v x' → v ≡ dv)
    (acts : Does c act P (λ f. B) (λ f. Leaves g k IsGood Nowhere t x f r)) where
  given_then : (f f1 f2 : State) (v : Value) (x' : Source) → P f → v ≡ dv
      → HasGiven g k IsGood Nowhere t x f v x' f1 → HasHanded a b t f1 f2
      → HasGiven g k IsGood (Pointer b) t x f v x' f2
  given_then f f1 f2 v x' p is h give =
      let was = spells_still g k dv a [] t f f1 h.others below_a (none_of_none (held_registers a)) (spelled f p) in
      record {
        keys = h.keys;
        held = h.held;
        stands = for_still g h.keys IsGood x' f1 f2 give.memory give.shows h.stands;
        given = subst (λ z. Spells g h.keys z b f2.values) (sym is) (record {
          word = give.word ∙ was.word;
          tag = give.tag ∙ was.tag ∙ sym (spell_kept g k h.keys x.objects dv.tag h.held (sound f p));
        });
        turns = give.shows.turns ∙ h.turns;
        elsewhere = record {
          low = λ q l out. ap (λ m. m q) give.memory ∙ h.elsewhere.low q l out;
          behind = λ q l. ap (λ m. m q) give.memory ∙ h.elsewhere.behind q l;
        };
        others = others_trans (held_registers b) t f f1 f2 h.others give.others;
      }

  then_given : (q : Completed Value) → ((v : Value) (x' : Source) → q ≡ Gives v x' → v ≡ dv) → (f f1 : State)
      (o : Outcome) → P f → Leaves g k IsGood Nowhere t x f q (Continues f1) → Either (HasHanded a b t f1) Never o
      → Leaves g k IsGood (Pointer b) t x f q o
  then_given (Gives v x') is f f1 (Continues f2) p h give = given_then f f1 f2 v x' p (is v x' refl) h give
  then_given (Gives v x') is f f1 (Halts status report f2) p h give = give
  then_given (Ended e x') is f f1 o p h give = absurd h
  then_given (Paused x') is f f1 o p h give = absurd h

  over_then : (q : Completed Value) (f f1 : State) (status : ℕ) (report : List ℕ)
      → Leaves g k IsGood Nowhere t x f q (Halts status report f1)
      → Leaves g k IsGood (Pointer b) t x f q (Halts status report f1)
  over_then (Gives v x') f f1 status report h = h
  over_then (Ended e x') f f1 status report h = h
  over_then (Paused x') f f1 status report h = h

  pub act_then_gives : Does c (act ++ give_code a b) P (λ f. B + 5) (λ f. Leaves g k IsGood (Pointer b) t x f r)
  act_then_gives =
      in_sequence c act (give_code a b) B 5 P (λ f f1. Unit {0}) (λ f. Leaves g k IsGood Nowhere t x f r)
      (λ f. Leaves g k IsGood (Pointer b) t x f r) (λ f f1. Either (HasHanded a b t f1) Never)
      acts (λ f. hands c a b t below_a below_b distinct none) (λ f f1 p h. tt)
      (λ f f1 o p h give. then_given r gives f f1 o p h give) (λ f f1 status report p h. over_then r f f1 status
      report h)

-- ---- the act

-- what is needed of the state before
pub record IsGuarded (g : Views) (k : Keys) (IsGood : Bytes → Type 0) (x : Source) (a : Held) (n : ℕ)
    (dv nv : Value) (f : State) : Type 0 where
  pub stands : IsFor g k IsGood x f
  pub spells : Spells g k dv a f.values
  pub sound : IsSoundTag g.functions x.objects dv.tag
  pub size_is : f.values n ≡ nv.word

module _ (g : Views) (k : Keys) (IsGood : Bytes → Type 0) (t : ℕ) (x : Source) (c : Context) (a b : Held) (n : ℕ)
    (dv nv : Value) (run : Run Value) (act : List FlatInstruction) (P : Holds) (K F : ℕ)
    (below_a : AreBelow t (held_registers a)) (below_b : AreBelow t (held_registers b))
    (distinct : AreDistinct (held_registers b)) (none : AreNoneOf (held_registers a) (held_registers b))
    (ready : (f : State) → P f → IsGuarded g k IsGood x a n dv nv f) (work : (f : State) → P f → P (worked c f))
    (gives : (v : Value) (x' : Source) → run x ≡ Gives v x' → v ≡ dv)
    (acts : nv.word ≢ 0
    → Does c act P (λ f. K + F * work_done (run x) x) (λ f. Leaves g k IsGood Nowhere t x f (run x)))
  where
    -- by whether there are no bytes
    abbrev outcome : Bool → Completed Value
    outcome e = choose e (done dv) run x

    gives_it : (e : Bool) (v : Value) (x' : Source) → outcome e ≡ Gives v x' → v ≡ dv
    gives_it true v x' e = cc
    gives_it false v x' e = gives v x' e

    work_shows : (f : State) → IsSameBut t f (worked c f)
    work_shows f = record {
      memory = refl;
      shows = record { input = refl; output = refl; taken = refl; accesses = refl; turns = refl };
      others = λ r l none. refl;
    }

    abbrev Acted : Bool → State → Outcome → Type 0
    Acted e f = Leaves g k IsGood Nowhere t x f (outcome e)

    empty : (f : State) → P f → Acted true f (Continues (worked c f))
    empty f p =
        given_still g k IsGood Nowhere t x x.work f (worked c f) dv (ready f p).stands refl (work_shows f).shows tt
        (λ r l none. refl)

    acted : (e : Bool) → (nv.word == 0) ≡ e
        → Does c (unless_code Beq n (Number 0) act) P (λ f. suc (K + F * work_done (outcome e) x)) (Acted e)
    acted true e =
        unless_does c Beq n (Number 0) act (K + F * work_done (outcome true) x) P (Acted true) (Acted true)
        (record { from = λ code pc s has w p. absurd (no_act s p) }) (λ f p taken. empty f p) work
        (λ f o p h. left_since g k IsGood Nowhere t x f (worked c f) (outcome true) o (work_shows f) h)
      where
        no_act : (f : State) → P f × (taken Beq n (Number 0) f ≡ false) → ⊥
        no_act f p = if_unequal (f.values n) 0 p.1 ((ready f p.0).size_is ∙ eqb-true nv.word 0 e)
    acted false e =
        unless_does c Beq n (Number 0) act (K + F * work_done (outcome false) x) P (Acted false) (Acted false)
        (does_weaken c act (K + F * work_done (run x) x) (K + F * work_done (run x) x) P
        (λ f. P f × (taken Beq n (Number 0) f ≡ false)) (λ f. Leaves g k IsGood Nowhere t x f (run x)) (Acted false)
        (omega arith) (λ f p. p.0) (λ f o p h. h) (acts some))
        (λ f p is_taken. absurd (some (sym (ready f p).size_is ∙ if_equal (f.values n) 0 is_taken))) work
        (λ f o p h. left_since g k IsGood Nowhere t x f (worked c f) (outcome false) o (work_shows f) h)
      where
        some : nv.word ≢ 0
        some = eqb-false nv.word 0 e

    by_size : (e : Bool) → (nv.word == 0) ≡ e
        → Does c (guarded_code n a b act) P (λ f. 6 + K + F * work_done (outcome e) x)
        (λ f. Leaves g k IsGood (Pointer b) t x f (outcome e))
    by_size e is =
        let W = K + F * work_done (outcome e) x in
        does_weaken c (guarded_code n a b act) (suc W + 5) (6 + K + F * work_done (outcome e) x) P P
        (λ f. Leaves g k IsGood (Pointer b) t x f (outcome e)) (λ f. Leaves g k IsGood (Pointer b) t x f (outcome e))
        (omega arith) (λ f p. p) (λ f o p h. h)
        (act_then_gives g k IsGood t x c a b dv (outcome e) (unless_code Beq n (Number 0) act) P (suc W) below_a below_b
        distinct none (λ f p. (ready f p).spells) (λ f p. (ready f p).sound) (gives_it e) (acted e is))

    pub guarded : Does c (guarded_code n a b act) P (λ f. 6 + K + F * work_done (unless_empty nv dv run x) x)
        (λ f. Leaves g k IsGood (Pointer b) t x f (unless_empty nv dv run x))
    guarded = by_size (nv.word == 0) refl
