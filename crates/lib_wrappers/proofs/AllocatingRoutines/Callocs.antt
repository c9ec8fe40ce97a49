-- `calloc` as an action.
use Rattle.std.proofs.Common.{◌≡◌, ℕ, suc, ◌+◌, ◌-◌, ◌*◌, ◌/◌, ◌%◌, ◌^◌, ◌<◌, ◌≤◌, List, [], ◌∷◌, ◌++◌, Bool, true}
use Rattle.std.proofs.Common.{length, refl, sym, ap, ◌∙◌, subst, arith, ⊎_elim}
use Rattle.std.proofs.lemmas.Bool.{cases_lt, lt-ltb, le-ltb}
use Rattle.std.proofs.lemmas.Nat.{mul-lt}
use Rattle.addr_map.specs.Places.{MapSizes, AreMapped}
use Rattle.rv_isa.specs.declared.instruction.BranchOp.TheVariants.{Bne}
use Rattle.rv_isa.specs.Results.{reg_result}
use Rattle.obj_memory.specs.declared.value.Value.{Value}
use Rattle.source_meaning.specs.State.{State as Source, Outcome as Completed, Gives, Setting, choose, done}
use Rattle.source_meaning.specs.Acting.{state_of}
use Rattle.source_meaning.specs.Actions.{integer}
use Rattle.source_meaning.specs.Heap.{allocate, calloc}
use Rattle.source_meaning.specs.Library.{argument}
use Rattle.flat_code.specs.declared.instruction.RightOperand.TheVariants.{Number}
use Rattle.flat_code.specs.declared.instruction.FlatInstruction.{FlatInstruction}
use Rattle.flat_code.specs.Memory.{Bytes, put}
use Rattle.flat_code.specs.State.{State}
use Rattle.flat_code.specs.Words.{IsOfWords}
use Rattle.flat_code.specs.Meaning.{Context, Goes}
use Rattle.flat_code.specs.declared.registers.Held.{Held}
use Rattle.flat_code.specs.Routines.Registers.{AreDistinct, AreBelow, OthersStay}
use Rattle.flat_code.specs.Routines.Routine.{HasAt, Outcome, Reaches, unless_code}
use Rattle.flat_code.specs.Routines.Effects.{worked}
use Rattle.flat_code.specs.Routines.Metadata.{View, held_registers, ShowsNothing}
use Rattle.flat_code.proofs.Routines.Steps.{has_front, has_back}
use Rattle.flat_code.proofs.Routines.Rules.{arrived, weaken}
use Rattle.flat_code.proofs.Routines.Distinct.{AreRegisters, below_more}
use Rattle.flat_code.proofs.Routines.Words.{same_metadata}
use Rattle.flat_code.proofs.Routines.Branches.{differ, do_not_differ}
use Rattle.flat_code.proofs.Routines.Showing.{shows_both}
use Rattle.flat_code.specs.Routines.Objects.StandsFor.{Views, Keys, Spells}
use Rattle.shadow_space.proofs.Entries.{context_of, agrees_shows, agrees_memory}
use Rattle.flat_actions.specs.Actions.{IsFor, Word, Pointer, AreHeldBy, Leaves, views_of, context_in, work_of}
use Rattle.flat_actions.proofs.Standing.{for_still, given_still}
use Rattle.flat_code.proofs.Routines.Spaces.Quiet.{shows_worked, worked_words}
use Rattle.flat_actions.specs.Actions.{runtime_basis}
use Rattle.lib_wrappers.specs.AllocatingRoutines.Premises.{AreStanding}
use Rattle.lib_wrappers.specs.AllocatingRoutines.Allocating.{IsAllocateRoutine, IsCallocRoutine, product_code}
use Rattle.lib_wrappers.specs.AllocatingRoutines.Allocating.{null_code}
use Rattle.lib_wrappers.specs.AllocatingRoutines.Allocating.{calloc_code}
use Rattle.lib_wrappers.proofs.AllocatingRoutines.Stretches.{IsDone, stretch_on, goes_past, goes_into}
use Rattle.lib_wrappers.proofs.AllocatingRoutines.Stretches.{above_none}
use Rattle.lib_wrappers.proofs.AllocatingRoutines.Leaving.{leaves_from}

abbrev by_size : Bool → Setting → (size line : ℕ) → Source → Completed Value
by_size b set size line x = choose b (allocate set size line) (done (integer 0)) x

module _ (map : MapSizes) (mapped : AreMapped map) (entry : View) (IsGood : Bytes → Type 0) (count size : ℕ)
    (into : Held) (line t : ℕ) (below : AreBelow t (count ∷ size ∷ held_registers into))
    (distinct : AreDistinct (held_registers into)) (allocate' : List FlatInstruction)
    (allocates : IsAllocateRoutine map entry IsGood (t + 1) into line (t + 2) allocate') (set : Setting)
    (same_sizes : set.sizes ≡ map) (functions : ℕ) (types : ℕ → ℕ) (k : Keys) (x : Source) (v u : Value)
    (charge weight : ℕ) where
  abbrev c : Context
  c = context_of map true charge weight

  abbrev g : Views
  g = views_of map functions types entry

  abbrev whole : List FlatInstruction
  whole = calloc_code allocate' count size into t (t + 1)

  abbrev Goal : (code : List FlatInstruction) → (pc : ℕ) → State → Completed Value → Type 0
  Goal code pc s o = Reaches c code (70 + 20 * ((state_of o).work - x.work)) (Goes pc s) (pc + length whole)
      (Leaves g k IsGood (Pointer into) t x s o)

  product_registers : AreRegisters (count ∷ size ∷ []) [] (t ∷ (t + 1) ∷ []) t
  product_registers = record {
    none = (tt, (tt, tt));
    distinct = tt;
    ins_below = (below.0, (below.1.0, tt));
    res_below = tt;
    from = (omega arith, (omega arith, tt));
    own_distinct = ((omega arith, tt), (tt, tt));
  }

  null_registers : AreRegisters [] (held_registers into) [] (t + 2)
  null_registers = record {
    none = tt;
    distinct = distinct;
    ins_below = tt;
    res_below = below_more t (t + 2) (held_registers into) (omega arith) below.1.1;
    from = tt;
    own_distinct = tt;
  }

  abbrev own : Held
  own = record { value = 0; tag = record { base = 1; bound = 2; key = 3; lock = 4 } }

  record IsMultiplied (s s2 : State) : Type 0 where
    upper : s2.values t ≡ ((v.word * u.word) % 2 ^ 128) / 2 ^ 64
    lower : s2.values (t + 1) ≡ (v.word * u.word) % 2 ^ 64
    null : Spells g k (integer 0) into s2.values
    memory : s2.memory ≡ s.memory
    shows : ShowsNothing s s2
    others : OthersStay (held_registers into) t s s2

  multiplied : (s s1 s2 : State) → s.values count ≡ v.word → s.values size ≡ u.word
      → IsDone c (count ∷ size ∷ []) [] (t ∷ (t + 1) ∷ []) t product_registers (product_code 0 1 2 3) refl s s1
      → IsDone c [] (held_registers into) [] (t + 2) null_registers (null_code own) refl s1 s2
      → IsMultiplied s s2
  unfolding put reg_result
  multiplied s s1 s2 a b d1 d2 =
      let m1 : s1.memory ≡ s.memory = agrees_memory 4 _ _ s1 d1.agrees in
      let m2 : s2.memory ≡ s1.memory = agrees_memory 5 _ _ s2 d2.agrees in
      let up : s1.values t ≡ ((v.word * u.word) % 2 ^ 128) / 2 ^ 64 =
      sym (d1.agrees.values 2 (omega arith)) ∙ ap (λ y. ((y * s.values size) % 2 ^ 128) / 2 ^ 64) a
      ∙ ap (λ y. ((v.word * y) % 2 ^ 128) / 2 ^ 64) b in
      let low : s1.values (t + 1) ≡ (v.word * u.word) % 2 ^ 64 =
      sym (d1.agrees.values 3 (omega arith)) ∙ ap (λ y. (y * s.values size) % 2 ^ 64) a
      ∙ ap (λ y. (v.word * y) % 2 ^ 64) b in
      record {
        upper = d2.others t (omega arith) (above_none t t (held_registers into) below.1.1 (omega arith)) ∙ up;
        lower = d2.others (t + 1) (omega arith)
            (above_none t (t + 1) (held_registers into) below.1.1 (omega arith)) ∙ low;
        null = record {
          word = sym (d2.agrees.values 0 (omega arith));
          tag = same_metadata _ (record { base = 0; bound = 0; key = 0; lock = 0 })
              (sym (d2.agrees.values 1 (omega arith))) (sym (d2.agrees.values 2 (omega arith)))
              (sym (d2.agrees.values 3 (omega arith))) (sym (d2.agrees.values 4 (omega arith)));
        };
        memory = m2 ∙ m1;
        shows = shows_both s s1 s2
            (agrees_shows 4 _ _ s s1 d1.agrees
            (record { input = refl; output = refl; taken = refl; accesses = refl; turns = refl }))
            (agrees_shows 5 _ _ s1 s2 d2.agrees
            (record { input = refl; output = refl; taken = refl; accesses = refl; turns = refl }));
        others = λ r l none. d2.others r (omega arith) none ∙ d1.others r l tt;
      }

  module _ (code : List FlatInstruction) (pc : ℕ) (s : State) (has : HasAt code pc whole) (w : IsOfWords s)
      (f : IsFor g k IsGood x s) (count_is : s.values count ≡ v.word) (size_is : s.values size ≡ u.word)
      (standing : AreStanding map x) where
    at_null : HasAt code (pc + 2) (null_code into ++ unless_code Bne t (Number 0) allocate')
    at_null = has_back code pc (product_code count size t (t + 1))
        (null_code into ++ unless_code Bne t (Number 0) allocate') has

    at_branch : HasAt code (pc + 2 + 5) (unless_code Bne t (Number 0) allocate')
    at_branch = has_back code (pc + 2) (null_code into) (unless_code Bne t (Number 0) allocate') at_null

    multiplies : (b : ℕ) (R : Outcome → Type 0)
        → ((s2 : State) → IsOfWords s2 → IsMultiplied s s2 → Reaches c code b (Goes (pc + 2 + 5) s2)
        (pc + length whole) R)
        → Reaches c code (2 + (5 + b)) (Goes pc s) (pc + length whole) R
    multiplies b R on =
        stretch_on c (count ∷ size ∷ []) [] (t ∷ (t + 1) ∷ []) t product_registers (product_code 0 1 2 3) refl code
        (5 + b) pc s (pc + length whole) R w
        (has_front code pc (product_code count size t (t + 1))
        (null_code into ++ unless_code Bne t (Number 0) allocate') has) (tt, (tt, tt))
        (λ s1 w1 d1.
        stretch_on c [] (held_registers into) [] (t + 2) null_registers (null_code own) refl code b (pc + 2) s1
        (pc + length whole) R w1
        (has_front code (pc + 2) (null_code into) (unless_code Bne t (Number 0) allocate') at_null)
        (tt, (tt, (tt, (tt, (tt, tt)))))
        (λ s2 w2 d2. on s2 w2 (multiplied s s1 s2 count_is size_is d1 d2)))

    -- both are words
    product_small : v.word * u.word < 2 ^ 128
    product_small =
        let a = w.values count in let b = w.values size in
        let m = mul-lt v.word u.word (2 ^ 64) (2 ^ 64) (omega arith) (omega arith) in omega arith

    too_large : 2 ^ 64 ≤ v.word * u.word → Goal code pc s (calloc set v u line x)
    too_large large =
        let o : calloc set v u line x ≡ Gives (integer 0) x =
        ap (λ b. by_size b set (v.word * u.word) line x) (le-ltb (v.word * u.word) (2 ^ 64) large) in
        let end : pc + 2 + 5 + 1 + length allocate' ≡ pc + length whole = omega arith in
        let R = Leaves g k IsGood (Pointer into) t x s (Gives (integer 0) x) in
        subst (Goal code pc s) (sym o)
        (weaken c code (2 + (5 + 1)) (70 + 20 * (x.work - x.work)) (Goes pc s) (pc + length whole) R R (omega arith)
        (λ y q. q)
        (multiplies 1 R
        (λ s2 w2 m.
        let up = m.upper in let small = product_small in
        goes_past c code 0 (pc + 2 + 5) (pc + 2 + 5 + 1 + length allocate') s2 Bne t (Number 0) (length allocate')
        (pc + length whole) R at_branch.0 refl (differ (s2.values t) 0 (λ e. omega arith))
        (arrived c code 0 (worked c s2) (pc + 2 + 5 + 1 + length allocate') (pc + length whole) R end
        (given_still g k IsGood (Pointer into) t x x.work s (worked c s2) (integer 0) f m.memory
        (shows_worked c s s2 m.shows) (let n = m.null in record { word = n.word; tag = n.tag }) m.others)))))

    small_enough : v.word * u.word < 2 ^ 64 → Goal code pc s (calloc set v u line x)
    small_enough less =
        let o : calloc set v u line x ≡ allocate set (v.word * u.word) line x =
        ap (λ b. by_size b set (v.word * u.word) line x) (lt-ltb (v.word * u.word) (2 ^ 64) less) in
        let end : pc + 2 + 5 + 1 + length allocate' ≡ pc + length whole = omega arith in
        let a = allocate set (v.word * u.word) line x in
        let R = Leaves g k IsGood (Pointer into) t x s a in
        subst (Goal code pc s) (sym o)
        (weaken c code (2 + (5 + suc (60 + 20 * ((state_of a).work - x.work))))
        (70 + 20 * ((state_of a).work - x.work)) (Goes pc s) (pc + length whole) R R (omega arith) (λ y q. q)
        (multiplies (suc (60 + 20 * ((state_of a).work - x.work))) R
        (λ s2 w2 m.
        let up = m.upper in let low = m.lower in
        goes_into c code (60 + 20 * ((state_of a).work - x.work)) (pc + 2 + 5) s2 Bne t (Number 0) (length allocate')
        (pc + length whole) R at_branch.0 (do_not_differ (s2.values t) 0 (omega arith))
        (subst (λ n. Reaches c code (60 + 20 * ((state_of a).work - x.work)) (Goes (pc + 2 + 5 + 1) (worked c s2)) n
        R) end
        (weaken c code (60 + 20 * ((state_of a).work - x.work)) (60 + 20 * ((state_of a).work - x.work))
        (Goes (pc + 2 + 5 + 1) (worked c s2)) (pc + 2 + 5 + 1 + length allocate') _ R (omega arith)
        (leaves_from g k IsGood (Pointer into) t (t + 2) (omega arith) x s (worked c s2) m.memory
        (shows_worked c s s2 m.shows) m.others a)
        ((allocates set same_sizes functions types k x (v.word * u.word) charge weight).from code (pc + 2 + 5 + 1)
        (worked c s2) at_branch.1 (worked_words c s2 w2) (
          for_still g k IsGood x s (worked c s2) m.memory (shows_worked c s s2 m.shows) f,
          low ∙ omega arith,
          standing,
        )))))))

    callocs : Goal code pc s (calloc set v u line x)
    callocs = ⊎_elim (λ less. small_enough less) (λ large. too_large large) (cases_lt (v.word * u.word) (2 ^ 64))

pub calloc_does : (map : MapSizes) → AreMapped map → (entry : View) (IsGood : Bytes → Type 0) (count size : ℕ)
    (into : Held) (line t : ℕ) → AreBelow t (count ∷ size ∷ held_registers into) → AreDistinct (held_registers into)
    → (allocate' : List FlatInstruction) → IsAllocateRoutine map entry IsGood (t + 1) into line (t + 2) allocate'
    → IsCallocRoutine map entry IsGood count size into line t (calloc_code allocate' count size into t (t + 1))
calloc_does map mapped entry IsGood count size into line t below distinct allocate' allocates set same functions types k
    x vs charge weight = record { from = λ code pc s has w p. by vs code pc s has w p.0 p.1 p.2 }
  where
    by : (vs : List Value) (code : List FlatInstruction) (pc : ℕ) (s : State)
        → HasAt code pc (calloc_code allocate' count size into t (t + 1)) → IsOfWords s
        → IsFor (views_of map functions types entry) k IsGood x s
        → AreHeldBy (views_of map functions types entry) k x.objects (Word count ∷ Word size ∷ []) vs s.values
        → AreStanding map x
        → Reaches (context_in (runtime_basis map entry IsGood) charge weight) code
        (70 + 20 * work_of (calloc set (argument 0 vs) (argument 1 vs) line) x) (Goes pc s)
        (pc + length (calloc_code allocate' count size into t (t + 1)))
        (Leaves (views_of map functions types entry) k IsGood (Pointer into) t x s
        (calloc set (argument 0 vs) (argument 1 vs) line x))
    by [] code pc s has w f held standing = absurd held
    by (v ∷ []) code pc s has w f held standing = absurd held.1
    by (v ∷ u ∷ []) code pc s has w f held standing =
        callocs map mapped entry IsGood count size into line t below distinct allocate' allocates set same functions
        types
        k x v u charge weight code pc s has w f held.0 held.1.0 standing
    by (v ∷ u ∷ y ∷ vs) code pc s has w f held standing = absurd held.1.1
