-- `puts` as a whole action.
use Rattle.std.proofs.Common.{◌≡◌, ℕ, ◌+◌, ◌-◌, ◌*◌, ◌%◌, ◌<◌, List, [], ◌∷◌, ◌++◌, length, true, refl, sym, ap}
use Rattle.std.proofs.Common.{◌∙◌, subst, arith, length-append, append_assoc}
use Rattle.sb_base.specs.Endings.{code_of, report_of}
use Rattle.obj_memory.specs.declared.value.Value.{Value}
use Rattle.source_meaning.specs.State.{State as Source, Outcome as Completed, Gives, on, ◌>>◌, done}
use Rattle.source_meaning.specs.Acting.{state_of}
use Rattle.source_meaning.specs.Actions.{integer, put_bytes}
use Rattle.source_meaning.specs.Strings.{scan}
use Rattle.source_meaning.specs.Printing.{puts}
use Rattle.source_meaning.specs.Library.{argument}
use Rattle.flat_code.specs.declared.instruction.FlatInstruction.{FlatInstruction}
use Rattle.flat_code.specs.Memory.{put}
use Rattle.flat_code.specs.State.{State}
use Rattle.flat_code.specs.Words.{IsOfWords}
use Rattle.flat_code.specs.Meaning.{Context, Goes}
use Rattle.flat_code.proofs.Stored.{put_same, put_other}
use Rattle.flat_code.specs.declared.registers.Held.{Held}
use Rattle.flat_code.specs.Routines.Registers.{AreBelow}
use Rattle.flat_code.specs.Routines.Routine.{HasAt, Outcome, Continues, Halts, Reaches, Either, Never}
use Rattle.flat_code.specs.Routines.Effects.{effects}
use Rattle.flat_code.specs.Routines.Metadata.{held_registers}
use Rattle.flat_code.proofs.Routines.Steps.{has_front, has_back}
use Rattle.flat_code.proofs.Routines.Rules.{next, line_on, arrived}
use Rattle.flat_code.specs.Routines.Objects.StandsFor.{Views, Keys, StandsFor}
use Rattle.flat_actions.specs.Actions.{Basis, Pointer, Word, IsHeldBy, IsFor, HasGiven, Leaves, IsAction, context_in}
use Rattle.flat_actions.specs.Actions.{views_of, work_of}
use Rattle.flat_actions.specs.Ranges.{IsObjectRange}
use Rattle.flat_actions.specs.Scanning.{IsWorked, HasScanned, IsScanRoutine}
use Rattle.flat_actions.proofs.Standing.{good_still, keeps_same, stays_same}
use Rattle.lib_wrappers.specs.StringRoutines.Putting.{bytes_from, IsToPut, HasPut, IsPutRoutine, newline_given}
use Rattle.lib_wrappers.proofs.StringRoutines.AfterScan.{over, after_scan}
use Rattle.lib_wrappers.proofs.StringRoutines.Between.{scanned_range}
use Rattle.lib_wrappers.proofs.StringRoutines.PutLoop.{same_bytes, range_to_put}
use Rattle.lib_wrappers.proofs.StringRoutines.Runtime.{does_in}

-- The scan ends with the cursor at the 0 byte; from the start up to there the bytes are put out.
module _ (basis : Basis) (runtime : basis.is_runtime ≡ true) (h : Held) (into line t : ℕ)
    (below : AreBelow t (into ∷ held_registers h)) (scanning putting : List FlatInstruction)
    (scans : IsScanRoutine basis (λ v. scan v line) h (λ f. Unit {0}) t (t + 1) scanning)
    (puts_all : IsPutRoutine basis.map h.value t (t + 1) putting) where
  abbrev rest : List FlatInstruction
  rest = putting ++ newline_given into (t + 1)

  abbrev items : List FlatInstruction
  items = scanning ++ rest

  module _ (functions : ℕ) (types : ℕ → ℕ) (k : Keys) (x : Source) (v : Value) (charge weight : ℕ) where
    abbrev g : Views
    g = views_of basis.map functions types basis.entry

    abbrev c : Context
    c = context_in basis charge weight

    abbrev after : Completed (List ℕ) → Completed Value
    after r = on r (λ bytes. put_bytes (bytes ++ 10 ∷ []) >> done (integer 0))

    abbrev R : State → Completed (List ℕ) → Outcome → Type 0
    R f r = Leaves g k basis.IsGood (Word into) t x f (after r)

    -- what is shown in the end
    abbrev printed : List ℕ → Source → Source
    printed bytes y = record y { work = y.work + length (bytes ++ 10 ∷ []); output = y.output ++ (bytes ++ 10 ∷ []) }

    abbrev ending : State → State
    ending f = effects c (newline_given into (t + 1)) f

    record IsEnded (f : State) : Type 0 where
      output : (ending f).output ≡ f.output ++ 10 ∷ []
      given : (ending f).values into ≡ 0
      others : (r : ℕ) → r < t → (r ≡ into → ⊥) → (ending f).values r ≡ f.values r

    is_ended : (f : State) → IsEnded f
    is_ended f = record {
      output = ap (λ b. f.output ++ b ∷ []) (ap (λ z. z % 256) (put_same f.values (t + 1) 10));
      given = put_same _ into 0;
      others = λ r less none. put_other _ into 0 r none ∙ put_other f.values (t + 1) 10 r (λ e. omega (arith, e, less));
    }

    given : (f f' z : State) (bytes : List ℕ) (x' : Source) → IsFor g k basis.IsGood x f
        → f.values h.value ≡ v.word → IsWorked x x' → HasScanned v.word bytes t (t + 1) f f'
        → HasPut h.value (length bytes) (t + 1) f' z → R f (Gives bytes x') (Continues (ending z))
    given f f' z bytes x' p word worked i put =
        let kept : f'.values h.value ≡ v.word = i.others h.value (omega (arith, below.1.0)) (not_cursor, tt) ∙ word in
        let e = is_ended z in
        let bytes_are : bytes_from (length bytes) f'.memory (f'.values h.value) ≡ bytes =
        ap (λ a. bytes_from (length bytes) f'.memory a) kept ∙ ap (λ m. bytes_from (length bytes) m v.word) i.memory
        ∙ same_bytes f.memory v.word bytes i.there in
        let memory : z.memory ≡ f.memory = put.memory ∙ i.memory in
        let s = p.shown in let q = i.shows in
        subst (λ y. HasGiven g k basis.IsGood (Word into) t x f (integer 0) (printed bytes y) (ending z))
        (sym worked.same)
        (record {
          keys = k;
          held = keeps_same x.objects k;
          stands = record {
            objects = subst (StandsFor g k x.objects) (sym memory) p.objects;
            spaces = good_still basis.map basis.IsGood f.memory z.memory memory p.spaces;
            keys = p.keys;
            shown = record {
              input = put.input ∙ q.input ∙ s.input;
              output = e.output ∙ ap (λ o. o ++ 10 ∷ []) put.output
                  ∙ append_assoc f'.output (bytes_from (length bytes) f'.memory (f'.values h.value)) (10 ∷ [])
                  ∙ ap (λ b. f'.output ++ (b ++ 10 ∷ [])) bytes_are
                  ∙ ap (λ o. o ++ (bytes ++ 10 ∷ [])) (q.output ∙ s.output);
              taken = put.taken ∙ q.taken ∙ s.taken;
              accesses = put.accesses ∙ q.accesses ∙ s.accesses;
            };
          };
          given = e.given;
          turns = put.turns ∙ q.turns;
          elsewhere = stays_same basis.map x.objects f.memory z.memory memory;
          others = λ r less none. e.others r less none.0 ∙ put.others r (omega (arith, less)) tt
              ∙ i.others r (omega (arith, less)) ((λ e. omega (arith, e, less)), tt);
        })
      where
        not_cursor : h.value ≡ t → ⊥
        not_cursor e = omega (arith, e, below.1.0)

    -- from the end of the string on
    out : (code : List FlatInstruction) (pc : ℕ) (f f' : State) (bytes : List ℕ) (x' : Source) → HasAt code pc rest
        → IsOfWords f' → IsFor g k basis.IsGood x f → IsHeldBy g k x.objects (Pointer h) v f.values
        → scan v line x ≡ Gives bytes x' → IsWorked x x' → HasScanned v.word bytes t (t + 1) f f'
        → Reaches c code ((2 + 5 * length bytes) + 3) (Goes pc f') (pc + length putting + 3) (R f (Gives bytes x'))
    out code pc f f' bytes x' has words p a is worked i =
        let n = length bytes in
        let kept : f'.values h.value ≡ v.word =
        i.others h.value (omega (arith, below.1.0)) ((λ e. omega (arith, e, below.1.0)), tt) ∙ a.0.word in
        let range = scanned_range g k line x v bytes x' f.memory p.objects a.1 is in
        let cursor = i.cursor_is in
        let run = (does_in basis runtime charge weight putting (IsToPut basis.map h.value t n) (λ s. 2 + 5 * n)
        (λ s. Either (HasPut h.value n (t + 1) s) Never) (puts_all n charge weight)).from code pc f'
        (has_front code pc putting (newline_given into (t + 1)) has) words
        (range_to_put basis.map h.value t n f' (subst (λ z. IsObjectRange basis.map z n) (sym kept) range)
        (omega arith)) in
        next c code (2 + 5 * n) 3 (Goes pc f') (pc + length putting) (pc + length putting + 3)
        (HasPut h.value n (t + 1) f') Never (R f (Gives bytes x')) words run
        (λ z wz put. line_on c code (newline_given into (t + 1)) 0 (pc + length putting) z (pc + length putting + 3)
        (R f (Gives bytes x')) (tt, (tt, (tt, tt))) (has_back code pc putting (newline_given into (t + 1)) has)
        (arrived c code 0 (ending z) (pc + length putting + 3) (pc + length putting + 3) (R f (Gives bytes x')) refl
        (given f f' z bytes x' p a.0.word worked i put)))
        (λ status report z never. absurd never)

    whole : (code : List FlatInstruction) (pc : ℕ) (f : State) → HasAt code pc items → IsOfWords f
        → IsFor g k basis.IsGood x f → IsHeldBy g k x.objects (Pointer h) v f.values
        → Reaches c code (21 + 8 * work_of (puts v line) x) (Goes pc f) (pc + length items) (R f (scan v line x))
    whole code pc f has w p a =
        let len : pc + length scanning + length putting + 3 ≡ pc + length items =
        omega (arith, length-append scanning rest, length-append putting (newline_given into (t + 1))) in
        after_scan c code (16 + 8 * work_of (scan v line) x) (21 + 8 * work_of (puts v line) x)
        (λ bytes x'. (2 + 5 * length bytes) + 3) pc
        (pc + length scanning) (pc + length items) f v.word t (t + 1) x (scan v line x) (R f (scan v line x)) w
        ((scans functions types k x v charge weight).from code pc f (has_front code pc scanning rest has) w (p, a, tt))
        (λ e x' is worked. (
          (let one = ap (λ r. (state_of r).work - x.work) is in
              let two = ap (λ r. (state_of (after r)).work - x.work) is in omega (arith, one, two)),
          λ f' shows. subst (λ r. R f r (Halts (code_of e) (report_of e) f')) (sym is)
              (over x x' e f f' p.shown worked shows),
        ))
        (λ bytes x' is more.
        let one = ap (λ r. (state_of r).work - x.work) is in
        let two = ap (λ r. (state_of (after r)).work - x.work) is in
        omega (arith, one, two, length-append bytes (10 ∷ [])))
        (λ bytes x' is f' words worked i.
        subst (λ r. Reaches c code ((2 + 5 * length bytes) + 3) (Goes (pc + length scanning) f') (pc + length items)
        (R f r)) (sym is)
        (subst (λ e. Reaches c code ((2 + 5 * length bytes) + 3) (Goes (pc + length scanning) f') e
        (R f (Gives bytes x')))
        len (out code (pc + length scanning) f f' bytes x' (has_back code pc scanning rest has) words p a is worked i)))

  pub puts_acts : IsAction basis (λ vs. puts (argument 0 vs) line) (Pointer h ∷ []) (Word into) t 21 8 items
  puts_acts functions types k x [] charge weight = record { from = λ code pc f has w p. absurd p.1 }
  puts_acts functions types k x (v ∷ []) charge weight = record {
    from = λ code pc f has w p. whole functions types k x v charge weight code pc f has w p.0 p.1.0;
  }
  puts_acts functions types k x (v ∷ w ∷ vs) charge weight = record { from = λ code pc f has ws p. absurd p.1.1 }
