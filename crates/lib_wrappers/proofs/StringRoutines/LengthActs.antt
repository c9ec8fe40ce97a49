-- `strlen` as a whole action.
use Rattle.std.proofs.Common.{◌≡◌, ℕ, ◌+◌, ◌-◌, ◌*◌, ◌%◌, ◌^◌, List, [], ◌∷◌, ◌++◌, length, sym, ap, ◌∙◌}
use Rattle.std.proofs.Common.{subst, arith, length-append}
use Rattle.rv_isa.specs.Results.{reg_result}
use Rattle.sb_base.specs.Endings.{code_of, report_of}
use Rattle.obj_memory.specs.declared.value.Value.{Value}
use Rattle.source_meaning.specs.State.{State as Source, Outcome as Completed, Gives, on, done}
use Rattle.source_meaning.specs.Acting.{state_of}
use Rattle.source_meaning.specs.Actions.{integer}
use Rattle.source_meaning.specs.Strings.{scan, strlen}
use Rattle.source_meaning.specs.Library.{argument}
use Rattle.flat_code.specs.declared.instruction.FlatInstruction.{FlatInstruction}
use Rattle.flat_code.specs.Memory.{put}
use Rattle.flat_code.specs.State.{State}
use Rattle.flat_code.specs.Words.{IsOfWords}
use Rattle.flat_code.specs.Meaning.{Context, Goes}
use Rattle.flat_code.proofs.Stored.{put_same, put_other}
use Rattle.flat_code.specs.declared.registers.Held.{Held}
use Rattle.flat_code.specs.Routines.Registers.{AreBelow}
use Rattle.flat_code.specs.Routines.Routine.{HasAt, Outcome, Continues, Halts, Reaches}
use Rattle.flat_code.specs.Routines.Effects.{effects}
use Rattle.flat_code.specs.Routines.Metadata.{held_registers}
use Rattle.flat_code.proofs.Routines.Steps.{has_front, has_back}
use Rattle.flat_code.proofs.Routines.Rules.{line_on, arrived}
use Rattle.flat_code.specs.Routines.Objects.StandsFor.{Views, Keys}
use Rattle.flat_actions.specs.Actions.{Basis, Pointer, Word, IsHeldBy, IsFor, HasGiven, Leaves, IsAction, context_in}
use Rattle.flat_actions.specs.Actions.{views_of, work_of}
use Rattle.flat_actions.specs.Scanning.{IsWorked, HasScanned, IsScanRoutine}
use Rattle.flat_actions.proofs.Standing.{given_still}
use Rattle.lib_wrappers.specs.StringRoutines.Scanning.{length_given}
use Rattle.lib_wrappers.proofs.StringRoutines.AfterScan.{over, after_scan}

module _ (basis : Basis) (h : Held) (into line t : ℕ) (below : AreBelow t (into ∷ held_registers h))
    (scanning : List FlatInstruction)
    (scans : IsScanRoutine basis (λ v. scan v line) h (λ f. Unit {0}) t (t + 1) scanning) where
  abbrev items : List FlatInstruction
  items = scanning ++ length_given h t into

  module _ (functions : ℕ) (types : ℕ → ℕ) (k : Keys) (x : Source) (v : Value) (charge weight : ℕ) where
    abbrev g : Views
    g = views_of basis.map functions types basis.entry

    abbrev c : Context
    c = context_in basis charge weight

    abbrev R : State → Completed (List ℕ) → Outcome → Type 0
    R f r = Leaves g k basis.IsGood (Word into) t x f (on r (λ bytes. done (integer (length bytes))))

    abbrev after : State → State
    after f = effects c (length_given h t into) f

    -- the cursor's distance from the start is the length
    given : (f f' : State) (bytes : List ℕ) (x' : Source) → IsFor g k basis.IsGood x f → f.values h.value ≡ v.word
        → IsOfWords f → IsWorked x x' → HasScanned v.word bytes t (t + 1) f f'
        → R f (Gives bytes x') (Continues (after f'))
    unfolding put reg_result
    given f f' bytes x' p word words worked i =
        let kept : f'.values h.value ≡ v.word = i.others h.value (omega (arith, below.1.0)) (not_cursor, tt) ∙ word in
        let cursor = i.cursor_is in let small = i.small in let w = words.values h.value in
        let length_is : (after f').values into ≡ length bytes =
        put_same f'.values into ((f'.values t + (2 ^ 64 - f'.values h.value)) % 2 ^ 64) ∙ omega arith in
        subst (λ y. HasGiven g k basis.IsGood (Word into) t x f (integer (length bytes)) y (after f'))
        (sym worked.same)
        (given_still g k basis.IsGood (Word into) t x x'.work f (after f') (integer (length bytes)) p i.memory
        (record {
          input = i.shows.input;
          output = i.shows.output;
          taken = i.shows.taken;
          accesses = i.shows.accesses;
          turns = i.shows.turns;
        }) length_is
        (λ r less none. put_other f'.values into _ r none.0
        ∙ i.others r (omega arith) ((λ e. omega (arith, e, less)), tt)))
      where
        not_cursor : h.value ≡ t → ⊥
        not_cursor e = omega (arith, e, below.1.0)

    whole : (code : List FlatInstruction) (pc : ℕ) (f : State) → HasAt code pc items → IsOfWords f
        → IsFor g k basis.IsGood x f → IsHeldBy g k x.objects (Pointer h) v f.values
        → Reaches c code (17 + 8 * work_of (strlen v line) x) (Goes pc f) (pc + length items) (R f (scan v line x))
    whole code pc f has w p a =
        let len : pc + length scanning + 1 ≡ pc + length items =
        omega (arith, length-append scanning (length_given h t into)) in
        after_scan c code (16 + 8 * work_of (scan v line) x) (17 + 8 * work_of (strlen v line) x) (λ bytes x'. 1) pc
        (pc + length scanning) (pc + length items) f v.word t (t + 1) x (scan v line x) (R f (scan v line x)) w
        ((scans functions types k x v charge weight).from code pc f
        (has_front code pc scanning (length_given h t into) has) w (p, a, tt))
        (λ e x' is worked. (
          (let one = ap (λ r. (state_of r).work - x.work) is in
              let two = ap (λ r. (state_of (on r (λ bytes. done (integer (length bytes))))).work - x.work) is in
              omega (arith, one, two)),
          λ f' shows. subst (λ r. R f r (Halts (code_of e) (report_of e) f')) (sym is)
              (over x x' e f f' p.shown worked shows),
        ))
        (λ bytes x' is more.
        let one = ap (λ r. (state_of r).work - x.work) is in
        let two = ap (λ r. (state_of (on r (λ bytes. done (integer (length bytes))))).work - x.work) is in
        omega (arith, one, two))
        (λ bytes x' is f' words worked i.
        line_on c code (length_given h t into) 0 (pc + length scanning) f' (pc + length items) (R f (scan v line x))
        (tt, tt) (has_back code pc scanning (length_given h t into) has)
        (arrived c code 0 (after f') (pc + length scanning + 1) (pc + length items) (R f (scan v line x)) len
        (subst (λ r. R f r (Continues (after f'))) (sym is) (given f f' bytes x' p a.0.word w worked i))))

  pub strlen_acts : IsAction basis (λ vs. strlen (argument 0 vs) line) (Pointer h ∷ []) (Word into) t 17 8 items
  strlen_acts functions types k x [] charge weight = record { from = λ code pc f has w p. absurd p.1 }
  strlen_acts functions types k x (v ∷ []) charge weight = record {
    from = λ code pc f has w p. whole functions types k x v charge weight code pc f has w p.0 p.1.0;
  }
  strlen_acts functions types k x (v ∷ w ∷ vs) charge weight = record { from = λ code pc f has ws p. absurd p.1.1 }
