-- A string that was scanned is written, with its 0 byte, at a place that is judged as one access.
use Rattle.std.proofs.Common.{◌≡◌, ℕ, ◌+◌, ◌-◌, ◌*◌, ◌%◌, ◌^◌, ◌<◌, ◌≤◌, ◌⊎◌, ⊎_elim, List, [], ◌∷◌, ◌++◌}
use Rattle.std.proofs.Common.{length, true, get_or, refl, sym, ap, ◌∙◌, subst, arith, length-append}
use Rattle.std.proofs.lemmas.Bool.{cases_lt}
use Rattle.std.proofs.Math.ListN.{get_or-eq_default}
use Rattle.std.proofs.lemmas.List.{get_or_append_left, get_or-append_right}
use Rattle.addr_map.specs.Places.{AreMapped}
use Rattle.rv_isa.specs.Results.{reg_result}
use Rattle.obj_memory.specs.declared.value.Value.{Value}
use Rattle.obj_memory.specs.declared.value.Place.{Place}
use Rattle.obj_memory.specs.Judgement.{judge}
use Rattle.obj_memory.specs.Sound.{IsSoundTag, IsAllowed}
use Rattle.source_meaning.specs.State.{State as Source, Outcome as Completed}
use Rattle.flat_code.specs.declared.instruction.FlatInstruction.{FlatInstruction}
use Rattle.flat_code.specs.Memory.{Bytes}
use Rattle.flat_code.specs.State.{State}
use Rattle.flat_code.specs.Words.{IsOfWords}
use Rattle.flat_code.specs.Meaning.{Context, Goes}
use Rattle.flat_code.proofs.Stored.{put_same, put_other}
use Rattle.flat_code.specs.declared.registers.Held.{Held}
use Rattle.flat_code.specs.Routines.Registers.{AreBelow}
use Rattle.flat_code.specs.Routines.Routine.{Outcome, Continues, Halts, Reaches, Does, Either, Never}
use Rattle.flat_code.proofs.Routines.Steps.{has_front, has_back}
use Rattle.flat_code.proofs.Routines.Rules.{weaken, line_on}
use Rattle.flat_code.proofs.Routines.Words.{IsLocal}
use Rattle.flat_code.proofs.Routines.Distinct.{below_more}
use Rattle.flat_code.proofs.Routines.Spaces.Quiet.{quiet_words}
use Rattle.flat_code.specs.Routines.Effects.{effects}
use Rattle.flat_code.specs.Routines.Metadata.{held_registers}
use Rattle.flat_code.specs.Routines.Objects.StandsFor.{Views, Keys, Spells}
use Rattle.flat_actions.specs.Judgement.Judging.{IsToJudge, IsSameBut, IsJudged, IsJudgeRoutine}
use Rattle.flat_actions.specs.Actions.{Basis, IsFor, Nowhere, Leaves, context_in, views_of}
use Rattle.flat_actions.specs.Ranges.{IsObjectRange, IsToMove, HasMovedBytes, IsByteMoveRoutine}
use Rattle.flat_actions.proofs.Standing.{for_still, spells_still, none_of_none}
use Rattle.lib_wrappers.proofs.MovingRoutines.Steps.{does_weaken}
use Rattle.lib_wrappers.proofs.MovingRoutines.Moves.{allowed_range}
use Rattle.lib_wrappers.proofs.MovingRoutines.Judged.{work_done}
use Rattle.lib_wrappers.specs.StringRoutines.Copying.{HasWritten, size_code}
use Rattle.lib_wrappers.proofs.StringRoutines.Handing.{IsSince, left_from}
use Rattle.lib_wrappers.proofs.StringRoutines.Runtime.{does_in}
use Rattle.lib_wrappers.proofs.StringRoutines.Written.{written_run, judged_writes}

-- the bytes of a string and its 0 byte, as they stand in memory
pub with_zero : (m : Bytes) (a : ℕ) (bytes : List ℕ) → ((i : ℕ) → i < length bytes → m (a + i) ≡ get_or bytes i 0)
    → m (a + length bytes) ≡ 0 → (i : ℕ) → i < length (bytes ++ 0 ∷ []) → m (a + i) ≡ get_or (bytes ++ 0 ∷ []) i 0
with_zero m a bytes there last i less =
    let long = length-append bytes (0 ∷ []) in
    ⊎_elim
    (λ (l : i < length bytes). there i l ∙ sym (get_or_append_left bytes (0 ∷ []) 0 i l))
    (λ (l : length bytes ≤ i).
    let e : length bytes ≡ i = omega arith in
    let at : get_or (bytes ++ 0 ∷ []) i 0 ≡ get_or (0 ∷ []) (i - length bytes) 0 =
    get_or-append_right bytes (0 ∷ []) (length bytes) i 0 refl l in
    let none : i - length bytes ≡ 0 = omega arith in
    ap (λ z. m (a + z)) (sym e) ∙ last ∙ sym (at ∙ ap (λ z. get_or (0 ∷ []) z 0) none))
    (cases_lt i (length bytes))

-- bytes that stand in memory are bytes
pub are_small : (m : Bytes) (a : ℕ) (new : List ℕ) → ((b : ℕ) → m b < 256)
    → ((i : ℕ) → i < length new → m (a + i) ≡ get_or new i 0) → (i : ℕ) → get_or new i 0 < 256
are_small m a new bytes there i = ⊎_elim
    (λ (l : i < length new). let e = there i l in let b = bytes (a + i) in omega arith)
    (λ (l : length new ≤ i). subst (λ z. z < 256) (sym (get_or-eq_default new 0 l)) (omega arith))
    (cases_lt i (length new))

-- what is known of a string once it is scanned: bytes from an address on, and 0 behind them
pub record IsFound (g : Views) (a : ℕ) (bytes : List ℕ) (m : Bytes) : Type 0 where
  pub there : (i : ℕ) → i < length bytes → m (a + i) ≡ get_or bytes i 0
  pub last_byte : m (a + length bytes) ≡ 0
  pub range : IsObjectRange g.sizes a (length bytes + 1)
  pub small : a + length bytes < 2 ^ 63

module _ (basis : Basis) (runtime : basis.is_runtime ≡ true) (mapped : AreMapped basis.map)
    (local : IsLocal basis.map basis.entry basis.IsGood) (line : ℕ) (to : Held) (from cursor z : ℕ)
    (below : AreBelow z (from ∷ cursor ∷ held_registers to)) (judging moving : List FlatInstruction)
    (judges : IsJudgeRoutine to z line (z + 1) judging)
    (moves : IsByteMoveRoutine basis.map to.value from z (z + 1) moving)
    (functions : ℕ) (types : ℕ → ℕ) (k : Keys) (x : Source) (dv v : Value) (a : ℕ) (bytes : List ℕ)
    (charge weight : ℕ) (sound : IsSoundTag functions x.objects dv.tag)
    (bytes_small : (i : ℕ) → get_or (bytes ++ 0 ∷ []) i 0 < 256) where
  abbrev g : Views
  g = views_of basis.map functions types basis.entry

  abbrev c : Context
  c = context_in basis charge weight

  abbrev new : List ℕ
  new = bytes ++ 0 ∷ []

  -- the registers hold it, and a pointer to where it goes
  pub record IsToWrite (f : State) : Type 0 where
    pub stands : IsFor g k basis.IsGood x f
    pub spells : Spells g k dv to f.values
    pub start_is : f.values from ≡ a
    pub cursor_is : f.values cursor ≡ a + length bytes
    pub found : IsFound g a bytes f.memory

  abbrev IsSized : State → Type 0
  IsSized f = IsToWrite f × (f.values z ≡ length new)

  keeps : (f f' : State) → IsSince z f f' → IsToWrite f → IsToWrite f'
  keeps f f' s p =
      let b = below_more z z (held_registers to) (omega arith) below.1.1 in
      record {
        stands = for_still g k basis.IsGood x f f' s.memory s.shows p.stands;
        spells = spells_still g k dv to [] z f f' s.others b (none_of_none (held_registers to)) p.spells;
        start_is = s.others from below.0 tt ∙ p.start_is;
        cursor_is = s.others cursor below.1.0 tt ∙ p.cursor_is;
        found = subst (IsFound g a bytes) (sym s.memory) p.found;
      }

  since_same : (f f' : State) → IsSameBut (z + 1) f f' → IsSince z f f'
  since_same f f' s = record {
    memory = s.memory;
    shows = (let q = s.shows in record {
      input = q.input;
      output = q.output;
      taken = q.taken;
      accesses = q.accesses;
      turns = q.turns;
    });
    others = λ r less none. s.others r (omega arith) tt;
  }

  judges_it : Does c judging IsSized (λ f. 10) (λ f. IsJudged (judge (length new) dv x.objects) line (z + 1) f)
  judges_it =
      does_weaken c judging 10 10 (IsToJudge g k x.objects dv (length new) to z) IsSized
      (λ f. IsJudged (judge (length new) dv x.objects) line (z + 1) f)
      (λ f. IsJudged (judge (length new) dv x.objects) line (z + 1) f) (omega arith)
      (λ f p. record {
        stands = p.0.stands.objects;
        sound = sound;
        spells = p.0.spells;
        size_is = p.1;
        some = (let n = length-append bytes (0 ∷ []) in omega arith);
      })
      (λ f o p h. h) (judges g k x.objects dv (length new) basis.is_runtime charge weight mapped)

  moves_it : (p : Place) → IsAllowed x.objects dv (length new) p
      → Does c moving IsSized (λ f. 16 + 8 * length new) (λ f. Either (HasWritten new dv.word (z + 1) f) Never)
  moves_it p allowed =
      does_weaken c moving (16 + 7 * length new) (16 + 8 * length new)
      (IsToMove basis.map to.value from z (length new)) IsSized
      (λ f. Either (HasMovedBytes to.value from (length new) (z + 1) f) Never)
      (λ f. Either (HasWritten new dv.word (z + 1) f) Never) (omega arith)
      (λ f q. record {
        size_is = q.1;
        to_range = subst (λ d. IsObjectRange basis.map d (length new)) (sym q.0.spells.word)
            (allowed_range g k x.objects f.memory dv (length new) p q.0.stands.objects allowed);
        from_range = subst (λ d. IsObjectRange basis.map d (length new)) (sym q.0.start_is)
            (subst (IsObjectRange basis.map a) (sym (length-append bytes (0 ∷ []))) q.0.found.range);
      })
      (λ f o q h. written f q o h)
      (does_in basis runtime charge weight moving _ _ _ (moves (length new) charge weight))
    where
      written : (f : State) → IsSized f → (o : Outcome)
          → Either (HasMovedBytes to.value from (length new) (z + 1) f) Never o
          → Either (HasWritten new dv.word (z + 1) f) Never o
      written f q (Continues f') h =
          let word = q.0.spells.word in
          record {
            there = λ i less. ap (λ d. f'.memory (d + i)) (sym word) ∙ h.there i less
                ∙ ap (λ d. f.memory (d + i)) q.0.start_is
                ∙ with_zero f.memory a bytes q.0.found.there q.0.found.last_byte i less;
            beside = λ b out. h.beside b (subst (λ d. (b < d) ⊎ (d + length new ≤ b)) (sym word) out);
            shows = h.shows;
            others = h.others;
          }
      written f q (Halts status report f') h = absurd h

  abbrev whole : Completed Value
  whole = written_run (length new) dv v new line x

  judged_moves : Does c (judging ++ moving) IsSized (λ f. 10 + (16 + 8 * work_done whole x))
      (λ f. Leaves g k basis.IsGood Nowhere (z + 1) x f whole)
  judged_moves =
      judged_writes basis.map mapped basis.entry basis.IsGood local functions types k (z + 1) x c judging moving dv v
      new line IsSized 16 bytes_small sound (λ f p. p.0.stands)
      (λ f f' p s. (keeps f f' (since_same f f' s) p.0, s.others z (omega arith) tt ∙ p.1)) judges_it moves_it

  -- the size is counted first
  record IsCounted (f : State) : Type 0 where
    since : IsSince z f (effects c (size_code z from cursor) f)
    size_is : (effects c (size_code z from cursor) f).values z ≡ length new

  counted : (f : State) → IsOfWords f → IsToWrite f → IsCounted f
  unfolding reg_result
  counted f w p =
      let long = length-append bytes (0 ∷ []) in
      let small = p.found.small in let start = p.start_is in let end = p.cursor_is in
      let n : ((f.values cursor + (2 ^ 64 - f.values from)) % 2 ^ 64 + 1) % 2 ^ 64 ≡ length new = omega arith in
      let first = put_same f.values z ((f.values cursor + (2 ^ 64 - f.values from)) % 2 ^ 64) in
      record {
        since = record {
          memory = refl;
          shows = record { input = refl; output = refl; taken = refl; accesses = refl; turns = refl };
          others = λ r less none. put_other _ z _ r (λ e. omega (arith, e, less)) ∙ put_other f.values z _ r
              (λ e. omega (arith, e, less));
        };
        size_is = put_same _ z _ ∙ ap (λ q. (q + 1) % 2 ^ 64) first ∙ n;
      }

  pub string_writes : Does c (size_code z from cursor ++ (judging ++ moving)) IsToWrite
      (λ f. 2 + (10 + (16 + 8 * work_done whole x))) (λ f. Leaves g k basis.IsGood Nowhere z x f whole)
  string_writes = record {
    from = λ code pc f has w p.
        let sizes = size_code z from cursor in
        let rest = judging ++ moving in
        let B = 10 + (16 + 8 * work_done whole x) in
        let R = Leaves g k basis.IsGood Nowhere z x f whole in
        let f' = effects c sizes f in
        let h = counted f w p in
        let len : pc + 2 + length rest ≡ pc + length (sizes ++ rest) = omega arith in
        subst (λ e. Reaches c code (2 + B) (Goes pc f) e R) len
        (line_on c code sizes B pc f (pc + 2 + length rest) R (tt, (tt, tt)) (has_front code pc sizes rest has)
        (weaken c code B B (Goes (pc + 2) f') (pc + 2 + length rest) (Leaves g k basis.IsGood Nowhere (z + 1) x f'
        whole)
        R (omega arith) (λ o i. left_from g k basis.IsGood z (z + 1) x.work x f f' whole o (omega arith) h.since i)
        (judged_moves.from code (pc + 2) f' (has_back code pc sizes rest has)
        (quiet_words c sizes f (tt, (tt, tt)) w) (keeps f f' h.since p, h.size_is))));
  }
