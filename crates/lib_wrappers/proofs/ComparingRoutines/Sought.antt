-- `strchr` in flat code is the source's.
use Rattle.std.proofs.Common.{◌≡◌, ◌≢◌, ℕ, zero, suc, ◌+◌, ◌-◌, ◌*◌, ◌<◌, List, [], ◌∷◌, true}
use Rattle.std.proofs.Common.{◌==◌, refl, sym, ap, ◌∙◌, subst, arith}
use Rattle.sb_base.specs.declared.ending.Ending.TheVariants.{Spatial, Temporal}
use Rattle.addr_map.specs.Places.{MapSizes, AreMapped}
use Rattle.rv_isa.specs.Results.{reg_result}
use Rattle.obj_memory.specs.declared.int_type.IntType.TheVariants.{Char}
use Rattle.obj_memory.specs.declared.value.Value.{Value}
use Rattle.obj_memory.specs.declared.value.Place.{Place}
use Rattle.obj_memory.specs.declared.judgement.Verdict.{Verdict}
use Rattle.obj_memory.specs.declared.judgement.Verdict.TheVariants.{Outside as Out, Dead, Inside}
use Rattle.obj_memory.specs.Integers.{fit}
use Rattle.obj_memory.specs.Judgement.{judge, moved}
use Rattle.obj_memory.specs.Sound.{IsSoundTag, IsTagOf}
use Rattle.source_meaning.specs.State.{State as Source, Ended, on, done, choose}
use Rattle.source_meaning.specs.Acting.{state_of}
use Rattle.source_meaning.specs.Actions.{integer}
use Rattle.source_meaning.specs.Strings.{reach, seek_within, strchr}
use Rattle.source_meaning.specs.Library.{argument}
use Rattle.flat_code.specs.declared.instruction.FlatInstruction.{FlatInstruction}
use Rattle.flat_code.specs.declared.instruction.FlatInstruction.TheVariants.{Constant}
use Rattle.flat_code.specs.Memory.{Bytes, put}
use Rattle.flat_code.specs.State.{State}
use Rattle.flat_code.specs.Words.{IsOfWords}
use Rattle.flat_code.specs.Meaning.{Context, Goes}
use Rattle.flat_code.specs.declared.registers.Held.{Held}
use Rattle.flat_code.specs.Routines.Registers.{AreNoneOf, AreDistinct, AreBelow}
use Rattle.flat_code.specs.Routines.Routine.{Outcome, Reaches}
use Rattle.flat_code.specs.Routines.Effects.{effects}
use Rattle.flat_code.specs.Routines.Metadata.{View, metadata_in, held_registers, ShowsNothing}
use Rattle.flat_code.proofs.Routines.Steps.{has_self, has_front}
use Rattle.flat_code.proofs.Routines.Rules.{weaken, line_on}
use Rattle.flat_code.proofs.Routines.Distinct.{AreRegisters, register_of}
use Rattle.flat_code.proofs.Routines.Words.{same_metadata}
use Rattle.flat_code.specs.Routines.Objects.StandsFor.{Views, Keys, spell, Spells}
use Rattle.shadow_space.proofs.Entries.{context_of}
use Rattle.flat_code.proofs.Routines.Spaces.Quiet.{quiet_words}
use Rattle.flat_actions.specs.Judgement.Judging.{IsSameBut, IsJudged}
use Rattle.flat_actions.specs.Judgement.Code.{judge_code}
use Rattle.flat_actions.proofs.Judgement.Judges.{judges}
use Rattle.flat_actions.specs.Actions.{ChangesNothing}
use Rattle.flat_actions.specs.Actions.{IsFor, Word, Pointer, views_of, work_of, runtime_basis}
use Rattle.flat_actions.proofs.Judged.{after_judge}
use Rattle.lib_wrappers.specs.ComparingRoutines.Answering.{IsAnswered}
use Rattle.lib_wrappers.specs.ComparingRoutines.Seeking.{seek_start, seek_code, strchr_code, IsStrchr}
use Rattle.flat_actions.proofs.Looking.{inside_not_out, dead_not_out, IsAround, around, lives, reach_is}
use Rattle.lib_wrappers.proofs.ComparingRoutines.Looks.{bytes_of}
use Rattle.flat_actions.proofs.Looking.{looked_by}
use Rattle.lib_wrappers.proofs.ComparingRoutines.Seeks.{own, own_into, own_code, has_start, IsCursor, seeks}
use Rattle.lib_wrappers.proofs.ComparingRoutines.Wraps.{refused, AnswersAlone, GivesAs, answers_act}

-- ---- where the first byte is refused

seek_out : (v : Value) (ch line : ℕ) (x : Source) (left : ℕ) → judge 1 v x.objects ≡ Out
    → seek_within left ch v line x ≡ Ended (Spatial line) x
seek_out v ch line x zero e = refl
seek_out v ch line x (suc left) e =
    ap (λ r. on r (λ z. choose (z == ch) (done v) (choose (z == 0) (done (integer 0))
    (seek_within left ch (moved 1 v) line))))
    (looked_by x v line Out e)

seek_dead : (v : Value) (ch line : ℕ) (x : Source) (left : ℕ) → judge 1 v x.objects ≡ Dead
    → seek_within (suc left) ch v line x ≡ Ended (Temporal line) x
seek_dead v ch line x left e =
    ap (λ r. on r (λ z. choose (z == ch) (done v) (choose (z == 0) (done (integer 0))
    (seek_within left ch (moved 1 v) line))))
    (looked_by x v line Dead e)

-- how many bytes are left behind the first
pub one_reached : (x : Source) (v : Value) (w : Verdict) → judge 1 v x.objects ≡ w → w ≢ Out
    → (left : ℕ) × (reach v ≡ suc left)
one_reached x v w e ne =
    let a = around x.objects v w e ne in
    let hi = a.below in let r = reach_is v a.number a.bounds a.tag_is in
    (a.bounds.bound - v.word - 1, omega arith)

-- a tag of an object is sound by its bounds
pub sound_of : (functions : ℕ) (x : Source) (v : Value) (a : IsAround v.tag v.word)
    → IsSoundTag functions x.objects v.tag → IsTagOf x.objects a.number a.bounds
sound_of functions x v a h = subst (IsSoundTag functions x.objects) a.tag_is h

-- ---- the routine alone

module _ (map : MapSizes) (mapped : AreMapped map) (entry : View) (IsGood : Bytes → Type 0) (functions : ℕ)
    (types : ℕ → ℕ) (k : Keys) (x : Source) (v byte : Value) (charge weight line : ℕ) (f : State) (w : IsOfWords f)
  where
    abbrev g : Views
    g = views_of map functions types entry

    abbrev c : Context
    c = context_of map true charge weight

    abbrev C : List FlatInstruction
    C = own_code line

    abbrev ch : ℕ
    ch = fit Char byte.word

    abbrev R : Outcome → Type 0
    R = IsAnswered g k (Pointer own_into) x f (strchr v byte line x)

    abbrev W : ℕ
    W = work_of (strchr v byte line) x

    abbrev y : State
    y = effects c (Constant 11 1 ∷ []) f

    module _ (stands : IsFor g k IsGood x f) (spells : Spells g k v own f.values)
        (sound : IsSoundTag functions x.objects v.tag) (byte_is : f.values 5 ≡ byte.word) where
      started : (z : State) → IsSameBut 12 y z → (left : ℕ) → (a : IsAround v.tag v.word)
          → v.word + suc left ≡ a.bounds.bound → (live : _)
          → IsCursor map charge weight line g k functions x a.number a.bounds f ch stands.objects.sound
          (bytes_of g k x.objects a.number a.bounds f.memory stands.objects live (sound_of functions x v a sound))
          left v (effects c (seek_start own own_into 5 12) z)
      unfolding put reg_result fit
      started z same left a e live =
          let o = same.others in
          let at : (i : ℕ) → i < 11 → z.values i ≡ y.values i = λ i l. o i (omega arith) tt in
          let five : z.values 5 ≡ byte.word = at 5 (omega arith) ∙ byte_is in
          let bound : z.values 2 ≡ (spell g k v.tag).bound = at 2 (omega arith) ∙ ap (λ q. q.bound) spells.tag in
          let s = same.shows in
          record {
            tag = a.tag_is;
            from = a.from;
            left_is = e;
            cursor = at 0 (omega arith) ∙ spells.word;
            bound = bound ∙ ap (λ t. (spell g k t).bound) a.tag_is;
            sought = omega arith;
            entry = same_metadata (metadata_in z.values own.tag) (metadata_in f.values own.tag) (at 1 (omega arith))
                (at 2 (omega arith)) (at 3 (omega arith)) (at 4 (omega arith)) ∙ spells.tag;
            memory = same.memory;
            shows = record {
              input = s.input;
              output = s.output;
              taken = s.taken;
              accesses = s.accesses;
              turns = s.turns;
            };
          }

      abbrev Spelled : State → Type 0
      Spelled s = Spells g k v own s.values

      spelled : Spelled y
      unfolding put
      spelled = record { word = spells.word; tag = spells.tag }

      size_is : y.values 11 ≡ 1
      unfolding put
      size_is = refl

      judged : Reaches c C 10 (Goes 1 y) 11 (IsJudged (judge 1 v x.objects) line 12 y)
      judged =
          let below : AreBelow 12 (11 ∷ held_registers own) = (
            omega arith,
            (omega arith, (omega arith, (omega arith, (omega arith, (omega arith, tt))))),
          ) in
          (judges own 11 line 12 below g k x.objects v 1 true charge weight mapped).from C 1 y
          (has_front C 1 (judge_code own 11 line 12) (seek_code own own_into 5 line 11 12) (has_self C).1)
          (quiet_words c (Constant 11 1 ∷ []) f (tt, tt) w)
          (record { stands = stands.objects; sound = sound; spells = spelled; size_is = size_is; some = omega arith })

      shows_same : (z : State) → IsSameBut 12 y z → ShowsNothing f z
      shows_same z b = let s = b.shows in record {
        input = s.input;
        output = s.output;
        taken = s.taken;
        accesses = s.accesses;
        turns = s.turns;
      }

      nothing_changed : (z : State) → IsSameBut 12 y z → ChangesNothing f z
      nothing_changed z b = record { memory = b.memory; shows = shows_same z b }

      -- the loop answers for the whole
      sought_then : (z : State) (left spent : ℕ) → strchr v byte line x ≡ seek_within (suc left) ch v line x
          → (state_of (seek_within (suc left) ch v line x)).work ≡ x.work + spent
          → Reaches c C (6 * spent + 5) (Goes 14 z) 31
          (IsAnswered g k (Pointer own_into) x f (seek_within (suc left) ch v line x))
          → Reaches c C (5 + 6 * W) (Goes 14 z) 31 R
      sought_then z left spent is work r =
          let all : (state_of (strchr v byte line x)).work ≡ x.work + spent = ap (λ o. (state_of o).work) is ∙ work in
          let same : W ≡ spent = omega arith in
          weaken c C (6 * spent + 5) (5 + 6 * W) (Goes 14 z) 31 _ R (omega arith)
          (λ o h. subst (λ u. IsAnswered g k (Pointer own_into) x f u o) (sym is) h) r

      behind : (q : Place) → judge 1 v x.objects ≡ Inside q → (z : State) → IsSameBut 12 y z
          → Reaches c C (3 + (5 + 6 * W)) (Goes 11 z) 31 R
      behind q e z same =
          let a = around x.objects v (Inside q) e (inside_not_out q) in
          let live = lives x.objects v a.number a.bounds q a.tag_is e in
          let hi = a.below in
          let left = a.bounds.bound - v.word - 1 in
          let reach_by : reach v ≡ a.bounds.bound - v.word = reach_is v a.number a.bounds a.tag_is in
          let reached : reach v ≡ suc left = omega arith in
          let bytes = bytes_of g k x.objects a.number a.bounds f.memory stands.objects live
          (sound_of functions x v a sound) in
          let is : strchr v byte line x ≡ seek_within (suc left) ch v line x = ap (λ i. seek_within i ch v line x)
          reached in
          let z2 = effects c (seek_start own own_into 5 12) z in
          let r = seeks map charge weight line g k functions x a.number a.bounds f ch stands.objects.sound bytes left
          x.work v z2
          (started z same left a (omega arith) live) in
          line_on c C (seek_start own own_into 5 12) (5 + 6 * W) 11 z 31 R (tt, (tt, (tt, tt))) (has_start line)
          (sought_then z2 left r.spent is r.work r.reaches)

      pub strchr_alone : Reaches c C (20 + 6 * W) (Goes 0 f) 31 R
      strchr_alone =
          weaken c C (1 + (10 + (3 + (5 + 6 * W)))) (20 + 6 * W) (Goes 0 f) 31 R R (omega arith) (λ o h. h)
          (line_on c C (Constant 11 1 ∷ []) (10 + (3 + (5 + 6 * W))) 0 f 31 R (tt, tt) ((has_self C).0, tt)
          (after_judge c C 10 (3 + (5 + 6 * W)) 1 11 31 y line 12 (judge 1 v x.objects) R
          (quiet_words c (Constant 11 1 ∷ []) f (tt, tt) w) judged
          (λ e z same. refused g k (Pointer own_into) x f (strchr v byte line x) (Spatial line) x.work z
          (seek_out v ch line x (reach v) e) (nothing_changed z same))
          (λ e z same.
          let l = one_reached x v Dead e dead_not_out in
          refused g k (Pointer own_into) x f (strchr v byte line x) (Temporal line) x.work z
          (ap (λ i. seek_within i ch v line x) l.1 ∙ seek_dead v ch line x l.0 e) (nothing_changed z same))
          (λ q e z wz same. behind q e z same)))

-- ---- over other registers

abbrev arguments_of : Held → (byte : ℕ) → List ℕ
arguments_of h byte = h.value ∷ h.tag.base ∷ h.tag.bound ∷ h.tag.key ∷ h.tag.lock ∷ byte ∷ []

pub strchr_does : (map : MapSizes) (entry : View) (IsGood : Bytes → Type 0) (h into : Held) (byte line t : ℕ)
    → AreMapped map → AreNoneOf (byte ∷ held_registers h) (held_registers into) → AreDistinct (held_registers into)
    → AreBelow t (byte ∷ held_registers h) → AreBelow t (held_registers into)
    → IsStrchr (runtime_basis map entry IsGood) h byte into line t (strchr_code h byte into line t (t + 1))
strchr_does map entry IsGood h into byte line t mapped none distinct below into_below =
    let ins = arguments_of h byte in
    let scratch = t ∷ (t + 1) ∷ [] in
    let n = none.1 in let b = below.1 in
    let r : AreRegisters ins (held_registers into) scratch t = record {
      none = (n.0, (n.1.0, (n.1.1.0, (n.1.1.1.0, (n.1.1.1.1.0, (none.0, tt))))));
      distinct = distinct;
      ins_below = (b.0, (b.1.0, (b.1.1.0, (b.1.1.1.0, (b.1.1.1.1.0, (below.0, tt))))));
      res_below = into_below;
      from = (omega arith, (omega arith, tt));
      own_distinct = (((λ e. omega (arith, e)), tt), (tt, tt));
    } in
    answers_act map entry IsGood ins scratch t (Pointer into) (Pointer own_into) r (own_code line) refl
    (Pointer h ∷ Word byte ∷ []) (λ vs. strchr (argument 0 vs) (argument 1 vs) line) 20 6
    alone given
  where
    alone : AnswersAlone map entry IsGood (register_of (arguments_of h byte) (held_registers into) (t ∷ (t + 1) ∷ []))
        (own_code line) (Pointer h ∷ Word byte ∷ []) (Pointer own_into)
        (λ vs. strchr (argument 0 vs) (argument 1 vs) line) 20 6
    alone functions types k x [] charge weight s w stands held = absurd held
    alone functions types k x (v ∷ []) charge weight s w stands held = absurd held.1
    alone functions types k x (v ∷ u ∷ []) charge weight s w stands held =
        strchr_alone map mapped entry IsGood functions types k x v u charge weight line _ w
        (record {
          objects = stands.objects;
          spaces = stands.spaces;
          keys = stands.keys;
          shown = (let z = stands.shown in
              record { input = z.input; output = z.output; taken = z.taken; accesses = z.accesses });
        })
        (record { word = held.0.0.word; tag = held.0.0.tag }) held.0.1 held.1.0
    alone functions types k x (v ∷ u ∷ z ∷ vs) charge weight s w stands held = absurd held.1.1

    given : GivesAs 13 (register_of (arguments_of h byte) (held_registers into) (t ∷ (t + 1) ∷ [])) (Pointer own_into)
        (Pointer into)
    given gs k v u s agrees h = record {
      word = sym (agrees.values 6 (omega arith)) ∙ h.word;
      tag = same_metadata (metadata_in s.values into.tag) (metadata_in u.values own_into.tag)
          (sym (agrees.values 7 (omega arith))) (sym (agrees.values 8 (omega arith)))
          (sym (agrees.values 9 (omega arith))) (sym (agrees.values 10 (omega arith))) ∙ h.tag;
    }
