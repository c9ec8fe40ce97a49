-- `strcmp` in flat code is the source's.
use Rattle.std.proofs.Common.{◌≡◌, ℕ, zero, suc, ◌+◌, ◌-◌, ◌*◌, ◌<◌, List, [], ◌∷◌, refl, sym, ap, ◌∙◌}
use Rattle.std.proofs.Common.{subst, arith, true}
use Rattle.sb_base.specs.declared.ending.Ending.TheVariants.{Spatial, Temporal}
use Rattle.addr_map.specs.Places.{MapSizes, AreMapped}
use Rattle.obj_memory.specs.declared.value.Value.{Value}
use Rattle.obj_memory.specs.declared.value.Place.{Place}
use Rattle.obj_memory.specs.declared.judgement.Verdict.TheVariants.{Outside as Out, Dead, Inside}
use Rattle.obj_memory.specs.Judgement.{judge, moved}
use Rattle.obj_memory.specs.Sound.{IsSoundTag}
use Rattle.source_meaning.specs.State.{State as Source, Ended, on, done, choose}
use Rattle.source_meaning.specs.Acting.{at_work, state_of}
use Rattle.source_meaning.specs.Bytes.{look, order}
use Rattle.source_meaning.specs.Strings.{reach, go_on, compare_within, strcmp}
use Rattle.source_meaning.specs.Library.{argument}
use Rattle.flat_code.specs.declared.instruction.FlatInstruction.{FlatInstruction}
use Rattle.flat_code.specs.declared.instruction.FlatInstruction.TheVariants.{Constant, Move}
use Rattle.flat_code.specs.Memory.{Bytes, put}
use Rattle.flat_code.specs.State.{State}
use Rattle.flat_code.specs.Words.{IsOfWords}
use Rattle.flat_code.specs.Meaning.{Context, Goes}
use Rattle.flat_code.specs.declared.registers.Held.{Held}
use Rattle.flat_code.specs.Routines.Registers.{AreNoneOf, AreBelow}
use Rattle.flat_code.specs.Routines.Routine.{Outcome, Reaches}
use Rattle.flat_code.specs.Routines.Effects.{effects}
use Rattle.flat_code.specs.Routines.Metadata.{View, metadata_in, held_registers, ShowsNothing}
use Rattle.flat_code.proofs.Routines.Steps.{has_self}
use Rattle.flat_code.proofs.Routines.Rules.{weaken, line_on}
use Rattle.flat_code.proofs.Routines.Distinct.{AreRegisters, register_of}
use Rattle.flat_code.proofs.Routines.Words.{same_metadata}
use Rattle.flat_code.specs.Routines.Objects.StandsFor.{Views, Keys, spell, Spells, StandsFor}
use Rattle.shadow_space.proofs.Entries.{context_of}
use Rattle.flat_code.proofs.Routines.Spaces.Quiet.{quiet_words}
use Rattle.flat_actions.specs.Judgement.Judging.{IsSameBut, IsJudged}
use Rattle.flat_actions.proofs.Judgement.Judges.{judges}
use Rattle.flat_actions.specs.Actions.{ChangesNothing}
use Rattle.flat_actions.specs.Actions.{IsFor, Word, Pointer, views_of, work_of, runtime_basis}
use Rattle.flat_actions.proofs.Judged.{after_judge}
use Rattle.lib_wrappers.specs.ComparingRoutines.Answering.{IsAnswered}
use Rattle.lib_wrappers.specs.ComparingRoutines.Comparing.{strcmp_code, IsStrcmp}
use Rattle.flat_actions.proofs.Looking.{inside_not_out, dead_not_out, looked, around, lives, reach_is}
use Rattle.lib_wrappers.proofs.ComparingRoutines.Looks.{byte_of}
use Rattle.flat_actions.proofs.Looking.{looked_by}
use Rattle.lib_wrappers.proofs.ComparingRoutines.Looks.{bytes_of}
use Rattle.lib_wrappers.proofs.ComparingRoutines.Sought.{one_reached, sound_of}
use Rattle.lib_wrappers.proofs.ComparingRoutines.Pairs.{own_left, own_right, own_strcmp, has_left, has_right}
use Rattle.lib_wrappers.proofs.ComparingRoutines.Pairs.{has_cursors}
use Rattle.lib_wrappers.proofs.ComparingRoutines.Pairs.{ArePaired}
use Rattle.lib_wrappers.proofs.ComparingRoutines.Pairs.{compares}
use Rattle.lib_wrappers.proofs.ComparingRoutines.Wraps.{refused, AnswersAlone, GivesAs, answers_act}
use Rattle.flat_actions.proofs.Standing.{same_then}

-- ---- where a first byte is refused

left_out : (a b : Value) (line : ℕ) (x : Source) (left : ℕ) → judge 1 a x.objects ≡ Out
    → compare_within left a b line x ≡ Ended (Spatial line) x
left_out a b line x zero e = refl
left_out a b line x (suc left) e =
    ap (λ r. on r (λ z s. on (look b line s) (λ u. choose (go_on z u) (compare_within left (moved 1 a) (moved 1 b) line)
    (done (order z u))))) (looked_by x a line Out e)

left_dead : (a b : Value) (line : ℕ) (x : Source) (left : ℕ) → judge 1 a x.objects ≡ Dead
    → compare_within (suc left) a b line x ≡ Ended (Temporal line) x
left_dead a b line x left e =
    ap (λ r. on r (λ z s. on (look b line s) (λ u. choose (go_on z u) (compare_within left (moved 1 a) (moved 1 b) line)
    (done (order z u))))) (looked_by x a line Dead e)

-- ---- the routine alone

module _ (map : MapSizes) (mapped : AreMapped map) (entry : View) (IsGood : Bytes → Type 0) (functions : ℕ)
    (types : ℕ → ℕ) (k : Keys) (x : Source) (a b : Value) (charge weight line : ℕ) (f : State) (w : IsOfWords f) where
  abbrev g : Views
  g = views_of map functions types entry

  abbrev c : Context
  c = context_of map true charge weight

  abbrev C : List FlatInstruction
  C = own_strcmp line

  abbrev R : Outcome → Type 0
  R = IsAnswered g k (Word 10) x f (strcmp a b line x)

  abbrev W : ℕ
  W = work_of (strcmp a b line) x

  abbrev y : State
  y = effects c (Constant 13 1 ∷ []) f

  -- the source after the first byte of the first string
  abbrev x1 : Source
  x1 = at_work (x.work + 1) x

  module _ (stands : IsFor g k IsGood x f) (left_spells : Spells g k a own_left f.values)
      (left_sound : IsSoundTag functions x.objects a.tag) (right_spells : Spells g k b own_right f.values)
      (right_sound : IsSoundTag functions x.objects b.tag) where
    size_is : y.values 13 ≡ 1
    unfolding put
    size_is = refl

    left_spelled : Spells g k a own_left y.values
    unfolding put
    left_spelled = record { word = left_spells.word; tag = left_spells.tag }

    right_there : Spells g k b own_right y.values
    unfolding put
    right_there = record { word = right_spells.word; tag = right_spells.tag }

    kept : (z : State) → IsSameBut 14 y z → (i : ℕ) → i < 14 → z.values i ≡ y.values i
    kept z same i l = same.others i l tt

    right_spelled : (z : State) → IsSameBut 14 y z → Spells g k b own_right z.values
    right_spelled z same =
        let o = kept z same in
        record {
          word = o 5 (omega arith) ∙ right_there.word;
          tag = same_metadata (metadata_in z.values own_right.tag) (metadata_in y.values own_right.tag)
              (o 6 (omega arith))
              (o 7 (omega arith)) (o 8 (omega arith)) (o 9 (omega arith)) ∙ right_there.tag;
        }

    left_judged : Reaches c C 10 (Goes 1 y) 11 (IsJudged (judge 1 a x.objects) line 14 y)
    left_judged =
        let below : AreBelow 14 (13 ∷ held_registers own_left) =
        (omega arith, (omega arith, (omega arith, (omega arith, (omega arith, (omega arith, tt)))))) in
        (judges own_left 13 line 14 below g k x.objects a 1 true charge weight mapped).from C 1 y (has_left line)
        (quiet_words c (Constant 13 1 ∷ []) f (tt, tt) w)
        (record {
          stands = stands.objects;
          sound = left_sound;
          spells = left_spelled;
          size_is = size_is;
          some = omega
              arith;
        })

    right_judged : (z : State) → IsOfWords z → IsSameBut 14 y z
        → Reaches c C 10 (Goes 11 z) 21 (IsJudged (judge 1 b x.objects) line 14 z)
    right_judged z wz same =
        let below : AreBelow 14 (13 ∷ held_registers own_right) =
        (omega arith, (omega arith, (omega arith, (omega arith, (omega arith, (omega arith, tt)))))) in
        (judges own_right 13 line 14 below g k x.objects b 1 true charge weight mapped).from C 11 z (has_right line) wz
        (record {
          stands = subst (StandsFor g k x.objects) (sym same.memory) stands.objects;
          sound = right_sound;
          spells = right_spelled z same;
          size_is = kept z same 13 (omega arith) ∙ size_is;
          some = omega arith;
        })

    shows_same : (z : State) → IsSameBut 14 y z → ShowsNothing f z
    shows_same z b = let s = b.shows in record {
      input = s.input;
      output = s.output;
      taken = s.taken;
      accesses = s.accesses;
      turns = s.turns;
    }

    nothing_changed : (z : State) → IsSameBut 14 y z → ChangesNothing f z
    nothing_changed z b = record { memory = b.memory; shows = shows_same z b }

    -- both first bytes may be looked at
    module _ (p : Place) (left_inside : judge 1 a x.objects ≡ Inside p) where
      abbrev left : ℕ
      left = (around x.objects a (Inside p) left_inside (inside_not_out p)).bounds.bound - a.word - 1

      run_is : strcmp a b line x ≡ compare_within (suc left) a b line x
      run_is =
          let r = around x.objects a (Inside p) left_inside (inside_not_out p) in
          let hi = r.below in
          let e : reach a ≡ suc left = reach_is a r.number r.bounds r.tag_is ∙ omega arith in
          ap (λ i. compare_within i a b line x) e

      -- the first byte of the second string is looked at then
      next_is : (z : ℕ) × (strcmp a b line x ≡ on (look b line x1) (λ u.
          choose (go_on z u) (compare_within left (moved 1 a) (moved 1 b) line) (done (order z u))))
      next_is =
          let r = around x.objects a (Inside p) left_inside (inside_not_out p) in
          let live = lives x.objects a r.number r.bounds p r.tag_is left_inside in (
            byte_of x.objects r.number a.word,
            run_is ∙ ap (λ r. on r (λ z s. on (look b line s) (λ u.
                choose (go_on z u) (compare_within left (moved 1 a) (moved 1 b) line) (done (order z u)))))
                (looked functions x r.number r.bounds a line stands.objects.sound r.tag_is live r.from r.below),
          )

      -- the loop answers for the whole
      compared_then : (z : State) (spent : ℕ) → (state_of (compare_within (suc left) a b line x)).work ≡ x.work + spent
          → Reaches c C (5 * spent) (Goes 23 z) 37 (IsAnswered g k (Word 10) x f (compare_within (suc left) a b line x))
          → Reaches c C (5 * W) (Goes 23 z) 37 R
      compared_then z spent work r =
          let all : (state_of (strcmp a b line x)).work ≡ x.work + spent = ap (λ o. (state_of o).work) run_is ∙ work in
          let same : W ≡ spent = omega arith in
          weaken c C (5 * spent) (5 * W) (Goes 23 z) 37 _ R (omega arith)
          (λ o h. subst (λ u. IsAnswered g k (Word 10) x f u o) (sym run_is) h) r

      behind : (q : Place) → judge 1 b x.objects ≡ Inside q → (z : State) → IsSameBut 14 y z
          → Reaches c C (2 + 5 * W) (Goes 21 z) 37 R
      unfolding put
      behind q right_inside z same =
          let r = around x.objects a (Inside p) left_inside (inside_not_out p) in
          let s = around x.objects b (Inside q) right_inside (inside_not_out q) in
          let live = lives x.objects a r.number r.bounds p r.tag_is left_inside in
          let live' = lives x.objects b s.number s.bounds q s.tag_is right_inside in
          let hi = r.below in let hi' = s.below in
          let left' = s.bounds.bound - b.word - 1 in
          let bytes = bytes_of g k x.objects r.number r.bounds f.memory stands.objects live
          (sound_of functions x a r left_sound) in
          let bytes' = bytes_of g k x.objects s.number s.bounds f.memory stands.objects live'
          (sound_of functions x b s right_sound) in
          let z2 = effects c (Move 11 0 ∷ Move 12 5 ∷ []) z in
          let o = kept z same in
          let shows = shows_same z same in
          let paired : ArePaired map charge weight line g k functions x r.number r.bounds s.number s.bounds f
          stands.objects.sound bytes bytes' left left' a b z2 =
          record {
            tag = r.tag_is;
            from = r.from;
            left_is = omega arith;
            tag' = s.tag_is;
            from' = s.from;
            left_is' = omega arith;
            cursor = o 0 (omega arith) ∙ left_spells.word;
            other = o 5 (omega arith) ∙ right_spells.word;
            bound = o 2 (omega arith) ∙ ap (λ q. q.bound) left_spells.tag ∙ ap (λ t. (spell g k t).bound) r.tag_is;
            other_bound = o 7 (omega arith) ∙ ap (λ q. q.bound) right_spells.tag
                ∙ ap (λ t. (spell g k t).bound) s.tag_is;
            memory = same.memory;
            shows = record {
              input = shows.input;
              output = shows.output;
              taken = shows.taken;
              accesses = shows.accesses;
              turns = shows.turns;
            };
          } in
          let got = compares map charge weight line g k functions x r.number r.bounds s.number s.bounds f
          stands.objects.sound bytes bytes' left left' x.work a b z2 paired in
          line_on c C (Move 11 0 ∷ Move 12 5 ∷ []) (5 * W) 21 z 37 R (tt, (tt, tt))
          ((has_cursors line).0, ((has_cursors line).1.0, tt)) (compared_then z2 got.spent got.work got.reaches)

      right_part : (z : State) → IsOfWords z → IsSameBut 14 y z → Reaches c C (10 + (2 + 5 * W)) (Goes 11 z) 37 R
      right_part z wz same =
          after_judge c C 10 (2 + 5 * W) 11 21 37 z line 14 (judge 1 b x.objects) R wz (right_judged z wz same)
          (λ e z2 same2. refused g k (Word 10) x f (strcmp a b line x) (Spatial line) (x.work + 1) z2
          (next_is.1 ∙ ap (λ r. on r (λ u. choose (go_on next_is.0 u) (compare_within left (moved 1 a) (moved 1 b) line)
          (done (order next_is.0 u)))) (looked_by x1 b line Out e))
          (nothing_changed z2 (same_then 14 y z z2 same same2)))
          (λ e z2 same2. refused g k (Word 10) x f (strcmp a b line x) (Temporal line) (x.work + 1) z2
          (next_is.1 ∙ ap (λ r. on r (λ u. choose (go_on next_is.0 u) (compare_within left (moved 1 a) (moved 1 b) line)
          (done (order next_is.0 u)))) (looked_by x1 b line Dead e))
          (nothing_changed z2 (same_then 14 y z z2 same same2)))
          (λ q e z2 wz2 same2. behind q e z2 (same_then 14 y z z2 same same2))

    pub strcmp_alone : Reaches c C (24 + 5 * W) (Goes 0 f) 37 R
    strcmp_alone =
        weaken c C (1 + (10 + (10 + (2 + 5 * W)))) (24 + 5 * W) (Goes 0 f) 37 R R (omega arith) (λ o h. h)
        (line_on c C (Constant 13 1 ∷ []) (10 + (10 + (2 + 5 * W))) 0 f 37 R (tt, tt) ((has_self C).0, tt)
        (after_judge c C 10 (10 + (2 + 5 * W)) 1 11 37 y line 14 (judge 1 a x.objects) R
        (quiet_words c (Constant 13 1 ∷ []) f (tt, tt) w) left_judged
        (λ e z same. refused g k (Word 10) x f (strcmp a b line x) (Spatial line) x.work z
        (left_out a b line x (reach a) e)
        (nothing_changed z same))
        (λ e z same.
        let l = one_reached x a Dead e dead_not_out in
        refused g k (Word 10) x f (strcmp a b line x) (Temporal line) x.work z
        (ap (λ i. compare_within i a b line x) l.1 ∙ left_dead a b line x l.0 e) (nothing_changed z same))
        (λ p e z wz same. right_part p e z wz same)))

-- ---- over other registers

abbrev arguments_of : Held → Held → List ℕ
arguments_of a b =
    a.value ∷ a.tag.base ∷ a.tag.bound ∷ a.tag.key ∷ a.tag.lock ∷ b.value ∷ b.tag.base ∷ b.tag.bound ∷ b.tag.key
    ∷ b.tag.lock ∷ []

pub strcmp_does : (map : MapSizes) (entry : View) (IsGood : Bytes → Type 0) (a b : Held) (into line t : ℕ)
    → AreMapped map → AreNoneOf (held_registers a) (into ∷ []) → AreNoneOf (held_registers b) (into ∷ [])
    → AreBelow t (held_registers a) → AreBelow t (held_registers b) → AreBelow t (into ∷ [])
    → IsStrcmp (runtime_basis map entry IsGood) a b into line t (strcmp_code a b into line t (t + 1) (t + 2) (t + 3))
strcmp_does map entry IsGood a b into line t mapped none none' below below' into_below =
    let ins = arguments_of a b in
    let scratch = t ∷ (t + 1) ∷ (t + 2) ∷ (t + 3) ∷ [] in
    let r : AreRegisters ins (into ∷ []) scratch t = record {
      none = (none.0, (none.1.0, (none.1.1.0, (none.1.1.1.0, (none.1.1.1.1.0, none')))));
      distinct = (tt, tt);
      ins_below = (below.0, (below.1.0, (below.1.1.0, (below.1.1.1.0, (below.1.1.1.1.0, below')))));
      res_below = into_below;
      from = (omega arith, (omega arith, (omega arith, (omega arith, tt))));
      own_distinct = (
        ((λ e. omega (arith, e)), ((λ e. omega (arith, e)), ((λ e. omega (arith, e)), tt))),
        (
          ((λ e. omega (arith, e)), ((λ e. omega (arith, e)), tt)),
          (((λ e. omega (arith, e)), tt), (tt, tt)),
        ),
      );
    } in
    answers_act map entry IsGood ins scratch t (Word into) (Word 10) r (own_strcmp line) refl
    (Pointer a ∷ Pointer b ∷ [])
    (λ vs. strcmp (argument 0 vs) (argument 1 vs) line) 24 5 alone given
  where
    alone : AnswersAlone map entry IsGood (register_of (arguments_of a b) (into ∷ [])
        (t ∷ (t + 1) ∷ (t + 2) ∷ (t + 3) ∷ []))
        (own_strcmp line) (Pointer a ∷ Pointer b ∷ []) (Word 10) (λ vs. strcmp (argument 0 vs) (argument 1 vs) line) 24
        5
    alone functions types k x [] charge weight s w stands held = absurd held
    alone functions types k x (v ∷ []) charge weight s w stands held = absurd held.1
    alone functions types k x (v ∷ u ∷ []) charge weight s w stands held =
        strcmp_alone map mapped entry IsGood functions types k x v u charge weight line _ w
        (record {
          objects = stands.objects;
          spaces = stands.spaces;
          keys = stands.keys;
          shown = (let z = stands.shown in
              record { input = z.input; output = z.output; taken = z.taken; accesses = z.accesses });
        })
        (record { word = held.0.0.word; tag = held.0.0.tag }) held.0.1
        (record { word = held.1.0.0.word; tag = held.1.0.0.tag }) held.1.0.1
    alone functions types k x (v ∷ u ∷ z ∷ vs) charge weight s w stands held = absurd held.1.1

    given : GivesAs 15 (register_of (arguments_of a b) (into ∷ []) (t ∷ (t + 1) ∷ (t + 2) ∷ (t + 3) ∷ [])) (Word 10)
        (Word into)
    given gs k v u s agrees h = sym (agrees.values 10 (omega arith)) ∙ h
