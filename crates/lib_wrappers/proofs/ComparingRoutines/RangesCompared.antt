-- `memcmp` in flat code is the source's.
use Rattle.std.proofs.Common.{◌≡◌, ◌≢◌, ℕ, suc, ◌+◌, ◌*◌, ◌<◌, ⊎_elim, List, [], ◌∷◌, true}
use Rattle.std.proofs.Common.{get_or, drop, refl, sym, ap, ◌∙◌, subst, arith}
use Rattle.std.proofs.lemmas.Bool.{cases_eq, eq-eqb, ne_eqb}
use Rattle.std.proofs.lemmas.List.{get_or-drop, get_or-take}
use Rattle.sb_base.specs.declared.ending.Ending.TheVariants.{Spatial, Temporal}
use Rattle.addr_map.specs.Places.{MapSizes, AreMapped}
use Rattle.rv_isa.specs.declared.instruction.BranchOp.TheVariants.{Beq}
use Rattle.rv_isa.specs.Results.{reg_result}
use Rattle.obj_memory.specs.declared.value.Value.{Value}
use Rattle.obj_memory.specs.declared.value.Place.{Place}
use Rattle.obj_memory.specs.declared.judgement.Verdict.{Verdict}
use Rattle.obj_memory.specs.declared.judgement.Verdict.TheVariants.{Outside as Out, Dead, Inside}
use Rattle.obj_memory.specs.Objects.{object_at}
use Rattle.obj_memory.specs.Judgement.{judge}
use Rattle.obj_memory.specs.Access.{bytes_at}
use Rattle.obj_memory.specs.Sound.{IsSoundTag, IsAllowed}
use Rattle.obj_memory.proofs.Judging.{judge_inside}
use Rattle.obj_memory.proofs.Soundness.{length-bytes_at}
use Rattle.source_meaning.specs.State.{State as Source, Outcome as Completed, Gives, Run, ◌>>=◌, ◌>>◌, done, read_state}
use Rattle.source_meaning.specs.State.{tally, choose}
use Rattle.source_meaning.specs.Acting.{at_work, state_of}
use Rattle.source_meaning.specs.Actions.{integer, located}
use Rattle.source_meaning.specs.Memory.{pairs_compared, order_of, memcmp}
use Rattle.source_meaning.specs.Library.{argument}
use Rattle.flat_code.specs.declared.instruction.RightOperand.TheVariants.{Number}
use Rattle.flat_code.specs.declared.instruction.FlatInstruction.{FlatInstruction}
use Rattle.flat_code.specs.declared.instruction.FlatInstruction.TheVariants.{Constant}
use Rattle.flat_code.specs.Memory.{Bytes, put}
use Rattle.flat_code.specs.State.{State}
use Rattle.flat_code.specs.Words.{IsOfWords}
use Rattle.flat_code.specs.Meaning.{Context, Goes}
use Rattle.flat_code.specs.declared.registers.Held.{Held}
use Rattle.flat_code.specs.Routines.Registers.{AreNoneOf, AreBelow}
use Rattle.flat_code.specs.Routines.Routine.{Outcome, Continues, Halts, Reaches, Either, Never}
use Rattle.flat_code.specs.Routines.Effects.{worked, effects}
use Rattle.flat_code.specs.Routines.Metadata.{View, metadata_in, held_registers, ShowsNothing}
use Rattle.flat_code.proofs.Routines.Steps.{has_self}
use Rattle.flat_code.proofs.Routines.Rules.{weaken, line_on, branch, arrived}
use Rattle.flat_code.proofs.Routines.Regions.{laid_out, object_allowed}
use Rattle.flat_code.proofs.Routines.Distinct.{AreRegisters, register_of}
use Rattle.flat_code.proofs.Routines.Words.{same_metadata}
use Rattle.flat_code.proofs.Routines.Branches.{if_equal, if_unequal}
use Rattle.flat_code.specs.Routines.Objects.StandsFor.{Views, Keys, Spells, StandsFor}
use Rattle.shadow_space.proofs.Entries.{context_of}
use Rattle.flat_code.proofs.Routines.Spaces.Quiet.{quiet_words, worked_words}
use Rattle.flat_actions.specs.Judgement.Judging.{IsSameBut, IsJudged}
use Rattle.flat_actions.proofs.Judgement.Judges.{judges}
use Rattle.flat_actions.specs.Actions.{ChangesNothing}
use Rattle.flat_actions.specs.Actions.{IsFor, Word, Pointer, views_of, work_of, runtime_basis}
use Rattle.flat_actions.proofs.Judged.{judged_then, located_then, after_judge}
use Rattle.lib_wrappers.specs.ComparingRoutines.Answering.{IsAnswered}
use Rattle.lib_wrappers.specs.ComparingRoutines.Comparing.{memcmp_code, IsMemcmp}
use Rattle.lib_wrappers.proofs.ComparingRoutines.Pairs.{own_left, own_right}
use Rattle.flat_actions.proofs.Standing.{same_then}
use Rattle.lib_wrappers.proofs.ComparingRoutines.Ranges.{own_memcmp, has_first, has_second, has_range_start}
use Rattle.lib_wrappers.proofs.ComparingRoutines.Ranges.{range_start, StandsAt}
use Rattle.lib_wrappers.proofs.ComparingRoutines.Ranges.{AreRanged, HasOrder, compares_ranges}
use Rattle.lib_wrappers.proofs.ComparingRoutines.Wraps.{refused, AnswersAlone, GivesAs, answers_act}

-- ---- in the source

module _ (a b size : Value) (line : ℕ) (x : Source) where
  -- what is done at both places
  abbrev compared : Place → Place → Completed Value
  compared p q =
      Gives (order_of (bytes_at size.word p x.objects) (bytes_at size.word q x.objects))
      (at_work (x.work + 2 * pairs_compared (bytes_at size.word p x.objects) (bytes_at size.word q x.objects)) x)

  abbrev at_both : Place → Place → Run Value
  at_both left right = read_state (λ s. bytes_at size.word left s.objects) >>= (λ xs.
      read_state (λ s. bytes_at size.word right s.objects) >>= (λ ys.
      tally (2 * pairs_compared xs ys) >> done (order_of xs ys)))

  abbrev at_first : Place → Run Value
  at_first left = located true size.word b line >>= at_both left

  empty_is : size.word ≡ 0 → memcmp a b size line x ≡ Gives (integer 0) x
  empty_is e =
      ap (λ z. choose z (done (integer 0)) (located true size.word a line >>= at_first) x)
      (eq-eqb size.word 0 e)

  by_first : size.word ≢ 0 → (w : Verdict) → judge size.word a x.objects ≡ w
      → memcmp a b size line x ≡ judged_then w line x (λ p. at_first p x)
  by_first ne w e =
      ap (λ z. choose z (done (integer 0)) (located true size.word a line >>= at_first) x) (ne_eqb size.word 0 ne)
      ∙ located_then size.word a line x at_first ∙ ap (λ z. judged_then z line x (λ p. at_first p x)) e

  by_second : (p : Place) (w : Verdict) → judge size.word b x.objects ≡ w
      → at_first p x ≡ judged_then w line x (λ q. compared p q)
  by_second p w e =
      located_then size.word b line x (at_both p) ∙ ap (λ z. judged_then z line x (λ q. at_both p q x)) e

-- ---- in memory

bytes_stand : (g : Views) (k : Keys) (x : Source) (charge weight line : ℕ) (f : State) (v : Value) (n : ℕ) (p : Place)
    → AreMapped g.sizes → StandsFor g k x.objects f.memory → IsAllowed x.objects v n p
    → StandsAt g.sizes charge weight line f (bytes_at n p x.objects) v.word
bytes_stand g k x charge weight line f v n p mapped st al =
    let o = object_at x.objects p.object in
    let long = length-bytes_at n p x.objects st.sound al.place in
    let room = al.place.room in let at = al.address in
    let first = (st.placed p.object al.live).first in let last = (st.placed p.object al.live).last in
    let small = (laid_out g.sizes mapped).small in
    record {
      there = λ i l. (let e : o.address + (p.offset + i) ≡ v.word + i = omega arith in
          subst (λ z. f.memory z ≡ get_or o.bytes (p.offset + i) 0) e
          ((st.here p.object al.live).bytes (p.offset + i) (omega arith))
          ∙ sym (get_or-drop p.offset o.bytes i 0)
          ∙ sym (get_or-take n (drop p.offset o.bytes) i 0 (omega arith)));
      allowed = λ i l. object_allowed g.sizes (v.word + i) (v.word + i) 1 refl (omega arith) (omega arith);
      small = omega arith;
    }

-- ---- the routine alone

module _ (map : MapSizes) (mapped : AreMapped map) (entry : View) (IsGood : Bytes → Type 0) (functions : ℕ)
    (types : ℕ → ℕ) (k : Keys) (x : Source) (a b size : Value) (charge weight line : ℕ) (f : State) (w : IsOfWords f)
  where
    abbrev g : Views
    g = views_of map functions types entry

    abbrev c : Context
    c = context_of map true charge weight

    abbrev C : List FlatInstruction
    C = own_memcmp line

    abbrev run : Completed Value
    run = memcmp a b size line x

    abbrev R : Outcome → Type 0
    R = IsAnswered g k (Word 11) x f run

    abbrev W : ℕ
    W = work_of (memcmp a b size line) x

    abbrev y : State
    y = effects c (Constant 11 0 ∷ []) f

    module _ (stands : IsFor g k IsGood x f) (left_spells : Spells g k a own_left f.values)
        (left_sound : IsSoundTag functions x.objects a.tag) (right_spells : Spells g k b own_right f.values)
        (right_sound : IsSoundTag functions x.objects b.tag) (size_given : f.values 10 ≡ size.word) where
      record IsBegun : Type 0 where
        size_is : y.values 10 ≡ size.word
        none : y.values 11 ≡ 0
        left : Spells g k a own_left y.values
        right : Spells g k b own_right y.values

      begun : IsBegun
      unfolding put
      begun = record {
        size_is = size_given;
        none = refl;
        left = record { word = left_spells.word; tag = left_spells.tag };
        right = record { word = right_spells.word; tag = right_spells.tag };
      }

      wy : IsOfWords (worked c y)
      wy = worked_words c y (quiet_words c (Constant 11 0 ∷ []) f (tt, tt) w)

      -- where there are none
      empty : size.word ≡ 0 → Reaches c C 1 (Goes 1 y) 35 R
      empty e =
          branch c C 0 1 y Beq 10 (Number 0) 33 35 R (has_self C).1.0
          (λ t. arrived c C 0 (worked c y) 35 35 R refl
          (subst (λ o. IsAnswered g k (Word 11) x f o (Continues (worked c y))) (sym (empty_is a b size line x e))
          (record {
            source = record { work = x.work; same = refl };
            memory = refl;
            shows = record { input = refl; output = refl; taken = refl; accesses = refl; turns = refl };
            given = begun.none;
          })))
          (λ t. absurd (if_unequal _ _ t (begun.size_is ∙ e)))

      module _ (ne : size.word ≢ 0) where
        kept : (z : State) → IsSameBut 12 (worked c y) z → (i : ℕ) → i < 12 → z.values i ≡ y.values i
        kept z same i l = same.others i l tt

        right_spelled : (z : State) → IsSameBut 12 (worked c y) z → Spells g k b own_right z.values
        right_spelled z same =
            let o = kept z same in
            record {
              word = o 5 (omega arith) ∙ begun.right.word;
              tag = same_metadata (metadata_in z.values own_right.tag) (metadata_in y.values own_right.tag)
                  (o 6 (omega arith)) (o 7 (omega arith)) (o 8 (omega arith)) (o 9 (omega arith)) ∙ begun.right.tag;
            }

        left_judged : Reaches c C 10 (Goes 2 (worked c y)) 12 (IsJudged (judge size.word a x.objects) line 12
            (worked c y))
        left_judged =
            let below : AreBelow 12 (10 ∷ held_registers own_left) =
            (omega arith, (omega arith, (omega arith, (omega arith, (omega arith, (omega arith, tt)))))) in
            (judges own_left 10 line 12 below g k x.objects a size.word true charge weight mapped).from C 2 (worked c y)
            (has_first line) wy
            (record {
              stands = stands.objects;
              sound = left_sound;
              spells = record { word = begun.left.word; tag = begun.left.tag };
              size_is = begun.size_is;
              some = omega (arith, ne);
            })

        right_judged : (z : State) → IsOfWords z → IsSameBut 12 (worked c y) z
            → Reaches c C 10 (Goes 12 z) 22 (IsJudged (judge size.word b x.objects) line 12 z)
        right_judged z wz same =
            let below : AreBelow 12 (10 ∷ held_registers own_right) =
            (omega arith, (omega arith, (omega arith, (omega arith, (omega arith, (omega arith, tt)))))) in
            (judges own_right 10 line 12 below g k x.objects b size.word true charge weight mapped).from C 12 z
            (has_second line) wz
            (record {
              stands = subst (StandsFor g k x.objects) (sym same.memory) stands.objects;
              sound = right_sound;
              spells = right_spelled z same;
              size_is = kept z same 10 (omega arith) ∙ begun.size_is;
              some = omega (arith, ne);
            })

        shows_same : (z : State) → IsSameBut 12 (worked c y) z → ShowsNothing f z
        shows_same z b = let s = b.shows in record {
          input = s.input;
          output = s.output;
          taken = s.taken;
          accesses = s.accesses;
          turns = s.turns;
        }

        nothing_changed : (z : State) → IsSameBut 12 (worked c y) z → ChangesNothing f z
        nothing_changed z b = record { memory = b.memory; shows = shows_same z b }

        module _ (p q : Place) (first : judge size.word a x.objects ≡ Inside p)
            (second : judge size.word b x.objects ≡ Inside q) where
          abbrev xs : List ℕ
          xs = bytes_at size.word p x.objects

          abbrev ys : List ℕ
          ys = bytes_at size.word q x.objects

          run_is : run ≡ compared a b size line x p q
          run_is = by_first a b size line x ne (Inside p) first ∙ by_second a b size line x p (Inside q) second

          ranged : (z : State) → IsSameBut 12 (worked c y) z
              → AreRanged map charge weight line f xs ys a.word b.word (effects c range_start z)
          unfolding put reg_result
          ranged z same =
              let al = judge_inside functions x.objects size.word a p left_sound first in
              let bl = judge_inside functions x.objects size.word b q right_sound second in
              let here = bytes_stand g k x charge weight line f a size.word p mapped stands.objects al in
              let there = bytes_stand g k x charge weight line f b size.word q mapped stands.objects bl in
              let long = length-bytes_at size.word p x.objects stands.objects.sound al.place in
              let long' = length-bytes_at size.word q x.objects stands.objects.sound bl.place in
              let o = kept z same in let small = here.small in
              let left : z.values 0 ≡ a.word = o 0 (omega arith) ∙ begun.left.word in
              let count : z.values 10 ≡ size.word = o 10 (omega arith) ∙ begun.size_is in
              let shows = shows_same z same in
              record {
                long = omega arith;
                first = here;
                second = there;
                cursor = left;
                other = o 5 (omega arith) ∙ begun.right.word;
                end = omega arith;
                none = o 11 (omega arith) ∙ begun.none;
                memory = same.memory;
                shows = record {
                  input = shows.input;
                  output = shows.output;
                  taken = shows.taken;
                  accesses = shows.accesses;
                  turns = shows.turns;
                };
              }

          behind : (z : State) → IsSameBut 12 (worked c y) z → Reaches c C (3 + 4 * W) (Goes 22 z) 35 R
          behind z same =
              let al = judge_inside functions x.objects size.word a p left_sound first in
              let long = length-bytes_at size.word p x.objects stands.objects.sound al.place in
              let all : (state_of run).work ≡ x.work + 2 * pairs_compared xs ys = ap (λ o. (state_of o).work) run_is in
              let work : W ≡ 2 * pairs_compared xs ys = omega arith in
              line_on c C range_start (4 * W) 22 z 35 R (tt, (tt, (tt, tt))) (has_range_start line)
              (weaken c C (7 * pairs_compared xs ys) (4 * W) (Goes 25 (effects c range_start z)) 35 _ R (omega arith)
              ends
              (compares_ranges map charge weight line f xs ys a.word b.word (effects c range_start z)
              (omega (arith, ne))
              (ranged z same)))
            where
              ends : (o : Outcome) → Either (HasOrder map charge weight line f (order_of xs ys)) Never o → R o
              ends (Continues u) h =
                  subst (λ r. IsAnswered g k (Word 11) x f r (Continues u)) (sym run_is)
                  (record {
                    source = record { work = x.work + 2 * pairs_compared xs ys; same = refl };
                    memory = h.memory;
                    shows = h.shows;
                    given = h.given;
                  })
              ends (Halts status report u) h = absurd h

        right_part : (p : Place) → judge size.word a x.objects ≡ Inside p → (z : State) → IsOfWords z
            → IsSameBut 12 (worked c y) z → Reaches c C (10 + (3 + 4 * W)) (Goes 12 z) 35 R
        right_part p first z wz same =
            let start = by_first a b size line x ne (Inside p) first in
            after_judge c C 10 (3 + 4 * W) 12 22 35 z line 12 (judge size.word b x.objects) R wz
            (right_judged z wz same)
            (λ e z2 same2. refused g k (Word 11) x f run (Spatial line) x.work z2
            (start ∙ by_second a b size line x p Out e) (nothing_changed z2 (same_then 12 (worked c y) z z2 same same2)))
            (λ e z2 same2. refused g k (Word 11) x f run (Temporal line) x.work z2
            (start ∙ by_second a b size line x p Dead e) (nothing_changed z2 (same_then 12 (worked c y) z z2 same same2)))
            (λ q e z2 wz2 same2. behind p q first e z2 (same_then 12 (worked c y) z z2 same same2))

        both : Reaches c C (1 + (10 + (10 + (3 + 4 * W)))) (Goes 1 y) 35 R
        both =
            let n : suc (10 + (10 + (3 + 4 * W))) ≡ 1 + (10 + (10 + (3 + 4 * W))) = omega arith in
            subst (λ i. Reaches c C i (Goes 1 y) 35 R) n
            (branch c C (10 + (10 + (3 + 4 * W))) 1 y Beq 10 (Number 0) 33 35 R (has_self C).1.0
            (λ t. absurd (ne (sym begun.size_is ∙ if_equal _ _ t)))
            (λ t. after_judge c C 10 (10 + (3 + 4 * W)) 2 12 35 (worked c y) line 12 (judge size.word a x.objects) R wy
            left_judged
            (λ e z same. refused g k (Word 11) x f run (Spatial line) x.work z (by_first a b size line x ne Out e)
            (nothing_changed z same))
            (λ e z same. refused g k (Word 11) x f run (Temporal line) x.work z (by_first a b size line x ne Dead e)
            (nothing_changed z same))
            (λ p e z wz same. right_part p e z wz same)))

      pub memcmp_alone : Reaches c C (26 + 4 * W) (Goes 0 f) 35 R
      memcmp_alone =
          weaken c C (1 + (1 + (10 + (10 + (3 + 4 * W))))) (26 + 4 * W) (Goes 0 f) 35 R R (omega arith) (λ o h. h)
          (line_on c C (Constant 11 0 ∷ []) (1 + (10 + (10 + (3 + 4 * W)))) 0 f 35 R (tt, tt) ((has_self C).0, tt)
          (⊎_elim
          (λ e. weaken c C 1 (1 + (10 + (10 + (3 + 4 * W)))) (Goes 1 y) 35 R R (omega arith) (λ o h. h) (empty e))
          (λ ne. both ne) (cases_eq size.word 0)))

-- ---- over other registers

abbrev arguments_of : Held → Held → (size : ℕ) → List ℕ
arguments_of a b size =
    a.value ∷ a.tag.base ∷ a.tag.bound ∷ a.tag.key ∷ a.tag.lock ∷ b.value ∷ b.tag.base ∷ b.tag.bound ∷ b.tag.key
    ∷ b.tag.lock ∷ size ∷ []

abbrev scratch_of : (t : ℕ) → List ℕ
scratch_of t = t ∷ (t + 1) ∷ (t + 2) ∷ (t + 3) ∷ (t + 4) ∷ []

pub memcmp_does : (map : MapSizes) (entry : View) (IsGood : Bytes → Type 0) (a b : Held) (size into line t : ℕ)
    → AreMapped map → AreNoneOf (held_registers a) (into ∷ []) → AreNoneOf (size ∷ held_registers b) (into ∷ [])
    → AreBelow t (held_registers a) → AreBelow t (size ∷ held_registers b) → AreBelow t (into ∷ [])
    → IsMemcmp (runtime_basis map entry IsGood) a b size into line t
    (memcmp_code a b size into line t (t + 1) (t + 2) (t + 3) (t + 4))
memcmp_does map entry IsGood a b size into line t mapped none none' below below' into_below =
    let ins = arguments_of a b size in
    let n = none'.1 in let l = below'.1 in
    let r : AreRegisters ins (into ∷ []) (scratch_of t) t = record {
      none = (
        none.0,
        (
          none.1.0,
          (
            none.1.1.0,
            (
              none.1.1.1.0,
              (none.1.1.1.1.0, (n.0, (n.1.0, (n.1.1.0, (n.1.1.1.0, (n.1.1.1.1.0, (none'.0, tt))))))),
            ),
          ),
        ),
      );
      distinct = (tt, tt);
      ins_below = (
        below.0,
        (
          below.1.0,
          (
            below.1.1.0,
            (
              below.1.1.1.0,
              (below.1.1.1.1.0, (l.0, (l.1.0, (l.1.1.0, (l.1.1.1.0, (l.1.1.1.1.0, (below'.0, tt))))))),
            ),
          ),
        ),
      );
      res_below = into_below;
      from = (omega arith, (omega arith, (omega arith, (omega arith, (omega arith, tt)))));
      own_distinct = (
        ((λ e. omega (arith, e)), ((λ e. omega (arith, e)), ((λ e. omega (arith, e)), ((λ e. omega (arith, e)), tt)))),
        (
          ((λ e. omega (arith, e)), ((λ e. omega (arith, e)), ((λ e. omega (arith, e)), tt))),
          (
            ((λ e. omega (arith, e)), ((λ e. omega (arith, e)), tt)),
            (((λ e. omega (arith, e)), tt), (tt, tt)),
          ),
        ),
      );
    } in
    answers_act map entry IsGood ins (scratch_of t) t (Word into) (Word 11) r (own_memcmp line) refl
    (Pointer a ∷ Pointer b ∷ Word size ∷ []) (λ vs. memcmp (argument 0 vs) (argument 1 vs) (argument 2 vs) line) 26 4
    alone
    given
  where
    alone : AnswersAlone map entry IsGood (register_of (arguments_of a b size) (into ∷ []) (scratch_of t))
        (own_memcmp line)
        (Pointer a ∷ Pointer b ∷ Word size ∷ []) (Word 11)
        (λ vs. memcmp (argument 0 vs) (argument 1 vs) (argument 2 vs) line) 26 4
    alone functions types k x [] charge weight s w stands held = absurd held
    alone functions types k x (v ∷ []) charge weight s w stands held = absurd held.1
    alone functions types k x (v ∷ u ∷ []) charge weight s w stands held = absurd held.1.1
    alone functions types k x (v ∷ u ∷ z ∷ []) charge weight s w stands held =
        memcmp_alone map mapped entry IsGood functions types k x v u z charge weight line _ w
        (record {
          objects = stands.objects;
          spaces = stands.spaces;
          keys = stands.keys;
          shown = (let z = stands.shown in
              record { input = z.input; output = z.output; taken = z.taken; accesses = z.accesses });
        })
        (record { word = held.0.0.word; tag = held.0.0.tag }) held.0.1
        (record { word = held.1.0.0.word; tag = held.1.0.0.tag }) held.1.0.1 held.1.1.0
    alone functions types k x (v ∷ u ∷ z ∷ y ∷ vs) charge weight s w stands held = absurd held.1.1.1

    given : GivesAs 17 (register_of (arguments_of a b size) (into ∷ []) (scratch_of t)) (Word 11) (Word into)
    given gs k v u s agrees h = sym (agrees.values 11 (omega arith)) ∙ h
