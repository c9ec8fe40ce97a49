-- `strchr` alone: a byte is sought as in the source.
use Rattle.std.proofs.Common.{◌≡◌, ◌≢◌, ℕ, zero, suc, ◌+◌, ◌*◌, ◌%◌, ◌^◌, ◌≤◌, ⊎_elim, List, [], ◌∷◌, ◌++◌}
use Rattle.std.proofs.Common.{true, ◌==◌, refl, sym, ap, ◌∙◌, subst, arith}
use Rattle.std.proofs.lemmas.Bool.{cases_eq, eq-eqb, ne_eqb}
use Rattle.sb_base.specs.declared.ending.Ending.TheVariants.{Spatial}
use Rattle.addr_map.specs.Places.{MapSizes}
use Rattle.rv_isa.specs.declared.instruction.BranchOp.TheVariants.{Beq, Bne}
use Rattle.rv_isa.specs.declared.instruction.RegOp.TheVariants.{Add}
use Rattle.rv_isa.specs.declared.instruction.LoadOp.TheVariants.{Lbu}
use Rattle.rv_isa.specs.Results.{reg_result, extended}
use Rattle.obj_memory.specs.declared.value.Bounds.{Bounds}
use Rattle.obj_memory.specs.declared.value.Tag.TheVariants.{OfObject}
use Rattle.obj_memory.specs.declared.value.Value.{Value}
use Rattle.obj_memory.specs.Judgement.{moved}
use Rattle.obj_memory.specs.Sound.{IsSound}
use Rattle.source_meaning.specs.State.{State as Source, Outcome as Completed, Gives, Ended, Run, on, done, choose}
use Rattle.source_meaning.specs.Acting.{at_work, state_of}
use Rattle.source_meaning.specs.Actions.{integer}
use Rattle.source_meaning.specs.Strings.{seek_within}
use Rattle.flat_code.specs.declared.instruction.RightOperand.TheVariants.{Register, Number}
use Rattle.flat_code.specs.declared.instruction.FlatInstruction.{FlatInstruction}
use Rattle.flat_code.specs.declared.instruction.FlatInstruction.TheVariants.{Constant, Operate, Load}
use Rattle.flat_code.specs.Memory.{put, load}
use Rattle.flat_code.specs.Spaces.{is_allowed}
use Rattle.flat_code.specs.State.{State}
use Rattle.flat_code.specs.Meaning.{Context, Goes}
use Rattle.flat_code.specs.declared.registers.Held.{Held}
use Rattle.flat_code.specs.Routines.Routine.{HasAt, Outcome, Reaches}
use Rattle.flat_code.specs.Routines.Effects.{worked, effects}
use Rattle.flat_code.specs.Routines.Metadata.{metadata_in, ShowsNothing}
use Rattle.flat_code.proofs.Routines.Steps.{has_self, has_front, has_back}
use Rattle.flat_code.proofs.Routines.Rules.{weaken, line_on, branch, jump_on, jump_back, arrived, ended}
use Rattle.flat_code.proofs.Routines.Branches.{if_equal, if_unequal, if_apart, if_alike}
use Rattle.flat_code.proofs.Routines.Words.{byte_loaded}
use Rattle.flat_code.proofs.Routines.Showing.{shows_on}
use Rattle.flat_code.specs.Routines.Objects.StandsFor.{Views, Keys, spell, Spells}
use Rattle.shadow_space.proofs.Entries.{context_of}
use Rattle.flat_actions.specs.Judgement.Code.{judge_code}
use Rattle.flat_actions.specs.Actions.{Pointer}
use Rattle.lib_wrappers.specs.ComparingRoutines.Answering.{IsAnswered, IsWorking}
use Rattle.lib_wrappers.specs.ComparingRoutines.Seeking.{seek_loop, null_code, same_entry_code, seek_start, seek_code}
use Rattle.lib_wrappers.specs.ComparingRoutines.Seeking.{strchr_code}
use Rattle.flat_actions.proofs.Looking.{looked, moved_tag}
use Rattle.lib_wrappers.proofs.ComparingRoutines.Looks.{byte_of, AreBytesOf}

-- ---- the registers of the routine alone: 0 to 4 the string, 5 the byte, 6 to 10 the result, of which 6 is the cursor,
-- 11 the byte that is looked at, and 12 the byte that is sought

abbrev pub own : Held
own = record { value = 0; tag = record { base = 1; bound = 2; key = 3; lock = 4 } }

abbrev pub own_into : Held
own_into = record { value = 6; tag = record { base = 7; bound = 8; key = 9; lock = 10 } }

abbrev pub own_code : (line : ℕ) → List FlatInstruction
own_code line = strchr_code own 5 own_into line 11 12

abbrev both_ends : List FlatInstruction
both_ends = null_code own_into ++ same_entry_code own.tag own_into.tag

abbrev behind_start : (line : ℕ) → List FlatInstruction
behind_start line = seek_loop 6 2 line 11 12 ++ both_ends

has_behind : (line : ℕ) → HasAt (own_code line) 14 (behind_start line)
has_behind line =
    has_back (own_code line) 11 (seek_start own own_into 5 12) (behind_start line)
    (has_back (own_code line) 1 (judge_code own 11 line 12) (seek_code own own_into 5 line 11 12)
    (has_self (own_code line)).1)

pub has_start : (line : ℕ) → HasAt (own_code line) 11 (seek_start own own_into 5 12)
has_start line =
    has_front (own_code line) 11 (seek_start own own_into 5 12) (behind_start line)
    (has_back (own_code line) 1 (judge_code own 11 line 12) (seek_code own own_into 5 line 11 12)
    (has_self (own_code line)).1)

has_loop : (line : ℕ) → HasAt (own_code line) 14 (seek_loop 6 2 line 11 12)
has_loop line = has_front (own_code line) 14 (seek_loop 6 2 line 11 12) both_ends (has_behind line)

has_ends : (line : ℕ) → HasAt (own_code line) 21 both_ends
has_ends line = has_back (own_code line) 14 (seek_loop 6 2 line 11 12) both_ends (has_behind line)

has_null : (line : ℕ) → HasAt (own_code line) 21 (null_code own_into)
has_null line = has_front (own_code line) 21 (null_code own_into) (same_entry_code own.tag own_into.tag) (has_ends line)

has_same : (line : ℕ) → HasAt (own_code line) 27 (same_entry_code own.tag own_into.tag)
has_same line = has_back (own_code line) 21 (null_code own_into) (same_entry_code own.tag own_into.tag) (has_ends line)

module _ (map : MapSizes) (charge weight line : ℕ) (g : Views) (k : Keys) (functions : ℕ) (x0 : Source) (n : ℕ)
    (b : Bounds)
    (f0 : State) (ch : ℕ) (sound : IsSound functions x0.objects)
    (bytes : AreBytesOf map x0.objects n b f0.memory) where
  abbrev c : Context
  c = context_of map true charge weight

  abbrev C : List FlatInstruction
  C = own_code line

  -- so many bytes are left behind the one at the cursor
  pub record IsCursor (left : ℕ) (p : Value) (f : State) : Type 0 where
    pub tag : p.tag ≡ OfObject n b
    pub from : b.base ≤ p.word
    pub left_is : p.word + suc left ≡ b.bound
    pub cursor : f.values 6 ≡ p.word
    pub bound : f.values 2 ≡ b.bound
    pub sought : f.values 12 ≡ ch
    pub entry : metadata_in f.values own.tag ≡ spell g k p.tag
    pub memory : f.memory ≡ f0.memory
    pub shows : ShowsNothing f0 f

  abbrev run : (left w : ℕ) → Value → Completed Value
  run left w p = seek_within (suc left) ch p line (at_work w x0)

  abbrev A : Completed Value → Outcome → Type 0
  A = IsAnswered g k (Pointer own_into) x0 f0

  pub record Seeks (left w : ℕ) (p : Value) (f : State) : Type 0 where
    pub spent : ℕ
    pub work : (state_of (run left w p)).work ≡ w + spent
    pub reaches : Reaches c C (6 * spent + 5) (Goes 14 f) 31 (A (run left w p))

  abbrev loaded : State → State
  loaded f = effects c (Load Lbu 11 6 0 ∷ []) f

  abbrev stepped : State → State
  stepped f = effects c (Operate Add 6 6 (Number 1) ∷ []) (worked c (worked c (loaded f)))

  record IsLoaded (p : Value) (byte : ℕ) (f : State) : Type 0 where
    byte_is : (loaded f).values 11 ≡ byte
    sought : (loaded f).values 12 ≡ ch
    cursor : (loaded f).values 6 ≡ p.word
    bound : (loaded f).values 2 ≡ b.bound
    entry : metadata_in (loaded f).values own.tag ≡ spell g k p.tag
    shows : ShowsNothing f0 (loaded f)

  at_cursor : (left : ℕ) (p : Value) (f : State) → IsCursor left p f → (f.values 6 + 0) % 2 ^ 64 ≡ p.word
  at_cursor left p f h = let l = h.left_is in let s = bytes.small in let q = h.cursor in omega arith

  is_loaded : (left : ℕ) (p : Value) (f : State) → IsCursor left p f → IsLoaded p (byte_of x0.objects n p.word) f
  unfolding put extended
  is_loaded left p f h =
      let l = h.left_is in let s = h.shows in
      record {
        byte_is = ap (load 1 f.memory) (at_cursor left p f h) ∙ byte_loaded f.memory p.word
            ∙ ap (λ m. m p.word) h.memory ∙ bytes.there p.word h.from (omega arith);
        sought = h.sought;
        cursor = h.cursor;
        bound = h.bound;
        entry = h.entry;
        shows = record { input = s.input; output = s.output; taken = s.taken; accesses = s.accesses; turns = s.turns };
      }

  record IsStepped (p : Value) (f : State) : Type 0 where
    cursor : (stepped f).values 6 ≡ p.word + 1
    bound : (stepped f).values 2 ≡ b.bound
    sought : (stepped f).values 12 ≡ ch
    entry : metadata_in (stepped f).values own.tag ≡ spell g k p.tag

  is_stepped : (left : ℕ) (p : Value) (f : State) → IsCursor left p f → IsStepped p f
  unfolding put reg_result
  is_stepped left p f h =
      let l = h.left_is in let s = bytes.small in let q = h.cursor in
      record { cursor = omega arith; bound = h.bound; sought = h.sought; entry = h.entry }

  moved_word : (left : ℕ) (p : Value) (f : State) → IsCursor left p f → (moved 1 p).word ≡ p.word + 1
  unfolding moved
  moved_word left p f h = let l = h.left_is in let s = bytes.small in omega arith

  -- the pointer to the byte, and null
  found_given : (p : Value) (f : State) → IsLoaded p (byte_of x0.objects n p.word) f
      → Spells g k p own_into
      (effects c (same_entry_code own.tag own_into.tag) (worked c (loaded f))).values
  unfolding put
  found_given p f l = record { word = l.cursor; tag = l.entry }

  null_given : (f : State) → Spells g k (integer 0) own_into
      (effects c (Constant 6 0 ∷ Constant 7 0 ∷ Constant 8 0 ∷ Constant 9 0 ∷ Constant 10 0 ∷ [])
      (worked c (worked c (loaded f)))).values
  unfolding put
  null_given f = record { word = refl; tag = refl }

  -- one byte, where the rest is sought
  module _ (left w : ℕ) (p : Value) (f : State) (h : IsCursor left p f) where
    abbrev byte : ℕ
    byte = byte_of x0.objects n p.word

    abbrev rest : Run Value
    rest = seek_within left ch (moved 1 p) line

    looks : run left w p ≡ choose (byte == ch) (done p) (choose (byte == 0) (done (integer 0)) rest)
        (at_work (w + 1) x0)
    looks =
        let l = h.left_is in
        ap (λ r. on r (λ z. choose (z == ch) (done p) (choose (z == 0) (done (integer 0)) rest)))
        (looked functions (at_work w x0) n b p line sound h.tag bytes.live h.from (omega arith))

    l : IsLoaded p byte f
    l = is_loaded left p f h

    may_load : is_allowed map ((f.values 6 + 0) % 2 ^ 64) 1 ≡ true
    may_load = let z = h.left_is in ap (λ a. is_allowed map a 1) (at_cursor left p f h)
        ∙ bytes.allowed p.word h.from (omega arith)

    working : IsWorking x0 (at_work (w + 1) x0)
    working = record { work = w + 1; same = refl }

    has : HasAt C 14 (seek_loop 6 2 line 11 12)
    has = has_loop line

    found : byte ≡ ch → Seeks left w p f
    found e =
        let is : run left w p ≡ Gives p (at_work (w + 1) x0) =
        looks ∙ ap (λ z. choose z (done p) (choose (byte == 0) (done (integer 0)) rest) (at_work (w + 1) x0))
        (eq-eqb byte ch e) in
        let Q = A (Gives p (at_work (w + 1) x0)) in
        let z = effects c (same_entry_code own.tag own_into.tag) (worked c (loaded f)) in
        record {
          spent = 1;
          work = ap (λ r. (state_of r).work) is;
          reaches = subst (λ r. Reaches c C 11 (Goes 14 f) 31 (A r)) (sym is)
              (line_on c C (Load Lbu 11 6 0 ∷ []) 10 14 f 31 Q (may_load, tt) (has.0, tt)
              (branch c C 9 15 (loaded f) Beq 11 (Register 12) 11 31 Q has.1.0
              (λ t. line_on c C (same_entry_code own.tag own_into.tag) 5 27 (worked c (loaded f)) 31 Q
              (tt, (tt, (tt, (tt, tt)))) (has_same line)
              (arrived c C 5 z 31 31 Q refl (record {
                source = working;
                memory = h.memory;
                shows = shows_on f0 (loaded f) z l.shows refl refl refl refl refl;
                given = found_given p f l;
              })))
              (λ t. absurd (if_unequal _ _ t (l.byte_is ∙ e ∙ sym l.sought)))));
        }

    none : byte ≢ ch → byte ≡ 0 → Seeks left w p f
    none ne e =
        let is : run left w p ≡ Gives (integer 0) (at_work (w + 1) x0) =
        looks
        ∙ ap (λ z. choose z (done p) (choose (byte == 0) (done (integer 0)) rest) (at_work (w + 1) x0))
        (ne_eqb byte ch ne)
        ∙ ap (λ z. choose z (done (integer 0)) rest (at_work (w + 1) x0)) (eq-eqb byte 0 e) in
        let Q = A (Gives (integer 0) (at_work (w + 1) x0)) in
        let zeros = Constant 6 0 ∷ Constant 7 0 ∷ Constant 8 0 ∷ Constant 9 0 ∷ Constant 10 0 ∷ [] in
        let z = effects c zeros (worked c (worked c (loaded f))) in
        let hn = has_null line in
        record {
          spent = 1;
          work = ap (λ r. (state_of r).work) is;
          reaches = subst (λ r. Reaches c C 11 (Goes 14 f) 31 (A r)) (sym is)
              (line_on c C (Load Lbu 11 6 0 ∷ []) 10 14 f 31 Q (may_load, tt) (has.0, tt)
              (branch c C 9 15 (loaded f) Beq 11 (Register 12) 11 31 Q has.1.0
              (λ t. absurd (ne (sym l.byte_is ∙ if_equal _ _ t ∙ l.sought)))
              (λ t. branch c C 8 16 (worked c (loaded f)) Beq 11 (Number 0) 4 31 Q has.1.1.0
              (λ t2. line_on c C zeros 3 21 (worked c (worked c (loaded f))) 31 Q (tt, (tt, (tt, (tt, (tt, tt)))))
              (hn.0, (hn.1.0, (hn.1.1.0, (hn.1.1.1.0, (hn.1.1.1.1.0, tt)))))
              (jump_on c C 2 26 4 z 31 Q hn.1.1.1.1.1.0
              (arrived c C 2 (worked c z) 31 31 Q refl (record {
                source = working;
                memory = h.memory;
                shows = shows_on f0 (loaded f) (worked c z) l.shows refl refl refl refl refl;
                given = null_given f;
              }))))
              (λ t2. absurd (if_unequal _ _ t2 (l.byte_is ∙ e))))));
        }

    -- the byte is another, up to the test of the bound
    another : byte ≢ ch → byte ≢ 0 → (Q : Outcome → Type 0) (B : ℕ)
        → Reaches c C B (Goes 18 (stepped f)) 31 Q → Reaches c C (4 + B) (Goes 14 f) 31 Q
    another ne nz Q B r =
        let n4 : 1 + suc (suc (1 + B)) ≡ 4 + B = omega arith in
        subst (λ z. Reaches c C z (Goes 14 f) 31 Q) n4
        (line_on c C (Load Lbu 11 6 0 ∷ []) (suc (suc (1 + B))) 14 f 31 Q (may_load, tt) (has.0, tt)
        (branch c C (suc (1 + B)) 15 (loaded f) Beq 11 (Register 12) 11 31 Q has.1.0
        (λ t. absurd (ne (sym l.byte_is ∙ if_equal _ _ t ∙ l.sought)))
        (λ t. branch c C (1 + B) 16 (worked c (loaded f)) Beq 11 (Number 0) 4 31 Q has.1.1.0
        (λ t2. absurd (nz (sym l.byte_is ∙ if_equal _ _ t2)))
        (λ t2. line_on c C (Operate Add 6 6 (Number 1) ∷ []) B 17 (worked c (worked c (loaded f))) 31 Q (tt, tt)
        (has.1.1.1.0, tt) r))))

    s : IsStepped p f
    s = is_stepped left p f h

    goes_on : byte ≢ ch → byte ≢ 0 → run left w p ≡ rest (at_work (w + 1) x0)
    goes_on ne nz =
        looks
        ∙ ap (λ z. choose z (done p) (choose (byte == 0) (done (integer 0)) rest) (at_work (w + 1) x0))
        (ne_eqb byte ch ne)
        ∙ ap (λ z. choose z (done (integer 0)) rest (at_work (w + 1) x0)) (ne_eqb byte 0 nz)

    last : byte ≢ ch → byte ≢ 0 → left ≡ 0 → Seeks left w p f
    last ne nz e =
        let is : run left w p ≡ Ended (Spatial line) (at_work (w + 1) x0) =
        goes_on ne nz ∙ ap (λ j. seek_within j ch (moved 1 p) line (at_work (w + 1) x0)) e in
        let Q = A (Ended (Spatial line) (at_work (w + 1) x0)) in
        let at = h.left_is in let cursor = s.cursor in let bound = s.bound in
        record {
          spent = 1;
          work = ap (λ r. (state_of r).work) is;
          reaches = subst (λ r. Reaches c C 11 (Goes 14 f) 31 (A r)) (sym is)
              (another ne nz Q 7
              (branch c C 6 18 (stepped f) Bne 6 (Register 2) 1 31 Q has.1.1.1.1.0
              (λ t. absurd (if_apart _ _ t (omega arith)))
              (λ t. ended c C 5 (Spatial line) (worked c (stepped f)) 19 31 Q has.1.1.1.1.1.0
              (refl, refl, working, record { memory = h.memory; shows = shows_on f0 (loaded f) _ l.shows refl refl refl refl refl }))));
        }

    further : byte ≢ ch → byte ≢ 0 → (j : ℕ) → left ≡ suc j → Seeks j (w + 1) (moved 1 p)
        (worked c (worked c (stepped f)))
        → Seeks left w p f
    further ne nz j e r =
        let is : run left w p ≡ run j (w + 1) (moved 1 p) =
        goes_on ne nz ∙ ap (λ i. seek_within i ch (moved 1 p) line (at_work (w + 1) x0)) e in
        let Q = A (run j (w + 1) (moved 1 p)) in
        let at = h.left_is in let cursor = s.cursor in let bound = s.bound in
        let work = r.work in
        record {
          spent = suc r.spent;
          work = ap (λ z. (state_of z).work) is ∙ work ∙ omega arith;
          reaches = subst (λ z. Reaches c C (6 * suc r.spent + 5) (Goes 14 f) 31 (A z)) (sym is)
              (weaken c C (4 + suc (suc (6 * r.spent + 5))) (6 * suc r.spent + 5) (Goes 14 f) 31 Q Q (omega arith)
              (λ o q. q)
              (another ne nz Q (suc (suc (6 * r.spent + 5)))
              (branch c C (suc (6 * r.spent + 5)) 18 (stepped f) Bne 6 (Register 2) 1 31 Q has.1.1.1.1.0
              (λ t. jump_back c C (6 * r.spent + 5) 20 6 14 (worked c (stepped f)) 31 Q has.1.1.1.1.1.1.0 refl
              r.reaches)
              (λ t. absurd (let q = if_alike _ _ t in omega arith)))));
        }

    next_cursor : (j : ℕ) → left ≡ suc j → IsCursor j (moved 1 p) (worked c (worked c (stepped f)))
    next_cursor j e =
        let at = h.left_is in let word = moved_word left p f h in let from = h.from in
        record {
          tag = moved_tag p ∙ h.tag;
          from = omega arith;
          left_is = omega arith;
          cursor = s.cursor ∙ sym word;
          bound = s.bound;
          sought = s.sought;
          entry = s.entry ∙ ap (spell g k) (sym (moved_tag p));
          memory = h.memory;
          shows = shows_on f0 (loaded f) _ l.shows refl refl refl refl refl;
        }

    turn : ((j : ℕ) → left ≡ suc j → Seeks j (w + 1) (moved 1 p) (worked c (worked c (stepped f)))) → Seeks left w p f
    turn again =
        ⊎_elim found (λ ne. ⊎_elim (none ne) (λ nz. on_left ne nz left refl) (cases_eq byte 0)) (cases_eq byte ch)
      where
        on_left : byte ≢ ch → byte ≢ 0 → (i : ℕ) → left ≡ i → Seeks left w p f
        on_left ne nz zero e = last ne nz e
        on_left ne nz (suc j) e = further ne nz j e (again j e)

  pub seeks : (left w : ℕ) (p : Value) (f : State) → IsCursor left p f → Seeks left w p f
  seeks zero w p f h = turn zero w p f h (λ j e. absurd (omega (arith, e)))
  seeks (suc left) w p f h = turn (suc left) w p f h (λ j e.
      let q : left ≡ j = omega (arith, e) in
      subst (λ i. Seeks i (w + 1) (moved 1 p) (worked c (worked c (stepped f)))) q
      (seeks left (w + 1) (moved 1 p) (worked c (worked c (stepped f)))
      (subst (λ i. IsCursor i (moved 1 p) (worked c (worked c (stepped f)))) (sym q)
      (next_cursor (suc left) w p f h j e))))
