-- The loop that scans a string finds what the source finds, whatever stands behind the count of bytes.
use Rattle.std.proofs.Common.{◌≡◌, ◌≢◌, ℕ, zero, suc, ◌+◌, ◌-◌, ◌*◌, ◌%◌, ◌^◌, ◌<◌, ◌≤◌, ◌⊎◌, inl, inr, List, []}
use Rattle.std.proofs.Common.{◌∷◌, true, ◌==◌, length, get_or, refl, sym, ap, ◌∙◌, subst, arith}
use Rattle.std.proofs.lemmas.Bool.{cases_eq, eq-eqb, ne_eqb, eqb-true, eqb-false}
use Rattle.sb_base.specs.declared.ending.Ending.TheVariants.{Spatial}
use Rattle.sb_base.specs.Endings.{code_of, report_of}
use Rattle.addr_map.specs.Places.{MapSizes}
use Rattle.rv_isa.specs.declared.instruction.BranchOp.TheVariants.{Beq, Bne}
use Rattle.rv_isa.specs.declared.instruction.RegOp.TheVariants.{Add}
use Rattle.rv_isa.specs.declared.instruction.LoadOp.TheVariants.{Lbu}
use Rattle.rv_isa.specs.Results.{reg_result, extended}
use Rattle.obj_memory.specs.declared.value.Bounds.{Bounds}
use Rattle.obj_memory.specs.declared.value.Tag.TheVariants.{OfObject}
use Rattle.obj_memory.specs.declared.value.Value.{Value}
use Rattle.obj_memory.specs.Objects.{Objects, object_at}
use Rattle.obj_memory.specs.Judgement.{moved}
use Rattle.obj_memory.specs.Sound.{IsSound}
use Rattle.source_meaning.specs.State.{State as Source, Outcome as Completed, Gives, Ended, Paused, Run, on, ◌>>=◌}
use Rattle.source_meaning.specs.State.{done}
use Rattle.source_meaning.specs.State.{choose}
use Rattle.source_meaning.specs.Acting.{state_of}
use Rattle.source_meaning.specs.Strings.{scan_within}
use Rattle.flat_code.specs.declared.instruction.RightOperand.TheVariants.{Register, Number}
use Rattle.flat_code.specs.declared.instruction.FlatInstruction.{FlatInstruction}
use Rattle.flat_code.specs.declared.instruction.FlatInstruction.TheVariants.{Operate, Load, Branch, JumpBack, End}
use Rattle.flat_code.specs.Memory.{Bytes, put, load}
use Rattle.flat_code.specs.Spaces.{is_allowed}
use Rattle.flat_code.specs.State.{State}
use Rattle.flat_code.specs.Meaning.{Context, Goes}
use Rattle.flat_code.specs.Routines.Routine.{HasAt, Outcome, Continues, Halts, Reaches}
use Rattle.flat_code.specs.Routines.Effects.{worked, effects}
use Rattle.flat_code.specs.Routines.Metadata.{ShowsNothing}
use Rattle.flat_code.proofs.Routines.Rules.{weaken, line_on, branch, arrived, ended, jump_back}
use Rattle.flat_code.proofs.Routines.Branches.{if_differ, if_same, if_equal, if_unequal}
use Rattle.flat_code.proofs.Routines.Showing.{shows_on}
use Rattle.flat_code.proofs.Routines.Words.{byte_loaded}
use Rattle.behaviours.specs.Shown.{Read}
use Rattle.flat_actions.specs.Actions.{ChangesNothing}
use Rattle.flat_actions.specs.Scanning.{IsWorked}
use Rattle.lib_wrappers.specs.StringRoutines.Scanning.{scan_loop}
use Rattle.flat_actions.proofs.Looking.{worked_on, looked}
use Rattle.lib_wrappers.proofs.StringRoutines.Runtime.{runtime_not_shown}

-- what is scanned: bytes of a live object up to a bound, at which flat code may look
pub record IsString (map : MapSizes) (functions : ℕ) (objects : Objects) (n : ℕ) (b : Bounds) (m : Bytes) : Type 0 where
  pub sound : IsSound functions objects
  pub live : (object_at objects n).is_live ≡ true
  pub small : b.bound < 2 ^ 63
  pub allowed : (a : ℕ) → b.base ≤ a → a < b.bound → is_allowed map a 1 ≡ true
  pub bytes : (a : ℕ) → b.base ≤ a → a < b.bound
      → m a ≡ get_or (object_at objects n).bytes (a - (object_at objects n).address) 0

-- what the loop leaves alone: 2 has the bound, 6 the cursor, 7 a byte, 8 where a limit ends
pub record HasFound (word : ℕ) (bytes : List ℕ) (s v : State) : Type 0 where
  pub cursor_is : v.values 6 ≡ word + length bytes
  pub small : word + length bytes < 2 ^ 63
  pub there : (i : ℕ) → i < length bytes → s.memory (word + i) ≡ get_or bytes i 0
  pub memory : v.memory ≡ s.memory
  pub shows : ShowsNothing s v

abbrev pub Found : (start : State) → Source → (word : ℕ) → Completed (List ℕ) → Outcome → Type 0
Found s x word (Gives bytes x') (Continues v) = IsWorked x x' × HasFound word bytes s v
Found s x word (Ended e x') (Halts status report v) =
    (status ≡ code_of e) × (report ≡ report_of e) × IsWorked x x' × ChangesNothing s v
Found s x word (Gives bytes x') (Halts status report v) = ⊥
Found s x word (Ended e x') (Continues v) = ⊥
Found s x word (Paused x') o = ⊥

pub no_work : (x : Source) → IsWorked x x
no_work x = record { work = omega arith; same = refl }

one_work : (x : Source) → IsWorked x (worked_on 1 x)
one_work x = record { work = omega arith; same = refl }

-- a byte before what was found
one_more : (s : State) (x : Source) (word byte : ℕ) (r : Completed (List ℕ)) (o : Outcome) → s.memory word ≡ byte
    → Found s (worked_on 1 x) (word + 1) r o → Found s x word (on r (λ others. done (byte ∷ others))) o
one_more s x word byte (Gives bytes x') (Continues v) first h =
    let worked = h.0.work in let c = h.1.cursor_is in let small = h.1.small in (
      record { work = omega arith; same = h.0.same },
      record { cursor_is = omega arith; small = omega arith; there = at; memory = h.1.memory; shows = h.1.shows },
    )
  where
    at : (i : ℕ) → i < length (byte ∷ bytes) → s.memory (word + i) ≡ get_or (byte ∷ bytes) i 0
    at zero l = let e : word ≡ word + 0 = omega arith in subst (λ k. s.memory k ≡ byte) e first
    at (suc i) l =
        let e : word + 1 + i ≡ word + suc i = omega arith in
        subst (λ k. s.memory k ≡ get_or bytes i 0) e (h.1.there i (omega arith))
one_more s x word byte (Ended e x') (Halts status report v) first h =
    let worked = h.2.work in (h.0, h.1, record { work = omega arith; same = h.2.same }, h.3)
one_more s x word byte (Gives bytes x') (Halts status report v) first h = absurd h
one_more s x word byte (Ended e x') (Continues v) first h = absurd h
one_more s x word byte (Paused x') o first h = absurd h

same_work : (r : Completed (List ℕ)) (byte : ℕ)
    → (state_of (on r (λ others. done (byte ∷ others)))).work ≡ (state_of r).work
same_work (Gives bytes x') byte = refl
same_work (Ended e x') byte = refl
same_work (Paused x') byte = refl

cursor_kept : (f : State) (v : ℕ) → put f.values 7 v 6 ≡ f.values 6
unfolding put
cursor_kept f v = refl

-- The loop at a place of the code. How many bytes are left behind the cursor is told by cursor, bound and end.
module _ (c : Context) (runtime : c.is_runtime ≡ true) (code : List FlatInstruction) (pc line : ℕ)
    (limited : List FlatInstruction) (behind : Run (List ℕ)) (IsLeft : (count cursor bound end : ℕ) → Type 0)
    (has : HasAt code pc (scan_loop 6 7 2 line limited))
    (step_left : (k p b e : ℕ) → IsLeft (suc k) p b e → IsLeft k (p + 1) b e)
    (functions : ℕ) (objects : Objects) (n : ℕ) (b : Bounds) (start : State)
    (string : IsString c.sizes functions objects n b start.memory) where
  -- the cursor has the address of a pointer, and up to so many bytes may be looked at from there on
  pub record IsAt (k : ℕ) (x : Source) (v : Value) (f : State) : Type 0 where
    pub objects_are : x.objects ≡ objects
    pub tag_is : v.tag ≡ OfObject n b
    pub from : b.base ≤ v.word
    pub within : v.word ≤ b.bound
    pub cursor_is : f.values 6 ≡ v.word
    pub bound_is : f.values 2 ≡ b.bound
    pub left : IsLeft k (f.values 6) (f.values 2) (f.values 8)
    pub memory : f.memory ≡ start.memory
    pub shows : ShowsNothing start f

  -- from a place on the rest is scanned as by the source, in 6 steps for each byte and some more
  pub record Scans (place more k : ℕ) (x : Source) (v : Value) (f : State) : Type 0 where
    pub spent : ℕ
    pub work : (state_of (scan_within k behind v line x)).work ≡ x.work + spent
    pub reaches : Reaches c code (6 * spent + more) (Goes place f) (pc + 6 + length limited)
        (Found start x v.word (scan_within k behind v line x))

  abbrev pub Again : (k : ℕ) → Source → Value → Type 0
  Again k x v = v.word < b.bound → (f : State) → IsAt k x v f → Scans pc 0 k x v f

  pub at_worked : (k : ℕ) (x : Source) (v : Value) (f : State) → IsAt k x v f → IsAt k x v (worked c f)
  at_worked k x v f h = record {
    objects_are = h.objects_are;
    tag_is = h.tag_is;
    from = h.from;
    within = h.within;
    cursor_is = h.cursor_is;
    bound_is = h.bound_is;
    left = h.left;
    memory = h.memory;
    shows = shows_on start f (worked c f) h.shows refl refl refl refl refl;
  }

  -- where the cursor has come to the bound the run ends, and else goes on with the next byte
  pub bound_tested : (q back k : ℕ) (x : Source) (v : Value) (f : State)
      → HasAt code q (Branch Bne 6 (Register 2) 1 ∷ End (Spatial line) ∷ JumpBack back ∷ []) → q + 2 ≡ pc + back
      → (v.word ≡ b.bound → scan_within k behind v line x ≡ Ended (Spatial line) x) → Again k x v → IsAt k x v f
      → Scans q 2 k x v f
  bound_tested q back k x v f at place out again h = by (cases_eq (f.values 6) (f.values 2))
    where
      by : (f.values 6 ≡ f.values 2) ⊎ (f.values 6 ≢ f.values 2) → Scans q 2 k x v f
      by (inl same) =
          let is = out (sym h.cursor_is ∙ same ∙ h.bound_is) in
          let R = Found start x v.word (Ended (Spatial line) x) in
          record {
            spent = 0;
            work = ap (λ r. (state_of r).work) is ∙ omega arith;
            reaches = subst (λ r. Reaches c code 2 (Goes q f) (pc + 6 + length limited) (Found start x v.word r))
                (sym is)
                (branch c code 1 q f Bne 6 (Register 2) 1 (pc + 6 + length limited) R at.0
                (λ t. absurd (eqb-false _ _ (if_differ (f.values 6) (f.values 2) t) same))
                (λ t. ended c code 0 (Spatial line) (worked c f) (q + 1) (pc + 6 + length limited) R at.1.0
                (refl, refl, no_work x, record { memory = h.memory; shows = shows_on start f _ h.shows refl refl refl refl refl })));
          }
      by (inr differ) =
          let w = h.within in let p = h.cursor_is in let u = h.bound_is in
          let r = again (omega arith) (worked c (worked c f))
          (at_worked k x v (worked c f) (at_worked k x v f h)) in
          let R = Found start x v.word (scan_within k behind v line x) in
          record {
            spent = r.spent;
            work = r.work;
            reaches = weaken c code (suc (suc (6 * r.spent + 0))) (6 * r.spent + 2) (Goes q f) (pc + 6 + length limited)
                R R (omega arith) (λ o i. i)
                (branch c code (suc (6 * r.spent + 0)) q f Bne 6 (Register 2) 1 (pc + 6 + length limited) R at.0
                (λ t. jump_back c code (6 * r.spent + 0) (q + 1 + 1) back pc (worked c f) (pc + 6 + length limited) R
                at.1.1.0 (omega arith) r.reaches)
                (λ t. absurd (differ (eqb-true _ _ (if_same (f.values 6) (f.values 2) t)))));
          }

  abbrev loaded : State → State
  loaded f = effects c (Load Lbu 7 6 0 ∷ []) f

  abbrev stepped : State → State
  stepped f = effects c (Operate Add 6 6 (Number 1) ∷ []) (worked c (loaded f))

  -- what the byte at the cursor is
  record Looks (v : Value) (f : State) : Type 0 where
    byte : (loaded f).values 7 ≡ get_or (object_at objects n).bytes (v.word - (object_at objects n).address) 0
    there : start.memory v.word ≡ get_or (object_at objects n).bytes (v.word - (object_at objects n).address) 0
    allowed : is_allowed c.sizes ((f.values 6 + 0) % 2 ^ 64) 1 ≡ true
    shows : ShowsNothing start (loaded f)

  looks : (k : ℕ) (x : Source) (v : Value) (f : State) → v.word < b.bound → IsAt k x v f → Looks v f
  unfolding put extended
  looks k x v f below h =
      let p = h.cursor_is in let small = string.small in
      let a : (f.values 6 + 0) % 2 ^ 64 ≡ v.word = omega arith in
      let there = string.bytes v.word h.from below in
      record {
        byte = ap (load 1 f.memory) a ∙ byte_loaded f.memory v.word ∙ ap (λ m. m v.word) h.memory ∙ there;
        there = there;
        allowed = ap (λ z. is_allowed c.sizes z 1) a ∙ string.allowed v.word h.from below;
        shows = shows_on start f (loaded f) h.shows refl refl refl (runtime_not_shown c runtime _ 1 Read f.accesses)
            refl;
      }

  moves_on : (k : ℕ) (x : Source) (v : Value) (f : State) → v.word < b.bound → IsAt (suc k) x v f
      → ShowsNothing start (loaded f) → IsAt k (worked_on 1 x) (moved 1 v) (stepped f)
  unfolding put moved reg_result
  moves_on k x v f below h shows =
      let p = h.cursor_is in let small = string.small in let from = h.from in
      let next : (f.values 6 + 1) % 2 ^ 64 ≡ f.values 6 + 1 = omega arith in
      let word : (v.word + 1) % 2 ^ 64 ≡ v.word + 1 = omega arith in
      record {
        objects_are = h.objects_are;
        tag_is = h.tag_is;
        from = omega arith;
        within = omega arith;
        cursor_is = omega arith;
        bound_is = h.bound_is;
        left = subst (λ z. IsLeft k z (f.values 2) (f.values 8)) (sym next) (step_left k _ _ _ h.left);
        memory = h.memory;
        shows = shows_on start (loaded f) (stepped f) shows refl refl refl refl refl;
      }

  next_word : (v : Value) → v.word < b.bound → (moved 1 v).word ≡ v.word + 1
  unfolding moved
  next_word v below = let small = string.small in omega arith

  -- one byte, where the rest is scanned
  turn : (k : ℕ) (x : Source) (v : Value) (f : State) → v.word < b.bound → IsAt (suc k) x v f
      → (IsAt k (worked_on 1 x) (moved 1 v) (stepped f)
      → Scans (pc + 1 + 1 + 1) 3 k (worked_on 1 x) (moved 1 v) (stepped f))
      → Scans pc 0 (suc k) x v f
  turn k x v f below h rest = by (cases_eq byte 0)
    where
      byte : ℕ
      byte = get_or (object_at objects n).bytes (v.word - (object_at objects n).address) 0

      end : ℕ
      end = pc + 6 + length limited

      others : Completed (List ℕ)
      others = scan_within k behind (moved 1 v) line (worked_on 1 x)

      first : scan_within (suc k) behind v line x
          ≡ choose (byte == 0) (done []) (scan_within k behind (moved 1 v) line >>= (λ bs. done (byte ∷ bs)))
          (worked_on 1 x)
      first =
          let live = subst (λ os. (object_at os n).is_live ≡ true) (sym h.objects_are) string.live in
          ap (λ r. on r (λ z. choose (z == 0) (done []) (scan_within k behind (moved 1 v) line >>=
          (λ bs. done (z ∷ bs)))))
          (looked functions x n b v line (subst (IsSound functions) (sym h.objects_are) string.sound) h.tag_is live
          h.from (omega arith)
          ∙ ap (λ os. Gives (get_or (object_at os n).bytes (v.word - (object_at os n).address) 0) (worked_on 1 x))
          h.objects_are)

      l : Looks v f
      l = looks (suc k) x v f below h

      by : (byte ≡ 0) ⊎ (byte ≢ 0) → Scans pc 0 (suc k) x v f
      by (inl none) =
          let is : scan_within (suc k) behind v line x ≡ Gives [] (worked_on 1 x) = first
          ∙ ap (λ z. choose z (done []) (scan_within k behind (moved 1 v) line >>= (λ bs. done (byte ∷ bs)))
          (worked_on 1 x)) (eq-eqb byte 0 none) in
          let R = Found start x v.word (Gives [] (worked_on 1 x)) in
          let p = h.cursor_is in let small = string.small in
          record {
            spent = 1;
            work = ap (λ r. (state_of r).work) is;
            reaches = subst (λ r. Reaches c code (6 * 1 + 0) (Goes pc f) end (Found start x v.word r)) (sym is)
                (line_on c code (Load Lbu 7 6 0 ∷ []) 5 pc f end R (l.allowed, tt) (has.0, tt)
                (branch c code 4 (pc + 1) (loaded f) Beq 7 (Number 0) (4 + length limited) end R has.1.0
                (λ t. arrived c code 4 (worked c (loaded f)) _ end R (omega arith) (
                  one_work x,
                  record {
                    cursor_is = cursor_kept f _ ∙ omega arith;
                    small = omega arith;
                    there = λ i less. absurd (omega arith);
                    memory = h.memory;
                    shows = shows_on start (loaded f) (worked c (loaded f)) l.shows refl refl refl refl refl;
                  },
                ))
                (λ t. absurd (if_unequal _ 0 t (l.byte ∙ none)))));
          }
      by (inr some) =
          let r = rest (moves_on k x v f below h l.shows) in
          let is : scan_within (suc k) behind v line x ≡ on others (λ bs. done (byte ∷ bs)) = first
          ∙ ap (λ z. choose z (done []) (scan_within k behind (moved 1 v) line >>= (λ bs. done (byte ∷ bs)))
          (worked_on 1 x)) (ne_eqb byte 0 some) in
          let R = Found start x v.word (on others (λ bs. done (byte ∷ bs))) in
          record {
            spent = suc r.spent;
            work = ap (λ r. (state_of r).work) is ∙ same_work others byte ∙ r.work ∙ omega arith;
            reaches = subst (λ z. Reaches c code (6 * suc r.spent + 0) (Goes pc f) end (Found start x v.word z))
                (sym is)
                (weaken c code (1 + suc (1 + (6 * r.spent + 3))) (6 * suc r.spent + 0) (Goes pc f) end R R (omega arith)
                (λ o i. i)
                (line_on c code (Load Lbu 7 6 0 ∷ []) (suc (1 + (6 * r.spent + 3))) pc f end R (l.allowed, tt)
                (has.0, tt)
                (branch c code (1 + (6 * r.spent + 3)) (pc + 1) (loaded f) Beq 7 (Number 0) (4 + length limited) end R
                has.1.0
                (λ t. absurd (some (sym l.byte ∙ if_equal _ 0 t)))
                (λ t. line_on c code (Operate Add 6 6 (Number 1) ∷ []) (6 * r.spent + 3) (pc + 1 + 1)
                (worked c (loaded f)) end R (tt, tt) (has.1.1.0, tt)
                (weaken c code (6 * r.spent + 3) (6 * r.spent + 3) (Goes (pc + 1 + 1 + 1) (stepped f)) end _ R
                (omega arith) (λ o i. one_more start x v.word byte others o l.there
                (subst (λ w. Found start (worked_on 1 x) w others o) (next_word v below) i)) r.reaches)))));
          }

  -- The rest behind a byte is scanned, where the next byte is; so the whole string is.
  module _ (tail : (k : ℕ) (x : Source) (v : Value) (f : State) → IsAt k x v f → (1 ≤ k → Again k x v)
      → Scans (pc + 1 + 1 + 1) 3 k x v f) where
    pub scanned : (k : ℕ) (x : Source) (v : Value) (f : State) → v.word < b.bound → IsAt (suc k) x v f
        → Scans pc 0 (suc k) x v f
    scanned zero x v f below h =
        turn zero x v f below h (λ h'. tail zero _ _ _ h' (λ none. absurd (omega arith)))
    scanned (suc k) x v f below h =
        turn (suc k) x v f below h (λ h'. tail (suc k) _ _ _ h' (λ some less f' at. scanned k _ _ f' less at))
