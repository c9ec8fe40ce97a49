-- A string is scanned in flat code as in the source, up to its 0 byte or a limit.
use Rattle.std.proofs.Common.{◌≡◌, ◌≢◌, ℕ, zero, suc, ◌+◌, ◌-◌, ◌*◌, ◌%◌, ◌^◌, ◌<◌, ◌≤◌, ◌⊎◌, inl, inr, List, []}
use Rattle.std.proofs.Common.{◌∷◌, ◌++◌, Bool, true, false, length, get_or, refl, sym, ap, ◌∙◌, subst, arith}
use Rattle.std.proofs.lemmas.Bool.{cases_eq}
use Rattle.sb_base.specs.declared.ending.Ending.TheVariants.{Spatial}
use Rattle.addr_map.specs.Places.{AreMapped}
use Rattle.rv_isa.specs.declared.instruction.BranchOp.TheVariants.{Beq}
use Rattle.rv_isa.specs.declared.instruction.RegOp.TheVariants.{Add}
use Rattle.rv_isa.specs.Results.{reg_result}
use Rattle.obj_memory.specs.declared.value.Bounds.{Bounds}
use Rattle.obj_memory.specs.declared.value.Value.{Value}
use Rattle.obj_memory.specs.declared.value.Place.{Place}
use Rattle.obj_memory.specs.declared.judgement.Verdict.TheVariants.{Outside, Inside}
use Rattle.obj_memory.specs.Objects.{Objects, object_at}
use Rattle.obj_memory.specs.Judgement.{judge}
use Rattle.obj_memory.specs.Sound.{IsSoundTag, IsTagOf}
use Rattle.source_meaning.specs.State.{State as Source, Gives, Ended, Run, done, stop}
use Rattle.source_meaning.specs.Acting.{state_of}
use Rattle.source_meaning.specs.Strings.{reach, scan_within}
use Rattle.flat_code.specs.declared.instruction.RightOperand.TheVariants.{Register}
use Rattle.flat_code.specs.declared.instruction.FlatInstruction.{FlatInstruction}
use Rattle.flat_code.specs.declared.instruction.FlatInstruction.TheVariants.{Move, Operate}
use Rattle.flat_code.specs.Memory.{Bytes, put}
use Rattle.flat_code.specs.State.{State}
use Rattle.flat_code.specs.Words.{IsOfWords}
use Rattle.flat_code.specs.Meaning.{Context, Goes}
use Rattle.flat_code.specs.declared.registers.Held.{Held}
use Rattle.flat_code.specs.Routines.Routine.{HasAt, Outcome, Reaches}
use Rattle.flat_code.specs.Routines.Effects.{worked, effects, AreAllowed}
use Rattle.flat_code.specs.Routines.Metadata.{ShowsNothing}
use Rattle.flat_code.proofs.Routines.Steps.{has_front, has_back, has_self}
use Rattle.flat_code.proofs.Routines.Rules.{weaken, line_on, branch, arrived}
use Rattle.flat_code.proofs.Routines.Regions.{IsLaidOut, laid_out, object_allowed}
use Rattle.flat_code.proofs.Routines.Branches.{if_equal, if_unequal}
use Rattle.flat_code.specs.Routines.Objects.StandsFor.{Views, Keys, Spells, StandsFor, spell}
use Rattle.flat_actions.specs.Actions.{Basis, context_in, views_of, work_of}
use Rattle.lib_wrappers.specs.StringRoutines.Scanning.{scan_loop, at_limit}
use Rattle.flat_actions.proofs.Looking.{IsAround, around, lives, reach_is}
use Rattle.lib_wrappers.proofs.StringRoutines.Looking.{scan_by, beyond}
use Rattle.lib_wrappers.proofs.StringRoutines.ScanLoop.{IsString, Found, no_work, IsAt, Scans, Again}
use Rattle.lib_wrappers.proofs.StringRoutines.ScanLoop.{at_worked, bound_tested, scanned}

-- ---- with and without a limit

-- the routine alone: 0 to 4 the pointer, 5 the limit, 6 the cursor, 7 the byte, 8 where the limit ends
abbrev own : Held
own = record { value = 0; tag = record { base = 1; bound = 2; key = 3; lock = 4 } }

abbrev limit_code : Bool → List FlatInstruction
limit_code false = []
limit_code true = at_limit 6 8

abbrev prepare : Bool → List FlatInstruction
prepare false = Move 6 0 ∷ []
prepare true = Move 6 0 ∷ Operate Add 8 0 (Register 5) ∷ []

abbrev own_loop : Bool → (line : ℕ) → List FlatInstruction
own_loop l line = scan_loop 6 7 2 line (limit_code l)

abbrev pub own_turns : Bool → (line : ℕ) → List FlatInstruction
own_turns l line = prepare l ++ own_loop l line

-- what stands behind the count of bytes
abbrev pub behind_of : Bool → (line : ℕ) → Run (List ℕ)
behind_of false line = stop (Spatial line)
behind_of true line = done []

-- the count is what lies before the bound, or the limit
abbrev pub IsCount : Bool → Value → (count limit : ℕ) → Type 0
IsCount false v n limit = n ≡ reach v
IsCount true v n limit = (limit ≡ n) × (1 ≤ n)

-- so many bytes are left behind the cursor
abbrev IsLeft : Bool → (count cursor bound end : ℕ) → Type 0
IsLeft false k p b e = p + k ≡ b
IsLeft true k p b e = ((p + k) % 2 ^ 64 ≡ e) × (k < 2 ^ 64)

step_left : (l : Bool) (k p b e : ℕ) → IsLeft l (suc k) p b e → IsLeft l k (p + 1) b e
step_left false k p b e h = omega arith
step_left true k p b e h =
    let same : p + suc k ≡ p + 1 + k = omega arith in
    let small = h.1 in
    (ap (λ z. z % 2 ^ 64) (sym same) ∙ h.0, omega arith)

pub none_left : (l : Bool) (line : ℕ) (x : Source) (v : Value) (n limit : ℕ) → IsCount l v n limit → n ≡ 0
    → behind_of l line x ≡ Ended (Spatial line) x
none_left false line x v n limit h e = refl
none_left true line x v n limit h e = absurd (let some = h.1 in omega arith)

pub some_left : (l : Bool) (v : Value) (n limit : ℕ) → IsCount l v n limit → IsAround v.tag v.word → 1 ≤ n
some_left false v n limit h a =
    let r = reach_is v a.number a.bounds a.tag_is in let below = a.below in omega arith
some_left true v n limit h a = h.1

-- ---- the rest behind a byte

module _ (c : Context) (runtime : c.is_runtime ≡ true) (code : List FlatInstruction) (pc line functions : ℕ)
    (objects : Objects) (n : ℕ) (b : Bounds) (start : State)
    (string : IsString c.sizes functions objects n b start.memory) where
  tail : (l : Bool) (has : HasAt code pc (own_loop l line)) (k : ℕ) (x : Source) (v : Value) (f : State)
      → IsAt c runtime code pc line (limit_code l) (behind_of l line) (IsLeft l) has (step_left l) functions objects n b
      start string k x v f
      → (1 ≤ k → Again c runtime code pc line (limit_code l) (behind_of l line) (IsLeft l) has (step_left l) functions
      objects n b start string k x v)
      → Scans c runtime code pc line (limit_code l) (behind_of l line) (IsLeft l) has (step_left l) functions objects n
      b start string (pc + 1 + 1 + 1) 3 k x v f
  tail false has k x v f h again =
      let left = h.left in let p = h.cursor_is in let u = h.bound_is in
      let r = bound_tested c runtime code pc line [] (behind_of false line) (IsLeft false) has (step_left false)
      functions objects n b start string (pc + 1 + 1 + 1) 5 k x v f has.1.1.1 (omega arith)
      (λ at. let none : k ≡ 0 = omega arith in
      ap (λ j. scan_within j (behind_of false line) v line x) none)
      (λ below. again (omega arith) below) h in
      record {
        spent = r.spent;
        work = r.work;
        reaches = weaken c code (6 * r.spent + 2) (6 * r.spent + 3) _ _ _ _ (omega arith) (λ o i. i) r.reaches;
      }
  tail true has k x v f h again = by k refl (cases_eq (f.values 6) (f.values 8))
    where
      left : ((f.values 6 + k) % 2 ^ 64 ≡ f.values 8) × (k < 2 ^ 64)
      left = h.left

      by : (j : ℕ) → k ≡ j → (f.values 6 ≡ f.values 8) ⊎ (f.values 6 ≢ f.values 8)
          → Scans c runtime code pc line (limit_code true) (behind_of true line) (IsLeft true) has (step_left true)
          functions objects n b start string (pc + 1 + 1 + 1) 3 k x v f
      by j e (inl same) =
          let p = h.cursor_is in let small = string.small in let w = h.within in
          let a = left.0 in let few = left.1 in
          let none : k ≡ 0 = omega arith in
          let is : scan_within k (behind_of true line) v line x ≡ Gives [] x =
          ap (λ j. scan_within j (behind_of true line) v line x) none in
          let R = Found start x v.word (Gives [] x) in
          record {
            spent = 0;
            work = ap (λ r. (state_of r).work) is ∙ omega arith;
            reaches = subst (λ r. Reaches c code 3 (Goes (pc + 1 + 1 + 1) f) (pc + 6 + 1) (Found start x v.word r))
                (sym is) (branch c code 2 (pc + 1 + 1 + 1) f Beq 6 (Register 8) 3 (pc + 6 + 1) R has.1.1.1.0
                (λ t. arrived c code 2 (worked c f) _ _ R (omega arith) (
                  no_work x,
                  record {
                    cursor_is = omega arith;
                    small = omega arith;
                    there = λ i less. absurd (omega arith);
                    memory = h.memory;
                    shows = (let q = h.shows in record {
                      input = q.input;
                      output = q.output;
                      taken = q.taken;
                      accesses = q.accesses;
                      turns = q.turns;
                    });
                  },
                ))
                (λ t. absurd (if_unequal (f.values 6) (f.values 8) t same)));
          }
      by zero e (inr differ) =
          absurd (let p = h.cursor_is in let small = string.small in let w = h.within in
          let a = left.0 in let few = left.1 in omega (arith, differ))
      by (suc j) e (inr differ) =
          let r = bound_tested c runtime code pc line (limit_code true) (behind_of true line) (IsLeft true) has
          (step_left true) functions objects n b start string (pc + 1 + 1 + 1 + 1) 6 k x v (worked c f) has.1.1.1.1
          (omega arith)
          (λ at. ap (λ i. scan_within i (behind_of true line) v line x) e
          ∙ scan_by j (behind_of true line) x v line Outside (beyond x.objects n b v h.tag_is at))
          (λ below. again (omega arith) below)
          (at_worked c runtime code pc line (limit_code true) (behind_of true line) (IsLeft true) has (step_left true)
          functions objects n b start string k x v f h) in
          let R = Found start x v.word (scan_within k (behind_of true line) v line x) in
          record {
            spent = r.spent;
            work = r.work;
            reaches = weaken c code (suc (6 * r.spent + 2)) (6 * r.spent + 3) _ _ R R (omega arith) (λ o i. i)
                (branch c code (6 * r.spent + 2) (pc + 1 + 1 + 1) f Beq 6 (Register 8) 3 (pc + 6 + 1) R has.1.1.1.0
                (λ t. absurd (differ (if_equal (f.values 6) (f.values 8) t)))
                (λ t. r.reaches));
          }

-- ---- the turns alone

turns_end : (l : Bool) (line : ℕ) → length (prepare l) + 6 + length (limit_code l) ≡ length (own_turns l line)
turns_end false line = refl
turns_end true line = refl

few_prepare : (l : Bool) → length (prepare l) ≤ 2
few_prepare false = omega arith
few_prepare true = omega arith

-- the registers of the loop are set
record IsReady (c : Context) (l : Bool) (n : ℕ) (z : State) : Type 0 where
  allowed : AreAllowed c (prepare l) z
  cursor : (effects c (prepare l) z).values 6 ≡ z.values 0
  bound : (effects c (prepare l) z).values 2 ≡ z.values 2
  left : IsLeft l n ((effects c (prepare l) z).values 6) ((effects c (prepare l) z).values 2)
      ((effects c (prepare l) z).values 8)
  memory : (effects c (prepare l) z).memory ≡ z.memory
  shows : ShowsNothing z (effects c (prepare l) z)

ready : (c : Context) (l : Bool) (v : Value) (n limit : ℕ) (a : IsAround v.tag v.word) (z : State) → IsOfWords z
    → IsCount l v n limit → z.values 0 ≡ v.word → z.values 2 ≡ a.bounds.bound → z.values 5 ≡ limit → IsReady c l n z
unfolding put reg_result
ready c false v n limit a z w count word bound five =
    let r = reach_is v a.number a.bounds a.tag_is in let below = a.below in
    record {
      allowed = (tt, tt);
      cursor = refl;
      bound = refl;
      left = omega arith;
      memory = refl;
      shows = record { input = refl; output = refl; taken = refl; accesses = refl; turns = refl };
    }
ready c true v n limit a z w count word bound five =
    let is = count.0 in let small = w.values 5 in
    record {
      allowed = (tt, (tt, tt));
      cursor = refl;
      bound = refl;
      left = (ap (λ q. (z.values 0 + q) % 2 ^ 64) (sym (five ∙ is)), omega arith);
      memory = refl;
      shows = record { input = refl; output = refl; taken = refl; accesses = refl; turns = refl };
    }

-- the bytes between the bounds of a pointer to a live object
string_of : (g : Views) (k : Keys) (objects : Objects) (n : ℕ) (b : Bounds) (m : Bytes) → IsLaidOut g.sizes
    → StandsFor g k objects m → (object_at objects n).is_live ≡ true → IsTagOf objects n b
    → IsString g.sizes g.functions objects n b m
string_of g k objects n b m ok st live t =
    let o = object_at objects n in
    let p = st.placed n live in
    let lo = t.base in let hi = t.bound in let first = p.first in let last = p.last in let small = ok.small in
    record {
      sound = st.sound;
      live = live;
      small = omega arith;
      allowed = λ a l h. object_allowed g.sizes a a 1 refl (omega arith) (omega arith);
      bytes = λ a l h.
          let e : o.address + (a - o.address) ≡ a = omega arith in
          subst (λ z. m z ≡ get_or o.bytes (a - o.address) 0) e ((st.here n live).bytes (a - o.address) (omega arith));
    }

module _ (basis : Basis) (runtime : basis.is_runtime ≡ true) (mapped : AreMapped basis.map) (line : ℕ) (l : Bool)
    (functions : ℕ) (types : ℕ → ℕ) (k : Keys) (x : Source) (v : Value) (n charge weight : ℕ) where
  abbrev g : Views
  g = views_of basis.map functions types basis.entry

  abbrev c : Context
  c = context_in basis charge weight

  abbrev scanning : Run (List ℕ)
  scanning = scan_within n (behind_of l line) v line

  abbrev R : State → Outcome → Type 0
  R f = Found f x v.word (scanning x)

  -- what is known where the first byte was judged
  pub record IsToScan (f : State) : Type 0 where
    pub objects : StandsFor g k x.objects f.memory
    pub spells : Spells g k v own f.values
    pub sound : IsSoundTag functions x.objects v.tag
    pub count : IsCount l v n (f.values 5)
    pub place : Place
    pub judged : judge 1 v x.objects ≡ Inside place

  pub scans_alone : (f : State) → IsOfWords f → IsToScan f
      → Reaches c (own_turns l line) (2 + 6 * work_of scanning x) (Goes 0 f) (length (own_turns l line)) (R f)
  scans_alone f w p =
      let code = own_turns l line in
      let has = has_self code in
      let W = work_of scanning x in
      let a = around x.objects v (Inside p.place) p.judged (λ d. let z : Inside p.place ≡ Outside = d in cc) in
      let live = lives x.objects v a.number a.bounds p.place a.tag_is p.judged in
      let tag = subst (IsSoundTag functions x.objects) a.tag_is p.sound in
      let spelled = p.spells in
      let bound : f.values 2 ≡ a.bounds.bound = ap (λ z. z.bound) spelled.tag ∙ ap (λ z. (spell g k z).bound) a.tag_is
      in
      let h = ready c l v n (f.values 5) a f w p.count spelled.word bound refl in
      let y = effects c (prepare l) f in
      let some = some_left l v n (f.values 5) p.count a in
      let n_is : suc (n - 1) ≡ n = omega arith in
      let string = string_of g k x.objects a.number a.bounds f.memory (laid_out basis.map mapped) p.objects live tag in
      let has_loop = has_back code 0 (prepare l) (own_loop l line) has in
      let below = a.below in
      let r = scanned c runtime code (0 + length (prepare l)) line (limit_code l) (behind_of l line) (IsLeft l)
      has_loop (step_left l) functions x.objects a.number a.bounds f string
      (tail c runtime code (0 + length (prepare l)) line functions x.objects a.number a.bounds f string l has_loop)
      (n - 1) x v y (omega arith) (record {
        objects_are = refl;
        tag_is = a.tag_is;
        from = a.from;
        within = omega arith;
        cursor_is = h.cursor ∙ spelled.word;
        bound_is = h.bound ∙ bound;
        left = subst (λ z. IsLeft l z (y.values 6) (y.values 2) (y.values 8)) (sym n_is) h.left;
        memory = h.memory;
        shows = h.shows;
      }) in
      let done_is : (state_of (scanning x)).work ≡ x.work + r.spent =
      subst (λ z. (state_of (scan_within z (behind_of l line) v line x)).work ≡ x.work + r.spent) n_is r.work in
      let spent : W ≡ r.spent = omega (arith, done_is) in
      let few = few_prepare l in
      let last = turns_end l line in
      let from : 0 + length (prepare l) ≡ length (prepare l) = omega arith in
      let end : 0 + length (prepare l) + 6 + length (limit_code l) ≡ length code = omega (arith, last) in
      weaken c code (length (prepare l) + (6 * r.spent + 0)) (2 + 6 * W) (Goes 0 f) (length code) (R f) (R f)
      (omega arith) (λ o i. i)
      (line_on c code (prepare l) (6 * r.spent + 0) 0 f (length code) (R f) h.allowed
      (has_front code 0 (prepare l) (own_loop l line) has)
      (subst (λ z. Reaches c code (6 * r.spent + 0) (Goes (0 + length (prepare l)) y) z (R f)) end
      (subst (λ z. Reaches c code (6 * r.spent + 0) (Goes (0 + length (prepare l)) y)
      (0 + length (prepare l) + 6 + length (limit_code l))
      (Found f x v.word (scan_within z (behind_of l line) v line x)))
      n_is r.reaches)))
