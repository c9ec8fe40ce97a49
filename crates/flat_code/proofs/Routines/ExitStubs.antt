-- Code with exit stubs does what the routine does, up to where that ends the run.
use Rattle.std.proofs.Common.{◌≡◌, ℕ, zero, suc, ◌+◌, ◌-◌, ◌<◌, List, Option, Some, None, Bool, true, false}
use Rattle.std.proofs.Common.{refl, sym, ap, ◌∙◌, subst, arith, length, if◌then◌else◌}
use Rattle.std.specs.Prelude.{slice_get, nat_le, ◌==◌, ◌||◌}
use Rattle.std.proofs.Math.Nat.{mul_comm, mul-add}
use Rattle.std.proofs.lemmas.Bool.{leb-true, eqb-true}
use Rattle.sb_base.specs.declared.ending.Ending.{Ending}
use Rattle.sb_base.specs.Endings.{code_of, report_of}
use Rattle.flat_code.specs.declared.instruction.FlatInstruction.{FlatInstruction}
use Rattle.flat_code.specs.declared.instruction.FlatInstruction.TheVariants.{Constant, Move, Operate, Operate32}
use Rattle.flat_code.specs.declared.instruction.FlatInstruction.TheVariants.{Load, Store, Branch, JumpForward}
use Rattle.flat_code.specs.declared.instruction.FlatInstruction.TheVariants.{JumpBack, Turn, Call, CallAddress}
use Rattle.flat_code.specs.declared.instruction.FlatInstruction.TheVariants.{Return, Get, Put, Exit, End, Charged}
use Rattle.flat_code.specs.State.{State}
use Rattle.flat_code.specs.Meaning.{Context, Local, Goes, Ends, Leaves, Fails, local}
use Rattle.flat_code.specs.Routines.Local.{local_run, local_step, act, counted}
use Rattle.flat_code.specs.Routines.ExitStubs.{stays_behind, IsStubbed, Same, Stub, HasExitStubs, ComesToStub}
use Rattle.flat_code.specs.Routines.ExitStubs.{EndsThere, AtStub, DoesWithStubs}
use Rattle.flat_code.proofs.Routines.Steps.{run_suc, run_ended, run_failed, run_left, run_zero}

module _ (c : Context) (stub : Ending → ℕ) (routine code : List FlatInstruction) (from : ℕ)
    (h : HasExitStubs stub routine code from) where
  -- where the same instruction leads in the code, by where it leads in the routine
  abbrev Moved : Local → Local → Type 0
  Moved (Goes q s) l = l ≡ Goes (from + q) s
  Moved (Ends status report s) l = l ≡ Ends status report s
  Moved Leaves l = l ≡ Leaves
  Moved Fails l = l ≡ Fails

  there : (q q' : ℕ) (s : State) → q ≡ q' → Goes q s ≡ Goes q' s
  there q q' s e = ap (λ z. Goes z s) e

  next : (q : ℕ) (s : State) → Goes (from + q + 1) s ≡ Goes (from + (q + 1)) s
  next q s = there (from + q + 1) (from + (q + 1)) s (omega arith)

  guarded : (b : Bool) (q : ℕ) (s : State)
      → Moved (if b then Goes (q + 1) s else Fails) (if b then Goes (from + q + 1) s else Fails)
  guarded true q s = next q s
  guarded false q s = refl

  branched : (b : Bool) (q past : ℕ) (s : State)
      → Goes (if b then from + q + 1 + past else from + q + 1) s
      ≡ Goes (from + (if b then q + 1 + past else q + 1)) s
  branched true q past s = there (from + q + 1 + past) (from + (q + 1 + past)) s (omega arith)
  branched false q past s = next q s

  moved : (i : FlatInstruction) (q : ℕ) (s : State) → stays_behind from q i ≡ true
      → Moved (local c i q s) (local c i (from + q) s)
  moved (Constant x n) q s e = next q _
  moved (Move x y) q s e = next q _
  moved (Operate op x y z) q s e = next q _
  moved (Operate32 op x y z) q s e = next q _
  moved (Load op x y offset) q s e = guarded _ q _
  moved (Store op y offset x) q s e = guarded _ q _
  moved (Branch op y z past) q s e = branched _ q past s
  moved (JumpForward past) q s e = there (from + q + 1 + past) (from + (q + 1 + past)) s (omega arith)
  moved (JumpBack back) q s e = by (from == 0) refl e
    where
      by : (b : Bool) → (from == 0) ≡ b → (b || nat_le back q) ≡ true → Goes (from + q - back) s ≡ Goes (from + (q - back)) s
      by true is t = let z = eqb-true from 0 is in there (from + q - back) (from + (q - back)) s (omega arith)
      by false is t = let le = leb-true back q t in there (from + q - back) (from + (q - back)) s (omega arith)
  moved Turn q s e = next q _
  moved (Call f first x) q s e = refl
  moved (CallAddress y first n x m) q s e = refl
  moved (Return y) q s e = refl
  moved (Get x) q s e = next q _
  moved (Put x) q s e = next q _
  moved (Exit x) q s e = refl
  moved (End x) q s e = refl
  moved (Charged x) q s e = next q _

  -- what comes of the state behind a step comes of that before it
  later : (n q : ℕ) (s : State) (l : Local) (x : Local) → local_step c code (Goes q s) ≡ l
      → DoesWithStubs c code from stub n l x → DoesWithStubs c code from stub (suc n) (Goes q s) x
  later n q s l (Goes q' s') e a = run_suc c code n (Goes q s) ∙ ap (local_run c code n) e ∙ a
  later n q s l (Ends status report s') e (EndsThere ends) =
      EndsThere (run_suc c code n (Goes q s) ∙ ap (local_run c code n) e ∙ ends)
  later n q s l (Ends status report s') e (AtStub a) = AtStub (record {
    ending = a.ending;
    status_is = a.status_is;
    report_is = a.report_is;
    steps = suc a.steps;
    within = omega (arith, a.within);
    work = a.work;
    less = a.less;
    jump = a.jump;
    before = a.before;
    comes = run_suc c code a.steps (Goes q s) ∙ ap (local_run c code a.steps) e ∙ a.comes;
  })
  later n q s l Leaves e a = tt
  later n q s l Fails e a = tt

  abbrev Agree : ℕ → Type 0
  Agree n = (q : ℕ) (s : State)
      → DoesWithStubs c code from stub n (Goes (from + q) s) (local_run c routine n (Goes q s))

  both : (n q : ℕ) (s : State) (l l' : Local) → Agree n → Moved l l' → local_step c code (Goes (from + q) s) ≡ l'
      → DoesWithStubs c code from stub (suc n) (Goes (from + q) s) (local_run c routine n l)
  both n q s (Goes q' s') l' so_far m e =
      later n (from + q) s (Goes (from + q') s') (local_run c routine n (Goes q' s')) (e ∙ m) (so_far q' s')
  both n q s (Ends status report s') l' so_far m e =
      subst (DoesWithStubs c code from stub (suc n) (Goes (from + q) s))
      (sym (run_ended c routine n status report s'))
      (EndsThere (run_suc c code n (Goes (from + q) s) ∙ ap (local_run c code n) (e ∙ m)
      ∙ run_ended c code n status report s'))
  both n q s Leaves l' so_far m e =
      subst (DoesWithStubs c code from stub (suc n) (Goes (from + q) s)) (sym (run_left c routine n)) tt
  both n q s Fails l' so_far m e =
      subst (DoesWithStubs c code from stub (suc n) (Goes (from + q) s)) (sym (run_failed c routine n)) tt

  jumped : (n q : ℕ) (s : State) (e : Ending)
      → slice_get code (from + q) ≡ Some (JumpForward (stub e - suc (from + q))) → from + q < stub e
      → ComesToStub c code stub (suc n) (Goes (from + q) s) (code_of e) (report_of e) (counted c (End e) s)
  jumped n q s e has lt =
      let there : from + q + 1 + (stub e - suc (from + q)) ≡ stub e = omega arith in
      let less = mul-add c.weight 1 (length (report_of e)) in
      let one = mul_comm c.weight 1 in
      record {
        ending = e;
        status_is = refl;
        report_is = refl;
        steps = 1;
        within = omega arith;
        work = s.work + c.weight;
        less = omega (arith, less, one);
        jump = from + q;
        before = lt;
        comes = run_suc c code 0 (Goes (from + q) s) ∙ run_zero c code (local_step c code (Goes (from + q) s))
            ∙ ap (λ o. act c o (from + q) s) has
            ∙ ap (λ z. Goes z (record s { work = s.work + c.weight })) there;
      }

  one : (n q : ℕ) (s : State) (o : Option FlatInstruction) → Agree n → slice_get routine q ≡ o
      → DoesWithStubs c code from stub (suc n) (Goes (from + q) s) (local_run c routine n (act c o q s))
  one n q s None so_far e =
      subst (DoesWithStubs c code from stub (suc n) (Goes (from + q) s)) (sym (run_failed c routine n)) tt
  one n q s (Some i) so_far e = by (h.each q i e)
    where
      by : IsStubbed stub code from q i
          → DoesWithStubs c code from stub (suc n) (Goes (from + q) s) (local_run c routine n (act c (Some i) q s))
      by (Same has on) = both n q s (act c (Some i) q s) (act c (Some i) (from + q) s) so_far
          (moved i q (counted c i s) on) (ap (λ o. act c o (from + q) s) has)
      by (Stub x is has lt) =
          subst (λ j. DoesWithStubs c code from stub (suc n) (Goes (from + q) s)
          (local_run c routine n (act c (Some j) q s))) (sym is)
          (subst (DoesWithStubs c code from stub (suc n) (Goes (from + q) s))
          (sym (run_ended c routine n (code_of x) (report_of x) (counted c (End x) s))) (AtStub (jumped n q s x has lt)))

  pub stubbed : (n q : ℕ) (s : State)
      → DoesWithStubs c code from stub n (Goes (from + q) s) (local_run c routine n (Goes q s))
  stubbed zero q s =
      subst (DoesWithStubs c code from stub 0 (Goes (from + q) s)) (sym (run_zero c routine (Goes q s)))
      (run_zero c code (Goes (from + q) s))
  stubbed (suc n) q s =
      subst (DoesWithStubs c code from stub (suc n) (Goes (from + q) s)) (sym (run_suc c routine n (Goes q s)))
      (one n q s (slice_get routine q) (stubbed n) refl)
