-- Code without jumps does what its effects say.
use Rattle.std.proofs.Common.{◌≡◌, ℕ, ◌+◌, List, [], ◌∷◌, ◌++◌, Bool, true, false, not, ◌&&◌, if◌then◌else◌}
use Rattle.std.proofs.Common.{length, refl, ap, ◌∙◌, arith}
use Rattle.std.proofs.lemmas.Bool.{cond-true}
use Rattle.behaviours.specs.Shown.{AccessKind, Read, Write}
use Rattle.rv_isa.specs.Results.{load_bytes, extended, store_bytes}
use Rattle.flat_code.specs.declared.instruction.FlatInstruction.{FlatInstruction}
use Rattle.flat_code.specs.declared.instruction.FlatInstruction.TheVariants.{Constant, Move, Operate, Operate32}
use Rattle.flat_code.specs.declared.instruction.FlatInstruction.TheVariants.{Load, Store, Branch, JumpForward}
use Rattle.flat_code.specs.declared.instruction.FlatInstruction.TheVariants.{JumpBack, Turn, Call, CallAddress}
use Rattle.flat_code.specs.declared.instruction.FlatInstruction.TheVariants.{Return, Get, Put, Exit, End, Charged}
use Rattle.flat_code.specs.Memory.{load, store}
use Rattle.flat_code.specs.Spaces.{is_of_objects}
use Rattle.flat_code.specs.State.{State}
use Rattle.flat_code.specs.Meaning.{Context, Goes, Fails, local, with_register, with_access, address_in}
use Rattle.flat_code.specs.Routines.Local.{counted, act, local_run}
use Rattle.flat_code.specs.Routines.Routine.{HasAt}
use Rattle.flat_code.specs.Routines.Effects.{with_shown, worked, effect, IsAllowed, effects, AreAllowed}

pub access_shown : (c : Context) (a n : ℕ) (kind : AccessKind) (s : State)
    → with_access c a n kind s ≡ record s { accesses = with_shown c a n kind s.accesses }
access_shown c a n kind s = by (not c.is_runtime && is_of_objects c.sizes a n)
  where
    by : (b : Bool)
        → (if b then record s { accesses = s.accesses ++ record { address = a; size = n; kind = kind } ∷ [] } else s)
        ≡ record s {
          accesses = if b then s.accesses ++ record { address = a; size = n; kind = kind } ∷ [] else
              s.accesses;
        }
    by true = refl
    by false = refl

goes_straight : (c : Context) (i : FlatInstruction) (pc : ℕ) (s : State) → IsAllowed c i s
    → local c i pc (counted c i s) ≡ Goes (pc + 1) (effect c i s)
goes_straight c (Constant x n) pc s h = refl
goes_straight c (Move x y) pc s h = refl
goes_straight c (Operate op x y z) pc s h = refl
goes_straight c (Operate32 op x y z) pc s h = refl
goes_straight c (Load op x y offset) pc s h =
    let a = address_in s y offset in
    let n = load_bytes op in
    let v = extended op (load n s.memory a) in
    cond-true _ (Goes (pc + 1) (with_register x v (with_access c a n Read (worked c s)))) Fails h
    ∙ ap (λ z. Goes (pc + 1) (with_register x v z)) (access_shown c a n Read (worked c s))
goes_straight c (Store op y offset x) pc s h =
    let a = address_in s y offset in
    let n = store_bytes op in
    let t : State = record (worked c s) { memory = store n s.memory a (s.values x) } in
    cond-true _ (Goes (pc + 1) (with_access c a n Write t)) Fails h
    ∙ ap (λ z. Goes (pc + 1) z) (access_shown c a n Write t)
goes_straight c (Branch op y z past) pc s h = absurd h
goes_straight c (JumpForward past) pc s h = absurd h
goes_straight c (JumpBack back) pc s h = absurd h
goes_straight c Turn pc s h = refl
goes_straight c (Call f first x) pc s h = absurd h
goes_straight c (CallAddress y first n x m) pc s h = absurd h
goes_straight c (Return y) pc s h = absurd h
goes_straight c (Get x) pc s h = refl
goes_straight c (Put x) pc s h = refl
goes_straight c (Exit x) pc s h = absurd h
goes_straight c (End e) pc s h = absurd h
goes_straight c (Charged x) pc s h = refl

pub run_straight : (c : Context) (code is : List FlatInstruction) (pc : ℕ) (s : State) → AreAllowed c is s
    → HasAt code pc is → local_run c code (length is) (Goes pc s) ≡ Goes (pc + length is) (effects c is s)
unfolding local_run
run_straight c code [] pc s a h = let n : pc ≡ pc + 0 = omega arith in ap (λ k. Goes k s) n
run_straight c code (i ∷ is) pc s a h =
    let n : pc + 1 + length is ≡ pc + length (i ∷ is) = omega arith in
    ap (λ o. local_run c code (length is) (act c o pc s)) h.0
    ∙ ap (local_run c code (length is)) (goes_straight c i pc s a.0)
    ∙ run_straight c code is (pc + 1) (effect c i s) a.1 h.1
    ∙ ap (λ k. Goes k (effects c is (effect c i s))) n

pub effects_append : (c : Context) (a b : List FlatInstruction) (s : State)
    → effects c (a ++ b) s ≡ effects c b (effects c a s)
effects_append c [] b s = refl
effects_append c (i ∷ a) b s = effects_append c a b (effect c i s)
