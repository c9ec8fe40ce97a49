-- Runs within a function.
use Rattle.std.proofs.Common.{◌≡◌, ℕ, zero, suc, ◌+◌, ◌<◌, List, [], ◌∷◌, ◌++◌, Some, None, length, refl, ap, ◌∙◌}
use Rattle.std.proofs.Common.{subst, arith, length-append, append_assoc}
use Rattle.std.proofs.Math.Seq.{get_or-append_seam}
use Rattle.std.proofs.lemmas.Option.{slice_get-get_or}
use Rattle.std.specs.Prelude.{slice_get}
use Rattle.flat_code.specs.declared.instruction.FlatInstruction.{FlatInstruction}
use Rattle.flat_code.specs.State.{State}
use Rattle.flat_code.specs.Meaning.{Context, Local, Goes, Ends, Leaves, Fails}
use Rattle.flat_code.proofs.Words.{LocalFits, local_fits}
use Rattle.flat_code.specs.Routines.Local.{counted, act, local_step, local_run}
use Rattle.flat_code.specs.Routines.Routine.{HasAt}

-- what stands one after another stands each in its place
pub has_front : (code : List FlatInstruction) (pc : ℕ) (a b : List FlatInstruction) → HasAt code pc (a ++ b)
    → HasAt code pc a
has_front code pc [] b h = tt
has_front code pc (i ∷ a) b h = (h.0, has_front code (pc + 1) a b h.1)

pub has_back : (code : List FlatInstruction) (pc : ℕ) (a b : List FlatInstruction) → HasAt code pc (a ++ b)
    → HasAt code (pc + length a) b
has_back code pc [] b h = let e : pc ≡ pc + 0 = omega arith in subst (λ n. HasAt code n b) e h
has_back code pc (i ∷ a) b h =
    let e : pc + 1 + length a ≡ pc + length (i ∷ a) = omega arith in
    subst (λ n. HasAt code n b) e (has_back code (pc + 1) a b h.1)

pub has_all : (is pre : List FlatInstruction) → HasAt (pre ++ is) (length pre) is
has_all [] pre = tt
has_all (i ∷ is) pre =
    let within : length pre < length (pre ++ i ∷ is) = omega (arith, length-append pre (i ∷ is)) in
    let here = slice_get-get_or (pre ++ i ∷ is) (length pre) i within ∙ ap Some (get_or-append_seam pre i is i) in
    let n : length (pre ++ i ∷ []) ≡ length pre + 1 = omega (arith, length-append pre (i ∷ [])) in
    let rest = has_all is (pre ++ i ∷ []) in
    let rest' = subst (λ l. HasAt l (length (pre ++ i ∷ [])) is) (append_assoc pre (i ∷ []) is) rest in
    (here, subst (λ m. HasAt (pre ++ i ∷ is) m is) n rest')

-- a routine stands in itself
pub has_self : (r : List FlatInstruction) → HasAt r 0 r
has_self r = has_all r []

pub run_zero : (c : Context) (code : List FlatInstruction) (l : Local) → local_run c code 0 l ≡ l
unfolding local_run
run_zero c code l = refl

pub run_one : (c : Context) (code : List FlatInstruction) (l : Local) → local_run c code 1 l ≡ local_step c code l
unfolding local_run
run_one c code l = refl

pub run_suc : (c : Context) (code : List FlatInstruction) (n : ℕ) (l : Local)
    → local_run c code (suc n) l ≡ local_run c code n (local_step c code l)
unfolding local_run
run_suc c code n l = refl

pub run_add : (c : Context) (code : List FlatInstruction) (m n : ℕ) (l : Local)
    → local_run c code (m + n) l ≡ local_run c code n (local_run c code m l)
unfolding local_run
run_add c code zero n l = let e : 0 + n ≡ n = omega arith in ap (λ k. local_run c code k l) e
run_add c code (suc m) n l =
    let e : suc m + n ≡ suc (m + n) = omega arith in
    ap (λ k. local_run c code k l) e ∙ run_add c code m n (local_step c code l)

pub run_ended : (c : Context) (code : List FlatInstruction) (n status : ℕ) (report : List ℕ) (s : State)
    → local_run c code n (Ends status report s) ≡ Ends status report s
unfolding local_run
run_ended c code zero status report s = refl
run_ended c code (suc n) status report s = run_ended c code n status report s

pub run_left : (c : Context) (code : List FlatInstruction) (n : ℕ) → local_run c code n Leaves ≡ Leaves
unfolding local_run
run_left c code zero = refl
run_left c code (suc n) = run_left c code n

pub run_failed : (c : Context) (code : List FlatInstruction) (n : ℕ) → local_run c code n Fails ≡ Fails
unfolding local_run
run_failed c code zero = refl
run_failed c code (suc n) = run_failed c code n

-- values stay words, and bytes bytes
step_fits : (c : Context) (code : List FlatInstruction) (l : Local) → LocalFits l → LocalFits (local_step c code l)
step_fits c code (Goes pc s) h =
    elim (slice_get code pc) as (λ o. LocalFits (act c o pc s)) [
      | None ↦ tt
      | Some i ↦ local_fits c i pc (counted c i s) (record { values = h.values; memory = h.memory })
    ]
step_fits c code (Ends status report s) h = tt
step_fits c code Leaves h = tt
step_fits c code Fails h = tt

pub run_fits : (c : Context) (code : List FlatInstruction) (n : ℕ) (l : Local) → LocalFits l
    → LocalFits (local_run c code n l)
unfolding local_run
run_fits c code zero l h = h
run_fits c code (suc n) l h = run_fits c code n (local_step c code l) (step_fits c code l h)
