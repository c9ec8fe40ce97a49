-- What one turn of the loop over a body does.
use Rattle.std.proofs.Common.{◌≡◌, ℕ, zero, suc, ◌+◌, ◌≤◌, refl, sym, ap, ◌∙◌, arith, add-one, append_assoc}
use Rattle.std.proofs.Common.{Bool, true, false, List, [], ◌∷◌, ◌++◌, length, drop, Some}
use Rattle.std.specs.Prelude.{slice_get, ◌||◌, if◌then◌else◌}
use Rattle.std.proofs.Math.Path.{fun_ext}
use Rattle.flat_code.specs.declared.instruction.FlatInstruction.{FlatInstruction}
use Rattle.flat_propagation.specs.Facts.{Facts, nothing}
use Rattle.flat_propagation.specs.Known.{after, jumps_to, some_jumps_to, is_target, after_at, known_at, arriving_at}
use Rattle.flat_propagation.specs.Propagated.{rewritten, rewritten_from}

-- the list behind an index
pub drop_at : (body : List FlatInstruction) (k : ℕ) (i : FlatInstruction) → slice_get body k ≡ Some i
    → drop k body ≡ i ∷ drop (k + 1) body
drop_at [] k i e = cc
drop_at (x ∷ xs) zero i e = let s : x ≡ i = cc in ap (λ j. j ∷ xs) s
drop_at (x ∷ xs) (suc k) i e =
    drop_at xs k i e ∙ ap (λ n. i ∷ n) (step xs k)
  where
    step : (xs : List FlatInstruction) (k : ℕ) → drop (k + 1) xs ≡ drop (suc k + 1) (x ∷ xs)
    step xs k = let e : suc k + 1 ≡ suc (k + 1) = omega arith in sym (ap (λ n. drop n (x ∷ xs)) e)

or_assoc : (a b c : Bool) → ((a || b) || c) ≡ (a || (b || c))
or_assoc true b c = refl
or_assoc false b c = refl

or_none : (a : Bool) → (a || false) ≡ a
or_none true = refl
or_none false = refl

-- ---- targets

pub marked : (body : List FlatInstruction) (k q : ℕ) (i : FlatInstruction) (old new : Bool)
    → slice_get body k ≡ Some i → new ≡ (old || jumps_to i k q)
    → (old || some_jumps_to k (drop k body) q) ≡ is_target body q
    → (new || some_jumps_to (k + 1) (drop (k + 1) body) q) ≡ is_target body q
unfolding some_jumps_to
marked body k q i old new at e h =
    ap (λ b. b || some_jumps_to (k + 1) (drop (k + 1) body) q) e
    ∙ or_assoc old (jumps_to i k q) (some_jumps_to (k + 1) (drop (k + 1) body) q)
    ∙ ap (λ l. old || some_jumps_to k l q) (sym (drop_at body k i at))
    ∙ h

drop_all : (body : List FlatInstruction) (n : ℕ) → length body ≤ n → drop n body ≡ []
drop_all [] zero le = refl
drop_all [] (suc n) le = refl
drop_all (x ∷ xs) zero le = absurd (omega (arith, le))
drop_all (x ∷ xs) (suc n) le = drop_all xs n (omega (arith, le))

pub all_marked : (body : List FlatInstruction) (k q : ℕ) (b : Bool) → length body ≤ k
    → (b || some_jumps_to k (drop k body) q) ≡ is_target body q → b ≡ is_target body q
unfolding some_jumps_to
all_marked body k q b le h =
    sym (or_none b) ∙ ap (λ l. b || some_jumps_to k l q) (sym (drop_all body k le)) ∙ h

pub none_marked : (body : List FlatInstruction) (q : ℕ) (b : Bool) → b ≡ false
    → (b || some_jumps_to 0 (drop 0 body) q) ≡ is_target body q
none_marked body q b e = ap (λ b. b || some_jumps_to 0 (drop 0 body) q) e

-- ---- instructions

pub entered : (body : List FlatInstruction) (k : ℕ) (b : Bool) (old new : Facts) → b ≡ is_target body k
    → ((y : ℕ) → old y ≡ arriving_at body k y) → ((y : ℕ) → new y ≡ (if b then nothing else old) y)
    → new ≡ known_at body k
unfolding known_at arriving_at
entered body zero true old new e h k = fun_ext k
entered body zero false old new e h k = fun_ext (λ y. k y ∙ h y)
entered body (suc n) b old new e h k =
    fun_ext k
    ∙ ap (λ f. if b then nothing else f) (fun_ext h)
    ∙ ap (λ b. if b then nothing else after_at (known_at body n) (slice_get body n)) e

pub arrives : (body : List FlatInstruction) (k : ℕ) (i : FlatInstruction) (known new : Facts)
    → slice_get body k ≡ Some i → known ≡ known_at body k → ((y : ℕ) → new y ≡ after known i y) → (y : ℕ)
    → new y ≡ arriving_at body (k + 1) y
unfolding arriving_at
arrives body k i known new at e h y =
    h y
    ∙ ap (λ f. after f i y) e
    ∙ ap (λ o. after_at (known_at body k) o y) (sym at)
    ∙ ap (λ n. arriving_at body n y) (sym (add-one k))

pub lengthened : (body : List FlatInstruction) (k : ℕ) (i j : FlatInstruction) (known : Facts)
    (list list' : List FlatInstruction) (all : List FlatInstruction) → slice_get body k ≡ Some i
    → known ≡ known_at body k → j ≡ rewritten known i → list' ≡ list ++ j ∷ []
    → list ++ rewritten_from body k (drop k body) ≡ all
    → list' ++ rewritten_from body (k + 1) (drop (k + 1) body) ≡ all
unfolding rewritten_from
lengthened body k i j known list list' all at e is new h =
    ap (λ l. l ++ rewritten_from body (k + 1) (drop (k + 1) body)) (new ∙ ap (λ x. list ++ x ∷ []) (is ∙ ap (λ f. rewritten f i) e))
    ∙ append_assoc list (rewritten (known_at body k) i ∷ []) (rewritten_from body (k + 1) (drop (k + 1) body))
    ∙ ap (λ l. list ++ rewritten_from body k l) (sym (drop_at body k i at))
    ∙ h

pub finished : (body : List FlatInstruction) (k : ℕ) (list all : List FlatInstruction) → length body ≤ k
    → list ++ rewritten_from body k (drop k body) ≡ all → list ++ [] ≡ all
unfolding rewritten_from
finished body k list all le h = ap (λ l. list ++ rewritten_from body k l) (sym (drop_all body k le)) ∙ h
