-- Where the stubs of a function stand.
use Rattle.std.proofs.Common.{◌≡◌, ℕ, zero, suc, ◌+◌, ◌-◌, ◌*◌, ◌<◌, ◌≤◌, List, [], ◌∷◌, ◌++◌, Option, Some, None}
use Rattle.std.proofs.Common.{length, refl, sym, ap, ◌∙◌, subst, arith}
use Rattle.std.specs.Prelude.{slice_get}
use Rattle.std.proofs.lemmas.Option.{same_Some, none-some}
use Rattle.sb_base.specs.declared.ending.Ending.{Ending}
use Rattle.sb_base.specs.declared.ending.Ending.TheVariants as ending
use Rattle.flat_code.specs.declared.instruction.FlatInstruction.{FlatInstruction}
use Rattle.flat_code.specs.declared.instruction.FlatInstruction.TheVariants.{Constant, Move, Operate, Operate32}
use Rattle.flat_code.specs.declared.instruction.FlatInstruction.TheVariants.{Load, Store, Branch, JumpForward}
use Rattle.flat_code.specs.declared.instruction.FlatInstruction.TheVariants.{JumpBack, Turn, Call, CallAddress}
use Rattle.flat_code.specs.declared.instruction.FlatInstruction.TheVariants.{Return, Get, Put, Exit, End, Charged}
use Rattle.flat_code.specs.Routines.Routine.{HasAt}
use Rattle.flat_code.specs.Routines.ExitStubs.{IsStubbed, Same, Stub, HasExitStubs}
use Rattle.flat_code.proofs.Routines.Steps.{has_self, has_back}
use Rattle.runtime_functions.specs.declared.status.ReturnStatus.{ReturnStatus}
use Rattle.runtime_functions.specs.declared.status.ReturnStatus.TheVariants.{Completed, Spatial, Temporal, BadCall}
use Rattle.runtime_functions.specs.declared.status.ReturnStatus.TheVariants.{BadFree, Divide, Stack, Keys, Abort}
use Rattle.runtime_functions.specs.Status.{return_status, status_number}
use Rattle.runtime_functions.specs.Functions.{stub_place, with_status, with_stub, with_stubs, stubs, function_body}

-- ---- statuses

-- a status of an ending is a number from 1 to 8
pub numbered : (e : Ending) (r : ReturnStatus) → return_status e ≡ Some r → (1 ≤ status_number r) × (status_number r ≤ 8)
numbered e Completed is = absurd (by e is)
  where
    by : (e : Ending) → return_status e ≡ Some Completed → ⊥
    by (ending.Exit s) is = cc
    by (ending.Spatial l) is = cc
    by (ending.Temporal l) is = cc
    by (ending.BadCall l) is = cc
    by (ending.BadFree l) is = cc
    by (ending.Divide l) is = cc
    by (ending.Stack l) is = cc
    by (ending.Keys l) is = cc
    by (ending.Abort l) is = cc
numbered e Spatial is = (omega arith, omega arith)
numbered e Temporal is = (omega arith, omega arith)
numbered e BadCall is = (omega arith, omega arith)
numbered e BadFree is = (omega arith, omega arith)
numbered e Divide is = (omega arith, omega arith)
numbered e Stack is = (omega arith, omega arith)
numbered e Keys is = (omega arith, omega arith)
numbered e Abort is = (omega arith, omega arith)

-- ---- places

pub place_below : (is : List FlatInstruction) (q : ℕ) (i : FlatInstruction) → slice_get is q ≡ Some i → q < length is
place_below [] q i e = absurd (none-some i e)
place_below (j ∷ is) zero i e = omega arith
place_below (j ∷ is) (suc q) i e = let l = place_below is q i e in omega arith

with_stubs_at : (n k : ℕ) (is tail : List FlatInstruction) (q : ℕ) (i : FlatInstruction) → slice_get is q ≡ Some i
    → slice_get (with_stubs n k is ++ tail) q ≡ Some (with_stub n (k + q) i)
with_stubs_at n k [] tail q i e = absurd (none-some i e)
with_stubs_at n k (j ∷ is) tail zero i e =
    let same : k ≡ k + 0 = omega arith in
    ap (λ j. Some (with_stub n k j)) (same_Some _ _ e) ∙ ap (λ z. Some (with_stub n z i)) same
with_stubs_at n k (j ∷ is) tail (suc q) i e =
    let same : suc k + q ≡ k + suc q = omega arith in
    with_stubs_at n (suc k) is tail q i e ∙ ap (λ z. Some (with_stub n z i)) same

length_with_stubs : (n k : ℕ) (is : List FlatInstruction) → length (with_stubs n k is) ≡ length is
length_with_stubs n k [] = refl
length_with_stubs n k (i ∷ is) = ap suc (length_with_stubs n (suc k) is)

stubs_have : (code : List FlatInstruction) (pc d k j i : ℕ) → HasAt code pc (stubs d k j) → i < j
    → HasAt code (pc + 2 * i) (Constant d (k + i) ∷ Return d ∷ [])
stubs_have code pc d k zero i h l = absurd (omega arith)
stubs_have code pc d k (suc j) zero h l =
    let at : pc ≡ pc + 2 * 0 = omega arith in
    let number : k ≡ k + 0 = omega arith in
    subst (λ z. HasAt code (pc + 2 * 0) (Constant d z ∷ Return d ∷ [])) number
    (subst (λ z. HasAt code z (Constant d k ∷ Return d ∷ [])) at (h.0, (h.1.0, tt)))
stubs_have code pc d k (suc j) (suc i) h l =
    let at : pc + 1 + 1 + 2 * i ≡ pc + 2 * suc i = omega arith in
    let number : suc k + i ≡ k + suc i = omega arith in
    subst (λ z. HasAt code (pc + 2 * suc i) (Constant d z ∷ Return d ∷ [])) number
    (subst (λ z. HasAt code z (Constant d (suc k + i) ∷ Return d ∷ [])) at
    (stubs_have code (pc + 1 + 1) d (suc k) j i h.1.1 (omega arith)))

-- ---- a function

module _ (r : List FlatInstruction) (d : ℕ) where
  abbrev body : List FlatInstruction
  body = function_body r d

  pub has_return : HasAt body (length r) (Return d ∷ stubs d 1 8)
  has_return =
      let at : 0 + length (with_stubs (length r) 0 r) ≡ length r = omega (arith, length_with_stubs (length r) 0 r) in
      subst (λ n. HasAt body n (Return d ∷ stubs d 1 8)) at
      (has_back body 0 (with_stubs (length r) 0 r) (Return d ∷ stubs d 1 8) (has_self body))

  -- the stub of a status
  pub has_stub : (x : ReturnStatus) → 1 ≤ status_number x → status_number x ≤ 8
      → HasAt body (stub_place (length r) x) (Constant d (status_number x) ∷ Return d ∷ [])
  has_stub x some few =
      let number : 1 + (status_number x - 1) ≡ status_number x = omega arith in
      subst (λ z. HasAt body (stub_place (length r) x) (Constant d z ∷ Return d ∷ [])) number
      (stubs_have body (length r + 1) d 1 8 (status_number x - 1) has_return.1 (omega arith))

  -- where the stub of an ending stands
  abbrev pub place_by : Option ReturnStatus → ℕ
  place_by None = 0
  place_by (Some x) = stub_place (length r) x

  abbrev pub stub_of : Ending → ℕ
  stub_of e = place_by (return_status e)

  ended : (q : ℕ) (e : Ending) (o : Option ReturnStatus) → return_status e ≡ o → q < length r
      → slice_get body (0 + q) ≡ Some (with_status (length r) q e o) → IsStubbed stub_of body 0 q (End e)
  ended q e None is l h = Same h refl
  ended q e (Some x) is l h =
      let place : stub_of e ≡ stub_place (length r) x = ap place_by is in
      let same : stub_place (length r) x - suc q ≡ stub_of e - suc (0 + q) = omega arith in
      Stub e refl (h ∙ ap (λ z. Some (JumpForward z)) same) (omega arith)

  stands : (q : ℕ) (i : FlatInstruction) → q < length r → slice_get body (0 + q) ≡ Some (with_stub (length r) q i)
      → IsStubbed stub_of body 0 q i
  stands q (Constant x n) l h = Same h refl
  stands q (Move x y) l h = Same h refl
  stands q (Operate op x y z) l h = Same h refl
  stands q (Operate32 op x y z) l h = Same h refl
  stands q (Load op x y offset) l h = Same h refl
  stands q (Store op y offset x) l h = Same h refl
  stands q (Branch op y z past) l h = Same h refl
  stands q (JumpForward past) l h = Same h refl
  stands q (JumpBack back) l h = Same h refl
  stands q Turn l h = Same h refl
  stands q (Call f first x) l h = Same h refl
  stands q (CallAddress y first n x m) l h = Same h refl
  stands q (Return y) l h = Same h refl
  stands q (Get x) l h = Same h refl
  stands q (Put x) l h = Same h refl
  stands q (Exit x) l h = Same h refl
  stands q (End e) l h = ended q e (return_status e) refl l h
  stands q (Charged x) l h = Same h refl

  pub has_exit_stubs : HasExitStubs stub_of r body 0
  has_exit_stubs = record {
    each = λ q i e.
        let zero_more : q ≡ 0 + q = omega arith in
        let at = with_stubs_at (length r) 0 r (Return d ∷ stubs d 1 8) q i e in
        let here : 0 + q ≡ q = omega arith in
        stands q i (place_below r q i e)
        (subst (λ z. slice_get body z ≡ Some (with_stub (length r) q i)) zero_more
        (at ∙ ap (λ z. Some (with_stub (length r) z i)) here));
  }

  -- ---- endings without a status

  no_status : (n q : ℕ) (e : Ending) (x : Ending) (o : Option ReturnStatus) → return_status e ≡ o
      → with_status n q e o ≡ End x → return_status x ≡ None
  no_status n q e x None is same = by (End e) (End x) same e x refl refl ∙ is
    where
      by : (i j : FlatInstruction) → i ≡ j → (e x : Ending) → i ≡ End e → j ≡ End x → return_status x ≡ return_status e
      by i j s e x a b = let z : End e ≡ End x = sym a ∙ s ∙ b in cc
  no_status n q e x (Some y) is same = absurd cc

  ends_without : (n q : ℕ) (i : FlatInstruction) (x : Ending) → with_stub n q i ≡ End x → return_status x ≡ None
  ends_without n q (Constant y v) x e = absurd cc
  ends_without n q (Move y z) x e = absurd cc
  ends_without n q (Operate op y z w) x e = absurd cc
  ends_without n q (Operate32 op y z w) x e = absurd cc
  ends_without n q (Load op y z offset) x e = absurd cc
  ends_without n q (Store op z offset y) x e = absurd cc
  ends_without n q (Branch op y z past) x e = absurd cc
  ends_without n q (JumpForward past) x e = absurd cc
  ends_without n q (JumpBack back) x e = absurd cc
  ends_without n q Turn x e = absurd cc
  ends_without n q (Call f first y) x e = absurd cc
  ends_without n q (CallAddress y first k z m) x e = absurd cc
  ends_without n q (Return y) x e = absurd cc
  ends_without n q (Get y) x e = absurd cc
  ends_without n q (Put y) x e = absurd cc
  ends_without n q (Exit y) x e = absurd cc
  ends_without n q (End z) x e = no_status n q z x (return_status z) refl e
  ends_without n q (Charged y) x e = absurd cc

  in_stubs : (d k j q : ℕ) (x : Ending) → slice_get (stubs d k j) q ≡ Some (End x) → return_status x ≡ None
  in_stubs d k zero q x e = absurd (none-some (End x) e)
  in_stubs d k (suc j) zero x e = absurd cc
  in_stubs d k (suc j) (suc zero) x e = absurd cc
  in_stubs d k (suc j) (suc (suc q)) x e = in_stubs d (suc k) j q x e

  in_body : (n k : ℕ) (is : List FlatInstruction) (q : ℕ) (x : Ending)
      → slice_get (with_stubs n k is ++ Return d ∷ stubs d 1 8) q ≡ Some (End x) → return_status x ≡ None
  in_body n k [] zero x e = absurd cc
  in_body n k [] (suc q) x e = in_stubs d 1 8 q x e
  in_body n k (i ∷ is) zero x e = ends_without n k i x (same_Some _ _ e)
  in_body n k (i ∷ is) (suc q) x e = in_body n (suc k) is q x e

  -- an ending that stands in the function has no status
  pub stays_without : (q : ℕ) (x : Ending) → slice_get body q ≡ Some (End x) → return_status x ≡ None
  stays_without q x e = in_body (length r) 0 r q x e
