-- Whether an instruction is a check of a fact is decided, since equality of keys is.
use Rattle.std.proofs.Common.{◌≡◌, ◌⊎◌, inl, inr, ⊎_elim, ℕ, ◌≤◌, List, [], ◌∷◌, Option, Some, None, refl, ap, ◌∙◌}
use Rattle.std.proofs.Common.{arith}
use Rattle.std.specs.Prelude.{slice_get}
use Rattle.std.proofs.lemmas.Bool.{cases_eq, cases_lt}
use Rattle.tac_ir.specs.declared.instruction.Test.{Test}
use Rattle.tac_ir.specs.declared.instruction.Test.TheVariants.{Spatial, Temporal}
use Rattle.tac_ir.specs.declared.instruction.Instruction.{Instruction}
use Rattle.tac_ir.specs.declared.instruction.Instruction.TheVariants as tac
use Rattle.tac_ir.specs.declared.key.Base.{Base}
use Rattle.tac_ir.specs.declared.key.Base.TheVariants.{Plain, Automatic, Static}
use Rattle.tac_ir.specs.declared.key.Scaled.{Scaled}
use Rattle.tac_ir.specs.declared.key.Member.{Member}
use Rattle.tac_ir.specs.declared.key.Key.{Key}
use Rattle.tac_ir.specs.declared.function.CodeFunction.{CodeFunction}
use Rattle.check_elim.specs.Facts.{Fact, Checks}

abbrev pub Decided : Type 0 → Type 0
Decided A = A ⊎ (A → ⊥)

-- what is equivalent to two things that are decided
both : {A B C : Type 0} → Decided A → Decided B → (A → B → C) → (C → A) → (C → B) → Decided C
both (inl a) (inl b) f g h = inl (f a b)
both (inl a) (inr n) f g h = inr (λ c. n (h c))
both (inr n) d f g h = inr (λ c. n (g c))

two : {A B : Type 0} → Decided A → Decided B → Decided (A × B)
two d e = both d e (λ a b. (a, b)) (λ c. c.0) (λ c. c.1)

same_number : (x y : ℕ) → Decided (x ≡ y)
same_number x y = ⊎_elim (λ e. inl e) (λ n. inr n) (cases_eq x y)

same_base : (a b : Base) → Decided (a ≡ b)
same_base (Plain x) (Plain y) = ⊎_elim (λ e. inl (ap Plain e)) (λ n. inr (λ h. n cc)) (cases_eq x y)
same_base (Automatic x) (Automatic y) = ⊎_elim (λ e. inl (ap Automatic e)) (λ n. inr (λ h. n cc)) (cases_eq x y)
same_base (Static x) (Static y) = ⊎_elim (λ e. inl (ap Static e)) (λ n. inr (λ h. n cc)) (cases_eq x y)
same_base a b = inr (λ h. cc)

same_scaled : (a b : Option Scaled) → Decided (a ≡ b)
same_scaled None None = inl refl
same_scaled None (Some b) = inr (λ h. cc)
same_scaled (Some a) None = inr (λ h. cc)
same_scaled (Some a) (Some b) =
    both (same_number a.variable b.variable) (same_number a.size b.size)
    (λ e q. ap (λ n. Some (record { variable = n; size = a.size })) e
    ∙ ap (λ n. Some (record { variable = b.variable; size = n })) q)
    (λ h. let same : a ≡ b = cc in ap (λ (x : Scaled). x.variable) same)
    (λ h. let same : a ≡ b = cc in ap (λ (x : Scaled). x.size) same)

same_member : (a b : Member) → Decided (a ≡ b)
same_member a b =
    both (two (same_number a.constant b.constant) (same_number a.size b.size)) (same_scaled a.scaled b.scaled)
    (λ e q. ap (λ n. record { constant = n; scaled = a.scaled; size = a.size }) e.0
    ∙ ap (λ n. record { constant = b.constant; scaled = n; size = a.size }) q
    ∙ ap (λ n. record { constant = b.constant; scaled = b.scaled; size = n }) e.1)
    (λ h. (ap (λ (x : Member). x.constant) h, ap (λ (x : Member). x.size) h))
    (λ h. ap (λ (x : Member). x.scaled) h)

same_path : (a b : List Member) → Decided (a ≡ b)
same_path [] [] = inl refl
same_path [] (y ∷ ys) = inr (λ h. cc)
same_path (x ∷ xs) [] = inr (λ h. cc)
same_path (x ∷ xs) (y ∷ ys) =
    both (same_member x y) (same_path xs ys) (λ e q. ap (λ z. z ∷ xs) e ∙ ap (λ zs. y ∷ zs) q) (λ h. cc) (λ h. cc)

same_key : (a b : Key) → Decided (a ≡ b)
same_key a b =
    both (two (same_base a.base b.base) (same_number a.constant b.constant))
    (two (same_path a.path b.path) (same_scaled a.scaled b.scaled))
    (λ e q. ap (λ n. record { base = n; path = a.path; constant = a.constant; scaled = a.scaled }) e.0
    ∙ ap (λ n. record { base = b.base; path = n; constant = a.constant; scaled = a.scaled }) q.0
    ∙ ap (λ n. record { base = b.base; path = b.path; constant = n; scaled = a.scaled }) e.1
    ∙ ap (λ n. record { base = b.base; path = b.path; constant = b.constant; scaled = n }) q.1)
    (λ h. (ap (λ (x : Key). x.base) h, ap (λ (x : Key). x.constant) h))
    (λ h. (ap (λ (x : Key). x.path) h, ap (λ (x : Key). x.scaled) h))

same_test : (a b : Test) → Decided (a ≡ b)
same_test Spatial Spatial = inl refl
same_test Temporal Temporal = inl refl
same_test Spatial Temporal = inr (λ h. cc)
same_test Temporal Spatial = inr (λ h. cc)

at_most : (x y : ℕ) → Decided (x ≤ y)
at_most x y = ⊎_elim (λ lt. inr (λ h. omega (arith, lt, h))) (λ ge. inl (omega (arith, ge))) (cases_lt y x)

key_at : (o : Option Key) (key : Key) → Decided (o ≡ Some key)
key_at None key = inr (λ h. cc)
key_at (Some k) key = ⊎_elim (λ e. inl (ap Some e)) (λ n. inr (λ h. n cc)) (same_key k key)

pub decide_checks : (function : CodeFunction) (f : Fact) (i : Instruction) → Decided (Checks function f i)
decide_checks function f (tac.Judge test size line (Some n) a m) =
    both (same_test test f.test) (two (key_at (slice_get function.keys n) f.key) (at_most f.size size))
    (λ e q. (e, q.0, q.1)) (λ c. c.0) (λ c. (c.1, c.2))
decide_checks function f (tac.Judge test size line None a m) = inr (λ h. h)
decide_checks function f i = inr (λ h. h)
