-- The homes of the objects that a scope names, and of those of a block.
use Rattle.std.proofs.Common.{◌≡◌, ◌⊎◌, inl, inr, ⊎_elim, ℕ, zero, suc, ◌+◌, Bool, true, false, ◌||◌, List, []}
use Rattle.std.proofs.Common.{◌∷◌, ◌++◌}
use Rattle.std.proofs.Common.{map, Option, Some, None, refl, sym, subst, arith}
use Rattle.std.specs.Prelude.{if◌then◌else◌}
use Rattle.std.proofs.lemmas.Bool.{or_left, or_right, false≢true}
use Rattle.std.proofs.lemmas.Option.{none-some}
use Rattle.c_tree.specs.declared.expression.Kind.{Kind}
use Rattle.c_tree.specs.declared.program.Variable.{Variable}
use Rattle.c_tree.specs.Blocks.{is_among, opened, closed, block_objects}
use Rattle.c_tree.specs.Valid.{Scope, within}
use Rattle.source_meaning.specs.Blocks.{has_objects}
use Rattle.source_meaning.specs.Good.{object_kind}
use Rattle.tac_ir.specs.declared.function.CodeFunction.{CodeFunction}
use Rattle.flat_code.specs.Routines.Metadata.{entry_registers}
use Rattle.metadata_plan.specs.Registers.{all_variables}
use Rattle.metadata_relation.specs.Registers.{home_entry, first_object}
use Rattle.image_laws.specs.Plans.Assignment.{Registers, IsOneOf}
use Rattle.image_laws.specs.Plans.Instructions.{homes_from, entered_registers, left_registers}
use Rattle.image_laws.proofs.Assignment.Calls.{one_left, one_right}

-- ---- objects of blocks

no_kind : {kind : Kind} → None ≡ Some kind → ⊥
no_kind {kind = kind} e = none-some kind e

abbrev one : Variable → Option Kind
one w = if w.is_object then Some w.kind else None

-- what is an object where a block is opened was one, or the block declares it
pub opened_object : (numbers : List ℕ) (first : ℕ) (all vs : List Variable) (x : ℕ) (kind : Kind)
    → object_kind (opened numbers first all vs) x ≡ Some kind
    → (object_kind vs x ≡ Some kind) ⊎ (object_kind (opened numbers first all (map closed all)) x ≡ Some kind)
opened_object numbers first [] vs x kind e = absurd (no_kind e)
opened_object numbers first (d ∷ ds) [] x kind e = absurd (no_kind e)
opened_object numbers first (d ∷ ds) (v ∷ vs) zero kind e = by (is_among numbers first) e
  where
    by : (b : Bool) → one (if b then d else v) ≡ Some kind
        → (one v ≡ Some kind) ⊎ (one (if b then d else closed d) ≡ Some kind)
    by true e = inr e
    by false e = inl e
opened_object numbers first (d ∷ ds) (v ∷ vs) (suc x) kind e = opened_object numbers (suc first) ds vs x kind e

pub some_object : (vs : List Variable) (x : ℕ) (kind : Kind) → object_kind vs x ≡ Some kind → has_objects vs ≡ true
some_object [] x kind e = absurd (no_kind e)
some_object (v ∷ vs) zero kind e = or_left v.is_object (has_objects vs) (by v.is_object refl e)
  where
    by : (b : Bool) → v.is_object ≡ b → (if b then Some v.kind else None) ≡ Some kind → v.is_object ≡ true
    by true is e = is
    by false is e = absurd (no_kind e)
some_object (v ∷ vs) (suc x) kind e = or_right v.is_object (has_objects vs) (some_object vs x kind e)

-- ---- their homes

module _ (c : CodeFunction) where
  abbrev Home : (variable : ℕ) → List ℕ
  Home x = entry_registers (home_entry c x)

  home_among : (vs : List Variable) (first x : ℕ) (kind : Kind) (y : ℕ) → object_kind vs x ≡ Some kind
      → IsOneOf (Home (first + x)) y → IsOneOf (homes_from c first vs) y
  home_among [] first x kind y e one = absurd (no_kind e)
  home_among (v ∷ vs) first zero kind y e one =
      let here : first + 0 ≡ first = omega arith in
      by v.is_object e (subst (λ z. IsOneOf (Home z) y) here one)
    where
      by : (b : Bool) → (if b then Some v.kind else None) ≡ Some kind → IsOneOf (Home first) y
          → IsOneOf (if b then Home first ++ homes_from c (suc first) vs else homes_from c (suc first) vs) y
      by true e one = one_left (Home first) (homes_from c (suc first) vs) y one
      by false e one = absurd (no_kind e)
  home_among (v ∷ vs) first (suc x) kind y e one =
      let there : first + suc x ≡ suc first + x = omega arith in
      by v.is_object (home_among vs (suc first) x kind y e (subst (λ z. IsOneOf (Home z) y) there one))
    where
      by : (b : Bool) → IsOneOf (homes_from c (suc first) vs) y
          → IsOneOf (if b then Home first ++ homes_from c (suc first) vs else homes_from c (suc first) vs) y
      by true h = one_right (Home first) (homes_from c (suc first) vs) y h
      by false h = h

  pub home_entered : (vs : List Variable) (x : ℕ) (kind : Kind) (y : ℕ) → object_kind vs x ≡ Some kind
      → IsOneOf (Home x) y → IsOneOf (entered_registers c vs) y
  home_entered vs x kind y e one =
      let same : x ≡ 0 + x = omega arith in
      inr (home_among vs 0 x kind y e (subst (λ z. IsOneOf (Home z) y) same one))

  lock_among : (vs : List Variable) (first : ℕ) → has_objects vs ≡ true
      → IsOneOf (homes_from c first vs) (home_entry c (first + first_object vs)).lock
  lock_among [] first e = absurd (false≢true e)
  lock_among (v ∷ vs) first e = by v.is_object e (lock_among vs (suc first))
    where
      by : (b : Bool) → (b || has_objects vs) ≡ true
          → (has_objects vs ≡ true → IsOneOf (homes_from c (suc first) vs) (home_entry c (suc first + first_object vs)).lock)
          → IsOneOf (if b then Home first ++ homes_from c (suc first) vs else homes_from c (suc first) vs)
          (home_entry c (first + (if b then 0 else suc (first_object vs)))).lock
      by true e rest =
          let same : first ≡ first + 0 = omega arith in
          one_left (Home first) (homes_from c (suc first) vs) (home_entry c (first + 0)).lock
          (subst (λ z. IsOneOf (Home first) (home_entry c z).lock) same (inr (inr (inr (inl refl)))))
      by false e rest =
          let same : suc first + first_object vs ≡ first + suc (first_object vs) = omega arith in
          subst (λ z. IsOneOf (homes_from c (suc first) vs) (home_entry c z).lock) same (rest e)

  -- what a block needs that is left was made where it was entered
  pub left_entered : (vs : List Variable) (y : ℕ) → has_objects vs ≡ true → IsOneOf (left_registers c vs) y
      → IsOneOf (entered_registers c vs) y
  left_entered vs y e (inl same) =
      let first : 0 + first_object vs ≡ first_object vs = omega arith in
      inr (subst (IsOneOf (homes_from c 0 vs)) (sym same)
      (subst (λ z. IsOneOf (homes_from c 0 vs) (home_entry c z).lock) first (lock_among vs 0 e)))
  left_entered vs y e (inr (inl same)) = inl same
  left_entered vs y e (inr (inr none)) = absurd none

  -- the objects that a scope names have their homes among some registers
  pub record IsScoped (B : Registers) (scope : Scope) : Type 0 where
    pub all : scope.all ≡ all_variables c
    pub objects : (x : ℕ) (kind : Kind) (y : ℕ) → object_kind scope.variables x ≡ Some kind → IsOneOf (Home x) y → B y

  pub scoped_within : (B C : Registers) (scope : Scope) (numbers : List ℕ) → IsScoped B scope
      → ((y : ℕ) → B y → C y)
      → ((x : ℕ) (kind : Kind) (y : ℕ) → object_kind (block_objects (all_variables c) numbers) x ≡ Some kind
      → IsOneOf (Home x) y → C y)
      → IsScoped C (within scope numbers)
  scoped_within B C scope numbers s up own = record {
    all = s.all;
    objects = λ x kind y e one.
        ⊎_elim (λ h. up y (s.objects x kind y h one))
        (λ h. own x kind y (subst (λ all. object_kind (block_objects all numbers) x ≡ Some kind) s.all h) one)
        (opened_object numbers 0 scope.all scope.variables x kind e);
  }

  pub scoped_more : (B C : Registers) (scope : Scope) → ((y : ℕ) → B y → C y) → IsScoped B scope → IsScoped C scope
  scoped_more B C scope up s = record { all = s.all; objects = λ x kind y e one. up y (s.objects x kind y e one) }
