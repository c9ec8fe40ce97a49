-- Lists of constants and moves: what they leave in registers.
use Rattle.std.proofs.Common.{◌≡◌, ◌≢◌, ◌⊎◌, ⊎_elim, inl, inr, ℕ, suc, ◌+◌, ◌*◌, ◌<◌, ◌≤◌, Bool, true, false, List, []}
use Rattle.std.proofs.Common.{◌∷◌, length, ap, ◌∙◌, arith}
use Rattle.words.specs.TwosComplement.{low_bits}
use Rattle.addr_map.specs.Places.{MapSizes}
use Rattle.flat_code.specs.declared.instruction.FlatInstruction.{FlatInstruction}
use Rattle.flat_code.specs.declared.instruction.FlatInstruction.TheVariants.{Constant, Move}
use Rattle.flat_code.specs.declared.function.FlatProgram.{FlatProgram}
use Rattle.flat_code.specs.Memory.{put}
use Rattle.flat_code.specs.State as flat
use Rattle.flat_code.specs.Calls.{function_in}
use Rattle.flat_code.specs.Meaning.{body_of}
use Rattle.flat_code.proofs.Stored.{put_same, put_other}
use Rattle.flat_code.specs.Routines.Metadata.{metadata_in, no_metadata}
use Rattle.flat_code.specs.Routines.Routine.{HasAt}
use Rattle.flat_code.proofs.Routines.Words.{same_metadata}
use Rattle.lib_wrappers.specs.AccessRoutines.Accessing.{no_entry}
use Rattle.runtime_functions.specs.Library.{held_from}
use Rattle.metadata_relation.specs.Blocks.{move_value}
use Rattle.metadata_plan.proofs.Flat.{Comes, next_comes, at_place, constant_comes, move_comes}

-- what constants and moves leave
abbrev pub assigned : List FlatInstruction → flat.Values → flat.Values
assigned [] values = values
assigned (Constant x n ∷ is) values = assigned is (put values x (low_bits 64 n))
assigned (Move x y ∷ is) values = assigned is (put values x (values y))
assigned (i ∷ is) values = assigned is values

abbrev pub are_assignments : List FlatInstruction → Bool
are_assignments [] = true
are_assignments (Constant x n ∷ is) = are_assignments is
are_assignments (Move x y ∷ is) = are_assignments is
are_assignments (i ∷ is) = false

module _ (m : MapSizes) (p : FlatProgram) (u : ℕ) (xs : List flat.Frame) where
  nowhere : (pc : ℕ) (v : flat.State) → Comes m p u pc v xs (pc + 0) v 0
  nowhere pc v = record {
    steps = 0;
    work = 0;
    few = omega arith;
    comes =
        let e : pc ≡ pc + 0 = omega arith in
        let w : v.work ≡ v.work + 0 = omega arith in
        ap (λ z. flat.Stands u z v xs) e ∙ ap (λ z. flat.Stands u (pc + 0) (record v { work = z }) xs) w;
  }

  worked : (is : List FlatInstruction) (pc : ℕ) (v : flat.State) (w : ℕ)
      → Comes m p u pc (record v { work = w }) xs (pc + length is) (record v { values = assigned is v.values; work = w })
      (2 * length is)
      → Comes m p u pc (record v { work = w }) xs (pc + length is) (record v { values = assigned is v.values })
      (2 * length is)
  worked is pc v w c = record { steps = c.steps; work = c.work; few = c.few; comes = c.comes }

  -- one more at the front
  then_assigns : (x value : ℕ) (is : List FlatInstruction) (pc : ℕ) (v : flat.State)
      → Comes m p u pc v xs (pc + 1) (record v { values = put v.values x value }) 2
      → ((w : ℕ) → Comes m p u (pc + 1) (record v { values = put v.values x value; work = w }) xs (pc + 1 + length is)
      (record v { values = assigned is (put v.values x value) }) (2 * length is))
      → Comes m p u pc v xs (pc + suc (length is))
      (record v { values = assigned is (put v.values x value) }) (2 * suc (length is))
  then_assigns x value is pc v a b =
      let all = next_comes m p u pc v xs (pc + 1) (pc + 1 + length is) (record v { values = put v.values x value })
      (record v { values = assigned is (put v.values x value) }) 2 (2 * length is) a b in
      let few = all.few in
      let place : pc + 1 + length is ≡ pc + suc (length is) = omega arith in
      at_place m p u pc v xs (pc + 1 + length is) (pc + suc (length is))
      (record v { values = assigned is (put v.values x value) }) (2 * suc (length is))
      (record { steps = all.steps; work = all.work; few = omega arith; comes = all.comes }) place

  pub assigns : (is : List FlatInstruction) → are_assignments is ≡ true → (pc : ℕ) (v : flat.State)
      → HasAt (body_of (function_in p u)) pc is
      → Comes m p u pc v xs (pc + length is) (record v { values = assigned is v.values }) (2 * length is)
  assigns [] e pc v has = nowhere pc v
  assigns (Constant x n ∷ is) e pc v has =
      then_assigns x (low_bits 64 n) is pc v (constant_comes m p u pc v xs x n has.0)
      (λ w. worked is (pc + 1) (record v { values = put v.values x (low_bits 64 n) }) w
      (assigns is e (pc + 1) (record v { values = put v.values x (low_bits 64 n); work = w }) has.1))
  assigns (Move x y ∷ is) e pc v has =
      then_assigns x (v.values y) is pc v (move_comes m p u pc v xs x y has.0)
      (λ w. worked is (pc + 1) (record v { values = put v.values x (v.values y) }) w
      (assigns is e (pc + 1) (record v { values = put v.values x (v.values y); work = w }) has.1))
  assigns (i ∷ is) e pc v has = cc

-- ---- five registers one behind the other

-- what is outside of them is outside of the last four, and is not the first
pub wider : (y r : ℕ) → (y < r) ⊎ (r + 5 ≤ y) → (y < r + 1) ⊎ (r + 5 ≤ y)
wider y r (inl below) = inl (omega arith)
wider y r (inr above) = inr above

pub not_into : (y r : ℕ) → (y < r) ⊎ (r + 5 ≤ y) → y ≢ r
not_into y r (inl below) e = absurd (omega arith)
not_into y r (inr above) e = absurd (omega arith)

put_away : (values : flat.Values) (x n y : ℕ) → y ≢ x → put values x n y ≡ values y
put_away values x n y ne = put_other values x n y ne

-- the entry of no pointer
pub record IsCleared (register : ℕ) (values after : flat.Values) : Type 0 where
  pub entry : metadata_in after (held_from register).tag ≡ no_metadata
  pub others : (y : ℕ) → (y < register + 1) ⊎ (register + 5 ≤ y) → after y ≡ values y

pub cleared : (r : ℕ) (values : flat.Values) → IsCleared r values (assigned (no_entry (held_from r).tag) values)
cleared r values =
    let a : flat.Values = put values (r + 1) 0 in
    let b : flat.Values = put a (r + 2) 0 in
    let c : flat.Values = put b (r + 3) 0 in
    record {
      entry = same_metadata (metadata_in (put c (r + 4) 0) (held_from r).tag) no_metadata
          (put_away c (r + 4) 0 (r + 1) (λ e. omega arith) ∙ put_away b (r + 3) 0 (r + 1) (λ e. omega arith)
          ∙ put_away a (r + 2) 0 (r + 1) (λ e. omega arith) ∙ put_same values (r + 1) 0)
          (put_away c (r + 4) 0 (r + 2) (λ e. omega arith) ∙ put_away b (r + 3) 0 (r + 2) (λ e. omega arith)
          ∙ put_same a (r + 2) 0)
          (put_away c (r + 4) 0 (r + 3) (λ e. omega arith) ∙ put_same b (r + 3) 0)
          (put_same c (r + 4) 0);
      others = λ y out.
          put_away c (r + 4) 0 y (beside y 4 out (omega arith, omega arith)) ∙ put_away b (r + 3) 0 y (beside y 3 out (omega arith, omega arith))
          ∙ put_away a (r + 2) 0 y (beside y 2 out (omega arith, omega arith))
          ∙ put_away values (r + 1) 0 y (beside y 1 out (omega arith, omega arith));
    }
  where
    beside : (y j : ℕ) → (y < r + 1) ⊎ (r + 5 ≤ y) → (1 ≤ j) × (j ≤ 4) → y ≢ r + j
    beside y j (inl below) q e = (let l = q.0 in absurd (omega arith))
    beside y j (inr above) q e = (let l = q.1 in absurd (omega arith))

-- the registers of two values are apart, or the same
abbrev pub AreApart : (into from : ℕ) → Type 0
AreApart d a = (d ≡ a) ⊎ ((d + 5 ≤ a) ⊎ (a + 5 ≤ d))

-- a value is where it was moved to, with its entry
pub record IsMovedTo (into from : ℕ) (values after : flat.Values) : Type 0 where
  pub value : after into ≡ values from
  pub entry : metadata_in after (held_from into).tag ≡ metadata_in values (held_from from).tag
  pub others : (y : ℕ) → (y < into) ⊎ (into + 5 ≤ y) → after y ≡ values y

pub moved : (d a : ℕ) (values : flat.Values) → AreApart d a
    → IsMovedTo d a values (assigned (move_value true d a) values)
moved d a values apart =
    let v1 : flat.Values = put values d (values a) in
    let v2 : flat.Values = put v1 (d + 1) (v1 (a + 1)) in
    let v3 : flat.Values = put v2 (d + 2) (v2 (a + 2)) in
    let v4 : flat.Values = put v3 (d + 3) (v3 (a + 3)) in
    let s1 : v1 (a + 1) ≡ values (a + 1) = put_away values d _ (a + 1) (zero_ne 1 (omega arith, omega arith)) in
    let s2 : v2 (a + 2) ≡ values (a + 2) = put_away v1 (d + 1) _ (a + 2) (ne 1 2 (omega arith, omega arith))
    ∙ put_away values d _ (a + 2) (zero_ne 2 (omega arith, omega arith)) in
    let s3 : v3 (a + 3) ≡ values (a + 3) = put_away v2 (d + 2) _ (a + 3) (ne 2 3 (omega arith, omega arith))
    ∙ put_away v1 (d + 1) _ (a + 3) (ne 1 3 (omega arith, omega arith)) ∙ put_away values d _ (a + 3) (zero_ne 3 (omega arith, omega arith)) in
    let s4 : v4 (a + 4) ≡ values (a + 4) = put_away v3 (d + 3) _ (a + 4) (ne 3 4 (omega arith, omega arith))
    ∙ put_away v2 (d + 2) _ (a + 4) (ne 2 4 (omega arith, omega arith)) ∙ put_away v1 (d + 1) _ (a + 4) (ne 1 4 (omega arith, omega arith))
    ∙ put_away values d _ (a + 4) (zero_ne 4 (omega arith, omega arith)) in
    record {
      value = put_away v4 (d + 4) _ d (λ e. omega arith) ∙ put_away v3 (d + 3) _ d (λ e. omega arith)
          ∙ put_away v2 (d + 2) _ d (λ e. omega arith) ∙ put_away v1 (d + 1) _ d (λ e. omega arith)
          ∙ put_same values d (values a);
      entry = same_metadata (metadata_in (put v4 (d + 4) (v4 (a + 4))) (held_from d).tag)
          (metadata_in values (held_from a).tag)
          (put_away v4 (d + 4) _ (d + 1) (λ e. omega arith) ∙ put_away v3 (d + 3) _ (d + 1) (λ e. omega arith)
          ∙ put_away v2 (d + 2) _ (d + 1) (λ e. omega arith) ∙ put_same v1 (d + 1) (v1 (a + 1)) ∙ s1)
          (put_away v4 (d + 4) _ (d + 2) (λ e. omega arith) ∙ put_away v3 (d + 3) _ (d + 2) (λ e. omega arith)
          ∙ put_same v2 (d + 2) (v2 (a + 2)) ∙ s2)
          (put_away v4 (d + 4) _ (d + 3) (λ e. omega arith) ∙ put_same v3 (d + 3) (v3 (a + 3)) ∙ s3)
          (put_same v4 (d + 4) (v4 (a + 4)) ∙ s4);
      others = λ y out.
          put_away v4 (d + 4) _ y (beside y 4 out (omega arith)) ∙ put_away v3 (d + 3) _ y (beside y 3 out (omega arith))
          ∙ put_away v2 (d + 2) _ y (beside y 2 out (omega arith)) ∙ put_away v1 (d + 1) _ y (beside y 1 out (omega arith))
          ∙ put_away values d _ y (first y out);
    }
  where
    ne : (i j : ℕ) → (i < j) × (j < 5) → a + j ≢ d + i
    ne i j q e =
        (let less = q.0 in let low = q.1 in
        ⊎_elim (λ same. absurd (omega arith))
        (λ other. ⊎_elim (λ below. absurd (omega arith)) (λ above. absurd (omega arith)) other) apart)

    zero_ne : (j : ℕ) → (0 < j) × (j < 5) → a + j ≢ d
    zero_ne j q e =
        (let less = q.0 in let low = q.1 in
        ⊎_elim (λ same. absurd (omega arith))
        (λ other. ⊎_elim (λ below. absurd (omega arith)) (λ above. absurd (omega arith)) other) apart)

    beside : (y j : ℕ) → (y < d) ⊎ (d + 5 ≤ y) → j < 5 → y ≢ d + j
    beside y j (inl below) q e = absurd (omega arith)
    beside y j (inr above) q e = absurd (omega arith)

    first : (y : ℕ) → (y < d) ⊎ (d + 5 ≤ y) → y ≢ d
    first y (inl below) e = absurd (omega arith)
    first y (inr above) e = absurd (omega arith)
