-- Registers that hold temporaries and plain variables, as one of them gets a value.
use Rattle.std.proofs.Common.{◌≡◌, ◌≢◌, ℕ, ◌<◌, refl, sym, ap, ◌∙◌, arith, Bool}
use Rattle.std.proofs.Common.{true, false, List, length, length-set, set, get_or}
use Rattle.std.specs.Prelude.{◌==◌, if◌then◌else◌}
use Rattle.std.proofs.lemmas.Bool.{eqb-true, eqb-false}
use Rattle.std.proofs.lemmas.List.{get_or-set_same, get_or-set_other}
use Rattle.obj_memory.specs.declared.value.Value.{Value}
use Rattle.source_meaning.specs.Actions.{integer}
use Rattle.source_meaning.specs.Structures.{rvalue}
use Rattle.tac_ir.specs.declared.function.CodeFunction.{CodeFunction}
use Rattle.tac_ir.specs.Stage.{Temps, with_temp}
use Rattle.flat_code.specs.Memory.{put}
use Rattle.flat_code.specs.State as flat
use Rattle.flat_code.proofs.Stored.{put_same, put_other}
use Rattle.metadata_plan.specs.Registers.{words_in, all_variables, most_temporaries, variable_register}
use Rattle.metadata_plan.specs.Registers.{temporary_register, first_free}
use Rattle.metadata_plan.specs.Part.{are_integers}
use Rattle.metadata_plan.specs.Matching.{Holds}
use Rattle.metadata_plan.proofs.Numbers.{integers_words, integers_register}

-- a register has a value, and all others below the first free one are as they were
pub record IsSet (free register value : ℕ) (values after : flat.Values) : Type 0 where
  pub gives : after register ≡ value
  pub others : (y : ℕ) → y < free → y ≢ register → after y ≡ values y

pub set_by_put : (free x n : ℕ) (values : flat.Values) → IsSet free x n values (put values x n)
set_by_put free x n values = record {
  gives = put_same values x n;
  others = λ y lt ne. put_other values x n y ne;
}

-- what is set behind what changed only free registers, or the same one
pub set_again : (free x n k : ℕ) (values between after : flat.Values) → IsSet free x k values between
    → IsSet free x n between after → IsSet free x n values after
set_again free x n k values between after a b = record {
  gives = b.gives;
  others = λ y lt ne. b.others y lt ne ∙ a.others y lt ne;
}

pub set_behind : (free x n : ℕ) (values between after : flat.Values)
    → ((y : ℕ) → y < free → between y ≡ values y) → IsSet free x n between after → IsSet free x n values after
set_behind free x n values between after a b = record {
  gives = b.gives;
  others = λ y lt ne. b.others y lt ne ∙ a y lt;
}

module _ (c : CodeFunction) (integers : are_integers (all_variables c) ≡ true) where
  pub variable_low : (x : ℕ) → x < length (all_variables c) → variable_register c x < words_in (all_variables c)
  variable_low x lt =
      let a = integers_register (all_variables c) x integers lt in
      let b = integers_words (all_variables c) integers in
      omega arith

  pub variable_free : (x : ℕ) → x < length (all_variables c) → variable_register c x < first_free c
  variable_free x lt = omega (arith, variable_low x lt)

  pub temporary_free : (i : ℕ) → i < most_temporaries c.code → temporary_register c i < first_free c
  temporary_free i lt = omega arith

  apart : (x i : ℕ) → x < length (all_variables c) → variable_register c x ≢ temporary_register c i
  apart x i lt e = let a = variable_low x lt in absurd (omega arith)

  -- where no register below the first free one changes
  pub holds_free : (temps : Temps) (plain : List Value) (values after : flat.Values) → Holds c temps plain values
      → ((y : ℕ) → y < first_free c → after y ≡ values y) → Holds c temps plain after
  holds_free temps plain values after h same = record {
    temporaries = λ i lt. h.temporaries i lt
        ∙ ap (λ n. rvalue (integer n)) (sym (same (temporary_register c i) (temporary_free i lt)));
    variables = λ x lt. h.variables x lt
        ∙ ap integer (sym (same (variable_register c x) (variable_free x lt)));
    count = h.count;
  }

  pub holds_temporary : (temps : Temps) (plain : List Value) (values after : flat.Values) (d w : ℕ)
      → Holds c temps plain values → IsSet (first_free c) (temporary_register c d) w values after
      → Holds c (with_temp temps d (rvalue (integer w))) plain after
  holds_temporary temps plain values after d w h e = record {
    temporaries = λ i lt. by i lt (i == d) refl;
    variables = λ x lt. h.variables x lt
        ∙ ap integer (sym (e.others (variable_register c x) (variable_free x lt) (apart x d lt)));
    count = h.count;
  }
    where
      by : (i : ℕ) → i < most_temporaries c.code → (b : Bool) → (i == d) ≡ b
          → (if b then rvalue (integer w) else temps i) ≡ rvalue (integer (after (temporary_register c i)))
      by i lt true same =
          let is : i ≡ d = eqb-true i d same in
          ap (λ n. rvalue (integer n)) (sym e.gives) ∙ ap (λ k. rvalue (integer (after (temporary_register c k))))
          (sym is)
      by i lt false other =
          let ne = eqb-false i d other in
          h.temporaries i lt
          ∙ ap (λ n. rvalue (integer n))
          (sym (e.others (temporary_register c i) (temporary_free i lt) (λ same. ne (omega arith))))

  pub holds_variable : (temps : Temps) (plain : List Value) (values after : flat.Values) (x w : ℕ)
      → x < length (all_variables c) → Holds c temps plain values
      → IsSet (first_free c) (variable_register c x) w values after
      → Holds c temps (set plain x (integer w)) after
  holds_variable temps plain values after x w lt h e = record {
    temporaries = λ i low. h.temporaries i low
        ∙ ap (λ n. rvalue (integer n))
        (sym (e.others (temporary_register c i) (temporary_free i low) (λ same. apart x i lt (sym same))));
    variables = λ y low. by y low (y == x) refl;
    count = length-set plain x (integer w) ∙ h.count;
  }
    where
      by : (y : ℕ) → y < length (all_variables c) → (b : Bool) → (y == x) ≡ b
          → get_or (set plain x (integer w)) y (integer 0) ≡ integer (after (variable_register c y))
      by y low true same =
          let is : y ≡ x = eqb-true y x same in
          let inside : x < length plain = omega (arith, h.count) in
          ap (λ k. get_or (set plain x (integer w)) k (integer 0)) is
          ∙ get_or-set_same plain x (integer w) (integer 0) inside ∙ ap integer (sym e.gives)
          ∙ ap (λ k. integer (after (variable_register c k))) (sym is)
      by y low false other =
          let ne = eqb-false y x other in
          let a = integers_register (all_variables c) x integers lt in
          let b = integers_register (all_variables c) y integers low in
          get_or-set_other plain x y (integer w) (integer 0) ne ∙ h.variables y low
          ∙ ap integer (sym (e.others (variable_register c y) (variable_free y low) (λ same. ne (omega arith))))
