-- How many words the functions have, and what is too large where one of them cannot be assembled.
use Rattle.std.proofs.Common.{◌≡◌, ℕ, zero, suc, ◌+◌, ◌*◌, ◌^◌, ◌<◌, ◌≤◌, Bool, true, false, not, List, []}
use Rattle.std.proofs.Common.{length, map, Option, Some, None, IsTrue, ◌↔◌, refl, sym, ap, ◌∙◌, subst, arith}
use Rattle.std.proofs.Common.{⊎_elim, length-append}
use Rattle.std.specs.Prelude.{if◌then◌else◌}
use Rattle.std.proofs.lemmas.Bool.{cases_lt, false≢true}
use Rattle.std.proofs.lemmas.Option.{slice_get_cases}
use Rattle.addr_map.specs.Places.{MapSizes, functions_begin, code_begin, code_size}
use Rattle.rv_isa.specs.Table.{word_of}
use Rattle.rv_asm.specs.declared.item.Item.{Item}
use Rattle.rv_asm.specs.Forms.{IsAssemblable, longest_size}
use Rattle.rv_asm.specs.Words.{words_of}
use Rattle.flat_code.specs.declared.function.FlatFunction.{FlatFunction}
use Rattle.flat_code.specs.declared.function.FlatProgram.{FlatProgram}
use Rattle.flat_code.specs.Calls.{function_in}
use Rattle.reg_plan.specs.declared.plan.FunctionPlan.{FunctionPlan}
use Rattle.machine_laws.specs.Layout.Lists.{items_of}
use Rattle.machine_laws.specs.Segments.Segments.{is_of, function_words, words_if, words_below, rows_below}
use Rattle.machine_laws.specs.Segments.Segments.{table_instrs, code_bytes, table_bytes}
use Rattle.machine_laws.proofs.Calls.Table.{tails_length}
use Rattle.machine_laws.proofs.Segments.Standing.{first_length}
use Rattle.rv_codegen.specs.Generated.{HasLongFunction}

-- none is counted yet
pub first_count : (m : MapSizes) (p : FlatProgram) (plans : List FunctionPlan) (r : Bool)
    → length (words_below m p plans r 0) ≡ 0
unfolding words_below
first_count m p plans r = refl

-- a list that cannot be assembled is too long, where each that is not too long can be
pub too_long : (m : MapSizes) (p : FlatProgram) (plans : List FunctionPlan) (f : ℕ) (items : List Item) (able : Bool)
    → items ≡ items_of m p plans f
    → (longest_size (items_of m p plans f) < 2 ^ 28 → IsAssemblable (items_of m p plans f))
    → (IsTrue able ↔ IsAssemblable items) → able ≡ false → 2 ^ 28 ≤ longest_size (items_of m p plans f)
too_long m p plans f items able same law test fails = ⊎_elim
    (λ less. absurd (false≢true (sym fails ∙ test.1 (subst (λ is. IsAssemblable is) (sym same) (law less)))))
    (λ least. least)
    (cases_lt (longest_size (items_of m p plans f)) (2 ^ 28))

module _ (m : MapSizes) (p : FlatProgram) (plans : List FunctionPlan) where
  -- those of one function more
  pub next_count : (r : Bool) (k : ℕ)
      → length (words_below m p plans r (k + 1)) ≡ length (words_below m p plans r k) + length (words_if m p plans r k)
  unfolding words_below
  next_count r k =
      let e : k + 1 ≡ suc k = omega arith in
      ap (λ n. length (words_below m p plans r n)) e
      ∙ length-append (words_below m p plans r k) (words_if m p plans r k)

  -- a function has no more than all
  one_of : (r : Bool) (f n : ℕ) → f < n → length (words_if m p plans r f) ≤ length (words_below m p plans r n)
  unfolding words_below
  one_of r f zero lt = absurd (omega arith)
  one_of r f (suc n) lt =
      let sum = length-append (words_below m p plans r n) (words_if m p plans r n) in
      ⊎_elim (λ less. let rest = one_of r f n less in omega (arith, sum, rest))
      (λ least.
      let same : n ≡ f = omega (arith, lt, least) in
      subst (λ k. length (words_if m p plans r k) ≤ length (words_below m p plans r (suc n))) same
      (omega (arith, sum)))
      (cases_lt f n)

  -- the bytes before compiled code
  pub table_count : table_bytes m p plans
      ≡ 16 * length p.functions + 2540 + 4 * length (words_below m p plans true (length p.functions))
  table_count =
      let first = first_length m p plans in
      let tails = tails_length in
      let both = length-append (map word_of (table_instrs m p (rows_below m p plans (length p.functions))))
      (words_below m p plans true (length p.functions)) in
      omega (arith, first, tails, both)

  -- a long function has more words than a segment has room for
  module _ (law : (items : List Item) → longest_size items ≤ 3 * length (words_of items)) (h : HasLongFunction m p plans)
    where
      abbrev long : ℕ
      long = h.0

      among : (r : Bool) → is_of r (function_in p long) ≡ true
          → 2 ^ 28 ≤ 3 * length (words_below m p plans r (length p.functions))
      among r of =
          let words : words_if m p plans r long ≡ function_words m p plans long
          = ap (λ b. if b then function_words m p plans long else []) of in
          let count = ap length words in
          let within = one_of r long (length p.functions) h.1 in
          let third = law (items_of m p plans long) in
          let size = h.2 in
          omega (arith, count, within, third, size)

      pub is_too_large : code_bytes m p plans ≤ code_size → code_begin < functions_begin + table_bytes m p plans
      is_too_large fits = by (function_in p long) refl
        where
          of_kind : (g : FlatFunction) (b : Bool) → function_in p long ≡ Some g → g.is_runtime ≡ b
              → code_begin < functions_begin + table_bytes m p plans
          of_kind g true there kind =
              let many = among true (ap (is_of true) there ∙ kind) in
              let all = table_count in
              omega (arith, many, all)
          of_kind g false there kind =
              let many = among false (ap (is_of false) there ∙ ap not kind) in
              absurd (omega (arith, many, fits))

          by : (o : Option FlatFunction) → function_in p long ≡ o → code_begin < functions_begin + table_bytes m p plans
          by None none = ⊎_elim
              (λ there. let e : Some there.0 ≡ None = sym there.2 ∙ none in cc)
              (λ past. let le = past.0 in let lt = h.1 in absurd (omega (arith, le, lt)))
              (slice_get_cases p.functions long).1
          by (Some g) there = of_kind g g.is_runtime there refl

pub ruleset counts = (first_count, next_count)
