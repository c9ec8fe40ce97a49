-- Where the functions, the entries of the jump table and the start stand among the words that are generated.
use Rattle.std.proofs.Common.{◌≡◌, ℕ, zero, suc, ◌+◌, ◌-◌, ◌*◌, ◌<◌, ◌≤◌, Bool, true, false, List, [], ◌++◌}
use Rattle.std.proofs.Common.{length, map, sym, ap, ◌∙◌, subst, arith, ⊎_elim, length-append}
use Rattle.std.specs.Prelude.{take, drop, if◌then◌else◌}
use Rattle.std.proofs.lemmas.Bool.{cases_lt}
use Rattle.std.proofs.lemmas.List.{length-map, length-take-le, take-append-drop}
use Rattle.addr_map.specs.Places.{MapSizes}
use Rattle.rv_isa.specs.Table.{word_of}
use Rattle.flat_code.specs.declared.function.FlatProgram.{FlatProgram}
use Rattle.flat_code.specs.Calls.{function_in}
use Rattle.reg_plan.specs.declared.plan.FunctionPlan.{FunctionPlan}
use Rattle.machine_laws.specs.Calls.Calls.{row}
use Rattle.machine_laws.specs.Following.Start.{start_block}
use Rattle.machine_laws.specs.Segments.Segments.{is_of, function_words, words_if, words_below, begin, rows_below}
use Rattle.machine_laws.specs.Segments.Segments.{code_words}
use Rattle.machine_laws.specs.Segments.Segments.{start_with_tails, table_instrs, table_words}
use Rattle.machine_laws.specs.Blocks.Tails.{tails}
use Rattle.machine_laws.specs.Calls.Table.{source_count}
use Rattle.machine_laws.proofs.Calls.Table.{source_within}
use Rattle.rv_isa.specs.declared.instruction.Instr.{Instr}
use Rattle.machine_laws.proofs.Segments.Parts.{StandsIn, stands_last, stands_first, stands_left, stands_right}
use Rattle.machine_laws.proofs.Segments.Parts.{stands_mapped, stands_taken, stands_dropped}

module _ (m : MapSizes) (p : FlatProgram) (plans : List FunctionPlan) where
  -- the words of a function among those of all below a number
  pub function_stands : (r : Bool) (k n : ℕ) → k < n → is_of r (function_in p k) ≡ true
      → StandsIn (words_below m p plans r n) (length (words_below m p plans r k)) (function_words m p plans k)
  unfolding words_below
  function_stands r k zero lt of = absurd (omega arith)
  function_stands r k (suc n) lt of = ⊎_elim
      (λ less. stands_left (words_below m p plans r n) (words_if m p plans r n) (function_words m p plans k)
      (length (words_below m p plans r k)) (function_stands r k n less of))
      (λ least.
      let same : n ≡ k = omega (arith, lt, least) in
      let this : words_if m p plans r k ≡ function_words m p plans k =
      ap (λ b. if b then function_words m p plans k else []) of in
      subst (λ i. StandsIn (words_below m p plans r i ++ words_if m p plans r i)
      (length (words_below m p plans r k)) (function_words m p plans k)) (sym same)
      (subst (λ ws. StandsIn (words_below m p plans r k ++ ws) (length (words_below m p plans r k))
      (function_words m p plans k)) (sym this)
      (stands_last (words_below m p plans r k) (function_words m p plans k))))
      (cases_lt k n)

  -- the entry of a function in the jump table, which has four instructions
  pub rows_length : (n : ℕ) → length (rows_below m p plans n) ≡ 4 * n
  unfolding rows_below
  rows_length zero = omega arith
  rows_length (suc n) = let r = rows_length n in
      length-append (rows_below m p plans n) (row (begin m p plans n)) ∙ omega arith

  row_in : (k n : ℕ) → k < n → StandsIn (rows_below m p plans n) (4 * k) (row (begin m p plans k))
  unfolding rows_below
  row_in k zero lt = absurd (omega arith)
  row_in k (suc n) lt = ⊎_elim
      (λ less. stands_left (rows_below m p plans n) (row (begin m p plans n)) (row (begin m p plans k)) (4 * k)
      (row_in k n less))
      (λ least.
      let same : n ≡ k = omega (arith, lt, least) in
      subst (λ i. StandsIn (rows_below m p plans i ++ row (begin m p plans i)) (4 * k) (row (begin m p plans k)))
      (sym same)
      (subst (λ a. StandsIn (rows_below m p plans k ++ row (begin m p plans k)) a (row (begin m p plans k)))
      (rows_length k) (stands_last (rows_below m p plans k) (row (begin m p plans k)))))
      (cases_lt k n)

  abbrev rows : List Instr
  rows = rows_below m p plans (length p.functions)

  abbrev cut : ℕ
  cut = 4 * source_count p

  abbrev runtime : List ℕ
  runtime = words_below m p plans true (length p.functions)

  cut_length : length (take cut rows) ≡ cut
  cut_length =
      let len = rows_length (length p.functions) in
      let within = source_within p in
      length-take-le cut rows (omega arith)

  -- what stands among the instructions before the functions of the runtime
  of_instrs : (part : List Instr) (at : ℕ) → StandsIn (table_instrs m p rows) at part
      → StandsIn (table_words m p plans) at (map word_of part)
  of_instrs part at h = stands_left (map word_of (table_instrs m p rows)) runtime (map word_of part) at
      (stands_mapped word_of (table_instrs m p rows) part at h)

  -- behind the entries that stand before the start
  of_rest : (part : List Instr) (at : ℕ) → StandsIn (start_with_tails m p ++ drop cut rows) at part
      → StandsIn (table_words m p plans) (cut + at) (map word_of part)
  of_rest part at h = of_instrs part (cut + at)
      (subst (λ n. StandsIn (table_instrs m p rows) (n + at) part) cut_length
      (stands_right (take cut rows) (start_with_tails m p ++ drop cut rows) part at h))

  pub row_before : (k : ℕ) → k < source_count p
      → StandsIn (table_words m p plans) (4 * k) (map word_of (row (begin m p plans k)))
  row_before k lt =
      let within = source_within p in
      let part = row (begin m p plans k) in
      of_instrs part (4 * k) (stands_left (take cut rows) (start_with_tails m p ++ drop cut rows) part (4 * k)
      (stands_taken rows part (4 * k) cut (row_in k (length p.functions) (omega arith)) (omega arith)))

  pub row_behind : (k : ℕ) → source_count p ≤ k → k < length p.functions
      → StandsIn (table_words m p plans) (4 * k + (9 + length tails)) (map word_of (row (begin m p plans k)))
  row_behind k le lt =
      let part = row (begin m p plans k) in
      let long = length-append (start_block m p) tails in
      let at : cut + (length (start_with_tails m p) + (4 * k - cut)) ≡ 4 * k + (9 + length tails) = omega arith in
      subst (λ n. StandsIn (table_words m p plans) n (map word_of part)) at
      (of_rest part (length (start_with_tails m p) + (4 * k - cut))
      (stands_right (start_with_tails m p) (drop cut rows) part (4 * k - cut)
      (stands_dropped rows part (4 * k) cut (row_in k (length p.functions) lt) (omega arith))))

  -- the start, which has nine, behind the first entries
  pub start_stands : StandsIn (table_words m p plans) cut (map word_of (start_block m p))
  start_stands =
      let at : cut + 0 ≡ cut = omega arith in
      subst (λ n. StandsIn (table_words m p plans) n (map word_of (start_block m p))) at
      (of_rest (start_block m p) 0 (stands_left (start_with_tails m p) (drop cut rows) (start_block m p) 0
      (stands_first (start_block m p) tails)))

  -- the tails
  pub tails_stand : StandsIn (table_words m p plans) (cut + 9) (map word_of tails)
  tails_stand = of_rest tails 9 (stands_left (start_with_tails m p) (drop cut rows) tails 9
      (stands_last (start_block m p) tails))

  -- a function of the runtime, behind all entries
  pub first_length : length (map word_of (table_instrs m p rows)) ≡ 4 * length p.functions + (9 + length tails)
  first_length =
      let len = rows_length (length p.functions) in
      let parts = ap length (take-append-drop cut rows) in
      let sum = length-append (take cut rows) (drop cut rows) in
      let all = length-append (take cut rows) (start_with_tails m p ++ drop cut rows) in
      let rest = length-append (start_with_tails m p) (drop cut rows) in
      let long = length-append (start_block m p) tails in
      length-map (table_instrs m p rows) word_of ∙ omega arith

  pub runtime_stands : (k : ℕ) → k < length p.functions → is_of true (function_in p k) ≡ true
      → StandsIn (table_words m p plans)
      (4 * length p.functions + (9 + length tails) + length (words_below m p plans true k))
      (function_words m p plans k)
  runtime_stands k lt of =
      let first = map word_of (table_instrs m p rows) in
      subst (λ n. StandsIn (table_words m p plans) (n + length (words_below m p plans true k))
      (function_words m p plans k)) first_length
      (stands_right first runtime (function_words m p plans k) (length (words_below m p plans true k))
      (function_stands true k (length p.functions) lt of))

  pub compiled_stands : (k : ℕ) → k < length p.functions → is_of false (function_in p k) ≡ true
      → StandsIn (code_words m p plans) (length (words_below m p plans false k)) (function_words m p plans k)
  compiled_stands k lt of = function_stands false k (length p.functions) lt of
