-- What is generated is placed as the back end asks.
use Rattle.std.proofs.Common.{◌≡◌, ℕ, suc, ◌+◌, ◌*◌, ◌<◌, ◌≤◌, Bool, true, false, not, List}
use Rattle.std.proofs.Common.{[], ◌∷◌, ◌++◌, length, map, Option, Some, refl, sym, ap, ◌∙◌, subst, arith, ⊎_elim}
use Rattle.std.proofs.Common.{length-append}
use Rattle.std.proofs.lemmas.Bool.{cases_lt}
use Rattle.std.proofs.lemmas.List.{length-map}
use Rattle.addr_map.specs.Places.{MapSizes, functions_begin, code_begin, code_size}
use Rattle.rv_isa.specs.declared.instruction.Instr.{Instr}
use Rattle.rv_isa.specs.Table.{word_of}
use Rattle.rv_asm.specs.declared.item.Item.{Item}
use Rattle.rv_asm.specs.Forms.{IsAssemblable}
use Rattle.rv_asm.specs.Words.{Assembled, words_of}
use Rattle.rv_sim.specs.Memory.{fetch}
use Rattle.machine_laws.specs.View.Segments.{segments}
use Rattle.machine_laws.specs.View.Views.{Layout, AllStand}
use Rattle.flat_code.specs.declared.function.FlatFunction.{FlatFunction}
use Rattle.flat_code.specs.declared.function.FlatProgram.{FlatProgram}
use Rattle.flat_code.specs.Calls.{function_in}
use Rattle.flat_code.specs.Meaning.{is_runtime_function}
use Rattle.reg_plan.specs.declared.plan.FunctionPlan.{FunctionPlan}
use Rattle.machine_laws.specs.Calls.Calls.{row}
use Rattle.machine_laws.specs.Following.Start.{layout_of, start_block}
use Rattle.machine_laws.proofs.Following.Sound.{get_below}
use Rattle.machine_laws.specs.Layout.Lists.{bytes_of, items_of, HasWordsAt, ArePlaced}
use Rattle.machine_laws.proofs.CodeLayout.Bytes.{bytes_length, stand_in_code, stand_in_table}
use Rattle.machine_laws.proofs.CodeLayout.Table.{AllOfTable, tails_fit}
use Rattle.machine_laws.specs.Segments.Segments.{is_of, function_words, words_below, begin_if, begin}
use Rattle.machine_laws.specs.Blocks.Tails.{tails}
use Rattle.machine_laws.specs.Calls.Table.{source_count, start_address, tails_address, row_address}
use Rattle.machine_laws.proofs.Calls.Table.{first_row, last_row}
use Rattle.machine_laws.specs.Segments.Segments.{code_words, table_words, FitsSegments}
use Rattle.machine_laws.proofs.Segments.Parts.{StandsIn, stands_in_bytes}
use Rattle.machine_laws.proofs.Segments.Small.{words_small}
use Rattle.machine_laws.proofs.Segments.Assembled.{function_small}
use Rattle.machine_laws.proofs.Segments.Missing.{missing_assemblable}
use Rattle.machine_laws.proofs.Segments.Standing.{row_before, row_behind, start_stands, tails_stand}
use Rattle.machine_laws.proofs.Segments.Standing.{runtime_stands, compiled_stands}

-- words of instructions that stand in memory are instructions that stand there
next_words : (l : Layout) (a w : ℕ) (ws : List ℕ) → HasWordsAt l a (w ∷ ws) → HasWordsAt l (a + 4) ws
next_words l a w ws h = record {
  fetched = λ k v e objects spaces apart.
      let place : a + 4 + 4 * k ≡ a + 4 * suc k = omega arith in
      ap (fetch (segments l.table l.code objects spaces)) place ∙ h.fetched (suc k) v e objects spaces apart;
  whole = (let four = h.whole in omega arith);
  end = (let e = h.end in omega arith);
}

pub words_stand : (l : Layout) (a : ℕ) (is : List Instr) → HasWordsAt l a (map word_of is) → AllOfTable is
    → AllStand l a is
words_stand l a [] h t = tt
words_stand l a (i ∷ is) h t =
    let first : a ≡ a + 4 * 0 = omega arith in
    let end = h.end in (
      record {
        of_table = t.0;
        small = omega arith;
        fetched = λ objects spaces apart.
            ap (fetch (segments l.table l.code objects spaces)) first
            ∙ h.fetched 0 (word_of i) refl objects spaces apart;
      },
      words_stand l (a + 4) is (next_words l a (word_of i) (map word_of is) h) t.1,
    )

row_fits : (a : ℕ) → AllOfTable (row a)
row_fits a = (
  (omega arith, omega arith),
  ((omega arith, omega arith, omega arith), (tt, (tt, tt))),
)

start_fits : (m : MapSizes) (p : FlatProgram) → AllOfTable (start_block m p)
start_fits m p = (
  (omega arith, omega arith),
  (
    (omega arith, omega arith, omega arith),
    (
      (omega arith, omega arith),
      (
        (omega arith, omega arith, omega arith),
        (
          (omega arith, omega arith),
          (
            (omega arith, omega arith, omega arith),
            (
              (omega arith, omega arith),
              (
                (omega arith, omega arith, omega arith),
                ((omega arith, omega arith, omega arith), tt),
              ),
            ),
          ),
        ),
      ),
    ),
  ),
)

of_kind : (g : Option FlatFunction) (f : FlatFunction) (r : Bool) → g ≡ Some f → f.is_runtime ≡ r → is_of r g ≡ true
of_kind g f true e k = ap (is_of true) e ∙ k
of_kind g f false e k = ap (is_of false) e ∙ ap not k

module _ (meet : (items : List Item) → IsAssemblable items → Assembled items (words_of items)) (m : MapSizes)
    (p : FlatProgram) (plans : List FunctionPlan) (fits : FitsSegments m p plans) where
  abbrev l : Layout
  l = layout_of m (bytes_of (table_words m p plans)) (bytes_of (code_words m p plans))

  able : (f : ℕ) → IsAssemblable (items_of m p plans f)
  able f = ⊎_elim (λ lt. fits.assemblable f lt) (λ le. missing_assemblable m p plans f le)
      (cases_lt f (length p.functions))

  pub asm : (f : ℕ) → Assembled (items_of m p plans f) (function_words m p plans f)
  asm f = meet (items_of m p plans f) (able f)

  abbrev pub place : (function item : ℕ) → ℕ
  place f k = (asm f).place k

  code_fits : length l.code ≤ code_size
  code_fits = let e = bytes_length (code_words m p plans) in let fit = fits.code in omega arith

  table_fits : functions_begin + length l.table ≤ code_begin
  table_fits = let e = bytes_length (table_words m p plans) in let fit = fits.table in omega arith

  begins_at : (f : ℕ) (g : FlatFunction) (r : Bool) → function_in p f ≡ Some g → g.is_runtime ≡ r
      → begin m p plans f ≡ begin_if m p plans r f
  unfolding begin
  begins_at f g r there kind = ap (λ b. begin_if m p plans b f) (ap is_runtime_function there ∙ kind)

  placed_if : (f : ℕ) (g : FlatFunction) (r : Bool) → function_in p f ≡ Some g → g.is_runtime ≡ r
      → HasWordsAt l (begin m p plans f) (function_words m p plans f)
  placed_if f g true there kind =
      let lt = get_below p.functions f g there in
      let at = 4 * length p.functions + (9 + length tails) + length (words_below m p plans true f) in
      let from : functions_begin + 4 * at ≡ begin_if m p plans true f = omega arith in
      let here : functions_begin + 4 * at ≡ begin m p plans f = from ∙ sym (begins_at f g true there kind) in
      subst (λ a. HasWordsAt l a (function_words m p plans f)) here
      (stand_in_table l (4 * at) (function_words m p plans f)
      (stands_in_bytes (table_words m p plans) (function_words m p plans f) at
      (runtime_stands m p plans f lt (of_kind (function_in p f) g true there kind)))
      (function_small m p plans f) (omega arith) table_fits)
  placed_if f g false there kind =
      let lt = get_below p.functions f g there in
      let at = length (words_below m p plans false f) in
      let here : code_begin + 4 * at ≡ begin m p plans f = sym (begins_at f g false there kind) in
      subst (λ a. HasWordsAt l a (function_words m p plans f)) here
      (stand_in_code l (4 * at) (function_words m p plans f)
      (stands_in_bytes (code_words m p plans) (function_words m p plans f) at
      (compiled_stands m p plans f lt (of_kind (function_in p f) g false there kind)))
      (function_small m p plans f) (omega arith) code_fits)

  -- a list of instructions that stands among the words of the jump table's segment
  in_table : (at : ℕ) (is : List Instr) → StandsIn (table_words m p plans) at (map word_of is) → AllOfTable is
      → AllStand l (functions_begin + 4 * at) is
  in_table at is stands t = words_stand l (functions_begin + 4 * at) is
      (stand_in_table l (4 * at) (map word_of is) (stands_in_bytes (table_words m p plans) (map word_of is) at stands)
      (words_small is t) (omega arith) table_fits) t

  -- the end of what stands among them
  within : (at : ℕ) (part : List ℕ) → StandsIn (table_words m p plans) at part
      → functions_begin + 4 * (at + length part) ≤ code_begin
  within at part h =
      let whole = ap length h.is in
      let a = length-append h.before (part ++ h.behind) in
      let b = length-append part h.behind in
      let at_is = h.at_is in
      let fit = fits.table in
      omega arith

  pub start_is_there : AllStand l (start_address p) (start_block m p)
  start_is_there =
      let here : functions_begin + 4 * (4 * source_count p) ≡ start_address p = omega arith in
      subst (λ a. AllStand l a (start_block m p)) here
      (in_table (4 * source_count p) (start_block m p) (start_stands m p plans) (start_fits m p))

  tails_are_there : AllStand l (tails_address p) tails
  tails_are_there =
      let here : functions_begin + 4 * (4 * source_count p + 9) ≡ tails_address p = omega arith in
      subst (λ a. AllStand l a tails) here
      (in_table (4 * source_count p + 9) tails (tails_stand m p plans) tails_fit)

  tails_within : tails_address p + 4 * length tails ≤ code_begin
  tails_within =
      let w = within (4 * source_count p + 9) (map word_of tails) (tails_stand m p plans) in
      let long = length-map tails word_of in
      omega arith

  -- an entry, on either side of the start, and its end
  record HasRow (f : ℕ) : Type 0 where
    is : AllStand l (row_address p f) (row (begin m p plans f))
    low : row_address p f < code_begin

  row_at : (f : ℕ) → f < length p.functions → HasRow f
  row_at f lt = ⊎_elim
      (λ first.
      let here : functions_begin + 4 * (4 * f) ≡ row_address p f = let e = first_row p f first in omega arith in
      let w = within (4 * f) (map word_of (row (begin m p plans f))) (row_before m p plans f first) in
      record {
        is = subst (λ a. AllStand l a (row (begin m p plans f))) here
            (in_table (4 * f) (row (begin m p plans f)) (row_before m p plans f first) (row_fits (begin m p plans f)));
        low = omega arith;
      })
      (λ last.
      let at = 4 * f + (9 + length tails) in
      let here : functions_begin + 4 * at ≡ row_address p f = let e = last_row p f last in omega arith in
      let w = within at (map word_of (row (begin m p plans f))) (row_behind m p plans f last lt) in
      record {
        is = subst (λ a. AllStand l a (row (begin m p plans f))) here
            (in_table at (row (begin m p plans f)) (row_behind m p plans f last lt) (row_fits (begin m p plans f)));
        low = omega arith;
      })
      (cases_lt f (source_count p))

  pub placed : ArePlaced m p plans l (begin m p plans) (function_words m p plans) place
  placed = record {
    assembled = λ f g there. asm f;
    places = λ f g there k. refl;
    placed = λ f g there. placed_if f g g.is_runtime there refl;
    rows = λ f g there. (row_at f (get_below p.functions f g there)).is;
    tails_stand = tails_are_there;
    tails_end = tails_within;
    numbered = λ f g there. (row_at f (get_below p.functions f g there)).low;
    of_code = λ f g there kind. let at = begins_at f g false there kind in omega arith;
    of_runtime = λ f g there kind.
        let at = begins_at f g true there kind in
        let w = within (4 * length p.functions + (9 + length tails) + length (words_below m p plans true f))
        (function_words m p plans f)
        (runtime_stands m p plans f (get_below p.functions f g there) (of_kind (function_in p f) g true there kind)) in
        omega arith;
  }
