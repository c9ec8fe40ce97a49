-- Expansions are encodable and startable.
use Rattle.std.proofs.Common.{◌≡◌, ◌⊎◌, inl, inr, ⊎_elim, ℕ, zero, suc, ◌+◌, ◌-◌, ◌^◌, ◌<◌, ◌≤◌, true, false}
use Rattle.std.proofs.Common.{◌==◌, List, [], ◌∷◌, ◌++◌, length, Option, Some, None, refl, sym, ap, subst, arith}
use Rattle.std.specs.Prelude.{if◌then◌else◌, slice_get}
use Rattle.std.proofs.lemmas.Option.{same_Some, none-some}
use Rattle.addr_map.specs.Places.{MapSizes, AreMapped, region_size}
use Rattle.c_tree.specs.declared.expression.Kind.{Kind}
use Rattle.c_tree.specs.Programs.{Function, Program}
use Rattle.c_tree.specs.ValidProgram.{is_valid_program}
use Rattle.c_tree.specs.ValidProgram.{signature_at}
use Rattle.c_tree.specs.Room.{room}
use Rattle.source_meaning.specs.State.{Header}
use Rattle.source_meaning.specs.Calls.{header_of, function_at}
use Rattle.tac_ir.specs.declared.instruction.Instruction.{Instruction}
use Rattle.tac_ir.specs.declared.function.CodeFunction.{CodeFunction}
use Rattle.tac_ir.specs.declared.function.Tac.{Tac}
use Rattle.tac_ir.specs.Edges.{successors}
use Rattle.tac_ir.specs.Meaning.{header_of_code, function_in, line_in}
use Rattle.check_insert.specs.SameButChecks.{SameButChecks}
use Rattle.flat_code.specs.declared.instruction.FlatInstruction.{FlatInstruction}
use Rattle.flat_code.specs.declared.instruction.FlatInstruction.TheVariants as flat
use Rattle.flat_code.specs.declared.function.FlatFunction.{FlatFunction}
use Rattle.flat_code.specs.declared.function.FlatProgram.{FlatProgram}
use Rattle.flat_code.specs.Calls.{function_in as flat_function, room_if}
use Rattle.flat_code.specs.Meaning.{body_of as body_in, instruction_at}
use Rattle.machine_laws.specs.Following.Code.{IsEncodable}
use Rattle.machine_laws.specs.Following.Start.{IsStartable}
use Rattle.metadata_plan.specs.Registers.{words_in}
use Rattle.metadata_plan.specs.Blocks.{block, prologue, entry_code, room_in}
use Rattle.metadata_plan.specs.Laid.{jump, jumps, place_of, laid_from, begin_code, body_of, function_of, functions_of}
use Rattle.metadata_plan.specs.Laid.{entry_of, program_of}
use Rattle.metadata_plan.proofs.Numbers.{words_most}
use Rattle.metadata_plan.specs.OperatorLists.Operators.{operators}
use Rattle.metadata_expansion.specs.Homes.{homes}
use Rattle.metadata_expansion.specs.Numbers.{greatest_word, greatest_line, AreAllSmall}
use Rattle.compiled_programs.specs.Programs.{is_integer_program}
use Rattle.image_laws.proofs.Lowering.Programs.{valid_function, function_is}
use Rattle.image_laws.specs.Images.Images.{HaveFewParameters, IsChecked}
use Rattle.image_laws.proofs.Images.Checks.{same_as_lowered}
use Rattle.image_laws.proofs.Images.Instructions.{IsFit, AreFit, fit_append, fit_at, fit_if, stack_fit, short}
use Rattle.image_laws.proofs.Images.Blocks.{block_fit, zero_variables_fit, jump_fit, jumps_fit}

-- ---- what validity says of functions

some_room : (p : Program) (n : ℕ) (k : Kind) (f : Function) → 8 ≤ room p.statics n k f
unfolding room
some_room p n k f = omega arith

module _ (p : Program) (r : Tac) (valid : is_valid_program p ≡ true) (ints : is_integer_program p ≡ true)
    (few : HaveFewParameters p) (checked : IsChecked p r) (u : ℕ) (c : CodeFunction)
    (at : slice_get r.functions u ≡ Some c) where
  same : SameButChecks checked.lowered r
  same = same_as_lowered p r checked

  abbrev source : (f : Function) × (function_at p.functions u ≡ Some f) × (header_of_code c ≡ header_of f)
  source = function_is p checked.lowered r valid ints checked.is_lowered same u c at

  abbrev f : Function
  f = source.0

  pub has_room : 8 ≤ c.room
  has_room =
      let is =
      (valid_function p checked.lowered r valid ints checked.is_lowered same u f source.1).room_is in
      let rooms = ap (λ (h : Header). h.room) source.2 in
      let some = some_room p u (signature_at p f.type_number).result f in
      omega (arith, rooms, is, some)

  pub has_few : words_in c.parameters ≤ 1024
  has_few =
      let parameters = ap (λ (h : Header). length h.parameters) source.2 in
      let count = few.each u f source.1 in
      let words = words_most c.parameters in
      omega (arith, parameters, count, words)

-- ---- blocks that are laid, of which each is fit

module _ (put : Instruction → List FlatInstruction) (begin : List FlatInstruction) (c : CodeFunction) where
  pub laid_fit : (n : ℕ) (is : List Instruction)
      → ((k : ℕ) (i : Instruction) → slice_get is k ≡ Some i → AreFit (put i)) → AreFit (laid_from put begin c n is)
  laid_fit n [] each = tt
  laid_fit n (i ∷ is) each =
      let b = put i in
      let place = place_of put begin c in
      let js = jumps c place n (place n + length b) (successors i) in
      fit_append (laid_from put begin c (suc n) is) (b ++ js) (laid_fit (suc n) is (λ k. each (suc k)))
      (fit_append b js (each 0 i refl) (jumps_fit c place n (place n + length b) (successors i)))

  pub begin_fit : AreFit begin → AreFit (begin_code put begin c)
  begin_fit fit =
      let to = jump (length begin) (place_of put begin c c.entry) ∷ [] in
      fit_append begin (if c.entry + 1 == length c.code then [] else to) fit
      (fit_if (c.entry + 1 == length c.code) [] to tt (jump_fit (length begin) (place_of put begin c c.entry)))

  pub laid_body_fit : AreFit begin → ((k : ℕ) (i : Instruction) → slice_get c.code k ≡ Some i → AreFit (put i))
      → AreFit (body_of put begin c)
  laid_body_fit fit each =
      fit_append (begin_code put begin c) (laid_from put begin c 0 c.code) (begin_fit fit) (laid_fit 0 c.code each)

-- ---- the functions of an expansion

module _ (m : MapSizes) (t : Tac) where
  abbrev code : FlatProgram
  code = program_of operators m t homes

  -- one of the program, or that with which a run begins
  which : (cs : List CodeFunction) (last : FlatFunction) (u : ℕ) (g : FlatFunction)
      → slice_get (functions_of operators m t homes cs ++ (last ∷ [])) u ≡ Some g
      → ((c : CodeFunction) × (slice_get cs u ≡ Some c) × (function_of operators m t c (homes c) ≡ g)) ⊎ (last ≡ g)
  which [] last zero g e = inr (same_Some last g e)
  which [] last (suc u) g e = absurd (none-some g e)
  which (c ∷ cs) last zero g e = inl (c, refl, same_Some (function_of operators m t c (homes c)) g e)
  which (c ∷ cs) last (suc u) g e = which cs last u g e

  pub last_at : (cs : List CodeFunction) (last : FlatFunction)
      → slice_get (functions_of operators m t homes cs ++ (last ∷ [])) (length cs) ≡ Some last
  last_at [] last = refl
  last_at (c ∷ cs) last = last_at cs last

  -- ---- its instructions

  module _ (few : m.budgets.calls ≤ 16777216) (small : AreAllSmall m t) where
    blocks_fit : (c : CodeFunction) (is : List Instruction) → greatest_word is < 2 ^ 64 → greatest_line is < 2 ^ 32
        → (k : ℕ) (i : Instruction) → slice_get is k ≡ Some i → AreFit (block operators m t c i)
    blocks_fit c [] below lines k i e = absurd (none-some i e)
    blocks_fit c (x ∷ is) below lines zero i e =
        subst (λ z. AreFit (block operators m t c z)) (same_Some x i e)
        (block_fit m t c x few (omega arith) (omega arith))
    blocks_fit c (x ∷ is) below lines (suc k) i e = blocks_fit c is (omega arith) (omega arith) k i e

    main_line : (o : Option CodeFunction) → function_in t t.main ≡ o → line_in o < 2 ^ 32
    main_line None e = omega arith
    main_line (Some c) e = (small.functions t.main c e).line

    entry_fit : AreFit (entry_code m t)
    entry_fit = (
      tt,
      (
        tt,
        (
          tt,
          (
            tt,
            (
              short (m.budgets.calls + 1 - room_in (function_in t t.main)) (omega arith),
              (stack_fit (line_in (function_in t t.main)) (main_line (function_in t t.main) refl), (tt, (tt, tt))),
            ),
          ),
        ),
      ),
    )

    function_fit : (u : ℕ) (g : FlatFunction) → flat_function code u ≡ Some g → AreFit g.body
    function_fit u g e =
        ⊎_elim
        (λ h. subst (λ (z : FlatFunction). AreFit z.body) h.2
        (let c = h.0 in
        let fine = small.functions u c h.1 in
        laid_body_fit (block operators m t c) (prologue c) c (zero_variables_fit (words_in c.parameters) c.variables)
        (blocks_fit c c.code fine.words fine.lines)))
        (λ h. subst (λ (z : FlatFunction). AreFit z.body) h entry_fit)
        (which t.functions (entry_of m t) u g e)

    body_fit : (o : Option FlatFunction) → ((g : FlatFunction) → o ≡ Some g → AreFit g.body) → AreFit (body_in o)
    body_fit None h = tt
    body_fit (Some g) h = h g refl

    -- each instruction is one of the machine
    pub instruction_fit : (u pc : ℕ) (i : FlatInstruction) → instruction_at code u pc ≡ Some i → IsFit i
    instruction_fit u pc i e =
        fit_at (body_in (flat_function code u)) pc i (body_fit (flat_function code u) (function_fit u)) e

  pub startable : IsStartable m code
  unfolding region_size
  startable = record {
    function = entry_of m t;
    there = last_at t.functions (entry_of m t);
    takes_nothing = refl;
    turns = λ k below. subst (λ o. slice_get (body_in o) k ≡ Some flat.Turn) (sym (last_at t.functions (entry_of m t)))
        (three k below);
    program_fits = subst (λ o. room_if false o ≤ m.budgets.calls) (sym (last_at t.functions (entry_of m t)))
        (omega arith);
    runtime_fits = subst (λ o. room_if true o ≤ 65536) (sym (last_at t.functions (entry_of m t))) (omega arith);
  }
    where
      three : (k : ℕ) → k < 3 → slice_get (entry_code m t) k ≡ Some flat.Turn
      three zero below = refl
      three (suc zero) below = refl
      three (suc (suc zero)) below = refl
      three (suc (suc (suc k))) below = absurd (omega arith)

-- ---- expansions are encodable

module _ (p : Program) (m : MapSizes) (t : Tac) (mapped : AreMapped m) (valid : is_valid_program p ≡ true)
    (ints : is_integer_program p ≡ true) (few : HaveFewParameters p) (checked : IsChecked p t)
    (small : AreAllSmall m t) where
  fit : (u pc : ℕ) (i : FlatInstruction) → instruction_at (program_of operators m t homes) u pc ≡ Some i → IsFit i
  fit = instruction_fit m t mapped.budgets.calls.greatest small

  -- what holds of the function with which a run begins, and of each that checked code has
  of_each : (P : FlatFunction → Type 0) → P (entry_of m t)
      → ((u : ℕ) (c : CodeFunction) → slice_get t.functions u ≡ Some c → P (function_of operators m t c (homes c)))
      → (u : ℕ) (g : FlatFunction) → flat_function (program_of operators m t homes) u ≡ Some g → P g
  of_each P begins each u g e =
      ⊎_elim (λ h. subst P h.2 (each u h.0 h.1)) (λ h. subst P h begins) (which m t t.functions (entry_of m t) u g e)

  pub encodable : IsEncodable (program_of operators m t homes)
  encodable = record {
    load_offset = λ u pc op x y offset e. absurd (fit u pc (flat.Load op x y offset) e);
    store_offset = λ u pc op y offset x e. absurd (fit u pc (flat.Store op y offset x) e);
    constant = λ u pc x n e. fit u pc (flat.Constant x n) e;
    operate = λ u pc op x y z e. fit u pc (flat.Operate op x y z) e;
    operate32 = λ u pc op x y z e. fit u pc (flat.Operate32 op x y z) e;
    branch = λ u pc op y z past e. fit u pc (flat.Branch op y z past) e;
    line = λ u pc ending e. (fit u pc (flat.End ending) e).0;
    status = λ u pc ending e. (fit u pc (flat.End ending) e).1;
    rooms = of_each (λ (g : FlatFunction). 8 ≤ g.room) (omega arith) (has_room p t valid ints few checked);
    parameters = of_each (λ (g : FlatFunction). g.parameters ≤ 1024) (omega arith) (has_few p t valid ints few checked);
    results = of_each (λ (g : FlatFunction). g.results ≤ 1024) (omega arith) (λ u c at. omega arith);
  }
