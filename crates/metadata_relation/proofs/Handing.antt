-- A function is called: its arguments are packed, the caller waits, and it is entered.
use Rattle.std.proofs.Common.{◌≡◌, ℕ, zero, suc, ◌+◌, ◌*◌, ◌^◌, ◌<◌, ◌≤◌, true, List}
use Rattle.std.proofs.Common.{[], ◌∷◌, ◌++◌, length, map, Some, None, refl, sym, ap, ◌∙◌, subst, arith}
use Rattle.std.proofs.Common.{get_or}
use Rattle.std.specs.Prelude.{nat_le, nat_lt}
use Rattle.std.specs.Prelude.{◌==◌}
use Rattle.std.proofs.Common.{Option}
use Rattle.std.proofs.lemmas.Bool.{eqb-true}
use Rattle.std.proofs.lemmas.Bool.{and_parts, ltb-true, false≢true}
use Rattle.std.proofs.lemmas.List.{length-map}
use Rattle.addr_map.specs.Places.{MapSizes}
use Rattle.obj_memory.specs.declared.value.Scalar.{Scalar}
use Rattle.obj_memory.specs.declared.value.Scalar.TheVariants.{Integer, Pointer}
use Rattle.obj_memory.specs.Sound.{IsSoundTag}
use Rattle.obj_memory.specs.Objects.{ObjectState}
use Rattle.obj_memory.specs.Sound.{IsSoundObject}
use Rattle.c_tree.specs.declared.expression.Kind.{Kind}
use Rattle.c_tree.specs.declared.expression.Kind.TheVariants.{Void, Scalar as OfScalar, Structure, Array}
use Rattle.c_tree.specs.declared.program.Variable.{Variable}
use Rattle.source_meaning.specs.State.{State, Rvalue, Gives as GivesRun}
use Rattle.source_meaning.specs.Actions.{integer}
use Rattle.source_meaning.specs.Blocks.{has_objects, objects_end}
use Rattle.source_meaning.specs.Calls.{header_of, set_up, caller}
use Rattle.source_meaning.specs.Good.{IsGood as IsGoodState, file_scope, ArgumentIs, ArgumentsAre, TakenOf, IsOfKind}
use Rattle.source_meaning.specs.Good.{IsSetUp}
use Rattle.source_meaning.specs.Good.{TakenIs}
use Rattle.source_meaning.specs.Places.{stack_first, stack_end}
use Rattle.source_meaning.specs.Structures.{rvalue}
use Rattle.source_meaning.proofs.Holding.{live_made}
use Rattle.tac_ir.specs.declared.instruction.Instruction.{Instruction}
use Rattle.tac_ir.specs.declared.function.CodeFunction.{CodeFunction}
use Rattle.tac_ir.specs.declared.function.Tac.{Tac}
use Rattle.tac_ir.specs.Accesses.{is_place}
use Rattle.tac_ir.specs.Fitting.{is_word, has_no_tag, is_of_type, is_plain_word, is_passed, are_passed, taken_by}
use Rattle.tac_ir.specs.Stage.{Temps, gathered, Waiting, Frame, Waits, Stage}
use Rattle.tac_ir.specs.Costs.{spent}
use Rattle.tac_ir.specs.Fitting.{is_structure_of}
use Rattle.tac_ir.specs.Structures.{greatest_structure}
use Rattle.tac_ir.specs.Meaning.{function_in as code_in, header_of_code, begun}
use Rattle.flat_code.specs.declared.instruction.FlatInstruction.{FlatInstruction}
use Rattle.flat_code.specs.declared.instruction.FlatInstruction.TheVariants as flat_code
use Rattle.flat_code.specs.declared.function.FlatProgram.{FlatProgram}
use Rattle.flat_code.specs.Memory.{Bytes}
use Rattle.flat_code.specs.State as flat
use Rattle.flat_code.specs.Calls.{function_in, arguments}
use Rattle.flat_code.specs.Words.{HasWords}
use Rattle.flat_code.specs.Meaning.{body_of}
use Rattle.flat_code.specs.Routines.Routine.{HasAt}
use Rattle.flat_code.proofs.Routines.Steps.{has_front, has_back}
use Rattle.metadata_plan.specs.Registers.{most_temporaries}
use Rattle.metadata_plan.specs.Expanded.{Leads}
use Rattle.metadata_plan.proofs.Calling.{gathered_at}
use Rattle.metadata_plan.proofs.Calling.{argument_in}
use Rattle.metadata_plan.proofs.Flat.{Comes}
use Rattle.metadata_plan.specs.Entries.{given}
use Rattle.metadata_plan.specs.Entries.{is_moved_with_entry}
use Rattle.runtime_functions.specs.Library.{register_count}
use Rattle.tac_ir.specs.Edges.{LeadsTo}
use Rattle.flat_code.specs.Meaning.{at_instruction, step}
use Rattle.metadata_relation.specs.Blocks.{objects_of_body, result_of, result_code, pack}
use Rattle.metadata_relation.specs.Holding.{IsHeldAt, IsPlain, is_pointer_type}
use Rattle.metadata_relation.specs.Registers.{is_no_aggregate, passed_as, parameters_end}
use Rattle.metadata_relation.specs.Registers.{variable_register, temporary_register}
use Rattle.metadata_relation.specs.Registers.{moved_register, first_free}
use Rattle.metadata_relation.specs.Scopes.{context_at, AreGood}
use Rattle.metadata_relation.specs.Stages.{Compiled, factor, map_of, views, names, world, activation, level}
use Rattle.metadata_relation.specs.Stages.{IsAt}
use Rattle.metadata_relation.specs.Steps.{IsCompiled, are_handed_over, is_handed_over}
use Rattle.metadata_relation.specs.Waiting.{Awaits, IsWaitingAs}
use Rattle.metadata_relation.proofs.Assigning.{assigned}
use Rattle.metadata_relation.proofs.Arguments.{IsArgument, IsArgumentBy, IsStructureArgument, words_by_kind}
use Rattle.metadata_relation.proofs.AwaitedResults.{awaits_on}
use Rattle.metadata_relation.proofs.CallHolds.{waiting_holds}
use Rattle.metadata_relation.proofs.CallStates.{entered_good}
use Rattle.metadata_relation.proofs.Library.{assigned_behind}
use Rattle.metadata_relation.proofs.Moving.{held_of}
use Rattle.metadata_relation.proofs.Packing.{words_at}
use Rattle.metadata_relation.specs.Holding.{area_of, IsContentsAt, IsRvalueAt}
use Rattle.metadata_relation.proofs.Packing.{ways_of, words_within, ArePacked, are_packed, pack_assigns}
use Rattle.metadata_relation.proofs.Packing.{count_passed, held_moved, parameter_words_are, passed_at}
use Rattle.metadata_relation.proofs.Registers.{few_in}
use Rattle.metadata_relation.proofs.Setting.{place_is, no_tag_is, type_is}
use Rattle.metadata_relation.proofs.Standing.{leaves_same, good_now, IsNode, fewer, Result}
use Rattle.metadata_relation.proofs.Waiting.{CallerWaits, waits_at, waits_same}
use Rattle.metadata_relation.proofs.EnteredBodies.{enters}
use Rattle.metadata_relation.proofs.Entering.{call_stage, few_parameters, IsCoveredCall}

-- ---- what is handed over

-- a scalar has no contents
pub scalar_place : (kind : Kind) (v : Rvalue) → is_no_aggregate kind ≡ true → is_passed kind v ≡ true → v.contents ≡ None
scalar_place Void v e f =
    place_is v.contents (and_parts (is_place v.contents) (is_word v.value.word)
    (and_parts (is_plain_word v) (has_no_tag v.value.tag) f).0).0
scalar_place (OfScalar k) v e f = place_is v.contents (and_parts (is_place v.contents) (is_of_type k v.value) f).0
scalar_place (Structure size) v e f = cc
scalar_place (Array size) v e f = cc

module _ (c : Compiled) (IsGood : Bytes → Type 0) (right : IsCompiled c IsGood) (u n : ℕ) (temps : Temps)
    (ws : List Frame) (s : State) (v : flat.State) (xs : List flat.Frame)
    (h : IsAt c IsGood u n temps ws s u (c.layout.address u n) v xs) where
  abbrev pc : ℕ
  pc = c.layout.address u n

  abbrev T : (temporary : ℕ) → ℕ
  T i = temporary_register h.code i

  abbrev free : ℕ
  free = first_free h.code

  abbrev map_now : MapSizes
  map_now = map_of c

  abbrev program : FlatProgram
  program = c.layout.program

  abbrev code : Tac
  code = c.layout.expansion.code

  abbrev Gives : Stage → Type 0
  Gives a = Result c IsGood a (flat.Stands u (c.layout.address u n) v xs)

  abbrev body : List FlatInstruction
  body = body_of (function_in c.layout.program u)

  -- a value without contents is held
  pub held_at : (i : ℕ) → i < most_temporaries h.code.code → (temps i).contents ≡ None
      → IsHeldAt (world c h.keys s v) (c.layout.expansion.entries u n i) (temps i).value (temporary_register h.code i)
      v.values
  held_at i low none =
      let t = h.holds.temporaries i low refl in
      held_of (world c h.keys s v) (c.layout.expansion.entries u n i) (temps i) _ _ (T i) v.values
      (record { by = t.by; none = λ e. none })

  -- the functions that the views know are those of the file
  pub functions_are : length c.setting.functions ≡ length (file_scope c.typed).functions
  functions_are = ap length (sym right.functions) ∙ length-map c.typed.functions header_of
      ∙ sym (length-map c.typed.functions _)

  -- contents that are handed over are all there are
  record IsWhole (i size : ℕ) : Type 0 where
    contents : ObjectState
    is : (temps i).contents ≡ Some contents
    exact : contents.size ≡ size
    all : (temps i).value.word ≡ 0
    held : IsContentsAt (world c h.keys s v) (c.layout.expansion.entries u n i) (temps i).value contents
        (greatest_structure c.layout.expansion.code h.code.code i)
        (area_of (map_of c) c.layout.expansion.code h.code s.charged i) (temporary_register h.code i) v.values

  whole_of : (i size : ℕ) → i < most_temporaries h.code.code → is_passed (Structure size) (temps i) ≡ true
      → IsWhole i size
  whole_of i size low passed = by (temps i).contents refl (h.holds.temporaries i low refl).by passed
    where
      by : (o : Option ObjectState) → (temps i).contents ≡ o
          → IsRvalueAt (world c h.keys s v) (c.layout.expansion.entries u n i) (temps i).value o
          (greatest_structure c.layout.expansion.code h.code.code i)
          (area_of (map_of c) c.layout.expansion.code h.code s.charged i) (temporary_register h.code i) v.values
          → is_structure_of o size (temps i).value.word ≡ true → IsWhole i size
      by None e held is = absurd (false≢true is)
      by (Some k) e held is =
          let parts = and_parts (k.size == size) ((temps i).value.word == 0) is in
          record {
            contents = k;
            is = e;
            exact = eqb-true k.size size parts.0;
            all = eqb-true (temps i).value.word 0 parts.1;
            held = held;
          }

  scalar_is : (kind : Kind) (i : ℕ) → i < most_temporaries h.code.code → is_no_aggregate kind ≡ true
      → is_passed kind (temps i) ≡ true → TakenOf (length (file_scope c.typed).functions) kind (temps i) s.objects
      → IsOfKind (length (file_scope c.typed).functions) kind (temps i).value
      → ArgumentIs (length (file_scope c.typed).functions) kind (temps i) s.objects
  scalar_is kind i low scalar passed taken word = record {
    tag = subst (λ z. IsSoundTag z s.objects (temps i).value.tag) functions_are
        (held_at i low (scalar_place kind (temps i) scalar passed)).sound;
    structure = taken;
    word = word;
  }

  argument_is : (kind : Kind) (i : ℕ) → i < most_temporaries h.code.code → is_handed_over kind ≡ true
      → is_passed kind (temps i) ≡ true
      → ArgumentIs (length (file_scope c.typed).functions) kind (temps i) s.objects
  argument_is Void i low e f =
      scalar_is Void i low refl f (scalar_place Void (temps i) refl f)
      (λ small. ltb-true (temps i).value.word (2 ^ 64)
      (and_parts (is_place (temps i).contents) (is_word (temps i).value.word)
      (and_parts (is_plain_word (temps i)) (has_no_tag (temps i).value.tag) f).0).1)
  argument_is (OfScalar k) i low e f =
      scalar_is (OfScalar k) i low refl f (scalar_place (OfScalar k) (temps i) refl f)
      (type_is (length (file_scope c.typed).functions) k (temps i).value
      (and_parts (is_place (temps i).contents) (is_of_type k (temps i).value) f).1)
  argument_is (Structure size) i low e f =
      let t = whole_of i size low f in
      let word = t.all in
      record {
        tag = subst (λ z. IsSoundTag z s.objects (temps i).value.tag) functions_are t.held.tagged;
        structure = subst (λ o. TakenIs (length (file_scope c.typed).functions) size o (temps i).value s.objects) (sym t.is)
            (record {
              sound = subst (λ z. IsSoundObject z s.objects t.contents) functions_are t.held.sound;
              whole = t.exact;
              first = t.all;
            });
        word = λ small. omega (arith, word);
      }
  argument_is (Array size) i low e f = cc

  pub arguments_are : (ps : List Variable) (d count : ℕ) → are_handed_over ps ≡ true
      → d + count ≤ most_temporaries h.code.code
      → are_passed (map (λ v. v.kind) ps) (gathered temps d count) ≡ true
      → ArgumentsAre (length (file_scope c.typed).functions) (map (λ v. v.kind) ps) (gathered temps d count) s.objects
  arguments_are [] d zero taken low passed = tt
  arguments_are [] d (suc count) taken low passed = absurd (false≢true passed)
  arguments_are (p ∷ ps) d zero taken low passed = absurd (false≢true passed)
  arguments_are (p ∷ ps) d (suc count) taken low passed =
      let parts = and_parts (is_handed_over p.kind) (are_handed_over ps) taken in
      let first = and_parts (is_passed p.kind (temps d)) (are_passed (map (λ v. v.kind) ps) (gathered temps (d + 1) count))
      passed in (
        argument_is p.kind d (omega (arith, low)) parts.0 first.0,
        arguments_are ps (d + 1) count parts.1 (omega (arith, low)) first.1,
      )

  abbrev ComesTo : (place : ℕ) → (after : flat.State) → (most : ℕ) → Type 0
  ComesTo = Comes (map_of c) c.layout.program u (c.layout.address u n) v xs

  -- By whatever instruction: its result comes to one temporary, its arguments stand from another on.
  module _ (words : HasWords (flat.Stands u (c.layout.address u n) v xs)) (i : Instruction) (label : IsNode c u n h.code i)
      (d first count next cost : ℕ) (gives : given i ≡ Some d)
      (leads : LeadsTo i next) (low_result : d < most_temporaries h.code.code)
      (lows : first + count ≤ most_temporaries h.code.code) where
    abbrev pub waits : Waiting
    waits = record { function = u; node = next; place = d; caller = caller s; temps = temps }

    abbrev packed_at : ℕ
    packed_at = moved_register h.code (5 * first)

    abbrev vs : List Rvalue
    vs = gathered temps first count

    module _ (f line : ℕ) (k : CodeFunction) (found : code_in c.layout.expansion.code f ≡ Some k)
        (passed : are_passed (taken_by (header_of_code k)) (gathered temps first count) ≡ true)
        (plain : IsCoveredCall c IsGood right k)
        (reads : (x : ℕ) → x < count
        → is_moved_with_entry (get_or (map (λ (z : Variable). z.kind) k.parameters) x Void) ≡ true
        → c.layout.expansion.entries u n (first + x) ≡ true) where
      count_is : count ≡ length k.parameters
      count_is = count_passed (taken_by (header_of_code k)) temps first count passed ∙ length-map k.parameters _

      abbrev moves : List FlatInstruction
      moves = pack h.code (ways_of k.parameters) (moved_register h.code (5 * first)) first

      abbrev behind : List FlatInstruction
      behind = result_code c.layout.expansion.code h.code (result_of c.layout.expansion.code k)
          (c.layout.expansion.entries u next d) d

      module _ (call : FlatInstruction) (at_moves most : ℕ) (between : flat.Values)
          (has : HasAt (body_of (function_in c.layout.program u)) at_moves (moves ++ (call ∷ behind)))
          (leads_on : Leads (body_of (function_in c.layout.program u)) (at_moves + length moves + 1 + length behind)
          (c.layout.address u next))
          (comes : ComesTo at_moves (record v { turns = v.turns + 1; values = between }) most)
          (cheap : most + 91 ≤ factor * (cost + 4))
          (awaits : Awaits c.layout.expansion h.code waits (result_of c.layout.expansion.code k) between)
          (between_stays : (y : ℕ) → y < first_free h.code → between y ≡ v.values y)
          (fits : s.charged + k.room ≤ (map_of c).budgets.calls)
          (space : nat_le (objects_end (objects_of_body k) s.stacked) (stack_end c.setting) ≡ true)
          (spare : has_objects (objects_of_body k) ≡ true → nat_lt s.keys c.setting.sizes.budgets.keys ≡ true) where
        abbrev q : ℕ
        q = at_moves + length moves

        abbrev packed : flat.Values
        packed = assigned moves between

        run_to : ComesTo q (record v { turns = v.turns + 1; values = packed }) (most + 2 * length moves)
        run_to = assigned_behind map_now program u pc v xs at_moves
            (record v { turns = v.turns + 1; values = between }) most comes moves
            (pack_assigns h.code (ways_of k.parameters) packed_at first).0
            (has_front body at_moves moves (call ∷ behind) has)

        are_there : ArePacked h.code k.parameters k.variables packed_at first between packed
        are_there = are_packed h.code k.parameters k.variables packed_at first between
            (let is = count_is in omega (arith, lows, is)) (omega arith)

        -- the arguments stand behind all temporaries
        pub stay : (y : ℕ) → y < moved_register h.code 0 → packed y ≡ v.values y
        stay y lt = are_there.below y (omega (arith, lt)) ∙ between_stays y (omega (arith, lt))

        -- and before all that the block has for itself
        behind_stay : (y : ℕ) → first_free h.code ≤ y → packed y ≡ between y
        behind_stay y le =
            let few = few_parameters c IsGood right k.parameters in
            are_there.above y (let is = count_is in omega (arith, le, few, is, lows))

        -- what the program's state is good for
        state_good : IsGoodState (context_at (names c) u ws) (begun (spent cost s))
        state_good = let g = good_now (names c) u ws s h.steady.good in record {
          kept = g.kept;
          low = g.low;
          statics = g.statics;
          homes = g.homes;
          plain = g.plain;
          typed = g.typed;
          separate = g.separate;
        }

        -- the states of the source that the call leaves are good
        set_good : (z : State) → set_up c.setting (header_of_code k) vs line (begun (spent cost s)) ≡ GivesRun tt z
            → IsSetUp (context_at (names c) f []) s.objects z
        set_good z e =
            entered_good c IsGood right f k found u ws vs line (begun (spent cost s)) z state_good
            (arguments_are k.parameters first count plain.taken lows passed) e

        good : (z : State) → IsSetUp (context_at (names c) f []) s.objects z → AreGood (names c) f (Waits waits ∷ ws) z
        good z up = record {
          by = (
            record {
              before = s;
              behind = z;
              caller_is = refl;
              set_up = up;
              since = leaves_same (context_at (names c) f []) z up.good;
            },
            h.steady.good.by,
          );
        }

        -- the registers of a parameter get those of its argument
        registers_at : (x j : ℕ) → x < length k.parameters → j < words_at k.parameters x → j < 5
            → arguments packed_at (parameters_end k) packed (variable_register k x + j)
            ≡ v.values (temporary_register h.code (first + x) + j)
        registers_at x j low lt few =
            let inner : x < count = (let is = count_is in omega (arith, low)) in
            let below : first + x < most_temporaries h.code.code = omega (arith, inner, lows) in
            let within = words_within k.parameters k.variables x low in
            argument_in packed_at (parameters_end k) (variable_register k x + j) packed (omega (arith, lt, within))
            ∙ are_there.at x j low lt ∙ between_stays (T (first + x) + j) (omega (arith, below, few))

        -- a parameter that is a scalar holds its argument
        scalar_handed : (x : ℕ) (t : Scalar)
            → get_or (map (λ (z : Variable). z.kind) k.parameters) x Void ≡ OfScalar t → x < length k.parameters
            → IsPlain (world c h.keys s v) t (get_or vs x (rvalue (integer 0))).value (variable_register k x)
            (arguments packed_at (parameters_end k) packed)
        scalar_handed x t kind low =
            let inner : x < count = (let is = count_is in omega (arith, low)) in
            let pass : is_passed (OfScalar t) (temps (first + x)) ≡ true =
            ap (λ z. is_passed z (temps (first + x))) (sym kind)
            ∙ passed_at (taken_by (header_of_code k)) temps first count x passed inner in
            let parts = and_parts (is_place (temps (first + x)).contents) (is_of_type t (temps (first + x)).value) pass in
            let below : first + x < most_temporaries h.code.code = omega (arith, inner, lows) in
            let held = held_at (first + x) below (place_is (temps (first + x)).contents parts.0) in
            let words = parameter_words_are k.parameters x t kind in
            subst (λ (z : Rvalue). IsPlain (world c h.keys s v) t z.value (variable_register k x)
            (arguments packed_at (parameters_end k) packed)) (sym (gathered_at temps first count x inner))
            (record {
              value = held_moved (world c h.keys s v) (c.layout.expansion.entries u n (first + x)) (is_pointer_type t)
                  (temps (first + x)).value (T (first + x)) (variable_register k x) v.values
                  (arguments packed_at (parameters_end k) packed) (λ e. read_with_entry x t inner kind e)
                  (λ j lt. registers_at x j low (omega (arith, lt, words))
                  (let few = few_in (is_pointer_type t) in omega (arith, lt, few))) held;
              no_tag = no_tag_is t (temps (first + x)).value parts.1;
            })
          where
            read_with_entry : (x : ℕ) (t : Scalar) → x < count
                → get_or (map (λ (z : Variable). z.kind) k.parameters) x Void ≡ OfScalar t → is_pointer_type t ≡ true
                → c.layout.expansion.entries u n (first + x) ≡ true
            read_with_entry x (Integer t) low kind e = cc
            read_with_entry x Pointer low kind e = reads x low (ap is_moved_with_entry kind)

        -- and so does one that is a structure
        structure_handed : (x size : ℕ)
            → get_or (map (λ (z : Variable). z.kind) k.parameters) x Void ≡ Structure size → x < length k.parameters
            → IsStructureArgument (world c h.keys s v) size (get_or vs x (rvalue (integer 0))) (variable_register k x)
            (arguments packed_at (parameters_end k) packed)
        structure_handed x size kind low =
            let inner : x < count = (let is = count_is in omega (arith, low)) in
            let i = first + x in
            let below : first + x < most_temporaries h.code.code = omega (arith, inner, lows) in
            let t = whole_of i size below
            (ap (λ z. is_passed z (temps i)) (sym kind)
            ∙ passed_at (taken_by (header_of_code k)) temps first count x passed inner) in
            let words : words_at k.parameters x ≡ 5 =
            words_by_kind k.parameters x low ∙ ap (λ z. register_count (passed_as z)) kind in
            let part = t.held.entry (reads x inner (ap is_moved_with_entry kind)) in
            let at = registers_at x in
            let R = variable_register k x in
            let zero : R ≡ R + 0 = omega arith in
            let from : T i + 0 ≡ T i = omega arith in
            let now = arguments packed_at (parameters_end k) packed in
            subst (λ (z : Rvalue). IsStructureArgument (world c h.keys s v) size z (variable_register k x)
            (arguments packed_at (parameters_end k) packed)) (sym (gathered_at temps first count x inner))
            (record {
              contents = t.contents;
              is = t.is;
              exact = t.exact;
              all = t.all;
              area = area_of (map_of c) c.layout.expansion.code h.code s.charged i;
              held = record {
                word = ap now zero ∙ at 0 low (omega (arith, words)) (omega arith) ∙ ap v.values from ∙ t.held.word;
                entry = λ e. record {
                  base = at 1 low (omega (arith, words)) (omega arith) ∙ part.base;
                  bound = at 2 low (omega (arith, words)) (omega arith) ∙ part.bound;
                  no_lock = at 4 low (omega (arith, words)) (omega arith) ∙ part.no_lock;
                };
                place = t.held.place;
                small = omega arith;
                area_is = t.held.area_is;
                sound = t.held.sound;
                tagged = t.held.tagged;
              };
            })

        handed : (x : ℕ) → x < length k.parameters
            → IsArgument (world c h.keys s v) (get_or (map (λ (z : Variable). z.kind) k.parameters) x Void)
            (get_or vs x (rvalue (integer 0))) (variable_register k x) (arguments packed_at (parameters_end k) packed)
        handed x low = record { by = by (get_or (map (λ (z : Variable). z.kind) k.parameters) x Void) refl }
          where
            by : (kind : Kind) → get_or (map (λ (z : Variable). z.kind) k.parameters) x Void ≡ kind
                → IsArgumentBy (world c h.keys s v) (get_or vs x (rvalue (integer 0))) (variable_register k x)
                (arguments packed_at (parameters_end k) packed) kind
            by Void e = tt
            by (OfScalar t) e = scalar_handed x t e low
            by (Structure size) e = structure_handed x size e low
            by (Array size) e = tt

        abbrev frame : flat.Frame
        frame = record { function = u; next = q + 1; into = temporary_register h.code d; values = packed }

        -- the caller waits
        waits_so : IsWaitingAs (world c h.keys s v) c.layout k (length s.objects) waits frame xs
        waits_so =
            let z = fewer c IsGood right u n temps ws s v xs h i label d next gives leads in
            record {
              function = refl;
              code = h.code;
              there = h.there;
              low = low_result;
              into = refl;
              behind = (has_back body at_moves moves (call ∷ behind) has).1;
              leads = leads_on;
              awaits = awaits_on c.layout.expansion h.code waits (result_of c.layout.expansion.code k) between packed
                  behind_stay awaits;
              below = λ y o is. live_made s.objects o (h.holds.homes.homes y o is).live;
              holds = waiting_holds (views c) h.keys s.objects v.memory (activation c h.code u n s)
                  (c.layout.expansion.entries u next) (c.layout.expansion.contents u next) d temps s.plain s.frame v.values
                  packed (record { kept = z.kept; plain = z.plain; known = λ j ne e. refl }) stay h.holds;
              charge = h.charge;
              fits = h.fits;
            }

        wait : CallerWaits (world c h.keys s v) (spent cost s) c.layout (stack_first c.setting) k s.stacked (length s.objects)
            (Waits waits ∷ ws) (frame ∷ xs)
        unfolding waits_so
        wait = (
          refl,
          waits_so,
          waits_at (world c h.keys s v) (spent cost s) c.layout (stack_first c.setting) h.code v.values packed
              (λ r from to. stay r (omega (arith, to))) s.stacked (length s.objects) s.frame ws xs
              (waits_same (views c) h.keys s (spent cost s) v.memory c.layout (stack_first c.setting) refl
              (level h.code s v) ws xs h.wait.by),
        )

        -- the function is entered, where the step at the call is that of a call by name
        pub enters_it : ((w : ℕ) → step (map_of c) c.layout.program
            (flat.Stands u q (record v { turns = v.turns + 1; values = packed; work = w }) xs)
            ≡ at_instruction (map_of c) c.layout.program
            (Some (flat_code.Call f packed_at (temporary_register h.code d))) u q
            (record v { turns = v.turns + 1; values = packed; work = w }) xs)
            → Gives (call_stage c IsGood right u pc q v xs f k found plain line packed_at (T d) vs
            (Waits waits ∷ ws) (spent cost s))
        enters_it at =
            let shown = h.stands.for.shown in
            let count = (pack_assigns h.code (ways_of k.parameters) packed_at first).1 in
            let ways = length-map k.parameters (λ (v : Variable). passed_as v.kind) in
            let few = few_parameters c IsGood right k.parameters in
            let before = h.work in
            enters c IsGood right u pc q v xs f k found plain line packed_at (T d) vs (Waits waits ∷ ws)
            (spent cost s) packed (most + 2 * length moves) h.keys
            (record {
              words = words;
              comes = run_to;
              at = at;
              arguments_are = handed;
              charge = h.charge;
              fits = fits;
              space = space;
              spare = spare;
              work = omega (arith, count, ways, few, before, cheap);
              stands = record {
                for = record {
                  objects = h.stands.for.objects;
                  spaces = h.stands.for.spaces;
                  keys = h.stands.for.keys;
                  shown = record {
                    input = shown.input;
                    output = shown.output;
                    taken = shown.taken;
                    accesses = shown.accesses;
                  };
                };
                top = h.stands.top;
                turns = h.stands.turns;
              };
              separate = (good_now (names c) u ws s h.steady.good).separate;
              bytes = h.steady.bytes;
              few_keys = h.steady.keys;
              statics = h.steady.statics;
              statics_live = h.steady.statics_live;
              set_up_good = set_good;
              good = good;
              wait = wait;
            })
