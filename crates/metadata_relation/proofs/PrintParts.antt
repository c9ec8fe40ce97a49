-- The parts of a print: a string is scanned, and a byte of the format, a number or a string is put out and counted.
use Rattle.std.proofs.Common.{◌≡◌, inl, inr, ℕ, ◌+◌, ◌-◌, ◌*◌, ◌%◌, ◌^◌, ◌<◌, ◌≤◌, true, List, [], ◌∷◌}
use Rattle.std.proofs.Common.{◌++◌, length, Some, None, refl, sym, ap, ◌∙◌, subst, arith}
use Rattle.behaviours.specs.Steps.{run}
use Rattle.behaviours.proofs.Running.{run_add}
use Rattle.addr_map.specs.Places.{MapSizes}
use Rattle.sb_base.specs.declared.ending.Ending.{Ending}
use Rattle.sb_base.specs.Endings.{code_of, report_of}
use Rattle.rv_isa.specs.declared.instruction.RegOp.TheVariants.{Add, Sub}
use Rattle.rv_isa.specs.Results.{reg_result}
use Rattle.words.specs.Operations.{difference, sum}
use Rattle.words.specs.TwosComplement.{low_bits}
use Rattle.obj_memory.specs.declared.value.Value.{Value}
use Rattle.c_tree.specs.declared.format.Directive.{Directive}
use Rattle.c_tree.specs.declared.format.Directive.TheVariants as directive
use Rattle.source_meaning.specs.State.{State, Outcome, Gives, Ended, Paused}
use Rattle.source_meaning.specs.Acting.{state_of}
use Rattle.source_meaning.specs.Strings.{scan}
use Rattle.tac_ir.specs.Stage.{Frame, Temps}
use Rattle.flat_code.specs.declared.instruction.RightOperand.{RightOperand}
use Rattle.flat_code.specs.declared.instruction.RightOperand.TheVariants.{Number, Register}
use Rattle.flat_code.specs.declared.instruction.FlatInstruction.{FlatInstruction}
use Rattle.flat_code.specs.declared.instruction.FlatInstruction.TheVariants.{Call, Operate}
use Rattle.flat_code.specs.declared.function.FlatProgram.{FlatProgram}
use Rattle.flat_code.specs.Calls.{function_in}
use Rattle.flat_code.specs.Meaning.{body_of, right_value, step}
use Rattle.flat_code.specs.Memory.{Bytes, put}
use Rattle.flat_code.specs.State as flat
use Rattle.flat_code.specs.Words.{HasWords}
use Rattle.flat_code.proofs.Stored.{put_other, put_same}
use Rattle.flat_code.specs.Routines.Metadata.{metadata_in}
use Rattle.flat_code.specs.Routines.Routine.{HasAt}
use Rattle.flat_code.proofs.Routines.Words.{same_metadata}
use Rattle.flat_actions.specs.Actions.{IsFor, IsShown}
use Rattle.flat_actions.proofs.Standing.{for_worked}
use Rattle.lib_wrappers.specs.PrintingRoutines.Formats.{byte_code}
use Rattle.lib_wrappers.specs.PrintingRoutines.Numbers.{number_bytes}
use Rattle.lib_wrappers.proofs.PrintingRoutines.Scans.{number_done}
use Rattle.runtime_functions.specs.declared.runtime.RuntimeFunction.TheVariants.{PutBytes, PutNumber, Scan}
use Rattle.runtime_functions.specs.Actions.{work_of_call}
use Rattle.runtime_functions.specs.Calls.{CallSite}
use Rattle.runtime_functions.specs.Library.{held_from}
use Rattle.runtime_functions.specs.Printing.{AreBytesAt, HasGoneBehind, IsScanServed, number_steps, putting_steps}
use Rattle.runtime_functions.proofs.PrintCalls.{number_served, put_served, scan_served}
use Rattle.metadata_plan.specs.Registers.{most_temporaries}
use Rattle.metadata_plan.proofs.Flat.{Comes, constant_comes, move_comes, operate_comes, put_comes}
use Rattle.metadata_relation.specs.Blocks.{runtime_number, status_code}
use Rattle.metadata_relation.specs.Holding.{IsHeldAt}
use Rattle.metadata_relation.specs.Printing.{directive_place, end_register, put_argument, range_place, scan_place}
use Rattle.metadata_relation.specs.Printing.{scan_statuses, string_register}
use Rattle.metadata_relation.specs.Registers.{first_free, moved_register, temporary_register}
use Rattle.metadata_relation.specs.Stages.{Compiled, IsAt, map_of, views, world}
use Rattle.metadata_relation.specs.Steps.{IsCompiled}
use Rattle.metadata_relation.proofs.Acting.{Reached, reached_next, reached_then, reached_words}
use Rattle.metadata_relation.proofs.PrintScans.{directive_listed, scan_by, ScansBy}
use Rattle.metadata_relation.proofs.RuntimeCalls.{runtime_call, site}
use Rattle.metadata_relation.proofs.Statuses.{AllEnd, status_ends, status_passed}
use Rattle.metadata_relation.proofs.ToldEndings.{has_report, tells, told_among, told_status}

sum_is : (x y : ℕ) → reg_result Add x y ≡ sum 64 x y
unfolding reg_result
sum_is x y = refl

difference_is : (x y : ℕ) → reg_result Sub x y ≡ difference 64 x y
unfolding reg_result
difference_is x y = refl

-- counts wrap
counted_more : (x y : ℕ) → sum 64 (x % 2 ^ 64) (y % 2 ^ 64) ≡ (x + y) % 2 ^ 64
counted_more x y = omega arith

length_of : (w l : ℕ) → w + l < 2 ^ 64 → difference 64 (w + l) w ≡ l % 2 ^ 64
length_of w l lt = omega (arith, lt)

all_end : (line : ℕ) → AllEnd scan_statuses line
all_end line = (refl, (refl, tt))

module _ (c : Compiled) (IsGood : Bytes → Type 0) (right : IsCompiled c IsGood) (u n : ℕ) (temps : Temps)
    (ws : List Frame) (s : State) (v : flat.State) (xs : List flat.Frame)
    (h : IsAt c IsGood u n temps ws s u (c.layout.address u n) v xs)
    (words : HasWords (flat.Stands u (c.layout.address u n) v xs)) where
  abbrev pc : ℕ
  pc = c.layout.address u n

  abbrev m : MapSizes
  m = map_of c

  abbrev p : FlatProgram
  p = c.layout.program

  abbrev body : List FlatInstruction
  body = body_of (function_in c.layout.program u)

  abbrev number : (place : ℕ) → ℕ
  number k = runtime_number c.layout.expansion.code k

  abbrev free : ℕ
  free = first_free h.code

  abbrev T : (temporary : ℕ) → ℕ
  T i = temporary_register h.code i

  abbrev string : (temporary : ℕ) → ℕ
  string i = string_register h.code i

  -- the state of the source where so much was put out and so much work was done
  abbrev pub shown : (output : List ℕ) → (work : ℕ) → State
  shown o w = record s { output = o; work = w }

  -- the run has come so far: bytes were put out, and registers above those of temporaries alone have changed
  pub record IsSoFar (output : List ℕ) (q : ℕ) (y : flat.State) (most : ℕ) : Type 0 where
    pub come : Reached (map_of c) c.layout.program u (c.layout.address u n) v xs q y most
    pub stands : IsFor (views c) h.keys IsGood (record s { output = output; work = 0 }) y
    pub memory : y.memory ≡ v.memory
    pub turns : y.turns ≡ v.turns
    pub same : (r : ℕ) → r < moved_register h.code 0 → y.values r ≡ v.values r

  -- registers change
  pub altered : (o : List ℕ) (q q' most more : ℕ) (y : flat.State) (values : flat.Values) → IsSoFar o q y most
      → (k : Comes m p u q y xs q' (record y { values = values }) more)
      → ((r : ℕ) → r < moved_register h.code 0 → values r ≡ y.values r)
      → IsSoFar o q' (record y { values = values; work = y.work + k.work }) (most + more)
  altered o q q' most more y values f k same = record {
    come = reached_next m p u xs pc q q' v y (record y { values = values }) most more f.come k;
    stands = record {
      objects = f.stands.objects;
      spaces = f.stands.spaces;
      keys = f.stands.keys;
      shown = record {
        input = f.stands.shown.input;
        output = f.stands.shown.output;
        taken = f.stands.shown.taken;
        accesses = f.stands.shown.accesses;
      };
    };
    memory = f.memory;
    turns = f.turns;
    same = λ r lt. same r lt ∙ f.same r lt;
  }

  -- one register gets a number
  pub set : (o : List ℕ) (q most into value : ℕ) (y : flat.State) → IsSoFar o q y most
      → moved_register h.code 0 ≤ into → (k : Comes m p u q y xs (q + 1) (record y { values = put y.values into value }) 2)
      → IsSoFar o (q + 1) (record y { values = put y.values into value; work = y.work + k.work }) (most + 2)
  set o q most into value y f above k =
      altered o q (q + 1) most 2 y (put y.values into value) f k
      (λ r lt. put_other y.values into value r (λ e. omega (arith, e, above, lt)))

  -- a call of the runtime is passed
  behind_call : (g first into results bound steps : ℕ) (o o' : List ℕ) (q w most : ℕ) (y : flat.State) (stage : flat.Stage)
      → IsSoFar o q y most → moved_register h.code 0 ≤ into
      → run (step m p) steps (flat.Stands u q y xs) ≡ stage
      → (b : HasGoneBehind (views c) h.keys IsGood (site c IsGood right u n temps ws s v xs h g q first into y) results bound
      (record s { output = o'; work = w }) stage)
      → IsSoFar o' (q + 1) b.behind.state (most + bound)
  behind_call g first into results bound steps o o' q w most y stage f above comes b = record {
    come = reached_then m p u xs pc q (q + 1) v y b.behind.state most bound f.come
        (record { steps = steps; comes = comes ∙ b.behind.at; few = b.behind.work });
    stands = for_worked (views c) h.keys IsGood (record s { output = o'; work = w }) 0 b.behind.state b.stands;
    memory = b.memory ∙ f.memory;
    turns = b.behind.turns ∙ f.turns;
    same = λ r lt. b.behind.others r (inl (omega (arith, above, lt))) ∙ f.same r lt;
  }

  -- ---- a string is scanned

  -- the run has ended, with its report
  pub record HasStopped (e : Ending) (output : List ℕ) (most : ℕ) : Type 0 where
    pub steps : ℕ
    pub state : flat.State
    pub comes : run (step (map_of c) c.layout.program) steps (flat.Stands u (c.layout.address u n) v xs)
        ≡ flat.Over (code_of e) (report_of e) state
    pub shows : IsShown (record s { output = output; work = 0 }) state
    pub turns : state.turns ≡ v.turns
    pub few : state.work ≤ v.work + most + 2 * length (report_of e)
    pub some : 1 ≤ length (report_of e)

  -- the bytes of a string stand in memory, and its end in a register
  pub record HasScanned (output : List ℕ) (i : ℕ) (word q most : ℕ) (y : flat.State) (bytes : List ℕ) : Type 0 where
    pub state : flat.State
    pub far : IsSoFar output q state most
    pub below : (r : ℕ) → r < string_register h.code i → state.values r ≡ y.values r
    pub end_is : state.values (end_register h.code i) ≡ word + length bytes
    pub found : AreBytesAt (map_of c) v.memory word bytes

  module _ (line i : ℕ) (low : i < most_temporaries h.code.code)
      (held : IsHeldAt (world c h.keys s v) true (temps i).value (temporary_register h.code i) v.values) where
    abbrev tests : List FlatInstruction
    tests = status_code (string_register h.code i) line scan_statuses

    abbrev value : Value
    value = (temps i).value

    abbrev list : List FlatInstruction
    list = Call (runtime_number c.layout.expansion.code scan_place) (temporary_register h.code i) (string_register h.code i)
        ∷ tests

    module _ (o : List ℕ) (q w most : ℕ) (y : flat.State) (f : IsSoFar o q y most) (has : HasAt body q list) where
      abbrev at_call : CallSite
      at_call = site c IsGood right u n temps ws s v xs h (runtime_number c.layout.expansion.code scan_place) q
          (temporary_register h.code i) (string_register h.code i) y

      abbrev most_work : (counted : ℕ) → ℕ
      most_work counted = work_of_call 5 1 2 (16 + 8 * counted)

      -- what comes of the scan
      abbrev pub ScanLeaves : Outcome (List ℕ) → Type 0
      ScanLeaves (Gives bytes x') =
          HasScanned o i (temps i).value.word (q + length list) (most + (73 + 16 * (x'.work - w))) y bytes
      ScanLeaves (Ended e x') = HasStopped e o (most + (79 + 16 * (x'.work - w)))
      ScanLeaves (Paused x') = ⊥

      -- it has happened, and the state of the source differs in work alone
      by_outcome : (r : Outcome (List ℕ)) (steps : ℕ) (stage : flat.Stage)
          → run (step (map_of c) c.layout.program) steps (flat.Stands u q y xs) ≡ stage
          → ScansBy line (record s { output = o; work = w }) r
          → IsScanServed (views c) h.keys IsGood at_call (work_of_call 5 1 2 (16 + 8 * ((state_of r).work - w))) line
          (temps i).value r stage
          → ScanLeaves r
      by_outcome (Gives bytes x') steps stage comes by served =
          let b = served.gone in
          let z = b.behind.state in
          let counted = x'.work - w in
          let same : x' ≡ record s { output = o; work = x'.work } = by.0.same in
          let gone : HasGoneBehind (views c) h.keys IsGood at_call 1 (most_work counted)
          (record s { output = o; work = x'.work }) stage = record {
            behind = b.behind;
            status = b.status;
            stands = subst (λ k. IsFor (views c) h.keys IsGood k b.behind.state) same b.stands;
            memory = b.memory;
          } in
          let g = behind_call (number scan_place) (T i) (string i) 1 (most_work counted) steps o o q x'.work most y stage f
          (omega arith) comes gone in
          let passed = status_passed m p u xs (string i) line (q + 1) scan_statuses z has.1 b.status in
          let k = altered o (q + 1) (q + 1 + length tests) (most + most_work counted) 2 z z.values g
          (record { steps = passed.steps; work = passed.work; few = passed.few; comes = passed.comes }) (λ r lt. refl) in
          let place : q + 1 + length tests ≡ q + length list = omega arith in
          let most_is : most + most_work counted + 2 ≡ most + (73 + 16 * counted) = omega arith in
          let end_is = served.end_is in
          record {
            state = record z { work = z.work + passed.work };
            far = subst (λ e. IsSoFar o (q + length list) (record z { work = z.work + passed.work }) e) most_is
                (subst (λ e. IsSoFar o e (record z { work = z.work + passed.work }) (most + most_work counted + 2)) place k);
            below = λ r lt. b.behind.others r (inl lt);
            end_is = end_is;
            found = record {
              range = served.found.range;
              there = λ j lt. ap (λ a. a (value.word + j)) (sym f.memory)
                  ∙ served.found.there j lt;
            };
          }
      by_outcome (Ended e x') steps stage comes by (inr exited) =
          let t = told_status scan_statuses line e by.0 in
          let both : None ≡ Some t.0 = sym exited.no_status ∙ t.1 in cc
      by_outcome (Ended e x') steps stage comes by (inl t) =
          let z = t.behind.state in
          let counted = x'.work - w in
          let come = reached_then m p u xs pc q (q + 1) v y z most (most_work counted) f.come
          (record { steps = steps; comes = comes ∙ t.behind.at; few = t.behind.work }) in
          let end = status_ends m p u xs (string i) line scan_statuses t.kind (q + 1) z e has.1 (all_end line) t.status
          (told_among scan_statuses t.kind line e by.0 t.ending_is) t.ending_is in
          let same : x' ≡ record s { output = o; work = x'.work } = by.1.same in
          let few_come = come.few in
          let few_end = end.few in
          let shows : IsShown (record s { output = o; work = x'.work }) z = subst (λ k. IsShown k z) same t.shown in
          record {
            steps = come.steps + end.steps;
            state = record z { work = z.work + end.work };
            comes = run_add (step m p) come.steps end.steps (flat.Stands u pc v xs)
                ∙ ap (run (step m p) end.steps) come.comes ∙ end.comes;
            shows = record {
              input = shows.input;
              output = shows.output;
              taken = shows.taken;
              accesses = shows.accesses;
            };
            turns = t.behind.turns ∙ f.turns;
            few = omega arith;
            some = has_report e t.kind (tells t.kind line e t.ending_is);
          }
      by_outcome (Paused x') steps stage comes by served = absurd served

      pub scanned : ScanLeaves (scan (temps i).value line (record s { output = o; work = w }))
      scanned =
          let x = record s { output = o; work = w } in
          let rc = runtime_call c IsGood right u n temps ws s v xs h scan_place Scan refl q (T i) (string i) y has.0 in
          let spells = held.entry refl in
          let served = scan_served m c.entry IsGood p at_call rc.function rc.of.routine
          (record { calls = rc.calls; is = rc.of.is }) rc.of.code (length c.setting.functions) c.layout.expansion.types h.keys
          x value line
          (record {
            words = reached_words m p u xs pc q v y most words f.come;
            stands = for_worked (views c) h.keys IsGood (record s { output = o; work = 0 }) w y f.stands;
            held = (
              record {
                word = ap y.values (omega arith) ∙ f.same (T i) (omega (arith, low)) ∙ spells.word;
                tag = same_metadata
                    (metadata_in y.values (record { base = T i + 1; bound = T i + 2; key = T i + 3; lock = T i + 4 }))
                    (metadata_in v.values (held_from (T i)).tag) (f.same (T i + 1) (omega (arith, low)))
                    (f.same (T i + 2) (omega (arith, low))) (f.same (T i + 3) (omega (arith, low)))
                    (f.same (T i + 4) (omega (arith, low)))
                    ∙ spells.tag;
              },
              held.sound,
            );
          }) in
          by_outcome (scan value line x) served.steps served.stage served.comes (scan_by line value x) served.holds

  -- ---- what is put out is counted

  -- bytes more were put out and counted, and the registers of the strings behind an argument stay
  pub record HasPutOut (output : List ℕ) (done : ℕ) (q most first : ℕ) (y : flat.State) : Type 0 where
    pub state : flat.State
    pub far : IsSoFar output q state most
    pub counted : state.values (first_free h.code) ≡ done % 2 ^ 64
    pub others : (r : ℕ) → first ≤ r → r < first_free h.code → state.values r ≡ y.values r

  module _ (o : List ℕ) (done q most : ℕ) (y : flat.State) (f : IsSoFar o q y most)
      (count : y.values (first_free h.code) ≡ done % 2 ^ 64) where
    -- a register is added to the count
    add_to : (q : ℕ) (o : List ℕ) (most more first : ℕ) (z : flat.State) (operand : RightOperand) → IsSoFar o q z most
        → z.values (first_free h.code) ≡ done % 2 ^ 64 → right_value operand z.values ≡ more % 2 ^ 64
        → ((r : ℕ) → first ≤ r → r < first_free h.code → z.values r ≡ y.values r)
        → HasAt body q (Operate Add (first_free h.code) (first_free h.code) operand ∷ [])
        → HasPutOut o (done + more) (q + 1) (most + 2) first y
    add_to q o most more first z operand g count is others has =
        let sum = reg_result Add (z.values free) (right_value operand z.values) in
        let k = operate_comes m p u q z xs Add free free operand has.0 in
        record {
          state = record z { values = put z.values free sum; work = z.work + k.work };
          far = set o q most free sum z g (omega arith) k;
          counted = put_same z.values free sum ∙ sum_is (z.values free) (right_value operand z.values)
              ∙ ap (λ a. (a + right_value operand z.values) % 2 ^ 64) count
              ∙ ap (λ a. (done % 2 ^ 64 + a) % 2 ^ 64) is ∙ counted_more done more;
          others = λ r from lt. put_other z.values free sum r (λ e. omega (arith, e, lt)) ∙ others r from lt;
        }

    pub byte_put : (b first : ℕ) → b < 256 → HasAt body q (byte_code b (first_free h.code) (first_free h.code + 1))
        → HasPutOut (o ++ b ∷ []) (done + 1) (q + 1 + 1 + 1) (most + 8) first y
    byte_put b first small has =
        let k = constant_comes m p u q y xs (free + 1) b has.0 in
        let low = low_bits 64 b in
        let f1 = set o q most (free + 1) low y f (omega arith) k in
        let y1 : flat.State = record y { values = put y.values (free + 1) low; work = y.work + k.work } in
        let k2 = put_comes m p u (q + 1) y1 xs (free + 1) has.1.0 in
        let is : y1.values (free + 1) % 256 ≡ b =
        ap (λ a. a % 256) (put_same y.values (free + 1) low) ∙ omega (arith, small) in
        let y2 : flat.State = record y1 { output = y1.output ++ y1.values (free + 1) % 256 ∷ []; work = y1.work + k2.work } in
        let f2 : IsSoFar (o ++ b ∷ []) (q + 1 + 1) y2 (most + 2 + 4) = record {
          come = reached_next m p u xs pc (q + 1) (q + 1 + 1) v y1
              (record y1 { output = y1.output ++ y1.values (free + 1) % 256 ∷ [] }) (most + 2) 4 f1.come k2;
          stands = record {
            objects = f.stands.objects;
            spaces = f.stands.spaces;
            keys = f.stands.keys;
            shown = record {
              input = f.stands.shown.input;
              output = ap (λ z. z ++ y1.values (free + 1) % 256 ∷ []) f.stands.shown.output
                  ∙ ap (λ z. o ++ z ∷ []) is;
              taken = f.stands.shown.taken;
              accesses = f.stands.shown.accesses;
            };
          };
          memory = f1.memory;
          turns = f1.turns;
          same = f1.same;
        } in
        let all = add_to (q + 1 + 1) (o ++ b ∷ []) (most + 2 + 4) 1 first y2 (Number 1) f2
        (put_other y.values (free + 1) low free (λ e. omega (arith, e)) ∙ count) (omega arith)
        (λ r from lt. put_other y.values (free + 1) low r (λ e. omega (arith, e, lt))) has.1.1 in
        let sum : most + 2 + 4 + 2 ≡ most + 8 = omega arith in
        subst (λ e. HasPutOut (o ++ b ∷ []) (done + 1) (q + 1 + 1 + 1) e first y) sum all

    -- an argument that is no string
    pub number_put : (d : Directive) → (d ≡ directive.String → ⊥) → (i first : ℕ) → i < most_temporaries h.code.code
        → (value : Value) → v.values (temporary_register h.code i) ≡ value.word
        → HasAt body q (Call (runtime_number c.layout.expansion.code (directive_place d)) (temporary_register h.code i)
        (first_free h.code + 1) ∷ Operate Add (first_free h.code) (first_free h.code) (Register (first_free h.code + 2)) ∷ [])
        → HasPutOut (o ++ number_bytes d value.word) (done + length (number_bytes d value.word)) (q + 1 + 1)
        (most + (57 + 30 * length (number_bytes d value.word))) first y
    number_put d other i first low value held has =
        let x = record s { output = o; work = 0 } in
        let bytes = number_bytes d value.word in
        let rc = runtime_call c IsGood right u n temps ws s v xs h (directive_place d) (PutNumber d) (directive_listed d other) q
        (T i) (free + 1) y has.0 in
        let at_call = site c IsGood right u n temps ws s v xs h (number (directive_place d)) q (T i) (free + 1) y in
        let served = number_served m c.entry IsGood p at_call rc.function rc.of.routine
        (record { calls = rc.calls; is = rc.of.is }) d rc.of.code (length c.setting.functions) c.layout.expansion.types h.keys
        x value 1 bytes
        (record {
          words = reached_words m p u xs pc q v y most words f.come;
          stands = f.stands;
          held = f.same (T i) (omega (arith, low)) ∙ held;
          no_string = other;
          bytes_are = ap (λ r. r x) (number_done d value 1 other);
        }) in
        let bound = work_of_call 1 1 2 (number_steps bytes) in
        let b = served.holds.gone in
        let z = b.behind.state in
        let g = behind_call (number (directive_place d)) (T i) (free + 1) 1 bound served.steps o (o ++ bytes) q
        (0 + length bytes) most y served.stage f (omega arith) served.comes b in
        let all = add_to (q + 1) (o ++ bytes) (most + bound) (length bytes) first z (Register (free + 2)) g
        (b.behind.others free (inl (omega arith)) ∙ count) (ap z.values (omega arith) ∙ served.holds.counted)
        (λ r from lt. b.behind.others r (inl (omega (arith, lt)))) has.1 in
        let sum : most + bound + 2 ≡ most + (57 + 30 * length bytes) = omega arith in
        subst (λ e. HasPutOut (o ++ bytes) (done + length bytes) (q + 1 + 1) e first y) sum all

    -- a string that was scanned
    pub string_put : (i : ℕ) → i < most_temporaries h.code.code → (value : Value) (bytes : List ℕ)
        → v.values (temporary_register h.code i) ≡ value.word
        → y.values (end_register h.code i) ≡ value.word + length bytes → AreBytesAt (map_of c) v.memory value.word bytes
        → HasAt body q (put_argument (λ k. runtime_number c.layout.expansion.code k) h.code directive.String i
        (first_free h.code))
        → HasPutOut (o ++ bytes) (done + length bytes) (q + 1 + 1 + 1 + 1) (most + (41 + 10 * length bytes))
        (string_register h.code i + 1) y
    string_put i low value bytes held end_is found has =
        let k = move_comes m p u q y xs (string i) (T i) has.0 in
        let y1 : flat.State = record y { values = put y.values (string i) (y.values (T i)); work = y.work + k.work } in
        let f1 = set o q most (string i) (y.values (T i)) y f (omega arith) k in
        let is : y1.values (string i) ≡ value.word =
        put_same y.values (string i) (y.values (T i)) ∙ f.same (T i) (omega (arith, low)) ∙ held in
        let to : y1.values (string i + 1) ≡ value.word + length bytes =
        put_other y.values (string i) (y.values (T i)) (string i + 1) (λ e. omega (arith, e)) ∙ end_is in
        let all_words = reached_words m p u xs pc (q + 1) v y1 (most + 2) words f1.come in
        let below : value.word + length bytes < 2 ^ 64 =
        subst (λ a. a < 2 ^ 64) to (all_words.values (string i + 1)) in
        let x = record s { output = o; work = 0 } in
        let rc = runtime_call c IsGood right u n temps ws s v xs h range_place PutBytes refl (q + 1) (string i) (free + 1) y1
        has.1.0 in
        let at_call = site c IsGood right u n temps ws s v xs h (number range_place) (q + 1) (string i) (free + 1) y1 in
        let served = put_served m c.entry IsGood p at_call rc.function rc.of.routine
        (record { calls = rc.calls; is = rc.of.is }) rc.of.code (length c.setting.functions) c.layout.expansion.types h.keys
        x value.word bytes
        (record {
          words = all_words;
          stands = f1.stands;
          from = is;
          to = to;
          there = record {
            range = found.range;
            there = λ j lt. ap (λ a. a (value.word + j)) f.memory ∙ found.there j lt;
          };
        }) in
        let bound = work_of_call 2 0 2 (putting_steps bytes) in
        let b = served.holds in
        let z = b.behind.state in
        let g = behind_call (number range_place) (string i) (free + 1) 0 bound served.steps o (o ++ bytes) (q + 1)
        (0 + length bytes) (most + 2) y1 served.stage f1 (omega arith) served.comes b in
        let first_is : z.values (string i) ≡ value.word = b.behind.others (string i) (inl (omega (arith, low))) ∙ is in
        let end_there : z.values (string i + 1) ≡ value.word + length bytes =
        b.behind.others (string i + 1) (inl (omega (arith, low))) ∙ to in
        let span = reg_result Sub (z.values (string i + 1)) (z.values (string i)) in
        let span_is : span ≡ length bytes % 2 ^ 64 =
        difference_is (z.values (string i + 1)) (z.values (string i))
        ∙ ap (λ a. difference 64 a (z.values (string i))) end_there
        ∙ ap (λ a. difference 64 (value.word + length bytes) a) first_is ∙ length_of value.word (length bytes) below in
        let k3 = operate_comes m p u (q + 1 + 1) z xs Sub (free + 1) (string i + 1) (Register (string i)) has.1.1.0 in
        let g3 = set (o ++ bytes) (q + 1 + 1) (most + 2 + bound) (free + 1) span z g (omega arith) k3 in
        let z3 : flat.State = record z { values = put z.values (free + 1) span; work = z.work + k3.work } in
        let all = add_to (q + 1 + 1 + 1) (o ++ bytes) (most + 2 + bound + 2) (length bytes) (string i + 1) z3
        (Register (free + 1)) g3
        (put_other z.values (free + 1) span free (λ e. omega (arith, e)) ∙ b.behind.others free (inl (omega arith))
        ∙ put_other y.values (string i) (y.values (T i)) free (λ e. omega (arith, e, low)) ∙ count)
        (put_same z.values (free + 1) span ∙ span_is)
        (λ r from lt. put_other z.values (free + 1) span r (λ e. omega (arith, e, lt))
        ∙ b.behind.others r (inl (omega (arith, lt)))
        ∙ put_other y.values (string i) (y.values (T i)) r (λ e. omega (arith, e, from))) has.1.1.1 in
        let sum : most + 2 + bound + 2 + 2 ≡ most + (41 + 10 * length bytes) = omega arith in
        subst (λ e. HasPutOut (o ++ bytes) (done + length bytes) (q + 1 + 1 + 1 + 1) e (string i + 1) y) sum all
