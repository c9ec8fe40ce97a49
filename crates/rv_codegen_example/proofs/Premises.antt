-- The premises, by computation and arithmetic.
use Rattle.std.proofs.Common.{◌≡◌, ℕ, zero, suc, ◌+◌, ◌-◌, ◌^◌, ◌<◌, ◌≤◌, Bool, true, false, ◌&&◌, List, [], ◌∷◌}
use Rattle.std.proofs.Common.{length, inl, Some, refl, subst, arith}
use Rattle.std.specs.Prelude.{slice_get, nat_lt, nat_le, Vec}
use Rattle.std.specs.Global.{Global}
use Rattle.std.proofs.lemmas.Bool.{ltb-true, leb-true, and_parts, false≢true}
use denote.RawPtr.{null_ptr}
use Rattle.addr_map.specs.Places.{MapSizes, AreMapped, region_size, function_address}
use Rattle.behaviours.specs.Behaviour.{Follows}
use Rattle.behaviours.specs.Steps.{run}
use Rattle.flat_code.specs.declared.instruction.RightOperand.{RightOperand}
use Rattle.flat_code.specs.declared.instruction.RightOperand.TheVariants as right
use Rattle.flat_code.specs.declared.instruction.FlatInstruction.{FlatInstruction}
use Rattle.flat_code.specs.declared.instruction.FlatInstruction.TheVariants as flat
use Rattle.flat_code.specs.declared.function.FlatFunction.{FlatFunction}
use Rattle.flat_code.specs.declared.function.FlatProgram.{FlatProgram}
use Rattle.flat_code.specs.Memory.{Bytes, AreBytes}
use Rattle.flat_code.specs.State.{Stuck}
use Rattle.flat_code.specs.Calls.{function_in}
use Rattle.flat_code.specs.Meaning.{instruction_at, step, started, flat_meaning}
use Rattle.reg_plan.specs.declared.plan.LiveInterval.{LiveInterval}
use Rattle.reg_plan.specs.declared.plan.Place.{Place}
use Rattle.reg_plan.specs.declared.plan.Place.TheVariants.{Home, Register}
use Rattle.reg_plan.specs.declared.plan.FunctionPlan.{FunctionPlan}
use Rattle.reg_plan.specs.Accepted.{IsAccepted}
use Rattle.reg_plan.specs.Tests.{AreAccepted}
use Rattle.rv_asm.specs.Forms.{forms_of, longest_size, IsAssemblable}
use Rattle.rv_asm.specs.Words.{words_of}
use Rattle.machine_laws.specs.Blocks.Tails.{tails}
use Rattle.machine_laws.specs.Calls.Table.{program_end, start_address, row_address}
use Rattle.machine_laws.specs.Blocks.Immediates.{immediate}
use Rattle.machine_laws.specs.Blocks.Blocks.{RightIsShort, digits, constant, load_at, store_at}
use Rattle.machine_laws.specs.Blocks.Places.{home, location}
use Rattle.machine_laws.specs.Calls.Calls.{give, take, save, restore, advance, retreat}
use Rattle.machine_laws.specs.Following.Code.{keeping, block, IsEncodable}
use Rattle.machine_laws.specs.Following.Matching.{object_bytes, space_bytes}
use Rattle.machine_laws.specs.Following.Start.{IsStartable, begins}
use Rattle.machine_laws.specs.Layout.Lists.{items_of, bytes_of}
use Rattle.elf_image.specs.Layout.{content_of}
use Rattle.elf_image.specs.Writing.{image_bytes}
use Rattle.rv_sim.specs.Behaviour.{behaviour}
use Rattle.rv_sim.specs.Start.{start_of}
use Rattle.rv_codegen.specs.MachineImages.Image.{written, filled, IsImage, ImageFollows}
use Rattle.machine_laws.specs.View.Segments.{Hold}
use Rattle.machine_laws.specs.Segments.Segments.{words_below, rows_below, code_words, table_words}
use Rattle.machine_laws.specs.Segments.Segments.{code_bytes, table_bytes, FitsSegments}
use Rattle.machine_laws.proofs.Segments.Labels.{labels_meet}
use Rattle.rv_codegen_example.specs.Program.{sizes, doublings, main, next, same, program, MeetsPremises, HasNearForms}
use Rattle.rv_codegen_example.proofs.Tested.{all_below}
use Rattle.rv_codegen_example.proofs.Tested as tested
use Rattle.rv_codegen_example.proofs.Course.{never_stuck}

-- a vector that holds a list
abbrev vec_of : {A : Type 0} → Global → (items : List A) → length items < 2 ^ 63 → Vec A Global
vec_of a items h = record {
  ptr = null_ptr;
  len = length items;
  cap = length items;
  alloc = a;
  items = items;
  ok = (refl, omega arith);
  small = h;
}

abbrev span : ℕ → ℕ → LiveInterval
span a b = record { start = a; end = b }

abbrev both_registers : Global → Vec Place Global
both_registers a = vec_of a (Register 0 ∷ Register 1 ∷ []) (omega arith)

abbrev two_ranges : Global → (first second : LiveInterval) → Vec (Vec LiveInterval Global) Global
two_ranges a x y =
    vec_of a (vec_of a (x ∷ []) (omega arith) ∷ vec_of a (y ∷ []) (omega arith) ∷ []) (omega arith)

abbrev register_and_home : Global → Vec Place Global
register_and_home a = vec_of a (Register 0 ∷ Home ∷ []) (omega arith)

abbrev main_plan : Global → FunctionPlan
main_plan a = record { places = both_registers a; live = two_ranges a (span 4 11) (span 5 12) }

abbrev next_plan : Global → FunctionPlan
next_plan a = record {
  places = register_and_home a;
  live = two_ranges a (span 0 (doublings + 7)) (span 1 (doublings + 7));
}

abbrev same_plan : Global → FunctionPlan
same_plan a = record { places = both_registers a; live = two_ranges a (span 0 1) (span 1 2) }

mapped : AreMapped sizes
mapped = record {
  budgets = record {
    heap = record { least = omega arith; greatest = omega arith; whole = refl };
    stack = record { least = omega arith; greatest = omega arith; whole = refl };
    calls = record { least = omega arith; greatest = omega arith; whole = refl };
    some_block = omega arith;
    blocks = omega arith;
    keys = omega arith;
  };
  globals = omega arith;
}

-- ---- instructions fit

is_short : RightOperand → Bool
is_short (right.Register z) = true
is_short (right.Number n) = nat_lt n (2 ^ 31 - 2 ^ 11)

short_right : (z : RightOperand) → is_short z ≡ true → RightIsShort z
unfolding is_short
short_right (right.Register z) e = tt
short_right (right.Number n) e = inl (ltb-true n (2 ^ 31 - 2 ^ 11) e)

fits_field : FlatInstruction → Bool
fits_field (flat.Constant x n) = nat_lt n (2 ^ 31 - 2 ^ 11)
fits_field (flat.Operate op x y z) = is_short z
fits_field (flat.Operate32 op x y z) = is_short z
fits_field (flat.Branch op y z past) = is_short z
fits_field (flat.Load op x y offset) = nat_lt offset (2 ^ 11)
fits_field (flat.Store op y offset x) = nat_lt offset (2 ^ 11)
fits_field (flat.End e) = false
fits_field i = true

fit_fields : List FlatInstruction → Bool
fit_fields [] = true
fit_fields (i ∷ is) = fits_field i && fit_fields is

one_fits : (is : List FlatInstruction) (k : ℕ) (i : FlatInstruction) → fit_fields is ≡ true
    → slice_get is k ≡ Some i → fits_field i ≡ true
unfolding fit_fields
one_fits [] k i h e = cc
one_fits (x ∷ xs) zero i h e = let same : x ≡ i = cc in
    subst (λ z. fits_field z ≡ true) same (and_parts (fits_field x) (fit_fields xs) h).0
one_fits (x ∷ xs) (suc k) i h e = one_fits xs k i (and_parts (fits_field x) (fit_fields xs) h).1 e

each_fits : (f pc : ℕ) (i : FlatInstruction) → instruction_at program f pc ≡ Some i → fits_field i ≡ true
unfolding fit_fields fits_field is_short
each_fits zero pc i e = one_fits main.body pc i refl e
each_fits (suc zero) pc i e = one_fits next.body pc i refl e
each_fits (suc (suc zero)) pc i e = one_fits same.body pc i refl e
each_fits (suc (suc (suc f))) pc i e = cc

function_is : (P : FlatFunction → Type 0) → P main → P next → P same → (f : ℕ) (g : FlatFunction)
    → function_in program f ≡ Some g → P g
function_is P a b c zero g e = let it : main ≡ g = cc in subst P it a
function_is P a b c (suc zero) g e = let it : next ≡ g = cc in subst P it b
function_is P a b c (suc (suc zero)) g e = let it : same ≡ g = cc in subst P it c
function_is P a b c (suc (suc (suc f))) g e = cc

encodable : IsEncodable program
unfolding fits_field
encodable = record {
  load_offset = λ f pc op x y offset e. ltb-true offset (2 ^ 11) (each_fits f pc (flat.Load op x y offset) e);
  store_offset = λ f pc op y offset x e. ltb-true offset (2 ^ 11) (each_fits f pc (flat.Store op y offset x) e);
  constant = λ f pc x n e. inl (ltb-true n (2 ^ 31 - 2 ^ 11) (each_fits f pc (flat.Constant x n) e));
  operate = λ f pc op x y z e. short_right z (each_fits f pc (flat.Operate op x y z) e);
  operate32 = λ f pc op x y z e. short_right z (each_fits f pc (flat.Operate32 op x y z) e);
  branch = λ f pc op y z past e. short_right z (each_fits f pc (flat.Branch op y z past) e);
  line = λ f pc e at. absurd (false≢true (each_fits f pc (flat.End e) at));
  status = λ f pc e at. absurd (false≢true (each_fits f pc (flat.End e) at));
  rooms = function_is (λ g. 8 ≤ g.room) (omega arith) (omega arith) (omega arith);
  parameters = function_is (λ g. g.parameters ≤ 1024) (omega arith) (omega arith) (omega arith);
  results = function_is (λ g. g.results ≤ 1024) (omega arith) (omega arith) (omega arith);
}

begins_with_turns : (k : ℕ) → k < 3 → instruction_at program 0 k ≡ Some flat.Turn
begins_with_turns zero lt = refl
begins_with_turns (suc zero) lt = refl
begins_with_turns (suc (suc zero)) lt = refl
begins_with_turns (suc (suc (suc k))) lt = absurd (omega arith)

startable : IsStartable sizes program
unfolding region_size
startable = record {
  function = main;
  there = refl;
  takes_nothing = refl;
  turns = begins_with_turns;
  program_fits = omega arith;
  runtime_fits = omega arith;
}

-- ---- what depends on the plans, whose vectors may lie anywhere

module _ (a : Global) where
  plans : List FunctionPlan
  plans = main_plan a ∷ next_plan a ∷ same_plan a ∷ []

  main_accepted : tested.accepts program 0 main (main_plan a) ≡ true
  unfolding all_below
  main_accepted = refl

  next_accepted : tested.accepts program 1 next (next_plan a) ≡ true
  unfolding all_below
  next_accepted = refl

  same_accepted : tested.accepts program 2 same (same_plan a) ≡ true
  unfolding all_below
  same_accepted = refl

  accepted : AreAccepted program plans
  unfolding plans
  accepted = record { size = refl; each = each }
    where
      each : (k : ℕ) (f : FlatFunction) (plan : FunctionPlan) → slice_get program.functions k ≡ Some f
          → slice_get plans k ≡ Some plan → IsAccepted program k f plan
      each zero f plan h g =
          let e : main ≡ f = cc in
          let b : main_plan a ≡ plan = cc in
          subst (λ x. IsAccepted program 0 x plan) e
          (subst (IsAccepted program 0 main) b (tested.accepted program 0 main (main_plan a) main_accepted))
      each (suc zero) f plan h g =
          let e : next ≡ f = cc in
          let b : next_plan a ≡ plan = cc in
          subst (λ x. IsAccepted program 1 x plan) e
          (subst (IsAccepted program 1 next) b (tested.accepted program 1 next (next_plan a) next_accepted))
      each (suc (suc zero)) f plan h g =
          let e : same ≡ f = cc in
          let b : same_plan a ≡ plan = cc in
          subst (λ x. IsAccepted program 2 x plan) e
          (subst (IsAccepted program 2 same) b (tested.accepted program 2 same (same_plan a) same_accepted))
      each (suc (suc (suc k))) f plan h g = cc

  -- ---- the code fits

  main_long : nat_lt (longest_size (items_of sizes program plans 0)) (2 ^ 28) ≡ true
  unfolding plans keeping block location home give take save restore advance retreat digits constant immediate load_at store_at
      row_address program_end function_address
  main_long = refl

  next_long : nat_lt (longest_size (items_of sizes program plans 1)) (2 ^ 28) ≡ true
  unfolding plans keeping block location home give take save restore advance retreat digits constant immediate load_at store_at
      row_address program_end function_address
  next_long = refl

  same_long : nat_lt (longest_size (items_of sizes program plans 2)) (2 ^ 28) ≡ true
  unfolding plans keeping block location home give take save restore advance retreat digits constant immediate load_at store_at
  same_long = refl

  code_long : nat_le (code_bytes sizes program plans) 0x800000 ≡ true
  unfolding plans keeping block location home give take save restore advance retreat digits constant immediate load_at store_at words_of
      forms_of words_below row_address program_end function_address
  code_long = refl

  table_long : nat_le (0x10000 + table_bytes sizes program plans) 0x100000 ≡ true
  unfolding plans keeping block location home give take save restore advance retreat digits constant immediate load_at store_at words_of
      forms_of words_below rows_below row_address program_end function_address tails
  table_long = refl

  fits : FitsSegments sizes program plans
  fits = record {
    assemblable = able;
    code = leb-true (code_bytes sizes program plans) 0x800000 code_long;
    table = leb-true (0x10000 + table_bytes sizes program plans) 0x100000 table_long;
  }
    where
      able : (f : ℕ) → f < length program.functions → IsAssemblable (items_of sizes program plans f)
      able zero lt = labels_meet sizes program plans 0
          (ltb-true (longest_size (items_of sizes program plans 0)) (2 ^ 28) main_long)
      able (suc zero) lt = labels_meet sizes program plans 1
          (ltb-true (longest_size (items_of sizes program plans 1)) (2 ^ 28) next_long)
      able (suc (suc zero)) lt = labels_meet sizes program plans 2
          (ltb-true (longest_size (items_of sizes program plans 2)) (2 ^ 28) same_long)
      able (suc (suc (suc f))) lt = absurd (omega arith)

  -- ---- the forms of the longer branch and jump

  near_forms : HasNearForms plans
  unfolding plans keeping block location home give take save restore advance retreat digits constant immediate load_at store_at forms_of
      row_address program_end function_address
  near_forms = record {
    branch = record { item = _; stands = refl; goes = refl; is = refl };
    jump = record { item = _; stands = refl; goes = refl; is = refl };
  }

  premises : MeetsPremises plans
  premises = record {
    mapped = mapped;
    accepted = accepted;
    encodable = encodable;
    startable = startable;
    fits = fits;
    never_stuck = never_stuck;
  }

-- the law of the segments, as `generated_code_follows` tells it
abbrev Law : Type 0
Law = (m : MapSizes) (p : FlatProgram) (plans : List FunctionPlan) (objects spaces : List ℕ) (memory : Bytes)
    (input : List ℕ) → AreMapped m → AreAccepted p plans → IsEncodable p → IsStartable m p → FitsSegments m p plans
    → Hold (object_bytes m) (space_bytes m) memory objects spaces → AreBytes memory
    → ((k : ℕ) → run (step m p) k (started p memory input) ≡ Stuck → ⊥)
    → Follows 6 (flat_meaning m p memory input)
    (behaviour (begins (start_address p) (bytes_of (table_words m p plans)) (bytes_of (code_words m p plans)) objects
    spaces) input)

pub met : Law → (a : Global)
    → (plans : List FunctionPlan) × MeetsPremises plans × HasNearForms plans
    × ((objects spaces : List ℕ) (memory : Bytes) (input : List ℕ)
    → Hold (object_bytes sizes) (space_bytes sizes) memory objects spaces → AreBytes memory
    → Follows 6 (flat_meaning sizes program memory input)
    (behaviour (begins (start_address program) (bytes_of (table_words sizes program plans))
    (bytes_of (code_words sizes program plans)) objects spaces) input))
met law a = (
  plans a,
  premises a,
  near_forms a,
  λ objects spaces memory input hold bytes. law sizes program (plans a) objects spaces memory input mapped
      (accepted a) encodable startable (fits a) hold bytes (never_stuck memory input),
)

-- the laws of images, as `programs_have_images` and `images_follow` tell them
abbrev HasImage : Type 0
HasImage = (m : MapSizes) (p : FlatProgram) (plans : List FunctionPlan) (objects spaces : List ℕ) → AreMapped m
    → FitsSegments m p plans → length objects ≤ object_bytes m → length spaces ≤ space_bytes m
    → IsImage m p plans objects spaces (image_bytes (written m p plans objects spaces))

abbrev HasFollowing : Type 0
HasFollowing = (m : MapSizes) (p : FlatProgram) (plans : List FunctionPlan) (objects spaces file : List ℕ) → AreMapped m
    → IsImage m p plans objects spaces file → ImageFollows m p plans objects spaces file

pub image_met : HasImage → HasFollowing → (a : Global)
    → (plans : List FunctionPlan) × (file : List ℕ) × IsImage sizes program plans [] [] file
    × ((memory : Bytes) (input : List ℕ)
    → Hold (object_bytes sizes) (space_bytes sizes) memory (filled (object_bytes sizes) [])
    (filled (space_bytes sizes) []) → AreBytes memory
    → Follows 6 (flat_meaning sizes program memory input) (behaviour (start_of (content_of file)) input))
image_met has law a =
    let file = image_bytes (written sizes program (plans a) [] []) in
    let image = has sizes program (plans a) [] [] mapped (fits a) (omega arith) (omega arith) in (
      plans a,
      file,
      image,
      λ memory input hold bytes. (law sizes program (plans a) [] [] file mapped image).follows memory input (accepted a)
          encodable startable hold bytes (never_stuck memory input),
    )
