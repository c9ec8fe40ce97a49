-- What is built of lowered code is built of the program.
use Rattle.std.proofs.Common.{◌≡◌, ℕ, ◌+◌, ◌-◌, ◌^◌, ◌<◌, List, [], length, true, refl, sym, ap, ◌∙◌, subst}
use Rattle.std.proofs.Common.{arith}
use Rattle.std.specs.Prelude.{min, Vec, Result, Ok, Err, IfOk, IfErr, MatchResult}
use Rattle.std.specs.Global.{Global}
use Rattle.std.proofs.lemmas.List.{length-map}
use Rattle.sb_base.specs.Budgets.{BudgetSizes}
use Rattle.addr_map.specs.Places.{MapSizes}
use Rattle.c_tree.specs.Programs.{Program}
use Rattle.source_meaning.specs.Calls.{header_of}
use Rattle.tac_ir.specs.declared.function.Tac.{Tac}
use Rattle.tac_ir.specs.Bodies.{HaveClosedBodies, HaveNoneAdded, KeepVariables}
use Rattle.tac_ir.specs.Meaning.{header_of_code}
use Rattle.c_lower.specs.Programs.{IsLowered}
use Rattle.program_lowering.specs.ProgramCode.Weights.{IsWeighed}
use Rattle.program_lowering.specs.ProgramCode.Bodies.{HaveBodiesOf}
use Rattle.program_lowering.specs.ProgramCode.Checks.{checks_of, AwaitsChecks}
use Rattle.check_insert.specs.Counting.{checks, checks_to_insert}
use Rattle.check_insert.specs.Inserted.{Inserted}
use Rattle.check_insert.specs.SameButChecks.{SameButChecks}
use Rattle.check_insert.proofs.SameButChecks.{inserted_is_same}
use Rattle.check_elim.specs.Available.{IsDroppable}
use Rattle.check_elim.specs.Dropped.{Dropped}
use Rattle.check_elim.proofs.Rest.{same_but_checks, closed_bodies, kept_variables}
use Rattle.compiled_programs.specs.Programs.{is_integer_program}
use Rattle.flat_code.specs.declared.function.FlatProgram.{FlatProgram}
use Rattle.reg_plan.specs.declared.plan.FunctionPlan.{FunctionPlan}
use Rattle.metadata_expansion.specs.Numbers.{AreAllSmall}
use Rattle.reg_plan.specs.Planned.{ArePlannable}
use Rattle.reg_plan.specs.Tests.{AreAccepted}
use Rattle.machine_laws.specs.Following.Code.{IsEncodable}
use Rattle.rv_codegen.specs.MachineImages.Image.{IsImage}
use Rattle.image_laws.specs.Images.Images.{sizes_of, IsChecked, flat_code, IsFlat, DoesWhatIsMeant}
use Rattle.image_laws.proofs.Images.Images.{no_bytes}
use Rattle.rv_codegen.specs.declared.code.GenerateError.TheVariants as generate
use Rattle.rv_codegen.specs.Generated.{IsCause}
use Rattle.image_laws.specs.Sizes.Nodes.{program_nodes}
use Rattle.image_compiler.specs.declared.error.CompileError.{CompileError}
use Rattle.image_compiler.specs.declared.error.CompileError.TheVariants.{NumbersTooLarge, TooLarge, Memory}
use Rattle.image_compiler.specs.declared.compiler.Built.{Built}
use Rattle.image_compiler.specs.Built.{HasChecks, IsExpandable, IsImageOf, IsBuilt, IsRefused, NeedsNodes, Refuses}
use Rattle.image_compiler.specs.Built.{UnlessMemory}
use Rattle.image_compiler.proofs.Images.{accepted}

-- as many functions as the text has, with checks or without
pub lowered_count : (p : Program) (t : Tac) → IsLowered p t → length t.functions ≡ length p.functions
lowered_count p t low =
    sym (length-map t.functions header_of_code) ∙ ap length low.headers ∙ length-map p.functions header_of

pub checked_count : (t r : Tac) → SameButChecks t r → length r.functions ≡ length t.functions
checked_count t r same =
    sym (length-map r.functions header_of_code) ∙ ap length same.tables.headers ∙ length-map t.functions header_of_code

-- checks put in and dropped again leave the rest of lowered code
pub same_as_lowered : (t r : Tac) → HasChecks t r → SameButChecks t r
same_as_lowered t r h = same_but_checks IsDroppable t h.checked r (inserted_is_same t h.checked h.inserted) h.dropped

-- the map of a program without static objects
pub sizes_are : (p : Program) (budgets : BudgetSizes) (m : MapSizes) → is_integer_program p ≡ true
    → m ≡ record { budgets = budgets; global_bytes = 0 } → m ≡ sizes_of p budgets
sizes_are p budgets m ints e =
    e ∙ ap {B = MapSizes} (λ n. record { budgets = budgets; global_bytes = n }) (sym (no_bytes p ints))

pub checked_of : (p : Program) (t r : Tac) → IsLowered p t → IsWeighed p t → HaveBodiesOf p t → HasChecks t r
    → IsChecked p r
checked_of p t r low weighed bodies h = record {
  lowered = t;
  is_lowered = low;
  is_weighed = weighed;
  bodies = bodies;
  checked = h.checked;
  inserted = h.inserted;
  dropped = h.dropped;
  closed = h.closed;
  variables = h.variables;
}

pub all_checks : (p : Program) (t : Tac) → AwaitsChecks p t → checks t + checks_to_insert t ≡ checks_of p
all_checks p t awaits = omega (arith, awaits.none, awaits.to_come)

pub built_for : (p : Program) (t : Tac) (m n : MapSizes) (b : Built) → IsLowered p t → IsWeighed p t → HaveBodiesOf p t
    → AwaitsChecks p t → m ≡ n
    → IsBuilt (HasChecks t) (checks t + checks_to_insert t) m b → IsBuilt (IsChecked p) (checks_of p) n b
built_for p t m n b low weighed bodies awaits same h =
    subst (λ k. IsBuilt (IsChecked p) (checks_of p) k b) same
    (subst (λ all. IsBuilt (IsChecked p) all m b) (all_checks p t awaits) (record {
      checked = h.checked;
      is = checked_of p t h.checked low weighed bodies h.is;
      image = h.image;
      gone = h.gone;
    }))

refused_one : (p : Program) (t : Tac) (m n : MapSizes) (e : CompileError) → IsLowered p t → IsWeighed p t → HaveBodiesOf p t → m ≡ n
    → IsRefused (HasChecks t) m e → IsRefused (IsChecked p) n e
refused_one p t m n e low weighed bodies same h =
    subst (λ k. IsRefused (IsChecked p) k e) same
    (record { checked = h.checked; is = checked_of p t h.checked low weighed bodies h.is; refuses = h.refuses })

pub refused_for : (p : Program) (t : Tac) (m n : MapSizes) (e : CompileError) → IsLowered p t → IsWeighed p t → HaveBodiesOf p t → m ≡ n
    → UnlessMemory e (IsRefused (HasChecks t) m e) → UnlessMemory e (IsRefused (IsChecked p) n e)
refused_for p t m n NumbersTooLarge low weighed bodies same h = refused_one p t m n NumbersTooLarge low weighed bodies same h
refused_for p t m n (TooLarge bytes) low weighed bodies same h = refused_one p t m n (TooLarge bytes) low weighed bodies same h
refused_for p t m n Memory low weighed bodies same h = tt

-- what comes of insertion and of dropping
pub has_checks : (t checked r : Tac) → HaveNoneAdded t → HaveClosedBodies t → KeepVariables t → Inserted t checked
    → (HaveNoneAdded t → HaveClosedBodies t → HaveClosedBodies checked)
    → (HaveNoneAdded t → HaveClosedBodies t → KeepVariables t → KeepVariables checked)
    → Dropped IsDroppable checked r → HasChecks t r
has_checks t checked r none closed variables inserted closes keeps dropped = record {
  checked = checked;
  inserted = inserted;
  dropped = dropped;
  closed = closed_bodies IsDroppable checked r dropped (closes none closed);
  variables = kept_variables IsDroppable checked r dropped (keeps none closed variables);
}

-- the image of code whose available checks are dropped, with its numbers of checks
pub built_with : (t checked r : Tac) (m : MapSizes) (image : Result (Vec ℕ Global) CompileError) (n d : ℕ)
    (result : Result Built CompileError) → HasChecks t r → Inserted t checked
    → (checks checked < 2 ^ 64 → checks r + d ≡ checks checked)
    → MatchResult image (λ file. IsImageOf m r file.items) (Refuses m r)
    → IfOk result (λ b. (image ≡ Ok b.image) × (b.checks ≡ n) × (b.dropped ≡ d))
    → IfOk result (λ b. IsBuilt (HasChecks t) (checks t + checks_to_insert t) m b)
built_with t checked r m image n d (Err e) h inserted count is told = tt
built_with t checked r m image n d (Ok b) h inserted count is told = record {
  checked = r;
  is = h;
  image = subst (λ z. MatchResult z (λ file. IsImageOf m r file.items) (Refuses m r)) told.0 is;
  gone = subst (λ k. checks t + checks_to_insert t < 2 ^ 64 → checks r + k ≡ checks t + checks_to_insert t)
      (sym told.2) (subst (λ all. all < 2 ^ 64 → checks r + d ≡ all) inserted.count count);
}

-- why code with its checks put in has no image

refused_with : (t checked : Tac) (m : MapSizes) (e : CompileError) → HasChecks t checked → Refuses m checked e
    → UnlessMemory e (IsRefused (HasChecks t) m e)
refused_with t checked m NumbersTooLarge h r = record { checked = checked; is = h; refuses = r }
refused_with t checked m (TooLarge bytes) h r = record { checked = checked; is = h; refuses = r }
refused_with t checked m Memory h r = tt

pub refused_checked : {A : Type 0} (t checked : Tac) (m : MapSizes) (IsOk : A → Type 0) (image : Result A CompileError)
    (r : Result Built CompileError) → HasChecks t checked → MatchResult image IsOk (Refuses m checked)
    → ((e : CompileError) → r ≡ Err e → image ≡ Err e) → IfErr r (λ e. UnlessMemory e (IsRefused (HasChecks t) m e))
refused_checked t checked m IsOk image (Ok b) h refuses same = tt
refused_checked t checked m IsOk image (Err e) h refuses same =
    refused_with t checked m e h (subst (λ z. MatchResult z IsOk (Refuses m checked)) (same e refl) refuses)

-- the flat code of what is built
pub flat_of : (p : Program) (m : MapSizes) (b : Built) (h : IsBuilt (IsChecked p) (checks_of p) m b)
    → IsFlat p m (flat_code m h.checked)
flat_of p m b h = record {
  checked = h.checked;
  is_checked = h.is;
  small = h.image.small;
  is_flat = refl;
}

-- what is asked of code with its checks put in
pub expandable : (p : Program) (budgets : BudgetSizes) (t : Tac) (m : MapSizes) → m ≡ sizes_of p budgets → IsLowered p t
    → IsWeighed p t → HaveBodiesOf p t
    → ((r : Tac) → SameButChecks t r → AreAllSmall m r → ArePlannable (flat_code m r))
    → ((code : FlatProgram) → IsFlat p (sizes_of p budgets) code → IsEncodable code) → (r : Tac) → HasChecks t r
    → IsExpandable m r
expandable p budgets t m same low weighed bodies plannable encodable r h = record {
  plannable = plannable r (same_as_lowered t r h);
  encodable = λ small.
      subst (λ k. IsEncodable (flat_code k r)) (sym same)
      (encodable (flat_code (sizes_of p budgets) r) (record {
        checked = r;
        is_checked = checked_of p t r low weighed bodies h;
        small = subst (λ k. AreAllSmall k r) same small;
        is_flat = refl;
      }));
}

-- ---- what `built_of` answers

pub built_result : (p : Program) (t : Tac) (m n : MapSizes) (r : Result Built CompileError) → IsLowered p t
    → IsWeighed p t → HaveBodiesOf p t → AwaitsChecks p t → m ≡ n
    → IfOk r (λ b. IsBuilt (HasChecks t) (checks t + checks_to_insert t) m b)
    → IfOk r (λ b. IsBuilt (IsChecked p) (checks_of p) n b)
built_result p t m n (Ok b) low weighed bodies awaits same h = built_for p t m n b low weighed bodies awaits same h
built_result p t m n (Err e) low weighed bodies awaits same h = tt

pub refused_result : (p : Program) (t : Tac) (m n : MapSizes) (r : Result Built CompileError) → IsLowered p t
    → IsWeighed p t → HaveBodiesOf p t → m ≡ n
    → IfErr r (λ e. UnlessMemory e (IsRefused (HasChecks t) m e))
    → IfErr r (λ e. UnlessMemory e (IsRefused (IsChecked p) n e))
refused_result p t m n (Ok b) low weighed bodies same h = tt
refused_result p t m n (Err e) low weighed bodies same h = refused_for p t m n e low weighed bodies same h

pub checks_result : (p : Program) (t : Tac) (r : Result Built CompileError) → AwaitsChecks p t
    → IfOk r (λ b. b.checks ≡ min (2 ^ 64 - 1) (checks t + checks_to_insert t))
    → IfOk r (λ b. b.checks ≡ min (2 ^ 64 - 1) (checks_of p))
checks_result p t (Ok b) awaits h = h ∙ ap (min (2 ^ 64 - 1)) (all_checks p t awaits)
checks_result p t (Err e) awaits h = tt

pub does_result : (p : Program) (budgets : BudgetSizes) (r : Result Built CompileError)
    → ((code : FlatProgram) → IsFlat p (sizes_of p budgets) code → (plans : List FunctionPlan) → AreAccepted code plans
    → (file : List ℕ) → IsImage (sizes_of p budgets) code plans [] [] file → DoesWhatIsMeant p budgets file)
    → IfOk r (λ b. IsBuilt (IsChecked p) (checks_of p) (sizes_of p budgets) b)
    → IfOk r (λ b. DoesWhatIsMeant p budgets b.image.items)
does_result p budgets (Ok b) law h =
    let m = sizes_of p budgets in
    let code = flat_code m h.checked in
    let image = h.image.image in
    law code (flat_of p m b h) image.plans (accepted code image.plans image.planned) b.image.items image.image
does_result p budgets (Err e) law h = tt

-- ---- code is too large only of many nodes

large_code : (p : Program) (t : Tac) (m : MapSizes) (bytes : ℕ)
    → ((k : Tac) (plans : List FunctionPlan) → SameButChecks t k → AreAllSmall m k → AreAccepted (flat_code m k) plans
    → IsCause m (flat_code m k) plans (generate.TooLarge bytes) → 8192 < program_nodes p)
    → IsRefused (HasChecks t) m (TooLarge bytes) → 8192 < program_nodes p
large_code p t m bytes law h =
    let none = h.refuses in
    law h.checked none.cause.plans (same_as_lowered t h.checked h.is) none.small
    (accepted (flat_code m h.checked) none.cause.plans none.cause.planned) none.cause.cause

pub nodes_result : (p : Program) (t : Tac) (m : MapSizes) (r : Result Built CompileError)
    → ((k : Tac) (plans : List FunctionPlan) (bytes : ℕ) → SameButChecks t k → AreAllSmall m k
    → AreAccepted (flat_code m k) plans → IsCause m (flat_code m k) plans (generate.TooLarge bytes)
    → 8192 < program_nodes p)
    → IfErr r (λ e. UnlessMemory e (IsRefused (HasChecks t) m e)) → IfErr r (λ e. NeedsNodes e p)
nodes_result p t m (Ok b) law h = tt
nodes_result p t m (Err NumbersTooLarge) law h = tt
nodes_result p t m (Err (TooLarge bytes)) law h = large_code p t m bytes (λ k plans. law k plans bytes) h
nodes_result p t m (Err Memory) law h = tt
