-- What is built of lowered code by its expansion is built of the program.
use Rattle.std.proofs.Common.{◌≡◌, ℕ, ◌+◌, ◌-◌, ◌^◌, ◌≤◌, List, length, sym, ap, ◌∙◌, subst}
use Rattle.std.specs.Prelude.{min, Result, Ok, Err, IfOk}
use Rattle.sb_base.specs.Budgets.{BudgetSizes}
use Rattle.addr_map.specs.declared.region.Region.TheVariants.{Globals}
use Rattle.addr_map.specs.Places.{MapSizes, objects_begin, region_end, region_start}
use Rattle.obj_memory.specs.Sound.{IsSound}
use Rattle.c_tree.specs.Programs.{Program}
use Rattle.source_meaning.specs.Meaning.{initial_objects, setting_of}
use Rattle.tac_ir.specs.declared.function.StaticData.{StaticData}
use Rattle.tac_ir.specs.declared.function.Tac.{Tac}
use Rattle.tac_ir.specs.Meaning.{placed_data}
use Rattle.c_lower.specs.Programs.{IsLowered}
use Rattle.program_lowering.specs.ProgramCode.Weights.{IsWeighed}
use Rattle.program_lowering.specs.ProgramCode.Bodies.{HaveBodiesOf}
use Rattle.program_lowering.specs.ProgramCode.Checks.{checks_of, AwaitsChecks}
use Rattle.check_insert.specs.Counting.{checks, checks_to_insert}
use Rattle.flat_code.specs.Memory.{Bytes}
use Rattle.flat_code.specs.Routines.Metadata.{View}
use Rattle.shadow_space.specs.Form.{EntryCode}
use Rattle.metadata_relation.specs.StartData.{statics_end}
use Rattle.image_laws.specs.Images.Images.{sizes_of, IsChecked, DoesWhatIsMeant}
use Rattle.image_laws.specs.Images.Expansions.{IsExpandedImage}
use Rattle.image_compiler.specs.declared.compiler.Built.{Built}
use Rattle.image_compiler.specs.declared.expansion.ExpansionError.{ExpansionError}
use Rattle.image_compiler.specs.Built.{HasChecks}
use Rattle.image_compiler.specs.Expanded.{HasSoundStatics, IsBuiltByExpansion}
use Rattle.image_compiler.proofs.Compiled.{lowered_count, checked_count, same_as_lowered, checked_of, all_checks}

-- the map of a program
pub map_is : (p : Program) (budgets : BudgetSizes) (t : Tac) (m : MapSizes) → IsLowered p t
    → m ≡ record { budgets = budgets; global_bytes = t.global_bytes } → m ≡ sizes_of p budgets
map_is p budgets t m low e = e ∙ ap {B = MapSizes} (λ n. record { budgets = budgets; global_bytes = n }) low.bytes

module _ (p : Program) (budgets : BudgetSizes) (t : Tac) (low : IsLowered p t) where
  placed : (r : Tac) → HasChecks t r
      → placed_data objects_begin r.statics 0 ≡ initial_objects p (setting_of p budgets)
  unfolding region_start
  placed r h =
      ap (λ ds. placed_data objects_begin ds 0) (same_as_lowered t r h).tables.statics ∙ low.statics budgets

  -- its static objects are sound and lie in their region, whatever checks are put in and dropped
  pub sound_statics : (m : MapSizes) → m ≡ sizes_of p budgets
      → ((ds : List StaticData) → placed_data objects_begin ds 0 ≡ initial_objects p (setting_of p budgets)
      → IsSound (length p.functions) (placed_data objects_begin ds 0))
      → ((ds : List StaticData) → placed_data objects_begin ds 0 ≡ initial_objects p (setting_of p budgets)
      → objects_begin + statics_end ds 0 ≤ region_end (sizes_of p budgets) Globals) → (r : Tac) → HasChecks t r
      → HasSoundStatics m r
  sound_statics m same sound fit r h = record {
    sound = subst (λ n. IsSound n (placed_data objects_begin r.statics 0))
        (sym (checked_count t r (same_as_lowered t r h) ∙ lowered_count p t low)) (sound r.statics (placed r h));
    fit = subst (λ k. objects_begin + statics_end r.statics 0 ≤ region_end k Globals) (sym same)
        (fit r.statics (placed r h));
  }

module _ (read write : EntryCode) (entry : View) (Good : MapSizes → Bytes → Type 0) (p : Program) (t : Tac)
    (m n : MapSizes) (low : IsLowered p t) (weighed : IsWeighed p t) (bodies : HaveBodiesOf p t)
    (awaits : AwaitsChecks p t) (same : m ≡ n) where
  one : (b : Built)
      → IsBuiltByExpansion read write entry (Good m) (HasChecks t) (checks t + checks_to_insert t) m b
      → IsBuiltByExpansion read write entry (Good n) (IsChecked p) (checks_of p) n b
  one b h =
      subst (λ k. IsBuiltByExpansion read write entry (Good k) (IsChecked p) (checks_of p) k b) same
      (subst (λ all. IsBuiltByExpansion read write entry (Good m) (IsChecked p) all m b) (all_checks p t awaits)
      (record {
        checked = h.checked;
        is = checked_of p t h.checked low weighed bodies h.is;
        image = h.image;
        gone = h.gone;
      }))

  pub built_program : (r : Result Built ExpansionError)
      → IfOk r (λ b. IsBuiltByExpansion read write entry (Good m) (HasChecks t) (checks t + checks_to_insert t) m b)
      → IfOk r (λ b. IsBuiltByExpansion read write entry (Good n) (IsChecked p) (checks_of p) n b)
  built_program (Ok b) h = one b h
  built_program (Err e) h = tt

pub checks_program : (p : Program) (t : Tac) (r : Result Built ExpansionError) → AwaitsChecks p t
    → IfOk r (λ b. b.checks ≡ min (2 ^ 64 - 1) (checks t + checks_to_insert t))
    → IfOk r (λ b. b.checks ≡ min (2 ^ 64 - 1) (checks_of p))
checks_program p t (Ok b) awaits h = h ∙ ap (min (2 ^ 64 - 1)) (all_checks p t awaits)
checks_program p t (Err e) awaits h = tt

pub does_program : (read write : EntryCode) (entry : View) (IsGood : Bytes → Type 0) (p : Program)
    (budgets : BudgetSizes) (r : Result Built ExpansionError)
    → ((code : Tac) → IsChecked p code → (file : List ℕ)
    → IsExpandedImage read write entry IsGood (sizes_of p budgets) code file → DoesWhatIsMeant p budgets file)
    → IfOk r (λ b. IsBuiltByExpansion read write entry IsGood (IsChecked p) (checks_of p) (sizes_of p budgets) b)
    → IfOk r (λ b. DoesWhatIsMeant p budgets b.image.items)
does_program read write entry IsGood p budgets (Ok b) law h = law h.checked h.is b.image.items h.image
does_program read write entry IsGood p budgets (Err e) law h = tt
