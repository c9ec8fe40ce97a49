-- What is built of an accepted source, or why nothing is.
use Rattle.std.proofs.Common.{◌≡◌, ℕ, ◌-◌, ◌^◌, true, false, List, Ok, inl, inr}
use Rattle.std.specs.Prelude.{min}
use Rattle.sb_base.specs.Budgets.{BudgetSizes}
use Rattle.c_tree.specs.Programs.{Program}
use Rattle.compiled_programs.specs.Programs.{is_integer_program}
use Rattle.program_lowering.specs.ProgramCode.Checks.{checks_of}
use Rattle.image_laws.specs.Images.Images.{sizes_of, IsChecked, DoesWhatIsMeant}
use Rattle.shadow_space.specs.TwoLevel.Tables.{two_level_entry, AreTablesGood}
use Rattle.shadow_space.specs.TwoLevel.Code.{two_level_read_behind, two_level_write_behind}
use Rattle.image_compiler.specs.declared.compiler.Built.{Built}
use Rattle.image_compiler.specs.declared.error.CompileError.{CompileError}
use Rattle.image_compiler.specs.declared.error.CompileError.TheVariants as compile
use Rattle.image_compiler.specs.Built.{IsBuilt, IsRefused, NeedsNodes, UnlessMemory as UnlessWanting}
use Rattle.image_compiler.specs.Expanded.{IsBuiltByExpansion}
use Rattle.sbcets_core.specs.declared.refusal.SourceRefusal.{SourceRefusal}
use Rattle.sbcets_core.specs.declared.refusal.SourceRefusal.TheVariants.{Uncompiled}
use Rattle.sbcets_core.specs.Accepted.{EndsOn, IsBuiltFrom, IsOfSize, Judges, Refuses, UnlessMemory}
use Rattle.sbcets_core.proofs.Judging.{unless_memory}

-- of a program of integers alone

pub integers_built : (source : List ℕ) (p : Program) (budgets : BudgetSizes) (built : Built)
    → is_integer_program p ≡ true → IsBuilt (IsChecked p) (checks_of p) (sizes_of p budgets) built
    → built.checks ≡ min (2 ^ 64 - 1) (checks_of p) → DoesWhatIsMeant p budgets built.image.items
    → Judges source (Ok p) → IsBuiltFrom source budgets built
integers_built source p budgets built integers is checks does accepts = record {
  program = p;
  accepts = accepts;
  means = does;
  is_built = inl (record { integers = integers; is_built = is });
  checks_are = checks;
}

of_size : (source : List ℕ) (p : Program) (budgets : BudgetSizes) (error : CompileError) (refusal : SourceRefusal)
    → is_integer_program p ≡ true → IsRefused (IsChecked p) (sizes_of p budgets) error → NeedsNodes error p
    → Judges source (Ok p) → IsOfSize error refusal → Refuses source budgets refusal
of_size source p budgets error refusal integers refused nodes accepts is = inr (inl (record {
  program = p;
  accepts = accepts;
  integers = integers;
  error = error;
  is = is;
  refused = refused;
  nodes = nodes;
}))

pub integers_refused : (source : List ℕ) (p : Program) (budgets : BudgetSizes) (error : CompileError)
    (refusal : SourceRefusal) → is_integer_program p ≡ true
    → UnlessWanting error (IsRefused (IsChecked p) (sizes_of p budgets) error) → NeedsNodes error p
    → Judges source (Ok p) → UnlessMemory refusal (IsOfSize error refusal)
    → UnlessMemory refusal (Refuses source budgets refusal)
integers_refused source p budgets compile.NumbersTooLarge refusal integers refused nodes accepts is =
    unless_memory refusal _ _ (of_size source p budgets compile.NumbersTooLarge refusal integers refused nodes accepts) is
integers_refused source p budgets (compile.TooLarge bytes) refusal integers refused nodes accepts is =
    unless_memory refusal _ _ (of_size source p budgets (compile.TooLarge bytes) refusal integers refused nodes accepts) is
integers_refused source p budgets compile.Memory refusal integers refused nodes accepts is =
    unless_memory refusal ⊥ _ (λ none. absurd none) is

pub ruleset of_integers = (integers_built, integers_refused)

-- of any other

pub objects_built : (source : List ℕ) (p : Program) (budgets : BudgetSizes) (built : Built)
    → is_integer_program p ≡ false
    → IsBuiltByExpansion two_level_read_behind two_level_write_behind two_level_entry
    (AreTablesGood (sizes_of p budgets)) (IsChecked p) (checks_of p) (sizes_of p budgets) built
    → built.checks ≡ min (2 ^ 64 - 1) (checks_of p) → DoesWhatIsMeant p budgets built.image.items
    → Judges source (Ok p) → IsBuiltFrom source budgets built
objects_built source p budgets built others is checks does accepts = record {
  program = p;
  accepts = accepts;
  means = does;
  is_built = inr (record { others = others; is_built = is });
  checks_are = checks;
}

uncompiled : (source : List ℕ) (p : Program) (budgets : BudgetSizes) (refusal : SourceRefusal) (line : ℕ)
    → is_integer_program p ≡ false → Judges source (Ok p) → EndsOn source line → refusal ≡ Uncompiled line
    → Refuses source budgets refusal
uncompiled source p budgets refusal line others accepts ends is = inr (inr (record {
  program = p;
  accepts = accepts;
  others = others;
  line = line;
  ends = ends;
  is = is;
}))

pub objects_refused : (source : List ℕ) (p : Program) (budgets : BudgetSizes) (refusal : SourceRefusal) (line : ℕ)
    → is_integer_program p ≡ false → Judges source (Ok p) → EndsOn source line
    → UnlessMemory refusal (refusal ≡ Uncompiled line) → UnlessMemory refusal (Refuses source budgets refusal)
objects_refused source p budgets refusal line others accepts ends is =
    unless_memory refusal _ _ (uncompiled source p budgets refusal line others accepts ends) is

pub ruleset with_objects = (objects_built, objects_refused)
