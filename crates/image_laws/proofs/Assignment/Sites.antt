-- A node of a function: what is assigned there, and which registers may be named.
use Rattle.std.proofs.Common.{◌≡◌, inl, ℕ, zero, suc, ◌+◌, ◌*◌, ◌<◌, ◌≤◌, refl, ap}
use Rattle.std.proofs.Common.{arith, Bool, true, false, List, [], ◌∷◌, length, Some}
use Rattle.std.specs.Prelude.{slice_get, map, ◌==◌}
use Rattle.std.proofs.lemmas.Bool.{eq-eqb}
use Rattle.std.proofs.lemmas.Bool.{false≢true}
use Rattle.sb_base.specs.declared.ending.Ending.{Ending}
use Rattle.obj_memory.specs.declared.value.Scalar.{Scalar}
use Rattle.c_tree.specs.declared.program.Variable.{Variable}
use Rattle.c_tree.specs.Kinds.{routine_signature}
use Rattle.source_meaning.specs.Good.{plain_type}
use Rattle.tac_ir.specs.declared.instruction.Instruction.{Instruction}
use Rattle.tac_ir.specs.declared.function.CodeFunction.{CodeFunction}
use Rattle.tac_ir.specs.Edges.{LeadsTo}
use Rattle.tac_ir.specs.Meaning.{function_in}
use Rattle.flat_code.specs.declared.instruction.FlatInstruction.{FlatInstruction}
use Rattle.flat_code.specs.declared.instruction.FlatInstruction.TheVariants.{End}
use Rattle.flat_code.specs.declared.function.FlatProgram.{FlatProgram}
use Rattle.flat_code.specs.Routines.Metadata.{entry_registers}
use Rattle.shadow_space.specs.Form.{EntryCode}
use Rattle.runtime_functions.specs.declared.library.LibraryFunction.{LibraryFunction}
use Rattle.runtime_functions.specs.declared.library.LibraryFunction.TheVariants as library
use Rattle.runtime_functions.specs.declared.runtime.RuntimeFunction.TheVariants.{Library}
use Rattle.runtime_functions.specs.Library.{signature}
use Rattle.runtime_functions.specs.Library.{routine_of}
use Rattle.runtime_functions.specs.Runtime.{runtime_list}
use Rattle.metadata_plan.specs.Entries.{AreClosed, given, entry_source, reads_entry}
use Rattle.metadata_plan.specs.Registers.{all_variables, most_temporaries}
use Rattle.metadata_relation.specs.Homes.{register_count}
use Rattle.metadata_relation.specs.Registers.{temporary_register, variable_register, first_free, moved_register}
use Rattle.metadata_relation.specs.Registers.{home_entry, top_register, first_object, home_words, variable_words}
use Rattle.metadata_relation.specs.Registers.{parameter_words, register_in, before, total, passed_as}
use Rattle.metadata_relation.specs.Blocks.{Expansion}
use Rattle.metadata_relation.specs.Blocks.{library_place, statuses_of}
use Rattle.c_lower.specs.Liveness.Liveness.{reads}
use Rattle.image_laws.specs.Plans.Assignment.{Registers}
use Rattle.image_laws.specs.Plans.EntryLists.{AssignEntries}
use Rattle.image_laws.specs.Plans.Instructions.{value_of}
use Rattle.image_laws.specs.Plans.Instructions.{plain_count}
use Rattle.image_laws.specs.Plans.Instructions.{HasCallees}
use Rattle.image_laws.proofs.Assignment.Straight.{AllFrom, AreIn, ends_run}
use Rattle.image_laws.proofs.Assignment.Values.{Block}
use Rattle.image_laws.proofs.Assignment.Accesses.{AreOwn}
use Rattle.image_laws.proofs.Assignment.Calls.{AreEndings}

-- ---- lists of kinds

pub kinds_passed : (vs : List Variable) → map passed_as (map (λ v. v.kind) vs) ≡ map (λ v. passed_as v.kind) vs
kinds_passed [] = refl
kinds_passed (v ∷ vs) = ap (λ ps. passed_as v.kind ∷ ps) (kinds_passed vs)

pub kinds_length : (vs : List Variable) → length (map (λ v. v.kind) vs) ≡ length vs
kinds_length [] = refl
kinds_length (v ∷ vs) = let same = kinds_length vs in omega (arith, same)

pub passed_length : (vs : List Variable) → length (map (λ v. passed_as v.kind) vs) ≡ length vs
passed_length [] = refl
passed_length (v ∷ vs) = let same = passed_length vs in omega (arith, same)

-- ---- functions of the runtime

pub library_at : (f : LibraryFunction) → slice_get runtime_list (library_place f) ≡ Some (Library f)
library_at library.Malloc = refl
library_at _ = refl

pub statuses_end : (f : LibraryFunction) → AreEndings (statuses_of f)
statuses_end library.Malloc = tt
statuses_end _ = tt

pub kinds_taken : (f : LibraryFunction) → map passed_as (routine_signature (routine_of f)).parameters ≡ (signature f).takes
kinds_taken library.Malloc = refl
kinds_taken _ = refl

-- ---- homes

pub home_most : (vs : List Variable) (x : ℕ) → before home_words x vs ≤ total home_words vs
home_most [] x = omega arith
home_most (v ∷ vs) zero = omega arith
home_most (v ∷ vs) (suc x) = let le = home_most vs x in omega (arith, le)

pub register_most : (ps vs : List Variable) (x : ℕ)
    → register_in ps vs x ≤ total parameter_words ps + 1 + total variable_words vs
register_most [] vs x = let le = before_most vs x in omega (arith, le)
  where
    before_most : (vs : List Variable) (x : ℕ) → before variable_words x vs ≤ total variable_words vs
    before_most [] x = omega arith
    before_most (v ∷ vs) zero = omega arith
    before_most (v ∷ vs) (suc x) = let le = before_most vs x in omega (arith, le)
register_most (p ∷ ps) vs zero = omega arith
register_most (p ∷ ps) vs (suc x) = let le = register_most ps vs x in omega (arith, le)

-- A node of a function, and what is assigned there.
pub record Site : Type 1 where
  pub p : FlatProgram
  pub u : ℕ
  pub whole : Expansion
  pub read : EntryCode
  pub write : EntryCode
  pub entries : AssignEntries read write
  pub callees : HasCallees p whole.code
  pub c : CodeFunction
  pub n : ℕ
  pub here : function_in whole.code u ≡ Some c
  pub closed : AreClosed whole.code c (whole.entries u)
  pub G : Registers
  pub low : (y : ℕ) → G y → y < register_count c
  pub variables : (x j : ℕ) (k : Scalar) → plain_type (all_variables c) x ≡ Some k → j < plain_count k
      → G (variable_register c x + j)

module _ (site : Site) where
  open site use {p, u, whole, read, write, entries, callees, c, n, here, closed, G, low, variables}

  -- the registers that may be named, and a block there
  abbrev pub P : Registers
  P y = y < register_count c

  abbrev pub B : List FlatInstruction → List ℕ → Type 1
  B is M = Block p u P G is 0 M

  -- what is assigned of a temporary
  abbrev pub Has : Instruction → Type 0
  Has i =
      (a : ℕ) → reads i a ≡ true → (b : Bool) → (b ≡ true → whole.entries u n a ≡ true)
      → AreIn (value_of b (temporary_register c a)) G

  pub temporary_named : (d : ℕ) (b : Bool) → d < most_temporaries c.code → AreIn (value_of b (temporary_register c d)) P
  temporary_named d false lt = (omega (arith, lt), tt)
  temporary_named d true lt =
      (omega (arith, lt), (omega (arith, lt), (omega (arith, lt), (omega (arith, lt), (omega (arith, lt), tt)))))

  pub own : AreOwn P (first_free c) 16
  own y le lt = omega (arith, lt)

  pub home_named : (x : ℕ) → AreIn (entry_registers (home_entry c x)) P
  home_named x =
      let le = home_most (all_variables c) x in
      (omega (arith, le), (omega (arith, le), (omega (arith, le), (omega (arith, le), tt))))

  pub top_named : (vs : List Variable) → P (top_register c vs)
  top_named vs = let le = home_most (all_variables c) (first_object vs) in omega (arith, le)

  pub variable_named : (x : ℕ) → P (variable_register c x)
  variable_named x = let le = register_most c.parameters c.variables x in omega (arith, le)

  -- arguments are packed behind where they stand among the temporaries
  pub moved_named : (d k w : ℕ) → d + k ≤ most_temporaries c.code → w ≤ 5 * k → AllFrom P (moved_register c (5 * d)) w
  moved_named d k w le few j lt = omega (arith, le, few, lt)

  pub free_named : P (first_free c)
  free_named = omega arith

  pub itself : (a : ℕ) → (a == a) ≡ true
  itself a = eq-eqb a a refl

  pub no_entry : (a : ℕ) → false ≡ true → whole.entries u n a ≡ true
  no_entry a e = absurd (false≢true e)

  -- a value alone
  pub word : (i : Instruction) (a : ℕ) → Has i → reads i a ≡ true → G (temporary_register c a)
  word i a has r = (has a r false (no_entry a)).0

  -- ---- what ends the run

  pub stopped : (e : Ending) (M : List ℕ) → AreIn M P → B (End e ∷ []) M
  stopped e M named = record { flows = ends_run p u P G e M low named; last = inl refl }

  -- ---- values moved with their entries

  -- from a temporary whose entry the result has, where that is kept
  pub from_source : (i : Instruction) (m d a : ℕ) → slice_get c.code n ≡ Some i → LeadsTo i m → given i ≡ Some d
      → entry_source i ≡ Some a → Has i → reads i a ≡ true
      → AreIn (value_of (whole.entries u m d) (temporary_register c a)) G
  from_source i m d a at to gives source has r =
      has a r (whole.entries u m d) (closed.made n m d a i at to gives source)

  pub tagged_in : (i : Instruction) (a : ℕ) → slice_get c.code n ≡ Some i → Has i → reads i a ≡ true
      → reads_entry whole.code c i a ≡ true → AreIn (value_of true (temporary_register c a)) G
  tagged_in i a at has r e = has a r true (λ s. closed.read n a i at e)
