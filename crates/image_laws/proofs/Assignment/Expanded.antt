-- Expansions of definite functions can be planned.
use Rattle.std.proofs.Common.{◌≡◌, inl, inr, ⊎_elim, ℕ, zero, suc, ◌+◌, ◌^◌, ◌<◌, refl, sym, ap, subst, arith}
use Rattle.std.proofs.Common.{Bool, true, false, List, [], ◌∷◌, ◌++◌, length, length-append, Option, Some, None}
use Rattle.std.specs.Prelude.{slice_get, ◌&&◌, if◌then◌else◌}
use Rattle.std.proofs.lemmas.Bool.{and_parts, false≢true}
use Rattle.std.proofs.lemmas.Option.{same_Some, none-some, slice_get_within}
use Rattle.sb_base.specs.declared.ending.Ending.TheVariants.{Abort}
use Rattle.obj_memory.specs.declared.value.Scalar.{Scalar}
use Rattle.obj_memory.specs.declared.value.Scalar.TheVariants.{Integer, Pointer}
use Rattle.source_meaning.specs.Blocks.{has_objects}
use Rattle.source_meaning.specs.Good.{plain_type}
use Rattle.tac_ir.specs.declared.instruction.Instruction.{Instruction}
use Rattle.tac_ir.specs.declared.instruction.Instruction.TheVariants as tac
use Rattle.tac_ir.specs.declared.function.CodeFunction.{CodeFunction}
use Rattle.tac_ir.specs.Edges.{successors}
use Rattle.flat_code.specs.declared.instruction.FlatInstruction.{FlatInstruction}
use Rattle.flat_code.specs.declared.instruction.FlatInstruction.TheVariants.{Constant, Move, Operate}
use Rattle.flat_code.specs.declared.instruction.FlatInstruction.TheVariants.{Load, Store, Return, End}
use Rattle.flat_code.specs.declared.function.FlatFunction.{FlatFunction}
use Rattle.flat_code.specs.declared.function.FlatProgram.{FlatProgram}
use Rattle.flat_code.specs.Calls.{function_in as flat_function}
use Rattle.flat_code.specs.Meaning.{parameters_of, results_of}
use Rattle.flat_code.specs.Memory.{Bytes}
use Rattle.flat_code.specs.Routines.Metadata.{View}
use Rattle.shadow_space.specs.Form.{EntryCode}
use Rattle.runtime_functions.specs.declared.runtime.RuntimeFunction.{RuntimeFunction}
use Rattle.runtime_functions.specs.Runtime.{argument_count, result_count}
use Rattle.metadata_plan.specs.Entries.{AreClosed}
use Rattle.metadata_plan.specs.Registers.{all_variables}
use Rattle.metadata_relation.specs.Expanded.{IsExpanded, ExpandsAt, IsRuntimeAt}
use Rattle.metadata_relation.specs.Homes.{register_count}
use Rattle.metadata_relation.specs.InlineCode.{InlineCode}
use Rattle.metadata_relation.specs.InlineLists.{inline_lists}
use Rattle.metadata_relation.specs.Laid.{function_of}
use Rattle.metadata_relation.specs.Registers.{temporary_register, variable_register, parameters_end}
use Rattle.metadata_relation.specs.Registers.{result_words, total, variable_words}
use Rattle.metadata_relation.specs.Waiting.{Layout}
use Rattle.metadata_relation.specs.Blocks.{Expansion, block, prologue, objects_of_body, result_of, runtime_number}
use Rattle.metadata_relation.specs.Blocks.{leave_code}
use Rattle.metadata_relation.proofs.Registers.{count_in}
use Rattle.reg_plan.specs.Effects.{Leads}
use Rattle.reg_plan.specs.Planned.{IsPlannable}
use Rattle.check_elim.specs.Paths.{Path, Start, On}
use Rattle.image_laws.specs.Plans.Assignment.{IsOneOf, IsBegun, IsMadeBefore, AssignsAll, NamesBelow, HasOwnHomes}
use Rattle.image_laws.specs.Plans.EntryLists.{AssignEntries}
use Rattle.image_laws.specs.Plans.Instructions.{numbers_from, begin_made, body_registers, entered_by, made_registers}
use Rattle.image_laws.specs.Plans.Instructions.{entered_registers, stored_registers, body_made}
use Rattle.image_laws.specs.Plans.Instructions.{plain_count, IsSetOut, IsDefinite, HasCallees}
use Rattle.image_laws.proofs.Plans.Places.{get_append}
use Rattle.image_laws.proofs.Assignment.Laid.{plannable}
use Rattle.image_laws.proofs.Assignment.Pieces.{numbers_have}
use Rattle.image_laws.proofs.Assignment.Calls.{one_left, one_right}
use Rattle.image_laws.proofs.Assignment.Beginning.{stands, begin_assigns}
use Rattle.image_laws.proofs.Assignment.Instructions.{assigned}

-- ---- what is called

text_known : (l : Layout) (f : ℕ) (callee : CodeFunction) (o : Option FlatFunction)
    → ExpandsAt l.expansion f callee (l.address f) o
    → (parameters_of o ≡ parameters_end callee)
    × (results_of o ≡ result_words (result_of l.expansion.code callee))
text_known l f callee None h = absurd h
text_known l f callee (Some g) h = (h.parameters, h.results)

runtime_known : (l : Layout) (entry : View) (IsGood : Bytes → Type 0) (f : RuntimeFunction) (o : Option FlatFunction)
    → IsRuntimeAt l.expansion.map entry IsGood f o
    → (parameters_of o ≡ argument_count f) × (results_of o ≡ 1 + result_count f)
runtime_known l entry IsGood f None h = absurd h
runtime_known l entry IsGood f (Some g) h = (h.0.is.parameters, h.0.is.results_are)

pub callees_of : (l : Layout) (entry : View) (IsGood : Bytes → Type 0) → IsExpanded l entry IsGood
    → HasCallees l.program l.expansion.code
callees_of l entry IsGood x = record {
  functions = λ f callee is. text_known l f callee (flat_function l.program f) (x.functions f callee is);
  runtime = λ k callee is.
      runtime_known l entry IsGood callee (flat_function l.program (runtime_number l.expansion.code k)) (x.runtime k callee is);
}

-- ---- how a function is set out

few : (k : Scalar) (j : ℕ) → j < plain_count k → j < count_in k
few (Integer t) j lt = lt
few Pointer j lt = lt

module _ (e : Expansion) (u : ℕ) (c : CodeFunction) (parameters : ℕ) where
  entered_made : (i : Instruction) (y : ℕ) → IsOneOf (entered_by c i) y → IsOneOf (made_registers e u c i) y
  entered_made (tac.EnterBlock b line m) y h = h
  entered_made _ y h = absurd h

  on_path : (y n : ℕ) (path : Path c n) → IsMadeBefore c (entered_by c) y n path
      → IsMadeBefore c (made_registers e u c) y n path
  on_path y _ Start h = absurd h
  on_path y _ (On n m i path at to) (inl h) = inl (entered_made i y h)
  on_path y _ (On n m i path at to) (inr h) = inr (on_path y n path h)

  abbrev zeroed : List ℕ
  zeroed = numbers_from (parameters_end c + 1) (total variable_words c.variables)

  in_body : (y : ℕ) → IsOneOf (body_registers c) y → IsOneOf (body_made c) y
  in_body y h = by (has_objects (objects_of_body c)) h
    where
      by : (b : Bool) → IsOneOf (if b then entered_registers c (objects_of_body c) else []) y
          → IsOneOf (if b then entered_registers c (objects_of_body c) ++ stored_registers c c.parameters else []) y
      by true h = one_left (entered_registers c (objects_of_body c)) (stored_registers c c.parameters) y h
      by false h = h

  begun : parameters ≡ parameters_end c → (x j : ℕ) (k : Scalar)
      → plain_type (all_variables c) x ≡ Some k → j < plain_count k
      → IsBegun parameters (begin_made c) (variable_register c x + j)
  begun same x j k at lt =
      ⊎_elim (λ low. inl (omega (arith, low, same)))
      (λ b. inr (one_left zeroed (body_made c) (variable_register c x + j)
      (subst (IsOneOf zeroed) (sym b.is) (numbers_have (parameters_end c + 1) (total variable_words c.variables) b.number b.low))))
      (stands c.parameters c.variables x j k at (few k j lt))

  set_out : parameters ≡ parameters_end c → AreClosed e.code c (e.entries u)
      → IsDefinite e.code u c → IsSetOut e u c parameters (begin_made c)
  set_out same closed d = record {
    here = d.here;
    closed = closed;
    unneeded = d.unneeded;
    variables = begun same;
    homes = λ n y i at one path.
        ⊎_elim
        (λ h. inl (inr (one_right zeroed (body_made c) y (in_body y h))))
        (λ h. inr (on_path y n path h)) (d.homes.homes n y i at one path);
  }

-- ---- a function that returns

-- an instruction that leads to the next one alone
abbrev runs_on : FlatInstruction → Bool
runs_on (Constant x n) = true
runs_on (Move x y) = true
runs_on (Operate op x y z) = true
runs_on (Load op x y offset) = true
runs_on (Store op y offset x) = true
runs_on _ = false

abbrev all_run_on : List FlatInstruction → Bool
all_run_on [] = true
all_run_on (i ∷ is) = runs_on i && all_run_on is

run_on : (i : FlatInstruction) (pc q : ℕ) → runs_on i ≡ true → Leads i pc q → q ≡ pc + 1
run_on (Constant x n) pc q e (inl l) = sym (same_Some (pc + 1) q l)
run_on (Move x y) pc q e (inl l) = sym (same_Some (pc + 1) q l)
run_on (Operate op x y z) pc q e (inl l) = sym (same_Some (pc + 1) q l)
run_on (Load op x y offset) pc q e (inl l) = sym (same_Some (pc + 1) q l)
run_on (Store op y offset x) pc q e (inl l) = sym (same_Some (pc + 1) q l)
run_on (Constant x n) pc q e (inr l) = absurd (none-some q l)
run_on (Move x y) pc q e (inr l) = absurd (none-some q l)
run_on (Operate op x y z) pc q e (inr l) = absurd (none-some q l)
run_on (Load op x y offset) pc q e (inr l) = absurd (none-some q l)
run_on (Store op y offset x) pc q e (inr l) = absurd (none-some q l)
run_on _ pc q e l = absurd (false≢true e)

runs_at : (is : List FlatInstruction) (k : ℕ) (i : FlatInstruction) → all_run_on is ≡ true → slice_get is k ≡ Some i
    → runs_on i ≡ true
runs_at [] k i e at = absurd (none-some i at)
runs_at (x ∷ is) zero i e at = subst (λ z. runs_on z ≡ true) (same_Some x i at) (and_parts (runs_on x) (all_run_on is) e).0
runs_at (x ∷ is) (suc k) i e at = runs_at is k i (and_parts (runs_on x) (all_run_on is) e).1 at

-- code that leads nowhere behind its end
abbrev Stops : List FlatInstruction → Type 0
Stops code = (pc q : ℕ) (x : FlatInstruction) → slice_get code pc ≡ Some x → Leads x pc q → q < length code

returning : (is : List FlatInstruction) (r : ℕ) → all_run_on is ≡ true → Stops (is ++ (Return r ∷ []))
returning is r e pc q x at to = ⊎_elim before (λ h. last h.0 h.1 h.2) (get_append is (Return r ∷ []) pc x at)
  where
    whole : length (is ++ (Return r ∷ [])) ≡ length is + 1
    whole = length-append is (Return r ∷ [])

    before : slice_get is pc ≡ Some x → q < length (is ++ (Return r ∷ []))
    before here =
        let within = slice_get_within is pc x here in
        let next = run_on x pc q (runs_at is pc x e here) to in
        let long = whole in
        omega (arith, within, next, long)

    last : (j : ℕ) → pc ≡ length is + j → slice_get (Return r ∷ []) j ≡ Some x
        → q < length (is ++ (Return r ∷ []))
    last zero s here =
        absurd (⊎_elim (none-some q) (none-some q) (subst (λ z. Leads z pc q) (sym (same_Some (Return r) x here)) to))
    last (suc j) s here = absurd (none-some x here)

ending : (i : FlatInstruction) → ((pc q : ℕ) → Leads i pc q → ⊥) → Stops (i ∷ [])
ending i nowhere zero q x at to = absurd (nowhere 0 q (subst (λ z. Leads z 0 q) (sym (same_Some i x at)) to))
ending i nowhere (suc pc) q x at to = absurd (none-some x at)

abbrev is_nil : List ℕ → Bool
is_nil [] = true
is_nil (x ∷ xs) = false

-- ---- the whole function

module _ (p : FlatProgram) (whole : Expansion) (u : ℕ) (c : CodeFunction) (homes : List ℕ) (read write : EntryCode)
    (entries : AssignEntries read write) (callees : HasCallees p whole.code)
    (closed : AreClosed whole.code c (whole.entries u)) (d : IsDefinite whole.code u c) where
  abbrev over : InlineCode → Expansion
  over z = record whole { inline = z }

  abbrev lists : InlineCode
  lists = inline_lists read write whole.map

  abbrev e : Expansion
  e = over lists

  abbrev f : FlatFunction
  f = function_of e u c homes

  out : IsSetOut e u c f.parameters (begin_made c)
  out = set_out e u c f.parameters refl closed d

  returns : (a : ℕ) → (0 < length (block e u c (tac.Return a))) × Stops (block e u c (tac.Return a))
  returns a = by (has_objects (objects_of_body c))
    where
      by : (b : Bool) →
          let code = (if b then leave_code lists whole.map c (objects_of_body c) else [])
          ++ (Return (temporary_register c a) ∷ []) in
          (0 < length code) × Stops code
      by false = (omega arith, returning [] (temporary_register c a) refl)
      by true = (
        omega arith,
        returning (leave_code lists whole.map c (objects_of_body c)) (temporary_register c a) refl,
      )

  stops : (i : Instruction) → successors i ≡ [] → (0 < length (block e u c i)) × Stops (block e u c i)
  stops tac.Reserved none = (
    omega arith,
    ending (End (Abort 1)) (λ pc q l. ⊎_elim (none-some q) (none-some q) l),
  )
  stops (tac.Return a) none = returns a
  stops _ none = absurd (false≢true (ap is_nil none))

  all : AssignsAll p u f.parameters (block e u c) (prologue e c) c (begin_made c) (made_registers e u c)
  all = record {
    entry = d.entry;
    nodes = d.nodes;
    begin_assigns = (begin_assigns p u whole read write entries callees c f.parameters refl).0;
    assigns = λ n i at.
        (assigned p u e read write entries callees c f.parameters (begin_made c) n i refl out at (d.assigned n i at)).0;
    some = λ n i at none. (stops i none).0;
    stops = λ n i at none. (stops i none).1;
  }

  named : NamesBelow p u (block e u c) (prologue e c) c (register_count c)
  named = record {
    begin_names = (begin_assigns p u whole read write entries callees c f.parameters refl).1;
    names = λ n i at.
        (assigned p u e read write entries callees c f.parameters (begin_made c) n i refl out at (d.assigned n i at)).1;
  }

  abbrev Promise : InlineCode → Type 0
  Promise z =
      length (function_of (over z) u c homes).body < 2 ^ 32
      → HasOwnHomes (function_of (over z) u c homes) (register_count c)
      → IsPlannable p u (function_of (over z) u c homes)

  with_lists : Promise lists
  with_lists small own =
      plannable p u (register_count c) (block e u c) (prologue e c) c (begin_made c) (made_registers e u c) f refl small all
      named own

pub expanded_plannable : (p : FlatProgram) (e : Expansion) (u : ℕ) (c : CodeFunction) (homes : List ℕ)
    (read write : EntryCode) → AssignEntries read write → HasCallees p e.code → e.inline ≡ inline_lists read write e.map
    → AreClosed e.code c (e.entries u) → IsDefinite e.code u c → length (function_of e u c homes).body < 2 ^ 32
    → HasOwnHomes (function_of e u c homes) (register_count c) → IsPlannable p u (function_of e u c homes)
expanded_plannable p e u c homes read write entries callees same closed d small own =
    subst (Promise p e u c homes read write entries callees closed d) (sym same)
    (with_lists p e u c homes read write entries callees closed d) small own
