-- The list of a number that no function has can be assembled as well.
use Rattle.std.proofs.Common.{◌≡◌, ℕ, ◌^◌, ◌<◌, ◌≤◌, List, [], ◌∷◌, ◌++◌, length, Option, None}
use Rattle.std.proofs.Common.{refl, sym, ap, ◌∙◌, subst, arith}
use Rattle.std.specs.Prelude.{slice_get}
use Rattle.std.proofs.lemmas.Option.{slice_get_past}
use Rattle.addr_map.specs.Places.{MapSizes}
use Rattle.rv_isa.specs.declared.instruction.Instr.{Instr}
use Rattle.rv_isa.specs.declared.instruction.Instr.TheVariants.{Ebreak}
use Rattle.rv_asm.specs.declared.item.Item.{Item}
use Rattle.rv_asm.specs.declared.item.Item.TheVariants as item
use Rattle.rv_asm.specs.Forms.{IsAssemblable, longest_size}
use Rattle.flat_code.specs.declared.function.FlatFunction.{FlatFunction}
use Rattle.flat_code.specs.declared.function.FlatProgram.{FlatProgram}
use Rattle.flat_code.specs.Calls.{function_in}
use Rattle.flat_code.specs.Meaning.{body_of, parameters_of}
use Rattle.reg_plan.specs.declared.plan.FunctionPlan.{FunctionPlan}
use Rattle.machine_laws.specs.Blocks.Blocks.{store_at}
use Rattle.machine_laws.specs.Calls.Calls.{take, entry_block}
use Rattle.machine_laws.specs.Following.Code.{keeping_of, keeping}
use Rattle.machine_laws.specs.Layout.Lists.{plain, items_from, items_of}
use Rattle.machine_laws.proofs.Segments.Labels.{labels_meet}

short : Instr → List Item
short i = item.Instr i ∷ item.Label 0 ∷ item.Instr Ebreak ∷ []

short_room : (i : Instr) → longest_size (short i) < 2 ^ 28
unfolding short
short_room i = omega arith

-- the list of a function, by whether there is one
items_if : MapSizes → FlatProgram → List FunctionPlan → ℕ → Option FlatFunction → List Item
items_if m p plans f o =
    plain (entry_block (keeping_of o (slice_get plans f)) (parameters_of o))
    ++ items_from m p plans f (length (body_of o)) 0 (body_of o)

first_of_none : Option FunctionPlan → Instr
first_of_none plan = first (entry_block (keeping_of None plan) 0)
  where
    first : List Instr → Instr
    first [] = Ebreak
    first (i ∷ is) = i

none_short : (m : MapSizes) (p : FlatProgram) (plans : List FunctionPlan) (f : ℕ)
    → items_if m p plans f None ≡ short (first_of_none (slice_get plans f))
unfolding items_if short first_of_none store_at take
none_short m p plans f = refl

same_items : (m : MapSizes) (p : FlatProgram) (plans : List FunctionPlan) (f : ℕ)
    → items_of m p plans f ≡ items_if m p plans f (function_in p f)
unfolding items_if keeping
same_items m p plans f = refl

pub missing_assemblable : (m : MapSizes) (p : FlatProgram) (plans : List FunctionPlan) (f : ℕ)
    → length p.functions ≤ f → IsAssemblable (items_of m p plans f)
missing_assemblable m p plans f le = labels_meet m p plans f
    (subst (λ items. longest_size items < 2 ^ 28)
    (sym (same_items m p plans f ∙ ap (items_if m p plans f) (slice_get_past p.functions f le)
    ∙ none_short m p plans f))
    (short_room (first_of_none (slice_get plans f))))
