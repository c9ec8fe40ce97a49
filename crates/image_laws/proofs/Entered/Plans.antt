-- Laid expansions of checked code can be planned.
use Rattle.std.proofs.Common.{◌≡◌, ℕ, ◌+◌, ◌*◌, ◌<◌, ◌≤◌, ◌==◌, true, ◌&&◌, List, [], ◌∷◌, length, Option, Some, None}
use Rattle.std.proofs.Common.{refl}
use Rattle.std.proofs.Common.{◌∙◌, arith}
use Rattle.std.specs.Prelude.{slice_get}
use Rattle.std.proofs.lemmas.Bool.{eqb-true, and_parts, false≢true}
use Rattle.c_tree.specs.declared.program.Variable.{Variable}
use Rattle.c_tree.specs.Programs.{Program}
use Rattle.c_tree.specs.ValidProgram.{is_valid_program}
use Rattle.tac_ir.specs.declared.function.CodeFunction.{CodeFunction}
use Rattle.tac_ir.specs.declared.function.Tac.{Tac}
use Rattle.tac_ir.specs.Meaning.{function_in as code_in}
use Rattle.flat_code.specs.Memory.{Bytes}
use Rattle.flat_code.specs.Routines.Metadata.{View}
use Rattle.shadow_space.specs.Form.{EntryCode}
use Rattle.metadata_relation.specs.Expanded.{IsExpanded}
use Rattle.metadata_relation.specs.Homes.{HasRoom, homes, register_count}
use Rattle.metadata_relation.specs.Blocks.{Expansion, result_of}
use Rattle.metadata_relation.specs.Laid.{function_of, program_of, layout_of}
use Rattle.metadata_relation.specs.Registers.{is_no_aggregate, total, parameter_words, parameters_end}
use Rattle.metadata_relation.specs.Stages.{Compiled}
use Rattle.metadata_relation.specs.Steps.{AreAllCovered, is_covered_call, is_covered_main}
use Rattle.reg_plan.specs.Planned.{ArePlannable}
use Rattle.image_laws.specs.Images.Images.{IsChecked}
use Rattle.image_laws.specs.Images.Expansions.{Laid, IsLaidExpansion, HasPlannableParts, compiled_of}
use Rattle.image_laws.specs.Plans.Assignment.{HasOwnHomes}
use Rattle.image_laws.specs.Plans.EntryLists.{AssignEntries}
use Rattle.image_laws.specs.Plans.Instructions.{IsDefinite, IsWhole, HasCallees}
use Rattle.image_laws.proofs.Assignment.Coverage.{covered_assigns}
use Rattle.image_laws.proofs.Assignment.Expanded.{callees_of}
use Rattle.image_laws.proofs.Assignment.Programs.{program_plannable}
use Rattle.image_laws.proofs.Entered.Functions.{homes_entered, unneeded, entry_within, has_room, main_words}

-- ---- functions

pub definite : (p : Program) (x : Compiled) → is_valid_program p ≡ true → IsChecked p x.layout.expansion.code
    → AreAllCovered x → (u : ℕ) (c : CodeFunction) → code_in x.layout.expansion.code u ≡ Some c
    → IsWhole x.layout.expansion.code c → IsDefinite x.layout.expansion.code u c
definite p x valid checked covered u c at whole =
    let r = x.layout.expansion.code in
    record {
      here = at;
      entry = entry_within p r valid checked u c at;
      nodes = whole.nodes;
      assigned = λ n i there.
          let known = covered.each u n c i at there in
          covered_assigns x c u n i known.0 known.1 (whole.handed n i there);
      unneeded = unneeded p r valid checked u c at;
      homes = homes_entered p r valid checked u c at;
    }

-- by what is known of the list of homes
pub own_homes : ((c : CodeFunction) → length (homes c) ≡ register_count c)
    → ((c : CodeFunction) (height : ℕ) → HasRoom height c → (r : ℕ) → r < register_count c
    → (h : ℕ) × ((slice_get (homes c) r ≡ Some h) × (8 * h + 16 ≤ 2 * c.room)))
    → ((c : CodeFunction) (r q h : ℕ) → slice_get (homes c) r ≡ Some h → slice_get (homes c) q ≡ Some h → r ≡ q)
    → (e : Expansion) (u height : ℕ) (c : CodeFunction) → HasRoom height c
    → HasOwnHomes (function_of e u c (homes c)) (register_count c)
own_homes count inside apart e u height c room = record {
  few = let same = count c in omega (arith, same);
  inside = λ y lt.
      let h = inside c height room y lt in record { word = h.0; is = h.1.0; inside = h.1.1 };
  apart = λ x y w lx ly ex ey. apart c x y w ex ey;
}

-- ---- `main`

nothing_taken : (vs : List Variable) → length vs ≡ 0 → total parameter_words vs ≡ 0
nothing_taken [] none = refl
nothing_taken (v ∷ vs) none = absurd (omega (arith, none))

record IsMain (t : Tac) (c : CodeFunction) : Type 0 where
  there : code_in t t.main ≡ Some c
  takes : parameters_end c ≡ 0

main_of : (t : Tac) (o : Option CodeFunction) → code_in t t.main ≡ o → is_covered_main t o ≡ true
    → (c : CodeFunction) × IsMain t c
main_of t None at e = absurd (false≢true e)
main_of t (Some c) at e =
    let parts = and_parts (is_covered_call t (Some c) && is_no_aggregate (result_of t c)) (length c.parameters == 0) e in
    let none = nothing_taken c.parameters (eqb-true (length c.parameters) 0 parts.1) in
    (c, record { there = at; takes = none })

-- ---- the program

module _ (p : Program) (entry : View) (IsGood : Bytes → Type 0) (l : Laid) (read write : EntryCode)
    (valid : is_valid_program p ≡ true) (checked : IsChecked p l.expansion.code) (entries : AssignEntries read write)
    (laid : IsLaidExpansion read write entry IsGood l.expansion.map l.expansion.code l) (parts : HasPlannableParts l)
    (expanded : IsExpanded (layout_of l.expansion homes l.runtime) entry IsGood)
    (count : (c : CodeFunction) → length (homes c) ≡ register_count c)
    (inside : (c : CodeFunction) (height : ℕ) → HasRoom height c → (r : ℕ) → r < register_count c
    → (h : ℕ) × ((slice_get (homes c) r ≡ Some h) × (8 * h + 16 ≤ 2 * c.room)))
    (apart : (c : CodeFunction) (r q h : ℕ) → slice_get (homes c) r ≡ Some h → slice_get (homes c) q ≡ Some h → r ≡ q)
  where
    abbrev e : Expansion
    e = l.expansion

    callees : HasCallees (program_of e homes l.runtime) e.code
    callees = callees_of (layout_of e homes l.runtime) entry IsGood expanded

    covered : AreAllCovered (compiled_of p entry l)
    covered = laid.covered p

    main : (c : CodeFunction) × IsMain e.code c
    main = main_of e.code (code_in e.code e.code.main) refl covered.first.main

    pub plannable : ArePlannable (program_of e homes l.runtime)
    plannable =
        let m = main.1 in
        let known = callees.functions e.code.main main.0 m.there in
        let takes = m.takes in
        let words = main_words p e.code valid checked main.0 m.there in
        program_plannable e homes l.runtime read write entries callees laid.is_expansion.inline laid.is_expansion.entries
        (record {
          each = λ u c at. (
            definite p (compiled_of p entry l) valid checked covered u c at (parts.whole u c at),
            parts.short u c at,
            own_homes count inside apart e u _ c (has_room p e.code valid checked u c at),
          );
        })
        parts.runtime (known.0 ∙ takes) (let given = known.1 in omega (arith, given, words))
