-- Each virtual register that a laid expansion of checked code uses has a home of its own.
use Rattle.std.proofs.Common.{◌≡◌, ⊎_elim, ℕ, ◌+◌, ◌*◌, ◌<◌, ◌≤◌, length, Some, true, arith}
use Rattle.std.specs.Prelude.{slice_get}
use Rattle.c_tree.specs.Programs.{Program}
use Rattle.c_tree.specs.ValidProgram.{is_valid_program}
use Rattle.tac_ir.specs.declared.function.CodeFunction.{CodeFunction}
use Rattle.flat_code.specs.declared.function.FlatFunction.{FlatFunction}
use Rattle.flat_code.specs.declared.function.FlatProgram.{FlatProgram}
use Rattle.flat_code.specs.Memory.{Bytes}
use Rattle.flat_code.specs.Routines.Metadata.{View}
use Rattle.shadow_space.specs.Form.{EntryCode}
use Rattle.metadata_relation.specs.Expanded.{IsExpanded}
use Rattle.metadata_relation.specs.Homes.{HasRoom, homes, register_count}
use Rattle.metadata_relation.specs.Blocks.{Expansion}
use Rattle.metadata_relation.specs.Laid.{function_of, entry_of, program_of, layout_of}
use Rattle.reg_plan.specs.Planned.{IsPlannable}
use Rattle.image_laws.specs.Images.Images.{IsChecked}
use Rattle.image_laws.specs.Images.Expansions.{Laid, IsLaidExpansion, HasPlannableParts}
use Rattle.image_laws.specs.Plans.Assignment.{HasOwnHomes}
use Rattle.image_laws.specs.Plans.EntryLists.{AssignEntries}
use Rattle.image_laws.specs.Propagation.Homes.{IsUsed, HasHomes, HaveHomes}
use Rattle.image_laws.proofs.Plans.Expansions.{of_each}
use Rattle.image_laws.proofs.Assignment.Alone.{homes_own}
use Rattle.image_laws.proofs.Entered.Functions.{has_room}
use Rattle.image_laws.proofs.Entered.Plans.{own_homes, plannable}

-- a function that can be planned names none but those that have homes
homes_of : (p : FlatProgram) (u count : ℕ) (f : FlatFunction) → length f.homes ≤ count → IsPlannable p u f
    → HasOwnHomes f count → HasHomes p u f
homes_of p u count f few plan own =
    let low : (y : ℕ) → IsUsed p u f.body y → y < count =
    λ y used.
    ⊎_elim (λ r. let lt = plan.named.read used.0 y r in omega (arith, lt, few))
    (λ m. let lt = plan.named.made used.0 y m in omega (arith, lt, few)) used.1 in
    record {
      inside = λ y used. own.inside y (low y used);
      apart = λ x y w ux uy ex ey. own.apart x y w (low x ux) (low y uy) ex ey;
    }

module _ (p : Program) (entry : View) (IsGood : Bytes → Type 0) (l : Laid) (read write : EntryCode)
    (valid : is_valid_program p ≡ true) (checked : IsChecked p l.expansion.code) (entries : AssignEntries read write)
    (laid : IsLaidExpansion read write entry IsGood l.expansion.map l.expansion.code l) (parts : HasPlannableParts l)
    (expanded : IsExpanded (layout_of l.expansion homes l.runtime) entry IsGood)
    (count : (c : CodeFunction) → length (homes c) ≡ register_count c)
    (inside : (c : CodeFunction) (height : ℕ) → HasRoom height c → (r : ℕ) → r < register_count c
    → (h : ℕ) × ((slice_get (homes c) r ≡ Some h) × (8 * h + 16 ≤ 2 * c.room)))
    (apart : (c : CodeFunction) (r q h : ℕ) → slice_get (homes c) r ≡ Some h → slice_get (homes c) q ≡ Some h → r ≡ q)
  where
    abbrev e : Expansion
    e = l.expansion

    pub have_homes : ((k : ℕ) (f : FlatFunction) → slice_get l.runtime k ≡ Some f
        → HasHomes (program_of e homes l.runtime) (length e.code.functions + k) f)
        → HaveHomes (program_of e homes l.runtime)
    have_homes others k f at =
        of_each e homes l.runtime
        (λ u g. IsPlannable (program_of e homes l.runtime) u g → HasHomes (program_of e homes l.runtime) u g)
        (λ u c there plan.
        let many = count c in
        homes_of (program_of e homes l.runtime) u (register_count c) (function_of e u c (homes c)) (omega (arith, many)) plan
        (own_homes count inside apart e u _ c (has_room p e.code valid checked u c there)))
        (λ n g there plan. others n g there)
        (λ u plan. homes_of (program_of e homes l.runtime) u 2 (entry_of e.map e.code) (omega arith) plan
        (homes_own e.map e.code))
        k f at
        (plannable p entry IsGood l read write valid checked entries laid parts expanded count inside apart k f at)
