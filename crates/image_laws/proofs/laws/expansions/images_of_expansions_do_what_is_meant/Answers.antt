use Rattle.std.proofs.Common.{◌≡◌, ℕ, List, refl, sym, subst}
use Rattle.behaviours.specs.Behaviour.{Follows}
use Rattle.behaviours.specs.Steps.{run}
use Rattle.source_meaning.specs.Meaning.{meaning}
use Rattle.tac_ir.specs.Meaning.{tac_meaning, step, setting_of_code, first_stage}
use Rattle.tac_ir.specs.Stage.{Stuck}
use Rattle.machine_laws.specs.Following.Matching.{object_bytes, space_bytes}
use Rattle.metadata_relation.specs.Laid.{program_of}
use Rattle.metadata_relation.specs.StartData.{bytes_of_statics}
use Rattle.image_laws.specs.Images.Images.{sizes_of, IsChecked}
use Rattle.image_laws.specs.Images.Expansions.{code_of, compiled_of}
use Rattle.image_laws.proofs.Images.Meant.{file_small, does_what_is_meant}
use Rattle.image_laws.proofs.Images.Expansions as expansion
use Rattle.image_laws.proofs.laws.expansions.images_of_expansions_do_what_is_meant.Goals as goal

pub returns : goal.returns
returns g c = λ p budgets valid count mapped r of_program file image.
    let form = g.S.ShadowForm in
    let l = image.laid in
    let e = l.expansion in
    let m = e.map in
    let h = image.is_laid in
    let of_code = subst (IsChecked p) (sym h.code_is) of_program in
    let t = of_code.lowered in
    let checked = of_code.checked in
    let inserted = of_code.inserted in
    let mapped_own = expansion.mapped_own p budgets valid mapped count form.entry_read form.entry_write form.entry
    form.IsGood l of_code r h in
    let source = c.running_has_begun_all_turns.ensures p m.budgets in
    let lowered : (input : List ℕ) → Follows 8 (meaning p m.budgets input) (tac_meaning t m.budgets input) =
    c.lowered_code_follows_its_program.ensures p t of_code.is_lowered valid count m.budgets mapped_own in
    let stuck_not : (input : List ℕ) (k : ℕ) → run (step (setting_of_code checked m.budgets) checked) k
    (first_stage checked m.budgets input) ≡ Stuck → ⊥ = λ input. c.checked_code_is_never_stuck.ensures.never t checked inserted m.budgets input 8
    (meaning p m.budgets input) (source input) (lowered input) in
    let dropped : (input : List ℕ) → Follows 8 (meaning p m.budgets input) (tac_meaning e.code m.budgets input) =
    λ input. c.code_without_available_checks_means_the_same.ensures.follows checked e.code of_code.dropped m.budgets
    input (stuck_not input) 8 (meaning p m.budgets input)
    (c.checked_code_is_never_stuck.ensures.follows t checked inserted m.budgets input 8 (meaning p m.budgets input)
    (source input) (lowered input)) in
    let never : (input : List ℕ) (k : ℕ) → run (step (setting_of_code e.code m.budgets) e.code) k
    (first_stage e.code m.budgets input) ≡ Stuck → ⊥ = λ input. c.code_without_available_checks_means_the_same.ensures.never checked e.code of_code.dropped
    m.budgets input (stuck_not input) in
    let inline = c.lists_of_a_form_are_inline_code.ensures in
    let expanded = c.laid_programs_are_expanded.ensures in
    let placed = expansion.placed p budgets valid mapped count form.entry_read form.entry_write form.entry form.IsGood l of_code r h
    in
    let right = expansion.right p budgets valid mapped count form.entry_read form.entry_write form.entry form.IsGood l of_code r h
    inline expanded c.entries_are_local.ensures in
    let objects = bytes_of_statics e.code.statics 0 in
    let f = expansion.following p budgets valid mapped count form.entry_read form.entry_write form.entry form.IsGood l of_code r h
    inline expanded c.entries_are_local.ensures source dropped never
    (c.static_objects_are_sound_and_in_their_region.ensures.sound p m.budgets mapped_own valid e.code.statics placed)
    (c.static_objects_are_sound_and_in_their_region.ensures.region p m.budgets mapped_own valid e.code.statics placed)
    c.steps_begin_at_most_one_turn.ensures
    (c.a_file_with_static_objects_stands_for_the_source.ensures (compiled_of p form.entry l) right refl)
    (c.covered_programs_are_followed.ensures (compiled_of p form.entry l) right refl (h.covered p) refl) image.spaces
    image.starts in
    let bytes = c.data_is_held.ensures.bytes objects image.spaces (object_bytes (sizes_of p budgets))
    (space_bytes (sizes_of p budgets)) f.bytes image.starts.bytes in
    does_what_is_meant p budgets (c.running_has_begun_all_turns.ensures p budgets) (sizes_of p budgets)
    (program_of e l.homes l.runtime) objects image.spaces c.propagated_programs_mean_the_same.ensures.runs
    c.propagated_programs_mean_the_same.ensures.meaning bytes (f.follows bytes) (f.runs bytes) image.plans file
    image.accepted image.image
    (c.images_follow.ensures (sizes_of p budgets) (code_of l) image.plans objects image.spaces file mapped image.image)
    (c.data_is_held.ensures.held (sizes_of p budgets) objects image.spaces mapped f.objects_fit f.spaces_fit)
    image.encodable image.startable
    (file_small (sizes_of p budgets) (code_of l) image.plans objects image.spaces file f.few image.starts.short
    image.image)
    c.machine_is_machine.ensures c.following_is_faithful.ensures
