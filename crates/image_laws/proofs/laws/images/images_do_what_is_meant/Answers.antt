use Rattle.std.proofs.Common.{List, [], arith, subst, ℕ}
use Rattle.addr_map.specs.Places.{AreMapped}
use Rattle.behaviours.specs.Behaviour.{Follows}
use Rattle.source_meaning.specs.Meaning.{meaning}
use Rattle.tac_ir.specs.Meaning.{tac_meaning}
use Rattle.machine_laws.specs.Following.Matching.{object_bytes, space_bytes}
use Rattle.reg_plan.specs.Tests.{AreAccepted}
use Rattle.rv_codegen.specs.MachineImages.Image.{IsImage}
use Rattle.image_laws.specs.Images.Images.{sizes_of, flat_code}
use Rattle.image_laws.proofs.Images.Checks.{same_as_lowered}
use Rattle.image_laws.proofs.Images.Images.{integers_mapped, no_data, does_what_is_meant}
use Rattle.image_laws.proofs.laws.images.images_do_what_is_meant.Goals as goal

pub returns : goal.returns
returns c = λ p budgets valid ints few count range code flat plans accepted file image.
    let m = sizes_of p budgets in
    let r = flat.checked in
    let t = flat.is_checked.lowered in
    let mapped : AreMapped m = integers_mapped p budgets ints range in
    let source = c.running_has_begun_all_turns.ensures p budgets in
    let checked = flat.is_checked.checked in
    let inserted = flat.is_checked.inserted in
    let lowered : (input : List ℕ) → Follows 8 (meaning p budgets input) (tac_meaning t budgets input) =
    c.lowered_code_follows_its_program.ensures p t flat.is_checked.is_lowered valid count budgets mapped in
    let dropped : (input : List ℕ) → Follows 8 (meaning p budgets input) (tac_meaning r budgets input) =
    λ input. c.code_without_available_checks_means_the_same.ensures.follows checked r flat.is_checked.dropped budgets
    input
    (c.checked_code_is_never_stuck.ensures.never t checked inserted budgets input 8 (meaning p budgets input)
    (source input) (lowered input))
    8 (meaning p budgets input)
    (c.checked_code_is_never_stuck.ensures.follows t checked inserted budgets input 8 (meaning p budgets input)
    (source input) (lowered input)) in
    let part = c.lowered_integers_are_integer_code.ensures p t r valid ints flat.is_checked.is_lowered
    (same_as_lowered p r flat.is_checked) in
    let accepted' = subst (λ k. AreAccepted k plans) flat.is_flat accepted in
    let image' = subst (λ k. IsImage m k plans [] [] file) flat.is_flat image in
    does_what_is_meant p budgets mapped valid ints few r flat.is_checked flat.small c.operators_compute.ensures part
    source dropped c.steps_begin_at_most_one_turn.ensures c.propagated_programs_mean_the_same.ensures.runs
    c.propagated_programs_mean_the_same.ensures.meaning plans file accepted' image'
    (c.images_follow.ensures m (flat_code m r) plans [] [] file mapped image')
    (c.data_is_held.ensures.held m [] [] mapped (omega arith) (omega arith))
    (c.data_is_held.ensures.bytes [] [] (object_bytes m) (space_bytes m) no_data no_data)
    c.machine_is_machine.ensures c.following_is_faithful.ensures
