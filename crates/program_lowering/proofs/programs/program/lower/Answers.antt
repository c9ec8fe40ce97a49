use Rattle.std.proofs.Common.{map, refl, ap, ◌∙◌, subst}
use Rattle.std.specs.List.{list_all}
use Rattle.c_tree.specs.View.{program_of, function_of, function_type_of, static_of}
use Rattle.c_lower.specs.Programs.{literals_of}
use Rattle.source_meaning.specs.Meaning.{statics_end}
use Rattle.program_lowering.specs.ProgramCode.Whole.{AreFunctions, is_ready, results_of}
use Rattle.program_lowering.proofs.ProgramCode.InTurn.{program_from, weighed_from, whole_in}
use Rattle.program_lowering.proofs.ProgramCode.Areas.{areas_fit}
use Rattle.program_lowering.proofs.ProgramCode.ClosedBodies.{programs_closed, programs_bare}
use Rattle.program_lowering.proofs.ProgramCode.ClosedBodies.{programs_keep, programs_bodies}
use Rattle.program_lowering.proofs.ProgramCode.Ready.{all_ready}
use Rattle.program_lowering.proofs.ProgramCode.Checks.{counted_by, awaits}
use Rattle.program_lowering.proofs.programs.program.lower.Goals as goal

pub lower_functions-requires : goal.lower_functions-requires
lower_functions-requires c =
    ap (λ l. list_all is_ready (map function_of l)) c.as_slice-functions.ensures
    ∙ all_ready (program_of c.args.program.now) c.requires.valid

pub returns : goal.returns
returns c =
    let p = program_of c.args.program.now in
    let told = c.in_ok-literals.ensures ∙ ap (λ os. literals_of (map static_of os)) c.as_slice-objects.ensures in
    let named = subst (λ ls. AreFunctions c.in_ok-lowered.lowered.texts.items ls c.as_slice-kinds.result.now
    (map function_of c.as_slice-functions.result.now) c.in_ok-lowered.lowered.functions.items) told
    c.in_ok-lowered.ensures in
    let kinds = subst (λ ks. AreFunctions c.in_ok-lowered.lowered.texts.items (literals_of p.statics) ks
    (map function_of c.as_slice-functions.result.now) c.in_ok-lowered.lowered.functions.items)
    c.as_slice-kinds.ensures.value named in
    let all = subst (λ fs. AreFunctions c.in_ok-lowered.lowered.texts.items (literals_of p.statics)
    c.in_ok-results.results.items (map function_of fs) c.in_ok-lowered.lowered.functions.items)
    c.as_slice-functions.ensures kinds in
    let bytes = c.global_bytes-bytes.ensures
    ∙ ap (λ os. statics_end (map static_of os) 0) c.as_slice-objects.ensures in
    let results = c.in_ok-results.ensures ∙ ap (λ ts. results_of (map function_type_of ts)) c.as_slice-types.ensures in
    let weighs = weighed_from p c.assembled.ensures results all in
    let made = whole_in p c.assembled.ensures all in
    let lowered = program_from p c.assembled.ensures refl bytes c.in_ok-statics.ensures results all in
    record {
      code = lowered;
      weighed = weighs;
      count = counted_by p c.assembled.result weighs;
      checks = awaits p c.assembled.result weighs;
      areas = areas_fit p c.assembled.result c.requires.valid lowered made;
      closed = programs_closed (literals_of p.statics) p.functions c.assembled.result made;
      variables = programs_keep (literals_of p.statics) p.functions c.assembled.result made;
      bodies = programs_bodies (literals_of p.statics) p c.assembled.result made;
      none_added = programs_bare (literals_of p.statics) p.functions c.assembled.result made;
    }
