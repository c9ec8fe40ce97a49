use Rattle.std.proofs.Common.{◌≡◌, ◌∙◌, refl, ap, ap₂, codes, true}
use Rattle.std.proofs.lemmas.Result.{IfOk-weaker}
use Rattle.clap.specs.Words.{App, app_of, new_app, with_subcommand}
use Rattle.clap.specs.Simple.{app_of_fields}
use Rattle.command_line.specs.Program.{program, tool_words}
use Rattle.command_line.proofs.Plain.{no_globals}
use Rattle.command_line.proofs.program.program.Goals as goal

pub returns : goal.returns
unfolding program
returns c =
    let bare : app_of c.new.result ≡ new_app (codes "sbcets") = c.new.ensures.app in
    let unnamed = ap app_of_fields c.no_binary_name.ensures
    ∙ ap (λ (a : App). record a { top = record a.top { no_binary_name = true } }) bare in
    let top : app_of c.subcommand_required.result ≡ tool_words =
    ap app_of_fields c.subcommand_required.ensures
    ∙ ap (λ (a : App). record a { top = record a.top { subcommand_required = true } }) unnamed in
    let build_is = c.in_ok-build_words.ensures in
    let run_is = c.in_ok-run_words.ensures in
    let go_is = c.in_ok-go_words.ensures in
    let list_is = c.in_ok-list_words.ensures in
    let assemble_is = c.in_ok-assemble_words.ensures in
    let work_is = c.in_ok-work_words.ensures in
    let build = c.in_ok-subcommand.ensures.shape (no_globals _ _ build_is refl)
    ∙ ap₂ with_subcommand top (ap (λ (a : App). a.top) build_is) in
    let run = c.in_ok-subcommand-2.ensures.shape (no_globals _ _ run_is refl)
    ∙ ap₂ with_subcommand build (ap (λ (a : App). a.top) run_is) in
    let go = c.in_ok-subcommand-3.ensures.shape (no_globals _ _ go_is refl)
    ∙ ap₂ with_subcommand run (ap (λ (a : App). a.top) go_is) in
    let listed = c.in_ok-subcommand-4.ensures.shape (no_globals _ _ list_is refl)
    ∙ ap₂ with_subcommand go (ap (λ (a : App). a.top) list_is) in
    let assembled = c.in_ok-subcommand-5.ensures.shape (no_globals _ _ assemble_is refl)
    ∙ ap₂ with_subcommand listed (ap (λ (a : App). a.top) assemble_is) in
    IfOk-weaker c.subcommand-6.result _ _
    (λ r adds. adds.shape (no_globals _ _ work_is refl)
    ∙ ap₂ with_subcommand assembled (ap (λ (a : App). a.top) work_is)) c.subcommand-6.ensures
