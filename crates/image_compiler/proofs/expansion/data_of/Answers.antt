use Rattle.std.proofs.Common.{ℕ, ◌^◌, ◌<◌, sym, ap, ◌∙◌, subst, arith}
use Rattle.std.specs.List.{All}
use Rattle.addr_map.specs.Places.{objects_begin}
use Rattle.metadata_relation.specs.FunctionTypes.{HaveTypeKeys}
use Rattle.metadata_relation.specs.StartData.{bytes_of_statics, entries_of_statics}
use Rattle.instruction_selection.specs.StartData.{HaveWords, type_in}
use Rattle.std.specs.Prelude.{slice_get}
use Rattle.program_expansion.proofs.Prepared.{can_be_called}
use Rattle.image_compiler.proofs.Expanded.{have_words, start_entries_are, starts_by_keys}
use Rattle.image_compiler.proofs.expansion.data_of.Goals as goal

pub type_keys-requires-clause-bytes : goal.type_keys-requires-clause-bytes
type_keys-requires-clause-bytes g c =
    let limits = c.in_ok-are_within_limits.ensures.0 c.if-not-branch.false in
    λ f d there.
    (can_be_called d (limits.functions f d (ap (λ fs. slice_get fs f) (sym c.as_slice.ensures) ∙ there)).small).bytes

pub static_entries-requires-clause-words : goal.static_entries-requires-clause-words
static_entries-requires-clause-words g c =
    let limits = c.in_ok-are_within_limits.ensures.0 c.if-not-branch.false in
    subst HaveWords (sym c.as_slice-statics.ensures)
    (have_words c.args.map.now c.args.code.now c.requires limits.count)

pub static_entries-requires-clause-types : goal.static_entries-requires-clause-types
unfolding type_in
static_entries-requires-clause-types g c = λ f.
    subst (λ ts. type_in ts f < 2 ^ 63) (sym c.deref.ensures.value) (c.in_ok-types.ensures.room f)

pub start-requires-clause-entries : goal.start-requires-clause-entries
unfolding type_in
start-requires-clause-entries g c =
    let limits = c.in_ok-are_within_limits.ensures.0 c.if-not-branch.false in
    let lock = c.region-lock.result.0 in
    let types = type_in c.deref.result.now in
    start_entries_are c.args.map.now c.args.code.now types lock c.deref-2.result.now c.sizes_are_in_range.ensures
    c.requires limits.count
    (λ f. subst (λ ts. type_in ts f < 2 ^ 63) (sym c.deref.ensures.value) (c.in_ok-types.ensures.room f))
    (ap (λ (p : ℕ × ℕ). p.0) c.region-lock.ensures)
    (c.deref-2.ensures.value ∙ c.in_ok-entries.ensures
    ∙ ap (λ ds. entries_of_statics types lock objects_begin ds 0) c.as_slice-statics.ensures)

pub returns : goal.returns
unfolding type_in
returns g c =
    let lock = c.region-lock.result.0 in
    let types = type_in c.deref.result.now in
    let told : HaveTypeKeys c.args.code.now.functions types =
    subst (λ cs. HaveTypeKeys cs types) c.as_slice.ensures
    (subst (λ ts. HaveTypeKeys c.as_slice.result.now (type_in ts)) (sym c.deref.ensures.value)
    c.in_ok-types.ensures.keys) in
    record {
      objects = c.in_ok-objects.ensures ∙ ap (λ ds. bytes_of_statics ds 0) c.as_slice-statics.ensures;
      spaces = starts_by_keys c.args.map.now c.args.code.now g.S.ShadowForm.entry
          (g.S.ShadowForm.IsGood c.args.map.now) types lock c.deref-2.result.now c.in_ok-spaces.spaces.items c.requires
          told (ap (λ (p : ℕ × ℕ). p.0) c.region-lock.ensures)
          (c.deref-2.ensures.value ∙ c.in_ok-entries.ensures
          ∙ ap (λ ds. entries_of_statics types lock objects_begin ds 0) c.as_slice-statics.ensures)
          c.in_ok-spaces.ensures.does;
      fit = omega (arith, c.if-len-shadow_bytes.false, c.len.ensures, c.shadow_bytes.ensures);
      short = c.in_ok-spaces.ensures.short;
      bytes = subst (All (λ b. b < 256)) c.deref-3.ensures.value c.are_bytes.ensures;
    }
