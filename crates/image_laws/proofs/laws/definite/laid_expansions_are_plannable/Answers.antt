use Rattle.std.proofs.Common.{sym, subst}
use Rattle.metadata_relation.specs.Homes.{homes}
use Rattle.image_laws.specs.Images.Images.{IsChecked}
use Rattle.image_laws.specs.Images.Expansions.{IsLaidExpansion}
use Rattle.image_laws.proofs.Entered.Plans.{plannable}
use Rattle.image_laws.proofs.laws.definite.laid_expansions_are_plannable.Goals as goal

pub returns : goal.returns
returns g c = λ p r map l read write valid checked entries laid parts.
    let form = g.S.ShadowForm in
    let e = l.expansion in
    let x = laid.is_expansion in
    let of_code = subst (IsChecked p) (sym laid.code_is) checked in
    let here = subst (λ t. IsLaidExpansion read write form.entry (form.IsGood map) map t l) (sym laid.code_is) laid in
    let own = subst (λ m. IsLaidExpansion read write form.entry (form.IsGood m) m e.code l) (sym x.map_is) here in
    let expanded = c.laid_programs_are_expanded.ensures e homes l.runtime own.of_runtime x.types x.entries x.contents in
    let known = c.homes_fit_into_activation_records.ensures in
    plannable p form.entry (form.IsGood e.map) l read write valid of_code entries own parts expanded known.count known.inside
    known.apart
