use Rattle.runtime_functions.specs.Runtime.{runtime_list}
use Rattle.image_laws.proofs.Encoding.Programs.{encodable}
use Rattle.image_laws.proofs.Encoding.Runtime.{runtime_fit}
use Rattle.image_laws.proofs.laws.encoding.expanded_programs_are_encodable.Goals as goal

pub returns : goal.returns
returns g c = λ e homes runtime read write entries places same code of rooms.
    let form = g.S.ShadowForm in
    encodable e homes runtime read write entries places code same rooms
    (λ k f at. runtime_fit e.map form.entry (form.IsGood e.map)
    (c.functions_of_the_runtime_are_encodable.ensures e.map) runtime_list runtime k f of at)
