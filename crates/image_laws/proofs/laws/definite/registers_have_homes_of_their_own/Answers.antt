use Rattle.image_laws.proofs.Entered.Plans.{own_homes}
use Rattle.image_laws.proofs.laws.definite.registers_have_homes_of_their_own.Goals as goal

pub returns : goal.returns
returns c = λ e u height f room.
    let known = c.homes_fit_into_activation_records.ensures in
    own_homes known.count known.inside known.apart e u height f room
