use Rattle.std.proofs.Common.{length, refl, arith}
use Rattle.std.proofs.lemmas.Bool.{leb-true}
use Rattle.std.proofs.lemmas.Option.{slice_get_read}
use Rattle.data_flow.proofs.bounds.Graph.stays.Goals as goal

pub returns-in-Some : goal.returns-in-Some
returns-in-Some c e v r =
    let xs = c.args.self.now.bounds.now in
    let b = c.in-Some.bounds.now in
    let last = leb-true b.last c.args.last e in
    let g = c.requires.greatest c.args.node v b
    (slice_get_read xs (length xs) c.args.node b refl c.in-Some.ensures.lookup.3.0 c.in-Some.ensures.lookup.1) r in
    omega (arith, last, g)
