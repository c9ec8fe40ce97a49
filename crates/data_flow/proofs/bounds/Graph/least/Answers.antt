use Rattle.std.proofs.Common.{length, refl}
use Rattle.std.proofs.lemmas.Option.{slice_get_read}
use Rattle.data_flow.proofs.bounds.Graph.least.Goals as goal

pub returns-in-Some : goal.returns-in-Some
returns-in-Some c v r =
    let xs = c.args.self.now.bounds.now in
    c.requires.least c.args.node v c.in-Some.bounds.now
    (slice_get_read xs (length xs) c.args.node c.in-Some.bounds.now refl c.in-Some.ensures.lookup.3.0
    c.in-Some.ensures.lookup.1) r
