use Rattle.std.proofs.Common.{rules, refl}
use Rattle.sbcets_core.specs.Commands.{outside_of}
use Rattle.sbcets_core.proofs.ListingCases.{listed_lists, part_lists}
use Rattle.sbcets_core.proofs.listings.list.Goals as goal

pub returns-in-Ok-put-clause-lists : goal.returns-in-Ok-put-clause-lists
returns-in-Ok-put-clause-lists g c input errors =
    let readable = rw c.deref.ensures.value at c.in-Ok-listing_of.ensures.readable in
    let text = rw c.deref.ensures.value at c.in-Ok-listing_of.ensures.text in
    listed_lists c.args.name.now _ _
    (outside_of (g.F.Files.held c.args.files.now) (g.F.Files.reads c.args.files.now)
    (g.F.Files.writes c.args.files.now) input (g.O.Sink.taken c.args.output.now) errors)
    (outside_of (g.F.Files.held c.read_of.new.files) (g.F.Files.reads c.read_of.new.files)
    (g.F.Files.writes c.read_of.new.files) input (g.O.Sink.taken c.put.new.self) errors)
    c.in-Ok.ensures.read readable text
    (search rules) (search rules) (search rules) refl refl (search rules)

pub returns-clause-lists : goal.returns-clause-lists
returns-clause-lists g c input errors =
    let readable = rw c.deref.ensures.value at c.in-Ok-listing_of.ensures.readable in
    let text = rw c.deref.ensures.value at c.in-Ok-listing_of.ensures.text in
    part_lists c.args.name.now _ _
    (outside_of (g.F.Files.held c.args.files.now) (g.F.Files.reads c.args.files.now)
    (g.F.Files.writes c.args.files.now) input (g.O.Sink.taken c.args.output.now) errors)
    (outside_of (g.F.Files.held c.read_of.new.files) (g.F.Files.reads c.read_of.new.files)
    (g.F.Files.writes c.read_of.new.files) input (g.O.Sink.taken c.put.new.self) errors)
    c.in-Ok.ensures.read readable text
    (search rules) (search rules) (search rules) refl refl (search rules)
