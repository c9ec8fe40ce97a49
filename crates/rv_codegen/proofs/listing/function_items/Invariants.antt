use Rattle.std.proofs.Common.{◌≡◌, ◌++◌, drop}
use Rattle.machine_laws.specs.Layout.Lists.{items_from, items_of}
use Rattle.rv_codegen.proofs.listing.function_items.Given as goal

abbrev pub invariant-loop-place : goal.invariant-loop-place
invariant-loop-place l =
    l.list ++ items_from l.map l.program l.plans l.number l.count l.place (drop l.place l.body)
    ≡ items_of l.map l.program l.plans l.number
