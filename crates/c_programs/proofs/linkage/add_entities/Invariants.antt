use Rattle.std.proofs.Common.{◌≡◌, drop, map}
use Rattle.c_scope.specs.Names.{names_of}
use Rattle.c_programs.specs.Statics.{with_entities}
use Rattle.c_programs.proofs.linkage.add_entities.Given as goal

abbrev pub invariant-loop-number : goal.invariant-loop-number
invariant-loop-number l =
    with_entities l.extents (drop l.number (map (λ e. e.1) (names_of l.entities))) l.objects.items
    ≡ with_entities l.fn.extents (map (λ e. e.1) (names_of l.fn.entities)) l.fn.objects.items
