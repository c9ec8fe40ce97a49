use Rattle.std.proofs.Common.{◌≡◌, ◌≤◌, ◌+◌, ◌*◌, ◌^◌, map, drop}
use Rattle.c_tree.specs.View.{static_of}
use Rattle.c_unit_typing.specs.Typed.{end_behind}
use Rattle.c_programs.proofs.limits.global_bytes.Given as goal

abbrev pub invariant-loop-object : goal.invariant-loop-object
invariant-loop-object l =
    (end_behind l.place (map static_of (drop l.object-index l.statics)) ≡ end_behind 0 (map static_of l.fn.statics))
    × (l.place ≤ l.object-index * (2 ^ 64 + 16))
