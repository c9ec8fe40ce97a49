use Rattle.std.proofs.Common.{◌≡◌, length, true, map, drop}
use Rattle.std.specs.List.{list_all}
use Rattle.c_tree.specs.View.{part_of}
use Rattle.c_const.specs.Contents.{is_inside, with_parts}
use Rattle.c_const.specs.View.{pointers_of}
use Rattle.c_const.proofs.contents.InitialObject.store_parts.Given as goal

abbrev pub invariant-loop-part : goal.invariant-loop-part
invariant-loop-part l = record {
  rest : with_parts (pointers_of l.pointers) (map part_of (drop l.part-index l.parts)) l.self
      ≡ with_parts (pointers_of l.fn.pointers) (map part_of l.fn.parts) l.fn.self;
  inside : list_all (is_inside (length l.self.bytes)) (map part_of (drop l.part-index l.parts)) ≡ true;
}
