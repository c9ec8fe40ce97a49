use Rattle.std.proofs.Common.{◌≡◌, drop}
use Rattle.c_syntax.specs.StatementsView.{more_init_declarators_in}
use Rattle.c_facts.specs.Facts.{found_of, heading_of, with_more}
use Rattle.c_facts.proofs.found.Found.add_more.Given as goal

abbrev pub invariant-loop-declarator : goal.invariant-loop-declarator
invariant-loop-declarator l =
    with_more (heading_of l.heading) (more_init_declarators_in (drop l.declarator-index l.others)) (found_of l.self)
    ≡ with_more (heading_of l.fn.heading) (more_init_declarators_in l.fn.others) (found_of l.fn.self)
