use Rattle.std.proofs.Common.{◌≡◌, List, Some, length, refl, subst}
use Rattle.std.specs.Prelude.{slice_get}
use Rattle.std.proofs.lemmas.Option.{slice_get_read}
use Rattle.data_flow.specs.declared.stretches.Starts.{Starts}
use Rattle.data_flow.proofs.Joining.{alone, inner_none}
use Rattle.data_flow.proofs.stretches.Stretches.at.Goals as goal

pub returns-in-Some : goal.returns-in-Some
returns-in-Some c edges s =
    let xs = c.deref.result.now in
    s.each c.args.node c.in-Some.starts.now
    (subst (λ (l : List Starts). slice_get l c.args.node ≡ Some c.in-Some.starts.now) c.deref.ensures.value
    (slice_get_read xs (length xs) c.args.node c.in-Some.starts.now refl c.in-Some.ensures.lookup.3.0
    c.in-Some.ensures.lookup.1))

pub returns-in-None : goal.returns-in-None
returns-in-None c edges s = record {
  nearest = alone edges c.args.node;
  skip = alone edges c.args.node;
  inner = inner_none edges c.args.node;
}
