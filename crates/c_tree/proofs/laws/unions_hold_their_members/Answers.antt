use Rattle.c_tree.proofs.Layouts.{union_inside, union_whole, union_alignment}
use Rattle.c_tree.proofs.laws.unions_hold_their_members.Goals as goal

pub returns : goal.returns
returns c = record { members = union_inside; whole = union_whole; alignment = union_alignment }
