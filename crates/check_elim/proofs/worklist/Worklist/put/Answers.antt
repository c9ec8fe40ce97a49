use Rattle.check_elim.proofs.Worklists.{put_list}
use Rattle.check_elim.proofs.worklist.Worklist.put.Goals as goal

pub returns-clause-list : goal.returns-clause-list
returns-clause-list c = put_list _ _ _ _ _ _ c.requires.list c.requires.inside c.in_ok-put.ensures.visits
    c.in_ok-put.ensures.size
