use Rattle.metadata_relation.proofs.StartFile.{file_stands}
use Rattle.metadata_relation.proofs.laws.start_data.a_file_stands_for_the_source.Goals as goal

pub returns : goal.returns
returns g c = λ map mapped functions types es objects m are statics entries file x f same none memory shown.
    file_stands map mapped functions types _ _ (λ k k' keeps good. c.entries_are_local.ensures map k k' mapped keeps good)
    es objects m are statics entries file x f same none memory shown
