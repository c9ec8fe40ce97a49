use Rattle.tac_ir.specs.Meaning.{placed_data}
use Rattle.addr_map.specs.Places.{objects_begin}
use Rattle.flat_code.specs.Routines.Metadata.{no_metadata}
use Rattle.metadata_relation.proofs.StartData.{are_start_entries, are_entries_of}
use Rattle.metadata_relation.proofs.laws.start_data.static_entries_are_those_of_tags.Goals as goal

pub returns-clause-start : goal.returns-clause-start
returns-clause-start c = λ map functions types ds small few lock sound last.
    are_start_entries map functions types (λ m a. no_metadata) small few lock (placed_data objects_begin ds 0) ds sound.at
    last

pub returns-clause-tags : goal.returns-clause-tags
returns-clause-tags c = λ map functions types entry ds small few lock sound.
    are_entries_of map functions types entry small few lock (placed_data objects_begin ds 0) ds sound.at
