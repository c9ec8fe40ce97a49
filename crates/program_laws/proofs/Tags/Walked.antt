-- Whatever is typed keeps the tags of file scope.
use Rattle.std.proofs.Common.{◌≡◌, false, true, refl}
use Rattle.c_syntax.specs.Statements.{BlockItems}
use Rattle.c_operand_typing.specs.Primaries.{with_literal}
use Rattle.c_typing_state.specs.State.{State}
use Rattle.c_unit_typing.specs.Constructs.{Around}
use Rattle.c_unit_typing.specs.Files.{File}
use Rattle.c_unit_typing.specs.Statements.{block_items}
use Rattle.typing_laws.specs.Validity.Sound.{IsFormed}
use Rattle.typing_laws.specs.Declarators.Extending.{Extends}
use Rattle.typing_laws.proofs.Declarators.Parameters.{within}
use Rattle.typing_laws.specs.Scopes.Leaving.{FileLeads}
use Rattle.typing_laws.specs.Scopes.Regular.{are_regular_block_items}
use Rattle.typing_laws.proofs.Scopes.Statements.{IfFileBehind, items_walk, leads_walk}
use Rattle.program_laws.proofs.Tags.Declaring.{added_keeps, marked_keeps, structure_completes}
use Rattle.program_laws.proofs.Tags.Keeping.{Inside, KeepsTags, changes_keep, inner_keeps, keeps_on}
use Rattle.program_laws.proofs.Tags.Keeping.{stands_keep}
use Rattle.typing_laws.proofs.Walks.States.{StateWalk}
use Rattle.typing_laws.proofs.Walks.Statements.{Both, BothFiles, both_walk}

within_inside : (s : State) → Inside s (within s)
within_inside s = record { structures = refl; outer = refl; outer_tags = refl }

pub tags_walk : StateWalk (λ n. KeepsTags)
tags_walk = record {
  on = λ m n k low. keeps_on;
  stands = stands_keep;
  literal = λ bytes some s.
      changes_keep s (with_literal bytes s)
      (record { tags = refl; count = refl; bodies = refl; known = λ n k. k; scopes = refl; outer = refl });
  declares = λ k name s fresh. added_keeps s k name fresh;
  begins = marked_keeps;
  completes = structure_completes;
  scope = λ n s t u h left same_literals same_function. inner_keeps s (within s) t u (within_inside s) h left;
}

-- so do the items of blocks
pub items_keep : (a : Around) (xs : BlockItems) → are_regular_block_items xs ≡ true → (f : File) → IsFormed f.state
    → IfFileBehind (BothFiles FileLeads KeepsTags) f (block_items a xs f)
items_keep a xs c f formed =
    items_walk (Both (Extends false) KeepsTags) (BothFiles FileLeads KeepsTags) (both_walk leads_walk tags_walk) a xs c
    f formed
