use Rattle.instruction_selection.proofs.start_data.put_tag.Goals as goal

pub function_address-address-requires : goal.function_address-address-requires
function_address-address-requires c = c.requires.function 0 c.in-OfFunction.function c.in-OfFunction.is
