use Rattle.c_lexer.proofs.Scanned.{front_fits}
use Rattle.c_lexer.proofs.scan.front_token.Goals as goal

pub returns-clause-within : goal.returns-clause-within
returns-clause-within c = front_fits c.args.text.now c.scan_valid.result c.scan_valid.ensures
