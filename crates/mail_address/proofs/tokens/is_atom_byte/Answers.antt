use Rattle.std.proofs.Common.{sym, ◌∙◌, arith}
use Rattle.mail_address.proofs.lemmas.Tokens.{lowercase_atom}
use Rattle.mail_address.proofs.tokens.is_atom_byte.Goals as goal

pub returns-then-is_ascii_lowercase : goal.returns-then-is_ascii_lowercase
returns-then-is_ascii_lowercase c = lowercase_atom c.args.byte (omega arith) (sym c.is_ascii_lowercase.ensures.value ∙ c.if-is_ascii_lowercase.true)
