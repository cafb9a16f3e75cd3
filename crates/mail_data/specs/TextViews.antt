-- What a contract sees of a part that was looked for.
use Rattle.std.specs.Prelude.{Option, option_map}
use Rattle.std.specs.Borrow.{Bor}
use Rattle.mailparse.specs.Mail.{Tree}
use Rattle.mailparse.specs.Views.{tree_of}
use Rattle.mailparse.specs.declared.mail.message.ParsedMail.{ParsedMail}

-- the part that was found, if one was
abbrev pub tree_found : Option (Bor ParsedMail) → Option Tree
tree_found found = option_map (λ m. tree_of m.now) found
