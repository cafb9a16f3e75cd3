-- The origin of a line: which file, which mail of a mailbox, and which bytes of the input; the program's own form.
use Rattle.std.specs.Prelude.{◌≡◌, ℕ, ◌-◌, List, take, drop, Option, option_map}
use Rattle.mail_json.specs.declared.origin.Origin as code

-- the name of the file, or none for standard input; the number of the mail in its mailbox, or none for a mail by
-- itself; and the offsets in the input at which it begins and ends
pub record Origin : Type 0 where
  pub file : Option (List ℕ)
  pub number : Option ℕ
  pub start : ℕ
  pub end : ℕ

-- the same of the program's origin
abbrev pub origin_of : code.Origin → Origin
origin_of origin = record { file = option_map (λ name. name.now) origin.file; number = origin.number; start = origin.start; end = origin.end }

-- the bytes of the input from the start to the end of an origin are this mail
abbrev pub HasMailAt : List ℕ → Origin → List ℕ → Type 0
HasMailAt bytes origin mail = take (origin.end - origin.start) (drop origin.start bytes) ≡ mail
