-- The addresses in the headers of a mail, and its sender: RFC 5322, sections 3.6.2 and 3.6.3.
use Rattle.std.specs.Prelude.{ℕ, List, [], ◌∷◌, flat_map, Option, Some, None, codes, if◌then◌else◌}
use Rattle.std.specs.Option.{is_some, option_or}
use Rattle.mailparse.specs.Header.{Header}
use Rattle.mailparse.specs.Map.{all_with_key}
use Rattle.mail_address.specs.Addresses.{Element, Single, addresses, single}

-- the elements in the values of some headers, in order
abbrev pub addresses_in : List Header → List Element
addresses_in headers = flat_map (λ h. addresses h.value) headers

-- the elements in all headers with this name, in the order of the mail
unfoldable pub addresses_of : List ℕ → List Header → List Element
addresses_of name headers = addresses_in (all_with_key name headers)

-- the only element, if it is a mailbox
abbrev pub only_mailbox : List Element → Option Single
only_mailbox (single s ∷ []) = if is_some s.mailbox then Some s else None
only_mailbox _ = None

-- the sender of a mail: the only mailbox of its `Sender`, or else that of its `From`
unfoldable pub sender_of : List Header → Option Single
sender_of headers =
    option_or (only_mailbox (addresses_of (codes "Sender") headers)) (only_mailbox (addresses_of (codes "From") headers))
