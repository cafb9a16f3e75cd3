-- Message ids whose text reads back.
use Rattle.std.specs.Prelude.{◌≡◌, ℕ, false, List}
use Rattle.std.specs.List.{list_any}
use Rattle.mailparse.specs.MessageIds.{is_closing}

-- an id that contains no `>`
abbrev pub ContainsNoClosing : List ℕ → Type 0
ContainsNoClosing id = list_any is_closing id ≡ false
