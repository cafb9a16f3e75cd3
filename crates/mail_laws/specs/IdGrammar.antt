-- The form of a list of message ids: whitespace, and then any number of times `<`, an id, `>` and whitespace (RFC 5322, section 3.6.4, where an
-- id is any text without a `>`).
use Rattle.std.specs.Prelude.{◌≡◌, ◌≢◌, ℕ, true, false, List, [], ◌∷◌, ◌++◌}
use Rattle.std.specs.Str.{trim_start}
use Rattle.mail_codec.specs.Ascii.{less_than, greater_than}
use Rattle.mailparse.specs.MessageIds.{id_not_closed, id_not_opened, opens_id}
use Rattle.mailparse.specs.Refusal.{Refusal}
use Rattle.mail_laws.specs.Ids.{ContainsNoClosing}

-- a text is a list of these ids
pub data AreIds : List ℕ → List (List ℕ) → Type 0 where
  -- whitespace alone, without a `>`, has none
  no_ids : {text : List ℕ} → ContainsNoClosing text → trim_start text ≡ [] → AreIds text []
  -- before the first `>` there are whitespace, `<` and an id, and after it the other ids
  one_more : {text : List ℕ} (opened id rest : List ℕ) {ids : List (List ℕ)} → text ≡ opened ++ greater_than ∷ rest → ContainsNoClosing opened
      → trim_start opened ≡ less_than ∷ id → AreIds rest ids → AreIds text (id ∷ ids)

-- a text breaks the form, and this is the refusal of its first violation
pub data Breaks : List ℕ → Refusal → Type 0 where
  -- there is something other than whitespace and `<` where an id may start
  not_opened : {text : List ℕ} → ContainsNoClosing text → trim_start text ≢ [] → opens_id text ≡ false → Breaks text id_not_opened
  not_opened_before : {text : List ℕ} (piece rest : List ℕ) → text ≡ piece ++ greater_than ∷ rest → ContainsNoClosing piece → opens_id piece ≡ false
      → Breaks text id_not_opened
  -- no `>` follows a `<`
  not_closed : {text : List ℕ} → ContainsNoClosing text → opens_id text ≡ true → Breaks text id_not_closed
  -- an id is complete, and the bytes after its `>` break the form
  later : {text : List ℕ} (opened rest : List ℕ) {refusal : Refusal} → text ≡ opened ++ greater_than ∷ rest → ContainsNoClosing opened
      → opens_id opened ≡ true → Breaks rest refusal → Breaks text refusal
