-- The bytes of a strict mail, as lines (RFC 5322, section 2.1): a grammar of bytes, which says nothing of how they are searched.
use Rattle.std.specs.Prelude.{◌≡◌, ◌⊎◌, ℕ, Bool, true, false, ◌||◌, not, ◌==◌, List, [], ◌∷◌, ◌++◌, codes}
use Rattle.mail_codec.specs.Ascii.{carriage_return, line_feed}
use Rattle.mail_codec.specs.Places.{begins}

-- ---- Each name by itself.

-- no byte is NUL. The cases:
pub data HasNoNul : List ℕ → Type 0 where
  -- no more bytes
  no_nul : HasNoNul []
  -- another byte
  not_nul : {b : ℕ} {rest : List ℕ} → (b == 0) ≡ false → HasNoNul rest → HasNoNul (b ∷ rest)

-- a LF follows each CR. The cases:
pub data HasNoLoneReturn : List ℕ → Type 0 where
  -- no more bytes
  no_return : HasNoLoneReturn []
  -- another byte
  not_return : {b : ℕ} {rest : List ℕ} → (b == carriage_return) ≡ false → HasNoLoneReturn rest → HasNoLoneReturn (b ∷ rest)
  -- a CR and a LF
  return_feed : {rest bytes : List ℕ} → HasNoLoneReturn rest → bytes ≡ carriage_return ∷ line_feed ∷ rest → HasNoLoneReturn bytes

-- no LF follows a CR. The cases:
pub data HasNoReturnFeed : List ℕ → Type 0 where
  -- no more bytes
  no_more : HasNoReturnFeed []
  -- another byte than CR
  any_other : {b : ℕ} {rest : List ℕ} → (b == carriage_return) ≡ false → HasNoReturnFeed rest → HasNoReturnFeed (b ∷ rest)
  -- a CR, and then the end or another byte than LF
  alone : {rest bytes : List ℕ} → begins (λ b. b == line_feed) rest ≡ false → HasNoReturnFeed rest
      → bytes ≡ carriage_return ∷ rest → HasNoReturnFeed bytes

-- each LF follows a CR. The cases:
pub data HasNoBareFeed : List ℕ → Type 0 where
  -- no more bytes
  no_feed : HasNoBareFeed []
  -- another byte than LF
  not_feed : {b : ℕ} {rest : List ℕ} → (b == line_feed) ≡ false → HasNoBareFeed rest → HasNoBareFeed (b ∷ rest)
  -- a CR and a LF
  after_return : {rest bytes : List ℕ} → HasNoBareFeed rest → bytes ≡ carriage_return ∷ line_feed ∷ rest → HasNoBareFeed bytes

-- the line ends CR LF and LF are not both there
abbrev pub HasOneLineEnd : List ℕ → Type 0
HasOneLineEnd bytes = HasNoReturnFeed bytes ⊎ HasNoBareFeed bytes

-- ---- All of them.

-- a byte of a line: neither NUL nor a byte of a line end
abbrev pub is_line_byte : ℕ → Bool
is_line_byte b = not (b == 0 || (b == carriage_return || b == line_feed))

-- Lines that end in this line end; after the last of them there may be a line without one. The cases:
pub data AreLines (line_end : List ℕ) : List ℕ → Type 0 where
  -- no more bytes
  no_line : AreLines line_end []
  -- a byte of a line
  in_line : {b : ℕ} {rest : List ℕ} → is_line_byte b ≡ true → AreLines line_end rest → AreLines line_end (b ∷ rest)
  -- a line end
  end_of_line : {rest bytes : List ℕ} → AreLines line_end rest → bytes ≡ line_end ++ rest → AreLines line_end bytes

-- lines that end in LF, or lines that end in CR LF
abbrev pub IsText : List ℕ → Type 0
IsText bytes = AreLines (codes "\n") bytes ⊎ AreLines (codes "\r\n") bytes

-- ---- one line end

abbrev pub IsLineEnd : List ℕ → Type 0
IsLineEnd bytes = (bytes ≡ codes "\n") ⊎ (bytes ≡ codes "\r\n")
