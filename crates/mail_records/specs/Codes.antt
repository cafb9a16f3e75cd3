-- The codes that the exported calls return; the crate's own form.
use Rattle.std.specs.Prelude.{◌≡◌, ◌⊎◌, ℕ, List, [], ◌∷◌, ◌==◌, Result, Ok, Err, codes, if◌then◌else◌}
use Rattle.std.specs.Option.{option_map_or}
use Rattle.mailparse.specs.Refusal.{Reads, Refusal}
use Rattle.mailparse.specs.RefusalKinds.{error_kind, kind_of}
use Rattle.mailparse.specs.declared.error.MailParseError.{MailParseError}
use Rattle.mailparse.specs.declared.error.RefusalKind.{RefusalKind}
use Rattle.mailparse.specs.declared.error.RefusalKind.TheVariants.{LeadingSpace, LoneCarriageReturn, TooDeep, TooMany, NotBase64, NotText, Other}
use Rattle.mail_read.specs.declared.lenient.date.error.DateError.{DateError}
use Rattle.mail_read.specs.declared.lenient.date.error.DateError.TheVariants.{Day, Month, Year, Time, Zone, TrailingText}

-- the call succeeded
abbrev pub done : ℕ
done = 0

-- the output buffer is too short for the result
abbrev pub too_short : ℕ
too_short = 1

-- memory ran out
abbrev pub no_memory : ℕ
no_memory = 2

-- there is no such header, name, id or report, or no further mail
abbrev pub absent : ℕ
absent = 3

-- a text is not UTF-8
abbrev pub not_utf8 : ℕ
not_utf8 = 20

-- there are more records than the limit
abbrev pub too_many : ℕ
too_many = 22

-- there are bytes, but no line that begins a mail of a mailbox
abbrev pub no_mailbox : ℕ
no_mailbox = 23

-- the code of a kind of refusal
abbrev pub kind_code : RefusalKind → ℕ
kind_code LeadingSpace = 16
kind_code LoneCarriageReturn = 17
kind_code TooDeep = 18
kind_code TooMany = too_many
kind_code NotBase64 = 19
kind_code NotText = not_utf8
kind_code Other = 21

-- the code of a refusal
abbrev pub refusal_code : Refusal → ℕ
refusal_code refusal = kind_code (kind_of refusal)

-- the result of a reading, or the code of its refusal
abbrev pub coded : {A : Type 0} → Reads A → Result A ℕ
coded (Ok x) = Ok x
coded (Err refusal) = Err (refusal_code refusal)

-- the result, seen by the view, is that of the definition, or memory ran out
abbrev pub IsCoded : {X Y : Type 0} → (X → Y) → Result X ℕ → Result Y ℕ → Type 0
IsCoded view (Ok x) given = given ≡ Ok (view x)
IsCoded view (Err code) given = (code ≡ no_memory) ⊎ (given ≡ Err code)

-- the result is right, or memory ran out
abbrev pub IsOrMemory : {X : Type 0} → (X → Type 0) → Result X ℕ → Type 0
IsOrMemory Is (Ok x) = Is x
IsOrMemory Is (Err code) = code ≡ no_memory

-- the code of an error: that of its kind of refusal, or that memory ran out
abbrev pub error_code : MailParseError → ℕ
error_code e = option_map_or kind_code (error_kind e) no_memory

-- the code for what is missing or wrong in a date
abbrev pub date_code : DateError → ℕ
date_code Day = 32
date_code Month = 33
date_code Year = 34
date_code Time = 35
date_code Zone = 36
date_code TrailingText = 37

-- the text of each code
abbrev pub texts : List (ℕ × List ℕ)
texts =
    (0, codes "done") ∷ (1, codes "the buffer is too short") ∷ (2, codes "out of memory") ∷ (3, codes "not found")
    ∷ (16, codes "Header cannot start with a space; it is likely an overhanging line from a previous header")
    ∷ (17, codes "Headers were followed by an unexpected lone CR character!") ∷ (18, codes "Recursion limit reached")
    ∷ (19, codes "Base64 decode error") ∷ (20, codes "The text is not UTF-8") ∷ (21, codes "The input is refused")
    ∷ (22, codes "Too many parts and headers") ∷ (23, codes "The bytes are not a mailbox")
    ∷ (32, codes "no day of the month") ∷ (33, codes "no month") ∷ (34, codes "no year") ∷ (35, codes "no time of day") ∷ (36, codes "no zone")
    ∷ (37, codes "text after the zone") ∷ []

-- the text of the first pair with this code
abbrev pub text_numbered : ℕ → List (ℕ × List ℕ) → List ℕ
text_numbered code [] = codes "unknown code"
text_numbered code (pair ∷ rest) = if pair.0 == code then pair.1 else text_numbered code rest

-- the text of a code
abbrev pub reason : ℕ → List ℕ
reason code = text_numbered code texts
