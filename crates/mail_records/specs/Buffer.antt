-- What the exported calls write to the output buffer; the crate's own form.
use Rattle.std.specs.Prelude.{◌≡◌, ◌⊎◌, ℕ, Bool, ◌&&◌, List, ◌++◌, length, drop, nat_le, Option, Some, None, Result, Ok, Err, if◌then◌else◌, option_map}
use Rattle.std.specs.Global.{Vec}
use Rattle.mailparse.specs.Outcome.{refusal_of}
use Rattle.mailparse.specs.Refusal.{Reads, Refusal}
use Rattle.mailparse.specs.declared.error.MailParseError.{MailParseError}
use Rattle.mailparse.specs.declared.error.MailParseError.TheVariants.{Memory}
use Rattle.mail_records.specs.Codes.{absent, done, error_code, no_memory, refusal_code, too_short}

-- items fit into a buffer
abbrev pub fits : {A : Type 0} → List A → List A → Bool
fits buffer items = nat_le (length items) (length buffer)

-- the code of writing items that fit or not
abbrev pub code_if : Bool → ℕ
code_if fit = if fit then done else too_short

-- the buffer after that: the items, and then its old content after them; unchanged if they do not fit
abbrev pub filled_if : {A : Type 0} → Bool → List A → List A → List A
filled_if fit buffer items = if fit then items ++ drop (length items) buffer else buffer

-- the same of one buffer
abbrev pub written_code : {A : Type 0} → List A → List A → ℕ
written_code buffer items = code_if (fits buffer items)

abbrev pub filled : {A : Type 0} → List A → List A → List A
filled buffer items = filled_if (fits buffer items) buffer items

-- the bytes that a call finds, if there are any, or the refusal of its input
abbrev pub Found : Type 0
Found = Reads (Option (List ℕ))

-- the bytes that were found, if there are any
abbrev pub bytes_found : Option (Vec ℕ) → Option (List ℕ)
bytes_found found = option_map (λ bytes. bytes.items) found

-- an error is the refusal that is to be returned, or memory ran out
abbrev pub IsWhy : (Found → Type 0) → MailParseError → Type 0
IsWhy Is (Memory e) = Unit {0}
IsWhy Is e = (refusal : Refusal) × (refusal_of e ≡ Some refusal) × Is (Err refusal)

-- a result is what is to be found, or the refusal that is to be returned, or memory ran out
abbrev pub Gives : (Found → Type 0) → Result (Option (Vec ℕ)) MailParseError → Type 0
Gives Is (Ok found) = Is (Ok (bytes_found found))
Gives Is (Err e) = IsWhy Is e

-- The buffer and the length needed, before and after a call, and the code that it returns.
module _ (old new : List ℕ) (length_before needed code : ℕ) where
  -- both are unchanged
  abbrev pub IsUnchanged : Type 0
  IsUnchanged = (new ≡ old) × (needed ≡ length_before)

  -- the bytes were written to the buffer, and their length to the length needed; both are unchanged if nothing was found or the input is
  -- refused, and the buffer is unchanged if the bytes do not fit
  abbrev pub Writes : Found → Type 0
  Writes (Ok (Some bytes)) = (code ≡ written_code old bytes) × (new ≡ filled old bytes) × (needed ≡ length bytes)
  Writes (Ok None) = (code ≡ absent) × IsUnchanged
  Writes (Err refusal) = (code ≡ refusal_code refusal) × IsUnchanged

  -- the same of the result of a reading; the code of an error is its own
  abbrev pub WritesResult : Result (Option (Vec ℕ)) MailParseError → Type 0
  WritesResult (Ok found) = Writes (Ok (bytes_found found))
  WritesResult (Err e) = (code ≡ error_code e) × IsUnchanged

  -- the call wrote what is to be found; or memory ran out, and both are unchanged
  abbrev pub Ends : (Found → Type 0) → Type 0
  Ends Is = ((code ≡ no_memory) × IsUnchanged) ⊎ ((found : Found) × Is found × Writes found)

-- An output buffer of records or of numbers, before and after a call, and the length needed.
pub record Output (A : Type 0) : Type 0 where
  pub old : List A
  pub new : List A
  pub before : ℕ
  pub needed : ℕ

abbrev pub output : {A : Type 0} → List A → List A → ℕ → ℕ → Output A
output old new before needed = record { old = old; new = new; before = before; needed = needed }

-- the buffer and the length needed are unchanged
abbrev pub IsKept : {A : Type 0} → Output A → Type 0
IsKept out = (out.new ≡ out.old) × (out.needed ≡ out.before)

-- items were written to the buffer, if all that the call writes fits, and their number to the length needed
abbrev pub IsFilled : {A : Type 0} → Bool → Output A → List A → Type 0
IsFilled fit out items = (out.new ≡ filled_if fit out.old items) × (out.needed ≡ length items)

-- a result or its code, seen by the view
abbrev pub seen : {X Y : Type 0} → (X → Y) → Result X ℕ → Result Y ℕ
seen view (Ok x) = Ok (view x)
seen view (Err code) = Err code

-- what was found was written to a buffer, or the code is that of the refusal
abbrev pub WritesItems : {A : Type 0} → Output A → ℕ → Result (List A) ℕ → Type 0
WritesItems out code (Ok items) = (code ≡ written_code out.old items) × IsFilled (fits out.old items) out items
WritesItems out code (Err why) = (code ≡ why) × IsKept out

-- the same of two buffers; both are unchanged if one is too short
abbrev pub WritesBoth : {A B : Type 0} → Output A → Output B → ℕ → Result (List A × List B) ℕ → Type 0
WritesBoth first second code (Ok found) =
    let fit = fits first.old found.0 && fits second.old found.1 in
    (code ≡ code_if fit) × IsFilled fit first found.0 × IsFilled fit second found.1
WritesBoth first second code (Err why) = (code ≡ why) × IsKept first × IsKept second

-- that was written, or memory ran out and all is unchanged
abbrev pub EndsItems : {A : Type 0} → Output A → ℕ → Result (List A) ℕ → Type 0
EndsItems out code given = ((code ≡ no_memory) × IsKept out) ⊎ WritesItems out code given

abbrev pub EndsBoth : {A B : Type 0} → Output A → Output B → ℕ → Result (List A × List B) ℕ → Type 0
EndsBoth first second code given = ((code ≡ no_memory) × IsKept first × IsKept second) ⊎ WritesBoth first second code given
