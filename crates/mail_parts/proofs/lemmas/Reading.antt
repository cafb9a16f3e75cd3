-- Lemmas on how a mail is read whose uuencoded files are listed.
use Rattle.std.proofs.Common.{◌≡◌, ℕ, zero, suc, ◌+◌, ◌-◌, ◌<◌, ◌≤◌, Bool, true, false, List, [], ◌∷◌, length, drop, nat_lt, Option, Some, None, Ok, Err, refl, sym, ap, subst, ◌∙◌, arith, inl, inr, length-drop}
use Rattle.std.specs.Prelude.{◌&&◌, filter, if◌then◌else◌}
use Rattle.std.specs.Cow.{cow_str_bytes}
use Rattle.std.specs.List.{list_any}
use Rattle.std.specs.Option.{option_map_or}
use Rattle.std.specs.Result.{result_err}
use Rattle.std.proofs.lemmas.Bool.{cases_lt, le-ltb, lt-ltb}
use Rattle.std.proofs.lemmas.List.{drop-drop}
use Rattle.mail_codec.specs.Charset.{Charsets}
use Rattle.mail_codec.specs.Uuencode.{File, first_file}
use Rattle.mailparse.specs.Mail.{Tree, root, trees_within}
use Rattle.mailparse.specs.Outcome.{IsMemory, IsRefusalOrMemory, refusal_of}
use Rattle.mailparse.specs.Refusal.{◌>>=◌, Reads, Refusal, base64_fault, encoding, generic, too_many_items}
use Rattle.mailparse.specs.declared.error.MailParseError.{MailParseError}
use Rattle.mailparse.specs.declared.error.MailParseError.TheVariants.{QuotedPrintableDecodeError, Base64DecodeError, EncodingError, Generic, Memory}
use Rattle.mail_read.specs.InnerMails.{Forwarded, forwarded}
use Rattle.mail_read.specs.PartPlaces.{Place}
use Rattle.mail_read.specs.Reading.{mail_placements}
use Rattle.mail_read.specs.Reading as plain
use Rattle.mail_data.specs.TextFiles.{TextFile, blocks_from, is_file, is_plain_text, text_file, text_files}
use Rattle.mail_read.specs.lenient.Content.{message_content}
use Rattle.mail_read.proofs.lemmas.InnerMails.{forwarded_read_by, forwarded_with, inner_with, not_forwarded_by}
use Rattle.mail_parts.specs.Reading.{has_many_blocks, has_many_files, mail_reading, mails_below, mails_in_place, with_all_files}

-- a mail that is read is read without this rule
with-all : (limit : ℕ) (reading : Reads Tree) (t : Tree) → ◌>>=◌ reading (with_all_files limit) ≡ Ok t → reading ≡ Ok t
with-all limit (Err refusal) t e = absurd (cc)
with-all limit (Ok mail) t e = by_files (list_any (has_many_files limit) (trees_within mail)) e
  where
    by_files : (many : Bool) → (if many then Err too_many_items else Ok mail) ≡ Ok t → ◌≡◌ {A = Reads Tree} (Ok mail) (Ok t)
    by_files true e = absurd (cc)
    by_files false e = e

pub all-read : (known : Charsets) (limit : ℕ) (bytes : List ℕ) (t : Tree) → mail_reading known limit bytes ≡ Ok t
    → plain.mail_reading known limit bytes ≡ Ok t
unfolding mail_reading
all-read known limit bytes t e = with-all limit (plain.mail_reading known limit bytes) t e

-- the refusal of an error that is not the end of memory
pub refused_or_memory : {Y : Type 0} (e : MailParseError) (given : Reads Y) → (IsMemory e → ⊥) → IsRefusalOrMemory e given
    → (r : Refusal) × (refusal_of e ≡ Some r) × (given ≡ Err r)
refused_or_memory (QuotedPrintableDecodeError fault) given n h = absurd h
refused_or_memory (Base64DecodeError fault) given n h = (base64_fault fault.group, refl, h)
refused_or_memory (EncodingError text) given n h = (encoding (cow_str_bytes text), refl, h)
refused_or_memory (Generic text) given n h = (generic text.now, refl, h)
refused_or_memory (Memory e) given n h = absurd (n tt)

-- ---- the mail in a part

-- it was read so, or there is none
pub forwarded_read : (known : Charsets) (limit most : ℕ) (start at : Option ℕ) (place : Place) (bytes : List ℕ) (read : Reads Tree)
    → ◌≡◌ {A = Option Forwarded} (Some (forwarded_with bytes at)) (forwarded start place) → mail_reading known limit bytes ≡ read
    → mails_in_place known limit most start place ≡ inner_with place.path bytes at (result_err read) ∷ mails_below known limit most place.path at read
forwarded_read known limit = forwarded_read_by (mail_reading known limit) mail_placements

pub not_forwarded : (known : Charsets) (limit most : ℕ) (start : Option ℕ) (place : Place) → ◌≡◌ {A = Option Forwarded} None (forwarded start place)
    → mails_in_place known limit most start place ≡ []
not_forwarded known limit = not_forwarded_by (mail_reading known limit) mail_placements

-- ---- the blocks of a text

-- that the blocks after an offset are more than those that are left says that there are more than the limit
pub record Searched (limit : ℕ) (text : List ℕ) (left at : ℕ) : Type 0 where
  pub within : at ≤ length text
  pub same : nat_lt left (length (blocks_from (suc left) at (drop at text))) ≡ has_many_blocks limit text

pub searched-start : (limit : ℕ) (text : List ℕ) → Searched limit text limit 0
searched-start limit text = record { within = omega arith; same = refl }

-- the blocks from the first one on, or none
abbrev first_and_rest : ℕ → ℕ → List ℕ → Option File → List TextFile
first_and_rest most offset rest found =
    option_map_or (λ file. text_file offset rest file ∷ blocks_from most (offset + file.block.end) (drop file.block.end rest)) found []

blocks-first : (most offset : ℕ) (rest : List ℕ) (found : Option File) → found ≡ first_file rest
    → blocks_from (suc most) offset rest ≡ first_and_rest most offset rest found
blocks-first most offset rest found is = ap (first_and_rest most offset rest) (sym is)

none-more : (n : ℕ) → false ≡ nat_lt n 0
none-more n = sym (le-ltb n 0 (omega arith))

lt_suc : (m n : ℕ) → nat_lt (suc m) (suc n) ≡ nat_lt m n
lt_suc m n = elim (cases_lt m n) [
  | inl before ↦ lt-ltb (suc m) (suc n) (omega arith) ∙ sym (lt-ltb m n before)
  | inr past ↦ le-ltb (suc m) (suc n) (omega arith) ∙ sym (le-ltb m n past)
]

pub searched-none : (limit : ℕ) (text : List ℕ) (left at : ℕ) → Searched limit text left at → None ≡ first_file (drop at text)
    → false ≡ has_many_blocks limit text
searched-none limit text left at searched is =
    none-more left ∙ ap (λ (blocks : List TextFile). nat_lt left (length blocks)) (sym (blocks-first left at (drop at text) None is)) ∙ searched.same

pub searched-over : (limit : ℕ) (text : List ℕ) (left at : ℕ) (file : File) → Searched limit text left at → Some file ≡ first_file (drop at text)
    → left ≡ 0 → true ≡ has_many_blocks limit text
searched-over limit text left at file searched is over =
    let zero_left : Searched limit text 0 at = subst (λ (n : ℕ). Searched limit text n at) over searched in
    ap (λ (blocks : List TextFile). nat_lt 0 (length blocks)) (sym (blocks-first 0 at (drop at text) (Some file) is)) ∙ zero_left.same

searched-one : (limit : ℕ) (text : List ℕ) (most at : ℕ) (file : File) → Searched limit text (suc most) at → Some file ≡ first_file (drop at text)
    → file.block.end ≤ length (drop at text) → Searched limit text most (at + file.block.end)
searched-one limit text most at file searched is low =
    let on : drop file.block.end (drop at text) ≡ drop (at + file.block.end) text = drop-drop file.block.end at text in
    record {
      within = omega (arith, searched.within, low, length-drop at text);
      same =
          ap (λ (rest : List ℕ). nat_lt most (length (blocks_from (suc most) (at + file.block.end) rest))) (sym on)
          ∙ sym (lt_suc most (length (blocks_from (suc most) (at + file.block.end) (drop file.block.end (drop at text)))))
          ∙ ap (λ (blocks : List TextFile). nat_lt (suc most) (length blocks)) (sym (blocks-first (suc most) at (drop at text) (Some file) is))
          ∙ searched.same;
    }

-- a block was found, and more may come
pub searched-more : (limit : ℕ) (text : List ℕ) (left at : ℕ) (file : File) (rest : List ℕ) → rest ≡ drop at text → Searched limit text left at
    → 0 < left → Some file ≡ first_file rest → file.block.end ≤ length rest → Searched limit text (left - 1) (at + file.block.end)
searched-more limit text left at file rest rest_is searched some is low =
    searched-one limit text (left - 1) at file (subst (λ (n : ℕ). Searched limit text n at) (omega arith) searched) (is ∙ ap first_file rest_is)
    (subst (λ (r : List ℕ). file.block.end ≤ length r) rest_is low)

-- ---- all files of a text

blocks-none : (most offset : ℕ) (rest : List ℕ) → None ≡ first_file rest → blocks_from most offset rest ≡ []
blocks-none zero offset rest is = refl
blocks-none (suc most) offset rest is = blocks-first most offset rest None is

-- there are no more blocks than these
abbrev Whole : ℕ → ℕ → List ℕ → Type 0
Whole most offset rest = nat_lt most (length (blocks_from (suc most) offset rest)) ≡ false

-- so there are no more with a greater limit
abbrev Stay : ℕ → ℕ → Type 0
Stay most greater =
    (offset : ℕ) (rest : List ℕ) → most ≤ greater → Whole most offset rest → blocks_from greater offset rest ≡ blocks_from most offset rest

blocks-whole : (most greater : ℕ) → Stay most greater
blocks-whole zero greater offset rest low whole = by_first (first_file rest) refl
  where
    by_first : (found : Option File) → found ≡ first_file rest → blocks_from greater offset rest ≡ blocks_from zero offset rest
    by_first None is = blocks-none greater offset rest is
    by_first (Some file) is =
        let one : ◌≡◌ {A = Bool} true false =
        ap (λ (blocks : List TextFile). nat_lt 0 (length blocks)) (sym (blocks-first 0 offset rest (Some file) is)) ∙ whole in
        absurd (cc)
blocks-whole (suc most) zero offset rest low whole = absurd (omega arith)
blocks-whole (suc most) (suc greater) offset rest low whole = by_first (first_file rest) refl (blocks-whole most greater) (omega arith)
  where
    by_first : (found : Option File) → found ≡ first_file rest → Stay most greater → most ≤ greater
        → blocks_from (suc greater) offset rest ≡ blocks_from (suc most) offset rest
    by_first None is stay below = blocks-none (suc greater) offset rest is ∙ sym (blocks-none (suc most) offset rest is)
    by_first (Some file) is stay below =
        let after = offset + file.block.end in
        let rest_after = drop file.block.end rest in
        let later : Whole most after rest_after =
        sym (lt_suc most (length (blocks_from (suc most) after rest_after)))
        ∙ ap (λ (blocks : List TextFile). nat_lt (suc most) (length blocks)) (sym (blocks-first (suc most) offset rest (Some file) is)) ∙ whole in
        blocks-first greater offset rest (Some file) is
        ∙ ap (λ (blocks : List TextFile). text_file offset rest file ∷ blocks) (stay after rest_after below later)
        ∙ sym (blocks-first most offset rest (Some file) is)

pub all_files : (limit greater : ℕ) (text : List ℕ) → has_many_blocks limit text ≡ false → limit ≤ greater
    → text_files greater text ≡ text_files limit text
unfolding text_files
all_files limit greater text whole low = ap (filter is_file) (blocks-whole limit greater 0 text low whole)

-- ---- one part

few : (plain over many : Bool) → over ≡ false → false ≡ (plain && (over && many))
few true false many h = refl
few false false many h = refl
few plain true many h = absurd (cc)

all : (plain over many : Bool) → plain ≡ true → over ≡ true → many ≡ (plain && (over && many))
all true true many h k = refl
all true false many h k = absurd (cc)
all false over many h k = absurd (cc)

-- its body has few bytes
pub few_bytes : (limit : ℕ) (part : Tree) (raw : List ℕ) → raw ≡ (root part).body → length raw ≤ limit → false ≡ has_many_files limit part
few_bytes limit part raw same low =
    let size : length (root part).body ≤ limit = subst (λ (bytes : List ℕ). length bytes ≤ limit) same low in
    few (is_plain_text part) (nat_lt limit (length (root part).body)) (has_many_blocks limit (message_content (root part)).bytes)
    (le-ltb limit (length (root part).body) size)

-- its body has more, and is decoded
pub many_bytes : (limit : ℕ) (part : Tree) (raw text : List ℕ) (is : Bool) → raw ≡ (root part).body → limit < length raw
    → is_plain_text part ≡ true → text ≡ (message_content (root part)).bytes → is ≡ has_many_blocks limit text → is ≡ has_many_files limit part
many_bytes limit part raw text is same long plain read found =
    let size : limit < length (root part).body = subst (λ (bytes : List ℕ). limit < length bytes) same long in
    found ∙ ap (has_many_blocks limit) read
    ∙ all (is_plain_text part) (nat_lt limit (length (root part).body)) (has_many_blocks limit (message_content (root part)).bytes) plain
    (lt-ltb limit (length (root part).body) size)
