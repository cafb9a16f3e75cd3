-- Lemmas on the mails of an input that are saved one after another.
use Rattle.std.proofs.Common.{◌≡◌, ℕ, Bool, true, false, cond, List, [], ◌∷◌, ◌++◌, Option, None, Some, Result, Ok, Err, IfSome, option_map, length, take, drop, refl, sym, ap, subst, ◌∙◌, append_assoc}
use Rattle.std.proofs.KnownBytes.{Appends-nil, Consumes-trans}
use Rattle.std.proofs.lemmas.Bool.{cond-false, cond-true}
use Rattle.std.specs.Char.{is_ascii_whitespace}
use Rattle.std.specs.List.{list_all}
use Rattle.std.proofs.lemmas.List.{append-nil, length-take-le, take-append-le}
use Rattle.std.proofs.lemmas.List.Elements.{All-nil, All-push}
use Rattle.std.specs.Io.KnownBytes.{Appends, Consumes, IsAtEnd}
use Rattle.std.specs.Prelude.{codes}
use Rattle.mail_codec.specs.Charset.{Charsets}
use Rattle.std.specs.Cow.{cow_str_bytes}
use Rattle.mailparse.specs.Mail.{Tree}
use Rattle.mailparse.specs.Outcome.{IsRefusalOrMemory, refusal_of}
use Rattle.mailparse.specs.Refusal.{Reads, Refusal, base64_fault, encoding, generic}
use Rattle.mailparse.specs.declared.error.MailParseError.{MailParseError}
use Rattle.mailparse.specs.declared.error.MailParseError.TheVariants.{Base64DecodeError, EncodingError, Generic, Memory, QuotedPrintableDecodeError}
use Rattle.mail_read.specs.FileNames.{IsSafeName}
use Rattle.mail_extract.specs.FileLine.{FileLine}
use Rattle.mail_program.specs.Refusal.{refusal_text}
use Rattle.mail_data.specs.Mailbox.{Entry, front_length, has_front}
use Rattle.mail_data.specs.MailboxFormats.{entries_in, mail_in}
use Rattle.mail_data.specs.declared.mailbox.formats.Format.{Format}
use Rattle.mail_data.proofs.lemmas.MailboxFormats.{front_in-stays}
use Rattle.mail_data.proofs.lemmas.MailboxFound.{front-stays}
use Rattle.mail_data.proofs.lemmas.MailboxParts.{front_length-≤}
use Rattle.mail_walk.proofs.lemmas.Wanted.{form_stays}
use Rattle.mail_parts.specs.DecodedSize.{bounded_reading}
use Rattle.mail_walk.specs.Kind.{format_of, is_mailbox}
use Rattle.mail_walk.specs.Offsets.{saturating_add}
use Rattle.mail_walk.specs.Wanted.{first_wanted, is_there}
use Rattle.mail_walk.specs.declared.kind.InputKind.{InputKind}
use Rattle.mail_program.specs.Fault.{IsEnd, IsFault}
use Rattle.mail_program.specs.Outcome.{worse}
use Rattle.mail_program.specs.declared.fault.Fault.{Fault}
use Rattle.mail_program.specs.declared.fault.Fault.TheVariants.{Input, Mail, Output}
use Rattle.mail_program.specs.declared.outcome.Outcome.{Outcome}
use Rattle.mail_program.specs.declared.outcome.Outcome.TheVariants.{Clean}
use Rattle.mail_extract.specs.Directory.{File}
use Rattle.mail_extract.specs.Input.{AreMails, AreSafe, Ends, EndsInput, IsInput, IsInputOf, IsMail, IsMailOf, IsMailbox, Only, Saved, Saves, Then, front_lines, refused_line}
use Rattle.mail_extract.specs.Naming.{Options}
use Rattle.mail_extract.specs.Report.{WritesAll, lines_text}
use Rattle.mail_extract.specs.private.Blocks.{Before, EndsAfter}
use Rattle.mail_extract.proofs.lemmas.Saves.{Implies, appends_flushed, before_as, before_last, before_then, saved_as, saved_flushed, saved_lines}

-- ---- texts before the first mail

-- the text before the first mail, whatever follows
pub front_after : (format : Format) (read front rest later : List ℕ) → has_front read ≡ true → front ≡ take (front_length read) read → rest ≡ drop (length front) read
    → (front ≡ take (front_length (read ++ later)) (read ++ later)) × (entries_in format (rest ++ later) ≡ entries_in format (read ++ later))
front_after format read front rest later settled is_front is_rest =
    let stays = front-stays read later settled in
    let size : length front ≡ front_length read = ap length is_front ∙ length-take-le (front_length read) read (front_length-≤ read) in (
      is_front ∙ sym (ap (λ (n : ℕ). take n (read ++ later)) stays.0 ∙ take-append-le (front_length read) read later (front_length-≤ read)),
      ap (λ (bytes : List ℕ). entries_in format (bytes ++ later)) (is_rest ∙ ap (λ (n : ℕ). drop n read) size) ∙ sym (front_in-stays format read later settled),
    )

-- ---- single lines

none-some : (text : List ℕ) → ◌≡◌ {A = Option (List ℕ)} (Some text) None → ⊥
none-some text e = cc

some-is : (a b : List ℕ) → ◌≡◌ {A = Option (List ℕ)} (Some a) (Some b) → a ≡ b
some-is a b e = cc

-- no text comes before the first mail
pub front_clean : (file : Option (List ℕ)) (front : List ℕ) (old : Option (List ℕ)) → list_all is_ascii_whitespace front ≡ true
    → WritesAll old old (Ok Clean) (front_lines file front)
front_clean file front old e =
    subst (λ (lines : List FileLine). WritesAll old old (Ok Clean) lines) (sym (cond-true (list_all is_ascii_whitespace front) [] _ e)) (Appends-nil old, refl)

-- some text does
pub front_refused : (file : Option (List ℕ)) (front : List ℕ) (old new : Option (List ℕ)) (r : Result Outcome Fault) → list_all is_ascii_whitespace front ≡ false
    → WritesAll old new r (refused_line file None None (codes "The mailbox does not begin with a separator") ∷ []) → WritesAll old new r (front_lines file front)
front_refused file front old new r e h =
    subst (λ (lines : List FileLine). WritesAll old new r lines) (sym (cond-false (list_all is_ascii_whitespace front) [] _ e)) h

-- such a line names no file
pub refused_safe : (file : Option (List ℕ)) (number : Option ℕ) (path : Option (List ℕ)) (error : List ℕ) → AreSafe (refused_line file number path error ∷ [])
refused_safe file number path error = All-push (λ (line : FileLine). IfSome line.saved IsSafeName) [] (refused_line file number path error) (All-nil (λ (line : FileLine). IfSome line.saved IsSafeName)) tt

front_safe : (file : Option (List ℕ)) (text : List ℕ) (is : Bool) → AreSafe (cond is [] (refused_line file None None text ∷ []))
front_safe file text true = (All-nil (λ (line : FileLine). IfSome line.saved IsSafeName))
front_safe file text false = refused_safe file None None text

-- the text before the first mail was reported
pub front_saved : (file : Option (List ℕ)) (front : List ℕ) (held : Option (List File)) (old new : Option (List ℕ)) (from : ℕ) (outcome : Outcome)
    → WritesAll old new (Ok outcome) (front_lines file front) → Saved held held old new from from outcome (Only (front_lines file front))
front_saved file front held old new from outcome h = saved_lines held old new from outcome (front_lines file front) (front_safe file _ (list_all is_ascii_whitespace front)) h

-- ---- what was read

end_is_fault : (fault : Fault) → IsEnd fault → IsFault fault
end_is_fault (Mail e) h = h
end_is_fault (Input e) h = absurd h
end_is_fault (Output e) h = tt

-- For a directory and a writer.
module _ (held_old held_new : Option (List File)) (old new : Option (List ℕ)) (from next : ℕ) where
  -- the files of an input that was read to its end
  pub ends_whole : (left_before left : Option (List ℕ)) (r : Result Outcome Fault) (all : List ℕ) (Are : Saves) (Those : List ℕ → Saves)
      → Consumes left_before left all → IsAtEnd left
      → Implies Are (Those all)
      → Ends held_old held_new old new from next r Are → EndsInput held_old held_new old new from next left_before left r Those
  ends_whole left_before left (Ok outcome) all Are Those read end same h = (all, read, end, saved_as held_old held_new old new from next outcome Are (Those all) same h)
  ends_whole left_before left (Err fault) all Are Those read end same h = end_is_fault fault h

  -- the files of an input of which some was read at first
  pub ends_after : (left_before mid left : Option (List ℕ)) (bytes read : List ℕ) (r : Result Outcome Fault) (Are Those : List ℕ → Saves)
      → Consumes left_before mid read
      → ((more : List ℕ) → Implies (Are (bytes ++ more)) (Those (read ++ more)))
      → EndsAfter held_old held_new old new from next bytes mid left r Are → EndsInput held_old held_new old new from next left_before left r Those
  ends_after left_before mid left bytes read (Ok outcome) Are Those first same h =
      (read ++ h.0, Consumes-trans left_before mid left read h.0 first h.1, h.2, saved_as held_old held_new old new from next outcome (Are (bytes ++ h.0)) (Those (read ++ h.0)) (same h.0) h.3)
  ends_after left_before mid left bytes read (Err fault) Are Those first same h = h

-- For an input with this name, a directory that may fail or not, options and the known charsets.
module _ (file : Option (List ℕ)) (can_fail : List File → Bool) (options : Options) (known : Charsets) where
  -- an input that is a mailbox or is not, of which enough was read to know
  pub input_is : (kind : InputKind) (read more same : List ℕ) (is : Bool) (files now : List File) (from next : ℕ) (lines : List FileLine) → same ≡ read ++ more
      → is_there (first_wanted kind) read ≡ true → is_mailbox kind read ≡ is → IsInputOf file can_fail options known (format_of kind) is same files from lines next now
      → IsInput file can_fail options known kind (read ++ more) files from lines next now
  input_is kind read more same is files now from next lines e there is_kind h =
      subst (λ (w : Bool). IsInputOf file can_fail options known (format_of kind) w (read ++ more) files from lines next now) (sym (form_stays kind read more there ∙ is_kind))
      (subst (λ (bytes : List ℕ). IsInputOf file can_fail options known (format_of kind) is bytes files from lines next now) e h)

  module _ (format : Format) where
    -- a mailbox: the text before the first mail, and the mails
    pub mailbox_is : (bytes front : List ℕ) (left : List Entry) → front ≡ take (front_length bytes) bytes → left ≡ entries_in format bytes
        → Implies (Then (Only (front_lines file front)) (AreMails file can_fail options known format 1 left)) (IsMailbox file can_fail options known format bytes)
    mailbox_is bytes front left e f = λ files from lines next now h.
        subst (λ (text : List ℕ). Then (Only (front_lines file text)) (AreMails file can_fail options known format 1 (entries_in format bytes)) files from lines next now) e
        (subst (λ (es : List Entry). Then (Only (front_lines file front)) (AreMails file can_fail options known format 1 es) files from lines next now) f h)

    -- the same mails
    pub mails_as : (number : ℕ) (these those : List Entry) → these ≡ those → Implies (AreMails file can_fail options known format number these) (AreMails file can_fail options known format number those)
    mails_as number these those e = λ files from lines next now h. subst (λ (es : List Entry). AreMails file can_fail options known format number es files from lines next now) e h

    -- the first mail, and the others
    pub mails_next : (number following : ℕ) (left rest : List Entry) (entry : Entry) → following ≡ saturating_add number 1 → left ≡ entry ∷ rest
        → Implies (Then (IsMail file can_fail options known (Some number) (mail_in format entry.mail)) (AreMails file can_fail options known format following rest)) (AreMails file can_fail options known format number left)
    mails_next number following left rest entry e f = λ files from lines next now h.
        subst (λ (es : List Entry). AreMails file can_fail options known format number es files from lines next now) (sym f)
        (subst (λ (n : ℕ). Then (IsMail file can_fail options known (Some number) (mail_in format entry.mail)) (AreMails file can_fail options known format n rest) files from lines next now) e h)

    -- no mail is left
    pub mails_none : (number : ℕ) (left : List Entry) → left ≡ [] → Implies (Only []) (AreMails file can_fail options known format number left)
    mails_none number left e = λ files from lines next now h. subst (λ (es : List Entry). AreMails file can_fail options known format number es files from lines next now) (sym e) h

    -- the mails of bytes, of which some were read at first and more since, whatever follows
    abbrev pub Mails : (number : ℕ) (bytes : List ℕ) → List ℕ → Saves
    Mails number bytes later = AreMails file can_fail options known format number (entries_in format (bytes ++ later))

    abbrev pub Follows : (read more pending : List ℕ) → ℕ → Saves
    Follows read more pending number = Before (λ later. Mails 1 read (more ++ later)) (Mails number pending)

    -- bytes were read
    follows_more : (held_old held_new : Option (List File)) (old new : Option (List ℕ)) (from next : ℕ) (outcome : Outcome) (read more taken pending after : List ℕ) (number : ℕ) → after ≡ pending ++ taken
        → Saved held_old held_new old new from next outcome (Follows read more pending number) → Saved held_old held_new old new from next outcome (Follows read (more ++ taken) after number)
    follows_more held_old held_new old new from next outcome read more taken pending after number e here =
        before_as held_old held_new old new from next outcome (λ later. Mails 1 read (more ++ later)) (Mails number pending) (λ later. Mails 1 read ((more ++ taken) ++ later)) (Mails number after) (λ later. taken ++ later)
        (λ later. mails_as 1 _ _ (ap (λ (bs : List ℕ). entries_in format (read ++ bs)) (sym (append_assoc more taken later))))
        (λ later. mails_as number _ _ (ap (entries_in format) (ap (λ (bs : List ℕ). bs ++ later) e ∙ append_assoc pending taken later))) here

    -- the files of the mails at the front were saved
    pub follows_settled : (held_old held_mid held_new : Option (List File)) (old mid new flushed : Option (List ℕ)) (from number next : ℕ) (a b both : Outcome) (read more taken pending bytes rest left : List ℕ) (count following : ℕ)
        → both ≡ worse a b → bytes ≡ pending ++ taken → left ≡ rest → Appends new flushed []
        → Saved held_mid held_new mid new number next b (Before (Mails count bytes) (Mails following rest))
        → Saved held_old held_mid old mid from number a (Follows read more pending count)
        → Saved held_old held_new old flushed from next both (Follows read (more ++ taken) left following)
    follows_settled held_old held_mid held_new old mid new flushed from number next a b both read more taken pending bytes rest left count following is e f p some here =
        saved_flushed held_old held_new old new flushed from next both (Follows read (more ++ taken) left following) p
        (before_as held_old held_new old new from next both (λ later. Mails 1 read ((more ++ taken) ++ later)) (Mails following rest) (λ later. Mails 1 read ((more ++ taken) ++ later)) (Mails following left) (λ later. later)
        (λ later files first lines end now h. h) (λ later. mails_as following _ _ (ap (λ (bs : List ℕ). entries_in format (bs ++ later)) f))
        (before_then held_old held_mid held_new old mid new from number next a b both (λ later. Mails 1 read ((more ++ taken) ++ later)) (Mails count bytes) (Mails following rest) is some
        (follows_more held_old held_mid old mid from number a read more taken pending bytes count e here)))

    -- the last bytes were read, and the files of the mails that were left were saved
    pub follows_end : (held_old held_mid held_new : Option (List File)) (old mid new : Option (List ℕ)) (from number next : ℕ) (a b both : Outcome) (read more taken pending bytes : List ℕ) (left : List Entry) (count : ℕ)
        → both ≡ worse a b → bytes ≡ pending ++ taken → left ≡ entries_in format bytes
        → Saved held_mid held_new mid new number next b (AreMails file can_fail options known format count left)
        → Saved held_old held_mid old mid from number a (Follows read more pending count)
        → Saved held_old held_new old new from next both (AreMails file can_fail options known format 1 (entries_in format (read ++ (more ++ taken))))
    follows_end held_old held_mid held_new old mid new from number next a b both read more taken pending bytes left count is e f last here =
        saved_as held_old held_new old new from next both (Mails 1 read ((more ++ taken) ++ [])) (AreMails file can_fail options known format 1 (entries_in format (read ++ (more ++ taken))))
        (mails_as 1 _ _ (ap (λ (bs : List ℕ). entries_in format (read ++ bs)) (append-nil (more ++ taken))))
        (before_last held_old held_mid held_new old mid new from number next a b both (λ later. Mails 1 read ((more ++ taken) ++ later)) (Mails count bytes) [] (AreMails file can_fail options known format count left) is
        (mails_as count _ _ (f ∙ ap (entries_in format) (sym (append-nil bytes)))) last
        (follows_more held_old held_mid old mid from number a read more taken pending bytes count e here))

-- ---- one mail

-- the refusal whose text was read
pub refused_read : (error : MailParseError) (given : Reads Tree) (text : List ℕ) → ◌≡◌ {A = Option (List ℕ)} (Some text) (option_map refusal_text (refusal_of error))
    → IsRefusalOrMemory error given → (refusal : Refusal) × (given ≡ Err refusal) × (text ≡ refusal_text refusal)
refused_read (QuotedPrintableDecodeError fault) given text e h = absurd h
refused_read (Base64DecodeError fault) given text e h = (base64_fault fault.group, h, some-is _ _ e)
refused_read (EncodingError t) given text e h = (encoding (cow_str_bytes t), h, some-is _ _ e)
refused_read (Generic t) given text e h = (generic t.now, h, some-is _ _ e)
refused_read (Memory m) given text e h = absurd (none-some text e)

-- a mail that is read so
pub read_ends : (file : Option (List ℕ)) (can_fail : List File → Bool) (options : Options) (known : Charsets) (number : Option ℕ) (raw : List ℕ) (held_old held_new : Option (List File)) (old new : Option (List ℕ)) (from next : ℕ)
    (r : Result Outcome Fault) (t : Tree) → ◌≡◌ {A = Reads Tree} (bounded_reading known options.limit options.most_bytes raw) (Ok t) → Ends held_old held_new old new from next r (IsMailOf file can_fail options known number (Ok t))
    → Ends held_old held_new old new from next r (IsMail file can_fail options known number raw)
read_ends file can_fail options known number raw held_old held_new old new from next (Ok outcome) t e h =
    saved_as held_old held_new old new from next outcome (IsMailOf file can_fail options known number (Ok t)) (IsMail file can_fail options known number raw)
    (λ files first lines last now k. subst (λ (read : Reads Tree). IsMailOf file can_fail options known number read files first lines last now) (sym e) k) h
read_ends file can_fail options known number raw held_old held_new old new from next (Err fault) t e h = h

-- the line of a refused mail
pub refused_ends : (file : Option (List ℕ)) (can_fail : List File → Bool) (options : Options) (known : Charsets) (number : Option ℕ) (raw : List ℕ) (held : Option (List File)) (old new : Option (List ℕ)) (from : ℕ)
    (r : Result Outcome Fault) (refusal : Refusal) (text : List ℕ) → ◌≡◌ {A = Reads Tree} (bounded_reading known options.limit options.most_bytes raw) (Err refusal) → text ≡ refusal_text refusal
    → WritesAll old new r (refused_line file number None text ∷ []) → Ends held held old new from from r (IsMail file can_fail options known number raw)
refused_ends file can_fail options known number raw held old new from (Ok outcome) refusal text read is_text h =
    let line = refused_line file number None text in
    saved_as held held old new from from outcome (Only (line ∷ [])) (IsMail file can_fail options known number raw)
    (λ files first lines next now k. subst (λ (r : Reads Tree). IsMailOf file can_fail options known number r files first lines next now) (sym read)
    (k.0 ∙ ap (λ (t : List ℕ). refused_line file number None t ∷ []) is_text, k.1, k.2))
    (saved_lines held old new from outcome (line ∷ []) (refused_safe file number None text) h)
refused_ends file can_fail options known number raw held old new from (Err fault) refusal text read is_text h = h

-- ---- the line of a file

pub line_is : (file : Option (List ℕ)) (number : Option ℕ) (size : ℕ) (path p : List ℕ) (saved s sha256 h error e : Option (List ℕ)) → path ≡ p → saved ≡ s → sha256 ≡ h
    → error ≡ e
    → ◌≡◌ {A = FileLine} (record { file = file; number = number; path = Some path; saved = saved; size = Some size; sha256 = sha256; error = error })
    (record { file = file; number = number; path = Some p; saved = s; size = Some size; sha256 = h; error = e })
line_is file number size path p saved s sha256 h error e is_path is_saved is_hash is_error = λ i. record {
  file = file;
  number = number;
  path = Some (is_path i);
  saved = is_saved i;
  size = Some size;
  sha256 = is_hash i;
  error = is_error i;
}

-- its line was written and flushed
pub report_flushed : (old mid new : Option (List ℕ)) (outcome : Outcome) (line same : FileLine) → line ≡ same → WritesAll old mid (Ok outcome) (line ∷ []) → Appends mid new []
    → WritesAll old new (Ok outcome) (same ∷ [])
report_flushed old mid new outcome line same e h p =
    subst (λ (l : FileLine). WritesAll old new (Ok outcome) (l ∷ [])) e (appends_flushed old mid new (lines_text (line ∷ [])) h.0 p, h.1)
