-- Lemmas on the lines of an input that is read in blocks.
use Rattle.std.proofs.Common.{◌≡◌, ℕ, Bool, true, false, ◌&&◌, List, [], ◌++◌, Option, None, Some, Result, Ok, Err, length, take, drop, refl, sym, ap, subst, ◌∙◌, append_assoc}
use Rattle.std.proofs.Math.Bool.{and_assoc}
use Rattle.std.proofs.KnownBytes.{Consumes-trans}
use Rattle.std.specs.Io.KnownBytes.{Consumes, IsAtEnd}
use Rattle.std.proofs.lemmas.Bool.{false≢true}
use Rattle.std.proofs.lemmas.List.{append-nil, length-take-le, take-append-le}
use Rattle.mail_json.specs.Options.{Options}
use Rattle.mail_program.specs.declared.fault.Fault.{Fault}
use Rattle.mail_data.specs.Mailbox.{Entry, front_length, has_front}
use Rattle.mail_data.specs.MailboxFormats.{entries_in}
use Rattle.mail_data.specs.MailboxParts.{placed_from}
use Rattle.mail_data.specs.declared.mailbox.formats.Format.{Format}
use Rattle.mail_data.proofs.lemmas.MailboxFormats.{front_in-stays}
use Rattle.mail_data.proofs.lemmas.MailboxFound.{front-stays}
use Rattle.mail_data.proofs.lemmas.MailboxParts.{front_length-≤}
use Rattle.mail_json.specs.Selection.{AreChosen, AreChosenOf, AreInputChosen, AreMailboxChosen, is_past, is_range}
use Rattle.mail_json.specs.JsonLines.{AreInputLines, AreLinesOf, IsFront, Lines, WritesInput, WritesLines}
use Rattle.mail_walk.specs.Kind.{format_of, is_mailbox}
use Rattle.mail_walk.specs.Wanted.{first_wanted, is_there}
use Rattle.mail_json.specs.Stream.{Continues, Ends, HasLeft, WritesChosen, WritesUpTo}
use Rattle.mail_json.specs.declared.selection.Selection.{Selection}
use Rattle.mail_json.specs.declared.selection.Selection.TheVariants.{Numbered, Within}
use Rattle.mail_walk.specs.declared.kind.InputKind.{InputKind}
use Rattle.mail_json.specs.Written.{is_clean}
use Rattle.mail_json.specs.declared.written.Written.{Written}
use Rattle.mail_json.proofs.lemmas.JsonLines.{chosen_past, lines_stop}
use Rattle.mail_json_text.proofs.lemmas.Written.{end_is_fault}
use Rattle.mail_walk.proofs.lemmas.Wanted.{form_stays}

-- ---- what a reader has left

-- all that the reader has left
abbrev pub left_of : Option (List ℕ) → List ℕ
left_of None = []
left_of (Some bytes) = bytes

pub has_left : (left : Option (List ℕ)) → HasLeft left (left_of left)
has_left None = tt
has_left (Some bytes) = refl

pub none_left : (left : Option (List ℕ)) → IsAtEnd left → HasLeft left []
none_left None h = tt
none_left (Some bytes) h = h

-- the reader is at its end
pub ends_here : (selection : Selection) (left : Option (List ℕ)) → IsAtEnd left → Ends selection left []
ends_here (Numbered number) left h = (h, refl)
ends_here (Within from to) left h = none_left left h

-- after the range nothing more is read
pub ends_past : (first selection : Selection) (at : ℕ) (left : Option (List ℕ)) → is_range selection ≡ is_range first → is_past selection at ≡ true → Ends first left (left_of left)
ends_past (Within from to) selection at left same h = has_left left
ends_past (Numbered number) (Numbered next) at left same h = absurd (false≢true h)
ends_past (Numbered number) (Within from to) at left same h = absurd (false≢true (sym same))

-- ---- what was read before, and what was written of the rest

-- some bytes were read, and then lines were written of them and of others
pub input_after : (Follow : Option (List ℕ) → List ℕ → Type 0) (a b c old new : Option (List ℕ)) (r : Result Written Fault) (read : List ℕ) (Are AreAll : List ℕ → Lines) → Consumes a b read
    → ((more : List ℕ) (is_clean : Bool) (text : List ℕ) → Are more is_clean text → AreAll (read ++ more) is_clean text) → WritesUpTo Follow b c old new r Are
    → WritesUpTo Follow a c old new r AreAll
input_after Follow a b c old new (Ok written) read Are AreAll p lines w = (
  read ++ w.0,
  w.1,
  Consumes-trans a b c read w.0 p w.2,
  w.3,
  w.4,
  subst (λ (bs : List ℕ). AreAll bs (is_clean written) w.4) (sym (append_assoc read w.0 w.1)) (lines (w.0 ++ w.1) (is_clean written) w.4 w.5),
  w.6,
)
input_after Follow a b c old new (Err fault) read Are AreAll p lines w = w

-- all bytes were read, and then their lines were written
pub input_whole : (Follow : Option (List ℕ) → List ℕ → Type 0) (a b old new : Option (List ℕ)) (r : Result Written Fault) (all : List ℕ) (Are : Lines) (AreAll : List ℕ → Lines)
    → Consumes a b all → Follow b [] → ((is_clean : Bool) (text : List ℕ) → Are is_clean text → AreAll all is_clean text) → WritesLines old new r Are
    → WritesUpTo Follow a b old new r AreAll
input_whole Follow a b old new (Ok written) all Are AreAll p ended lines w =
    (all, [], p, ended, w.0, subst (λ (bs : List ℕ). AreAll bs (is_clean written) w.0) (sym (append-nil all)) (lines (is_clean written) w.0 w.1), w.2)
input_whole Follow a b old new (Err fault) all Are AreAll p ended lines w = end_is_fault fault w

-- the lines of all mails of a mailbox are numbered from 1
numbered_lines : (options : Options) (format : Format) (file : Option (List ℕ)) (is : Bool) (bytes same : List ℕ) (is_clean : Bool) (text : List ℕ) → same ≡ bytes
    → AreChosenOf options format is file (Numbered 1) same is_clean text → AreLinesOf options format is file bytes is_clean text
numbered_lines options format file true bytes same is_clean text e h = subst (λ (bs : List ℕ). AreLinesOf options format true file bs is_clean text) e h
numbered_lines options format file false bytes same is_clean text e h = subst (λ (bs : List ℕ). AreLinesOf options format false file bs is_clean text) e h

pub input_numbered : (options : Options) (kind : InputKind) (file : Option (List ℕ)) (a b old new : Option (List ℕ)) (r : Result Written Fault)
    → WritesChosen (Numbered 1) a b old new r (AreInputChosen options kind file (Numbered 1)) → WritesInput a b old new r (AreInputLines options kind file)
input_numbered options kind file a b old new (Ok written) w =
    let same : w.0 ++ w.1 ≡ w.0 = ap (λ (bs : List ℕ). w.0 ++ bs) w.3.1 ∙ append-nil w.0 in (
      w.0,
      w.2,
      w.3.0,
      w.4,
      subst (λ (bs : List ℕ). AreInputLines options kind file bs (is_clean written) w.4) same (numbered_lines options (format_of kind) file (is_mailbox kind (w.0 ++ w.1)) (w.0 ++ w.1) (w.0 ++ w.1) (is_clean written) w.4 refl w.5),
      w.6,
    )
input_numbered options kind file a b old new (Err fault) w = w

-- Of a file that is a mailbox in a format.
module _ (options : Options) (format : Format) (file : Option (List ℕ)) where
  -- the lines of an input that is a mailbox, or is not, of which enough was read to know
  pub input_lines : (kind : InputKind) (selection : Selection) (read more same : List ℕ) (is is_clean : Bool) (text : List ℕ) → same ≡ read ++ more → is_there (first_wanted kind) read ≡ true
      → is_mailbox kind read ≡ is → AreChosenOf options format is file selection same is_clean text
      → AreChosenOf options format (is_mailbox kind (read ++ more)) file selection (read ++ more) is_clean text
  input_lines kind selection read more same is is_clean text e there is_form h =
      subst (λ (bytes : List ℕ). AreChosenOf options format (is_mailbox kind (read ++ more)) file selection bytes is_clean text) e
      (subst (λ (w : Bool). AreChosenOf options format w file selection same is_clean text) (sym (form_stays kind read more there ∙ is_form)) h)

  -- the error for the text before the first mail, and the lines of the mails in the bytes that were read and in further
  -- ones
  pub front_lines : (selection : Selection) (read front rest : List ℕ) (is_all_whitespace : Bool) (error : List ℕ) → has_front read ≡ true → front ≡ take (front_length read) read
      → rest ≡ drop (length front) read → IsFront file front is_all_whitespace error → (later : List ℕ) (others both : Bool) (lines : List ℕ) → both ≡ (is_all_whitespace && others)
      → AreChosen options format file selection (placed_from (length front) (entries_in format (rest ++ later))) others lines
      → AreMailboxChosen options format file selection (read ++ later) both (error ++ lines)
  front_lines selection read front rest is_all_whitespace error settled is_front is_rest p later others both lines is_both h =
      let stays = front-stays read later settled in
      let size : length front ≡ front_length read = ap length is_front ∙ length-take-le (front_length read) read (front_length-≤ read) in
      let same : front ≡ take (front_length (read ++ later)) (read ++ later) =
      is_front ∙ sym (ap (λ (n : ℕ). take n (read ++ later)) stays.0 ∙ take-append-le (front_length read) read later (front_length-≤ read)) in
      let place : length front ≡ front_length (read ++ later) = size ∙ sym stays.0 in
      let mails : entries_in format (rest ++ later) ≡ entries_in format (read ++ later) =
      ap (λ (bytes : List ℕ). entries_in format (bytes ++ later)) (is_rest ∙ ap (λ (n : ℕ). drop n read) size) ∙ sym (front_in-stays format read later settled) in (
        is_all_whitespace,
        others,
        error,
        lines,
        subst (λ (bytes : List ℕ). IsFront file bytes is_all_whitespace error) same p,
        subst (λ (es : List Entry). AreChosen options format file selection (placed_from (front_length (read ++ later)) es) others lines) mails
            (subst (λ (n : ℕ). AreChosen options format file selection (placed_from n (entries_in format (rest ++ later))) others lines) place h),
        is_both,
        refl,
      )

  -- the lines that were written of the mails of bytes, of which some were read at first and more since, are completed
  -- by any lines of the mails that are left
  abbrev pub Follows : Selection → ℕ → List ℕ → List ℕ → Selection → ℕ → List ℕ → Bool → List ℕ → Type 0
  Follows first start read more selection at pending is_clean done =
      (later : List ℕ) → Continues options format file first start (entries_in format (read ++ (more ++ later))) selection at (entries_in format (pending ++ later)) is_clean done

  pub follows_start : (first : Selection) (start : ℕ) (read pending : List ℕ) → pending ≡ read → Follows first start read [] first start pending true []
  follows_start first start read pending e = λ later others lines h.
      subst (λ (bs : List ℕ). AreChosen options format file first (placed_from start (entries_in format (bs ++ later))) others lines) e h

  -- bytes were read
  pub follows_more : (first : Selection) (start : ℕ) (read more taken : List ℕ) (selection : Selection) (at : ℕ) (pending after : List ℕ) (is_clean : Bool) (done : List ℕ) → after ≡ pending ++ taken
      → Follows first start read more selection at pending is_clean done → Follows first start read (more ++ taken) selection at after is_clean done
  follows_more first start read more taken selection at pending after is_clean done e here = λ later others lines h.
      let bytes : after ++ later ≡ pending ++ (taken ++ later) = ap (λ (bs : List ℕ). bs ++ later) e ∙ append_assoc pending taken later in
      subst (λ (bs : List ℕ). AreChosen options format file first (placed_from start (entries_in format (read ++ bs))) (is_clean && others) (done ++ lines)) (sym (append_assoc more taken later))
      (here (taken ++ later) others lines (subst (λ (bs : List ℕ). AreChosen options format file selection (placed_from at (entries_in format bs)) others lines) bytes h))

  -- the lines of mails were written
  pub follows_settled : (first : Selection) (start : ℕ) (read more : List ℕ) (selection next : Selection) (at after : ℕ) (pending rest left : List ℕ) (is_clean are_read both : Bool) (done lines : List ℕ) → both ≡ (is_clean && are_read)
      → left ≡ rest
      → ((later : List ℕ) → Continues options format file selection at (entries_in format (pending ++ later)) next after (entries_in format (rest ++ later)) are_read lines)
      → Follows first start read more selection at pending is_clean done → Follows first start read more next after left both (done ++ lines)
  follows_settled first start read more selection next at after pending rest left is_clean are_read both done lines is_both e written here = λ later others last h.
      let all = placed_from start (entries_in format (read ++ (more ++ later))) in
      let whole =
      here later (are_read && others) (lines ++ last)
      (written later others last (subst (λ (bs : List ℕ). AreChosen options format file next (placed_from after (entries_in format (bs ++ later))) others last) e h)) in
      subst (λ (w : Bool). AreChosen options format file first all w ((done ++ lines) ++ last)) (sym (ap (λ (w : Bool). w && others) is_both ∙ and_assoc is_clean are_read others))
      (subst (λ (t : List ℕ). AreChosen options format file first all (is_clean && (are_read && others)) t) (sym (append_assoc done lines last)) whole)

  -- the last bytes were read, and the lines of the mails that were left were written
  pub follows_end : (first : Selection) (start : ℕ) (read more taken : List ℕ) (selection : Selection) (at : ℕ) (pending after : List ℕ) (left : List Entry) (is_clean are_read both : Bool) (done lines : List ℕ)
      → both ≡ (is_clean && are_read) → after ≡ pending ++ taken → left ≡ entries_in format after → AreChosen options format file selection (placed_from at left) are_read lines
      → Follows first start read more selection at pending is_clean done
      → AreChosen options format file first (placed_from start (entries_in format (read ++ ((more ++ taken) ++ [])))) both (done ++ lines)
  follows_end first start read more taken selection at pending after left is_clean are_read both done lines is_both e f p here =
      subst (λ (w : Bool). AreChosen options format file first (placed_from start (entries_in format (read ++ ((more ++ taken) ++ [])))) w (done ++ lines)) (sym is_both)
      (subst (λ (bs : List ℕ). AreChosen options format file first (placed_from start (entries_in format (read ++ bs))) (is_clean && are_read) (done ++ lines)) (sym (append-nil (more ++ taken)))
      (here taken are_read lines (subst (λ (es : List Entry). AreChosen options format file selection (placed_from at es) are_read lines) (f ∙ ap (entries_in format) e) p)))

  -- no mail that follows has a line
  pub follows_past : (first : Selection) (start : ℕ) (read more later : List ℕ) (selection : Selection) (at : ℕ) (pending : List ℕ) (is_clean : Bool) (done : List ℕ) → is_past selection at ≡ true
      → Follows first start read more selection at pending is_clean done → AreChosen options format file first (placed_from start (entries_in format (read ++ (more ++ later)))) is_clean done
  follows_past first start read more later selection at pending is_clean done past here =
      lines_stop options format file first start selection at (entries_in format (read ++ (more ++ later))) (entries_in format (pending ++ later)) is_clean done
      (chosen_past options format file selection at (entries_in format (pending ++ later)) past) (here later)
