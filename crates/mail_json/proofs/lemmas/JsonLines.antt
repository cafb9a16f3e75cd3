-- Lemmas on the lines of mailboxes.
use Rattle.std.proofs.Common.{◌≡◌, ℕ, ◌+◌, ◌<◌, ◌≤◌, Bool, true, false, cond, ◌&&◌, List, [], ◌∷◌, ◌++◌, Option, None, Some, Result, length, take, refl, sym, ap, subst, ◌∙◌, append_assoc, arith, length-append, inl, inr}
use Rattle.std.proofs.Math.Bool.{and_assoc, and-true}
use Rattle.std.specs.Prelude.{min, not, nat_lt, ◌-◌, ◌^◌}
use Rattle.std.proofs.lemmas.Bool.{cases_lt, false≢true, le-ltb, lt-ltb}
use Rattle.std.proofs.lemmas.List.{append-nil, length-take-le}
use Rattle.mail_json.specs.Options.{Options}
use Rattle.mail_data.specs.Mailbox.{Entry, entry_bytes, front_length}
use Rattle.mail_data.specs.MailboxFormats.{entries_in, mail_in}
use Rattle.mail_data.specs.MailboxParts.{Placed, begins_in, in_range, placed_from}
use Rattle.mail_data.specs.declared.mailbox.formats.Format.{Format}
use Rattle.mail_data.proofs.lemmas.MailboxParts.{front_length-≤}
use Rattle.mail_json.specs.Origin.{Origin}
use Rattle.mail_walk.specs.Offsets.{saturating_add}
use Rattle.mail_program.specs.declared.fault.Fault.{Fault}
use Rattle.mail_json.specs.Selection.{AreChosen, AreMailboxChosen, Fits, IsEntryLine, OnlyIf, is_past, is_range, next_selection}
use Rattle.mail_json.specs.JsonLines.{AreLines, IsFront, IsLine, Lines, WritesLines, after_entry, next_number, origin_at}
use Rattle.mail_json.specs.Stream.{Continues}
use Rattle.mail_json.specs.declared.selection.Selection.{Selection}
use Rattle.mail_json.specs.declared.selection.Selection.TheVariants.{Numbered, Within}
use Rattle.mail_json.specs.declared.written.Written.{Written}

-- ---- offsets: those past the greatest number of 64 bits count as that

abbrev pub capped : ℕ → ℕ
capped n = min n (2 ^ 64 - 1)

sum-capped : (a b k : ℕ) → capped a ≡ capped b → saturating_add a k ≡ saturating_add b k
sum-capped a b k same = omega arith

after-capped : (at : ℕ) (entry : Entry) → capped (after_entry at entry) ≡ capped (at + length (entry_bytes entry))
after-capped at entry =
    let all = length-append entry.separator (entry.mail ++ entry.ending) in
    let both = length-append entry.mail entry.ending in
    omega arith

origin-capped : (file : Option (List ℕ)) (number : Option ℕ) (a b : ℕ) (entry : Entry) → capped a ≡ capped b → origin_at file number a entry ≡ origin_at file number b entry
origin-capped file number a b entry same =
    let place : ℕ → Origin = λ start. record { file = file; number = number; start = start; end = saturating_add start (length entry.mail) } in
    ap place (sum-capped a b (length entry.separator) same)

-- ---- ranges of offsets

pub range_next : (selection : Selection) → is_range (next_selection selection) ≡ is_range selection
range_next (Numbered number) = refl
range_next (Within from to) = refl

before-capped : (n a b : ℕ) → n < 2 ^ 64 → capped a ≡ capped b → nat_lt a n ≡ nat_lt b n
before-capped n a b fits same = elim (cases_lt a n) [
  | inl before ↦ lt-ltb a n before ∙ sym (lt-ltb b n (omega arith))
  | inr past ↦ le-ltb a n past ∙ sym (le-ltb b n (omega arith))
]

range-capped : (from to a b : ℕ) → from < 2 ^ 64 → to < 2 ^ 64 → capped a ≡ capped b → (not (nat_lt a from) && nat_lt a to) ≡ (not (nat_lt b from) && nat_lt b to)
range-capped from to a b low high same =
    ap (λ (w : Bool). not w && nat_lt a to) (before-capped from a b low same) ∙ ap (λ (w : Bool). not (nat_lt b from) && w) (before-capped to a b high same)

not_before : (at to : ℕ) → not (nat_lt at to) ≡ true → to ≤ at
not_before at to h = elim (cases_lt at to) [
  | inl before ↦ absurd (false≢true (ap not (sym (lt-ltb at to before)) ∙ h))
  | inr past ↦ past
]

outside_step : (t u : Bool) (m : Placed) (f : List Placed) → u ≡ false → (cond (t && u) (m ∷ f) f) ≡ f
outside_step false u m f h = refl
outside_step true false m f h = refl
outside_step true true m f h = absurd (false≢true (sym h))

-- no mail begins in a range that ends before the first one
pub none_begins : (from to start : ℕ) (mails : List Entry) → to ≤ start → in_range from to (placed_from start mails) ≡ []
none_begins from to start [] past = refl
none_begins from to start (e ∷ mails) past =
    outside_step (not (nat_lt start from)) (nat_lt start to) (record { start = start; entry = e }) (in_range from to (placed_from (start + length (entry_bytes e)) mails)) (le-ltb start to past)
    ∙ none_begins from to (start + length (entry_bytes e)) mails (omega arith)

-- ---- lines that are written if they are wanted

pub wanted_lines : (old new : Option (List ℕ)) (r : Result Written Fault) (Are : Lines) (w : Bool) → w ≡ true → WritesLines old new r Are → WritesLines old new r (OnlyIf w Are)
wanted_lines old new r Are w h p = subst (λ (v : Bool). WritesLines old new r (OnlyIf v Are)) (sym h) p

pub unwanted_lines : (Are : Lines) (w : Bool) → w ≡ false → OnlyIf w Are true []
unwanted_lines Are w h = subst (λ (v : Bool). OnlyIf v Are true []) (sym h) (refl, refl)

-- Of a file that is a mailbox in a format.
module _ (options : Options) (format : Format) (file : Option (List ℕ)) where
  lines-capped : (a b : ℕ) (mails : List Entry) (number : Option ℕ) (is_clean : Bool) (text : List ℕ) → capped a ≡ capped b
      → AreLines options format file number (placed_from a mails) is_clean text → AreLines options format file number (placed_from b mails) is_clean text
  lines-capped a b [] number is_clean text same h = h
  lines-capped a b (entry ∷ mails) number is_clean text same h =
      let later : capped (a + length (entry_bytes entry)) ≡ capped (b + length (entry_bytes entry)) = sum-capped a b (length (entry_bytes entry)) same in (
        h.0,
        h.1,
        h.2,
        h.3,
        subst (λ (o : Origin). IsLine options o (mail_in format entry.mail) h.0 h.2) (origin-capped file number a b entry same) h.4,
        lines-capped (a + length (entry_bytes entry)) (b + length (entry_bytes entry)) mails (next_number number) h.1 h.3 later h.5,
        h.6,
        h.7,
      )

  -- the first mail, if it has a line, at another offset that counts as the same, and the others
  first-capped : (has : Bool) (a b : ℕ) (entry : Entry) (f g : List Placed) (is_clean : Bool) (text : List ℕ) → capped a ≡ capped b
      → ((clean : Bool) (more : List ℕ) → AreLines options format file None f clean more → AreLines options format file None g clean more)
      → AreLines options format file None (cond has (record { start = a; entry = entry } ∷ f) f) is_clean text
      → AreLines options format file None (cond has (record { start = b; entry = entry } ∷ g) g) is_clean text
  first-capped false a b entry f g is_clean text same others h = others is_clean text h
  first-capped true a b entry f g is_clean text same others h =
      let line = subst (λ (o : Origin). IsLine options o (mail_in format entry.mail) h.0 h.2) (origin-capped file None a b entry same) h.4 in
      (h.0, h.1, h.2, h.3, line, others h.1 h.3 h.5, h.6, h.7)

  in-capped : (from to : ℕ) → from < 2 ^ 64 → to < 2 ^ 64 → (a b : ℕ) (mails : List Entry) (is_clean : Bool) (text : List ℕ) → capped a ≡ capped b
      → AreLines options format file None (in_range from to (placed_from a mails)) is_clean text → AreLines options format file None (in_range from to (placed_from b mails)) is_clean text
  in-capped from to low high a b [] is_clean text same h = h
  in-capped from to low high a b (entry ∷ mails) is_clean text same h =
      let size = length (entry_bytes entry) in
      let later : capped (a + size) ≡ capped (b + size) = sum-capped a b size same in
      let rest = in_range from to (placed_from (b + size) mails) in
      subst (λ (has : Bool). AreLines options format file None (cond has (record { start = b; entry = entry } ∷ rest) rest) is_clean text) (range-capped from to a b low high same)
      (first-capped (begins_in from to (record { start = a; entry = entry })) a b entry (in_range from to (placed_from (a + size) mails)) rest is_clean text same
      (λ clean more. in-capped from to low high (a + size) (b + size) mails clean more later) h)

  pub chosen_capped : (selection : Selection) → Fits selection → (a b : ℕ) (mails : List Entry) (is_clean : Bool) (text : List ℕ) → capped a ≡ capped b
      → AreChosen options format file selection (placed_from a mails) is_clean text → AreChosen options format file selection (placed_from b mails) is_clean text
  chosen_capped (Numbered number) fits a b mails is_clean text same h = lines-capped a b mails (Some number) is_clean text same h
  chosen_capped (Within from to) fits a b mails is_clean text same h = in-capped from to fits.0 fits.1 a b mails is_clean text same h

  -- the line of the first mail, if it has one, and those of the others
  line-cons : (has : Bool) (mail : Placed) (rest : List Placed) (one others : Bool) (line lines : List ℕ)
      → OnlyIf has (IsLine options (origin_at file None mail.start mail.entry) (mail_in format mail.entry.mail)) one line → AreLines options format file None rest others lines
      → AreLines options format file None (cond has (mail ∷ rest) rest) (one && others) (line ++ lines)
  line-cons true mail rest one others line lines p h = (one, others, line, lines, p, h, refl, refl)
  line-cons false mail rest one others line lines p h =
      subst (λ (w : Bool). AreLines options format file None rest (w && others) (line ++ lines)) (sym p.0)
      (subst (λ (t : List ℕ). AreLines options format file None rest others (t ++ lines)) (sym p.1) h)

  chosen-cons : (selection : Selection) (at : ℕ) (entry : Entry) (rest : List Placed) (one others : Bool) (line lines : List ℕ) → IsEntryLine options format file selection at entry one line
      → AreChosen options format file (next_selection selection) rest others lines → AreChosen options format file selection (record { start = at; entry = entry } ∷ rest) (one && others) (line ++ lines)
  chosen-cons (Numbered number) at entry rest one others line lines p h = (one, others, line, lines, p, h, refl, refl)
  chosen-cons (Within from to) at entry rest one others line lines p h =
      let mail : Placed = record { start = at; entry = entry } in
      line-cons (begins_in from to mail) mail (in_range from to rest) one others line lines p h

  -- after the range nothing is written
  pub chosen_past : (selection : Selection) (at : ℕ) (mails : List Entry) → is_past selection at ≡ true → AreChosen options format file selection (placed_from at mails) true []
  chosen_past (Numbered number) at mails h = absurd (false≢true h)
  chosen_past (Within from to) at mails h =
      subst (λ (ms : List Placed). AreLines options format file None ms true []) (sym (none_begins from to at mails (not_before at to h))) (refl, refl)

  pub lines_start : (first : Selection) (start : ℕ) (all left : List Entry) → left ≡ all → Continues options format file first start all first start left true []
  lines_start first start all left e = λ others lines h. subst (λ (es : List Entry). AreChosen options format file first (placed_from start es) others lines) e h

  -- one mail more
  pub lines_more : (first : Selection) (start : ℕ) (selection after_selection : Selection) (at after : ℕ) (all left next : List Entry) (entry : Entry)
      (is_clean one both : Bool) (done line : List ℕ) → both ≡ (is_clean && one) → Fits after_selection → left ≡ entry ∷ next → after_selection ≡ next_selection selection
      → after ≡ after_entry at entry → IsEntryLine options format file selection at entry one line → Continues options format file first start all selection at left is_clean done
      → Continues options format file first start all after_selection after next both (done ++ line)
  lines_more first start selection after_selection at after all left next entry is_clean one both done line is_both fits e is_selection is_after p here = λ others lines h.
      let size = length (entry_bytes entry) in
      let place : capped after ≡ capped (at + size) = ap capped is_after ∙ after-capped at entry in
      let rest =
      subst (λ (w : Selection). AreChosen options format file w (placed_from (at + size) next) others lines) is_selection
      (chosen_capped after_selection fits after (at + size) next others lines place h) in
      let whole =
      here (one && others) (line ++ lines)
      (subst (λ (es : List Entry). AreChosen options format file selection (placed_from at es) (one && others) (line ++ lines)) (sym e)
      (chosen-cons selection at entry (placed_from (at + size) next) one others line lines p rest)) in
      subst (λ (w : Bool). AreChosen options format file first (placed_from start all) w ((done ++ line) ++ lines)) (sym (ap (λ (w : Bool). w && others) is_both ∙ and_assoc is_clean one others))
      (subst (λ (t : List ℕ). AreChosen options format file first (placed_from start all) (is_clean && (one && others)) t) (sym (append_assoc done line lines)) whole)

  -- nothing more is written
  pub lines_stop : (first : Selection) (start : ℕ) (selection : Selection) (at : ℕ) (all left : List Entry) (is_clean : Bool) (done : List ℕ)
      → AreChosen options format file selection (placed_from at left) true [] → Continues options format file first start all selection at left is_clean done
      → AreChosen options format file first (placed_from start all) is_clean done
  lines_stop first start selection at all left is_clean done none here =
      subst (λ (w : Bool). AreChosen options format file first (placed_from start all) w done) (and-true is_clean)
      (subst (λ (t : List ℕ). AreChosen options format file first (placed_from start all) (is_clean && true) t) (append-nil done) (here true [] none))

  no-mails : (selection : Selection) → AreChosen options format file selection [] true []
  no-mails (Numbered number) = (refl, refl)
  no-mails (Within from to) = (refl, refl)

  -- no mail is left
  pub lines_end : (first : Selection) (start : ℕ) (selection : Selection) (at : ℕ) (all left : List Entry) (is_clean : Bool) (done : List ℕ) → left ≡ []
      → Continues options format file first start all selection at left is_clean done → AreChosen options format file first (placed_from start all) is_clean done
  lines_end first start selection at all left is_clean done e here =
      lines_stop first start selection at all left is_clean done
      (subst (λ (es : List Entry). AreChosen options format file selection (placed_from at es) true []) (sym e) (no-mails selection)) here

  -- the error for the text before the first mail, and the lines of the mails
  pub mailbox_lines : (selection : Selection) (bytes front : List ℕ) (left : List Entry) (is_all_whitespace are_read both : Bool) (error lines : List ℕ)
      → both ≡ (is_all_whitespace && are_read) → front ≡ take (front_length bytes) bytes → left ≡ entries_in format bytes → IsFront file front is_all_whitespace error
      → AreChosen options format file selection (placed_from (length front) left) are_read lines
      → AreMailboxChosen options format file selection bytes both (error ++ lines)
  mailbox_lines selection bytes front left is_all_whitespace are_read both error lines is_both e f p q =
      let size : length front ≡ front_length bytes = ap length e ∙ length-take-le (front_length bytes) bytes (front_length-≤ bytes) in
      let mails = subst (λ (es : List Entry). AreChosen options format file selection (placed_from (length front) es) are_read lines) f q in (
        is_all_whitespace,
        are_read,
        error,
        lines,
        subst (λ (bs : List ℕ). IsFront file bs is_all_whitespace error) e p,
        subst (λ (n : ℕ). AreChosen options format file selection (placed_from n (entries_in format bytes)) are_read lines) size mails,
        is_both,
        refl,
      )
