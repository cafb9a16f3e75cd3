-- Lemmas on a directory for one file: the first file is in it, and the line of each further one reports a failure.
use Rattle.std.proofs.Common.{◌≡◌, ℕ, ◌+◌, ◌*◌, ◌<◌, ◌≤◌, Bool, true, false, cond, ◌&&◌, ◌||◌, List, [], ◌∷◌, ◌++◌, length, take, Option, Some, None, is_some, Ok, Err, refl, sym, ap, subst, ◌∙◌, arith, inl, inr, ⊎_elim, ◌⊎◌}
use Rattle.std.specs.Prelude.{flat_map, not, string_bytes}
use Rattle.std.specs.Io.KnownBytes.{Appends, Consumes, IsAtEnd}
use Rattle.std.proofs.KnownBytes.{Appends-nil}
use Rattle.std.specs.Option.{option_map_or}
use Rattle.std.specs.Char.{is_ascii_whitespace}
use Rattle.std.specs.List.{list_all}
use Rattle.std.proofs.lemmas.List.{append-nil, length-append}
use Rattle.std.proofs.lemmas.List.Concat.{flat_map-cons}
use Rattle.mail_codec.specs.Charset.{Charsets}
use Rattle.mailparse.specs.Mail.{Tree}
use Rattle.mailparse.specs.Refusal.{Reads, Refusal}
use Rattle.mail_read.specs.InnerMails.{InnerMail}
use Rattle.mail_read.specs.PartPlaces.{places}
use Rattle.mail_read.specs.Reading.{mail_placements}
use Rattle.mail_data.specs.Mailbox.{Entry, front_length}
use Rattle.mail_data.specs.MailboxFormats.{entries_in, mail_in}
use Rattle.mail_data.specs.declared.mailbox.formats.Format.{Format}
use Rattle.mail_parts.specs.DecodedSize.{bounded_reading}
use Rattle.mail_extract.specs.FileLine.{FileLine}
use Rattle.mail_walk.specs.Kind.{format_of, is_mailbox}
use Rattle.mail_program.specs.Refusal.{refusal_text}
use Rattle.mail_walk.specs.Offsets.{saturating_add}
use Rattle.mail_parts.specs.Reading.{inner_mails_within}
use Rattle.mail_walk.specs.declared.kind.InputKind.{InputKind}
use Rattle.mail_program.specs.Outcome.{worse}
use Rattle.mail_program.specs.declared.outcome.Outcome as program
use Rattle.mail_program.specs.declared.outcome.Outcome.TheVariants.{Clean, Refused, Failed}
use Rattle.mail_extract.specs.Directory.{File, has_file}
use Rattle.mail_extract.specs.Input.{AreFiles, AreInside, AreMails, EndsInput, IsInput, IsInputOf, IsInside, IsMailOf, Saves, file_line, refused_line}
use Rattle.mail_extract.specs.Naming.{Options, target}
use Rattle.mail_extract.specs.Only.{WritesOnly, fails_if_full, input_files, input_files_of, mail_files, read_files}
use Rattle.mail_extract.specs.OnlyViews.{files_held}
use Rattle.mail_extract.specs.declared.only.HeldFile.{HeldFile}
use Rattle.mail_extract.specs.declared.only.OneFile.{OneFile}
use Rattle.mail_extract.specs.declared.only.OnlyFile.TheVariants.{Missing, Several, Written}
use Rattle.mail_extract.specs.Report.{judged, lines_text, worst}
use Rattle.mail_extract.specs.Save.{IsKept, IsKeptNumbered, IsPut, IsSaved, Outcome, Wanted, chosen, wanted_among, wanted_files, wanted_inside}
use Rattle.mail_extract.specs.declared.level.Level.TheVariants.{Own}
use Rattle.mail_extract.specs.declared.options.Naming.{Naming}
use Rattle.mail_extract.specs.declared.options.Naming.TheVariants.{BySender}
use Rattle.mail_extract.proofs.lemmas.Save.{chosen_all, chosen_inside}
use Rattle.mail_extract.proofs.lemmas.Saves.{worst-append}

-- ---- outcomes

false_true : ◌≡◌ {A = Bool} false true → ⊥
false_true e = cc

refused_clean : ◌≡◌ {A = program.Outcome} Refused Clean → ⊥
refused_clean e = cc

none-some : (bytes : List ℕ) → ◌≡◌ {A = Option (List ℕ)} None (Some bytes) → ⊥
none-some bytes e = cc

some-is : (a b : List ℕ) → ◌≡◌ {A = Option (List ℕ)} (Some a) (Some b) → a ≡ b
some-is a b e = cc

or-assoc : (a b c : Bool) → (a || (b || c)) ≡ ((a || b) || c)
or-assoc false b c = refl
or-assoc true b c = refl

or_more : (a b : Bool) → (a || false) ≡ true → (a || b) ≡ true
or_more false b e = absurd (false_true e)
or_more true b e = refl

or_not : (a b : Bool) → b ≡ false → (a || not b) ≡ true
or_not true b e = refl
or_not false false e = refl
or_not false true e = absurd (false_true (sym e))

damaged_either : (a b : Bool) → (a || b) ≡ true → (a ≡ true → ⊥) → (b ≡ true → ⊥) → ⊥
damaged_either false b e f g = g e
damaged_either true b e f g = f refl

-- how many failures an outcome reports: 1 or 0
abbrev failing : program.Outcome → ℕ
failing Clean = 0
failing Refused = 0
failing Failed = 1

abbrev pub failures : List FileLine → ℕ
failures [] = 0
failures (line ∷ lines) = failing (judged line) + failures lines

failures-append : (first others : List FileLine) → failures (first ++ others) ≡ failures first + failures others
failures-append [] others = omega arith
failures-append (line ∷ first) others = omega (arith, failures-append first others)

failing_worse : (a b : program.Outcome) → failing (worse a b) ≤ failing a + failing b
failing_worse Clean b = omega arith
failing_worse Refused Clean = omega arith
failing_worse Refused Refused = omega arith
failing_worse Refused Failed = omega arith
failing_worse Failed b = omega arith

failing_parts : (a b : program.Outcome) → failing a + failing b ≤ 2 * failing (worse a b)
failing_parts Clean b = omega arith
failing_parts Refused Clean = omega arith
failing_parts Refused Refused = omega arith
failing_parts Refused Failed = omega arith
failing_parts Failed Clean = omega arith
failing_parts Failed Refused = omega arith
failing_parts Failed Failed = omega arith

failing_worst : (lines : List FileLine) → failing (worst lines) ≤ failures lines
failing_worst [] = omega arith
failing_worst (line ∷ lines) = omega (arith, failing_worse (judged line) (worst lines), failing_worst lines)

none_failing : (lines : List FileLine) → failing (worst lines) ≡ 0 → failures lines ≡ 0
none_failing [] e = refl
none_failing (line ∷ lines) e =
    let parts = failing_parts (judged line) (worst lines) in
    let rest = none_failing lines (omega (arith, parts, e)) in
    omega (arith, parts, e, rest)

failed_clean : ◌≡◌ {A = program.Outcome} Failed Clean → ⊥
failed_clean e = cc

worse_clean : (a b : program.Outcome) → worse a b ≡ Clean → (a ≡ Clean) × (b ≡ Clean)
worse_clean Clean b e = (refl, e)
worse_clean Refused Clean e = (e, refl)
worse_clean Refused Refused e = (e, e)
worse_clean Refused Failed e = absurd (failed_clean e)
worse_clean Failed b e = absurd (failed_clean e)

-- ---- what a line reports, by its error, its size and its name

abbrev reported : (error size saved : Bool) → program.Outcome
reported error size saved = cond error (cond (size && not saved) Failed Refused) Clean

saved_line : (error size saved : Bool) → saved ≡ true → failing (reported error size saved) ≡ 0
saved_line false size saved e = refl
saved_line true false saved e = refl
saved_line true true true e = refl
saved_line true true false e = absurd (false_true e)

failed_line : (error saved : Bool) → error ≡ true → saved ≡ false → failing (reported error true saved) ≡ 1
failed_line false saved e f = absurd (false_true e)
failed_line true true e f = absurd (false_true (sym f))
failed_line true false e f = refl

error_line : (error size saved : Bool) → error ≡ true → worse (reported error size saved) Clean ≡ Clean → ⊥
error_line false size saved e h = absurd (false_true e)
error_line true true true e h = absurd (refused_clean h)
error_line true true false e h = absurd (failed_clean h)
error_line true false saved e h = absurd (refused_clean h)

-- ---- what is kept

abbrev pub or_else : Option (List ℕ) → Option (List ℕ) → Option (List ℕ)
or_else None other = other
or_else (Some bytes) other = Some bytes

or_else-none : (o : Option (List ℕ)) → or_else o None ≡ o
or_else-none None = refl
or_else-none (Some bytes) = refl

or_else-assoc : (a b c : Option (List ℕ)) → or_else (or_else a b) c ≡ or_else a (or_else b c)
or_else-assoc None b c = refl
or_else-assoc (Some bytes) b c = refl

abbrev pub first_bytes : List File → Option (List ℕ)
first_bytes [] = None
first_bytes (file ∷ files) = Some file.1

abbrev pub first_content : List Wanted → Option (List ℕ)
first_content [] = None
first_content (wanted ∷ others) = Some wanted.content.bytes

abbrev pub is_damaged : List Wanted → Bool
is_damaged [] = false
is_damaged (wanted ∷ others) = is_some wanted.content.fault || is_damaged others

first-append : (ws vs : List Wanted) → first_content (ws ++ vs) ≡ or_else (first_content ws) (first_content vs)
first-append [] vs = refl
first-append (w ∷ ws) vs = refl

damaged-append : (ws vs : List Wanted) → is_damaged (ws ++ vs) ≡ (is_damaged ws || is_damaged vs)
damaged-append [] vs = refl
damaged-append (w ∷ ws) vs = ap (λ (b : Bool). is_some w.content.fault || b) (damaged-append ws vs) ∙ or-assoc (is_some w.content.fault) (is_damaged ws) (is_damaged vs)

-- the first file of the directory is the first of these, each of which is in it or has a line that reports a failure, and
-- some line reports that one is damaged
pub record Keeps (files : List File) (ws : List Wanted) (lines : List FileLine) (now : List File) : Type 0 where
  pub first : first_bytes now ≡ or_else (first_bytes files) (first_content ws)
  pub count : length now + failures lines ≡ length files + length ws
  pub damaged : is_damaged ws ≡ true → worst lines ≡ Clean → ⊥

-- one after another
keeps_then : (files mid now : List File) (ws vs : List Wanted) (first others : List FileLine) → Keeps files ws first mid → Keeps mid vs others now
    → Keeps files (ws ++ vs) (first ++ others) now
keeps_then files mid now ws vs first others a b = record {
  first =
      b.first ∙ ap (λ (o : Option (List ℕ)). or_else o (first_content vs)) a.first ∙ or_else-assoc (first_bytes files) (first_content ws) (first_content vs)
      ∙ ap (or_else (first_bytes files)) (sym (first-append ws vs));
  count = omega (arith, a.count, b.count, length-append ws vs, failures-append first others);
  damaged = λ is clean.
      let parts = worse_clean (worst first) (worst others) (sym (worst-append first others) ∙ clean) in
      damaged_either (is_damaged ws) (is_damaged vs) (sym (damaged-append ws vs) ∙ is) (λ e. a.damaged e parts.0) (λ e. b.damaged e parts.1);
}

-- lines that report no failure
keeps_only : (files : List File) (lines : List FileLine) → failures lines ≡ 0 → Keeps files [] lines files
keeps_only files lines e = record {
  first = sym (or_else-none (first_bytes files));
  count = omega (arith, e);
  damaged = λ is clean. absurd (false_true is);
}

keeps_lines : (files now : List File) (ws : List Wanted) (first others : List FileLine) → failures others ≡ 0 → Keeps files ws first now → Keeps files ws (first ++ others) now
keeps_lines files now ws first others e h =
    subst (λ (vs : List Wanted). Keeps files vs (first ++ others) now) (append-nil ws) (keeps_then files now now ws [] first others h (keeps_only now others e))

-- ---- one file

first-added : (files : List File) (file : File) → first_bytes (files ++ file ∷ []) ≡ or_else (first_bytes files) (Some file.1)
first-added [] file = refl
first-added (f ∷ files) file = refl

first-full : (files : List File) (other : Option (List ℕ)) → fails_if_full files ≡ true → first_bytes files ≡ or_else (first_bytes files) other
first-full [] other e = absurd (false_true e)
first-full (f ∷ files) other e = refl

full_taken : (name : List ℕ) (files : List File) → has_file name files ≡ true → fails_if_full files ≡ true
full_taken name [] e = absurd (false_true e)
full_taken name (f ∷ files) e = refl

module _ (file : Option (List ℕ)) (number : Option ℕ) (options : Options) (files now : List File) (wanted : Wanted) (from : ℕ) (outcome : Outcome) (next : ℕ)
    (one : IsSaved fails_if_full options files wanted from outcome next now) where
  line_damaged : is_damaged (wanted ∷ []) ≡ true → worst (file_line file number outcome ∷ []) ≡ Clean → ⊥
  line_damaged is clean =
      error_line (is_some outcome.error) true (is_some outcome.saved)
      (one.error ∙ or_more (is_some wanted.content.fault) (not (is_some outcome.saved)) is) clean

  keeps_added : (text : List ℕ) → outcome.saved ≡ Some text → now ≡ files ++ (text, wanted.content.bytes) ∷ []
      → Keeps files (wanted ∷ []) (file_line file number outcome ∷ []) now
  keeps_added text saved e =
      let none : failures (file_line file number outcome ∷ []) ≡ 0 =
      ap (λ (n : ℕ). n + 0) (saved_line (is_some outcome.error) true (is_some outcome.saved) (ap is_some saved)) in
      record {
        first = ap first_bytes e ∙ first-added files (text, wanted.content.bytes);
        count = omega (arith, ap length e, length-append files ((text, wanted.content.bytes) ∷ []), none);
        damaged = line_damaged;
      }

  keeps_failed : outcome.saved ≡ None → fails_if_full files ≡ true → now ≡ files → Keeps files (wanted ∷ []) (file_line file number outcome ∷ []) now
  keeps_failed saved full e =
      let is_error : is_some outcome.error ≡ true = one.error ∙ or_not (is_some wanted.content.fault) (is_some outcome.saved) (ap is_some saved) in
      let one_more : failures (file_line file number outcome ∷ []) ≡ 1 =
      ap (λ (n : ℕ). n + 0) (failed_line (is_some outcome.error) (is_some outcome.saved) is_error (ap is_some saved)) in
      record {
        first = ap first_bytes e ∙ first-full files (first_content (wanted ∷ [])) full;
        count = omega (arith, ap length e, one_more);
        damaged = line_damaged;
      }

  keeps_numbered : (name : List ℕ) (saved : Option (List ℕ)) → outcome.saved ≡ saved → has_file name files ≡ true
      → IsKeptNumbered fails_if_full BySender name files wanted.content.bytes from saved next now → Keeps files (wanted ∷ []) (file_line file number outcome ∷ []) now
  keeps_numbered name (Some text) e taken h = keeps_added text e h.6
  keeps_numbered name None e taken h = keeps_failed e (full_taken name files taken) h.0

  keeps_one : options.naming ≡ BySender → Keeps files (wanted ∷ []) (file_line file number outcome ∷ []) now
  keeps_one by_sender =
      let name = target options.naming wanted.name wanted.content.bytes in
      let put : IsKept fails_if_full BySender name files wanted.content.bytes from outcome.saved next now =
      subst (λ (n : Naming). IsPut fails_if_full name n files wanted.content.bytes from outcome.saved next now) by_sender one.kept in
      elim put [
        | inl new ↦ keeps_added name new.1 new.3
        | inr other ↦
            elim other [
              | inl taken ↦ keeps_numbered name outcome.saved refl taken.0 taken.1
              | inr failed ↦ keeps_failed failed.1 failed.0 failed.3
            ]
      ]

-- ---- the files of an input

module _ (file : Option (List ℕ)) (options : Options) (by_sender : options.naming ≡ BySender) (known : Charsets) where
  keeps_files : (number : Option ℕ) (files now : List File) (ws : List Wanted) (from : ℕ) (lines : List FileLine) (next : ℕ)
      → AreFiles file fails_if_full options number ws files from lines next now → Keeps files ws lines now
  keeps_files number files now [] from lines next h = subst (λ (fs : List File). Keeps files [] lines fs) (sym h.2) (keeps_only files lines (ap failures h.0))
  keeps_files number files now (w ∷ ws) from lines next h =
      subst (λ (ls : List FileLine). Keeps files (w ∷ ws) ls now) (sym (h.6 ∙ ap (λ (ls : List FileLine). ls ++ h.3) h.4.2))
      (keeps_then files h.0 now (w ∷ []) ws (file_line file number h.4.0 ∷ []) h.3 (keeps_one file number options files h.0 w from h.4.0 h.1 h.4.1 by_sender)
      (keeps_files number h.0 now ws h.1 h.3 next h.5))

  inner_fine : (number : Option ℕ) (refusal : Option Refusal) (path : List ℕ)
      → failures (option_map_or (λ given. refused_line file number (Some path) (refusal_text given) ∷ []) refusal []) ≡ 0
  inner_fine number None path = refl
  inner_fine number (Some refusal) path = refl

  keeps_inner : (number : Option ℕ) (inner : InnerMail) (files now : List File) (from next : ℕ) (lines : List FileLine)
      → IsInside file fails_if_full options known number inner files from lines next now → Keeps files (chosen options.choice (wanted_inside known options.limit inner)) lines now
  keeps_inner number inner files now from next lines h =
      subst (λ (ls : List FileLine). Keeps files (chosen options.choice (wanted_inside known options.limit inner)) ls now) (sym h.6)
      (keeps_lines files now _ h.2 h.3 (ap failures h.5.0 ∙ inner_fine number inner.refusal inner.path)
      (subst (λ (fs : List File). Keeps files (chosen options.choice (wanted_inside known options.limit inner)) h.2 fs) (sym h.5.2) (keeps_files number files h.0 _ from h.2 h.1 h.4)))

  keeps_inside : (number : Option ℕ) (mails : List InnerMail) (files now : List File) (from next : ℕ) (lines : List FileLine)
      → AreInside file fails_if_full options known number mails files from lines next now → Keeps files (chosen_inside known options.limit options.choice mails) lines now
  keeps_inside number [] files now from next lines h = subst (λ (fs : List File). Keeps files [] lines fs) (sym h.2) (keeps_only files lines (ap failures h.0))
  keeps_inside number (inner ∷ mails) files now from next lines h =
      let files_of = λ (i : InnerMail). chosen options.choice (wanted_inside known options.limit i) in
      subst (λ (ls : List FileLine). Keeps files (chosen_inside known options.limit options.choice (inner ∷ mails)) ls now) (sym h.6)
      (subst (λ (ws : List Wanted). Keeps files ws (h.2 ++ h.3) now) (sym (flat_map-cons files_of inner mails))
      (keeps_then files h.0 now (files_of inner) (chosen_inside known options.limit options.choice mails) h.2 h.3 (keeps_inner number inner files h.0 from h.1 h.2 h.4) (keeps_inside number mails h.0 now h.1 next h.3 h.5)))

  keeps_mail : (number : Option ℕ) (read : Reads Tree) (files now : List File) (from next : ℕ) (lines : List FileLine)
      → IsMailOf file fails_if_full options known number read files from lines next now → Keeps files (read_files known options.limit options.choice read) lines now
  keeps_mail number (Ok t) files now from next lines h =
      let own = wanted_among known options.limit Own (places t (mail_placements t)) in
      let mails = inner_mails_within known options.limit 100 [] (Some 0) t (mail_placements t) in
      subst (λ (ls : List FileLine). Keeps files (chosen options.choice (wanted_files known options.limit t (mail_placements t))) ls now) (sym h.6)
      (subst (λ (ws : List Wanted). Keeps files ws (h.2 ++ h.3) now) (chosen_all known options.limit options.choice own mails)
      (keeps_then files h.0 now (chosen options.choice own) (chosen_inside known options.limit options.choice mails) h.2 h.3 (keeps_files number files h.0 _ from h.2 h.1 h.4) (keeps_inside number mails h.0 now h.1 next h.3 h.5)))
  keeps_mail number (Err refusal) files now from next lines h =
      subst (λ (fs : List File). Keeps files [] lines fs) (sym h.2) (keeps_only files lines (ap failures h.0))

  keeps_mails : (format : Format) (number : ℕ) (entries : List Entry) (files now : List File) (from next : ℕ) (lines : List FileLine)
      → AreMails file fails_if_full options known format number entries files from lines next now
      → Keeps files (flat_map (λ entry. mail_files known options.limit options.choice options.most_bytes (mail_in format entry.mail)) entries) lines now
  keeps_mails format number [] files now from next lines h = subst (λ (fs : List File). Keeps files [] lines fs) (sym h.2) (keeps_only files lines (ap failures h.0))
  keeps_mails format number (entry ∷ entries) files now from next lines h =
      let files_of = λ (e : Entry). mail_files known options.limit options.choice options.most_bytes (mail_in format e.mail) in
      subst (λ (ls : List FileLine). Keeps files (flat_map files_of (entry ∷ entries)) ls now) (sym h.6)
      (subst (λ (ws : List Wanted). Keeps files ws (h.2 ++ h.3) now) (sym (flat_map-cons files_of entry entries))
      (keeps_then files h.0 now (files_of entry) (flat_map files_of entries) h.2 h.3
      (keeps_mail (Some number) (bounded_reading known options.limit options.most_bytes (mail_in format entry.mail)) files h.0 from h.1 h.2 h.4)
      (keeps_mails format (saturating_add number 1) entries h.0 now h.1 next h.3 h.5)))

  front_fine : (front : List ℕ) (is : Bool) → failures (cond is [] (refused_line file None None front ∷ [])) ≡ 0
  front_fine front true = refl
  front_fine front false = refl

  keeps_input_of : (format : Format) (is : Bool) (bytes : List ℕ) (files now : List File) (from next : ℕ) (lines : List FileLine)
      → IsInputOf file fails_if_full options known format is bytes files from lines next now → Keeps files (input_files_of known options.limit options.choice options.most_bytes format is bytes) lines now
  keeps_input_of format true bytes files now from next lines h =
      subst (λ (ls : List FileLine). Keeps files (input_files_of known options.limit options.choice options.most_bytes format true bytes) ls now) (sym h.6)
      (keeps_then files h.0 now [] (input_files_of known options.limit options.choice options.most_bytes format true bytes) h.2 h.3
      (subst (λ (fs : List File). Keeps files [] h.2 fs) (sym h.4.2)
      (keeps_only files h.2 (ap failures h.4.0 ∙ front_fine _ (list_all is_ascii_whitespace (take (front_length bytes) bytes)))))
      (keeps_mails format 1 (entries_in format bytes) h.0 now h.1 next h.3 h.5))
  keeps_input_of format false bytes files now from next lines h = keeps_mail None (bounded_reading known options.limit options.most_bytes bytes) files now from next lines h

  pub keeps_input : (kind : InputKind) (bytes : List ℕ) (files now : List File) (from next : ℕ) (lines : List FileLine)
      → IsInput file fails_if_full options known kind bytes files from lines next now → Keeps files (input_files known options.limit options.choice options.most_bytes kind bytes) lines now
  keeps_input kind bytes files now from next lines h = keeps_input_of (format_of kind) (is_mailbox kind bytes) bytes files now from next lines h

-- ---- at the end, given the only file of the directory

pub none_kept : (ws : List Wanted) (lines : List FileLine) → Keeps [] ws lines [] → ws ≡ []
none_kept [] lines h = refl
none_kept (w ∷ ws) lines h = absurd (none-some w.content.bytes h.first)

pub several_kept : (ws : List Wanted) (lines : List FileLine) (file : File) → Failed ≡ worst lines → Keeps [] ws lines (file ∷ []) → 1 < length ws
several_kept ws lines file e h = omega (arith, h.count, failing_worst lines, ap failing e)

pub one_kept : (ws : List Wanted) (lines : List FileLine) (file : File) → failing (worst lines) ≡ 0 → Keeps [] ws lines (file ∷ [])
    → (w : Wanted) × (ws ≡ w ∷ []) × (file.1 ≡ w.content.bytes) × (is_some w.content.fault ≡ true → worst lines ≡ Clean → ⊥)
one_kept [] lines file e h = absurd (omega (arith, h.count, none_failing lines e))
one_kept (w ∷ []) lines file e h = (w, refl, some-is file.1 w.content.bytes h.first, λ is. h.damaged (ap (λ (b : Bool). b || false) is))
one_kept (w ∷ v ∷ ws) lines file e h = absurd (omega (arith, h.count, none_failing lines e))

-- ---- what the call did

files_is : (a b : List File) → ◌≡◌ {A = Option (List File)} (Some a) (Some b) → a ≡ b
files_is a b e = cc

not_failing : (outcome : program.Outcome) → (outcome ≡ Failed → ⊥) → failing outcome ≡ 0
not_failing Clean h = refl
not_failing Refused h = refl
not_failing Failed h = absurd (h refl)

failed_refused : ◌≡◌ {A = program.Outcome} Failed Refused → ⊥
failed_refused e = cc

-- an outcome that is one of two others is no failure
pub not_failed : (outcome : program.Outcome) → (outcome ≡ Clean) ⊎ (outcome ≡ Refused) → outcome ≡ Failed → ⊥
not_failed Clean h e = failed_clean (sym e)
not_failed Refused h e = failed_refused (sym e)
not_failed Failed h e = ⊎_elim (λ is. failed_clean is) (λ is. failed_refused is) h

is_refused : (outcome : program.Outcome) → failing outcome ≡ 0 → (outcome ≡ Clean → ⊥) → outcome ≡ Refused
is_refused Clean e h = absurd (h refl)
is_refused Refused e h = refl
is_refused Failed e h = absurd (one_zero e)
  where
    one_zero : ◌≡◌ {A = ℕ} 1 0 → ⊥
    one_zero e = cc

module _ (file : Option (List ℕ)) (options : Options) (known : Charsets) (kind : InputKind) (by_sender : options.naming ≡ BySender) (directory : OneFile)
    (old_lines new_lines left_before left : Option (List ℕ)) (next : ℕ) (outcome : program.Outcome)
    (h : EndsInput (Some []) (Some (files_held directory)) old_lines new_lines 2 next left_before left (Ok outcome) (IsInput file fails_if_full options known kind)) where
  -- the files of an input, and how they are saved
  abbrev pub Files : List ℕ → List Wanted
  Files = input_files known options.limit options.choice options.most_bytes kind

  abbrev pub Are : List ℕ → Saves
  Are = IsInput file fails_if_full options known kind

  kept_all : (all : List ℕ) × Consumes left_before left all × IsAtEnd left × (lines : List FileLine) × (outcome ≡ worst lines)
      × Keeps [] (Files all) lines (files_held directory) × Appends old_lines new_lines (lines_text lines) × (now : List File) × Are all [] 2 lines next now
  kept_all =
      let saved = h.3 in
      let after = saved.4 [] refl in (
        h.0,
        h.1,
        h.2,
        saved.0,
        saved.2,
        subst (λ (fs : List File). Keeps [] (Files h.0) saved.0 fs) (sym (files_is (files_held directory) after.0 after.1))
            (keeps_input file options by_sender known kind h.0 [] after.0 2 next saved.0 after.2),
        saved.1,
        after.0,
        after.2,
      )

  held : (found : Option HeldFile) → directory.file ≡ found → files_held directory ≡ option_map_or (λ (f : HeldFile). (string_bytes f.name, f.bytes.items) ∷ []) found []
  held found e = ap (λ (o : Option HeldFile). option_map_or (λ (f : HeldFile). (string_bytes f.name, f.bytes.items) ∷ []) o []) e

  pub missing_only : (old : Option (List ℕ)) → directory.file ≡ None → WritesOnly old old old_lines new_lines left_before left (Ok Missing) Files Are
  missing_only old e =
      let k = kept_all in (
        k.0,
        k.1,
        k.2,
        (none_kept _ k.3 (subst (λ (fs : List File). Keeps [] (Files k.0) k.3 fs) (held None e) k.5), Appends-nil old),
        (k.3, k.6, tt, next, k.7, k.8),
      )

  pub several_only : (old : Option (List ℕ)) (found : HeldFile) → directory.file ≡ Some found → outcome ≡ Failed
      → WritesOnly old old old_lines new_lines left_before left (Ok Several) Files Are
  several_only old found e failed =
      let k = kept_all in (
        k.0,
        k.1,
        k.2,
        (
          several_kept _ k.3 (string_bytes found.name, found.bytes.items) (sym failed ∙ k.4)
              (subst (λ (fs : List File). Keeps [] (Files k.0) k.3 fs) (held (Some found) e) k.5),
          Appends-nil old,
        ),
        (k.3, k.6, sym k.4 ∙ failed, next, k.7, k.8),
      )

  pub written_only : (old new : Option (List ℕ)) (found : HeldFile) (bytes : List ℕ) → directory.file ≡ Some found → (outcome ≡ Failed → ⊥) → bytes ≡ found.bytes.items
      → Appends old new bytes → WritesOnly old new old_lines new_lines left_before left (Ok (Written outcome)) Files Are
  written_only old new found bytes e fine_is is_bytes p =
      let k = kept_all in
      let fine = not_failing outcome fine_is in
      let one =
      one_kept _ k.3 (string_bytes found.name, found.bytes.items) (ap failing (sym k.4) ∙ fine)
      (subst (λ (fs : List File). Keeps [] (Files k.0) k.3 fs) (held (Some found) e) k.5) in (
        k.0,
        k.1,
        k.2,
        (
          one.0,
          one.1,
          subst (λ (bs : List ℕ). Appends old new bs) (is_bytes ∙ one.2) p,
          λ is. is_refused outcome fine (λ clean. one.3 is (sym k.4 ∙ clean)),
        ),
        (k.3, k.6, k.4, next, k.7, k.8),
      )
