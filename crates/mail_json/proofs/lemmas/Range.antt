-- Lemmas on the lines of a part of an input.
use Rattle.std.proofs.Common.{◌≡◌, ℕ, zero, suc, ◌+◌, ◌-◌, ◌<◌, ◌≤◌, Bool, true, false, cond, ◌&&◌, ◌||◌, List, [], ◌∷◌, ◌++◌, Option, None, Result, Ok, length, take, drop, refl, sym, ap, subst, ◌∙◌, append_assoc, arith, length-append, length-drop, inl, inr}
use Rattle.std.proofs.Math.Bool.{and_assoc, and-true}
use Rattle.std.specs.Prelude.{◌*◌, ◌/◌, ◌==◌}
use Rattle.std.specs.Io.KnownBytes.{Appends, Consumes, IsAtEnd}
use Rattle.std.specs.List.{flat_map, list_all}
use Rattle.std.proofs.Math.Nat.{zero-div}
use Rattle.std.proofs.lemmas.Bool.{and_from, cases_Bool, cases_lt, false≢true, lt-ltb, ltb-true}
use Rattle.std.proofs.lemmas.List.{append-nil, drop-append-le, drop-drop, nil_from_length, take-append-drop, take-append-le, take_at}
use Rattle.mail_json.specs.Options.{Options}
use Rattle.mail_codec.specs.Places.{begins, first_place, values_below}
use Rattle.mail_codec.proofs.lemmas.Places.{true_not_false}
use Rattle.mail_data.specs.LineEnds.{line_length}
use Rattle.mail_data.specs.Mailbox.{Entry, entries_by, front_length, has_front, has_line, is_before_text, next_entry}
use Rattle.mail_data.specs.MailboxFormats.{entries_in, length_in}
use Rattle.mail_data.specs.MailboxParts.{Placed, in_range, part_mails, part_start, placed_from}
use Rattle.mail_data.specs.declared.mailbox.formats.Format.{Format}
use Rattle.mail_data.specs.declared.mailbox.formats.Format.TheVariants.{Plain, Quoted, Counted}
use Rattle.mail_data.specs.Separator.{is_separator}
use Rattle.mail_data.proofs.lemmas.Mailbox.{entries-none, front_length-none}
use Rattle.mail_data.proofs.lemmas.MailboxFormats.{front_in-stays}
use Rattle.mail_data.proofs.lemmas.MailboxFound.{after-front, cut-found, front-stays, separator-stays}
use Rattle.mail_data.proofs.lemmas.MailboxJoined.{front-joined}
use Rattle.mail_data.proofs.lemmas.MailboxParts.{parts-joined}
use Rattle.mail_data.proofs.lemmas.MailboxRange.{range-found}
use Rattle.mail_program.specs.declared.fault.Fault.{Fault}
use Rattle.mail_json.specs.Selection.{AreChosen, AreChosenOf, Fits, OnlyIf}
use Rattle.mail_json.specs.JsonLines.{AreAfterFront, AreLines, IsWholeLine, Lines, WritesLines}
use Rattle.mail_walk.specs.Kind.{format_of, is_mailbox}
use Rattle.mail_walk.specs.Offsets.{saturating_add}
use Rattle.mail_json.specs.Range.{ArePartLines, AreRangeLines, AreRangeLinesAt, AreUnnumberedLines, AreUnnumberedOf, ShowsMailbox, WritesPart, has_parts, placed_in}
use Rattle.mail_json.specs.Stream.{HasLeft, WritesChosen}
use Rattle.mail_json.specs.declared.selection.Selection.{Selection}
use Rattle.mail_json.specs.declared.selection.Selection.TheVariants.{Within}
use Rattle.mail_walk.specs.declared.kind.InputKind.{InputKind}
use Rattle.mail_walk.specs.declared.kind.InputKind.TheVariants.{Either, Mail, Mailbox}
use Rattle.mail_json.specs.declared.written.Written.{Written}
use Rattle.mail_json.specs.declared.written.Written.TheVariants.{Clean}
use Rattle.mail_json.proofs.lemmas.JsonLines.{capped, chosen_capped, none_begins}
use Rattle.mail_json.proofs.lemmas.Stream.{has_left, input_after, input_whole, left_of, none_left}

-- ---- whether an input is a mailbox

form_line : (kind : InputKind) (read more : List ℕ) → has_line read ≡ true → is_mailbox kind (read ++ more) ≡ is_mailbox kind read
form_line Either read more h = separator-stays read more (ltb-true (line_length read) (length read) h)
form_line Mail read more h = refl
form_line (Mailbox format) read more h = refl

pub mailbox_shown : (kind : InputKind) (a b : Option (List ℕ)) (read : List ℕ) (has_ended is : Bool) → Consumes a b read → (has_ended ≡ true → IsAtEnd b)
    → (has_ended ≡ false → has_line read ≡ true) → is ≡ is_mailbox kind read → ShowsMailbox kind a b (Ok is)
mailbox_shown kind a b read true is p ended there e = (read, [], p, none_left b (ended refl), e ∙ ap (is_mailbox kind) (sym (append-nil read)))
mailbox_shown kind a b read false is p ended there e = (read, left_of b, p, has_left b, e ∙ sym (form_line kind read (left_of b) (there refl)))

-- ---- a range in which no mail begins

-- a LF that bytes follow, after an offset or from the start
feed_later : (bytes : List ℕ) (n : ℕ) → suc (first_place (begins (λ b. b == 10)) (drop n bytes)) < length (drop n bytes) → suc (first_place (begins (λ b. b == 10)) bytes) < length bytes
feed_later bytes zero h = h
feed_later [] (suc n) h = h
feed_later (b ∷ bytes) (suc n) h =
    let later = feed_later bytes n h in
    elim (b == 10) as (λ t. suc (cond t 0 (suc (first_place (begins (λ c. c == 10)) bytes))) < length (b ∷ bytes)) [
      | true ↦ omega arith
      | false ↦ omega arith
    ]

-- the first line is whole if the one that contains an offset is
line_before : (bytes : List ℕ) (n : ℕ) → has_line (drop n bytes) ≡ true → line_length bytes < length bytes
unfolding line_length
line_before bytes n h =
    let low = ltb-true (line_length (drop n bytes)) (length (drop n bytes)) h in
    let later = feed_later bytes n (omega arith) in
    omega arith

-- each line before it is whole too
line_there : (read : List ℕ) (n q : ℕ) → has_line (drop n read) ≡ true → q ≤ n → line_length (drop q read) < length (drop q read)
line_there read n q line low =
    let place : q + (n - q) ≡ n = omega arith in
    line_before (drop q read) (n - q) (ap (λ (bs : List ℕ). has_line bs) (drop-drop (n - q) q read ∙ ap (λ (k : ℕ). drop k read) place) ∙ line)

before_text : (bytes : List ℕ) → is_separator bytes ≡ true → line_length bytes < length bytes → is_before_text bytes ≡ true
unfolding is_before_text
before_text bytes is line = and_from (is_separator bytes) (has_line bytes) is (lt-ltb (line_length bytes) (length bytes) line)

front_at : (read : List ℕ) (q : ℕ) → drop (front_length read) read ≡ drop q read → is_before_text (drop q read) ≡ true → has_front read ≡ true
unfolding has_front
front_at read q same before = ap is_before_text same ∙ before

-- the first separator of all bytes is the first one of those that were read, if it is among them
front_same : (read more : List ℕ) (q : ℕ) → q ≡ front_length (read ++ more) → is_separator (read ++ more) ≡ is_separator read → q ≤ length read
    → is_separator (drop q (read ++ more)) ≡ true → is_separator (drop q read) ≡ true → drop (front_length read) read ≡ drop q read
front_same read more q is_front first within marked marked_here = elim (cases_Bool (is_separator read)) [
  | inl is ↦
      let none : front_length read ≡ q = sym (front_length-none read (sym is)) ∙ front_length-none (read ++ more) (sym (first ∙ is)) ∙ sym is_front in
      ap (λ (k : ℕ). drop k read) none
  | inr fails ↦
      let here = after-front (read ++ more) (first ∙ fails) ∙ ap (λ (k : ℕ). drop k (read ++ more)) (sym is_front) in
      let next = next_entry (10 ∷ (read ++ more)) in
      let marked_next : is_separator next ≡ true = ap is_separator here ∙ marked in
      let cut = cut-found (10 ∷ (read ++ more)) marked_next in
      let whole_size = ap length cut.whole in
      let whole_sum = length-append cut.first next in
      let all_sum = length-append read more in
      let next_size = ap length here in
      let left = length-drop q (read ++ more) in
      let size : length cut.first ≡ suc q = omega arith in
      let taken : cut.first ≡ 10 ∷ take q read =
      sym (take_at cut.first next (suc q) size) ∙ ap (take (suc q)) cut.whole ∙ ap (λ (bs : List ℕ). 10 ∷ bs) (take-append-le q read more within) in
      let same : cut.first ++ drop q read ≡ 10 ∷ read = ap (λ (bs : List ℕ). bs ++ drop q read) taken ∙ ap (λ (bs : List ℕ). 10 ∷ bs) (take-append-drop q read) in
      let there = front-joined cut.first (drop q read) cut.ends marked_here in
      let beyond = front-joined cut.first next cut.ends marked_next in
      let nothing_size = ap length (sym (ap next_entry cut.whole) ∙ beyond.next) in
      let nothing_sum = length-append (next_entry cut.first) next in
      let nothing : next_entry cut.first ≡ [] = nil_from_length (next_entry cut.first) (omega arith) in
      sym (after-front read fails) ∙ ap next_entry (sym same) ∙ there.next ∙ ap (λ (bs : List ℕ). bs ++ drop q read) nothing
]

-- the separator at this offset was read with its whole line, and it is the first one
front_shown : (read more : List ℕ) (n q : ℕ) → q ≡ front_length (read ++ more) → has_line (drop n read) ≡ true → is_separator (drop q (read ++ more)) ≡ true → q ≤ n → has_front read ≡ true
front_shown read more n q is_front line marked low =
    let there = line_there read n q line low in
    let left = length-drop q read in
    let within : q ≤ length read = omega arith in
    let marked_here : is_separator (drop q read) ≡ true = sym (separator-stays (drop q read) more there) ∙ ap is_separator (sym (drop-append-le q read more within)) ∙ marked in
    front_at read q (front_same read more q is_front (separator-stays read more (line_before read n line)) within marked marked_here) (before_text (drop q read) marked_here there)

-- no mail begins in a range if its last line was read and no separator begins before its end
none_found : (format : Format) (from to start n q : ℕ) (read more : List ℕ) → q ≡ front_length (read ++ more) → has_front read ≡ false → has_line (drop n read) ≡ true → to ≤ start + n
    → in_range from to (placed_from (start + q) (entries_by (length_in format) (drop q (read ++ more)))) ≡ []
none_found format from to start n q read more is_front none line past = elim (cases_Bool (is_separator (drop q (read ++ more)))) [
  | inl marked ↦
      elim (cases_lt n q) [
        | inl beyond ↦ none_begins from to (start + q) (entries_by (length_in format) (drop q (read ++ more))) (omega arith)
        | inr low ↦ absurd (true_not_false (front_shown read more n q is_front line marked low) none)
      ]
  | inr fails ↦ ap (λ (es : List Entry). in_range from to (placed_from (start + q) es)) (entries-none (length_in format) (drop q (read ++ more)) fails)
]

pub range_without : (options : Options) (format : Format) (file : Option (List ℕ)) (from to start n : ℕ) (a b old new : Option (List ℕ)) (read : List ℕ) → has_front read ≡ false
    → (has_front read || has_line (drop n read)) ≡ true → to ≤ start + n → Consumes a b read → Appends old new []
    → WritesPart a b old new (Ok Clean) (AreRangeLinesAt options format file from to start)
range_without options format file from to start n a b old new read none line past p w =
    let there : has_line (drop n read) ≡ true = ap (λ (t : Bool). t || has_line (drop n read)) (sym none) ∙ line in
    let nothing = none_found format from to start n (front_length (read ++ left_of b)) read (left_of b) refl none there past in
    (read, left_of b, p, has_left b, [], subst (λ (ms : List Placed). AreLines options format file None ms true []) (sym nothing) (refl, refl), w)

-- ---- reading from an offset onwards

-- Of a file that is a mailbox in a format.
module _ (options : Options) (format : Format) (file : Option (List ℕ)) where
  range-lines : (from to start n : ℕ) (bytes same : List ℕ) (mails : List Entry) → Fits (Within from to)
      → n ≡ saturating_add start (front_length bytes) → mails ≡ entries_in format bytes → same ≡ bytes → (is_clean : Bool) (text : List ℕ)
      → AreChosen options format file (Within from to) (placed_from n mails) is_clean text → AreRangeLinesAt options format file from to start same is_clean text
  range-lines from to start n bytes same mails fits place e f is_clean text h =
      let capped_same : capped n ≡ capped (start + front_length bytes) = omega arith in
      let here = chosen_capped options format file (Within from to) fits n (start + front_length bytes) mails is_clean text capped_same h in
      subst (λ (bs : List ℕ). AreRangeLinesAt options format file from to start bs is_clean text) (sym f)
      (subst (λ (es : List Entry). AreLines options format file None (in_range from to (placed_from (start + front_length bytes) es)) is_clean text) e here)

  -- all bytes were read, and the lines of the mails were written
  pub range_whole : (selection : Selection) (from to start n : ℕ) (a b old new : Option (List ℕ)) (r : Result Written Fault) (all bytes : List ℕ) (mails : List Entry) → selection ≡ Within from to
      → Fits selection → n ≡ saturating_add start (front_length bytes) → mails ≡ entries_in format bytes → all ≡ bytes → Consumes a b all → IsAtEnd b
      → WritesLines old new r (AreChosen options format file selection (placed_from n mails)) → WritesPart a b old new r (AreRangeLinesAt options format file from to start)
  range_whole selection from to start n a b old new r all bytes mails e fits place is_mails same p ended w =
      input_whole HasLeft a b old new r all (AreChosen options format file selection (placed_from n mails)) (AreRangeLinesAt options format file from to start) p (none_left b ended)
      (λ is_clean text h. range-lines from to start n bytes all mails (subst Fits e fits) place is_mails same is_clean text
      (subst (λ (v : Selection). AreChosen options format file v (placed_from n mails) is_clean text) e h))
      w

  -- the front was read, and the lines of the mails of the rest and of what follows were written
  pub range_rest : (selection : Selection) (from to start n : ℕ) (a b c old new : Option (List ℕ)) (r : Result Written Fault) (read rest : List ℕ) → selection ≡ Within from to → Fits selection
      → has_front read ≡ true → n ≡ saturating_add start (front_length read) → rest ≡ drop (front_length read) read → Consumes a b read
      → WritesChosen selection b c old new r (λ more. AreChosen options format file selection (placed_from n (entries_in format (rest ++ more))))
      → WritesPart a c old new r (AreRangeLinesAt options format file from to start)
  range_rest selection from to start n a b c old new r read rest e fits settled place is_rest p w =
      let chosen =
      subst (λ (v : Selection). WritesChosen v b c old new r (λ more. AreChosen options format file v (placed_from n (entries_in format (rest ++ more))))) e w in
      input_after HasLeft a b c old new r read (λ more. AreChosen options format file (Within from to) (placed_from n (entries_in format (rest ++ more))))
      (AreRangeLinesAt options format file from to start) p
      (λ more is_clean text h.
      let stays = front-stays read more settled in
      let mails : entries_in format (rest ++ more) ≡ entries_in format (read ++ more) =
      ap (λ (bs : List ℕ). entries_in format (bs ++ more)) is_rest ∙ sym (front_in-stays format read more settled) in
      range-lines from to start n (read ++ more) (read ++ more) (entries_in format (rest ++ more)) (subst Fits e fits)
      (place ∙ ap (saturating_add start) (sym stays.0)) mails refl is_clean text h)
      chosen

  -- ---- parts one after another

  lines-append : (a b : List Placed) (one others : Bool) (text lines : List ℕ) → AreLines options format file None a one text → AreLines options format file None b others lines
      → AreLines options format file None (a ++ b) (one && others) (text ++ lines)
  lines-append [] b one others text lines p q =
      subst (λ (w : Bool). AreLines options format file None b (w && others) (text ++ lines)) (sym p.0)
      (subst (λ (t : List ℕ). AreLines options format file None b others (t ++ lines)) (sym p.1) q)
  lines-append (mail ∷ a) b one others text lines p q = (
    p.0,
    p.1 && others,
    p.2,
    p.3 ++ lines,
    p.4,
    lines-append a b p.1 others p.3 lines p.5 q,
    ap (λ (w : Bool). w && others) p.6 ∙ and_assoc p.0 p.1 others,
    ap (λ (t : List ℕ). t ++ lines) p.7 ∙ append_assoc p.2 p.3 lines,
  )

  lines-joined : (count : ℕ) (mails : ℕ → List Placed) (are_clean : ℕ → Bool) (texts : ℕ → List ℕ)
      → ((k : ℕ) → k < count → AreLines options format file None (mails k) (are_clean k) (texts k))
      → AreLines options format file None (flat_map (λ (ms : List Placed). ms) (values_below count mails)) (list_all (λ (w : Bool). w) (values_below count are_clean))
      (flat_map (λ (t : List ℕ). t) (values_below count texts))
  lines-joined zero mails are_clean texts h = (refl, refl)
  lines-joined (suc count) mails are_clean texts h =
      lines-append (mails 0) (flat_map (λ (ms : List Placed). ms) (values_below count (λ k. mails (suc k)))) (are_clean 0)
      (list_all (λ (w : Bool). w) (values_below count (λ k. are_clean (suc k)))) (texts 0) (flat_map (λ (t : List ℕ). t) (values_below count (λ k. texts (suc k))))
      (h 0 (omega arith)) (lines-joined count (λ k. mails (suc k)) (λ k. are_clean (suc k)) (λ k. texts (suc k)) (λ k low. h (suc k) (omega arith)))

  -- the error for the front, the lines of the first part and those of the others
  after_front-joined : (front : List ℕ) (all a b : List Placed) (one others : Bool) (text lines : List ℕ) → a ++ b ≡ all
      → AreAfterFront file front (AreLines options format file None a) one text → AreLines options format file None b others lines
      → AreAfterFront file front (AreLines options format file None all) (one && others) (text ++ lines)
  after_front-joined front all a b one others text lines e p q = (
    p.0,
    p.1 && others,
    p.2,
    p.3 ++ lines,
    p.4,
    subst (λ (ms : List Placed). AreLines options format file None ms (p.1 && others) (p.3 ++ lines)) e (lines-append a b p.1 others p.3 lines p.5 q),
    ap (λ (w : Bool). w && others) p.6 ∙ and_assoc p.0 p.1 others,
    ap (λ (t : List ℕ). t ++ lines) p.7 ∙ append_assoc p.2 p.3 lines,
  )

-- ---- equal parts of an input

-- nothing is written for parts without lines
nothing-joined : (count : ℕ) (are_clean : ℕ → Bool) (texts : ℕ → List ℕ) → ((k : ℕ) → k < count → (are_clean k ≡ true) × (texts k ≡ []))
    → (list_all (λ (w : Bool). w) (values_below count are_clean) ≡ true) × (flat_map (λ (t : List ℕ). t) (values_below count texts) ≡ [])
nothing-joined zero are_clean texts h = (refl, refl)
nothing-joined (suc count) are_clean texts h =
    let first = h 0 (omega arith) in
    let rest = nothing-joined count (λ k. are_clean (suc k)) (λ k. texts (suc k)) (λ k low. h (suc k) (omega arith)) in (
      ap (λ (w : Bool). w && list_all (λ (v : Bool). v) (values_below count (λ k. are_clean (suc k)))) first.0 ∙ rest.0,
      ap (λ (t : List ℕ). t ++ flat_map (λ (u : List ℕ). u) (values_below count (λ k. texts (suc k)))) first.1 ∙ rest.1,
    )

parts_placed : (format : Format) (bytes : List ℕ) (count : ℕ) → has_parts format ≡ true → 0 < count
    → flat_map (λ (ms : List Placed). ms) (values_below count (λ k. in_range (part_start bytes count k) (part_start bytes count (suc k)) (placed_in format bytes))) ≡ placed_in format bytes
unfolding part_mails
parts_placed Plain bytes count h some = parts-joined bytes count some
parts_placed Quoted bytes count h some = parts-joined bytes count some
parts_placed Counted bytes count h some = absurd (false≢true h)

-- the lines of parts of an input that is a mailbox in a format, or one mail
abbrev PartsOf : Options → Format → Bool → Option (List ℕ) → List ℕ → ℕ → ℕ → Lines
PartsOf options format is file bytes count zero = AreChosenOf options format is file (Within 0 (part_start bytes count 1)) bytes
PartsOf options format is file bytes count (suc number) =
    OnlyIf is (AreRangeLines options format file (part_start bytes count (suc number)) (part_start bytes count (suc (suc number))) bytes)

joined-of : (options : Options) (format : Format) (is : Bool) (file : Option (List ℕ)) (bytes : List ℕ) (count : ℕ) (are_clean : ℕ → Bool) (texts : ℕ → List ℕ) → has_parts format ≡ true
    → 0 < count → ((k : ℕ) → k < count → PartsOf options format is file bytes count k (are_clean k) (texts k))
    → AreUnnumberedOf options format is file bytes (list_all (λ (w : Bool). w) (values_below count are_clean)) (flat_map (λ (t : List ℕ). t) (values_below count texts))
joined-of options format is file bytes zero are_clean texts parts some h = absurd (omega arith)
joined-of options format true file bytes (suc count) are_clean texts parts some h =
    let all = suc count in
    let mails : ℕ → List Placed = λ k. in_range (part_start bytes all k) (part_start bytes all (suc k)) (placed_in format bytes) in
    let start : 0 ≡ part_start bytes all 0 = let nothing : 0 ≡ length bytes * 0 = omega arith in sym (zero-div all) ∙ ap (λ (n : ℕ). n / all) nothing in
    let first =
    subst (λ (n : ℕ). AreAfterFront file (take (front_length bytes) bytes) (AreLines options format file None (in_range n (part_start bytes all 1) (placed_in format bytes))) (are_clean 0) (texts 0))
    start (h 0 (omega arith)) in
    after_front-joined options format file (take (front_length bytes) bytes) (placed_in format bytes) (mails 0) (flat_map (λ (ms : List Placed). ms) (values_below count (λ k. mails (suc k))))
    (are_clean 0) (list_all (λ (w : Bool). w) (values_below count (λ k. are_clean (suc k)))) (texts 0) (flat_map (λ (t : List ℕ). t) (values_below count (λ k. texts (suc k))))
    (parts_placed format bytes all parts some) first
    (lines-joined options format file count (λ k. mails (suc k)) (λ k. are_clean (suc k)) (λ k. texts (suc k)) (λ k low. h (suc k) (omega arith)))
joined-of options format false file bytes (suc count) are_clean texts parts some h =
    let rest = nothing-joined count (λ k. are_clean (suc k)) (λ k. texts (suc k)) (λ k low. h (suc k) (omega arith)) in
    let clean : (are_clean 0 && list_all (λ (w : Bool). w) (values_below count (λ k. are_clean (suc k)))) ≡ are_clean 0 = ap (λ (w : Bool). are_clean 0 && w) rest.0 ∙ and-true (are_clean 0) in
    let text : texts 0 ++ flat_map (λ (t : List ℕ). t) (values_below count (λ k. texts (suc k))) ≡ texts 0 = ap (λ (t : List ℕ). texts 0 ++ t) rest.1 ∙ append-nil (texts 0) in
    subst (λ (w : Bool). IsWholeLine options file bytes w (texts 0 ++ flat_map (λ (t : List ℕ). t) (values_below count (λ k. texts (suc k))))) (sym clean)
    (subst (λ (t : List ℕ). IsWholeLine options file bytes (are_clean 0) t) (sym text) (h 0 (omega arith)))

part-of : (options : Options) (kind : InputKind) (file : Option (List ℕ)) (bytes : List ℕ) (count k : ℕ) (is_clean : Bool) (text : List ℕ)
    → ArePartLines options kind file bytes count k is_clean text → PartsOf options (format_of kind) (is_mailbox kind bytes) file bytes count k is_clean text
part-of options kind file bytes count zero is_clean text h = h
part-of options kind file bytes count (suc k) is_clean text h = h

pub parts_lines : (options : Options) (kind : InputKind) (file : Option (List ℕ)) (bytes : List ℕ) (count : ℕ) (are_clean : ℕ → Bool) (texts : ℕ → List ℕ) → has_parts (format_of kind) ≡ true
    → 0 < count → ((k : ℕ) → k < count → ArePartLines options kind file bytes count k (are_clean k) (texts k))
    → AreUnnumberedLines options kind file bytes (list_all (λ (w : Bool). w) (values_below count are_clean)) (flat_map (λ (t : List ℕ). t) (values_below count texts))
parts_lines options kind file bytes count are_clean texts parts some h =
    joined-of options (format_of kind) (is_mailbox kind bytes) file bytes count are_clean texts parts some (λ k low. part-of options kind file bytes count k (are_clean k) (texts k) (h k low))

-- ---- a range

pub range_found : (options : Options) (format : Format) (file : Option (List ℕ)) (bytes : List ℕ) (from to : ℕ) (is_clean : Bool) (text : List ℕ) → has_parts format ≡ true
    → from ≤ length bytes → AreRangeLinesAt options format file from to (from - 3) (drop (from - 3) bytes) is_clean text → AreRangeLines options format file from to bytes is_clean text
range_found options Plain file bytes from to is_clean text parts within h =
    subst (λ (ms : List Placed). AreLines options Plain file None ms is_clean text) (range-found bytes from to within) h
range_found options Quoted file bytes from to is_clean text parts within h =
    subst (λ (ms : List Placed). AreLines options Quoted file None ms is_clean text) (range-found bytes from to within) h
range_found options Counted file bytes from to is_clean text parts within h = absurd (false≢true parts)
