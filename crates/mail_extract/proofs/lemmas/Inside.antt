-- Lemmas on the files of a mail inside a mail, which is read in its place.
use Rattle.std.proofs.Common.{◌≡◌, ℕ, Bool, List, [], ◌∷◌, Option, None, Some, Result, Ok, Err, refl, sym, ap, subst, ◌∙◌}
use Rattle.std.proofs.lemmas.List.{append-nil}
use Rattle.std.proofs.lemmas.List.Concat.{flat_map-cons}
use Rattle.std.specs.Prelude.{flat_map}
use Rattle.mail_codec.specs.Charset.{Charsets}
use Rattle.mailparse.specs.Mail.{Tree}
use Rattle.mail_read.specs.InnerMails.{Forwarded, InnerMail, forwarded, places_under}
use Rattle.mail_read.specs.PartPlaces.{Place, places}
use Rattle.mail_read.specs.Reading.{mail_placements}
use Rattle.mail_read.proofs.lemmas.InnerMails.{forwarded_with, inner_with}
use Rattle.mail_parts.proofs.lemmas.Reading.{forwarded_read}
use Rattle.mailparse.specs.Refusal.{Refusal}
use Rattle.mail_parts.specs.Inside.{mails_among, mails_inside}
use Rattle.mail_parts.proofs.lemmas.Inside.{among_whole, read_is}
use Rattle.mail_parts.specs.Reading.{mail_reading, mails_in_place}
use Rattle.mail_program.specs.Outcome.{worse}
use Rattle.mail_program.specs.Refusal.{refusal_text}
use Rattle.mail_program.specs.declared.fault.Fault.{Fault}
use Rattle.mail_program.specs.declared.outcome.Outcome.{Outcome}
use Rattle.mail_program.specs.declared.outcome.Outcome.TheVariants.{Clean}
use Rattle.mail_extract.specs.Directory.{File}
use Rattle.mail_extract.specs.Input.{AreFiles, AreInside, Ends, IsInside, IsMailOf, Only, Saved, Saves, Then, refused_line}
use Rattle.mail_extract.specs.Naming.{Options}
use Rattle.mail_extract.specs.Report.{WritesAll}
use Rattle.mail_extract.specs.Save.{Wanted, chosen, wanted_among, wanted_inside}
use Rattle.mail_extract.specs.declared.level.Level.TheVariants.{Inside, Own}
use Rattle.mail_extract.proofs.lemmas.Input.{refused_safe}
use Rattle.mail_extract.proofs.lemmas.Save.{inside_read, inside_refused}
use Rattle.mail_extract.proofs.lemmas.Saves.{Implies, each_first, saved_as, saved_lines, saved_none, saved_then}

-- For an input with this name, a directory that may fail or not, options, the known charsets, and the number of the whole mail.
module _ (file : Option (List ℕ)) (can_fail : List File → Bool) (options : Options) (known : Charsets) (number : Option ℕ) where
  -- the chosen files of a mail inside a mail
  abbrev pub Files : List Place → Saves
  Files parts = AreFiles file can_fail options number (chosen options.choice (wanted_among known options.limit Inside parts))

  -- no mails
  pub inside_none : (held : Option (List File)) (old : Option (List ℕ)) (from : ℕ) (mails : List InnerMail) → mails ≡ []
      → Saved held held old old from from Clean (AreInside file can_fail options known number mails)
  inside_none held old from mails e =
      subst (λ (ms : List InnerMail). Saved held held old old from from Clean (AreInside file can_fail options known number ms)) (sym e) (saved_none held old from)

  -- the same mails
  pub inside_same : (held_old held_new : Option (List File)) (old new : Option (List ℕ)) (from next : ℕ) (outcome : Outcome) (mails same : List InnerMail) → mails ≡ same
      → Saved held_old held_new old new from next outcome (AreInside file can_fail options known number same)
      → Saved held_old held_new old new from next outcome (AreInside file can_fail options known number mails)
  inside_same held_old held_new old new from next outcome mails same e h =
      subst (λ (ms : List InnerMail). Saved held_old held_new old new from next outcome (AreInside file can_fail options known number ms)) (sym e) h

  -- the mails in the first part, and those in the others
  pub inside_next : {A : Type 0} (step : A → List InnerMail) (x : A) (left rest : List A) → left ≡ x ∷ rest
      → Implies (Then (AreInside file can_fail options known number (step x)) (AreInside file can_fail options known number (flat_map step rest)))
      (AreInside file can_fail options known number (flat_map step left))
  inside_next step x left rest e =
      each_first (IsInside file can_fail options known number) (flat_map step left) (step x) (flat_map step rest) (ap (flat_map step) e ∙ flat_map-cons step x rest)

  -- none are left
  pub inside_end : {A : Type 0} (step : A → List InnerMail) (left : List A) → left ≡ [] → Implies (Only []) (AreInside file can_fail options known number (flat_map step left))
  inside_end {A = A} step left e = λ files from lines next now h. subst (λ (xs : List A). AreInside file can_fail options known number (flat_map step xs) files from lines next now) (sym e) h

  module _ (most : ℕ) (start at : Option ℕ) (place : Place) (bytes : List ℕ) (is : ◌≡◌ {A = Option Forwarded} (Some (forwarded_with bytes at)) (forwarded start place)) where
    -- a mail that is read: its files, and then those of the mails inside it
    read-first : (mail : Tree) (parts : List Place) → mail_reading known options.limit bytes ≡ Ok mail → parts ≡ places_under place.path mail (mail_placements mail)
        → Implies (Then (Files parts) (AreInside file can_fail options known number (mails_among known options.limit most at parts))) (AreInside file can_fail options known number (mails_in_place known options.limit most start place))
    read-first mail parts read same = λ files from lines next now h.
        let inner = inner_with place.path bytes at None in
        let under = places_under place.path mail (mail_placements mail) in
        let own = ap (λ (ps : List Place). chosen options.choice (wanted_among known options.limit Inside ps)) same ∙ ap (chosen options.choice) (sym (inside_read known options.limit inner mail read)) in
        let first = subst (λ (ws : List Wanted). AreFiles file can_fail options number ws files from h.2 h.1 h.0) own h.4 in
        let others = subst (λ (ps : List Place). AreInside file can_fail options known number (mails_among known options.limit most at ps) h.0 h.1 h.3 next now) same h.5 in
        subst (λ (ms : List InnerMail). AreInside file can_fail options known number ms files from lines next now) (sym (read_is known options.limit most start at place bytes mail is read))
        (h.0, h.1, h.2, h.3, (h.0, h.1, h.2, [], first, (refl, refl, refl), sym (append-nil h.2)), others, h.6)

    pub inside_saved : (held_old held_mid held_new : Option (List File)) (old mid new : Option (List ℕ)) (from middle next : ℕ) (a b both : Outcome) (mail : Tree) (parts again : List Place)
        → mail_reading known options.limit bytes ≡ Ok mail → parts ≡ places_under place.path mail (mail_placements mail) → again ≡ parts → both ≡ worse a b
        → Saved held_old held_mid old mid from middle a (Files parts) → Saved held_mid held_new mid new middle next b (AreInside file can_fail options known number (mails_among known options.limit most at again))
        → Saved held_old held_new old new from next both (AreInside file can_fail options known number (mails_in_place known options.limit most start place))
    inside_saved held_old held_mid held_new old mid new from middle next a b both mail parts again read same e is_both own others =
        saved_as held_old held_new old new from next both (Then (Files parts) (AreInside file can_fail options known number (mails_among known options.limit most at parts)))
        (AreInside file can_fail options known number (mails_in_place known options.limit most start place)) (read-first mail parts read same)
        (saved_then held_old held_mid held_new old mid new from middle next a b both (Files parts) (AreInside file can_fail options known number (mails_among known options.limit most at parts)) is_both own
        (subst (λ (ps : List Place). Saved held_mid held_new mid new middle next b (AreInside file can_fail options known number (mails_among known options.limit most at ps))) e others))

    -- a mail that is refused: its line
    pub inside_line : (held : Option (List File)) (old new : Option (List ℕ)) (from : ℕ) (r : Result Outcome Fault) (refusal : Refusal) (text path : List ℕ)
        → mail_reading known options.limit bytes ≡ Err refusal → text ≡ refusal_text refusal → path ≡ place.path → WritesAll old new r (refused_line file number (Some path) text ∷ [])
        → Ends held held old new from from r (AreInside file can_fail options known number (mails_in_place known options.limit most start place))
    inside_line held old new from (Ok outcome) refusal text path read is_text is_path h =
        let inner = inner_with place.path bytes at (Some refusal) in
        let line = refused_line file number (Some path) text in
        let same : line ∷ [] ≡ refused_line file number (Some place.path) (refusal_text refusal) ∷ [] =
        ap (λ (p : List ℕ). refused_line file number (Some p) text ∷ []) is_path ∙ ap (λ (t : List ℕ). refused_line file number (Some place.path) t ∷ []) is_text in
        let none : [] ≡ chosen options.choice (wanted_inside known options.limit inner) = ap (chosen options.choice) (sym (inside_refused known options.limit inner refusal read)) in
        saved_as held held old new from from outcome (Only (line ∷ [])) (AreInside file can_fail options known number (mails_in_place known options.limit most start place))
        (λ files first lines next now k.
        let nothing = subst (λ (ws : List Wanted). AreFiles file can_fail options number ws files first [] first files) none (refl, refl, refl) in
        subst (λ (ms : List InnerMail). AreInside file can_fail options known number ms files first lines next now) (sym (forwarded_read known options.limit most start at place bytes (Err refusal) is read))
        (files, first, lines, [], (files, first, [], lines, nothing, (k.0 ∙ same, refl, refl), refl), (refl, k.1, k.2), sym (append-nil lines)))
        (saved_lines held old new from outcome (line ∷ []) (refused_safe file number (Some path) text) h)
    inside_line held old new from (Err fault) refusal text path read is_text is_path h = h

  -- a whole mail: its files, and then those of the mails inside it
  pub mail_saved : (held_old held_mid held_new : Option (List File)) (old mid new : Option (List ℕ)) (from middle next : ℕ) (a b both : Outcome) (mail : Tree) (parts again : List Place)
      → parts ≡ places mail (mail_placements mail) → again ≡ parts → both ≡ worse a b
      → Saved held_old held_mid old mid from middle a (AreFiles file can_fail options number (chosen options.choice (wanted_among known options.limit Own parts)))
      → Saved held_mid held_new mid new middle next b (AreInside file can_fail options known number (mails_among known options.limit 100 (Some 0) again))
      → Saved held_old held_new old new from next both (IsMailOf file can_fail options known number (Ok mail))
  mail_saved held_old held_mid held_new old mid new from middle next a b both mail parts again same e is_both own others =
      let inside : mails_among known options.limit 100 (Some 0) again ≡ mails_inside known options.limit mail = ap (mails_among known options.limit 100 (Some 0)) (e ∙ same) ∙ among_whole known options.limit mail in
      saved_then held_old held_mid held_new old mid new from middle next a b both (AreFiles file can_fail options number (chosen options.choice (wanted_among known options.limit Own (places mail (mail_placements mail)))))
      (AreInside file can_fail options known number (mails_inside known options.limit mail)) is_both
      (subst (λ (ps : List Place). Saved held_old held_mid old mid from middle a (AreFiles file can_fail options number (chosen options.choice (wanted_among known options.limit Own ps)))) same own)
      (subst (λ (ms : List InnerMail). Saved held_mid held_new mid new middle next b (AreInside file can_fail options known number ms)) inside others)
