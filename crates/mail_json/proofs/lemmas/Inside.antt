-- Lemmas on the parts of mails inside.
use Rattle.std.proofs.Common.{◌≡◌, ℕ, ◌-◌, List, [], ◌∷◌, ◌++◌, map, Option, Some, None, Result, Ok, Err, refl, sym, ap, subst, ◌∙◌, append_assoc, append-nil}
use Rattle.std.proofs.KnownBytes.{Appends-trans}
use Rattle.std.proofs.lemmas.Grind.{flat_map-append}
use Rattle.std.specs.Prelude.{codes, flat_map, OnOk}
use Rattle.std.specs.Io.KnownBytes.{Appends}
use Rattle.json.specs.Json.{Json}
use Rattle.mailparse.specs.Mail.{Tree}
use Rattle.mailparse.specs.Refusal.{Reads, Refusal}
use Rattle.mail_codec.specs.Charset.{Charsets}
use Rattle.mail_read.specs.InnerMails.{Forwarded, InnerMail, forwarded, places_under}
use Rattle.mail_read.specs.PartPlaces.{Place, places}
use Rattle.mail_read.specs.Reading.{mail_placements}
use Rattle.mail_read.proofs.lemmas.InnerMails.{forwarded_with}
use Rattle.mail_parts.specs.Inside.{Listed, mails_among, mails_inside, parts_of_read, without_bytes}
use Rattle.mail_json.specs.Part.{place_in}
use Rattle.mail_json_text.specs.Printed.{after_commas, listed, text_of}
use Rattle.mail_parts.specs.Reading.{mail_reading, mails_in_place}
use Rattle.mail_json.specs.Values.{AreInsideValues, ArePartValues, AreReadValues, AreValues, IsPartValue}
use Rattle.mail_json_text.specs.Written.{WroteOne}
use Rattle.mail_json.specs.Options.{Options}
use Rattle.mail_json_text.proofs.lemmas.JsonText.{listed-comma}
use Rattle.mail_json.proofs.lemmas.Mail.{parts_first}
use Rattle.mail_json.proofs.lemmas.Part.{Completes}
use Rattle.mail_parts.proofs.lemmas.Inside.{among_whole, read_is}
use Rattle.mail_parts.proofs.lemmas.Reading.{forwarded_read, not_forwarded}
use Rattle.mail_json_text.proofs.lemmas.Written.{appends_as}

-- a mail that is read, and one that is refused
parts-read : (path : List ℕ) (given : Reads Tree) (mail : Tree) → given ≡ Ok mail → places_under path mail (mail_placements mail) ≡ parts_of_read path given
parts-read path given mail e = ap (λ (r : Reads Tree). parts_of_read path r) (sym e)

parts-refused : (path : List ℕ) (given : Reads Tree) (refusal : Refusal) → given ≡ Err refusal → [] ≡ parts_of_read path given
parts-refused path given refusal e = ap (λ (r : Reads Tree). parts_of_read path r) (sym e)

-- ---- the mail in a part

-- a mail without its bytes, given its fields
abbrev pub listed_with : List ℕ → Option ℕ → Option Refusal → Listed
listed_with path start refusal = record { path = path; start = start; refusal = refusal }

module _ (options : Options) (origin most : ℕ) (start : Option ℕ) (place : Place) where
  abbrev mails : List InnerMail
  mails = mails_in_place options.known options.limit most start place

  -- a part that forwards none
  pub none_inside : ◌≡◌ {A = Option Forwarded} None (forwarded start place) → AreInsideValues options origin mails []
  none_inside h = subst (λ (xs : List InnerMail). AreInsideValues options origin xs []) (sym (not_forwarded options.known options.limit most start place h)) refl

  pub none_listed : (old : List Listed) → ◌≡◌ {A = Option Forwarded} None (forwarded start place) → old ≡ old ++ map without_bytes mails
  none_listed old h =
      sym (append-nil old) ∙ ap (λ (xs : List InnerMail). old ++ map without_bytes xs) (sym (not_forwarded options.known options.limit most start place h))

  -- one whose mail is refused
  pub refused_inside : (at : Option ℕ) (bytes : List ℕ) (refusal : Refusal) → ◌≡◌ {A = Option Forwarded} (Some (forwarded_with bytes at)) (forwarded start place)
      → mail_reading options.known options.limit bytes ≡ Err refusal → AreInsideValues options origin mails []
  refused_inside at bytes refusal h e =
      let Is = IsPartValue options (Some place.path) (place_in at origin) in
      let none = subst (λ (xs : List Place). AreValues Is xs []) (parts-refused place.path _ refusal e) refl in
      subst (λ (xs : List InnerMail). AreInsideValues options origin xs []) (sym (forwarded_read options.known options.limit most start at place bytes (Err refusal) h e))
      ([], [], none, refl, refl)

  pub refused_listed : (at : Option ℕ) (bytes : List ℕ) (refusal : Refusal) (old new : List Listed)
      → ◌≡◌ {A = Option Forwarded} (Some (forwarded_with bytes at)) (forwarded start place)
      → mail_reading options.known options.limit bytes ≡ Err refusal → new ≡ old ++ listed_with place.path at (Some refusal) ∷ []
      → new ≡ old ++ map without_bytes mails
  refused_listed at bytes refusal old new h e is =
      is ∙ ap (λ (xs : List InnerMail). old ++ map without_bytes xs) (sym (forwarded_read options.known options.limit most start at place bytes (Err refusal) h e))

  -- one whose mail is read
  pub read_written : {T E : Type 0} (at : Option ℕ) (bytes : List ℕ) (mail : Tree) (path : List ℕ) (old new : Option (List ℕ)) (r : Result T E)
      → ◌≡◌ {A = Option Forwarded} (Some (forwarded_with bytes at)) (forwarded start place)
      → mail_reading options.known options.limit bytes ≡ Ok mail → path ≡ place.path
      → WroteOne old new r (after_commas text_of) (AreReadValues options origin most at path mail)
      → WroteOne old new r (after_commas text_of) (AreInsideValues options origin mails)
  read_written at bytes mail path old new (Ok done) h e same rest =
      let is = subst (λ (p : List ℕ). AreReadValues options origin most at p mail rest.0) same rest.1 in
      let Is = IsPartValue options (Some place.path) (place_in at origin) in
      let own = subst (λ (xs : List Place). AreValues Is xs is.0) (parts-read place.path _ mail e) is.2 in (
        rest.0,
        subst (λ (xs : List InnerMail). AreInsideValues options origin xs rest.0) (sym (read_is options.known options.limit most start at place bytes mail h e))
            (is.0, is.1, own, is.3, is.4),
        rest.2,
      )
  read_written at bytes mail path old new (Err fault) h e same rest = rest

  pub read_listed : {T E : Type 0} (at : Option ℕ) (bytes : List ℕ) (mail : Tree) (path : List ℕ) (old mid new : List Listed) (r : Result T E)
      → ◌≡◌ {A = Option Forwarded} (Some (forwarded_with bytes at)) (forwarded start place)
      → mail_reading options.known options.limit bytes ≡ Ok mail → path ≡ place.path
      → mid ≡ old ++ listed_with place.path at None ∷ []
      → OnOk r (new ≡ mid ++ map without_bytes (mails_among options.known options.limit most at (places_under path mail (mail_placements mail))))
      → OnOk r (new ≡ old ++ map without_bytes mails)
  read_listed at bytes mail path old mid new (Ok done) h e same one rest =
      let found = places_under path mail (mail_placements mail) in
      rest ∙ ap (λ (l : List Listed). l ++ map without_bytes (mails_among options.known options.limit most at found)) one
      ∙ append_assoc old (listed_with place.path at None ∷ []) (map without_bytes (mails_among options.known options.limit most at found))
      ∙ ap (λ (p : List ℕ). old ++ listed_with place.path at None ∷ map without_bytes (mails_among options.known options.limit most at (places_under p mail (mail_placements mail)))) same
      ∙ ap (λ (xs : List InnerMail). old ++ map without_bytes xs) (sym (read_is options.known options.limit most start at place bytes mail h e))
  read_listed at bytes mail path old mid new (Err fault) h e same one rest = tt

-- the same of a mail that is equal
pub written_along : {T E : Type 0} (options : Options) (origin most : ℕ) (at : Option ℕ) (path : List ℕ) (given mail : Tree)
    (old new : Option (List ℕ)) (r : Result T E) → given ≡ mail
    → WroteOne old new r (after_commas text_of) (AreReadValues options origin most at path given)
    → WroteOne old new r (after_commas text_of) (AreReadValues options origin most at path mail)
written_along options origin most at path given mail old new r same rest =
    subst (λ (m : Tree). WroteOne old new r (after_commas text_of) (AreReadValues options origin most at path m)) same rest

pub listed_along : {T E : Type 0} (known : Charsets) (limit most : ℕ) (at : Option ℕ) (path : List ℕ) (given mail : Tree)
    (mid new : List Listed) (r : Result T E) → given ≡ mail
    → OnOk r (new ≡ mid ++ map without_bytes (mails_among known limit most at (places_under path given (mail_placements given))))
    → OnOk r (new ≡ mid ++ map without_bytes (mails_among known limit most at (places_under path mail (mail_placements mail))))
listed_along known limit most at path given mail mid new r same rest =
    let all = λ (m : Tree). map without_bytes (mails_among known limit most at (places_under path m (mail_placements m))) in
    subst (λ (m : Tree). OnOk r (new ≡ mid ++ all m)) same rest

-- the objects of the parts of a mail, and then those of the mails inside it
pub under_written : {T E : Type 0} (options : Options) (origin most : ℕ) (at : Option ℕ) (path : List ℕ) (mail : Tree) (found again : List Place) (old mid new : Option (List ℕ)) (r : Result T E) (first : List Json)
    → found ≡ places_under path mail (mail_placements mail) → again ≡ places_under path mail (mail_placements mail)
    → AreValues (IsPartValue options (Some path) (place_in at origin)) found first → Appends old mid (listed text_of (codes ",") first)
    → WroteOne mid new r (after_commas text_of) (AreInsideValues options origin (mails_among options.known options.limit most at again))
    → WroteOne old new r (after_commas text_of) (AreReadValues options origin most at path mail)
under_written options origin most at path mail found again old mid new (Ok done) first same same_again is p rest =
    let own = subst (λ (xs : List Place). AreValues (IsPartValue options (Some path) (place_in at origin)) xs first) same is in
    let others = subst (λ (xs : List Place). AreInsideValues options origin (mails_among options.known options.limit most at xs) rest.0) same_again rest.1 in
    let text = ap (λ t. t ++ after_commas text_of rest.0) (listed-comma text_of first) ∙ sym (flat_map-append (λ (j : Json). codes "," ++ text_of j) first rest.0) in (
      first ++ rest.0,
      (first, rest.0, own, others, refl),
      appends_as old new _ _ text (Appends-trans old mid new _ _ p rest.2),
    )
under_written options origin most at path mail found again old mid new (Err fault) first same same_again is p rest = rest

pub under_listed : {T E : Type 0} (known : Charsets) (limit most : ℕ) (at : Option ℕ) (found all : List Place) (old new : List Listed) (r : Result T E) → found ≡ all
    → OnOk r (new ≡ old ++ map without_bytes (mails_among known limit most at found)) → OnOk r (new ≡ old ++ map without_bytes (mails_among known limit most at all))
under_listed known limit most at found all old new (Ok done) same h = h ∙ ap (λ (xs : List Place). old ++ map without_bytes (mails_among known limit most at xs)) same
under_listed known limit most at found all old new (Err fault) same h = tt

-- ---- the mails in parts

-- the objects of the parts of some mails, and then of others
insides_then : (options : Options) (origin : ℕ) (xs ys : List InnerMail) (vs ws : List Json) → AreInsideValues options origin xs vs
    → AreInsideValues options origin ys ws → AreInsideValues options origin (xs ++ ys) (vs ++ ws)
insides_then options origin [] ys vs ws is are = subst (λ (us : List Json). AreInsideValues options origin ys (us ++ ws)) (sym is) are
insides_then options origin (x ∷ xs) ys vs ws is are =
    (is.0, is.1 ++ ws, is.2, insides_then options origin xs ys is.1 ws is.3 are, ap (λ (us : List Json). us ++ ws) is.4 ∙ append_assoc is.0 is.1 ws)

map_then : (xs ys : List InnerMail) → map without_bytes (xs ++ ys) ≡ map without_bytes xs ++ map without_bytes ys
map_then [] ys = refl
map_then (x ∷ xs) ys = ap (λ (l : List Listed). without_bytes x ∷ l) (map_then xs ys)

-- one part more
pub insides_more : {A : Type 0} (step : A → List InnerMail) (options : Options) (origin : ℕ) (All : List Json → Type 0) (text_all : List Json → List ℕ) (x : A) (left rest : List A)
    (done : List ℕ) (values : List Json) → left ≡ x ∷ rest
    → Completes (AreInsideValues options origin (flat_map step left)) (after_commas text_of) All text_all done
    → AreInsideValues options origin (step x) values
    → Completes (AreInsideValues options origin (flat_map step rest)) (after_commas text_of) All text_all (done ++ after_commas text_of values)
insides_more {A = A} step options origin All text_all x left rest done values e here is = λ others h.
    let both = insides_then options origin (step x) (flat_map step rest) values others is h in
    let all = here (values ++ others) (subst (λ (xs : List A). AreInsideValues options origin (flat_map step xs) (values ++ others)) (sym e) both) in (
      all.0,
      all.1,
      append_assoc done (after_commas text_of values) (after_commas text_of others)
          ∙ ap (λ t. done ++ t) (sym (flat_map-append (λ (j : Json). codes "," ++ text_of j) values others)) ∙ all.2,
    )

pub insides_end : {A : Type 0} (step : A → List InnerMail) (options : Options) (origin : ℕ) (All : List Json → Type 0) (text_all : List Json → List ℕ) (left : List A) (done : List ℕ)
    → left ≡ [] → Completes (AreInsideValues options origin (flat_map step left)) (after_commas text_of) All text_all done
    → (all : List Json) × All all × (done ≡ text_all all)
insides_end {A = A} step options origin All text_all left done e here =
    let all = here [] (subst (λ (xs : List A). AreInsideValues options origin (flat_map step xs) []) (sym e) refl) in
    (all.0, all.1, sym (append-nil done) ∙ all.2)

pub listed_more : {A : Type 0} (step : A → List InnerMail) (x : A) (left rest : List A) (now new all : List Listed) → left ≡ x ∷ rest
    → now ++ map without_bytes (flat_map step left) ≡ all → new ≡ now ++ map without_bytes (step x)
    → new ++ map without_bytes (flat_map step rest) ≡ all
listed_more {A = A} step x left rest now new all e here is =
    ap (λ (l : List Listed). l ++ map without_bytes (flat_map step rest)) is
    ∙ append_assoc now (map without_bytes (step x)) (map without_bytes (flat_map step rest))
    ∙ ap (λ (l : List Listed). now ++ l) (sym (map_then (step x) (flat_map step rest)))
    ∙ ap (λ (xs : List A). now ++ map without_bytes (flat_map step xs)) (sym e) ∙ here

-- ---- the whole mail

pub parts_written : (options : Options) (origin : ℕ) (mail : Tree) (found again : List Place) (old mid new : Option (List ℕ)) (parts : List Json)
    → found ≡ places mail (mail_placements mail) → again ≡ places mail (mail_placements mail) → AreValues (IsPartValue options None (Some origin)) found parts → Appends old mid (listed text_of [] parts)
    → (others : List Json) × AreInsideValues options origin (mails_among options.known options.limit 100 (Some 0) again) others × Appends mid new (after_commas text_of others)
    → (all : List Json) × ArePartValues options origin mail all × Appends old new (listed text_of [] all)
parts_written options origin mail found again old mid new parts same same_again is p rest =
    let own = subst (λ (xs : List Place). AreValues (IsPartValue options None (Some origin)) xs parts) same is in
    let mails = ap (λ (xs : List Place). mails_among options.known options.limit 100 (Some 0) xs) same_again ∙ among_whole options.known options.limit mail in
    let others = subst (λ (xs : List InnerMail). AreInsideValues options origin xs rest.0) mails rest.1 in (
      parts ++ rest.0,
      (parts, rest.0, own, others, refl),
      appends_as old new _ _ (parts_first options None (Some origin) mail parts rest.0 own) (Appends-trans old mid new _ _ p rest.2),
    )

pub whole_listed : (known : Charsets) (limit : ℕ) (mail : Tree) (found : List Place) (old new : List Listed) → old ≡ [] → found ≡ places mail (mail_placements mail)
    → new ≡ old ++ map without_bytes (mails_among known limit 100 (Some 0) found) → new ≡ map without_bytes (mails_inside known limit mail)
whole_listed known limit mail found old new none same h =
    h ∙ ap (λ (l : List Listed). l ++ map without_bytes (mails_among known limit 100 (Some 0) found)) none
    ∙ ap (λ (xs : List Place). map without_bytes (mails_among known limit 100 (Some 0) xs)) same
    ∙ ap (λ (xs : List InnerMail). map without_bytes xs) (among_whole known limit mail)
