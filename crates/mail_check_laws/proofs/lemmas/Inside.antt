-- A mail and the mails inside it have no findings but notes exactly if they are strict.
use Rattle.std.proofs.Common.{◌≡◌, ◌∙◌, ℕ, zero, suc, Bool, true, false, List, [], ◌∷◌, map, Option, Some, None, Ok, Err, cond, refl, ap}
use Rattle.std.specs.Prelude.{◌↔◌, flat_map, nat_lt}
use Rattle.mail_codec.specs.Charset.{Charsets}
use Rattle.mailparse.specs.Limit.{items_met, limited, read_mail_within}
use Rattle.mailparse.specs.Mail.{Tree, read_mail_as, read_mail_in, strict}
use Rattle.mailparse.specs.Placement.{placements}
use Rattle.mailparse.specs.Refusal.{Reads, too_many_items}
use Rattle.mail_read.specs.InnerMails.{path_within, places_under}
use Rattle.mail_read.specs.PartPlaces.{Place, places}
use Rattle.mail_check.specs.Findings.{findings, findings_from}
use Rattle.mail_check.specs.Inside.{all_findings, forwarded_findings, inner_mail, inside_findings, mail_in, moved, places_in, read_findings}
use Rattle.mail_check_laws.specs.Inside.{IsStrictForwarded, IsStrictInner, IsStrictInside, IsStrictReading, IsStrictWithin}
use Rattle.mail_check_laws.specs.Named.{Lacks, is_core}
use Rattle.mail_check_laws.proofs.lemmas.Levels.{few_near, near_few}
use Rattle.mail_check_laws.proofs.lemmas.Mails.{mail_strict}
use Rattle.mail_check_laws.proofs.lemmas.Messages.{messages_strict}
use Rattle.mail_check_laws.proofs.lemmas.Lists.{all_map, each_lacks, lacks_both, lacks_each, lacks_left, lacks_right}
use Rattle.mail_check_laws.proofs.lemmas.Reading.{AreThere, placed-there}
use Rattle.mail_check.specs.declared.names.Name.TheVariants as name

-- ---- readings with a limit

limited_ok : (most met : ℕ) (reading : Reads Tree) (t : Tree) → limited (Some most) met reading ≡ Ok t → reading ≡ Ok t
limited_ok most met reading t e = by_limit (nat_lt most met) e
  where
    by_limit : (over : Bool) → cond over (Err too_many_items) reading ≡ Ok t → reading ≡ Ok t
    by_limit true e = absurd (cc)
    by_limit false e = e

within_read : (known : Charsets) (greatest most : ℕ) (bytes : List ℕ) (t : Tree)
    → read_mail_within (strict known) greatest most bytes ≡ Ok t → read_mail_in known greatest bytes ≡ Ok t
unfolding read_mail_within read_mail_in
within_read known greatest most bytes t e =
    limited_ok most (items_met (strict known) (suc greatest) false bytes) (read_mail_as (strict known) greatest bytes) t e

-- ---- the places of a mail inside

moved_parts : (outer : Place) (found : List Place)
    → map (λ (p : Place). p.part) (map (moved outer) found) ≡ map (λ (p : Place). p.part) found
moved_parts outer [] = refl
moved_parts outer (p ∷ found) = ap (λ (ts : List Tree). p.part ∷ ts) (moved_parts outer found)

under_there : (known : Charsets) (bytes : List ℕ) (t : Tree) → read_mail_in known 100 bytes ≡ Ok t → (path : List ℕ)
    → AreThere bytes t (places_under path t (placements 0 t))
unfolding places_under
under_there known bytes t e path = placed-there known 100 bytes t e (path_within path t)

inner_there : (known : Charsets) (place : Place) (bytes : List ℕ) (t : Tree) → inner_mail known bytes ≡ Ok t
    → AreThere bytes t (places_in place t)
inner_there known place bytes t e =
    let under = under_there known bytes t (within_read known 100 1000000 bytes t e) place.path in
    record {
      parts = moved_parts place (places_under place.path t (placements 0 t)) ∙ under.parts;
      whole = under.whole;
      each = under.each;
    }

-- ---- mails inside

module _ (known : Charsets) where
  inner_strict : (place : Place) (raw : List ℕ) (mail : Tree) → inner_mail known raw ≡ Ok mail
      → Lacks is_core (findings_from known 0 (places_in place mail)) ↔ IsStrictInner known raw mail (places_in place mail)
  inner_strict place raw mail e =
      let both = messages_strict known raw mail (places_in place mail) (inner_there known place raw mail e) in (
        λ h.
            let strict = both.0 h in
            let near = near_few (places_in place mail) strict.1 in
            record { messages = strict.0; near = near.0; few = near.1 },
        λ h. both.1 (h.messages, few_near (places_in place mail) h.near h.few),
      )

  inside_clean : (most : ℕ) (place : Place) → Lacks is_core (inside_findings known most place) → IsStrictInside known most place
  inside_clean zero place h = tt
  inside_clean (suc most) place h = by_mail (mail_in place) (inside_clean most) h
    where
      by_reading : (raw : List ℕ) (reading : Reads Tree) → inner_mail known raw ≡ reading
          → ((p : Place) → Lacks is_core (inside_findings known most p) → IsStrictInside known most p)
          → Lacks is_core (read_findings known (inside_findings known most) place raw reading)
          → IsStrictReading known (IsStrictInside known most) place raw reading
      by_reading raw (Err refusal) e ih h = let no : is_core name.Refused ≡ false = h.0 in absurd (cc)
      by_reading raw (Ok mail) e ih h =
          let found = places_in place mail in
          let own = findings_from known 0 found in
          let inner = flat_map (inside_findings known most) found in (
            (inner_strict place raw mail e).0 (lacks_left is_core own inner h),
            all_map (λ (p : Place). Lacks is_core (inside_findings known most p)) (IsStrictInside known most) ih found
                (lacks_each is_core (inside_findings known most) found (lacks_right is_core own inner h)),
          )

      by_mail : (raw : Option (List ℕ))
          → ((p : Place) → Lacks is_core (inside_findings known most p) → IsStrictInside known most p)
          → Lacks is_core (forwarded_findings known (inside_findings known most) place raw)
          → IsStrictForwarded known (IsStrictInside known most) place raw
      by_mail None ih h = tt
      by_mail (Some raw) ih h = by_reading raw (inner_mail known raw) refl ih h

  clean_inside : (most : ℕ) (place : Place) → IsStrictInside known most place → Lacks is_core (inside_findings known most place)
  clean_inside zero place h = tt
  clean_inside (suc most) place h = by_mail (mail_in place) (clean_inside most) h
    where
      by_reading : (raw : List ℕ) (reading : Reads Tree) → inner_mail known raw ≡ reading
          → ((p : Place) → IsStrictInside known most p → Lacks is_core (inside_findings known most p))
          → IsStrictReading known (IsStrictInside known most) place raw reading
          → Lacks is_core (read_findings known (inside_findings known most) place raw reading)
      by_reading raw (Err refusal) e ih h = absurd h
      by_reading raw (Ok mail) e ih h =
          let found = places_in place mail in
          lacks_both is_core (findings_from known 0 found) (flat_map (inside_findings known most) found)
          ((inner_strict place raw mail e).1 h.0)
          (each_lacks is_core (inside_findings known most) found
          (all_map (IsStrictInside known most) (λ (p : Place). Lacks is_core (inside_findings known most p)) ih found h.1))

      by_mail : (raw : Option (List ℕ))
          → ((p : Place) → IsStrictInside known most p → Lacks is_core (inside_findings known most p))
          → IsStrictForwarded known (IsStrictInside known most) place raw
          → Lacks is_core (forwarded_findings known (inside_findings known most) place raw)
      by_mail None ih h = tt
      by_mail (Some raw) ih h = by_reading raw (inner_mail known raw) refl ih h

-- ---- a mail, and the mails inside it

module _ (known : Charsets) (greatest : ℕ) (bytes : List ℕ) (t : Tree) (read : read_mail_in known greatest bytes ≡ Ok t) where
  abbrev found : List Place
  found = places t (placements 0 t)

  pub within_strict : Lacks is_core (all_findings known t (placements 0 t)) ↔ IsStrictWithin known bytes t
  unfolding all_findings
  within_strict =
      let own = findings known t (placements 0 t) in
      let inner = flat_map (inside_findings known 100) found in
      let both = mail_strict known greatest bytes t read in (
        λ h. record {
          own = both.0 (lacks_left is_core own inner h);
          inside = all_map (λ (p : Place). Lacks is_core (inside_findings known 100 p)) (IsStrictInside known 100)
              (inside_clean known 100) found
              (lacks_each is_core (inside_findings known 100) found (lacks_right is_core own inner h));
        },
        λ h. lacks_both is_core own inner (both.1 h.own)
            (each_lacks is_core (inside_findings known 100) found
            (all_map (IsStrictInside known 100) (λ (p : Place). Lacks is_core (inside_findings known 100 p))
            (clean_inside known 100) found h.inside)),
      )
