use Rattle.std.proofs.Common.{◌++◌, ◌∷◌, [], ℕ, List, None, Option, ap, map, sym, ◌∙◌}
use Rattle.mailparse.specs.Outcome.{refusal_of}
use Rattle.mailparse.specs.Refusal.{Refusal}
use Rattle.std.specs.Prelude.{string_bytes}
use Rattle.mail_json.specs.InsideViews.{inside_view}
use Rattle.mail_json.specs.Options.{options_of}
use Rattle.mail_parts.specs.Reading.{mail_reading}
use Rattle.mail_parts.proofs.lemmas.Reading.{refused_or_memory}
use Rattle.mail_json.proofs.lemmas.Inside.{listed_with}
use Rattle.mail_json.proofs.inside.read_listed.Goals as goal

pub returns-in-Ok-push_inside : goal.returns-in-Ok-push_inside
returns-in-Ok-push_inside g c = λ is holds.
    let options = options_of (g.K.KnownCharsets.known c.args.shared.now.known.now) c.args.shared.now.options in
    let bytes = c.mail_in.ensures options.decodes_bodies is holds in
    let listed = c.in-Ok-push_inside.ensures ∙ ap (λ (p : List ℕ). map inside_view c.args.mails.now.items ++ listed_with p c.args.start None ∷ []) c.as_str-path.ensures.value in
    (ap (λ (b : List ℕ). mail_reading options.known options.limit b) (sym bytes) ∙ c.in-Ok.ensures.read, c.in-Ok.ensures.places, listed)

pub returns-in-Ok-push_refused : goal.returns-in-Ok-push_refused
returns-in-Ok-push_refused g c = λ is holds.
    let options = options_of (g.K.KnownCharsets.known c.args.shared.now.known.now) c.args.shared.now.options in
    let bytes = c.mail_in.ensures options.decodes_bodies is holds in
    let error = c.in-Err.error in
    let made = c.in-Ok-push_refused.ensures in
    let refusal = refused_or_memory error (mail_reading options.known options.limit c.mail_in.result.now) made.passed_on c.in-Err.ensures.read in
    let listed =
    made.listed ∙ ap (λ (p : List ℕ). map inside_view c.args.mails.now.items ++ listed_with p c.args.start (refusal_of error) ∷ []) c.as_str-path.ensures.value
    ∙ ap (λ (r : Option Refusal). map inside_view c.args.mails.now.items ++ listed_with (string_bytes c.args.part.now.place.now.path) c.args.start r ∷ []) refusal.1 in
    (refusal.0, ap (λ (b : List ℕ). mail_reading options.known options.limit b) (sym bytes) ∙ refusal.2, listed)
