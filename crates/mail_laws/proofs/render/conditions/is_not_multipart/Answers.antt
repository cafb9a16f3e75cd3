use Rattle.std.proofs.Common.{rules, ◌≡◌, ℕ, true, not, List, Bor, Ok, ap, sym, ◌∙◌}
use Rattle.std.specs.Prelude.{codes, option_map, string_bytes}
use Rattle.std.specs.Option.{option_map_or}
use Rattle.std.proofs.lemmas.Str.{IsUtf8-from_is_utf8}
use Rattle.mailparse.specs.ContentType.{content_type_in}
use Rattle.mail_codec.specs.Places.{has_prefix}
use Rattle.mail_laws.specs.Render.{mimetype_of, type_header}
use Rattle.mail_laws.specs.RenderViews.{headers_seen}
use Rattle.mail_laws.proofs.lemmas.RenderConditions.{by_value, mimetype_read, text_found}
use Rattle.mail_laws.proofs.render.conditions.is_not_multipart.Goals as goal

pub returns-in_default-from_utf8 : goal.returns-in_default-from_utf8
returns-in_default-from_utf8 c =
    let found = sym c.type_value.ensures ∙ ap (option_map (λ (v : Bor (List ℕ)). v.now)) c.in-Some.is in
    absurd (c.in_default-from_utf8.ensures.cases.0 (IsUtf8-from_is_utf8 _ (text_found (headers_seen c.args.headers.now) c.in-Some.value.now c.requires.texts found)))

pub returns : goal.returns
unfolding content_type_in
returns c =
    let test = λ (v : List ℕ). not (has_prefix (codes "multipart") (mimetype_of v)) in
    let found = sym c.type_value.ensures ∙ ap (option_map (λ (v : Bor (List ℕ)). v.now)) c.in-Some.is in
    let text = c.in-Ok.ensures.cases.0 in
    let mimetype = mimetype_read _ _ c.in_ok-ctype.ensures in
    let starts : has_prefix (codes "multipart") (string_bytes c.in_ok-ctype.ctype.mimetype) ≡ c.starts_with.result = search rules in
    ap (λ b. Ok b)
    (by_value test true (type_header (headers_seen c.args.headers.now)) ∙ ap (λ o. option_map_or test o true) found ∙ ap test (sym text)
    ∙ ap (λ m. not (has_prefix (codes "multipart") m)) mimetype ∙ ap not starts)
