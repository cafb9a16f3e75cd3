-- Lemmas on the reports in parts, and on the trees of parts.
use Rattle.std.proofs.Common.{◌≡◌, ℕ, Bool, true, false, List, [], ◌∷◌, ◌++◌, map, Option, Some, None, Result, Ok, Err, refl, sym, ap, ◌∙◌}
use Rattle.std.proofs.lemmas.Bool.{cond-true, cond-false}
use Rattle.std.proofs.lemmas.List.{append-nil}
use Rattle.std.specs.Prelude.{OnOk, flat_map}
use Rattle.mail_codec.specs.Charset.{Charsets}
use Rattle.mailparse.specs.Mail.{Node, Tree, root, trees_within}
use Rattle.mail_data.specs.Bounce.{Delivery, deliveries, delivery_or_none, failed_recipients, recipients, reported}
use Rattle.mail_read.specs.PartPlaces.{Place}
use Rattle.mail_read.specs.PlaceViews.{place_view}
use Rattle.mail_read.specs.declared.places.Place as code
use Rattle.mailparse.specs.Views.{tree_of}
use Rattle.mail_data.specs.Reports.{block_fields, blocks, has_report, has_status, report_blocks}
use Rattle.mail_read.specs.lenient.Content.{Content, message_content}
use Rattle.mail_parts.specs.Part.{content_if}
use Rattle.mail_json.specs.Part.{report_if}
use Rattle.mail_parts.specs.DecodedViews.{decoded_place, decoded_tree}
use Rattle.mail_parts.specs.declared.decoded.Decoded.{Decoded}
use Rattle.mail_parts.proofs.lemmas.Decoded.{some-same}

-- ---- reports

pub report_hidden : (known : Charsets) (decodes : Bool) (node : Node) → ◌≡◌ {A = Option Content} None (content_if decodes node) → None ≡ report_if known decodes node
report_hidden known true node e = absurd (cc)
report_hidden known false node e = refl

pub report_other : (known : Charsets) (decodes : Bool) (node : Node) → has_report node ≡ false → None ≡ report_if known decodes node
unfolding report_blocks
report_other known true node e = sym (cond-false (has_report node) _ _ e)
report_other known false node e = refl

pub report_read : (known : Charsets) (decodes : Bool) (node : Node) (content : Content) (found : List (List (List ℕ × List ℕ))) → has_report node ≡ true
    → ◌≡◌ {A = Option Content} (Some content) (content_if decodes node) → found ≡ map (λ block. block_fields known block) (blocks content.bytes)
    → Some found ≡ report_if known decodes node
unfolding report_blocks
report_read known true node content found has e is =
    ap (λ (bs : List (List (List ℕ × List ℕ))). Some bs) (is ∙ ap (λ (c : Content). map (λ block. block_fields known block) (blocks c.bytes)) (some-same _ _ e))
    ∙ sym (cond-true (has_report node) _ _ has)
report_read known false node content found has e is = absurd (cc)

-- the recipients in the status of deliveries, and in another part
pub deliveries_in : (known : Charsets) (node : Node) (content : Content) → has_status node ≡ true → content ≡ message_content node
    → flat_map (delivery_or_none known) (blocks content.bytes) ≡ deliveries known node
unfolding deliveries
deliveries_in known node content has e =
    ap (λ (c : Content). flat_map (delivery_or_none known) (blocks c.bytes)) e ∙ sym (cond-true (has_status node) _ _ has)

pub deliveries_none : (known : Charsets) (node : Node) → has_status node ≡ false → [] ≡ deliveries known node
unfolding deliveries
deliveries_none known node e = sym (cond-false (has_status node) _ _ e)

-- the same of a result, where the bytes have another name
pub added_in : {T E : Type 0} (known : Charsets) (node : Node) (content : Content) (bytes : List ℕ) (old new : List Delivery) (r : Result T E) → has_status node ≡ true
    → ◌≡◌ {A = Option Content} (Some content) (content_if true node) → bytes ≡ content.bytes
    → OnOk r (new ≡ old ++ flat_map (delivery_or_none known) (blocks bytes)) → OnOk r (new ≡ old ++ deliveries known node)
added_in known node content bytes old new (Ok done) has e same h =
    h ∙ ap (λ (b : List ℕ). old ++ flat_map (delivery_or_none known) (blocks b)) same
    ∙ ap (λ (ds : List Delivery). old ++ ds) (deliveries_in known node content has (some-same _ _ e))
added_in known node content bytes old new (Err fault) has e same h = tt

pub blocks_as : (known : Charsets) (a b : List ℕ) → a ≡ b → map (λ block. block_fields known block) (blocks a) ≡ map (λ block. block_fields known block) (blocks b)
blocks_as known a b e = ap (λ (bytes : List ℕ). map (λ block. block_fields known block) (blocks bytes)) e

-- the recipients in parts are those in their trees
pub reported_in : (known : Charsets) (parts : List Decoded) → flat_map (λ (part : Decoded). deliveries known (root (decoded_tree part))) parts ≡ reported known (map decoded_tree parts)
reported_in known [] = refl
reported_in known (part ∷ parts) = ap (λ (ds : List Delivery). deliveries known (root (decoded_tree part)) ++ ds) (reported_in known parts)

-- the recipients that all parts and the headers of a mail report
pub recipients_read : (known : Charsets) (t : Tree) (parts left : List Decoded) (found new : List Delivery) → left ≡ []
    → found ++ flat_map (λ (part : Decoded). deliveries known (root (decoded_tree part))) left ≡ flat_map (λ (part : Decoded). deliveries known (root (decoded_tree part))) parts
    → map decoded_tree parts ≡ trees_within t → new ≡ found ++ failed_recipients known (root t) → recipients known t ≡ new
unfolding recipients
recipients_read known t parts left found new none here whole is =
    sym (is ∙ ap (λ (ds : List Delivery). ds ++ failed_recipients known (root t))
    (sym (append-nil found) ∙ ap (λ (xs : List Decoded). found ++ flat_map (λ (part : Decoded). deliveries known (root (decoded_tree part))) xs) (sym none)
    ∙ here ∙ reported_in known parts ∙ ap (reported known) whole))

-- the trees of parts with these places
parts_trees : (parts : List Decoded) → map decoded_tree parts ≡ map (λ (place : Place). place.part) (map decoded_place parts)
parts_trees [] = refl
parts_trees (part ∷ parts) = ap (λ (ts : List Tree). decoded_tree part ∷ ts) (parts_trees parts)

views_trees : (found : List code.Place) → map (λ (place : Place). place.part) (map place_view found) ≡ map (λ (place : code.Place). tree_of place.part.now) found
views_trees [] = refl
views_trees (place ∷ found) = ap (λ (ts : List Tree). tree_of place.part.now ∷ ts) (views_trees found)

pub whole_trees : (parts : List Decoded) (slice found : List code.Place) → map decoded_place parts ≡ map place_view slice → slice ≡ found
    → map decoded_tree parts ≡ map (λ (place : code.Place). tree_of place.part.now) found
whole_trees parts slice found e same =
    parts_trees parts ∙ ap (map (λ (place : Place). place.part)) e ∙ views_trees slice
    ∙ ap (λ (places : List code.Place). map (λ (place : code.Place). tree_of place.part.now) places) same
