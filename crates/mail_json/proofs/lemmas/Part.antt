-- Lemmas on the objects of parts, and on the parameters of a type.
use Rattle.std.proofs.Common.{◌≡◌, ℕ, Bool, true, false, List, [], ◌∷◌, ◌++◌, Option, Some, None, Result, refl, sym, ap, subst, ◌∙◌, append_assoc}
use Rattle.std.proofs.lemmas.List.{append-nil}
use Rattle.std.specs.Prelude.{◌&&◌, ◌||◌, codes, not}
use Rattle.std.specs.Str.{bytes_eq}
use Rattle.mailparse.specs.Mail.{Node, Tree, root}
use Rattle.mailparse.specs.Views.{content_type, tree_of, tree_step}
use Rattle.mailparse.specs.declared.mail.message.ParsedMail.{ParsedMail}
use Rattle.mailparse.specs.declared.mail.message.ParsedMail.TheFolds.{fold_out-ParsedMail}
use Rattle.mailparse.specs.declared.mail.message.ParsedMail.TheViews.{out-ParsedMail}
use Rattle.mail_codec.specs.Charset.{Charsets}
use Rattle.mailparse.specs.ContentType.{ContentType}
use Rattle.mail_read.specs.Attachments as files
use Rattle.mail_read.specs.Attachments.{is_extracted}
use Rattle.mail_read.specs.Files.{is_leaf, is_shown}
use Rattle.mail_read.specs.lenient.Dispositions.{lenient_disposition}
use Rattle.mail_read.specs.lenient.FileNames.{lenient_file_name}
use Rattle.mail_read.specs.lenient.Content.{Content, message_content}
use Rattle.mail_read.specs.lenient.Texts.{BodyText, text_read}
use Rattle.mail_json.specs.Options.{Options}
use Rattle.mail_html.specs.Text.{html_text}
use Rattle.mail_html.specs.declared.links.Links.TheVariants.{Omitted}
use Rattle.mail_html.specs.declared.references.References.{References}
use Rattle.mail_parts.specs.Part.{content_if, is_attachment}
use Rattle.mail_json.specs.Part.{html_shown, text_shown}
use Rattle.mail_json_text.specs.Printed.{Member, listed, text_of}
use Rattle.mail_json.specs.Values.{AreValues, IsPartValue, no_text_members, shown_members, text_members}
use Rattle.mail_json_text.specs.Written.{WritesOne}
use Rattle.mail_read.specs.PartPlaces.{Place}
use Rattle.mail_program.specs.declared.fault.Fault.{Fault}
use Rattle.json.specs.Json.{Json}
use Rattle.mail_json_text.proofs.lemmas.JsonText.{listed-comma}

-- ---- the objects

-- what was written is completed by the texts of any values of the items that are left
abbrev pub Completes : (Left : List Json → Type 0) → (List Json → List ℕ) → (All : List Json → Type 0) → (List Json → List ℕ) → List ℕ → Type 0
Completes Left text All text_all done = (rest : List Json) → Left rest → (all : List Json) × All all × (done ++ text rest ≡ text_all all)

-- one item more
pub items_more : {A : Type 0} (Is : A → Json → Type 0) (All : List Json → Type 0) (text_all : List Json → List ℕ) (before : List ℕ) (x : A) (left rest : List A) (done : List ℕ) (value : Json)
    → left ≡ x ∷ rest → Completes (AreValues Is left) (listed text_of before) All text_all done → Is x value
    → Completes (AreValues Is rest) (listed text_of (codes ",")) All text_all (done ++ (before ++ text_of value))
items_more {A = A} Is All text_all before x left rest done value e here is = λ others h.
    let all = here (value ∷ others) (subst (λ (xs : List A). AreValues Is xs (value ∷ others)) (sym e) (value, others, is, h, refl)) in (
      all.0,
      all.1,
      append_assoc done (before ++ text_of value) (listed text_of (codes ",") others)
          ∙ ap (λ t. done ++ t) (append_assoc before (text_of value) (listed text_of (codes ",") others)
          ∙ ap (λ t. before ++ (text_of value ++ t)) (listed-comma text_of others)) ∙ all.2,
    )

-- no item is left
pub items_end : {A : Type 0} (Is : A → Json → Type 0) (All : List Json → Type 0) (text_all : List Json → List ℕ) (before : List ℕ) (left : List A) (done : List ℕ) → left ≡ []
    → Completes (AreValues Is left) (listed text_of before) All text_all done → (all : List Json) × All all × (done ≡ text_all all)
items_end {A = A} Is All text_all before left done e here =
    let all = here [] (subst (λ (xs : List A). AreValues Is xs []) (sym e) refl) in
    (all.0, all.1, sym (append-nil done) ∙ all.2)

-- the same parts at the same offset by other names
pub found_as : {T : Type 0} (options : Options) (inside : Option (List ℕ)) (text : List Json → List ℕ) (s t : Option ℕ) (xs ys : List Place) (old new : Option (List ℕ)) (r : Result T Fault) → s ≡ t
    → xs ≡ ys → WritesOne old new r text (AreValues (IsPartValue options inside s) xs) → WritesOne old new r text (AreValues (IsPartValue options inside t) ys)
found_as options inside text s t xs ys old new r e f h =
    subst (λ (z : Option ℕ). WritesOne old new r text (AreValues (IsPartValue options inside z) ys)) e
    (subst (λ (zs : List Place). WritesOne old new r text (AreValues (IsPartValue options inside s) zs)) f h)

-- the members of a text that was read, with each flowed paragraph as one line if that is wanted
abbrev pub read_members : Bool → Option References → ContentType → BodyText → List Member
read_members joins html ctype read =
    let text = text_shown joins ctype read.text in
    text_members true text (html_shown html ctype text) read.charset read.is_damaged

-- ---- a message and its parts

pub ctype-out : (m : ParsedMail) → content_type (out-ParsedMail m).ctype ≡ (root (tree_of m)).ctype
ctype-out m = ap (λ (t : Tree). (root t).ctype) (sym (fold_out-ParsedMail Tree tree_step m))

pub headers-out : (m : ParsedMail) → (out-ParsedMail m).headers.items ≡ (root (tree_of m)).headers
headers-out m = ap (λ (t : Tree). (root t).headers) (sym (fold_out-ParsedMail Tree tree_step m))

-- a part is extracted if it is an attachment, or another part without parts that mail readers do not show
pub extracted_is : (known : Charsets) (t : Tree) → ((is_leaf t && not (is_shown (root t))) || is_attachment t (lenient_disposition known (root t)) (lenient_file_name known (root t))) ≡ is_extracted known t
unfolding files.is_attachment
extracted_is known t = refl

-- ---- the text of a body

-- a body that is decoded
pub content_some : (decodes : Bool) (node : Node) (content : Content) → content_if decodes node ≡ Some content
    → (content ≡ message_content node) × (content_if decodes node ≡ Some (message_content node))
content_some true node content e = (cc, refl)
content_some false node content e = absurd (cc)

pub text-hidden : (known : Charsets) (joins : Bool) (html : Option References) (shows : Bool) (ctype : ContentType) (content : Content) → shows ≡ false
    → no_text_members ≡ shown_members known joins html shows ctype content
text-hidden known joins html shows ctype content e = rw e refl

pub text-shown : (known : Charsets) (joins : Bool) (html : Option References) (shows : Bool) (ctype : ContentType) (content : Content) → shows ≡ true
    → read_members joins html ctype (text_read known ctype.charset content) ≡ shown_members known joins html shows ctype content
text-shown known joins html shows ctype content e = rw e refl

-- a text that is HTML, and one that is not
pub html-shown : (references : References) (ctype : ContentType) (text : List ℕ) → bytes_eq ctype.mimetype (codes "text/html") ≡ true
    → Some (html_text Omitted references text) ≡ html_shown (Some references) ctype text
html-shown references ctype text e = rw e refl

pub html-other : (references : References) (ctype : ContentType) (text : List ℕ) → bytes_eq ctype.mimetype (codes "text/html") ≡ false
    → None ≡ html_shown (Some references) ctype text
html-other references ctype text e = rw e refl
