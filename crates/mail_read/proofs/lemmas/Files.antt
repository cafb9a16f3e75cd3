-- Lemmas on the files of a mail.
use Rattle.std.proofs.Common.{◌≡◌, ℕ, Bool, true, false, eqb, List, [], ◌∷◌, ◌&&◌, ◌||◌, length, map, Option, is_some, Ok, refl, sym, ap, ◌∙◌, arith}
use Rattle.std.proofs.lemmas.Bool.{ne_eqb, and_left}
use Rattle.std.proofs.lemmas.List.{length-map}
use Rattle.mail_codec.specs.Charset.{Charsets}
use Rattle.mailparse.specs.Mail.{Node, Tree, tree, root, forest}
use Rattle.mailparse.specs.Views.{content_type, tree_of, tree_step}
use Rattle.mailparse.specs.declared.mail.message.ParsedMail.{ParsedMail}
use Rattle.mailparse.specs.declared.mail.message.ParsedMail.TheViews.{out-ParsedMail}
use Rattle.mailparse.specs.declared.mail.message.ParsedMail.TheFolds.{fold_out-ParsedMail}
use Rattle.mailparse.specs.Disposition.{Kind}
use Rattle.mailparse.specs.Refusal.{Reads}
use Rattle.mail_read.specs.Attachments.{describes_attachment, is_attachment, is_attachment_disposition}
use Rattle.mail_read.specs.Files.{is_leaf}
use Rattle.mail_read.specs.lenient.Dispositions.{lenient_disposition}
use Rattle.mail_read.specs.lenient.FileNames.{lenient_file_name}

leaf-forest : (node : Node) (ts : List Tree) → is_leaf (tree node (forest ts)) ≡ eqb (length ts) 0
leaf-forest node [] = refl
leaf-forest node (t ∷ ts) = sym (ne_eqb (length (t ∷ ts)) 0 (λ e. absurd (omega arith)))

leaf-at : (t : Tree) (node : Node) (ts : List Tree) → t ≡ tree node (forest ts) → is_leaf t ≡ eqb (length ts) 0
leaf-at t node ts e = ap is_leaf e ∙ leaf-forest node ts

-- a message has no parts exactly where its list of parts is empty
pub is_leaf-out : (m : ParsedMail) → is_leaf (tree_of m) ≡ eqb (length (out-ParsedMail m).subparts.items) 0
is_leaf-out m =
    leaf-at (tree_of m) _ (map tree_of (out-ParsedMail m).subparts.items) (fold_out-ParsedMail Tree tree_step m)
    ∙ ap (λ n. eqb n 0) (length-map (out-ParsedMail m).subparts.items tree_of)

-- its type
pub ctype-out : (m : ParsedMail) → content_type (out-ParsedMail m).ctype ≡ (root (tree_of m)).ctype
ctype-out m = ap (λ (t : Tree). (root t).ctype) (sym (fold_out-ParsedMail Tree tree_step m))

-- its headers
pub headers-out : (m : ParsedMail) → (out-ParsedMail m).headers.items ≡ (root (tree_of m)).headers
headers-out m = ap (λ (t : Tree). (root t).headers) (sym (fold_out-ParsedMail Tree tree_step m))

pub is_attachment-parts : (known : Charsets) (t : Tree) → false ≡ is_leaf t → is_attachment known t ≡ false
unfolding is_attachment
is_attachment-parts known t e = and_left (is_leaf t) (describes_attachment (lenient_disposition known (root t)) (lenient_file_name known (root t))) (sym e)

-- without parts, the disposition and the name decide
is_attachment-leaf : (known : Charsets) (t : Tree) (d : Option Kind) → true ≡ is_leaf t → ◌≡◌ {A = Reads (Option Kind)} (Ok (lenient_disposition known (root t))) (Ok d)
    → is_attachment known t ≡ describes_attachment d (lenient_file_name known (root t))
unfolding is_attachment
is_attachment-leaf known t d leaf shown =
    let same : lenient_disposition known (root t) ≡ d = cc in
    ap (λ b. b && describes_attachment (lenient_disposition known (root t)) (lenient_file_name known (root t))) (sym leaf)
    ∙ ap (λ (x : Option Kind). describes_attachment x (lenient_file_name known (root t))) same

pub is_attachment-shown : (known : Charsets) (t : Tree) (d : Option Kind) → true ≡ is_leaf t → ◌≡◌ {A = Reads (Option Kind)} (Ok (lenient_disposition known (root t))) (Ok d)
    → true ≡ is_attachment_disposition d → is_attachment known t ≡ true
is_attachment-shown known t d leaf shown is = is_attachment-leaf known t d leaf shown ∙ ap (λ b. b || is_some (lenient_file_name known (root t))) (sym is)

pub is_attachment-named : (known : Charsets) (t : Tree) (d : Option Kind) (name : Option (List ℕ)) → true ≡ is_leaf t
    → ◌≡◌ {A = Reads (Option Kind)} (Ok (lenient_disposition known (root t))) (Ok d) → false ≡ is_attachment_disposition d
    → ◌≡◌ {A = Reads (Option (List ℕ))} (Ok (lenient_file_name known (root t))) (Ok name) → is_attachment known t ≡ is_some name
is_attachment-named known t d name leaf shown is named =
    let same : lenient_file_name known (root t) ≡ name = cc in
    is_attachment-leaf known t d leaf shown ∙ ap (λ b. b || is_some (lenient_file_name known (root t))) (sym is) ∙ ap (λ (n : Option (List ℕ)). is_some n) same
