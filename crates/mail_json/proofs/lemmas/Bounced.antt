-- Lemmas on the part that a bounce returns.
use Rattle.std.proofs.Common.{◌≡◌, ℕ, ◌+◌, String, Global, Result, List, [], ◌∷◌, ◌++◌, length, drop, map, Option, Bor, true, false, Some, None, option_map, refl, sym, ap, subst, ◌∙◌, arith, length-append}
use Rattle.std.proofs.lemmas.List.{drop-drop, drop-map}
use Rattle.std.proofs.lemmas.Bool.{cond-false, cond-true}
use Rattle.std.specs.List.{AllByRecursion}
use Rattle.std.specs.Option.{option_copied, option_map_or}
use Rattle.std.specs.Prelude.{IfOk, IfSome, codes, slice_get}
use Rattle.mailparse.specs.Mail.{Tree, forest, root}
use Rattle.mailparse.specs.Views.{tree_of, tree_step}
use Rattle.mailparse.specs.declared.mail.message.ParsedMail.{ParsedMail}
use Rattle.mailparse.specs.declared.mail.message.ParsedMail.TheViews.{out-ParsedMail}
use Rattle.mailparse.specs.declared.mail.message.ParsedMail.TheFolds.{fold_out-ParsedMail}
use Rattle.mail_data.specs.Archive.{id_among}
use Rattle.mail_data.specs.Bounce.{first_part, has_original, original_message_id, report_part}
use Rattle.mail_data.specs.Reports.{fields, has_type}
use Rattle.mail_read.specs.lenient.Content.{Content, message_content}
use Rattle.mailparse.specs.Map.{text_found}
use Rattle.mail_parts.specs.DecodedViews.{decoded_tree}
use Rattle.mail_parts.specs.declared.decoded.Decoded.{Decoded}

-- ---- the parts after a message and its parts

pub none_after : {X : Type 0} (xs : List X) → length xs ≡ 0 → xs ≡ drop 1 xs
none_after [] h = refl
none_after (x ∷ xs) h = absurd (omega (arith, h))

-- what follows the first one, without the parts of that
pub first_dropped : {X : Type 0} (first : Tree) (own whole : List Tree) (parts rest : List X) → whole ≡ first ∷ own → rest ≡ drop 1 parts
    → drop (length own) rest ≡ drop (length whole) parts
first_dropped first own whole parts rest e r =
    let more : 1 + length own ≡ length (first ∷ own) = omega arith in
    ap (drop (length own)) r ∙ drop-drop (length own) 1 parts ∙ ap (λ n. drop n parts) more ∙ ap (λ (ts : List Tree). drop (length ts) parts) (sym e)

-- one part of it more, with its own parts
pub more_dropped : {X : Type 0} (one later all : List Tree) (rest new out : List X) → all ≡ one ++ later → new ≡ drop (length one) rest → drop (length all) rest ≡ out
    → drop (length later) new ≡ out
more_dropped one later all rest new out e n h =
    ap (drop (length later)) n ∙ drop-drop (length later) (length one) rest ∙ ap (λ k. drop k rest) (omega (arith, length-append one later))
    ∙ ap (λ (ts : List Tree). drop (length ts) rest) (sym e) ∙ h

-- none more
pub none_dropped : {X : Type 0} (left : List Tree) (rest out : List X) → left ≡ [] → drop (length left) rest ≡ out → rest ≡ out
none_dropped left rest out e h = ap (λ (ts : List Tree). drop (length ts) rest) (sym e) ∙ h

-- ---- the trees of the parts that are left

append_dropped : {A : Type 0} (xs ys : List A) → drop (length xs) (xs ++ ys) ≡ ys
append_dropped [] ys = refl
append_dropped (x ∷ xs) ys = append_dropped xs ys

-- after some of them
pub trees_after : (one later all : List Tree) (parts rest : List Decoded) → all ≡ one ++ later → rest ≡ drop (length one) parts → map decoded_tree parts ≡ all
    → map decoded_tree rest ≡ later
trees_after one later all parts rest e r h =
    ap (map decoded_tree) r ∙ sym (drop-map decoded_tree (length one) parts) ∙ ap (drop (length one)) (h ∙ e) ∙ append_dropped one later

-- the first of them
pub first_found : (parts : List Decoded) (found : Option (Bor Decoded)) (one : Tree) (later : List Tree) (out : Option Tree) → option_copied found ≡ slice_get parts 0
    → map decoded_tree parts ≡ one ∷ later → Some one ≡ out → option_map (λ (part : Bor Decoded). decoded_tree part.now) found ≡ out
first_found [] found one later out is h e = absurd (cc)
first_found (part ∷ parts) None one later out is h e = absurd (cc)
first_found (part ∷ parts) (Some first) one later out is h e =
    let same : first.now ≡ part = cc in
    let tree : decoded_tree part ≡ one = cc in
    ap (λ (p : Decoded). Some (decoded_tree p)) same ∙ ap (λ (t : Tree). Some t) tree ∙ e

pub first_decoded : (P : Decoded → Type 0) (parts : List Decoded) (found : Option (Bor Decoded)) → option_copied found ≡ slice_get parts 0 → AllByRecursion P parts
    → IfSome found (λ part. P part.now)
first_decoded P parts None is all = tt
first_decoded P [] (Some first) is all = absurd (cc)
first_decoded P (part ∷ parts) (Some first) is all = let same : part ≡ first.now = cc in subst P same all.0

-- the first part that is the returned mail
pub returned_first : (one : Tree) (later : List Tree) (left : List Tree) (all : Option Tree) → left ≡ one ∷ later → has_original (root one) ≡ true
    → first_part has_original (forest left) ≡ all → Some one ≡ all
returned_first one later left all e has h =
    sym (cond-true (has_original (root one)) _ _ has) ∙ ap (λ (ts : List Tree). first_part has_original (forest ts)) (sym e) ∙ h

pub returned_later : (one : Tree) (later : List Tree) (left : List Tree) (all : Option Tree) → left ≡ one ∷ later → has_original (root one) ≡ false
    → first_part has_original (forest left) ≡ all → first_part has_original (forest later) ≡ all
returned_later one later left all e has h =
    sym (cond-false (has_original (root one)) _ _ has) ∙ ap (λ (ts : List Tree). first_part has_original (forest ts)) (sym e) ∙ h

-- ---- the id of the mail in it

pub id_found : {E : Type 0} (r : Result (Option (String Global)) E) (t part : Tree) → ◌≡◌ {A = Option Tree} (Some part) (report_part has_original t)
    → IfOk r (λ id. text_found id ≡ id_among (fields (message_content (root part)).bytes)) → IfOk r (λ id. text_found id ≡ original_message_id t)
unfolding original_message_id
id_found r t part e h =
    subst (λ (out : Option (List ℕ)). IfOk r (λ id. text_found id ≡ out))
    (ap (λ (o : Option Tree). option_map_or (λ (part : Tree). id_among (fields (message_content (root part)).bytes)) o None) e) h

-- ---- the parts of a mail among which it is

-- of a report they are its own parts
pub report_found : (m : ParsedMail) (items : List ParsedMail) → items ≡ (out-ParsedMail m).subparts.items → has_type (codes "multipart/report") (root (tree_of m)) ≡ true
    → first_part has_original (forest (map tree_of items)) ≡ report_part has_original (tree_of m)
report_found m items is has =
    let e = fold_out-ParsedMail Tree tree_step m in
    ap (λ (ms : List ParsedMail). first_part has_original (forest (map tree_of ms))) is
    ∙ sym (ap (report_part has_original) e ∙ cond-true _ _ _ (ap (λ (t : Tree). has_type (codes "multipart/report") (root t)) (sym e) ∙ has))

-- another mail has no such part
pub no_report : (m : ParsedMail) → has_type (codes "multipart/report") (root (tree_of m)) ≡ false → None ≡ report_part has_original (tree_of m)
no_report m has =
    let e = fold_out-ParsedMail Tree tree_step m in
    sym (ap (report_part has_original) e ∙ cond-false _ _ _ (ap (λ (t : Tree). has_type (codes "multipart/report") (root t)) (sym e) ∙ has))

-- the id in its content
pub id_read : {E : Type 0} (r : Result (Option (String Global)) E) (bytes : List ℕ) (content read : Content) → IfOk r (λ id. text_found id ≡ id_among (fields bytes))
    → bytes ≡ content.bytes → content ≡ read → IfOk r (λ id. text_found id ≡ id_among (fields read.bytes))
id_read r bytes content read h same is =
    subst (λ (b : List ℕ). IfOk r (λ id. text_found id ≡ id_among (fields b))) (same ∙ ap (λ (c : Content). c.bytes) is) h
