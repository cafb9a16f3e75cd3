-- Lemmas on records.
use Rattle.std.proofs.Common.{◌≡◌, ℕ, zero, suc, ◌+◌, ◌<◌, ◌⊎◌, true, List, [], ◌∷◌, ◌++◌, length, drop, map, Result, Ok, Err, inl, inr, ⊎_elim, refl, sym, ap, subst, ◌∙◌, append_assoc, add-one, arith}
use Rattle.std.proofs.lemmas.Bool.{false≢true}
use Rattle.std.proofs.lemmas.List.{append-nil}
use Rattle.std.specs.List.{flat_map}
use Rattle.mailparse.specs.Mail.{Tree, no_parts, part_and, tree, trees_within}
use Rattle.mail_read.specs.Files.{is_leaf}
use Rattle.mailparse.specs.Limit.{headers_met}
use Rattle.mailparse.specs.Placement.{Placement}
use Rattle.mailparse.specs.Ranges.{Range}
use Rattle.mail_read.specs.Reading.{mail_placements, mail_reading}
use Rattle.mail_read.specs.lenient.Encoding.{lenient_body_kind}
use Rattle.mailparse.specs.Views.{placement_of, placements_of, placements_step, tree_of}
use Rattle.mailparse.specs.declared.mail.message.ParsedMail.{ParsedMail}
use Rattle.mailparse.specs.declared.mail.message.ParsedMail.TheFolds.{fold_out-ParsedMail}
use Rattle.mailparse.specs.declared.mail.message.ParsedMail.TheViews.{out-ParsedMail}
use Rattle.mail_codec.specs.Charset.{Charsets}
use Rattle.mail_records.specs.Buffer.{EndsBoth, EndsItems, Output, WritesBoth, WritesItems, seen}
use Rattle.mailparse.specs.Block.{HeaderList, before_dash_line, read_headers}
use Rattle.mailparse.specs.Outcome.{IsRefusalOrMemory}
use Rattle.mailparse.specs.Refusal.{Reads}
use Rattle.mailparse.specs.declared.error.MailParseError.{MailParseError}
use Rattle.mailparse.specs.declared.error.MailParseError.TheVariants.{QuotedPrintableDecodeError, Base64DecodeError, EncodingError, Generic, Memory}
use Rattle.mail_records.specs.Codes.{IsCoded, coded, error_code, no_memory}
use Rattle.mail_records.specs.OwnHeaders.{AllOwn, HasOwnHeaders}
use Rattle.mail_records.specs.RecordViews.{family_view, item_view}
use Rattle.mail_codec.specs.Places.{values_below}
use Rattle.mailparse.specs.Block.{header_place}
use Rattle.mailparse.specs.Header.{header_length, value_end, value_start}
use Rattle.mailparse.specs.Mail.{root}
use Rattle.mail_read.specs.lenient.Dispositions.{lenient_disposition}
use Rattle.mail_read.specs.lenient.FileNames.{lenient_file_name}
use Rattle.mail_records.specs.Records.{Family, Item, bare_key_end, block_records, disposition_number, encoding_number, families, flags, header_block, header_record, header_records, item_headers, items_of, limited, mail_records, none, part_record, part_records, records, records_in}
use Rattle.mail_records.specs.declared.records.HeaderRecord.{HeaderRecord}
use Rattle.mail_records.specs.declared.records.Node.{Node}
use Rattle.mail_records.specs.declared.records.Part.{Part}

-- ---- what the calls end in

-- two lists were written as they were found
pub ends_both : {X A B : Type 0} (view : X → List A × List B) (first : Output A) (second : Output B) (code : ℕ) (found : Result X ℕ) (given : Result (List A × List B) ℕ)
    → IsCoded view found given → WritesBoth first second code (seen view found) → EndsBoth first second code given
ends_both {X} {A} {B} view first second code (Ok found) given is wrote = inr (subst (λ (r : Result (List A × List B) ℕ). WritesBoth first second code r) (sym is) wrote)
ends_both {X} {A} {B} view first second code (Err why) given is wrote =
    ⊎_elim (λ memory. inl (wrote.0 ∙ memory, wrote.1, wrote.2))
    (λ refused. inr (subst (λ (r : Result (List A × List B) ℕ). WritesBoth first second code r) (sym refused) wrote)) is

-- a list was
pub ends_items : {X A : Type 0} (view : X → List A) (out : Output A) (code : ℕ) (found : Result X ℕ) (given : Result (List A) ℕ)
    → IsCoded view found given → WritesItems out code (seen view found) → EndsItems out code given
ends_items {X} {A} view out code (Ok found) given is wrote = inr (subst (λ (r : Result (List A) ℕ). WritesItems out code r) (sym is) wrote)
ends_items {X} {A} view out code (Err why) given is wrote =
    ⊎_elim (λ memory. inl (wrote.0 ∙ memory, wrote.1))
    (λ refused. inr (subst (λ (r : Result (List A) ℕ). WritesItems out code r) (sym refused) wrote)) is

-- ---- readings and their codes

err_same : {A : Type 0} (n m : ℕ) → n ≡ m → ◌≡◌ {A = Result A ℕ} (Err n) (Err m)
err_same n m e = rw e refl

-- the code of an error is that of the refusal, or memory ran out
pub refused_code : {A : Type 0} (e : MailParseError) (given : Reads A) (code : ℕ) → IsRefusalOrMemory e given → code ≡ error_code e → (code ≡ no_memory) ⊎ (coded given ≡ Err code)
refused_code (QuotedPrintableDecodeError fault) given code h is = absurd h
refused_code (Base64DecodeError fault) given code h is = inr (ap coded h ∙ err_same _ _ (sym is))
refused_code (EncodingError text) given code h is = inr (ap coded h ∙ err_same _ _ (sym is))
refused_code (Generic text) given code h is = inr (ap coded h ∙ err_same _ _ (sym is))
refused_code (Memory e) given code h is = inl is

-- the records of a mail that was read
pub records_are : (known : Charsets) (limit : ℕ) (raw : List ℕ) (t : Tree) (ranges : List Placement) (found : List Part × List HeaderRecord)
    → mail_reading known limit raw ≡ Ok t → ranges ≡ mail_placements t → found ≡ records_in known (items_of (trees_within t) ranges (families 0 none 0 t))
    → ◌≡◌ {A = Result (List Part × List HeaderRecord) ℕ} (Ok found) (records known limit raw)
unfolding records
records_are known limit raw t ranges found read at is =
    ap Ok (is ∙ ap (λ (p : List Placement). records_in known (items_of (trees_within t) p (families 0 none 0 t))) at)
    ∙ ap (λ (r : Reads Tree). mail_records known (coded r)) (sym read)

pub records_refused : (known : Charsets) (limit : ℕ) (raw : List ℕ) (code : ℕ) → coded (mail_reading known limit raw) ≡ Err code → records known limit raw ≡ Err code
unfolding records
records_refused known limit raw code e = ap (mail_records known) e

-- the same of the headers of a block, read from the bytes in front of a line that looks like a delimiter
front_records : (limit : ℕ) (raw front : List ℕ) → front ≡ before_dash_line raw → block_records limit front (coded (read_headers front)) ≡ header_block limit raw
unfolding header_block
front_records limit raw front at = ap (λ (bytes : List ℕ). block_records limit bytes (coded (read_headers bytes))) at

pub headers_are : (limit : ℕ) (raw front : List ℕ) (block : HeaderList) → front ≡ before_dash_line raw → read_headers front ≡ Ok block
    → limited limit (length block.headers) (header_records 0 front (length block.headers)) ≡ header_block limit raw
headers_are limit raw front block at read = ap (λ (r : Reads HeaderList). block_records limit front (coded r)) (sym read) ∙ front_records limit raw front at

pub headers_refused : (limit : ℕ) (raw front : List ℕ) (code : ℕ) → front ≡ before_dash_line raw → coded (read_headers front) ≡ Err code → header_block limit raw ≡ Err code
headers_refused limit raw front code at e = sym (front_records limit raw front at) ∙ ap (block_records limit front) e

-- a block with headers, which were counted
pub headers_counted : (limit : ℕ) (raw front : List ℕ) (count : ℕ) → front ≡ before_dash_line raw → 0 < count → count ≡ headers_met (read_headers front)
    → limited limit count (header_records 0 front count) ≡ header_block limit raw
headers_counted limit raw front count at some is =
    ap (λ n. limited limit n (header_records 0 front n)) is ∙ by_block (read_headers front) (subst (λ n. 0 < n) is some) ∙ front_records limit raw front at
  where
    by_block : (block : Reads HeaderList) → 0 < headers_met block
        → limited limit (headers_met block) (header_records 0 front (headers_met block)) ≡ block_records limit front (coded block)
    by_block (Ok block) h = refl
    by_block (Err refusal) h = let none : 0 < 0 = h in absurd (omega (arith, none))

-- ---- the messages of a mail

-- messages by their trees, their ranges and their families
items-views : (nodes : List Node) → items_of (map (λ node. tree_of node.part.now) nodes) (map (λ node. placement_of node.part.now) nodes) (map family_view nodes) ≡ map item_view nodes
items-views [] = refl
items-views (node ∷ nodes) = ap (λ (items : List Item). item_view node ∷ items) (items-views nodes)

-- those that were added to none
pub items-added : (old nodes : List Node) (trees : List Tree) (ranges : List Placement) (families : List Family) → old ≡ []
    → map (λ node. tree_of node.part.now) nodes ≡ map (λ node. tree_of node.part.now) old ++ trees
    → map (λ node. placement_of node.part.now) nodes ≡ map (λ node. placement_of node.part.now) old ++ ranges
    → map family_view nodes ≡ map family_view old ++ families
    → map item_view nodes ≡ items_of trees ranges families
items-added old nodes trees ranges families none are places have =
    sym (items-views nodes)
    ∙ ap (λ (ts : List Tree). items_of ts (map (λ node. placement_of node.part.now) nodes) (map family_view nodes)) (are ∙ ap (λ (items : List Node). map (λ node. tree_of node.part.now) items ++ trees) none)
    ∙ ap (λ (ps : List Placement). items_of trees ps (map family_view nodes)) (places ∙ ap (λ (items : List Node). map (λ node. placement_of node.part.now) items ++ ranges) none)
    ∙ ap (items_of trees ranges) (have ∙ ap (λ (items : List Node). map family_view items ++ families) none)

-- the messages of a mail, which were added to none
pub items-first : (old nodes : List Node) (t : Tree) (ranges : List Placement) (parent count : ℕ) → old ≡ [] → count ≡ 0
    → map (λ node. tree_of node.part.now) nodes ≡ map (λ node. tree_of node.part.now) old ++ trees_within t
    → map (λ node. placement_of node.part.now) nodes ≡ map (λ node. placement_of node.part.now) old ++ ranges
    → map family_view nodes ≡ map family_view old ++ families count parent 0 t
    → map item_view nodes ≡ items_of (trees_within t) ranges (families 0 parent 0 t)
items-first old nodes t ranges parent count none empty are places have =
    items-added old nodes (trees_within t) ranges (families 0 parent 0 t) none are places (have ∙ ap (λ n. map family_view old ++ families n parent 0 t) empty)

-- a mail without parts is the only one
item-alone : (t : Tree) (range : Placement) (ranges : List Placement) (parent : ℕ) → is_leaf t ≡ true
    → record { part = t; placement = range; family = record { parent = parent; level = 0 } } ∷ [] ≡ items_of (trees_within t) (range ∷ ranges) (families 0 parent 0 t)
item-alone (tree node no_parts) range ranges parent h = refl
item-alone (tree node (part_and t ts)) range ranges parent h = absurd (false≢true h)

pub items-alone : (mail : ParsedMail) (parent : ℕ) → is_leaf (tree_of mail) ≡ true
    → record { part = tree_of mail; placement = placement_of mail; family = record { parent = parent; level = 0 } } ∷ []
    ≡ items_of (trees_within (tree_of mail)) (placements_of mail) (families 0 parent 0 (tree_of mail))
items-alone mail parent h =
    item-alone (tree_of mail) (placement_of mail) (flat_map (λ places. places) (map placements_of (out-ParsedMail mail).subparts.items)) parent h
    ∙ ap (λ (places : List Placement). items_of (trees_within (tree_of mail)) places (families 0 parent 0 (tree_of mail)))
    (sym (fold_out-ParsedMail (List Placement) placements_step mail))

-- each has its own headers
pub own-added : (old nodes : List Node) (t : Tree) → old ≡ [] → map (λ node. tree_of node.part.now) nodes ≡ map (λ node. tree_of node.part.now) old ++ trees_within t
    → AllOwn (trees_within t) → AllOwn (map (λ node. tree_of node.part.now) nodes)
own-added old nodes t none are own =
    subst AllOwn (sym (are ∙ ap (λ (items : List Node). map (λ node. tree_of node.part.now) items ++ trees_within t) none)) own

pub own-alone : (t : Tree) → AllOwn (trees_within t) → AllOwn (t ∷ [])
own-alone (tree node parts) own = (own.0, tt)

pub own-at : (nodes : List Node) (i : ℕ) (node : Node) (rest : List Node) → AllOwn (map (λ node. tree_of node.part.now) nodes) → drop i nodes ≡ node ∷ rest
    → HasOwnHeaders (tree_of node.part.now)
own-at nodes zero node rest own e = (subst (λ (ns : List Node). AllOwn (map (λ node. tree_of node.part.now) ns)) e own).0
own-at [] (suc i) node rest own e = absurd (cc)
own-at (first ∷ nodes) (suc i) node rest own e = own-at nodes i node rest own.1 e

-- ---- records, one after another

pub length-values : {X : Type 0} (n : ℕ) (f : ℕ → X) → length (values_below n f) ≡ n
length-values zero f = refl
length-values (suc n) f = ap suc (length-values n (λ k. f (suc k)))

-- the value at the next number comes last
pub values-next : {X : Type 0} (n : ℕ) (f : ℕ → X) → values_below (suc n) f ≡ values_below n f ++ f n ∷ []
values-next zero f = refl
values-next (suc n) f = ap (λ (xs : List _). f 0 ∷ xs) (values-next n (λ k. f (suc k)))

-- where the next header begins
pub header_place-next : (raw : List ℕ) (j : ℕ) → header_place raw (suc j) ≡ header_place raw j + header_length (drop (header_place raw j) raw)
unfolding header_place
header_place-next raw j = refl

pub length-item_headers : (item : Item) → length (item_headers item) ≡ length (root item.part).headers
unfolding header_records
length-item_headers item = length-values (length (root item.part).headers) (header_record item.placement.whole.start (root item.part).bytes)

-- the record of the next message was appended, and the index of the first header after it is known
pub more_parts : (known : Charsets) (made new : List Part) (first next : ℕ) (item : Item) (left rest : List Item) (all : List Part) → left ≡ item ∷ rest
    → new ≡ made ++ part_record known first item ∷ [] → next ≡ first + length (root item.part).headers
    → made ++ part_records known first left ≡ all → new ++ part_records known next rest ≡ all
more_parts known made new first next item left rest all l n e here =
    ap (λ (ps : List Part). ps ++ part_records known next rest) n ∙ append_assoc made (part_record known first item ∷ []) (part_records known next rest)
    ∙ ap (λ k. made ++ part_record known first item ∷ part_records known k rest) e ∙ ap (λ (xs : List Item). made ++ part_records known first xs) (sym l) ∙ here

-- the records of its headers were appended
pub more_headers : (made new : List HeaderRecord) (item : Item) (left rest : List Item) (all : List HeaderRecord) → left ≡ item ∷ rest
    → new ≡ made ++ item_headers item → made ++ flat_map item_headers left ≡ all → new ++ flat_map item_headers rest ≡ all
more_headers made new item left rest all l n here =
    ap (λ (hs : List HeaderRecord). hs ++ flat_map item_headers rest) n ∙ append_assoc made (item_headers item) (flat_map item_headers rest)
    ∙ ap (λ (xs : List Item). made ++ flat_map item_headers xs) (sym l) ∙ here

-- no message is left
pub records_all : (known : Charsets) (parts : List Part) (headers : List HeaderRecord) (first : ℕ) (left all : List Item) → left ≡ []
    → parts ++ part_records known first left ≡ part_records known 0 all → headers ++ flat_map item_headers left ≡ flat_map item_headers all
    → ◌≡◌ {A = List Part × List HeaderRecord} (parts, headers) (records_in known all)
records_all known parts headers first left all none p h =
    let all_parts = sym (append-nil parts) ∙ ap (λ (xs : List Item). parts ++ part_records known first xs) (sym none) ∙ p in
    let all_headers = sym (append-nil headers) ∙ ap (λ (xs : List Item). headers ++ flat_map item_headers xs) (sym none) ∙ h in
    ap (λ (ps : List Part). (ps, headers)) all_parts ∙ ap (λ (hs : List HeaderRecord). (part_records known 0 all, hs)) all_headers

-- the next header begins after the header with this number
pub next_place : (raw : List ℕ) (number at len : ℕ) → at ≡ header_place raw number → len ≡ header_length (drop at raw) → at + len ≡ header_place raw (number + 1)
next_place raw number at len e l =
    ap (λ n. n + len) e ∙ ap (λ n. header_place raw number + n) (l ∙ ap (λ p. header_length (drop p raw)) e)
    ∙ sym (header_place-next raw number) ∙ ap (header_place raw) (sym (add-one number))

-- the record of a header was appended
pub next_header : (start : ℕ) (raw : List ℕ) (number at key value last len : ℕ) (old made new : List HeaderRecord) → at ≡ header_place raw number
    → key ≡ bare_key_end (drop at raw) → value ≡ value_start (drop at raw) → last ≡ value_end (drop at raw) → len ≡ header_length (drop at raw)
    → made ≡ old ++ values_below number (header_record start raw)
    → new ≡ made ++ record { start = start + at; key_end = start + at + key; value_start = start + at + value; value_end = start + at + last; end = start + at + len } ∷ []
    → new ≡ old ++ values_below (number + 1) (header_record start raw)
next_header start raw number at key value last len old made new e k v u l m n =
    let f = header_record start raw in
    let one : ◌≡◌ {A = HeaderRecord} (record { start = start + at; key_end = start + at + key; value_start = start + at + value; value_end = start + at + last; end = start + at + len }) (f number) =
    (rw (k, v, u, l, e) refl) in
    n ∙ ap (λ (r : HeaderRecord). made ++ r ∷ []) one ∙ ap (λ (hs : List HeaderRecord). hs ++ f number ∷ []) m
    ∙ append_assoc old (values_below number f) (f number ∷ []) ∙ ap (λ (hs : List HeaderRecord). old ++ hs) (sym (values-next number f))
    ∙ ap (λ k. old ++ values_below k f) (sym (add-one number))

-- the record of a message, from its fields
pub part_record-is : (known : Charsets) (first : ℕ) (item : Item) (parent level count encoding : ℕ) (shown : ℕ × ℕ) (whole body : Range) → parent ≡ item.family.parent
    → level ≡ item.family.level → item.placement.whole ≡ whole → item.placement.body ≡ body → count ≡ length (root item.part).headers
    → encoding ≡ encoding_number (lenient_body_kind (root item.part))
    → ◌≡◌ {A = ℕ × ℕ} shown (disposition_number (lenient_disposition known (root item.part)), flags item.part (lenient_disposition known (root item.part)) (lenient_file_name known (root item.part)))
    → ◌≡◌ {A = Part} (record { parent = parent; level = level; start = whole.start; end = whole.end; body_start = body.start; body_end = body.end; first_header = first; header_count = count; encoding = encoding; disposition = shown.0; flags = shown.1 })
    (part_record known first item)
unfolding part_record
part_record-is known first item parent level count encoding shown whole body p l w b n e d =
    (rw (p, l, n, e, ap (λ (x : ℕ × ℕ). x.0) d, ap (λ (x : ℕ × ℕ). x.1) d, sym w, sym b) refl)
