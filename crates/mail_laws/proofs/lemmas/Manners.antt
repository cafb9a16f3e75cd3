-- A manner that keeps refused messages refuses none, and the messages that a manner reads as the port does.
use Rattle.std.proofs.Common.{◌≡◌, ℕ, zero, suc, Bool, true, false, List, [], ◌∷◌, length, map, take, Ok, Err, IsOk, refl, sym, ap, ◌∙◌, subst, arith}
use Rattle.std.specs.Prelude.{if◌then◌else◌}
use Rattle.std.proofs.lemmas.List.{length-take}
use Rattle.mail_codec.specs.Charset.{Charsets}
use Rattle.mailparse.specs.Block.{HeaderList, header_as, header_part, read_block, read_headers, with_bare_keys}
use Rattle.mailparse.specs.Header.{Header}
use Rattle.mailparse.specs.ContentType.{ContentType}
use Rattle.mailparse.specs.Delimiters.{Cut}
use Rattle.mailparse.specs.Manner.{Manner}
use Rattle.mailparse.specs.Mail.{strict, Tree, tree, Forest, part_and, cut_of, cut_of_as, is_digest, node_type, node_with, read_each, kept_if_refused, or_kept, read_levels, read_mail_as, read_mail_in, read_message, read_parts}
use Rattle.mailparse.specs.Ranges.{slice}
use Rattle.mailparse.specs.Refusal.{◌>>=◌, Reads}
use Rattle.mailparse.proofs.lemmas.Block.{read_headers-bounded}
use Rattle.mailparse.proofs.lemmas.Refusal.{read_map}
use Rattle.mail_laws.specs.Manners.{AreReadAlike, AllReadAlike}

-- ---- nothing is refused

or_kept-ok : (manner : Manner) (bytes : List ℕ) (reading : Reads Tree) → manner.keeps_refused ≡ true → IsOk (or_kept manner bytes reading)
or_kept-ok manner bytes reading keeps = subst (λ k. IsOk (if k then kept_if_refused bytes reading else reading)) (sym keeps) (by_reading reading)
  where
    by_reading : (r : Reads Tree) → IsOk (kept_if_refused bytes r)
    by_reading (Ok t) = refl
    by_reading (Err refusal) = refl

pub nothing-refused : (manner : Manner) (greatest : ℕ) (mail : List ℕ) → manner.keeps_refused ≡ true → IsOk (read_mail_as manner greatest mail)
unfolding read_levels
nothing-refused manner greatest mail keeps = or_kept-ok manner mail (read_message manner (read_levels manner greatest) false mail) keeps

-- ---- the same headers

-- those that are read from all bytes, and whose keys are the same in a manner
block_alike : (lenient : Bool) (bytes : List ℕ) (block : HeaderList) → header_part lenient bytes ≡ bytes
    → map (header_as lenient) block.headers ≡ block.headers → read_headers bytes ≡ Ok block → read_block lenient bytes ≡ Ok block
block_alike false bytes block whole keys read = read
block_alike true bytes block whole keys read =
    ap (λ (raw : List ℕ). with_bare_keys (read_headers raw)) whole ∙ ap with_bare_keys read
    ∙ ap (λ (hs : List Header). Ok (record { headers = hs; index = block.index })) keys

-- ---- the same as the port

pub strict-same : (known : Charsets) (greatest : ℕ) (mail : List ℕ) → read_mail_as (strict known) greatest mail ≡ read_mail_in known greatest mail
unfolding read_mail_in
strict-same known greatest mail = refl

module _ (manner : Manner) (known : Charsets) where
  or_kept-same : (bytes : List ℕ) (reading : Reads Tree) (t : Tree) → reading ≡ Ok t → or_kept manner bytes reading ≡ Ok t
  or_kept-same bytes reading t e = by_manner manner.keeps_refused
    where
      by_manner : (k : Bool) → if k then kept_if_refused bytes reading else reading ≡ Ok t
      by_manner true = ap (kept_if_refused bytes) e
      by_manner false = e

  -- a message that the port reads is read as the same tree
  abbrev Agree : (read other : List ℕ → Reads Tree) → Type 0
  Agree read other = (bytes : List ℕ) (t : Tree) → read bytes ≡ Ok t → AreReadAlike manner known t → other bytes ≡ Ok t

  each-agree : (read other : List ℕ → Reads Tree) → Agree read other → (parts : List (List ℕ)) (found : Forest) → read_each read parts ≡ Ok found
      → AllReadAlike manner known found → read_each other parts ≡ Ok found
  each-agree read other agree [] found e alike = e
  each-agree read other agree (part ∷ parts) found e alike = by_part (read part) (read_each read parts) refl refl e alike (each-agree read other agree parts)
    where
      by_part : (first : Reads Tree) (rest : Reads Forest) → read part ≡ first → read_each read parts ≡ rest → ◌>>=◌ first (λ t. read_map (part_and t) rest) ≡ Ok found
          → AllReadAlike manner known found → ((others : Forest) → read_each read parts ≡ Ok others → AllReadAlike manner known others → read_each other parts ≡ Ok others)
          → ◌>>=◌ (other part) (λ t. read_map (part_and t) (read_each other parts)) ≡ Ok found
      by_part (Err refusal) rest f g h alike ih = absurd (cc)
      by_part (Ok t) (Err refusal) f g h alike ih = absurd (cc)
      by_part (Ok t) (Ok others) f g h alike ih =
          let same : part_and t others ≡ found = cc in
          let both : AllReadAlike manner known (part_and t others) = subst (AllReadAlike manner known) (sym same) alike in
          let first = agree part t f both.0 in
          let more = ih others g both.1 in
          ap (λ (r : Reads Tree). ◌>>=◌ r (λ t. read_map (part_and t) (read_each other parts))) first
          ∙ ap (λ (r : Reads Forest). read_map (part_and t) r) more ∙ h

  message-agree : (read other : Bool → List ℕ → Reads Tree) → ((digest : Bool) → Agree (read digest) (other digest)) → (in_digest : Bool)
      → Agree (read_message (strict known) read in_digest) (read_message manner other in_digest)
  message-agree read other agree in_digest bytes t e alike = by_block (read_headers bytes) refl e
    where
      by_parts : (block : HeaderList) → read_headers bytes ≡ Ok block → (parts : Reads Forest)
          → let ctype = node_type known in_digest block.headers in
          let cut = cut_of ctype bytes block.index in
          read_each (read (is_digest ctype)) (map (slice bytes) cut.parts) ≡ parts → read_map (tree (node_with bytes block ctype cut)) parts ≡ Ok t
          → read_message manner other in_digest bytes ≡ Ok t
      by_parts block is (Err refusal) f h = absurd (cc)
      by_parts block is (Ok parts) f h =
          let ctype = node_type known in_digest block.headers in
          let cut = cut_of ctype bytes block.index in
          let node = node_with bytes block ctype cut in
          let same : tree node parts ≡ t = cc in
          let both : AreReadAlike manner known (tree node parts) = subst (AreReadAlike manner known) (sym same) alike in
          let here = both.0 in
          let size = length-take block.index bytes in
          let index = (read_headers-bounded bytes block is).index in
          let front : length (take block.index bytes) ≡ block.index = omega arith in
          let cuts : cut_of_as manner.whole_lines ctype bytes block.index ≡ cut =
          subst (λ n. cut_of_as manner.whole_lines ctype bytes n ≡ cut_of ctype bytes n) front here.cut in
          let more = each-agree (read (is_digest ctype)) (other (is_digest ctype)) (agree (is_digest ctype)) (map (slice bytes) cut.parts) parts f both.1 in
          ap (λ (r : Reads HeaderList). ◌>>=◌ r (λ b. read_parts manner other bytes b (manner.type_of in_digest b.headers)))
          (block_alike manner.lenient_headers bytes block here.headers here.keys is)
          ∙ ap (λ (c : ContentType). read_parts manner other bytes block c) (here.type in_digest)
          ∙ ap (λ (c : Cut). read_map (tree (node_with bytes block ctype c)) (read_each (other (is_digest ctype)) (map (slice bytes) c.parts))) cuts
          ∙ ap (read_map (tree node)) more ∙ ap Ok same

      by_block : (block : Reads HeaderList) → read_headers bytes ≡ block
          → ◌>>=◌ block (λ b. read_parts (strict known) read bytes b (node_type known in_digest b.headers)) ≡ Ok t
          → read_message manner other in_digest bytes ≡ Ok t
      by_block (Err refusal) is h = absurd (cc)
      by_block (Ok block) is h = by_parts block is _ refl h

  levels-agree : (levels : ℕ) (in_digest : Bool) → Agree (read_levels (strict known) levels in_digest) (read_levels manner levels in_digest)
  unfolding read_levels
  levels-agree zero in_digest bytes t e alike = absurd (cc)
  levels-agree (suc levels) in_digest bytes t e alike =
      or_kept-same bytes (read_message manner (read_levels manner levels) in_digest bytes) t
      (message-agree (read_levels (strict known) levels) (read_levels manner levels) (λ digest. levels-agree levels digest) in_digest bytes t e alike)

  pub mails-agree : (greatest : ℕ) (mail : List ℕ) (parsed : Tree) → read_mail_in known greatest mail ≡ Ok parsed → AreReadAlike manner known parsed
      → read_mail_as manner greatest mail ≡ Ok parsed
  unfolding read_mail_in
  mails-agree greatest mail parsed e alike = levels-agree (suc greatest) false mail parsed e alike
