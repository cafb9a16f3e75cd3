-- Plain mailboxes are mailboxes by the grammar, and elements of lists.
use Rattle.std.proofs.Common.{◌≡◌, ℕ, suc, ◌+◌, ◌-◌, ◌≤◌, ◌≢◌, Bool, true, false, cond, eqb, not, ◌&&◌, ◌||◌, List, [], ◌∷◌, ◌++◌, Some, length, take, drop, refl, sym, ap, subst, ◌∙◌, arith, append_assoc, length-append, length-drop}
use Rattle.std.specs.Prelude.{min}
use Rattle.std.specs.List.{list_all, prefix_len}
use Rattle.std.proofs.lemmas.Bool.{and_from, and_parts, cond_both, cond-true, eqb-false, eqb-true, false≢true, not-true}
use Rattle.std.proofs.lemmas.List.{append-nil, drop-drop, take_all, take_rest, take-append-drop}
use Rattle.std.proofs.lemmas.List.Sums.{prefix_len-le-length}
use Rattle.std.proofs.Math.Seq.{take-add}
use Rattle.mail_codec.specs.Places.{begins}
use Rattle.mail_address.specs.Addresses.{element_at, element_len, is_separator, member_at, member_len, Single, single}
use Rattle.mail_address.specs.Enclosed.{IsBetween, no_bytes, plain_byte}
use Rattle.mail_address.specs.Grammar.{address, AreDotted, atom, atoms, dot_word, dots_end, dotted, IsName, IsPhraseRest, IsWhite, named_address, no_name, no_route, phrase, phrase_dot, phrase_ends, phrase_white, phrase_word, white_byte, white_ends}
use Rattle.mail_address.specs.Mailbox.{are_clean, Parts}
use Rattle.mail_address.specs.Names.{atom_word, quoted_word}
use Rattle.mail_address.specs.private.Plain.{atoms_place, dot_atom_len, ends_at, ends_in_atom, is_inner_byte, is_phrase_byte, IsDotAtom, IsElement, IsFront, IsMember, IsSingle, plain_name_len, quoted_len, separates, word_name_len}
use Rattle.mail_address.specs.declared.plain.Level.{Level}
use Rattle.mail_address.specs.declared.plain.Level.TheVariants as levels
use Rattle.mail_address.specs.Text.{address_bytes, bare, local_text, needs_no_quotes, quoted_text}
use Rattle.mail_address.specs.Tokens.{is_atom_byte, is_white}
use Rattle.mail_address.proofs.lemmas.Addresses.{begins-within}
use Rattle.mail_address.proofs.lemmas.GrammarMade.{cut-closed, cut-more, either-made, prefix-has}
use Rattle.mail_address.proofs.lemmas.GrammarRead.{dotted-read, mailbox-read}
use Rattle.mail_address.proofs.lemmas.Names.{as_single, at_comma, at_end, at_semicolon, element-is, element_len-is, ends, IsElementEnd, IsEnd, member-is, member_len-is}
use Rattle.mail_address.proofs.lemmas.WriterRead.{mailbox-not_white, mailbox-passed}
use Rattle.mail_address.proofs.lemmas.WriterWords.{any-dotted, bare-same, is_dot_atom}

-- ---- whitespace

white-taken : (bytes : List ℕ) → IsWhite (take (prefix_len is_white bytes) bytes)
white-taken bytes = prefix-has IsWhite is_white white_ends (λ b rest h is. white_byte h is) bytes

-- ---- atoms with dots between them, perhaps with whitespace after them

all-snoc : (bytes : List ℕ) (c : ℕ) → list_all is_atom_byte bytes ≡ true → is_atom_byte c ≡ true → list_all is_atom_byte (bytes ++ c ∷ []) ≡ true
all-snoc [] c h last = and_from (is_atom_byte c) true last refl
all-snoc (b ∷ bytes) c h last =
    let both = and_parts (is_atom_byte b) (list_all is_atom_byte bytes) h in
    and_from (is_atom_byte b) (list_all is_atom_byte (bytes ++ c ∷ [])) both.0 (all-snoc bytes c both.1 last)

dot-ending : (bytes : List ℕ) → ends_in_atom true (46 ∷ bytes) ≡ ends_in_atom false bytes
unfolding is_atom_byte
dot-ending bytes = refl

module _ (z : List ℕ) (white_z : IsWhite z) where
  -- the text continues each atom, with whitespace before it, as a dot-atom
  abbrev Continues : List ℕ → Type 0
  Continues text = (w : List ℕ) (b : ℕ) (a : List ℕ) → IsWhite w → list_all is_atom_byte (b ∷ a) ≡ true → AreDotted atoms (w ++ ((b ∷ a) ++ text))

  one_atom : Continues z
  one_atom w b a white all = record {
    first = w ++ ((b ∷ a) ++ z);
    rest = [];
    is_first = record { before = w; word = b ∷ a; after = z; white_before = white; is_word = atom all; white_after = white_z; made = refl };
    are_rest = dots_end;
    made = sym (append-nil (w ++ ((b ∷ a) ++ z)));
  }

  dot_more : (text : List ℕ) → AreDotted atoms text → Continues (46 ∷ text)
  dot_more text are w b a white all = record {
    first = w ++ ((b ∷ a) ++ []);
    rest = 46 ∷ text;
    is_first = record { before = w; word = b ∷ a; after = []; white_before = white; is_word = atom all; white_after = white_ends; made = refl };
    are_rest = dot_word {word = are.first} {rest = are.rest} are.is_first are.are_rest (ap (λ (t : List ℕ). 46 ∷ t) are.made);
    made = sym (append_assoc w ((b ∷ a) ++ []) (46 ∷ text) ∙ ap (λ x. w ++ (x ++ 46 ∷ text)) (append-nil (b ∷ a)));
  }

  atom_more : (c : ℕ) (text : List ℕ) → is_atom_byte c ≡ true → Continues text → Continues (c ∷ text)
  atom_more c text h more w b a white all =
      subst (λ t. AreDotted atoms (w ++ t)) (append_assoc (b ∷ a) (c ∷ []) text) (more w b (a ++ c ∷ []) white (all-snoc (b ∷ a) c all h))

  -- what the bytes up to there are: the rest of a dot-atom after a byte of an atom, or a dot-atom
  abbrev Means : Bool → List ℕ → Type 0
  Means true text = Continues text
  Means false text = (w : List ℕ) → IsWhite w → AreDotted atoms (w ++ text)

  abbrev Text : Bool → List ℕ → List ℕ
  Text in_atom bytes = take (atoms_place in_atom bytes) bytes ++ z

  means : (in_atom : Bool) (bytes : List ℕ) → ends_in_atom in_atom bytes ≡ true → Means in_atom (Text in_atom bytes)
  means true [] h = one_atom
  means false [] h = absurd (false≢true h)
  means false (c ∷ bytes) h =
      cond_both (is_atom_byte c) (suc (atoms_place true bytes)) 0 (λ n. cond (is_atom_byte c) (ends_in_atom true bytes) false ≡ true → Means false (take n (c ∷ bytes) ++ z))
      (λ e k. λ w white. means true bytes (sym (cond-true (is_atom_byte c) (ends_in_atom true bytes) false e) ∙ k) w c [] white (and_from (is_atom_byte c) true e refl))
      (λ e k. absurd (false≢true (sym (ap (λ t. cond t (ends_in_atom true bytes) false) e) ∙ k))) h
  means true (c ∷ bytes) h =
      cond_both (is_atom_byte c) (suc (atoms_place true bytes)) (cond (eqb c 46) (suc (atoms_place false bytes)) 0)
      (λ n. Means true (take n (c ∷ bytes) ++ z))
      (λ e. atom_more c (Text true bytes) e (means true bytes (sym (cond-true (is_atom_byte c) (ends_in_atom true bytes) (cond (eqb c 46) (ends_in_atom false bytes) true) e) ∙ h)))
      (λ e. cond_both (eqb c 46) (suc (atoms_place false bytes)) 0 (λ n. Means true (take n (c ∷ bytes) ++ z))
      (λ d. let same : c ≡ 46 = eqb-true c 46 d in
      subst (λ b. Means true (b ∷ Text false bytes)) (sym same)
      (dot_more (Text false bytes) (means false bytes (sym (dot-ending bytes) ∙ ap (λ b. ends_in_atom true (b ∷ bytes)) (sym same) ∙ h) [] white_ends)))
      (λ d. one_atom))

dot_atom-is : (z : List ℕ) → IsWhite z → (w : List ℕ) → IsWhite w → (bytes : List ℕ) → dot_atom_len bytes ≢ 0 → AreDotted atoms (w ++ (take (dot_atom_len bytes) bytes ++ z))
unfolding dot_atom_len
dot_atom-is z white_z w white bytes some =
    cond_both (ends_in_atom false bytes) (atoms_place false bytes) 0 (λ n. n ≢ 0 → AreDotted atoms (w ++ (take n bytes ++ z)))
    (λ e k. means z white_z false bytes e w white) (λ e k. absurd (k refl)) some

-- ---- a dot-atom is its own canonical form

dot-either : (t : Bool) {u : Bool} → u ≡ true → (t || u) ≡ true
dot-either true h = refl
dot-either false h = h

atoms-dotted : (in_atom : Bool) (bytes : List ℕ) → list_all is_dot_atom (take (atoms_place in_atom bytes) bytes) ≡ true
atoms-dotted in_atom [] = refl
atoms-dotted in_atom (c ∷ bytes) =
    cond_both (is_atom_byte c) (suc (atoms_place true bytes)) (cond (in_atom && eqb c 46) (suc (atoms_place false bytes)) 0)
    (λ n. list_all is_dot_atom (take n (c ∷ bytes)) ≡ true)
    (λ e. and_from (is_dot_atom c) (list_all is_dot_atom (take (atoms_place true bytes) bytes)) (ap (λ t. t || eqb c 46) e) (atoms-dotted true bytes))
    (λ e. cond_both (in_atom && eqb c 46) (suc (atoms_place false bytes)) 0 (λ n. list_all is_dot_atom (take n (c ∷ bytes)) ≡ true)
    (λ d. and_from (is_dot_atom c) (list_all is_dot_atom (take (atoms_place false bytes) bytes)) (dot-either (is_atom_byte c) (and_parts in_atom (eqb c 46) d).1) (atoms-dotted false bytes))
    (λ d. refl))

module _ (text : List ℕ) (is : IsDotAtom text) where
  whole : take (atoms_place false text) text ≡ text
  whole = ap (λ n. take n text) is.1 ∙ take_all (length text) text (omega arith)

  dot_atom-all : list_all is_dot_atom text ≡ true
  dot_atom-all = ap (list_all is_dot_atom) (sym whole) ∙ atoms-dotted false text

  dot_atom-dotted : AreDotted atoms text
  dot_atom-dotted = subst (AreDotted atoms) (append-nil (take (atoms_place false text) text) ∙ whole) (means [] white_ends false text is.0 [] white_ends)

  dot_atom-quotes : needs_no_quotes text ≡ true
  unfolding needs_no_quotes
  dot_atom-quotes = and_from _ _ dot_atom-all (dotted-read dot_atom-dotted)

  dot_atom-bare : bare text ≡ text
  dot_atom-bare = bare-same text dot_atom-all

-- an address of two dot-atoms is its own canonical form
pub plain_address : (local domain : List ℕ) → IsDotAtom local → IsDotAtom domain → address_bytes local domain ≡ local ++ 64 ∷ domain
unfolding address_bytes local_text
plain_address local domain one two =
    ap (λ l. cond (needs_no_quotes l) l (quoted_text l) ++ 64 ∷ bare domain) (dot_atom-bare local one)
    ∙ ap (λ l. l ++ 64 ∷ bare domain) (cond-true (needs_no_quotes local) local (quoted_text local) (dot_atom-quotes local one))
    ∙ ap (λ d. local ++ 64 ∷ d) (dot_atom-bare domain two)

-- a text that is the dot-atom at its front
pub dot_atom_from : (text : List ℕ) → dot_atom_len text ≢ 0 → dot_atom_len text ≡ length text → IsDotAtom text
unfolding dot_atom_len
dot_atom_from text some all =
    cond_both (ends_in_atom false text) (atoms_place false text) 0 (λ n. n ≢ 0 → n ≡ length text → IsDotAtom text)
    (λ e k l. (e, l)) (λ e k l. absurd (k refl)) some all

-- ---- names

phrase-byte : (b : ℕ) (rest : List ℕ) → is_phrase_byte b ≡ true → IsPhraseRest rest → IsPhraseRest (b ∷ rest)
phrase-byte b rest h more =
    either-made (is_atom_byte b) (is_white b || eqb b 46)
    (λ e. phrase_word {word = b ∷ []} {rest = rest} (atom_word (and_from (is_atom_byte b) true e refl)) more refl)
    (λ o. either-made (is_white b) (eqb b 46) (λ e. phrase_white {white = b ∷ []} {rest = rest} (white_byte e white_ends) more refl)
    (λ e. subst (λ c. IsPhraseRest (c ∷ rest)) (sym (eqb-true b 46 e)) (phrase_dot more)) o) h

inner-byte : (b : ℕ) (rest : List ℕ) → is_inner_byte b ≡ true → IsBetween 34 34 rest → IsBetween 34 34 (b ∷ rest)
inner-byte b rest h more =
    let both = and_parts (not (eqb b 34)) (not (eqb b 92)) h in
    let quote = eqb-false b 34 (not-true (eqb b 34) both.0) in
    plain_byte quote quote (eqb-false b 92 (not-true (eqb b 92) both.1)) more

module _ (white : List ℕ) (is : IsWhite white) where
  atom-name : (c : ℕ) (rest : List ℕ) → is_atom_byte c ≡ true → IsName (white ++ take (prefix_len is_phrase_byte (c ∷ rest)) (c ∷ rest))
  atom-name c rest h =
      let m : ℕ = prefix_len is_phrase_byte rest in
      let one : 1 + m ≡ suc m = omega arith in
      let goes : is_phrase_byte c ≡ true = ap (λ t. t || (is_white c || eqb c 46)) h in
      let len : prefix_len is_phrase_byte (c ∷ rest) ≡ suc m = cond-true (is_phrase_byte c) (1 + m) 0 goes ∙ one in
      subst (λ n. IsName (white ++ take n (c ∷ rest))) (sym len) (phrase (record {
        before = white;
        first = c ∷ [];
        rest = take m rest;
        white_before = is;
        is_first = atom_word (and_from (is_atom_byte c) true h refl);
        is_rest = prefix-has IsPhraseRest is_phrase_byte phrase_ends phrase-byte rest;
        made = refl;
      }))

  quoted-name : (rest : List ℕ) → IsName (white ++ take (quoted_len rest) (34 ∷ rest))
  unfolding quoted_len
  quoted-name rest =
      let n : ℕ = prefix_len is_inner_byte rest in
      let after : List ℕ = drop (suc n) rest in
      let k : ℕ = prefix_len is_white after in
      cond_both (begins (λ b. eqb b 34) (drop n rest)) (n + 2 + k) 0 (λ m. IsName (white ++ take m (34 ∷ rest)))
      (λ e. let two : n + 2 ≡ suc (suc n) = omega arith in
      phrase (record {
        before = white;
        first = 34 ∷ (take n rest ++ 34 ∷ []);
        rest = take k after;
        white_before = is;
        is_first = quoted_word (prefix-has (IsBetween 34 34) is_inner_byte no_bytes inner-byte rest) refl;
        is_rest = phrase_white {white = take k after} {rest = []} (white-taken after) phrase_ends (sym (append-nil (take k after)));
        made = ap (λ t. white ++ t) (take-add (n + 2) k (34 ∷ rest)
            ∙ ap (λ t. t ++ take k (drop (n + 2) (34 ∷ rest))) (cut-closed 34 34 n rest e)
            ∙ ap (λ m. (34 ∷ (take n rest ++ 34 ∷ [])) ++ take k (drop m (34 ∷ rest))) two);
      }))
      (λ e. subst IsName (sym (append-nil white)) (no_name is))

  word-name : (bytes : List ℕ) → IsName (white ++ take (word_name_len bytes) bytes)
  word-name [] = subst IsName (sym (append-nil white)) (no_name is)
  word-name (c ∷ rest) =
      cond_both (is_atom_byte c) (prefix_len is_phrase_byte (c ∷ rest)) (cond (eqb c 34) (quoted_len rest) 0) (λ n. IsName (white ++ take n (c ∷ rest)))
      (λ e. atom-name c rest e)
      (λ e. cond_both (eqb c 34) (quoted_len rest) 0 (λ n. IsName (white ++ take n (c ∷ rest)))
      (λ q. subst (λ b. IsName (white ++ take (quoted_len rest) (b ∷ rest))) (sym (eqb-true c 34 q)) (quoted-name rest))
      (λ q. subst IsName (sym (append-nil white)) (no_name is)))

plain_name-is : (bytes : List ℕ) → IsName (take (plain_name_len bytes) bytes)
unfolding plain_name_len
plain_name-is bytes =
    let white : ℕ = prefix_len is_white bytes in
    subst IsName (sym (take-add white (word_name_len (drop white bytes)) bytes)) (word-name (take white bytes) (white-taken bytes) (drop white bytes))

-- ---- mailboxes at the front

-- the bytes after an offset, as the code has them
pub slice_rest : (bytes : List ℕ) (n : ℕ) → take (length bytes - (n + 1)) (drop (n + 1) bytes) ≡ drop (suc n) bytes
slice_rest bytes n = let next : n + 1 ≡ suc n = omega arith in take_rest bytes (n + 1) ∙ ap (λ k. drop k bytes) next

drop-sum : (m n : ℕ) (bytes : List ℕ) → drop (m + n) bytes ≡ drop n (drop m bytes)
drop-sum m n bytes = sym (drop-drop n m bytes)

-- a local part and a domain, which are dot-atoms, with an `@` between them
pub named-front : (bytes : List ℕ) (name local domain : ℕ) (inner host : List ℕ) → name ≡ plain_name_len bytes → inner ≡ drop (suc name) bytes → host ≡ drop (suc local) inner
    → local ≡ dot_atom_len inner → local ≢ 0 → domain ≡ dot_atom_len host → domain ≢ 0
    → begins (λ b. eqb b 60) (drop name bytes) ≡ true → begins (λ b. eqb b 64) (drop local inner) ≡ true → begins (λ b. eqb b 62) (drop domain host) ≡ true
    → are_clean (take local inner) (take domain host) ≡ true → (white : ℕ) → white ≡ prefix_len is_white (drop (suc domain) host)
    → IsFront bytes (record { display_name = take name bytes; local_part = take local inner; domain = take domain host }) (name + local + domain + white + 3)
named-front bytes name local domain inner host is_name is_inner is_host is_local some_local is_domain some_domain opening at closing clean white white_is =
    record {
      within = fits;
      is = named_address {name = take name bytes} {may_be_route = []} {local = take local inner} {domain = take domain host} {after = take white (drop (suc domain) host)}
          (subst (λ n. IsName (take n bytes)) (sym is_name) (plain_name-is bytes)) no_route
          (any-dotted (as_atoms local inner is_local some_local)) (dotted (as_atoms domain host is_domain some_domain)) clean
          (subst (λ n. IsWhite (take n (drop (suc domain) host))) (sym white_is) (white-taken (drop (suc domain) host))) made;
    }
  where
    fits : name + local + domain + white + 3 ≤ length bytes
    fits =
        let one = begins-within (λ b. eqb b 60) name bytes opening in
        let two = begins-within (λ b. eqb b 64) local inner at in
        let three = begins-within (λ b. eqb b 62) domain host closing in
        let inner_len = ap length is_inner ∙ length-drop (suc name) bytes in
        let host_len = ap length is_host ∙ length-drop (suc local) inner in
        let rest_len = length-drop (suc domain) host in
        let white_len = prefix_len-le-length is_white (drop (suc domain) host) in
        omega (arith, one, two, three, inner_len, host_len, rest_len, white_len, white_is)

    as_atoms : (n : ℕ) (rest : List ℕ) → n ≡ dot_atom_len rest → n ≢ 0 → AreDotted atoms (take n rest)
    as_atoms n rest is some =
        subst (λ m. AreDotted atoms (take m rest)) (sym is)
        (subst (AreDotted atoms) (append-nil (take (dot_atom_len rest) rest)) (dot_atom-is [] white_ends [] white_ends rest (λ e. some (is ∙ e))))

    made : take (name + local + domain + white + 3) bytes
        ≡ take name bytes ++ 60 ∷ (([] ++ (take local inner ++ 64 ∷ take domain host)) ++ 62 ∷ take white (drop (suc domain) host))
    made =
        let sum : name + local + domain + white + 3 ≡ suc name + (suc local + (suc domain + white)) = omega arith in
        ap (λ n. take n bytes) sum
        ∙ cut-more 60 name (suc local + (suc domain + white)) bytes opening
        ∙ ap (λ i. take name bytes ++ 60 ∷ take (suc local + (suc domain + white)) i) (sym is_inner)
        ∙ ap (λ t. take name bytes ++ 60 ∷ t)
        (cut-more 64 local (suc domain + white) inner at
        ∙ ap (λ i. take local inner ++ 64 ∷ take (suc domain + white) i) (sym is_host)
        ∙ ap (λ t. take local inner ++ 64 ∷ t) (cut-more 62 domain white host closing)
        ∙ sym (append_assoc (take local inner) (64 ∷ take domain host) (62 ∷ take white (drop (suc domain) host))))

-- the same without a name, and with whitespace around the address
pub address-front : (bytes : List ℕ) (white local domain after : ℕ) (start host : List ℕ) → white ≡ prefix_len is_white bytes → start ≡ drop white bytes → host ≡ drop (suc local) start
    → local ≡ dot_atom_len start → local ≢ 0 → domain ≡ dot_atom_len host → domain ≢ 0 → begins (λ b. eqb b 64) (drop local start) ≡ true
    → after ≡ prefix_len is_white (drop domain host)
    → are_clean (take (white + local) bytes) (take (domain + after) host) ≡ true → domain ≤ length host
    → IsFront bytes (record { display_name = []; local_part = take (white + local) bytes; domain = take (domain + after) host }) (white + local + 1 + (domain + after))
address-front bytes white local domain after start host white_is is_start is_host is_local some_local is_domain some_domain at is_after clean in_host =
    record { within = fits; is = address {local = take (white + local) bytes} {domain = take (domain + after) host} (any-dotted local-is) (dotted domain-is) clean made }
  where
    fits : white + local + 1 + (domain + after) ≤ length bytes
    fits =
        let two = begins-within (λ b. eqb b 64) local start at in
        let start_len = ap length is_start ∙ length-drop white bytes in
        let host_len = ap length is_host ∙ length-drop (suc local) start in
        let rest_len = length-drop domain host in
        let white_len = prefix_len-le-length is_white (drop domain host) in
        omega (arith, two, start_len, host_len, rest_len, white_len, is_after, in_host)

    local-is : AreDotted atoms (take (white + local) bytes)
    local-is =
        subst (AreDotted atoms) (sym (take-add white local bytes ∙ ap (λ s. take white bytes ++ take local s) (sym is_start)))
        (subst (λ n. AreDotted atoms (take white bytes ++ take n start)) (sym is_local)
        (subst (λ t. AreDotted atoms (take white bytes ++ t)) (append-nil (take (dot_atom_len start) start))
        (dot_atom-is [] white_ends (take white bytes) (subst (λ n. IsWhite (take n bytes)) (sym white_is) (white-taken bytes)) start (λ e. some_local (is_local ∙ e)))))

    domain-is : AreDotted atoms (take (domain + after) host)
    domain-is =
        subst (AreDotted atoms) (sym (take-add domain after host))
        (subst (λ n. AreDotted atoms (take n host ++ take after (drop domain host))) (sym is_domain)
        (dot_atom-is (take after (drop domain host)) (subst (λ n. IsWhite (take n (drop domain host))) (sym is_after) (white-taken (drop domain host))) [] white_ends host
        (λ e. some_domain (is_domain ∙ e))))

    made : take (white + local + 1 + (domain + after)) bytes ≡ take (white + local) bytes ++ 64 ∷ take (domain + after) host
    made =
        let sum : white + local + 1 + (domain + after) ≡ suc (white + local) + (domain + after) = omega arith in
        let there : drop (white + local) bytes ≡ drop local start = drop-sum white local bytes ∙ ap (drop local) (sym is_start) in
        let shift : suc (white + local) ≡ white + suc local = omega arith in
        let past : drop (suc (white + local)) bytes ≡ host =
        ap (λ n. drop n bytes) shift ∙ drop-sum white (suc local) bytes ∙ ap (drop (suc local)) (sym is_start) ∙ sym is_host in
        ap (λ n. take n bytes) sum
        ∙ cut-more 64 (white + local) (domain + after) bytes (ap (begins (λ b. eqb b 64)) there ∙ at)
        ∙ ap (λ h. take (white + local) bytes ++ 64 ∷ take (domain + after) h) past

-- ---- elements

-- nothing, a comma or a semicolon ends an element
element-end : (bytes : List ℕ) → ends_at is_separator bytes ≡ true → (left : List ℕ) × IsElementEnd bytes left
element-end [] h = ([], ends at_end)
element-end (b ∷ rest) h = (
  rest,
  either-made (eqb b 44) (eqb b 59) (λ e. subst (λ c. IsElementEnd (c ∷ rest) rest) (sym (eqb-true b 44 e)) (ends (at_comma rest)))
      (λ e. subst (λ c. IsElementEnd (c ∷ rest) rest) (sym (eqb-true b 59 e)) (at_semicolon rest)) h,
)

member-end : (bytes : List ℕ) → ends_at (λ b. eqb b 44) bytes ≡ true → (left : List ℕ) × IsEnd bytes left
member-end [] h = ([], at_end)
member-end (b ∷ rest) h = (rest, subst (λ c. IsEnd (c ∷ rest) rest) (sym (eqb-true b 44 h)) (at_comma rest))

module _ (bytes : List ℕ) (m : Parts) (len : ℕ) (front : IsFront bytes m len) where
  cut : take len bytes ++ drop len bytes ≡ bytes
  cut = take-append-drop len bytes

  text-len : length (take len bytes) ≡ len
  text-len =
      let all = sym (length-append (take len bytes) (drop len bytes)) ∙ ap length cut in
      let left = length-drop len bytes in
      let within = front.within in
      omega (arith, all, left, within)

  least : min (suc (length (take len bytes))) (length (take len bytes ++ drop len bytes)) ≡ min (suc len) (length bytes)
  least = ap (λ n. min (suc n) (length (take len bytes ++ drop len bytes))) text-len ∙ ap (λ b. min (suc len) (length b)) cut

  -- the mailbox is the element at the front
  plain_element : ends_at is_separator (drop len bytes) ≡ true → (start : ℕ) (s : Single) → s ≡ as_single start (take len bytes) (Some m) → IsElement start bytes s len
  plain_element h start s same =
      let end = element-end (drop len bytes) h in
      record {
        within = front.within;
        at =
            ap (element_at start) (sym cut) ∙ element-is (take len bytes) (drop len bytes) end.0 end.1 (λ span crosses. mailbox-passed crosses front.is) (mailbox-not_white front.is)
            (Some m) (mailbox-read (take len bytes) m front.is) start ∙ ap (λ t. single t ∷ []) (sym same);
        len_is =
            ap element_len (sym cut) ∙ element_len-is (take len bytes) (drop len bytes) end.0 end.1 (λ span crosses. mailbox-passed crosses front.is) (mailbox-not_white front.is)
            (Some m) (mailbox-read (take len bytes) m front.is) ∙ least;
      }

  -- the mailbox is the member at the front
  plain_member : ends_at (λ b. eqb b 44) (drop len bytes) ≡ true → (start : ℕ) (s : Single) → s ≡ as_single start (take len bytes) (Some m) → IsMember start bytes s len
  plain_member h start s same =
      let end = member-end (drop len bytes) h in
      record {
        within = front.within;
        at =
            ap (member_at start) (sym cut) ∙ member-is (take len bytes) (drop len bytes) end.0 end.1 (λ span crosses. mailbox-passed crosses front.is) (mailbox-not_white front.is)
            (Some m) (mailbox-read (take len bytes) m front.is) start ∙ ap (λ (t : Single). t ∷ []) (sym same);
        len_is =
            ap member_len (sym cut) ∙ member_len-is (take len bytes) (drop len bytes) end.0 end.1 (λ span crosses. mailbox-passed crosses front.is) (mailbox-not_white front.is)
            (Some m) (mailbox-read (take len bytes) m front.is) ∙ least;
      }

  -- either, by what ends it
  pub plain_single : (level : Level) → ends_at (separates level) (drop len bytes) ≡ true → (start : ℕ) (s : Single) → s ≡ as_single start (take len bytes) (Some m)
      → IsSingle level start bytes s len
  plain_single levels.List h start s same = plain_element h start s same
  plain_single levels.Group h start s same = plain_member h start s same
