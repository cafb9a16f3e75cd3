-- Values are senders that all programs read alike exactly if they are of the grammar of strict messages.
use Rattle.std.proofs.Common.{◌≡◌, ◌∙◌, ℕ, Bool, true, false, not, cond, List, [], ◌∷◌, ◌++◌, refl, sym, ap, subst, inl, inr, arith, append_assoc}
use Rattle.std.specs.Prelude.{◌⊎◌, ◌↔◌, ◌||◌, ◌==◌, nat_lt, codes}
use Rattle.std.specs.Char.{is_ascii_alphanumeric}
use Rattle.std.specs.List.{list_all}
use Rattle.std.proofs.lemmas.Bool.{cases_lt, eqb-true, le-ltb, lt-ltb, or_left, or_right}
use Rattle.std.proofs.lemmas.Bool.{and_from, and_left, and_parts, and_right, cases_Bool, not-false, not-true, not_from_false, or_from}
use Rattle.std.proofs.lemmas.List.{append-nil}
use Rattle.mail_codec.specs.Ascii.{backslash, carriage_return, greater_than, is_blank, less_than, line_feed, quote, space, tab, tilde}
use Rattle.mail_check.specs.Bytes.{is_control}
use Rattle.mail_check.specs.Lines.{HeaderLine, is_named, is_visible}
use Rattle.mail_check.specs.Senders.{after_gap, after_hyphen, after_sender_byte, after_sender_bytes, after_word, at_sign, full_stop, hyphen, is_address_end, is_atom, is_bad_sender, is_plain_sender, is_printable}
use Rattle.mail_check.specs.declared.senders.SenderState.{SenderState}
use Rattle.mail_check.specs.declared.senders.SenderState.TheVariants.{Front, FrontReturn, FrontFeed, FrontFold, Atom, Dot, Word, Gap, GapReturn, GapFeed, GapFold, Quoted, Escaped, LocalStart, Local, DomainStart, Label, Hyphen, BareStart, BareLabel, BareHyphen, End, Wrong}
use Rattle.mail_grammar.specs.Parameters.{IsGap, no_gap, gap_blank, gap_fold, IsQuotedText, end_quote, text_byte, quoted_pair}
use Rattle.mail_check_laws.specs.Senders.{is_later_character, IsLocalPart, last_of_local, local_more, local_dot, IsDomain, last_of_domain, domain_more, domain_dot}
use Rattle.mail_check_laws.specs.Senders.{IsAddress, IsNamedAddress, address_in_brackets, word_before, quoted_before, IsSenderValue}
use Rattle.mail_check_laws.proofs.lemmas.Fields.{below_true, blanks}
use Rattle.mail_check.proofs.lemmas.Booleans.{second_false}
use Rattle.mail_grammar.proofs.lemmas.Boundaries.{all_head, all_tail}

-- ---- what is so of the bytes after a state from which they lead to the end

-- a domain, and then this end
record DomainThen (end bytes : List ℕ) : Type 0 where
  domain : List ℕ
  is : IsDomain domain
  made : bytes ≡ domain ++ end

-- hyphens, and then a domain and this end
record HyphensThen (end bytes : List ℕ) : Type 0 where
  hyphens : List ℕ
  domain : List ℕ
  all : list_all (λ c. c == hyphen) hyphens ≡ true
  is : IsDomain domain
  made : bytes ≡ hyphens ++ (domain ++ end)

-- the rest of a label
abbrev LabelThen : List ℕ → List ℕ → Type 0
LabelThen end bytes = (b : ℕ) → is_ascii_alphanumeric b ≡ true → DomainThen end (b ∷ bytes)

-- an address, and then this end
record AddressThen (end bytes : List ℕ) : Type 0 where
  local : List ℕ
  domain : List ℕ
  is_local : IsLocalPart local
  is_domain : IsDomain domain
  made : bytes ≡ local ++ (at_sign ∷ (domain ++ end))

-- the rest of an atom of its local part
abbrev LocalThen : List ℕ → List ℕ → Type 0
LocalThen end bytes = (b : ℕ) → is_atom b ≡ true → AddressThen end (b ∷ bytes)

-- a sender, which may be an address by itself or not
abbrev SenderThen : Bool → List ℕ → Type 0
SenderThen true bytes = IsAddress bytes ⊎ IsNamedAddress bytes
SenderThen false bytes = IsNamedAddress bytes

-- blanks with at most one fold, and a sender
record GapThen (bare : Bool) (bytes : List ℕ) : Type 0 where
  gap : List ℕ
  rest : List ℕ
  is : IsGap gap
  sender : SenderThen bare rest
  made : bytes ≡ gap ++ rest

-- blanks, and a sender
record BlanksThen (bare : Bool) (bytes : List ℕ) : Type 0 where
  blanks : List ℕ
  rest : List ℕ
  all : list_all is_blank blanks ≡ true
  sender : SenderThen bare rest
  made : bytes ≡ blanks ++ rest

-- a blank after a LF, and then these
record FoldThen (bare : Bool) (bytes : List ℕ) : Type 0 where
  b : ℕ
  left : List ℕ
  is : is_blank b ≡ true
  next : BlanksThen bare left
  made : bytes ≡ b ∷ left

record FeedThen (bare : Bool) (bytes : List ℕ) : Type 0 where
  left : List ℕ
  next : FoldThen bare left
  made : bytes ≡ line_feed ∷ left

-- the rest of a word, and what follows it
record WordThen (bytes : List ℕ) : Type 0 where
  others : List ℕ
  left : List ℕ
  all : list_all is_later_character others ≡ true
  next : GapThen false left
  made : bytes ≡ others ++ left

-- a text up to its closing quote, and what follows it
record QuoteThen (bytes : List ℕ) : Type 0 where
  text : List ℕ
  left : List ℕ
  quoted : IsQuotedText text
  next : GapThen false left
  made : bytes ≡ text ++ left

-- a byte after a backslash, and then such a text
record EscapeThen (bytes : List ℕ) : Type 0 where
  b : ℕ
  left : List ℕ
  printable : is_printable b ≡ true
  next : QuoteThen left
  made : bytes ≡ b ∷ left

abbrev closing : List ℕ
closing = greater_than ∷ []

abbrev LeadsOn : SenderState → List ℕ → Type 0
LeadsOn Front bytes = GapThen true bytes
LeadsOn FrontReturn bytes = FeedThen true bytes
LeadsOn FrontFeed bytes = FoldThen true bytes
LeadsOn FrontFold bytes = BlanksThen true bytes
LeadsOn Atom bytes = LocalThen [] bytes ⊎ WordThen bytes
LeadsOn Dot bytes = AddressThen [] bytes ⊎ WordThen bytes
LeadsOn Word bytes = WordThen bytes
LeadsOn Gap bytes = GapThen false bytes
LeadsOn GapReturn bytes = FeedThen false bytes
LeadsOn GapFeed bytes = FoldThen false bytes
LeadsOn GapFold bytes = BlanksThen false bytes
LeadsOn Quoted bytes = QuoteThen bytes
LeadsOn Escaped bytes = EscapeThen bytes
LeadsOn LocalStart bytes = AddressThen closing bytes
LeadsOn Local bytes = LocalThen closing bytes
LeadsOn DomainStart bytes = DomainThen closing bytes
LeadsOn Label bytes = LabelThen closing bytes
LeadsOn Hyphen bytes = HyphensThen closing bytes
LeadsOn BareStart bytes = DomainThen [] bytes
LeadsOn BareLabel bytes = LabelThen [] bytes
LeadsOn BareHyphen bytes = HyphensThen [] bytes
LeadsOn End bytes = bytes ≡ []
LeadsOn Wrong bytes = ⊥

-- ---- printable characters

printable_pair : (b : ℕ) → is_printable b ≡ true → (b == space || is_visible b) ≡ true
printable_pair b h =
    let both = and_parts (not (nat_lt b space)) (not (nat_lt tilde b)) h in
    elim (cases_lt space b) [
      | inl l ↦ or_right (b == space) (is_visible b) (and_from (nat_lt space b) _ (lt-ltb space b l) both.1)
      | inr g ↦ elim (cases_lt b space) [
        | inl l ↦ let no = lt-ltb b space l in let yes = not-true (nat_lt b space) both.0 in absurd (cc)
        | inr f ↦
            let same : b ≡ space = omega (arith, g, f) in
            subst (λ (x : ℕ). (x == space || is_visible x) ≡ true) (sym same) refl
      ]
    ]

pair_printable : (b : ℕ) → (b == space || is_visible b) ≡ true → is_printable b ≡ true
pair_printable b h = elim (cases_Bool (b == space)) [
  | inl e ↦ subst (λ (x : ℕ). is_printable x ≡ true) (sym (eqb-true b space e)) refl
  | inr e ↦
      let both = and_parts (nat_lt space b) (not (nat_lt tilde b)) (last (b == space) (is_visible b) e h) in
      let low = below_true space b both.0 in
      and_from (not (nat_lt b space)) _ (not_from_false (nat_lt b space) (le-ltb b space (omega (arith, low)))) both.1
]
  where
    last : (s t : Bool) → s ≡ false → (s || t) ≡ true → t ≡ true
    last false t e h = h
    last true t e h = absurd (cc)

-- ---- one byte

module _ (b : ℕ) (rest : List ℕ) where
  only : (t : Bool) (so : SenderState) → LeadsOn (cond t so Wrong) rest → (t ≡ true) × LeadsOn so rest
  only true so h = (refl, h)
  only false so h = absurd h

  -- by a test that is the first of a state
  choose : (G : Type 0) (t : Bool) (so not_so : SenderState) → (t ≡ true → LeadsOn so rest → G)
      → (t ≡ false → LeadsOn not_so rest → G)
      → LeadsOn (cond t so not_so) rest → G
  choose G true so not_so f g h = f refl h
  choose G false so not_so f g h = g refl h

  -- domains
  module _ (end : List ℕ) where
    label_dot : (b == full_stop) ≡ true → DomainThen end rest → LabelThen end (b ∷ rest)
    label_dot e h = λ c f. record {
      domain = c ∷ (b ∷ h.domain);
      is = domain_dot f h.is (ap (λ (x : ℕ). c ∷ (x ∷ h.domain)) (eqb-true b full_stop e));
      made = ap (λ (xs : List ℕ). c ∷ (b ∷ xs)) h.made;
    }

    label_letter : is_ascii_alphanumeric b ≡ true → LabelThen end rest → LabelThen end (b ∷ rest)
    label_letter e h = λ c f.
        let more : DomainThen end (b ∷ rest) = h b e in
        record {
          domain = c ∷ more.domain;
          is = domain_more [] f refl more.is refl;
          made = ap (λ (xs : List ℕ). c ∷ xs) more.made;
        }

    label_hyphen : (b == hyphen) ≡ true → HyphensThen end rest → LabelThen end (b ∷ rest)
    label_hyphen e h = λ c f. record {
      domain = c ∷ ((b ∷ h.hyphens) ++ h.domain);
      is = domain_more (b ∷ h.hyphens) f (and_from (b == hyphen) _ e h.all) h.is refl;
      made = ap (λ (xs : List ℕ). c ∷ (b ∷ xs)) (h.made ∙ sym (append_assoc h.hyphens h.domain end));
    }

    hyphens_letter : is_ascii_alphanumeric b ≡ true → LabelThen end rest → HyphensThen end (b ∷ rest)
    hyphens_letter e h =
        let more : DomainThen end (b ∷ rest) = h b e in
        record { hyphens = []; domain = more.domain; all = refl; is = more.is; made = more.made }

    hyphens_more : (b == hyphen) ≡ true → HyphensThen end rest → HyphensThen end (b ∷ rest)
    hyphens_more e h = record {
      hyphens = b ∷ h.hyphens;
      domain = h.domain;
      all = and_from (b == hyphen) _ e h.all;
      is = h.is;
      made = ap (λ (xs : List ℕ). b ∷ xs) h.made;
    }

    -- with the states of a label and of its hyphens
    module _ (label hyphens : SenderState) (of_label : LeadsOn label rest → LabelThen end rest)
        (of_hyphens : LeadsOn hyphens rest → HyphensThen end rest) where
      in_label : LeadsOn (after_hyphen label hyphens b) rest → LabelThen end (b ∷ rest)
      in_label h =
          choose (LabelThen end (b ∷ rest)) (is_ascii_alphanumeric b) label (cond (b == hyphen) hyphens Wrong)
          (λ e x. label_letter e (of_label x))
          (λ e x. let y = only (b == hyphen) hyphens x in label_hyphen y.0 (of_hyphens y.1)) h

      in_hyphens : LeadsOn (after_hyphen label hyphens b) rest → HyphensThen end (b ∷ rest)
      in_hyphens h =
          choose (HyphensThen end (b ∷ rest)) (is_ascii_alphanumeric b) label (cond (b == hyphen) hyphens Wrong)
          (λ e x. hyphens_letter e (of_label x))
          (λ e x. let y = only (b == hyphen) hyphens x in hyphens_more y.0 (of_hyphens y.1)) h

    -- local parts
    local_dotted : (b == full_stop) ≡ true → AddressThen end rest → LocalThen end (b ∷ rest)
    local_dotted e h = λ c f. record {
      local = c ∷ (b ∷ h.local);
      domain = h.domain;
      is_local = local_dot f h.is_local (ap (λ (x : ℕ). c ∷ (x ∷ h.local)) (eqb-true b full_stop e));
      is_domain = h.is_domain;
      made = ap (λ (xs : List ℕ). c ∷ (b ∷ xs)) h.made;
    }

    local_longer : is_atom b ≡ true → LocalThen end rest → LocalThen end (b ∷ rest)
    local_longer e h = λ c f.
        let more : AddressThen end (b ∷ rest) = h b e in
        record {
          local = c ∷ more.local;
          domain = more.domain;
          is_local = local_more f more.is_local;
          is_domain = more.is_domain;
          made = ap (λ (xs : List ℕ). c ∷ xs) more.made;
        }

    local_ends : (b == at_sign) ≡ true → DomainThen end rest → LocalThen end (b ∷ rest)
    local_ends e h = λ c f. record {
      local = c ∷ [];
      domain = h.domain;
      is_local = last_of_local f;
      is_domain = h.is;
      made =
          ap (λ (x : ℕ). c ∷ (x ∷ rest)) (eqb-true b at_sign e) ∙ ap (λ (xs : List ℕ). c ∷ (at_sign ∷ xs)) h.made;
    }

  -- the first of the bytes after a gap
  word_of : is_atom b ≡ true → WordThen rest → IsNamedAddress (b ∷ rest)
  word_of e h =
      let next = h.next in
      word_before h.others e h.all next.is next.sender
      (ap (λ (xs : List ℕ). b ∷ xs) (h.made ∙ ap (λ (xs : List ℕ). h.others ++ xs) next.made))

  quoted_of : (b == quote) ≡ true → QuoteThen rest → IsNamedAddress (b ∷ rest)
  quoted_of e h =
      let next = h.next in
      quoted_before h.quoted next.is next.sender
      (ap (λ (y : ℕ). y ∷ rest) (eqb-true b quote e)
      ∙ ap (λ (xs : List ℕ). quote ∷ xs) (h.made ∙ ap (λ (xs : List ℕ). h.text ++ xs) next.made))

  bracket_of : (b == less_than) ≡ true → AddressThen closing rest → IsNamedAddress (b ∷ rest)
  bracket_of e h =
      address_in_brackets
      (record { local = h.local; domain = h.domain; is_local = h.is_local; is_domain = h.is_domain; made = refl })
      (ap (λ (y : ℕ). y ∷ rest) (eqb-true b less_than e)
      ∙ ap (λ (xs : List ℕ). less_than ∷ xs) (h.made ∙ sym (append_assoc h.local (at_sign ∷ h.domain) closing)))

  address_of : AddressThen [] (b ∷ rest) → IsAddress (b ∷ rest)
  address_of h = record {
    local = h.local;
    domain = h.domain;
    is_local = h.is_local;
    is_domain = h.is_domain;
    made = h.made ∙ ap (λ (xs : List ℕ). h.local ++ (at_sign ∷ xs)) (append-nil h.domain);
  }

  named : (bare : Bool) → IsNamedAddress (b ∷ rest) → SenderThen bare (b ∷ rest)
  named true h = inr h
  named false h = h

  -- what may begin an address by itself
  atom_of : is_atom b ≡ true → LeadsOn Atom rest → SenderThen true (b ∷ rest)
  atom_of e (inl h) = inl (address_of (h b e))
  atom_of e (inr h) = inr (word_of e h)

  sender_step : (bare : Bool) (word : SenderState) → (is_atom b ≡ true → LeadsOn word rest → SenderThen bare (b ∷ rest))
      → LeadsOn (after_gap word b) rest → SenderThen bare (b ∷ rest)
  sender_step bare word by_word h =
      choose (SenderThen bare (b ∷ rest)) (is_atom b) word (cond (b == quote) Quoted (cond (b == less_than) LocalStart Wrong))
      by_word
      (λ e x. choose (SenderThen bare (b ∷ rest)) (b == quote) Quoted (cond (b == less_than) LocalStart Wrong)
      (λ f y. named bare (quoted_of f y))
      (λ f y. let z = only (b == less_than) LocalStart y in named bare (bracket_of z.0 z.1)) x) h

  fold_step : (bare : Bool) (fold word : SenderState) → (LeadsOn fold rest → BlanksThen bare rest)
      → (is_atom b ≡ true → LeadsOn word rest → SenderThen bare (b ∷ rest))
      → LeadsOn (cond (is_blank b) fold (after_gap word b)) rest → BlanksThen bare (b ∷ rest)
  fold_step bare fold word of_fold by_word h =
      choose (BlanksThen bare (b ∷ rest)) (is_blank b) fold (after_gap word b)
      (λ e x.
      let more : BlanksThen bare rest = of_fold x in
      record {
        blanks = b ∷ more.blanks;
        rest = more.rest;
        all = and_from (is_blank b) _ e more.all;
        sender = more.sender;
        made = ap (λ (xs : List ℕ). b ∷ xs) more.made;
      })
      (λ e x. record { blanks = []; rest = b ∷ rest; all = refl; sender = sender_step bare word by_word x; made = refl }) h

  folded : (bare : Bool) (line : List ℕ) → (line ≡ codes "\n") ⊎ (line ≡ codes "\r\n") → (xs : List ℕ) → FoldThen bare xs
      → b ∷ rest ≡ line ++ xs
      → GapThen bare (b ∷ rest)
  folded bare line is xs fold made =
      let more = fold.next in
      record {
        gap = line ++ (fold.b ∷ more.blanks);
        rest = more.rest;
        is = gap_fold fold.b more.blanks is (and_from (is_blank fold.b) _ fold.is more.all) refl;
        sender = more.sender;
        made =
            made ∙ ap (λ (ys : List ℕ). line ++ ys) (fold.made ∙ ap (λ (ys : List ℕ). fold.b ∷ ys) more.made)
            ∙ sym (append_assoc line (fold.b ∷ more.blanks) more.rest);
      }

  -- blanks, a line end, or what may begin after them
  gap_step : (bare : Bool) (blank feed return word : SenderState) → (LeadsOn blank rest → GapThen bare rest)
      → (LeadsOn feed rest → FoldThen bare rest) → (LeadsOn return rest → FeedThen bare rest)
      → (is_atom b ≡ true → LeadsOn word rest → SenderThen bare (b ∷ rest))
      → LeadsOn (cond (is_blank b) blank (cond (b == line_feed) feed (cond (b == carriage_return) return (after_gap word b))))
      rest → GapThen bare (b ∷ rest)
  gap_step bare blank feed return word of_blank of_feed of_return by_word h =
      choose (GapThen bare (b ∷ rest)) (is_blank b) blank
      (cond (b == line_feed) feed (cond (b == carriage_return) return (after_gap word b))) by_blank
      (λ e x. choose (GapThen bare (b ∷ rest)) (b == line_feed) feed (cond (b == carriage_return) return (after_gap word b))
      (λ f y. folded bare (codes "\n") (inl refl) rest (of_feed y) (ap (λ (z : ℕ). z ∷ rest) (eqb-true b line_feed f)))
      (λ f y. choose (GapThen bare (b ∷ rest)) (b == carriage_return) return (after_gap word b) by_return
      (λ g z. record { gap = []; rest = b ∷ rest; is = no_gap; sender = sender_step bare word by_word z; made = refl }) y) x) h
    where
      by_blank : is_blank b ≡ true → LeadsOn blank rest → GapThen bare (b ∷ rest)
      by_blank e x =
          let more : GapThen bare rest = of_blank x in
          record {
            gap = b ∷ more.gap;
            rest = more.rest;
            is = gap_blank e more.is;
            sender = more.sender;
            made = ap (λ (xs : List ℕ). b ∷ xs) more.made;
          }

      by_return : (b == carriage_return) ≡ true → LeadsOn return rest → GapThen bare (b ∷ rest)
      by_return g z =
          let feed : FeedThen bare rest = of_return z in
          folded bare (codes "\r\n") (inr refl) feed.left feed.next
          (ap (λ (y : ℕ). y ∷ rest) (eqb-true b carriage_return g) ∙ ap (λ (xs : List ℕ). carriage_return ∷ xs) feed.made)

  -- after a word, a text in quotes or a gap
  next_step : LeadsOn (after_word b) rest → GapThen false (b ∷ rest)
  next_step h = gap_step false Gap GapFeed GapReturn Word (λ x. x) (λ x. x) (λ x. x) word_of h

  word_ends : LeadsOn (after_word b) rest → WordThen (b ∷ rest)
  word_ends h = record { others = []; left = b ∷ rest; all = refl; next = next_step h; made = refl }

  word_longer : is_later_character b ≡ true → WordThen rest → WordThen (b ∷ rest)
  word_longer e h = record {
    others = b ∷ h.others;
    left = h.left;
    all = and_from (is_later_character b) _ e h.all;
    next = h.next;
    made = ap (λ (xs : List ℕ). b ∷ xs) h.made;
  }

  by_dot : (b == full_stop) ≡ true → WordThen rest → WordThen (b ∷ rest)
  by_dot e h = word_longer (or_left (b == full_stop) (is_atom b) e) h

  by_atom : is_atom b ≡ true → WordThen rest → WordThen (b ∷ rest)
  by_atom e h = word_longer (or_right (b == full_stop) (is_atom b) e) h

  word_step : LeadsOn (cond (b == full_stop) Word (after_word b)) rest → WordThen (b ∷ rest)
  word_step h = choose (WordThen (b ∷ rest)) (b == full_stop) Word (after_word b) by_dot (λ e x. word_ends x) h

  -- in the first word, which may be an address
  atom_step : LeadsOn (after_sender_byte Atom b) rest → LeadsOn Atom (b ∷ rest)
  atom_step h =
      choose (LeadsOn Atom (b ∷ rest)) (b == full_stop) Dot (cond (b == at_sign) BareStart (cond (is_atom b) Atom (after_word b)))
      dotted
      (λ e x. choose (LeadsOn Atom (b ∷ rest)) (b == at_sign) BareStart (cond (is_atom b) Atom (after_word b))
      (λ f y. inl (local_ends [] f y))
      (λ f y. choose (LeadsOn Atom (b ∷ rest)) (is_atom b) Atom (after_word b) longer (λ g z. inr (word_ends z)) y) x) h
    where
      dotted : (b == full_stop) ≡ true → LeadsOn Dot rest → LeadsOn Atom (b ∷ rest)
      dotted e (inl h) = inl (local_dotted [] e h)
      dotted e (inr h) = inr (by_dot e h)

      longer : is_atom b ≡ true → LeadsOn Atom rest → LeadsOn Atom (b ∷ rest)
      longer e (inl h) = inl (local_longer [] e h)
      longer e (inr h) = inr (by_atom e h)

  dot_step : LeadsOn (after_sender_byte Dot b) rest → LeadsOn Dot (b ∷ rest)
  dot_step h =
      choose (LeadsOn Dot (b ∷ rest)) (b == full_stop) Word (cond (is_atom b) Atom (after_word b)) (λ e x. inr (by_dot e x))
      (λ e x. choose (LeadsOn Dot (b ∷ rest)) (is_atom b) Atom (after_word b) longer (λ f y. inr (word_ends y)) x) h
    where
      longer : is_atom b ≡ true → LeadsOn Atom rest → LeadsOn Dot (b ∷ rest)
      longer e (inl h) = inl (h b e)
      longer e (inr h) = inr (by_atom e h)

  -- in quotes
  quote_step : LeadsOn (after_sender_byte Quoted b) rest → QuoteThen (b ∷ rest)
  quote_step h =
      choose (QuoteThen (b ∷ rest)) (b == quote) Gap (cond (b == backslash) Escaped (cond (is_control b) Wrong Quoted))
      (λ e x. record {
        text = quote ∷ [];
        left = rest;
        quoted = end_quote;
        next = x;
        made = ap (λ (y : ℕ). y ∷ rest) (eqb-true b quote e);
      })
      (λ e x. choose (QuoteThen (b ∷ rest)) (b == backslash) Escaped (cond (is_control b) Wrong Quoted) escaped
      (λ f y. choose (QuoteThen (b ∷ rest)) (is_control b) Wrong Quoted (λ g z. absurd z) (plain e f) y) x) h
    where
      plain : (b == quote) ≡ false → (b == backslash) ≡ false → is_control b ≡ false → QuoteThen rest → QuoteThen (b ∷ rest)
      plain e f g more = record {
        text = b ∷ more.text;
        left = more.left;
        quoted = text_byte e f g more.quoted;
        next = more.next;
        made = ap (λ (xs : List ℕ). b ∷ xs) more.made;
      }

      escaped : (b == backslash) ≡ true → EscapeThen rest → QuoteThen (b ∷ rest)
      escaped f escape =
          let next = escape.next in
          record {
            text = b ∷ (escape.b ∷ next.text);
            left = next.left;
            quoted =
                quoted_pair (printable_pair escape.b escape.printable) next.quoted
                (ap (λ (y : ℕ). y ∷ (escape.b ∷ next.text)) (eqb-true b backslash f));
            next = next.next;
            made = ap (λ (xs : List ℕ). b ∷ xs) (escape.made ∙ ap (λ (xs : List ℕ). escape.b ∷ xs) next.made);
          }

  -- in angle brackets
  local_step : LeadsOn (after_sender_byte Local b) rest → LocalThen closing (b ∷ rest)
  local_step h =
      choose (LocalThen closing (b ∷ rest)) (is_atom b) Local
      (cond (b == full_stop) LocalStart (cond (b == at_sign) DomainStart Wrong))
      (local_longer closing)
      (λ e x. choose (LocalThen closing (b ∷ rest)) (b == full_stop) LocalStart (cond (b == at_sign) DomainStart Wrong)
      (local_dotted closing)
      (λ f y. let z = only (b == at_sign) DomainStart y in local_ends closing z.0 z.1) x) h

  label_step : LeadsOn (after_sender_byte Label b) rest → LabelThen closing (b ∷ rest)
  label_step h =
      choose (LabelThen closing (b ∷ rest)) (b == full_stop) DomainStart
      (cond (b == greater_than) End (after_hyphen Label Hyphen b))
      (label_dot closing)
      (λ e x. choose (LabelThen closing (b ∷ rest)) (b == greater_than) End (after_hyphen Label Hyphen b) closed
      (λ f y. in_label closing Label Hyphen (λ z. z) (λ z. z) y) x) h
    where
      closed : (b == greater_than) ≡ true → rest ≡ [] → LabelThen closing (b ∷ rest)
      closed e h = λ c f. record {
        domain = c ∷ [];
        is = last_of_domain f;
        made = ap (λ (x : ℕ). c ∷ (x ∷ rest)) (eqb-true b greater_than e) ∙ ap (λ (xs : List ℕ). c ∷ (greater_than ∷ xs)) h;
      }

  bare_step : LeadsOn (after_sender_byte BareLabel b) rest → LabelThen [] (b ∷ rest)
  bare_step h =
      choose (LabelThen [] (b ∷ rest)) (b == full_stop) BareStart (after_hyphen BareLabel BareHyphen b) (label_dot [])
      (λ e x. in_label [] BareLabel BareHyphen (λ y. y) (λ y. y) x) h

step : (state : SenderState) (b : ℕ) (rest : List ℕ) → LeadsOn (after_sender_byte state b) rest → LeadsOn state (b ∷ rest)
step Front b rest h = gap_step b rest true Front FrontFeed FrontReturn Atom (λ x. x) (λ x. x) (λ x. x) (atom_of b rest) h
step FrontReturn b rest h =
    let x = only b rest (b == line_feed) FrontFeed h in
    record { left = rest; next = x.1; made = ap (λ (y : ℕ). y ∷ rest) (eqb-true b line_feed x.0) }
step FrontFeed b rest h =
    let x = only b rest (is_blank b) FrontFold h in record { b = b; left = rest; is = x.0; next = x.1; made = refl }
step FrontFold b rest h = fold_step b rest true FrontFold Atom (λ x. x) (atom_of b rest) h
step Atom b rest h = atom_step b rest h
step Dot b rest h = dot_step b rest h
step Word b rest h = word_step b rest h
step Gap b rest h = next_step b rest h
step GapReturn b rest h =
    let x = only b rest (b == line_feed) GapFeed h in
    record { left = rest; next = x.1; made = ap (λ (y : ℕ). y ∷ rest) (eqb-true b line_feed x.0) }
step GapFeed b rest h =
    let x = only b rest (is_blank b) GapFold h in record { b = b; left = rest; is = x.0; next = x.1; made = refl }
step GapFold b rest h = fold_step b rest false GapFold Word (λ x. x) (word_of b rest) h
step Quoted b rest h = quote_step b rest h
step Escaped b rest h =
    let x = only b rest (is_printable b) Quoted h in record { b = b; left = rest; printable = x.0; next = x.1; made = refl }
step LocalStart b rest h = let x = only b rest (is_atom b) Local h in x.1 b x.0
step Local b rest h = local_step b rest h
step DomainStart b rest h = let x = only b rest (is_ascii_alphanumeric b) Label h in x.1 b x.0
step Label b rest h = label_step b rest h
step Hyphen b rest h = in_hyphens b rest closing Label Hyphen (λ x. x) (λ x. x) h
step BareStart b rest h = let x = only b rest (is_ascii_alphanumeric b) BareLabel h in x.1 b x.0
step BareLabel b rest h = bare_step b rest h
step BareHyphen b rest h = in_hyphens b rest [] BareLabel BareHyphen (λ x. x) (λ x. x) h
step End b rest h = absurd h
step Wrong b rest h = h

leads_on : (state : SenderState) (bytes : List ℕ) → is_address_end (after_sender_bytes state bytes) ≡ true → LeadsOn state bytes
leads_on state (b ∷ rest) h = step state b rest (leads_on (after_sender_byte state b) rest h)
leads_on BareLabel [] h = λ b e. record { domain = b ∷ []; is = last_of_domain e; made = refl }
leads_on End [] h = refl
leads_on Front [] h = absurd (cc)
leads_on FrontReturn [] h = absurd (cc)
leads_on FrontFeed [] h = absurd (cc)
leads_on FrontFold [] h = absurd (cc)
leads_on Atom [] h = absurd (cc)
leads_on Dot [] h = absurd (cc)
leads_on Word [] h = absurd (cc)
leads_on Gap [] h = absurd (cc)
leads_on GapReturn [] h = absurd (cc)
leads_on GapFeed [] h = absurd (cc)
leads_on GapFold [] h = absurd (cc)
leads_on Quoted [] h = absurd (cc)
leads_on Escaped [] h = absurd (cc)
leads_on LocalStart [] h = absurd (cc)
leads_on Local [] h = absurd (cc)
leads_on DomainStart [] h = absurd (cc)
leads_on Label [] h = absurd (cc)
leads_on Hyphen [] h = absurd (cc)
leads_on BareStart [] h = absurd (cc)
leads_on BareHyphen [] h = absurd (cc)
leads_on Wrong [] h = absurd (cc)

pub sender_of : (bytes : List ℕ) → is_plain_sender bytes ≡ true → IsSenderValue bytes
unfolding is_plain_sender
sender_of bytes h =
    let found : GapThen true bytes = leads_on Front bytes h in
    record { gap = found.gap; rest = found.rest; is_gap = found.is; sender = found.sender; made = found.made }

-- ---- and back

abbrev Ends : SenderState → List ℕ → Type 0
Ends state bytes = is_address_end (after_sender_bytes state bytes) ≡ true

-- bytes of these kinds lead from one state to another
abbrev AtomsLead : SenderState → SenderState → Type 0
AtomsLead from to = (b : ℕ) → is_atom b ≡ true → after_sender_byte from b ≡ to

abbrev LettersLead : SenderState → SenderState → Type 0
LettersLead from to = (b : ℕ) → is_ascii_alphanumeric b ≡ true → after_sender_byte from b ≡ to

abbrev BlanksLead : SenderState → SenderState → Type 0
BlanksLead from to = (b : ℕ) → is_blank b ≡ true → after_sender_byte from b ≡ to

pass : (t : Bool) (so not_so : SenderState) → t ≡ true → cond t so not_so ≡ so
pass t so not_so e = ap (λ (s : Bool). cond s so not_so) e

miss : (t : Bool) (so not_so : SenderState) → t ≡ false → cond t so not_so ≡ not_so
miss t so not_so e = ap (λ (s : Bool). cond s so not_so) e

-- characters are none of some bytes
apart_from : (test : ℕ → Bool) (c : ℕ) → test c ≡ false → (b : ℕ) → test b ≡ true → (b == c) ≡ false
apart_from test c other b h = elim (cases_Bool (b == c)) [
  | inr e ↦ e
  | inl e ↦ let yes : test c ≡ true = subst (λ (x : ℕ). test x ≡ true) (eqb-true b c e) h in absurd (cc)
]

atom_apart : (c : ℕ) → is_atom c ≡ false → (b : ℕ) → is_atom b ≡ true → (b == c) ≡ false
atom_apart c other b h = apart_from is_atom c other b h

letter_apart : (c : ℕ) → is_ascii_alphanumeric c ≡ false → (b : ℕ) → is_ascii_alphanumeric b ≡ true → (b == c) ≡ false
letter_apart c other b h = apart_from is_ascii_alphanumeric c other b h

no_blank : (b : ℕ) → is_atom b ≡ true → is_blank b ≡ false
no_blank b h = or_from (b == space) (b == tab) (atom_apart space refl b h) (atom_apart tab refl b h)

-- ---- addresses

module _ (start label hyphens : SenderState) (first : LettersLead start label) (more : LettersLead label label)
    (later : LettersLead hyphens label)
    (to_start : after_sender_byte label full_stop ≡ start) (to_hyphens : after_sender_byte label hyphen ≡ hyphens)
    (in_hyphens_still : after_sender_byte hyphens hyphen ≡ hyphens) where
  hyphens_go : (dashes rest : List ℕ) → list_all (λ c. c == hyphen) dashes ≡ true
      → after_sender_bytes hyphens (dashes ++ rest) ≡ after_sender_bytes hyphens rest
  hyphens_go [] rest all = refl
  hyphens_go (b ∷ dashes) rest all =
      ap (λ (s : SenderState). after_sender_bytes s (dashes ++ rest))
      (ap (after_sender_byte hyphens) (eqb-true b hyphen (all_head (λ c. c == hyphen) b dashes all)) ∙ in_hyphens_still)
      ∙ hyphens_go dashes rest (all_tail (λ c. c == hyphen) b dashes all)

  label_goes : (dashes left rest : List ℕ) → list_all (λ c. c == hyphen) dashes ≡ true
      → after_sender_bytes label left ≡ after_sender_bytes label rest
      → after_sender_bytes hyphens left ≡ after_sender_bytes label rest
      → after_sender_bytes label (dashes ++ left) ≡ after_sender_bytes label rest
  label_goes [] left rest all e f = e
  label_goes (b ∷ dashes) left rest all e f =
      ap (λ (s : SenderState). after_sender_bytes s (dashes ++ left))
      (ap (after_sender_byte label) (eqb-true b hyphen (all_head (λ c. c == hyphen) b dashes all)) ∙ to_hyphens)
      ∙ hyphens_go dashes left (all_tail (λ c. c == hyphen) b dashes all) ∙ f

  domain_goes : (state : SenderState) → LettersLead state label → (domain rest : List ℕ) → IsDomain domain
      → after_sender_bytes state (domain ++ rest) ≡ after_sender_bytes label rest
  domain_goes state leads domain rest (last_of_domain {b = b} e) = ap (λ (s : SenderState). after_sender_bytes s rest) (leads b e)
  domain_goes state leads domain rest (domain_dot {b = b} {rest = left} e is made) =
      ap (λ (xs : List ℕ). after_sender_bytes state (xs ++ rest)) made
      ∙ ap (λ (s : SenderState). after_sender_bytes s (full_stop ∷ (left ++ rest))) (leads b e)
      ∙ ap (λ (s : SenderState). after_sender_bytes s (left ++ rest)) to_start
      ∙ domain_goes start first left rest is
  domain_goes state leads domain rest (domain_more {b = b} {rest = left} dashes e all is made) =
      ap (λ (xs : List ℕ). after_sender_bytes state (xs ++ rest)) made
      ∙ ap (λ (s : SenderState). after_sender_bytes s ((dashes ++ left) ++ rest)) (leads b e)
      ∙ ap (after_sender_bytes label) (append_assoc dashes left rest)
      ∙ label_goes dashes (left ++ rest) rest all (domain_goes label more left rest is) (domain_goes hyphens later left rest is)

module _ (atom dot : SenderState) (more : AtomsLead atom atom) (later : AtomsLead dot atom)
    (to_dot : after_sender_byte atom full_stop ≡ dot) where
  local_goes : (state : SenderState) → AtomsLead state atom → (local rest : List ℕ) → IsLocalPart local
      → after_sender_bytes state (local ++ rest) ≡ after_sender_bytes atom rest
  local_goes state leads local rest (last_of_local {b = b} e) = ap (λ (s : SenderState). after_sender_bytes s rest) (leads b e)
  local_goes state leads local rest (local_more {b = b} {rest = left} e is) =
      ap (λ (s : SenderState). after_sender_bytes s (left ++ rest)) (leads b e) ∙ local_goes atom more left rest is
  local_goes state leads local rest (local_dot {b = b} {rest = left} e is made) =
      ap (λ (xs : List ℕ). after_sender_bytes state (xs ++ rest)) made
      ∙ ap (λ (s : SenderState). after_sender_bytes s (full_stop ∷ (left ++ rest))) (leads b e)
      ∙ ap (λ (s : SenderState). after_sender_bytes s (left ++ rest)) to_dot
      ∙ local_goes dot later left rest is

-- the first character of a word
gap_atom : (blank feed return word : SenderState) (b : ℕ) → is_atom b ≡ true
    → cond (is_blank b) blank (cond (b == line_feed) feed (cond (b == carriage_return) return (after_gap word b))) ≡ word
gap_atom blank feed return word b h =
    miss (is_blank b) blank (cond (b == line_feed) feed (cond (b == carriage_return) return (after_gap word b))) (no_blank b h)
    ∙ miss (b == line_feed) feed (cond (b == carriage_return) return (after_gap word b)) (atom_apart line_feed refl b h)
    ∙ miss (b == carriage_return) return (after_gap word b) (atom_apart carriage_return refl b h)
    ∙ pass (is_atom b) word (cond (b == quote) Quoted (cond (b == less_than) LocalStart Wrong)) h

fold_atom : (fold word : SenderState) (b : ℕ) → is_atom b ≡ true → cond (is_blank b) fold (after_gap word b) ≡ word
fold_atom fold word b h =
    miss (is_blank b) fold (after_gap word b) (no_blank b h)
    ∙ pass (is_atom b) word (cond (b == quote) Quoted (cond (b == less_than) LocalStart Wrong)) h

atom_atom : AtomsLead Atom Atom
atom_atom b h =
    miss (b == full_stop) Dot (cond (b == at_sign) BareStart (cond (is_atom b) Atom (after_word b)))
    (atom_apart full_stop refl b h)
    ∙ miss (b == at_sign) BareStart (cond (is_atom b) Atom (after_word b)) (atom_apart at_sign refl b h)
    ∙ pass (is_atom b) Atom (after_word b) h

dot_atom : AtomsLead Dot Atom
dot_atom b h =
    miss (b == full_stop) Word (cond (is_atom b) Atom (after_word b)) (atom_apart full_stop refl b h)
    ∙ pass (is_atom b) Atom (after_word b) h

word_atom : AtomsLead Word Word
word_atom b h =
    miss (b == full_stop) Word (after_word b) (atom_apart full_stop refl b h) ∙ gap_atom Gap GapFeed GapReturn Word b h

label_letters : LettersLead Label Label
label_letters b h =
    miss (b == full_stop) DomainStart (cond (b == greater_than) End (after_hyphen Label Hyphen b))
    (letter_apart full_stop refl b h)
    ∙ miss (b == greater_than) End (after_hyphen Label Hyphen b) (letter_apart greater_than refl b h)
    ∙ pass (is_ascii_alphanumeric b) Label (cond (b == hyphen) Hyphen Wrong) h

bare_letters : LettersLead BareLabel BareLabel
bare_letters b h =
    miss (b == full_stop) BareStart (after_hyphen BareLabel BareHyphen b) (letter_apart full_stop refl b h)
    ∙ pass (is_ascii_alphanumeric b) BareLabel (cond (b == hyphen) BareHyphen Wrong) h

-- an address by itself
bare_goes : (state : SenderState) → AtomsLead state Atom → (address : List ℕ) → IsAddress address → Ends state address
bare_goes state leads address is =
    ap (λ (xs : List ℕ). is_address_end (after_sender_bytes state xs)) is.made
    ∙ ap is_address_end (local_goes Atom Dot atom_atom dot_atom refl state leads is.local (at_sign ∷ is.domain) is.is_local)
    ∙ ap (λ (xs : List ℕ). is_address_end (after_sender_bytes BareStart xs)) (sym (append-nil is.domain))
    ∙ ap is_address_end (domain_goes BareStart BareLabel BareHyphen starts bare_letters hyphens bare_dot refl refl
    BareStart starts is.domain [] is.is_domain)
  where
    starts : LettersLead BareStart BareLabel
    starts b h = pass (is_ascii_alphanumeric b) BareLabel Wrong h

    hyphens : LettersLead BareHyphen BareLabel
    hyphens b h = pass (is_ascii_alphanumeric b) BareLabel (cond (b == hyphen) BareHyphen Wrong) h

    bare_dot : after_sender_byte BareLabel full_stop ≡ BareStart
    bare_dot = refl

-- an address after its opening bracket
bracket_goes : (address : List ℕ) → IsAddress address → Ends LocalStart (address ++ closing)
bracket_goes address is =
    ap (λ (xs : List ℕ). is_address_end (after_sender_bytes LocalStart (xs ++ closing))) is.made
    ∙ ap (λ (xs : List ℕ). is_address_end (after_sender_bytes LocalStart xs))
    (append_assoc is.local (at_sign ∷ is.domain) closing)
    ∙ ap is_address_end (local_goes Local LocalStart longer starts refl LocalStart starts is.local
    (at_sign ∷ (is.domain ++ closing)) is.is_local)
    ∙ ap is_address_end (domain_goes DomainStart Label Hyphen letters label_letters hyphens refl refl refl
    DomainStart letters is.domain closing is.is_domain)
  where
    longer : AtomsLead Local Local
    longer b h = pass (is_atom b) Local (cond (b == full_stop) LocalStart (cond (b == at_sign) DomainStart Wrong)) h

    starts : AtomsLead LocalStart Local
    starts b h = pass (is_atom b) Local Wrong h

    letters : LettersLead DomainStart Label
    letters b h = pass (is_ascii_alphanumeric b) Label Wrong h

    hyphens : LettersLead Hyphen Label
    hyphens b h = pass (is_ascii_alphanumeric b) Label (cond (b == hyphen) Hyphen Wrong) h

-- ---- names

-- what leads to the end after blanks, a fold, or a character of a word
record NamedEnds (bytes : List ℕ) : Type 0 where
  front : Ends Front bytes
  front_fold : Ends FrontFold bytes
  gap : Ends Gap bytes
  fold : Ends GapFold bytes
  word : Ends Word bytes
  atom : Ends Atom bytes
  dot : Ends Dot bytes

record AfterEnds (bytes : List ℕ) : Type 0 where
  gap : Ends Gap bytes
  word : Ends Word bytes
  atom : Ends Atom bytes
  dot : Ends Dot bytes

record WordEnds (bytes : List ℕ) : Type 0 where
  word : Ends Word bytes
  atom : Ends Atom bytes
  dot : Ends Dot bytes

-- blanks after a LF
feed_goes : (feed fold : SenderState) → BlanksLead feed fold → BlanksLead fold fold → (first : ℕ) (others rest : List ℕ)
    → list_all is_blank (first ∷ others) ≡ true → Ends fold rest
    → Ends feed ((first ∷ others) ++ rest)
feed_goes feed fold starts stays first others rest all h =
    ap (λ (s : SenderState). is_address_end (after_sender_bytes s (others ++ rest)))
    (starts first (all_head is_blank first others all))
    ∙ ap is_address_end (past others (all_tail is_blank first others all)) ∙ h
  where
    past : (others : List ℕ) → list_all is_blank others ≡ true
        → after_sender_bytes fold (others ++ rest) ≡ after_sender_bytes fold rest
    past [] all = refl
    past (b ∷ others) all =
        ap (λ (s : SenderState). after_sender_bytes s (others ++ rest)) (stays b (all_head is_blank b others all))
        ∙ past others (all_tail is_blank b others all)

gap_feed : (first : ℕ) (others rest : List ℕ) → list_all is_blank (first ∷ others) ≡ true → Ends GapFold rest
    → Ends GapFeed ((first ∷ others) ++ rest)
gap_feed first others rest all h =
    feed_goes GapFeed GapFold (λ b e. pass (is_blank b) GapFold Wrong e) (λ b e. pass (is_blank b) GapFold (after_gap Word b) e)
    first others rest all h

front_feed : (first : ℕ) (others rest : List ℕ) → list_all is_blank (first ∷ others) ≡ true → Ends FrontFold rest
    → Ends FrontFeed ((first ∷ others) ++ rest)
front_feed first others rest all h =
    feed_goes FrontFeed FrontFold (λ b e. pass (is_blank b) FrontFold Wrong e)
    (λ b e. pass (is_blank b) FrontFold (after_gap Atom b) e)
    first others rest all h

gap_ends : (gap rest : List ℕ) → IsGap gap → NamedEnds rest → AfterEnds (gap ++ rest)
gap_ends gap rest no_gap h = record { gap = h.gap; word = h.word; atom = h.atom; dot = h.dot }
gap_ends gap rest (gap_blank {b = c} {rest = others} blank more) h =
    let next : Ends Gap (others ++ rest) = (gap_ends others rest more h).gap in
    let Is : ℕ → Type 0 = λ x. AfterEnds (x ∷ (others ++ rest)) in
    elim (blanks c blank) [
      | inl e ↦ subst Is (sym e) (record { gap = next; word = next; atom = next; dot = next })
      | inr e ↦ subst Is (sym e) (record { gap = next; word = next; atom = next; dot = next })
    ]
gap_ends gap rest (gap_fold first others (inl e) all made) h =
    let next : Ends GapFeed ((first ∷ others) ++ rest) = gap_feed first others rest all h.fold in
    subst (λ (xs : List ℕ). AfterEnds (xs ++ rest)) (sym (made ∙ ap (λ (line : List ℕ). line ++ (first ∷ others)) e))
    (record { gap = next; word = next; atom = next; dot = next })
gap_ends gap rest (gap_fold first others (inr e) all made) h =
    let next : Ends GapFeed ((first ∷ others) ++ rest) = gap_feed first others rest all h.fold in
    subst (λ (xs : List ℕ). AfterEnds (xs ++ rest)) (sym (made ∙ ap (λ (line : List ℕ). line ++ (first ∷ others)) e))
    (record { gap = next; word = next; atom = next; dot = next })

front_goes : (gap rest : List ℕ) → IsGap gap → Ends Front rest → Ends FrontFold rest → Ends Front (gap ++ rest)
front_goes gap rest no_gap h f = h
front_goes gap rest (gap_blank {b = c} {rest = others} blank more) h f =
    ap (λ (s : SenderState). is_address_end (after_sender_bytes s (others ++ rest)))
    (pass (is_blank c) Front (cond (c == line_feed) FrontFeed (cond (c == carriage_return) FrontReturn (after_gap Atom c))) blank)
    ∙ front_goes others rest more h f
front_goes gap rest (gap_fold first others (inl e) all made) h f =
    ap (λ (xs : List ℕ). is_address_end (after_sender_bytes Front (xs ++ rest)))
    (made ∙ ap (λ (line : List ℕ). line ++ (first ∷ others)) e)
    ∙ front_feed first others rest all f
front_goes gap rest (gap_fold first others (inr e) all made) h f =
    ap (λ (xs : List ℕ). is_address_end (after_sender_bytes Front (xs ++ rest)))
    (made ∙ ap (λ (line : List ℕ). line ++ (first ∷ others)) e)
    ∙ front_feed first others rest all f

-- the rest of a word
word_goes : (others left : List ℕ) → list_all is_later_character others ≡ true → AfterEnds left → WordEnds (others ++ left)
word_goes [] left all h = record { word = h.word; atom = h.atom; dot = h.dot }
word_goes (b ∷ others) left all h =
    let more = word_goes others left (all_tail is_later_character b others all) h in
    elim (cases_Bool (b == full_stop)) [
      | inl e ↦
          subst (λ (x : ℕ). WordEnds (x ∷ (others ++ left))) (sym (eqb-true b full_stop e))
          (record { word = more.word; atom = more.dot; dot = more.word })
      | inr e ↦
          let is = other (b == full_stop) (is_atom b) e (all_head is_later_character b others all) in
          record {
            word = by Word Word more.word (word_atom b is);
            atom = by Atom Atom more.atom (atom_atom b is);
            dot = by Dot Atom more.atom (dot_atom b is);
          }
    ]
  where
    other : (s t : Bool) → s ≡ false → (s || t) ≡ true → t ≡ true
    other false t e h = h
    other true t e h = absurd (cc)

    by : (from to : SenderState) → Ends to (others ++ left) → after_sender_byte from b ≡ to → Ends from (b ∷ (others ++ left))
    by from to ends e = ap (λ (s : SenderState). is_address_end (after_sender_bytes s (others ++ left))) e ∙ ends

-- a text in quotes
quote_goes : (text rest : List ℕ) → IsQuotedText text → after_sender_bytes Quoted (text ++ rest) ≡ after_sender_bytes Gap rest
quote_goes text rest end_quote = refl
quote_goes text rest (text_byte {b = b} {rest = more} e f g left) =
    ap (λ (s : SenderState). after_sender_bytes s (more ++ rest))
    (miss (b == quote) Gap (cond (b == backslash) Escaped (cond (is_control b) Wrong Quoted)) e
    ∙ miss (b == backslash) Escaped (cond (is_control b) Wrong Quoted) f ∙ miss (is_control b) Wrong Quoted g)
    ∙ quote_goes more rest left
quote_goes text rest (quoted_pair {b = b} {rest = more} is left made) =
    ap (λ (xs : List ℕ). after_sender_bytes Quoted (xs ++ rest)) made
    ∙ ap (λ (s : SenderState). after_sender_bytes s (more ++ rest)) (pass (is_printable b) Quoted Wrong (pair_printable b is))
    ∙ quote_goes more rest left

named_ends : (bytes : List ℕ) → IsNamedAddress bytes → NamedEnds bytes
named_ends bytes (address_in_brackets {address = address} is made) =
    let inner : Ends LocalStart (address ++ closing) = bracket_goes address is in
    subst NamedEnds (sym made)
    (record { front = inner; front_fold = inner; gap = inner; fold = inner; word = inner; atom = inner; dot = inner })
named_ends bytes (quoted_before {text = text} {gap = gap} {rest = rest} is is_gap more made) =
    let after : AfterEnds (gap ++ rest) = gap_ends gap rest is_gap (named_ends rest more) in
    let inner : Ends Quoted (text ++ (gap ++ rest)) = ap is_address_end (quote_goes text (gap ++ rest) is) ∙ after.gap in
    subst NamedEnds (sym made)
    (record { front = inner; front_fold = inner; gap = inner; fold = inner; word = inner; atom = inner; dot = inner })
named_ends bytes (word_before {b = b} {gap = gap} {rest = rest} others e all is more made) =
    let after : WordEnds (others ++ (gap ++ rest)) =
    word_goes others (gap ++ rest) all (gap_ends gap rest is (named_ends rest more)) in
    subst NamedEnds (sym made) (record {
      front = by Front Atom after.atom (gap_atom Front FrontFeed FrontReturn Atom b e);
      front_fold = by FrontFold Atom after.atom (fold_atom FrontFold Atom b e);
      gap = by Gap Word after.word (gap_atom Gap GapFeed GapReturn Word b e);
      fold = by GapFold Word after.word (fold_atom GapFold Word b e);
      word = by Word Word after.word (word_atom b e);
      atom = by Atom Atom after.atom (atom_atom b e);
      dot = by Dot Atom after.atom (dot_atom b e);
    })
  where
    by : (from to : SenderState) → Ends to (others ++ (gap ++ rest)) → after_sender_byte from b ≡ to
        → Ends from (b ∷ (others ++ (gap ++ rest)))
    by from to ends e = ap (λ (s : SenderState). is_address_end (after_sender_bytes s (others ++ (gap ++ rest)))) e ∙ ends

pub of_sender : (bytes : List ℕ) → IsSenderValue bytes → is_plain_sender bytes ≡ true
unfolding is_plain_sender
of_sender bytes h =
    ap (λ (xs : List ℕ). is_address_end (after_sender_bytes Front xs)) h.made ∙ by_sender h.sender
  where
    by_sender : IsAddress h.rest ⊎ IsNamedAddress h.rest → Ends Front (h.gap ++ h.rest)
    by_sender (inl is) =
        front_goes h.gap h.rest h.is_gap (bare_goes Front (λ b e. gap_atom Front FrontFeed FrontReturn Atom b e) h.rest is)
        (bare_goes FrontFold (λ b e. fold_atom FrontFold Atom b e) h.rest is)
    by_sender (inr is) = let ends = named_ends h.rest is in front_goes h.gap h.rest h.is_gap ends.front ends.front_fold

-- ---- headers

pub sender_strict : (bytes : List ℕ) → (is_plain_sender bytes ≡ true) ↔ IsSenderValue bytes
sender_strict bytes = (sender_of bytes, of_sender bytes)

pub sender_header : (line : HeaderLine)
    → (is_bad_sender line ≡ false) ↔ (is_named (codes "From") line ≡ true → IsSenderValue line.value)
sender_header line = (
  λ h e. sender_of line.value (not-false (is_plain_sender line.value)
      (second_false (is_named (codes "From") line) (not (is_plain_sender line.value)) e h)),
  λ h. by_name (is_named (codes "From") line) refl h,
)
  where
    by_name : (t : Bool) → is_named (codes "From") line ≡ t → (is_named (codes "From") line ≡ true → IsSenderValue line.value)
        → is_bad_sender line ≡ false
    by_name true e h =
        and_right (is_named (codes "From") line) (not (is_plain_sender line.value))
        (ap not (of_sender line.value (h e)))
    by_name false e h = and_left (is_named (codes "From") line) (not (is_plain_sender line.value)) e

-- the values, and the headers
pub ruleset sender_grammar = (sender_strict, sender_header)
