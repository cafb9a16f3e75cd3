-- Messages that a manner of reading reads as the port does; the project's own terms.
use Rattle.std.specs.Prelude.{◌≡◌, Bool, length, map}
use Rattle.mail_codec.specs.Charset.{Charsets}
use Rattle.mailparse.specs.Block.{header_as, header_part}
use Rattle.mailparse.specs.Manner.{Manner}
use Rattle.mailparse.specs.Mail.{Node, Tree, tree, Forest, no_parts, part_and, cut_of, cut_of_as, node_type}

-- Of a manner, under the charsets that are known.
module _ (manner : Manner) (known : Charsets) where
  -- its headers are read from all its bytes and with their whole keys, they give the message the same type as in the port, and it is
  -- split in the same way
  pub record IsReadAlike (node : Node) : Type 0 where
    pub headers : header_part manner.lenient_headers node.bytes ≡ node.bytes
    pub keys : map (header_as manner.lenient_headers) node.headers ≡ node.headers
    pub type : (in_digest : Bool) → manner.type_of in_digest node.headers ≡ node_type known in_digest node.headers
    pub cut : cut_of_as manner.whole_lines node.ctype node.bytes (length node.block) ≡ cut_of node.ctype node.bytes (length node.block)

  abbrev mutual
    -- so it is with a message and all its parts
    pub AreReadAlike : Tree → Type 0
    AreReadAlike (tree node parts) = IsReadAlike node × AllReadAlike parts

    -- and with each of some parts
    pub AllReadAlike : Forest → Type 0
    AllReadAlike no_parts = Unit
    AllReadAlike (part_and t ts) = AreReadAlike t × AllReadAlike ts
