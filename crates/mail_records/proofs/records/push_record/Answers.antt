use Rattle.mailparse.specs.Views.{tree_of}
use Rattle.mail_records.proofs.lemmas.OwnHeaders.{own-of}
use Rattle.mail_records.proofs.records.push_record.Goals as goal

pub push_read_headers-requires : goal.push_read_headers-requires
push_read_headers-requires g c = own-of _ _ (tree_of c.args.node.now.part.now) c.bytes_of.ensures c.headers_of-read.ensures c.requires
