use Rattle.std.proofs.Common.{◌∙◌, ◌++◌, Ok, sym, ap, arith, vec_len, length}
use Rattle.mail_codec.specs.Base64.{prepend}
use Rattle.mail_codec.specs.private.Padded.{cut_groups}
use Rattle.mail_codec.proofs.lemmas.Padded.{cut_reads, engine_filled, filled_len}
use Rattle.mail_codec.proofs.transfer.base_64.padded.decode_padded_groups.Goals as goal

pub push_cut_groups-requires : goal.push_cut_groups-requires
push_cut_groups-requires c =
    let read = engine_filled 0 (vec_len c.clear.new.self) c.args.letters.now c.fill_up.new.full.items c.as_slice.result.now c.clear.new.self.items c.decode_vec.new.buffer.items
    c.clear.ensures.items c.as_slice.ensures.value c.in_ok-fill_up.ensures (λ i. omega (arith, c.type_inv.letters i))
    c.in-Ok.ensures.bytes c.in-Ok.ensures.ok c.in-Ok.ensures.front in
    record {
      whole = c.requires.whole;
      three = ap length c.as_slice-in-Ok.ensures.value ∙ filled_len 0 c.args.letters.now c.decode_vec.new.buffer.items c.requires.whole read;
    }

pub returns-in_ok-push_cut_groups-in-Ok-clause-read : goal.returns-in_ok-push_cut_groups-in-Ok-clause-read
returns-in_ok-push_cut_groups-in-Ok-clause-read c _ n =
    let read = engine_filled n (vec_len c.clear.new.self) c.args.letters.now c.fill_up.new.full.items c.as_slice.result.now c.clear.new.self.items c.decode_vec.new.buffer.items
    c.clear.ensures.items c.as_slice.ensures.value c.in_ok-fill_up.ensures (λ i. omega (arith, c.type_inv.letters i))
    c.in-Ok.ensures.bytes c.in-Ok.ensures.ok c.in-Ok.ensures.front in
    ap (prepend c.args.bytes.now.items) (cut_reads n c.args.letters.now c.decode_vec.new.buffer.items c.requires.whole read)
    ∙ ap (λ x. Ok (c.args.bytes.now.items ++ cut_groups c.args.letters.now x)) (sym c.as_slice-in-Ok.ensures.value)
    ∙ ap Ok (sym c.in_ok-push_cut_groups-in-Ok.ensures)
