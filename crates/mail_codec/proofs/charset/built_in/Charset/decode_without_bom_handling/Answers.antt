use Rattle.std.proofs.Common.{◌∙◌}
use Rattle.std.proofs.lemmas.Result.{IfOk-weaker}
use Rattle.bstr.proofs.lemmas.LossyLemmas.{lossy_chars-utf8_lossy}
use Rattle.mail_codec.specs.Charset.{text_of}
use Rattle.mail_codec.proofs.charset.built_in.Charset.decode_without_bom_handling.Goals as goal

pub returns-in_ok-to_str_lossy-in-Utf8 : goal.returns-in_ok-to_str_lossy-in-Utf8
unfolding text_of
returns-in_ok-to_str_lossy-in-Utf8 c =
    rw c.in-Utf8.is (IfOk-weaker c.into_owned.result _ _ (λ t copied. copied ∙ c.in_ok-to_str_lossy-in-Utf8.ensures.text ∙ lossy_chars-utf8_lossy c.args.bytes.now) c.into_owned.ensures.ok)

pub returns-in-Windows1252 : goal.returns-in-Windows1252
unfolding text_of
returns-in-Windows1252 c = rw c.in-Windows1252.is c.decode_windows_1252.ensures

pub returns-in-Utf16Le : goal.returns-in-Utf16Le
unfolding text_of
returns-in-Utf16Le c = rw c.in-Utf16Le.is c.decode.ensures

pub returns-in-Utf16Be : goal.returns-in-Utf16Be
unfolding text_of
returns-in-Utf16Be c = rw c.in-Utf16Be.is c.decode-in-Utf16Be.ensures
