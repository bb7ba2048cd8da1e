use Rattle.std.proofs.Common.{◌≡◌, ◌+◌, ap, sym, refl, arith}
use Rattle.std.specs.Prelude.{unwrap_or}
use Rattle.record_delta.specs.Records.{text_of, weight}
use Rattle.entry_codec.proofs.SpellingLemmas.{key_and_text_at, of_kind, first_is, second_is}
use Rattle.entry_codec.proofs.decoding.entry.Goals as goal

pub returns-in_err-key-clause-only : goal.returns-in_err-key-clause-only
returns-in_err-key-clause-only c = λ key rec parts.
    let wrong = c.in_err-key.ensures.only key (text_of rec) (key_and_text_at c.args.head.now c.args.bytes.now key rec parts) in cc

pub returns-in_err-rec-clause-only : goal.returns-in_err-rec-clause-only
returns-in_err-rec-clause-only c = λ key rec parts.
    let same = c.in_ok-key.ensures.only key (text_of rec) (key_and_text_at c.args.head.now c.args.bytes.now key rec parts) in
    let text_is : text_of rec ≡ c.in_ok-key.text = sym (second_is c.in_ok-key.key c.in_ok-key.text key (text_of rec) same) in
    let wrong = c.in_err-rec.ensures.only rec (of_kind c.args.head.now c.args.bytes.now key rec c.in_ok-key.text parts text_is) in
    cc

pub returns-clause-only : goal.returns-clause-only
returns-clause-only c = λ key rec parts.
    let same = c.in_ok-key.ensures.only key (text_of rec) (key_and_text_at c.args.head.now c.args.bytes.now key rec parts) in
    let key_is : c.in_ok-key.key ≡ key = first_is c.in_ok-key.key c.in_ok-key.text key (text_of rec) same in
    let text_is : text_of rec ≡ c.in_ok-key.text = sym (second_is c.in_ok-key.key c.in_ok-key.text key (text_of rec) same) in
    let rec_same = c.in_ok-rec.ensures.only rec (of_kind c.args.head.now c.args.bytes.now key rec c.in_ok-key.text parts text_is) in
    let len_is : 13 + c.args.head.now.key_len + c.args.head.now.text_len ≡ weight key rec = omega (arith, parts.key_len_is, parts.text_len_is) in
    let rec_is : c.in_ok-rec.rec ≡ rec = ap (λ r. unwrap_or r c.in_ok-rec.rec) rec_same in
    rw (key_is, rec_is, len_is) refl
