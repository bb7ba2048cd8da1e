use Rattle.std.proofs.Common.{◌≡◌, ◌++◌, ◌∙◌, length, ap, sym, arith}
use Rattle.std.specs.List.{between}
use Rattle.std.proofs.lemmas.Slice.{between_to_end}
use Rattle.blsm_model.specs.declared.key.Key.{Key}
use Rattle.record_delta.specs.declared.record.Rec.{Rec}
use Rattle.entry_codec.specs.Spelling.{head, BeginsWith}
use Rattle.entry_codec.proofs.SpellingLemmas.{too_short, to_parts, found_whole, none_whole, answer_of}
use Rattle.entry_codec.proofs.decoding.decode.Goals as goal

pub returns-then-bytes-lt-HEAD_LEN-clause-none : goal.returns-then-bytes-lt-HEAD_LEN-clause-none
returns-then-bytes-lt-HEAD_LEN-clause-none c = too_short c.args.bytes.now c.if-bytes-lt-HEAD_LEN.true

pub returns-then-bytes-lt-HEAD_LEN-clause-only : goal.returns-then-bytes-lt-HEAD_LEN-clause-only
returns-then-bytes-lt-HEAD_LEN-clause-only c = λ key rec begins. absurd (too_short c.args.bytes.now c.if-bytes-lt-HEAD_LEN.true key rec begins)

-- the bytes are the head that was read and what entry was given
read : (c : goal.After-entry) → c.args.bytes.now ≡ head c.head_at-head.result.kind c.head_at-head.result.key_len c.head_at-head.result.text_len c.head_at-head.result.count ++ between 13 (length c.args.bytes.now) c.args.bytes.now
read c = c.head_at-head.ensures.parts ∙ ap (λ l. head c.head_at-head.result.kind c.head_at-head.result.key_len c.head_at-head.result.text_len c.head_at-head.result.count ++ l)
    (sym (between_to_end c.args.bytes.now 13 (length c.args.bytes.now) (omega arith)))

pub returns-clause-found : goal.returns-clause-found
returns-clause-found c = found_whole c.args.bytes.now (between 13 (length c.args.bytes.now) c.args.bytes.now) c.head_at-head.result c.entry.result (read c) c.entry.ensures.found

only : (c : goal.After-entry) (key : Key) (rec : Rec) → BeginsWith c.args.bytes.now key rec → c.entry.result ≡ answer_of key rec
only c key rec begins =
    c.entry.ensures.only key rec (to_parts c.args.bytes.now (between 13 (length c.args.bytes.now) c.args.bytes.now) c.head_at-head.result key rec c.head_at-head.ensures.in_range (read c) begins)

pub returns-clause-none : goal.returns-clause-none
returns-clause-none c = none_whole c.args.bytes.now c.entry.result (only c)

pub returns-clause-only : goal.returns-clause-only
returns-clause-only c = only c
