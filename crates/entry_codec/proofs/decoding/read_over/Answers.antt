use Rattle.entry_codec.proofs.SpellingLemmas.{long_enough, parts_behind}
use Rattle.entry_codec.proofs.decoding.read_over.Goals as goal

pub head_at-head-requires : goal.head_at-head-requires
head_at-head-requires c = long_enough c.args.bytes.now c.requires.0 c.requires.1 c.requires.2

pub split_at-requires : goal.split_at-requires
split_at-requires c = long_enough c.args.bytes.now c.requires.0 c.requires.1 c.requires.2

pub read_parts-requires : goal.read_parts-requires
read_parts-requires c =
    (c.requires.0, c.requires.1, parts_behind c.args.bytes.now _ c.head_at-head.result _ _ c.head_at-head.ensures.in_range c.head_at-head.ensures.parts c.split_at.ensures.back c.requires.2)

pub returns-clause-entry : goal.returns-clause-entry
returns-clause-entry c = λ front other begins.
    c.read_parts.ensures.entry front other
    (parts_behind c.args.bytes.now _ c.head_at-head.result front other c.head_at-head.ensures.in_range c.head_at-head.ensures.parts c.split_at.ensures.back begins)
