use Rattle.script_text.proofs.PresentLemmas.{tells_more}
use Rattle.blsm_model.specs.declared.op.Write.TheVariants as write
use Rattle.script_text.proofs.summary.note_write.Goals as goal

pub returns-in-Put : goal.returns-in-Put
returns-in-Put c = λ writes tells. rw c.in-Put.is (tells_more c.args.flags.now writes (write.Put c.in-Put.key c.in-Put.field-1) c.place_of.result c.place_of.ensures.within c.place_of.ensures.is tells)

pub returns-in-Add : goal.returns-in-Add
returns-in-Add c = λ writes tells. rw c.in-Add.is (tells_more c.args.flags.now writes (write.Add c.in-Add.key c.in-Add.field-1) c.place_of-in-Add.result c.place_of-in-Add.ensures.within c.place_of-in-Add.ensures.is tells)

pub returns-in-Tail : goal.returns-in-Tail
returns-in-Tail c = λ writes tells. rw c.in-Tail.is (tells_more c.args.flags.now writes (write.Tail c.in-Tail.key c.in-Tail.field-1) c.place_of-in-Tail.result c.place_of-in-Tail.ensures.within c.place_of-in-Tail.ensures.is tells)

pub returns-in-Del : goal.returns-in-Del
returns-in-Del c = λ writes tells. rw c.in-Del.is (tells_more c.args.flags.now writes (write.Del c.in-Del.key) c.place_of-in-Del.result c.place_of-in-Del.ensures.within c.place_of-in-Del.ensures.is tells)

pub returns-in-New : goal.returns-in-New
returns-in-New c = λ writes tells. rw c.in-New.is (tells_more c.args.flags.now writes (write.Put c.in-New.key c.in-New.field-1)
    c.place_of-in-New.result c.place_of-in-New.ensures.within c.place_of-in-New.ensures.is tells)

pub returns-in-Swap : goal.returns-in-Swap
returns-in-Swap c = λ writes tells. rw c.in-Swap.is (tells_more c.args.flags.now writes (write.Put c.in-Swap.key c.in-Swap.field-2)
    c.place_of-in-Swap.result c.place_of-in-Swap.ensures.within c.place_of-in-Swap.ensures.is tells)
