use Rattle.mem_table.proofs.EditLemmas.{record_of_this, record_of_other, weight_more, stand_more}
use Rattle.mem_table.proofs.TableLemmas.{places_kept}
use Rattle.mem_table.proofs.table.Table.fold_in.Goals as goal

pub returns-in-Some-clause-this : goal.returns-in-Some-clause-this
returns-in-Some-clause-this c = rw c.fold_at.ensures.folded (record_of_this c.args.self.now.entries c.args.key.now c.args.rec.now)

pub returns-in-Some-clause-others : goal.returns-in-Some-clause-others
returns-in-Some-clause-others c = λ other differs. rw c.fold_at.ensures.folded (record_of_other c.args.self.now.entries c.args.key.now c.args.rec.now other differs)

pub returns-in-Some-clause-weight : goal.returns-in-Some-clause-weight
returns-in-Some-clause-weight c = rw c.fold_at.ensures.folded (weight_more c.args.self.now.entries c.args.key.now c.args.rec.now c.fold_at.ensures.sorted)

pub returns-in-Some-clause-stands : goal.returns-in-Some-clause-stands
returns-in-Some-clause-stands c = λ writes stood. rw c.fold_at.ensures.folded (stand_more c.args.self.now.entries c.args.key.now c.args.rec.now writes c.fold_at.ensures.in_range stood)

pub returns-in-Some-clause-places : goal.returns-in-Some-clause-places
returns-in-Some-clause-places c = λ other there. rw c.fold_at.ensures.folded (places_kept c.args.self.now.arrived c.args.key.now other there)

pub returns-in-None-clause-this : goal.returns-in-None-clause-this
returns-in-None-clause-this c = rw c.add.ensures.folded (record_of_this c.args.self.now.entries c.args.key.now c.args.rec.now)

pub returns-in-None-clause-others : goal.returns-in-None-clause-others
returns-in-None-clause-others c = λ other differs. rw c.add.ensures.folded (record_of_other c.args.self.now.entries c.args.key.now c.args.rec.now other differs)

pub returns-in-None-clause-weight : goal.returns-in-None-clause-weight
returns-in-None-clause-weight c = rw c.add.ensures.folded (weight_more c.args.self.now.entries c.args.key.now c.args.rec.now c.add.ensures.sorted)

pub returns-in-None-clause-stands : goal.returns-in-None-clause-stands
returns-in-None-clause-stands c = λ writes stood. rw c.add.ensures.folded (stand_more c.args.self.now.entries c.args.key.now c.args.rec.now writes c.add.ensures.in_range stood)

pub returns-in-None-clause-places : goal.returns-in-None-clause-places
returns-in-None-clause-places c = λ other there. rw c.add.ensures.folded (places_kept c.args.self.now.arrived c.args.key.now other there)
