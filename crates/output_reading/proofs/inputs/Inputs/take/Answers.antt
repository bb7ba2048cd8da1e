use Rattle.output_reading.proofs.InputsLemmas.{behind_taken, inputs_taken, left_taken, onward_taken}
use Rattle.output_reading.proofs.inputs.Inputs.take.Goals as goal

pub returns-clause-behind : goal.returns-clause-behind
returns-clause-behind c = behind_taken c.args.self.now c.args.key c.requires.group.0 c.requires.group.1 c.requires.ready c.requires.group.2

pub returns-clause-onward : goal.returns-clause-onward
returns-clause-onward c = onward_taken c.args.self.now c.args.key c.requires.group.0 c.requires.group.1 c.requires.ready c.requires.group.2

pub returns-clause-left : goal.returns-clause-left
returns-clause-left c = λ rec taken group. left_taken c.args.self.now c.args.key rec taken c.requires.ready group

pub returns-clause-inputs : goal.returns-clause-inputs
returns-clause-inputs c = λ sizes newer_pages older_pages newer older file rec taken is group. inputs_taken c.args.key rec taken is c.requires.ready
    group
