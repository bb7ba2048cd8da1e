use Rattle.tree_settling.proofs.LightLemmas.{begins_light}
use Rattle.recover_open.proofs.BeginLemmas.{has_begun, begins_in}
use Rattle.recover_open.proofs.beginning.begin.Goals as goal

pub open-log-requires-clause-whole : goal.open-log-requires-clause-whole
open-log-requires-clause-whole c = c.requires.found.2.whole_b

pub open-runs-requires-clause-ahead : goal.open-runs-requires-clause-ahead
open-runs-requires-clause-ahead c = c.requires.found.2.ahead

pub returns-clause-running : goal.returns-clause-running
returns-clause-running c = λ honest file is. c.open-runs.ensures.running honest file (is.stands c.requires.guides)

pub returns-clause-numbers : goal.returns-clause-numbers
returns-clause-numbers c =
    let found = c.requires.found in
    has_begun begins_light c.args.found c.args.found.guides found.0 found.1 c.open-runs.result c.open-log.result found.2 c.open-runs.ensures.opened
    c.open-log.ensures

pub returns-clause-lists : goal.returns-clause-lists
returns-clause-lists c = λ file holds.
    begins_in c.args.found c.args.found.guides file c.open-runs.result c.open-log.result c.requires.found.2.whole_a c.requires.found.2.roles holds
    c.open-runs.ensures.opened c.open-log.ensures c.open-runs.ensures.lists (holds.guided c.requires.guides) (holds.over c.requires.guides)

pub most_quanta-requires-clause-begun : goal.most_quanta-requires-clause-begun
most_quanta-requires-clause-begun c =
    let found = c.requires.found in
    has_begun begins_light c.args.found c.args.found.guides found.0 found.1 c.open-runs.result c.open-log.result found.2 c.open-runs.ensures.opened
    c.open-log.ensures

pub most_quanta-requires-clause-geometry : goal.most_quanta-requires-clause-geometry
most_quanta-requires-clause-geometry c =
    let found = c.requires.found in
    (c.open-runs.ensures.running found.0 found.1 (found.2.stands c.requires.guides)).in_order.geometry
