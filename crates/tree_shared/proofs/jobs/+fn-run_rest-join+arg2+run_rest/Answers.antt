use Rattle.std.proofs.Common.{rules, ◌≡◌, ◌<◌, ◌-◌}
use Rattle.turn_lock.specs.Tallies.{IsOf}
use Rattle.turn_lock.specs.Views.{size}
use Rattle.tree_shared.specs.Runs.{Ends, TellsEnd}
use Rattle.tree_shared.proofs.RestLemmas.{ends_all}
use Rattle.tree_shared.proofs.jobs.+fn-run_rest-join+arg2+run_rest.Goals as goal

pub returns : goal.returns
returns g t c =
    let some : 0 < c.args.more = search rules in
    let first : Ends g.D.Disk.state c.args.script.now c.args.turns c.args.lock.now (c.args.more - 1) c.split-other.new.caller c.join-first.result.0 = (let r = c.join-first.ensures.first in search rules) in
    let second : IsOf c.args.lock.now c.join-first.result.1 × (size c.join-first.result.1.me.0 ≡ size c.split-other.result.me.0) × TellsEnd g.D.Disk.state c.args.lock.now.start c.args.script.now c.args.turns c.split-other.result.number c.join-first.result.1
    = (let r = c.join-first.ensures.second in search rules) in
    ends_all g.D.Disk.state c.args.script.now c.args.turns c.args.lock.now c.args.more c.args.first c.split-other.new.caller c.split-other.result c.join-first.result.0 c.join-first.result.1 c.join.new.caller some
    c.requires.starts c.split-other.ensures.old c.split-other.ensures.new first second.1 second.2 c.join.ensures
