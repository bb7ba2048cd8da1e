use Rattle.std.proofs.Common.{rules, ◌<◌}
use Rattle.turn_lock.proofs.Rests.{starts_less, ready_less, ends_all}
use Rattle.turn_lock.proofs.shared.+fn-run_rest-join+arg2+run_rest.Goals as goal

pub join-first-requires-after_bounds : goal.join-first-requires-after_bounds
join-first-requires-after_bounds g t c κs within =
    let some : 0 < c.args.more = search rules in
    let old = c.split-other.ensures.old in
    let new = c.split-other.ensures.new in
    ((search rules, ((λ a m. m), ((search rules, some, starts_less c.args.lock.now c.args.more c.args.count c.args.first c.split-other.new.caller some c.requires old), search rules))), ready_less c.args.lock.now c.args.more c.args.count c.args.first c.split-other.result some c.requires new)

pub returns : goal.returns
returns g t c =
    let some : 0 < c.args.more = search rules in
    ends_all c.args.lock.now c.args.more c.args.count c.args.first c.split-other.new.caller c.split-other.result c.join-first.result.0 c.join-first.result.1 c.join.new.caller some c.requires c.split-other.ensures.old c.split-other.ensures.new (let r = c.join-first.ensures.first in search rules) (let r = c.join-first.ensures.second in search rules) c.join.ensures
