use Rattle.std.proofs.Common.{ℕ, ◌+◌, [], ◌∷◌, subst}
use Rattle.blsm_model.specs.Stored.{as_reply}
use Rattle.blsm_model.specs.declared.op.Op.TheVariants.{Work}
use Rattle.tree_shared.specs.Seats.{DidOn}
use Rattle.tree_shared.proofs.CommandLemmas.{comes_on, did_ended, number_went}
use Rattle.tree_shared.proofs.commands.work.Goals as goal

pub end_work-requires : goal.end_work-requires
end_work-requires g c = record { comes = comes_on g.D.Disk.state [] c.requires.comes c.turns.ensures.went (c.turns.ensures.finished 1 0 c.requires.comes.knows) }

pub returns : goal.returns
returns g c =
    let state = g.D.Disk.state in
    let caller = c.args.caller.now in
    let mid = c.turns.new.caller in
    let reply = as_reply c.end_work.result in
    record {
      did = did_ended state caller mid c.end_work.new.caller (record { seat = caller.number; op = Work c.args.n; reply = reply }) c.turns.ensures.went
          (subst (λ (n : ℕ). DidOn state mid (record { seat = n; op = Work c.args.n; reply = reply } ∷ []) c.end_work.new.caller) (number_went state caller mid [] c.turns.ensures.went) c.end_work.ensures.did);
      free = λ entries rows knows. c.end_work.ensures.free entries rows (c.turns.ensures.finished (entries + 1) (rows + 0) knows);
    }
