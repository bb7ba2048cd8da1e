use Rattle.std.proofs.Common.{◌≡◌, ℕ, ◌+◌, true, inr, refl, sym, subst, arith}
use Rattle.std.proofs.lemmas.Grind.{common_steps}
use Rattle.std.proofs.lemmas.Bool.Decides.{nat_tests}
use Rattle.blsm_model.specs.Legal.{is_write}
use Rattle.blsm_model.specs.Scripts.{rows_of}
use Rattle.blsm_model.specs.declared.history.Reply.TheVariants as reply
use Rattle.blsm_model.specs.declared.op.Op.{Op}
use Rattle.tree_shared.specs.Seats.{KnowsOf, IsFree}
use Rattle.tree_shared.proofs.CommandLemmas.{comes_on, did_paid}
use Rattle.tree_shared.proofs.commands.write.Goals as goal

asks_none : (op : Op) → is_write op ≡ true → rows_of op ≡ 0
asks_none op write = grind (arith, common_steps, nat_tests)

pub pay_off-requires : goal.pay_off-requires
pay_off-requires g c =
    let knows = subst (λ (n : ℕ). KnowsOf (IsFree 1 (0 + n)) c.args.caller.now) (sym (asks_none c.args.op.now c.requires.write)) c.requires.comes.knows in
    record { comes = comes_on g.D.Disk.state _ c.requires.comes (inr c.in-Admitted.ensures.did.1) (c.in-Admitted.ensures.owing 0 0 knows) }

pub returns-in-Admitted : goal.returns-in-Admitted
returns-in-Admitted g c = (
  reply.Done,
  refl,
  record {
    did = did_paid g.D.Disk.state c.args.caller.now c.admit.new.caller c.pay_off.new.caller
        (record { seat = c.args.caller.now.number; op = c.args.op.now; reply = reply.Done }) c.in-Admitted.ensures.did.1 c.pay_off.ensures.did;
    free = λ entries rows knows. c.pay_off.ensures.free entries rows (c.in-Admitted.ensures.owing entries rows knows);
  },
)

pub returns-in-Kept : goal.returns-in-Kept
returns-in-Kept g c = (
  reply.Kept c.in-Kept.ensures.did.0,
  (c.in-Kept.ensures.did.0, refl),
  record
      { did = c.in-Kept.ensures.did.1; free = c.in-Kept.ensures.free (λ same. cc same) },
)

pub returns-in-Full : goal.returns-in-Full
returns-in-Full g c = (reply.Full c.in-Full.charge, refl, record { did = c.in-Full.ensures.did.1; free = c.in-Full.ensures.free (λ same. cc same) })

pub returns-in-ReadFault : goal.returns-in-ReadFault
returns-in-ReadFault g c = (reply.Fault, refl, record { did = c.in-ReadFault.ensures.did.1; free = c.in-ReadFault.ensures.free (λ same. cc same) })

pub returns-in-Damaged : goal.returns-in-Damaged
returns-in-Damaged g c = (
  reply.Damaged c.in-Damaged.page,
  refl,
  record
      { did = c.in-Damaged.ensures.did.1; free = c.in-Damaged.ensures.free (λ same. cc same) },
)

pub returns-in-Stopped : goal.returns-in-Stopped
returns-in-Stopped g c = (
  reply.Stopped c.in-Stopped.why,
  refl,
  record {
    did = c.in-Stopped.ensures.did.1;
    free = c.in-Stopped.ensures.free
        (λ same. cc same);
  },
)
