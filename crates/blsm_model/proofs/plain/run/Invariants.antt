use Rattle.std.proofs.Common.{◌≡◌, ◌≤◌, true, [], take}
use Rattle.std.specs.List.{list_all}
use Rattle.blsm_model.specs.Scripts.{asked, asked_in}
use Rattle.blsm_model.specs.Plain.{StandsAfter, is_plain_reply}
use Rattle.blsm_model.proofs.plain.run.Given as goal

-- the store stands where the history so far leads, and the history has the lines so far
abbrev pub invariant-loop-line : goal.invariant-loop-line
invariant-loop-line l = record {
  stands : StandsAfter l.plain [] 0 l.history.items;
  limit : l.plain.limit ≡ l.limit;
  fits : l.plain.charge ≤ l.plain.limit;
  answered : list_all (λ e. is_plain_reply e.reply) l.history.items ≡ true;
  lines : asked_in l.history.items ≡ asked (take l.line-index l.script);
}
