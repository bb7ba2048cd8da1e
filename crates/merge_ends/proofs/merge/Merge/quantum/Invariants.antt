use Rattle.std.proofs.Common.{◌-◌, ◌≡◌, ◌+◌, ◌≤◌, IsTrue, List, ℕ}
use Rattle.record_delta.specs.Entries.{Entries}
use Rattle.merge_ends.specs.Merge.{Covers, IsMerging, progress, quantum_calls}
use Rattle.merge_ends.specs.Newer.{newer_calls}
use Rattle.merge_ends.specs.Output.{IsUpTo}
use Rattle.merge_ends.specs.Quantum.{HasTaken}
use Rattle.merge_ends.specs.Progress.{stage}
use Rattle.merge_ends.proofs.NewerLemmas.{spent}
use Rattle.merge_ends.proofs.ProgressLemmas.{HasMerged}
use Rattle.merge_ends.proofs.merge.Merge.quantum.Given as goal

abbrev pub invariant-loop-taken : goal.invariant-loop-taken
invariant-loop-taken g l = record {
  quantum : l.quantum ≡ l.geo.quantum;
  same_kind : newer_calls (g.N.Newer.run l.newer) ≡ newer_calls (g.N.Newer.run l.fn.newer);
  same_table : g.N.Newer.table l.newer ≡ g.N.Newer.table l.fn.newer;
  covers : (total : ℕ) → Covers l.settles total l.fn.self (g.N.Newer.run l.fn.newer) (g.N.Newer.table l.fn.newer)
      → Covers l.settles total l.self (g.N.Newer.run l.newer) (g.N.Newer.table l.newer) × IsUpTo l.fn.self.closed l.self.closed;
  calls : (g.D.Disk.state l.disk).clock ≤ (g.D.Disk.state l.fn.disk).clock + spent (g.N.Newer.run l.fn.newer) l.taken;
  numbers : HasMerged l.geo (quantum_calls (g.N.Newer.run l.fn.newer) l.geo.quantum) (stage (progress l.fn.self (g.N.Newer.run l.fn.newer) (g.N.Newer.table l.fn.newer)) l.fn.space l.fn.filter l.fn.fences (g.D.Disk.state l.fn.disk))
      (stage (progress l.self (g.N.Newer.run l.newer) (g.N.Newer.table l.newer)) l.space l.filter l.fences (g.D.Disk.state l.disk)) l.taken;
  lists : (overs unders : List ℕ) (over under : Entries) → IsTrue (g.D.Disk.state l.fn.disk).is_honest
      → IsMerging l.settles l.geo (g.D.Disk.state l.fn.disk).bytes l.fn.space l.fn.self (g.N.Newer.run l.fn.newer) (g.N.Newer.table l.fn.newer) l.fn.filter l.fn.fences overs unders over under
      → IsMerging l.settles l.geo (g.D.Disk.state l.disk).bytes l.space l.self (g.N.Newer.run l.newer) (g.N.Newer.table l.newer) l.filter l.fences overs unders over under × HasTaken l.geo.quantum l.fn.self.at l.self.at over under l.taken;
}

abbrev pub decreases-loop-taken : goal.decreases-loop-taken
decreases-loop-taken g l = l.quantum - l.taken
