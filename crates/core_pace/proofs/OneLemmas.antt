-- Each move keeps one geometry, and the tables sorted and as large as they may be.
use Rattle.std.proofs.Common.{◌≡◌, ◌∙◌, ℕ, ◌≤◌, Bool, List, [], ◌∷◌, Option, Some, None, refl, ap, sym}
use Rattle.std.proofs.lemmas.Grind.{common_steps}
use Rattle.std.proofs.lemmas.Bool.Decides.{nat_tests}
use Rattle.std.proofs.Common.{arith}
use Rattle.blsm_model.specs.Geometry.{high_mark}
use Rattle.blsm_model.specs.Lanes.{AreRoles, a_of, b_of, spare_of}
use Rattle.blsm_model.specs.Sizes.{Sizes}
use Rattle.blsm_model.specs.declared.key.Key.{Key}
use Rattle.record_delta.specs.Entries.{AreSorted, Entries}
use Rattle.gear_sched.specs.Gears.{GearState}
use Rattle.catalog_swap.specs.declared.catalog.Catalog.{Catalog}
use Rattle.tree_log.specs.Log.{LogState, dropped_by, turned_log, with_entries}
use Rattle.tree_machine.proofs.CursorLemmas.{sorted_ahead}
use Rattle.tree_machine.proofs.FoldLemmas.{sorted_with_records}
use Rattle.tree_runs.specs.Runs.{RunsState, released_by}
use Rattle.core_moves.specs.declared.held.Held.{Held}
use Rattle.core_moves.specs.Held.{FollowsPass, IsOne, goes_ahead}
use Rattle.core_moves.specs.Moves.{gears_after_pass, with_debts_forgiven, with_pass_begun}
use Rattle.core_pace.proofs.Terms.{MovesKeepOne}
use Rattle.core_pace.proofs.FollowLemmas.{follows_as, follows_begun, follows_none, follows_quantum, follows_turned, follows_write}

-- its parts, apart from the core and from what follows the pass
pub record One (s : Sizes) (ls : List ℕ) (l : LogState) (g : GearState) : Type 0 where
  pub gears : g.sizes ≡ s
  pub lanes : l.lanes.sizes ≡ s
  pub roles : l.lanes.roles ≡ ls
  pub apart : AreRoles ls
  pub reserved_a : high_mark s ≤ l.a.reserved
  pub reserved_b : high_mark s ≤ l.b.reserved
  pub sorted_a : AreSorted l.a.entries
  pub sorted_b : AreSorted l.b.entries

parts : (held : Held) → IsOne held → One held.runs.sizes held.runs.catalogue.lanes held.log held.gears
parts held one = record {
  gears = one.gears;
  lanes = one.lanes;
  roles = one.roles;
  apart = one.apart;
  reserved_a = one.reserved_a;
  reserved_b = one.reserved_b;
  sorted_a = one.sorted_a;
  sorted_b = one.sorted_b;
}

pub whole : (held : Held) → One held.runs.sizes held.runs.catalogue.lanes held.log held.gears
    → FollowsPass held.runs.pass held.runs.catalogue.c1.weight held.log → IsOne held
whole held one follows = record {
  gears = one.gears;
  lanes = one.lanes;
  roles = one.roles;
  apart = one.apart;
  reserved_a = one.reserved_a;
  reserved_b = one.reserved_b;
  sorted_a = one.sorted_a;
  sorted_b = one.sorted_b;
  follows = follows;
}

-- the runs and the log are as they were, as far as this goes
stays : {s t : Sizes} {ls ms : List ℕ} {l m : LogState} {g h : GearState} → One s ls l g → t ≡ s → ms ≡ ls → m ≡ l → h.sizes ≡ g.sizes → One t ms m h
stays one sizes lanes log gears = grind (arith, common_steps, nat_tests)

-- the lanes turn
turned : {s t : Sizes} {ls ms : List ℕ} {l m : LogState} {g h : GearState} → One s ls l g → t ≡ s → ms ≡ (turned_log l).lanes.roles → m ≡ turned_log l
    → h.sizes ≡ g.sizes → One t ms m h
turned one sizes lanes log gears = grind (arith, common_steps, nat_tests)

-- some entries more
written : {s : Sizes} {ls : List ℕ} {l m : LogState} {g h : GearState} (more : Entries) (ahead : Bool) → One s ls l g → m ≡ with_entries ahead more l
    → h.sizes ≡ g.sizes → One s ls m h
written more ahead one log gears = grind (arith, common_steps, nat_tests, sorted_with_records)

-- the table is dropped up to a key
dropped : {s t : Sizes} {ls ms : List ℕ} {l m : LogState} {g h : GearState} (key : Option Key) → One s ls l g → t ≡ s → ms ≡ ls → m ≡ dropped_by key l
    → h.sizes ≡ g.sizes → One t ms m h
dropped {s} {t} {ls} {ms} {l} {m} {g} {h} key one sizes lanes log gears = stays (cut key) sizes lanes log gears
  where
    cut : (key : Option Key) → One s ls (dropped_by key l) g
    cut None = one
    cut (Some key) = record {
      gears = one.gears;
      lanes = one.lanes;
      roles = one.roles;
      apart = one.apart;
      reserved_a = one.reserved_a;
      reserved_b = one.reserved_b;
      sorted_a = sorted_ahead (Some key) l.a.entries one.sorted_a;
      sorted_b = one.sorted_b;
    }

after_pass_sizes : (old : Held) → (gears_after_pass old).sizes ≡ old.gears.sizes
after_pass_sizes old = grind (arith, common_steps, nat_tests)

pub each_move_keeps_one : (old new : Held) → IsOne old → MovesKeepOne old new
each_move_keeps_one old new one = record {
  deep_swap = λ m. whole new (stays was m.runs.sizes (lanes m.runs.catalogue) m.log (sizes m.gears)) (follows_as m.runs.pass (c1 m.runs.catalogue) m.log one.follows);
  pass_swap = λ m. whole new (turned was m.runs.sizes (lanes m.runs.catalogue ∙ ap next_roles (sym one.roles)) m.log (sizes m.gears ∙ after_pass_sizes old))
      (follows_turned new.runs.pass new.runs.catalogue.c1.weight old.log new.log m.runs.pass m.log);
  rotation = λ rests m. whole new (stays was m.runs.sizes (lanes m.runs.catalogue) m.log (sizes m.gears))
      (follows_as (m.runs.pass ∙ rests) refl m.log
      (follows_none new.runs.catalogue.c1.weight old.log (one.follows.floor ∙ ap released_by rests) (one.follows.whole (one.follows.floor ∙ ap released_by rests))));
  begin = λ rests. whole (with_pass_begun old) (stays was refl refl refl refl) (follows_begun old rests one.follows);
  forgiving = λ seat. whole (with_debts_forgiven seat old) (stays was refl refl refl refl) one.follows;
  snow = λ seat n m. whole new (dropped (released_by new.runs.pass) was m.others.sizes (lanes m.others.catalogue) m.log (sizes m.gears))
      (follows_as refl (c1 m.others.catalogue) m.log (follows_quantum old.runs.pass new.runs.pass old.runs.catalogue.c1.weight old.log one.follows m.covers));
  deep = λ seat n m. whole new (stays was m.others.sizes (lanes m.others.catalogue) m.log (sizes m.gears))
      (follows_as m.others.pass (c1 m.others.catalogue) m.log one.follows);
  write = λ seat more m. whole new
      (stays (written {h = old.gears} more (goes_ahead more old) was refl refl) (ap (λ (r : RunsState). r.sizes) m.runs)
      (ap (λ (r : RunsState). r.catalogue.lanes) m.runs) m.log (sizes m.gears))
      (follows_as (ap (λ (r : RunsState). r.pass) m.runs) (ap (λ (r : RunsState). r.catalogue.c1.weight) m.runs) m.log
      (follows_write more old (goes_ahead more old) refl one));
}
  where
    was : One old.runs.sizes old.runs.catalogue.lanes old.log old.gears
    was = parts old one

    next_roles : List ℕ → List ℕ
    next_roles roles = b_of roles ∷ spare_of roles ∷ a_of roles ∷ []

    lanes : {k c : Catalog} → k ≡ c → k.lanes ≡ c.lanes
    lanes is = ap (λ (c : Catalog). c.lanes) is

    c1 : {k c : Catalog} → k ≡ c → k.c1.weight ≡ c.c1.weight
    c1 is = ap (λ (c : Catalog). c.c1.weight) is

    sizes : {g h : GearState} → g ≡ h → g.sizes ≡ h.sizes
    sizes is = ap (λ (g : GearState). g.sizes) is
