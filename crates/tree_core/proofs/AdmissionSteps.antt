-- An admission is one step of the machine, on an honest disk.
use Rattle.std.specs.Prelude.{is_some, IsSome, nat_lt, ◌^◌, ◌<◌}
use Rattle.std.proofs.lemmas.Grind.{common_steps}
use Rattle.std.proofs.lemmas.Bool.Decides.{nat_tests}
use Rattle.std.proofs.lemmas.List.Sums.{sum_by-cons}
use Rattle.std.proofs.Common.{◌≡◌, ◌∙◌, ⊎_elim, inr, ℕ, ◌+◌, ◌≤◌, Bool, true, false, cond, not, ◌&&◌, IsTrue, None, Some, Option, List, [], ◌∷◌, ◌++◌, length, length-append, refl, ap, sym, subst, arith}
use Rattle.std.proofs.lemmas.Bool.{lt-ltb}
use Rattle.std.proofs.lemmas.Option.{none-some}
use Rattle.refusal.specs.Count.{HasRisen}
use Rattle.blsm_model.specs.Sizes.{Sizes}
use Rattle.blsm_model.specs.Book.{Book}
use Rattle.blsm_model.specs.Geometry.{charge_limit}
use Rattle.blsm_model.specs.declared.key.Key.{Key}
use Rattle.blsm_model.specs.declared.row.Value.{Value}
use Rattle.blsm_model.specs.declared.op.Op.{Op}
use Rattle.blsm_model.specs.declared.op.Write.{Write}
use Rattle.blsm_model.specs.declared.history.Entry.{Entry}
use Rattle.blsm_model.specs.declared.history.Why.{Why}
use Rattle.blsm_model.specs.declared.history.Why.TheVariants.{Faulted}
use Rattle.blsm_model.specs.declared.history.Reply.{Reply}
use Rattle.blsm_model.specs.declared.history.Reply.TheVariants.{Done, Full, FaultLost, FaultUnsure}
use Rattle.blsm_model.specs.Histories.{is_done, is_met, writes_of}
use Rattle.blsm_model.specs.Images.{is_unsure}
use Rattle.blsm_model.specs.Legal.{total_weight, is_del}
use Rattle.blsm_model.specs.Values.{key_of, weight_of}
use Rattle.blsm_model.specs.Format.{least_weight}
use Rattle.record_delta.specs.declared.record.Rec.{Rec}
use Rattle.record_delta.specs.Records.{IsWithin, record_of, weight}
use Rattle.disk_trait.specs.Disk.{DiskState}
use Rattle.disk_trait.specs.Moments.{IsTimed, LeavesOnly}
use Rattle.disk_trait.proofs.MomentLemmas.{leaves_only_weaken, leaves_only_now}
use Rattle.pacing.specs.Pace.{Pace}
use Rattle.paced_tree.specs.Numbers.{pace_of}
use Rattle.pacing.specs.Fronts.{AreFronts}
use Rattle.paced_tree.specs.Kept.{IsPacedTree}
use Rattle.paced_tree.proofs.Promises.{has_way, step_is_paced}
use Rattle.seat_book.specs.State.{BookState, noted_in, stopped_in}
use Rattle.tree_machine.specs.declared.step.Kind.{Kind}
use Rattle.tree_machine.specs.declared.step.Kind.TheVariants as kind
use Rattle.tree_machine.specs.Machine.{Machine, charge, deep_done, pass_done}
use Rattle.tree_machine.specs.Moves.{note, stop, with_peak}
use Rattle.tree_machine.specs.Lists.{value_in}
use Rattle.tree_machine.specs.Outcomes.{IsPossible, calls_behind_look, is_broken}
use Rattle.tree_machine.specs.Plays.{may}
use Rattle.tree_machine.specs.Stands.{FitsFormat, FitTogether, WritesFit}
use Rattle.tree_machine.proofs.GrowLemmas.{taken_book}
use Rattle.tree_machine.proofs.LightLemmas.{write_is_light}
use Rattle.tree_machine.specs.Steps.{
  Outcome,
  Well,
  FailedAfter,
  Stepped,
  Replied,
  admit,
  admit_fitting,
  deep_swapped,
  one_if,
  ready_for,
  replied,
  swaps_due,
  taken_together,
}
use Rattle.tree_machine.proofs.FoldLemmas.{both}
use Rattle.tree_machine.proofs.LookLemmas.{looked_admits, met_failed, met_well}
use Rattle.tree_machine.specs.Layers.{IsSound}
use Rattle.tree_machine.proofs.ToldLemmas.{none_is_some}
use Rattle.tree_machine.proofs.CarryLemmas.{deep_swapped_carries, ready_carries}
use Rattle.tree_file.specs.Tree.{HoldsTree}
use Rattle.core_moves.specs.declared.held.Held.{Held}
use Rattle.core_moves.specs.Held.{charge_in}
use Rattle.core_moves.specs.Moves.{with_book}
use Rattle.core_pace.specs.Pacing.{HasPace}
use Rattle.core_lists.specs.Shown.{CommitsAs, HasFronts, ShowsHistory, ShowsWhole, doubted}
use Rattle.core_lists.specs.Images.{ShowsNoted, history_with}
use Rattle.core_lists.proofs.AppendLemmas.{not_past}
use Rattle.core_lists.proofs.FileWeights.{counts_itself, deep_swapped_counts, doubt_grows, ready_counts, weighs_as}
use Rattle.core_lists.proofs.GoingLemmas.{admission_fits}
use Rattle.core_lists.proofs.ShowingLemmas.{standing_shows, showing_is_kept, quiet_entry_counts_none, quiet_entry_shows}
use Rattle.core_lists.proofs.WriteLands.{book_lands}
use Rattle.tree_core.specs.Standing.{AnyRows, HasStopped, RunsOver, StandsFor}
use Rattle.tree_core.specs.Steps.{IsStep}
use Rattle.tree_core.specs.Taking.{TellsOf, TakenOver, HasLost, Spells, TakesOver, written_by}
use Rattle.tree_core.specs.declared.admission.Taking.TheVariants.{Failed}
use Rattle.tree_core.proofs.BoundLemmas.{rose}
use Rattle.tree_core.proofs.TakingLemmas.{spelled_weighs}
use Rattle.tree_core.proofs.TakingLists.{tells_of}
use Rattle.disk_trait.proofs.ReadLemmas.{only_reads_start}
use Rattle.tree_core.proofs.QuietLemmas.{quiet_step}
use Rattle.core_lists.proofs.Terms.{IsAt, CountsAs}

-- a command's write fits the format
pub write_fits : (op : Op) (key : Key) (rec : Rec) (n : ℕ) → Spells op key rec → IsWithin key rec → n ≡ weight key rec → least_weight ≤ n → WritesFit (kind.Admit op)
write_fits op key rec n is within weighs least =
    subst (λ (ws : List Write). FitTogether ws) (sym is.writes) (
    record {
      each = (fits, tt);
      light = omega (arith, write_is_light (written_by op) fits, sum_by-cons weight_of (written_by op) []);
    }
    )
  where
    within_here : IsWithin (key_of (written_by op)) (record_of (written_by op))
    within_here = subst (λ (k : Key). IsWithin k (record_of (written_by op))) is.key_is (subst (λ (r : Rec). IsWithin key r) is.rec_is within)

    least_here : least_weight ≤ weight_of (written_by op)
    least_here = omega (arith, least, weighs, spelled_weighs op key rec is, ap total_weight is.writes, sum_by-cons weight_of (written_by op) [])

    fits : FitsFormat (written_by op)
    fits = record { counts = is.count; within = within_here; tail = is.tail; least = least_here }

-- ---- what the next state shows

module _ (opening : List (Key × Value)) (seat : ℕ) (op : Op) (m : Machine) where
  abbrev entry : Reply → Entry
  entry reply = record { seat = seat; op = op; reply = reply }

  -- an entry that counts no write
  noted_whole : (reply : Reply) (file : List ℕ) → is_done reply ≡ false → is_unsure reply ≡ false → ShowsWhole opening m file → ShowsNoted opening seat op reply m file
  noted_whole reply file undone sure shows = (
    quiet_entry_shows m.gears.sizes opening m.book.entries (entry reply) file (quiet_entry_counts_none (entry reply) (inr (undone, sure))) shows.0,
    weighs_as m m m.book.entries (history_with seat op reply m) file refl (counts_itself m) (doubt_grows m.book.entries (entry reply ∷ [])) shows.1,
  )

  -- any entry
  kept_whole : (reply : Reply) (file : List ℕ) → ShowsWhole opening m file → ShowsHistory m.gears.sizes opening (history_with seat op reply m) (length m.book.entries) file
  kept_whole reply file shows = showing_is_kept m.gears.sizes opening m.book.entries (history_with seat op reply m) (length m.book.entries) (length m.book.entries) file (entry reply ∷ [], refl) (omega arith) shows.0

  -- a later machine of the same sizes, history and counts
  shows_after : (reply : Reply) (why : Why) (later : Machine) (file : List ℕ) → later.gears.sizes ≡ m.gears.sizes → later.book ≡ m.book → CountsAs m later → ShowsNoted opening seat op reply m file
      → ShowsWhole opening (note seat op reply (stop why later)) file
  shows_after reply why later file sizes book counts shows = (
    subst (λ (n : ℕ). ShowsHistory later.gears.sizes opening (later.book.entries ++ entry reply ∷ []) n file) (sym (length-append later.book.entries (entry reply ∷ [])))
        (subst (λ (b : Book). ShowsHistory later.gears.sizes opening (b.entries ++ entry reply ∷ []) (length b.entries + 1) file) (sym book)
        (subst (λ (z : Sizes). ShowsHistory z opening (history_with seat op reply m) (length m.book.entries + 1) file) (sym sizes) shows.0)),
    weighs_as m (note seat op reply (stop why later)) (history_with seat op reply m) (later.book.entries ++ entry reply ∷ []) file sizes (record { charge = counts.charge; peak = counts.peak; quanta = counts.quanta })
        (omega (arith, ap (λ (b : Book). doubted (b.entries ++ entry reply ∷ [])) book)) shows.1,
  )

  images_after : (reply : Reply) (later : Machine) (before after : DiskState) → later.book ≡ m.book
      → LeavesOnly before after (ShowsHistory m.gears.sizes opening (history_with seat op reply m) (length m.book.entries))
      → LeavesOnly before after (ShowsHistory m.gears.sizes opening (later.book.entries ++ entry reply ∷ []) (length m.book.entries))
  images_after reply later before after book images = grind (arith, common_steps, nat_tests)

-- ---- what is in memory then

stopped_tells : (seat : ℕ) (op : Op) (reply : Reply) (why : Why) (held : Held) (m : Machine) → TellsOf held m
    → TellsOf (with_book (noted_in seat op reply (stopped_in why held.book)) held) (note seat op reply (stop why m))
stopped_tells seat op reply why held m tells = grind (arith, common_steps, nat_tests)

standing_tells : (opening : List (Key × Value)) (held : Held) (m : Machine) (d : DiskState) → StandsFor AnyRows opening held m d → TellsOf held m
standing_tells opening held m d stands = record { sizes = stands.sizes; gears = stands.gears; book = stands.book; charge_is = stands.charge_is }

-- ---- failures, as the machine has them

deep_lost : (seat : ℕ) (op : Op) (w faults : ℕ) (m : Machine) → deep_done m ≡ true → admit_fitting m seat op w (FailedAfter 0 faults) ≡ replied seat op FaultLost (stop (Faulted faults) m)
deep_lost seat op w faults m done = grind (arith, common_steps, nat_tests)

pass_lost : (seat : ℕ) (op : Op) (w faults : ℕ) (m : Machine) → pass_done (deep_swapped m) ≡ true
    → admit_fitting m seat op w (FailedAfter (one_if (deep_done m)) faults) ≡ replied seat op FaultLost (stop (Faulted faults) (deep_swapped m))
pass_lost seat op w faults m done = grind (arith, common_steps, nat_tests)

append_lost : (seat : ℕ) (op : Op) (w faults : ℕ) (m : Machine) → admit_fitting m seat op w (FailedAfter (swaps_due m) faults) ≡ replied seat op FaultUnsure (stop (Faulted faults) (ready_for w m))
append_lost seat op w faults m = grind (arith, common_steps, nat_tests)

-- ---- the step

-- an admission that may be made, of a write whose condition holds
pub record IsAsked (opening : List (Key × Value)) (seat : ℕ) (op : Op) (held : Held) (m : Machine) (d : DiskState) : Type 0 where
  pub honest : IsTrue d.is_honest
  pub timed : IsTimed d
  pub stands : StandsFor AnyRows opening held m d
  pub may : IsTrue (may m seat (kind.Admit op))
  pub fits : WritesFit (kind.Admit op)
  pub met : is_met op (value_in m.lists) ≡ true

module _ (opening : List (Key × Value)) (seat : ℕ) (op : Op) (held : Held) (m : Machine) (d : DiskState) (is : IsAsked opening seat op held m d) where
  abbrev w : ℕ
  w = total_weight (writes_of op)

  abbrev limit : ℕ
  limit = charge_limit m.gears.sizes (is_del op)

  abbrev asked : Kind
  asked = kind.Admit op

  step_by : (outcome : Outcome) (reply : Reply) (s : Machine) (new : Held) (after : DiskState) → admit m seat op outcome ≡ record { state = s; answer = Replied reply }
      → IsPossible m seat asked outcome d.faults after.faults → is_broken outcome ≡ false → TellsOf new s
      → (new.book.stopped ≡ None → RunsOver new s after) → (IsSome new.book.stopped → HasStopped opening s after)
      → LeavesOnly d after (ShowsHistory m.gears.sizes opening s.book.entries (length m.book.entries)) → IsStep AnyRows opening seat asked (Replied reply) new d after m
  step_by outcome reply s new after same possible whole tells runs stopped images = record {
    outcome = outcome;
    possible = possible;
    whole = whole;
    stands = subst (λ (st : Stepped). StandsFor AnyRows opening new st.state after) (sym same)
        (record {
          paced = subst (λ (st : Stepped). IsPacedTree opening st.state) same
              (step_is_paced opening m (record { seat = seat; kind = asked }) outcome is.stands.paced is.may is.fits);
          sizes = tells.sizes;
          gears = tells.gears;
          book = tells.book;
          charge_is = tells.charge_is;
          runs = runs;
          rows = λ none. tt;
          stopped = stopped;
        });
    answers = sym (ap (λ (st : Stepped). st.answer) same);
    images = subst (λ (st : Stepped). LeavesOnly d after (ShowsHistory m.gears.sizes opening st.state.book.entries (length m.book.entries))) (sym same) images;
  }

  stop_is : m.stopped ≡ held.book.stopped
  stop_is = ap (λ (b : BookState). b.stopped) is.stands.book

  tells : TellsOf held m
  tells = standing_tells opening held m d is.stands

  -- It only notes an entry that counts no write.
  notes_alone : (reply : Reply) → admit m seat op Well ≡ replied seat op reply m → is_done reply ≡ false → is_unsure reply ≡ false
      → IsStep AnyRows opening seat asked (Replied reply) (with_book (noted_in seat op reply held.book) held) d d m
  notes_alone reply same undone sure =
      quiet_step {end = 0} {most = 0} opening seat asked Well (Replied reply) held held.runs.space (noted_in seat op reply held.book) m (note seat op reply m) (only_reads_start d is.timed) is.honest is.stands is.may is.fits tt refl same
      (record { same = record { lists = refl; merges = refl; gears = refl; spring = refl; catalogue = refl }; counts = record { charge = refl; peak = refl; quanta = refl }; book = ap (noted_in seat op reply) is.stands.book; stopped = refl; noted = inr (entry opening seat op m reply, refl, quiet_entry_counts_none (entry opening seat op m reply) (inr (undone, sure))) })
      (λ tree file of. of) (λ none. tt)

  -- ---- while it runs

  abbrev noted : Reply → Held
  noted reply = with_book (noted_in seat op reply held.book) held

  module _ (ran : held.book.stopped ≡ None) where
    runs : m.stopped ≡ None
    runs = stop_is ∙ ran

    over : RunsOver held m d
    over = is.stands.runs ran

    at : IsAt held over.tree m d.bytes
    at = record { are_of = over.over.are_of; holds = over.holds }

    shows_now : (file : List ℕ) → HoldsTree held.runs.sizes over.tree file → ShowsWhole opening m file
    shows_now file holds = standing_shows opening m over.fronts over.tree file is.stands.paced over.within over.holds.lists over.lanes (subst (λ (z : Sizes). HoldsTree z over.tree file) (sym is.stands.sizes) holds)

    full_here : limit < charge m + w → IsStep AnyRows opening seat asked (Replied (Full (charge m))) (noted (Full (charge m))) d d m
    full_here past = notes_alone (Full (charge m))
        (looked_admits m seat op Well None runs (met_well m op is.met)
        ∙ ap (λ (b : Bool). cond b (replied seat op (Full (charge m)) m) (admit_fitting m seat op w Well)) (lt-ltb limit (charge m + w) past)) refl refl

    -- a write that is refused for its size
    pub full_steps : charge_limit held.runs.sizes (is_del op) < charge_in held + w → IsStep AnyRows opening seat asked (Replied (Full (charge_in held))) (noted (Full (charge_in held))) d d m
    full_steps past =
        subst (λ (n : ℕ). IsStep AnyRows opening seat asked (Replied (Full n)) (noted (Full n)) d d m) is.stands.charge_is
        (full_here (subst (λ (n : ℕ). limit < n + w) (sym is.stands.charge_is) (subst (λ (z : Sizes). charge_limit z (is_del op) < charge_in held + w) (sym is.stands.sizes) past)))

    -- ---- and there is room

    module _ (room : charge_in held + w ≤ charge_limit held.runs.sizes (is_del op)) where
      room_here : charge m + w ≤ limit
      room_here = subst (λ (n : ℕ). n + w ≤ limit) (sym is.stands.charge_is) (subst (λ (z : Sizes). charge_in held + w ≤ charge_limit z (is_del op)) (sym is.stands.sizes) room)

      calls_here : IsTrue (not (is_some m.stopped) && calls_behind_look m seat asked)
      calls_here =
          ap (λ (o : Option Why). not (is_some o) && calls_behind_look m seat asked) runs
          ∙ both (is_met op (value_in m.lists)) (not (nat_lt limit (charge m + w))) is.met (ap not (not_past limit (charge m + w) room_here))

      -- a call failed, after so many swaps, and the store stops
      module _ (after : DiskState) (order : d.faults ≤ after.faults) (small : after.faults < 2 ^ 64) (risen : HasRisen d.faults after.faults) (left : Held) where
        abbrev why : Why
        why = Faulted after.faults

        abbrev stopped : Reply → Held
        stopped reply = with_book (noted_in seat op reply (stopped_in why left.book)) left

        fails_by : (reply : Reply) (commits : ℕ) (later : Machine) → admit_fitting m seat op w (FailedAfter commits after.faults) ≡ replied seat op reply (stop why later) → commits ≤ swaps_due m
            → TellsOf left later → later.gears.sizes ≡ m.gears.sizes → later.book ≡ m.book → CountsAs m later
            → ((c : List ℕ) → after.images c → ShowsNoted opening seat op reply m c)
            → ShowsNoted opening seat op reply m after.bytes → CommitsAs later after
            → LeavesOnly d after (ShowsHistory m.gears.sizes opening (history_with seat op reply m) (length m.book.entries))
            → IsStep AnyRows opening seat asked (Replied reply) (stopped reply) d after m
        fails_by reply commits later same few left_tells sizes book counts each reads committed images =
            step_by (FailedAfter commits after.faults) reply (note seat op reply (stop why later)) (stopped reply) after
            (admission_fits m seat op (FailedAfter commits after.faults) runs (met_failed m op commits after.faults is.met) room_here ∙ same)
            (calls_here, few, rose d.faults after.faults order small risen, refl) refl (stopped_tells seat op reply why left later left_tells)
            (λ (still : Some why ≡ None). absurd (none-some why (sym still)))
            (λ some. record {
              reads = shows_after opening seat op m reply why later after.bytes sizes book counts reads;
              each = λ c here. shows_after opening seat op m reply why later c sizes book counts (each c here);
              commits = committed;
            })
            (images_after opening seat op m reply later d after book images)

        -- a swap failed
        lost_steps : IsTimed after → HasLost m left after → LeavesOnly d after (ShowsWhole opening m) → ShowsWhole opening m after.bytes → IsStep AnyRows opening seat asked (Replied FaultLost) (stopped FaultLost) d after m
        lost_steps timed lost images reads = ⊎_elim
            (λ deep. by 0 m (deep_lost seat op w after.faults m deep.1) (omega arith) deep.0 refl refl (counts_itself m) deep.2)
            (λ pass.
            let carries = deep_swapped_carries m is.stands.paced.stands.sound in
            by (one_if (deep_done m)) (deep_swapped m) (pass_lost seat op w after.faults m pass.1) (omega arith) pass.0 carries.sizes carries.book (deep_swapped_counts m) pass.2)
            lost
          where
            by : (commits : ℕ) (later : Machine) → admit_fitting m seat op w (FailedAfter commits after.faults) ≡ replied seat op FaultLost (stop why later) → commits ≤ swaps_due m
                → TellsOf left later → later.gears.sizes ≡ m.gears.sizes → later.book ≡ m.book → CountsAs m later → CommitsAs later after → IsStep AnyRows opening seat asked (Replied FaultLost) (stopped FaultLost) d after m
            by commits later same few left_tells sizes book counts committed =
                fails_by FaultLost commits later same few left_tells sizes book counts
                (λ c here. noted_whole opening seat op m FaultLost c refl refl (leaves_only_now timed images c here))
                (noted_whole opening seat op m FaultLost after.bytes refl refl reads) committed
                (leaves_only_weaken (λ c shows. kept_whole opening seat op m FaultLost c shows) images)

        -- the append failed
        unsure_steps : TellsOf left (ready_for w m) → LeavesOnly d after (ShowsHistory m.gears.sizes opening (history_with seat op FaultUnsure m) (length m.book.entries))
            → ((c : List ℕ) → after.images c → ShowsNoted opening seat op FaultUnsure m c)
            → ShowsNoted opening seat op FaultUnsure m after.bytes → CommitsAs (ready_for w m) after
            → IsStep AnyRows opening seat asked (Replied FaultUnsure) (stopped FaultUnsure) d after m
        unsure_steps left_tells images each reads committed =
            let carries = ready_carries w m is.stands.paced.stands.sound (has_way opening m is.stands.paced) in
            fails_by FaultUnsure (swaps_due m) (ready_for w m) (append_lost seat op w after.faults m) (omega arith) left_tells carries.sizes carries.book (ready_counts w m) each reads committed images

        -- a call failed
        pub failed_steps : (begun : Bool) → IsTimed after → TakesOver (Failed begun) opening seat op m left d after
            → IsStep AnyRows opening seat asked (Replied (cond begun FaultUnsure FaultLost)) (stopped (cond begun FaultUnsure FaultLost)) d after m
        failed_steps true timed taken = unsure_steps taken.0 taken.1 taken.2 taken.3 taken.4
        failed_steps false timed taken = lost_steps timed taken.0 taken.1 taken.2

      -- the write was taken
      pub taken_steps : (new : Held) (after : DiskState) (numbers : Pace) → TakenOver opening seat op m new after → new.book.stopped ≡ None
          → HasPace (with_book (noted_in seat op Done new.book) new) numbers → new.gears.sizes ≡ new.runs.sizes
          → LeavesOnly d after (ShowsHistory m.gears.sizes opening (history_with seat op Done m) (length m.book.entries))
          → IsStep AnyRows opening seat asked (Replied Done) (with_book (noted_in seat op Done new.book) new) d after m
      taken_steps new after numbers taken on has one images =
          step_by Well Done next then after same tt refl (tells_of then taken.tree next after.bytes numbers at_next sound has one)
          (λ still. record {
            fronts = taken.fronts;
            tree = taken.tree;
            over = record { stands = taken.over.stands; are_of = taken.over.are_of };
            holds = at_next.holds;
            within = subst (λ (st : Stepped). AreFronts (pace_of st.state) taken.fronts) same taken.goes.within;
            lanes = subst (λ (st : Stepped). HasFronts taken.tree st.state.lists taken.fronts) same taken.goes.lanes;
          })
          (λ some. absurd (none_is_some new.book.stopped on some))
          (images_after opening seat op m Done wrote d after (taken_book seat (writes_of op) (ready_for w m) ∙ (ready_carries w m is.stands.paced.stands.sound (has_way opening m is.stands.paced)).book) images)
        where
          wrote : Machine
          wrote = with_peak (taken_together seat (writes_of op) (ready_for w m))

          next : Machine
          next = note seat op Done wrote

          then : Held
          then = with_book (noted_in seat op Done new.book) new

          same : admit m seat op Well ≡ replied seat op Done wrote
          same = admission_fits m seat op Well runs (met_well m op is.met) room_here

          sound : IsSound next
          sound = subst (λ (st : Stepped). IsSound st.state) same taken.goes.paced.stands.sound

          at_next : IsAt then taken.tree next after.bytes
          at_next = (book_lands new taken.tree wrote after.bytes (record { are_of = taken.over.are_of; holds = taken.holds })).note seat op Done
