-- Where the outside does its part, no answer but what was asked for, done, or want of memory has its cause.
use Rattle.std.proofs.lemmas.Bool.Decides.{nat_tests}
use Rattle.std.proofs.lemmas.Grind.{common_steps}
use Rattle.std.proofs.Common.{◌≡◌, ℕ, ◌<◌, ◌≤◌, List, true, false, Option, Some, IfSome, IsTrue, [], length, refl, ap, sym, subst, ◌∙◌, arith, ◌⊎◌, inl, inr}
use Rattle.refusal.specs.Count.{HasRisen}
use Rattle.disk_trait.specs.Disk.{DiskState}
use Rattle.disk_trait.specs.Shelf.{IsFreshCount}
use Rattle.text_io.specs.Text.{SinkState}
use Rattle.blsm_model.specs.Format.{most_script}
use Rattle.blsm_model.specs.Geometry.{limits_of}
use Rattle.blsm_model.specs.Legal.{IsLegal, Limits}
use Rattle.blsm_model.specs.Sizes.{Sizes}
use Rattle.blsm_model.specs.declared.history.Line.{Line}
use Rattle.blsm_model.specs.declared.key.Key.{Key}
use Rattle.blsm_model.specs.declared.room.Room.{Room}
use Rattle.blsm_model.specs.declared.row.Value.{Value}
use Rattle.script_text.specs.Grammar.{IsBadLine}
use Rattle.script_text.proofs.GrammarLaws.{script_not_bad}
use Rattle.program_words.specs.Words.{Asked, make, run, check, serve, settle}
use Rattle.tree_file.specs.Tree.{Tree, HoldsTree, ReadsAsMap}
use Rattle.tree_reading.specs.Damage.{most_version}
use Rattle.tree_reading.specs.First.{IsOfFile}
use Rattle.tree_reading.specs.Reading.{IsWhy}
use Rattle.tree_reading.specs.declared.found.Unreadable.{Unreadable}
use Rattle.tree_reading.specs.declared.found.Unreadable.TheVariants as unreadable
use Rattle.recover_open.specs.Making.{WasNotEmpty}
use Rattle.store_run.specs.declared.run.Ending.{Ending}
use Rattle.store_run.specs.declared.run.Ending.TheVariants as ending
use Rattle.store_run.specs.Run.{Run, finds_damage}
use Rattle.store_serve.specs.Room.{room_for}
use Rattle.store_serve.specs.declared.closing.Closing.TheVariants as closing
use Rattle.store_serve.specs.Taken.{lines_in}
use Rattle.store_trial.specs.Trial.{IsRoomOf}
use Rattle.store_serve.proofs.WholeLemmas.{no_bad_line, no_full}
use Rattle.blsm_run.specs.declared.outcome.Refusal.TheVariants as refusal
use Rattle.blsm_run.specs.declared.status.Status.{Status}
use Rattle.blsm_run.specs.declared.status.Status.TheVariants.{Done, NoMemory}
use Rattle.blsm_run.specs.Outside.{IsQuietCount, OfTheDisk, Outside}
use Rattle.blsm_run.specs.Outcome.{Outcome, refused, made, ran, served, checked, settled, tried, Tells, TellsLines, status_of}
use Rattle.blsm_run.specs.Stores.{IsRunOnShelf, WasCalm, WasRefused, WasLookedAt}
use Rattle.blsm_run.specs.Cause.{Cause, WasAsked}
use Rattle.blsm_run.specs.Answer.{Answers, IsGranted, IsOpenable, HasDisk, CanBeDone}
use Rattle.blsm_run.proofs.TrialLemmas.{ends_trial}

quiet_is_no_rise : {old new : ℕ} → IsQuietCount old new → HasRisen old new → ⊥
quiet_is_no_rise quiet risen = omega (arith, quiet.0, quiet.1, risen)

-- what was told is what is said of it
told : (left : Option (List ℕ)) (input : List ℕ) (P : List ℕ → Type 0) → left ≡ Some input → IfSome left P → P input
told left input P is fact = subst (λ (o : Option (List ℕ)). IfSome o P) is fact

-- the status is that of the outcome, since the sink did not fail
tells_status : (sink sink_after : SinkState) (outcome : Outcome) (status : Status) → IsQuietCount sink.faults sink_after.faults → Tells sink sink_after outcome status → status ≡ status_of outcome
tells_status sink sink_after outcome status quiet h1 = grind (arith, common_steps, nat_tests, quiet_is_no_rise)

module _ {D : Type 0} (state : D → DiskState) (honest_tells : (d : D) → IsTrue (state d).is_honest → IsTrue (state d).tells_bytes) (one_tree : (sizes : Sizes) (one other : Tree) (file : List ℕ) → HoldsTree sizes one file → HoldsTree sizes other file → one ≡ other) (is_read : (sizes : Sizes) (pairs : List (Key × Value)) (why : Unreadable) (file : List ℕ) → (reads : ReadsAsMap sizes pairs file) → reads.tree.catalogue.version ≤ most_version → IsOfFile why → IsWhy why file → ⊥) where
  -- a store that can be opened gives no reason not to be read
  no_reason : (why : Unreadable) (file : List ℕ) → IsOpenable file → IsOfFile why → IsWhy why file → ⊥
  no_reason why file openable of_file because =
      let store = openable.2 in
      let same : store.reads.tree ≡ store.image = one_tree openable.0 store.reads.tree store.image file store.reads.holds store.holds in
      is_read openable.0 openable.1 why file store.reads (subst (λ (t : Tree). t.catalogue.version ≤ most_version) (sym same) store.taken) of_file because

  module _ (o : Outside D) (sink sink_after : SinkState) (granted : IsGranted state o sink sink_after) where
    -- what the words ask for can be done
    can : (asked : Asked) → WasAsked o asked → CanBeDone state o asked
    can asked was =
        let same : Some granted.what ≡ Some asked = sym granted.asked.1 ∙ was.1 in
        let is : granted.what ≡ asked = cc in
        subst (λ (a : Asked). CanBeDone state o a) is granted.can

    -- what is said of the disk that stands there
    said : (name : List ℕ) (P : List ℕ → Type 0) (Q : DiskState → DiskState → Type 0) → HasDisk state o name P → OfTheDisk state name o.shelf o.shelf_after Q
        → (first : D) × (last : D) × IsTrue (state first).is_honest × IsTrue (state first).tells_bytes × P (state first).bytes × Q (state first) (state last)
    said name P Q has of_disk =
        let (stood, first, last, at, count, back, says) = of_disk has.tells in
        let same : Some stood ≡ Some has.disk = sym at ∙ has.stands in
        let is : stood ≡ has.disk = cc in
        let fresh = subst (λ (d : D). IsFreshCount (state d) (state first)) is count in
        (first, last, fresh.is_honest ∙ has.honest, fresh.tells_bytes ∙ honest_tells has.disk has.honest, subst P (sym fresh.bytes) has.is, says)

    refused_opening : (why : Unreadable) → IsOfFile why → (name : List ℕ) → HasDisk state o name IsOpenable → WasCalm state name false o.shelf o.shelf_after (WasRefused why) → ⊥
    refused_opening why of_file name has calm =
        let s = said name IsOpenable (WasRefused why) has calm.disk in
        no_reason why (state s.0).bytes s.4 of_file (s.5.because s.2)

    refused_check : (why : Unreadable) → IsOfFile why → (name : List ℕ) → WasAsked o (check name) → WasCalm state name false o.shelf o.shelf_after (WasLookedAt (IsWhy why)) → ⊥
    refused_check why of_file name asked calm =
        let s = said name IsOpenable (WasLookedAt (IsWhy why)) (can (check name) asked) calm.disk in
        no_reason why (state s.0).bytes s.4 of_file (s.5.is s.2)

    -- lines that were done over the disk that stands there: no page was found damaged, and the replies are the sequential map's
    honest_run : (name : List ℕ) (lines : List Line) (workers turns : ℕ) (IsRoom : Room → Type 0) (history : Run) (end : Ending) → HasDisk state o name IsOpenable → IsRunOnShelf state name lines workers turns IsRoom history end o.shelf o.shelf_after
        → (finds_damage history ≡ false) × (limits : Limits) × (opening : List (Key × Value)) × IsLegal limits opening history.entries
    honest_run name lines workers turns IsRoom history end has runs =
        let disk = runs.disk has.tells in
        let same : Some disk.stood ≡ Some has.disk = sym disk.was ∙ has.stands in
        let is_that : disk.stood ≡ has.disk = cc in
        let honest = disk.fresh.is_honest ∙ subst (λ (d : D). IsTrue (state d).is_honest) (sym is_that) has.honest in
        let whole = runs.ran.headline honest in
        (whole.2.served.no_page, limits_of whole.0 history.charge, whole.2.served.opening, whole.2.served.replies)

    -- they ended without a fault and without damage
    is_well : (name : List ℕ) (lines : List Line) (workers turns : ℕ) (IsRoom : Room → Type 0) (history : Run) (end : Ending) → HasDisk state o name IsOpenable → IsRunOnShelf state name lines workers turns IsRoom history end o.shelf o.shelf_after → end ≡ ending.Well
    is_well name lines workers turns IsRoom history ending.Well has runs = refl
    is_well name lines workers turns IsRoom history ending.Faulted has runs = absurd (omega (arith, granted.shelf_quiet.0, granted.shelf_quiet.1, runs.ran.ended, runs.rose))
    is_well name lines workers turns IsRoom history ending.Damaged has runs =
        let none = (honest_run name lines workers turns IsRoom history ending.Damaged has runs).0 in
        let never : true ≡ false = sym runs.ran.ended.1 ∙ none in
        absurd (cc)

    pub completes : (outcome : Outcome) (status : Status) → TellsLines outcome sink sink_after → Cause state o outcome → status ≡ status_of outcome → (status ≡ Done) ⊎ (status ≡ NoMemory)
    completes (refused refusal.Usage) status lines cause is = absurd (cause.0 granted.asked.0)
    completes (refused refusal.SourceFault) status lines cause is = absurd (quiet_is_no_rise granted.source_quiet cause.0.reads.0.0)
    completes (refused refusal.TooBig) status lines (a, still) is =
        let script = (can (run a.name a.options) a.asked).1 in
        let long = told o.source.left script.input (λ input. most_script < length input) script.told a.reads.0 in
        absurd (omega (arith, long, script.short))
    completes (refused (refusal.BadLine n)) status lines (a, still) is =
        let script = (can (run a.name a.options) a.asked).1 in
        let bad = told o.source.left script.input (λ input. (length input ≤ most_script) × (o.source_after.left ≡ Some []) × IsBadLine input n) script.told a.reads.whole in
        absurd (script_not_bad script.input script.lines n script.script bad.2)
    completes (refused refusal.DiskFault) status lines (inl was) is = absurd (quiet_is_no_rise granted.shelf_quiet was.makes.rose.0)
    completes (refused refusal.DiskFault) status lines (inr (inl was)) is = absurd (quiet_is_no_rise granted.shelf_quiet was.2.rose.0)
    completes (refused refusal.DiskFault) status lines (inr (inr (inl was))) is = absurd (quiet_is_no_rise granted.shelf_quiet was.refuses.rose.0)
    completes (refused refusal.DiskFault) status lines (inr (inr (inr (inl was)))) is = absurd
        (quiet_is_no_rise granted.shelf_quiet was.checks.rose.0)
    completes (refused refusal.DiskFault) status lines (inr (inr (inr (inr was)))) is = absurd
        (quiet_is_no_rise granted.shelf_quiet was.settles.rose.0)
    completes (refused refusal.NotAStore) status lines (inl (ls, a, why)) is = absurd (refused_opening unreadable.NotAStore tt a.name (can (run a.name a.options) a.asked).0 why)
    completes (refused refusal.NotAStore) status lines (inr (inl was)) is =
        absurd (refused_opening unreadable.NotAStore tt was.asks.name (can (serve was.asks.name was.asks.callers was.asks.ships) was.asks.asked).0
        was.refuses)
    completes (refused refusal.NotAStore) status lines (inr (inr (inl was))) is = absurd
        (refused_check unreadable.NotAStore tt was.name was.asked was.checks)
    completes (refused refusal.NotAStore) status lines (inr (inr (inr was))) is = absurd
        (refused_opening unreadable.NotAStore tt was.name (can (settle was.name) was.asked) was.settles)
    completes (refused (refusal.NotEmpty n)) status lines was is =
        let s = said was.name (λ file. file ≡ []) (WasNotEmpty n) (can (make was.name was.sizes) was.asked) was.makes.disk in
        let none : length (state s.0).bytes ≡ 0 = ap (λ (l : List ℕ). length l) s.4 in
        absurd (omega (arith, s.5.some, s.5.length_is s.3, none))
    completes (refused (refusal.Damaged place)) status lines (inl (ls, a, why)) is = absurd (refused_opening (unreadable.Damaged place) tt a.name (can (run a.name a.options) a.asked).0 why)
    completes (refused (refusal.Damaged place)) status lines (inr (inl was)) is =
        absurd (refused_opening (unreadable.Damaged place) tt was.asks.name
        (can (serve was.asks.name was.asks.callers was.asks.ships) was.asks.asked).0 was.refuses)
    completes (refused (refusal.Damaged place)) status lines (inr (inr (inl was))) is = absurd
        (refused_check (unreadable.Damaged place) tt was.name was.asked was.checks)
    completes (refused (refusal.Damaged place)) status lines (inr (inr (inr was))) is = absurd
        (refused_opening (unreadable.Damaged place) tt was.name (can (settle was.name) was.asked) was.settles)
    completes (refused (refusal.Worn version)) status lines (inl (ls, a, why)) is = absurd (refused_opening (unreadable.Worn version) tt a.name (can (run a.name a.options) a.asked).0 why)
    completes (refused (refusal.Worn version)) status lines (inr (inl was)) is =
        absurd (refused_opening (unreadable.Worn version) tt was.asks.name
        (can (serve was.asks.name was.asks.callers was.asks.ships) was.asks.asked).0 was.refuses)
    completes (refused (refusal.Worn version)) status lines (inr (inr (inl was))) is = absurd
        (refused_check (unreadable.Worn version) tt was.name was.asked was.checks)
    completes (refused (refusal.Worn version)) status lines (inr (inr (inr was))) is = absurd
        (refused_opening (unreadable.Worn version) tt was.name (can (settle was.name) was.asked) was.settles)
    completes (refused refusal.NoMemory) status lines cause is = inr is
    completes (made length) status lines cause is = inl is
    completes (ran options history end) status lines (ls, a, same, runs) is =
        let well = is_well a.name ls a.options.workers a.options.turns (λ room. IsRoomOf room ls) history end (can (run a.name a.options) a.asked).0 runs in
        inl (is ∙ ap (λ (e : Ending). status_of (ran options history e)) well)
    completes (served ships history end closing.SinkFault) status (cut, (no_fall, risen, once)) (a, same, s) is =
        absurd (quiet_is_no_rise granted.sink_quiet risen)
    completes (served ships history end closing.SourceFault) status lines (a, same, s) is =
        absurd (quiet_is_no_rise granted.source_quiet s.takes.counts.1)
    completes (served ships history end (closing.BadLine n)) status lines (a, same, s) is =
        let (has, session) = can (serve a.name a.callers a.ships) a.asked in
        let (no_page, limits, opening, legal) = honest_run a.name (lines_in history.entries) 0 0 (λ room. room ≡ room_for a.callers) history end has s.runs in
        absurd (no_bad_line limits opening (room_for a.callers) session.lines session.allowed session.room history.entries legal o.source o.source_after session.told n s.takes)
    completes (served ships history end (closing.NoRoom n)) status lines (a, same, s) is =
        let (has, session) = can (serve a.name a.callers a.ships) a.asked in
        let (no_page, limits, opening, legal) = honest_run a.name (lines_in history.entries) 0 0 (λ room. room ≡ room_for a.callers) history end has s.runs in
        absurd (no_full limits opening (room_for a.callers) session.lines session.allowed session.room history.entries legal o.source o.source_after session.told n s.takes)
    completes (served ships history end closing.Ended) status lines (a, same, s) is =
        let well = is_well a.name (lines_in history.entries) 0 0 (λ room. room ≡ room_for a.callers) history end
        (can (serve a.name a.callers a.ships) a.asked).0 s.runs in
        inl (is ∙ ap (λ (e : Ending). status_of (served ships history e closing.Ended)) well)
    completes (checked report) status lines cause is = inl is
    completes (settled counts) status lines cause is = inl is
    completes (tried seed count history) status lines cause is = inl is

  -- all that is promised of a call
  pub answers : (o : Outside D) (sink sink_after : SinkState) (outcome : Outcome) (status : Status) → Cause state o outcome → Tells sink sink_after outcome status → TellsLines outcome sink sink_after → Answers state o sink sink_after status
  answers o sink sink_after outcome status cause tells lines = record {
    outcome = outcome;
    tells = tells;
    lines = lines;
    cause = cause;
    completes = λ granted. completes o sink sink_after granted outcome status lines cause (tells_status sink sink_after outcome status granted.sink_quiet tells);
    tries = λ seed count asked. ends_trial state o seed count asked sink sink_after outcome status cause tells;
  }
