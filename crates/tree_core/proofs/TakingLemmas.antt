-- What the moves of an admission require and leave, on every disk.
use Rattle.std.specs.Prelude.{is_ok, is_err, length, OnOk, OnErr, Result}
use Rattle.std.specs.List.{AllByRecursion}
use Rattle.std.proofs.lemmas.Grind.{common_steps}
use Rattle.std.proofs.lemmas.Bool.Decides.{nat_tests}
use Rattle.std.proofs.Common.{◌≡◌, ◌∙◌, ℕ, ◌+◌, ◌≤◌, List, [], ◌∷◌, true, false, refl, ap, sym, subst, arith}
use Rattle.refusal.specs.Count.{HasRisen}
use Rattle.disk_trait.specs.Disk.{DiskState, TellsFaults}
use Rattle.disk_trait.specs.Effects.{Affects}
use Rattle.disk_trait.proofs.EffectLemmas.{affects_more}
use Rattle.disk_trait.specs.Moments.{IsTimed}
use Rattle.disk_trait.specs.Region.{IsWithin}
use Rattle.page_space.specs.PageSet.{Members}
use Rattle.scan_view.specs.Pins.{beside_pins}
use Rattle.blsm_model.specs.Geometry.{file_length}
use Rattle.blsm_model.specs.Sizes.{Sizes}
use Rattle.blsm_model.specs.declared.key.Key.{Key}
use Rattle.blsm_model.specs.declared.op.Op.{Op}
use Rattle.blsm_model.specs.declared.op.Write.{Write}
use Rattle.blsm_model.specs.Histories.{writes_of}
use Rattle.blsm_model.specs.Legal.{is_write, total_weight}
use Rattle.blsm_model.specs.Format.{least_weight}
use Rattle.blsm_model.proofs.OpLemmas.{writes_some}
use Rattle.record_delta.specs.Records.{record_of, weight}
use Rattle.record_delta.specs.Entries.{Entries, entries_weight}
use Rattle.record_delta.specs.Several.{entries_of}
use Rattle.tree_machine.specs.Stands.{FitsFormat, FitTogether}
use Rattle.tree_machine.proofs.WeightLemmas.{weigh_first, weight_of_entries, weight_of_record}
use Rattle.record_delta.specs.declared.record.Rec.{Rec}
use Rattle.tree_runs.specs.Runs.{AreRunning}
use Rattle.core_moves.specs.declared.held.Held.{Held}
use Rattle.core_moves.specs.Needs.{IsOn, WriteFits}
use Rattle.core_moves.specs.Moves.{begun_in}
use Rattle.core_pace.specs.Events.{AreWritten}
use Rattle.core_pace.proofs.WriteLemmas.{are_written}
use Rattle.tree_core.specs.Taking.{Spells, written_by}
use Rattle.tree_core.proofs.KeepLemmas.{KeepsPins}

-- ---- what a result tells

pub is_ok_of : {T E : Type 0} (r : Result T E) → is_err r ≡ false → is_ok r ≡ true
is_ok_of r h1 = grind (arith, common_steps, nat_tests)

pub ok_of : {T E P : Type 0} (r : Result T E) → is_err r ≡ false → OnOk r P → P
ok_of r h1 h2 = grind (arith, common_steps, nat_tests)

pub err_of : {T E P : Type 0} (r : Result T E) → is_err r ≡ true → OnErr r P → P
err_of r h1 h2 = grind (arith, common_steps, nat_tests)

pub calm_of : {T E : Type 0} (r : Result T E) (old new : DiskState) → is_err r ≡ false → TellsFaults r old new → new.faults ≡ old.faults
calm_of r old new h1 h2 = grind (arith, common_steps, nat_tests)

pub risen_of : {T E : Type 0} (r : Result T E) (old new : DiskState) → is_err r ≡ true → TellsFaults r old new → HasRisen old.faults new.faults
risen_of r old new h1 h2 = grind (arith, common_steps, nat_tests)

-- ---- a begin

-- a begin changes no size, not the log, and not the book
pub record BegunKeeps (old new : Held) : Type 0 where
  pub sizes : new.runs.sizes ≡ old.runs.sizes
  pub log : new.log ≡ old.log
  pub book : new.book ≡ old.book

pub begun_keeps : (w : ℕ) (held : Held) → BegunKeeps held (begun_in w held)
begun_keeps w held = grind (arith, common_steps, nat_tests)

-- and the merges are in order on the disk still
pub begun_on : (w : ℕ) (held begun : Held) (d : DiskState) → begun ≡ begun_in w held → IsOn held d → AreRunning d.is_honest d.bytes begun.runs → IsOn begun d
begun_on w held begun d is on running = record {
  running = running;
  long = λ tells. on.long tells ∙ ap file_length (sym (ap (λ (h : Held). h.runs.sizes) is ∙ (begun_keeps w held).sizes));
}

-- ---- what is written

pub fits_as : (more more' : Entries) (held held' : Held) → more' ≡ more → held' ≡ held → WriteFits more held → WriteFits more' held'
fits_as more more' held held' same_entries same fits =
    subst (λ (es : Entries). WriteFits es held') (sym same_entries) (subst (λ (h : Held). WriteFits more h) (sym same) fits)

-- writes weigh as their entries do, and are as many
pub weighs : (op : Op) → total_weight (writes_of op) ≡ entries_weight (entries_of (writes_of op))
weighs op = sym (weight_of_entries (writes_of op))

pub as_many : (ws : List Write) → length (entries_of ws) ≡ length ws
as_many [] = refl
as_many (w ∷ ws) = omega (arith, as_many ws)

-- those that fit the format take little beside their weight
entries_light : (ws : List Write) → AllByRecursion FitsFormat ws → AllByRecursion (λ e. least_weight ≤ weight e.0 e.1) (entries_of ws)
entries_light [] fit = tt
entries_light (w ∷ ws) fit = (omega (arith, fit.0.least, weight_of_record w), entries_light ws fit.1)

pub are_some : (op : Op) → is_write op ≡ true → 1 ≤ length (writes_of op)
are_some op writing = let some = writes_some op writing in omega (arith, ap (λ (ws : List Write). length ws) some.2)

pub writes_written : (op : Op) → is_write op ≡ true → FitTogether (writes_of op) → AreWritten (entries_of (writes_of op))
writes_written op writing fits =
    are_written (entries_of (writes_of op)) (omega (arith, are_some op writing, as_many (writes_of op))) (entries_light (writes_of op) fits.each)

-- what a command's key and record are
pub spelled : (op : Op) (key : Key) (rec : Rec) → Spells op key rec → entries_of (writes_of op) ≡ (key, rec) ∷ []
spelled op key rec is =
    ap entries_of is.writes ∙ ap (λ (k : Key). (k, record_of (written_by op)) ∷ []) (sym is.key_is) ∙ ap (λ (r : Rec). (key, r) ∷ []) (sym is.rec_is)

-- so what it spells weighs what it writes
pub spelled_weighs : (op : Op) (key : Key) (rec : Rec) → Spells op key rec → weight key rec ≡ total_weight (writes_of op)
spelled_weighs op key rec is = omega (arith, weighs op, ap entries_weight (spelled op key rec is), weigh_first (key, rec) [])

-- ---- the calls together

-- a run after a run that went well, by a core of the same sizes and pins
pub affects_then : (old settled : Held) {most more : ℕ} (total : ℕ) {before mid after : DiskState} → KeepsPins 0 old settled → IsTimed mid → mid.faults ≡ before.faults
    → Affects (beside_pins old.runs.sizes old.runs.space.pins) (file_length old.runs.sizes) most before mid
    → Affects (beside_pins settled.runs.sizes settled.runs.space.pins) (file_length settled.runs.sizes) more mid after → most + more ≤ total
    → Affects (beside_pins old.runs.sizes old.runs.space.pins) (file_length old.runs.sizes) total before after
affects_then old settled total {before} {mid} {after} same timed calm first second calls =
    affects_more timed calm first second
    (subst (λ (s : Sizes). IsWithin (beside_pins s settled.runs.space.pins) (beside_pins old.runs.sizes old.runs.space.pins)) (sym same.sizes)
    (subst (λ (pins : List Members). IsWithin (beside_pins old.runs.sizes pins) (beside_pins old.runs.sizes old.runs.space.pins)) (sym same.pins) (λ i here. here)))
    (omega (arith, ap file_length same.sizes)) calls
