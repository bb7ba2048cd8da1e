-- What a step of a call answers is the cause of how the call ends.
use Rattle.std.proofs.Common.{◌≡◌, Result, Ok, Err, IsErrAnd, refl, sym, subst, inl, inr}
use Rattle.disk_trait.specs.Disk.{DiskState}
use Rattle.text_io.specs.Text.{SinkState}
use Rattle.program_words.specs.Words.{ReadsWords}
use Rattle.program_words.specs.declared.request.Unread.{Unread}
use Rattle.program_words.specs.declared.request.Unread.TheVariants as unread_words
use Rattle.tree_reading.specs.declared.found.Unreadable.{Unreadable}
use Rattle.tree_reading.specs.declared.found.Unreadable.TheVariants as unreadable
use Rattle.recover_open.specs.declared.making.NotMade.{NotMade}
use Rattle.recover_open.specs.declared.making.NotMade.TheVariants as not_made
use Rattle.blsm_run.specs.declared.outcome.Answer.{Answer}
use Rattle.blsm_run.specs.declared.outcome.Refusal.{Refusal}
use Rattle.blsm_run.specs.declared.outcome.Refusal.TheVariants as refusal
use Rattle.blsm_run.specs.Cause.{Cause, AsksInVain, HasMade, WasStopped}
use Rattle.blsm_run.specs.Outcome.{HasTold, outcome_of, refused, refusal_of_making, refusal_of_store, refusal_of_words}
use Rattle.blsm_run.specs.Outside.{Outside}

-- nothing was told before a refusal
pub not_told : (result : Result Answer Refusal) (why : Refusal) (sink : SinkState) → IsErrAnd result (λ r. r ≡ why) → HasTold (outcome_of result) sink sink
not_told (Ok answer) why sink is = absurd is
not_told (Err r) why sink is = refl

module _ {D : Type 0} (state : D → DiskState) (o : Outside D) where
  -- a refusal that is passed on
  pub passed_on : (result : Result Answer Refusal) (why : Refusal) → IsErrAnd result (λ r. r ≡ why) → Cause state o (refused why) → Cause state o (outcome_of result)
  passed_on (Ok answer) why is cause = absurd is
  passed_on (Err r) why is cause = subst (λ (r : Refusal). Cause state o (refused r)) (sym is) cause

  pub not_asked : (why : Unread) → ReadsWords o.words (Err why) → o.source_after ≡ o.source → o.shelf_after ≡ o.shelf → Cause state o (refused (refusal_of_words why))
  not_asked unread_words.Refused says unread still = (says, unread, still)
  not_asked unread_words.NoMemory says unread still = inl (unread, still)

  pub in_vain : (why : Refusal) → AsksInVain o why → Cause state o (refused why)
  in_vain refusal.SourceFault was = was
  in_vain refusal.TooBig was = was
  in_vain (refusal.BadLine n) was = was
  in_vain refusal.NoMemory was = inr (inl was)
  in_vain _ was = absurd was.0.reads

  pub not_made_so : (why : NotMade) → HasMade state o (Err why) → Cause state o (refused (refusal_of_making why))
  not_made_so (not_made.NotEmpty n) was = was
  not_made_so not_made.Fault was = inl was

  pub stopped : (why : Unreadable) → WasStopped state o why → Cause state o (refused (refusal_of_store why))
  stopped unreadable.Fault was = inr was
  stopped unreadable.NotAStore was = was
  stopped (unreadable.Damaged place) was = was
  stopped (unreadable.Worn version) was = was
  stopped unreadable.NoMemory was = inr (inr was)
