-- Commands, turn by turn.
use Rattle.std.proofs.Common.{◌≡◌, ◌∙◌, inl, inr, ℕ, ◌<◌, ◌≤◌, Bool, List, [], ◌∷◌, refl, sym, subst, arith}
use Rattle.blsm_model.specs.Facts.{Part}
use Rattle.blsm_model.specs.Format.{callers}
use Rattle.blsm_model.specs.Stored.{as_reply}
use Rattle.blsm_model.specs.declared.history.Entry.{Entry}
use Rattle.blsm_model.specs.declared.history.ShortReply.{ShortReply}
use Rattle.blsm_model.specs.declared.op.Op.{Op}
use Rattle.disk_trait.specs.Disk.{DiskState}
use Rattle.turn_lock.specs.Callers.{Held as Caller, Lock}
use Rattle.turn_lock.specs.Tallies.{IsOf}
use Rattle.turn_lock.proofs.TurnLemmas.{did_then, went_same, went_then}
use Rattle.tree_core.specs.Calls.{CameSince}
use Rattle.tree_core.specs.Core.{CoreState}
use Rattle.tree_shared.specs.Seats.{Answered, Comes, DidOn, KnowsOf, WentOn, IsFinished, IsFree, IsWorking, facts_of}
use Rattle.tree_shared.specs.Told.{IsAnswered}
use Rattle.tree_shared.specs.declared.told.Told.{Told}
use Rattle.tree_shared.specs.declared.told.Told.TheVariants as told

module _ {D : Type 0} (state : D → DiskState) where
  -- the same caller of the lock
  pub of_went : (lock : Lock (CoreState D)) (c d : Caller (CoreState D)) (es : List Entry) → IsOf lock c → WentOn state c es d → IsOf lock d
  of_went lock c d es of went = let same = went_same facts_of (CameSince state) c d es went in (same.0 ∙ of.0, same.3 ∙ of.1, same.5 of.2)

  pub number_went : (c d : Caller (CoreState D)) (es : List Entry) → WentOn state c es d → d.number ≡ c.number
  number_went c d es went = (went_same facts_of (CameSince state) c d es went).1

  -- one turn more that notes nothing
  pub went_on : (c d e : Caller (CoreState D)) → WentOn state c [] d → DidOn state d [] e → WentOn state c [] e
  went_on c d e went did = inr (went_then facts_of (CameSince state) c d e [] [] went did)

  pub did_on : (c d e : Caller (CoreState D)) → WentOn state c [] d → DidOn state d [] e → DidOn state c [] e
  did_on c d e went did = went_then facts_of (CameSince state) c d e [] [] went did

  -- an entry, and then turns that note nothing
  pub did_paid : (c d e : Caller (CoreState D)) (entry : Entry) → DidOn state c (entry ∷ []) d → DidOn state d [] e → DidOn state c (entry ∷ []) e
  did_paid c d e entry one two = did_then facts_of (CameSince state) c d e (entry ∷ []) [] one two

  -- turns that note nothing, and then an entry
  pub did_ended : (c d e : Caller (CoreState D)) (entry : Entry) → WentOn state c [] d → DidOn state d (entry ∷ []) e → DidOn state c (entry ∷ []) e
  did_ended c d e entry one two = went_then facts_of (CameSince state) c d e [] (entry ∷ []) one two

  -- a command that is answered what it tells
  pub answered : (op given : Op) (short : ShortReply) (c d : Caller (CoreState D)) → op ≡ given → Answered state given (as_reply short) c d → IsAnswered state op (told.Short short) c d
  answered op given short c d is answers = (as_reply short, refl, subst (λ (o : Op). Answered state o (as_reply short) c d) (sym is) answers)

  pub answered_as : (op given : Op) (answer : Told) (c d : Caller (CoreState D)) → op ≡ given → IsAnswered state given answer c d → IsAnswered state op answer c d
  answered_as op given answer c d is answers = subst (λ (o : Op). IsAnswered state o answer c d) (sym is) answers

  -- who went on knows something else
  pub comes_on : {P Q : Bool → Part → Type 0} {lock : Lock (CoreState D)} {c d : Caller (CoreState D)} (es : List Entry) → Comes lock P c → WentOn state c es d → KnowsOf Q d → Comes lock Q d
  comes_on {P} {Q} {lock} {c} {d} es comes went knows = record { of_lock = of_went lock c d es comes.of_lock went; number = subst (λ (n : ℕ). n < callers) (sym (number_went c d es went)) comes.number; knows = knows }

-- all its turns were made
pub works_all : {D : Type 0} (n entries rows : ℕ) (c : Caller (CoreState D)) → KnowsOf (IsWorking n entries rows) c → KnowsOf (IsFinished n entries rows) c
works_all n entries rows c k = record { value = k.value; more = k.more; own = k.own; part = (k.part.0, inl k.part.1, k.part.2) }

-- with less room asked for
pub frees_less : {D : Type 0} (entries rows fewer less : ℕ) (c : Caller (CoreState D)) → fewer ≤ entries → less ≤ rows → KnowsOf (IsFree entries rows) c → KnowsOf (IsFree fewer less) c
frees_less entries rows fewer less c a b k = record { value = k.value; more = k.more; own = k.own; part = ((omega (arith, a, k.part.0.0), omega (arith, b, k.part.0.1)), k.part.1, k.part.2) }
