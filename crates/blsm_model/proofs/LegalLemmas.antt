-- What a legal history keeps: each entry may follow on those before it, one entry at most stops the store, and a stopped
-- store answers nothing else, with one why.
use Rattle.std.proofs.lemmas.Bool.Decides.{nat_tests}
use Rattle.std.proofs.lemmas.Grind.{common_steps}
use Rattle.std.proofs.Common.{arith, ◌≡◌, ℕ, ◌++◌, List, [], ◌∷◌, Bool, true, false, not, ◌||◌, refl, ap, sym, subst, append-nil}
use Rattle.std.specs.List.{list_all, AllByRecursion}
use Rattle.blsm_model.specs.declared.row.Value.{Value}
use Rattle.blsm_model.specs.declared.op.Op.{Op}
use Rattle.blsm_model.specs.declared.history.Why.{Why}
use Rattle.blsm_model.specs.declared.history.Reply.{Reply}
use Rattle.blsm_model.specs.declared.history.Reply.TheVariants.{Stopped}
use Rattle.blsm_model.specs.declared.history.Entry.{Entry}
use Rattle.blsm_model.specs.Legal.{Limits, MayReply, MayFail, NamesNoOther, FollowsOn, IsLegal, is_running, none_stopping, is_stopping, is_stopped, is_work, FollowsStop}

abbrev Pairs : Type 0
Pairs = List (List ℕ × Value)

follows_at : (limits : Limits) (opening : Pairs) (done before : List Entry) (e : Entry) (more : List Entry) → FollowsOn limits opening done (before ++ e ∷ more) → MayReply limits opening (done ++ before) e.seat e.op e.reply
follows_at limits opening done [] e more legal = subst (λ h. MayReply limits opening h e.seat e.op e.reply) (sym (append-nil done)) legal.0
follows_at limits opening done (d ∷ ds) e more legal = grind (arith, common_steps, nat_tests, follows_at limits opening (done ++ d ∷ []) ds e more legal.1)

-- each entry of a legal history may come after those before it
pub legal_at : (limits : Limits) (opening : Pairs) (before : List Entry) (e : Entry) (more : List Entry) → IsLegal limits opening (before ++ e ∷ more) → MayReply limits opening before e.seat e.op e.reply
legal_at limits opening before e more legal = follows_at limits opening [] before e more legal

-- a test that one entry fails doesn't hold of all
one_fails : (p : Entry → Bool) (before : List Entry) (e : Entry) (more : List Entry) → p e ≡ false → list_all p (before ++ e ∷ more) ≡ true → ⊥
one_fails p before e more fails all = grind (arith, common_steps, nat_tests)

-- not running, where an entry before shows a stop
not_running : (before : List Entry) (e : Entry) (more : List Entry) → (is_stopping e.op e.reply || is_stopped e.reply) ≡ true → is_running (before ++ e ∷ more) ≡ true → ⊥
not_running before e more stop running = one_fails (λ k. not (is_stopping k.op k.reply || is_stopped k.reply)) before e more (ap not stop) running

reply_stopped : (limits : Limits) (opening : Pairs) (before : List Entry) (seat : ℕ) (op : Op) (reply : Reply) → (is_running before ≡ true → ⊥) → MayReply limits opening before seat op reply → FollowsStop op reply
reply_stopped limits opening before seat op reply h1 h2 = grind (arith, common_steps, nat_tests)

-- after an entry that shows a stop each entry is Stopped, but for a work that stops the store itself
pub stays_stopped : (limits : Limits) (opening : Pairs) (before : List Entry) (e : Entry) (between : List Entry) (f : Entry) (more : List Entry) →
    IsLegal limits opening ((before ++ e ∷ between) ++ f ∷ more) → (is_stopping e.op e.reply || is_stopped e.reply) ≡ true → FollowsStop f.op f.reply
stays_stopped limits opening before e between f more legal stop = grind (arith, common_steps, nat_tests, reply_stopped, not_running, legal_at)

may_fail_once : (before : List Entry) (op : Op) (reply : Reply) → is_stopping op reply ≡ is_work op → is_stopping op reply ≡ true → MayFail before op → none_stopping before ≡ true
may_fail_once before op reply h1 h2 h3 = grind (arith, common_steps, nat_tests)

running_none : (before : List Entry) → is_running before ≡ true → none_stopping before ≡ true
running_none [] running = refl
running_none (e ∷ es) running = grind (arith, common_steps, nat_tests, running_none es)

reply_once : (limits : Limits) (opening : Pairs) (before : List Entry) (seat : ℕ) (op : Op) (reply : Reply) → is_stopping op reply ≡ true → MayReply limits opening before seat op reply → none_stopping before ≡ true
reply_once limits opening before seat op reply h1 h2 = grind (arith, common_steps, nat_tests, may_fail_once, running_none)

-- at most one entry stops the store
pub stops_once : (limits : Limits) (opening : Pairs) (before : List Entry) (e : Entry) (between : List Entry) (f : Entry) (more : List Entry) →
    IsLegal limits opening ((before ++ e ∷ between) ++ f ∷ more) → is_stopping e.op e.reply ≡ true → is_stopping f.op f.reply ≡ true → ⊥
stops_once limits opening before e between f more legal first second = grind (arith, common_steps, nat_tests, one_fails, reply_once, legal_at)

named_there : (why : Why) (before : List Entry) (e : Entry) (more : List Entry) → AllByRecursion (λ k. NamesNoOther why k.reply) (before ++ e ∷ more) → NamesNoOther why e.reply
named_there why [] e more all = all.0
named_there why (b ∷ bs) e more all = named_there why bs e more all.1

-- all stopped replies name one why
pub one_why : (limits : Limits) (opening : Pairs) (before : List Entry) (e : Entry) (between : List Entry) (f : Entry) (more : List Entry) (first second : Why) →
    IsLegal limits opening ((before ++ e ∷ between) ++ f ∷ more) → e.reply ≡ Stopped first → f.reply ≡ Stopped second → first ≡ second
one_why limits opening before e between f more first second legal at_e at_f =
    let may : MayReply limits opening (before ++ e ∷ between) f.seat f.op (Stopped second) = subst (λ r. MayReply limits opening (before ++ e ∷ between) f.seat f.op r) at_f (legal_at limits opening (before ++ e ∷ between) f more legal) in
    let none : NamesNoOther second (Stopped first) = subst (λ r. NamesNoOther second r) at_e (named_there second before e between may) in
    none

-- one why for all, over a history that grows at the end
pub named_push : (why : Why) (history : List Entry) (entry : Entry) → AllByRecursion (λ e. NamesNoOther why e.reply) history → NamesNoOther why entry.reply → AllByRecursion (λ e. NamesNoOther why e.reply) (history ++ entry ∷ [])
named_push why [] entry all one = (one, tt)
named_push why (e ∷ es) entry all one = (all.0, named_push why es entry all.1 one)

-- while the store runs no why is named
pub named-running : (why : Why) (history : List Entry) → is_running history ≡ true → AllByRecursion (λ e. NamesNoOther why e.reply) history
named-running why [] running = tt
named-running why (e ∷ es) running = grind (arith, common_steps, nat_tests, named-running why es)
