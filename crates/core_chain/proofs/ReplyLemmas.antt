-- Each entry was noted by one of the calls, which says why it has its reply.
use Rattle.std.proofs.Common.{◌≡◌, ◌∙◌, inl, inr, ◌≤◌, List, [], ◌∷◌, ◌++◌, length, append-nil, append_assoc, length-append, refl, ap, sym, subst, arith}
use Rattle.std.proofs.lemmas.Bool.{cases_lt}
use Rattle.blsm_model.specs.declared.history.Entry.{Entry}
use Rattle.disk_trait.specs.Disk.{DiskState}
use Rattle.tree_machine.specs.declared.step.Step.{Step}
use Rattle.tree_core.specs.Calls.{AreCalls, IsCall, RepliesBecause}
use Rattle.tree_core.specs.Core.{CoreState}
use Rattle.core_chain.specs.Replies.{IsNoted}
use Rattle.core_chain.proofs.LinkLemmas.{among_more}
use Rattle.core_chain.proofs.NoteLemmas.{Notes, One, link_adds, link_notes}

-- ---- lists of which one begins with the other

same_front : {A : Type 0} (a b x y : List A) → length a ≡ length b → a ++ x ≡ b ++ y → (a ≡ b) × (x ≡ y)
same_front [] [] x y long same = (refl, same)
same_front [] (q ∷ b) x y long same = absurd (omega (arith, long))
same_front (p ∷ a) [] x y long same = absurd (omega (arith, long))
same_front {A} (p ∷ a) (q ∷ b) x y long same =
    let rest : a ++ x ≡ b ++ y = cc same in
    let head : p ≡ q = cc same in
    let both = same_front a b x y (omega (arith, long)) rest in
    (ap (λ (z : A). z ∷ a) head ∙ ap (λ (l : List A). q ∷ l) both.0, both.1)

module _ {D : Type 0} (state : D → DiskState) where
  -- ---- the chain

  -- what was noted stays
  chain_adds : (calls : List (Step × CoreState D)) (start end : CoreState D) → AreCalls state calls start end → (more : List Entry) × (end.held.book.book.entries ≡ start.held.book.book.entries ++ more)
  chain_adds [] start end are = ([], ap (λ (core : CoreState D). core.held.book.book.entries) are ∙ sym (append-nil start.held.book.book.entries))
  chain_adds (one ∷ calls) start end are =
      let first = link_adds state one.0.seat one.0.kind start one.1 are.0 in
      let rest = chain_adds calls one.1 end are.1 in
      (first.added ++ rest.0, rest.1 ∙ ap (λ (es : List Entry). es ++ rest.0) first.entries ∙ append_assoc start.held.book.book.entries first.added rest.0)

  -- it was noted behind the first call
  later : (one : Step × CoreState D) (calls : List (Step × CoreState D)) (start end : CoreState D) (front : List Entry) (e : Entry) → IsCall state one.0.seat one.0.kind start one.1 → IsNoted state calls one.1 end front e
      → IsNoted state (one ∷ calls) start end front e
  later one calls start end front e call found = record {
    step = found.step;
    old = found.old;
    new = found.new;
    among = among_more one call found.among;
    seat_is = found.seat_is;
    before = found.before;
    after = found.after;
    because = found.because;
  }

  -- or by it
  here : (one : Step × CoreState D) (calls : List (Step × CoreState D)) (start end : CoreState D) (front behind more : List Entry) (e : Entry) → IsCall state one.0.seat one.0.kind start one.1 → AreCalls state calls one.1 end
      → (noted : One state one.0.seat one.0.kind start one.1) → end.held.book.book.entries ≡ one.1.held.book.book.entries ++ more → end.held.book.book.entries ≡ front ++ e ∷ behind → length start.held.book.book.entries ≡ length front
      → IsNoted state (one ∷ calls) start end front e
  here one calls start end front behind more e call are noted adds is long =
      record {
        step = one.0;
        old = start;
        new = one.1;
        among = record { before = []; behind = calls; parts = refl; led = refl; call = call; leads = are };
        seat_is = ap (λ (x : Entry). x.seat) entry;
        before = both.0;
        after = noted.entries ∙ ap (λ (es : List Entry). es ++ its ∷ []) both.0 ∙ ap (λ (x : Entry). front ++ x ∷ []) entry;
        because = subst (λ (x : Entry). RepliesBecause state x.seat x.op x.reply start one.1) entry noted.because;
      }
    where
      its : Entry
      its = record { seat = one.0.seat; op = noted.op; reply = noted.reply }

      both : (start.held.book.book.entries ≡ front) × (its ∷ more ≡ e ∷ behind)
      both = same_front start.held.book.book.entries front (its ∷ more) (e ∷ behind) long
          (sym (adds ∙ ap (λ (es : List Entry). es ++ more) noted.entries ∙ append_assoc start.held.book.book.entries (its ∷ []) more) ∙ is)

      entry : its ≡ e
      entry = cc both.1

  -- the entry stands behind what was noted before the first call: that call noted it, or a later one
  notes_by : (one : Step × CoreState D) (calls : List (Step × CoreState D)) (start end : CoreState D) (front behind more : List Entry) (e : Entry) → IsCall state one.0.seat one.0.kind start one.1 → AreCalls state calls one.1 end
      → Notes state one.0.seat one.0.kind start one.1 → end.held.book.book.entries ≡ one.1.held.book.book.entries ++ more → end.held.book.book.entries ≡ front ++ e ∷ behind → length start.held.book.book.entries ≤ length front
      → (length one.1.held.book.book.entries ≤ length front → IsNoted state calls one.1 end front e) → IsNoted state (one ∷ calls) start end front e
  notes_by one calls start end front behind more e call are (inl same) adds is past rest =
      later one calls start end front e call (rest (omega (arith, past, ap (λ (es : List Entry). length es) same.0)))
  notes_by one calls start end front behind more e call are (inr noted) adds is past rest =
      elim (cases_lt (length start.held.book.book.entries) (length front)) [
        | inl below ↦ later one calls start end front e call
            (rest (omega (arith, below, ap (λ (es : List Entry). length es) noted.entries, length-append start.held.book.book.entries (record { seat = one.0.seat; op = noted.op; reply = noted.reply } ∷ []))))
        | inr above ↦ here one calls start end front behind more e call are noted adds is (omega (arith, above, past))
      ]

  pub chain_notes : (calls : List (Step × CoreState D)) (start end : CoreState D) (front behind : List Entry) (e : Entry) → AreCalls state calls start end → end.held.book.book.entries ≡ front ++ e ∷ behind
      → length start.held.book.book.entries ≤ length front → IsNoted state calls start end front e
  chain_notes [] start end front behind e are is past =
      let all = ap (λ (core : CoreState D). length core.held.book.book.entries) are in
      let long = ap (λ (es : List Entry). length es) is in
      absurd (omega (arith, all, long, past, length-append front (e ∷ behind)))
  chain_notes (one ∷ calls) start end front behind e are is past =
      let adds = chain_adds calls one.1 end are.1 in
      notes_by one calls start end front behind adds.0 e are.0 are.1 (link_notes state one.0.seat one.0.kind start one.1 are.0) adds.1 is past
      (λ further. chain_notes calls one.1 end front behind e are.1 is further)
